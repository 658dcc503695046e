use Rattle.std.proofs.Common.{◌≡◌, ◌+◌, ◌-◌, ◌^◌, ◌∙◌, arith}
use Rattle.leap.specs.Table.{off, len, day_seconds}
use Rattle.leap.proofs.Offsets.{off_cut, len_most, len_least}
use Rattle.leap.proofs.table.LeapTable.day_length.Goals as goal

pub returns : goal.returns
returns c =
    let t = c.args.self.now in
    let s = c.offset_on.ensures.sound in
    let d = c.args.day in
    let x = s.expires in
    let next : c.offset_on-next.result ≡ off t (d + 1) = c.offset_on-next.ensures.is ∙ off_cut t s (d + 1) c.saturating_add.result (2 ^ 32 - 1) (omega arith) c.saturating_add.ensures in
    let here : c.offset_on.result ≡ off t d = c.offset_on.ensures.is in
    let is : day_seconds + c.offset_on-next.result - c.offset_on.result ≡ len t d = omega arith in
    record { is = is; most = rw is (len_most t s d); least = rw is (len_least t s d); sound = s }
