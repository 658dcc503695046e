use Rattle.std.proofs.Common.{◌≡◌, ◌-◌, length, take, sym, refl, ap, ◌∙◌, arith}
use Rattle.std.proofs.lemmas.List.{get_or-take}
use Rattle.leap.specs.declared.entry.Entry.{Entry}
use Rattle.leap.specs.Table.{at}
use Rattle.leap.specs.Held.{shown}
use Rattle.leap.specs.Room.{blank}
use Rattle.leap.specs.Bulletin.{last_offset}
use Rattle.leap.proofs.Saying.{held_sound, table_sound, table_length}
use Rattle.leap.proofs.table.LeapTable.last_offset.Goals as goal

pub returns-clause-range : goal.returns-clause-range
returns-clause-range c =
    let t = c.self.inside in
    let h = c.self.invariant in
    let es = take t.count t.entries in
    let n : length es ≡ t.count = table_length t (shown t) h refl in
    let e : length es - 1 ≡ t.count - 1 = omega arith in
    let is : (at t.entries (t.count - 1)).offset ≡ last_offset (shown t) =
    ap (λ (x : Entry). x.offset) (sym (ap (at es) e ∙ get_or-take t.count t.entries (t.count - 1) blank (omega (arith, h.low)))) in
    rw is ((held_sound t h).range (length es - 1) (omega (arith, h.low)))

pub returns-clause-sound : goal.returns-clause-sound
returns-clause-sound c = table_sound c.self.inside c.args.self.now c.self.invariant c.self.view_is
