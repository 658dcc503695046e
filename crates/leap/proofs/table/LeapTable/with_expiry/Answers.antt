use Rattle.std.proofs.Common.{take, ap, arith}
use Rattle.leap.specs.Table.{Table}
use Rattle.leap.specs.Held.{shown}
use Rattle.leap.proofs.Saying.{held_sound, sound_passes}
use Rattle.leap.proofs.Bulletins.{extended_sound}
use Rattle.leap.proofs.table.LeapTable.with_expiry.Goals as goal

pub invariant_of-result : goal.invariant_of-result
invariant_of-result c =
    let t = c.self.inside in
    let h = c.self.invariant in
    let s = extended_sound (shown t) (held_sound t h) c.args.expiry (omega (arith, ap (λ (u : Table). u.expiry) c.self.view_is)) c.requires.ends in
    record { sized = h.sized; low = h.low; high = h.high; filled = h.filled; keeps = sound_passes (take t.count t.entries) c.args.expiry s }
