use Rattle.std.proofs.Common.{◌≡◌, ◌<◌, [], ◌∷◌, ◌++◌, length, take, refl, sym, subst, arith, length-set}
use Rattle.std.proofs.lemmas.List.{take_more_set}
use Rattle.leap.specs.Table.{Table}
use Rattle.leap.specs.Held.{shown}
use Rattle.leap.specs.Bulletin.{Appendable}
use Rattle.leap.proofs.Blanks.{padded_more}
use Rattle.leap.proofs.Saying.{held_sound, table_length, sound_passes}
use Rattle.leap.proofs.Bulletins.{appended_sound}
use Rattle.leap.proofs.table.LeapTable.with_entry.Goals as goal

pub invariant_of-result : goal.invariant_of-result
invariant_of-result c =
    let t = c.self.inside in
    let h = c.self.invariant in
    let fits = subst (λ (u : Table). Appendable u c.args.entry c.args.expiry) (sym c.self.view_is) c.requires in
    let n : length (take t.count t.entries) ≡ t.count = table_length t (shown t) h refl in
    let room : t.count < length t.entries = omega (arith, fits.room, h.sized) in
    record {
      sized = simp length-set h.sized;
      low = omega arith;
      high = omega (arith, fits.room);
      filled = padded_more t.entries t.count c.args.entry room h.sized h.filled;
      keeps = rw take_more_set (sound_passes (take t.count t.entries ++ c.args.entry ∷ []) c.args.expiry (appended_sound (shown t) (held_sound t h) c.args.entry c.args.expiry fits));
    }
