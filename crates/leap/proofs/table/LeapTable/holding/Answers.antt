use Rattle.std.proofs.Common.{◌≡◌, ◌-◌, List, length, take, replicate, refl, sym, ap, ◌∙◌, arith, length-append}
use Rattle.std.proofs.lemmas.List.{take_at, length-replicate}
use Rattle.leap.specs.declared.entry.Entry.{Entry}
use Rattle.leap.specs.Table.{most_entries}
use Rattle.leap.specs.Room.{blank, padded}
use Rattle.leap.proofs.Saying.{sound_passes}
use Rattle.leap.proofs.table.LeapTable.holding.Goals as goal

-- the entries in use are those that were given
in_use : (es held : List Entry) → held ≡ padded es → take (length es) held ≡ es
in_use es held e = ap (take (length es)) e ∙ take_at es (replicate (most_entries - length es) blank) (length es) refl

pub invariant_of-result : goal.invariant_of-result
invariant_of-result c =
    let es = c.args.entries.now in
    let s = c.requires in
    let e = in_use es c.padded.result c.padded.ensures in
    record {
      sized = ap length c.padded.ensures ∙ simp (length-append, length-replicate) (omega arith);
      low = s.some;
      high = s.room;
      filled = ap padded e ∙ sym c.padded.ensures;
      keeps = rw e (sound_passes es c.args.expiry s);
    }
