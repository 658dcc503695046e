use Rattle.std.proofs.Common.{List, ◌++◌, length, replicate, drop, ap, ◌∙◌}
use Rattle.std.proofs.lemmas.List.{drop-replicate}
use Rattle.leap.specs.declared.entry.Entry.{Entry}
use Rattle.leap.specs.Table.{most_entries}
use Rattle.leap.specs.Room.{blank}
use Rattle.leap.proofs.room.padded.Goals as goal

pub returns : goal.returns
returns c =
    let n = length c.args.entries.now in
    ap (λ (es : List Entry). es ++ drop n (replicate most_entries blank)) c.copy_from_slice.ensures.after
    ∙ ap (λ (es : List Entry). c.args.entries.now ++ es) (drop-replicate n most_entries blank)
