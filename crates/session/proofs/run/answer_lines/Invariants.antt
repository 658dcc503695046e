use Rattle.std.proofs.Common.{◌≡◌, List, take, vec_items}
use Rattle.calls.specs.declared.event.LicenceEvent.{LicenceEvent}
use Rattle.order.specs.Desk.{Event}
use Rattle.wire.specs.Lines.{lines_from, input_limit}
use Rattle.joiner.specs.Joiner.{desk_of}
use Rattle.session.proofs.Runs.{GoesOn}
use Rattle.session.proofs.run.answer_lines.Given as goal

abbrev pub invariant-loop-line : goal.invariant-loop-line
invariant-loop-line g l = record {
  kept : l.joiner.bank ≡ l.initial.joiner.bank;
  run : (vs : List (Event LicenceEvent)) × GoesOn (g.B.Bank.meaning l.initial.joiner.bank) (desk_of l.initial.joiner l.initial.shelf.slots.now) (take input_limit l.input)
      (vec_items l.out) vs (desk_of l.joiner l.shelf.slots.now) (lines_from l.line-iterator.input.now l.line-iterator.place);
}
