use Rattle.std.proofs.Common.{ap, ◌∙◌}
use Rattle.clocks.specs.Banks.{BankMeaning, bank_shows}
use Rattle.standard.proofs.bank.show_standard.Goals as goal

pub returns : goal.returns
returns c = c.show.ensures ∙ ap (λ (m : BankMeaning). bank_shows m c.args.table.now c.args.feed c.args.tick) c.standard_bank.ensures.means
