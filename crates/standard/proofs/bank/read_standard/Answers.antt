use Rattle.std.proofs.Common.{ap, ◌∙◌}
use Rattle.clocks.specs.Banks.{BankMeaning, bank_reads}
use Rattle.standard.proofs.bank.read_standard.Goals as goal

pub returns : goal.returns
returns c = c.read.ensures ∙ ap (λ (m : BankMeaning). bank_reads m c.args.table.now c.args.feed c.args.stamp) c.standard_bank.ensures.means
