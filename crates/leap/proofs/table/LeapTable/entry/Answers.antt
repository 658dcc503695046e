use Rattle.std.proofs.Common.{arith}
use Rattle.std.proofs.lemmas.Grind.{common_steps}
use Rattle.std.proofs.lemmas.Option.{gets}
use Rattle.leap.proofs.table.LeapTable.entry.Goals as goal

pub returns-clause-is : goal.returns-clause-is
returns-clause-is c = rw (← c.in_use.ensures.is) (grind (arith, common_steps, gets))
