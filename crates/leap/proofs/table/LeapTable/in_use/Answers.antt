use Rattle.leap.proofs.Saying.{table_sound}
use Rattle.leap.proofs.table.LeapTable.in_use.Goals as goal

pub returns-clause-sound : goal.returns-clause-sound
returns-clause-sound c = table_sound c.self.inside c.args.self.now c.self.invariant c.self.view_is
