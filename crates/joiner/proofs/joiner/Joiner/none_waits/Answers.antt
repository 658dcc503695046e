use Rattle.joiner.specs.Joiner.{state_of}
use Rattle.joiner.proofs.Taking.{idle_named}
use Rattle.joiner.proofs.joiner.Joiner.none_waits.Goals as goal

pub returns-in-Some : goal.returns-in-Some
returns-in-Some g c = idle_named _ (state_of c.args.self.now) c.in-Some.feed c.idle_count.result c.idle_count.ensures c.in-Some.ensures
