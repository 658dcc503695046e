use Rattle.std.proofs.Common.{length, ap, ◌∙◌}
use lib.Count.{ones}
use Rattle.std.specs.List.{filter}
use Rattle.order.specs.Queue.{is_idle}
use Rattle.order.proofs.Masks.{idle_ones}
use Rattle.joiner.proofs.feeds.Feeds.idle_count.Goals as goal

pub returns : goal.returns
returns c = ap ones c.self.invariant.1 ∙ idle_ones c.self.inside.states.items ∙ ap (λ xs. length (filter is_idle xs)) c.self.view_is
