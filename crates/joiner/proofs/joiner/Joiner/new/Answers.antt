use Rattle.std.proofs.Common.{◌≡◌, ℕ, List, [], replicate, subst}
use Rattle.leap.specs.Starting.{starting}
use Rattle.leap.specs.Table.{Sound}
use Rattle.order.specs.declared.state.FeedState.{FeedState}
use Rattle.order.specs.declared.state.FeedState.TheVariants.{Idle}
use Rattle.order.proofs.Queues.{Waiting, made_waiting}
use Rattle.order.proofs.Whole.{order_kept}
use Rattle.joiner.proofs.joiner.Joiner.new.Goals as goal

-- feeds that are all idle, and a queue that is empty, belong together
idle_waits : (n : ℕ) (xs : List FeedState) (q : List ℕ) → xs ≡ replicate n Idle → q ≡ [] → Waiting xs q
idle_waits n xs q e f = rw (e, f) (made_waiting n)

pub invariant_of-result-clause-counted : goal.invariant_of-result-clause-counted
invariant_of-result-clause-counted g c = (idle_waits _ _ _ c.all_idle.ensures c.new.ensures).0

pub invariant_of-result-clause-queued : goal.invariant_of-result-clause-queued
invariant_of-result-clause-queued g c = (idle_waits _ _ _ c.all_idle.ensures c.new.ensures).1

pub returns-clause-promise : goal.returns-clause-promise
returns-clause-promise g c =
    order_kept (g.B.Bank.meaning c.args.bank) (g.B.Bank.lawful c.args.bank) starting (subst Sound c.starting.ensures.is c.starting.ensures.sound) c.args.shelf.now.slots.now
