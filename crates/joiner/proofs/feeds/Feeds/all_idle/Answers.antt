use Rattle.std.proofs.Common.{◌≡◌, ℕ, List, ◌-◌, ◌^◌, take, sym, ap, ◌∙◌, subst, length, ◌≤◌, arith}
use Rattle.std.proofs.lemmas.List.{take-replicate, length-replicate}
use Rattle.std.proofs.lemmas.Nat.{one_shl}
use Rattle.order.specs.declared.state.FeedState.{FeedState}
use Rattle.order.specs.declared.state.FeedState.TheVariants.{Idle}
use Rattle.order.specs.Queue.{idle_mask}
use Rattle.order.proofs.Masks.{all_masked}
use Rattle.joiner.proofs.feeds.Feeds.all_idle.Goals as goal
use Rattle.joiner.proofs.feeds.Feeds.all_idle.Goals.{then-count-lt-PLACES, else-count-lt-PLACES}

pub returns : goal.returns
returns c = c.truncate.ensures.items ∙ ap (take c.args.count) c.from_array_in-states.ensures.items ∙ take-replicate c.args.count 64 Idle c.requires

pub invariant_of-result : goal.invariant_of-result
invariant_of-result c =
    let n = c.args.count in
    let row = returns c in
    let mask : c.if-count-lt-PLACES.idle ≡ 2 ^ n - 1 =
    elim c.if-count-lt-PLACES.branch [
      | then-count-lt-PLACES w ↦ w.idle-is ∙ ap (λ (x : ℕ). x - 1) (one_shl n 64 w.if-count-lt-PLACES.true)
      | else-count-lt-PLACES w ↦ let e : n ≡ 64 = omega (arith, w.if-count-lt-PLACES.false) in w.idle-is ∙ ap (λ (x : ℕ). 2 ^ x - 1) (sym e)
    ] in
    subst (λ (xs : List FeedState). (length xs ≤ 64) × (c.if-count-lt-PLACES.idle ≡ idle_mask xs)) (sym row) (omega (arith, length-replicate n Idle), mask ∙ sym (all_masked n))
