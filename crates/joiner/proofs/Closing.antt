-- What close answers, and what it leaves of the feeds and of the queue.
use Rattle.std.proofs.Common.{◌≡◌, ℕ, Bool, cond, List, length, set, Some, Ok, Err, sym, refl, ap, ◌∙◌}
use Rattle.std.specs.List.{slice_get}
use Rattle.std.proofs.lemmas.Bool.{lt-leb}
use Rattle.std.proofs.lemmas.Option.{get_or_from_slice_get, slice_get_within}
use Rattle.refusals.specs.Said.{Said, plain}
use Rattle.order.specs.declared.state.FeedState.{FeedState}
use Rattle.order.specs.declared.state.FeedState.TheVariants.{Idle, Holding, Closing, Closed}
use Rattle.order.specs.Desk.{State, feed_state, close_at, close_plan}
use Rattle.order.specs.Queue.{has_record}
use Rattle.order.proofs.Queues.{Waiting, close_waiting}
use Rattle.order.proofs.Steps.{ok≢err}
use Rattle.joiner.specs.declared.moves.Move.TheVariants.{Close}
use Rattle.joiner.specs.Moves.{changed, change_answer}

-- a feed of the joiner's is closed by its state
close_somewhere : (s : State) (f : ℕ) (v : FeedState) → slice_get s.feeds f ≡ Some v → close_plan s f ≡ close_at v
close_somewhere s f v at =
    ap (λ (b : Bool). cond b (Err (plain 4)) (close_at (feed_state s f))) (lt-leb (length s.feeds) f (slice_get_within s.feeds f v at))
    ∙ ap close_at (get_or_from_slice_get s.feeds f v Closed at)

module _ (v : FeedState) (ok : Ok tt ≡ change_answer v Close) where
  closes : close_at v ≡ Ok (changed v Close)
  closes = go v ok
    where
      go : (w : FeedState) → Ok tt ≡ change_answer w Close → close_at w ≡ Ok (changed w Close)
      go Idle q = refl
      go (Holding t) q = refl
      go (Closing t) q = absurd (ok≢err q)
      go Closed q = absurd (ok≢err q)

  pub close_keeps : has_record (changed v Close) ≡ has_record v
  close_keeps = go v ok
    where
      go : (w : FeedState) → Ok tt ≡ change_answer w Close → has_record (changed w Close) ≡ has_record w
      go Idle q = refl
      go (Holding t) q = refl
      go (Closing t) q = absurd (ok≢err q)
      go Closed q = absurd (ok≢err q)

  pub close_waits : (xs ys : List FeedState) (q : List ℕ) (f : ℕ) → slice_get xs f ≡ Some v → Waiting xs q → ys ≡ set xs f (changed v Close) → Waiting ys q
  close_waits xs ys q f at waiting a =
      rw a (close_waiting xs q f waiting (changed v Close) (slice_get_within xs f v at) (close_keeps ∙ ap has_record (sym (get_or_from_slice_get xs f v Closed at))))

  pub close_done : (s : State) (f : ℕ) → slice_get s.feeds f ≡ Some v → close_plan s f ≡ Ok (changed v Close)
  close_done s f at = close_somewhere s f v at ∙ closes

-- a close that is refused
pub close_refused : (s : State) (f : ℕ) (v : FeedState) → Some v ≡ slice_get s.feeds f → (z : Said) → Err z ≡ change_answer v Close → close_plan s f ≡ Err z
close_refused s f v at z e = close_somewhere s f v (sym at) ∙ go v e
  where
    go : (w : FeedState) → Err z ≡ change_answer w Close → close_at w ≡ Err z
    go Idle q = absurd (ok≢err (sym q))
    go (Holding t) q = absurd (ok≢err (sym q))
    go (Closing t) q = cc
    go Closed q = cc
