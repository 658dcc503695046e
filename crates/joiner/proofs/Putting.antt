-- What put answers, and what it leaves of the feeds and of the queue.
use Rattle.std.proofs.Common.{◌≡◌, ℕ, ◌<◌, ◌≤◌, Bool, false, cond, leb, List, [], ◌∷◌, ◌++◌, length, get_or, set, Some, Ok, Err, Result, sym, refl, ap, ◌∙◌, ap₂, arith}
use Rattle.std.specs.List.{slice_get}
use Rattle.std.proofs.lemmas.Bool.{lt-leb, le-ltb}
use Rattle.std.proofs.lemmas.Option.{get_or_from_slice_get, slice_get_within}
use Rattle.refusals.specs.declared.refusal.Refusal.{Refusal}
use Rattle.refusals.specs.Said.{Said, plain, told}
use Rattle.clocks.specs.Counts.{most_feeds}
use Rattle.clocks.specs.Forms.{Stamp}
use Rattle.clocks.specs.Banks.{BankMeaning}
use Rattle.order.specs.declared.state.FeedState.{FeedState}
use Rattle.order.specs.declared.state.FeedState.TheVariants.{Idle, Holding, Closing, Closed}
use Rattle.order.specs.Desk.{State, feed_state, put_at, put_answer}
use Rattle.order.specs.Queue.{has_record}
use Rattle.order.proofs.Queues.{Waiting, put_room, put_waiting}
use Rattle.order.proofs.Steps.{ok≢err}
use Rattle.joiner.specs.declared.moves.Move.TheVariants.{Put}
use Rattle.joiner.specs.Moves.{changed, change_answer}

-- a feed that is put to was idle
pub was_idle : (v : FeedState) (r : Result ℕ Refusal) → Ok tt ≡ change_answer v (Put r) → v ≡ Idle
was_idle Idle r e = refl
was_idle (Holding t) r e = absurd (ok≢err e)
was_idle (Closing t) r e = absurd (ok≢err e)
was_idle Closed r e = absurd (ok≢err e)

-- an accepted record of tick t waits last in the queue
module _ (xs : List FeedState) (q : List ℕ) (f t : ℕ) (v : FeedState) (r : Result ℕ Refusal) (at : slice_get xs f ≡ Some v) (ok : Ok tt ≡ change_answer v (Put r)) (waiting : Waiting xs q) where
  none : has_record (get_or xs f Closed) ≡ false
  none = ap has_record (get_or_from_slice_get xs f v Closed at ∙ was_idle v r ok)

  pub room_for_one : length xs ≤ most_feeds → length q < most_feeds
  room_for_one few = let room = put_room xs q f waiting (slice_get_within xs f v at) none in omega arith

  pub put_waits : (ys : List FeedState) (p : List ℕ) → r ≡ Ok t → ys ≡ set xs f (changed v (Put r)) → p ≡ q ++ f ∷ [] → Waiting ys p
  put_waits ys p e a b =
      let holds : changed v (Put r) ≡ Holding t = ap₂ changed (was_idle v r ok) (ap Put e) in
      rw (a, b, holds) (put_waiting xs q f waiting (slice_get_within xs f v at) none (Holding t) refl)

module _ (m : BankMeaning) (s : State) (k f : ℕ) (p : Stamp) (room : length s.feeds ≤ k) (v : FeedState) (at : slice_get s.feeds f ≡ Some v) where
  somewhere : put_answer m s k f p ≡ put_at m s f p v
  somewhere =
      ap (λ (b : Bool). cond b (Err (plain 3)) (cond (leb (length s.feeds) f) (Err (plain 4)) (put_at m s f p (feed_state s f)))) (le-ltb k (length s.feeds) room)
      ∙ ap (λ (b : Bool). cond b (Err (plain 4)) (put_at m s f p (feed_state s f))) (lt-leb (length s.feeds) f (slice_get_within s.feeds f v at))
      ∙ ap (put_at m s f p) (get_or_from_slice_get s.feeds f v Closed at)

  -- what the stamp reads as, for a feed that may be put to
  module _ (reading : Result ℕ Refusal) (reads : told reading ≡ put_at m s f p Idle) where
    pub put_accepted : Ok tt ≡ change_answer v (Put reading) → told reading ≡ put_answer m s k f p
    put_accepted e = reads ∙ sym (somewhere ∙ ap (put_at m s f p) (was_idle v reading e))

    pub put_refused : (z : Said) → Err z ≡ change_answer v (Put reading) → Err z ≡ put_answer m s k f p
    put_refused z e = go v e ∙ sym somewhere
      where
        at_idle : (r : Result ℕ Refusal) → told r ≡ put_at m s f p Idle → Err z ≡ change_answer Idle (Put r) → Err z ≡ put_at m s f p Idle
        at_idle (Ok t) h q = absurd (ok≢err (sym q))
        at_idle (Err r) h q = cc

        go : (w : FeedState) → Err z ≡ change_answer w (Put reading) → Err z ≡ put_at m s f p w
        go Idle q = at_idle reading reads q
        go (Holding t) q = cc
        go (Closing t) q = cc
        go Closed q = cc
