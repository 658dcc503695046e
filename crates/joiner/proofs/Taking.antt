-- What take answers, and what it leaves of the feeds and of the queue.
use Rattle.std.proofs.Common.{◌≡◌, ℕ, zero, suc, ◌<◌, ◌≤◌, Bool, true, false, cond, List, [], ◌∷◌, length, get_or, set, Some, None, Ok, Err, Result, sym, refl, ap, ◌∙◌, subst, arith}
use Rattle.std.specs.List.{slice_get}
use Rattle.std.proofs.lemmas.Bool.{le-ltb}
use Rattle.std.proofs.lemmas.Option.{get_or_from_slice_get, slice_get-get_or, slice_get_within, none-some, cond_some}
use Rattle.refusals.specs.Said.{Said, none_waits}
use Rattle.calls.specs.declared.call.Handed.{Handed}
use Rattle.order.specs.declared.state.FeedState.{FeedState}
use Rattle.order.specs.declared.state.FeedState.TheVariants.{Idle, Holding, Closing, Closed}
use Rattle.order.specs.Desk.{State, feed_state, held, released, rest, TakeAnswer, take_if_short, take_at, after_take, idle_count, waits_none}
use Rattle.order.specs.Queue.{has_record, Queued, Counted}
use Rattle.order.proofs.Masks.{some_idle}
use Rattle.order.proofs.Queues.{Waiting, queued_less, head_inside, take_waiting}
use Rattle.joiner.specs.declared.moves.Move.TheVariants.{Take}
use Rattle.joiner.specs.Moves.{changed}

-- the queue begins with its first
pub begins : (q : List ℕ) (f : ℕ) → Some f ≡ slice_get q 0 → q ≡ f ∷ rest q
begins [] f e = absurd (none-some f (sym e))
begins (x ∷ q) f e = let s : f ≡ x = cc in ap (λ (z : ℕ). z ∷ q) (sym s)

pub released_as : (v : FeedState) → changed v Take ≡ released v
released_as Idle = refl
released_as (Holding t) = refl
released_as (Closing t) = refl
released_as Closed = refl

released_none : (v : FeedState) → has_record (released v) ≡ false
released_none Idle = refl
released_none (Holding t) = refl
released_none (Closing t) = refl
released_none Closed = refl

-- the feed that waits longest is one of the joiner's, and has a record
module _ (xs : List FeedState) (q : List ℕ) (f : ℕ) (head : Some f ≡ slice_get q 0) (waiting : Waiting xs q) where
  led : Waiting xs (f ∷ rest q)
  led = subst (Waiting xs) (begins q f head) waiting

  pub has_state : slice_get xs f ≡ None → ⊥
  has_state e = none-some (get_or xs f Closed) (sym e ∙ slice_get-get_or xs f Closed (head_inside xs f (rest q) led).0)

  module _ (v : FeedState) (at : slice_get xs f ≡ Some v) where
    holds : has_record v ≡ true
    holds = ap has_record (sym (get_or_from_slice_get xs f v Closed at)) ∙ (head_inside xs f (rest q) led).1

    pub has_tick : cond (has_record v) (Some (held v)) None ≡ None → ⊥
    has_tick e = none-some (held v) (sym e ∙ ap (λ b. cond b (Some (held v)) None) holds)

    pub take_waits : (ys : List FeedState) (p : List ℕ) → ys ≡ set xs f (changed v Take) → p ≡ rest q → Waiting ys p
    take_waits ys p a b = rw (a, b, released_as v) (take_waiting xs f (rest q) (released v) (released_none v) led)

-- where its record leaves, the queue still has each feed with a record once, and is as long as there are such feeds
module _ (xs : List FeedState) (q : List ℕ) (f : ℕ) (head : Some f ≡ slice_get q 0) (queued : Queued xs q) (v : FeedState) (at : Some v ≡ slice_get xs f) where
  pub take_counted : Counted xs (length q) → Counted (set xs f (released v)) (length (rest q))
  take_counted c = (take_waiting xs f (rest q) (released v) (released_none v) (led xs q f head (c, queued))).0

  pub take_queued : Queued (set xs f (released v)) (rest q)
  take_queued = queued_less xs f (released v) (rest q) (slice_get_within xs f v (sym at)) (released_none v) (subst (Queued xs) (begins q f head) queued)

module _ {T : Type 0} (s : State) (slots : List T) (f t : ℕ) (head : Some f ≡ slice_get s.queue 0) (v : FeedState) (at : slice_get s.feeds f ≡ Some v) where
  pub take_answered : (j : ℕ) (d : T) → f < length s.feeds → length s.feeds ≤ length slots → j ≡ f → cond (has_record v) (Some (held v)) None ≡ Some t →
      TakeAnswer s slots (Ok (record { feed = f; tick = t; body = get_or slots j d }))
  take_answered j d inside room e ticks =
      let x = get_or slots j d in
      let r : Result (Handed T) Said = Ok (record { feed = f; tick = t; body = x }) in
      let tick : t ≡ held (feed_state s f) = sym (cond_some (has_record v) (held v) t ticks).1 ∙ ap held (sym (get_or_from_slice_get s.feeds f v Closed at)) in
      subst (λ (z : Bool). take_if_short s slots z r) (sym (le-ltb (length slots) (length s.feeds) room))
      (subst (λ (z : List ℕ). take_at s slots z r) (sym (begins s.queue f head))
      (x, slice_get-get_or slots f d (omega arith) ∙ ap (λ (i : ℕ). Some (get_or slots i d)) (sym e), λ i. Ok (record { feed = f; tick = tick i; body = x })))

  pub take_state : (ys : List FeedState) (p : List ℕ) (x : T) → ys ≡ set s.feeds f (changed v Take) → p ≡ rest s.queue →
      ◌≡◌ {A = State} (record { table = s.table; feeds = ys; queue = p; last = s.last }) (after_take s (Ok (record { feed = f; tick = t; body = x })))
  take_state ys p x a b =
      let e : ys ≡ set s.feeds f (released (feed_state s f)) = a ∙ ap (set s.feeds f) (released_as v ∙ ap released (sym (get_or_from_slice_get s.feeds f v Closed at))) in
      λ i. record { table = s.table; feeds = e i; queue = b i; last = s.last }

-- where no record waits and a feed is idle, 17 names that feed, and tells how many are
pub idle_named : (T : Type 0) (s : State) (f n : ℕ) → n ≡ idle_count s → slice_get s.feeds f ≡ Some Idle → waits_none {T = T} s (idle_count s) (Err (none_waits n f))
idle_named T s f n e at = go (idle_count s) refl
  where
    go : (k : ℕ) → idle_count s ≡ k → waits_none {T = T} s k (Err (none_waits n f))
    go zero h = let none : ⊥ = omega (arith, some_idle s.feeds f at) in absurd none
    go (suc k) h = (f, slice_get_within s.feeds f Idle at, get_or_from_slice_get s.feeds f Idle Closed at, ap (λ j. Err (none_waits j f)) (e ∙ h))
