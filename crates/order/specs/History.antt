-- Words over a history of calls: what was accepted, what was handed out, what waits.
use Rattle.std.specs.Prelude.{◌≡◌, ℕ, List, [], ◌∷◌, length, Some, None, Ok, Err, filter, Option, nat_eq}
use Rattle.std.specs.List.{flat_map, slice_get}
use Rattle.calls.specs.declared.call.Handed.{Handed}
use Rattle.clocks.specs.Forms.{Stamp}
use Rattle.order.specs.declared.state.FeedState.{FeedState}
use Rattle.order.specs.declared.state.FeedState.TheVariants.{Idle, Holding, Closing, Closed}
use Rattle.order.specs.Desk.{Event, Put, Take, Close, Renew, Elsewhere, Desk, feed_state}

-- an accepted record: the stamp and body that a put was given, and the tick that it answered
pub record Record (T : Type 0) : Type 0 where
  pub feed : ℕ
  pub stamp : Stamp
  pub tick : ℕ
  pub body : T

-- the record as take hands it out
abbrev pub handed : {T : Type 0} → Record T → Handed T
handed r = record { feed = r.feed; tick = r.tick; body = r.body }

abbrev pub accepted_by : {T : Type 0} → Event T → List (Record T)
accepted_by (Put f p x (Ok t)) = record { feed = f; stamp = p; tick = t; body = x } ∷ []
accepted_by (Put f p x (Err e)) = []
accepted_by (Take r) = []
accepted_by (Close f r) = []
accepted_by (Renew b r) = []
accepted_by Elsewhere = []

abbrev pub given_by : {T : Type 0} → Event T → List (Handed T)
given_by (Put f p x r) = []
given_by (Take (Ok g)) = g ∷ []
given_by (Take (Err e)) = []
given_by (Close f r) = []
given_by (Renew b r) = []
given_by Elsewhere = []

-- the records accepted by a list of calls, over all feeds, in the order of the puts
abbrev pub accepted : {T : Type 0} → List (Event T) → List (Record T)
accepted vs = flat_map accepted_by vs

-- what take gave, over all feeds, in the order of the takes
abbrev pub given : {T : Type 0} → List (Event T) → List (Handed T)
given vs = flat_map given_by vs

-- those of one feed
abbrev pub accepted_of : {T : Type 0} → ℕ → List (Event T) → List (Record T)
accepted_of f vs = filter (λ r. nat_eq r.feed f) (accepted vs)

abbrev pub given_of : {T : Type 0} → ℕ → List (Event T) → List (Handed T)
given_of f vs = filter (λ g. nat_eq g.feed f) (given vs)

-- feed f's record number n, from 0, is the one that the call v hands out, made after the calls of `before`
abbrev pub HandsOut : {T : Type 0} → ℕ → ℕ → List (Event T) → Event T → Type 0
HandsOut {T} f n before v = (g : Handed T) × (v ≡ Take (Ok g)) × (g.feed ≡ f) × (n ≡ length (given_of f before))

-- the feed holds or closes
abbrev pub Waits : FeedState → Type 0
Waits Idle = ⊥
Waits (Holding t) = Unit {0}
Waits (Closing t) = Unit {0}
Waits Closed = ⊥

abbrev pub slot : {T : Type 0} → ℕ → Option T → List (ℕ × T)
slot t (Some x) = (t, x) ∷ []
slot t None = []

abbrev pub waiting_in : {T : Type 0} → FeedState → Option T → List (ℕ × T)
waiting_in Idle o = []
waiting_in (Holding t) o = slot t o
waiting_in (Closing t) o = slot t o
waiting_in Closed o = []

-- the tick held and the body in the slot of the feed's waiting record, if there is one
abbrev pub waiting : {T : Type 0} → Desk T → ℕ → List (ℕ × T)
waiting d f = waiting_in (feed_state d.joiner f) (slice_get d.slots f)
