-- The promise about the order of records, over every list of calls.
use Rattle.std.specs.Prelude.{◌≡◌, ℕ, ◌+◌, ◌-◌, ◌<◌, ◌≤◌, ◌↔◌, List, ◌∷◌, ◌++◌, map, length, take, Some, Ok}
use Rattle.std.specs.List.{All, slice_get}
use Rattle.std.specs.List.Sorted.{IsNonDecreasing}
use Rattle.leap.specs.Table.{Table, Sound}
use Rattle.calls.specs.declared.call.Handed.{Handed}
use Rattle.clocks.specs.Counts.{Count}
use Rattle.clocks.specs.Banks.{BankMeaning}
use Rattle.order.specs.Desk.{Event, Desk, Run, made, feed_state}
use Rattle.order.specs.History.{Record, handed, accepted, accepted_of, given, given_of, HandsOut, Waits, waiting}

-- a true tick of a record of feed f: under the table after the last call the feed shows it as the record's stamp. There may be several, or none
abbrev pub TrueTick : {T : Type 0} → BankMeaning → Desk T → ℕ → Record T → ℕ → Type 0
TrueTick m d f r t = (m.scale_of f).shows d.joiner.table t ≡ Ok r.stamp

-- what holds after the calls vs, which left the joiner and its shelf at d
pub record OrderKept {T : Type 0} (m : BankMeaning) (vs : List (Event T)) (d : Desk T) : Type 0 where
  -- against each true tick of a record handed out, the tick that take gave is not later, and is earlier by at most that feed's loss
  pub near_true_ticks :
      (f n t : ℕ) (r : Record T) (g : Handed T) → slice_get (accepted_of f vs) n ≡ Some r → slice_get (given_of f vs) n ≡ Some g →
      TrueTick m d f r t → (g.tick ≤ t) × (t - g.tick ≤ (m.scale_of f).loss)
  -- if one accepted record's true tick exceeds another's by more than its own feed's loss, it is not handed out unless that other was handed out before it
  pub in_true_order :
      (f n t : ℕ) (r : Record T) → slice_get (accepted_of f vs) n ≡ Some r → TrueTick m d f r t →
      (f' n' t' : ℕ) (r' : Record T) → slice_get (accepted_of f' vs) n' ≡ Some r' → TrueTick m d f' r' t' →
      t' + (m.scale_of f).loss < t →
      (before after : List (Event T)) (v : Event T) → vs ≡ before ++ v ∷ after → HandsOut f n before v → n' < length (given_of f' before)
  -- the ticks that take gives, over all feeds, never fall
  pub ticks_never_fall : IsNonDecreasing (map (λ g. g.tick) (given vs))
  -- what take gave for a feed, and then its waiting record, are the ticks and bodies of its accepted records in the order of the puts
  pub all_in_turn :
      (f : ℕ) → map (λ g. (g.tick, g.body)) (given_of f vs) ++ waiting d f ≡ map (λ r. (r.tick, r.body)) (accepted_of f vs)
  -- a record waits exactly when the feed is holding or closing
  pub waits_when_held : (f : ℕ) → (length (given_of f vs) < length (accepted_of f vs)) ↔ Waits (feed_state d.joiner f)
  -- each accepted stamp still reads as its tick
  pub still_read : (f n : ℕ) (r : Record T) → slice_get (accepted_of f vs) n ≡ Some r → (m.scale_of f).reads d.joiner.table r.stamp ≡ Ok r.tick
  -- over all feeds, what take gave are the first accepted records, in the order of the puts
  pub first_come : given vs ≡ map handed (take (length (given vs)) (accepted vs))
  -- accepted ticks are counts, and their feeds are the joiner's
  pub ours : All (λ r. (r.feed < length d.joiner.feeds) × Count r.tick) (accepted vs)
  -- the leap table is still a sound one
  pub table_sound : Sound d.joiner.table

-- whatever the four calls do to a joiner just made with the table `start`, and to its shelf, the order is kept
abbrev pub KeepsOrder : {T : Type 0} → BankMeaning → Table → List T → Type 0
KeepsOrder {T} m start slots = (vs : List (Event T)) (d : Desk T) → Run m (made m start slots) vs d → OrderKept m vs d
