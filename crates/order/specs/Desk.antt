-- What the four calls do to a joiner and to its shelf.
use Rattle.std.specs.Prelude.{◌≡◌, ℕ, zero, suc, ◌<◌, Bool, true, false, cond, ◌||◌, List, [], ◌∷◌, ◌++◌, length, replicate, Some, Ok, Err, filter, Result, nat_le, nat_lt, slice_index_or, slice_set}
use Rattle.std.specs.List.{slice_get}
use Rattle.refusals.specs.declared.refusal.Refusal.{Refusal}
use Rattle.refusals.specs.Said.{Said, said, plain, none_waits}
use Rattle.leap.specs.declared.bulletin.Bulletin.{Bulletin}
use Rattle.leap.specs.Table.{Table}
use Rattle.leap.specs.Bulletin.{judged, table_after}
use Rattle.calls.specs.declared.call.Handed.{Handed}
use Rattle.clocks.specs.Counts.{most_feeds, told_limit}
use Rattle.clocks.specs.Forms.{Stamp}
use Rattle.clocks.specs.Banks.{BankMeaning, bank_reads, bank_loss}
use Rattle.order.specs.declared.state.FeedState.{FeedState}
use Rattle.order.specs.declared.state.FeedState.TheVariants.{Idle, Holding, Closing, Closed}
use Rattle.order.specs.Queue.{is_idle}

-- what a joiner holds: its leap table, the state of each feed, the feeds that wait, the longest first, and the last accepted tick
pub record State : Type 0 where
  pub table : Table
  pub feeds : List FeedState
  pub queue : List ℕ
  pub last : ℕ

-- a joiner, and the slots of its shelf
pub record Desk (T : Type 0) : Type 0 where
  pub joiner : State
  pub slots : List T

-- a feed that the joiner does not have counts as closed
abbrev pub feed_state : State → ℕ → FeedState
feed_state s f = slice_index_or s.feeds f Closed

-- MAKING ONE

-- the size check of a bank of n feeds on a shelf of k slots: 2 unless there are 1 to 64 feeds, then 3 if there are fewer slots
abbrev pub size_answer : ℕ → ℕ → Result (Unit {0}) Said
size_answer n k = cond (nat_lt n 1 || nat_lt most_feeds n) (Err (plain 2)) (cond (nat_lt k n) (Err (plain 3)) (Ok tt))

-- where it refuses, the joiner has no feeds, and else all the bank's
abbrev pub admitted : ℕ → Result (Unit {0}) Said → ℕ
admitted n (Ok u) = n
admitted n (Err s) = 0

abbrev pub admits : ℕ → ℕ → ℕ
admits n k = admitted n (size_answer n k)

-- a joiner just made: a table to start from, every feed idle, nothing accepted
abbrev pub made : {T : Type 0} → BankMeaning → Table → List T → Desk T
made m start slots = record {
  joiner = record { table = start; feeds = replicate (admits m.feeds (length slots)) Idle; queue = []; last = 0 };
  slots = slots;
}

-- PUT

-- a feed whose loss, as it is told, is too large is refused
abbrev pub loss_checked : Result ℕ Refusal → Result ℕ Said → Result ℕ Said
loss_checked (Ok l) a = cond (nat_le told_limit l) (Err (plain 16)) a
loss_checked (Err r) a = Err (said r)

-- what the bank reads, unless it lies before the last accepted tick
abbrev pub in_order : ℕ → Result ℕ Refusal → Result ℕ Said
in_order last (Ok t) = cond (nat_lt t last) (Err (plain 15)) (Ok t)
in_order last (Err r) = Err (said r)

-- by the feed's state. (The bank has every feed that the joiner has, so it does not answer 4 here.)
abbrev pub put_at : BankMeaning → State → ℕ → Stamp → FeedState → Result ℕ Said
put_at m s f p Idle = loss_checked (bank_loss m f) (in_order s.last (bank_reads m s.table f p))
put_at m s f p (Holding t) = Err (plain 6)
put_at m s f p (Closing t) = Err (plain 5)
put_at m s f p Closed = Err (plain 5)

-- the answer of a put that is handed k slots
abbrev pub put_answer : BankMeaning → State → ℕ → ℕ → Stamp → Result ℕ Said
put_answer m s k f p =
    cond (nat_lt k (length s.feeds)) (Err (plain 3))
    (cond (nat_le (length s.feeds) f) (Err (plain 4)) (put_at m s f p (feed_state s f)))

-- an accepted record waits last in the queue, its tick in the feed's state and its body in the feed's slot
abbrev pub after_put : {T : Type 0} → Desk T → ℕ → T → Result ℕ Said → Desk T
after_put d f x (Ok t) = record {
  joiner = record {
    table = d.joiner.table;
    feeds = slice_set d.joiner.feeds f (Holding t);
    queue = d.joiner.queue ++ f ∷ [];
    last = t;
  };
  slots = slice_set d.slots f x;
}
after_put d f x (Err e) = d

-- CLOSE

abbrev pub close_at : FeedState → Result FeedState Said
close_at Idle = Ok Closed
close_at (Holding t) = Ok (Closing t)
close_at (Closing t) = Err (plain 5)
close_at Closed = Err (plain 5)

-- the state that a feed is closed to
abbrev pub close_plan : State → ℕ → Result FeedState Said
close_plan s f = cond (nat_le (length s.feeds) f) (Err (plain 4)) (close_at (feed_state s f))

abbrev pub done : {A : Type 0} → Result A Said → Result (Unit {0}) Said
done (Ok a) = Ok tt
done (Err e) = Err e

abbrev pub closed_as : State → ℕ → Result FeedState Said → State
closed_as s f (Ok v) = record { table = s.table; feeds = slice_set s.feeds f v; queue = s.queue; last = s.last }
closed_as s f (Err e) = s

-- BULLETIN

abbrev pub renewed_by : State → Bulletin → State
renewed_by s b = record { table = table_after s.table b; feeds = s.feeds; queue = s.queue; last = s.last }

-- TAKE

abbrev pub idle_count : State → ℕ
idle_count s = length (filter is_idle s.feeds)

-- the tick that waits in a feed
abbrev pub held : FeedState → ℕ
held Idle = 0
held (Holding t) = t
held (Closing t) = t
held Closed = 0

-- what a feed becomes when its record is handed out
abbrev pub released : FeedState → FeedState
released Idle = Idle
released (Holding t) = Idle
released (Closing t) = Closed
released Closed = Closed

-- where no record waits: 18 if no feed is idle, and else 17 with the number of idle feeds and one of them, whichever
abbrev pub waits_none : {T : Type 0} → State → ℕ → Result (Handed T) Said → Type 0
waits_none s zero r = r ≡ Err (plain 18)
waits_none s (suc n) r = (f : ℕ) × (f < length s.feeds) × (feed_state s f ≡ Idle) × (r ≡ Err (none_waits (suc n) f))

-- the record of the feed that has waited longest
abbrev pub take_at : {T : Type 0} → State → List T → List ℕ → Result (Handed T) Said → Type 0
take_at s slots [] r = waits_none s (idle_count s) r
take_at {T} s slots (f ∷ fs) r = (x : T) × (slice_get slots f ≡ Some x) × (r ≡ Ok (record { feed = f; tick = held (feed_state s f); body = x }))

abbrev pub take_if_short : {T : Type 0} → State → List T → Bool → Result (Handed T) Said → Type 0
take_if_short s slots true r = r ≡ Err (plain 3)
take_if_short s slots false r = take_at s slots s.queue r

-- what a take answers that is handed these slots
abbrev pub TakeAnswer : {T : Type 0} → State → List T → Result (Handed T) Said → Type 0
TakeAnswer s slots r = take_if_short s slots (nat_lt (length slots) (length s.feeds)) r

abbrev pub rest : List ℕ → List ℕ
rest [] = []
rest (f ∷ fs) = fs

abbrev pub after_take : {T : Type 0} → State → Result (Handed T) Said → State
after_take s (Ok g) = record { table = s.table; feeds = slice_set s.feeds g.feed (released (feed_state s g.feed)); queue = rest s.queue; last = s.last }
after_take s (Err e) = s

-- RUNS

-- a call with its answer. Elsewhere is a put or a take that was handed other slots, with bodies of whatever type, and answered 3
pub data Event (T : Type 0) : Type 0 where
  Put : ℕ → Stamp → T → Result ℕ Said → Event T
  Take : Result (Handed T) Said → Event T
  Close : ℕ → Result (Unit {0}) Said → Event T
  Renew : Bulletin → Result (Unit {0}) Said → Event T
  Elsewhere : Event T

-- what the contracts of the four calls say, one by one
abbrev pub Step : {T : Type 0} → BankMeaning → Desk T → Event T → Desk T → Type 0
Step m d (Put f p x r) e = (r ≡ put_answer m d.joiner (length d.slots) f p) × (e ≡ after_put d f x r)
Step m d (Take r) e = TakeAnswer d.joiner d.slots r × (e ≡ record { joiner = after_take d.joiner r; slots = d.slots })
Step m d (Close f r) e =
    (r ≡ done (close_plan d.joiner f)) × (e ≡ record { joiner = closed_as d.joiner f (close_plan d.joiner f); slots = d.slots })
Step m d (Renew b r) e = (r ≡ judged d.joiner.table b) × (e ≡ record { joiner = renewed_by d.joiner b; slots = d.slots })
Step m d Elsewhere e = ((k : ℕ) × (k < length d.joiner.feeds)) × (e ≡ d)

-- the calls, first to last, with their answers, lead from one desk to the other
abbrev pub Run : {T : Type 0} → BankMeaning → Desk T → List (Event T) → Desk T → Type 0
Run m d [] e = e ≡ d
Run {T} m d (v ∷ vs) e = (next : Desk T) × Step m d v next × Run m next vs e
