-- What a refusal says: its number, and the values that come with it. Every contract of the product tells its refusals by this page.
use Rattle.std.specs.Prelude.{ℕ, List, [], ◌∷◌, Ok, Err, Result}
use Rattle.refusals.specs.declared.fault.Cause.{Cause}
use Rattle.refusals.specs.declared.fault.Cause.TheVariants.{Field, Window, NoCount, BeforeTable, Expired, NoSuchSecond, InsertedSecond, NotMultiple}
use Rattle.refusals.specs.declared.fault.Way.{Way}
use Rattle.refusals.specs.declared.fault.Way.TheVariants.{Reading, Showing}
use Rattle.refusals.specs.declared.fault.Fault.{Fault}
use Rattle.refusals.specs.declared.refusal.Refusal.{Refusal}
use Rattle.refusals.specs.declared.refusal.Refusal.TheVariants.{Malformed, FeedCount, ShortShelf, NoFeed, FeedClosed, FeedHolding, Clock, Behind, LossTooLarge, NoneWaits, AllClosed, BadChange, BadExpiry, BadDay, TableLimit}

pub record Said : Type 0 where
  pub number : ℕ
  pub values : List ℕ

abbrev pub cause_number : Cause → ℕ
cause_number Field = 7
cause_number Window = 8
cause_number NoCount = 9
cause_number BeforeTable = 10
cause_number Expired = 11
cause_number NoSuchSecond = 12
cause_number InsertedSecond = 13
cause_number NotMultiple = 14

abbrev pub way_number : Way → ℕ
way_number Reading = 0
way_number Showing = 1

-- a number with no values
abbrev pub plain : ℕ → Said
plain n = record { number = n; values = [] }

-- a clock's fault tells its number, the rung, the way and the count
abbrev pub fault_said : Fault → Said
fault_said f = record { number = cause_number f.cause; values = f.rung ∷ (way_number f.way ∷ (f.count ∷ [])) }

-- 17 tells the number of idle feeds and one idle feed
abbrev pub none_waits : ℕ → ℕ → Said
none_waits idle feed = record { number = 17; values = idle ∷ (feed ∷ []) }

abbrev pub said : Refusal → Said
said Malformed = plain 1
said FeedCount = plain 2
said ShortShelf = plain 3
said NoFeed = plain 4
said FeedClosed = plain 5
said FeedHolding = plain 6
said (Clock f) = fault_said f
said Behind = plain 15
said LossTooLarge = plain 16
said (NoneWaits idle feed) = none_waits idle feed
said AllClosed = plain 18
said BadChange = plain 19
said BadExpiry = plain 20
said BadDay = plain 21
said TableLimit = plain 22

-- a clock's fault as the refusal of a call
abbrev pub clock_refusal : Fault → Refusal
clock_refusal f = Clock f

-- an answer with its refusal as it is said
abbrev pub told : {A : Type 0} → Result A Refusal → Result A Said
told (Ok a) = Ok a
told (Err r) = Err (said r)
