-- Refusals in words, for people.
use Rattle.std.specs.Prelude.{ℕ, List, ◌++◌, codes}
use Rattle.std.specs.Fmt.{decimal}
use Rattle.refusals.specs.declared.fault.Cause.{Cause}
use Rattle.refusals.specs.declared.fault.Cause.TheVariants.{Field, Window, NoCount, BeforeTable, Expired, NoSuchSecond, InsertedSecond, NotMultiple}
use Rattle.refusals.specs.declared.fault.Way.{Way}
use Rattle.refusals.specs.declared.fault.Way.TheVariants.{Reading, Showing}
use Rattle.refusals.specs.declared.fault.Fault.{Fault}
use Rattle.refusals.specs.declared.refusal.Refusal.{Refusal}
use Rattle.refusals.specs.declared.refusal.Refusal.TheVariants.{Malformed, FeedCount, ShortShelf, NoFeed, FeedClosed, FeedHolding, Clock, Behind, LossTooLarge, NoneWaits, AllClosed, BadChange, BadExpiry, BadDay, TableLimit}
use Rattle.refusals.specs.Said.{cause_number}

abbrev pub cause_words : Cause → List ℕ
cause_words Field = codes "a field of the stamp is wrong"
cause_words Window = codes "outside the window of a pivot, or the years 1970 to 2199"
cause_words NoCount = codes "no count: not below 8*10^18"
cause_words BeforeTable = codes "before the leap table's first entry"
cause_words Expired = codes "from the leap table's expiry on"
cause_words NoSuchSecond = codes "a second that its day does not have"
cause_words InsertedSecond = codes "an inserted second, which POSIX has no number for"
cause_words NotMultiple = codes "not a multiple of the clock's step"

abbrev pub way_words : Way → List ℕ
way_words Reading = codes "reading"
way_words Showing = codes "showing"

abbrev pub refusal_words : Refusal → List ℕ
refusal_words Malformed = codes "the line is no frame"
refusal_words FeedCount = codes "the bank has not 1 to 64 feeds"
refusal_words ShortShelf = codes "the shelf has fewer slots than there are feeds"
refusal_words NoFeed = codes "no feed has this number"
refusal_words FeedClosed = codes "the feed is closing or closed"
refusal_words FeedHolding = codes "the feed holds a record that was not taken yet"
refusal_words (Clock fault) = cause_words fault.cause
refusal_words Behind = codes "the tick lies before the last accepted one, whichever its feed"
refusal_words LossTooLarge = codes "the feed's loss, as told, is 10^12"
refusal_words (NoneWaits idle feed) = codes "no record waits, and a feed is idle"
refusal_words AllClosed = codes "no record waits, and all feeds are closed or there are none"
refusal_words BadChange = codes "a bulletin's change is above 2, or is 0 with a day other than 0"
refusal_words BadExpiry = codes "a bulletin's expiry lies before the present one, or after 84,006"
refusal_words BadDay = codes "a bulletin's day does not lie strictly between the two expiries, or is no first of a month"
refusal_words TableLimit = codes "the leap table has 64 entries, or the offset would leave 0 to 99"

-- a fault with its number, the rung, the way and the count
abbrev pub fault_words : Fault → List ℕ
fault_words f = decimal (cause_number f.cause) ++ codes " by rung " ++ decimal f.rung ++ codes ", " ++ way_words f.way ++ codes " " ++ decimal f.count ++ codes ": " ++ cause_words f.cause
