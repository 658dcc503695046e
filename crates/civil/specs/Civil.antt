-- The civil form: stamps of a date and a time of day, read as labels and shown from them.
use Rattle.std.specs.Prelude.{◌≡◌, ℕ, ◌+◌, ◌-◌, ◌*◌, ◌/◌, ◌%◌, ◌<◌, ◌≤◌, min, Bool, cond, ◌&&◌, ◌||◌, ◌⊎◌, ◌↔◌, is_some, Ok, Err, Result, ◌==◌, nat_le, nat_lt}
use Rattle.refusals.specs.declared.fault.Cause.TheVariants.{Field, Window}
use Rattle.refusals.specs.declared.fault.Fault.{Fault}
use Rattle.refusals.specs.declared.fault.Way.TheVariants.{Reading, Showing}
use Rattle.calendar.specs.Calendar.{Fields, ValidDate, day_number, date_of, last_day}
use Rattle.calendar.specs.Dates.{wrong_field}
use Rattle.leap.specs.Table.{largest_step}
use Rattle.clocks.specs.Counts.{second}
use Rattle.clocks.specs.Rungs.{own_fault, refused_if, counted}
use Rattle.clocks.specs.Forms.{Stamp, FormMeaning}
use Rattle.clocks.specs.Stamps.{fields_if}
use Rattle.utc.specs.Labels.{label_at, day_of, ticks_of}

-- yyyymmdd and hhmmss: three fields joined in one number, of which the last two have two digits each
abbrev pub joined : ℕ → ℕ → ℕ → ℕ
joined a b c = (a * 100 + b) * 100 + c

-- and the fields again
abbrev pub first : ℕ → ℕ
first x = x / 10000

abbrev pub middle : ℕ → ℕ
middle x = x / 100 % 100

abbrev pub last : ℕ → ℕ
last x = x % 100

-- yyyymmdd is no date of the calendar
abbrev pub no_date : ℕ → Bool
no_date x = is_some (wrong_field (first x) (middle x) (last x))

-- the days from 1970-01-01 to yyyymmdd
abbrev pub day_read : ℕ → ℕ
day_read x = day_number (first x) (middle x) (last x)

-- the seconds that minute h:m may have: seconds are inserted at 23:59 alone
abbrev pub minute_seconds : ℕ → ℕ → ℕ
minute_seconds h m = cond (h == 23 && m == 59) (60 + largest_step) 60

-- hhmmss is no time of a day
abbrev pub no_time : ℕ → Bool
no_time x = (nat_le 24 (first x) || nat_le 60 (middle x)) || nat_le (minute_seconds (first x) (middle x)) (last x)

-- the seconds since the day's start at hhmmss
abbrev pub seconds_read : ℕ → ℕ
seconds_read x = (first x * 60 + middle x) * 60 + last x

-- day n as yyyymmdd
abbrev pub date_shown : ℕ → ℕ
date_shown n = joined (date_of n).year (date_of n).month (date_of n).day

-- the minute of second s of a day: the last one, 23:59, takes all that is left of the day
abbrev pub minute_of : ℕ → ℕ
minute_of s = min (s / 60) 1439

-- second s of a day as hhmmss
abbrev pub time_shown : ℕ → ℕ
time_shown s = joined (minute_of s / 60) (minute_of s % 60) (s - minute_of s * 60)

-- a stamp as a label, for which the table does not matter: hi is yyyymmdd, and lo is hhmmss and nine digits of nanoseconds
abbrev pub civil_reads : Stamp → Result ℕ Fault
civil_reads p = fields_if (no_date p.0 || no_time (p.1 / second)) (Ok (label_at (day_read p.0) (seconds_read (p.1 / second) * second + p.1 % second)))

-- a label as a stamp
abbrev pub civil_shows : ℕ → Result Stamp Fault
civil_shows n = counted Showing n (
    refused_if (nat_lt last_day (day_of n)) Window Showing n
    (Ok (date_shown (day_of n), time_shown (ticks_of n / second) * second + ticks_of n % second)))

abbrev pub civil : FormMeaning
civil = record { reads = λ t p. civil_reads p; shows = λ t n. civil_shows n; loss = 0 }

-- nothing is lost: a label up to the calendar's last day is shown, as a stamp that is read as that label, and what a stamp is read as is shown as that stamp
pub record Lossless : Type 0 where
  pub labels_come_back : (n : ℕ) → day_of n ≤ last_day → (p : Stamp) × (civil_shows n ≡ Ok p) × (civil_reads p ≡ Ok n)
  pub stamps_come_back : (p : Stamp) (n : ℕ) → civil_reads p ≡ Ok n → civil_shows n ≡ Ok p

-- p tells label l: it is written of a date of the calendar, a time of day and nanoseconds, which make that label. Second 60 stands at 23:59 alone
pub record Tells (p : Stamp) (l : ℕ) : Type 0 where
  pub date : Fields
  pub hour : ℕ
  pub minute : ℕ
  pub second_of_minute : ℕ
  pub nanoseconds : ℕ
  pub hi : p.0 ≡ joined date.year date.month date.day
  pub lo : p.1 ≡ joined hour minute second_of_minute * second + nanoseconds
  pub date_stands : ValidDate date.year date.month date.day
  pub hour_stands : hour < 24
  pub minute_stands : minute < 60
  pub second_stands : (second_of_minute < 60) ⊎ ((hour ≡ 23) × (minute ≡ 59) × (second_of_minute < 60 + largest_step))
  pub nanoseconds_stand : nanoseconds < second
  pub label : l ≡ label_at (day_number date.year date.month date.day) (((hour * 60 + minute) * 60 + second_of_minute) * second + nanoseconds)

-- what a stamp is read as: the label that it tells, and no other; one that tells none is refused for a wrong field
pub record ReadsAs (p : Stamp) (r : Result ℕ Fault) : Type 0 where
  pub told : (l : ℕ) → (r ≡ Ok l) ↔ Tells p l
  pub refused : (f : Fault) → r ≡ Err f → f ≡ own_fault Field Reading 0
