-- The leap rung: UTC labels over TAI.
use Rattle.std.specs.Prelude.{ℕ, ◌+◌, ◌-◌, ◌*◌, ◌/◌, cond, Result, nat_le, nat_lt}
use Rattle.refusals.specs.declared.fault.Cause.TheVariants.{BeforeTable, Expired, NoSuchSecond}
use Rattle.refusals.specs.declared.fault.Fault.{Fault}
use Rattle.refusals.specs.declared.fault.Way.TheVariants.{Reading, Showing}
use Rattle.leap.specs.Table.{Table, day_seconds, first_entry_day, off, len}
use Rattle.clocks.specs.Counts.{second}
use Rattle.clocks.specs.Rungs.{RungMeaning, refused_if, counted, answered}
use Rattle.utc.specs.Labels.{day_ticks, label_at, day_of, ticks_of}

-- the tick at which day d begins
abbrev pub start : Table → ℕ → ℕ
start t d = (d * day_seconds + off t d) * second

-- a tick that is to be shown is refused before the table's first day, and from its expiry on
abbrev pub within_table : Table → ℕ → Result ℕ Fault → Result ℕ Fault
within_table t n a =
    refused_if (nat_lt n (start t first_entry_day)) BeforeTable Showing n (
    refused_if (nat_le (start t t.expiry) n) Expired Showing n a)

-- the day that holds tick n: the day that the TAI clock has, or the day before if that day has not begun in UTC
abbrev pub day_at : Table → ℕ → ℕ
day_at t n = cond (nat_le (start t (n / day_ticks)) n) (n / day_ticks) (n / day_ticks - 1)

-- label r, which is n ticks into a day
abbrev pub leap_label : Table → (r day n : ℕ) → Result ℕ Fault
leap_label t r day n =
    refused_if (nat_lt day first_entry_day) BeforeTable Reading r (
    refused_if (nat_le t.expiry day) Expired Reading r (
    refused_if (nat_le (len t day * second) n) NoSuchSecond Reading r (
    answered Reading r (start t day + n))))

-- a label reads as its day's first tick and the ticks since
abbrev pub leap : RungMeaning
leap = record {
  reads = λ t r. counted Reading r (leap_label t r (day_of r) (ticks_of r));
  shows = λ t n. counted Showing n (within_table t n (answered Showing n (label_at (day_at t n) (n - start t (day_at t n)))));
  loss = 0;
  spread = λ n. n;
  rungs = 1;
}
