-- The smear rung: smeared POSIX counts over TAI. Each step of the offset is spread evenly over a window that opens some seconds before the step's midnight.
-- A window has a fixed length in smeared time; in TAI it is longer or shorter by the step. Windows are told here by the day on which they open, and there is one on each day: where the offset stays, it stretches nothing.
use Rattle.std.specs.Prelude.{ℕ, ◌+◌, ◌-◌, ◌*◌, ◌/◌, ◌%◌, cond, nat_le, nat_lt}
use Rattle.refusals.specs.declared.fault.Cause.TheVariants.{BeforeTable, Expired}
use Rattle.refusals.specs.declared.fault.Way.TheVariants.{Reading, Showing}
use Rattle.leap.specs.Table.{Table, largest_step, day_seconds, first_entry_day, off}
use Rattle.clocks.specs.Counts.{second}
use Rattle.clocks.specs.Rungs.{RungMeaning, refused_if, counted, answered}
use Rattle.clocks.specs.Stamps.{up}
use Rattle.utc.specs.Labels.{day_ticks}
use Rattle.utc.specs.Leap.{within_table}

-- the smeared length of a window, and how long before the step's midnight it opens, in seconds
abbrev pub window_seconds : ℕ
window_seconds = 86400

abbrev pub window_lead : ℕ
window_lead = 43200

-- the second of the day at which it opens
abbrev pub opening_second : (lead : ℕ) → ℕ
opening_second lead = day_seconds - lead

-- the count, and the tick, at which the window of day c opens, which is so many seconds into that day
abbrev pub opens : (from c : ℕ) → ℕ
opens from c = c * day_ticks + from * second

abbrev pub opens_at : Table → (from c : ℕ) → ℕ
opens_at t from c = opens from c + off t c * second

-- the seconds of that window in TAI, of which long are told
abbrev pub wide : Table → (long c : ℕ) → ℕ
wide t long c = long + off t (c + 1) - off t c

-- count r, which stands e after the opening of the window of day c: read rounded up in the window, and after it by the new offset
abbrev pub smear_tick : Table → (long from r c e : ℕ) → ℕ
smear_tick t long from r c e = cond (nat_lt e (long * second)) (opens_at t from c + up (e * wide t long c) long) (r + off t (c + 1) * second)

abbrev pub smear_reading : Table → (long from r : ℕ) → ℕ
smear_reading t long from r = smear_tick t long from r ((r - from * second) / day_ticks) ((r - from * second) % day_ticks)

-- tick n, which stands e after the opening: shown rounded down
abbrev pub smear_count : Table → (long from n c e : ℕ) → ℕ
smear_count t long from n c e = cond (nat_lt e (wide t long c * second)) (opens from c + e * long / wide t long c) (n - off t (c + 1) * second)

-- the day of the last window opened by tick n: of the two that it can be, the later if its window has opened
abbrev pub window_at : Table → (from n : ℕ) → ℕ
window_at t from n = cond (nat_le (opens_at t from ((n - from * second) / day_ticks)) n) ((n - from * second) / day_ticks) ((n - from * second) / day_ticks - 1)

abbrev pub smear_showing : Table → (long from n : ℕ) → ℕ
smear_showing t long from n = smear_count t long from n (window_at t from n) (n - opens_at t from (window_at t from n))

-- windows of long seconds, which open lead seconds ahead
abbrev pub smear : (long lead : ℕ) → RungMeaning
smear long lead = record {
  reads = λ t r. counted Reading r (
      refused_if (nat_lt r (first_entry_day * day_ticks)) BeforeTable Reading r (
      refused_if (nat_le (t.expiry * day_ticks) r) Expired Reading r (
      answered Reading r (smear_reading t long (opening_second lead) r))));
  shows = λ t n. counted Showing n (within_table t n (answered Showing n (smear_showing t long (opening_second lead) n)));
  loss = 1;
  spread = λ n. n + up (largest_step * n) long;
  rungs = 1;
}
