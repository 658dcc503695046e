-- The windows of smeared time as the entries of the table have them: each entry but the first has its own.
use Rattle.std.specs.Prelude.{◌≡◌, ℕ, ◌+◌, ◌-◌, ◌*◌, ◌/◌, ◌<◌, ◌≤◌, length}
use Rattle.leap.specs.Table.{Table, day_seconds, first_entry_day, at}
use Rattle.clocks.specs.Counts.{second}
use Rattle.clocks.specs.Stamps.{up}
use Rattle.utc.specs.Labels.{day_ticks}
use Rattle.utc.specs.Leap.{start}
use Rattle.utc.specs.Smear.{opening_second, smear_reading, smear_showing}

-- the count at which the window of entry k opens: before the midnight that begins the entry's day
abbrev pub entry_opens : Table → (lead k : ℕ) → ℕ
entry_opens t lead k = ((at t.entries k).day * day_seconds - lead) * second

-- the offset of entry k, in ticks
abbrev pub entry_ticks : Table → ℕ → ℕ
entry_ticks t k = (at t.entries k).offset * second

-- the seconds in TAI of the window that leads from entry k to the next
abbrev pub entry_wide : Table → (long k : ℕ) → ℕ
entry_wide t long k = long + (at t.entries (k + 1)).offset - (at t.entries k).offset

-- what smeared time reads and shows, window by window
pub record ByWindows (t : Table) (long lead : ℕ) : Type 0 where
  -- e ticks into a window, by smeared time and by TAI
  pub reads_in : (k e : ℕ) → k + 1 < length t.entries → e < long * second
      → smear_reading t long (opening_second lead) (entry_opens t lead (k + 1) + e) ≡ entry_opens t lead (k + 1) + entry_ticks t k + up (e * entry_wide t long k) long
  pub shows_in : (k e : ℕ) → k + 1 < length t.entries → e < entry_wide t long k * second
      → smear_showing t long (opening_second lead) (entry_opens t lead (k + 1) + entry_ticks t k + e) ≡ entry_opens t lead (k + 1) + e * long / entry_wide t long k
  -- outside windows by the offset of the last one that has ended, which is entry k's, or by the first entry's if none has
  pub reads_out : (k r : ℕ) → k < length t.entries → first_entry_day * day_ticks ≤ r → (0 < k → entry_opens t lead k + long * second ≤ r) → (k + 1 < length t.entries → r < entry_opens t lead (k + 1))
      → smear_reading t long (opening_second lead) r ≡ r + entry_ticks t k
  pub shows_out : (k n : ℕ) → k < length t.entries → start t first_entry_day ≤ n → (0 < k → entry_opens t lead k + long * second + entry_ticks t k ≤ n) → (k + 1 < length t.entries → n < entry_opens t lead (k + 1) + entry_ticks t k)
      → smear_showing t long (opening_second lead) n ≡ n - entry_ticks t k
