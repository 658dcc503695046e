-- The leap table: which seconds were inserted or deleted, and up to which day that is known. Days are counted from 1970-01-01, which is day 0.
use Rattle.std.specs.Prelude.{◌≡◌, ℕ, ◌+◌, ◌-◌, ◌<◌, ◌≤◌, cond, List, [], ◌∷◌, length, nat_le, slice_index_or}
use Rattle.calendar.specs.Calendar.{FirstOfMonth}
use Rattle.leap.specs.declared.entry.Entry.{Entry}

-- how far neighbouring offsets may lie apart, and the largest offset
abbrev pub largest_step : ℕ
largest_step = 1

abbrev pub top_offset : ℕ
top_offset = 99

abbrev pub most_entries : ℕ
most_entries = 64

-- the latest day that a table can expire on: the day after the calendar's last
abbrev pub table_end : ℕ
table_end = 84006

abbrev pub day_seconds : ℕ
day_seconds = 86400

-- every table begins with 1972-01-01, when TAI minus UTC was ten seconds
abbrev pub first_entry_day : ℕ
first_entry_day = 730

abbrev pub first_entry_offset : ℕ
first_entry_offset = 10

-- from 00:00:00 UTC of an entry's day on, TAI minus UTC is its offset in seconds. The table is valid for the days before its expiry
pub record Table : Type 0 where
  pub entries : List Entry
  pub expiry : ℕ

-- the offset of the last of the entries whose day is at most d, or o where there is none
abbrev pub offset_on : ℕ → List Entry → ℕ → ℕ
offset_on o [] d = o
offset_on o (e ∷ es) d = offset_on (cond (nat_le e.day d) e.offset o) es d

-- TAI minus UTC on day d; before the first entry it is taken to be that entry's
abbrev pub off : Table → ℕ → ℕ
off t d = offset_on first_entry_offset t.entries d

-- the seconds of day d
abbrev pub len : Table → ℕ → ℕ
len t d = day_seconds + off t (d + 1) - off t d

-- the entry at place k
abbrev pub at : List Entry → ℕ → Entry
at es k = slice_index_or es k (record { day = 0; offset = 0 })

abbrev pub apart : ℕ → ℕ → ℕ
apart a b = (a - b) + (b - a)

-- o is the offset of the last entry whose day is at most d, and before the first entry that entry's
pub record Counts (t : Table) (d o : ℕ) : Type 0 where
  pub since : (k : ℕ) → k < length t.entries → (at t.entries k).day ≤ d → (k + 1 < length t.entries → d < (at t.entries (k + 1)).day) → o ≡ (at t.entries k).offset
  pub before : d < first_entry_day → o ≡ first_entry_offset

-- what every table keeps: its days rise and are firsts of months, its offsets move at every entry, but by no more than the largest step
pub record Sound (t : Table) : Type 0 where
  pub some : 1 ≤ length t.entries
  pub room : length t.entries ≤ most_entries
  pub first_day : (at t.entries 0).day ≡ first_entry_day
  pub first_offset : (at t.entries 0).offset ≡ first_entry_offset
  pub days_rise : (k : ℕ) → k + 1 < length t.entries → (at t.entries k).day < (at t.entries (k + 1)).day
  pub month_firsts : (k : ℕ) → k < length t.entries → FirstOfMonth (at t.entries k).day
  pub moves : (k : ℕ) → k + 1 < length t.entries → 1 ≤ apart (at t.entries k).offset (at t.entries (k + 1)).offset
  pub steps : (k : ℕ) → k + 1 < length t.entries → apart (at t.entries k).offset (at t.entries (k + 1)).offset ≤ largest_step
  pub range : (k : ℕ) → k < length t.entries → (at t.entries k).offset ≤ top_offset
  pub last_in_time : (at t.entries (length t.entries - 1)).day < t.expiry
  pub expires : t.expiry ≤ table_end
