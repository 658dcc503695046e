-- What a bulletin makes of a table. Its change is 0 for none, 1 for a second inserted and 2 for a second deleted, right before its day.
use Rattle.std.specs.Prelude.{◌≡◌, ℕ, ◌+◌, ◌-◌, ◌<◌, ◌≤◌, Bool, true, cond, not, ◌&&◌, ◌||◌, ◌⊎◌, [], ◌∷◌, ◌++◌, length, Some, None, Ok, Err, Option, Result, ◌==◌, nat_le, nat_lt}
use Rattle.refusals.specs.Said.{Said, plain}
use Rattle.calendar.specs.Calendar.{month_first}
use Rattle.leap.specs.declared.entry.Entry.{Entry}
use Rattle.leap.specs.declared.bulletin.Bulletin.{Bulletin}
use Rattle.leap.specs.Table.{Table, largest_step, top_offset, most_entries, table_end, apart, at, off, len}

abbrev pub last_offset : Table → ℕ
last_offset t = (at t.entries (length t.entries - 1)).offset

-- the offset after a change of 1 or 2
abbrev pub moved : ℕ → ℕ → ℕ
moved c o = cond (c == 1) (o + 1) (o - 1)

-- that offset would be above the largest, or below 0
abbrev pub leaves_range : ℕ → ℕ → Bool
leaves_range c o = cond (c == 1) (nat_le top_offset o) (o == 0)

-- the offset after the change, none where it would leave the range
abbrev pub next_offset : ℕ → ℕ → Option ℕ
next_offset c o = cond (leaves_range c o) None (Some (moved c o))

abbrev pub refused : ℕ → Result (Unit {0}) Said
refused n = Err (plain n)

-- the checks of a change of 1 or 2
abbrev pub judged_change : Table → Bulletin → Result (Unit {0}) Said
judged_change t b =
    cond ((nat_lt t.expiry b.day && nat_lt b.day b.expiry) && month_first b.day)
    (cond (nat_le most_entries (length t.entries) || leaves_range b.change (last_offset t)) (refused 22) (Ok tt))
    (refused 21)

-- the first check that fails gives the answer
abbrev pub judged : Table → Bulletin → Result (Unit {0}) Said
judged t b =
    cond (nat_lt 2 b.change || (b.change == 0 && not (b.day == 0))) (refused 19)
    (cond (nat_lt b.expiry t.expiry || nat_lt table_end b.expiry) (refused 20)
    (cond (b.change == 0) (Ok tt) (judged_change t b)))

-- the entry that a change of 1 or 2 appends
abbrev pub new_entry : Table → Bulletin → Entry
new_entry t b = record { day = b.day; offset = moved b.change (last_offset t) }

-- the same entries with another expiry, and one more entry
abbrev pub extended : Table → ℕ → Table
extended t x = record { entries = t.entries; expiry = x }

abbrev pub appended : Table → Entry → ℕ → Table
appended t e x = record { entries = t.entries ++ e ∷ []; expiry = x }

-- the table that an accepted bulletin makes
abbrev pub renewed : Table → Bulletin → Table
renewed t b = cond (b.change == 0) (extended t b.expiry) (appended t (new_entry t b) b.expiry)

-- a refused bulletin alters nothing
abbrev pub after_answer : Table → Table → Result (Unit {0}) Said → Table
after_answer t u (Ok a) = u
after_answer t u (Err s) = t

abbrev pub table_after : Table → Bulletin → Table
table_after t b = after_answer t (renewed t b) (judged t b)

-- entry e may be appended to t, with a new expiry x
pub record Appendable (t : Table) (e : Entry) (x : ℕ) : Type 0 where
  pub room : length t.entries < most_entries
  pub after : t.expiry < e.day
  pub before : e.day < x
  pub expires : x ≤ table_end
  pub month : month_first e.day ≡ true
  pub moves : 1 ≤ apart (last_offset t) e.offset
  pub steps : apart (last_offset t) e.offset ≤ largest_step
  pub range : e.offset ≤ top_offset

-- table u has what t has: the same entries, or one more whose day comes after the expiry of t; and it expires no earlier
pub record Renews (t u : Table) : Type 0 where
  pub expiry_grows : t.expiry ≤ u.expiry
  pub entries_stand : (u.entries ≡ t.entries) ⊎ ((e : Entry) × (u.entries ≡ t.entries ++ e ∷ []) × (t.expiry < e.day) × (e.day < u.expiry))

-- what t says of the days that it is valid for, u says too
pub record KeepsPast (t u : Table) : Type 0 where
  pub offsets : (d : ℕ) → d ≤ t.expiry → off u d ≡ off t d
  pub lengths : (d : ℕ) → d < t.expiry → len u d ≡ len t d
