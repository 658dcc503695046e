-- What every table keeps, as a test that can be computed. That it says the same is proved in proofs/Saying.
use Rattle.std.specs.Prelude.{ℕ, Bool, false, ◌&&◌, List, [], ◌∷◌, ◌==◌, nat_le, nat_lt}
use Rattle.std.specs.List.{list_all, zip}
use Rattle.calendar.specs.Calendar.{month_first}
use Rattle.leap.specs.declared.entry.Entry.{Entry}
use Rattle.leap.specs.Table.{largest_step, top_offset, table_end, first_entry_day, first_entry_offset, apart}

-- neighbouring offsets may differ so
abbrev pub near : ℕ → ℕ → Bool
near a b = nat_le 1 (apart a b) && nat_le (apart a b) largest_step

-- entry b may stand right after entry a
abbrev pub next_to : Entry → Entry → Bool
next_to a b = (nat_lt a.day b.day && near a.offset b.offset) && (nat_le b.offset top_offset && month_first b.day)

-- each of these entries may stand right before the later one beside it
abbrev pub in_order : List Entry → List Entry → Bool
in_order es later = list_all (λ p. next_to p.0 p.1) (zip es later)

-- the entries that stand after entry a, and the expiry
abbrev pub chain : Entry → List Entry → ℕ → Bool
chain a [] x = nat_lt a.day x
chain a (b ∷ es) x = next_to a b && chain b es x

abbrev pub first_entry : Entry → Bool
first_entry e = e.day == first_entry_day && e.offset == first_entry_offset

-- a table of these entries with expiry x, but for the number of entries
abbrev pub sound : List Entry → ℕ → Bool
sound [] x = false
sound (e ∷ es) x = first_entry e && (nat_le x table_end && chain e es x)
