-- The table that stands before any bulletin.
use Rattle.std.specs.Prelude.{ℕ, List, [], ◌∷◌, map}
use Rattle.leap.specs.declared.entry.Entry.{Entry}
use Rattle.leap.specs.Table.{Table}

-- the days and their offsets
abbrev pub pairs : List (ℕ × ℕ)
pairs = (730, 10) ∷ (912, 11) ∷ (1096, 12) ∷ (1461, 13) ∷ (1826, 14) ∷ (2191, 15) ∷ (2557, 16) ∷ (2922, 17) ∷ (3287, 18) ∷ (3652, 19)
    ∷ (4199, 20) ∷ (4564, 21) ∷ (4929, 22) ∷ (5660, 23) ∷ (6574, 24) ∷ (7305, 25) ∷ (7670, 26) ∷ (8217, 27) ∷ (8582, 28) ∷ (8947, 29)
    ∷ (9496, 30) ∷ (10043, 31) ∷ (10592, 32) ∷ (13149, 33) ∷ (14245, 34) ∷ (15522, 35) ∷ (16617, 36) ∷ (17167, 37) ∷ []

abbrev pub pair_entry : ℕ × ℕ → Entry
pair_entry p = record { day = p.0; offset = p.1 }

abbrev pub starting_entries : List Entry
starting_entries = map pair_entry pairs

abbrev pub starting_expiry : ℕ
starting_expiry = 20000

abbrev pub starting : Table
starting = record { entries = starting_entries; expiry = starting_expiry }
