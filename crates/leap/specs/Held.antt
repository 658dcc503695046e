-- The table that the code holds, and what its fields keep.
use Rattle.std.specs.Prelude.{◌≡◌, ◌≤◌, IsTrue, length, take}
use Rattle.leap.specs.declared.table.LeapTable.TheInside.{Inside}
use Rattle.leap.specs.Table.{Table, most_entries}
use Rattle.leap.specs.Test.{sound}
use Rattle.leap.specs.Room.{padded}

-- the entries in use, and the expiry
abbrev pub shown : Inside → Table
shown t = record { entries = take t.count t.entries; expiry = t.expiry }

-- what the fields keep: entries past the count are blank, and those in use are a sound table's
pub record Held (t : Inside) : Type 0 where
  pub sized : length t.entries ≡ most_entries
  pub low : 1 ≤ t.count
  pub high : t.count ≤ most_entries
  pub filled : padded (take t.count t.entries) ≡ t.entries
  pub keeps : IsTrue (sound (take t.count t.entries) t.expiry)

-- the fields that show a table
abbrev pub fields_of : Table → Inside
fields_of t = record { entries = padded t.entries; count = length t.entries; expiry = t.expiry }
