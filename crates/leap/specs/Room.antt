-- The room of a table: the entries in use, and blank ones after them.
use Rattle.std.specs.Prelude.{◌-◌, List, ◌++◌, length, replicate}
use Rattle.leap.specs.declared.entry.Entry.{Entry}
use Rattle.leap.specs.Table.{most_entries}

abbrev pub blank : Entry
blank = record { day = 0; offset = 0 }

abbrev pub padded : List Entry → List Entry
padded es = es ++ replicate (most_entries - length es) blank
