-- A table put together from its parts.
use Rattle.std.specs.Prelude.{ℕ, List}
use Rattle.leap.specs.declared.entry.Entry.{Entry}
use Rattle.leap.specs.Table.{Table}

abbrev pub table_from : List Entry → ℕ → Table
table_from es x = record { entries = es; expiry = x }
