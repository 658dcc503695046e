-- The wrong field of a date in words, for people.
use Rattle.std.specs.Prelude.{ℕ, List, codes}
use Rattle.calendar.specs.declared.field.DateField.{DateField}
use Rattle.calendar.specs.declared.field.DateField.TheVariants.{Year, Month, Day}

abbrev pub field_words : DateField → List ℕ
field_words Year = codes "the year is not one of 1970 to 2199"
field_words Month = codes "the month is not one of 1 to 12"
field_words Day = codes "the month has no such day"
