-- Stamps of the standard clocks: what is read and shown, and how they are written for people.
use Rattle.std.specs.Prelude.{ℕ, List, [], ◌++◌, ◌-◌, ◌/◌, ◌%◌, ◌^◌, ◌==◌, cond, codes, Ok, Err, Result}
use Rattle.std.specs.Fmt.{decimal, styled_decimal, format_spec}
use Rattle.clocks.specs.Counts.{second}
use Rattle.refusals.specs.declared.refusal.Refusal.{Refusal}
use Rattle.readable.specs.declared.clock.Clock.{Clock}
use Rattle.readable.specs.declared.clock.Clock.TheVariants.{Tai, Utc, Posix, Smear, Ntp, Gps}
use Rattle.readable.specs.declared.stamp.Stamp.{Stamp}

-- a shown stamp with its clock
abbrev pub stamped : Clock → Result (ℕ × ℕ) Refusal → Result Stamp Refusal
stamped clock (Ok fields) = Ok (record { clock = clock; fields = fields })
stamped clock (Err refusal) = Err refusal

-- a number with zeros before it, up to so many digits
abbrev pub zero_padded : ℕ → ℕ → List ℕ
zero_padded width n = styled_decimal (format_spec 32 0 4 width (2 ^ 64 - 1)) n

-- a point, and so many digits after it
abbrev pub point_text : ℕ → ℕ → List ℕ
point_text digits n = codes "." ++ zero_padded digits n

-- what comes after the seconds, if anything does: milliseconds or microseconds where they are whole, or nanoseconds
abbrev pub nanos_text : ℕ → List ℕ
nanos_text nanos =
    cond (nanos == 0) [] (cond (nanos % 1000000 == 0) (point_text 3 (nanos / 1000000)) (cond (nanos % 1000 == 0) (point_text 6 (nanos / 1000)) (point_text 9 nanos)))

-- three fields that are joined in one number, the first of so many digits, with a sign between them
abbrev pub fields_text : ℕ → List ℕ → ℕ → List ℕ
fields_text width sign n =
    zero_padded width (n / 10000) ++ sign ++ zero_padded 2 (n / 100 % 100) ++ sign ++ zero_padded 2 (n % 100)

abbrev pub fraction_text : ℕ → List ℕ
fraction_text lo = cond (lo == 0) [] (codes " + " ++ decimal lo ++ codes "/2^32")

abbrev pub stamp_text : Clock → ℕ → ℕ → List ℕ
stamp_text Tai hi lo = decimal hi ++ nanos_text lo
stamp_text Utc hi lo =
    fields_text 4 (codes "-") hi ++ codes "T" ++ fields_text 2 (codes ":") (lo / second) ++ nanos_text (lo % second)
stamp_text Posix hi lo = decimal hi ++ nanos_text lo
stamp_text Smear hi lo = decimal hi ++ nanos_text lo
stamp_text Ntp hi lo = decimal hi ++ fraction_text lo
stamp_text Gps hi lo = codes "week " ++ decimal hi ++ codes ", " ++ decimal lo ++ codes " ms"
