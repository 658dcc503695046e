-- The standard clocks by their feeds and by their names.
use Rattle.std.specs.Prelude.{◌≡◌, ◌≢◌, ℕ, List, ◌++◌, Result, MatchResult, codes}
use Rattle.readable.specs.declared.clock.Clock.{Clock}
use Rattle.readable.specs.declared.clock.Clock.TheVariants.{Tai, Utc, Posix, Smear, Ntp, Gps}

abbrev pub feed_number : Clock → ℕ
feed_number Tai = 0
feed_number Utc = 1
feed_number Posix = 2
feed_number Smear = 3
feed_number Ntp = 4
feed_number Gps = 5

abbrev pub clock_name : Clock → List ℕ
clock_name Tai = codes "tai"
clock_name Utc = codes "utc"
clock_name Posix = codes "posix"
clock_name Smear = codes "smear"
clock_name Ntp = codes "ntp"
clock_name Gps = codes "gps"

-- the result is the clock that has the name, and there is none where it is refused
abbrev pub Named : {E : Type 0} → List ℕ → Result Clock E → Type 0
Named word r = MatchResult r (λ clock. word ≡ clock_name clock) (λ _. (clock : Clock) → word ≢ clock_name clock)

-- a word that no clock goes by, in a sentence
abbrev pub unknown_words : List ℕ → List ℕ
unknown_words word = codes "no clock is called " ++ word ++ codes ": expected tai, utc, posix, smear, ntp or gps"
