-- The forms that need no calendar: POSIX seconds, NTP and GPS weeks.
use Rattle.std.specs.Prelude.{◌≡◌, ℕ, ◌+◌, ◌-◌, ◌*◌, ◌/◌, ◌%◌, ◌<◌, ◌≤◌, Bool, ◌||◌, Ok, Result, nat_le, nat_lt}
use Rattle.refusals.specs.declared.fault.Cause.TheVariants.{Field, Window}
use Rattle.refusals.specs.declared.fault.Fault.{Fault}
use Rattle.refusals.specs.declared.fault.Way.TheVariants.{Reading, Showing}
use Rattle.clocks.specs.Counts.{second}
use Rattle.clocks.specs.Rungs.{refused_if, counted}
use Rattle.clocks.specs.Forms.{FormMeaning}

-- a stamp with a wrong field is refused; a form that reads was handed no count, so 0 is told
abbrev pub fields_if : Bool → Result ℕ Fault → Result ℕ Fault
fields_if wrong a = refused_if wrong Field Reading 0 a

-- POSIX: hi seconds, lo nanoseconds
abbrev pub posix : FormMeaning
posix = record {
  reads = λ t p. fields_if (nat_le 8000000000 p.0 || nat_le second p.1) (Ok (p.0 * second + p.1));
  shows = λ t n. counted Showing n (Ok (n / second, n % second));
  loss = 0;
}

-- s is the one number from pivot on, and below pivot + turn, that leaves h on division by turn
pub record TheOne (turn pivot h s : ℕ) : Type 0 where
  pub from : pivot ≤ s
  pub below_end : s < pivot + turn
  pub leaves : s % turn ≡ h
  pub only : (k : ℕ) → pivot ≤ k → k < pivot + turn → k % turn ≡ h → k ≡ s

-- that number
abbrev pub full : ℕ → ℕ → ℕ → ℕ
full turn pivot h = pivot + (h + (turn - pivot % turn)) % turn

-- two to the 32nd: the seconds of an NTP era, and the fractions of a second
abbrev pub era : ℕ
era = 4294967296

-- 1970-01-01 in NTP seconds, which count from 1900-01-01
abbrev pub ntp_1970 : ℕ
ntp_1970 = 2208988800

abbrev pub last_ntp_pivot : ℕ
last_ntp_pivot = 5900000000

-- a quotient rounded up
abbrev pub up : ℕ → ℕ → ℕ
up x k = (x + (k - 1)) / k

-- NTP with a pivot: hi seconds of an era and lo fractions, of which the era is the one that the pivot says
abbrev pub ntp : ℕ → FormMeaning
ntp pivot = record {
  reads = λ t p. fields_if (nat_le era p.0 || nat_le era p.1) (Ok ((full era pivot p.0 - ntp_1970) * second + up (p.1 * second) era));
  shows = λ t n. counted Showing n (
      refused_if (nat_lt (n / second + ntp_1970) pivot || nat_le (pivot + era) (n / second + ntp_1970)) Window Showing n
      (Ok ((n / second + ntp_1970) % era, n % second * era / second)));
  loss = 0;
}

-- the weeks of a GPS turn, and a week in milliseconds and in ticks
abbrev pub gps_turn : ℕ
gps_turn = 1024

abbrev pub week_millis : ℕ
week_millis = 604800000

abbrev pub millisecond : ℕ
millisecond = 1000000

abbrev pub week : ℕ
week = 604800000000000

abbrev pub last_gps_pivot : ℕ
last_gps_pivot = 10000

-- GPS with a pivot week: hi the week of a turn, lo milliseconds of the week; counts begin with 1980-01-06
abbrev pub gps : ℕ → FormMeaning
gps pivot = record {
  reads = λ t p. fields_if (nat_le gps_turn p.0 || nat_le week_millis p.1) (Ok (full gps_turn pivot p.0 * week + p.1 * millisecond));
  shows = λ t n. counted Showing n (
      refused_if (nat_lt (n / week) pivot || nat_le (pivot + gps_turn) (n / week)) Window Showing n
      (Ok (n / week % gps_turn, n % week / millisecond)));
  loss = 999999;
}
