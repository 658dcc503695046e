-- The Gregorian calendar of the years 1970 to 2199.
use Rattle.std.specs.Prelude.{◌≡◌, ℕ, zero, suc, ◌+◌, ◌-◌, ◌*◌, ◌/◌, ◌%◌, ◌<◌, ◌≤◌, Bool, cond, not, ◌&&◌, ◌||◌, ◌==◌, nat_le, nat_lt}

-- the years that dates have, and the number of the last of their days, counted from 1970-01-01, which is day 0
abbrev pub first_year : ℕ
first_year = 1970

abbrev pub last_year : ℕ
last_year = 2199

abbrev pub last_day : ℕ
last_day = 84005

-- every fourth year is a leap year, but of the full centuries only every fourth
abbrev pub leap : ℕ → Bool
leap y = y % 4 == 0 && (not (y % 100 == 0) || y % 400 == 0)

-- the days of month m, from 1 to 12, of a year that is leap or not: thirty have April, June, September and November
abbrev pub month_length : Bool → ℕ → ℕ
month_length b m = cond (m == 2) (cond b 29 28) (cond ((m == 4 || m == 6) || (m == 9 || m == 11)) 30 31)

abbrev pub month_days : ℕ → ℕ → ℕ
month_days y m = month_length (leap y) m

abbrev pub year_days : ℕ → ℕ
year_days y = cond (leap y) 366 365

-- the days of the first k months that begin with January 1970
unfoldable pub months_days : ℕ → ℕ
months_days zero = 0
months_days (suc k) = months_days k + month_days (1970 + k / 12) (k % 12 + 1)

-- the days of the years before year y
abbrev pub before_year : ℕ → ℕ
before_year y = months_days (12 * (y - 1970))

-- the days from 1970-01-01 to day d of month m of year y
abbrev pub day_number : ℕ → ℕ → ℕ → ℕ
day_number y m d = months_days (12 * (y - 1970) + (m - 1)) + (d - 1)

abbrev pub ValidMonth : ℕ → ℕ → Type 0
ValidMonth y m = (first_year ≤ y) × (y ≤ last_year) × (1 ≤ m) × (m ≤ 12)

abbrev pub ValidDate : ℕ → ℕ → ℕ → Type 0
ValidDate y m d = ValidMonth y m × (1 ≤ d) × (d ≤ month_days y m)

-- day number n is the first of a month
abbrev pub FirstOfMonth : ℕ → Type 0
FirstOfMonth n = (y : ℕ) × (m : ℕ) × ValidMonth y m × (n ≡ day_number y m 1)

-- day n is in year y, after r other days of it
pub record InYear (n y r : ℕ) : Type 0 where
  pub year_from : 1970 ≤ y
  pub year_to : y ≤ 2199
  pub adds_up : before_year y + r ≡ n
  pub within : r < year_days y

-- after r days of year y comes day d of month m
pub record InMonth (y r m d : ℕ) : Type 0 where
  pub month_from : 1 ≤ m
  pub month_to : m ≤ 12
  pub adds_up : months_days (12 * (y - 1970) + (m - 1)) + (d - 1) ≡ before_year y + r
  pub day_from : 1 ≤ d
  pub day_to : d ≤ month_days y m

-- the days of month k, counted from January 1970 on
abbrev pub length_of : ℕ → ℕ
length_of k = month_days (1970 + k / 12) (k % 12 + 1)

-- from the first of month k on, n days later: the month, and the days of it that are over. At most f whole months are taken off
unfoldable pub take_months : ℕ → ℕ → ℕ → ℕ × ℕ
take_months zero k n = (k, n)
take_months (suc f) k n = cond (nat_lt n (length_of k)) (k, n) (take_months f (suc k) (n - length_of k))

pub record Fields : Type 0 where
  pub year : ℕ
  pub month : ℕ
  pub day : ℕ

abbrev pub fields_at : ℕ × ℕ → Fields
fields_at p = record { year = 1970 + p.0 / 12; month = p.0 % 12 + 1; day = p.1 + 1 }

-- the date of day n: whole months are taken off from January 1970 on, of which the calendar has 2,760
unfoldable pub date_of : ℕ → Fields
date_of n = fields_at (take_months 2760 0 n)

-- the same as FirstOfMonth, as a test that can be computed
unfoldable pub month_first : ℕ → Bool
month_first n = nat_le n last_day && (date_of n).day == 1
