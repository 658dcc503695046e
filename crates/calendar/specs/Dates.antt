-- Dates in their order, and the field of a date that is wrong.
use Rattle.std.specs.Prelude.{◌≡◌, ℕ, ◌+◌, ◌<◌, ◌≤◌, Bool, cond, ◌&&◌, ◌⊎◌, Some, None, Option, nat_le}
use Rattle.calendar.specs.declared.field.DateField.{DateField}
use Rattle.calendar.specs.declared.field.DateField.TheVariants.{Year, Month, Day}
use Rattle.calendar.specs.Calendar.{first_year, last_year, month_days, day_number, ValidDate, FirstOfMonth}

-- one date comes before another
abbrev pub Before : ℕ → ℕ → ℕ → ℕ → ℕ → ℕ → Type 0
Before y m d y' m' d' = (y < y') ⊎ ((y ≡ y') × ((m < m') ⊎ ((m ≡ m') × (d < d'))))

abbrev pub between : ℕ → ℕ → ℕ → Bool
between low n high = nat_le low n && nat_le n high

-- the first field of a date that is wrong
abbrev pub wrong_field : ℕ → ℕ → ℕ → Option DateField
wrong_field y m d =
    cond (between first_year y last_year) (cond (between 1 m 12) (cond (between 1 d (month_days y m)) None (Some Day)) (Some Month)) (Some Year)

-- the first days of months are 28 days apart, or more
abbrev pub Apart : ℕ → Type 0
Apart a = (b : ℕ) → FirstOfMonth b → a < b → a + 28 ≤ b

-- n is the number of no other date, and of a later day than any date before
pub record StandsAlone (y m d n : ℕ) : Type 0 where
  pub one : (y' m' d' : ℕ) → ValidDate y' m' d' → day_number y' m' d' ≡ n → (y' ≡ y) × (m' ≡ m) × (d' ≡ d)
  pub rises : (y' m' d' : ℕ) → ValidDate y' m' d' → Before y' m' d' y m d → day_number y' m' d' < n
