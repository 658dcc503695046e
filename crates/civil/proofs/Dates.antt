-- Dates as yyyymmdd: joined fields come apart again, and a date is read as its day and shown from it.
use Rattle.std.proofs.Common.{◌≡◌, ℕ, ◌<◌, ◌≤◌, false, None, Some, Option, is_some, ap, refl, arith}
use Rattle.calendar.specs.Calendar.{leap, day_number, date_of, last_day, ValidDate}
use Rattle.calendar.specs.Dates.{wrong_field}
use Rattle.calendar.proofs.Months.{most_month}
use Rattle.calendar.proofs.Dates.{date_of_is, one_date, right_is_valid, valid_is_right, last_day as at_most_last}
use Rattle.civil.specs.Civil.{joined, first, middle, last, no_date, day_read, date_shown}

-- the fields that a number joins
pub record Joins (x a b c : ℕ) : Type 0 where
  pub first_is : first x ≡ a
  pub middle_is : middle x ≡ b
  pub last_is : last x ≡ c

pub comes_apart : (a b c : ℕ) → b < 100 → c < 100 → Joins (joined a b c) a b c
comes_apart a b c p q = record { first_is = omega arith; middle_is = omega arith; last_is = omega arith }

pub joins_again : (x : ℕ) → joined (first x) (middle x) (last x) ≡ x
joins_again x = omega arith

none : {A : Type 0} (o : Option A) → is_some o ≡ false → o ≡ None
none None e = refl
none (Some a) e = absurd cc

pub right_date : (x : ℕ) → no_date x ≡ false → ValidDate (first x) (middle x) (last x)
right_date x e = right_is_valid (first x) (middle x) (last x) (none (wrong_field (first x) (middle x) (last x)) e)

pub date_reads : (y m d : ℕ) → ValidDate y m d → (no_date (joined y m d) ≡ false) × (day_read (joined y m d) ≡ day_number y m d)
date_reads y m d v =
    let f = comes_apart y m d (omega arith) (omega (arith, most_month (leap y) m)) in
    (rw (f.first_is, f.middle_is, f.last_is) (ap is_some (valid_is_right y m d v)), rw (f.first_is, f.middle_is, f.last_is))

-- a date is shown where its day is
pub date_is_shown : (y m d n : ℕ) → ValidDate y m d → day_number y m d ≡ n → joined y m d ≡ date_shown n
date_is_shown y m d n v e =
    let p = date_of_is n (omega (arith, at_most_last y m d v)) in
    let same = one_date y m d (date_of n).year (date_of n).month (date_of n).day v p.0 (omega arith) in
    omega arith

-- the date of a day is read as that day
pub day_comes_back : (n : ℕ) → n ≤ last_day → (no_date (date_shown n) ≡ false) × (day_read (date_shown n) ≡ n)
day_comes_back n h =
    let p = date_of_is n h in
    let r = date_reads (date_of n).year (date_of n).month (date_of n).day p.0 in
    (r.0, omega arith)

-- and the day of a date is shown as that date
pub date_comes_back : (x : ℕ) → no_date x ≡ false → (day_read x ≤ last_day) × (date_shown (day_read x) ≡ x)
date_comes_back x e =
    let v = right_date x e in
    let h = at_most_last (first x) (middle x) (last x) v in
    let shown = date_is_shown (first x) (middle x) (last x) (day_read x) v refl in
    (h, omega (arith, joins_again x))
