-- A day number belongs to one date, and rises with the dates; the first days of months are 28 days apart.
use Rattle.std.proofs.Common.{◌≡◌, ℕ, zero, suc, ◌+◌, ◌-◌, ◌*◌, ◌/◌, ◌%◌, ◌<◌, ◌≤◌, true, false, ◌&&◌, eqb, leb, ◌⊎◌, Bool, Some, None, Option, MatchOption, sym, refl, ap, ◌∙◌, inl, inr, add-zero, arith}
use Rattle.std.proofs.lemmas.Bool.{cases_order, cases_lt, lt-ltb, le-ltb, le-leb, lt-leb, leb-true, eqb-true, and_parts}
use Rattle.calendar.specs.declared.date.Date.{Date}
use Rattle.calendar.specs.declared.field.DateField.TheVariants.{Day}
use Rattle.calendar.specs.Calendar.{leap, month_days, months_days, day_number, ValidMonth, ValidDate, FirstOfMonth, length_of, take_months, date_of, month_first}
use Rattle.calendar.specs.Dates.{Before, Apart, StandsAlone, wrong_field}
use Rattle.std.proofs.lemmas.Bool.Decides.{nat_tests}
use Rattle.calendar.proofs.Months.{month_step, month_at, month_ends, one_month, least_month, end_of_2199}

-- the months before month m of year y
unfoldable pub index : ℕ → ℕ → ℕ
index y m = 12 * (y - 1970) + (m - 1)

pub month_end : (y m : ℕ) → ValidMonth y m → months_days (suc (index y m)) ≡ months_days (index y m) + month_days y m
unfolding index
month_end y m v =
    let e : 1970 + (y - 1970) ≡ y = omega arith in
    let f : (m - 1) + 1 ≡ m = omega arith in
    month_at (y - 1970) (m - 1) (omega arith) ∙ ap (λ (n : ℕ). months_days (12 * (y - 1970) + (m - 1)) + n) (ap (λ (z : ℕ). month_days z ((m - 1) + 1)) e ∙ ap (λ (z : ℕ). month_days y z) f)

index_one : (y m z n : ℕ) → ValidMonth y m → ValidMonth z n → index y m ≡ index z n → (y ≡ z) × (m ≡ n)
unfolding index
index_one y m z n v w e = (omega arith, omega arith)

index_rises : (y m z n : ℕ) → ValidMonth y m → ValidMonth z n → (y < z) ⊎ ((y ≡ z) × (m < n)) → index y m < index z n
unfolding index
index_rises y m z n v w (inl l) = omega arith
index_rises y m z n v w (inr p) = omega arith

index_below : (y m : ℕ) → ValidMonth y m → index y m < 2760
unfolding index
index_below y m v = omega arith

number_is : (y m d : ℕ) → day_number y m d ≡ months_days (index y m) + (d - 1)
unfolding index
number_is y m d = refl

-- a month has its first day
pub first_valid : (y m : ℕ) → ValidMonth y m → ValidDate y m 1
first_valid y m v = (v, omega arith, omega (arith, least_month (leap y) m))

-- a date lies within its month
in_month : (y m d : ℕ) → ValidDate y m d → months_days (index y m) + (d - 1) < months_days (suc (index y m))
in_month y m d v = omega (arith, month_end y m v.0)

pub last_day : (y m d : ℕ) → ValidDate y m d → day_number y m d ≤ 84005
last_day y m d v =
    elim (cases_order (suc (index y m)) 2760) [
      | inl e ↦ omega (arith, number_is y m d, in_month y m d v, ap months_days e, end_of_2199)
      | inr o ↦ elim o [
        | inl l ↦ omega (arith, number_is y m d, in_month y m d v, month_ends (index y m) 2760 (omega arith), end_of_2199)
        | inr g ↦ omega (arith, index_below y m v.0)
      ]
    ]

pub one_date : (y m d z n e : ℕ) → ValidDate y m d → ValidDate z n e → day_number y m d ≡ day_number z n e → (y ≡ z) × (m ≡ n) × (d ≡ e)
one_date y m d z n e v w same =
    let p = number_is y m d in
    let q = number_is z n e in
    let at = one_month (index y m) (index z n) (d - 1) (e - 1) (in_month y m d v) (in_month z n e w) (omega arith) in
    let f = index_one y m z n v.0 w.0 at in
    let k = ap months_days at in
    (f.0, f.1, omega arith)

pub rises : (y m d z n e : ℕ) → ValidDate y m d → ValidDate z n e → Before y m d z n e → day_number y m d < day_number z n e
rises y m d z n e v w (inl l) =
    omega (arith, number_is y m d, number_is z n e, in_month y m d v, month_ends (index y m) (index z n) (index_rises y m z n v.0 w.0 (inl l)))
rises y m d z n e v w (inr (a, inl l)) =
    omega (arith, number_is y m d, number_is z n e, in_month y m d v, month_ends (index y m) (index z n) (index_rises y m z n v.0 w.0 (inr (a, l))))
rises y m d z n e v w (inr (a, inr (b, l))) =
    let s : index y m ≡ index z n = ap (λ (k : ℕ). index k m) a ∙ ap (index z) b in
    omega (arith, number_is y m d, number_is z n e, ap months_days s)

pub stands_alone : (y m d n : ℕ) → ValidDate y m d → n ≡ day_number y m d → StandsAlone y m d n
stands_alone y m d n v e =
    record {
      one = λ y' m' d' v' e'. one_date y' m' d' y m d v' v (e' ∙ e);
      rises = λ y' m' d' v' b. rw e (rises y' m' d' y m d v' v b);
    }

pub apart : (a : ℕ) → FirstOfMonth a → Apart a
apart a (y, m, v, p) b (z, n, w, q) l =
    let i = number_is y m 1 in
    let j = number_is z n 1 in
    let e = month_end y m v in
    let f = month_end z n w in
    let least = least_month (leap y) m in
    elim (cases_order (index y m) (index z n)) [
      | inl s ↦ omega (arith, ap months_days s)
      | inr o ↦ elim o [ inl s ↦ omega (arith, month_ends (index y m) (index z n) s) | inr s ↦ omega (arith, month_ends (index z n) (index y m) s) ]
    ]

-- after whole months are taken off, the days add up, and what is left lies in its month
pub taken_adds : (f k n : ℕ) → months_days (take_months f k n).0 + (take_months f k n).1 ≡ months_days k + n
unfolding take_months
taken_adds zero k n = refl
taken_adds (suc f) k n =
    elim (cases_lt n (length_of k)) [
      | inl l ↦ rw (lt-ltb n (length_of k) l)
      | inr g ↦ rw (le-ltb n (length_of k) g) (taken_adds f (suc k) (n - length_of k) ∙ omega (arith, month_step k))
    ]

pub taken_ends : (f k n : ℕ) → months_days k + n < months_days (k + f) → ((take_months f k n).0 < k + f) × ((take_months f k n).1 < length_of (take_months f k n).0)
unfolding take_months
taken_ends zero k n h = let no : ⊥ = omega (arith, ap months_days (add-zero k)) in absurd no
taken_ends (suc f) k n h =
    elim (cases_lt n (length_of k)) [
      | inl l ↦ rw (lt-ltb n (length_of k) l) (omega arith, l)
      | inr g ↦ rw (le-ltb n (length_of k) g) (let s : suc k + f ≡ k + suc f = omega arith in let r = taken_ends f (suc k) (n - length_of k) (omega (arith, month_step k, ap months_days s)) in (omega arith, r.1))
    ]

fields_are : (k r n : ℕ) → k < 2760 → r < length_of k → months_days k + r ≡ n → ValidDate (1970 + k / 12) (k % 12 + 1) (r + 1) × (day_number (1970 + k / 12) (k % 12 + 1) (r + 1) ≡ n)
fields_are k r n h l e =
    let same : 12 * ((1970 + k / 12) - 1970) + ((k % 12 + 1) - 1) ≡ k = omega arith in
    let at = ap months_days same in
    (((omega arith, omega arith, omega arith, omega arith), omega arith, omega arith), omega arith)

no_months : months_days 0 ≡ 0
unfolding months_days
no_months = refl

pub date_of_is : (n : ℕ) → n ≤ 84005 → ValidDate (date_of n).year (date_of n).month (date_of n).day × (day_number (date_of n).year (date_of n).month (date_of n).day ≡ n)
unfolding date_of
date_of_is n h =
    let ends = taken_ends 2760 0 n (omega (arith, no_months, end_of_2199)) in
    fields_are (take_months 2760 0 n).0 (take_months 2760 0 n).1 n ends.0 ends.1 (omega (arith, taken_adds 2760 0 n, no_months))

-- a date with no wrong field is valid, and a valid one has none
pub right_is_valid : (y m d : ℕ) → wrong_field y m d ≡ None → ValidDate y m d
right_is_valid y m d e = ((grind (arith, nat_tests), grind (arith, nat_tests), grind (arith, nat_tests), grind (arith, nat_tests)), grind (arith, nat_tests), grind (arith, nat_tests))

pub valid_is_right : (y m d : ℕ) → ValidDate y m d → wrong_field y m d ≡ None
valid_is_right y m d v = grind (arith, nat_tests)

-- the test for the first of a month answers by the day of the date
pub month_first_is : (y m d n : ℕ) → ValidDate y m d → day_number y m d ≡ n → month_first n ≡ eqb d 1
unfolding month_first
month_first_is y m d n v e =
    let h : n ≤ 84005 = omega (arith, last_day y m d v) in
    let at = date_of_is n h in
    let same = one_date (date_of n).year (date_of n).month (date_of n).day y m d at.0 v (at.1 ∙ sym e) in
    ap (λ b. b && eqb (date_of n).day 1) (le-leb n 84005 h) ∙ ap (λ (k : ℕ). eqb k 1) same.2

pub month_first_late : (n : ℕ) → 84005 < n → month_first n ≡ false
unfolding month_first
month_first_late n h = rw (lt-leb n 84005 h)

-- a day that passes the test is the first of a month, and every first of a month passes
pub month_first_says : (n : ℕ) → month_first n ≡ true → FirstOfMonth n
unfolding month_first
month_first_says n t =
    let p = and_parts (leb n 84005) (eqb (date_of n).day 1) t in
    let at = date_of_is n (leb-true n 84005 p.0) in
    ((date_of n).year, (date_of n).month, at.0.0, sym at.1 ∙ ap (day_number (date_of n).year (date_of n).month) (eqb-true (date_of n).day 1 p.1))

pub month_first_passes : (n : ℕ) → FirstOfMonth n → month_first n ≡ true
month_first_passes n (y, m, v, e) = month_first_is y m 1 n (first_valid y m v) (sym e)

-- so the test is the test for the first of the month of the date of a day, and false where the day has none
pub month_first_test : (P : Date → Type 0) (o : Option Date) (n : ℕ) (r : Bool) → MatchOption o (84005 < n) (λ d. day_number d.year d.month d.day ≡ n) → MatchOption o (r ≡ false) P → ((d : Date) → P d → r ≡ eqb d.day 1) → r ≡ month_first n
month_first_test P None n r late never means = never ∙ sym (month_first_late n late)
month_first_test P (Some d) n r numbered is means = means d is ∙ sym (month_first_is d.year d.month d.day n d.valid numbered)

-- where the day alone is wrong, it is the first wrong field
pub wrong_day : (y m d n : ℕ) → ValidMonth y m → n ≡ month_days y m → (d < 1) ⊎ (n < d) → wrong_field y m d ≡ Some Day
wrong_day y m d n v e (inl l) = grind (arith, nat_tests)
wrong_day y m d n v e (inr l) = grind (arith, nat_tests)
