-- The sum of the months' lengths: its values at the starts of months and years, and how it rises.
use Rattle.std.proofs.Common.{◌≡◌, ℕ, zero, suc, ◌+◌, ◌-◌, ◌*◌, ◌/◌, ◌%◌, ◌<◌, ◌≤◌, Bool, true, false, cond, ◌&&◌, eqb, ltb, leb, List, [], ◌∷◌, get_or, sym, refl, ap, ◌∙◌, subst, inl, inr, add-zero, add-suc, arith}
use Rattle.std.proofs.lemmas.Bool.{agree_below, agree_below_at, eqb-true, leb-true, cases_order, lt-ltb}
use Rattle.std.proofs.lemmas.Bool.Decides.{nat_tests}
use Rattle.calendar.specs.Calendar.{leap, month_length, month_days, year_days, months_days, before_year, InYear, InMonth}

pub end_of_2199 : months_days 2760 ≡ 84006
unfolding months_days
end_of_2199 = refl

pub month_step : (j : ℕ) → months_days (suc j) ≡ months_days j + month_days (1970 + j / 12) (j % 12 + 1)
unfolding months_days
month_step j = refl

pub least_month : (b : Bool) (m : ℕ) → 28 ≤ month_length b m
least_month b m = grind (arith, nat_tests)

-- a month ends before any later one begins
pub month_ends : (j k : ℕ) → j < k → months_days (suc j) ≤ months_days k
unfolding months_days
month_ends j zero h = omega arith
month_ends j (suc k) h = elim (cases_order j k) [ inl e ↦ subst (λ (i : ℕ). months_days (suc j) ≤ months_days (suc i)) e (omega arith) | inr o ↦ elim o [ inl l ↦ omega (arith, month_ends j k l) | inr g ↦ omega arith ] ]

-- a day lies in one month
pub one_month : (j k a b : ℕ) → months_days j + a < months_days (suc j) → months_days k + b < months_days (suc k) → months_days j + a ≡ months_days k + b → j ≡ k
one_month j k a b p q e =
    elim (cases_order j k) [ inl s ↦ s | inr o ↦ elim o [ inl l ↦ omega (arith, month_ends j k l) | inr g ↦ omega (arith, month_ends k j g) ] ]

-- a test f passes at each number below n where `agree_below f always n` computes to true
abbrev always : ℕ → Bool
always m = true

-- the days before month m, counted from 0, of a year
abbrev pub starts : List ℕ
starts = 0 ∷ 31 ∷ 59 ∷ 90 ∷ 120 ∷ 151 ∷ 181 ∷ 212 ∷ 243 ∷ 273 ∷ 304 ∷ 334 ∷ 365 ∷ []

unfoldable pub start_in : Bool → ℕ → ℕ
start_in b m = get_or starts m 0 + cond (ltb 1 m && b) 1 0

adds : Bool → ℕ → Bool
adds b m = eqb (start_in b (suc m)) (start_in b m + month_length b (m + 1))

adds_up : (b : Bool) → agree_below (adds b) always 12 ≡ true
unfolding adds start_in
adds_up true = refl
adds_up false = refl

start_step : (b : Bool) (m : ℕ) → m < 12 → start_in b (suc m) ≡ start_in b m + month_length b (m + 1)
unfolding adds
start_step b m h = eqb-true (start_in b (suc m)) (start_in b m + month_length b (m + 1)) (agree_below_at (adds b) always 12 m (adds_up b) h)

pub month_at : (k m : ℕ) → m < 12 → months_days (suc (12 * k + m)) ≡ months_days (12 * k + m) + month_days (1970 + k) (m + 1)
month_at k m h =
    let q : (12 * k + m) / 12 ≡ k = omega arith in
    let r : (12 * k + m) % 12 ≡ m = omega arith in
    subst (λ (i : ℕ). months_days (suc (12 * k + m)) ≡ months_days (12 * k + m) + month_days (1970 + i) (m + 1)) q
    (subst (λ (i : ℕ). months_days (suc (12 * k + m)) ≡ months_days (12 * k + m) + month_days (1970 + (12 * k + m) / 12) (i + 1)) r (month_step (12 * k + m)))

start_none : (b : Bool) → start_in b 0 ≡ 0
unfolding start_in
start_none b = refl

pub start_is : (k m : ℕ) → m ≤ 12 → months_days (12 * k + m) ≡ months_days (12 * k) + start_in (leap (1970 + k)) m
start_is k zero h = rw start_none (simp add-zero)
start_is k (suc m) h =
    rw (add-suc (12 * k) m, month_at k m h, start_is k m (omega arith), start_step (leap (1970 + k)) m h) (omega arith)

-- the days of the first k years, by the rule of leap years
unfoldable pub years_closed : ℕ → ℕ
years_closed k = (((365 * k + (1969 + k) / 4) - (1969 + k) / 100) + (1969 + k) / 400) - 477

year_adds : ℕ → Bool
year_adds k = eqb (years_closed (suc k)) (years_closed k + start_in (leap (1970 + k)) 12)

years_add : agree_below year_adds always 230 ≡ true
unfolding year_adds years_closed start_in
years_add = refl

closed_none : months_days 0 ≡ years_closed 0
unfolding months_days years_closed
closed_none = refl

closed_step : (k : ℕ) → k < 230 → years_closed (suc k) ≡ years_closed k + start_in (leap (1970 + k)) 12
unfolding year_adds
closed_step k h = eqb-true (years_closed (suc k)) (years_closed k + start_in (leap (1970 + k)) 12) (agree_below_at year_adds always 230 k years_add h)

pub year_step : (k : ℕ) → months_days (12 * suc k) ≡ months_days (12 * k) + start_in (leap (1970 + k)) 12
year_step k = let e : 12 * suc k ≡ 12 * k + 12 = omega arith in rw e (start_is k 12 (omega arith))

pub years_are : (k : ℕ) → k ≤ 230 → months_days (12 * k) ≡ years_closed k
years_are zero h = closed_none
years_are (suc k) h = rw (year_step k, years_are k (omega arith), closed_step k h)

pub year_length : (b : Bool) → start_in b 12 ≡ cond b 366 365
unfolding start_in
year_length true = refl
year_length false = refl

-- after r days of a year r / 31 months are over, or one more
fits_low : Bool → ℕ → Bool
fits_low b r = leb (start_in b (r / 31)) r

fits_high : Bool → ℕ → Bool
fits_high b r = leb (suc r) (start_in b (r / 31 + 2))

pub low : (b : Bool) (r : ℕ) → r < cond b 366 365 → start_in b (r / 31) ≤ r
unfolding fits_low start_in
low true r h = leb-true (start_in true (r / 31)) r (agree_below_at (fits_low true) always 366 r refl h)
low false r h = leb-true (start_in false (r / 31)) r (agree_below_at (fits_low false) always 365 r refl h)

pub high : (b : Bool) (r : ℕ) → r < 341 → r < start_in b (r / 31 + 2)
unfolding fits_high start_in
high true r h = leb-true (suc r) (start_in true (r / 31 + 2)) (agree_below_at (fits_high true) always 341 r refl h)
high false r h = leb-true (suc r) (start_in false (r / 31 + 2)) (agree_below_at (fits_high false) always 341 r refl h)

pub month_start_is : (y m : ℕ) → 1970 ≤ y → m ≤ 12 → months_days (12 * (y - 1970) + m) ≡ before_year y + start_in (leap y) m
month_start_is y m h l =
    let e : 1970 + (y - 1970) ≡ y = omega arith in
    subst (λ (i : ℕ). months_days (12 * (y - 1970) + m) ≡ before_year y + start_in (leap i) m) e (start_is (y - 1970) m l)

pub year_start_is : (y : ℕ) → 1970 ≤ y → y ≤ 2200 → (((365 * (y - 1970) + (y - 1) / 4) - (y - 1) / 100) + (y - 1) / 400) - 477 ≡ before_year y
unfolding years_closed
year_start_is y h l =
    let e : y - 1 ≡ 1969 + (y - 1970) = omega arith in
    rw e (sym (years_are (y - 1970) (omega arith)))

start_after : (m : ℕ) → 1 < m → start_in true m ≡ get_or starts m 0 + 1
unfolding start_in
start_after m h = rw (lt-ltb 1 m h)

start_common : (m : ℕ) → start_in false m ≡ get_or starts m 0
unfolding start_in
start_common m = grind (arith, nat_tests)

start_early : (b : Bool) (m : ℕ) → m ≤ 1 → start_in b m ≡ get_or starts m 0
unfolding start_in
start_early b m h = grind (arith, nat_tests)

within_year : ℕ → Bool
within_year m = leb (get_or starts m 0) 365

pub starts_within : (m : ℕ) → m < 13 → get_or starts m 0 ≤ 365
unfolding within_year
starts_within m h = leb-true (get_or starts m 0) 365 (agree_below_at within_year always 13 m refl h)

pub month_early : (y m : ℕ) → 1970 ≤ y → m ≤ 1 → months_days (12 * (y - 1970) + m) ≡ before_year y + get_or starts m 0
month_early y m h l = month_start_is y m h (omega arith) ∙ ap (λ (x : ℕ). before_year y + x) (start_early (leap y) m l)

pub month_common : (y m : ℕ) → 1970 ≤ y → m ≤ 12 → leap y ≡ false → months_days (12 * (y - 1970) + m) ≡ before_year y + get_or starts m 0
month_common y m h l e =
    month_start_is y m h l ∙ ap (λ (x : ℕ). before_year y + x) (ap (λ (b : Bool). start_in b m) e ∙ start_common m)

pub month_leap : (y m : ℕ) → 1970 ≤ y → 1 < m → m ≤ 12 → leap y ≡ true → months_days (12 * (y - 1970) + m) ≡ before_year y + (get_or starts m 0 + 1)
month_leap y m h k l e =
    month_start_is y m h l ∙ ap (λ (x : ℕ). before_year y + x) (ap (λ (b : Bool). start_in b m) e ∙ start_after m k)

-- a year ends where the next begins
pub next_year : (y : ℕ) → 1970 ≤ y → before_year (y + 1) ≡ before_year y + year_days y
next_year y h =
    let e : 12 * ((y + 1) - 1970) ≡ 12 * (y - 1970) + 12 = omega arith in
    ap months_days e ∙ month_start_is y 12 h (omega arith) ∙ ap (λ (x : ℕ). before_year y + x) (year_length (leap y))

closed_bounds : (k : ℕ) → k ≤ 230 → (365 * k ≤ years_closed k) × (years_closed k ≤ 366 * k)
unfolding years_closed
closed_bounds k h = omega arith

pub year_bounds : (y : ℕ) → 1970 ≤ y → y ≤ 2200 → (365 * (y - 1970) ≤ before_year y) × (before_year y ≤ 366 * (y - 1970))
year_bounds y h l = rw (years_are (y - 1970) (omega arith)) (closed_bounds (y - 1970) (omega arith))

pub before_last : (y : ℕ) → y ≤ 2200 → before_year y ≤ 84005 → y ≤ 2199
before_last y l h =
    elim (cases_order y 2200) [
      | inl e ↦ let f : before_year y ≡ 84006 = ap before_year e ∙ end_of_2199 in omega arith
      | inr o ↦ elim o [ inl q ↦ omega arith | inr q ↦ omega arith ]
    ]

-- the year is the first guess or the next
pub year_after : (n : ℕ) → n ≤ 84005 → before_year ((1970 + n / 366) + 1) ≤ n → InYear n ((1970 + n / 366) + 1) (n - before_year ((1970 + n / 366) + 1))
year_after n h l =
    let y : ℕ = (1970 + n / 366) + 1 in
    let to : y ≤ 2199 = before_last y (omega arith) (omega arith) in
    let low_end = year_bounds (y + 1) (omega arith) (omega arith) in
    let ends = next_year y (omega arith) in
    record { year_from = omega arith; year_to = to; adds_up = omega arith; within = omega arith }

pub year_here : (n : ℕ) → n ≤ 84005 → n < before_year ((1970 + n / 366) + 1) → InYear n (1970 + n / 366) (n - before_year (1970 + n / 366))
year_here n h l =
    let y : ℕ = 1970 + n / 366 in
    let bounds = year_bounds y (omega arith) (omega arith) in
    let ends = next_year y (omega arith) in
    record { year_from = omega arith; year_to = omega arith; adds_up = omega arith; within = omega arith }

-- what is known of a day of a year, at the days s before the month that the first guess is followed by
module _ (y r s : ℕ) (from : 1970 ≤ y) (within : r < year_days y)
    (is : months_days (12 * (y - 1970) + (((r / 31 + 1) + 1) - 1)) ≡ before_year y + s) where
  few : r < 366
  few = elim (leap y) as (λ b. r < cond b 366 365 → r < 366) [ true ↦ λ h. h | false ↦ λ h. omega arith ] within

  here : ((r / 31 + 1) + 1) - 1 ≡ r / 31 + 1
  here = omega arith

  next_is : s ≡ start_in (leap y) (r / 31 + 1)
  next_is = omega (arith, month_start_is y (r / 31 + 1) from (omega (arith, few)), ap (λ (i : ℕ). months_days (12 * (y - 1970) + i)) here)

  pub month_after : s ≤ r → InMonth y r ((r / 31 + 1) + 1) ((r - s) + 1)
  month_after l =
      let f = few in
      let e = next_is in
      let full = year_length (leap y) in
      let early : r / 31 < 11 =
      elim (cases_order (r / 31) 11) [
        | inl q ↦ omega (arith, ap (λ (i : ℕ). start_in (leap y) (i + 1)) q)
        | inr o ↦ elim o [ inl q ↦ q | inr q ↦ omega arith ]
      ]
      in
      let ends = high (leap y) r (omega arith) in
      let step = start_step (leap y) (r / 31 + 1) (omega arith) in
      let two : start_in (leap y) (suc (r / 31 + 1)) ≡ start_in (leap y) (r / 31 + 2) = ap (start_in (leap y)) (omega arith) in
      record { month_from = omega arith; month_to = omega arith; adds_up = omega arith; day_from = omega arith; day_to = omega arith }

  pub month_here : (t : ℕ) → months_days (12 * (y - 1970) + ((r / 31 + 1) - 1)) ≡ before_year y + t → r < s → (t ≤ r) × InMonth y r (r / 31 + 1) ((r - t) + 1)
  month_here t q l =
      let f = few in
      let e = next_is in
      let back : (r / 31 + 1) - 1 ≡ r / 31 = omega arith in
      let first : t ≡ start_in (leap y) (r / 31) = omega (arith, month_start_is y (r / 31) from (omega arith), ap (λ (i : ℕ). months_days (12 * (y - 1970) + i)) back) in
      let begun = low (leap y) r within in
      let step = start_step (leap y) (r / 31) (omega arith) in
      let one : start_in (leap y) (suc (r / 31)) ≡ start_in (leap y) (r / 31 + 1) = ap (start_in (leap y)) (omega arith) in
      (omega arith, record { month_from = omega arith; month_to = omega arith; adds_up = omega arith; day_from = omega arith; day_to = omega arith })

pub most_month : (b : Bool) (m : ℕ) → month_length b m ≤ 31
most_month b m = grind (arith, nat_tests)

pub year_least : (b : Bool) → 365 ≤ cond b 366 365
year_least true = omega arith
year_least false = omega arith
