-- Times of day as hhmmss: a second of a day is shown as its time and read from it, and the last minute has the inserted ones too.
use Rattle.std.proofs.Common.{◌≡◌, ℕ, ◌+◌, ◌-◌, ◌*◌, ◌/◌, ◌%◌, ◌<◌, ◌≤◌, ◌||◌, ◌⊎◌, false, leb, inl, inr, ap₂, ◌∙◌, refl, arith}
use Rattle.std.proofs.lemmas.Bool.{cases_lt, leb-false, lt-leb, or_parts, or_from}
use Rattle.std.proofs.lemmas.Bool.Decides.{nat_tests}
use Rattle.leap.specs.Table.{largest_step}
use Rattle.utc.specs.Labels.{label_seconds}
use Rattle.civil.specs.Civil.{joined, first, middle, last, minute_seconds, no_time, seconds_read, minute_of, time_shown}
use Rattle.civil.proofs.Dates.{comes_apart, joins_again}

pub record Time (h m s : ℕ) : Type 0 where
  pub hour : h < 24
  pub minute : m < 60
  pub second : s < minute_seconds h m

least_seconds : (h m : ℕ) → 60 ≤ minute_seconds h m
least_seconds h m = grind (arith, nat_tests)

-- a second from the 60th on stands in the last minute alone
pub which_second : (h m s : ℕ) → s < minute_seconds h m → (s < 60) ⊎ ((h ≡ 23) × (m ≡ 59) × (s < 60 + largest_step))
which_second h m s l = elim (cases_lt s 60) [ inl a ↦ inl a | inr a ↦ inr (grind (arith, nat_tests), grind (arith, nat_tests), grind (arith, nat_tests)) ]

pub second_fits : (h m s : ℕ) → (s < 60) ⊎ ((h ≡ 23) × (m ≡ 59) × (s < 60 + largest_step)) → s < minute_seconds h m
second_fits h m s (inl a) = omega (arith, least_seconds h m)
second_fits h m s (inr a) = grind (arith, nat_tests)

pub right_time : (x : ℕ) → no_time x ≡ false → Time (first x) (middle x) (last x)
right_time x e =
    let p = or_parts (leb 24 (first x) || leb 60 (middle x)) (leb (minute_seconds (first x) (middle x)) (last x)) e in
    let q = or_parts (leb 24 (first x)) (leb 60 (middle x)) p.0 in
    record { hour = leb-false 24 (first x) q.0; minute = leb-false 60 (middle x) q.1; second = leb-false (minute_seconds (first x) (middle x)) (last x) p.1 }

time_stands : (h m s : ℕ) → Time h m s → ((leb 24 h || leb 60 m) || leb (minute_seconds h m) s) ≡ false
time_stands h m s t = or_from _ _ (or_from _ _ (lt-leb 24 h t.hour) (lt-leb 60 m t.minute)) (lt-leb (minute_seconds h m) s t.second)

pub time_reads : (h m s : ℕ) → Time h m s → (no_time (joined h m s) ≡ false) × (seconds_read (joined h m s) ≡ (h * 60 + m) * 60 + s)
time_reads h m s t =
    let small : s < 100 = elim (which_second h m s t.second) [ inl a ↦ omega arith | inr a ↦ omega arith ] in
    let f = comes_apart h m s (omega (arith, t.minute)) small in
    (rw (f.first_is, f.middle_is, f.last_is) (time_stands h m s t), rw (f.first_is, f.middle_is, f.last_is))

last_minute : minute_seconds 23 59 ≡ 60 + largest_step
last_minute = refl

-- second s of a day is in its minute
in_minute : (s : ℕ) → s < label_seconds → Time (minute_of s / 60) (minute_of s % 60) (s - minute_of s * 60)
in_minute s h = record {
  hour = omega arith;
  minute = omega arith;
  second = elim (cases_lt (s / 60) 1440) [
    | inl a ↦ omega (arith, least_seconds (minute_of s / 60) (minute_of s % 60))
    | inr a ↦
        let m : minute_of s ≡ 1439 = omega arith in
        let hour : minute_of s / 60 ≡ 23 = omega arith in
        let minute : minute_of s % 60 ≡ 59 = omega arith in
        omega (arith, ap₂ minute_seconds hour minute ∙ last_minute)
  ];
}

-- it is shown as a time that is read as s
pub second_comes_back : (s : ℕ) → s < label_seconds → (no_time (time_shown s) ≡ false) × (seconds_read (time_shown s) ≡ s)
second_comes_back s h =
    let r = time_reads (minute_of s / 60) (minute_of s % 60) (s - minute_of s * 60) (in_minute s h) in
    (r.0, omega (arith, r.1))

minute_is : (h m s : ℕ) → Time h m s → minute_of ((h * 60 + m) * 60 + s) ≡ h * 60 + m
minute_is h m s t = elim (which_second h m s t.second) [ inl a ↦ omega (arith, t.hour, t.minute) | inr a ↦ omega arith ]

-- and what a time is read as is shown as that time
pub time_comes_back : (x : ℕ) → no_time x ≡ false → (seconds_read x < label_seconds) × (time_shown (seconds_read x) ≡ x)
time_comes_back x e =
    let t = right_time x e in
    let m = minute_is (first x) (middle x) (last x) t in
    let within : seconds_read x < label_seconds = elim (which_second (first x) (middle x) (last x) t.second) [ inl a ↦ omega (arith, t.hour, t.minute) | inr a ↦ omega arith ] in
    (within, rw m (omega (arith, t.hour, t.minute, joins_again x)))
