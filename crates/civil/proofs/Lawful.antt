-- The civil form is lawful, and loses nothing.
use Rattle.std.proofs.Common.{◌≡◌, ℕ, ◌+◌, ◌*◌, ◌/◌, ◌%◌, ◌<◌, ◌≤◌, false, ltb, Ok, sym, ap, ap₂, subst, ◌∙◌, arith}
use Rattle.std.proofs.lemmas.Bool.{ltb-false, le-ltb, or_parts, or_from}
use Rattle.refusals.specs.declared.fault.Cause.TheVariants.{Field, Window}
use Rattle.refusals.specs.declared.fault.Way.TheVariants.{Reading, Showing}
use Rattle.calendar.specs.Calendar.{last_day}
use Rattle.clocks.specs.Counts.{Count, second}
use Rattle.clocks.specs.Forms.{Stamp, LawfulForm}
use Rattle.clocks.proofs.Steps.{passed, passes, was_count, is_count}
use Rattle.utc.specs.Labels.{label_day, label_at, day_of, ticks_of}
use Rattle.civil.specs.Civil.{no_date, day_read, no_time, seconds_read, date_shown, time_shown, civil_reads, civil_shows, civil, Lossless}
use Rattle.civil.proofs.Dates.{day_comes_back, date_comes_back}
use Rattle.civil.proofs.Times.{second_comes_back, time_comes_back}

-- the ticks since the day's start that hhmmss and nine digits of nanoseconds are read as, and those digits shown
abbrev pub ticks_read : ℕ → ℕ
ticks_read x = seconds_read (x / second) * second + x % second

abbrev ticks_shown : ℕ → ℕ
ticks_shown n = time_shown (n / second) * second + n % second

-- a label has the parts that it is made of
has_day : (d n : ℕ) → n < label_day → day_of (label_at d n) ≡ d
has_day d n h = omega arith

has_ticks : (d n : ℕ) → n < label_day → ticks_of (label_at d n) ≡ n
has_ticks d n h = omega arith

-- every label up to the calendar's last day is a count
label_counts : (l : ℕ) → day_of l ≤ last_day → Count l
label_counts l h = omega arith

-- which stamps are read, and which counts are shown
pub read_is_right : (p : Stamp) {a : ℕ} → civil_reads p ≡ Ok a → (no_date p.0 ≡ false) × (no_time (p.1 / second) ≡ false) × (label_at (day_read p.0) (ticks_read p.1) ≡ a)
read_is_right p e =
    let q = passed _ Field Reading 0 (Ok (label_at (day_read p.0) (ticks_read p.1))) e in
    let r = or_parts (no_date p.0) (no_time (p.1 / second)) q.0 in
    (r.0, r.1, cc)

pub right_is_read : (p : Stamp) → no_date p.0 ≡ false → no_time (p.1 / second) ≡ false → civil_reads p ≡ Ok (label_at (day_read p.0) (ticks_read p.1))
right_is_read p d h = passes Field Reading 0 (Ok (label_at (day_read p.0) (ticks_read p.1))) (or_from (no_date p.0) (no_time (p.1 / second)) d h)

shown_is_early : (n : ℕ) {p : Stamp} → civil_shows n ≡ Ok p → day_of n ≤ last_day
shown_is_early n e =
    let q = was_count Showing n _ e in
    let r = passed (ltb last_day (day_of n)) Window Showing n (Ok (date_shown (day_of n), ticks_shown (ticks_of n))) q.1 in
    ltb-false last_day (day_of n) r.0

early_is_shown : (n : ℕ) → day_of n ≤ last_day → civil_shows n ≡ Ok (date_shown (day_of n), ticks_shown (ticks_of n))
early_is_shown n h =
    is_count Showing n _ (label_counts n h) ∙ passes Window Showing n (Ok (date_shown (day_of n), ticks_shown (ticks_of n))) (le-ltb last_day (day_of n) h)

-- the ticks of a day, shown and read
ticks_come_back : (n : ℕ) → n < label_day → (no_time (ticks_shown n / second) ≡ false) × (ticks_read (ticks_shown n) ≡ n)
ticks_come_back n h =
    let s = second_comes_back (n / second) (omega arith) in
    let whole : ticks_shown n / second ≡ time_shown (n / second) = omega arith in
    let part : ticks_shown n % second ≡ n % second = omega arith in
    (rw whole s.0, rw (whole, part) (omega (arith, s.1)))

stamp_comes_back : (x : ℕ) → no_time (x / second) ≡ false → (ticks_read x < label_day) × (ticks_shown (ticks_read x) ≡ x)
stamp_comes_back x e =
    let s = time_comes_back (x / second) e in
    let whole : ticks_read x / second ≡ seconds_read (x / second) = omega arith in
    let part : ticks_read x % second ≡ x % second = omega arith in
    (omega (arith, s.0), rw (whole, part, s.1) (omega arith))

labels_come_back : (n : ℕ) → day_of n ≤ last_day → (p : Stamp) × (civil_shows n ≡ Ok p) × (civil_reads p ≡ Ok n)
labels_come_back n h =
    let p : Stamp = (date_shown (day_of n), ticks_shown (ticks_of n)) in
    let d = day_comes_back (day_of n) h in
    let s = ticks_come_back (ticks_of n) (omega arith) in
    let back : label_at (day_read p.0) (ticks_read p.1) ≡ n = rw (d.1, s.1) (omega arith) in
    (p, early_is_shown n h, right_is_read p d.0 s.0 ∙ ap Ok back)

stamps_come_back : (p : Stamp) (n : ℕ) → civil_reads p ≡ Ok n → civil_shows n ≡ Ok p
stamps_come_back p n e =
    let r = read_is_right p e in
    let d = date_comes_back p.0 r.0 in
    let s = stamp_comes_back p.1 r.1 in
    let day : day_of n ≡ day_read p.0 = ap day_of (sym r.2) ∙ has_day (day_read p.0) (ticks_read p.1) s.0 in
    let ticks : ticks_of n ≡ ticks_read p.1 = ap ticks_of (sym r.2) ∙ has_ticks (day_read p.0) (ticks_read p.1) s.0 in
    let hi : date_shown (day_of n) ≡ p.0 = ap date_shown day ∙ d.1 in
    let lo : ticks_shown (ticks_of n) ≡ p.1 = ap ticks_shown ticks ∙ s.1 in
    early_is_shown n (omega (arith, d.0)) ∙ ap₂ (λ (a b : ℕ). Ok (a, b)) hi lo

pub civil_lossless : Lossless
civil_lossless = record { labels_come_back = labels_come_back; stamps_come_back = stamps_come_back }

-- what is shown is read as what it was
back : (n : ℕ) (p : Stamp) → civil_shows n ≡ Ok p → civil_reads p ≡ Ok n
back n p e =
    let b = labels_come_back n (shown_is_early n e) in
    let same : b.0 ≡ p = cc in
    subst (λ q. civil_reads q ≡ Ok n) same b.2

read_counts : (p : Stamp) (a : ℕ) → civil_reads p ≡ Ok a → Count a
read_counts p a e = label_counts a (shown_is_early a (stamps_come_back p a e))

pub civil_lawful : LawfulForm civil
civil_lawful = record {
  reads_counts = λ {p = p} {a = a} z e. read_counts p a e;
  shows_counts = λ {n = n} z e. (was_count Showing n _ e).0;
  shown_is_read = λ {n = n} {p = p} z e. (n, back n p e);
  within_loss = λ {n = n} {a = a} {p = p} z e f. let b = back n p e in let same : a ≡ n = cc in (omega arith, omega arith);
  reads_kept = λ z k e. e;
  shows_kept = λ z k e. e;
}
