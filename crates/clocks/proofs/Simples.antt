-- TAI, offsets and coarse clocks are lawful, whatever their settings.
use Rattle.std.proofs.Common.{◌≡◌, ℕ, ◌+◌, ◌-◌, ◌*◌, ◌/◌, ◌%◌, ◌≤◌, mul_comm, mul-le-mul_left, le-div_iff_mul-le, arith}
use native.Mathlib.Nat.{div-add-mod, mul-mod_right}
use Rattle.std.proofs.lemmas.Bool.Decides.{nat_tests}
use Rattle.clocks.specs.Rungs.{LawfulRung}
use Rattle.clocks.specs.Simple.{tai, offset, coarse}

pub tai_lawful : LawfulRung tai
tai_lawful = record {
  reads_counts = λ z e. grind (arith, nat_tests);
  shows_counts = λ z e. grind (arith, nat_tests);
  reads_rise = λ z e f h. grind (arith, nat_tests);
  shown_is_read = λ {t} {n} {s} z e. (s, grind (arith, nat_tests));
  reads_meet_shows = λ z e f. grind (arith, nat_tests);
  within_loss = λ z e f. grind (arith, nat_tests);
  within_spread = λ z e f h. grind (arith, nat_tests);
  spread_grows = λ h. h;
  spread_covers = λ n. omega arith;
  reads_kept = λ s k e. e;
  shows_kept = λ s k e. e;
}

module _ (k : ℕ) where
  pub offset_lawful : LawfulRung (offset k)
  offset_lawful = record {
    reads_counts = λ z e. grind (arith, nat_tests);
    shows_counts = λ z e. grind (arith, nat_tests);
    reads_rise = λ z e f h. grind (arith, nat_tests);
    shown_is_read = λ {t} {n} {s} z e. (s + k, grind (arith, nat_tests));
    reads_meet_shows = λ z e f. grind (arith, nat_tests);
    within_loss = λ z e f. grind (arith, nat_tests);
    within_spread = λ z e f h. grind (arith, nat_tests);
    spread_grows = λ h. h;
    spread_covers = λ n. omega arith;
    reads_kept = λ s k e. e;
    shows_kept = λ s k e. e;
  }

module _ (w : ℕ) (some : 1 ≤ w) where
  multiple : (n : ℕ) → n - n % w ≡ w * (n / w)
  multiple n = omega (arith, div-add-mod n w)

  is_multiple : (n : ℕ) → (n - n % w) % w ≡ 0
  is_multiple n = rw (multiple n, mul-mod_right w (n / w))

  -- a multiple that is at most n is at most the last multiple
  last_multiple : (r n : ℕ) → r % w ≡ 0 → r ≤ n → r ≤ n - n % w
  last_multiple r n z h =
      let e : r ≡ w * (r / w) = omega (arith, div-add-mod r w) in
      let l : r / w ≤ n / w = (le-div_iff_mul-le some).1 (omega (arith, mul_comm w (r / w))) in
      omega (arith, multiple n, mul-le-mul_left w l)

  pub coarse_lawful : LawfulRung (coarse w)
  coarse_lawful = record {
    reads_counts = λ z e. grind (arith, nat_tests);
    shows_counts = λ z e. grind (arith, nat_tests);
    reads_rise = λ z e f h. grind (arith, nat_tests);
    shown_is_read = λ {t} {n} {s} z e. (s, grind (arith, nat_tests, is_multiple n));
    reads_meet_shows = λ {t} {r} {a} {n} z e f. grind (arith, nat_tests, last_multiple r n);
    within_loss = λ z e f. grind (arith, nat_tests);
    within_spread = λ z e f h. grind (arith, nat_tests);
    spread_grows = λ h. h;
    spread_covers = λ n. omega arith;
    reads_kept = λ s k e. e;
    shows_kept = λ s k e. e;
  }
