-- The forms POSIX, NTP and GPS are lawful, NTP and GPS with every pivot.
use Rattle.std.proofs.Common.{ℕ, ◌+◌, ◌*◌, ◌<◌, ◌≤◌, arith}
use Rattle.std.proofs.lemmas.Bool.Decides.{nat_tests}
use Rattle.clocks.specs.Counts.{second}
use Rattle.clocks.specs.Forms.{LawfulForm}
use Rattle.clocks.specs.Stamps.{posix, era, full, TheOne, ntp_1970, last_ntp_pivot, ntp, gps_turn, millisecond, week, last_gps_pivot, gps}

pub posix_lawful : LawfulForm posix
posix_lawful = record {
  reads_counts = λ z e. grind (arith, nat_tests);
  shows_counts = λ z e. grind (arith, nat_tests);
  shown_is_read = λ {t} {n} {p} z e. (p.0 * second + p.1, grind (arith, nat_tests));
  within_loss = λ z e f. grind (arith, nat_tests);
  reads_kept = λ z k e. e;
  shows_kept = λ z k e. e;
}

-- a fraction is less than a nanosecond: one that was rounded down is read, rounded up, as the nanosecond that it was
module _ (pivot : ℕ) (low : ntp_1970 ≤ pivot) (high : pivot ≤ last_ntp_pivot) where
  pub ntp_lawful : LawfulForm (ntp pivot)
  ntp_lawful = record {
    reads_counts = λ z e. grind (arith, nat_tests);
    shows_counts = λ z e. grind (arith, nat_tests);
    shown_is_read = λ {t} {n} z e. (n, grind (arith, nat_tests));
    within_loss = λ z e f. grind (arith, nat_tests);
    reads_kept = λ z k e. e;
    shows_kept = λ z k e. e;
  }

module _ (pivot : ℕ) (high : pivot ≤ last_gps_pivot) where
  pub gps_lawful : LawfulForm (gps pivot)
  gps_lawful = record {
    reads_counts = λ z e. grind (arith, nat_tests);
    shows_counts = λ z e. grind (arith, nat_tests);
    shown_is_read = λ {t} {n} {p} z e. (full gps_turn pivot p.0 * week + p.1 * millisecond, grind (arith, nat_tests));
    within_loss = λ z e f. grind (arith, nat_tests);
    reads_kept = λ z k e. e;
    shows_kept = λ z k e. e;
  }

-- the full number that a pivot says, for any pivot at all
pub ntp_full : (pivot h : ℕ) → h < era → TheOne era pivot h (full era pivot h)
ntp_full pivot h l = record { from = omega arith; below_end = omega arith; leaves = omega arith; only = λ s a b e. omega arith }

pub gps_full : (pivot h : ℕ) → h < gps_turn → TheOne gps_turn pivot h (full gps_turn pivot h)
gps_full pivot h l = record { from = omega arith; below_end = omega arith; leaves = omega arith; only = λ s a b e. omega arith }
