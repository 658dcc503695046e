-- The fold rung is lawful.
use Rattle.std.proofs.Common.{◌≡◌, ℕ, ◌+◌, ◌-◌, ◌*◌, ◌/◌, ◌≤◌, Ok, arith}
use Rattle.std.proofs.lemmas.Bool.Decides.{nat_tests}
use Rattle.leap.specs.Table.{Table, largest_step}
use Rattle.clocks.specs.Counts.{second}
use Rattle.clocks.specs.Rungs.{LawfulRung}
use Rattle.clocks.specs.Stamps.{up}
use Rattle.utc.specs.Labels.{day_ticks}
use Rattle.utc.specs.Fold.{fold}

-- as many inserted seconds as days went by
read_as : (t : Table) (r : ℕ) {x : ℕ} → fold.reads t r ≡ Ok x → x ≡ r + largest_step * second * (r / day_ticks)
read_as t r e = grind (arith, nat_tests)

-- days begun between two counts
days_apart : (r s : ℕ) → r ≤ s → s / day_ticks ≤ r / day_ticks + up (s - r) day_ticks
days_apart r s h = omega arith

apart : (r s i j u : ℕ) → r ≤ s → j ≤ i + u → s + largest_step * second * j ≤ r + largest_step * second * i + ((s - r) + largest_step * second * u)
apart r s i j u h k = omega arith

pub fold_lawful : LawfulRung fold
fold_lawful = record {
  reads_counts = λ z e. grind (arith, nat_tests);
  shows_counts = λ z e. grind (arith, nat_tests);
  reads_rise = λ z e f h. grind (arith, nat_tests);
  shown_is_read = λ {t} {n} {s} z e. (n, grind (arith, nat_tests));
  reads_meet_shows = λ z e f. grind (arith, nat_tests);
  within_loss = λ z e f. grind (arith, nat_tests);
  within_spread = λ {t} {r} {s} z e f h. rw (read_as t r e, read_as t s f) (apart r s (r / day_ticks) (s / day_ticks) (up (s - r) day_ticks) h (days_apart r s h));
  spread_grows = λ h. omega arith;
  spread_covers = λ n. omega arith;
  reads_kept = λ z k e. e;
  shows_kept = λ z k e. e;
}
