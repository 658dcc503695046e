-- What a form means, and its laws. A form stands on top of rungs and ties stamps, pairs of plain numbers (hi, lo), to counts.
use Rattle.std.specs.Prelude.{◌≡◌, ℕ, ◌+◌, ◌≤◌, Ok, Result}
use Rattle.refusals.specs.declared.fault.Fault.{Fault}
use Rattle.leap.specs.Table.{Table, Sound}
use Rattle.leap.specs.Bulletin.{Renews}
use Rattle.clocks.specs.Counts.{Count}

abbrev pub Stamp : Type 0
Stamp = ℕ × ℕ

pub record FormMeaning : Type 0 where
  pub reads : Table → Stamp → Result ℕ Fault
  pub shows : Table → ℕ → Result Stamp Fault
  pub loss : ℕ

pub record LawfulForm (m : FormMeaning) : Type 0 where
  -- only counts are read and shown
  pub reads_counts : {t : Table} {p : Stamp} {a : ℕ} → Sound t → m.reads t p ≡ Ok a → Count a
  pub shows_counts : {t : Table} {n : ℕ} {p : Stamp} → Sound t → m.shows t n ≡ Ok p → Count n
  -- what a count shows is read
  pub shown_is_read : {t : Table} {n : ℕ} {p : Stamp} → Sound t → m.shows t n ≡ Ok p → (a : ℕ) × (m.reads t p ≡ Ok a)
  -- as that count, or as one that is less by at most the loss
  pub within_loss : {t : Table} {n a : ℕ} {p : Stamp} → Sound t → m.shows t n ≡ Ok p → m.reads t p ≡ Ok a → (a ≤ n) × (n ≤ a + m.loss)
  -- after an accepted bulletin all that was read or shown before is read or shown alike
  pub reads_kept : {t u : Table} {p : Stamp} {a : ℕ} → Sound t → Renews t u → m.reads t p ≡ Ok a → m.reads u p ≡ Ok a
  pub shows_kept : {t u : Table} {n : ℕ} {p : Stamp} → Sound t → Renews t u → m.shows t n ≡ Ok p → m.shows u n ≡ Ok p
