-- What a rung means, and the laws that it keeps. A rung is one step between two kinds of counts: its own, above, and those below, of which the lowest are TAI ticks.
use Rattle.std.specs.Prelude.{◌≡◌, ℕ, ◌+◌, ◌-◌, ◌≤◌, Bool, cond, Ok, Err, Result, nat_le}
use Rattle.refusals.specs.declared.fault.Cause.{Cause}
use Rattle.refusals.specs.declared.fault.Cause.TheVariants.{NoCount}
use Rattle.refusals.specs.declared.fault.Fault.{Fault}
use Rattle.refusals.specs.declared.fault.Way.{Way}
use Rattle.leap.specs.Table.{Table, Sound}
use Rattle.leap.specs.Bulletin.{Renews}
use Rattle.clocks.specs.Counts.{Count, count_end}

-- reads: own counts as counts below; shows: counts below as own counts; a fault where there is no answer.
-- loss: by how much a count may exceed what its showing is read as. spread: how far apart n own counts may be read.
-- rungs: how many rungs it is made of.
pub record RungMeaning : Type 0 where
  pub reads : Table → ℕ → Result ℕ Fault
  pub shows : Table → ℕ → Result ℕ Fault
  pub loss : ℕ
  pub spread : ℕ → ℕ
  pub rungs : ℕ

pub record LawfulRung (m : RungMeaning) : Type 0 where
  -- only counts go in and come out
  pub reads_counts : {t : Table} {r a : ℕ} → Sound t → m.reads t r ≡ Ok a → Count r × Count a
  pub shows_counts : {t : Table} {n s : ℕ} → Sound t → m.shows t n ≡ Ok s → Count n × Count s
  -- readings rise
  pub reads_rise : {t : Table} {r s a b : ℕ} → Sound t → m.reads t r ≡ Ok a → m.reads t s ≡ Ok b → r ≤ s → a ≤ b
  -- what a count shows is read
  pub shown_is_read : {t : Table} {n s : ℕ} → Sound t → m.shows t n ≡ Ok s → (a : ℕ) × (m.reads t s ≡ Ok a)
  -- a reading is at most n exactly when the own count is at most what n shows
  pub reads_meet_shows : {t : Table} {r a n s : ℕ} → Sound t → m.reads t r ≡ Ok a → m.shows t n ≡ Ok s → (a ≤ n → r ≤ s) × (r ≤ s → a ≤ n)
  -- what a count shows is read as that count, or as one that is less by at most the loss
  pub within_loss : {t : Table} {n s a : ℕ} → Sound t → m.shows t n ≡ Ok s → m.reads t s ≡ Ok a → (a ≤ n) × (n ≤ a + m.loss)
  -- readings lie apart by at most the spread, which never falls and covers its length
  pub within_spread : {t : Table} {r s a b : ℕ} → Sound t → m.reads t r ≡ Ok a → m.reads t s ≡ Ok b → r ≤ s → b ≤ a + m.spread (s - r)
  pub spread_grows : {n k : ℕ} → n ≤ k → m.spread n ≤ m.spread k
  pub spread_covers : (n : ℕ) → n ≤ m.spread n
  -- after an accepted bulletin all that was read or shown before is read or shown alike
  pub reads_kept : {t u : Table} {r a : ℕ} → Sound t → Renews t u → m.reads t r ≡ Ok a → m.reads u r ≡ Ok a
  pub shows_kept : {t u : Table} {n s : ℕ} → Sound t → Renews t u → m.shows t n ≡ Ok s → m.shows u n ≡ Ok s

-- a fault of the rung itself, for the count c that it was handed
abbrev pub own_fault : Cause → Way → ℕ → Fault
own_fault cause way c = record { cause = cause; rung = 0; way = way; count = c }

-- refused where b holds, and else the answer a
abbrev pub refused_if : Bool → Cause → Way → ℕ → {A : Type 0} → Result A Fault → Result A Fault
refused_if b cause way c a = cond b (Err (own_fault cause way c)) a

-- what is no count is refused before all else
abbrev pub counted : Way → ℕ → {A : Type 0} → Result A Fault → Result A Fault
counted way c a = refused_if (nat_le count_end c) NoCount way c a

-- what would be answered with no count is refused last of all
abbrev pub answered : Way → ℕ → ℕ → Result ℕ Fault
answered way c x = refused_if (nat_le count_end x) NoCount way c (Ok x)
