-- A rung that reads and shows by a map made of lawful cells is lawful.
use Rattle.std.proofs.Common.{◌≡◌, ℕ, ◌+◌, ◌-◌, ◌*◌, ◌≤◌, Ok}
use Rattle.leap.specs.Table.{Table, Sound}
use Rattle.leap.specs.Bulletin.{Renews}
use Rattle.clocks.specs.Counts.{Count}
use Rattle.clocks.specs.Rungs.{RungMeaning, LawfulRung}
use Rattle.utc.proofs.Cells.{CellMap, ReadIn, ShownIn, LawfulCells}

-- what the rung m has to say beside, of the map that each table gives
pub record ByCells (m : RungMeaning) (map : Table → CellMap) (q k : ℕ) : Type 0 where
  pub cells : {t : Table} → Sound t → LawfulCells (map t) q k m.loss
  pub reads_by : {t : Table} {r a : ℕ} → Sound t → m.reads t r ≡ Ok a → Count r × Count a × ReadIn (map t) r a
  pub shows_by : {t : Table} {n s : ℕ} → Sound t → m.shows t n ≡ Ok s → Count n × Count s × ShownIn (map t) n s
  pub shown_is_read : {t : Table} {n s : ℕ} → Sound t → m.shows t n ≡ Ok s → (a : ℕ) × (m.reads t s ≡ Ok a)
  pub spreads : (x y r s : ℕ) → r ≤ s → q * y + k * r ≤ q * x + (q - 1) + k * s → y ≤ x + m.spread (s - r)
  pub spread_grows : {n k : ℕ} → n ≤ k → m.spread n ≤ m.spread k
  pub spread_covers : (n : ℕ) → n ≤ m.spread n
  pub reads_kept : {t u : Table} {r a : ℕ} → Sound t → Renews t u → m.reads t r ≡ Ok a → m.reads u r ≡ Ok a
  pub shows_kept : {t u : Table} {n s : ℕ} → Sound t → Renews t u → m.shows t n ≡ Ok s → m.shows u n ≡ Ok s

pub by_cells : (m : RungMeaning) (map : Table → CellMap) (q k : ℕ) → ByCells m map q k → LawfulRung m
by_cells m map q k b = record {
  reads_counts = λ s e. let p = b.reads_by s e in (p.0, p.1);
  shows_counts = λ s e. let p = b.shows_by s e in (p.0, p.1);
  reads_rise = λ s e f h. (b.cells s).rise (b.reads_by s e).2 (b.reads_by s f).2 h;
  shown_is_read = b.shown_is_read;
  reads_meet_shows = λ s e f. (b.cells s).meet (b.reads_by s e).2 (b.shows_by s f).2;
  within_loss = λ s e f. (b.cells s).near (b.shows_by s e).2 (b.reads_by s f).2;
  within_spread = λ {t} {r} {s} {a = x} {b = y} z e f h. b.spreads x y r s h ((b.cells z).apart (b.reads_by z e).2 (b.reads_by z f).2 h);
  spread_grows = b.spread_grows;
  spread_covers = b.spread_covers;
  reads_kept = b.reads_kept;
  shows_kept = b.shows_kept;
}
