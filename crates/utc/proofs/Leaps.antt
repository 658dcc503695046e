-- The leap rung is lawful: its cells are the days.
use Rattle.std.proofs.Common.{◌≡◌, ℕ, ◌+◌, ◌-◌, ◌*◌, ◌/◌, ◌<◌, ◌≤◌, cond, leb, Ok, ap, arith}
use Rattle.std.proofs.lemmas.Bool.Decides.{nat_tests}
use Rattle.leap.specs.Table.{Table, Sound, first_entry_day, len}
use Rattle.leap.specs.Bulletin.{Renews}
use Rattle.leap.proofs.Offsets.{off_low, off_paced, off_kept}
use Rattle.clocks.specs.Counts.{Count, second}
use Rattle.clocks.specs.Rungs.{LawfulRung}
use Rattle.utc.specs.Labels.{day_ticks, label_day, label_at, day_of, ticks_of}
use Rattle.utc.specs.Leap.{start, day_at, leap}
use Rattle.utc.proofs.Cells.{CellMap, ReadIn, ShownIn, LawfulCell, cells_keep}
use Rattle.utc.proofs.CellRungs.{by_cells}
use Rattle.utc.proofs.Days.{start_kept, Within, within_kept, day_holds, day_within}

-- a day's labels and its ticks go along with one another
abbrev pub days : Table → CellMap
days t = record { own = λ d. d * label_day; low = start t; stands = λ d. len t d * second; reads = λ d e. e; shows = λ d n. n }

record Read (t : Table) (r x : ℕ) : Type 0 where
  own : Count r
  begun : first_entry_day ≤ day_of r
  in_time : day_of r < t.expiry
  stands : ticks_of r < len t (day_of r) * second
  below : Count x
  is : x ≡ start t (day_of r) + ticks_of r

record Shown (t : Table) (n s : ℕ) : Type 0 where
  below : Count n
  within : Within t n
  own : Count s
  is : s ≡ label_at (day_at t n) (n - start t (day_at t n))

read_is : (t : Table) (r : ℕ) {x : ℕ} → leap.reads t r ≡ Ok x → Read t r x
read_is t r e =
    record {
      own = grind (arith, nat_tests);
      begun = grind (arith, nat_tests);
      in_time = grind (arith, nat_tests);
      stands = grind (arith, nat_tests);
      below = grind (arith, nat_tests);
      is = grind (arith, nat_tests);
    }

is_read : (t : Table) (r : ℕ) {x : ℕ} → Read t r x → leap.reads t r ≡ Ok x
is_read t r p = grind (arith, nat_tests)

shown_is : (t : Table) (n : ℕ) {s : ℕ} → leap.shows t n ≡ Ok s → Shown t n s
shown_is t n e =
    record {
      below = grind (arith, nat_tests);
      within = record { begun = grind (arith, nat_tests); in_time = grind (arith, nat_tests) };
      own = grind (arith, nat_tests);
      is = grind (arith, nat_tests);
    }

is_shown : (t : Table) (n : ℕ) {s : ℕ} → Shown t n s → leap.shows t n ≡ Ok s
is_shown t n p = grind (arith, nat_tests)

-- a label said by its day and its ticks
read_made : {t : Table} {r x : ℕ} (day n : ℕ) → r ≡ label_at day n → n < label_day → first_entry_day ≤ day → day < t.expiry → n < len t day * second → Count r → Count x → x ≡ start t day + n → Read t r x
read_made {t} {r} {x} day n h g begun in_time stands own below is =
    let e : day_of r ≡ day = omega arith in
    let f : ticks_of r ≡ n = omega arith in
    record { own = own; begun = rw e begun; in_time = rw e in_time; stands = rw (e, f) stands; below = below; is = rw (e, f) is }

read_cell : (t : Table) {r x : ℕ} → Read t r x → ReadIn (days t) r x
read_cell t {r} p = record { cell = day_of r; e = ticks_of r; at = omega arith; inside = p.stands; is = p.is }

module _ (t : Table) (sound : Sound t) where
  day_cell : (d : ℕ) → LawfulCell (days t) 1 1 0 (λ e. e) d
  day_cell d =
      let l = off_low t sound d in
      let u = (off_paced t sound).rises d in
      let v = (off_paced t sound).falls d in
      record {
        some = omega arith;
        room = omega arith;
        onward = omega arith;
        reads_inside = λ e h. omega arith;
        shows_inside = λ n h. omega arith;
        meets = λ e n h g. (λ z. z, λ z. z);
        rises = λ e f h g. h;
        near = λ n h. omega arith;
        starts = omega arith;
        rounds = λ e h. (omega arith, omega arith);
        climbs = λ e f h g. record { by = omega arith };
        climbs_out = λ e h. record { by = omega arith };
      }

  holds : {n s : ℕ} → Shown t n s → (start t (day_at t n) ≤ n) × (n < start t (day_at t n + 1))
  holds {n} p = let b = p.within.begun in day_holds t sound n (omega arith)

  shown_cell : {n s : ℕ} → Shown t n s → ShownIn (days t) n s
  shown_cell {n} p = let h = holds p in record { cell = day_at t n; e = n - start t (day_at t n); at = omega arith; inside = h.1; is = p.is }

  shown_read : {n s : ℕ} → Shown t n s → Read t s n
  shown_read {n} p =
      let d : ℕ = day_at t n in
      let h = holds p in
      let i = day_within t sound n d p.within h.0 h.1 in
      let l = off_low t sound d in
      let u = (off_paced t sound).rises d in
      let stands : n - start t d < len t d * second = omega arith in
      read_made d (n - start t d) p.is (omega arith) i.0 i.1 stands p.own p.below (omega arith)

  read_kept : {u : Table} {r x : ℕ} → Renews t u → Read t r x → Read u r x
  read_kept {u} {r} k p =
      let d : ℕ = day_of r in
      let i = p.in_time in
      let g = k.expiry_grows in
      let e = off_kept k d (omega arith) in
      let f = off_kept k (d + 1) (omega arith) in
      record { own = p.own; begun = p.begun; in_time = omega arith; stands = rw (e, f) p.stands; below = p.below; is = rw e p.is }

  shown_kept : {u : Table} {n s : ℕ} → Renews t u → Shown t n s → Shown u n s
  shown_kept {u} {n} k p =
      let x : ℕ = t.expiry in
      let i = p.within.in_time in
      let l = off_low t sound x in
      let h = holds p in
      let w = day_within t sound n (day_at t n) p.within h.0 h.1 in
      let d : ℕ = n / day_ticks in
      let e = start_kept k d (omega arith) in
      let same : day_at u n ≡ day_at t n = ap (λ (z : ℕ). cond (leb z n) d (d - 1)) e in
      let f = start_kept k (day_at t n) (omega arith) in
      record { below = p.below; within = within_kept t sound k n p.within; own = p.own; is = rw (same, f) p.is }

pub leap_lawful : LawfulRung leap
leap_lawful = by_cells leap days 1 1
    (record {
      cells = λ {t} z. cells_keep (days t) 1 1 0 (λ _ e. e) (day_cell t z);
      reads_by = λ {t} {r} z e. let p = read_is t r e in (p.own, p.below, read_cell t p);
      shows_by = λ {t} {n} z e. let p = shown_is t n e in (p.below, p.own, shown_cell t z p);
      shown_is_read = λ {t} {n} {s} z e. (n, is_read t s (shown_read t z (shown_is t n e)));
      spreads = λ x y r s h g. omega arith;
      spread_grows = λ h. h;
      spread_covers = λ n. omega arith;
      reads_kept = λ {t} {u} {r} z k e. is_read u r (read_kept t z k (read_is t r e));
      shows_kept = λ {t} {u} {n} z k e. is_shown u n (shown_kept t z k (shown_is t n e));
    })
