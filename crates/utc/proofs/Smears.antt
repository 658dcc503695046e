-- The smear rung is lawful, whatever the length of its windows and however long before midnight they open: its cells go from one opening to the next.
use Rattle.std.proofs.Common.{◌≡◌, ℕ, ◌+◌, ◌-◌, ◌*◌, ◌/◌, ◌%◌, ◌<◌, ◌≤◌, cond, leb, Ok, inl, inr, refl, sym, ap, ◌∙◌, mul-add, mul_comm, arith}
use Rattle.std.proofs.lemmas.Bool.{leb-true, leb-false, lt-ltb, le-ltb, cases_lt, cond_both}
use Rattle.std.proofs.lemmas.Bool.Decides.{nat_tests}
use Rattle.leap.specs.Table.{Table, Sound, largest_step, day_seconds, first_entry_day, off}
use Rattle.leap.specs.Bulletin.{Renews}
use Rattle.leap.proofs.Offsets.{off_low, off_paced, off_first, off_end, off_kept, starts_before}
use Rattle.clocks.specs.Counts.{Count, second}
use Rattle.clocks.specs.Rungs.{LawfulRung}
use Rattle.utc.specs.Labels.{day_ticks}
use Rattle.utc.specs.Leap.{start}
use Rattle.utc.specs.Smear.{opens, opens_at, wide, smear_tick, smear_reading, smear_count, window_at, smear_showing, opening_second, smear}
use Rattle.utc.proofs.Cells.{CellMap, ReadIn, ShownIn, Climbs, LawfulCell, LawfulCells, climb_moved, cells_keep}
use Rattle.utc.proofs.CellRungs.{by_cells}
use Rattle.utc.proofs.Days.{start_up, Within, within_kept}
use Rattle.utc.proofs.Stretch.{stretched, shrunk, scaled, in_stretched, out_stretched, in_shrunk, out_shrunk, out_scaled, stretch_zero, scaled_zero, stretch_flat, stretch_meets, stretch_rises, stretch_ends, shrink_ends, stretch_loss, scaled_near, scaled_climbs, spread_by, spread_up}

-- a cell goes from an opening to the next one: a window, and then time that goes along with TAI
abbrev pub openings : Table → (long from : ℕ) → CellMap
openings t long from = record {
  own = opens from;
  low = opens_at t from;
  stands = λ c. day_ticks;
  reads = λ c e. stretched long (wide t long c) e;
  shows = λ c n. shrunk long (wide t long c) n;
}

record Read (t : Table) (long from r x : ℕ) : Type 0 where
  own : Count r
  begun : first_entry_day * day_ticks ≤ r
  in_time : r < t.expiry * day_ticks
  below : Count x
  is : x ≡ smear_reading t long from r

record Shown (t : Table) (long from n s : ℕ) : Type 0 where
  below : Count n
  within : Within t n
  own : Count s
  is : s ≡ smear_showing t long from n

module _ (l from : ℕ) (long : largest_step < l) (short : l ≤ day_seconds) (early : from ≤ day_seconds) (t : Table) (sound : Sound t) where
  some : 0 < l
  some = omega arith

  wide_some : (c : ℕ) → 0 < wide t l c
  wide_some c = let g = (off_paced t sound).falls c in omega arith

  next : (c : ℕ) → opens_at t from (c + 1) ≡ opens_at t from c + (day_ticks + wide t l c * second - l * second)
  next c = let g = (off_paced t sound).falls c in omega arith

  -- the way out of a cell, at the end of its day
  way_out : (c e : ℕ) → e < day_ticks → Climbs (l + largest_step) (opens from c + e) (l * opens_at t from c + scaled l (wide t l c) e) (opens from (c + 1)) (l * opens_at t from (c + 1))
  way_out c e h =
      let w : ℕ = wide t l c in
      let u = (off_paced t sound).rises c in
      let g = (climb_moved (l + largest_step) (opens from c) (l * opens_at t from c) (scaled_climbs l w some (wide_some c) (l + largest_step) e day_ticks (omega arith) (omega arith) (omega arith))).by in
      let o = out_scaled l w day_ticks (omega arith) in
      let m = mul_comm l (day_ticks + w * second - l * second) in
      let b : l * opens_at t from (c + 1) ≡ l * opens_at t from c + l * (day_ticks + w * second - l * second) = ap (λ (z : ℕ). l * z) (next c) ∙ mul-add l (opens_at t from c) (day_ticks + w * second - l * second) in
      let d : opens from (c + 1) ≡ opens from c + day_ticks = omega arith in
      let f = ap (λ (z : ℕ). (l + largest_step) * z) d in
      record { by = omega arith }

  opening_cell : (c : ℕ) → LawfulCell (openings t l from) l (l + largest_step) 1 (scaled l (wide t l c)) c
  opening_cell c =
      let w : ℕ = wide t l c in
      let pw : 0 < w = wide_some c in
      let u = (off_paced t sound).rises c in
      let b = next c in
      let over = stretch_ends l w some pw in
      record {
        some = omega arith;
        room = omega arith;
        onward = omega arith;
        reads_inside = λ e h. let k = over e day_ticks (omega arith) h in omega arith;
        shows_inside = λ n h. shrink_ends l w some pw n day_ticks (omega arith) (omega arith);
        meets = λ e n h g. stretch_meets l w some pw e n;
        rises = λ e d h g. stretch_rises l w some pw e d h;
        near = λ n h. stretch_loss l w some pw n (omega arith);
        starts = scaled_zero l w some;
        rounds = λ e h. scaled_near l w some pw e;
        climbs = λ e d h g. scaled_climbs l w some pw (l + largest_step) e d (omega arith) (omega arith) h;
        climbs_out = way_out c;
      }

  lawful_cells : LawfulCells (openings t l from) l (l + largest_step) 1
  lawful_cells = cells_keep (openings t l from) l (l + largest_step) 1 (λ c. scaled l (wide t l c)) opening_cell

  -- a reading, said by the cells
  pub tick_is : (r c e : ℕ) → r ≡ opens from c + e → smear_tick t l from r c e ≡ opens_at t from c + stretched l (wide t l c) e
  tick_is r c e h = elim (cases_lt e (l * second)) [
    | inl k ↦ rw (in_stretched l (wide t l c) e k, lt-ltb e (l * second) k) refl
    | inr k ↦ let g = (off_paced t sound).falls c in rw (out_stretched l (wide t l c) e k, le-ltb e (l * second) k) (omega arith)
  ]

  read_cell : {r x : ℕ} → first_entry_day * day_ticks ≤ r → x ≡ smear_reading t l from r → ReadIn (openings t l from) r x
  read_cell {r} {x} h g =
      let c : ℕ = (r - from * second) / day_ticks in
      let e : ℕ = (r - from * second) % day_ticks in
      let at : r ≡ opens from c + e = omega arith in
      record { cell = c; e = e; at = at; inside = omega arith; is = g ∙ tick_is r c e at }

  pub count_is : (n c e : ℕ) → n ≡ opens_at t from c + e → smear_count t l from n c e ≡ opens from c + shrunk l (wide t l c) e
  count_is n c e h = elim (cases_lt e (wide t l c * second)) [
    | inl k ↦ rw (in_shrunk l (wide t l c) e k, lt-ltb e (wide t l c * second) k) refl
    | inr k ↦ let g = (off_paced t sound).falls c in rw (out_shrunk l (wide t l c) e k, le-ltb e (wide t l c * second) k) (omega arith)
  ]

  -- the last window opened by a tick
  pub opened : (n : ℕ) → start t first_entry_day ≤ n → (opens_at t from (window_at t from n) ≤ n) × (n < opens_at t from (window_at t from n + 1))
  opened n h =
      let c : ℕ = (n - from * second) / day_ticks in
      cond_both (leb (opens_at t from c) n) c (c - 1) (λ (z : ℕ). (opens_at t from z ≤ n) × (n < opens_at t from (z + 1)))
      (λ e. let g = leb-true (opens_at t from c) n e in (g, omega arith))
      (λ e.
      let g = leb-false (opens_at t from c) n e in
      let o = off_low t sound (c - 1) in
      let back : c - 1 + 1 ≡ c = omega arith in
      let same = ap (opens_at t from) back in
      (omega arith, omega arith))

  shown_cell : {n s : ℕ} → Shown t l from n s → ShownIn (openings t l from) n s
  shown_cell {n} p =
      let c : ℕ = window_at t from n in
      let h = opened n p.within.begun in
      let at : n ≡ opens_at t from c + (n - opens_at t from c) = omega arith in
      record { cell = c; e = n - opens_at t from c; at = at; inside = h.1; is = p.is ∙ count_is n c (n - opens_at t from c) at }

  -- the midnight that follows day c reads as the day's first tick, if the offset stays there
  midnight : (c d : ℕ) → d ≡ c + 1 → off t d ≡ off t c → ReadIn (openings t l from) (d * day_ticks) (start t d)
  midnight c d e same = elim (cases_lt 0 from) [
    | inl h ↦
        let k : ℕ = day_ticks - from * second in
        let o = ap (off t) e in
        let w : wide t l c ≡ l = omega arith in
        let f : stretched l (wide t l c) k ≡ k = ap (λ (z : ℕ). stretched l z k) w ∙ stretch_flat l k some in
        record { cell = c; e = k; at = omega arith; inside = omega arith; is = omega arith }
    | inr h ↦ let z = stretch_zero l (wide t l d) some in record { cell = d; e = 0; at = omega arith; inside = omega arith; is = omega arith }
  ]

  first_midnight : ReadIn (openings t l from) (first_entry_day * day_ticks) (start t first_entry_day)
  first_midnight = midnight (first_entry_day - 1) first_entry_day (omega arith) (off_first t sound first_entry_day (omega arith) ∙ sym (off_first t sound (first_entry_day - 1) (omega arith)))

  last_midnight : ReadIn (openings t l from) (t.expiry * day_ticks) (start t t.expiry)
  last_midnight = let h = starts_before t sound in midnight (t.expiry - 1) t.expiry (omega arith) (sym (off_end t sound (t.expiry - 1) t.expiry (omega arith) (omega arith)))

  shown_read : {n s : ℕ} → Shown t l from n s → Read t l from s (smear_reading t l from s)
  shown_read {n} {s} p =
      let c = shown_cell p in
      let b = p.within.begun in
      let i = p.within.in_time in
      let begun : first_entry_day * day_ticks ≤ s = (lawful_cells.meet first_midnight c).0 b in
      let in_time : s < t.expiry * day_ticks = elim (cases_lt s (t.expiry * day_ticks)) [
        | inl h ↦ h
        | inr h ↦ let m = (lawful_cells.meet last_midnight c).1 h in let no : ⊥ = omega arith in absurd no
      ] in
      let m = (lawful_cells.near c (read_cell begun refl)).0 in
      record { own = p.own; begun = begun; in_time = in_time; below = let k = p.below in omega arith; is = refl }

  read_kept : {u : Table} {r x : ℕ} → Renews t u → Read t l from r x → Read u l from r x
  read_kept {u} {r} k p =
      let c : ℕ = (r - from * second) / day_ticks in
      let i = p.in_time in
      let h : c < t.expiry = omega arith in
      let g = k.expiry_grows in
      let e = off_kept k c (omega arith) in
      let f = off_kept k (c + 1) (omega arith) in
      record { own = p.own; begun = p.begun; in_time = omega arith; below = p.below; is = rw (e, f) p.is }

  -- the window that a tick of the table is in opens before the table's last day ends
  opened_in_time : (n c : ℕ) → Within t n → opens_at t from c ≤ n → c < t.expiry
  opened_in_time n c w h = elim (cases_lt c t.expiry) [
    | inl i ↦ i
    | inr i ↦
        let b = start_up t t.expiry c (off_low t sound t.expiry) i in
        let j = w.in_time in
        let no : ⊥ = omega arith in
        absurd no
  ]

  shown_kept : {u : Table} {n s : ℕ} → Renews t u → Shown t l from n s → Shown u l from n s
  shown_kept {u} {n} k p =
      let c : ℕ = (n - from * second) / day_ticks in
      let i = p.within.in_time in
      let o = off_low t sound t.expiry in
      let e = off_kept k c (omega arith) in
      let same : window_at u from n ≡ window_at t from n = ap (λ (z : ℕ). cond (leb (opens from c + z * second) n) c (c - 1)) e in
      let d : ℕ = window_at t from n in
      let h = opened_in_time n d p.within (opened n p.within.begun).0 in
      let f = off_kept k d (omega arith) in
      let g = off_kept k (d + 1) (omega arith) in
      record { below = p.below; within = within_kept t sound k n p.within; own = p.own; is = rw (same, f, g) p.is }

module _ (l lead : ℕ) (long : largest_step < l) (short : l ≤ day_seconds) where
  abbrev from : ℕ
  from = opening_second lead

  read_is : (t : Table) (r : ℕ) {x : ℕ} → (smear l lead).reads t r ≡ Ok x → Read t l from r x
  read_is t r e =
      record {
        own = grind (arith, nat_tests);
        begun = grind (arith, nat_tests);
        in_time = grind (arith, nat_tests);
        below = grind (arith, nat_tests);
        is = grind (arith, nat_tests);
      }

  is_read : (t : Table) (r : ℕ) {x : ℕ} → Read t l from r x → (smear l lead).reads t r ≡ Ok x
  is_read t r p = grind (arith, nat_tests)

  shown_is : (t : Table) (n : ℕ) {s : ℕ} → (smear l lead).shows t n ≡ Ok s → Shown t l from n s
  shown_is t n e =
      record {
        below = grind (arith, nat_tests);
        within = record { begun = grind (arith, nat_tests); in_time = grind (arith, nat_tests) };
        own = grind (arith, nat_tests);
        is = grind (arith, nat_tests);
      }

  is_shown : (t : Table) (n : ℕ) {s : ℕ} → Shown t l from n s → (smear l lead).shows t n ≡ Ok s
  is_shown t n p = grind (arith, nat_tests)

  pub smear_lawful : LawfulRung (smear l lead)
  smear_lawful =
      let early : from ≤ day_seconds = omega arith in
      by_cells (smear l lead) (λ t. openings t l from) l (l + largest_step)
      (record {
        cells = λ {t} z. lawful_cells l from long short early t z;
        reads_by = λ {t} {r} z e. let p = read_is t r e in (p.own, p.below, read_cell l from long short early t z p.begun p.is);
        shows_by = λ {t} {n} z e. let p = shown_is t n e in (p.below, p.own, shown_cell l from long short early t z p);
        shown_is_read = λ {t} {n} {s} z e. (_, is_read t s (shown_read l from long short early t z (shown_is t n e)));
        spreads = λ x y r s h g. spread_by l largest_step x y r s (omega arith) h g;
        spread_grows = λ {n} {k} h. spread_up l largest_step n k (omega arith) h;
        spread_covers = λ n. omega arith;
        reads_kept = λ {t} {u} {r} z k e. is_read u r (read_kept l from long short early t z k (read_is t r e));
        shows_kept = λ {t} {u} {n} z k e. is_shown u n (shown_kept l from long short early t z k (shown_is t n e));
      })
