-- Smeared time reads and shows as its windows are told, entry by entry.
use Rattle.std.proofs.Common.{◌≡◌, ℕ, ◌+◌, ◌-◌, ◌*◌, ◌/◌, ◌%◌, ◌<◌, ◌≤◌, length, inl, inr, ap, ◌∙◌, subst, mul-div_cancel, arith}
use Rattle.std.proofs.lemmas.Bool.{cases_lt, cases_order}
use Rattle.leap.specs.Table.{Table, Sound, largest_step, day_seconds, first_entry_day, at, off}
use Rattle.leap.proofs.Offsets.{off_low, off_paced, off_first, off_at}
use Rattle.clocks.specs.Counts.{second}
use Rattle.clocks.specs.Stamps.{up}
use Rattle.utc.specs.Labels.{day_ticks}
use Rattle.utc.specs.Leap.{start}
use Rattle.utc.specs.Smear.{opens, opens_at, wide, smear_tick, smear_reading, smear_count, window_at, smear_showing, opening_second, window_seconds, window_lead}
use Rattle.utc.specs.Windows.{entry_opens, entry_ticks, entry_wide, ByWindows}
use Rattle.utc.proofs.Cells.{from_on}
use Rattle.utc.proofs.Days.{start_up}
use Rattle.utc.proofs.Smears.{tick_is, count_is, opened}
use Rattle.utc.proofs.Stretch.{stretched, shrunk, in_stretched, out_stretched, in_shrunk, out_shrunk, stretch_flat}

module _ (l lead : ℕ) (long : largest_step < l) (short : l ≤ day_seconds) (leads : lead ≤ day_seconds) (t : Table) (sound : Sound t) where
  abbrev from : ℕ
  from = opening_second lead

  early : from ≤ day_seconds
  early = omega arith

  some : 0 < l
  some = omega arith

  -- no entry's day lies before the first entry's
  days_from : (k : ℕ) → k < length t.entries → first_entry_day ≤ (at t.entries k).day
  days_from k = from_on (λ (z : ℕ). z < length t.entries → first_entry_day ≤ (at t.entries z).day) 0 k (omega arith)
      (λ h. let e = sound.first_day in omega arith)
      (λ z p h. let r = sound.days_rise z h in let q = p (omega arith) in omega arith)

  -- entry k's offset counts from the day before its day's window on, up to the next entry's day
  counts : (k d : ℕ) → k < length t.entries → (at t.entries k).day ≤ d → (k + 1 < length t.entries → d < (at t.entries (k + 1)).day) → off t d ≡ (at t.entries k).offset
  counts k d h l m = off_at t sound k d h l m

  window_opens : (k : ℕ) → k < length t.entries → entry_opens t lead k ≡ opens from ((at t.entries k).day - 1)
  window_opens k h = let b = days_from k h in omega arith

  old : (k : ℕ) → k + 1 < length t.entries → off t ((at t.entries (k + 1)).day - 1) ≡ (at t.entries k).offset
  old k h = let r = sound.days_rise k h in counts k ((at t.entries (k + 1)).day - 1) (omega arith) (omega arith) (λ m. omega arith)

  new : (k : ℕ) → k + 1 < length t.entries → off t ((at t.entries (k + 1)).day - 1 + 1) ≡ (at t.entries (k + 1)).offset
  new k h =
      let b = days_from (k + 1) h in
      counts (k + 1) ((at t.entries (k + 1)).day - 1 + 1) h (omega arith) (λ m. let r = sound.days_rise (k + 1) m in omega arith)

  wide_is : (k : ℕ) → k + 1 < length t.entries → wide t l ((at t.entries (k + 1)).day - 1) ≡ entry_wide t l k
  wide_is k h = let a = old k h in let b = new k h in omega arith

  -- a count, and a tick, by its window
  reading_by : (r c e : ℕ) → r ≡ opens from c + e → e < day_ticks → smear_reading t l from r ≡ opens_at t from c + stretched l (wide t l c) e
  reading_by r c e h g =
      let a : (r - from * second) / day_ticks ≡ c = omega arith in
      let b : (r - from * second) % day_ticks ≡ e = omega arith in
      ap (λ (z : ℕ). smear_tick t l from r z ((r - from * second) % day_ticks)) a ∙ ap (λ (z : ℕ). smear_tick t l from r c z) b ∙ tick_is l from long short early t sound r c e h

  opens_up : (i j : ℕ) → i ≤ j → opens_at t from i ≤ opens_at t from j
  opens_up i j h = let s = start_up t i j (off_low t sound i) h in omega arith

  window_is : (n c : ℕ) → start t first_entry_day ≤ n → opens_at t from c ≤ n → n < opens_at t from (c + 1) → window_at t from n ≡ c
  window_is n c b h g =
      let w : ℕ = window_at t from n in
      let o = opened l from long short early t sound n b in
      elim (cases_order w c) [
        | inl e ↦ e
        | inr (inl l) ↦ let u = opens_up (w + 1) c (omega arith) in let no : ⊥ = omega arith in absurd no
        | inr (inr l) ↦ let u = opens_up (c + 1) w (omega arith) in let no : ⊥ = omega arith in absurd no
      ]

  showing_by : (n c e : ℕ) → start t first_entry_day ≤ n → n ≡ opens_at t from c + e → n < opens_at t from (c + 1) → smear_showing t l from n ≡ opens from c + shrunk l (wide t l c) e
  showing_by n c e b h g =
      let w = window_is n c b (omega arith) g in
      let d : n - opens_at t from c ≡ e = omega arith in
      ap (λ (z : ℕ). smear_count t l from n z (n - opens_at t from z)) w ∙ ap (λ (z : ℕ). smear_count t l from n c z) d ∙ count_is l from long short early t sound n c e h

  shrunk_flat : (e : ℕ) → shrunk l l e ≡ e
  shrunk_flat e = elim (cases_lt e (l * second)) [
    | inl h ↦ rw (in_shrunk l l e h) (mul-div_cancel e some)
    | inr h ↦ rw (out_shrunk l l e h) (omega arith)
  ]

  reads_in : (k e : ℕ) → k + 1 < length t.entries → e < l * second → smear_reading t l from (entry_opens t lead (k + 1) + e) ≡ entry_opens t lead (k + 1) + entry_ticks t k + up (e * entry_wide t l k) l
  reads_in k e h g =
      let c : ℕ = (at t.entries (k + 1)).day - 1 in
      let o = window_opens (k + 1) h in
      let a = old k h in
      let w = wide_is k h in
      let u : stretched l (wide t l c) e ≡ up (e * entry_wide t l k) l = in_stretched l (wide t l c) e g ∙ ap (λ (z : ℕ). up (e * z) l) w in
      let r = reading_by (entry_opens t lead (k + 1) + e) c e (omega arith) (omega arith) in
      omega arith

  shows_in : (k e : ℕ) → k + 1 < length t.entries → e < entry_wide t l k * second → smear_showing t l from (entry_opens t lead (k + 1) + entry_ticks t k + e) ≡ entry_opens t lead (k + 1) + e * l / entry_wide t l k
  shows_in k e h g =
      let c : ℕ = (at t.entries (k + 1)).day - 1 in
      let o = window_opens (k + 1) h in
      let b = days_from k (omega arith) in
      let rise = sound.days_rise k h in
      let a = old k h in
      let f = new k h in
      let p = (off_paced t sound).falls c in
      let first = off_first t sound first_entry_day (omega arith) in
      let w = wide_is k h in
      let u : shrunk l (wide t l c) e ≡ e * l / entry_wide t l k = in_shrunk l (wide t l c) e (omega arith) ∙ ap (λ (z : ℕ). e * l / z) w in
      let n : ℕ = entry_opens t lead (k + 1) + entry_ticks t k + e in
      let up = start_up t first_entry_day c (off_low t sound first_entry_day) (omega arith) in
      let s = showing_by n c e (omega arith) (omega arith) (omega arith) in
      omega arith

  -- where entry k's window has ended, and the next has not begun
  here : (k c : ℕ) → k < length t.entries → first_entry_day ≤ c + 1 → (0 < k → (at t.entries k).day ≤ c) → (k + 1 < length t.entries → c < (at t.entries (k + 1)).day) → off t c ≡ (at t.entries k).offset
  here k c h b d m = elim (cases_lt c (at t.entries k).day) [
    | inr g ↦ counts k c h g m
    | inl g ↦ elim (cases_lt 0 k) [
      | inl p ↦ let q = d p in let no : ⊥ = omega arith in absurd no
      | inr p ↦
          let z : k ≡ 0 = omega arith in
          let day = ap (λ (z : ℕ). (at t.entries z).day) z in
          let offset = ap (λ (z : ℕ). (at t.entries z).offset) z in
          let e = sound.first_day in
          let f = sound.first_offset in
          let x = off_first t sound c (omega arith) in
          omega arith
    ]
  ]

  reads_out : (k r : ℕ) → k < length t.entries → first_entry_day * day_ticks ≤ r → (0 < k → entry_opens t lead k + l * second ≤ r) → (k + 1 < length t.entries → r < entry_opens t lead (k + 1)) → smear_reading t l from r ≡ r + entry_ticks t k
  reads_out k r h b ended next =
      let c : ℕ = (r - from * second) / day_ticks in
      let e : ℕ = (r - from * second) % day_ticks in
      let o = window_opens k h in
      let d = days_from k h in
      let split : r ≡ opens from c + e = omega arith in
      let before : (k + 1 < length t.entries → c + 1 < (at t.entries (k + 1)).day) = λ m. (let a = next m in let p = window_opens (k + 1) m in let q = days_from (k + 1) m in omega arith) in
      let after : off t (c + 1) ≡ (at t.entries k).offset = here k (c + 1) h (omega arith) (λ p. let a = ended p in omega arith) before in
      let r_is = reading_by r c e split (omega arith) in
      elim (cases_lt e (l * second)) [
        | inr g ↦ let f = (off_paced t sound).falls c in let s = out_stretched l (wide t l c) e g in omega arith
        | inl g ↦
            let same : off t c ≡ (at t.entries k).offset = here k c h (omega arith) (λ p. let a = ended p in omega arith) (λ m. let a = before m in omega arith) in
            let w : wide t l c ≡ l = omega arith in
            let s : stretched l (wide t l c) e ≡ e = ap (λ (z : ℕ). stretched l z e) w ∙ stretch_flat l e some in
            omega arith
      ]

  -- the windows that a tick has and has not reached
  first_reached : (n : ℕ) → start t first_entry_day ≤ n → first_entry_day ≤ window_at t from n + 1
  first_reached n b =
      let c : ℕ = window_at t from n in
      let w = opened l from long short early t sound n b in
      elim (cases_lt (c + 1) first_entry_day) [
        | inr g ↦ g
        | inl g ↦
            let e = off_first t sound first_entry_day (omega arith) in
            let f = off_first t sound (c + 1) (omega arith) in
            let no : ⊥ = omega arith in
            absurd no
      ]

  reached : (k n : ℕ) → k + 1 < length t.entries → start t first_entry_day ≤ n → entry_opens t lead (k + 1) + l * second + entry_ticks t (k + 1) ≤ n → (at t.entries (k + 1)).day ≤ window_at t from n + 1
  reached k n h b g =
      let c : ℕ = window_at t from n in
      let p : ℕ = (at t.entries (k + 1)).day - 1 in
      let w = opened l from long short early t sound n b in
      let o = window_opens (k + 1) h in
      let a = new k h in
      let f = (off_paced t sound).falls p in
      elim (cases_lt c p) [
        | inr i ↦ omega arith
        | inl i ↦ let u = opens_up (c + 1) p (omega arith) in let no : ⊥ = omega arith in absurd no
      ]

  reached_by : (k n : ℕ) → k < length t.entries → start t first_entry_day ≤ n → 0 < k → entry_opens t lead k + l * second + entry_ticks t k ≤ n → (at t.entries k).day ≤ window_at t from n + 1
  reached_by k n h b p g =
      let e : k - 1 + 1 ≡ k = omega arith in
      subst (λ (z : ℕ). z < length t.entries → entry_opens t lead z + l * second + entry_ticks t z ≤ n → (at t.entries z).day ≤ window_at t from n + 1) e (λ i j. reached (k - 1) n i b j) h g

  not_reached : (k n c : ℕ) → k + 1 < length t.entries → opens_at t from c ≤ n → n < entry_opens t lead (k + 1) + entry_ticks t k → c + 1 < (at t.entries (k + 1)).day
  not_reached k n c h g i =
      let p : ℕ = (at t.entries (k + 1)).day - 1 in
      let o = window_opens (k + 1) h in
      let a = old k h in
      elim (cases_lt c p) [
        | inl j ↦ omega arith
        | inr j ↦ let u = opens_up p c j in let no : ⊥ = omega arith in absurd no
      ]

  shows_out : (k n : ℕ) → k < length t.entries → start t first_entry_day ≤ n → (0 < k → entry_opens t lead k + l * second + entry_ticks t k ≤ n) → (k + 1 < length t.entries → n < entry_opens t lead (k + 1) + entry_ticks t k) → smear_showing t l from n ≡ n - entry_ticks t k
  shows_out k n h b ended next =
      let c : ℕ = window_at t from n in
      let w = opened l from long short early t sound n b in
      let e : ℕ = n - opens_at t from c in
      let o = window_opens k h in
      let d = days_from k h in
      let first = first_reached n b in
      let before : (k + 1 < length t.entries → c + 1 < (at t.entries (k + 1)).day) = λ m. not_reached k n c m w.0 (next m) in
      let after : off t (c + 1) ≡ (at t.entries k).offset = here k (c + 1) h (omega arith) (λ p. reached_by k n h b p (ended p)) before in
      let s_is = showing_by n c e b (omega arith) w.1 in
      let f = (off_paced t sound).falls c in
      elim (cases_lt e (wide t l c * second)) [
        | inr g ↦ let s = out_shrunk l (wide t l c) e g in omega arith
        | inl g ↦
            let same : off t c ≡ (at t.entries k).offset = here k c h first (λ p. let a = ended p in let r = reached_by k n h b p a in omega arith) (λ m. let a = before m in omega arith) in
            let i : wide t l c ≡ l = omega arith in
            let s : shrunk l (wide t l c) e ≡ e = ap (λ (z : ℕ). shrunk l z e) i ∙ shrunk_flat e in
            omega arith
      ]

  pub by_windows : ByWindows t l lead
  by_windows = record { reads_in = reads_in; shows_in = shows_in; reads_out = reads_out; shows_out = shows_out }

-- at the windows of the rung
pub windows_told : (t : Table) → Sound t → ByWindows t window_seconds window_lead
windows_told t s = by_windows window_seconds window_lead (omega arith) (omega arith) (omega arith) t s
