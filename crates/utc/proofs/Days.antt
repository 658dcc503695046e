-- The ticks at which days begin, in sound tables and in renewed ones.
use Rattle.std.proofs.Common.{◌≡◌, ℕ, ◌+◌, ◌-◌, ◌*◌, ◌/◌, ◌<◌, ◌≤◌, leb, inl, inr, ap, arith}
use Rattle.std.proofs.lemmas.Bool.{leb-true, leb-false, cases_lt, cases_order, cond_both}
use Rattle.leap.specs.Table.{Table, Sound, top_offset, day_seconds, first_entry_day, off}
use Rattle.leap.specs.Bulletin.{Renews}
use Rattle.leap.proofs.Offsets.{off_low, off_kept, starts_before}
use Rattle.clocks.specs.Counts.{second}
use Rattle.utc.specs.Labels.{day_ticks}
use Rattle.utc.specs.Leap.{start, day_at}

-- a later day begins later
pub start_up : (t : Table) (i j : ℕ) → off t i ≤ top_offset → i ≤ j → start t i ≤ start t j
start_up t i j low h = elim (cases_order i j) [
  | inl e ↦ let g = ap (start t) e in omega arith
  | inr (inl l) ↦ omega arith
  | inr (inr l) ↦ let no : ⊥ = omega arith in absurd no
]

pub start_kept : {t u : Table} → Renews t u → (d : ℕ) → d ≤ t.expiry → start u d ≡ start t d
start_kept k d h = ap (λ (z : ℕ). (d * day_seconds + z) * second) (off_kept k d h)

-- a tick that a table has an answer to
pub record Within (t : Table) (n : ℕ) : Type 0 where
  pub begun : start t first_entry_day ≤ n
  pub in_time : n < start t t.expiry

module _ (t : Table) (sound : Sound t) where
  pub within_kept : {u : Table} → Renews t u → (n : ℕ) → Within t n → Within u n
  within_kept {u} k n w =
      let x : ℕ = t.expiry in
      let g : x ≤ u.expiry = k.expiry_grows in
      let b = starts_before t sound in
      let e = start_kept k first_entry_day (omega arith) in
      let f = start_kept k x (omega arith) in
      let o = off_kept k x (omega arith) in
      let l = off_low t sound x in
      let up = start_up u x u.expiry (omega arith) g in
      record { begun = let h = w.begun in omega arith; in_time = let h = w.in_time in omega arith }

  -- the day that holds a tick
  pub day_holds : (n : ℕ) → day_ticks ≤ n → (start t (day_at t n) ≤ n) × (n < start t (day_at t n + 1))
  day_holds n h =
      let d : ℕ = n / day_ticks in
      cond_both (leb (start t d) n) d (d - 1) (λ (z : ℕ). (start t z ≤ n) × (n < start t (z + 1)))
      (λ e. let g = leb-true (start t d) n e in (g, omega arith))
      (λ e.
      let g = leb-false (start t d) n e in
      let l = off_low t sound (d - 1) in
      let back : d - 1 + 1 ≡ d = omega arith in
      let same = ap (start t) back in
      (omega arith, omega arith))

  -- is a day of the table
  pub day_within : (n d : ℕ) → Within t n → start t d ≤ n → n < start t (d + 1) → (first_entry_day ≤ d) × (d < t.expiry)
  day_within n d w h g =
      let a = w.begun in
      let b = w.in_time in (
        elim (cases_lt d first_entry_day) [
          | inl l ↦ let up = start_up t (d + 1) first_entry_day (off_low t sound (d + 1)) (omega arith) in let no : ⊥ = omega arith in absurd no
          | inr l ↦ l
        ],
        elim (cases_lt d t.expiry) [
          | inl l ↦ l
          | inr l ↦ let up = start_up t t.expiry d (off_low t sound t.expiry) l in let no : ⊥ = omega arith in absurd no
        ],
      )
