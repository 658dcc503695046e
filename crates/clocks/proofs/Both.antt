-- Two parts of which one stands over the other, as in a pile and in a scale: what is read, and what is shown, by both.
use Rattle.std.proofs.Common.{◌≡◌, ℕ, ◌+◌, ◌-◌, ◌≤◌, Ok, Result, ap, ◌∙◌, subst, arith}
use Rattle.refusals.specs.declared.fault.Fault.{Fault}
use Rattle.leap.specs.Table.{Table, Sound}
use Rattle.clocks.specs.Rungs.{RungMeaning, LawfulRung}
use Rattle.clocks.specs.Piles.{lowered, then_do}
use Rattle.clocks.proofs.Steps.{then_ok, lowered_ok}

-- the upper part, which reads and shows own counts or stamps, of type S
pub record Upper (S : Type 0) : Type 0 where
  pub reads : Table → S → Result ℕ Fault
  pub shows : Table → ℕ → Result S Fault
  pub rungs : ℕ

module _ {S : Type 0} (u : Upper S) (v : RungMeaning) where
  abbrev pub reads_both : Table → S → Result ℕ Fault
  reads_both t r = then_do (u.reads t r) (λ x. lowered u.rungs (v.reads t x))

  abbrev pub shows_both : Table → ℕ → Result S Fault
  shows_both t n = then_do (lowered u.rungs (v.shows t n)) (λ x. then_do (u.shows t x) (λ y. then_do (u.reads t y) (λ z. then_do (lowered u.rungs (v.reads t z)) (λ _. Ok y))))

  pub read_steps : {t : Table} {r : S} {b : ℕ} → reads_both t r ≡ Ok b → (x : ℕ) × (u.reads t r ≡ Ok x) × (v.reads t x ≡ Ok b)
  read_steps {t} {r} e =
      let s = then_ok (u.reads t r) (λ x. lowered u.rungs (v.reads t x)) e in
      (s.0, s.1, lowered_ok u.rungs (v.reads t s.0) s.2)

  pub read_made : {t : Table} {r : S} {x b : ℕ} → u.reads t r ≡ Ok x → v.reads t x ≡ Ok b → reads_both t r ≡ Ok b
  read_made p q = rw (p, q)

  pub show_steps : {t : Table} {n : ℕ} {y : S} → shows_both t n ≡ Ok y → (x : ℕ) × (z : ℕ) × (a : ℕ) × (v.shows t n ≡ Ok x) × (u.shows t x ≡ Ok y) × (u.reads t y ≡ Ok z) × (v.reads t z ≡ Ok a)
  show_steps {t} {n} {y} e =
      let k = u.rungs in
      let p = then_ok (lowered k (v.shows t n)) (λ x. then_do (u.shows t x) (λ y. then_do (u.reads t y) (λ z. then_do (lowered k (v.reads t z)) (λ _. Ok y)))) e in
      let q = then_ok (u.shows t p.0) (λ y. then_do (u.reads t y) (λ z. then_do (lowered k (v.reads t z)) (λ _. Ok y))) p.2 in
      let r = then_ok (u.reads t q.0) (λ z. then_do (lowered k (v.reads t z)) (λ _. Ok q.0)) q.2 in
      let s = then_ok (lowered k (v.reads t r.0)) (λ _. Ok q.0) r.2 in
      let same_y : q.0 ≡ y = cc in
      (p.0, r.0, s.0, lowered_ok k _ p.1, q.1 ∙ ap Ok same_y, subst (λ w. u.reads t w ≡ Ok r.0) same_y r.1, lowered_ok k _ {b = s.0} s.1)

  pub show_made : {t : Table} {n x z a : ℕ} {y : S} → v.shows t n ≡ Ok x → u.shows t x ≡ Ok y → u.reads t y ≡ Ok z → v.reads t z ≡ Ok a → shows_both t n ≡ Ok y
  show_made p q r s = rw (p, q, r, s)

  -- what both show and read is off by the lower part's loss and what it makes of the upper part's
  pub within_both : {t : Table} {n a : ℕ} {y : S} (loss : ℕ) → LawfulRung v → Sound t → ((m b : ℕ) → u.shows t m ≡ Ok y → u.reads t y ≡ Ok b → (b ≤ m) × (m ≤ b + loss))
      → shows_both t n ≡ Ok y → reads_both t y ≡ Ok a → (a ≤ n) × (n ≤ a + (v.loss + v.spread loss))
  within_both {t} {n} {a} {y} loss lv s upper e f =
      let p = show_steps e in
      let q = read_steps f in
      let z : q.0 ≡ p.1 = cc in
      let va : v.reads t p.1 ≡ Ok a = cc in
      let b = lv.shown_is_read s p.3 in
      let low = lv.within_loss s p.3 b.1 in
      let up = upper p.0 p.1 p.4 p.5 in
      let rise = lv.reads_rise s va b.1 up.0 in
      let gap = lv.within_spread s va b.1 up.0 in
      let d : p.0 - p.1 ≤ loss = omega arith in
      let grown = lv.spread_grows d in
      (omega arith, omega arith)
