-- The ring of waiting feeds as a list.
use Rattle.std.proofs.Common.{◌≡◌, ℕ, zero, suc, ◌+◌, ◌-◌, ◌%◌, ◌<◌, ◌≤◌, ◌≢◌, ◌⊎◌, List, [], ◌∷◌, ◌++◌, length, get_or, set, sym, refl, ap, ◌∙◌, ap₂, inl, inr, mod-eq_of_lt, arith, get_or-set_other, get_or-set_same}
use Rattle.std.proofs.Math.Nat.{mod-eq-sub-mod, mod-add-mod, mod-lt}
use Rattle.std.proofs.lemmas.Bool.{cases_lt}
use Rattle.joiner.specs.Ring.{ring_from}

-- a place below 2 N wraps once at most
mod_wraps_once : (N j : ℕ) → j < N + N → ((j < N) × (j % N ≡ j)) ⊎ ((N ≤ j) × (j % N ≡ j - N))
mod_wraps_once N j below = elim (cases_lt j N) [
  | inl low ↦ inl (low, mod-eq_of_lt low)
  | inr high ↦ inr (high, mod-eq-sub-mod high ∙ mod-eq_of_lt (omega arith))
]

module _ (N : ℕ) (xs : List ℕ) where
  pub ring_length : (k n : ℕ) → length (ring_from N xs k n) ≡ n
  ring_length k zero = refl
  ring_length k (suc n) = ap suc (ring_length ((k + 1) % N) n)

  pub ring_step : (k n : ℕ) → 0 < n → ring_from N xs k n ≡ get_or xs k 0 ∷ ring_from N xs ((k + 1) % N) (n - 1)
  ring_step k zero l = let z : ⊥ = omega arith in absurd z
  ring_step k (suc n) l = ap (λ (m : ℕ). get_or xs k 0 ∷ ring_from N xs ((k + 1) % N) m) (omega arith)

  -- a write behind the last of fewer than N items adds one at the end
  pub ring_push : (k n p x : ℕ) → length xs ≡ N → k < N → n < N → p ≡ (k + n) % N → ring_from N (set xs p x) k (suc n) ≡ ring_from N xs k n ++ x ∷ []
  ring_push k zero p x s l m e =
      let same : p ≡ k = grind (arith, mod_wraps_once N (k + 0) (omega arith)) in
      let inside : k < length xs = omega arith in
      ap (λ (q : ℕ). get_or (set xs q x) k 0 ∷ []) same ∙ ap (λ (y : ℕ). y ∷ []) (get_or-set_same xs k x 0 inside)
  ring_push k (suc n) p x s l m e =
      let next : (k + 1) % N < N = mod-lt (k + 1) (omega arith) in
      let other : k ≢ p = grind (arith, mod_wraps_once N (k + suc n) (omega arith)) in
      let place : p ≡ ((k + 1) % N + n) % N = e ∙ ap (λ (j : ℕ). j % N) (omega arith) ∙ sym (mod-add-mod (k + 1) N n) in
      ap₂ (λ (y : ℕ) (ys : List ℕ). y ∷ ys) (get_or-set_other xs p k x 0 other) (ring_push ((k + 1) % N) n p x s next (omega arith) place)

  pub ring_room : (k n : ℕ) (items : List ℕ) → ring_from N xs k n ≡ items → length items < N → n < N
  ring_room k n items e h = omega (arith, ring_length k n, ap length e)
