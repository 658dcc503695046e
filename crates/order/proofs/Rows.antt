-- lemmas on lists
use Rattle.std.proofs.Common.{◌≡◌, ℕ, zero, suc, ◌<◌, ◌≤◌, Bool, true, false, cond, List, [], ◌∷◌, ◌++◌, map, length, set, Some, None, filter, sym, refl, ap, ◌∙◌, subst, le_of_suc-le-suc, not-suc-le-zero, arith}
use Rattle.std.specs.List.{All, slice_get}
use Rattle.std.proofs.lemmas.List.{map-append}
use Rattle.std.proofs.lemmas.Option.{get_or_from_slice_get, slice_get_within, none-some}

module _ {A : Type 0} where
  pub none≢some : {a : A} → None ≡ Some a → ⊥
  none≢some {a} e = none-some a e

  pub some_same : {a b : A} → Some a ≡ Some b → a ≡ b
  some_same e = cc

  pub cons≢nil : {a : A} {zs : List A} → a ∷ zs ≡ [] → ⊥
  cons≢nil e = let z : ◌≡◌ {A = ℕ} 0 1 = cc in omega arith

  pub head_same : {a b : A} {xs ys : List A} → a ∷ xs ≡ b ∷ ys → a ≡ b
  head_same e = cc

  pub tail_same : {a b : A} {xs ys : List A} → a ∷ xs ≡ b ∷ ys → xs ≡ ys
  tail_same e = cc

  pub all_nth : (P : A → Type 0) (xs : List A) (n : ℕ) (a : A) → All P xs → slice_get xs n ≡ Some a → P a
  all_nth P xs n a h e = subst P (get_or_from_slice_get xs n a a e) (h n a (slice_get_within xs n a e))

  pub nth_some : (xs : List A) (n : ℕ) → n < length xs → (a : A) × (slice_get xs n ≡ Some a)
  nth_some [] n h = absurd (not-suc-le-zero h)
  nth_some (x ∷ xs) zero h = (x, refl)
  nth_some (x ∷ xs) (suc n) h = nth_some xs n (le_of_suc-le-suc h)

  pub nth_map_front : {B : Type 0} (h : A → B) (xs ys : List A) (n : ℕ) (a : A) (b : B) → slice_get (map h xs) n ≡ Some b → slice_get (xs ++ ys) n ≡ Some a → h a ≡ b
  nth_map_front h [] ys n a b e k = let z : ◌≡◌ {A = ℕ} 0 1 = cc in absurd (let c : ⊥ = omega arith in c)
  nth_map_front {B} h (x ∷ xs) ys zero a b e k = let p : h x ≡ b = cc in let q : x ≡ a = cc in ap h (sym q) ∙ p
  nth_map_front h (x ∷ xs) ys (suc n) a b e k = nth_map_front h xs ys n a b e k

  pub nth_seam : (xs : List A) (y : A) (ys : List A) → slice_get (xs ++ y ∷ ys) (length xs) ≡ Some y
  nth_seam [] y ys = refl
  nth_seam (x ∷ xs) y ys = nth_seam xs y ys

  -- past the seam an element is one of the second list
  pub nth_after : (P : A → Type 0) (xs ys : List A) (n : ℕ) (a : A) → All P ys → length xs ≤ n → slice_get (xs ++ ys) n ≡ Some a → P a
  nth_after P [] ys n a h l e = all_nth P ys n a h e
  nth_after P (x ∷ xs) ys zero a h l e = absurd (not-suc-le-zero l)
  nth_after P (x ∷ xs) ys (suc n) a h l e = nth_after P xs ys n a h (le_of_suc-le-suc l) e

  pub nth_set_same : (xs : List A) (i : ℕ) (a : A) → i < length xs → slice_get (set xs i a) i ≡ Some a
  nth_set_same [] i a h = absurd (not-suc-le-zero h)
  nth_set_same (x ∷ xs) zero a h = refl
  nth_set_same (x ∷ xs) (suc i) a h = nth_set_same xs i a (le_of_suc-le-suc h)

  pub nth_set_other : (xs : List A) (i j : ℕ) (a : A) → (j ≡ i → ⊥) → slice_get (set xs i a) j ≡ slice_get xs j
  nth_set_other [] i j a h = refl
  nth_set_other (x ∷ xs) zero zero a h = absurd (h refl)
  nth_set_other (x ∷ xs) zero (suc j) a h = refl
  nth_set_other (x ∷ xs) (suc i) zero a h = refl
  nth_set_other (x ∷ xs) (suc i) (suc j) a h = nth_set_other xs i j a (λ e. h (ap suc e))

-- a filter by what a map keeps
pub kept_map : {A B : Type 0} (h : A → B) (p : A → Bool) (q : B → Bool) → ((a : A) → q (h a) ≡ p a) → (xs : List A) → filter q (map h xs) ≡ map h (filter p xs)
kept_map h p q e [] = refl
kept_map {A} {B} h p q e (x ∷ xs) = step (q (h x)) (p x) (e x) (kept_map h p q e xs)
  where
    step : (u v : Bool) → u ≡ v → filter q (map h xs) ≡ map h (filter p xs) → cond u (h x ∷ filter q (map h xs)) (filter q (map h xs)) ≡ map h (cond v (x ∷ filter p xs) (filter p xs))
    step true true k r = ap {B = List B} (λ z. h x ∷ z) r
    step true false k r = let z : ◌≡◌ {A = ℕ} 0 1 = cc in absurd (let n : ⊥ = omega arith in n)
    step false true k r = let z : ◌≡◌ {A = ℕ} 0 1 = cc in absurd (let n : ⊥ = omega arith in n)
    step false false k r = r

pub map-++ : {A B : Type 0} (h : A → B) (xs ys : List A) → map h (xs ++ ys) ≡ map h xs ++ map h ys
map-++ h xs ys = map-append h xs ys
