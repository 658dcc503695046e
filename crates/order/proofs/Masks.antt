-- a mask of the idle feeds: its ones count them, and its trailing zeros find the lowest
use Rattle.std.proofs.Common.{◌≡◌, ℕ, zero, suc, ◌+◌, ◌-◌, ◌*◌, ◌/◌, ◌%◌, ◌^◌, ◌<◌, ◌≤◌, min, max, Bool, true, false, cond, not, List, [], ◌∷◌, map, length, get_or, set, Some, replicate, filter, sym, refl, ap, ◌∙◌, ap₂, not-suc-le-zero, pow-suc, arith, pow_pos}
use lib.Bits.{bit_or, bit_and, or_step, and_step, or_zero_r, and_mask}
use lib.Count.{ones, count_trailing_zeros}
use lib.Lanes.{mask_l}
use Rattle.std.specs.List.{position_or_len, prefix_len, slice_get}
use Rattle.std.proofs.lemmas.Option.{get_or_from_slice_get, slice_get-get_or, slice_get_within}
use Rattle.std.proofs.lemmas.List.Sums.{get_or-le-sum_by, length-filter}
use Rattle.std.proofs.lemmas.List.{length-map, map-set}
use Rattle.std.proofs.lemmas.Nat.{pow_below}
use Rattle.std.proofs.lemmas.Simd.{ones-mask_l, ones-mask_l_cons, trailing_mask_l, mask_l-mod}
use Rattle.order.specs.declared.state.FeedState.{FeedState}
use Rattle.order.specs.declared.state.FeedState.TheVariants.{Idle, Holding, Closing, Closed}
use Rattle.order.specs.Queue.{is_idle, idle_mask}

idle_is : (v : FeedState) → is_idle v ≡ true → v ≡ Idle
idle_is Idle e = refl
idle_is (Holding t) e = let z : ◌≡◌ {A = ℕ} 0 1 = cc in absurd (let c : ⊥ = omega arith in c)
idle_is (Closing t) e = let z : ◌≡◌ {A = ℕ} 0 1 = cc in absurd (let c : ⊥ = omega arith in c)
idle_is Closed e = let z : ◌≡◌ {A = ℕ} 0 1 = cc in absurd (let c : ⊥ = omega arith in c)

-- the first that passes, where some one does
first_passes : {X : Type 0} (p : X → Bool) (xs : List X) (d : X) → 0 < mask_l (map p xs) → (prefix_len (λ x. not (p x)) xs < length xs) × (p (get_or xs (prefix_len (λ x. not (p x)) xs) d) ≡ true)
first_passes p [] d h = absurd (not-suc-le-zero h)
first_passes {X} p (x ∷ xs) d h = go (p x) refl h (first_passes p xs d)
  where
    tail : ℕ
    tail = prefix_len (λ x. not (p x)) xs

    go : (b : Bool) → p x ≡ b → 0 < cond b 1 0 + 2 * mask_l (map p xs) → (0 < mask_l (map p xs) → (tail < length xs) × (p (get_or xs tail d) ≡ true)) →
        (cond (not b) (1 + tail) 0 < suc (length xs)) × (p (get_or (x ∷ xs) (cond (not b) (1 + tail) 0) d) ≡ true)
    go true e k r = (omega arith, e)
    go false e k r = let s = r (omega arith) in (omega (arith, s.0), ap (λ z. p (get_or (x ∷ xs) z d)) (let o : 1 + tail ≡ suc tail = omega arith in o) ∙ s.1)

no_ones : ones 0 ≡ 0
unfolding ones
no_ones = refl

-- the ones of the mask count the idle feeds
pub idle_ones : (xs : List FeedState) → ones (idle_mask xs) ≡ length (filter is_idle xs)
idle_ones xs = ones-mask_l is_idle xs ∙ sym (length-filter is_idle xs)

-- no bit is set where no feed is idle
pub none_masked : (xs : List FeedState) → idle_mask xs ≡ 0 → length (filter is_idle xs) ≡ 0
none_masked xs e = sym (idle_ones xs) ∙ ap ones e ∙ no_ones

-- a bit set and a bit cleared
small_bit : (b : Bool) → cond b 1 0 ≤ 1
small_bit true = omega arith
small_bit false = omega arith

or_at : (b c m n : ℕ) → b ≤ 1 → c ≤ 1 → bit_or (b + 2 * m) (c + 2 * n) ≡ max b c + 2 * bit_or m n
or_at b c m n h k =
    let p : (b + 2 * m) / 2 ≡ m = omega arith in
    let q : (c + 2 * n) / 2 ≡ n = omega arith in
    let r : (b + 2 * m) % 2 ≡ b = omega arith in
    let s : (c + 2 * n) % 2 ≡ c = omega arith in
    or_step (b + 2 * m) (c + 2 * n) ∙ ap₂ (λ (x y : ℕ). x * 2 + y) (ap₂ bit_or p q) (ap₂ max r s) ∙ omega arith

and_at : (b c m n : ℕ) → b ≤ 1 → c ≤ 1 → bit_and (b + 2 * m) (c + 2 * n) ≡ min b c + 2 * bit_and m n
and_at b c m n h k =
    let p : (b + 2 * m) / 2 ≡ m = omega arith in
    let q : (c + 2 * n) / 2 ≡ n = omega arith in
    let r : (b + 2 * m) % 2 ≡ b = omega arith in
    let s : (c + 2 * n) % 2 ≡ c = omega arith in
    and_step (b + 2 * m) (c + 2 * n) ∙ ap₂ (λ (x y : ℕ). x * 2 + y) (ap₂ bit_and p q) (ap₂ min r s) ∙ omega arith

mask_on : (bs : List Bool) (i : ℕ) → i < length bs → mask_l (set bs i true) ≡ bit_or (mask_l bs) (2 ^ i)
mask_on [] i h = let z : ⊥ = omega arith in absurd z
mask_on (b ∷ bs) zero h =
    let s = small_bit b in
    let top : max (cond b 1 0) 1 ≡ 1 = omega arith in
    sym (or_at (cond b 1 0) 1 (mask_l bs) 0 s (omega arith) ∙ ap₂ (λ (x y : ℕ). x + 2 * y) top (or_zero_r (mask_l bs)))
mask_on (b ∷ bs) (suc i) h =
    let s = small_bit b in
    let p : 2 ^ suc i ≡ 0 + 2 * 2 ^ i = omega (arith, pow-suc 2 i) in
    let top : max (cond b 1 0) 0 ≡ cond b 1 0 = omega arith in
    ap (λ (x : ℕ). cond b 1 0 + 2 * x) (mask_on bs i (omega arith))
    ∙ sym (ap (λ (x : ℕ). bit_or (cond b 1 0 + 2 * mask_l bs) x) p ∙ or_at (cond b 1 0) 0 (mask_l bs) (2 ^ i) s (omega arith) ∙ ap (λ (x : ℕ). x + 2 * bit_or (mask_l bs) (2 ^ i)) top)

mask_off : (bs : List Bool) (i k : ℕ) → i < length bs → length bs ≤ k → mask_l (set bs i false) ≡ bit_and (mask_l bs) (2 ^ k - 1 - 2 ^ i)
mask_off [] i k h l = let z : ⊥ = omega arith in absurd z
mask_off (b ∷ bs) i zero h l = let z : ⊥ = omega arith in absurd z
mask_off (b ∷ bs) zero (suc k) h l =
    let s = small_bit b in
    let p : 2 ^ suc k - 1 - 1 ≡ 0 + 2 * (2 ^ k - 1) = omega (arith, pow-suc 2 k, pow_pos k) in
    let none : min (cond b 1 0) 0 ≡ 0 = omega arith in
    sym (ap (λ (x : ℕ). bit_and (cond b 1 0 + 2 * mask_l bs) x) p ∙ and_at (cond b 1 0) 0 (mask_l bs) (2 ^ k - 1) s (omega arith)
    ∙ ap₂ (λ (x y : ℕ). x + 2 * y) none (and_mask (mask_l bs) k ∙ mask_l-mod bs k (omega arith)))
mask_off (b ∷ bs) (suc i) (suc k) h l =
    let s = small_bit b in
    let inside : i < k = omega arith in
    let p : 2 ^ suc k - 1 - 2 ^ suc i ≡ 1 + 2 * (2 ^ k - 1 - 2 ^ i) = omega (arith, pow-suc 2 k, pow-suc 2 i, pow_below i k inside) in
    let same : min (cond b 1 0) 1 ≡ cond b 1 0 = omega arith in
    ap (λ (x : ℕ). cond b 1 0 + 2 * x) (mask_off bs i k (omega arith) (omega arith))
    ∙ sym (ap (λ (x : ℕ). bit_and (cond b 1 0 + 2 * mask_l bs) x) p ∙ and_at (cond b 1 0) 1 (mask_l bs) (2 ^ k - 1 - 2 ^ i) s (omega arith) ∙ ap (λ (x : ℕ). x + 2 * bit_and (mask_l bs) (2 ^ k - 1 - 2 ^ i)) same)

-- a feed's state is written: its bit is set where it is idle now, and else cleared
pub mask_set : (xs : List FeedState) (i k : ℕ) (v : FeedState) → i < length xs → length xs ≤ k →
    idle_mask (set xs i v) ≡ cond (is_idle v) (bit_or (idle_mask xs) (2 ^ i)) (bit_and (idle_mask xs) (2 ^ k - 1 - 2 ^ i))
mask_set xs i k v h l = ap mask_l (map-set is_idle xs i v) ∙ go (is_idle v)
  where
    go : (b : Bool) → mask_l (set (map is_idle xs) i b) ≡ cond b (bit_or (idle_mask xs) (2 ^ i)) (bit_and (idle_mask xs) (2 ^ k - 1 - 2 ^ i))
    go true = mask_on (map is_idle xs) i (omega (arith, length-map xs is_idle))
    go false = mask_off (map is_idle xs) i k (omega (arith, length-map xs is_idle)) (omega (arith, length-map xs is_idle))

-- every one of the first n feeds idle
pub all_masked : (n : ℕ) → idle_mask (replicate n Idle) ≡ 2 ^ n - 1
all_masked zero = refl
all_masked (suc n) = let e = all_masked n in omega (arith, pow-suc 2 n, pow_pos n)

-- the lowest bit that is set is that of an idle feed
pub lowest_idle : (xs : List FeedState) → length xs ≤ 64 → 0 < idle_mask xs → slice_get xs (count_trailing_zeros 64 (idle_mask xs)) ≡ Some Idle
lowest_idle xs l h =
    let k = position_or_len is_idle xs in
    let f = first_passes is_idle xs Closed h in
    ap (slice_get xs) (trailing_mask_l is_idle 64 xs l h) ∙ slice_get-get_or xs k Closed f.0 ∙ ap Some (idle_is (get_or xs k Closed) f.1)

-- where one feed is idle, so many are that it is not 0
pub some_idle : (xs : List FeedState) (f : ℕ) → slice_get xs f ≡ Some Idle → 0 < length (filter is_idle xs)
some_idle xs f e =
    let inside = slice_get_within xs f Idle e in
    let one : ◌≡◌ {A = ℕ} 1 (cond (is_idle (get_or xs f Closed)) 1 0) = ap (λ v. cond (is_idle v) 1 0) (sym (get_or_from_slice_get xs f Idle Closed e)) in
    omega (arith, one, length-filter is_idle xs, get_or-le-sum_by (λ v. cond (is_idle v) 1 0) xs f Closed inside)

-- a mask that is not 0 has a one
pub some_ones : (bs : List Bool) → 0 < mask_l bs → 0 < ones (mask_l bs)
some_ones [] h = absurd (not-suc-le-zero h)
some_ones (true ∷ bs) h = omega (arith, ones-mask_l_cons true bs)
some_ones (false ∷ bs) h = omega (arith, ones-mask_l_cons false bs, some_ones bs (omega arith))

-- of the four states one is idle
pub not_idle : (v : FeedState) → (v ≡ Idle → ⊥) → is_idle v ≡ false
not_idle Idle n = absurd (n refl)
not_idle (Holding t) n = refl
not_idle (Closing t) n = refl
not_idle Closed n = refl
