-- A feed's state written in its row, with the mask of the idle ones.
use Rattle.std.proofs.Common.{◌≡◌, ℕ, ◌-◌, ◌^◌, ◌<◌, ◌≤◌, cond, ◌⊎◌, false, List, ◌++◌, length, take, drop, set, sym, ap, ◌∙◌, inl, inr, subst, arith, length-set}
use lib.Bits.{bit_or, bit_and}
use Rattle.std.specs.List.{refill}
use Rattle.std.proofs.Math.Seq.{take-append_seam}
use Rattle.order.specs.declared.state.FeedState.{FeedState}
use Rattle.order.specs.declared.state.FeedState.TheVariants.{Holding, Closing, Closed}
use Rattle.order.specs.Queue.{is_idle, idle_mask}
use Rattle.order.proofs.Masks.{mask_set}

-- what is written through a slice of the whole row is the row
written : (xs : List FeedState) (i : ℕ) (v : FeedState) → refill (length xs) xs (set xs i v) ≡ set xs i v
written xs i v = ap (λ n. take n (set xs i v ++ drop (length (set xs i v)) xs)) (sym (length-set xs i v)) ∙ take-append_seam (set xs i v) (drop (length (set xs i v)) xs)

pub stored : (xs ys : List FeedState) (i j mask : ℕ) (v : FeedState) → ys ≡ xs → j ≡ i → i < length xs → length xs ≤ 64 →
    mask ≡ cond (is_idle v) (bit_or (idle_mask xs) (2 ^ i)) (bit_and (idle_mask xs) (2 ^ 64 - 1 - 2 ^ i)) →
    (length (refill (length xs) xs (set ys j v)) ≤ 64) × (mask ≡ idle_mask (refill (length xs) xs (set ys j v)))
stored xs ys i j mask v a b inside few m =
    subst (λ (zs : List FeedState). (length (refill (length xs) xs (set zs j v)) ≤ 64) × (mask ≡ idle_mask (refill (length xs) xs (set zs j v)))) (sym a)
    (subst (λ (k : ℕ). (length (refill (length xs) xs (set xs k v)) ≤ 64) × (mask ≡ idle_mask (refill (length xs) xs (set xs k v)))) (sym b)
    (subst (λ (zs : List FeedState). (length zs ≤ 64) × (mask ≡ idle_mask zs)) (sym (written xs i v))
    (omega (arith, length-set xs i v), m ∙ sym (mask_set xs i 64 v inside few))))

pub busy : (v : FeedState) → ((t : ℕ) × (v ≡ Holding t)) ⊎ (((t : ℕ) × (v ≡ Closing t)) ⊎ (v ≡ Closed)) → is_idle v ≡ false
busy v (inl e) = ap is_idle e.1
busy v (inr (inl e)) = ap is_idle e.1
busy v (inr (inr e)) = ap is_idle e
