-- the queue of waiting feeds beside the feeds' states
use Rattle.std.proofs.Common.{◌≡◌, ℕ, zero, suc, ◌+◌, ◌<◌, ◌≤◌, Bool, true, false, cond, eqb, ◌⊎◌, List, [], ◌∷◌, ◌++◌, length, get_or, take, set, replicate, filter, sym, refl, ap, ◌∙◌, subst, inl, inr, append-nil, arith, length-append, length-set, length-take, get_or-set_other, get_or-set_same}
use Rattle.std.proofs.lemmas.Bool.{eq-eqb, ne_eqb, cases_eq}
use Rattle.std.proofs.lemmas.List.Elements.{filter-append}
use Rattle.std.proofs.lemmas.List.Sums.{length-filter, count_by-le-length, sum_by-set}
use Rattle.order.specs.declared.state.FeedState.{FeedState}
use Rattle.order.specs.declared.state.FeedState.TheVariants.{Idle, Holding, Closed}
use Rattle.order.specs.Queue.{has_record, Queued, Counted}
use Rattle.order.proofs.Rows.{tail_same, cons≢nil}

-- how many pass a test, at a write
pub length-filter_set : {A : Type 0} (p : A → Bool) (xs : List A) (i : ℕ) (v d : A) → i < length xs →
    length (filter p (set xs i v)) + cond (p (get_or xs i d)) 1 0 ≡ length (filter p xs) + cond (p v) 1 0
length-filter_set p xs i v d l = omega (arith, length-filter p (set xs i v), length-filter p xs, sum_by-set (λ x. cond (p x) 1 0) xs i v d l)

-- an item that the test judges like the one it replaces leaves as many that pass
pub count_same : {A : Type 0} (p : A → Bool) (xs : List A) (i : ℕ) (v d : A) → p v ≡ p (get_or xs i d) → length (filter p (set xs i v)) ≡ length (filter p xs)
count_same p [] i v d e = refl
count_same p (x ∷ xs) zero v d e = go (p v) (p x) e
  where
    go : (a b : Bool) → a ≡ b → length (cond a (v ∷ filter p xs) (filter p xs)) ≡ length (cond b (x ∷ filter p xs) (filter p xs))
    go true true e = refl
    go true false e = let z : ◌≡◌ {A = ℕ} 0 1 = cc in absurd (let c : ⊥ = omega arith in c)
    go false true e = let z : ◌≡◌ {A = ℕ} 0 1 = cc in absurd (let c : ⊥ = omega arith in c)
    go false false e = refl
count_same p (x ∷ xs) (suc i) v d e = go (p x) (count_same p xs i v d e)
  where
    go : (b : Bool) → length (filter p (set xs i v)) ≡ length (filter p xs) → length (cond b (x ∷ filter p (set xs i v)) (filter p (set xs i v))) ≡ length (cond b (x ∷ filter p xs) (filter p xs))
    go true e = ap suc e
    go false e = e

pub count_most : {A : Type 0} (p : A → Bool) (ys : List A) → length (filter p ys) ≤ length ys
count_most p ys = omega (arith, length-filter p ys, count_by-le-length p ys)

as_number : {b c : Bool} → b ≡ c → ◌≡◌ {A = ℕ} (cond b 1 0) (cond c 1 0)
as_number e = ap (λ z. cond z 1 0) e

-- ---- a joiner just made
pub none_counted : (n : ℕ) → 0 ≡ length (filter has_record (replicate n Idle))
none_counted zero = refl
none_counted (suc n) = none_counted n

pub none_queued : (n : ℕ) → Queued (replicate n Idle) []
none_queued zero f = refl
none_queued (suc n) zero = refl
none_queued (suc n) (suc f) = back (has_record (get_or (replicate n Idle) f Closed)) (none_queued n f)
  where
    back : (b : Bool) → [] ≡ cond b (f ∷ []) [] → [] ≡ cond b (suc f ∷ []) []
    back true e = absurd (cons≢nil (sym e))
    back false e = refl

-- ---- close
pub queued_same : (xs : List FeedState) (i : ℕ) (v : FeedState) (q : List ℕ) → i < length xs → has_record v ≡ has_record (get_or xs i Closed) → Queued xs q → Queued (set xs i v) q
queued_same xs i v q l e h f = go (cases_eq f i)
  where
    go : (f ≡ i) ⊎ (f ≡ i → ⊥) → filter (λ g. eqb g f) q ≡ cond (has_record (get_or (set xs i v) f Closed)) (f ∷ []) []
    go (inl s) = h f ∙ ap (λ b. cond b (f ∷ []) []) (ap (λ z. has_record (get_or xs z Closed)) s ∙ sym e ∙ ap has_record (sym (get_or-set_same xs i v Closed l)) ∙ ap (λ z. has_record (get_or (set xs i v) z Closed)) (sym s))
    go (inr n) = h f ∙ ap (λ z. cond (has_record z) (f ∷ []) []) (sym (get_or-set_other xs i f v Closed n))

-- ---- put
pub queued_more : (xs : List FeedState) (i : ℕ) (v : FeedState) (q : List ℕ) → i < length xs → has_record (get_or xs i Closed) ≡ false → has_record v ≡ true → Queued xs q → Queued (set xs i v) (q ++ i ∷ [])
queued_more xs i v q l e k h f = filter-append (λ g. eqb g f) q (i ∷ []) ∙ ap (λ z. z ++ cond (eqb i f) (i ∷ []) []) (h f) ∙ go (cases_eq f i)
  where
    at_i : cond (has_record (get_or xs i Closed)) (i ∷ []) [] ++ cond (eqb i i) (i ∷ []) [] ≡ cond (has_record (get_or (set xs i v) i Closed)) (i ∷ []) []
    at_i =
        ap (λ b. cond b (i ∷ []) [] ++ cond (eqb i i) (i ∷ []) []) e ∙ ap (λ b. cond b (i ∷ []) []) (eq-eqb i i refl)
        ∙ ap (λ b. cond b (i ∷ []) []) (sym k) ∙ ap (λ z. cond (has_record z) (i ∷ []) []) (sym (get_or-set_same xs i v Closed l))

    go : (f ≡ i) ⊎ (f ≡ i → ⊥) → cond (has_record (get_or xs f Closed)) (f ∷ []) [] ++ cond (eqb i f) (i ∷ []) [] ≡ cond (has_record (get_or (set xs i v) f Closed)) (f ∷ []) []
    go (inl s) = subst (λ z. cond (has_record (get_or xs z Closed)) (z ∷ []) [] ++ cond (eqb i z) (i ∷ []) [] ≡ cond (has_record (get_or (set xs i v) z Closed)) (z ∷ []) []) (sym s) at_i
    go (inr n) =
        ap (λ b. cond (has_record (get_or xs f Closed)) (f ∷ []) [] ++ cond b (i ∷ []) []) (ne_eqb i f (λ s. n (sym s))) ∙ append-nil (cond (has_record (get_or xs f Closed)) (f ∷ []) [])
        ∙ ap (λ z. cond (has_record z) (f ∷ []) []) (sym (get_or-set_other xs i f v Closed n))

-- ---- take
-- the head of the queue has a record
pub head_waits : (xs : List FeedState) (i : ℕ) (q : List ℕ) → Queued xs (i ∷ q) → (has_record (get_or xs i Closed) ≡ true) × (filter (λ g. eqb g i) q ≡ [])
head_waits xs i q h = go (has_record (get_or xs i Closed)) (sym (ap (λ b. cond b (i ∷ filter (λ g. eqb g i) q) (filter (λ g. eqb g i) q)) (eq-eqb i i refl)) ∙ h i)
  where
    go : (b : Bool) → i ∷ filter (λ g. eqb g i) q ≡ cond b (i ∷ []) [] → (b ≡ true) × (filter (λ g. eqb g i) q ≡ [])
    go true e = (refl, tail_same e)
    go false e = absurd (cons≢nil e)

pub queued_less : (xs : List FeedState) (i : ℕ) (v : FeedState) (q : List ℕ) → i < length xs → has_record v ≡ false → Queued xs (i ∷ q) → Queued (set xs i v) q
queued_less xs i v q l k h f = go (cases_eq f i)
  where
    at_i : filter (λ g. eqb g i) q ≡ cond (has_record (get_or (set xs i v) i Closed)) (i ∷ []) []
    at_i = (head_waits xs i q h).1 ∙ ap (λ b. cond b (i ∷ []) []) (sym k) ∙ ap (λ z. cond (has_record z) (i ∷ []) []) (sym (get_or-set_same xs i v Closed l))

    go : (f ≡ i) ⊎ (f ≡ i → ⊥) → filter (λ g. eqb g f) q ≡ cond (has_record (get_or (set xs i v) f Closed)) (f ∷ []) []
    go (inl s) = subst (λ z. filter (λ g. eqb g z) q ≡ cond (has_record (get_or (set xs i v) z Closed)) (z ∷ []) []) (sym s) at_i
    go (inr n) =
        ap (λ b. cond b (i ∷ filter (λ g. eqb g f) q) (filter (λ g. eqb g f) q)) (sym (ne_eqb i f (λ s. n (sym s)))) ∙ h f
        ∙ ap (λ z. cond (has_record z) (f ∷ []) []) (sym (get_or-set_other xs i f v Closed n))

in_row : (xs : List FeedState) (f : ℕ) → has_record (get_or xs f Closed) ≡ true → f < length xs
in_row [] f h = let z : ◌≡◌ {A = ℕ} 0 1 = cc in omega arith
in_row (x ∷ xs) zero h = omega arith
in_row (x ∷ xs) (suc f) h = let i = in_row xs f h in omega arith

-- ---- the queue has each feed with a record once, and is as long as there are such feeds: what the joiner keeps of both
abbrev pub Waiting : List FeedState → List ℕ → Type 0
Waiting xs q = Counted xs (length q) × Queued xs q

pub made_waiting : (n : ℕ) → Waiting (replicate n Idle) []
made_waiting n = (none_counted n, none_queued n)

module _ (xs : List FeedState) (q : List ℕ) (i : ℕ) (w : Waiting xs q) where
  module _ (inside : i < length xs) (none : has_record (get_or xs i Closed) ≡ false) where
    pub put_room : length q < length xs
    put_room =
        let more = length-filter_set has_record xs i (Holding 0) Closed inside in
        let most = count_most has_record (set xs i (Holding 0)) in
        omega (arith, w.0, as_number none, length-set xs i (Holding 0))

    pub put_waiting : (v : FeedState) → has_record v ≡ true → Waiting (set xs i v) (q ++ i ∷ [])
    put_waiting v e = (
      omega (arith, w.0, length-append q (i ∷ []), length-filter_set has_record xs i v Closed inside, as_number none, as_number e),
      queued_more xs i v q inside none e w.1,
    )

  pub close_waiting : (v : FeedState) → i < length xs → has_record v ≡ has_record (get_or xs i Closed) → Waiting (set xs i v) q
  close_waiting v inside e = (
    omega (arith, w.0, length-filter_set has_record xs i v Closed inside, as_number e),
    queued_same xs i v q inside e w.1,
  )

-- the feed that waits longest is one of the joiner's
pub head_inside : (xs : List FeedState) (i : ℕ) (q : List ℕ) → Waiting xs (i ∷ q) → (i < length xs) × (has_record (get_or xs i Closed) ≡ true)
head_inside xs i q w = let h = (head_waits xs i q w.1).0 in (in_row xs i h, h)

pub take_waiting : (xs : List FeedState) (i : ℕ) (q : List ℕ) (v : FeedState) → has_record v ≡ false → Waiting xs (i ∷ q) → Waiting (set xs i v) q
take_waiting xs i q v e w =
    let h = head_inside xs i q w in (
      omega (arith, w.0, length-filter_set has_record xs i v Closed h.0, as_number h.1, as_number e),
      queued_less xs i v q h.0 e w.1,
    )

-- what waits is no more than the feeds, of which there are at most 64
pub queue_fits : (count : ℕ) (feeds : List FeedState) (w : ℕ) → Counted (take count feeds) w → count ≤ 64 → w ≤ 64
queue_fits count feeds w c h = omega (arith, count_most has_record (take count feeds), length-take count feeds)
