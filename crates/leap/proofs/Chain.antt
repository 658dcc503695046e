-- Entries one after another, as a fact; the computed test says the same. The fact is easier to carry through a recursion than the test.
use Rattle.std.proofs.Common.{◌≡◌, ℕ, zero, suc, ◌<◌, ◌≤◌, true, List, [], ◌∷◌, ◌++◌, length, refl, arith}
use Rattle.std.proofs.lemmas.Bool.{and_parts, and_from, ltb-true, lt-ltb}
use Rattle.std.proofs.lemmas.Bool.Decides.{nat_tests}
use Rattle.calendar.specs.Calendar.{FirstOfMonth}
use Rattle.calendar.proofs.Dates.{month_first_says, month_first_passes}
use Rattle.leap.specs.declared.entry.Entry.{Entry}
use Rattle.leap.specs.Table.{largest_step, top_offset, apart, at}
use Rattle.leap.specs.Test.{next_to, in_order, chain}

-- entry b may stand right after entry a
pub record Next (a b : Entry) : Type 0 where
  pub rises : a.day < b.day
  pub moves : 1 ≤ apart a.offset b.offset
  pub steps : apart a.offset b.offset ≤ largest_step
  pub range : b.offset ≤ top_offset
  pub month : FirstOfMonth b.day

-- the entries that stand after entry a, and the expiry
abbrev pub Follow : Entry → List Entry → ℕ → Type 0
Follow a [] x = a.day < x
Follow a (b ∷ es) x = Next a b × Follow b es x

pub next_says : (a b : Entry) → next_to a b ≡ true → Next a b
next_says a b h =
    record {
      rises = grind (arith, nat_tests);
      moves = grind (arith, nat_tests);
      steps = grind (arith, nat_tests);
      range = grind (arith, nat_tests);
      month = month_first_says b.day (grind (arith, nat_tests));
    }

pub next_passes : (a b : Entry) → Next a b → next_to a b ≡ true
next_passes a b n = let month = month_first_passes b.day n.month in grind (arith, nat_tests)

pub chain_says : (a : Entry) (es : List Entry) (x : ℕ) → chain a es x ≡ true → Follow a es x
chain_says a [] x h = ltb-true a.day x h
chain_says a (b ∷ es) x h = let p = and_parts (next_to a b) (chain b es x) h in (next_says a b p.0, chain_says b es x p.1)

pub chain_passes : (a : Entry) (es : List Entry) (x : ℕ) → Follow a es x → chain a es x ≡ true
chain_passes a [] x f = lt-ltb a.day x f
chain_passes a (b ∷ es) x f = and_from _ _ (next_passes a b f.0) (chain_passes b es x f.1)

-- the last of the entries
abbrev pub newest : Entry → List Entry → Entry
newest a [] = a
newest a (b ∷ es) = newest b es

-- it stands at the last place
pub newest_at : (a : Entry) (es : List Entry) (n : ℕ) → length es ≡ n → at (a ∷ es) n ≡ newest a es
newest_at a [] zero h = refl
newest_at a [] (suc n) h = let no : ⊥ = omega arith in absurd no
newest_at a (b ∷ es) zero h = let no : ⊥ = omega arith in absurd no
newest_at a (b ∷ es) (suc n) h = newest_at b es n (omega arith)

-- the newest entry comes before the expiry
pub newest_in_time : (a : Entry) (es : List Entry) (x : ℕ) → Follow a es x → (newest a es).day < x
newest_in_time a [] x f = f
newest_in_time a (b ∷ es) x f = newest_in_time b es x f.1

-- one more entry, before a new expiry
pub follow_push : (a : Entry) (es : List Entry) (x y : ℕ) (e : Entry) → Follow a es x → Next (newest a es) e → e.day < y → Follow a (es ++ e ∷ []) y
follow_push a [] x y e f n b = (n, b)
follow_push a (c ∷ es) x y e f n b = (f.0, follow_push c es x y e f.1 n b)

-- each entry but the first may stand after the one before it
pub pairs_of : (a : Entry) (es : List Entry) (x : ℕ) → Follow a es x → (k : ℕ) → k < length es → Next (at (a ∷ es) k) (at (a ∷ es) (suc k))
pairs_of a [] x f k h = let no : ⊥ = omega arith in absurd no
pairs_of a (b ∷ es) x f zero h = f.0
pairs_of a (b ∷ es) x f (suc k) h = pairs_of b es x f.1 k (omega arith)

pub follow_of : (a : Entry) (es : List Entry) (x : ℕ) → ((k : ℕ) → k < length es → Next (at (a ∷ es) k) (at (a ∷ es) (suc k))) → (newest a es).day < x → Follow a es x
follow_of a [] x p l = l
follow_of a (b ∷ es) x p l = (p 0 (omega arith), follow_of b es x (λ k h. p (suc k) (omega arith)) l)

-- the test of each entry with the one after it
pub in_order_says : (a : Entry) (es : List Entry) (x : ℕ) → in_order (a ∷ es) es ≡ true → (newest a es).day < x → Follow a es x
in_order_says a [] x h l = l
in_order_says a (b ∷ es) x h l = let p = and_parts (next_to a b) (in_order (b ∷ es) es) h in (next_says a b p.0, in_order_says b es x p.1 l)

pub in_order_passes : (a : Entry) (es : List Entry) (x : ℕ) → Follow a es x → in_order (a ∷ es) es ≡ true
in_order_passes a [] x f = refl
in_order_passes a (b ∷ es) x f = and_from _ _ (next_passes a b f.0) (in_order_passes b es x f.1)
