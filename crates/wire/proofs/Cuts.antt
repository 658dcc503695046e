-- Where the first line of an input ends, and what lines are left then.
use Rattle.std.proofs.Common.{◌≡◌, ℕ, zero, suc, ◌+◌, ◌<◌, ◌≤◌, min, ◌==◌, Bool, true, false, cond, eqb, List, [], ◌∷◌, length, get_or, take, drop, Some, None, sym, refl, ap, ◌∙◌, inl, inr, arith, length-drop}
use Rattle.std.specs.Option.{unwrap_or}
use Rattle.std.specs.List.{position, position_or_len}
use Rattle.std.proofs.lemmas.List.{drop-drop, drop_all}
use Rattle.std.proofs.lemmas.Bool.{eq-eqb, ne_eqb, cases_Bool, cases_lt, lt-ltb, le-ltb}
use Rattle.std.proofs.lemmas.Bool.Decides.{nat_tests}
use Rattle.wire.specs.Bytes.{line_feed}
use Rattle.wire.specs.Lines.{lines_of, line_length, place_after, ReadsLine}

-- at a line feed, at another byte and at the end
pub at_feed : (xs : List ℕ) (i : ℕ) → i < length xs → get_or xs i 0 ≡ 10 → line_length (drop i xs) ≡ 0
at_feed [] i h e = absurd (omega arith)
at_feed (x ∷ xs) zero h e = ap (λ (b : Bool). cond b 0 (suc (line_length xs))) (eq-eqb x 10 e)
at_feed (x ∷ xs) (suc i) h e = at_feed xs i (omega arith) e

pub past_other : (xs : List ℕ) (i : ℕ) → i < length xs → (get_or xs i 0 ≡ 10 → ⊥) → line_length (drop i xs) ≡ suc (line_length (drop (suc i) xs))
past_other [] i h e = absurd (omega arith)
past_other (x ∷ xs) zero h e = ap (λ (b : Bool). cond b 0 (suc (line_length xs))) (ne_eqb x 10 e)
past_other (x ∷ xs) (suc i) h e = past_other xs i (omega arith) e

pub line_within : (xs : List ℕ) → line_length xs ≤ length xs
line_within [] = omega arith
line_within (x ∷ xs) = let ih = line_within xs in grind (arith, nat_tests)

pub at_end : (xs : List ℕ) (i : ℕ) → length xs ≤ i → line_length (drop i xs) ≡ 0
at_end xs i h = ap line_length (drop_all i xs h)

pub no_lines : (xs : List ℕ) (i : ℕ) → length xs ≤ i → lines_of (drop i xs) ≡ []
no_lines xs i h = ap lines_of (drop_all i xs h)

-- a line ends at the first line feed, if there is one
pub line_by_place : (xs : List ℕ) → unwrap_or (position (λ x. x == line_feed) xs) (length xs) ≡ line_length xs
line_by_place xs = elim (cases_lt (line_length xs) (length xs)) [
  | inl l ↦ rw (same xs, lt-ltb (line_length xs) (length xs) l)
  | inr g ↦ rw (same xs, le-ltb (line_length xs) (length xs) g) (omega (arith, line_within xs))
]
  where
    same : (ys : List ℕ) → position_or_len (λ x. x == line_feed) ys ≡ line_length ys
    same [] = refl
    same (y ∷ ys) = let ih = same ys in elim (cases_Bool (eqb y 10)) [ inl t ↦ rw t | inr f ↦ rw f (omega arith) ]

-- the first line, and those after it
pub first_line : (xs : List ℕ) → 0 < length xs → lines_of xs ≡ take (line_length xs) xs ∷ lines_of (drop (suc (line_length xs)) xs)
first_line [] h = absurd (omega arith)
first_line (x ∷ xs) h = elim (cases_Bool (eqb x 10)) [ inl t ↦ feed t | inr f ↦ other xs f (first_line xs) ]
  where
    feed : eqb x 10 ≡ true → lines_of (x ∷ xs) ≡ take (line_length (x ∷ xs)) (x ∷ xs) ∷ lines_of (drop (suc (line_length (x ∷ xs))) (x ∷ xs))
    feed t = rw t

    other : (ys : List ℕ) → eqb x 10 ≡ false → (0 < length ys → lines_of ys ≡ take (line_length ys) ys ∷ lines_of (drop (suc (line_length ys)) ys)) → lines_of (x ∷ ys) ≡ take (line_length (x ∷ ys)) (x ∷ ys) ∷ lines_of (drop (suc (line_length (x ∷ ys))) (x ∷ ys))
    other [] f ih = rw f
    other (y ∷ ys) f ih = rw (f, ih (omega arith))

-- the lines after the first begin at the place after it
lines_after : (xs : List ℕ) (place : ℕ) → lines_of (drop (suc (line_length (drop place xs))) (drop place xs)) ≡ lines_of (drop (place_after xs place) xs)
lines_after xs place =
    let n : ℕ = line_length (drop place xs) in
    let joined : drop (suc n) (drop place xs) ≡ drop (place + suc n) xs = drop-drop (suc n) place xs in
    ap lines_of joined ∙ elim (cases_lt (place + n) (length xs)) [
      | inl l ↦ let e : place + suc n ≡ place_after xs place = omega arith in ap (λ (k : ℕ). lines_of (drop k xs)) e
      | inr g ↦ no_lines xs (place + suc n) (omega arith) ∙ sym (no_lines xs (place_after xs place) (omega arith))
    ]

pub reads_line : (xs : List ℕ) (place : ℕ) → place < length xs → ReadsLine xs place (Some (take (line_length (drop place xs)) (drop place xs))) (place_after xs place)
reads_line xs place h = record {
  which = rw (lt-ltb place (length xs) h);
  moves = refl;
  lines_left = first_line (drop place xs) (simp length-drop (omega arith)) ∙ ap (λ (ls : List (List ℕ)). take (line_length (drop place xs)) (drop place xs) ∷ ls) (lines_after xs place);
}

-- the same of what a reader has in hand: the rest of the input, the line's length and the next place
pub reads_by : (xs : List ℕ) (place : ℕ) (rest line : List ℕ) (n then : ℕ) → place < length xs → rest ≡ drop place xs → n ≡ line_length rest → line ≡ take n rest → then ≡ min (length xs) (place + n + 1) → ReadsLine xs place (Some line) then
reads_by xs place rest line n then h a b c d =
    let same : line ≡ take (line_length (drop place xs)) (drop place xs) = cc in
    let end : then ≡ place_after xs place = cc in
    rw (same, end) (reads_line xs place h)

pub reads_none : (xs : List ℕ) (place : ℕ) → length xs ≡ place → ReadsLine xs place None place
reads_none xs place h = record {
  which = rw (le-ltb place (length xs) (omega arith));
  moves = omega arith;
  lines_left = refl;
}

-- where a reader finds no line, none is left
pub none_left : (xs : List ℕ) (place then : ℕ) → ReadsLine xs place None then → lines_of (drop place xs) ≡ []
none_left xs place then r = elim (cases_lt place (length xs)) [
  | inl l ↦ let e = rw (lt-ltb place (length xs) l) at r.which in cc
  | inr g ↦ no_lines xs place g
]
