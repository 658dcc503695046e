use Rattle.std.proofs.Common.{◌≡◌, ℕ, ◌-◌, ◌<◌, List, [], ◌∷◌, length, take, drop, ap, ◌∙◌, arith, length-drop, rules}
use Rattle.std.proofs.lemmas.List.{take_all}
use Rattle.wire.specs.Decoder.{eight_at, event_of, put_by}
use Rattle.wire.proofs.Parsing.{same_put}
use Rattle.frames.proofs.decode.parse_put.Goals as goal

-- what `name @ ..` behind n bytes is
abbrev behind : ℕ → List ℕ → List ℕ
behind n xs = take (length xs - n) (drop n xs)

all_behind : (n : ℕ) (xs : List ℕ) → behind n xs ≡ drop n xs
all_behind n xs = take_all (length xs - n) (drop n xs) (omega (arith, length-drop n xs))

-- one byte and then sixteen are seventeen
seventeen : (xs : List ℕ) → 0 < length xs → behind 16 (behind 1 xs) ≡ drop 17 xs
seventeen [] h = absurd (omega arith)
seventeen (x ∷ xs) h = all_behind 16 (behind 1 (x ∷ xs)) ∙ ap (drop 16) (all_behind 1 (x ∷ xs))

first_half : (xs : List ℕ) → 0 < length xs → eight_at (behind 1 xs) 0 ≡ eight_at xs 1
first_half [] h = absurd (omega arith)
first_half (x ∷ xs) h = ap (λ (ys : List ℕ). eight_at ys 0) (all_behind 1 (x ∷ xs))

second_half : (xs : List ℕ) → 0 < length xs → eight_at (behind 1 xs) 8 ≡ eight_at xs 9
second_half [] h = absurd (omega arith)
second_half (x ∷ xs) h = ap (λ (ys : List ℕ). eight_at ys 8) (all_behind 1 (x ∷ xs))

pub returns : goal.returns
returns c =
    let xs : List ℕ = c.args.bytes.now in
    let l : 0 < length xs = search rules in
    let hi : c.from_be_bytes-hi.result ≡ eight_at (behind 1 xs) 0 = search rules in
    let lo : c.from_be_bytes-lo.result ≡ eight_at (behind 1 xs) 8 = search rules in
    same_put _ _ _ _ _ c.in_ok-body.body (hi ∙ first_half xs l) (lo ∙ second_half xs l)
    ∙ ap (put_by xs) (c.in_ok-body.ensures ∙ ap event_of (seventeen xs l))
