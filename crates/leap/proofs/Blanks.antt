-- The blank entries of a table.
use Rattle.std.proofs.Common.{◌≡◌, ℕ, suc, ◌+◌, ◌-◌, ◌<◌, List, [], ◌∷◌, ◌++◌, length, take, set, replicate, refl, sym, ap, ◌∙◌, arith, length-append}
use Rattle.std.proofs.lemmas.List.{take_more_set, length-take-le, set_at, append_assoc}
use Rattle.leap.specs.declared.entry.Entry.{Entry}
use Rattle.leap.specs.Table.{most_entries}
use Rattle.leap.specs.Room.{blank, padded}

-- one more entry takes the place of the first blank one
pub padded_set : (es : List Entry) (e : Entry) → length es < most_entries → padded (es ++ e ∷ []) ≡ set (padded es) (length es) e
padded_set es e room =
    let k : ℕ = most_entries - length (es ++ e ∷ []) in
    let m : most_entries - length es ≡ suc k = omega (arith, length-append es (e ∷ [])) in
    append_assoc es (e ∷ []) (replicate k blank)
    ∙ sym (set_at es blank (replicate k blank) e (length es) refl)
    ∙ ap (λ (n : ℕ). set (es ++ replicate n blank) (length es) e) (sym m)

pub padded_more : (held : List Entry) (n : ℕ) (e : Entry) → n < length held → length held ≡ most_entries → padded (take n held) ≡ held → padded (take (n + 1) (set held n e)) ≡ set held n e
padded_more held n e room sized filled =
    let m : length (take n held) ≡ n = length-take-le n held (omega arith) in
    ap padded (take_more_set held n e room)
    ∙ padded_set (take n held) e (omega arith)
    ∙ ap (λ (k : ℕ). set (padded (take n held)) k e) m
    ∙ ap (λ (es : List Entry). set es n e) filled
