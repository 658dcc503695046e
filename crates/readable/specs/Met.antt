-- The refusals that were met, each number once.
use Rattle.std.specs.Prelude.{ℕ, cond, Bool, List, [], ◌∷◌, ◌++◌, ◌==◌}
use Rattle.std.specs.List.{list_any}
use Rattle.refusals.specs.declared.refusal.Refusal.{Refusal}
use Rattle.refusals.specs.Said.{said}

-- one of them has number n
abbrev pub has_number : List Refusal → ℕ → Bool
has_number rs n = list_any (λ r. (said r).number == n) rs

-- one more, unless one of its number is there
abbrev pub noted : List Refusal → Refusal → List Refusal
noted rs r = cond (has_number rs (said r).number) rs (rs ++ r ∷ [])
