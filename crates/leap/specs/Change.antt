-- The changes that a bulletin can announce, by their numbers.
use Rattle.std.specs.Prelude.{◌≡◌, ℕ, cond, List, ◌++◌, Some, None, Option, Result, MatchResult, ◌==◌, codes}
use Rattle.std.specs.Fmt.{decimal}
use Rattle.leap.specs.declared.bulletin.Change.{Change}
use Rattle.leap.specs.declared.bulletin.Change.TheVariants.{Unchanged, Inserted, Deleted}
use Rattle.leap.specs.declared.bulletin.UnknownChange.{UnknownChange}

abbrev pub change_of : ℕ → Option Change
change_of c = cond (c == 0) (Some Unchanged) (cond (c == 1) (Some Inserted) (cond (c == 2) (Some Deleted) None))

-- the result is the change of this number, or an error with a number that no change has
abbrev pub Decodes : ℕ → Result Change UnknownChange → Type 0
Decodes c r = MatchResult r (λ change. change_of c ≡ Some change) (λ e. (change_of c ≡ None) × (e.0 ≡ c))

-- such a number in words, for people
abbrev pub unknown_words : ℕ → List ℕ
unknown_words c = codes "no change has the number " ++ decimal c
