-- The actions of a licence event by their numbers, and in words.
use Rattle.std.specs.Prelude.{◌≡◌, ℕ, cond, List, Some, None, Option, Result, MatchResult, ◌++◌, codes, ◌==◌}
use Rattle.std.specs.Fmt.{decimal}
use Rattle.calls.specs.declared.event.Action.{Action}
use Rattle.calls.specs.declared.event.Action.TheVariants.{Taken, GivenBack, Denied}
use Rattle.calls.specs.declared.event.UnknownAction.{UnknownAction}

abbrev pub action_code : Action → ℕ
action_code Taken = 1
action_code GivenBack = 2
action_code Denied = 3

-- the action of a number, where there is one
abbrev pub action_of : ℕ → Option Action
action_of n = cond (n == 1) (Some Taken) (cond (n == 2) (Some GivenBack) (cond (n == 3) (Some Denied) None))

-- the result is the action of the number or, where there is none, tells the number
abbrev pub Names : ℕ → Result Action UnknownAction → Type 0
Names n r = MatchResult r (λ a. action_of n ≡ Some a) (λ e. (action_of n ≡ None) × (e.0 ≡ n))

abbrev pub action_words : Action → List ℕ
action_words Taken = codes "taken"
action_words GivenBack = codes "given back"
action_words Denied = codes "denied"

-- a byte that no action goes by, in words
abbrev pub unknown_words : ℕ → List ℕ
unknown_words n = codes "no action goes by the byte " ++ decimal n
