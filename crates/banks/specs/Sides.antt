-- Where a feed of two banks side by side stands.
use Rattle.std.specs.Prelude.{ℕ, ◌-◌, cond, Ok, Err, Result, nat_lt}
use Rattle.refusals.specs.declared.refusal.Refusal.{Refusal}
use Rattle.refusals.specs.declared.refusal.Refusal.TheVariants.{NoFeed}
use Rattle.clocks.specs.Counts.{most_feeds}
use Rattle.banks.specs.declared.beside.Side.{Side}
use Rattle.banks.specs.declared.beside.Side.TheVariants.{Left, Right}

-- in the left bank, which has so many feeds, or with a number of its own in the right one; a feed from 64 on stands in none
abbrev pub side_of : ℕ → ℕ → Result Side Refusal
side_of lefts f = cond (nat_lt f most_feeds) (Ok (cond (nat_lt f lefts) (Left f) (Right (f - lefts)))) (Err NoFeed)
