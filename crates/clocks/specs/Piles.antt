-- A pile of two rungs, each of which may be a pile: a rung again.
use Rattle.std.specs.Prelude.{ℕ, ◌+◌, min, Ok, Err, Result}
use Rattle.refusals.specs.declared.fault.Fault.{Fault}
use Rattle.clocks.specs.Counts.{rungs_limit}
use Rattle.clocks.specs.Rungs.{RungMeaning}

-- a fault as it is told by what stands n rungs above
abbrev pub below : ℕ → Fault → Fault
below n f = record { cause = f.cause; rung = min rungs_limit (min rungs_limit n + f.rung); way = f.way; count = f.count }

abbrev pub lowered : {A : Type 0} → ℕ → Result A Fault → Result A Fault
lowered n (Ok x) = Ok x
lowered n (Err f) = Err (below n f)

-- one step after another
abbrev pub then_do : {A B : Type 0} → Result A Fault → (A → Result B Fault) → Result B Fault
then_do (Ok x) f = f x
then_do (Err e) f = Err e

-- It reads by both. It shows by four steps: the lower shows, the upper shows that, the upper reads it back, and the lower must read that.
abbrev pub pile : RungMeaning → RungMeaning → RungMeaning
pile u v = record {
  reads = λ t r. then_do (u.reads t r) (λ x. lowered u.rungs (v.reads t x));
  shows = λ t n. then_do (lowered u.rungs (v.shows t n)) (λ x. then_do (u.shows t x) (λ y. then_do (u.reads t y) (λ z. then_do (lowered u.rungs (v.reads t z)) (λ _. Ok y))));
  loss = v.loss + v.spread u.loss;
  spread = λ n. v.spread (u.spread n);
  rungs = u.rungs + v.rungs;
}
