-- What is told of a pile follows from what is told of its parts.
use Rattle.std.proofs.Common.{◌≡◌, ℕ, ◌+◌, min, inl, inr, arith}
use Rattle.std.proofs.lemmas.Bool.{cases_lt}
use Rattle.clocks.specs.Counts.{told_limit}
use Rattle.clocks.specs.Rungs.{RungMeaning, LawfulRung}

-- a spread of what was cut, cut again
pub spread_told : (v : RungMeaning) → LawfulRung v → (n : ℕ) → min told_limit (v.spread (min told_limit n)) ≡ min told_limit (v.spread n)
spread_told v l n = elim (cases_lt n told_limit) [
  | inl h ↦ let e : min told_limit n ≡ n = omega arith in rw e
  | inr h ↦
      let e : min told_limit n ≡ told_limit = omega arith in
      let a = l.spread_covers told_limit in
      let b = l.spread_covers n in
      rw e (omega arith)
]

pub loss_told : (v : RungMeaning) → LawfulRung v → (n : ℕ) → min told_limit (min told_limit v.loss + min told_limit (v.spread (min told_limit n))) ≡ min told_limit (v.loss + v.spread n)
loss_told v l n = let e = spread_told v l n in omega arith
