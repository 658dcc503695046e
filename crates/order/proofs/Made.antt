-- How many feeds a joiner is made with.
use Rattle.std.proofs.Common.{◌≡◌, ℕ, ◌≤◌, min, arith}
use Rattle.std.proofs.lemmas.Bool.Decides.{nat_tests}
use Rattle.order.specs.Desk.{size_answer, admits}

pub admits_64 : (n k : ℕ) → admits n k ≤ 64
admits_64 n k = grind (arith, nat_tests)

-- a number of feeds that was cut to 65 is judged alike
pub size_cut : (n k : ℕ) → size_answer (min 65 n) k ≡ size_answer n k
size_cut n k = grind (arith, nat_tests)

pub admits_cut : (n k : ℕ) → admits (min 65 n) k ≡ admits n k
admits_cut n k = grind (arith, nat_tests)
