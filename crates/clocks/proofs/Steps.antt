-- Answers taken apart: what was passed and answered on the way to an Ok. The proofs of clocks above cite these lemmas too.
use Rattle.std.proofs.Common.{◌≡◌, ℕ, Bool, true, false, Ok, Err, Result, refl, arith}
use Rattle.std.proofs.lemmas.Bool.{cond-false}
use Rattle.std.proofs.lemmas.Bool.Decides.{nat_tests}
use Rattle.refusals.specs.declared.fault.Cause.{Cause}
use Rattle.refusals.specs.declared.fault.Fault.{Fault}
use Rattle.refusals.specs.declared.fault.Way.{Way}
use Rattle.clocks.specs.Counts.{Count}
use Rattle.clocks.specs.Rungs.{own_fault, refused_if, counted, answered}
use Rattle.clocks.specs.Piles.{lowered, then_do}

-- a fault is no answer, and an answer is one
pub never : {A : Type 0} {X : Type 0} (z : Fault) (b : X) → ◌≡◌ {A = Result X Fault} (Err z) (Ok b) → A
never z b e = absurd cc

pub same : {X : Type 0} {x : Result X Fault} {a b : X} → x ≡ Ok a → x ≡ Ok b → a ≡ b
same p q = cc

pub then_ok : {A B : Type 0} (x : Result A Fault) (f : A → Result B Fault) {b : B} → then_do x f ≡ Ok b → (a : A) × (x ≡ Ok a) × (f a ≡ Ok b)
then_ok (Ok a) f e = (a, refl, e)
then_ok (Err z) f e = absurd cc

pub lowered_ok : {A : Type 0} (k : ℕ) (x : Result A Fault) {b : A} → lowered k x ≡ Ok b → x ≡ Ok b
lowered_ok k (Ok a) e = e
lowered_ok k (Err z) e = cc

-- a check that was passed
pub passed : {A : Type 0} (b : Bool) (cause : Cause) (way : Way) (c : ℕ) (x : Result A Fault) {a : A} → refused_if b cause way c x ≡ Ok a → (b ≡ false) × (x ≡ Ok a)
passed true cause way c x e = absurd cc
passed false cause way c x e = (refl, e)

pub passes : {A : Type 0} {b : Bool} (cause : Cause) (way : Way) (c : ℕ) (x : Result A Fault) → b ≡ false → refused_if b cause way c x ≡ x
passes {b} cause way c x e = cond-false b (Err (own_fault cause way c)) x e

-- what was handed, or answered, is a count
pub was_count : {A : Type 0} (way : Way) (c : ℕ) (x : Result A Fault) {a : A} → counted way c x ≡ Ok a → Count c × (x ≡ Ok a)
was_count way c x e = grind (arith, nat_tests)

pub is_count : {A : Type 0} (way : Way) (c : ℕ) (x : Result A Fault) → Count c → counted way c x ≡ x
is_count way c x h = grind (arith, nat_tests)

pub was_answered : (way : Way) (c x : ℕ) {a : ℕ} → answered way c x ≡ Ok a → Count x × (x ≡ a)
was_answered way c x e = grind (arith, nat_tests)

pub is_answered : (way : Way) (c x : ℕ) → Count x → answered way c x ≡ Ok x
is_answered way c x h = grind (arith, nat_tests)
