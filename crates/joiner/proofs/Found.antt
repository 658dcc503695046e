-- What a look-up and a change that went well have told.
use Rattle.std.proofs.Common.{◌≡◌, Ok, Result, sym, ap, ◌∙◌}
use Rattle.refusals.specs.declared.refusal.Refusal.{Refusal}
use Rattle.refusals.specs.Said.{Said, told}

pub found : {A : Type 0} {o looked some : A} → o ≡ looked → o ≡ some → looked ≡ some
found a b = sym a ∙ b

pub agreed : {A : Type 0} {a : Result A Refusal} {w : Result A Said} {x : A} → a ≡ Ok x → told a ≡ w → Ok x ≡ w
agreed e t = sym (ap told e) ∙ t
