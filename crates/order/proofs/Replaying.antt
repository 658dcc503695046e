-- One more call of a list of calls.
use Rattle.std.proofs.Common.{List, [], ◌∷◌, ◌++◌, refl, subst}
use Rattle.clocks.specs.Banks.{BankMeaning}
use Rattle.order.specs.Desk.{Desk, Event, Step, Run}

module _ {T : Type 0} where
  pub run_push : (m : BankMeaning) (d e f : Desk T) (vs : List (Event T)) (v : Event T) → Run m d vs e → Step m e v f → Run m d (vs ++ v ∷ []) f
  run_push m d e f [] v r s = (f, subst (λ z. Step m z v f) r s, refl)
  run_push m d e f (w ∷ ws) v r s = (r.0, r.1, run_push m r.0 e f ws v r.2 s)
