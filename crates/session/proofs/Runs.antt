-- A run that has come to some line goes on to a run over the whole input.
use Rattle.std.proofs.Common.{◌≡◌, ℕ, min, List, [], ◌∷◌, ◌++◌, length, take, sym, refl, ap, ◌∙◌, subst, inl, inr, append_assoc, arith}
use Rattle.std.proofs.lemmas.List.{take_all, append-nil}
use Rattle.std.proofs.lemmas.Bool.{cases_lt}
use Rattle.calls.specs.declared.event.LicenceEvent.{LicenceEvent}
use Rattle.clocks.specs.Banks.{BankMeaning}
use Rattle.order.specs.Desk.{Desk, Event, Run}
use Rattle.wire.specs.Answer.{Answer, answer_line}
use Rattle.wire.specs.Lines.{lines_of, input_limit}
use Rattle.session.specs.Session.{Answers, no_frame, replied, Session, over, answered}

module _ (m : BankMeaning) (first : Desk LicenceEvent) (xs : List ℕ) where
  -- out is the text so far, vs the events so far, d the desk now, and the lines are those to come
  abbrev pub GoesOn : List ℕ → List (Event LicenceEvent) → Desk LicenceEvent → List (List ℕ) → Type 0
  GoesOn out vs d lines = (more : List ℕ) (ws : List (Event LicenceEvent)) (e : Desk LicenceEvent) → Session m d lines more ws e → Session m first (lines_of xs) (out ++ more) (vs ++ ws) e

  pub begun : (out : List ℕ) → out ≡ [] → GoesOn out [] first (lines_of xs)
  begun out o more ws e s = subst (λ (ys : List ℕ). Session m first (lines_of xs) (ys ++ more) ws e) (sym o) s

  pub one_more : (out out' line : List ℕ) (vs us : List (Event LicenceEvent)) (d d' : Desk LicenceEvent) (lines lines' : List (List ℕ)) (a : Answer) → GoesOn out vs d lines → lines ≡ line ∷ lines' → Answers m d line a us d' → out' ≡ out ++ answer_line a → GoesOn out' (vs ++ us) d' lines'
  one_more out out' line vs us d d' lines lines' a g e w o more ws f s =
      let whole = g (answer_line a ++ more) (us ++ ws) f (subst (λ (ls : List (List ℕ)). Session m d ls (answer_line a ++ more) (us ++ ws) f) (sym e) (answered d d' f line lines' a more us ws w s)) in
      let text : out ++ (answer_line a ++ more) ≡ out' ++ more = sym (ap (λ (ys : List ℕ). ys ++ more) o ∙ append_assoc out (answer_line a) more) in
      subst (λ (ys : List ℕ). Session m first (lines_of xs) ys ((vs ++ us) ++ ws) f) text
      (subst (λ (zs : List (Event LicenceEvent)). Session m first (lines_of xs) (out ++ (answer_line a ++ more)) zs f) (sym (append_assoc vs us ws)) whole)

  pub ended : (out : List ℕ) (vs : List (Event LicenceEvent)) (d : Desk LicenceEvent) (lines : List (List ℕ)) → GoesOn out vs d lines → lines ≡ [] → Session m first (lines_of xs) out vs d
  ended out vs d lines g e =
      let whole = g [] [] d (subst (λ (ls : List (List ℕ)). Session m d ls [] [] d) (sym e) (over d)) in
      subst (λ (ys : List ℕ). Session m first (lines_of xs) ys vs d) (append-nil out)
      (subst (λ (zs : List (Event LicenceEvent)). Session m first (lines_of xs) (out ++ []) zs d) (append-nil vs) whole)

-- the events of a session are a run of the joiner
pub session_run : (m : BankMeaning) (d e : Desk LicenceEvent) (lines : List (List ℕ)) (out : List ℕ) (vs : List (Event LicenceEvent)) → Session m d lines out vs e → Run m d vs e
session_run m d e lines out vs (over f) = refl
session_run m d e lines out vs (answered p q r line ls a more us ws (no_frame n) s) = session_run m p r ls more ws s
session_run m d e lines out vs (answered p q r line ls a more us ws (replied c b v h w x y) s) = (q, y, session_run m q r ls more ws s)

-- the bytes that count
pub cut : (xs : List ℕ) (n : ℕ) → n ≡ min (length xs) 65536 → take n xs ≡ take input_limit xs
cut xs n e = elim (cases_lt (length xs) 65536) [
  | inl l ↦ take_all n xs (omega arith) ∙ sym (take_all 65536 xs (omega arith))
  | inr g ↦ let s : n ≡ 65536 = omega arith in ap (λ (k : ℕ). take k xs) s
]
