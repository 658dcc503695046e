-- What a run of framejoin answers, line by line.
use Rattle.std.specs.Prelude.{◌≡◌, ℕ, List, [], ◌∷◌, ◌++◌, ◌≢◌, take, Ok, Err}
use Rattle.refusals.specs.declared.refusal.Refusal.TheVariants.{Malformed}
use Rattle.leap.specs.Starting.{starting}
use Rattle.calls.specs.declared.call.Call.{Call}
use Rattle.calls.specs.declared.call.Reply.{Reply}
use Rattle.calls.specs.declared.event.LicenceEvent.{LicenceEvent}
use Rattle.clocks.specs.Banks.{BankMeaning}
use Rattle.order.specs.Called.{EventOf}
use Rattle.order.specs.Desk.{Desk, Event, Step, made}
use Rattle.order.specs.Promise.{OrderKept}
use Rattle.wire.specs.Frame.{frame_line, FitsFrame}
use Rattle.wire.specs.Lines.{lines_of, input_limit}
use Rattle.wire.specs.Answer.{Answer, answer_line}

-- What a line is answered, the events that it makes of a run, and how it leaves the joiner and its shelf:
-- a line that writes a call is answered what that call is replied; any other line is refused as malformed.
pub data Answers (m : BankMeaning) (d : Desk LicenceEvent) (line : List ℕ) : Answer → List (Event LicenceEvent) → Desk LicenceEvent → Type 0 where
  no_frame : ((c : Call LicenceEvent) → FitsFrame c → frame_line c ≢ line) → Answers m d line (Err Malformed) [] d
  replied : (c : Call LicenceEvent) (r : Reply LicenceEvent) (v : Event LicenceEvent) (e : Desk LicenceEvent) → frame_line c ≡ line → EventOf c r v → Step m d v e → Answers m d line (Ok r) (v ∷ []) e

-- What lines are answered one after another: the text of the answers, the events of the joiner's run, and how it all ends.
pub data Session (m : BankMeaning) : Desk LicenceEvent → List (List ℕ) → List ℕ → List (Event LicenceEvent) → Desk LicenceEvent → Type 0 where
  over : (d : Desk LicenceEvent) → Session m d [] [] [] d
  answered : (d e f : Desk LicenceEvent) (line : List ℕ) (lines : List (List ℕ)) (a : Answer) (out : List ℕ) (vs ws : List (Event LicenceEvent)) →
      Answers m d line a vs e → Session m e lines out ws f → Session m d (line ∷ lines) (answer_line a ++ out) (vs ++ ws) f

-- What an input is answered by a joiner just made over some slots: the lines of the bytes that count have this text for answers, and the order is kept in what they say.
abbrev pub AnswersInput : BankMeaning → List ℕ → List ℕ → Type 0
AnswersInput m input out = (slots : List LicenceEvent) × (vs : List (Event LicenceEvent)) × (e : Desk LicenceEvent) ×
    Session m (made m starting slots) (lines_of (take input_limit input)) out vs e × OrderKept m vs e
