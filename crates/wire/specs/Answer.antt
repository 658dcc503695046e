-- Answer lines.
use Rattle.std.specs.Prelude.{ℕ, List, [], ◌∷◌, ◌++◌, Ok, Err, Result}
use Rattle.refusals.specs.declared.fault.Fault.{Fault}
use Rattle.refusals.specs.declared.refusal.Refusal.{Refusal}
use Rattle.refusals.specs.declared.refusal.Refusal.TheVariants.{Clock, NoneWaits}
use Rattle.refusals.specs.Said.{said, way_number}
use Rattle.calls.specs.declared.call.Handed.{Handed}
use Rattle.calls.specs.declared.call.Reply.{Reply}
use Rattle.calls.specs.declared.call.Reply.TheVariants.{Put, Close, Take, Renew}
use Rattle.calls.specs.declared.event.LicenceEvent.{LicenceEvent}
use Rattle.wire.specs.Bytes.{big_endian, hexed, line_feed}
use Rattle.wire.specs.Frame.{event_bytes}

-- a clock's fault tells the rung, the way and the count
abbrev pub fault_bytes : Fault → List ℕ
fault_bytes f = f.rung ∷ (way_number f.way ∷ big_endian 8 f.count)

-- what follows the number of a refusal; of the two values that come with 17 the line has the number of idle feeds
abbrev pub refusal_values : Refusal → List ℕ
refusal_values (Clock f) = fault_bytes f
refusal_values (NoneWaits idle feed) = idle ∷ []
refusal_values _ = []

abbrev pub refusal_bytes : Refusal → List ℕ
refusal_bytes r = (said r).number ∷ refusal_values r

-- what a call is answered: number 0 where nothing is refused, and then the bytes of what was answered
abbrev pub outcome_bytes : {A : Type 0} → (A → List ℕ) → Result A Refusal → List ℕ
outcome_bytes bytes (Ok a) = 0 ∷ bytes a
outcome_bytes bytes (Err r) = refusal_bytes r

abbrev pub ticked_bytes : Result ℕ Refusal → List ℕ
ticked_bytes = outcome_bytes (big_endian 8)

abbrev pub done_bytes : Result (Unit {0}) Refusal → List ℕ
done_bytes = outcome_bytes (λ u. [])

-- a record that take hands out
abbrev pub record_bytes : Handed LicenceEvent → List ℕ
record_bytes h = h.feed ∷ (big_endian 8 h.tick ++ event_bytes h.body)

abbrev pub handed_bytes : Result (Handed LicenceEvent) Refusal → List ℕ
handed_bytes = outcome_bytes record_bytes

-- what a line is answered: what its call was replied, or the refusal of a line that makes no call
abbrev pub Answer : Type 0
Answer = Result (Reply LicenceEvent) Refusal

-- an answer: the kind of its frame, 0 where there was none
abbrev pub answer_bytes : Answer → List ℕ
answer_bytes (Ok (Put r)) = 1 ∷ ticked_bytes r
answer_bytes (Ok (Close r)) = 2 ∷ done_bytes r
answer_bytes (Ok (Take r)) = 3 ∷ handed_bytes r
answer_bytes (Ok (Renew r)) = 4 ∷ done_bytes r
answer_bytes (Err r) = 0 ∷ refusal_bytes r

abbrev pub answer_line : Answer → List ℕ
answer_line a = hexed (answer_bytes a) ++ (line_feed ∷ [])
