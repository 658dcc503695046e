-- Calls as values, with their replies, as events of a run.
use Rattle.std.specs.Prelude.{◌≡◌, ℕ, Result}
use Rattle.refusals.specs.declared.refusal.Refusal.{Refusal}
use Rattle.refusals.specs.Said.{told}
use Rattle.calls.specs.declared.call.Call.{Call}
use Rattle.calls.specs.declared.call.Call.TheVariants as call
use Rattle.calls.specs.declared.call.Handed.{Handed}
use Rattle.calls.specs.declared.call.Reply.{Reply}
use Rattle.calls.specs.declared.call.Reply.TheVariants as reply
use Rattle.clocks.specs.Banks.{BankMeaning}
use Rattle.order.specs.Desk.{Desk, Event, Put, Take, Close, Renew, Step}

-- the call, with this reply, is this event
abbrev pub EventOf : {T : Type 0} → Call T → Reply T → Event T → Type 0
EventOf (call.Put f p x) r v = (a : Result ℕ Refusal) × (r ≡ reply.Put a) × (v ≡ Put f p x (told a))
EventOf (call.Close f) r v = (a : Result (Unit {0}) Refusal) × (r ≡ reply.Close a) × (v ≡ Close f (told a))
EventOf {T} call.Take r v = (a : Result (Handed T) Refusal) × (r ≡ reply.Take a) × (v ≡ Take (told a))
EventOf (call.Renew b) r v = (a : Result (Unit {0}) Refusal) × (r ≡ reply.Renew a) × (v ≡ Renew b (told a))

-- the call with its reply is a step
abbrev pub Called : {T : Type 0} → BankMeaning → Desk T → Call T → Reply T → Desk T → Type 0
Called {T} m d c r e = (v : Event T) × EventOf c r v × Step m d v e
