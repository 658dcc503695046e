-- Frames: the calls as lines of text.
use Rattle.std.specs.Prelude.{ℕ, ◌^◌, ◌<◌, List, [], ◌∷◌, ◌++◌}
use Rattle.calls.specs.declared.call.Call.{Call}
use Rattle.calls.specs.declared.call.Call.TheVariants.{Put, Close, Take, Renew}
use Rattle.calls.specs.declared.event.LicenceEvent.{LicenceEvent}
use Rattle.calls.specs.Event.{action_code}
use Rattle.wire.specs.Bytes.{big_endian, hexed}

-- an event: its action, 4 bytes of seat, 2 of tool
abbrev pub event_bytes : LicenceEvent → List ℕ
event_bytes e = action_code e.action ∷ (big_endian 4 e.seat ++ big_endian 2 e.tool)

-- a frame: its kind, and then the fields of the call
abbrev pub frame_bytes : Call LicenceEvent → List ℕ
frame_bytes (Put feed stamp event) = 1 ∷ (feed ∷ (big_endian 8 stamp.0 ++ (big_endian 8 stamp.1 ++ event_bytes event)))
frame_bytes (Close feed) = 2 ∷ (feed ∷ [])
frame_bytes Take = 3 ∷ []
frame_bytes (Renew b) = 4 ∷ (b.change ∷ (big_endian 4 b.day ++ big_endian 4 b.expiry))

-- no frame has more bytes
abbrev pub longest_frame : ℕ
longest_frame = 25

-- the line of text that a call is written as, without its line feed
abbrev pub frame_line : Call LicenceEvent → List ℕ
frame_line c = hexed (frame_bytes c)

-- each number of the call fits its field
abbrev pub FitsFrame : Call LicenceEvent → Type 0
FitsFrame (Put feed stamp event) = (feed < 256) × (stamp.0 < 2 ^ 64) × (stamp.1 < 2 ^ 64) × (event.seat < 2 ^ 32) × (event.tool < 2 ^ 16)
FitsFrame (Close feed) = feed < 256
FitsFrame Take = Unit {0}
FitsFrame (Renew b) = (b.change < 256) × (b.day < 2 ^ 32) × (b.expiry < 2 ^ 32)
