-- What the bytes of a frame are taken apart as. (Contracts of public functions speak by `frame_line` instead.)
use Rattle.std.specs.Prelude.{ℕ, ◌+◌, ◌*◌, cond, List, [], ◌∷◌, length, drop, Some, None, Option, ◌==◌, slice_index}
use Rattle.calls.specs.declared.call.Call.{Call}
use Rattle.calls.specs.declared.call.Call.TheVariants.{Put, Close, Take, Renew}
use Rattle.calls.specs.declared.event.Action.{Action}
use Rattle.calls.specs.declared.event.LicenceEvent.{LicenceEvent}
use Rattle.calls.specs.Event.{action_of}

-- the number that 2, 4 or 8 bytes from place i on write
abbrev pub pair_at : List ℕ → ℕ → ℕ
pair_at xs i = slice_index xs i * 256 + slice_index xs (i + 1)

abbrev pub quad_at : List ℕ → ℕ → ℕ
quad_at xs i = slice_index xs i * 16777216 + slice_index xs (i + 1) * 65536 + slice_index xs (i + 2) * 256 + slice_index xs (i + 3)

abbrev pub eight_at : List ℕ → ℕ → ℕ
eight_at xs i = quad_at xs i * 4294967296 + quad_at xs (i + 4)

-- seven bytes, the first of them an action's code
abbrev pub event_by : List ℕ → Option Action → Option LicenceEvent
event_by xs (Some a) = Some (record { action = a; seat = quad_at xs 1; tool = pair_at xs 5 })
event_by xs None = None

abbrev pub event_of : List ℕ → Option LicenceEvent
event_of xs = cond (length xs == 7) (event_by xs (action_of (slice_index xs 0))) None

-- the feed, eight bytes of each half of the stamp, then the event
abbrev pub put_by : List ℕ → Option LicenceEvent → Option (Call LicenceEvent)
put_by xs (Some e) = Some (Put (slice_index xs 0) (eight_at xs 1, eight_at xs 9) e)
put_by xs None = None

abbrev pub put_of : List ℕ → Option (Call LicenceEvent)
put_of xs = put_by xs (event_of (drop 17 xs))

abbrev pub if_long : ℕ → List ℕ → Option (Call LicenceEvent) → Option (Call LicenceEvent)
if_long n xs c = cond (length xs == n) c None

-- by the kind and what follows it
abbrev pub call_of : ℕ → List ℕ → Option (Call LicenceEvent)
call_of kind xs =
    cond (kind == 1) (put_of xs)
    (cond (kind == 2) (if_long 1 xs (Some (Close (slice_index xs 0))))
    (cond (kind == 3) (if_long 0 xs (Some Take))
    (cond (kind == 4) (if_long 9 xs (Some (Renew (record { change = slice_index xs 0; day = quad_at xs 1; expiry = quad_at xs 5 })))) None)))

abbrev pub parsed : List ℕ → Option (Call LicenceEvent)
parsed [] = None
parsed (kind ∷ rest) = call_of kind rest
