use Rattle.std.proofs.Common.{◌≡◌, ◌*◌, take}
use Rattle.wire.specs.Bytes.{hexed, Bytes}
use Rattle.frames.proofs.hex.unhex.Given as goal

abbrev pub invariant-loop-high : goal.invariant-loop-high
invariant-loop-high l = record { bytes : Bytes l.bytes.items; so_far : hexed l.bytes.items ≡ take (2 * l.high-index) l.line }
