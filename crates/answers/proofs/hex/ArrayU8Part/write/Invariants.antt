use Rattle.std.proofs.Common.{◌≡◌, ◌++◌, take, vec_items}
use Rattle.wire.specs.Bytes.{hexed}
use Rattle.answers.proofs.hex.ArrayU8Part.write.Given as goal

abbrev pub invariant-loop-byte : goal.invariant-loop-byte
invariant-loop-byte g l = vec_items l.out ≡ vec_items l.initial.out ++ hexed (take l.byte-index l.self)
