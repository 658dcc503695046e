use Rattle.std.proofs.Common.{ℕ, List, ◌++◌, vec_items, ap, ◌∙◌, arith}
use Rattle.std.proofs.lemmas.List.{take_all}
use Rattle.wire.specs.Bytes.{hexed}
use Rattle.wire.proofs.Hexes.{written_more}
use Rattle.answers.proofs.hex.ArrayU8Part.write.Goals as goal

pub loop-byte-preserved : goal.loop-byte-preserved
loop-byte-preserved g c =
    written_more (vec_items c.args.out.now) (vec_items c.loop-byte.out) (vec_items c.write.new.out) c.args.self.now c.loop-byte.byte-index (omega arith) c.loop-byte.invariant c.in_ok-write.ensures

pub returns : goal.returns
returns g c = c.loop-byte.invariant ∙ ap (λ (xs : List ℕ). vec_items c.args.out.now ++ hexed xs) (take_all c.loop-byte.byte-index c.args.self.now (omega arith))
