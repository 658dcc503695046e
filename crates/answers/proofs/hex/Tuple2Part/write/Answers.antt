use Rattle.std.proofs.Common.{vec_items}
use Rattle.std.proofs.lemmas.Result.{on_ok_weaker}
use Rattle.wire.proofs.Hexes.{joined}
use Rattle.answers.proofs.hex.Tuple2Part.write.Goals as goal

pub returns : goal.returns
returns g c =
    on_ok_weaker c.write-2.result
    (joined (vec_items c.args.out.now) (vec_items c.write.new.out) (vec_items c.write-2.new.out) (g.A.Part.bytes c.args.self.now.0) (g.B.Part.bytes c.args.self.now.1) c.in_ok-write.ensures)
    c.write-2.ensures
