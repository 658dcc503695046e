use Rattle.std.proofs.Common.{sym, ap, ◌∙◌, arith}
use Rattle.order.specs.Desk.{rest}
use Rattle.joiner.proofs.Rings.{ring_step}
use Rattle.joiner.proofs.queue.Queue.pop.Goals as goal

pub returns-then-self-gt0 : goal.returns-then-self-gt0
returns-then-self-gt0 g c =
    let q = c.self.inside in
    ap rest (sym (ring_step g.row.N q.ring q.oldest q.len (omega arith)) ∙ c.self.view_is)
