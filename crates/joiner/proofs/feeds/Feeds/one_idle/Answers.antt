use Rattle.std.proofs.Common.{sym, ◌∙◌, arith}
use Rattle.order.proofs.Masks.{none_masked, lowest_idle}
use Rattle.joiner.proofs.feeds.Feeds.one_idle.Goals as goal

pub returns-then-self-eq0 : goal.returns-then-self-eq0
returns-then-self-eq0 c = rw (← c.self.view_is) (none_masked c.self.inside.states.items (sym c.self.invariant.1 ∙ c.if-self-eq0.true))

pub returns : goal.returns
returns c =
    let mask = c.self.invariant.1 in
    rw (← c.self.view_is, mask) (lowest_idle c.self.inside.states.items c.self.invariant.0 (omega (arith, c.if-self-eq0.false)))
