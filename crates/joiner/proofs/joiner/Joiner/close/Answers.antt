use Rattle.std.proofs.Common.{set, sym, ap, ◌∙◌, length-set}
use Rattle.order.specs.Desk.{State, done, closed_as}
use Rattle.joiner.specs.Joiner.{state_of}
use Rattle.joiner.proofs.Closing.{close_waits, close_done}
use Rattle.joiner.proofs.Found.{found, agreed}
use Rattle.joiner.proofs.joiner.Joiner.close.Goals as goal

pub invariant_of-self : goal.invariant_of-self
invariant_of-self g c =
    let j = c.args.self.now in
    let ok = agreed c.in_ok-change.was c.change.ensures.answer in
    let waits = close_waits c.in_ok-state.state ok j.feeds _ j.queue c.args.feed (found c.state.ensures c.in_ok-state.ensures.ok_part) (j.counted, j.queued)
    (c.store.ensures ∙ ap (set j.feeds c.args.feed) c.change.ensures.after) in
    record { sound = j.sound; few = simp (c.store.ensures, length-set) j.few; counted = waits.0; queued = waits.1 }

pub returns-clause-answer : goal.returns-clause-answer
returns-clause-answer g c =
    let ok = agreed c.in_ok-change.was c.change.ensures.answer in
    ap done (sym (close_done c.in_ok-state.state ok (state_of c.args.self.now) c.args.feed (found c.state.ensures c.in_ok-state.ensures.ok_part)))

pub returns-clause-state : goal.returns-clause-state
returns-clause-state g c =
    let s = state_of c.args.self.now in
    let ok = agreed c.in_ok-change.was c.change.ensures.answer in
    ap {B = State} (λ xs. record { table = s.table; feeds = xs; queue = s.queue; last = s.last }) (c.store.ensures ∙ ap (set s.feeds c.args.feed) c.change.ensures.after)
    ∙ ap (closed_as s c.args.feed) (sym (close_done c.in_ok-state.state ok s c.args.feed (found c.state.ensures c.in_ok-state.ensures.ok_part)))
