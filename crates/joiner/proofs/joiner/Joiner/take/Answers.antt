use Rattle.std.proofs.Common.{◌≤◌, length, set, sym, ap, ◌∙◌, arith, length-set}
use Rattle.std.proofs.lemmas.Option.{slice_get_within}
use Rattle.joiner.specs.Joiner.{state_of}
use Rattle.joiner.proofs.Taking.{has_state, has_tick, take_waits, take_answered, take_state}
use Rattle.joiner.proofs.Found.{found}
use Rattle.joiner.proofs.joiner.Joiner.take.Goals as goal

pub returns-in_err-state-clause-answer : goal.returns-in_err-state-clause-answer
returns-in_err-state-clause-answer g c =
    let j = c.args.self.now in
    absurd (has_state j.feeds j.queue c.in-Some.feed c.in-Some.ensures (j.counted, j.queued) (sym c.state.ensures ∙ c.in_err-state.ensures.ok_part))

pub returns-in_err-tick-clause-answer : goal.returns-in_err-tick-clause-answer
returns-in_err-tick-clause-answer g c =
    let j = c.args.self.now in
    absurd (has_tick j.feeds j.queue c.in-Some.feed c.in-Some.ensures (j.counted, j.queued) c.in_ok-state.state (found c.state.ensures c.in_ok-state.ensures.ok_part)
    (sym c.waiting_tick.ensures ∙ c.in_err-tick.ensures.ok_part))

pub store-requires : goal.store-requires
store-requires g c = slice_get_within c.args.self.now.feeds c.in-Some.feed c.in_ok-state.state (found c.state.ensures c.in_ok-state.ensures.ok_part)

pub invariant_of-self : goal.invariant_of-self
invariant_of-self g c =
    let j = c.args.self.now in
    let waits = take_waits j.feeds j.queue c.in-Some.feed c.in-Some.ensures (j.counted, j.queued) c.in_ok-state.state (found c.state.ensures c.in_ok-state.ensures.ok_part)
    _ _ (c.store.ensures ∙ ap (set j.feeds c.in-Some.feed) c.change.ensures.after) c.pop.ensures in
    record { sound = j.sound; few = simp (c.store.ensures, length-set) j.few; counted = waits.0; queued = waits.1 }

pub returns-clause-answer : goal.returns-clause-answer
returns-clause-answer g c =
    let s = state_of c.args.self.now in
    let slots = c.args.shelf.now.slots.now in
    let at = found c.state.ensures c.in_ok-state.ensures.ok_part in
    let room : length s.feeds ≤ length slots = omega (arith, c.len.ensures.is, c.if-shelf-len.false) in
    take_answered s slots c.in-Some.feed c.in_ok-tick.tick c.in-Some.ensures c.in_ok-state.state at c.from.result c.index-shelf-from.result
    (slice_get_within s.feeds c.in-Some.feed c.in_ok-state.state at) room c.from.ensures (sym c.waiting_tick.ensures ∙ c.in_ok-tick.ensures.ok_part)

pub returns-clause-state : goal.returns-clause-state
returns-clause-state g c =
    let s = state_of c.args.self.now in
    take_state s c.args.shelf.now.slots.now c.in-Some.feed c.in_ok-tick.tick c.in-Some.ensures c.in_ok-state.state (found c.state.ensures c.in_ok-state.ensures.ok_part)
    _ _ c.index-shelf-from.result (c.store.ensures ∙ ap (set s.feeds c.in-Some.feed) c.change.ensures.after) c.pop.ensures
