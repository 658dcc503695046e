use Rattle.std.proofs.Common.{◌≤◌, length, set, Err, Result, sym, ap, ◌∙◌, arith, length-set}
use Rattle.std.proofs.lemmas.Option.{slice_get_within}
use Rattle.std.proofs.lemmas.Result.{err_from_is_err_and}
use Rattle.refusals.specs.declared.refusal.Refusal.{Refusal}
use Rattle.refusals.specs.Said.{said, told}
use Rattle.joiner.specs.Joiner.{state_of}
use Rattle.joiner.proofs.Putting.{room_for_one, put_waits, put_accepted, put_refused}
use Rattle.joiner.proofs.Found.{found, agreed}
use Rattle.joiner.proofs.joiner.Joiner.put.Goals as goal

pub returns-in_err-change-clause-answer : goal.returns-in_err-change-clause-answer
returns-in_err-change-clause-answer g c =
    let j = c.args.self.now in
    let s = state_of j in
    let k = length c.args.shelf.now.slots.now in
    let room : length s.feeds ≤ k = omega (arith, c.len.ensures.is, c.if-shelf-len.false) in
    let q = err_from_is_err_and c.from_residual-in_err-change.result c.from_residual-in_err-change.ensures.1 in
    ap (λ (r : Result _ Refusal). told r) (q.1 ∙ ap Err q.2)
    ∙ put_refused (g.B.Bank.meaning j.bank) s k c.args.feed c.args.stamp room c.in_ok-state.state (found c.state.ensures c.in_ok-state.ensures.ok_part) c.tick_of-reading.result c.tick_of-reading.ensures
    (said c.in_err-change.field-0.0) (sym (ap told c.in_err-change.was) ∙ c.change.ensures.answer)

pub store-requires : goal.store-requires
store-requires g c = slice_get_within c.args.self.now.feeds c.args.feed c.in_ok-state.state (found c.state.ensures c.in_ok-state.ensures.ok_part)

pub push-requires : goal.push-requires
push-requires g c =
    let j = c.args.self.now in (
      omega arith,
      room_for_one j.feeds j.queue c.args.feed c.in_ok-tick.tick c.in_ok-state.state c.tick_of-reading.result (found c.state.ensures c.in_ok-state.ensures.ok_part)
          (agreed c.in_ok-change.was c.change.ensures.answer) (j.counted, j.queued) (omega (arith, c.len.ensures.is, c.len.ensures.few)),
    )

pub invariant_of-self : goal.invariant_of-self
invariant_of-self g c =
    let j = c.args.self.now in
    let waits = put_waits j.feeds j.queue c.args.feed c.in_ok-tick.tick c.in_ok-state.state c.tick_of-reading.result (found c.state.ensures c.in_ok-state.ensures.ok_part)
    (agreed c.in_ok-change.was c.change.ensures.answer) (j.counted, j.queued) _ _ c.in_ok-tick.was (c.store.ensures ∙ ap (λ v. set j.feeds c.args.feed v) c.change.ensures.after) c.push.ensures in
    record { sound = j.sound; few = simp (c.store.ensures, length-set) j.few; counted = waits.0; queued = waits.1 }

pub returns-clause-answer : goal.returns-clause-answer
returns-clause-answer g c =
    let j = c.args.self.now in
    let s = state_of j in
    let k = length c.args.shelf.now.slots.now in
    let room : length s.feeds ≤ k = omega (arith, c.len.ensures.is, c.if-shelf-len.false) in
    sym (ap told c.in_ok-tick.was)
    ∙ put_accepted (g.B.Bank.meaning j.bank) s k c.args.feed c.args.stamp room c.in_ok-state.state (found c.state.ensures c.in_ok-state.ensures.ok_part) c.tick_of-reading.result c.tick_of-reading.ensures
    (agreed c.in_ok-change.was c.change.ensures.answer)
