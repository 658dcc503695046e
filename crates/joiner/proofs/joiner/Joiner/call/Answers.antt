use Rattle.std.proofs.Common.{sym, refl, subst}
use Rattle.refusals.specs.Said.{told}
use Rattle.calls.specs.declared.call.Reply.TheVariants as reply
use Rattle.order.specs.Desk.{Put, Take, Close, Renew}
use Rattle.order.specs.Called.{EventOf}
use Rattle.joiner.proofs.joiner.Joiner.call.Goals as goal

pub returns-in-Put-clause-called : goal.returns-in-Put-clause-called
returns-in-Put-clause-called g c =
    let a = c.put.result in
    let v = Put c.in-Put.feed c.in-Put.stamp c.in-Put.body (told a) in
    (v, subst (λ z. EventOf z (reply.Put a) v) (sym c.in-Put.is) (a, refl, refl), (c.put.ensures.answer, c.put.ensures.desk))

pub returns-in-Take-clause-called : goal.returns-in-Take-clause-called
returns-in-Take-clause-called g c =
    let a = c.take.result in (
      Take (told a),
      subst (λ z. EventOf z (reply.Take a) (Take (told a))) (sym c.in-Take.is) (a, refl, refl),
      (c.take.ensures.answer, λ i. record { joiner = c.take.ensures.state i; slots = c.take.ensures.slots i }),
    )

pub returns-in-Close-clause-called : goal.returns-in-Close-clause-called
returns-in-Close-clause-called g c =
    let a = c.close.result in
    let v = Close c.in-Close.feed (told a) in
    (v, subst (λ z. EventOf z (reply.Close a) v) (sym c.in-Close.is) (a, refl, refl), (c.close.ensures.answer, λ i. record { joiner = c.close.ensures.state i; slots = c.args.shelf.now.slots.now }))

pub returns-in-Renew-clause-called : goal.returns-in-Renew-clause-called
returns-in-Renew-clause-called g c =
    let a = c.bulletin.result in
    let v = Renew c.in-Renew.bulletin (told a) in
    (v, subst (λ z. EventOf z (reply.Renew a) v) (sym c.in-Renew.is) (a, refl, refl), (c.bulletin.ensures.answer, λ i. record { joiner = c.bulletin.ensures.state i; slots = c.args.shelf.now.slots.now }))
