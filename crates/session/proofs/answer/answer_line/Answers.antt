use Rattle.std.proofs.Common.{◌≡◌, [], ◌∷◌, arith}
use Rattle.std.proofs.lemmas.Result.{err_from_is_err_and}
use Rattle.refusals.specs.declared.refusal.Refusal.TheVariants.{Malformed}
use Rattle.wire.specs.Frame.{frame_line}
use Rattle.joiner.specs.Joiner.{desk_of}
use Rattle.session.specs.Session.{no_frame, replied}
use Rattle.session.proofs.answer.answer_line.Goals as goal

pub returns-in_err-call-clause-answers : goal.returns-in_err-call-clause-answers
returns-in_err-call-clause-answers g c =
    let malformed : c.in_err-call.field-0.0 ≡ Malformed = grind arith in
    let p = err_from_is_err_and c.from_residual.result c.from_residual.ensures.1 in
    rw (p.1, p.2, malformed) ([], no_frame (λ call fits same. let decoded = c.decode.ensures.inverts call fits same in grind arith))

pub returns-clause-answers : goal.returns-clause-answers
returns-clause-answers g c =
    let writes : frame_line c.in_ok-call.call ≡ c.args.line.now = grind arith in
    let v = c.call.ensures.called in
    (v.0 ∷ [], replied c.in_ok-call.call c.call.result v.0 (desk_of c.call.new.self c.call.new.shelf.slots.now) writes v.1 v.2)
