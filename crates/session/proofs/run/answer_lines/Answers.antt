use Rattle.std.proofs.Common.{◌≡◌, ℕ, List, [], ◌∷◌, ◌++◌, take, vec_items, sym, refl, ap, ◌∙◌, subst}
use Rattle.leap.specs.Starting.{starting}
use Rattle.calls.specs.declared.event.LicenceEvent.{LicenceEvent}
use Rattle.order.specs.Desk.{Desk, made}
use Rattle.wire.specs.Lines.{lines_of, lines_from, input_limit}
use Rattle.wire.proofs.Cuts.{none_left}
use Rattle.joiner.specs.Joiner.{desk_of}
use Rattle.session.specs.Session.{Answers, Session}
use Rattle.session.proofs.Runs.{GoesOn, begun, one_more, ended, session_run, cut}
use Rattle.session.proofs.run.answer_lines.Goals as goal

pub loop-line-init : goal.loop-line-init
loop-line-init g c =
    let xs = take input_limit c.args.input.now in
    let reader = c.new-line-items.result in
    let m = g.B.Bank.meaning c.new-joiner.result.bank in
    let first = desk_of c.new-joiner.result c.new-shelf.result.slots.now in
    let whole : reader.input.now ≡ xs = c.new-line-items.ensures.input ∙ cut c.args.input.now c.min.result c.min.ensures in
    let lines : lines_of xs ≡ lines_from reader.input.now reader.place = ap lines_of (sym whole) ∙ ap (lines_from reader.input.now) (sym c.new-line-items.ensures.place) in
    rw c.into_iter-line-iterator.ensures.into_iter_gives (record {
      kept = refl;
      run = ([], subst (λ (ls : List (List ℕ)). GoesOn m first xs (vec_items c.new-out.result) [] first ls) lines (begun m first xs (vec_items c.new-out.result) c.new-out.ensures.items));
    })

pub loop-line-preserved : goal.loop-line-preserved
loop-line-preserved g c =
    let xs = take input_limit c.args.input.now in
    let reader = c.loop-line.line-iterator in
    let then = c.next.new.self in
    let line = c.in-Some.line.now in
    let step = c.in-Some.ensures.steps in
    let m = g.B.Bank.meaning c.new-joiner.result.bank in
    let first = desk_of c.new-joiner.result c.new-shelf.result.slots.now in
    let d = desk_of c.loop-line.joiner c.loop-line.shelf.slots.now in
    let d' = desk_of c.answer_line-answer.new.joiner c.answer_line-answer.new.shelf.slots.now in
    let vs = c.loop-line.invariant.run.0 in
    let said = c.answer_line-answer.ensures.answers in
    let answers : Answers m d line c.answer_line-answer.result said.0 d' = subst (λ z. Answers (g.B.Bank.meaning z) d line c.answer_line-answer.result said.0 d') c.loop-line.invariant.kept said.1 in
    let left : lines_from reader.input.now reader.place ≡ line ∷ lines_from then.input.now then.place = step.reads.lines_left ∙ ap (λ (ys : List ℕ). line ∷ lines_from ys then.place) (sym step.same) in
    record {
      kept = c.answer_line-answer.ensures.kept ∙ c.loop-line.invariant.kept;
      run = (
        vs ++ said.0,
        one_more m first xs (vec_items c.loop-line.out) (vec_items c.write_answer.new.out) line vs said.0 d d'
            (lines_from reader.input.now reader.place) (lines_from then.input.now then.place) c.answer_line-answer.result c.loop-line.invariant.run.1 left answers c.in_ok-write_answer.ensures,
      );
    }

pub returns : goal.returns
returns g c =
    let xs = take input_limit c.args.input.now in
    let reader = c.loop-line.line-iterator in
    let m = g.B.Bank.meaning c.args.bank in
    let slots = c.new-shelf.result.slots.now in
    let first = desk_of c.new-joiner.result slots in
    let d = desk_of c.loop-line.joiner c.loop-line.shelf.slots.now in
    let vs = c.loop-line.invariant.run.0 in
    let out = vec_items c.loop-line.out in
    let end = none_left reader.input.now reader.place c.next.new.self.place c.in-None.ensures.steps.reads in
    let went = ended (g.B.Bank.meaning c.new-joiner.result.bank) first xs out vs d (lines_from reader.input.now reader.place) c.loop-line.invariant.run.1 end in
    let ours : Session m first (lines_of xs) out vs d = subst (λ z. Session (g.B.Bank.meaning z) first (lines_of xs) out vs d) c.new-joiner.ensures.kept went in
    let fresh : first ≡ made m starting slots = λ i. record { joiner = c.new-joiner.ensures.fresh i; slots = slots } in
    let whole : Session m (made m starting slots) (lines_of xs) out vs d = subst (λ (z : Desk LicenceEvent). Session m z (lines_of xs) out vs d) fresh ours in
    (slots, vs, d, whole, c.new-joiner.ensures.promise vs d (session_run m (made m starting slots) d (lines_of xs) out vs whole))
