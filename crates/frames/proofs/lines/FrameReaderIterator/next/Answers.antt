use Rattle.std.proofs.Common.{◌≡◌, ℕ, ◌-◌, ◌<◌, List, length, take, drop, Option, refl, ap, ◌∙◌, length-drop, arith}
use Rattle.std.specs.Option.{unwrap_or}
use Rattle.std.proofs.lemmas.List.{take_all}
use Rattle.std.proofs.lemmas.Bool.Decides.{nat_tests}
use Rattle.wire.specs.Lines.{line_length, lines_from}
use Rattle.wire.proofs.Cuts.{reads_by, line_by_place}
use Rattle.frames.proofs.lines.FrameReaderIterator.next.Goals as goal

pub returns : goal.returns
returns c =
    let xs : List ℕ = c.args.self.now.input.now in
    let place = c.args.self.now.place in
    let rest : List ℕ = take (length xs - place) (drop place xs) in
    let whole : rest ≡ drop place xs = take_all (length xs - place) (drop place xs) (omega (arith, length-drop place xs)) in
    let more : place < length xs = grind (arith, nat_tests, ap length whole, length-drop place xs) in
    let ends : c.unwrap_or-length.result ≡ line_length rest = c.unwrap_or-length.ensures ∙ ap (λ (o : Option ℕ). unwrap_or o (length rest)) c.first_line_feed.ensures ∙ line_by_place rest in
    let reads = reads_by xs place rest (take c.unwrap_or-length.result rest) c.unwrap_or-length.result c.min-self.result more whole ends refl c.min-self.ensures in
    let fewer : length (lines_from xs c.min-self.result) < length (lines_from xs place) = omega (arith, ap length reads.lines_left) in
    record {
      steps = record { reads = reads; goes = omega (arith, reads.moves); same = refl };
      goes = record { on = λ _. (tt, tt, fewer); keeps = tt; rests = λ _. tt };
    }
