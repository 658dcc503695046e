use Rattle.std.proofs.Common.{◌≡◌, ℕ, List, Some, None, Option, MatchResult, refl, sym, ap, ◌∙◌}
use Rattle.std.specs.Option.{ok_or}
use Rattle.std.proofs.lemmas.Option.{MatchOption-at_none, MatchOption-at_some}
use Rattle.refusals.specs.declared.refusal.Refusal.TheVariants.{Malformed}
use Rattle.calls.specs.declared.call.Call.{Call}
use Rattle.calls.specs.declared.event.LicenceEvent.{LicenceEvent}
use Rattle.wire.specs.Bytes.{hexed, Bytes}
use Rattle.wire.specs.Frame.{frame_bytes, frame_line}
use Rattle.wire.specs.Decoder.{parsed}
use Rattle.wire.proofs.Parsing.{decodes_as, decoded_writes, frame_fits, frame_short}
use Rattle.frames.proofs.decode.decode.Goals as goal

pub returns-in_err-bytes-clause-inverts : goal.returns-in_err-bytes-clause-inverts
returns-in_err-bytes-clause-inverts c = λ call fits same.
    absurd (MatchOption-at_none _ _ c.in_err-bytes.ensures.ok_part c.unhex.ensures (frame_bytes call) (frame_fits call fits) (frame_short call) same)

writes : (o : Option (Call LicenceEvent)) (bs line : List ℕ) → Bytes bs → hexed bs ≡ line → parsed bs ≡ o → MatchResult (ok_or o Malformed) (λ c. frame_line c ≡ line) (λ e. e ≡ Malformed)
writes None bs line t e p = refl
writes (Some c) bs line t e p = decoded_writes bs line c t e p

pub returns-clause-writes : goal.returns-clause-writes
returns-clause-writes c =
    let bytes = MatchOption-at_some _ _ _ c.in_ok-bytes.ensures.ok_part c.unhex.ensures in
    rw c.ok_or-2.ensures.value (writes c.parse.result c.in_ok-bytes.bytes.items c.args.line.now bytes.0 bytes.1 (ap parsed (sym c.as_slice.ensures.value) ∙ sym c.parse.ensures))

pub returns-clause-inverts : goal.returns-clause-inverts
returns-clause-inverts c = λ call fits same.
    let bytes = MatchOption-at_some _ _ _ c.in_ok-bytes.ensures.ok_part c.unhex.ensures in
    let there = decodes_as c.in_ok-bytes.bytes.items c.args.line.now call bytes.1 fits same in
    c.ok_or-2.ensures.value ∙ ap (λ (o : Option (Call LicenceEvent)). ok_or o Malformed) (c.parse.ensures ∙ ap parsed c.as_slice.ensures.value ∙ there)
