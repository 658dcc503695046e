use Rattle.std.proofs.Common.{◌≡◌, ◌+◌, ◌*◌, ◌<◌, ◌≤◌, [], ◌∷◌, ◌++◌, length, ap, length-take, arith}
use Rattle.std.proofs.lemmas.Grind.{common_steps}
use Rattle.wire.proofs.Hexes.{bytes_append, hexed_more, high_digit, low_digit, hexed_length, too_long}
use Rattle.frames.proofs.hex.unhex.Goals as goal

pub returns-then-line : goal.returns-then-line
returns-then-line c = λ bs b h e. omega (arith, too_long bs c.args.line.now 25 e h)

pub returns-in_default : goal.returns-in_default
returns-in_default c = λ bs b h e. omega (arith, hexed_length bs, ap length e, c.as_chunks.ensures.back_len)

pub returns-in_err-digit_value : goal.returns-in_err-digit_value
returns-in_err-digit_value c = rw c.from_residual.ensures (λ bs b h e.
    let d = high_digit c.args.line.now c.as_chunks.result.0.now c.loop-high.high-index c.as_chunks.ensures.front (omega arith) bs b e in
    c.in_err-digit_value.ensures d.0 d.1 d.2)

pub returns-in_err-byte : goal.returns-in_err-byte
returns-in_err-byte c = rw c.from_residual-in_err-byte.ensures (λ bs b h e.
    let d = low_digit c.args.line.now c.as_chunks.result.0.now c.loop-high.high-index c.as_chunks.ensures.front (omega arith) bs e in
    c.in_err-byte.ensures d.0 d.1 d.2)

pub returns-in_err-ok : goal.returns-in_err-ok
returns-in_err-ok c = rw c.from_residual-in_err-ok.ensures (λ bs b h e.
    let short : length c.args.line.now ≤ 50 = omega (arith, hexed_length bs, ap length e) in
    let room : length c.loop-high.bytes.items < 25 = omega (arith, hexed_length c.loop-high.bytes.items, simp length-take at (ap length c.loop-high.invariant.so_far)) in
    cc (c.try_push.ensures.variant.1 room, c.in_err-ok.ensures.variant))

pub loop-high-preserved : goal.loop-high-preserved
loop-high-preserved c =
    let bytes = c.loop-high.bytes.items in
    let h = c.in_ok-digit_value.field-0 in
    let l = c.in_ok-byte.field-0 in
    let high = c.in_ok-digit_value.ensures in
    let low = c.in_ok-byte.ensures in
    let pushed = c.try_push.ensures.ok in
    let items : c.try_push.new.self.items ≡ bytes ++ ((h * 16 + l) ∷ []) = grind (arith, common_steps) in
    rw items (record {
      bytes = bytes_append bytes ((h * 16 + l) ∷ []) c.loop-high.invariant.bytes (omega arith, tt);
      so_far = hexed_more c.args.line.now c.as_chunks.result.0.now c.loop-high.high-index c.as_chunks.ensures.front (omega arith) bytes h l low.0 high.1 low.1 c.loop-high.invariant.so_far;
    })
