use Rattle.std.proofs.Common.{◌≡◌, ◌-◌, length, sym, ◌∙◌, arith}
use Rattle.std.proofs.lemmas.Bool.{false≢true, lt-ltb, ltb-true}
use Rattle.std.proofs.lemmas.Bool.Decides.{nat_tests}
use Rattle.leap.specs.Table.{at, first_entry_day, first_entry_offset}
use Rattle.leap.proofs.Saying.{sound_by, sound_in_order}
use Rattle.leap.proofs.parts.are_sound.Goals as goal

pub returns-then-are_in_order : goal.returns-then-are_in_order
returns-then-are_in_order c =
    let es = c.args.entries.now in
    let first_day : (at es 0).day ≡ first_entry_day = grind (arith, nat_tests, c.if-ne.ensures) in
    let first_offset : (at es 0).offset ≡ first_entry_offset = grind (arith, nat_tests, c.if-ne.ensures) in (
      λ in_time.
          sound_by es c.args.expiry
          (record {
            some = c.in-len1-up.len_at_least;
            room = omega arith;
            first_day = first_day;
            first_offset = first_offset;
            last_in_time = ltb-true (at es (length es - 1)).day c.args.expiry in_time;
            expires = omega arith;
          })
          (sym c.if-are_in_order.ensures),
      λ s. lt-ltb (at es (length es - 1)).day c.args.expiry s.last_in_time,
    )

pub returns-else-are_in_order : goal.returns-else-are_in_order
returns-else-are_in_order c =
    (λ h. absurd (false≢true (sym c.if-are_in_order.false ∙ h)), λ s. c.are_in_order.ensures ∙ sound_in_order c.args.entries.now c.args.expiry s)
