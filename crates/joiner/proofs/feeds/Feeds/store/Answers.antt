use Rattle.std.proofs.Common.{ℕ, ◌<◌, Bool, ◌≤◌, ◌-◌, ◌^◌, cond, length, ap, ap₂, ◌∙◌, sym, arith}
use lib.Bits.{bit_or, bit_and}
use Rattle.std.proofs.lemmas.Nat.{one_shl}
use Rattle.order.specs.Queue.{is_idle, idle_mask}
use Rattle.joiner.proofs.Masking.{stored, busy}
use Rattle.joiner.proofs.feeds.Feeds.store.Goals as goal
use Rattle.joiner.proofs.feeds.Feeds.store.Goals.{in-Idle, in-Holding}

pub overflow_shl-bit : goal.overflow_shl-bit
overflow_shl-bit c = omega (arith, c.requires, ap length c.self.view_is, c.self.invariant.0)

pub invariant_of-self : goal.invariant_of-self
invariant_of-self c =
    let xs = c.self.inside.states.items in
    let f = c.args.feed in
    let inside : f < length xs = omega (arith, c.requires, ap length c.self.view_is) in
    let few : length xs ≤ 64 = c.self.invariant.0 in
    let bit = one_shl f 64 (omega arith) in
    let choose : Bool → ℕ = λ b. cond b (bit_or (idle_mask xs) (2 ^ f)) (bit_and (idle_mask xs) (2 ^ 64 - 1 - 2 ^ f)) in
    stored xs c.deref_mut.result.now f c.from.result c.match-state.self c.args.state c.deref_mut.ensures.value c.from.ensures inside few
    (elim c.match-state.branch [
      | in-Idle w ↦ w.self-is ∙ ap₂ bit_or c.self.invariant.1 bit ∙ ap choose (sym (ap is_idle w.in-Idle.is))
      | in-Holding w ↦ w.self-is ∙ ap₂ bit_and c.self.invariant.1 (ap (λ x. 2 ^ 64 - 1 - x) bit) ∙ ap choose (sym (busy c.args.state w.in-Holding.is))
    ])
