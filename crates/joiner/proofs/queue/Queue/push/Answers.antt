use Rattle.std.proofs.Common.{ℕ, List, [], ◌∷◌, ◌++◌, refl, ap, ◌∙◌, add-one, arith, rules}
use Rattle.joiner.proofs.Rings.{ring_push, ring_room}
use Rattle.joiner.proofs.queue.Queue.push.Goals as goal

pub invariant_of-self : goal.invariant_of-self
invariant_of-self g c =
    let q = c.self.inside in
    let room = ring_room g.row.N q.ring q.oldest q.len _ c.self.view_is c.requires in
    (c.self.invariant.0, omega arith, c.self.invariant.2)

pub returns : goal.returns
returns g c =
    let q = c.self.inside in
    let room = ring_room g.row.N q.ring q.oldest q.len _ c.self.view_is c.requires in
    rw add-one (ring_push g.row.N q.ring q.oldest q.len _ c.args.feed (search rules) c.self.invariant.0 room refl
    ∙ ap (λ (xs : List ℕ). xs ++ c.args.feed ∷ []) c.self.view_is)
