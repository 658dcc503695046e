-- What is so of every joiner, whatever was called before.
use Rattle.std.proofs.Common.{◌≡◌, ◌≤◌, true, length}
use Rattle.std.proofs.Math.Bool.{Bool-set}
use Rattle.std.proofs.Math.Bridge.{le_prop}
use Rattle.std.proofs.Math.Logic.{∥∥₁_elim}
use Rattle.leap.specs.Table.{Sound, most_entries}
use Rattle.leap.specs.Test.{sound}
use Rattle.leap.proofs.Saying.{sound_says, sound_passes}
use Rattle.clocks.specs.Counts.{most_feeds}
use Rattle.joiner.specs.declared.joiner.Joiner.{Joiner}
use Rattle.joiner.specs.Joiner.{state_of}

module _ {B : Type 0} (j : Joiner B) where
  -- its leap table is sound. (The joiner's field keeps that there is a proof of it, and the computed test brings one back.)
  pub joiner_sound : Sound (state_of j).table
  joiner_sound =
      let t = j.table in
      let room : length t.entries ≤ most_entries = ∥∥₁_elim j.sound le_prop (λ s. s.room) in
      let passes : sound t.entries t.expiry ≡ true = ∥∥₁_elim j.sound (Bool-set (sound t.entries t.expiry) true) (λ s. sound_passes t.entries t.expiry s) in
      sound_says t.entries t.expiry room passes

  -- and it has at most 64 feeds
  pub joiner_few : length (state_of j).feeds ≤ most_feeds
  joiner_few = j.few
