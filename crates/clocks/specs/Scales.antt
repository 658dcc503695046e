-- A scale: a form over a rung, read and shown by the pile's steps. It ties stamps to ticks, as a form ties them to counts, and keeps the same laws.
use Rattle.std.specs.Prelude.{◌+◌, Ok}
use Rattle.clocks.specs.Rungs.{RungMeaning}
use Rattle.clocks.specs.Piles.{lowered, then_do}
use Rattle.clocks.specs.Forms.{FormMeaning}

-- the form is rung 0 of the scale, and the rungs below it come after
abbrev pub scale : FormMeaning → RungMeaning → FormMeaning
scale f v = record {
  reads = λ t p. then_do (f.reads t p) (λ x. lowered 1 (v.reads t x));
  shows = λ t n. then_do (lowered 1 (v.shows t n)) (λ x. then_do (f.shows t x) (λ p. then_do (f.reads t p) (λ z. then_do (lowered 1 (v.reads t z)) (λ _. Ok p))));
  loss = v.loss + v.spread f.loss;
}
