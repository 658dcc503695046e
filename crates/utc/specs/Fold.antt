-- The fold rung: POSIX counts over UTC labels. POSIX days all have the seconds of a day with no change, so a label keeps its day and its ticks, and an inserted second has no count.
use Rattle.std.specs.Prelude.{◌+◌, ◌*◌, ◌/◌, ◌%◌, Ok, nat_le}
use Rattle.refusals.specs.declared.fault.Cause.TheVariants.{InsertedSecond}
use Rattle.refusals.specs.declared.fault.Way.TheVariants.{Reading, Showing}
use Rattle.leap.specs.Table.{largest_step}
use Rattle.clocks.specs.Counts.{second}
use Rattle.clocks.specs.Rungs.{RungMeaning, refused_if, counted, answered}
use Rattle.clocks.specs.Stamps.{up}
use Rattle.utc.specs.Labels.{day_ticks, label_at, day_of, ticks_of}

-- what is shown is less than its label, so it is a count
abbrev pub fold : RungMeaning
fold = record {
  reads = λ t r. counted Reading r (answered Reading r (label_at (r / day_ticks) (r % day_ticks)));
  shows = λ t n. counted Showing n (
      refused_if (nat_le day_ticks (ticks_of n)) InsertedSecond Showing n (Ok (day_of n * day_ticks + ticks_of n)));
  loss = 0;
  spread = λ n. n + largest_step * second * up n day_ticks;
  rungs = 1;
}
