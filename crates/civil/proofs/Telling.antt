-- A stamp is read as the label that it tells, and refused where it tells none.
use Rattle.std.proofs.Common.{◌≡◌, ℕ, ◌+◌, ◌*◌, ◌/◌, ◌%◌, false, true, Bool, Ok, Err, Result, sym, ap, ◌∙◌, arith}
use Rattle.refusals.specs.declared.fault.Cause.TheVariants.{Field}
use Rattle.refusals.specs.declared.fault.Fault.{Fault}
use Rattle.refusals.specs.declared.fault.Way.TheVariants.{Reading}
use Rattle.calendar.specs.Calendar.{day_number}
use Rattle.clocks.specs.Counts.{second}
use Rattle.clocks.specs.Forms.{Stamp}
use Rattle.clocks.specs.Rungs.{own_fault}
use Rattle.clocks.specs.Stamps.{fields_if}
use Rattle.utc.specs.Labels.{label_at}
use Rattle.civil.specs.Civil.{joined, first, middle, last, no_date, day_read, no_time, seconds_read, civil_reads, Tells, ReadsAs}
use Rattle.civil.proofs.Dates.{joins_again, right_date, date_reads}
use Rattle.civil.proofs.Times.{Time, which_second, second_fits, right_time, time_reads}
use Rattle.civil.proofs.Lawful.{ticks_read, read_is_right, right_is_read}

read_tells : (p : Stamp) (l : ℕ) → civil_reads p ≡ Ok l → Tells p l
read_tells p l e =
    let r = read_is_right p e in
    let time = p.1 / second in
    let right = right_time time r.1 in
    record {
      date = record { year = first p.0; month = middle p.0; day = last p.0 };
      hour = first time;
      minute = middle time;
      second_of_minute = last time;
      nanoseconds = p.1 % second;
      hi = sym (joins_again p.0);
      lo = omega (arith, joins_again time);
      date_stands = right_date p.0 r.0;
      hour_stands = right.hour;
      minute_stands = right.minute;
      second_stands = which_second (first time) (middle time) (last time) right.second;
      nanoseconds_stand = omega arith;
      label = sym r.2;
    }

tells_read : (p : Stamp) (l : ℕ) → Tells p l → civil_reads p ≡ Ok l
tells_read p l w =
    let clock = joined w.hour w.minute w.second_of_minute in
    let time : Time w.hour w.minute w.second_of_minute = record { hour = w.hour_stands; minute = w.minute_stands; second = second_fits w.hour w.minute w.second_of_minute w.second_stands } in
    let d = date_reads w.date.year w.date.month w.date.day w.date_stands in
    let s = time_reads w.hour w.minute w.second_of_minute time in
    let small = w.nanoseconds_stand in
    let whole : p.1 / second ≡ clock = omega (arith, w.lo, small) in
    let part : p.1 % second ≡ w.nanoseconds = omega (arith, w.lo, small) in
    let no_wrong_date : no_date p.0 ≡ false = ap no_date w.hi ∙ d.0 in
    let no_wrong_time : no_time (p.1 / second) ≡ false = ap no_time whole ∙ s.0 in
    let day : day_read p.0 ≡ day_number w.date.year w.date.month w.date.day = ap day_read w.hi ∙ d.1 in
    let seconds : seconds_read (p.1 / second) ≡ (w.hour * 60 + w.minute) * 60 + w.second_of_minute = ap seconds_read whole ∙ s.1 in
    let same : label_at (day_read p.0) (ticks_read p.1) ≡ l = omega (arith, w.label) in
    right_is_read p no_wrong_date no_wrong_time ∙ ap Ok same

refused_field : (b : Bool) (l : ℕ) (f : Fault) → fields_if b (Ok l) ≡ Err f → f ≡ own_fault Field Reading 0
refused_field true l f e = cc
refused_field false l f e = absurd cc

pub reads_as : (p : Stamp) (r : Result ℕ Fault) → r ≡ civil_reads p → ReadsAs p r
reads_as p r e = record {
  told = λ l. (λ g. read_tells p l (sym e ∙ g), λ w. e ∙ tells_read p l w);
  refused = λ f g. refused_field _ _ f (sym e ∙ g);
}
