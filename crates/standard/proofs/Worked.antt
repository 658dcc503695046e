-- The cases that were worked out by hand are what the definitions compute.
use Rattle.std.proofs.Common.{refl}
use Rattle.calendar.specs.Calendar.{months_days, date_of, take_months}
use Rattle.standard.specs.Worked.{WorkedCases}

pub worked : WorkedCases
unfolding months_days date_of take_months
worked = record {
  inserted_read = refl;
  inserted_shown = refl;
  inserted_no_posix = refl;
  posix_read = refl;
  gps_shown = refl;
  ntp_shown = refl;
  last_read = refl;
  expired = refl;
  smeared_read = refl;
  fraction_read = refl;
  fraction_shown = refl;
}
