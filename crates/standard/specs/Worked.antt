-- Answers that were worked out by hand, at the starting table.
use Rattle.std.specs.Prelude.{◌≡◌, ℕ, Ok, Err}
use Rattle.refusals.specs.declared.fault.Cause.{Cause}
use Rattle.refusals.specs.declared.fault.Cause.TheVariants.{Expired, InsertedSecond}
use Rattle.refusals.specs.declared.fault.Way.{Way}
use Rattle.refusals.specs.declared.fault.Way.TheVariants.{Reading, Showing}
use Rattle.refusals.specs.declared.refusal.Refusal.{Refusal}
use Rattle.refusals.specs.declared.refusal.Refusal.TheVariants.{Clock}
use Rattle.leap.specs.Starting.{starting}
use Rattle.clocks.specs.Banks.{bank_reads, bank_shows}
use Rattle.clocks.specs.Piles.{pile}
use Rattle.clocks.specs.Simple.{tai}
use Rattle.clocks.specs.Stamps.{ntp, ntp_1970}
use Rattle.utc.specs.Labels.{label_at}
use Rattle.utc.specs.Smear.{smear, window_seconds, window_lead}
use Rattle.standard.specs.Standard.{standard}

-- a clock's fault as the bank tells it: the rung, counted from the top, and the count that it was handed
abbrev pub fault_of : Cause → (rung : ℕ) → Way → (count : ℕ) → Refusal
fault_of cause rung way count = Clock (record { cause = cause; rung = rung; way = way; count = count })

pub record WorkedCases : Type 0 where
  -- 2016-12-31 23:59:60.5, in the second that was inserted before 2017, has a civil stamp, and no POSIX count
  pub inserted_read : bank_reads standard starting 1 (20161231, 235960500000000) ≡ Ok 1483228836500000000
  pub inserted_shown : bank_shows standard starting 1 1483228836500000000 ≡ Ok (20161231, 235960500000000)
  pub inserted_no_posix : bank_shows standard starting 2 1483228836500000000 ≡ Err (fault_of InsertedSecond 1 Showing (label_at 17166 86400500000000))
  -- 2017-01-01 00:00:00 in POSIX seconds, in GPS weeks and in NTP seconds
  pub posix_read : bank_reads standard starting 2 (1483228800, 0) ≡ Ok 1483228837000000000
  pub gps_shown : bank_shows standard starting 5 1483228837000000000 ≡ Ok (906, 18000)
  pub ntp_shown : bank_shows standard starting 4 1483228837000000000 ≡ Ok (3692217600, 0)
  -- the last nanosecond before the table's expiry, and the next
  pub last_read : bank_reads standard starting 2 (1727999999, 999999999) ≡ Ok 1728000036999999999
  pub expired : bank_reads standard starting 2 (1728000000, 0) ≡ Err (fault_of Expired 2 Reading (label_at 20000 0))
  -- smeared time rounds up: a nanosecond after the window's opening is less than two by TAI, and more than one
  pub smeared_read : (pile (smear window_seconds window_lead) tai).reads starting 1483185600000000001 ≡ Ok 1483185636000000002
  -- so does NTP: a fraction is less than a nanosecond, and a nanosecond more than four fractions
  pub fraction_read : (ntp ntp_1970).reads starting (ntp_1970, 1) ≡ Ok 1
  pub fraction_shown : (ntp ntp_1970).shows starting 1 ≡ Ok (ntp_1970, 4)
