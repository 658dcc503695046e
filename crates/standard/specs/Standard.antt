-- The standard bank: six feeds, each with TAI at the bottom.
use Rattle.std.specs.Prelude.{ℕ}
use Rattle.clocks.specs.Banks.{BankMeaning, one_scale, beside}
use Rattle.clocks.specs.Forms.{FormMeaning}
use Rattle.clocks.specs.Piles.{pile}
use Rattle.clocks.specs.Rungs.{RungMeaning}
use Rattle.clocks.specs.Scales.{scale}
use Rattle.clocks.specs.Simple.{tai, offset, coarse}
use Rattle.clocks.specs.Stamps.{posix, ntp, gps}
use Rattle.utc.specs.Fold.{fold}
use Rattle.utc.specs.Leap.{leap}
use Rattle.utc.specs.Smear.{smear, window_seconds, window_lead}
use Rattle.civil.specs.Civil.{civil}

-- a smeared clock goes in steps of so many ticks
abbrev pub smeared_step : ℕ
smeared_step = 1000

-- NTP stamps are of the era that begins with 2000-01-01
abbrev pub ntp_pivot : ℕ
ntp_pivot = 3155673600

-- GPS weeks are of the turn that begins with this one, in July 2014
abbrev pub gps_pivot : ℕ
gps_pivot = 1800

-- the tick at which GPS time begins: 1980-01-06, when TAI minus UTC was 19 seconds
abbrev pub gps_begins : ℕ
gps_begins = 315964819000000000

-- UTC's labels, and POSIX counts of UTC
abbrev pub utc_labels : RungMeaning
utc_labels = pile leap tai

abbrev pub posix_utc : RungMeaning
posix_utc = pile fold utc_labels

-- smeared counts in steps
abbrev pub smeared : RungMeaning
smeared = pile (coarse smeared_step) (pile (smear window_seconds window_lead) tai)

-- the scales of the feeds 0 to 5
abbrev pub tai_stamps : FormMeaning
tai_stamps = scale posix tai

abbrev pub civil_stamps : FormMeaning
civil_stamps = scale civil utc_labels

abbrev pub posix_stamps : FormMeaning
posix_stamps = scale posix posix_utc

abbrev pub smeared_stamps : FormMeaning
smeared_stamps = scale posix smeared

abbrev pub ntp_stamps : FormMeaning
ntp_stamps = scale (ntp ntp_pivot) posix_utc

abbrev pub gps_stamps : FormMeaning
gps_stamps = scale (gps gps_pivot) (pile (offset gps_begins) tai)

abbrev pub standard : BankMeaning
standard =
    beside (one_scale tai_stamps) (
    beside (one_scale civil_stamps) (
    beside (one_scale posix_stamps) (
    beside (one_scale smeared_stamps) (
    beside (one_scale ntp_stamps) (one_scale gps_stamps)))))
