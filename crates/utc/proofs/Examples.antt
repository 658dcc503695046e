-- Answers that were worked out by hand, at the starting table and at one with a deleted second.
use Rattle.std.proofs.Common.{◌≡◌, [], ◌∷◌, Ok, Err, refl}
use Rattle.refusals.specs.declared.fault.Cause.TheVariants.{Expired, NoSuchSecond, InsertedSecond}
use Rattle.refusals.specs.declared.fault.Way.TheVariants.{Reading, Showing}
use Rattle.leap.specs.Table.{Table}
use Rattle.leap.specs.Starting.{starting}
use Rattle.clocks.specs.Rungs.{own_fault}
use Rattle.utc.specs.Labels.{label_at}
use Rattle.utc.specs.Leap.{leap}
use Rattle.utc.specs.Fold.{fold}
use Rattle.utc.specs.Smear.{window_seconds, window_lead, smear}

-- the last second of 1973-12-31 deleted
abbrev deleted : Table
deleted = record { entries = record { day = 730; offset = 10 } ∷ record { day = 1461; offset = 9 } ∷ []; expiry = 2000 }

-- half a second into the inserted second before 2017
inserted_read : leap.reads starting (label_at 17166 86400500000000) ≡ Ok 1483228836500000000
inserted_read = refl

inserted_shown : leap.shows starting 1483228836500000000 ≡ Ok (label_at 17166 86400500000000)
inserted_shown = refl

inserted_folded : fold.shows starting (label_at 17166 86400500000000) ≡ Err (own_fault InsertedSecond Showing (label_at 17166 86400500000000))
inserted_folded = refl

-- no day before has it, and the deleted second is missing
no_such_second : leap.reads starting (label_at 17165 86400000000000) ≡ Err (own_fault NoSuchSecond Reading (label_at 17165 86400000000000))
no_such_second = refl

deleted_missing : leap.reads deleted (label_at 1460 86399000000000) ≡ Err (own_fault NoSuchSecond Reading (label_at 1460 86399000000000))
deleted_missing = refl

deleted_before : leap.reads deleted (label_at 1460 86398999999999) ≡ Ok 126230408999999999
deleted_before = refl

-- the last tick before the expiry, and the first from it on
last_read : leap.reads starting (label_at 19999 86399999999999) ≡ Ok 1728000036999999999
last_read = refl

expired : leap.reads starting (label_at 20000 0) ≡ Err (own_fault Expired Reading (label_at 20000 0))
expired = refl

-- at midnight half of a step is smeared
smeared_midnight : (smear window_seconds window_lead).reads starting 1483228800000000000 ≡ Ok 1483228836500000000
smeared_midnight = refl

smeared_next : (smear window_seconds window_lead).reads starting 1483185600000000001 ≡ Ok 1483185636000000002
smeared_next = refl

smeared_deleted : (smear window_seconds window_lead).reads deleted 126230400000000000 ≡ Ok 126230409500000000
smeared_deleted = refl

-- at the end of a window with a deleted second two counts are read alike
smeared_end : (smear window_seconds window_lead).reads deleted 126273599999999999 ≡ Ok 126273609000000000
smeared_end = refl

smeared_shown : (smear window_seconds window_lead).shows deleted 126230409499999999 ≡ Ok 126230399999999998
smeared_shown = refl
