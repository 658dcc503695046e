-- The rungs that need no leap table: TAI, offsets and coarse clocks.
use Rattle.std.specs.Prelude.{ℕ, ◌+◌, ◌-◌, ◌%◌, Ok, nat_lt}
use Rattle.refusals.specs.declared.fault.Cause.TheVariants.{NoCount, NotMultiple}
use Rattle.refusals.specs.declared.fault.Way.TheVariants.{Reading, Showing}
use Rattle.clocks.specs.Rungs.{RungMeaning, refused_if, counted, answered}

-- TAI: both maps are the identity
abbrev pub tai : RungMeaning
tai = record {
  reads = λ t r. counted Reading r (Ok r);
  shows = λ t n. counted Showing n (Ok n);
  loss = 0;
  spread = λ n. n;
  rungs = 1;
}

-- the largest offset
abbrev pub offset_limit : ℕ
offset_limit = 7999999999999999999

-- an offset k reads r as r + k, and showing undoes it: a count below k would be shown as no count
abbrev pub offset : ℕ → RungMeaning
offset k = record {
  reads = λ t r. counted Reading r (answered Reading r (r + k));
  shows = λ t n. counted Showing n (refused_if (nat_lt n k) NoCount Showing n (Ok (n - k)));
  loss = 0;
  spread = λ n. n;
  rungs = 1;
}

abbrev pub coarse_limit : ℕ
coarse_limit = 10000000000000

-- a coarse clock of step w reads its multiples as themselves, and shows the last multiple
abbrev pub coarse : ℕ → RungMeaning
coarse w = record {
  reads = λ t r. counted Reading r (refused_if (nat_lt 0 (r % w)) NotMultiple Reading r (Ok r));
  shows = λ t n. counted Showing n (Ok (n - n % w));
  loss = w - 1;
  spread = λ n. n;
  rungs = 1;
}
