use Rattle.std.proofs.Common.{ap, ap₂}
use Rattle.clocks.specs.Banks.{BankMeaning, one_scale, beside}
use Rattle.standard.specs.Standard.{tai_stamps, civil_stamps, posix_stamps}
use Rattle.standard.proofs.bank.standard_bank.Goals as goal

pub returns-clause-means : goal.returns-clause-means
returns-clause-means c =
    let made = ap₂ beside c.smeared_stamps.ensures (ap₂ beside c.ntp_stamps.ensures c.gps_stamps.ensures) in
    ap (λ (m : BankMeaning). beside (one_scale tai_stamps) (beside (one_scale civil_stamps) (beside (one_scale posix_stamps) m))) made
