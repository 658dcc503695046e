use Rattle.std.proofs.Common.{refl}
use Rattle.standard.proofs.bank.ntp_stamps.Goals as goal

pub returns : goal.returns
returns c = rw c.new.ensures.pivot refl
