use Rattle.leap.proofs.Bulletins.{accepted_past, accepted_sound}
use Rattle.std.proofs.Common.{subst, sym}
use Rattle.leap.specs.Table.{Sound}
use Rattle.leap.proofs.table.LeapTable.renew.Goals as goal

pub returns-clause-past : goal.returns-clause-past
returns-clause-past c =
    let e = c.in_ok-table.ensures.answer in
    accepted_past c.args.self.now c.renewed.ensures.sound c.args.bulletin c.in_ok-table.table e.0 e.1

pub returns-clause-sound : goal.returns-clause-sound
returns-clause-sound c =
    let e = c.in_ok-table.ensures.answer in
    subst Sound (sym e.1) (accepted_sound c.args.self.now c.renewed.ensures.sound c.args.bulletin e.0)
