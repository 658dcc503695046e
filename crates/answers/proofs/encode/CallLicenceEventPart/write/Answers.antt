use Rattle.answers.proofs.encode.CallLicenceEventPart.write.Goals as goal

pub returns-in-Put : goal.returns-in-Put
returns-in-Put c = rw c.in-Put.is c.write.ensures
