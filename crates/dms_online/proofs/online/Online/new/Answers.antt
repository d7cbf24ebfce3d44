use Rattle.dms_online.proofs.online.Online.new.Goals as goal

pub returns-clause-sound : goal.returns-clause-sound
returns-clause-sound g c = record { usable = c.requires; copied = tt; up = tt }
