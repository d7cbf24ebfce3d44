use Rattle.dms_pool.proofs.Leaving.{emptied}
use Rattle.dms_pool.proofs.Sound.{sound_empty}
use Rattle.dms_pool.proofs.pool.Pool.clear.Goals as goal

pub invariant_of-self : goal.invariant_of-self
invariant_of-self c = record { sound = sound_empty c.args.self.now.frames c.clear.new.self c.args.self.now.sound c.clear.ensures }

pub returns : goal.returns
returns c = emptied c.args.self.now _ c.clear.ensures
