use Rattle.dms_pool.proofs.Leaving.{looked}
use Rattle.dms_pool.proofs.Sound.{sound_promoted}
use Rattle.dms_pool.proofs.pool.Pool.get.Goals as goal

pub invariant_of-self : goal.invariant_of-self
invariant_of-self c =
    let is = rw c.of-key.ensures at c.promote-was_held.ensures.entries in
    record { sound = sound_promoted c.args.id c.args.self.now.frames c.promote-was_held.new.self c.args.self.now.sound is }

pub returns-clause-looked : goal.returns-clause-looked
returns-clause-looked c =
    let is = rw c.of-key.ensures at c.promote-was_held.ensures.entries in
    looked c.args.id c.args.self.now _ is
