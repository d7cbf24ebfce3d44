use Rattle.dms_pool.proofs.Leaving.{gives_up}
use Rattle.dms_pool.proofs.Sound.{sound_take}
use Rattle.dms_pool.proofs.pool.Pool.evict.Goals as goal

pub invariant_of-self : goal.invariant_of-self
invariant_of-self c = record { sound = sound_take _ c.args.self.now.frames c.pop_lru.new.self c.args.self.now.sound c.pop_lru.ensures.entries }

pub returns-clause-gives : goal.returns-clause-gives
returns-clause-gives c = rw c.id.ensures (gives_up c.in_ok-key.key c.in_ok-key.frame c.args.self.now _ c.in_ok-key.ensures.value c.pop_lru.ensures.entries)
