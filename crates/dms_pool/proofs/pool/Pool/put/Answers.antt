use Rattle.std.proofs.lemmas.Bool.{false≢true}
use Rattle.dms_pool.specs.Held.{as_frame}
use Rattle.dms_pool.proofs.Leaving.{has_room, puts}
use Rattle.dms_pool.proofs.Sound.{sound_either}
use Rattle.dms_pool.proofs.pool.Pool.put.Goals as goal

pub invariant_of-self : goal.invariant_of-self
invariant_of-self c =
    let is = rw c.of.ensures at c.put.ensures.entries in
    record { sound = sound_either c.put.result c.args.id (as_frame c.args.block.now c.args.dirty) c.args.self.now.frames c.put.new.self c.args.self.now.sound (has_room c.args.id c.args.self.now c.requires) is c.put.ensures.err }

pub returns-clause-ok : goal.returns-clause-ok
returns-clause-ok c =
    let is = rw c.of.ensures at c.in_ok-put.ensures.entries in
    puts c.args.id (as_frame c.args.block.now c.args.dirty) c.args.self.now _ c.requires is

pub returns-in_err-put-clause-again : goal.returns-in_err-put-clause-again
returns-in_err-put-clause-again c held =
    let succeeds = rw c.of.ensures at c.in_err-put.ensures.succeeds in
    absurd (false≢true (succeeds held))
