-- A run's faults, and those of its engine.
use Rattle.std.proofs.Common.{◌≡◌, IsErrOf, refl}
use Rattle.std.specs.declared.result.Result.{Result}
use Rattle.std.specs.declared.result.Result.TheVariants.{Ok, Err}
use Rattle.dms_block.specs.declared.block_fault.BlockFault.{BlockFault}
use Rattle.dms_model.specs.declared.store.Store.{Ghosts}
use Rattle.dms_storeverbs.specs.declared.engine.Engine.{Engine}
use Rattle.dms_storeverbs.specs.View.{engine_view, EngineLasts, Lasted}
use Rattle.dms_storeverbs.proofs.Lasting.{lasts_on}
use Rattle.dms_runner.specs.declared.run.RunFault.{RunFault}
use Rattle.dms_runner.specs.declared.run.RunFault.TheVariants.{Block, Input, Lines, Bytes, Held, Memory}
use Rattle.dms_runner.proofs.Always.{always_ok}
use Rattle.dms_runner.specs.Blaming.{IsBlamedOn, LastsRun}

module _ {St : Type 0} {g : Ghosts St} {T : Type 0} {a b c : Engine St g} (then_ : (x y z : St) → g.same_store x y → g.same_store y z → g.same_store x z) where
  pub run_on_lasts : {x : T} → Lasted a b → LastsRun (Ok x) b c → Lasted a c
  run_on_lasts {x} p q = lasts_on then_ p (let r : EngineLasts (Ok x) b c = record { sound = q.sound; description = q.description; same = q.same; causes = record { tells = q.tells; desc = q.desc; pace = q.pace; whole = q.whole; whole_on = q.whole_on; cause = q.cause; reads = q.reads } } in r)

-- nothing more happened to the engine, and the run stops for a reason of its own
pub none_lasts : {St : Type 0} {g : Ghosts St} {T : Type 0} {a b : Engine St g} (result : Result T RunFault) → ((f : BlockFault) → IsErrOf result (Block f) → ⊥) → Lasted a b → LastsRun result a b
none_lasts {T = T} {a = a} {b = b} result block p = record {
  sound = always_ok result _ p.sound;
  description = p.description;
  same = p.same;
  tells = p.causes.tells;
  desc = p.causes.desc;
  pace = p.causes.pace;
  whole = p.causes.whole;
  whole_on = p.causes.whole_on;
  cause = at result block;
  reads = p.causes.reads;
}
  where
    at : (result : Result T RunFault) → ((f : BlockFault) → IsErrOf result (Block f) → ⊥) → IsBlamedOn result (engine_view a).faults (engine_view b).faults
    at (Ok x) block = p.causes.cause
    at (Err (Block f)) block = absurd (block f refl)
    at (Err Input) block = p.causes.cause
    at (Err Lines) block = p.causes.cause
    at (Err Bytes) block = p.causes.cause
    at (Err Held) block = p.causes.cause
    at (Err Memory) block = p.causes.cause

-- what answered didn't fail
pub no_fault : {T E : Type 0} (x : T) (e : E) → Ok x ≡ Err e → ⊥
no_fault x e is = cc
