-- What a run leaves of its engine.
use Rattle.std.specs.Prelude.{◌≡◌, ◌≤◌, ℕ, OnOk}
use Rattle.std.specs.declared.result.Result.{Result}
use Rattle.std.specs.declared.result.Result.TheVariants.{Ok, Err}
use Rattle.dms_block.specs.declared.block_fault.BlockFault.TheVariants.{Say}
use Rattle.dms_block.specs.Counts.{Faults, Raised}
use Rattle.dms_model.specs.declared.store.Store.{Ghosts}
use Rattle.dms_model.specs.Points.{StopFiles}
use Rattle.dms_storeverbs.specs.declared.engine.Engine.{Engine}
use Rattle.dms_storeverbs.specs.View.{engine_view}
use Rattle.dms_runner.specs.Events.{Fate, IsFullOf}
use Rattle.dms_runner.specs.declared.run.RunFault.{RunFault}
use Rattle.dms_runner.specs.declared.run.RunFault.TheVariants.{Block, Input, Lines, Bytes, Held, Memory}

-- a fault of the store was counted once, and no other was; where the run stopped for another reason none was
abbrev pub HasBlame : RunFault → Faults → Faults → Type 0
HasBlame (Block f) a b = Raised f a b
HasBlame Input a b = b ≡ a
HasBlame Lines a b = b ≡ a
HasBlame Bytes a b = b ≡ a
HasBlame Held a b = b ≡ a
HasBlame Memory a b = b ≡ a

abbrev pub IsBlamedOn : {T : Type 0} → Result T RunFault → Faults → Faults → Type 0
IsBlamedOn (Ok x) a b = b ≡ a
IsBlamedOn (Err f) a b = HasBlame f a b

-- the run stopped at a fault of printing: the last text may have been cut off
abbrev pub CutRun : {T : Type 0} → Result T RunFault → Type 0
CutRun (Ok x) = ⊥
CutRun (Err f) = f ≡ Block Say

-- the run stopped since the audit had no room behind this file
abbrev pub IsFullRun : {T : Type 0} → Result T RunFault → ℕ → Type 0
IsFullRun (Ok x) n = ⊥
IsFullRun (Err (Block f)) n = IsFullOf {T = Unit {0}} (Err f) n
IsFullRun (Err Input) n = ⊥
IsFullRun (Err Lines) n = ⊥
IsFullRun (Err Bytes) n = ⊥
IsFullRun (Err Held) n = ⊥
IsFullRun (Err Memory) n = ⊥

abbrev pub run_fate : {T : Type 0} → Result T RunFault → Fate
run_fate result = record { cut = CutRun result; full = IsFullRun result }

-- whatever a run does, its engine stays the same one, usable without a fault, and a fault of the store has a cause
pub record LastsRun {St : Type 0} {g : Ghosts St} {T : Type 0} (result : Result T RunFault) (old new : Engine St g) : Type 0 where
  pub sound : OnOk result (engine_view new).sound
  pub description : new.desc ≡ old.desc
  pub same : g.same_store old.store new.store
  pub tells : (engine_view old).tells → (engine_view new).tells
  pub desc : (engine_view new).desc ≡ (engine_view old).desc
  pub pace : (engine_view new).pace ≡ (engine_view old).pace
  pub whole : (files : StopFiles) → (engine_view new).whole files → (engine_view old).whole files
  pub whole_on : (files : StopFiles) → (engine_view old).whole files → (engine_view new).whole files
  pub cause : IsBlamedOn result (engine_view old).faults (engine_view new).faults
  pub reads : (engine_view old).reads ≤ (engine_view new).reads
