-- What a run over a store leaves, in the words of the database.
use Rattle.std.proofs.Common.{ℕ, ◌≡◌, ◌+◌, List, arith, length, subst}
use Rattle.dms_model.specs.Seen.{Seen}
use Rattle.dms_model.specs.declared.store.Store.{Ghosts}
use Rattle.dms_moments.specs.MomentLaws.{runs_weaken}
use Rattle.dms_desc.specs.Shape.{as_described}
use Rattle.dms_storeverbs.specs.declared.engine.Engine.{Engine}
use Rattle.dms_storeverbs.specs.View.{engine_view}
use Rattle.dms_runner.specs.Answers.{script_events}
use Rattle.dms_runner.specs.Events.{RunEvent, quiets_of, CrashesWithin, Performs}
use Rattle.dms_run.specs.Starting.{PartLeaves, ScriptEnds}
use Rattle.dms_run.proofs.Leaving.{stop_leaves, ends}

-- each quiet point of the events has used one number, and nothing else has
pub numbers_used : {b a : Seen} (events : List RunEvent) → Performs b a events → a.next ≡ b.next + length (quiets_of events)
numbers_used events did = omega (arith, did.next, did.next_high)

module _ {St : Type 0} {g : Ghosts St} (old new : Engine St g) where
  pub part_leaves : PartLeaves old new
  part_leaves n db first begins events within =
      let b = engine_view old in
      runs_weaken within (λ stop s. stop_leaves b.whole b.said b.points n db first events stop begins.state
      (subst (λ (k : ℕ). CrashesWithin b.whole b.said b.points (length b.points) k events stop) begins.stands.next
      (subst (λ (k : ℕ). CrashesWithin b.whole b.said b.points k b.next events stop) begins.durable s)))

  pub script_ends : ScriptEnds old new
  script_ends n db first begins lines did =
      ends (engine_view old).points (engine_view new).points n db (quiets_of (script_events (as_described old.desc) db first lines)) begins.state (did.grew begins.tells)
