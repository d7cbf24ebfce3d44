-- What a run carried out is a part of what the whole script does.
use Rattle.std.proofs.Common.{subst, sym, ℕ, List, Option}
use Rattle.std.specs.declared.result.Result.{Result}
use Rattle.dms_desc.specs.Shape.{as_described}
use Rattle.dms_feed.specs.Lines.{raw_lines}
use Rattle.dms_model.specs.Db.{Db}
use Rattle.dms_model.specs.declared.store.Store.{Ghosts}
use Rattle.dms_storeverbs.specs.declared.engine.Engine.{Engine}
use Rattle.dms_storeverbs.specs.View.{engine_view}
use Rattle.dms_runner.specs.declared.run.RunFault.{RunFault}
use Rattle.dms_runner.specs.Events.{RunEvent}
use Rattle.dms_runner.specs.Starting.{CarriesOut, RunPart, events_at}
use Rattle.dms_runner.proofs.Fronts.{front_law}
use Rattle.dms_runner.proofs.Happening.{part_of_first}

pub whole_part : {St T : Type 0} {g : Ghosts St} (result : Result T RunFault) (left : Option (List ℕ)) (old new : Engine St g) (db : Db) (first : ℕ) (all : List ℕ) → CarriesOut result left old new db first all
    → RunPart result old new (events_at old db first all)
whole_part result left old new db first all c =
    let f = front_law (as_described old.desc) db first (raw_lines all) c.n c.events c.are in
    subst (λ (x : List RunEvent). RunPart result old new x) (sym f.1) (part_of_first (engine_view old) (engine_view new) c.events f.0 c.part)
