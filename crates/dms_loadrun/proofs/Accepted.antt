-- The schema of a load is accepted, with its description.
use Rattle.std.proofs.Common.{◌≡◌, refl, Ok, Err, Result}
use Rattle.dms_desc.specs.Shape.{Described}
use Rattle.dms_load.specs.Summary.{load_schema}
use Rattle.dms_loadrun.specs.Description.{load_description}
use Rattle.dms_loadrun.proofs.Computing.{tokens_on_literals, phrases_on_literals, schema_on_literals, compile_on_literals}
use Rattle.dms_loadrun.proofs.Loaded.{same_described}
use Rattle.dms_newdb.specs.Judging.{judge_schema}
use Rattle.dms_status.specs.declared.status.SchemaFault.{SchemaFault}

-- the text is read and compiled as the prover computes it
pub accepted : judge_schema load_schema ≡ Ok load_description
unfolding load_schema load_description judge_schema tokens_on_literals phrases_on_literals schema_on_literals compile_on_literals
accepted = refl

-- so the description that was judged is that one
pub judged_is : (d : Described) → judge_schema load_schema ≡ Ok d → d ≡ load_description
judged_is d is = same_described (judge_schema load_schema) d load_description is accepted

not_both : (j : Result Described SchemaFault) (d : Described) (e : SchemaFault) → j ≡ Ok d → j ≡ Err e → ⊥
not_both j d e ok err = absurd cc

-- and there is no fault
pub never_refused : (e : SchemaFault) → judge_schema load_schema ≡ Err e → ⊥
never_refused e is = not_both (judge_schema load_schema) load_description e accepted is
