-- A well-formed description is one under which scripts run.
use Rattle.dms_desc.specs.Shape.{Described}
use Rattle.dms_desc_bytes.specs.WellFormed.{IsWellFormed}
use Rattle.dms_laws.proofs.Formed.{groups_at, in_number, item_of, of_number, well_made}
use Rattle.dms_runner.proofs.LineVerbs.{line_verb}
use Rattle.dms_scriptlaws.specs.Truths.{HasNames, IsRunnable}

module _ (desc : Described) (well : IsWellFormed desc) where
  has_names : HasNames desc
  has_names = record {
    structures = λ n s here. (of_number desc well n s here).name;
    items = λ n s here k item at. (item_of desc well n s here k item at).name;
  }

  pub runnable : IsRunnable desc
  runnable = record {
    made = well_made desc well;
    names = has_names;
    order = record { numbers = in_number desc well; groups = groups_at desc well };
    lines = line_verb desc well;
  }
