use Rattle.dms_newdb.proofs.Stands.{made_stands}
use Rattle.dms_newdb.proofs.laws.what_is_made_stands.Goals as goal

pub returns : goal.returns
returns c = made_stands c.what_is_made_is_found.ensures c.entries_are_sealed.ensures.control c.kept_goes_on.ensures.first_agrees c.points_have_schemas.ensures.reads c.points_have_schemas.ensures.new c.empty_law.ensures
