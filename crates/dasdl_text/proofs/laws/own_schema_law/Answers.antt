use Rattle.std.proofs.Common.{subst}
use Rattle.dasdl_text.specs.Schemas.{IsSchemaOf}
use Rattle.dasdl_text.proofs.laws.own_schema_law.Goals as goal

pub returns : goal.returns
returns c = λ text d good all s. subst (IsSchemaOf text) (c.spelling_law.ensures s.described d (all s.described s.is_schema) good s.same) s.is_schema
