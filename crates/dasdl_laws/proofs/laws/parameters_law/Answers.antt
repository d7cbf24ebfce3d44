use Rattle.dasdl_laws.proofs.Parameters.{in_range}
use Rattle.dasdl_laws.proofs.laws.parameters_law.Goals as goal

pub returns : goal.returns
returns c = in_range
