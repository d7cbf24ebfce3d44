use Rattle.dasdl_grammar.proofs.ParametersExact.{parameters_sound, parameters_complete}
use Rattle.dasdl_grammar.proofs.laws.parameters_law.Goals as goal

pub returns : goal.returns
returns c = record {
  sound = λ ts rest said h. parameters_sound ts said rest h;
  complete = λ us rest said d. parameters_complete us rest said d;
}
