use Rattle.dasdl_grammar.proofs.ParametersExact.{audit_sound, audit_complete}
use Rattle.dasdl_grammar.proofs.laws.audit_law.Goals as goal

pub returns : goal.returns
returns c = record {
  sound = λ ts rest said h. audit_sound ts said rest h;
  complete = λ us rest said d. audit_complete us rest said d;
}
