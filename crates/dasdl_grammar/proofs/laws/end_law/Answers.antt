use Rattle.dasdl_grammar.proofs.SetComplete.{end_sound, end_complete}
use Rattle.dasdl_grammar.proofs.laws.end_law.Goals as goal

pub returns : goal.returns
returns c = record {
  sound = λ ts rest end h. end_sound ts end rest h;
  complete = λ us rest end d. end_complete us rest end d;
}
