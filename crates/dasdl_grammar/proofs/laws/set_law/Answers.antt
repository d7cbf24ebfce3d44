use Rattle.dasdl_grammar.proofs.SetComplete.{set_sound, set_complete}
use Rattle.dasdl_grammar.proofs.laws.set_law.Goals as goal

pub returns : goal.returns
returns c = record {
  sound = λ place name ts rest set h. set_sound place name ts set rest h;
  complete = λ place name us rest set d. set_complete place name us rest set d;
}
