use Rattle.dasdl_grammar.proofs.GroupExact.{head_sound, head_complete}
use Rattle.dasdl_grammar.proofs.laws.head_law.Goals as goal

pub returns : goal.returns
returns c = record {
  sound = λ place name ts rest head h. head_sound place name ts head rest h;
  complete = λ place name us rest head d. head_complete place name us rest head d;
}
