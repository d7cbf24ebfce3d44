use Rattle.dasdl_grammar.proofs.GroupExact.{group_sound, group_complete}
use Rattle.dasdl_grammar.proofs.laws.group_law.Goals as goal

pub returns : goal.returns
returns c = record {
  sound = λ count ts rest group h. group_sound count ts group rest h;
  complete = λ count us rest items d few. group_complete count us rest items d few;
}
