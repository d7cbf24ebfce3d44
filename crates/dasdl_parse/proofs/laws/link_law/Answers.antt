use Rattle.dasdl_parse.proofs.ItemExact.{link_sound, link_complete}
use Rattle.dasdl_parse.proofs.laws.link_law.Goals as goal

pub returns : goal.returns
returns c = record {
  sound = λ n place name ts rest link h. link_sound n place name ts link rest h;
  complete = λ n place name us rest link d f. link_complete n place name us rest link d f;
}
