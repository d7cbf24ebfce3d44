use Rattle.dasdl_parse.proofs.ItemExact.{item_sound, item_complete}
use Rattle.dasdl_parse.proofs.laws.item_law.Goals as goal

pub returns : goal.returns
returns c = record {
  sound = λ place name ts rest item h. item_sound place name ts item rest h;
  complete = λ place name us rest item d. item_complete place name us rest item d;
}
