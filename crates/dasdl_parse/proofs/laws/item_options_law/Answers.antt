use Rattle.dasdl_parse.proofs.ItemOptionsExact.{item_options_sound, item_options_complete}
use Rattle.dasdl_parse.proofs.laws.item_options_law.Goals as goal

pub returns : goal.returns
returns c = record {
  sound = λ ts rest said h. item_options_sound ts said rest h;
  complete = λ us rest said d e. item_options_complete us rest said d e;
}
