use Rattle.dasdl_phrases.proofs.KindExact.{kind_sound, kind_complete}
use Rattle.dasdl_phrases.proofs.laws.kind_law.Goals as goal

pub returns : goal.returns
returns c = record {
  sound = λ ts rest kind h. kind_sound ts kind rest h;
  complete = λ us rest kind d. kind_complete us rest kind d;
}
