use Rattle.dasdl_phrases.proofs.KeyExact.{key_sound}
use Rattle.dasdl_phrases.proofs.KeyComplete.{key_complete}
use Rattle.dasdl_phrases.proofs.laws.key_law.Goals as goal

pub returns : goal.returns
returns c = record {
  sound = λ ts rest parts h. key_sound ts parts rest h;
  complete = λ us rest parts d few up down. key_complete us rest parts d few up down;
}
