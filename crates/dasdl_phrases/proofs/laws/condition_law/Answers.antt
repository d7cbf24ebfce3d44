use Rattle.dasdl_phrases.proofs.CondSound.{cond_sound}
use Rattle.dasdl_phrases.proofs.CondNodes.{cond_few}
use Rattle.dasdl_phrases.proofs.CondComplete.{cond_complete}
use Rattle.dasdl_phrases.proofs.laws.condition_law.Goals as goal

pub returns : goal.returns
returns c = record {
  sound = λ ts rest t h. (cond_sound ts t rest h, cond_few ts t rest h);
  complete = λ us rest t d h na nor. cond_complete us rest t d h na nor;
}
