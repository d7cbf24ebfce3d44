use Rattle.dasdl_grammar.proofs.SchemaSound.{text_sound, text_complete}
use Rattle.dasdl_grammar.proofs.laws.schema_law.Goals as goal

pub returns : goal.returns
returns c = record {
  sound = λ text schema h. text_sound text schema h;
  complete = λ text schema d few. text_complete text schema d few;
}
