use Rattle.dms_tokens.proofs.Cutting.{tokens_are, tokens_alone}
use Rattle.dms_tokens.proofs.laws.tokens_law.Goals as goal

pub returns : goal.returns
returns c = record { are = tokens_are; alone = tokens_alone }
