use Rattle.dms_follow.proofs.Agreeing.{follows_agrees, agrees_content, agrees_as_alone}
use Rattle.dms_follow.proofs.laws.following_agrees.Goals as goal

pub returns : goal.returns
returns c = record { agrees = follows_agrees; content = agrees_content; alone = agrees_as_alone }
