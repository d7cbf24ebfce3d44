use Rattle.dms_links.specs.ClearingLaws.{are_cleared}
use Rattle.dms_links.proofs.laws.clear_law.Goals as goal

pub returns : goal.returns
returns c desc db own before after set number ps have files counts h = are_cleared desc db own before after set number ps have files counts h
