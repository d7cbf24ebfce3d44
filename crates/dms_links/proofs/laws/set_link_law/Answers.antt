use Rattle.dms_links.specs.SettingLaws.{link_is_set}
use Rattle.dms_links.proofs.laws.set_link_law.Goals as goal

pub returns : goal.returns
returns c desc db own before after set number item to s done have files counts may h = link_is_set desc db own before after set number item to s done have files counts may h
