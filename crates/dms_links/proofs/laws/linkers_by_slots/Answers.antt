use Rattle.dms_links.specs.Linking.{linkers_are}
use Rattle.dms_links.proofs.laws.linkers_by_slots.Goals as goal

pub returns : goal.returns
returns c desc db own content set number numbered files = linkers_are desc numbered db own content files set number
