use Rattle.dms_links.specs.Removing.{freed}
use Rattle.dms_links.proofs.laws.freed_slot_law.Goals as goal

pub returns : goal.returns
returns c desc db own before after set number s of may low change files = freed desc of.numbered db own before after set number s of.at of.is_set low change may files
