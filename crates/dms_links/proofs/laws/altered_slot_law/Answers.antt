use Rattle.dms_links.specs.AlteredLaws.{slot_corrected, slot_counted, slot_disowned, slot_linked, slot_owned, slot_uncounted}
use Rattle.dms_links.specs.declared.altering.SlotChange.TheVariants.{Counted, Uncounted, Owned, Disowned}
use Rattle.dms_links.proofs.laws.altered_slot_law.Goals as goal

pub returns-clause-counted : goal.returns-clause-counted
returns-clause-counted c desc db own before after set number s is files a = slot_counted desc db own before after set number s is Counted files a a.is_next

pub returns-clause-uncounted : goal.returns-clause-uncounted
returns-clause-uncounted c desc db own before after set number s is files a = slot_uncounted desc db own before after set number s is Uncounted files a a.is_next

pub returns-clause-linked : goal.returns-clause-linked
returns-clause-linked c desc db own before after set number s item to is files a target = slot_linked desc db own before after set number s is files item to a target

pub returns-clause-corrected : goal.returns-clause-corrected
returns-clause-corrected c desc db own before after set number s to n is files a = slot_corrected desc db own before after set number s is files to n a

pub returns-clause-owned : goal.returns-clause-owned
returns-clause-owned c desc db own before after set number s is files a = slot_owned desc db own before after set number s is Owned files a a.is_next

pub returns-clause-disowned : goal.returns-clause-disowned
returns-clause-disowned c desc db own before after set number s is files a = slot_disowned desc db own before after set number s is Disowned files a a.is_next
