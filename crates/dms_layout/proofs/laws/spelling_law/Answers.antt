use Rattle.dms_layout.specs.ReadLaws.{one_spelling}
use Rattle.dms_layout.specs.SlotLaws.{slot_again, slot_length}
use Rattle.dms_layout.proofs.laws.spelling_law.Goals as goal

pub returns-clause-again : goal.returns-clause-again
returns-clause-again c = slot_again

pub returns-clause-width : goal.returns-clause-width
returns-clause-width c = slot_length

pub returns-clause-one : goal.returns-clause-one
returns-clause-one c = one_spelling
