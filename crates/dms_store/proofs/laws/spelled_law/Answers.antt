use Rattle.std.proofs.Common.{sym, ◌∙◌}
use Rattle.dms_store.specs.SpelledLaws.{spells, spelled_entries, spelled_fits, spelled_stands}
use Rattle.dms_store.proofs.laws.spelled_law.Goals as goal

pub returns-clause-one : goal.returns-clause-one
returns-clause-one c desc content a b p q = sym (spells desc content a p).is ∙ (spells desc content b q).is

pub returns-clause-records : goal.returns-clause-records
returns-clause-records c = spelled_stands

pub returns-clause-fits : goal.returns-clause-fits
returns-clause-fits c = spelled_fits

pub returns-clause-entries : goal.returns-clause-entries
returns-clause-entries c = spelled_entries
