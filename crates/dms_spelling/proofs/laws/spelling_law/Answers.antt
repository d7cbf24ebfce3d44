use Rattle.dms_spelling.specs.Back.{spelled_files}
use Rattle.dms_spelling.specs.Stands.{spell_by}
use Rattle.dms_spelling.proofs.laws.spelling_law.Goals as goal

pub returns-clause-files : goal.returns-clause-files
returns-clause-files c desc before db served h = spelled_files desc before db served h

pub returns-clause-spells : goal.returns-clause-spells
returns-clause-spells c desc db own before served files counts = spell_by desc db own before served files counts
