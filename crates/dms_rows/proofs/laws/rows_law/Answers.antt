use Rattle.dms_rows.specs.RowLaws.{rows_agree}
use Rattle.dms_rows.proofs.laws.rows_law.Goals as goal

pub returns : goal.returns
returns c = rows_agree
