use Rattle.std.proofs.Common.{sym, ◌∙◌}
use Rattle.dms_history.proofs.AtPoints.{or_no}
use Rattle.dms_restore.specs.Named.{is_marked, is_of_block}
use Rattle.dms_restore.proofs.Marked.{row_undone, apart_undone}
use Rattle.dms_restore.proofs.Results.{one_ok}
use Rattle.dms_restore.proofs.marking.mark_other.Goals as goal

pub returns-else-is_of_rows-clause-stays : goal.returns-else-is_of_rows-clause-stays
returns-else-is_of_rows-clause-stays c = one_ok c.mark_one.result c.mark_one.ensures.marks (λ marks f b off. (or_no (is_of_block f b c.args.entry.now) (is_marked c.args.spots.now f b) (sym (marks f b) ∙ off)).1)

pub returns-then-is_of_rows-clause-undoes : goal.returns-then-is_of_rows-clause-undoes
returns-then-is_of_rows-clause-undoes c files f b n off = row_undone files c.args.rows.now c.args.entry.now f b n (sym c.is_of_rows.ensures ∙ c.if-is_of_rows.true)

pub returns-else-is_of_rows-clause-undoes : goal.returns-else-is_of_rows-clause-undoes
returns-else-is_of_rows-clause-undoes c = one_ok c.mark_one.result c.mark_one.ensures.marks (λ marks files f b n off.
    apart_undone files c.args.rows.now c.args.entry.now f b n (or_no (is_of_block f b c.args.entry.now) (is_marked c.args.spots.now f b) (sym (marks f b) ∙ off)).0)
