use Rattle.std.proofs.Common.{sym, ◌∙◌}
use Rattle.std.proofs.lemmas.Bool.{true≢false}
use Rattle.dms_history.proofs.AtPoints.{or_no}
use Rattle.dms_restore.specs.Named.{is_marked, is_of_block}
use Rattle.dms_restore.proofs.Marked.{unnamed_more}
use Rattle.dms_restore.proofs.Results.{one_ok}
use Rattle.dms_restore.proofs.marking.mark_naming.Goals as goal

pub returns-then-is_naming-clause-stays : goal.returns-then-is_naming-clause-stays
returns-then-is_naming-clause-stays c = one_ok c.mark_one.result c.mark_one.ensures.marks (λ marks f b off. (or_no (is_of_block f b c.args.entry.now) (is_marked c.args.spots.now f b) (sym (marks f b) ∙ off)).1)

pub returns-then-is_naming-clause-names : goal.returns-then-is_naming-clause-names
returns-then-is_naming-clause-names c = one_ok c.mark_one.result c.mark_one.ensures.marks (λ marks files f b n off unnamed.
    unnamed_more files c.args.rows.now c.args.of_rows c.args.of_others c.args.before c.args.entry.now f b n
    (λ naming. (or_no (is_of_block f b c.args.entry.now) (is_marked c.args.spots.now f b) (sym (marks f b) ∙ off)).0) unnamed)

pub returns-else-is_naming-clause-names : goal.returns-else-is_naming-clause-names
returns-else-is_naming-clause-names c files f b n off unnamed =
    unnamed_more files c.args.rows.now c.args.of_rows c.args.of_others c.args.before c.args.entry.now f b n (λ naming. absurd (true≢false (sym naming ∙ sym c.is_naming.ensures ∙ c.if-is_naming.false))) unnamed
