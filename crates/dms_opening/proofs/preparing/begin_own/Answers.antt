use Rattle.std.proofs.Common.{List, sym, subst}
use Rattle.dms_history.specs.Entries.{how_of}
use Rattle.dms_history.specs.declared.event.Row.{Row}
use Rattle.dms_restore.specs.Tracing.{MatchesHow}
use Rattle.dms_opening.specs.Doing.{kind_asked}
use Rattle.dms_restore.proofs.Results.{one_ok}
use Rattle.dms_opening.proofs.preparing.begin_own.Goals as goal

pub returns : goal.returns
returns c = one_ok c.begin.result c.begin.ensures (λ begin files entries t.
    let kind = kind_asked c.args.asked c.args.rows.now in
    begin files entries kind (subst (λ (l : List Row). MatchesHow c.how_asked.result l (how_of kind)) (sym (c.in_ok-rows.ensures.items_if_clones_equal (λ x y same. same))) (c.how_asked.ensures c.args.rows.now)) t)
