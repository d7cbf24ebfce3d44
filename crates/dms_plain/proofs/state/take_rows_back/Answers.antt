use Rattle.std.proofs.Common.{◌∙◌, ap, sym, List, [], ◌∷◌, length, length-append, arith}
use Rattle.dms_plain.specs.declared.rows.Undo.{Undo}
use Rattle.dms_plain.specs.Rows.{records_in, undo_all}
use Rattle.dms_plain.proofs.Maps.{undone-push}
use Rattle.dms_plain.proofs.state.take_rows_back.Goals as goal

pub loop-turn-preserved : goal.loop-turn-preserved
loop-turn-preserved c =
    let left = c.pop.new.self.items in
    record {
      in_order = c.in_ok-restore_row-in-Some.ensures.in_order;
      listed = c.in_ok-restore_row-in-Some.ensures.listed;
      same = ap (undo_all left) c.in_ok-restore_row-in-Some.ensures.db
          ∙ sym (undone-push left c.in-Some.u (records_in c.loop-turn.rows.items))
          ∙ ap (λ (us : List Undo). undo_all us (records_in c.loop-turn.rows.items)) (sym c.in-Some.ensures.items)
          ∙ c.loop-turn.invariant.same;
      count = omega (arith, ap length c.in-Some.ensures.items, length-append left (c.in-Some.u ∷ []), c.loop-turn.invariant.count);
    }
