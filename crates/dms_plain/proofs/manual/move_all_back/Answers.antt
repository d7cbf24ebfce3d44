use Rattle.std.proofs.Common.{◌∙◌, ap, sym, List, [], ◌∷◌, length, length-append, arith}
use Rattle.dms_plain.specs.declared.manual.EntryMove.{EntryMove}
use Rattle.dms_plain.specs.Moves.{before_moves}
use Rattle.dms_plain.proofs.Rising.{moves_push}
use Rattle.dms_plain.proofs.manual.move_all_back.Goals as goal

pub loop-turn-preserved : goal.loop-turn-preserved
loop-turn-preserved c =
    let left = c.pop.new.self.items in
    record {
      rising = c.in_ok-move_back-in-Some.ensures.rising;
      same = ap (before_moves left) c.in_ok-move_back-in-Some.ensures.back
          ∙ sym (moves_push left c.in-Some.was c.loop-turn.kept.items)
          ∙ ap (λ (ms : List EntryMove). before_moves ms c.loop-turn.kept.items) (sym c.in-Some.ensures.items)
          ∙ c.loop-turn.invariant.same;
      count = omega (arith, ap length c.in-Some.ensures.items, length-append left (c.in-Some.was ∷ []), c.loop-turn.invariant.count);
    }
