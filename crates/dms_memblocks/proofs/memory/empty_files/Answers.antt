use Rattle.std.proofs.Common.{◌≡◌, ◌∙◌, ◌++◌, ◌∷◌, List, [], ap, sym, subst, length, length-append, arith}
use Rattle.dms_block.specs.declared.block.Block.{Block}
use Rattle.dms_memblocks.specs.Undoing.{AreEmpty, rows}
use Rattle.dms_memblocks.specs.UndoLaws.{empty_push}
use Rattle.dms_memblocks.proofs.Rows.{rows_push}
use Rattle.dms_memblocks.proofs.memory.empty_files.Goals as goal

pub loop-preserved : goal.loop-preserved
loop-preserved c =
    let is : rows c.push.new.self.items ≡ rows c.loop.all.items ++ [] ∷ [] = ap rows c.in_ok-push.ensures.items ∙ rows_push c.loop.all.items c.new.result ∙ ap (λ (l : List Block). rows c.loop.all.items ++ l ∷ []) c.new.ensures.items in
    record {
      many = omega (arith, ap length c.in_ok-push.ensures.items, length-append c.loop.all.items (c.new.result ∷ []), c.loop.invariant.many);
      empty = subst AreEmpty (sym is) (empty_push (rows c.loop.all.items) c.loop.invariant.empty);
    }
