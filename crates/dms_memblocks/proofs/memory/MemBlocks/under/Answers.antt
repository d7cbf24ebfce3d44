use Rattle.std.proofs.Common.{◌∙◌, ◌+◌, ap, refl}
use Rattle.std.specs.Prelude.{nat_lt, nat_le, ◌&&◌}
use Rattle.dms_memblocks.specs.Undoing.{after, content_of, rows, undo_all}
use Rattle.dms_memblocks.specs.UndoLaws.{empty_content, empty_small}
use Rattle.dms_memblocks.proofs.Rows.{length_rows}
use Rattle.dms_memblocks.proofs.memory.MemBlocks.under.Goals as goal

pub invariant_of-result-clause-small : goal.invariant_of-result-clause-small
invariant_of-result-clause-small c = empty_small (rows c.in_ok-files.files.items) c.in_ok-files.ensures.1

pub returns-clause-new : goal.returns-clause-new
returns-clause-new c = record {
  owns = λ f. ap (λ n. nat_lt 30000 f && nat_le f (30000 + n)) (length_rows c.in_ok-files.files.items ∙ c.in_ok-files.ensures.0);
  content = λ f. empty_content (rows c.in_ok-files.files.items) f c.in_ok-files.ensures.1;
  mark = λ f. ap (λ l. content_of (undo_all (after 0 l) (rows c.in_ok-files.files.items)) f) c.new.ensures.items ∙ empty_content (rows c.in_ok-files.files.items) f c.in_ok-files.ensures.1;
  next = refl;
  points = refl;
  durable = refl;
}
