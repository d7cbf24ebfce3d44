use Rattle.std.proofs.Common.{ℕ, ◌≡◌, ◌≤◌, ◌<◌, ◌+◌, ◌∙◌, ap, sym, subst, length, List, [], Bool, IsTrue, arith}
use Rattle.std.specs.Prelude.{nat_lt, nat_le, ◌&&◌}
use Rattle.std.proofs.lemmas.Bool.Decides.{nat_tests}
use Rattle.dms_block.specs.declared.change.Change.{Change}
use Rattle.dms_block.specs.Content.{FitsIn, with_change}
use Rattle.dms_memblocks.specs.Undoing.{rows}
use Rattle.dms_memblocks.specs.View.{held_view}
use Rattle.dms_memblocks.proofs.Rows.{length_rows}
use Rattle.dms_memblocks.proofs.tests.done.Goals as goal

mine : (f n : ℕ) → 30001 ≤ f → f ≤ 30000 + n → IsTrue (nat_lt 30000 f && nat_le f (30000 + n))
mine f n high low = grind (arith, nat_tests)

one : (f b : ℕ) (y : List ℕ) (xs all : List Change) (owns : ℕ → Bool) (counts : ℕ → ℕ) → all ≡ with_change f b y xs → xs ≡ [] → IsTrue (owns f) → b < 2097152 → b ≤ counts f → FitsIn all owns counts
one f b y xs all owns counts is none owned low le = subst (λ (l : List Change). FitsIn l owns counts) (sym (is ∙ ap (λ (l : List Change). with_change f b y l) none)) (owned, low, le, tt)

pub apply-requires-clause-fits : goal.apply-requires-clause-fits
apply-requires-clause-fits c =
    let h = held_view c.args.blocks.now in
    let many = length_rows c.args.blocks.now.files.items in
    one c.in-Write.file c.in-Write.block _ _ _ h.owns h.counts c.in_ok-set-in-Write.ensures.ok c.new-changes.ensures
    (mine c.in-Write.file (length (rows c.args.blocks.now.files.items)) (omega (arith, c.if-file-lt30001.false)) (omega (arith, c.if-file-many.false, c.if-file-lt30001.false, c.len-many.ensures, many)))
    (omega (arith, c.if-block-gt100.false)) (omega (arith, c.if-block-count.false, c.count.ensures))
