use Rattle.std.proofs.Common.{◌≡◌, ◌≤◌, ◌<◌, ◌+◌, ℕ, List, Some, None, refl, sym, ap, subst, length, slice_get, arith}
use Rattle.std.specs.declared.option.Option.{Option}
use Rattle.std.specs.declared.result.Result.TheVariants.{Err}
use Rattle.dms_block.specs.HeldLaws.{told_after}
use Rattle.dms_block.specs.View.{overlay_content, seen_counts, under}
use Rattle.dms_block.specs.ViewLaws.{counts_seen}
use Rattle.dms_chain.specs.Seen.{NotAt}
use Rattle.dms_chain.specs.SeenLaws.{causes_err, causes_since, counts_still, file_still}
use Rattle.dms_tree.specs.declared.looking.TreeLook.{TreeLook}
use Rattle.dms_tree.specs.declared.node.TreeHead.{TreeHead}
use Rattle.dms_tree.specs.declared.tracing.Trail.{Trail}
use Rattle.dms_tree.specs.Looks.{NoTree, no_root}
use Rattle.dms_tree.specs.TreeBlocks.{root_in}
use Rattle.dms_tree.specs.TreeIn.{tree_in}
use Rattle.dms_tree.specs.TreeLooks.{bare_none, bare_rootless, looked_at, near_none}
use Rattle.dms_tree.specs.Trails.{NoTreeNear}
use Rattle.dms_tree.specs.Ways.{TreeFrom}
use Rattle.dms_tree.proofs.looking.look.Goals as goal

pub returns-then-count-eq0-clause-look : goal.returns-then-count-eq0-clause-look
returns-then-count-eq0-clause-look g c told xs is =
    let o = c.args.over.now in
    let n = counts_seen o (g.met.B.Blocks.agrees o.below c.requires.sound) told c.args.file in
    bare_none c.args.bytes.now (overlay_content o c.args.file) xs (record { head = record { root = 0; free = 0 }; trail = None }) (omega (arith, n, c.count.ensures, c.if-count-eq0.true)) is refl refl

pub returns-in-Err-clause-causes : goal.returns-in-Err-clause-causes
returns-in-Err-clause-causes g c =
    let o = c.args.over.now in
    let w = length c.args.bytes.now in
    causes_err TreeHead TreeLook (NotAt root_in o c.args.file 0) (NoTree o c.args.file w) c.in-Err.fault (under o) (under c.read_root.new.over)
    (λ f k h. (
      h.0,
      h.1,
      λ told.
          let n = counts_seen o (g.met.B.Blocks.agrees o.below c.requires.sound) told c.args.file in
          no_root w (overlay_content o c.args.file) (λ e. absurd (omega (arith, e, n, c.count.ensures, c.if-count-eq0.false))) (h.2 told),
    ))
    c.in-Err.ensures.causes

pub returns-then-head-eq0-clause-look : goal.returns-then-head-eq0-clause-look
returns-then-head-eq0-clause-look g c told xs is =
    let o = c.args.over.now in
    let n = counts_seen o (g.met.B.Blocks.agrees o.below c.requires.sound) told c.args.file in
    bare_rootless c.args.bytes.now (overlay_content o c.args.file) xs (record { head = c.in-Ok.head; trail = None }) (λ e. absurd (omega (arith, e, n, c.count.ensures, c.if-count-eq0.false))) is (c.in-Ok.ensures.head told) c.if-head-eq0.true refl

pub returns-in-Ok-trace-clause-look : goal.returns-in-Ok-trace-clause-look
returns-in-Ok-trace-clause-look g c told xs is =
    let o = c.args.over.now in
    let w = length c.args.bytes.now in
    let n = counts_seen o (g.met.B.Blocks.agrees o.below c.requires.sound) told c.args.file in
    let t = c.in-Ok-trace.trail in
    looked_at c.args.bytes.now (overlay_content o c.args.file) xs (record { head = c.in-Ok.head; trail = Some t }) t (λ e. absurd (omega (arith, e, n, c.count.ensures, c.if-count-eq0.false))) is (c.in-Ok.ensures.head told) (λ e. absurd (omega (arith, e, c.if-head-eq0.false))) refl
    (λ us ls tree. c.in-Ok-trace.ensures.trail (told_after c.in-Ok.ensures.reads.looks.passes.lasts told) us ls (subst (λ (l : List (List ℕ)). TreeFrom w (slice_get l) c.in-Ok.head.root us ls) (sym (file_still c.args.file c.in-Ok.ensures.reads told)) tree))

pub returns-in-Err-trace-clause-causes : goal.returns-in-Err-trace-clause-causes
returns-in-Err-trace-clause-causes g c =
    let a = c.args.over.now in
    let b = c.read_root.new.over in
    let d = c.trace.new.over in
    let w = length c.args.bytes.now in
    let file = c.args.file in
    let reads = c.in-Ok.ensures.reads in
    causes_since {U = TreeLook} (NoTreeNear w b file c.in-Ok.head.root) (NoTree a file w) (Err c.in-Err-trace.fault) a b d
    (λ f k h. (
      h.0,
      subst (λ m. k < m) (ap (λ (z : ℕ → ℕ). z file) (counts_still reads)) h.1,
      λ told.
          let n = counts_seen a (g.met.B.Blocks.agrees a.below c.requires.sound) told file in
          let still = ap (λ (z : ℕ → ℕ). z file) (counts_still reads) in
          near_none w (overlay_content a file) c.in-Ok.head.root c.in-Ok.head.free c.requires.width.most (omega (arith, n, c.requires.room)) (λ e. absurd (omega (arith, e, n, c.count.ensures, c.if-count-eq0.false))) (c.in-Ok.ensures.head told) (λ e. absurd (omega (arith, e, c.if-head-eq0.false)))
          (λ us ls tree low short. h.2 (told_after reads.looks.passes.lasts told) us ls (subst (λ (l : List (List ℕ)). TreeFrom w (slice_get l) c.in-Ok.head.root us ls) (sym (file_still file reads told)) tree) low (omega (arith, short, n, still))),
    ))
    c.in-Ok.ensures.causes reads
    (causes_err Trail TreeLook (NoTreeNear w b file c.in-Ok.head.root) (NoTreeNear w b file c.in-Ok.head.root) c.in-Err-trace.fault (under b) (under d) (λ f k h. h) c.in-Err-trace.ensures.causes)
