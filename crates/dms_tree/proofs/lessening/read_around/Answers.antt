use Rattle.std.proofs.Common.{◌≡◌, ◌+◌, ◌≤◌, ◌<◌, ◌∙◌, ℕ, List, sym, ap, subst, length, slice_get, arith}
use Rattle.std.specs.declared.result.Result.TheVariants.{Ok, Err}
use Rattle.dms_block.specs.HeldLaws.{told_after}
use Rattle.dms_block.specs.View.{overlay_content, seen_counts, under}
use Rattle.dms_block.specs.ViewLaws.{reads_as, reads_more, reads_on}
use Rattle.dms_chain.specs.Linked.{said_by}
use Rattle.dms_chain.specs.ListBlocks.{leaf_in}
use Rattle.dms_chain.specs.Seen.{NotAt, look}
use Rattle.dms_chain.specs.SeenLaws.{causes_err, causes_since, counts_still, file_still, not_at_since}
use Rattle.dms_chain.specs.declared.spelling.LeafBlock.{LeafBlock}
use Rattle.dms_tree.specs.declared.lessening.Around.{Around}
use Rattle.dms_tree.specs.Around.{NoAround}
use Rattle.dms_tree.specs.Errs.{handed_on}
use Rattle.dms_tree.specs.Neighbours.{NoMates}
use Rattle.dms_tree.specs.UpMates.{mate_of}
use Rattle.dms_tree.proofs.lessening.read_around.Goals as goal

pub returns-in-Err-clause-reads : goal.returns-in-Err-clause-reads
returns-in-Err-clause-reads g c =
    let le : length c.args.path.now ≤ length c.args.path.now + 1 = omega arith in
    reads_more (length c.args.path.now + 1) le (handed_on _ Around (length c.args.path.now) c.args.over.now c.read_mates.new.over c.in-Err.fault c.in-Err.ensures.reads)

pub returns-in-Err-clause-causes : goal.returns-in-Err-clause-causes
returns-in-Err-clause-causes g c =
    let o = c.args.over.now in
    causes_err (Unit {0}) Around (NoMates c.args.width o c.args.file c.args.path.now) (NoAround c.args.width o c.args.file c.args.path.now c.args.step.now) c.in-Err.fault (under o) (under c.read_mates.new.over) (λ f k h. (h.0, h.1, λ told has. h.2 told has.mates)) c.in-Err.ensures.causes

pub mate_number-at-requires-clause-more : goal.mate_number-at-requires-clause-more
mate_number-at-requires-clause-more g c = omega (arith, c.requires.here.inner.more)

pub mate_number-at-requires-clause-some : goal.mate_number-at-requires-clause-some
mate_number-at-requires-clause-some g c = c.requires.here.inner.some

pub mate_number-at-requires-clause-fit : goal.mate_number-at-requires-clause-fit
mate_number-at-requires-clause-fit g c = c.requires.here.fit

pub read_leaf-requires-clause-sound : goal.read_leaf-requires-clause-sound
read_leaf-requires-clause-sound g c = c.in-Ok.ensures.reads.looks.stays.sound

pub read_leaf-requires-clause-named : goal.read_leaf-requires-clause-named
read_leaf-requires-clause-named g c = subst (λ n. c.args.step.now.number < n) (sym (ap (λ (k : ℕ → ℕ). k c.args.file) (counts_still c.in-Ok.ensures.reads))) c.requires.here.low

pub returns-in-Ok-read_leaf-clause-leaf : goal.returns-in-Ok-read_leaf-clause-leaf
returns-in-Ok-read_leaf-clause-leaf g c told =
    let reads = c.in-Ok.ensures.reads in
    let w = c.args.width in
    let bs = overlay_content c.args.over.now c.args.file in
    ap (λ k. said_by (leaf_in w) (slice_get bs k)) (sym c.mate_number-at.ensures) ∙ ap (λ (l : List (List ℕ)). said_by (leaf_in w) (slice_get l c.mate_number-at.result)) (sym (file_still c.args.file reads told)) ∙ c.in-Ok-read_leaf.ensures.leaf (told_after reads.looks.passes.lasts told)

pub returns-in-Ok-read_leaf-clause-near : goal.returns-in-Ok-read_leaf-clause-near
returns-in-Ok-read_leaf-clause-near g c = omega (arith, c.mate_number-at.ensures, c.in-Ok-read_leaf.ensures.there, ap (λ (k : ℕ → ℕ). k c.args.file) (counts_still c.in-Ok.ensures.reads))

pub returns-in-Err-read_leaf-clause-reads : goal.returns-in-Err-read_leaf-clause-reads
returns-in-Err-read_leaf-clause-reads g c =
    handed_on LeafBlock Around (length c.args.path.now + 1) c.args.over.now c.read_leaf.new.over c.in-Err-read_leaf.fault (reads_on {U = LeafBlock} (Err c.in-Err-read_leaf.fault) g.met.B.Blocks.same_then c.in-Ok.ensures.reads c.in-Err-read_leaf.ensures.reads)

pub returns-in-Err-read_leaf-clause-causes : goal.returns-in-Err-read_leaf-clause-causes
returns-in-Err-read_leaf-clause-causes g c =
    let a = c.args.over.now in
    let b = c.read_mates.new.over in
    let d = c.read_leaf.new.over in
    let file = c.args.file in
    let w = c.args.width in
    let at = c.mate_number-at.result in
    let reads = c.in-Ok.ensures.reads in
    causes_since {U = Unit {0}} (NotAt (leaf_in w) b file at) (NoAround w a file c.args.path.now c.args.step.now) (Err c.in-Err-read_leaf.fault) a b d
    (λ f k h. let was = not_at_since (leaf_in w) a b file at reads f k h in (was.0, was.1, λ told has. has.leaf (ap (λ n. said_by (leaf_in w) (look a file n)) (sym c.mate_number-at.ensures) ∙ was.2 told)))
    c.in-Ok.ensures.causes reads
    (causes_err LeafBlock (Unit {0}) (NotAt (leaf_in w) b file at) (NotAt (leaf_in w) b file at) c.in-Err-read_leaf.fault (under b) (under d) (λ f k h. h) c.in-Err-read_leaf.ensures.causes)
