use Rattle.std.proofs.Common.{◌+◌, ◌≤◌, ◌<◌, ◌∙◌, ℕ, List, inr, refl, sym, ap, subst, length, filter, ◌++◌, slice_get, arith}
use Rattle.std.specs.Option.{option_copied}
use Rattle.std.specs.declared.result.Result.TheVariants.{Ok, Err}
use Rattle.dms_block.specs.HeldLaws.{told_after}
use Rattle.dms_block.specs.View.{seen_counts, under}
use Rattle.dms_block.specs.ViewLaws.{reads_as, reads_more, reads_on}
use Rattle.dms_chain.specs.declared.spelling.LeafBlock.{LeafBlock}
use Rattle.dms_ordlist.specs.declared.walking.Gathered.{Gathered}
use Rattle.dms_chain.specs.Linked.{said_by}
use Rattle.dms_chain.specs.ListBlocks.{leaf_in}
use Rattle.dms_chain.specs.Seen.{NoChain, NotAt, look}
use Rattle.dms_chain.specs.SeenLaws.{causes_err, causes_since, counts_still, file_still, not_at_since}
use Rattle.dms_chain.specs.SpellLaws.{few_enough}
use Rattle.dms_ordlist.specs.Walks.{has_tail, memory_not_full, passed_all, passed_long, passed_on, passed_there, reads_err}
use Rattle.dms_ordlist.proofs.walking.walk.Goals as goal

pub returns-in-Err-clause-reads : goal.returns-in-Err-clause-reads
returns-in-Err-clause-reads g c =
    let low : c.loop-turn._turn + 1 ≤ seen_counts c.args.over.now c.args.file = omega (arith, c.loop-turn-test.true, c.count-count.ensures) in
    reads_more (seen_counts c.args.over.now c.args.file) low (reads_on {U = Gathered} (Err c.in-Err.fault) g.met.B.Blocks.same_then c.loop-turn.invariant.reads (reads_err c.in-Err.fault c.in-Err.ensures.reads))

pub returns-in-Err-clause-causes : goal.returns-in-Err-clause-causes
returns-in-Err-clause-causes g c =
    let a = c.args.over.now in
    let b = c.loop-turn.over in
    let d = c.read_leaf.new.over in
    let before = c.loop-turn.invariant in
    let file = c.args.file in
    let at = c.loop-turn.at in
    let w = c.args.width in
    causes_since {U = Gathered} (NotAt (leaf_in w) b file at) (NoChain w a file c.args.first) (Err c.in-Err.fault) a b d
    (λ f n h.
    let was = not_at_since (leaf_in w) a b file at before.reads f n h in (
      was.0,
      was.1,
      λ told ls chain head le.
          passed_there (option_copied c.args.tail) w (look a file) ls c.loop-turn._turn at c.loop-turn.total c.loop-turn.ending.items (before.passed told ls chain head) before.some (was.2 told),
    ))
    before.faults before.reads
    (causes_err LeafBlock Gathered (NotAt (leaf_in w) b file at) (NotAt (leaf_in w) b file at) c.in-Err.fault (under b) (under d) (λ f n h. h) c.in-Err.ensures.causes)

pub returns-in_err-gather-clause-reads : goal.returns-in_err-gather-clause-reads
returns-in_err-gather-clause-reads g c =
    let low : c.loop-turn._turn + 1 ≤ seen_counts c.args.over.now c.args.file = omega (arith, c.loop-turn-test.true, c.count-count.ensures) in
    reads_more (seen_counts c.args.over.now c.args.file) low
    (reads_as c.from_residual.result (memory_not_full c.from_residual.result c.from_residual.ensures.1) (reads_on {U = LeafBlock} (Ok c.in-Ok.leaf) g.met.B.Blocks.same_then c.loop-turn.invariant.reads c.in-Ok.ensures.reads))

pub returns-then-leaf-eq0-clause-gathered : goal.returns-then-leaf-eq0-clause-gathered
returns-then-leaf-eq0-clause-gathered g c told ls chain head =
    let a = c.args.over.now in
    let before = c.loop-turn.invariant in
    let w = c.args.width in
    let leaf = c.in-Ok.leaf in
    let tail = option_copied c.args.tail in
    let still = file_still c.args.file before.reads told in
    let said = ap (λ (l : List (List ℕ)). said_by (leaf_in w) (slice_get l c.loop-turn.at)) (sym still) ∙ c.in-Ok.ensures.leaf (told_after before.reads.looks.passes.lasts told) in
    let out = c.in_ok-gather.ensures ∙ ap (λ (l : List (List ℕ)). c.loop-turn.ending.items ++ filter (has_tail tail) l) c.deref.ensures.value in
    let p = passed_on tail w (look a c.args.file) ls c.loop-turn._turn c.loop-turn.at c.loop-turn.total c.loop-turn.ending.items (before.passed told ls chain head) before.some leaf.next leaf.entries.items said
    (c.loop-turn.total + c.len.result) c.gather.new.ending.items (omega (arith, c.len.ensures)) out in
    passed_all tail w (look a c.args.file) ls (c.loop-turn._turn + 1) leaf.next (record { count = c.loop-turn.total + c.len.result; ending = c.gather.new.ending }) p c.if-leaf-eq0.true

pub returns-then-leaf-eq0-clause-reads : goal.returns-then-leaf-eq0-clause-reads
returns-then-leaf-eq0-clause-reads g c =
    let low : c.loop-turn._turn + 1 ≤ seen_counts c.args.over.now c.args.file = omega (arith, c.loop-turn-test.true, c.count-count.ensures) in
    reads_more (seen_counts c.args.over.now c.args.file) low
    (reads_as (Ok (record { count = c.loop-turn.total + c.len.result; ending = c.gather.new.ending })) tt (reads_on {U = LeafBlock} (Ok c.in-Ok.leaf) g.met.B.Blocks.same_then c.loop-turn.invariant.reads c.in-Ok.ensures.reads))

pub loop-turn-preserved : goal.loop-turn-preserved
loop-turn-preserved g c =
    let a = c.args.over.now in
    let before = c.loop-turn.invariant in
    let w = c.args.width in
    let leaf = c.in-Ok.leaf in
    let tail = option_copied c.args.tail in
    let few : length leaf.entries.items ≤ 1017 = few_enough w (length leaf.entries.items) c.requires.width.low c.in-Ok.ensures.holds.holds.room in
    record {
      reads = reads_as (Ok tt) tt (reads_on {U = LeafBlock} (Ok leaf) g.met.B.Blocks.same_then before.reads c.in-Ok.ensures.reads);
      faults = c.in-Ok.ensures.causes ∙ before.faults;
      some = omega (arith, c.if-leaf-eq0.false);
      before = subst (λ m. c.loop-turn.at < m) (ap (λ (k : ℕ → ℕ). k c.args.file) (counts_still before.reads)) c.in-Ok.ensures.there;
      few = omega (arith, before.few, few, c.len.ensures);
      passed = λ told ls chain head.
          let still = file_still c.args.file before.reads told in
          let said = ap (λ (l : List (List ℕ)). said_by (leaf_in w) (slice_get l c.loop-turn.at)) (sym still) ∙ c.in-Ok.ensures.leaf (told_after before.reads.looks.passes.lasts told) in
          let out = c.in_ok-gather.ensures ∙ ap (λ (l : List (List ℕ)). c.loop-turn.ending.items ++ filter (has_tail tail) l) c.deref.ensures.value in
          passed_on tail w (look a c.args.file) ls c.loop-turn._turn c.loop-turn.at c.loop-turn.total c.loop-turn.ending.items (before.passed told ls chain head) before.some leaf.next leaf.entries.items said
          (c.loop-turn.total + c.len.result) c.gather.new.ending.items (omega (arith, c.len.ensures)) out;
    }

pub returns-clause-causes : goal.returns-clause-causes
returns-clause-causes g c =
    let a = c.args.over.now in
    let w = c.args.width in
    let before = c.loop-turn.invariant in
    inr (
      before.faults,
      (
        refl,
        before.before,
        λ told ls chain head le.
            omega (arith, le, passed_long (option_copied c.args.tail) w (look a c.args.file) ls c.loop-turn._turn c.loop-turn.at c.loop-turn.total c.loop-turn.ending.items (before.passed told ls chain head) before.some, c.loop-turn-test.false, c.count-count.ensures),
      ),
    )
