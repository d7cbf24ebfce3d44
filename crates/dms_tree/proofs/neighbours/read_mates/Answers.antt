use Rattle.std.proofs.Common.{◌≡◌, ◌+◌, ◌≤◌, ◌<◌, ◌∙◌, ℕ, List, ◌++◌, ◌∷◌, [], refl, sym, ap, subst, length, slice_get, take, arith}
use Rattle.std.specs.declared.result.Result.TheVariants.{Ok, Err}
use Rattle.dms_block.specs.HeldLaws.{told_after}
use Rattle.dms_block.specs.View.{overlay_content, seen_counts, under}
use Rattle.dms_block.specs.ViewLaws.{reads_as, reads_more, reads_on}
use Rattle.dms_chain.specs.Seen.{look}
use Rattle.dms_chain.specs.SeenLaws.{causes_err, causes_since, counts_still, file_still}
use Rattle.dms_tree.specs.declared.node.InnerBlock.{InnerBlock}
use Rattle.dms_tree.specs.declared.raising.PathStep.{PathStep}
use Rattle.dms_tree.specs.Errs.{by_memory, handed_on}
use Rattle.dms_tree.specs.Needs.{passed_at}
use Rattle.dms_tree.specs.Neighbours.{NoInnerAt, NoMates, take_all, take_next}
use Rattle.dms_tree.specs.TreeBlocks.{inner_in}
use Rattle.dms_tree.specs.TreeIn.{says}
use Rattle.dms_tree.specs.UpMates.{HaveMates, MatesHold, SayMates, hold_more, mate_at, mate_of, say_more}
use Rattle.dms_tree.proofs.neighbours.read_mates.Goals as goal

pub mate_number-at-requires-clause-more : goal.mate_number-at-requires-clause-more
mate_number-at-requires-clause-more g c =
    omega (arith, (passed_at c.args.width (seen_counts c.args.over.now c.args.file) c.args.path.now c.loop-step.step-index c.step-item.result c.loop-step-test.true c.step-item.is c.requires.passed).inner.more)

pub mate_number-at-requires-clause-some : goal.mate_number-at-requires-clause-some
mate_number-at-requires-clause-some g c =
    (passed_at c.args.width (seen_counts c.args.over.now c.args.file) c.args.path.now c.loop-step.step-index c.step-item.result c.loop-step-test.true c.step-item.is c.requires.passed).inner.some

pub mate_number-at-requires-clause-fit : goal.mate_number-at-requires-clause-fit
mate_number-at-requires-clause-fit g c =
    (passed_at c.args.width (seen_counts c.args.over.now c.args.file) c.args.path.now c.loop-step.step-index c.step-item.result c.loop-step-test.true c.step-item.is c.requires.passed).fit

pub read_inner-requires-clause-sound : goal.read_inner-requires-clause-sound
read_inner-requires-clause-sound g c = c.loop-step.invariant.reads.looks.stays.sound

pub read_inner-requires-clause-named : goal.read_inner-requires-clause-named
read_inner-requires-clause-named g c =
    let low = (passed_at c.args.width (seen_counts c.args.over.now c.args.file) c.args.path.now c.loop-step.step-index c.step-item.result c.loop-step-test.true c.step-item.is c.requires.passed).low in
    subst (λ n. c.step-item.result.number < n) (sym (ap (λ (k : ℕ → ℕ). k c.args.file) (counts_still c.loop-step.invariant.reads))) low

pub returns-in_err-push-in-Ok-clause-reads : goal.returns-in_err-push-in-Ok-clause-reads
returns-in_err-push-in-Ok-clause-reads g c =
    let le : c.loop-step.step-index + 1 ≤ length c.args.path.now = omega (arith, c.loop-step-test.true) in
    reads_more (length c.args.path.now) le (reads_as c.from_residual.result (by_memory c.from_residual.result c.from_residual.ensures.1) (reads_on (Ok c.in-Ok.mate) g.met.B.Blocks.same_then c.loop-step.invariant.reads c.in-Ok.ensures.reads))

pub returns-in-Err-clause-reads : goal.returns-in-Err-clause-reads
returns-in-Err-clause-reads g c =
    let i = c.loop-step.step-index in
    let le : i + 1 ≤ length c.args.path.now = omega (arith, c.loop-step-test.true) in
    reads_more (length c.args.path.now) le (handed_on InnerBlock _ (i + 1) c.args.over.now c.read_inner.new.over c.in-Err.fault (reads_on {U = InnerBlock} (Err c.in-Err.fault) g.met.B.Blocks.same_then c.loop-step.invariant.reads c.in-Err.ensures.reads))

pub returns-in-Err-clause-causes : goal.returns-in-Err-clause-causes
returns-in-Err-clause-causes g c =
    let a = c.args.over.now in
    let b = c.loop-step.over in
    let d = c.read_inner.new.over in
    let before = c.loop-step.invariant in
    let file = c.args.file in
    let w = c.args.width in
    let p = c.step-item.result in
    let at = c.mate_number-at.result in
    causes_since {U = Unit {0}} (NoInnerAt w b file at) (NoMates w a file c.args.path.now) (Err c.in-Err.fault) a b d
    (λ f n h. (
      h.0,
      subst (λ m. n < m) (ap (λ (k : ℕ → ℕ). k file) (counts_still before.reads)) h.1,
      λ told have. mate_at w (look a file) c.args.path.now c.loop-step.step-index p c.loop-step-test.true c.step-item.is have
          (ap (λ k. says (inner_in w) (look a file k)) (sym c.mate_number-at.ensures) ∙ ap (λ (l : List (List ℕ)). says (inner_in w) (slice_get l at)) (sym (file_still file before.reads told)) ∙ h.2 (told_after before.reads.looks.passes.lasts told)),
    ))
    before.faults before.reads
    (causes_err InnerBlock (Unit {0}) (NoInnerAt w b file at) (NoInnerAt w b file at) c.in-Err.fault (under b) (under d) (λ f n h. h) c.in-Err.ensures.causes)

pub loop-step-preserved : goal.loop-step-preserved
loop-step-preserved g c =
    let before = c.loop-step.invariant in
    let file = c.args.file in
    let a = c.args.over.now in
    let w = c.args.width in
    let n = seen_counts a file in
    let bs = overlay_content a file in
    let path = c.args.path.now in
    let i = c.loop-step.step-index in
    let p = c.step-item.result in
    let m = c.in-Ok.mate in
    let ms = c.loop-step.mates.items in
    let items = c.in_ok-push-in-Ok.ensures.items in
    let next = take_next path i p c.loop-step-test.true c.step-item.is in
    let passed = passed_at w n path i p c.loop-step-test.true c.step-item.is c.requires.passed in
    let near : mate_of p < n = omega (arith, c.mate_number-at.ensures, c.in-Ok.ensures.there, ap (λ (k : ℕ → ℕ). k file) (counts_still before.reads)) in
    record {
      reads = reads_as (Ok tt) tt (reads_on (Ok m) g.met.B.Blocks.same_then before.reads c.in-Ok.ensures.reads);
      faults = c.in-Ok.ensures.causes ∙ before.faults;
      mates = λ told.
          let said = ap (λ k. says (inner_in w) (slice_get bs k)) (sym c.mate_number-at.ensures) ∙ ap (λ (l : List (List ℕ)). says (inner_in w) (slice_get l c.mate_number-at.result)) (sym (file_still file before.reads told)) ∙ c.in-Ok.ensures.inner (told_after before.reads.looks.passes.lasts told) in
          subst (λ (t : List PathStep × List InnerBlock). SayMates bs w t.0 t.1) (λ j. (sym next j, sym items j)) (say_more bs w (take i path) ms p m (before.mates told) said);
      holds = subst (λ (t : List PathStep × List InnerBlock). MatesHold w n t.0 t.1) (λ j. (sym next j, sym items j)) (hold_more w n (take i path) ms p m before.holds passed near c.in-Ok.ensures.holds);
    }

pub returns-clause-mates : goal.returns-clause-mates
returns-clause-mates g c told =
    let a = c.args.over.now in
    let bs = overlay_content a c.args.file in
    subst (λ (l : List PathStep). SayMates bs c.args.width l c.loop-step.mates.items) (take_all c.args.path.now c.loop-step.step-index (omega (arith, c.loop-step-test.false))) (c.loop-step.invariant.mates told)

pub returns-clause-holds : goal.returns-clause-holds
returns-clause-holds g c =
    subst (λ (l : List PathStep). MatesHold c.args.width (seen_counts c.args.over.now c.args.file) l c.loop-step.mates.items) (take_all c.args.path.now c.loop-step.step-index (omega (arith, c.loop-step-test.false))) c.loop-step.invariant.holds
