use Rattle.std.proofs.Common.{◌∙◌, ap, sym, subst, take, drop, length, length-take, arith}
use Rattle.dms_block.specs.Held.{MakesNoPoint, Stays, Uses}
use Rattle.dms_memblocks.specs.Undoing.{AreBefore, AreSince, AreSmall, content_of, held_of, rows, undo_all}
use Rattle.dms_memblocks.specs.UndoLaws.{out_before, out_content, out_passes, out_since, out_stays, undone_small}
use Rattle.dms_memblocks.specs.View.{held_view}
use Rattle.dms_memblocks.proofs.blocks.MemBlocksBlocks.back_out.Goals as goal

pub invariant_of-self-clause-small : goal.invariant_of-self-clause-small
invariant_of-self-clause-small c =
    let b = c.args.self.now in
    subst AreSmall (sym c.take_back_to.ensures.files) (undone_small (drop b.mark b.log.items) (rows b.files.items) b.small)

pub invariant_of-self-clause-before : goal.invariant_of-self-clause-before
invariant_of-self-clause-before c =
    let b = c.args.self.now in
    subst (λ l. AreBefore b.made (take b.mark l)) (sym c.take_back_to.ensures.log) (out_before b.made b.mark b.log.items b.before)

pub invariant_of-self-clause-since : goal.invariant_of-self-clause-since
invariant_of-self-clause-since c =
    let b = c.args.self.now in
    subst (λ l. AreSince b.made (drop b.mark l)) (sym c.take_back_to.ensures.log) (out_since b.made b.mark b.log.items)

pub invariant_of-self-clause-marked : goal.invariant_of-self-clause-marked
invariant_of-self-clause-marked c =
    let b = c.args.self.now in
    omega (arith, ap length c.take_back_to.ensures.log, length-take b.mark b.log.items, b.marked)

pub returns-clause-content : goal.returns-clause-content
returns-clause-content c = λ t.
    let b = c.args.self.now in
    ap content_of c.take_back_to.ensures.files ∙ out_content b.made b.mark (rows b.files.items) b.log.items b.before b.since

pub returns-clause-stays : goal.returns-clause-stays
returns-clause-stays c =
    let b = c.args.self.now in
    let uses : Uses = record { reads = b.reads; spent = b.spent; syncs = b.syncs; outs = c.saturating_add-self.result } in
    subst (λ fs. Stays (held_view b) (held_of b.schema fs c.take_back_to.new.log.items b.made b.durable uses)) (sym c.take_back_to.ensures.files)
    (subst (λ l. Stays (held_view b) (held_of b.schema (undo_all (drop b.mark b.log.items) (rows b.files.items)) l b.made b.durable uses)) (sym c.take_back_to.ensures.log)
    (out_stays b.schema (rows b.files.items) b.log.items b.made b.mark b.durable _ uses b.since))

pub returns-clause-passes : goal.returns-clause-passes
returns-clause-passes c =
    let b = c.args.self.now in
    let uses : Uses = record { reads = b.reads; spent = b.spent; syncs = b.syncs; outs = c.saturating_add-self.result } in
    subst (λ fs. MakesNoPoint (held_view b) (held_of b.schema fs c.take_back_to.new.log.items b.made b.durable uses)) (sym c.take_back_to.ensures.files)
    (subst (λ l. MakesNoPoint (held_view b) (held_of b.schema (undo_all (drop b.mark b.log.items) (rows b.files.items)) l b.made b.durable uses)) (sym c.take_back_to.ensures.log)
    (out_passes b.schema (rows b.files.items) b.log.items b.made b.mark b.durable _ uses b.since))
