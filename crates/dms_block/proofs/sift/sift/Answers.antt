use Rattle.std.proofs.Common.{◌∙◌, arith, ap, length, List}
use Rattle.std.specs.declared.result.Result.TheVariants.{Ok, Err}
use Rattle.dms_block.specs.HeldLaws.{looks_err, looks_more, looks_on, told_after}
use Rattle.dms_block.specs.declared.change.Change.{Change}
use Rattle.dms_block.proofs.Sifting.{sift_on, takes_up_on}
use Rattle.dms_block.specs.Changing.{no_change_of}
use Rattle.dms_block.specs.Held.{Held}
use Rattle.dms_block.proofs.sift.sift.Goals as goal

pub returns-in-Err-clause-looks : goal.returns-in-Err-clause-looks
returns-in-Err-clause-looks g c =
    looks_more _ (omega (arith, c.loop-change-test.true, ap (λ (l : List Change). length l) c.deref-change-items.ensures.value)) (looks_on (Err c.in-Err.fault) c.loop-change.invariant.looks (looks_err {T = Unit {0}} c.in-Err.fault c.in-Err.ensures.looks))

pub loop-change-preserved : goal.loop-change-preserved
loop-change-preserved g c =
    let a : Held = g.B.Blocks.held c.args.below.now in
    let b : Held = g.B.Blocks.held c.loop-change.below in
    let before = c.loop-change.invariant in
    let taken = takes_up_on a.told b.told a.content b.content a.counts b.counts _ _ _ (told_after before.looks.passes.lasts) before.looks.same.content before.looks.counts c.in_default.ensures.taken in
    record {
      looks = looks_on (Ok tt) before.looks c.in_default.ensures.looks;
      faults = c.in_default.ensures.causes ∙ before.faults;
      same = g.met.B.Blocks.same_then c.args.below.now c.loop-change.below c.take_up.new.below before.same c.take_up.ensures.same;
      sifted = sift_on a.told a.content a.owns a.counts c.args.changes.now.items.items c.deref-change-items.result.now c.loop-change.kept.items.items c.take_up.new.kept.items.items c.loop-change.change-index no_change_of
          c.deref-change-items.ensures.value c.loop-change-test.true c.requires.fits c.args.changes.now.apart before.sifted taken;
    }
