use Rattle.std.proofs.Common.{◌∙◌, ap, List}
use Rattle.std.proofs.lemmas.Result.{on_ok_weaker}
use Rattle.dms_block.specs.declared.change.Change.{Change}
use Rattle.dms_block.specs.Content.{apply_changes, counts_after}
use Rattle.dms_block.specs.Changing.{fits_after, fits_content, length_after, with_changed, with_grown}
use Rattle.dms_block.specs.View.{under, overlay_changes}
use Rattle.dms_block.proofs.overlay.Overlay.write.Goals as goal

pub invariant_of-self : goal.invariant_of-self
invariant_of-self g c = record {
  fits = fits_after c.set.result c.args.id.file c.args.id.block c.args.block.now.0 (overlay_changes c.args.self.now) _ _ _ c.set.ensures.ok c.set.ensures.err c.args.self.now.fits c.requires.owned c.requires.low c.requires.next;
}

pub returns-clause-seen : goal.returns-clause-seen
returns-clause-seen g c = on_ok_weaker c.set.result (λ is tells sound.
    let counted = (g.met.B.Blocks.agrees c.args.self.now.below sound).counted tells in
    let fits = fits_content (overlay_changes c.args.self.now) _ _ (under c.args.self.now).content counted c.args.self.now.fits in
    ap (λ (l : List Change). apply_changes l (under c.args.self.now).content) is
    ∙ with_changed c.args.id.file c.args.id.block c.args.block.now.0 (overlay_changes c.args.self.now) (under c.args.self.now).content fits c.args.self.now.changes.apart) c.set.ensures.ok

pub returns-clause-counts : goal.returns-clause-counts
returns-clause-counts g c = on_ok_weaker c.set.result (λ is.
    ap (λ (l : List Change). counts_after l (under c.args.self.now).counts) is ∙ with_grown c.args.id.file c.args.id.block c.args.block.now.0 (overlay_changes c.args.self.now) (under c.args.self.now).counts) c.set.ensures.ok

pub returns-clause-more : goal.returns-clause-more
returns-clause-more g c = length_after c.set.result c.args.id.file c.args.id.block c.args.block.now.0 (overlay_changes c.args.self.now) _ c.set.ensures.ok c.set.ensures.err
