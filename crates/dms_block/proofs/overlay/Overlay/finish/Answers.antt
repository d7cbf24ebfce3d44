use Rattle.std.proofs.Common.{◌≡◌, ◌∙◌, ap, subst, List}
use Rattle.std.proofs.lemmas.Result.{on_ok_weaker}
use Rattle.dms_block.specs.declared.change.Change.{Change}
use Rattle.dms_block.specs.Content.{Content, apply_changes}
use Rattle.dms_block.specs.Changing.{differing_changed, fits_content}
use Rattle.dms_block.specs.Faults.{IfFull}
use Rattle.dms_block.specs.Held.{AuditPace}
use Rattle.dms_block.specs.HeldLaws.{told_after}
use Rattle.dms_block.specs.View.{under, overlay_changes}
use Rattle.dms_block.proofs.overlay.Overlay.finish.Goals as goal

pub returns-clause-content : goal.returns-clause-content
returns-clause-content g c = on_ok_weaker c.apply.result (λ is tells.
    let looks = c.in_ok-kept.ensures.looks in
    let counted = (g.met.B.Blocks.agrees c.args.self.now.below c.requires.sound).counted tells in
    let fits = fits_content (overlay_changes c.args.self.now) _ _ (under c.args.self.now).content counted c.args.self.now.fits in
    is (told_after looks.passes.lasts tells)
    ∙ ap (λ (l : Content). apply_changes c.in_ok-kept.field-0.items.items l) (looks.same.content tells)
    ∙ ap (λ (l : List Change). apply_changes l (under c.args.self.now).content) (c.in_ok-kept.ensures.kept tells)
    ∙ differing_changed (overlay_changes c.args.self.now) (under c.args.self.now).content fits c.args.self.now.changes.apart) c.apply.ensures.content

pub returns-clause-full : goal.returns-clause-full
returns-clause-full g c = subst (λ (p : AuditPace). IfFull c.apply.result (λ f. f ≡ p.last)) (g.met.B.Blocks.same_pace c.args.self.now.below c.sift-kept.new.below c.sift-kept.ensures.same) c.apply.ensures.full
