use Rattle.std.proofs.Common.{◌∙◌, sym}
use Rattle.std.proofs.lemmas.Result.{IfOk-weaker}
use Rattle.dms_block.specs.Changing.{change_lacks, change_stands, fits_content, none_changed, was_below}
use Rattle.dms_block.specs.View.{under, overlay_changes}
use Rattle.dms_block.proofs.overlay.Overlay.read.Goals as goal

pub read-requires-clause-there : goal.read-requires-clause-there
read-requires-clause-there g c =
    was_below (overlay_changes c.args.self.now) (under c.args.self.now).owns (under c.args.self.now).counts c.args.id.file c.args.id.block c.args.self.now.fits (change_lacks _ _ _ (sym c.in-None.ensures)) c.requires.there

pub returns-in-Some-clause-block : goal.returns-in-Some-clause-block
returns-in-Some-clause-block g c tells =
    let is = (g.met.B.Blocks.agrees c.args.self.now.below c.requires.sound).counted tells in
    let fits = fits_content (overlay_changes c.args.self.now) _ _ (under c.args.self.now).content is c.args.self.now.fits in
    sym (change_stands c.args.id.file c.args.id.block _ (overlay_changes c.args.self.now) (under c.args.self.now).content fits c.args.self.now.changes.apart (sym c.in-Some.ensures))

pub returns-in-None-clause-block : goal.returns-in-None-clause-block
returns-in-None-clause-block g c =
    IfOk-weaker c.read.result _ _ (λ block below tells.
    let is = (g.met.B.Blocks.agrees c.args.self.now.below c.requires.sound).counted tells in
    let fits = fits_content (overlay_changes c.args.self.now) _ _ (under c.args.self.now).content is c.args.self.now.fits in
    below tells ∙ sym (none_changed (overlay_changes c.args.self.now) (under c.args.self.now).content c.args.id.file c.args.id.block fits (change_lacks _ _ _ (sym c.in-None.ensures)))) c.read.ensures.block
