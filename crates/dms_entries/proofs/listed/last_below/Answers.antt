use Rattle.std.proofs.Common.{◌∙◌, Some, ap, sym}
use Rattle.std.proofs.lemmas.Result.{IfOk-weaker}
use Rattle.dms_block.specs.View.{overlay_content}
use Rattle.dms_block.specs.ViewLaws.{counts_seen}
use Rattle.dms_chain.specs.Lists.{last_to}
use Rattle.dms_lists.specs.FormLaws.{none_kept}
use Rattle.dms_lists.specs.Forms.{kept_in}
use Rattle.dms_entries.proofs.Looking.{last_listed}
use Rattle.dms_entries.proofs.listed.last_below.Goals as goal

pub returns-then-count-eq0-clause-found : goal.returns-then-count-eq0-clause-found
returns-then-count-eq0-clause-found g c long told xs is =
    let o = c.args.over.now in
    let counted = counts_seen o (g.met.B.Blocks.agrees o.below c.requires.sound) told c.args.file in
    sym (ap (last_to (Some c.args.to.now)) (none_kept c.args.form c.args.width (overlay_content o c.args.file) xs (sym counted ∙ sym c.count.ensures ∙ c.if-count-eq0.true) is))

pub returns-clause-listed : goal.returns-clause-listed
returns-clause-listed g c =
    IfOk-weaker c.last_to.result _ _ (λ o h told xs is. last_listed o c.args.to.now xs (h told xs (ap (λ w. kept_in c.args.form w (overlay_content c.args.over.now c.args.file)) c.if-to-width.false ∙ is))) c.last_to.ensures.last
