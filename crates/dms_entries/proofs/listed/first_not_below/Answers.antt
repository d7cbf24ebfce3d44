use Rattle.std.proofs.Common.{◌∙◌, Some, ap, sym, arith}
use Rattle.std.proofs.lemmas.Result.{IfOk-weaker}
use Rattle.dms_block.specs.View.{overlay_content}
use Rattle.dms_block.specs.ViewLaws.{counts_seen}
use Rattle.dms_chain.specs.Lists.{first_from}
use Rattle.dms_lists.specs.FormLaws.{none_kept}
use Rattle.dms_lists.specs.Forms.{kept_in}
use Rattle.dms_entries.proofs.Looking.{first_listed}
use Rattle.dms_entries.proofs.listed.first_not_below.Goals as goal

pub returns-then-count-eq0-clause-found : goal.returns-then-count-eq0-clause-found
returns-then-count-eq0-clause-found g c long told xs is =
    let o = c.args.over.now in
    let counted = counts_seen o (g.met.B.Blocks.agrees o.below c.requires.sound) told c.args.file in
    sym (ap (first_from (Some c.args.from.now)) (none_kept c.args.form c.args.width (overlay_content o c.args.file) xs (sym counted ∙ sym c.count.ensures ∙ c.if-count-eq0.true) is))

pub returns-clause-listed : goal.returns-clause-listed
returns-clause-listed g c =
    IfOk-weaker c.first_from.result _ _ (λ o h told xs is. first_listed o c.args.from.now xs (h told xs (ap (λ w. kept_in c.args.form w (overlay_content c.args.over.now c.args.file)) c.if-from-width.false ∙ is))) c.first_from.ensures.first

pub returns-then-from-width-clause-few : goal.returns-then-from-width-clause-few
returns-then-from-width-clause-few g c tree told xs is digits low = omega arith

pub returns-then-count-eq0-clause-few : goal.returns-then-count-eq0-clause-few
returns-then-count-eq0-clause-few g c tree told xs is digits low = omega arith

pub returns-clause-few : goal.returns-clause-few
returns-clause-few g c tree told xs is = c.first_from.ensures.few tree told xs (ap (λ w. kept_in c.args.form w (overlay_content c.args.over.now c.args.file)) c.if-from-width.false ∙ is)
