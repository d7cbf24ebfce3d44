use Rattle.std.proofs.Common.{◌∙◌, Some, sym, ap, length}
use Rattle.dms_block.specs.View.{overlay_content}
use Rattle.dms_chain.specs.Lists.{first_from}
use Rattle.dms_ordlist.specs.Looks.{look_first, look_none_is}
use Rattle.dms_ordlist.proofs.finding.first_from.Goals as goal

pub returns-in-Some-clause-first : goal.returns-in-Some-clause-first
returns-in-Some-clause-first g c told xs is =
    let o = c.args.over.now in
    c.in_ok-first_in-in-Some.ensures ∙ sym (look_first c.args.from.now (length c.args.from.now) (overlay_content o c.args.file) xs c.in_ok-found.found c.in-Some.place (c.in_ok-found.ensures.look told xs is) c.in-Some.is)

pub returns-clause-first : goal.returns-clause-first
returns-clause-first g c told xs is =
    let o = c.args.over.now in
    sym (ap (first_from (Some c.args.from.now)) (look_none_is c.args.from.now (length c.args.from.now) (overlay_content o c.args.file) xs c.in_ok-found.found (c.in_ok-found.ensures.look told xs is) c.in-None.is))
