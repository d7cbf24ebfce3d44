use Rattle.std.proofs.Common.{◌∙◌, Some, sym, ap, length}
use Rattle.dms_block.specs.View.{overlay_content, seen_counts}
use Rattle.dms_chain.specs.Lists.{last_to}
use Rattle.dms_ordlist.specs.Looks.{look_last, look_none_is}
use Rattle.dms_ordlist.proofs.finding.last_to.Goals as goal

pub returns-in-Some-clause-last : goal.returns-in-Some-clause-last
returns-in-Some-clause-last g c told xs is =
    let o = c.args.over.now in
    let w = length c.args.upto.now in
    c.in_ok-last_in-in-Some.ensures
    ∙ sym (look_last c.args.upto.now w (seen_counts o c.args.file) (overlay_content o c.args.file) xs c.in_ok-found.found c.in-Some.place c.in_ok-found.ensures.holds (c.in_ok-found.ensures.look told xs is) c.in-Some.is)

pub returns-clause-last : goal.returns-clause-last
returns-clause-last g c told xs is =
    let o = c.args.over.now in
    sym (ap (last_to (Some c.args.upto.now)) (look_none_is c.args.upto.now (length c.args.upto.now) (overlay_content o c.args.file) xs c.in_ok-found.found (c.in_ok-found.ensures.look told xs is) c.in-None.is))
