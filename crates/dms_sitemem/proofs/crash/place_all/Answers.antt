use Rattle.std.proofs.Common.{◌∙◌}
use Rattle.dms_sitemem.proofs.Placed.{placed_next, placed_all}
use Rattle.dms_sitemem.proofs.crash.place_all.Goals as goal

pub loop-file-preserved : goal.loop-file-preserved
loop-file-preserved c =
    let was = c.loop-file.invariant in
    record {
      placed = placed_next _ _ _ c.loop-file.left c.take_first.new.files c.in-Some.file c.in-Some.bytes _ c.deref.ensures.value was.placed c.in-Some.ensures.found c.in-Some.ensures.gone c.in_ok-replace.ensures.replaced;
      said = c.replace.ensures.said ∙ was.said;
      made = c.replace.ensures.made ∙ was.made;
      plan = c.replace.ensures.plan ∙ was.plan;
    }

pub returns-clause-files : goal.returns-clause-files
returns-clause-files c = placed_all _ _ c.loop-file.left c.loop-file.invariant.placed c.in_default.ensures.none
