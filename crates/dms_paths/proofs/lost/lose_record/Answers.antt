use Rattle.std.proofs.Common.{get_or, arith, ap, ◌∙◌}
use Rattle.std.proofs.Math.ListN.{set}
use Rattle.std.proofs.lemmas.List.{get_or_default}
use Rattle.std.proofs.lemmas.List.Edits.{map_over_more}
use Rattle.dms_desc.specs.Shape.{as_described}
use Rattle.dms_model.specs.Programs.{Program}
use Rattle.dms_model.specs.Session.{without_current}
use Rattle.dms_paths.proofs.lost.lose_record.Goals as goal

pub loop-program-preserved : goal.loop-program-preserved
loop-program-preserved c =
    let old = get_or c.loop-program.programs c.loop-program.program-index c.program-item.result in
    ap (λ (p : Program). set c.loop-program.programs c.loop-program.program-index p) c.lose_current.ensures
    ∙ map_over_more (without_current (as_described c.args.desc.now) c.args.set c.args.number) c.args.programs.now c.loop-program.programs c.loop-program.program-index old (omega arith) c.loop-program.invariant (get_or_default c.loop-program.programs c.loop-program.program-index c.program-item.result old (omega arith))
