use Rattle.std.proofs.Common.{◌≡◌, false, Ok}
use Rattle.dms_desc.specs.Shape.{as_described}
use Rattle.std.specs.Prelude.{not}
use Rattle.dms_model.specs.Changing.{removal_count}
use Rattle.dms_model.specs.Fitting.{HasRecord}
use Rattle.dms_model.specs.Uses.{in_use}
use Rattle.dms_removal.specs.Freed.{FreesOne}
use Rattle.dms_store.specs.Relating.{db_removed}
use Rattle.dms_store.specs.RelatingLaws.{few_removed, frees_same, on_settled, removed_done, settled_relates}
use Rattle.dms_store.proofs.relating.remove.Goals as goal

pub returns-in-Ok-clause-removes : goal.returns-in-Ok-clause-removes
returns-in-Ok-clause-removes g c =
    let desc = as_described c.args.desc.now in
    let a = c.args.over.now in
    let b = c.remove.new.over in
    let z = c.settle.new.over in
    let x = c.in-Ok.done in
    let few = few_removed desc a b c.args.set c.args.number (Ok x) c.in-Ok.ensures in
    let settled = c.settle.ensures.settled in
    record {
      relates = settled_relates g.met.B.Blocks.same_then g.met.B.Blocks.same_pace desc a b z c.requires.usable.none (removal_count desc c.args.set c.args.number) (λ db. HasRecord db c.args.set c.args.number) (λ db. not (in_use desc db c.args.set c.args.number)) (db_removed desc c.args.set c.args.number) (λ db. in_use desc db c.args.set c.args.number ≡ false) x x c.settle.result few settled (λ told db spelt holds. let m = c.in-Ok.ensures.removed told db spelt holds in (m.0, removed_done desc b c.args.set c.args.number db x m.0 m.1));
      taken = on_settled (FreesOne desc c.args.set c.args.number) _ x x c.settle.result a b z c.requires.usable.none few settled c.in-Ok.ensures.taken (frees_same desc c.args.set c.args.number);
    }
