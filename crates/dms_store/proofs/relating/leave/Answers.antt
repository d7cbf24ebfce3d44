use Rattle.std.proofs.Common.{◌≡◌, true, Ok, refl, arith}
use Rattle.dms_desc.specs.Shape.{as_described}
use Rattle.dms_model.specs.Changing.{MayEnter}
use Rattle.dms_model.specs.Uses.{after_leave, has_entry}
use Rattle.dms_spelling.specs.Staying.{TakenStay, same_stays}
use Rattle.dms_store.specs.RelatingLaws.{few_always, left_done, on_settled, settled_relates, some_manual}
use Rattle.dms_store.proofs.relating.leave.Goals as goal

pub returns-in-Ok-clause-leaves : goal.returns-in-Ok-clause-leaves
returns-in-Ok-clause-leaves g c =
    let desc = as_described c.args.desc.now in
    let a = c.args.over.now in
    let b = c.leave.new.over in
    let z = c.settle.new.over in
    let x = c.in-Ok.was in
    let few = few_always desc a b 23 (λ db. 2) (Ok x) (λ db. omega (arith, some_manual desc c.args.subset c.requires.subset)) c.in-Ok.ensures.writes in
    let settled = c.settle.ensures.settled in
    record {
      relates = settled_relates g.met.B.Blocks.same_then g.met.B.Blocks.same_pace desc a b z c.requires.usable.none (λ db. 2) (λ db. MayEnter desc db c.args.subset c.args.owner c.args.number) (λ db. has_entry db c.args.subset c.args.owner c.args.number) (λ db. after_leave db c.args.subset c.args.owner c.args.number) (λ db. has_entry db c.args.subset c.args.owner c.args.number ≡ true) x x c.settle.result few settled (λ told db spelt holds. let m = c.in-Ok.ensures.told told db spelt holds in (m.is, left_done desc b c.args.subset c.args.owner c.args.number db x m));
      taken = on_settled (TakenStay desc) _ x x c.settle.result a b z c.requires.usable.none few settled c.in-Ok.ensures.taken (λ k. same_stays desc k k refl);
    }
