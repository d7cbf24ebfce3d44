use Rattle.std.proofs.Common.{Bool, Ok, refl, subst, arith}
use Rattle.dms_desc.specs.Shape.{as_described}
use Rattle.dms_model.specs.Changing.{MayEnter}
use Rattle.dms_model.specs.Fitting.{IsStored}
use Rattle.dms_model.specs.Uses.{enter_answer}
use Rattle.dms_spelling.specs.Staying.{TakenStay, same_stays}
use Rattle.dms_store.specs.Relating.{db_entered, is_stored}
use Rattle.dms_store.specs.RelatingLaws.{entered_done, few_always, on_settled, settled_relates, some_manual}
use Rattle.dms_store.specs.Settled.{Settles}
use Rattle.dms_store.proofs.relating.enter.Goals as goal

pub returns-in-Ok-clause-enters : goal.returns-in-Ok-clause-enters
returns-in-Ok-clause-enters g c =
    let desc = as_described c.args.desc.now in
    let a = c.args.over.now in
    let b = c.enter.new.over in
    let z = c.settle.new.over in
    let x = c.in-Ok.put in
    let few = few_always desc a b 67 (λ db. 2) (Ok x) (λ db. omega (arith, some_manual desc c.args.subset c.requires.subset)) c.in-Ok.ensures.writes in
    let settled = subst (λ (d : Bool). Settles x d c.settle.result b z) c.is_stored-done.ensures c.settle.ensures.settled in
    record {
      relates = settled_relates g.met.B.Blocks.same_then g.met.B.Blocks.same_pace desc a b z c.requires.usable.none (λ db. 2) (λ db. MayEnter desc db c.args.subset c.args.owner c.args.number) (λ db. enter_answer desc db c.args.subset c.args.owner c.args.number) (db_entered desc c.args.subset c.args.owner c.args.number) (λ db. IsStored (enter_answer desc db c.args.subset c.args.owner c.args.number)) x (is_stored x) c.settle.result few settled (λ told db spelt holds. let m = c.in-Ok.ensures.told told db spelt holds in (m.is, entered_done desc b c.args.subset c.args.owner c.args.number db x m));
      taken = on_settled (TakenStay desc) _ x (is_stored x) c.settle.result a b z c.requires.usable.none few settled c.in-Ok.ensures.taken (λ k. same_stays desc k k refl);
    }
