use Rattle.std.proofs.Common.{Ok, refl, arith}
use Rattle.dms_desc.specs.Shape.{as_described}
use Rattle.dms_model.specs.Uses.{after_link}
use Rattle.dms_spelling.specs.Staying.{TakenStay, same_stays}
use Rattle.dms_store.specs.Relating.{MayBeLinked}
use Rattle.dms_store.specs.RelatingLaws.{few_always, linked_done, may_link, on_settled, settled_relates, some_set}
use Rattle.dms_store.proofs.relating.link.Goals as goal

pub link-requires-clause-may : goal.link-requires-clause-may
link-requires-clause-may g c = may_link (as_described c.args.desc.now) c.args.set c.args.item c.args.to c.requires.item c.requires.to

pub returns-in-Ok-clause-links : goal.returns-in-Ok-clause-links
returns-in-Ok-clause-links g c =
    let desc = as_described c.args.desc.now in
    let a = c.args.over.now in
    let b = c.link.new.over in
    let z = c.settle.new.over in
    let x = c.in-Ok.done in
    let few = few_always desc a b 3 (λ db. 3) (Ok x) (λ db. omega (arith, some_set desc c.args.set c.requires.set)) c.in-Ok.ensures.writes in
    let settled = c.settle.ensures.settled in
    record {
      relates = settled_relates g.met.B.Blocks.same_then g.met.B.Blocks.same_pace desc a b z c.requires.usable.none (λ db. 3) (MayBeLinked desc c.args.set c.args.number c.args.item c.args.to) (λ db. tt) (λ db. after_link db c.args.set c.args.number c.args.item c.args.to) (λ db. Unit {0}) tt x c.settle.result few settled (λ told db spelt holds. let m = c.in-Ok.ensures.linked told db spelt holds.0 holds.1 in (refl, linked_done desc b c.args.set c.args.number c.args.item c.args.to db x m.0 m.1));
      taken = on_settled (TakenStay desc) _ tt x c.settle.result a b z c.requires.usable.none few settled c.in-Ok.ensures.taken (λ k. same_stays desc k k refl);
    }
