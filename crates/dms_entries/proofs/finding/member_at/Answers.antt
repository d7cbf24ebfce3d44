use Rattle.std.proofs.Common.{◌∙◌, Option, subst, sym}
use Rattle.std.specs.declared.result.Result.TheVariants.{Ok}
use Rattle.dms_desc.specs.Shape.{as_described, shape_of}
use Rattle.dms_desc.specs.declared.record.Record.{Record}
use Rattle.dms_entries.specs.EnterCalls.{over_set}
use Rattle.dms_entries.specs.Found.{spot_failed, spot_found, spot_memory, spot_none, spot_off}
use Rattle.dms_entries.specs.Promises.{ReadsRecord}
use Rattle.dms_entries.proofs.finding.member_at.Goals as goal

pub returns-then-not-is_of : goal.returns-then-not-is_of
returns-then-not-is_of g c =
    let desc = as_described c.args.desc.now in
    let s = shape_of c.args.s.now in
    spot_off desc s c.requires.there c.requires.kind c.args.over.now c.requires.ready c.args.found.now c.args.owner c.requires.some c.requires.listed g.met.B.Blocks.same_again (sym c.is_of.ensures ∙ c.if-not-is_of.true)

pub record_at-requires-clause-set : goal.record_at-requires-clause-set
record_at-requires-clause-set g c = over_set (as_described c.args.desc.now) (shape_of c.args.s.now) c.requires.ready.served c.requires.there c.requires.kind

pub returns-in-Err : goal.returns-in-Err
returns-in-Err g c =
    let desc = as_described c.args.desc.now in
    let s = shape_of c.args.s.now in
    spot_failed desc s c.requires.there c.requires.kind c.args.over.now c.requires.ready c.args.found.now c.args.owner c.requires.some c.requires.listed c.record_at.new.over c.number_in-number.result c.number_in-number.ensures c.in-Err.e c.in-Err.ensures

pub returns-in-Ok-None : goal.returns-in-Ok-None
returns-in-Ok-None g c =
    let desc = as_described c.args.desc.now in
    let s = shape_of c.args.s.now in
    let read = subst (λ (o : Option Record). ReadsRecord desc s.set c.number_in-number.result (Ok o) c.args.over.now c.record_at.new.over) c.in-Ok-None.field-0-is c.in-Ok-None.ensures in
    spot_none desc s c.requires.there c.requires.kind c.args.over.now c.requires.ready c.args.found.now c.args.owner c.requires.some c.requires.listed c.record_at.new.over c.number_in-number.result c.number_in-number.ensures c.file_of.result c.file_of.ensures read

pub returns-in-Err-spot : goal.returns-in-Err-spot
returns-in-Err-spot g c =
    let desc = as_described c.args.desc.now in
    let s = shape_of c.args.s.now in
    let read = subst (λ (o : Option Record). ReadsRecord desc s.set c.number_in-number.result (Ok o) c.args.over.now c.record_at.new.over) c.in-Ok-Some.field-0-is c.in-Ok-Some.ensures in
    spot_memory desc s c.requires.there c.requires.kind c.args.over.now c.requires.ready c.args.found.now c.args.owner c.requires.some c.requires.listed c.record_at.new.over c.number_in-number.result c.number_in-number.ensures c.in-Ok-Some.rec read

pub returns-in-Ok : goal.returns-in-Ok
returns-in-Ok g c =
    let desc = as_described c.args.desc.now in
    let s = shape_of c.args.s.now in
    let read = subst (λ (o : Option Record). ReadsRecord desc s.set c.number_in-number.result (Ok o) c.args.over.now c.record_at.new.over) c.in-Ok-Some.field-0-is c.in-Ok-Some.ensures in
    spot_found desc s c.requires.there c.requires.kind c.args.over.now c.requires.ready c.args.found.now c.args.owner c.requires.some c.requires.listed c.record_at.new.over c.number_in-number.result c.number_in-number.ensures c.in-Ok-Some.rec c.in-Ok.spot
    (sym c.is_of.ensures ∙ c.if-not-is_of.false) c.in-Ok.ensures read
