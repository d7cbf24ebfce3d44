use Rattle.std.proofs.Common.{◌≡◌, ◌==◌, ◌∙◌, ap, subst}
use Rattle.dms_desc.specs.Shape.{as_described, shape_of}
use Rattle.dms_manual.specs.Entering.{Enters}
use Rattle.dms_model.specs.declared.put.Put.{Put}
use Rattle.dms_model.specs.declared.put.Put.TheVariants.{Duplicate, Full}
use Rattle.dms_sets.specs.Entries.{kinds_of}
use Rattle.dms_sets.specs.Keeping.{seen_list}
use Rattle.dms_sets.specs.Sets.{kinds_over}
use Rattle.dms_spelling.specs.Ready.{holds_sets}
use Rattle.dms_entries.specs.Calls.{ready_calm}
use Rattle.dms_entries.specs.EnterCalls.{enter_counted, enter_failed, enter_refused, enter_stopped, enter_uncounted, entry_fits, kinds_are}
use Rattle.dms_entries.proofs.entering.enter_member.Goals as goal

pub enter_in-requires-clause-fits : goal.enter_in-requires-clause-fits
enter_in-requires-clause-fits g c =
    let desc = as_described c.args.desc.now in
    let s = shape_of c.args.s.now in
    entry_fits desc s c.as_slice.result.now c.args.rec.now c.requires.ready.served c.requires.there c.requires.kind (c.as_slice.ensures.value ∙ c.in-Ok.ensures ∙ ap kinds_of c.items_of.ensures) c.requires.fits

pub returns-in-Err-enter_in : goal.returns-in-Err-enter_in
returns-in-Err-enter_in g c =
    let desc = as_described c.args.desc.now in
    let s = shape_of c.args.s.now in
    let ks = c.as_slice.result.now in
    let kinds : ks ≡ kinds_over desc s = c.as_slice.ensures.value ∙ c.in-Ok.ensures ∙ ap kinds_of c.items_of.ensures ∙ kinds_are desc s c.requires.kind in
    enter_failed desc s c.requires.there c.requires.kind c.args.over.now c.requires.ready ks kinds c.args.number c.args.rec.now c.in-Err-enter_in.e c.enter_in.new.lists c.in-Err-enter_in.ensures.fails c.in-Err-enter_in.ensures.below

pub returns-in-Ok-Duplicate : goal.returns-in-Ok-Duplicate
returns-in-Ok-Duplicate g c =
    let desc = as_described c.args.desc.now in
    let s = shape_of c.args.s.now in
    let ks = c.as_slice.result.now in
    let kinds : ks ≡ kinds_over desc s = c.as_slice.ensures.value ∙ c.in-Ok.ensures ∙ ap kinds_of c.items_of.ensures ∙ kinds_are desc s c.requires.kind in
    let a = c.args.over.now in
    let b = c.enter_in.new.lists in
    let entered = subst (λ (p : Put). Enters ks s c.args.number c.args.rec.now (seen_list a) (seen_list b) p) c.in-Ok-Duplicate.field-0-is c.in-Ok-Duplicate.ensures.entered in
    enter_refused desc s c.requires.there c.requires.kind a c.requires.ready ks kinds c.args.number c.args.rec.now b c.in-Ok-Duplicate.ensures.calm c.in-Ok-Duplicate.ensures.others (Duplicate c.in-Ok-Duplicate.subset) entered (λ stored. stored)

pub returns-in-Ok-Full : goal.returns-in-Ok-Full
returns-in-Ok-Full g c =
    let desc = as_described c.args.desc.now in
    let s = shape_of c.args.s.now in
    let ks = c.as_slice.result.now in
    let kinds : ks ≡ kinds_over desc s = c.as_slice.ensures.value ∙ c.in-Ok.ensures ∙ ap kinds_of c.items_of.ensures ∙ kinds_are desc s c.requires.kind in
    let a = c.args.over.now in
    let b = c.enter_in.new.lists in
    let entered = subst (λ (p : Put). Enters ks s c.args.number c.args.rec.now (seen_list a) (seen_list b) p) c.in-Ok-Full.field-0-is c.in-Ok-Full.ensures.entered in
    enter_refused desc s c.requires.there c.requires.kind a c.requires.ready ks kinds c.args.number c.args.rec.now b c.in-Ok-Full.ensures.calm c.in-Ok-Full.ensures.others Full entered (λ stored. stored)

pub count_owner-requires-clause-holds : goal.count_owner-requires-clause-holds
count_owner-requires-clause-holds g c =
    let desc = as_described c.args.desc.now in
    let s = shape_of c.args.s.now in
    holds_sets desc c.enter_in.new.lists (ready_calm desc c.args.over.now c.requires.ready (λ m. m == s.number) 3 c.enter_in.new.lists c.in-Ok-Stored.ensures.calm)

pub returns-in-Err-count_owner : goal.returns-in-Err-count_owner
returns-in-Err-count_owner g c =
    let desc = as_described c.args.desc.now in
    let s = shape_of c.args.s.now in
    let ks = c.as_slice.result.now in
    let kinds : ks ≡ kinds_over desc s = c.as_slice.ensures.value ∙ c.in-Ok.ensures ∙ ap kinds_of c.items_of.ensures ∙ kinds_are desc s c.requires.kind in
    let a = c.args.over.now in
    let b = c.enter_in.new.lists in
    let entered = subst (λ (p : Put). Enters ks s c.args.number c.args.rec.now (seen_list a) (seen_list b) p) c.in-Ok-Stored.field-0-is c.in-Ok-Stored.ensures.entered in
    enter_stopped desc s c.requires.there c.requires.kind a c.requires.ready ks kinds c.args.number c.args.rec.now b c.in-Ok-Stored.ensures.calm c.in-Ok-Stored.ensures.others c.in-Ok-Stored.number entered c.count_owner.new.over g.met.B.Blocks.same_then
    c.in-Err-count_owner.e c.in-Err-count_owner.ensures

pub returns-in-Ok-false : goal.returns-in-Ok-false
returns-in-Ok-false g c =
    let desc = as_described c.args.desc.now in
    let s = shape_of c.args.s.now in
    let ks = c.as_slice.result.now in
    let kinds : ks ≡ kinds_over desc s = c.as_slice.ensures.value ∙ c.in-Ok.ensures ∙ ap kinds_of c.items_of.ensures ∙ kinds_are desc s c.requires.kind in
    let a = c.args.over.now in
    let b = c.enter_in.new.lists in
    let entered = subst (λ (p : Put). Enters ks s c.args.number c.args.rec.now (seen_list a) (seen_list b) p) c.in-Ok-Stored.field-0-is c.in-Ok-Stored.ensures.entered in
    enter_uncounted desc s c.requires.there c.requires.kind a c.requires.ready ks kinds c.args.number c.args.rec.now b c.in-Ok-Stored.ensures.calm c.in-Ok-Stored.ensures.others c.in-Ok-Stored.number entered c.count_owner.new.over g.met.B.Blocks.same_then
    c.in-Ok-false.field-0 c.in-Ok-false.ensures c.in-Ok-false.field-0-test

pub returns : goal.returns
returns g c =
    let desc = as_described c.args.desc.now in
    let s = shape_of c.args.s.now in
    let ks = c.as_slice.result.now in
    let kinds : ks ≡ kinds_over desc s = c.as_slice.ensures.value ∙ c.in-Ok.ensures ∙ ap kinds_of c.items_of.ensures ∙ kinds_are desc s c.requires.kind in
    let a = c.args.over.now in
    let b = c.enter_in.new.lists in
    let entered = subst (λ (p : Put). Enters ks s c.args.number c.args.rec.now (seen_list a) (seen_list b) p) c.in-Ok-Stored.field-0-is c.in-Ok-Stored.ensures.entered in
    enter_counted desc s c.requires.there c.requires.kind a c.requires.ready ks kinds c.args.number c.args.rec.now b c.in-Ok-Stored.ensures.calm c.in-Ok-Stored.ensures.others c.in-Ok-Stored.number entered c.count_owner.new.over g.met.B.Blocks.same_then
    c.in-Ok-true.field-0 c.in-Ok-true.ensures
