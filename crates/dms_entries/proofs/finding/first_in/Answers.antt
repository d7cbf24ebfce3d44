use Rattle.std.proofs.Common.{◌≡◌, ◌∙◌, ℕ, List, Some, ap, arith, subst, sym}
use Rattle.std.specs.Prelude.{⊤}
use Rattle.dms_chain.specs.Lists.{first_from}
use Rattle.dms_chain.specs.SeenLaws.{counts_still}
use Rattle.dms_desc.specs.Files.{file_of}
use Rattle.dms_desc.specs.Shape.{as_described, shape_of}
use Rattle.dms_model.specs.Fitting.{MayStart}
use Rattle.dms_model.specs.Members.{first_member}
use Rattle.dms_sets.specs.Entries.{kinds_of}
use Rattle.dms_sets.specs.Finds.{spot_by}
use Rattle.dms_sets.specs.Padded.{from_bytes}
use Rattle.dms_sets.specs.Sets.{kinds_over}
use Rattle.dms_spelling.specs.Ready.{ready_since}
use Rattle.dms_spelling.specs.ServingLaws.{manual_at}
use Rattle.dms_entries.specs.EnterCalls.{kinds_are}
use Rattle.dms_entries.specs.Found.{FindsSpot, HasListed, entry_wide, first_of_list, look_failed, look_listed, look_none, look_then, may_at}
use Rattle.dms_entries.specs.OneList.{is_of_manual}
use Rattle.dms_entries.proofs.finding.first_in.Goals as goal

pub first_entry-requires-clause-few : goal.first_entry-requires-clause-few
first_entry-requires-clause-few g c = (manual_at (as_described c.args.desc.now) c.args.s.now.number (shape_of c.args.s.now) c.requires.ready.served c.requires.there (is_of_manual (shape_of c.args.s.now) c.requires.kind)).few

pub first_entry-requires-clause-width : goal.first_entry-requires-clause-width
first_entry-requires-clause-width g c =
    let desc = as_described c.args.desc.now in
    let s = shape_of c.args.s.now in
    let ks = c.as_slice.result.now in
    let kinds : ks ≡ kinds_over desc s = c.as_slice.ensures.value ∙ c.in-Ok.ensures ∙ ap kinds_of c.items_of.ensures ∙ kinds_are desc s c.requires.kind in
    entry_wide desc s c.requires.there c.requires.kind c.args.over.now c.requires.ready ks kinds

pub returns-in-Err-first_entry : goal.returns-in-Err-first_entry
returns-in-Err-first_entry g c =
    let desc = as_described c.args.desc.now in
    let s = shape_of c.args.s.now in
    let ks = c.as_slice.result.now in
    let kinds : ks ≡ kinds_over desc s = c.as_slice.ensures.value ∙ c.in-Ok.ensures ∙ ap kinds_of c.items_of.ensures ∙ kinds_are desc s c.requires.kind in
    let a = c.args.over.now in
    let bound = c.args.from.now in
    look_failed desc s c.requires.there c.requires.kind a c.requires.ready ks kinds (MayStart desc s.number c.args.owner bound) (λ db. first_member desc db s.number c.args.owner bound) c.args.owner (λ xs. first_from (from_bytes ks s.parts c.args.owner bound) xs)
    (first_of_list desc s c.requires.there c.requires.kind a c.requires.ready ks kinds c.args.owner bound) c.first_entry.new.over c.in-Err-first_entry.e c.in-Err-first_entry.ensures.reads c.in-Err-first_entry.ensures.causes

pub returns-in-Ok-None : goal.returns-in-Ok-None
returns-in-Ok-None g c =
    let desc = as_described c.args.desc.now in
    let s = shape_of c.args.s.now in
    let ks = c.as_slice.result.now in
    let kinds : ks ≡ kinds_over desc s = c.as_slice.ensures.value ∙ c.in-Ok.ensures ∙ ap kinds_of c.items_of.ensures ∙ kinds_are desc s c.requires.kind in
    let a = c.args.over.now in
    let bound = c.args.from.now in
    look_none desc s c.requires.there c.requires.kind a c.requires.ready ks kinds (MayStart desc s.number c.args.owner bound) (λ db. first_member desc db s.number c.args.owner bound) c.args.owner (λ xs. first_from (from_bytes ks s.parts c.args.owner bound) xs)
    (first_of_list desc s c.requires.there c.requires.kind a c.requires.ready ks kinds c.args.owner bound) c.first_entry.new.over (rw c.in-Ok-None.field-0-is at c.in-Ok-None.ensures.reads) c.in-Ok-None.ensures.causes
    (λ m. (rw c.in-Ok-None.field-0-is at c.in-Ok-None.ensures.found) (may_at desc s c.requires.there c.requires.kind a c.requires.ready ks kinds c.args.owner bound m))

pub member_at-requires-clause-ready : goal.member_at-requires-clause-ready
member_at-requires-clause-ready g c = ready_since (as_described c.args.desc.now) c.args.over.now c.first_entry.new.over c.in-Ok-Some.ensures.reads.looks c.requires.ready

pub member_at-requires-clause-some : goal.member_at-requires-clause-some
member_at-requires-clause-some g c =
    let there = rw c.in-Ok-Some.field-0-is at c.in-Ok-Some.ensures.there in
    omega (arith, there, ap (λ (f : ℕ → ℕ). f (file_of c.args.s.now.number)) (counts_still c.in-Ok-Some.ensures.reads))

pub member_at-requires-clause-listed : goal.member_at-requires-clause-listed
member_at-requires-clause-listed g c =
    let desc = as_described c.args.desc.now in
    let s = shape_of c.args.s.now in
    let ks = c.as_slice.result.now in
    let kinds : ks ≡ kinds_over desc s = c.as_slice.ensures.value ∙ c.in-Ok.ensures ∙ ap kinds_of c.items_of.ensures ∙ kinds_are desc s c.requires.kind in
    let a = c.args.over.now in
    let bound = c.args.from.now in
    let p : List ℕ = c.in-Ok-Some.entry in
    subst (λ (e : List ℕ). HasListed desc s e c.first_entry.new.over) (sym c.as_slice-in-Ok-Some.ensures)
    (look_listed desc s c.requires.there c.requires.kind a c.requires.ready ks kinds (MayStart desc s.number c.args.owner bound) (λ db. first_member desc db s.number c.args.owner bound) c.args.owner (λ xs. first_from (from_bytes ks s.parts c.args.owner bound) xs)
    (first_of_list desc s c.requires.there c.requires.kind a c.requires.ready ks kinds c.args.owner bound) c.first_entry.new.over p (rw c.in-Ok-Some.field-0-is at c.in-Ok-Some.ensures.reads) c.in-Ok-Some.ensures.causes (rw c.in-Ok-Some.field-0-is at c.in-Ok-Some.ensures.listed))

pub returns : goal.returns
returns g c =
    let desc = as_described c.args.desc.now in
    let s = shape_of c.args.s.now in
    let ks = c.as_slice.result.now in
    let kinds : ks ≡ kinds_over desc s = c.as_slice.ensures.value ∙ c.in-Ok.ensures ∙ ap kinds_of c.items_of.ensures ∙ kinds_are desc s c.requires.kind in
    let a = c.args.over.now in
    let b = c.first_entry.new.over in
    let bound = c.args.from.now in
    let p : List ℕ = c.in-Ok-Some.entry in
    let next = subst (λ (e : List ℕ). FindsSpot desc s.number ⊤ (λ db. spot_by s db c.args.owner (Some e)) 1 c.member_at.result b c.member_at.new.over) c.as_slice-in-Ok-Some.ensures c.member_at.ensures in
    look_then desc s c.requires.there c.requires.kind a c.requires.ready ks kinds (MayStart desc s.number c.args.owner bound) (λ db. first_member desc db s.number c.args.owner bound) c.args.owner (λ xs. first_from (from_bytes ks s.parts c.args.owner bound) xs)
    (first_of_list desc s c.requires.there c.requires.kind a c.requires.ready ks kinds c.args.owner bound) b p (rw c.in-Ok-Some.field-0-is at c.in-Ok-Some.ensures.reads) c.in-Ok-Some.ensures.causes c.member_at.result c.member_at.new.over g.met.B.Blocks.same_then
    (λ m. (rw c.in-Ok-Some.field-0-is at c.in-Ok-Some.ensures.found) (may_at desc s c.requires.there c.requires.kind a c.requires.ready ks kinds c.args.owner bound m)) next
