use Rattle.std.proofs.Common.{◌≡◌, ◌≤◌, ◌+◌, ◌∙◌, arith, List, ℕ, Option, Some, None, Ok, subst, sym}
use Rattle.dms_base.specs.declared.bytes.Bytes.{Bytes}
use Rattle.dms_block.specs.View.{seen_counts, under}
use Rattle.dms_block.specs.ViewLaws.{reads_more, reads_on}
use Rattle.dms_desc.specs.Shape.{as_described, shape_of}
use Rattle.dms_model.specs.declared.spot.Spot.{Spot}
use Rattle.dms_model.specs.Stores.{Tells}
use Rattle.dms_chain.specs.Lists.{last_to}
use Rattle.dms_lists.specs.Forms.{IfKept, NoKept, form_of, look_reads}
use Rattle.dms_chain.specs.SeenLaws.{causes_err}
use Rattle.dms_sets.specs.Finds.{spot_by}
use Rattle.dms_sets.specs.Padded.{entry_width, to_bytes}
use Rattle.dms_sets.specs.Sets.{kinds_over}
use Rattle.dms_desc.specs.Files.{file_of}
use Rattle.dms_store.specs.Lifted.{db_of}
use Rattle.dms_store.specs.LiftedLaws.{db_same}
use Rattle.dms_entries.specs.Looked.{MayLook}
use Rattle.dms_store.specs.Listed.{BadPath}
use Rattle.dms_store.proofs.Members.{fault_path, last_path, list_path, tells_none}
use Rattle.dms_store.proofs.paths.last_listed.Goals as goal

pub returns-in-Err-clause-causes : goal.returns-in-Err-clause-causes
returns-in-Err-clause-causes g c =
    let desc = as_described c.args.desc.now in
    let o = c.args.over.now in
    let s = shape_of c.args.s.now in
    let ks = c.as_slice.result.now in
    let is : ks ≡ kinds_over desc s = c.as_slice.ensures.value ∙ c.in_ok-kinds.ensures in
    causes_err (Option Bytes) (Option Spot) (NoKept (form_of s) o (file_of s.number) (entry_width ks s.parts)) (BadPath desc s.number o) c.in-Err.e (under o) (under c.last_entry.new.over)
    (λ f n h. list_path desc s c.requires.usable.serves.served c.requires.there c.requires.kept o c.requires.usable ks is f n h) c.in-Err.ensures.causes

pub returns-in-Ok-None-clause-found : goal.returns-in-Ok-None-clause-found
returns-in-Ok-None-clause-found g c may =
    let desc = as_described c.args.desc.now in
    let o = c.args.over.now in
    let s = shape_of c.args.s.now in
    let ks = c.as_slice.result.now in
    let is : ks ≡ kinds_over desc s = c.as_slice.ensures.value ∙ c.in_ok-kinds.ensures in
    last_path desc s c.requires.usable.serves.served c.requires.there c.requires.kept o c.requires.usable ks is c.args.owner c.args.to.now may None (Ok None)
    (rw c.in-Ok-None.field-0-is at c.in-Ok-None.ensures.found) (tells_none s c.args.owner (db_of desc (under o).told (under o).content))

pub returns-clause-found : goal.returns-clause-found
returns-clause-found g c may =
    let desc = as_described c.args.desc.now in
    let o = c.args.over.now in
    let o' = c.last_entry.new.over in
    let s = shape_of c.args.s.now in
    let ks = c.as_slice.result.now in
    let is : ks ≡ kinds_over desc s = c.as_slice.ensures.value ∙ c.in_ok-kinds.ensures in
    let q = c.as_slice-in-Ok-Some-2.result.now in
    let reads = c.in-Ok-Some.ensures.reads in
    let same = db_same desc (under o).told (under o').told (under o).content (under o').content reads.looks.passes.lasts.told reads.looks.same.content in
    last_path desc s c.requires.usable.serves.served c.requires.there c.requires.kept o c.requires.usable ks is c.args.owner c.args.to.now may (Some q) c.member_at.result
    (subst (λ (p : List ℕ). MayLook ks s.parts c.args.to.now → IfKept (form_of s) o (file_of s.number) (entry_width ks s.parts) (λ xs. Some p ≡ last_to (to_bytes ks s.parts c.args.owner c.args.to.now) xs))
    (sym c.as_slice-in-Ok-Some-2.ensures) (rw c.in-Ok-Some.field-0-is at c.in-Ok-Some.ensures.found))
    (subst (λ d. Tells d c.member_at.result (λ e. spot_by s e c.args.owner (Some q))) same c.member_at.ensures.found)

pub returns-clause-causes : goal.returns-clause-causes
returns-clause-causes g c =
    let kinds = c.as_slice.ensures.value ∙ c.in_ok-kinds.ensures in
    let look = c.in-Ok-Some.ensures in
    fault_path (as_described c.args.desc.now) (shape_of c.args.s.now) c.requires.usable.serves.served c.requires.there c.requires.kept c.args.over.now c.requires.usable c.as_slice.result.now kinds _ _ c.as_slice-in-Ok-Some-2.result.now
    c.last_entry.new.over c.member_at.new.over c.member_at.result c.in-Ok-Some.field-0-is c.as_slice-in-Ok-Some-2.ensures look.there look.listed look.reads look.causes c.member_at.ensures.causes

pub returns-clause-reads : goal.returns-clause-reads
returns-clause-reads g c =
    let k = look_reads (form_of (shape_of c.args.s.now)) (seen_counts c.args.over.now (file_of c.args.s.now.number)) in
    let le : k + 1 ≤ 1 + k = omega arith in
    reads_more (1 + k) le (reads_on c.member_at.result g.met.B.Blocks.same_then c.in-Ok-Some.ensures.reads c.member_at.ensures.reads)
