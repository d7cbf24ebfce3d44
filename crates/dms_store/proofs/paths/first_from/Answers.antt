use Rattle.std.proofs.Common.{◌∙◌, ◌+◌, arith, ℕ, IfOk, IfSome, refl, subst, sym}
use Rattle.dms_block.specs.Held.{HasCausesOr}
use Rattle.dms_block.specs.HeldLaws.{causes_or_on, lasts_none, same_none}
use Rattle.dms_block.specs.View.{ReadsOverlay, under}
use Rattle.dms_desc.specs.Shape.{as_described}
use Rattle.dms_model.specs.Fitting.{MayStart, SpotFits}
use Rattle.dms_model.specs.Members.{first_member}
use Rattle.dms_model.specs.Stores.{Tells}
use Rattle.dms_tree.specs.Looks.{IfDigits, ReadsFew}
use Rattle.dms_entries.specs.Found.{BadSubset}
use Rattle.dms_store.specs.Finding.{BadSlot}
use Rattle.dms_store.specs.Lifted.{db_of}
use Rattle.dms_store.specs.Listed.{BadPath, IfIndexed}
use Rattle.dms_store.proofs.ByKind.{found_shape, kept_here, kept_reads, manual_few, manual_here, manual_reads, manual_tells, number_is, ready_here, set_few, set_here, set_reads, slots_path, subset_path, there_is}
use Rattle.dms_store.proofs.paths.first_from.Goals as goal

pub first_record-requires-clause-path : goal.first_record-requires-clause-path
first_record-requires-clause-path g c =
    set_here c.args.path c.requires.usable.serves.served (found_shape c.structure.ensures c.in-Some.is) (sym c.is_data_set.ensures ∙ c.if-is_data_set.true)

pub returns-then-is_data_set-clause-reads : goal.returns-then-is_data_set-clause-reads
returns-then-is_data_set-clause-reads g c =
    let o = c.args.over.now in
    subst (λ (n : ℕ). ReadsOverlay n c.first_record.result o c.first_record.new.over) (set_reads c.args.path c.requires.usable.serves.served (found_shape c.structure.ensures c.in-Some.is) o (sym c.is_data_set.ensures ∙ c.if-is_data_set.true)) c.first_record.ensures.reads

pub returns-then-is_data_set-clause-causes : goal.returns-then-is_data_set-clause-causes
returns-then-is_data_set-clause-causes g c =
    let desc = as_described c.args.desc.now in
    let o = c.args.over.now in
    causes_or_on (BadSlot desc c.args.path o) (BadPath desc c.args.path o) c.first_record.result (under o) (under o) (under c.first_record.new.over)
    (slots_path c.args.path c.requires.usable.serves.served (found_shape c.structure.ensures c.in-Some.is) o c.requires.usable (sym c.is_data_set.ensures ∙ c.if-is_data_set.true)) refl (lasts_none (under o)) (same_none (under o)) c.first_record.ensures.causes

pub first_member-requires-clause-ready : goal.first_member-requires-clause-ready
first_member-requires-clause-ready g c = ready_here c.args.path c.requires.usable.serves.served (found_shape c.structure.ensures c.in-Some.is) c.args.over.now c.requires.usable

pub first_member-requires-clause-subset : goal.first_member-requires-clause-subset
first_member-requires-clause-subset g c = manual_here c.args.path c.requires.usable.serves.served (found_shape c.structure.ensures c.in-Some.is) c.args.over.now (sym c.is_manual.ensures ∙ c.if-is_manual.true)

pub returns-then-is_manual-clause-found : goal.returns-then-is_manual-clause-found
returns-then-is_manual-clause-found g c may =
    let desc = as_described c.args.desc.now in
    manual_tells c.args.path c.requires.usable.serves.served (found_shape c.structure.ensures c.in-Some.is) c.args.over.now c.requires.usable c.first_member.result (λ d. first_member desc d c.args.path c.args.owner c.args.from.now) (c.first_member.ensures.found may)

pub returns-then-is_manual-clause-reads : goal.returns-then-is_manual-clause-reads
returns-then-is_manual-clause-reads g c =
    let o = c.args.over.now in
    subst (λ (n : ℕ). ReadsOverlay n c.first_member.result o c.first_member.new.over) (manual_reads c.args.path c.requires.usable.serves.served (found_shape c.structure.ensures c.in-Some.is) o (sym c.is_manual.ensures ∙ c.if-is_manual.true)) c.first_member.ensures.reads

pub returns-then-is_manual-clause-causes : goal.returns-then-is_manual-clause-causes
returns-then-is_manual-clause-causes g c =
    let desc = as_described c.args.desc.now in
    let o = c.args.over.now in
    causes_or_on (BadSubset desc c.args.path o) (BadPath desc c.args.path o) c.first_member.result (under o) (under o) (under c.first_member.new.over)
    (subset_path c.args.path c.requires.usable.serves.served (found_shape c.structure.ensures c.in-Some.is) o c.requires.usable) refl (lasts_none (under o)) (same_none (under o)) c.first_member.ensures.causes

pub first_listed-requires-clause-kept : goal.first_listed-requires-clause-kept
first_listed-requires-clause-kept g c =
    kept_here c.args.path c.requires.usable.serves.served (found_shape c.structure.ensures c.in-Some.is) (sym c.is_data_set.ensures ∙ c.if-is_data_set.false) (sym c.is_manual.ensures ∙ c.if-is_manual.false)

pub first_listed-requires-clause-there : goal.first_listed-requires-clause-there
first_listed-requires-clause-there g c =
    there_is c.args.path c.requires.usable.serves.served (found_shape c.structure.ensures c.in-Some.is)

pub returns-else-is_manual-clause-found : goal.returns-else-is_manual-clause-found
returns-else-is_manual-clause-found g c =
    let desc = as_described c.args.desc.now in
    let o = c.args.over.now in
    subst (λ (n : ℕ). MayStart desc n c.args.owner c.args.from.now → Tells (db_of desc (under o).told (under o).content) c.first_listed.result (λ d. first_member desc d n c.args.owner c.args.from.now))
    (number_is c.args.path c.requires.usable.serves.served (found_shape c.structure.ensures c.in-Some.is)) c.first_listed.ensures.found

pub returns-else-is_manual-clause-fits : goal.returns-else-is_manual-clause-fits
returns-else-is_manual-clause-fits g c =
    subst (λ (n : ℕ). IfOk c.first_listed.result (λ o. IfSome o (SpotFits (as_described c.args.desc.now) n))) (number_is c.args.path c.requires.usable.serves.served (found_shape c.structure.ensures c.in-Some.is)) c.first_listed.ensures.fits

pub returns-else-is_manual-clause-reads : goal.returns-else-is_manual-clause-reads
returns-else-is_manual-clause-reads g c =
    let o = c.args.over.now in
    subst (λ (n : ℕ). ReadsOverlay n c.first_listed.result o c.first_listed.new.over) (kept_reads c.args.path c.requires.usable.serves.served (found_shape c.structure.ensures c.in-Some.is) o (sym c.is_data_set.ensures ∙ c.if-is_data_set.false)) c.first_listed.ensures.reads

pub returns-else-is_manual-clause-causes : goal.returns-else-is_manual-clause-causes
returns-else-is_manual-clause-causes g c =
    let o = c.args.over.now in
    subst (λ (n : ℕ). HasCausesOr (BadPath (as_described c.args.desc.now) n o) c.first_listed.result (under o) (under c.first_listed.new.over)) (number_is c.args.path c.requires.usable.serves.served (found_shape c.structure.ensures c.in-Some.is)) c.first_listed.ensures.causes

pub returns-in-None-clause-few : goal.returns-in-None-clause-few
returns-in-None-clause-few g c s d there kept tree told digits low = omega arith

pub returns-then-is_data_set-clause-few : goal.returns-then-is_data_set-clause-few
returns-then-is_data_set-clause-few g c =
    set_few c.args.path c.requires.usable.serves.served (found_shape c.structure.ensures c.in-Some.is) (sym c.is_data_set.ensures ∙ c.if-is_data_set.true) _ (λ xs. IfDigits xs (λ digits. ReadsFew (3 + digits) c.args.over.now c.first_record.new.over))

pub returns-then-is_manual-clause-few : goal.returns-then-is_manual-clause-few
returns-then-is_manual-clause-few g c =
    manual_few c.args.path c.requires.usable.serves.served (found_shape c.structure.ensures c.in-Some.is) (sym c.is_manual.ensures ∙ c.if-is_manual.true) _ (λ xs. IfDigits xs (λ digits. ReadsFew (3 + digits) c.args.over.now c.first_member.new.over))

pub returns-else-is_manual-clause-few : goal.returns-else-is_manual-clause-few
returns-else-is_manual-clause-few g c =
    let o = c.args.over.now in
    subst (λ (n : ℕ). IfIndexed (as_described c.args.desc.now) n (db_of (as_described c.args.desc.now) (under o).told (under o).content) (λ xs. IfDigits xs (λ digits. ReadsFew (3 + digits) o c.first_listed.new.over)))
    (number_is c.args.path c.requires.usable.serves.served (found_shape c.structure.ensures c.in-Some.is)) c.first_listed.ensures.few
