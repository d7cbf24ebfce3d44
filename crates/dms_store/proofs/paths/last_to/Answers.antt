use Rattle.std.proofs.Common.{◌∙◌, ℕ, IfOk, IfSome, refl, subst, sym}
use Rattle.dms_block.specs.Held.{HasCausesOr}
use Rattle.dms_block.specs.HeldLaws.{causes_or_on, lasts_none, same_none}
use Rattle.dms_block.specs.View.{ReadsOverlay, under}
use Rattle.dms_desc.specs.Shape.{as_described}
use Rattle.dms_model.specs.Fitting.{MayStart, SpotFits}
use Rattle.dms_model.specs.Members.{last_member}
use Rattle.dms_model.specs.Stores.{Tells}
use Rattle.dms_entries.specs.Found.{BadSubset}
use Rattle.dms_store.specs.Finding.{BadSlot}
use Rattle.dms_store.specs.Lifted.{db_of}
use Rattle.dms_store.specs.Listed.{BadPath}
use Rattle.dms_store.proofs.ByKind.{found_shape, kept_here, kept_reads, manual_here, manual_reads, manual_tells, number_is, ready_here, set_here, set_reads, slots_path, subset_path, there_is}
use Rattle.dms_store.proofs.paths.last_to.Goals as goal

pub last_record-requires-clause-path : goal.last_record-requires-clause-path
last_record-requires-clause-path g c =
    set_here c.args.path c.requires.usable.serves.served (found_shape c.structure.ensures c.in-Some.is) (sym c.is_data_set.ensures ∙ c.if-is_data_set.true)

pub returns-then-is_data_set-clause-reads : goal.returns-then-is_data_set-clause-reads
returns-then-is_data_set-clause-reads g c =
    let o = c.args.over.now in
    subst (λ (n : ℕ). ReadsOverlay n c.last_record.result o c.last_record.new.over) (set_reads c.args.path c.requires.usable.serves.served (found_shape c.structure.ensures c.in-Some.is) o (sym c.is_data_set.ensures ∙ c.if-is_data_set.true)) c.last_record.ensures.reads

pub returns-then-is_data_set-clause-causes : goal.returns-then-is_data_set-clause-causes
returns-then-is_data_set-clause-causes g c =
    let desc = as_described c.args.desc.now in
    let o = c.args.over.now in
    causes_or_on (BadSlot desc c.args.path o) (BadPath desc c.args.path o) c.last_record.result (under o) (under o) (under c.last_record.new.over)
    (slots_path c.args.path c.requires.usable.serves.served (found_shape c.structure.ensures c.in-Some.is) o c.requires.usable (sym c.is_data_set.ensures ∙ c.if-is_data_set.true)) refl (lasts_none (under o)) (same_none (under o)) c.last_record.ensures.causes

pub last_member-requires-clause-ready : goal.last_member-requires-clause-ready
last_member-requires-clause-ready g c = ready_here c.args.path c.requires.usable.serves.served (found_shape c.structure.ensures c.in-Some.is) c.args.over.now c.requires.usable

pub last_member-requires-clause-subset : goal.last_member-requires-clause-subset
last_member-requires-clause-subset g c = manual_here c.args.path c.requires.usable.serves.served (found_shape c.structure.ensures c.in-Some.is) c.args.over.now (sym c.is_manual.ensures ∙ c.if-is_manual.true)

pub returns-then-is_manual-clause-found : goal.returns-then-is_manual-clause-found
returns-then-is_manual-clause-found g c may =
    let desc = as_described c.args.desc.now in
    manual_tells c.args.path c.requires.usable.serves.served (found_shape c.structure.ensures c.in-Some.is) c.args.over.now c.requires.usable c.last_member.result (λ d. last_member desc d c.args.path c.args.owner c.args.to.now) (c.last_member.ensures.found may)

pub returns-then-is_manual-clause-reads : goal.returns-then-is_manual-clause-reads
returns-then-is_manual-clause-reads g c =
    let o = c.args.over.now in
    subst (λ (n : ℕ). ReadsOverlay n c.last_member.result o c.last_member.new.over) (manual_reads c.args.path c.requires.usable.serves.served (found_shape c.structure.ensures c.in-Some.is) o (sym c.is_manual.ensures ∙ c.if-is_manual.true)) c.last_member.ensures.reads

pub returns-then-is_manual-clause-causes : goal.returns-then-is_manual-clause-causes
returns-then-is_manual-clause-causes g c =
    let desc = as_described c.args.desc.now in
    let o = c.args.over.now in
    causes_or_on (BadSubset desc c.args.path o) (BadPath desc c.args.path o) c.last_member.result (under o) (under o) (under c.last_member.new.over)
    (subset_path c.args.path c.requires.usable.serves.served (found_shape c.structure.ensures c.in-Some.is) o c.requires.usable) refl (lasts_none (under o)) (same_none (under o)) c.last_member.ensures.causes

pub last_listed-requires-clause-kept : goal.last_listed-requires-clause-kept
last_listed-requires-clause-kept g c =
    kept_here c.args.path c.requires.usable.serves.served (found_shape c.structure.ensures c.in-Some.is) (sym c.is_data_set.ensures ∙ c.if-is_data_set.false) (sym c.is_manual.ensures ∙ c.if-is_manual.false)

pub last_listed-requires-clause-there : goal.last_listed-requires-clause-there
last_listed-requires-clause-there g c =
    there_is c.args.path c.requires.usable.serves.served (found_shape c.structure.ensures c.in-Some.is)

pub returns-else-is_manual-clause-found : goal.returns-else-is_manual-clause-found
returns-else-is_manual-clause-found g c =
    let desc = as_described c.args.desc.now in
    let o = c.args.over.now in
    subst (λ (n : ℕ). MayStart desc n c.args.owner c.args.to.now → Tells (db_of desc (under o).told (under o).content) c.last_listed.result (λ d. last_member desc d n c.args.owner c.args.to.now))
    (number_is c.args.path c.requires.usable.serves.served (found_shape c.structure.ensures c.in-Some.is)) c.last_listed.ensures.found

pub returns-else-is_manual-clause-fits : goal.returns-else-is_manual-clause-fits
returns-else-is_manual-clause-fits g c =
    subst (λ (n : ℕ). IfOk c.last_listed.result (λ o. IfSome o (SpotFits (as_described c.args.desc.now) n))) (number_is c.args.path c.requires.usable.serves.served (found_shape c.structure.ensures c.in-Some.is)) c.last_listed.ensures.fits

pub returns-else-is_manual-clause-reads : goal.returns-else-is_manual-clause-reads
returns-else-is_manual-clause-reads g c =
    let o = c.args.over.now in
    subst (λ (n : ℕ). ReadsOverlay n c.last_listed.result o c.last_listed.new.over) (kept_reads c.args.path c.requires.usable.serves.served (found_shape c.structure.ensures c.in-Some.is) o (sym c.is_data_set.ensures ∙ c.if-is_data_set.false)) c.last_listed.ensures.reads

pub returns-else-is_manual-clause-causes : goal.returns-else-is_manual-clause-causes
returns-else-is_manual-clause-causes g c =
    let o = c.args.over.now in
    subst (λ (n : ℕ). HasCausesOr (BadPath (as_described c.args.desc.now) n o) c.last_listed.result (under o) (under c.last_listed.new.over)) (number_is c.args.path c.requires.usable.serves.served (found_shape c.structure.ensures c.in-Some.is)) c.last_listed.ensures.causes
