use Rattle.std.proofs.Common.{◌≡◌, ◌∙◌, ℕ, Some, None, true, false, ap, sym}
use Rattle.dms_desc.specs.Lookups.{name_of, structure_of}
use Rattle.dms_desc.specs.Shape.{as_described}
use Rattle.dms_model.specs.Session.{current_of, owner_for}
use Rattle.dms_storeverbs.proofs.Related.{insert_none, insert_outside, insert_unowned, refused_so, remove_none, remove_outside, remove_unowned}
use Rattle.dms_storeverbs.proofs.judging.judge_entry.Goals as goal

pub returns-then-not-works-clause-refused : goal.returns-then-not-works-clause-refused
returns-then-not-works-clause-refused c =
    let p = c.args.program.now in
    let d = as_described c.args.desc.now in
    let idle : p.in_transaction ≡ false = sym c.works.ensures ∙ c.if-not-works.true in
    record {
      insert = λ i s. refused_so s _ c.new.result _ p.name c.program_name.result (insert_outside d i p s c.args.set c.args.subset idle) c.new.ensures c.program_name.ensures;
      remove = λ i s. refused_so s _ c.new.result _ p.name c.program_name.result (remove_outside d i p s c.args.set c.args.subset idle) c.new.ensures c.program_name.ensures;
    }

pub returns-in_default-clause-refused : goal.returns-in_default-clause-refused
returns-in_default-clause-refused c =
    let p = c.args.program.now in
    let d = as_described c.args.desc.now in
    let works : p.in_transaction ≡ true = sym c.works.ensures ∙ c.if-not-works.false in
    let none : current_of p c.args.set ≡ None = sym c.current_at.ensures ∙ c.in_default.is in
    record {
      insert = λ i s. refused_so s _ c.new-in_default.result _ _ c.name_of.result (insert_none d i p s c.args.set c.args.subset works none) c.new-in_default.ensures c.name_of.ensures;
      remove = λ i s. refused_so s _ c.new-in_default.result _ _ c.name_of.result (remove_none d i p s c.args.set c.args.subset works none) c.new-in_default.ensures c.name_of.ensures;
    }

pub returns-in_default-owner_for-clause-refused : goal.returns-in_default-owner_for-clause-refused
returns-in_default-owner_for-clause-refused c =
    let p = c.args.program.now in
    let d = as_described c.args.desc.now in
    let n = c.in-Some.number in
    let works : p.in_transaction ≡ true = sym c.works.ensures ∙ c.if-not-works.false in
    let has : current_of p c.args.set ≡ Some n = sym c.current_at.ensures ∙ c.in-Some.is in
    let none : owner_for d p c.args.subset ≡ None = sym c.owner_for.ensures ∙ c.in_default-owner_for.is in
    let named = c.name_of-in_default-owner_for.ensures ∙ ap (λ (x : ℕ). name_of (structure_of d x)) c.owner_of.ensures in
    record {
      insert = λ i s. refused_so s _ c.new-in_default-owner_for.result _ _ c.name_of-in_default-owner_for.result (insert_unowned d i p s c.args.set c.args.subset n works has none) c.new-in_default-owner_for.ensures named;
      remove = λ i s. refused_so s _ c.new-in_default-owner_for.result _ _ c.name_of-in_default-owner_for.result (remove_unowned d i p s c.args.set c.args.subset n works has none) c.new-in_default-owner_for.ensures named;
    }
