use Rattle.std.proofs.Common.{◌≡◌, ◌∙◌, Some, None, true, false, sym}
use Rattle.dms_desc.specs.Shape.{as_described}
use Rattle.dms_model.specs.Session.{current_of, holds}
use Rattle.dms_storeverbs.specs.Judging.{missing_target}
use Rattle.dms_storeverbs.proofs.Related.{assign_none, assign_outside, assign_unlocked, assign_untargeted, refused_so}
use Rattle.dms_storeverbs.proofs.judging.judge_assign.Goals as goal

pub returns-then-not-works-clause-refused : goal.returns-then-not-works-clause-refused
returns-then-not-works-clause-refused c = λ i s.
    let p = c.args.program.now in
    let idle : p.in_transaction ≡ false = sym c.works.ensures ∙ c.if-not-works.true in
    refused_so s _ c.new.result _ p.name c.program_name.result (assign_outside (as_described c.args.desc.now) i p s c.args.set c.args.to c.args.item idle) c.new.ensures c.program_name.ensures

pub returns-in-Some-clause-refused : goal.returns-in-Some-clause-refused
returns-in-Some-clause-refused c = λ i s.
    let p = c.args.program.now in
    let works : p.in_transaction ≡ true = sym c.works.ensures ∙ c.if-not-works.false in
    let misses : missing_target c.args.to p ≡ Some c.in-Some.target = sym c.missing_target.ensures ∙ c.in-Some.is in
    refused_so s _ c.new-in-Some.result _ _ c.name_of.result (assign_untargeted (as_described c.args.desc.now) i p s c.args.set c.args.to c.args.item c.in-Some.target works misses) c.new-in-Some.ensures c.name_of.ensures

pub returns-in_default-current_at-clause-refused : goal.returns-in_default-current_at-clause-refused
returns-in_default-current_at-clause-refused c = λ i s.
    let p = c.args.program.now in
    let works : p.in_transaction ≡ true = sym c.works.ensures ∙ c.if-not-works.false in
    let there : missing_target c.args.to p ≡ None = sym c.missing_target.ensures ∙ c.in_default.is in
    let none : current_of p c.args.set ≡ None = sym c.current_at.ensures ∙ c.in_default-current_at.is in
    refused_so s _ c.new-in_default-current_at.result _ _ c.name_of-in_default-current_at.result (assign_none (as_described c.args.desc.now) i p s c.args.set c.args.to c.args.item works there none) c.new-in_default-current_at.ensures c.name_of-in_default-current_at.ensures

pub returns-then-not-holds-clause-refused : goal.returns-then-not-holds-clause-refused
returns-then-not-holds-clause-refused c = λ i s.
    let p = c.args.program.now in
    let n = c.in-Some-current_at.number in
    let works : p.in_transaction ≡ true = sym c.works.ensures ∙ c.if-not-works.false in
    let there : missing_target c.args.to p ≡ None = sym c.missing_target.ensures ∙ c.in_default.is in
    let has : current_of p c.args.set ≡ Some n = sym c.current_at.ensures ∙ c.in-Some-current_at.is in
    let free : holds p c.args.set (Some n) ≡ false = sym c.holds.ensures ∙ c.if-not-holds.true in
    refused_so s _ c.new-then-not-holds.result _ _ c.name_of-then-not-holds.result (assign_unlocked (as_described c.args.desc.now) i p s c.args.set c.args.to c.args.item n works there has free) c.new-then-not-holds.ensures c.name_of-then-not-holds.ensures
