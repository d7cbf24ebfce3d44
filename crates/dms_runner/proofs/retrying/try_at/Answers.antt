use Rattle.std.proofs.Common.{◌≡◌, ◌∙◌, Some, sym, ap, subst}
use Rattle.std.specs.Prelude.{slice_get, option_copied}
use Rattle.dms_desc.specs.Shape.{as_described}
use Rattle.dms_storeverbs.specs.View.{engine_view}
use Rattle.dms_runner.specs.Events.{fate_of, PerformsPrefix}
use Rattle.dms_runner.specs.Starting.{AtSession, LineTried}
use Rattle.dms_runner.specs.Waiting.{tries}
use Rattle.dms_runner.specs.declared.waiting.WaitingLine.{WaitingLine as LineWaiting}
use Rattle.dms_runner.proofs.Always.{then_ok}
use Rattle.dms_runner.proofs.Verbs.{same_line, no_line, verb_in}
use Rattle.dms_runner.proofs.retrying.try_at.Goals as goal

pub try_line-requires-clause-verb : goal.try_line-requires-clause-verb
try_line-requires-clause-verb g c = verb_in (as_described c.args.engine.now.desc) c.args.slots.now c.args.slot c.in-Some.line.now (ap option_copied (sym c.in-Some.is) ∙ c.line_in.ensures) c.requires.verbs

pub returns-in-Some-clause-tried : goal.returns-in-Some-clause-tried
returns-in-Some-clause-tried g c = then_ok c.try_line.result
    (λ answered. AtSession c.args.engine.now (λ s. LineTried c.args.engine.now c.try_line.new.engine s c.in-Some.line.now answered))
    (λ answered. (h : LineWaiting) → slice_get c.args.slots.now c.args.slot ≡ Some (Some h) → AtSession c.args.engine.now (λ s. LineTried c.args.engine.now c.try_line.new.engine s h answered))
    (λ answered tried h is. subst (λ (x : LineWaiting). AtSession c.args.engine.now (λ s. LineTried c.args.engine.now c.try_line.new.engine s x answered))
    (same_line c.args.slots.now c.args.slot c.in-Some.line.now h (ap option_copied (sym c.in-Some.is) ∙ c.line_in.ensures) is) tried)
    c.try_line.ensures.tried

pub returns-in-Some-clause-part : goal.returns-in-Some-clause-part
returns-in-Some-clause-part g c = λ h is s stands may.
    subst (λ (x : LineWaiting). PerformsPrefix (fate_of c.try_line.result) (engine_view c.args.engine.now) (engine_view c.try_line.new.engine) (tries (as_described c.args.engine.now.desc) s x))
    (same_line c.args.slots.now c.args.slot c.in-Some.line.now h (ap option_copied (sym c.in-Some.is) ∙ c.line_in.ensures) is) (c.try_line.ensures.part s stands may)

pub returns-in-None-clause-tried : goal.returns-in-None-clause-tried
returns-in-None-clause-tried g c = λ h is. absurd (no_line c.args.slots.now c.args.slot h (ap option_copied (sym c.in-None.is) ∙ c.line_in.ensures) is)
