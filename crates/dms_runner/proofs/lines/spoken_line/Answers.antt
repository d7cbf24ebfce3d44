use Rattle.std.proofs.Common.{◌≡◌, ◌∙◌, [], ◌∷◌, ◌++◌, ℕ, List, true, false, sym, ap, subst, arith, length}
use Rattle.dms_block.specs.declared.block_fault.BlockFault.TheVariants.{Memory}
use Rattle.dms_desc.specs.Shape.{as_described}
use Rattle.dms_runner.specs.Events.{fate_of, PerformsPrefix}
use Rattle.dms_storeverbs.specs.View.{engine_view, view, StandsFor}
use Rattle.dms_script.specs.declared.line.Line.TheVariants.{Verb as Spoken}
use Rattle.dms_runner.specs.declared.waiting.WaitingLine.{WaitingLine as LineWaiting}
use Rattle.dms_runner.specs.Waiting.{has_line}
use Rattle.dms_runner.specs.Answers.{RunState, LineEffect, MayTakeLine, first_line, line_effect, tried_first}
use Rattle.dms_runner.specs.Trying.{MatchesLine}
use Rattle.dms_runner.proofs.Always.{then_ok}
use Rattle.dms_runner.proofs.Happening.{ran_none, part_none, had_room}
use Rattle.dms_runner.proofs.Verbs.{held_more}
use Rattle.dms_runner.proofs.Lining.{goes_waiting, goes_full, spoken_waiting, spoken_tried}
use Rattle.dms_runner.specs.Firsts.{lines_of}
use Rattle.dms_runner.proofs.lines.spoken_line.Goals as goal

pub returns-then-not-has_line-clause-lined : goal.returns-then-not-has_line-clause-lined
returns-then-not-has_line-clause-lined g c = then_ok c.first_try.result
    (λ on. (now : RunState) → StandsFor (view c.args.engine.now) now.session → now.waiting ≡ (lines_of c.args.waiting.now) → now.line ≡ c.args.line → MayTakeLine (as_described c.args.engine.now.desc) now → MatchesLine (tried_first (as_described c.args.engine.now.desc) now c.args.name c.args.verb) on (view c.first_try.new.engine) (lines_of c.first_try.new.waiting) (engine_view c.args.engine.now) (engine_view c.first_try.new.engine))
    (λ on. (now : RunState) → StandsFor (view c.args.engine.now) now.session → now.waiting ≡ (lines_of c.args.waiting.now) → now.line ≡ c.args.line → MayTakeLine (as_described c.args.engine.now.desc) now → MatchesLine (line_effect (as_described c.args.engine.now.desc) now (Spoken c.args.name c.args.verb)) on (view c.first_try.new.engine) (lines_of c.first_try.new.waiting) (engine_view c.args.engine.now) (engine_view c.first_try.new.engine))
    (λ on lined now stands same line may.
    let has : has_line now.waiting c.args.name ≡ false = ap (λ (l : List LineWaiting). has_line l c.args.name) same ∙ sym c.has_line.ensures ∙ c.if-not-has_line.true in
    subst (λ (l : LineEffect). MatchesLine l on (view c.first_try.new.engine) (lines_of c.first_try.new.waiting) (engine_view c.args.engine.now) (engine_view c.first_try.new.engine)) (sym (spoken_tried (as_described c.args.engine.now.desc) now c.args.name c.args.verb has)) (lined now stands same line may))
    c.first_try.ensures.lined

pub returns-then-not-has_line-clause-part : goal.returns-then-not-has_line-clause-part
returns-then-not-has_line-clause-part g c = λ now stands same line may.
    let has : has_line now.waiting c.args.name ≡ false = ap (λ (l : List LineWaiting). has_line l c.args.name) same ∙ sym c.has_line.ensures ∙ c.if-not-has_line.true in
    subst (λ (l : LineEffect). PerformsPrefix (fate_of c.first_try.result) (engine_view c.args.engine.now) (engine_view c.first_try.new.engine) l.events) (sym (spoken_tried (as_described c.args.engine.now.desc) now c.args.name c.args.verb has)) (c.first_try.ensures.part now stands same line may)

pub returns-clause-verbs : goal.returns-clause-verbs
returns-clause-verbs g c = held_more (as_described c.args.engine.now.desc) c.args.waiting.now c.hold.new.waiting _ c.in_ok-hold.ensures.lines c.in_ok-hold.ensures.firsts c.requires.verb c.requires.verbs

pub returns-then-waiting-ge-WAITING_LINES-clause-lined : goal.returns-then-waiting-ge-WAITING_LINES-clause-lined
returns-then-waiting-ge-WAITING_LINES-clause-lined g c = λ now stands same line may.
    let has : has_line now.waiting c.args.name ≡ true = ap (λ (l : List LineWaiting). has_line l c.args.name) same ∙ sym c.has_line.ensures ∙ c.if-not-has_line.false in
    subst (λ (l : LineEffect). MatchesLine l false (view c.args.engine.now) (lines_of c.args.waiting.now) (engine_view c.args.engine.now) (engine_view c.args.engine.now)) (sym (spoken_waiting (as_described c.args.engine.now.desc) now c.args.name c.args.verb has))
    (goes_full now now.session (first_line now.line c.args.name c.args.verb false) [] [] _ _ _ _ (omega (arith, ap length same, c.if-waiting-ge-WAITING_LINES.true, c.requires.verbs.firsts.count)) stands (sym same) (ran_none _))

pub returns-then-waiting-ge-WAITING_LINES-clause-part : goal.returns-then-waiting-ge-WAITING_LINES-clause-part
returns-then-waiting-ge-WAITING_LINES-clause-part g c = λ now stands same line may. part_none (λ n none. none) _ _

pub returns-in_err-hold-clause-part : goal.returns-in_err-hold-clause-part
returns-in_err-hold-clause-part g c = λ now stands same line may. part_none (had_room c.from_residual.result Memory c.from_residual.ensures.1 tt) _ _

pub returns-clause-lined : goal.returns-clause-lined
returns-clause-lined g c = λ now stands same line may.
    let has : has_line now.waiting c.args.name ≡ true = ap (λ (l : List LineWaiting). has_line l c.args.name) same ∙ sym c.has_line.ensures ∙ c.if-not-has_line.false in
    subst (λ (l : LineEffect). MatchesLine l true (view c.args.engine.now) (lines_of c.hold.new.waiting) (engine_view c.args.engine.now) (engine_view c.args.engine.now)) (sym (spoken_waiting (as_described c.args.engine.now.desc) now c.args.name c.args.verb has))
    (goes_waiting now now.session (first_line now.line c.args.name c.args.verb false) [] [] _ _ _ _ (omega (arith, ap length same, c.if-waiting-ge-WAITING_LINES.false, c.requires.verbs.firsts.count)) stands
    (c.in_ok-hold.ensures.lines ∙ ap (λ (n : ℕ). (lines_of c.args.waiting.now) ++ first_line n c.args.name c.args.verb false ∷ []) (sym line) ∙ ap (λ (l : List LineWaiting). l ++ first_line now.line c.args.name c.args.verb false ∷ []) (sym same)) (ran_none _))

pub returns-clause-part : goal.returns-clause-part
returns-clause-part g c = λ now stands same line may. part_none (λ n none. none) _ _
