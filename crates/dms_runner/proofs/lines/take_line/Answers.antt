use Rattle.std.proofs.Common.{◌≡◌, ◌+◌, ◌∙◌, ℕ, List, true, sym, ap, subst, take}
use Rattle.dms_block.specs.declared.block_fault.BlockFault.TheVariants.{Memory}
use Rattle.dms_desc.specs.declared.description.Description.{Description}
use Rattle.dms_desc.specs.Shape.{as_described}
use Rattle.dms_runner.specs.Events.{fate_of, PerformsPrefix}
use Rattle.dms_storeverbs.specs.View.{engine_view, view, StandsFor}
use Rattle.dms_script.specs.declared.line.Line.TheVariants.{Empty, Verb as Spoken, Bad}
use Rattle.dms_script.specs.Lines.{line_of}
use Rattle.dms_runner.specs.Answers.{RunState, LineEffect, MayTakeLine, line_step, line_effect, one_line_more}
use Rattle.dms_runner.specs.Trying.{MatchesLine}
use Rattle.dms_runner.proofs.Always.{then_ok}
use Rattle.dms_runner.proofs.InOrder.{line_more}
use Rattle.dms_runner.proofs.Happening.{had_room, part_none}
use Rattle.dms_runner.proofs.LineVerbs.{line_verb}
use Rattle.dms_runner.proofs.Lining.{goes_empty, line_is}
use Rattle.dms_runner.specs.Firsts.{lines_of}
use Rattle.dms_runner.proofs.lines.take_line.Goals as goal

pub returns-in_err-read_line-clause-part : goal.returns-in_err-read_line-clause-part
returns-in_err-read_line-clause-part g c = λ now whole raw stands same line may. part_none (had_room c.from_residual.result Memory c.from_residual.ensures.1 tt) _ _

pub returns-in-Empty-clause-lined : goal.returns-in-Empty-clause-lined
returns-in-Empty-clause-lined g c = λ now whole raw stands same line may.
    let e : line_step (as_described c.args.engine.now.desc) now whole ≡ line_effect (as_described c.args.engine.now.desc) (one_line_more now) Empty = line_is (as_described c.args.engine.now.desc) now whole c.args.raw.now c.line_text.result.now Empty raw c.line_text.ensures (sym c.in-Empty.is ∙ c.in_ok-read_line.ensures ∙ ap (λ (d : Description). line_of (as_described d) c.line_text.result.now) c.description.ensures) in
    subst (λ (l : LineEffect). MatchesLine l true (view c.args.engine.now) (lines_of c.args.waiting.now) (engine_view c.args.engine.now) (engine_view c.args.engine.now)) (sym e) (goes_empty (one_line_more now) _ _ _ stands (sym same))

pub returns-in-Empty-clause-part : goal.returns-in-Empty-clause-part
returns-in-Empty-clause-part g c = λ now whole raw stands same line may. part_none (λ n none. none) _ _

pub returns-in-Bad-clause-lined : goal.returns-in-Bad-clause-lined
returns-in-Bad-clause-lined g c = then_ok c.bad_line.result
    (λ on. (now : RunState) → StandsFor (view c.args.engine.now) now.session → now.waiting ≡ (lines_of c.args.waiting.now) → now.line ≡ c.args.line → MayTakeLine (as_described c.args.engine.now.desc) now → MatchesLine (line_effect (as_described c.args.engine.now.desc) now (Bad c.in-Bad.place)) on (view c.bad_line.new.engine) (lines_of c.bad_line.new.waiting) (engine_view c.args.engine.now) (engine_view c.bad_line.new.engine))
    (λ on. (now : RunState) (whole : List ℕ) → c.args.raw.now ≡ take 2003 whole → StandsFor (view c.args.engine.now) now.session → now.waiting ≡ (lines_of c.args.waiting.now) → now.line + 1 ≡ c.args.line → MayTakeLine (as_described c.args.engine.now.desc) now → MatchesLine (line_step (as_described c.args.engine.now.desc) now whole) on (view c.bad_line.new.engine) (lines_of c.bad_line.new.waiting) (engine_view c.args.engine.now) (engine_view c.bad_line.new.engine))
    (λ on lined now whole raw stands same line may.
    let e : line_step (as_described c.args.engine.now.desc) now whole ≡ line_effect (as_described c.args.engine.now.desc) (one_line_more now) (Bad c.in-Bad.place) = line_is (as_described c.args.engine.now.desc) now whole c.args.raw.now c.line_text.result.now (Bad c.in-Bad.place) raw c.line_text.ensures (sym c.in-Bad.is ∙ c.in_ok-read_line.ensures ∙ ap (λ (d : Description). line_of (as_described d) c.line_text.result.now) c.description.ensures) in
    subst (λ (l : LineEffect). MatchesLine l on (view c.bad_line.new.engine) (lines_of c.bad_line.new.waiting) (engine_view c.args.engine.now) (engine_view c.bad_line.new.engine)) (sym e) (lined (one_line_more now) stands same line (line_more may)))
    c.bad_line.ensures.lined

pub returns-in-Bad-clause-part : goal.returns-in-Bad-clause-part
returns-in-Bad-clause-part g c = λ now whole raw stands same line may.
    let e : line_step (as_described c.args.engine.now.desc) now whole ≡ line_effect (as_described c.args.engine.now.desc) (one_line_more now) (Bad c.in-Bad.place) = line_is (as_described c.args.engine.now.desc) now whole c.args.raw.now c.line_text.result.now (Bad c.in-Bad.place) raw c.line_text.ensures (sym c.in-Bad.is ∙ c.in_ok-read_line.ensures ∙ ap (λ (d : Description). line_of (as_described d) c.line_text.result.now) c.description.ensures) in
    subst (λ (l : LineEffect). PerformsPrefix (fate_of c.bad_line.result) (engine_view c.args.engine.now) (engine_view c.bad_line.new.engine) l.events) (sym e) (c.bad_line.ensures.part (one_line_more now) stands same line (line_more may))

pub spoken_line-requires-clause-verb : goal.spoken_line-requires-clause-verb
spoken_line-requires-clause-verb g c =
    let spoken = sym c.in-Verb.is ∙ c.in_ok-read_line.ensures ∙ ap (λ (d : Description). line_of (as_described d) c.line_text.result.now) c.description.ensures in
    line_verb (as_described c.args.engine.now.desc) c.args.engine.now.formed c.line_text.result.now c.in-Verb.name c.in-Verb.verb (sym spoken)

pub returns-in-Verb-clause-lined : goal.returns-in-Verb-clause-lined
returns-in-Verb-clause-lined g c = then_ok c.spoken_line.result
    (λ on. (now : RunState) → StandsFor (view c.args.engine.now) now.session → now.waiting ≡ (lines_of c.args.waiting.now) → now.line ≡ c.args.line → MayTakeLine (as_described c.args.engine.now.desc) now → MatchesLine (line_effect (as_described c.args.engine.now.desc) now (Spoken c.in-Verb.name c.in-Verb.verb)) on (view c.spoken_line.new.engine) (lines_of c.spoken_line.new.waiting) (engine_view c.args.engine.now) (engine_view c.spoken_line.new.engine))
    (λ on. (now : RunState) (whole : List ℕ) → c.args.raw.now ≡ take 2003 whole → StandsFor (view c.args.engine.now) now.session → now.waiting ≡ (lines_of c.args.waiting.now) → now.line + 1 ≡ c.args.line → MayTakeLine (as_described c.args.engine.now.desc) now → MatchesLine (line_step (as_described c.args.engine.now.desc) now whole) on (view c.spoken_line.new.engine) (lines_of c.spoken_line.new.waiting) (engine_view c.args.engine.now) (engine_view c.spoken_line.new.engine))
    (λ on lined now whole raw stands same line may.
    let e : line_step (as_described c.args.engine.now.desc) now whole ≡ line_effect (as_described c.args.engine.now.desc) (one_line_more now) (Spoken c.in-Verb.name c.in-Verb.verb) = line_is (as_described c.args.engine.now.desc) now whole c.args.raw.now c.line_text.result.now (Spoken c.in-Verb.name c.in-Verb.verb) raw c.line_text.ensures (sym c.in-Verb.is ∙ c.in_ok-read_line.ensures ∙ ap (λ (d : Description). line_of (as_described d) c.line_text.result.now) c.description.ensures) in
    subst (λ (l : LineEffect). MatchesLine l on (view c.spoken_line.new.engine) (lines_of c.spoken_line.new.waiting) (engine_view c.args.engine.now) (engine_view c.spoken_line.new.engine)) (sym e) (lined (one_line_more now) stands same line (line_more may)))
    c.spoken_line.ensures.lined

pub returns-in-Verb-clause-part : goal.returns-in-Verb-clause-part
returns-in-Verb-clause-part g c = λ now whole raw stands same line may.
    let e : line_step (as_described c.args.engine.now.desc) now whole ≡ line_effect (as_described c.args.engine.now.desc) (one_line_more now) (Spoken c.in-Verb.name c.in-Verb.verb) = line_is (as_described c.args.engine.now.desc) now whole c.args.raw.now c.line_text.result.now (Spoken c.in-Verb.name c.in-Verb.verb) raw c.line_text.ensures (sym c.in-Verb.is ∙ c.in_ok-read_line.ensures ∙ ap (λ (d : Description). line_of (as_described d) c.line_text.result.now) c.description.ensures) in
    subst (λ (l : LineEffect). PerformsPrefix (fate_of c.spoken_line.result) (engine_view c.args.engine.now) (engine_view c.spoken_line.new.engine) l.events) (sym e) (c.spoken_line.ensures.part (one_line_more now) stands same line (line_more may))
