use Rattle.std.proofs.Common.{ℕ, ◌∙◌, ◌%◌, ap, get_or}
use Rattle.dms_load.specs.declared.phase.Phase.TheVariants.{Begin}
use Rattle.dms_load.specs.Drawing.{drawing_of}
use Rattle.dms_load.specs.Script.{drawn, next_draw, phase_after}
use Rattle.dms_load.proofs.Lines.{after_by, text_by}
use Rattle.dms_load.proofs.state.LoadState.drawn_line.Goals as goal

pub returns-clause-text : goal.returns-clause-text
returns-clause-text c =
    let first = c.draw-program.ensures.x in
    let second = c.draw.ensures.x ∙ ap (λ (x : ℕ). next_draw x) first in
    let program = ap (λ (n : ℕ). n % 4) c.draw-program.ensures.value in
    let phases = c.draw-done.ensures.others.1 ∙ c.draw.ensures.others.1 ∙ c.draw-program.ensures.others.1 in
    c.phase_line.ensures.bytes
    ∙ text_by (drawing_of c.args.self.now) _ _ _ _ c.requires.opened program (λ i. get_or (phases i) (program i) Begin)
    (c.draw.ensures.value ∙ ap (λ (x : ℕ). drawn (next_draw x)) first)
    (c.draw-done.ensures.value ∙ ap (λ (x : ℕ). drawn (next_draw x)) second)

pub returns-clause-after : goal.returns-clause-after
returns-clause-after c =
    let first = c.draw-program.ensures.x in
    let second = c.draw.ensures.x ∙ ap (λ (x : ℕ). next_draw x) first in
    let program = ap (λ (n : ℕ). n % 4) c.draw-program.ensures.value in
    let phases = c.draw-done.ensures.others.1 ∙ c.draw.ensures.others.1 ∙ c.draw-program.ensures.others.1 in
    after_by (drawing_of c.args.self.now) _ _ _ _ _ c.requires.opened
    (c.draw-done.ensures.others.0 ∙ c.draw.ensures.others.0 ∙ c.draw-program.ensures.others.0)
    (c.draw-done.ensures.x ∙ ap (λ (x : ℕ). next_draw x) second)
    phases program (c.next.ensures ∙ (λ i. phase_after (get_or (phases i) (program i) Begin)))
