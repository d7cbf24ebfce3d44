use Rattle.std.proofs.Common.{◌+◌, ◌<◌, ℕ, drop, length, ap, sym, ◌∙◌}
use Rattle.dasdl_compile.specs.Widths.{parts_width}
use Rattle.dasdl_compile.proofs.Parts.{parts-one}
use Rattle.dasdl_compile.proofs.widths.parts_width.Goals as goal

pub loop-part-preserved : goal.loop-part-preserved
loop-part-preserved c =
    let low : c.loop-part._part-index < length c.args.parts.now = c.loop-part-test.true in
    ap (λ (w : ℕ). parts_width w (drop (c.loop-part._part-index + 1) c.args.parts.now)) c.saturating_add-width.ensures
    ∙ sym (parts-one c.loop-part.width c.args.parts.now c.loop-part._part-index low)
    ∙ c.loop-part.invariant
