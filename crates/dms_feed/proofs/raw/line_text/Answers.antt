use Rattle.std.proofs.Common.{◌≡◌, ◌∙◌, ◌-◌, sym, false, drop, take, ap, length, List, ℕ, arith, length-drop}
use Rattle.std.proofs.lemmas.List.{take_all}
use Rattle.dms_feed.specs.Lines.{is_end}
use Rattle.dms_feed.proofs.Ending.{line_text_on}
use Rattle.dms_feed.proofs.raw.line_text.Goals as goal

pub loop-place-preserved : goal.loop-place-preserved
loop-place-preserved c =
    let xs = c.args.line.now in
    let i = c.loop-place.place in
    let rest : take (length xs - i) (drop i xs) ≡ drop i xs = take_all (length xs - i) (drop i xs) (omega (arith, length-drop i xs)) in
    let shut : is_end (drop i xs) ≡ false = ap (λ (l : List ℕ). is_end l) (sym rest) ∙ sym c.if-is_end.ensures in
    line_text_on xs i c.loop-place-test.true shut c.loop-place.invariant
