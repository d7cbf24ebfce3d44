use Rattle.std.proofs.Common.{ℕ, List, ◌∙◌, ◌++◌, ap, append_assoc, sym}
use Rattle.std.specs.Prelude.{codes, decimal}
use Rattle.dms_load.specs.declared.phase.Phase.{Phase}
use Rattle.dms_load.specs.Script.{verb_text}
use Rattle.dms_load.proofs.Lines.{choose_odd}
use Rattle.dms_load.proofs.line.add_verb.Goals as goal

pub returns-else-draw-eq0-clause-bytes : goal.returns-else-draw-eq0-clause-bytes
returns-else-draw-eq0-clause-bytes c =
    let old = c.args.line.now.bytes in
    c.add_number.ensures.bytes
    ∙ ap (λ (l : List ℕ). l ++ decimal c.args.key) c.push_str-else-draw-eq0.ensures.bytes
    ∙ append_assoc old (codes "LOCK ACCT-SET AT ANO = ") (decimal c.args.key)
    ∙ ap (λ (l : List ℕ). old ++ l) (sym (choose_odd c.args.key c.args.draw c.if-draw-eq0.false))
    ∙ ap (λ (p : Phase). old ++ verb_text p c.args.key c.args.draw) (sym c.in-Choose.is)

pub returns-in-Store-clause-bytes : goal.returns-in-Store-clause-bytes
unfolding verb_text
returns-in-Store-clause-bytes c = c.push_str-in-Store.ensures.bytes ∙ ap (λ (p : Phase). c.args.line.now.bytes ++ verb_text p c.args.key c.args.draw) (sym c.in-Store.is)

pub returns-in-End-clause-bytes : goal.returns-in-End-clause-bytes
unfolding verb_text
returns-in-End-clause-bytes c = c.push_str-in-End.ensures.bytes ∙ ap (λ (p : Phase). c.args.line.now.bytes ++ verb_text p c.args.key c.args.draw) (sym c.in-End.is)
