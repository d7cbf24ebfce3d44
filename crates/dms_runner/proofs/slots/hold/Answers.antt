use Rattle.std.proofs.Common.{◌≡◌, ◌∙◌, ◌++◌, ◌∷◌, [], ℕ, List, Some, Vec, Global, cond, refl, sym, ap, arith, length, length-append}
use Rattle.std.specs.declared.option.Option.{Option}
use Rattle.dms_runner.specs.declared.waiting.WaitingLine.{WaitingLine as LineWaiting}
use Rattle.dms_runner.specs.Firsts.{first_slots, lines_of, none_seen, standing}
use Rattle.dms_runner.specs.Waiting.{has_line}
use Rattle.dms_runner.proofs.Firsts.{held_firsts, held_lines, held_short}
use Rattle.dms_runner.proofs.slots.hold.Goals as goal

pub overflow_add-waiting : goal.overflow_add-waiting
overflow_add-waiting c = omega (arith, c.note_first.ensures.count, c.let_go.ensures.firsts.count, held_short c.let_go.new.waiting.slots.items, c.let_go.new.waiting.slots.ok.0, ap (λ (l : Vec (Option LineWaiting) Global). l.len) c.note_first.ensures.slots, c.in_ok-push.ensures.len, c.push.new.self.small)

pub returns-clause-lines : goal.returns-clause-lines
returns-clause-lines c =
    ap standing (c.in_ok-push.ensures.items ∙ ap (λ (l : Vec (Option LineWaiting) Global). l.items ++ Some c.args.line ∷ []) c.note_first.ensures.slots) ∙ held_lines c.let_go.new.waiting.slots.items c.args.line ∙ ap (λ (l : List LineWaiting). l ++ c.args.line ∷ []) c.let_go.ensures.lines

pub returns-clause-firsts : goal.returns-clause-firsts
returns-clause-firsts c =
    let slots : c.push.new.self.items ≡ c.let_go.new.waiting.slots.items ++ Some c.args.line ∷ [] = c.in_ok-push.ensures.items ∙ ap (λ (l : Vec (Option LineWaiting) Global). l.items ++ Some c.args.line ∷ []) c.note_first.ensures.slots in
    let t = has_line (lines_of c.let_go.new.waiting) c.args.line.program in
    record {
      firsts =
          c.in_ok-note_first.ensures.firsts ∙ ap (λ (l : List ℕ). l ++ cond t [] (length c.let_go.new.waiting.slots.items ∷ [])) c.let_go.ensures.firsts.firsts
          ∙ sym (held_firsts c.let_go.new.waiting.slots.items c.args.line t refl) ∙ ap (first_slots 0 none_seen) (sym slots);
      count = omega (arith, c.note_first.ensures.count, c.let_go.ensures.firsts.count, ap (λ (l : List (Option LineWaiting)). length (standing l)) slots, ap length (held_lines c.let_go.new.waiting.slots.items c.args.line), length-append (lines_of c.let_go.new.waiting) (c.args.line ∷ []));
    }
