use Rattle.std.proofs.Common.{◌≡◌, ◌∙◌, ◌++◌, ◌∷◌, [], Global, List, refl, sym, ap, length, append-nil, append_assoc}
use Rattle.std.specs.declared.option.Option.{Option}
use Rattle.std.specs.declared.vec.IntoIter.{IntoIter}
use Rattle.dms_runner.specs.declared.waiting.WaitingLine.{WaitingLine as LineWaiting}
use Rattle.dms_runner.specs.Firsts.{standing}
use Rattle.dms_runner.proofs.Firsts.{standing_on}
use Rattle.dms_runner.proofs.slots.into_lines.Goals as goal

none_left : (l : List (Option LineWaiting)) → length l ≡ 0 → l ≡ []
none_left [] is = refl
none_left (x ∷ l) is = absurd (cc)

pub loop-slot-init : goal.loop-slot-init
loop-slot-init c =
    ap (λ (l : List LineWaiting). l ++ standing c.into_iter-slot-iterator.result.rest.items) c.new-lines.ensures.items
    ∙ ap standing (ap (λ (i : IntoIter (Option LineWaiting) Global). i.rest.items) c.into_iter-slot-iterator.ensures.into_iter_gives ∙ c.into_iter-slot-items.ensures.rest)

pub loop-slot-preserved : goal.loop-slot-preserved
loop-slot-preserved c =
    ap (λ (l : List LineWaiting). l ++ standing c.next.new.self.rest.items) c.in_ok-push_line.ensures ∙ append_assoc c.loop-slot.lines.items (standing (c.in-Some.slot ∷ [])) (standing c.next.new.self.rest.items)
    ∙ ap (λ (l : List LineWaiting). c.loop-slot.lines.items ++ l) (sym (standing_on (c.in-Some.slot ∷ []) c.next.new.self.rest.items))
    ∙ ap (λ (l : List (Option LineWaiting)). c.loop-slot.lines.items ++ standing l) (sym c.in-Some.ensures.steps.0) ∙ c.loop-slot.invariant

pub returns : goal.returns
returns c =
    sym (ap (λ (l : List (Option LineWaiting)). c.loop-slot.lines.items ++ standing l) (none_left c.loop-slot.slot-iterator.rest.items (sym c.loop-slot.slot-iterator.rest.ok.0 ∙ c.in-None.ensures.steps.0)) ∙ append-nil c.loop-slot.lines.items)
    ∙ c.loop-slot.invariant
