use Rattle.std.proofs.Common.{◌≡◌, ◌∙◌, ◌+◌, List, Result, Ok, Err, OnOk, ap, arith, drop}
use Rattle.std.specs.declared.option.Option.{Option}
use Rattle.dms_runner.specs.declared.waiting.WaitingLine.{WaitingLine as LineWaiting}
use Rattle.dms_runner.specs.Firsts.{next_slot}
use Rattle.dms_runner.proofs.Splits.{count_out, first_out, lines_out, slot_is, slots_out, taken_is}
use Rattle.dms_runner.proofs.slots.take_out.Goals as goal

always_ok : {T E : Type 0} (r : Result T E) (P : Type 0) → P → OnOk r P
always_ok (Ok x) P p = p
always_ok (Err e) P p = tt

then_on : {T E : Type 0} (r : Result T E) (P Q : Type 0) → (P → Q) → OnOk r P → OnOk r Q
then_on (Ok x) P Q f p = f p
then_on (Err e) P Q f p = tt

pub returns-clause-lines : goal.returns-clause-lines
returns-clause-lines c = λ f.
    let here = slot_is c.args.waiting.now c.args.j f c.remove-slot.result c.requires.place c.remove-slot.ensures.value in
    let is = slots_out c.args.waiting.now c.args.j f c.empty_slot-taken.new.slots.items c.remove-slot.result here c.empty_slot-taken.ensures.slots in
    always_ok c.put_next.result _ (lines_out c.args.waiting.now c.args.j f c.empty_slot-taken.new.slots.items is)

pub returns-clause-firsts : goal.returns-clause-firsts
returns-clause-firsts c = λ f.
    let here = slot_is c.args.waiting.now c.args.j f c.remove-slot.result c.requires.place c.remove-slot.ensures.value in
    let is = slots_out c.args.waiting.now c.args.j f c.empty_slot-taken.new.slots.items c.remove-slot.result here c.empty_slot-taken.ensures.slots in
    let found : c.next_like-next.result ≡ next_slot (c.remove-slot.result + 1) f.line.program (drop (c.remove-slot.result + 1) c.empty_slot-taken.new.slots.items) =
    c.next_like-next.ensures f.line (taken_is c.args.waiting.now c.args.j f c.remove-slot.result c.empty_slot-taken.result here c.empty_slot-taken.ensures.taken)
    ∙ ap (λ (l : List (Option LineWaiting)). next_slot (c.remove-slot.result + 1) f.line.program (drop (c.remove-slot.result + 1) l)) c.as_slice.ensures.value in
    then_on c.put_next.result _ _ (λ made. record {
      firsts = first_out c.args.waiting.now c.args.j f c.empty_slot-taken.new.slots.items c.remove-slot.result c.next_like-next.result c.remove-slot.new.self.items c.put_next.new.firsts.items c.requires.place here is found c.remove-slot.ensures.items made;
      count = omega (arith, c.saturating_sub-waiting.ensures, count_out c.args.waiting.now c.args.j f c.empty_slot-taken.new.slots.items is);
    }) c.put_next.ensures
