use Rattle.std.proofs.Common.{◌≡◌, ◌+◌, ◌∙◌, ℕ, List, Bool, true, false, eqb, refl, sym, ap, subst, length, replicate, slice_get, Some, None, arith}
use Rattle.std.specs.Prelude.{is_some}
use Rattle.std.proofs.lemmas.Bool.Decides.{nat_tests}
use Rattle.dms_block.specs.Content.{Content}
use Rattle.dms_chain.specs.ListIn.{list_in}
use Rattle.dms_shapes.specs.ListShapes.{AllFresh, all_list, none_met, no_leaves_no_list, no_spares_no_list, wrong_count}
use Rattle.dms_shapes.specs.Walks.{HasLeaves, HasSpares, LeavesAnswer, SparesAnswer}
use Rattle.dms_shapes.proofs.list.are_chains.Goals as goal

pub returns-in-None-clause-is : goal.returns-in-None-clause-is
returns-in-None-clause-is g c told count head =
    let bs = g.V.View.content c.args.view.now c.args.file in
    let start = c.deref_mut-marks.result.now in
    let is : start ≡ replicate c.args.count false = c.deref_mut-marks.ensures.value ∙ c.in_ok-seen.ensures in
    let fresh : AllFresh start (length bs) = subst (λ n. AllFresh start n) count (subst (λ (l : List Bool). AllFresh l c.args.count) (sym is) (none_met c.args.count)) in
    sym (no_leaves_no_list c.args.width bs c.args.head.first c.args.head.free start fresh head
    (subst (LeavesAnswer c.args.width (slice_get bs) c.args.head.first start c.leaves_from.new.seen) c.in-None.is (c.in_ok-met.ensures.answer told fresh.long)))

pub returns-in-None-2-clause-is : goal.returns-in-None-2-clause-is
returns-in-None-2-clause-is g c told count head =
    let bs = g.V.View.content c.args.view.now c.args.file in
    let start = c.deref_mut-marks.result.now in
    let mid = c.leaves_from.new.seen in
    let is : start ≡ replicate c.args.count false = c.deref_mut-marks.ensures.value ∙ c.in_ok-seen.ensures in
    let fresh : AllFresh start (length bs) = subst (λ n. AllFresh start n) count (subst (λ (l : List Bool). AllFresh l c.args.count) (sym is) (none_met c.args.count)) in
    let w : HasLeaves c.args.width (slice_get bs) c.args.head.first start mid c.in-Some.met = subst (LeavesAnswer c.args.width (slice_get bs) c.args.head.first start mid) c.in-Some.is (c.in_ok-met.ensures.answer told fresh.long) in
    let still = c.in_ok-met.ensures.looks.content told in
    let long : length mid ≡ length (g.V.View.content c.leaves_from.new.view c.args.file) = c.in_ok-met.ensures.long ∙ fresh.long ∙ ap (λ (x : Content). length (x c.args.file)) (sym still) in
    let none = subst (λ (x : Content). SparesAnswer (slice_get (x c.args.file)) c.args.head.free mid c.spares_from.new.seen None) still
    (subst (SparesAnswer (slice_get (g.V.View.content c.leaves_from.new.view c.args.file)) c.args.head.free mid c.spares_from.new.seen) c.in-None-2.is (c.in_ok-free.ensures.answer told long)) in
    sym (no_spares_no_list c.args.width bs c.args.head.first c.args.head.free start fresh head mid c.in-Some.met w c.in_ok-met.ensures.long none)

by_count : (width n count : ℕ) (bs : List (List ℕ)) (t : Bool) → eqb n count ≡ t → (n ≡ count → is_some (list_in width bs) ≡ true) → ((n ≡ count → ⊥) → is_some (list_in width bs) ≡ false) → eqb n count ≡ is_some (list_in width bs)
by_count width n count bs true is same off = is ∙ sym (same (grind (arith, nat_tests, is)))
by_count width n count bs false is same off = is ∙ sym (off (λ e. differ n count e is))
  where
    differ : (n count : ℕ) → n ≡ count → eqb n count ≡ false → ⊥
    differ n count e is = grind (arith, nat_tests, e, is)

pub returns-clause-is : goal.returns-clause-is
returns-clause-is g c told count head =
    let bs = g.V.View.content c.args.view.now c.args.file in
    let start = c.deref_mut-marks.result.now in
    let mid = c.leaves_from.new.seen in
    let seen = c.spares_from.new.seen in
    let is : start ≡ replicate c.args.count false = c.deref_mut-marks.ensures.value ∙ c.in_ok-seen.ensures in
    let fresh : AllFresh start (length bs) = subst (λ n. AllFresh start n) count (subst (λ (l : List Bool). AllFresh l c.args.count) (sym is) (none_met c.args.count)) in
    let w : HasLeaves c.args.width (slice_get bs) c.args.head.first start mid c.in-Some.met = subst (LeavesAnswer c.args.width (slice_get bs) c.args.head.first start mid) c.in-Some.is (c.in_ok-met.ensures.answer told fresh.long) in
    let still = c.in_ok-met.ensures.looks.content told in
    let long : length mid ≡ length (g.V.View.content c.leaves_from.new.view c.args.file) = c.in_ok-met.ensures.long ∙ fresh.long ∙ ap (λ (x : Content). length (x c.args.file)) (sym still) in
    let v : HasSpares (slice_get bs) c.args.head.free mid seen c.in-Some-2.free 0 = subst (λ (x : Content). SparesAnswer (slice_get (x c.args.file)) c.args.head.free mid seen (Some c.in-Some-2.free)) still
    (subst (SparesAnswer (slice_get (g.V.View.content c.leaves_from.new.view c.args.file)) c.args.head.free mid seen) c.in-Some-2.is (c.in_ok-free.ensures.answer told long)) in
    by_count c.args.width (1 + c.in-Some.met + c.in-Some-2.free) c.args.count bs _ refl
    (λ e. all_list c.args.width bs c.args.head.first c.args.head.free start fresh head mid c.in-Some.met w seen c.in-Some-2.free v (e ∙ count))
    (λ off. wrong_count c.args.width bs c.args.head.first c.args.head.free start fresh head mid c.in-Some.met w seen c.in-Some-2.free v (λ e. off (e ∙ sym count)))
