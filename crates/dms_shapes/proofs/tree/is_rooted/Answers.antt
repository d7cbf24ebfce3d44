use Rattle.std.proofs.Common.{◌≡◌, ◌+◌, ◌∙◌, ℕ, List, Bool, true, false, eqb, refl, sym, ap, subst, length, replicate, slice_get, Some, None, arith}
use Rattle.std.specs.Prelude.{is_some, slice_set}
use Rattle.std.proofs.lemmas.Bool.Decides.{nat_tests}
use Rattle.dms_block.specs.Content.{Content}
use Rattle.dms_shapes.specs.Trees.{HasTree, TreeAnswer}
use Rattle.dms_shapes.specs.Walks.{HasSpares, SparesAnswer}
use Rattle.dms_shapes.proofs.Wholes.{AllButHead, all_tree, head_met, nothing_free, nothing_under, wrong_sum}
use Rattle.dms_tree.specs.TreeIn.{tree_in}
use Rattle.dms_shapes.proofs.tree.is_rooted.Goals as goal

pub returns-in-None-clause-is : goal.returns-in-None-clause-is
returns-in-None-clause-is g c told count head =
    let bs = g.V.View.content c.args.view.now c.args.file in
    let start = c.deref_mut-marks.result.now in
    let is : start ≡ slice_set (replicate c.args.count false) 0 true = c.deref_mut-marks.ensures.value ∙ c.in_ok-seen.ensures in
    let begun : AllButHead start (length bs) = subst (λ n. AllButHead start n) count (subst (λ (l : List Bool). AllButHead l c.args.count) (sym is) (head_met c.args.count c.requires.some)) in
    sym (nothing_under c.args.width bs c.args.head.root c.args.head.free start begun head
    (subst (TreeAnswer c.args.width (slice_get bs) c.args.head.root start c.tree_under.new.seen) c.in-None.is (c.in_ok-met.ensures.answer told begun.long begun.head)))

pub returns-in-None-2-clause-is : goal.returns-in-None-2-clause-is
returns-in-None-2-clause-is g c told count head =
    let bs = g.V.View.content c.args.view.now c.args.file in
    let start = c.deref_mut-marks.result.now in
    let mid = c.tree_under.new.seen in
    let is : start ≡ slice_set (replicate c.args.count false) 0 true = c.deref_mut-marks.ensures.value ∙ c.in_ok-seen.ensures in
    let begun : AllButHead start (length bs) = subst (λ n. AllButHead start n) count (subst (λ (l : List Bool). AllButHead l c.args.count) (sym is) (head_met c.args.count c.requires.some)) in
    let w : HasTree c.args.width (slice_get bs) c.args.head.root start mid c.in-Some.met = subst (TreeAnswer c.args.width (slice_get bs) c.args.head.root start mid) c.in-Some.is (c.in_ok-met.ensures.answer told begun.long begun.head) in
    let still = c.in_ok-met.ensures.looks.content told in
    let long : length mid ≡ length (g.V.View.content c.tree_under.new.view c.args.file) = c.in_ok-met.ensures.long ∙ begun.long ∙ ap (λ (x : Content). length (x c.args.file)) (sym still) in
    let none = subst (λ (x : Content). SparesAnswer (slice_get (x c.args.file)) c.args.head.free mid c.spares_from.new.seen None) still
    (subst (SparesAnswer (slice_get (g.V.View.content c.tree_under.new.view c.args.file)) c.args.head.free mid c.spares_from.new.seen) c.in-None-2.is (c.in_ok-free.ensures.answer told long)) in
    sym (nothing_free c.args.width bs c.args.head.root c.args.head.free start begun head mid c.in-Some.met w c.in_ok-met.ensures.long none)

by_count : (width n count : ℕ) (bs : List (List ℕ)) (t : Bool) → eqb n count ≡ t → (n ≡ count → is_some (tree_in width bs) ≡ true) → ((n ≡ count → ⊥) → is_some (tree_in width bs) ≡ false) → eqb n count ≡ is_some (tree_in width bs)
by_count width n count bs true is same off = is ∙ sym (same (grind (arith, nat_tests, is)))
by_count width n count bs false is same off = is ∙ sym (off (λ e. differ n count e is))
  where
    differ : (n count : ℕ) → n ≡ count → eqb n count ≡ false → ⊥
    differ n count e is = grind (arith, nat_tests, e, is)

pub returns-clause-is : goal.returns-clause-is
returns-clause-is g c told count head =
    let bs = g.V.View.content c.args.view.now c.args.file in
    let start = c.deref_mut-marks.result.now in
    let mid = c.tree_under.new.seen in
    let seen = c.spares_from.new.seen in
    let is : start ≡ slice_set (replicate c.args.count false) 0 true = c.deref_mut-marks.ensures.value ∙ c.in_ok-seen.ensures in
    let begun : AllButHead start (length bs) = subst (λ n. AllButHead start n) count (subst (λ (l : List Bool). AllButHead l c.args.count) (sym is) (head_met c.args.count c.requires.some)) in
    let w : HasTree c.args.width (slice_get bs) c.args.head.root start mid c.in-Some.met = subst (TreeAnswer c.args.width (slice_get bs) c.args.head.root start mid) c.in-Some.is (c.in_ok-met.ensures.answer told begun.long begun.head) in
    let still = c.in_ok-met.ensures.looks.content told in
    let long : length mid ≡ length (g.V.View.content c.tree_under.new.view c.args.file) = c.in_ok-met.ensures.long ∙ begun.long ∙ ap (λ (x : Content). length (x c.args.file)) (sym still) in
    let v : HasSpares (slice_get bs) c.args.head.free mid seen c.in-Some-2.free 0 = subst (λ (x : Content). SparesAnswer (slice_get (x c.args.file)) c.args.head.free mid seen (Some c.in-Some-2.free)) still
    (subst (SparesAnswer (slice_get (g.V.View.content c.tree_under.new.view c.args.file)) c.args.head.free mid seen) c.in-Some-2.is (c.in_ok-free.ensures.answer told long)) in
    by_count c.args.width (1 + c.in-Some.met + c.in-Some-2.free) c.args.count bs _ refl
    (λ e. all_tree c.args.width bs c.args.head.root c.args.head.free start begun head mid c.in-Some.met w seen c.in-Some-2.free v (e ∙ count))
    (λ off. wrong_sum c.args.width bs c.args.head.root c.args.head.free start begun head mid c.in-Some.met w seen c.in-Some-2.free v (λ e. off (e ∙ sym count)))
