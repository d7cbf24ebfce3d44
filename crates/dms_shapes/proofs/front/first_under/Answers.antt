use Rattle.std.proofs.Common.{◌≡◌, ◌∙◌, ℕ, List, Bool, false, true, sym, ap, subst, length, replicate, slice_get, slice_set, arith}
use Rattle.std.specs.Prelude.{slice_index_or}
use Rattle.dms_shapes.proofs.Fronts.{first_is, no_root_ahead, none_kept, tree_ahead}
use Rattle.dms_shapes.proofs.Wholes.{AllButHead, head_met, nothing_under}
use Rattle.dms_shapes.specs.Trees.{BottomAnswer, HasBottom, NoTree}
use Rattle.dms_shapes.specs.Walking.{IsAhead}
use Rattle.dms_tree.specs.TreeIn.{tree_in}
use Rattle.dms_shapes.proofs.front.first_under.Goals as goal

pub returns-then-root-eq0-clause-first : goal.returns-then-root-eq0-clause-first
returns-then-root-eq0-clause-first g c told count free head xs is =
    no_root_ahead c.args.width (g.V.View.content c.args.view.now c.args.file) xs c.args.root free (λ e. absurd (omega (arith, e, count, c.requires.some))) is head c.if-root-eq0.true

pub returns-in-Some-clause-first : goal.returns-in-Some-clause-first
returns-in-Some-clause-first g c told count free head xs is =
    let w = c.args.width in
    let root = c.args.root in
    let bs = g.V.View.content c.args.view.now c.args.file in
    let start = c.deref_mut-marks.result.now in
    let seen = c.levels_under.new.seen in
    let b = c.in-Some.bottom in
    let ns = b.level.numbers.items in
    let marks : start ≡ slice_set (replicate c.args.count false) 0 true = c.deref_mut-marks.ensures.value ∙ c.in_ok-seen.ensures in
    let begun : AllButHead start (length bs) = subst (λ n. AllButHead start n) count (subst (λ (l : List Bool). AllButHead l c.args.count) (sym marks) (head_met c.args.count c.requires.some)) in
    let has : HasBottom w (slice_get bs) root start seen b.met ns b.level.fences.items = subst (BottomAnswer w (slice_get bs) root start seen) c.in-Some.is (c.in_ok-bottom.ensures.answer told begun.long) in
    let ahead = tree_ahead w bs xs root free ns (λ e. absurd (omega (arith, e, count, c.requires.some))) head is (λ us ls grown. (has.only us ls grown).1) in
    subst (λ n. IsAhead w bs n xs) (sym (c.number_at.ensures ∙ ap (λ (l : List ℕ). slice_index_or l 0 0) c.deref.ensures.value ∙ first_is ns)) ahead

pub returns-clause-first : goal.returns-clause-first
returns-clause-first g c told count free head xs is =
    let w = c.args.width in
    let root = c.args.root in
    let bs = g.V.View.content c.args.view.now c.args.file in
    let start = c.deref_mut-marks.result.now in
    let seen = c.levels_under.new.seen in
    let marks : start ≡ slice_set (replicate c.args.count false) 0 true = c.deref_mut-marks.ensures.value ∙ c.in_ok-seen.ensures in
    let begun : AllButHead start (length bs) = subst (λ n. AllButHead start n) count (subst (λ (l : List Bool). AllButHead l c.args.count) (sym marks) (head_met c.args.count c.requires.some)) in
    let none : NoTree w (slice_get bs) root start = subst (BottomAnswer w (slice_get bs) root start seen) c.in-None.is (c.in_ok-bottom.ensures.answer told begun.long) in
    absurd (none_kept (tree_in w bs) xs (nothing_under w bs root free start begun head none) is)
