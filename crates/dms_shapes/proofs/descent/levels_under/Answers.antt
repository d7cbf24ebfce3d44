use Rattle.std.proofs.Common.{◌≡◌, ◌+◌, ◌-◌, ◌≤◌, ◌∙◌, [], ℕ, List, Some, None, refl, sym, ap, subst, length, slice_get, arith}
use Rattle.std.specs.Prelude.{IfSome}
use Rattle.std.specs.declared.option.Option.{Option}
use Rattle.dms_block.specs.Content.{Content}
use Rattle.dms_shapes.specs.Levels.{LevelAnswer, is_inner_level}
use Rattle.dms_shapes.specs.declared.level.Level.{Level}
use Rattle.dms_shapes.specs.Marks.{AreBelow, Marked}
use Rattle.dms_shapes.specs.Trees.{HasBottom}
use Rattle.dms_shapes.specs.Walks.{AreFresh}
use Rattle.dms_shapes.proofs.Descents.{Descended, at_bottom, at_root, even_down, go_down, met_before, no_under, too_deep}
use Rattle.dms_shapes.proofs.Marking.{fresh_below}
use Rattle.dms_view.specs.Looked.{looked_ok, looks_none, looks_on}
use Rattle.dms_shapes.proofs.descent.levels_under.Goals as goal

pub loop-turn-init : goal.loop-turn-init
loop-turn-init g c =
    let w = c.args.width in
    let root = c.args.root in
    let old = c.args.seen.now in
    let look = slice_get (g.V.View.content c.args.view.now c.args.file) in
    record {
      down = λ told long.
          subst (λ (f : List (List ℕ)). Descended w look root old old 0 0 c.in_ok-level.level.numbers.items f) (sym c.in_ok-level.ensures.fences)
          (subst (λ (k : List ℕ). Descended w look root old old 0 0 k []) (sym c.in_ok-level.ensures.numbers) (at_root w look root (λ e. absurd (omega (arith, e, c.requires.root))) old));
      few = omega (arith, ap (λ (l : List ℕ). length l) c.in_ok-level.ensures.numbers, c.requires.some);
      long = refl;
      looks = looks_none g.V.View c.args.view.now (g.met.V.View.same_again _);
    }

pub returns-then-not-mark_all-clause-answer : goal.returns-then-not-mark_all-clause-answer
returns-then-not-mark_all-clause-answer g c told long =
    let look = slice_get (g.V.View.content c.args.view.now c.args.file) in
    met_before c.args.width look c.args.root (λ e. absurd (omega (arith, e, c.requires.root))) c.args.seen.now c.loop-turn.seen c.loop-turn._turn c.loop-turn.met c.loop-turn.level.numbers.items c.loop-turn.level.fences.items
    (c.loop-turn.invariant.down told long) (subst (λ (k : List ℕ). AreFresh c.loop-turn.seen k → ⊥) c.deref.ensures.value c.if-not-mark_all.ensures.answer)

pub returns-then-not-branch-clause-answer : goal.returns-then-not-branch-clause-answer
returns-then-not-branch-clause-answer g c told long =
    let w = c.args.width in
    let root = c.args.root in
    let file = c.args.file in
    let old = c.args.seen.now in
    let seen = c.loop-turn.seen in
    let now = c.mark_all.new.seen in
    let turn = c.loop-turn._turn in
    let met = c.loop-turn.met in
    let ns = c.loop-turn.level.numbers.items in
    let fs = c.loop-turn.level.fences.items in
    let look = slice_get (g.V.View.content c.args.view.now file) in
    let some : root ≡ 0 → ⊥ = λ e. absurd (omega (arith, e, c.requires.root)) in
    let d = c.loop-turn.invariant.down told long in
    let m : Marked seen now ns = subst (λ (k : List ℕ). Marked seen now k) c.deref.ensures.value c.if-not-mark_all.ensures.answer in
    let size : met + length ns ≡ met + c.len.result = omega (arith, c.len.ensures) in
    let still = c.loop-turn.invariant.looks.content told in
    let count : length seen ≡ length (g.V.View.content c.loop-turn.view file) = c.loop-turn.invariant.long ∙ long ∙ ap (λ (x : Content). length (x file)) (sym still) in
    let below : AreBelow (length (g.V.View.content c.loop-turn.view file)) c.deref-in-loop-turn.result.now = subst (λ (k : List ℕ). AreBelow (length (g.V.View.content c.loop-turn.view file)) k) (sym c.deref-in-loop-turn.ensures.value) (fresh_below seen ns (length (g.V.View.content c.loop-turn.view file)) count m.fresh) in
    let first = ap (λ (x : Content). is_inner_level w (slice_get (x file)) ns) (sym still) ∙ ap (is_inner_level w (slice_get (g.V.View.content c.loop-turn.view file))) (sym c.deref-in-loop-turn.ensures.value) ∙ sym (c.in_ok-is_inner_level.ensures.is told below) in
    subst (λ k. HasBottom w look root old now k ns fs) size (at_bottom w look root some old seen turn met ns fs d now m (first ∙ c.if-not-branch.true))

pub returns-in-None-clause-answer : goal.returns-in-None-clause-answer
returns-in-None-clause-answer g c told long =
    let w = c.args.width in
    let root = c.args.root in
    let file = c.args.file in
    let old = c.args.seen.now in
    let seen = c.loop-turn.seen in
    let now = c.mark_all.new.seen in
    let turn = c.loop-turn._turn in
    let met = c.loop-turn.met in
    let ns = c.loop-turn.level.numbers.items in
    let fs = c.loop-turn.level.fences.items in
    let look = slice_get (g.V.View.content c.args.view.now file) in
    let some : root ≡ 0 → ⊥ = λ e. absurd (omega (arith, e, c.requires.root)) in
    let d = c.loop-turn.invariant.down told long in
    let m : Marked seen now ns = subst (λ (k : List ℕ). Marked seen now k) c.deref.ensures.value c.if-not-mark_all.ensures.answer in
    let size : met + length ns ≡ met + c.len.result = omega (arith, c.len.ensures) in
    let still = c.loop-turn.invariant.looks.content told in
    let count : length seen ≡ length (g.V.View.content c.loop-turn.view file) = c.loop-turn.invariant.long ∙ long ∙ ap (λ (x : Content). length (x file)) (sym still) in
    let below : AreBelow (length (g.V.View.content c.loop-turn.view file)) c.deref-in-loop-turn.result.now = subst (λ (k : List ℕ). AreBelow (length (g.V.View.content c.loop-turn.view file)) k) (sym c.deref-in-loop-turn.ensures.value) (fresh_below seen ns (length (g.V.View.content c.loop-turn.view file)) count m.fresh) in
    let first = ap (λ (x : Content). is_inner_level w (slice_get (x file)) ns) (sym still) ∙ ap (is_inner_level w (slice_get (g.V.View.content c.loop-turn.view file))) (sym c.deref-in-loop-turn.ensures.value) ∙ sym (c.in_ok-is_inner_level.ensures.is told below) in
    let next = c.is_inner_level.new.view in
    let room = length now - (met + c.len.result) in
    let still_next : g.V.View.content next ≡ g.V.View.content c.args.view.now = c.in_ok-is_inner_level.ensures.looks.content told ∙ still in
    let count_next : length seen ≡ length (g.V.View.content next file) = c.loop-turn.invariant.long ∙ long ∙ ap (λ (x : Content). length (x file)) (sym still_next) in
    let low = fresh_below seen ns (length (g.V.View.content next file)) count_next m.fresh in
    let even = even_down w look root some old seen turn met ns fs d in
    let on = first ∙ c.if-not-branch.false in
    let none : LevelAnswer w root look ns fs room None = subst (λ (x : Content). LevelAnswer w root (slice_get (x file)) ns fs room None) still_next
    (subst (LevelAnswer w root (slice_get (g.V.View.content next file)) ns fs room) c.in-None.is (c.in_ok-under.ensures.answer told low even)) in
    no_under w look root some old seen turn met ns fs d room on (omega (arith, c.len.ensures, c.loop-turn.invariant.few, c.if-not-mark_all.ensures.long, c.loop-turn.invariant.long)) none

pub loop-turn-preserved : goal.loop-turn-preserved
loop-turn-preserved g c = record {
  down = λ told long.
      let w = c.args.width in
      let root = c.args.root in
      let file = c.args.file in
      let old = c.args.seen.now in
      let seen = c.loop-turn.seen in
      let now = c.mark_all.new.seen in
      let turn = c.loop-turn._turn in
      let met = c.loop-turn.met in
      let ns = c.loop-turn.level.numbers.items in
      let fs = c.loop-turn.level.fences.items in
      let look = slice_get (g.V.View.content c.args.view.now file) in
      let some : root ≡ 0 → ⊥ = λ e. absurd (omega (arith, e, c.requires.root)) in
      let d = c.loop-turn.invariant.down told long in
      let m : Marked seen now ns = subst (λ (k : List ℕ). Marked seen now k) c.deref.ensures.value c.if-not-mark_all.ensures.answer in
      let size : met + length ns ≡ met + c.len.result = omega (arith, c.len.ensures) in
      let still = c.loop-turn.invariant.looks.content told in
      let count : length seen ≡ length (g.V.View.content c.loop-turn.view file) = c.loop-turn.invariant.long ∙ long ∙ ap (λ (x : Content). length (x file)) (sym still) in
      let below : AreBelow (length (g.V.View.content c.loop-turn.view file)) c.deref-in-loop-turn.result.now = subst (λ (k : List ℕ). AreBelow (length (g.V.View.content c.loop-turn.view file)) k) (sym c.deref-in-loop-turn.ensures.value) (fresh_below seen ns (length (g.V.View.content c.loop-turn.view file)) count m.fresh) in
      let first = ap (λ (x : Content). is_inner_level w (slice_get (x file)) ns) (sym still) ∙ ap (is_inner_level w (slice_get (g.V.View.content c.loop-turn.view file))) (sym c.deref-in-loop-turn.ensures.value) ∙ sym (c.in_ok-is_inner_level.ensures.is told below) in
      let next = c.is_inner_level.new.view in
      let room = length now - (met + c.len.result) in
      let still_next : g.V.View.content next ≡ g.V.View.content c.args.view.now = c.in_ok-is_inner_level.ensures.looks.content told ∙ still in
      let count_next : length seen ≡ length (g.V.View.content next file) = c.loop-turn.invariant.long ∙ long ∙ ap (λ (x : Content). length (x file)) (sym still_next) in
      let low = fresh_below seen ns (length (g.V.View.content next file)) count_next m.fresh in
      let even = even_down w look root some old seen turn met ns fs d in
      let on = first ∙ c.if-not-branch.false in
      let has : LevelAnswer w root look ns fs room (Some c.in-Some.under) = subst (λ (x : Content). LevelAnswer w root (slice_get (x file)) ns fs room (Some c.in-Some.under)) still_next
      (subst (LevelAnswer w root (slice_get (g.V.View.content next file)) ns fs room) c.in-Some.is (c.in_ok-under.ensures.answer told low even)) in
      subst (λ k. Descended w look root old now (turn + 1) k c.in-Some.under.numbers.items c.in-Some.under.fences.items) size
      (go_down w look root some old seen turn met ns fs d now c.in-Some.under.numbers.items c.in-Some.under.fences.items m on has);
  few =
      let room = length c.mark_all.new.seen - (c.loop-turn.met + c.len.result) in
      let fits : length c.in-Some.under.numbers.items ≤ room = subst (λ (o : Option Level). IfSome o (λ l. length l.numbers.items ≤ room)) c.in-Some.is c.in_ok-under.ensures.few in
      omega (arith, fits, c.len.ensures, c.loop-turn.invariant.few, c.if-not-mark_all.ensures.long, c.loop-turn.invariant.long);
  long = c.if-not-mark_all.ensures.long ∙ c.loop-turn.invariant.long;
  looks = looks_on g.V.View c.args.view.now c.is_inner_level.new.view c.level_under.new.view (g.met.V.View.same_then _ _ _)
      (looks_on g.V.View c.args.view.now c.loop-turn.view c.is_inner_level.new.view (g.met.V.View.same_then _ _ _) c.loop-turn.invariant.looks (looked_ok g.V.View _ _ _ c.in_ok-is_inner_level.ensures.looks))
      (looked_ok g.V.View _ _ _ c.in_ok-under.ensures.looks);
}

pub returns-clause-answer : goal.returns-clause-answer
returns-clause-answer g c told long =
    let look = slice_get (g.V.View.content c.args.view.now c.args.file) in
    too_deep c.args.width look c.args.root (λ e. absurd (omega (arith, e, c.requires.root))) c.args.seen.now c.loop-turn.seen c.loop-turn._turn c.loop-turn.met c.loop-turn.level.numbers.items c.loop-turn.level.fences.items
    (c.loop-turn.invariant.down told long) (omega (arith, c.loop-turn-test.false, c.loop-turn.invariant.long)) (omega (arith, c.loop-turn.invariant.few))
