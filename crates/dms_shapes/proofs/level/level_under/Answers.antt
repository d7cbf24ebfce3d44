use Rattle.std.proofs.Common.{◌≡◌, ◌+◌, ◌<◌, ◌∙◌, ◌++◌, ℕ, List, sym, ap, subst, length, length-append, get_or, slice_get, arith}
use Rattle.std.proofs.lemmas.List.{get_or_read}
use Rattle.dms_block.specs.Content.{Content}
use Rattle.dms_shapes.specs.Levels.{bar_at, full_inner}
use Rattle.dms_shapes.proofs.LevelSteps.{LevelSoFar, level_long, level_more, level_stops}
use Rattle.dms_shapes.proofs.Marking.{times_at}
use Rattle.dms_tree.specs.Nodes.{inner_opt}
use Rattle.dms_tree.specs.TreeBlocks.{inner_in}
use Rattle.dms_tree.specs.TreeIn.{says}
use Rattle.dms_view.specs.Looked.{looked_ok, looks_on}
use Rattle.dms_shapes.proofs.level.level_under.Goals as goal

pub returns-in-None-clause-answer : goal.returns-in-None-clause-answer
returns-in-None-clause-answer g c told below even u is few =
    let w = c.args.width in
    let root = c.args.root in
    let file = c.args.file in
    let ns = c.args.level.now.numbers.items in
    let fs = c.args.level.now.fences.items in
    let place = c.loop-place.place in
    let at = c.index.result.now in
    let still = c.loop-place.invariant.looks.content told in
    let low : place < length ns = omega (arith, c.loop-place-test.true, c.len-place-end.ensures) in
    let read : at ≡ get_or ns place 0 = get_or_read ns place at low c.index.ensures 0 in
    let fits : at < length (g.V.View.content c.args.view.now file) = subst (λ n. n < length (g.V.View.content c.args.view.now file)) (sym read) (below (get_or ns place 0) (times_at ns place low)) in
    let here : at < length (g.V.View.content c.loop-place.view file) = omega (arith, fits, ap (λ (x : Content). length (x file)) still) in
    let said = ap (λ (n : ℕ). full_inner w root n (says (inner_in w) (slice_get (g.V.View.content c.args.view.now file) n))) (sym read)
    ∙ ap (λ (x : Content). full_inner w root at (says (inner_in w) (slice_get (x file) at))) (sym still) ∙ sym (c.in_ok-inner.ensures.inner told here) ∙ ap inner_opt c.in-None.is in
    level_stops w root (slice_get (g.V.View.content c.args.view.now file)) ns fs place c.loop-place.under.numbers.items c.loop-place.under.fences.items (c.loop-place.invariant.so_far told below even) low said u is

pub returns-then-len-room-clause-answer : goal.returns-then-len-room-clause-answer
returns-then-len-room-clause-answer g c told below even =
    let w = c.args.width in
    let root = c.args.root in
    let file = c.args.file in
    let ns = c.args.level.now.numbers.items in
    let fs = c.args.level.now.fences.items in
    let place = c.loop-place.place in
    let at = c.index.result.now in
    let still = c.loop-place.invariant.looks.content told in
    let low : place < length ns = omega (arith, c.loop-place-test.true, c.len-place-end.ensures) in
    let read : at ≡ get_or ns place 0 = get_or_read ns place at low c.index.ensures 0 in
    let fits : at < length (g.V.View.content c.args.view.now file) = subst (λ n. n < length (g.V.View.content c.args.view.now file)) (sym read) (below (get_or ns place 0) (times_at ns place low)) in
    let here : at < length (g.V.View.content c.loop-place.view file) = omega (arith, fits, ap (λ (x : Content). length (x file)) still) in
    let said = ap (λ (n : ℕ). full_inner w root n (says (inner_in w) (slice_get (g.V.View.content c.args.view.now file) n))) (sym read)
    ∙ ap (λ (x : Content). full_inner w root at (says (inner_in w) (slice_get (x file) at))) (sym still) ∙ sym (c.in_ok-inner.ensures.inner told here) ∙ ap inner_opt c.in-Some.is in
    level_long w root (slice_get (g.V.View.content c.args.view.now file)) ns fs place c.loop-place.under.numbers.items c.loop-place.under.fences.items (c.loop-place.invariant.so_far told below even)
    (c.in-Some.inner.kids.items, c.in-Some.inner.seps.items) c.args.room low even said (omega (arith, c.if-len-room.true, c.len.ensures, c.len-in-loop-place.ensures, c.loop-place.invariant.few))

pub loop-place-preserved : goal.loop-place-preserved
loop-place-preserved g c =
    let kids = c.loop-place.under.numbers.items in
    let bars = c.loop-place.under.fences.items in
    let more = c.in-Some.inner.kids.items in
    let seps = c.in-Some.inner.seps.items in
    record {
      so_far = λ told below even.
          let w = c.args.width in
          let root = c.args.root in
          let file = c.args.file in
          let ns = c.args.level.now.numbers.items in
          let fs = c.args.level.now.fences.items in
          let place = c.loop-place.place in
          let at = c.index.result.now in
          let still = c.loop-place.invariant.looks.content told in
          let low : place < length ns = omega (arith, c.loop-place-test.true, c.len-place-end.ensures) in
          let read : at ≡ get_or ns place 0 = get_or_read ns place at low c.index.ensures 0 in
          let fits : at < length (g.V.View.content c.args.view.now file) = subst (λ n. n < length (g.V.View.content c.args.view.now file)) (sym read) (below (get_or ns place 0) (times_at ns place low)) in
          let here : at < length (g.V.View.content c.loop-place.view file) = omega (arith, fits, ap (λ (x : Content). length (x file)) still) in
          let said = ap (λ (n : ℕ). full_inner w root n (says (inner_in w) (slice_get (g.V.View.content c.args.view.now file) n))) (sym read)
          ∙ ap (λ (x : Content). full_inner w root at (says (inner_in w) (slice_get (x file) at))) (sym still) ∙ sym (c.in_ok-inner.ensures.inner told here) ∙ ap inner_opt c.in-Some.is in
          let on = level_more w root (slice_get (g.V.View.content c.args.view.now file)) ns fs place kids bars (c.loop-place.invariant.so_far told below even) (more, seps) low even said in
          subst (λ (k : List ℕ). LevelSoFar w root (slice_get (g.V.View.content c.args.view.now file)) ns fs (place + 1) k c.add_block.new.level.fences.items) (sym c.in_ok-add_block.ensures.numbers)
          (subst (λ (f : List (List ℕ)). LevelSoFar w root (slice_get (g.V.View.content c.args.view.now file)) ns fs (place + 1) (kids ++ more) f)
          (sym (c.in_ok-add_block.ensures.fences ∙ ap (λ (l : List (List ℕ)). (bars ++ seps) ++ bar_at l place) c.deref.ensures.value)) on);
      few = omega (arith, ap (λ (l : List ℕ). length l) c.in_ok-add_block.ensures.numbers, length-append kids more, c.if-len-room.false, c.len.ensures, c.len-in-loop-place.ensures, c.loop-place.invariant.few);
      looks = looks_on g.V.View c.args.view.now c.loop-place.view c.full_inner_at.new.view (g.met.V.View.same_then _ _ _) c.loop-place.invariant.looks (looked_ok g.V.View _ _ _ c.in_ok-inner.ensures.looks);
    }
