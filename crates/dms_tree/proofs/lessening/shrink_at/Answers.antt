use Rattle.std.proofs.Common.{◌≡◌, ◌+◌, ◌*◌, ◌-◌, ◌≤◌, ◌<◌, ◌∙◌, ℕ, List, sym, ap, subst, length, slice_get, arith}
use Rattle.std.proofs.lemmas.Result.{on_ok_weaker}
use Rattle.std.specs.declared.result.Result.TheVariants.{Err}
use Rattle.dms_block.specs.Content.{Content}
use Rattle.dms_block.specs.HeldLaws.{told_after}
use Rattle.dms_block.specs.View.{overlay_content, seen_counts, under}
use Rattle.dms_block.specs.ViewLaws.{counts_seen, reads_more, seen_still}
use Rattle.dms_chain.specs.Seen.{look}
use Rattle.dms_chain.specs.SeenLaws.{causes_err, counts_still, file_still}
use Rattle.dms_tree.specs.declared.lessening.Around.{Around}
use Rattle.dms_tree.specs.declared.leaving.ShortLeaf.{ShortLeaf}
use Rattle.dms_tree.specs.declared.raising.PathStep.{PathStep}
use Rattle.dms_tree.specs.Around.{HasAround, IsAroundUp, NoAround}
use Rattle.dms_tree.specs.Errs.{by_memory}
use Rattle.dms_tree.specs.Lessens.{IsLess, LastPassed, NoLess, last_passed, less_around, less_there, not_full, short_holds, writes_by}
use Rattle.dms_tree.specs.UpMates.{MatesHold, SayMates, hold_size}
use Rattle.dms_tree.specs.Ups.{ArePassed, IsPassed}
use Rattle.dms_tree.proofs.lessening.shrink_at.Goals as goal

pub remove-step-requires : goal.remove-step-requires
remove-step-requires g c = omega (arith, c.requires.some, c.len-above.ensures)

pub read_around-requires-clause-passed : goal.read_around-requires-clause-passed
read_around-requires-clause-passed g c =
    let last = last_passed c.args.width (seen_counts c.args.over.now c.args.file) c.args.path.items c.remove-step.new.self.items (c.len-above.result - 1) c.remove-step.result c.requires.holds.passed (omega (arith, c.requires.some, c.len-above.ensures)) c.remove-step.ensures.value c.remove-step.ensures.by_index.2 in
    subst (ArePassed c.args.width (seen_counts c.args.over.now c.args.file)) (sym c.as_slice.ensures.value) last.passed

pub read_around-requires-clause-here : goal.read_around-requires-clause-here
read_around-requires-clause-here g c =
    (last_passed c.args.width (seen_counts c.args.over.now c.args.file) c.args.path.items c.remove-step.new.self.items (c.len-above.result - 1) c.remove-step.result c.requires.holds.passed (omega (arith, c.requires.some, c.len-above.ensures)) c.remove-step.ensures.value c.remove-step.ensures.by_index.2).here

pub returns-in-Err-clause-causes : goal.returns-in-Err-clause-causes
returns-in-Err-clause-causes g c =
    let o = c.args.over.now in
    let file = c.args.file in
    let w = c.args.width in
    let n = seen_counts o file in
    let last = last_passed w n c.args.path.items c.remove-step.new.self.items (c.len-above.result - 1) c.remove-step.result c.requires.holds.passed (omega (arith, c.requires.some, c.len-above.ensures)) c.remove-step.ensures.value c.remove-step.ensures.by_index.2 in
    causes_err Around (Unit {0}) (NoAround w o file c.as_slice.result.now c.remove-step.result) (NoLess o file w c.args.head.root c.args.head.free c.args.path.items c.args.number c.args.leaf.next c.args.leaf.entries.items) c.in-Err.fault (under o) (under c.read_around.new.over)
    (λ f k h. (
      h.0,
      h.1,
      λ told xs l. h.2 told (subst (λ (p : List PathStep). HasAround w (look o file) p c.remove-step.result) (sym c.as_slice.ensures.value)
          (less_there w (length (overlay_content o file)) (overlay_content o file) c.args.head.root c.args.head.free c.args.path.items c.remove-step.new.self.items c.remove-step.result c.args.number c.args.leaf.next c.args.leaf.entries.items xs n last.is l last.passed last.here)),
    ))
    c.in-Err.ensures.causes

pub shrink_leaf-requires-clause-holds : goal.shrink_leaf-requires-clause-holds
shrink_leaf-requires-clause-holds g c =
    let n = seen_counts c.args.over.now c.args.file in
    let last = last_passed c.args.width n c.args.path.items c.remove-step.new.self.items (c.len-above.result - 1) c.remove-step.result c.requires.holds.passed (omega (arith, c.requires.some, c.len-above.ensures)) c.remove-step.ensures.value c.remove-step.ensures.by_index.2 in
    short_holds n (seen_counts c.read_around.new.over c.args.file) _ c.args.path.items c.remove-step.result (ap (λ (k : ℕ → ℕ). k c.args.file) (counts_still c.in-Ok.ensures.reads)) c.requires.holds last

pub shrink_leaf-requires-clause-here : goal.shrink_leaf-requires-clause-here
shrink_leaf-requires-clause-here g c =
    let n = seen_counts c.args.over.now c.args.file in
    let last = last_passed c.args.width n c.args.path.items c.remove-step.new.self.items (c.len-above.result - 1) c.remove-step.result c.requires.holds.passed (omega (arith, c.requires.some, c.len-above.ensures)) c.remove-step.ensures.value c.remove-step.ensures.by_index.2 in
    subst (λ k. IsPassed c.args.width k c.remove-step.result) (sym (ap (λ (k : ℕ → ℕ). k c.args.file) (counts_still c.in-Ok.ensures.reads))) last.here

pub shrink_leaf-requires-clause-near : goal.shrink_leaf-requires-clause-near
shrink_leaf-requires-clause-near g c = omega (arith, c.in-Ok.ensures.near, ap (λ (k : ℕ → ℕ). k c.args.file) (counts_still c.in-Ok.ensures.reads))

pub shrink_leaf-requires-clause-mates : goal.shrink_leaf-requires-clause-mates
shrink_leaf-requires-clause-mates g c =
    subst (λ (t : ℕ × List PathStep). MatesHold c.args.width t.0 t.1 c.in-Ok.around.mates.items) (λ i. (sym (ap (λ (k : ℕ → ℕ). k c.args.file) (counts_still c.in-Ok.ensures.reads)) i, c.as_slice.ensures.value i)) c.in-Ok.ensures.hold

pub returns-clause-list : goal.returns-clause-list
returns-clause-list g c = on_ok_weaker c.shrink_leaf.result (λ p told xs l.
    let a = c.args.over.now in
    let b = c.read_around.new.over in
    let file = c.args.file in
    let w = c.args.width in
    let bs = overlay_content a file in
    let n = seen_counts a file in
    let reads = c.in-Ok.ensures.reads in
    let still = ap (λ (k : ℕ → ℕ). k file) (counts_still reads) in
    let same = file_still file reads told in
    let long = counts_seen a (g.met.B.Blocks.agrees a.below c.requires.sound) told file in
    let last = last_passed w n c.args.path.items c.remove-step.new.self.items (c.len-above.result - 1) c.remove-step.result c.requires.holds.passed (omega (arith, c.requires.some, c.len-above.ensures)) c.remove-step.ensures.value c.remove-step.ensures.by_index.2 in
    let mates = subst (λ (q : List PathStep). SayMates bs w q c.in-Ok.around.mates.items) c.as_slice.ensures.value (c.in-Ok.ensures.mates told) in
    let short : ShortLeaf = record { width = w; root = c.args.head.root; free = c.args.head.free; path = c.remove-step.new.self; number = c.args.number; leaf = c.args.leaf } in
    let up = less_around (length bs) bs short c.remove-step.result c.in-Ok.around c.args.path.items xs last.is l (c.in-Ok.ensures.leaf told) mates in
    p.list (told_after reads.looks.passes.lasts told) reads.looks.stays.sound (ap (λ (k : List (List ℕ)). length k) same ∙ sym long ∙ sym still) xs
    (subst (λ (t : ℕ × List (List ℕ)). IsAroundUp t.0 t.1 short c.remove-step.result c.in-Ok.around xs) (λ i. ((sym long ∙ sym still) i, sym same i)) up)) c.shrink_leaf.ensures.shrinks

pub returns-clause-others : goal.returns-clause-others
returns-clause-others g c = on_ok_weaker c.shrink_leaf.result (λ p told sound f off.
    let reads = c.in-Ok.ensures.reads in
    p.others (told_after reads.looks.passes.lasts told) reads.looks.stays.sound f off ∙ ap (λ (k : Content). k f) (seen_still reads told)) c.shrink_leaf.ensures.shrinks

pub returns-clause-counts : goal.returns-clause-counts
returns-clause-counts g c = on_ok_weaker c.shrink_leaf.result (λ p f. p.counts f ∙ ap (λ (k : ℕ → ℕ). k f) (counts_still c.in-Ok.ensures.reads)) c.shrink_leaf.ensures.shrinks

pub returns-clause-writes : goal.returns-clause-writes
returns-clause-writes g c =
    let w = c.args.width in
    let n = seen_counts c.args.over.now c.args.file in
    let last = last_passed w n c.args.path.items c.remove-step.new.self.items (c.len-above.result - 1) c.remove-step.result c.requires.holds.passed (omega (arith, c.requires.some, c.len-above.ensures)) c.remove-step.ensures.value c.remove-step.ensures.by_index.2 in
    let slice = ap (λ (p : List PathStep). length p) c.as_slice.ensures.value in
    let even = hold_size w n c.as_slice.result.now c.in-Ok.around.mates.items c.in-Ok.ensures.hold in
    let le : length c.as_slice.result.now + 1 ≤ 9 = omega (arith, slice, last.shorter, c.requires.holds.low) in
    writes_by 9 20 c.shrink_leaf.result c.args.over.now c.read_around.new.over c.shrink_leaf.new.over (not_full c.shrink_leaf.result c.shrink_leaf.ensures.memory) (reads_more 9 le c.in-Ok.ensures.reads) c.shrink_leaf.ensures.below
    (omega (arith, c.shrink_leaf.ensures.more, even, slice, last.shorter, c.requires.holds.low))
