use Rattle.std.proofs.Common.{◌≡◌, ℕ, List, ◌+◌, ◌*◌, ◌≤◌, ◌<◌, ◌∙◌, sym, ap, subst, length, slice_get, arith}
use Rattle.std.proofs.lemmas.Result.{on_ok_weaker}
use Rattle.dms_block.specs.Content.{Content}
use Rattle.dms_block.specs.HeldLaws.{told_after}
use Rattle.dms_block.specs.View.{overlay_content, seen_counts, under}
use Rattle.dms_block.specs.ViewLaws.{seen_still}
use Rattle.dms_chain.specs.Seen.{look}
use Rattle.dms_chain.specs.SeenLaws.{counts_still, file_still}
use Rattle.dms_tree.specs.declared.raising.PathStep.{PathStep}
use Rattle.dms_tree.specs.Finishing.{IsLeafUp, LeafHolds}
use Rattle.dms_tree.specs.Rooms.{ready_holds}
use Rattle.dms_tree.specs.Ups.{ArePassed, end_after, end_more, needs, passed_more}
use Rattle.dms_tree.proofs.rooming.make_room.Goals as goal

pub grow-requires-clause-holds : goal.grow-requires-clause-holds
grow-requires-clause-holds g c =
    let a = c.args.over.now in
    let t = c.in_ok-taken.taken in
    let still = ap (λ (k : ℕ → ℕ). k c.args.file) (counts_still c.in_ok-taken.ensures.reads) in
    let size = c.in_ok-taken.ensures.all ∙ c.blocks_needed-needed.ensures.needs ∙ ap (needs c.args.width) c.as_slice.ensures.value in
    subst (λ n. LeafHolds n c.args.width t.fresh.items c.args.path.items c.args.number c.args.leaf.entries.items) (sym still) (ready_holds (seen_counts a c.args.file) c.args.width t.fresh.items c.args.path.items c.args.number c.args.leaf.entries.items c.requires.holds c.in_ok-taken.ensures.follow size)

pub returns-clause-list : goal.returns-clause-list
returns-clause-list g c = on_ok_weaker c.grow.result (λ grown told sound long xs up.
    let a = c.args.over.now in
    let b = c.take_blocks.new.over in
    let file = c.args.file in
    let t = c.in_ok-taken.taken in
    let reads = c.in_ok-taken.ensures.reads in
    let still = ap (λ (k : ℕ → ℕ). k file) (counts_still reads) in
    let same = file_still file reads told in
    let one = up t.fresh.items t.free (c.in_ok-taken.ensures.taken told) in
    let two = subst (λ n. IsLeafUp c.args.width (end_after n t.fresh.items) t.free (overlay_content a file) c.args.head.root c.args.path.items c.args.number c.args.leaf.next c.args.leaf.entries.items t.fresh.items xs) (sym still) one in
    let three = subst (λ (l : List (List ℕ)). IsLeafUp c.args.width (end_after (seen_counts b file) t.fresh.items) t.free l c.args.head.root c.args.path.items c.args.number c.args.leaf.next c.args.leaf.entries.items t.fresh.items xs) (sym same) two in
    grown.list (told_after reads.looks.passes.lasts told) reads.looks.stays.sound (ap (λ (l : List (List ℕ)). length l) same ∙ long ∙ sym still) xs three) c.grow.ensures.grows

pub returns-clause-others : goal.returns-clause-others
returns-clause-others g c = on_ok_weaker c.grow.result (λ grown told sound f off.
    let reads = c.in_ok-taken.ensures.reads in
    grown.others (told_after reads.looks.passes.lasts told) reads.looks.stays.sound f off ∙ ap (λ (k : Content). k f) (seen_still reads told)) c.grow.ensures.grows

pub returns-clause-grows : goal.returns-clause-grows
returns-clause-grows g c = on_ok_weaker c.grow.result (λ grown.
    let a = c.args.over.now in
    let t = c.in_ok-taken.taken in
    let still = counts_still c.in_ok-taken.ensures.reads in
    let ends = grown.count_is ∙ ap (λ (k : ℕ → ℕ). end_after (k c.args.file) t.fresh.items) still in
    record {
      others = λ f off. grown.counts f off ∙ ap (λ (k : ℕ → ℕ). k f) still;
      kept = omega (arith, ends, end_more (seen_counts a c.args.file) t.fresh.items);
      more = omega (arith, ends, c.in_ok-taken.ensures.most, c.blocks_needed-needed.ensures.most, ap (λ (l : List PathStep). length l) c.as_slice.ensures.value, c.requires.low);
    }) c.grow.ensures.grows

pub returns-clause-room : goal.returns-clause-room
returns-clause-room g c = on_ok_weaker c.grow.result (λ grown told n within.
    let a = c.args.over.now in
    let t = c.in_ok-taken.taken in
    let ends = grown.count_is ∙ ap (λ (k : ℕ → ℕ). end_after (k c.args.file) t.fresh.items) (counts_still c.in_ok-taken.ensures.reads) in
    let few : length t.fresh.items ≤ length c.args.path.items + 2 = omega (arith, c.in_ok-taken.ensures.all, c.blocks_needed-needed.ensures.most, ap (λ (l : List PathStep). length l) c.as_slice.ensures.value) in
    omega (arith, ends, within t.fresh.items t.free (end_after (seen_counts a c.args.file) t.fresh.items) few (c.in_ok-taken.ensures.taken told))) c.grow.ensures.grows

pub blocks_needed-needed-requires-clause-passed : goal.blocks_needed-needed-requires-clause-passed
blocks_needed-needed-requires-clause-passed g c =
    subst (λ (l : List PathStep). ArePassed c.args.width 2097152 l) (sym c.as_slice.ensures.value)
    (passed_more c.args.width (seen_counts c.args.over.now c.args.file) 2097152 c.args.path.items (omega (arith, c.requires.room)) c.requires.holds.passed)
