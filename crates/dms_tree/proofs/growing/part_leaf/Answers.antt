use Rattle.std.proofs.Common.{◌≡◌, ◌+◌, ◌*◌, ◌/◌, ◌≤◌, ◌<◌, ◌∙◌, ℕ, List, [], ◌∷◌, max, sym, ap, subst, length, get_or, arith, refl}
use Rattle.dms_block.specs.View.{seen_counts}
use Rattle.dms_tree.specs.Coming.{Comes, leaf_comes, leaf_some}
use Rattle.dms_tree.specs.Finishing.{AreLeafHalves, LeafHolds, halves_of, leaf_rooms}
use Rattle.dms_tree.specs.Settling.{head_off, raised_writes}
use Rattle.dms_tree.specs.Ups.{end_after, end_more, passed_room}
use Rattle.dms_tree.proofs.growing.part_leaf.Goals as goal

pub remove-other-requires : goal.remove-other-requires
remove-other-requires g c = omega (arith, c.args.fresh.ok, leaf_some (seen_counts c.args.over.now c.args.file) c.args.width c.args.fresh.items c.args.path.items c.args.number c.args.leaf.entries.items c.requires.holds)

pub leaf_block-requires-clause-room : goal.leaf_block-requires-clause-room
leaf_block-requires-clause-room g c =
    let es = c.args.leaf.entries.items in
    let first = subst (λ (r : List ℕ). r ≡ get_or c.in_ok-others.others.items 0 r) (sym c.in_ok-sep.ensures) c.index.ensures in
    let halves = halves_of es c.split_off.new.self.items c.in_ok-others.others.items c.in_ok-sep.sep c.len-half.result (c.len-half.result / 2) (omega (arith, c.len-half.ensures)) refl c.in_ok-others.ensures.items c.in_ok-others.ensures.tail first in
    (leaf_rooms (seen_counts c.args.over.now c.args.file) c.args.width c.args.fresh.items c.args.path.items c.args.number es c.split_off.new.self.items c.in_ok-others.others.items c.in_ok-sep.sep c.requires.holds halves).0

pub write-requires-clause-low : goal.write-requires-clause-low
write-requires-clause-low g c = omega (arith, end_more (seen_counts c.args.over.now c.args.file) c.args.fresh.items, c.requires.holds.near, c.requires.end)

pub leaf_block-requires-2-clause-room : goal.leaf_block-requires-2-clause-room
leaf_block-requires-2-clause-room g c =
    let es = c.args.leaf.entries.items in
    let first = subst (λ (r : List ℕ). r ≡ get_or c.in_ok-others.others.items 0 r) (sym c.in_ok-sep.ensures) c.index.ensures in
    let halves = halves_of es c.split_off.new.self.items c.in_ok-others.others.items c.in_ok-sep.sep c.len-half.result (c.len-half.result / 2) (omega (arith, c.len-half.ensures)) refl c.in_ok-others.ensures.items c.in_ok-others.ensures.tail first in
    (leaf_rooms (seen_counts c.args.over.now c.args.file) c.args.width c.args.fresh.items c.args.path.items c.args.number es c.split_off.new.self.items c.in_ok-others.others.items c.in_ok-sep.sep c.requires.holds halves).1

pub write-requires-2-clause-low : goal.write-requires-2-clause-low
write-requires-2-clause-low g c =
    let n = seen_counts c.args.over.now c.args.file in
    let f = c.remove-other.result in
    let taken = head_off c.args.fresh.items c.remove-other.new.self.items f (leaf_some n c.args.width c.args.fresh.items c.args.path.items c.args.number c.args.leaf.entries.items c.requires.holds) c.remove-other.ensures.value c.remove-other.ensures.items in
    omega (arith, end_more (max n (f + 1)) c.remove-other.new.self.items, subst (λ (l : List ℕ). end_after n l ≤ 2097152) taken c.requires.end)

pub raise-requires-clause-steps : goal.raise-requires-clause-steps
raise-requires-clause-steps g c = passed_room c.args.width (seen_counts c.args.over.now c.args.file) c.args.path.items c.requires.holds.passed

pub returns-clause-comes : goal.returns-clause-comes
returns-clause-comes g c =
    let es = c.args.leaf.entries.items in
    let n = seen_counts c.args.over.now c.args.file in
    let f = c.remove-other.result in
    let first = subst (λ (r : List ℕ). r ≡ get_or c.in_ok-others.others.items 0 r) (sym c.in_ok-sep.ensures) c.index.ensures in
    let halves = halves_of es c.split_off.new.self.items c.in_ok-others.others.items c.in_ok-sep.sep c.len-half.result (c.len-half.result / 2) (omega (arith, c.len-half.ensures)) refl c.in_ok-others.ensures.items c.in_ok-others.ensures.tail first in
    let taken = head_off c.args.fresh.items c.remove-other.new.self.items f (leaf_some n c.args.width c.args.fresh.items c.args.path.items c.args.number es c.requires.holds) c.remove-other.ensures.value c.remove-other.ensures.items in
    leaf_comes c.args.over.now c.write.new.self c.write-2.new.self c.args.file c.args.width c.args.root c.args.path.items c.args.number c.args.leaf.next f c.remove-other.new.self.items c.args.fresh.items es c.split_off.new.self.items c.in_ok-others.others.items c.in_ok-sep.sep c.in_ok-raise.field-0
    c.leaf_block.result.0 c.leaf_block-2.result.0 c.in_ok-write.ensures.below taken c.requires.holds c.requires.end halves c.in_ok-raise.ensures.width c.in_ok-raise.ensures.raised c.leaf_block.ensures c.leaf_block-2.ensures
    c.in_ok-write.ensures.seen c.in_ok-write.ensures.counts c.in_ok-write-2.ensures.seen c.in_ok-write-2.ensures.counts

pub returns-clause-left : goal.returns-clause-left
returns-clause-left g c =
    raised_writes c.args.width c.args.root c.args.number c.args.path.items c.in_ok-raise.field-0 c.remove-other.result c.remove-other.new.self.items c.in_ok-sep.sep c.requires.holds.wide_is.most c.in_ok-raise.ensures.width c.in_ok-raise.ensures.raised
