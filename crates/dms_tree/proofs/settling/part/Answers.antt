use Rattle.std.proofs.Common.{◌≡◌, ◌+◌, ◌*◌, ◌≤◌, ◌<◌, ◌∙◌, [], ◌∷◌, max, sym, ap, length, arith}
use Rattle.dms_block.specs.View.{seen_counts}
use Rattle.dms_tree.specs.Settling.{Settles, head_off, next_near, part_settles, raised_writes, some_left, writes_full}
use Rattle.dms_tree.specs.Ups.{HaveRoom, HoleHolds, end_more, inner_fits, inner_halves, passed_room}
use Rattle.dms_tree.proofs.settling.part.Goals as goal

pub remove-other-requires : goal.remove-other-requires
remove-other-requires g c = omega (arith, c.args.hole.fresh.ok, some_left (seen_counts c.args.over.now c.args.file) c.args.hole c.requires.holds c.requires.many)

pub inner_block-requires-clause-room : goal.inner_block-requires-clause-room
inner_block-requires-clause-room g c =
    let p = c.in_ok-parts.parts in
    inner_fits c.args.hole.width p.low.kids.items p.low.seps.items (inner_halves (seen_counts c.args.over.now c.args.file) c.args.hole p.low.kids.items p.high.kids.items p.low.seps.items p.sep p.high.seps.items c.requires.holds c.requires.many c.in_ok-parts.ensures).low_is

pub write-requires-clause-low : goal.write-requires-clause-low
write-requires-clause-low g c = let h = c.args.hole in omega (arith, end_more (let n = seen_counts c.args.over.now c.args.file in max n (h.number + 1)) h.fresh.items, c.requires.end)

pub inner_block-requires-2-clause-room : goal.inner_block-requires-2-clause-room
inner_block-requires-2-clause-room g c =
    let p = c.in_ok-parts.parts in
    inner_fits c.args.hole.width p.high.kids.items p.high.seps.items (inner_halves (seen_counts c.args.over.now c.args.file) c.args.hole p.low.kids.items p.high.kids.items p.low.seps.items p.sep p.high.seps.items c.requires.holds c.requires.many c.in_ok-parts.ensures).high_is

pub write-requires-2-clause-low : goal.write-requires-2-clause-low
write-requires-2-clause-low g c =
    let h = c.args.hole in
    let n = seen_counts c.args.over.now c.args.file in
    let taken = head_off h.fresh.items c.remove-other.new.self.items c.remove-other.result (some_left n h c.requires.holds c.requires.many) c.remove-other.ensures.value c.remove-other.ensures.items in
    omega (arith, (next_near n h c.remove-other.result c.remove-other.new.self.items c.requires.holds taken).1, c.requires.end)

pub raise-requires-clause-steps : goal.raise-requires-clause-steps
raise-requires-clause-steps g c = passed_room c.args.hole.width (seen_counts c.args.over.now c.args.file) c.args.hole.path.items c.requires.holds.passed

pub returns-clause-settles : goal.returns-clause-settles
returns-clause-settles g c =
    let h = c.args.hole in
    let p = c.in_ok-parts.parts in
    let n = seen_counts c.args.over.now c.args.file in
    let taken = head_off h.fresh.items c.remove-other.new.self.items c.remove-other.result (some_left n h c.requires.holds c.requires.many) c.remove-other.ensures.value c.remove-other.ensures.items in
    part_settles c.args.over.now c.write.new.self c.write-2.new.self c.args.file h c.in_ok-raise.field-0 c.remove-other.result c.remove-other.new.self.items p.sep p.low.kids.items p.high.kids.items p.low.seps.items p.high.seps.items c.inner_block.result.0 c.inner_block-2.result.0
    c.in_ok-write.ensures.below c.requires.holds c.requires.end c.requires.many taken c.in_ok-raise.ensures.width c.in_ok-parts.ensures c.in_ok-raise.ensures.raised c.inner_block.ensures c.inner_block-2.ensures
    c.in_ok-write.ensures.seen c.in_ok-write.ensures.counts c.in_ok-write-2.ensures.seen c.in_ok-write-2.ensures.counts

pub returns-clause-left : goal.returns-clause-left
returns-clause-left g c =
    let h = c.args.hole in
    omega (
      arith,
      writes_full h c.requires.many,
      raised_writes h.width h.root h.number h.path.items c.in_ok-raise.field-0 c.remove-other.result c.remove-other.new.self.items c.in_ok-parts.parts.sep c.requires.holds.wide_is.most c.in_ok-raise.ensures.width c.in_ok-raise.ensures.raised,
    )
