use Rattle.std.proofs.Common.{◌<◌, ◌∙◌, arith, length, map}
use Rattle.std.specs.Option.{option_copied}
use Rattle.std.proofs.lemmas.List.{length-map, length-set}
use Rattle.dms_desc.specs.Shape.{shape_of}
use Rattle.dms_plain.specs.Rows.{records_in, restore}
use Rattle.dms_plain.proofs.Following.{halfway_at, halfway_end, halfway_on, halfway_start, shape_at}
use Rattle.dms_plain.proofs.lists.follow_all.Goals as goal

pub loop-i-init : goal.loop-i-init
loop-i-init c =
    let before = records_in c.args.rows.now in
    record {
      lists = halfway_start (map shape_of c.args.structures.now) c.args.lists.now.items before (restore (c.args.set, c.args.number) (option_copied c.args.new) before) c.requires.listed;
      count = omega (arith, c.len-i-end.ensures);
    }

pub follow_one-requires-clause-listed : goal.follow_one-requires-clause-listed
follow_one-requires-clause-listed c =
    let before = records_in c.args.rows.now in
    halfway_at c.args.structures.now c.loop-i.lists.items c.loop-i.i before (restore (c.args.set, c.args.number) (option_copied c.args.new) before) c.index-structures-i.result c.index_mut.result.now c.loop-i.invariant.lists
    (omega (arith, c.loop-i-test.true, c.loop-i.invariant.count)) c.index-structures-i.is c.index_mut.ensures.value

pub loop-i-preserved : goal.loop-i-preserved
loop-i-preserved c =
    let before = records_in c.args.rows.now in
    let i = c.loop-i.i in
    let ls = c.loop-i.lists.items in
    let ss = c.args.structures.now in
    let x = c.index-structures-i.result in
    let lt : i < length ls = omega (arith, c.loop-i-test.true, c.loop-i.invariant.count) in
    record {
      lists = halfway_on (map shape_of ss) ls i before (restore (c.args.set, c.args.number) (option_copied c.args.new) before) (shape_of x) c.follow_one.new.members c.loop-i.invariant.lists lt
          (shape_at ss i x (omega (arith, lt, c.loop-i.invariant.lists.few, length-map ss shape_of)) c.index-structures-i.is) c.in_ok-follow_one.ensures;
      count = length-set ls i c.follow_one.new.members ∙ c.loop-i.invariant.count;
    }

pub returns : goal.returns
returns c =
    let before = records_in c.args.rows.now in
    halfway_end (map shape_of c.args.structures.now) c.loop-i.lists.items c.loop-i.i before (restore (c.args.set, c.args.number) (option_copied c.args.new) before) c.loop-i.invariant.lists
    (omega (arith, c.loop-i-test.false, c.loop-i.invariant.count))
