use Rattle.std.proofs.Common.{arith}
use Rattle.dms_desc.specs.Shape.{shape_of}
use Rattle.dms_plain.proofs.Following.{added, all_listed, none_listed}
use Rattle.dms_plain.proofs.lists.list_of.Goals as goal

pub loop-row-init : goal.loop-row-init
loop-row-init c = none_listed (shape_of c.args.s.now) c.new-members.result c.args.rows.now c.new-members.ensures

pub loop-row-preserved : goal.loop-row-preserved
loop-row-preserved c =
    added (shape_of c.args.s.now) c.loop-row.members c.add_row.new.members c.args.rows.now c.loop-row.row-index c.row-item.result c.requires c.loop-row-test.true c.row-item.is c.loop-row.invariant c.add_row.ensures.rising
    c.in_ok-add_row.ensures.has

pub returns : goal.returns
returns c = all_listed (shape_of c.args.s.now) c.loop-row.members c.args.rows.now c.loop-row.row-index c.requires (omega (arith, c.loop-row-test.false)) c.loop-row.invariant
