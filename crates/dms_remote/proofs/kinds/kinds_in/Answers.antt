use Rattle.dms_history.specs.Entries.{is_begin}
use Rattle.dms_follow.specs.Following.{is_control_entry}
use Rattle.dms_remote.specs.Kinds.{is_first}
use Rattle.dms_remote.proofs.BlockKinds.{any_all}
use Rattle.dms_remote.proofs.kinds.kinds_in.Goals as goal

pub returns-clause-control : goal.returns-clause-control
returns-clause-control c = any_all is_control_entry c.args.block.now c.args.places.now c.loop-place.place-index c.loop-place.control c.loop-place-test.false c.loop-place.invariant.control

pub returns-clause-first : goal.returns-clause-first
returns-clause-first c = any_all is_first c.args.block.now c.args.places.now c.loop-place.place-index c.loop-place.first c.loop-place-test.false c.loop-place.invariant.first

pub returns-clause-begin : goal.returns-clause-begin
returns-clause-begin c = any_all is_begin c.args.block.now c.args.places.now c.loop-place.place-index c.loop-place.begin c.loop-place-test.false c.loop-place.invariant.begin
