use Rattle.std.proofs.Common.{refl, arith}
use Rattle.dms_restore.proofs.EntryPlaces.{range_stands}
use Rattle.dms_restore.proofs.tracing.range_at.Goals as goal

pub returns : goal.returns
returns c files audit there =
    range_stands files c.args.place.now _ c.args.file c.args.block c.args.from c.start_of.result c.min.result c.args.bytes.now audit (c.start_of.ensures.low audit) c.start_of.ensures.is there
    (λ few. omega (arith, few, c.min.ensures)) refl
