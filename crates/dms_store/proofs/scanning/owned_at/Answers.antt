use Rattle.std.proofs.Common.{◌∙◌, ap, subst, sym, Option, IfSome}
use Rattle.dms_desc.specs.Shape.{shape_of}
use Rattle.dms_layout.specs.declared.slot.Slot.{Slot}
use Rattle.dms_model.specs.declared.spot.Spot.{Spot}
use Rattle.dms_chain.specs.SeenLaws.{causes_err}
use Rattle.dms_block.specs.View.{under}
use Rattle.dms_slots.specs.Seen.{BadAt, BadIn}
use Rattle.dms_slots.specs.SlotBlocks.{block_of}
use Rattle.dms_store.specs.Scans.{IsRecordSpot, owned_spot}
use Rattle.dms_store.specs.WithinLaws.{owned_fits}
use Rattle.dms_store.proofs.scanning.owned_at.Goals as goal

pub returns-in-Ok-clause-found : goal.returns-in-Ok-clause-found
returns-in-Ok-clause-found g c tells = c.owned_spot.ensures ∙ ap (owned_spot c.args.owner c.args.number) (sym (c.in-Ok.ensures.slot tells))

pub returns-in-Ok-clause-fits : goal.returns-in-Ok-clause-fits
returns-in-Ok-clause-fits g c =
    subst (λ (o : Option Spot). IfSome o (IsRecordSpot (shape_of c.args.s.now))) (sym c.owned_spot.ensures)
    (owned_fits (shape_of c.args.s.now) c.args.owner c.args.number c.in-Ok.slot c.in-Ok.ensures.fits c.requires.low c.requires.most)

pub returns-in-Err-clause-causes : goal.returns-in-Err-clause-causes
returns-in-Err-clause-causes g c =
    let o = c.args.over.now in
    let s = shape_of c.args.s.now in
    causes_err (Option Slot) (Option Spot) (BadAt s (block_of s.items c.args.number) o) (BadIn s o) c.in-Err.e (under o) (under c.read_slot.new.b) (λ f n h. h.0) c.in-Err.ensures.causes
