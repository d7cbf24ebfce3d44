use Rattle.std.proofs.Common.{◌≡◌, ◌∙◌, ◌++◌, ℕ, Option, Ok, Err, ap, sym}
use Rattle.std.specs.declared.result.Result.{Result}
use Rattle.dms_block.specs.declared.block_fault.BlockFault.{BlockFault}
use Rattle.dms_block.specs.declared.block_fault.BlockFault.TheVariants.{Memory}
use Rattle.dms_block.specs.View.{under}
use Rattle.dms_block.specs.ViewLaws.{reads_as}
use Rattle.dms_chain.specs.SeenLaws.{causes_err}
use Rattle.dms_desc.specs.Shape.{shape_of}
use Rattle.dms_layout.specs.declared.slot.Slot.{Slot}
use Rattle.dms_model.specs.Db.{Place}
use Rattle.dms_slots.specs.Seen.{BadAt, BadIn}
use Rattle.dms_slots.specs.SlotBlocks.{block_of}
use Rattle.dms_links.specs.Linking.{linking_at}
use Rattle.dms_links.proofs.walking.note_slot.Goals as goal

pub returns-in-Err-clause-causes : goal.returns-in-Err-clause-causes
returns-in-Err-clause-causes g c =
    let o = c.args.over.now in
    let s = shape_of c.args.s.now in
    causes_err (Option Slot) ℕ (BadAt s (block_of s.items c.args.at) o) (BadIn s o) c.in-Err.e (under o) (under c.read_slot.new.b) (λ f n h. h.0) c.in-Err.ensures.causes

pub returns-in-Ok-note_linking-clause-found : goal.returns-in-Ok-note_linking-clause-found
returns-in-Ok-note_linking-clause-found g c told =
    c.in-Ok-note_linking.ensures ∙ ap (λ r. c.args.found.items ++ linking_at c.args.s.now.number c.args.s.now.items c.args.to c.args.number c.args.at r) (sym (c.in-Ok.ensures.slot told))

pub returns-in-Ok-note_linking-clause-reads : goal.returns-in-Ok-note_linking-clause-reads
returns-in-Ok-note_linking-clause-reads g c = reads_as (Ok c.in-Ok-note_linking.more) tt c.in-Ok.ensures.reads

pub returns-in-Err-note_linking-clause-reads : goal.returns-in-Err-note_linking-clause-reads
returns-in-Err-note_linking-clause-reads g c = reads_as (Err Memory) tt c.in-Ok.ensures.reads

pub returns-in-Err-note_linking-clause-causes : goal.returns-in-Err-note_linking-clause-causes
returns-in-Err-note_linking-clause-causes g c = c.in-Ok.ensures.causes
