use Rattle.std.proofs.Common.{◌≡◌, ◌≤◌, ◌<◌, ◌+◌, ◌*◌, ◌∙◌, ℕ, List, suc, Ok, Err, IfSome, Option, length, subst, sym, ap, refl, arith}
use Rattle.std.proofs.Math.Nat as nat
use Rattle.dms_block.specs.Content.{Content}
use Rattle.dms_block.specs.HeldLaws.{told_after}
use Rattle.dms_block.specs.ViewLaws.{reads_as, reads_more, reads_none, reads_on, seen_still}
use Rattle.dms_block.specs.declared.block.Block.{Block}
use Rattle.dms_desc.specs.Files.{file_of}
use Rattle.dms_desc.specs.Shape.{shape_of}
use Rattle.dms_desc.specs.declared.structure.Item.{Item}
use Rattle.dms_fields.specs.Fields.{lay_bytes}
use Rattle.dms_layout.specs.Slots.{slot_width}
use Rattle.dms_layout.specs.declared.slot.SlotRead.TheVariants.{Free}
use Rattle.dms_slots.specs.SlotBlocks.{per_block, slot_at}
use Rattle.dms_slots.specs.Seen.{blocks_of}
use Rattle.dms_slots.specs.Written.{room}
use Rattle.dms_reorg.specs.Widened.{IsWidenedSlot, LaidUpTo, up_to}
use Rattle.dms_reorg.proofs.Laying.{laid_free, laid_none, laid_used}
use Rattle.dms_reorg.proofs.Damage.{slot_causes}
use Rattle.dms_reorg.proofs.Seen.{reads_err}
use Rattle.dms_reorg.proofs.Widened.{each_reads_before}
use Rattle.dms_reorg.proofs.widening.widened_block.Goals as goal
use Rattle.dms_reorg.proofs.widening.widened_block.Goals.{in-None, in-Some}

pub loop-place-init : goal.loop-place-init
loop-place-init g c =
    let s = shape_of c.args.s.now in
    let t = shape_of c.args.t.now in
    record {
      reads = reads_none 0 (Ok 0) c.args.over.now g.met.B.Blocks.same_again tt c.requires.sound;
      faults = refl;
      laid = λ told. subst (LaidUpTo t c.args.first.now (up_to c.args.last (slot_at s (blocks_of s c.args.over.now))) c.args.block 0) (sym c.blank-made.ensures) (laid_none t c.args.first.now (up_to c.args.last (slot_at s (blocks_of s c.args.over.now))) c.args.block);
    }

pub lay-requires : goal.lay-requires
lay-requires g c =
    let k = c.loop-place.place in
    let t = shape_of c.args.t.now in
    let w = slot_width c.args.t.now.items in
    let width : c.slot_width-width.result ≡ w = c.slot_width-width.ensures.width ∙ ap (λ (l : List Item). slot_width l) c.as_slice.ensures in
    let long = subst (λ (o : Option (List ℕ)). IfSome o (λ b. length b ≡ w)) c.in-Some.is c.in-Ok.ensures.long in
    let below : suc k ≤ per_block c.args.t.now.items = omega (arith, c.loop-place-test.true, c.per_block-per.ensures.count) in
    let core : k * w + length c.in-Some.bytes ≤ 1024 = omega (arith, long, room t, nat.suc-mul k w, nat.mul-le-mul_right w below) in
    subst (λ n. k * n + length c.as_slice-in-Some.result.now ≤ 1024) (sym width) (subst (λ (l : List ℕ). k * w + length l ≤ 1024) (sym c.as_slice-in-Some.ensures) core)

pub returns-in-Err-clause-reads : goal.returns-in-Err-clause-reads
returns-in-Err-clause-reads g c =
    let le : c.loop-place.place + 1 ≤ per_block c.args.t.now.items = omega (arith, c.loop-place-test.true, c.per_block-per.ensures.count) in
    reads_more (per_block c.args.t.now.items) le (reads_err c.in-Err.fault (reads_on {U = ℕ} (Err c.in-Err.fault) g.met.B.Blocks.same_then c.loop-place.invariant.reads (reads_err c.in-Err.fault c.in-Err.ensures.reads)))

pub returns-in-Err-clause-causes : goal.returns-in-Err-clause-causes
returns-in-Err-clause-causes g c =
    let s = shape_of c.args.s.now in
    let t = shape_of c.args.t.now in
    let k = c.loop-place.place in
    let fewer = (each_reads_before s t c.args.first.now).fewer c.requires.widens in
    let low : k < per_block c.args.t.now.items = omega (arith, c.loop-place-test.true, c.per_block-per.ensures.count) in
    let at : c.from.result * c.per_block-per.result + k + 1 ≡ c.args.block * per_block c.args.t.now.items + k + 1 = λ i. c.from.ensures i * c.per_block-per.ensures.count i + k + 1 in
    slot_causes {U = Block} s t (Err c.in-Err.fault) c.args.last c.args.block k (c.from.result * c.per_block-per.result + k + 1) c.args.over.now c.loop-place.over c.widened_slot.new.over c.loop-place.invariant.faults c.loop-place.invariant.reads fewer low at
    c.in-Err.ensures.causes

pub loop-place-preserved : goal.loop-place-preserved
loop-place-preserved g c =
    let s = shape_of c.args.s.now in
    let t = shape_of c.args.t.now in
    let more = c.args.first.now in
    let before = c.loop-place.invariant in
    let bs = blocks_of s c.args.over.now in
    let old = up_to c.args.last (slot_at s bs) in
    let k = c.loop-place.place in
    let at = c.args.block * per_block c.args.t.now.items + k + 1 in
    record {
      reads = reads_on (Ok 0) g.met.B.Blocks.same_then before.reads (reads_as {U = ℕ} (Ok 0) tt c.in-Ok.ensures.reads);
      faults = c.in-Ok.ensures.causes ∙ before.faults;
      laid = λ told.
          let still : blocks_of s c.loop-place.over ≡ bs = ap (λ (x : Content). x (file_of s.number)) (seen_still before.reads told) in
          let seen = c.in-Ok.ensures.slot (told_after before.reads.looks.passes.lasts told) in
          let is : IsWidenedSlot t more (old at) c.in-Ok.slot =
          subst (λ n. IsWidenedSlot t more (old n) c.in-Ok.slot) (λ i. c.from.ensures i * c.per_block-per.ensures.count i + k + 1) (subst (λ (xs : List (List ℕ)). IsWidenedSlot t more (up_to c.args.last (slot_at s xs) (c.from.result * c.per_block-per.result + k + 1)) c.in-Ok.slot) still seen) in
          elim c.match-slot.branch [
            | in-None w ↦
                let free : old at ≡ Free = subst (λ (o : Option (List ℕ)). IsWidenedSlot t more (old at) o) w.in-None.is is in
                subst (λ (x : Block). LaidUpTo t more old c.args.block (k + 1) x.0) (sym w.made-is) (laid_free t more old c.args.block k c.loop-place.made.0 (before.laid told) free)
            | in-Some w ↦
                let used = subst (λ (o : Option (List ℕ)). IsWidenedSlot t more (old at) o) w.in-Some.is is in
                let width : c.slot_width-width.result ≡ slot_width c.args.t.now.items = c.slot_width-width.ensures.width ∙ ap (λ (l : List Item). slot_width l) c.as_slice.ensures in
                let low : k < per_block c.args.t.now.items = omega (arith, c.loop-place-test.true, c.per_block-per.ensures.count) in
                let made = ap (λ (x : Block). x.0) w.made-is ∙ w.lay.ensures ∙ (λ i. lay_bytes (k * width i) (w.as_slice-in-Some.ensures i) c.loop-place.made.0) in
                subst (LaidUpTo t more old c.args.block (k + 1)) (sym made) (laid_used t more old c.args.block k c.loop-place.made.0 w.in-Some.bytes (before.laid told) low used)
          ];
    }
