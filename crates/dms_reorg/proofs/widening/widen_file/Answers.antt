use Rattle.std.proofs.Common.{◌≡◌, ◌∙◌, ◌+◌, ◌*◌, ◌<◌, ◌≤◌, Err, inl, inr, length, refl, sym, ap, arith}
use Rattle.std.specs.Prelude.{max, min}
use Rattle.std.proofs.Math.Nat as nat
use Rattle.dms_block.specs.declared.block_fault.BlockFault.TheVariants.{Damaged}
use Rattle.dms_block.specs.View.{seen_counts, under}
use Rattle.dms_block.specs.ViewLaws.{counts_seen}
use Rattle.dms_desc.specs.Files.{file_of}
use Rattle.dms_desc.specs.Shape.{shape_of}
use Rattle.dms_layout.specs.Slots.{slot_width}
use Rattle.dms_slots.specs.FileWritten.{some_slot}
use Rattle.dms_slots.specs.Seen.{blocks_of, count_of}
use Rattle.dms_slots.specs.SlotBlocks.{per_block}
use Rattle.dms_reorg.specs.Damage.{BadFile, IsDamaged}
use Rattle.dms_reorg.proofs.Damage.{since_wider}
use Rattle.dms_reorg.proofs.Filing.{made_file}
use Rattle.dms_reorg.proofs.OneFile.{changes_more, changes_none, on_ok_map}
use Rattle.dms_reorg.proofs.widening.widen_file.Goals as goal

pub returns-then-old-gt1048576-clause-changes : goal.returns-then-old-gt1048576-clause-changes
returns-then-old-gt1048576-clause-changes g c =
    let o = c.args.over.now in
    let most = max (count_of (shape_of c.args.s.now) o) c.args.s.now.population in
    changes_more (most * (per_block c.args.t.now.items + 1)) most (omega arith) (omega arith)
    (changes_none {T = Unit {0}} (file_of c.args.s.now.number) (Err (Damaged c.file_of-file.result 0)) o g.met.B.Blocks.same_again c.requires.clean c.requires.sound)

pub returns-then-old-gt1048576-clause-causes : goal.returns-then-old-gt1048576-clause-causes
returns-then-old-gt1048576-clause-causes g c =
    let s = shape_of c.args.s.now in
    let o = c.args.over.now in
    let old_is : c.count-old.result ≡ count_of s o = c.count-old.ensures ∙ ap (seen_counts o) c.file_of-file.ensures in
    (inr refl, inr (c.file_of-file.ensures, λ told. omega (arith, counts_seen o (g.met.B.Blocks.agrees o.below c.requires.sound) told (file_of c.args.s.now.number), old_is, c.if-old-gt1048576.true)))

pub per_block-requires : goal.per_block-requires
per_block-requires g c = record { few = c.requires.few }

pub per_block-requires-2 : goal.per_block-requires-2
per_block-requires-2 g c = record { few = c.requires.few_then }

pub blocks_needed-count-requires-clause-per : goal.blocks_needed-count-requires-clause-per
blocks_needed-count-requires-clause-per g c = c.per_block.ensures.most

pub blocks_needed-count-requires-clause-some : goal.blocks_needed-count-requires-clause-some
blocks_needed-count-requires-clause-some g c = c.per_block-2.ensures.some c.requires.widens.room

pub blocks_needed-count-requires-clause-per_then : goal.blocks_needed-count-requires-clause-per_then
blocks_needed-count-requires-clause-per_then g c = c.per_block-2.ensures.most

pub widen_blocks-requires-clause-more : goal.widen_blocks-requires-clause-more
widen_blocks-requires-clause-more g c =
    let o = c.args.over.now in
    let old_is : c.count-old.result ≡ count_of (shape_of c.args.s.now) o = c.count-old.ensures ∙ ap (seen_counts o) c.file_of-file.ensures in
    omega (arith, old_is, c.blocks_needed-count.ensures.not_fewer)

pub widen_blocks-requires-clause-low : goal.widen_blocks-requires-clause-low
widen_blocks-requires-clause-low g c = omega (arith, c.blocks_needed-count.ensures.most, c.if-old-gt1048576.false, c.requires.population)

pub returns-clause-widened : goal.returns-clause-widened
returns-clause-widened g c =
    let s = shape_of c.args.s.now in
    let t = shape_of c.args.t.now in
    let o = c.args.over.now in
    let bs = blocks_of s o in
    let count = c.blocks_needed-count.result in
    let old_is : c.count-old.result ≡ count_of s o = c.count-old.ensures ∙ ap (seen_counts o) c.file_of-file.ensures in
    let some : 0 < per_block s.items = some_slot (slot_width s.items) c.requires.fits (omega arith) in
    let some_then : 0 < per_block t.items = some_slot (slot_width t.items) c.requires.widens.room (omega arith) in
    on_ok_map c.widen_blocks.result (λ made told none.
    let long : length bs ≡ c.count-old.result = sym (old_is ∙ counts_seen o (g.met.B.Blocks.agrees o.below c.requires.sound) told (file_of c.args.s.now.number)) in
    let slots : length bs * per_block s.items ≡ c.count-old.result * c.per_block.result = λ i. long i * sym c.per_block.ensures.count i in
    let more : count * c.per_block-2.result ≡ count * per_block t.items = ap (λ n. count * n) c.per_block-2.ensures.count in
    let room : min (length bs * per_block s.items) s.population ≤ count * per_block t.items = omega (arith, c.blocks_needed-count.ensures.room, slots, more) in
    made_file s t c.args.first.now bs count (blocks_of s c.widen_blocks.new.over) some some_then room none (made told)) c.widen_blocks.ensures.made

pub returns-clause-count : goal.returns-clause-count
returns-clause-count g c =
    let few : c.blocks_needed-count.result ≤ 1048576 = omega (arith, c.blocks_needed-count.ensures.most, c.if-old-gt1048576.false, c.requires.population) in
    let o = c.widen_blocks.new.over in
    let P = count_of (shape_of c.args.s.now) o in
    on_ok_map c.widen_blocks.result (λ (e : P ≡ c.blocks_needed-count.result). omega (arith, few, e)) c.widen_blocks.ensures.count

pub returns-clause-changes : goal.returns-clause-changes
returns-clause-changes g c =
    let o = c.args.over.now in
    let w = per_block c.args.t.now.items + 1 in
    let most = max (count_of (shape_of c.args.s.now) o) c.args.s.now.population in
    let old_is : c.count-old.result ≡ count_of (shape_of c.args.s.now) o = c.count-old.ensures ∙ ap (seen_counts o) c.file_of-file.ensures in
    let le : c.blocks_needed-count.result ≤ most = omega (arith, c.blocks_needed-count.ensures.most, old_is) in
    changes_more (most * w) most (nat.mul-le-mul_right w le) le c.widen_blocks.ensures.changes

pub returns-clause-causes : goal.returns-clause-causes
returns-clause-causes g c =
    let s = shape_of c.args.s.now in
    let o = c.args.over.now in
    since_wider (IsDamaged s o) (BadFile s o) c.widen_blocks.result (under o) (under c.widen_blocks.new.over) (λ f n bad. inl bad) c.widen_blocks.ensures.causes

pub returns-clause-full : goal.returns-clause-full
returns-clause-full g c = c.widen_blocks.ensures.full
