use Rattle.std.proofs.Common.{◌≡◌, ◌<◌, ◌∙◌, ◌-◌, ◌/◌, ◌%◌, ℕ, List, length, sym, ap, subst, arith, inr, get_or, [], false}
use Rattle.std.proofs.Math.Nat as nat
use Rattle.dms_desc.specs.Shape.{shape_of}
use Rattle.dms_block.specs.Changing.{grown_is}
use Rattle.dms_block.specs.View.{overlay_content, seen_counts, under, overlay_changes}
use Rattle.dms_desc.specs.Files.{file_of}
use Rattle.dms_slots.specs.SlotBlocks.{is_block}
use Rattle.dms_slots.specs.SlotBlockLaws.{read_there, slot_past, bad_block, used_there}
use Rattle.dms_slots.proofs.finding.read_slot.Goals as goal

pub returns-then-from-at-clause-slot : goal.returns-then-from-at-clause-slot
returns-then-from-at-clause-slot g c tells =
    let b = c.args.b.now in
    let f = file_of c.args.s.now.number in
    let counted = grown_is (overlay_changes b) (under b).owns (under b).counts (under b).content ((g.met.B.Blocks.agrees b.below c.requires.sound).counted tells) b.fits f in
    let here = ap (seen_counts b) c.file_of-file.ensures in
    slot_past (shape_of c.args.s.now) (overlay_content b f) c.args.number c.per_block-per.result c.per_block-per.ensures.count
    (omega (arith, counted, here, c.count.ensures, c.from.ensures, c.if-from-at.true))

pub returns-in-Free-clause-slot : goal.returns-in-Free-clause-slot
returns-in-Free-clause-slot g c tells =
    let b = c.args.b.now in
    let f = file_of c.args.s.now.number in
    let counted = grown_is (overlay_changes b) (under b).owns (under b).counts (under b).content ((g.met.B.Blocks.agrees b.below c.requires.sound).counted tells) b.fits f in
    let here = ap (seen_counts b) c.file_of-file.ensures in
    read_there (shape_of c.args.s.now) (overlay_content b f) c.args.number c.per_block-per.result c.in_ok-bytes.bytes.0 c.in_ok-slot_in.field-0 c.per_block-per.ensures.count (c.per_block-per.ensures.some c.requires.fits)
    (omega (arith, counted, here, c.count.ensures, c.from.ensures, c.if-from-at.false))
    (c.in_ok-bytes.ensures.block tells ∙ ap (λ (h : ℕ). get_or (overlay_content b h) ((c.args.number - 1) / c.per_block-per.result) []) c.file_of-file.ensures) c.in_ok-slot_in.ensures ∙ c.in-Free.is

pub returns-in-Used-clause-slot : goal.returns-in-Used-clause-slot
returns-in-Used-clause-slot g c tells =
    let b = c.args.b.now in
    let f = file_of c.args.s.now.number in
    let counted = grown_is (overlay_changes b) (under b).owns (under b).counts (under b).content ((g.met.B.Blocks.agrees b.below c.requires.sound).counted tells) b.fits f in
    let here = ap (seen_counts b) c.file_of-file.ensures in
    read_there (shape_of c.args.s.now) (overlay_content b f) c.args.number c.per_block-per.result c.in_ok-bytes.bytes.0 c.in_ok-slot_in.field-0 c.per_block-per.ensures.count (c.per_block-per.ensures.some c.requires.fits)
    (omega (arith, counted, here, c.count.ensures, c.from.ensures, c.if-from-at.false))
    (c.in_ok-bytes.ensures.block tells ∙ ap (λ (h : ℕ). get_or (overlay_content b h) ((c.args.number - 1) / c.per_block-per.result) []) c.file_of-file.ensures) c.in_ok-slot_in.ensures ∙ c.in-Used.is

pub returns-in-Used-clause-fits : goal.returns-in-Used-clause-fits
returns-in-Used-clause-fits g c = used_there (shape_of c.args.s.now) c.in_ok-bytes.bytes.0 _ c.in-Used.slot (sym c.in_ok-slot_in.ensures ∙ c.in-Used.is)

pub returns-in-Bad-clause-causes : goal.returns-in-Bad-clause-causes
returns-in-Bad-clause-causes g c =
    let b = c.args.b.now in
    let f = file_of c.args.s.now.number in
    let at = (c.args.number - 1) / c.per_block-per.result in
    let here = ap (seen_counts b) c.file_of-file.ensures in
    let there : at < seen_counts b f = omega (arith, here, c.count.ensures, c.from.ensures, c.if-from-at.false) in
    inr (
      c.in_ok-bytes.ensures.causes,
      (
        (
          (
            c.file_of-file.ensures,
            λ tells.
                let counted = grown_is (overlay_changes b) (under b).owns (under b).counts (under b).content ((g.met.B.Blocks.agrees b.below c.requires.sound).counted tells) b.fits f in
                let low : at < length (overlay_content b f) = omega (arith, counted, there) in
                let is = c.in_ok-bytes.ensures.block tells ∙ ap (λ (h : ℕ). get_or (overlay_content b h) at []) c.file_of-file.ensures in
                let some = c.per_block-per.ensures.some c.requires.fits in
                let place : (c.args.number - 1) % c.per_block-per.result < c.per_block-per.result = nat.mod-lt (c.args.number - 1) some in (
                  low,
                  subst (λ (l : List ℕ). is_block (shape_of c.args.s.now) l ≡ false) is
                      (bad_block (shape_of c.args.s.now) c.in_ok-bytes.bytes.0 _ (subst (λ (n : ℕ). (c.args.number - 1) % c.per_block-per.result < n) c.per_block-per.ensures.count place) (sym c.in_ok-slot_in.ensures ∙ c.in-Bad.is)),
                ),
          ),
          there,
        ),
        ap (λ n. (c.args.number - 1) / n) c.per_block-per.ensures.count,
      ),
    )
