use Rattle.std.proofs.Common.{◌≡◌, ◌∙◌, ◌+◌, ◌-◌, ◌*◌, ◌<◌, ℕ, Bool, Ok, Err, length, refl, sym, ap, subst, arith}
use Rattle.std.specs.Prelude.{IsTrue, max, min}
use Rattle.dms_block.specs.Faults.{IfFull}
use Rattle.dms_block.specs.Held.{AuditPace}
use Rattle.dms_block.specs.HeldLaws.{told_after}
use Rattle.dms_block.specs.View.{overlay_content, seen_counts, under}
use Rattle.dms_block.specs.ViewLaws.{counts_seen}
use Rattle.dms_desc.specs.Files.{file_of}
use Rattle.dms_desc.specs.Shape.{shape_of}
use Rattle.dms_layout.specs.Slots.{slot_width}
use Rattle.dms_slots.specs.FileWritten.{some_slot}
use Rattle.dms_slots.specs.Seen.{blocks_of, count_of}
use Rattle.dms_slots.specs.SlotBlocks.{per_block}
use Rattle.dms_reorg.specs.InPlace.{InPlace, IsInTurn}
use Rattle.dms_reorg.proofs.Damage.{since}
use Rattle.dms_reorg.proofs.Filing.{made_first, made_last, made_on, next_count, old_block, reads_low, turn_low, turns_bound}
use Rattle.dms_reorg.proofs.InPlace.{each_in_place}
use Rattle.dms_reorg.proofs.OneFile.{changes_as, changes_more, changes_none, changes_on, raised_here, widen_changes}
use Rattle.dms_reorg.proofs.Widened.{each_reads_before}
use Rattle.dms_reorg.proofs.widening.widen_blocks.Goals as goal

pub loop-turn-init : goal.loop-turn-init
loop-turn-init g c =
    let s = shape_of c.args.s.now in
    let t = shape_of c.args.t.now in
    let o = c.args.over.now in
    let some : 0 < per_block s.items = some_slot (slot_width s.items) c.requires.fits (omega arith) in
    let some_then : 0 < per_block t.items = some_slot (slot_width t.items) c.requires.widens.room (omega arith) in
    record {
      count = omega (arith, c.requires.more);
      faults = refl;
      changes = changes_more (0 * (per_block c.args.t.now.items + 1)) 0 (omega arith) (omega arith) (changes_none (file_of c.args.s.now.number) (Ok 0) o g.met.B.Blocks.same_again c.requires.clean c.requires.sound);
      made = λ told.
          let long : length (blocks_of s o) ≡ count_of s o = sym (counts_seen o (g.met.B.Blocks.agrees o.below c.requires.sound) told (file_of c.args.s.now.number)) in
          made_first s t c.args.first.now (blocks_of s o) (count_of s o) c.args.count long c.requires.more
          (each_in_place s t c.args.first.now (blocks_of s o) some some_then ((each_reads_before s t c.args.first.now).fewer c.requires.widens));
    }

pub widen_at-requires-clause-sound : goal.widen_at-requires-clause-sound
widen_at-requires-clause-sound g c = c.loop-turn.invariant.changes.stays.sound

pub widen_at-requires-clause-clean : goal.widen_at-requires-clause-clean
widen_at-requires-clause-clean g c = c.loop-turn.invariant.changes.written

pub widen_at-requires-clause-owned : goal.widen_at-requires-clause-owned
widen_at-requires-clause-owned g c = subst (λ (owns : ℕ → Bool). IsTrue (owns (file_of c.args.s.now.number))) (sym c.loop-turn.invariant.changes.passes.lasts.owns) c.requires.owned

pub widen_at-requires-clause-low : goal.widen_at-requires-clause-low
widen_at-requires-clause-low g c = omega (arith, c.block_in_turn-block.ensures.below, c.requires.low)

pub widen_at-requires-clause-next : goal.widen_at-requires-clause-next
widen_at-requires-clause-next g c =
    let s = shape_of c.args.s.now in
    let old = count_of s c.args.over.now in
    let old_is : c.count-old.result ≡ old = c.count-old.ensures ∙ ap (seen_counts c.args.over.now) c.file_of.ensures in
    let turn = subst (λ n. IsInTurn n c.args.count c.loop-turn.turn c.block_in_turn-block.result) old_is c.block_in_turn-block.ensures.turn in
    omega (arith, turn_low old c.args.count c.loop-turn.turn c.block_in_turn-block.result c.requires.more c.loop-turn-test.true turn, c.loop-turn.invariant.count)

pub returns-in-Err-clause-changes : goal.returns-in-Err-clause-changes
returns-in-Err-clause-changes g c =
    let s = shape_of c.args.s.now in
    let t = shape_of c.args.t.now in
    let w = per_block c.args.t.now.items + 1 in
    let step =
    widen_changes {T = Unit {0}} {n = w} (Err c.in-Err.fault) s t c.args.first.now (c.from.result * c.per_block.result) c.block_in_turn-block.result c.loop-turn.over c.widen_at.new.over c.in-Err.ensures.clean c.in-Err.ensures.alters c.in-Err.ensures.counts
    c.in-Err.ensures.widened c.in-Err.ensures.same in
    changes_more (c.args.count * w) c.args.count (turns_bound c.loop-turn.turn c.args.count w c.loop-turn-test.true) (omega (arith, c.loop-turn-test.true))
    (changes_on {U = Unit {0}} (Err c.in-Err.fault) g.met.B.Blocks.same_then c.loop-turn.invariant.changes step)

pub returns-in-Err-clause-causes : goal.returns-in-Err-clause-causes
returns-in-Err-clause-causes g c =
    let s = shape_of c.args.s.now in
    let t = shape_of c.args.t.now in
    let o = c.args.over.now in
    let before = c.loop-turn.invariant in
    let k = c.loop-turn.turn in
    let block = c.block_in_turn-block.result in
    let old = count_of s o in
    let last = c.from.result * c.per_block.result in
    let old_is : c.count-old.result ≡ old = c.count-old.ensures ∙ ap (seen_counts o) c.file_of.ensures in
    let last_is : last ≡ old * per_block s.items = λ i. (c.from.ensures ∙ old_is) i * c.per_block.ensures.count i in
    let turn = subst (λ n. IsInTurn n c.args.count k block) old_is c.block_in_turn-block.ensures.turn in
    since s t c.args.first.now o c.loop-turn.over last (min old (c.args.count - k)) (min c.args.count (old + k)) block before.changes.passes.lasts (g.met.B.Blocks.agrees c.loop-turn.over.below before.changes.stays.sound) c.requires.clean before.changes.written
    (λ told. omega (arith, counts_seen o (g.met.B.Blocks.agrees o.below c.requires.sound) told (file_of c.args.s.now.number))) before.made before.changes.others
    (λ n low upto. let there = old_block (per_block s.items) old last n last_is low in (there, reads_low old c.args.count k block n c.requires.more c.loop-turn-test.true turn there upto))
    {T = Unit {0}} (Err c.in-Err.fault) (under c.widen_at.new.over) before.faults c.in-Err.ensures.causes

pub returns-in-Err-clause-full : goal.returns-in-Err-clause-full
returns-in-Err-clause-full g c =
    let pace = g.met.B.Blocks.same_pace c.args.over.now.below c.loop-turn.over.below c.loop-turn.invariant.changes.same in
    subst (λ (p : AuditPace). IfFull {T = Unit {0}} (Err c.in-Err.fault) (λ f. f ≡ p.last)) pace c.in-Err.ensures.full

pub loop-turn-preserved : goal.loop-turn-preserved
loop-turn-preserved g c =
    let s = shape_of c.args.s.now in
    let t = shape_of c.args.t.now in
    let o = c.args.over.now in
    let more = c.args.first.now in
    let before = c.loop-turn.invariant in
    let k = c.loop-turn.turn in
    let block = c.block_in_turn-block.result in
    let old = count_of s o in
    let last = c.from.result * c.per_block.result in
    let w = per_block c.args.t.now.items + 1 in
    let old_is : c.count-old.result ≡ old = c.count-old.ensures ∙ ap (seen_counts o) c.file_of.ensures in
    let last_is : last ≡ old * per_block s.items = λ i. (c.from.ensures ∙ old_is) i * c.per_block.ensures.count i in
    let turn = subst (λ n. IsInTurn n c.args.count k block) old_is c.block_in_turn-block.ensures.turn in
    let some : 0 < per_block s.items = some_slot (slot_width s.items) c.requires.fits (omega arith) in
    let some_then : 0 < per_block t.items = some_slot (slot_width t.items) c.requires.widens.room (omega arith) in
    let step =
    widen_changes {T = Unit {0}} {n = w} (Ok c.in-Ok.field-0) s t more last block c.loop-turn.over c.widen_at.new.over c.in-Ok.ensures.clean c.in-Ok.ensures.alters c.in-Ok.ensures.counts c.in-Ok.ensures.widened c.in-Ok.ensures.same in
    record {
      count = ap (λ (counts : ℕ → ℕ). counts (file_of c.args.s.now.number)) c.in-Ok.ensures.counts ∙ raised_here (seen_counts c.loop-turn.over) (file_of c.args.s.now.number) block ∙ ap (λ n. max n (block + 1)) before.count
          ∙ next_count old c.args.count k block c.requires.more c.loop-turn-test.true turn;
      faults = c.in-Ok.ensures.causes ∙ before.faults;
      changes = changes_more ((k + 1) * w) (k + 1) (turns_bound k (k + 1) w (omega arith)) (omega arith)
          (changes_as 0 (changes_on {U = Unit {0}} (Ok c.in-Ok.field-0) g.met.B.Blocks.same_then before.changes step));
      made = λ told.
          let long : length (blocks_of s o) ≡ old = sym (counts_seen o (g.met.B.Blocks.agrees o.below c.requires.sound) told (file_of c.args.s.now.number)) in
          let ip : InPlace s t more (blocks_of s o) = each_in_place s t more (blocks_of s o) some some_then ((each_reads_before s t more).fewer c.requires.widens) in
          made_on s t more (blocks_of s o) ip last (last_is ∙ ap (λ n. n * per_block s.items) (sym long)) (overlay_content c.loop-turn.over) (overlay_content c.widen_at.new.over) old c.args.count k block long c.requires.more c.loop-turn-test.true turn
          (before.made told) (c.in-Ok.ensures.widened (told_after before.changes.passes.lasts told));
    }

pub returns-clause-count : goal.returns-clause-count
returns-clause-count g c = omega (arith, c.loop-turn.invariant.count, c.loop-turn-test.false, c.loop-turn.auto.turn-end)

pub returns-clause-made : goal.returns-clause-made
returns-clause-made g c told =
    let s = shape_of c.args.s.now in
    let done : c.loop-turn.turn ≡ c.args.count = omega (arith, c.loop-turn-test.false, c.loop-turn.auto.turn-end) in
    made_last s (shape_of c.args.t.now) c.args.first.now (blocks_of s c.args.over.now) (count_of s c.args.over.now) c.args.count c.loop-turn.turn (blocks_of s c.loop-turn.over) done (c.loop-turn.invariant.made told)

pub returns-clause-changes : goal.returns-clause-changes
returns-clause-changes g c =
    let w = per_block c.args.t.now.items + 1 in
    let done : c.loop-turn.turn ≡ c.args.count = omega (arith, c.loop-turn-test.false, c.loop-turn.auto.turn-end) in
    changes_more (c.args.count * w) c.args.count (let e = ap (λ n. n * w) done in omega (arith, e)) (omega (arith, done)) (changes_as {U = Unit {0}} tt c.loop-turn.invariant.changes)

pub returns-clause-causes : goal.returns-clause-causes
returns-clause-causes g c = c.loop-turn.invariant.faults
