use Rattle.std.proofs.Common.{◌≡◌, ◌∙◌, ◌+◌, ◌-◌, ◌*◌, ◌<◌, ◌≤◌, ◌++◌, ◌∷◌, [], ℕ, List, ap, sym, append-nil, append_assoc, arith, drop, length, min, Ok, Err}
use Rattle.dms_block.specs.Content.{Content, apply_changes}
use Rattle.dms_block.specs.HeldLaws.{told_after}
use Rattle.dms_block.specs.View.{overlay_content, seen_counts}
use Rattle.dms_block.specs.ViewLaws.{counts_seen, reads_as, reads_more, reads_on}
use Rattle.dms_chain.specs.SeenLaws.{causes_since}
use Rattle.dms_desc.specs.Files.{file_of}
use Rattle.dms_desc.specs.Shape.{shape_of}
use Rattle.dms_layout.specs.declared.slot.SlotRead.{SlotRead}
use Rattle.dms_model.specs.Db.{Place}
use Rattle.dms_slots.specs.Seen.{BadIn}
use Rattle.dms_slots.specs.SlotBlocks.{per_block, slot_at}
use Rattle.dms_links.specs.Linking.{linking_at, linking_from, linking_next, next_slot, no_slot, walked_slots}
use Rattle.dms_links.specs.Rows.{file_in}
use Rattle.dms_links.specs.WalkedLaws.{bad_since}
use Rattle.dms_links.proofs.walking.linking_slots.Goals as goal

pub loop-i-preserved : goal.loop-i-preserved
loop-i-preserved g c =
    let o = c.args.over.now in
    let s = shape_of c.args.s.now in
    let f = file_of c.args.s.now.number in
    let i = c.loop-i.i in
    let r = c.loop-i.invariant.reads in
    record {
      reads = reads_as (Ok 0) tt (reads_on (Ok c.in-Ok.more) g.met.B.Blocks.same_then r c.in-Ok.ensures.reads);
      bound = omega (arith, c.loop-i-test.true);
      faults = c.in-Ok.ensures.causes ∙ c.loop-i.invariant.faults;
      on = λ tells.
          let w = walked_slots s (overlay_content o) in
          let found = c.loop-i.found.items in
          let x : SlotRead = slot_at s (file_in (overlay_content o) s) (i + 1) in
          let still : overlay_content c.loop-i.over ≡ overlay_content o = λ k. apply_changes (r.written_still k) (r.looks.same.content tells k) in
          let here : c.in-Ok.more.items ≡ found ++ linking_at s.number s.items c.args.to c.args.number (i + 1) x =
          c.in-Ok.ensures.found (told_after r.looks.passes.lasts tells) ∙ ap (λ (z : Content). found ++ linking_at s.number s.items c.args.to c.args.number (i + 1) (slot_at s (file_in z s) (i + 1))) still in
          let counted : seen_counts o f * per_block s.items ≡ length (overlay_content o f) * per_block s.items = ap (λ k. k * per_block s.items) (counts_seen o (g.met.B.Blocks.agrees o.below c.requires.sound) tells f) in
          let low : i < min (length (overlay_content o f) * per_block s.items) s.population = omega (arith, c.loop-i-test.true, c.slot_count-count.ensures, counted) in
          ap (λ (z : List Place). z ++ linking_from s.number s.items c.args.to c.args.number (i + 1 + 1) (drop (i + 1) w)) here
          ∙ append_assoc found (linking_at s.number s.items c.args.to c.args.number (i + 1) x) (linking_from s.number s.items c.args.to c.args.number (i + 1 + 1) (drop (i + 1) w))
          ∙ ap (λ (z : List Place). found ++ z) (linking_next s.number s.items c.args.to c.args.number (i + 1) x (drop (i + 1) w))
          ∙ ap (λ (z : List SlotRead). found ++ linking_from s.number s.items c.args.to c.args.number (i + 1) z) (sym (next_slot s (overlay_content o) i low))
          ∙ c.loop-i.invariant.on tells;
    }

pub returns-clause-found : goal.returns-clause-found
returns-clause-found g c tells =
    let o = c.args.over.now in
    let s = shape_of c.args.s.now in
    let f = file_of c.args.s.now.number in
    let i = c.loop-i.i in
    let found = c.loop-i.found.items in
    let counted : seen_counts o f * per_block s.items ≡ length (overlay_content o f) * per_block s.items = ap (λ k. k * per_block s.items) (counts_seen o (g.met.B.Blocks.agrees o.below c.requires.sound) tells f) in
    let past : min (length (overlay_content o f) * per_block s.items) s.population ≤ i = omega (arith, c.loop-i-test.false, c.slot_count-count.ensures, counted) in
    sym (append-nil found)
    ∙ ap (λ (z : List SlotRead). found ++ linking_from s.number s.items c.args.to c.args.number (i + 1) z) (sym (no_slot s (overlay_content o) i past))
    ∙ c.loop-i.invariant.on tells

pub returns-in-Err-clause-causes : goal.returns-in-Err-clause-causes
returns-in-Err-clause-causes g c =
    let s = shape_of c.args.s.now in
    causes_since {U = ℕ} (BadIn s c.loop-i.over) (BadIn s c.args.over.now) (Err c.in-Err.e) c.args.over.now c.loop-i.over c.note_slot.new.over (bad_since s c.args.over.now c.loop-i.over c.loop-i.invariant.reads) c.loop-i.invariant.faults c.loop-i.invariant.reads c.in-Err.ensures.causes

pub returns-in-Err-clause-reads : goal.returns-in-Err-clause-reads
returns-in-Err-clause-reads g c =
    let low : c.loop-i.i + 1 ≤ c.args.s.now.population = omega (arith, c.loop-i-test.true, c.slot_count-count.ensures) in
    reads_more c.args.s.now.population low (reads_on (Err c.in-Err.e) g.met.B.Blocks.same_then c.loop-i.invariant.reads c.in-Err.ensures.reads)

pub returns-clause-reads : goal.returns-clause-reads
returns-clause-reads g c =
    let low : c.loop-i.i ≤ c.args.s.now.population = omega (arith, c.loop-i.invariant.bound, c.slot_count-count.ensures) in
    reads_more c.args.s.now.population low (reads_as (Ok c.loop-i.found) tt c.loop-i.invariant.reads)
