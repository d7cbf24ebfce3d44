use Rattle.std.proofs.Common.{◌≡◌, ◌≤◌, ◌<◌, ◌∙◌, [], List, ℕ, Some, sym, ap, subst, length, arith}
use Rattle.std.specs.Prelude.{IsErrAnd, IsErrOf}
use Rattle.std.specs.declared.result.Result.{Result}
use Rattle.std.specs.declared.result.Result.TheVariants.{Ok, Err}
use Rattle.dms_block.specs.declared.block_fault.BlockFault.{BlockFault}
use Rattle.dms_block.specs.declared.block_fault.BlockFault.TheVariants.{Memory}
use Rattle.dms_block.specs.Faults.{NotFull}
use Rattle.dms_block.specs.Changing.{raised_old}
use Rattle.dms_block.specs.Content.{put_block}
use Rattle.dms_block.specs.Held.{Looks}
use Rattle.dms_block.specs.HeldLaws.{looks_none}
use Rattle.dms_block.specs.View.{overlay_content, seen_counts}
use Rattle.dms_block.specs.ViewLaws.{counts_seen}
use Rattle.dms_chain.specs.Leads.{lead}
use Rattle.dms_chain.specs.ListBlocks.{flat, leaf_bytes}
use Rattle.dms_ordlist.specs.ListChanges.{holds_at, missing_has, missing_without, stands_has}
use Rattle.dms_chain.specs.Parts.{at_same}
use Rattle.dms_chain.specs.ListIn.{list_in}
use Rattle.dms_ordlist.specs.ListRemoves.{here_removed, last_removed, less_fits, less_items, none_left, some_left, spot_fits, wide_less, without_at_place}
use Rattle.dms_chain.specs.Located.{at_low}
use Rattle.dms_chain.specs.SpellLaws.{wide_room}
use Rattle.dms_chain.specs.Written.{one_in, one_off}
use Rattle.dms_ordlist.proofs.removing.remove_in.Goals as goal

not_full_that : {T U : Type 0} (r : Result T BlockFault) (x : BlockFault) → IsErrAnd r (λ y. y ≡ x) → IsErrOf {T = U} (Err x) Memory → NotFull r
not_full_that (Ok v) x h is = tt
not_full_that {T = T} (Err e) x h is =
    let memory : x ≡ Memory = cc is in
    subst (λ f. NotFull {T = T} (Err f)) (sym (h ∙ memory)) tt

pub returns-then-not-stands_at-clause-list : goal.returns-then-not-stands_at-clause-list
returns-then-not-stands_at-clause-list g c told xs l is =
    let e = c.args.entry.now in
    let p = c.in-Some.field-0 in
    let es = p.here.leaf.entries.items in
    let place : c.lead-i.result ≡ lead e es = c.lead-i.ensures.lead ∙ ap (lead e) c.deref.ensures.value in
    let off = at_same e es c.deref-2.result.now c.lead-i.result c.stands_at.result c.deref-2.ensures.value place c.stands_at.ensures ∙ c.if-not-stands_at.true in
    is ∙ ap Some (sym (missing_without e (length e) (seen_counts c.args.over.now c.args.file) (overlay_content c.args.over.now c.args.file) xs c.args.found p c.requires.width l c.in-Some.is c.requires.holds off))

pub returns-then-not-stands_at-clause-answer : goal.returns-then-not-stands_at-clause-answer
returns-then-not-stands_at-clause-answer g c told xs l =
    let e = c.args.entry.now in
    let p = c.in-Some.field-0 in
    let es = p.here.leaf.entries.items in
    let place : c.lead-i.result ≡ lead e es = c.lead-i.ensures.lead ∙ ap (lead e) c.deref.ensures.value in
    let off = at_same e es c.deref-2.result.now c.lead-i.result c.stands_at.result c.deref-2.ensures.value place c.stands_at.ensures ∙ c.if-not-stands_at.true in
    sym (missing_has e (length e) (seen_counts c.args.over.now c.args.file) (overlay_content c.args.over.now c.args.file) xs c.args.found p c.requires.width l c.in-Some.is c.requires.holds off)

pub remove-requires : goal.remove-requires
remove-requires g c =
    let e = c.args.entry.now in
    let es = c.in-Some.field-0.here.leaf.entries.items in
    let place : c.lead-i.result ≡ lead e es = c.lead-i.ensures.lead ∙ ap (lead e) c.deref.ensures.value in
    let on = at_same e es c.deref-2.result.now c.lead-i.result c.stands_at.result c.deref-2.ensures.value place c.stands_at.ensures ∙ c.if-not-stands_at.false in
    let low : lead e es < length es = at_low e [] es [] on in
    omega (arith, place, low)

pub release-requires-clause-fits : goal.release-requires-clause-fits
release-requires-clause-fits g c =
    let e = c.args.entry.now in
    let count = seen_counts c.args.over.now c.args.file in
    let held = holds_at (length e) count c.args.found.place c.in-Some.field-0 c.in-Some.is c.requires.holds in
    spot_fits (length e) count c.in-Some.field-0.before c.requires.width held.before

pub returns-then-is_empty-clause-list : goal.returns-then-is_empty-clause-list
returns-then-is_empty-clause-list g c told xs l is =
    let o = c.args.over.now in
    let file = c.args.file in
    let e = c.args.entry.now in
    let p = c.in-Some.field-0 in
    let es = p.here.leaf.entries.items in
    let place : c.lead-i.result ≡ lead e es = c.lead-i.ensures.lead ∙ ap (lead e) c.deref.ensures.value in
    let on = at_same e es c.deref-2.result.now c.lead-i.result c.stands_at.result c.deref-2.ensures.value place c.stands_at.ensures ∙ c.if-not-stands_at.false in
    let new = less_items e es c.remove.new.self.items c.lead-i.result place c.remove.ensures.by_index.2 in
    let size = none_left _ c.is_empty.result c.is_empty.ensures c.if-is_empty.true in
    let none : length (without_at_place e es) ≡ 0 = omega (arith, size, ap (λ (k : List (List ℕ)). length k) new) in
    let n = counts_seen o (g.met.B.Blocks.agrees o.below c.requires.sound) told file in
    ap (list_in (length e)) (c.in_ok-release.ensures.seen told)
    ∙ last_removed e (length e) (seen_counts o file) (overlay_content o file) xs c.args.found p c.requires.width l c.in-Some.is c.requires.holds (omega (arith, n, c.requires.room)) n on none

pub returns-then-is_empty-clause-answer : goal.returns-then-is_empty-clause-answer
returns-then-is_empty-clause-answer g c told xs l =
    let e = c.args.entry.now in
    let p = c.in-Some.field-0 in
    let es = p.here.leaf.entries.items in
    let place : c.lead-i.result ≡ lead e es = c.lead-i.ensures.lead ∙ ap (lead e) c.deref.ensures.value in
    let on = at_same e es c.deref-2.result.now c.lead-i.result c.stands_at.result c.deref-2.ensures.value place c.stands_at.ensures ∙ c.if-not-stands_at.false in
    sym (stands_has e (length e) (seen_counts c.args.over.now c.args.file) (overlay_content c.args.over.now c.args.file) xs c.args.found p c.requires.width l c.in-Some.is c.requires.holds on)

pub leaf_block-requires-clause-room : goal.leaf_block-requires-clause-room
leaf_block-requires-clause-room g c =
    let e = c.args.entry.now in
    let p = c.in-Some.field-0 in
    let es = p.here.leaf.entries.items in
    let place : c.lead-i.result ≡ lead e es = c.lead-i.ensures.lead ∙ ap (lead e) c.deref.ensures.value in
    let new = less_items e es c.remove.new.self.items c.lead-i.result place c.remove.ensures.by_index.2 in
    let held = holds_at (length e) (seen_counts c.args.over.now c.args.file) c.args.found.place p c.in-Some.is c.requires.holds in
    subst (λ k. length (flat k) ≤ 1017) (sym new) (wide_room (length e) (without_at_place e es) (wide_less e (length e) es held.here.leaf.wide) (less_fits e (length e) es held.here.leaf.holds.room))

pub returns-in_err-write-clause-writes : goal.returns-in_err-write-clause-writes
returns-in_err-write-clause-writes g c =
    let o = c.args.over.now in
    let r = c.from_residual-in_err-write.result in
    let below = sym c.write.ensures.below in
    record {
      looks = subst (λ b. Looks 0 r (g.B.Blocks.held o.below) (g.B.Blocks.held b)) below (looks_none 0 r (g.B.Blocks.held o.below) (not_full_that r _ c.from_residual-in_err-write.ensures.1 c.in_err-write.ensures.memory) c.requires.sound);
      more = omega (arith, c.write.ensures.more);
      same = subst (λ b. g.B.Blocks.same_blocks o.below b) below (g.met.B.Blocks.same_again o.below);
    }

pub returns-clause-list : goal.returns-clause-list
returns-clause-list g c told xs l is =
    let o = c.args.over.now in
    let file = c.args.file in
    let e = c.args.entry.now in
    let p = c.in-Some.field-0 in
    let es = p.here.leaf.entries.items in
    let place : c.lead-i.result ≡ lead e es = c.lead-i.ensures.lead ∙ ap (lead e) c.deref.ensures.value in
    let on = at_same e es c.deref-2.result.now c.lead-i.result c.stands_at.result c.deref-2.ensures.value place c.stands_at.ensures ∙ c.if-not-stands_at.false in
    let new = less_items e es c.remove.new.self.items c.lead-i.result place c.remove.ensures.by_index.2 in
    let size = some_left _ c.is_empty.result c.is_empty.ensures c.if-is_empty.false in
    let some : 0 < length (without_at_place e es) = omega (arith, size, ap (λ (k : List (List ℕ)). length k) new) in
    let n = counts_seen o (g.met.B.Blocks.agrees o.below c.requires.sound) told file in
    let block : c.leaf_block.result.0 ≡ leaf_bytes p.here.leaf.next (without_at_place e es) = c.leaf_block.ensures ∙ ap (leaf_bytes p.here.leaf.next) new in
    let wrote = one_in (overlay_content o) (overlay_content c.write.new.self) file p.here.number c.leaf_block.result.0 (c.in_ok-write.ensures.seen told c.requires.sound) in
    ap (list_in (length e)) (wrote ∙ ap (λ b. put_block p.here.number b (overlay_content o file)) block)
    ∙ here_removed e (length e) (seen_counts o file) (overlay_content o file) xs c.args.found p c.requires.width l c.in-Some.is c.requires.holds (omega (arith, n, c.requires.room)) n on some

pub returns-clause-answer : goal.returns-clause-answer
returns-clause-answer g c told xs l =
    let e = c.args.entry.now in
    let p = c.in-Some.field-0 in
    let es = p.here.leaf.entries.items in
    let place : c.lead-i.result ≡ lead e es = c.lead-i.ensures.lead ∙ ap (lead e) c.deref.ensures.value in
    let on = at_same e es c.deref-2.result.now c.lead-i.result c.stands_at.result c.deref-2.ensures.value place c.stands_at.ensures ∙ c.if-not-stands_at.false in
    sym (stands_has e (length e) (seen_counts c.args.over.now c.args.file) (overlay_content c.args.over.now c.args.file) xs c.args.found p c.requires.width l c.in-Some.is c.requires.holds on)

pub returns-clause-others : goal.returns-clause-others
returns-clause-others g c told other off =
    one_off (overlay_content c.args.over.now) (overlay_content c.write.new.self) c.args.file c.in-Some.field-0.here.number c.leaf_block.result.0 other off (c.in_ok-write.ensures.seen told c.requires.sound)

pub returns-clause-counts : goal.returns-clause-counts
returns-clause-counts g c =
    let o = c.args.over.now in
    let p = c.in-Some.field-0 in
    let held = holds_at (length c.args.entry.now) (seen_counts o c.args.file) c.args.found.place p c.in-Some.is c.requires.holds in
    c.in_ok-write.ensures.counts ∙ raised_old (seen_counts o) c.args.file p.here.number held.here.there
