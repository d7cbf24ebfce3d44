use Rattle.std.proofs.Common.{◌≡◌, ◌≤◌, ◌<◌, ◌*◌, ◌/◌, ◌++◌, ◌∷◌, ◌∙◌, ℕ, List, Some, sym, ap, subst, length, take, drop, not, arith, refl, length-take, length-drop}
use Rattle.dms_block.specs.Content.{put_block}
use Rattle.dms_block.specs.View.{overlay_content, seen_counts}
use Rattle.dms_block.specs.ViewLaws.{counts_seen}
use Rattle.dms_chain.specs.Leads.{lead}
use Rattle.dms_chain.specs.ListBlocks.{flat, head_bytes, leaf_bytes}
use Rattle.dms_ordlist.specs.ListChanges.{here_list, holds_at, lower_fits, many_some, missing_has, one_over, room_after, split_list, stands_has, stands_with, upper_fits, with_at_place}
use Rattle.dms_chain.specs.Parts.{at_same, wide_both, wide_drop, wide_take}
use Rattle.dms_chain.specs.ListIn.{list_in}
use Rattle.dms_chain.specs.Located.{lead_le}
use Rattle.dms_chain.specs.SpellLaws.{AllWide, wide_room}
use Rattle.dms_chain.specs.Written.{one_in, one_off}
use Rattle.dms_ordlist.proofs.inserting.insert_in.Goals as goal

new_items : (c e : List ℕ) (es new : List (List ℕ)) (i : ℕ) → i ≡ lead c es → e ≡ c → new ≡ take i es ++ e ∷ drop i es → new ≡ with_at_place c es
new_items c e es new i place same is = is ∙ (λ j. take (place j) es ++ same j ∷ drop (place j) es)

wide_new : (c : List ℕ) (es : List (List ℕ)) → AllWide (length c) es → AllWide (length c) (with_at_place c es)
wide_new c es wide = wide_both (length c) (take (lead c es) es) (c ∷ drop (lead c es) es) (wide_take (length c) (lead c es) es wide) (refl, wide_drop (length c) (lead c es) es wide)

pub returns-then-stands_at-clause-list : goal.returns-then-stands_at-clause-list
returns-then-stands_at-clause-list g c told xs l is =
    let e = c.args.entry.now in
    let p = c.in-Some.field-0 in
    let at = c.in-Some.is in
    let es = c.in-Some.field-0.here.leaf.entries.items in
    let place : c.lead-i.result ≡ lead e es = c.lead-i.ensures.lead ∙ ap (lead e) c.deref.ensures.value in
    let on = at_same e es c.deref-2.result.now c.lead-i.result c.stands_at.result c.deref-2.ensures.value place c.stands_at.ensures ∙ c.if-stands_at.true in
    is ∙ ap Some (sym (stands_with e (length e) (seen_counts c.args.over.now c.args.file) (overlay_content c.args.over.now c.args.file) xs c.args.found p c.requires.width l at c.requires.holds on))

pub returns-then-stands_at-clause-answer : goal.returns-then-stands_at-clause-answer
returns-then-stands_at-clause-answer g c told xs l =
    let e = c.args.entry.now in
    let p = c.in-Some.field-0 in
    let at = c.in-Some.is in
    let es = c.in-Some.field-0.here.leaf.entries.items in
    let place : c.lead-i.result ≡ lead e es = c.lead-i.ensures.lead ∙ ap (lead e) c.deref.ensures.value in
    let on = at_same e es c.deref-2.result.now c.lead-i.result c.stands_at.result c.deref-2.ensures.value place c.stands_at.ensures ∙ c.if-stands_at.true in
    sym (ap not (stands_has e (length e) (seen_counts c.args.over.now c.args.file) (overlay_content c.args.over.now c.args.file) xs c.args.found p c.requires.width l at c.requires.holds on))

pub leaf_block-requires-clause-room : goal.leaf_block-requires-clause-room
leaf_block-requires-clause-room g c =
    let e = c.args.entry.now in
    let p = c.in-Some.field-0 in
    let at = c.in-Some.is in
    let es = c.in-Some.field-0.here.leaf.entries.items in
    let place : c.lead-i.result ≡ lead e es = c.lead-i.ensures.lead ∙ ap (lead e) c.deref.ensures.value in
    let new = new_items e c.in_ok-copy_of.field-0 es c.insert.new.self.items c.lead-i.result place c.in_ok-copy_of.ensures c.in_ok-insert.ensures.items in
    let held = holds_at (length e) (seen_counts c.args.over.now c.args.file) c.args.found.place p at c.requires.holds in
    let fits : length (with_at_place e es) * length e ≤ 1017 = subst (λ n. n * length e ≤ 1017) (let size : c.len.result ≡ length (with_at_place e es) = omega (arith, c.len.ensures, ap (λ (k : List (List ℕ)). length k) new) in size) c.if-len-entry-le1017.true in
    subst (λ k. length (flat k) ≤ 1017) (sym new) (wide_room (length e) (with_at_place e es) (wide_new e es held.here.leaf.wide) fits)

pub returns-then-len-entry-le1017-clause-list : goal.returns-then-len-entry-le1017-clause-list
returns-then-len-entry-le1017-clause-list g c told xs l is =
    let o = c.args.over.now in
    let file = c.args.file in
    let e = c.args.entry.now in
    let p = c.in-Some.field-0 in
    let at = c.in-Some.is in
    let es = c.in-Some.field-0.here.leaf.entries.items in
    let place : c.lead-i.result ≡ lead e es = c.lead-i.ensures.lead ∙ ap (lead e) c.deref.ensures.value in
    let off = at_same e es c.deref-2.result.now c.lead-i.result c.stands_at.result c.deref-2.ensures.value place c.stands_at.ensures ∙ c.if-stands_at.false in
    let new = new_items e c.in_ok-copy_of.field-0 es c.insert.new.self.items c.lead-i.result place c.in_ok-copy_of.ensures c.in_ok-insert.ensures.items in
    let fits : length (with_at_place e es) * length e ≤ 1017 = subst (λ n. n * length e ≤ 1017) (let size : c.len.result ≡ length (with_at_place e es) = omega (arith, c.len.ensures, ap (λ (k : List (List ℕ)). length k) new) in size) c.if-len-entry-le1017.true in
    let n = counts_seen o (g.met.B.Blocks.agrees o.below c.requires.sound) told file in
    let block : c.leaf_block.result.0 ≡ leaf_bytes c.in-Some.field-0.here.leaf.next (with_at_place e es) = c.leaf_block.ensures ∙ ap (leaf_bytes c.in-Some.field-0.here.leaf.next) new in
    let wrote = one_in (overlay_content o) (overlay_content c.write.new.self) file c.in-Some.field-0.here.number c.leaf_block.result.0 (c.in_ok-write.ensures.seen told c.requires.sound) in
    ap (list_in (length e)) (wrote ∙ ap (λ b. put_block c.in-Some.field-0.here.number b (overlay_content o file)) block)
    ∙ here_list e (length e) (seen_counts o file) (overlay_content o file) xs c.args.found p c.requires.width l at c.requires.holds refl (omega (arith, n, c.requires.room)) n off fits

pub returns-then-len-entry-le1017-clause-answer : goal.returns-then-len-entry-le1017-clause-answer
returns-then-len-entry-le1017-clause-answer g c told xs l =
    let e = c.args.entry.now in
    let p = c.in-Some.field-0 in
    let at = c.in-Some.is in
    let es = c.in-Some.field-0.here.leaf.entries.items in
    let place : c.lead-i.result ≡ lead e es = c.lead-i.ensures.lead ∙ ap (lead e) c.deref.ensures.value in
    let off = at_same e es c.deref-2.result.now c.lead-i.result c.stands_at.result c.deref-2.ensures.value place c.stands_at.ensures ∙ c.if-stands_at.false in
    sym (ap not (missing_has e (length e) (seen_counts c.args.over.now c.args.file) (overlay_content c.args.over.now c.args.file) xs c.args.found p c.requires.width l at c.requires.holds off))

pub returns-then-len-entry-le1017-clause-others : goal.returns-then-len-entry-le1017-clause-others
returns-then-len-entry-le1017-clause-others g c told other off =
    one_off (overlay_content c.args.over.now) (overlay_content c.write.new.self) c.args.file c.in-Some.field-0.here.number c.leaf_block.result.0 other off (c.in_ok-write.ensures.seen told c.requires.sound)

pub split-requires-clause-wide : goal.split-requires-clause-wide
split-requires-clause-wide g c =
    let e = c.args.entry.now in
    let p = c.in-Some.field-0 in
    let at = c.in-Some.is in
    let es = c.in-Some.field-0.here.leaf.entries.items in
    let place : c.lead-i.result ≡ lead e es = c.lead-i.ensures.lead ∙ ap (lead e) c.deref.ensures.value in
    let new = new_items e c.in_ok-copy_of.field-0 es c.insert.new.self.items c.lead-i.result place c.in_ok-copy_of.ensures c.in_ok-insert.ensures.items in
    let held = holds_at (length e) (seen_counts c.args.over.now c.args.file) c.args.found.place p at c.requires.holds in
    subst (AllWide (length e)) (sym new) (wide_new e es held.here.leaf.wide)

pub returns-clause-list : goal.returns-clause-list
returns-clause-list g c told xs l is =
    let o = c.args.over.now in
    let file = c.args.file in
    let e = c.args.entry.now in
    let w = length e in
    let p = c.in-Some.field-0 in
    let at = c.in-Some.is in
    let es = c.in-Some.field-0.here.leaf.entries.items in
    let next = c.in-Some.field-0.here.leaf.next in
    let number = c.in-Some.field-0.here.number in
    let place : c.lead-i.result ≡ lead e es = c.lead-i.ensures.lead ∙ ap (lead e) c.deref.ensures.value in
    let off = at_same e es c.deref-2.result.now c.lead-i.result c.stands_at.result c.deref-2.ensures.value place c.stands_at.ensures ∙ c.if-stands_at.false in
    let new = new_items e c.in_ok-copy_of.field-0 es c.insert.new.self.items c.lead-i.result place c.in_ok-copy_of.ensures c.in_ok-insert.ensures.items in
    let many : 1017 < length (with_at_place e es) * w = subst (λ n. 1017 < n * w) (let size : c.len.result ≡ length (with_at_place e es) = omega (arith, c.len.ensures, ap (λ (k : List (List ℕ)). length k) new) in size) c.if-len-entry-le1017.false in
    let some = many_some (length (with_at_place e es)) w c.requires.width.most many in
    let held = holds_at w (seen_counts o file) c.args.found.place p at c.requires.holds in
    let almost = one_over w es (lead e es) e (lead_le e es) held.here.leaf.holds.room in
    let half = length (with_at_place e es) / 2 in
    let n = counts_seen o (g.met.B.Blocks.agrees o.below c.requires.sound) told file in
    let t = c.in_ok-split.field-0 in
    ap (list_in w) (c.in_ok-split.ensures.seen told
    ∙ (λ i. put_block number (leaf_bytes t.0 (take (length (new i) / 2) (new i))) (put_block t.0 (leaf_bytes next (drop (length (new i) / 2) (new i))) (put_block 0 (head_bytes c.args.found.head.first t.1) (overlay_content o file)))))
    ∙ split_list e w (seen_counts o file) (overlay_content o file) xs c.args.found p c.requires.width l at c.requires.holds half t.0 t.1 refl (omega (arith, n, c.requires.room)) n off (omega (arith, some)) (omega (arith, some))
    (lower_fits w half (with_at_place e es) c.requires.width refl almost) (upper_fits w half (with_at_place e es) c.requires.width refl almost)
    (omega (arith, some, length-take half (with_at_place e es))) (omega (arith, some, length-drop half (with_at_place e es))) (c.in_ok-split.ensures.taken told w l.leaves l.spares l.list l.free)

pub returns-clause-answer : goal.returns-clause-answer
returns-clause-answer g c told xs l =
    let e = c.args.entry.now in
    let p = c.in-Some.field-0 in
    let at = c.in-Some.is in
    let es = c.in-Some.field-0.here.leaf.entries.items in
    let place : c.lead-i.result ≡ lead e es = c.lead-i.ensures.lead ∙ ap (lead e) c.deref.ensures.value in
    let off = at_same e es c.deref-2.result.now c.lead-i.result c.stands_at.result c.deref-2.ensures.value place c.stands_at.ensures ∙ c.if-stands_at.false in
    sym (ap not (missing_has e (length e) (seen_counts c.args.over.now c.args.file) (overlay_content c.args.over.now c.args.file) xs c.args.found p c.requires.width l at c.requires.holds off))

pub returns-clause-room : goal.returns-clause-room
returns-clause-room g c told xs l =
    let o = c.args.over.now in
    let file = c.args.file in
    let w = length c.args.entry.now in
    let n = counts_seen o (g.met.B.Blocks.agrees o.below c.requires.sound) told file in
    let t = c.in_ok-split.field-0 in
    room_after c.args.entry.now w (overlay_content o file) xs c.args.found l t.0 t.1 (seen_counts c.split.new.over file) (seen_counts o file) (c.in_ok-split.ensures.taken told w l.leaves l.spares l.list l.free) n c.in_ok-split.ensures.count
