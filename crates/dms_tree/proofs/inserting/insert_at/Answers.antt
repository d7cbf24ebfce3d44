use Rattle.std.proofs.Common.{◌≡◌, ◌≤◌, ◌<◌, ◌+◌, ◌*◌, ◌++◌, ◌∷◌, ◌∙◌, ℕ, List, Some, sym, ap, subst, length, slice_get, max, not, arith, refl}
use Rattle.dms_block.specs.Content.{Content, put_block}
use Rattle.dms_block.specs.ContentLaws.{in_file, in_others}
use Rattle.dms_block.specs.View.{overlay_content, seen_counts}
use Rattle.dms_block.specs.ViewLaws.{counts_seen}
use Rattle.dms_chain.specs.Leads.{is_rises, lead}
use Rattle.dms_chain.specs.ListBlocks.{flat, leaf_bytes}
use Rattle.dms_chain.specs.SpellLaws.{wide_room}
use Rattle.dms_chain.specs.Written.{grown_none, one_grown}
use Rattle.dms_tree.specs.Glue.{almost_new, new_items, rising_new, wide_new}
use Rattle.dms_tree.specs.Inserts.{with_place}
use Rattle.dms_tree.specs.Rooms.{LeafReady}
use Rattle.dms_tree.specs.Roomy.{at_room, nine_full}
use Rattle.dms_chain.specs.Lists.{with_entry}
use Rattle.dms_chain.specs.Parts.{at_same}
use Rattle.dms_tree.specs.Finishing.{IsLeafUp}
use Rattle.dms_tree.specs.LeafCuts.{AreTaken}
use Rattle.dms_tree.specs.TreeAts.{at_full, at_written}
use Rattle.dms_tree.specs.TreeIn.{tree_in}
use Rattle.dms_tree.specs.TreeLooks.{at_has, at_list, at_rises, with_same}
use Rattle.dms_tree.specs.Ups.{end_after}
use Rattle.dms_tree.proofs.inserting.insert_at.Goals as goal

pub leaf_block-requires-clause-room : goal.leaf_block-requires-clause-room
leaf_block-requires-clause-room g c =
    let e = c.args.entry.now in
    let es = c.args.trail.leaf.entries.items in
    let place : c.lead-i.result ≡ lead e es = c.lead-i.ensures.lead ∙ ap (lead e) c.deref.ensures.value in
    let new = new_items e c.in_ok-copy_of.field-0 es c.insert.new.self.items c.lead-i.result place c.in_ok-copy_of.ensures c.in_ok-insert.ensures.items in
    let fits : length (with_place e es) * length e ≤ 1017 = subst (λ n. n * length e ≤ 1017) (let size : c.len.result ≡ length (with_place e es) = omega (arith, c.len.ensures, ap (λ (k : List (List ℕ)). length k) new) in size) c.if-len-entry-le1017.true in
    subst (λ k. length (flat k) ≤ 1017) (sym new) (wide_room (length e) (with_place e es) (wide_new e es c.requires.holds.leaf.wide) fits)

pub returns-then-len-entry-le1017-clause-others : goal.returns-then-len-entry-le1017-clause-others
returns-then-len-entry-le1017-clause-others g c told other off =
    ap (λ (k : Content). k other) (c.in_ok-write.ensures.seen told c.requires.sound) ∙ in_others (overlay_content c.args.over.now) c.args.file c.args.trail.number c.leaf_block.result.0 other off

pub make_room-requires-clause-holds : goal.make_room-requires-clause-holds
make_room-requires-clause-holds g c =
    let e = c.args.entry.now in
    let es = c.args.trail.leaf.entries.items in
    let place : c.lead-i.result ≡ lead e es = c.lead-i.ensures.lead ∙ ap (lead e) c.deref.ensures.value in
    let off = at_same e es c.deref-2.result.now c.lead-i.result c.stands_at.result c.deref-2.ensures.value place c.stands_at.ensures ∙ c.if-stands_at.false in
    let new = new_items e c.in_ok-copy_of.field-0 es c.insert.new.self.items c.lead-i.result place c.in_ok-copy_of.ensures c.in_ok-insert.ensures.items in
    let many : 1017 < length (with_place e es) * length e = subst (λ n. 1017 < n * length e) (let size : c.len.result ≡ length (with_place e es) = omega (arith, c.len.ensures, ap (λ (k : List (List ℕ)). length k) new) in size) c.if-len-entry-le1017.false in
    subst (LeafReady (seen_counts c.args.over.now c.args.file) (length e) c.args.trail.path.items c.args.trail.number) (sym new) (record {
      wide_is = c.requires.width;
      near = c.requires.holds.found;
      wide = wide_new e es c.requires.holds.leaf.wide;
      rising = rising_new e es (is_rises es c.requires.holds.leaf.holds.rising) off;
      many = many;
      almost = almost_new e es c.requires.holds.leaf.holds.room;
      passed = c.requires.holds.passed;
    })

pub returns-then-len-entry-le1017-clause-list : goal.returns-then-len-entry-le1017-clause-list
returns-then-len-entry-le1017-clause-list g c told xs a =
    let o = c.args.over.now in
    let e = c.args.entry.now in
    let t = c.args.trail in
    let es = t.leaf.entries.items in
    let n = counts_seen o (g.met.B.Blocks.agrees o.below c.requires.sound) told c.args.file in
    let place : c.lead-i.result ≡ lead e es = c.lead-i.ensures.lead ∙ ap (lead e) c.deref.ensures.value in
    let off = at_same e es c.deref-2.result.now c.lead-i.result c.stands_at.result c.deref-2.ensures.value place c.stands_at.ensures ∙ c.if-stands_at.false in
    let new = new_items e c.in_ok-copy_of.field-0 es c.insert.new.self.items c.lead-i.result place c.in_ok-copy_of.ensures c.in_ok-insert.ensures.items in
    let fits : length (with_place e es) * length e ≤ 1017 = subst (λ n. n * length e ≤ 1017) (let size : c.len.result ≡ length (with_place e es) = omega (arith, c.len.ensures, ap (λ (k : List (List ℕ)). length k) new) in size) c.if-len-entry-le1017.true in
    let block : c.leaf_block.result.0 ≡ leaf_bytes t.leaf.next (with_place e es) = c.leaf_block.ensures ∙ ap (leaf_bytes t.leaf.next) new in
    ap (tree_in (length e)) (ap (λ (k : Content). k c.args.file) (c.in_ok-write.ensures.seen told c.requires.sound) ∙ in_file (overlay_content o) c.args.file t.number c.leaf_block.result.0 ∙ ap (λ b. put_block t.number b (overlay_content o c.args.file)) block)
    ∙ at_written e (overlay_content o c.args.file) c.args.head.root c.args.head.free t xs c.requires.width (omega (arith, n, c.requires.room)) a (omega (arith, n, c.requires.holds.found)) c.requires.holds.leaf.wide (is_rises es c.requires.holds.leaf.holds.rising) off fits

pub returns-clause-list : goal.returns-clause-list
returns-clause-list g c told xs a =
    let o = c.args.over.now in
    let e = c.args.entry.now in
    let t = c.args.trail in
    let file = c.args.file in
    let es = t.leaf.entries.items in
    let bs = overlay_content o file in
    let n = counts_seen o (g.met.B.Blocks.agrees o.below c.requires.sound) told file in
    let place : c.lead-i.result ≡ lead e es = c.lead-i.ensures.lead ∙ ap (lead e) c.deref.ensures.value in
    let off = at_same e es c.deref-2.result.now c.lead-i.result c.stands_at.result c.deref-2.ensures.value place c.stands_at.ensures ∙ c.if-stands_at.false in
    let new = new_items e c.in_ok-copy_of.field-0 es c.insert.new.self.items c.lead-i.result place c.in_ok-copy_of.ensures c.in_ok-insert.ensures.items in
    let many : 1017 < length (with_place e es) * length e = subst (λ n. 1017 < n * length e) (let size : c.len.result ≡ length (with_place e es) = omega (arith, c.len.ensures, ap (λ (k : List (List ℕ)). length k) new) in size) c.if-len-entry-le1017.false in
    c.in_ok-make_room.ensures.list told c.requires.sound (sym n) (with_entry e xs) (λ fresh first taken.
    subst (λ (l : List (List ℕ)). IsLeafUp (length e) (end_after (seen_counts o file) fresh) first bs c.args.head.root t.path.items t.number t.leaf.next l fresh (with_entry e xs)) (sym new)
    (at_full e bs c.args.head.root c.args.head.free t xs fresh first (end_after (seen_counts o file) fresh) c.requires.width a off many (subst (λ m. AreTaken (slice_get bs) m c.args.head.free fresh first (end_after (seen_counts o file) fresh)) n taken)))

pub returns-then-stands_at-clause-list : goal.returns-then-stands_at-clause-list
returns-then-stands_at-clause-list g c told xs a =
    let o = c.args.over.now in
    let e = c.args.entry.now in
    let t = c.args.trail in
    let es = t.leaf.entries.items in
    let bs = overlay_content o c.args.file in
    let place : c.lead-i.result ≡ lead e es = c.lead-i.ensures.lead ∙ ap (lead e) c.deref.ensures.value in
    let on = at_same e es c.deref-2.result.now c.lead-i.result c.stands_at.result c.deref-2.ensures.value place c.stands_at.ensures ∙ c.if-stands_at.true in
    at_list e bs xs c.args.head.root c.args.head.free t a ∙ ap Some (sym (with_same e xs (at_rises e bs xs c.args.head.root c.args.head.free t a) (at_has e bs xs c.args.head.root c.args.head.free t a ∙ on)))

pub returns-then-stands_at-clause-answer : goal.returns-then-stands_at-clause-answer
returns-then-stands_at-clause-answer g c told xs a =
    let o = c.args.over.now in
    let e = c.args.entry.now in
    let t = c.args.trail in
    let es = t.leaf.entries.items in
    let bs = overlay_content o c.args.file in
    let place : c.lead-i.result ≡ lead e es = c.lead-i.ensures.lead ∙ ap (lead e) c.deref.ensures.value in
    let on = at_same e es c.deref-2.result.now c.lead-i.result c.stands_at.result c.deref-2.ensures.value place c.stands_at.ensures ∙ c.if-stands_at.true in
    sym (ap not (at_has e bs xs c.args.head.root c.args.head.free t a ∙ on))

pub returns-then-stands_at-clause-grows : goal.returns-then-stands_at-clause-grows
returns-then-stands_at-clause-grows g c = grown_none (seen_counts c.args.over.now) (seen_counts c.args.over.now) c.args.file 11 refl

pub returns-then-stands_at-clause-room : goal.returns-then-stands_at-clause-room
returns-then-stands_at-clause-room g c told xs a = omega arith

pub returns-then-len-entry-le1017-clause-answer : goal.returns-then-len-entry-le1017-clause-answer
returns-then-len-entry-le1017-clause-answer g c told xs a =
    let o = c.args.over.now in
    let e = c.args.entry.now in
    let t = c.args.trail in
    let es = t.leaf.entries.items in
    let bs = overlay_content o c.args.file in
    let place : c.lead-i.result ≡ lead e es = c.lead-i.ensures.lead ∙ ap (lead e) c.deref.ensures.value in
    let off = at_same e es c.deref-2.result.now c.lead-i.result c.stands_at.result c.deref-2.ensures.value place c.stands_at.ensures ∙ c.if-stands_at.false in
    sym (ap not (at_has e bs xs c.args.head.root c.args.head.free t a ∙ off))

pub returns-then-len-entry-le1017-clause-grows : goal.returns-then-len-entry-le1017-clause-grows
returns-then-len-entry-le1017-clause-grows g c = one_grown (seen_counts c.args.over.now) (seen_counts c.write.new.self) c.args.file 11 c.args.trail.number c.requires.holds.found c.in_ok-write.ensures.counts

pub returns-then-len-entry-le1017-clause-room : goal.returns-then-len-entry-le1017-clause-room
returns-then-len-entry-le1017-clause-room g c told xs a =
    let grown = one_grown (seen_counts c.args.over.now) (seen_counts c.write.new.self) c.args.file 0 c.args.trail.number c.requires.holds.found c.in_ok-write.ensures.counts in
    omega (arith, grown.more)

pub returns-clause-answer : goal.returns-clause-answer
returns-clause-answer g c told xs a =
    let o = c.args.over.now in
    let e = c.args.entry.now in
    let t = c.args.trail in
    let es = t.leaf.entries.items in
    let bs = overlay_content o c.args.file in
    let place : c.lead-i.result ≡ lead e es = c.lead-i.ensures.lead ∙ ap (lead e) c.deref.ensures.value in
    let off = at_same e es c.deref-2.result.now c.lead-i.result c.stands_at.result c.deref-2.ensures.value place c.stands_at.ensures ∙ c.if-stands_at.false in
    sym (ap not (at_has e bs xs c.args.head.root c.args.head.free t a ∙ off))

pub returns-clause-others : goal.returns-clause-others
returns-clause-others g c told other off = c.in_ok-make_room.ensures.others told c.requires.sound other off

pub returns-clause-room : goal.returns-clause-room
returns-clause-room g c told xs a =
    let o = c.args.over.now in
    let e = c.args.entry.now in
    let t = c.args.trail in
    let es = t.leaf.entries.items in
    let bs = overlay_content o c.args.file in
    let place : c.lead-i.result ≡ lead e es = c.lead-i.ensures.lead ∙ ap (lead e) c.deref.ensures.value in
    let n = counts_seen o (g.met.B.Blocks.agrees o.below c.requires.sound) told c.args.file in
    let new = new_items e c.in_ok-copy_of.field-0 es c.insert.new.self.items c.lead-i.result place c.in_ok-copy_of.ensures c.in_ok-insert.ensures.items in
    let many : 1017 < length (with_place e es) * length e = subst (λ n. 1017 < n * length e) (let size : c.len.result ≡ length (with_place e es) = omega (arith, c.len.ensures, ap (λ (k : List (List ℕ)). length k) new) in size) c.if-len-entry-le1017.false in
    omega (
      arith,
      n,
      c.in_ok-make_room.ensures.room told (max (length bs) (2 + length xs)) (λ fresh first end few taken.
          at_room e bs c.args.head.root c.args.head.free t xs fresh first end c.requires.width a (nine_full e es c.requires.width many) few (subst (λ m. AreTaken (slice_get bs) m c.args.head.free fresh first end) n taken)),
    )
