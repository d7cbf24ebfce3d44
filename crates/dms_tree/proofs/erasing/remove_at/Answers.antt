use Rattle.std.proofs.Common.{◌≡◌, ◌+◌, ◌≤◌, ◌<◌, ◌∙◌, ℕ, List, Some, true, false, sym, ap, subst, length, slice_get, take, drop, arith}
use Rattle.dms_block.specs.View.{overlay_content, seen_counts, under}
use Rattle.dms_block.specs.ViewLaws.{counts_seen}
use Rattle.dms_chain.specs.Changed.{writes_as, writes_err}
use Rattle.dms_chain.specs.Leads.{lead}
use Rattle.dms_chain.specs.Lists.{without}
use Rattle.dms_chain.specs.Parts.{at_same}
use Rattle.dms_chain.specs.SeenLaws.{causes_err}
use Rattle.dms_tree.specs.Erases.{NoTreeAt, at_without}
use Rattle.dms_tree.specs.Lessens.{LessHolds, NoLess, at_holds, at_less, less_items}
use Rattle.dms_tree.specs.Removes.{there_low, without_place}
use Rattle.dms_tree.specs.TreeLooks.{at_has, at_rises}
use Rattle.dms_tree.proofs.erasing.remove_at.Goals as goal

pub returns-then-not-stands_at-clause-list : goal.returns-then-not-stands_at-clause-list
returns-then-not-stands_at-clause-list g c told xs a =
    let o = c.args.over.now in
    let e = c.args.entry.now in
    let t = c.args.trail in
    let es = t.leaf.entries.items in
    let bs = overlay_content o c.args.file in
    let place : c.lead-i.result ≡ lead e es = c.lead-i.ensures.lead ∙ ap (lead e) c.deref.ensures.value in
    let off = at_same e es c.deref-2.result.now c.lead-i.result c.stands_at.result c.deref-2.ensures.value place c.stands_at.ensures ∙ c.if-not-stands_at.true in
    at_without e bs xs c.args.root c.args.free t a (at_has e bs xs c.args.root c.args.free t a ∙ off)

pub returns-then-not-stands_at-clause-answer : goal.returns-then-not-stands_at-clause-answer
returns-then-not-stands_at-clause-answer g c told xs a =
    let e = c.args.entry.now in
    let t = c.args.trail in
    let es = t.leaf.entries.items in
    let place : c.lead-i.result ≡ lead e es = c.lead-i.ensures.lead ∙ ap (lead e) c.deref.ensures.value in
    let off = at_same e es c.deref-2.result.now c.lead-i.result c.stands_at.result c.deref-2.ensures.value place c.stands_at.ensures ∙ c.if-not-stands_at.true in
    sym (at_has e (overlay_content c.args.over.now c.args.file) xs c.args.root c.args.free t a ∙ off)

pub remove-requires : goal.remove-requires
remove-requires g c =
    let e = c.args.entry.now in
    let es = c.args.trail.leaf.entries.items in
    let place : c.lead-i.result ≡ lead e es = c.lead-i.ensures.lead ∙ ap (lead e) c.deref.ensures.value in
    let on = at_same e es c.deref-2.result.now c.lead-i.result c.stands_at.result c.deref-2.ensures.value place c.stands_at.ensures ∙ c.if-not-stands_at.false in
    let low : lead e es < length es = there_low e es (lead e es) on in
    omega (arith, place, low)

pub lessen-requires-clause-holds : goal.lessen-requires-clause-holds
lessen-requires-clause-holds g c =
    let e = c.args.entry.now in
    let t = c.args.trail in
    let es = t.leaf.entries.items in
    let place : c.lead-i.result ≡ lead e es = c.lead-i.ensures.lead ∙ ap (lead e) c.deref.ensures.value in
    let on = at_same e es c.deref-2.result.now c.lead-i.result c.stands_at.result c.deref-2.ensures.value place c.stands_at.ensures ∙ c.if-not-stands_at.false in
    let new = less_items e es c.remove.new.self.items c.lead-i.result place c.remove.ensures.by_index.2 in
    let h = c.requires.holds in
    at_holds e (seen_counts c.args.over.now c.args.file) c.args.free t c.remove.new.self.items c.requires.width h.leaf h.found c.ranges.free.fits h.passed h.low on new

pub returns-in-Ok-clause-list : goal.returns-in-Ok-clause-list
returns-in-Ok-clause-list g c told xs a =
    let o = c.args.over.now in
    let e = c.args.entry.now in
    let t = c.args.trail in
    let es = t.leaf.entries.items in
    let bs = overlay_content o c.args.file in
    let place : c.lead-i.result ≡ lead e es = c.lead-i.ensures.lead ∙ ap (lead e) c.deref.ensures.value in
    let on = at_same e es c.deref-2.result.now c.lead-i.result c.stands_at.result c.deref-2.ensures.value place c.stands_at.ensures ∙ c.if-not-stands_at.false in
    let new = less_items e es c.remove.new.self.items c.lead-i.result place c.remove.ensures.by_index.2 in
    c.in-Ok.ensures.list told (without e xs) (at_less e bs c.args.root c.args.free t xs c.remove.new.self.items a (at_rises e bs xs c.args.root c.args.free t a) on new)

pub returns-in-Ok-clause-answer : goal.returns-in-Ok-clause-answer
returns-in-Ok-clause-answer g c told xs a =
    let e = c.args.entry.now in
    let t = c.args.trail in
    let es = t.leaf.entries.items in
    let place : c.lead-i.result ≡ lead e es = c.lead-i.ensures.lead ∙ ap (lead e) c.deref.ensures.value in
    let on = at_same e es c.deref-2.result.now c.lead-i.result c.stands_at.result c.deref-2.ensures.value place c.stands_at.ensures ∙ c.if-not-stands_at.false in
    sym (at_has e (overlay_content c.args.over.now c.args.file) xs c.args.root c.args.free t a ∙ on)

pub returns-in-Ok-clause-others : goal.returns-in-Ok-clause-others
returns-in-Ok-clause-others g c told f off = c.in-Ok.ensures.others told c.requires.sound f off

pub returns-in-Err-clause-causes : goal.returns-in-Err-clause-causes
returns-in-Err-clause-causes g c =
    let o = c.args.over.now in
    let file = c.args.file in
    let e = c.args.entry.now in
    let t = c.args.trail in
    let es = t.leaf.entries.items in
    let bs = overlay_content o file in
    let place : c.lead-i.result ≡ lead e es = c.lead-i.ensures.lead ∙ ap (lead e) c.deref.ensures.value in
    let on = at_same e es c.deref-2.result.now c.lead-i.result c.stands_at.result c.deref-2.ensures.value place c.stands_at.ensures ∙ c.if-not-stands_at.false in
    let new = less_items e es c.remove.new.self.items c.lead-i.result place c.remove.ensures.by_index.2 in
    causes_err (Unit {0}) (Unit {0}) (NoLess o file (length e) c.args.root c.args.free t.path.items t.number t.leaf.next c.remove.new.self.items) (NoTreeAt o file e c.args.root c.args.free t) c.in-Err.fault (under o) (under c.lessen.new.over)
    (λ f k h. (h.0, h.1, λ told xs a. h.2 told (without e xs) (at_less e bs c.args.root c.args.free t xs c.remove.new.self.items a (at_rises e bs xs c.args.root c.args.free t a) on new)))
    c.in-Err.ensures.causes
