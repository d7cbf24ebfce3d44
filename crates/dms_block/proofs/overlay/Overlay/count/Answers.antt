use Rattle.std.proofs.Common.{ℕ, ◌∙◌, ◌≡◌, ◌<◌, ◌≤◌, ◌+◌, ◌++◌, ◌∷◌, [], ap, sym, subst, List, take, length, get_or, max, cond, eqb}
use Rattle.std.proofs.lemmas.List.{take_more, take_all}
use Rattle.dms_block.specs.declared.change.Change.{Change}
use Rattle.dms_block.specs.Content.{counts_after, limit}
use Rattle.dms_block.specs.Changing.{fits_low, grown_push, no_change_of}
use Rattle.dms_block.specs.View.{under, overlay_changes}
use Rattle.dms_block.proofs.overlay.Overlay.count.Goals as goal

more : (all items : List Change) (counts : ℕ → ℕ) (f i n m : ℕ) → items ≡ all → i < length items → n ≡ counts_after (take i all) counts f
    → m ≡ cond (eqb f (get_or items i no_change_of).id.file) (max n ((get_or items i no_change_of).id.block + 1)) n → m ≡ counts_after (take (i + 1) all) counts f
more all items counts f i n m is low was now =
    let x = get_or items i no_change_of in
    let longer : take (i + 1) all ≡ take i all ++ x ∷ [] = subst (λ l. take (i + 1) l ≡ take i l ++ x ∷ []) is (take_more items i no_change_of low) in
    now ∙ ap (λ k. cond (eqb f x.id.file) (max k (x.id.block + 1)) k) was
    ∙ sym (ap (λ (l : List Change). counts_after l counts f) longer ∙ ap (λ k. k f) (grown_push (take i all) x counts))

pub with_block-n-requires : goal.with_block-n-requires
with_block-n-requires g c =
    let low : c.loop-change.change-index < length (overlay_changes c.args.self.now) = subst (λ (l : List Change). c.loop-change.change-index < length l) c.deref-change-items.ensures.value c.loop-change-test.true in
    subst (λ (l : List Change). (get_or l c.loop-change.change-index no_change_of).id.block < limit) (sym c.deref-change-items.ensures.value)
    (fits_low (overlay_changes c.args.self.now) (under c.args.self.now).owns (under c.args.self.now).counts c.loop-change.change-index no_change_of c.args.self.now.fits low)

pub loop-change-preserved : goal.loop-change-preserved
loop-change-preserved g c = more (overlay_changes c.args.self.now) c.deref-change-items.result.now (under c.args.self.now).counts _ _ _ _ c.deref-change-items.ensures.value c.loop-change-test.true c.loop-change.invariant c.with_block-n.ensures

pub returns : goal.returns
returns g c = c.loop-change.invariant ∙ ap (λ (l : List Change). counts_after l (under c.args.self.now).counts c.args.file) (take_all c.loop-change.change-index (overlay_changes c.args.self.now) (subst (λ (l : List Change). length l ≤ c.loop-change.change-index) c.deref-change-items.ensures.value c.loop-change-test.false))
