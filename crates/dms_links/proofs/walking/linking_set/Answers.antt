use Rattle.std.proofs.Common.{◌≡◌, ◌∙◌, ◌++◌, [], ℕ, List, cond, true, false, ap, refl, sym, append-nil, subst}
use Rattle.std.proofs.lemmas.Result.{IfOk-weaker}
use Rattle.dms_block.specs.HeldLaws.{causes_or_on, lasts_none, same_none}
use Rattle.dms_block.specs.View.{ReadsOverlay, overlay_content, under}
use Rattle.dms_block.specs.ViewLaws.{reads_none}
use Rattle.dms_desc.specs.Shape.{shape_of}
use Rattle.dms_slots.specs.Seen.{BadIn}
use Rattle.dms_links.specs.Linking.{is_walked, linking_from, walked_of, walked_slots}
use Rattle.dms_links.specs.Walked.{BadSet}
use Rattle.dms_links.proofs.walking.linking_set.Goals as goal

pub returns-then-not-is_walked-clause-found : goal.returns-then-not-is_walked-clause-found
returns-then-not-is_walked-clause-found g c told =
    let s = shape_of c.args.s.now in
    let off : is_walked c.args.to s ≡ false = sym c.is_walked.ensures ∙ c.if-not-is_walked.true in
    let mine = linking_from s.number s.items c.args.to c.args.number 1 (walked_slots s (overlay_content c.args.over.now)) in
    sym (ap (λ b. c.args.found.items ++ cond b mine []) off ∙ append-nil c.args.found.items)

pub returns-clause-found : goal.returns-clause-found
returns-clause-found g c =
    let s = shape_of c.args.s.now in
    let on : is_walked c.args.to s ≡ true = sym c.is_walked.ensures ∙ c.if-not-is_walked.false in
    let mine = linking_from s.number s.items c.args.to c.args.number 1 (walked_slots s (overlay_content c.args.over.now)) in
    IfOk-weaker c.linking_slots.result _ _ (λ v h told. h told ∙ ap (λ b. c.args.found.items ++ cond b mine []) (sym on)) c.linking_slots.ensures.found

pub returns-clause-reads : goal.returns-clause-reads
returns-clause-reads g c =
    let s = shape_of c.args.s.now in
    let on : is_walked c.args.to s ≡ true = sym c.is_walked.ensures ∙ c.if-not-is_walked.false in
    subst (λ n. ReadsOverlay n c.linking_slots.result c.args.over.now c.linking_slots.new.over) (sym (ap (λ b. cond b s.population 0) on)) c.linking_slots.ensures.reads

pub returns-clause-causes : goal.returns-clause-causes
returns-clause-causes g c =
    let s = shape_of c.args.s.now in
    let a = c.args.over.now in
    let on : is_walked c.args.to s ≡ true = sym c.is_walked.ensures ∙ c.if-not-is_walked.false in
    causes_or_on (BadIn s a) (BadSet c.args.to s a) c.linking_slots.result (under a) (under a) (under c.linking_slots.new.over) (λ f i bad. (on, bad)) refl (lasts_none (under a)) (same_none (under a)) c.linking_slots.ensures.causes
