use Rattle.std.proofs.Common.{◌≡◌, ◌∙◌, ◌+◌, ◌∷◌, ℕ, List, Bool, true, false, ap, sym, drop}
use Rattle.std.specs.Prelude.{◌&&◌, ◌||◌}
use Rattle.std.proofs.lemmas.List.{drop_more}
use Rattle.dms_desc.specs.Conds.{or_null}
use Rattle.dms_desc.specs.declared.structure.Item.{Item}
use Rattle.dms_model.specs.Uses.{is_link_into, refers_to, some_link}
use Rattle.dms_links.proofs.walking.links.Goals as goal

pub returns-then-links_at : goal.returns-then-links_at
returns-then-links_at c =
    let items = c.args.items.now in
    let values = c.args.values.now in
    let k = c.loop-k.k in
    let item = c.index-items-k.result in
    let rest = some_link false c.args.to c.args.number (k + 1) (drop (k + 1) items) values in
    let cut = drop_more items k item c.loop-k-test.true ∙ ap (λ (x : Item). x ∷ drop (k + 1) items) (sym c.index-items-k.is) in
    let here = sym (c.links_at.ensures ∙ ap (λ v. is_link_into false c.args.to item.kind && refers_to c.args.number (or_null v)) c.value_at.ensures) ∙ c.if-links_at.true in
    sym (sym c.loop-k.invariant ∙ ap (λ (xs : List Item). some_link false c.args.to c.args.number k xs values) cut ∙ ap (λ b. b || rest) here)

pub loop-k-preserved : goal.loop-k-preserved
loop-k-preserved c =
    let items = c.args.items.now in
    let values = c.args.values.now in
    let k = c.loop-k.k in
    let item = c.index-items-k.result in
    let rest = some_link false c.args.to c.args.number (k + 1) (drop (k + 1) items) values in
    let cut = drop_more items k item c.loop-k-test.true ∙ ap (λ (x : Item). x ∷ drop (k + 1) items) (sym c.index-items-k.is) in
    let here = sym (c.links_at.ensures ∙ ap (λ v. is_link_into false c.args.to item.kind && refers_to c.args.number (or_null v)) c.value_at.ensures) ∙ c.if-links_at.false in
    sym (ap (λ (xs : List Item). some_link false c.args.to c.args.number k xs values) cut ∙ ap (λ b. b || rest) here) ∙ c.loop-k.invariant
