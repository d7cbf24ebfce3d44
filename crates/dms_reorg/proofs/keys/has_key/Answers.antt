use Rattle.std.proofs.Common.{◌≡◌, ◌∙◌, List, ℕ, Option, Some, Vec, Global, not, sym, ap, subst}
use Rattle.dms_desc.specs.Shape.{shape_of}
use Rattle.dms_sets.specs.Changes.{entry_in}
use Rattle.dms_reorg.specs.EqualKeys.{AddsKey}
use Rattle.dms_reorg.proofs.Collected.{puts_key}
use Rattle.dms_reorg.proofs.keys.has_key.Goals as goal

pub returns-in-Ok : goal.returns-in-Ok
returns-in-Ok c =
    let key = c.in_ok-key-in-Some.key in
    let items : key.items ≡ c.in-Some.bytes = c.in_ok-key-in-Some.ensures.items ∙ c.as_slice.ensures in
    let is : entry_in c.args.kinds.now (shape_of c.args.s.now) 0 c.args.rec.now ≡ Some key.items = sym c.in_ok-entry.ensures ∙ c.in-Some.is ∙ ap (λ (b : List ℕ). Some b) (sym items) in
    subst (λ (o : Option (List ℕ)). AddsKey {V = Vec ℕ Global} (λ k. k.items) o c.args.keys.now c.insert.new.self (not c.in-Ok.new)) (sym is)
    (puts_key {V = Vec ℕ Global} (λ k. k.items) c.args.keys.now c.insert.new.self key c.in-Ok.new c.in-Ok.ensures.added c.in-Ok.ensures.keys)
