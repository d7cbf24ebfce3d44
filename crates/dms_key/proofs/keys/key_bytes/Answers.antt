use Rattle.std.proofs.Common.{◌≡◌, ◌≤◌, ◌∙◌, ℕ, List, [], ◌∷◌, ◌++◌, length, drop, refl, sym, ap}
use Rattle.std.proofs.lemmas.List.{append-nil, drop_all}
use Rattle.dms_base.specs.declared.kind.ItemKind.{ItemKind}
use Rattle.dms_base.specs.declared.value.Value.{Value}
use Rattle.dms_desc.specs.declared.structure.KeyPart.{KeyPart}
use Rattle.dms_key.specs.KeyBytes.{key_bytes}
use Rattle.dms_key.proofs.keys.key_bytes.Goals as goal

no_parts : (kinds : List ItemKind) (vs : List Value) → key_bytes kinds [] vs ≡ []
no_parts kinds [] = refl
no_parts kinds (v ∷ vs) = refl

all_parts : (kinds : List ItemKind) (i : ℕ) (ps : List KeyPart) (vs : List Value) (out whole : List ℕ) → length ps ≤ i → out ++ key_bytes kinds (drop i ps) vs ≡ whole → out ≡ whole
all_parts kinds i ps vs out whole most so_far =
    sym (append-nil out)
    ∙ ap (λ l. out ++ l) (sym (no_parts kinds vs) ∙ ap (λ qs. key_bytes kinds qs vs) (sym (drop_all i ps most)))
    ∙ so_far

pub returns : goal.returns
returns c = all_parts c.args.items.now c.loop-part.part-index c.args.parts.now c.loop-part.rest.now c.loop-part.out _ c.loop-part-test.false c.loop-part.invariant
