-- What the tokens behind the name of an item or a link are.
use Rattle.std.specs.Prelude.{ℕ, List, [], ◌∷◌, ◌++◌, true, false, codes, IsTrue}
use Rattle.dms_base.specs.Name.{is_name}
use Rattle.dms_tokens.specs.declared.token.Token.{Token}
use Rattle.dms_tokens.specs.declared.token.Token.TheVariants.{Word, Sign}
use Rattle.dms_base.specs.declared.kind.ItemKind.{ItemKind}
use Rattle.dasdl_parse.specs.declared.declarations.ItemDecl.{ItemDecl}
use Rattle.dasdl_parse.specs.declared.declarations.LinkDecl.{LinkDecl}
use Rattle.dasdl_parse.specs.declared.items.ItemOptions.{ItemOptions}
use Rattle.dasdl_phrases.specs.KindSpelling.{SpellsKind}
use Rattle.dasdl_parse.specs.OptionSpelling.{AreItemOptions}

-- type { [ , ] option } ;
pub data IsItem : ℕ → List ℕ → ItemDecl → List Token → Type 0 where
  an_item : (place : ℕ) (name : List ℕ) (kind : ItemKind) (said : ItemOptions) (xs ys : List Token) → SpellsKind kind xs → AreItemOptions said ys → IsItem place name (record { place = place; name = name; kind = kind; required = said.required; initial = said.initial }) (xs ++ (ys ++ (Sign 59 ∷ [])))

-- LINK TO name [ COUNTED ] ;
pub data IsLink : ℕ → List ℕ → LinkDecl → List Token → Type 0 where
  a_link : (place : ℕ) (name target : List ℕ) → IsTrue (is_name target) → IsLink place name (record { place = place; name = name; target = target; counted = false }) (Word (codes "LINK") ∷ (Word (codes "TO") ∷ (Word target ∷ (Sign 59 ∷ []))))
  a_counted_link : (place : ℕ) (name target : List ℕ) → IsTrue (is_name target) → IsLink place name (record { place = place; name = name; target = target; counted = true }) (Word (codes "LINK") ∷ (Word (codes "TO") ∷ (Word target ∷ (Word (codes "COUNTED") ∷ (Sign 59 ∷ [])))))
