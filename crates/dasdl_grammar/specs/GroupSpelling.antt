-- What the lexemes behind the name of a group are.
use Rattle.std.specs.Prelude.{◌≡◌, ℕ, List, [], ◌∷◌, ◌++◌, map, codes, IsTrue}
use Rattle.dms_base.specs.Name.{is_name}
use Rattle.dms_tokens.specs.declared.token.Token.TheVariants.{Word, Sign}
use Rattle.dms_tokens.specs.declared.token.Lexeme.{Lexeme}
use Rattle.dasdl_parse.specs.declared.declarations.ItemDecl.{ItemDecl}
use Rattle.dasdl_phrases.specs.CondSpelling.{token_of}
use Rattle.dasdl_parse.specs.ItemSpelling.{IsItem}

-- name type { [ , ] option } ; where the item stands at its name
pub data IsNamedItem : ItemDecl → List Lexeme → Type 0 where
  a_named_item : (l : Lexeme) (name : List ℕ) (item : ItemDecl) (vs : List Lexeme) → l.token ≡ Word name → IsTrue (is_name name) → IsItem l.place name item (map token_of vs) → IsNamedItem item (l ∷ vs)

-- item { item }
pub data AreItems : List ItemDecl → List Lexeme → Type 0 where
  first_item : (item : ItemDecl) (us : List Lexeme) → IsNamedItem item us → AreItems (item ∷ []) us
  next_item : (items : List ItemDecl) (item : ItemDecl) (us vs : List Lexeme) → AreItems items us → IsNamedItem item vs → AreItems (items ++ item ∷ []) (us ++ vs)

-- GROUP ( item { item } ) ;
pub data IsGroup : List ItemDecl → List Lexeme → Type 0 where
  a_group : (g o c z : Lexeme) (items : List ItemDecl) (us : List Lexeme) → g.token ≡ Word (codes "GROUP") → o.token ≡ Sign 40 → AreItems items us → c.token ≡ Sign 41 → z.token ≡ Sign 59 → IsGroup items (g ∷ (o ∷ (us ++ (c ∷ (z ∷ [])))))
