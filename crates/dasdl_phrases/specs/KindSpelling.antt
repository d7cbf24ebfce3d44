-- What the tokens of an item's type are.
use Rattle.std.specs.Prelude.{◌≡◌, ◌≤◌, ℕ, List, [], ◌∷◌, ◌++◌, Bool, true, false, codes, Some}
use Rattle.dms_base.specs.declared.kind.ItemKind.{ItemKind}
use Rattle.dms_base.specs.declared.kind.ItemKind.TheVariants.{Alpha, Number as Digits, Bool as Truth, Field}
use Rattle.dms_tokens.specs.declared.token.Token.{Token}
use Rattle.dms_tokens.specs.declared.token.Token.TheVariants.{Word, Number, Sign}
use Rattle.dasdl_phrases.specs.Kinds.{joined_number}

-- [ S ] number, where the S may be joined to the digits
pub data IsWidth : Bool → ℕ → List Token → Type 0 where
  without_sign : (n : ℕ) → 1 ≤ n → n ≤ 18 → IsWidth false n (Number n ∷ [])
  with_sign : (n : ℕ) → 1 ≤ n → n ≤ 18 → IsWidth true n (Word (codes "S") ∷ (Number n ∷ []))
  joined_sign : (word : List ℕ) (n : ℕ) → joined_number word ≡ Some n → 1 ≤ n → n ≤ 18 → IsWidth true n (Word word ∷ [])

-- [ , number ], which is at most the digits that there are
pub data ArePlaces : ℕ → ℕ → List Token → Type 0 where
  no_places : (n : ℕ) → ArePlaces n 0 []
  some_places : (n m : ℕ) → m ≤ n → ArePlaces n m (Sign 44 ∷ (Number m ∷ []))

-- ALPHA ( number ) | NUMBER ( [ S ] number [ , number ] ) | BOOLEAN | FIELD ( number )
pub data SpellsKind : ItemKind → List Token → Type 0 where
  an_alpha : (n : ℕ) → 1 ≤ n → n ≤ 200 → SpellsKind (Alpha n) (Word (codes "ALPHA") ∷ (Sign 40 ∷ (Number n ∷ (Sign 41 ∷ []))))
  a_number : (n m : ℕ) (signed : Bool) (xs ys : List Token) → IsWidth signed n xs → ArePlaces n m ys → SpellsKind (Digits n m signed) (Word (codes "NUMBER") ∷ (Sign 40 ∷ (xs ++ (ys ++ (Sign 41 ∷ [])))))
  a_truth : SpellsKind Truth (Word (codes "BOOLEAN") ∷ [])
  a_field : (n : ℕ) → 1 ≤ n → n ≤ 48 → SpellsKind (Field n) (Word (codes "FIELD") ∷ (Sign 40 ∷ (Number n ∷ (Sign 41 ∷ []))))
