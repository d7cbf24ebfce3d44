-- What the tokens of a key are: one part, or parts in brackets with a comma between two.
use Rattle.std.specs.Prelude.{ℕ, List, [], ◌∷◌, ◌++◌, Bool, true, false, codes, IsTrue}
use Rattle.dms_base.specs.Name.{is_name}
use Rattle.dms_tokens.specs.declared.token.Token.{Token}
use Rattle.dms_tokens.specs.declared.token.Token.TheVariants.{Word, Sign}
use Rattle.dasdl_phrases.specs.declared.key_parts.PartDecl.{PartDecl}

-- ASCENDING where no direction is said
pub data IsDirection : Bool → List Token → Type 0 where
  not_said : IsDirection false []
  ascending : IsDirection false (Word (codes "ASCENDING") ∷ [])
  descending : IsDirection true (Word (codes "DESCENDING") ∷ [])

pub data IsPart : PartDecl → List Token → Type 0 where
  a_part : (name : List ℕ) (down : Bool) (xs : List Token) → IsTrue (is_name name) → IsDirection down xs → IsPart (record { name = name; descending = down }) (Word name ∷ xs)

pub data AreParts : List PartDecl → List Token → Type 0 where
  first_part : (p : PartDecl) (xs : List Token) → IsPart p xs → AreParts (p ∷ []) xs
  next_part : (ps : List PartDecl) (p : PartDecl) (xs ys : List Token) → AreParts ps xs → IsPart p ys → AreParts (ps ++ p ∷ []) (xs ++ (Sign 44 ∷ ys))

pub data IsKey : List PartDecl → List Token → Type 0 where
  lone_part : (p : PartDecl) (xs : List Token) → IsPart p xs → IsKey (p ∷ []) xs
  in_brackets : (ps : List PartDecl) (xs : List Token) → AreParts ps xs → IsKey ps (Sign 40 ∷ (xs ++ (Sign 41 ∷ [])))
