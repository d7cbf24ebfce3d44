-- What the tokens of a condition are: the grammar's own rules, with AND and OR grouping from the left.
use Rattle.std.specs.Prelude.{◌≡◌, ℕ, List, [], ◌∷◌, ◌++◌, map, ◌+◌, Bool, true, false, IsTrue, codes, Some}
use Rattle.dms_base.specs.declared.op.Op.{Op}
use Rattle.dms_base.specs.declared.kind.Literal.{Literal}
use Rattle.dms_base.specs.declared.kind.Literal.TheVariants.{Null, Text, Number as Amount, Bool as Boolean}
use Rattle.dms_base.specs.Name.{is_name}
use Rattle.dms_base.specs.Text.{text_of}
use Rattle.dms_tokens.specs.declared.token.Token.{Token}
use Rattle.dms_tokens.specs.declared.token.Token.TheVariants.{Word, Number, Decimal, Quoted, Sign, Compare}
use Rattle.dms_tokens.specs.declared.token.Lexeme.{Lexeme}
use Rattle.dasdl_phrases.specs.TreeCodes.{WrittenTree}
use Rattle.dasdl_phrases.specs.TreeCodes.WrittenTree.{Test, Both, Either, Turned}

abbrev pub token_of : Lexeme → Token
token_of l = l.token

-- a literal is one token
pub data SpellsLiteral : Literal → Token → Type 0 where
  a_text : (bytes text : List ℕ) → text_of bytes ≡ Some text → SpellsLiteral (Text text) (Quoted bytes)
  a_number : (n : ℕ) → SpellsLiteral (Amount false n 0) (Number n)
  a_decimal : (minus : Bool) (digits places : ℕ) → SpellsLiteral (Amount minus digits places) (Decimal minus digits places)
  a_true : SpellsLiteral (Boolean true) (Word (codes "TRUE"))
  a_false : SpellsLiteral (Boolean false) (Word (codes "FALSE"))
  a_null : SpellsLiteral Null (Word (codes "NULL"))

-- a whole condition, a term or a factor
pub data CondPart : Type 0 where
  Whole : CondPart
  Term : CondPart
  Factor : CondPart

-- cond = term { OR term }, term = factor { AND factor }, factor = NOT factor | ( cond ) | name op literal
pub data IsCond : CondPart → WrittenTree → List Token → Type 0 where
  a_term : (t : WrittenTree) (ts : List Token) → IsCond Term t ts → IsCond Whole t ts
  an_or : (a b : WrittenTree) (xs ys : List Token) → IsCond Whole a xs → IsCond Term b ys → IsCond Whole (Either a b) (xs ++ (Word (codes "OR") ∷ ys))
  a_factor : (t : WrittenTree) (ts : List Token) → IsCond Factor t ts → IsCond Term t ts
  an_and : (a b : WrittenTree) (xs ys : List Token) → IsCond Term a xs → IsCond Factor b ys → IsCond Term (Both a b) (xs ++ (Word (codes "AND") ∷ ys))
  a_not : (t : WrittenTree) (ts : List Token) → IsCond Factor t ts → IsCond Factor (Turned t) (Word (codes "NOT") ∷ ts)
  brackets : (t : WrittenTree) (ts : List Token) → IsCond Whole t ts → IsCond Factor t (Sign 40 ∷ (ts ++ (Sign 41 ∷ [])))
  a_test : (name : List ℕ) (op : Op) (l : Literal) (t : Token) → IsTrue (is_name name) → SpellsLiteral l t → IsCond Factor (Test name op l) (Word name ∷ (Compare op ∷ (t ∷ [])))

-- the nodes of a condition: comparisons, NOT, AND and OR
abbrev pub nodes : WrittenTree → ℕ
nodes (Test name op l) = 1
nodes (Both a b) = nodes a + nodes b + 1
nodes (Either a b) = nodes a + nodes b + 1
nodes (Turned a) = nodes a + 1

-- the first tokens spell this, and the others are left
pub record Reads {A : Type 0} (spelled : A → List Token → Type 0) (ts : List Lexeme) (x : A) (rest : List Lexeme) : Type 0 where
  pub used : List Lexeme
  pub is : spelled x (map token_of used)
  pub all : ts ≡ used ++ rest
