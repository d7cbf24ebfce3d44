-- What the lexemes of a schema are.
use Rattle.std.specs.Prelude.{◌≡◌, ◌≤◌, ◌<◌, ◌+◌, ℕ, suc, List, [], ◌∷◌, ◌++◌, map, length, Bool, true, false, IsTrue}
use Rattle.dms_base.specs.Name.{is_name}
use Rattle.dms_tokens.specs.declared.token.Token.TheVariants.{Word}
use Rattle.dms_tokens.specs.declared.token.Lexeme.{Lexeme}
use Rattle.dasdl_parse.specs.declared.schema.Parameters.{Parameters}
use Rattle.dasdl_parse.specs.declared.schema.Schema.{Schema}
use Rattle.dms_tokens.specs.Cursors.{starts, is_end}
use Rattle.dasdl_parse.specs.declared.parameters.ParameterPairs.{ParameterPairs}
use Rattle.dasdl_parse.specs.declared.parameters.AuditPairs.{AuditPairs}
use Rattle.dasdl_parse.specs.declared.declarations.Declaration.{Declaration}
use Rattle.dasdl_parse.specs.declared.declarations.Declaration.TheVariants.{DataSet, Item, Group, Link, SetOf, End as EndOf}
use Rattle.dasdl_parse.specs.declared.declarations.DataSetDecl.{DataSetDecl}
use Rattle.dasdl_parse.specs.declared.declarations.DataSetEnd.{DataSetEnd}
use Rattle.dasdl_parse.specs.declared.declarations.ItemDecl.{ItemDecl}
use Rattle.dasdl_parse.specs.declared.declarations.LinkDecl.{LinkDecl}
use Rattle.dasdl_parse.specs.declared.declarations.SetDecl.{SetDecl}
use Rattle.dasdl_parse.specs.Grammar.{default_parameters, with_pairs, with_audit_pairs}
use Rattle.dasdl_phrases.specs.CondSpelling.{token_of}
use Rattle.dasdl_parse.specs.ItemSpelling.{IsItem, IsLink}
use Rattle.dasdl_grammar.specs.GroupSpelling.{IsGroup}
use Rattle.dasdl_grammar.specs.SetSpelling.{IsSet, IsHead, IsEnd}
use Rattle.dasdl_grammar.specs.ParameterSpelling.{AreParameters, IsTrail}

-- the structures among declarations
abbrev pub structures_of : Declaration → ℕ
structures_of (DataSet d) = 1
structures_of (SetOf s) = 1
structures_of (Item i) = 0
structures_of (Group g) = 0
structures_of (Link l) = 0
structures_of (EndOf e) = 0

abbrev pub structures_in : List Declaration → ℕ
structures_in [] = 0
structures_in (d ∷ ds) = structures_of d + structures_in ds

abbrev pub one_if : Bool → ℕ
one_if true = 1
one_if false = 0

-- the COUNTED links among declarations
abbrev pub counted_of : Declaration → ℕ
counted_of (DataSet d) = 0
counted_of (SetOf s) = 0
counted_of (Item i) = 0
counted_of (Group g) = 0
counted_of (Link l) = one_if l.counted
counted_of (EndOf e) = 0

abbrev pub counted_in : List Declaration → ℕ
counted_in [] = 0
counted_in (d ∷ ds) = counted_of d + counted_in ds

-- one member, or one and more
pub data Many : Type 0 where
  Single : Many
  Several : Many

-- what stands within so many data sets, how many items it adds to the innermost one, and what it declares
pub data Members : Many → ℕ → ℕ → List Declaration → List Lexeme → Type 0 where
  a_set : (depth : ℕ) (l : Lexeme) (name : List ℕ) (set : SetDecl) (vs : List Lexeme) → depth < 3 → l.token ≡ Word name → IsTrue (is_name name) → IsSet l.place name set vs → Members Single depth 0 (SetOf set ∷ []) (l ∷ vs)
  a_data_set : (depth : ℕ) (l : Lexeme) (name : List ℕ) (head : DataSetDecl) (hs : List Lexeme) (n : ℕ) (ds : List Declaration) (us : List Lexeme) (end : DataSetEnd) (es : List Lexeme) → depth < 3 → l.token ≡ Word name → IsTrue (is_name name) → IsHead l.place name head (map token_of hs) → Members Several (suc depth) n ds us → n ≤ 60 → IsEnd end es → Members Single depth 0 (DataSet head ∷ (ds ++ (EndOf end ∷ []))) (l ∷ (hs ++ (us ++ es)))
  an_item : (depth : ℕ) (l : Lexeme) (name : List ℕ) (item : ItemDecl) (vs : List Lexeme) → l.token ≡ Word name → IsTrue (is_name name) → IsItem l.place name item (map token_of vs) → Members Single (suc depth) 1 (Item item ∷ []) (l ∷ vs)
  a_link : (depth : ℕ) (l : Lexeme) (name : List ℕ) (link : LinkDecl) (vs : List Lexeme) → l.token ≡ Word name → IsTrue (is_name name) → IsLink l.place name link (map token_of vs) → Members Single (suc depth) 1 (Link link ∷ []) (l ∷ vs)
  a_group : (depth : ℕ) (l : Lexeme) (name : List ℕ) (items : List ItemDecl) (vs : List Lexeme) → l.token ≡ Word name → IsTrue (is_name name) → IsGroup items vs → Members Single (suc depth) (length items) (Group (record { place = l.place; name = name; items = items }) ∷ []) (l ∷ vs)
  a_first : (depth n : ℕ) (ds : List Declaration) (us : List Lexeme) → Members Single depth n ds us → Members Several depth n ds us
  a_further : (depth n m : ℕ) (ds es : List Declaration) (us vs : List Lexeme) → Members Several depth n ds us → Members Single depth m es vs → Members Several depth (n + m) (ds ++ es) (us ++ vs)

-- { parameters | audit | dataset | setdecl }, with PARAMETERS and AUDIT TRAIL once at most
pub data Declares : Parameters → Bool → Bool → List Declaration → List Lexeme → Type 0 where
  no_declaration : Declares default_parameters false false [] []
  then_parameters : (p : Parameters) (a : Bool) (ds : List Declaration) (us : List Lexeme) (said : ParameterPairs) (vs : List Lexeme) → Declares p false a ds us → AreParameters said (map token_of vs) → Declares (with_pairs p said) true a ds (us ++ vs)
  then_audit : (p : Parameters) (b : Bool) (ds : List Declaration) (us : List Lexeme) (said : AuditPairs) (vs : List Lexeme) → Declares p b false ds us → IsTrail said (map token_of vs) → Declares (with_audit_pairs p said) b true ds (us ++ vs)
  then_structure : (p : Parameters) (b a : Bool) (ds : List Declaration) (us : List Lexeme) (es : List Declaration) (vs : List Lexeme) → Declares p b a ds us → Members Single 0 0 es vs → Declares p b a (ds ++ es) (us ++ vs)

-- the schema that lexemes up to the end of a text spell, within the limits
pub record IsSchema (schema : Schema) (ts : List Lexeme) : Type 0 where
  pub has_parameters : Bool
  pub has_audit : Bool
  pub used : List Lexeme
  pub rest : List Lexeme
  pub all : ts ≡ used ++ rest
  pub ends : starts is_end rest ≡ true
  pub declares : Declares schema.parameters has_parameters has_audit schema.declarations used
  pub few : structures_in schema.declarations ≤ 200
  pub fewer : counted_in schema.declarations ≤ 4000
