-- What the lexemes behind the name of a set or a data set are.
use Rattle.std.specs.Prelude.{◌≡◌, ℕ, List, [], ◌∷◌, ◌++◌, Bool, true, false, codes, IsTrue}
use Rattle.dms_base.specs.Name.{is_name}
use Rattle.dms_tokens.specs.declared.token.Token.{Token}
use Rattle.dms_tokens.specs.declared.token.Token.TheVariants.{Word, Sign}
use Rattle.dms_tokens.specs.declared.token.Lexeme.{Lexeme}
use Rattle.dasdl_parse.specs.declared.declarations.SetDecl.{SetDecl}
use Rattle.dasdl_parse.specs.declared.declarations.DataSetDecl.{DataSetDecl}
use Rattle.dasdl_parse.specs.declared.declarations.DataSetEnd.{DataSetEnd}
use Rattle.dasdl_parse.specs.declared.sets.SetOptions.{SetOptions}
use Rattle.dasdl_parse.specs.declared.data_sets.DataSetOptions.{DataSetOptions}
use Rattle.dasdl_parse.specs.Sets.{no_set_options, set_of, or_else}
use Rattle.dasdl_parse.specs.Grammar.{no_data_set_options}
use Rattle.dasdl_grammar.specs.SaidSpelling.{Said, SetOption, DataSetOption}

-- SET or SUBSET
abbrev pub set_word : Bool → List ℕ
set_word false = codes "SET"
set_word true = codes "SUBSET"

-- ( SET | SUBSET ) OF name { [ , ] option } ;
pub data IsSet (place : ℕ) (name : List ℕ) : SetDecl → List Lexeme → Type 0 where
  a_set : (k o t z : Lexeme) (subset : Bool) (of : List ℕ) (said : SetOptions) (us : List Lexeme) → k.token ≡ Word (set_word subset) → o.token ≡ Word (codes "OF") → t.token ≡ Word of → IsTrue (is_name of) → Said no_set_options SetOption said us → z.token ≡ Sign 59 → IsSet place name (set_of place name subset of said) (k ∷ (o ∷ (t ∷ (us ++ (z ∷ [])))))

-- ) { [ , ] option } ;
pub data IsEnd : DataSetEnd → List Lexeme → Type 0 where
  an_end : (c z : Lexeme) (said : DataSetOptions) (us : List Lexeme) → c.token ≡ Sign 41 → Said no_data_set_options DataSetOption said us → z.token ≡ Sign 59 → IsEnd (record { verify = said.verify; population = or_else 1000000 said.population }) (c ∷ (us ++ (z ∷ [])))

-- [ RESTART ] DATA SET (
pub data IsHead (place : ℕ) (name : List ℕ) : DataSetDecl → List Token → Type 0 where
  a_head : IsHead place name (record { place = place; name = name; restart = false }) (Word (codes "DATA") ∷ (Word (codes "SET") ∷ (Sign 40 ∷ [])))
  a_restart_head : IsHead place name (record { place = place; name = name; restart = true }) (Word (codes "RESTART") ∷ (Word (codes "DATA") ∷ (Word (codes "SET") ∷ (Sign 40 ∷ []))))
