-- What the options of sets and data sets are, with the places of their words.
use Rattle.std.specs.Prelude.{◌≡◌, ◌≤◌, ℕ, List, [], ◌∷◌, ◌++◌, map, length, Bool, true, false, codes, Some, None}
use Rattle.std.specs.declared.option.Option.{Option}
use Rattle.dms_base.specs.declared.op.Op.TheVariants.{Equal}
use Rattle.dms_tokens.specs.declared.token.Token.{Token}
use Rattle.dms_tokens.specs.declared.token.Token.TheVariants.{Word, Number, Sign, Compare}
use Rattle.dms_base.specs.declared.kind.SetForm.{SetForm}
use Rattle.dms_base.specs.declared.kind.SetForm.TheVariants.{IndexSequential, OrderedList}
use Rattle.dms_tokens.specs.declared.token.Lexeme.{Lexeme}
use Rattle.dasdl_phrases.specs.declared.key_parts.PartDecl.{PartDecl}
use Rattle.dasdl_phrases.specs.declared.key_parts.KeyDecl.{KeyDecl}
use Rattle.dasdl_parse.specs.declared.sets.SetOptions.{SetOptions}
use Rattle.dasdl_parse.specs.declared.data_sets.DataSetOptions.{DataSetOptions}
use Rattle.dasdl_phrases.specs.TreeCodes.{WrittenTree}
use Rattle.dasdl_phrases.specs.Trees.{Condition}
use Rattle.dasdl_phrases.specs.CondSpelling.{token_of, IsCond, nodes}
use Rattle.dasdl_phrases.specs.CondSpelling.CondPart.{Whole}
use Rattle.dasdl_phrases.specs.KeySpelling.{IsKey}

-- the first lexemes spell this, and the others are left
abbrev pub SpellsFirst : {A : Type 0} → (A → List Lexeme → Type 0) → List Lexeme → A → List Lexeme → Type 0
SpellsFirst spelled ts x rest = (used : List Lexeme) × spelled x used × (ts ≡ used ++ rest)

-- what options say together, in any order, each with a comma before it or without one
pub data Said {S : Type 0} (nothing : S) (option : S → S → List Lexeme → Type 0) : S → List Lexeme → Type 0 where
  nothing_said : Said nothing option nothing []
  said_more : (s t : S) (us vs : List Lexeme) → Said nothing option s us → option s t vs → Said nothing option t (us ++ vs)
  said_behind_comma : (s t : S) (us : List Lexeme) (l : Lexeme) (vs : List Lexeme) → Said nothing option s us → l.token ≡ Sign 44 → option s t vs → Said nothing option t (us ++ (l ∷ vs))

-- a word, and a condition of at most 100 nodes; it stands where the word does
pub data IsCondDecl (word : List ℕ) : Condition → List Lexeme → Type 0 where
  a_cond : (l : Lexeme) (tree : WrittenTree) (vs : List Lexeme) → l.token ≡ Word word → IsCond Whole tree (map token_of vs) → nodes tree ≤ 100 → IsCondDecl word (record { place = l.place; tree = tree }) (l ∷ vs)

-- KEY IS, and a key of at most 16 parts; it stands where the word KEY does
pub data IsKeyDecl : KeyDecl → List Lexeme → Type 0 where
  a_key : (l m : Lexeme) (parts : List PartDecl) (vs : List Lexeme) → l.token ≡ Word (codes "KEY") → m.token ≡ Word (codes "IS") → IsKey parts (map token_of vs) → length parts ≤ 16 → IsKeyDecl (record { place = l.place; parts = parts }) (l ∷ (m ∷ vs))

-- POPULATION = number
pub data IsPopulation : ℕ → List Token → Type 0 where
  a_population : (n : ℕ) → 1 ≤ n → n ≤ 1000000 → IsPopulation n (Word (codes "POPULATION") ∷ (Compare Equal ∷ (Number n ∷ [])))

-- [ NO ] DUPLICATES
pub data IsDuplicates : Bool → List Token → Type 0 where
  allowed : IsDuplicates true (Word (codes "DUPLICATES") ∷ [])
  not_allowed : IsDuplicates false (Word (codes "NO") ∷ (Word (codes "DUPLICATES") ∷ []))

-- INDEX SEQUENTIAL or ORDERED LIST
pub data IsForm : SetForm → List Token → Type 0 where
  a_tree : IsForm IndexSequential (Word (codes "INDEX") ∷ (Word (codes "SEQUENTIAL") ∷ []))
  a_list : IsForm OrderedList (Word (codes "ORDERED") ∷ (Word (codes "LIST") ∷ []))

-- an option of a set that hasn't been said
pub data SetOption : SetOptions → SetOptions → List Lexeme → Type 0 where
  says_where : (key : Option KeyDecl) (duplicates : Option Bool) (form : Option SetForm) (population : Option ℕ) (c : Condition) (us : List Lexeme) → IsCondDecl (codes "WHERE") c us → SetOption (record { cond = None; key = key; duplicates = duplicates; form = form; population = population }) (record { cond = Some c; key = key; duplicates = duplicates; form = form; population = population }) us
  says_key : (cond : Option Condition) (duplicates : Option Bool) (form : Option SetForm) (population : Option ℕ) (k : KeyDecl) (us : List Lexeme) → IsKeyDecl k us → SetOption (record { cond = cond; key = None; duplicates = duplicates; form = form; population = population }) (record { cond = cond; key = Some k; duplicates = duplicates; form = form; population = population }) us
  says_duplicates : (cond : Option Condition) (key : Option KeyDecl) (form : Option SetForm) (population : Option ℕ) (d : Bool) (us : List Lexeme) → IsDuplicates d (map token_of us) → SetOption (record { cond = cond; key = key; duplicates = None; form = form; population = population }) (record { cond = cond; key = key; duplicates = Some d; form = form; population = population }) us
  says_form : (cond : Option Condition) (key : Option KeyDecl) (duplicates : Option Bool) (population : Option ℕ) (f : SetForm) (us : List Lexeme) → IsForm f (map token_of us) → SetOption (record { cond = cond; key = key; duplicates = duplicates; form = None; population = population }) (record { cond = cond; key = key; duplicates = duplicates; form = Some f; population = population }) us
  says_population : (cond : Option Condition) (key : Option KeyDecl) (duplicates : Option Bool) (form : Option SetForm) (n : ℕ) (us : List Lexeme) → IsPopulation n (map token_of us) → SetOption (record { cond = cond; key = key; duplicates = duplicates; form = form; population = None }) (record { cond = cond; key = key; duplicates = duplicates; form = form; population = Some n }) us

-- an option of a data set that hasn't been said
pub data DataSetOption : DataSetOptions → DataSetOptions → List Lexeme → Type 0 where
  says_verify : (population : Option ℕ) (c : Condition) (us : List Lexeme) → IsCondDecl (codes "VERIFY") c us → DataSetOption (record { verify = None; population = population }) (record { verify = Some c; population = population }) us
  says_its_population : (verify : Option Condition) (n : ℕ) (us : List Lexeme) → IsPopulation n (map token_of us) → DataSetOption (record { verify = verify; population = None }) (record { verify = verify; population = Some n }) us
