-- Sets and subsets.
use Rattle.std.specs.Prelude.{ℕ, List, Bool, true, false, ◌&&◌, ◌||◌, codes, is_none, Some, None, if◌then◌else◌}
use Rattle.std.specs.declared.option.Option.{Option}
use Rattle.std.specs.declared.result.Result.TheVariants.{Ok, Err}
use Rattle.dms_base.specs.declared.kind.SetForm.{SetForm}
use Rattle.dms_base.specs.declared.kind.SetForm.TheVariants.{IndexSequential, OrderedList}
use Rattle.dms_tokens.specs.declared.token.Lexeme.{Lexeme}
use Rattle.dasdl_phrases.specs.Reads.{Read, ◌>>=◌}
use Rattle.dasdl_parse.specs.declared.declarations.SetDecl.{SetDecl}
use Rattle.dasdl_parse.specs.declared.sets.SetOptions.{SetOptions}
use Rattle.dms_tokens.specs.Cursors.{starts, is_word}
use Rattle.dasdl_phrases.specs.Cursors.{fault_at, word_at, sign_at, equal_at, comma_at, name_at, number_at, turns_at, until_semicolon}
use Rattle.dasdl_phrases.specs.Conditions.{cond_decl_at}
use Rattle.dasdl_phrases.specs.Keys.{key_at}

-- POPULATION = number
unfoldable pub population_at : List Lexeme → Read ℕ
population_at ts = do
  t1 ← word_at (codes "POPULATION") ts
  t2 ← equal_at t1
  number_at 1 1000000 t2

-- [ NO ] DUPLICATES
unfoldable pub duplicates_at : List Lexeme → Read Bool
duplicates_at ts =
    if starts (is_word (codes "DUPLICATES")) ts then (do
      t1 ← word_at (codes "DUPLICATES") ts
      Ok (true, t1))
    else (do
      t1 ← word_at (codes "NO") ts
      t2 ← word_at (codes "DUPLICATES") t1
      Ok (false, t2))

-- INDEX SEQUENTIAL or ORDERED LIST
unfoldable pub form_at : List Lexeme → Read SetForm
form_at ts =
    if starts (is_word (codes "INDEX")) ts then (do
      t1 ← word_at (codes "INDEX") ts
      t2 ← word_at (codes "SEQUENTIAL") t1
      Ok (IndexSequential, t2))
    else (do
      t1 ← word_at (codes "ORDERED") ts
      t2 ← word_at (codes "LIST") t1
      Ok (OrderedList, t2))

abbrev pub no_set_options : SetOptions
no_set_options = record { cond = None; key = None; duplicates = None; form = None; population = None }

abbrev pub starts_duplicates : List Lexeme → Bool
starts_duplicates ts = starts (is_word (codes "DUPLICATES")) ts || starts (is_word (codes "NO")) ts

abbrev pub starts_form : List Lexeme → Bool
starts_form ts = starts (is_word (codes "INDEX")) ts || starts (is_word (codes "ORDERED")) ts

-- DUPLICATES or NO DUPLICATES, INDEX SEQUENTIAL or ORDERED LIST, or POPULATION, where it hasn't been said
unfoldable pub plain_option_at : SetOptions → List Lexeme → Read SetOptions
plain_option_at s ts =
    if starts_duplicates ts && is_none s.duplicates then (do
      d ← duplicates_at ts
      Ok (record { cond = s.cond; key = s.key; duplicates = Some d.0; form = s.form; population = s.population }, d.1))
    else (if starts_form ts && is_none s.form then (do
      f ← form_at ts
      Ok (record { cond = s.cond; key = s.key; duplicates = s.duplicates; form = Some f.0; population = s.population }, f.1))
    else (if starts (is_word (codes "POPULATION")) ts && is_none s.population then (do
      n ← population_at ts
      Ok (record { cond = s.cond; key = s.key; duplicates = s.duplicates; form = s.form; population = Some n.0 }, n.1))
    else Err (fault_at ts)))

-- an option that hasn't been said
unfoldable pub set_option_at : SetOptions → List Lexeme → Read SetOptions
set_option_at s ts =
    if starts (is_word (codes "WHERE")) ts && is_none s.cond then (do
      c ← cond_decl_at (codes "WHERE") ts
      Ok (record { cond = Some c.0; key = s.key; duplicates = s.duplicates; form = s.form; population = s.population }, c.1))
    else (if starts (is_word (codes "KEY")) ts && is_none s.key then (do
      k ← key_at ts
      Ok (record { cond = s.cond; key = Some k.0; duplicates = s.duplicates; form = s.form; population = s.population }, k.1))
    else plain_option_at s ts)

-- [ , ] option
unfoldable pub next_set_option_at : SetOptions → List Lexeme → Read SetOptions
next_set_option_at s ts = do
  t1 ← comma_at ts
  set_option_at s t1

-- SET or SUBSET: whether it is SUBSET
unfoldable pub set_word_at : List Lexeme → Read Bool
set_word_at ts =
    if starts (is_word (codes "SUBSET")) ts then (do
      t1 ← word_at (codes "SUBSET") ts
      Ok (true, t1))
    else (do
      t1 ← word_at (codes "SET") ts
      Ok (false, t1))

-- what was said, or else this
abbrev pub or_else : {A : Type 0} → A → Option A → A
or_else default None = default
or_else default (Some x) = x

-- a set and what its options say: without DUPLICATES, INDEX SEQUENTIAL and of 1,000,000 entries where they say nothing
abbrev pub set_of : ℕ → List ℕ → Bool → List ℕ → SetOptions → SetDecl
set_of place name subset of s = record {
  place = place;
  name = name;
  subset = subset;
  of = of;
  cond = s.cond;
  key = s.key;
  duplicates = or_else false s.duplicates;
  form = or_else IndexSequential s.form;
  population = or_else 1000000 s.population;
}

-- ( SET | SUBSET ) OF name { [ , ] option } ; behind a set's name
unfoldable pub set_at : ℕ → List ℕ → List Lexeme → Read SetDecl
set_at place name ts = do
  subset ← set_word_at ts
  t1 ← word_at (codes "OF") subset.1
  of ← name_at t1
  said ← turns_at until_semicolon next_set_option_at no_set_options of.1
  t2 ← sign_at 59 said.1
  Ok (set_of place name subset.0 of.0 said.0, t2)
