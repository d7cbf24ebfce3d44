-- A schema, declaration by declaration.
use Rattle.std.specs.Prelude.{ℕ, ◌+◌, List, [], ◌∷◌, ◌++◌, Bool, true, false, ◌&&◌, ◌||◌, not, nat_le, nat_lt, length, codes, is_none, Some, None, if◌then◌else◌}
use Rattle.std.specs.declared.result.Result.{Result}
use Rattle.std.specs.declared.result.Result.TheVariants.{Ok, Err}
use Rattle.dasdl_phrases.specs.declared.fault.ParseFault.{ParseFault}
use Rattle.dasdl_phrases.specs.declared.fault.ParseFault.TheVariants.{TooMany}
use Rattle.dms_tokens.specs.declared.token.Lexeme.{Lexeme}
use Rattle.dasdl_phrases.specs.Reads.{Read, ◌>>=◌}
use Rattle.dasdl_parse.specs.declared.schema.Parameters.{Parameters}
use Rattle.dasdl_parse.specs.declared.schema.Schema.{Schema}
use Rattle.dasdl_parse.specs.declared.parameters.ParameterPairs.{ParameterPairs}
use Rattle.dasdl_parse.specs.declared.parameters.AuditPairs.{AuditPairs}
use Rattle.dasdl_parse.specs.declared.declarations.Declaration.{Declaration}
use Rattle.dasdl_parse.specs.declared.declarations.Declaration.TheVariants.{DataSet, Item, Group, Link, SetOf, End as EndOf}
use Rattle.dasdl_parse.specs.declared.declarations.DataSetDecl.{DataSetDecl}
use Rattle.dasdl_parse.specs.declared.declarations.DataSetEnd.{DataSetEnd}
use Rattle.dasdl_parse.specs.declared.data_sets.DataSetOptions.{DataSetOptions}
use Rattle.dasdl_parse.specs.declared.within.Open.{Open}
use Rattle.dasdl_parse.specs.declared.within.Open.TheVariants.{Outside, One, Two, Three}
use Rattle.dasdl_parse.specs.declared.grammar.Progress.{Progress}
use Rattle.dms_tokens.specs.Cursors.{place_at, starts, is_word, is_the_sign, is_end}
use Rattle.dasdl_phrases.specs.Cursors.{fault_at, word_at, sign_at, comma_at, name_at, turns_at, until_semicolon}
use Rattle.dasdl_parse.specs.Parameters.{parameters_at, audit_at}
use Rattle.dasdl_phrases.specs.Kinds.{starts_kind}
use Rattle.dasdl_parse.specs.Items.{item_at, group_at, link_at}
use Rattle.dasdl_phrases.specs.Conditions.{cond_decl_at}
use Rattle.dasdl_parse.specs.Sets.{population_at, set_at, or_else}
use Rattle.dms_tokens.specs.Tokens.{tokens_of}

-- the items of the innermost data set that is open
abbrev pub items_of : Open → ℕ
items_of Outside = 0
items_of (One n) = n
items_of (Two a n) = n
items_of (Three a b n) = n

-- the innermost data set that is open has so many items
abbrev pub with_items : Open → ℕ → Open
with_items Outside n = Outside
with_items (One m) n = One n
with_items (Two a m) n = Two a n
with_items (Three a b m) n = Three a b n

-- one more data set is open
abbrev pub open_data_set : Open → Open
open_data_set Outside = One 0
open_data_set (One a) = Two a 0
open_data_set (Two a b) = Three a b 0
open_data_set (Three a b c) = Three a b c

-- the innermost data set that is open ends
abbrev pub close_data_set : Open → Open
close_data_set Outside = Outside
close_data_set (One a) = Outside
close_data_set (Two a b) = One a
close_data_set (Three a b c) = Two a b

abbrev pub is_inside : Open → Bool
is_inside Outside = false
is_inside (One a) = true
is_inside (Two a b) = true
is_inside (Three a b c) = true

-- whether three data sets are open
abbrev pub is_deepest : Open → Bool
is_deepest Outside = false
is_deepest (One a) = false
is_deepest (Two a b) = false
is_deepest (Three a b c) = true

-- one more declaration stands within what is open
abbrev pub add_declaration : Progress → Open → ℕ → ℕ → Bool → Declaration → Progress
add_declaration s within structures counted fresh d = record {
  parameters = s.parameters;
  has_parameters = s.has_parameters;
  has_audit = s.has_audit;
  structures = structures;
  counted = counted;
  within = within;
  fresh = fresh;
  declarations = s.declarations ++ d ∷ [];
}

abbrev pub with_pairs : Parameters → ParameterPairs → Parameters
with_pairs p said = record { syncpoint = or_else 100 said.syncpoint; controlpoint = or_else 10 said.controlpoint; buffers = or_else 256 said.buffers; blocks = p.blocks; files = p.files }

abbrev pub with_audit_pairs : Parameters → AuditPairs → Parameters
with_audit_pairs p said = record { syncpoint = p.syncpoint; controlpoint = p.controlpoint; buffers = p.buffers; blocks = or_else 512 said.blocks; files = or_else 9999 said.files }

-- PARAMETERS, where it hasn't been said
unfoldable pub parameters_turn_at : Progress → List Lexeme → Read Progress
parameters_turn_at s ts =
    if s.has_parameters then Err (fault_at ts)
    else (do
      said ← parameters_at ts
      Ok (record { parameters = with_pairs s.parameters said.0; has_parameters = true; has_audit = s.has_audit; structures = s.structures; counted = s.counted; within = s.within; fresh = s.fresh; declarations = s.declarations }, said.1))

-- AUDIT TRAIL, where it hasn't been said
unfoldable pub audit_turn_at : Progress → List Lexeme → Read Progress
audit_turn_at s ts =
    if s.has_audit then Err (fault_at ts)
    else (do
      said ← audit_at ts
      Ok (record { parameters = with_audit_pairs s.parameters said.0; has_parameters = s.has_parameters; has_audit = true; structures = s.structures; counted = s.counted; within = s.within; fresh = s.fresh; declarations = s.declarations }, said.1))

-- an item, where its data set has fewer than 60
unfoldable pub item_turn_at : Progress → ℕ → List ℕ → List Lexeme → Read Progress
item_turn_at s place name ts =
    if nat_le 60 (items_of s.within) then Err (TooMany 60)
    else (do
      item ← item_at place name ts
      Ok (add_declaration s (with_items s.within (items_of s.within + 1)) s.structures s.counted false (Item item.0), item.1))

unfoldable pub group_turn_at : Progress → ℕ → List ℕ → List Lexeme → Read Progress
group_turn_at s place name ts = do
  group ← group_at (items_of s.within) ts
  Ok (add_declaration s (with_items s.within group.0.count) s.structures s.counted false (Group (record { place = place; name = name; items = group.0.items })), group.1)

-- one more, where a link is counted
abbrev pub counted_with : ℕ → Bool → ℕ
counted_with n false = n
counted_with n true = n + 1

-- a link is one of 60 items; that it is one shows at the word LINK
unfoldable pub link_turn_at : Progress → ℕ → List ℕ → List Lexeme → Read Progress
link_turn_at s place name ts =
    if not (starts (is_word (codes "LINK")) ts) then Err (fault_at ts)
    else (if nat_le 60 (items_of s.within) then Err (TooMany 60)
    else (do
      link ← link_at s.counted place name ts
      Ok (add_declaration s (with_items s.within (items_of s.within + 1)) s.structures (counted_with s.counted link.0.counted) false (Link link.0), link.1)))

-- [ RESTART ]
unfoldable pub restart_at : List Lexeme → Read Bool
restart_at ts =
    if starts (is_word (codes "RESTART")) ts then (do
      t1 ← word_at (codes "RESTART") ts
      Ok (true, t1))
    else Ok (false, ts)

-- [ RESTART ] DATA SET ( behind a data set's name
unfoldable pub data_set_at : ℕ → List ℕ → List Lexeme → Read DataSetDecl
data_set_at place name ts = do
  restart ← restart_at ts
  t1 ← word_at (codes "DATA") restart.1
  t2 ← word_at (codes "SET") t1
  t3 ← sign_at 40 t2
  Ok (record { place = place; name = name; restart = restart.0 }, t3)

abbrev pub starts_set : List Lexeme → Bool
starts_set ts = starts (is_word (codes "SET")) ts || starts (is_word (codes "SUBSET")) ts

abbrev pub starts_data_set : List Lexeme → Bool
starts_data_set ts = starts (is_word (codes "RESTART")) ts || starts (is_word (codes "DATA")) ts

-- a set or the head of a data set, where there are fewer than 200 structures and at most two data sets are open
unfoldable pub structure_turn_at : Progress → ℕ → List ℕ → List Lexeme → Read Progress
structure_turn_at s place name ts =
    if nat_le 200 s.structures then Err (TooMany 200)
    else (if is_deepest s.within then Err (TooMany 3)
    else (if starts_set ts then (do
      set ← set_at place name ts
      Ok (add_declaration s s.within (s.structures + 1) s.counted false (SetOf set.0), set.1))
    else (do
      head ← data_set_at place name ts
      Ok (add_declaration s (open_data_set s.within) (s.structures + 1) s.counted true (DataSet head.0), head.1))))

-- what stands behind a name that is declared
unfoldable pub declared_turn_at : Progress → ℕ → List ℕ → List Lexeme → Read Progress
declared_turn_at s place name ts =
    if starts_set ts || starts_data_set ts then structure_turn_at s place name ts
    else (if not (is_inside s.within) then Err (fault_at ts)
    else (if starts_kind ts then item_turn_at s place name ts
    else (if starts (is_word (codes "GROUP")) ts then group_turn_at s place name ts
    else link_turn_at s place name ts)))

abbrev pub no_data_set_options : DataSetOptions
no_data_set_options = record { verify = None; population = None }

-- an option that hasn't been said
unfoldable pub data_set_option_at : DataSetOptions → List Lexeme → Read DataSetOptions
data_set_option_at s ts =
    if starts (is_word (codes "VERIFY")) ts && is_none s.verify then (do
      c ← cond_decl_at (codes "VERIFY") ts
      Ok (record { verify = Some c.0; population = s.population }, c.1))
    else (if starts (is_word (codes "POPULATION")) ts && is_none s.population then (do
      n ← population_at ts
      Ok (record { verify = s.verify; population = Some n.0 }, n.1))
    else Err (fault_at ts))

-- [ , ] option
unfoldable pub next_data_set_option_at : DataSetOptions → List Lexeme → Read DataSetOptions
next_data_set_option_at s ts = do
  t1 ← comma_at ts
  data_set_option_at s t1

-- ) { [ , ] option } ; behind a data set's members
unfoldable pub data_set_end_at : List Lexeme → Read DataSetEnd
data_set_end_at ts = do
  t1 ← sign_at 41 ts
  said ← turns_at until_semicolon next_data_set_option_at no_data_set_options t1
  t2 ← sign_at 59 said.1
  Ok (record { verify = said.0.verify; population = or_else 1000000 said.0.population }, t2)

unfoldable pub end_turn_at : Progress → List Lexeme → Read Progress
end_turn_at s ts = do
  end ← data_set_end_at ts
  Ok (add_declaration s (close_data_set s.within) s.structures s.counted false (EndOf end.0), end.1)

unfoldable pub named_turn_at : Progress → List Lexeme → Read Progress
named_turn_at s ts = do
  name ← name_at ts
  declared_turn_at s (place_at ts) name.0 name.1

-- PARAMETERS, AUDIT TRAIL and structures stand outside, and members in a data set, which has one at least
unfoldable pub schema_turn_at : Progress → List Lexeme → Read Progress
schema_turn_at s ts =
    if starts (is_word (codes "PARAMETERS")) ts && not (is_inside s.within) then parameters_turn_at s ts
    else (if starts (is_word (codes "AUDIT")) ts && not (is_inside s.within) then audit_turn_at s ts
    else (if starts (is_the_sign 41) ts && (is_inside s.within && not s.fresh) then end_turn_at s ts
    else named_turn_at s ts))

abbrev pub schema_done : Progress → List Lexeme → Bool
schema_done s ts = starts is_end ts && not (is_inside s.within)

abbrev pub default_parameters : Parameters
default_parameters = record { syncpoint = 100; controlpoint = 10; buffers = 256; blocks = 512; files = 9999 }

abbrev pub no_progress : Progress
no_progress = record {
  parameters = default_parameters;
  has_parameters = false;
  has_audit = false;
  structures = 0;
  counted = 0;
  within = Outside;
  fresh = false;
  declarations = [];
}

-- the schema that tokens spell, or their first fault
unfoldable pub schema_at : List Lexeme → Result Schema ParseFault
schema_at ts = do
  s ← turns_at schema_done schema_turn_at no_progress ts
  Ok (record { parameters = s.0.parameters; declarations = s.0.declarations })

-- the schema that a text of at most 1,000,000 bytes spells, or its first fault
unfoldable pub schema_of : List ℕ → Result Schema ParseFault
schema_of text = if nat_lt 1000000 (length text) then Err (TooMany 1000000) else schema_at (tokens_of text)
