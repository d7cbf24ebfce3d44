-- What the grammar says of items and conditions that were read.
use Rattle.std.proofs.Common.{◌≡◌, ◌≤◌, ℕ, List, [], ◌∷◌, ◌++◌, length, Bool, true, false, cond, refl, ap, subst, arith}
use Rattle.std.proofs.lemmas.Bool.{and_parts, le-leb, and_from}
use Rattle.std.proofs.lemmas.Slice.Eq.{bytes_eq-Decides}
use Rattle.std.specs.Prelude.{◌&&◌, ◌==◌, nat_le, Some, None}
use Rattle.std.specs.List.{list_all}
use Rattle.std.specs.declared.option.Option.{Option}
use Rattle.dms_base.specs.Name.{is_name}
use Rattle.dms_base.specs.Spelling.{is_kind}
use Rattle.dms_base.specs.Text.{is_printable, before_trimmed, trim_spaces, text_of}
use Rattle.dms_base.specs.declared.kind.ItemKind.{ItemKind}
use Rattle.dms_base.specs.declared.kind.Literal.{Literal}
use Rattle.dms_base.specs.declared.kind.Literal.TheVariants.{Text}
use Rattle.dms_desc.specs.Kinds.{is_link}
use Rattle.dms_tokens.specs.declared.token.Token.{Token}
use Rattle.dasdl_parse.specs.declared.items.ItemOptions.{ItemOptions}
use Rattle.dasdl_parse.specs.declared.declarations.ItemDecl.{ItemDecl}
use Rattle.dasdl_parse.specs.Items.{no_options}
use Rattle.dasdl_phrases.specs.TreeCodes.{WrittenTree}
use Rattle.dasdl_phrases.specs.CondSpelling.{SpellsLiteral, IsCond, CondPart}
use Rattle.dasdl_phrases.specs.CondSpelling.SpellsLiteral.{a_text, a_number as a_whole_number, a_decimal, a_true, a_false, a_null}
use Rattle.dasdl_phrases.specs.CondSpelling.IsCond.{a_term, an_or, a_factor, an_and, a_not, brackets, a_test}
use Rattle.dasdl_phrases.specs.KindSpelling.{SpellsKind, IsWidth, ArePlaces}
use Rattle.dasdl_phrases.specs.KindSpelling.SpellsKind.{an_alpha, a_number, a_truth, a_field}
use Rattle.dasdl_phrases.specs.KindSpelling.IsWidth.{without_sign, with_sign, joined_sign}
use Rattle.dasdl_phrases.specs.KindSpelling.ArePlaces.{no_places, some_places}
use Rattle.dasdl_parse.specs.OptionSpelling.{Options, ItemOption}
use Rattle.dasdl_parse.specs.OptionSpelling.Options.{none_said, one_more, behind_comma}
use Rattle.dasdl_parse.specs.OptionSpelling.ItemOption.{says_required, says_initial, says_null}
use Rattle.dasdl_parse.specs.ItemSpelling.{IsItem}
use Rattle.dasdl_parse.specs.ItemSpelling.IsItem.{an_item}
use Rattle.std.specs.List.{AllByRecursion}
use Rattle.std.proofs.Common.{length-append}
use Rattle.dms_desc_bytes.specs.Lists.{is_within}
use Rattle.dasdl_phrases.specs.Trees.{Condition}
use Rattle.dasdl_phrases.specs.CondSpelling.{nodes as nodes_of}
use Rattle.dasdl_parse.specs.Sets.{or_else, no_set_options}
use Rattle.dasdl_parse.specs.Grammar.{no_data_set_options}
use Rattle.dms_tokens.specs.declared.token.Lexeme.{Lexeme}
use Rattle.dasdl_parse.specs.declared.declarations.LinkDecl.{LinkDecl}
use Rattle.dasdl_parse.specs.declared.declarations.DataSetDecl.{DataSetDecl}
use Rattle.dasdl_parse.specs.declared.declarations.DataSetEnd.{DataSetEnd}
use Rattle.dasdl_parse.specs.declared.declarations.SetDecl.{SetDecl}
use Rattle.dasdl_parse.specs.declared.sets.SetOptions.{SetOptions}
use Rattle.dasdl_parse.specs.declared.data_sets.DataSetOptions.{DataSetOptions}
use Rattle.dasdl_parse.specs.ItemSpelling.{IsLink}
use Rattle.dasdl_parse.specs.ItemSpelling.IsLink.{a_link, a_counted_link}
use Rattle.dasdl_grammar.specs.GroupSpelling.{IsNamedItem, AreItems, IsGroup}
use Rattle.dasdl_grammar.specs.GroupSpelling.IsNamedItem.{a_named_item}
use Rattle.dasdl_grammar.specs.GroupSpelling.AreItems.{first_item, next_item}
use Rattle.dasdl_grammar.specs.GroupSpelling.IsGroup.{a_group}
use Rattle.dasdl_grammar.specs.SaidSpelling.{Said, IsCondDecl, IsPopulation, SetOption, DataSetOption}
use Rattle.dasdl_grammar.specs.SaidSpelling.Said.{nothing_said, said_more, said_behind_comma}
use Rattle.dasdl_grammar.specs.SaidSpelling.IsCondDecl.{a_cond}
use Rattle.dasdl_grammar.specs.SaidSpelling.IsPopulation.{a_population}
use Rattle.dasdl_grammar.specs.SaidSpelling.SetOption.{says_where, says_key, says_duplicates, says_form, says_population}
use Rattle.dasdl_grammar.specs.SaidSpelling.DataSetOption.{says_verify, says_its_population}
use Rattle.dasdl_grammar.specs.SetSpelling.{IsSet, IsEnd, IsHead}
use Rattle.dasdl_grammar.specs.SetSpelling.IsSet.{a_set}
use Rattle.dasdl_grammar.specs.SetSpelling.IsEnd.{an_end}
use Rattle.dasdl_grammar.specs.SetSpelling.IsHead.{a_head, a_restart_head}
use Rattle.dasdl_phrases.specs.declared.key_parts.PartDecl.{PartDecl}
use Rattle.dasdl_phrases.specs.declared.key_parts.KeyDecl.{KeyDecl}
use Rattle.dasdl_phrases.specs.KeySpelling.{AreParts, IsKey}
use Rattle.dasdl_phrases.specs.KeySpelling.AreParts.{first_part, next_part}
use Rattle.dasdl_phrases.specs.KeySpelling.IsKey.{lone_part, in_brackets}
use Rattle.dasdl_grammar.specs.SaidSpelling.{IsKeyDecl}
use Rattle.dasdl_grammar.specs.SaidSpelling.IsKeyDecl.{a_key}
use Rattle.dasdl_laws.proofs.Judged.{are_plain}
use Rattle.dasdl_laws.proofs.Literals.{is_plain_literal}

-- ---- texts without trailing spaces

printable_case : (t : Bool) (b : ℕ) → is_printable b ≡ true → list_all is_printable (cond t [] (b ∷ [])) ≡ true
printable_case true b p = refl
printable_case false b p = and_from _ _ p refl

printable_before : (b : ℕ) (xs : List ℕ) → is_printable b ≡ true → list_all is_printable xs ≡ true → list_all is_printable (before_trimmed b xs) ≡ true
printable_before b [] p h = printable_case (b == 32) b p
printable_before b (x ∷ xs) p h = and_from _ _ p h

printable_trimmed : (bs : List ℕ) → list_all is_printable bs ≡ true → list_all is_printable (trim_spaces bs) ≡ true
printable_trimmed [] h = refl
printable_trimmed (b ∷ bs) h = let a = and_parts (is_printable b) (list_all is_printable bs) h in printable_before b (trim_spaces bs) a.0 (printable_trimmed bs a.1)

again_case : (t : Bool) (b : ℕ) → (b == 32) ≡ t → trim_spaces (cond t [] (b ∷ [])) ≡ cond t [] (b ∷ [])
again_case true b e = refl
again_case false b e = rw e refl

again_before : (b : ℕ) (xs : List ℕ) → trim_spaces xs ≡ xs → trim_spaces (before_trimmed b xs) ≡ before_trimmed b xs
again_before b [] h = again_case (b == 32) b refl
again_before b (x ∷ xs) h = ap (before_trimmed b) h

trimmed_again : (bs : List ℕ) → trim_spaces (trim_spaces bs) ≡ trim_spaces bs
trimmed_again [] = refl
trimmed_again (b ∷ bs) = again_before b (trim_spaces bs) (trimmed_again bs)

picked_text : (b : Bool) (x y : List ℕ) → ◌≡◌ {A = Option (List ℕ)} (cond b (Some x) None) (Some y) → (b ≡ true) × (x ≡ y)
picked_text true x y h = (refl, cc)
picked_text false x y h = absurd (cc)

plain_text : (bytes text : List ℕ) → text_of bytes ≡ Some text → is_plain_literal (Text text) ≡ true
unfolding text_of
plain_text bytes text h =
    let a = picked_text (list_all is_printable bytes && nat_le (length (trim_spaces bytes)) 200) (trim_spaces bytes) text h in
    let b = and_parts (list_all is_printable bytes) (nat_le (length (trim_spaces bytes)) 200) a.0 in
    subst (λ (t : List ℕ). is_plain_literal (Text t) ≡ true) a.1
    (and_from _ _ (printable_trimmed bytes b.0) (rw (trimmed_again bytes) ((bytes_eq-Decides (trim_spaces bytes) (trim_spaces bytes)).1 refl)))

-- ---- literals

pub literal_plain : (l : Literal) (t : Token) → SpellsLiteral l t → is_plain_literal l ≡ true
literal_plain _ _ (a_text bytes text e) = plain_text bytes text e
literal_plain _ _ (a_whole_number n) = refl
literal_plain _ _ (a_decimal minus digits places) = refl
literal_plain _ _ a_true = refl
literal_plain _ _ a_false = refl
literal_plain _ _ a_null = refl

pub condition_plain : (p : CondPart) (c : WrittenTree) (ts : List Token) → IsCond p c ts → are_plain c ≡ true
condition_plain _ _ _ (a_term t ts c) = condition_plain _ t ts c
condition_plain _ _ _ (an_or a b xs ys c d) = and_from _ _ (condition_plain _ a xs c) (condition_plain _ b ys d)
condition_plain _ _ _ (a_factor t ts c) = condition_plain _ t ts c
condition_plain _ _ _ (an_and a b xs ys c d) = and_from _ _ (condition_plain _ a xs c) (condition_plain _ b ys d)
condition_plain _ _ _ (a_not t ts c) = condition_plain _ t ts c
condition_plain _ _ _ (brackets t ts c) = condition_plain _ t ts c
condition_plain _ _ _ (a_test name op l t n e) = literal_plain l t e

-- ---- items

abbrev pub IsPlainInitial : Option Literal → Type 0
IsPlainInitial None = Unit {0}
IsPlainInitial (Some l) = is_plain_literal l ≡ true

width_range : (s : Bool) (n : ℕ) (xs : List Token) → IsWidth s n xs → (1 ≤ n) × (n ≤ 18)
width_range _ _ _ (without_sign n low high) = (low, high)
width_range _ _ _ (with_sign n low high) = (low, high)
width_range _ _ _ (joined_sign word n e low high) = (low, high)

places_range : (n m : ℕ) (xs : List Token) → ArePlaces n m xs → m ≤ n
places_range _ _ _ (no_places n) = omega arith
places_range _ _ _ (some_places n m low) = low

kind_range : (k : ItemKind) (xs : List Token) → SpellsKind k xs → (is_kind k ≡ true) × (is_link k ≡ false)
kind_range _ _ (an_alpha n low high) = (and_from _ _ (le-leb 1 n low) (le-leb n 200 high), refl)
kind_range _ _ (a_number n m s xs ys w p) =
    let a = width_range s n xs w in
    (and_from _ _ (and_from _ _ (le-leb 1 n a.0) (le-leb n 18 a.1)) (le-leb m n (places_range n m ys p)), refl)
kind_range _ _ a_truth = (refl, refl)
kind_range _ _ (a_field n low high) = (and_from _ _ (le-leb 1 n low) (le-leb n 48 high), refl)

option_plain : (s t : ItemOptions) (xs : List Token) → ItemOption s t xs → IsPlainInitial s.initial → IsPlainInitial t.initial
option_plain _ _ _ (says_required initial) h = h
option_plain _ _ _ (says_initial required l t e) h = literal_plain l t e
option_plain _ _ _ (says_null required) h = refl

options_plain : (t : ItemOptions) (xs : List Token) → Options no_options ItemOption t xs → IsPlainInitial t.initial
options_plain _ _ none_said = tt
options_plain _ _ (one_more s t xs ys o e) = option_plain s t ys e (options_plain s xs o)
options_plain _ _ (behind_comma s t xs ys o e) = option_plain s t ys e (options_plain s xs o)

-- what the grammar says of an item
pub record IsWrittenItem (i : ItemDecl) : Type 0 where
  pub name : is_name i.name ≡ true
  pub kind : is_kind i.kind ≡ true
  pub plain : is_link i.kind ≡ false
  pub initial : IsPlainInitial i.initial

pub item_written : (place : ℕ) (name : List ℕ) (i : ItemDecl) (xs : List Token) → IsItem place name i xs → is_name name ≡ true → IsWrittenItem i
item_written _ _ _ _ (an_item place name kind said xs ys k o) n =
    let a = kind_range kind xs k in
    record { name = n; kind = a.0; plain = a.1; initial = options_plain said ys o }

-- ---- groups, links and structures

named_item : (i : ItemDecl) (us : List Lexeme) → IsNamedItem i us → IsWrittenItem i
named_item _ _ (a_named_item l name item vs e n i) = item_written l.place name item _ i n

written_push : (is : List ItemDecl) (i : ItemDecl) → AllByRecursion IsWrittenItem is → IsWrittenItem i → AllByRecursion IsWrittenItem (is ++ i ∷ [])
written_push [] i h w = (w, tt)
written_push (x ∷ xs) i h w = (h.0, written_push xs i h.1 w)

items_written : (is : List ItemDecl) (us : List Lexeme) → AreItems is us → AllByRecursion IsWrittenItem is × (1 ≤ length is)
items_written _ _ (first_item i us n) = ((named_item i us n, tt), omega arith)
items_written _ _ (next_item is i us vs a n) =
    let h = items_written is us a in
    let some = h.1 in
    (written_push is i h.0 (named_item i vs n), omega (arith, some, length-append is (i ∷ [])))

pub group_written : (is : List ItemDecl) (us : List Lexeme) → IsGroup is us → AllByRecursion IsWrittenItem is × (1 ≤ length is)
group_written _ _ (a_group g o c z is us e f a h i) = items_written is us a

pub link_name : (place : ℕ) (name : List ℕ) (l : LinkDecl) (xs : List Token) → IsLink place name l xs → l.name ≡ name
link_name _ _ _ _ (a_link place name target t) = refl
link_name _ _ _ _ (a_counted_link place name target t) = refl

pub head_name : (place : ℕ) (name : List ℕ) (h : DataSetDecl) (xs : List Token) → IsHead place name h xs → h.name ≡ name
head_name _ _ _ _ (a_head) = refl
head_name _ _ _ _ (a_restart_head) = refl

-- none, or a condition of at most 100 nodes whose literals are those of a text
abbrev pub IsPlainCondition : Option Condition → Type 0
IsPlainCondition None = Unit {0}
IsPlainCondition (Some c) = (are_plain c.tree ≡ true) × (nodes_of c.tree ≤ 100)

cond_plain : (word : List ℕ) (c : Condition) (us : List Lexeme) → IsCondDecl word c us → IsPlainCondition (Some c)
cond_plain _ _ _ (a_cond l tree vs e i few) = (condition_plain _ tree _ i, few)

abbrev pub IsRange : ℕ → ℕ → Option ℕ → Type 0
IsRange low high None = Unit {0}
IsRange low high (Some n) = is_within low high n ≡ true

population_range : (n : ℕ) (xs : List Token) → IsPopulation n xs → is_within 1 1000000 n ≡ true
population_range _ _ (a_population n low high) = and_from _ _ (le-leb 1 n low) (le-leb n 1000000 high)

data_set_option : (s t : DataSetOptions) (us : List Lexeme) → DataSetOption s t us → IsPlainCondition s.verify × IsRange 1 1000000 s.population → IsPlainCondition t.verify × IsRange 1 1000000 t.population
data_set_option _ _ _ (says_verify population c us d) h = (cond_plain _ c us d, h.1)
data_set_option _ _ _ (says_its_population verify n us p) h = (h.0, population_range n _ p)

data_set_said : (t : DataSetOptions) (us : List Lexeme) → Said no_data_set_options DataSetOption t us → IsPlainCondition t.verify × IsRange 1 1000000 t.population
data_set_said _ _ nothing_said = (tt, tt)
data_set_said _ _ (said_more s t us vs a o) = data_set_option s t vs o (data_set_said s us a)
data_set_said _ _ (said_behind_comma s t us l vs a e o) = data_set_option s t vs o (data_set_said s us a)

or_million : (o : Option ℕ) → IsRange 1 1000000 o → is_within 1 1000000 (or_else 1000000 o) ≡ true
or_million None h = refl
or_million (Some n) h = h

pub end_written : (e : DataSetEnd) (us : List Lexeme) → IsEnd e us → IsPlainCondition e.verify × (is_within 1 1000000 e.population ≡ true)
end_written _ _ (an_end c z said us e s f) = let h = data_set_said said us s in (h.0, or_million said.population h.1)

parts_some : (ps : List PartDecl) (xs : List Token) → AreParts ps xs → 1 ≤ length ps
parts_some _ _ (first_part p xs i) = omega arith
parts_some _ _ (next_part ps p xs ys a i) = omega (arith, length-append ps (p ∷ []))

whole_key : (ps : List PartDecl) (xs : List Token) → IsKey ps xs → 1 ≤ length ps
whole_key _ _ (lone_part p xs i) = omega arith
whole_key _ _ (in_brackets ps xs a) = parts_some ps xs a

-- none, or a key of some parts
abbrev pub IsSomeKey : Option KeyDecl → Type 0
IsSomeKey None = Unit {0}
IsSomeKey (Some k) = 1 ≤ length k.parts

key_some : (k : KeyDecl) (us : List Lexeme) → IsKeyDecl k us → IsSomeKey (Some k)
key_some _ _ (a_key l m parts vs e f i few) = whole_key parts _ i

record SetSaid (s : SetOptions) : Type 0 where
  cond : IsPlainCondition s.cond
  key : IsSomeKey s.key
  population : IsRange 1 1000000 s.population

set_option : (s t : SetOptions) (us : List Lexeme) → SetOption s t us → SetSaid s → SetSaid t
set_option _ _ _ (says_where key duplicates form population c us d) h = record { cond = cond_plain _ c us d; key = h.key; population = h.population }
set_option _ _ _ (says_key cond duplicates form population k us d) h = record { cond = h.cond; key = key_some k us d; population = h.population }
set_option _ _ _ (says_duplicates cond key form population d us i) h = record { cond = h.cond; key = h.key; population = h.population }
set_option _ _ _ (says_form cond key duplicates population f us i) h = record { cond = h.cond; key = h.key; population = h.population }
set_option _ _ _ (says_population cond key duplicates form n us p) h = record { cond = h.cond; key = h.key; population = population_range n _ p }

set_said : (t : SetOptions) (us : List Lexeme) → Said no_set_options SetOption t us → SetSaid t
set_said _ _ nothing_said = record { cond = tt; key = tt; population = tt }
set_said _ _ (said_more s t us vs a o) = set_option s t vs o (set_said s us a)
set_said _ _ (said_behind_comma s t us l vs a e o) = set_option s t vs o (set_said s us a)

-- what the grammar says of a set
pub record IsWrittenSet (s : SetDecl) : Type 0 where
  pub name : is_name s.name ≡ true
  pub cond : IsPlainCondition s.cond
  pub key : IsSomeKey s.key
  pub population : is_within 1 1000000 s.population ≡ true

pub set_written : (place : ℕ) (name : List ℕ) (s : SetDecl) (us : List Lexeme) → is_name name ≡ true → IsSet place name s us → IsWrittenSet s
set_written _ _ _ _ n (a_set k o t z subset of said us a b c d e f) =
    let h = set_said said us e in
    record { name = n; cond = h.cond; key = h.key; population = or_million said.population h.population }
