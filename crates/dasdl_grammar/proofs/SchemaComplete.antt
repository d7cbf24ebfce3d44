-- Each schema of the grammar within the limits is read.
use Rattle.std.proofs.Common.{◌+◌, ◌≡◌, ◌≤◌, ◌<◌, ℕ, suc, List, [], ◌∷◌, ◌++◌, map, length, length-append, Bool, true, false, refl, sym, ap, ◌∙◌, subst, arith, append_assoc}
use Rattle.std.proofs.lemmas.Bool.Decides.{nat_tests}
use Rattle.std.specs.Prelude.{codes, nat_le}
use Rattle.std.specs.declared.result.Result.TheVariants.{Ok}
use Rattle.dms_base.specs.Name.{is_name}
use Rattle.dms_base.specs.Reserved.{is_reserved}
use Rattle.dms_base.specs.declared.kind.ItemKind.{ItemKind}
use Rattle.dasdl_phrases.specs.KindSpelling.{SpellsKind}
use Rattle.dasdl_phrases.specs.KindSpelling.SpellsKind.{an_alpha, a_number, a_truth, a_field}
use Rattle.dasdl_parse.specs.ItemSpelling.IsItem.{an_item as whole_item}
use Rattle.dms_tokens.specs.declared.token.Token.{Token}
use Rattle.dms_tokens.specs.declared.token.Token.TheVariants.{Word, Sign}
use Rattle.dms_tokens.specs.declared.token.Lexeme.{Lexeme}
use Rattle.dasdl_parse.specs.declared.schema.Parameters.{Parameters}
use Rattle.dasdl_parse.specs.declared.schema.Schema.{Schema}
use Rattle.dasdl_parse.specs.declared.parameters.ParameterPairs.{ParameterPairs}
use Rattle.dasdl_parse.specs.declared.parameters.AuditPairs.{AuditPairs}
use Rattle.dasdl_parse.specs.declared.declarations.Declaration.{Declaration}
use Rattle.dasdl_parse.specs.declared.declarations.Declaration.TheVariants.{DataSet, Item, Group, Link, SetOf, End as EndOf}
use Rattle.dasdl_parse.specs.declared.declarations.DataSetDecl.{DataSetDecl}
use Rattle.dasdl_parse.specs.declared.declarations.DataSetEnd.{DataSetEnd}
use Rattle.dasdl_parse.specs.declared.declarations.ItemDecl.{ItemDecl}
use Rattle.dasdl_parse.specs.declared.declarations.LinkDecl.{LinkDecl}
use Rattle.dasdl_parse.specs.declared.declarations.SetDecl.{SetDecl}
use Rattle.dasdl_parse.specs.declared.within.Open.{Open}
use Rattle.dasdl_parse.specs.declared.within.Open.TheVariants.{Outside, One, Two, Three}
use Rattle.dasdl_parse.specs.declared.grammar.Progress.{Progress}
use Rattle.dasdl_phrases.specs.Reads.{◌>>=◌}
use Rattle.dms_tokens.specs.Cursors.{starts, is_word, is_the_sign, is_end}
use Rattle.dasdl_phrases.specs.Kinds.{starts_kind}
use Rattle.dasdl_parse.specs.Grammar.{items_of, with_items, open_data_set, close_data_set, is_inside, is_deepest, add_declaration, with_pairs, with_audit_pairs, parameters_turn_at, audit_turn_at, item_turn_at, group_turn_at, counted_with, link_turn_at, starts_set, starts_data_set, structure_turn_at, declared_turn_at, end_turn_at, named_turn_at, schema_turn_at, schema_done, no_progress, schema_at}
use Rattle.dasdl_parse.specs.Sets.{set_at, or_else}
use Rattle.dasdl_parse.specs.Items.{item_at, group_at, link_at}
use Rattle.dasdl_parse.specs.Grammar.{data_set_at, data_set_end_at}
use Rattle.dasdl_phrases.specs.CondSpelling.{token_of}
use Rattle.dasdl_parse.specs.ItemSpelling.{IsItem, IsLink}
use Rattle.dasdl_parse.specs.ItemSpelling.IsLink.{a_link as plain_link, a_counted_link}
use Rattle.dasdl_grammar.specs.GroupSpelling.{IsGroup}
use Rattle.dasdl_grammar.specs.GroupSpelling.IsGroup.{a_group as whole_group}
use Rattle.dasdl_grammar.specs.SetSpelling.{IsSet, IsHead, IsEnd}
use Rattle.dasdl_grammar.specs.SetSpelling.IsSet.{a_set as whole_set}
use Rattle.dasdl_grammar.specs.SetSpelling.IsHead.{a_head, a_restart_head}
use Rattle.dasdl_grammar.specs.SetSpelling.IsEnd.{an_end}
use Rattle.dasdl_grammar.specs.SchemaSpelling.{IsSchema, structures_in, one_if, counted_in, Many, Members, Declares}
use Rattle.dasdl_grammar.specs.SchemaSpelling.Many.{Single, Several}
use Rattle.dasdl_grammar.specs.SchemaSpelling.Declares.{no_declaration, then_parameters, then_audit, then_structure}
use Rattle.dasdl_grammar.specs.ParameterSpelling.{AreParameters, IsTrail}
use Rattle.dasdl_grammar.specs.ParameterSpelling.AreParameters.{parameters}
use Rattle.dasdl_grammar.specs.ParameterSpelling.IsTrail.{trail}
use Rattle.dasdl_grammar.proofs.ParametersExact.{parameters_complete, audit_complete}
use Rattle.dasdl_parse.specs.Parameters.{parameters_at, audit_at}
use Rattle.dasdl_grammar.specs.SchemaSpelling.Members.{a_set, a_data_set, an_item, a_link, a_group, a_first, a_further}
use Rattle.dasdl_phrases.proofs.CondComplete.{RunsBranches, joins, turns_at-runs, heads, name_reads, is_no_keyword}
use Rattle.dasdl_phrases.proofs.CondComplete.RunsBranches.{here, step}
use Rattle.dasdl_parse.proofs.ItemExact.{item_complete, link_complete}
use Rattle.dasdl_grammar.proofs.GroupExact.{group_complete, head_complete, item_first}
use Rattle.dasdl_grammar.proofs.SetComplete.{set_complete, end_complete}

abbrev SchemaRuns : Progress → List Lexeme → Progress → List Lexeme → Type 0
SchemaRuns s ts t rest = RunsBranches schema_done schema_turn_at s ts t rest

-- what members add to a schema so far
abbrev pub added : Progress → ℕ → List Declaration → Progress
added s n ds = record {
  parameters = s.parameters;
  has_parameters = s.has_parameters;
  has_audit = s.has_audit;
  structures = s.structures + structures_in ds;
  counted = s.counted + counted_in ds;
  within = with_items s.within (items_of s.within + n);
  fresh = false;
  declarations = s.declarations ++ ds;
}

abbrev pub depth_of : Open → ℕ
depth_of Outside = 0
depth_of (One a) = 1
depth_of (Two a b) = 2
depth_of (Three a b c) = 3

parameters_reserved : is_reserved (codes "PARAMETERS") ≡ true
unfolding is_reserved
parameters_reserved = refl

audit_reserved : is_reserved (codes "AUDIT") ≡ true
unfolding is_reserved
audit_reserved = refl

-- a name is read, and then what stands behind it
named : (s : Progress) (l : Lexeme) (ts : List Lexeme) (name : List ℕ) → l.token ≡ Word name → is_name name ≡ true → schema_turn_at s (l ∷ ts) ≡ declared_turn_at s l.place name ts
unfolding schema_turn_at named_turn_at
named s l ts name e n =
    let p : starts (is_word (codes "PARAMETERS")) (l ∷ ts) ≡ false = rw e (is_no_keyword (codes "PARAMETERS") name parameters_reserved n) in
    let q : starts (is_word (codes "AUDIT")) (l ∷ ts) ≡ false = rw e (is_no_keyword (codes "AUDIT") name audit_reserved n) in
    let r : starts (is_the_sign 41) (l ∷ ts) ≡ false = rw e refl in
    rw (p, q, r, name_reads l ts name e n) refl

few_structures : (n : ℕ) → n < 200 → nat_le 200 n ≡ false
few_structures n h = grind (arith, nat_tests)

few_items : (n : ℕ) → n < 60 → nat_le 60 n ≡ false
few_items n h = grind (arith, nat_tests)

not_deepest : (o : Open) → depth_of o < 3 → is_deepest o ≡ false
not_deepest Outside h = refl
not_deepest (One a) h = refl
not_deepest (Two a b) h = refl
not_deepest (Three a b c) h = absurd (omega arith)

pub is_within : (o : Open) (d : ℕ) → depth_of o ≡ suc d → is_inside o ≡ true
is_within Outside d h = absurd (omega arith)
is_within (One a) d h = refl
is_within (Two a b) d h = refl
is_within (Three a b c) d h = refl

pub no_more_items : (o : Open) → with_items o (items_of o + 0) ≡ o
no_more_items Outside = refl
no_more_items (One a) = let k : a + 0 ≡ a = omega arith in rw k refl
no_more_items (Two a b) = let k : b + 0 ≡ b = omega arith in rw k refl
no_more_items (Three a b c) = let k : c + 0 ≡ c = omega arith in rw k refl

declared_is : (s : Progress) (w : Open) (st c n : ℕ) (d : Declaration) → w ≡ with_items s.within (items_of s.within + n) → st ≡ s.structures + structures_in (d ∷ []) → c ≡ s.counted + counted_in (d ∷ []) → add_declaration s w st c false d ≡ added s n (d ∷ [])
declared_is s w st c n d e f g = rw (e, f, g) refl

behind_set : (s : Progress) (place : ℕ) (name : List ℕ) (set : SetDecl) (ts rest : List Lexeme) → starts_set ts ≡ true → s.structures < 200 → is_deepest s.within ≡ false → set_at place name ts ≡ Ok (set, rest) → declared_turn_at s place name ts ≡ Ok (add_declaration s s.within (s.structures + 1) s.counted false (SetOf set), rest)
unfolding declared_turn_at structure_turn_at
behind_set s place name set ts rest p few deep h = rw (p, few_structures s.structures few, deep, h) refl

behind_head : (s : Progress) (place : ℕ) (name : List ℕ) (head : DataSetDecl) (ts rest : List Lexeme) → starts_set ts ≡ false → starts_data_set ts ≡ true → s.structures < 200 → is_deepest s.within ≡ false → data_set_at place name ts ≡ Ok (head, rest) → declared_turn_at s place name ts ≡ Ok (add_declaration s (open_data_set s.within) (s.structures + 1) s.counted true (DataSet head), rest)
unfolding declared_turn_at structure_turn_at
behind_head s place name head ts rest p q few deep h = rw (p, q, few_structures s.structures few, deep, h) refl

behind_item : (s : Progress) (place : ℕ) (name : List ℕ) (ts rest : List Lexeme) (item : ItemDecl) → starts_set ts ≡ false → starts_data_set ts ≡ false → is_inside s.within ≡ true → starts_kind ts ≡ true → items_of s.within < 60 → item_at place name ts ≡ Ok (item, rest) → declared_turn_at s place name ts ≡ Ok (add_declaration s (with_items s.within (items_of s.within + 1)) s.structures s.counted false (Item item), rest)
unfolding declared_turn_at item_turn_at
behind_item s place name ts rest item p q i k few h = rw (p, q, i, k, few_items (items_of s.within) few, h) refl

behind_group : (s : Progress) (place : ℕ) (name : List ℕ) (ts rest : List Lexeme) (items : List ItemDecl) → starts_set ts ≡ false → starts_data_set ts ≡ false → is_inside s.within ≡ true → starts_kind ts ≡ false → starts (is_word (codes "GROUP")) ts ≡ true → group_at (items_of s.within) ts ≡ Ok (record { items = items; count = items_of s.within + length items }, rest) → declared_turn_at s place name ts ≡ Ok (add_declaration s (with_items s.within (items_of s.within + length items)) s.structures s.counted false (Group (record { place = place; name = name; items = items })), rest)
unfolding declared_turn_at group_turn_at
behind_group s place name ts rest items p q i k g h = rw (p, q, i, k, g, h) refl

behind_link : (s : Progress) (place : ℕ) (name : List ℕ) (ts rest : List Lexeme) (link : LinkDecl) → starts_set ts ≡ false → starts_data_set ts ≡ false → is_inside s.within ≡ true → starts_kind ts ≡ false → starts (is_word (codes "GROUP")) ts ≡ false → starts (is_word (codes "LINK")) ts ≡ true → items_of s.within < 60 → link_at s.counted place name ts ≡ Ok (link, rest) → declared_turn_at s place name ts ≡ Ok (add_declaration s (with_items s.within (items_of s.within + 1)) s.structures (counted_with s.counted link.counted) false (Link link), rest)
unfolding declared_turn_at link_turn_at
behind_link s place name ts rest link p q i k g w few h = rw (p, q, i, k, g, w, few_items (items_of s.within) few, h) refl

-- which words a first lexeme rules out
record Flags (ts : List Lexeme) (set data_set kind group : Bool) : Type 0 where
  of_set : starts_set ts ≡ set
  of_data_set : starts_data_set ts ≡ data_set
  of_kind : starts_kind ts ≡ kind
  of_group : starts (is_word (codes "GROUP")) ts ≡ group

set_flags : (place : ℕ) (name : List ℕ) (set : SetDecl) (us : List Lexeme) → IsSet place name set us → (rest : List Lexeme) → starts_set (us ++ rest) ≡ true
set_flags place name _ _ (whole_set k o t z true of said us a b c n d e) rest = rw a refl
set_flags place name _ _ (whole_set k o t z false of said us a b c n d e) rest = rw a refl

head_flags : (place : ℕ) (name : List ℕ) (head : DataSetDecl) (xs : List Token) → IsHead place name head xs → (us rest : List Lexeme) → map token_of us ≡ xs → (starts_set (us ++ rest) ≡ false) × (starts_data_set (us ++ rest) ≡ true)
head_flags place name _ _ a_head us rest e = let k = heads us (Word (codes "DATA")) _ e in (rw (k.all, k.token) refl, rw (k.all, k.token) refl)
head_flags place name _ _ a_restart_head us rest e = let k = heads us (Word (codes "RESTART")) _ e in (rw (k.all, k.token) refl, rw (k.all, k.token) refl)

kind_flags : (kind : ItemKind) (xs : List Token) → SpellsKind kind xs → (us rest : List Lexeme) (ys : List Token) → map token_of us ≡ xs ++ ys → (starts_set (us ++ rest) ≡ false) × (starts_data_set (us ++ rest) ≡ false)
kind_flags _ _ (an_alpha n a b) us rest ys e = let k = heads us (Word (codes "ALPHA")) _ e in (rw (k.all, k.token) refl, rw (k.all, k.token) refl)
kind_flags _ _ (a_number n m s xs zs w p) us rest ys e = let k = heads us (Word (codes "NUMBER")) _ e in (rw (k.all, k.token) refl, rw (k.all, k.token) refl)
kind_flags _ _ a_truth us rest ys e = let k = heads us (Word (codes "BOOLEAN")) _ e in (rw (k.all, k.token) refl, rw (k.all, k.token) refl)
kind_flags _ _ (a_field n a b) us rest ys e = let k = heads us (Word (codes "FIELD")) _ e in (rw (k.all, k.token) refl, rw (k.all, k.token) refl)

item_flags : (place : ℕ) (name : List ℕ) (item : ItemDecl) (ws : List Token) → IsItem place name item ws → (us rest : List Lexeme) → map token_of us ≡ ws → (starts_set (us ++ rest) ≡ false) × (starts_data_set (us ++ rest) ≡ false)
item_flags _ _ _ _ (whole_item place name kind said xs ys d o) us rest e = kind_flags kind xs d us rest (ys ++ (Sign 59 ∷ [])) e

word_flags : (l : Lexeme) (ts : List Lexeme) (w : List ℕ) (g : Bool) → l.token ≡ Word w → starts_set (record { token = Word w; place = 0 } ∷ []) ≡ false → starts_data_set (record { token = Word w; place = 0 } ∷ []) ≡ false → starts_kind (record { token = Word w; place = 0 } ∷ []) ≡ false → is_word (codes "GROUP") (Word w) ≡ g → Flags (l ∷ ts) false false false g
word_flags l ts w g e a b c d = record { of_set = rw e a; of_data_set = rw e b; of_kind = rw e c; of_group = rw e d }

link_flags : (place : ℕ) (name : List ℕ) (link : LinkDecl) (xs : List Token) → IsLink place name link xs → (us rest : List Lexeme) → map token_of us ≡ xs → Flags (us ++ rest) false false false false
link_flags _ _ _ _ (plain_link place name target n) us rest e = let k = heads us (Word (codes "LINK")) _ e in rw k.all (word_flags k.l (k.b ++ rest) (codes "LINK") false k.token refl refl refl refl)
link_flags _ _ _ _ (a_counted_link place name target n) us rest e = let k = heads us (Word (codes "LINK")) _ e in rw k.all (word_flags k.l (k.b ++ rest) (codes "LINK") false k.token refl refl refl refl)

link_word : (place : ℕ) (name : List ℕ) (link : LinkDecl) (xs : List Token) → IsLink place name link xs → (us rest : List Lexeme) → map token_of us ≡ xs → starts (is_word (codes "LINK")) (us ++ rest) ≡ true
link_word _ _ _ _ (plain_link place name target n) us rest e = let k = heads us (Word (codes "LINK")) _ e in rw (k.all, k.token) refl
link_word _ _ _ _ (a_counted_link place name target n) us rest e = let k = heads us (Word (codes "LINK")) _ e in rw (k.all, k.token) refl

group_flags : (items : List ItemDecl) (us : List Lexeme) → IsGroup items us → (rest : List Lexeme) → Flags (us ++ rest) false false false true
group_flags _ _ (whole_group g o c z items us a b d y e) rest = word_flags g _ (codes "GROUP") true a refl refl refl refl

pub structures-append : (ds es : List Declaration) → structures_in (ds ++ es) ≡ structures_in ds + structures_in es
structures-append [] es = omega arith
structures-append (d ∷ ds) es = omega (arith, structures-append ds es)

pub counted-append : (ds es : List Declaration) → counted_in (ds ++ es) ≡ counted_in ds + counted_in es
counted-append [] es = omega arith
counted-append (d ∷ ds) es = omega (arith, counted-append ds es)

pub depth_with : (o : Open) (n : ℕ) → depth_of (with_items o n) ≡ depth_of o
depth_with Outside n = refl
depth_with (One a) n = refl
depth_with (Two a b) n = refl
depth_with (Three a b c) n = refl

pub items_with : (o : Open) (n d : ℕ) → depth_of o ≡ suc d → items_of (with_items o n) ≡ n
items_with Outside n d h = absurd (cc)
items_with (One a) n d h = refl
items_with (Two a b) n d h = refl
items_with (Three a b c) n d h = refl

pub with_again : (o : Open) (n m : ℕ) → with_items (with_items o n) m ≡ with_items o m
with_again Outside n m = refl
with_again (One a) n m = refl
with_again (Two a b) n m = refl
with_again (Three a b c) n m = refl

pub depth_opened : (o : Open) → depth_of o < 3 → depth_of (open_data_set o) ≡ suc (depth_of o)
depth_opened Outside h = refl
depth_opened (One a) h = refl
depth_opened (Two a b) h = refl
depth_opened (Three a b c) h = absurd (omega arith)

pub none_opened : (o : Open) → depth_of o < 3 → items_of (open_data_set o) ≡ 0
none_opened Outside h = refl
none_opened (One a) h = refl
none_opened (Two a b) h = refl
none_opened (Three a b c) h = absurd (omega arith)

pub closed_again : (o : Open) (n : ℕ) → depth_of o < 3 → close_data_set (with_items (open_data_set o) n) ≡ o
closed_again Outside n h = refl
closed_again (One a) n h = refl
closed_again (Two a b) n h = refl
closed_again (Three a b c) n h = absurd (omega arith)

added_twice : (s : Progress) (n m d : ℕ) (ds es : List Declaration) → depth_of s.within ≡ suc d → added (added s n ds) m es ≡ added s (n + m) (ds ++ es)
added_twice s n m d ds es h =
    let a : s.structures + structures_in ds + structures_in es ≡ s.structures + structures_in (ds ++ es) = omega (arith, structures-append ds es) in
    let b : s.counted + counted_in ds + counted_in es ≡ s.counted + counted_in (ds ++ es) = omega (arith, counted-append ds es) in
    let i : items_of (with_items s.within (items_of s.within + n)) + m ≡ items_of s.within + (n + m) = omega (arith, items_with s.within (items_of s.within + n) d h) in
    rw (a, b, i, with_again s.within (items_of s.within + n) (items_of s.within + (n + m)), append_assoc s.declarations ds es) refl

not_done : (s : Progress) (l : Lexeme) (ts : List Lexeme) (name : List ℕ) → l.token ≡ Word name → schema_done s (l ∷ ts) ≡ false
not_done s l ts name e = rw e refl

-- one named declaration is one turn
one_turn : (s t : Progress) (l : Lexeme) (name : List ℕ) (vs rest : List Lexeme) → l.token ≡ Word name → is_name name ≡ true → declared_turn_at s l.place name (vs ++ rest) ≡ Ok (t, rest) → SchemaRuns s (l ∷ (vs ++ rest)) t rest
one_turn s t l name vs rest e n h = step s t t (l ∷ (vs ++ rest)) rest rest (not_done s l (vs ++ rest) name e) (named s l (vs ++ rest) name e n ∙ h) (omega (arith, length-append vs rest)) (here t rest)

end_turn_is : (s : Progress) (ts rest : List Lexeme) (end : DataSetEnd) → starts (is_the_sign 41) ts ≡ true → starts (is_word (codes "PARAMETERS")) ts ≡ false → starts (is_word (codes "AUDIT")) ts ≡ false → is_inside s.within ≡ true → s.fresh ≡ false → data_set_end_at ts ≡ Ok (end, rest) → schema_turn_at s ts ≡ Ok (add_declaration s (close_data_set s.within) s.structures s.counted false (EndOf end), rest)
unfolding schema_turn_at end_turn_at
end_turn_is s ts rest end p q r i f h = rw (q, r, p, i, f, h) refl

end_run : (s : Progress) (us : List Lexeme) (end : DataSetEnd) → IsEnd end us → (rest : List Lexeme) → is_inside s.within ≡ true → s.fresh ≡ false → SchemaRuns s (us ++ rest) (add_declaration s (close_data_set s.within) s.structures s.counted false (EndOf end)) rest
end_run s _ _ (an_end c z said us a d e) rest i f =
    let whole = end_complete (c ∷ (us ++ (z ∷ []))) rest (record { verify = said.verify; population = or_else 1000000 said.population }) (an_end c z said us a d e) in
    let t = add_declaration s (close_data_set s.within) s.structures s.counted false (EndOf (record { verify = said.verify; population = or_else 1000000 said.population })) in
    step s t t (c ∷ ((us ++ (z ∷ [])) ++ rest)) rest rest (rw a refl) (end_turn_is s (c ∷ ((us ++ (z ∷ [])) ++ rest)) rest (record { verify = said.verify; population = or_else 1000000 said.population }) (rw a refl) (rw a refl) (rw a refl) i f whole) (omega (arith, length-append (us ++ (z ∷ [])) rest)) (here t rest)

few_counted : (n : ℕ) (link : LinkDecl) → n + (one_if link.counted + 0) ≤ 4000 → link.counted ≡ true → n < 4000
few_counted n link h e = let k : one_if link.counted ≡ 1 = ap one_if e in omega arith

pub counted_is : (n : ℕ) (b : Bool) → counted_with n b ≡ n + (one_if b + 0)
counted_is n true = omega arith
counted_is n false = omega arith

record HasSchemaRoom (s : Progress) (depth n : ℕ) (ds : List Declaration) : Type 0 where
  at : depth_of s.within ≡ depth
  structures : s.structures + structures_in ds ≤ 200
  counted : s.counted + counted_in ds ≤ 4000
  items : items_of s.within + n ≤ 60

abbrev ReadsMany : Many → ℕ → ℕ → List Declaration → List Lexeme → Type 0
ReadsMany Single depth n ds us = (s : Progress) (rest : List Lexeme) → HasSchemaRoom s depth n ds → SchemaRuns s (us ++ rest) (added s n ds) rest
ReadsMany Several depth n ds us = (s : Progress) (rest : List Lexeme) (d : ℕ) → depth ≡ suc d → HasSchemaRoom s depth n ds → SchemaRuns s (us ++ rest) (added s n ds) rest

data_set_runs : (depth : ℕ) (l : Lexeme) (name : List ℕ) (head : DataSetDecl) (hs : List Lexeme) (n : ℕ) (ds : List Declaration) (us : List Lexeme) (end : DataSetEnd) (es : List Lexeme) → depth < 3 → l.token ≡ Word name → is_name name ≡ true → IsHead l.place name head (map token_of hs) → ReadsMany Several (suc depth) n ds us → n ≤ 60 → IsEnd end es → ReadsMany Single depth 0 (DataSet head ∷ (ds ++ (EndOf end ∷ []))) (l ∷ (hs ++ (us ++ es)))
data_set_runs depth l name head hs n ds us end es shallow e nm h inner few z s rest room =
    let deep : depth_of s.within < 3 = omega (arith, room.at) in
    let total = structures-append ds (EndOf end ∷ []) in
    let totals = counted-append ds (EndOf end ∷ []) in
    let flags = head_flags l.place name head (map token_of hs) h hs (us ++ (es ++ rest)) refl in
    let s1 : Progress = add_declaration s (open_data_set s.within) (s.structures + 1) s.counted true (DataSet head) in
    let first = one_turn s s1 l name hs (us ++ (es ++ rest)) e nm (behind_head s l.place name head (hs ++ (us ++ (es ++ rest))) (us ++ (es ++ rest)) flags.0 flags.1 (omega (arith, room.structures, total)) (not_deepest s.within deep) (head_complete l.place name hs (us ++ (es ++ rest)) head h)) in
    let room1 : HasSchemaRoom s1 (suc depth) n ds = record {
      at = depth_opened s.within deep ∙ ap (λ (k : ℕ). suc k) room.at;
      structures = omega (arith, room.structures, total);
      counted = omega (arith, room.counted, totals);
      items = omega (arith, none_opened s.within deep, few);
    } in
    let second = inner s1 (es ++ rest) depth refl room1 in
    let s2 : Progress = added s1 n ds in
    let inside : is_inside s2.within ≡ true = is_within s2.within depth (depth_with (open_data_set s.within) (items_of (open_data_set s.within) + n) ∙ room1.at) in
    let third = end_run s2 es end z rest inside refl in
    let a : s.structures + 1 + structures_in ds ≡ s.structures + structures_in (DataSet head ∷ (ds ++ (EndOf end ∷ []))) = omega (arith, total) in
    let b : s.counted + counted_in ds ≡ s.counted + counted_in (DataSet head ∷ (ds ++ (EndOf end ∷ []))) = omega (arith, totals) in
    let c : close_data_set (with_items (open_data_set s.within) (items_of (open_data_set s.within) + n)) ≡ with_items s.within (items_of s.within + 0) = closed_again s.within (items_of (open_data_set s.within) + n) deep ∙ sym (no_more_items s.within) in
    let d : ((s.declarations ++ DataSet head ∷ []) ++ ds) ++ EndOf end ∷ [] ≡ s.declarations ++ (DataSet head ∷ (ds ++ (EndOf end ∷ []))) = append_assoc (s.declarations ++ DataSet head ∷ []) ds (EndOf end ∷ []) ∙ append_assoc s.declarations (DataSet head ∷ []) (ds ++ (EndOf end ∷ [])) in
    let same : add_declaration s2 (close_data_set s2.within) s2.structures s2.counted false (EndOf end) ≡ added s 0 (DataSet head ∷ (ds ++ (EndOf end ∷ []))) = rw (a, b, c, d) refl in
    let all = joins schema_done schema_turn_at s s1 (add_declaration s2 (close_data_set s2.within) s2.structures s2.counted false (EndOf end)) (l ∷ (hs ++ (us ++ (es ++ rest)))) (us ++ (es ++ rest)) rest first (joins schema_done schema_turn_at s1 s2 (add_declaration s2 (close_data_set s2.within) s2.structures s2.counted false (EndOf end)) (us ++ (es ++ rest)) (es ++ rest) rest second third) in
    let text : l ∷ ((hs ++ (us ++ es)) ++ rest) ≡ l ∷ (hs ++ (us ++ (es ++ rest))) = ap (λ (vs : List Lexeme). l ∷ vs) (append_assoc hs (us ++ es) rest ∙ ap (λ (vs : List Lexeme). hs ++ vs) (append_assoc us es rest)) in
    rw text (subst (λ (x : Progress). SchemaRuns s (l ∷ (hs ++ (us ++ (es ++ rest)))) x rest) same all)

runs : (m : Many) (depth n : ℕ) (ds : List Declaration) (us : List Lexeme) → Members m depth n ds us → ReadsMany m depth n ds us
runs _ _ _ _ _ (a_set depth l name set vs shallow e nm d) = λ s rest room.
    one_turn s (added s 0 (SetOf set ∷ [])) l name vs rest e nm
    (behind_set s l.place name set (vs ++ rest) rest (set_flags l.place name set vs d rest) (omega (arith, room.structures)) (not_deepest s.within (omega (arith, room.at))) (set_complete l.place name vs rest set d)
    ∙ ap (λ (x : Progress). Ok (x, rest)) (declared_is s s.within (s.structures + 1) s.counted 0 (SetOf set) (sym (no_more_items s.within)) (omega arith) (omega arith)))
runs _ _ _ _ _ (a_data_set depth l name head hs n ds us end es shallow e nm h d few z) = data_set_runs depth l name head hs n ds us end es shallow e nm h (runs Several (suc depth) n ds us d) few z
runs _ _ _ _ _ (an_item depth l name item vs e nm d) = λ s rest room.
    let f = item_flags l.place name item (map token_of vs) d vs rest refl in
    one_turn s (added s 1 (Item item ∷ [])) l name vs rest e nm
    (behind_item s l.place name (vs ++ rest) rest item f.0 f.1 (is_within s.within depth room.at) (item_first l.place name item (map token_of vs) d vs rest refl) (omega (arith, room.items)) (item_complete l.place name vs rest item d)
    ∙ ap (λ (x : Progress). Ok (x, rest)) (declared_is s (with_items s.within (items_of s.within + 1)) s.structures s.counted 1 (Item item) refl (omega arith) (omega arith)))
runs _ _ _ _ _ (a_link depth l name link vs e nm d) = λ s rest room.
    let f = link_flags l.place name link (map token_of vs) d vs rest refl in
    one_turn s (added s 1 (Link link ∷ [])) l name vs rest e nm
    (behind_link s l.place name (vs ++ rest) rest link f.of_set f.of_data_set (is_within s.within depth room.at) f.of_kind f.of_group (link_word l.place name link (map token_of vs) d vs rest refl) (omega (arith, room.items)) (link_complete s.counted l.place name vs rest link d (few_counted s.counted link room.counted))
    ∙ ap (λ (x : Progress). Ok (x, rest)) (declared_is s (with_items s.within (items_of s.within + 1)) s.structures (counted_with s.counted link.counted) 1 (Link link) refl (omega arith) (counted_is s.counted link.counted)))
runs _ _ _ _ _ (a_group depth l name items vs e nm d) = λ s rest room.
    let f = group_flags items vs d rest in
    one_turn s (added s (length items) (Group (record { place = l.place; name = name; items = items }) ∷ [])) l name vs rest e nm
    (behind_group s l.place name (vs ++ rest) rest items f.of_set f.of_data_set (is_within s.within depth room.at) f.of_kind f.of_group (group_complete (items_of s.within) vs rest items d room.items)
    ∙ ap (λ (x : Progress). Ok (x, rest)) (declared_is s (with_items s.within (items_of s.within + length items)) s.structures s.counted (length items) (Group (record { place = l.place; name = name; items = items })) refl (omega arith) (omega arith)))
runs _ _ _ _ _ (a_first depth n ds us d) = λ s rest k e room. runs Single depth n ds us d s rest room
runs _ _ _ _ _ (a_further depth n m ds es us vs d f) = λ s rest k e room.
    let total = structures-append ds es in
    let totals = counted-append ds es in
    let at : depth_of s.within ≡ suc k = room.at ∙ e in
    let first = runs Several depth n ds us d s (vs ++ rest) k e (record { at = room.at; structures = omega (arith, room.structures, total); counted = omega (arith, room.counted, totals); items = omega (arith, room.items) }) in
    let second = runs Single depth m es vs f (added s n ds) rest (record { at = depth_with s.within (items_of s.within + n) ∙ room.at; structures = omega (arith, room.structures, total); counted = omega (arith, room.counted, totals); items = omega (arith, room.items, items_with s.within (items_of s.within + n) k at) }) in
    rw (append_assoc us vs rest) (joins schema_done schema_turn_at s (added s n ds) (added s (n + m) (ds ++ es)) (us ++ (vs ++ rest)) (vs ++ rest) rest first (subst (λ (x : Progress). SchemaRuns (added s n ds) (vs ++ rest) x rest) (added_twice s n m k ds es at) second))

abbrev pub outer : Parameters → Bool → Bool → List Declaration → Progress
outer p b a ds = record { parameters = p; has_parameters = b; has_audit = a; structures = structures_in ds; counted = counted_in ds; within = Outside; fresh = false; declarations = ds }

parameters_turn_is : (p : Parameters) (a : Bool) (ds : List Declaration) (ts rest : List Lexeme) (said : ParameterPairs) → starts (is_word (codes "PARAMETERS")) ts ≡ true → parameters_at ts ≡ Ok (said, rest) → schema_turn_at (outer p false a ds) ts ≡ Ok (outer (with_pairs p said) true a ds, rest)
unfolding schema_turn_at parameters_turn_at
parameters_turn_is p a ds ts rest said f h = rw (f, h) refl

audit_turn_is : (p : Parameters) (b : Bool) (ds : List Declaration) (ts rest : List Lexeme) (said : AuditPairs) → starts (is_word (codes "PARAMETERS")) ts ≡ false → starts (is_word (codes "AUDIT")) ts ≡ true → audit_at ts ≡ Ok (said, rest) → schema_turn_at (outer p b false ds) ts ≡ Ok (outer (with_audit_pairs p said) b true ds, rest)
unfolding schema_turn_at audit_turn_at
audit_turn_is p b ds ts rest said f g h = rw (f, g, h) refl

parameters_run : (p : Parameters) (a : Bool) (ds : List Declaration) (said : ParameterPairs) (xs : List Token) → AreParameters said xs → (vs rest : List Lexeme) → map token_of vs ≡ xs → SchemaRuns (outer p false a ds) (vs ++ rest) (outer (with_pairs p said) true a ds) rest
parameters_run p a ds _ _ (parameters said xs d) vs rest e =
    let k = heads vs (Word (codes "PARAMETERS")) _ e in
    let f : starts (is_word (codes "PARAMETERS")) (vs ++ rest) ≡ true = rw (k.all, k.token) refl in
    let go : schema_done (outer p false a ds) (vs ++ rest) ≡ false = rw (k.all, k.token) refl in
    let h = parameters_complete vs rest said (subst (λ (ws : List Token). AreParameters said ws) (sym e) (parameters said xs d)) in
    let shorter : length rest < length (vs ++ rest) = rw k.all (omega (arith, length-append k.b rest)) in
    step _ _ _ (vs ++ rest) rest rest go (parameters_turn_is p a ds (vs ++ rest) rest said f h) shorter (here _ rest)

audit_run : (p : Parameters) (b : Bool) (ds : List Declaration) (said : AuditPairs) (xs : List Token) → IsTrail said xs → (vs rest : List Lexeme) → map token_of vs ≡ xs → SchemaRuns (outer p b false ds) (vs ++ rest) (outer (with_audit_pairs p said) b true ds) rest
audit_run p b ds _ _ (trail said xs d) vs rest e =
    let k = heads vs (Word (codes "AUDIT")) _ e in
    let f : starts (is_word (codes "AUDIT")) (vs ++ rest) ≡ true = rw (k.all, k.token) refl in
    let g : starts (is_word (codes "PARAMETERS")) (vs ++ rest) ≡ false = rw (k.all, k.token) refl in
    let go : schema_done (outer p b false ds) (vs ++ rest) ≡ false = rw (k.all, k.token) refl in
    let h = audit_complete vs rest said (subst (λ (ws : List Token). IsTrail said ws) (sym e) (trail said xs d)) in
    let shorter : length rest < length (vs ++ rest) = rw k.all (omega (arith, length-append k.b rest)) in
    step _ _ _ (vs ++ rest) rest rest go (audit_turn_is p b ds (vs ++ rest) rest said g f h) shorter (here _ rest)

all_run : (p : Parameters) (b a : Bool) (ds : List Declaration) (us : List Lexeme) → Declares p b a ds us → structures_in ds ≤ 200 → counted_in ds ≤ 4000 → (rest : List Lexeme) → SchemaRuns no_progress (us ++ rest) (outer p b a ds) rest
all_run _ _ _ _ _ no_declaration few fewer rest = here no_progress rest
all_run _ _ _ _ _ (then_parameters p a ds us said vs d o) few fewer rest =
    rw (append_assoc us vs rest) (joins schema_done schema_turn_at no_progress (outer p false a ds) (outer (with_pairs p said) true a ds) (us ++ (vs ++ rest)) (vs ++ rest) rest (all_run p false a ds us d few fewer (vs ++ rest)) (parameters_run p a ds said (map token_of vs) o vs rest refl))
all_run _ _ _ _ _ (then_audit p b ds us said vs d o) few fewer rest =
    rw (append_assoc us vs rest) (joins schema_done schema_turn_at no_progress (outer p b false ds) (outer (with_audit_pairs p said) b true ds) (us ++ (vs ++ rest)) (vs ++ rest) rest (all_run p b false ds us d few fewer (vs ++ rest)) (audit_run p b ds said (map token_of vs) o vs rest refl))
all_run _ _ _ _ _ (then_structure p b a ds us es vs d m) few fewer rest =
    let total = structures-append ds es in
    let totals = counted-append ds es in
    let first = all_run p b a ds us d (omega (arith, few, total)) (omega (arith, fewer, totals)) (vs ++ rest) in
    let second = runs Single 0 0 es vs m (outer p b a ds) rest (record { at = refl; structures = omega (arith, few, total); counted = omega (arith, fewer, totals); items = omega arith }) in
    let same : added (outer p b a ds) 0 es ≡ outer p b a (ds ++ es) = rw (total, totals) refl in
    rw (append_assoc us vs rest) (joins schema_done schema_turn_at no_progress (outer p b a ds) (outer p b a (ds ++ es)) (us ++ (vs ++ rest)) (vs ++ rest) rest first (subst (λ (x : Progress). SchemaRuns (outer p b a ds) (vs ++ rest) x rest) same second))

outer_complete : (p : Parameters) (b a : Bool) (ds : List Declaration) (us rest : List Lexeme) → Declares p b a ds us → starts is_end rest ≡ true → structures_in ds ≤ 200 → counted_in ds ≤ 4000 → schema_at (us ++ rest) ≡ Ok (record { parameters = p; declarations = ds })
unfolding schema_at
outer_complete p b a ds us rest d e few fewer =
    let ended : schema_done (outer p b a ds) rest ≡ true = rw e refl in
    let all = turns_at-runs schema_done schema_turn_at no_progress (outer p b a ds) (us ++ rest) rest (all_run p b a ds us d few fewer rest) ended in
    rw all refl

pub schema_complete : (ts : List Lexeme) (schema : Schema) → IsSchema schema ts → schema_at ts ≡ Ok schema
schema_complete ts schema d = rw d.all (outer_complete schema.parameters d.has_parameters d.has_audit schema.declarations d.used d.rest d.declares d.ends d.few d.fewer)
