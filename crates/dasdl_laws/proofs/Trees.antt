-- Each structure that a declaration adds is sound by itself, as the grammar nests declarations.
use Rattle.std.proofs.Common.{◌≡◌, ◌≤◌, ◌+◌, ◌-◌, ℕ, suc, List, [], ◌∷◌, ◌++◌, length, Bool, true, false, refl, sym, ap, subst, ◌∙◌, arith, length-append, append_assoc}
use Rattle.std.proofs.lemmas.List.{append-nil, set_at}
use Rattle.std.specs.Prelude.{slice_get, set, Some}
use Rattle.std.specs.List.{AllByRecursion}
use Rattle.std.specs.declared.result.Result.TheVariants.{Ok}
use Rattle.dms_base.specs.Name.{is_name}
use Rattle.dms_base.specs.declared.kind.StructureKind.{StructureKind}
use Rattle.dms_base.specs.declared.kind.StructureKind.TheVariants.{Set, AutomaticSubset, ManualSubset}
use Rattle.dms_desc.specs.Shape.{kind_number}
use Rattle.dms_desc_bytes.specs.Lists.{is_within}
use Rattle.dms_desc_bytes.specs.Members.{members_differ}
use Rattle.dms_tokens.specs.declared.token.Lexeme.{Lexeme}
use Rattle.dasdl_parse.specs.declared.declarations.Declaration.{Declaration}
use Rattle.dasdl_parse.specs.declared.declarations.Declaration.TheVariants.{DataSet, Item, Group, Link, SetOf, End}
use Rattle.dasdl_parse.specs.declared.declarations.DataSetDecl.{DataSetDecl}
use Rattle.dasdl_parse.specs.declared.declarations.DataSetEnd.{DataSetEnd}
use Rattle.dasdl_parse.specs.declared.declarations.ItemDecl.{ItemDecl}
use Rattle.dasdl_parse.specs.declared.declarations.GroupDecl.{GroupDecl}
use Rattle.dasdl_parse.specs.declared.declarations.LinkDecl.{LinkDecl}
use Rattle.dasdl_parse.specs.declared.declarations.SetDecl.{SetDecl}
use Rattle.dasdl_parse.specs.declared.schema.Parameters.{Parameters}
use Rattle.dasdl_grammar.specs.SchemaSpelling.{Members, Many, Declares, structures_of, structures_in}
use Rattle.dasdl_grammar.specs.SchemaSpelling.Many.{Single}
use Rattle.dasdl_grammar.specs.SchemaSpelling.Declares.{no_declaration, then_parameters, then_audit, then_structure}
use Rattle.dasdl_grammar.specs.SchemaSpelling.Members.{a_set, a_data_set, an_item, a_link, a_group, a_first, a_further}
use Rattle.dasdl_grammar.proofs.SchemaComplete.{structures-append}
use Rattle.dasdl_compile.specs.declared.draft.Draft.{Draft}
use Rattle.dasdl_compile.specs.declared.sets.WhereAndKey.{WhereAndKey}
use Rattle.dasdl_compile.specs.declared.work.Compilation.{Compilation}
use Rattle.dasdl_compile.specs.Answers.{steps}
use Rattle.dasdl_compile.specs.Compile.{declared_at, nothing_yet}
use Rattle.dasdl_compile.specs.Finding.{new_draft, next_structure, data_set_named}
use Rattle.dasdl_compile.specs.Members.{member_at, open_after}
use Rattle.dasdl_compile.specs.Outlines.{data_set_kind}
use Rattle.dasdl_compile.specs.Sets.{is_misplaced, options_at, lacks_key, set_draft}
use Rattle.std.proofs.Common.{◌⊎◌, inl, inr, cond}
use Rattle.std.proofs.lemmas.Bool.{eq-eqb, or_left}
use Rattle.std.specs.Prelude.{◌==◌, not, is_some}
use Rattle.std.specs.List.{list_any}
use Rattle.dms_desc_bytes.specs.Spelling.{is_data_set}
use Rattle.dasdl_laws.proofs.Nested.{owned, HasIn, any_left, any_right, all_in, both_closed}
use Rattle.dasdl_laws.proofs.Judging.{bind_ok, ok_same, steps_split, one_step}
use Rattle.dasdl_laws.proofs.Members.{item_adds, link_adds}
use Rattle.dasdl_laws.proofs.Ordered.{counts}
use Rattle.dasdl_laws.proofs.Parts.{Sofar, sofar_adds, grown, group_adds, EndedDraft, ended, end_items}
use Rattle.dasdl_laws.proofs.Turns.{outer, DraftTurn, Inside, turn_of, member_kept}
use Rattle.dasdl_laws.proofs.Turns.DraftTurn.{inside, data_set, a_set as set_added}
use Rattle.dasdl_laws.proofs.Turns.Inside.{untouched, changed}
use Rattle.dasdl_laws.proofs.Written.{IsWrittenItem, IsWrittenSet, IsPlainCondition, item_written, group_written, link_name, head_name, end_written, set_written}

-- ---- structures that are done

pub record DataSetMade (o : List Draft) (d : Draft) : Type 0 where
  pub restart : Bool
  pub number : ℕ
  pub owner : ℕ
  pub called : List ℕ
  pub name : is_name d.name ≡ true
  pub outside : outer d ≡ new_draft number (data_set_kind restart) called owner
  pub ended : EndedDraft o d

pub record SetMade (o : List Draft) (d : Draft) : Type 0 where
  pub work : Compilation
  pub decl : SetDecl
  pub of : Draft
  pub options : WhereAndKey
  pub found : data_set_named decl.of o ≡ Some of
  pub placed : is_misplaced work decl of ≡ false
  pub read : options_at of decl ≡ Ok options
  pub key : lacks_key decl ≡ false
  pub written : IsWrittenSet decl
  pub is : set_draft work decl of options ≡ d

pub data Final (o : List Draft) (d : Draft) : Type 0 where
  a_data_set_made : DataSetMade o d → Final o d
  a_set_made : SetMade o d → Final o d

-- structures were added, and no more was done
pub record Adding (o : List Draft) (w v : Compilation) : Type 0 where
  pub new : List Draft
  pub made : v.made ≡ w.made ++ new
  pub within : v.within ≡ w.within
  pub final : AllByRecursion (Final o) new
  pub some : list_any (owned w.within) new ≡ true
  pub closed : AllByRecursion (HasIn new) new

-- the open data set has more items, and structures were added
pub record GrowsDrafts (o : List Draft) (pre : List Draft) (d : Draft) (post : List Draft) (w v : Compilation) (n : ℕ) : Type 0 where
  pub now : Draft
  pub new : List Draft
  pub made : v.made ≡ pre ++ now ∷ (post ++ new)
  pub within : v.within ≡ w.within
  pub outside : outer now ≡ outer d
  pub sofar : Sofar o now
  pub items : length now.items ≡ length d.items + n
  pub final : AllByRecursion (Final o) new
  pub member : (1 ≤ length now.items) ⊎ (list_any (owned w.within) new ≡ true)
  pub closed : AllByRecursion (HasIn new) new

some_items : (a n b : ℕ) → b ≡ a + n → 1 ≤ n → 1 ≤ b
some_items a n b e h = omega (arith, e, h)

pub no_data_set : (a b : Bool) → is_data_set (kind_number (cond (not a) Set (cond b AutomaticSubset ManualSubset))) ≡ false
no_data_set true true = refl
no_data_set true false = refl
no_data_set false b = refl

adding_grows : (o pre : List Draft) (d : Draft) (post : List Draft) (w v : Compilation) → w.made ≡ pre ++ d ∷ post → Sofar o d → Adding o w v → GrowsDrafts o pre d post w v 0
adding_grows o pre d post w v e h a =
    record { now = d; new = a.new; made = a.made ∙ ap (λ (x : List Draft). x ++ a.new) e ∙ append_assoc pre (d ∷ post) a.new; within = a.within; outside = refl; sofar = h; items = omega arith; final = a.final; member = inr a.some; closed = a.closed }

-- ---- members of the data set that is open

behind : {A : Type 0} (pre : List A) (i : A) (is : List A) → slice_get (pre ++ i ∷ is) (length pre) ≡ Some i
behind [] i is = refl
behind (x ∷ xs) i is = behind xs i is

at_open : (pre : List Draft) (d : Draft) (post : List Draft) (w : Compilation) → w.made ≡ pre ++ d ∷ post → w.within ≡ length pre + 1 → slice_get w.made (w.within - 1) ≡ Some d
at_open pre d post w e at =
    let k : w.within - 1 ≡ length pre = omega (arith, at) in
    ap (λ (x : List Draft). slice_get x (w.within - 1)) e ∙ ap (λ (n : ℕ). slice_get (pre ++ d ∷ post) n) k ∙ behind pre d post

-- what a member makes of it
record MakesDraft (o : List Draft) (decl : Declaration) (pre : List Draft) (d : Draft) (post : List Draft) (w v : Compilation) : Type 0 where
  now : Draft
  is : member_at o decl d ≡ Ok now
  made : v.made ≡ pre ++ now ∷ post
  within : v.within ≡ open_after decl d.owner w.within

makes : (o : List Draft) (decl : Declaration) (pre : List Draft) (d : Draft) (post : List Draft) (w v : Compilation) → w.made ≡ pre ++ d ∷ post → w.within ≡ length pre + 1 → Inside o decl w v → MakesDraft o decl pre d post w v
makes o decl pre d post w v e at (untouched none same) = let is = at_open pre d post w e at in absurd (cc)
makes o decl pre d post w v e at (changed d0 t found h same) =
    let is = at_open pre d post w e at in
    let one : d0 ≡ d = cc in
    let k : length pre ≡ w.within - 1 = omega (arith, at) in
    record {
      now = t;
      is = subst (λ (x : Draft). member_at o decl x ≡ Ok t) one h;
      made = ap (λ (x : Compilation). x.made) same ∙ ap (λ (x : List Draft). set x (w.within - 1) t) e ∙ set_at pre d post t (w.within - 1) k;
      within = ap (λ (x : Compilation). x.within) same ∙ ap (λ (x : Draft). open_after decl x.owner w.within) one;
    }

inside_of : (o : List Draft) (w v : Compilation) (decl : Declaration) → DraftTurn o w v decl → structures_of decl ≡ 0 → Inside o decl w v
inside_of o w v _ (inside decl none i) h = i
inside_of o w v _ (data_set s new placed once e) h = absurd (omega (arith, h))
inside_of o w v _ (set_added s d p new of placed read key e) h = absurd (omega (arith, h))

nothing_after : (pre : List Draft) (t : Draft) (post made : List Draft) → made ≡ pre ++ t ∷ post → made ≡ pre ++ t ∷ (post ++ [])
nothing_after pre t post made e = e ∙ ap (λ (x : List Draft). pre ++ t ∷ x) (sym (append-nil post))

item_grows : (o pre : List Draft) (d : Draft) (post : List Draft) (w v : Compilation) (i : ItemDecl) → IsWrittenItem i → w.made ≡ pre ++ d ∷ post → w.within ≡ length pre + 1 → Sofar o d → steps declared_at o w (Item i ∷ []) ≡ Ok v → GrowsDrafts o pre d post w v 1
unfolding member_at
item_grows o pre d post w v i z e at h k =
    let m = makes o (Item i) pre d post w v e at (inside_of o w v (Item i) (turn_of o w v (Item i) (one_step declared_at o w (Item i) v k)) refl) in
    let a = item_adds o d m.now i z m.is in
    record { now = m.now; new = []; made = nothing_after pre m.now post v.made m.made; within = m.within; outside = member_kept o (Item i) d m.now m.is; sofar = sofar_adds o d m.now a h; items = (grown o d m.now a).0; final = tt; member = inl (some_items (length d.items) 1 (length m.now.items) (grown o d m.now a).0 (omega arith)); closed = tt }

link_grows : (o pre : List Draft) (d : Draft) (post : List Draft) (w v : Compilation) (l : LinkDecl) → is_name l.name ≡ true → w.made ≡ pre ++ d ∷ post → w.within ≡ length pre + 1 → Sofar o d → steps declared_at o w (Link l ∷ []) ≡ Ok v → GrowsDrafts o pre d post w v 1
unfolding member_at
link_grows o pre d post w v l z e at h k =
    let m = makes o (Link l) pre d post w v e at (inside_of o w v (Link l) (turn_of o w v (Link l) (one_step declared_at o w (Link l) v k)) refl) in
    let a = link_adds o d m.now l z m.is in
    record { now = m.now; new = []; made = nothing_after pre m.now post v.made m.made; within = m.within; outside = member_kept o (Link l) d m.now m.is; sofar = sofar_adds o d m.now a h; items = (grown o d m.now a).0; final = tt; member = inl (some_items (length d.items) 1 (length m.now.items) (grown o d m.now a).0 (omega arith)); closed = tt }

group_grows : (o pre : List Draft) (d : Draft) (post : List Draft) (w v : Compilation) (g : GroupDecl) → is_name g.name ≡ true → AllByRecursion IsWrittenItem g.items × (1 ≤ length g.items) → length d.items + length g.items ≤ 60 → w.made ≡ pre ++ d ∷ post → w.within ≡ length pre + 1 → Sofar o d → steps declared_at o w (Group g ∷ []) ≡ Ok v → GrowsDrafts o pre d post w v (length g.items)
unfolding member_at
group_grows o pre d post w v g named z room e at h k =
    let m = makes o (Group g) pre d post w v e at (inside_of o w v (Group g) (turn_of o w v (Group g) (one_step declared_at o w (Group g) v k)) refl) in
    let a = group_adds o d m.now g named z.0 z.1 room h m.is in
    record { now = m.now; new = []; made = nothing_after pre m.now post v.made m.made; within = m.within; outside = member_kept o (Group g) d m.now m.is; sofar = a.0; items = a.1; final = tt; member = inl (some_items (length d.items) (length g.items) (length m.now.items) a.1 z.1); closed = tt }

-- ---- sets

set_adding_by : (o : List Draft) (w v : Compilation) (decl : Declaration) (s : SetDecl) → IsWrittenSet s → decl ≡ SetOf s → DraftTurn o w v decl → Adding o w v
set_adding_by o w v _ s z same (inside decl none i) = let one : structures_of (SetOf s) ≡ 0 = subst (λ (x : Declaration). structures_of x ≡ 0) same none in absurd (omega (arith, one))
set_adding_by o w v _ s z same (data_set h new placed once e) = absurd (cc)
set_adding_by o w v _ s z same (set_added t d p new of placed read key e) =
    let one : s ≡ t = cc in
    record { new = set_draft w t d p ∷ []; made = ap (λ (x : Compilation). x.made) e; within = ap (λ (x : Compilation). x.within) e; final = (a_set_made (record { work = w; decl = t; of = d; options = p; found = of; placed = placed; read = read; key = key; written = subst IsWrittenSet one z; is = refl }), tt); some = or_left (w.within == w.within) false (eq-eqb w.within w.within refl); closed = (inl (no_data_set t.subset (is_some t.cond)), tt) }

set_adding : (o : List Draft) (w v : Compilation) (s : SetDecl) → IsWrittenSet s → steps declared_at o w (SetOf s ∷ []) ≡ Ok v → Adding o w v
set_adding o w v s z k = set_adding_by o w v (SetOf s) s z refl (turn_of o w v (SetOf s) (one_step declared_at o w (SetOf s) v k))

-- ---- data sets

pub opened_by : (o : List Draft) (w v : Compilation) (decl : Declaration) (s : DataSetDecl) → decl ≡ DataSet s → DraftTurn o w v decl → v ≡ record { made = w.made ++ new_draft (next_structure w.made) (data_set_kind s.restart) s.name w.within ∷ []; within = next_structure w.made }
opened_by o w v _ s same (inside decl none i) = let one : structures_of (DataSet s) ≡ 0 = subst (λ (x : Declaration). structures_of x ≡ 0) same none in absurd (omega (arith, one))
opened_by o w v _ s same (data_set h new placed once e) =
    let one : h ≡ s = cc in
    subst (λ (x : DataSetDecl). v ≡ record { made = w.made ++ new_draft (next_structure w.made) (data_set_kind x.restart) x.name w.within ∷ []; within = next_structure w.made }) one e
opened_by o w v _ s same (set_added t d p new of placed read key e) = absurd (cc)

-- what the members of a data set do, wherever it stands
abbrev Grow : List Draft → List Declaration → ℕ → Type 0
Grow o ds n = (pre : List Draft) (d : Draft) (post : List Draft) (w v : Compilation) → w.made ≡ pre ++ d ∷ post → w.within ≡ length pre + 1 → Sofar o d → length d.items + n ≤ 60 → length w.made + structures_in ds ≤ 200 → steps declared_at o w ds ≡ Ok v → GrowsDrafts o pre d post w v n

no_members : (o : List Draft) (number : ℕ) (kind : StructureKind) (name : List ℕ) (owner : ℕ) → Sofar o (new_draft number kind name owner)
unfolding members_differ
no_members o number kind name owner = record { base = record { local = refl; points = tt; differ = refl }; grouped = record { within = tt; follow = refl; few = omega arith }; plain = tt }

first_in : (d : Draft) (new : List Draft) (within n : ℕ) → length d.items ≡ n → within ≡ d.number → (1 ≤ n) ⊎ (list_any (owned within) new ≡ true) → (1 ≤ length d.items) ⊎ (list_any (owned d.number) (d ∷ new) ≡ true)
first_in d new within n e same (inl h) = inl (omega (arith, e, h))
first_in d new within n e same (inr h) = inr (any_right (owned d.number) (d ∷ []) new (subst (λ (k : ℕ). list_any (owned k) new ≡ true) same h))

ends : (o : List Draft) (head : DataSetDecl) (end : DataSetEnd) (n : ℕ) (w u v x : Compilation) → is_name head.name ≡ true → n ≤ 60 → IsPlainCondition end.verify × (is_within 1 1000000 end.population ≡ true) → x.within ≡ length w.made + 1 → x.within ≡ next_structure w.made
    → GrowsDrafts o w.made (new_draft (next_structure w.made) (data_set_kind head.restart) head.name w.within) [] x u n → declared_at o u (End end) ≡ Ok v → Adding o w v
unfolding member_at
ends o head end n w u v x named few z at number g k =
    let m = makes o (End end) w.made g.now ([] ++ g.new) u v g.made (g.within ∙ at) (inside_of o u v (End end) (turn_of o u v (End end) k) refl) in
    let out = member_kept o (End end) g.now m.now m.is ∙ g.outside in
    let size = g.items in
    let kept : length m.now.items ≡ length g.now.items = ap length (end_items g.now m.now end m.is) in
    let same : x.within ≡ m.now.number = number ∙ ap (λ (y : Draft). y.number) (sym out) in
    let nm : m.now.name ≡ head.name = ap (λ (y : Draft). y.name) out in
    record {
      new = m.now ∷ g.new;
      made = m.made;
      within = m.within ∙ ap (λ (y : Draft). y.owner) g.outside;
      final = (a_data_set_made (record { restart = head.restart; number = next_structure w.made; owner = w.within; called = head.name; name = rw nm named; outside = out; ended = ended o g.now m.now end g.sofar (omega (arith, size, few)) z.0 z.1 m.is }), g.final);
      some = or_left (m.now.owner == w.within) _ (eq-eqb m.now.owner w.within (ap (λ (y : Draft). y.owner) out));
      closed = (inr (first_in m.now g.new x.within (length g.now.items) kept same g.member), all_in g.new (m.now ∷ g.new) g.new (λ n e. any_right (owned n) (m.now ∷ []) g.new e) g.closed);
    }

data_set_adding : (o : List Draft) (w v : Compilation) (head : DataSetDecl) (ds : List Declaration) (end : DataSetEnd) (n : ℕ) → is_name head.name ≡ true → n ≤ 60 → IsPlainCondition end.verify × (is_within 1 1000000 end.population ≡ true) → length w.made + (1 + structures_in ds) ≤ 200 → Grow o ds n → steps declared_at o w (DataSet head ∷ (ds ++ (End end ∷ []))) ≡ Ok v → Adding o w v
unfolding steps
data_set_adding o w v head ds end n named few z room inner k =
    let a = bind_ok {A = Compilation} {B = Compilation} (declared_at o w (DataSet head)) _ v k in
    let e = opened_by o w a.0 (DataSet head) head refl (turn_of o w a.0 (DataSet head) a.1) in
    let b = steps_split declared_at o a.0 ds (End end ∷ []) v a.2 in
    let d = new_draft (next_structure w.made) (data_set_kind head.restart) head.name w.within in
    let made : a.0.made ≡ w.made ++ d ∷ [] = ap (λ (x : Compilation). x.made) e in
    let within : a.0.within ≡ length w.made + 1 = ap (λ (x : Compilation). x.within) e ∙ omega (arith, room) in
    let size : length a.0.made ≡ length w.made + 1 = ap length made ∙ length-append w.made (d ∷ []) in
    let g = inner w.made d [] a.0 b.0 made within (no_members o (next_structure w.made) (data_set_kind head.restart) head.name w.within) (omega (arith, few)) (omega (arith, size, room)) b.1 in
    ends o head end n w b.0 v a.0 named few z within (ap (λ (x : Compilation). x.within) e) g (one_step declared_at o b.0 (End end) v b.2)

-- ---- what stands in a data set, and at the outside

all_both : (o xs ys : List Draft) → AllByRecursion (Final o) xs → AllByRecursion (Final o) ys → AllByRecursion (Final o) (xs ++ ys)
all_both o [] ys h k = k
all_both o (x ∷ xs) ys h k = (h.0, all_both o xs ys h.1 k)

pub more_structures : (head : DataSetDecl) (ds : List Declaration) (end : DataSetEnd) → structures_in (DataSet head ∷ (ds ++ (End end ∷ []))) ≡ 1 + structures_in ds
more_structures head ds end = let sum = structures-append ds (End end ∷ []) in omega (arith, sum)

further_in : (a m b within : ℕ) (xs ys : List Draft) → b ≡ a + m → (1 ≤ a) ⊎ (list_any (owned within) xs ≡ true) → (1 ≤ b) ⊎ (list_any (owned within) (xs ++ ys) ≡ true)
further_in a m b within xs ys e (inl h) = inl (omega (arith, e, h))
further_in a m b within xs ys e (inr h) = inr (any_left (owned within) xs ys h)

further : (o pre : List Draft) (d : Draft) (post : List Draft) (w u v : Compilation) (n m : ℕ) (a : GrowsDrafts o pre d post w u n) → GrowsDrafts o pre a.now (post ++ a.new) u v m → GrowsDrafts o pre d post w v (n + m)
further o pre d post w u v n m a b =
    let x = a.items in
    let y = b.items in
    record {
      now = b.now;
      new = a.new ++ b.new;
      made = b.made ∙ ap (λ (l : List Draft). pre ++ b.now ∷ l) (append_assoc post a.new b.new);
      within = b.within ∙ a.within;
      outside = b.outside ∙ a.outside;
      sofar = b.sofar;
      items = omega (arith, x, y);
      final = all_both o a.new b.new a.final b.final;
      member = further_in (length a.now.items) m (length b.now.items) w.within a.new b.new y a.member;
      closed = both_closed a.new b.new a.closed b.closed;
    }

grow : (k : Many) (depth n : ℕ) (ds : List Declaration) (us : List Lexeme) → Members k depth n ds us → (o : List Draft) → Grow o ds n
grow _ _ _ _ _ (a_set depth l name s vs deep e named z) o pre d post w v is at h room few k = adding_grows o pre d post w v is h (set_adding o w v s (set_written l.place name s vs named z) k)
grow _ _ _ _ _ (a_data_set depth l name head hs n ds us end es deep e named z members low y) o pre d post w v is at h room few k =
    let size : structures_in (DataSet head ∷ (ds ++ (End end ∷ []))) ≡ 1 + structures_in ds = more_structures head ds end in
    adding_grows o pre d post w v is h (data_set_adding o w v head ds end n (rw (head_name l.place name head _ z) named) low (end_written end es y) (omega (arith, few, size)) (grow _ (suc depth) n ds us members o) k)
grow _ _ _ _ _ (an_item depth l name i vs e named z) o pre d post w v is at h room few k = item_grows o pre d post w v i (item_written l.place name i _ z named) is at h k
grow _ _ _ _ _ (a_link depth l name i vs e named z) o pre d post w v is at h room few k = link_grows o pre d post w v i (rw (link_name l.place name i _ z) named) is at h k
grow _ _ _ _ _ (a_group depth l name items vs e named z) o pre d post w v is at h room few k = group_grows o pre d post w v (record { place = l.place; name = name; items = items }) named (group_written items vs z) room is at h k
grow _ _ _ _ _ (a_first depth n ds us m) o pre d post w v is at h room few k = grow _ depth n ds us m o pre d post w v is at h room few k
grow _ _ _ _ _ (a_further depth n m ds es us vs x y) o pre d post w v is at h room few k =
    let b = steps_split declared_at o w ds es v k in
    let sum = structures-append ds es in
    let a = grow _ depth n ds us x o pre d post w b.0 is at h (omega (arith, room)) (omega (arith, few, sum)) b.1 in
    let size = a.items in
    let count = counts o w ds b.0 b.1 in
    further o pre d post w b.0 v n m a (grow _ depth m es vs y o pre a.now (post ++ a.new) b.0 v a.made (a.within ∙ at) a.sofar (omega (arith, room, size)) (omega (arith, few, sum, count)) b.2)

-- what stands at the outside
outside_adding : (k : Many) (depth n : ℕ) (ds : List Declaration) (us : List Lexeme) → Members k depth n ds us → k ≡ Single → depth ≡ 0 → (o : List Draft) (w v : Compilation) → length w.made + structures_in ds ≤ 200 → steps declared_at o w ds ≡ Ok v → Adding o w v
outside_adding _ _ _ _ _ (a_set depth l name s vs deep e named z) one none o w v few k = set_adding o w v s (set_written l.place name s vs named z) k
outside_adding _ _ _ _ _ (a_data_set depth l name head hs n ds us end es deep e named z members low y) one none o w v few k =
    let size : structures_in (DataSet head ∷ (ds ++ (End end ∷ []))) ≡ 1 + structures_in ds = more_structures head ds end in
    data_set_adding o w v head ds end n (rw (head_name l.place name head _ z) named) low (end_written end es y) (omega (arith, few, size)) (grow _ (suc depth) n ds us members o) k
outside_adding _ _ _ _ _ (an_item depth l name i vs e named z) one none o w v few k = absurd (omega (arith, none))
outside_adding _ _ _ _ _ (a_link depth l name i vs e named z) one none o w v few k = absurd (omega (arith, none))
outside_adding _ _ _ _ _ (a_group depth l name items vs e named z) one none o w v few k = absurd (omega (arith, none))
outside_adding _ _ _ _ _ (a_first depth n ds us m) one none o w v few k = absurd (cc)
outside_adding _ _ _ _ _ (a_further depth n m ds es us vs x y) one none o w v few k = absurd (cc)

-- each structure of a text is sound by itself, and each data set has a member
pub all_final : (p : Parameters) (b a : Bool) (ds : List Declaration) (us : List Lexeme) → Declares p b a ds us → (o : List Draft) (v : Compilation) → structures_in ds ≤ 200 → steps declared_at o nothing_yet ds ≡ Ok v → AllByRecursion (Final o) v.made × AllByRecursion (HasIn v.made) v.made
unfolding steps
all_final _ _ _ _ _ no_declaration o v few k = subst (λ (x : Compilation). AllByRecursion (Final o) x.made × AllByRecursion (HasIn x.made) x.made) (ok_same nothing_yet v k) (tt, tt)
all_final _ _ _ _ _ (then_parameters p a ds us said vs d q) o v few k = all_final p false a ds us d o v few k
all_final _ _ _ _ _ (then_audit p b ds us said vs d q) o v few k = all_final p b false ds us d o v few k
all_final _ _ _ _ _ (then_structure p b a ds us es vs d m) o v few k =
    let x = steps_split declared_at o nothing_yet ds es v k in
    let sum = structures-append ds es in
    let h = all_final p b a ds us d o x.0 (omega (arith, few, sum)) x.1 in
    let count = counts o nothing_yet ds x.0 x.1 in
    let g = outside_adding _ _ _ es vs m refl refl o x.0 v (omega (arith, few, sum, count)) x.2 in
    subst (λ (l : List Draft). AllByRecursion (Final o) l × AllByRecursion (HasIn l) l) (sym g.made) (all_both o x.0.made g.new h.0 g.final, both_closed x.0.made g.new h.1 g.closed)
