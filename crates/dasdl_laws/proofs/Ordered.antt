-- The structures are numbered in their order, no name stands twice, and there is one restart data set.
use Rattle.std.proofs.Common.{◌≡◌, ◌≤◌, ◌+◌, ℕ, min, List, [], ◌∷◌, ◌++◌, map, length, Bool, true, false, cond, refl, sym, ap, subst, ◌∙◌, arith, length-append}
use Rattle.std.proofs.lemmas.List.{map-append, length-map}
use Rattle.std.proofs.lemmas.Bool.Decides.{nat_tests}
use Rattle.std.specs.Prelude.{◌&&◌, ◌||◌, not, ◌==◌}
use Rattle.std.specs.List.{list_all, list_any}
use Rattle.std.specs.Str.{bytes_eq}
use Rattle.dms_base.specs.declared.kind.StructureKind.TheVariants.{Set, AutomaticSubset, ManualSubset}
use Rattle.dms_desc.specs.Shape.{Shape, kind_number}
use Rattle.dms_desc_bytes.specs.Lists.{apart, is_within}
use Rattle.dms_desc_bytes.proofs.Numbered.{kind_within}
use Rattle.dms_desc.specs.Kinds.{is_restart}
use Rattle.dms_desc_bytes.specs.WellFormed.{stand_in_order, names_differ, not_both_restart}
use Rattle.dasdl_parse.specs.declared.declarations.Declaration.{Declaration}
use Rattle.dasdl_parse.specs.declared.declarations.SetDecl.{SetDecl}
use Rattle.dasdl_grammar.specs.SchemaSpelling.{structures_of, structures_in}
use Rattle.dasdl_compile.specs.declared.draft.Draft.{Draft}
use Rattle.dasdl_compile.specs.declared.work.Compilation.{Compilation}
use Rattle.dasdl_compile.specs.Answers.{steps}
use Rattle.dasdl_compile.specs.Compile.{declared_at, nothing_yet, shape_in}
use Rattle.dasdl_compile.specs.Finding.{next_structure, is_structure, has_restart}
use Rattle.dasdl_compile.specs.Sets.{set_kind}
use Rattle.dasdl_compile.specs.Sets.{set_draft}
use Rattle.dasdl_compile.specs.Outlines.{data_set_kind}
use Rattle.dasdl_compile.specs.Finding.{new_draft}
use Rattle.std.specs.declared.result.Result.TheVariants.{Ok}
use Rattle.std.specs.Prelude.{is_some}
use Rattle.std.proofs.Common.{inl, inr, ◌⊎◌}
use Rattle.std.proofs.lemmas.Bool.{and_parts, and_from}
use Rattle.dasdl_laws.proofs.Judging.{bind_ok, ok_same, steps_keep}
use Rattle.dasdl_laws.proofs.Turns.{outer, DraftTurn, turn_of, inside_kept}
use Rattle.dasdl_laws.proofs.Turns.DraftTurn.{inside, data_set, a_set}

-- ---- lists of which each two differ

all_map : {A B : Type 0} (p q : B → Bool) (f g : A → B) → ((y : A) → p (f y) ≡ q (g y)) → (ys : List A) → list_all p (map f ys) ≡ list_all q (map g ys)
all_map p q f g e [] = refl
all_map p q f g e (y ∷ ys) = rw (e y, all_map p q f g e ys) refl

pub apart_map : {A B : Type 0} (differs : B → B → Bool) (f g : A → B) → ((x y : A) → differs (f x) (f y) ≡ differs (g x) (g y)) → (xs : List A) → apart differs (map f xs) ≡ apart differs (map g xs)
apart_map differs f g same [] = refl
apart_map differs f g same (x ∷ xs) = rw (apart_map differs f g same xs, all_map (differs (f x)) (differs (g x)) f g (same x) xs) refl

pub all_push : {A : Type 0} (p : A → Bool) (xs : List A) (y : A) → list_all p xs ≡ true → p y ≡ true → list_all p (xs ++ y ∷ []) ≡ true
all_push p [] y h e = and_from (p y) true e refl
all_push p (x ∷ xs) y h e = let a = and_parts (p x) (list_all p xs) h in and_from _ _ a.0 (all_push p xs y a.1 e)

pub apart_push : {A : Type 0} (differs : A → A → Bool) (xs : List A) (y : A) → apart differs xs ≡ true → list_all (λ (x : A). differs x y) xs ≡ true → apart differs (xs ++ y ∷ []) ≡ true
apart_push differs [] y h e = refl
apart_push differs (x ∷ xs) y h e =
    let a = and_parts (list_all (differs x) xs) (apart differs xs) h in
    let b = and_parts (differs x y) _ e in
    and_from _ _ (all_push (differs x) xs y a.0 b.0) (apart_push differs xs y a.1 b.1)

-- ---- what is looked up outside of data sets

names_outer : (name : List ℕ) (ds : List Draft) → is_structure name (map outer ds) ≡ is_structure name ds
unfolding is_structure
names_outer name [] = refl
names_outer name (d ∷ ds) = ap (λ (b : Bool). cond (bytes_eq d.name name) true b) (names_outer name ds)

restart_outer : (ds : List Draft) → has_restart (map outer ds) ≡ has_restart ds
unfolding has_restart
restart_outer [] = refl
restart_outer (d ∷ ds) = ap (λ (b : Bool). cond (kind_number d.kind == 2) true b) (restart_outer ds)

pub or_none : (a b : Bool) → cond a true b ≡ false → (a ≡ false) × (b ≡ false)
or_none true b h = absurd (cc)
or_none false b h = (refl, h)

none_named : (name : List ℕ) (ds : List Draft) (s : Shape) → s.name ≡ name → is_structure name ds ≡ false → list_all (λ (x : Shape). names_differ x s) (map shape_in ds) ≡ true
unfolding is_structure
none_named name [] s e h = refl
none_named name (d ∷ ds) s e h =
    let a = or_none (bytes_eq d.name name) (is_structure name ds) h in
    and_from _ _ (ap (λ (n : List ℕ). not (bytes_eq d.name n)) e ∙ ap not a.0) (none_named name ds s e a.1)

none_restart : (ds : List Draft) (s : Shape) → has_restart ds ≡ false → list_all (λ (x : Shape). not_both_restart x s) (map shape_in ds) ≡ true
unfolding has_restart
none_restart [] s h = refl
none_restart (d ∷ ds) s h =
    let a = or_none (kind_number d.kind == 2) (has_restart ds) h in
    and_from _ _ (ap (λ (b : Bool). not (b && s.kind == 2)) a.0) (none_restart ds s a.1)

not_second : (a : Bool) → not (a && false) ≡ true
not_second true = refl
not_second false = refl

others : (ds : List Draft) (s : Shape) → (s.kind == 2) ≡ false → list_all (λ (x : Shape). not_both_restart x s) (map shape_in ds) ≡ true
others [] s e = refl
others (d ∷ ds) s e = and_from _ _ (ap (λ (b : Bool). not (kind_number d.kind == 2 && b)) e ∙ not_second (kind_number d.kind == 2)) (others ds s e)

-- ---- numbers

abbrev pub Numbers : ℕ → List Draft → Type 0
Numbers n [] = Unit {0}
Numbers n (d ∷ ds) = (d.number ≡ min n 65535) × Numbers (n + 1) ds

numbers_push : (n : ℕ) (ds : List Draft) (d : Draft) → Numbers n ds → d.number ≡ min (length ds + n) 65535 → Numbers n (ds ++ d ∷ [])
numbers_push n [] d h e = (e ∙ ap (λ (k : ℕ). min k 65535) (omega arith), tt)
numbers_push n (x ∷ xs) d h e = (h.0, numbers_push (n + 1) xs d h.1 (e ∙ ap (λ (k : ℕ). min k 65535) (omega arith)))

is_itself : (a b : ℕ) → a ≡ b → (a == b) ≡ true
is_itself a b e = grind (arith, nat_tests)

numbers_are : (n : ℕ) (ds : List Draft) → Numbers n ds → n + length ds ≤ 65536 → stand_in_order n (map shape_in ds) ≡ true
numbers_are n [] h low = refl
numbers_are n (d ∷ ds) h low =
    let e : d.number ≡ n = omega (arith, h.0) in
    and_from _ _ (is_itself d.number n e) (numbers_are (n + 1) ds h.1 (omega arith))

-- ---- the structures so far

-- what holds of structures, whatever their members and ends say
pub record Ordered (os : List Draft) : Type 0 where
  pub names : apart names_differ (map shape_in os) ≡ true
  pub restarts : apart not_both_restart (map shape_in os) ≡ true
  pub numbers : Numbers 1 os

one_restart : (os : List Draft) (d : Draft) → ((kind_number d.kind == 2) ≡ false) ⊎ (has_restart os ≡ false) → list_all (λ (x : Shape). not_both_restart x (shape_in d)) (map shape_in os) ≡ true
one_restart os d (inl e) = others os (shape_in d) e
one_restart os d (inr e) = none_restart os (shape_in d) e

added : (os : List Draft) (d : Draft) → Ordered os → is_structure d.name os ≡ false → ((kind_number d.kind == 2) ≡ false) ⊎ (has_restart os ≡ false) → d.number ≡ min (length os + 1) 65535 → Ordered (os ++ d ∷ [])
added os d h new once n =
    let e : map shape_in (os ++ d ∷ []) ≡ map shape_in os ++ shape_in d ∷ [] = map-append shape_in os (d ∷ []) in
    record {
      names = subst (λ (ss : List Shape). apart names_differ ss ≡ true) (sym e) (apart_push names_differ (map shape_in os) (shape_in d) h.names (none_named d.name os (shape_in d) refl new));
      restarts = subst (λ (ss : List Shape). apart not_both_restart ss ≡ true) (sym e) (apart_push not_both_restart (map shape_in os) (shape_in d) h.restarts (one_restart os d once));
      numbers = numbers_push 1 os d h.numbers n;
    }

once_outer : (ds : List Draft) (d : Draft) → ((kind_number d.kind == 2) ≡ false) ⊎ (has_restart ds ≡ false) → ((kind_number d.kind == 2) ≡ false) ⊎ (has_restart (map outer ds) ≡ false)
once_outer ds d (inl e) = inl e
once_outer ds d (inr e) = inr (restart_outer ds ∙ e)

-- one more structure, in a list with members
added_to : (ds : List Draft) (d : Draft) → Ordered (map outer ds) → is_structure d.name ds ≡ false → ((kind_number d.kind == 2) ≡ false) ⊎ (has_restart ds ≡ false) → d.number ≡ next_structure ds → Ordered (map outer (ds ++ d ∷ []))
added_to ds d h new once n =
    subst (λ (os : List Draft). Ordered os) (sym (map-append outer ds (d ∷ [])))
    (added (map outer ds) (outer d) h (names_outer d.name ds ∙ new) (once_outer ds d once) (n ∙ ap (λ (k : ℕ). min (k + 1) 65535) (sym (length-map ds outer))))

data_set_once : (b r : Bool) → b && r ≡ false → ((kind_number (data_set_kind b) == 2) ≡ false) ⊎ (r ≡ false)
data_set_once true r h = inr h
data_set_once false r h = inl refl

by_words : (a b : Bool) → (kind_number (cond (not a) Set (cond b AutomaticSubset ManualSubset)) == 2) ≡ false
by_words true true = refl
by_words true false = refl
by_words false b = refl

set_is_none : (s : SetDecl) → (kind_number (set_kind s) == 2) ≡ false
set_is_none s = by_words s.subset (is_some s.cond)

pub turned : (o : List Draft) (w v : Compilation) (decl : Declaration) → DraftTurn o w v decl → Ordered (map outer w.made) → Ordered (map outer v.made)
turned o w v _ (inside decl none i) h = subst Ordered (sym (inside_kept o decl w v i)) h
turned o w v _ (data_set s new placed once e) h =
    subst (λ (x : Compilation). Ordered (map outer x.made)) (sym e)
    (added_to w.made (new_draft (next_structure w.made) (data_set_kind s.restart) s.name w.within) h new (data_set_once s.restart (has_restart w.made) once) refl)
turned o w v _ (a_set s d p new of placed read key e) h =
    subst (λ (x : Compilation). Ordered (map outer x.made)) (sym e)
    (added_to w.made (set_draft w s d p) h new (inl (set_is_none s)) refl)

ordered : (o : List Draft) (decls : List Declaration) (w : Compilation) → steps declared_at o nothing_yet decls ≡ Ok w → Ordered (map outer w.made)
ordered o decls w h =
    steps_keep (λ (x : Compilation). Ordered (map outer x.made)) declared_at o (λ s t d p e. turned o s t d (turn_of o s t d e) p) nothing_yet decls w (record { names = refl; restarts = refl; numbers = tt }) h

-- ---- how many there are

pub grown : (o : List Draft) (w v : Compilation) (decl : Declaration) → DraftTurn o w v decl → length v.made ≡ length w.made + structures_of decl
grown o w v _ (inside decl none i) =
    let e = ap length (inside_kept o decl w v i) in
    omega (arith, e, none, length-map v.made outer, length-map w.made outer)
grown o w v _ (data_set s new placed once e) =
    ap (λ (x : Compilation). length x.made) e ∙ length-append w.made (new_draft (next_structure w.made) (data_set_kind s.restart) s.name w.within ∷ [])
grown o w v _ (a_set s d p new of placed read key e) =
    ap (λ (x : Compilation). length x.made) e ∙ length-append w.made (set_draft w s d p ∷ [])

pub counts : (o : List Draft) (w : Compilation) (decls : List Declaration) (v : Compilation) → steps declared_at o w decls ≡ Ok v → length v.made ≡ length w.made + structures_in decls
unfolding steps
counts o w [] v h =
    let e = ap (λ (x : Compilation). length x.made) (ok_same w v h) in
    omega (arith, e)
counts o w (d ∷ ds) v h =
    let a = bind_ok {A = Compilation} {B = Compilation} (declared_at o w d) _ v h in
    omega (arith, grown o w a.0 d (turn_of o w a.0 d a.1), counts o a.0 ds v a.2)

-- ---- what a description has

map_map : {A B C : Type 0} (f : B → C) (g : A → B) (xs : List A) → map f (map g xs) ≡ map (λ (x : A). f (g x)) xs
map_map f g [] = refl
map_map {A} {B} {C} f g (x ∷ xs) = ap (λ (cs : List C). f (g x) ∷ cs) (map_map f g xs)

names_kept : (ds : List Draft) → apart names_differ (map shape_in (map outer ds)) ≡ apart names_differ (map shape_in ds)
names_kept ds = ap (apart names_differ) (map_map shape_in outer ds) ∙ apart_map names_differ (λ (d : Draft). shape_in (outer d)) shape_in (λ _ _. refl) ds

restarts_kept : (ds : List Draft) → apart not_both_restart (map shape_in (map outer ds)) ≡ apart not_both_restart (map shape_in ds)
restarts_kept ds = ap (apart not_both_restart) (map_map shape_in outer ds) ∙ apart_map not_both_restart (λ (d : Draft). shape_in (outer d)) shape_in (λ _ _. refl) ds

numbers_kept : (n : ℕ) (ds : List Draft) → Numbers n (map outer ds) → Numbers n ds
numbers_kept n [] h = tt
numbers_kept n (d ∷ ds) h = (h.0, numbers_kept (n + 1) ds h.1)

same_or : (a b c : Bool) → b ≡ c → cond a true b ≡ (a || c)
same_or true b c e = refl
same_or false b c e = e

some_restart : (ds : List Draft) → has_restart ds ≡ list_any is_restart (map shape_in ds)
unfolding has_restart
some_restart [] = refl
some_restart (d ∷ ds) = same_or (kind_number d.kind == 2) _ _ (some_restart ds)

-- the structures of a description, by what is seen of them from outside
pub record WellOrdered (ss : List Shape) : Type 0 where
  pub few : length ss ≤ 200
  pub numbers : stand_in_order 1 ss ≡ true
  pub names : apart names_differ ss ≡ true
  pub restart : list_any is_restart ss ≡ true
  pub restarts : apart not_both_restart ss ≡ true

pub well_ordered : (o : List Draft) (decls : List Declaration) (w : Compilation) → steps declared_at o nothing_yet decls ≡ Ok w → structures_in decls ≤ 200 → has_restart w.made ≡ true → WellOrdered (map shape_in w.made)
well_ordered o decls w h few some =
    let k = ordered o decls w h in
    let n = counts o nothing_yet decls w h in
    record {
      few = omega (arith, n, few, length-map w.made shape_in);
      numbers = numbers_are 1 w.made (numbers_kept 1 w.made k.numbers) (omega (arith, n, few));
      names = sym (names_kept w.made) ∙ k.names;
      restart = sym (some_restart w.made) ∙ some;
      restarts = sym (restarts_kept w.made) ∙ k.restarts;
    }

-- ---- kinds

abbrev pub has_kind : Shape → Bool
has_kind s = is_within 1 5 s.kind

pub have_kinds : (ds : List Draft) → list_all has_kind (map shape_in ds) ≡ true
have_kinds [] = refl
have_kinds (d ∷ ds) = and_from _ _ (kind_within d.kind) (have_kinds ds)
