-- No structure stands in the restart data set.
use Rattle.std.proofs.Common.{◌≡◌, ◌≤◌, ◌+◌, ◌-◌, ◌⊎◌, inl, inr, ℕ, suc, zero, List, [], ◌∷◌, ◌++◌, map, length, Bool, true, false, cond, refl, sym, ap, subst, ◌∙◌, arith}
use Rattle.std.proofs.lemmas.Bool.{and_parts, eq-eqb, eqb-true, not-false, both_ways, and_from, not-true}
use Rattle.std.proofs.lemmas.Bool.Decides.{nat_tests}
use Rattle.std.proofs.lemmas.List.{map-append, length-map}
use Rattle.std.proofs.lemmas.Option.{slice_get-map}
use Rattle.std.specs.Prelude.{◌&&◌, ◌||◌, ◌==◌, not, is_some, slice_get, Some, None}
use Rattle.std.specs.List.{list_all, AllByRecursion}
use Rattle.std.specs.Option.{option_map}
use Rattle.std.specs.declared.option.Option.{Option}
use Rattle.std.specs.declared.result.Result.TheVariants.{Ok}
use Rattle.dms_desc.specs.Shape.{Shape, kind_number}
use Rattle.dms_desc.specs.Lookups.{structure_at}
use Rattle.dms_desc_bytes.specs.Finding.{kind_in, kind_of}
use Rattle.dms_desc_bytes.specs.Spelling.{is_data_set}
use Rattle.dms_desc_bytes.specs.WellFormed.{is_open_behind, is_owned_well}
use Rattle.dasdl_parse.specs.declared.declarations.Declaration.{Declaration}
use Rattle.dasdl_parse.specs.declared.declarations.DataSetDecl.{DataSetDecl}
use Rattle.dasdl_parse.specs.declared.declarations.SetDecl.{SetDecl}
use Rattle.dasdl_grammar.specs.SchemaSpelling.{structures_of, structures_in}
use Rattle.dasdl_compile.specs.declared.draft.Draft.{Draft}
use Rattle.dasdl_compile.specs.declared.sets.WhereAndKey.{WhereAndKey}
use Rattle.dasdl_compile.specs.declared.work.Compilation.{Compilation}
use Rattle.dasdl_compile.specs.Answers.{steps}
use Rattle.dasdl_compile.specs.Compile.{is_misplaced as is_data_set_misplaced, declared_at, nothing_yet, shape_in}
use Rattle.dasdl_compile.specs.Finding.{new_draft, next_structure, data_set_named, kind_of as kind_made}
use Rattle.dasdl_compile.specs.Outlines.{data_set_kind}
use Rattle.dasdl_compile.specs.Sets.{set_kind, is_misplaced, set_draft}
use Rattle.dasdl_laws.proofs.Judging.{bind_ok, ok_same}
use Rattle.dasdl_laws.proofs.Ordered.{Numbers, Ordered, turned, grown}
use Rattle.dasdl_laws.proofs.Opened.{OpenedDrafts, Opening, turn_opens, opens}
use Rattle.dasdl_laws.proofs.Opened.Around.{here}
use Rattle.dasdl_laws.proofs.Levels.{LowLevel, AllLow}
use Rattle.dasdl_laws.proofs.Owners.{Ref, Standing, turn_stands, got_more, push}
use Rattle.dasdl_laws.proofs.Sets.{Whole, final_at}
use Rattle.dasdl_laws.proofs.Together.{found_as, mapped, ne_zero}
use Rattle.dasdl_laws.proofs.Turns.{outer, DraftTurn, turn_of, inside_kept}
use Rattle.dasdl_laws.proofs.Turns.DraftTurn.{inside, data_set, a_set}
use Rattle.dasdl_laws.proofs.Trees.{no_data_set}

-- ---- kinds by number

kind_outer : (n : ℕ) (ds : List Draft) → kind_made n (map outer ds) ≡ kind_made n ds
unfolding kind_made
kind_outer n [] = refl
kind_outer n (d ∷ ds) = ap (λ (k : ℕ). cond (d.number == n) (kind_number d.kind) k) (kind_outer n ds)

later : (a n k : ℕ) → a ≡ n → (a == n + suc k) ≡ false
later a n k e = grind (arith, nat_tests)

-- the kind that is looked up by a number is that at its place
kind_at : (n : ℕ) (ds : List Draft) (k : ℕ) (d : Draft) → Numbers n ds → n + length ds ≤ 65536 → slice_get ds k ≡ Some d → kind_made (n + k) ds ≡ kind_number d.kind
unfolding kind_made
kind_at n [] k d h low e = absurd (cc)
kind_at n (x ∷ xs) zero d h low e =
    let one : x ≡ d = cc in
    let number = h.0 in
    let same : (x.number == n + 0) ≡ true = eq-eqb x.number (n + 0) (omega (arith, number, low)) in
    ap (λ (b : Bool). cond b (kind_number x.kind) (kind_made (n + 0) xs)) same ∙ ap (λ (y : Draft). kind_number y.kind) one
kind_at n (x ∷ xs) (suc k) d h low e =
    let number = h.0 in
    let other : (x.number == n + suc k) ≡ false = later x.number n k (omega (arith, number, low)) in
    let next : n + suc k ≡ n + 1 + k = omega arith in
    ap (λ (b : Bool). cond b (kind_number x.kind) (kind_made (n + suc k) xs)) other ∙ ap (λ (m : ℕ). kind_made m xs) next ∙ kind_at (n + 1) xs k d h.1 (omega (arith, low)) e

-- ---- what each structure stands in

-- number n is that of a data set that isn't the restart data set
record OneAt (os : List Draft) (n : ℕ) : Type 0 where
  to : Draft
  at : slice_get os (n - 1) ≡ Some to
  from : 1 ≤ n
  one : kind_number to.kind ≡ 1

-- a set or subset that stands where its data set stands
record FollowsDraft (o : List Draft) (d : Draft) : Type 0 where
  of : Draft
  name : List ℕ
  found : data_set_named name o ≡ Some of
  owner : of.owner ≡ d.owner
  kind : is_data_set (kind_number d.kind) ≡ false

abbrev In : List Draft → ℕ → Type 0
In os n = (n ≡ 0) ⊎ OneAt os n

abbrev DraftPlace : List Draft → List Draft → Draft → Type 0
DraftPlace o os d = In os d.owner ⊎ FollowsDraft o d

in_more : (os more : List Draft) (n : ℕ) → In os n → In (os ++ more) n
in_more os more n (inl e) = inl e
in_more os more n (inr r) = inr (record { to = r.to; at = got_more os more (n - 1) r.to r.at; from = r.from; one = r.one })

place_more : (o os more : List Draft) (d : Draft) → DraftPlace o os d → DraftPlace o (os ++ more) d
place_more o os more d (inl e) = inl (in_more os more d.owner e)
place_more o os more d (inr f) = inr f

places_more : (o os more ds : List Draft) → AllByRecursion (DraftPlace o os) ds → AllByRecursion (DraftPlace o (os ++ more)) ds
places_more o os more [] h = tt
places_more o os more (d ∷ ds) h = (place_more o os more d h.0, places_more o os more ds h.1)

place_push : (o os : List Draft) (d : Draft) → AllByRecursion (DraftPlace o os) os → DraftPlace o os d → AllByRecursion (DraftPlace o (os ++ d ∷ [])) (os ++ d ∷ [])
place_push o os d h k = push (DraftPlace o (os ++ d ∷ [])) os d (places_more o os (d ∷ []) os h) (place_more o os (d ∷ []) d k)

-- ---- what declarations add

record Owning (o : List Draft) (w : Compilation) : Type 0 where
  standing : Standing (map outer w.made) w.within
  ordered : Ordered (map outer w.made)
  places : AllByRecursion (DraftPlace o (map outer w.made)) (map outer w.made)
  opening : Opening w

by_first : (a b : Bool) → (a || b) ≡ true → b ≡ false → a ≡ true
by_first true b h e = refl
by_first false b h e = absurd (both_ways b e h)

is_one : (k : ℕ) → is_data_set k ≡ true → (k == 2) ≡ false → k ≡ 1
is_one k h e = eqb-true k 1 (by_first (k == 1) (k == 2) h e)

-- what is open is none, or no restart data set
in_open : (o : List Draft) (w : Compilation) → Owning o w → length w.made ≤ 200 → (r : Ref (map outer w.made) w.within) → (kind_made w.within w.made == 2) ≡ false → In (map outer w.made) w.within
in_open o w h few (inl e) other = inl e
in_open o w h few (inr r) other =
    let size : length (map outer w.made) ≡ length w.made = length-map w.made outer in
    let from = r.from in
    let number : w.within ≡ 1 + (w.within - 1) = omega (arith, from) in
    let kind : kind_made w.within w.made ≡ kind_number r.to.kind = sym (kind_outer w.within w.made) ∙ ap (λ (n : ℕ). kind_made n (map outer w.made)) number ∙ kind_at 1 (map outer w.made) (w.within - 1) r.to h.ordered.numbers (omega (arith, size, few)) r.at in
    let one = is_one (kind_number r.to.kind) r.kind (ap (λ (n : ℕ). n == 2) (sym kind) ∙ other) in
    inr (record { to = r.to; at = r.at; from = r.from; one = one })

neither : (a b : Bool) → (a || b) ≡ false → b ≡ false
neither true b h = absurd (cc)
neither false b h = h

data_set_in : (o : List Draft) (s : DataSetDecl) (w : Compilation) → Owning o w → length w.made ≤ 200 → is_data_set_misplaced s w ≡ false → In (map outer w.made) w.within
unfolding is_data_set_misplaced
data_set_in o s w h few placed = in_open o w h few h.standing.around (neither _ _ placed)

set_by : (q : Bool) (o : List Draft) (w : Compilation) (s : SetDecl) (d : Draft) (p : WhereAndKey) → Owning o w → length w.made ≤ 200 → data_set_named s.of o ≡ Some d → (d.owner == w.within) ≡ q → (q || (kind_number (set_kind s) == 5 && d.owner == 0 && not (kind_made w.within w.made == 2))) ≡ true → DraftPlace o (map outer w.made) (outer (set_draft w s d p))
set_by true o w s d p h few found e k = inr (record { of = d; name = s.of; found = found; owner = eqb-true d.owner w.within e; kind = no_data_set s.subset (is_some s.cond) })
set_by false o w s d p h few found e k = inl (in_open o w h few h.standing.around (not-true _ (and_parts (kind_number (set_kind s) == 5 && d.owner == 0) _ k).1))

set_in : (o : List Draft) (w : Compilation) (s : SetDecl) (d : Draft) (p : WhereAndKey) → Owning o w → length w.made ≤ 200 → data_set_named s.of o ≡ Some d → is_misplaced w s d ≡ false → DraftPlace o (map outer w.made) (outer (set_draft w s d p))
unfolding is_misplaced
set_in o w s d p h few found placed = set_by (d.owner == w.within) o w s d p h few found refl (not-false _ placed)

places_turned : (o : List Draft) (w v : Compilation) (decl : Declaration) → length w.made + structures_of decl ≤ 200 → DraftTurn o w v decl → Owning o w → AllByRecursion (DraftPlace o (map outer v.made)) (map outer v.made)
places_turned o w v _ few (inside decl none i) h = subst (λ (os : List Draft). AllByRecursion (DraftPlace o os) os) (sym (inside_kept o decl w v i)) h.places
places_turned o w v _ few (data_set s new placed once e) h =
    let d = new_draft (next_structure w.made) (data_set_kind s.restart) s.name w.within in
    let made : map outer v.made ≡ map outer w.made ++ d ∷ [] = ap (λ (x : Compilation). map outer x.made) e ∙ map-append outer w.made (d ∷ []) in
    subst (λ (os : List Draft). AllByRecursion (DraftPlace o os) os) (sym made) (place_push o (map outer w.made) d h.places (inl (data_set_in o s w h (omega (arith, few)) placed)))
places_turned o w v _ few (a_set s d p new of placed read key e) h =
    let t = set_draft w s d p in
    let made : map outer v.made ≡ map outer w.made ++ outer t ∷ [] = ap (λ (x : Compilation). map outer x.made) e ∙ map-append outer w.made (t ∷ []) in
    subst (λ (os : List Draft). AllByRecursion (DraftPlace o os) os) (sym made) (place_push o (map outer w.made) (outer t) h.places (set_in o w s d p h (omega (arith, few)) of placed))

steps_own : (o : List Draft) (ds : List Declaration) (w v : Compilation) → length w.made + structures_in ds ≤ 200 → Owning o w → steps declared_at o w ds ≡ Ok v → Owning o v
unfolding steps
steps_own o [] w v few h k = subst (Owning o) (ok_same w v k) h
steps_own o (d ∷ ds) w v few h k =
    let a = bind_ok {A = Compilation} {B = Compilation} (declared_at o w d) _ v k in
    let t = turn_of o w a.0 d a.1 in
    let size = grown o w a.0 d t in
    let room : length w.made + structures_of d ≤ 200 = omega (arith, few) in
    let next : Owning o a.0 = record { standing = turn_stands o w a.0 d room t h.standing; ordered = turned o w a.0 d t h.ordered; places = places_turned o w a.0 d room t h; opening = turn_opens o w a.0 d room t h.standing h.ordered.numbers h.opening } in
    steps_own o ds a.0 v (omega (arith, few, size)) next a.2

-- ---- what a description has

in_one : (made : List Draft) (n : ℕ) → In (map outer made) n → (n == 0 || kind_of (map shape_in made) n == 1) ≡ true
unfolding kind_of
in_one made n (inl e) = ap (λ (m : ℕ). m == 0 || kind_in (structure_at (map shape_in made) m) == 1) e
in_one made n (inr r) =
    let f = mapped outer (slice_get made (n - 1)) r.to (sym (slice_get-map outer made (n - 1)) ∙ r.at) in
    let from = r.from in
    let shape : slice_get (map shape_in made) (n - 1) ≡ Some (shape_in f.0) = slice_get-map shape_in made (n - 1) ∙ ap (option_map shape_in) f.1 in
    let some : (n == 0) ≡ false = ne_zero n (n - 1) (omega (arith, from)) in
    let at : structure_at (map shape_in made) n ≡ Some (shape_in f.0) = ap (λ (b : Bool). cond b None (slice_get (map shape_in made) (n - 1))) some ∙ shape in
    let kind : kind_in (structure_at (map shape_in made) n) ≡ 1 = ap (λ (x : Option Shape). kind_in x) at ∙ ap (λ (x : Draft). kind_number x.kind) f.2 ∙ r.one in
    ap (λ (b : Bool). b || kind_in (structure_at (map shape_in made) n) == 1) some ∙ ap (λ (k : ℕ). k == 1) kind

data_set_place : (o os : List Draft) (d : Draft) → is_data_set (kind_number d.kind) ≡ true → DraftPlace o os d → In os d.owner
data_set_place o os d kind (inl h) = h
data_set_place o os d kind (inr f) = absurd (both_ways (is_data_set (kind_number d.kind)) f.kind kind)

-- where it follows a data set, it stands in what that stands in
place_in : (noted made : List Draft) (d : Draft) → Whole noted made → AllByRecursion (DraftPlace noted (map outer made)) (map outer made) → DraftPlace noted (map outer made) (outer d) → In (map outer made) d.owner
place_in noted made d w all (inl h) = h
place_in noted made d w all (inr f) =
    let g = found_as f.name noted made f.of w.same w.numbers f.found in
    let there : slice_get (map outer made) g.place ≡ Some (outer g.is) = slice_get-map outer made g.place ∙ ap (option_map outer) g.at in
    let owner : g.is.owner ≡ d.owner = ap (λ (x : Draft). x.owner) (sym g.alike) ∙ f.owner in
    subst (In (map outer made)) owner (data_set_place noted (map outer made) (outer g.is) g.kind (final_at (DraftPlace noted (map outer made)) (map outer made) g.place (outer g.is) all there))

both_hold : (a b c : Bool) → (a || b) ≡ true → (a || c) ≡ true → (a || (b && c)) ≡ true
both_hold true b c h k = refl
both_hold false b c h k = and_from b c h k

owned_well : (noted made ds : List Draft) → Whole noted made → AllByRecursion (LowLevel (map outer made)) (map outer made) → AllByRecursion (DraftPlace noted (map outer made)) (map outer made) → AllByRecursion (OpenedDrafts (map outer made)) (map outer ds) → AllByRecursion (DraftPlace noted (map outer made)) (map outer ds) → list_all (is_owned_well (map shape_in made)) (map shape_in ds) ≡ true
unfolding is_owned_well
owned_well noted made [] w low all opened h = refl
owned_well noted made (d ∷ ds) w low all opened h =
    and_from _ _ (both_hold (d.owner == 0) (is_open_behind (map shape_in made) (d.number - 1) d.owner) (kind_of (map shape_in made) d.owner == 1) (opens made (d.number - 1) d.owner low opened.0) (in_one made d.owner (place_in noted made d w all h.0))) (owned_well noted made ds w low all opened.1 h.1)

pub all_owned_well : (o : List Draft) (ds : List Declaration) (w : Compilation) → structures_in ds ≤ 200 → steps declared_at o nothing_yet ds ≡ Ok w → Whole o w.made → AllLow w → list_all (is_owned_well (map shape_in w.made)) (map shape_in w.made) ≡ true
all_owned_well o ds w few k whole low =
    let h = steps_own o ds nothing_yet w (omega (arith, few)) (record { standing = record { all = tt; around = inl refl }; ordered = record { names = refl; restarts = refl; numbers = tt }; places = tt; opening = record { all = tt; last = here 0 } }) k in
    owned_well o w.made w.made whole low h.places h.opening.all h.places
