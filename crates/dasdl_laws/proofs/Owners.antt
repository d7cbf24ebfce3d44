-- Each structure stands in none, or in a data set before it.
use Rattle.std.proofs.Common.{◌≡◌, ◌≤◌, ◌<◌, ◌+◌, ◌-◌, ◌⊎◌, inl, inr, ℕ, suc, zero, List, [], ◌∷◌, ◌++◌, map, length, Bool, true, false, cond, refl, sym, ap, subst, ◌∙◌, arith}
use Rattle.std.proofs.lemmas.Bool.{lt-ltb, or_right, and_from}
use Rattle.std.proofs.lemmas.List.{map-append, length-map}
use Rattle.std.proofs.lemmas.Option.{slice_get-map, slice_get_within}
use Rattle.std.specs.Prelude.{◌&&◌, ◌||◌, ◌==◌, nat_lt, slice_get, Some, None}
use Rattle.std.specs.List.{list_all, AllByRecursion}
use Rattle.std.specs.Option.{option_map}
use Rattle.std.specs.declared.option.Option.{Option}
use Rattle.std.specs.declared.result.Result.TheVariants.{Ok}
use Rattle.dms_desc.specs.Shape.{Shape, kind_number}
use Rattle.dms_desc.specs.Lookups.{structure_at}
use Rattle.dms_desc_bytes.specs.Finding.{kind_in, kind_of}
use Rattle.dms_desc_bytes.specs.Spelling.{is_data_set}
use Rattle.dasdl_parse.specs.declared.declarations.Declaration.{Declaration}
use Rattle.dasdl_parse.specs.declared.declarations.Declaration.TheVariants.{DataSet, Item, Group, Link, SetOf, End}
use Rattle.dasdl_grammar.specs.SchemaSpelling.{structures_of, structures_in}
use Rattle.dasdl_compile.specs.declared.draft.Draft.{Draft}
use Rattle.dasdl_compile.specs.declared.work.Compilation.{Compilation}
use Rattle.dasdl_compile.specs.Answers.{steps}
use Rattle.dasdl_compile.specs.Compile.{declared_at, nothing_yet, shape_in}
use Rattle.dasdl_compile.specs.Finding.{new_draft, next_structure}
use Rattle.dasdl_compile.specs.Members.{open_after}
use Rattle.dasdl_compile.specs.Outlines.{data_set_kind}
use Rattle.dasdl_compile.specs.Sets.{set_draft}
use Rattle.dasdl_laws.specs.Together.{is_within_earlier}
use Rattle.dasdl_laws.proofs.Alone.{kind_is}
use Rattle.dasdl_laws.proofs.Judging.{bind_ok, ok_same}
use Rattle.dasdl_laws.proofs.Ordered.{grown}
use Rattle.dasdl_laws.proofs.Sets.{final_at}
use Rattle.dasdl_laws.proofs.Together.{mapped, ne_zero}
use Rattle.dasdl_laws.proofs.Turns.{outer, DraftTurn, Inside, turn_of, inside_kept}
use Rattle.dasdl_laws.proofs.Turns.DraftTurn.{inside, data_set, a_set}
use Rattle.dasdl_laws.proofs.Turns.Inside.{untouched, changed}

-- number n is that of a data set
pub record RefAt (os : List Draft) (n : ℕ) : Type 0 where
  pub to : Draft
  pub at : slice_get os (n - 1) ≡ Some to
  pub from : 1 ≤ n
  pub kind : is_data_set (kind_number to.kind) ≡ true

abbrev pub Ref : List Draft → ℕ → Type 0
Ref os n = (n ≡ 0) ⊎ RefAt os n

pub got_more : (xs ys : List Draft) (k : ℕ) (x : Draft) → slice_get xs k ≡ Some x → slice_get (xs ++ ys) k ≡ Some x
got_more [] ys k x h = absurd (cc)
got_more (z ∷ zs) ys zero x h = h
got_more (z ∷ zs) ys (suc k) x h = got_more zs ys k x h

pub got_last : (xs : List Draft) (x : Draft) → slice_get (xs ++ x ∷ []) (length xs) ≡ Some x
got_last [] x = refl
got_last (z ∷ zs) x = got_last zs x

ref_more : (os more : List Draft) (n : ℕ) → Ref os n → Ref (os ++ more) n
ref_more os more n (inl e) = inl e
ref_more os more n (inr r) = inr (record { to = r.to; at = got_more os more (n - 1) r.to r.at; from = r.from; kind = r.kind })

ref_low : (os : List Draft) (n : ℕ) → Ref os n → n ≤ length os
ref_low os n (inl e) = omega (arith, e)
ref_low os n (inr r) = let low = slice_get_within os (n - 1) r.to r.at in omega (arith, low)

abbrev pub Stand : List Draft → Draft → Type 0
Stand os d = Ref os d.owner × (d.owner < d.number)

stands_more : (os more ds : List Draft) → AllByRecursion (Stand os) ds → AllByRecursion (Stand (os ++ more)) ds
stands_more os more [] h = tt
stands_more os more (d ∷ ds) h = ((ref_more os more d.owner h.0.0, h.0.1), stands_more os more ds h.1)

pub push : (P : Draft → Type 0) (ds : List Draft) (d : Draft) → AllByRecursion P ds → P d → AllByRecursion P (ds ++ d ∷ [])
push P [] d h k = (k, tt)
push P (x ∷ xs) d h k = (h.0, push P xs d h.1 k)

pub record Standing (os : List Draft) (within : ℕ) : Type 0 where
  pub all : AllByRecursion (Stand os) os
  pub around : Ref os within

one_more : (os : List Draft) (within : ℕ) (d : Draft) → Standing os within → d.owner ≡ within → d.number ≡ length os + 1 → AllByRecursion (Stand (os ++ d ∷ [])) (os ++ d ∷ [])
one_more os within d h e n =
    let low = ref_low os within h.around in
    push (Stand (os ++ d ∷ [])) os d (stands_more os (d ∷ []) os h.all) (subst (λ (k : ℕ). Ref (os ++ d ∷ []) k) (sym e) (ref_more os (d ∷ []) within h.around), omega (arith, low, e, n))

pub open_ref : (P : ℕ → Type 0) (decl : Declaration) (a b : ℕ) → P a → P b → P (open_after decl a b)
open_ref P (End e) a b h k = h
open_ref P (Item i) a b h k = k
open_ref P (Group g) a b h k = k
open_ref P (Link l) a b h k = k
open_ref P (DataSet s) a b h k = k
open_ref P (SetOf s) a b h k = k

inside_stands : (o : List Draft) (decl : Declaration) (w v : Compilation) → Inside o decl w v → Standing (map outer w.made) w.within → Standing (map outer v.made) v.within
inside_stands o decl w v (untouched none e) h = subst (λ (x : Compilation). Standing (map outer x.made) x.within) (sym e) h
inside_stands o decl w v (changed d t at g e) h =
    let there : slice_get (map outer w.made) (w.within - 1) ≡ Some (outer d) = slice_get-map outer w.made (w.within - 1) ∙ ap (option_map outer) at in
    let owner = (final_at (Stand (map outer w.made)) (map outer w.made) (w.within - 1) (outer d) h.all there).0 in
    let within : v.within ≡ open_after decl d.owner w.within = ap (λ (x : Compilation). x.within) e in
    let kept = inside_kept o decl w v (changed d t at g e) in
    subst (λ (os : List Draft). Standing os v.within) (sym kept)
    (subst (λ (n : ℕ). Standing (map outer w.made) n) (sym within)
    (record { all = h.all; around = open_ref (Ref (map outer w.made)) decl d.owner w.within owner h.around }))

pub turn_stands : (o : List Draft) (w v : Compilation) (decl : Declaration) → length w.made + structures_of decl ≤ 200 → DraftTurn o w v decl → Standing (map outer w.made) w.within → Standing (map outer v.made) v.within
turn_stands o w v _ few (inside decl none i) h = inside_stands o decl w v i h
turn_stands o w v _ few (data_set s new placed once e) h =
    let d = new_draft (next_structure w.made) (data_set_kind s.restart) s.name w.within in
    let os = map outer w.made in
    let size : length os ≡ length w.made = length-map w.made outer in
    let n : next_structure w.made ≡ length os + 1 = omega (arith, few, size) in
    let at : next_structure w.made - 1 ≡ length os = omega (arith, n) in
    let last : slice_get (os ++ d ∷ []) (next_structure w.made - 1) ≡ Some d = ap (λ (k : ℕ). slice_get (os ++ d ∷ []) k) at ∙ got_last os d in
    let made : map outer (w.made ++ d ∷ []) ≡ os ++ d ∷ [] = map-append outer w.made (d ∷ []) in
    let here : Standing (os ++ d ∷ []) (next_structure w.made) = record { all = one_more os w.within d h refl n; around = inr (record { to = d; at = last; from = omega (arith, n); kind = kind_is s.restart }) } in
    subst (λ (x : Compilation). Standing (map outer x.made) x.within) (sym e) (subst (λ (l : List Draft). Standing l (next_structure w.made)) (sym made) here)
turn_stands o w v _ few (a_set s d p new of placed read key e) h =
    let t = set_draft w s d p in
    let os = map outer w.made in
    let size : length os ≡ length w.made = length-map w.made outer in
    let n : next_structure w.made ≡ length os + 1 = omega (arith, few, size) in
    let made : map outer (w.made ++ t ∷ []) ≡ os ++ outer t ∷ [] = map-append outer w.made (t ∷ []) in
    let here : Standing (os ++ outer t ∷ []) w.within = record { all = one_more os w.within (outer t) h refl n; around = ref_more os (outer t ∷ []) w.within h.around } in
    subst (λ (x : Compilation). Standing (map outer x.made) x.within) (sym e) (subst (λ (l : List Draft). Standing l w.within) (sym made) here)

steps_stand : (o : List Draft) (ds : List Declaration) (w v : Compilation) → length w.made + structures_in ds ≤ 200 → Standing (map outer w.made) w.within → steps declared_at o w ds ≡ Ok v → Standing (map outer v.made) v.within
unfolding steps
steps_stand o [] w v few h k = subst (λ (x : Compilation). Standing (map outer x.made) x.within) (ok_same w v k) h
steps_stand o (d ∷ ds) w v few h k =
    let a = bind_ok {A = Compilation} {B = Compilation} (declared_at o w d) _ v k in
    let t = turn_of o w a.0 d a.1 in
    let size = grown o w a.0 d t in
    steps_stand o ds a.0 v (omega (arith, few, size)) (turn_stands o w a.0 d (omega (arith, few)) t h) a.2

earlier : (made : List Draft) (d : Draft) → Ref (map outer made) d.owner → d.owner < d.number → is_within_earlier (map shape_in made) (shape_in d) ≡ true
unfolding kind_of
earlier made d (inl e) low = ap (λ (n : ℕ). n == 0 || (nat_lt n d.number && is_data_set (kind_in (structure_at (map shape_in made) n)))) e
earlier made d (inr r) low =
    let f = mapped outer (slice_get made (d.owner - 1)) r.to (sym (slice_get-map outer made (d.owner - 1)) ∙ r.at) in
    let from = r.from in
    let shape : slice_get (map shape_in made) (d.owner - 1) ≡ Some (shape_in f.0) = slice_get-map shape_in made (d.owner - 1) ∙ ap (option_map shape_in) f.1 in
    let some : (d.owner == 0) ≡ false = ne_zero d.owner (d.owner - 1) (omega (arith, from)) in
    let at : structure_at (map shape_in made) d.owner ≡ Some (shape_in f.0) = ap (λ (b : Bool). cond b None (slice_get (map shape_in made) (d.owner - 1))) some ∙ shape in
    let kind : is_data_set (kind_number f.0.kind) ≡ true = ap (λ (x : Draft). is_data_set (kind_number x.kind)) f.2 ∙ r.kind in
    or_right (d.owner == 0) _ (and_from _ _ (lt-ltb d.owner d.number low) (ap (λ (x : Option Shape). is_data_set (kind_in x)) at ∙ kind))

all_earlier : (made ds : List Draft) → AllByRecursion (Stand (map outer made)) (map outer ds) → list_all (is_within_earlier (map shape_in made)) (map shape_in ds) ≡ true
all_earlier made [] h = refl
all_earlier made (d ∷ ds) h = and_from _ _ (earlier made d h.0.0 h.0.1) (all_earlier made ds h.1)

pub stand_earlier : (o : List Draft) (ds : List Declaration) (w : Compilation) → structures_in ds ≤ 200 → steps declared_at o nothing_yet ds ≡ Ok w → list_all (is_within_earlier (map shape_in w.made)) (map shape_in w.made) ≡ true
stand_earlier o ds w few h =
    all_earlier w.made w.made (steps_stand o ds nothing_yet w (omega (arith, few)) (record { all = tt; around = inl refl }) h).all
