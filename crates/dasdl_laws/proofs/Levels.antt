-- There are at most three levels of structures.
use Rattle.std.proofs.Common.{◌≡◌, ◌≤◌, ◌<◌, ◌+◌, ◌-◌, ◌⊎◌, inl, inr, ℕ, suc, zero, List, [], ◌∷◌, ◌++◌, map, length, Bool, true, false, cond, refl, sym, ap, subst, ◌∙◌, arith, append_assoc, length-append}
use Rattle.std.proofs.lemmas.Bool.{eq-eqb, and_from}
use Rattle.std.proofs.lemmas.List.{append-nil, map-append, length-map}
use Rattle.std.proofs.lemmas.Option.{slice_get-map}
use Rattle.std.specs.Prelude.{◌==◌, slice_get, Some, None}
use Rattle.std.specs.List.{list_all, AllByRecursion}
use Rattle.std.specs.Option.{option_map}
use Rattle.std.specs.declared.option.Option.{Option}
use Rattle.std.specs.declared.result.Result.TheVariants.{Ok}
use Rattle.dms_desc.specs.Shape.{Shape}
use Rattle.dms_desc.specs.Lookups.{structure_at}
use Rattle.dms_desc_bytes.specs.Finding.{owner_in, owner_of}
use Rattle.dms_desc_bytes.specs.WellFormed.{is_shallow}
use Rattle.dms_tokens.specs.declared.token.Lexeme.{Lexeme}
use Rattle.dasdl_parse.specs.declared.declarations.Declaration.{Declaration}
use Rattle.dasdl_parse.specs.declared.declarations.Declaration.TheVariants.{DataSet, Item, Group, Link, SetOf, End}
use Rattle.dasdl_parse.specs.declared.declarations.DataSetDecl.{DataSetDecl}
use Rattle.dasdl_parse.specs.declared.declarations.DataSetEnd.{DataSetEnd}
use Rattle.dasdl_parse.specs.declared.declarations.SetDecl.{SetDecl}
use Rattle.dasdl_parse.specs.declared.schema.Parameters.{Parameters}
use Rattle.dasdl_grammar.specs.SchemaSpelling.{Members, Many, Declares, structures_of, structures_in}
use Rattle.dasdl_grammar.specs.SchemaSpelling.Declares.{no_declaration, then_parameters, then_audit, then_structure}
use Rattle.dasdl_grammar.specs.SchemaSpelling.Members.{a_set, a_data_set, an_item, a_link, a_group, a_first, a_further}
use Rattle.dasdl_grammar.proofs.SchemaComplete.{structures-append}
use Rattle.dasdl_compile.specs.declared.draft.Draft.{Draft}
use Rattle.dasdl_compile.specs.declared.work.Compilation.{Compilation}
use Rattle.dasdl_compile.specs.Answers.{steps}
use Rattle.dasdl_compile.specs.Compile.{declared_at, nothing_yet, shape_in}
use Rattle.dasdl_compile.specs.Finding.{new_draft, next_structure}
use Rattle.dasdl_compile.specs.Members.{open_after}
use Rattle.dasdl_compile.specs.Outlines.{data_set_kind}
use Rattle.dasdl_compile.specs.Sets.{set_draft}
use Rattle.dasdl_laws.proofs.Judging.{bind_ok, ok_same, steps_split, one_step}
use Rattle.dasdl_laws.proofs.Ordered.{counts}
use Rattle.dasdl_laws.proofs.Owners.{got_more, got_last, push}
use Rattle.dasdl_laws.proofs.Together.{mapped, ne_zero}
use Rattle.dasdl_laws.proofs.Trees.{opened_by, more_structures}
use Rattle.dasdl_laws.proofs.Turns.{outer, DraftTurn, Inside, turn_of, inside_kept}
use Rattle.dasdl_laws.proofs.Turns.DraftTurn.{inside, data_set, a_set as set_added}
use Rattle.dasdl_laws.proofs.Turns.Inside.{untouched, changed}

-- ---- levels

-- number n is 0, or that of a structure that stands in at most k - 1 others
abbrev pub DraftsUpto : ℕ → List Draft → ℕ → Type 0
DraftsUpto zero os n = n ≡ 0
DraftsUpto (suc k) os n = (n ≡ 0) ⊎ ((to : Draft) × (slice_get os (n - 1) ≡ Some to) × (1 ≤ n) × DraftsUpto k os to.owner)

nowhere : (k : ℕ) (os : List Draft) → DraftsUpto k os 0
nowhere zero os = refl
nowhere (suc k) os = inl refl

upto_more : (k : ℕ) (os more : List Draft) (n : ℕ) → DraftsUpto k os n → DraftsUpto k (os ++ more) n
upto_more zero os more n h = h
upto_more (suc k) os more n (inl e) = inl e
upto_more (suc k) os more n (inr r) = inr (r.0, got_more os more (n - 1) r.0 r.1, r.2, upto_more k os more r.0.owner r.3)

upto_next : (k : ℕ) (os : List Draft) (n : ℕ) → DraftsUpto k os n → DraftsUpto (suc k) os n
upto_next zero os n h = inl h
upto_next (suc k) os n (inl e) = inl e
upto_next (suc k) os n (inr r) = inr (r.0, r.1, r.2, upto_next k os r.0.owner r.3)

upto_two : (k : ℕ) (os : List Draft) (n : ℕ) → k < 3 → DraftsUpto k os n → DraftsUpto 2 os n
upto_two zero os n low h = upto_next 1 os n (upto_next 0 os n h)
upto_two (suc zero) os n low h = upto_next 1 os n h
upto_two (suc (suc zero)) os n low h = h
upto_two (suc (suc (suc k))) os n low h = absurd (omega (arith, low))

-- it stands in at most two others
abbrev pub LowLevel : List Draft → Draft → Type 0
LowLevel os d = DraftsUpto 2 os d.owner

low_more : (os more ds : List Draft) → AllByRecursion (LowLevel os) ds → AllByRecursion (LowLevel (os ++ more)) ds
low_more os more [] h = tt
low_more os more (d ∷ ds) h = (upto_more 2 os more d.owner h.0, low_more os more ds h.1)

low_push : (os : List Draft) (d : Draft) → AllByRecursion (LowLevel os) os → LowLevel os d → AllByRecursion (LowLevel (os ++ d ∷ [])) (os ++ d ∷ [])
low_push os d h k = push (LowLevel (os ++ d ∷ [])) os d (low_more os (d ∷ []) os h) (upto_more 2 os (d ∷ []) d.owner k)

-- ---- what declarations add

-- all of them stand in at most two others
abbrev pub AllLow : Compilation → Type 0
AllLow w = AllByRecursion (LowLevel (map outer w.made)) (map outer w.made)

-- structures were added, none too deep
record Nests (w v : Compilation) : Type 0 where
  new : List Draft
  made : map outer v.made ≡ map outer w.made ++ new
  within : v.within ≡ w.within
  low : AllLow v

adds_nothing : (w v : Compilation) → AllLow w → map outer v.made ≡ map outer w.made → v.within ≡ w.within → Nests w v
adds_nothing w v h e within =
    record { new = []; made = e ∙ sym (append-nil (map outer w.made)); within = within; low = subst (λ (os : List Draft). AllByRecursion (LowLevel os) os) (sym e) h }

stays_open : (o : List Draft) (decl : Declaration) (w v : Compilation) → ((a b : ℕ) → open_after decl a b ≡ b) → Inside o decl w v → v.within ≡ w.within
stays_open o decl w v same (untouched none e) = ap (λ (x : Compilation). x.within) e
stays_open o decl w v same (changed d t at g e) = ap (λ (x : Compilation). x.within) e ∙ same d.owner w.within

inside_by : (o : List Draft) (w v : Compilation) (decl : Declaration) → structures_of decl ≡ 0 → DraftTurn o w v decl → Inside o decl w v
inside_by o w v _ none (inside decl nothing i) = i
inside_by o w v _ none (data_set h new placed once e) = absurd (omega (arith, none))
inside_by o w v _ none (set_added t d p new of placed read key e) = absurd (omega (arith, none))

member_nests : (o : List Draft) (decl : Declaration) (w v : Compilation) → structures_of decl ≡ 0 → ((a b : ℕ) → open_after decl a b ≡ b) → AllLow w → steps declared_at o w (decl ∷ []) ≡ Ok v → Nests w v
member_nests o decl w v none same h k =
    let i = inside_by o w v decl none (turn_of o w v decl (one_step declared_at o w decl v k)) in
    adds_nothing w v h (inside_kept o decl w v i) (stays_open o decl w v same i)

set_nests_by : (o : List Draft) (w v : Compilation) (decl : Declaration) (s : SetDecl) → decl ≡ SetOf s → AllLow w → DraftsUpto 2 (map outer w.made) w.within → DraftTurn o w v decl → Nests w v
set_nests_by o w v _ s same h at (inside decl none i) = let one : structures_of (SetOf s) ≡ 0 = subst (λ (x : Declaration). structures_of x ≡ 0) same none in absurd (omega (arith, one))
set_nests_by o w v _ s same h at (data_set t new placed once e) = absurd (cc)
set_nests_by o w v _ s same h at (set_added r d p new of placed read key e) =
    let t = set_draft w r d p in
    let made : map outer v.made ≡ map outer w.made ++ outer t ∷ [] = ap (λ (x : Compilation). map outer x.made) e ∙ map-append outer w.made (t ∷ []) in
    record { new = outer t ∷ []; made = made; within = ap (λ (x : Compilation). x.within) e; low = subst (λ (os : List Draft). AllByRecursion (LowLevel os) os) (sym made) (low_push (map outer w.made) (outer t) h at) }

set_nests : (o : List Draft) (w v : Compilation) (s : SetDecl) → AllLow w → DraftsUpto 2 (map outer w.made) w.within → steps declared_at o w (SetOf s ∷ []) ≡ Ok v → Nests w v
set_nests o w v s h at k = set_nests_by o w v (SetOf s) s refl h at (turn_of o w v (SetOf s) (one_step declared_at o w (SetOf s) v k))

-- ---- data sets

-- the end of a data set opens the one around it
closes : (o : List Draft) (w v : Compilation) (end : DataSetEnd) (d : Draft) → slice_get (map outer w.made) (w.within - 1) ≡ Some d → Inside o (End end) w v → v.within ≡ d.owner
closes o w v end d there (untouched none e) =
    let empty : slice_get (map outer w.made) (w.within - 1) ≡ None = slice_get-map outer w.made (w.within - 1) ∙ ap (option_map outer) none in
    absurd (cc)
closes o w v end d there (changed c t at g e) =
    let found : Some (outer c) ≡ Some d = sym (slice_get-map outer w.made (w.within - 1) ∙ ap (option_map outer) at) ∙ there in
    let one : outer c ≡ d = cc in
    ap (λ (x : Compilation). x.within) e ∙ ap (λ (x : Draft). x.owner) one

-- members of a data set, so many levels deep
abbrev Nest : List Draft → List Declaration → ℕ → Type 0
Nest o ds depth = (w v : Compilation) → length w.made + structures_in ds ≤ 200 → AllLow w → DraftsUpto depth (map outer w.made) w.within → steps declared_at o w ds ≡ Ok v → Nests w v

-- what a data set adds, itself included
around : (os new : List Draft) (d : Draft) (w a b v : Compilation) → map outer w.made ≡ os → map outer a.made ≡ os ++ d ∷ [] → d.owner ≡ w.within → a.within ≡ length os + 1 → Nests a b → map outer v.made ≡ map outer b.made → ((x : Draft) → slice_get (map outer b.made) (b.within - 1) ≡ Some x → v.within ≡ x.owner) → Nests w v
around os new d w a b v before opened owner number h same last =
    let made : map outer b.made ≡ os ++ d ∷ h.new = h.made ∙ ap (λ (l : List Draft). l ++ h.new) opened ∙ append_assoc os (d ∷ []) h.new in
    let n = h.within in
    let at : b.within - 1 ≡ length os = omega (arith, n, number) in
    let there : slice_get (map outer b.made) (b.within - 1) ≡ Some d = ap (λ (l : List Draft). slice_get l (b.within - 1)) (h.made ∙ ap (λ (l : List Draft). l ++ h.new) opened) ∙ got_more (os ++ d ∷ []) h.new (b.within - 1) d (ap (λ (k : ℕ). slice_get (os ++ d ∷ []) k) at ∙ got_last os d) in
    record { new = d ∷ h.new; made = same ∙ made ∙ ap (λ (l : List Draft). l ++ d ∷ h.new) (sym before); within = last d there ∙ owner; low = subst (λ (l : List Draft). AllByRecursion (LowLevel l) l) (sym same) h.low }

data_set_nests : (o : List Draft) (w v : Compilation) (head : DataSetDecl) (ds : List Declaration) (end : DataSetEnd) (depth : ℕ) → depth < 3 → length w.made + (1 + structures_in ds) ≤ 200 → AllLow w → DraftsUpto depth (map outer w.made) w.within → Nest o ds (suc depth) → steps declared_at o w (DataSet head ∷ (ds ++ (End end ∷ []))) ≡ Ok v → Nests w v
unfolding steps
data_set_nests o w v head ds end depth low room h at inner k =
    let a = bind_ok {A = Compilation} {B = Compilation} (declared_at o w (DataSet head)) _ v k in
    let e = opened_by o w a.0 (DataSet head) head refl (turn_of o w a.0 (DataSet head) a.1) in
    let b = steps_split declared_at o a.0 ds (End end ∷ []) v a.2 in
    let d = new_draft (next_structure w.made) (data_set_kind head.restart) head.name w.within in
    let os = map outer w.made in
    let size : length os ≡ length w.made = length-map w.made outer in
    let opened : map outer a.0.made ≡ os ++ d ∷ [] = ap (λ (x : Compilation). map outer x.made) e ∙ map-append outer w.made (d ∷ []) in
    let number : a.0.within ≡ length os + 1 = ap (λ (x : Compilation). x.within) e ∙ omega (arith, room, size) in
    let count : length a.0.made ≡ length w.made + 1 = sym (length-map a.0.made outer) ∙ ap length opened ∙ length-append os (d ∷ []) ∙ ap (λ (n : ℕ). n + 1) size in
    let all : AllLow a.0 = subst (λ (l : List Draft). AllByRecursion (LowLevel l) l) (sym opened) (low_push os d h (upto_two depth os w.within low at)) in
    let place : a.0.within - 1 ≡ length os = omega (arith, number) in
    let there : slice_get (os ++ d ∷ []) (a.0.within - 1) ≡ Some d = ap (λ (n : ℕ). slice_get (os ++ d ∷ []) n) place ∙ got_last os d in
    let deep : DraftsUpto (suc depth) (map outer a.0.made) a.0.within = subst (λ (l : List Draft). DraftsUpto (suc depth) l a.0.within) (sym opened) (inr (d, there, omega (arith, number), upto_more depth os (d ∷ []) w.within at)) in
    let g = inner a.0 b.0 (omega (arith, room, count)) all deep b.1 in
    let i = inside_by o b.0 v (End end) refl (turn_of o b.0 v (End end) (one_step declared_at o b.0 (End end) v b.2)) in
    around os g.new d w a.0 b.0 v refl opened refl number g (inside_kept o (End end) b.0 v i) (λ x there. closes o b.0 v end x there i)

-- ---- what stands in a data set, and at the outside

further : (w u v : Compilation) → Nests w u → Nests u v → Nests w v
further w u v a b =
    record { new = a.new ++ b.new; made = b.made ∙ ap (λ (l : List Draft). l ++ b.new) a.made ∙ append_assoc (map outer w.made) a.new b.new; within = b.within ∙ a.within; low = b.low }

deep_after : (depth : ℕ) (w u : Compilation) → Nests w u → DraftsUpto depth (map outer w.made) w.within → DraftsUpto depth (map outer u.made) u.within
deep_after depth w u a h =
    subst (λ (n : ℕ). DraftsUpto depth (map outer u.made) n) (sym a.within)
    (subst (λ (l : List Draft). DraftsUpto depth l w.within) (sym a.made) (upto_more depth (map outer w.made) a.new w.within h))

nest : (k : Many) (depth n : ℕ) (ds : List Declaration) (us : List Lexeme) → Members k depth n ds us → (o : List Draft) → Nest o ds depth
nest _ _ _ _ _ (a_set depth l name s vs deep e named z) o w v few h at k = set_nests o w v s h (upto_two depth (map outer w.made) w.within deep at) k
nest _ _ _ _ _ (a_data_set depth l name head hs n ds us end es deep e named z members low y) o w v few h at k =
    let size : structures_in (DataSet head ∷ (ds ++ (End end ∷ []))) ≡ 1 + structures_in ds = more_structures head ds end in
    data_set_nests o w v head ds end depth deep (omega (arith, few, size)) h at (nest _ (suc depth) n ds us members o) k
nest _ _ _ _ _ (an_item depth l name i vs e named z) o w v few h at k = member_nests o (Item i) w v refl (λ a b. refl) h k
nest _ _ _ _ _ (a_link depth l name i vs e named z) o w v few h at k = member_nests o (Link i) w v refl (λ a b. refl) h k
nest _ _ _ _ _ (a_group depth l name items vs e named z) o w v few h at k = member_nests o (Group (record { place = l.place; name = name; items = items })) w v refl (λ a b. refl) h k
nest _ _ _ _ _ (a_first depth n ds us m) o w v few h at k = nest _ depth n ds us m o w v few h at k
nest _ _ _ _ _ (a_further depth n m ds es us vs x y) o w v few h at k =
    let b = steps_split declared_at o w ds es v k in
    let sum = structures-append ds es in
    let a = nest _ depth n ds us x o w b.0 (omega (arith, few, sum)) h at b.1 in
    let count = counts o w ds b.0 b.1 in
    further w b.0 v a (nest _ depth m es vs y o b.0 v (omega (arith, few, sum, count)) a.low (deep_after depth w b.0 a at) b.2)

pub declared_low : (p : Parameters) (b a : Bool) (ds : List Declaration) (us : List Lexeme) → Declares p b a ds us → (o : List Draft) (v : Compilation) → structures_in ds ≤ 200 → steps declared_at o nothing_yet ds ≡ Ok v → AllLow v × (v.within ≡ 0)
unfolding steps
declared_low _ _ _ _ _ no_declaration o v few k = subst (λ (x : Compilation). AllLow x × (x.within ≡ 0)) (ok_same nothing_yet v k) (tt, refl)
declared_low _ _ _ _ _ (then_parameters p a ds us said vs d q) o v few k = declared_low p false a ds us d o v few k
declared_low _ _ _ _ _ (then_audit p b ds us said vs d q) o v few k = declared_low p b false ds us d o v few k
declared_low _ _ _ _ _ (then_structure p b a ds us es vs d m) o v few k =
    let x = steps_split declared_at o nothing_yet ds es v k in
    let sum = structures-append ds es in
    let h = declared_low p b a ds us d o x.0 (omega (arith, few, sum)) x.1 in
    let count = counts o nothing_yet ds x.0 x.1 in
    let g = nest _ 0 0 es vs m o x.0 v (omega (arith, few, sum, count)) h.0 h.1 x.2 in
    (g.low, g.within ∙ h.1)

-- ---- what a description has

owner_up : (k : ℕ) (made : List Draft) (n : ℕ) → DraftsUpto (suc k) (map outer made) n → DraftsUpto k (map outer made) (owner_of (map shape_in made) n)
unfolding owner_of
owner_up k made n (inl e) = subst (λ (m : ℕ). DraftsUpto k (map outer made) (owner_in (structure_at (map shape_in made) m))) (sym e) (nowhere k (map outer made))
owner_up k made n (inr r) =
    let f = mapped outer (slice_get made (n - 1)) r.0 (sym (slice_get-map outer made (n - 1)) ∙ r.1) in
    let from = r.2 in
    let shape : slice_get (map shape_in made) (n - 1) ≡ Some (shape_in f.0) = slice_get-map shape_in made (n - 1) ∙ ap (option_map shape_in) f.1 in
    let some : (n == 0) ≡ false = ne_zero n (n - 1) (omega (arith, from)) in
    let at : structure_at (map shape_in made) n ≡ Some (shape_in f.0) = ap (λ (b : Bool). cond b None (slice_get (map shape_in made) (n - 1))) some ∙ shape in
    let owner : owner_in (structure_at (map shape_in made) n) ≡ r.0.owner = ap (λ (x : Option Shape). owner_in x) at ∙ ap (λ (x : Draft). x.owner) f.2 in
    subst (λ (m : ℕ). DraftsUpto k (map outer made) m) (sym owner) r.3

shallow : (made : List Draft) (d : Draft) → DraftsUpto 2 (map outer made) d.owner → is_shallow (map shape_in made) (shape_in d) ≡ true
unfolding is_shallow
shallow made d h =
    let one = owner_up 1 made d.owner h in
    let none : owner_of (map shape_in made) (owner_of (map shape_in made) d.owner) ≡ 0 = owner_up 0 made (owner_of (map shape_in made) d.owner) one in
    eq-eqb _ 0 none

all_shallow : (made ds : List Draft) → AllByRecursion (LowLevel (map outer made)) (map outer ds) → list_all (is_shallow (map shape_in made)) (map shape_in ds) ≡ true
all_shallow made [] h = refl
all_shallow made (d ∷ ds) h = and_from _ _ (shallow made d h.0) (all_shallow made ds h.1)

pub are_shallow : (p : Parameters) (b a : Bool) (ds : List Declaration) (us : List Lexeme) → Declares p b a ds us → (o : List Draft) (w : Compilation) → structures_in ds ≤ 200 → steps declared_at o nothing_yet ds ≡ Ok w → list_all (is_shallow (map shape_in w.made)) (map shape_in w.made) ≡ true
are_shallow p b a ds us d o w few k = all_shallow w.made w.made (declared_low p b a ds us d o w few k).0
