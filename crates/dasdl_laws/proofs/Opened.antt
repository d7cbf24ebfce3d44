-- Each structure stands in none, in the structure before it, or in one in which that one stands.
use Rattle.std.proofs.Common.{◌≡◌, ◌≤◌, ◌+◌, ◌-◌, ◌⊎◌, inl, inr, ℕ, suc, zero, List, [], ◌∷◌, ◌++◌, map, length, length-append, Bool, true, false, cond, refl, sym, ap, subst, ◌∙◌, arith}
use Rattle.std.proofs.lemmas.Bool.{eq-eqb}
use Rattle.std.proofs.lemmas.List.{map-append, length-map}
use Rattle.std.proofs.lemmas.Option.{slice_get-map}
use Rattle.std.specs.Prelude.{◌||◌, ◌==◌, slice_get, Some, None}
use Rattle.std.specs.List.{AllByRecursion}
use Rattle.std.specs.Option.{option_map}
use Rattle.std.specs.declared.option.Option.{Option}
use Rattle.dms_desc.specs.Shape.{Shape}
use Rattle.dms_desc.specs.Lookups.{structure_at}
use Rattle.dms_desc_bytes.specs.Finding.{owner_in, owner_of}
use Rattle.dms_desc_bytes.specs.WellFormed.{is_open_behind}
use Rattle.dasdl_parse.specs.declared.declarations.Declaration.{Declaration}
use Rattle.dasdl_grammar.specs.SchemaSpelling.{structures_of}
use Rattle.dasdl_compile.specs.declared.draft.Draft.{Draft}
use Rattle.dasdl_compile.specs.declared.work.Compilation.{Compilation}
use Rattle.dasdl_compile.specs.Compile.{shape_in}
use Rattle.dasdl_compile.specs.Finding.{new_draft, next_structure}
use Rattle.dasdl_compile.specs.Members.{open_after}
use Rattle.dasdl_compile.specs.Outlines.{data_set_kind}
use Rattle.dasdl_compile.specs.Sets.{set_draft}
use Rattle.dasdl_laws.proofs.Levels.{DraftsUpto, LowLevel}
use Rattle.dasdl_laws.proofs.Ordered.{Numbers}
use Rattle.dasdl_laws.proofs.Owners.{Stand, Standing, got_more, got_last, open_ref, push}
use Rattle.dasdl_laws.proofs.Sets.{final_at}
use Rattle.dasdl_laws.proofs.Together.{mapped, ne_zero}
use Rattle.dasdl_laws.proofs.Turns.{outer, DraftTurn, Inside, inside_kept}
use Rattle.dasdl_laws.proofs.Turns.DraftTurn.{inside, data_set, a_set}
use Rattle.dasdl_laws.proofs.Turns.Inside.{untouched, changed}

-- structure n, or one in which it stands
pub data Around (os : List Draft) : ℕ → ℕ → Type 0 where
  here : (n : ℕ) → Around os n n
  outward : (n m : ℕ) (d : Draft) → slice_get os (n - 1) ≡ Some d → 1 ≤ n → Around os d.owner m → Around os n m

around_more : (os more : List Draft) (n m : ℕ) → Around os n m → Around (os ++ more) n m
around_more os more _ _ (here n) = here n
around_more os more _ _ (outward n m d at low a) = outward n m d (got_more os more (n - 1) d at) low (around_more os more d.owner m a)

around_out : (os : List Draft) (n m : ℕ) (d : Draft) → slice_get os (m - 1) ≡ Some d → 1 ≤ m → Around os n m → Around os n d.owner
around_out os _ _ d at low (here n) = outward n d.owner d at low (here d.owner)
around_out os _ _ d at low (outward n m e before some a) = outward n d.owner e before some (around_out os e.owner m d at low a)

-- the first structure stands in none
first_alone : (ps os : List Draft) (d : Draft) → Numbers 1 os → AllByRecursion (Stand ps) os → slice_get os 0 ≡ Some d → d.owner ≡ 0
first_alone ps [] d numbers h e = absurd (cc)
first_alone ps (x ∷ xs) d numbers h e =
    let one : x ≡ d = cc in
    let low = h.0.1 in
    let number = numbers.0 in
    subst (λ (y : Draft). y.owner ≡ 0) one (omega (arith, low, number))

further_out : (os : List Draft) (n m : ℕ) (d : Draft) → slice_get os (m - 1) ≡ Some d → Numbers 1 os → AllByRecursion (Stand os) os → Around os n m → Around os n d.owner
further_out os n zero d at numbers h a = subst (Around os n) (sym (first_alone os os d numbers h at)) a
further_out os n (suc m) d at numbers h a = around_out os n (suc m) d at (omega arith) a

-- what a structure stands in is open behind the structure before it
abbrev pub OpenedDrafts : List Draft → Draft → Type 0
OpenedDrafts os d = Around os (d.number - 1) d.owner

opened_more : (os more ds : List Draft) → AllByRecursion (OpenedDrafts os) ds → AllByRecursion (OpenedDrafts (os ++ more)) ds
opened_more os more [] h = tt
opened_more os more (d ∷ ds) h = (around_more os more (d.number - 1) d.owner h.0, opened_more os more ds h.1)

opened_push : (os : List Draft) (d : Draft) → AllByRecursion (OpenedDrafts os) os → OpenedDrafts os d → AllByRecursion (OpenedDrafts (os ++ d ∷ [])) (os ++ d ∷ [])
opened_push os d h k = push (OpenedDrafts (os ++ d ∷ [])) os d (opened_more os (d ∷ []) os h) (around_more os (d ∷ []) (d.number - 1) d.owner k)

pub record Opening (w : Compilation) : Type 0 where
  pub all : AllByRecursion (OpenedDrafts (map outer w.made)) (map outer w.made)
  pub last : Around (map outer w.made) (length w.made) w.within

opens_as : (os : List Draft) (v : Compilation) (n m : ℕ) → map outer v.made ≡ os → length os ≡ n → v.within ≡ m → AllByRecursion (OpenedDrafts os) os → Around os n m → Opening v
opens_as os v n m made size within h a =
    let count : n ≡ length v.made = sym size ∙ ap length (sym made) ∙ length-map v.made outer in
    record {
      all = subst (λ (l : List Draft). AllByRecursion (OpenedDrafts l) l) (sym made) h;
      last = subst (λ (l : List Draft). Around l (length v.made) v.within) (sym made) (subst (λ (k : ℕ). Around os k v.within) count (subst (Around os n) (sym within) a));
    }

inside_opens : (o : List Draft) (decl : Declaration) (w v : Compilation) → Inside o decl w v → Standing (map outer w.made) w.within → Numbers 1 (map outer w.made) → Opening w → Opening v
inside_opens o decl w v (untouched none e) s numbers h = subst Opening (sym e) h
inside_opens o decl w v (changed d t at g e) s numbers h =
    let there : slice_get (map outer w.made) (w.within - 1) ≡ Some (outer d) = slice_get-map outer w.made (w.within - 1) ∙ ap (option_map outer) at in
    let out : Around (map outer w.made) (length w.made) d.owner = further_out (map outer w.made) (length w.made) w.within (outer d) there numbers s.all h.last in
    opens_as (map outer w.made) v (length w.made) (open_after decl d.owner w.within) (inside_kept o decl w v (changed d t at g e)) (length-map w.made outer) (ap (λ (x : Compilation). x.within) e) h.all (open_ref (Around (map outer w.made) (length w.made)) decl d.owner w.within out h.last)

-- one more structure, and what is open behind it
one_more : (w v : Compilation) (d : Draft) (m : ℕ) → length w.made + 1 ≤ 200 → Opening w → d.number ≡ length w.made + 1 → d.owner ≡ w.within → map outer v.made ≡ map outer w.made ++ d ∷ [] → v.within ≡ m → (m ≡ length w.made + 1) ⊎ (m ≡ w.within) → Opening v
one_more w v d m few h number owner made within which =
    let os = map outer w.made in
    let size : length os ≡ length w.made = length-map w.made outer in
    let count : length (os ++ d ∷ []) ≡ length w.made + 1 = omega (arith, size, length-append os (d ∷ [])) in
    let before : d.number - 1 ≡ length w.made = omega (arith, number) in
    let one : OpenedDrafts os d = subst (λ (k : ℕ). Around os k d.owner) (sym before) (subst (Around os (length w.made)) (sym owner) h.last) in
    let place : length w.made + 1 - 1 ≡ length os = omega (arith, size) in
    let at : slice_get (os ++ d ∷ []) (length w.made + 1 - 1) ≡ Some d = ap (slice_get (os ++ d ∷ [])) place ∙ got_last os d in
    let out : Around (os ++ d ∷ []) (length w.made + 1) w.within = outward (length w.made + 1) w.within d at (omega arith) (subst (λ (k : ℕ). Around (os ++ d ∷ []) k w.within) (sym owner) (here w.within)) in
    let last : Around (os ++ d ∷ []) (length w.made + 1) m = elim which [
      | inl e ↦ subst (Around (os ++ d ∷ []) (length w.made + 1)) (sym e) (here (length w.made + 1))
      | inr e ↦ subst (Around (os ++ d ∷ []) (length w.made + 1)) (sym e) out
    ] in
    opens_as (os ++ d ∷ []) v (length w.made + 1) m made count within (opened_push os d h.all one) last

pub turn_opens : (o : List Draft) (w v : Compilation) (decl : Declaration) → length w.made + structures_of decl ≤ 200 → DraftTurn o w v decl → Standing (map outer w.made) w.within → Numbers 1 (map outer w.made) → Opening w → Opening v
turn_opens o w v _ few (inside decl none i) s numbers h = inside_opens o decl w v i s numbers h
turn_opens o w v _ few (data_set t new placed once e) s numbers h =
    let d = new_draft (next_structure w.made) (data_set_kind t.restart) t.name w.within in
    let n : next_structure w.made ≡ length w.made + 1 = omega (arith, few) in
    one_more w v d (next_structure w.made) (omega (arith, few)) h n refl (ap (λ (x : Compilation). map outer x.made) e ∙ map-append outer w.made (d ∷ [])) (ap (λ (x : Compilation). x.within) e) (inl n)
turn_opens o w v _ few (a_set t d p new of placed read key e) s numbers h =
    let x = set_draft w t d p in
    let n : next_structure w.made ≡ length w.made + 1 = omega (arith, few) in
    one_more w v (outer x) w.within (omega (arith, few)) h n refl (ap (λ (y : Compilation). map outer y.made) e ∙ map-append outer w.made (x ∷ [])) (ap (λ (y : Compilation). y.within) e) (inr refl)

-- ---- what a description has

owner_is : (made : List Draft) (n : ℕ) (d : Draft) → slice_get (map outer made) (n - 1) ≡ Some d → 1 ≤ n → owner_of (map shape_in made) n ≡ d.owner
unfolding owner_of
owner_is made n d at low =
    let f = mapped outer (slice_get made (n - 1)) d (sym (slice_get-map outer made (n - 1)) ∙ at) in
    let shape : slice_get (map shape_in made) (n - 1) ≡ Some (shape_in f.0) = slice_get-map shape_in made (n - 1) ∙ ap (option_map shape_in) f.1 in
    let some : (n == 0) ≡ false = ne_zero n (n - 1) (omega (arith, low)) in
    let found : structure_at (map shape_in made) n ≡ Some (shape_in f.0) = ap (λ (b : Bool). cond b None (slice_get (map shape_in made) (n - 1))) some ∙ shape in
    ap (λ (x : Option Shape). owner_in x) found ∙ ap (λ (x : Draft). x.owner) f.2

-- m is 0, or at most so many levels out from n
abbrev Near : ℕ → List Shape → ℕ → ℕ → Type 0
Near zero ss n m = m ≡ 0
Near (suc k) ss n m = (m ≡ n) ⊎ Near k ss (owner_of ss n) m

near : (k : ℕ) (made : List Draft) (n m : ℕ) → DraftsUpto k (map outer made) n → Around (map outer made) n m → Near k (map shape_in made) n m
near zero made _ _ z (here n) = z
near zero made _ _ z (outward n m d at low a) = absurd (omega (arith, z, low))
near (suc k) made _ _ u (here n) = inl refl
near (suc k) made _ _ (inl z) (outward n m d at low a) = absurd (omega (arith, z, low))
near (suc k) made _ _ (inr u) (outward n m d at low a) =
    let there = u.1 in
    let same : u.0 ≡ d = cc in
    let owner : owner_of (map shape_in made) n ≡ d.owner = owner_is made n d at low in
    inr (subst (λ (j : ℕ). Near k (map shape_in made) j m) (sym owner) (near k made d.owner m (subst (λ (x : Draft). DraftsUpto k (map outer made) x.owner) same u.3) a))

one_of : (a b c d : Bool) → (b ≡ true) ⊎ ((c ≡ true) ⊎ ((d ≡ true) ⊎ (a ≡ true))) → (a || (b || c || d)) ≡ true
one_of true b c d h = refl
one_of false true c d h = refl
one_of false false true d h = refl
one_of false false false true h = refl
one_of false false false false (inl e) = absurd (cc)
one_of false false false false (inr (inl e)) = absurd (cc)
one_of false false false false (inr (inr (inl e))) = absurd (cc)
one_of false false false false (inr (inr (inr e))) = absurd (cc)

near_is : (ss : List Shape) (n m : ℕ) → Near 3 ss n m → (m == 0 || is_open_behind ss n m) ≡ true
near_is ss n m h =
    one_of (m == 0) (m == n) (m == owner_of ss n) (m == owner_of ss (owner_of ss n)) (elim h [
      | inl e ↦ inl (eq-eqb m n e)
      | inr (inl e) ↦ inr (inl (eq-eqb m (owner_of ss n) e))
      | inr (inr (inl e)) ↦ inr (inr (inl (eq-eqb m (owner_of ss (owner_of ss n)) e)))
      | inr (inr (inr e)) ↦ inr (inr (inr (eq-eqb m 0 e)))
    ])

-- what is before a structure stands in at most two others
before_low : (os : List Draft) (n m : ℕ) → AllByRecursion (LowLevel os) os → Around os n m → (n ≡ m) ⊎ DraftsUpto 3 os n
before_low os _ _ low (here n) = inl refl
before_low os _ _ low (outward n m d at some a) = inr (inr (d, at, some, final_at (LowLevel os) os (n - 1) d low at))

pub opens : (made : List Draft) (n m : ℕ) → AllByRecursion (LowLevel (map outer made)) (map outer made) → Around (map outer made) n m → (m == 0 || is_open_behind (map shape_in made) n m) ≡ true
opens made n m low a = elim (before_low (map outer made) n m low a) [
  | inl e ↦ near_is (map shape_in made) n m (inl (sym e))
  | inr u ↦ near_is (map shape_in made) n m (near 3 made n m u a)
]
