-- Which file a name leads to, once one more file is there.
use Rattle.std.proofs.Common.{ℕ, zero, suc, ◌+◌, ◌<◌, ◌≤◌, ◌≡◌, ◌≢◌, ◌⊎◌, inl, inr, ⊎_elim, Bool, true, false, List, [], ◌∷◌, Some, None, refl, sym, ◌∙◌, ap, subst, arith, add-one}
use Rattle.std.specs.declared.option.Option.{Option}
use Rattle.std.proofs.lemmas.Option.{same_Some, none-some}
use Rattle.std.proofs.lemmas.Bool.{cases_lt, false≢true}
use Rattle.std.proofs.lemmas.Slice.Eq.{bytes_eq-Decides}
use Rattle.dms_site.specs.Files.{Files, with_file}
use Rattle.dms_site.specs.Laws.{with_file_here, with_file_other}
use Rattle.dms_calls.specs.World.{World, MakesFile}
use Rattle.dms_memcalls.specs.Names.{is_name, or_next, leads}
use Rattle.dms_memcalls.specs.Outcomes.{Adds}
use Rattle.dms_memcalls.specs.Folders.{FolderSeen, with_made, world_of}

pub name_is : (a m : List ℕ) → is_name a m ≡ true → a ≡ m
name_is [] m is = absurd (false≢true is)
name_is (b ∷ bs) m is = (bytes_eq-Decides (b ∷ bs) m).0 is

name_isnt : (a m : List ℕ) → a ≢ m → is_name a m ≡ false
name_isnt a m other = by (is_name a m) refl
  where
    by : (b : Bool) → is_name a m ≡ b → b ≡ false
    by true is = absurd (other (name_is a m is))
    by false is = refl

-- files below n of the same names
pub leads_same : (n : ℕ) (a b : Files) (m : List ℕ) → ((k : ℕ) → k < n → b k ≡ a k) → leads n b m ≡ leads n a m
unfolding leads
leads_same zero a b m same = refl
leads_same (suc n) a b m same =
    let last : b n ≡ a n = same n (omega arith) in
    let rest : leads n b m ≡ leads n a m = leads_same n a b m (λ k low. same k (omega (arith, low))) in
    λ i. or_next (rest i) n (is_name (last i) m)

leads_by : (n : ℕ) (names : Files) (m : List ℕ) (i : ℕ) → (leads n names m ≡ Some i → (i < n) × (is_name (names i) m ≡ true)) → (o : Option ℕ) → leads n names m ≡ o → (b : Bool) → is_name (names n) m ≡ b → or_next o n b ≡ Some i
    → (i < suc n) × (is_name (names i) m ≡ true)
leads_by n names m i before (Some j) found b here at = let rest = before (found ∙ at) in (omega (arith, rest.0), rest.1)
leads_by n names m i before None found true here at =
    let e : n ≡ i = same_Some n i at in
    (omega (arith, e), subst (λ (k : ℕ). is_name (names k) m ≡ true) e here)
leads_by n names m i before None found false here at = absurd (none-some i at)

-- the file that a name leads to has it
pub leads_is : (n : ℕ) (names : Files) (m : List ℕ) (i : ℕ) → leads n names m ≡ Some i → (i < n) × (is_name (names i) m ≡ true)
unfolding leads
leads_is zero names m i is = absurd (none-some i is)
leads_is (suc n) names m i is = leads_by n names m i (leads_is n names m i) (leads n names m) refl (is_name (names n) m) refl is

one_more : (n : ℕ) → suc n ≡ n + 1
one_more n = omega arith

pub leads_next : (n : ℕ) (names : Files) (m : List ℕ) → leads (n + 1) names m ≡ or_next (leads n names m) n (is_name (names n) m)
unfolding leads
leads_next n names m = ap (λ (k : ℕ). leads k names m) (add-one n)

-- one more file
pub leads_made : (n : ℕ) (names : Files) (name m : List ℕ) → leads (n + 1) (with_file names n name) m ≡ or_next (leads n names m) n (is_name name m)
leads_made n names name m =
    let rest : leads n (with_file names n name) m ≡ leads n names m = leads_same n names (with_file names n name) m (λ k low. with_file_other names n name k (λ e. omega (arith, e, low))) in
    let last : with_file names n name n ≡ name = with_file_here names n name in
    leads_next n (with_file names n name) m ∙ (λ i. or_next (rest i) n (is_name (last i) m))

-- a file that was found stays the one that is found
pub leads_more : (k n : ℕ) (names : Files) (m : List ℕ) (i : ℕ) → n ≤ k → leads n names m ≡ Some i → leads k names m ≡ Some i
leads_more zero n names m i le is = subst (λ (j : ℕ). leads j names m ≡ Some i) (omega (arith, le)) is
leads_more (suc k) n names m i le is = elim (cases_lt k n) [
  | inl last ↦ subst (λ (j : ℕ). leads j names m ≡ Some i) (omega (arith, le, last)) is
  | inr more ↦ ap (λ (j : ℕ). leads j names m) (one_more k) ∙ leads_next k names m ∙ ap (λ (o : Option ℕ). or_next o k (is_name (names k) m)) (leads_more k n names m i more is)
]

-- the first file of the name
pub leads_here : (n count : ℕ) (names : Files) (m : List ℕ) (b : Bool) → leads n names m ≡ None → b ≡ is_name (names n) m → b ≡ true → n < count → leads count names m ≡ Some n
leads_here n count names m b none is yes' low =
    leads_more count (n + 1) names m n (omega (arith, low)) (leads_next n names m ∙ ap (λ (o : Option ℕ). or_next o n (is_name (names n) m)) none ∙ ap (λ (c : Bool). or_next None n c) (sym is ∙ yes'))

-- a file of another name
pub leads_on : (n : ℕ) (names : Files) (m : List ℕ) (b : Bool) → leads n names m ≡ None → b ≡ is_name (names n) m → b ≡ false → leads (n + 1) names m ≡ None
leads_on n names m b none is no' = leads_next n names m ∙ ap (λ (o : Option ℕ). or_next o n (is_name (names n) m)) none ∙ ap (λ (c : Bool). or_next None n c) (sym is ∙ no')

pub leads_none : (names : Files) (m : List ℕ) → leads 0 names m ≡ None
unfolding leads
leads_none names m = refl

or_none : (o : Option ℕ) (n : ℕ) → or_next o n false ≡ o
or_none None n = refl
or_none (Some i) n = refl

-- a name that leads to no file leads to the one that is made, or to none where that got none
pub adds_seen : (s : FolderSeen) (name given bytes : List ℕ) → (given ≡ name) ⊎ (given ≡ []) → Adds name bytes s.count (world_of s) (world_of (with_made s given bytes))
adds_seen s name given bytes which = record {
  holds = with_file_here s.bytes s.count bytes;
  others = λ j other. with_file_other s.bytes s.count bytes j other;
  free = λ m is. omega (arith, (leads_is s.count s.names m s.count is).0);
  here = by (leads s.count s.names name) refl (is_name given name) refl;
  names = λ m other. leads_made s.count s.names given m ∙ (λ i. or_next (leads s.count s.names m) s.count (apart m other i)) ∙ or_none (leads s.count s.names m) s.count;
  said = refl;
}
  where
    apart : (m : List ℕ) → m ≢ name → is_name given m ≡ false
    apart m other = ⊎_elim (λ e. name_isnt given m (λ same. other (sym same ∙ e))) (λ e. ap (λ (l : List ℕ). is_name l m) e) which

    by : (o : Option ℕ) → leads s.count s.names name ≡ o → (b : Bool) → is_name given name ≡ b
        → (leads (s.count + 1) (with_file s.names s.count given) name ≡ leads s.count s.names name)
        ⊎ ((leads s.count s.names name ≡ None) × (leads (s.count + 1) (with_file s.names s.count given) name ≡ Some s.count))
    by (Some j) found b here = inl (leads_made s.count s.names given name ∙ (λ i. or_next (found i) s.count (here i)) ∙ sym found)
    by None found true here = inr (found, leads_made s.count s.names given name ∙ (λ i. or_next (found i) s.count (here i)))
    by None found false here = inl (leads_made s.count s.names given name ∙ (λ i. or_next (found i) s.count (here i)) ∙ sym found)

-- a file without bytes was made
pub adds_makes : (name : List ℕ) (i : ℕ) (v w : World) → Adds name [] i v w → MakesFile name i v w
adds_makes name i v w adds = record { empty = adds.holds; others = adds.others; free = adds.free; here = adds.here; names = adds.names; said = adds.said }
