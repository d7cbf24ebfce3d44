-- The table of names, beside the list of structures.
use Rattle.std.proofs.Common.{ℕ, zero, suc, ◌+◌, ◌≡◌, List, [], ◌∷◌, ◌++◌, length, drop, set, get_or, slice_get, Bool, true, false, cond, ◌&&◌, is_some, nat_lt, Option, None, Some, refl, sym, ap, ◌∙◌, arith, Decides}
use Rattle.std.specs.Str.{bytes_eq}
use Rattle.std.proofs.lemmas.Bool.{and_right}
use Rattle.std.proofs.lemmas.Bool.Decides.{Decides-like, same_from_decides}
use Rattle.std.proofs.lemmas.Slice.Eq.{bytes_eq-Decides}
use Rattle.indexmap.specs.IndexMap.{insert_entry}
use Rattle.dasdl_compile.specs.declared.draft.Draft.{Draft}
use Rattle.dms_desc.specs.Shape.{kind_number}
use Rattle.dasdl_compile.specs.Finding.{data_set_named, is_structure}
use Rattle.dasdl_compile.specs.Tables.{title, note_of, first_place, with_title, with_titles, names_of}

-- a test that decides whether two names are one is that of their bytes
pub same_test : (test : List ℕ → List ℕ → Bool) → ((a b : List ℕ) → Decides (test a b) (a ≡ b)) → test ≡ bytes_eq
same_test test decides = λ i a b. same_from_decides (test a b) (bytes_eq a b) (decides a b) (bytes_eq-Decides a b) i

turned : (a b : List ℕ) → bytes_eq a b ≡ bytes_eq b a
turned a b = same_from_decides (bytes_eq a b) (bytes_eq b a) (bytes_eq-Decides a b) (Decides-like (bytes_eq b a) sym sym (bytes_eq-Decides b a))

-- one structure more
pub titles-push : (at : ℕ) (es : List (List ℕ × Option ℕ)) (ds : List Draft) (d : Draft) → with_titles at es (ds ++ d ∷ []) ≡ with_title d.name (kind_number d.kind) (at + length ds) (with_titles at es ds)
unfolding with_titles
titles-push at es [] d = ap (λ (k : ℕ). with_title d.name (kind_number d.kind) k es) (omega arith)
titles-push at es (x ∷ xs) d =
    titles-push (at + 1) (with_title x.name (kind_number x.kind) at es) xs d
    ∙ ap (λ (k : ℕ). with_title d.name (kind_number d.kind) k (with_titles (at + 1) (with_title x.name (kind_number x.kind) at es) xs)) (omega arith)

-- a structure in the place of one with its name and kind
pub titles-set : (at : ℕ) (es : List (List ℕ × Option ℕ)) (ds : List Draft) (i : ℕ) (old new : Draft) → old ≡ get_or ds i old → title new ≡ title old → with_titles at es (set ds i new) ≡ with_titles at es ds
unfolding with_titles
titles-set at es [] i old new is same = refl
titles-set at es (x ∷ xs) zero old new is same = ap (λ (t : List ℕ × ℕ). with_titles (at + 1) (with_title t.0 t.1 at es) xs) (same ∙ ap title is)
titles-set at es (x ∷ xs) (suc i) old new is same = titles-set (at + 1) (with_title x.name (kind_number x.kind) at es) xs i old new is same

-- what stands beside a name, once another name or the same is put into the table
put_first : (n k : List ℕ) (v was : Option ℕ) (rest : Option (Option ℕ)) → cond (bytes_eq n k) (Some v) rest ≡ cond (bytes_eq n k) (Some v) (cond (bytes_eq n k) (Some was) rest)
put_first n k v was rest = elim (bytes_eq n k) as (λ t. cond t (Some v) rest ≡ cond t (Some v) (cond t (Some was) rest)) [ true ↦ refl | false ↦ refl ]

put_later : (n k m : List ℕ) (v was : Option ℕ) (rest : Option (Option ℕ)) → bytes_eq k m ≡ false → cond (bytes_eq n m) (Some was) (cond (bytes_eq n k) (Some v) rest) ≡ cond (bytes_eq n k) (Some v) (cond (bytes_eq n m) (Some was) rest)
put_later n k m v was rest apart =
    elim (bytes_eq n k) as (λ t. bytes_eq n k ≡ t → cond (bytes_eq n m) (Some was) (cond t (Some v) rest) ≡ cond t (Some v) (cond (bytes_eq n m) (Some was) rest)) [
      | false ↦ λ e. refl
      | true ↦ λ e. ap (λ (t : Bool). cond t (Some was) (Some v)) (ap (λ (l : List ℕ). bytes_eq l m) ((bytes_eq-Decides n k).0 e) ∙ apart)
    ] refl

noted-insert : (n k : List ℕ) (v : Option ℕ) (es : List (List ℕ × Option ℕ)) → note_of n (insert_entry bytes_eq es k v) ≡ cond (bytes_eq n k) (Some v) (note_of n es)
noted-insert n k v [] = refl
noted-insert n k v (e ∷ es) =
    elim (bytes_eq k e.0) as (λ t. bytes_eq k e.0 ≡ t → note_of n (cond t ((e.0, v) ∷ es) (e ∷ insert_entry bytes_eq es k v)) ≡ cond (bytes_eq n k) (Some v) (cond (bytes_eq n e.0) (Some e.1) (note_of n es))) [
      | true ↦ λ h.
          put_first n e.0 v e.1 (note_of n es)
          ∙ ap (λ (l : List ℕ). cond (bytes_eq n l) (Some v) (cond (bytes_eq n e.0) (Some e.1) (note_of n es))) (sym ((bytes_eq-Decides k e.0).0 h))
      | false ↦ λ h.
          ap (λ (o : Option (Option ℕ)). cond (bytes_eq n e.0) (Some e.1) o) (noted-insert n k v es)
          ∙ put_later n k e.0 v e.1 (note_of n es) h
    ] refl

-- the structure at the place that is noted, else another answer
abbrev pub chosen : List Draft → Option (Option ℕ) → Option Draft → Option Draft
chosen all None answer = answer
chosen all (Some None) answer = answer
chosen all (Some (Some p)) answer = slice_get all p

first_at : (all : List Draft) (at : ℕ) (d : Draft) (ds : List Draft) → drop at all ≡ d ∷ ds → (slice_get all at ≡ Some d) × (drop (at + 1) all ≡ ds)
first_at [] zero d ds h = grind (arith, h)
first_at [] (suc at) d ds h = grind (arith, h)
first_at (x ∷ xs) zero d ds h = grind (arith, h)
first_at (x ∷ xs) (suc at) d ds h =
    let next : suc at + 1 ≡ suc (at + 1) = omega arith in
    let first = first_at xs at d ds h in
    (first.0, ap (λ (k : ℕ). drop k (x ∷ xs)) next ∙ first.1)

-- where the name is this one's
this_name : (all : List Draft) (at : ℕ) (d : Draft) (answer : Option Draft) (k : Bool) (o : Option (Option ℕ)) → slice_get all at ≡ Some d → chosen all (Some (first_place o k at)) answer ≡ chosen all o (cond (k && true) (Some d) answer)
this_name all at d answer true None here = here
this_name all at d answer false None here = refl
this_name all at d answer true (Some None) here = here
this_name all at d answer false (Some None) here = refl
this_name all at d answer k (Some (Some p)) here = refl

one_more : (n : List ℕ) (all : List Draft) (at : ℕ) (d : Draft) (answer : Option Draft) (es : List (List ℕ × Option ℕ)) → slice_get all at ≡ Some d → chosen all (note_of n (with_title d.name (kind_number d.kind) at es)) answer ≡ chosen all (note_of n es) (cond (nat_lt (kind_number d.kind) 3 && bytes_eq d.name n) (Some d) answer)
one_more n all at d answer es here =
    ap (λ (o : Option (Option ℕ)). chosen all o answer) (noted-insert n d.name (first_place (note_of d.name es) (nat_lt (kind_number d.kind) 3) at) es)
    ∙ elim (bytes_eq n d.name) as (λ t. bytes_eq n d.name ≡ t → chosen all (cond t (Some (first_place (note_of d.name es) (nat_lt (kind_number d.kind) 3) at)) (note_of n es)) answer ≡ chosen all (note_of n es) (cond (nat_lt (kind_number d.kind) 3 && bytes_eq d.name n) (Some d) answer)) [
      | true ↦ λ e.
          this_name all at d answer (nat_lt (kind_number d.kind) 3) (note_of d.name es) here
          ∙ ap (λ (l : List ℕ). chosen all (note_of l es) (cond (nat_lt (kind_number d.kind) 3 && true) (Some d) answer)) (sym ((bytes_eq-Decides n d.name).0 e))
          ∙ ap (λ (b : Bool). chosen all (note_of n es) (cond (nat_lt (kind_number d.kind) 3 && b) (Some d) answer)) (sym (turned d.name n ∙ e))
      | false ↦ λ e. ap (λ (b : Bool). chosen all (note_of n es) (cond b (Some d) answer)) (sym (and_right (nat_lt (kind_number d.kind) 3) (bytes_eq d.name n) (turned d.name n ∙ e)))
    ] refl

named_from : (n : List ℕ) (all : List Draft) (at : ℕ) (es : List (List ℕ × Option ℕ)) (ds : List Draft) → drop at all ≡ ds → chosen all (note_of n (with_titles at es ds)) None ≡ chosen all (note_of n es) (data_set_named n ds)
unfolding with_titles data_set_named
named_from n all at es [] h = refl
named_from n all at es (d ∷ ds) h =
    let first = first_at all at d ds h in
    named_from n all (at + 1) (with_title d.name (kind_number d.kind) at es) ds first.1
    ∙ one_more n all at d (data_set_named n ds) es first.0

-- the structure at the place beside a name is the data set with this name
pub names_found : (n : List ℕ) (ds : List Draft) → chosen ds (note_of n (names_of ds)) None ≡ data_set_named n ds
names_found n ds = named_from n ds 0 [] ds refl

seen : (b c : Bool) (v : Option ℕ) (o : Option (Option ℕ)) (rest : Bool) → b ≡ c → cond (is_some (cond b (Some v) o)) true rest ≡ cond (is_some o) true (cond c true rest)
seen true c v o rest e = elim (is_some o) as (λ t. true ≡ cond t true (cond c true rest)) [ true ↦ refl | false ↦ ap (λ (t : Bool). cond t true rest) e ]
seen false c v o rest e = ap (λ (t : Bool). cond (is_some o) true (cond t true rest)) e

seen_from : (n : List ℕ) (at : ℕ) (es : List (List ℕ × Option ℕ)) (ds : List Draft) → is_some (note_of n (with_titles at es ds)) ≡ cond (is_some (note_of n es)) true (is_structure n ds)
unfolding with_titles is_structure
seen_from n at es [] = elim (is_some (note_of n es)) as (λ t. t ≡ cond t true false) [ true ↦ refl | false ↦ refl ]
seen_from n at es (d ∷ ds) =
    let place = first_place (note_of d.name es) (nat_lt (kind_number d.kind) 3) at in
    seen_from n (at + 1) (with_title d.name (kind_number d.kind) at es) ds
    ∙ ap (λ (o : Option (Option ℕ)). cond (is_some o) true (is_structure n ds)) (noted-insert n d.name place es)
    ∙ seen (bytes_eq n d.name) (bytes_eq d.name n) place (note_of n es) (is_structure n ds) (turned n d.name)

-- a name is in the table where a structure has it
pub names_seen : (n : List ℕ) (ds : List Draft) → is_some (note_of n (names_of ds)) ≡ is_structure n ds
names_seen n ds = seen_from n 0 [] ds
