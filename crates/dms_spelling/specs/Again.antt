-- Lists that are those of a database's entries tell these entries, and no others.
use Rattle.std.proofs.Common.{◌≡◌, ◌≢◌, ◌∙◌, ◌+◌, ◌-◌, ◌^◌, ◌<◌, ◌≤◌, ℕ, zero, suc, List, [], ◌∷◌, ◌++◌, Bool, true, false, cond, Some, None, refl, sym, ap, subst, length, map, slice_get, arith}
use Rattle.std.specs.Prelude.{T, ◌&&◌, ◌==◌, ◌||◌, not, is_some}
use Rattle.std.specs.List.{AllByRecursion, list_any}
use Rattle.std.specs.declared.option.Option.{Option}
use Rattle.std.specs.declared.cmp.Ordering.{Ordering}
use Rattle.std.specs.declared.cmp.Ordering.TheVariants.{Less, Equal, Greater}
use Rattle.std.specs.FinMap.{IsAntisymmetric, entries, entries-from_sorted, entries_sorted, find, from_entries, from_sorted, get, get-entries, get-from_entries, get-from_sorted, is_sorted, keys, nat_cmp-IsAntisymmetric, same_map}
use Rattle.std.specs.FinMap.Entries.{below_all}
use Rattle.std.specs.Ordering.{eq_by_cmp, is_lt, nat_cmp, ordering_then}
use Rattle.std.specs.Cmp.{IsTotalOrder, nat_cmp_total}
use Rattle.std.proofs.lemmas.Bool.Decides.{nat_tests}
use Rattle.std.proofs.lemmas.Cmp.{on_total, then_total}
use Rattle.std.proofs.lemmas.Option.{same_Some}
use Rattle.dms_base.specs.declared.kind.ItemKind.{ItemKind}
use Rattle.dms_block.specs.Content.{Content}
use Rattle.dms_desc.specs.Keys.{key_of}
use Rattle.dms_desc.specs.Lookups.{over_of, structure_of}
use Rattle.dms_desc.specs.Shape.{Shape, Described}
use Rattle.dms_desc.specs.declared.record.Record.{Record}
use Rattle.dms_manual.specs.Entered.{IsSmallPair, as_member, entered, entered_get, manual_of, member_entry}
use Rattle.dms_manual.specs.Listed.{bytes_for}
use Rattle.dms_manual.specs.Moves.{SmallIn, told}
use Rattle.dms_manual.specs.Refused.{any_entry}
use Rattle.dms_model.specs.Db.{Db, Place, Records, SubsetEntry, place_cmp}
use Rattle.dms_model.specs.Members.{names}
use Rattle.dms_model.specs.Places.{places_total, then_equal}
use Rattle.dms_model.specs.Valid.{AreRising, entry_cmp, is_manual}
use Rattle.dms_sets.specs.Listing.{listing_of}
use Rattle.dms_sets.specs.Sets.{kinds_over}
use Rattle.dms_sets.specs.Spots.{StandsAmong, all_found}
use Rattle.dms_model.specs.Uses.{entry_of, has_entry}
use Rattle.dms_spelling.specs.Spelled.{EntrySet, as_set, entries_all, entry_told, list_at, list_or, mark}

-- ---- the order of entries

pub entries_total : IsTotalOrder entry_cmp
entries_total =
    then_total (on_total (λ (e : SubsetEntry). e.subset) nat_cmp_total) (then_total (on_total (λ (e : SubsetEntry). e.owner) nat_cmp_total) (on_total (λ (e : SubsetEntry). e.number) nat_cmp_total))

pub entries_same : IsAntisymmetric entry_cmp
entries_same a b h =
    let one = then_equal (nat_cmp a.subset b.subset) (ordering_then (nat_cmp a.owner b.owner) (nat_cmp a.number b.number)) h in
    let two = then_equal (nat_cmp a.owner b.owner) (nat_cmp a.number b.number) one.1 in
    let p = nat_cmp-IsAntisymmetric a.subset b.subset one.0 in
    let q = nat_cmp-IsAntisymmetric a.owner b.owner two.0 in
    let r = nat_cmp-IsAntisymmetric a.number b.number two.1 in
    λ i. record { subset = p i; owner = q i; number = r i }

unit_same : (o : Option (Unit {0})) → cond (is_some o) (Some tt) None ≡ o
unit_same None = refl
unit_same (Some x) = refl

-- an entry is one of these
abbrev pub is_one_of : SubsetEntry → List SubsetEntry → Bool
is_one_of x es = list_any (λ e. eq_by_cmp entry_cmp x e) es

found_mark : (x : SubsetEntry) (es : List SubsetEntry) → find entry_cmp x (map mark es) ≡ cond (is_one_of x es) (Some tt) None
found_mark x [] = refl
found_mark x (e ∷ es) = by (eq_by_cmp entry_cmp x e) (found_mark x es)
  where
    by : (b : Bool) → find entry_cmp x (map mark es) ≡ cond (is_one_of x es) (Some tt) None → cond b (Some tt) (find entry_cmp x (map mark es)) ≡ cond (b || is_one_of x es) (Some tt) None
    by true rest = refl
    by false rest = rest

pub set_get : (x : SubsetEntry) (es : List SubsetEntry) → get (as_set es) x ≡ cond (is_one_of x es) (Some tt) None
set_get x es = get-from_entries entries_total (map mark es) x ∙ found_mark x es

-- lists of the same entries are one set
pub same_set : (es fs : List SubsetEntry) → ((x : SubsetEntry) → is_one_of x es ≡ is_one_of x fs) → as_set es ≡ as_set fs
same_set es fs same = same_map entries_total entries_same _ _ (λ x. set_get x es ∙ (λ i. cond (same x i) (Some tt) None) ∙ sym (set_get x fs))

-- ---- rising entries are the elements of their set

true_both : (a b : Bool) → T a → T b → T (a && b)
true_both true b t u = u
true_both false b t u = absurd t

lt_of : (o : Ordering) → o ≡ Less → T (is_lt o)
lt_of Less h = tt
lt_of Equal h = absurd (cc)
lt_of Greater h = absurd (cc)

below_of : (e : SubsetEntry) (es : List SubsetEntry) → AllByRecursion (λ x. entry_cmp e x ≡ Less) es → T (below_all entry_cmp e (map mark es))
below_of e [] all = tt
below_of e (x ∷ es) all = true_both _ _ (lt_of (entry_cmp e x) all.0) (below_of e es all.1)

rising_sorted : (es : List SubsetEntry) → AreRising es → T (is_sorted entry_cmp (map mark es))
rising_sorted [] h = tt
rising_sorted (e ∷ es) h = true_both _ _ (below_of e es h.0) (rising_sorted es h.1)

unmark : (es : List SubsetEntry) → map (λ (e : SubsetEntry × Unit {0}). e.0) (map mark es) ≡ es
unmark [] = refl
unmark (e ∷ es) = ap (λ (xs : List SubsetEntry). e ∷ xs) (unmark es)

pub rising_keys : (es : List SubsetEntry) → AreRising es → keys (as_set es) ≡ es
rising_keys es h =
    let order = rising_sorted es h in
    let same : as_set es ≡ from_sorted {R = entry_cmp} (map mark es) =
    same_map entries_total entries_same _ _ (λ q. get-from_entries entries_total (map mark es) q ∙ sym (get-from_sorted entry_cmp (map mark es) q order)) in
    ap (λ (m : EntrySet). map (λ (e : SubsetEntry × Unit {0}). e.0) (entries m)) same
    ∙ ap (λ (xs : List (SubsetEntry × Unit {0})). map (λ (e : SubsetEntry × Unit {0}). e.0) xs) (entries-from_sorted entry_cmp (map mark es) order)
    ∙ unmark es

-- ---- the elements of one list

any_map : {A B : Type 0} (f : A → B) (p : B → Bool) (xs : List A) → list_any p (map f xs) ≡ list_any (λ x. p (f x)) xs
any_map f p [] = refl
any_map f p (x ∷ xs) = ap (λ b. p (f x) || b) (any_map f p xs)

pub any_more : {A : Type 0} (p : A → Bool) (xs ys : List A) → list_any p (xs ++ ys) ≡ (list_any p xs || list_any p ys)
any_more p [] ys = refl
any_more p (x ∷ xs) ys = by (p x) (any_more p xs ys)
  where
    by : (b : Bool) → list_any p (xs ++ ys) ≡ (list_any p xs || list_any p ys) → (b || list_any p (xs ++ ys)) ≡ ((b || list_any p xs) || list_any p ys)
    by true rest = refl
    by false rest = rest

module _ (desc : Described) (db : Db) (s : Shape) (small : SmallIn s db) (member : (o n : ℕ) → has_entry db s.number o n ≡ true → is_some (get db.records (s.set, n)) ≡ true) where
  member_some : (b : Bool) (o : ℕ) (r : Option Record) → (b ≡ true → is_some r ≡ true) → is_some (cond b (as_member o r) None) ≡ b
  member_some true o None h = h refl
  member_some true o (Some r) h = refl
  member_some false o r h = refl

  tie : (x : SubsetEntry) (e : Place × Record) → get (entered s db) e.0 ≡ Some e.1
      → eq_by_cmp entry_cmp x (entry_told s.number (bytes_for (kinds_over desc s) s e.0.0 e.0.1 e.1)) ≡ ((x.subset == s.number) && eq_by_cmp place_cmp (x.owner, x.number) e.0)
  tie x e at =
      let has = told_of (has_entry db s.number e.0.0 e.0.1) (as_member e.0.0 (get db.records (s.set, e.0.1))) (sym (entered_get s db e.0.0 e.0.1) ∙ at) in
      let place = told (kinds_over desc s) s e.0 e.1 (bytes_for (kinds_over desc s) s e.0.0 e.0.1 e.1) (small.each e.0.0 e.0.1 has) refl in
      (λ i. eq_by_cmp entry_cmp x (record { subset = s.number; owner = (sym place i).0; number = (sym place i).1 })) ∙ three x.subset x.owner x.number s.number e.0.0 e.0.1
    where
      told_of : (b : Bool) (o : Option Record) → cond b o None ≡ Some e.1 → b ≡ true
      told_of true o h = refl
      told_of false o h = absurd (cc)

      three : (a o n b p m : ℕ) → eq_by_cmp entry_cmp (record { subset = a; owner = o; number = n }) (record { subset = b; owner = p; number = m }) ≡ ((a == b) && eq_by_cmp place_cmp (o, n) (p, m))
      three a o n b p m = grind (arith, nat_tests)

  any_told : (x : SubsetEntry) (es : List (Place × Record)) → AllByRecursion (StandsAmong (entries (entered s db))) es
      → list_any (λ (e : Place × Record). eq_by_cmp entry_cmp x (entry_told s.number (bytes_for (kinds_over desc s) s e.0.0 e.0.1 e.1))) es ≡ ((x.subset == s.number) && is_some (find place_cmp (x.owner, x.number) es))
  any_told x [] found = off (x.subset == s.number)
    where
      off : (b : Bool) → false ≡ (b && false)
      off true = refl
      off false = refl
  any_told x (e ∷ es) found =
      (λ i. tie x e (get-entries (entered s db) e.0 ∙ found.0) i || any_told x es found.1 i)
      ∙ by (x.subset == s.number) (eq_by_cmp place_cmp (x.owner, x.number) e.0)
    where
      by : (a b : Bool) → ((a && b) || (a && is_some (find place_cmp (x.owner, x.number) es))) ≡ (a && is_some (cond b (Some e.1) (find place_cmp (x.owner, x.number) es)))
      by true true = refl
      by true false = refl
      by false b = refl

  -- The list of a subset tells its entries.
  pub list_tells : (x : SubsetEntry) → is_one_of x (map (entry_told s.number) (manual_of desc db s)) ≡ ((x.subset == s.number) && has_entry db s.number x.owner x.number)
  list_tells x =
      any_map (entry_told s.number) (λ e. eq_by_cmp entry_cmp x e) (manual_of desc db s)
      ∙ any_entry (kinds_over desc s) s (λ q. eq_by_cmp entry_cmp x (entry_told s.number q)) (entered s db)
      ∙ any_told x (entries (entered s db)) (all_found (entries (entered s db)) (entries_sorted (entered s db)))
      ∙ ap (λ (o : Option Record). (x.subset == s.number) && is_some o) (sym (get-entries (entered s db) (x.owner, x.number)) ∙ entered_get s db x.owner x.number)
      ∙ ap (λ b. (x.subset == s.number) && b) (member_some (has_entry db s.number x.owner x.number) x.owner (get db.records (s.set, x.number)) (member x.owner x.number))

-- ---- all lists

-- what is asked of one manual subset: its file is the list of its entries, and these are small and of records that stand
pub record ListTells (desc : Described) (db : Db) (c : Content) (s : Shape) : Type 0 where
  pub list : list_at desc c s ≡ Some (manual_of desc db s)
  pub small : SmallIn s db
  pub member : (o n : ℕ) → has_entry db s.number o n ≡ true → is_some (get db.records (s.set, n)) ≡ true

module _ (desc : Described) (db : Db) (c : Content) (x : SubsetEntry) where
  abbrev in_subset : Shape → Bool
  in_subset s = (s.kind == 5) && ((x.subset == s.number) && has_entry db s.number x.owner x.number)

  one_of_all : (ss : List Shape) → AllByRecursion (λ s. (s.kind == 5) ≡ true → ListTells desc db c s) ss → is_one_of x (entries_all desc c ss) ≡ list_any in_subset ss
  one_of_all [] all = refl
  one_of_all (s ∷ ss) all = by (s.kind == 5) refl (one_of_all ss all.1)
    where
      by : (b : Bool) → (s.kind == 5) ≡ b → is_one_of x (entries_all desc c ss) ≡ list_any in_subset ss
          → is_one_of x (cond b (map (entry_told s.number) (list_or (list_at desc c s)) ++ entries_all desc c ss) (entries_all desc c ss)) ≡ ((b && ((x.subset == s.number) && has_entry db s.number x.owner x.number)) || list_any in_subset ss)
      by true is rest =
          let here = all.0 is in
          any_more (λ e. eq_by_cmp entry_cmp x e) (map (entry_told s.number) (list_or (list_at desc c s))) (entries_all desc c ss)
          ∙ (λ i. (ap (λ o. is_one_of x (map (entry_told s.number) (list_or o))) here.list ∙ list_tells desc db s here.small here.member x) i || rest i)
      by false is rest = rest

  -- an entry is that of a manual subset
  any_off : (ss : List Shape) → has_entry db x.subset x.owner x.number ≡ false → list_any in_subset ss ≡ false
  any_off [] none = refl
  any_off (s ∷ ss) none = λ i. off (x.subset == s.number) refl i || any_off ss none i
    where
      no : (b : Bool) → (b && false) ≡ false
      no true = refl
      no false = refl

      off : (b : Bool) → (x.subset == s.number) ≡ b → ((s.kind == 5) && (b && has_entry db s.number x.owner x.number)) ≡ false
      off true is = let e : s.number ≡ x.subset = grind (arith, nat_tests, is) in ap (λ h. (s.kind == 5) && (true && h)) (ap (λ n. has_entry db n x.owner x.number) e ∙ none) ∙ no (s.kind == 5)
      off false is = no (s.kind == 5)

  any_on : (ss : List Shape) (i : ℕ) (s : Shape) → slice_get ss i ≡ Some s → (s.kind == 5) ≡ true → s.number ≡ x.subset → has_entry db x.subset x.owner x.number ≡ true → list_any in_subset ss ≡ true
  any_on [] i s at kind number has = absurd (cc)
  any_on (t ∷ ss) zero s at kind number has =
      let same : t ≡ s = same_Some t s at in
      let here : (x.subset == s.number) ≡ true = grind (arith, nat_tests, number) in
      let holds : has_entry db s.number x.owner x.number ≡ true = ap (λ n. has_entry db n x.owner x.number) number ∙ has in
      let yes : in_subset s ≡ true = λ i. kind i && (here i && holds i) in
      ap (λ b. b || list_any in_subset ss) (ap in_subset same ∙ yes)
  any_on (t ∷ ss) (suc i) s at kind number has = ap (λ b. in_subset t || b) (any_on ss i s at kind number has) ∙ on (in_subset t)
    where
      on : (b : Bool) → (b || true) ≡ true
      on true = refl
      on false = refl

-- Each entry is of a manual subset of the description.
abbrev pub AreOfSubsets : Described → Db → Type 0
AreOfSubsets desc db = (a o n : ℕ) → has_entry db a o n ≡ true → is_manual (structure_of desc a) ≡ true

own_tie : (x : SubsetEntry) (es : List SubsetEntry) → is_one_of x es ≡ list_any (names x.subset x.owner x.number) es
own_tie x [] = refl
own_tie x (e ∷ es) = λ i. three x.subset x.owner x.number e.subset e.owner e.number i || own_tie x es i
  where
    three : (a o n b p m : ℕ) → eq_by_cmp entry_cmp (record { subset = a; owner = o; number = n }) (record { subset = b; owner = p; number = m }) ≡ ((b == a) && (p == o) && (m == n))
    three a o n b p m = grind (arith, nat_tests)

module _ (desc : Described) (db : Db) (c : Content) (numbered : (n : ℕ) (s : Shape) → structure_of desc n ≡ Some s → s.number ≡ n)
    (told_all : AllByRecursion (λ s. (s.kind == 5) ≡ true → ListTells desc db c s) desc.structures) (of : AreOfSubsets desc db) where
  has_shape : (x : SubsetEntry) (n : ℕ) (o : Option Shape) → structure_of desc n ≡ o → n ≡ x.subset → is_manual o ≡ true → has_entry db x.subset x.owner x.number ≡ true → list_any (in_subset desc db c x) desc.structures ≡ true
  has_shape x n None at same kind has = absurd (cc)
  has_shape x zero (Some s) at same kind has = absurd (cc)
  has_shape x (suc n) (Some s) at same kind has = any_on desc db c x desc.structures n s (shape_at n at) kind (numbered (suc n) s at ∙ same) has
    where
      shape_at : (k : ℕ) → cond (suc k == 0) None (slice_get desc.structures (suc k - 1)) ≡ Some s → slice_get desc.structures k ≡ Some s
      shape_at k h =
          let t : (suc k == 0) ≡ false = grind (arith, nat_tests) in
          let e : k ≡ suc k - 1 = omega arith in
          ap (slice_get desc.structures) e ∙ sym (ap (λ b. cond b None (slice_get desc.structures (suc k - 1))) t) ∙ h

  all_tell : (x : SubsetEntry) → is_one_of x (entries_all desc c desc.structures) ≡ is_one_of x db.entries
  all_tell x = one_of_all desc db c x desc.structures told_all ∙ by (has_entry db x.subset x.owner x.number) refl ∙ sym (own_tie x db.entries)
    where
      by : (b : Bool) → has_entry db x.subset x.owner x.number ≡ b → list_any (in_subset desc db c x) desc.structures ≡ b
      by true is = has_shape x x.subset (structure_of desc x.subset) refl refl (of x.subset x.owner x.number is) is
      by false is = any_off desc db c x desc.structures is

  -- The lists tell the entries of the database.
  pub entries_again : AreRising db.entries → keys (as_set (entries_all desc c desc.structures)) ≡ db.entries
  entries_again rising = ap (λ (m : EntrySet). keys m) (same_set (entries_all desc c desc.structures) db.entries all_tell) ∙ rising_keys db.entries rising
