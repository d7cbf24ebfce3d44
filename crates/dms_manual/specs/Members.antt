-- The members of a manual subset for an owner, by bounds: the landed looks at a set hold of its entries for that owner.
use Rattle.std.proofs.Common.{◌≡◌, ◌∙◌, ◌+◌, ◌^◌, ◌<◌, ℕ, List, [], ◌∷◌, ◌++◌, Bool, true, false, cond, Some, None, refl, sym, ap, subst, map, arith}
use Rattle.std.specs.Prelude.{T, ◌&&◌, ◌==◌, ◌||◌}
use Rattle.std.specs.List.{AllByRecursion, list_any}
use Rattle.std.specs.Option.{option_map}
use Rattle.std.specs.declared.option.Option.{Option}
use Rattle.std.specs.FinMap.{entries, entries-from_sorted, entries_sorted, find, from_sorted, get, get-entries, get-from_sorted, is_sorted, keys}
use Rattle.std.specs.FinMap.Entries.{below_all}
use Rattle.std.specs.Int.{w32, to_be_bytes}
use Rattle.std.specs.Ordering.{eq_by_cmp, is_gt, is_lt, nat_cmp, ordering_then}
use Rattle.std.specs.declared.cmp.Ordering.{Ordering}
use Rattle.std.specs.declared.cmp.Ordering.TheVariants.{Less, Equal, Greater}
use Rattle.std.proofs.lemmas.Bool.{and_parts, not-true}
use Rattle.std.proofs.lemmas.Bool.Decides.{nat_tests}
use Rattle.std.proofs.lemmas.Option.{same_Some}
use Rattle.dms_base.specs.declared.kind.ItemKind.{ItemKind}
use Rattle.dms_desc.specs.declared.bound.Bound.{Bound}
use Rattle.dms_desc.specs.declared.bound.Bound.TheVariants.{Start, End, At, From}
use Rattle.dms_desc.specs.declared.record.Record.{Record}
use Rattle.dms_desc.specs.declared.structure.KeyPart.{KeyPart}
use Rattle.dms_desc.specs.Keys.{key_of}
use Rattle.dms_desc.specs.Kinds.{over, takes}
use Rattle.dms_desc.specs.Lookups.{items_of, structure_of}
use Rattle.dms_desc.specs.Shape.{Shape, Described}
use Rattle.dms_desc.specs.Sorted.{first, last, or_else, place_in, sort, that_passes}
use Rattle.dms_key.specs.KeyBytes.{key_bytes, key_width}
use Rattle.dms_model.specs.Db.{Db, Place, Records, place_cmp}
use Rattle.dms_model.specs.Fresh.{first_true, second_true}
use Rattle.dms_model.specs.Members.{belongs, first_member, first_of, is_after_bound, is_before, is_before_bound, last_member, last_of, members, names, spot_of, spots_of}
use Rattle.dms_model.specs.Places.{place_is}
use Rattle.dms_model.specs.Uses.{has_entry}
use Rattle.dms_model.specs.declared.spot.Spot.{Spot}
use Rattle.dms_chain.specs.Lists.{AreInByteOrder, any_with, bytes_cmp, empty_keys, first_from, is_same, keys_rise, last_to, with_in}
use Rattle.dms_chain.specs.Lists as list
use Rattle.dms_sets.specs.Bounds.{BoundKeyFits, first_member_is, owner_first, passes, shorter}
use Rattle.dms_sets.specs.Determined.{rising_same}
use Rattle.dms_sets.specs.Entries.{IsSetKey, entry_bytes, kinds_of}
use Rattle.dms_sets.specs.Finds.{spot_by}
use Rattle.dms_sets.specs.Lasts.{last_member_is, owner_last, precedes}
use Rattle.dms_sets.specs.Listing.{listing, listing_of}
use Rattle.dms_sets.specs.Padded.{BoundSmall, IsSetEntry, first_is, from_bytes, last_is, to_bytes}
use Rattle.dms_sets.specs.Prefixes.{front_cmp, reaches_is}
use Rattle.dms_sets.specs.Owners.{EntriesFit, EntryFits, is_of, is_of_entry, of_owner, spot_bytes}
use Rattle.dms_sets.specs.Sets.{entries_of, entry_of, items_over, keys_with_opt, kinds_over, listed_in}
use Rattle.dms_sets.specs.Spots.{NameItems, RecordsHaveSpots, StandsAmong, ValuesFit, all_fit, all_found, and_then, key_fits, members_back, spot_at}
use Rattle.dms_manual.specs.Entered.{as_member, entered, entered_get, manual_of, member_entry}
use Rattle.dms_manual.specs.Followed.{passing_rise}
use Rattle.dms_manual.specs.Following.{for_owner}
use Rattle.dms_manual.specs.Listed.{bytes_for}
use Rattle.dms_manual.specs.Moves.{SmallIn, any_where}
use Rattle.dms_manual.specs.Refused.{any_at, any_entry, any_from, behind, number_itself, number_same, over_manual, same_bool}
use Rattle.dms_manual.specs.Seen.{entered_fit, list_over, shaped}

-- ---- the records that are entered for an owner, as a data set of their own

abbrev as_set : Shape → Shape
as_set s = record s { kind = 3 }

abbrev is_here : Shape → Db → ℕ → Place → Bool
is_here s db o k = (over s == k.0) && has_entry db s.number o k.1

abbrev own_rows : Shape → Db → ℕ → List (Place × Record) → List (Place × Record)
own_rows s db o [] = []
own_rows s db o (e ∷ es) = cond (is_here s db o e.0) ((e.0, for_owner o e.1) ∷ own_rows s db o es) (own_rows s db o es)

abbrev own_records : Shape → Db → ℕ → Records
own_records s db o = from_sorted (own_rows s db o (entries db.records))

abbrev own_db : Shape → Db → ℕ → Db
own_db s db o = record { records = own_records s db o; entries = [] }

both_true : (a b : Bool) → T a → T b → T (a && b)
both_true true b p q = q
both_true false b p q = p

module _ (s : Shape) (db : Db) (o : ℕ) where
  own_below : (k : Place) (es : List (Place × Record)) → T (below_all place_cmp k es) → T (below_all place_cmp k (own_rows s db o es))
  own_below k [] h = tt
  own_below k (e ∷ es) h = by (is_here s db o e.0) (own_below k es (second_true _ _ h))
    where
      by : (b : Bool) → T (below_all place_cmp k (own_rows s db o es)) → T (below_all place_cmp k (cond b ((e.0, for_owner o e.1) ∷ own_rows s db o es) (own_rows s db o es)))
      by true rest = both_true (is_lt (place_cmp k e.0)) (below_all place_cmp k (own_rows s db o es)) (first_true _ _ h) rest
      by false rest = rest

  own_sorted : (es : List (Place × Record)) → T (is_sorted place_cmp es) → T (is_sorted place_cmp (own_rows s db o es))
  own_sorted [] h = tt
  own_sorted (e ∷ es) h = by (is_here s db o e.0) (own_sorted es (second_true _ _ h))
    where
      by : (b : Bool) → T (is_sorted place_cmp (own_rows s db o es)) → T (is_sorted place_cmp (cond b ((e.0, for_owner o e.1) ∷ own_rows s db o es) (own_rows s db o es)))
      by true rest = both_true (below_all place_cmp e.0 (own_rows s db o es)) (is_sorted place_cmp (own_rows s db o es)) (own_below e.0 es (first_true _ _ h)) rest
      by false rest = rest

  own_find : (k : Place) (es : List (Place × Record)) → find place_cmp k (own_rows s db o es) ≡ cond (is_here s db o k) (as_member o (find place_cmp k es)) None
  own_find k [] = by (is_here s db o k)
    where
      by : (b : Bool) → ◌≡◌ {A = Option Record} None (cond b None None)
      by true = refl
      by false = refl
  own_find k (e ∷ es) = by (is_here s db o e.0) (eq_by_cmp place_cmp k e.0) refl refl (own_find k es)
    where
      by : (b t : Bool) → is_here s db o e.0 ≡ b → eq_by_cmp place_cmp k e.0 ≡ t → find place_cmp k (own_rows s db o es) ≡ cond (is_here s db o k) (as_member o (find place_cmp k es)) None
          → find place_cmp k (cond b ((e.0, for_owner o e.1) ∷ own_rows s db o es) (own_rows s db o es)) ≡ cond (is_here s db o k) (as_member o (cond t (Some e.1) (find place_cmp k es))) None
      by true true is tie rest =
          let same : k ≡ e.0 = place_is k e.0 tie in
          ap (λ c. cond c (Some (for_owner o e.1)) (find place_cmp k (own_rows s db o es))) tie ∙ sym (ap (λ c. cond c (Some (for_owner o e.1)) None) (ap (is_here s db o) same ∙ is))
      by true false is tie rest = ap (λ c. cond c (Some (for_owner o e.1)) (find place_cmp k (own_rows s db o es))) tie ∙ rest
      by false true is tie rest =
          let off : is_here s db o k ≡ false = ap (is_here s db o) (place_is k e.0 tie) ∙ is in
          rest ∙ ap (λ c. cond c (as_member o (find place_cmp k es)) None) off ∙ sym (ap (λ c. cond c (Some (for_owner o e.1)) None) off)
      by false false is tie rest = rest

  rows_sorted : T (is_sorted place_cmp (own_rows s db o (entries db.records)))
  rows_sorted = own_sorted (entries db.records) (entries_sorted db.records)

  own_get : (k : Place) → get (own_records s db o) k ≡ cond (is_here s db o k) (as_member o (get db.records k)) None
  own_get k =
      get-from_sorted place_cmp (own_rows s db o (entries db.records)) k rows_sorted ∙ own_find k (entries db.records)
      ∙ ap (λ x. cond (is_here s db o k) (as_member o x) None) (sym (get-entries db.records k))

  own_entries : entries (own_records s db o) ≡ own_rows s db o (entries db.records)
  own_entries = entries-from_sorted place_cmp (own_rows s db o (entries db.records)) rows_sorted

-- ---- members

abbrev owned_spot : ℕ → Spot → Spot
owned_spot o x = record x { rec = for_owner o x.rec }

module _ (s : Shape) (db : Db) (o : ℕ) (manual : (s.kind == 5) ≡ true) where
  spots_are : (es : List (Place × Record)) → spots_of (as_set s) [] o (own_rows s db o es) ≡ map (owned_spot o) (spots_of s db.entries o es)
  spots_are [] = refl
  spots_are (e ∷ es) = by (is_here s db o e.0) refl (spots_are es) ∙ ap (λ b. map (owned_spot o) (cond b (spot_of s.parts e ∷ spots_of s db.entries o es) (spots_of s db.entries o es))) (sym belongs_here)
    where
      belongs_here : belongs s db.entries o e ≡ is_here s db o e.0
      belongs_here = ap (λ b. (over s == e.0.0) && cond b (list_any (names s.number o e.0.1) db.entries) ((o == e.1.owner) && takes s e.1.values)) manual

      by : (b : Bool) → is_here s db o e.0 ≡ b → spots_of (as_set s) [] o (own_rows s db o es) ≡ map (owned_spot o) (spots_of s db.entries o es)
          → spots_of (as_set s) [] o (cond b ((e.0, for_owner o e.1) ∷ own_rows s db o es) (own_rows s db o es)) ≡ map (owned_spot o) (cond b (spot_of s.parts e ∷ spots_of s db.entries o es) (spots_of s db.entries o es))
      by true is rest =
          let set : (s.set == e.0.0) ≡ true = ap (λ k. k == e.0.0) (sym (over_manual s manual)) ∙ (and_parts (over s == e.0.0) (has_entry db s.number o e.0.1) is).0 in
          let on : belongs (as_set s) [] o (e.0, for_owner o e.1) ≡ true = (λ i. set i && (number_itself o i && true)) in
          ap (λ c. cond c (owned_spot o (spot_of s.parts e) ∷ spots_of (as_set s) [] o (own_rows s db o es)) (spots_of (as_set s) [] o (own_rows s db o es))) on
          ∙ ap (λ (xs : List Spot). owned_spot o (spot_of s.parts e) ∷ xs) rest
      by false is rest = rest

  placed_are : (x : Spot) (xs : List Spot) → place_in (is_before s.parts) (owned_spot o x) (map (owned_spot o) xs) ≡ map (owned_spot o) (place_in (is_before s.parts) x xs)
  placed_are x [] = refl
  placed_are x (y ∷ xs) = by (is_before s.parts x y) (placed_are x xs)
    where
      by : (b : Bool) → place_in (is_before s.parts) (owned_spot o x) (map (owned_spot o) xs) ≡ map (owned_spot o) (place_in (is_before s.parts) x xs)
          → cond b (owned_spot o x ∷ owned_spot o y ∷ map (owned_spot o) xs) (owned_spot o y ∷ place_in (is_before s.parts) (owned_spot o x) (map (owned_spot o) xs)) ≡ map (owned_spot o) (cond b (x ∷ y ∷ xs) (y ∷ place_in (is_before s.parts) x xs))
      by true rest = refl
      by false rest = ap (λ (zs : List Spot). owned_spot o y ∷ zs) rest

  sorted_are : (xs : List Spot) → sort (is_before s.parts) (map (owned_spot o) xs) ≡ map (owned_spot o) (sort (is_before s.parts) xs)
  sorted_are [] = refl
  sorted_are (x ∷ xs) = ap (place_in (is_before s.parts) (owned_spot o x)) (sorted_are xs) ∙ placed_are x (sort (is_before s.parts) xs)

  pub members_are : members (as_set s) (own_db s db o) o ≡ map (owned_spot o) (members s db o)
  members_are =
      ap (λ (es : List (Place × Record)). sort (is_before s.parts) (spots_of (as_set s) [] o es)) (own_entries s db o)
      ∙ ap (sort (is_before s.parts)) (spots_are (entries db.records)) ∙ sorted_are (spots_of s db.entries o (entries db.records))

-- ---- bytes of members

module _ (kinds : List ItemKind) (ps : List KeyPart) (o : ℕ) where
  abbrev bytes_in : Spot → List ℕ
  bytes_in = spot_bytes kinds ps o

  first_owned : (p : Spot → Bool) → ((x : Spot) → p (owned_spot o x) ≡ p x) → (xs : List Spot) → option_map bytes_in (first p (map (owned_spot o) xs)) ≡ option_map bytes_in (first p xs)
  first_owned p same [] = refl
  first_owned p same (x ∷ xs) = ap (λ b. option_map bytes_in (cond b (Some (owned_spot o x)) (first p (map (owned_spot o) xs)))) (same x) ∙ by (p x) (first_owned p same xs)
    where
      by : (b : Bool) → option_map bytes_in (first p (map (owned_spot o) xs)) ≡ option_map bytes_in (first p xs)
          → option_map bytes_in (cond b (Some (owned_spot o x)) (first p (map (owned_spot o) xs))) ≡ option_map bytes_in (cond b (Some x) (first p xs))
      by true rest = refl
      by false rest = rest

  else_map : (a b : Option Spot) → option_map bytes_in (or_else a b) ≡ or_else (option_map bytes_in a) (option_map bytes_in b)
  else_map None b = refl
  else_map (Some x) b = refl

  last_owned : (p : Spot → Bool) → ((x : Spot) → p (owned_spot o x) ≡ p x) → (xs : List Spot) → option_map bytes_in (last p (map (owned_spot o) xs)) ≡ option_map bytes_in (last p xs)
  last_owned p same [] = refl
  last_owned p same (x ∷ xs) =
      else_map (last p (map (owned_spot o) xs)) (cond (p (owned_spot o x)) (Some (owned_spot o x)) None)
      ∙ (λ i. or_else (last_owned p same xs i) (option_map bytes_in (cond (same x i) (Some (owned_spot o x)) None)))
      ∙ ap (or_else (option_map bytes_in (last p xs))) (by (p x))
      ∙ sym (else_map (last p xs) (cond (p x) (Some x) None))
    where
      by : (b : Bool) → option_map bytes_in (cond b (Some (owned_spot o x)) None) ≡ option_map bytes_in (cond b (Some x) None)
      by true = refl
      by false = refl

after_same : (ps : List KeyPart) (o : ℕ) (bound : Bound) (x : Spot) → is_after_bound ps bound (owned_spot o x) ≡ is_after_bound ps bound x
after_same ps o Start x = refl
after_same ps o End x = refl
after_same ps o (At key n) x = refl
after_same ps o (From key) x = refl

before_same : (ps : List KeyPart) (o : ℕ) (bound : Bound) (x : Spot) → is_before_bound ps bound (owned_spot o x) ≡ is_before_bound ps bound x
before_same ps o Start x = refl
before_same ps o End x = refl
before_same ps o (At key n) x = refl
before_same ps o (From key) x = refl

-- ---- the entries for the owner

module _ (kinds : List ItemKind) (s : Shape) (db : Db) (o : ℕ) (manual : (s.kind == 5) ≡ true) (small : SmallIn s db) (low : o < 2 ^ 32) where
  -- an entry of the data set of these records
  row_entry : (k : Place) (r : Record) → is_here s db o k ≡ true → entry_of kinds (as_set s) k (for_owner o r) ≡ Some (bytes_for kinds s o k.1 r)
  row_entry k r is =
      let set : (s.set == k.0) ≡ true = ap (λ n. n == k.0) (sym (over_manual s manual)) ∙ (and_parts (over s == k.0) (has_entry db s.number o k.1) is).0 in
      ap (λ b. cond (b && true) (Some (bytes_for kinds s o k.1 r)) None) set

  rows_any : (p : List ℕ → Bool) (es : List (Place × Record)) → list_any p (keys (listing (entry_of kinds (as_set s)) (own_rows s db o es))) ≡ list_any (λ (e : Place × Record). p (bytes_for kinds s o e.0.1 e.1)) (own_rows s db o es)
  rows_any p [] = ap (list_any p) empty_keys
  rows_any p (e ∷ es) = by (is_here s db o e.0) refl (rows_any p es)
    where
      by : (b : Bool) → is_here s db o e.0 ≡ b → list_any p (keys (listing (entry_of kinds (as_set s)) (own_rows s db o es))) ≡ list_any (λ (d : Place × Record). p (bytes_for kinds s o d.0.1 d.1)) (own_rows s db o es)
          → list_any p (keys (listing (entry_of kinds (as_set s)) (cond b ((e.0, for_owner o e.1) ∷ own_rows s db o es) (own_rows s db o es))))
          ≡ list_any (λ (d : Place × Record). p (bytes_for kinds s o d.0.1 d.1)) (cond b ((e.0, for_owner o e.1) ∷ own_rows s db o es) (own_rows s db o es))
      by true is rest =
          ap (list_any p) (keys_with_opt (entry_of kinds (as_set s) e.0 (for_owner o e.1)) (listing (entry_of kinds (as_set s)) (own_rows s db o es)))
          ∙ ap (λ x. list_any p (with_in x (keys (listing (entry_of kinds (as_set s)) (own_rows s db o es))))) (row_entry e.0 e.1 is)
          ∙ any_with p (bytes_for kinds s o e.0.1 e.1) (keys (listing (entry_of kinds (as_set s)) (own_rows s db o es)))
          ∙ ap (λ c. p (bytes_for kinds s o e.0.1 e.1) || c) rest
      by false is rest = rest

  own_any : (p : List ℕ → Bool) → list_any p (keys (listed_in kinds (as_set s) (own_records s db o))) ≡ list_any (λ (e : Place × Record). p (bytes_for kinds s o e.0.1 e.1)) (entries (own_records s db o))
  own_any p =
      ap (λ (es : List (Place × Record)). list_any p (keys (listing (entry_of kinds (as_set s)) es))) (own_entries s db o) ∙ rows_any p (entries db.records)
      ∙ ap (λ (es : List (Place × Record)). list_any (λ (e : Place × Record). p (bytes_for kinds s o e.0.1 e.1)) es) (sym (own_entries s db o))

  -- a record of that data set
  record Own (k : Place) (x : Record) : Type 0 where
    here : is_here s db o k ≡ true
    rec : Record
    stands : get db.records k ≡ Some rec
    is : for_owner o rec ≡ x

  own_of : (k : Place) (x : Record) → get (own_records s db o) k ≡ Some x → Own k x
  own_of k x at = by (is_here s db o k) (get db.records k) refl refl (sym (own_get s db o k) ∙ at)
    where
      by : (b : Bool) (y : Option Record) → is_here s db o k ≡ b → get db.records k ≡ y → cond b (as_member o y) None ≡ Some x → Own k x
      by true None e f h = absurd (cc h)
      by true (Some y) e f h = record { here = e; rec = y; stands = f; is = same_Some (for_owner o y) x h }
      by false y e f h = absurd (cc h)

  module _ (q : List ℕ) where
    abbrev mine_is : Place × Record → Bool
    mine_is e = is_of o (bytes_for kinds s e.0.0 e.0.1 e.1) && is_same q (bytes_for kinds s e.0.0 e.0.1 e.1)

    abbrev own_is : Place × Record → Bool
    own_is e = is_same q (bytes_for kinds s o e.0.1 e.1)

    to_own : list_any mine_is (entries (entered s db)) ≡ true → list_any own_is (entries (own_records s db o)) ≡ true
    to_own h =
        let f = any_from mine_is (entered s db) h in
        let b = behind s db f.place.0 f.place.1 f.rec f.at in
        let two = and_parts (is_of o (bytes_for kinds s f.place.0 f.place.1 f.rec)) (is_same q (bytes_for kinds s f.place.0 f.place.1 f.rec)) f.holds in
        let of : o ≡ f.place.0 = number_same o f.place.0 (sym (is_of_entry kinds s.parts o f.place.0 (key_of s.parts f.rec.values) f.place.1 low (small.each f.place.0 f.place.1 b.has).0) ∙ two.0) in
        let has : has_entry db s.number o f.place.1 ≡ true = ap (λ w. has_entry db s.number w f.place.1) of ∙ b.has in
        let set : (over s == s.set) ≡ true = ap (λ k. k == s.set) (over_manual s manual) ∙ number_itself s.set in
        let here : is_here s db o (s.set, f.place.1) ≡ true = (λ i. set i && has i) in
        let there : get (own_records s db o) (s.set, f.place.1) ≡ Some (for_owner o b.rec) = own_get s db o (s.set, f.place.1) ∙ (λ i. cond (here i) (as_member o (b.stands i)) None) in
        any_at own_is (own_records s db o) (s.set, f.place.1) (for_owner o b.rec) there
        (ap (λ (r : Record). is_same q (bytes_for kinds s o f.place.1 r)) b.is ∙ ap (λ w. is_same q (bytes_for kinds s w f.place.1 f.rec)) of ∙ two.1)

    from_own : list_any own_is (entries (own_records s db o)) ≡ true → list_any mine_is (entries (entered s db)) ≡ true
    from_own h =
        let f = any_from own_is (own_records s db o) h in
        let b = own_of f.place f.rec f.at in
        let two = and_parts (over s == f.place.0) (has_entry db s.number o f.place.1) b.here in
        let set : f.place.0 ≡ s.set = sym (number_same (over s) f.place.0 two.0) ∙ over_manual s manual in
        let stands : get db.records (s.set, f.place.1) ≡ Some b.rec = ap (λ k. get db.records (k, f.place.1)) (sym set) ∙ b.stands in
        let has = two.1 in
        let there : get (entered s db) (o, f.place.1) ≡ Some (for_owner o b.rec) = entered_get s db o f.place.1 ∙ (λ i. cond (has i) (as_member o (stands i)) None) in
        let of : is_of o (bytes_for kinds s o f.place.1 b.rec) ≡ true = is_of_entry kinds s.parts o o (key_of s.parts b.rec.values) f.place.1 low low ∙ number_itself o in
        let same : is_same q (bytes_for kinds s o f.place.1 b.rec) ≡ true = ap (λ (r : Record). is_same q (bytes_for kinds s o f.place.1 r)) b.is ∙ f.holds in
        any_at mine_is (entered s db) (o, f.place.1) (for_owner o b.rec) there (λ i. of i && same i)

    same_entry : list.has_entry q (of_owner o (list_over kinds s (entered s db))) ≡ list.has_entry q (keys (listed_in kinds (as_set s) (own_records s db o)))
    same_entry =
        any_where (is_same q) (is_of o) (list_over kinds s (entered s db)) ∙ any_entry kinds s (λ y. is_of o y && is_same q y) (entered s db)
        ∙ same_bool _ _ to_own from_own ∙ sym (own_any (is_same q))

  pub owned_list : of_owner o (list_over kinds s (entered s db)) ≡ keys (listed_in kinds (as_set s) (own_records s db o))
  owned_list =
      rising_same (of_owner o (list_over kinds s (entered s db))) (keys (listed_in kinds (as_set s) (own_records s db o)))
      (passing_rise (is_of o) (list_over kinds s (entered s db)) (keys_rise (listing_of (member_entry kinds s) (entered s db))))
      (keys_rise (listed_in kinds (as_set s) (own_records s db o))) same_entry

  own_fit : ((m : ℕ) (x : Record) → get db.records (s.set, m) ≡ Some x → IsSetKey kinds s.parts (key_of s.parts x.values)) → EntriesFit kinds (as_set s) (entries (own_records s db o))
  own_fit fit = all_in (entries (own_records s db o)) (all_found (entries (own_records s db o)) (entries_sorted (own_records s db o)))
    where
      one : (k : Place) (x : Record) → Own k x → EntryFits kinds (as_set s) (k, x)
      one k x b =
          let two = and_parts (over s == k.0) (has_entry db s.number o k.1) b.here in
          let set : k.0 ≡ s.set = sym (number_same (over s) k.0 two.0) ∙ over_manual s manual in
          let stands : get db.records (s.set, k.1) ≡ Some b.rec = ap (λ n. get db.records (n, k.1)) (sym set) ∙ b.stands in
          record {
            small = (small.each o k.1 two.1).1;
            owner = subst (λ (r : Record). r.owner < 2 ^ 32) b.is low;
            key = λ at. subst (λ (r : Record). IsSetKey kinds s.parts (key_of s.parts r.values)) b.is (fit k.1 b.rec stands);
          }

      all_in : (es : List (Place × Record)) → AllByRecursion (StandsAmong (entries (own_records s db o))) es → EntriesFit kinds (as_set s) es
      all_in [] found = tt
      all_in (e ∷ es) found = (one e.0 e.1 (own_of e.0 e.1 (get-entries (own_records s db o) e.0 ∙ found.0)), all_in es found.1)

-- ---- bounds

lt_not_gt : (o : Ordering) → is_lt o ≡ true → is_gt o ≡ false
lt_not_gt Less h = refl
lt_not_gt Equal h = absurd (cc h)
lt_not_gt Greater h = absurd (cc h)

-- what passes a bound of an owner isn't below its entries,
passes_owner : (kinds : List ItemKind) (ps : List KeyPart) (owner : ℕ) (bound : Bound) (q : List ℕ) → passes kinds ps owner bound q ≡ true → is_gt (front_cmp (to_be_bytes w32 owner) q) ≡ false
passes_owner kinds ps owner Start q h = not-true (is_gt (front_cmp (to_be_bytes w32 owner) q)) h
passes_owner kinds ps owner End q h = absurd (cc h)
passes_owner kinds ps owner (At key n) q h =
    shorter (to_be_bytes w32 owner) (key_bytes kinds ps key ++ to_be_bytes w32 n) q (reaches_is (entry_bytes kinds ps owner key n) q ∙ lt_not_gt (bytes_cmp (entry_bytes kinds ps owner key n) q) h)
passes_owner kinds ps owner (From key) q h = shorter (to_be_bytes w32 owner) (key_bytes kinds ps key ++ []) q (not-true _ h)

front_above : (p r q : List ℕ) → front_cmp p q ≡ Less → front_cmp (p ++ r) q ≡ Less
front_above [] r q h = absurd (cc h)
front_above (a ∷ p) r [] h = absurd (cc h)
front_above (a ∷ p) r (b ∷ q) h = less_then (nat_cmp a b) (front_cmp p q) (front_cmp (p ++ r) q) (front_above p r q) h
  where
    less_then : (o x y : Ordering) → (x ≡ Less → y ≡ Less) → ordering_then o x ≡ Less → ordering_then o y ≡ Less
    less_then Less x y f e = refl
    less_then Equal x y f e = f e
    less_then Greater x y f e = absurd (cc e)

not_above : (o : Ordering) (p r q : List ℕ) → front_cmp p q ≡ o → is_gt (front_cmp (p ++ r) q) ≡ true → is_lt o ≡ false
not_above Less p r q is h = absurd (cc (ap is_gt (front_above p r q is), h))
not_above Equal p r q is h = refl
not_above Greater p r q is h = refl

-- and what precedes one isn't above them
precedes_owner : (kinds : List ItemKind) (ps : List KeyPart) (owner : ℕ) (bound : Bound) (q : List ℕ) → precedes kinds ps owner bound q ≡ true → is_lt (front_cmp (to_be_bytes w32 owner) q) ≡ false
precedes_owner kinds ps owner Start q h = absurd (cc h)
precedes_owner kinds ps owner End q h = not-true (is_lt (front_cmp (to_be_bytes w32 owner) q)) h
precedes_owner kinds ps owner (At key n) q h =
    let front : List ℕ = to_be_bytes w32 owner in
    not_above (front_cmp front q) front (key_bytes kinds ps key ++ to_be_bytes w32 n) q refl (reaches_is (entry_bytes kinds ps owner key n) q ∙ h)
precedes_owner kinds ps owner (From key) q h =
    let front : List ℕ = to_be_bytes w32 owner in
    not_above (front_cmp front q) front (key_bytes kinds ps key ++ []) q refl h

twice : (t : List ℕ → Bool) (o : Option (List ℕ)) → that_passes t (that_passes t o) ≡ that_passes t o
twice t None = refl
twice t (Some q) = by (t q) refl
  where
    by : (b : Bool) → t q ≡ b → that_passes t (cond b (Some q) None) ≡ cond b (Some q) None
    by true is = ap (λ c. cond c (Some q) None) is
    by false is = refl

-- ---- members back from entries

module _ (s : Shape) (db : Db) (kinds : List ItemKind) (o : ℕ) where
  abbrev IsBack : Spot → Type 0
  IsBack x = spot_at s db (spot_bytes kinds s.parts o x) ≡ Some x

  first_again : (p : Spot → Bool) (xs : List Spot) → AllByRecursion IsBack xs → first p xs ≡ and_then (option_map (spot_bytes kinds s.parts o) (first p xs)) (spot_at s db)
  first_again p [] all = refl
  first_again p (x ∷ xs) all = by (p x) (first_again p xs all.1)
    where
      by : (b : Bool) → first p xs ≡ and_then (option_map (spot_bytes kinds s.parts o) (first p xs)) (spot_at s db)
          → cond b (Some x) (first p xs) ≡ and_then (option_map (spot_bytes kinds s.parts o) (cond b (Some x) (first p xs))) (spot_at s db)
      by true rest = sym all.0
      by false rest = rest

  else_again : (a : Option Spot) (b : Bool) (x : Spot) → IsBack x → a ≡ and_then (option_map (spot_bytes kinds s.parts o) a) (spot_at s db)
      → or_else a (cond b (Some x) None) ≡ and_then (option_map (spot_bytes kinds s.parts o) (or_else a (cond b (Some x) None))) (spot_at s db)
  else_again None true x back rest = sym back
  else_again None false x back rest = refl
  else_again (Some y) b x back rest = rest

  last_again : (p : Spot → Bool) (xs : List Spot) → AllByRecursion IsBack xs → last p xs ≡ and_then (option_map (spot_bytes kinds s.parts o) (last p xs)) (spot_at s db)
  last_again p [] all = refl
  last_again p (x ∷ xs) all = else_again (last p xs) (p x) x all.0 (last_again p xs all.1)

-- ---- by one look at the list

-- where the structure with this number is a manual subset whose entries have small numbers, its parts name items, and all records fit
abbrev pub IfEntered : Described → Db → ℕ → Shape → ℕ → Type 0 → Type 0
IfEntered desc db path s owner P = structure_of desc path ≡ Some s → s.kind ≡ 5 → owner + 1 < 2 ^ 32 → SmallIn s db → NameItems (items_over desc s) s.parts → RecordsHaveSpots desc db → P

-- where the key of a bound fits
abbrev pub IfFitsBefore : Described → Shape → Bound → Type 0 → Type 0
IfFitsBefore desc s bound P = BoundKeyFits (kinds_over desc s) s.parts bound → P

-- and a number that it names has a successor
abbrev pub IfFitsBehind : Described → Shape → Bound → Type 0 → Type 0
IfFitsBehind desc s bound P = IfFitsBefore desc s bound (BoundSmall (kinds_over desc s) s.parts bound → P)

-- the member of the first entry not below a bound's bytes, and of the last entry below them, where it is the owner's
abbrev pub first_entered : Described → Db → Shape → ℕ → Bound → Option Spot
first_entered desc db s owner bound = spot_by s db owner (first_from (from_bytes (kinds_over desc s) s.parts owner bound) (manual_of desc db s))

abbrev pub last_entered : Described → Db → Shape → ℕ → Bound → Option Spot
last_entered desc db s owner bound = spot_by s db owner (last_to (to_bytes (kinds_over desc s) s.parts owner bound) (manual_of desc db s))

-- the first member behind a bound, and the last one before it, are found so
abbrev pub FirstByEntries : Described → Db → ℕ → Shape → ℕ → Bound → Type 0
FirstByEntries desc db path s owner bound = IfEntered desc db path s owner (IfFitsBehind desc s bound (first_member desc db path owner bound ≡ first_entered desc db s owner bound))

abbrev pub LastByEntries : Described → Db → ℕ → Shape → ℕ → Bound → Type 0
LastByEntries desc db path s owner bound = IfEntered desc db path s owner (IfFitsBefore desc s bound (last_member desc db path owner bound ≡ last_entered desc db s owner bound))

module _ (desc : Described) (db : Db) (s : Shape) (o : ℕ) (bound : Bound) (kind : s.kind ≡ 5) (next : o + 1 < 2 ^ 32) (small : SmallIn s db) (named : NameItems (items_over desc s) s.parts) (records : RecordsHaveSpots desc db) where
  abbrev of_kinds : List ItemKind
  of_kinds = kinds_over desc s

  abbrev entered_list : List (List ℕ)
  entered_list = manual_of desc db s

  low : o < 2 ^ 32
  low = omega (arith, next)

  five : (s.kind == 5) ≡ true
  five = grind (arith, nat_tests, kind)

  over_is : over s ≡ s.set
  over_is = over_manual s five

  kinds_are : kinds_over desc (as_set s) ≡ kinds_over desc s
  kinds_are = ap (λ n. kinds_of (items_of (structure_of desc n))) (sym over_is)

  fit : (m : ℕ) (x : Record) → get db.records (s.set, m) ≡ Some x → IsSetKey of_kinds s.parts (key_of s.parts x.values)
  fit m x at = key_fits (items_over desc s) s.parts x.values (subst (λ n. ValuesFit (items_of (structure_of desc n)) x.values) (sym over_is) (records (s.set, m) x at).values) named

  list_is : of_owner o entered_list ≡ entries_of desc (own_db s db o) (as_set s)
  list_is = owned_list of_kinds s db o five small low ∙ ap (λ (ks : List ItemKind). keys (listed_in ks (as_set s) (own_records s db o))) (sym kinds_are)

  own_fits : EntriesFit (kinds_over desc (as_set s)) (as_set s) (entries (own_records s db o))
  own_fits = subst (λ (ks : List ItemKind). EntriesFit ks (as_set s) (entries (own_records s db o))) (sym kinds_are) (own_fit of_kinds s db o five small low fit)

  entries_shaped : AllByRecursion (IsSetEntry (key_width of_kinds s.parts)) entered_list
  entries_shaped = shaped of_kinds s (entered s db) (entered_fit of_kinds s db small fit)

  rises : AreInByteOrder entered_list
  rises = keys_rise (listing_of (member_entry of_kinds s) (entered s db))

  back : AllByRecursion (IsBack s db of_kinds o) (members s db o)
  back = members_back s db of_kinds o (all_fit desc db s named records)

  module _ (fits : BoundKeyFits (kinds_over desc s) s.parts bound) where
    fits_own : BoundKeyFits (kinds_over desc (as_set s)) s.parts bound
    fits_own = subst (λ (ks : List ItemKind). BoundKeyFits ks s.parts bound) (sym kinds_are) fits

    first_bytes : BoundSmall (kinds_over desc s) s.parts bound → option_map (spot_bytes of_kinds s.parts o) (first_of (Some s) db o bound) ≡ that_passes (is_of o) (first_from (from_bytes of_kinds s.parts o bound) entered_list)
    first_bytes few =
        let p = passes of_kinds s.parts o bound in
        sym (first_owned of_kinds s.parts o (is_after_bound s.parts bound) (after_same s.parts o bound) (members s db o))
        ∙ ap (λ (xs : List Spot). option_map (spot_bytes of_kinds s.parts o) (first (is_after_bound s.parts bound) xs)) (sym (members_are s db o five))
        ∙ ap (λ (ks : List ItemKind). option_map (spot_bytes ks s.parts o) (first_of (Some (as_set s)) (own_db s db o) o bound)) (sym kinds_are)
        ∙ first_member_is desc (own_db s db o) (as_set s) o bound low refl own_fits fits_own
        ∙ ap (λ (ks : List ItemKind). that_passes (is_of o) (first (passes ks s.parts o bound) (entries_of desc (own_db s db o) (as_set s)))) kinds_are
        ∙ ap (λ (xs : List (List ℕ)). that_passes (is_of o) (first p xs)) (sym list_is)
        ∙ ap (that_passes (is_of o)) (owner_first o p entered_list rises (λ x h. passes_owner of_kinds s.parts o bound x h))
        ∙ twice (is_of o) (first p entered_list)
        ∙ ap (that_passes (is_of o)) (first_is of_kinds s.parts o next bound entered_list fits few entries_shaped)

    last_bytes : option_map (spot_bytes of_kinds s.parts o) (last_of (Some s) db o bound) ≡ that_passes (is_of o) (last_to (to_bytes of_kinds s.parts o bound) entered_list)
    last_bytes =
        let p = precedes of_kinds s.parts o bound in
        sym (last_owned of_kinds s.parts o (is_before_bound s.parts bound) (before_same s.parts o bound) (members s db o))
        ∙ ap (λ (xs : List Spot). option_map (spot_bytes of_kinds s.parts o) (last (is_before_bound s.parts bound) xs)) (sym (members_are s db o five))
        ∙ ap (λ (ks : List ItemKind). option_map (spot_bytes ks s.parts o) (last_of (Some (as_set s)) (own_db s db o) o bound)) (sym kinds_are)
        ∙ last_member_is desc (own_db s db o) (as_set s) o bound low refl own_fits fits_own
        ∙ ap (λ (ks : List ItemKind). that_passes (is_of o) (last (precedes ks s.parts o bound) (entries_of desc (own_db s db o) (as_set s)))) kinds_are
        ∙ ap (λ (xs : List (List ℕ)). that_passes (is_of o) (last p xs)) (sym list_is)
        ∙ ap (that_passes (is_of o)) (owner_last o p (λ x h. precedes_owner of_kinds s.parts o bound x h) entered_list rises)
        ∙ twice (is_of o) (last p entered_list)
        ∙ ap (that_passes (is_of o)) (last_is of_kinds s.parts o next bound entered_list fits entries_shaped)

    pub first_at : BoundSmall (kinds_over desc s) s.parts bound → (path : ℕ) → structure_of desc path ≡ Some s → first_member desc db path o bound ≡ first_entered desc db s o bound
    unfolding first_member
    first_at few path is =
        ap (λ x. first_of x db o bound) is ∙ first_again s db of_kinds o (is_after_bound s.parts bound) (members s db o) back
        ∙ ap (λ x. and_then x (spot_at s db)) (first_bytes few)

    pub last_at : (path : ℕ) → structure_of desc path ≡ Some s → last_member desc db path o bound ≡ last_entered desc db s o bound
    unfolding last_member
    last_at path is =
        ap (λ x. last_of x db o bound) is ∙ last_again s db of_kinds o (is_before_bound s.parts bound) (members s db o) back
        ∙ ap (λ x. and_then x (spot_at s db)) last_bytes
