-- Self-correcting links to a record made null, one record after another: what is left is the database without the record.
use Rattle.std.proofs.Common.{◌≡◌, ◌∙◌, ◌+◌, ℕ, suc, List, [], ◌∷◌, Bool, true, false, cond, Some, None, refl, sym, ap, slice_get, map, filter, arith}
use Rattle.std.specs.Prelude.{T, ◌&&◌, ◌||◌}
use Rattle.std.specs.List.{list_any}
use Rattle.std.specs.declared.option.Option.{Option}
use Rattle.std.specs.FinMap.{entries, entries_sorted, find, from_sorted, get, get-entries, get-from_sorted, get-insert, insert, is_sorted, remove, same_map}
use Rattle.std.specs.FinMap.Entries.{below_all}
use Rattle.std.specs.Ordering.{eq_by_cmp}
use Rattle.dms_base.specs.declared.value.Value.{Value}
use Rattle.dms_base.specs.declared.value.Value.TheVariants.{Null}
use Rattle.dms_desc.specs.Conds.{or_null}
use Rattle.dms_desc.specs.Lookups.{items_of, structure_of}
use Rattle.dms_desc.specs.Shape.{Described}
use Rattle.dms_desc.specs.declared.record.Record.{Record}
use Rattle.dms_desc.specs.declared.structure.Item.{Item}
use Rattle.dms_model.specs.Db.{Db, Place, Records, place_cmp}
use Rattle.dms_model.specs.Places.{place_is, places_same, places_total}
use Rattle.dms_model.specs.Uses.{after_remove, corrected, corrected_entry, corrected_value, is_link_into, linkers, links_to, place_in_entry, refers_to, some_link}

-- ---- definitions

-- a record with its self-correcting links to the record made null
abbrev pub corrected_record : Described → ℕ → ℕ → Place → Record → Record
corrected_record desc to number p r = record r { values = corrected to number 0 (items_of (structure_of desc p.0)) r.values }

abbrev pub corrected_opt : Described → ℕ → ℕ → Place → Option Record → Option Record
corrected_opt desc to number p None = None
corrected_opt desc to number p (Some r) = Some (corrected_record desc to number p r)

-- one record corrected
abbrev pub put_opt : Place → Option Record → Records → Records
put_opt p None m = m
put_opt p (Some r) m = insert m p r

abbrev pub cleared_one : Described → ℕ → ℕ → Place → Records → Records
cleared_one desc to number p m = put_opt p (corrected_opt desc to number p (get m p)) m

-- all of these, one after another
abbrev pub cleared : Described → ℕ → ℕ → List Place → Records → Records
cleared desc to number [] m = m
cleared desc to number (p ∷ ps) m = cleared desc to number ps (cleared_one desc to number p m)

abbrev pub is_place_of : Place → List Place → Bool
is_place_of q ps = list_any (λ p. eq_by_cmp place_cmp q p) ps

-- what stands at a place then: the record corrected, where the place is one of these, and else as it was
abbrev pub cleared_at : Described → ℕ → ℕ → List Place → Records → Place → Option Record
cleared_at desc to number ps m q = cond (is_place_of q ps) (corrected_opt desc to number q (get m q)) (get m q)

-- ---- twice is once

null_off : (b : Bool) (n : ℕ) (v : Value) → refers_to n Null ≡ false
null_off b n v = refl

value_twice : (o : Option Item) (to number : ℕ) (v : Value) → corrected_value o to number (corrected_value o to number v) ≡ corrected_value o to number v
value_twice None to number v = refl
value_twice (Some i) to number v = by (is_link_into false to i.kind) (refers_to number v) refl
  where
    by : (a b : Bool) → refers_to number v ≡ b → cond (a && refers_to number (cond (a && b) Null v)) Null (cond (a && b) Null v) ≡ cond (a && b) Null v
    by true true is = refl
    by true false is = ap (λ c. cond c Null v) is
    by false b is = refl

values_twice : (to number k : ℕ) (items : List Item) (vs : List Value) → corrected to number k items (corrected to number k items vs) ≡ corrected to number k items vs
values_twice to number k items [] = refl
values_twice to number k items (v ∷ vs) = λ i. value_twice (slice_get items k) to number v i ∷ values_twice to number (k + 1) items vs i

opt_twice : (desc : Described) (to number : ℕ) (p : Place) (o : Option Record) → corrected_opt desc to number p (corrected_opt desc to number p o) ≡ corrected_opt desc to number p o
opt_twice desc to number p None = refl
opt_twice desc to number p (Some r) = ap (λ vs. Some (record r { values = vs })) (values_twice to number 0 (items_of (structure_of desc p.0)) r.values)

-- ---- what stands after it

module _ (desc : Described) (to number : ℕ) where
  one_get : (p : Place) (m : Records) (q : Place) → get (cleared_one desc to number p m) q ≡ cond (eq_by_cmp place_cmp q p) (corrected_opt desc to number q (get m q)) (get m q)
  one_get p m q = by (get m p) (eq_by_cmp place_cmp q p) refl refl
    where
      by : (o : Option Record) (b : Bool) → get m p ≡ o → eq_by_cmp place_cmp q p ≡ b → get (put_opt p (corrected_opt desc to number p o) m) q ≡ cond b (corrected_opt desc to number q (get m q)) (get m q)
      by None true at is = let none : get m q ≡ None = ap (get m) (place_is q p is) ∙ at in none ∙ sym (ap (corrected_opt desc to number q) none)
      by None false at is = refl
      by (Some r) true at is =
          get-insert places_total m p (corrected_record desc to number p r) q ∙ ap (λ b. cond b (Some (corrected_record desc to number p r)) (get m q)) is
          ∙ sym ((λ i. corrected_opt desc to number (place_is q p is i) (get m (place_is q p is i))) ∙ ap (corrected_opt desc to number p) at)
      by (Some r) false at is = get-insert places_total m p (corrected_record desc to number p r) q ∙ ap (λ b. cond b (Some (corrected_record desc to number p r)) (get m q)) is

  pub cleared_get : (ps : List Place) (m : Records) (q : Place) → get (cleared desc to number ps m) q ≡ cond (is_place_of q ps) (corrected_opt desc to number q (get m q)) (get m q)
  cleared_get [] m q = refl
  cleared_get (p ∷ ps) m q =
      cleared_get ps (cleared_one desc to number p m) q
      ∙ (λ i. cond (is_place_of q ps) (corrected_opt desc to number q (one_get p m q i)) (one_get p m q i))
      ∙ by (eq_by_cmp place_cmp q p) (is_place_of q ps)
    where
      by : (a b : Bool) → cond b (corrected_opt desc to number q (cond a (corrected_opt desc to number q (get m q)) (get m q))) (cond a (corrected_opt desc to number q (get m q)) (get m q))
          ≡ cond (a || b) (corrected_opt desc to number q (get m q)) (get m q)
      by true true = opt_twice desc to number q (get m q)
      by true false = refl
      by false true = refl
      by false false = refl

  -- ---- who isn't a linker stays

  value_still : (o : Option Item) (i : Item) (v : Value) → o ≡ Some i → (is_link_into false to i.kind && refers_to number v) ≡ false → corrected_value o to number v ≡ v
  value_still None i v at off = absurd (cc)
  value_still (Some j) i v at off = ap (λ (x : Option Item). corrected_value x to number v) at ∙ ap (λ b. cond b Null v) off

  or_parts : (a b : Bool) → (a || b) ≡ false → (a ≡ false) × (b ≡ false)
  or_parts true b h = absurd (cc)
  or_parts false b h = (refl, h)

  past_end : (k : ℕ) (items : List Item) (vs : List Value) → ((j : ℕ) → slice_get items (k + j) ≡ None) → corrected to number k items vs ≡ vs
  past_end k items [] none = refl
  past_end k items (v ∷ vs) none =
      let e : k ≡ k + 0 = omega arith in
      let here : corrected_value (slice_get items k) to number v ≡ v = ap (λ o. corrected_value o to number v) (ap (slice_get items) e ∙ none 0) in
      let rest = past_end (k + 1) items vs (λ j. let n : (k + 1) + j ≡ k + suc j = omega arith in ap (slice_get items) n ∙ none (suc j)) in
      λ i. here i ∷ rest i

  behind_end : (j : ℕ) → ◌≡◌ {A = Option Item} (slice_get [] j) None
  behind_end j = refl

  values_still : (k : ℕ) (all items : List Item) (values vs : List Value) → ((j : ℕ) → slice_get all (k + j) ≡ slice_get items j) → ((j : ℕ) → or_null (slice_get values (k + j)) ≡ or_null (slice_get vs j))
      → some_link false to number k items values ≡ false → corrected to number k all vs ≡ vs
  values_still k all items values [] behind olds off = refl
  values_still k all [] values (v ∷ vs) behind olds off = past_end k all (v ∷ vs) behind
  values_still k all (i ∷ is) values (v ∷ vs) behind olds off =
      let e : k ≡ k + 0 = omega arith in
      let both = or_parts (is_link_into false to i.kind && refers_to number (or_null (slice_get values k))) (some_link false to number (k + 1) is values) off in
      let value : or_null (slice_get values k) ≡ v = ap (λ n. or_null (slice_get values n)) e ∙ olds 0 in
      let here = value_still (slice_get all k) i v (ap (slice_get all) e ∙ behind 0) (ap (λ x. is_link_into false to i.kind && refers_to number x) (sym value) ∙ both.0) in
      let rest = values_still (k + 1) all is values vs
      (λ j. let n : (k + 1) + j ≡ k + suc j = omega arith in ap (slice_get all) n ∙ behind (suc j))
      (λ j. let n : (k + 1) + j ≡ k + suc j = omega arith in ap (λ m. or_null (slice_get values m)) n ∙ olds (suc j)) both.1 in
      λ i. here i ∷ rest i

  -- a record without such a link is corrected to itself
  pub still_one : (p : Place) (r : Record) → links_to false desc to number (p, r) ≡ false → corrected_record desc to number p r ≡ r
  still_one p r off =
      let items = items_of (structure_of desc p.0) in
      ap (λ vs. record r { values = vs })
      (values_still 0 items items r.values r.values (λ j. let e : 0 + j ≡ j = omega arith in ap (slice_get items) e) (λ j. let e : 0 + j ≡ j = omega arith in ap (λ n. or_null (slice_get r.values n)) e) off)

  -- ---- all at once

  linked_at : (q : Place) (es : List (Place × Record)) → T (is_sorted place_cmp es) → is_place_of q (map place_in_entry (filter (links_to false desc to number) es)) ≡ false → corrected_opt desc to number q (find place_cmp q es) ≡ find place_cmp q es
  linked_at q [] order off = refl
  linked_at q (e ∷ es) order off = by (eq_by_cmp place_cmp q e.0) (links_to false desc to number e) refl refl off (linked_at q es (second (below_all place_cmp e.0 es) (is_sorted place_cmp es) order))
    where
      second : (a b : Bool) → T (a && b) → T b
      second true b t = t
      second false b t = absurd t

      rest_places : List Place
      rest_places = map place_in_entry (filter (links_to false desc to number) es)

      by : (a l : Bool) → eq_by_cmp place_cmp q e.0 ≡ a → links_to false desc to number e ≡ l → is_place_of q (map place_in_entry (cond l (e ∷ filter (links_to false desc to number) es) (filter (links_to false desc to number) es))) ≡ false
          → (is_place_of q rest_places ≡ false → corrected_opt desc to number q (find place_cmp q es) ≡ find place_cmp q es)
          → corrected_opt desc to number q (cond a (Some e.1) (find place_cmp q es)) ≡ cond a (Some e.1) (find place_cmp q es)
      by true true is link off rest = absurd (apart (or_parts (eq_by_cmp place_cmp q e.0) (is_place_of q rest_places) off).0 is)
        where
          apart : {b : Bool} → b ≡ false → b ≡ true → ⊥
          apart h k = absurd (cc)
      by true false is link off rest = ap (λ (p : Place). Some (corrected_record desc to number p e.1)) (place_is q e.0 is) ∙ ap (λ (r : Record). Some r) (still_one e.0 e.1 link)
      by false true is link off rest = rest (or_parts (eq_by_cmp place_cmp q e.0) (is_place_of q rest_places) off).1
      by false false is link off rest = rest off

  find_all : (q : Place) (es : List (Place × Record)) → find place_cmp q (map (corrected_entry desc to number) es) ≡ corrected_opt desc to number q (find place_cmp q es)
  find_all q [] = refl
  find_all q (e ∷ es) = by (eq_by_cmp place_cmp q e.0) refl (find_all q es)
    where
      by : (a : Bool) → eq_by_cmp place_cmp q e.0 ≡ a → find place_cmp q (map (corrected_entry desc to number) es) ≡ corrected_opt desc to number q (find place_cmp q es)
          → cond a (Some (corrected_record desc to number e.0 e.1)) (find place_cmp q (map (corrected_entry desc to number) es)) ≡ corrected_opt desc to number q (cond a (Some e.1) (find place_cmp q es))
      by true is rest = ap (λ (p : Place). Some (corrected_record desc to number p e.1)) (sym (place_is q e.0 is))
      by false is rest = rest

  true_both : (a b : Bool) → T a → T b → T (a && b)
  true_both true b t u = u
  true_both false b t u = absurd t

  left_of : (a b : Bool) → T (a && b) → T a
  left_of true b t = tt
  left_of false b t = absurd t

  right_of : (a b : Bool) → T (a && b) → T b
  right_of true b t = t
  right_of false b t = absurd t

  below_still : (p : Place) (es : List (Place × Record)) → T (below_all place_cmp p es) → T (below_all place_cmp p (map (corrected_entry desc to number) es))
  below_still p [] h = tt
  below_still p (e ∷ es) h = true_both _ _ (left_of _ _ h) (below_still p es (right_of _ _ h))

  sorted_still : (es : List (Place × Record)) → T (is_sorted place_cmp es) → T (is_sorted place_cmp (map (corrected_entry desc to number) es))
  sorted_still [] h = tt
  sorted_still (e ∷ es) h = true_both _ _ (below_still e.0 es (left_of _ _ h)) (sorted_still es (right_of _ _ h))

  -- All records corrected are the linkers corrected one after another.
  pub cleared_all : (db : Db) → from_sorted {R = place_cmp} (map (corrected_entry desc to number) (entries db.records)) ≡ cleared desc to number (linkers desc db to number) db.records
  unfolding linkers
  cleared_all db =
      same_map places_total places_same _ _ (λ q.
      get-from_sorted place_cmp (map (corrected_entry desc to number) (entries db.records)) q (sorted_still (entries db.records) (entries_sorted db.records))
      ∙ find_all q (entries db.records)
      ∙ by q (is_place_of q (map place_in_entry (filter (links_to false desc to number) (entries db.records)))) refl
      ∙ sym (cleared_get (map place_in_entry (filter (links_to false desc to number) (entries db.records))) db.records q))
    where
      by : (q : Place) (b : Bool) → is_place_of q (map place_in_entry (filter (links_to false desc to number) (entries db.records))) ≡ b
          → corrected_opt desc to number q (find place_cmp q (entries db.records)) ≡ cond b (corrected_opt desc to number q (get db.records q)) (get db.records q)
      by q true is = ap (corrected_opt desc to number q) (sym (get-entries db.records q))
      by q false is = linked_at q (entries db.records) (entries_sorted db.records) is ∙ sym (get-entries db.records q)

-- A removal: the linkers are corrected one after another, and then the record goes.
pub removal_steps : (desc : Described) (db : Db) (set number : ℕ) → after_remove desc db set number ≡ record db { records = remove (cleared desc set number (linkers desc db set number) db.records) (set, number) }
unfolding after_remove
removal_steps desc db set number = ap (λ (m : Records). record db { records = remove m (set, number) }) (cleared_all desc set number db)
