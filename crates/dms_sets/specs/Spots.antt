-- The member that an entry stands for.
use Rattle.std.proofs.Common.{◌≡◌, ℕ, zero, suc, ◌-◌, ◌^◌, ◌<◌, List, [], ◌∷◌, Bool, true, false, cond, Some, None, refl, sym, ap, ◌∙◌, subst, arith, slice_get, length}
use Rattle.std.specs.Prelude.{T, ◌==◌}
use Rattle.std.specs.List.{AllByRecursion}
use Rattle.std.specs.declared.option.Option.{Option}
use Rattle.std.specs.Option.{option_map}
use Rattle.std.specs.FinMap.{get, insert, get-insert, entries, entries_sorted, get-entries, find, is_sorted}
use Rattle.std.specs.FinMap.Entries.{below_all}
use Rattle.std.specs.Ordering.{eq_by_cmp, is_eq}
use Rattle.std.proofs.lemmas.Cmp.{eq_by_cmp_equiv}
use Rattle.std.proofs.lemmas.Bool.Decides.{nat_tests}
use Rattle.std.proofs.lemmas.Option.{same_Some}
use Rattle.std.proofs.lemmas.Bool.{and_parts}
use Rattle.dms_base.specs.declared.value.Value.{Value}
use Rattle.dms_desc.specs.declared.structure.Item.{Item}
use Rattle.dms_desc.specs.declared.structure.KeyPart.{KeyPart}
use Rattle.dms_desc.specs.declared.record.Record.{Record}
use Rattle.dms_desc.specs.declared.bound.Bound.{Bound}
use Rattle.dms_desc.specs.Shape.{Shape, Described}
use Rattle.dms_desc.specs.Conds.{or_null, item_of}
use Rattle.dms_model.specs.declared.spot.Spot.{Spot}
use Rattle.dms_model.specs.Db.{Db, SubsetEntry, Place, place_cmp}
use Rattle.dms_desc.specs.Keys.{key_of}
use Rattle.dms_desc.specs.Kinds.{over}
use Rattle.dms_desc.specs.Lookups.{items_of, structure_of}
use Rattle.dms_desc.specs.Sorted.{first, last, or_else, that_passes}
use Rattle.dms_model.specs.Members.{belongs, spot_of, spots_of, is_before, members, is_after_bound, is_before_bound, first_of, last_of, first_member, last_member}
use Rattle.dms_base.specs.declared.kind.ItemKind.{ItemKind}
use Rattle.dms_desc.specs.Plain.{FitsKind}
use Rattle.dms_key.specs.KeyBytes.{FitsPart, KeyHasKinds}
use Rattle.dms_sets.specs.Entries.{kinds_of, IsSetKey}
use Rattle.dms_sets.specs.Sets.{place_in_entry, number_in, entry_number, entries_of, items_over, kinds_over}
use Rattle.dms_sets.specs.Owners.{is_of, spot_bytes, EntryFits, EntriesFit, all_sorted}
use Rattle.dms_sets.specs.Bounds.{passes, BoundKeyFits, first_member_is}
use Rattle.dms_sets.specs.Lasts.{precedes, last_member_is}
use Rattle.dms_model.specs.Places.{places_same, places_total}
use Rattle.dms_model.specs.Founds.{not_tied}
use Rattle.dms_model.specs.Fresh.{second_true, first_true}
use Rattle.dms_model.specs.MemberLaws.{equal_of}

abbrev pub and_then : {A B : Type 0} → Option A → (A → Option B) → Option B
and_then None f = None
and_then (Some x) f = f x

-- the member of an entry: the record with its number
abbrev pub spot_at : Shape → Db → List ℕ → Option Spot
spot_at s db q = option_map (λ r. spot_of s.parts (place_in_entry s q, r)) (get db.records (place_in_entry s q))

-- each entry of a sorted list is found

abbrev pub StandsAmong : List (Place × Record) → Place × Record → Type 0
StandsAmong es e = find place_cmp e.0 es ≡ Some e.1

found_later : (e : Place × Record) (es fs : List (Place × Record)) → T (below_all place_cmp e.0 fs) → AllByRecursion (StandsAmong es) fs → AllByRecursion (StandsAmong (e ∷ es)) fs
found_later e es [] below all = tt
found_later e es (d ∷ fs) below all =
    let off : eq_by_cmp place_cmp d.0 e.0 ≡ false = ap is_eq (places_total.antisymm d.0 e.0) ∙ not_tied (place_cmp e.0 d.0) (first_true _ _ below) in
    (ap (λ b. cond b (Some e.1) (find place_cmp d.0 es)) off ∙ all.0, found_later e es fs (second_true _ _ below) all.1)

pub all_found : (es : List (Place × Record)) → T (is_sorted place_cmp es) → AllByRecursion (StandsAmong es) es
all_found [] order = tt
all_found (e ∷ es) order = (
  ap (λ b. cond b (Some e.1) (find place_cmp e.0 es)) ((eq_by_cmp_equiv places_total).refl e.0),
  found_later e es es (first_true _ _ order) (all_found es (second_true _ _ order)),
)

module _ (s : Shape) (db : Db) (kinds : List ItemKind) (owner : ℕ) where
  abbrev IsBack : Spot → Type 0
  IsBack x = spot_at s db (spot_bytes kinds s.parts owner x) ≡ Some x

  back_at : (e : Place × Record) → (over s == e.0.0) ≡ true → EntryFits kinds s e → StandsAmong (entries db.records) e → IsBack (spot_of s.parts e)
  back_at e at f found =
      let number : number_in (spot_bytes kinds s.parts owner (spot_of s.parts e)) ≡ e.0.1 = entry_number kinds s.parts owner (key_of s.parts e.1.values) e.0.1 f.small in
      let set : over s ≡ e.0.0 = grind (arith, nat_tests, at) in
      let place : place_in_entry s (spot_bytes kinds s.parts owner (spot_of s.parts e)) ≡ e.0 = λ i. (set i, number i) in
      ap (λ (p : Place). option_map (λ r. spot_of s.parts (p, r)) (get db.records p)) place
      ∙ ap (option_map (λ r. spot_of s.parts (e.0, r))) (get-entries db.records e.0 ∙ found)

  back_by : (b : Bool) (e : Place × Record) (xs : List Spot) → (b ≡ true → IsBack (spot_of s.parts e)) → AllByRecursion IsBack xs → AllByRecursion IsBack (cond b (spot_of s.parts e ∷ xs) xs)
  back_by true e xs here rest = (here refl, rest)
  back_by false e xs here rest = rest

  all_back : (manual : List SubsetEntry) (es : List (Place × Record)) → EntriesFit kinds s es → AllByRecursion (StandsAmong (entries db.records)) es → AllByRecursion IsBack (spots_of s manual owner es)
  all_back manual [] fits found = tt
  all_back manual (e ∷ es) fits found =
      back_by (belongs s manual owner e) e (spots_of s manual owner es) (λ h. back_at e (and_parts (over s == e.0.0) _ h).0 fits.0 found.0) (all_back manual es fits.1 found.1)

  -- each member is that of its entry
  pub members_back : EntriesFit kinds s (entries db.records) → AllByRecursion IsBack (members s db owner)
  members_back fits =
      all_sorted (is_before s.parts) IsBack (spots_of s db.entries owner (entries db.records)) (all_back db.entries (entries db.records) fits (all_found (entries db.records) (entries_sorted db.records)))

  first_back : (p : Spot → Bool) (xs : List Spot) → AllByRecursion IsBack xs → first p xs ≡ and_then (option_map (spot_bytes kinds s.parts owner) (first p xs)) (spot_at s db)
  first_back p [] all = refl
  first_back p (x ∷ xs) all =
      let rest = first_back p xs all.1 in
      elim (p x) as (λ b. cond b (Some x) (first p xs) ≡ and_then (option_map (spot_bytes kinds s.parts owner) (cond b (Some x) (first p xs))) (spot_at s db)) [ true ↦ sym all.0 | false ↦ rest ]

  back_turn : (o : Option Spot) (b : Bool) (x : Spot) → IsBack x → o ≡ and_then (option_map (spot_bytes kinds s.parts owner) o) (spot_at s db)
      → or_else o (cond b (Some x) None) ≡ and_then (option_map (spot_bytes kinds s.parts owner) (or_else o (cond b (Some x) None))) (spot_at s db)
  back_turn None true x back rest = sym back
  back_turn None false x back rest = refl
  back_turn (Some y) b x back rest = rest

  last_back : (p : Spot → Bool) (xs : List Spot) → AllByRecursion IsBack xs → last p xs ≡ and_then (option_map (spot_bytes kinds s.parts owner) (last p xs)) (spot_at s db)
  last_back p [] all = refl
  last_back p (x ∷ xs) all = back_turn (last p xs) (p x) x all.0 (last_back p xs all.1)

-- The first member behind a bound is that of the first entry behind it, where that is the owner's.
pub first_member_at : (desc : Described) (db : Db) (path : ℕ) (s : Shape) (owner : ℕ) (bound : Bound) → structure_of desc path ≡ Some s → owner < 2 ^ 32 → (s.kind == 5) ≡ false
    → EntriesFit (kinds_over desc s) s (entries db.records) → BoundKeyFits (kinds_over desc s) s.parts bound
    → first_member desc db path owner bound ≡ and_then (that_passes (is_of owner) (first (passes (kinds_over desc s) s.parts owner bound) (entries_of desc db s))) (spot_at s db)
unfolding first_member
first_member_at desc db path s owner bound has small auto all fits =
    ap (λ o. first_of o db owner bound) has
    ∙ first_back s db (kinds_over desc s) owner (is_after_bound s.parts bound) (members s db owner) (members_back s db (kinds_over desc s) owner all)
    ∙ ap (λ o. and_then o (spot_at s db)) (first_member_is desc db s owner bound small auto all fits)

-- The last member before a bound is that of the last entry before it, where that is the owner's.
pub last_member_at : (desc : Described) (db : Db) (path : ℕ) (s : Shape) (owner : ℕ) (bound : Bound) → structure_of desc path ≡ Some s → owner < 2 ^ 32 → (s.kind == 5) ≡ false
    → EntriesFit (kinds_over desc s) s (entries db.records) → BoundKeyFits (kinds_over desc s) s.parts bound
    → last_member desc db path owner bound ≡ and_then (that_passes (is_of owner) (last (precedes (kinds_over desc s) s.parts owner bound) (entries_of desc db s))) (spot_at s db)
unfolding last_member
last_member_at desc db path s owner bound has small auto all fits =
    ap (λ o. last_of o db owner bound) has
    ∙ last_back s db (kinds_over desc s) owner (is_before_bound s.parts bound) (members s db owner) (members_back s db (kinds_over desc s) owner all)
    ∙ ap (λ o. and_then o (spot_at s db)) (last_member_is desc db s owner bound small auto all fits)

-- when a record's key fits

abbrev pub ValuesFit : List Item → List Value → Type 0
ValuesFit items values = (k : ℕ) (item : Item) → slice_get items k ≡ Some item → FitsKind item.kind (or_null (slice_get values k))

-- each part names an item
abbrev pub NameItems : List Item → List KeyPart → Type 0
NameItems items ps = AllByRecursion (λ p. (item : Item) × (slice_get items (p.item - 1) ≡ Some item)) ps

got : (items : List Item) (i : ℕ) (item : Item) → slice_get items i ≡ Some item → slice_get (kinds_of items) i ≡ Some item.kind
got [] i item h = absurd (cc)
got (x ∷ xs) zero item h = let same : x ≡ item = same_Some x item h in ap (λ (y : Item). Some y.kind) same
got (x ∷ xs) (suc i) item h = got xs i item h

values_fit : (items : List Item) (ps : List KeyPart) (values : List Value) → ValuesFit items values → NameItems items ps → KeyHasKinds (kinds_of items) ps (key_of ps values)
values_fit items [] values fit named = tt
values_fit items (p ∷ ps) values fit named =
    let item = named.0.0 in
    (subst (λ o. FitsPart o (item_of values p.item)) (sym (got items (p.item - 1) item named.0.1)) (fit (p.item - 1) item named.0.1), values_fit items ps values fit named.1)

key_long : (ps : List KeyPart) (values : List Value) → length (key_of ps values) ≡ length ps
key_long [] values = refl
key_long (p ∷ ps) values = ap suc (key_long ps values)

-- a record's key fits where its values do
pub key_fits : (items : List Item) (ps : List KeyPart) (values : List Value) → ValuesFit items values → NameItems items ps → IsSetKey (kinds_of items) ps (key_of ps values)
key_fits items ps values fit named = record { fits = values_fit items ps values fit named; whole = key_long ps values }

-- a record of a database whose entries have their places in byte order
pub record RecordHasSpot (desc : Described) (place : Place) (rec : Record) : Type 0 where
  pub small : place.1 < 2 ^ 32
  pub owner : rec.owner < 2 ^ 32
  pub values : ValuesFit (items_of (structure_of desc place.0)) rec.values

abbrev pub RecordsHaveSpots : Described → Db → Type 0
RecordsHaveSpots desc db = (place : Place) (rec : Record) → get db.records place ≡ Some rec → RecordHasSpot desc place rec

entry_fits : (desc : Described) (s : Shape) (e : Place × Record) → NameItems (items_over desc s) s.parts → RecordHasSpot desc e.0 e.1 → EntryFits (kinds_over desc s) s e
entry_fits desc s e named f =
    record {
      small = f.small;
      owner = f.owner;
      key = λ at.
          let set : e.0.0 ≡ over s = grind (arith, nat_tests, at) in
          key_fits (items_over desc s) s.parts e.1.values (subst (λ n. ValuesFit (items_of (structure_of desc n)) e.1.values) set f.values) named;
    }

all_fit_in : (desc : Described) (db : Db) (s : Shape) (es : List (Place × Record)) → NameItems (items_over desc s) s.parts → RecordsHaveSpots desc db → AllByRecursion (StandsAmong (entries db.records)) es → EntriesFit (kinds_over desc s) s es
all_fit_in desc db s [] named fits found = tt
all_fit_in desc db s (e ∷ es) named fits found =
    (entry_fits desc s e named (fits e.0 e.1 (get-entries db.records e.0 ∙ found.0)), all_fit_in desc db s es named fits found.1)

-- where all records fit, all their entries do
pub all_fit : (desc : Described) (db : Db) (s : Shape) → NameItems (items_over desc s) s.parts → RecordsHaveSpots desc db → EntriesFit (kinds_over desc s) s (entries db.records)
all_fit desc db s named fits = all_fit_in desc db s (entries db.records) named fits (all_found (entries db.records) (entries_sorted db.records))

fit_at : (b : Bool) (desc : Described) (db : Db) (k q : Place) (v r : Record) → eq_by_cmp place_cmp q k ≡ b → RecordsHaveSpots desc db → RecordHasSpot desc k v → cond b (Some v) (get db.records q) ≡ Some r → RecordHasSpot desc q r
fit_at true desc db k q v r e fits new at =
    let same : v ≡ r = cc in
    subst (λ (p : Place). RecordHasSpot desc p r) (sym (places_same q k (equal_of (place_cmp q k) e))) (subst (RecordHasSpot desc k) same new)
fit_at false desc db k q v r e fits new at = fits q r at

-- and they do after one that fits was put
pub put_fits : (desc : Described) (db : Db) (k : Place) (v : Record) → RecordsHaveSpots desc db → RecordHasSpot desc k v → RecordsHaveSpots desc (record db { records = insert db.records k v })
put_fits desc db k v fits new q r at = fit_at (eq_by_cmp place_cmp q k) desc db k q v r refl fits new (sym (get-insert places_total db.records k v q) ∙ at)
