-- Records that fit still do where one is removed, or a link of one is set.
use Rattle.std.proofs.Common.{◌≡◌, ◌+◌, ◌-◌, ◌<◌, ◌^◌, ℕ, zero, suc, List, [], ◌∷◌, Bool, true, false, cond, Some, None, refl, sym, ap, ◌∙◌, subst, eqb, length, map, slice_get, slice_set, arith}
use Rattle.std.specs.Prelude.{IsTrue, IfSome, IfOk, OnOk, ◌&&◌}
use Rattle.std.specs.declared.option.Option.{Option}
use Rattle.std.specs.declared.result.Result.{Result}
use Rattle.std.specs.declared.result.Result.TheVariants.{Ok, Err}
use Rattle.std.specs.FinMap.{entries, from_sorted, get, get-remove}
use Rattle.std.specs.Ordering.{eq_by_cmp}
use Rattle.std.proofs.lemmas.Bool.Decides.{nat_tests}
use Rattle.std.proofs.lemmas.List.{length-set}
use Rattle.std.proofs.lemmas.Option.{same_Some, slice_get_within}
use Rattle.dms_base.specs.Fits.{fits}
use Rattle.dms_base.specs.declared.Memory.{Memory}
use Rattle.dms_base.specs.declared.kind.ItemKind.{ItemKind}
use Rattle.dms_base.specs.declared.kind.ItemKind.TheVariants.{Alpha, Number as Decimal, Bool as OneBit, Field, Link}
use Rattle.dms_base.specs.declared.value.Value.{Value}
use Rattle.dms_base.specs.declared.value.Value.TheVariants.{Null}
use Rattle.dms_desc.specs.Conds.{or_null}
use Rattle.dms_desc.specs.Kinds.{is_link}
use Rattle.dms_desc.specs.Lookups.{items_of, structure_of}
use Rattle.dms_desc.specs.Plain.{ArePlain, IsPlain}
use Rattle.dms_desc.specs.Shape.{Described}
use Rattle.dms_desc.specs.declared.record.Record.{Record}
use Rattle.dms_desc.specs.declared.structure.Item.{Item}
use Rattle.dms_links.specs.Cleared.{cleared_all, cleared_get, corrected_opt, corrected_record, is_place_of}
use Rattle.dms_model.specs.Changing.{IsLinkOf}
use Rattle.dms_model.specs.Db.{Place, Records, place_cmp}
use Rattle.dms_model.specs.Fitting.{AreFitting, PlaceFits, RecordsFit}
use Rattle.dms_model.specs.FitLaws.{get_set_here, get_set_other, insert_fits, null_fits}
use Rattle.dms_model.specs.Places.{places_total}
use Rattle.dms_model.specs.Stores.{is_link_item}
use Rattle.dms_model.specs.Uses.{corrected, corrected_entry, corrected_value, is_link_into, link_value, linkers, refers_to}
use Rattle.dms_model.specs.Valid.{value_at}
use Rattle.dms_plain.specs.Linkers.{linkers_in}
use Rattle.dms_plain.specs.Removed.{linked_at, removed_from}
use Rattle.dms_plain.specs.Rows.{db_of, records_in}
use Rattle.dms_plain.specs.declared.rows.RecordRow.{RecordRow}

-- ---- corrected values

module _ (P : Value → Type 0) (none : P Null) (to number : ℕ) where
  of_value : (o : Option Item) (v : Value) → P v → P (corrected_value o to number v)
  of_value None v h = h
  of_value (Some i) v h = by (is_link_into false to i.kind && refers_to number v)
    where
      by : (b : Bool) → P (cond b Null v)
      by true = none
      by false = h

  of_values : (k j : ℕ) (items : List Item) (vs : List Value) → P (value_at vs j) → P (value_at (corrected to number k items vs) j)
  of_values k j items [] h = h
  of_values k zero items (v ∷ vs) h = of_value (slice_get items k) v h
  of_values k (suc j) items (v ∷ vs) h = of_values (k + 1) j items vs h

corrected_length : (to number k : ℕ) (items : List Item) (vs : List Value) → length (corrected to number k items vs) ≡ length vs
corrected_length to number k items [] = refl
corrected_length to number k items (v ∷ vs) = ap suc (corrected_length to number (k + 1) items vs)

corrected_plain : (to number k : ℕ) (items : List Item) (vs : List Value) → ArePlain vs → ArePlain (corrected to number k items vs)
corrected_plain to number k items [] h = tt
corrected_plain to number k items (v ∷ vs) h = (of_value IsPlain tt to number (slice_get items k) v h.0, corrected_plain to number (k + 1) items vs h.1)

corrected_fits : (to number : ℕ) (items : List Item) (vs : List Value) → AreFitting items vs → AreFitting items (corrected to number 0 items vs)
corrected_fits to number items vs h = record {
  lengths = corrected_length to number 0 items vs ∙ h.lengths;
  fit = λ k item at. of_values (λ v. fits item.kind v ≡ true) (null_fits item.kind) to number 0 k items vs (h.fit k item at);
  plain = corrected_plain to number 0 items vs h.plain;
}

-- ---- without a record

module _ (desc : Described) (set number : ℕ) (m : Records) (fit : RecordsFit desc m) where
  record_fits : (q : Place) (r : Record) → get m q ≡ Some r → PlaceFits desc q (corrected_record desc set number q r)
  record_fits q r at =
      let own = fit q r at in
      record { number = own.number; held = record { owner = own.held.owner; values = corrected_fits set number (items_of (structure_of desc q.0)) r.values own.held.values } }

  corrected_at : (q : Place) (r : Record) (o : Option Record) → get m q ≡ o → corrected_opt desc set number q o ≡ Some r → PlaceFits desc q r
  corrected_at q r None at is = absurd (cc)
  corrected_at q r (Some x) at is = subst (PlaceFits desc q) (same_Some (corrected_record desc set number q x) r is) (record_fits q x at)

  left_at : (a b : Bool) (q : Place) (r : Record) → cond a None (cond b (corrected_opt desc set number q (get m q)) (get m q)) ≡ Some r → PlaceFits desc q r
  left_at true b q r is = absurd (cc)
  left_at false true q r is = corrected_at q r (get m q) refl is
  left_at false false q r is = fit q r is

  pub removed_fits : RecordsFit desc (removed_from desc set number m)
  unfolding linkers
  removed_fits q r at =
      let corrected_all = from_sorted {R = place_cmp} (map_all (entries m)) in
      left_at (eq_by_cmp place_cmp q (set, number)) (is_place_of q (linkers_in desc set number (entries m))) q r
      (sym (get-remove places_total corrected_all (set, number) q
      ∙ ap (λ (o : Option Record). cond (eq_by_cmp place_cmp q (set, number)) None o)
      (ap (λ (x : Records). get x q) (cleared_all desc set number (db_of m [])) ∙ cleared_get desc set number (linkers_in desc set number (entries m)) m q)) ∙ at)
    where
      map_all : List (Place × Record) → List (Place × Record)
      map_all es = map (corrected_entry desc set number) es

pub removal_fit : (desc : Described) (set number : ℕ) (rows new : List RecordRow) (r : Result Bool Memory) → RecordsFit desc (records_in rows)
    → IfOk r (λ b. records_in new ≡ cond b (removed_from desc set number (records_in rows)) (records_in rows)) → OnOk r (RecordsFit desc (records_in new))
removal_fit desc set number rows new (Ok true) fit db = subst (RecordsFit desc) (sym db) (removed_fits desc set number (records_in rows) fit)
removal_fit desc set number rows new (Ok false) fit db = subst (RecordsFit desc) (sym db) fit
removal_fit desc set number rows new (Err e) fit db = tt

-- ---- with a link set

link_fits : (k : ItemKind) (to : Option ℕ) → is_link k ≡ true → IfSome to (λ n. n < 2 ^ 32) → fits k (link_value to) ≡ true
link_fits k None h small = null_fits k
link_fits (Alpha n) (Some m) h small = absurd (cc)
link_fits (Decimal n d s) (Some m) h small = absurd (cc)
link_fits OneBit (Some m) h small = absurd (cc)
link_fits (Field n) (Some m) h small = absurd (cc)
link_fits (Link t c) (Some m) h small = grind (arith, nat_tests, small)

link_plain : (to : Option ℕ) → IsPlain (link_value to)
link_plain None = tt
link_plain (Some n) = tt

plain_set : (vs : List Value) (j : ℕ) (to : Option ℕ) → ArePlain vs → ArePlain (slice_set vs j (link_value to))
plain_set [] j to h = tt
plain_set (v ∷ vs) zero to h = (link_plain to, h.1)
plain_set (v ∷ vs) (suc j) to h = (h.0, plain_set vs j to h.1)

is_on : (o : Option Item) (x : Item) → o ≡ Some x → IsTrue (is_link_item o) → is_link x.kind ≡ true
is_on None x at h = absurd (cc)
is_on (Some y) x at h = subst (λ (z : Item). IsTrue (is_link z.kind)) (same_Some y x at) h

-- each other item has the value that it had
set_at : (items : List Item) (vs : List Value) (j : ℕ) (to : Option ℕ) → IsTrue (is_link_item (slice_get items j)) → IfSome to (λ n. n < 2 ^ 32) → AreFitting items vs
    → (k : ℕ) (item : Item) → slice_get items k ≡ Some item → fits item.kind (value_at (slice_set vs j (link_value to)) k) ≡ true
set_at items vs j to link small h k item at = by (eqb j k) refl
  where
    by : (b : Bool) → eqb j k ≡ b → fits item.kind (value_at (slice_set vs j (link_value to)) k) ≡ true
    by true e =
        let same : k ≡ j = grind (arith, nat_tests, e) in
        let mine : slice_get items j ≡ Some item = ap (slice_get items) (sym same) ∙ at in
        let within : j < length vs = omega (arith, slice_get_within items j item mine, h.lengths) in
        ap (λ (o : Option Value). fits item.kind (or_null o)) (ap (slice_get (slice_set vs j (link_value to))) same ∙ get_set_here vs j (link_value to) within)
        ∙ link_fits item.kind to (is_on (slice_get items j) item mine link) small
    by false e =
        ap (λ (o : Option Value). fits item.kind (or_null o)) (get_set_other vs j k (link_value to) (λ same. grind (arith, nat_tests, e, same))) ∙ h.fit k item at

set_fits : (items : List Item) (vs : List Value) (j : ℕ) (to : Option ℕ) → IsTrue (is_link_item (slice_get items j)) → IfSome to (λ n. n < 2 ^ 32) → AreFitting items vs → AreFitting items (slice_set vs j (link_value to))
set_fits items vs j to link small h = record {
  lengths = length-set vs j (link_value to) ∙ h.lengths;
  fit = set_at items vs j to link small h;
  plain = plain_set vs j to h.plain;
}

linked_fits : (desc : Described) (m : Records) (set number item : ℕ) (to : Option ℕ) (o : Option Record) → get m (set, number) ≡ o → RecordsFit desc m → IsLinkOf desc set item → IfSome to (λ n. n < 2 ^ 32)
    → RecordsFit desc (linked_at o m (set, number) item to)
linked_fits desc m set number item to None at fit link small = fit
linked_fits desc m set number item to (Some r) at fit link small =
    let own = fit (set, number) r at in
    insert_fits desc m (set, number) (record r { values = slice_set r.values (item - 1) (link_value to) }) fit
    (record { number = own.number; held = record { owner = own.held.owner; values = set_fits (items_of (structure_of desc set)) r.values (item - 1) to link small own.held.values } })

pub link_fit : {T : Type 0} (desc : Described) (rows new : List RecordRow) (set number item : ℕ) (to : Option ℕ) (r : Result T Memory) → RecordsFit desc (records_in rows) → IsLinkOf desc set item → IfSome to (λ n. n < 2 ^ 32)
    → OnOk r (records_in new ≡ linked_at (get (records_in rows) (set, number)) (records_in rows) (set, number) item to) → OnOk r (RecordsFit desc (records_in new))
link_fit desc rows new set number item to (Ok a) fit link small db = subst (RecordsFit desc) (sym db) (linked_fits desc (records_in rows) set number item to (get (records_in rows) (set, number)) refl fit link small)
link_fit desc rows new set number item to (Err e) fit link small db = tt
