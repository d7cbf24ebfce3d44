-- What is stored for a record that may come: it may come itself, what storing it answers, and all records fit after it.
use Rattle.std.proofs.Common.{◌≡◌, ℕ, zero, suc, ◌+◌, ◌^◌, ◌<◌, List, [], ◌∷◌, true, false, cond, Some, None, refl, sym, ap, ◌∙◌, subst, slice_get, arith}
use Rattle.std.specs.declared.option.Option.{Option}
use Rattle.std.specs.FinMap.{get}
use Rattle.dms_base.specs.declared.value.Value.{Value}
use Rattle.dms_base.specs.declared.value.Value.TheVariants.{Null}
use Rattle.dms_base.specs.declared.kind.ItemKind.{ItemKind}
use Rattle.dms_base.specs.Fits.{fits}
use Rattle.dms_desc.specs.declared.structure.Item.{Item}
use Rattle.dms_desc.specs.declared.record.Record.{Record}
use Rattle.dms_desc.specs.Shape.{Described}
use Rattle.dms_desc.specs.Conds.{or_null}
use Rattle.dms_model.specs.declared.put.Put.{Put}
use Rattle.dms_model.specs.declared.put.Put.TheVariants.{Stored, Duplicate, Full}
use Rattle.dms_model.specs.Db.{Db, Place}
use Rattle.dms_desc.specs.Lookups.{structure_of, items_of}
use Rattle.dms_desc.specs.Kinds.{is_link}
use Rattle.dms_model.specs.Strict.{AreNumbered, lesser, manual_clash}
use Rattle.dms_model.specs.Stores.{kept_value, linked_from, with_links_of, values_of, old_of, record_to_store, put_answer, put_after, put_number, put_unless, kept_owner}
use Rattle.dms_desc.specs.Plain.{FitsKind}
use Rattle.dms_sets.specs.Spots.{ValuesFit, RecordHasSpot, RecordsHaveSpots, put_fits}
use Rattle.std.specs.List.{AllByRecursion}
use Rattle.dms_sets.specs.Answers.{IsFoundNumber, clash_seen, answer_is}
use Rattle.dms_sets.specs.Puts.{IsNamed, MayCome, all_judged}
use Rattle.dms_model.specs.FitLaws.{null_fits}

kept_has : (P : Value → Type 0) (o : Option Item) (item : Item) (old v : Value) → o ≡ Some item → P v → P old → P (kept_value o old v)
kept_has P o item old v is new was =
    subst (λ k. P (kept_value k old v)) (sym is) (elim (is_link item.kind) as (λ b. P (cond b old v)) [ true ↦ was | false ↦ new ])

linked_has : (P : Value → Type 0) (i : ℕ) (items : List Item) (olds vs : List Value) (j : ℕ) (item : Item) → slice_get items (i + j) ≡ Some item → P (or_null (slice_get vs j)) → P (or_null (slice_get olds (i + j))) → P (or_null (slice_get (linked_from i items olds vs) j))
linked_has P i items olds [] j item is new was = new
linked_has P i items olds (v ∷ vs) zero item is new was =
    let here : i + 0 ≡ i = omega arith in
    kept_has P (slice_get items i) item (or_null (slice_get olds i)) v (ap (slice_get items) (sym here) ∙ is) new (subst (λ n. P (or_null (slice_get olds n))) here was)
linked_has P i items olds (v ∷ vs) (suc j) item is new was =
    let next : i + suc j ≡ (i + 1) + j = omega arith in
    linked_has P (i + 1) items olds vs j item (ap (slice_get items) (sym next) ∙ is) new (subst (λ n. P (or_null (slice_get olds n))) next was)

null_kind : (k : ItemKind) (v : Value) → FitsKind k v → FitsKind k Null
null_kind k v f = record { kind = f.kind; fits = null_fits k; plain = tt }

old_values : (desc : Described) (db : Db) (place : Place) (o : Option Record) (rec : Record) → get db.records place ≡ o → RecordsHaveSpots desc db → ValuesFit (items_of (structure_of desc place.0)) rec.values → ValuesFit (items_of (structure_of desc place.0)) (values_of o)
old_values desc db place None rec is fits new k item at = null_kind item.kind (or_null (slice_get rec.values k)) (new k item at)
old_values desc db place (Some r) rec is fits new k item at = (fits place r is).values k item at

owner_kept : (desc : Described) (db : Db) (place : Place) (owner : ℕ) (o : Option Record) → get db.records place ≡ o → RecordsHaveSpots desc db → owner < 2 ^ 32 → kept_owner o owner < 2 ^ 32
owner_kept desc db place owner None is fits low = low
owner_kept desc db place owner (Some r) is fits low = (fits place r is).owner

owner_fits : (desc : Described) (db : Db) (set : ℕ) (number : Option ℕ) (owner : ℕ) → RecordsHaveSpots desc db → owner < 2 ^ 32 → kept_owner (old_of db set number) owner < 2 ^ 32
owner_fits desc db set None owner fits low = low
owner_fits desc db set (Some n) owner fits low = owner_kept desc db (set, n) owner (get db.records (set, n)) refl fits low

-- what is stored for a record that may come fits
pub stored_fits : (desc : Described) (db : Db) (set n : ℕ) (rec : Record) → RecordsHaveSpots desc db → MayCome desc set rec → n < 2 ^ 32 → RecordHasSpot desc (set, n) (with_links_of (items_of (structure_of desc set)) (get db.records (set, n)) rec)
stored_fits desc db set n rec fits may small =
    let items = items_of (structure_of desc set) in
    let old = get db.records (set, n) in
    record {
      small = small;
      owner = owner_kept desc db (set, n) rec.owner old refl fits may.owner;
      values = λ k item at.
          linked_has (FitsKind item.kind) 0 items (values_of old) rec.values k item (ap (slice_get items) (omega arith) ∙ at) (may.values k item at)
          (subst (λ m. FitsKind item.kind (or_null (slice_get (values_of old) m))) (omega arith) (old_values desc db (set, n) old rec refl fits may.values k item at));
    }

-- the values of the record that is replaced fit, and where none is replaced null does
olds_fit : (desc : Described) (db : Db) (set : ℕ) (number : Option ℕ) (rec : Record) → RecordsHaveSpots desc db → MayCome desc set rec → ValuesFit (items_of (structure_of desc set)) (values_of (old_of db set number))
olds_fit desc db set None rec fits may k item at = null_kind item.kind (or_null (slice_get rec.values k)) (may.values k item at)
olds_fit desc db set (Some n) rec fits may k item at = old_values desc db (set, n) (get db.records (set, n)) rec refl fits may.values k item at

-- what is stored for a record that may come may come itself
pub stored_comes : (desc : Described) (db : Db) (set : ℕ) (number : Option ℕ) (rec : Record) → RecordsHaveSpots desc db → MayCome desc set rec → MayCome desc set (record_to_store desc db set number rec)
stored_comes desc db set number rec fits may =
    let items = items_of (structure_of desc set) in
    let olds = values_of (old_of db set number) in
    record {
      owner = owner_fits desc db set number rec.owner fits may.owner;
      values = λ k item at.
          linked_has (FitsKind item.kind) 0 items olds rec.values k item (ap (slice_get items) (omega arith) ∙ at) (may.values k item at)
          (subst (λ m. FitsKind item.kind (or_null (slice_get olds m))) (omega arith) (olds_fit desc db set number rec fits may k item at));
    }

-- Storing a record answers a duplicate exactly for the first set without DUPLICATES in whose entries, without that of the record that it replaces,
-- the first that reaches the owner and key of what would be stored has them, or for a manual subset that refuses it and comes before.
pub put_answers : (desc : Described) (db : Db) (set : ℕ) (number : Option ℕ) (rec : Record) → AreNumbered 1 desc.structures → AllByRecursion (IsNamed desc) desc.structures → RecordsHaveSpots desc db → MayCome desc set rec → IsFoundNumber number
    → put_answer desc db set number rec ≡ put_unless (lesser (clash_seen desc desc.structures db set number (record_to_store desc db set number rec)) (manual_clash desc.structures db set number (record_to_store desc db set number rec))) (put_number desc db set number)
unfolding put_answer
put_answers desc db set number rec numbered named spots may small =
    let made = record_to_store desc db set number rec in
    let comes = stored_comes desc db set number rec spots may in
    answer_is desc db set number made numbered comes.owner small (all_judged desc db set made desc.structures named spots comes)

abbrev pub IsStoredSmall : Put → Type 0
IsStoredSmall (Stored n) = n < 2 ^ 32
IsStoredSmall (Duplicate s) = Unit {0}
IsStoredSmall Full = Unit {0}

-- All records fit after a put.
pub fits_after : (answer : Put) (desc : Described) (db : Db) (set : ℕ) (rec : Record) → IsStoredSmall answer → RecordsHaveSpots desc db → MayCome desc set rec → RecordsHaveSpots desc (put_after answer desc db set rec)
fits_after (Stored n) desc db set rec small fits may = put_fits desc db (set, n) (with_links_of (items_of (structure_of desc set)) (get db.records (set, n)) rec) fits (stored_fits desc db set n rec fits may small)
fits_after (Duplicate s) desc db set rec small fits may = fits
fits_after Full desc db set rec small fits may = fits
