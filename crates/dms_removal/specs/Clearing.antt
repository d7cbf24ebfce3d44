-- What is left of the content of a database where the self-correcting links to a record are null.
use Rattle.std.proofs.Common.{◌≡◌, ◌∙◌, ◌+◌, ℕ, suc, List, [], ◌∷◌, Bool, true, false, cond, Some, None, refl, sym, ap, slice_get, map, filter, arith}
use Rattle.std.specs.Prelude.{◌&&◌, ◌||◌, nat_lt}
use Rattle.std.specs.List.{list_any}
use Rattle.std.specs.declared.option.Option.{Option}
use Rattle.std.specs.FinMap.{entries, get}
use Rattle.std.specs.Ordering.{eq_by_cmp}
use Rattle.std.proofs.lemmas.Bool.Decides.{nat_tests}
use Rattle.dms_base.specs.declared.value.Value.{Value}
use Rattle.dms_base.specs.declared.value.Value.TheVariants.{Null}
use Rattle.dms_block.specs.Content.{Content}
use Rattle.dms_desc.specs.Conds.{or_null}
use Rattle.dms_desc.specs.Lookups.{items_of, structure_of}
use Rattle.dms_desc.specs.Shape.{Described}
use Rattle.dms_desc.specs.declared.record.Record.{Record}
use Rattle.dms_desc.specs.declared.structure.Item.{Item}
use Rattle.dms_links.specs.Cleared.{cleared, cleared_get, corrected_opt, corrected_record, is_place_of}
use Rattle.dms_links.specs.Clearing.{CorrectsAll}
use Rattle.dms_links.specs.ClearingLaws.{are_cleared, counted_cleared, owned_cleared}
use Rattle.dms_links.specs.Stands.{Counts, tally_of}
use Rattle.dms_links.specs.Stepping.{HaveSlotFiles}
use Rattle.dms_links.specs.declared.altering.SlotChange.TheVariants.{Corrected}
use Rattle.dms_manual.specs.Refused.{any_at, any_from}
use Rattle.dms_model.specs.Db.{Db, Place, Records, place_cmp}
use Rattle.dms_model.specs.Uses.{corrected, corrected_value, in_use, is_entered, is_link_into, linkers, links_to, place_in_entry, refers_to, some_link}
use Rattle.dms_spelling.specs.After.{lists_stay, slot_files, slots_corrected, stands_after}
use Rattle.dms_spelling.specs.Holds.{have_slots, records_fit, small_in}
use Rattle.dms_spelling.specs.Serving.{IsServed}
use Rattle.dms_spelling.specs.Spelled.{database_in}
use Rattle.dms_spelling.specs.Stands.{spell_by}
use Rattle.dms_spelling.specs.Staying.{TakenStay, altered_stays, same_stays, then_stays}
use Rattle.dms_tally.specs.Gone.{MayGo}
use Rattle.dms_tally.specs.Used.{in_use_is}
use Rattle.dms_removal.specs.Alike.{alike_keeps, cleared_alike, entries_keep, relisted}
use Rattle.dms_removal.specs.Using.{files}

-- ---- numbers

pub corrects_stay : (desc : Described) (to number : ℕ) (ps : List Place) (c d : Content) → HaveSlotFiles desc → CorrectsAll desc to number ps c d → TakenStay desc c d
corrects_stay desc to number [] c d have h = same_stays desc c d h
corrects_stay desc to number (p ∷ ps) c d have (e, b, a, h) = then_stays desc c e d (altered_stays desc p.0 p.1 (Corrected to number) c e b have a) (corrects_stay desc to number ps e d have h)

-- ---- no link to the record is left

corrected_off : (to number : ℕ) (o : Option Item) (i : Item) (v : Value) → o ≡ Some i → (is_link_into false to i.kind && refers_to number (corrected_value o to number v)) ≡ false
corrected_off to number o i v is = ap (λ (x : Option Item). is_link_into false to i.kind && refers_to number (corrected_value x to number v)) is ∙ by (is_link_into false to i.kind) (refers_to number v) refl
  where
    by : (a b : Bool) → refers_to number v ≡ b → (a && refers_to number (cond (a && b) Null v)) ≡ false
    by true true e = refl
    by true false e = e
    by false b e = refl

-- the values that stand from a place on
none_null : (to number k : ℕ) (is : List Item) (values : List Value) → ((j : ℕ) → or_null (slice_get values (k + j)) ≡ Null) → some_link false to number k is values ≡ false
none_null to number k [] values none = refl
none_null to number k (i ∷ is) values none =
    let e : k ≡ k + 0 = omega arith in
    let here : (is_link_into false to i.kind && refers_to number (or_null (slice_get values k))) ≡ false = ap (λ v. is_link_into false to i.kind && refers_to number v) (ap (λ m. or_null (slice_get values m)) e ∙ none 0) ∙ no (is_link_into false to i.kind) in
    let rest = none_null to number (k + 1) is values (λ j. let m : (k + 1) + j ≡ k + suc j = omega arith in ap (λ x. or_null (slice_get values x)) m ∙ none (suc j)) in
    λ x. here x || rest x
  where
    no : (b : Bool) → (b && false) ≡ false
    no true = refl
    no false = refl

none_left : (to number k : ℕ) (all is : List Item) (values vs : List Value) → ((j : ℕ) → slice_get all (k + j) ≡ slice_get is j) → ((j : ℕ) → or_null (slice_get values (k + j)) ≡ or_null (slice_get (corrected to number k all vs) j)) → some_link false to number k is values ≡ false
none_left to number k all [] values vs items olds = refl
none_left to number k all (i ∷ is) values [] items olds = none_null to number k (i ∷ is) values (λ j. olds j)
none_left to number k all (i ∷ is) values (v ∷ vs) items olds =
    let e : k ≡ k + 0 = omega arith in
    let item : slice_get all k ≡ Some i = ap (slice_get all) e ∙ items 0 in
    let value : or_null (slice_get values k) ≡ corrected_value (slice_get all k) to number v = ap (λ m. or_null (slice_get values m)) e ∙ olds 0 in
    let here : (is_link_into false to i.kind && refers_to number (or_null (slice_get values k))) ≡ false = ap (λ x. is_link_into false to i.kind && refers_to number x) value ∙ corrected_off to number (slice_get all k) i v item in
    let rest = none_left to number (k + 1) all is values vs (λ j. let m : (k + 1) + j ≡ k + suc j = omega arith in ap (slice_get all) m ∙ items (suc j)) (λ j. let m : (k + 1) + j ≡ k + suc j = omega arith in ap (λ x. or_null (slice_get values x)) m ∙ olds (suc j)) in
    λ x. here x || rest x

module _ (desc : Described) (to number : ℕ) where
  -- a record that was corrected has none
  corrected_none : (p : Place) (r : Record) → links_to false desc to number (p, corrected_record desc to number p r) ≡ false
  corrected_none p r =
      let items = items_of (structure_of desc p.0) in
      let vs = corrected to number 0 items r.values in
      none_left to number 0 items items vs r.values (λ j. let e : 0 + j ≡ j = omega arith in ap (slice_get items) e) (λ j. let e : 0 + j ≡ j = omega arith in ap (λ n. or_null (slice_get vs n)) e)

  any_mapped : (q : Place) (f : Place × Record → Bool) (es : List (Place × Record)) → is_place_of q (map place_in_entry (filter f es)) ≡ list_any (λ (e : Place × Record). f e && eq_by_cmp place_cmp q e.0) es
  any_mapped q f [] = refl
  any_mapped q f (e ∷ es) = by (f e) (any_mapped q f es)
    where
      by : (b : Bool) → is_place_of q (map place_in_entry (filter f es)) ≡ list_any (λ (x : Place × Record). f x && eq_by_cmp place_cmp q x.0) es
          → is_place_of q (map place_in_entry (cond b (e ∷ filter f es) (filter f es))) ≡ ((b && eq_by_cmp place_cmp q e.0) || list_any (λ (x : Place × Record). f x && eq_by_cmp place_cmp q x.0) es)
      by true rest = ap (λ c. eq_by_cmp place_cmp q e.0 || c) rest
      by false rest = rest

  same_place : (p : Place) → eq_by_cmp place_cmp p p ≡ true
  same_place p = grind (arith, nat_tests)

  -- one that wasn't had none
  others_none : (db : Db) (p : Place) (r : Record) → get db.records p ≡ Some r → is_place_of p (linkers desc db to number) ≡ false → links_to false desc to number (p, r) ≡ false
  unfolding linkers
  others_none db p r at off = by (links_to false desc to number (p, r)) refl
    where
      f : Place × Record → Bool
      f = links_to false desc to number

      by : (b : Bool) → links_to false desc to number (p, r) ≡ b → b ≡ false
      by false is = refl
      by true is =
          let there : list_any (λ (e : Place × Record). f e && eq_by_cmp place_cmp p e.0) (entries db.records) ≡ true =
          any_at (λ (e : Place × Record). f e && eq_by_cmp place_cmp p e.0) db.records p r at (λ i. is i && same_place p i) in
          let on : is_place_of p (map place_in_entry (filter f (entries db.records))) ≡ true = any_mapped p f (entries db.records) ∙ there in
          absurd (cc (off, on))

-- ---- the database

module _ (desc : Described) (served : IsServed desc) (db : Db) (set number : ℕ) where
  -- it with the records at some places corrected
  abbrev pub cleared_db : List Place → Db
  cleared_db ps = record db { records = cleared desc set number ps db.records }

  -- The content spells it,
  pub cleared_spells : (ps : List Place) (c d : Content) → database_in desc c ≡ Some db → CorrectsAll desc set number ps c d → database_in desc d ≡ Some (cleared_db ps)
  cleared_spells ps c d spelt h =
      let own = tally_of desc db in
      let before = files desc served db c spelt in
      let counts : Counts desc db own = record { counted = λ t m low. refl; owned = λ t m low. refl } in
      let now = are_cleared desc db own c d set number ps (have_slots desc served) before.slots counts h in
      let m = cleared desc set number ps db.records in
      let alike = cleared_alike desc set number ps db.records in
      let lists = relisted desc served db m (records_fit desc served db own c before.slots) (small_in desc served db own c before.slots before.lists before.entries) alike c c (lists_stay desc db c served before.fit before.lists) in
      let only = slots_corrected desc served set number ps c d (slot_files desc db own c served before.slots) h in
      let all = stands_after desc served (cleared_db ps) own c c d before.fit lists only now.files (entries_keep desc db m (alike_keeps desc m db.records alike) before.entries) in
      spell_by desc (cleared_db ps) own d served all now.counts

  -- the record is in use there as it was,
  pub cleared_use : (ps : List Place) → in_use desc (cleared_db ps) set number ≡ in_use desc db set number
  cleared_use ps =
      in_use_is desc (cleared_db ps) set number
      ∙ (λ i. (nat_lt 0 (counted_cleared desc set number set number db ps i) || list_any (is_entered desc set number) db.entries) || nat_lt 0 (owned_cleared desc set number set number db ps i))
      ∙ sym (in_use_is desc db set number)

  -- and may go, where its linkers were corrected.
  pub may_go : in_use desc db set number ≡ false → MayGo desc (cleared_db (linkers desc db set number)) set number
  may_go unused = record { free = cleared_use (linkers desc db set number) ∙ unused; none = off (list_any (links_to false desc set number) (entries m)) refl }
    where
      m : Records
      m = cleared desc set number (linkers desc db set number) db.records

      at_place : (p : Place) (r : Record) (b : Bool) (o : Option Record) → is_place_of p (linkers desc db set number) ≡ b → get db.records p ≡ o → cond b (corrected_opt desc set number p o) o ≡ Some r → links_to false desc set number (p, r) ≡ false
      at_place p r true None is at h = absurd (cc h)
      at_place p r true (Some q) is at h = ap (λ (x : Record). links_to false desc set number (p, x)) (sym (some_record (corrected_record desc set number p q) r h)) ∙ corrected_none desc set number p q
        where
          some_record : (x y : Record) → ◌≡◌ {A = Option Record} (Some x) (Some y) → x ≡ y
          some_record x y e = cc
      at_place p r false o is at h = others_none desc set number db p r (at ∙ h) is

      off : (b : Bool) → list_any (links_to false desc set number) (entries m) ≡ b → b ≡ false
      off false is = refl
      off true is =
          let f = any_from (links_to false desc set number) m is in
          let none = at_place f.place f.rec (is_place_of f.place (linkers desc db set number)) (get db.records f.place) refl refl (sym (cleared_get desc set number (linkers desc db set number) db.records f.place) ∙ f.at) in
          absurd (cc (none, f.holds))
