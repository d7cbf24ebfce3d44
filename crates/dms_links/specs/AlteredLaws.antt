-- What one slot that was altered makes of the slots of a database.
use Rattle.std.proofs.Common.{◌≡◌, ◌≢◌, ◌∙◌, ◌+◌, ◌-◌, ◌^◌, ◌≤◌, ℕ, zero, suc, List, [], ◌∷◌, Bool, true, false, cond, Some, None, refl, sym, ap, subst, slice_get, slice_set, arith}
use Rattle.std.specs.Prelude.{◌&&◌, ◌==◌, is_some}
use Rattle.std.specs.declared.option.Option.{Option}
use Rattle.std.specs.FinMap.{get, get-insert, insert}
use Rattle.std.specs.Ordering.{eq_by_cmp}
use Rattle.std.proofs.lemmas.Bool.{and_parts}
use Rattle.std.proofs.lemmas.Bool.Decides.{nat_tests}
use Rattle.std.proofs.lemmas.Option.{same_Some}
use Rattle.dms_base.specs.declared.kind.ItemKind.{ItemKind}
use Rattle.dms_base.specs.declared.kind.ItemKind.TheVariants.{Alpha, Number as Decimal, Bool as OneBit, Field, Link}
use Rattle.dms_base.specs.declared.value.Value.{Value}
use Rattle.dms_base.specs.declared.value.Value.TheVariants.{Null, Text, Number, Bool as Truth, Bits, Link as Reference}
use Rattle.dms_block.specs.Content.{Content}
use Rattle.dms_desc.specs.Lookups.{items_of, structure_of}
use Rattle.dms_desc.specs.Shape.{Shape, Described}
use Rattle.dms_desc.specs.declared.record.Record.{Record}
use Rattle.dms_desc.specs.declared.structure.Item.{Item}
use Rattle.dms_layout.specs.Slots.{AreKinds}
use Rattle.dms_layout.specs.declared.slot.Slot.{Slot}
use Rattle.dms_layout.specs.declared.slot.SlotRead.TheVariants.{Used}
use Rattle.dms_model.specs.Db.{Db, Place, Records, place_cmp}
use Rattle.dms_model.specs.Places.{place_is, places_total, stands_still}
use Rattle.dms_model.specs.Valid.{is_data_set, link_stands, owner_stands}
use Rattle.dms_slots.specs.SlotBlocks.{slot_at}
use Rattle.dms_model.specs.Uses.{after_link, corrected, corrected_value, is_link_into, link_value, linked_record, refers_to}
use Rattle.dms_tally.specs.Counts.{links_stand}
use Rattle.dms_links.specs.Altered.{IsAltered, counted_fewer, counted_more, owned_fewer, owned_more, slot_after, with_count, with_owned, with_values}
use Rattle.dms_links.specs.Cleared.{cleared_one, corrected_opt, corrected_record, put_opt}
use Rattle.dms_links.specs.Changed.{IsSetOf, OthersStand, WritesRecord, written}
use Rattle.dms_links.specs.Linking.{number_at}
use Rattle.dms_links.specs.Rows.{file_in, rec_in, rec_opt}
use Rattle.dms_links.specs.Stands.{RecordsStand, SlotStands, Tally}
use Rattle.dms_links.specs.Steps.{SlotIs, slot_written}
use Rattle.dms_links.specs.Walked.{HasSlots}
use Rattle.dms_links.specs.declared.altering.SlotChange.{SlotChange}
use Rattle.dms_links.specs.declared.altering.SlotChange.TheVariants.{Counted, Uncounted, Corrected, Linked, Owned, Disowned}

-- a data set whose slots fit a block, and a number from 1 on
pub record IsSlotOf (desc : Described) (set number : ℕ) (s : Shape) : Type 0 where
  pub of : IsSetOf desc set s
  pub sized : HasSlots s
  pub kinds : AreKinds s.items
  pub low : 1 ≤ number

-- the count of one record is another
abbrev pub counted_at : Tally → ℕ → ℕ → ℕ → Tally
counted_at own set number k = record own { counted = λ t n. cond ((t == set) && (n == number)) k (own.counted t n) }

abbrev pub owned_at : Tally → ℕ → ℕ → ℕ → Tally
owned_at own set number k = record own { owned = λ t n. cond ((t == set) && (n == number)) k (own.owned t n) }

-- ---- what stands still does

links_still : (a b : Records) → ((q : Place) → is_some (get a q) ≡ true → is_some (get b q) ≡ true) → (k : ItemKind) (v : Value) → link_stands a k v ≡ true → link_stands b k v ≡ true
links_still a b still (Link t c) (Reference n) h = still (t, n) h
links_still a b still (Link t c) Null h = h
links_still a b still (Link t c) (Text x) h = h
links_still a b still (Link t c) (Number x) h = h
links_still a b still (Link t c) (Truth x) h = h
links_still a b still (Link t c) (Bits x) h = h
links_still a b still (Alpha m) v h = h
links_still a b still (Decimal m d s) v h = h
links_still a b still OneBit v h = h
links_still a b still (Field m) v h = h

all_still : (a b : Records) → ((q : Place) → is_some (get a q) ≡ true → is_some (get b q) ≡ true) → (is : List Item) (vs : List Value) → links_stand a is vs ≡ true → links_stand b is vs ≡ true
all_still a b still [] vs h = refl
all_still a b still (i ∷ is) [] h = refl
all_still a b still (i ∷ is) (v ∷ vs) h =
    let both = and_parts (link_stands a i.kind v) (links_stand a is vs) h in
    let here = links_still a b still i.kind v both.0 in
    let rest = all_still a b still is vs both.1 in
    λ j. here j && rest j

owner_still : (a b : Records) → ((q : Place) → is_some (get a q) ≡ true → is_some (get b q) ≡ true) → (t m : ℕ) → owner_stands a t m ≡ true → owner_stands b t m ≡ true
owner_still a b still t m h = by (t == 0) h
  where
    by : (z : Bool) → cond z (m == 0) (is_some (get a (t, m))) ≡ true → cond z (m == 0) (is_some (get b (t, m))) ≡ true
    by true k = k
    by false k = still (t, m) k

-- another record isn't this one
not_here : (t n set number : ℕ) → (t ≡ set → n ≡ number → ⊥) → ((t == set) && (n == number)) ≡ false
not_here t n set number apart = by ((t == set) && (n == number)) refl
  where
    by : (b : Bool) → ((t == set) && (n == number)) ≡ b → b ≡ false
    by false e = refl
    by true e =
        let two = and_parts (t == set) (n == number) e in
        let one : t ≡ set = grind (arith, nat_tests, two.0) in
        let other : n ≡ number = grind (arith, nat_tests, two.1) in
        absurd (apart one other)

-- ---- one slot

module _ (desc : Described) (db : Db) (own : Tally) (c d : Content) (set number : ℕ) (s : Shape) (is : IsSlotOf desc set number s) (change : SlotChange) (files : RecordsStand desc db own c) (a : IsAltered s number change c d) where
  its_number : s.number ≡ set
  its_number = number_at desc is.of.numbered set s is.of.at

  altered_slot : SlotIs s number (Some a.next) c d
  altered_slot = subst (λ (e : Content). SlotIs s number (Some a.next) c e) (sym a.is) (slot_written s number c is.sized is.low a.there (files.each set s is.of.at is.of.is_set).blocks a.next is.kinds a.fits)

  its_slot : SlotStands desc db own s number a.slot
  its_slot = (files.each set s is.of.at is.of.is_set).slots number a.slot is.low a.was

  its_record : get db.records (set, number) ≡ Some a.slot.rec
  its_record =
      files.records set number is.low ∙ ap (λ u. rec_in c u number) is.of.at ∙ ap (λ b. cond b (rec_opt (slot_at s (file_in c s) number)) None) is.of.is_set ∙ ap rec_opt a.was

  record_same : a.next.rec ≡ a.slot.rec → (p : Place) → get db.records p ≡ cond (eq_by_cmp place_cmp p (set, number)) (Some a.next.rec) (get db.records p)
  record_same same p = by (eq_by_cmp place_cmp p (set, number)) refl
    where
      by : (b : Bool) → eq_by_cmp place_cmp p (set, number) ≡ b → get db.records p ≡ cond b (Some a.next.rec) (get db.records p)
      by true h = ap (get db.records) (place_is p (set, number) h) ∙ its_record ∙ ap Some (sym same)
      by false h = refl

  others_counted : (k : ℕ) → OthersStand desc db db own (counted_at own set number k) set number
  others_counted k t n x shape there apart h = record { most = h.most; owner = h.owner; links = h.links; counted = h.counted ∙ sym (ap (λ b. cond b k (own.counted t.number n)) off); owned = h.owned }
    where
      off : ((t.number == set) && (n == number)) ≡ false
      off = not_here t.number n set number apart

  here_counted : (k : ℕ) → a.next ≡ with_count k a.slot → SlotStands desc db (counted_at own set number k) s number a.next
  here_counted k same =
      subst (λ (x : Slot). SlotStands desc db (counted_at own set number k) s number x) (sym same)
      (record { most = its_slot.most; owner = its_slot.owner; links = its_slot.links; counted = sym (ap (λ b. cond b k (own.counted s.number number)) on); owned = its_slot.owned })
    where
      on : ((s.number == set) && (number == number)) ≡ true
      on = grind (arith, nat_tests, its_number)

  recounted : (k : ℕ) → a.next ≡ with_count k a.slot → RecordsStand desc db (counted_at own set number k) d
  recounted k same =
      written desc db db own (counted_at own set number k) c d set number s a.next is.of
      (record { records = record_same (ap (λ (x : Slot). x.rec) same); others = others_counted k; here = here_counted k same }) is.low altered_slot files

  -- a link more, and a link fewer
  pub slot_counted : counted_more a.slot ≡ Some a.next → RecordsStand desc db (counted_at own set number (own.counted set number + 1)) d
  slot_counted h = subst (λ k. RecordsStand desc db (counted_at own set number k) d) (ap (λ k. k + 1) its_slot.counted ∙ ap (λ t. own.counted t number + 1) its_number) (recounted (a.slot.counted + 1) (by (a.slot.counted == 2 ^ 32 - 1) h))
    where
      by : (b : Bool) → cond b None (Some (with_count (a.slot.counted + 1) a.slot)) ≡ Some a.next → a.next ≡ with_count (a.slot.counted + 1) a.slot
      by true k = absurd (cc k)
      by false k = sym (same_Some (with_count (a.slot.counted + 1) a.slot) a.next k)

  pub slot_uncounted : counted_fewer a.slot ≡ Some a.next → RecordsStand desc db (counted_at own set number (own.counted set number - 1)) d
  slot_uncounted h = subst (λ k. RecordsStand desc db (counted_at own set number k) d) (ap (λ k. k - 1) its_slot.counted ∙ ap (λ t. own.counted t number - 1) its_number) (recounted (a.slot.counted - 1) (by (a.slot.counted == 0) h))
    where
      by : (b : Bool) → cond b None (Some (with_count (a.slot.counted - 1) a.slot)) ≡ Some a.next → a.next ≡ with_count (a.slot.counted - 1) a.slot
      by true k = absurd (cc k)
      by false k = sym (same_Some (with_count (a.slot.counted - 1) a.slot) a.next k)

  others_owned : (k : ℕ) → OthersStand desc db db own (owned_at own set number k) set number
  others_owned k t n x shape there apart h = record { most = h.most; owner = h.owner; links = h.links; counted = h.counted; owned = h.owned ∙ sym (ap (λ b. cond b k (own.owned t.number n)) off) }
    where
      off : ((t.number == set) && (n == number)) ≡ false
      off = not_here t.number n set number apart

  here_owned : (k : ℕ) → a.next ≡ with_owned k a.slot → SlotStands desc db (owned_at own set number k) s number a.next
  here_owned k same =
      subst (λ (x : Slot). SlotStands desc db (owned_at own set number k) s number x) (sym same)
      (record { most = its_slot.most; owner = its_slot.owner; links = its_slot.links; counted = its_slot.counted; owned = sym (ap (λ b. cond b k (own.owned s.number number)) on) })
    where
      on : ((s.number == set) && (number == number)) ≡ true
      on = grind (arith, nat_tests, its_number)

  reowned : (k : ℕ) → a.next ≡ with_owned k a.slot → RecordsStand desc db (owned_at own set number k) d
  reowned k same =
      written desc db db own (owned_at own set number k) c d set number s a.next is.of
      (record { records = record_same (ap (λ (x : Slot). x.rec) same); others = others_owned k; here = here_owned k same }) is.low altered_slot files

  -- one owned more, and one fewer
  pub slot_owned : owned_more a.slot ≡ Some a.next → RecordsStand desc db (owned_at own set number (own.owned set number + 1)) d
  slot_owned h = subst (λ k. RecordsStand desc db (owned_at own set number k) d) (ap (λ k. k + 1) its_slot.owned ∙ ap (λ t. own.owned t number + 1) its_number) (reowned (a.slot.owned + 1) (by (a.slot.owned == 2 ^ 32 - 1) h))
    where
      by : (b : Bool) → cond b None (Some (with_owned (a.slot.owned + 1) a.slot)) ≡ Some a.next → a.next ≡ with_owned (a.slot.owned + 1) a.slot
      by true k = absurd (cc k)
      by false k = sym (same_Some (with_owned (a.slot.owned + 1) a.slot) a.next k)

  pub slot_disowned : owned_fewer a.slot ≡ Some a.next → RecordsStand desc db (owned_at own set number (own.owned set number - 1)) d
  slot_disowned h = subst (λ k. RecordsStand desc db (owned_at own set number k) d) (ap (λ k. k - 1) its_slot.owned ∙ ap (λ t. own.owned t number - 1) its_number) (reowned (a.slot.owned - 1) (by (a.slot.owned == 0) h))
    where
      by : (b : Bool) → cond b None (Some (with_owned (a.slot.owned - 1) a.slot)) ≡ Some a.next → a.next ≡ with_owned (a.slot.owned - 1) a.slot
      by true k = absurd (cc k)
      by false k = sym (same_Some (with_owned (a.slot.owned - 1) a.slot) a.next k)

  -- other values of the record, whose links stand
  abbrev with_record : Db
  with_record = record db { records = insert db.records (set, number) a.next.rec }

  still : (q : Place) → is_some (get db.records q) ≡ true → is_some (get with_record.records q) ≡ true
  still q h = stands_still db.records (set, number) q a.next.rec h

  others_valued : OthersStand desc db with_record own own set number
  others_valued t n x shape there apart h = record {
    most = h.most;
    owner = owner_still db.records with_record.records still t.owner x.rec.owner h.owner;
    links = all_still db.records with_record.records still t.items x.rec.values h.links;
    counted = h.counted;
    owned = h.owned;
  }

  pub slot_valued : (vs : List Value) → a.next ≡ with_values vs a.slot → links_stand db.records s.items vs ≡ true → RecordsStand desc (record db { records = insert db.records (set, number) a.next.rec }) own d
  slot_valued vs same stand =
      written desc db with_record own own c d set number s a.next is.of
      (record {
        records = λ p. get-insert places_total db.records (set, number) a.next.rec p;
        others = others_valued;
        here = subst (λ (x : Slot). SlotStands desc with_record own s number x) (sym same) (record {
          most = its_slot.most;
          owner = owner_still db.records with_record.records still s.owner a.slot.rec.owner its_slot.owner;
          links = all_still db.records with_record.records still s.items vs stand;
          counted = its_slot.counted;
          owned = its_slot.owned;
        });
      }) is.low altered_slot files

-- ---- values whose links stand

set_stands : (records : Records) (is : List Item) (vs : List Value) (i : ℕ) (v : Value) → links_stand records is vs ≡ true → ((x : Item) → slice_get is i ≡ Some x → link_stands records x.kind v ≡ true) → links_stand records is (slice_set vs i v) ≡ true
set_stands records [] vs i v h target = refl
set_stands records (x ∷ is) [] i v h target = refl
set_stands records (x ∷ is) (w ∷ vs) zero v h target =
    let both = and_parts (link_stands records x.kind w) (links_stand records is vs) h in
    let here = target x refl in
    λ j. here j && both.1 j
set_stands records (x ∷ is) (w ∷ vs) (suc i) v h target =
    let both = and_parts (link_stands records x.kind w) (links_stand records is vs) h in
    let rest = set_stands records is vs i v both.1 target in
    λ j. both.0 j && rest j

pub null_stands : (records : Records) (k : ItemKind) → link_stands records k Null ≡ true
null_stands records (Alpha n) = refl
null_stands records (Decimal n d s) = refl
null_stands records OneBit = refl
null_stands records (Field n) = refl
null_stands records (Link t c) = refl

corrected_stands : (records : Records) (o : Option Item) (k : ItemKind) (to number : ℕ) (v : Value) → link_stands records k v ≡ true → link_stands records k (corrected_value o to number v) ≡ true
corrected_stands records None k to number v h = h
corrected_stands records (Some i) k to number v h = by (is_link_into false to i.kind && refers_to number v)
  where
    by : (b : Bool) → link_stands records k (cond b Null v) ≡ true
    by true = null_stands records k
    by false = h

all_corrected : (records : Records) (to number k : ℕ) (all is : List Item) (vs : List Value) → links_stand records is vs ≡ true → links_stand records is (corrected to number k all vs) ≡ true
all_corrected records to number k all [] vs h = refl
all_corrected records to number k all (x ∷ is) [] h = refl
all_corrected records to number k all (x ∷ is) (v ∷ vs) h =
    let both = and_parts (link_stands records x.kind v) (links_stand records is vs) h in
    let here = corrected_stands records (slice_get all k) x.kind to number v both.0 in
    let rest = all_corrected records to number (k + 1) all is vs both.1 in
    λ j. here j && rest j

-- ---- what is told of each change

-- where the slot was altered so
abbrev pub IfAltered : Described → Db → Tally → Content → Content → ℕ → ℕ → Shape → SlotChange → Type 0 → Type 0
IfAltered desc db own c d set number s change P = IsSlotOf desc set number s → RecordsStand desc db own c → IsAltered s number change c d → P

-- one counted link more refers to the record, or one fewer does
abbrev pub CountsMore : Described → Db → Tally → Content → Content → ℕ → ℕ → Shape → Type 0
CountsMore desc db own c d set number s = IfAltered desc db own c d set number s Counted (RecordsStand desc db (counted_at own set number (own.counted set number + 1)) d)

abbrev pub CountsFewer : Described → Db → Tally → Content → Content → ℕ → ℕ → Shape → Type 0
CountsFewer desc db own c d set number s = IfAltered desc db own c d set number s Uncounted (RecordsStand desc db (counted_at own set number (own.counted set number - 1)) d)

-- the record owns one more, or one fewer
abbrev pub OwnsMore : Described → Db → Tally → Content → Content → ℕ → ℕ → Shape → Type 0
OwnsMore desc db own c d set number s = IfAltered desc db own c d set number s Owned (RecordsStand desc db (owned_at own set number (own.owned set number + 1)) d)

abbrev pub OwnsFewer : Described → Db → Tally → Content → Content → ℕ → ℕ → Shape → Type 0
OwnsFewer desc db own c d set number s = IfAltered desc db own c d set number s Disowned (RecordsStand desc db (owned_at own set number (own.owned set number - 1)) d)

-- what a link is to refer to stands
abbrev pub TargetStands : Db → Shape → ℕ → Option ℕ → Type 0
TargetStands db s item to = (x : Item) → slice_get s.items (item - 1) ≡ Some x → link_stands db.records x.kind (link_value to) ≡ true

-- a link is set
abbrev pub SetsLink : Described → Db → Tally → Content → Content → ℕ → ℕ → Shape → ℕ → Option ℕ → Type 0
SetsLink desc db own c d set number s item to = IfAltered desc db own c d set number s (Linked item to) (TargetStands db s item to → RecordsStand desc (after_link db set number item to) own d)

-- the self-correcting links of the record to another one are null
abbrev pub CorrectsLinks : Described → Db → Tally → Content → Content → ℕ → ℕ → Shape → ℕ → ℕ → Type 0
CorrectsLinks desc db own c d set number s to n = IfAltered desc db own c d set number s (Corrected to n) (RecordsStand desc (record db { records = cleared_one desc to n (set, number) db.records }) own d)

module _ (desc : Described) (db : Db) (own : Tally) (c d : Content) (set number : ℕ) (s : Shape) (is : IsSlotOf desc set number s) (files : RecordsStand desc db own c) where
  pub slot_linked : (item : ℕ) (to : Option ℕ) (a : IsAltered s number (Linked item to) c d) → TargetStands db s item to → RecordsStand desc (after_link db set number item to) own d
  unfolding after_link
  slot_linked item to a target =
      let vs = slice_set a.slot.rec.values (item - 1) (link_value to) in
      let next : a.next ≡ with_values vs a.slot = sym (same_Some (with_values vs a.slot) a.next a.is_next) in
      let stand = set_stands db.records s.items a.slot.rec.values (item - 1) (link_value to) (its_slot desc db own c d set number s is (Linked item to) files a).links target in
      let rec : a.next.rec ≡ linked_record (get db.records (set, number)) item to = ap (λ (x : Slot). x.rec) next ∙ ap (λ o. linked_record o item to) (sym (its_record desc db own c d set number s is (Linked item to) files a)) in
      subst (λ (r : Record). RecordsStand desc (record db { records = insert db.records (set, number) r }) own d) rec (slot_valued desc db own c d set number s is (Linked item to) files a vs next stand)

  pub slot_corrected : (to n : ℕ) (a : IsAltered s number (Corrected to n) c d) → RecordsStand desc (record db { records = cleared_one desc to n (set, number) db.records }) own d
  slot_corrected to n a =
      let vs = corrected to n 0 s.items a.slot.rec.values in
      let next : a.next ≡ with_values vs a.slot = sym (same_Some (with_values vs a.slot) a.next a.is_next) in
      let stand = all_corrected db.records to n 0 s.items s.items a.slot.rec.values (its_slot desc db own c d set number s is (Corrected to n) files a).links in
      let rec : a.next.rec ≡ corrected_record desc to n (set, number) a.slot.rec =
      ap (λ (x : Slot). x.rec) next ∙ ap (λ (items : List Item). record a.slot.rec { values = corrected to n 0 items a.slot.rec.values }) (sym (ap items_of is.of.at)) in
      let records : insert db.records (set, number) a.next.rec ≡ cleared_one desc to n (set, number) db.records =
      ap (insert db.records (set, number)) rec ∙ ap (λ o. put_opt (set, number) (corrected_opt desc to n (set, number) o) db.records) (sym (its_record desc db own c d set number s is (Corrected to n) files a)) in
      subst (λ (m : Records). RecordsStand desc (record db { records = m }) own d) records (slot_valued desc db own c d set number s is (Corrected to n) files a vs next stand)
