-- What a link that is set makes of the slots of a database: the link, and the counts of the records that it referred to and refers to.
use Rattle.std.proofs.Common.{◌≡◌, ◌≢◌, ◌∙◌, ◌+◌, ◌-◌, ◌^◌, ◌<◌, ◌≤◌, ℕ, zero, suc, List, [], ◌∷◌, ◌++◌, Bool, true, false, cond, Some, None, refl, sym, ap, subst, append_assoc, length, slice_get, slice_set, arith}
use Rattle.std.specs.Prelude.{◌&&◌, ◌==◌, is_some}
use Rattle.std.specs.declared.option.Option.{Option}
use Rattle.std.specs.FinMap.{get}
use Rattle.std.proofs.lemmas.Bool.{and_parts}
use Rattle.std.proofs.lemmas.Bool.Decides.{nat_tests}
use Rattle.std.proofs.lemmas.Option.{same_Some, slice_get_within}
use Rattle.dms_base.specs.Fits.{fits}
use Rattle.dms_base.specs.declared.kind.ItemKind.{ItemKind}
use Rattle.dms_base.specs.declared.kind.ItemKind.TheVariants.{Alpha, Number as Decimal, Bool as OneBit, Field, Link}
use Rattle.dms_base.specs.declared.value.Value.{Value}
use Rattle.dms_base.specs.declared.value.Value.TheVariants.{Null, Text, Number, Bool as Truth, Bits, Link as Reference}
use Rattle.dms_block.specs.Content.{Content}
use Rattle.dms_desc.specs.Conds.{or_null}
use Rattle.dms_desc.specs.Fitting.{values_fit}
use Rattle.dms_desc.specs.Lookups.{items_of, structure_of}
use Rattle.dms_desc.specs.Shape.{Shape, Described}
use Rattle.dms_desc.specs.declared.structure.Item.{Item}
use Rattle.dms_layout.specs.Slots.{SlotFits}
use Rattle.dms_layout.specs.declared.slot.Slot.{Slot}
use Rattle.dms_layout.specs.declared.slot.SlotRead.{SlotRead}
use Rattle.dms_layout.specs.declared.slot.SlotRead.TheVariants.{Used}
use Rattle.dms_model.specs.Db.{Db, Records}
use Rattle.dms_model.specs.FitLaws.{lengths_are}
use Rattle.dms_model.specs.Uses.{after_link, link_value}
use Rattle.dms_model.specs.Valid.{link_stands}
use Rattle.dms_slots.specs.SlotBlocks.{slot_at}
use Rattle.dms_tally.specs.Counts.{counted_in, links_stand, owned_in}
use Rattle.dms_tally.specs.Tally.{counted_linked, link_one, owned_linked}
use Rattle.dms_links.specs.Altered.{is_link_item, with_values}
use Rattle.dms_links.specs.AlteredLaws.{TargetStands, slot_linked}
use Rattle.dms_links.specs.Rows.{file_in}
use Rattle.dms_links.specs.Setting.{LinksIn, LinksSlot, count_steps, counts_in, counts_in_kind, link_step, link_steps, moved_steps, old_target, target_of}
use Rattle.dms_links.specs.SettingCounts.{IfCounted, added_at, count_added, count_less, counted_one, less_at, less_most, one_item, owned_added, owned_less}
use Rattle.dms_links.specs.Standing.{SlotThere, counts_fewer, counts_more, is_of, made, slot_record, slot_there}
use Rattle.dms_links.specs.Stands.{Counts, RecordsStand, Tally}
use Rattle.dms_links.specs.Stepping.{AltersSteps, EitherWay, HaveSlotFiles, SlotStep}
use Rattle.dms_links.specs.declared.altering.SlotChange.TheVariants.{Counted, Uncounted, Linked}

-- ---- definitions

-- What is asked before a link of a record is set: the item is a link, the record stands, what the link is to refer to stands, and has
-- room for one link more where it counts.
pub record MayLink (desc : Described) (db : Db) (set number item : ℕ) (to : Option ℕ) (s : Shape) : Type 0 where
  pub at : structure_of desc set ≡ Some s
  pub item_is : is_link_item (slice_get s.items (item - 1)) ≡ true
  pub stands : is_some (get db.records (set, number)) ≡ true
  pub target : TargetStands db s item to
  pub room : IfCounted (counts_in (slice_get s.items (item - 1))) to (λ t m. counted_in desc db t m + 1 < 2 ^ 32)

-- The link is set, and the slots have the records of the database after it and count what that has.
pub record LinkIsSet (desc : Described) (db : Db) (d : Content) (set number item : ℕ) (to : Option ℕ) (done : Bool) : Type 0 where
  pub done_is : done ≡ true
  pub moved : Tally
  pub files : RecordsStand desc (after_link db set number item to) moved d
  pub counts : Counts desc (after_link db set number item to) moved

-- a record stands
abbrev pub Stands : Records → ℕ → ℕ → Type 0
Stands records t m = is_some (get records (t, m)) ≡ true

-- ---- what a counted link refers to stands

zero_counted : (v : Value) (P : ℕ → ℕ → Type 0) → IfCounted 0 (target_of v) P
zero_counted Null P = tt
zero_counted (Text a) P = tt
zero_counted (Number a) P = tt
zero_counted (Truth a) P = tt
zero_counted (Bits a) P = tt
zero_counted (Reference m) P = λ some. absurd (some refl)

pub kind_stands : (records : Records) (k : ItemKind) (v : Value) → link_stands records k v ≡ true → IfCounted (counts_in_kind k) (target_of v) (Stands records)
kind_stands records (Alpha n) v h = zero_counted v (Stands records)
kind_stands records (Decimal n d s) v h = zero_counted v (Stands records)
kind_stands records OneBit v h = zero_counted v (Stands records)
kind_stands records (Field n) v h = zero_counted v (Stands records)
kind_stands records (Link t false) v h = zero_counted v (Stands records)
kind_stands records (Link t true) Null h = tt
kind_stands records (Link t true) (Text a) h = tt
kind_stands records (Link t true) (Number a) h = tt
kind_stands records (Link t true) (Truth a) h = tt
kind_stands records (Link t true) (Bits a) h = tt
kind_stands records (Link t true) (Reference m) h = λ some. h

old_stands : (records : Records) (is : List Item) (vs : List Value) (i : ℕ) → links_stand records is vs ≡ true → IfCounted (counts_in (slice_get is i)) (target_of (or_null (slice_get vs i))) (Stands records)
old_stands records [] vs i h = zero_counted (or_null (slice_get vs i)) (Stands records)
old_stands records (x ∷ is) [] i h = tt
old_stands records (x ∷ is) (v ∷ vs) zero h = kind_stands records x.kind v (and_parts (link_stands records x.kind v) (links_stand records is vs) h).0
old_stands records (x ∷ is) (v ∷ vs) (suc i) h = old_stands records is vs i (and_parts (link_stands records x.kind v) (links_stand records is vs) h).1

target_same : (to : Option ℕ) → target_of (link_value to) ≡ to
target_same None = refl
target_same (Some n) = refl

new_stands : (records : Records) (o : Option Item) (to : Option ℕ) → ((x : Item) → o ≡ Some x → link_stands records x.kind (link_value to) ≡ true) → IfCounted (counts_in o) to (Stands records)
new_stands records None None h = tt
new_stands records None (Some m) h = λ some. absurd (some refl)
new_stands records (Some x) to h = subst (λ z. IfCounted (counts_in_kind x.kind) z (Stands records)) (target_same to) (kind_stands records x.kind (link_value to) (h x refl))

-- ---- the steps

onward : (b : Bool) (P Q : Type 0) → b ≡ true → EitherWay b P Q → P
onward true P Q is h = h
onward false P Q is h = absurd (cc is)

-- where it is counted, what a link refers to stands, and counts something or has room for one more
abbrev pub OldCounts : Db → Tally → ℕ → Option ℕ → Type 0
OldCounts db own t old = IfCounted t old (λ u m. Stands db.records u m × (1 ≤ own.counted u m))

abbrev NewCounts : Db → Tally → ℕ → Option ℕ → Type 0
NewCounts db own t to = IfCounted t to (λ u m. Stands db.records u m × (own.counted u m + 1 < 2 ^ 32))

some_set : (t : ℕ) → (t == 0) ≡ false → t ≢ 0
some_set t off is = let on : (t == 0) ≡ true = grind (arith, nat_tests, is) in absurd (cc (off, on))

module _ (desc : Described) (have : HaveSlotFiles desc) (db : Db) where
  pub fewer : (own : Tally) (c d : Content) (t : ℕ) (old : Option ℕ) (xs : List SlotStep) (done : Bool) → RecordsStand desc db own c → OldCounts db own t old → AltersSteps desc (count_steps t old Uncounted ++ xs) done c d
      → (e : Content) × RecordsStand desc db (count_less own t old) e × AltersSteps desc xs done e d
  fewer own c d t None xs done files may h = (c, files, h)
  fewer own c d t (Some m) xs done files may h = by (t == 0) refl h
    where
      by : (b : Bool) → (t == 0) ≡ b → AltersSteps desc (cond b [] (record { set = t; number = m; change = Uncounted } ∷ []) ++ xs) done c d
          → (e : Content) × RecordsStand desc db (cond b own (record own { counted = λ u n. cond ((u == t) && (n == m)) (own.counted t m - 1) (own.counted u n) })) e × AltersSteps desc xs done e d
      by true is h = (c, files, h)
      by false is (e, b, a, rest) =
          let ok = may (some_set t is) in
          let made_so = counts_fewer desc db own c e have files t m ok.0 b ok.1 a in
          (e, made_so.1, onward b (AltersSteps desc xs done e d) ((done ≡ false) × (d ≡ e)) made_so.0 rest)

  more : (own : Tally) (c d : Content) (t : ℕ) (to : Option ℕ) (xs : List SlotStep) (done : Bool) → RecordsStand desc db own c → NewCounts db own t to → AltersSteps desc (count_steps t to Counted ++ xs) done c d
      → (e : Content) × RecordsStand desc db (count_added own t to) e × AltersSteps desc xs done e d
  more own c d t None xs done files may h = (c, files, h)
  more own c d t (Some m) xs done files may h = by (t == 0) refl h
    where
      by : (b : Bool) → (t == 0) ≡ b → AltersSteps desc (cond b [] (record { set = t; number = m; change = Counted } ∷ []) ++ xs) done c d
          → (e : Content) × RecordsStand desc db (cond b own (record own { counted = λ u n. cond ((u == t) && (n == m)) (own.counted t m + 1) (own.counted u n) })) e × AltersSteps desc xs done e d
      by true is h = (c, files, h)
      by false is (e, b, a, rest) =
          let ok = may (some_set t is) in
          let made_so = counts_more desc db own c e have files t m ok.0 b ok.1 a in
          (e, made_so.1, onward b (AltersSteps desc xs done e d) ((done ≡ false) × (d ≡ e)) made_so.0 rest)

  -- the link itself
  last : (own : Tally) (c d : Content) (set number item : ℕ) (to : Option ℕ) (s : Shape) (done : Bool) → RecordsStand desc db own c → MayLink desc db set number item to s → AltersSteps desc (link_step set number item to ∷ []) done c d
      → (done ≡ true) × RecordsStand desc (after_link db set number item to) own d
  last own c d set number item to s done files may (e, b, a, rest) =
      let there = slot_there desc db own c files set number may.stands in
      let next : Slot = with_values (slice_set there.slot.rec.values (item - 1) (link_value to)) there.slot in
      let linked = made desc db own c e have files set number may.stands (Linked item to) next b refl a in
      let end = onward b (AltersSteps desc [] done e d) ((done ≡ false) × (d ≡ e)) linked.0 rest in
      let same : s ≡ there.shape = same_Some s there.shape (sym may.at ∙ there.at) in
      let target = subst (λ (x : Shape). TargetStands db x item to) same may.target in
      let after = slot_linked desc db own c e set number there.shape (is_of desc db own c e have files set number may.stands) files item to linked.1 target in
      (end.0, subst (RecordsStand desc (after_link db set number item to) own) (sym end.1) after)

-- ---- what is asked of the counts holds

module _ (desc : Described) (db : Db) (own : Tally) (c : Content) (set number item : ℕ) (to : Option ℕ) (s : Shape) (files : RecordsStand desc db own c) (counts : Counts desc db own) (may : MayLink desc db set number item to s) (x : Slot)
    (is : get db.records (set, number) ≡ Some x.rec) (links : links_stand db.records s.items x.rec.values ≡ true) (fits : SlotFits s x) where
  abbrev item_at : Option Item
  item_at = slice_get s.items (item - 1)

  abbrev old_value : Value
  old_value = or_null (slice_get x.rec.values (item - 1))

  abbrev t : ℕ
  t = counts_in item_at

  abbrev old : Option ℕ
  old = target_of old_value

  items_are : items_of (structure_of desc set) ≡ s.items
  items_are = ap items_of may.at

  long : length x.rec.values ≡ length s.items
  long = lengths_are s.items x.rec.values fits.values

  low : item - 1 < length x.rec.values
  low = by item_at refl may.item_is
    where
      by : (o : Option Item) → slice_get s.items (item - 1) ≡ o → is_link_item o ≡ true → item - 1 < length x.rec.values
      by None at is = absurd (cc is)
      by (Some i) at is = omega (arith, slice_get_within s.items (item - 1) i at, long)

  -- the counts after a link is set, by what it adds
  moved_to : (z : Option ℕ) (set_to n : ℕ) → 1 ≤ set_to → counted_in desc (after_link db set number item z) set_to n + counted_one t set_to n old ≡ counted_in desc db set_to n + counted_one t set_to n z
  moved_to z set_to n one =
      let sum = counted_linked desc db set number item z x.rec set_to n is low (long ∙ ap (λ (l : List Item). length l) (sym items_are)) in
      let before : link_one set_to n (slice_get (items_of (structure_of desc set)) (item - 1)) old_value ≡ counted_one t set_to n old =
      ap (λ (l : List Item). link_one set_to n (slice_get l (item - 1)) old_value) items_are ∙ one_item item_at set_to n old_value one in
      let now : link_one set_to n (slice_get (items_of (structure_of desc set)) (item - 1)) (link_value z) ≡ counted_one t set_to n z =
      ap (λ (l : List Item). link_one set_to n (slice_get l (item - 1)) (link_value z)) items_are ∙ one_item item_at set_to n (link_value z) one ∙ ap (counted_one t set_to n) (target_same z) in
      omega (arith, sum, before, now)

  old_count : (o : Option ℕ) → old ≡ o → IfCounted t o (Stands db.records) → OldCounts db own t o
  old_count None at stands = tt
  old_count (Some m) at stands = λ some.
      let one : 1 ≤ t = omega (arith, some) in
      let sum = moved_to None t m one in
      let mine : counted_one t t m old ≡ 1 = ap (counted_one t t m) at ∙ itself t m some in
      (stands some, omega (arith, sum, mine, counts.counted t m one))
    where
      itself : (u n : ℕ) → u ≢ 0 → counted_one u u n (Some n) ≡ 1
      itself u n some =
          let off : (u == 0) ≡ false = grind (arith, nat_tests, some) in
          let on : ((u == u) && (n == n)) ≡ true = grind (arith, nat_tests) in
          λ i. cond (off i) 0 (cond (on i) 1 0)

  new_count : (o : Option ℕ) → IfCounted t o (Stands db.records) → IfCounted t o (λ u m. counted_in desc db u m + 1 < 2 ^ 32) → NewCounts db (count_less own t old) t o
  new_count None stands room = tt
  new_count (Some m) stands room = λ some.
      let one : 1 ≤ t = omega (arith, some) in
      (stands some, omega (arith, room some, less_most own t t m old, counts.counted t m one))

  old_some : IfCounted t old (λ u m. 1 ≤ own.counted u m)
  old_some = by old (old_count old refl (old_stands db.records s.items x.rec.values (item - 1) links))
    where
      by : (o : Option ℕ) → OldCounts db own t o → IfCounted t o (λ u m. 1 ≤ own.counted u m)
      by None h = tt
      by (Some m) h = λ some. (h some).1

  abbrev moved : Tally
  moved = count_added (count_less own t old) t to

  counts_after : Counts desc (after_link db set number item to) moved
  counts_after = record {
    counted = λ u n one. omega (arith, added_at (count_less own t old) t u n to, less_at own t u n old old_some, counts.counted u n one, moved_to to u n one);
    owned = λ u n one.
        ap (λ (f : ℕ → ℕ → ℕ). f u n) (owned_added (count_less own t old) t to) ∙ ap (λ (f : ℕ → ℕ → ℕ). f u n) (owned_less own t old) ∙ counts.owned u n one
        ∙ sym (owned_linked desc db set number item to x.rec u n is);
  }

  all_set : (d : Content) (done : Bool) → HaveSlotFiles desc → AltersSteps desc (link_steps set number item to t old) done c d → LinkIsSet desc db d set number item to done
  all_set d done have h =
      let end = link_step set number item to ∷ [] in
      let parts = subst (λ (xs : List SlotStep). AltersSteps desc xs done c d) (append_assoc (count_steps t old Uncounted) (count_steps t to Counted) end) h in
      let one = fewer desc have db own c d t old (count_steps t to Counted ++ end) done files (old_count old refl (old_stands db.records s.items x.rec.values (item - 1) links)) parts in
      let two = more desc have db (count_less own t old) one.0 d t to end done one.1 (new_count to (new_stands db.records item_at to may.target) may.room) one.2 in
      let three = last desc have db moved two.0 d set number item to s done two.1 may two.2 in
      record { done_is = three.0; moved = moved; files = three.1; counts = counts_after }

-- A link that may be set is set, and the slots have the records of the database after it and count what that has.
abbrev pub SetsLinkOf : Described → Db → Tally → Content → Content → ℕ → ℕ → ℕ → Option ℕ → Shape → Bool → Type 0
SetsLinkOf desc db own c d set number item to s done =
    HaveSlotFiles desc → RecordsStand desc db own c → Counts desc db own → MayLink desc db set number item to s → LinksIn desc set number item to c d done → LinkIsSet desc db d set number item to done

pub link_is_set : (desc : Described) (db : Db) (own : Tally) (c d : Content) (set number item : ℕ) (to : Option ℕ) (s : Shape) (done : Bool) → SetsLinkOf desc db own c d set number item to s done
link_is_set desc db own c d set number item to s done have files counts may h =
    let there = slot_there desc db own c files set number may.stands in
    let same : there.shape ≡ s = same_Some there.shape s (sym there.at ∙ may.at) in
    let mine = subst (λ (r : SlotRead). LinksSlot desc there.shape set number item to r done c d) there.was (h there.shape there.at there.one) in
    let here = subst (λ (u : Shape). SlotFits u there.slot × AltersSteps desc (link_steps set number item to (counts_in (slice_get u.items (item - 1))) (old_target item there.slot)) done c d) same mine in
    let links = subst (λ (u : Shape). links_stand db.records u.items there.slot.rec.values ≡ true) same there.stands.links in
    all_set desc db own c set number item to s files counts may there.slot (slot_record desc db own c d have files set number may.stands) links here.0 d done have here.1
