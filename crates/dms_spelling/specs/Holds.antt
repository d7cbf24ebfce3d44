-- What holds of a database whose files stand: what its records and entries are, and that one change of a record may be made.
use Rattle.std.proofs.Common.{◌≡◌, ◌≢◌, ◌∙◌, ◌+◌, ◌-◌, ◌^◌, ◌<◌, ◌≤◌, ℕ, zero, suc, List, [], ◌∷◌, ◌++◌, Bool, true, false, cond, Some, None, IfSome, refl, sym, ap, subst, length, slice_get, replicate, take, drop, filter, arith}
use Rattle.std.specs.Prelude.{◌&&◌, ◌==◌, is_some}
use Rattle.std.specs.List.{AllByRecursion}
use Rattle.std.specs.declared.option.Option.{Option}
use Rattle.std.specs.FinMap.{get}
use Rattle.std.proofs.lemmas.Bool.{and_parts}
use Rattle.std.proofs.lemmas.Bool.Decides.{nat_tests}
use Rattle.std.proofs.lemmas.Option.{same_Some}
use Rattle.dms_base.specs.Fits.{fits}
use Rattle.dms_base.specs.declared.kind.ItemKind.{ItemKind}
use Rattle.dms_base.specs.declared.value.Value.{Value}
use Rattle.dms_block.specs.Content.{Content}
use Rattle.dms_chain.specs.Lists.{without_in}
use Rattle.dms_desc.specs.Conds.{or_null}
use Rattle.dms_desc.specs.Fitting.{values_fit}
use Rattle.dms_desc.specs.Keys.{key_of}
use Rattle.dms_desc.specs.Kinds.{over, is_set_or_automatic}
use Rattle.dms_desc.specs.Lookups.{items_of, over_of, structure_of}
use Rattle.dms_desc.specs.Plain.{ArePlain, FitsKind}
use Rattle.dms_desc.specs.Shape.{Shape, Described}
use Rattle.dms_desc.specs.declared.record.Record.{Record}
use Rattle.dms_desc.specs.declared.structure.Item.{Item}
use Rattle.dms_desc.specs.declared.structure.KeyPart.{KeyPart}
use Rattle.dms_key.specs.KeyBytes.{FitsPart, KeyHasKinds, kind_of}
use Rattle.dms_layout.specs.ReadLaws.{used_fits}
use Rattle.dms_layout.specs.Slots.{AreKinds, SlotFits, slot_width}
use Rattle.dms_layout.specs.declared.slot.Slot.{Slot}
use Rattle.dms_layout.specs.declared.slot.SlotRead.{SlotRead}
use Rattle.dms_layout.specs.declared.slot.SlotRead.TheVariants.{Free, Used, Bad}
use Rattle.dms_links.specs.Linking.{number_at, structure_here}
use Rattle.dms_links.specs.Rows.{file_in}
use Rattle.dms_links.specs.Standing.{slot_record, slot_there}
use Rattle.dms_links.specs.Stands.{RecordsStand, SlotStands, Tally}
use Rattle.dms_links.specs.Stepping.{HaveSlotFiles}
use Rattle.dms_manual.specs.Counted.{NamesRecord, counted_manual}
use Rattle.dms_manual.specs.CountedFor.{EntriesRise}
use Rattle.dms_manual.specs.Entered.{entered}
use Rattle.dms_manual.specs.Following.{AllMovesStand, MayBeEntered, MovesStand}
use Rattle.dms_manual.specs.Judged.{IsTold, KeysFit}
use Rattle.dms_manual.specs.Moves.{SmallIn}
use Rattle.dms_manual.specs.Naming.{IsOfManual, ManualStands, is_manual_over}
use Rattle.dms_model.specs.Db.{Db, Place, SubsetEntry}
use Rattle.dms_model.specs.Fitting.{AreFitting, RecordFits}
use Rattle.dms_model.specs.Valid.{EntryStands, OfItems, is_data_set, is_manual}
use Rattle.dms_sets.specs.Changes.{HasEntry, HasRoom, PartFits, PartsFit, entry_opt, is_over}
use Rattle.dms_sets.specs.Entries.{kinds_of}
use Rattle.dms_sets.specs.Few.{entries_few, few_room}
use Rattle.dms_sets.specs.Puts.{MayCome}
use Rattle.dms_sets.specs.Sets.{entries_of, items_over, kinds_over}
use Rattle.dms_sets.specs.Spots.{NameItems, RecordHasSpot, RecordsHaveSpots, ValuesFit, key_fits}
use Rattle.dms_sets.specs.Told.{ChangeStands, HaveOwnNumbers, MayEnter, OfStructures, OptMayCome}
use Rattle.dms_sets.specs.ToldLaws.{kinds_same, over_kept}
use Rattle.dms_slots.specs.SlotBlocks.{is_block, or_free, per_block, slot_at, slot_chunks, slots_by, slots_in, slots_of}
use Rattle.dms_spelling.specs.Again.{ListTells}
use Rattle.dms_spelling.specs.Serving.{IsServed, IsServedSet}
use Rattle.dms_spelling.specs.ServingLaws.{manual_at, served_at, set_at}
use Rattle.dms_spelling.specs.Stands.{EntriesStand, ListsSpell, StandsFiles, told_one}

-- ---- a description

pub have_slots : (desc : Described) → IsServed desc → HaveSlotFiles desc
have_slots desc served = record {
  numbered = served.numbered;
  sized = λ set s at. (let x = served_at desc set s served at in record { few = x.few; fits = x.fits });
  kinds = λ set s at. (served_at desc set s served at).kinds;
}

pub own_numbers : (desc : Described) → IsServed desc → HaveOwnNumbers desc
own_numbers desc served j k s t p q same =
    let a = number_at desc served.numbered (suc j) s (structure_here desc.structures j s p) in
    let b = number_at desc served.numbered (suc k) t (structure_here desc.structures k t q) in
    omega (arith, a, b, same)

pub named_at : (desc : Described) → IsServed desc → OfStructures desc (λ s. is_set_or_automatic s ≡ true → NameItems (items_over desc s) s.parts)
named_at desc served k s at kept = (set_at desc (suc k) s served (structure_here desc.structures k s at) kept).named.items

-- a manual subset over a data set
pub manual_kind : (s : Shape) (set : ℕ) → is_manual_over s set ≡ true → is_manual (Some s) ≡ true
manual_kind s set h = (and_parts (s.kind == 5) (s.set == set) h).0

manual_set : (s : Shape) (set : ℕ) → is_manual_over s set ≡ true → over s ≡ set
manual_set s set h = grind (arith, nat_tests, h)

manual_own : (s : Shape) → is_manual (Some s) ≡ true → over s ≡ s.set
manual_own s h = grind (arith, nat_tests, h)

-- ---- values that fit

value_fits : (items : List Item) (values : List Value) (k : ℕ) (item : Item) → AreKinds items → values_fit items values ≡ true → ArePlain values → slice_get items k ≡ Some item → FitsKind item.kind (or_null (slice_get values k))
value_fits [] values k item kinds fit plain at = absurd (cc at)
value_fits (i ∷ is) [] k item kinds fit plain at = absurd (cc fit)
value_fits (i ∷ is) (v ∷ vs) zero item kinds fit plain at =
    let both = and_parts (fits i.kind v) (values_fit is vs) fit in
    let same : i ≡ item = same_Some i item at in
    subst (λ (j : Item). FitsKind j.kind v) same (record { kind = kinds.0; fits = both.0; plain = plain.0 })
value_fits (i ∷ is) (v ∷ vs) (suc k) item kinds fit plain at = value_fits is vs k item kinds.1 (and_parts (fits i.kind v) (values_fit is vs) fit).1 plain.1 at

pub fit_all : (items : List Item) (values : List Value) → length values ≡ length items → OfItems items values (λ item v. fits item.kind v ≡ true) → values_fit items values ≡ true
fit_all [] [] long h = refl
fit_all [] (v ∷ vs) long h = absurd (omega (arith, long))
fit_all (i ∷ is) [] long h = absurd (omega (arith, long))
fit_all (i ∷ is) (v ∷ vs) long h =
    let here : fits i.kind v ≡ true = h 0 i refl in
    let rest = fit_all is vs (omega (arith, long)) (λ k item at. h (suc k) item at) in
    λ j. here j && rest j

values_come : (items : List Item) (values : List Value) → AreKinds items → AreFitting items values → ValuesFit items values
values_come items values kinds f k item at = value_fits items values k item kinds (fit_all items values f.lengths f.fit) f.plain at

-- a record that its data set may hold may be put into the lists
pub comes : (desc : Described) (set : ℕ) (s : Shape) (made : Record) → IsServed desc → structure_of desc set ≡ Some s → RecordFits desc set made → MayCome desc set made
comes desc set s made served at f = record {
  owner = f.owner;
  values = subst (λ (o : Option Shape). AreFitting (items_of o) made.values → ValuesFit (items_of o) made.values) (sym at) (λ g. values_come s.items made.values (served_at desc set s served at).kinds g) f.values;
}

part_fits : (k : Option ItemKind) (v : Value) → FitsPart k v → PartFits k v
part_fits None v f = f
part_fits (Some k) v f = f.fits

parts_fit : (kinds : List ItemKind) (ps : List KeyPart) (values : List Value) → KeyHasKinds kinds ps (key_of ps values) → PartsFit kinds ps values
parts_fit kinds [] values f = tt
parts_fit kinds (p ∷ ps) values f = (part_fits (kind_of kinds p) _ f.0, parts_fit kinds ps values f.1)

-- so it has an entry in a set or subset over the data set
set_entry : (desc : Described) (set : ℕ) (t : Shape) (made : Record) → IsServedSet desc t → over t ≡ set → MayCome desc set made → HasEntry (kinds_over desc t) t made.values
set_entry desc set t made own same may = record {
  parts = parts_fit (kinds_over desc t) t.parts made.values (key_fits (items_over desc t) t.parts made.values (subst (λ n. ValuesFit (items_of (structure_of desc n)) made.values) (sym same) may.values) own.named.items).fits;
  width = own.width;
}

over_of_set : (t : Shape) (set : ℕ) → is_over t set ≡ true → over t ≡ set
over_of_set t set h = grind (arith, nat_tests, h)

has_entry_over : (desc : Described) (set : ℕ) (s : Shape) (made : Record) → IsServed desc → structure_of desc set ≡ Some s → RecordFits desc set made → (k : ℕ) (t : Shape) → slice_get desc.structures k ≡ Some t → is_over t set ≡ true → HasEntry (kinds_over desc t) t made.values
has_entry_over desc set s made served at fits k t there own =
    set_entry desc set t made (set_at desc (suc k) t served (structure_here desc.structures k t there) (over_kept t set own)) (over_of_set t set own) (comes desc set s made served at fits)

-- in each set or automatic subset,
pub may_enter : (desc : Described) (set : ℕ) (s : Shape) (o : Option Record) → IsServed desc → structure_of desc set ≡ Some s → IfSome o (RecordFits desc set) → MayEnter desc set o
may_enter desc set s None served at fits k t there own = tt
may_enter desc set s (Some made) served at fits k t there own = subst (λ (ks : List ItemKind). HasEntry ks t made.values) (kinds_same desc t set own) (has_entry_over desc set s made served at fits k t there own)

-- and in each manual one
pub may_be_entered : (desc : Described) (set : ℕ) (s : Shape) (made : Record) → IsServed desc → structure_of desc set ≡ Some s → RecordFits desc set made → MayBeEntered desc set made
may_be_entered desc set s made served at fits k t there own =
    let same = manual_set t set own in
    let has = set_entry desc set t made (manual_at desc (suc k) t served (structure_here desc.structures k t there) (manual_kind t set own)) same (comes desc set s made served at fits) in
    subst (λ n. HasEntry (kinds_of (items_of (structure_of desc n))) t made.values) same has

-- ---- a slot that is read fits

-- a used slot of these fits
abbrev UsedFits : Shape → SlotRead → Type 0
UsedFits s r = (slot : Slot) → r ≡ Used slot → SlotFits s slot

all_append : {A : Type 0} (P : A → Type 0) (xs ys : List A) → AllByRecursion P xs → AllByRecursion P ys → AllByRecursion P (xs ++ ys)
all_append P [] ys a b = b
all_append P (x ∷ xs) ys a b = (a.0, all_append P xs ys a.1 b)

cut_fits : (s : Shape) (k : ℕ) (bytes : List ℕ) → AllByRecursion (UsedFits s) (slot_chunks s k bytes)
cut_fits s zero bytes = tt
cut_fits s (suc k) bytes = ((λ slot h. (used_fits s (take (slot_width s.items) bytes) slot h).0), cut_fits s k (drop (slot_width s.items) bytes))

bad_fits : (s : Shape) (k : ℕ) → AllByRecursion (UsedFits s) (replicate k Bad)
bad_fits s zero = tt
bad_fits s (suc k) = ((λ slot h. absurd (cc h)), bad_fits s k)

by_fits : (s : Shape) (b : Bool) (bytes : List ℕ) → AllByRecursion (UsedFits s) (slots_by b s bytes)
by_fits s true bytes = cut_fits s (per_block s.items) bytes
by_fits s false bytes = bad_fits s (per_block s.items)

in_fits : (s : Shape) (bytes : List ℕ) → AllByRecursion (UsedFits s) (slots_in s bytes)
unfolding slots_in
in_fits s bytes = by_fits s (is_block s bytes) bytes

file_fits : (s : Shape) (bs : List (List ℕ)) → AllByRecursion (UsedFits s) (slots_of s bs)
file_fits s [] = tt
file_fits s (b ∷ bs) = all_append (UsedFits s) (slots_in s b) (slots_of s bs) (in_fits s b) (file_fits s bs)

used_at : (s : Shape) (rs : List SlotRead) (i : ℕ) (slot : Slot) → AllByRecursion (UsedFits s) rs → or_free (slice_get rs i) ≡ Used slot → SlotFits s slot
used_at s [] i slot all h = absurd (cc h)
used_at s (r ∷ rs) zero slot all h = all.0 slot h
used_at s (r ∷ rs) (suc i) slot all h = used_at s rs i slot all.1 h

pub slot_fits : (s : Shape) (bs : List (List ℕ)) (n : ℕ) (slot : Slot) → slot_at s bs n ≡ Used slot → SlotFits s slot
slot_fits s bs n slot h = used_at s (slots_of s bs) (n - 1) slot (file_fits s bs) h

-- ---- records

-- A record of a database that files have: it is of a data set, its number is one from 1 on, and its slot fits and stands.
pub record RecordStands (desc : Described) (db : Db) (own : Tally) (place : Place) (rec : Record) : Type 0 where
  pub shape : Shape
  pub slot : Slot
  pub is : structure_of desc place.0 ≡ Some shape
  pub data_set : is_data_set (Some shape) ≡ true
  pub low : 1 ≤ place.1
  pub same : slot.rec ≡ rec
  pub fits : SlotFits shape slot
  pub kinds : AreKinds shape.items
  pub population : shape.population ≤ 1000000
  pub stands : SlotStands desc db own shape place.1 slot

module _ (desc : Described) (served : IsServed desc) (db : Db) (own : Tally) (c : Content) (slots : RecordsStand desc db own c) where
  pub record_stands : (place : Place) (rec : Record) → get db.records place ≡ Some rec → RecordStands desc db own place rec
  record_stands place rec at =
      let some : is_some (get db.records (place.0, place.1)) ≡ true = ap is_some at in
      let there = slot_there desc db own c slots place.0 place.1 some in
      let here = served_at desc place.0 there.shape served there.at in
      record {
        shape = there.shape;
        slot = there.slot;
        is = there.at;
        data_set = there.is_set;
        low = there.low;
        same = same_Some there.slot.rec rec (sym (slot_record desc db own c c (have_slots desc served) slots place.0 place.1 some) ∙ at);
        fits = slot_fits there.shape (file_in c there.shape) place.1 there.slot there.was;
        kinds = here.kinds;
        population = here.population;
        stands = there.stands;
      }

  record_fits : (place : Place) (rec : Record) → RecordStands desc db own place rec → RecordHasSpot desc place rec
  record_fits place rec r =
      record {
        small = omega (arith, r.stands.most, r.population);
        owner = subst (λ (x : Record). x.owner < 2 ^ 32) r.same r.fits.owner;
        values = subst (λ (o : Option Shape). ValuesFit (items_of o) rec.values) (sym r.is)
            (subst (λ (x : Record). ValuesFit r.shape.items x.values) r.same (λ k item at. value_fits r.shape.items r.slot.rec.values k item r.kinds r.fits.values r.fits.plain at));
      }

  -- the records of the database fit
  pub records_fit : RecordsHaveSpots desc db
  records_fit place rec at = record_fits place rec (record_stands place rec at)

  pub number_low : (set n : ℕ) (rec : Record) → get db.records (set, n) ≡ Some rec → (1 ≤ n) × (n ≤ 1000000)
  number_low set n rec at = let r = record_stands (set, n) rec at in (r.low, omega (arith, r.stands.most, r.population))

  -- the list of a set has room for one more entry, also without an old one
  room_at : (number : ℕ) (old : Option Record) (s : Shape) → HasRoom (without_in (entry_opt (kinds_over desc s) s number old) (entries_of desc db s))
  room_at number old s =
      few_room (entry_opt (kinds_over desc s) s number old) (entries_of desc db s) 1000000 (entries_few desc db s 1000000 (λ n rec at. number_low (over s) n rec at)) (omega arith)

  -- A record may be changed in the lists of the sets of its data set.
  pub change_stands : (set number : ℕ) (old new : Option Record) → number < 2 ^ 32 → get db.records (set, number) ≡ old → OptMayCome desc set new → ChangeStands desc db set number old new
  change_stands set number old new small was may = record {
    apart = own_numbers desc served;
    named = named_at desc served;
    old_is = was;
    small = small;
    records = records_fit;
    may = may;
    room = λ k t there own. room_at number old t;
  }

  -- ---- entries of manual subsets

  -- the record of an entry of a manual subset stands
  member_of : (n : ℕ) (s : Shape) → structure_of desc n ≡ Some s → is_manual (Some s) ≡ true → (x : SubsetEntry) → EntryStands desc db x → NamesRecord s.number s.set db.records x
  member_of n s at manual x stands is =
      let same : x.subset ≡ n = number_same x.subset s.number is ∙ number_at desc served.numbered n s at in
      let of : over_of (structure_of desc x.subset) ≡ s.set = ap (λ k. over_of (structure_of desc k)) same ∙ ap over_of at ∙ manual_own s manual in
      ap (λ t. is_some (get db.records (t, x.number))) (sym of) ∙ stands.member
    where
      number_same : (a b : ℕ) → (a == b) ≡ true → a ≡ b
      number_same a b h = grind (arith, nat_tests, h)

  -- the keys of the records of a manual subset fit
  pub manual_keys : (n : ℕ) (s : Shape) → structure_of desc n ≡ Some s → is_manual (Some s) ≡ true → KeysFit desc s db
  manual_keys n s at manual m x there =
      let own = manual_own s manual in
      let fit = (records_fit (s.set, m) x there).values in
      key_fits (items_over desc s) s.parts x.values (subst (λ k. ValuesFit (items_of (structure_of desc k)) x.values) (sym own) fit) (manual_at desc n s served at manual).named.items

  module _ (lists : ListsSpell desc db c) (entries : EntriesStand desc db) where
    told_of : (n : ℕ) (s : Shape) → structure_of desc n ≡ Some s → is_manual (Some s) ≡ true → ListTells desc db c s
    told_of n s at manual = told_one desc db own c served n s at manual slots lists entries

    -- their owners and numbers are small
    pub small_in : (n : ℕ) (s : Shape) → structure_of desc n ≡ Some s → is_manual (Some s) ≡ true → SmallIn s db
    small_in n s at manual = (told_of n s at manual).small

    -- and the record of each stands
    names_all : (n : ℕ) (s : Shape) → structure_of desc n ≡ Some s → is_manual (Some s) ≡ true → (es : List SubsetEntry) → AllByRecursion (EntryStands desc db) es → AllByRecursion (NamesRecord s.number s.set db.records) es
    names_all n s at manual [] all = tt
    names_all n s at manual (e ∷ es) all = (one e all.0, names_all n s at manual es all.1)
      where
        one : (x : SubsetEntry) → EntryStands desc db x → NamesRecord s.number s.set db.records x
        one x stands own_one = member_of n s at manual x stands own_one

    pub entries_rise : (n : ℕ) (s : Shape) → structure_of desc n ≡ Some s → is_manual (Some s) ≡ true → EntriesRise s db
    entries_rise n s at manual = record { rising = entries.rising; stand = names_all n s at manual db.entries entries.each }

    pub is_told : (n : ℕ) (s : Shape) → structure_of desc n ≡ Some s → is_manual (Some s) ≡ true → IsTold desc s db
    is_told n s at manual = record {
      structure = ap (structure_of desc) (number_at desc served.numbered n s at) ∙ at;
      kind = five s manual;
      fit = manual_keys n s at manual;
      rising = entries.rising;
      stand = names_all n s at manual db.entries entries.each;
    }
      where
        five : (u : Shape) → is_manual (Some u) ≡ true → u.kind ≡ 5
        five u h = grind (arith, nat_tests, h)

    of_manual : (es : List SubsetEntry) → AllByRecursion (EntryStands desc db) es → AllByRecursion (IsOfManual desc) es
    of_manual [] all = tt
    of_manual (e ∷ es) all = (all.0.manual, of_manual es all.1)

    -- a look for a record in the manual subsets over its data set
    pub manual_stands : (set number : ℕ) → is_some (get db.records (set, number)) ≡ true → ManualStands desc db set number
    manual_stands set number some = record {
      record_stands = some;
      numbered = λ k s at. omega (arith, number_at desc served.numbered (suc k) s (structure_here desc.structures k s at));
      entries = of_manual db.entries entries.each;
      small = λ k s at own. small_in (suc k) s (structure_here desc.structures k s at) (manual_kind s set own);
    }

    moves_stand : (set number : ℕ) (old new : Record) → get db.records (set, number) ≡ Some old → MayCome desc set new → (k : ℕ) (s : Shape) → slice_get desc.structures k ≡ Some s → is_manual_over s set ≡ true → MovesStand (kinds_over desc s) s db number old new
    moves_stand set number old new was may k s at own =
        let there = structure_here desc.structures k s at in
        let manual = manual_kind s set own in
        let same = manual_set s set own in
        let mine = manual_own s manual in
        let small = small_in (suc k) s there manual in
        let rise = entries_rise (suc k) s there manual in
        let long = counted_manual desc s db small rise.rising rise.stand in
        let few = entries.few (suc k) s there manual in
        let most = (served_at desc (suc k) s served there).population in
        record {
          old_is = ap (λ t. get db.records (t, number)) (sym mine ∙ same) ∙ was;
          small = small;
          fit = manual_keys (suc k) s there manual;
          new_fits = key_fits (items_over desc s) s.parts new.values (subst (λ m. ValuesFit (items_of (structure_of desc m)) new.values) (sym same) may.values) (manual_at desc (suc k) s served there manual).named.items;
          few = omega (arith, long, few, most);
        }

    -- The entries of a record may be moved to a new key.
    pub all_moves_stand : (set number : ℕ) (old new : Record) → get db.records (set, number) ≡ Some old → MayCome desc set new → AllMovesStand desc db set number old new
    all_moves_stand set number old new was may = record { apart = own_numbers desc served; each = moves_stand set number old new was may }
