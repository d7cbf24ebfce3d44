-- The files that are rewritten spell the extended database.
use Rattle.std.proofs.Common.{◌≡◌, ◌∙◌, ◌-◌, ◌++◌, ◌≤◌, ◌==◌, ◌&&◌, ◌||◌, ℕ, zero, suc, List, [], ◌∷◌, Bool, true, false, cond, not, nat_lt, Some, None, refl, sym, ap, subst, length, option_map, arith}
use Rattle.std.specs.Prelude.{filter, is_some}
use Rattle.std.specs.Cmp.Lexicographic.{nat_list_cmp_total}
use Rattle.std.specs.FinMap.{entries, entries_sorted, get, get-empty, get-entries, keys, same_map}
use Rattle.std.specs.List.{AllByRecursion, list_all, list_any}
use Rattle.std.specs.declared.option.Option.{Option}
use Rattle.std.proofs.lemmas.Bool.{and_from, and_parts}
use Rattle.std.proofs.lemmas.Bool.Decides.{nat_tests}
use Rattle.std.proofs.lemmas.List.{take-append-drop}
use Rattle.std.proofs.lemmas.Option.{same_Some, slice_get_within}
use Rattle.dms_base.specs.declared.kind.ItemKind.{ItemKind}
use Rattle.dms_base.specs.declared.kind.ItemKind.TheVariants.{Alpha, Number as Decimal, Bool as OneBit, Field, Link}
use Rattle.dms_base.specs.declared.value.Value.{Value}
use Rattle.dms_base.specs.declared.value.Value.TheVariants.{Null, Text, Number, Bool as Truth, Bits, Link as Reference}
use Rattle.dms_base.specs.Fits.{fits}
use Rattle.dms_block.specs.Content.{Content}
use Rattle.dms_chain.specs.Lists.{ByteSet, bytes_cmp, bytes_same, empty_keys}
use Rattle.dms_desc.specs.Conds.{is_null}
use Rattle.dms_desc.specs.declared.record.Record.{Record}
use Rattle.dms_desc.specs.declared.structure.Item.{Item}
use Rattle.dms_desc.specs.Files.{file_of}
use Rattle.dms_desc.specs.Fitting.{values_fit}
use Rattle.dms_desc.specs.Kinds.{is_link, is_set_or_automatic, over}
use Rattle.dms_desc.specs.Lookups.{items_of, over_of, structure_of}
use Rattle.dms_desc.specs.Shape.{Described, Shape}
use Rattle.dms_desc_bytes.specs.Finding.{owner_in as owner_of}
use Rattle.dms_layout.specs.declared.slot.Slot.{Slot}
use Rattle.dms_layout.specs.declared.slot.SlotRead.{SlotRead}
use Rattle.dms_layout.specs.declared.slot.SlotRead.TheVariants.{Free, Used, Bad}
use Rattle.dms_links.specs.Linking.{number_at}
use Rattle.dms_links.specs.Rows.{file_in, rec_in, rec_opt}
use Rattle.dms_links.specs.Stands.{Counts, FileStands, RecordsStand, SlotStands, Tally, tally_of}
use Rattle.dms_lists.specs.Forms.{form_of, kept_in}
use Rattle.dms_lists.specs.FormLaws.{nothing_kept}
use Rattle.dms_manual.specs.Entered.{IsSmallPair, as_member, entered, entered_get, manual_of, member_entry, place_told}
use Rattle.dms_manual.specs.Moves.{SmallIn, small_places, told}
use Rattle.dms_model.specs.Db.{Db, Place, Records, SubsetEntry}
use Rattle.dms_model.specs.Members.{names}
use Rattle.dms_model.specs.Uses.{has_entry, is_in_subset}
use Rattle.dms_model.specs.Valid.{AreRising, EntryStands, is_data_set, is_manual, link_stands, owner_stands}
use Rattle.dms_sets.specs.Listing.{lists_members, member_opt, test_of}
use Rattle.dms_sets.specs.Padded.{entry_width}
use Rattle.dms_sets.specs.Sets.{IsSmall, entries_of, entry_of, kinds_over, own_entry, place_in_entry}
use Rattle.dms_sets.specs.Spots.{StandsAmong, all_found}
use Rattle.dms_slots.specs.SlotBlocks.{slot_at}
use Rattle.dms_spelling.specs.Back.{spelled_files}
use Rattle.dms_spelling.specs.Grown.{manual_no_set, no_kept}
use Rattle.dms_spelling.specs.Holds.{record_stands, slot_fits, small_in}
use Rattle.dms_spelling.specs.ServingLaws.{manual_at, set_at, structure_there}
use Rattle.dms_spelling.specs.Spelled.{database_in, has_none, is_whole, list_at}
use Rattle.dms_spelling.specs.Stands.{EntriesStand, ListsSpell, SlotsFit, StandsFiles, spell_by}
use Rattle.dms_spelling.specs.TreeWhole.{kept_whole}
use Rattle.dms_spelling.specs.Whole.{blocks_whole}
use Rattle.dms_tally.specs.Counts.{links_stand}
use Rattle.dms_reorg.specs.Extended.{extended, extended_record, first_values, further}
use Rattle.dms_reorg.specs.Laws.{AllStandIn, RowStands, StandsIn, is_unlinked}
use Rattle.dms_reorg.specs.Records.{HasSmallNumbers, HoldsRecords}
use Rattle.dms_reorg.specs.RefusalLaws.{Growth}
use Rattle.dms_reorg.specs.Refusals.{Stands}
use Rattle.dms_reorg.specs.Rewritten.{MayBecome, RewritesFiles, SpellsExtended, is_filled, is_over_old}
use Rattle.dms_reorg.specs.Widened.{IsWidenedFile, widened, with_values}
use Rattle.dms_reorg.proofs.Extended.{entries_stay, extends_gives, further_are, owner_is, stays_counted}
use Rattle.dms_reorg.proofs.Growing.{each_grows, further_is}
use Rattle.dms_reorg.proofs.Members.{HasValues, HaveValues, entries_same, manual_same, width_same}
use Rattle.dms_reorg.proofs.Records.{holds_set, keeps_numbers, small_numbers, spelled_holds, widens_records}

-- ---- what stands still does

some_mapped : {A C : Type 0} (f : A → C) (o : Option A) → is_some (option_map f o) ≡ is_some o
some_mapped f None = refl
some_mapped f (Some x) = refl

module _ (a b : Records) (still : (q : Place) → is_some (get b q) ≡ is_some (get a q)) where
  owner_still : (set owner : ℕ) → owner_stands a set owner ≡ true → owner_stands b set owner ≡ true
  owner_still set owner h = ap (λ s. cond (set == 0) (owner == 0) s) (still (set, owner)) ∙ h

  link_still : (k : ItemKind) (v : Value) → link_stands b k v ≡ link_stands a k v
  link_still (Link to c) (Reference n) = still (to, n)
  link_still (Link to c) Null = refl
  link_still (Link to c) (Text x) = refl
  link_still (Link to c) (Number x) = refl
  link_still (Link to c) (Truth x) = refl
  link_still (Link to c) (Bits x) = refl
  link_still (Alpha m) v = refl
  link_still (Decimal m d s) v = refl
  link_still OneBit v = refl
  link_still (Field m) v = refl

  links_still : (is : List Item) (vs : List Value) → links_stand b is vs ≡ links_stand a is vs
  links_still [] vs = refl
  links_still (i ∷ is) [] = refl
  links_still (i ∷ is) (v ∷ vs) = let here = link_still i.kind v in let rest = links_still is vs in λ j. here j && rest j

module _ (records : Records) where
  unlinked_stands : (k : ItemKind) (v : Value) → (not (is_link k) || is_null v) ≡ true → link_stands records k v ≡ true
  unlinked_stands (Alpha m) v h = refl
  unlinked_stands (Decimal m d s) v h = refl
  unlinked_stands OneBit v h = refl
  unlinked_stands (Field m) v h = refl
  unlinked_stands (Link to c) Null h = refl
  unlinked_stands (Link to c) (Text a) h = absurd (cc h)
  unlinked_stands (Link to c) (Number a) h = absurd (cc h)
  unlinked_stands (Link to c) (Truth a) h = absurd (cc h)
  unlinked_stands (Link to c) (Bits a) h = absurd (cc h)
  unlinked_stands (Link to c) (Reference a) h = absurd (cc h)

  first_stand : (more : List Item) → list_all is_unlinked more ≡ true → links_stand records more (first_values more) ≡ true
  first_stand [] h = refl
  first_stand (i ∷ more) h =
      let both = and_parts (is_unlinked i) (list_all is_unlinked more) h in
      and_from _ _ (unlinked_stands i.kind i.initial both.0) (first_stand more both.1)

  links_both : (is more : List Item) (vs ws : List Value) → length vs ≡ length is → links_stand records is vs ≡ true → links_stand records more ws ≡ true → links_stand records (is ++ more) (vs ++ ws) ≡ true
  links_both [] more [] ws long one two = two
  links_both [] more (v ∷ vs) ws long one two = absurd (omega (arith, long))
  links_both (i ∷ is) more [] ws long one two = absurd (omega (arith, long))
  links_both (i ∷ is) more (v ∷ vs) ws long one two =
      let both = and_parts (link_stands records i.kind v) (links_stand records is vs) one in
      and_from _ _ both.0 (links_both is more vs ws (omega (arith, long)) both.1 two)

fit_long : (items : List Item) (vs : List Value) → values_fit items vs ≡ true → length vs ≡ length items
fit_long [] [] h = refl
fit_long [] (v ∷ vs) h = absurd (cc)
fit_long (i ∷ is) [] h = absurd (cc)
fit_long (i ∷ is) (v ∷ vs) h = let rest = fit_long is vs (and_parts (fits i.kind v) (values_fit is vs) h).1 in omega (arith, rest)

none_in : (bs : List (List ℕ)) → has_none bs ≡ true → bs ≡ []
none_in [] h = refl
none_in (b ∷ bs) h = absurd (cc)

set_high : (s : Shape) → is_set_or_automatic s ≡ true → nat_lt 2 s.kind ≡ true
set_high s h = (and_parts (nat_lt 2 s.kind) (nat_lt s.kind 5) h).0

manual_high : (s : Shape) → is_manual (Some s) ≡ true → nat_lt 2 s.kind ≡ true
manual_high s h = grind (arith, nat_tests, h)

-- ---- the database

module _ (old new : Described) (db : Db) (c d : Content) (may : MayBecome old new) (spells : database_in old c ≡ Some db) (files : RewritesFiles old new c d) where
  abbrev own : Tally
  own = tally_of old db

  stands : StandsFiles old db own c
  stands = spelled_files old c db may.served spells

  growth : Growth old new
  growth = each_grows old new may.well_then may.extends

  abbrev made : Db
  made = extended old new db

  still : (q : Place) → is_some (get made.records q) ≡ is_some (get db.records q)
  still q = ap is_some (extends_gives old new db q) ∙ some_mapped (extended_record old new q.0) (get db.records q)

  entries_are : made.entries ≡ db.entries
  entries_are = entries_stay old new db

  -- a record is of a data set, and has a value for each item
  values_of : (k : Place) (r : Record) → get db.records k ≡ Some r → (is_data_set (structure_of old k.0) ≡ true) × HasValues old (k, r)
  values_of k r at =
      let it = record_stands old may.served db own c stands.slots k r at in
      let long = fit_long it.shape.items it.slot.rec.values it.fits.values in
      (ap is_data_set it.is ∙ it.data_set, ap (λ (x : Record). length x.values) (sym it.same) ∙ long ∙ ap (λ o. length (items_of o)) (sym it.is))

  found_values : (es : List (Place × Record)) → AllByRecursion (StandsAmong (entries db.records)) es → AllByRecursion (HasValues old) es
  found_values [] found = tt
  found_values (e ∷ es) found = ((values_of e.0 e.1 (get-entries db.records e.0 ∙ found.0)).1, found_values es found.1)

  all_values : HaveValues old db
  all_values = found_values (entries db.records) (all_found (entries db.records) (entries_sorted db.records))

  small_db : HasSmallNumbers db
  small_db = small_numbers old db own c may.served stands.slots

  small_made : HasSmallNumbers made
  small_made = keeps_numbers old new db small_db

  -- ---- data sets

  module _ (n : ℕ) (s : Shape) (was : structure_of old n ≡ Some s) where
    at : Stands new n s
    at = may.extends.stand n s was

    abbrev now : Shape
    now = at.now

    number_now : now.number ≡ n
    number_now = number_at new may.served_then.numbered n now at.is

    number_was : s.number ≡ n
    number_was = number_at old may.served.numbered n s was

    items_now : now.items ≡ s.items ++ further old new n
    items_now = sym (take-append-drop (length s.items) now.items) ∙ (λ i. ap (λ (x : Shape). x.items) at.keeps.same i ++ sym (further_is old new n s now was at.is) i)

    unlinked_now : list_all is_unlinked (further old new n) ≡ true
    unlinked_now = let h : StandsIn old new n = growth.stand n s was in ap (list_all is_unlinked) (further_are old new n h) ∙ h.unlinked

    kind_now : now.kind ≡ s.kind
    kind_now = ap (λ (x : Shape). x.kind) at.keeps.same

    owner_now : now.owner ≡ s.owner
    owner_now = ap (λ (x : Shape). x.owner) at.keeps.same

    set_now : is_data_set (Some now) ≡ is_data_set (Some s)
    set_now = ap (λ (x : Shape). is_data_set (Some x)) at.keeps.same

    kept_now : is_set_or_automatic now ≡ is_set_or_automatic s
    kept_now = ap (λ (x : Shape). is_set_or_automatic x) at.keeps.same

    manual_now : is_manual (Some now) ≡ is_manual (Some s)
    manual_now = ap (λ (x : Shape). is_manual (Some x)) at.keeps.same

    form_now : form_of now ≡ form_of s
    form_now = ap (λ (x : Shape). form_of x) at.keeps.same

    abbrev more : List Value
    more = first_values (further old new n)

    -- what stands in a slot that was widened
    slot_stands_now : (k : ℕ) (slot : Slot) → SlotStands old db own s k slot → length slot.rec.values ≡ length s.items → SlotStands new made own now k (with_values more slot)
    slot_stands_now k slot h long = record {
      most = omega (arith, h.most, at.keeps.room);
      owner = ap (λ j. owner_stands made.records j slot.rec.owner) owner_now ∙ owner_still db.records made.records still s.owner slot.rec.owner h.owner;
      links = ap (λ (l : List Item). links_stand made.records l (slot.rec.values ++ more)) items_now
          ∙ links_both made.records s.items (further old new n) slot.rec.values more long (links_still db.records made.records still s.items slot.rec.values ∙ h.links) (first_stand made.records (further old new n) unlinked_now);
      counted = h.counted ∙ ap (λ j. own.counted j k) (number_was ∙ sym number_now);
      owned = h.owned ∙ ap (λ j. own.owned j k) (number_was ∙ sym number_now);
    }

    module _ (is_set : is_data_set (Some s) ≡ true) where
      file : IsWidenedFile s now more (file_in c s) (file_in d now)
      file = files.data_sets n s now was at.is is_set

      file_stands : FileStands new made own now (file_in d now)
      file_stands = record { blocks = file.blocks; slots = λ k slot low used. by k slot low (slot_at s (file_in c s) k) refl (sym (file.slots k low) ∙ used) }
        where
          was_stands : FileStands old db own s (file_in c s)
          was_stands = stands.slots.each n s was is_set

          used_is : (a b : Slot) → Used a ≡ Used b → a ≡ b
          used_is a b e = cc

          by : (k : ℕ) (slot : Slot) → 1 ≤ k → (r : SlotRead) → slot_at s (file_in c s) k ≡ r → widened more r ≡ Used slot → SlotStands new made own now k slot
          by k slot low Free is e = absurd (cc e)
          by k slot low Bad is e = absurd (cc e)
          by k slot low (Used x) is e =
              let h = was_stands.slots k x low is in
              let long = fit_long s.items x.rec.values (slot_fits s (file_in c s) k x is).values in
              subst (SlotStands new made own now k) (used_is (with_values more x) slot e) (slot_stands_now k x h long)

      holds : HoldsRecords made n now (file_in d now)
      holds = widens_records old new db n s now (file_in c s) (file_in d now) (spelled_holds old db own c n s may.served stands.slots was is_set).0 at.keeps.room file

      record_now : (k : ℕ) → 1 ≤ k → get made.records (n, k) ≡ rec_in d (Some now) k
      record_now k low = sym (ap (λ b. cond b (rec_opt (slot_at now (file_in d now) k)) None) (set_now ∙ is_set) ∙ holds.each k low)

    -- the file of another structure is as it was
    file_same : is_data_set (Some s) ≡ false → file_in d now ≡ file_in c s
    file_same unset =
        ap (λ j. d (file_of j)) number_now
        ∙ files.others n (ap is_data_set was ∙ unset) (ap (λ o. not (is_some o) && is_over_old old (structure_of new n)) was)
        ∙ ap (λ j. c (file_of j)) (sym number_was)

    kept_list : is_data_set (Some s) ≡ false → is_set_or_automatic s ≡ true → kept_in (form_of now) (entry_width (kinds_over new now) now.parts) (file_in d now) ≡ Some (entries_of new made now)
    kept_list unset kept =
        let served = set_at old n s may.served was kept in
        let high = set_high s kept in
        (λ i. kept_in (form_now i) (width_same old new may n s now was at.keeps high served i) (file_same unset i))
        ∙ stands.lists.kept n s was unset kept
        ∙ ap (λ (xs : List (List ℕ)). Some xs) (sym (entries_same old new may n s now was at.keeps high served db all_values))

    manual_list : is_manual (Some s) ≡ true → list_at new d now ≡ Some (manual_of new made now)
    manual_list manual =
        let served = manual_at old n s may.served was manual in
        let high = manual_high s manual in
        (λ i. kept_in (form_now i) (width_same old new may n s now was at.keeps high served i) (file_same (manual_no_set s manual) i))
        ∙ stands.lists.manual n s was manual
        ∙ ap (λ (xs : List (List ℕ)). Some xs) (sym (manual_same old new may n s now was at.keeps high served db (λ k r there. (values_of k r there).1) (small_in old may.served db own c stands.slots stands.lists stands.entries n s was manual)))

  -- ---- structures that weren't there

  module _ (n : ℕ) (low : 1 ≤ n) (high : n ≤ 200) (none : structure_of old n ≡ None) where
    old_file : c (file_of n) ≡ []
    old_file = none_in (c (file_of n)) ((stands.fit n low high).none none)

    new_file : is_filled old new n ≡ false → d (file_of n) ≡ []
    new_file off = files.others n (ap is_data_set none) off ∙ old_file

    no_record : (k : ℕ) → 1 ≤ k → get made.records (n, k) ≡ None
    no_record k some =
        extends_gives old new db (n, k)
        ∙ ap (option_map (extended_record old new n)) (stands.slots.records n k some ∙ ap (λ o. rec_in c o k) none)

    not_named : (o m : ℕ) (es : List SubsetEntry) → AllByRecursion (EntryStands old db) es → list_any (names n o m) es ≡ false
    not_named o m [] all = refl
    not_named o m (e ∷ es) all = by (e.subset == n) refl (not_named o m es all.1)
      where
        off : false ≡ true → ⊥
        off e = absurd (cc)

        clash : e.subset ≡ n → ⊥
        clash same = off (sym (ap is_manual none) ∙ ap (λ j. is_manual (structure_of old j)) (sym same) ∙ all.0.manual)

        by : (b : Bool) → (e.subset == n) ≡ b → list_any (names n o m) es ≡ false → (names n o m e || list_any (names n o m) es) ≡ false
        by true is rest = absurd (clash (grind (arith, nat_tests, is)))
        by false is rest = ap (λ b. (b && (e.owner == o) && (e.number == m)) || list_any (names n o m) es) is ∙ rest

    not_entered : (o m : ℕ) → has_entry made n o m ≡ false
    not_entered o m = ap (λ (es : List SubsetEntry). list_any (names n o m) es) entries_are ∙ not_named o m db.entries stands.entries.each

    -- no entry of a manual subset that wasn't there
    none_manual : (s : Shape) → s.number ≡ n → manual_of new made s ≡ []
    none_manual s number =
        let never : (o m : ℕ) → has_entry made s.number o m ≡ false = λ o m. ap (λ j. has_entry made j o m) number ∙ not_entered o m in
        let small : SmallIn s made = record { each = λ o m has. absurd (clash (sym (never o m) ∙ has)) } in
        ap (λ (x : ByteSet). keys x)
        (same_map nat_list_cmp_total bytes_same _ _ (λ q.
        lists_members (member_entry (kinds_over new s) s) place_told IsSmallPair (told (kinds_over new s) s) (entered s made) (small_places s made small) q
        ∙ ap (λ o. test_of q (member_opt (member_entry (kinds_over new s) s) (place_told q) o))
        (entered_get s made (place_told q).0 (place_told q).1 ∙ ap (λ b. cond b (as_member (place_told q).0 (get made.records (s.set, (place_told q).1))) None) (never (place_told q).0 (place_told q).1))
        ∙ sym (get-empty bytes_cmp q))) ∙ empty_keys
      where
        clash : false ≡ true → ⊥
        clash e = absurd (cc e)

  -- no record of a data set that wasn't there has an entry
  none_kept : (s : Shape) → ((k : ℕ) → get made.records (over s, k) ≡ None) → entries_of new made s ≡ []
  none_kept s none =
      ap (λ (x : ByteSet). keys x)
      (same_map nat_list_cmp_total bytes_same _ _ (λ q.
      lists_members (entry_of (kinds_over new s) s) (place_in_entry s) IsSmall (own_entry (kinds_over new s) s) made.records small_made q
      ∙ ap (λ o. test_of q (member_opt (entry_of (kinds_over new s) s) (place_in_entry s q) o)) (none (place_in_entry s q).1)
      ∙ sym (get-empty bytes_cmp q))) ∙ empty_keys

  no_zero : (set : ℕ) → get made.records (set, 0) ≡ None
  no_zero set = extends_gives old new db (set, 0) ∙ ap (option_map (extended_record old new set)) (stands.slots.none set)

  -- nor has one of a structure that is no data set
  no_records : (set : ℕ) → is_data_set (structure_of old set) ≡ false → (k : ℕ) → get made.records (set, k) ≡ None
  no_records set unset zero = no_zero set
  no_records set unset (suc k) = extends_gives old new db (set, suc k) ∙ ap (option_map (extended_record old new set)) (stands.slots.records set (suc k) (omega arith) ∙ by (structure_of old set) unset)
    where
      by : (o : Option Shape) → is_data_set o ≡ false → rec_in c o (suc k) ≡ None
      by None h = refl
      by (Some s) h = ap (λ b. cond b (rec_opt (slot_at s (file_in c s) (suc k))) None) h

  low_of : (n : ℕ) (s : Shape) → structure_of new n ≡ Some s → 1 ≤ n
  low_of zero s h = absurd (cc h)
  low_of (suc n) s h = omega arith

  high_of : (n : ℕ) (s : Shape) → structure_of new n ≡ Some s → n ≤ 200
  high_of n s h =
      let low = slice_get_within new.structures (n - 1) s (structure_there new.structures n s h) in
      omega (arith, low, may.served_then.count)

  -- ---- all structures

  and_off : (a b : Bool) → (a && (false && b)) ≡ false
  and_off true b = refl
  and_off false b = refl

  and_last : (a b : Bool) → (a && (b && false)) ≡ false
  and_last true true = refl
  and_last true false = refl
  and_last false b = refl

  -- what isn't filled: a structure that is no set or automatic subset, or one over a data set that is new, or none
  fill_other : (n : ℕ) (t : Shape) → structure_of new n ≡ Some t → is_set_or_automatic t ≡ false → is_filled old new n ≡ false
  fill_other n t is unset =
      ap (λ o. not (is_some (structure_of old n)) && is_over_old old o) is
      ∙ ap (λ b. not (is_some (structure_of old n)) && (b && is_data_set (structure_of old t.set))) unset
      ∙ and_off (not (is_some (structure_of old n))) (is_data_set (structure_of old t.set))

  fill_new : (n : ℕ) (t : Shape) → structure_of new n ≡ Some t → is_data_set (structure_of old t.set) ≡ false → is_filled old new n ≡ false
  fill_new n t is unset =
      ap (λ o. not (is_some (structure_of old n)) && is_over_old old o) is
      ∙ ap (λ b. not (is_some (structure_of old n)) && (is_set_or_automatic t && b)) unset
      ∙ and_last (not (is_some (structure_of old n))) (is_set_or_automatic t)

  fill_none : (n : ℕ) → structure_of new n ≡ None → is_filled old new n ≡ false
  fill_none n is = ap (λ o. not (is_some (structure_of old n)) && is_over_old old o) is ∙ by (not (is_some (structure_of old n)))
    where
      by : (a : Bool) → (a && false) ≡ false
      by true = refl
      by false = refl

  fill_is : (n : ℕ) (t : Shape) → structure_of old n ≡ None → structure_of new n ≡ Some t → is_set_or_automatic t ≡ true → is_data_set (structure_of old t.set) ≡ true → is_filled old new n ≡ true
  fill_is n t none is kept set =
      ap (λ o. not (is_some o) && is_over_old old (structure_of new n)) none
      ∙ ap (λ o. is_over_old old o) is
      ∙ ap (λ b. b && is_data_set (structure_of old t.set)) kept
      ∙ set

  -- the file of a structure that wasn't there, and isn't filled, has no block
  new_none : (n : ℕ) (t : Shape) → structure_of old n ≡ None → structure_of new n ≡ Some t → is_filled old new n ≡ false → file_in d t ≡ []
  new_none n t none is off = ap (λ j. d (file_of j)) (number_at new may.served_then.numbered n t is) ∙ new_file n (low_of n t is) (high_of n t is) none off

  records_of_all : (set k : ℕ) → 1 ≤ k → get made.records (set, k) ≡ rec_in d (structure_of new set) k
  records_of_all set k low = by (structure_of old set) refl
    where
      of_new : (o : Option Shape) → structure_of old set ≡ None → structure_of new set ≡ o → get made.records (set, k) ≡ rec_in d o k
      of_new None none is = no_records set (ap is_data_set none) k
      of_new (Some t) none is = no_records set (ap is_data_set none) k ∙ sym (by_kind (is_data_set (Some t)) refl)
        where
          by_kind : (b : Bool) → is_data_set (Some t) ≡ b → cond b (rec_opt (slot_at t (file_in d t) k)) None ≡ None
          by_kind true h = ap (λ (bs : List (List ℕ)). rec_opt (slot_at t bs k)) (new_none set t none is (fill_other set t is (no_kept t h)))
          by_kind false h = refl

      of_old : (s : Shape) (was : structure_of old set ≡ Some s) (b : Bool) → is_data_set (Some s) ≡ b → get made.records (set, k) ≡ rec_in d (structure_of new set) k
      of_old s was true is = record_now set s was is k low ∙ ap (λ o. rec_in d o k) (sym (at set s was).is)
      of_old s was false unset =
          let t = (at set s was).now in
          no_records set (ap is_data_set was ∙ unset) k
          ∙ sym (ap (λ o. rec_in d o k) (at set s was).is ∙ ap (λ b. cond b (rec_opt (slot_at t (file_in d t) k)) None) (set_now set s was ∙ unset))

      by : (o : Option Shape) → structure_of old set ≡ o → get made.records (set, k) ≡ rec_in d (structure_of new set) k
      by None none = of_new (structure_of new set) none refl
      by (Some s) was = of_old s was (is_data_set (Some s)) refl

  -- a structure of the new description is one that was there, or wasn't
  now_is : (n : ℕ) (s t : Shape) (was : structure_of old n ≡ Some s) → structure_of new n ≡ Some t → (at n s was).now ≡ t
  now_is n s t was is = same_Some (at n s was).now t (sym (at n s was).is ∙ is)

  slots_made : RecordsStand new made own d
  slots_made = record { each = λ n t is is_set. each n t is is_set (structure_of old n) refl; records = records_of_all; none = no_zero }
    where
      each : (n : ℕ) (t : Shape) → structure_of new n ≡ Some t → is_data_set (Some t) ≡ true → (o : Option Shape) → structure_of old n ≡ o → FileStands new made own t (file_in d t)
      each n t is is_set None none = subst (FileStands new made own t) (sym (new_none n t none is (fill_other n t is (no_kept t is_set)))) (record { blocks = refl; slots = λ k slot low used. absurd (free slot used) })
        where
          free : (slot : Slot) → Free ≡ Used slot → ⊥
          free slot e = absurd (cc e)
      each n t is is_set (Some s) was =
          let same = now_is n s t was is in
          let set_was : is_data_set (Some s) ≡ true = sym (set_now n s was) ∙ ap (λ (x : Shape). is_data_set (Some x)) same ∙ is_set in
          subst (λ (x : Shape). FileStands new made own x (file_in d x)) same (file_stands n s was set_was)

  lists_made : ListsSpell new made d
  lists_made = record { kept = λ n t is unset kept. kept_all n t is unset kept (structure_of old n) refl; manual = λ n t is manual. manual_all n t is manual (structure_of old n) refl }
    where
      over_kept : (t : Shape) → is_set_or_automatic t ≡ true → over t ≡ t.set
      over_kept t h = grind (arith, nat_tests, h)

      filled : (n : ℕ) (t : Shape) → structure_of old n ≡ None → structure_of new n ≡ Some t → is_set_or_automatic t ≡ true → (s : Shape) → structure_of old t.set ≡ Some s → is_data_set (Some s) ≡ true
          → kept_in (form_of t) (entry_width (kinds_over new t) t.parts) (file_in d t) ≡ Some (entries_of new made t)
      filled n t none is kept s was is_set =
          let there = at t.set s was in
          holds_set new made there.now t (file_in d there.now) (file_in d t)
          (files.sets n t there.now is (fill_is n t none is kept (ap is_data_set was ∙ is_set)) there.is)
          (subst (λ m. HoldsRecords made m there.now (file_in d there.now)) (sym (over_kept t kept)) (holds t.set s was is_set)) small_made

      empty_list : (n : ℕ) (t : Shape) → structure_of old n ≡ None → structure_of new n ≡ Some t → is_set_or_automatic t ≡ true → is_data_set (structure_of old t.set) ≡ false
          → kept_in (form_of t) (entry_width (kinds_over new t) t.parts) (file_in d t) ≡ Some (entries_of new made t)
      empty_list n t none is kept unset =
          ap (λ (bs : List (List ℕ)). kept_in (form_of t) (entry_width (kinds_over new t) t.parts) bs) (new_none n t none is (fill_new n t is unset))
          ∙ nothing_kept (form_of t) (entry_width (kinds_over new t) t.parts)
          ∙ ap (λ (xs : List (List ℕ)). Some xs) (sym (none_kept t (λ k. ap (λ m. get made.records (m, k)) (over_kept t kept) ∙ no_records t.set unset k)))

      by_set : (n : ℕ) (t : Shape) → structure_of old n ≡ None → structure_of new n ≡ Some t → is_set_or_automatic t ≡ true → (o : Option Shape) (b : Bool) → structure_of old t.set ≡ o → is_data_set o ≡ b
          → kept_in (form_of t) (entry_width (kinds_over new t) t.parts) (file_in d t) ≡ Some (entries_of new made t)
      by_set n t none is kept o false was unset = empty_list n t none is kept (ap is_data_set was ∙ unset)
      by_set n t none is kept None true was h = absurd (cc h)
      by_set n t none is kept (Some s) true was h = filled n t none is kept s was h

      kept_all : (n : ℕ) (t : Shape) → structure_of new n ≡ Some t → is_data_set (Some t) ≡ false → is_set_or_automatic t ≡ true → (o : Option Shape) → structure_of old n ≡ o
          → kept_in (form_of t) (entry_width (kinds_over new t) t.parts) (file_in d t) ≡ Some (entries_of new made t)
      kept_all n t is unset kept None none = by_set n t none is kept (structure_of old t.set) (is_data_set (structure_of old t.set)) refl refl
      kept_all n t is unset kept (Some s) was =
          let same = now_is n s t was is in
          let no_was : is_data_set (Some s) ≡ false = sym (set_now n s was) ∙ ap (λ (x : Shape). is_data_set (Some x)) same ∙ unset in
          let kept_was : is_set_or_automatic s ≡ true = sym (kept_now n s was) ∙ ap (λ (x : Shape). is_set_or_automatic x) same ∙ kept in
          subst (λ (x : Shape). kept_in (form_of x) (entry_width (kinds_over new x) x.parts) (file_in d x) ≡ Some (entries_of new made x)) same (kept_list n s was no_was kept_was)

      manual_all : (n : ℕ) (t : Shape) → structure_of new n ≡ Some t → is_manual (Some t) ≡ true → (o : Option Shape) → structure_of old n ≡ o → list_at new d t ≡ Some (manual_of new made t)
      manual_all n t is manual None none =
          ap (λ (bs : List (List ℕ)). kept_in (form_of t) (entry_width (kinds_over new t) t.parts) bs) (new_none n t none is (fill_other n t is (manual_not_kept t manual)))
          ∙ nothing_kept (form_of t) (entry_width (kinds_over new t) t.parts)
          ∙ ap (λ (xs : List (List ℕ)). Some xs) (sym (none_manual n (low_of n t is) (high_of n t is) none t (number_at new may.served_then.numbered n t is)))
        where
          manual_not_kept : (x : Shape) → is_manual (Some x) ≡ true → is_set_or_automatic x ≡ false
          manual_not_kept x h = grind (arith, nat_tests, h)
      manual_all n t is manual (Some s) was =
          let same = now_is n s t was is in
          let manual_was : is_manual (Some s) ≡ true = sym (manual_now n s was) ∙ ap (λ (x : Shape). is_manual (Some x)) same ∙ manual in
          subst (λ (x : Shape). list_at new d x ≡ Some (manual_of new made x)) same (manual_list n s was manual_was)

  -- ---- blocks

  fit_made : SlotsFit new d
  fit_made n low high = record { few = files.few n (stands.fit n low high).few; whole = whole (structure_of new n) refl; none = none }
    where
      as_was : is_data_set (structure_of old n) ≡ false → is_filled old new n ≡ false → list_all is_whole (d (file_of n)) ≡ true
      as_was unset off = ap (λ (bs : List (List ℕ)). list_all is_whole bs) (files.others n unset off) ∙ (stands.fit n low high).whole

      gone : (o : Option Shape) → structure_of old n ≡ o → structure_of new n ≡ None → structure_of old n ≡ None
      gone None none is = none
      gone (Some s) was is = absurd (lost (sym (at n s was).is ∙ is))
        where
          lost : Some (at n s was).now ≡ None → ⊥
          lost e = absurd (cc e)

      none : structure_of new n ≡ None → has_none (d (file_of n)) ≡ true
      none is =
          let was = gone (structure_of old n) refl is in
          ap has_none (files.others n (ap is_data_set was) (fill_none n is)) ∙ (stands.fit n low high).none was

      of_data_set : (t : Shape) → structure_of new n ≡ Some t → FileStands new made own t (file_in d t) → list_all is_whole (d (file_of n)) ≡ true
      of_data_set t is stand = ap (λ j. list_all is_whole (d (file_of j))) (sym (number_at new may.served_then.numbered n t is)) ∙ blocks_whole t (file_in d t) stand.blocks

      of_list : (t : Shape) (xs : List (List ℕ)) → structure_of new n ≡ Some t → list_at new d t ≡ Some xs → list_all is_whole (d (file_of n)) ≡ true
      of_list t xs is list = ap (λ j. list_all is_whole (d (file_of j))) (sym (number_at new may.served_then.numbered n t is)) ∙ kept_whole (form_of t) (entry_width (kinds_over new t) t.parts) (file_in d t) xs list

      by_kind : (t : Shape) (a b : Bool) → structure_of new n ≡ Some t → is_data_set (Some t) ≡ a → is_set_or_automatic t ≡ b → list_all is_whole (d (file_of n)) ≡ true
      by_kind t true b is set kept = of_data_set t is (slots_made.each n t is set)
      by_kind t false true is unset kept = of_list t (entries_of new made t) is (lists_made.kept n t is unset kept)
      by_kind t false false is unset off = as_was (not_set (structure_of old n) refl) (fill_other n t is off)
        where
          not_set : (o : Option Shape) → structure_of old n ≡ o → is_data_set o ≡ false
          not_set None gone_is = refl
          not_set (Some s) was = sym (set_now n s was) ∙ ap (λ (x : Shape). is_data_set (Some x)) (now_is n s t was is) ∙ unset

      whole : (o : Option Shape) → structure_of new n ≡ o → list_all is_whole (d (file_of n)) ≡ true
      whole None is = as_was (ap is_data_set (gone (structure_of old n) refl is)) (fill_none n is)
      whole (Some t) is = by_kind t (is_data_set (Some t)) (is_set_or_automatic t) is refl refl

  -- ---- entries

  there_of : (m : ℕ) → is_manual (structure_of old m) ≡ true → (s : Shape) × (structure_of old m ≡ Some s)
  there_of m h = by (structure_of old m) refl h
    where
      by : (o : Option Shape) → structure_of old m ≡ o → is_manual o ≡ true → (s : Shape) × (structure_of old m ≡ Some s)
      by None e is = absurd (cc is)
      by (Some s) e is = (s, e)

  entry_made : (e : SubsetEntry) → EntryStands old db e → EntryStands new made e
  entry_made e h =
      let there = there_of e.subset h.manual in
      let s = there.0 in
      let now = at e.subset s there.1 in
      record {
        manual = ap is_manual now.is ∙ manual_now e.subset s there.1 ∙ sym (ap is_manual there.1) ∙ h.manual;
        member = ap (λ j. is_some (get made.records (j, e.number))) (ap over_of now.is ∙ ap (λ (x : Shape). over_of (Some x)) now.keeps.same ∙ sym (ap over_of there.1)) ∙ still (over_of (structure_of old e.subset), e.number) ∙ h.member;
        owner = ap (λ j. owner_stands made.records j e.owner) (owner_is old new e.subset (growth.stand e.subset s there.1)) ∙ owner_still db.records made.records still (owner_of (structure_of old e.subset)) e.owner h.owner;
      }

  all_made : (es : List SubsetEntry) → AllByRecursion (EntryStands old db) es → AllByRecursion (EntryStands new made) es
  all_made [] all = tt
  all_made (e ∷ es) all = (entry_made e all.0, all_made es all.1)

  entries_made : EntriesStand new made
  entries_made = record {
    each = subst (AllByRecursion (EntryStands new made)) (sym entries_are) (all_made db.entries stands.entries.each);
    rising = subst AreRising (sym entries_are) stands.entries.rising;
    few = λ n t is manual. subst (λ (es : List SubsetEntry). length (filter (is_in_subset t.number) es) ≤ t.population) (sym entries_are) (few n t is manual (structure_of old n) refl);
  }
    where
      none_of : (m : ℕ) (es : List SubsetEntry) → AllByRecursion (EntryStands old db) es → structure_of old m ≡ None → filter (is_in_subset m) es ≡ []
      none_of m [] all none = refl
      none_of m (e ∷ es) all none = by (e.subset == m) refl (none_of m es all.1 none)
        where
          off : false ≡ true → ⊥
          off h = absurd (cc)

          clash : e.subset ≡ m → ⊥
          clash same = off (sym (ap is_manual none) ∙ ap (λ j. is_manual (structure_of old j)) (sym same) ∙ all.0.manual)

          by : (b : Bool) → (e.subset == m) ≡ b → filter (is_in_subset m) es ≡ [] → cond b (e ∷ filter (is_in_subset m) es) (filter (is_in_subset m) es) ≡ []
          by true h rest = absurd (clash (grind (arith, nat_tests, h)))
          by false h rest = rest

      few : (n : ℕ) (t : Shape) → structure_of new n ≡ Some t → is_manual (Some t) ≡ true → (o : Option Shape) → structure_of old n ≡ o → length (filter (is_in_subset t.number) db.entries) ≤ t.population
      few n t is manual None none =
          let number = number_at new may.served_then.numbered n t is in
          let nothing : filter (is_in_subset t.number) db.entries ≡ [] = none_of t.number db.entries stands.entries.each (ap (structure_of old) number ∙ none) in
          let e = ap length nothing in omega (arith, e)
      few n t is manual (Some s) was =
          let same = now_is n s t was is in
          let manual_was : is_manual (Some s) ≡ true = sym (manual_now n s was) ∙ ap (λ (x : Shape). is_manual (Some x)) same ∙ manual in
          let was_few = stands.entries.few n s was manual_was in
          let number : t.number ≡ s.number = number_at new may.served_then.numbered n t is ∙ sym (number_was n s was) in
          let room : s.population ≤ t.population = subst (λ (x : Shape). s.population ≤ x.population) same (at n s was).keeps.room in
          subst (λ j. length (filter (is_in_subset j) db.entries) ≤ t.population) (sym number) (omega (arith, was_few, room))

  -- ---- counts

  row_stands : (k : Place) (r : Record) → get db.records k ≡ Some r → RowStands old new (k, r)
  row_stands k r there =
      let it = values_of k r there in
      let shape = set_there (structure_of old k.0) refl it.0 in
      (growth.stand k.0 shape.0 shape.1, it.1)
    where
      set_there : (o : Option Shape) → structure_of old k.0 ≡ o → is_data_set o ≡ true → (s : Shape) × (structure_of old k.0 ≡ Some s)
      set_there None e is = absurd (cc is)
      set_there (Some s) e is = (s, e)

  rows_stand : (es : List (Place × Record)) → AllByRecursion (StandsAmong (entries db.records)) es → AllByRecursion (RowStands old new) es
  rows_stand [] found = tt
  rows_stand (e ∷ es) found = (row_stands e.0 e.1 (get-entries db.records e.0 ∙ found.0), rows_stand es found.1)

  subsets_stand : (es : List SubsetEntry) → AllByRecursion (EntryStands old db) es → AllByRecursion (λ (e : SubsetEntry). StandsIn old new e.subset) es
  subsets_stand [] all = tt
  subsets_stand (e ∷ es) all = (let there = there_of e.subset all.0.manual in growth.stand e.subset there.0 there.1, subsets_stand es all.1)

  all_stand : AllStandIn old new db
  all_stand = record { rows = rows_stand (entries db.records) (all_found (entries db.records) (entries_sorted db.records)); subsets = subsets_stand db.entries stands.entries.each }

  counts_made : Counts new made own
  counts_made = record { counted = λ set n low. sym (stays_counted old new db all_stand set n).0; owned = λ set n low. sym (stays_counted old new db all_stand set n).1 }

  spelled_made : database_in new d ≡ Some made
  spelled_made = spell_by new made own d may.served_then (record { slots = slots_made; lists = lists_made; fit = fit_made; entries = entries_made }) counts_made

pub spells_extended : SpellsExtended
spells_extended old new db c d may spells files = spelled_made old new db c d may spells files
