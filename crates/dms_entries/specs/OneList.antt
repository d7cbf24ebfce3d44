-- One entry of a manual subset more or fewer: the lists of all others, and the records, are as they were.
use Rattle.std.proofs.Common.{◌≡◌, ◌∙◌, ◌-◌, ℕ, suc, List, Bool, true, false, IsTrue, Some, refl, sym, ap, subst, slice_get, arith}
use Rattle.std.specs.Prelude.{◌==◌}
use Rattle.std.specs.FinMap.{get}
use Rattle.std.proofs.lemmas.Bool.Decides.{nat_tests}
use Rattle.std.proofs.lemmas.Option.{same_Some}
use Rattle.dms_block.specs.Content.{Content}
use Rattle.dms_block.specs.View.{overlay_content, under}
use Rattle.dms_block.specs.declared.blocks.Blocks.{Ghosts}
use Rattle.dms_block.specs.declared.overlay.Overlay.{Overlay}
use Rattle.dms_desc.specs.Kinds.{is_set_or_automatic}
use Rattle.dms_desc.specs.Lookups.{over_of, structure_of}
use Rattle.dms_desc.specs.Shape.{Shape, Described}
use Rattle.dms_links.specs.Linking.{number_at, structure_here}
use Rattle.dms_links.specs.Rows.{file_in}
use Rattle.dms_links.specs.Stands.{RecordsStand, Tally}
use Rattle.dms_links.specs.Stepping.{AreSlotFiles}
use Rattle.dms_lists.specs.Forms.{form_of}
use Rattle.dms_manual.specs.Entered.{manual_of}
use Rattle.dms_manual.specs.Listed.{manual_still}
use Rattle.dms_manual.specs.Naming.{AreManual, is_manual_over}
use Rattle.dms_model.specs.Db.{Db, Records}
use Rattle.dms_model.specs.Uses.{has_entry}
use Rattle.dms_model.specs.Valid.{is_data_set, is_manual, owner_stands}
use Rattle.dms_sets.specs.Changes.{HasRoom, OtherListsStay, list_of_set}
use Rattle.dms_sets.specs.Keeping.{Calm, seen_list}
use Rattle.dms_sets.specs.Padded.{entry_width}
use Rattle.dms_sets.specs.Sets.{entries_of, kinds_over}
use Rattle.dms_sets.specs.Told.{AreListed}
use Rattle.dms_manual.specs.Counted.{counted_manual}
use Rattle.dms_spelling.specs.After.{AreOfLists, ListsAre, are_listed, are_manual, is_listed, lists_are, records_still, slot_files}
use Rattle.dms_spelling.specs.Holds.{entries_rise, small_in}
use Rattle.dms_spelling.specs.Serving.{IsServed}
use Rattle.dms_spelling.specs.ServingLaws.{served_at, structure_there}
use Rattle.dms_spelling.specs.Stands.{StandsFiles}
use Rattle.dms_tally.specs.Counts.{links_stand}

-- ---- other entries, the same records

-- The slots have the records of each database with the same ones.
pub stands_as : (desc : Described) (db after : Db) (own : Tally) (c : Content) → after.records ≡ db.records → RecordsStand desc db own c → RecordsStand desc after own c
stands_as desc db after own c same files = record {
  each = λ n s at is.
      let f = files.each n s at is in
      record {
        blocks = f.blocks;
        slots = λ m x low was.
            let h = f.slots m x low was in
            record {
              most = h.most;
              owner = subst (λ (r : Records). owner_stands r s.owner x.rec.owner ≡ true) (sym same) h.owner;
              links = subst (λ (r : Records). links_stand r s.items x.rec.values ≡ true) (sym same) h.links;
              counted = h.counted;
              owned = h.owned;
            };
      };
  records = λ t n low. ap (λ (r : Records). get r (t, n)) same ∙ files.records t n low;
  none = λ t. ap (λ (r : Records). get r (t, 0)) same ∙ files.none t;
}

-- ---- a manual subset

pub is_of_manual : (s : Shape) → s.kind ≡ 5 → is_manual (Some s) ≡ true
is_of_manual s kind = grind (arith, nat_tests, kind)

manual_listed : (s : Shape) → s.kind ≡ 5 → is_listed (Some s) ≡ true
manual_listed s kind = grind (arith, nat_tests, kind)

manual_unset : (s : Shape) → s.kind ≡ 5 → is_data_set (Some s) ≡ false
manual_unset s kind = grind (arith, nat_tests, kind)

pub manual_over : (s : Shape) → s.kind ≡ 5 → is_manual_over s s.set ≡ true
manual_over s kind = grind (arith, nat_tests, kind)

no_kept : (s : Shape) → s.kind ≡ 5 → is_set_or_automatic s ≡ false
no_kept s kind = grind (arith, nat_tests, kind)

apart : false ≡ true → ⊥
apart h = absurd (cc)

pub over_manual : (s : Shape) → s.kind ≡ 5 → over_of (Some s) ≡ s.set
over_manual s kind = by (is_data_set (Some s)) refl
  where
    by : (b : Bool) → is_data_set (Some s) ≡ b → over_of (Some s) ≡ s.set
    by b is = grind (arith, nat_tests, kind)

module _ (desc : Described) (served : IsServed desc) (s : Shape) (at : structure_of desc s.number ≡ Some s) (kind : s.kind ≡ 5) where
  own_shape : (k : ℕ) (t : Shape) → slice_get desc.structures k ≡ Some t → (t.number == s.number) ≡ true → t ≡ s
  own_shape k t there same =
      let number = number_at desc served.numbered (suc k) t (structure_here desc.structures k t there) in
      let is : suc k ≡ s.number = number_same t.number s.number (suc k) number same in
      same_Some t s (sym (structure_here desc.structures k t there) ∙ ap (structure_of desc) is ∙ at)
    where
      number_same : (a b n : ℕ) → a ≡ n → (a == b) ≡ true → n ≡ b
      number_same a b n e h = grind (arith, nat_tests, e, h)

  -- its file is no other list's, and no data set's
  pub of_lists : AreOfLists desc (λ m. m == s.number)
  of_lists n off = by (n == s.number) refl
    where
      by : (b : Bool) → (n == s.number) ≡ b → b ≡ false
      by false is = refl
      by true is =
          let same : n ≡ s.number = grind (arith, nat_tests, is) in
          absurd (apart (sym off ∙ ap (λ k. is_listed (structure_of desc k)) same ∙ ap is_listed at ∙ manual_listed s kind))

  pub data_set_apart : (n : ℕ) (t : Shape) → structure_of desc n ≡ Some t → is_data_set (Some t) ≡ true → (t.number == s.number) ≡ false
  data_set_apart n t there is = by (t.number == s.number) refl
    where
      by : (b : Bool) → (t.number == s.number) ≡ b → b ≡ false
      by false e = refl
      by true e =
          let number = number_at desc served.numbered n t there in
          let same : n ≡ s.number = grind (arith, nat_tests, e, number) in
          let one : t ≡ s = same_Some t s (sym there ∙ ap (structure_of desc) same ∙ at) in
          absurd (apart (sym (manual_unset s kind) ∙ ap (λ (x : Shape). is_data_set (Some x)) (sym one) ∙ is))

  -- Calls on its list change no data set's file.
  pub set_files : {B : Type 0} {g : Ghosts B} (a b : Overlay B g) (n : ℕ) → IsTrue (under a).told → Calm (λ m. m == s.number) n a b
      → (m : ℕ) (t : Shape) → structure_of desc m ≡ Some t → is_data_set (Some t) ≡ true → file_in (overlay_content b) t ≡ file_in (overlay_content a) t
  set_files a b n told calm m t there is = (calm.others t.number (data_set_apart m t there is)).1 told

  module _ {B : Type 0} {g : Ghosts B} (db : Db) (own : Tally) (a : Overlay B g) (told : IsTrue (under a).told) (files : StandsFiles desc db own (overlay_content a)) where
    -- the list that is seen is that of the database,
    pub list_seen : list_of_set (seen_list a) (kinds_over desc s) s ≡ Some (manual_of desc db s)
    list_seen = are_manual desc served db s.set a told files.lists files.fit (s.number - 1) s (structure_there desc.structures s.number s at) (manual_over s kind)

    -- and has room for one more entry.
    pub list_room : HasRoom (manual_of desc db s)
    list_room =
        let manual = is_of_manual s kind in
        let small = small_in desc served db own (overlay_content a) files.slots files.lists files.entries s.number s at manual in
        let rise = entries_rise desc served db own (overlay_content a) files.slots files.lists files.entries s.number s at manual in
        let long = counted_manual desc s db small rise.rising rise.stand in
        omega (arith, long, files.entries.few s.number s at manual, (served_at desc s.number s served at).population)

    module _ (after : Db) (b : Overlay B g) (n : ℕ) (calm : Calm (λ m. m == s.number) n a b) (others : OtherListsStay s (seen_list a) (seen_list b)) (same : after.records ≡ db.records)
        (still : (t : ℕ) → (t == s.number) ≡ false → (o m : ℕ) → has_entry after t o m ≡ has_entry db t o m) (list : list_of_set (seen_list b) (kinds_over desc s) s ≡ Some (manual_of desc after s)) where
      listed_after : AreListed desc after (seen_list b)
      listed_after k t there kept = by (t.number == s.number) refl
        where
          by : (x : Bool) → (t.number == s.number) ≡ x → list_of_set (seen_list b) (kinds_over desc t) t ≡ Some (entries_of desc after t)
          by true is = absurd (apart (sym (no_kept s kind) ∙ ap is_set_or_automatic (sym (own_shape k t there is)) ∙ kept))
          by false is =
              others t.number (form_of t) (entry_width (kinds_over desc t) t.parts) is ∙ are_listed desc served db a told files.lists files.fit k t there kept
              ∙ ap (λ (r : Records). Some (entries_of desc (record { records = r; entries = db.entries }) t)) (sym same)

      manual_after : (set : ℕ) → AreManual desc after set (seen_list b)
      manual_after set k t there over = by (t.number == s.number) refl
        where
          by : (x : Bool) → (t.number == s.number) ≡ x → list_of_set (seen_list b) (kinds_over desc t) t ≡ Some (manual_of desc after t)
          by true is = subst (λ (u : Shape). list_of_set (seen_list b) (kinds_over desc u) u ≡ Some (manual_of desc after u)) (sym (own_shape k t there is)) list
          by false is =
              others t.number (form_of t) (entry_width (kinds_over desc t) t.parts) is ∙ are_manual desc served db set a told files.lists files.fit k t there over
              ∙ ap (λ (xs : List (List ℕ)). Some xs) (sym (manual_still desc t db after (record { entered = still t.number is; records = λ o m has. ap (λ (r : Records). get r (t.set, m)) same })))

      -- The lists are those of the database with it,
      pub lists_after : ListsAre desc after (overlay_content a) (overlay_content b)
      lists_after = lists_are desc served after (λ m. m == s.number) n a b told of_lists calm listed_after manual_after

    module _ (b : Overlay B g) (n : ℕ) (calm : Calm (λ m. m == s.number) n a b) where
      -- and the records are as they were.
      pub records_after : RecordsStand desc db own (overlay_content b)
      records_after = records_still desc (overlay_content a) (overlay_content b) (λ m t there is. set_files a b n told calm m t there is) db own files.slots

      pub slots_after : AreSlotFiles desc (overlay_content b)
      slots_after = slot_files desc db own (overlay_content b) served records_after
