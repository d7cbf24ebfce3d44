-- The files of a content after lists were changed, and slots of data sets written.
use Rattle.std.proofs.Common.{◌≡◌, ◌∙◌, ◌+◌, ◌-◌, ◌≤◌, ℕ, zero, suc, List, [], ◌∷◌, Bool, true, false, cond, IsTrue, Some, None, inl, inr, refl, sym, ap, subst, length, slice_get, arith}
use Rattle.std.specs.Prelude.{◌&&◌, ◌==◌, nat_lt}
use Rattle.std.specs.List.{list_all}
use Rattle.std.specs.declared.option.Option.{Option}
use Rattle.std.specs.FinMap.{get}
use Rattle.std.proofs.Math.Nat as nat
use Rattle.std.proofs.lemmas.Bool.{cases_eq}
use Rattle.std.proofs.lemmas.Bool.Decides.{nat_tests}
use Rattle.std.proofs.lemmas.Option.{same_Some, slice_get_within}
use Rattle.dms_block.specs.Content.{Content}
use Rattle.dms_block.specs.declared.blocks.Blocks.{Ghosts}
use Rattle.dms_block.specs.declared.overlay.Overlay.{Overlay}
use Rattle.dms_block.specs.View.{overlay_content, under}
use Rattle.dms_desc.specs.Files.{file_of}
use Rattle.dms_desc.specs.Kinds.{is_set_or_automatic}
use Rattle.dms_desc.specs.Lookups.{structure_of}
use Rattle.dms_desc.specs.Shape.{Shape, Described}
use Rattle.dms_desc.specs.declared.record.Record.{Record}
use Rattle.dms_links.specs.Altered.{IsAltered}
use Rattle.dms_links.specs.AlteringIn.{AltersIn, slot_most, slot_set}
use Rattle.dms_links.specs.Clearing.{CorrectsAll}
use Rattle.dms_links.specs.Linking.{number_at, structure_here}
use Rattle.dms_links.specs.Rows.{file_in, rec_in, rec_opt}
use Rattle.dms_links.specs.Stands.{FileStands, RecordsStand, Tally}
use Rattle.dms_links.specs.Steps.{SlotIs}
use Rattle.dms_links.specs.Stepping.{AltersSteps, AreSlotFiles, SlotStep, altered_files, slot_is}
use Rattle.dms_links.specs.declared.altering.SlotChange.{SlotChange}
use Rattle.dms_links.specs.declared.altering.SlotChange.TheVariants.{Corrected}
use Rattle.dms_layout.specs.declared.slot.Slot.{Slot}
use Rattle.dms_lists.specs.Forms.{form_of, kept_in}
use Rattle.dms_manual.specs.Entered.{manual_of}
use Rattle.dms_manual.specs.Naming.{AreManual, is_manual_over}
use Rattle.dms_model.specs.Db.{Db, Place}
use Rattle.dms_model.specs.Valid.{is_data_set, is_manual, is_set}
use Rattle.dms_sets.specs.Keeping.{Calm, seen_list}
use Rattle.dms_sets.specs.KeepingLaws.{told_is, told_list}
use Rattle.dms_sets.specs.Padded.{entry_width}
use Rattle.dms_sets.specs.Sets.{entries_of, kinds_over}
use Rattle.dms_sets.specs.Told.{AreListed}
use Rattle.dms_slots.specs.SlotBlocks.{block_of, per_block, slot_at}
use Rattle.dms_spelling.specs.Holds.{have_slots}
use Rattle.dms_spelling.specs.Serving.{IsServed}
use Rattle.dms_spelling.specs.ServingLaws.{served_at, structure_there}
use Rattle.dms_spelling.specs.Spelled.{has_none, is_whole, list_at}
use Rattle.dms_spelling.specs.Stands.{EntriesStand, ListsSpell, OneFits, SlotsFit, StandsFiles}
use Rattle.dms_spelling.specs.TreeWhole.{kept_whole}
use Rattle.dms_spelling.specs.Whole.{blocks_whole}

-- ---- definitions

-- a set or a subset
abbrev pub is_listed : Option Shape → Bool
is_listed None = false
is_listed (Some s) = is_set s

-- The files of all but data sets are as they were, and no data set's file has come to have too many blocks.
pub record SlotsOnly (desc : Described) (c d : Content) : Type 0 where
  pub few : (n : ℕ) (s : Shape) → structure_of desc n ≡ Some s → is_data_set (Some s) ≡ true → length (file_in c s) ≤ 1048576 → length (file_in d s) ≤ 1048576
  pub still : (n : ℕ) → is_data_set (structure_of desc n) ≡ false → d (file_of n) ≡ c (file_of n)

-- a file is this list, and has not too many blocks
abbrev pub IsListIn : Described → Content → Shape → List (List ℕ) → Type 0
IsListIn desc c s xs = (list_at desc c s ≡ Some xs) × (length (file_in c s) ≤ 1048576)

-- The files of sets and subsets have the lists of a database, and all other files are as they were.
pub record ListsAre (desc : Described) (db : Db) (c d : Content) : Type 0 where
  pub kept : (n : ℕ) (s : Shape) → structure_of desc n ≡ Some s → is_set_or_automatic s ≡ true → IsListIn desc d s (entries_of desc db s)
  pub manual : (n : ℕ) (s : Shape) → structure_of desc n ≡ Some s → is_manual (Some s) ≡ true → IsListIn desc d s (manual_of desc db s)
  pub still : (n : ℕ) → is_listed (structure_of desc n) ≡ false → d (file_of n) ≡ c (file_of n)

-- these are numbers of sets and subsets alone
abbrev pub AreOfLists : Described → (ℕ → Bool) → Type 0
AreOfLists desc p = (n : ℕ) → is_listed (structure_of desc n) ≡ false → p n ≡ false

-- ---- kinds

kept_no_set : (s : Shape) → is_set_or_automatic s ≡ true → is_data_set (Some s) ≡ false
kept_no_set s h = grind (arith, nat_tests, h)

manual_no_set : (s : Shape) → is_manual (Some s) ≡ true → is_data_set (Some s) ≡ false
manual_no_set s h = grind (arith, nat_tests, h)

set_unlisted : (s : Shape) → is_data_set (Some s) ≡ true → is_listed (Some s) ≡ false
set_unlisted s h = grind (arith, nat_tests, h)

else_manual : (s : Shape) → s.kind ≤ 5 → 1 ≤ s.kind → is_data_set (Some s) ≡ false → is_set_or_automatic s ≡ false → is_manual (Some s) ≡ true
else_manual s most low no_set no_kept = grind (arith, nat_tests, most, low, no_set, no_kept)

no_shape : (s : Shape) → ◌≡◌ {A = Option Shape} None (Some s) → ⊥
no_shape s h = absurd (cc h)

-- ---- slots

pub slots_same : (desc : Described) (c d : Content) → d ≡ c → SlotsOnly desc c d
slots_same desc c d same = record {
  few = λ n s at is few. subst (λ (e : Content). length (file_in e s) ≤ 1048576) (sym same) few;
  still = λ n off. ap (λ (e : Content). e (file_of n)) same;
}

pub slots_then : (desc : Described) (c d e : Content) → SlotsOnly desc c d → SlotsOnly desc d e → SlotsOnly desc c e
slots_then desc c d e one two = record {
  few = λ n s at is few. two.few n s at is (one.few n s at is few);
  still = λ n off. two.still n off ∙ one.still n off;
}

module _ (desc : Described) (served : IsServed desc) where
  -- one slot of a data set was written
  pub slots_one : (set number : ℕ) (s : Shape) (o : Option Slot) (c d : Content) → structure_of desc set ≡ Some s → is_data_set (Some s) ≡ true → number ≤ s.population → SlotIs s number o c d → SlotsOnly desc c d
  slots_one set number s o c d at is_set most change =
      let mine = number_at desc served.numbered set s at in
      let population = (served_at desc set s served at).population in
      let block : block_of s.items number + 1 ≤ 1048576 = omega (arith, nat.div-le_self (number - 1) (per_block s.items), most, population) in
      record {
        few = λ n t there is few. elim (cases_eq n set) [
          | inl same ↦
              let own : s ≡ t = same_Some s t (sym at ∙ ap (structure_of desc) (sym same) ∙ there) in
              subst (λ (x : Shape). length (file_in d x) ≤ 1048576) own (omega (arith, change.few, block, subst (λ (x : Shape). length (file_in c x) ≤ 1048576) (sym own) few))
          | inr apart ↦
              let its = number_at desc served.numbered n t there in
              let same : file_in d t ≡ file_in c t = change.files (file_of t.number) (λ e. apart (omega (arith, e, mine, its))) in
              omega (arith, few, ap length same)
        ];
        still = λ n off. change.files (file_of n) (λ e. apart n off e);
      }
    where
      apart : (n : ℕ) → is_data_set (structure_of desc n) ≡ false → file_of n ≡ file_of s.number → ⊥
      apart n off e =
          let mine = number_at desc served.numbered set s at in
          let same : n ≡ set = omega (arith, e, mine) in
          let on : is_data_set (structure_of desc n) ≡ true = ap (λ k. is_data_set (structure_of desc k)) same ∙ ap is_data_set at ∙ is_set in
          absurd (cc (off, on))

  pub slots_altered : (set number : ℕ) (change : SlotChange) (c d : Content) (done : Bool) → AreSlotFiles desc c → AltersIn desc set number change c d done → SlotsOnly desc c d
  slots_altered set number change c d false files h = slots_same desc c d (h.none refl)
  slots_altered set number change c d true files h =
      let x = h.some refl in
      let s = x.0 in
      let a : IsAltered s number change c d = h.here s x.1 x.2 in
      slots_one set number s (Some a.next) c d x.1 (slot_set s number x.2) (slot_most s number x.2) (slot_is desc set number change c d files s x.1 x.2 a)

  pub slots_steps : (xs : List SlotStep) (done : Bool) (c d : Content) → AreSlotFiles desc c → AltersSteps desc xs done c d → SlotsOnly desc c d
  slots_steps [] done c d files h = slots_same desc c d h.1
  slots_steps (x ∷ xs) done c d files (e, true, a, h) =
      slots_then desc c e d (slots_altered x.set x.number x.change c e true files a) (slots_steps xs done e d (altered_files desc x.set x.number x.change c e true a files) h)
  slots_steps (x ∷ xs) done c d files (e, false, a, h) = slots_then desc c e d (slots_altered x.set x.number x.change c e false files a) (slots_same desc e d h.1)

  pub slots_corrected : (to number : ℕ) (ps : List Place) (c d : Content) → AreSlotFiles desc c → CorrectsAll desc to number ps c d → SlotsOnly desc c d
  slots_corrected to number [] c d files h = slots_same desc c d h
  slots_corrected to number (p ∷ ps) c d files (e, b, a, h) =
      slots_then desc c e d (slots_altered p.0 p.1 (Corrected to number) c e b files a) (slots_corrected to number ps e d (altered_files desc p.0 p.1 (Corrected to number) c e b a files) h)

-- blocks of slots stay so
pub corrected_files : (desc : Described) (to number : ℕ) (ps : List Place) (c d : Content) → AreSlotFiles desc c → CorrectsAll desc to number ps c d → AreSlotFiles desc d
corrected_files desc to number [] c d files h = subst (AreSlotFiles desc) (sym h) files
corrected_files desc to number (p ∷ ps) c d files (e, b, a, h) = corrected_files desc to number ps e d (altered_files desc p.0 p.1 (Corrected to number) c e b a files) h

-- the files of data sets that have the records of a database are blocks of slots
pub slot_files : (desc : Described) (db : Db) (own : Tally) (c : Content) → IsServed desc → RecordsStand desc db own c → AreSlotFiles desc c
slot_files desc db own c served files = record { have = have_slots desc served; each = λ n s at is. (files.each n s at is).blocks }

-- Where the files of data sets are as they were, so are the records of their slots.
module _ (desc : Described) (c d : Content) (same : (n : ℕ) (s : Shape) → structure_of desc n ≡ Some s → is_data_set (Some s) ≡ true → file_in d s ≡ file_in c s) where
  rec_still : (t n : ℕ) (o : Option Shape) → structure_of desc t ≡ o → rec_in c o n ≡ rec_in d o n
  rec_still t n None is = refl
  rec_still t n (Some s) is = by (is_data_set (Some s)) refl
    where
      by : (b : Bool) → is_data_set (Some s) ≡ b → cond b (rec_opt (slot_at s (file_in c s) n)) None ≡ cond b (rec_opt (slot_at s (file_in d s) n)) None
      by true kind = ap (λ (bs : List (List ℕ)). rec_opt (slot_at s bs n)) (sym (same t s is kind))
      by false kind = refl

  pub records_still : (db : Db) (own : Tally) → RecordsStand desc db own c → RecordsStand desc db own d
  records_still db own files = record {
    each = λ n s at is. subst (λ (bs : List (List ℕ)). FileStands desc db own s bs) (sym (same n s at is)) (files.each n s at is);
    records = λ t n one. files.records t n one ∙ rec_still t n (structure_of desc t) refl;
    none = files.none;
  }

-- ---- lists

pub lists_stay : (desc : Described) (db : Db) (c : Content) → IsServed desc → SlotsFit desc c → ListsSpell desc db c → ListsAre desc db c c
lists_stay desc db c served fit lists = record {
  kept = λ n s at kept. (lists.kept n s at (kept_no_set s kept) kept, few n s at);
  manual = λ n s at manual. (lists.manual n s at manual, few n s at);
  still = λ n off. refl;
}
  where
    few : (n : ℕ) (s : Shape) → structure_of desc n ≡ Some s → length (file_in c s) ≤ 1048576
    few n s at =
        let number = number_at desc served.numbered n s at in
        let there = structure_there desc.structures n s at in
        let low : 1 ≤ n = number_low n at in
        let most : n ≤ 200 = omega (arith, slice_get_within desc.structures (n - 1) s there, served.count) in
        subst (λ m. length (c (file_of m)) ≤ 1048576) (sym number) (fit n low most).few
      where
        number_low : (k : ℕ) → structure_of desc k ≡ Some s → 1 ≤ k
        number_low zero h = absurd (cc h)
        number_low (suc k) h = omega arith

module _ (desc : Described) (served : IsServed desc) (db : Db) (own : Tally) (c e d : Content) (fit : SlotsFit desc c) (lists : ListsAre desc db c e) (only : SlotsOnly desc e d) (slots : RecordsStand desc db own d) where
  -- a file that is neither of a data set nor of a list
  untouched : (n : ℕ) → structure_of desc n ≡ None → d (file_of n) ≡ c (file_of n)
  untouched n at = only.still n (ap is_data_set at) ∙ lists.still n (ap is_listed at)

  -- the file of a list
  list_file : (n : ℕ) (s : Shape) → structure_of desc n ≡ Some s → is_data_set (Some s) ≡ false → file_in d s ≡ file_in e s
  list_file n s at off =
      let number = number_at desc served.numbered n s at in
      only.still s.number (ap (λ k. is_data_set (structure_of desc k)) number ∙ ap is_data_set at ∙ off)

  -- the file of a data set, before slots were written
  set_file : (n : ℕ) (s : Shape) → structure_of desc n ≡ Some s → is_data_set (Some s) ≡ true → file_in e s ≡ file_in c s
  set_file n s at on =
      let number = number_at desc served.numbered n s at in
      lists.still s.number (ap (λ k. is_listed (structure_of desc k)) number ∙ ap is_listed at ∙ set_unlisted s on)

  lists_after : ListsSpell desc db d
  lists_after = record {
    kept = λ n s at off kept. ap (kept_in (form_of s) (entry_width (kinds_over desc s) s.parts)) (list_file n s at off) ∙ (lists.kept n s at kept).0;
    manual = λ n s at manual. ap (kept_in (form_of s) (entry_width (kinds_over desc s) s.parts)) (list_file n s at (manual_no_set s manual)) ∙ (lists.manual n s at manual).0;
  }

  -- whole blocks, not too many of them
  fits_at : (n : ℕ) (s : Shape) → structure_of desc n ≡ Some s → length (file_in d s) ≤ 1048576 → list_all is_whole (file_in d s) ≡ true → OneFits desc d n
  fits_at n s at few whole =
      let number = number_at desc served.numbered n s at in
      record {
        few = subst (λ m. length (d (file_of m)) ≤ 1048576) number few;
        whole = ap (λ m. list_all is_whole (d (file_of m))) (sym number) ∙ whole;
        none = λ gone. absurd (no_shape s (sym gone ∙ at));
      }

  list_fits : (n : ℕ) (s : Shape) (xs : List (List ℕ)) → structure_of desc n ≡ Some s → is_data_set (Some s) ≡ false → IsListIn desc e s xs → OneFits desc d n
  list_fits n s xs at off list =
      let same = list_file n s at off in
      fits_at n s at (omega (arith, ap length same, list.1)) (ap (list_all is_whole) same ∙ kept_whole (form_of s) (entry_width (kinds_over desc s) s.parts) (file_in e s) xs list.0)

  fits_by : (n : ℕ) → 1 ≤ n → n ≤ 200 → (o : Option Shape) → structure_of desc n ≡ o → OneFits desc d n
  fits_by n low high None at =
      let before = fit n low high in
      let same = untouched n at in
      record { few = omega (arith, ap length same, before.few); whole = ap (list_all is_whole) same ∙ before.whole; none = λ gone. ap has_none same ∙ before.none gone }
  fits_by n low high (Some s) at = by (is_data_set (Some s)) (is_set_or_automatic s) refl refl
    where
      number : s.number ≡ n
      number = number_at desc served.numbered n s at

      by : (a b : Bool) → is_data_set (Some s) ≡ a → is_set_or_automatic s ≡ b → OneFits desc d n
      by true b is kept =
          let before : length (file_in c s) ≤ 1048576 = subst (λ m. length (c (file_of m)) ≤ 1048576) (sym number) (fit n low high).few in
          let middle : length (file_in e s) ≤ 1048576 = omega (arith, before, ap length (set_file n s at is)) in
          fits_at n s at (only.few n s at is middle) (blocks_whole s (file_in d s) (slots.each n s at is).blocks)
      by false true is kept = list_fits n s (entries_of desc db s) at is (lists.kept n s at kept)
      by false false is off =
          let one = served_at desc n s served at in
          list_fits n s (manual_of desc db s) at is (lists.manual n s at (else_manual s one.most one.low is off))

  -- The files are those of the database, where lists and then slots were made so.
  pub stands_after : EntriesStand desc db → StandsFiles desc db own d
  stands_after entries = record { slots = slots; lists = lists_after; fit = λ n low high. fits_by n low high (structure_of desc n) refl; entries = entries }

-- ---- lists as they are seen through an overlay

few_at : (desc : Described) → IsServed desc → (c : Content) (k : ℕ) (s : Shape) → slice_get desc.structures k ≡ Some s → SlotsFit desc c → length (file_in c s) ≤ 1048576
few_at desc served c k s at fit =
    let there = structure_here desc.structures k s at in
    let number = number_at desc served.numbered (suc k) s there in
    let most : suc k ≤ 200 = omega (arith, slice_get_within desc.structures k s at, served.count) in
    (fit s.number (omega (arith, number)) (omega (arith, number, most))).few

module _ {B : Type 0} {g : Ghosts B} (desc : Described) (served : IsServed desc) where
  -- they are those of the database that is spelled,
  pub are_listed : (db : Db) (o : Overlay B g) → IsTrue (under o).told → ListsSpell desc db (overlay_content o) → SlotsFit desc (overlay_content o) → AreListed desc db (seen_list o)
  are_listed db o told lists fit k s at kept =
      told_list (under o).told (form_of s) (entry_width (kinds_over desc s) s.parts) (overlay_content o (file_of s.number)) (entries_of desc db s) told (few_at desc served (overlay_content o) k s at fit)
      (lists.kept (suc k) s (structure_here desc.structures k s at) (kept_no_set s kept) kept)

  -- also those of manual subsets,
  pub are_manual : (db : Db) (set : ℕ) (o : Overlay B g) → IsTrue (under o).told → ListsSpell desc db (overlay_content o) → SlotsFit desc (overlay_content o) → AreManual desc db set (seen_list o)
  are_manual db set o told lists fit k s at own =
      told_list (under o).told (form_of s) (entry_width (kinds_over desc s) s.parts) (overlay_content o (file_of s.number)) (manual_of desc db s) told (few_at desc served (overlay_content o) k s at fit)
      (lists.manual (suc k) s (structure_here desc.structures k s at) (manual_is s own))
    where
      manual_is : (t : Shape) → is_manual_over t set ≡ true → is_manual (Some t) ≡ true
      manual_is t h = grind (arith, nat_tests, h)

  -- and after calls on lists the files have those that are seen.
  pub lists_are : (db : Db) (p : ℕ → Bool) (n : ℕ) (a b : Overlay B g) → IsTrue (under a).told → AreOfLists desc p → Calm p n a b → AreListed desc db (seen_list b) → ((set : ℕ) → AreManual desc db set (seen_list b)) → ListsAre desc db (overlay_content a) (overlay_content b)
  lists_are db p n a b told of calm listed manual = record {
    kept = λ m s at kept. seen_is s (entries_of desc db s) (listed (m - 1) s (structure_there desc.structures m s at) kept);
    manual = λ m s at is. seen_is s (manual_of desc db s) (manual s.set (m - 1) s (structure_there desc.structures m s at) (over_own s is));
    still = λ m off. (calm.others m (of m off)).1 told;
  }
    where
      seen_is : (s : Shape) (xs : List (List ℕ)) → seen_list b s.number (form_of s) (entry_width (kinds_over desc s) s.parts) ≡ Some xs → IsListIn desc (overlay_content b) s xs
      seen_is s xs h =
          let t = told_is (under b).told (form_of s) (entry_width (kinds_over desc s) s.parts) (overlay_content b (file_of s.number)) xs h in
          (t.list, t.few)

      over_own : (t : Shape) → is_manual (Some t) ≡ true → is_manual_over t t.set ≡ true
      over_own t h = grind (arith, nat_tests, h)
