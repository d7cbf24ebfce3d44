-- The files of data sets after the slot of one record has changed or was freed, with what slots count.
use Rattle.std.proofs.Common.{◌≡◌, ◌≢◌, ◌∙◌, ◌+◌, ◌<◌, ◌≤◌, ℕ, zero, suc, max, List, true, false, cond, Some, None, inl, inr, refl, sym, ap, subst, length, arith}
use Rattle.std.specs.List.{list_all}
use Rattle.std.specs.declared.option.Option.{Option}
use Rattle.std.specs.FinMap.{get}
use Rattle.std.specs.Ordering.{eq_by_cmp}
use Rattle.std.proofs.lemmas.Bool.{cases_eq}
use Rattle.std.proofs.lemmas.Option.{same_Some}
use Rattle.dms_block.specs.Content.{Content, with_block}
use Rattle.dms_block.specs.ContentLaws.{in_file, in_others, laid_length}
use Rattle.dms_desc.specs.Lookups.{structure_of}
use Rattle.dms_desc.specs.Shape.{Shape, Described}
use Rattle.dms_layout.specs.declared.slot.Slot.{Slot}
use Rattle.dms_layout.specs.declared.slot.SlotRead.{SlotRead}
use Rattle.dms_layout.specs.declared.slot.SlotRead.TheVariants.{Free, Used, Bad}
use Rattle.dms_layout.specs.ReadLaws.{used_one}
use Rattle.dms_model.specs.Db.{Db, Place, place_cmp}
use Rattle.dms_model.specs.Valid.{is_data_set}
use Rattle.dms_desc.specs.Files.{file_of}
use Rattle.dms_slots.specs.SlotBlocks.{MayPutSlot, block_of, is_block, per_block, slot_at, slot_opt, slot_put}
use Rattle.dms_slots.specs.FileWritten.{all_good, put_blocks, put_other, put_used, some_slot, used_fine}
use Rattle.dms_layout.specs.Slots.{AreKinds, SlotFits, slot_bytes, slot_width}
use Rattle.std.proofs.lemmas.Bool.Decides.{nat_tests}
use Rattle.dms_links.specs.Linking.{number_at}
use Rattle.dms_links.specs.Rows.{AreNumbered, file_in, rec_in, rec_opt}
use Rattle.dms_links.specs.Walked.{HasSlots}
use Rattle.dms_links.specs.Stands.{FileStands, RecordsStand, SlotStands, Tally}

-- One slot of a data set's file is now this one, or free, and all others are as they were. So are all other files.
pub record SlotIs (s : Shape) (number : ℕ) (o : Option Slot) (c d : Content) : Type 0 where
  pub here : slot_at s (d (file_of s.number)) number ≡ slot_opt o
  pub others : (n : ℕ) → 1 ≤ n → n ≢ number → slot_at s (d (file_of s.number)) n ≡ slot_at s (c (file_of s.number)) n
  pub blocks : list_all (is_block s) (d (file_of s.number)) ≡ true
  pub files : (f : ℕ) → f ≢ file_of s.number → d f ≡ c f
  pub few : length (d (file_of s.number)) ≤ max (length (c (file_of s.number))) (block_of s.items number + 1)

opt_used : (o : Option Slot) (x : Slot) → slot_opt o ≡ Used x → o ≡ Some x
opt_used None x h = absurd (cc)
opt_used (Some y) x h = ap (λ (z : Slot). Some z) (used_one y x h)

-- ---- places

same_at : (s n : ℕ) → eq_by_cmp place_cmp (s, n) (s, n) ≡ true
same_at s n = grind (arith, nat_tests)

other_number : (t n s m : ℕ) → n ≢ m → eq_by_cmp place_cmp (t, n) (s, m) ≡ false
other_number t n s m apart = grind (arith, nat_tests)

other_set : (t n s m : ℕ) → t ≢ s → eq_by_cmp place_cmp (t, n) (s, m) ≡ false
other_set t n s m apart = grind (arith, nat_tests)

module _ (desc : Described) (numbered : AreNumbered 1 desc.structures) (db after : Db) (own moved : Tally) (c d : Content) (set number : ℕ) (s : Shape) (o : Option Slot) (at : structure_of desc set ≡ Some s) (is_set : is_data_set (Some s) ≡ true) (low : 1 ≤ number)
    (change : SlotIs s number o c d) (new : (p : Place) → get after.records p ≡ cond (eq_by_cmp place_cmp p (set, number)) (rec_opt (slot_opt o)) (get db.records p))
    (others : (t : Shape) (n : ℕ) (x : Slot) → structure_of desc t.number ≡ Some t → get db.records (t.number, n) ≡ Some x.rec → (t.number ≡ set → n ≡ number → ⊥) → SlotStands desc db own t n x → SlotStands desc after moved t n x)
    (here : (x : Slot) → o ≡ Some x → SlotStands desc after moved s number x) where
  own_shape : (k : ℕ) (t : Shape) → structure_of desc k ≡ Some t → structure_of desc t.number ≡ Some t
  own_shape k t there = ap (structure_of desc) (number_at desc numbered k t there) ∙ there

  -- the record of a slot
  stood : RecordsStand desc db own c → (k : ℕ) (t : Shape) (n : ℕ) (x : Slot) → structure_of desc k ≡ Some t → is_data_set (Some t) ≡ true → 1 ≤ n → slot_at t (file_in c t) n ≡ Used x → get db.records (t.number, n) ≡ Some x.rec
  stood files k t n x there kind one was = files.records t.number n one ∙ ap (λ u. rec_in c u n) (own_shape k t there) ∙ ap (λ b. cond b (rec_opt (slot_at t (file_in c t) n)) None) kind ∙ ap rec_opt was

  its_number : s.number ≡ set
  its_number = number_at desc numbered set s at

  file_here : RecordsStand desc db own c → FileStands desc db own s (file_in c s) → FileStands desc after moved s (file_in d s)
  file_here files file = record {
    blocks = change.blocks;
    slots = λ n x one is. elim (cases_eq n number) [
      | inl same ↦
          let now : slot_opt o ≡ Used x = sym (ap (λ m. slot_at s (file_in d s) m) same ∙ change.here) ∙ is in
          subst (λ m. SlotStands desc after moved s m x) (sym same) (here x (opt_used o x now))
      | inr apart ↦ others s n x (own_shape set s at) (stood files set s n x at is_set one (sym (change.others n one apart) ∙ is)) (λ e f. apart f) (file.slots n x one (sym (change.others n one apart) ∙ is))
    ];
  }

  file_off : (n : ℕ) (t : Shape) → structure_of desc n ≡ Some t → is_data_set (Some t) ≡ true → n ≢ set → RecordsStand desc db own c → FileStands desc db own t (file_in c t) → FileStands desc after moved t (file_in d t)
  file_off n t there kind apart files file =
      let own_number = number_at desc numbered n t there in
      let still : file_in d t ≡ file_in c t = change.files (file_of t.number) (λ e. apart (omega (arith, e, own_number, its_number))) in
      let bs = file_in c t in
      subst (λ (x : List (List ℕ)). FileStands desc after moved t x) (sym still)
      (record { blocks = file.blocks; slots = λ m x one is. others t m x (own_shape n t there) (stood files n t m x there kind one is) (λ e f. apart (omega (arith, e, own_number))) (file.slots m x one is) })

  rec_off : (t n : ℕ) (u : Option Shape) → structure_of desc t ≡ u → t ≢ set → rec_in c u n ≡ rec_in d u n
  rec_off t n None is apart = refl
  rec_off t n (Some u) is apart =
      let own_number = number_at desc numbered t u is in
      let still : file_in d u ≡ file_in c u = change.files (file_of u.number) (λ e. apart (omega (arith, e, own_number, its_number))) in
      ap (λ (bs : List (List ℕ)). cond (is_data_set (Some u)) (rec_opt (slot_at u bs n)) None) (sym still)

  rec_is : (e : Content) (n : ℕ) → rec_in e (structure_of desc set) n ≡ rec_opt (slot_at s (file_in e s) n)
  rec_is e n = ap (λ u. rec_in e u n) at ∙ ap (λ b. cond b (rec_opt (slot_at s (file_in e s) n)) None) is_set

  record_at : (t n : ℕ) → 1 ≤ n → RecordsStand desc db own c → get after.records (t, n) ≡ rec_in d (structure_of desc t) n
  record_at t n one files = elim (cases_eq t set) [
    | inl same ↦ elim (cases_eq n number) [
      | inl number_same ↦
          new (t, n) ∙ ap (λ (p : Place). cond (eq_by_cmp place_cmp p (set, number)) (rec_opt (slot_opt o)) (get db.records (t, n))) (λ i. (same i, number_same i)) ∙ ap (λ b. cond b (rec_opt (slot_opt o)) (get db.records (t, n))) (same_at set number)
          ∙ sym (ap (λ k. rec_in d (structure_of desc k) n) same ∙ rec_is d n ∙ ap (λ m. rec_opt (slot_at s (file_in d s) m)) number_same ∙ ap rec_opt change.here)
      | inr apart ↦
          new (t, n) ∙ ap (λ b. cond b (rec_opt (slot_opt o)) (get db.records (t, n))) (other_number t n set number apart) ∙ files.records t n one
          ∙ ap (λ k. rec_in c (structure_of desc k) n) same ∙ rec_is c n ∙ ap rec_opt (sym (change.others n one apart)) ∙ sym (rec_is d n) ∙ ap (λ k. rec_in d (structure_of desc k) n) (sym same)
    ]
    | inr apart ↦
        new (t, n) ∙ ap (λ b. cond b (rec_opt (slot_opt o)) (get db.records (t, n))) (other_set t n set number apart) ∙ files.records t n one ∙ rec_off t n (structure_of desc t) refl apart
  ]

  same_shape : (n : ℕ) (t : Shape) → structure_of desc n ≡ Some t → n ≡ set → s ≡ t
  same_shape n t there e = same_Some s t (sym at ∙ ap (structure_of desc) (sym e) ∙ there)

  -- The files have the records with that one.
  pub step : RecordsStand desc db own c → RecordsStand desc after moved d
  step files = record {
    each = λ n t there data_set. elim (cases_eq n set) [
      | inl same ↦ subst (λ (x : Shape). FileStands desc after moved x (file_in d x)) (same_shape n t there same) (file_here files (files.each set s at is_set))
      | inr apart ↦ file_off n t there data_set apart files (files.each n t there data_set)
    ];
    records = λ t n one. record_at t n one files;
    none = λ t. new (t, 0) ∙ ap (λ b. cond b (rec_opt (slot_opt o)) (get db.records (t, 0))) (other_number t 0 set number (λ e. omega (arith, e, low))) ∙ files.none t;
  }

-- ---- a slot is written

few_laid : (c : Content) (f b : ℕ) (x : List ℕ) → b ≤ length (c f) → length (with_block c f b x f) ≤ max (length (c f)) (b + 1)
few_laid c f b x le = omega (arith, ap length (in_file c f b x), laid_length b x (c f) le)

module _ (s : Shape) (number : ℕ) (c : Content) (sized : HasSlots s) (low : 1 ≤ number) (next : block_of s.items number ≤ length (c (file_of s.number))) (all : list_all (is_block s) (c (file_of s.number)) ≡ true) where
  some : 0 < per_block s.items
  some = some_slot (slot_width s.items) sized.fits (omega arith)

  may : MayPutSlot s c number
  may = record { fits = sized.fits; low = low; next = next; sound = all_good s (c (file_of s.number)) number some all }

  -- A slot that is written changes so,
  pub slot_written : (slot : Slot) → AreKinds s.items → SlotFits s slot → SlotIs s number (Some slot) c (slot_put s number (slot_bytes s.items slot) c)
  slot_written slot kinds fits =
      let fine = used_fine s slot kinds fits in
      record {
        here = put_used s c number slot kinds fits may;
        others = λ n one apart. put_other s c number (slot_bytes s.items slot) may fine n one apart;
        blocks = put_blocks s c number (slot_bytes s.items slot) may fine all;
        files = λ f apart. in_others c (file_of s.number) (block_of s.items number) _ f apart;
        few = few_laid c (file_of s.number) (block_of s.items number) _ next;
      }
