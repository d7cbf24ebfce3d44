-- The files of a database while its lists and slots change one after another: whole blocks, not too many of them, and the rest as it was.
use Rattle.std.proofs.Common.{◌≡◌, ◌≢◌, ◌∙◌, ◌+◌, ◌-◌, ◌<◌, ◌≤◌, ℕ, zero, suc, List, [], ◌∷◌, Bool, true, false, IsTrue, cond, Some, None, inl, inr, refl, sym, ap, subst, length, slice_get, arith}
use Rattle.std.specs.Prelude.{◌&&◌, ◌||◌, ◌==◌, nat_lt}
use Rattle.std.specs.List.{list_all}
use Rattle.std.specs.declared.option.Option.{Option}
use Rattle.std.proofs.Math.Nat as nat
use Rattle.std.proofs.lemmas.Bool.{and_parts, cases_eq}
use Rattle.std.proofs.lemmas.Bool.Decides.{nat_tests}
use Rattle.std.proofs.lemmas.Option.{same_Some, slice_get_within}
use Rattle.dms_block.specs.Content.{Content}
use Rattle.dms_block.specs.View.{overlay_content, under}
use Rattle.dms_block.specs.declared.blocks.Blocks.{Ghosts}
use Rattle.dms_block.specs.declared.overlay.Overlay.{Overlay}
use Rattle.dms_desc.specs.Files.{file_of}
use Rattle.dms_desc.specs.Kinds.{is_set_or_automatic}
use Rattle.dms_desc.specs.Lookups.{structure_of}
use Rattle.dms_desc.specs.Shape.{Shape, Described}
use Rattle.dms_layout.specs.declared.slot.Slot.{Slot}
use Rattle.dms_links.specs.Altered.{IsAltered}
use Rattle.dms_links.specs.AlteringIn.{AltersIn, HasSlot, slot_most, slot_set}
use Rattle.dms_links.specs.Linking.{number_at, structure_here}
use Rattle.dms_links.specs.Rows.{AreNumbered, file_in}
use Rattle.dms_links.specs.Stands.{RecordsStand, Tally}
use Rattle.dms_links.specs.Stepping.{AltersSteps, AreSlotFiles, SlotStep, slot_is}
use Rattle.dms_links.specs.Steps.{SlotIs}
use Rattle.dms_links.specs.declared.altering.SlotChange.{SlotChange}
use Rattle.dms_lists.specs.Forms.{form_of, kept_in}
use Rattle.dms_manual.specs.Entered.{manual_of}
use Rattle.dms_manual.specs.Naming.{AreManual, has_manual, is_manual_over}
use Rattle.dms_model.specs.Db.{Db}
use Rattle.dms_model.specs.Valid.{is_data_set, is_manual}
use Rattle.dms_sets.specs.Changes.{has_number, is_over, list_of_set}
use Rattle.dms_sets.specs.Keeping.{Calm, seen_list}
use Rattle.dms_sets.specs.KeepingLaws.{told_is, told_list}
use Rattle.dms_sets.specs.Padded.{entry_width}
use Rattle.dms_sets.specs.Sets.{entries_of, kinds_over}
use Rattle.dms_sets.specs.Told.{AreListed}
use Rattle.dms_slots.specs.SlotBlocks.{block_of, is_block, per_block}
use Rattle.dms_spelling.specs.Holds.{have_slots, manual_kind}
use Rattle.dms_spelling.specs.Serving.{IsServed}
use Rattle.dms_spelling.specs.ServingLaws.{served_at, structure_there}
use Rattle.dms_spelling.specs.Spelled.{has_none, is_whole, list_at}
use Rattle.dms_spelling.specs.Stands.{EntriesStand, ListsSpell, OneFits, SlotsFit, StandsFiles}
use Rattle.dms_spelling.specs.TreeWhole.{kept_whole}
use Rattle.dms_spelling.specs.Whole.{blocks_whole}

-- ---- kinds of structures

-- a data set is no set or subset
pub no_kept : (s : Shape) → is_data_set (Some s) ≡ true → is_set_or_automatic s ≡ false
no_kept s h =
    let low : nat_lt s.kind 3 ≡ true = (and_parts (nat_lt 0 s.kind) (nat_lt s.kind 3) h).1 in
    let off : nat_lt 2 s.kind ≡ false = grind (arith, nat_tests, low) in
    ap (λ b. b && nat_lt s.kind 5) off

pub no_manual : (s : Shape) → is_data_set (Some s) ≡ true → is_manual (Some s) ≡ false
no_manual s h =
    let low : nat_lt s.kind 3 ≡ true = (and_parts (nat_lt 0 s.kind) (nat_lt s.kind 3) h).1 in
    grind (arith, nat_tests, low)

and_off : (b : Bool) → (b && false) ≡ false
and_off true = refl
and_off false = refl

pub no_set : (s : Shape) → is_set_or_automatic s ≡ true → is_data_set (Some s) ≡ false
no_set s h =
    let high : nat_lt 2 s.kind ≡ true = (and_parts (nat_lt 2 s.kind) (nat_lt s.kind 5) h).0 in
    let off : nat_lt s.kind 3 ≡ false = grind (arith, nat_tests, high) in
    ap (λ b. nat_lt 0 s.kind && b) off ∙ and_off (nat_lt 0 s.kind)

pub manual_no_set : (s : Shape) → is_manual (Some s) ≡ true → is_data_set (Some s) ≡ false
manual_no_set s h =
    let five : s.kind ≡ 5 = grind (arith, nat_tests, h) in
    ap (λ k. nat_lt 0 k && nat_lt k 3) five

-- a structure is one of the three
pub no_fourth : (desc : Described) (n : ℕ) (s : Shape) → IsServed desc → structure_of desc n ≡ Some s → is_data_set (Some s) ≡ false → is_set_or_automatic s ≡ false → is_manual (Some s) ≡ false → ⊥
no_fourth desc n s served at x y z = let k = served_at desc n s served at in grind (arith, nat_tests, k.low, k.most, x, y, z)

-- ---- what has the number of a data set, or of no structure, is no list

-- there is no such structure, or it is a data set
abbrev pub IsNoList : Described → ℕ → Type 0
IsNoList desc n = (t : Shape) → structure_of desc n ≡ Some t → is_data_set (Some t) ≡ true

pub set_no_list : (desc : Described) (n : ℕ) (s : Shape) → structure_of desc n ≡ Some s → is_data_set (Some s) ≡ true → IsNoList desc n
set_no_list desc n s at is_set t there = subst (λ (x : Shape). is_data_set (Some x) ≡ true) (same_Some s t (sym at ∙ there)) is_set

pub none_no_list : (desc : Described) (n : ℕ) → structure_of desc n ≡ None → IsNoList desc n
none_no_list desc n none t there = absurd (nothing t (sym none ∙ there))
  where
    nothing : (x : Shape) → ◌≡◌ {A = Option Shape} None (Some x) → ⊥
    nothing x h = absurd (cc h)

apart_bool : true ≡ false → ⊥
apart_bool h = absurd (cc h)

-- where no structure with this number is so, none of the description is
module _ (desc : Described) (served : IsServed desc) (p : Shape → Bool) (n : ℕ) (off : (t : Shape) → structure_of desc n ≡ Some t → p t ≡ false) where
  here_off : (k : ℕ) (s : Shape) → slice_get desc.structures k ≡ Some s → (n == s.number) ≡ true → p s ≡ false
  here_off k s at is =
      let there = structure_here desc.structures k s at in
      let same : n ≡ suc k = number_same n s.number is ∙ number_at desc served.numbered (suc k) s there in
      off s (ap (structure_of desc) same ∙ there)
    where
      number_same : (a b : ℕ) → (a == b) ≡ true → a ≡ b
      number_same a b h = grind (arith, nat_tests, h)

  one_off : (k : ℕ) (s : Shape) → slice_get desc.structures k ≡ Some s → (p s && (n == s.number)) ≡ false
  one_off k s at = by (n == s.number) refl
    where
      by : (b : Bool) → (n == s.number) ≡ b → (p s && b) ≡ false
      by true is = ap (λ x. x && true) (here_off k s at is)
      by false is = and_off (p s)

  pub none_of : (q : List Shape → Bool) → (q [] ≡ false) → ((s : Shape) (ss : List Shape) → q (s ∷ ss) ≡ ((p s && (n == s.number)) || q ss)) → q desc.structures ≡ false
  none_of q empty more = from 0 desc.structures (λ i s at. ap (slice_get desc.structures) (let e : 0 + i ≡ i = omega arith in e) ∙ at)
    where
      from : (k : ℕ) (ss : List Shape) → ((i : ℕ) (s : Shape) → slice_get ss i ≡ Some s → slice_get desc.structures (k + i) ≡ Some s) → q ss ≡ false
      from k [] there = empty
      from k (s ∷ ss) there =
          more s ss
          ∙ (λ i. one_off (k + 0) s (there 0 s refl) i || from (k + 1) ss (λ j t at. ap (slice_get desc.structures) (let e : (k + 1) + j ≡ k + suc j = omega arith in e) ∙ there (suc j) t at) i)

-- It isn't that of a set over a data set,
pub over_off : (desc : Described) → IsServed desc → (set n : ℕ) → ((t : Shape) → structure_of desc n ≡ Some t → is_over t set ≡ false) → has_number desc.structures set n ≡ false
over_off desc served set n off = none_of desc served (λ t. is_over t set) n off (λ ss. has_number ss set n) refl (λ s ss. refl)

-- nor that of a manual subset over it.
pub manual_off : (desc : Described) → IsServed desc → (set n : ℕ) → ((t : Shape) → structure_of desc n ≡ Some t → is_manual_over t set ≡ false) → has_manual desc.structures set n ≡ false
manual_off desc served set n off = none_of desc served (λ t. is_manual_over t set) n off (λ ss. has_manual ss set n) refl (λ s ss. refl)

pub not_over : (desc : Described) → IsServed desc → (set n : ℕ) → IsNoList desc n → has_number desc.structures set n ≡ false
not_over desc served set n none = over_off desc served set n (λ t at. ap (λ b. b && (t.set == set)) (no_kept t (none t at)))

pub not_manual : (desc : Described) → IsServed desc → (set n : ℕ) → IsNoList desc n → has_manual desc.structures set n ≡ false
not_manual desc served set n none = manual_off desc served set n (λ t at. ap (λ b. b && (t.set == set)) (no_manual t (none t at)))

-- ---- lists that are seen

module _ {B : Type 0} {g : Ghosts B} (desc : Described) (served : IsServed desc) where
  few_at : (o : Overlay B g) → SlotsFit desc (overlay_content o) → (k : ℕ) (s : Shape) → slice_get desc.structures k ≡ Some s → length (overlay_content o (file_of s.number)) ≤ 1048576
  few_at o fit k s at =
      let number = number_at desc served.numbered (suc k) s (structure_here desc.structures k s at) in
      let low : suc k ≤ 200 = omega (arith, slice_get_within desc.structures k s at, served.count) in
      (fit s.number (omega (arith, number)) (omega (arith, number, low))).few

  -- The lists of the sets and automatic subsets that are seen are those of the database,
  pub are_listed : (db : Db) (o : Overlay B g) → IsTrue (under o).told → ListsSpell desc db (overlay_content o) → SlotsFit desc (overlay_content o) → AreListed desc db (seen_list o)
  are_listed db o told lists fit k s at kept =
      told_list (under o).told (form_of s) (entry_width (kinds_over desc s) s.parts) (overlay_content o (file_of s.number)) (entries_of desc db s) told (few_at o fit k s at)
      (lists.kept (suc k) s (structure_here desc.structures k s at) (no_set s kept) kept)

  -- and so are those of the manual subsets.
  pub all_manual : (db : Db) (o : Overlay B g) → IsTrue (under o).told → ListsSpell desc db (overlay_content o) → SlotsFit desc (overlay_content o) → (k : ℕ) (s : Shape) → slice_get desc.structures k ≡ Some s → is_manual (Some s) ≡ true
      → list_of_set (seen_list o) (kinds_over desc s) s ≡ Some (manual_of desc db s)
  all_manual db o told lists fit k s at manual =
      told_list (under o).told (form_of s) (entry_width (kinds_over desc s) s.parts) (overlay_content o (file_of s.number)) (manual_of desc db s) told (few_at o fit k s at)
      (lists.manual (suc k) s (structure_here desc.structures k s at) manual)

  pub are_manual : (db : Db) (set : ℕ) (o : Overlay B g) → IsTrue (under o).told → ListsSpell desc db (overlay_content o) → SlotsFit desc (overlay_content o) → AreManual desc db set (seen_list o)
  are_manual db set o told lists fit k s at own = all_manual db o told lists fit k s at (manual_kind s set own)

  -- A list that is seen is that of the file, which isn't too long.
  pub seen_there : (o : Overlay B g) (s : Shape) (xs : List (List ℕ)) → list_of_set (seen_list o) (kinds_over desc s) s ≡ Some xs → (list_at desc (overlay_content o) s ≡ Some xs) × (length (file_in (overlay_content o) s) ≤ 1048576)
  seen_there o s xs at =
      let t = told_is (under o).told (form_of s) (entry_width (kinds_over desc s) s.parts) (overlay_content o (file_of s.number)) xs at in
      (t.list, t.few)

-- ---- files that have grown

-- No file has too many blocks, those of data sets are blocks of slots, and there is nothing else that wasn't there.
pub record FilesGrown (desc : Described) (c d : Content) : Type 0 where
  pub few : (n : ℕ) (s : Shape) → structure_of desc n ≡ Some s → length (file_in d s) ≤ 1048576
  pub slots : (n : ℕ) (s : Shape) → structure_of desc n ≡ Some s → is_data_set (Some s) ≡ true → list_all (is_block s) (file_in d s) ≡ true
  pub none : (n : ℕ) → structure_of desc n ≡ None → d (file_of n) ≡ c (file_of n)

module _ (desc : Described) (served : IsServed desc) where
  low_at : (n : ℕ) (s : Shape) → structure_of desc n ≡ Some s → 1 ≤ n
  low_at zero s at = absurd (cc at)
  low_at (suc n) s at = omega arith

  high_at : (n : ℕ) (s : Shape) → structure_of desc n ≡ Some s → n ≤ 200
  high_at n s at = omega (arith, slice_get_within desc.structures (n - 1) s (structure_there desc.structures n s at), served.count, low_at n s at)

  -- those of a database,
  pub grown_start : (db : Db) (own : Tally) (c : Content) → RecordsStand desc db own c → SlotsFit desc c → FilesGrown desc c c
  grown_start db own c slots fit = record {
    few = λ n s at. (let e = number_at desc served.numbered n s at in let was = (fit n (low_at n s at) (high_at n s at)).few in omega (arith, ap (λ k. length (c (file_of k))) e, was));
    slots = λ n s at is_set. (slots.each n s at is_set).blocks;
    none = λ n gone. refl;
  }

  -- after one slot has changed,
  pub grown_slot : (a c d : Content) (set number : ℕ) (s : Shape) (o : Option Slot) → structure_of desc set ≡ Some s → number ≤ s.population → SlotIs s number o c d → FilesGrown desc a c → FilesGrown desc a d
  grown_slot a c d set number s o at most change g = record {
    few = λ n t there. few_of n t there;
    slots = λ n t there is_set. slots_of n t there is_set;
    none = λ n gone. change.files (file_of n) (λ e. absurd (nothing s (sym gone ∙ ap (structure_of desc) (omega (arith, e, mine)) ∙ at))) ∙ g.none n gone;
  }
    where
      mine : s.number ≡ set
      mine = number_at desc served.numbered set s at

      nothing : (x : Shape) → ◌≡◌ {A = Option Shape} None (Some x) → ⊥
      nothing x h = absurd (cc h)

      low_block : block_of s.items number + 1 ≤ 1048576
      low_block =
          let p = (served_at desc set s served at).population in
          omega (arith, nat.div-le_self (number - 1) (per_block s.items), most, p)

      same_shape : (n : ℕ) (t : Shape) → structure_of desc n ≡ Some t → n ≡ set → s ≡ t
      same_shape n t there e = same_Some s t (sym at ∙ ap (structure_of desc) (sym e) ∙ there)

      still : (n : ℕ) (t : Shape) → structure_of desc n ≡ Some t → n ≢ set → file_in d t ≡ file_in c t
      still n t there apart = change.files (file_of t.number) (λ e. apart (omega (arith, e, number_at desc served.numbered n t there, mine)))

      few_here : length (file_in d s) ≤ 1048576
      few_here = omega (arith, change.few, low_block, g.few set s at)

      few_of : (n : ℕ) (t : Shape) → structure_of desc n ≡ Some t → length (file_in d t) ≤ 1048576
      few_of n t there = elim (cases_eq n set) [
        | inl same ↦ subst (λ (x : Shape). length (file_in d x) ≤ 1048576) (same_shape n t there same) few_here
        | inr apart ↦ omega (arith, ap length (still n t there apart), g.few n t there)
      ]

      slots_of : (n : ℕ) (t : Shape) → structure_of desc n ≡ Some t → is_data_set (Some t) ≡ true → list_all (is_block t) (file_in d t) ≡ true
      slots_of n t there is_set = elim (cases_eq n set) [
        | inl same ↦ subst (λ (x : Shape). list_all (is_block x) (file_in d x) ≡ true) (same_shape n t there same) change.blocks
        | inr apart ↦ ap (list_all (is_block t)) (still n t there apart) ∙ g.slots n t there is_set
      ]

  -- and after lists have changed
  pub grown_lists : (a c d : Content) → ((n : ℕ) → IsNoList desc n → d (file_of n) ≡ c (file_of n)) → ((n : ℕ) (s : Shape) → structure_of desc n ≡ Some s → is_data_set (Some s) ≡ false → length (file_in d s) ≤ 1048576) → FilesGrown desc a c → FilesGrown desc a d
  grown_lists a c d still few g = record {
    few = λ n s at. by n s at (is_data_set (Some s)) refl;
    slots = λ n s at is_set. ap (list_all (is_block s)) (file_still n s at is_set) ∙ g.slots n s at is_set;
    none = λ n gone. still n (none_no_list desc n gone) ∙ g.none n gone;
  }
    where
      file_still : (n : ℕ) (s : Shape) → structure_of desc n ≡ Some s → is_data_set (Some s) ≡ true → file_in d s ≡ file_in c s
      file_still n s at is_set =
          let mine = number_at desc served.numbered n s at in
          ap (λ k. d (file_of k)) mine ∙ still n (set_no_list desc n s at is_set) ∙ ap (λ k. c (file_of k)) (sym mine)

      by : (n : ℕ) (s : Shape) → structure_of desc n ≡ Some s → (b : Bool) → is_data_set (Some s) ≡ b → length (file_in d s) ≤ 1048576
      by n s at true is = omega (arith, ap length (file_still n s at is), g.few n s at)
      by n s at false is = few n s at is

  whole_of : (db : Db) (d : Content) → ListsSpell desc db d → (n : ℕ) (s : Shape) → structure_of desc n ≡ Some s → (is_data_set (Some s) ≡ true → list_all (is_block s) (file_in d s) ≡ true) → list_all is_whole (file_in d s) ≡ true
  whole_of db d lists n s at slots = by (is_data_set (Some s)) (is_set_or_automatic s) (is_manual (Some s)) refl refl refl
    where
      by : (x y z : Bool) → is_data_set (Some s) ≡ x → is_set_or_automatic s ≡ y → is_manual (Some s) ≡ z → list_all is_whole (file_in d s) ≡ true
      by true y z is kept manual = blocks_whole s (file_in d s) (slots is)
      by false true z is kept manual = kept_whole (form_of s) (entry_width (kinds_over desc s) s.parts) (file_in d s) (entries_of desc db s) (lists.kept n s at is kept)
      by false false true is kept manual = kept_whole (form_of s) (entry_width (kinds_over desc s) s.parts) (file_in d s) (manual_of desc db s) (lists.manual n s at manual)
      by false false false is kept manual = absurd (no_fourth desc n s served at is kept manual)

  -- Files that have grown so, and are lists, are whole blocks, and not too many.
  pub fits_grown : (db : Db) (c d : Content) → SlotsFit desc c → ListsSpell desc db d → FilesGrown desc c d → SlotsFit desc d
  fits_grown db c d fit lists g n low most = by (structure_of desc n) refl
    where
      nothing : {s : Shape} → ◌≡◌ {A = Option Shape} (Some s) None → ⊥
      nothing h = absurd (cc h)

      by : (o : Option Shape) → structure_of desc n ≡ o → OneFits desc d n
      by None gone =
          let same = g.none n gone in
          let was = fit n low most in
          record { few = omega (arith, ap length same, was.few); whole = ap (list_all is_whole) same ∙ was.whole; none = λ h. ap has_none same ∙ was.none h }
      by (Some s) at =
          let mine = number_at desc served.numbered n s at in
          record {
            few = omega (arith, ap (λ k. length (d (file_of k))) mine, g.few n s at);
            whole = ap (λ k. list_all is_whole (d (file_of k))) (sym mine) ∙ whole_of db d lists n s at (g.slots n s at);
            none = λ h. absurd (nothing (sym at ∙ h));
          }

  -- So the files are those of a database.
  pub stands_grown : (db : Db) (own : Tally) (c d : Content) → SlotsFit desc c → RecordsStand desc db own d → ListsSpell desc db d → FilesGrown desc c d → EntriesStand desc db → StandsFiles desc db own d
  stands_grown db own c d fit slots lists g entries = record { slots = slots; lists = lists; fit = fits_grown db c d fit lists g; entries = entries }

-- ---- one slot altered

module _ (desc : Described) (served : IsServed desc) where
  slots_are : (a c : Content) → FilesGrown desc a c → AreSlotFiles desc c
  slots_are a c g = record { have = have_slots desc served; each = g.slots }

  -- Where one slot has changed the lists are as they were.
  pub lists_slot : (db : Db) (c d : Content) (set number : ℕ) (s : Shape) (o : Option Slot) → structure_of desc set ≡ Some s → is_data_set (Some s) ≡ true → SlotIs s number o c d → ListsSpell desc db c → ListsSpell desc db d
  lists_slot db c d set number s o at is_set change lists = record {
    kept = λ n t there off kept. ap (kept_in (form_of t) (entry_width (kinds_over desc t) t.parts)) (still n t there off) ∙ lists.kept n t there off kept;
    manual = λ n t there manual. ap (kept_in (form_of t) (entry_width (kinds_over desc t) t.parts)) (still n t there (manual_no_set t manual)) ∙ lists.manual n t there manual;
  }
    where
      still : (n : ℕ) (t : Shape) → structure_of desc n ≡ Some t → is_data_set (Some t) ≡ false → file_in d t ≡ file_in c t
      still n t there off =
          change.files (file_of t.number) (λ e.
          let same : n ≡ set = omega (arith, e, number_at desc served.numbered n t there, number_at desc served.numbered set s at) in
          apart_bool (sym (ap (λ (x : Shape). is_data_set (Some x)) (same_Some t s (sym there ∙ ap (structure_of desc) same ∙ at)) ∙ is_set) ∙ off))

  module _ (a c d : Content) (set number : ℕ) (change : SlotChange) (g : FilesGrown desc a c) where
    -- the slot that was altered
    altered_at : (x : HasSlot desc set number) → IsAltered x.0 number change c d → (slot : Slot) × SlotIs x.0 number (Some slot) c d
    altered_at x is = (is.next, slot_is desc set number change c d (slots_are a c g) x.0 x.1 x.2 is)

    pub grown_altered : (done : Bool) → AltersIn desc set number change c d done → FilesGrown desc a d
    grown_altered false h = subst (FilesGrown desc a) (sym (h.none refl)) g
    grown_altered true h =
        let x = h.some refl in
        let y = altered_at x (h.here x.0 x.1 x.2) in
        grown_slot desc served a c d set number x.0 (Some y.0) x.1 (slot_most x.0 number x.2) y.1 g

    pub lists_altered : (db : Db) (done : Bool) → AltersIn desc set number change c d done → ListsSpell desc db c → ListsSpell desc db d
    lists_altered db false h lists = subst (ListsSpell desc db) (sym (h.none refl)) lists
    lists_altered db true h lists =
        let x = h.some refl in
        let y = altered_at x (h.here x.0 x.1 x.2) in
        lists_slot db c d set number x.0 (Some y.0) x.1 (slot_set x.0 number x.2) y.1 lists

  -- Files of which one slot was altered are those of a database whose records the slots have then.
  pub stands_altered : (db : Db) (own next : Tally) (c d : Content) (set number : ℕ) (change : SlotChange) (done : Bool) → StandsFiles desc db own c → AltersIn desc set number change c d done → RecordsStand desc db next d → StandsFiles desc db next d
  stands_altered db own next c d set number change done files h slots =
      let g = grown_start desc served db own c files.slots files.fit in
      stands_grown desc served db next c d files.fit slots (lists_altered c c d set number change g db done h files.lists) (grown_altered c c d set number change g done h) files.entries

  -- the same of slots that are altered one after another
  pub grown_steps : (a : Content) (xs : List SlotStep) (done : Bool) (c d : Content) → AltersSteps desc xs done c d → FilesGrown desc a c → FilesGrown desc a d
  grown_steps a [] done c d h g = subst (FilesGrown desc a) (sym h.1) g
  grown_steps a (x ∷ xs) done c d (e, true, is, h) g = grown_steps a xs done e d h (grown_altered a c e x.set x.number x.change g true is)
  grown_steps a (x ∷ xs) done c d (e, false, is, h) g = subst (FilesGrown desc a) (sym h.1) (grown_altered a c e x.set x.number x.change g false is)

  pub lists_steps : (a : Content) (db : Db) (xs : List SlotStep) (done : Bool) (c d : Content) → AltersSteps desc xs done c d → FilesGrown desc a c → ListsSpell desc db c → ListsSpell desc db d
  lists_steps a db [] done c d h g lists = subst (ListsSpell desc db) (sym h.1) lists
  lists_steps a db (x ∷ xs) done c d (e, true, is, h) g lists =
      lists_steps a db xs done e d h (grown_altered a c e x.set x.number x.change g true is) (lists_altered a c e x.set x.number x.change g db true is lists)
  lists_steps a db (x ∷ xs) done c d (e, false, is, h) g lists = subst (ListsSpell desc db) (sym h.1) (lists_altered a c e x.set x.number x.change g db false is lists)
