-- Slots that are altered one after another, and the files of data sets meanwhile.
use Rattle.std.proofs.Common.{◌≡◌, ◌≢◌, ◌∙◌, ◌<◌, ◌≤◌, ℕ, zero, suc, List, [], ◌∷◌, ◌++◌, Bool, true, false, IsTrue, Some, inl, inr, refl, sym, ap, subst, length, get_or, arith}
use Rattle.std.specs.List.{list_all}
use Rattle.std.proofs.lemmas.Bool.{and_parts, cases_eq}
use Rattle.std.proofs.lemmas.Option.{same_Some}
use Rattle.dms_block.specs.Content.{Content}
use Rattle.dms_block.specs.Held.{Held}
use Rattle.dms_block.specs.View.{overlay_content, under}
use Rattle.dms_block.specs.declared.blocks.Blocks.{Ghosts}
use Rattle.dms_block.specs.declared.overlay.Overlay.{Overlay}
use Rattle.dms_desc.specs.Files.{file_of}
use Rattle.dms_desc.specs.Lookups.{structure_of}
use Rattle.dms_desc.specs.Shape.{Shape, Described}
use Rattle.dms_layout.specs.Slots.{AreKinds}
use Rattle.dms_layout.specs.declared.slot.Slot.{Slot}
use Rattle.dms_model.specs.Valid.{is_data_set}
use Rattle.dms_slots.specs.SlotBlocks.{is_block}
use Rattle.dms_links.specs.Altered.{Alters, IsAltered}
use Rattle.dms_links.specs.AlteringIn.{AltersIn, BadOf, HoldsSet, is_slot, slot_low, slot_set}
use Rattle.dms_links.specs.Linking.{has_link_into, number_at, number_here}
use Rattle.dms_links.specs.Rows.{AreNumbered, file_in}
use Rattle.dms_links.specs.Steps.{SlotIs, slot_written}
use Rattle.dms_links.specs.Walked.{BadWalk, HasSlots}
use Rattle.dms_links.specs.declared.altering.SlotChange.{SlotChange}

-- ---- definitions

-- one slot that is to change
pub record SlotStep : Type 0 where
  pub set : ℕ
  pub number : ℕ
  pub change : SlotChange

-- one thing where this is so, another where not
abbrev pub EitherWay : Bool → Type 0 → Type 0 → Type 0
EitherWay true P Q = P
EitherWay false P Q = Q

-- These slots are altered one after another. Where one of them isn't, it ends there, and the answer is false.
abbrev pub AltersSteps : Described → List SlotStep → Bool → Content → Content → Type 0
AltersSteps desc [] done c d = (done ≡ true) × (d ≡ c)
AltersSteps desc (x ∷ xs) done c d =
    (e : Content) × (b : Bool) × AltersIn desc x.set x.number x.change c e b × EitherWay b (AltersSteps desc xs done e d) ((done ≡ false) × (d ≡ e))

-- the files of all structures may be written, and their slots fit a block
abbrev pub HoldsSets : Described → Held → Type 0
HoldsSets desc h = (set : ℕ) → HoldsSet desc set h

-- structures are numbered in their order, and the slots of a data set fit a block and are of items that a slot can have
pub record HaveSlotFiles (desc : Described) : Type 0 where
  pub numbered : AreNumbered 1 desc.structures
  pub sized : (set : ℕ) (s : Shape) → structure_of desc set ≡ Some s → HasSlots s
  pub kinds : (set : ℕ) (s : Shape) → structure_of desc set ≡ Some s → AreKinds s.items

-- the file of each data set is blocks of slots
pub record AreSlotFiles (desc : Described) (c : Content) : Type 0 where
  pub have : HaveSlotFiles desc
  pub each : (set : ℕ) (s : Shape) → structure_of desc set ≡ Some s → is_data_set (Some s) ≡ true → list_all (is_block s) (file_in c s) ≡ true

-- ---- one step after another

pub steps_one : (desc : Described) (x : SlotStep) (done : Bool) (c d : Content) → AltersIn desc x.set x.number x.change c d done → AltersSteps desc (x ∷ []) done c d
steps_one desc x true c d h = (d, true, h, (refl, refl))
steps_one desc x false c d h = (d, false, h, (refl, refl))

not_both : false ≡ true → ⊥
not_both h = absurd (cc)

pub steps_on : (desc : Described) (xs ys : List SlotStep) (done : Bool) (c e d : Content) → AltersSteps desc xs true c e → AltersSteps desc ys done e d → AltersSteps desc (xs ++ ys) done c d
steps_on desc [] ys done c e d h more = subst (λ (z : Content). AltersSteps desc ys done z d) h.1 more
steps_on desc (x ∷ xs) ys done c e d (k, true, a, h) more = (k, true, a, steps_on desc xs ys done k e d h more)
steps_on desc (x ∷ xs) ys done c e d (k, false, a, h) more = absurd (not_both (sym h.0))

pub steps_off : (desc : Described) (xs ys : List SlotStep) (c d : Content) → AltersSteps desc xs false c d → AltersSteps desc (xs ++ ys) false c d
steps_off desc [] ys c d h = absurd (not_both h.0)
steps_off desc (x ∷ xs) ys c d (k, true, a, h) = (k, true, a, steps_off desc xs ys k d h)
steps_off desc (x ∷ xs) ys c d (k, false, a, h) = (k, false, a, h)

-- ---- blocks of slots stay so

module _ (desc : Described) (set number : ℕ) (change : SlotChange) (c d : Content) (files : AreSlotFiles desc c) where
  -- the slot that an answer true altered is this one, and all others are as they were
  pub slot_is : (s : Shape) → structure_of desc set ≡ Some s → is_slot s number ≡ true → (a : IsAltered s number change c d) → SlotIs s number (Some a.next) c d
  slot_is s at one a =
      subst (λ (e : Content). SlotIs s number (Some a.next) c e) (sym a.is)
      (slot_written s number c (files.have.sized set s at) (slot_low s number one) a.there (files.each set s at (slot_set s number one)) a.next (files.have.kinds set s at) a.fits)

  still_slots : (s : Shape) (x : Slot) → structure_of desc set ≡ Some s → SlotIs s number (Some x) c d → AreSlotFiles desc d
  still_slots s x at is = record {
    have = files.have;
    each = λ n t there kind. elim (cases_eq n set) [
      | inl same ↦ subst (λ (y : Shape). list_all (is_block y) (file_in d y) ≡ true) (same_Some s t (sym at ∙ ap (structure_of desc) (sym same) ∙ there)) is.blocks
      | inr apart ↦
          let mine = number_at desc files.have.numbered set s at in
          let its = number_at desc files.have.numbered n t there in
          ap (list_all (is_block t)) (is.files (file_of t.number) (λ e. apart (omega (arith, e, mine, its)))) ∙ files.each n t there kind
    ];
  }

  by_answer : (done : Bool) → AltersIn desc set number change c d done → AreSlotFiles desc d
  by_answer false h = subst (AreSlotFiles desc) (sym (h.none refl)) files
  by_answer true h =
      let x = h.some refl in
      let a = h.here x.0 x.1 x.2 in
      still_slots x.0 a.next x.1 (slot_is x.0 x.1 x.2 a)

pub altered_files : (desc : Described) (set number : ℕ) (change : SlotChange) (c d : Content) (done : Bool) → AltersIn desc set number change c d done → AreSlotFiles desc c → AreSlotFiles desc d
altered_files desc set number change c d done h files = by_answer desc set number change c d files done h

pub steps_files : (desc : Described) (xs : List SlotStep) (done : Bool) (c d : Content) → AltersSteps desc xs done c d → AreSlotFiles desc c → AreSlotFiles desc d
steps_files desc [] done c d h files = subst (AreSlotFiles desc) (sym h.1) files
steps_files desc (x ∷ xs) done c d (e, true, a, h) files = steps_files desc xs done e d h (altered_files desc x.set x.number x.change c e true a files)
steps_files desc (x ∷ xs) done c d (e, false, a, h) files = subst (AreSlotFiles desc) (sym h.1) (altered_files desc x.set x.number x.change c e false a files)

-- ---- none of them is found bad

all_of : (p : List ℕ → Bool) (bs : List (List ℕ)) (b : ℕ) → list_all p bs ≡ true → b < length bs → p (get_or bs b []) ≡ true
all_of p [] b all low = absurd (omega (arith, low))
all_of p (x ∷ bs) zero all low = (and_parts (p x) (list_all p bs) all).0
all_of p (x ∷ bs) (suc b) all low = all_of p bs b (and_parts (p x) (list_all p bs) all).1 (omega (arith, low))

pub none_bad_of : {B : Type 0} {g : Ghosts B} (desc : Described) (o : Overlay B g) (set : ℕ) → IsTrue (under o).told → AreSlotFiles desc (overlay_content o) → (f b : ℕ) → BadOf desc set o f b → ⊥
none_bad_of desc o set told files f b (s, at, kind, bad) =
    let here = bad.0.1 told in
    absurd (cc (all_of (is_block s) (overlay_content o (file_of s.number)) b (files.each set s at kind) here.0, here.1))

-- nor by a walk
pub none_bad_walk : {B : Type 0} {g : Ghosts B} (desc : Described) (o : Overlay B g) (to : ℕ) → IsTrue (under o).told → AreSlotFiles desc (overlay_content o) → (f b : ℕ) → BadWalk desc to o f b → ⊥
none_bad_walk desc o to told files f b (k, s, at, bad) =
    let kind = (and_parts (is_data_set (Some s)) (has_link_into to s.items) bad.0).0 in
    none_bad_of desc o s.number told files f b (s, number_here desc files.have.numbered k s at, kind, bad.1)
