-- The least free number of a data set, after slots were written: it doesn't fall where no slot is freed.
use Rattle.std.proofs.Common.{◌≡◌, ◌≢◌, ◌∙◌, ◌+◌, ◌-◌, ◌<◌, ◌≤◌, ℕ, zero, suc, Bool, true, false, List, [], ◌∷◌, IsTrue, Some, inl, inr, refl, sym, ap, subst, slice_get, arith}
use Rattle.std.proofs.lemmas.Bool.{cases_eq, cases_lt}
use Rattle.std.proofs.lemmas.Option.{same_Some}
use Rattle.dms_block.specs.Content.{Content}
use Rattle.dms_block.specs.ContentLaws.{in_others}
use Rattle.dms_desc.specs.Files.{file_of}
use Rattle.dms_desc.specs.Fitting.{values_fit}
use Rattle.dms_desc.specs.Lookups.{structure_of}
use Rattle.dms_desc.specs.Shape.{Shape, Described}
use Rattle.dms_layout.specs.SlotLaws.{slot_long}
use Rattle.dms_layout.specs.Slots.{slot_bytes}
use Rattle.dms_layout.specs.declared.slot.Slot.{Slot}
use Rattle.dms_layout.specs.declared.slot.SlotRead.{SlotRead}
use Rattle.dms_layout.specs.declared.slot.SlotRead.TheVariants.{Free, Used, Bad}
use Rattle.dms_links.specs.Altered.{Alters, IsAltered}
use Rattle.dms_links.specs.AlteringIn.{AltersIn, slot_low}
use Rattle.dms_links.specs.Linking.{number_at}
use Rattle.dms_links.specs.Stepping.{AltersSteps, HaveSlotFiles, SlotStep}
use Rattle.dms_links.specs.declared.altering.SlotChange.{SlotChange}
use Rattle.dms_model.specs.Valid.{is_data_set}
use Rattle.dms_slots.specs.FileWritten.{put_taken, spelled_taken}
use Rattle.dms_slots.specs.SlotBlocks.{MayPutSlot, before_free, block_of, or_free, slot_at, slot_put, slots_of}

-- the least free number of no data set has fallen
abbrev pub TakenStay : Described → Content → Content → Type 0
TakenStay desc c d = (n : ℕ) (s : Shape) → structure_of desc n ≡ Some s → is_data_set (Some s) ≡ true
    → before_free (slots_of s (c (file_of s.number))) ≤ before_free (slots_of s (d (file_of s.number)))

-- ---- the first free slot

-- each slot before the first free one is taken
pub taken_before : (rs : List SlotRead) (i : ℕ) → i < before_free rs → ((r : SlotRead) → or_free (slice_get rs i) ≡ r → r ≢ Free)
taken_before [] i low r is = absurd (omega (arith, low))
taken_before (Free ∷ rs) i low r is = absurd (omega (arith, low))
taken_before (Used slot ∷ rs) zero low r is = λ e. let h : Used slot ≡ Free = is ∙ e in absurd (cc h)
taken_before (Bad ∷ rs) zero low r is = λ e. let h : Bad ≡ Free = is ∙ e in absurd (cc h)
taken_before (Used slot ∷ rs) (suc i) low r is = taken_before rs i (omega (arith, low)) r is
taken_before (Bad ∷ rs) (suc i) low r is = taken_before rs i (omega (arith, low)) r is

pub free_there : (rs : List SlotRead) → or_free (slice_get rs (before_free rs)) ≡ Free
free_there [] = refl
free_there (Free ∷ rs) = refl
free_there (Used slot ∷ rs) = free_there rs
free_there (Bad ∷ rs) = free_there rs

-- it stands no lower where no slot is freed
none_freed : (rs ts : List SlotRead) → ((i : ℕ) → or_free (slice_get rs i) ≢ Free → or_free (slice_get ts i) ≢ Free) → before_free rs ≤ before_free ts
none_freed rs ts stay = elim (cases_lt (before_free ts) (before_free rs)) [
  | inl low ↦ absurd (stay (before_free ts) (taken_before rs (before_free ts) low (or_free (slice_get rs (before_free ts))) refl) (free_there ts))
  | inr high ↦ high
]

-- a slot that is written frees none
slot_stays : (s : Shape) (c : Content) (number : ℕ) (slot : Slot) → MayPutSlot s c number → IsTrue (values_fit s.items slot.rec.values)
    → before_free (slots_of s (c (file_of s.number))) ≤ before_free (slots_of s (slot_put s number (slot_bytes s.items slot) c (file_of s.number)))
slot_stays s c number slot may fits = none_freed (slots_of s (c (file_of s.number))) (slots_of s (slot_put s number (slot_bytes s.items slot) c (file_of s.number))) (λ i used.
    let e : (i + 1) - 1 ≡ i = omega arith in
    let at = put_taken s c number (slot_bytes s.items slot) may (slot_long s.items slot fits) (spelled_taken s slot) (i + 1) (omega arith) (λ free. used (ap (λ k. or_free (slice_get (slots_of s (c (file_of s.number))) k)) (sym e) ∙ free)) in
    λ free. at (ap (λ k. or_free (slice_get (slots_of s (slot_put s number (slot_bytes s.items slot) c (file_of s.number))) k)) e ∙ free))

-- ---- all data sets

pub files_stay : (desc : Described) (c d : Content) → ((n : ℕ) (s : Shape) → structure_of desc n ≡ Some s → is_data_set (Some s) ≡ true → d (file_of s.number) ≡ c (file_of s.number)) → TakenStay desc c d
files_stay desc c d same = λ n s at is_set. omega (arith, ap (λ (bs : List (List ℕ)). before_free (slots_of s bs)) (same n s at is_set))

pub same_stays : (desc : Described) (c d : Content) → d ≡ c → TakenStay desc c d
same_stays desc c d same = files_stay desc c d (λ n s at is_set i. same i (file_of s.number))

pub then_stays : (desc : Described) (c d e : Content) → TakenStay desc c d → TakenStay desc d e → TakenStay desc c e
then_stays desc c d e one two = λ n s at is_set. omega (arith, one n s at is_set, two n s at is_set)

pub put_stays : (desc : Described) (s : Shape) (number : ℕ) (slot : Slot) (c d : Content) → HaveSlotFiles desc → structure_of desc s.number ≡ Some s → MayPutSlot s c number → IsTrue (values_fit s.items slot.rec.values)
    → d ≡ slot_put s number (slot_bytes s.items slot) c → TakenStay desc c d
put_stays desc s number slot c d have here may fits is = λ n t at is_set. elim (cases_eq n s.number) [
  | inl same ↦
      let own : s ≡ t = same_Some s t (sym here ∙ ap (structure_of desc) (sym same) ∙ at) in
      subst (λ (x : Shape). before_free (slots_of x (c (file_of x.number))) ≤ before_free (slots_of x (d (file_of x.number)))) own
      (omega (arith, slot_stays s c number slot may fits, ap (λ (x : Content). before_free (slots_of s (x (file_of s.number)))) is))
  | inr apart ↦
      let off : file_of t.number ≢ file_of s.number = λ e. apart (omega (arith, e, number_at desc have.numbered n t at)) in
      omega (arith, ap (λ (bs : List (List ℕ)). before_free (slots_of t bs)) (ap (λ (x : Content). x (file_of t.number)) is ∙ in_others c (file_of s.number) (block_of s.items number) _ (file_of t.number) off))
]

not_bad : (x : Slot) → Used x ≡ Bad → ⊥
not_bad x h = absurd (cc h)

-- A slot that was altered,
pub altered_stays : (desc : Described) (set number : ℕ) (change : SlotChange) (c d : Content) (done : Bool) → HaveSlotFiles desc → AltersIn desc set number change c d done → TakenStay desc c d
altered_stays desc set number change c d false have h = same_stays desc c d (h.none refl)
altered_stays desc set number change c d true have h =
    let x = h.some refl in
    let s = x.0 in
    let a : IsAltered s number change c d = h.here s x.1 x.2 in
    let own = number_at desc have.numbered set s x.1 in
    put_stays desc s number a.next c d have (ap (structure_of desc) own ∙ x.1)
    (record { fits = (have.sized set s x.1).fits; low = slot_low s number x.2; next = a.there; sound = λ bad. not_bad a.slot (sym a.was ∙ bad) }) a.fits.values a.is

-- and slots altered one after another
pub steps_stay : (desc : Described) (xs : List SlotStep) (done : Bool) (c d : Content) → HaveSlotFiles desc → AltersSteps desc xs done c d → TakenStay desc c d
steps_stay desc [] done c d have h = same_stays desc c d h.1
steps_stay desc (x ∷ xs) done c d have (e, true, a, h) = then_stays desc c e d (altered_stays desc x.set x.number x.change c e true have a) (steps_stay desc xs done e d have h)
steps_stay desc (x ∷ xs) done c d have (e, false, a, h) = then_stays desc c e d (altered_stays desc x.set x.number x.change c e false have a) (same_stays desc e d h.1)
