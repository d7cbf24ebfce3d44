-- The numbers of data sets that stay taken where one record is removed.
use Rattle.std.proofs.Common.{◌≡◌, ◌≢◌, ◌∙◌, ◌+◌, ◌-◌, ◌<◌, ◌≤◌, ℕ, List, true, Some, inl, inr, refl, sym, ap, subst, replicate, slice_get, arith}
use Rattle.std.proofs.lemmas.Bool.{cases_eq, cases_lt}
use Rattle.std.proofs.lemmas.Option.{same_Some}
use Rattle.dms_block.specs.Content.{Content}
use Rattle.dms_block.specs.ContentLaws.{in_others}
use Rattle.dms_desc.specs.Files.{file_of}
use Rattle.dms_desc.specs.Lookups.{structure_of}
use Rattle.dms_desc.specs.Shape.{Shape, Described}
use Rattle.dms_layout.specs.ReadLaws.{free_again}
use Rattle.dms_layout.specs.Slots.{slot_of, slot_width}
use Rattle.dms_layout.specs.declared.slot.SlotRead.{SlotRead}
use Rattle.dms_layout.specs.declared.slot.SlotRead.TheVariants.{Free, Bad}
use Rattle.dms_links.specs.Linking.{number_at}
use Rattle.dms_links.specs.Rows.{AreNumbered}
use Rattle.dms_model.specs.Valid.{is_data_set}
use Rattle.dms_slots.specs.FileWritten.{put_other}
use Rattle.dms_slots.specs.SlotBlocks.{AreTaken, MayPutSlot, before_free, block_of, or_free, slot_put, slots_of}
use Rattle.dms_spelling.specs.Staying.{TakenStay, free_there, taken_before}

-- The first numbers of each data set that are taken stay so, in the record's own data set those below its number.
abbrev pub FreesOne : Described → ℕ → ℕ → Content → Content → Type 0
FreesOne desc set number c d = (n : ℕ) (s : Shape) → structure_of desc n ≡ Some s → is_data_set (Some s) ≡ true → (k : ℕ) → (n ≡ set → k < number)
    → AreTaken s (c (file_of s.number)) k → AreTaken s (d (file_of s.number)) k

pub frees_none : (desc : Described) (set number : ℕ) (c d : Content) → TakenStay desc c d → FreesOne desc set number c d
frees_none desc set number c d stay n s at is k low taken = omega (arith, taken, stay n s at is)

pub frees_then : (desc : Described) (set number : ℕ) (c d e : Content) → FreesOne desc set number c d → FreesOne desc set number d e → FreesOne desc set number c e
frees_then desc set number c d e one two n s at is k low taken = two n s at is k low (one n s at is k low taken)

-- slots that are taken up to a number stay so where each of them does
still_taken : (rs ts : List SlotRead) (k : ℕ) → ((i : ℕ) → i < k → or_free (slice_get rs i) ≢ Free → or_free (slice_get ts i) ≢ Free) → k ≤ before_free rs → k ≤ before_free ts
still_taken rs ts k stay taken = elim (cases_lt (before_free ts) k) [
  | inl low ↦ absurd (stay (before_free ts) low (taken_before rs (before_free ts) (omega (arith, low, taken)) (or_free (slice_get rs (before_free ts))) refl) (free_there ts))
  | inr high ↦ high
]

pub zeros_fine : (s : Shape) → slot_of s (replicate (slot_width s.items) 0) ≢ Bad
zeros_fine s = λ e. let h : Free ≡ Bad = sym (free_again s) ∙ e in cc h

-- A slot that is made free leaves those of all other numbers.
pub freed_one : (desc : Described) (numbered : AreNumbered 1 desc.structures) (set number : ℕ) (s : Shape) (c : Content) → structure_of desc set ≡ Some s → MayPutSlot s c number → FreesOne desc set number c (slot_put s number (replicate (slot_width s.items) 0) c)
freed_one desc numbered set number s c at may n t there is k low taken = elim (cases_eq n set) [
  | inl same ↦
      let own : s ≡ t = same_Some s t (sym at ∙ ap (structure_of desc) (sym same) ∙ there) in
      subst (λ (x : Shape). AreTaken x (d (file_of x.number)) k) own
      (still_taken (slots_of s (c (file_of s.number))) (slots_of s (d (file_of s.number))) k (λ i below used free.
      let e : (i + 1) - 1 ≡ i = omega arith in
      let other = put_other s c number (replicate (slot_width s.items) 0) may (zeros_fine s) (i + 1) (omega arith) (λ h. omega (arith, h, below, low same)) in
      used (ap (λ j. or_free (slice_get (slots_of s (c (file_of s.number))) j)) (sym e) ∙ sym other ∙ ap (λ j. or_free (slice_get (slots_of s (d (file_of s.number))) j)) e ∙ free))
      (subst (λ (x : Shape). AreTaken x (c (file_of x.number)) k) (sym own) taken))
  | inr apart ↦
      let off : file_of t.number ≢ file_of s.number = λ e. apart (omega (arith, e, number_at desc numbered n t there, number_at desc numbered set s at)) in
      subst (λ (bs : List (List ℕ)). AreTaken t bs k) (sym (in_others c (file_of s.number) (block_of s.items number) _ (file_of t.number) off)) taken
]
  where
    d : Content
    d = slot_put s number (replicate (slot_width s.items) 0) c
