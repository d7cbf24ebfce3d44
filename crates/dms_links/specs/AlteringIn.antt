-- One slot altered, by the number of its data set.
use Rattle.std.proofs.Common.{◌≡◌, ◌∙◌, ◌≤◌, ℕ, Bool, true, false, Some, None, IsTrue, refl, sym, ap, subst, arith}
use Rattle.std.specs.Prelude.{◌&&◌, nat_le}
use Rattle.std.specs.declared.option.Option.{Option}
use Rattle.std.proofs.lemmas.Bool.{and_parts}
use Rattle.std.proofs.lemmas.Bool.Decides.{nat_tests}
use Rattle.std.proofs.lemmas.Option.{same_Some}
use Rattle.dms_block.specs.Content.{Content}
use Rattle.dms_block.specs.Held.{Held}
use Rattle.dms_block.specs.declared.blocks.Blocks.{Ghosts}
use Rattle.dms_block.specs.declared.overlay.Overlay.{Overlay}
use Rattle.dms_desc.specs.Files.{file_of}
use Rattle.dms_desc.specs.Lookups.{structure_of}
use Rattle.dms_desc.specs.Shape.{Shape, Described}
use Rattle.dms_model.specs.Fitting.{is_number}
use Rattle.dms_model.specs.Valid.{is_data_set}
use Rattle.dms_slots.specs.Seen.{BadIn}
use Rattle.dms_links.specs.Altered.{Alters, MayChange}
use Rattle.dms_links.specs.Walked.{HasSlots}
use Rattle.dms_links.specs.declared.altering.SlotChange.{SlotChange}

-- a data set, and a number that a record of it may have
abbrev pub is_slot : Shape → ℕ → Bool
is_slot s number = is_data_set (Some s) && is_number (Some s) number

-- it holds of the structure with this number
abbrev pub OfStructure : Described → ℕ → (Shape → Type 0) → Type 0
OfStructure desc set P = (s : Shape) → structure_of desc set ≡ Some s → P s

-- blocks among which the file of a structure may be written, whose slots fit a block, and which has at most 1,000,000 records
pub record HoldsShape (h : Held) (s : Shape) : Type 0 where
  pub sized : HasSlots s
  pub few : s.population ≤ 1000000
  pub owns : IsTrue (h.owns (file_of s.number))

abbrev pub HoldsSet : Described → ℕ → Held → Type 0
HoldsSet desc set h = OfStructure desc set (HoldsShape h)

abbrev pub MayChangeIn : Described → ℕ → SlotChange → Type 0
MayChangeIn desc set change = OfStructure desc set (λ s. MayChange s.items change)

-- there is such a data set, and a record of it may have this number
abbrev pub HasSlot : Described → ℕ → ℕ → Type 0
HasSlot desc set number = (s : Shape) × (structure_of desc set ≡ Some s) × (is_slot s number ≡ true)

-- The slot is altered, where the structure is a data set and a record of it may have this number. Else nothing is written, and so
-- too where the answer is false.
pub record AltersIn (desc : Described) (set number : ℕ) (change : SlotChange) (c d : Content) (done : Bool) : Type 0 where
  pub here : OfStructure desc set (λ s. is_slot s number ≡ true → Alters s number change done c d)
  pub none : done ≡ false → d ≡ c
  pub some : done ≡ true → HasSlot desc set number

-- a block of the data set isn't one of slots
abbrev pub BadOf : {B : Type 0} {g : Ghosts B} → Described → ℕ → Overlay B g → ℕ → ℕ → Type 0
BadOf desc set o f b = (s : Shape) × (structure_of desc set ≡ Some s) × (is_data_set (Some s) ≡ true) × BadIn s o f b

-- ---- what an answer says

no_shape : (s : Shape) → ◌≡◌ {A = Option Shape} None (Some s) → ⊥
no_shape s h = absurd (cc h)

not_both : false ≡ true → ⊥
not_both h = absurd (cc h)

pub altered_none : (desc : Described) (set number : ℕ) (change : SlotChange) (c : Content) → structure_of desc set ≡ None → AltersIn desc set number change c c false
altered_none desc set number change c off = record { here = λ s at on. absurd (no_shape s (sym off ∙ at)); none = λ h. refl; some = λ h. absurd (not_both h) }

pub altered_off : (desc : Described) (set number : ℕ) (change : SlotChange) (c : Content) (s : Shape) → structure_of desc set ≡ Some s → is_slot s number ≡ false → AltersIn desc set number change c c false
altered_off desc set number change c s at off =
    record {
      here = λ t there on. absurd (not_both (sym off ∙ subst (λ (x : Shape). is_slot x number ≡ true) (sym (same_Some s t (sym at ∙ there))) on));
      none = λ h. refl;
      some = λ h. absurd (not_both h);
    }

stuck_same : (s : Shape) (number : ℕ) (change : SlotChange) (done : Bool) (c d : Content) → Alters s number change done c d → done ≡ false → d ≡ c
stuck_same s number change true c d a h = absurd (cc h)
stuck_same s number change false c d a h = a.same

pub altered_here : (desc : Described) (set number : ℕ) (change : SlotChange) (c d : Content) (s : Shape) (done : Bool) → structure_of desc set ≡ Some s → is_slot s number ≡ true → Alters s number change done c d → AltersIn desc set number change c d done
altered_here desc set number change c d s done at one a =
    record {
      here = λ t there on. subst (λ (x : Shape). Alters x number change done c d) (same_Some s t (sym at ∙ there)) a;
      none = stuck_same s number change done c d a;
      some = λ h. (s, at, one);
    }

-- ---- the number

pub slot_set : (s : Shape) (number : ℕ) → is_slot s number ≡ true → is_data_set (Some s) ≡ true
slot_set s number h = (and_parts (is_data_set (Some s)) (is_number (Some s) number) h).0

pub slot_low : (s : Shape) (number : ℕ) → is_slot s number ≡ true → 1 ≤ number
slot_low s number h =
    let test = (and_parts (nat_le 1 number) (nat_le number s.population) (and_parts (is_data_set (Some s)) (is_number (Some s) number) h).1).0 in
    grind (arith, nat_tests, test)

pub slot_most : (s : Shape) (number : ℕ) → is_slot s number ≡ true → number ≤ s.population
slot_most s number h =
    let test = (and_parts (nat_le 1 number) (nat_le number s.population) (and_parts (is_data_set (Some s)) (is_number (Some s) number) h).1).1 in
    grind (arith, nat_tests, test)
