-- What is read of the blocks of a store.
use Rattle.std.proofs.Common.{◌≡◌, ◌∙◌, ◌*◌, ◌<◌, ◌≤◌, ℕ, min, zero, suc, List, [], ◌∷◌, true, false, cond, IfSome, IsTrue, Some, None, refl, sym, ap, subst, take, length, arith}
use Rattle.std.specs.Prelude.{nat_le, slice_index_or}
use Rattle.std.specs.declared.result.Result.TheVariants.{Ok}
use Rattle.std.specs.declared.option.Option.{Option}
use Rattle.std.specs.FinMap.{get}
use Rattle.std.proofs.lemmas.Bool.Decides.{nat_tests}
use Rattle.dms_base.specs.declared.value.Value.{Value}
use Rattle.dms_base.specs.Fits.{fits}
use Rattle.dms_block.specs.declared.blocks.Blocks.{Ghosts}
use Rattle.dms_block.specs.declared.change.Change.{Change}
use Rattle.dms_block.specs.declared.overlay.Overlay.{Overlay}
use Rattle.dms_block.specs.Content.{Content, apply_changes, counts_after}
use Rattle.dms_block.specs.HeldLaws.{causes_or_on, lasts_none, same_none, told_after}
use Rattle.dms_block.specs.Held.{HasCausesOr}
use Rattle.dms_block.specs.declared.block_fault.BlockFault.{BlockFault}
use Rattle.std.specs.declared.result.Result.{Result}
use Rattle.std.proofs.lemmas.Bool.{and_parts}
use Rattle.dms_block.specs.View.{ReadsOverlay, overlay_content, under, overlay_changes}
use Rattle.dms_block.specs.ViewLaws.{seen_still}
use Rattle.dms_desc.specs.declared.structure.Item.{Item}
use Rattle.dms_desc.specs.declared.bound.Bound.{Bound}
use Rattle.dms_desc.specs.Lookups.{items_of, structure_of}
use Rattle.dms_desc.specs.Shape.{Shape, Described}
use Rattle.dms_layout.specs.declared.slot.Slot.{Slot}
use Rattle.dms_layout.specs.declared.slot.SlotRead.{SlotRead}
use Rattle.dms_layout.specs.Slots.{SlotFits}
use Rattle.dms_desc.specs.Fitting.{values_fit}
use Rattle.dms_model.specs.Fitting.{AreFitting, IsNumber, RecordFits, population_of}
use Rattle.dms_model.specs.Valid.{OfItems, is_data_set}
use Rattle.dms_slots.specs.Seen.{BadAt, BadIn, blocks_of, count_of}
use Rattle.dms_desc.specs.Files.{file_of}
use Rattle.dms_slots.specs.SlotBlocks.{is_block, per_block, slot_at, slot_opt, slots_of}
use Rattle.dms_links.specs.Linking as links
use Rattle.dms_links.specs.Rows.{file_in, rec_in, rec_opt}
use Rattle.dms_store.specs.Rows.{get_in}
use Rattle.dms_store.specs.Scans.{stop_of}
use Rattle.dms_spelling.specs.Serving.{IsServed}
use Rattle.dms_spelling.specs.Spelled.{db_in}
use Rattle.dms_model.specs.FitLaws.{lengths_are}

module _ {B : Type 0} {g : Ghosts B} where
  -- a block of the data set isn't one of slots
  abbrev pub BadSlot : Described → ℕ → Overlay B g → ℕ → ℕ → Type 0
  BadSlot desc set o f b = (s : Shape) × (structure_of desc set ≡ Some s) × BadIn s o f b

  pub bad_slot : (desc : Described) (set : ℕ) (s : Shape) (at f b : ℕ) (o : Overlay B g) → structure_of desc set ≡ Some s → BadAt s at o f b → BadSlot desc set o f b
  bad_slot desc set s at f b o is bad = (s, is, bad.0)

  -- what is read of the slots of a data set's file
  abbrev pub seen_slots : Shape → Overlay B g → List SlotRead
  seen_slots s o = slots_of s (blocks_of s o)

  -- how many slots may have a record: those of the file's blocks, up to POPULATION
  abbrev pub most_slots : Shape → Overlay B g → ℕ
  most_slots s o = min (count_of s o * per_block s.items) s.population

  -- those before a bound
  abbrev pub slots_before : Shape → Bound → Overlay B g → List SlotRead
  slots_before s bound o = take (min (stop_of bound (most_slots s o)) (most_slots s o)) (seen_slots s o)

  -- the same in the words of a path
  pub causes_in : {T : Type 0} (desc : Described) (set : ℕ) (s : Shape) (o o' : Overlay B g) (r : Result T BlockFault) → structure_of desc set ≡ Some s → HasCausesOr (BadIn s o) r (under o) (under o') → HasCausesOr (BadSlot desc set o) r (under o) (under o')
  causes_in desc set s o o' r is h = causes_or_on (BadIn s o) (BadSlot desc set o) r (under o) (under o) (under o') (λ f k bad. (s, is, bad)) refl (lasts_none (under o)) (same_none (under o)) h

  -- a block that is bad after reads was bad before them
  pub bad_since : {T : Type 0} {n : ℕ} {x : T} (s : Shape) (a b : Overlay B g) → ReadsOverlay n (Ok x) a b → (f k : ℕ) → BadIn s b f k → BadIn s a f k
  bad_since s a b reads f k bad = (
    (
      bad.0.0,
      λ told.
          let same : overlay_content b (file_of s.number) ≡ overlay_content a (file_of s.number) = ap (λ (c : Content). c (file_of s.number)) (seen_still reads told) in
          subst (λ (bs : List (List ℕ)). (k < length bs) × (is_block s (slice_index_or bs k []) ≡ false)) same (bad.0.1 (told_after reads.looks.passes.lasts told)),
    ),
    subst (λ (m : ℕ). k < m) (λ i. counts_after (reads.written_still i) (reads.looks.counts i) (file_of s.number)) bad.1,
  )

  -- where nothing is written, what is seen stands below
  pub seen_below : (o : Overlay B g) → overlay_changes o ≡ [] → overlay_content o ≡ (under o).content
  seen_below o none = ap (λ (l : List Change). apply_changes l (under o).content) none

-- ---- structures that are served

-- a structure that is looked up by a number has it
pub number_at : (desc : Described) (n : ℕ) (s : Shape) → IsServed desc → structure_of desc n ≡ Some s → s.number ≡ n
number_at desc n s served at = links.number_at desc served.numbered n s at

-- ---- one record

pub set_if : (desc : Described) (set : ℕ) (s : Shape) → structure_of desc set ≡ Some s → IsTrue (is_data_set (structure_of desc set)) → is_data_set (Some s) ≡ true
set_if desc set s at set_is = sym (ap is_data_set at) ∙ set_is

-- what stands in the slot of a record is what the database has
pub got : (desc : Described) (c : Content) (set number : ℕ) (s : Shape) (o : Option Slot) → IsServed desc → structure_of desc set ≡ Some s → is_data_set (Some s) ≡ true → 1 ≤ number
    → slot_at s (c (file_of s.number)) number ≡ slot_opt o → rec_opt (slot_opt o) ≡ get (db_in desc c).records (set, number)
got desc c set number s o served at set_is low is =
    sym (get_in desc c served.numbered set number low
    ∙ ap (λ x. rec_in c x number) at
    ∙ ap (λ b. cond b (rec_opt (slot_at s (file_in c s) number)) None) set_is
    ∙ ap rec_opt is)

-- ---- what is answered fits

fit_in : (items : List Item) (values : List Value) → values_fit items values ≡ true → OfItems items values (λ item v. fits item.kind v ≡ true)
fit_in [] values h k item at = absurd (cc)
fit_in (i ∷ is) [] h k item at = absurd (cc)
fit_in (i ∷ is) (v ∷ vs) h zero item at = subst (λ (x : Item). fits x.kind v ≡ true) (some_one i item at) (and_parts (fits i.kind v) (values_fit is vs) h).0
  where
    some_one : (x y : Item) → ◌≡◌ {A = Option Item} (Some x) (Some y) → x ≡ y
    some_one x y h = cc
fit_in (i ∷ is) (v ∷ vs) h (suc k) item at = fit_in is vs (and_parts (fits i.kind v) (values_fit is vs) h).1 k item at

-- the record of a slot that fits is one that its data set may hold
pub slot_record : (desc : Described) (set : ℕ) (s : Shape) (slot : Slot) → structure_of desc set ≡ Some s → SlotFits s slot → RecordFits desc set slot.rec
slot_record desc set s slot at f = record {
  owner = f.owner;
  values = subst (λ o. AreFitting (items_of o) slot.rec.values) (sym at) (record { lengths = lengths_are s.items slot.rec.values f.values; fit = fit_in s.items slot.rec.values f.values; plain = f.plain });
}

pub record_fits_opt : (desc : Described) (set : ℕ) (s : Shape) (o : Option Slot) → structure_of desc set ≡ Some s → IfSome o (SlotFits s) → IfSome (rec_opt (slot_opt o)) (RecordFits desc set)
record_fits_opt desc set s None at f = tt
record_fits_opt desc set s (Some slot) at f = slot_record desc set s slot at f

-- a number that a record may have is at least 1
pub low_number : (desc : Described) (set number : ℕ) → IsNumber desc set number → 1 ≤ number
low_number desc set number h = low_of number (and_parts (nat_le 1 number) (nat_le number (population_of (structure_of desc set))) h).0
  where
    low_of : (n : ℕ) → nat_le 1 n ≡ true → 1 ≤ n
    low_of n t = grind (arith, nat_tests, t)
