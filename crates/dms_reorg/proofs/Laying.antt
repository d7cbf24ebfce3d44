-- Slots of a block that are laid one after another.
use Rattle.std.proofs.Common.{◌≡◌, ◌≢◌, ◌∙◌, ◌+◌, ◌*◌, ◌<◌, ℕ, List, [], ◌∷◌, ◌++◌, true, inl, inr, sym, ap, subst, length, replicate, set, slice_get, Some, arith}
use Rattle.std.specs.Prelude.{◌==◌, ◌||◌, not}
use Rattle.std.proofs.lemmas.Bool.{cases_eq, cases_lt}
use Rattle.dms_base.specs.declared.value.Value.{Value}
use Rattle.dms_desc.specs.Plain.{ArePlain}
use Rattle.dms_desc.specs.Shape.{Shape}
use Rattle.dms_fields.specs.Fields.{lay_bytes}
use Rattle.dms_layout.specs.Slots.{slot_bytes, slot_of, slot_width, SlotFits}
use Rattle.dms_layout.specs.SlotLaws.{slot_again, slot_length}
use Rattle.dms_layout.specs.declared.slot.Slot.{Slot}
use Rattle.dms_layout.specs.declared.slot.SlotRead.{SlotRead}
use Rattle.dms_layout.specs.declared.slot.SlotRead.TheVariants.{Free, Used}
use Rattle.dms_slots.specs.FileWritten.{set_here, set_other, zeros_block, zeros_in}
use Rattle.dms_slots.specs.SlotBlockLaws.{slots_length}
use Rattle.dms_slots.specs.SlotBlocks.{is_block, is_slot, or_free, per_block, slots_in}
use Rattle.dms_slots.specs.Written.{block_written}
use Rattle.dms_reorg.specs.Widened.{IsWidened, IsWidenedSlot, LaidUpTo, widened, Widens, with_values}
use Rattle.dms_reorg.proofs.Widened.{widened_fits}

-- ---- records

both_plain : (vs ws : List Value) → ArePlain vs → ArePlain ws → ArePlain (vs ++ ws)
both_plain [] ws one two = two
both_plain (v ∷ vs) ws one two = (one.0, both_plain vs ws one.1 two)

-- a slot that fits fits widened
pub slot_fits : (s t : Shape) (more : List Value) (slot : Slot) → Widens s t more → SlotFits s slot → SlotFits t (with_values more slot)
slot_fits s t more slot w f = record {
  owner = f.owner;
  disjoint = ap (λ n. not (n == 0) || slot.rec.owner == 0) w.owner ∙ f.disjoint;
  counted = f.counted;
  owned = f.owned;
  values = widened_fits s t more slot w f.values;
  plain = both_plain slot.rec.values more f.plain w.plain;
}

pub slot_bytes_long : (s t : Shape) (more : List Value) (slot : Slot) → Widens s t more → SlotFits s slot → length (slot_bytes t.items (with_values more slot)) ≡ slot_width t.items
slot_bytes_long s t more slot w f = slot_length t (with_values more slot) w.kinds (slot_fits s t more slot w f)

-- its bytes are those of the slot, widened
pub slot_is_widened : (s t : Shape) (more : List Value) (slot : Slot) (r : SlotRead) (bytes : List ℕ) → Widens s t more → SlotFits s slot → r ≡ Used slot → bytes ≡ slot_bytes t.items (with_values more slot) → IsWidenedSlot t more r (Some bytes)
slot_is_widened s t more slot r bytes w f is spelled = (
  slot,
  is,
  ap (slot_of t) spelled ∙ slot_again t (with_values more slot) w.kinds (slot_fits s t more slot w f),
  ap length spelled ∙ slot_bytes_long s t more slot w f,
)

-- ---- a block

module _ (t : Shape) (more : List Value) (old : ℕ → SlotRead) (b : ℕ) where
  abbrev here : ℕ → List ℕ → SlotRead
  here p block = or_free (slice_get (slots_in t block) p)

  abbrev pub number : ℕ → ℕ
  number p = b * per_block t.items + p + 1

  pub laid_none : LaidUpTo t more old b 0 (replicate 1024 0)
  laid_none = record { good = zeros_block t; done = λ p low. absurd (omega (arith, low)); rest = λ p high. zeros_in t p }

  next_done : (k : ℕ) (block : List ℕ) → LaidUpTo t more old b k block → here k block ≡ widened more (old (number k)) → (p : ℕ) → p < k + 1 → here p block ≡ widened more (old (number p))
  next_done k block l at p low = elim (cases_eq p k) [
    | inl same ↦ ap (λ q. here q block) same ∙ at ∙ ap (λ q. widened more (old (number q))) (sym same)
    | inr apart ↦ l.done p (below p k low apart)
  ]
    where
      below : (p k : ℕ) → p < k + 1 → p ≢ k → p < k
      below p k low apart = elim (cases_lt p k) [ inl lt ↦ lt | inr ge ↦ absurd (apart (omega (arith, low, ge))) ]

  -- a free slot
  pub laid_free : (k : ℕ) (block : List ℕ) → LaidUpTo t more old b k block → old (number k) ≡ Free → LaidUpTo t more old b (k + 1) block
  laid_free k block l free = record {
    good = l.good;
    done = next_done k block l (l.rest k (omega arith) ∙ sym (ap (widened more) free));
    rest = λ p high. l.rest p (omega (arith, high));
  }

  -- a used one
  module _ (k : ℕ) (block bytes : List ℕ) (l : LaidUpTo t more old b k block) (low : k < per_block t.items) (is : IsWidenedSlot t more (old (number k)) (Some bytes)) where
    abbrev new : List ℕ
    new = lay_bytes (k * slot_width t.items) bytes block

    written : (is_block t new ≡ true) × (slots_in t new ≡ set (slots_in t block) k (slot_of t bytes))
    written = block_written t k bytes block low is.3 (ap is_slot is.2) l.good

    long : k < length (slots_in t block)
    long = subst (λ n. k < n) (sym (slots_length t block)) low

    at_k : here k new ≡ widened more (old (number k))
    at_k = ap (λ (rs : List SlotRead). or_free (slice_get rs k)) written.1 ∙ ap or_free (set_here (slots_in t block) k (slot_of t bytes) long) ∙ is.2 ∙ sym (ap (widened more) is.1)

    off_k : (p : ℕ) → p ≢ k → here p new ≡ here p block
    off_k p apart = ap (λ (rs : List SlotRead). or_free (slice_get rs p)) written.1 ∙ ap or_free (set_other (slots_in t block) k p (slot_of t bytes) apart)

    pub laid_used : LaidUpTo t more old b (k + 1) new
    laid_used = record {
      good = written.0;
      done = λ p under. elim (cases_eq p k) [
        | inl same ↦ ap (λ q. here q new) same ∙ at_k ∙ ap (λ q. widened more (old (number q))) (sym same)
        | inr apart ↦ off_k p apart ∙ l.done p (below p under apart)
      ];
      rest = λ p high. off_k p (λ same. absurd (omega (arith, high, same))) ∙ l.rest p (omega (arith, high));
    }
      where
        below : (p : ℕ) → p < k + 1 → p ≢ k → p < k
        below p under apart = elim (cases_lt p k) [ inl lt ↦ lt | inr ge ↦ absurd (apart (omega (arith, under, ge))) ]

  -- all slots
  pub laid_all : (k : ℕ) (block : List ℕ) → k ≡ per_block t.items → LaidUpTo t more old b k block → IsWidened t more old b block
  laid_all k block all l = record { good = l.good; each = λ p low. l.done p (omega (arith, low, all)) }
