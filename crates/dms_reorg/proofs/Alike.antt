-- The slots of a data set by its items and its owner alone.
use Rattle.std.proofs.Common.{◌≡◌, ◌∙◌, ◌&&◌, ◌||◌, ◌==◌, ◌-◌, ℕ, zero, suc, List, [], ◌∷◌, ◌++◌, Bool, true, false, not, replicate, length, refl, sym, ap, take, drop, append-nil}
use Rattle.std.specs.Prelude.{slice_get}
use Rattle.std.specs.List.{list_all}
use Rattle.std.specs.Str.{bytes_eq}
use Rattle.dms_base.specs.declared.value.Value.{Value}
use Rattle.dms_desc.specs.declared.structure.Item.{Item}
use Rattle.dms_desc.specs.Fitting.{values_fit}
use Rattle.dms_desc.specs.Shape.{Shape}
use Rattle.dms_layout.specs.Slots.{is_free, is_spelled, slot_bytes, slot_by, slot_in, slot_of, slot_width}
use Rattle.dms_layout.specs.declared.slot.SlotRead.{SlotRead}
use Rattle.dms_layout.specs.declared.slot.SlotRead.TheVariants.{Free, Used, Bad}
use Rattle.dms_reorg.specs.Rewritten.{StaysItself}
use Rattle.dms_reorg.specs.Widened.{widened}
use Rattle.dms_slots.specs.SlotBlocks.{are_slots, is_block, is_slot, or_free, per_block, slot_at, slot_chunks, slots_by, slots_in, slots_of}

module _ (s t : Shape) (items : t.items ≡ s.items) (owner : t.owner ≡ s.owner) where
  slot_alike : (bytes : List ℕ) → slot_of t bytes ≡ slot_of s bytes
  unfolding slot_of is_spelled
  slot_alike bytes = λ i. slot_by (is_free (items i) bytes)
      (bytes_eq bytes (slot_bytes (items i) (slot_in (items i) bytes)) && ((not (owner i == 0) || (slot_in (items i) bytes).rec.owner == 0) && values_fit (items i) (slot_in (items i) bytes).rec.values)) (slot_in (items i) bytes)

  are_alike : (k : ℕ) (bytes : List ℕ) → are_slots t k bytes ≡ are_slots s k bytes
  are_alike zero bytes = refl
  are_alike (suc k) bytes =
      ap (λ (l : List Item). is_slot (slot_of t (take (slot_width l) bytes)) && are_slots t k (drop (slot_width l) bytes)) items
      ∙ (let here = slot_alike (take (slot_width s.items) bytes) in let rest = are_alike k (drop (slot_width s.items) bytes) in λ i. is_slot (here i) && rest i)

  pub block_alike : (bytes : List ℕ) → is_block t bytes ≡ is_block s bytes
  unfolding is_block
  block_alike bytes = ap (λ (l : List Item). (length bytes == 1024) && are_slots t (per_block l) bytes) items ∙ ap (λ b. (length bytes == 1024) && b) (are_alike (per_block s.items) bytes)

  pub blocks_alike : (bs : List (List ℕ)) → list_all (is_block t) bs ≡ list_all (is_block s) bs
  blocks_alike [] = refl
  blocks_alike (b ∷ bs) = let here = block_alike b in let rest = blocks_alike bs in λ i. here i && rest i

  chunks_alike : (k : ℕ) (bytes : List ℕ) → slot_chunks t k bytes ≡ slot_chunks s k bytes
  chunks_alike zero bytes = refl
  chunks_alike (suc k) bytes =
      ap (λ (l : List Item). slot_of t (take (slot_width l) bytes) ∷ slot_chunks t k (drop (slot_width l) bytes)) items
      ∙ (let here = slot_alike (take (slot_width s.items) bytes) in let rest = chunks_alike k (drop (slot_width s.items) bytes) in λ i. here i ∷ rest i)

  by_alike : (b : Bool) (bytes : List ℕ) → slots_by b t bytes ≡ slots_by b s bytes
  by_alike true bytes = ap (λ (l : List Item). slot_chunks t (per_block l) bytes) items ∙ chunks_alike (per_block s.items) bytes
  by_alike false bytes = ap (λ (l : List Item). replicate (per_block l) Bad) items

  in_alike : (bytes : List ℕ) → slots_in t bytes ≡ slots_in s bytes
  unfolding slots_in
  in_alike bytes = ap (λ b. slots_by b t bytes) (block_alike bytes) ∙ by_alike (is_block s bytes) bytes

  slots_alike : (bs : List (List ℕ)) → slots_of t bs ≡ slots_of s bs
  slots_alike [] = refl
  slots_alike (b ∷ bs) = let here = in_alike b in let rest = slots_alike bs in λ i. here i ++ rest i

  pub at_alike : (bs : List (List ℕ)) (n : ℕ) → slot_at t bs n ≡ slot_at s bs n
  at_alike bs n = ap (λ (rs : List SlotRead). or_free (slice_get rs (n - 1))) (slots_alike bs)

-- a slot with no further values
nothing_more : (r : SlotRead) → widened [] r ≡ r
nothing_more Free = refl
nothing_more (Used slot) = ap (λ (vs : List Value). Used (record { rec = record { owner = slot.rec.owner; values = vs }; counted = slot.counted; owned = slot.owned })) (append-nil slot.rec.values)
nothing_more Bad = refl

pub stays_itself : StaysItself
stays_itself s t bs items owner good = record {
  blocks = blocks_alike s t items owner bs ∙ good;
  slots = λ n low. at_alike s t items owner bs n ∙ sym (nothing_more (slot_at s bs n));
}
