-- No block is found damaged where a database is told.
use Rattle.std.proofs.Common.{◌≡◌, ◌∙◌, ◌<◌, ℕ, List, [], Bool, true, false, IsTrue, Some, None, refl, sym, ap, subst, length, get_or, arith, inl, inr}
use Rattle.std.specs.declared.result.Result.{Result}
use Rattle.std.specs.declared.result.Result.TheVariants.{Ok, Err}
use Rattle.dms_block.specs.declared.block_fault.BlockFault.{BlockFault}
use Rattle.dms_block.specs.declared.block_fault.BlockFault.TheVariants.{Disk, Memory, Full, Damaged, Say}
use Rattle.dms_block.specs.declared.blocks.Blocks.{Ghosts}
use Rattle.dms_block.specs.declared.overlay.Overlay.{Overlay}
use Rattle.dms_block.specs.Content.{Content}
use Rattle.dms_block.specs.Faults.{Undamaged}
use Rattle.dms_block.specs.Held.{BlocksAgree, HasCauses, HasCausesOr, Held, IsShort}
use Rattle.dms_block.specs.View.{overlay_content, under}
use Rattle.dms_desc.specs.Lookups.{structure_of}
use Rattle.dms_desc.specs.Shape.{Shape, Described}
use Rattle.dms_model.specs.Db.{Db}
use Rattle.dms_model.specs.Valid.{is_data_set}
use Rattle.dms_desc.specs.Files.{file_of}
use Rattle.dms_slots.specs.SlotBlocks.{is_block}
use Rattle.dms_store.specs.Files.{block_at, whole_at}
use Rattle.dms_store.specs.Finding.{BadSlot, seen_below}
use Rattle.dms_store.specs.Lifted.{IsUsable, Serves, db_of}
use Rattle.dms_spelling.specs.Spelled.{db_in, is_spelled, some_if}

spelled_by : (t : Bool) (db d : Db) → some_if t db ≡ Some d → t ≡ true
spelled_by true db d h = refl
spelled_by false db d h = absurd (cc)

-- a told database is that of a told content that spells one
pub told_spelled : (desc : Described) (told : Bool) (c : Content) (d : Db) → db_of desc told c ≡ Some d → IsTrue told × (is_spelled desc c ≡ true)
told_spelled desc true c d h = (refl, spelled_by (is_spelled desc c) (db_in desc c) d h)
told_spelled desc false c d h = absurd (cc)

module _ (desc : Described) (h : Held) (serves : Serves desc h) (agrees : BlocksAgree h) (d : Db) (told : db_of desc h.told h.content ≡ Some d) where
  none_short : (f b : ℕ) → IsShort h f b → ⊥
  none_short f b short =
      let both = told_spelled desc h.told h.content d told in
      short.2 both.0 (whole_at desc h.content f b both.1 (serves.only f short.0) (omega (arith, short.1, agrees.counted both.0 f)))

  -- by the blocks below
  pub undamaged_below : {T : Type 0} (r : Result T BlockFault) (after : Held) → HasCauses r h after → Undamaged r
  undamaged_below (Ok x) after cause = tt
  undamaged_below (Err Disk) after cause = tt
  undamaged_below (Err Memory) after cause = tt
  undamaged_below (Err (Full f)) after cause = tt
  undamaged_below (Err (Damaged f b)) after cause = none_short f b cause.1
  undamaged_below (Err Say) after cause = tt

  -- or by a call over them
  pub undamaged_or : {T : Type 0} (P : ℕ → ℕ → Type 0) (r : Result T BlockFault) (after : Held) → ((f b : ℕ) → P f b → ⊥) → HasCausesOr P r h after → Undamaged r
  undamaged_or P (Ok x) after none cause = tt
  undamaged_or P (Err Disk) after none cause = tt
  undamaged_or P (Err Memory) after none cause = tt
  undamaged_or P (Err (Full f)) after none cause = tt
  undamaged_or P (Err (Damaged f b)) after none (inl cause) = none_short f b cause.1
  undamaged_or P (Err (Damaged f b)) after none (inr own) = none f b own.1
  undamaged_or P (Err Say) after none cause = tt

-- where there is no structure there is no data set
pub not_set : (desc : Described) (set : ℕ) → structure_of desc set ≡ None → IsTrue (is_data_set (structure_of desc set)) → ⊥
not_set desc set none is_set = apart (sym (ap is_data_set none) ∙ is_set)
  where
    apart : false ≡ true → ⊥
    apart h = absurd (cc)

module _ {B : Type 0} {g : Ghosts B} (desc : Described) (o : Overlay B g) (usable : IsUsable desc o) (d : Db) (told : db_of desc (under o).told (under o).content ≡ Some d) where
  -- the blocks of a data set are blocks of slots
  pub no_bad_slot : (set f b : ℕ) → IsTrue (is_data_set (structure_of desc set)) → BadSlot desc set o f b → ⊥
  no_bad_slot set f b is_set bad =
      let both = told_spelled desc (under o).told (under o).content d told in
      let s : Shape = bad.0 in
      let own : is_data_set (Some s) ≡ true = sym (ap is_data_set bad.1) ∙ is_set in
      let here = bad.2.0.1 both.0 in
      let same : overlay_content o (file_of s.number) ≡ (under o).content (file_of s.number) = ap (λ (c : Content). c (file_of s.number)) (seen_below o usable.none) in
      let low : b < length ((under o).content (file_of s.number)) = subst (λ (bs : List (List ℕ)). b < length bs) same here.0 in
      let good = block_at desc (under o).content set s b usable.serves.served both.1 bad.1 own low in
      let bad_one = subst (λ (bs : List (List ℕ)). is_block s (get_or bs b []) ≡ false) same here.1 in
      absurd (cc (good, bad_one))
