-- The row at a place of a block, and that with a number in a file.
use Rattle.std.proofs.Common.{◌≡◌, ◌+◌, ◌*◌, ◌-◌, ◌/◌, ◌%◌, ◌<◌, ◌≤◌, ◌∙◌, ℕ, zero, suc, List, [], ◌∷◌, Some, refl, sym, ap, length, take, drop, get_or, slice_get, arith}
use Rattle.std.proofs.lemmas.List.{drop_all}
use Rattle.std.proofs.lemmas.Nat.{div-add-mod'}
use Rattle.std.proofs.Math.Nat as nat
use Rattle.dms_desc.specs.Shape.{Shape}
use Rattle.dms_layout.specs.declared.slot.SlotRead.{SlotRead}
use Rattle.dms_layout.specs.declared.slot.SlotRead.TheVariants.{Free}
use Rattle.dms_layout.specs.Slots.{raw_of, slot_width}
use Rattle.dms_rows.specs.Rows.{raw_chunks, raw_rows, row_at}
use Rattle.dms_slots.specs.SlotBlocks.{or_free, per_block}
use Rattle.dms_slots.specs.SlotBlockLaws.{piece_get, pieces_past}

-- ---- a block

rows_length : (s : Shape) (k : ℕ) (bytes : List ℕ) → length (raw_chunks s k bytes) ≡ k
rows_length s zero bytes = refl
rows_length s (suc k) bytes = ap suc (rows_length s k (drop (slot_width s.items) bytes))

drop_more : (a b : ℕ) (l : List ℕ) → drop a (drop b l) ≡ drop (b + a) l
drop_more a zero l = ap (λ k. drop k l) (omega arith)
drop_more a (suc b) [] = (λ i. drop_all a [] (omega arith) i) ∙ sym (drop_all (suc b + a) [] (omega arith))
drop_more a (suc b) (x ∷ l) = drop_more a b l ∙ ap (λ k. drop k (x ∷ l)) (let e : suc (b + a) ≡ suc b + a = omega arith in e)

cut_get : (s : Shape) (k p : ℕ) (bytes : List ℕ) → p < k → slice_get (raw_chunks s k bytes) p ≡ Some (raw_of s (take (slot_width s.items) (drop (p * slot_width s.items) bytes)))
cut_get s zero p bytes low = absurd (omega arith)
cut_get s (suc k) zero bytes low = ap (λ n. Some (raw_of s (take (slot_width s.items) (drop n bytes)))) (let e : 0 ≡ 0 * slot_width s.items = omega arith in e)
cut_get s (suc k) (suc p) bytes low =
    let w = slot_width s.items in
    cut_get s k p (drop w bytes) (omega arith)
    ∙ ap (λ l. Some (raw_of s (take w l))) (drop_more (p * w) w bytes ∙ ap (λ n. drop n bytes) (let e : w + p * w ≡ suc p * w = omega (arith, nat.suc-mul p w) in e))

-- what is read at a place
pub place_is : (s : Shape) (block rest slot : List ℕ) (p w : ℕ) (r : SlotRead) → p < per_block s.items → w ≡ slot_width s.items → rest ≡ drop (p * w) block
    → slot ≡ take w rest → r ≡ raw_of s slot → r ≡ or_free (slice_get (raw_chunks s (per_block s.items) block) p)
place_is s block rest slot p w r low width behind here is =
    is ∙ ap (raw_of s) (here ∙ ap (take w) behind ∙ ap (λ n. take n (drop (p * n) block)) width)
    ∙ sym (ap or_free (cut_get s (per_block s.items) p block low))

-- ---- a file

row_there : (s : Shape) (bs : List (List ℕ)) (number per : ℕ) → per ≡ per_block s.items → 0 < per → (number - 1) / per < length bs
    → row_at s bs number ≡ or_free (slice_get (raw_chunks s (per_block s.items) (get_or bs ((number - 1) / per) [])) ((number - 1) % per))
row_there s bs number per e some low =
    ap (λ i. or_free (slice_get (raw_rows s bs) i)) (sym (div-add-mod' (number - 1) per))
    ∙ ap or_free (piece_get (raw_chunks s (per_block s.items)) per (λ x. rows_length s (per_block s.items) x ∙ sym e) bs ((number - 1) / per) ((number - 1) % per) [] (nat.mod-lt (number - 1) some) low)

pub row_past : (s : Shape) (bs : List (List ℕ)) (number per : ℕ) → per ≡ per_block s.items → length bs ≤ (number - 1) / per → row_at s bs number ≡ Free
row_past s bs number per e past =
    ap (λ i. or_free (slice_get (raw_rows s bs) i)) (sym (div-add-mod' (number - 1) per))
    ∙ ap or_free (pieces_past (raw_chunks s (per_block s.items)) per (λ x. rows_length s (per_block s.items) x ∙ sym e) bs ((number - 1) / per) ((number - 1) % per) past)

get_some : (bs : List (List ℕ)) (n : ℕ) (block d : List ℕ) → slice_get bs n ≡ Some block → get_or bs n d ≡ block
get_some [] n block d at = absurd (cc (at))
get_some (b ∷ bs) zero block d at = cc (at)
get_some (b ∷ bs) (suc n) block d at = get_some bs n block d at

-- what is read of a block that stands there
pub row_is : (s : Shape) (bs : List (List ℕ)) (number per : ℕ) (block : List ℕ) (r : SlotRead) → per ≡ per_block s.items → 0 < per → (number - 1) / per < length bs
    → slice_get bs ((number - 1) / per) ≡ Some block → r ≡ or_free (slice_get (raw_chunks s (per_block s.items) block) ((number - 1) % per)) → row_at s bs number ≡ r
row_is s bs number per block r e some low at read =
    row_there s bs number per e some low
    ∙ ap (λ l. or_free (slice_get (raw_chunks s (per_block s.items) l) ((number - 1) % per))) (get_some bs ((number - 1) / per) block [] at) ∙ sym read
