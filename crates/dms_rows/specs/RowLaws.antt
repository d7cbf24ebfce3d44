-- Rows, and what a walk through a block makes of them.
use Rattle.std.proofs.Common.{◌≡◌, ◌+◌, ◌-◌, ◌<◌, ◌≤◌, ℕ, zero, suc, List, [], ◌∷◌, ◌++◌, flat_map, Bool, true, false, refl, sym, ap, ◌∙◌, length, take, drop, arith}
use Rattle.std.specs.Prelude.{◌&&◌, ◌||◌, ◌==◌, not}
use Rattle.std.specs.List.{list_all}
use Rattle.std.proofs.lemmas.Bool.{and_parts}
use Rattle.dms_desc.specs.Fitting.{values_fit}
use Rattle.dms_desc.specs.Shape.{Shape}
use Rattle.dms_layout.specs.declared.slot.Slot.{Slot}
use Rattle.dms_layout.specs.declared.slot.SlotRead.{SlotRead}
use Rattle.dms_layout.specs.Judging.{bad_parts, raw_read}
use Rattle.dms_layout.specs.Slots.{is_free, is_raw, is_raw_slot, is_zero, raw_of, reads_bad, slot_by, slot_in, slot_of, slot_width, values_at}
use Rattle.dms_slots.specs.SlotBlocks.{are_slots, is_block, is_slot, per_block, slot_chunks, slots_by, slots_in, slots_of}
use Rattle.dms_slots.specs.SlotBlockLaws.{slot_read}
use Rattle.dms_rows.specs.Rows.{RowsAgree, are_raw_slots, is_row_block, raw_chunks, raw_rows, read_fits}

-- ---- the walk

left_more : (i n : ℕ) → i < n → n - i ≡ suc (n - (i + 1))
left_more i n low = omega arith

both_false : (a : Bool) → (a && false) ≡ false
both_false true = refl
both_false false = refl

pub no_rows : (s : Shape) (block : List ℕ) → false ≡ are_raw_slots s (per_block s.items) block → false ≡ is_row_block s block
unfolding is_row_block
no_rows s block bad = sym (both_false (length block == 1024)) ∙ ap (λ b. (length block == 1024) && b) bad

pub is_whole : (s : Shape) (block : List ℕ) (b : Bool) → length block ≡ 1024 → b ≡ are_raw_slots s (per_block s.items) block → b ≡ is_row_block s block
unfolding is_row_block
is_whole s block b whole good = good ∙ sym (ap (λ n. (n == 1024) && are_raw_slots s (per_block s.items) block) whole)

pub walk_ends : (s : Shape) (i n k : ℕ) (rest : List ℕ) (b : Bool) → k ≡ n → k ≤ i → are_raw_slots s (n - i) rest ≡ b → list_all is_zero rest ≡ b
walk_ends s i n k rest b e past so_far = ap (λ j. are_raw_slots s j rest) (let h : 0 ≡ n - i = omega (arith, e) in h) ∙ so_far

here_is : (s : Shape) (w : ℕ) (rest slot : List ℕ) (r b : Bool) → w ≡ slot_width s.items → slot ≡ take w rest → r ≡ is_raw_slot s slot → r ≡ b → is_raw_slot s (take (slot_width s.items) rest) ≡ b
here_is s w rest slot r b width here is good = ap (λ k. is_raw_slot s (take k rest)) (sym width) ∙ ap (is_raw_slot s) (sym here) ∙ sym is ∙ good

pub walk_on : (s : Shape) (i n w : ℕ) (rest slot more : List ℕ) (r b : Bool) → i < n → w ≡ slot_width s.items → slot ≡ take w rest → more ≡ drop w rest
    → r ≡ is_raw_slot s slot → r ≡ true → are_raw_slots s (n - i) rest ≡ b → are_raw_slots s (n - (i + 1)) more ≡ b
walk_on s i n w rest slot more r b low width here behind is good so_far =
    ap (are_raw_slots s (n - (i + 1))) (behind ∙ ap (λ k. drop k rest) width)
    ∙ sym (ap (λ a. a && are_raw_slots s (n - (i + 1)) (drop (slot_width s.items) rest)) (here_is s w rest slot r true width here is good))
    ∙ ap (λ k. are_raw_slots s k rest) (sym (left_more i n low)) ∙ so_far

pub walk_stops : (s : Shape) (i n w : ℕ) (rest slot : List ℕ) (r b : Bool) → i < n → w ≡ slot_width s.items → slot ≡ take w rest
    → r ≡ is_raw_slot s slot → r ≡ false → are_raw_slots s (n - i) rest ≡ b → false ≡ b
walk_stops s i n w rest slot r b low width here is bad so_far =
    sym (ap (λ a. a && are_raw_slots s (n - (i + 1)) (drop (slot_width s.items) rest)) (here_is s w rest slot r false width here is bad))
    ∙ ap (λ k. are_raw_slots s k rest) (sym (left_more i n low)) ∙ so_far

-- ---- one slot

not_not : (a : Bool) → not (not a) ≡ a
not_not true = refl
not_not false = refl

by_parts : (s : Shape) (free raw : Bool) (slot : Slot) → ((free || raw) && (free || values_fit s.items slot.rec.values)) ≡ ((free || raw) && read_fits s (slot_by free raw slot))
by_parts s true raw slot = refl
by_parts s false true slot = refl
by_parts s false false slot = refl

-- a slot is sound where it is in the format and its values fit
slot_parts : (s : Shape) (bytes : List ℕ) → is_slot (slot_of s bytes) ≡ (is_raw_slot s bytes && read_fits s (raw_of s bytes))
unfolding raw_of
slot_parts s bytes =
    sym (slot_read (slot_of s bytes)) ∙ ap not (bad_parts s bytes)
    ∙ not_not (is_raw_slot s bytes && (is_free s.items bytes || values_fit s.items (values_at s.items (drop 13 bytes))))
    ∙ by_parts s (is_free s.items bytes) (is_raw s bytes) (slot_in s.items bytes)

not_bad : (r : SlotRead) → is_slot r ≡ true → reads_bad r ≡ false
not_bad r good = flip (reads_bad r) (slot_read r ∙ good) where
  flip : (b : Bool) → not b ≡ true → b ≡ false
  flip true h = absurd (cc h)
  flip false h = refl

-- ---- blocks

cross : (a b c d : Bool) → ((a && b) && (c && d)) ≡ ((a && c) && (b && d))
cross true true c d = refl
cross true false true d = refl
cross true false false d = refl
cross false b c d = refl

chunks_parts : (s : Shape) (k : ℕ) (bytes : List ℕ) → are_slots s k bytes ≡ (are_raw_slots s k bytes && list_all (read_fits s) (raw_chunks s k bytes))
chunks_parts s zero bytes = by (list_all is_zero bytes) where
  by : (b : Bool) → b ≡ (b && true)
  by true = refl
  by false = refl
chunks_parts s (suc k) bytes =
    let w = slot_width s.items in
    let first = take w bytes in
    let more = drop w bytes in
    ap (λ b. b && are_slots s k more) (slot_parts s first)
    ∙ ap (λ b. (is_raw_slot s first && read_fits s (raw_of s first)) && b) (chunks_parts s k more)
    ∙ cross (is_raw_slot s first) (read_fits s (raw_of s first)) (are_raw_slots s k more) (list_all (read_fits s) (raw_chunks s k more))

and_into : (a b c : Bool) → (a && (b && c)) ≡ ((a && b) && c)
and_into true b c = refl
and_into false b c = refl

block_parts : (s : Shape) (bytes : List ℕ) → is_block s bytes ≡ (is_row_block s bytes && list_all (read_fits s) (raw_chunks s (per_block s.items) bytes))
unfolding is_block is_row_block
block_parts s bytes =
    ap (λ b. (length bytes == 1024) && b) (chunks_parts s (per_block s.items) bytes)
    ∙ and_into (length bytes == 1024) (are_raw_slots s (per_block s.items) bytes) (list_all (read_fits s) (raw_chunks s (per_block s.items) bytes))

chunks_same : (s : Shape) (k : ℕ) (bytes : List ℕ) → are_slots s k bytes ≡ true → slot_chunks s k bytes ≡ raw_chunks s k bytes
chunks_same s zero bytes good = refl
chunks_same s (suc k) bytes good =
    let w = slot_width s.items in
    let parts = and_parts (is_slot (slot_of s (take w bytes))) (are_slots s k (drop w bytes)) good in
    ap (λ r. r ∷ slot_chunks s k (drop w bytes)) (sym (raw_read s (take w bytes) (not_bad (slot_of s (take w bytes)) parts.0)))
    ∙ ap (λ rs. raw_of s (take w bytes) ∷ rs) (chunks_same s k (drop w bytes) parts.1)

block_same : (s : Shape) (bytes : List ℕ) → is_block s bytes ≡ true → slots_in s bytes ≡ raw_chunks s (per_block s.items) bytes
unfolding slots_in is_block
block_same s bytes good =
    ap (λ b. slots_by b s bytes) good ∙ chunks_same s (per_block s.items) bytes (and_parts (length bytes == 1024) (are_slots s (per_block s.items) bytes) good).1

-- ---- files

all_join : {A : Type 0} (p : A → Bool) (xs ys : List A) → list_all p (xs ++ ys) ≡ (list_all p xs && list_all p ys)
all_join p [] ys = refl
all_join p (x ∷ xs) ys = ap (λ b. p x && b) (all_join p xs ys) ∙ and_into (p x) (list_all p xs) (list_all p ys)

file_parts : (s : Shape) (bs : List (List ℕ)) → list_all (is_block s) bs ≡ (list_all (is_row_block s) bs && list_all (read_fits s) (raw_rows s bs))
file_parts s [] = refl
file_parts s (b ∷ bs) =
    let row = raw_chunks s (per_block s.items) b in
    ap (λ x. x && list_all (is_block s) bs) (block_parts s b)
    ∙ ap (λ x. (is_row_block s b && list_all (read_fits s) row) && x) (file_parts s bs)
    ∙ cross (is_row_block s b) (list_all (read_fits s) row) (list_all (is_row_block s) bs) (list_all (read_fits s) (raw_rows s bs))
    ∙ ap (λ x. (is_row_block s b && list_all (is_row_block s) bs) && x) (sym (all_join (read_fits s) row (raw_rows s bs)))

file_same : (s : Shape) (bs : List (List ℕ)) → list_all (is_block s) bs ≡ true → slots_of s bs ≡ raw_rows s bs
file_same s [] good = refl
file_same s (b ∷ bs) good =
    let parts = and_parts (is_block s b) (list_all (is_block s) bs) good in
    ap (λ xs. xs ++ slots_of s bs) (block_same s b parts.0) ∙ ap (λ xs. raw_chunks s (per_block s.items) b ++ xs) (file_same s bs parts.1)

pub rows_agree : RowsAgree
rows_agree = record { blocks = file_parts; rows = file_same }
