-- The slots of a block after one of them was written.
use Rattle.std.proofs.Common.{◌≡◌, ◌+◌, ◌*◌, ◌<◌, ◌≤◌, ℕ, zero, suc, List, [], ◌∷◌, ◌++◌, true, refl, sym, ap, ◌∙◌, length, take, drop, set, arith}
use Rattle.std.specs.Prelude.{◌==◌}
use Rattle.std.proofs.lemmas.List.{take_at, drop_at, take-append-drop, length-take-le, length-drop}
use Rattle.std.proofs.lemmas.Bool.Decides.{nat_tests}
use Rattle.std.proofs.lemmas.Nat.{div-add-mod'}
use Rattle.std.proofs.Math.Nat as nat
use Rattle.std.proofs.lemmas.Bool.{and_from, and_parts}
use Rattle.dms_fields.specs.Laying.{laid_length}
use Rattle.dms_desc.specs.Shape.{Shape}
use Rattle.dms_fields.specs.Fields.{lay_bytes}
use Rattle.dms_layout.specs.Slots.{slot_width, slot_of}
use Rattle.dms_slots.specs.SlotBlocks.{per_block, is_slot, are_slots, is_block, slot_chunks, slots_by, slots_in}

laid_more : (a : ℕ) (x : List ℕ) (b : ℕ) (l : List ℕ) → lay_bytes (suc a) x (b ∷ l) ≡ b ∷ lay_bytes a x l
unfolding lay_bytes
laid_more a x b l = ap (λ n. b ∷ (take a l ++ (x ++ drop n (b ∷ l)))) (let e : suc a + length x ≡ suc (a + length x) = omega arith in e)

laid_behind : (prefix rest x : List ℕ) (a n : ℕ) → n ≡ length prefix + a → lay_bytes n x (prefix ++ rest) ≡ prefix ++ lay_bytes a x rest
laid_behind [] rest x a n e = ap (λ k. lay_bytes k x rest) (let h : n ≡ a = omega (arith, e) in h)
laid_behind (b ∷ prefix) rest x a n e =
    ap (λ k. lay_bytes k x (b ∷ (prefix ++ rest))) (let h : n ≡ suc (length prefix + a) = omega (arith, e) in h)
    ∙ laid_more (length prefix + a) x b (prefix ++ rest) ∙ ap (λ l. b ∷ l) (laid_behind prefix rest x a (length prefix + a) refl)

laid_first : (x rest : List ℕ) (n : ℕ) → n ≡ 0 → lay_bytes n x rest ≡ x ++ drop (length x) rest
unfolding lay_bytes
laid_first x rest n e = ap (λ k. take k rest ++ (x ++ drop (k + length x) rest)) e ∙ ap (λ k. x ++ drop k rest) (let h : 0 + length x ≡ length x = omega arith in h)

-- the block with its first slot by itself
laid_parts : (w p : ℕ) (x block : List ℕ) → w ≤ length block → lay_bytes (suc p * w) x block ≡ take w block ++ lay_bytes (p * w) x (drop w block)
laid_parts w p x block long =
    ap (λ l. lay_bytes (suc p * w) x l) (sym (take-append-drop w block))
    ∙ laid_behind (take w block) (drop w block) x (p * w) (suc p * w) (omega (arith, length-take-le w block long, nat.suc-mul p w))

pub cut_written : (s : Shape) (k p : ℕ) (x block : List ℕ) → p < k → k * slot_width s.items ≤ length block → length x ≡ slot_width s.items
    → slot_chunks s k (lay_bytes (p * slot_width s.items) x block) ≡ set (slot_chunks s k block) p (slot_of s x)
cut_written s zero p x block low long width = absurd (omega arith)
cut_written s (suc k) zero x block low long width =
    let w = slot_width s.items in
    let is : lay_bytes (0 * w) x block ≡ x ++ drop w block = laid_first x block (0 * w) (omega arith) ∙ ap (λ n. x ++ drop n block) width in
    (λ i. slot_of s ((ap (take w) is ∙ take_at x (drop w block) w width) i) ∷ slot_chunks s k ((ap (drop w) is ∙ drop_at x (drop w block) w width) i))
cut_written s (suc k) (suc p) x block low long width =
    let w = slot_width s.items in
    let room : w ≤ length block = omega (arith, long, nat.suc-mul k w) in
    let is = laid_parts w p x block room in
    let size = length-take-le w block room in
    let rest : k * w ≤ length (drop w block) = omega (arith, long, nat.suc-mul k w, length-drop w block) in
    (λ i. slot_of s ((ap (take w) is ∙ take_at (take w block) (lay_bytes (p * w) x (drop w block)) w size) i)
    ∷ (ap (slot_chunks s k) (ap (drop w) is ∙ drop_at (take w block) (lay_bytes (p * w) x (drop w block)) w size) ∙ cut_written s k p x (drop w block) (omega arith) rest width) i)

pub still_slots : (s : Shape) (k p : ℕ) (x block : List ℕ) → p < k → k * slot_width s.items ≤ length block → length x ≡ slot_width s.items
    → is_slot (slot_of s x) ≡ true → are_slots s k block ≡ true → are_slots s k (lay_bytes (p * slot_width s.items) x block) ≡ true
still_slots s zero p x block low long width good all = absurd (omega arith)
still_slots s (suc k) zero x block low long width good all =
    let w = slot_width s.items in
    let is : lay_bytes (0 * w) x block ≡ x ++ drop w block = laid_first x block (0 * w) (omega arith) ∙ ap (λ n. x ++ drop n block) width in
    let both = and_parts (is_slot (slot_of s (take w block))) (are_slots s k (drop w block)) all in
    and_from _ _ (ap (λ l. is_slot (slot_of s l)) (ap (take w) is ∙ take_at x (drop w block) w width) ∙ good) (ap (are_slots s k) (ap (drop w) is ∙ drop_at x (drop w block) w width) ∙ both.1)
still_slots s (suc k) (suc p) x block low long width good all =
    let w = slot_width s.items in
    let room : w ≤ length block = omega (arith, long, nat.suc-mul k w) in
    let is = laid_parts w p x block room in
    let size = length-take-le w block room in
    let rest : k * w ≤ length (drop w block) = omega (arith, long, nat.suc-mul k w, length-drop w block) in
    let both = and_parts (is_slot (slot_of s (take w block))) (are_slots s k (drop w block)) all in
    and_from _ _ (ap (λ l. is_slot (slot_of s l)) (ap (take w) is ∙ take_at (take w block) (lay_bytes (p * w) x (drop w block)) w size) ∙ both.0)
    (ap (are_slots s k) (ap (drop w) is ∙ drop_at (take w block) (lay_bytes (p * w) x (drop w block)) w size) ∙ still_slots s k p x (drop w block) (omega arith) rest width good both.1)

-- the slots of a block fit into it
pub room : (s : Shape) → per_block s.items * slot_width s.items ≤ 1024
room s = omega (arith, div-add-mod' 1024 (slot_width s.items))

-- a block in which one slot was written is a block, and its other slots are as they were
pub block_written : (s : Shape) (p : ℕ) (x block : List ℕ) → p < per_block s.items → length x ≡ slot_width s.items
    → is_slot (slot_of s x) ≡ true → is_block s block ≡ true
    → (is_block s (lay_bytes (p * slot_width s.items) x block) ≡ true) × (slots_in s (lay_bytes (p * slot_width s.items) x block) ≡ set (slots_in s block) p (slot_of s x))
unfolding is_block slots_in
block_written s p x block low width good all =
    let w = slot_width s.items in
    let both = and_parts (length block == 1024) (are_slots s (per_block s.items) block) all in
    let size : length block ≡ 1024 = grind (arith, nat_tests, both.0) in
    let long : per_block s.items * w ≤ length block = omega (arith, size, room s) in
    let within : p * w + length x ≤ length block = omega (arith, long, width, nat.suc-mul p w, nat.mul-le-mul_right w (let h : suc p ≤ per_block s.items = omega (arith, low) in h)) in
    let same = laid_length (p * w) x block within in
    let still = and_from _ _ (ap (λ n. n == 1024) same ∙ both.0) (still_slots s (per_block s.items) p x block low long width good both.1) in
    (still, ap (λ b. slots_by b s (lay_bytes (p * w) x block)) still ∙ cut_written s (per_block s.items) p x block low long width ∙ ap (λ b. set (slots_by b s block) p (slot_of s x)) (sym all))
