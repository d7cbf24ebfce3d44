-- A walk through the rows of a block.
use Rattle.std.proofs.Common.{◌≡◌, ◌+◌, ◌-◌, ◌<◌, ◌≤◌, ◌∙◌, ℕ, zero, suc, List, [], ◌∷◌, Bool, true, false, Some, None, cond, refl, sym, ap, take, drop, arith}
use Rattle.std.specs.declared.option.Option.{Option}
use Rattle.dms_desc.specs.Shape.{Shape}
use Rattle.dms_layout.specs.declared.slot.SlotRead.{SlotRead}
use Rattle.dms_layout.specs.Slots.{raw_of, slot_width}
use Rattle.dms_rows.specs.Alone.{first_alone, keeps_alone}
use Rattle.dms_rows.specs.Rows.{raw_chunks}

left_more : (i n : ℕ) → i < n → n - i ≡ suc (n - (i + 1))
left_more i n low = omega arith

plus_one : (n : ℕ) → suc n ≡ n + 1
plus_one n = omega arith

module _ (s : Shape) (i n w : ℕ) (rest slot : List ℕ) (r : SlotRead) (o : Option ℕ) (low : i < n) (width : w ≡ slot_width s.items) (here : slot ≡ take w rest)
    (is : r ≡ raw_of s slot) (so_far : first_alone s i (raw_chunks s (n - i) rest) ≡ o) where
  seen_by : cond (keeps_alone s r) (first_alone s (suc i) (raw_chunks s (n - (i + 1)) (drop (slot_width s.items) rest))) (Some i) ≡ o
  seen_by =
      ap (λ x. cond (keeps_alone s x) (first_alone s (suc i) (raw_chunks s (n - (i + 1)) (drop (slot_width s.items) rest))) (Some i)) (is ∙ ap (raw_of s) (here ∙ ap (λ k. take k rest) width))
      ∙ ap (λ k. first_alone s i (raw_chunks s k rest)) (sym (left_more i n low)) ∙ so_far

  pub walk_on : (more : List ℕ) → more ≡ drop w rest → keeps_alone s r ≡ true → first_alone s (i + 1) (raw_chunks s (n - (i + 1)) more) ≡ o
  walk_on more behind good =
      ap (λ l. first_alone s (i + 1) (raw_chunks s (n - (i + 1)) l)) (behind ∙ ap (λ k. drop k rest) width)
      ∙ ap (λ k. first_alone s k (raw_chunks s (n - (i + 1)) (drop (slot_width s.items) rest))) (sym (plus_one i))
      ∙ sym (ap (λ (t : Bool). cond t (first_alone s (suc i) (raw_chunks s (n - (i + 1)) (drop (slot_width s.items) rest))) (Some i)) good) ∙ seen_by

  pub walk_stops : keeps_alone s r ≡ false → Some i ≡ o
  walk_stops bad = sym (ap (λ (t : Bool). cond t (first_alone s (suc i) (raw_chunks s (n - (i + 1)) (drop (slot_width s.items) rest))) (Some i)) bad) ∙ seen_by

pub walk_ends : (s : Shape) (i n k : ℕ) (rest : List ℕ) (o : Option ℕ) → k ≡ n → k ≤ i → first_alone s i (raw_chunks s (n - i) rest) ≡ o → None ≡ o
walk_ends s i n k rest o e past so_far = ap (λ j. first_alone s i (raw_chunks s j rest)) (let h : 0 ≡ n - i = omega (arith, e) in h) ∙ so_far
