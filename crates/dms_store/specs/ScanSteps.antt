-- One step of a search through the slots of a data set.
use Rattle.std.proofs.Common.{◌≡◌, ◌∙◌, ◌+◌, ◌-◌, ◌*◌, ◌≤◌, ◌<◌, ℕ, zero, suc, List, [], ◌∷◌, Some, None, refl, ap, take, drop, length, length-append, min, slice_get, arith}
use Rattle.std.proofs.Math.Nat as nat
use Rattle.dms_desc.specs.Shape.{Shape}
use Rattle.dms_desc.specs.Sorted.{or_else}
use Rattle.dms_layout.specs.declared.slot.SlotRead.{SlotRead}
use Rattle.dms_model.specs.declared.spot.Spot.{Spot}
use Rattle.dms_slots.specs.SlotBlockLaws.{slots_length}
use Rattle.dms_slots.specs.SlotBlocks.{or_free, per_block, slot_at, slots_in, slots_of}
use Rattle.dms_store.specs.ScanLaws.{scan_back, scan_on}
use Rattle.dms_store.specs.Scans.{first_used, last_used, owned_spot}

none_of : (m : ℕ) → 0 ≡ 0 * m
none_of m = omega arith

one_more : (n m : ℕ) → m + n * m ≡ suc n * m
one_more n m = omega (arith, nat.suc-mul n m)

-- a file has as many slots as its blocks have
pub slots_long : (s : Shape) (bs : List (List ℕ)) → length (slots_of s bs) ≡ length bs * per_block s.items
slots_long s [] = none_of (per_block s.items)
slots_long s (b ∷ bs) =
    length-append (slots_in s b) (slots_of s bs) ∙ (λ i. slots_length s b i + slots_long s bs i) ∙ one_more (length bs) (per_block s.items)

take_get : (p i : ℕ) (rs : List SlotRead) → i < p → slice_get (take p rs) i ≡ slice_get rs i
take_get zero i rs low = absurd (omega (arith, low))
take_get (suc p) i [] low = refl
take_get (suc p) zero (r ∷ rs) low = refl
take_get (suc p) (suc i) (r ∷ rs) low = take_get p i rs (omega (arith, low))

take_long : (p i : ℕ) (rs : List SlotRead) → i < p → i < length rs → i < length (take p rs)
take_long zero i rs low there = absurd (omega (arith, low))
take_long (suc p) i [] low there = absurd (omega (arith, there))
take_long (suc p) zero (r ∷ rs) low there = omega arith
take_long (suc p) (suc i) (r ∷ rs) low there = omega (arith, take_long p i rs (omega (arith, low)) (omega (arith, there)))

none_left : (i p : ℕ) (rs : List SlotRead) → min (length rs) p ≤ i → drop i (take p rs) ≡ []
none_left zero zero rs past = refl
none_left zero (suc p) [] past = refl
none_left zero (suc p) (r ∷ rs) past = absurd (omega (arith, past))
none_left (suc i) zero rs past = refl
none_left (suc i) (suc p) [] past = refl
none_left (suc i) (suc p) (r ∷ rs) past = none_left i p rs (omega (arith, past))

module _ (s : Shape) (bs : List (List ℕ)) (owner : ℕ) where
  abbrev slots : List SlotRead
  slots = slots_of s bs

  next_step : (p i : ℕ) → i < min (length bs * per_block s.items) p
      → first_used owner (1 + i) (drop i (take p slots)) ≡ or_else (owned_spot owner (i + 1) (slot_at s bs (i + 1))) (first_used owner (1 + (i + 1)) (drop (i + 1) (take p slots)))
  next_step p i low =
      let there : i < length slots = omega (arith, low, slots_long s bs) in
      let few : i < p = omega (arith, low) in
      let e : 1 + i ≡ i + 1 = omega arith in
      let f : (1 + i) + 1 ≡ 1 + (i + 1) = omega arith in
      let d : i ≡ (i + 1) - 1 = omega arith in
      scan_on owner (1 + i) i (take p slots) (slot_at s bs (i + 1)) (take_long p i slots few there) (ap or_free (take_get p i slots few ∙ ap (slice_get slots) d))
      ∙ (λ k. or_else (owned_spot owner (e k) (slot_at s bs (i + 1))) (first_used owner (f k) (drop (i + 1) (take p slots))))

  pub next_free : (p i : ℕ) → i < min (length bs * per_block s.items) p → owned_spot owner (i + 1) (slot_at s bs (i + 1)) ≡ None
      → first_used owner (1 + i) (drop i (take p slots)) ≡ first_used owner (1 + (i + 1)) (drop (i + 1) (take p slots))
  next_free p i low none = next_step p i low ∙ ap (λ o. or_else o (first_used owner (1 + (i + 1)) (drop (i + 1) (take p slots)))) none

  pub next_found : (p i : ℕ) (x : Spot) → i < min (length bs * per_block s.items) p → owned_spot owner (i + 1) (slot_at s bs (i + 1)) ≡ Some x
      → first_used owner (1 + i) (drop i (take p slots)) ≡ Some x
  next_found p i x low some = next_step p i low ∙ ap (λ o. or_else o (first_used owner (1 + (i + 1)) (drop (i + 1) (take p slots)))) some

  pub next_end : (p i : ℕ) → min (length bs * per_block s.items) p ≤ i → first_used owner (1 + i) (drop i (take p slots)) ≡ None
  next_end p i past = ap (first_used owner (1 + i)) (none_left i p slots (omega (arith, past, slots_long s bs)))

  last_step : (k : ℕ) → 1 ≤ k → k ≤ length bs * per_block s.items → last_used owner 1 (take k slots) ≡ or_else (owned_spot owner k (slot_at s bs k)) (last_used owner 1 (take (k - 1) slots))
  last_step k low there =
      let e : k ≡ (k - 1) + 1 = omega (arith, low) in
      let f : 1 + (k - 1) ≡ k = omega (arith, low) in
      ap (λ j. last_used owner 1 (take j slots)) e
      ∙ scan_back owner 1 (k - 1) slots (slot_at s bs k) (omega (arith, there, low, slots_long s bs)) refl
      ∙ ap (λ j. or_else (owned_spot owner j (slot_at s bs k)) (last_used owner 1 (take (k - 1) slots))) f

  pub last_free : (k : ℕ) → 1 ≤ k → k ≤ length bs * per_block s.items → owned_spot owner k (slot_at s bs k) ≡ None → last_used owner 1 (take k slots) ≡ last_used owner 1 (take (k - 1) slots)
  last_free k low there none = last_step k low there ∙ ap (λ o. or_else o (last_used owner 1 (take (k - 1) slots))) none

  pub last_found : (k : ℕ) (x : Spot) → 1 ≤ k → k ≤ length bs * per_block s.items → owned_spot owner k (slot_at s bs k) ≡ Some x → last_used owner 1 (take k slots) ≡ Some x
  last_found k x low there some = last_step k low there ∙ ap (λ o. or_else o (last_used owner 1 (take (k - 1) slots))) some
