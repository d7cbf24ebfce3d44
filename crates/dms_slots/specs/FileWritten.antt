-- The slots of a file after one of them was written.
use Rattle.std.proofs.Common.{◌≡◌, ◌≢◌, ◌+◌, ◌-◌, ◌*◌, ◌/◌, ◌%◌, ◌<◌, ◌≤◌, ℕ, zero, suc, List, [], ◌∷◌, Bool, true, false, inl, inr, refl, sym, ap, ◌∙◌, subst, length, take, replicate, set, slice_get, arith}
use Rattle.std.specs.Prelude.{◌==◌}
use Rattle.std.specs.declared.option.Option.TheVariants.{Some}
use Rattle.std.specs.List.{list_all}
use Rattle.std.proofs.lemmas.Bool.{cases_eq, cases_lt, and_from, and_parts, true≢false}
use Rattle.std.proofs.lemmas.List.{length-replicate, take-replicate, drop-replicate}
use Rattle.std.proofs.lemmas.Nat.{div-add-mod'}
use Rattle.std.proofs.lemmas.Bool.Decides.{nat_tests}
use Rattle.std.proofs.Math.Nat as nat
use Rattle.dms_desc.specs.Shape.{Shape}
use Rattle.dms_fields.specs.Fields.{lay_bytes}
use Rattle.dms_block.specs.Content.{Content, put_block}
use Rattle.dms_block.specs.ContentLaws.{in_file}
use Rattle.dms_layout.specs.declared.slot.Slot.{Slot}
use Rattle.dms_layout.specs.declared.slot.SlotRead.{SlotRead}
use Rattle.dms_layout.specs.declared.slot.SlotRead.TheVariants.{Free, Used, Bad}
use Rattle.dms_layout.specs.Slots.{slot_width, slot_bytes, slot_of, SlotFits, AreKinds}
use Rattle.dms_layout.specs.SlotLaws.{slot_again, slot_long}
use Rattle.dms_layout.specs.ReadLaws.{used_fits, free_is, free_again, are_zeros}
use Rattle.dms_desc.specs.Files.{file_of}
use Rattle.dms_slots.specs.SlotBlocks.{per_block, block_of, place_of, is_slot, are_slots, is_block, slot_chunks, slots_by, slots_in, or_free, slot_at, block_at, slot_put, MayPutSlot}
use Rattle.dms_slots.specs.SlotBlockLaws.{bad_block, place_bad, slot_there, slot_past, slots_length, some_at, none_at}
use Rattle.dms_slots.specs.Written.{room, block_written, cut_written}

-- ---- lists

free_get : (k p : ℕ) → or_free (slice_get (replicate k Free) p) ≡ Free
free_get zero p = refl
free_get (suc k) zero = refl
free_get (suc k) (suc p) = free_get k p

pub set_here : (l : List SlotRead) (p : ℕ) (r : SlotRead) → p < length l → slice_get (set l p r) p ≡ Some r
set_here [] p r low = absurd (omega arith)
set_here (x ∷ l) zero r low = refl
set_here (x ∷ l) (suc p) r low = set_here l p r (omega arith)

pub set_other : (l : List SlotRead) (p k : ℕ) (r : SlotRead) → k ≢ p → slice_get (set l p r) k ≡ slice_get l k
set_other [] p k r other = refl
set_other (x ∷ l) zero zero r other = absurd (other refl)
set_other (x ∷ l) zero (suc k) r other = refl
set_other (x ∷ l) (suc p) zero r other = refl
set_other (x ∷ l) (suc p) (suc k) r other = set_other l p k r (λ e. other (ap suc e))

at_laid : (b : ℕ) (x : List ℕ) (bs : List (List ℕ)) → b ≤ length bs → block_at (put_block b x bs) b ≡ x
at_laid zero x [] low = refl
at_laid (suc b) x [] low = absurd (omega arith)
at_laid zero x (z ∷ bs) low = refl
at_laid (suc b) x (z ∷ bs) low = at_laid b x bs (omega arith)

off_laid : (b k : ℕ) (x : List ℕ) (bs : List (List ℕ)) → b ≤ length bs → k ≢ b → block_at (put_block b x bs) k ≡ block_at bs k
off_laid zero zero x bs low other = absurd (other refl)
off_laid zero (suc k) x [] low other = refl
off_laid (suc b) k x [] low other = absurd (omega arith)
off_laid zero (suc k) x (z ∷ bs) low other = refl
off_laid (suc b) zero x (z ∷ bs) low other = refl
off_laid (suc b) (suc k) x (z ∷ bs) low other = off_laid b k x bs (omega arith) (λ e. other (ap suc e))

-- ---- a block of zeros

zeros_first : (s : Shape) (n : ℕ) → slot_width s.items ≤ n → slot_of s (take (slot_width s.items) (replicate n 0)) ≡ Free
zeros_first s n low = ap (slot_of s) (take-replicate (slot_width s.items) n 0 low) ∙ free_again s

zeros_good : (s : Shape) (k n : ℕ) → k * slot_width s.items ≤ n → are_slots s k (replicate n 0) ≡ true
zeros_good s zero n low = are_zeros n
zeros_good s (suc k) n low =
    let w = slot_width s.items in
    let first : w ≤ n = omega (arith, low, nat.suc-mul k w) in
    let rest : k * w ≤ n - w = omega (arith, low, nat.suc-mul k w) in
    and_from _ _ (ap is_slot (zeros_first s n first)) (ap (are_slots s k) (drop-replicate w n 0) ∙ zeros_good s k (n - w) rest)

zeros_slots : (s : Shape) (k n : ℕ) → k * slot_width s.items ≤ n → slot_chunks s k (replicate n 0) ≡ replicate k Free
zeros_slots s zero n low = refl
zeros_slots s (suc k) n low =
    let w = slot_width s.items in
    let first : w ≤ n = omega (arith, low, nat.suc-mul k w) in
    let rest : k * w ≤ n - w = omega (arith, low, nat.suc-mul k w) in
    (λ i. zeros_first s n first i ∷ (ap (slot_chunks s k) (drop-replicate w n 0) ∙ zeros_slots s k (n - w) rest) i)

pub zeros_block : (s : Shape) → is_block s (replicate 1024 0) ≡ true
unfolding is_block
zeros_block s = and_from _ _ (ap (λ n. n == 1024) (length-replicate {A = ℕ} 1024 0)) (zeros_good s (per_block s.items) 1024 (room s))

pub zeros_in : (s : Shape) (p : ℕ) → or_free (slice_get (slots_in s (replicate 1024 0)) p) ≡ Free
unfolding slots_in
zeros_in s p =
    ap (λ b. or_free (slice_get (slots_by b s (replicate 1024 0)) p)) (zeros_block s)
    ∙ ap (λ l. or_free (slice_get l p)) (zeros_slots s (per_block s.items) 1024 (room s)) ∙ free_get (per_block s.items) p

-- ---- what slots fill

slot_fine : (r : SlotRead) → r ≢ Bad → is_slot r ≡ true
slot_fine Free fine = refl
slot_fine (Used slot) fine = refl
slot_fine Bad fine = absurd (fine refl)

slot_size : (s : Shape) (x : List ℕ) (r : SlotRead) → slot_of s x ≡ r → is_slot r ≡ true → length x ≡ slot_width s.items
slot_size s x Free is good = ap length (free_is s x is) ∙ length-replicate {A = ℕ} (slot_width s.items) 0
slot_size s x (Used slot) is good =
    let both = used_fits s x slot is in
    ap length both.1 ∙ slot_long s.items slot both.0.values
slot_size s x Bad is good = absurd (cc (good))

-- ---- a file

-- the slot of a number in its block, also where the file has no such block yet
pub slot_is : (s : Shape) (bs : List (List ℕ)) (number : ℕ) → 0 < per_block s.items
    → slot_at s bs number ≡ or_free (slice_get (slots_in s (block_at bs (block_of s.items number))) (place_of s.items number))
slot_is s bs number some = elim (cases_lt (block_of s.items number) (length bs)) [
  | inl low ↦
      slot_there s bs number (per_block s.items) refl some low
      ∙ ap (λ x. or_free (slice_get (slots_in s x) (place_of s.items number))) (some_at bs (block_of s.items number) low)
  | inr no_low ↦
      let past : length bs ≤ block_of s.items number = no_low in
      slot_past s bs number (per_block s.items) refl past
      ∙ sym (ap (λ x. or_free (slice_get (slots_in s x) (place_of s.items number))) (none_at bs (block_of s.items number) past) ∙ zeros_in s (place_of s.items number))
]

good_by : (b : Bool) (s : Shape) (block : List ℕ) (p : ℕ) → is_block s block ≡ b → p < per_block s.items → or_free (slice_get (slots_in s block) p) ≢ Bad → b ≡ true
good_by true s block p is low fine = refl
good_by false s block p is low fine = absurd (fine (sym (place_bad s block p low is)))

-- the block of a slot that isn't bad
pub good_block : (s : Shape) (bs : List (List ℕ)) (number : ℕ) → 0 < per_block s.items → slot_at s bs number ≢ Bad → is_block s (block_at bs (block_of s.items number)) ≡ true
good_block s bs number some fine =
    good_by _ s (block_at bs (block_of s.items number)) (place_of s.items number) refl (nat.mod-lt (number - 1) some) (λ e. fine (slot_is s bs number some ∙ e))

-- and no slot of a block is bad
pub slot_good : (s : Shape) (bs : List (List ℕ)) (number : ℕ) → 0 < per_block s.items → is_block s (block_at bs (block_of s.items number)) ≡ true → slot_at s bs number ≢ Bad
slot_good s bs number some good = λ e. true≢false (sym good ∙ bad_block s (block_at bs (block_of s.items number)) (place_of s.items number) (nat.mod-lt (number - 1) some) (sym (slot_is s bs number some) ∙ e))

block_there : (s : Shape) (bs : List (List ℕ)) (b : ℕ) → list_all (is_block s) bs ≡ true → is_block s (block_at bs b) ≡ true
block_there s [] b all = zeros_block s
block_there s (x ∷ bs) zero all = (and_parts (is_block s x) (list_all (is_block s) bs) all).0
block_there s (x ∷ bs) (suc b) all = block_there s bs b (and_parts (is_block s x) (list_all (is_block s) bs) all).1

-- so none of a file of such blocks is
pub all_good : (s : Shape) (bs : List (List ℕ)) (number : ℕ) → 0 < per_block s.items → list_all (is_block s) bs ≡ true → slot_at s bs number ≢ Bad
all_good s bs number some all = slot_good s bs number some (block_there s bs (block_of s.items number) all)

all_laid : (p : List ℕ → Bool) (b : ℕ) (x : List ℕ) (bs : List (List ℕ)) → list_all p bs ≡ true → p x ≡ true → list_all p (put_block b x bs) ≡ true
all_laid p zero x [] all good = and_from _ _ good refl
all_laid p (suc b) x [] all good = and_from _ _ good refl
all_laid p zero x (z ∷ bs) all good = and_from _ _ good (and_parts (p z) (list_all p bs) all).1
all_laid p (suc b) x (z ∷ bs) all good = let both = and_parts (p z) (list_all p bs) all in and_from _ _ both.0 (all_laid p b x bs both.1 good)

same_number : (items_per a b : ℕ) → 0 < items_per → 1 ≤ a → 1 ≤ b → (a - 1) / items_per ≡ (b - 1) / items_per → (a - 1) % items_per ≡ (b - 1) % items_per → a ≡ b
same_number per a b some low_a low_b blocks places =
    let e : (a - 1) / per * per + (a - 1) % per ≡ (b - 1) / per * per + (b - 1) % per = (λ i. blocks i * per + places i) in
    omega (arith, div-add-mod' (a - 1) per, div-add-mod' (b - 1) per, e)

pub some_slot : (w : ℕ) → w ≤ 1024 → 0 < w → 0 < 1024 / w
some_slot w fits low =
    let once : 1 * w ≤ 1024 = omega (arith, fits) in
    let some : 1 ≤ 1024 / w = (nat.le-div_iff_mul-le low).1 once in
    omega (arith, some)

module _ (s : Shape) (c : Content) (number : ℕ) (bytes : List ℕ) (may : MayPutSlot s c number) (fine : slot_of s bytes ≢ Bad) where
  abbrev old : List ℕ
  old = block_at (c (file_of s.number)) (block_of s.items number)

  abbrev new : List ℕ
  new = lay_bytes (place_of s.items number * slot_width s.items) bytes (block_at (c (file_of s.number)) (block_of s.items number))

  some : 0 < per_block s.items
  some = some_slot (slot_width s.items) may.fits (omega arith)

  changed_in : slots_in s new ≡ set (slots_in s old) (place_of s.items number) (slot_of s bytes)
  changed_in =
      let good = good_block s (c (file_of s.number)) number some may.sound in
      let is = slot_fine (slot_of s bytes) fine in
      (block_written s (place_of s.items number) bytes old (nat.mod-lt (number - 1) some) (slot_size s bytes _ refl is) is good).1

  blocks_are : slot_put s number bytes c (file_of s.number) ≡ put_block (block_of s.items number) new (c (file_of s.number))
  blocks_are = in_file c (file_of s.number) (block_of s.items number) new

  -- the slot that was written
  pub put_here : slot_at s (slot_put s number bytes c (file_of s.number)) number ≡ slot_of s bytes
  put_here =
      let p = place_of s.items number in
      let low : p < length (slots_in s old) = subst (λ n. p < n) (sym (slots_length s old)) (nat.mod-lt (number - 1) some) in
      ap (λ x. slot_at s x number) blocks_are ∙ slot_is s _ number some
      ∙ ap (λ x. or_free (slice_get (slots_in s x) p)) (at_laid (block_of s.items number) new (c (file_of s.number)) may.next)
      ∙ ap (λ l. or_free (slice_get l p)) changed_in ∙ ap or_free (set_here (slots_in s old) p (slot_of s bytes) low)

  -- each other one
  pub put_other : (other : ℕ) → 1 ≤ other → other ≢ number → slot_at s (slot_put s number bytes c (file_of s.number)) other ≡ slot_at s (c (file_of s.number)) other
  put_other other low apart =
      let b = block_of s.items number in
      let k = block_of s.items other in
      let p = place_of s.items other in
      let over : List ℕ → SlotRead = λ x. or_free (slice_get (slots_in s x) p) in
      let start = ap (λ x. slot_at s x other) blocks_are ∙ slot_is s _ other some in
      let end = sym (slot_is s (c (file_of s.number)) other some) in
      elim (cases_eq k b) [
        | inl same ↦
            let off : p ≢ place_of s.items number = λ e. apart (same_number (per_block s.items) other number some low may.low same e) in
            start ∙ ap (λ j. over (block_at (put_block b new (c (file_of s.number))) j)) same ∙ ap over (at_laid b new (c (file_of s.number)) may.next)
            ∙ ap (λ l. or_free (slice_get l p)) changed_in ∙ ap or_free (set_other (slots_in s old) (place_of s.items number) p (slot_of s bytes) off)
            ∙ ap (λ j. over (block_at (c (file_of s.number)) j)) (sym same) ∙ end
        | inr off ↦ start ∙ ap over (off_laid b k new (c (file_of s.number)) may.next off) ∙ end
      ]

  -- the file still has blocks of slots alone
  pub put_blocks : list_all (is_block s) (c (file_of s.number)) ≡ true → list_all (is_block s) (slot_put s number bytes c (file_of s.number)) ≡ true
  put_blocks all =
      let good = good_block s (c (file_of s.number)) number some may.sound in
      let is = slot_fine (slot_of s bytes) fine in
      let here = (block_written s (place_of s.items number) bytes old (nat.mod-lt (number - 1) some) (slot_size s bytes _ refl is) is good).0 in
      ap (list_all (is_block s)) blocks_are ∙ all_laid (is_block s) (block_of s.items number) new (c (file_of s.number)) all here

free_fine : (s : Shape) → slot_of s (replicate (slot_width s.items) 0) ≢ Bad
free_fine s = λ e. let h : Free ≡ Bad = sym (free_again s) ∙ e in cc h

pub used_fine : (s : Shape) (slot : Slot) → AreKinds s.items → SlotFits s slot → slot_of s (slot_bytes s.items slot) ≢ Bad
used_fine s slot kinds fits = λ e. let h : Used slot ≡ Bad = sym (slot_again s slot kinds fits) ∙ e in cc h

-- a record that was written is read
pub put_used : (s : Shape) (c : Content) (number : ℕ) (slot : Slot) → AreKinds s.items → SlotFits s slot → MayPutSlot s c number
    → slot_at s (slot_put s number (slot_bytes s.items slot) c (file_of s.number)) number ≡ Used slot
put_used s c number slot kinds fits may = put_here s c number (slot_bytes s.items slot) may (used_fine s slot kinds fits) ∙ slot_again s slot kinds fits

-- a slot that was made free is free
pub put_free : (s : Shape) (c : Content) (number : ℕ) → MayPutSlot s c number
    → slot_at s (slot_put s number (replicate (slot_width s.items) 0) c (file_of s.number)) number ≡ Free
put_free s c number may = put_here s c number (replicate (slot_width s.items) 0) may (free_fine s) ∙ free_again s

-- ---- what a slot that isn't free leaves

bad_apart : Bad ≡ Free → ⊥
bad_apart h = absurd (cc h)

module _ (s : Shape) (c : Content) (number : ℕ) (bytes : List ℕ) (may : MayPutSlot s c number) (width : length bytes ≡ slot_width s.items) where
  abbrev was : List ℕ
  was = block_at (c (file_of s.number)) (block_of s.items number)

  abbrev is : List ℕ
  is = lay_bytes (place_of s.items number * slot_width s.items) bytes (block_at (c (file_of s.number)) (block_of s.items number))

  has : 0 < per_block s.items
  has = some_slot (slot_width s.items) may.fits (omega arith)

  was_block : is_block s was ≡ true
  was_block = good_block s (c (file_of s.number)) number has may.sound

  -- bytes that are no slot make no block
  no_block : slot_of s bytes ≡ Bad → is_block s is ≡ false
  unfolding slots_in is_block
  no_block bad = by (is_block s is) refl
    where
      p : ℕ
      p = place_of s.items number

      low : p < per_block s.items
      low = nat.mod-lt (number - 1) has

      long : per_block s.items * slot_width s.items ≤ length was
      long =
          let size : length was ≡ 1024 = grind (arith, nat_tests, (and_parts (length was == 1024) (are_slots s (per_block s.items) was) was_block).0) in
          omega (arith, size, room s)

      by : (b : Bool) → is_block s is ≡ b → is_block s is ≡ false
      by false e = e
      by true e =
          let cut = ap (λ b. slots_by b s is) e ∙ cut_written s (per_block s.items) p bytes was low long width ∙ ap (λ b. set (slots_by b s was) p (slot_of s bytes)) (sym was_block) in
          let there : p < length (slots_in s was) = subst (λ n. p < n) (sym (slots_length s was)) low in
          bad_block s is p low (ap (λ l. or_free (slice_get l p)) cut ∙ ap or_free (set_here (slots_in s was) p (slot_of s bytes) there) ∙ bad)

  -- no slot is free that wasn't
  pub put_taken : slot_of s bytes ≢ Free → (other : ℕ) → 1 ≤ other → slot_at s (c (file_of s.number)) other ≢ Free → slot_at s (slot_put s number bytes c (file_of s.number)) other ≢ Free
  put_taken taken other low used = by (slot_of s bytes) refl
    where
      b : ℕ
      b = block_of s.items number

      over : List ℕ → SlotRead
      over x = or_free (slice_get (slots_in s x) (place_of s.items other))

      start : slot_at s (slot_put s number bytes c (file_of s.number)) other ≡ over (block_at (put_block b is (c (file_of s.number))) (block_of s.items other))
      start = ap (λ x. slot_at s x other) (in_file c (file_of s.number) b is) ∙ slot_is s _ other has

      kept : (r : SlotRead) → slot_of s bytes ≡ r → r ≢ Bad → slot_at s (slot_put s number bytes c (file_of s.number)) other ≢ Free
      kept r e fine = elim (cases_eq other number) [
        | inl same ↦ λ free. taken (sym (put_here s c number bytes may (λ bad. fine (sym e ∙ bad))) ∙ ap (λ k. slot_at s (slot_put s number bytes c (file_of s.number)) k) (sym same) ∙ free)
        | inr apart ↦ λ free. used (sym (put_other s c number bytes may (λ bad. fine (sym e ∙ bad)) other low apart) ∙ free)
      ]

      spoilt : slot_of s bytes ≡ Bad → slot_at s (slot_put s number bytes c (file_of s.number)) other ≢ Free
      spoilt bad = elim (cases_eq (block_of s.items other) b) [
        | inl same ↦ λ free. bad_apart
            (place_bad s is (place_of s.items other) (nat.mod-lt (other - 1) has) (no_block bad)
            ∙ sym (ap (λ k. over (block_at (put_block b is (c (file_of s.number))) k)) same ∙ ap over (at_laid b is (c (file_of s.number)) may.next)) ∙ sym start ∙ free)
        | inr off ↦ λ free. used (slot_is s (c (file_of s.number)) other has ∙ ap over (sym (off_laid b (block_of s.items other) is (c (file_of s.number)) may.next off)) ∙ sym start ∙ free)
      ]

      by : (r : SlotRead) → slot_of s bytes ≡ r → slot_at s (slot_put s number bytes c (file_of s.number)) other ≢ Free
      by Free e = absurd (taken e)
      by (Used slot) e = kept (Used slot) e (λ h. absurd (cc h))
      by Bad e = spoilt e

not_zeros : (n : ℕ) (l : List ℕ) → 1 ∷ l ≡ replicate n 0 → ⊥
not_zeros zero l h = absurd (cc h)
not_zeros (suc n) l h = absurd (cc h)

-- the spelling of a record isn't free
pub spelled_taken : (s : Shape) (slot : Slot) → slot_of s (slot_bytes s.items slot) ≢ Free
spelled_taken s slot = λ e. not_zeros (slot_width s.items) _ (free_is s (slot_bytes s.items slot) e)
