-- The slots of a file by its blocks.
use Rattle.std.proofs.Common.{◌≡◌, ◌+◌, ◌-◌, ◌*◌, ◌/◌, ◌%◌, ◌<◌, ◌≤◌, ℕ, zero, suc, List, [], ◌∷◌, ◌++◌, flat_map, Bool, true, false, cond, refl, sym, ap, ◌∙◌, length, take, drop, replicate, get_or, slice_get, arith, add-one, inl, inr}
use Rattle.std.specs.Prelude.{◌&&◌, ◌==◌, IfSome, not}
use Rattle.std.specs.declared.option.Option.{Option}
use Rattle.std.specs.declared.option.Option.TheVariants.{None, Some}
use Rattle.std.proofs.lemmas.List.{length-replicate, drop_all, take-replicate}
use Rattle.std.proofs.lemmas.Option.{slice_get_past, slice_get-get_or}
use Rattle.std.proofs.lemmas.Nat.{div-add-mod'}
use Rattle.std.proofs.Math.Nat as nat
use Rattle.dms_desc.specs.declared.structure.Item.{Item}
use Rattle.dms_desc.specs.Shape.{Shape}
use Rattle.dms_layout.specs.declared.slot.Slot.{Slot}
use Rattle.dms_layout.specs.declared.slot.SlotRead.{SlotRead}
use Rattle.dms_layout.specs.declared.slot.SlotRead.TheVariants.{Free, Used, Bad}
use Rattle.dms_layout.specs.ReadLaws.{used_fits}
use Rattle.dms_layout.specs.Slots.{SlotFits, slot_width, slot_of, is_zero, reads_bad, reads_free}
use Rattle.std.specs.List.{list_all}
use Rattle.std.proofs.lemmas.Bool.{and_parts, cases_lt, true≢false}
use Rattle.dms_slots.specs.SlotBlocks.{per_block, block_of, is_slot, is_free, are_slots, is_block, slot_chunks, slots_by, slots_in, slots_of, or_free, slot_at, before_free, block_or_zeros, block_at}

-- ---- lists

get_left : {A : Type 0} (xs ys : List A) (i : ℕ) → i < length xs → slice_get (xs ++ ys) i ≡ slice_get xs i
get_left [] ys i low = absurd (omega arith)
get_left (x ∷ xs) ys zero low = refl
get_left (x ∷ xs) ys (suc i) low = get_left xs ys i (omega arith)

get_right : {A : Type 0} (xs ys : List A) (i j : ℕ) → j ≡ length xs + i → slice_get (xs ++ ys) j ≡ slice_get ys i
get_right [] ys i j e = ap (slice_get ys) (omega (arith, e))
get_right (x ∷ xs) ys i j e = ap (slice_get (x ∷ (xs ++ ys))) (let h : j ≡ suc (length xs + i) = omega (arith, e) in h) ∙ get_right xs ys i (length xs + i) refl

-- pieces of one length
module _ {A B : Type 0} (f : A → List B) (n : ℕ) (long : (x : A) → length (f x) ≡ n) where
  pub piece_get : (xs : List A) (q r : ℕ) (d : A) → r < n → q < length xs → slice_get (flat_map f xs) (q * n + r) ≡ slice_get (f (get_or xs q d)) r
  piece_get [] q r d low within = absurd (omega arith)
  piece_get (x ∷ xs) zero r d low within =
      ap (slice_get (f x ++ flat_map f xs)) (let e : 0 * n + r ≡ r = omega arith in e) ∙ get_left (f x) (flat_map f xs) r (omega (arith, long x))
  piece_get (x ∷ xs) (suc q) r d low within =
      get_right (f x) (flat_map f xs) (q * n + r) (suc q * n + r) (omega (arith, long x, nat.suc-mul q n)) ∙ piece_get xs q r d low (omega arith)

  pub pieces_past : (xs : List A) (q r : ℕ) → length xs ≤ q → slice_get (flat_map f xs) (q * n + r) ≡ None
  pieces_past [] q r past = refl
  pieces_past (x ∷ xs) zero r past = absurd (omega arith)
  pieces_past (x ∷ xs) (suc q) r past =
      get_right (f x) (flat_map f xs) (q * n + r) (suc q * n + r) (omega (arith, long x, nat.suc-mul q n)) ∙ pieces_past xs q r (omega arith)

-- ---- one block

cut_length : (s : Shape) (k : ℕ) (bytes : List ℕ) → length (slot_chunks s k bytes) ≡ k
cut_length s zero bytes = refl
cut_length s (suc k) bytes = ap suc (cut_length s k (drop (slot_width s.items) bytes))

by_length : (b : Bool) (s : Shape) (bytes : List ℕ) → length (slots_by b s bytes) ≡ per_block s.items
by_length true s bytes = cut_length s (per_block s.items) bytes
by_length false s bytes = length-replicate (per_block s.items) Bad

pub slots_length : (s : Shape) (bytes : List ℕ) → length (slots_in s bytes) ≡ per_block s.items
unfolding slots_in
slots_length s bytes = by_length (is_block s bytes) s bytes

drop_more : (a b : ℕ) (l : List ℕ) → drop a (drop b l) ≡ drop (b + a) l
drop_more a zero l = ap (λ k. drop k l) (omega arith)
drop_more a (suc b) [] = (λ i. drop_all a [] (omega arith) i) ∙ sym (drop_all (suc b + a) [] (omega arith))
drop_more a (suc b) (x ∷ l) = drop_more a b l ∙ ap (λ k. drop k (x ∷ l)) (let e : suc (b + a) ≡ suc b + a = omega arith in e)

cut_get : (s : Shape) (k p : ℕ) (bytes : List ℕ) → p < k → slice_get (slot_chunks s k bytes) p ≡ Some (slot_of s (take (slot_width s.items) (drop (p * slot_width s.items) bytes)))
cut_get s zero p bytes low = absurd (omega arith)
cut_get s (suc k) zero bytes low = ap (λ n. Some (slot_of s (take (slot_width s.items) (drop n bytes)))) (let e : 0 ≡ 0 * slot_width s.items = omega arith in e)
cut_get s (suc k) (suc p) bytes low =
    let w = slot_width s.items in
    cut_get s k p (drop w bytes) (omega arith)
    ∙ ap (λ l. Some (slot_of s (take w l))) (drop_more (p * w) w bytes ∙ ap (λ n. drop n bytes) (let e : w + p * w ≡ suc p * w = omega (arith, nat.suc-mul p w) in e))

-- the slot at a place of a block
pub place_in : (s : Shape) (block slot : List ℕ) (p w : ℕ) (r : SlotRead) → p < per_block s.items → is_block s block ≡ true → w ≡ slot_width s.items
    → slot ≡ take w (drop (p * w) block) → r ≡ slot_of s slot → r ≡ or_free (slice_get (slots_in s block) p)
unfolding slots_in
place_in s block slot p w r low good width here is =
    is ∙ ap (slot_of s) (here ∙ ap (λ n. take n (drop (p * n) block)) width)
    ∙ sym (ap (λ b. or_free (slice_get (slots_by b s block) p)) good ∙ ap or_free (cut_get s (per_block s.items) p block low))

bad_get : (n p : ℕ) → p < n → slice_get (replicate n Bad) p ≡ Some Bad
bad_get zero p low = absurd (omega arith)
bad_get (suc n) zero low = refl
bad_get (suc n) (suc p) low = bad_get n p (omega arith)

-- each slot of a block that is none is bad
pub place_bad : (s : Shape) (block : List ℕ) (p : ℕ) → p < per_block s.items → is_block s block ≡ false → Bad ≡ or_free (slice_get (slots_in s block) p)
unfolding slots_in
place_bad s block p low bad = sym (ap (λ b. or_free (slice_get (slots_by b s block) p)) bad ∙ ap or_free (bad_get (per_block s.items) p low))

no_bad : (s : Shape) (k p : ℕ) (bytes : List ℕ) → p < k → are_slots s k bytes ≡ true → is_slot (or_free (slice_get (slot_chunks s k bytes) p)) ≡ true
no_bad s zero p bytes low good = absurd (omega arith)
no_bad s (suc k) zero bytes low good = (and_parts (is_slot (slot_of s (take (slot_width s.items) bytes))) (are_slots s k (drop (slot_width s.items) bytes)) good).0
no_bad s (suc k) (suc p) bytes low good = no_bad s k p (drop (slot_width s.items) bytes) (omega arith) (and_parts (is_slot (slot_of s (take (slot_width s.items) bytes))) (are_slots s k (drop (slot_width s.items) bytes)) good).1

bad_by : (b : Bool) (s : Shape) (block : List ℕ) (p : ℕ) → is_block s block ≡ b → p < per_block s.items → or_free (slice_get (slots_by b s block) p) ≡ Bad → b ≡ false
unfolding is_block
bad_by true s block p e low h =
    let good = no_bad s (per_block s.items) p block low (and_parts (length block == 1024) (are_slots s (per_block s.items) block) e).1 in
    let bad : is_slot (or_free (slice_get (slot_chunks s (per_block s.items) block) p)) ≡ false = ap is_slot h in
    absurd (cc (good, bad))
bad_by false s block p e low h = refl

-- and only those are
pub bad_block : (s : Shape) (block : List ℕ) (p : ℕ) → p < per_block s.items → or_free (slice_get (slots_in s block) p) ≡ Bad → is_block s block ≡ false
unfolding slots_in
bad_block s block p low h = bad_by (is_block s block) s block p refl low h

used_cut : (s : Shape) (k p : ℕ) (bytes : List ℕ) (slot : Slot) → or_free (slice_get (slot_chunks s k bytes) p) ≡ Used slot → SlotFits s slot
used_cut s zero p bytes slot h = absurd (cc h)
used_cut s (suc k) zero bytes slot h = (used_fits s (take (slot_width s.items) bytes) slot h).0
used_cut s (suc k) (suc p) bytes slot h = used_cut s k p (drop (slot_width s.items) bytes) slot h

used_bad : (s : Shape) (k p : ℕ) (slot : Slot) → or_free (slice_get (replicate k Bad) p) ≡ Used slot → SlotFits s slot
used_bad s zero p slot h = absurd (cc h)
used_bad s (suc k) zero slot h = absurd (cc h)
used_bad s (suc k) (suc p) slot h = used_bad s k p slot h

used_by : (b : Bool) (s : Shape) (block : List ℕ) (p : ℕ) (slot : Slot) → or_free (slice_get (slots_by b s block) p) ≡ Used slot → SlotFits s slot
used_by true s block p slot h = used_cut s (per_block s.items) p block slot h
used_by false s block p slot h = used_bad s (per_block s.items) p slot h

-- a record that is read fits its data set
pub used_there : (s : Shape) (block : List ℕ) (p : ℕ) (slot : Slot) → or_free (slice_get (slots_in s block) p) ≡ Used slot → SlotFits s slot
unfolding slots_in
used_there s block p slot h = used_by (is_block s block) s block p slot h

-- ---- a walk through a block

pub slot_read : (r : SlotRead) → not (reads_bad r) ≡ is_slot r
slot_read Free = refl
slot_read (Used slot) = refl
slot_read Bad = refl

pub free_read : (r : SlotRead) → reads_free r ≡ is_free r
free_read Free = refl
free_read (Used slot) = refl
free_read Bad = refl

left_more : (i n : ℕ) → i < n → n - i ≡ suc (n - (i + 1))
left_more i n low = omega arith

pub walk_ends : (s : Shape) (i n k : ℕ) (rest : List ℕ) (b : Bool) → k ≡ n → k ≤ i → are_slots s (n - i) rest ≡ b → list_all is_zero rest ≡ b
walk_ends s i n k rest b e past so_far = ap (λ j. are_slots s j rest) (let h : 0 ≡ n - i = omega (arith, e) in h) ∙ so_far

pub both_false : (a : Bool) → (a && false) ≡ false
both_false true = refl
both_false false = refl

-- bytes whose slots aren't sound are no block
pub no_block : (s : Shape) (block : List ℕ) → false ≡ are_slots s (per_block s.items) block → false ≡ is_block s block
unfolding is_block
no_block s block bad = sym (both_false (length block == 1024)) ∙ ap (λ b. (length block == 1024) && b) bad

pub is_whole : (s : Shape) (block : List ℕ) (b : Bool) → length block ≡ 1024 → b ≡ are_slots s (per_block s.items) block → b ≡ is_block s block
unfolding is_block
is_whole s block b whole good = good ∙ sym (ap (λ n. (n == 1024) && are_slots s (per_block s.items) block) whole)

pub walk_on : (s : Shape) (i n w : ℕ) (rest slot more : List ℕ) (r : SlotRead) (b : Bool) → i < n → w ≡ slot_width s.items → slot ≡ take w rest → more ≡ drop w rest
    → r ≡ slot_of s slot → is_slot r ≡ true → are_slots s (n - i) rest ≡ b → are_slots s (n - (i + 1)) more ≡ b
walk_on s i n w rest slot more r b low width here behind is good so_far =
    let here' : is_slot (slot_of s (take (slot_width s.items) rest)) ≡ true = ap (λ k. is_slot (slot_of s (take k rest))) (sym width) ∙ ap (λ l. is_slot (slot_of s l)) (sym here) ∙ ap is_slot (sym is) ∙ good in
    ap (are_slots s (n - (i + 1))) (behind ∙ ap (λ k. drop k rest) width)
    ∙ sym (ap (λ a. a && are_slots s (n - (i + 1)) (drop (slot_width s.items) rest)) here')
    ∙ ap (λ k. are_slots s k rest) (sym (left_more i n low)) ∙ so_far

pub walk_stops : (s : Shape) (i n w : ℕ) (rest slot : List ℕ) (r : SlotRead) (b : Bool) → i < n → w ≡ slot_width s.items → slot ≡ take w rest
    → r ≡ slot_of s slot → is_slot r ≡ false → are_slots s (n - i) rest ≡ b → false ≡ b
walk_stops s i n w rest slot r b low width here is bad so_far =
    let here' : is_slot (slot_of s (take (slot_width s.items) rest)) ≡ false = ap (λ k. is_slot (slot_of s (take k rest))) (sym width) ∙ ap (λ l. is_slot (slot_of s l)) (sym here) ∙ ap is_slot (sym is) ∙ bad in
    sym (ap (λ a. a && are_slots s (n - (i + 1)) (drop (slot_width s.items) rest)) here')
    ∙ ap (λ k. are_slots s k rest) (sym (left_more i n low)) ∙ so_far

walk_same : (s : Shape) (i n w : ℕ) (rest slot : List ℕ) (r : SlotRead) → i < n → w ≡ slot_width s.items → slot ≡ take w rest → r ≡ slot_of s slot
    → before_free (slot_chunks s (n - i) rest) ≡ cond (is_free r) 0 (suc (before_free (slot_chunks s (n - (i + 1)) (drop (slot_width s.items) rest))))
walk_same s i n w rest slot r low width here is =
    ap (λ k. before_free (slot_chunks s k rest)) (left_more i n low)
    ∙ ap (λ x. cond (is_free x) 0 (suc (before_free (slot_chunks s (n - (i + 1)) (drop (slot_width s.items) rest))))) (sym (is ∙ ap (slot_of s) (here ∙ ap (λ k. take k rest) width)))

pub count_on : (s : Shape) (i n w first : ℕ) (rest slot more : List ℕ) (r : SlotRead) → i < n → w ≡ slot_width s.items → slot ≡ take w rest → more ≡ drop w rest
    → r ≡ slot_of s slot → is_free r ≡ false → first ≡ i + before_free (slot_chunks s (n - i) rest) → first ≡ (i + 1) + before_free (slot_chunks s (n - (i + 1)) more)
count_on s i n w first rest slot more r low width here behind is used so_far =
    let step = walk_same s i n w rest slot r low width here is ∙ ap (λ b. cond b 0 (suc (before_free (slot_chunks s (n - (i + 1)) (drop (slot_width s.items) rest))))) used in
    let more' : before_free (slot_chunks s (n - (i + 1)) more) ≡ before_free (slot_chunks s (n - (i + 1)) (drop (slot_width s.items) rest)) = ap (λ l. before_free (slot_chunks s (n - (i + 1)) l)) (behind ∙ ap (λ k. drop k rest) width) in
    omega (arith, so_far, step, more')

pub count_stops : (s : Shape) (i n w first : ℕ) (rest slot : List ℕ) (r : SlotRead) → i < n → w ≡ slot_width s.items → slot ≡ take w rest
    → r ≡ slot_of s slot → is_free r ≡ true → first ≡ i + before_free (slot_chunks s (n - i) rest) → i ≡ first
count_stops s i n w first rest slot r low width here is free so_far =
    let step = walk_same s i n w rest slot r low width here is ∙ ap (λ b. cond b 0 (suc (before_free (slot_chunks s (n - (i + 1)) (drop (slot_width s.items) rest))))) free in
    omega (arith, so_far, step)

-- ---- a file

pub slot_there : (s : Shape) (bs : List (List ℕ)) (number per : ℕ) → per ≡ per_block s.items → 0 < per → (number - 1) / per < length bs
    → slot_at s bs number ≡ or_free (slice_get (slots_in s (get_or bs ((number - 1) / per) [])) ((number - 1) % per))
slot_there s bs number per e some low =
    ap (λ i. or_free (slice_get (slots_of s bs) i)) (sym (div-add-mod' (number - 1) per))
    ∙ ap or_free (piece_get (slots_in s) per (λ x. slots_length s x ∙ sym e) bs ((number - 1) / per) ((number - 1) % per) [] (nat.mod-lt (number - 1) some) low)

pub slot_past : (s : Shape) (bs : List (List ℕ)) (number per : ℕ) → per ≡ per_block s.items → length bs ≤ (number - 1) / per → slot_at s bs number ≡ Free
slot_past s bs number per e past =
    ap (λ i. or_free (slice_get (slots_of s bs) i)) (sym (div-add-mod' (number - 1) per))
    ∙ ap or_free (pieces_past (slots_in s) per (λ x. slots_length s x ∙ sym e) bs ((number - 1) / per) ((number - 1) % per) past)

-- what is read of a block that stands there
pub read_there : (s : Shape) (bs : List (List ℕ)) (number per : ℕ) (block : List ℕ) (r : SlotRead) → per ≡ per_block s.items → 0 < per → (number - 1) / per < length bs
    → block ≡ get_or bs ((number - 1) / per) [] → r ≡ or_free (slice_get (slots_in s block) ((number - 1) % per)) → slot_at s bs number ≡ r
read_there s bs number per block r e some low is read =
    slot_there s bs number per e some low ∙ ap (λ l. or_free (slice_get (slots_in s l) ((number - 1) % per))) (sym is) ∙ sym read

-- ---- blocks that are written

pub none_at : (bs : List (List ℕ)) (b : ℕ) → length bs ≤ b → block_at bs b ≡ replicate 1024 0
none_at bs b past = ap block_or_zeros (slice_get_past bs b past)

pub some_at : (bs : List (List ℕ)) (b : ℕ) → b < length bs → get_or bs b [] ≡ block_at bs b
some_at bs b low = sym (ap block_or_zeros (slice_get-get_or bs b [] low))

pub zeros_cut : (w k : ℕ) (a block : List ℕ) → a ≡ take w block → block ≡ replicate 1024 0 → w ≡ k → k ≤ 1024 → a ≡ replicate k 0
zeros_cut w k a block is zeros width le = is ∙ (λ i. take (width i) (zeros i)) ∙ take-replicate k 1024 0 le

-- ---- the least free slot

pub taken_block : (s : Shape) (block : List ℕ) (n : ℕ) → is_block s block ≡ true → n ≡ before_free (slot_chunks s (per_block s.items) block) → n ≡ before_free (slots_in s block)
unfolding slots_in
taken_block s block n good is = is ∙ sym (ap (λ b. before_free (slots_by b s block)) good)

taken_all : (xs ys : List SlotRead) → before_free xs ≡ length xs → before_free (xs ++ ys) ≡ length xs + before_free ys
taken_all [] ys all = omega arith
taken_all (Free ∷ xs) ys all = absurd (omega (arith, all))
taken_all (Bad ∷ xs) ys all = ap suc (taken_all xs ys (omega (arith, all))) ∙ (let e : suc (length xs + before_free ys) ≡ suc (length xs) + before_free ys = omega arith in e)
taken_all (Used slot ∷ xs) ys all = ap suc (taken_all xs ys (omega (arith, all))) ∙ (let e : suc (length xs + before_free ys) ≡ suc (length xs) + before_free ys = omega arith in e)

taken_some : (xs ys : List SlotRead) → before_free xs < length xs → before_free (xs ++ ys) ≡ before_free xs
taken_some [] ys low = absurd (omega arith)
taken_some (Free ∷ xs) ys low = refl
taken_some (Bad ∷ xs) ys low = ap suc (taken_some xs ys (omega arith))
taken_some (Used slot ∷ xs) ys low = ap suc (taken_some xs ys (omega arith))

free_most : (xs : List SlotRead) → before_free xs ≤ length xs
free_most [] = omega arith
free_most (Free ∷ xs) = omega arith
free_most (Bad ∷ xs) = let e = free_most xs in omega (arith, e)
free_most (Used slot ∷ xs) = let e = free_most xs in omega (arith, e)

slots_next : (s : Shape) (bs : List (List ℕ)) (i : ℕ) → i < length bs → slots_of s (drop i bs) ≡ slots_in s (get_or bs i []) ++ slots_of s (drop (i + 1) bs)
slots_next s [] i low = absurd (omega arith)
slots_next s (b ∷ bs) zero low = refl
slots_next s (b ∷ bs) (suc i) low = slots_next s bs i (omega arith) ∙ ap (λ k. slots_in s (get_or bs i []) ++ slots_of s (drop k (b ∷ bs))) (let e : suc (i + 1) ≡ suc i + 1 = omega arith in e)

-- the blocks that the first taken slots fill are full
pub least_from : (s : Shape) (bs : List (List ℕ)) (i per : ℕ) → per ≡ per_block s.items → i ≤ length bs → i * per ≤ before_free (slots_of s bs)
    → before_free (slots_of s bs) ≡ i * per + before_free (slots_of s (drop i bs))
least_from s bs zero per e within taken = omega (arith, nat.zero-mul per)
least_from s [] (suc i) per e within taken = absurd (omega (arith, within))
least_from s (b ∷ bs) (suc i) per e within taken =
    let long = slots_length s b in
    let width : length (slots_in s b) ≡ per = omega (arith, long, e) in
    let more = nat.suc-mul i per in
    elim (cases_lt (before_free (slots_in s b)) (length (slots_in s b))) [
      | inl low ↦ absurd (omega (arith, taken_some (slots_in s b) (slots_of s bs) low, taken, more, width, low))
      | inr high ↦
          let full : before_free (slots_in s b) ≡ length (slots_in s b) = omega (arith, high, free_most (slots_in s b)) in
          let whole = taken_all (slots_in s b) (slots_of s bs) full in
          let rest = least_from s bs i per e (omega (arith, within)) (omega (arith, whole, taken, more, width)) in
          omega (arith, whole, rest, more, width)
    ]

-- slots that aren't free, one after another from the first
pub taken_upto : (rs : List SlotRead) (n : ℕ) → ((i : ℕ) → i < n → is_free (or_free (slice_get rs i)) ≡ false) → n ≤ before_free rs
taken_upto rs zero all = omega arith
taken_upto [] (suc n) all = absurd (true≢false (all 0 (omega arith)))
taken_upto (Free ∷ rs) (suc n) all = absurd (true≢false (all 0 (omega arith)))
taken_upto (Used slot ∷ rs) (suc n) all = let e = taken_upto rs n (λ i low. all (suc i) (omega (arith, low))) in omega (arith, e)
taken_upto (Bad ∷ rs) (suc n) all = let e = taken_upto rs n (λ i low. all (suc i) (omega (arith, low))) in omega (arith, e)

-- a block that is full is passed
pub least_on : (s : Shape) (bs : List (List ℕ)) (i per n all : ℕ) → i < length bs → per ≡ per_block s.items → n ≡ before_free (slots_in s (get_or bs i [])) → per ≤ n → n ≤ per
    → all ≡ i * per + before_free (slots_of s (drop i bs)) → all ≡ (i + 1) * per + before_free (slots_of s (drop (i + 1) bs))
least_on s bs i per n all low e is full most so_far =
    let long = slots_length s (get_or bs i []) in
    let whole = taken_all (slots_in s (get_or bs i [])) (slots_of s (drop (i + 1) bs)) (omega (arith, long, e, is, full, most)) in
    let next = ap before_free (slots_next s bs i low) in
    omega (arith, long, whole, next, so_far, e, nat.suc-mul i per, ap (λ k. k * per) (add-one i))

-- and in another one the least free slot stands
pub least_here : (s : Shape) (bs : List (List ℕ)) (i per n all : ℕ) → i < length bs → per ≡ per_block s.items → n ≡ before_free (slots_in s (get_or bs i [])) → n < per
    → all ≡ i * per + before_free (slots_of s (drop i bs)) → i * per + n ≡ all
least_here s bs i per n all low e is some so_far =
    let long = slots_length s (get_or bs i []) in
    let part = taken_some (slots_in s (get_or bs i [])) (slots_of s (drop (i + 1) bs)) (omega (arith, long, e, is, some)) in
    let next = ap before_free (slots_next s bs i low) in
    omega (arith, part, next, so_far, is)

pub least_behind : (s : Shape) (bs : List (List ℕ)) (i per all : ℕ) → length bs ≤ i → all ≡ i * per + before_free (slots_of s (drop i bs)) → i * per ≡ all
least_behind s bs i per all past so_far =
    let none = ap (λ l. before_free (slots_of s l)) (drop_all i bs past) in
    omega (arith, so_far, none)

-- the block of the slot at a place of a block
pub place_low : (items : List Item) (i per used n counts : ℕ) → per ≡ per_block items → 0 < per → used < per → n ≡ i * per + used + 1 → i ≤ counts → block_of items n ≤ counts
place_low items i per used n counts e some low is le =
    let before : n - 1 ≡ i * per + used = omega (arith, is) in
    let none : used / per ≡ 0 = nat.div-eq_of_lt low in
    let parts : (i * per + used) / per ≡ i + used / per = nat.mul-add-div_right some i used in
    let at : block_of items n ≡ (i * per + used) / per = ap (λ (k : ℕ). (n - 1) / k) (sym e) ∙ ap (λ (x : ℕ). x / per) before in
    omega (arith, at, parts, none, le)

pub some_weaker : {A : Type 0} (o : Option A) (P Q : A → Type 0) → ((x : A) → P x → Q x) → IfSome o P → IfSome o Q
some_weaker None P Q f h = h
some_weaker (Some x) P Q f h = f x h
