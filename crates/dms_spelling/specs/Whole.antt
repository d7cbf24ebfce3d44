-- The blocks of slots and the blocks of a list are whole.
use Rattle.std.proofs.Common.{◌≡◌, ℕ, zero, suc, ◌+◌, ◌-◌, ◌≤◌, ◌<◌, List, [], ◌∷◌, ◌++◌, Bool, true, false, Some, inl, inr, refl, sym, ap, ◌∙◌, length, length-append, replicate, slice_get, arith}
use Rattle.std.specs.Prelude.{◌&&◌, ◌==◌}
use Rattle.std.specs.Int.{w16, w32, from_be_bytes, to_be_bytes}
use Rattle.std.specs.List.{list_all}
use Rattle.std.specs.Str.{bytes_eq}
use Rattle.std.specs.declared.option.Option.{Option}
use Rattle.std.proofs.Common.{take, drop}
use Rattle.std.proofs.lemmas.Bool.{and_parts, cases_eq}
use Rattle.std.proofs.lemmas.Bool.Decides.{nat_tests}
use Rattle.std.proofs.lemmas.List.{length-replicate}
use Rattle.std.proofs.lemmas.Option.{same_Some, slice_get_within}
use Rattle.std.proofs.lemmas.Slice.Eq.{bytes_eq-Decides}
use Rattle.dms_desc.specs.Shape.{Shape}
use Rattle.dms_chain.specs.Linked.{BlockChain, numbers, said_by, times}
use Rattle.dms_chain.specs.LinkedLaws.{numbers_length, times_append, times_other, times_own}
use Rattle.dms_chain.specs.ListBlocks.{entry_chunks, fill_block, flat, free_bytes, free_if, free_in, head_bytes, head_if, head_in, leaf_bytes, leaf_if, leaf_in, may_hold}
use Rattle.dms_chain.specs.ListIn.{IsList, Leaf, Spare, list_in}
use Rattle.dms_chain.specs.ListInLaws.{list_is}
use Rattle.dms_chain.specs.SpellLaws.{leaf_is, wide_room}
use Rattle.dms_slots.specs.SlotBlocks.{are_slots, is_block, per_block}
use Rattle.dms_spelling.specs.Spelled.{is_whole}

-- ---- blocks of slots

block_whole : (s : Shape) (b : List ℕ) → is_block s b ≡ true → is_whole b ≡ true
unfolding is_block
block_whole s b h = (and_parts (length b == 1024) (are_slots s (per_block s.items) b) h).0

pub blocks_whole : (s : Shape) (bs : List (List ℕ)) → list_all (is_block s) bs ≡ true → list_all is_whole bs ≡ true
blocks_whole s [] h = refl
blocks_whole s (b ∷ bs) h =
    let both = and_parts (is_block s b) (list_all (is_block s) bs) h in
    let here = block_whole s b both.0 in
    let rest = blocks_whole s bs both.1 in
    λ i. here i && rest i

-- ---- so many numbers, each once, are all up to their count

-- how often the numbers from 1 to k stand among these
abbrev stand_to : ℕ → List ℕ → ℕ
stand_to zero xs = 0
stand_to (suc k) xs = times (suc k) xs + stand_to k xs

none_stand : (k : ℕ) → stand_to k [] ≡ 0
none_stand zero = refl
none_stand (suc k) = omega (arith, none_stand k)

above_stand : (k x : ℕ) → k < x → stand_to k (x ∷ []) ≡ 0
above_stand zero x high = refl
above_stand (suc k) x high = omega (arith, times_other (suc k) x (λ e. omega (arith, e, high)), above_stand k x (omega (arith, high)))

one_stands : (k x : ℕ) → 1 ≤ x → x ≤ k → stand_to k (x ∷ []) ≡ 1
one_stands zero x low high = absurd (omega (arith, low, high))
one_stands (suc k) x low high = elim (cases_eq x (suc k)) [
  | inl same ↦ omega (arith, times_own x, ap (λ n. times n (x ∷ [])) same, above_stand k x (omega (arith, same)))
  | inr apart ↦ omega (arith, times_other (suc k) x apart, one_stands k x low (omega (arith, high, apart)))
]

more_stand : (k x : ℕ) (xs : List ℕ) → stand_to k (x ∷ xs) ≡ stand_to k (x ∷ []) + stand_to k xs
more_stand zero x xs = refl
more_stand (suc k) x xs = omega (arith, times_append (suc k) (x ∷ []) xs, more_stand k x xs)

all_stand : (k : ℕ) (xs : List ℕ) → ((n : ℕ) → 0 < times n xs → (1 ≤ n) × (n ≤ k)) → stand_to k xs ≡ length xs
all_stand k [] within = none_stand k
all_stand k (x ∷ xs) within =
    let here = within x (omega (arith, times_own x, times_append x (x ∷ []) xs)) in
    omega (arith, more_stand k x xs, one_stands k x here.0 here.1, all_stand k xs (λ n some. within n (omega (arith, some, times_append n (x ∷ []) xs))))

few_stand : (k : ℕ) (xs : List ℕ) → ((n : ℕ) → times n xs ≤ 1) → stand_to k xs ≤ k
few_stand zero xs once = omega arith
few_stand (suc k) xs once = omega (arith, once (suc k), few_stand k xs once)

fewer_stand : (k m : ℕ) (xs : List ℕ) → ((n : ℕ) → times n xs ≤ 1) → 1 ≤ m → m ≤ k → times m xs ≡ 0 → stand_to k xs + 1 ≤ k
fewer_stand zero m xs once low high none = absurd (omega (arith, low, high))
fewer_stand (suc k) m xs once low high none = elim (cases_eq m (suc k)) [
  | inl same ↦ omega (arith, none, ap (λ n. times n xs) same, few_stand k xs once)
  | inr apart ↦ omega (arith, once (suc k), fewer_stand k m xs once low (omega (arith, high, apart)) none)
]

pub each_stands : (xs : List ℕ) → ((n : ℕ) → times n xs ≤ 1) → ((n : ℕ) → 0 < times n xs → (1 ≤ n) × (n ≤ length xs)) → (m : ℕ) → 1 ≤ m → m ≤ length xs → 0 < times m xs
each_stands xs once within m low high = by (times m xs) refl
  where
    by : (t : ℕ) → times m xs ≡ t → 0 < times m xs
    by zero none = absurd (omega (arith, all_stand (length xs) xs within, fewer_stand (length xs) m xs once low high none))
    by (suc t) some = omega (arith, some)

-- ---- what a block spells is whole

pub filled_whole : (bytes : List ℕ) → length bytes ≤ 1024 → length (fill_block bytes) ≡ 1024
unfolding fill_block
filled_whole bytes few = omega (arith, few, length-append bytes (replicate (1024 - length bytes) 0), length-replicate {A = ℕ} (1024 - length bytes) 0)

pub two_long : (n : ℕ) → length (to_be_bytes w16 n) ≡ 2
two_long n = refl

pub four_long : (n : ℕ) → length (to_be_bytes w32 n) ≡ 4
four_long n = refl

head_long : (first free : ℕ) → length (head_bytes first free) ≡ 1024
unfolding head_bytes
head_long first free =
    filled_whole (3 ∷ 2 ∷ (to_be_bytes w32 first ++ to_be_bytes w32 free)) (omega (arith, length-append (to_be_bytes w32 first) (to_be_bytes w32 free), four_long first, four_long free))

free_long : (next : ℕ) → length (free_bytes next) ≡ 1024
unfolding free_bytes
free_long next = filled_whole (0 ∷ to_be_bytes w32 next) (omega (arith, four_long next))

leaf_long : (next : ℕ) (es : List (List ℕ)) → length (flat es) ≤ 1017 → length (leaf_bytes next es) ≡ 1024
unfolding leaf_bytes
leaf_long next es few =
    filled_whole (1 ∷ (to_be_bytes w16 (length es) ++ (to_be_bytes w32 next ++ flat es)))
    (omega (arith, few, length-append (to_be_bytes w16 (length es)) (to_be_bytes w32 next ++ flat es), length-append (to_be_bytes w32 next) (flat es), two_long (length es), four_long next))

head_by : (t : Bool) (b : List ℕ) (first free : ℕ) (x : ℕ × ℕ) → bytes_eq b (head_bytes first free) ≡ t → head_if t first free ≡ Some x → length b ≡ 1024
head_by true b first free x tested is = ap length ((bytes_eq-Decides b (head_bytes first free)).0 tested) ∙ head_long first free
head_by false b first free x tested is = absurd (cc is)

head_whole : (b : List ℕ) (x : ℕ × ℕ) → head_in b ≡ Some x → length b ≡ 1024
unfolding head_in
head_whole b x is = head_by _ b (from_be_bytes w32 (take 4 (drop 2 b))) (from_be_bytes w32 (take 4 (drop 6 b))) x refl is

free_by : (t : Bool) (b : List ℕ) (next : ℕ) (x : ℕ × Unit {0}) → bytes_eq b (free_bytes next) ≡ t → free_if t next ≡ Some x → length b ≡ 1024
free_by true b next x tested is = ap length ((bytes_eq-Decides b (free_bytes next)).0 tested) ∙ free_long next
free_by false b next x tested is = absurd (cc is)

pub free_whole : (b : List ℕ) (x : ℕ × Unit {0}) → free_in b ≡ Some x → length b ≡ 1024
unfolding free_in
free_whole b x is = free_by _ b (from_be_bytes w32 (take 4 (drop 1 b))) x refl is

leaf_by : (t : Bool) (width n : ℕ) (es : List (List ℕ)) (b : List ℕ) (x : ℕ × List (List ℕ)) → (may_hold width es && bytes_eq b (leaf_bytes n es)) ≡ t → leaf_if t n es ≡ Some x → b ≡ leaf_bytes x.0 x.1
leaf_by true width n es b x tested is =
    (bytes_eq-Decides b (leaf_bytes n es)).0 (and_parts (may_hold width es) (bytes_eq b (leaf_bytes n es)) tested).1 ∙ ap (λ (y : ℕ × List (List ℕ)). leaf_bytes y.0 y.1) (same_Some (n, es) x is)
leaf_by false width n es b x tested is = absurd (cc is)

leaf_same : (width : ℕ) (b : List ℕ) (x : ℕ × List (List ℕ)) → leaf_in width b ≡ Some x → b ≡ leaf_bytes x.0 x.1
unfolding leaf_in
leaf_same width b x is = leaf_by _ width (from_be_bytes w32 (take 4 (drop 3 b))) (entry_chunks width (from_be_bytes w16 (take 2 (drop 1 b))) (drop 7 b)) b x refl is

pub leaf_whole : (width : ℕ) (b : List ℕ) (x : ℕ × List (List ℕ)) → leaf_in width b ≡ Some x → length b ≡ 1024
leaf_whole width b x is =
    let leaf = leaf_is width b x.0 x.1 is in
    ap length (leaf_same width b x is) ∙ leaf_long x.0 x.1 (wide_room width x.1 leaf.wide leaf.holds.room)

-- ---- and so is each block of a list

-- a block whose number is one of a chain's says what stands there
pub chain_at : {A : Type 0} (reads : List ℕ → Option (ℕ × A)) (look : ℕ → Option (List ℕ)) (ls : List (ℕ × A)) (behind n : ℕ) (b : List ℕ) → ((x : ℕ × A) → reads b ≡ Some x → length b ≡ 1024) → BlockChain reads look ls behind → 0 < times n (numbers ls) → look n ≡ Some b → length b ≡ 1024
chain_at reads look [] behind n b whole chain some at = absurd (omega (arith, some))
chain_at reads look (l ∷ ls) behind n b whole chain some at = elim (cases_eq l.0 n) [
  | inl same ↦ whole _ (sym (ap (said_by reads) (ap look same ∙ at)) ∙ chain.1)
  | inr apart ↦ chain_at reads look ls behind n b whole chain.2 (omega (arith, some, times_other n l.0 apart, times_append n (l.0 ∷ []) (numbers ls))) at
]

-- no block of a chain is the first one of the file
not_first : {A : Type 0} (reads : List ℕ → Option (ℕ × A)) (look : ℕ → Option (List ℕ)) (ls : List (ℕ × A)) (behind : ℕ) → BlockChain reads look ls behind → times 0 (numbers ls) ≡ 0
not_first reads look [] behind chain = refl
not_first reads look (l ∷ ls) behind chain = omega (arith, times_other 0 l.0 chain.0, times_append 0 (l.0 ∷ []) (numbers ls), not_first reads look ls behind chain.2)

module _ (width count : ℕ) (look : ℕ → Option (List ℕ)) (ls : List Leaf) (fs : List Spare) (list : IsList width count look ls fs) where
  abbrev all : List ℕ
  all = numbers ls ++ numbers fs

  all_long : 1 + length all ≡ count
  all_long = omega (arith, length-append (numbers ls) (numbers fs), numbers_length ls, numbers_length fs, list.count_is)

  all_once : (n : ℕ) → times n all ≤ 1
  all_once n = omega (arith, times_append n (numbers ls) (numbers fs), list.once n)

  all_within : (n : ℕ) → 0 < times n all → (1 ≤ n) × (n ≤ length all)
  all_within zero some =
      absurd (omega (arith, some, times_append 0 (numbers ls) (numbers fs), not_first (leaf_in width) look ls 0 list.chain, not_first free_in look fs 0 list.free))
  all_within (suc n) some = (omega arith, omega (arith, list.low (suc n) (omega (arith, some, times_append (suc n) (numbers ls) (numbers fs))), all_long))

  by_chain : (n : ℕ) (b : List ℕ) → look n ≡ Some b → 0 < times n all → (t : ℕ) → times n (numbers ls) ≡ t → length b ≡ 1024
  by_chain n b at some zero none = chain_at free_in look fs 0 n b (free_whole b) list.free (omega (arith, some, none, times_append n (numbers ls) (numbers fs))) at
  by_chain n b at some (suc t) there = chain_at (leaf_in width) look ls 0 n b (leaf_whole width b) list.chain (omega (arith, there)) at

  one_whole : (n : ℕ) (b : List ℕ) → look n ≡ Some b → n < count → length b ≡ 1024
  one_whole zero b at low = head_whole b _ (sym (ap (said_by head_in) at) ∙ list.head)
  one_whole (suc n) b at low = by_chain (suc n) b at (each_stands all all_once all_within (suc n) (omega arith) (omega (arith, low, all_long))) _ refl

pub whole_by : (bs : List (List ℕ)) → ((n : ℕ) (b : List ℕ) → slice_get bs n ≡ Some b → length b ≡ 1024) → list_all is_whole bs ≡ true
whole_by [] each = refl
whole_by (b ∷ bs) each =
    let long = each 0 b refl in
    let here : is_whole b ≡ true = grind (arith, nat_tests, long) in
    let rest = whole_by bs (λ n x at. each (suc n) x at) in
    λ i. here i && rest i

pub list_whole : (width : ℕ) (bs xs : List (List ℕ)) → list_in width bs ≡ Some xs → list_all is_whole bs ≡ true
list_whole width [] xs is = refl
list_whole width (x ∷ bs) xs is =
    let list = list_is width (x ∷ bs) xs (λ e. omega (arith, e)) is in
    whole_by (x ∷ bs) (λ n b at. one_whole width (length (x ∷ bs)) (slice_get (x ∷ bs)) list.leaves list.spares list.list n b at (omega (arith, slice_get_within (x ∷ bs) n b at)))
