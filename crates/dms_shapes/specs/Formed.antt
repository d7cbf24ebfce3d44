-- Each block of a file that is a list is its head, a block of entries or a free one.
use Rattle.std.proofs.Common.{◌≡◌, ◌≢◌, ℕ, zero, suc, ◌+◌, ◌<◌, ◌≤◌, List, [], ◌∷◌, ◌++◌, Bool, true, false, cond, eqb, ltb, Some, refl, sym, ap, subst, ◌∙◌, length, length-append, slice_get, arith}
use Rattle.std.specs.Prelude.{◌||◌, is_some}
use Rattle.std.specs.declared.option.Option.{Option}
use Rattle.std.proofs.lemmas.Bool.Decides.{nat_tests}
use Rattle.std.proofs.lemmas.Bool.{true≢false}
use Rattle.dms_chain.specs.Linked.{BlockChain, numbers, said_by, times}
use Rattle.dms_chain.specs.LinkedLaws.{numbers_length, times_append}
use Rattle.dms_chain.specs.ListBlocks.{free_in, head_in, leaf_in}
use Rattle.dms_chain.specs.ListIn.{IsList, Leaf, Spare, list_in}
use Rattle.dms_chain.specs.ListInLaws.{Spelt, list_is}

-- how often the numbers below k stand
total : ℕ → List ℕ → ℕ
total zero xs = 0
total (suc k) xs = times k xs + total k xs

total_none : (k : ℕ) → total k [] ≡ 0
unfolding total
total_none zero = refl
total_none (suc k) = omega (arith, total_none k)

one_more : (k x : ℕ) (xs : List ℕ) → total k (x ∷ xs) ≡ cond {A = ℕ} (ltb x k) 1 0 + total k xs
unfolding total
one_more zero x xs = by (ltb x 0) refl
  where
    by : (t : Bool) → ltb x 0 ≡ t → 0 ≡ cond {A = ℕ} t 1 0 + 0
    by true is = absurd (let e : x < 0 = grind (arith, nat_tests, is) in omega (arith, e))
    by false is = refl
one_more (suc k) x xs = by (eqb x k) refl (ltb x k) refl (ltb x (suc k)) refl (one_more k x xs)
  where
    by : (e : Bool) → eqb x k ≡ e → (l : Bool) → ltb x k ≡ l → (s : Bool) → ltb x (suc k) ≡ s → total k (x ∷ xs) ≡ cond {A = ℕ} l 1 0 + total k xs
        → (cond {A = ℕ} e 1 0 + times k xs) + total k (x ∷ xs) ≡ cond {A = ℕ} s 1 0 + (times k xs + total k xs)
    by true e true l s m rest = absurd (let a : x ≡ k = grind (arith, nat_tests, e) in let b : x < k = grind (arith, nat_tests, l) in omega (arith, a, b))
    by true e false l true m rest = omega (arith, rest)
    by true e false l false m rest = absurd (let a : x ≡ k = grind (arith, nat_tests, e) in let b : suc k ≤ x = grind (arith, nat_tests, m) in omega (arith, a, b))
    by false e true l true m rest = omega (arith, rest)
    by false e true l false m rest = absurd (let a : x < k = grind (arith, nat_tests, l) in let b : suc k ≤ x = grind (arith, nat_tests, m) in omega (arith, a, b))
    by false e false l true m rest = absurd (let a : x ≢ k = grind (arith, nat_tests, e) in let b : k ≤ x = grind (arith, nat_tests, l) in let c : x < suc k = grind (arith, nat_tests, m) in omega (arith, a, b, c))
    by false e false l false m rest = omega (arith, rest)

-- all of them, where each number is below k
total_all : (k : ℕ) (xs : List ℕ) → ((n : ℕ) → 0 < times n xs → n < k) → total k xs ≡ length xs
total_all k [] low = total_none k
total_all k (x ∷ xs) low =
    let own : eqb x x ≡ true = grind (arith, nat_tests) in
    let here : x < k = low x (let e : cond {A = ℕ} (eqb x x) 1 0 ≡ 1 = ap (λ t. cond {A = ℕ} t 1 0) own in omega (arith, e)) in
    let test : ltb x k ≡ true = grind (arith, nat_tests, here) in
    let one : cond {A = ℕ} (ltb x k) 1 0 ≡ 1 = ap (λ t. cond {A = ℕ} t 1 0) test in
    omega (arith, one_more k x xs, one, total_all k xs (λ n some. low n (omega (arith, some))))

-- at most one each
total_few : (k : ℕ) (xs : List ℕ) → ((n : ℕ) → times n xs ≤ 1) → total k xs ≤ k
unfolding total
total_few zero xs once = omega arith
total_few (suc k) xs once = omega (arith, total_few k xs once, once k)

-- and one less where one is missing
total_less : (k m : ℕ) (xs : List ℕ) → ((n : ℕ) → times n xs ≤ 1) → times m xs ≡ 0 → m < k → total k xs + 1 ≤ k
unfolding total
total_less zero m xs once none low = absurd (omega (arith, low))
total_less (suc k) m xs once none low = by (eqb m k) refl (λ l. total_less k m xs once none l)
  where
    by : (t : Bool) → eqb m k ≡ t → (m < k → total k xs + 1 ≤ k) → (times k xs + total k xs) + 1 ≤ suc k
    by true is rest =
        let e : m ≡ k = grind (arith, nat_tests, is) in
        let here : times k xs ≡ 0 = subst (λ n. times n xs ≡ 0) e none in
        omega (arith, here, total_few k xs once)
    by false is rest =
        let off : m ≢ k = grind (arith, nat_tests, is) in
        omega (arith, once k, rest (omega (arith, off, low)))

-- two less where 0 and another one are missing
total_two : (k m : ℕ) (xs : List ℕ) → ((n : ℕ) → times n xs ≤ 1) → times 0 xs ≡ 0 → times m xs ≡ 0 → 0 < m → m < k → total k xs + 2 ≤ k
unfolding total
total_two zero m xs once none gone some low = absurd (omega (arith, low))
total_two (suc k) m xs once none gone some low = by (eqb m k) refl (λ l. total_two k m xs once none gone some l)
  where
    by : (t : Bool) → eqb m k ≡ t → (m < k → total k xs + 2 ≤ k) → (times k xs + total k xs) + 2 ≤ suc k
    by true is rest =
        let e : m ≡ k = grind (arith, nat_tests, is) in
        let here : times k xs ≡ 0 = subst (λ n. times n xs ≡ 0) e gone in
        omega (arith, here, total_less k 0 xs once none (omega (arith, e, some)))
    by false is rest =
        let off : m ≢ k = grind (arith, nat_tests, is) in
        omega (arith, once k, rest (omega (arith, off, low)))

-- Numbers below a count, each once, as many as there are but 0: every one but 0 is among them.
pub all_met : (count : ℕ) (xs : List ℕ) → ((n : ℕ) → times n xs ≤ 1) → ((n : ℕ) → 0 < times n xs → n < count) → times 0 xs ≡ 0 → 1 + length xs ≡ count → (m : ℕ) → 0 < m → m < count → 0 < times m xs
all_met count xs once low none size m some under = by (times m xs) refl
  where
    by : (t : ℕ) → times m xs ≡ t → 0 < times m xs
    by zero gone = absurd (omega (arith, total_all count xs low, total_two count m xs once none gone some under, size))
    by (suc t) is = omega (arith, is)

-- ---- what a number of a chain says

says_by : {A : Type 0} (reads : List ℕ → Option (ℕ × A)) (look : ℕ → Option (List ℕ)) (x : ℕ × A) (xs : List (ℕ × A)) (m : ℕ) → BlockChain reads look (x ∷ xs) 0 → (t : Bool) → eqb x.0 m ≡ t → 0 < cond {A = ℕ} t 1 0 + times m (numbers xs)
    → (0 < times m (numbers xs) → is_some (said_by reads (look m)) ≡ true) → is_some (said_by reads (look m)) ≡ true
says_by reads look x xs m chain true is some rest =
    let e : x.0 ≡ m = grind (arith, nat_tests, is) in
    subst (λ n. is_some (said_by reads (look n)) ≡ true) e (ap is_some chain.1)
says_by reads look x xs m chain false is some rest = rest (omega (arith, some))

pub number_says : {A : Type 0} (reads : List ℕ → Option (ℕ × A)) (look : ℕ → Option (List ℕ)) (xs : List (ℕ × A)) (m : ℕ) → BlockChain reads look xs 0 → 0 < times m (numbers xs) → is_some (said_by reads (look m)) ≡ true
number_says reads look [] m chain some = absurd (omega (arith, some))
number_says reads look (x ∷ xs) m chain some = says_by reads look x xs m chain (eqb x.0 m) refl some (λ more. number_says reads look xs m chain.2 more)

zero_by : (n : ℕ) (t : Bool) → eqb n 0 ≡ t → (k : ℕ) → (n ≡ 0 → ⊥) → k ≡ 0 → cond {A = ℕ} t 1 0 + k ≡ 0
zero_by n true is k some rest = absurd (some (grind (arith, nat_tests, is)))
zero_by n false is k some rest = omega (arith, rest)

zero_out : {A : Type 0} (reads : List ℕ → Option (ℕ × A)) (look : ℕ → Option (List ℕ)) (xs : List (ℕ × A)) → BlockChain reads look xs 0 → times 0 (numbers xs) ≡ 0
zero_out reads look [] chain = refl
zero_out reads look (x ∷ xs) chain = zero_by x.0 (eqb x.0 0) refl (times 0 (numbers xs)) chain.0 (zero_out reads look xs chain.2)

-- ---- the law

-- a block of a list's file is its head, a block of entries or a free one
pub record IsFormed (width b : ℕ) (bytes : List ℕ) : Type 0 where
  pub head : b ≡ 0 → is_some (head_in bytes) ≡ true
  pub other : 0 < b → (is_some (leaf_in width bytes) || is_some (free_in bytes)) ≡ true

pub or_left : (a b : Bool) → a ≡ true → (a || b) ≡ true
or_left true b h = refl
or_left false b h = absurd (true≢false (sym h))

pub or_right : (a b : Bool) → b ≡ true → (a || b) ≡ true
or_right true b h = refl
or_right false b h = h

pub there : (bs : List (List ℕ)) (b : ℕ) (bytes : List ℕ) → slice_get bs b ≡ Some bytes → b < length bs
there [] b bytes h = absurd (cc (h))
there (x ∷ bs) zero bytes h = omega arith
there (x ∷ bs) (suc b) bytes h = omega (arith, there bs b bytes h)

pub said_there : {A : Type 0} (reads : List ℕ → Option (ℕ × A)) (o : Option (List ℕ)) (bytes : List ℕ) → o ≡ Some bytes → is_some (said_by reads o) ≡ true → is_some (reads bytes) ≡ true
said_there reads o bytes at h = sym (ap (λ x. is_some (said_by reads x)) at) ∙ h

which : (width : ℕ) (bs : List (List ℕ)) (ls : List Leaf) (fs : List Spare) → IsList width (length bs) (slice_get bs) ls fs → (b : ℕ) (bytes : List ℕ) → slice_get bs b ≡ Some bytes
    → (k : ℕ) → times b (numbers ls) ≡ k → 0 < times b (numbers ls) + times b (numbers fs) → (is_some (leaf_in width bytes) || is_some (free_in bytes)) ≡ true
which width bs ls fs l b bytes at zero e some =
    or_right (is_some (leaf_in width bytes)) (is_some (free_in bytes)) (said_there free_in (slice_get bs b) bytes at (number_says free_in (slice_get bs) fs b l.free (omega (arith, e, some))))
which width bs ls fs l b bytes at (suc k) e some =
    or_left (is_some (leaf_in width bytes)) (is_some (free_in bytes)) (said_there (leaf_in width) (slice_get bs b) bytes at (number_says (leaf_in width) (slice_get bs) ls b l.chain (omega (arith, e))))

pub formed_in_list : (width : ℕ) (bs : List (List ℕ)) (xs : List (List ℕ)) → list_in width bs ≡ Some xs → (b : ℕ) (bytes : List ℕ) → slice_get bs b ≡ Some bytes → IsFormed width b bytes
formed_in_list width bs xs is b bytes at = by (list_is width bs xs (λ e. absurd (omega (arith, e, there bs b bytes at))) is)
  where
    by : Spelt width (length bs) (slice_get bs) xs → IsFormed width b bytes
    by s =
        let l = s.list in
        let ns = numbers s.leaves ++ numbers s.spares in
        record {
          head = λ e. said_there head_in (slice_get bs b) bytes at (subst (λ n. is_some (said_by head_in (slice_get bs n)) ≡ true) (sym e) (ap is_some l.head));
          other = λ some.
              let among = all_met (length bs) ns
              (λ n. omega (arith, times_append n (numbers s.leaves) (numbers s.spares), l.once n))
              (λ n more. l.low n (omega (arith, times_append n (numbers s.leaves) (numbers s.spares), more)))
              (omega (arith, times_append 0 (numbers s.leaves) (numbers s.spares), zero_out (leaf_in width) (slice_get bs) s.leaves l.chain, zero_out free_in (slice_get bs) s.spares l.free))
              (omega (arith, length-append (numbers s.leaves) (numbers s.spares), numbers_length s.leaves, numbers_length s.spares, l.count_is))
              b some (there bs b bytes at) in
              which width bs s.leaves s.spares l b bytes at (times b (numbers s.leaves)) refl (omega (arith, among, times_append b (numbers s.leaves) (numbers s.spares)));
        }
