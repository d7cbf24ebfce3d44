-- The list that a file's blocks spell after blocks of it were written.
use Rattle.std.proofs.Common.{ℕ, zero, suc, ◌+◌, ◌^◌, ◌≤◌, ◌<◌, max, ◌≡◌, ◌⊎◌, inl, inr, ◌∙◌, List, [], ◌∷◌, ◌++◌, Some, None, cond, eqb, length, slice_get, refl, sym, ap, subst, arith}
use Rattle.std.specs.declared.option.Option.{Option}
use Rattle.std.proofs.lemmas.Bool.{cases_eq}
use Rattle.std.proofs.lemmas.Bool.Decides.{nat_tests}
use Rattle.dms_block.specs.Content.{put_block}
use Rattle.dms_block.specs.ContentLaws.{laid_length}
use Rattle.dms_chain.specs.Laid.{laid_look}
use Rattle.dms_chain.specs.Linked.{BlockChain, front, numbers, put, said_by, times}
use Rattle.dms_chain.specs.LinkedLaws.{times_other, times_own}
use Rattle.dms_chain.specs.ListBlocks.{free_in, head_bytes, head_in, leaf_in}
use Rattle.dms_chain.specs.ListIn.{IsList, Leaf, Spare, entries_of, list_in}
use Rattle.dms_chain.specs.ListInLaws.{list_of}
use Rattle.dms_chain.specs.Lists.{AreInByteOrder}
use Rattle.dms_ordlist.specs.Opened.{IsOpenAt, begins_leaf, changes_leaf, closes_list, frees_block, heads_list, lengthens_list, opens_list, parts_leaf, takes_spare, unlinks_leaf, unlinked_first}
use Rattle.dms_chain.specs.SpellLaws.{head_again}

if_same : (n : ℕ) (o p : Option (List ℕ)) → cond (eqb n n) o p ≡ o
if_same n o p = grind (arith, nat_tests)

-- a look at blocks, one of which was written before
pub put_look : (look other : ℕ → Option (List ℕ)) (b : ℕ) (x : List ℕ) → look ≡ other → put look b x ≡ put other b x
put_look look other b x same = λ i. put (same i) b x

pub put_off : (look : ℕ → Option (List ℕ)) (b : ℕ) (x : List ℕ) (n : ℕ) → (n ≡ b → ⊥) → put look b x n ≡ look n
put_off look b x n off = grind (arith, nat_tests)

pub list_by_open : (width : ℕ) (bs : List (List ℕ)) (count : ℕ) (look : ℕ → Option (List ℕ)) (first free : ℕ) (ls : List Leaf) (fs : List Spare) → length bs ≡ count → slice_get bs ≡ look → IsOpenAt width count look first free ls fs [] → AreInByteOrder (entries_of ls)
    → said_by head_in (look 0) ≡ Some (first, free) → list_in width bs ≡ Some (entries_of ls)
list_by_open width bs count look first free ls fs size is o rises head =
    list_of width bs ls fs (subst (λ n. IsList width n (slice_get bs) ls fs) (sym size) (subst (λ k. IsList width count k ls fs) (sym is) (closes_list width count look first free ls fs o rises head)))

-- a number of a chain isn't 0, and is below the count
pub chain_low : (width count : ℕ) (look : ℕ → Option (List ℕ)) (p s : List Leaf) (b : ℕ) (es : List (List ℕ)) (fs : List Spare) → IsList width count look (p ++ (b, es) ∷ s) fs → b ≡ 0 → ⊥
chain_low width count look [] s b es fs is e = is.chain.0 e
chain_low width count look (x ∷ p) s b es fs is e = later p is.chain.2
  where
    later : (p : List Leaf) → BlockChain (leaf_in width) look (p ++ (b, es) ∷ s) 0 → ⊥
    later [] chain = chain.0 e
    later (y ∷ p) chain = later p chain.2

-- a block of entries is written in the place of another
pub here_written : (width : ℕ) (bs : List (List ℕ)) (p s : List Leaf) (b : ℕ) (es more : List (List ℕ)) (fs : List Spare) (bytes : List ℕ) → IsList width (length bs) (slice_get bs) (p ++ (b, es) ∷ s) fs → b < length bs → leaf_in width bytes ≡ Some (front s 0, more)
    → AreInByteOrder (entries_of (p ++ (b, more) ∷ s)) → list_in width (put_block b bytes bs) ≡ Some (entries_of (p ++ (b, more) ∷ s))
here_written width bs p s b es more fs bytes is low reads rises =
    let look = slice_get bs in
    let whole = p ++ (b, es) ∷ s in
    let o = changes_leaf width (length bs) look (front whole 0) (front fs 0) p s b es more fs bytes (opens_list width (length bs) look whole fs is) reads in
    let some : b ≡ 0 → ⊥ = chain_low width (length bs) look p s b es fs is in
    list_by_open width (put_block b bytes bs) (length bs) (put look b bytes) (front whole 0) (front fs 0) (p ++ (b, more) ∷ s) fs (laid_length b bytes bs (omega (arith, low)) ∙ omega (arith, low)) (laid_look b bytes bs (omega (arith, low))) o rises
    (ap (said_by head_in) (put_off look b bytes 0 (λ e. absurd (some (sym e)))) ∙ is.head)

-- A block is taken: the first free one, or a new one at the file's end; a file of no blocks gets its head before it. It grows only
-- where none is free.
pub record Taken (width : ℕ) (bs : List (List ℕ)) (first : ℕ) (ls : List Leaf) (f free : ℕ) : Type 0 where
  pub spares : List Spare
  pub chains : IsOpenAt width (max (length bs) (f + 1)) (slice_get bs) first free ls spares (f ∷ [])
  pub near : f ≤ max (length bs) 1
  pub room : max (length bs) (f + 1) ≤ max (length bs) (2 + length ls)

pub taken_none : (width : ℕ) (bs : List (List ℕ)) → length bs ≡ 0 → Taken width bs 0 [] 1 0
taken_none width bs none = record {
  spares = [];
  chains = record {
    first_is = refl;
    free_is = refl;
    chain = tt;
    spare = tt;
    count_is = omega (arith, none);
    once = λ n. one_most n;
    low = λ n some. one_low n some;
    some = times_other 0 1 (λ e. absurd (omega (arith, e)));
  };
  near = omega arith;
  room = omega arith;
}
  where
    one_most : (n : ℕ) → times n (numbers {A = List (List ℕ)} []) + times n (numbers {A = Unit {0}} []) + times n (1 ∷ []) ≤ 1
    one_most n = elim (cases_eq 1 n) [
      | inl same ↦ omega (arith, times_own n, ap (λ m. times n (m ∷ [])) same)
      | inr other ↦ omega (arith, times_other n 1 other)
    ]

    one_low : (n : ℕ) → 0 < times n (numbers {A = List (List ℕ)} []) + times n (numbers {A = Unit {0}} []) + times n (1 ∷ []) → n < max (length bs) 2
    one_low n some = elim (cases_eq 1 n) [
      | inl same ↦ omega (arith, same)
      | inr other ↦ omega (arith, some, times_other n 1 other)
    ]

pub taken_end : (width : ℕ) (bs : List (List ℕ)) (ls : List Leaf) (fs : List Spare) (free f : ℕ) → IsList width (length bs) (slice_get bs) ls fs → free ≡ front fs 0 → free ≡ 0 → f ≡ length bs → Taken width bs (front ls 0) ls f 0
taken_end width bs ls [] free f is head none end =
    let o = lengthens_list width (length bs) (slice_get bs) (front ls 0) 0 ls (opens_list width (length bs) (slice_get bs) ls [] is) in
    let size : length bs + 1 ≡ max (length bs) (f + 1) = omega (arith, end) in
    record {
      spares = [];
      chains = subst (λ n. IsOpenAt width n (slice_get bs) (front ls 0) 0 ls [] (f ∷ [])) size (subst (λ n. IsOpenAt width (length bs + 1) (slice_get bs) (front ls 0) 0 ls [] (n ∷ [])) (sym end) o);
      near = omega (arith, end);
      room = omega (arith, end, is.count_is);
    }
taken_end width bs ls (x ∷ fs) free f is head none end = absurd (is.free.0 (sym head ∙ none))

abbrev next_of : Option Spare → ℕ
next_of None = 0
next_of (Some x) = x.0

pub taken_free : (width : ℕ) (bs : List (List ℕ)) (ls : List Leaf) (fs : List Spare) (f next : ℕ) → IsList width (length bs) (slice_get bs) ls fs → f ≡ front fs 0 → (f ≡ 0 → ⊥) → said_by free_in (slice_get bs f) ≡ Some (next, tt) → Taken width bs (front ls 0) ls f next
taken_free width bs ls [] f next is head some said = absurd (some head)
taken_free width bs ls ((n, u) ∷ fs) f next is head some said =
    let o = takes_spare width (length bs) (slice_get bs) (front ls 0) n n u ls fs (opens_list width (length bs) (slice_get bs) ls ((n, u) ∷ fs) is) in
    let one : Option Spare = Some (next, tt) in
    let two : Option Spare = Some (front fs 0, u) in
    let same : one ≡ two = sym said ∙ ap (λ k. said_by free_in (slice_get bs k)) head ∙ is.free.1 in
    let behind : next ≡ front fs 0 = ap next_of same in
    let low : n < length bs = is.low n (omega (arith, times_own n)) in
    let size : length bs ≡ max (length bs) (f + 1) = omega (arith, low, head) in
    record {
      spares = fs;
      chains = subst (λ m. IsOpenAt width m (slice_get bs) (front ls 0) next ls fs (f ∷ [])) size
          (subst (λ m. IsOpenAt width (length bs) (slice_get bs) (front ls 0) next ls fs (m ∷ [])) (sym head) (subst (λ m. IsOpenAt width (length bs) (slice_get bs) (front ls 0) m ls fs (n ∷ [])) (sym behind) o));
      near = omega (arith, low, head);
      room = omega (arith, low, head);
    }

loose_some : (width count : ℕ) (look : ℕ → Option (List ℕ)) (first free : ℕ) (ls : List Leaf) (fs : List Spare) (f : ℕ) → IsOpenAt width count look first free ls fs (f ∷ []) → f ≡ 0 → ⊥
loose_some width count look first free ls fs f o e = absurd (omega (arith, o.some, times_own f, ap (λ k. times k (f ∷ [])) e))

-- what the head says after it was written, and blocks behind it
head_said : (look : ℕ → Option (List ℕ)) (first free : ℕ) → first < 2 ^ 32 → free < 2 ^ 32 → said_by head_in (put look 0 (head_bytes first free) 0) ≡ Some (first, free)
head_said look first free low low' = ap (said_by head_in) (if_same 0 (Some (head_bytes first free)) (look 0)) ∙ head_again first free low low'

said_off : (look : ℕ → Option (List ℕ)) (b : ℕ) (x : List ℕ) (h : ℕ × ℕ) → (b ≡ 0 → ⊥) → said_by head_in (look 0) ≡ Some h → said_by head_in (put look b x 0) ≡ Some h
said_off look b x h some said = ap (said_by head_in) (put_off look b x 0 (λ e. absurd (some (sym e)))) ∙ said

two_look : (bs : List (List ℕ)) (head x : List ℕ) (f : ℕ) → f ≤ max (length bs) 1 → slice_get (put_block f x (put_block 0 head bs)) ≡ put (put (slice_get bs) 0 head) f x
two_look bs head x f near =
    laid_look f x (put_block 0 head bs) (omega (arith, near, laid_length 0 head bs (omega arith))) ∙ put_look (slice_get (put_block 0 head bs)) (put (slice_get bs) 0 head) f x (laid_look 0 head bs (omega arith))

two_long : (bs : List (List ℕ)) (head x : List ℕ) (f : ℕ) → f ≤ max (length bs) 1 → 0 < f → length (put_block f x (put_block 0 head bs)) ≡ max (length bs) (f + 1)
two_long bs head x f near some = omega (arith, some, near, laid_length f x (put_block 0 head bs) (omega (arith, near, laid_length 0 head bs (omega arith))), laid_length 0 head bs (omega arith))

positive : (n : ℕ) → (n ≡ 0 → ⊥) → 0 < n
positive zero h = absurd (h refl)
positive (suc n) h = omega arith

-- the first entry
pub begun_written : (width : ℕ) (bs : List (List ℕ)) (first f free : ℕ) (es : List (List ℕ)) (bytes : List ℕ) → Taken width bs first [] f free → f < 2 ^ 32 → free < 2 ^ 32 → leaf_in width bytes ≡ Some (0, es) → AreInByteOrder (entries_of ((f, es) ∷ []))
    → list_in width (put_block f bytes (put_block 0 (head_bytes f free) bs)) ≡ Some (entries_of ((f, es) ∷ []))
begun_written width bs first f free es bytes t low low' reads rises =
    let look = slice_get bs in
    let head = head_bytes f free in
    let count = max (length bs) (f + 1) in
    let o = begins_leaf width count (put look 0 head) first free f es t.spares bytes (heads_list width count look first free [] t.spares (f ∷ []) head t.chains) reads in
    let some = loose_some width count look first free [] t.spares f t.chains in
    list_by_open width (put_block f bytes (put_block 0 head bs)) count (put (put look 0 head) f bytes) f free ((f, es) ∷ []) t.spares (two_long bs head bytes f t.near (positive f some)) (two_look bs head bytes f t.near) o rises
    (said_off (put look 0 head) f bytes (f, free) some (head_said look f free low low'))

open_low : (width count : ℕ) (look : ℕ → Option (List ℕ)) (p s : List Leaf) (b : ℕ) (es : List (List ℕ)) → BlockChain (leaf_in width) look (p ++ (b, es) ∷ s) 0 → b ≡ 0 → ⊥
open_low width count look [] s b es chain e = chain.0 e
open_low width count look (x ∷ p) s b es chain e = open_low width count look p s b es chain.2 e

-- a block that is parted in two
pub split_written : (width : ℕ) (bs : List (List ℕ)) (first f free : ℕ) (p s : List Leaf) (b : ℕ) (es less more : List (List ℕ)) (bytes others : List ℕ) → Taken width bs first (p ++ (b, es) ∷ s) f free → b < length bs → first < 2 ^ 32 → free < 2 ^ 32
    → leaf_in width others ≡ Some (front s 0, more) → leaf_in width bytes ≡ Some (f, less) → AreInByteOrder (entries_of (p ++ (b, less) ∷ ((f, more) ∷ s)))
    → list_in width (put_block b bytes (put_block f others (put_block 0 (head_bytes first free) bs))) ≡ Some (entries_of (p ++ (b, less) ∷ ((f, more) ∷ s)))
split_written width bs first f free p s b es less more bytes others t there low low' upper lower rises =
    let look = slice_get bs in
    let head = head_bytes first free in
    let count = max (length bs) (f + 1) in
    let whole = p ++ (b, es) ∷ s in
    let two = put_block f others (put_block 0 head bs) in
    let some = loose_some width count look first free whole t.spares f t.chains in
    let some' = open_low width count look p s b es t.chains.chain in
    let o = parts_leaf width count (put look 0 head) first free p s b f es less more t.spares bytes others (heads_list width count look first free whole t.spares (f ∷ []) head t.chains) upper lower in
    let long = two_long bs head others f t.near (positive f some) in
    list_by_open width (put_block b bytes two) count (put (put (put look 0 head) f others) b bytes) first free (p ++ (b, less) ∷ ((f, more) ∷ s)) t.spares
    (omega (arith, there, long, laid_length b bytes two (omega (arith, there, long))))
    (laid_look b bytes two (omega (arith, there, long)) ∙ put_look (slice_get two) (put (put look 0 head) f others) b bytes (two_look bs head others f t.near)) o rises
    (said_off (put (put look 0 head) f others) b bytes (first, free) some' (said_off (put look 0 head) f others (first, free) some (head_said look first free low low')))

-- the first block becomes a free one
pub first_freed : (width : ℕ) (bs : List (List ℕ)) (s : List Leaf) (b : ℕ) (es : List (List ℕ)) (fs : List Spare) (bytes : List ℕ) → IsList width (length bs) (slice_get bs) ((b, es) ∷ s) fs → b < length bs → b < 2 ^ 32 → front s 0 < 2 ^ 32
    → free_in bytes ≡ Some (front fs 0, tt) → AreInByteOrder (entries_of s) → list_in width (put_block b bytes (put_block 0 (head_bytes (front s 0) b) bs)) ≡ Some (entries_of s)
first_freed width bs s b es fs bytes is there low low' reads rises =
    let look = slice_get bs in
    let count = length bs in
    let head = head_bytes (front s 0) b in
    let start = unlinked_first width count look b (front fs 0) s b es fs (opens_list width count look ((b, es) ∷ s) fs is) in
    let o = frees_block width count (put look 0 head) (front s 0) (front fs 0) b s fs bytes (heads_list width count look (front s 0) (front fs 0) s fs (b ∷ []) head start) reads in
    list_by_open width (put_block b bytes (put_block 0 head bs)) count (put (put look 0 head) b bytes) (front s 0) b s ((b, tt) ∷ fs)
    (two_long bs head bytes b (omega (arith, there)) (positive b is.chain.0) ∙ omega (arith, there)) (two_look bs head bytes b (omega (arith, there))) o rises
    (said_off (put look 0 head) b bytes (front s 0, b) is.chain.0 (head_said look (front s 0) b low' low))

-- a later block becomes a free one
pub later_freed : (width : ℕ) (bs : List (List ℕ)) (first : ℕ) (q s : List Leaf) (a b : ℕ) (ds es : List (List ℕ)) (fs : List Spare) (before bytes : List ℕ) → IsList width (length bs) (slice_get bs) (q ++ (a, ds) ∷ ((b, es) ∷ s)) fs → first ≡ front (q ++ (a, ds) ∷ ((b, es) ∷ s)) 0
    → a < length bs → b < length bs → b < 2 ^ 32 → first < 2 ^ 32 → leaf_in width before ≡ Some (front s 0, ds) → free_in bytes ≡ Some (front fs 0, tt) → AreInByteOrder (entries_of (q ++ (a, ds) ∷ s))
    → list_in width (put_block b bytes (put_block a before (put_block 0 (head_bytes first b) bs))) ≡ Some (entries_of (q ++ (a, ds) ∷ s))
later_freed width bs first q s a b ds es fs before bytes is head_is there there' low low' reads reads' rises =
    let look = slice_get bs in
    let count = length bs in
    let head = head_bytes first b in
    let whole = q ++ (a, ds) ∷ ((b, es) ∷ s) in
    let two = put_block a before (put_block 0 head bs) in
    let some = open_low width count look q ((b, es) ∷ s) a ds is.chain in
    let start = subst (λ n. IsOpenAt width count look n (front fs 0) whole fs []) (sym head_is) (opens_list width count look whole fs is) in
    let middle = unlinks_leaf width count (put look 0 head) first (front fs 0) q s a b ds es fs before (heads_list width count look first (front fs 0) whole fs [] head start) reads in
    let some' = loose_some width count (put (put look 0 head) a before) first (front fs 0) (q ++ (a, ds) ∷ s) fs b middle in
    let o = frees_block width count (put (put look 0 head) a before) first (front fs 0) b (q ++ (a, ds) ∷ s) fs bytes middle reads' in
    let long = two_long bs head before a (omega (arith, there)) (positive a some) in
    list_by_open width (put_block b bytes two) count (put (put (put look 0 head) a before) b bytes) first b (q ++ (a, ds) ∷ s) ((b, tt) ∷ fs)
    (omega (arith, there, there', long, laid_length b bytes two (omega (arith, there, there', long))))
    (laid_look b bytes two (omega (arith, there, there', long)) ∙ put_look (slice_get two) (put (put look 0 head) a before) b bytes (two_look bs head before a (omega (arith, there)))) o rises
    (said_off (put (put look 0 head) a before) b bytes (first, b) some' (said_off (put look 0 head) a before (first, b) some (head_said look first b low' low)))

-- what is taken from a list, or from a file of no blocks
pub taken_first : (width : ℕ) (bs : List (List ℕ)) (ls : List Leaf) (fs : List Spare) → ((length bs ≡ 0) × (ls ≡ []) × (fs ≡ [])) ⊎ IsList width (length bs) (slice_get bs) ls fs → length bs ≡ 0 → Taken width bs (front ls 0) ls 1 0
taken_first width bs ls fs (inl none) size = subst (λ l. Taken width bs (front l 0) l 1 0) (sym none.1) (taken_none width bs size)
taken_first width bs ls fs (inr is) size = absurd (omega (arith, is.count_is, size))

pub taken_last : (width : ℕ) (bs : List (List ℕ)) (ls : List Leaf) (fs : List Spare) (free f : ℕ) → ((length bs ≡ 0) × (ls ≡ []) × (fs ≡ [])) ⊎ IsList width (length bs) (slice_get bs) ls fs → (length bs ≡ 0 → ⊥) → free ≡ front fs 0 → free ≡ 0 → f ≡ length bs → Taken width bs (front ls 0) ls f 0
taken_last width bs ls fs free f (inl none) some head zero_is end = absurd (some none.0)
taken_last width bs ls fs free f (inr is) some head zero_is end = taken_end width bs ls fs free f is head zero_is end

pub taken_spare : (width : ℕ) (bs : List (List ℕ)) (ls : List Leaf) (fs : List Spare) (f next : ℕ) → ((length bs ≡ 0) × (ls ≡ []) × (fs ≡ [])) ⊎ IsList width (length bs) (slice_get bs) ls fs → (length bs ≡ 0 → ⊥) → f ≡ front fs 0 → (f ≡ 0 → ⊥) → said_by free_in (slice_get bs f) ≡ Some (next, tt) → Taken width bs (front ls 0) ls f next
taken_spare width bs ls fs f next (inl none) some head some' said = absurd (some none.0)
taken_spare width bs ls fs f next (inr is) some head some' said = taken_free width bs ls fs f next is head some' said
