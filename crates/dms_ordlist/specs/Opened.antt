-- The chains of a list while its blocks are changed, its head by itself, and blocks that are in no chain.
use Rattle.std.proofs.Common.{◌≡◌, ℕ, zero, suc, ◌+◌, ◌≤◌, ◌<◌, inl, inr, List, [], ◌∷◌, ◌++◌, Some, refl, sym, ap, ◌∙◌, length, length-append, arith}
use Rattle.std.specs.declared.option.Option.{Option}
use Rattle.std.proofs.lemmas.Bool.{cases_eq}
use Rattle.dms_chain.specs.Lists.{AreInByteOrder}
use Rattle.dms_chain.specs.ListBlocks.{free_in, head_in, leaf_in}
use Rattle.dms_chain.specs.Linked.{BlockChain, front, numbers, put, said_by, times}
use Rattle.dms_chain.specs.LinkedLaws.{chain_both, chain_first, chain_own, chain_second, chain_still, front_append, numbers_times, times_other, times_own}
use Rattle.dms_chain.specs.ListIn.{IsList, Leaf, Spare, entries_of}

pub record IsOpenAt (width count : ℕ) (look : ℕ → Option (List ℕ)) (first free : ℕ) (ls : List Leaf) (fs : List Spare) (loose : List ℕ) : Type 0 where
  pub first_is : front ls 0 ≡ first
  pub free_is : front fs 0 ≡ free
  pub chain : BlockChain (leaf_in width) look ls 0
  pub spare : BlockChain free_in look fs 0
  pub count_is : 1 + (length ls + length fs + length loose) ≡ count
  pub once : (n : ℕ) → times n (numbers ls) + times n (numbers fs) + times n loose ≤ 1
  pub low : (n : ℕ) → 0 < times n (numbers ls) + times n (numbers fs) + times n loose → n < count
  pub some : times 0 loose ≡ 0

pub opens_list : (width count : ℕ) (look : ℕ → Option (List ℕ)) (ls : List Leaf) (fs : List Spare) → IsList width count look ls fs → IsOpenAt width count look (front ls 0) (front fs 0) ls fs []
opens_list width count look ls fs is = record {
  first_is = refl;
  free_is = refl;
  chain = is.chain;
  spare = is.free;
  count_is = omega (arith, is.count_is);
  once = λ n. omega (arith, is.once n);
  low = λ n some. is.low n (omega (arith, some));
  some = refl;
}

pub closes_list : (width count : ℕ) (look : ℕ → Option (List ℕ)) (first free : ℕ) (ls : List Leaf) (fs : List Spare) → IsOpenAt width count look first free ls fs [] → AreInByteOrder (entries_of ls) → said_by head_in (look 0) ≡ Some (first, free) → IsList width count look ls fs
closes_list width count look first free ls fs o rises head = record {
  head = head ∙ (λ i. Some (sym o.first_is i, sym o.free_is i));
  chain = o.chain;
  free = o.spare;
  count_is = omega (arith, o.count_is);
  once = λ n. omega (arith, o.once n);
  low = λ n some. o.low n (omega (arith, some));
  rises = rises;
}

-- the first free block is taken
pub takes_spare : (width count : ℕ) (look : ℕ → Option (List ℕ)) (first free f : ℕ) (u : Unit {0}) (ls : List Leaf) (fs : List Spare) → IsOpenAt width count look first free ls ((f, u) ∷ fs) [] → IsOpenAt width count look first (front fs 0) ls fs (f ∷ [])
takes_spare width count look first free f u ls fs o = record {
  first_is = o.first_is;
  free_is = refl;
  chain = o.chain;
  spare = o.spare.2;
  count_is = omega (arith, o.count_is);
  once = λ n. omega (arith, o.once n);
  low = λ n some. o.low n (omega (arith, some));
  some = times_other 0 f o.spare.0;
}

none_past : (n count t : ℕ) → n ≡ count → (0 < t → n < count) → t ≡ 0
none_past n count zero e h = refl
none_past n count (suc t) e h = absurd (omega (arith, e, h (omega arith)))

-- a block at the file's end is taken
pub lengthens_list : (width count : ℕ) (look : ℕ → Option (List ℕ)) (first free : ℕ) (ls : List Leaf) → IsOpenAt width count look first free ls [] [] → IsOpenAt width (count + 1) look first 0 ls [] (count ∷ [])
lengthens_list width count look first free ls o = record {
  first_is = o.first_is;
  free_is = refl;
  chain = o.chain;
  spare = tt;
  count_is = omega (arith, o.count_is);
  once = λ n. elim (cases_eq count n) [
    | inl same ↦ omega (arith, none_past n count (times n (numbers ls) + times n (numbers {A = Unit {0}} []) + times n []) (sym same) (λ some. o.low n some), times_most n count)
    | inr other ↦ omega (arith, o.once n, times_other n count other)
  ];
  low = λ n some. elim (cases_eq count n) [
    | inl same ↦ omega (arith, same)
    | inr other ↦ omega (arith, o.low n (omega (arith, some, times_other n count other)))
  ];
  some = times_other 0 count (λ e. absurd (omega (arith, e, o.count_is)));
}
  where
    times_most : (n k : ℕ) → times n (k ∷ []) ≤ 1
    times_most n k = elim (cases_eq k n) [
      | inl same ↦ omega (arith, times_own n, ap (λ m. times n (m ∷ [])) same)
      | inr other ↦ omega (arith, times_other n k other)
    ]

not_zero : {A : Type 0} (reads : List ℕ → Option (ℕ × A)) (look : ℕ → Option (List ℕ)) (xs : List (ℕ × A)) (n : ℕ) → BlockChain reads look xs n → times 0 (numbers xs) ≡ 0
not_zero reads look [] n c = refl
not_zero reads look (x ∷ xs) n c = omega (arith, times_other 0 x.0 c.0, not_zero reads look xs n c.2)

-- the head is written
pub heads_list : (width count : ℕ) (look : ℕ → Option (List ℕ)) (first free : ℕ) (ls : List Leaf) (fs : List Spare) (loose : List ℕ) (bytes : List ℕ) → IsOpenAt width count look first free ls fs loose → IsOpenAt width count (put look 0 bytes) first free ls fs loose
heads_list width count look first free ls fs loose bytes o = record {
  first_is = o.first_is;
  free_is = o.free_is;
  chain = chain_still (leaf_in width) look 0 bytes ls 0 (not_zero (leaf_in width) look ls 0 o.chain) o.chain;
  spare = chain_still free_in look 0 bytes fs 0 (not_zero free_in look fs 0 o.spare) o.spare;
  count_is = o.count_is;
  once = o.once;
  low = o.low;
  some = o.some;
}

-- one block among the others
module _ (p s : List Leaf) (b : ℕ) where
  nums : (n : ℕ) (es : List (List ℕ)) → times n (numbers (p ++ (b, es) ∷ s)) ≡ times n (numbers p) + (times n (b ∷ []) + times n (numbers s))
  nums n es = numbers_times n p ((b, es) ∷ s) ∙ ap (λ k. times n (numbers p) + k) (let e : times n (b ∷ numbers s) ≡ times n (b ∷ []) + times n (numbers s) = omega arith in e)

  sizes : (es : List (List ℕ)) → length (p ++ (b, es) ∷ s) ≡ length p + (1 + length s)
  sizes es = omega (arith, length-append p ((b, es) ∷ s))

  fronts : (es : List (List ℕ)) → front (p ++ (b, es) ∷ s) 0 ≡ front p b
  fronts es = front_append p ((b, es) ∷ s) 0

-- a block gets other entries
pub changes_leaf : (width count : ℕ) (look : ℕ → Option (List ℕ)) (first free : ℕ) (p s : List Leaf) (b : ℕ) (es es' : List (List ℕ)) (fs : List Spare) (bytes : List ℕ) → IsOpenAt width count look first free (p ++ (b, es) ∷ s) fs [] → leaf_in width bytes ≡ Some (front s 0, es')
    → IsOpenAt width count (put look b bytes) first free (p ++ (b, es') ∷ s) fs []
changes_leaf width count look first free p s b es es' fs bytes o is =
    let whole = p ++ (b, es) ∷ s in
    let own = times_own b in
    let here = nums p s b b es in
    let at = o.once b in
    let no_p : times b (numbers p) ≡ 0 = omega (arith, own, here, at) in
    let no_s : times b (numbers s) ≡ 0 = omega (arith, own, here, at) in
    let no_f : times b (numbers fs) ≡ 0 = omega (arith, own, here, at) in
    let front_part = chain_first (leaf_in width) look p ((b, es) ∷ s) 0 o.chain in
    let back_part = chain_second (leaf_in width) look p ((b, es) ∷ s) 0 o.chain in
    record {
      first_is = fronts p s b es' ∙ sym (fronts p s b es) ∙ o.first_is;
      free_is = o.free_is;
      chain = chain_both (leaf_in width) (put look b bytes) p ((b, es') ∷ s) 0 (chain_still (leaf_in width) look b bytes p b no_p front_part) (chain_own (leaf_in width) look b bytes es' s 0 back_part.0 is no_s back_part.2);
      spare = chain_still free_in look b bytes fs 0 no_f o.spare;
      count_is = omega (arith, o.count_is, sizes p s b es, sizes p s b es');
      once = λ n. omega (arith, o.once n, nums p s b n es, nums p s b n es');
      low = λ n some. o.low n (omega (arith, some, nums p s b n es, nums p s b n es'));
      some = refl;
    }

-- a block is parted in two
pub parts_leaf : (width count : ℕ) (look : ℕ → Option (List ℕ)) (first free : ℕ) (p s : List Leaf) (b f : ℕ) (es less more : List (List ℕ)) (fs : List Spare) (bytes others : List ℕ) → IsOpenAt width count look first free (p ++ (b, es) ∷ s) fs (f ∷ [])
    → leaf_in width others ≡ Some (front s 0, more) → leaf_in width bytes ≡ Some (f, less)
    → IsOpenAt width count (put (put look f others) b bytes) first free (p ++ (b, less) ∷ ((f, more) ∷ s)) fs []
parts_leaf width count look first free p s b f es less more fs bytes others o upper lower =
    let later = put look f others in
    let own = times_own b in
    let here = nums p s b b es in
    let at = o.once b in
    let own' = times_own f in
    let here' = nums p s b f es in
    let at' = o.once f in
    let no_p : times b (numbers p) ≡ 0 = omega (arith, own, here, at) in
    let no_s : times b (numbers s) ≡ 0 = omega (arith, own, here, at) in
    let no_f : times b (numbers fs) ≡ 0 = omega (arith, own, here, at) in
    let no_b : times b (f ∷ []) ≡ 0 = omega (arith, own, here, at) in
    let no_p' : times f (numbers p) ≡ 0 = omega (arith, own', here', at') in
    let no_s' : times f (numbers s) ≡ 0 = omega (arith, own', here', at') in
    let no_f' : times f (numbers fs) ≡ 0 = omega (arith, own', here', at') in
    let both : times b (f ∷ numbers s) ≡ 0 = omega (arith, no_s, no_b) in
    let some_f : f ≡ 0 → ⊥ = λ e. absurd (omega (arith, o.some, times_own f, ap (λ k. times k (f ∷ [])) e)) in
    let front_part = chain_first (leaf_in width) look p ((b, es) ∷ s) 0 o.chain in
    let back_part = chain_second (leaf_in width) look p ((b, es) ∷ s) 0 o.chain in
    let new_nums : (n : ℕ) → times n (numbers (p ++ (b, less) ∷ ((f, more) ∷ s))) ≡ times n (numbers p) + (times n (b ∷ []) + (times n (f ∷ []) + times n (numbers s))) = λ n. omega (arith, nums p ((f, more) ∷ s) b n less) in
    record {
      first_is = fronts p ((f, more) ∷ s) b less ∙ sym (fronts p s b es) ∙ o.first_is;
      free_is = o.free_is;
      chain = chain_both (leaf_in width) (put later b bytes) p ((b, less) ∷ ((f, more) ∷ s)) 0
          (chain_still (leaf_in width) later b bytes p b no_p (chain_still (leaf_in width) look f others p b no_p' front_part))
          (chain_own (leaf_in width) later b bytes less ((f, more) ∷ s) 0 back_part.0 lower both (chain_own (leaf_in width) look f others more s 0 some_f upper no_s' back_part.2));
      spare = chain_still free_in later b bytes fs 0 no_f (chain_still free_in look f others fs 0 no_f' o.spare);
      count_is = omega (arith, o.count_is, sizes p s b es, sizes p ((f, more) ∷ s) b less);
      once = λ n. omega (arith, o.once n, nums p s b n es, new_nums n);
      low = λ n some. o.low n (omega (arith, some, nums p s b n es, new_nums n));
      some = refl;
    }

-- the first block of a list
pub begins_leaf : (width count : ℕ) (look : ℕ → Option (List ℕ)) (first free f : ℕ) (es : List (List ℕ)) (fs : List Spare) (bytes : List ℕ) → IsOpenAt width count look first free [] fs (f ∷ []) → leaf_in width bytes ≡ Some (0, es)
    → IsOpenAt width count (put look f bytes) f free ((f, es) ∷ []) fs []
begins_leaf width count look first free f es fs bytes o is =
    let own = times_own f in
    let at = o.once f in
    let no_f : times f (numbers fs) ≡ 0 = omega (arith, own, at) in
    let some_f : f ≡ 0 → ⊥ = λ e. absurd (omega (arith, o.some, times_own f, ap (λ k. times k (f ∷ [])) e)) in
    record {
      first_is = refl;
      free_is = o.free_is;
      chain = chain_own (leaf_in width) look f bytes es [] 0 some_f is refl tt;
      spare = chain_still free_in look f bytes fs 0 no_f o.spare;
      count_is = omega (arith, o.count_is);
      once = λ n. omega (arith, o.once n);
      low = λ n some. o.low n (omega (arith, some));
      some = refl;
    }

-- the first block leaves the chain
pub unlinked_first : (width count : ℕ) (look : ℕ → Option (List ℕ)) (first free : ℕ) (s : List Leaf) (b : ℕ) (es : List (List ℕ)) (fs : List Spare) → IsOpenAt width count look first free ((b, es) ∷ s) fs [] → IsOpenAt width count look (front s 0) free s fs (b ∷ [])
unlinked_first width count look first free s b es fs o = record {
  first_is = refl;
  free_is = o.free_is;
  chain = o.chain.2;
  spare = o.spare;
  count_is = omega (arith, o.count_is);
  once = λ n. omega (arith, o.once n);
  low = λ n some. o.low n (omega (arith, some));
  some = times_other 0 b o.chain.0;
}

-- a later block leaves the chain
pub unlinks_leaf : (width count : ℕ) (look : ℕ → Option (List ℕ)) (first free : ℕ) (q s : List Leaf) (a b : ℕ) (ds es : List (List ℕ)) (fs : List Spare) (bytes : List ℕ) → IsOpenAt width count look first free (q ++ (a, ds) ∷ ((b, es) ∷ s)) fs [] → leaf_in width bytes ≡ Some (front s 0, ds)
    → IsOpenAt width count (put look a bytes) first free (q ++ (a, ds) ∷ s) fs (b ∷ [])
unlinks_leaf width count look first free q s a b ds es fs bytes o is =
    let old : (n : ℕ) → times n (numbers (q ++ (a, ds) ∷ ((b, es) ∷ s))) ≡ times n (numbers q) + (times n (a ∷ []) + (times n (b ∷ []) + times n (numbers s))) = λ n. omega (arith, nums q ((b, es) ∷ s) a n ds) in
    let own = times_own a in
    let here = old a in
    let at = o.once a in
    let no_q : times a (numbers q) ≡ 0 = omega (arith, own, here, at) in
    let no_s : times a (numbers s) ≡ 0 = omega (arith, own, here, at) in
    let no_f : times a (numbers fs) ≡ 0 = omega (arith, own, here, at) in
    let front_part = chain_first (leaf_in width) look q ((a, ds) ∷ ((b, es) ∷ s)) 0 o.chain in
    let back_part = chain_second (leaf_in width) look q ((a, ds) ∷ ((b, es) ∷ s)) 0 o.chain in
    record {
      first_is = fronts q s a ds ∙ sym (fronts q ((b, es) ∷ s) a ds) ∙ o.first_is;
      free_is = o.free_is;
      chain = chain_both (leaf_in width) (put look a bytes) q ((a, ds) ∷ s) 0 (chain_still (leaf_in width) look a bytes q a no_q front_part) (chain_own (leaf_in width) look a bytes ds s 0 back_part.0 is no_s back_part.2.2);
      spare = chain_still free_in look a bytes fs 0 no_f o.spare;
      count_is = omega (arith, o.count_is, sizes q ((b, es) ∷ s) a ds, sizes q s a ds);
      once = λ n. omega (arith, o.once n, old n, nums q s a n ds);
      low = λ n some. o.low n (omega (arith, some, old n, nums q s a n ds));
      some = times_other 0 b back_part.2.0;
    }

-- a block that is in no chain becomes the first free one
pub frees_block : (width count : ℕ) (look : ℕ → Option (List ℕ)) (first free b : ℕ) (ls : List Leaf) (fs : List Spare) (bytes : List ℕ) → IsOpenAt width count look first free ls fs (b ∷ []) → free_in bytes ≡ Some (free, tt)
    → IsOpenAt width count (put look b bytes) first b ls ((b, tt) ∷ fs) []
frees_block width count look first free b ls fs bytes o is =
    let own = times_own b in
    let at = o.once b in
    let no_l : times b (numbers ls) ≡ 0 = omega (arith, own, at) in
    let no_f : times b (numbers fs) ≡ 0 = omega (arith, own, at) in
    let some_b : b ≡ 0 → ⊥ = λ e. absurd (omega (arith, o.some, times_own b, ap (λ k. times k (b ∷ [])) e)) in
    record {
      first_is = o.first_is;
      free_is = refl;
      chain = chain_still (leaf_in width) look b bytes ls 0 no_l o.chain;
      spare = chain_own free_in look b bytes tt fs 0 some_b (is ∙ ap (λ n. Some (n, tt)) (sym o.free_is)) no_f o.spare;
      count_is = omega (arith, o.count_is);
      once = λ n. omega (arith, o.once n);
      low = λ n some. o.low n (omega (arith, some));
      some = refl;
    }
