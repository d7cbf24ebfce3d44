-- The tree that blocks spell, as a function and as a relation.
use Rattle.std.proofs.Common.{◌≡◌, ℕ, zero, suc, ◌+◌, ◌≤◌, ◌<◌, List, [], ◌∷◌, ◌++◌, Bool, true, false, cond, eqb, ltb, Some, None, refl, sym, ap, subst, ◌∙◌, length, length-append, slice_get, arith}
use Rattle.std.specs.Prelude.{◌&&◌}
use Rattle.std.specs.declared.option.Option.{Option}
use Rattle.std.specs.Option.{option_map}
use Rattle.std.specs.List.{list_all}
use Rattle.std.specs.Str.{bytes_eq}
use Rattle.std.proofs.lemmas.Bool.Decides.{nat_tests}
use Rattle.std.proofs.lemmas.Bool.{and_parts, and_from}
use Rattle.std.proofs.lemmas.Slice.Eq.{bytes_eq-Decides}
use Rattle.dms_chain.specs.Lists.{AreInByteOrder}
use Rattle.dms_chain.specs.Leads.{is_rises, rising_is}
use Rattle.dms_chain.specs.ListBlocks.{free_in, is_rising, leaf_in}
use Rattle.dms_chain.specs.Linked.{BlockChain, chain_step, front, numbers, said_by, times, walk}
use Rattle.dms_chain.specs.LinkedLaws.{Found, numbers_length, times_append, times_own, walk_finds, walk_is}
use Rattle.dms_chain.specs.ListIn.{Leaf, Spare, entries_of, is_one}
use Rattle.dms_chain.specs.ListInLaws.{lt_true, true_lt}
use Rattle.dms_tree.specs.Levels.{Hangs, Inner, inner_numbers, kids_of, top_numbers, weave}
use Rattle.dms_tree.specs.TreeBlocks.{inner_in, root_in}
use Rattle.dms_tree.specs.TreeIn.{Grown, IsTree, SayLevel, SayLevels, all_half, first_number, is_whole, leaves_at, leaves_if, leaves_or, level_at, level_step, levels, says, tree_by, tree_from, tree_if, tree_in, tree_numbers, under_level}
use Rattle.dms_tree.specs.TreeSpells.{inner_no_leaf, inner_says}

true_eq : (a b : ℕ) → eqb a b ≡ true → a ≡ b
true_eq a b h = grind (arith, nat_tests)

eq_true : (a b : ℕ) → a ≡ b → eqb a b ≡ true
eq_true a b h = grind (arith, nat_tests)

all_here : (p : ℕ → Bool) (x n : ℕ) (xs : List ℕ) (t : Bool) → eqb x n ≡ t → p x ≡ true → (0 < times n xs → p n ≡ true) → 0 < cond t 1 0 + times n xs → p n ≡ true
all_here p x n xs true same here rest some = ap p (sym (true_eq x n same)) ∙ here
all_here p x n xs false other here rest some = rest (omega (arith, some))

all_at : (p : ℕ → Bool) (xs : List ℕ) (n : ℕ) → list_all p xs ≡ true → 0 < times n xs → p n ≡ true
all_at p [] n all some = absurd (omega arith)
all_at p (x ∷ xs) n all some =
    let parts = and_parts (p x) (list_all p xs) all in
    all_here p x n xs (eqb x n) refl parts.0 (λ more. all_at p xs n parts.1 more) some

all_by : (p : ℕ → Bool) (xs : List ℕ) → ((n : ℕ) → 0 < times n xs → p n ≡ true) → list_all p xs ≡ true
all_by p [] each = refl
all_by p (x ∷ xs) each = and_from (p x) (list_all p xs) (each x (omega (arith, times_own x))) (all_by p xs (λ n some. each n (omega arith)))

-- all blocks, once each

pub record AllOnce (count : ℕ) (all : List ℕ) : Type 0 where
  pub count_is : 1 + length all ≡ count
  pub once : (n : ℕ) → times n all ≤ 1
  pub low : (n : ℕ) → 0 < times n all → n < count

one_at_most : (t : ℕ) → (0 < t → t ≡ 1) → t ≤ 1
one_at_most zero h = omega arith
one_at_most (suc t) h = omega (arith, h (omega arith))

abbrev once_test : ℕ → List ℕ → Bool
once_test count all = list_all (is_one count all) all && eqb (1 + length all) count

once_is : (count : ℕ) (all : List ℕ) → AllOnce count all → once_test count all ≡ true
once_is count all h =
    and_from (list_all (is_one count all) all) (eqb (1 + length all) count)
    (all_by (is_one count all) all (λ n some. and_from (eqb (times n all) 1) (ltb n count) (eq_true (times n all) 1 (omega (arith, h.once n, some))) (lt_true n count (h.low n some))))
    (eq_true (1 + length all) count h.count_is)

is_once : (count : ℕ) (all : List ℕ) → once_test count all ≡ true → AllOnce count all
is_once count all h =
    let parts = and_parts (list_all (is_one count all) all) (eqb (1 + length all) count) h in
    let one : (n : ℕ) → 0 < times n all → (times n all ≡ 1) × (n < count) = λ n some.
    let both = and_parts (eqb (times n all) 1) (ltb n count) (all_at (is_one count all) all n parts.0 some) in
    (true_eq (times n all) 1 both.0, true_lt n count both.1) in
    record { count_is = true_eq (1 + length all) count parts.1; once = λ n. one_at_most (times n all) (λ some. (one n some).0); low = λ n some. (one n some).1 }

pub record Whole (width count root : ℕ) (us : List (List Inner)) (ls : List Leaf) (fs : List Spare) : Type 0 where
  pub all : AllOnce count (tree_numbers us ls fs)
  pub rises : AreInByteOrder (weave us ls)
  pub half : all_half width root us ls ≡ true

whole_is : (width count root : ℕ) (us : List (List Inner)) (ls : List Leaf) (fs : List Spare) → Whole width count root us ls fs → is_whole width count root us ls fs ≡ true
whole_is width count root us ls fs w =
    and_from (once_test count (tree_numbers us ls fs) && is_rising (weave us ls)) (all_half width root us ls)
    (and_from (once_test count (tree_numbers us ls fs)) (is_rising (weave us ls)) (once_is count (tree_numbers us ls fs) w.all) (rising_is (weave us ls) w.rises)) w.half

is_whole_so : (width count root : ℕ) (us : List (List Inner)) (ls : List Leaf) (fs : List Spare) → is_whole width count root us ls fs ≡ true → Whole width count root us ls fs
is_whole_so width count root us ls fs h =
    let outer = and_parts (once_test count (tree_numbers us ls fs) && is_rising (weave us ls)) (all_half width root us ls) h in
    let inner = and_parts (once_test count (tree_numbers us ls fs)) (is_rising (weave us ls)) outer.0 in
    record { all = is_once count (tree_numbers us ls fs) inner.0; rises = is_rises (weave us ls) inner.1; half = outer.1 }

-- reading levels gives what the blocks say

module _ (width : ℕ) (look : ℕ → Option (List ℕ)) where
  pub record LevelFound (ns : List ℕ) (us : List Inner) : Type 0 where
    pub at : numbers us ≡ ns
    pub said : SayLevel width look us

  level_more : (n : ℕ) (ns : List ℕ) (x : List ℕ × List (List ℕ)) (o : Option (List Inner)) (us : List Inner) → says (inner_in width) (look n) ≡ Some x → ((vs : List Inner) → o ≡ Some vs → LevelFound ns vs) → option_map (λ vs. (n, x) ∷ vs) o ≡ Some us → LevelFound (n ∷ ns) us
  level_more n ns x None us said rest is = absurd (cc is)
  level_more n ns x (Some vs) us said rest is =
      let found = rest vs refl in
      let whole : (n, x) ∷ vs ≡ us = cc is in
      subst (LevelFound (n ∷ ns)) whole (record { at = ap (λ (l : List ℕ). n ∷ l) found.at; said = (said, found.said) })

  level_on : (n : ℕ) (ns : List ℕ) (o : Option (List ℕ × List (List ℕ))) (rest : Option (List Inner)) (us : List Inner) → says (inner_in width) (look n) ≡ o → ((vs : List Inner) → rest ≡ Some vs → LevelFound ns vs) → level_step n o rest ≡ Some us → LevelFound (n ∷ ns) us
  level_on n ns None rest us said found is = absurd (cc is)
  level_on n ns (Some x) rest us said found is = level_more n ns x rest us said found is

  none_found : (us : List Inner) → Some [] ≡ Some us → LevelFound [] us
  none_found [] is = record { at = refl; said = tt }
  none_found (u ∷ us) is = absurd (cc is)

  level_finds : (ns : List ℕ) (us : List Inner) → level_at width look ns ≡ Some us → LevelFound ns us
  level_finds [] us is = none_found us is
  level_finds (n ∷ ns) us is = level_on n ns (says (inner_in width) (look n)) (level_at width look ns) us refl (λ vs h. level_finds ns vs h) is

  pub record LeavesFound (ns : List ℕ) (ls : List Leaf) : Type 0 where
    pub at : ns ≡ numbers ls
    pub chain : BlockChain (leaf_in width) look ls 0

  leaves_test : (ns : List ℕ) (ks ls : List Leaf) (t : Bool) → bytes_eq (numbers ks) ns ≡ t → BlockChain (leaf_in width) look ks 0 → cond t (Some ks) None ≡ Some ls → LeavesFound ns ls
  leaves_test ns ks ls false tested chain is = absurd (cc is)
  leaves_test ns ks ls true tested chain is =
      let same : ks ≡ ls = cc is in
      subst (LeavesFound ns) same (record { at = sym ((bytes_eq-Decides (numbers ks) ns).0 tested); chain = chain })

  leaves_walked : (ns : List ℕ) (o : Option (List Leaf)) (ls : List Leaf) → walk (length ns) (leaf_in width) look (first_number ns) ≡ o → leaves_if ns o ≡ Some ls → LeavesFound ns ls
  leaves_walked ns None ls w is = absurd (cc is)
  leaves_walked ns (Some ks) ls w is = leaves_test ns ks ls _ refl (walk_finds (leaf_in width) look (length ns) (first_number ns) ks w).chain is

  leaves_finds : (ns : List ℕ) (ls : List Leaf) → leaves_at width look ns ≡ Some ls → LeavesFound ns ls
  leaves_finds ns ls is = leaves_walked ns _ ls refl is

  pub record Grows (ns : List ℕ) (g : Grown) : Type 0 where
    pub hangs : Hangs ns g.0 (numbers g.1)
    pub said : SayLevels width look g.0
    pub chain : BlockChain (leaf_in width) look g.1 0

  grows_here : (ns : List ℕ) (ls : List Leaf) (g : Grown) → leaves_at width look ns ≡ Some ls → Some ([], ls) ≡ Some g → Grows ns g
  grows_here ns ls g found is =
      let at = leaves_finds ns ls found in
      let same : ([], ls) ≡ g = cc is in
      subst (Grows ns) same (record { hangs = at.at; said = tt; chain = at.chain })

  grows_by : (ns : List ℕ) (o : Option (List Leaf)) (rest : Option Grown) (g : Grown) → leaves_at width look ns ≡ o → (rest ≡ Some g → Grows ns g) → leaves_or o rest ≡ Some g → Grows ns g
  grows_by ns None rest g found onward is = onward is
  grows_by ns (Some ls) rest g found onward is = grows_here ns ls g found is

  grows_under : (ns : List ℕ) (u : List Inner) (o : Option Grown) (g : Grown) → level_at width look ns ≡ Some u → ((h : Grown) → o ≡ Some h → Grows (kids_of u) h) → option_map (λ h. (u ∷ h.0, h.1)) o ≡ Some g → Grows ns g
  grows_under ns u None g level rest is = absurd (cc is)
  grows_under ns u (Some h) g level rest is =
      let below = rest h refl in
      let found = level_finds ns u level in
      let same : (u ∷ h.0, h.1) ≡ g = cc is in
      subst (Grows ns) same (record { hangs = (found.at, below.hangs); said = (found.said, below.said); chain = below.chain })

  grows_level : (ns : List ℕ) (o : Option (List Inner)) (rest : List Inner → Option Grown) (g : Grown) → level_at width look ns ≡ o → ((u : List Inner) (h : Grown) → rest u ≡ Some h → Grows (kids_of u) h) → under_level o rest ≡ Some g → Grows ns g
  grows_level ns None rest g level below is = absurd (cc is)
  grows_level ns (Some u) rest g level below is = grows_under ns u (rest u) g level (below u) is

  pub levels_find : (k : ℕ) (ns : List ℕ) (g : Grown) → levels k width look ns ≡ Some g → Grows ns g
  levels_find zero ns g is = grows_by ns (leaves_at width look ns) None g refl (λ e. absurd (cc e)) is
  levels_find (suc k) ns g is =
      grows_by ns (leaves_at width look ns) (under_level (level_at width look ns) (λ u. levels k width look (kids_of u))) g refl
      (λ e. grows_level ns (level_at width look ns) (λ u. levels k width look (kids_of u)) g refl (λ u h f. levels_find k (kids_of u) h f) e) is

  -- and what the blocks say is read

  level_is : (us : List Inner) → SayLevel width look us → level_at width look (numbers us) ≡ Some us
  level_is [] said = refl
  level_is (u ∷ us) said = ap (λ o. level_step u.0 o (level_at width look (numbers us))) said.0 ∙ ap (λ o. option_map (λ vs. (u.0, u.1) ∷ vs) o) (level_is us said.1)

  first_front : (ls : List Leaf) → first_number (numbers ls) ≡ front ls 0
  first_front [] = refl
  first_front (l ∷ ls) = refl

  leaves_is : (ls : List Leaf) → BlockChain (leaf_in width) look ls 0 → leaves_at width look (numbers ls) ≡ Some ls
  leaves_is ls chain =
      let fits : length ls ≤ length (numbers ls) = omega (arith, numbers_length ls) in
      ap (leaves_if (numbers ls)) (ap (λ n. walk (length (numbers ls)) (leaf_in width) look n) (first_front ls) ∙ walk_is (leaf_in width) look (length (numbers ls)) ls fits chain)
      ∙ ap (λ t. cond t (Some ls) None) ((bytes_eq-Decides (numbers ls) (numbers ls)).1 refl)

  no_leaf : (o : Option (List ℕ)) (x : List ℕ × List (List ℕ)) → says (inner_in width) o ≡ Some x → said_by (leaf_in width) o ≡ None
  no_leaf None x said = absurd (cc said)
  no_leaf (Some b) x said = inner_no_leaf width b x said

  no_leaves_if : (n : ℕ) (ns : List ℕ) (t : Bool) → leaves_if (n ∷ ns) (cond t (Some []) None) ≡ None
  no_leaves_if n ns true = refl
  no_leaves_if n ns false = refl

  no_leaves : (u : Inner) (us : List Inner) → SayLevel width look (u ∷ us) → leaves_at width look (numbers (u ∷ us)) ≡ None
  no_leaves u us said =
      ap (λ o. leaves_if (u.0 ∷ numbers us) (cond (eqb u.0 0) (Some []) (chain_step u.0 o (λ x. walk (length (numbers us)) (leaf_in width) look x)))) (no_leaf (look u.0) u.1 said.0)
      ∙ no_leaves_if u.0 (numbers us) (eqb u.0 0)

  some_kids : (o : Option (List ℕ)) (x : List ℕ × List (List ℕ)) → says (inner_in width) o ≡ Some x → 0 < length x.0
  some_kids None x said = absurd (cc said)
  some_kids (Some b) x said = omega (arith, (inner_says width b x said).inner.more)

  kids_some : (us : List Inner) → SayLevel width look us → 0 < length us → 0 < length (kids_of us)
  kids_some [] said some = absurd (omega (arith, some))
  kids_some (u ∷ us) said some = omega (arith, length-append u.1.0 (kids_of us), some_kids (look u.0) u.1 said.0)

  pub levels_are : (k : ℕ) (ns : List ℕ) (us : List (List Inner)) (ls : List Leaf) → length us ≤ k → (0 < length us → 0 < length ns) → Hangs ns us (numbers ls) → SayLevels width look us → BlockChain (leaf_in width) look ls 0 → levels k width look ns ≡ Some (us, ls)
  levels_are zero ns [] ls fits some hangs said chain = ap (λ l. leaves_or (leaves_at width look l) None) hangs ∙ ap (λ o. leaves_or o None) (leaves_is ls chain)
  levels_are (suc k) ns [] ls fits some hangs said chain =
      let rest : List ℕ → Option Grown = λ l. under_level (level_at width look l) (λ u. levels k width look (kids_of u)) in
      ap (λ l. leaves_or (leaves_at width look l) (rest l)) hangs ∙ ap (λ o. leaves_or o (rest (numbers ls))) (leaves_is ls chain)
  levels_are zero ns (u ∷ us) ls fits some hangs said chain = absurd (omega (arith, fits))
  levels_are (suc k) ns ([] ∷ us) ls fits some hangs said chain = absurd (omega (arith, some (omega arith), ap (λ (l : List ℕ). length l) hangs.0))
  levels_are (suc k) ns ((v ∷ u) ∷ us) ls fits some hangs said chain =
      let rest : List ℕ → Option Grown = λ l. under_level (level_at width look l) (λ w. levels k width look (kids_of w)) in
      ap (λ l. leaves_or (leaves_at width look l) (rest l)) (sym hangs.0)
      ∙ ap (λ o. leaves_or o (rest (numbers (v ∷ u)))) (no_leaves v u said.0)
      ∙ ap (λ o. under_level o (λ w. levels k width look (kids_of w))) (level_is (v ∷ u) said.0)
      ∙ ap (λ o. option_map (λ g. ((v ∷ u) ∷ g.0, g.1)) o) (levels_are k (kids_of (v ∷ u)) us ls (omega (arith, fits)) (λ more. kids_some (v ∷ u) said.0 (omega arith)) hangs.1 said.1 chain)

  -- no more levels than inner blocks
  pub levels_few : (ns : List ℕ) (us : List (List Inner)) (leaves : List ℕ) → (0 < length us → 0 < length ns) → Hangs ns us leaves → SayLevels width look us → length us ≤ length (inner_numbers us)
  levels_few ns [] leaves some hangs said = omega arith
  levels_few ns ([] ∷ us) leaves some hangs said = absurd (omega (arith, some (omega arith), ap (λ (l : List ℕ). length l) hangs.0))
  levels_few ns ((v ∷ u) ∷ us) leaves some hangs said =
      omega (arith, levels_few (kids_of (v ∷ u)) us leaves (λ more. kids_some (v ∷ u) said.0 (omega arith)) hangs.1 said.1, length-append (numbers (v ∷ u)) (inner_numbers us), numbers_length (v ∷ u))

-- fewer levels than blocks
pub tree_short : (width count : ℕ) (look : ℕ → Option (List ℕ)) (root : ℕ) (us : List (List Inner)) (ls : List Leaf) (fs : List Spare) → IsTree width count look root us ls fs → length us < count
tree_short width count look root us ls fs is =
    omega (arith, levels_few width look (top_numbers root) us (numbers ls) is.some is.hangs is.inner, length-append (inner_numbers us) (numbers ls ++ numbers fs), is.count_is)

-- the relation gives the function

pub tree_of : (width : ℕ) (bs : List (List ℕ)) (root : ℕ) (us : List (List Inner)) (ls : List Leaf) (fs : List Spare) → IsTree width (length bs) (slice_get bs) root us ls fs → tree_in width bs ≡ Some (entries_of ls)
unfolding tree_in
tree_of width [] root us ls fs is = absurd (omega (arith, is.count_is))
tree_of width (b ∷ bs) root us ls fs is =
    let count = suc (length bs) in
    let look = slice_get (b ∷ bs) in
    let zero_no : eqb (suc (length bs)) 0 ≡ false = grind (arith, nat_tests) in
    let few = levels_few width look (top_numbers root) us (numbers ls) is.some is.hangs is.inner in
    let all = length-append (inner_numbers us) (numbers ls ++ numbers fs) in
    let spare : length fs ≤ count = omega (arith, is.count_is, all, length-append (numbers ls) (numbers fs), numbers_length fs) in
    ap (λ t. tree_if t width (b ∷ bs)) zero_no ∙ ap (tree_from width count look) is.head
    ∙ (λ i. tree_by width count root (levels_are width look count (top_numbers root) us ls (omega (arith, few, all, is.count_is)) is.some is.hangs is.inner is.chain i) (walk_is free_in look count fs spare is.free i))
    ∙ ap (λ t. cond t (Some (entries_of ls)) None) (whole_is width count root us ls fs (record { all = record { count_is = is.count_is; once = is.once; low = is.low }; rises = is.rises; half = is.half }))

-- and the function the relation

pub record Spelt (width count : ℕ) (look : ℕ → Option (List ℕ)) (xs : List (List ℕ)) : Type 0 where
  pub root : ℕ
  pub inner : List (List Inner)
  pub leaves : List Leaf
  pub spares : List Spare
  pub tree : IsTree width count look root inner leaves spares
  pub entries : entries_of leaves ≡ xs

some_top : (width : ℕ) (look : ℕ → Option (List ℕ)) (ns : List ℕ) (g : Grown) (k : ℕ) → levels k width look ns ≡ Some g → 0 < length g.0 → 0 < length ns
some_top width look [] g zero is some = absurd (omega (arith, some, ap (λ o. cond (eqb 0 0) (length g.0) 0) is, ap depth is))
  where
    depth : Option Grown → ℕ
    depth None = 0
    depth (Some h) = length h.0
some_top width look [] g (suc k) is some = absurd (omega (arith, some, ap depth is))
  where
    depth : Option Grown → ℕ
    depth None = 0
    depth (Some h) = length h.0
some_top width look (n ∷ ns) g k is some = omega arith

by_test : (t : Bool) (width count : ℕ) (look : ℕ → Option (List ℕ)) (head : ℕ × ℕ) (g : Grown) (fs : List Spare) (xs : List (List ℕ)) → said_by root_in (look 0) ≡ Some head → levels count width look (top_numbers head.0) ≡ Some g → Found free_in look head.1 fs
    → is_whole width count head.0 g.0 g.1 fs ≡ t → cond t (Some (entries_of g.1)) None ≡ Some xs → Spelt width count look xs
by_test false width count look head g fs xs said grown spare tested is = absurd (cc is)
by_test true width count look head g fs xs said grown spare tested is =
    let whole = is_whole_so width count head.0 g.0 g.1 fs tested in
    let found = levels_find width look count (top_numbers head.0) g grown in
    record {
      root = head.0;
      inner = g.0;
      leaves = g.1;
      spares = fs;
      tree = record {
        head = said ∙ (λ i. Some (head.0, sym spare.first i));
        inner = found.said;
        chain = found.chain;
        free = spare.chain;
        hangs = found.hangs;
        some = λ more. some_top width look (top_numbers head.0) g count grown more;
        rises = whole.rises;
        half = whole.half;
        count_is = whole.all.count_is;
        once = whole.all.once;
        low = whole.all.low;
      };
      entries = cc is;
    }

by_chains : (width count : ℕ) (look : ℕ → Option (List ℕ)) (head : ℕ × ℕ) (go : Option Grown) (fo : Option (List Spare)) (xs : List (List ℕ)) → said_by root_in (look 0) ≡ Some head → levels count width look (top_numbers head.0) ≡ go → walk count free_in look head.1 ≡ fo
    → tree_by width count head.0 go fo ≡ Some xs → Spelt width count look xs
by_chains width count look head None fo xs said w f is = absurd (cc is)
by_chains width count look head (Some g) None xs said w f is = absurd (cc is)
by_chains width count look head (Some g) (Some fs) xs said w f is = by_test _ width count look head g fs xs said w (walk_finds free_in look count head.1 fs f) refl is

by_head : (width count : ℕ) (look : ℕ → Option (List ℕ)) (h : Option (ℕ × ℕ)) (xs : List (List ℕ)) → said_by root_in (look 0) ≡ h → tree_from width count look h ≡ Some xs → Spelt width count look xs
by_head width count look None xs said is = absurd (cc is)
by_head width count look (Some head) xs said is = by_chains width count look head _ _ xs said refl refl is

pub tree_is : (width : ℕ) (bs : List (List ℕ)) (xs : List (List ℕ)) → (length bs ≡ 0 → ⊥) → tree_in width bs ≡ Some xs → Spelt width (length bs) (slice_get bs) xs
unfolding tree_in
tree_is width [] xs some is = absurd (some refl)
tree_is width (b ∷ bs) xs some is =
    let zero_no : eqb (suc (length bs)) 0 ≡ false = grind (arith, nat_tests) in
    by_head width (suc (length bs)) (slice_get (b ∷ bs)) _ xs refl (sym (ap (λ t. tree_if t width (b ∷ bs)) zero_no) ∙ is)

pub none_is : (width : ℕ) (bs : List (List ℕ)) (xs : List (List ℕ)) → length bs ≡ 0 → tree_in width bs ≡ Some xs → xs ≡ []
unfolding tree_in
none_is width [] xs none is = sym (cc is)
none_is width (b ∷ bs) xs none is = absurd (omega (arith, none))
