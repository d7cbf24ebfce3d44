-- Whether a tree and a free chain that were walked are all blocks of a file, and so its tree.
use Rattle.std.proofs.Common.{◌≡◌, ℕ, zero, suc, ◌+◌, ◌<◌, ◌≤◌, List, [], ◌∷◌, ◌++◌, Bool, true, false, cond, eqb, Some, None, refl, sym, ap, subst, ◌∙◌, length, length-append, slice_get, replicate, append_assoc, arith, length-set}
use Rattle.std.specs.Prelude.{◌&&◌, not, is_some, slice_set}
use Rattle.std.specs.declared.option.Option.{Option}
use Rattle.std.proofs.lemmas.Bool.Decides.{nat_tests}
use Rattle.std.proofs.lemmas.Bool.{and_parts, true≢false}
use Rattle.dms_chain.specs.Leads.{is_rises, rising_is}
use Rattle.dms_chain.specs.Linked.{BlockChain, front, numbers, said_by, times}
use Rattle.dms_chain.specs.LinkedLaws.{numbers_length, times_append}
use Rattle.dms_chain.specs.ListBlocks.{free_in, is_rising, leaf_in}
use Rattle.dms_chain.specs.ListIn.{Leaf, Spare}
use Rattle.dms_chain.specs.SpellLaws.{AllWide}
use Rattle.dms_shapes.specs.Leafage.{are_leaves}
use Rattle.dms_shapes.specs.ListShapes.{none_met, no_rest}
use Rattle.dms_shapes.specs.Marks.{AreBelow, Marked}
use Rattle.dms_shapes.specs.Trees.{HasBottom, HasTree, IsGrown, NoTree, grown_numbers}
use Rattle.dms_shapes.specs.Walks.{AreFresh, HasSpares, NoSpares, is_fresh}
use Rattle.dms_shapes.specs.WalkLaws.{fresh_low, mark_one, rest_of}
use Rattle.dms_shapes.proofs.Descents.{even_fences, half_all, half_last}
use Rattle.dms_shapes.proofs.Fringes.{LeavesThere, leaves_equal, leaves_there}
use Rattle.dms_shapes.proofs.Marking.{fresh_below, fresh_front, fresh_rest, marked_both, marked_none}
use Rattle.dms_shapes.proofs.Weaving.{chain_leaves, parts, rising_parts}
use Rattle.dms_tree.specs.Inserts.{none_zero}
use Rattle.dms_tree.specs.Levels.{Hangs, Inner, fences, inner_numbers, lace, leaf_pieces, marked, seps_of, top_numbers, weave}
use Rattle.dms_tree.specs.Looks.{no_top, root_same, some_top}
use Rattle.dms_tree.specs.TreeBlocks.{inner_in, root_in}
use Rattle.dms_tree.specs.TreeIn.{Grown, IsTree, SayLevel, SayLevels, half_leaves, says, tree_in, tree_numbers}
use Rattle.dms_tree.specs.TreeLaws.{levels_are, tree_is, tree_of}
use Rattle.dms_tree.specs.TreeSpells.{inner_says}

-- ---- all separators have one width

wide_append : (width : ℕ) (xs ys : List (List ℕ)) → AllWide width xs → AllWide width ys → AllWide width (xs ++ ys)
wide_append width [] ys a b = b
wide_append width (x ∷ xs) ys a b = (a.0, wide_append width xs ys a.1 b)

inner_wide : (width : ℕ) (o : Option (List ℕ)) (x : List ℕ × List (List ℕ)) → says (inner_in width) o ≡ Some x → AllWide width x.1
inner_wide width None x is = absurd (cc is)
inner_wide width (Some b) x is = (inner_says width b x is).inner.wide

lace_wide : (width : ℕ) (look : ℕ → Option (List ℕ)) (u : List Inner) (fs : List (List ℕ)) → SayLevel width look u → AllWide width fs → AllWide width (lace (seps_of u) fs)
lace_wide width look [] fs said wide = tt
lace_wide width look (v ∷ u) [] said wide = wide_append width v.1.1 (lace (seps_of u) []) (inner_wide width (look v.0) v.1 said.0) (lace_wide width look u [] said.1 tt)
lace_wide width look (v ∷ u) (f ∷ fs) said wide = wide_append width v.1.1 (f ∷ lace (seps_of u) fs) (inner_wide width (look v.0) v.1 said.0) (wide.0, lace_wide width look u fs said.1 wide.1)

fences_wide : (width : ℕ) (look : ℕ → Option (List ℕ)) (outer : List (List ℕ)) (us : List (List Inner)) → SayLevels width look us → AllWide width outer → AllWide width (fences outer us)
fences_wide width look outer [] said wide = wide
fences_wide width look outer (u ∷ us) said wide = fences_wide width look (lace (seps_of u) outer) us said.1 (lace_wide width look u outer said.0 wide)

-- ---- the tree under a root

module _ (width : ℕ) (look : ℕ → Option (List ℕ)) (root : ℕ) (old : List Bool) where
  -- without a root there are no blocks
  pub no_root : root ≡ 0 → HasTree width look root old old 0
  no_root none = record {
    inner = [];
    leaves = [];
    grown = record { inner = tt; chain = tt; hangs = no_top root none; some = λ more. absurd (omega (arith, more)); rises = tt; half = refl };
    marked = marked_none old;
    size = refl;
  }

  module _ (some : root ≡ 0 → ⊥) (seen : List Bool) (met : ℕ) (ns : List ℕ) (fs : List (List ℕ)) (b : HasBottom width look root old seen met ns fs) where
    even : length fs + 1 ≡ length ns
    even = even_fences width look root b.inner ns fs some b.hangs b.said b.fences_are

    pub bottom_below : (count : ℕ) → length old ≡ count → AreBelow count ns
    bottom_below count long = fresh_below old ns count long (λ n. omega (arith, b.marked.fresh n, times_append n (inner_numbers b.inner) ns))

    -- leaves at these numbers
    rising_is_parts : (ls : List Leaf) → BlockChain (leaf_in width) look ls 0 → numbers ls ≡ ns → is_rising (weave b.inner ls) ≡ parts None ls fs
    rising_is_parts ls chain at =
        ap (λ (l : List (List ℕ)). is_rising (lace (leaf_pieces ls) (marked 0 l))) b.fences_are
        ∙ rising_parts width None ls fs tt (chain_leaves width look ls 0 chain) (subst (AllWide width) b.fences_are (fences_wide width look [] b.inner b.said tt)) (omega (arith, even, ap (λ (l : List ℕ). length l) at, numbers_length ls))

    times_none : is_fresh old 0 ≡ false → times 0 ns ≡ 0
    times_none off =
        let none : cond {A = ℕ} (is_fresh old 0) 1 0 ≡ 0 = ap (λ t. cond {A = ℕ} t 1 0) off in
        omega (arith, b.marked.fresh 0, none, times_append 0 (inner_numbers b.inner) ns)

    with_leaves : (l : LeavesThere width root look ns) → are_leaves width root look None ns fs ≡ true → HasTree width look root old seen met
    with_leaves l is =
        let all : (half_leaves width root l.leaves && parts None l.leaves fs) ≡ true =
        sym (leaves_equal width root look None l.leaves fs l.chain) ∙ ap (λ (k : List ℕ). are_leaves width root look None k fs) l.at ∙ is in
        let both = and_parts (half_leaves width root l.leaves) (parts None l.leaves fs) all in
        record {
          inner = b.inner;
          leaves = l.leaves;
          grown = record {
            inner = b.said;
            chain = l.chain;
            hangs = subst (Hangs (top_numbers root) b.inner) (sym l.at) b.hangs;
            some = λ more. omega (arith, ap (λ (k : List ℕ). length k) (some_top root some));
            rises = is_rises (weave b.inner l.leaves) (rising_is_parts l.leaves l.chain l.at ∙ both.1);
            half = half_all width root b.inner l.leaves b.full both.0;
          };
          marked = subst (λ (k : List ℕ). Marked old seen (inner_numbers b.inner ++ k)) (sym l.at) b.marked;
          size = ap (λ (k : List ℕ). length (inner_numbers b.inner ++ k)) l.at ∙ b.size;
        }

    pub leaves_tree : is_fresh old 0 ≡ false → are_leaves width root look None ns fs ≡ true → HasTree width look root old seen met
    leaves_tree off is = with_leaves (leaves_there width root look None ns fs (times_none off) is) is

    -- no leaves at these numbers
    pub no_leaves_tree : are_leaves width root look None ns fs ≡ false → NoTree width look root old
    no_leaves_tree off us ls g fresh few =
        let o = b.only us ls g in
        let rises : parts None ls fs ≡ true =
        sym (rising_is_parts ls g.chain o.1) ∙ ap (λ (l : List (List Inner)). is_rising (weave l ls)) (sym o.0) ∙ rising_is (weave us ls) g.rises in
        let is : are_leaves width root look None ns fs ≡ true =
        ap (λ (k : List ℕ). are_leaves width root look None k fs) (sym o.1) ∙ leaves_equal width root look None ls fs g.chain ∙ (λ i. half_last width root us ls g.half i && rises i) in
        true≢false (sym is ∙ off)

-- ---- all blocks

-- at first the head alone counts as met
pub record AllButHead (seen : List Bool) (count : ℕ) : Type 0 where
  pub long : length seen ≡ count
  pub head : is_fresh seen 0 ≡ false
  pub each : (n : ℕ) → 0 < n → n < count → is_fresh seen n ≡ true

pub head_met : (count : ℕ) → 0 < count → AllButHead (slice_set (replicate count false) 0 true) count
head_met count some =
    let none = none_met count in
    let low : 0 < length (replicate count false) = omega (arith, none.long, some) in
    record {
      long = length-set (replicate count false) 0 true ∙ none.long;
      head = mark_one (replicate count false) 0 0 low ∙ never (is_fresh (replicate count false) 0);
      each = λ n more fit. mark_one (replicate count false) 0 n low ∙ (λ i. none.each n fit i && not (other n more i));
    }
  where
    never : (b : Bool) → (b && false) ≡ false
    never true = refl
    never false = refl

    other : (n : ℕ) → 0 < n → eqb 0 n ≡ false
    other n more = grind (arith, nat_tests, more)

pub grown_of : (width count : ℕ) (look : ℕ → Option (List ℕ)) (root : ℕ) (us : List (List Inner)) (ls : List Leaf) (fs : List Spare) → IsTree width count look root us ls fs → IsGrown width look root us ls
grown_of width count look root us ls fs t = record { inner = t.inner; chain = t.chain; hangs = t.hangs; some = t.some; rises = t.rises; half = t.half }

grown_or : Option Grown → Grown
grown_or None = ([], [])
grown_or (Some g) = g

-- one tree hangs from a root
record SameGrown (us vs : List (List Inner)) (ls ms : List Leaf) : Type 0 where
  inner : us ≡ vs
  leaves : ls ≡ ms

grown_same : (width : ℕ) (look : ℕ → Option (List ℕ)) (root : ℕ) (us vs : List (List Inner)) (ls ms : List Leaf) → IsGrown width look root us ls → IsGrown width look root vs ms → SameGrown us vs ls ms
unfolding grown_or
grown_same width look root us vs ls ms g h =
    let k = length us + length vs in
    let one = levels_are width look k (top_numbers root) us ls (omega arith) g.some g.hangs g.inner g.chain in
    let two = levels_are width look k (top_numbers root) vs ms (omega arith) h.some h.hangs h.inner h.chain in
    let both = sym one ∙ two in
    record { inner = ap (λ o. (grown_or o).0) both; leaves = ap (λ o. (grown_or o).1) both }

all_numbers : (us : List (List Inner)) (ls : List Leaf) (fs : List Spare) → tree_numbers us ls fs ≡ grown_numbers us ls ++ numbers fs
all_numbers us ls fs = sym (append_assoc (inner_numbers us) (numbers ls) (numbers fs))

abbrev Pair : Type 0
Pair = Option (ℕ × ℕ)

abbrev some_pair : ℕ → ℕ → Pair
some_pair a b = Some (a, b)

abbrev second_or : Pair → ℕ
second_or None = 0
second_or (Some p) = p.1

no_pair : (a b : ℕ) → some_pair a b ≡ None → ⊥
no_pair a b h = absurd (cc (h))

module _ (width : ℕ) (bs : List (List ℕ)) (root free : ℕ) (start : List Bool) (begun : AllButHead start (length bs)) (head : said_by root_in (slice_get bs 0) ≡ Some (root, free)) where
  module _ (us : List (List Inner)) (ls : List Leaf) (fs : List Spare) (t : IsTree width (length bs) (slice_get bs) root us ls fs) where
    free_is : front fs 0 ≡ free
    free_is = ap second_or (sym t.head ∙ head)

    fresh_at : (n : ℕ) (a : Bool) → is_fresh start n ≡ a → times n (tree_numbers us ls fs) ≤ cond a 1 0
    fresh_at n true is = t.once n
    fresh_at n false is = by n is (times n (tree_numbers us ls fs)) refl
      where
        by : (n : ℕ) → is_fresh start n ≡ false → (k : ℕ) → times n (tree_numbers us ls fs) ≡ k → times n (tree_numbers us ls fs) ≤ 0
        by zero off k e = omega (arith, none_zero width (length bs) (slice_get bs) root us ls fs t)
        by (suc n) off zero e = omega (arith, e)
        by (suc n) off (suc k) e = absurd (true≢false (sym (begun.each (suc n) (omega arith) (t.low (suc n) (omega (arith, e)))) ∙ off))

    all_fresh : AreFresh start (grown_numbers us ls ++ numbers fs)
    all_fresh n = omega (arith, ap (times n) (all_numbers us ls fs), fresh_at n (is_fresh start n) refl)

    tree_count : 1 + length (grown_numbers us ls ++ numbers fs) ≡ length bs
    tree_count = omega (arith, t.count_is, ap (λ (l : List ℕ). length l) (all_numbers us ls fs))

    tree_few : length (grown_numbers us ls) ≤ length start
    tree_few = omega (arith, begun.long, tree_count, length-append (grown_numbers us ls) (numbers fs))

    spares_few : length fs ≤ length start
    spares_few = omega (arith, begun.long, tree_count, length-append (grown_numbers us ls) (numbers fs), numbers_length fs)

    tree_same : (mid : List Bool) (met : ℕ) (w : HasTree width (slice_get bs) root start mid met) → SameGrown us w.inner ls w.leaves
    tree_same mid met w = grown_same width (slice_get bs) root us w.inner ls w.leaves (grown_of width (length bs) (slice_get bs) root us ls fs t) w.grown

    numbers_same : (mid : List Bool) (met : ℕ) (w : HasTree width (slice_get bs) root start mid met) → grown_numbers us ls ≡ grown_numbers w.inner w.leaves
    numbers_same mid met w = let s = tree_same mid met w in λ i. grown_numbers (s.inner i) (s.leaves i)

    spares_fresh : (mid : List Bool) (met : ℕ) (w : HasTree width (slice_get bs) root start mid met) → AreFresh mid (numbers fs)
    spares_fresh mid met w = fresh_rest start mid (grown_numbers w.inner w.leaves) (numbers fs) w.marked (subst (λ (l : List ℕ). AreFresh start (l ++ numbers fs)) (numbers_same mid met w) all_fresh)

    spares_same : (mid seen : List Bool) (met : ℕ) (v : HasSpares (slice_get bs) free mid seen met 0) → fs ≡ v.done
    spares_same mid seen met v = no_rest free_in (slice_get bs) free mid seen fs v.done (rest_of free_in (slice_get bs) free mid seen v.done fs 0 v.walked t.free free_is)

  some_blocks : length bs ≡ 0 → ⊥
  some_blocks e = by bs e head
    where
      by : (bs : List (List ℕ)) → length bs ≡ 0 → said_by root_in (slice_get bs 0) ≡ Some (root, free) → ⊥
      by [] e head = absurd (cc (head))
      by (b ∷ bs) e head = absurd (omega (arith, e))

  -- without a tree and a chain the blocks are no tree
  unless_tree : ((us : List (List Inner)) (ls : List Leaf) (fs : List Spare) → IsTree width (length bs) (slice_get bs) root us ls fs → ⊥) → is_some (tree_in width bs) ≡ false
  unless_tree none = by (tree_in width bs) refl
    where
      by : (o : Option (List (List ℕ))) → tree_in width bs ≡ o → is_some o ≡ false
      by None is = refl
      by (Some xs) is =
          let s = tree_is width bs xs some_blocks is in
          absurd (none s.inner s.leaves s.spares (subst (λ n. IsTree width (length bs) (slice_get bs) n s.inner s.leaves s.spares) (root_same (slice_get bs) s.root (front s.spares 0) root free s.tree.head head) s.tree))

  pub nothing_under : NoTree width (slice_get bs) root start → is_some (tree_in width bs) ≡ false
  nothing_under none = unless_tree (λ us ls fs t.
      none us ls (grown_of width (length bs) (slice_get bs) root us ls fs t) (fresh_front start (grown_numbers us ls) (numbers fs) (all_fresh us ls fs t)) (tree_few us ls fs t))

  module _ (mid : List Bool) (met : ℕ) (w : HasTree width (slice_get bs) root start mid met) where
    pub nothing_free : length mid ≡ length start → NoSpares (slice_get bs) free mid → is_some (tree_in width bs) ≡ false
    nothing_free long none = unless_tree (λ us ls fs t. none fs t.free (free_is us ls fs t) (spares_fresh us ls fs t mid met w) (omega (arith, long, spares_few us ls fs t)))

    module _ (seen : List Bool) (rest : ℕ) (v : HasSpares (slice_get bs) free mid seen rest 0) where
      pub wrong_sum : (1 + met + rest ≡ length bs → ⊥) → is_some (tree_in width bs) ≡ false
      wrong_sum off = unless_tree (λ us ls fs t.
          off (omega (arith, tree_count us ls fs t, length-append (grown_numbers us ls) (numbers fs), numbers_length fs, w.size, v.size, ap (λ (l : List ℕ). length l) (numbers_same us ls fs t mid met w), ap (λ (l : List Spare). length l) (spares_same us ls fs t mid seen rest v))))

      whole_marked : Marked start seen (grown_numbers w.inner w.leaves ++ numbers v.done)
      whole_marked = marked_both start mid seen (grown_numbers w.inner w.leaves) (numbers v.done) w.marked (record { fresh = v.walked.fresh; marks = v.walked.marks })

      times_by : (n : ℕ) → times n (tree_numbers w.inner w.leaves v.done) ≤ cond (is_fresh start n) 1 0
      times_by n = omega (arith, ap (times n) (all_numbers w.inner w.leaves v.done), whole_marked.fresh n)

      once_low : (n : ℕ) (a : Bool) → is_fresh start n ≡ a → times n (tree_numbers w.inner w.leaves v.done) ≤ cond a 1 0
          → (times n (tree_numbers w.inner w.leaves v.done) ≤ 1) × (0 < times n (tree_numbers w.inner w.leaves v.done) → n < length bs)
      once_low n true is le = (le, λ some. omega (arith, fresh_low start n is, begun.long))
      once_low n false is le = (omega (arith, le), λ some. absurd (omega (arith, le, some)))

      pub all_tree : 1 + met + rest ≡ length bs → is_some (tree_in width bs) ≡ true
      all_tree count = ap is_some (tree_of width bs root w.inner w.leaves v.done (record {
        head = head ∙ (λ i. Some (root, sym v.walked.begins i));
        inner = w.grown.inner;
        chain = w.grown.chain;
        free = v.walked.chain;
        hangs = w.grown.hangs;
        some = w.grown.some;
        rises = w.grown.rises;
        half = w.grown.half;
        count_is = omega (arith, count, w.size, v.size, numbers_length v.done, ap (λ (l : List ℕ). length l) (all_numbers w.inner w.leaves v.done), length-append (grown_numbers w.inner w.leaves) (numbers v.done));
        once = λ n. (once_low n (is_fresh start n) refl (times_by n)).0;
        low = λ n. (once_low n (is_fresh start n) refl (times_by n)).1;
      }))

-- without a head the blocks are no tree
pub no_head_no_tree : (width : ℕ) (bs : List (List ℕ)) → (length bs ≡ 0 → ⊥) → said_by root_in (slice_get bs 0) ≡ None → is_some (tree_in width bs) ≡ false
no_head_no_tree width bs some none = by (tree_in width bs) refl
  where
    by : (o : Option (List (List ℕ))) → tree_in width bs ≡ o → is_some o ≡ false
    by None is = refl
    by (Some xs) is = let s = tree_is width bs xs some is in absurd (no_pair _ _ (sym s.tree.head ∙ none))

-- no block is the empty tree
pub empty_tree : (width : ℕ) (bs : List (List ℕ)) → length bs ≡ 0 → is_some (tree_in width bs) ≡ true
unfolding tree_in
empty_tree width [] e = refl
empty_tree width (b ∷ bs) e = absurd (omega (arith, e))
