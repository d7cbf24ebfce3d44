-- Where the entries of a list begin, and what is to come of them.
use Rattle.std.proofs.Common.{◌≡◌, ℕ, zero, suc, ◌+◌, ◌<◌, ◌≤◌, List, [], ◌∷◌, ◌++◌, false, Some, None, refl, sym, ap, subst, ◌∙◌, length, drop, slice_get, arith}
use Rattle.std.specs.Prelude.{is_some, slice_index_or}
use Rattle.std.specs.declared.option.Option.{Option}
use Rattle.std.proofs.lemmas.Bool.{true≢false}
use Rattle.std.proofs.lemmas.List.{drop_all}
use Rattle.dms_block.specs.Content.{Content}
use Rattle.dms_chain.specs.Linked.{BlockChain, front, numbers, said_by}
use Rattle.dms_chain.specs.LinkedLaws.{times_append, times_own}
use Rattle.dms_chain.specs.ListBlocks.{head_in, leaf_in}
use Rattle.dms_chain.specs.ListIn.{Leaf, entries_of, list_in}
use Rattle.dms_chain.specs.ListInLaws.{list_is}
use Rattle.dms_chain.specs.SpellLaws.{leaf_is}
use Rattle.dms_shapes.specs.Marks.{AreBelow}
use Rattle.dms_shapes.specs.Trees.{IsGrown}
use Rattle.dms_shapes.specs.Walking.{IsAhead, IsFilled, IsLeft, Taken}
use Rattle.dms_shapes.specs.declared.walk.ListWalk.{ListWalk}
use Rattle.dms_shapes.proofs.Wholes.{grown_of}
use Rattle.dms_tree.specs.Levels.{Inner, inner_numbers}
use Rattle.dms_tree.specs.Looks.{root_same, rootless}
use Rattle.dms_tree.specs.TreeBlocks.{root_in}
use Rattle.dms_tree.specs.TreeIn.{IsTree, first_number, tree_in}
use Rattle.dms_tree.specs.TreeLaws.{none_is, tree_is}

-- ---- nothing

pub nothing_ahead : (width : ℕ) (bs xs : List (List ℕ)) → xs ≡ [] → IsAhead width bs 0 xs
nothing_ahead width bs xs none = record { leaves = []; chain = tt; begins = refl; low = λ n more. absurd (omega (arith, more)); entries = sym none }

pub no_list : (width : ℕ) (bs xs : List (List ℕ)) → length bs ≡ 0 → list_in width bs ≡ Some xs → IsAhead width bs 0 xs
unfolding list_in
no_list width [] xs none is = nothing_ahead width [] xs (sym (cc is))
no_list width (b ∷ bs) xs none is = absurd (omega (arith, none))

pub no_tree : (width : ℕ) (bs xs : List (List ℕ)) → length bs ≡ 0 → tree_in width bs ≡ Some xs → IsAhead width bs 0 xs
no_tree width bs xs none is = nothing_ahead width bs xs (none_is width bs xs none is)

pub no_root_ahead : (width : ℕ) (bs xs : List (List ℕ)) (root free : ℕ) → (length bs ≡ 0 → ⊥) → tree_in width bs ≡ Some xs → said_by root_in (slice_get bs 0) ≡ Some (root, free) → root ≡ 0 → IsAhead width bs 0 xs
no_root_ahead width bs xs root free some is head none = nothing_ahead width bs xs (rootless width bs xs root free some is head none)

-- what is a list is one
pub none_kept : (o : Option (List (List ℕ))) (xs : List (List ℕ)) → is_some o ≡ false → o ≡ Some xs → ⊥
none_kept o xs none is = true≢false (sym (ap is_some is) ∙ none)

-- ---- a list in one chain

abbrev Pair : Type 0
Pair = Option (ℕ × ℕ)

abbrev first_or : Pair → ℕ
first_or None = 0
first_or (Some p) = p.0

pub list_ahead : (width : ℕ) (bs xs : List (List ℕ)) (first free : ℕ) → (length bs ≡ 0 → ⊥) → said_by head_in (slice_get bs 0) ≡ Some (first, free) → list_in width bs ≡ Some xs → IsAhead width bs first xs
list_ahead width bs xs first free some head is =
    let s = list_is width bs xs some is in
    record {
      leaves = s.leaves;
      chain = s.list.chain;
      begins = ap first_or (sym s.list.head ∙ head);
      low = λ n more. s.list.low n (omega (arith, more));
      entries = s.entries;
    }

-- ---- a tree

front_first : (ls : List Leaf) → front ls 0 ≡ first_number (numbers ls)
front_first [] = refl
front_first (l ∷ ls) = refl

-- the first of these numbers
pub first_is : (ns : List ℕ) → slice_index_or ns 0 0 ≡ first_number ns
first_is [] = refl
first_is (n ∷ ns) = refl

low_leaves : (width : ℕ) (bs : List (List ℕ)) (root : ℕ) (us : List (List Inner)) (ls : List Leaf) (fs : List (ℕ × Unit {0})) → IsTree width (length bs) (slice_get bs) root us ls fs → AreBelow (length bs) (numbers ls)
low_leaves width bs root us ls fs t n more =
    t.low n (omega (arith, more, times_append n (inner_numbers us) (numbers ls ++ numbers fs), times_append n (numbers ls) (numbers fs)))

pub tree_ahead : (width : ℕ) (bs xs : List (List ℕ)) (root free : ℕ) (ns : List ℕ) → (length bs ≡ 0 → ⊥) → said_by root_in (slice_get bs 0) ≡ Some (root, free) → tree_in width bs ≡ Some xs
    → ((us : List (List Inner)) (ls : List Leaf) → IsGrown width (slice_get bs) root us ls → numbers ls ≡ ns) → IsAhead width bs (first_number ns) xs
tree_ahead width bs xs root free ns some head is only =
    let s = tree_is width bs xs some is in
    let same = root_same (slice_get bs) s.root (front s.spares 0) root free s.tree.head head in
    let tree : IsTree width (length bs) (slice_get bs) root s.inner s.leaves s.spares = subst (λ n. IsTree width (length bs) (slice_get bs) n s.inner s.leaves s.spares) same s.tree in
    record {
      leaves = s.leaves;
      chain = tree.chain;
      begins = front_first s.leaves ∙ ap first_number (only s.inner s.leaves (grown_of width (length bs) (slice_get bs) root s.inner s.leaves s.spares tree));
      low = low_leaves width bs root s.inner s.leaves s.spares tree;
      entries = s.entries;
    }

-- ---- one block further

-- the block at the front, and what is behind it
pub record Opened (width : ℕ) (bs : List (List ℕ)) (at : ℕ) (xs : List (List ℕ)) : Type 0 where
  pub next : ℕ
  pub here : List (List ℕ)
  pub rest : List (List ℕ)
  pub there : at < length bs
  pub said : said_by (leaf_in width) (slice_get bs at) ≡ Some (next, here)
  pub ahead : IsAhead width bs next rest
  pub is : here ++ rest ≡ xs

low_rest : (count x : ℕ) (ns : List ℕ) → AreBelow count (x ∷ ns) → AreBelow count ns
low_rest count x ns low n more = low n (omega (arith, more))

low_first : (count x : ℕ) (ns : List ℕ) → AreBelow count (x ∷ ns) → x < count
low_first count x ns low = low x (omega (arith, times_own x))

pub opens : (width : ℕ) (bs : List (List ℕ)) (at : ℕ) (xs : List (List ℕ)) → (at ≡ 0 → ⊥) → IsAhead width bs at xs → Opened width bs at xs
opens width bs at xs some a = by a.leaves a.chain a.begins a.low a.entries
  where
    by : (ls : List Leaf) → BlockChain (leaf_in width) (slice_get bs) ls 0 → front ls 0 ≡ at → AreBelow (length bs) (numbers ls) → entries_of ls ≡ xs → Opened width bs at xs
    by [] chain begins low entries = absurd (some (sym begins))
    by (l ∷ ls) chain begins low entries = record {
      next = front ls 0;
      here = l.1;
      rest = entries_of ls;
      there = subst (λ n. n < length bs) begins (low_first (length bs) l.0 (numbers ls) low);
      said = ap (λ n. said_by (leaf_in width) (slice_get bs n)) (sym begins) ∙ chain.1;
      ahead = record { leaves = ls; chain = chain.2; begins = refl; low = low_rest (length bs) l.0 (numbers ls) low; entries = refl };
      is = entries;
    }

pub ends_ahead : (width : ℕ) (bs : List (List ℕ)) (at : ℕ) (xs : List (List ℕ)) → at ≡ 0 → IsAhead width bs at xs → xs ≡ []
ends_ahead width bs at xs none a = by a.leaves a.chain a.begins a.entries
  where
    by : (ls : List Leaf) → BlockChain (leaf_in width) (slice_get bs) ls 0 → front ls 0 ≡ at → entries_of ls ≡ xs → xs ≡ []
    by [] chain begins entries = sym entries
    by (l ∷ ls) chain begins entries = absurd (chain.0 (begins ∙ none))

-- ---- the walk

used_up : (xs : List (List ℕ)) (n : ℕ) (rest : List (List ℕ)) → length xs ≤ n → drop n xs ++ rest ≡ rest
used_up xs n rest past = ap (λ (l : List (List ℕ)). l ++ rest) (drop_all n xs past)

-- something is held, or there is no block behind
pub still_filled : (c : Content) (w : ListWalk) (left : List (List ℕ)) → (length w.entries.items ≤ w.place → w.at ≡ 0) → IsLeft c w left → IsFilled c w left
still_filled c w left ends l = record {
  still = l;
  none = λ past. sym l.is ∙ used_up w.entries.items w.place l.behind past ∙ ends_ahead w.width (c w.file) w.at l.behind (ends past) l.ahead;
}

abbrev Said : Type 0
Said = Option (ℕ × List (List ℕ))

abbrev next_or : Said → ℕ
next_or None = 0
next_or (Some x) = x.0

abbrev here_or : Said → List (List ℕ)
here_or None = []
here_or (Some x) = x.1

some_leaf : (x : ℕ × List (List ℕ)) → ◌≡◌ {A = Said} (Some x) None → ⊥
some_leaf x h = absurd (cc (h))

leaf_some : (width : ℕ) (o : Option (List ℕ)) (next : ℕ) (es : List (List ℕ)) → said_by (leaf_in width) o ≡ Some (next, es) → 0 < length es
leaf_some width None next es said = absurd (cc (said))
leaf_some width (Some b) next es said = (leaf_is width b next es said).holds.some

same_ahead : (c : Content) (w v f g a b : ℕ) (xs : List (List ℕ)) → v ≡ w → g ≡ f → b ≡ a → IsAhead w (c f) a xs → IsAhead v (c g) b xs
same_ahead c w v f g a b xs width file at h = subst (λ n. IsAhead v (c g) n xs) (sym at) (subst (λ n. IsAhead v (c n) a xs) (sym file) (subst (λ n. IsAhead n (c f) a xs) (sym width) h))

-- the next block is held
pub now_filled : (c : Content) (w new : ListWalk) (left : List (List ℕ)) (next : ℕ) (es : List (List ℕ)) → length w.entries.items ≤ w.place → (w.at ≡ 0 → ⊥) → IsLeft c w left
    → said_by (leaf_in w.width) (slice_get (c w.file) w.at) ≡ Some (next, es) → new.file ≡ w.file → new.width ≡ w.width → new.at ≡ next → new.place ≡ 0 → new.entries.items ≡ es → IsFilled c new left
now_filled c w new left next es past some l said file width at place held =
    let o = opens w.width (c w.file) w.at l.behind some l.ahead in
    let next_is : o.next ≡ new.at = ap next_or (sym o.said ∙ said) ∙ sym at in
    let here_is : o.here ≡ new.entries.items = ap here_or (sym o.said ∙ said) ∙ sym held in
    let more : 0 < length new.entries.items = subst (λ (x : List (List ℕ)). 0 < length x) (sym held) (leaf_some w.width (slice_get (c w.file) w.at) next es said) in
    record {
      still = record {
        behind = o.rest;
        ahead = same_ahead c w.width new.width w.file new.file o.next new.at o.rest width file (sym next_is) o.ahead;
        is = ap (λ n. drop n new.entries.items ++ o.rest) place ∙ ap (λ (x : List (List ℕ)). x ++ o.rest) (sym here_is) ∙ o.is ∙ sym (used_up w.entries.items w.place l.behind past) ∙ l.is;
      };
      none = λ none. absurd (omega (arith, none, place, more));
    }

-- no block of entries can be missing
pub must_be : (c : Content) (w : ListWalk) (left : List (List ℕ)) → (w.at ≡ 0 → ⊥) → IsLeft c w left → said_by (leaf_in w.width) (slice_get (c w.file) w.at) ≡ None → ⊥
must_be c w left some l none = let o = opens w.width (c w.file) w.at l.behind some l.ahead in some_leaf (o.next, o.here) (sym o.said ∙ none)

pub must_lie : (c : Content) (w : ListWalk) (left : List (List ℕ)) → (w.at ≡ 0 → ⊥) → IsLeft c w left → w.at < length (c w.file)
must_lie c w left some l = (opens w.width (c w.file) w.at l.behind some l.ahead).there

-- ---- one entry is taken

held_at : (xs : List (List ℕ)) (n : ℕ) → n < length xs → (x : List ℕ) × (slice_get xs n ≡ Some x) × (drop n xs ≡ x ∷ drop (n + 1) xs)
held_at [] n low = absurd (omega (arith, low))
held_at (x ∷ xs) zero low = (x, refl, refl)
held_at (x ∷ xs) (suc n) low =
    let h = held_at xs n (omega (arith, low)) in
    let more : suc (n + 1) ≡ suc n + 1 = omega arith in
    (h.0, h.1, h.2 ∙ ap (λ k. h.0 ∷ drop k (x ∷ xs)) more)

pub now_taken : (c : Content) (w new : ListWalk) (left : List (List ℕ)) (o : Option (List ℕ)) → IsFilled c w left → w.place < length w.entries.items → o ≡ slice_get w.entries.items w.place
    → new.file ≡ w.file → new.width ≡ w.width → new.at ≡ w.at → new.place ≡ w.place + 1 → new.entries.items ≡ w.entries.items → Taken c new left o
now_taken c w new left o f low is file width at place held =
    let h = held_at w.entries.items w.place low in
    subst (Taken c new left) (sym (is ∙ h.1)) (record {
      rest = drop (w.place + 1) w.entries.items ++ f.still.behind;
      is = sym f.still.is ∙ ap (λ (l : List (List ℕ)). l ++ f.still.behind) h.2;
      others = record {
        behind = f.still.behind;
        ahead = same_ahead c w.width new.width w.file new.file w.at new.at f.still.behind width file at f.still.ahead;
        is = λ i. drop (place i) (held i) ++ f.still.behind;
      };
    })
