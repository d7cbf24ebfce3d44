-- What one look at a tree tells.
use Rattle.std.proofs.Common.{◌≡◌, ℕ, zero, suc, ◌+◌, ◌^◌, ◌≤◌, ◌<◌, List, [], ◌∷◌, ◌++◌, Bool, true, false, cond, eqb, Some, None, refl, sym, ap, subst, ◌∙◌, length, slice_get, arith, IsTrue, append_assoc}
use Rattle.std.specs.Prelude.{MatchOption}
use Rattle.std.specs.declared.option.Option.{Option}
use Rattle.std.proofs.lemmas.Bool.Decides.{nat_tests}
use Rattle.dms_block.specs.declared.blocks.Blocks.{Ghosts}
use Rattle.dms_block.specs.declared.overlay.Overlay.{Overlay}
use Rattle.dms_block.specs.View.{overlay_content, seen_counts, under}
use Rattle.dms_chain.specs.Leads.{lead}
use Rattle.dms_chain.specs.Linked.{BlockChain, front, numbers, said_by}
use Rattle.dms_chain.specs.LinkedLaws.{chain_second}
use Rattle.dms_chain.specs.ListBlocks.{leaf_in}
use Rattle.dms_chain.specs.ListIn.{Leaf, Spare, entries_of}
use Rattle.dms_chain.specs.Lists.{first_from, or_else}
use Rattle.dms_tree.specs.declared.descending.Side.{Side}
use Rattle.dms_tree.specs.declared.descending.TreeSpot.{TreeSpot}
use Rattle.dms_tree.specs.Depth.{few_levels}
use Rattle.dms_tree.specs.Levels.{Hangs, Inner, top_numbers}
use Rattle.dms_tree.specs.Order.{stands_first}
use Rattle.dms_tree.specs.TreeBlocks.{root_in}
use Rattle.dms_tree.specs.TreeIn.{IsTree, tree_in}
use Rattle.dms_tree.specs.TreeLaws.{Spelt, none_is, tree_is, tree_short}
use Rattle.dms_tree.specs.Ways.{IfTreeFrom, IsTreeSpot, NoTreeFrom, TreeFrom, is_through}

module _ {B : Type 0} {g : Ghosts B} where
  -- what holds of the tree of a file, where the content is told and the file's blocks are one
  abbrev pub IfTree : Overlay B g → ℕ → ℕ → (List (List ℕ) → Type 0) → Type 0
  IfTree o file width P = IsTrue (under o).told → (xs : List (List ℕ)) → tree_in width (overlay_content o file) ≡ Some xs → P xs

  -- a block of a file whose blocks are no tree
  abbrev pub NoTree : Overlay B g → ℕ → ℕ → ℕ → ℕ → Type 0
  NoTree o file width f b = (f ≡ file) × (b < seen_counts o file) × (IsTrue (under o).told → tree_in width (overlay_content o file) ≡ None)

  -- a call reads at most so many blocks
  abbrev pub ReadsFew : ℕ → Overlay B g → Overlay B g → Type 0
  ReadsFew n old new = (under new).uses.reads ≤ (under old).uses.reads + n

-- where so many binary digits are enough for the length of a list
abbrev pub IfDigits : List (List ℕ) → (ℕ → Type 0) → Type 0
IfDigits xs P = (digits : ℕ) → length xs < 2 ^ digits → P digits

-- the place in the tree that blocks spell
pub record IsTreePlace (side : Side) (c : List ℕ) (look : ℕ → Option (List ℕ)) (xs : List (List ℕ)) (p : TreeSpot) : Type 0 where
  pub root : ℕ
  pub inner : List (List Inner)
  pub leaves : List Leaf
  pub tree : TreeFrom (length c) look root inner leaves
  pub entries : entries_of leaves ≡ xs
  pub at : IsTreeSpot side c inner leaves p

abbrev pub IsTreeLook : Side → List ℕ → (ℕ → Option (List ℕ)) → List (List ℕ) → Option TreeSpot → Type 0
IsTreeLook side c look xs o = MatchOption o (xs ≡ []) (IsTreePlace side c look xs)

-- the head and the tree that hangs from its root

pub record IsRooted (width : ℕ) (bs xs : List (List ℕ)) (root : ℕ) : Type 0 where
  pub inner : List (List Inner)
  pub leaves : List Leaf
  pub tree : TreeFrom width (slice_get bs) root inner leaves
  pub entries : entries_of leaves ≡ xs
  pub short : length inner < length bs

abbrev fst_of : Option (ℕ × ℕ) → ℕ
fst_of None = 0
fst_of (Some x) = x.0

pub root_same : (look : ℕ → Option (List ℕ)) (a b c d : ℕ) → said_by root_in (look 0) ≡ Some (a, b) → said_by root_in (look 0) ≡ Some (c, d) → a ≡ c
root_same look a b c d one two =
    let x : Option (ℕ × ℕ) = Some (a, b) in
    let y : Option (ℕ × ℕ) = Some (c, d) in
    let same : x ≡ y = sym one ∙ two in
    ap fst_of same

pub some_top : (root : ℕ) → (root ≡ 0 → ⊥) → top_numbers root ≡ root ∷ []
some_top zero some = absurd (some refl)
some_top (suc root) some = ap (λ t. cond t [] (suc root ∷ [])) (let e : eqb (suc root) 0 ≡ false = grind (arith, nat_tests) in e)

pub no_top : (root : ℕ) → root ≡ 0 → top_numbers root ≡ []
no_top root none = ap top_numbers none

no_leaves : (ls : List Leaf) → [] ≡ numbers ls → entries_of ls ≡ []
no_leaves [] is = refl
no_leaves (l ∷ ls) is = absurd (cc is)

empty_by : (width count : ℕ) (look : ℕ → Option (List ℕ)) (root : ℕ) (us : List (List Inner)) (ls : List Leaf) (fs : List Spare) → IsTree width count look root us ls fs → root ≡ 0 → entries_of ls ≡ []
empty_by width count look root [] ls fs tree none = no_leaves ls (sym (no_top root none) ∙ tree.hangs)
empty_by width count look root (u ∷ us) ls fs tree none = absurd (omega (arith, tree.some (omega arith), ap (λ (l : List ℕ). length l) (no_top root none)))

pub rootless : (width : ℕ) (bs xs : List (List ℕ)) (root free : ℕ) → (length bs ≡ 0 → ⊥) → tree_in width bs ≡ Some xs → said_by root_in (slice_get bs 0) ≡ Some (root, free) → root ≡ 0 → xs ≡ []
rootless width bs xs root free some is said none =
    let s = tree_is width bs xs some is in
    sym s.entries ∙ empty_by width (length bs) (slice_get bs) s.root s.inner s.leaves s.spares s.tree (root_same (slice_get bs) s.root (front s.spares 0) root free s.tree.head said ∙ none)

pub rooted : (width : ℕ) (bs xs : List (List ℕ)) (root free : ℕ) → (length bs ≡ 0 → ⊥) → tree_in width bs ≡ Some xs → said_by root_in (slice_get bs 0) ≡ Some (root, free) → (root ≡ 0 → ⊥) → IsRooted width bs xs root
rooted width bs xs root free some is said on =
    let s = tree_is width bs xs some is in
    let same = root_same (slice_get bs) s.root (front s.spares 0) root free s.tree.head said in
    let top : top_numbers s.root ≡ root ∷ [] = ap top_numbers same ∙ some_top root on in
    record {
      inner = s.inner;
      leaves = s.leaves;
      tree = record { hangs = subst (λ (ns : List ℕ). Hangs ns s.inner (numbers s.leaves)) top s.tree.hangs; inner = s.tree.inner; chain = s.tree.chain; rises = s.tree.rises };
      entries = s.entries;
      short = tree_short width (length bs) (slice_get bs) s.root s.inner s.leaves s.spares s.tree;
    }

-- blocks that are no tree
pub no_tree : (width : ℕ) (bs : List (List ℕ)) (o : Option (List (List ℕ))) → tree_in width bs ≡ o → ((xs : List (List ℕ)) → o ≡ Some xs → ⊥) → tree_in width bs ≡ None
no_tree width bs None is off = is
no_tree width bs (Some xs) is off = absurd (off xs refl)

pub no_root : (width : ℕ) (bs : List (List ℕ)) → (length bs ≡ 0 → ⊥) → said_by root_in (slice_get bs 0) ≡ None → tree_in width bs ≡ None
no_root width bs some said = no_tree width bs (tree_in width bs) refl (λ xs is.
    let s = tree_is width bs xs some is in
    let x : Option (ℕ × ℕ) = None in
    let y : Option (ℕ × ℕ) = Some (s.root, front s.spares 0) in
    let same : x ≡ y = sym said ∙ s.tree.head in
    cc same)

-- the bound on levels, of a tree under a root
pub rooted_few : (width : ℕ) (bs xs : List (List ℕ)) (root : ℕ) (r : IsRooted width bs xs root) (digits : ℕ) → length xs < 2 ^ digits → length r.inner < digits
rooted_few width bs xs root r digits few = few_levels width (slice_get bs) root r.inner r.leaves digits r.tree.hangs r.tree.inner r.tree.chain (subst (λ (l : List (List ℕ)). length l < 2 ^ digits) (sym r.entries) few)

-- the first entry from a place on
pub entries_append : (xs ys : List Leaf) → entries_of (xs ++ ys) ≡ entries_of xs ++ entries_of ys
entries_append [] ys = refl
entries_append (x ∷ xs) ys = ap (λ (l : List (List ℕ)). x.1 ++ l) (entries_append xs ys) ∙ sym (append_assoc x.1 (entries_of xs) (entries_of ys))

pub place_first : (side : Side) (c : List ℕ) (look : ℕ → Option (List ℕ)) (xs : List (List ℕ)) (p : TreeSpot) (at : IsTreePlace side c look xs p)
    → first_from (Some c) xs ≡ or_else (slice_get p.leaf.entries.items (lead c p.leaf.entries.items)) (slice_get (entries_of at.at.spot.rest) 0)
place_first side c look xs p at =
    let s = at.at.spot in
    ap (first_from (Some c)) (sym at.entries ∙ ap entries_of s.is ∙ entries_append s.ahead ((p.number, p.leaf.entries.items) ∷ s.rest))
    ∙ stands_first c (entries_of s.ahead) p.leaf.entries.items (entries_of s.rest) s.stands

-- what the next leaf has
get_first : (es rest : List (List ℕ)) → 0 < length es → slice_get (es ++ rest) 0 ≡ slice_get es 0
get_first [] rest some = absurd (omega (arith, some))
get_first (x ∷ es) rest some = refl

pub record NextLeaf (width : ℕ) (look : ℕ → Option (List ℕ)) (rest : List Leaf) (next : ℕ) : Type 0 where
  pub after : ℕ
  pub entries : List (List ℕ)
  pub said : said_by (leaf_in width) (look next) ≡ Some (after, entries)
  pub first : 0 < length entries → slice_get (entries_of rest) 0 ≡ slice_get entries 0

next_by : (width : ℕ) (look : ℕ → Option (List ℕ)) (rest : List Leaf) (next : ℕ) → BlockChain (leaf_in width) look rest 0 → next ≡ front rest 0 → (next ≡ 0 → ⊥) → NextLeaf width look rest next
next_by width look [] next chain is some = absurd (some is)
next_by width look (l ∷ rest) next chain is some = record {
  after = front rest 0;
  entries = l.1;
  said = ap (λ (n : ℕ). said_by (leaf_in width) (look n)) is ∙ chain.1;
  first = get_first l.1 (entries_of rest);
}

pub place_next : (side : Side) (c : List ℕ) (look : ℕ → Option (List ℕ)) (xs : List (List ℕ)) (p : TreeSpot) (at : IsTreePlace side c look xs p) → (p.leaf.next ≡ 0 → ⊥) → NextLeaf (length c) look at.at.spot.rest p.leaf.next
place_next side c look xs p at some =
    let s = at.at.spot in
    let chain = chain_second (leaf_in (length c)) look s.ahead ((p.number, p.leaf.entries.items) ∷ s.rest) 0 (subst (λ (l : List Leaf). BlockChain (leaf_in (length c)) look l 0) s.is at.tree.chain) in
    next_by (length c) look s.rest p.leaf.next chain.2 at.at.next some

none_next : (width : ℕ) (look : ℕ → Option (List ℕ)) (rest : List Leaf) → BlockChain (leaf_in width) look rest 0 → front rest 0 ≡ 0 → slice_get (entries_of rest) 0 ≡ None
none_next width look [] chain none = refl
none_next width look (l ∷ rest) chain none = absurd (chain.0 none)

pub place_last : (side : Side) (c : List ℕ) (look : ℕ → Option (List ℕ)) (xs : List (List ℕ)) (p : TreeSpot) (at : IsTreePlace side c look xs p) → p.leaf.next ≡ 0 → slice_get (entries_of at.at.spot.rest) 0 ≡ None
place_last side c look xs p at none =
    let s = at.at.spot in
    let chain = chain_second (leaf_in (length c)) look s.ahead ((p.number, p.leaf.entries.items) ∷ s.rest) 0 (subst (λ (l : List Leaf). BlockChain (leaf_in (length c)) look l 0) s.is at.tree.chain) in
    none_next (length c) look s.rest chain.2 (sym at.at.next ∙ none)

-- a look that found a leaf, or none

pub look_none : (side : Side) (c : List ℕ) (look : ℕ → Option (List ℕ)) (xs : List (List ℕ)) (o : Option TreeSpot) → IsTreeLook side c look xs o → o ≡ None → xs ≡ []
look_none side c look xs o at is = subst (IsTreeLook side c look xs) is at

pub look_some : (side : Side) (c : List ℕ) (look : ℕ → Option (List ℕ)) (xs : List (List ℕ)) (o : Option TreeSpot) (p : TreeSpot) → IsTreeLook side c look xs o → o ≡ Some p → IsTreePlace side c look xs p
look_some side c look xs o p at is = subst (IsTreeLook side c look xs) is at

or_low : (es : List (List ℕ)) (i : ℕ) (p : Option (List ℕ)) → i < length es → or_else (slice_get es i) p ≡ slice_get es i
or_low [] i p low = absurd (omega (arith, low))
or_low (x ∷ es) zero p low = refl
or_low (x ∷ es) (suc i) p low = or_low es i p (omega (arith, low))

or_high : (es : List (List ℕ)) (i : ℕ) (p : Option (List ℕ)) → length es ≤ i → or_else (slice_get es i) p ≡ p
or_high [] i p high = refl
or_high (x ∷ es) zero p high = absurd (omega (arith, high))
or_high (x ∷ es) (suc i) p high = or_high es i p (omega (arith, high))

pub answer_here : (c : List ℕ) (es ds : List (List ℕ)) (i : ℕ) (o p q : Option (List ℕ)) → ds ≡ es → i ≡ lead c ds → i < length ds → o ≡ slice_get ds i → q ≡ or_else (slice_get es (lead c es)) p → o ≡ q
answer_here c es ds i o p q same place low is whole =
    is ∙ sym (or_low ds i p low) ∙ (λ j. or_else (slice_get (same j) ((place ∙ ap (lead c) same) j)) p) ∙ sym whole

pub answer_next : (c : List ℕ) (es ds : List (List ℕ)) (i : ℕ) (o p q : Option (List ℕ)) → ds ≡ es → i ≡ lead c ds → length ds ≤ i → o ≡ p → q ≡ or_else (slice_get es (lead c es)) p → o ≡ q
answer_next c es ds i o p q same place high is whole =
    is ∙ sym (or_high ds i p high) ∙ (λ j. or_else (slice_get (same j) ((place ∙ ap (lead c) same) j)) p) ∙ sym whole

snd_of : Option (ℕ × List (List ℕ)) → List (List ℕ)
snd_of None = []
snd_of (Some x) = x.1

entries_same : (o : Option (ℕ × List (List ℕ))) (a b : ℕ) (es ds : List (List ℕ)) → o ≡ Some (a, es) → o ≡ Some (b, ds) → es ≡ ds
unfolding snd_of
entries_same o a b es ds one two =
    let same : Some (a, es) ≡ Some (b, ds) = sym one ∙ two in
    ap snd_of same

pub next_answer : (width : ℕ) (look : ℕ → Option (List ℕ)) (rest : List Leaf) (next after : ℕ) (es : List (List ℕ)) → NextLeaf width look rest next → said_by (leaf_in width) (look next) ≡ Some (after, es) → 0 < length es → slice_get es 0 ≡ slice_get (entries_of rest) 0
next_answer width look rest next after es n said some =
    let same = entries_same (said_by (leaf_in width) (look next)) n.after after n.entries es n.said said in
    ap (λ (l : List (List ℕ)). slice_get l 0) (sym same) ∙ sym (n.first (omega (arith, some, ap (λ (l : List (List ℕ)). length l) same)))

pub some_not : {A : Type 0} (o : Option A) (x : A) → o ≡ Some x → o ≡ None → ⊥
some_not None x a b = cc a
some_not (Some y) x a b = cc b
