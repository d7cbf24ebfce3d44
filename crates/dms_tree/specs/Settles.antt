-- The way up of an insert: a block of the path that has one child more isn't written yet. It is written, or cut, and then the block
-- above it isn't written.
use Rattle.std.proofs.Common.{◌≡◌, ℕ, zero, suc, ◌+◌, ◌≤◌, ◌<◌, ◌⊎◌, inl, inr, List, [], ◌∷◌, ◌++◌, Some, refl, sym, ap, subst, ◌∙◌, length, take, drop, length-append, append_assoc, arith}
use Rattle.std.specs.declared.option.Option.{Option}
use Rattle.std.proofs.lemmas.List.{length-take-le, take-append-drop}
use Rattle.dms_chain.specs.Linked.{front, numbers, put, said_by, times}
use Rattle.dms_chain.specs.LinkedLaws.{numbers_append, numbers_times, times_append, times_apart, times_other, times_own}
use Rattle.dms_chain.specs.ListBlocks.{free_in, leaf_in}
use Rattle.dms_chain.specs.ListIn.{Leaf, Spare, entries_of}
use Rattle.dms_chain.specs.Lists.{AreInByteOrder}
use Rattle.dms_tree.specs.Levels.{Hangs, Inner, inner_numbers, kids_of, top_numbers, weave}
use Rattle.dms_tree.specs.Looks.{entries_append}
use Rattle.dms_tree.specs.OpenMoves.{open_end, open_over, open_take, top_is, under_root}
use Rattle.dms_tree.specs.OpenTree.{AreLeavesHalf, IsOpenTree, Placed, all_inner, numbers_of_all, open_fill, tree_times}
use Rattle.dms_tree.specs.Paths.{IsPath, IsStep, LastStep, Step, part_kids, path_last}
use Rattle.dms_tree.specs.Splits.{InnerSplit, SplitAt, split_inner, split_leaf}
use Rattle.dms_tree.specs.Steps.{EachOf, each_second}
use Rattle.dms_tree.specs.TreeBlocks.{inner_half, inner_in, leaf_half}
use Rattle.dms_tree.specs.TreeIn.{says, tree_numbers}

-- A block that a path leads to has these children and separators, and isn't written yet. The tree's entries are these.
pub record IsHole (width count : ℕ) (look : ℕ → Option (List ℕ)) (root free : ℕ) (ss : List Step) (n : ℕ) (kids : List ℕ) (seps : List (List ℕ)) (holes loose : List ℕ) (xs : List (List ℕ)) : Type 0 where
  pub over : List (List Inner)
  pub ups : List Inner
  pub downs : List Inner
  pub lower : List (List Inner)
  pub leaves : List Leaf
  pub spares : List Spare
  pub path : IsPath ss over 0 root (length ups) n
  pub opened : IsOpenTree width count look root free (over ++ (ups ++ (n, (kids, seps)) ∷ downs) ∷ lower) leaves spares holes loose
  pub half : (n ≡ root) ⊎ (inner_half width < length seps)
  pub entries : entries_of leaves ≡ xs
  pub some : root ≡ 0 → ⊥

-- one block among all of a tree
pub all_at : (over : List (List Inner)) (ups : List Inner) (p : Inner) (downs : List Inner) (lower : List (List Inner)) → all_inner (over ++ (ups ++ p ∷ downs) ∷ lower) ≡ (all_inner over ++ ups) ++ p ∷ (downs ++ all_inner lower)
all_at [] ups p downs lower = append_assoc ups (p ∷ downs) (all_inner lower)
all_at (u ∷ over) ups p downs lower =
    ap (λ (l : List Inner). u ++ l) (all_at over ups p downs lower)
    ∙ sym (append_assoc u (all_inner over ++ ups) (p ∷ (downs ++ all_inner lower)))
    ∙ ap (λ (l : List Inner). l ++ p ∷ (downs ++ all_inner lower)) (sym (append_assoc u (all_inner over) ups))

-- it is half full where it isn't the root
placed_half : (width : ℕ) (look : ℕ → Option (List ℕ)) (root : ℕ) (holes : List ℕ) (u : Inner) → (0 < times u.0 holes → u.0 ≡ root) → Placed width look root holes u → (u.0 ≡ root) ⊎ (inner_half width ≤ length u.1.1)
placed_half width look root holes u top (inl is) = inl (top is)
placed_half width look root holes u top (inr h) = h.1

pub more_half : (n root least a b : ℕ) → (n ≡ root) ⊎ (least ≤ a) → suc a ≡ b → (n ≡ root) ⊎ (least < b)
more_half n root least a b (inl is) more = inl is
more_half n root least a b (inr le) more = inr (omega (arith, le, more))

-- the last block of a path, in a tree that is open
pub last_half : (width count : ℕ) (look : ℕ → Option (List ℕ)) (root free : ℕ) (above lower : List (List Inner)) (ls : List Leaf) (fs : List Spare) (holes loose : List ℕ) (ss : List Step) (s : Step) (next below : ℕ)
    → IsOpenTree width count look root free (above ++ lower) ls fs holes loose → IsPath (ss ++ s ∷ []) above 0 root next below → (0 < times s.number holes → s.number ≡ root) → (s.number ≡ root) ⊎ (inner_half width ≤ length s.seps)
last_half width count look root free above lower ls fs holes loose ss s next below o path top =
    let last = path_last ss s above 0 root next below path in
    let step = last.step in
    let p : Inner = (s.number, (s.kids, s.seps)) in
    let levels : above ++ lower ≡ last.over ++ (step.ups ++ p ∷ step.downs) ∷ lower = ap (λ (l : List (List Inner)). l ++ lower) last.is ∙ append_assoc last.over (last.level ∷ []) lower ∙ ap (λ (l : List Inner). last.over ++ l ∷ lower) step.is in
    let all = subst (EachOf (Placed width look root holes)) (ap all_inner levels ∙ all_at last.over step.ups p step.downs lower) o.placed in
    placed_half width look root holes p top (each_second (Placed width look root holes) (all_inner last.over ++ step.ups) (p ∷ (step.downs ++ all_inner lower)) all).0

pub one_more : (k : ℕ) (sep : List ℕ) (seps : List (List ℕ)) → suc (length seps) ≡ length (take k seps ++ sep ∷ drop k seps)
one_more k sep seps = omega (arith, length-append (take k seps) (sep ∷ drop k seps), length-append (take k seps) (drop k seps), ap (λ (l : List (List ℕ)). length l) (take-append-drop k seps))

-- a block that is too full is cut, and the one above it has one child more
pub hole_cut : (width count : ℕ) (look : ℕ → Option (List ℕ)) (root free : ℕ) (ss : List Step) (s : Step) (n f : ℕ) (low high : List ℕ) (a : List (List ℕ)) (sep : List ℕ) (b : List (List ℕ)) (holes loose : List ℕ) (xs : List (List ℕ)) (x y : List ℕ)
    → IsHole width count look root free (ss ++ s ∷ []) n (low ++ high) (a ++ sep ∷ b) holes (f ∷ loose) xs → ((k : ℕ) → (k ≡ n → ⊥) → (k ≡ s.number → ⊥) → times k holes ≡ 0) → (0 < times s.number holes → s.number ≡ root) → s.taken ≤ length s.seps
    → inner_in width x ≡ Some (low, a) → inner_in width y ≡ Some (high, b) → inner_half width ≤ length a → inner_half width ≤ length b
    → IsHole width count (put (put look n x) f y) root free ss s.number (take s.taken s.kids ++ n ∷ f ∷ drop (suc s.taken) s.kids) (take s.taken s.seps ++ sep ∷ drop s.taken s.seps) (s.number ∷ []) loose xs
hole_cut width count look root free ss s n f low high a sep b holes loose xs x y h only top fit reads reads' half half' =
    let r = split_inner width count look root free h.over h.ups h.downs n f low high a sep b h.lower h.leaves h.spares holes loose ss s x y only h.opened h.some h.path fit reads reads' half half' in
    let parent = last_half width count look root free h.over ((h.ups ++ (n, (low ++ high, a ++ sep ∷ b)) ∷ h.downs) ∷ h.lower) h.leaves h.spares holes (f ∷ loose) ss s (length h.ups) n h.opened h.path top in
    record {
      over = r.over;
      ups = r.ups;
      downs = r.downs;
      lower = (h.ups ++ (n, (low, a)) ∷ (f, (high, b)) ∷ h.downs) ∷ h.lower;
      leaves = h.leaves;
      spares = h.spares;
      path = r.path;
      opened = r.opened;
      half = more_half s.number root (inner_half width) (length s.seps) (length (take s.taken s.seps ++ sep ∷ drop s.taken s.seps)) parent (one_more s.taken sep s.seps);
      entries = h.entries;
      some = h.some;
    }

-- of a block on the path no other one is above
pub root_only : (width : ℕ) (root r : ℕ) (ls : List Leaf) → times root (numbers ls) ≡ 0 → AreLeavesHalf width root ls → AreLeavesHalf width r ls
root_only width root r [] none half = tt
root_only width root r (l ∷ ls) none half = let two = times_apart root l.0 (numbers ls) none in (one half.0 two.0, root_only width root r ls two.1 half.1)
  where
    one : {A : Type 0} → (l.0 ≡ root) ⊎ A → (l.0 ≡ root → ⊥) → (l.0 ≡ r) ⊎ A
    one (inl e) off = absurd (off e)
    one (inr a) off = inr a

-- a new root's only child is the old one
abbrev pub over_step : ℕ → ℕ → Step
over_step r c = record { number = r; kids = c ∷ []; seps = []; taken = 0 }

over_hole : (width count : ℕ) (look : ℕ → Option (List ℕ)) (root r free n : ℕ) (kids : List ℕ) (seps : List (List ℕ)) (holes loose : List ℕ) (over : List (List Inner)) (ups downs : List Inner) (lower : List (List Inner)) (leaves : List Leaf) (spares : List Spare)
    → IsPath [] over 0 root (length ups) n → IsOpenTree width count look root free (over ++ (ups ++ (n, (kids, seps)) ∷ downs) ∷ lower) leaves spares holes (r ∷ loose) → (root ≡ 0 → ⊥) → inner_half width < length seps
    → IsHole width count look r free (over_step r root ∷ []) n kids seps (r ∷ root ∷ holes) loose (entries_of leaves)
over_hole width count look root r free n kids seps holes loose [] ups downs lower leaves spares path o some half =
    let us = (ups ++ (n, (kids, seps)) ∷ downs) ∷ lower in
    let here : 0 < times root (inner_numbers us) =
    omega (arith, times_append root (numbers (ups ++ (n, (kids, seps)) ∷ downs)) (inner_numbers lower), numbers_times root ups ((n, (kids, seps)) ∷ downs), ap (λ k. times root (k ∷ [])) path.1, times_own root) in
    let leaves_half = root_only width root r leaves (omega (arith, here, o.once root, tree_times root us leaves spares)) o.half in
    let some_r : r ≡ 0 → ⊥ = λ e. absurd (omega (arith, o.zero, ap (λ k. times 0 (k ∷ [])) e, times_own 0)) in
    record {
      over = ((r, (root ∷ [], [])) ∷ []) ∷ [];
      ups = ups;
      downs = downs;
      lower = lower;
      leaves = leaves;
      spares = spares;
      path = (0, root, record { ups = []; downs = []; is = refl; place_is = refl; number_is = refl; low = omega arith; next_is = refl; below_is = refl }, (path.0, path.1));
      opened = open_over width count look free root r us leaves spares holes loose some leaves_half o;
      half = inr half;
      entries = refl;
      some = some_r;
    }
over_hole width count look root r free n kids seps holes loose (v ∷ over) ups downs lower leaves spares path o some half = absurd path

pub hole_over : (width count : ℕ) (look : ℕ → Option (List ℕ)) (root r free n : ℕ) (kids : List ℕ) (seps : List (List ℕ)) (holes loose : List ℕ) (xs : List (List ℕ)) → IsHole width count look root free [] n kids seps holes (r ∷ loose) xs → inner_half width < length seps
    → IsHole width count look r free (over_step r root ∷ []) n kids seps (r ∷ root ∷ holes) loose xs
hole_over width count look root r free n kids seps holes loose xs h half =
    subst (IsHole width count look r free (over_step r root ∷ []) n kids seps (r ∷ root ∷ holes) loose) h.entries
    (over_hole width count look root r free n kids seps holes loose h.over h.ups h.downs h.lower h.leaves h.spares h.path h.opened h.some half)

-- the root is where a path of no steps leads
path_none : (over : List (List Inner)) (root next n : ℕ) → IsPath [] over 0 root next n → n ≡ root
path_none [] root next n path = path.1
path_none (u ∷ over) root next n path = absurd path

-- both at once: what is cut is the root
pub root_cut : (width count : ℕ) (look : ℕ → Option (List ℕ)) (root r free n f : ℕ) (low high : List ℕ) (a : List (List ℕ)) (sep : List ℕ) (b : List (List ℕ)) (loose : List ℕ) (xs : List (List ℕ)) (x y : List ℕ)
    → IsHole width count look root free [] n (low ++ high) (a ++ sep ∷ b) (n ∷ []) (r ∷ f ∷ loose) xs → inner_in width x ≡ Some (low, a) → inner_in width y ≡ Some (high, b) → inner_half width ≤ length a → inner_half width ≤ length b
    → IsHole width count (put (put look n x) f y) r free [] r (n ∷ f ∷ []) (sep ∷ []) (r ∷ []) loose xs
root_cut width count look root r free n f low high a sep b loose xs x y h reads reads' half half' =
    let same = path_none h.over root (length h.ups) n h.path in
    let up = hole_over width count look root r free n (low ++ high) (a ++ sep ∷ b) (n ∷ []) (f ∷ loose) xs h (omega (arith, half, length-append a (sep ∷ b))) in
    hole_cut width count look r free [] (over_step r root) n f low high a sep b (r ∷ root ∷ n ∷ []) loose xs x y up
    (λ k off away. omega (arith, times_other k n (λ e. off (sym e)), times_other k r (λ e. away (sym e)), times_other k root (λ e. off (sym (same ∙ e))))) (λ some. refl) (omega arith) reads reads' half half'

-- and what is cut is another block
pub path_cut : (width count : ℕ) (look : ℕ → Option (List ℕ)) (root free : ℕ) (ss : List Step) (s : Step) (n f : ℕ) (low high : List ℕ) (a : List (List ℕ)) (sep : List ℕ) (b : List (List ℕ)) (loose : List ℕ) (xs : List (List ℕ)) (x y : List ℕ)
    → IsHole width count look root free (ss ++ s ∷ []) n (low ++ high) (a ++ sep ∷ b) (n ∷ []) (f ∷ loose) xs → s.taken ≤ length s.seps → inner_in width x ≡ Some (low, a) → inner_in width y ≡ Some (high, b) → inner_half width ≤ length a → inner_half width ≤ length b
    → IsHole width count (put (put look n x) f y) root free ss s.number (take s.taken s.kids ++ n ∷ f ∷ drop (suc s.taken) s.kids) (take s.taken s.seps ++ sep ∷ drop s.taken s.seps) (s.number ∷ []) loose xs
path_cut width count look root free ss s n f low high a sep b loose xs x y h fit reads reads' half half' =
    hole_cut width count look root free ss s n f low high a sep b (n ∷ []) loose xs x y h (λ k off away. times_other k n (λ e. off (sym e))) (λ some. absurd (apart some)) fit reads reads' half half'
  where
    apart : 0 < times s.number (n ∷ []) → ⊥
    apart some =
        let last = path_last ss s h.over 0 root (length h.ups) n h.path in
        let step = last.step in
        let p : Inner = (s.number, (s.kids, s.seps)) in
        let u : Inner = (n, (low ++ high, a ++ sep ∷ b)) in
        let lower : List (List Inner) = (h.ups ++ u ∷ h.downs) ∷ h.lower in
        let levels : h.over ++ lower ≡ last.over ++ (step.ups ++ p ∷ step.downs) ∷ lower = ap (λ (l : List (List Inner)). l ++ lower) last.is ∙ append_assoc last.over (last.level ∷ []) lower ∙ ap (λ (l : List Inner). last.over ++ l ∷ lower) step.is in
        let all = numbers_of_all (h.over ++ lower) ∙ ap numbers (ap all_inner levels ∙ all_at last.over step.ups p step.downs lower) in
        omega (
          arith,
          some,
          times_own s.number,
          h.opened.once s.number,
          tree_times s.number (h.over ++ lower) h.leaves h.spares,
          ap (times s.number) all,
          numbers_times s.number (all_inner last.over ++ step.ups) (p ∷ (step.downs ++ all_inner lower)),
          numbers_times s.number step.downs (all_inner lower),
          numbers_times s.number (h.ups ++ u ∷ h.downs) (all_inner h.lower),
          numbers_times s.number h.ups (u ∷ h.downs),
        )

-- the block is written
pub hole_fill : (width count : ℕ) (look : ℕ → Option (List ℕ)) (root free : ℕ) (ss : List Step) (n : ℕ) (kids : List ℕ) (seps : List (List ℕ)) (loose : List ℕ) (xs : List (List ℕ)) (bytes : List ℕ) (h : IsHole width count look root free ss n kids seps (n ∷ []) loose xs) → inner_in width bytes ≡ Some (kids, seps)
    → IsOpenTree width count (put look n bytes) root free (h.over ++ (h.ups ++ (n, (kids, seps)) ∷ h.downs) ∷ h.lower) h.leaves h.spares [] loose
hole_fill width count look root free ss n kids seps loose xs bytes h reads =
    open_fill width count look root free (h.over ++ (h.ups ++ (n, (kids, seps)) ∷ h.downs) ∷ h.lower) h.leaves h.spares (n ∷ []) [] loose (all_inner h.over ++ h.ups) (h.downs ++ all_inner h.lower) n (kids, seps) bytes
    (all_at h.over h.ups (n, (kids, seps)) h.downs h.lower) (λ k off some. absurd (omega (arith, some, times_other k n (λ e. off (sym e))))) h.opened reads (less h.half)
  where
    less : (n ≡ root) ⊎ (inner_half width < length seps) → (n ≡ root) ⊎ (inner_half width ≤ length seps)
    less (inl e) = inl e
    less (inr lt) = inr (omega (arith, lt))

-- A block is taken: the first free one, or one at the end of so many.
abbrev pub IsTaken : (ℕ → Option (List ℕ)) → ℕ → ℕ → ℕ → ℕ → ℕ → Type 0
IsTaken look count free f next more = ((free ≡ 0) × (f ≡ count) × (next ≡ 0) × (more ≡ suc count)) ⊎ ((free ≡ 0 → ⊥) × (f ≡ free) × (said_by free_in (look f) ≡ Some (next, tt)) × (more ≡ count))

pub record TookOne (width count : ℕ) (look : ℕ → Option (List ℕ)) (root free : ℕ) (us : List (List Inner)) (ls : List Leaf) (holes loose : List ℕ) : Type 0 where
  pub spares : List Spare
  pub opened : IsOpenTree width count look root free us ls spares holes loose

same_next : (n m : ℕ) (u : Unit {0}) (o : Option (ℕ × Unit {0})) → o ≡ Some (n, tt) → o ≡ Some (m, u) → m ≡ n
same_next n m u o a b = ap (λ (p : Option (ℕ × Unit {0})). of p) (sym b ∙ a)
  where
    of : Option (ℕ × Unit {0}) → ℕ
    of (Some p) = p.0
    of _ = 0

pub took_one : (width count : ℕ) (look : ℕ → Option (List ℕ)) (root free f next more : ℕ) (us : List (List Inner)) (ls : List Leaf) (fs : List Spare) (holes loose : List ℕ) → IsOpenTree width count look root free us ls fs holes loose → IsTaken look count free f next more
    → TookOne width more look root next us ls holes (f ∷ loose)
took_one width count look root free f next more us ls [] holes loose o (inl t) = record {
  spares = [];
  opened = subst (λ m. IsOpenTree width m look root next us ls [] holes (f ∷ loose)) (sym t.3)
      (subst (λ k. IsOpenTree width (suc count) look root next us ls [] holes (k ∷ loose)) (sym t.1)
      (subst (λ k. IsOpenTree width (suc count) look root k us ls [] holes (count ∷ loose)) (t.0 ∙ sym t.2) (open_end width count look root free us ls holes loose [] o)));
}
took_one width count look root free f next more us ls ((g, u) ∷ fs) holes loose o (inl t) = absurd (o.spare.0 (o.free_is ∙ t.0))
took_one width count look root free f next more us ls [] holes loose o (inr t) = absurd (t.0 (sym o.free_is))
took_one width count look root free f next more us ls ((g, u) ∷ fs) holes loose o (inr t) =
    let is : g ≡ f = o.free_is ∙ sym t.1 in
    record {
      spares = fs;
      opened = subst (λ m. IsOpenTree width m look root next us ls fs holes (f ∷ loose)) (sym t.3)
          (subst (λ k. IsOpenTree width count look root next us ls fs holes (k ∷ loose)) is
          (subst (λ k. IsOpenTree width count look root k us ls fs holes (g ∷ loose)) (same_next next (front fs 0) u (said_by free_in (look f)) t.2 (ap (λ k. said_by free_in (look k)) (sym is) ∙ o.spare.1))
          (open_take width count look root free us ls holes loose g u fs o)));
    }

pub hole_take : (width count : ℕ) (look : ℕ → Option (List ℕ)) (root free f next more : ℕ) (ss : List Step) (n : ℕ) (kids : List ℕ) (seps : List (List ℕ)) (holes loose : List ℕ) (xs : List (List ℕ)) → IsHole width count look root free ss n kids seps holes loose xs → IsTaken look count free f next more
    → IsHole width more look root next ss n kids seps holes (f ∷ loose) xs
hole_take width count look root free f next more ss n kids seps holes loose xs h t =
    let took = took_one width count look root free f next more (h.over ++ (h.ups ++ (n, (kids, seps)) ∷ h.downs) ∷ h.lower) h.leaves h.spares holes loose h.opened t in
    record {
      over = h.over;
      ups = h.ups;
      downs = h.downs;
      lower = h.lower;
      leaves = h.leaves;
      spares = took.spares;
      path = h.path;
      opened = took.opened;
      half = h.half;
      entries = h.entries;
      some = h.some;
    }
