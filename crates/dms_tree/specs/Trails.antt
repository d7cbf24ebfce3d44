-- The way from a tree's root to a leaf, with all blocks that it passes.
use Rattle.std.proofs.Common.{◌≡◌, ℕ, zero, suc, ◌+◌, ◌≤◌, ◌<◌, List, [], ◌∷◌, ◌++◌, Bool, true, false, Some, None, refl, sym, ap, subst, ◌∙◌, length, take, get_or, slice_get, append_assoc, append-nil, arith, IsTrue}
use Rattle.std.specs.declared.option.Option.{Option}
use Rattle.dms_block.specs.declared.blocks.Blocks.{Ghosts}
use Rattle.dms_block.specs.declared.overlay.Overlay.{Overlay}
use Rattle.dms_block.specs.View.{seen_counts, under}
use Rattle.dms_chain.specs.Leads.{last_of, lead}
use Rattle.dms_chain.specs.Linked.{BlockChain, front, numbers, said_by}
use Rattle.dms_chain.specs.ListBlocks.{leaf_in}
use Rattle.dms_chain.specs.ListIn.{Leaf, entries_of}
use Rattle.dms_chain.specs.Lists.{or_else}
use Rattle.dms_chain.specs.Seen.{look}
use Rattle.dms_chain.specs.SpellLaws.{IsLeaf}
use Rattle.dms_tree.specs.declared.raising.PathStep.{PathStep}
use Rattle.dms_tree.specs.declared.tracing.Trail.{Trail}
use Rattle.dms_tree.specs.Descent.{GoesDown, IsAt, IsBetween, IsSpot, LeafPlace, at_root, goes_on, root_lefts, leaf_place, says_here}
use Rattle.dms_tree.specs.Levels.{Inner, fences, kids_of, marked}
use Rattle.dms_tree.specs.Nodes.{IsNoNode}
use Rattle.dms_tree.specs.Order.{Stands, key_of}
use Rattle.dms_tree.specs.Paths.{IsPath, IsStep, Step, path_more}
use Rattle.dms_tree.specs.TreeBlocks.{inner_in}
use Rattle.dms_tree.specs.TreeIn.{says}
use Rattle.dms_tree.specs.TreeSpells.{inner_no_leaf}
use Rattle.dms_tree.specs.Ups.{ArePassed, step_of, steps_append, steps_of}
use Rattle.dms_tree.specs.Ways.{IfTreeFrom, TreeFrom}

pub record IsTrail (c : List ℕ) (us : List (List Inner)) (ls : List Leaf) (root : ℕ) (t : Trail) : Type 0 where
  pub spot : IsSpot true c ls t.number t.leaf.entries.items
  pub next : t.leaf.next ≡ front spot.rest 0
  pub fence : Option (List ℕ)
  pub between : IsBetween true c (length spot.ahead) (fences [] us) fence
  pub way : IsPath (steps_of t.path.items) us 0 root (length spot.ahead) t.number

-- what holds of a way in a file of so many blocks, whatever they say
pub record TrailHolds (width count : ℕ) (t : Trail) : Type 0 where
  pub leaf : IsLeaf width t.leaf.next t.leaf.entries.items
  pub found : t.number < count
  pub passed : ArePassed width count t.path.items
  pub short : length t.path.items + 1 < count
  pub low : length t.path.items ≤ 9

module _ {B : Type 0} {g : Ghosts B} where
  -- a block of the file, where no tree hangs from a block whose levels, leaves and all, are ten at most, and fewer than the file's blocks
  abbrev pub NoTreeNear : ℕ → Overlay B g → ℕ → ℕ → ℕ → ℕ → Type 0
  NoTreeNear width o file root f b = (f ≡ file) × (b < seen_counts o file) × IfTreeFrom o file width root (λ us ls. length us ≤ 9 → length us + 1 < seen_counts o file → ⊥)

-- a way has come to this block in this turn, the first of which is 1
pub record GoingUp (width : ℕ) (look : ℕ → Option (List ℕ)) (k : List ℕ) (us : List (List Inner)) (ls : List Leaf) (root : ℕ) (path : List PathStep) (turn n : ℕ) : Type 0 where
  pub upper : List (List Inner)
  pub lower : List (List Inner)
  pub fence : Option (List ℕ)
  pub is : us ≡ upper ++ lower
  pub at : IsAt width look k lower ls n (fences [] us) fence
  pub way : IsPath (steps_of path) upper 0 root (length at.lefts) n
  pub turns : turn + length lower ≡ length us + 1

pub up_first : (width : ℕ) (look : ℕ → Option (List ℕ)) (k : List ℕ) (us : List (List Inner)) (ls : List Leaf) (root : ℕ) → TreeFrom width look root us ls → GoingUp width look k us ls root [] 1 root
up_first width look k us ls root tree = record { upper = []; lower = us; fence = None; is = refl; at = at_root width look k us ls root tree.hangs tree.inner tree.rises; way = (root_lefts width look k us ls root tree.hangs tree.inner tree.rises, refl); turns = omega arith }

module _ (c : List ℕ) (look : ℕ → Option (List ℕ)) (us : List (List Inner)) (ls : List Leaf) (root : ℕ) (path : List PathStep) (turn n : ℕ) where
  abbrev key : List ℕ
  key = key_of true c

  inner_and_leaf : (o : Option (List ℕ)) (x : List ℕ × List (List ℕ)) (y : ℕ × List (List ℕ)) → says (inner_in (length c)) o ≡ Some x → said_by (leaf_in (length c)) o ≡ Some y → ⊥
  inner_and_leaf None x y one two = cc one
  inner_and_leaf (Some b) x y one two = some_none (leaf_in (length c) b) y two (inner_no_leaf (length c) b x one)
    where
      some_none : (o : Option (ℕ × List (List ℕ))) (y : ℕ × List (List ℕ)) → o ≡ Some y → o ≡ None → ⊥
      some_none None y a b = cc a
      some_none (Some z) y a b = cc b

  down_by : (upper lower : List (List Inner)) (fence : Option (List ℕ)) → us ≡ upper ++ lower → (at : IsAt (length c) look key lower ls n (fences [] us) fence) → IsPath (steps_of path) upper 0 root (length at.lefts) n → turn + length lower ≡ length us + 1 → BlockChain (leaf_in (length c)) look ls 0
      → (p : PathStep) → p.number ≡ n → p.taken ≡ lead key (marked 0 p.inner.seps.items) → says (inner_in (length c)) (look n) ≡ Some (p.inner.kids.items, p.inner.seps.items) → (next : ℕ) → next ≡ get_or p.inner.kids.items (lead key (marked 0 p.inner.seps.items)) 0
      → GoingUp (length c) look key us ls root (path ++ p ∷ []) (turn + 1) next
  down_by upper [] fence is at way turns chain p number taken said next next_is = absurd (inner_and_leaf (look n) (p.inner.kids.items, p.inner.seps.items) _ said (leaf_place true c look ls n (fences [] us) fence at chain).here.said)
  down_by upper (u ∷ lower) fence is at way turns chain p number taken said next next_is =
      let kids = p.inner.kids.items in
      let seps = p.inner.seps.items in
      let j = lead key (marked 0 seps) in
      let down : GoesDown (length c) look key u lower ls n (fences [] us) fence at kids seps said = goes_on (length c) look key u lower ls n (fences [] us) fence at kids seps said in
      let step : IsStep (step_of p) u (length at.lefts) n (length down.next.lefts) (get_or kids j 0) = record {
        ups = down.ahead;
        downs = down.rest;
        is = down.level_is ∙ ap (λ (m : ℕ). down.ahead ++ (m, (kids, seps)) ∷ down.rest) (sym number);
        place_is = down.place;
        number_is = number;
        low = omega (arith, down.low, taken);
        next_is = omega (arith, down.lefts, taken);
        below_is = ap (λ (m : ℕ). get_or kids m 0) (sym taken);
      } in
      let ways : IsPath (steps_of (path ++ p ∷ [])) (upper ++ u ∷ []) 0 root (length down.next.lefts) (get_or kids j 0) =
      subst (λ (l : List Step). IsPath l (upper ++ u ∷ []) 0 root (length down.next.lefts) (get_or kids j 0)) (sym (steps_append path (p ∷ [])))
      (path_more (steps_of path) upper (step_of p) u 0 root (length at.lefts) n (length down.next.lefts) (get_or kids j 0) way step) in
      subst (GoingUp (length c) look key us ls root (path ++ p ∷ []) (turn + 1)) (sym next_is)
      (record {
        upper = upper ++ u ∷ [];
        lower = lower;
        fence = or_else (last_of (take j seps)) fence;
        is = is ∙ sym (append_assoc upper (u ∷ []) lower);
        at = down.next;
        way = ways;
        turns = omega (arith, turns);
      })

  pub up_down : GoingUp (length c) look key us ls root path turn n → BlockChain (leaf_in (length c)) look ls 0 → (p : PathStep) → p.number ≡ n → p.taken ≡ lead key (marked 0 p.inner.seps.items) → says (inner_in (length c)) (look n) ≡ Some (p.inner.kids.items, p.inner.seps.items)
      → (next : ℕ) → next ≡ get_or p.inner.kids.items (lead key (marked 0 p.inner.seps.items)) 0 → GoingUp (length c) look key us ls root (path ++ p ∷ []) (turn + 1) next
  up_down w chain p number taken said next next_is = down_by w.upper w.lower w.fence w.is w.at w.way w.turns chain p number taken said next next_is

  some_same : (x y : ℕ × List (List ℕ)) → Some x ≡ Some y → x ≡ y
  some_same x y e = cc e

  trail_by : (upper lower : List (List Inner)) (fence : Option (List ℕ)) → us ≡ upper ++ lower → (at : IsAt (length c) look key lower ls n (fences [] us) fence) → IsPath (steps_of path) upper 0 root (length at.lefts) n → BlockChain (leaf_in (length c)) look ls 0
      → (t : Trail) → t.number ≡ n → t.path.items ≡ path → said_by (leaf_in (length c)) (look n) ≡ Some (t.leaf.next, t.leaf.entries.items) → IsTrail c us ls root t
  trail_by upper [] fence is at way chain t here held said =
      let place = leaf_place true c look ls n (fences [] us) fence at chain in
      let a = place.here in
      let spot = a.spot in
      let same = some_same (front spot.rest 0, a.entries) (t.leaf.next, t.leaf.entries.items) (sym a.said ∙ said) in
      let one = subst (λ (m : ℕ). IsPath (steps_of path) upper 0 root m n) (sym place.size) way in
      let two = subst (λ (l : List (List Inner)). IsPath (steps_of path) l 0 root (length spot.ahead) n) (sym (is ∙ append-nil upper)) one in
      let three = subst (λ (l : List PathStep). IsPath (steps_of l) us 0 root (length spot.ahead) n) (sym held) two in
      record {
        spot = record {
          ahead = spot.ahead;
          rest = spot.rest;
          is = spot.is ∙ (λ i. spot.ahead ++ (sym here i, (same i).1) ∷ spot.rest);
          stands = subst (λ es. Stands c (entries_of spot.ahead) es (entries_of spot.rest)) (ap (λ x. x.1) same) spot.stands;
          other = spot.other;
        };
        next = sym (ap (λ x. x.0) same);
        fence = fence;
        between = a.between;
        way = subst (λ (m : ℕ). IsPath (steps_of t.path.items) us 0 root (length spot.ahead) m) (sym here) three;
      }
  trail_by upper (u ∷ lower) fence is at way chain t here held said = absurd (inner_and_leaf (look n) _ (t.leaf.next, t.leaf.entries.items) (says_here (length c) look key u lower ls n (fences [] us) fence at) said)

  pub up_trail : GoingUp (length c) look key us ls root path turn n → BlockChain (leaf_in (length c)) look ls 0 → (t : Trail) → t.number ≡ n → t.path.items ≡ path → said_by (leaf_in (length c)) (look n) ≡ Some (t.leaf.next, t.leaf.entries.items) → IsTrail c us ls root t
  up_trail w chain t here held said = trail_by w.upper w.lower w.fence w.is w.at w.way chain t here held said

  none_some : {A : Type 0} (o : Option A) (x : A) → o ≡ Some x → o ≡ None → ⊥
  none_some None x a b = cc a
  none_some (Some y) x a b = cc b

  there_by : (lower : List (List Inner)) (fence : Option (List ℕ)) → IsAt (length c) look key lower ls n (fences [] us) fence → BlockChain (leaf_in (length c)) look ls 0 → IsNoNode (length c) (look n) → ⊥
  there_by [] fence at chain none = none_some (said_by (leaf_in (length c)) (look n)) _ (leaf_place true c look ls n (fences [] us) fence at chain).here.said none.leaf
  there_by (u ∷ lower) fence at chain none = none_some (says (inner_in (length c)) (look n)) _ (says_here (length c) look key u lower ls n (fences [] us) fence at) none.inner

  pub up_there : GoingUp (length c) look key us ls root path turn n → BlockChain (leaf_in (length c)) look ls 0 → IsNoNode (length c) (look n) → ⊥
  up_there w chain none = there_by w.lower w.fence w.at chain none
