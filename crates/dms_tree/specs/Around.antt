-- The neighbours of a leaf that an entry left and of the blocks above it, as they stand before anything is written.
use Rattle.std.proofs.Common.{◌≡◌, ◌≢◌, ℕ, zero, suc, ◌+◌, ◌*◌, ◌^◌, ◌≤◌, ◌<◌, ◌⊎◌, inl, inr, IsTrue, List, [], ◌∷◌, ◌++◌, Some, None, refl, sym, ap, subst, ◌∙◌, length, slice_get, get_or, append-nil, arith}
use Rattle.std.specs.declared.option.Option.{Option}
use Rattle.dms_block.specs.declared.blocks.Blocks.{Ghosts}
use Rattle.dms_block.specs.declared.overlay.Overlay.{Overlay}
use Rattle.dms_block.specs.View.{overlay_content, seen_counts, under}
use Rattle.dms_chain.specs.Linked.{BlockChain, numbers, said_by, times}
use Rattle.dms_chain.specs.LinkedLaws.{times_append}
use Rattle.dms_chain.specs.ListBlocks.{leaf_in}
use Rattle.dms_chain.specs.ListIn.{Leaf}
use Rattle.dms_chain.specs.Lists.{AreInByteOrder}
use Rattle.dms_chain.specs.Seen.{look}
use Rattle.dms_tree.specs.declared.leaving.LeafJoint.{LeafJoint}
use Rattle.dms_tree.specs.declared.leaving.ShortLeaf.{ShortLeaf}
use Rattle.dms_tree.specs.declared.lessening.Around.{Around}
use Rattle.dms_tree.specs.declared.node.InnerBlock.{InnerBlock}
use Rattle.dms_tree.specs.declared.raising.PathStep.{PathStep}
use Rattle.dms_tree.specs.Climbs.{IsWholeUp, Shrinks}
use Rattle.dms_tree.specs.LaceLaws.{kids_append}
use Rattle.dms_tree.specs.LeafJoints.{AreLeavesMated, IsShortUnder, SaysLeaf, leaves_up}
use Rattle.dms_tree.specs.Levels.{Hangs, Inner, kids_of, top_numbers}
use Rattle.dms_tree.specs.Mates.{mate_place}
use Rattle.dms_tree.specs.OpenRoots.{says_levels}
use Rattle.dms_tree.specs.OpenTree.{all_inner, numbers_of_all, tree_times}
use Rattle.dms_tree.specs.Paths.{Step, hangs_end, path_last}
use Rattle.dms_tree.specs.Removes.{IsLessLeaf}
use Rattle.dms_tree.specs.TreeIn.{tree_in}
use Rattle.dms_tree.specs.UpMates.{HaveMates, MatesHold, SayMates, either, mate_low, mate_of, mates_in, mates_there, none_some, same_or}
use Rattle.dms_tree.specs.Uppers.{kid_in}
use Rattle.dms_tree.specs.Ups.{ArePassed, IsPassed, step_of, steps_of}

-- each block of a chain says something
pub chain_says : {A : Type 0} (reads : List ℕ → Option (ℕ × A)) (look : ℕ → Option (List ℕ)) (ls : List (ℕ × A)) (behind : ℕ) → BlockChain reads look ls behind → (k : ℕ) → 0 < times k (numbers ls) → said_by reads (look k) ≡ None → ⊥
chain_says reads look [] behind chain k some none = absurd (omega (arith, some))
chain_says reads look (l ∷ ls) behind chain k some none =
    either (λ e. none_some (said_by reads (look l.0)) _ chain.1 (ap (λ n. said_by reads (look n)) (sym e) ∙ none)) (λ more. chain_says reads look ls behind chain.2 k more none) (same_or k l.0 (numbers ls) some)

-- the neighbours are there
pub record HasAround (width : ℕ) (look : ℕ → Option (List ℕ)) (path : List PathStep) (step : PathStep) : Type 0 where
  pub mates : HaveMates width look path
  pub leaf : said_by (leaf_in width) (look (mate_of step)) ≡ None → ⊥

pub around_there : (width count : ℕ) (look : ℕ → Option (List ℕ)) (root free : ℕ) (path : List PathStep) (step : PathStep) (n next : ℕ) (old new xs : List (List ℕ)) (more : ℕ) → IsLessLeaf width count look root free (steps_of path ++ step_of step ∷ []) n next old new xs → ArePassed width more path → IsPassed width more step → HasAround width look path step
around_there width count look root free path step n next old new xs more h passed here =
    let all = h.ahead ++ (n, old) ∷ h.rest in
    let o = h.opened in
    let hangs = subst (λ (l : List (List Inner)). Hangs (top_numbers root) l (numbers all)) (sym (append-nil h.us)) o.hangs in
    let none : times 0 (numbers (all_inner h.us)) ≡ 0 = omega (arith, o.zero, tree_times 0 h.us all h.spares, ap (times 0) (numbers_of_all h.us)) in
    let said = says_levels width look root h.us all none o.placed o.half in
    let s = step_of step in
    let last = path_last (steps_of path) s h.us 0 root (length h.ahead) n h.path in
    let k = mate_of step in
    let kids : numbers all ≡ kids_of last.level = sym (hangs_end last.over last.level (top_numbers root) (numbers all) (subst (λ l. Hangs (top_numbers root) l (numbers all)) last.is o.hangs)) in
    let p : Inner = (s.number, (s.kids, s.seps)) in
    let parts : times k (kids_of last.level) ≡ times k (kids_of last.step.ups) + times k s.kids + times k (kids_of last.step.downs) =
    omega (arith, ap (λ (l : List Inner). times k (kids_of l)) last.step.is, ap (times k) (kids_append last.step.ups (p ∷ last.step.downs)), times_append k (kids_of last.step.ups) (s.kids ++ kids_of last.step.downs), times_append k s.kids (kids_of last.step.downs)) in
    record {
      mates = mates_there width look h.us said.0 path (mates_in width more path s h.us [] 0 root (length h.ahead) n (top_numbers root) (numbers all) h.path hangs passed);
      leaf = chain_says (leaf_in width) look all 0 o.chain k (omega (arith, kid_in s.kids (mate_place step.taken) (mate_low width more step here), parts, ap (times k) kids));
    }

-- the leaf under its block, and what the neighbours say
pub record IsAroundUp (count : ℕ) (bs : List (List ℕ)) (h : ShortLeaf) (step : PathStep) (around : Around) (xs : List (List ℕ)) : Type 0 where
  pub old : List (List ℕ)
  pub short : IsShortUnder count bs h step old xs
  pub leaf : SaysLeaf bs h.width step around.leaf
  pub mates : SayMates bs h.width h.path.items around.mates.items
  pub sorted : AreInByteOrder xs

pub around_up : (count : ℕ) (bs : List (List ℕ)) (h : ShortLeaf) (step : PathStep) (around : Around) (j : LeafJoint) (xs : List (List ℕ)) → AreLeavesMated h step around.leaf j → IsPassed h.width count step → IsAroundUp count bs h step around xs → IsWholeUp count bs j around.mates.items xs
around_up count bs h step around j xs m passed up = (
  leaves_up count bs h step around.leaf j up.old xs m passed up.short up.leaf up.sorted,
  subst (λ (t : ℕ × List PathStep). SayMates bs t.0 t.1 around.mates.items) (λ i. (sym m.width_is i, sym m.path_is i)) up.mates,
)

module _ {B : Type 0} {g : Ghosts B} where
  -- a block of the file, where a neighbour isn't there
  abbrev pub NoAround : ℕ → Overlay B g → ℕ → List PathStep → PathStep → ℕ → ℕ → Type 0
  NoAround width o file path step f b = (f ≡ file) × (b < seen_counts o file) × (IsTrue (under o).told → HasAround width (look o file) path step → ⊥)

  pub shrinks_from : (a b : Overlay B g) (file : ℕ) (h : ShortLeaf) (step : PathStep) (around : Around) (j : LeafJoint) → AreLeavesMated h step around.leaf j → IsPassed h.width (seen_counts a file) step → Shrinks a b file j.width (IsWholeUp (seen_counts a file) (overlay_content a file) j around.mates.items)
      → Shrinks a b file h.width (IsAroundUp (seen_counts a file) (overlay_content a file) h step around)
  shrinks_from a b file h step around j m passed p = record {
    list = λ told sound long xs up. subst (λ w. tree_in w (overlay_content b file) ≡ Some xs) m.width_is (p.list told sound long xs (around_up (seen_counts a file) (overlay_content a file) h step around j xs m passed up));
    others = p.others;
    counts = p.counts;
  }
