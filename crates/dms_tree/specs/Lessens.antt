-- An entry leaves the leaf that a way led to: what the blocks spell then.
use Rattle.std.proofs.Common.{◌≡◌, ◌≢◌, ℕ, zero, suc, ◌+◌, ◌*◌, ◌/◌, ◌^◌, ◌≤◌, ◌<◌, ◌⊎◌, inl, inr, IsTrue, List, [], ◌∷◌, ◌++◌, true, false, cond, Some, None, refl, sym, ap, subst, ◌∙◌, length, take, drop, slice_get, get_or, length-append, arith}
use Rattle.std.specs.declared.option.Option.{Option}
use Rattle.std.specs.declared.result.Result.{Result}
use Rattle.std.specs.Prelude.{IsErrOf, OnErr}
use Rattle.std.specs.declared.result.Result.TheVariants.{Ok, Err}
use Rattle.dms_block.specs.declared.block_fault.BlockFault.TheVariants.{Disk, Memory, Full, Damaged, Say}
use Rattle.std.proofs.Math.Nat as nat
use Rattle.std.proofs.lemmas.List.{take-append-drop}
use Rattle.dms_block.specs.declared.block_fault.BlockFault.{BlockFault}
use Rattle.dms_block.specs.declared.blocks.Blocks.{Ghosts}
use Rattle.dms_block.specs.declared.overlay.Overlay.{Overlay}
use Rattle.dms_block.specs.Content.{put_block, raise_count, with_block}
use Rattle.dms_block.specs.ContentLaws.{in_file, in_others}
use Rattle.dms_block.specs.Faults.{NotFull}
use Rattle.dms_block.specs.Held.{Looks}
use Rattle.dms_block.specs.HeldLaws.{looks_as, looks_more, looks_none}
use Rattle.dms_block.specs.View.{ReadsOverlay, WritesOverlay, overlay_changes, overlay_content, seen_counts, under}
use Rattle.dms_chain.specs.Leads.{at_is, lead, rises_without, rising_is, without_at}
use Rattle.dms_chain.specs.Linked.{front, numbers, said_by, times}
use Rattle.dms_chain.specs.LinkedLaws.{numbers_times}
use Rattle.dms_chain.specs.ListBlocks.{flat, free_bytes, leaf_bytes, leaf_in}
use Rattle.dms_chain.specs.ListIn.{Leaf, Spare, entries_of}
use Rattle.dms_chain.specs.Lists.{AreInByteOrder, without}
use Rattle.dms_chain.specs.Parts.{front_low, wide_both, wide_drop, wide_take}
use Rattle.dms_chain.specs.Seen.{IsListWidth}
use Rattle.dms_chain.specs.SpellLaws.{AllWide, IsLeaf, leaf_again, wide_room}
use Rattle.dms_tree.specs.declared.descending.Side.TheVariants.{Through}
use Rattle.dms_tree.specs.declared.descending.TreeSpot.{TreeSpot}
use Rattle.dms_tree.specs.declared.leaving.ShortLeaf.{ShortLeaf}
use Rattle.dms_tree.specs.declared.lessening.Around.{Around}
use Rattle.dms_tree.specs.declared.raising.PathStep.{PathStep}
use Rattle.dms_tree.specs.declared.tracing.Trail.{Trail}
use Rattle.dms_tree.specs.Around.{HasAround, IsAroundUp, around_there}
use Rattle.dms_tree.specs.Climbs.{Shrinks, last_off}
use Rattle.dms_tree.specs.Closes.{close_empty}
use Rattle.dms_tree.specs.Joins.{IsGap}
use Rattle.dms_tree.specs.LeafJoints.{SaysLeaf, ShortLeafHolds, less_rising}
use Rattle.dms_tree.specs.OpenTree.{tree_times}
use Rattle.dms_tree.specs.Paths.{IsPath, Step}
use Rattle.dms_tree.specs.Removes.{IsLessLeaf, less_empty, less_leaf, less_list, there_low, without_place}
use Rattle.dms_tree.specs.TreeAts.{TreeAt}
use Rattle.dms_tree.specs.TreeBlocks.{leaf_half, root_bytes, root_in}
use Rattle.dms_tree.specs.TreeIn.{IsTree, tree_in}
use Rattle.dms_tree.specs.UpMates.{SayMates}
use Rattle.dms_tree.specs.Ups.{ArePassed, IsPassed, more_times, passed_first, passed_second, step_of, steps_append, steps_of}
use Rattle.dms_tree.specs.Ways.{IsTreeSpot}

-- a leaf that an entry left, and the way to it from the root
pub record LessHolds (count width : ℕ) (path : List PathStep) (number free : ℕ) (es : List (List ℕ)) : Type 0 where
  pub wide_is : IsListWidth width
  pub near : number < count
  pub free_low : free < 2 ^ 32
  pub wide : AllWide width es
  pub room : length es * width ≤ 1017
  pub passed : ArePassed width count path
  pub low : length path ≤ 9

-- the file's tree, without the entry, if that leaf were written
pub record IsLess (width count : ℕ) (bs : List (List ℕ)) (root free : ℕ) (path : List PathStep) (number next : ℕ) (es xs : List (List ℕ)) : Type 0 where
  pub old : List (List ℕ)
  pub at : IsLessLeaf width count (slice_get bs) root free (steps_of path) number next old es xs
  pub sorted : AreInByteOrder xs
  pub head : said_by root_in (slice_get bs 0) ≡ Some (root, free)

root_by : (us : List (List (ℕ × (List ℕ × List (List ℕ))))) (root next n : ℕ) → IsPath [] us 0 root next n → n ≡ root
root_by [] root next n path = path.1
root_by (u ∷ us) root next n path = absurd path

-- with no way the leaf is the root
pub less_root : (width count : ℕ) (bs : List (List ℕ)) (root free : ℕ) (path : List PathStep) (number next : ℕ) (es xs : List (List ℕ)) → IsLess width count bs root free path number next es xs → length path ≡ 0 → number ≡ root
less_root width count bs root free [] number next es xs l none = root_by l.at.us root (length l.at.ahead) number l.at.path
less_root width count bs root free (p ∷ path) number next es xs l none = absurd (omega (arith, none))

-- the leaf is full enough, or the root: it is written
pub less_written : (width : ℕ) (bs : List (List ℕ)) (root free : ℕ) (path : List PathStep) (number next : ℕ) (es xs : List (List ℕ)) → IsLess width (length bs) bs root free path number next es xs → LessHolds (length bs) width path number free es → length bs ≤ 1048576 → 0 < length es → (number ≡ root) ⊎ (leaf_half width ≤ length es)
    → tree_in width (put_block number (leaf_bytes next es) bs) ≡ Some xs
less_written width bs root free path number next es xs l holds room some half =
    let h = l.at in
    let low = front_low h.rest (length bs) (omega (arith, holds.near)) (λ k more. h.opened.low k (omega (arith, more, tree_times k h.us (h.ahead ++ (number, l.old) ∷ h.rest) h.spares, numbers_times k h.ahead ((number, l.old) ∷ h.rest)))) in
    let rising = less_rising width (length bs) (slice_get bs) root free (steps_of path) number next l.old es xs h l.sorted in
    less_list width bs root free (steps_of path) number next l.old es xs (leaf_bytes next es) h
    (leaf_again width next es (omega (arith, holds.wide_is.low)) (omega (arith, room, h.next_is, low)) holds.wide (record { some = some; room = holds.room; rising = rising_is es rising })) half l.head holds.near

no_steps : (path : List PathStep) → length path ≡ 0 → path ≡ []
no_steps [] none = refl
no_steps (p ∷ path) none = absurd (omega (arith, none))

no_entries : (es : List (List ℕ)) → length es ≡ 0 → es ≡ []
no_entries [] none = refl
no_entries (e ∷ es) none = absurd (omega (arith, none))

-- the last entry leaves
pub less_cleared : (width : ℕ) (bs : List (List ℕ)) (root free : ℕ) (path : List PathStep) (number next : ℕ) (es xs : List (List ℕ)) → IsLess width (length bs) bs root free path number next es xs → LessHolds (length bs) width path number free es → length bs ≤ 1048576 → length path ≡ 0 → length es ≡ 0
    → tree_in width (put_block 0 (root_bytes 0 number) (put_block number (free_bytes free) bs)) ≡ Some xs
less_cleared width bs root free path number next es xs l holds room short none =
    let h = subst (λ (t : List PathStep × List (List ℕ)). IsLessLeaf width (length bs) (slice_get bs) root free (steps_of t.0) number next l.old t.1 xs) (λ i. (no_steps path short i, no_entries es none i)) l.at in
    close_empty width bs free number xs (omega (arith, room)) holds.near holds.free_low (less_empty width (length bs) (slice_get bs) root free number next l.old xs h)

-- the leaf is to be joined with a neighbour, or shared with it
pub less_around : (count : ℕ) (bs : List (List ℕ)) (h : ShortLeaf) (step : PathStep) (around : Around) (path : List PathStep) (xs : List (List ℕ)) → path ≡ h.path.items ++ step ∷ [] → IsLess h.width count bs h.root h.free path h.number h.leaf.next h.leaf.entries.items xs → SaysLeaf bs h.width step around.leaf
    → SayMates bs h.width h.path.items around.mates.items → IsAroundUp count bs h step around xs
less_around count bs h step around path xs is l leaf mates = record {
  old = l.old;
  short = subst (λ (s : List Step). IsLessLeaf h.width count (slice_get bs) h.root h.free s h.number h.leaf.next l.old h.leaf.entries.items xs) (ap steps_of is ∙ steps_append h.path.items (step ∷ [])) l.at;
  leaf = leaf;
  mates = mates;
  sorted = l.sorted;
}

pub less_there : (width count : ℕ) (bs : List (List ℕ)) (root free : ℕ) (path : List PathStep) (ps : List PathStep) (step : PathStep) (number next : ℕ) (es xs : List (List ℕ)) (more : ℕ) → path ≡ ps ++ step ∷ [] → IsLess width count bs root free path number next es xs → ArePassed width more ps → IsPassed width more step → HasAround width (slice_get bs) ps step
less_there width count bs root free path ps step number next es xs more is l passed here =
    around_there width count (slice_get bs) root free ps step number next l.old es xs more (subst (λ (s : List Step). IsLessLeaf width count (slice_get bs) root free s number next l.old es xs) (ap steps_of is ∙ steps_append ps (step ∷ [])) l.at) passed here

-- the way's last step
pub record LastPassed (width count : ℕ) (path ps : List PathStep) (step : PathStep) : Type 0 where
  pub is : path ≡ ps ++ step ∷ []
  pub passed : ArePassed width count ps
  pub here : IsPassed width count step
  pub shorter : length ps + 1 ≡ length path

pub last_passed : (width count : ℕ) (path ps : List PathStep) (i : ℕ) (step : PathStep) → ArePassed width count path → i + 1 ≡ length path → step ≡ get_or path i step → ps ≡ take i path ++ drop (i + 1) path → LastPassed width count path ps step
last_passed width count path ps i step passed size at rest =
    let is = last_off path ps i step size at rest in
    let both = subst (ArePassed width count) is passed in
    record { is = is; passed = passed_first width count ps (step ∷ []) both; here = (passed_second width count ps (step ∷ []) both).0; shorter = omega (arith, ap (λ (l : List PathStep). length l) is, length-append ps (step ∷ [])) }

pub short_holds : (count more : ℕ) (h : ShortLeaf) (path : List PathStep) (step : PathStep) → more ≡ count → LessHolds count h.width path h.number h.free h.leaf.entries.items → LastPassed h.width count path h.path.items step → ShortLeafHolds more h
short_holds count more h path step same holds last =
    subst (λ n. ShortLeafHolds n h) (sym same) (record { wide_is = holds.wide_is; near = holds.near; free_low = holds.free_low; wide = holds.wide; room = holds.room; passed = last.passed })

pub not_full : {T : Type 0} (r : Result T BlockFault) → OnErr r (IsErrOf r Memory) → NotFull r
not_full (Ok x) is = tt
not_full (Err Disk) is = tt
not_full (Err Memory) is = tt
not_full (Err (Full f)) is = absurd (cc is)
not_full (Err (Damaged f b)) is = tt
not_full (Err Say) is = tt

module _ {B : Type 0} {g : Ghosts B} where
  -- what holds of the list without the entry, where the content is told
  abbrev pub IfLess : Overlay B g → (file width root free : ℕ) → List PathStep → (number next : ℕ) → List (List ℕ) → (List (List ℕ) → Type 0) → Type 0
  IfLess o file width root free path number next es P = IsTrue (under o).told → (xs : List (List ℕ)) → IsLess width (length (overlay_content o file)) (overlay_content o file) root free path number next es xs → P xs

  -- a block of the file, where no tree stands around the leaf
  abbrev pub NoLess : Overlay B g → (file width root free : ℕ) → List PathStep → (number next : ℕ) → List (List ℕ) → ℕ → ℕ → Type 0
  NoLess o file width root free path number next es f b = (f ≡ file) × (b < seen_counts o file) × IfLess o file width root free path number next es (λ xs. ⊥)

  -- writes after reads
  pub writes_by : {T U : Type 0} {x : T} (n m : ℕ) (r : Result U BlockFault) (a b d : Overlay B g) → NotFull r → ReadsOverlay n (Ok x) a b → d.below ≡ b.below → length (overlay_changes d) ≤ length (overlay_changes b) + m → WritesOverlay n m r a d
  writes_by {U = U} n m r a b d full reads below more = record {
    looks = subst (λ z. Looks n r (under a) (g.held z)) (sym below) (looks_as r full reads.looks);
    more = omega (arith, more, ap (λ l. length l) reads.written_still);
    same = subst (λ z. g.same_blocks a.below z) (sym below) reads.same;
  }

-- an empty root is cleared, and a leaf under another block that has too few entries is joined or shared; else it is written
pub less_stays : (width : ℕ) (bs : List (List ℕ)) (root free : ℕ) (path : List PathStep) (number next : ℕ) (es xs : List (List ℕ)) → IsLess width (length bs) bs root free path number next es xs → LessHolds (length bs) width path number free es → length bs ≤ 1048576 → 0 < length path + length es
    → (length path ≡ 0) ⊎ (leaf_half width ≤ length es) → tree_in width (put_block number (leaf_bytes next es) bs) ≡ Some xs
less_stays width bs root free path number next es xs l holds room some (inl none) =
    less_written width bs root free path number next es xs l holds room (omega (arith, some, none)) (inl (less_root width (length bs) bs root free path number next es xs l none))
less_stays width bs root free path number next es xs l holds room some (inr half) =
    let nine : 9 ≤ 1017 / width = (nat.le-div_iff_mul-le {k = width} {x = 9} {y = 1017} (omega (arith, holds.wide_is.low))).1 (omega (arith, holds.wide_is.most)) in
    less_written width bs root free path number next es xs l holds room (omega (arith, half, nine)) (inr half)

-- an entry fewer
pub less_one : (c : List ℕ) (es : List (List ℕ)) → at_is c (slice_get es (lead c es)) ≡ true → suc (length (without_place c es)) ≡ length es
less_one c es is = sym (one_off es (lead c es) (there_low c es (lead c es) is))
  where
    one_off : (es : List (List ℕ)) (k : ℕ) → k < length es → length es ≡ suc (length (take k es ++ drop (suc k) es))
    one_off [] k low = absurd (omega (arith, low))
    one_off (e ∷ es) zero low = refl
    one_off (e ∷ es) (suc k) low = ap suc (one_off es k (omega (arith, low)))

pub less_items : (c : List ℕ) (es new : List (List ℕ)) (i : ℕ) → i ≡ lead c es → new ≡ take i es ++ drop (i + 1) es → new ≡ without_place c es
less_items c es new i place is = is ∙ (λ j. take (place j) es ++ drop ((let e : i + 1 ≡ suc (lead c es) = omega (arith, place) in e) j) es)

-- the tree that a way led through, without the entry
pub at_less : (c : List ℕ) (bs : List (List ℕ)) (root free : ℕ) (t : Trail) (xs new : List (List ℕ)) → TreeAt c bs root free t xs → AreInByteOrder xs → at_is c (slice_get t.leaf.entries.items (lead c t.leaf.entries.items)) ≡ true → new ≡ without_place c t.leaf.entries.items
    → IsLess (length c) (length bs) bs root free t.path.items t.number t.leaf.next new (without c xs)
at_less c bs root free t xs new a sorted on is =
    let w = length c in
    let p : TreeSpot = record { number = t.number; leaf = t.leaf; fence = a.at.fence } in
    let spot : IsTreeSpot Through c a.us a.ls p = record { spot = a.at.spot; next = a.at.next; between = a.at.between } in
    let one = less_leaf c (length bs) (slice_get bs) root a.us a.ls a.fs p (steps_of t.path.items) a.tree a.some spot a.at.way on (subst AreInByteOrder (sym a.entries) sorted) in
    record {
      old = t.leaf.entries.items;
      at = subst (λ (z : ℕ × (List (List ℕ) × List (List ℕ))). IsLessLeaf w (length bs) (slice_get bs) root z.0 (steps_of t.path.items) t.number t.leaf.next t.leaf.entries.items z.1.0 (without c z.1.1)) (λ i. (sym a.free_is i, (sym is i, a.entries i))) one;
      sorted = rises_without c xs sorted;
      head = a.tree.head ∙ (λ i. Some (root, sym a.free_is i));
    }

pub at_holds : (c : List ℕ) (count free : ℕ) (t : Trail) (new : List (List ℕ)) → IsListWidth (length c) → IsLeaf (length c) t.leaf.next t.leaf.entries.items → t.number < count → free < 2 ^ 32 → ArePassed (length c) count t.path.items → length t.path.items ≤ 9 → at_is c (slice_get t.leaf.entries.items (lead c t.leaf.entries.items)) ≡ true
    → new ≡ without_place c t.leaf.entries.items → LessHolds count (length c) t.path.items t.number free new
at_holds c count free t new wide leaf near low passed short on is =
    let es = t.leaf.entries.items in
    let w = length c in
    record {
      wide_is = wide;
      near = near;
      free_low = low;
      wide = subst (AllWide w) (sym is) (wide_both w (take (lead c es) es) (drop (suc (lead c es)) es) (wide_take w (lead c es) es leaf.wide) (wide_drop w (suc (lead c es)) es leaf.wide));
      room = subst (λ l. length l * w ≤ 1017) (sym is) (let e : length (without_place c es) * w ≤ 1017 = omega (arith, leaf.holds.room, more_times (length (without_place c es)) (length es) w (omega (arith, less_one c es on))) in e);
      passed = passed;
      low = short;
    }
