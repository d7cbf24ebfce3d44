-- What one step of an insert's way up leaves, and many.
use Rattle.std.proofs.Common.{◌≡◌, ◌≢◌, ℕ, zero, suc, ◌+◌, ◌*◌, ◌/◌, ◌-◌, ◌≤◌, ◌<◌, ◌⊎◌, inl, inr, max, IsTrue, List, [], ◌∷◌, ◌++◌, Bool, true, false, cond, Some, refl, sym, ap, subst, ◌∙◌, length, take, drop, slice_get, get_or, length-append, append_assoc, arith}
use Rattle.std.specs.Prelude.{if◌then◌else◌}
use Rattle.std.proofs.lemmas.Bool.Decides.{nat_tests}
use Rattle.std.proofs.lemmas.List.{take-append-drop, length-take-le}
use Rattle.std.specs.declared.option.Option.{Option}
use Rattle.dms_block.specs.declared.blocks.Blocks.{Ghosts}
use Rattle.dms_block.specs.declared.overlay.Overlay.{Overlay}
use Rattle.dms_block.specs.Content.{Content, put_block, raise_count, with_block}
use Rattle.dms_block.specs.ContentLaws.{in_file, in_others, laid_length}
use Rattle.dms_block.specs.View.{overlay_content, seen_counts, under}
use Rattle.dms_chain.specs.Laid.{laid_look}
use Rattle.dms_chain.specs.Linked.{put, times}
use Rattle.dms_chain.specs.LinkedLaws.{times_own}
use Rattle.dms_chain.specs.Parts.{wide_both, wide_drop, wide_first, wide_second, wide_take}
use Rattle.dms_chain.specs.SpellLaws.{AllWide}
use Rattle.dms_tree.specs.declared.raising.Hole.{Hole}
use Rattle.dms_tree.specs.declared.raising.PathStep.{PathStep}
use Rattle.dms_chain.specs.Seen.{IsListWidth}
use Rattle.dms_tree.specs.LeafCuts.{hole_as, hole_loose}
use Rattle.dms_tree.specs.Paths.{IsPath, LastStep, Step, part_kids, path_last}
use Rattle.dms_tree.specs.Settles.{IsHole, path_cut, root_cut}
use Rattle.dms_tree.specs.TreeBlocks.{inner_bytes, inner_half, inner_in}
use Rattle.dms_tree.specs.TreeSpells.{AreNumbers, IsInner, inner_again}
use Rattle.dms_tree.specs.Ups.{AreHalves, ArePassed, Follow, HaveRoom, HoleHolds, InnerHalves, IsPassed, IsRaised, IsUp, RaisedPath, RaisedRoot, end_after, end_more, fits, hole_end, hole_kids, inner_halves, kids_first, needs, needs_from, needs_last, passed_first, passed_more, passed_second, step_of, steps_append, steps_of, writes_up}

module _ {B : Type 0} {g : Ghosts B} where
  -- blocks were written, and another block isn't yet
  pub record Settles (a b : Overlay B g) (file : ℕ) (h h' : Hole) : Type 0 where
    pub up : IsTrue (under a).told → (under a).sound → length (overlay_content a file) ≡ seen_counts a file → (length (overlay_content b file) ≡ seen_counts b file)
        × ((free : ℕ) (xs : List (List ℕ)) → IsUp (hole_end (seen_counts a file) h) free (overlay_content a file) h xs → IsUp (hole_end (seen_counts a file) h) free (overlay_content b file) h' xs)
    pub others : IsTrue (under a).told → (under a).sound → (f : ℕ) → f ≢ file → overlay_content b f ≡ overlay_content a f
    pub counts : (f : ℕ) → f ≢ file → seen_counts b f ≡ seen_counts a f
    pub kept : seen_counts a file ≤ seen_counts b file
    pub end : hole_end (seen_counts b file) h' ≡ hole_end (seen_counts a file) h
    pub holds : HoleHolds (seen_counts b file) h'

  pub settles_none : (a : Overlay B g) (file : ℕ) (h : Hole) → HoleHolds (seen_counts a file) h → Settles a a file h h
  settles_none a file h holds = record {
    up = λ told sound long. (long, λ free xs up. up);
    others = λ told sound f off. refl;
    counts = λ f off. refl;
    kept = omega arith;
    end = refl;
    holds = holds;
  }

  pub settles_on : (a b c : Overlay B g) (file : ℕ) (h h' h'' : Hole) → b.below ≡ a.below → Settles a b file h h' → Settles b c file h' h'' → Settles a c file h h''
  settles_on a b c file h h' h'' below p q = record {
    up = λ told sound long.
        let one = p.up told sound long in
        let two = q.up (subst (λ x. IsTrue (g.held x).told) (sym below) told) (subst (λ x. (g.held x).sound) (sym below) sound) one.0 in
        (two.0, λ free xs up. subst (λ n. IsUp n free (overlay_content c file) h'' xs) p.end (two.1 free xs (subst (λ n. IsUp n free (overlay_content b file) h' xs) (sym p.end) (one.1 free xs up))));
    others = λ told sound f off. q.others (subst (λ x. IsTrue (g.held x).told) (sym below) told) (subst (λ x. (g.held x).sound) (sym below) sound) f off ∙ p.others told sound f off;
    counts = λ f off. q.counts f off ∙ p.counts f off;
    kept = omega (arith, p.kept, q.kept);
    end = q.end ∙ p.end;
    holds = q.holds;
  }

-- what remains to be taken
needs_less : (width : ℕ) (h : Hole) (fresh : List ℕ) (step : PathStep) (n : ℕ) → length fresh + 1 ≡ needs width (h.path.items ++ step ∷ []) → n ≡ length step.inner.seps.items + 1 → length fresh ≡ (if fits width n then 0 else needs width h.path.items)
needs_less width h fresh step n all is = by_case (fits width (length step.inner.seps.items + 1)) (needs width h.path.items) (all ∙ needs_last width 2 h.path.items step) ∙ ap (λ k. if fits width k then 0 else needs width h.path.items) (sym is)
  where
    by_case : (t : Bool) (m : ℕ) → length fresh + 1 ≡ (if t then 1 else m + 1) → length fresh ≡ (if t then 0 else m)
    by_case true m e = omega (arith, e)
    by_case false m e = omega (arith, e)

needs_all : (t : Bool) (n m : ℕ) → t ≡ false → n ≡ (if t then 0 else m) → n ≡ m
needs_all true n m off e = absurd (cc off)
needs_all false n m off e = e

over_fits : (width n : ℕ) → 1017 < n * (width + 4) → fits width n ≡ false
over_fits width n h = grind (arith, nat_tests, h)

low_fits : (width n : ℕ) → n * (width + 4) ≤ 1017 → fits width n ≡ true
low_fits width n h = grind (arith, nat_tests, h)

if_true : (t : Bool) (n m : ℕ) → t ≡ true → (if t then n else m) ≡ n
if_true true n m on = refl
if_true false n m on = absurd (cc on)

one_more_room : (n k : ℕ) → n * k ≤ 1017 → (n + 1) * k ≤ 1017 + k
one_more_room n k room = grind (arith, room)

-- of the block that isn't written next
module _ (count w : ℕ) (w_is : IsListWidth w) (root number : ℕ) (path : List PathStep) (start : ℕ) (h' : Hole) (f : ℕ) (fresh : List ℕ) (sep : List ℕ) (more : count ≤ start) (follows : (f ≤ start) × Follow (max start (f + 1)) fresh) (passed : ArePassed w count path) (left : length fresh + 1 ≡ needs w path)
    (width_is : h'.width ≡ w) (wide : length sep ≡ w) where
  abbrev next : ℕ
  next = max start (f + 1)

  path_passed : (r : RaisedPath root fresh path f sep h') → ArePassed w count (h'.path.items ++ r.step ∷ [])
  path_passed r = subst (ArePassed w count) r.path_is passed

  path_holds : RaisedPath root fresh path f sep h' → (HoleHolds next h') × (hole_end next h' ≡ end_after next fresh)
  path_holds r =
      let step = r.step in
      let all = path_passed r in
      let one = (passed_second w count h'.path.items (step ∷ []) all).0 in
      let kids = step.inner.kids.items in
      let seps = step.inner.seps.items in
      let low : h'.number < start = omega (arith, r.number_is, one.low, more) in
      let most : max next (h'.number + 1) ≡ next = omega (arith, low) in
      let seps_size : length h'.inner.seps.items ≡ length seps + 1 =
      omega (arith, ap (λ (l : List (List ℕ)). length l) r.seps_is, length-append (take step.taken seps) (sep ∷ drop step.taken seps), length-append (take step.taken seps) (drop step.taken seps), ap (λ (l : List (List ℕ)). length l) (take-append-drop step.taken seps)) in
      let kids_size : length h'.inner.kids.items ≡ length kids + 1 =
      omega (arith, ap (λ (l : List ℕ). length l) r.kids_is, length-append (take (step.taken + 1) kids) (f ∷ drop (step.taken + 1) kids), length-append (take (step.taken + 1) kids) (drop (step.taken + 1) kids), ap (λ (l : List ℕ). length l) (take-append-drop (step.taken + 1) kids)) in (
        record {
          wide_is = subst IsListWidth (sym width_is) w_is;
          near = omega (arith, low);
          follows = subst (λ n. Follow n h'.fresh.items) (sym most) (subst (Follow next) (sym r.fresh_is) follows.1);
          more = omega (arith, kids_size, seps_size, one.inner.more);
          some = omega (arith, seps_size);
          wide = subst (λ v. AllWide v h'.inner.seps.items) (sym width_is) (subst (AllWide w) (sym r.seps_is) (wide_both w (take step.taken seps) (sep ∷ drop step.taken seps) (wide_take w step.taken seps one.inner.wide) (wide, wide_drop w step.taken seps one.inner.wide)));
          almost = subst (λ v. length h'.inner.seps.items * (v + 4) ≤ 1017 + (v + 4)) (sym width_is) (subst (λ n. n * (w + 4) ≤ 1017 + (w + 4)) (sym seps_size) (one_more_room (length seps) (w + 4) one.inner.room));
          passed = subst (λ v. ArePassed v next h'.path.items) (sym width_is) (passed_more w count next h'.path.items (omega (arith, more)) (passed_first w count h'.path.items (step ∷ []) all));
          needs_is = subst (λ v. length h'.fresh.items ≡ (if fits v (length h'.inner.seps.items) then 0 else needs v h'.path.items)) (sym width_is)
              (ap (λ (l : List ℕ). length l) r.fresh_is ∙ needs_less w h' fresh step (length h'.inner.seps.items) (left ∙ ap (needs w) r.path_is) seps_size);
        },
        (λ i. end_after (most i) (r.fresh_is i)),
      )

  root_holds : RaisedRoot fresh path number f sep h' → (HoleHolds next h') × (hole_end next h' ≡ end_after next fresh)
  root_holds r =
      let two = subst (Follow next) r.fresh_is follows.1 in
      let one_left : length h'.fresh.items ≡ 0 = omega (arith, left, ap (λ (l : List ℕ). length l) r.fresh_is, ap (needs w) r.path_is) in
      let seps_size : length h'.inner.seps.items ≡ 1 = ap (λ (l : List (List ℕ)). length l) r.seps_is in
      let same : max next (h'.number + 1) ≡ max next (h'.root + 1) = ap (λ n. max next (n + 1)) r.number_is in
      let few : 1 * (w + 4) ≤ 1017 = omega (arith, w_is.most) in (
        record {
          wide_is = subst IsListWidth (sym width_is) w_is;
          near = omega (arith, r.number_is, two.0);
          follows = subst (λ n. Follow n h'.fresh.items) (sym same) two.1;
          more = omega (arith, ap (λ (l : List ℕ). length l) r.kids_is, seps_size);
          some = omega (arith, seps_size);
          wide = subst (λ v. AllWide v h'.inner.seps.items) (sym width_is) (subst (AllWide w) (sym r.seps_is) (wide, tt));
          almost = subst (λ v. length h'.inner.seps.items * (v + 4) ≤ 1017 + (v + 4)) (sym width_is) (omega (arith, ap (λ n. n * (w + 4)) seps_size, few));
          passed = subst (λ (l : List PathStep). ArePassed h'.width next l) (sym r.path_now) tt;
          needs_is = one_left ∙ sym (if_true (fits h'.width (length h'.inner.seps.items)) 0 (needs h'.width h'.path.items) ((λ i. fits (width_is i) (seps_size i)) ∙ low_fits w 1 few));
        },
        ap (λ n. end_after n h'.fresh.items) same ∙ sym (ap (end_after next) r.fresh_is),
      )

  pub raised_comes : IsRaised root fresh path number f sep h' → (HoleHolds next h') × (hole_end next h' ≡ end_after next fresh)
  raised_comes (inl r) = path_holds r
  raised_comes (inr r) = root_holds r

module _ (count : ℕ) (h h' : Hole) (f : ℕ) (fresh : List ℕ) (sep : List ℕ) (holds : HoleHolds count h) (many : 1017 < length h.inner.seps.items * (h.width + 4)) (taken : h.fresh.items ≡ f ∷ fresh) (width_is : h'.width ≡ h.width) (wide : length sep ≡ h.width) where
  abbrev start : ℕ
  start = max count (h.number + 1)

  left : length fresh + 1 ≡ needs h.width h.path.items
  left = omega (arith, ap (λ (l : List ℕ). length l) taken, needs_all (fits h.width (length h.inner.seps.items)) (length h.fresh.items) (needs h.width h.path.items) (over_fits h.width (length h.inner.seps.items) many) holds.needs_is)

  pub raised_holds : IsRaised h.root fresh h.path.items h.number f sep h' → (HoleHolds (max start (f + 1)) h') × (hole_end (max start (f + 1)) h' ≡ hole_end count h)
  raised_holds raised =
      let r = raised_comes count h.width holds.wide_is h.root h.number h.path.items start h' f fresh sep (omega arith) (subst (Follow start) taken holds.follows) holds.passed left width_is wide raised in
      (r.0, r.1 ∙ sym (ap (end_after start) taken))

-- how many blocks are written from there on
if_most : (t : Bool) (n m : ℕ) → n ≤ m → (if t then 0 else n) ≤ m
if_most true n m le = omega arith
if_most false n m le = le

pub raised_writes : (w root number : ℕ) (path : List PathStep) (h' : Hole) (f : ℕ) (fresh sep : List ℕ) → w ≤ 104 → h'.width ≡ w → IsRaised root fresh path number f sep h' → writes_up h' ≤ 2 * length path
raised_writes w root number path h' f fresh sep low width_is (inl r) =
    if_most (fits h'.width (length h'.inner.seps.items)) (2 + 2 * length h'.path.items) (2 * length path) (omega (arith, ap (λ (l : List PathStep). length l) r.path_is, length-append h'.path.items (r.step ∷ [])))
raised_writes w root number path h' f fresh sep low width_is (inr r) =
    let one : length h'.inner.seps.items ≡ 1 = ap (λ (l : List (List ℕ)). length l) r.seps_is in
    let few : 1 * (w + 4) ≤ 1017 = omega (arith, low) in
    omega (arith, if_true (fits h'.width (length h'.inner.seps.items)) 0 (2 + 2 * length h'.path.items) ((λ i. fits (width_is i) (one i)) ∙ low_fits w 1 few))

pub writes_full : (h : Hole) → 1017 < length h.inner.seps.items * (h.width + 4) → writes_up h ≡ 2 + 2 * length h.path.items
writes_full h many = ap (λ t. if t then 0 else 2 + 2 * length h.path.items) (over_fits h.width (length h.inner.seps.items) many)

-- a child and a new one behind it
pub with_kid : (kids : List ℕ) (j c f : ℕ) → j < length kids → c ≡ get_or kids j 0 → take (j + 1) kids ++ f ∷ drop (j + 1) kids ≡ take j kids ++ c ∷ f ∷ drop (suc j) kids
with_kid [] j c f low is = absurd (omega (arith, low))
with_kid (k ∷ kids) zero c f low is = ap (λ n. n ∷ f ∷ kids) (sym is)
with_kid (k ∷ kids) (suc j) c f low is = (let e : suc j + 1 ≡ suc (j + 1) = omega arith in ap (λ n. take n (k ∷ kids) ++ f ∷ drop n (k ∷ kids)) e) ∙ ap (λ (l : List ℕ). k ∷ l) (with_kid kids j c f (omega (arith, low)) is)

-- both halves are written
two_look : (bs : List (List ℕ)) (n f : ℕ) (x y : List ℕ) → n ≤ length bs → f ≤ max (length bs) (n + 1) → slice_get (put_block f y (put_block n x bs)) ≡ put (put (slice_get bs) n x) f y
two_look bs n f x y near near' = laid_look f y (put_block n x bs) (omega (arith, near', laid_length n x bs near)) ∙ ap (λ (look : ℕ → Option (List ℕ)). put look f y) (laid_look n x bs near)

module _ (bs : List (List ℕ)) (h h' : Hole) (f free : ℕ) (fresh : List ℕ) (sep : List ℕ) (low high : List ℕ) (a b : List (List ℕ)) (xs : List (List ℕ)) (holds : HoleHolds (length bs) h) (many : 1017 < length h.inner.seps.items * (h.width + 4)) (taken : h.fresh.items ≡ f ∷ fresh)
    (most : hole_end (length bs) h ≤ 2097152) (width_is : h'.width ≡ h.width) (halves : AreHalves h.inner.kids.items h.inner.seps.items low high a sep b) where
  abbrev end : ℕ
  end = hole_end (length bs) h

  abbrev look2 : ℕ → Option (List ℕ)
  look2 = put (put (slice_get bs) h.number (inner_bytes low a)) f (inner_bytes high b)

  abbrev Goal : Type 0
  Goal = IsHole h.width end look2 h'.root free (steps_of h'.path.items) h'.number h'.inner.kids.items h'.inner.seps.items (h'.number ∷ []) h'.fresh.items xs

  abbrev Cut : Type 0
  Cut = IsHole h.width end (slice_get bs) h.root free (steps_of h.path.items) h.number (low ++ high) (a ++ sep ∷ b) (h.number ∷ []) (f ∷ fresh) xs

  by_path : (r : RaisedPath h.root fresh h.path.items f sep h') → inner_in h.width (inner_bytes low a) ≡ Some (low, a) → inner_in h.width (inner_bytes high b) ≡ Some (high, b) → InnerHalves h.width low high a b → Cut → Goal
  by_path r reads reads' i cut =
      let ps = steps_of h'.path.items in
      let s = step_of r.step in
      let one = (passed_second h.width (length bs) h'.path.items (r.step ∷ []) (subst (ArePassed h.width (length bs)) r.path_is holds.passed)).0 in
      let cut' = subst (λ (l : List Step). IsHole h.width end (slice_get bs) h.root free l h.number (low ++ high) (a ++ sep ∷ b) (h.number ∷ []) (f ∷ fresh) xs) (ap steps_of r.path_is ∙ steps_append h'.path.items (r.step ∷ [])) cut in
      let last = path_last ps s cut'.over 0 h.root (length cut'.ups) h.number cut'.path in
      let new = path_cut h.width end (slice_get bs) h.root free ps s h.number f low high a sep b fresh xs (inner_bytes low a) (inner_bytes high b) cut' one.fit reads reads' i.sizes.0 i.sizes.1 in
      let kids = r.kids_is ∙ with_kid r.step.inner.kids.items r.step.taken h.number f last.step.low last.step.below_is in
      hole_as h.width end look2 free xs h.root h'.root ps ps r.step.number h'.number (take s.taken s.kids ++ h.number ∷ f ∷ drop (suc s.taken) s.kids) h'.inner.kids.items (take s.taken s.seps ++ sep ∷ drop s.taken s.seps) h'.inner.seps.items fresh h'.fresh.items
      (sym r.root_is) refl (sym r.number_is) (sym kids) (sym r.seps_is) (sym r.fresh_is) new

  by_root : (r : RaisedRoot fresh h.path.items h.number f sep h') → inner_in h.width (inner_bytes low a) ≡ Some (low, a) → inner_in h.width (inner_bytes high b) ≡ Some (high, b) → InnerHalves h.width low high a b → Cut → Goal
  by_root r reads reads' i cut =
      let n = h'.root in
      let cut' = hole_as h.width end (slice_get bs) free xs h.root h.root (steps_of h.path.items) [] h.number h.number (low ++ high) (low ++ high) (a ++ sep ∷ b) (a ++ sep ∷ b) (f ∷ fresh) (f ∷ n ∷ h'.fresh.items) refl (ap steps_of r.path_is) refl refl refl (ap (λ (l : List ℕ). f ∷ l) r.fresh_is) cut in
      let cut'' = hole_loose h.width end (slice_get bs) h.root free [] h.number (low ++ high) (a ++ sep ∷ b) (h.number ∷ []) f n h'.fresh.items xs cut' in
      let new = root_cut h.width end (slice_get bs) h.root n free h.number f low high a sep b h'.fresh.items xs (inner_bytes low a) (inner_bytes high b) cut'' reads reads' i.sizes.0 i.sizes.1 in
      hole_as h.width end look2 free xs n n [] (steps_of h'.path.items) n h'.number (h.number ∷ f ∷ []) h'.inner.kids.items (sep ∷ []) h'.inner.seps.items h'.fresh.items h'.fresh.items refl (sym (ap steps_of r.path_now)) (sym r.number_is) (sym r.kids_is) (sym r.seps_is) refl new

  by_raised : IsRaised h.root fresh h.path.items h.number f sep h' → inner_in h.width (inner_bytes low a) ≡ Some (low, a) → inner_in h.width (inner_bytes high b) ≡ Some (high, b) → InnerHalves h.width low high a b → Cut → Goal
  by_raised (inl r) = by_path r
  by_raised (inr r) = by_root r

  pub raised_up : IsRaised h.root fresh h.path.items h.number f sep h' → IsUp end free bs h xs → IsUp end free (put_block f (inner_bytes high b) (put_block h.number (inner_bytes low a) bs)) h' xs
  raised_up raised up =
      let w = h.width in
      let i = inner_halves (length bs) h low high a sep b holds many halves in
      let each = hole_kids w end (slice_get bs) h.root free (steps_of h.path.items) h.number h.inner.kids.items h.inner.seps.items (h.number ∷ []) h.fresh.items xs up in
      let kids = kids_first low high h.inner.kids.items end most halves.kids_is each in
      let reads = inner_again w low a i.low_is kids.0 in
      let reads' = inner_again w high b i.high_is kids.1 in
      let near : f ≤ max (length bs) (h.number + 1) = (subst (Follow (max (length bs) (h.number + 1))) taken holds.follows).0 in
      let look = two_look bs h.number f (inner_bytes low a) (inner_bytes high b) holds.near near in
      let cut = hole_as w end (slice_get bs) free xs h.root h.root (steps_of h.path.items) (steps_of h.path.items) h.number h.number h.inner.kids.items (low ++ high) h.inner.seps.items (a ++ sep ∷ b) h.fresh.items (f ∷ fresh) refl refl refl halves.kids_is halves.seps_is taken up in
      subst (λ (l : ℕ → Option (List ℕ)). IsHole h'.width end l h'.root free (steps_of h'.path.items) h'.number h'.inner.kids.items h'.inner.seps.items (h'.number ∷ []) h'.fresh.items xs) (sym look)
      (subst (λ v. IsHole v end look2 h'.root free (steps_of h'.path.items) h'.number h'.inner.kids.items h'.inner.seps.items (h'.number ∷ []) h'.fresh.items xs) (sym width_is) (by_raised raised reads reads' i cut))

-- a block is written: the counts
pub raised_at : (c : ℕ → ℕ) (f n : ℕ) → raise_count c f n f ≡ max (c f) (n + 1)
raised_at c f n = grind (arith, nat_tests)

pub raised_off : (c : ℕ → ℕ) (f n g : ℕ) → g ≢ f → raise_count c f n g ≡ c g
raised_off c f n g off = grind (arith, nat_tests)

pub needs_some : (width n : ℕ) (ps : List PathStep) → 0 < n → 0 < needs_from width n ps
needs_some width n [] some = some
needs_some width n (p ∷ ps) some = needs_some width (if fits width (length p.inner.seps.items + 1) then 1 else n + 1) ps (either (fits width (length p.inner.seps.items + 1)) n)
  where
    either : (t : Bool) (n : ℕ) → 0 < (if t then 1 else n + 1)
    either true n = omega arith
    either false n = omega arith

pub some_left : (count : ℕ) (h : Hole) → HoleHolds count h → 1017 < length h.inner.seps.items * (h.width + 4) → 0 < length h.fresh.items
some_left count h holds many =
    omega (arith, needs_some h.width 2 h.path.items (omega arith), needs_all (fits h.width (length h.inner.seps.items)) (length h.fresh.items) (needs h.width h.path.items) (over_fits h.width (length h.inner.seps.items) many) holds.needs_is)

pub head_off : (xs ys : List ℕ) (f : ℕ) → 0 < length xs → f ≡ get_or xs 0 f → ys ≡ drop 1 xs → xs ≡ f ∷ ys
head_off [] ys f some at rest = absurd (omega (arith, some))
head_off (x ∷ xs) ys f some at rest = λ i. sym at i ∷ sym rest i

pub next_near : (count : ℕ) (h : Hole) (f : ℕ) (fresh : List ℕ) → HoleHolds count h → h.fresh.items ≡ f ∷ fresh → (f ≤ max count (h.number + 1)) × (max (max count (h.number + 1)) (f + 1) ≤ hole_end count h)
next_near count h f fresh holds taken = (
  (subst (Follow (max count (h.number + 1))) taken holds.follows).0,
  subst (λ n. max (max count (h.number + 1)) (f + 1) ≤ n) (sym (ap (end_after (max count (h.number + 1))) taken)) (end_more (max (max count (h.number + 1)) (f + 1)) fresh),
)

module _ {B : Type 0} {g : Ghosts B} where
  pub part_settles : (a b d : Overlay B g) (file : ℕ) (h h' : Hole) (f : ℕ) (fresh : List ℕ) (sep : List ℕ) (low high : List ℕ) (as' bs' : List (List ℕ)) (x y : List ℕ) → b.below ≡ a.below → HoleHolds (seen_counts a file) h → hole_end (seen_counts a file) h ≤ 2097152
      → 1017 < length h.inner.seps.items * (h.width + 4) → h.fresh.items ≡ f ∷ fresh → h'.width ≡ h.width → AreHalves h.inner.kids.items h.inner.seps.items low high as' sep bs' → IsRaised h.root fresh h.path.items h.number f sep h' → x ≡ inner_bytes low as' → y ≡ inner_bytes high bs'
      → (IsTrue (under a).told → (under a).sound → overlay_content b ≡ with_block (overlay_content a) file h.number x) → seen_counts b ≡ raise_count (seen_counts a) file h.number
      → (IsTrue (under b).told → (under b).sound → overlay_content d ≡ with_block (overlay_content b) file f y) → seen_counts d ≡ raise_count (seen_counts b) file f
      → Settles a d file h h'
  part_settles a b d file h h' f fresh sep low high as' bs' x y below holds most many taken width_is halves raised x_is y_is seen counts seen' counts' =
      let count = seen_counts a file in
      let one : seen_counts b file ≡ max count (h.number + 1) = ap (λ (k : ℕ → ℕ). k file) counts ∙ raised_at (seen_counts a) file h.number in
      let two : seen_counts d file ≡ max (max count (h.number + 1)) (f + 1) = ap (λ (k : ℕ → ℕ). k file) counts' ∙ raised_at (seen_counts b) file f ∙ ap (λ n. max n (f + 1)) one in
      let wide = (wide_second h.width as' (sep ∷ bs') (subst (AllWide h.width) halves.seps_is holds.wide)).0 in
      let next = raised_holds count h h' f fresh sep holds many taken width_is wide raised in
      let near = next_near count h f fresh holds taken in
      let after : IsTrue (under a).told → (under a).sound → overlay_content d ≡ with_block (with_block (overlay_content a) file h.number x) file f y =
      λ told sound. seen' (subst (λ z. IsTrue (g.held z).told) (sym below) told) (subst (λ z. (g.held z).sound) (sym below) sound) ∙ ap (λ (c : Content). with_block c file f y) (seen told sound) in
      let laid : IsTrue (under a).told → (under a).sound → overlay_content d file ≡ put_block f y (put_block h.number x (overlay_content a file)) =
      λ told sound. ap (λ (c : Content). c file) (after told sound) ∙ in_file (with_block (overlay_content a) file h.number x) file f y ∙ ap (put_block f y) (in_file (overlay_content a) file h.number x) in
      record {
        up = λ told sound long.
            let bs = overlay_content a file in (
              ap (λ (l : List (List ℕ)). length l) (laid told sound)
                  ∙ (let e : length (put_block f y (put_block h.number x bs)) ≡ max (max count (h.number + 1)) (f + 1) = omega (arith, long, holds.near, near.0, laid_length f y (put_block h.number x bs) (omega (arith, long, holds.near, near.0, laid_length h.number x bs (omega (arith, long, holds.near)))), laid_length h.number x bs (omega (arith, long, holds.near))) in e)
                  ∙ sym two,
              λ free xs up.
                  subst (λ (l : List (List ℕ)). IsUp (hole_end count h) free l h' xs) (sym (laid told sound ∙ (λ i. put_block f (y_is i) (put_block h.number (x_is i) bs))))
                  (subst (λ n. HoleHolds n h → hole_end n h ≤ 2097152 → IsUp (hole_end n h) free bs h xs → IsUp (hole_end n h) free (put_block f (inner_bytes high bs') (put_block h.number (inner_bytes low as') bs)) h' xs) long
                  (λ holds' most' up'. raised_up bs h h' f free fresh sep low high as' bs' xs holds' many taken most' width_is halves raised up') holds most up),
            );
        others = λ told sound k off. ap (λ (c : Content). c k) (after told sound) ∙ in_others (with_block (overlay_content a) file h.number x) file f y k off ∙ in_others (overlay_content a) file h.number x k off;
        counts = λ k off. ap (λ (c : ℕ → ℕ). c k) counts' ∙ raised_off (seen_counts b) file f k off ∙ ap (λ (c : ℕ → ℕ). c k) counts ∙ raised_off (seen_counts a) file h.number k off;
        kept = omega (arith, two);
        end = ap (λ n. hole_end n h') two ∙ next.1;
        holds = subst (λ n. HoleHolds n h') (sym two) next.0;
      }

pub none_left : (count : ℕ) (h : Hole) → HoleHolds count h → length h.inner.seps.items * (h.width + 4) ≤ 1017 → h.fresh.items ≡ []
none_left count h holds room = no_items h.fresh.items (holds.needs_is ∙ if_true (fits h.width (length h.inner.seps.items)) 0 (needs h.width h.path.items) (low_fits h.width (length h.inner.seps.items) room))
  where
    no_items : (xs : List ℕ) → length xs ≡ 0 → xs ≡ []
    no_items [] e = refl
    no_items (x ∷ xs) e = absurd (omega (arith, e))
