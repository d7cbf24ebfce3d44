-- The way down a tree, one level further, and what no tree can have.
use Rattle.std.proofs.Common.{◌≡◌, ℕ, ◌+◌, ◌<◌, ◌≤◌, List, [], ◌∷◌, ◌++◌, Bool, true, false, Some, None, refl, sym, ap, subst, ◌∙◌, length, length-append, append_assoc, append-nil, arith}
use Rattle.std.specs.Prelude.{◌&&◌, is_some}
use Rattle.std.specs.declared.option.Option.{Option}
use Rattle.std.proofs.lemmas.Bool.{and_parts, true≢false}
use Rattle.dms_chain.specs.Linked.{BlockChain, front, numbers, said_by, times}
use Rattle.dms_chain.specs.LinkedLaws.{numbers_length, times_append}
use Rattle.dms_chain.specs.ListBlocks.{leaf_in}
use Rattle.dms_chain.specs.ListIn.{Leaf}
use Rattle.dms_shapes.specs.Levels.{HasLevel, full_level, is_inner_level}
use Rattle.dms_shapes.specs.Marks.{Marked}
use Rattle.dms_shapes.specs.Trees.{AreHalf, HasBottom, IsGrown, NoTree, grown_numbers}
use Rattle.dms_shapes.specs.Walks.{AreFresh}
use Rattle.dms_shapes.proofs.LevelSteps.{full_finds, full_is}
use Rattle.dms_shapes.proofs.Marking.{fresh_rest, marked_both, marked_none}
use Rattle.dms_tree.specs.Descent.{fences_rise}
use Rattle.dms_tree.specs.Levels.{Hangs, Inner, fences, inner_numbers, kids_of, lace, seps_of, top_numbers}
use Rattle.dms_tree.specs.Looks.{some_top}
use Rattle.dms_tree.specs.TreeBlocks.{inner_in}
use Rattle.dms_tree.specs.TreeIn.{SayLevel, SayLevels, all_half, half_level, half_leaves, says}
use Rattle.dms_tree.specs.TreeSpells.{inner_no_leaf}

-- ---- levels behind levels

levels_append : (a b : List (List Inner)) → inner_numbers (a ++ b) ≡ inner_numbers a ++ inner_numbers b
levels_append [] b = refl
levels_append (u ∷ a) b = ap (λ (l : List ℕ). numbers u ++ l) (levels_append a b) ∙ sym (append_assoc (numbers u) (inner_numbers a) (inner_numbers b))

hangs_both : (top ns : List ℕ) (a : List (List Inner)) (u : List Inner) → Hangs top a ns → numbers u ≡ ns → Hangs top (a ++ u ∷ []) (kids_of u)
hangs_both top ns [] u hangs at = (at ∙ sym hangs, refl)
hangs_both top ns (v ∷ a) u hangs at = (hangs.0, hangs_both (kids_of v) ns a u hangs.1 at)

fences_both : (outer : List (List ℕ)) (a : List (List Inner)) (u : List Inner) → fences outer (a ++ u ∷ []) ≡ lace (seps_of u) (fences outer a)
fences_both outer [] u = refl
fences_both outer (v ∷ a) u = fences_both (lace (seps_of v) outer) a u

half_both : (width root : ℕ) (a : List (List Inner)) (u : List Inner) → AreHalf width root a → half_level width root u ≡ true → AreHalf width root (a ++ u ∷ [])
half_both width root [] u all here = (here, tt)
half_both width root (v ∷ a) u all here = (all.0, half_both width root a u all.1 here)

pub half_all : (width root : ℕ) (a : List (List Inner)) (ls : List Leaf) → AreHalf width root a → half_leaves width root ls ≡ true → all_half width root a ls ≡ true
half_all width root [] ls all here = here
half_all width root (v ∷ a) ls all here = λ i. all.0 i && half_all width root a ls all.1 here i

pub half_last : (width root : ℕ) (a : List (List Inner)) (ls : List Leaf) → all_half width root a ls ≡ true → half_leaves width root ls ≡ true
half_last width root [] ls all = all
half_last width root (v ∷ a) ls all = half_last width root a ls (and_parts (half_level width root v) (all_half width root a ls) all).1

half_at : (width root : ℕ) (a : List (List Inner)) (u : List Inner) (b : List (List Inner)) (ls : List Leaf) → all_half width root (a ++ u ∷ b) ls ≡ true → half_level width root u ≡ true
half_at width root [] u b ls all = (and_parts (half_level width root u) (all_half width root b ls) all).0
half_at width root (v ∷ a) u b ls all = half_at width root a u b ls (and_parts (half_level width root v) (all_half width root (a ++ u ∷ b) ls) all).1

said_both : (width : ℕ) (look : ℕ → Option (List ℕ)) (a : List (List Inner)) (u : List Inner) → SayLevels width look a → SayLevel width look u → SayLevels width look (a ++ u ∷ [])
said_both width look [] u all here = (here, tt)
said_both width look (v ∷ a) u all here = (all.0, said_both width look a u all.1 here)

said_at : (width : ℕ) (look : ℕ → Option (List ℕ)) (a : List (List Inner)) (u : List Inner) (b : List (List Inner)) → SayLevels width look (a ++ u ∷ b) → SayLevel width look u
said_at width look [] u b all = all.0
said_at width look (v ∷ a) u b all = said_at width look a u b all.1

-- ---- no block is both

no_both : (width : ℕ) (o : Option (List ℕ)) (x : ℕ × List (List ℕ)) → is_some (says (inner_in width) o) ≡ true → said_by (leaf_in width) o ≡ Some x → ⊥
no_both width None x inner leaf = true≢false (sym inner)
no_both width (Some b) x inner leaf = by (inner_in width b) refl inner
  where
    by : (o : Option (List ℕ × List (List ℕ))) → inner_in width b ≡ o → is_some o ≡ true → ⊥
    by None is some = true≢false (sym some)
    by (Some y) is some = true≢false (sym (ap is_some (sym (inner_no_leaf width b y is) ∙ leaf)))

no_leaf_level : (width : ℕ) (look : ℕ → Option (List ℕ)) (ns : List ℕ) (ls : List Leaf) → is_inner_level width look ns ≡ true → ns ≡ numbers ls → BlockChain (leaf_in width) look ls 0 → ⊥
no_leaf_level width look ns [] inner is chain = true≢false (sym (sym (ap (is_inner_level width look) is) ∙ inner))
no_leaf_level width look ns (l ∷ ls) inner is chain = no_both width (look l.0) (front ls 0, l.1) (sym (ap (is_inner_level width look) is) ∙ inner) chain.1

inner_begins : (width : ℕ) (look : ℕ → Option (List ℕ)) (v : List Inner) → SayLevel width look v → 0 < length v → is_inner_level width look (numbers v) ≡ true
inner_begins width look [] said some = absurd (omega (arith, some))
inner_begins width look (w ∷ v) said some = ap is_some said.0

-- ---- the rest of a tree

pub record Onward (us : List (List Inner)) (ls : List Leaf) (inner : List (List Inner)) (ns : List ℕ) : Type 0 where
  pub rest : List (List Inner)
  pub is : us ≡ inner ++ rest
  pub hangs : Hangs ns rest (numbers ls)

hang_times : (ns : List ℕ) (rest : List (List Inner)) (ls : List Leaf) (n : ℕ) → Hangs ns rest (numbers ls) → times n ns ≤ times n (inner_numbers rest) + times n (numbers ls)
hang_times ns [] ls n hangs = omega (arith, ap (times n) hangs)
hang_times ns (v ∷ rest) ls n hangs = omega (arith, ap (times n) hangs.0, times_append n (numbers v) (inner_numbers rest))

hang_length : (ns : List ℕ) (rest : List (List Inner)) (ls : List Leaf) → Hangs ns rest (numbers ls) → length ns ≤ length (inner_numbers rest) + length (numbers ls)
hang_length ns [] ls hangs = omega (arith, ap (λ (l : List ℕ). length l) hangs)
hang_length ns (v ∷ rest) ls hangs = omega (arith, ap (λ (l : List ℕ). length l) hangs.0, length-append (numbers v) (inner_numbers rest))

onward_times : (us : List (List Inner)) (ls : List Leaf) (inner : List (List Inner)) (ns : List ℕ) (n : ℕ) → Onward us ls inner ns → times n (inner_numbers inner) + times n ns ≤ times n (grown_numbers us ls)
onward_times us ls inner ns n o =
    omega (arith, times_append n (inner_numbers us) (numbers ls), ap (λ (l : List (List Inner)). times n (inner_numbers l)) o.is, ap (times n) (levels_append inner o.rest), times_append n (inner_numbers inner) (inner_numbers o.rest), hang_times ns o.rest ls n o.hangs)

-- so far down from the root
pub record Descended (width : ℕ) (look : ℕ → Option (List ℕ)) (root : ℕ) (old seen : List Bool) (depth met : ℕ) (ns : List ℕ) (fs : List (List ℕ)) : Type 0 where
  pub inner : List (List Inner)
  pub said : SayLevels width look inner
  pub hangs : Hangs (top_numbers root) inner ns
  pub full : AreHalf width root inner
  pub fences_are : fences [] inner ≡ fs
  pub marked : Marked old seen (inner_numbers inner)
  pub size : length (inner_numbers inner) ≡ met
  pub deep : depth ≤ met
  pub only : (us : List (List Inner)) (ls : List Leaf) → IsGrown width look root us ls → Onward us ls inner ns

abbrev level_or : Option (List Inner) → List Inner
level_or None = []
level_or (Some u) = u

-- the separators of levels that hang from a root
pub even_fences : (width : ℕ) (look : ℕ → Option (List ℕ)) (root : ℕ) (inner : List (List Inner)) (ns : List ℕ) (fs : List (List ℕ)) → (root ≡ 0 → ⊥) → Hangs (top_numbers root) inner ns → SayLevels width look inner → fences [] inner ≡ fs → length fs + 1 ≡ length ns
even_fences width look root inner ns fs some hangs said is =
    subst (λ (l : List (List ℕ)). length l + 1 ≡ length ns) is (fences_rise width look [] inner (top_numbers root) ns hangs said (ap (λ (l : List ℕ). length l) (sym (some_top root some)))).even

module _ (width : ℕ) (look : ℕ → Option (List ℕ)) (root : ℕ) (some : root ≡ 0 → ⊥) (old : List Bool) where
  pub at_root : Descended width look root old old 0 0 (root ∷ []) []
  at_root = record {
    inner = [];
    said = tt;
    hangs = some_top root some;
    full = tt;
    fences_are = refl;
    marked = marked_none old;
    size = refl;
    deep = omega arith;
    only = λ us ls g. record { rest = us; is = refl; hangs = subst (λ (l : List ℕ). Hangs l us (numbers ls)) (some_top root some) g.hangs };
  }

  module _ (seen : List Bool) (depth met : ℕ) (ns : List ℕ) (fs : List (List ℕ)) (d : Descended width look root old seen depth met ns fs) where
    pub even_down : length fs + 1 ≡ length ns
    even_down = even_fences width look root d.inner ns fs some d.hangs d.said d.fences_are

    -- the next level of a tree is the one that was read
    pub next_is : (us : List (List Inner)) (ls : List Leaf) (v : List Inner) (rest : List (List Inner)) → IsGrown width look root us ls → us ≡ d.inner ++ v ∷ rest → numbers v ≡ ns → full_level width root look ns ≡ Some v
    next_is us ls v rest g is at =
        sym (ap (full_level width root look) at)
        ∙ full_is width root look v (said_at width look d.inner v rest (subst (SayLevels width look) is g.inner)) (half_at width root d.inner v rest ls (sym (ap (λ (l : List (List Inner)). all_half width root l ls) is) ∙ g.half))

    onward_by : (level : List Inner) (kids : List ℕ) → is_inner_level width look ns ≡ true → full_level width root look ns ≡ Some level → kids_of level ≡ kids
        → (us : List (List Inner)) (ls : List Leaf) → IsGrown width look root us ls → (rest : List (List Inner)) → us ≡ d.inner ++ rest → Hangs ns rest (numbers ls) → Onward us ls (d.inner ++ level ∷ []) kids
    onward_by level kids inner found kids_are us ls g [] is hangs = absurd (no_leaf_level width look ns ls inner hangs g.chain)
    onward_by level kids inner found kids_are us ls g (v ∷ rest) is hangs =
        let same : v ≡ level = ap level_or (sym (next_is us ls v rest g is hangs.0) ∙ found) in
        record {
          rest = rest;
          is = is ∙ ap (λ (w : List Inner). d.inner ++ w ∷ rest) same ∙ sym (append_assoc d.inner (level ∷ []) rest);
          hangs = subst (λ (l : List ℕ). Hangs l rest (numbers ls)) (ap kids_of same ∙ kids_are) hangs.1;
        }

    -- one level further
    pub go_down : (seen' : List Bool) (kids : List ℕ) (bars : List (List ℕ)) → Marked seen seen' ns → is_inner_level width look ns ≡ true → HasLevel width root look ns fs kids bars → Descended width look root old seen' (depth + 1) (met + length ns) kids bars
    go_down seen' kids bars m inner h =
        let f = full_finds width root look ns h.level h.is in
        let whole : inner_numbers (d.inner ++ h.level ∷ []) ≡ inner_numbers d.inner ++ ns = levels_append d.inner (h.level ∷ []) ∙ ap (λ (l : List ℕ). inner_numbers d.inner ++ l) (append-nil (numbers h.level) ∙ f.at) in
        record {
          inner = d.inner ++ h.level ∷ [];
          said = said_both width look d.inner h.level d.said f.said;
          hangs = subst (Hangs (top_numbers root) (d.inner ++ h.level ∷ [])) h.kids_are (hangs_both (top_numbers root) ns d.inner h.level d.hangs f.at);
          full = half_both width root d.inner h.level d.full f.half;
          fences_are = fences_both [] d.inner h.level ∙ ap (lace (seps_of h.level)) d.fences_are ∙ h.fences_are;
          marked = subst (Marked old seen') (sym whole) (marked_both old seen seen' (inner_numbers d.inner) ns d.marked m);
          size = ap (λ (l : List ℕ). length l) whole ∙ length-append (inner_numbers d.inner) ns ∙ ap (λ k. k + length ns) d.size;
          deep = omega (arith, d.deep, even_down);
          only = λ us ls g. let o = d.only us ls g in onward_by h.level kids inner h.is h.kids_are us ls g o.rest o.is o.hangs;
        }

    only_by : is_inner_level width look ns ≡ false → (us : List (List Inner)) (ls : List Leaf) → IsGrown width look root us ls → (rest : List (List Inner)) → us ≡ d.inner ++ rest → Hangs ns rest (numbers ls) → (us ≡ d.inner) × (numbers ls ≡ ns)
    only_by off us ls g [] is hangs = (is ∙ append-nil d.inner, sym hangs)
    only_by off us ls g (v ∷ rest) is hangs =
        let there : 0 < length v = omega (arith, ap (λ (l : List ℕ). length l) hangs.0, numbers_length v, even_down) in
        let on = inner_begins width look v (said_at width look d.inner v rest (subst (SayLevels width look) is g.inner)) there in
        absurd (true≢false (sym on ∙ ap (is_inner_level width look) hangs.0 ∙ off))

    -- no inner level is there
    pub at_bottom : (seen' : List Bool) → Marked seen seen' ns → is_inner_level width look ns ≡ false → HasBottom width look root old seen' (met + length ns) ns fs
    at_bottom seen' m off = record {
      inner = d.inner;
      said = d.said;
      hangs = d.hangs;
      full = d.full;
      fences_are = d.fences_are;
      marked = marked_both old seen seen' (inner_numbers d.inner) ns d.marked m;
      size = length-append (inner_numbers d.inner) ns ∙ ap (λ k. k + length ns) d.size;
      only = λ us ls g. let o = d.only us ls g in only_by off us ls g o.rest o.is o.hangs;
    }

    -- ---- no tree has this

    -- a block was met before
    pub met_before : (AreFresh seen ns → ⊥) → NoTree width look root old
    met_before off us ls g fresh few =
        let o = d.only us ls g in
        off (fresh_rest old seen (inner_numbers d.inner) ns d.marked (λ n. omega (arith, times_append n (inner_numbers d.inner) ns, onward_times us ls d.inner ns n o, fresh n)))

    none_by : (room : ℕ) → is_inner_level width look ns ≡ true → room + (met + length ns) ≡ length old → ((u : List Inner) → full_level width root look ns ≡ Some u → length (kids_of u) ≤ room → ⊥)
        → (us : List (List Inner)) (ls : List Leaf) → IsGrown width look root us ls → length (grown_numbers us ls) ≤ length old → (rest : List (List Inner)) → us ≡ d.inner ++ rest → Hangs ns rest (numbers ls) → ⊥
    none_by room inner fits none us ls g few [] is hangs = no_leaf_level width look ns ls inner hangs g.chain
    none_by room inner fits none us ls g few (v ∷ rest) is hangs =
        none v (next_is us ls v rest g is hangs.0)
        (omega (
          arith,
          few,
          fits,
          d.size,
          length-append (inner_numbers us) (numbers ls),
          ap (λ (l : List (List Inner)). length (inner_numbers l)) is,
          ap (λ (l : List ℕ). length l) (levels_append d.inner (v ∷ rest)),
          length-append (inner_numbers d.inner) (inner_numbers (v ∷ rest)),
          length-append (numbers v) (inner_numbers rest),
          ap (λ (l : List ℕ). length l) hangs.0,
          hang_length (kids_of v) rest ls hangs.1,
        ))

    -- the level under it isn't whole
    pub no_under : (room : ℕ) → is_inner_level width look ns ≡ true → room + (met + length ns) ≡ length old → ((u : List Inner) → full_level width root look ns ≡ Some u → length (kids_of u) ≤ room → ⊥) → NoTree width look root old
    no_under room inner fits none us ls g fresh few = let o = d.only us ls g in none_by room inner fits none us ls g few o.rest o.is o.hangs

    -- it has more levels than blocks
    pub too_deep : length old ≤ depth → met + length ns ≤ length old → NoTree width look root old
    too_deep past fits us ls g fresh few = absurd (omega (arith, past, fits, d.deep, even_down))
