-- An entry comes into the leaf that a way led to, and the leaf has no room: what the cut begins with.
use Rattle.std.proofs.Common.{◌≡◌, ℕ, zero, suc, ◌+◌, ◌*◌, ◌/◌, ◌≤◌, ◌<◌, List, [], ◌∷◌, ◌++◌, Bool, true, false, cond, Some, refl, sym, ap, subst, ◌∙◌, length, take, drop, slice_get, length-append, arith}
use Rattle.std.specs.declared.option.Option.{Option}
use Rattle.std.proofs.lemmas.List.{take-append-drop}
use Rattle.dms_chain.specs.Leads.{at_is, is_rises, lead, rises_with, rising_is, with_at}
use Rattle.dms_chain.specs.Linked.{front, numbers}
use Rattle.dms_chain.specs.LinkedLaws.{numbers_length}
use Rattle.dms_chain.specs.ListIn.{Leaf, Spare, entries_of}
use Rattle.dms_chain.specs.Lists.{AreInByteOrder, with_entry}
use Rattle.dms_chain.specs.Parts.{at_same, wide_both, wide_drop, wide_take}
use Rattle.dms_chain.specs.Seen.{IsListWidth}
use Rattle.dms_chain.specs.SpellLaws.{AllWide}
use Rattle.dms_tree.specs.declared.tracing.Trail.{Trail}
use Rattle.dms_tree.specs.Descent.{chain_wide, fences_rise, leaves_second}
use Rattle.dms_tree.specs.Finishing.{IsLeafUp, over_half}
use Rattle.dms_tree.specs.Inserts.{between_comes, none_zero, with_place}
use Rattle.dms_tree.specs.LeafCuts.{AreTaken, took_all}
use Rattle.dms_tree.specs.Levels.{Inner, fences, top_numbers}
use Rattle.dms_tree.specs.Looks.{entries_append}
use Rattle.dms_tree.specs.OpenMoves.{top_is}
use Rattle.dms_tree.specs.OpenRoots.{opens_tree}
use Rattle.dms_tree.specs.Order.{stands_with}
use Rattle.dms_tree.specs.TreeBlocks.{leaf_half}
use Rattle.dms_tree.specs.TreeIn.{IsTree}
use Rattle.dms_tree.specs.Trails.{IsTrail}

pub one_longer : (c : List ℕ) (es : List (List ℕ)) → length (with_place c es) ≡ length es + 1
one_longer c es = omega (arith, length-append (take (lead c es) es) (c ∷ drop (lead c es) es), length-append (take (lead c es) es) (drop (lead c es) es), ap (λ (l : List (List ℕ)). length l) (take-append-drop (lead c es) es))

pub trail_up : (c : List ℕ) (bs : List (List ℕ)) (root : ℕ) (us : List (List Inner)) (ls : List Leaf) (fs : List Spare) (t : Trail) (free : ℕ) (fresh : List ℕ) (next end : ℕ) → IsListWidth (length c) → IsTree (length c) (length bs) (slice_get bs) root us ls fs → (root ≡ 0 → ⊥) → IsTrail c us ls root t → free ≡ front fs 0
    → at_is c (slice_get t.leaf.entries.items (lead c t.leaf.entries.items)) ≡ false → 1017 < length (with_place c t.leaf.entries.items) * length c → AreTaken (slice_get bs) (length bs) free fresh next end
    → IsLeafUp (length c) end next bs root t.path.items t.number t.leaf.next (with_place c t.leaf.entries.items) fresh (with_entry c (entries_of ls))
trail_up c bs root us ls fs t free fresh next end width tree some at head off many taken =
    let w = length c in
    let es = t.leaf.entries.items in
    let look = slice_get bs in
    let ahead = at.spot.ahead in
    let rest = at.spot.rest in
    let here = subst (λ (l : List Leaf). IsTree w (length bs) look root us l fs) at.spot.is tree in
    let zero = none_zero w (length bs) look root us (ahead ++ (t.number, es) ∷ rest) fs here in
    let o = opens_tree w (length bs) look root us (ahead ++ (t.number, es) ∷ rest) fs here zero in
    let size : length (fences [] us) + 1 ≡ length (ahead ++ (t.number, es) ∷ rest) =
    (fences_rise w look [] us (top_numbers root) (numbers (ahead ++ (t.number, es) ∷ rest)) here.hangs here.inner (ap (λ (l : List ℕ). length l) (sym (top_is root some)))).even ∙ numbers_length (ahead ++ (t.number, es) ∷ rest) in
    let wide = (leaves_second w ahead ((t.number, es) ∷ rest) (chain_wide w look (ahead ++ (t.number, es) ∷ rest) 0 here.chain)).0 in
    let took = took_all w look root us (ahead ++ (t.number, es) ∷ rest) [] fresh [] (length bs) (front fs 0) next end fs o (subst (λ n. AreTaken look (length bs) n fresh next end) head taken) in
    let most = over_half w (length (with_place c es)) (omega (arith, width.low)) many in
    record {
      us = us;
      ahead = ahead;
      rest = rest;
      old = es;
      spares = took.spares;
      opened = took.opened;
      some = some;
      way = at.way;
      next_is = at.next;
      rises = between_comes c us ahead rest t.number es at.fence at.between here.rises size wide off;
      full = omega (arith, most, one_longer c es);
      entries = entries_append ahead ((t.number, with_place c es) ∷ rest) ∙ sym (stands_with c (entries_of ahead) es (entries_of rest) at.spot.stands (at.spot.other refl) off) ∙ ap (with_entry c) (sym (ap entries_of at.spot.is ∙ entries_append ahead ((t.number, es) ∷ rest)));
    }

pub new_items : (c e : List ℕ) (es new : List (List ℕ)) (i : ℕ) → i ≡ lead c es → e ≡ c → new ≡ take i es ++ e ∷ drop i es → new ≡ with_place c es
new_items c e es new i place same is = is ∙ (λ j. take (place j) es ++ same j ∷ drop (place j) es)

pub wide_new : (c : List ℕ) (es : List (List ℕ)) → AllWide (length c) es → AllWide (length c) (with_place c es)
wide_new c es wide = wide_both (length c) (take (lead c es) es) (c ∷ drop (lead c es) es) (wide_take (length c) (lead c es) es wide) (refl, wide_drop (length c) (lead c es) es wide)

pub rising_new : (c : List ℕ) (es : List (List ℕ)) → AreInByteOrder es → at_is c (slice_get es (lead c es)) ≡ false → AreInByteOrder (with_place c es)
rising_new c es rises off = subst AreInByteOrder (with_at c es ∙ ap (λ t. cond t es (with_place c es)) off) (rises_with c es rises)

one_times : (n k : ℕ) → (n + 1) * k ≡ n * k + k
one_times n k = grind arith

pub almost_new : (c : List ℕ) (es : List (List ℕ)) → length es * length c ≤ 1017 → length (with_place c es) * length c ≤ 1017 + length c
almost_new c es room = omega (arith, ap (λ n. n * length c) (one_longer c es), one_times (length es) (length c), room)
