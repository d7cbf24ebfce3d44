-- One step of the way up of a remove: two neighbouring inner blocks, of which one lacks a separator, become one, or are shared anew.
use Rattle.std.proofs.Common.{◌≡◌, ℕ, zero, suc, ◌+◌, ◌≤◌, ◌<◌, ◌⊎◌, inl, inr, List, [], ◌∷◌, ◌++◌, Some, None, refl, sym, ap, subst, ◌∙◌, length, take, drop, get_or, length-append, append_assoc, append-nil, arith}
use Rattle.std.specs.declared.option.Option.{Option}
use Rattle.dms_chain.specs.Linked.{front, numbers, put, said_by, times}
use Rattle.dms_chain.specs.LinkedLaws.{numbers_append, numbers_length, numbers_times, times_append, times_other, times_own}
use Rattle.dms_chain.specs.ListBlocks.{free_in, leaf_in}
use Rattle.dms_chain.specs.ListIn.{Leaf, Spare, entries_of}
use Rattle.dms_tree.specs.Joins.{IsGap, IsLastOver, LastOf, NextOf, NextUnder, TurnedBack, as_many, may_lack, next_under, one_less, turn_back, turn_to, two_under}
use Rattle.dms_tree.specs.LaceLaws.{IsUnder}
use Rattle.dms_tree.specs.Levels.{Hangs, Inner, inner_numbers, kids_of, top_numbers, weave}
use Rattle.dms_tree.specs.OpenMoves.{open_drop, open_give, top_is, under_root}
use Rattle.dms_tree.specs.OpenTree.{AreLeavesHalf, IsOpenTree, Placed, all_inner, numbers_of_all, open_cut, open_fill, open_join, tree_length, tree_times}
use Rattle.dms_tree.specs.Paths.{IsPath, IsStep, LastStep, Step, hangs_pair, path_last}
use Rattle.dms_tree.specs.Settles.{all_at, last_half, root_only}
use Rattle.dms_tree.specs.Steps.{EachOf, each_second, one_block, two_blocks}
use Rattle.dms_tree.specs.TreeBlocks.{inner_half, inner_in, leaf_half}
use Rattle.dms_tree.specs.TreeIn.{says, tree_numbers}

-- two neighbouring blocks under the last block of a path, whose step leads to the first one
pub record IsPair (width count : ℕ) (look : ℕ → Option (List ℕ)) (root free : ℕ) (ss : List Step) (s : Step) (c : ℕ) (low : List ℕ) (a : List (List ℕ)) (f : ℕ) (high : List ℕ) (b : List (List ℕ)) (holes loose : List ℕ) (xs : List (List ℕ)) : Type 0 where
  pub over : List (List Inner)
  pub ahead : List Inner
  pub rest : List Inner
  pub lower : List (List Inner)
  pub leaves : List Leaf
  pub spares : List Spare
  pub path : IsPath (ss ++ s ∷ []) over 0 root (length ahead) c
  pub opened : IsOpenTree width count look root free (over ++ (ahead ++ (c, (low, a)) ∷ (f, (high, b)) ∷ rest) ∷ lower) leaves spares holes loose
  pub entries : entries_of leaves ≡ xs
  pub some : root ≡ 0 → ⊥

content_of : Option (List ℕ × List (List ℕ)) → List ℕ × List (List ℕ)
content_of None = ([], [])
content_of (Some x) = x

said_as : (width : ℕ) (look : ℕ → Option (List ℕ)) (root : ℕ) (holes : List ℕ) (u : Inner) (y : List ℕ × List (List ℕ)) → times u.0 holes ≡ 0 → Placed width look root holes u → says (inner_in width) (look u.0) ≡ Some y → u.1 ≡ y
unfolding content_of
said_as width look root holes u y off (inl is) said = absurd (omega (arith, off, is))
said_as width look root holes u y off (inr h) said = ap content_of (sym h.0 ∙ said)

levels_last : (us : List (List Inner)) (level : List Inner) (lower : List (List Inner)) (ns leaves : List ℕ) → Hangs ns (us ++ level ∷ lower) leaves → IsLastOver us (numbers level)
levels_last us level lower ns leaves hangs over u is =
    hangs_pair over u level lower ns leaves (subst (λ l. Hangs ns l leaves) (ap (λ (l : List (List Inner)). l ++ level ∷ lower) is ∙ append_assoc over (u ∷ []) (level ∷ lower)) hangs)

-- two blocks of one level have two numbers
once_pair : (width count : ℕ) (look : ℕ → Option (List ℕ)) (root free : ℕ) (over : List (List Inner)) (ahead rest : List Inner) (c f : ℕ) (x y : List ℕ × List (List ℕ)) (lower : List (List Inner)) (ls : List Leaf) (fs : List Spare) (holes loose : List ℕ)
    → IsOpenTree width count look root free (over ++ (ahead ++ (c, x) ∷ (f, y) ∷ rest) ∷ lower) ls fs holes loose → (k : ℕ) → times k (c ∷ []) + times k (f ∷ []) ≤ 1
once_pair width count look root free over ahead rest c f x y lower ls fs holes loose o k =
    let us = over ++ (ahead ++ (c, x) ∷ (f, y) ∷ rest) ∷ lower in
    omega (arith, o.once k, tree_times k us ls fs, ap (times k) (numbers_of_all us ∙ ap numbers (all_at over ahead (c, x) ((f, y) ∷ rest) lower)), numbers_times k (all_inner over ++ ahead) ((c, x) ∷ (f, y) ∷ (rest ++ all_inner lower)))

-- the neighbour behind the block that isn't written yet
pub pair_right : (width count : ℕ) (look : ℕ → Option (List ℕ)) (root free : ℕ) (ss : List Step) (s : Step) (n : ℕ) (kids : List ℕ) (seps : List (List ℕ)) (loose : List ℕ) (xs : List (List ℕ)) (high : List ℕ) (b : List (List ℕ)) → IsGap width count look root free (ss ++ s ∷ []) n kids seps (n ∷ []) loose xs
    → suc s.taken < length s.kids → says (inner_in width) (look (get_or s.kids (suc s.taken) 0)) ≡ Some (high, b) → IsPair width count look root free ss s n kids seps (get_or s.kids (suc s.taken) 0) high b (n ∷ []) loose xs
pair_right width count look root free ss s n kids seps loose xs high b h low said =
    let f = get_or s.kids (suc s.taken) 0 in
    let p : Inner = (n, (kids, seps)) in
    let found = next_under ss s h.over root n h.ups h.downs (kids, seps) h.path (levels_last h.over (h.ups ++ p ∷ h.downs) h.lower (top_numbers root) (numbers h.leaves) h.opened.hangs) low in
    let o = subst (λ (d : List Inner). IsOpenTree width count look root free (h.over ++ (h.ups ++ p ∷ d) ∷ h.lower) h.leaves h.spares (n ∷ []) loose) found.is h.opened in
    let once = once_pair width count look root free h.over h.ups found.more n f (kids, seps) found.what h.lower h.leaves h.spares (n ∷ []) loose o f in
    let all = subst (EachOf (Placed width look root (n ∷ []))) (all_at h.over h.ups p ((f, found.what) ∷ found.more) h.lower) o.placed in
    let here = each_second (Placed width look root (n ∷ [])) (all_inner h.over ++ h.ups) (p ∷ (f, found.what) ∷ (found.more ++ all_inner h.lower)) all in
    let same = said_as width look root (n ∷ []) (f, found.what) (high, b) (omega (arith, once, times_own f)) here.1.0 said in
    record {
      over = h.over;
      ahead = h.ups;
      rest = found.more;
      lower = h.lower;
      leaves = h.leaves;
      spares = h.spares;
      path = h.path;
      opened = subst (λ (t : List ℕ × List (List ℕ)). IsOpenTree width count look root free (h.over ++ (h.ups ++ p ∷ (f, t) ∷ found.more) ∷ h.lower) h.leaves h.spares (n ∷ []) loose) same o;
      entries = h.entries;
      some = h.some;
    }

-- the neighbour before it
pub pair_left : (width count : ℕ) (look : ℕ → Option (List ℕ)) (root free : ℕ) (ss : List Step) (s : Step) (j n : ℕ) (kids : List ℕ) (seps : List (List ℕ)) (loose : List ℕ) (xs : List (List ℕ)) (low : List ℕ) (a : List (List ℕ)) → IsGap width count look root free (ss ++ s ∷ []) n kids seps (n ∷ []) loose xs
    → suc j ≡ s.taken → says (inner_in width) (look (get_or s.kids j 0)) ≡ Some (low, a) → IsPair width count look root free ss (turn_to s j) (get_or s.kids j 0) low a n kids seps (n ∷ []) loose xs
pair_left width count look root free ss s j n kids seps loose xs low a h one_more said =
    let c = get_or s.kids j 0 in
    let p : Inner = (n, (kids, seps)) in
    let turned = turn_back ss s j h.over root n h.ups h.downs (kids, seps) one_more h.path (levels_last h.over (h.ups ++ p ∷ h.downs) h.lower (top_numbers root) (numbers h.leaves) h.opened.hangs) in
    let found = turned.found in
    let level : h.ups ++ p ∷ h.downs ≡ found.before ++ (c, found.what) ∷ p ∷ h.downs = ap (λ (l : List Inner). l ++ p ∷ h.downs) found.is ∙ append_assoc found.before ((c, found.what) ∷ []) (p ∷ h.downs) in
    let o = subst (λ (l : List Inner). IsOpenTree width count look root free (h.over ++ l ∷ h.lower) h.leaves h.spares (n ∷ []) loose) level h.opened in
    let once = once_pair width count look root free h.over found.before h.downs c n found.what (kids, seps) h.lower h.leaves h.spares (n ∷ []) loose o c in
    let all = subst (EachOf (Placed width look root (n ∷ []))) (all_at h.over found.before (c, found.what) (p ∷ h.downs) h.lower) o.placed in
    let here = each_second (Placed width look root (n ∷ [])) (all_inner h.over ++ found.before) ((c, found.what) ∷ p ∷ (h.downs ++ all_inner h.lower)) all in
    let same = said_as width look root (n ∷ []) (c, found.what) (low, a) (omega (arith, once, times_own c)) here.0 said in
    record {
      over = h.over;
      ahead = found.before;
      rest = h.downs;
      lower = h.lower;
      leaves = h.leaves;
      spares = h.spares;
      path = turned.path;
      opened = subst (λ (t : List ℕ × List (List ℕ)). IsOpenTree width count look root free (h.over ++ (found.before ++ (c, t) ∷ p ∷ h.downs) ∷ h.lower) h.leaves h.spares (n ∷ []) loose) same o;
      entries = h.entries;
      some = h.some;
    }

module _ (width count : ℕ) (look : ℕ → Option (List ℕ)) (root free : ℕ) (ss : List Step) (s : Step) (c : ℕ) (low : List ℕ) (a : List (List ℕ)) (f : ℕ) (high : List ℕ) (b : List (List ℕ)) (holes loose : List ℕ) (xs : List (List ℕ)) (p : IsPair width count look root free ss s c low a f high b holes loose xs)
    (next : suc s.taken < length s.kids) (fit : s.taken < length s.seps) (only : (k : ℕ) → (k ≡ c → ⊥) → (k ≡ f → ⊥) → times k holes ≡ 0) where
  abbrev level : List Inner
  level = p.ahead ++ (c, (low, a)) ∷ (f, (high, b)) ∷ p.rest

  abbrev lefts : List ℕ
  lefts = take s.taken s.kids

  abbrev rights : List ℕ
  rights = drop (suc (suc s.taken)) s.kids

  abbrev before : List (List ℕ)
  before = take s.taken s.seps

  abbrev after : List (List ℕ)
  after = drop (suc s.taken) s.seps

  abbrev sep : List ℕ
  sep = get_or s.seps s.taken []

  last : LastStep ss s p.over 0 root (length p.ahead) c
  last = path_last ss s p.over 0 root (length p.ahead) c p.path

  pair : NextUnder s last.step.ups last.step.downs (numbers p.ahead) (numbers p.rest) c f
  pair =
      two_under s last.level last.at last.here (length p.ahead) c last.step p.ahead p.rest (low, a) (high, b) f (levels_last p.over level p.lower (top_numbers root) (numbers p.leaves) p.opened.hangs last.over last.level last.is) refl next fit

  levels : p.over ++ level ∷ p.lower ≡ last.over ++ two_blocks last.step.ups last.step.downs s.number lefts rights before after p.ahead p.rest c f low high a sep b p.lower
  levels =
      ap (λ (l : List (List Inner)). l ++ level ∷ p.lower) last.is ∙ append_assoc last.over (last.level ∷ []) (level ∷ p.lower)
      ∙ ap (λ (l : List Inner). last.over ++ l ∷ level ∷ p.lower) (last.step.is ∙ (λ i. last.step.ups ++ (s.number, (pair.kids i, pair.seps i)) ∷ last.step.downs))

  above : p.over ++ level ∷ p.lower ≡ last.over ++ (last.step.ups ++ (s.number, (s.kids, s.seps)) ∷ last.step.downs) ∷ level ∷ p.lower
  above = ap (λ (l : List (List Inner)). l ++ level ∷ p.lower) last.is ∙ append_assoc last.over (last.level ∷ []) (level ∷ p.lower) ∙ ap (λ (l : List Inner). last.over ++ l ∷ level ∷ p.lower) last.step.is

  once_three : (k : ℕ) → times k (s.number ∷ []) + times k (c ∷ []) + times k (f ∷ []) ≤ 1
  once_three k =
      let us = p.over ++ level ∷ p.lower in
      let q : Inner = (s.number, (s.kids, s.seps)) in
      let below : List Inner = level ++ all_inner p.lower in
      omega (
        arith,
        p.opened.once k,
        tree_times k us p.leaves p.spares,
        ap (times k) (numbers_of_all us ∙ ap numbers (ap all_inner above ∙ all_at last.over last.step.ups q last.step.downs (level ∷ p.lower))),
        numbers_times k (all_inner last.over ++ last.step.ups) (q ∷ (last.step.downs ++ below)),
        numbers_times k last.step.downs below,
        numbers_times k level (all_inner p.lower),
        numbers_times k p.ahead ((c, (low, a)) ∷ (f, (high, b)) ∷ p.rest),
      )

  off_c : s.number ≡ c → ⊥
  off_c e = absurd (omega (arith, once_three c, times_own c, ap (λ k. times c (k ∷ [])) e))

  off_f : s.number ≡ f → ⊥
  off_f e = absurd (omega (arith, once_three f, times_own f, ap (λ k. times f (k ∷ [])) e))

  parent : (s.number ≡ root) ⊎ (inner_half width ≤ length s.seps)
  parent = last_half width count look root free p.over (level ∷ p.lower) p.leaves p.spares holes loose ss s (length p.ahead) c p.opened p.path (λ is. absurd (omega (arith, is, only s.number off_c off_f)))

  way : IsPath ss last.over 0 root (length last.step.ups) s.number
  way = subst (λ n. IsPath ss last.over 0 root n s.number) (sym last.step.place_is) (subst (λ n. IsPath ss last.over 0 root last.at n) (sym last.step.number_is) last.path)

  abbrev up_one : Inner
  up_one = (s.number, (lefts ++ c ∷ rights, before ++ after))

  abbrev joined : List ℕ × List (List ℕ) → List (List Inner)
  joined t = last.over ++ (last.step.ups ++ up_one ∷ last.step.downs) ∷ (p.ahead ++ (c, t) ∷ p.rest) ∷ p.lower

  open_joined : IsOpenTree width count look root free (joined (low ++ high, a ++ sep ∷ b)) p.leaves p.spares (s.number ∷ c ∷ []) (f ∷ loose)
  open_joined =
      open_join width count look root free last.over last.step.ups last.step.downs s.number lefts rights before after p.ahead p.rest c f low high a sep b p.lower p.leaves p.spares holes loose [] [] pair.under p.some pair.place only
      (subst (λ l. IsOpenTree width count look root free l p.leaves p.spares holes loose) levels p.opened)

  -- the two become one: the block above has one child less
  pub pair_join : (x : List ℕ) → inner_in width x ≡ Some (low ++ high, a ++ sep ∷ b) → inner_half width ≤ length (a ++ sep ∷ b)
      → IsGap width count (put look c x) root free ss s.number (take s.taken s.kids ++ c ∷ drop (suc (suc s.taken)) s.kids) (take s.taken s.seps ++ drop (suc s.taken) s.seps) (s.number ∷ []) (f ∷ loose) xs
  pair_join x reads half =
      let u : List ℕ × List (List ℕ) = (low ++ high, a ++ sep ∷ b) in
      let top : List Inner = last.step.ups ++ up_one ∷ last.step.downs in
      let is : all_inner (joined u) ≡ (all_inner (last.over ++ top ∷ []) ++ p.ahead) ++ (c, u) ∷ (p.rest ++ all_inner p.lower) =
      ap all_inner (sym (append_assoc last.over (top ∷ []) ((p.ahead ++ (c, u) ∷ p.rest) ∷ p.lower))) ∙ all_at (last.over ++ top ∷ []) p.ahead (c, u) p.rest p.lower in
      record {
        over = last.over;
        ups = last.step.ups;
        downs = last.step.downs;
        lower = (p.ahead ++ (c, u) ∷ p.rest) ∷ p.lower;
        leaves = p.leaves;
        spares = p.spares;
        path = way;
        opened = open_fill width count look root free (joined u) p.leaves p.spares (s.number ∷ c ∷ []) (s.number ∷ []) (f ∷ loose) (all_inner (last.over ++ top ∷ []) ++ p.ahead) (p.rest ++ all_inner p.lower) c u x is
            (λ k off some. omega (arith, some, times_other k c (λ e. off (sym e)))) open_joined reads (inr half);
        lack = may_lack s.number root (inner_half width) (length s.seps) (length (before ++ after)) parent (omega (arith, one_less s.seps s.taken fit));
        entries = p.entries;
        some = p.some;
      }

  -- the two are shared anew: the block above has another separator
  pub pair_share : (low' high' : List ℕ) (a' : List (List ℕ)) (sep' : List ℕ) (b' : List (List ℕ)) (x y : List ℕ) → low ++ high ≡ low' ++ high' → a ++ get_or s.seps s.taken [] ∷ b ≡ a' ++ sep' ∷ b' → inner_in width x ≡ Some (low', a') → inner_in width y ≡ Some (high', b') → inner_half width ≤ length a' → inner_half width ≤ length b'
      → IsGap width count (put (put look c x) f y) root free ss s.number (take s.taken s.kids ++ c ∷ f ∷ drop (suc (suc s.taken)) s.kids) (take s.taken s.seps ++ sep' ∷ drop (suc s.taken) s.seps) (s.number ∷ []) loose xs
  pair_share low' high' a' sep' b' x y same same' reads reads' half half' = record {
    over = last.over;
    ups = last.step.ups;
    downs = last.step.downs;
    lower = (p.ahead ++ (c, (low', a')) ∷ (f, (high', b')) ∷ p.rest) ∷ p.lower;
    leaves = p.leaves;
    spares = p.spares;
    path = way;
    opened = open_cut width count look root free last.over last.step.ups last.step.downs s.number lefts rights before after p.ahead p.rest c f low' high' a' sep' b' p.lower p.leaves p.spares (s.number ∷ c ∷ []) loose x y pair.under p.some pair.place
        (λ k off away. omega (arith, times_other k c (λ e. off (sym e)), times_other k s.number (λ e. away (sym e))))
        (subst (λ t. IsOpenTree width count look root free (joined t) p.leaves p.spares (s.number ∷ c ∷ []) (f ∷ loose)) (λ i. (same i, same' i)) open_joined) reads reads' half half';
    lack = may_lack s.number root (inner_half width) (length s.seps) (length (before ++ sep' ∷ after)) parent (omega (arith, as_many s.seps s.taken sep' fit));
    entries = p.entries;
    some = p.some;
  }

-- a block that the join freed is given back
pub gap_give : (width count : ℕ) (look : ℕ → Option (List ℕ)) (root free : ℕ) (ss : List Step) (n : ℕ) (kids : List ℕ) (seps : List (List ℕ)) (holes : List ℕ) (f : ℕ) (loose : List ℕ) (xs : List (List ℕ)) (bytes : List ℕ) → IsGap width count look root free ss n kids seps holes (f ∷ loose) xs → free_in bytes ≡ Some (free, tt)
    → IsGap width count (put look f bytes) root f ss n kids seps holes loose xs
gap_give width count look root free ss n kids seps holes f loose xs bytes h reads = record {
  over = h.over;
  ups = h.ups;
  downs = h.downs;
  lower = h.lower;
  leaves = h.leaves;
  spares = (f, tt) ∷ h.spares;
  path = h.path;
  opened = open_give width count look root free (h.over ++ (h.ups ++ (n, (kids, seps)) ∷ h.downs) ∷ h.lower) h.leaves holes loose f h.spares bytes h.opened reads;
  lack = h.lack;
  entries = h.entries;
  some = h.some;
}

-- the block is written
pub gap_fill : (width count : ℕ) (look : ℕ → Option (List ℕ)) (root free : ℕ) (ss : List Step) (n : ℕ) (kids : List ℕ) (seps : List (List ℕ)) (loose : List ℕ) (xs : List (List ℕ)) (bytes : List ℕ) (h : IsGap width count look root free ss n kids seps (n ∷ []) loose xs) → inner_in width bytes ≡ Some (kids, seps) → (n ≡ root) ⊎ (inner_half width ≤ length seps)
    → IsOpenTree width count (put look n bytes) root free (h.over ++ (h.ups ++ (n, (kids, seps)) ∷ h.downs) ∷ h.lower) h.leaves h.spares [] loose
gap_fill width count look root free ss n kids seps loose xs bytes h reads half =
    open_fill width count look root free (h.over ++ (h.ups ++ (n, (kids, seps)) ∷ h.downs) ∷ h.lower) h.leaves h.spares (n ∷ []) [] loose (all_inner h.over ++ h.ups) (h.downs ++ all_inner h.lower) n (kids, seps) bytes
    (all_at h.over h.ups (n, (kids, seps)) h.downs h.lower) (λ k off some. absurd (omega (arith, some, times_other k n (λ e. off (sym e))))) h.opened reads half

-- A root of one child falls away.
pub record Dropped (width count : ℕ) (look : ℕ → Option (List ℕ)) (root free : ℕ) (loose : List ℕ) (xs : List (List ℕ)) : Type 0 where
  pub us : List (List Inner)
  pub leaves : List Leaf
  pub spares : List Spare
  pub opened : IsOpenTree width count look root free us leaves spares [] loose
  pub entries : entries_of leaves ≡ xs
  pub some : root ≡ 0 → ⊥

there : (c k : ℕ) (us : List (List Inner)) (ns leaves : List ℕ) → Hangs ns us leaves → ns ≡ c ∷ [] → 0 < times c (inner_numbers us) + times c leaves
there c k [] ns leaves hangs is = omega (arith, ap (times c) (sym hangs ∙ is), times_own c)
there c k (u ∷ us) ns leaves hangs is = omega (arith, times_append c (numbers u) (inner_numbers us), ap (times c) (hangs.0 ∙ is), times_own c)

drop_here : (width count : ℕ) (look : ℕ → Option (List ℕ)) (root free n c : ℕ) (loose : List ℕ) (over : List (List Inner)) (ups downs : List Inner) (lower : List (List Inner)) (leaves : List Leaf) (spares : List Spare) → IsPath [] over 0 root (length ups) n → (root ≡ 0 → ⊥)
    → IsOpenTree width count look root free (over ++ (ups ++ (n, (c ∷ [], [])) ∷ downs) ∷ lower) leaves spares (n ∷ []) loose → Dropped width count look c free (n ∷ loose) (entries_of leaves)
drop_here width count look root free n c loose (v ∷ over) ups downs lower leaves spares path some o = absurd path
drop_here width count look root free n c loose [] (u ∷ ups) downs lower leaves spares path some o = absurd (omega (arith, path.0))
drop_here width count look root free n c loose [] [] (d ∷ downs) lower leaves spares path some o = absurd (omega (arith, ap (λ (l : List ℕ). length l) (o.hangs.0 ∙ top_is root some)))
drop_here width count look root free n c loose [] [] [] lower leaves spares path some o =
    let us = under_root n c lower in
    let is : root ≡ n = sym path.1 in
    let o' = subst (λ r. IsOpenTree width count look r free us leaves spares (n ∷ []) loose) is o in
    let once = o'.once n in
    let some_c : c ≡ 0 → ⊥ = λ e. absurd (omega (arith, o'.zero, tree_times 0 us leaves spares, there c 0 lower (c ∷ []) (numbers leaves) o'.hangs.1 refl, ap (λ k. times k (inner_numbers lower) + times k (numbers leaves)) e)) in
    let halves = root_only width n c leaves (omega (arith, once, tree_times n us leaves spares, times_own n)) o'.half in
    record {
      us = lower;
      leaves = leaves;
      spares = spares;
      opened = open_drop width count look free c n lower leaves spares (n ∷ []) loose some_c (λ k off. times_other k n (λ e. off (sym e))) halves o';
      entries = refl;
      some = some_c;
    }

pub gap_drop : (width count : ℕ) (look : ℕ → Option (List ℕ)) (root free n c : ℕ) (loose : List ℕ) (xs : List (List ℕ)) → IsGap width count look root free [] n (c ∷ []) [] (n ∷ []) loose xs → Dropped width count look c free (n ∷ loose) xs
gap_drop width count look root free n c loose xs h =
    subst (Dropped width count look c free (n ∷ loose)) h.entries (drop_here width count look root free n c loose h.over h.ups h.downs h.lower h.leaves h.spares h.path h.some h.opened)
