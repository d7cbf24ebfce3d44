-- The way from the root to the leaf where a byte string belongs.
use Rattle.std.proofs.Common.{◌≡◌, ℕ, zero, suc, ◌+◌, ◌≤◌, ◌<◌, List, [], ◌∷◌, ◌++◌, Bool, true, false, cond, Some, None, refl, sym, ap, subst, ◌∙◌, length, take, drop, get_or, slice_get, length-append, length-drop, append-nil, append_assoc, arith}
use Rattle.std.specs.declared.option.Option.{Option}
use Rattle.std.specs.Ordering.{is_eq, is_gt, ordering_reverse, ordering_then}
use Rattle.std.specs.declared.cmp.Ordering.{Ordering}
use Rattle.std.specs.declared.cmp.Ordering.TheVariants.{Less, Equal, Greater}
use Rattle.std.specs.Cmp.Lexicographic.{nat_list_cmp_total}
use Rattle.std.proofs.lemmas.List.{take-append-drop, length-take-le}
use Rattle.dms_chain.specs.Lists.{AreAllAbove, AreInByteOrder, bytes_cmp, bytes_same, is_same, is_under, or_else}
use Rattle.dms_chain.specs.Leads.{above_through, at_is, last_of, lead, rises_first, rises_second}
use Rattle.dms_chain.specs.Linked.{BlockChain, front, numbers, said_by}
use Rattle.dms_chain.specs.LinkedLaws.{chain_second, numbers_length}
use Rattle.dms_chain.specs.ListBlocks.{leaf_in}
use Rattle.dms_chain.specs.ListIn.{Leaf, entries_of}
use Rattle.dms_chain.specs.Located.{last_append, lead_le}
use Rattle.dms_chain.specs.SpellLaws.{AllWide, leaf_is}
use Rattle.dms_tree.specs.LaceLaws.{HaveMore, IsUnder, behind, fences_at, kids_append, kids_total, lace_around, lace_here, laced, laced_length, left_even, seps_length, total}
use Rattle.dms_tree.specs.Levels.{Hangs, Inner, fences, kids_of, lace, leaf_pieces, marked, seps_of}
use Rattle.dms_tree.specs.Order.{AreAllBelow, Stands, above_append, append_cmp, rises_in, above_first, above_second, below_append, below_before, below_first, below_lead, below_second, entry_above, entry_below, entry_other, key_of, marked_append, marked_length}
use Rattle.dms_tree.specs.TreeBlocks.{inner_in}
use Rattle.dms_tree.specs.TreeIn.{SayLevel, SayLevels, says}
use Rattle.dms_tree.specs.TreeSpells.{IsInner, inner_says}

-- marks and pieces

abbrev pub marked_each : ℕ → List (List (List ℕ)) → List (List (List ℕ))
marked_each m [] = []
marked_each m (p ∷ ps) = marked m p ∷ marked_each m ps

module _ (m : ℕ) where
  pub marked_laced : (ps : List (List (List ℕ))) (fs : List (List ℕ)) → marked m (laced ps fs) ≡ laced (marked_each m ps) (marked m fs)
  marked_laced [] fs = refl
  marked_laced (p ∷ ps) [] = marked_append m p (laced ps []) ∙ ap (λ (l : List (List ℕ)). marked m p ++ l) (marked_laced ps [])
  marked_laced (p ∷ ps) (f ∷ fs) = marked_append m p (f ∷ laced ps fs) ∙ ap (λ (l : List (List ℕ)). marked m p ++ (f ++ m ∷ []) ∷ l) (marked_laced ps fs)

  pub marked_lace : (ps : List (List (List ℕ))) (fs : List (List ℕ)) → marked m (lace ps fs) ≡ lace (marked_each m ps) (marked m fs)
  marked_lace [] fs = refl
  marked_lace (p ∷ ps) [] = marked_append m p (lace ps []) ∙ ap (λ (l : List (List ℕ)). marked m p ++ l) (marked_lace ps [])
  marked_lace (p ∷ ps) (f ∷ fs) = marked_append m p (f ∷ lace ps fs) ∙ ap (λ (l : List (List ℕ)). marked m p ++ (f ++ m ∷ []) ∷ l) (marked_lace ps fs)

  pub marked_take : (k : ℕ) (xs : List (List ℕ)) → marked m (take k xs) ≡ take k (marked m xs)
  marked_take zero xs = refl
  marked_take (suc k) [] = refl
  marked_take (suc k) (x ∷ xs) = ap (λ (l : List (List ℕ)). (x ++ m ∷ []) ∷ l) (marked_take k xs)

  pub marked_drop : (k : ℕ) (xs : List (List ℕ)) → marked m (drop k xs) ≡ drop k (marked m xs)
  marked_drop zero xs = refl
  marked_drop (suc k) [] = refl
  marked_drop (suc k) (x ∷ xs) = marked_drop k xs

  pub each_length : (ps : List (List (List ℕ))) → length (marked_each m ps) ≡ length ps
  each_length [] = refl
  each_length (p ∷ ps) = ap suc (each_length ps)

-- what is around a place in laced pieces

pub lace_length : {A : Type 0} (ps : List (List A)) (fs : List A) → length fs + 1 ≡ length ps → length (lace ps fs) + 1 ≡ total ps
lace_length [] fs even = absurd (omega (arith, even))
lace_length (p ∷ []) [] even = omega (arith, length-append p [])
lace_length (p ∷ q ∷ ps) [] even = absurd (omega (arith, even))
lace_length (p ∷ ps) (f ∷ fs) even = omega (arith, length-append p (f ∷ lace ps fs), lace_length ps fs (omega (arith, even)))

all_fences : (x : List ℕ) (ps : List (List (List ℕ))) (fs : List (List ℕ)) → length fs ≤ length ps → AreAllAbove x (lace ps fs) → AreAllAbove x fs
all_fences x ps [] fit all = tt
all_fences x [] (f ∷ fs) fit all = absurd (omega (arith, fit))
all_fences x (p ∷ ps) (f ∷ fs) fit all = let rest = above_second x p (f ∷ lace ps fs) all in (rest.0, all_fences x ps fs (omega (arith, fit)) rest.1)

pub lace_rises : (ps : List (List (List ℕ))) (fs : List (List ℕ)) → length fs ≤ length ps → AreInByteOrder (lace ps fs) → AreInByteOrder fs
lace_rises ps [] fit r = tt
lace_rises [] (f ∷ fs) fit r = absurd (omega (arith, fit))
lace_rises (p ∷ ps) (f ∷ fs) fit r =
    let rest = rises_second p (f ∷ lace ps fs) r in
    (all_fences f ps fs (omega (arith, fit)) rest.0, lace_rises ps fs (omega (arith, fit)) rest.1)

pub laced_below : (k : List ℕ) (ps : List (List (List ℕ))) (fs : List (List ℕ)) → length fs ≡ length ps → AreInByteOrder (laced ps fs) → AreAllBelow k fs → AreAllBelow k (laced ps fs)
laced_below k [] fs even r low = tt
laced_below k (p ∷ ps) [] even r low = absurd (omega (arith, even))
laced_below k (p ∷ ps) (f ∷ fs) even r low =
    below_append k p (f ∷ laced ps fs) (below_before k p f (laced ps fs) r low.0)
    (low.0, laced_below k ps fs (omega (arith, even)) (rises_second p (f ∷ laced ps fs) r).1 low.1)

-- the first one isn't less
abbrev pub Stops : List ℕ → List (List ℕ) → Type 0
Stops k [] = Unit {0}
Stops k (g ∷ gs) = is_under k g ≡ false

pub behind_stops : (k : List ℕ) (ps : List (List (List ℕ))) (gs : List (List ℕ)) → length gs ≡ length ps → Stops k gs → Stops k (behind ps gs)
behind_stops k [] [] even stop = tt
behind_stops k (p ∷ ps) [] even stop = absurd (omega (arith, even))
behind_stops k ps (g ∷ gs) even stop = stop

pub append_stops : (k : List ℕ) (xs ys : List (List ℕ)) → Stops k xs → (length xs ≡ 0 → Stops k ys) → Stops k (xs ++ ys)
append_stops k [] ys stop rest = rest refl
append_stops k (x ∷ xs) ys stop rest = stop

-- the first so many are less, and the next one isn't
take_if : (k : List ℕ) (t : Bool) (x : List ℕ) (xs : List (List ℕ)) (n : ℕ) → is_under k x ≡ t → AreAllBelow k (take n xs) → AreAllBelow k (take (cond t (suc n) 0) (x ∷ xs))
take_if k true x xs n is rest = (less_by (bytes_cmp k x) is, rest)
  where
    less_by : (o : Ordering) → is_gt o ≡ true → bytes_cmp x k ≡ Less
    less_by o gt = nat_list_cmp_total.antisymm x k ∙ ap ordering_reverse (greater (bytes_cmp k x) is)
      where
        greater : (o : Ordering) → is_gt o ≡ true → o ≡ Greater
        greater Less h = absurd (cc h)
        greater Equal h = absurd (cc h)
        greater Greater h = refl
take_if k false x xs n is rest = tt

pub lead_below : (k : List ℕ) (xs : List (List ℕ)) → AreAllBelow k (take (lead k xs) xs)
lead_below k [] = tt
lead_below k (x ∷ xs) = take_if k (is_under k x) x xs (lead k xs) refl (lead_below k xs)

drop_if : (k : List ℕ) (t : Bool) (x : List ℕ) (xs : List (List ℕ)) (n : ℕ) → is_under k x ≡ t → Stops k (drop n xs) → Stops k (drop (cond t (suc n) 0) (x ∷ xs))
drop_if k true x xs n is rest = rest
drop_if k false x xs n is rest = is

pub lead_stops : (k : List ℕ) (xs : List (List ℕ)) → Stops k (drop (lead k xs) xs)
lead_stops k [] = tt
lead_stops k (x ∷ xs) = drop_if k (is_under k x) x xs (lead k xs) refl (lead_stops k xs)

pub behind_length : {A : Type 0} (ps : List (List A)) (gs : List A) → length gs ≡ length ps → length (behind ps gs) ≡ total ps
behind_length [] [] even = refl
behind_length [] (g ∷ gs) even = absurd (omega (arith, even))
behind_length (p ∷ ps) [] even = absurd (omega (arith, even))
behind_length (p ∷ ps) (g ∷ gs) even = omega (arith, more (p ∷ ps) gs (omega (arith, even)))
  where
    more : {A : Type 0} (ps : List (List A)) (gs : List A) → length gs + 1 ≡ length ps → length (lace ps gs) + 1 ≡ total ps
    more ps gs even = lace_length ps gs even

pub marks_stop : (k : List ℕ) (ps : List (List (List ℕ))) (gs : List (List ℕ)) → length gs ≡ length ps → Stops k (marked 0 gs) → Stops k (marked 0 (behind ps gs))
marks_stop k [] [] even stop = tt
marks_stop k (p ∷ ps) [] even stop = absurd (omega (arith, even))
marks_stop k ps (g ∷ gs) even stop = stop

-- the last separator
or_some : (o p : Option (List ℕ)) (x : List ℕ) → or_else (or_else o (Some x)) p ≡ or_else o (Some x)
or_some None p x = refl
or_some (Some y) p x = refl

laced_last : (ps : List (List (List ℕ))) (fs : List (List ℕ)) → length fs ≡ length ps → last_of (laced ps fs) ≡ last_of fs
laced_last [] [] even = refl
laced_last [] (f ∷ fs) even = absurd (omega (arith, even))
laced_last (p ∷ ps) [] even = absurd (omega (arith, even))
laced_last (p ∷ ps) (f ∷ fs) even = last_append p (f ∷ laced ps fs) ∙ or_some (last_of (laced ps fs)) (last_of p) f ∙ ap (λ o. or_else o (Some f)) (laced_last ps fs (omega (arith, even)))

-- separators of each level rise

pub have_more : (width : ℕ) (look : ℕ → Option (List ℕ)) (us : List Inner) → SayLevel width look us → HaveMore us
have_more width look [] said = tt
have_more width look (u ∷ us) said = (more (look u.0) u.1 said.0, have_more width look us said.1)
  where
    more : (o : Option (List ℕ)) (x : List ℕ × List (List ℕ)) → says (inner_in width) o ≡ Some x → length x.0 ≡ suc (length x.1)
    more None x is = absurd (cc is)
    more (Some b) x is = (inner_says width b x is).inner.more

pub record FencesRise (outer : List (List ℕ)) (us : List (List Inner)) (leaves : List ℕ) : Type 0 where
  pub even : length (fences outer us) + 1 ≡ length leaves
  pub rise : AreInByteOrder (marked 0 (fences outer us)) → AreInByteOrder (marked 0 outer)

pub fences_rise : (width : ℕ) (look : ℕ → Option (List ℕ)) (outer : List (List ℕ)) (us : List (List Inner)) (ns leaves : List ℕ) → Hangs ns us leaves → SayLevels width look us → length outer + 1 ≡ length ns → FencesRise outer us leaves
fences_rise width look outer [] ns leaves hangs said even = record { even = even ∙ ap (λ (l : List ℕ). length l) hangs; rise = λ r. r }
fences_rise width look outer (u ∷ us) ns leaves hangs said even =
    let size : length outer + 1 ≡ length (seps_of u) = omega (arith, even, ap (λ (l : List ℕ). length l) hangs.0, numbers_length u, seps_length u) in
    let next : length (lace (seps_of u) outer) + 1 ≡ length (kids_of u) = lace_length (seps_of u) outer size ∙ sym (kids_total u (have_more width look u said.0)) in
    let below = fences_rise width look (lace (seps_of u) outer) us (kids_of u) leaves hangs.1 said.1 next in
    let fit : length (marked 0 outer) ≤ length (marked_each 0 (seps_of u)) = omega (arith, marked_length 0 outer, each_length 0 (seps_of u), size) in
    record { even = below.even; rise = λ r. lace_rises (marked_each 0 (seps_of u)) (marked 0 outer) fit (subst AreInByteOrder (marked_lace 0 (seps_of u) outer) (below.rise r)) }

pub pieces_length : (ls : List Leaf) → length (leaf_pieces ls) ≡ length ls
pieces_length [] = refl
pieces_length (l ∷ ls) = ap suc (pieces_length ls)

-- A block of a level, on the way to where a key belongs: the separators before it are less than the key, the next one isn't.
pub record IsAt (width : ℕ) (look : ℕ → Option (List ℕ)) (k : List ℕ) (us : List (List Inner)) (ls : List Leaf) (n : ℕ) (all : List (List ℕ)) (fence : Option (List ℕ)) : Type 0 where
  pub lefts : List ℕ
  pub rights : List ℕ
  pub before : List (List ℕ)
  pub after : List (List ℕ)
  pub hangs : Hangs (lefts ++ n ∷ rights) us (numbers ls)
  pub inner : SayLevels width look us
  pub left_even : length before ≡ length lefts
  pub right_even : length after ≡ length rights
  pub low : AreAllBelow k (marked 0 before)
  pub stop : Stops k (marked 0 after)
  pub rises : AreInByteOrder (lace (leaf_pieces ls) (marked 0 (fences (before ++ after) us)))
  pub all_is : fences (before ++ after) us ≡ all
  pub fence_is : fence ≡ last_of before

-- a number of a chain or level parts it
pub record Parted {A : Type 0} (n : ℕ) (lefts rights : List ℕ) (xs : List (ℕ × A)) : Type 0 where
  pub ahead : List (ℕ × A)
  pub here : A
  pub rest : List (ℕ × A)
  pub is : xs ≡ ahead ++ (n, here) ∷ rest
  pub ahead_is : numbers ahead ≡ lefts
  pub rest_is : numbers rest ≡ rights

head_or : List ℕ → ℕ
head_or [] = 0
head_or (x ∷ xs) = x

tail_or : List ℕ → List ℕ
tail_or [] = []
tail_or (x ∷ xs) = xs

pub part_at : {A : Type 0} (n : ℕ) (lefts rights : List ℕ) (xs : List (ℕ × A)) → numbers xs ≡ lefts ++ n ∷ rights → Parted n lefts rights xs
unfolding head_or tail_or
part_at n [] rights [] is = absurd (cc is)
part_at {A} n [] rights (x ∷ xs) is =
    let first : x.0 ≡ n = ap head_or is in
    record { ahead = []; here = x.1; rest = xs; is = ap (λ (k : ℕ). (k, x.1) ∷ xs) first; ahead_is = refl; rest_is = ap tail_or is }
part_at n (l ∷ lefts) rights [] is = absurd (cc is)
part_at n (l ∷ lefts) rights (x ∷ xs) is =
    let first : x.0 ≡ l = ap head_or is in
    let more = part_at n lefts rights xs (ap tail_or is) in
    record { ahead = x ∷ more.ahead; here = more.here; rest = more.rest; is = ap (λ l. x ∷ l) more.is; ahead_is = (λ i. first i ∷ more.ahead_is i); rest_is = more.rest_is }

said_at : (width : ℕ) (look : ℕ → Option (List ℕ)) (vs : List Inner) (u : Inner) (bs : List Inner) → SayLevel width look (vs ++ u ∷ bs) → says (inner_in width) (look u.0) ≡ Some u.1
said_at width look [] u bs said = said.0
said_at width look (a ∷ vs) u bs said = said_at width look vs u bs said.1

said_first : (width : ℕ) (look : ℕ → Option (List ℕ)) (vs bs : List Inner) → SayLevel width look (vs ++ bs) → SayLevel width look vs
said_first width look [] bs said = tt
said_first width look (a ∷ vs) bs said = (said.0, said_first width look vs bs said.1)

said_second : (width : ℕ) (look : ℕ → Option (List ℕ)) (vs bs : List Inner) → SayLevel width look (vs ++ bs) → SayLevel width look bs
said_second width look [] bs said = said
said_second width look (a ∷ vs) bs said = said_second width look vs bs said.1

part_kids : (kids : List ℕ) (j : ℕ) → j < length kids → kids ≡ take j kids ++ get_or kids j 0 ∷ drop (suc j) kids
part_kids [] j low = absurd (omega (arith, low))
part_kids (n ∷ kids) zero low = refl
part_kids (n ∷ kids) (suc j) low = ap (λ (l : List ℕ). n ∷ l) (part_kids kids j (omega (arith, low)))

module _ (width : ℕ) (look : ℕ → Option (List ℕ)) (k : List ℕ) (u : List Inner) (us : List (List Inner)) (ls : List Leaf) (n : ℕ) (all : List (List ℕ)) (fence : Option (List ℕ)) (at : IsAt width look k (u ∷ us) ls n all fence) where
  abbrev parts : Parted n at.lefts at.rights u
  parts = part_at n at.lefts at.rights u at.hangs.0

  pub says_here : says (inner_in width) (look n) ≡ Some parts.here
  says_here = said_at width look parts.ahead (n, parts.here) parts.rest (subst (SayLevel width look) parts.is at.inner.0)

  module _ (kids : List ℕ) (seps : List (List ℕ)) (said : says (inner_in width) (look n) ≡ Some (kids, seps)) where
    abbrev j : ℕ
    j = lead k (marked 0 seps)

    same : parts.here ≡ (kids, seps)
    same = some_same parts.here (kids, seps) (sym says_here ∙ said)
      where
        some_same : (x y : List ℕ × List (List ℕ)) → Some x ≡ Some y → x ≡ y
        some_same x y e = cc e

    level : u ≡ parts.ahead ++ (n, (kids, seps)) ∷ parts.rest
    level = parts.is ∙ ap (λ (x : List ℕ × List (List ℕ)). parts.ahead ++ (n, x) ∷ parts.rest) same

    low_j : j ≤ length seps
    low_j = omega (arith, lead_le k (marked 0 seps), marked_length 0 seps)

    more : HaveMore u
    more = have_more width look u at.inner.0

    is_inner : (o : Option (List ℕ)) → says (inner_in width) o ≡ Some (kids, seps) → length kids ≡ suc (length seps)
    is_inner None e = absurd (cc e)
    is_inner (Some b) e = (inner_says width b (kids, seps) e).inner.more

    even_ahead : length at.before ≡ length parts.ahead
    even_ahead = at.left_even ∙ sym (ap (λ (l : List ℕ). length l) parts.ahead_is) ∙ numbers_length parts.ahead

    even_rest : length at.after ≡ length parts.rest
    even_rest = at.right_even ∙ sym (ap (λ (l : List ℕ). length l) parts.rest_is) ∙ numbers_length parts.rest

    abbrev next_before : List (List ℕ)
    next_before = laced (seps_of parts.ahead) at.before ++ take j seps

    abbrev next_after : List (List ℕ)
    next_after = drop j seps ++ behind (seps_of parts.rest) at.after

    next_fences : lace (seps_of u) (at.before ++ at.after) ≡ next_before ++ next_after
    next_fences =
        ap (λ l. lace (seps_of l) (at.before ++ at.after)) (level ∙ ap (λ (s : List (List ℕ)). parts.ahead ++ (n, (kids, s)) ∷ parts.rest) (sym (take-append-drop j seps)))
        ∙ fences_at parts.ahead parts.rest n [] [] (take j seps) (drop j seps) at.before at.after even_ahead kids

    next_rises : AreInByteOrder (lace (leaf_pieces ls) (marked 0 (fences (next_before ++ next_after) us)))
    next_rises = subst (λ f. AreInByteOrder (lace (leaf_pieces ls) (marked 0 (fences f us)))) next_fences at.rises

    ahead_more : HaveMore parts.ahead
    ahead_more = have_more width look parts.ahead (said_first width look parts.ahead ((n, parts.here) ∷ parts.rest) (subst (SayLevel width look) parts.is at.inner.0))

    rest_more : HaveMore parts.rest
    rest_more = have_more width look parts.rest (said_second width look parts.ahead ((n, parts.here) ∷ parts.rest) (subst (SayLevel width look) parts.is at.inner.0)).1

    next_kids : kids_of u ≡ (kids_of parts.ahead ++ take j kids) ++ get_or kids j 0 ∷ (drop (suc j) kids ++ kids_of parts.rest)
    next_kids =
        let one = is_inner (look n) said in
        ap kids_of level ∙ kids_append parts.ahead ((n, (kids, seps)) ∷ parts.rest)
        ∙ ap (λ (l : List ℕ). kids_of parts.ahead ++ (l ++ kids_of parts.rest)) (part_kids kids j (omega (arith, one, low_j)))
        ∙ ap (λ (l : List ℕ). kids_of parts.ahead ++ l) (append_assoc (take j kids) (get_or kids j 0 ∷ drop (suc j) kids) (kids_of parts.rest))
        ∙ sym (append_assoc (kids_of parts.ahead) (take j kids) (get_or kids j 0 ∷ (drop (suc j) kids ++ kids_of parts.rest)))

    next_even_left : length next_before ≡ length (kids_of parts.ahead ++ take j kids)
    next_even_left =
        let one = is_inner (look n) said in
        let most : j ≤ length kids = omega (arith, one, low_j) in
        omega (
          arith,
          length-append (laced (seps_of parts.ahead) at.before) (take j seps),
          laced_length (seps_of parts.ahead) at.before (even_ahead ∙ sym (seps_length parts.ahead)),
          kids_total parts.ahead ahead_more,
          length-append (kids_of parts.ahead) (take j kids),
          length-take-le j seps low_j,
          length-take-le j kids most,
        )

    next_even_right : length next_after ≡ length (drop (suc j) kids ++ kids_of parts.rest)
    next_even_right =
        let one = is_inner (look n) said in
        omega (
          arith,
          length-append (drop j seps) (behind (seps_of parts.rest) at.after),
          behind_length (seps_of parts.rest) at.after (even_rest ∙ sym (seps_length parts.rest)),
          kids_total parts.rest rest_more,
          length-append (drop (suc j) kids) (kids_of parts.rest),
          length-drop j seps,
          length-drop (suc j) kids,
          one,
          low_j,
        )

    all_even : length (next_before ++ next_after) + 1 ≡ length (kids_of u)
    all_even =
        omega (
          arith,
          length-append next_before next_after,
          next_even_left,
          next_even_right,
          ap (λ (l : List ℕ). length l) next_kids,
          length-append (kids_of parts.ahead ++ take j kids) (get_or kids j 0 ∷ (drop (suc j) kids ++ kids_of parts.rest)),
        )

    marks_rise : AreInByteOrder (marked 0 (next_before ++ next_after))
    marks_rise =
        let f = fences_rise width look (next_before ++ next_after) us (kids_of u) (numbers ls) at.hangs.1 at.inner.1 all_even in
        let fit : length (marked 0 (fences (next_before ++ next_after) us)) ≤ length (leaf_pieces ls) = omega (arith, marked_length 0 (fences (next_before ++ next_after) us), f.even, numbers_length ls, pieces_length ls) in
        f.rise (lace_rises (leaf_pieces ls) (marked 0 (fences (next_before ++ next_after) us)) fit next_rises)

    next_low : AreAllBelow k (marked 0 next_before)
    next_low =
        let front_rises = rises_first (marked 0 next_before) (marked 0 next_after) (subst AreInByteOrder (marked_append 0 next_before next_after) marks_rise) in
        let first_rises = rises_first (marked 0 (laced (seps_of parts.ahead) at.before)) (marked 0 (take j seps)) (subst AreInByteOrder (marked_append 0 (laced (seps_of parts.ahead) at.before) (take j seps)) front_rises) in
        let even : length (marked 0 at.before) ≡ length (marked_each 0 (seps_of parts.ahead)) = omega (arith, marked_length 0 at.before, each_length 0 (seps_of parts.ahead), even_ahead, seps_length parts.ahead) in
        let one = laced_below k (marked_each 0 (seps_of parts.ahead)) (marked 0 at.before) even (subst AreInByteOrder (marked_laced 0 (seps_of parts.ahead) at.before) first_rises) at.low in
        let two : AreAllBelow k (marked 0 (take j seps)) = subst (AreAllBelow k) (sym (marked_take 0 j seps)) (lead_below k (marked 0 seps)) in
        subst (AreAllBelow k) (sym (marked_append 0 (laced (seps_of parts.ahead) at.before) (take j seps))) (below_append k (marked 0 (laced (seps_of parts.ahead) at.before)) (marked 0 (take j seps)) (subst (AreAllBelow k) (sym (marked_laced 0 (seps_of parts.ahead) at.before)) one) two)

    next_stop : Stops k (marked 0 next_after)
    next_stop =
        let one : Stops k (marked 0 (drop j seps)) = subst (Stops k) (sym (marked_drop 0 j seps)) (lead_stops k (marked 0 seps)) in
        subst (Stops k) (sym (marked_append 0 (drop j seps) (behind (seps_of parts.rest) at.after)))
        (append_stops k (marked 0 (drop j seps)) (marked 0 (behind (seps_of parts.rest) at.after)) one (λ none. marks_stop k (seps_of parts.rest) at.after (even_rest ∙ sym (seps_length parts.rest)) at.stop))

    -- one level down
    pub goes_down : IsAt width look k us ls (get_or kids j 0) all (or_else (last_of (take j seps)) fence)
    goes_down = record {
      lefts = kids_of parts.ahead ++ take j kids;
      rights = drop (suc j) kids ++ kids_of parts.rest;
      before = next_before;
      after = next_after;
      hangs = subst (λ l. Hangs l us (numbers ls)) next_kids at.hangs.1;
      inner = at.inner.1;
      left_even = next_even_left;
      right_even = next_even_right;
      low = next_low;
      stop = next_stop;
      rises = next_rises;
      all_is = ap (λ f. fences f us) (sym next_fences) ∙ at.all_is;
      fence_is = ap (or_else (last_of (take j seps))) (at.fence_is ∙ sym (laced_last (seps_of parts.ahead) at.before (even_ahead ∙ sym (seps_length parts.ahead)))) ∙ sym (last_append (laced (seps_of parts.ahead) at.before) (take j seps));
    }

    -- and where the block stands in its level
    pub record GoesDown : Type 0 where
      pub next : IsAt width look k us ls (get_or kids j 0) all (or_else (last_of (take j seps)) fence)
      pub ahead : List Inner
      pub rest : List Inner
      pub level_is : u ≡ ahead ++ (n, (kids, seps)) ∷ rest
      pub place : length ahead ≡ length at.lefts
      pub lefts : length next.lefts ≡ length (kids_of ahead) + j
      pub low : j < length kids

    pub goes_on : GoesDown
    unfolding goes_down
    goes_on =
        let one = is_inner (look n) said in
        let most : j ≤ length kids = omega (arith, one, low_j) in
        record {
          next = goes_down;
          ahead = parts.ahead;
          rest = parts.rest;
          level_is = level;
          place = sym (numbers_length parts.ahead) ∙ ap (λ (l : List ℕ). length l) parts.ahead_is;
          lefts = omega (arith, length-append (kids_of parts.ahead) (take j kids), length-take-le j kids most);
          low = omega (arith, one, low_j);
        }

-- at the leaf

pub pieces_append : (ls ms : List Leaf) → leaf_pieces (ls ++ ms) ≡ leaf_pieces ls ++ leaf_pieces ms
pieces_append [] ms = refl
pieces_append (l ∷ ls) ms = ap (λ (p : List (List (List ℕ))). marked 1 l.1 ∷ p) (pieces_append ls ms)

abbrev pub AreLeavesWide : ℕ → List Leaf → Type 0
AreLeavesWide w [] = Unit {0}
AreLeavesWide w (l ∷ ls) = AllWide w l.1 × AreLeavesWide w ls

pub chain_wide : (width : ℕ) (look : ℕ → Option (List ℕ)) (ls : List Leaf) (n : ℕ) → BlockChain (leaf_in width) look ls n → AreLeavesWide width ls
chain_wide width look [] n chain = tt
chain_wide width look (l ∷ ls) n chain = (wide (look l.0) (front ls n) l.1 chain.1, chain_wide width look ls n chain.2)
  where
    wide : (o : Option (List ℕ)) (next : ℕ) (es : List (List ℕ)) → said_by (leaf_in width) o ≡ Some (next, es) → AllWide width es
    wide None next es said = absurd (cc said)
    wide (Some b) next es said = (leaf_is width b next es said).wide

pub leaves_first : (w : ℕ) (ls ms : List Leaf) → AreLeavesWide w (ls ++ ms) → AreLeavesWide w ls
leaves_first w [] ms a = tt
leaves_first w (l ∷ ls) ms a = (a.0, leaves_first w ls ms a.1)

pub leaves_second : (w : ℕ) (ls ms : List Leaf) → AreLeavesWide w (ls ++ ms) → AreLeavesWide w ms
leaves_second w [] ms a = a
leaves_second w (l ∷ ls) ms a = leaves_second w ls ms a.1

module _ (t : Bool) (c : List ℕ) where
  entries_below : (es : List (List ℕ)) → AllWide (length c) es → AreAllBelow (key_of t c) (marked 1 es) → AreAllBelow c es
  entries_below [] wide low = tt
  entries_below (x ∷ es) wide low = (entry_below t c x wide.0 low.0, entries_below es wide.1 low.1)

  pieces_below : (ls : List Leaf) (fs : List (List ℕ)) → AreLeavesWide (length c) ls → AreAllBelow (key_of t c) (laced (leaf_pieces ls) fs) → AreAllBelow c (entries_of ls)
  pieces_below [] fs wide low = tt
  pieces_below (l ∷ ls) [] wide low =
      below_append c l.1 (entries_of ls) (entries_below l.1 wide.0 (below_first (key_of t c) (marked 1 l.1) (laced (leaf_pieces ls) []) low)) (pieces_below ls [] wide.1 (below_second (key_of t c) (marked 1 l.1) (laced (leaf_pieces ls) []) low))
  pieces_below (l ∷ ls) (f ∷ fs) wide low =
      below_append c l.1 (entries_of ls) (entries_below l.1 wide.0 (below_first (key_of t c) (marked 1 l.1) (f ∷ laced (leaf_pieces ls) fs) low)) (pieces_below ls fs wide.1 (below_second (key_of t c) (marked 1 l.1) (f ∷ laced (leaf_pieces ls) fs) low).1)

  -- not less, and another one where that is asked
  abbrev pub NoneUnder : List (List ℕ) → Type 0
  NoneUnder [] = Unit {0}
  NoneUnder (x ∷ xs) = (is_under c x ≡ false) × (t ≡ true → is_same c x ≡ false) × NoneUnder xs

  none_append : (xs ys : List (List ℕ)) → NoneUnder xs → NoneUnder ys → NoneUnder (xs ++ ys)
  none_append [] ys a b = b
  none_append (x ∷ xs) ys a b = (a.0, a.1, none_append xs ys a.2 b)

  other_by : (x : List ℕ) → length x ≡ length c → bytes_cmp (key_of t c) (x ++ 1 ∷ []) ≡ Less → t ≡ true → is_same c x ≡ false
  other_by x wide high on = entry_other c x wide (subst (λ b. bytes_cmp (key_of b c) (x ++ 1 ∷ []) ≡ Less) on high)

  entries_above : (es : List (List ℕ)) → AllWide (length c) es → AreAllAbove (key_of t c) (marked 1 es) → NoneUnder es
  entries_above [] wide high = tt
  entries_above (x ∷ es) wide high = (entry_above t c x wide.0 high.0, other_by x wide.0 high.0, entries_above es wide.1 high.1)

  pieces_above : (ls : List Leaf) (fs : List (List ℕ)) → AreLeavesWide (length c) ls → AreAllAbove (key_of t c) (lace (leaf_pieces ls) fs) → NoneUnder (entries_of ls)
  pieces_above [] fs wide high = tt
  pieces_above (l ∷ ls) [] wide high =
      none_append l.1 (entries_of ls) (entries_above l.1 wide.0 (above_first (key_of t c) (marked 1 l.1) (lace (leaf_pieces ls) []) high)) (pieces_above ls [] wide.1 (above_second (key_of t c) (marked 1 l.1) (lace (leaf_pieces ls) []) high))
  pieces_above (l ∷ ls) (f ∷ fs) wide high =
      none_append l.1 (entries_of ls) (entries_above l.1 wide.0 (above_first (key_of t c) (marked 1 l.1) (f ∷ lace (leaf_pieces ls) fs) high)) (pieces_above ls fs wide.1 (above_second (key_of t c) (marked 1 l.1) (f ∷ lace (leaf_pieces ls) fs) high).1)

  none_lead : (xs : List (List ℕ)) → NoneUnder xs → lead c xs ≡ 0
  none_lead [] none = refl
  none_lead (x ∷ xs) none = ap (λ b. cond b (suc (lead c xs)) 0) none.0

  none_at : (xs : List (List ℕ)) → NoneUnder xs → t ≡ true → at_is c (slice_get xs 0) ≡ false
  none_at [] none on = refl
  none_at (x ∷ xs) none on = none.1 on

  above_by : (g : List ℕ) (ys : List (List ℕ)) (o : Ordering) → bytes_cmp (key_of t c) g ≡ o → is_gt o ≡ false → AreAllAbove g ys → AreAllAbove (key_of t c) ys
  above_by g ys Less is off all = above_through (key_of t c) g ys is all
  above_by g ys Equal is off all = subst (λ x. AreAllAbove x ys) (sym (bytes_same (key_of t c) g is)) all
  above_by g ys Greater is off all = absurd (cc off)

  behind_none : (ls : List Leaf) (gs : List (List ℕ)) → length gs ≡ length ls → AreLeavesWide (length c) ls → Stops (key_of t c) gs → AreInByteOrder (behind (leaf_pieces ls) gs) → NoneUnder (entries_of ls)
  behind_none [] gs even wide stop r = tt
  behind_none (l ∷ ls) [] even wide stop r = absurd (omega (arith, even))
  behind_none (l ∷ ls) (g ∷ gs) even wide stop r = pieces_above (l ∷ ls) gs wide (above_by g (lace (leaf_pieces (l ∷ ls)) gs) (bytes_cmp (key_of t c) g) refl stop r.0)

  -- the leaf where a byte string belongs
  pub record IsSpot (ls : List Leaf) (n : ℕ) (es : List (List ℕ)) : Type 0 where
    pub ahead : List Leaf
    pub rest : List Leaf
    pub is : ls ≡ ahead ++ (n, es) ∷ rest
    pub stands : Stands c (entries_of ahead) es (entries_of rest)
    pub other : t ≡ true → at_is c (slice_get (entries_of rest) 0) ≡ false

  -- the separators before it, which are less, and those behind, of which the first isn't
  pub record IsBetween (size : ℕ) (all : List (List ℕ)) (fence : Option (List ℕ)) : Type 0 where
    pub before : List (List ℕ)
    pub after : List (List ℕ)
    pub all_is : before ++ after ≡ all
    pub even : length before ≡ size
    pub low : AreAllBelow (key_of t c) (marked 0 before)
    pub stop : Stops (key_of t c) (marked 0 after)
    pub rises : AreInByteOrder (marked 0 all)
    pub fence_is : fence ≡ last_of before

  -- with what its block says
  pub record AtLeaf (look : ℕ → Option (List ℕ)) (ls : List Leaf) (n : ℕ) (all : List (List ℕ)) (fence : Option (List ℕ)) : Type 0 where
    pub entries : List (List ℕ)
    pub spot : IsSpot ls n entries
    pub said : said_by (leaf_in (length c)) (look n) ≡ Some (front spot.rest 0, entries)
    pub between : IsBetween (length spot.ahead) all fence

  module _ (look : ℕ → Option (List ℕ)) (ls : List Leaf) (n : ℕ) (all : List (List ℕ)) (fence : Option (List ℕ)) (at : IsAt (length c) look (key_of t c) [] ls n all fence) (chain : BlockChain (leaf_in (length c)) look ls 0) where
    abbrev parted : Parted n at.lefts at.rights ls
    parted = part_at n at.lefts at.rights ls (sym at.hangs)

    even_left : length (marked 0 at.before) ≡ length (leaf_pieces parted.ahead)
    even_left = omega (arith, marked_length 0 at.before, at.left_even, ap (λ (l : List ℕ). length l) parted.ahead_is, numbers_length parted.ahead, pieces_length parted.ahead)

    even_right : length (marked 0 at.after) ≡ length parted.rest
    even_right = omega (arith, marked_length 0 at.after, at.right_even, ap (λ (l : List ℕ). length l) parted.rest_is, numbers_length parted.rest)

    around : lace (leaf_pieces ls) (marked 0 (at.before ++ at.after)) ≡ laced (leaf_pieces parted.ahead) (marked 0 at.before) ++ (marked 1 parted.here ++ behind (leaf_pieces parted.rest) (marked 0 at.after))
    around =
        (λ i. lace ((ap leaf_pieces parted.is ∙ pieces_append parted.ahead ((n, parted.here) ∷ parted.rest)) i) (marked_append 0 at.before at.after i))
        ∙ lace_around (leaf_pieces parted.ahead) (marked 1 parted.here) (leaf_pieces parted.rest) (marked 0 at.before) (marked 0 at.after) even_left

    around_rises : AreInByteOrder (laced (leaf_pieces parted.ahead) (marked 0 at.before) ++ (marked 1 parted.here ++ behind (leaf_pieces parted.rest) (marked 0 at.after)))
    around_rises = subst AreInByteOrder around at.rises

    all_wide : AreLeavesWide (length c) (parted.ahead ++ (n, parted.here) ∷ parted.rest)
    all_wide = subst (AreLeavesWide (length c)) parted.is (chain_wide (length c) look ls 0 chain)

    low_entries : AreAllBelow c (entries_of parted.ahead)
    low_entries =
        pieces_below parted.ahead (marked 0 at.before) (leaves_first (length c) parted.ahead ((n, parted.here) ∷ parted.rest) all_wide)
        (laced_below (key_of t c) (leaf_pieces parted.ahead) (marked 0 at.before) even_left (rises_first (laced (leaf_pieces parted.ahead) (marked 0 at.before)) _ around_rises) at.low)

    high_entries : NoneUnder (entries_of parted.rest)
    high_entries =
        behind_none parted.rest (marked 0 at.after) even_right (leaves_second (length c) parted.ahead ((n, parted.here) ∷ parted.rest) all_wide).1 at.stop
        (rises_second (marked 1 parted.here) _ (rises_second (laced (leaf_pieces parted.ahead) (marked 0 at.before)) _ around_rises))

    pub at_leaf : AtLeaf look ls n all fence
    at_leaf = record {
      between = record {
        before = at.before;
        after = at.after;
        all_is = at.all_is;
        even = at.left_even ∙ sym (ap (λ (l : List ℕ). length l) parted.ahead_is) ∙ numbers_length parted.ahead;
        low = at.low;
        stop = at.stop;
        rises = subst (λ l. AreInByteOrder (marked 0 l)) at.all_is (lace_rises (leaf_pieces ls) (marked 0 (at.before ++ at.after)) (omega (arith, marked_length 0 (at.before ++ at.after), length-append at.before at.after, at.left_even, at.right_even, ap (λ (l : List ℕ). length l) at.hangs, length-append at.lefts (n ∷ at.rights), numbers_length ls, pieces_length ls)) at.rises);
        fence_is = at.fence_is;
      };
      entries = parted.here;
      spot = record {
        ahead = parted.ahead;
        rest = parted.rest;
        is = parted.is;
        stands = record { low = below_lead c (entries_of parted.ahead) low_entries; stop = none_lead (entries_of parted.rest) high_entries };
        other = none_at (entries_of parted.rest) high_entries;
      };
      said = (chain_second (leaf_in (length c)) look parted.ahead ((n, parted.here) ∷ parted.rest) 0 (subst (λ l. BlockChain (leaf_in (length c)) look l 0) parted.is chain)).1;
    }

    pub record LeafPlace : Type 0 where
      pub here : AtLeaf look ls n all fence
      pub size : length here.spot.ahead ≡ length at.lefts

    pub leaf_place : LeafPlace
    unfolding at_leaf part_at
    leaf_place = record { here = at_leaf; size = sym (numbers_length parted.ahead) ∙ ap (λ (l : List ℕ). length l) parted.ahead_is }

-- where an entry comes in

apart_marks : (c s : List ℕ) → c ++ 1 ∷ [] ≡ s ++ 0 ∷ [] → ⊥
apart_marks c s is = absurd (omega (arith, ap last_or is, last_is c 1, last_is s 0))
  where
    last_or : List ℕ → ℕ
    last_or [] = 0
    last_or (x ∷ []) = x
    last_or (x ∷ y ∷ xs) = last_or (y ∷ xs)

    last_is : (xs : List ℕ) (m : ℕ) → last_or (xs ++ m ∷ []) ≡ m
    last_is [] m = refl
    last_is (x ∷ []) m = refl
    last_is (x ∷ y ∷ xs) m = last_is (y ∷ xs) m

module _ (c : List ℕ) where
  above_sep : (s : List ℕ) (o : Ordering) → bytes_cmp (key_of true c) (s ++ 0 ∷ []) ≡ o → is_gt o ≡ false → bytes_cmp (key_of true c) (s ++ 0 ∷ []) ≡ Less
  above_sep s Less is off = is
  above_sep s Equal is off = absurd (apart_marks c s (bytes_same (key_of true c) (s ++ 0 ∷ []) is))
  above_sep s Greater is off = absurd (cc off)

  pub behind_above : (ps : List (List (List ℕ))) (gs : List (List ℕ)) → length gs ≡ length ps → Stops (key_of true c) (marked 0 gs) → AreInByteOrder (behind ps (marked 0 gs)) → AreAllAbove (key_of true c) (behind ps (marked 0 gs))
  behind_above [] [] even stop r = tt
  behind_above (p ∷ ps) [] even stop r = absurd (omega (arith, even))
  behind_above ps (g ∷ gs) even stop r =
      let first = above_sep g (bytes_cmp (key_of true c) (g ++ 0 ∷ [])) refl stop in
      (first, above_through (key_of true c) (g ++ 0 ∷ []) (lace ps (marked 0 gs)) first r.0)

  pub marks_below : (es : List (List ℕ)) → AllWide (length c) es → AreAllBelow c es → AreAllBelow (key_of true c) (marked 1 es)
  marks_below [] wide low = tt
  marks_below (x ∷ es) wide low = (append_cmp x c (1 ∷ []) (1 ∷ []) wide.0 ∙ ap (λ o. ordering_then o (bytes_cmp (1 ∷ []) (1 ∷ []))) low.0, marks_below es wide.1 low.1)

  less_by : (o : Ordering) → is_gt o ≡ false → is_eq o ≡ false → o ≡ Less
  less_by Less a b = refl
  less_by Equal a b = absurd (cc b)
  less_by Greater a b = absurd (cc a)

  pub marks_above : (es : List (List ℕ)) → AllWide (length c) es → Stops c es → at_is c (slice_get es 0) ≡ false → AreInByteOrder (marked 1 es) → AreAllAbove (key_of true c) (marked 1 es)
  marks_above [] wide stop off r = tt
  marks_above (x ∷ es) wide stop off r =
      let first : bytes_cmp (key_of true c) (x ++ 1 ∷ []) ≡ Less = append_cmp c x (1 ∷ []) (1 ∷ []) (sym wide.0) ∙ ap (λ o. ordering_then o (bytes_cmp (1 ∷ []) (1 ∷ []))) (less_by (bytes_cmp c x) stop off) in
      (first, above_through (key_of true c) (x ++ 1 ∷ []) (marked 1 es) first r.0)

  wide_take : (k : ℕ) (xs : List (List ℕ)) → AllWide (length c) xs → AllWide (length c) (take k xs)
  wide_take zero xs a = tt
  wide_take (suc k) [] a = tt
  wide_take (suc k) (x ∷ xs) a = (a.0, wide_take k xs a.1)

  wide_drop : (k : ℕ) (xs : List (List ℕ)) → AllWide (length c) xs → AllWide (length c) (drop k xs)
  wide_drop zero xs a = a
  wide_drop (suc k) [] a = tt
  wide_drop (suc k) (x ∷ xs) a = wide_drop k xs a.1

  get_dropped : (k : ℕ) (xs : List (List ℕ)) → slice_get (drop k xs) 0 ≡ slice_get xs k
  get_dropped zero xs = refl
  get_dropped (suc k) [] = refl
  get_dropped (suc k) (x ∷ xs) = get_dropped k xs

  -- an entry between others: what is before and behind is as it was
  pub entry_comes : (before es after : List (List ℕ)) → AllWide (length c) es → AreAllBelow (key_of true c) before → AreAllAbove (key_of true c) after → at_is c (slice_get es (lead c es)) ≡ false → AreInByteOrder (before ++ (marked 1 es ++ after))
      → AreInByteOrder (before ++ (marked 1 (take (lead c es) es ++ c ∷ drop (lead c es) es) ++ after))
  entry_comes before es after wide low high off r =
      let i = lead c es in
      let parts : marked 1 es ≡ marked 1 (take i es) ++ marked 1 (drop i es) = ap (marked 1) (sym (take-append-drop i es)) ∙ marked_append 1 (take i es) (drop i es) in
      let whole : before ++ (marked 1 es ++ after) ≡ (before ++ marked 1 (take i es)) ++ (marked 1 (drop i es) ++ after) =
      ap (λ (l : List (List ℕ)). before ++ (l ++ after)) parts ∙ ap (λ (l : List (List ℕ)). before ++ l) (append_assoc (marked 1 (take i es)) (marked 1 (drop i es)) after) ∙ sym (append_assoc before (marked 1 (take i es)) (marked 1 (drop i es) ++ after)) in
      let new : before ++ (marked 1 (take i es ++ c ∷ drop i es) ++ after) ≡ (before ++ marked 1 (take i es)) ++ (c ++ 1 ∷ []) ∷ (marked 1 (drop i es) ++ after) =
      ap (λ (l : List (List ℕ)). before ++ (l ++ after)) (marked_append 1 (take i es) (c ∷ drop i es)) ∙ ap (λ (l : List (List ℕ)). before ++ l) (append_assoc (marked 1 (take i es)) ((c ++ 1 ∷ []) ∷ marked 1 (drop i es)) after)
      ∙ sym (append_assoc before (marked 1 (take i es)) ((c ++ 1 ∷ []) ∷ (marked 1 (drop i es) ++ after))) in
      let rise = subst AreInByteOrder whole r in
      let behind_rise = rises_first (marked 1 (drop i es)) after (rises_second (before ++ marked 1 (take i es)) (marked 1 (drop i es) ++ after) rise) in
      subst AreInByteOrder (sym new)
      (rises_in (before ++ marked 1 (take i es)) (c ++ 1 ∷ []) (marked 1 (drop i es) ++ after)
      (below_append (key_of true c) before (marked 1 (take i es)) low (marks_below (take i es) (wide_take i es wide) (lead_below c es)))
      (above_append (key_of true c) (marked 1 (drop i es)) after (marks_above (drop i es) (wide_drop i es wide) (lead_stops c es) (ap (at_is c) (get_dropped i es) ∙ off) behind_rise) high)
      rise)

  -- so it is in a tree, in the leaf that a way led to
  pub tree_comes : (look : ℕ → Option (List ℕ)) (ls : List Leaf) (n : ℕ) (all : List (List ℕ)) (fence : Option (List ℕ)) (at : IsAt (length c) look (key_of true c) [] ls n all fence) (ahead rest : List Leaf) (es : List (List ℕ)) → ls ≡ ahead ++ (n, es) ∷ rest → numbers ahead ≡ at.lefts → numbers rest ≡ at.rights
      → AllWide (length c) es → at_is c (slice_get es (lead c es)) ≡ false → AreInByteOrder (lace (leaf_pieces (ahead ++ (n, take (lead c es) es ++ c ∷ drop (lead c es) es) ∷ rest)) (marked 0 all))
  tree_comes look ls n all fence at ahead rest es is left right wide off =
      let even : length (marked 0 at.before) ≡ length (leaf_pieces ahead) = omega (arith, marked_length 0 at.before, at.left_even, ap (λ (l : List ℕ). length l) left, numbers_length ahead, pieces_length ahead) in
      let even' : length at.after ≡ length (leaf_pieces rest) = omega (arith, at.right_even, ap (λ (l : List ℕ). length l) right, numbers_length rest, pieces_length rest) in
      let before = laced (leaf_pieces ahead) (marked 0 at.before) in
      let after = behind (leaf_pieces rest) (marked 0 at.after) in
      let around : (ds : List (List ℕ)) → lace (leaf_pieces (ahead ++ (n, ds) ∷ rest)) (marked 0 (at.before ++ at.after)) ≡ before ++ (marked 1 ds ++ after) =
      λ ds. (λ i. lace (pieces_append ahead ((n, ds) ∷ rest) i) (marked_append 0 at.before at.after i)) ∙ lace_around (leaf_pieces ahead) (marked 1 ds) (leaf_pieces rest) (marked 0 at.before) (marked 0 at.after) even in
      let rise : AreInByteOrder (before ++ (marked 1 es ++ after)) = subst AreInByteOrder (ap (λ (l : List Leaf). lace (leaf_pieces l) (marked 0 (at.before ++ at.after))) is ∙ around es) at.rises in
      let new = entry_comes before es after wide (laced_below (key_of true c) (leaf_pieces ahead) (marked 0 at.before) even (rises_first before (marked 1 es ++ after) rise) at.low)
      (behind_above (leaf_pieces rest) at.after even' at.stop (rises_second (marked 1 es) after (rises_second before (marked 1 es ++ after) rise))) off rise in
      subst AreInByteOrder (sym (around (take (lead c es) es ++ c ∷ drop (lead c es) es)) ∙ ap (λ (f : List (List ℕ)). lace (leaf_pieces (ahead ++ (n, take (lead c es) es ++ c ∷ drop (lead c es) es) ∷ rest)) (marked 0 f)) at.all_is) new

-- the way begins at the root
pub at_root : (width : ℕ) (look : ℕ → Option (List ℕ)) (k : List ℕ) (us : List (List Inner)) (ls : List Leaf) (root : ℕ) → Hangs (root ∷ []) us (numbers ls) → SayLevels width look us → AreInByteOrder (lace (leaf_pieces ls) (marked 0 (fences [] us))) → IsAt width look k us ls root (fences [] us) None
at_root width look k us ls root hangs said rises = record {
  lefts = [];
  rights = [];
  before = [];
  after = [];
  hangs = hangs;
  inner = said;
  left_even = refl;
  right_even = refl;
  low = tt;
  stop = tt;
  rises = rises;
  all_is = refl;
  fence_is = refl;
}

pub root_lefts : (width : ℕ) (look : ℕ → Option (List ℕ)) (k : List ℕ) (us : List (List Inner)) (ls : List Leaf) (root : ℕ) (hangs : Hangs (root ∷ []) us (numbers ls)) (said : SayLevels width look us) (rises : AreInByteOrder (lace (leaf_pieces ls) (marked 0 (fences [] us)))) → length (at_root width look k us ls root hangs said rises).lefts ≡ 0
unfolding at_root
root_lefts width look k us ls root hangs said rises = refl
