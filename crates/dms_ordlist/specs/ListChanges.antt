-- The list after one entry came into it, or left it.
use Rattle.std.proofs.Common.{ℕ, zero, suc, ◌+◌, ◌*◌, ◌^◌, ◌≤◌, ◌<◌, max, ◌≡◌, ◌⊎◌, inl, inr, ◌∙◌, List, [], ◌∷◌, ◌++◌, Bool, true, false, Some, None, length, slice_get, take, drop, refl, sym, ap, subst, length-append, length-take, length-drop, append_assoc, ◌-◌, ◌/◌, arith}
use Rattle.std.specs.declared.option.Option.{Option}
use Rattle.std.specs.Prelude.{IfSome}
use Rattle.std.proofs.lemmas.List.{take-append-drop}
use Rattle.dms_block.specs.Content.{put_block}
use Rattle.dms_ordlist.specs.declared.place.Look.{Look}
use Rattle.dms_ordlist.specs.declared.place.ListPlace.{ListPlace}
use Rattle.dms_chain.specs.Leads.{at_is, lead, rises_first, rises_second, rises_with, rising_is}
use Rattle.dms_chain.specs.Linked.{BlockChain, front, numbers, said_by, times}
use Rattle.dms_chain.specs.LinkedLaws.{numbers_times, times_own}
use Rattle.dms_chain.specs.ListBlocks.{free_in, head_bytes, leaf_bytes, leaf_in}
use Rattle.dms_chain.specs.ListIn.{IsList, Leaf, Spare, entries_of, list_in}
use Rattle.dms_chain.specs.Lists.{AreInByteOrder, has_entry, with_entry, without}
use Rattle.dms_ordlist.specs.ListWrites.{Taken, begun_written, here_written, split_written}
use Rattle.dms_chain.specs.Located.{located_has, located_missing, located_stands, located_with}
use Rattle.dms_ordlist.specs.Looks.{IsLook, ListOr, locates, look_at, look_rises, parts_of}
use Rattle.dms_ordlist.specs.Places.{IsPlace, PlaceHolds, entries_append, link_of}
use Rattle.dms_chain.specs.Seen.{IsListWidth}
use Rattle.dms_chain.specs.SpellLaws.{AllWide, leaf_again, leaf_is}
use Rattle.dms_chain.specs.Parts.{at_same, front_low, wide_both, wide_drop, wide_take}

free_low : (width : ℕ) (bs : List (List ℕ)) (first : ℕ) (ls : List Leaf) (f free : ℕ) → (t : Taken width bs first ls f free) → free < max (length bs) (f + 1)
free_low width bs first ls f free t =
    let o = t.chains in
    subst (λ n. n < max (length bs) (f + 1)) o.free_is (front_low t.spares (max (length bs) (f + 1)) (omega (arith, o.count_is)) (λ n some. o.low n (omega (arith, some))))

-- the first entry of a list
pub begun_list : (width : ℕ) (bs : List (List ℕ)) (first f free : ℕ) (entry : List ℕ) → IsListWidth width → Taken width bs first [] f free → length bs ≤ 1048576 → length entry ≡ width
    → list_in width (put_block f (leaf_bytes 0 (entry ∷ [])) (put_block 0 (head_bytes f free) bs)) ≡ Some (entry ∷ [])
begun_list width bs first f free entry w t room wide =
    let es = entry ∷ [] in
    begun_written width bs first f free es (leaf_bytes 0 es) t (omega (arith, t.near, room)) (omega (arith, t.near, room, free_low width bs first [] f free t))
    (leaf_again width 0 es (omega (arith, w.low)) (omega arith) (wide, tt) (record { some = omega arith; room = omega (arith, w.most); rising = refl })) (tt, tt)

-- what holds of the place
pub holds_at : (w count : ℕ) (o : Option ListPlace) (p : ListPlace) → o ≡ Some p → IfSome o (PlaceHolds w count) → PlaceHolds w count p
holds_at w count o p is h = subst (λ x. IfSome x (PlaceHolds w count)) is h

-- the list of a look, with the place
record ListParts (c : List ℕ) (width : ℕ) (bs : List (List ℕ)) (xs : List (List ℕ)) (r : Look) (p : ListPlace) : Type 0 where
  pub ahead : List Leaf
  pub behind : List Leaf
  pub spares : List Spare
  pub list : IsList width (length bs) (slice_get bs) (ahead ++ link_of p.here ∷ behind) spares
  pub next : p.here.leaf.next ≡ front behind 0
  pub first : r.head.first ≡ front (ahead ++ link_of p.here ∷ behind) 0
  pub free : r.head.free ≡ front spares 0
  pub whole : xs ≡ entries_of ahead ++ (p.here.leaf.entries.items ++ entries_of behind)

nothing_in : {A : Type 0} (xs ys : List A) (x : A) → xs ++ x ∷ ys ≡ [] → ⊥
nothing_in [] ys x h = cc h
nothing_in (y ∷ xs) ys x h = cc h

parts_by : (c : List ℕ) (width : ℕ) (bs : List (List ℕ)) (xs : List (List ℕ)) (r : Look) (p : ListPlace) (l : IsLook c width bs xs r) → (at : IsPlace c l.leaves p) → ListOr width bs l.leaves l.spares → ListParts c width bs xs r p
parts_by c width bs xs r p l at (inl none) = absurd (nothing_in at.ahead at.behind (link_of p.here) (sym at.is ∙ none.1))
parts_by c width bs xs r p l at (inr is) = record {
  ahead = at.ahead;
  behind = at.behind;
  spares = l.spares;
  list = subst (λ ls. IsList width (length bs) (slice_get bs) ls l.spares) at.is is;
  next = at.next;
  first = l.first ∙ ap (λ ls. front ls 0) at.is;
  free = l.free;
  whole = sym l.entries ∙ parts_of c l.leaves p at;
}

parts : (c : List ℕ) (width : ℕ) (bs : List (List ℕ)) (xs : List (List ℕ)) (r : Look) (p : ListPlace) (l : IsLook c width bs xs r) → (at : IsPlace c l.leaves p) → ListParts c width bs xs r p
parts c width bs xs r p l at = parts_by c width bs xs r p l at l.list

pub low_next : (width count : ℕ) (look : ℕ → Option (List ℕ)) (p s : List Leaf) (l : Leaf) (fs : List Spare) → IsList width count look (p ++ l ∷ s) fs → front s 0 < count
low_next width count look p s l fs is =
    front_low s count (omega (arith, is.count_is)) (λ n some. is.low n (omega (arith, some, numbers_times n p (l ∷ s))))

pub whole_low : (width count : ℕ) (look : ℕ → Option (List ℕ)) (ls : List Leaf) (fs : List Spare) → IsList width count look ls fs → front ls 0 < count
whole_low width count look ls fs is = front_low ls count (omega (arith, is.count_is)) (λ n some. is.low n (omega (arith, some)))

-- the entries of the block with the new one
abbrev pub with_at_place : List ℕ → List (List ℕ) → List (List ℕ)
with_at_place c es = take (lead c es) es ++ c ∷ drop (lead c es) es

module _ (c : List ℕ) (width count : ℕ) (bs : List (List ℕ)) (xs : List (List ℕ)) (r : Look) (p : ListPlace) (w : IsListWidth width) (l : IsLook c width bs xs r) (is : r.place ≡ Some p) (holds : IfSome r.place (PlaceHolds width count)) where
  abbrev es : List (List ℕ)
  es = p.here.leaf.entries.items

  abbrev pub place : IsPlace c l.leaves p
  place = look_at c width bs xs r p l is

  abbrev found : ListParts c width bs xs r p
  found = parts c width bs xs r p l place

  pub place_holds : PlaceHolds width count p
  place_holds = subst (λ o. IfSome o (PlaceHolds width count)) is holds

  pub rising : AreInByteOrder xs
  rising = subst AreInByteOrder l.entries (look_rises c width bs xs r l)

  -- it stands already
  pub stands_has : at_is c (slice_get es (lead c es)) ≡ true → has_entry c xs ≡ true
  stands_has on =
      let at = place in
      ap (has_entry c) (sym l.entries ∙ parts_of c l.leaves p at)
      ∙ located_has c (entries_of at.ahead) es (entries_of at.behind) (locates c l.leaves p at) (subst AreInByteOrder (parts_of c l.leaves p at) (look_rises c width bs xs r l)) ∙ on

  pub missing_has : at_is c (slice_get es (lead c es)) ≡ false → has_entry c xs ≡ false
  missing_has off =
      let at = place in
      ap (has_entry c) (sym l.entries ∙ parts_of c l.leaves p at)
      ∙ located_has c (entries_of at.ahead) es (entries_of at.behind) (locates c l.leaves p at) (subst AreInByteOrder (parts_of c l.leaves p at) (look_rises c width bs xs r l)) ∙ off

  pub stands_with : at_is c (slice_get es (lead c es)) ≡ true → with_entry c xs ≡ xs
  stands_with on =
      let at = place in
      let whole = sym l.entries ∙ parts_of c l.leaves p at in
      ap (with_entry c) whole ∙ located_stands c (entries_of at.ahead) es (entries_of at.behind) (locates c l.leaves p at) on ∙ sym whole

  pub missing_without : at_is c (slice_get es (lead c es)) ≡ false → without c xs ≡ xs
  missing_without off =
      let at = place in
      let whole = sym l.entries ∙ parts_of c l.leaves p at in
      ap (without c) whole ∙ located_missing c (entries_of at.ahead) es (entries_of at.behind) (locates c l.leaves p at) (subst AreInByteOrder (parts_of c l.leaves p at) (look_rises c width bs xs r l)) off ∙ sym whole

  with_parts : at_is c (slice_get es (lead c es)) ≡ false → with_entry c xs ≡ entries_of place.ahead ++ (with_at_place c es ++ entries_of place.behind)
  with_parts off =
      let at = place in
      ap (with_entry c) (sym l.entries ∙ parts_of c l.leaves p at) ∙ located_with c (entries_of at.ahead) es (entries_of at.behind) (locates c l.leaves p at) off

  new_wide : length c ≡ width → AllWide width (with_at_place c es)
  new_wide wide = wide_both width (take (lead c es) es) (c ∷ drop (lead c es) es) (wide_take width (lead c es) es place_holds.here.leaf.wide) (wide, wide_drop width (lead c es) es place_holds.here.leaf.wide)

  new_rises : at_is c (slice_get es (lead c es)) ≡ false → AreInByteOrder (with_at_place c es ++ entries_of place.behind)
  new_rises off = rises_second (entries_of place.ahead) (with_at_place c es ++ entries_of place.behind) (subst AreInByteOrder (with_parts off) (rises_with c xs rising))

  pub list_at : (ls : List Leaf) → ListOr width bs l.leaves l.spares → (p' : l.leaves ≡ place.ahead ++ link_of p.here ∷ place.behind) → IsList width (length bs) (slice_get bs) (place.ahead ++ link_of p.here ∷ place.behind) l.spares
  list_at ls (inl none) e = absurd (nothing_in place.ahead place.behind (link_of p.here) (sym e ∙ none.1))
  list_at ls (inr list) e = subst (λ k. IsList width (length bs) (slice_get bs) k l.spares) e list

  -- the entry comes into its block
  pub here_list : length c ≡ width → length bs ≤ 1048576 → count ≡ length bs → at_is c (slice_get es (lead c es)) ≡ false → length (with_at_place c es) * width ≤ 1017
      → list_in width (put_block p.here.number (leaf_bytes p.here.leaf.next (with_at_place c es)) bs) ≡ Some (with_entry c xs)
  here_list wide room size off fits =
      let at = place in
      let new = with_at_place c es in
      let list = list_at l.leaves l.list at.is in
      let low : p.here.leaf.next < 2 ^ 32 = omega (arith, at.next, room, low_next width (length bs) (slice_get bs) at.ahead at.behind (link_of p.here) l.spares list) in
      let rise = rises_first new (entries_of at.behind) (new_rises off) in
      let some : 0 < length new = omega (arith, length-append (take (lead c es) es) (c ∷ drop (lead c es) es)) in
      let reads = leaf_again width p.here.leaf.next new (omega (arith, w.low)) low (new_wide wide) (record { some = some; room = fits; rising = rising_is new rise }) ∙ ap (λ n. Some (n, new)) at.next in
      let whole : entries_of (at.ahead ++ (p.here.number, new) ∷ at.behind) ≡ with_entry c xs = entries_append at.ahead ((p.here.number, new) ∷ at.behind) ∙ sym (with_parts off) in
      here_written width bs at.ahead at.behind p.here.number es new l.spares (leaf_bytes p.here.leaf.next new) list (omega (arith, place_holds.here.there, size)) reads (subst AreInByteOrder (sym whole) (rises_with c xs rising)) ∙ ap Some whole

  -- its block is parted
  pub split_list : (m f free : ℕ) → length c ≡ width → length bs ≤ 1048576 → count ≡ length bs → at_is c (slice_get es (lead c es)) ≡ false → 0 < m → m < length (with_at_place c es)
      → length (take m (with_at_place c es)) * width ≤ 1017 → length (drop m (with_at_place c es)) * width ≤ 1017 → 0 < length (take m (with_at_place c es)) → 0 < length (drop m (with_at_place c es)) → Taken width bs (front l.leaves 0) l.leaves f free
      → list_in width (put_block p.here.number (leaf_bytes f (take m (with_at_place c es))) (put_block f (leaf_bytes p.here.leaf.next (drop m (with_at_place c es))) (put_block 0 (head_bytes r.head.first free) bs))) ≡ Some (with_entry c xs)
  split_list m f free wide room size off some below fits fits' some' some'' t =
      let at = place in
      let new = with_at_place c es in
      let less = take m new in
      let more = drop m new in
      let list = list_at l.leaves l.list at.is in
      let low : p.here.leaf.next < 2 ^ 32 = omega (arith, at.next, room, low_next width (length bs) (slice_get bs) at.ahead at.behind (link_of p.here) l.spares list) in
      let low_first : r.head.first < 2 ^ 32 = omega (arith, l.first, ap (λ ls. front ls 0) at.is, room, whole_low width (length bs) (slice_get bs) (at.ahead ++ link_of p.here ∷ at.behind) l.spares list) in
      let rise = rises_first new (entries_of at.behind) (new_rises off) in
      let parts_rise = subst AreInByteOrder (sym (take-append-drop m new)) rise in
      let upper = leaf_again width p.here.leaf.next more (omega (arith, w.low)) low (wide_drop width m new (new_wide wide)) (record { some = some''; room = fits'; rising = rising_is more (rises_second less more parts_rise) }) ∙ ap (λ n. Some (n, more)) at.next in
      let lower = leaf_again width f less (omega (arith, w.low)) (omega (arith, t.near, room)) (wide_take width m new (new_wide wide)) (record { some = some'; room = fits; rising = rising_is less (rises_first less more parts_rise) }) in
      let halves : entries_of ((p.here.number, less) ∷ ((f, more) ∷ at.behind)) ≡ new ++ entries_of at.behind = sym (append_assoc less more (entries_of at.behind)) ∙ ap (λ (k : List (List ℕ)). k ++ entries_of at.behind) (take-append-drop m new) in
      let whole : entries_of (at.ahead ++ (p.here.number, less) ∷ ((f, more) ∷ at.behind)) ≡ with_entry c xs =
      entries_append at.ahead ((p.here.number, less) ∷ ((f, more) ∷ at.behind)) ∙ ap (λ (k : List (List ℕ)). entries_of at.ahead ++ k) halves ∙ sym (with_parts off) in
      let t' = subst (λ ls. Taken width bs r.head.first ls f free) at.is (subst (λ n. Taken width bs n l.leaves f free) (sym l.first) t) in
      split_written width bs r.head.first f free at.ahead at.behind p.here.number es less more (leaf_bytes f less) (leaf_bytes p.here.leaf.next more) t' (omega (arith, place_holds.here.there, size)) low_first (omega (arith, t.near, room, free_low width bs (front l.leaves 0) l.leaves f free t)) upper lower
      (subst AreInByteOrder (sym whole) (rises_with c xs rising)) ∙ ap Some whole

-- parts of a block that has one entry too many

pub more_times : (a b w : ℕ) → a ≤ b → a * w ≤ b * w
more_times a b w h = grind arith

one_times : (k w : ℕ) → (k + 1) * w ≡ k * w + w
one_times k w = grind arith

part_fits : (w len k : ℕ) → w ≤ 104 → len * w ≤ 1017 + w → (k < len) ⊎ (len ≤ 1) → k ≤ len → k * w ≤ 1017
part_fits w len k most almost (inl low) le = omega (arith, almost, one_times k w, more_times (k + 1) len w (omega (arith, low)))
part_fits w len k most almost (inr few) le = omega (arith, most, more_times k 1 w (omega (arith, le, few)), one_times 0 w)

few_or : (len : ℕ) → (1 < len) ⊎ (len ≤ 1)
few_or zero = inr (omega arith)
few_or (suc zero) = inr (omega arith)
few_or (suc (suc n)) = inl (omega arith)

half_low : (len : ℕ) → (1 < len) ⊎ (len ≤ 1) → (len / 2 < len) ⊎ (len ≤ 1)
half_low len (inl more) = inl (omega (arith, more))
half_low len (inr few) = inr few

rest_low : (len : ℕ) → (1 < len) ⊎ (len ≤ 1) → (len - len / 2 < len) ⊎ (len ≤ 1)
rest_low len (inl more) = inl (omega (arith, more))
rest_low len (inr few) = inr few

pub lower_fits : (w half : ℕ) (es : List (List ℕ)) → IsListWidth w → half ≡ length es / 2 → length es * w ≤ 1017 + w → length (take half es) * w ≤ 1017
lower_fits w half es width is almost =
    let size : length (take half es) ≡ length es / 2 = omega (arith, is, length-take half es) in
    subst (λ n. n * w ≤ 1017) (sym size) (part_fits w (length es) (length es / 2) width.most almost (half_low (length es) (few_or (length es))) (omega arith))

pub upper_fits : (w half : ℕ) (es : List (List ℕ)) → IsListWidth w → half ≡ length es / 2 → length es * w ≤ 1017 + w → length (drop half es) * w ≤ 1017
upper_fits w half es width is almost =
    let size : length (drop half es) ≡ length es - length es / 2 = omega (arith, is, length-drop half es) in
    subst (λ n. n * w ≤ 1017) (sym size) (part_fits w (length es) (length es - length es / 2) width.most almost (rest_low (length es) (few_or (length es))) (omega arith))

-- a block with one entry more has at most one too many
pub one_over : (w : ℕ) (es : List (List ℕ)) (i : ℕ) (c : List ℕ) → i ≤ length es → length es * w ≤ 1017 → length (take i es ++ c ∷ drop i es) * w ≤ 1017 + w
one_over w es i c le room =
    let size : length (take i es ++ c ∷ drop i es) ≡ length es + 1 = omega (arith, le, length-append (take i es) (c ∷ drop i es), length-take i es, length-drop i es) in
    subst (λ n. n * w ≤ 1017 + w) (sym size) (omega (arith, room, one_times (length es) w))

many_or : (len w : ℕ) → w ≤ 104 → 1017 < len * w → (len ≤ 9) ⊎ (9 < len) → 9 < len
many_or len w most many (inl few) = absurd (omega (arith, many, more_times len 9 w few, most))
many_or len w most many (inr h) = h

le_or : (n m : ℕ) → (n ≤ m) ⊎ (m < n)
le_or zero m = inl (omega arith)
le_or (suc n) zero = inr (omega arith)
le_or (suc n) (suc m) = both (le_or n m)
  where
    both : (n ≤ m) ⊎ (m < n) → (suc n ≤ suc m) ⊎ (suc m < suc n)
    both (inl h) = inl (omega (arith, h))
    both (inr h) = inr (omega (arith, h))

-- so many entries don't fit one block: there are some for two
pub many_some : (len w : ℕ) → w ≤ 104 → 1017 < len * w → 9 < len
many_some len w most many = many_or len w most many (le_or len 9)

-- the first free block of a list is a free one
pub no_spare : (width : ℕ) (bs : List (List ℕ)) (ls : List Leaf) (fs : List Spare) (free : ℕ) → ListOr width bs ls fs → free ≡ front fs 0 → (free ≡ 0 → ⊥) → said_by free_in (slice_get bs free) ≡ None → ⊥
no_spare width bs ls fs free (inl none) is some said = some (is ∙ ap (λ (l : List Spare). front l 0) none.2)
no_spare width bs ls [] free (inr list) is some said = some is
no_spare width bs ls (x ∷ fs) free (inr list) is some said =
    let one : Option Spare = None in
    let two : Option Spare = Some (front fs 0, x.1) in
    let same : one ≡ two = sym said ∙ ap (λ n. said_by free_in (slice_get bs n)) is ∙ list.free.1 in
    cc same

-- each block of a list holds an entry
chain_few : (width : ℕ) (look : ℕ → Option (List ℕ)) (ls : List Leaf) (behind : ℕ) → BlockChain (leaf_in width) look ls behind → length ls ≤ length (entries_of ls)
chain_few width look [] behind chain = omega arith
chain_few width look (l ∷ ls) behind chain =
    omega (arith, leaf_some width (look l.0) (front ls behind) l.1 chain.1, chain_few width look ls behind chain.2, length-append l.1 (entries_of ls))
  where
    leaf_some : (width : ℕ) (o : Option (List ℕ)) (next : ℕ) (es : List (List ℕ)) → said_by (leaf_in width) o ≡ Some (next, es) → 0 < length es
    leaf_some width None next es said = absurd (cc said)
    leaf_some width (Some b) next es said = (leaf_is width b next es said).holds.some

-- so a list has no more blocks than entries
pub leaves_few : (c : List ℕ) (width : ℕ) (bs : List (List ℕ)) (xs : List (List ℕ)) (r : Look) (l : IsLook c width bs xs r) → length l.leaves ≤ length xs
leaves_few c width bs xs r l = omega (arith, few l.leaves l.spares l.list, ap length l.entries)
  where
    few : (ls : List Leaf) (fs : List Spare) → ListOr width bs ls fs → length ls ≤ length (entries_of ls)
    few ls fs (inl none) = omega (arith, ap length none.1)
    few ls fs (inr is) = chain_few width (slice_get bs) ls 0 is.chain

-- the blocks of a list that gets one more entry
pub room_after : (c : List ℕ) (width : ℕ) (bs : List (List ℕ)) (xs : List (List ℕ)) (r : Look) (l : IsLook c width bs xs r) (f free n old : ℕ) → Taken width bs (front l.leaves 0) l.leaves f free → old ≡ length bs → n ≡ max old (f + 1) → n ≤ max old (2 + length xs)
room_after c width bs xs r l f free n old t size is = omega (arith, t.room, leaves_few c width bs xs r l, size, is)
