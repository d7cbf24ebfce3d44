-- The list after an entry left it.
use Rattle.std.proofs.Common.{ℕ, zero, suc, ◌+◌, ◌*◌, ◌^◌, ◌≤◌, ◌<◌, ◌≡◌, ◌∙◌, List, [], ◌∷◌, ◌++◌, Bool, true, false, eqb, Some, None, length, slice_get, take, drop, refl, sym, ap, subst, length-append, length-take, length-drop, append_assoc, arith}
use Rattle.std.specs.declared.option.Option.{Option}
use Rattle.std.specs.Prelude.{IfSome}
use Rattle.std.proofs.lemmas.Bool.Decides.{nat_tests}
use Rattle.dms_block.specs.Content.{put_block}
use Rattle.dms_ordlist.specs.declared.place.Look.{Look}
use Rattle.dms_ordlist.specs.declared.place.ListPlace.{ListPlace}
use Rattle.dms_ordlist.specs.declared.place.NumberedLeaf.{NumberedLeaf}
use Rattle.dms_chain.specs.Leads.{at_is, lead, rises_first, rises_second, rises_without, rising_is}
use Rattle.dms_chain.specs.Linked.{front}
use Rattle.dms_chain.specs.ListBlocks.{flat, free_bytes, head_bytes, leaf_bytes}
use Rattle.dms_ordlist.specs.ListChanges.{place_holds, list_at, low_next, more_times, place, rising, whole_low}
use Rattle.dms_chain.specs.Parts.{front_low, wide_both, wide_drop, wide_take}
use Rattle.dms_chain.specs.ListIn.{IsList, Leaf, Spare, entries_of, list_in}
use Rattle.dms_chain.specs.Lists.{AreInByteOrder, without}
use Rattle.dms_ordlist.specs.ListWrites.{first_freed, here_written, later_freed}
use Rattle.dms_chain.specs.Located.{lead_le, located_without}
use Rattle.dms_ordlist.specs.Looks.{IsLook, locates, look_rises, parts_of}
use Rattle.dms_ordlist.specs.Places.{Before, PlaceHolds, SpotHolds, entries_append, link_of}
use Rattle.dms_chain.specs.Seen.{IsListWidth}
use Rattle.dms_chain.specs.SpellLaws.{AllWide, few_enough, free_again, leaf_again, wide_room}

-- the entries of the block without the one at its place
abbrev pub without_at_place : List ℕ → List (List ℕ) → List (List ℕ)
without_at_place c es = take (lead c es) es ++ drop (suc (lead c es)) es

-- the blocks after one became the first free one: the head, or the block before it, leads to the next one
abbrev pub release_block : Option NumberedLeaf → ℕ → ℕ → ℕ → ℕ → List (List ℕ) → List (List ℕ)
release_block None first free b next bs = put_block b (free_bytes free) (put_block 0 (head_bytes next b) bs)
release_block (Some s) first free b next bs = put_block b (free_bytes free) (put_block s.number (leaf_bytes next s.leaf.entries.items) (put_block 0 (head_bytes first b) bs))

-- a block whose entries fit, at a number of the file
pub record LeafSpotFits (count : ℕ) (s : NumberedLeaf) : Type 0 where
  pub few : length s.leaf.entries.items ≤ 1017
  pub room : length (flat s.leaf.entries.items) ≤ 1017
  pub there : s.number < count

pub spot_fits : (width count : ℕ) (o : Option NumberedLeaf) → IsListWidth width → IfSome o (SpotHolds width count) → IfSome o (LeafSpotFits count)
spot_fits width count None w holds = holds
spot_fits width count (Some s) w holds = record {
  few = few_enough width (length s.leaf.entries.items) w.low holds.leaf.holds.room;
  room = wide_room width s.leaf.entries.items holds.leaf.wide holds.leaf.holds.room;
  there = holds.there;
}

spare_low : (width count : ℕ) (look : ℕ → Option (List ℕ)) (ls : List Leaf) (fs : List Spare) → IsList width count look ls fs → front fs 0 < count
spare_low width count look ls fs is = front_low fs count (omega (arith, is.count_is)) (λ n some. is.low n (omega (arith, some)))

-- the block of the last entry leaves the chain
released_list : (width count : ℕ) (bs : List (List ℕ)) (before : Option NumberedLeaf) (ahead behind : List Leaf) (b : ℕ) (es : List (List ℕ)) (fs : List Spare) (first free next : ℕ) → IsListWidth width → Before before ahead → IfSome before (SpotHolds width count)
    → IsList width (length bs) (slice_get bs) (ahead ++ (b, es) ∷ behind) fs → first ≡ front (ahead ++ (b, es) ∷ behind) 0 → free ≡ front fs 0 → next ≡ front behind 0 → b < count → count ≡ length bs → length bs ≤ 1048576 → AreInByteOrder (entries_of ahead ++ entries_of behind)
    → list_in width (release_block before first free b next bs) ≡ Some (entries_of ahead ++ entries_of behind)
released_list width count bs None ahead behind b es fs first free next w at holds is head_is free_is next_is there size room rises =
    let list = subst (λ (a : List Leaf). IsList width (length bs) (slice_get bs) (a ++ (b, es) ∷ behind) fs) at is in
    let rest : entries_of ahead ++ entries_of behind ≡ entries_of behind = ap (λ (a : List Leaf). entries_of a ++ entries_of behind) at in
    let low : front behind 0 < length bs = low_next width (length bs) (slice_get bs) ahead behind (b, es) fs is in
    let spare = spare_low width (length bs) (slice_get bs) (ahead ++ (b, es) ∷ behind) fs is in
    ap (λ n. list_in width (put_block b (free_bytes free) (put_block 0 (head_bytes n b) bs))) next_is
    ∙ first_freed width bs behind b es fs (free_bytes free) list (omega (arith, there, size)) (omega (arith, there, size, room)) (omega (arith, room, low))
    (free_again free (omega (arith, free_is, room, spare)) ∙ ap (λ n. Some (n, tt)) free_is) (subst AreInByteOrder rest rises)
    ∙ ap Some (sym rest)
released_list width count bs (Some s) ahead behind b es fs first free next w at holds is head_is free_is next_is there size room rises =
    let q = at.0 in
    let ds = s.leaf.entries.items in
    let whole : ahead ++ (b, es) ∷ behind ≡ q ++ link_of s ∷ ((b, es) ∷ behind) = ap (λ (a : List Leaf). a ++ (b, es) ∷ behind) at.1 ∙ append_assoc q (link_of s ∷ []) ((b, es) ∷ behind) in
    let others : ahead ++ behind ≡ q ++ link_of s ∷ behind = ap (λ (a : List Leaf). a ++ behind) at.1 ∙ append_assoc q (link_of s ∷ []) behind in
    let rest : entries_of ahead ++ entries_of behind ≡ entries_of (q ++ link_of s ∷ behind) = sym (entries_append ahead behind) ∙ ap entries_of others in
    let list = subst (λ (l : List Leaf). IsList width (length bs) (slice_get bs) l fs) whole is in
    let low : front behind 0 < length bs = low_next width (length bs) (slice_get bs) ahead behind (b, es) fs is in
    let spare = spare_low width (length bs) (slice_get bs) (ahead ++ (b, es) ∷ behind) fs is in
    let low_first = whole_low width (length bs) (slice_get bs) (ahead ++ (b, es) ∷ behind) fs is in
    later_freed width bs first q behind s.number b ds es fs (leaf_bytes next ds) (free_bytes free) list (head_is ∙ ap (λ (l : List Leaf). front l 0) whole)
    (omega (arith, holds.there, size)) (omega (arith, there, size)) (omega (arith, there, size, room)) (omega (arith, head_is, low_first, room))
    (leaf_again width next ds (omega (arith, w.low)) (omega (arith, next_is, room, low)) holds.leaf.wide holds.leaf.holds ∙ ap (λ n. Some (n, ds)) next_is)
    (free_again free (omega (arith, free_is, room, spare)) ∙ ap (λ n. Some (n, tt)) free_is) (subst AreInByteOrder rest rises)
    ∙ ap Some (sym rest)

nil_of : {A : Type 0} (xs : List A) → length xs ≡ 0 → xs ≡ []
nil_of [] none = refl
nil_of (x ∷ xs) none = absurd (omega (arith, none))

pub less_items : (c : List ℕ) (es new : List (List ℕ)) (i : ℕ) → i ≡ lead c es → new ≡ take i es ++ drop (i + 1) es → new ≡ without_at_place c es
less_items c es new i place is = is ∙ (λ j. take (place j) es ++ drop (place j + 1) es) ∙ ap (λ k. take (lead c es) es ++ drop k es) (let e : lead c es + 1 ≡ suc (lead c es) = omega arith in e)

pub none_left : (n : ℕ) (t : Bool) → t ≡ eqb n 0 → t ≡ true → n ≡ 0
none_left zero t is on = refl
none_left (suc n) t is on =
    let off : eqb (suc n) 0 ≡ false = grind (arith, nat_tests) in
    let wrong : false ≡ true = sym off ∙ sym is ∙ on in
    absurd (cc wrong)

pub some_left : (n : ℕ) (t : Bool) → t ≡ eqb n 0 → t ≡ false → 0 < n
some_left zero t is off = absurd (cc (sym is ∙ off))
some_left (suc n) t is off = omega arith

-- fewer entries fit
pub wide_less : (c : List ℕ) (w : ℕ) (es : List (List ℕ)) → AllWide w es → AllWide w (without_at_place c es)
wide_less c w es wide = wide_both w (take (lead c es) es) (drop (suc (lead c es)) es) (wide_take w (lead c es) es wide) (wide_drop w (suc (lead c es)) es wide)

pub less_fits : (c : List ℕ) (w : ℕ) (es : List (List ℕ)) → length es * w ≤ 1017 → length (without_at_place c es) * w ≤ 1017
less_fits c w es room =
    let size : length (without_at_place c es) ≤ length es =
    omega (arith, length-append (take (lead c es) es) (drop (suc (lead c es)) es), length-take (lead c es) es, length-drop (suc (lead c es)) es, lead_le c es) in
    omega (arith, room, more_times (length (without_at_place c es)) (length es) w size)

module _ (c : List ℕ) (width count : ℕ) (bs : List (List ℕ)) (xs : List (List ℕ)) (r : Look) (p : ListPlace) (w : IsListWidth width) (l : IsLook c width bs xs r) (is : r.place ≡ Some p) (holds : IfSome r.place (PlaceHolds width count)) where
  abbrev es : List (List ℕ)
  es = p.here.leaf.entries.items

  without_parts : at_is c (slice_get es (lead c es)) ≡ true → without c xs ≡ entries_of (place c width count bs xs r p w l is holds).ahead ++ (without_at_place c es ++ entries_of (place c width count bs xs r p w l is holds).behind)
  without_parts on =
      let at = place c width count bs xs r p w l is holds in
      ap (without c) (sym l.entries ∙ parts_of c l.leaves p at)
      ∙ located_without c (entries_of at.ahead) es (entries_of at.behind) (locates c l.leaves p at) (subst AreInByteOrder (parts_of c l.leaves p at) (look_rises c width bs xs r l)) on

  -- the entry leaves its block
  pub here_removed : length bs ≤ 1048576 → count ≡ length bs → at_is c (slice_get es (lead c es)) ≡ true → 0 < length (without_at_place c es)
      → list_in width (put_block p.here.number (leaf_bytes p.here.leaf.next (without_at_place c es)) bs) ≡ Some (without c xs)
  here_removed room size on some =
      let at = place c width count bs xs r p w l is holds in
      let h = place_holds c width count bs xs r p w l is holds in
      let new = without_at_place c es in
      let rises = rises_without c xs (rising c width count bs xs r p w l is holds) in
      let list = list_at c width count bs xs r p w l is holds l.leaves l.list at.is in
      let low : p.here.leaf.next < 2 ^ 32 = omega (arith, at.next, room, low_next width (length bs) (slice_get bs) at.ahead at.behind (link_of p.here) l.spares list) in
      let rise = rises_first new (entries_of at.behind) (rises_second (entries_of at.ahead) (new ++ entries_of at.behind) (subst AreInByteOrder (without_parts on) rises)) in
      let reads = leaf_again width p.here.leaf.next new (omega (arith, w.low)) low (wide_less c width es h.here.leaf.wide) (record { some = some; room = less_fits c width es h.here.leaf.holds.room; rising = rising_is new rise }) ∙ ap (λ n. Some (n, new)) at.next in
      let whole : entries_of (at.ahead ++ (p.here.number, new) ∷ at.behind) ≡ without c xs = entries_append at.ahead ((p.here.number, new) ∷ at.behind) ∙ sym (without_parts on) in
      here_written width bs at.ahead at.behind p.here.number es new l.spares (leaf_bytes p.here.leaf.next new) list (omega (arith, h.here.there, size)) reads (subst AreInByteOrder (sym whole) rises) ∙ ap Some whole

  -- the last entry of its block leaves, and the block with it
  pub last_removed : length bs ≤ 1048576 → count ≡ length bs → at_is c (slice_get es (lead c es)) ≡ true → length (without_at_place c es) ≡ 0
      → list_in width (release_block p.before r.head.first r.head.free p.here.number p.here.leaf.next bs) ≡ Some (without c xs)
  last_removed room size on none =
      let at = place c width count bs xs r p w l is holds in
      let h = place_holds c width count bs xs r p w l is holds in
      let rises = rises_without c xs (rising c width count bs xs r p w l is holds) in
      let list = list_at c width count bs xs r p w l is holds l.leaves l.list at.is in
      let whole : without c xs ≡ entries_of at.ahead ++ entries_of at.behind = without_parts on ∙ ap (λ (k : List (List ℕ)). entries_of at.ahead ++ (k ++ entries_of at.behind)) (nil_of (without_at_place c es) none) in
      released_list width count bs p.before at.ahead at.behind p.here.number es l.spares r.head.first r.head.free p.here.leaf.next w at.before h.before list (l.first ∙ ap (λ (ls : List Leaf). front ls 0) at.is) l.free at.next h.here.there size room
      (subst AreInByteOrder whole rises) ∙ ap Some (sym whole)
