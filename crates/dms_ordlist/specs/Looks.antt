-- What one look at a list tells.
use Rattle.std.proofs.Common.{ℕ, zero, suc, ◌-◌, ◌≤◌, ◌<◌, ◌≡◌, ◌⊎◌, inl, inr, ◌∙◌, List, [], ◌∷◌, ◌++◌, Some, None, length, slice_get, take, refl, sym, ap, subst, arith}
use Rattle.std.specs.Prelude.{IfSome, IsTrue, MatchOption}
use Rattle.std.specs.declared.option.Option.{Option}
use Rattle.dms_block.specs.declared.blocks.Blocks.{Ghosts}
use Rattle.dms_block.specs.declared.overlay.Overlay.{Overlay}
use Rattle.dms_block.specs.View.{overlay_content, under}
use Rattle.dms_ordlist.specs.declared.place.NumberedLeaf.{NumberedLeaf}
use Rattle.dms_ordlist.specs.declared.place.ListPlace.{ListPlace}
use Rattle.dms_ordlist.specs.declared.place.Look.{Look}
use Rattle.dms_chain.specs.Leads.{last_of, lead}
use Rattle.dms_chain.specs.Linked.{BlockChain, front, said_by}
use Rattle.dms_chain.specs.ListBlocks.{head_in, leaf_in}
use Rattle.dms_chain.specs.ListIn.{IsList, Leaf, Spare, entries_of, list_in}
use Rattle.dms_chain.specs.ListInLaws.{list_is, none_is}
use Rattle.dms_chain.specs.Lists.{AreInByteOrder, first_from, last_to, or_else}
use Rattle.dms_chain.specs.Located.{Located, last_append, located_first, located_last}
use Rattle.dms_ordlist.specs.Places.{Before, IsPlace, PlaceHolds, SpotHolds, entries_append, entries_one, link_of}

-- these chains are what the blocks spell; a file of no blocks has none
abbrev pub ListOr : ℕ → List (List ℕ) → List Leaf → List Spare → Type 0
ListOr width bs ls fs = ((length bs ≡ 0) × (ls ≡ []) × (fs ≡ [])) ⊎ IsList width (length bs) (slice_get bs) ls fs

-- the head's numbers and the place, in the list that blocks spell
pub record IsLook (c : List ℕ) (width : ℕ) (bs : List (List ℕ)) (xs : List (List ℕ)) (r : Look) : Type 0 where
  pub leaves : List Leaf
  pub spares : List Spare
  pub list : ListOr width bs leaves spares
  pub entries : entries_of leaves ≡ xs
  pub first : r.head.first ≡ front leaves 0
  pub free : r.head.free ≡ front spares 0
  pub place : MatchOption r.place (leaves ≡ []) (IsPlace c leaves)

module _ {B : Type 0} {g : Ghosts B} where
  -- what holds of the list of a file, where the content is told and this is a look at it
  abbrev pub IfLook : Overlay B g → ℕ → List ℕ → Look → (List (List ℕ) → Type 0) → Type 0
  IfLook o file c r P = IsTrue (under o).told → (xs : List (List ℕ)) → IsLook c (length c) (overlay_content o file) xs r → P xs

abbrev fst_of : Option (ℕ × ℕ) → ℕ
fst_of None = 0
fst_of (Some x) = x.0

abbrev snd_of : Option (ℕ × ℕ) → ℕ
snd_of None = 0
snd_of (Some x) = x.1

-- two readings of one head are one
pub head_first : (look : ℕ → Option (List ℕ)) (a b c d : ℕ) → said_by head_in (look 0) ≡ Some (a, b) → said_by head_in (look 0) ≡ Some (c, d) → a ≡ c
head_first look a b c d one two =
    let x : Option (ℕ × ℕ) = Some (a, b) in
    let y : Option (ℕ × ℕ) = Some (c, d) in
    let same : x ≡ y = sym one ∙ two in
    ap fst_of same

pub head_second : (look : ℕ → Option (List ℕ)) (a b c d : ℕ) → said_by head_in (look 0) ≡ Some (a, b) → said_by head_in (look 0) ≡ Some (c, d) → b ≡ d
head_second look a b c d one two =
    let x : Option (ℕ × ℕ) = Some (a, b) in
    let y : Option (ℕ × ℕ) = Some (c, d) in
    let same : x ≡ y = sym one ∙ two in
    ap snd_of same

pub no_leaves : (width : ℕ) (look : ℕ → Option (List ℕ)) (ls : List Leaf) → BlockChain (leaf_in width) look ls 0 → front ls 0 ≡ 0 → ls ≡ []
no_leaves width look [] chain head = refl
no_leaves width look (l ∷ ls) chain head = absurd (chain.0 head)

abbrev no_leaf : List Leaf
no_leaf = []

pub look_none : (c : List ℕ) (width : ℕ) (bs : List (List ℕ)) (xs : List (List ℕ)) (r : Look) → length bs ≡ 0 → list_in width bs ≡ Some xs → r.head.first ≡ 0 → r.head.free ≡ 0 → r.place ≡ None → IsLook c width bs xs r
look_none c width bs xs r none is one two three = record {
  leaves = [];
  spares = [];
  list = inl (none, refl, refl);
  entries = sym (none_is width bs xs none is);
  first = one;
  free = two;
  place = subst (λ o. MatchOption o (no_leaf ≡ no_leaf) (IsPlace c no_leaf)) (sym three) (let e : no_leaf ≡ no_leaf = refl in e);
}

pub look_empty : (c : List ℕ) (width : ℕ) (bs : List (List ℕ)) (xs : List (List ℕ)) (r : Look) → (length bs ≡ 0 → ⊥) → list_in width bs ≡ Some xs → said_by head_in (slice_get bs 0) ≡ Some (r.head.first, r.head.free) → r.head.first ≡ 0 → r.place ≡ None → IsLook c width bs xs r
look_empty c width bs xs r some is said none three =
    let s = list_is width bs xs some is in
    let one = head_first (slice_get bs) r.head.first r.head.free (front s.leaves 0) (front s.spares 0) said s.list.head in
    record {
      leaves = s.leaves;
      spares = s.spares;
      list = inr s.list;
      entries = s.entries;
      first = one;
      free = head_second (slice_get bs) r.head.first r.head.free (front s.leaves 0) (front s.spares 0) said s.list.head;
      place = subst (λ o. MatchOption o (s.leaves ≡ []) (IsPlace c s.leaves)) (sym three) (no_leaves width (slice_get bs) s.leaves s.list.chain (sym one ∙ none));
    }

pub look_place : (c : List ℕ) (width : ℕ) (bs : List (List ℕ)) (xs : List (List ℕ)) (r : Look) (p : ListPlace) → (length bs ≡ 0 → ⊥) → list_in width bs ≡ Some xs → said_by head_in (slice_get bs 0) ≡ Some (r.head.first, r.head.free) → r.place ≡ Some p
    → ((ls : List Leaf) → BlockChain (leaf_in width) (slice_get bs) ls 0 → front ls 0 ≡ r.head.first → IsPlace c ls p) → IsLook c width bs xs r
look_place c width bs xs r p some is said three at =
    let s = list_is width bs xs some is in
    let one = head_first (slice_get bs) r.head.first r.head.free (front s.leaves 0) (front s.spares 0) said s.list.head in
    record {
      leaves = s.leaves;
      spares = s.spares;
      list = inr s.list;
      entries = s.entries;
      first = one;
      free = head_second (slice_get bs) r.head.first r.head.free (front s.leaves 0) (front s.spares 0) said s.list.head;
      place = subst (λ o. MatchOption o (s.leaves ≡ []) (IsPlace c s.leaves)) (sym three) (at s.leaves s.list.chain (sym one));
    }

-- blocks that are no list

pub no_list : (width : ℕ) (bs : List (List ℕ)) (o : Option (List (List ℕ))) → list_in width bs ≡ o → ((xs : List (List ℕ)) → o ≡ Some xs → ⊥) → list_in width bs ≡ None
no_list width bs None is off = is
no_list width bs (Some xs) is off = absurd (off xs refl)

pub no_head : (width : ℕ) (bs : List (List ℕ)) → (length bs ≡ 0 → ⊥) → said_by head_in (slice_get bs 0) ≡ None → list_in width bs ≡ None
no_head width bs some said = no_list width bs (list_in width bs) refl (λ xs is.
    let s = list_is width bs xs some is in
    let x : Option (ℕ × ℕ) = None in
    let y : Option (ℕ × ℕ) = Some (front s.leaves 0, front s.spares 0) in
    let same : x ≡ y = sym said ∙ s.list.head in
    cc same)

pub no_chain : (width : ℕ) (bs : List (List ℕ)) (first free : ℕ) → (length bs ≡ 0 → ⊥) → said_by head_in (slice_get bs 0) ≡ Some (first, free)
    → ((ls : List Leaf) → BlockChain (leaf_in width) (slice_get bs) ls 0 → front ls 0 ≡ first → length ls ≤ length bs → ⊥) → list_in width bs ≡ None
no_chain width bs first free some said off = no_list width bs (list_in width bs) refl (λ xs is.
    let s = list_is width bs xs some is in
    off s.leaves s.list.chain (sym (head_first (slice_get bs) first free (front s.leaves 0) (front s.spares 0) said s.list.head)) (omega (arith, s.list.count_is)))

-- what stands at the place

abbrev pub last_before : Option NumberedLeaf → Option (List ℕ)
last_before None = None
last_before (Some s) = last_of s.leaf.entries.items

abbrev pub place_first : List ℕ → ListPlace → Option (List ℕ)
place_first c p = slice_get p.here.leaf.entries.items (lead c p.here.leaf.entries.items)

abbrev pub place_last : List ℕ → ListPlace → Option (List ℕ)
place_last c p = or_else (last_of (take (lead c p.here.leaf.entries.items) p.here.leaf.entries.items)) (last_before p.before)

-- the entries are those before the block, its own, and those behind it
pub parts_of : (c : List ℕ) (ls : List Leaf) (p : ListPlace) (at : IsPlace c ls p) → entries_of ls ≡ entries_of at.ahead ++ (p.here.leaf.entries.items ++ entries_of at.behind)
parts_of c ls p at = ap entries_of at.is ∙ entries_append at.ahead (link_of p.here ∷ at.behind)

pub locates : (c : List ℕ) (ls : List Leaf) (p : ListPlace) (at : IsPlace c ls p) → Located c (entries_of at.ahead) p.here.leaf.entries.items (entries_of at.behind)
locates c ls p at = record { low = at.low; stop = stops at.stop }
  where
    stops : {P : Type 0} {behind : List Leaf} → P ⊎ (behind ≡ []) → P ⊎ (entries_of behind ≡ [])
    stops (inl h) = inl h
    stops (inr h) = inr (ap entries_of h)

pub place_firsts : (c : List ℕ) (ls : List Leaf) (p : ListPlace) → IsPlace c ls p → first_from (Some c) (entries_of ls) ≡ place_first c p
place_firsts c ls p at = ap (first_from (Some c)) (parts_of c ls p at) ∙ located_first c (entries_of at.ahead) p.here.leaf.entries.items (entries_of at.behind) (locates c ls p at)

last_some : (es : List (List ℕ)) (o : Option (List ℕ)) → 0 < length es → or_else (last_of es) o ≡ last_of es
last_some [] o some = absurd (omega arith)
last_some (x ∷ es) o some = step (last_of es) x o
  where
    step : (p : Option (List ℕ)) (x : List ℕ) (o : Option (List ℕ)) → or_else (or_else p (Some x)) o ≡ or_else p (Some x)
    step None x o = refl
    step (Some y) x o = refl

last_ahead : (width count : ℕ) (before : Option NumberedLeaf) (ahead : List Leaf) → IfSome before (SpotHolds width count) → Before before ahead → last_of (entries_of ahead) ≡ last_before before
last_ahead width count None ahead holds is = ap (λ l. last_of (entries_of l)) is
last_ahead width count (Some s) ahead holds is =
    ap (λ l. last_of (entries_of l)) is.1 ∙ ap last_of (entries_append is.0 (link_of s ∷ []) ∙ ap (λ (l : List (List ℕ)). entries_of is.0 ++ l) (entries_one (link_of s)))
    ∙ last_append (entries_of is.0) s.leaf.entries.items ∙ last_some s.leaf.entries.items (last_of (entries_of is.0)) holds.leaf.holds.some

pub place_lasts : (c : List ℕ) (width count : ℕ) (ls : List Leaf) (p : ListPlace) → PlaceHolds width count p → AreInByteOrder (entries_of ls) → IsPlace c ls p → last_to (Some c) (entries_of ls) ≡ place_last c p
place_lasts c width count ls p holds rises at =
    let es = p.here.leaf.entries.items in
    ap (last_to (Some c)) (parts_of c ls p at) ∙ located_last c (entries_of at.ahead) es (entries_of at.behind) (locates c ls p at) (subst AreInByteOrder (parts_of c ls p at) rises)
    ∙ ap (or_else (last_of (take (lead c es) es))) (last_ahead width count p.before at.ahead holds.before at.before)

-- a list that was looked at

pub look_at : (c : List ℕ) (width : ℕ) (bs : List (List ℕ)) (xs : List (List ℕ)) (r : Look) (p : ListPlace) (l : IsLook c width bs xs r) → r.place ≡ Some p → IsPlace c l.leaves p
look_at c width bs xs r p l is = subst (λ o. MatchOption o (l.leaves ≡ []) (IsPlace c l.leaves)) is l.place

pub look_off : (c : List ℕ) (width : ℕ) (bs : List (List ℕ)) (xs : List (List ℕ)) (r : Look) (l : IsLook c width bs xs r) → r.place ≡ None → l.leaves ≡ []
look_off c width bs xs r l is = subst (λ o. MatchOption o (l.leaves ≡ []) (IsPlace c l.leaves)) is l.place

rises_by : (width : ℕ) (bs : List (List ℕ)) (ls : List Leaf) (fs : List Spare) → ((length bs ≡ 0) × (ls ≡ []) × (fs ≡ [])) ⊎ IsList width (length bs) (slice_get bs) ls fs → AreInByteOrder (entries_of ls)
rises_by width bs ls fs (inl none) = subst (λ l. AreInByteOrder (entries_of l)) (sym none.1) tt
rises_by width bs ls fs (inr list) = list.rises

pub look_rises : (c : List ℕ) (width : ℕ) (bs : List (List ℕ)) (xs : List (List ℕ)) (r : Look) (l : IsLook c width bs xs r) → AreInByteOrder (entries_of l.leaves)
look_rises c width bs xs r l = rises_by width bs l.leaves l.spares l.list

pub look_none_is : (c : List ℕ) (width : ℕ) (bs : List (List ℕ)) (xs : List (List ℕ)) (r : Look) → IsLook c width bs xs r → r.place ≡ None → xs ≡ []
look_none_is c width bs xs r l is = sym l.entries ∙ ap entries_of (look_off c width bs xs r l is)

pub look_first : (c : List ℕ) (width : ℕ) (bs : List (List ℕ)) (xs : List (List ℕ)) (r : Look) (p : ListPlace) → IsLook c width bs xs r → r.place ≡ Some p → first_from (Some c) xs ≡ place_first c p
look_first c width bs xs r p l is = ap (first_from (Some c)) (sym l.entries) ∙ place_firsts c l.leaves p (look_at c width bs xs r p l is)

pub look_last : (c : List ℕ) (width count : ℕ) (bs : List (List ℕ)) (xs : List (List ℕ)) (r : Look) (p : ListPlace) → IfSome r.place (PlaceHolds width count) → IsLook c width bs xs r → r.place ≡ Some p → last_to (Some c) xs ≡ place_last c p
look_last c width count bs xs r p holds l is =
    ap (last_to (Some c)) (sym l.entries) ∙ place_lasts c width count l.leaves p (subst (λ o. IfSome o (PlaceHolds width count)) is holds) (look_rises c width bs xs r l) (look_at c width bs xs r p l is)

some_else : (es : List (List ℕ)) (j : ℕ) (x : List ℕ) → j < length es → or_else (slice_get es j) (Some x) ≡ slice_get es j
some_else [] j x low = absurd (omega arith)
some_else (y ∷ es) zero x low = refl
some_else (y ∷ es) (suc j) x low = some_else es j x (omega arith)

last_next : (es : List (List ℕ)) (j : ℕ) → j < length es → last_of (take (suc j) es) ≡ slice_get es j
last_next [] j low = absurd (omega arith)
last_next (x ∷ es) zero low = refl
last_next (x ∷ es) (suc j) low = ap (λ o. or_else o (Some x)) (last_next es j (omega arith)) ∙ some_else es j x (omega arith)

-- the last of the first so many
pub last_taken : (es : List (List ℕ)) (k : ℕ) → 0 < k → k ≤ length es → slice_get es (k - 1) ≡ last_of (take k es)
last_taken es k some le = sym (last_next es (k - 1) (omega (arith, some, le))) ∙ ap (λ n. last_of (take n es)) (let e : suc (k - 1) ≡ k = omega (arith, some) in e)
