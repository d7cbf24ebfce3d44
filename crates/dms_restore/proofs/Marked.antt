-- Blocks that may be named are marked, and others are told nothing of.
use Rattle.std.specs.Prelude.{◌||◌, nat_le, is_some}
use Rattle.std.proofs.Common.{ℕ, ◌+◌, ◌<◌, ◌≡◌, inl, inr, Bool, true, false, cond, List, [], ◌∷◌, ◌++◌, length, take, get_or, Option, Some, None, IsSome, refl, sym, ◌∙◌, ap, subst, arith}
use Rattle.std.specs.Ordering.{is_eq}
use Rattle.std.specs.BTreeMap.{WritesThrough}
use Rattle.std.proofs.lemmas.Bool.{cases_Bool, true≢false}
use Rattle.std.proofs.lemmas.List.{take_more, map-append, length-map, length-take}
use Rattle.dms_site.specs.Files.{Files}
use Rattle.dms_history.specs.Images.{is_at}
use Rattle.dms_history.specs.Ranges.{Logged}
use Rattle.dms_history.specs.Told.{undone_to}
use Rattle.dms_history.specs.declared.event.Row.{Row}
use Rattle.dms_history.specs.Entries.{named_by}
use Rattle.dms_history.proofs.Picks.{place_cases, option_cases, some_is}
use Rattle.dms_restore.specs.declared.live.LiveEntry.{LiveEntry}
use Rattle.dms_restore.specs.declared.live.LiveEntry.TheVariants.{Changed, Ranged, Quiet, Controlled}
use Rattle.dms_restore.specs.declared.naming.NamedSpot.{NamedSpot}
use Rattle.dms_restore.specs.declared.told.Told.{Told}
use Rattle.dms_restore.specs.Chosen.{is_of_rows, place_from, is_naming}
use Rattle.dms_restore.specs.LiveEntries.{logged_at, logged_live}
use Rattle.dms_restore.specs.Named.{block_cmp, Spots, spot_of, is_marked, IsBare, is_of_block, Noted, nothing_noted, noted_of, noted_in, noted_by, noted_from, noted_front, undone_by, undone, told_noted, pieces_at, IsOneOf, IsHeld}
use Rattle.dms_restore.proofs.Noted.{unnamed_by}
use Rattle.dms_restore.proofs.Noting.{naming_is, undone_other}
use Rattle.dms_restore.proofs.Spots.{picked, key_is, no_entry}

-- ---- one block more

module _ (old new : Spots) (g k : ℕ) (v : NamedSpot) (set : (f b : ℕ) → spot_of new f b ≡ cond (is_eq (block_cmp (g, k) (f, b))) (Some v) (spot_of old f b)) where
  now : (f b : ℕ) → spot_of new f b ≡ cond (is_at f b g k) (Some v) (spot_of old f b)
  now f b = picked f b g k (spot_of new f b) (Some v) (spot_of old f b) (set f b)

  pub marked_set : (f b : ℕ) → is_marked new f b ≡ is_at f b g k || is_marked old f b
  marked_set f b = ap (λ (o : Option NamedSpot). is_some o) (now f b) ∙ inside (is_at f b g k) (spot_of old f b)
    where
      inside : (t : Bool) (o : Option NamedSpot) → is_some (cond t (Some v) o) ≡ t || is_some o
      inside true o = refl
      inside false o = refl

  -- it was marked already
  pub marked_same : (was : NamedSpot) → spot_of old g k ≡ Some was → (f b : ℕ) → is_marked new f b ≡ is_marked old f b
  marked_same was found f b = marked_set f b ∙ elim (cases_Bool (is_at f b g k)) [
    | inl on ↦ ap (λ t. t || is_marked old f b) on ∙ sym (ap (λ (o : Option NamedSpot). is_some o) (key_is old f b g k on ∙ found))
    | inr off ↦ ap (λ t. t || is_marked old f b) off
  ]

  pub bare_set : v ≡ record { spot = None; named = false } → IsBare old → IsBare new
  bare_set is bare f b n there = elim (cases_Bool (is_at f b g k)) [
    | inl on ↦ some_is n v (sym there ∙ now f b ∙ ap (λ t. cond t (Some v) (spot_of old f b)) on) ∙ is
    | inr off ↦ bare f b n (sym (now f b ∙ ap (λ t. cond t (Some v) (spot_of old f b)) off) ∙ there)
  ]

-- something else was written to a place that the map lent
pub written_set : (old new : Spots) (g k : ℕ) (v was : NamedSpot) → WritesThrough block_cmp (block_cmp (g, k)) old v new → spot_of old g k ≡ Some was → (f b : ℕ) → spot_of new f b ≡ cond (is_eq (block_cmp (g, k) (f, b))) (Some v) (spot_of old f b)
written_set old new g k v was writes found f b = (writes.3 (subst IsSome (sym found) refl)).0 (f, b)

-- ---- nothing is noted

pub bare_noted : (files : Files) (spots : Spots) → IsBare spots → (f b : ℕ) → noted_in files spots f b ≡ nothing_noted
bare_noted files spots bare f b = elim (option_cases (spot_of spots f b)) [
  | inl none ↦ ap (noted_of files) none
  | inr (n, is) ↦ ap (noted_of files) is ∙ ap (λ (m : NamedSpot). noted_of files (Some m)) (bare f b n is)
]

pub bare_held : (spots : Spots) (t : Told) → IsBare spots → IsHeld spots t → ⊥
bare_held spots t bare held = subst (λ (n : NamedSpot). IsOneOf t (pieces_at t.file t.block n.spot)) (bare t.file t.block held.0 held.1) held.2

pub unmarked_noted : (files : Files) (spots : Spots) (f b : ℕ) → is_marked spots f b ≡ false → noted_in files spots f b ≡ nothing_noted
unmarked_noted files spots f b off = go (spot_of spots f b) off
  where
    go : (o : Option NamedSpot) → is_some o ≡ false → noted_of files o ≡ nothing_noted
    go None is = refl
    go (Some n) is = absurd cc

-- ---- an entry of another block

off_it : (t : Bool) (one n : Noted) → t ≡ false → cond t one n ≡ n
off_it t one n off = ap (λ u. cond u one n) off

pub same_both : (t : Bool) (n : Noted) → cond t n n ≡ n
same_both true n = refl
same_both false n = refl

other_by : (files : Files) (f b : ℕ) (names : Bool) (n : Noted) (e : LiveEntry) → is_of_block f b e ≡ false → noted_by f b names n (logged_at files e) ≡ n
other_by files f b names n (Changed i) off = off_it (is_at f b i.file i.block) _ n off
other_by files f b names n (Ranged r) off = off_it (is_at f b r.file r.block) _ n off
other_by files f b names n (Quiet m) off = refl
other_by files f b names n (Controlled c) off = refl

other_undone : (files : Files) (f b : ℕ) (n : Noted) (e : LiveEntry) → is_of_block f b e ≡ false → undone_by f b n (logged_at files e) ≡ n
other_undone files f b n (Changed i) off = off_it (is_at f b i.file i.block) _ n off
other_undone files f b n (Ranged r) off = off_it (is_at f b r.file r.block) _ n off
other_undone files f b n (Quiet m) off = refl
other_undone files f b n (Controlled c) off = refl

-- an entry that names another block, or none
pub unnamed_more : (files : Files) (rows : List Row) (of_rows of_others i : ℕ) (e : LiveEntry) (f b : ℕ) (n : Noted) → (is_naming rows of_rows of_others i e ≡ true → is_of_block f b e ≡ false) → n.named ≡ false
    → (noted_by f b (nat_le (place_from rows of_rows of_others f b) i) n (logged_at files e)).named ≡ false
unnamed_more files rows of_rows of_others i e f b n other off = ap (λ (m : Noted). m.named) (sym (naming_is files rows of_rows of_others i e f b n)) ∙ elim (cases_Bool (is_naming rows of_rows of_others i e)) [
  | inl on ↦ ap (λ (m : Noted). m.named) (other_by files f b (is_naming rows of_rows of_others i e) n e (other on)) ∙ off
  | inr none ↦ ap (λ t. (noted_by f b t n (logged_at files e)).named) none ∙ unnamed_by f b n (logged_at files e) off
]

-- an entry of this block is one of the rows where the block is
of_row : (rows : List Row) (e : LiveEntry) (f b : ℕ) → is_of_block f b e ≡ true → is_of_rows rows e ≡ named_by rows f b
of_row rows (Changed i) f b is = elim (place_cases f b i.file i.block) [
  | inl at ↦ λ j. named_by rows (at.0 j) (at.1 j)
  | inr apart ↦ absurd (true≢false (sym is ∙ apart.1))
]
of_row rows (Ranged r) f b is = elim (place_cases f b r.file r.block) [
  | inl at ↦ λ j. named_by rows (at.0 j) (at.1 j)
  | inr apart ↦ absurd (true≢false (sym is ∙ apart.1))
]
of_row rows (Quiet m) f b is = absurd (true≢false (sym is))
of_row rows (Controlled c) f b is = absurd (true≢false (sym is))

-- an entry of another block undoes nothing here
pub apart_undone : (files : Files) (rows : List Row) (e : LiveEntry) (f b : ℕ) (n : Noted) → is_of_block f b e ≡ false → cond (named_by rows f b) n (undone_by f b n (logged_at files e)) ≡ n
apart_undone files rows e f b n off = ap (cond (named_by rows f b) n) (other_undone files f b n e off) ∙ same_both (named_by rows f b) n

-- nor does one of the rows
pub row_undone : (files : Files) (rows : List Row) (e : LiveEntry) (f b : ℕ) (n : Noted) → is_of_rows rows e ≡ true → cond (named_by rows f b) n (undone_by f b n (logged_at files e)) ≡ n
row_undone files rows e f b n of = elim (cases_Bool (is_of_block f b e)) [
  | inl on ↦ ap (λ t. cond t n (undone_by f b n (logged_at files e))) (sym (of_row rows e f b on) ∙ of)
  | inr off ↦ apart_undone files rows e f b n off
]

-- ---- one entry more

noted_push : (f b k i : ℕ) (n : Noted) (xs : List Logged) (x : Logged) → noted_from f b k i n (xs ++ x ∷ []) ≡ noted_by f b (nat_le k (i + length xs)) (noted_from f b k i n xs) x
noted_push f b k i n [] x = let e : i ≡ i + 0 = omega arith in ap (λ j. noted_by f b (nat_le k j) n x) e
noted_push f b k i n (y ∷ xs) x =
    let e : i + 1 + length xs ≡ i + length (y ∷ xs) = omega arith in
    noted_push f b k (i + 1) (noted_by f b (nat_le k i) n y) xs x ∙ ap (λ j. noted_by f b (nat_le k j) (noted_from f b k (i + 1) (noted_by f b (nat_le k i) n y) xs) x) e

undone_push : (f b : ℕ) (n : Noted) (xs : List Logged) (x : Logged) → undone f b n (xs ++ x ∷ []) ≡ undone_by f b (undone f b n xs) x
undone_push f b n [] x = refl
undone_push f b n (y ∷ xs) x = undone_push f b (undone_by f b n y) xs x

logged_more : (files : Files) (es : List LiveEntry) (i : ℕ) → i < length es → logged_live files (take (i + 1) es) ≡ logged_live files (take i es) ++ logged_at files (get_or es i no_entry) ∷ []
logged_more files es i low = ap (logged_live files) (take_more es i no_entry low) ∙ map-append (logged_at files) (take i es) (get_or es i no_entry ∷ [])

pub front_more : (files : Files) (k : ℕ) (es : List LiveEntry) (i f b : ℕ) → i < length es → noted_front files k (take (i + 1) es) f b ≡ noted_by f b (nat_le k i) (noted_front files k (take i es) f b) (logged_at files (get_or es i no_entry))
front_more files k es i f b low =
    let first = logged_live files (take i es) in
    let size : 0 + length first ≡ i = omega (arith, low, length-map (take i es) (logged_at files), length-take i es) in
    ap (λ (l : List Logged). noted_from f b k 0 nothing_noted l) (logged_more files es i low)
    ∙ noted_push f b k 0 nothing_noted first (logged_at files (get_or es i no_entry))
    ∙ ap (λ j. noted_by f b (nat_le k j) (noted_from f b k 0 nothing_noted first) (logged_at files (get_or es i no_entry))) size

pub undone_more : (files : Files) (named : Bool) (f b : ℕ) (n : Noted) (es : List LiveEntry) (i : ℕ) → i < length es → undone_other named f b n (logged_live files (take i es)) ≡ n
    → cond named n (undone_by f b n (logged_at files (get_or es i no_entry))) ≡ n → undone_other named f b n (logged_live files (take (i + 1) es)) ≡ n
undone_more files true f b n es i low first one = refl
undone_more files false f b n es i low first one =
    let x = logged_at files (get_or es i no_entry) in
    ap (λ (l : List Logged). undone f b n l) (logged_more files es i low) ∙ undone_push f b n (logged_live files (take i es)) x ∙ ap (λ (m : Noted). undone_by f b m x) first ∙ one

-- ---- what is told

-- nothing of a block that isn't named
pub told_unnamed : (one two : Noted) → one ≡ nothing_noted → two.named ≡ false → told_noted one ≡ told_noted two
told_unnamed one two is off = ap told_noted is ∙ sym (ap (λ t. undone_to (cond t (Some two.stands) None)) off)
