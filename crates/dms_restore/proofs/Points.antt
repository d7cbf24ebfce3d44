-- Points among live entries, Ranges among them.
use Rattle.std.specs.Prelude.{◌||◌}
use Rattle.std.proofs.Common.{ℕ, ◌≡◌, inl, inr, Bool, true, false, cond, List, [], ◌∷◌, ◌++◌, Option, Some, None, refl, sym, ◌∙◌, ap}
use Rattle.std.proofs.lemmas.Bool.{cases_Bool, true≢false}
use Rattle.dms_history.specs.Events.{BlockBytes, Event, change}
use Rattle.dms_history.specs.Images.{last_after}
use Rattle.dms_history.specs.Lists.{has, until_first}
use Rattle.dms_history.specs.Places.{is_point}
use Rattle.dms_history.specs.Ranges.{Logged, event, range, patch_bytes, range_change, changes_of, changes_from, all_changes, is_point_logged, live_logged}
use Rattle.dms_history.specs.Entries.{Entry}
use Rattle.dms_history.specs.EntryEvents.{events_in, is_place, live_entries, live_of}
use Rattle.dms_history.proofs.AtPoints.{or_no}
use Rattle.dms_history.proofs.Base.{has_append}
use Rattle.dms_running.proofs.Described.{place_is_point}
use Rattle.dms_restore.proofs.Changes.{live_changes}

-- ---- the front of a list

module _ {A : Type 0} (q : A → Bool) where
  -- what is among the first is among all, and all are cut there as they are
  abbrev pub IsFront : List A → List A → Type 0
  IsFront us xs = has q us ≡ true → (has q xs ≡ true) × (until_first q us ≡ until_first q xs)

  front_more : (x : A) (us xs : List A) → IsFront us xs → IsFront (x ∷ us) (x ∷ xs)
  front_more x us xs rest found = elim (cases_Bool (q x)) [
    | inl on ↦ (
      ap (λ k. k || has q xs) on,
      ap (λ k. cond k (x ∷ []) (cond (has q us) (x ∷ until_first q us) [])) on ∙ sym (ap (λ k. cond k (x ∷ []) (cond (has q xs) (x ∷ until_first q xs) [])) on),
    )
    | inr off ↦
        let more : has q us ≡ true = ap (λ k. k || has q us) (sym off) ∙ found in
        let r = rest more in
        (ap (λ k. k || has q xs) off ∙ r.0, λ i. cond (q x) (x ∷ []) (cond ((more ∙ sym r.0) i) (x ∷ r.1 i) []))
  ]

  nothing_front : (xs : List A) → IsFront [] xs
  nothing_front xs found = absurd (true≢false (sym found))

  -- up to the first of a kind
  pub until_front : (p : A → Bool) (xs : List A) → IsFront (until_first p xs) xs
  until_front p [] = nothing_front []
  until_front p (x ∷ xs) = go (p x) (has p xs) (until_front p xs)
    where
      go : (b c : Bool) → IsFront (until_first p xs) xs → IsFront (cond b (x ∷ []) (cond c (x ∷ until_first p xs) [])) (x ∷ xs)
      go true c rest = front_more x [] xs (nothing_front xs)
      go false true rest = front_more x (until_first p xs) xs rest
      go false false rest = nothing_front (x ∷ xs)

  -- before others
  pub before_front : (xs ys : List A) → IsFront xs (xs ++ ys)
  before_front [] ys = nothing_front ys
  before_front (x ∷ xs) ys = front_more x xs (xs ++ ys) (before_front xs ys)

  -- the first of its kind is the last of all
  pub at_end : (xs : List A) (x : A) → has q xs ≡ false → has q (xs ++ x ∷ []) ≡ true → (q x ≡ true) × (until_first q (xs ++ x ∷ []) ≡ xs ++ x ∷ [])
  at_end [] x off found = elim (cases_Bool (q x)) [
    | inl on ↦ (on, ap (λ k. cond k (x ∷ []) []) on)
    | inr none ↦ absurd (true≢false (sym found ∙ ap (λ k. k || false) none))
  ]
  at_end (y ∷ xs) x off found =
      let both = or_no (q y) (has q xs) off in
      let more : has q (xs ++ x ∷ []) ≡ true = ap (λ k. k || has q (xs ++ x ∷ [])) (sym both.0) ∙ found in
      let r = at_end xs x both.1 more in
      (r.0, λ i. cond (both.0 i) (y ∷ []) (cond (more i) (y ∷ r.1 i) []))

-- ---- kinds of entries

-- a kind of events that no change is of, and the entries of that kind
pub record IsKind (p : Event → Bool) (q : Logged → Bool) : Type 0 where
  pub events : (e : Event) → q (event e) ≡ p e
  pub ranges : (f b place : ℕ) (bytes : List ℕ) → q (range f b place bytes) ≡ false
  pub changes : (f b : ℕ) (before : Option BlockBytes) (after : BlockBytes) → p (change f b before after) ≡ false

or_none : (b : Bool) → b || false ≡ b
or_none true = refl
or_none false = refl

or_assoc : (a b c : Bool) → ((a || b) || c) ≡ (a || (b || c))
or_assoc true b c = refl
or_assoc false b c = refl

module _ (p : Event → Bool) (q : Logged → Bool) (kind : IsKind p q) where
  ranged : (f b place : ℕ) (bytes : List ℕ) (o : Option BlockBytes) → has p (range_change f b place bytes o) ≡ false
  ranged f b place bytes None = refl
  ranged f b place bytes (Some old) = or_none (p (change f b (Some old) (patch_bytes place bytes old))) ∙ kind.changes f b (Some old) (patch_bytes place bytes old)

  one : (live : List Event) (x : Logged) → has p (changes_of live x) ≡ q x
  one live (event e) = or_none (p e) ∙ sym (kind.events e)
  one live (range f b place bytes) = ranged f b place bytes (last_after f b live) ∙ sym (kind.ranges f b place bytes)

  has_from : (xs : List Logged) (live : List Event) → has p (changes_from live xs) ≡ (has p live || has q xs)
  has_from [] live = sym (or_none (has p live))
  has_from (x ∷ xs) live =
      has_from xs (live ++ changes_of live x) ∙ ap (λ k. k || has q xs) (has_append p live (changes_of live x) ∙ ap (λ k. has p live || k) (one live x))
      ∙ or_assoc (has p live) (q x) (has q xs)

  pub has_changes : (xs : List Logged) → has p (all_changes xs) ≡ has q xs
  unfolding all_changes
  has_changes xs = has_from xs []

pub point_kind : (n : ℕ) → IsKind (is_point n) (is_point_logged n)
point_kind n = record { events = λ e. refl; ranges = λ f b place bytes. refl; changes = λ f b before after. refl }

-- ---- the live entries of a trail

abbrev pub live_in : List Entry → List Logged
live_in entries = live_logged [] (events_in entries)

-- a point has its place among them exactly where it has one among their changes, and where it has one among all live entries
pub point_is_logged : (entries : List Entry) (n : ℕ) → has (is_point n) (live_of entries) ≡ has (is_point_logged n) (live_in entries)
point_is_logged entries n = ap (λ (l : List Event). has (is_point n) l) (live_changes entries) ∙ has_changes (is_point n) (is_point_logged n) (point_kind n) (live_in entries)

pub place_is_logged : (entries : List Entry) (n : ℕ) → has (is_place n) (live_entries entries) ≡ has (is_point_logged n) (live_in entries)
place_is_logged entries n = place_is_point entries n ∙ point_is_logged entries n
