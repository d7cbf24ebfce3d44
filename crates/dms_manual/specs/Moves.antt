-- What one entry more or less, and one record changed, make of the entries of a manual subset.
use Rattle.std.proofs.Common.{◌≡◌, ◌∙◌, ℕ, List, [], ◌∷◌, ◌++◌, Bool, true, false, cond, Some, None, refl, sym, ap, filter, take, arith}
use Rattle.std.specs.Prelude.{◌&&◌, ◌||◌, not}
use Rattle.std.specs.List.{AllByRecursion, list_any}
use Rattle.std.specs.declared.option.Option.{Option}
use Rattle.std.specs.FinMap.{entries, entries_sorted, get, get-entries, get-insert, get-remove, insert, remove, same_map}
use Rattle.std.specs.Int.{w32, to_be_bytes, from_be_bytes}
use Rattle.std.specs.Ordering.{eq_by_cmp}
use Rattle.std.proofs.lemmas.Bool.Decides.{nat_tests}
use Rattle.std.proofs.lemmas.List.{take_at}
use Rattle.std.proofs.lemmas.Nat.{from_be_bytes-to_be_bytes_4}
use Rattle.std.proofs.lemmas.Option.{same_Some}
use Rattle.dms_base.specs.declared.kind.ItemKind.{ItemKind}
use Rattle.dms_desc.specs.Keys.{key_of}
use Rattle.dms_desc.specs.Shape.{Shape}
use Rattle.dms_desc.specs.Sorted.{place_in}
use Rattle.dms_desc.specs.declared.record.Record.{Record}
use Rattle.dms_key.specs.ByteOrder.{high_first_length}
use Rattle.dms_key.specs.KeyBytes.{key_bytes}
use Rattle.dms_model.specs.Db.{Db, Place, Records, SubsetEntry, place_cmp}
use Rattle.dms_model.specs.Members.{names}
use Rattle.dms_model.specs.Places.{place_is, places_same, places_total}
use Rattle.dms_sets.specs.Entries.{entry_bytes}
use Rattle.dms_sets.specs.Listing.{AllPlaces}
use Rattle.dms_sets.specs.Sets.{entry_number, number_in, owner_in}
use Rattle.dms_sets.specs.Spots.{all_found, StandsAmong}
use Rattle.dms_model.specs.Uses.{after_leave, entry_before, entry_of, has_entry, is_not_entry}
use Rattle.dms_manual.specs.Entered.{IsSmallPair, as_member, entered, entered_get, member_entry, place_told}

-- ---- an entry tells its owner and number

pub told : (kinds : List ItemKind) (s : Shape) (k : Place) (r : Record) (q : List ℕ) → IsSmallPair k → member_entry kinds s k r ≡ Some q → k ≡ place_told q
told kinds s k r q small h =
    let bytes = entry_bytes kinds s.parts k.0 (key_of s.parts r.values) k.1 in
    let is : bytes ≡ q = same_Some bytes q h in
    let rest = key_bytes kinds s.parts (key_of s.parts r.values) ++ to_be_bytes w32 k.1 in
    let four : take 4 (to_be_bytes w32 k.0 ++ rest) ≡ to_be_bytes w32 k.0 = take_at (to_be_bytes w32 k.0) rest 4 (high_first_length 4 k.0) in
    let owner : owner_in q ≡ k.0 = ap owner_in (sym is) ∙ ap (from_be_bytes w32) four ∙ from_be_bytes-to_be_bytes_4 k.0 small.0 in
    let number : number_in q ≡ k.1 = ap number_in (sym is) ∙ entry_number kinds s.parts k.0 (key_of s.parts r.values) k.1 small.1 in
    λ i. (sym owner i, sym number i)

-- ---- all places of a map

places_all : (P : Place → Type 0) (m : Records) (es : List (Place × Record)) → AllByRecursion (StandsAmong (entries m)) es → ((k : Place) (r : Record) → get m k ≡ Some r → P k) → AllPlaces P es
places_all P m [] found h = tt
places_all P m (e ∷ es) found h = (h e.0 e.1 (get-entries m e.0 ∙ found.0), places_all P m es found.1 h)

pub all_places : (P : Place → Type 0) (m : Records) → ((k : Place) (r : Record) → get m k ≡ Some r → P k) → AllPlaces P (entries m)
all_places P m h = places_all P m (entries m) (all_found (entries m) (entries_sorted m)) h

-- owners and numbers of the entries of a subset are small
pub record SmallIn (s : Shape) (db : Db) : Type 0 where
  pub each : (o n : ℕ) → has_entry db s.number o n ≡ true → IsSmallPair (o, n)

small_opt : (b : Bool) (o : Option Record) (r : Record) → cond b o None ≡ Some r → b ≡ true
small_opt true o r h = refl
small_opt false o r h = absurd (cc)

pub small_places : (s : Shape) (db : Db) → SmallIn s db → AllPlaces IsSmallPair (entries (entered s db))
small_places s db small =
    all_places IsSmallPair (entered s db) (λ k r at. small.each k.0 k.1 (small_opt (has_entry db s.number k.0 k.1) (as_member k.0 (get db.records (s.set, k.1))) r (sym (entered_get s db k.0 k.1) ∙ at)))

-- ---- one entry more

module _ {A : Type 0} (p : A → Bool) where
  or_swap : (a b c : Bool) → (a || (b || c)) ≡ (b || (a || c))
  or_swap true true c = refl
  or_swap true false c = refl
  or_swap false b c = refl

  pub any_placed : (less : A → A → Bool) (x : A) (ys : List A) → list_any p (place_in less x ys) ≡ (p x || list_any p ys)
  any_placed less x [] = refl
  any_placed less x (y ∷ ys) = by (less x y) (any_placed less x ys)
    where
      by : (b : Bool) → list_any p (place_in less x ys) ≡ (p x || list_any p ys) → list_any p (cond b (x ∷ y ∷ ys) (y ∷ place_in less x ys)) ≡ (p x || (p y || list_any p ys))
      by true rest = refl
      by false rest = ap (λ c. p y || c) rest ∙ or_swap (p y) (p x) (list_any p ys)

  pub any_where : (q : A → Bool) (ys : List A) → list_any p (filter q ys) ≡ list_any (λ y. q y && p y) ys
  any_where q [] = refl
  any_where q (y ∷ ys) = by (q y) (any_where q ys)
    where
      by : (b : Bool) → list_any p (filter q ys) ≡ list_any (λ z. q z && p z) ys → list_any p (cond b (y ∷ filter q ys) (filter q ys)) ≡ ((b && p y) || list_any (λ z. q z && p z) ys)
      by true rest = ap (λ c. p y || c) rest
      by false rest = rest

  pub any_as : (q : A → Bool) (ys : List A) → ((y : A) → p y ≡ q y) → list_any p ys ≡ list_any q ys
  any_as q [] h = refl
  any_as q (y ∷ ys) h = λ i. h y i || any_as q ys h i

pub none_any : {A : Type 0} (ys : List A) → list_any (λ (y : A). false) ys ≡ false
none_any [] = refl
none_any (y ∷ ys) = none_any ys

-- the database with an entry more
abbrev pub with_entry_of : Db → ℕ → ℕ → ℕ → Db
with_entry_of db subset owner number = record db { entries = place_in entry_before (entry_of subset owner number) db.entries }

module _ (s : Shape) (db : Db) (o n : ℕ) where
  named_here : (p m : ℕ) → names s.number p m (entry_of s.number o n) ≡ eq_by_cmp place_cmp (p, m) (o, n)
  named_here p m = grind (arith, nat_tests)

  -- the members are those and the new one
  pub entered_more : (r : Record) → get db.records (s.set, n) ≡ Some r → entered s (with_entry_of db s.number o n) ≡ insert (entered s db) (o, n) (record r { owner = o })
  entered_more r at =
      same_map places_total places_same _ _ (λ q.
      entered_get s (with_entry_of db s.number o n) q.0 q.1
      ∙ ap (λ b. cond b (as_member q.0 (get db.records (s.set, q.1))) None) (any_placed (names s.number q.0 q.1) entry_before (entry_of s.number o n) db.entries ∙ ap (λ b. b || has_entry db s.number q.0 q.1) (named_here q.0 q.1))
      ∙ by q (eq_by_cmp place_cmp q (o, n)) refl
      ∙ sym (get-insert places_total (entered s db) (o, n) (record r { owner = o }) q ∙ ap (λ x. cond (eq_by_cmp place_cmp q (o, n)) (Some (record r { owner = o })) x) (entered_get s db q.0 q.1)))
    where
      by : (q : Place) (b : Bool) → eq_by_cmp place_cmp q (o, n) ≡ b
          → cond (b || has_entry db s.number q.0 q.1) (as_member q.0 (get db.records (s.set, q.1))) None
          ≡ cond b (Some (record r { owner = o })) (cond (has_entry db s.number q.0 q.1) (as_member q.0 (get db.records (s.set, q.1))) None)
      by q true is = let p = place_is q (o, n) is in (λ i. as_member (p i).0 (get db.records (s.set, (p i).1))) ∙ ap (as_member o) at
      by q false is = refl

  -- and without one those without it
  pub entered_less : entered s (after_leave db s.number o n) ≡ remove (entered s db) (o, n)
  unfolding after_leave
  entered_less =
      same_map places_total places_same _ _ (λ q.
      entered_get s (record db { entries = filter (is_not_entry s.number o n) db.entries }) q.0 q.1
      ∙ ap (λ b. cond b (as_member q.0 (get db.records (s.set, q.1))) None) (any_where (names s.number q.0 q.1) (is_not_entry s.number o n) db.entries)
      ∙ by q (eq_by_cmp place_cmp q (o, n)) refl
      ∙ sym (get-remove places_total (entered s db) (o, n) q ∙ ap (λ x. cond (eq_by_cmp place_cmp q (o, n)) None x) (entered_get s db q.0 q.1)))
    where
      gone : (q : Place) (e : SubsetEntry) → q ≡ (o, n) → (is_not_entry s.number o n e && names s.number q.0 q.1 e) ≡ false
      gone q e h = ap (λ (p : Place). not (names s.number o n e) && names s.number p.0 p.1 e) h ∙ off (names s.number o n e)
        where
          off : (b : Bool) → (not b && b) ≡ false
          off true = refl
          off false = refl

      kept : (q : Place) (e : SubsetEntry) → eq_by_cmp place_cmp q (o, n) ≡ false → (is_not_entry s.number o n e && names s.number q.0 q.1 e) ≡ names s.number q.0 q.1 e
      kept q e h = turn (names s.number q.0 q.1 e) (names s.number o n e) refl refl
        where
          turn : (a b : Bool) → names s.number q.0 q.1 e ≡ a → names s.number o n e ≡ b → (not b && a) ≡ a
          turn true true x y = absurd (apart h)
            where
              apart : eq_by_cmp place_cmp (q.0, q.1) (o, n) ≡ false → ⊥
              apart k = grind (arith, nat_tests, k, x, y)
          turn true false x y = refl
          turn false true x y = refl
          turn false false x y = refl

      by : (q : Place) (b : Bool) → eq_by_cmp place_cmp q (o, n) ≡ b
          → cond (list_any (λ e. is_not_entry s.number o n e && names s.number q.0 q.1 e) db.entries) (as_member q.0 (get db.records (s.set, q.1))) None
          ≡ cond b None (cond (has_entry db s.number q.0 q.1) (as_member q.0 (get db.records (s.set, q.1))) None)
      by q true is =
          let p = place_is q (o, n) is in
          ap (λ b. cond b (as_member q.0 (get db.records (s.set, q.1))) None) (any_as (λ e. is_not_entry s.number o n e && names s.number q.0 q.1 e) (λ e. false) db.entries (λ e. gone q e p) ∙ none_any db.entries)
      by q false is =
          ap (λ b. cond b (as_member q.0 (get db.records (s.set, q.1))) None) (any_as (λ e. is_not_entry s.number o n e && names s.number q.0 q.1 e) (names s.number q.0 q.1) db.entries (λ e. kept q e is))
