-- An entry may not be made where the list of the subset shows it, or one with its owner and key: by the list and by the database.
use Rattle.std.proofs.Common.{◌≡◌, ◌∙◌, ◌^◌, ◌<◌, ℕ, List, [], ◌∷◌, Bool, true, false, cond, Some, None, refl, sym, ap, arith}
use Rattle.std.specs.Prelude.{◌&&◌, ◌==◌, ◌||◌, not}
use Rattle.std.specs.List.{AllByRecursion, list_any}
use Rattle.std.specs.declared.option.Option.{Option}
use Rattle.std.specs.FinMap.{entries, entries_sorted, find, get, get-entries, keys}
use Rattle.std.specs.Ordering.{eq_by_cmp, is_eq}
use Rattle.std.proofs.lemmas.Bool.{and_parts}
use Rattle.std.proofs.lemmas.Bool.Decides.{nat_tests}
use Rattle.std.proofs.lemmas.Cmp.{eq_by_cmp_equiv}
use Rattle.std.proofs.lemmas.Option.{same_Some}
use Rattle.dms_base.specs.declared.kind.ItemKind.{ItemKind}
use Rattle.dms_desc.specs.Keys.{key_cmp, key_of}
use Rattle.dms_desc.specs.Kinds.{over, takes}
use Rattle.dms_desc.specs.Shape.{Shape, Described}
use Rattle.dms_desc.specs.declared.record.Record.{Record}
use Rattle.dms_model.specs.Db.{Db, Place, Records, SubsetEntry, place_cmp}
use Rattle.dms_model.specs.MemberLaws.{key_total}
use Rattle.dms_model.specs.Members.{belongs, names}
use Rattle.dms_model.specs.Places.{place_is}
use Rattle.dms_model.specs.Stores.{has_equal, is_other}
use Rattle.dms_chain.specs.Lists.{any_with, empty_keys}
use Rattle.dms_sets.specs.Clashes.{front_is, key_front}
use Rattle.dms_sets.specs.Entries.{IsSetKey}
use Rattle.dms_sets.specs.Listing.{listing, listing_of}
use Rattle.dms_sets.specs.Prefixes.{starts}
use Rattle.dms_sets.specs.Sets.{keys_with_opt, kinds_over}
use Rattle.dms_sets.specs.Spots.{StandsAmong, all_found}
use Rattle.dms_model.specs.Uses.{has_entry}
use Rattle.dms_manual.specs.Entered.{as_member, entered, entered_get, manual_of, member_entry}
use Rattle.dms_manual.specs.Listed.{bytes_for}
use Rattle.dms_manual.specs.Moves.{SmallIn}

-- ---- a test of all entries is one of all members

module _ (kinds : List ItemKind) (s : Shape) (p : List ℕ → Bool) where
  pub any_listing : (es : List (Place × Record)) → list_any p (keys (listing (member_entry kinds s) es)) ≡ list_any (λ (e : Place × Record). p (bytes_for kinds s e.0.0 e.0.1 e.1)) es
  any_listing [] = ap (list_any p) empty_keys
  any_listing (e ∷ es) =
      ap (list_any p) (keys_with_opt (member_entry kinds s e.0 e.1) (listing (member_entry kinds s) es))
      ∙ any_with p (bytes_for kinds s e.0.0 e.0.1 e.1) (keys (listing (member_entry kinds s) es))
      ∙ ap (λ b. p (bytes_for kinds s e.0.0 e.0.1 e.1) || b) (any_listing es)

  pub any_entry : (m : Records) → list_any p (keys (listing_of (member_entry kinds s) m)) ≡ list_any (λ (e : Place × Record). p (bytes_for kinds s e.0.0 e.0.1 e.1)) (entries m)
  any_entry m = any_listing (entries m)

-- ---- one of a map's records

pub record Found (P : Place × Record → Bool) (m : Records) : Type 0 where
  pub place : Place
  pub rec : Record
  pub at : get m place ≡ Some rec
  pub holds : P (place, rec) ≡ true

found_in : (P : Place × Record → Bool) (m : Records) (es : List (Place × Record)) → AllByRecursion (StandsAmong (entries m)) es → list_any P es ≡ true → Found P m
found_in P m [] all h = absurd (cc)
found_in P m (e ∷ es) all h = by (P e) refl h (λ k. found_in P m es all.1 k)
  where
    by : (b : Bool) → P e ≡ b → (b || list_any P es) ≡ true → (list_any P es ≡ true → Found P m) → Found P m
    by true is k rest = record { place = e.0; rec = e.1; at = get-entries m e.0 ∙ all.0; holds = is }
    by false is k rest = rest k

pub any_from : (P : Place × Record → Bool) (m : Records) → list_any P (entries m) ≡ true → Found P m
any_from P m h = found_in P m (entries m) (all_found (entries m) (entries_sorted m)) h

find_any : (P : Place × Record → Bool) (k : Place) (r : Record) (es : List (Place × Record)) → find place_cmp k es ≡ Some r → P (k, r) ≡ true → list_any P es ≡ true
find_any P k r [] at h = absurd (cc)
find_any P k r (e ∷ es) at h = by (eq_by_cmp place_cmp k e.0) refl at (λ a. find_any P k r es a h)
  where
    or_true : (b : Bool) → (b || true) ≡ true
    or_true true = refl
    or_true false = refl

    by : (b : Bool) → eq_by_cmp place_cmp k e.0 ≡ b → cond b (Some e.1) (find place_cmp k es) ≡ Some r → (find place_cmp k es ≡ Some r → list_any P es ≡ true) → (P e || list_any P es) ≡ true
    by true is a rest = let same = place_is k e.0 is in let rec_same = same_Some e.1 r a in ap (λ b. b || list_any P es) (sym (λ i. P (same i, sym rec_same i)) ∙ h)
    by false is a rest = ap (λ b. P e || b) (rest a) ∙ or_true (P e)

pub any_at : (P : Place × Record → Bool) (m : Records) (k : Place) (r : Record) → get m k ≡ Some r → P (k, r) ≡ true → list_any P (entries m) ≡ true
any_at P m k r at h = find_any P k r (entries m) (sym (get-entries m k) ∙ at) h

pub same_bool : (a b : Bool) → (a ≡ true → b ≡ true) → (b ≡ true → a ≡ true) → a ≡ b
same_bool true b f g = sym (f refl)
same_bool false true f g = g refl
same_bool false false f g = refl

-- ---- another member with an equal key

abbrev pub is_equal_to : Shape → List SubsetEntry → Option ℕ → Record → Place × Record → Bool
is_equal_to s manual number rec e = belongs s manual rec.owner e && is_other number e.0.1 && is_eq (key_cmp s.parts (key_of s.parts e.1.values) (key_of s.parts rec.values))

pub equal_any : (s : Shape) (manual : List SubsetEntry) (number : Option ℕ) (rec : Record) (es : List (Place × Record)) → has_equal s manual number rec es ≡ list_any (is_equal_to s manual number rec) es
equal_any s manual number rec [] = refl
equal_any s manual number rec (e ∷ es) = by (is_equal_to s manual number rec e) (equal_any s manual number rec es)
  where
    by : (b : Bool) → has_equal s manual number rec es ≡ list_any (is_equal_to s manual number rec) es → cond b true (has_equal s manual number rec es) ≡ (b || list_any (is_equal_to s manual number rec) es)
    by true rest = refl
    by false rest = rest

pub number_same : (a b : ℕ) → (a == b) ≡ true → a ≡ b
number_same a b h = grind (arith, nat_tests, h)

pub number_itself : (a : ℕ) → (a == a) ≡ true
number_itself a = grind (arith, nat_tests)

pub other_is : (n m : ℕ) → (m == n) ≡ false → not (n == m) ≡ true
other_is n m h = grind (arith, nat_tests, h)

pub over_manual : (s : Shape) → (s.kind == 5) ≡ true → over s ≡ s.set
over_manual s h = grind (arith, nat_tests, h)

-- the record behind a member
pub record Behind (s : Shape) (db : Db) (p m : ℕ) (x : Record) : Type 0 where
  pub has : has_entry db s.number p m ≡ true
  pub rec : Record
  pub stands : get db.records (s.set, m) ≡ Some rec
  pub is : record rec { owner = p } ≡ x

pub behind : (s : Shape) (db : Db) (p m : ℕ) (x : Record) → get (entered s db) (p, m) ≡ Some x → Behind s db p m x
behind s db p m x h = by (has_entry db s.number p m) (get db.records (s.set, m)) refl refl (sym (entered_get s db p m) ∙ h)
  where
    by : (b : Bool) (y : Option Record) → has_entry db s.number p m ≡ b → get db.records (s.set, m) ≡ y → cond b (as_member p y) None ≡ Some x → Behind s db p m x
    by true None e f k = absurd (cc)
    by true (Some y) e f k = record { has = e; rec = y; stands = f; is = same_Some (record y { owner = p }) x k }
    by false y e f k = absurd (cc)

pub belongs_is : (s : Shape) (db : Db) (o m : ℕ) (y : Record) → (s.kind == 5) ≡ true → belongs s db.entries o ((s.set, m), y) ≡ has_entry db s.number o m
belongs_is s db o m y manual =
    let set : (over s == s.set) ≡ true = ap (λ k. k == s.set) (over_manual s manual) ∙ number_itself s.set in
    (λ i. set i && cond (manual i) (list_any (names s.number o m) db.entries) ((o == y.owner) && takes s y.values))

module _ (desc : Described) (s : Shape) (db : Db) (o n : ℕ) (r : Record) (manual : (s.kind == 5) ≡ true) (small : SmallIn s db) (owned : o < 2 ^ 32) (at : get db.records (s.set, n) ≡ Some r)
    (fit : (m : ℕ) (x : Record) → get db.records (s.set, m) ≡ Some x → IsSetKey (kinds_over desc s) s.parts (key_of s.parts x.values)) where
  abbrev kinds : List ItemKind
  kinds = kinds_over desc s

  abbrev mine : Record
  mine = record r { owner = o }

  abbrev front : List ℕ
  front = key_front kinds s.parts o (key_of s.parts r.values)

  abbrev shows : Place × Record → Bool
  shows e = starts front (bytes_for kinds s e.0.0 e.0.1 e.1)

  shows_is : (p m : ℕ) (x y : Record) → has_entry db s.number p m ≡ true → get db.records (s.set, m) ≡ Some y → record y { owner = p } ≡ x → shows ((p, m), x) ≡ ((o == p) && is_eq (key_cmp s.parts (key_of s.parts r.values) (key_of s.parts y.values)))
  shows_is p m x y has stands is =
      ap (λ (z : Record). shows ((p, m), z)) (sym is)
      ∙ front_is kinds s.parts o p (key_of s.parts r.values) (key_of s.parts y.values) m owned (small.each p m has).0 (fit n r at) (fit m y stands)

  to_db : list_any shows (entries (entered s db)) ≡ true → (has_entry db s.number o n || has_equal s db.entries (Some n) mine (entries db.records)) ≡ true
  to_db h =
      let f = any_from shows (entered s db) h in
      let b = behind s db f.place.0 f.place.1 f.rec f.at in
      let both = and_parts (o == f.place.0) (is_eq (key_cmp s.parts (key_of s.parts r.values) (key_of s.parts b.rec.values))) (sym (shows_is f.place.0 f.place.1 f.rec b.rec b.has b.stands b.is) ∙ f.holds) in
      let owner = number_same o f.place.0 both.0 in
      by f.place.1 b.rec (f.place.1 == n) refl (ap (λ w. has_entry db s.number w f.place.1) owner ∙ b.has) b.stands both.1
    where
      or_true : (b : Bool) → (b || true) ≡ true
      or_true true = refl
      or_true false = refl

      by : (m : ℕ) (y : Record) (t : Bool) → (m == n) ≡ t → has_entry db s.number o m ≡ true → get db.records (s.set, m) ≡ Some y → is_eq (key_cmp s.parts (key_of s.parts r.values) (key_of s.parts y.values)) ≡ true
          → (has_entry db s.number o n || has_equal s db.entries (Some n) mine (entries db.records)) ≡ true
      by m y true e has stands key = ap (λ c. c || has_equal s db.entries (Some n) mine (entries db.records)) (ap (has_entry db s.number o) (sym (number_same m n e)) ∙ has)
      by m y false e has stands key =
          let other = other_is n m e in
          let turned = sym ((eq_by_cmp_equiv (key_total 0 s.parts)).symm (key_of s.parts r.values) (key_of s.parts y.values)) ∙ key in
          let member = belongs_is s db o m y manual ∙ has in
          let holds : is_equal_to s db.entries (Some n) mine ((s.set, m), y) ≡ true = (λ i. (member i && other i) && turned i) in
          ap (λ c. has_entry db s.number o n || c) (equal_any s db.entries (Some n) mine (entries db.records) ∙ any_at (is_equal_to s db.entries (Some n) mine) db.records (s.set, m) y stands holds)
          ∙ or_true (has_entry db s.number o n)

  shown : (m : ℕ) (y : Record) → has_entry db s.number o m ≡ true → get db.records (s.set, m) ≡ Some y → is_eq (key_cmp s.parts (key_of s.parts r.values) (key_of s.parts y.values)) ≡ true → list_any shows (entries (entered s db)) ≡ true
  shown m y has stands key =
      let there : get (entered s db) (o, m) ≡ Some (record y { owner = o }) = entered_get s db o m ∙ (λ i. cond (has i) (as_member o (stands i)) None) in
      let own = number_itself o in
      any_at shows (entered s db) (o, m) (record y { owner = o }) there (shows_is o m (record y { owner = o }) y has stands refl ∙ (λ i. own i && key i))

  to_list : (has_entry db s.number o n || has_equal s db.entries (Some n) mine (entries db.records)) ≡ true → list_any shows (entries (entered s db)) ≡ true
  to_list h = by (has_entry db s.number o n) refl h
    where
      equal_one : Found (is_equal_to s db.entries (Some n) mine) db.records → list_any shows (entries (entered s db)) ≡ true
      equal_one f =
          let two = and_parts (belongs s db.entries o (f.place, f.rec) && is_other (Some n) f.place.1) (is_eq (key_cmp s.parts (key_of s.parts f.rec.values) (key_of s.parts r.values))) f.holds in
          let one = and_parts (belongs s db.entries o (f.place, f.rec)) (is_other (Some n) f.place.1) two.0 in
          let of = and_parts (over s == f.place.0) _ one.0 in
          let set : f.place.0 ≡ s.set = sym (number_same (over s) f.place.0 of.0) ∙ over_manual s manual in
          let stands : get db.records (s.set, f.place.1) ≡ Some f.rec = ap (λ k. get db.records (k, f.place.1)) (sym set) ∙ f.at in
          let has : has_entry db s.number o f.place.1 ≡ true = sym (ap (λ b. cond b (list_any (names s.number o f.place.1) db.entries) ((o == f.rec.owner) && takes s f.rec.values)) manual) ∙ of.1 in
          shown f.place.1 f.rec has stands ((eq_by_cmp_equiv (key_total 0 s.parts)).symm (key_of s.parts r.values) (key_of s.parts f.rec.values) ∙ two.1)

      by : (b : Bool) → has_entry db s.number o n ≡ b → (b || has_equal s db.entries (Some n) mine (entries db.records)) ≡ true → list_any shows (entries (entered s db)) ≡ true
      by true has k = shown n r has at ((eq_by_cmp_equiv (key_total 0 s.parts)).refl (key_of s.parts r.values))
      by false has k = equal_one (any_from (is_equal_to s db.entries (Some n) mine) db.records (sym (equal_any s db.entries (Some n) mine (entries db.records)) ∙ k))

  -- The list has an entry with this owner and the record's key, where the entry stands or another member of the owner has an equal key.
  pub seen_manual : list_any (starts (key_front (kinds_over desc s) s.parts o (key_of s.parts r.values))) (manual_of desc db s) ≡ (has_entry db s.number o n || has_equal s db.entries (Some n) (record r { owner = o }) (entries db.records))
  seen_manual = any_entry kinds s (starts front) (entered s db) ∙ same_bool _ _ to_db to_list
