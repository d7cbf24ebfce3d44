-- The list of a manual subset while the entries of one record are moved from its old key to its new one, one after another.
use Rattle.std.proofs.Common.{◌≡◌, ◌∙◌, ◌+◌, ◌^◌, ◌<◌, ◌≤◌, ℕ, List, [], ◌∷◌, ◌++◌, Bool, true, false, cond, Some, None, refl, sym, ap, subst, length, length-append, filter, arith}
use Rattle.std.specs.Prelude.{◌&&◌, ◌==◌, ◌||◌, not, is_some}
use Rattle.std.specs.List.{AllByRecursion, list_any}
use Rattle.std.specs.declared.option.Option.{Option}
use Rattle.std.specs.FinMap.{entries, entries_sorted, get, get-remove, keys, len, len-entries, len-insert, remove, same_map}
use Rattle.std.specs.Int.{w32, to_be_bytes}
use Rattle.std.specs.Ordering.{eq_by_cmp, is_eq}
use Rattle.std.specs.declared.cmp.Ordering.TheVariants.{Less}
use Rattle.std.specs.Cmp.Lexicographic.{nat_list_cmp_total}
use Rattle.std.proofs.lemmas.Bool.{and_parts}
use Rattle.std.proofs.lemmas.Bool.Decides.{nat_tests}
use Rattle.std.proofs.lemmas.Cmp.{eq_by_cmp_equiv}
use Rattle.std.proofs.lemmas.Option.{same_Some}
use Rattle.dms_base.specs.declared.kind.ItemKind.{ItemKind}
use Rattle.dms_desc.specs.Keys.{key_cmp, key_of}
use Rattle.dms_desc.specs.Kinds.{over, takes}
use Rattle.dms_desc.specs.Shape.{Shape}
use Rattle.dms_desc.specs.declared.record.Record.{Record}
use Rattle.dms_key.specs.ByteOrder.{high_first_length}
use Rattle.dms_key.specs.KeyBytes.{key_bytes}
use Rattle.dms_model.specs.Db.{Db, Place, Records, place_cmp}
use Rattle.dms_model.specs.MemberLaws.{key_total}
use Rattle.dms_model.specs.Members.{belongs, names}
use Rattle.dms_model.specs.Places.{places_same, places_total}
use Rattle.dms_model.specs.Stores.{has_equal, is_other}
use Rattle.dms_model.specs.Uses.{has_entry, owners_named}
use Rattle.dms_chain.specs.Lists.{AreAllAbove, AreInByteOrder, ByteSet, bytes_cmp, keys_rise, with_entry, with_in, without, without_in}
use Rattle.dms_sets.specs.Changes.{HasRoom, ListsOf, OneChanged, entry_opt, is_seen, list_of_set, refuses}
use Rattle.dms_sets.specs.Clashes.{front_is, key_front}
use Rattle.dms_sets.specs.Entries.{IsSetKey}
use Rattle.dms_sets.specs.Few.{few_room}
use Rattle.dms_sets.specs.Listing.{AllPlaces, listing_of, member_opt, still}
use Rattle.dms_sets.specs.Prefixes.{starts}
use Rattle.dms_sets.specs.Sets.{owner_in}
use Rattle.dms_manual.specs.Counted.{listing_long}
use Rattle.dms_manual.specs.Entered.{IsSmallPair, as_member, entered, entered_get, member_entry, place_told}
use Rattle.dms_manual.specs.EnteringLaws.{manual_takes}
use Rattle.dms_manual.specs.Following.{MovesOne, MovesStand, for_owner}
use Rattle.dms_manual.specs.Listed.{bytes_for, entered_put, is_among, list_left, list_put, moved, moved_get, owners_are, small_put}
use Rattle.dms_manual.specs.Moves.{all_places, any_where, told}
use Rattle.dms_manual.specs.Named.{tells, tells_is}
use Rattle.dms_manual.specs.Refused.{Behind, any_at, any_entry, any_from, behind, belongs_is, equal_any, is_equal_to, number_itself, number_same, other_is, over_manual, same_bool}
use Rattle.dms_manual.specs.Seen.{MemberFits, MembersFit, all_listed, entered_fit, list_over, seen_over}

-- ---- lists

all_filtered : (P : List ℕ → Type 0) (t : List ℕ → Bool) (xs : List (List ℕ)) → AllByRecursion (λ q. t q ≡ true → P q) xs → AllByRecursion P (filter t xs)
all_filtered P t [] all = tt
all_filtered P t (x ∷ xs) all = by (t x) refl (all_filtered P t xs all.1)
  where
    by : (b : Bool) → t x ≡ b → AllByRecursion P (filter t xs) → AllByRecursion P (cond b (x ∷ filter t xs) (filter t xs))
    by true is rest = (all.0 is, rest)
    by false is rest = rest

above_passing : (t : List ℕ → Bool) (x : List ℕ) (xs : List (List ℕ)) → AreAllAbove x xs → AreAllAbove x (filter t xs)
above_passing t x [] all = tt
above_passing t x (y ∷ xs) all = by (t y) (above_passing t x xs all.1)
  where
    by : (b : Bool) → AreAllAbove x (filter t xs) → AreAllAbove x (cond b (y ∷ filter t xs) (filter t xs))
    by true rest = (all.0, rest)
    by false rest = rest

pub passing_rise : (t : List ℕ → Bool) (xs : List (List ℕ)) → AreInByteOrder xs → AreInByteOrder (filter t xs)
passing_rise t [] rise = tt
passing_rise t (x ∷ xs) rise = by (t x) (passing_rise t xs rise.1)
  where
    by : (b : Bool) → AreInByteOrder (filter t xs) → AreInByteOrder (cond b (x ∷ filter t xs) (filter t xs))
    by true rest = (above_passing t x xs rise.0, rest)
    by false rest = rest

-- a test of some owner
among_any : (f : ℕ → Bool) (p : ℕ) (os : List ℕ) → is_among p os ≡ true → f p ≡ true → list_any f os ≡ true
among_any f p [] h is = absurd (cc h)
among_any f p (o ∷ os) h is = by (p == o) refl h (λ k. among_any f p os k is)
  where
    or_true : (b : Bool) → (b || true) ≡ true
    or_true true = refl
    or_true false = refl

    by : (b : Bool) → (p == o) ≡ b → (b || is_among p os) ≡ true → (is_among p os ≡ true → list_any f os ≡ true) → (f o || list_any f os) ≡ true
    by true e k rest = let same : p ≡ o = number_same p o e in ap (λ b. b || list_any f os) (ap f (sym same) ∙ is)
    by false e k rest = ap (λ b. f o || b) (rest k) ∙ or_true (f o)

record SomeOwner (f : ℕ → Bool) (os : List ℕ) : Type 0 where
  owner : ℕ
  among : is_among owner os ≡ true
  holds : f owner ≡ true

some_owner : (f : ℕ → Bool) (os : List ℕ) → list_any f os ≡ true → SomeOwner f os
some_owner f [] h = absurd (cc h)
some_owner f (o ∷ os) h = by (f o) refl h (λ k. some_owner f os k)
  where
    or_true : (b : Bool) → (b || true) ≡ true
    or_true true = refl
    or_true false = refl

    by : (b : Bool) → f o ≡ b → (b || list_any f os) ≡ true → (list_any f os ≡ true → SomeOwner f os) → SomeOwner f (o ∷ os)
    by true e k rest = record { owner = o; among = ap (λ b. b || is_among o os) (number_itself o); holds = e }
    by false e k rest = let r = rest k in record { owner = r.owner; among = ap (λ b. (r.owner == o) || b) r.among ∙ or_true (r.owner == o); holds = r.holds }

same_any : (f : ℕ → Bool) (os ps : List ℕ) → ((p : ℕ) → is_among p os ≡ is_among p ps) → list_any f os ≡ list_any f ps
same_any f os ps same = same_bool _ _ (λ h. let r = some_owner f os h in among_any f r.owner ps (sym (same r.owner) ∙ r.among) r.holds) (λ h. let r = some_owner f ps h in among_any f r.owner os (same r.owner ∙ r.among) r.holds)

moved_same : (os ps : List ℕ) (n : ℕ) (v : Record) (m : Records) → ((p : ℕ) → is_among p os ≡ is_among p ps) → moved os n v m ≡ moved ps n v m
moved_same os ps n v m same =
    same_map places_total places_same _ _ (λ q.
    moved_get os n v m q.0 q.1 ∙ ap (λ b. cond (b && (q.1 == n)) (Some (record v { owner = q.0 })) (get m q)) (same q.0) ∙ sym (moved_get ps n v m q.0 q.1))

other_not : (n m : ℕ) → not (n == m) ≡ true → (m == n) ≡ false
other_not n m h = grind (arith, nat_tests, h)

-- ---- one entry

module _ (kinds : List ItemKind) (s : Shape) (db : Db) (n : ℕ) (old new : Record) (manual : s.kind ≡ 5) (low : n < 2 ^ 32) (st : MovesStand kinds s db n old new) where
  abbrev mine : Records
  mine = entered s db

  abbrev after : List ℕ → Records
  after os = moved os n new mine

  -- all of these are owners of entries of the record
  abbrev AreOwners : List ℕ → Type 0
  AreOwners os = (p : ℕ) → is_among p os ≡ true → has_entry db s.number p n ≡ true

  kind : (s.kind == 5) ≡ true
  kind = grind (arith, nat_tests, manual)

  moved_fit : (os : List ℕ) → AreOwners os → MembersFit kinds s (after os)
  moved_fit os own k x at = by (is_among k.0 os) (k.1 == n) refl refl (sym (moved_get os n new mine k.0 k.1) ∙ at)
    where
      by : (a b : Bool) → is_among k.0 os ≡ a → (k.1 == n) ≡ b → cond (a && b) (Some (for_owner k.0 new)) (get mine (k.0, k.1)) ≡ Some x → MemberFits kinds s k x
      by true true e f h =
          let here : k.1 ≡ n = number_same k.1 n f in
          record {
            pair = subst (λ m. IsSmallPair (k.0, m)) (sym here) (st.small.each k.0 n (own k.0 e));
            key = subst (λ (z : Record). IsSetKey kinds s.parts (key_of s.parts z.values)) (same_Some (for_owner k.0 new) x h) st.new_fits;
          }
      by true false e f h = entered_fit kinds s db st.small st.fit k x h
      by false b e f h = entered_fit kinds s db st.small st.fit k x h

  small_after : (os : List ℕ) → AreOwners os → AllPlaces IsSmallPair (entries (after os))
  small_after os own = all_places IsSmallPair (after os) (λ k x at. (moved_fit os own k x at).pair)

  -- an owner's entry is there
  some_there : (os : List ℕ) (o : ℕ) → has_entry db s.number o n ≡ true → is_some (get (after os) (o, n)) ≡ true
  some_there os o has = ap is_some (moved_get os n new mine o n ∙ (λ i. cond (is_among o os && (n == n)) (Some (for_owner o new)) (there i))) ∙ by (is_among o os && (n == n))
    where
      there : get mine (o, n) ≡ Some (for_owner o old)
      there = entered_get s db o n ∙ (λ i. cond (has i) (as_member o (st.old_is i)) None)

      by : (b : Bool) → is_some (cond b (Some (for_owner o new)) (Some (for_owner o old))) ≡ true
      by true = refl
      by false = refl

  first_own : (o : ℕ) (os : List ℕ) → AreOwners (o ∷ os) → has_entry db s.number o n ≡ true
  first_own o os own = own o (ap (λ b. b || is_among o os) (number_itself o))

  rest_own : (o : ℕ) (os : List ℕ) → AreOwners (o ∷ os) → AreOwners os
  rest_own o os own p h = own p (ap (λ b. (p == o) || b) h ∙ or_true (p == o))
    where
      or_true : (b : Bool) → (b || true) ≡ true
      or_true true = refl
      or_true false = refl

  moved_len : (os : List ℕ) → AreOwners os → len (after os) ≡ len mine
  moved_len [] own = refl
  moved_len (o ∷ os) own =
      len-insert places_total (after os) (o, n) (for_owner o new)
      ∙ ap (λ b. cond b (len (after os)) (len (after os) + 1)) (some_there os o (first_own o os own))
      ∙ moved_len os (rest_own o os own)

  long_after : (os : List ℕ) → AreOwners os → length (list_over kinds s (after os)) ≡ len (after os)
  long_after os own = listing_long kinds s (entries (after os)) (small_after os own) (entries_sorted (after os)) ∙ sym (len-entries (after os))

  few_after : (os : List ℕ) → AreOwners os → length (list_over kinds s (after os)) ≤ 1000000
  few_after os own =
      let start : length (list_over kinds s mine) ≡ len mine = long_after [] (λ p h. absurd (cc h)) in
      omega (arith, long_after os own, moved_len os own, start, st.few)

  entry_is : (o : ℕ) (r : Record) → entry_opt kinds s n (Some (for_owner o r)) ≡ Some (bytes_for kinds s o n r)
  entry_is o r = ap (λ b. cond b (Some (bytes_for kinds s o n r)) None) (manual_takes s (for_owner o r) manual)

  -- some owners are done, and this one isn't yet
  module _ (os : List ℕ) (own : AreOwners os) (o : ℕ) (off : is_among o os ≡ false) (has : has_entry db s.number o n ≡ true) where
    here : IsSmallPair (o, n)
    here = st.small.each o n has

    old_there : get (after os) (o, n) ≡ Some (for_owner o old)
    old_there =
        moved_get os n new mine o n ∙ ap (λ b. cond (b && (n == n)) (Some (for_owner o new)) (get mine (o, n))) off
        ∙ entered_get s db o n ∙ (λ i. cond (has i) (as_member o (st.old_is i)) None)

    abbrev gone : Records
    gone = remove (after os) (o, n)

    gone_fit : MembersFit kinds s gone
    gone_fit k x at = by (eq_by_cmp place_cmp k (o, n)) (sym (get-remove places_total (after os) (o, n) k) ∙ at)
      where
        by : (b : Bool) → cond b None (get (after os) k) ≡ Some x → MemberFits kinds s k x
        by true h = absurd (cc h)
        by false h = moved_fit os own k x h

    -- the list without the old entry
    taken_is : without (bytes_for kinds s o n old) (list_over kinds s (after os)) ≡ list_over kinds s gone
    taken_is =
        let small' = all_places IsSmallPair gone (λ k x at. (gone_fit k x at).pair) in
        ap (λ x. without_in (member_opt (member_entry kinds s) (o, n) x) (list_over kinds s (after os))) (sym old_there)
        ∙ sym (list_left kinds s (after os) o n (small_after os own) here small')

    put_is : with_entry (bytes_for kinds s o n new) (list_over kinds s gone) ≡ list_over kinds s (after (o ∷ os))
    put_is =
        let small' = small_put kinds s (after os) o n (small_after os own) here (for_owner o new) (λ k x at. (moved_fit os own k x at).pair) in
        ap (with_entry (bytes_for kinds s o n new)) (sym taken_is)
        ∙ ap (λ x. with_entry (bytes_for kinds s o n new) (without_in (member_opt (member_entry kinds s) (o, n) x) (list_over kinds s (after os)))) (sym old_there)
        ∙ sym (list_put kinds s (after os) o n (small_after os own) here (for_owner o new) small')

    pub moved_is : with_in (entry_opt kinds s n (Some (for_owner o new))) (without_in (entry_opt kinds s n (Some (for_owner o old))) (list_over kinds s (after os))) ≡ list_over kinds s (after (o ∷ os))
    moved_is =
        (λ i. with_in (entry_is o new i) (without_in (entry_is o old i) (list_over kinds s (after os))))
        ∙ ap (with_entry (bytes_for kinds s o n new)) taken_is ∙ put_is

    -- ---- who is seen

    abbrev front : List ℕ
    front = key_front kinds s.parts o (key_of s.parts new.values)

    abbrev shows : Place × Record → Bool
    shows e = starts front (bytes_for kinds s e.0.0 e.0.1 e.1)

    abbrev equals : Place × Record → Bool
    equals = is_equal_to s db.entries (Some n) (for_owner o new)

    -- an entry of another record of this owner
    other_there : (m : ℕ) → (m == n) ≡ false → get gone (o, m) ≡ get mine (o, m)
    other_there m apart =
        get-remove places_total (after os) (o, n) (o, m) ∙ ap (λ b. cond b None (get (after os) (o, m))) elsewhere
        ∙ moved_get os n new mine o m ∙ ap (λ b. cond (b && (m == n)) (Some (for_owner o new)) (get mine (o, m))) off
      where
        elsewhere : eq_by_cmp place_cmp (o, m) (o, n) ≡ false
        elsewhere = grind (arith, nat_tests, apart)

    none_there : (x : Record) → get gone (o, n) ≡ Some x → ⊥
    none_there x at = absurd (cc (sym (get-remove places_total (after os) (o, n) (o, n) ∙ ap (λ b. cond b None (get (after os) (o, n))) itself) ∙ at))
      where
        itself : eq_by_cmp place_cmp (o, n) (o, n) ≡ true
        itself = (eq_by_cmp_equiv places_total).refl (o, n)

    shows_is : (p m : ℕ) (x : Record) → MemberFits kinds s (p, m) x → shows ((p, m), x) ≡ ((o == p) && is_eq (key_cmp s.parts (key_of s.parts new.values) (key_of s.parts x.values)))
    shows_is p m x f = front_is kinds s.parts o p (key_of s.parts new.values) (key_of s.parts x.values) m here.0 f.pair.0 st.new_fits f.key

    to_db : list_any shows (entries gone) ≡ true → has_equal s db.entries (Some n) (for_owner o new) (entries db.records) ≡ true
    to_db h =
        let f = any_from shows gone h in
        let both = and_parts (o == f.place.0) (is_eq (key_cmp s.parts (key_of s.parts new.values) (key_of s.parts f.rec.values))) (sym (shows_is f.place.0 f.place.1 f.rec (gone_fit f.place f.rec f.at)) ∙ f.holds) in
        let owner : o ≡ f.place.0 = number_same o f.place.0 both.0 in
        by f.place.1 f.rec (f.place.1 == n) refl (ap (λ w. get gone (w, f.place.1)) owner ∙ f.at) both.1
      where
        by : (m : ℕ) (x : Record) (t : Bool) → (m == n) ≡ t → get gone (o, m) ≡ Some x → is_eq (key_cmp s.parts (key_of s.parts new.values) (key_of s.parts x.values)) ≡ true → has_equal s db.entries (Some n) (for_owner o new) (entries db.records) ≡ true
        by m x true e at key = absurd (none_there x (ap (λ w. get gone (o, w)) (sym (number_same m n e)) ∙ at))
        by m x false e at key =
            let b : Behind s db o m x = behind s db o m x (sym (other_there m e) ∙ at) in
            let other = other_is n m e in
            let turned : is_eq (key_cmp s.parts (key_of s.parts b.rec.values) (key_of s.parts new.values)) ≡ true =
            sym ((eq_by_cmp_equiv (key_total 0 s.parts)).symm (key_of s.parts new.values) (key_of s.parts b.rec.values)) ∙ ap (λ (z : Record). is_eq (key_cmp s.parts (key_of s.parts new.values) (key_of s.parts z.values))) b.is ∙ key in
            let member = belongs_is s db o m b.rec kind ∙ b.has in
            let holds : equals ((s.set, m), b.rec) ≡ true = (λ i. (member i && other i) && turned i) in
            equal_any s db.entries (Some n) (for_owner o new) (entries db.records) ∙ any_at equals db.records (s.set, m) b.rec b.stands holds

    to_list : has_equal s db.entries (Some n) (for_owner o new) (entries db.records) ≡ true → list_any shows (entries gone) ≡ true
    to_list h =
        let f = any_from equals db.records (sym (equal_any s db.entries (Some n) (for_owner o new) (entries db.records)) ∙ h) in
        let two = and_parts (belongs s db.entries o (f.place, f.rec) && is_other (Some n) f.place.1) (is_eq (key_cmp s.parts (key_of s.parts f.rec.values) (key_of s.parts new.values))) f.holds in
        let one = and_parts (belongs s db.entries o (f.place, f.rec)) (is_other (Some n) f.place.1) two.0 in
        let of = and_parts (over s == f.place.0) _ one.0 in
        let set : f.place.0 ≡ s.set = sym (number_same (over s) f.place.0 of.0) ∙ over_manual s kind in
        let stands : get db.records (s.set, f.place.1) ≡ Some f.rec = ap (λ k. get db.records (k, f.place.1)) (sym set) ∙ f.at in
        let there : has_entry db s.number o f.place.1 ≡ true = sym (ap (λ b. cond b (list_any (names s.number o f.place.1) db.entries) ((o == f.rec.owner) && takes s f.rec.values)) kind) ∙ of.1 in
        let member : get gone (o, f.place.1) ≡ Some (for_owner o f.rec) = other_there f.place.1 (other_not n f.place.1 one.1) ∙ entered_get s db o f.place.1 ∙ (λ i. cond (there i) (as_member o (stands i)) None) in
        let turned = (eq_by_cmp_equiv (key_total 0 s.parts)).symm (key_of s.parts new.values) (key_of s.parts f.rec.values) ∙ two.1 in
        let own_one = number_itself o in
        any_at shows gone (o, f.place.1) (for_owner o f.rec) member (shows_is o f.place.1 (for_owner o f.rec) (gone_fit (o, f.place.1) (for_owner o f.rec) member) ∙ (λ i. own_one i && turned i))

    seen_moved : is_seen kinds s (for_owner o new) (list_over kinds s gone) ≡ has_equal s db.entries (Some n) (for_owner o new) (entries db.records)
    seen_moved = seen_over kinds s gone gone_fit (for_owner o new) st.new_fits ∙ any_entry kinds s (starts front) gone ∙ same_bool _ _ to_db to_list

    -- The list refuses the record where the subset has no duplicates, and another member of the owner has its new key.
    pub refused_is : refuses kinds s (Some (for_owner o new)) (without_in (entry_opt kinds s n (Some (for_owner o old))) (list_over kinds s (after os)))
        ≡ (not s.duplicates && has_equal s db.entries (Some n) (for_owner o new) (entries db.records))
    refused_is =
        ap (λ x. refuses kinds s (Some (for_owner o new)) (without_in x (list_over kinds s (after os)))) (entry_is o old)
        ∙ ap (refuses kinds s (Some (for_owner o new))) taken_is
        ∙ (λ i. (not s.duplicates && manual_takes s (for_owner o new) manual i) && seen_moved i)
        ∙ by (not s.duplicates)
      where
        by : (d : Bool) → ((d && true) && has_equal s db.entries (Some n) (for_owner o new) (entries db.records)) ≡ (d && has_equal s db.entries (Some n) (for_owner o new) (entries db.records))
        by true = refl
        by false = refl

    pub room_is : HasRoom (without_in (entry_opt kinds s n (Some (for_owner o old))) (list_over kinds s (after os)))
    room_is = few_room (entry_opt kinds s n (Some (for_owner o old))) (list_over kinds s (after os)) 1000000 (few_after os own) (omega arith)

  -- ---- where the key is as it was

  module _ (same : key_bytes kinds s.parts (key_of s.parts new.values) ≡ key_bytes kinds s.parts (key_of s.parts old.values)) where
    same_member : (os : List ℕ) (o : ℕ) → has_entry db s.number o n ≡ true → member_entry kinds s (o, n) (for_owner o new) ≡ member_opt (member_entry kinds s) (o, n) (get (after os) (o, n))
    same_member os o has =
        by (is_among o os && (n == n))
        ∙ ap (member_opt (member_entry kinds s) (o, n)) (sym (moved_get os n new mine o n ∙ (λ i. cond (is_among o os && (n == n)) (Some (for_owner o new)) (there i))))
      where
        there : get mine (o, n) ≡ Some (for_owner o old)
        there = entered_get s db o n ∙ (λ i. cond (has i) (as_member o (st.old_is i)) None)

        by : (b : Bool) → member_entry kinds s (o, n) (for_owner o new) ≡ member_opt (member_entry kinds s) (o, n) (cond b (Some (for_owner o new)) (Some (for_owner o old)))
        by true = refl
        by false = λ i. Some (to_be_bytes w32 o ++ (same i ++ to_be_bytes w32 n))

    still_after : (os : List ℕ) → AreOwners os → list_over kinds s (after os) ≡ list_over kinds s mine
    still_after [] own = refl
    still_after (o ∷ os) own =
        let rest = rest_own o os own in
        ap (λ (x : ByteSet). keys x) (still (member_entry kinds s) place_told IsSmallPair (told kinds s) (after os) (o, n) (for_owner o new) (small_after os rest) (small_after (o ∷ os) own) (same_member os o (first_own o os own)))
        ∙ still_after os rest

    -- With DUPLICATES no entry moves.
    pub unmoved : (now : Option (List (List ℕ))) → s.duplicates ≡ true → now ≡ Some (list_over kinds s mine) → MovesOne kinds s db n new now false
    unmoved now duplicates is =
        let os = owners_named s.number n db.entries in
        record {
          answer = sym (ap (λ b. not b && list_any (λ owner. has_equal s db.entries (Some n) (for_owner owner new) (entries db.records)) os) duplicates);
          done = λ h. is ∙ ap Some (sym (still_after os (λ p k. sym (owners_are s.number p n db.entries) ∙ k))) ∙ ap (λ (m : Records). Some (list_over kinds s m)) (sym (entered_put s db n new));
        }

-- ---- one entry after another

-- an entry of the record in the list before any was moved
pub record StandsOld (kinds : List ItemKind) (s : Shape) (db : Db) (n : ℕ) (old : Record) (q : List ℕ) : Type 0 where
  pub is : q ≡ bytes_for kinds s (owner_in q) n old
  pub has : has_entry db s.number (owner_in q) n ≡ true

-- These owners are done, and these entries are left.
pub record Left (kinds : List ItemKind) (s : Shape) (db : Db) (n : ℕ) (old : Record) (os : List ℕ) (rest : List (List ℕ)) : Type 0 where
  pub each : AllByRecursion (StandsOld kinds s db n old) rest
  pub apart : AllByRecursion (λ q. is_among (owner_in q) os ≡ false) rest
  pub rise : AreInByteOrder rest
  pub all : (p : ℕ) → has_entry db s.number p n ≡ (is_among p os || list_any (λ q. p == owner_in q) rest)

-- Those of some owners are moved, none of them was refused, and these entries are left.
pub record MovedSome (kinds : List ItemKind) (s : Shape) (db : Db) (n : ℕ) (old new : Record) (rest : List (List ℕ)) (now : Option (List (List ℕ))) : Type 0 where
  pub owners : List ℕ
  pub left : Left kinds s db n old owners rest
  pub list : now ≡ Some (list_over kinds s (moved owners n new (entered s db)))
  pub none : (not s.duplicates && list_any (λ owner. has_equal s db.entries (Some n) (for_owner owner new) (entries db.records)) owners) ≡ false

-- where a database is told, some entries were moved in its list, and these are left
abbrev pub IfMoving : List ItemKind → Shape → ℕ → Record → Record → List (List ℕ) → ListsOf → (Db → Type 0) → Type 0
IfMoving kinds s n old new rest ls P = (db : Db) → MovesStand kinds s db n old new → MovedSome kinds s db n old new rest (list_of_set ls kinds s) → P db

abbrev pub MovesEach : List ItemKind → Shape → ℕ → Record → Record → List (List ℕ) → ListsOf → ListsOf → Bool → Type 0
MovesEach kinds s n old new rest a b refused = IfMoving kinds s n old new rest a (λ db. MovesOne kinds s db n new (list_of_set b kinds s) refused)

module _ (kinds : List ItemKind) (s : Shape) (db : Db) (n : ℕ) (old new : Record) (manual : s.kind ≡ 5) (low : n < 2 ^ 32) (st : MovesStand kinds s db n old new) where
  abbrev members : Records
  members = entered s db

  abbrev equal_to : ℕ → Bool
  equal_to owner = has_equal s db.entries (Some n) (for_owner owner new) (entries db.records)

  -- before any was moved
  told_at : (k : Place) (x : Record) → get members k ≡ Some x → tells n (bytes_for kinds s k.0 k.1 x) ≡ true → StandsOld kinds s db n old (bytes_for kinds s k.0 k.1 x)
  told_at k x at h =
      let b : Behind s db k.0 k.1 x = behind s db k.0 k.1 x at in
      let pair = st.small.each k.0 k.1 b.has in
      let same : k.1 ≡ n = number_same k.1 n (sym (tells_is kinds s k.0 n k.1 x low pair.1) ∙ h) in
      let q = bytes_for kinds s k.0 k.1 x in
      let owner : k.0 ≡ owner_in q = ap (λ (w : Place). w.0) (told kinds s k x q pair refl) in
      let rec : b.rec ≡ old = same_Some b.rec old (sym b.stands ∙ ap (λ m. get db.records (s.set, m)) same ∙ st.old_is) in
      let values : x.values ≡ old.values = ap (λ (z : Record). z.values) (sym b.is) ∙ ap (λ (z : Record). z.values) rec in
      record {
        is = (λ i. bytes_for kinds s (owner i) (same i) (record { owner = 0; values = values i }));
        has = (λ i. has_entry db s.number (sym owner i) (sym same i)) ∙ b.has;
      }

  no_owners : (rest : List (List ℕ)) → AllByRecursion (λ q. is_among (owner_in q) [] ≡ false) rest
  no_owners [] = tt
  no_owners (q ∷ rest) = (refl, no_owners rest)

  abbrev tells_of : ℕ → List ℕ → Bool
  tells_of p q = tells n q && (p == owner_in q)

  of_owner : (p : ℕ) → has_entry db s.number p n ≡ list_any (λ q. p == owner_in q) (filter (tells n) (list_over kinds s members))
  of_owner p =
      sym (any_where (λ q. p == owner_in q) (tells n) (list_over kinds s members) ∙ any_entry kinds s (tells_of p) members ∙ same_bool _ _ to_entry to_listed)
    where
      to_entry : list_any (λ (e : Place × Record). tells_of p (bytes_for kinds s e.0.0 e.0.1 e.1)) (entries members) ≡ true → has_entry db s.number p n ≡ true
      to_entry h =
          let f = any_from (λ (e : Place × Record). tells_of p (bytes_for kinds s e.0.0 e.0.1 e.1)) members h in
          let q = bytes_for kinds s f.place.0 f.place.1 f.rec in
          let both = and_parts (tells n q) (p == owner_in q) f.holds in
          let one = told_at f.place f.rec f.at both.0 in
          ap (λ w. has_entry db s.number w n) (number_same p (owner_in q) both.1) ∙ one.has

      to_listed : has_entry db s.number p n ≡ true → list_any (λ (e : Place × Record). tells_of p (bytes_for kinds s e.0.0 e.0.1 e.1)) (entries members) ≡ true
      to_listed has =
          let there : get members (p, n) ≡ Some (for_owner p old) = entered_get s db p n ∙ (λ i. cond (has i) (as_member p (st.old_is i)) None) in
          let q = bytes_for kinds s p n (for_owner p old) in
          let pair = st.small.each p n has in
          let number : tells n q ≡ true = tells_is kinds s p n n (for_owner p old) low low ∙ number_itself n in
          let owner : (p == owner_in q) ≡ true = ap (λ w. p == w) (sym (ap (λ (w : Place). w.0) (told kinds s (p, n) (for_owner p old) q pair refl))) ∙ number_itself p in
          any_at (λ (e : Place × Record). tells_of p (bytes_for kinds s e.0.0 e.0.1 e.1)) members (p, n) (for_owner p old) there (λ i. number i && owner i)

  pub some_start : (now : Option (List (List ℕ))) → now ≡ Some (list_over kinds s members) → MovedSome kinds s db n old new (filter (tells n) (list_over kinds s members)) now
  some_start now is =
      record {
        owners = [];
        left = record {
          each = all_filtered (StandsOld kinds s db n old) (tells n) (list_over kinds s members) (all_listed kinds s (λ q. tells n q ≡ true → StandsOld kinds s db n old q) members told_at);
          apart = no_owners (filter (tells n) (list_over kinds s members));
          rise = passing_rise (tells n) (list_over kinds s members) (keys_rise (listing_of (member_entry kinds s) members));
          all = of_owner;
        };
        list = is;
        none = no_and (not s.duplicates);
      }
    where
      no_and : (b : Bool) → (b && false) ≡ false
      no_and true = refl
      no_and false = refl

  own_of : (os : List ℕ) (rest : List (List ℕ)) → Left kinds s db n old os rest → (p : ℕ) → is_among p os ≡ true → has_entry db s.number p n ≡ true
  own_of os rest left p h = left.all p ∙ ap (λ b. b || list_any (λ q. p == owner_in q) rest) h

  -- the next one
  module _ (q : List ℕ) (rest : List (List ℕ)) (a b : Option (List (List ℕ))) (so : MovedSome kinds s db n old new (q ∷ rest) a) where
    abbrev owner : ℕ
    owner = owner_in q

    pub long_entry : 4 ≤ length q
    long_entry =
        let mine = key_bytes kinds s.parts (key_of s.parts old.values) ++ to_be_bytes w32 n in
        omega (arith, ap (λ (x : List ℕ). length x) so.left.each.0.is, length-append (to_be_bytes w32 (owner_in q)) mine, high_first_length 4 (owner_in q))

    or_three : (x y z : Bool) → (x || (y || z)) ≡ ((y || x) || z)
    or_three true true z = refl
    or_three true false z = refl
    or_three false true z = refl
    or_three false false z = refl

    apart_more : (ps : List (List ℕ)) → AllByRecursion (StandsOld kinds s db n old) ps → AllByRecursion (λ x. is_among (owner_in x) so.owners ≡ false) ps → AreAllAbove q ps → AllByRecursion (λ x. is_among (owner_in x) (owner ∷ so.owners) ≡ false) ps
    apart_more [] each apart above = tt
    apart_more (x ∷ ps) each apart above = (by (owner_in x == owner) refl, apart_more ps each.1 apart.1 above.1)
      where
        itself : bytes_cmp q q ≡ Less → ⊥
        itself h = absurd (cc (h, sym ((eq_by_cmp_equiv nat_list_cmp_total).refl q)))

        by : (t : Bool) → (owner_in x == owner) ≡ t → (t || is_among (owner_in x) so.owners) ≡ false
        by true e =
            let same : owner_in x ≡ owner = number_same (owner_in x) owner e in
            let one : x ≡ q = each.0.is ∙ ap (λ w. bytes_for kinds s w n old) same ∙ sym so.left.each.0.is in
            absurd (itself (ap (bytes_cmp q) (sym one) ∙ above.0))
        by false e = apart.0

    abbrev own : (p : ℕ) → is_among p so.owners ≡ true → has_entry db s.number p n ≡ true
    own = own_of so.owners (q ∷ rest) so.left

    module _ (refused : Bool) (one : (xs : List (List ℕ)) → a ≡ Some xs → OneChanged kinds s n (Some (for_owner (owner_in q) old)) (Some (for_owner (owner_in q) new)) xs b refused) where
      answer : refused ≡ (not s.duplicates && equal_to owner)
      answer = (one (list_over kinds s (moved so.owners n new members)) so.list).answer ∙ refused_is kinds s db n old new manual low st so.owners own owner so.left.apart.0 so.left.each.0.has

      or_off : (d x y : Bool) → (d && x) ≡ false → (d && y) ≡ false → (d && (x || y)) ≡ false
      or_off true true y h k = absurd (cc h)
      or_off true false y h k = k
      or_off false x y h k = refl

      pub some_step : refused ≡ false → MovedSome kinds s db n old new rest b
      some_step off =
          let done = (one (list_over kinds s (moved so.owners n new members)) so.list).done off (room_is kinds s db n old new manual low st so.owners own owner so.left.apart.0 so.left.each.0.has) in
          record {
            owners = owner ∷ so.owners;
            left = record {
              each = so.left.each.1;
              apart = apart_more rest so.left.each.1 so.left.apart.1 so.left.rise.0;
              rise = so.left.rise.1;
              all = λ p. so.left.all p ∙ or_three (is_among p so.owners) (p == owner) (list_any (λ x. p == owner_in x) rest);
            };
            list = done ∙ ap Some (moved_is kinds s db n old new manual low st so.owners own owner so.left.apart.0 so.left.each.0.has);
            none = or_off (not s.duplicates) (equal_to owner) (list_any equal_to so.owners) (sym answer ∙ off) so.none;
          }

      pub some_refused : refused ≡ true → MovesOne kinds s db n new b true
      some_refused is =
          let both = and_parts (not s.duplicates) (equal_to owner) (sym answer ∙ is) in
          let among : is_among owner (owners_named s.number n db.entries) ≡ true = owners_are s.number owner n db.entries ∙ so.left.each.0.has in
          let some = among_any equal_to owner (owners_named s.number n db.entries) among both.1 in
          let dup = both.0 in
          record { answer = sym (λ i. dup i && some i); done = λ h. absurd (cc h) }

  -- all are done
  pub some_end : (now : Option (List (List ℕ))) → MovedSome kinds s db n old new [] now → MovesOne kinds s db n new now false
  some_end now so =
      let same : (p : ℕ) → is_among p so.owners ≡ is_among p (owners_named s.number n db.entries) = λ p. or_none (is_among p so.owners) ∙ sym (so.left.all p) ∙ sym (owners_are s.number p n db.entries) in
      record {
        answer = sym (ap (λ b. not s.duplicates && b) (sym (same_any equal_to so.owners (owners_named s.number n db.entries) same)) ∙ so.none);
        done = λ h. so.list ∙ ap (λ (m : Records). Some (list_over kinds s m)) (moved_same so.owners (owners_named s.number n db.entries) n new members same ∙ sym (entered_put s db n new));
      }
    where
      or_none : (b : Bool) → b ≡ (b || false)
      or_none true = refl
      or_none false = refl
