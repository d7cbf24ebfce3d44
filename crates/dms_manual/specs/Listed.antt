-- The list of a manual subset after one entry came or left, and after a record that it names has changed.
use Rattle.std.proofs.Common.{◌≡◌, ◌∙◌, ℕ, List, [], ◌∷◌, Bool, true, false, cond, Some, None, refl, sym, ap, subst, arith}
use Rattle.std.specs.Prelude.{◌&&◌, ◌==◌, ◌||◌}
use Rattle.std.specs.List.{list_any}
use Rattle.std.specs.declared.option.Option.{Option}
use Rattle.std.specs.FinMap.{entries, get, get-insert, insert, keys, remove, same_map}
use Rattle.std.specs.Ordering.{eq_by_cmp}
use Rattle.std.proofs.lemmas.Bool.Decides.{nat_tests}
use Rattle.dms_base.specs.declared.kind.ItemKind.{ItemKind}
use Rattle.dms_desc.specs.Keys.{key_of}
use Rattle.dms_desc.specs.Shape.{Shape, Described}
use Rattle.dms_desc.specs.declared.record.Record.{Record}
use Rattle.dms_model.specs.Db.{Db, Place, Records, SubsetEntry, place_cmp}
use Rattle.dms_model.specs.Members.{names}
use Rattle.dms_model.specs.Places.{get_other, place_is, places_same, places_total, stands_there}
use Rattle.dms_chain.specs.Lists.{ByteSet, with_entry, without, without_in}
use Rattle.dms_sets.specs.Entries.{entry_bytes}
use Rattle.dms_sets.specs.Listing.{AllPlaces, changes_list, leaves_list, listing_of, member_opt, without_opt}
use Rattle.dms_sets.specs.Sets.{keys_with_opt, keys_without_opt, kinds_over}
use Rattle.dms_model.specs.Uses.{after_leave, entry_before, entry_of, has_entry, owners_named}
use Rattle.dms_manual.specs.Entered.{IsSmallPair, as_member, entered, entered_get, manual_of, member_entry, place_told}
use Rattle.dms_manual.specs.Moves.{SmallIn, all_places, any_placed, entered_less, entered_more, small_places, told, with_entry_of}

-- the bytes of the entry of a record for an owner
abbrev pub bytes_for : List ItemKind → Shape → ℕ → ℕ → Record → List ℕ
bytes_for kinds s o n r = entry_bytes kinds s.parts o (key_of s.parts r.values) n

-- ---- a member put, and one taken away

module _ (kinds : List ItemKind) (s : Shape) (m : Records) (o n : ℕ) (small : AllPlaces IsSmallPair (entries m)) (here : IsSmallPair (o, n)) where
  pub list_put : (v : Record) → AllPlaces IsSmallPair (entries (insert m (o, n) v))
      → keys (listing_of (member_entry kinds s) (insert m (o, n) v)) ≡ with_entry (bytes_for kinds s o n v) (without_in (member_opt (member_entry kinds s) (o, n) (get m (o, n))) (keys (listing_of (member_entry kinds s) m)))
  list_put v small' =
      ap (λ (x : ByteSet). keys x) (changes_list (member_entry kinds s) place_told IsSmallPair (told kinds s) m (o, n) v small small' here)
      ∙ keys_with_opt (Some (bytes_for kinds s o n v)) (without_opt (member_opt (member_entry kinds s) (o, n) (get m (o, n))) (listing_of (member_entry kinds s) m))
      ∙ ap (with_entry (bytes_for kinds s o n v)) (keys_without_opt (member_opt (member_entry kinds s) (o, n) (get m (o, n))) (listing_of (member_entry kinds s) m))

  pub list_left : AllPlaces IsSmallPair (entries (remove m (o, n)))
      → keys (listing_of (member_entry kinds s) (remove m (o, n))) ≡ without_in (member_opt (member_entry kinds s) (o, n) (get m (o, n))) (keys (listing_of (member_entry kinds s) m))
  list_left small' =
      ap (λ (x : ByteSet). keys x) (leaves_list (member_entry kinds s) place_told IsSmallPair (told kinds s) m (o, n) small small' here)
      ∙ keys_without_opt (member_opt (member_entry kinds s) (o, n) (get m (o, n))) (listing_of (member_entry kinds s) m)

  pub small_put : (v : Record) → ((k : Place) (r : Record) → get m k ≡ Some r → IsSmallPair k) → AllPlaces IsSmallPair (entries (insert m (o, n) v))
  small_put v all = all_places IsSmallPair (insert m (o, n) v) (λ k r at. by k r (eq_by_cmp place_cmp k (o, n)) refl (sym (get-insert places_total m (o, n) v k) ∙ at))
    where
      by : (k : Place) (r : Record) (b : Bool) → eq_by_cmp place_cmp k (o, n) ≡ b → cond b (Some v) (get m k) ≡ Some r → IsSmallPair k
      by k r true is at = subst IsSmallPair (sym (place_is k (o, n) is)) here
      by k r false is at = all k r at

-- ---- enter and leave

module _ (desc : Described) (s : Shape) (db : Db) (o n : ℕ) (r : Record) (at : get db.records (s.set, n) ≡ Some r) (small : SmallIn s db) (here : IsSmallPair (o, n)) where
  small_more : SmallIn s (with_entry_of db s.number o n)
  small_more = record { each = λ p m has. by p m (names s.number p m (entry_of s.number o n)) refl (sym (any_placed (names s.number p m) entry_before (entry_of s.number o n) db.entries) ∙ has) }
    where
      by : (p m : ℕ) (b : Bool) → names s.number p m (entry_of s.number o n) ≡ b → (b || has_entry db s.number p m) ≡ true → IsSmallPair (p, m)
      by p m true is h = let e : p ≡ o = grind (arith, nat_tests, is) in let f : m ≡ n = grind (arith, nat_tests, is) in subst IsSmallPair (λ i. (sym e i, sym f i)) here
      by p m false is h = small.each p m h

  abbrev kinds : List ItemKind
  kinds = kinds_over desc s

  -- A new entry is put into its place.
  pub manual_entered : has_entry db s.number o n ≡ false → manual_of desc (with_entry_of db s.number o n) s ≡ with_entry (bytes_for (kinds_over desc s) s o n r) (manual_of desc db s)
  manual_entered none =
      let more = entered_more s db o n r at in
      let small' = subst (λ (m : Records). AllPlaces IsSmallPair (entries m)) more (small_places s (with_entry_of db s.number o n) small_more) in
      let absent : get (entered s db) (o, n) ≡ None = entered_get s db o n ∙ ap (λ b. cond b (as_member o (get db.records (s.set, n))) None) none in
      ap (λ (m : Records). keys (listing_of (member_entry kinds s) m)) more
      ∙ list_put kinds s (entered s db) o n (small_places s db small) here (record r { owner = o }) small'
      ∙ ap (λ x. with_entry (bytes_for kinds s o n r) (without_in (member_opt (member_entry kinds s) (o, n) x) (manual_of desc db s))) absent

  -- An entry that stands is taken out.
  pub manual_left : has_entry db s.number o n ≡ true → SmallIn s (after_leave db s.number o n) → manual_of desc (after_leave db s.number o n) s ≡ without (bytes_for (kinds_over desc s) s o n r) (manual_of desc db s)
  manual_left has small_less =
      let less = entered_less s db o n in
      let small' = subst (λ (m : Records). AllPlaces IsSmallPair (entries m)) less (small_places s (after_leave db s.number o n) small_less) in
      let stands : get (entered s db) (o, n) ≡ Some (record r { owner = o }) = entered_get s db o n ∙ ap (λ b. cond b (as_member o (get db.records (s.set, n))) None) has ∙ ap (as_member o) at in
      ap (λ (m : Records). keys (listing_of (member_entry kinds s) m)) less
      ∙ list_left kinds s (entered s db) o n (small_places s db small) here small'
      ∙ ap (λ x. without_in (member_opt (member_entry kinds s) (o, n) x) (manual_of desc db s)) stands

-- ---- other subsets

-- the same entries in this subset, and the same records where they name one
pub record SameIn (s : Shape) (db d : Db) : Type 0 where
  pub entered : (o n : ℕ) → has_entry d s.number o n ≡ has_entry db s.number o n
  pub records : (o n : ℕ) → has_entry db s.number o n ≡ true → get d.records (s.set, n) ≡ get db.records (s.set, n)

pub manual_still : (desc : Described) (s : Shape) (db d : Db) → SameIn s db d → manual_of desc d s ≡ manual_of desc db s
manual_still desc s db d same =
    ap (λ (m : Records). keys (listing_of (member_entry (kinds_over desc s) s) m))
    (same_map places_total places_same _ _ (λ q.
    entered_get s d q.0 q.1 ∙ ap (λ b. cond b (as_member q.0 (get d.records (s.set, q.1))) None) (same.entered q.0 q.1) ∙ by q.0 q.1 (has_entry db s.number q.0 q.1) refl ∙ sym (entered_get s db q.0 q.1)))
  where
    by : (o n : ℕ) (b : Bool) → has_entry db s.number o n ≡ b → cond b (as_member o (get d.records (s.set, n))) None ≡ cond b (as_member o (get db.records (s.set, n))) None
    by o n true is = ap (as_member o) (same.records o n is)
    by o n false is = refl

-- ---- a record that is named has changed

-- its members, one after another
abbrev pub moved : List ℕ → ℕ → Record → Records → Records
moved [] n v m = m
moved (o ∷ os) n v m = insert (moved os n v m) (o, n) (record v { owner = o })

-- an owner is one of these
abbrev pub is_among : ℕ → List ℕ → Bool
is_among p os = list_any (λ o. p == o) os

pub moved_get : (os : List ℕ) (n : ℕ) (v : Record) (m : Records) (p k : ℕ) → get (moved os n v m) (p, k) ≡ cond (is_among p os && (k == n)) (Some (record v { owner = p })) (get m (p, k))
moved_get [] n v m p k = refl
moved_get (o ∷ os) n v m p k =
    get-insert places_total (moved os n v m) (o, n) (record v { owner = o }) (p, k)
    ∙ ap (λ x. cond (eq_by_cmp place_cmp (p, k) (o, n)) (Some (record v { owner = o })) x) (moved_get os n v m p k)
    ∙ by (p == o) (k == n) refl refl
  where
    tie : (a b : Bool) → (p == o) ≡ a → (k == n) ≡ b → eq_by_cmp place_cmp (p, k) (o, n) ≡ (a && b)
    tie true true x y = grind (arith, nat_tests, x, y)
    tie true false x y = grind (arith, nat_tests, x, y)
    tie false b x y = grind (arith, nat_tests, x)

    by : (a b : Bool) → (p == o) ≡ a → (k == n) ≡ b
        → cond (eq_by_cmp place_cmp (p, k) (o, n)) (Some (record v { owner = o })) (cond (is_among p os && b) (Some (record v { owner = p })) (get m (p, k)))
        ≡ cond ((a || is_among p os) && b) (Some (record v { owner = p })) (get m (p, k))
    by true true x y = let e : o ≡ p = grind (arith, nat_tests, x) in ap (λ c. cond c (Some (record v { owner = o })) (cond (is_among p os && true) (Some (record v { owner = p })) (get m (p, k)))) (tie true true x y) ∙ ap (λ w. Some (record v { owner = w })) e
    by true false x y = ap (λ c. cond c (Some (record v { owner = o })) (cond (is_among p os && false) (Some (record v { owner = p })) (get m (p, k)))) (tie true false x y) ∙ ap (λ c. cond c (Some (record v { owner = p })) (get m (p, k))) (off (is_among p os))
      where
        off : (c : Bool) → (c && false) ≡ false
        off true = refl
        off false = refl
    by false b x y = ap (λ c. cond c (Some (record v { owner = o })) (cond (is_among p os && b) (Some (record v { owner = p })) (get m (p, k)))) (tie false b x y)

-- the owners of a record's entries
pub owners_are : (subset p n : ℕ) (es : List SubsetEntry) → is_among p (owners_named subset n es) ≡ list_any (names subset p n) es
owners_are subset p n [] = refl
owners_are subset p n (e ∷ es) = by ((e.subset == subset) && (e.number == n)) refl (owners_are subset p n es)
  where
    by : (b : Bool) → ((e.subset == subset) && (e.number == n)) ≡ b → is_among p (owners_named subset n es) ≡ list_any (names subset p n) es
        → is_among p (cond b (e.owner ∷ owners_named subset n es) (owners_named subset n es)) ≡ (names subset p n e || list_any (names subset p n) es)
    by true is rest = let here : (p == e.owner) ≡ names subset p n e = grind (arith, nat_tests, is) in λ i. here i || rest i
    by false is rest = let off : names subset p n e ≡ false = grind (arith, nat_tests, is) in rest ∙ ap (λ b. b || list_any (names subset p n) es) (sym off)

-- After a record was stored the members of a manual subset over its data set are those in which it was put anew for each owner.
pub entered_put : (s : Shape) (db : Db) (n : ℕ) (v : Record) → entered s (record db { records = insert db.records (s.set, n) v }) ≡ moved (owners_named s.number n db.entries) n v (entered s db)
entered_put s db n v =
    same_map places_total places_same _ _ (λ q.
    entered_get s (record db { records = insert db.records (s.set, n) v }) q.0 q.1
    ∙ by q.0 q.1 (q.1 == n) refl
    ∙ sym (moved_get (owners_named s.number n db.entries) n v (entered s db) q.0 q.1 ∙ (λ i. cond (owners_are s.number q.0 n db.entries i && (q.1 == n)) (Some (record v { owner = q.0 })) (entered_get s db q.0 q.1 i))))
  where
    no_and : (c : Bool) → (c && false) ≡ false
    no_and true = refl
    no_and false = refl

    yes_and : (c : Bool) (x y : Option Record) → cond (c && true) x (cond c y None) ≡ cond c x None
    yes_and true x y = refl
    yes_and false x y = refl

    by : (p k : ℕ) (b : Bool) → (k == n) ≡ b
        → cond (has_entry db s.number p k) (as_member p (get (insert db.records (s.set, n) v) (s.set, k))) None
        ≡ cond (list_any (names s.number p n) db.entries && b) (Some (record v { owner = p })) (cond (has_entry db s.number p k) (as_member p (get db.records (s.set, k))) None)
    by p k true is =
        let e : k ≡ n = grind (arith, nat_tests, is) in
        ap (λ j. cond (has_entry db s.number p j) (as_member p (get (insert db.records (s.set, n) v) (s.set, j))) None) e
        ∙ ap (λ x. cond (has_entry db s.number p n) (as_member p x) None) (stands_there db.records (s.set, n) v)
        ∙ sym (ap (λ j. cond (has_entry db s.number p n && true) (Some (record v { owner = p })) (cond (has_entry db s.number p j) (as_member p (get db.records (s.set, j))) None)) e ∙ yes_and (has_entry db s.number p n) (Some (record v { owner = p })) (as_member p (get db.records (s.set, n))))
    by p k false is =
        ap (λ x. cond (has_entry db s.number p k) (as_member p x) None) (get_other db.records (s.set, n) (s.set, k) v (λ h. apart (ap (λ (w : Place). w.1) h)))
        ∙ sym (ap (λ c. cond c (Some (record v { owner = p })) (cond (has_entry db s.number p k) (as_member p (get db.records (s.set, k))) None)) (no_and (list_any (names s.number p n) db.entries)))
      where
        apart : k ≡ n → ⊥
        apart e = grind (arith, nat_tests, is, e)
