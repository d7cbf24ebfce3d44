-- Whether another record has an equal key, by the list of a set or automatic subset.
use Rattle.std.proofs.Common.{◌≡◌, ℕ, List, [], ◌∷◌, Bool, true, false, cond, Some, None, refl, sym, ap, ◌∙◌, arith}
use Rattle.std.specs.Prelude.{T, not, ◌&&◌, ◌==◌}
use Rattle.std.specs.declared.option.Option.{Option}
use Rattle.std.specs.FinMap.{find, get, is_sorted}
use Rattle.std.specs.FinMap.Entries.{below_all}
use Rattle.std.specs.List.{AllByRecursion, list_any}
use Rattle.std.specs.Ordering.{eq_by_cmp, is_eq, is_lt, nat_cmp, ordering_then}
use Rattle.std.specs.declared.cmp.Ordering.{Ordering}
use Rattle.std.specs.declared.cmp.Ordering.TheVariants.{Less, Equal}
use Rattle.std.specs.FinMap.{nat_cmp-IsAntisymmetric}
use Rattle.std.proofs.lemmas.Bool.Decides.{nat_tests}
use Rattle.std.proofs.lemmas.Cmp.{tied_itself}
use Rattle.std.proofs.lemmas.List.Folds.{Any-from_list_any, list_any_at}
use Rattle.dms_base.specs.declared.value.Value.{Value}
use Rattle.dms_desc.specs.declared.record.Record.{Record}
use Rattle.dms_desc.specs.Keys.{key_cmp, key_of}
use Rattle.dms_desc.specs.Kinds.{over, takes}
use Rattle.dms_desc.specs.Shape.{Shape}
use Rattle.dms_model.specs.Db.{Place, SubsetEntry, place_cmp}
use Rattle.dms_model.specs.Fresh.{first_true, second_true}
use Rattle.dms_model.specs.MemberLaws.{equal_of}
use Rattle.dms_model.specs.Members.{belongs, names}
use Rattle.dms_model.specs.Places.{itself, place_is, places_total, then_equal}
use Rattle.dms_model.specs.Stores.{has_equal, is_other}
use Rattle.dms_plain.specs.declared.member.Member.{Member}
use Rattle.dms_plain.specs.declared.rows.RecordRow.{RecordRow}
use Rattle.dms_plain.specs.Listed.{IsListOf, front_cmp, has, has_other, is_listed, is_member, member_cmp, member_of}
use Rattle.dms_plain.specs.Rows.{IsInOrder, entries_of, records_in}
use Rattle.dms_plain.proofs.Halving.{less_is}
use Rattle.dms_plain.proofs.Listing.{and_true, both, front_total, member_total}
use Rattle.dms_plain.proofs.Maps.{db_get}
use Rattle.dms_plain.proofs.Ordered.{same_tests, turned}

-- ---- entries in order are found by their places

found_before : (e : Place × Record) (es all : List (Place × Record)) → T (below_all place_cmp e.0 es) → AllByRecursion (λ x. find place_cmp x.0 all ≡ Some x.1) es → AllByRecursion (λ x. find place_cmp x.0 (e ∷ all) ≡ Some x.1) es
found_before e [] all below known = tt
found_before e (x ∷ xs) all below known =
    let less = less_is (place_cmp e.0 x.0) (first_true (is_lt (place_cmp e.0 x.0)) (below_all place_cmp e.0 xs) below) in (
      ap (λ (r : Ordering). cond (is_eq r) (Some e.1) (find place_cmp x.0 all)) (turned places_total e.0 x.0 Less less) ∙ known.0,
      found_before e xs all (second_true (is_lt (place_cmp e.0 x.0)) (below_all place_cmp e.0 xs) below) known.1,
    )

pub each_found : (es : List (Place × Record)) → T (is_sorted place_cmp es) → AllByRecursion (λ e. find place_cmp e.0 es ≡ Some e.1) es
each_found [] order = tt
each_found (e ∷ es) order = (
  ap (λ b. cond b (Some e.1) (find place_cmp e.0 es)) (itself e.0),
  found_before e es es (first_true (below_all place_cmp e.0 es) (is_sorted place_cmp es) order) (each_found es (second_true (below_all place_cmp e.0 es) (is_sorted place_cmp es) order)),
)

abbrev record_or : Record → Option Record → Record
record_or d None = d
record_or d (Some r) = r

still : (b c : Bool) → c ≡ true → cond b true c ≡ true
still true c h = refl
still false c h = h

module _ (s : Shape) (manual : List SubsetEntry) (number : Option ℕ) (owner : ℕ) (values : List Value) (kind : (s.kind == 5) ≡ false) where
  abbrev one : Record
  one = record { owner = owner; values = values }

  abbrev goal_member : Member
  goal_member = member_of s.parts owner values 0

  abbrev test : Place × Record → Bool
  test e = belongs s manual owner e && is_other number e.0.1 && is_eq (key_cmp s.parts (key_of s.parts e.1.values) (key_of s.parts values))

  abbrev other : Member → Bool
  other m = is_eq (front_cmp s.parts m goal_member) && is_other number m.number

  belongs_is : (e : Place × Record) → belongs s manual owner e ≡ ((over s == e.0.0) && ((owner == e.1.owner) && takes s e.1.values))
  belongs_is e = ap (λ b. (over s == e.0.0) && cond b (list_any (names s.number owner e.0.1) manual) ((owner == e.1.owner) && takes s e.1.values)) kind

  listed_is : (vs : List Value) → is_listed s vs ≡ takes s vs
  listed_is vs = ap (λ b. not b && takes s vs) kind

  found_equal : (n : ℕ) (rec : Record) (es : List (Place × Record)) → find place_cmp (over s, n) es ≡ Some rec → test ((over s, n), rec) ≡ true → has_equal s manual number one es ≡ true
  found_equal n rec [] at is = absurd (cc)
  found_equal n rec (e ∷ es) at is = by (eq_by_cmp place_cmp (over s, n) e.0) refl at (λ here. found_equal n rec es here is)
    where
      by : (b : Bool) → eq_by_cmp place_cmp (over s, n) e.0 ≡ b → cond b (Some e.1) (find place_cmp (over s, n) es) ≡ Some rec → (find place_cmp (over s, n) es ≡ Some rec → has_equal s manual number one es ≡ true) → cond (test e) true (has_equal s manual number one es) ≡ true
      by true tie here later =
          let place : e.0 ≡ (over s, n) = sym (place_is (over s, n) e.0 tie) in
          let same : e.1 ≡ rec = ap (record_or e.1) here in
          ap (λ b. cond b true (has_equal s manual number one es)) ((λ i. test (place i, same i)) ∙ is)
      by false apart here later = still (test e) (has_equal s manual number one es) (later here)

  equal_found : (all es : List (Place × Record)) → AllByRecursion (λ e. find place_cmp e.0 all ≡ Some e.1) es → has_equal s manual number one es ≡ true → (e : Place × Record) × (find place_cmp e.0 all ≡ Some e.1) × (test e ≡ true)
  equal_found all [] known is = absurd (cc)
  equal_found all (e ∷ es) known is = by (test e) refl is (λ k. equal_found all es known.1 k)
    where
      by : (b : Bool) → test e ≡ b → cond b true (has_equal s manual number one es) ≡ true → (has_equal s manual number one es ≡ true → (x : Place × Record) × (find place_cmp x.0 all ≡ Some x.1) × (test x ≡ true))
          → (x : Place × Record) × (find place_cmp x.0 all ≡ Some x.1) × (test x ≡ true)
      by true h k later = (e, known.0, h)
      by false h k later = later k

  nat_same : (a b : ℕ) → nat_cmp a b ≡ Equal → (b == a) ≡ true
  nat_same a b h = grind (arith, nat_tests, h)

  nat_tie : (a b : ℕ) → (b == a) ≡ true → nat_cmp a b ≡ Equal
  nat_tie a b h = grind (arith, nat_tests, h)

  nat_self : (a : ℕ) → (a == a) ≡ true
  nat_self a = grind (arith, nat_tests)

  nat_is : (a b : ℕ) → (a == b) ≡ true → a ≡ b
  nat_is a b h = grind (arith, nat_tests, h)

  module _ (ms : List Member) (rows : List RecordRow) (order : IsInOrder rows) (list : IsListOf s ms (get (records_in rows))) where
    abbrev es : List (Place × Record)
    es = entries_of rows

    -- a member of the list is that of a record which stands
    record_of : (m : Member) (o : Option Record) → find place_cmp (over s, m.number) es ≡ o → is_member s m.number o m ≡ true → other m ≡ true → has_equal s manual number one es ≡ true
    record_of m None at is passes = absurd (cc)
    record_of m (Some rec) at is passes =
        let made = member_of s.parts rec.owner rec.values m.number in
        let stands = both (is_listed s rec.values) (is_eq (member_cmp s.parts made m)) is in
        let tie = then_equal (front_cmp s.parts made m) (nat_cmp m.number m.number) (equal_of (member_cmp s.parts made m) stands.1) in
        let own = both (is_eq (front_cmp s.parts m goal_member)) (is_other number m.number) passes in
        let same = then_equal (nat_cmp rec.owner owner) (key_cmp s.parts (key_of s.parts rec.values) (key_of s.parts values))
        ((front_total s.parts).congr made m goal_member tie.0 ∙ equal_of (front_cmp s.parts m goal_member) own.0) in
        let takes_it = sym (listed_is rec.values) ∙ stands.0 in
        let belongs_so : belongs s manual owner ((over s, m.number), rec) ≡ true =
        belongs_is ((over s, m.number), rec)
        ∙ and_true (over s == over s) ((owner == rec.owner) && takes s rec.values) (nat_self (over s)) (and_true (owner == rec.owner) (takes s rec.values) (nat_same rec.owner owner same.0) takes_it) in
        found_equal m.number rec es at
        (and_true (belongs s manual owner ((over s, m.number), rec) && is_other number m.number) (is_eq (key_cmp s.parts (key_of s.parts rec.values) (key_of s.parts values)))
        (and_true (belongs s manual owner ((over s, m.number), rec)) (is_other number m.number) belongs_so own.1) (ap is_eq same.1))

    to_equal : has_other s.parts number goal_member ms ≡ true → has_equal s manual number one es ≡ true
    to_equal is =
        let a = Any-from_list_any other ms is in
        let m = a.1 in
        let there : has s.parts m ms ≡ true = list_any_at (λ y. is_eq (member_cmp s.parts y m)) ms a.0 m a.2 (ap (λ y. is_eq (member_cmp s.parts y m)) a.3 ∙ ap is_eq (tied_itself (member_total s.parts) m)) in
        record_of m (find place_cmp (over s, m.number) es) refl
        (sym (list.tells m ∙ ap (λ (o : Option Record). is_member s m.number o m) (db_get rows (over s, m.number) order)) ∙ there) a.4

    from_equal : has_equal s manual number one es ≡ true → has_other s.parts number goal_member ms ≡ true
    from_equal is =
        let f = equal_found es es (each_found es order) is in
        let e = f.0 in
        let tested = both (belongs s manual owner e && is_other number e.0.1) (is_eq (key_cmp s.parts (key_of s.parts e.1.values) (key_of s.parts values))) f.2 in
        let first = both (belongs s manual owner e) (is_other number e.0.1) tested.0 in
        let own = both (over s == e.0.0) ((owner == e.1.owner) && takes s e.1.values) (sym (belongs_is e) ∙ first.0) in
        let owned = both (owner == e.1.owner) (takes s e.1.values) own.1 in
        let m = member_of s.parts e.1.owner e.1.values e.0.1 in
        let at : get (records_in rows) (over s, e.0.1) ≡ Some e.1 = db_get rows (over s, e.0.1) order ∙ ap (λ (n : ℕ). find place_cmp (n, e.0.1) es) (nat_is (over s) e.0.0 own.0) ∙ f.1 in
        let stands : has s.parts m ms ≡ true =
        list.tells m ∙ ap (λ (o : Option Record). is_member s e.0.1 o m) at
        ∙ and_true (is_listed s e.1.values) (is_eq (member_cmp s.parts m m)) (listed_is e.1.values ∙ owned.1) (ap is_eq (tied_itself (member_total s.parts) m)) in
        let a = Any-from_list_any (λ y. is_eq (member_cmp s.parts y m)) ms stands in
        let tie = then_equal (front_cmp s.parts a.1 m) (nat_cmp (a.1).number e.0.1) (equal_of (member_cmp s.parts a.1 m) a.4) in
        let keys : key_cmp s.parts (key_of s.parts e.1.values) (key_of s.parts values) ≡ Equal = equal_of (key_cmp s.parts (key_of s.parts e.1.values) (key_of s.parts values)) tested.1 in
        let here : front_cmp s.parts m goal_member ≡ Equal = λ i. ordering_then (nat_tie e.1.owner owner owned.0 i) (keys i) in
        list_any_at other ms a.0 a.1 a.2
        (ap other a.3
        ∙ and_true (is_eq (front_cmp s.parts a.1 goal_member)) (is_other number (a.1).number)
        (ap is_eq ((front_total s.parts).congr a.1 m goal_member tie.0 ∙ here))
        (ap (is_other number) (nat_cmp-IsAntisymmetric (a.1).number e.0.1 tie.1) ∙ first.1))

    -- another record has the owner and the key in the list where it has them among all
    pub other_is_equal : has_other s.parts number goal_member ms ≡ has_equal s manual number one es
    other_is_equal = same_tests (has_other s.parts number goal_member ms) (has_equal s manual number one es) to_equal from_equal
