-- A listing of records: a set of byte strings in byte order, kept while one record is put.
use Rattle.std.proofs.Common.{◌≡◌, ℕ, List, [], ◌∷◌, Bool, true, false, cond, Some, None, refl, sym, ap, ◌∙◌}
use Rattle.std.specs.Prelude.{T}
use Rattle.std.specs.declared.option.Option.{Option}
use Rattle.std.specs.FinMap.{get, find, insert, remove, empty, entries, entries_sorted, get-entries, get-empty, get-insert, get-remove, same_map, is_sorted}
use Rattle.std.specs.FinMap.Entries.{below_all}
use Rattle.std.specs.Ordering.{eq_by_cmp, is_eq, is_lt}
use Rattle.std.specs.declared.cmp.Ordering.{Ordering}
use Rattle.std.specs.declared.cmp.Ordering.TheVariants.{Less, Equal, Greater}
use Rattle.std.specs.Cmp.Lexicographic.{nat_list_cmp_total}
use Rattle.std.proofs.lemmas.Cmp.{eq_by_cmp_equiv}
use Rattle.dms_desc.specs.declared.record.Record.{Record}
use Rattle.dms_model.specs.Db.{Records, Place, place_cmp}
use Rattle.dms_desc.specs.Sorted.{or_else}
use Rattle.dms_chain.specs.Lists.{bytes_cmp, ByteSet, bytes_same}
use Rattle.dms_model.specs.Places.{places_same, places_total}
use Rattle.dms_model.specs.Fresh.{second_true, first_true}
use Rattle.dms_model.specs.MemberLaws.{equal_of}

abbrev pub with_opt : Option (List ℕ) → ByteSet → ByteSet
with_opt None m = m
with_opt (Some x) m = insert m x tt

abbrev pub without_opt : Option (List ℕ) → ByteSet → ByteSet
without_opt None m = m
without_opt (Some x) m = remove m x

-- what a listing has at q by one member
abbrev pub test_of : List ℕ → Option (List ℕ) → Option (Unit {0})
test_of q None = None
test_of q (Some x) = cond (eq_by_cmp bytes_cmp q x) (Some tt) None

abbrev minus : Option (Unit {0}) → Option (Unit {0}) → Option (Unit {0})
minus None b = b
minus (Some x) b = None

get_with : (o : Option (List ℕ)) (m : ByteSet) (q : List ℕ) → get (with_opt o m) q ≡ or_else (test_of q o) (get m q)
get_with None m q = refl
get_with (Some x) m q =
    get-insert nat_list_cmp_total m x tt q
    ∙ elim (eq_by_cmp bytes_cmp q x) as (λ b. cond b (Some tt) (get m q) ≡ or_else (cond b (Some tt) None) (get m q)) [ true ↦ refl | false ↦ refl ]

get_without : (o : Option (List ℕ)) (m : ByteSet) (q : List ℕ) → get (without_opt o m) q ≡ minus (test_of q o) (get m q)
get_without None m q = refl
get_without (Some x) m q =
    get-remove nat_list_cmp_total m x q
    ∙ elim (eq_by_cmp bytes_cmp q x) as (λ b. cond b None (get m q) ≡ minus (cond b (Some tt) None) (get m q)) [ true ↦ refl | false ↦ refl ]

minus_itself : (t : Option (Unit {0})) → minus t t ≡ None
minus_itself None = refl
minus_itself (Some x) = refl

or_none : (t : Option (Unit {0})) → or_else t None ≡ t
or_none None = refl
or_none (Some x) = refl

never : (b : Bool) → (b ≡ true → ⊥) → ◌≡◌ {A = Option (Unit {0})} (cond b (Some tt) None) None
never true n = absurd (n refl)
never false n = refl

-- A listing gives each record at most one member.
module _ (member : Place → Record → Option (List ℕ)) where
  abbrev pub listing : List (Place × Record) → ByteSet
  listing [] = empty
  listing (e ∷ es) = with_opt (member e.0 e.1) (listing es)

  abbrev pub member_opt : Place → Option Record → Option (List ℕ)
  member_opt k None = None
  member_opt k (Some r) = member k r

  abbrev pub listing_of : Records → ByteSet
  listing_of m = listing (entries m)

-- it holds of each place
abbrev pub AllPlaces : (Place → Type 0) → List (Place × Record) → Type 0
AllPlaces P [] = Unit {0}
AllPlaces P (e ∷ es) = P e.0 × AllPlaces P es

module _ (member : Place → Record → Option (List ℕ)) where
  -- A member tells its record's place, where that is small.
  module _ (at : List ℕ → Place) (Small : Place → Type 0) (own : (k : Place) (r : Record) (q : List ℕ) → Small k → member k r ≡ Some q → k ≡ at q) where
    none_at : (o : Option (List ℕ)) (k : Place) (q : List ℕ) → ((x : List ℕ) → o ≡ Some x → k ≡ at x) → (at q ≡ k → ⊥) → test_of q o ≡ None
    none_at None k q from apart = refl
    none_at (Some x) k q from apart =
        never (eq_by_cmp bytes_cmp q x) (λ e. apart (ap at (bytes_same q x (equal_of (bytes_cmp q x) e)) ∙ sym (from x refl)))

    -- the member of another place's record isn't q
    pub other_member : (k : Place) (r : Record) (q : List ℕ) → Small k → (at q ≡ k → ⊥) → test_of q (member k r) ≡ None
    other_member k r q small apart = none_at (member k r) k q (λ x h. own k r x small h) apart

    other_opt : (k : Place) (o : Option Record) (q : List ℕ) → Small k → (at q ≡ k → ⊥) → test_of q (member_opt member k o) ≡ None
    other_opt k None q small apart = refl
    other_opt k (Some r) q small apart = other_member k r q small apart

    apart_of : (a b : Place) → eq_by_cmp place_cmp a b ≡ false → a ≡ b → ⊥
    apart_of a b h e =
        let itself = (eq_by_cmp_equiv places_total).refl b in
        let is : eq_by_cmp place_cmp a b ≡ true = ap (λ (x : Place). eq_by_cmp place_cmp x b) e ∙ itself in
        absurd (cc)

    less_apart : (o : Ordering) → T (is_lt o) → is_eq o ≡ false
    less_apart Less h = refl
    less_apart Equal h = absurd h
    less_apart Greater h = absurd h

    find_below : (p : Place) (es : List (Place × Record)) → T (below_all place_cmp p es) → find place_cmp p es ≡ None
    find_below p [] h = refl
    find_below p (e ∷ es) h =
        let here = less_apart (place_cmp p e.0) (first_true _ _ h) in
        ap (λ b. cond b (Some e.1) (find place_cmp p es)) here ∙ find_below p es (second_true _ _ h)

    step : (b : Bool) (q : List ℕ) (e : Place × Record) (es : List (Place × Record)) → eq_by_cmp place_cmp (at q) e.0 ≡ b → Small e.0 → T (below_all place_cmp e.0 es)
        → or_else (test_of q (member e.0 e.1)) (test_of q (member_opt member (at q) (find place_cmp (at q) es)))
        ≡ test_of q (member_opt member (at q) (cond b (Some e.1) (find place_cmp (at q) es)))
    step true q e es h small below =
        let same : at q ≡ e.0 = places_same (at q) e.0 (equal_of (place_cmp (at q) e.0) h) in
        let none : find place_cmp (at q) es ≡ None = ap (λ p. find place_cmp p es) same ∙ find_below e.0 es below in
        ap (λ o. or_else (test_of q (member e.0 e.1)) (test_of q (member_opt member (at q) o))) none
        ∙ or_none (test_of q (member e.0 e.1))
        ∙ ap (λ p. test_of q (member p e.1)) (sym same)
    step false q e es h small below =
        ap (λ o. or_else o (test_of q (member_opt member (at q) (find place_cmp (at q) es)))) (other_member e.0 e.1 q small (apart_of (at q) e.0 h))

    -- q is listed where it is the member of the record at its place
    pub listed_at : (es : List (Place × Record)) → AllPlaces Small es → T (is_sorted place_cmp es) → (q : List ℕ) → get (listing member es) q ≡ test_of q (member_opt member (at q) (find place_cmp (at q) es))
    listed_at [] small order q = get-empty bytes_cmp q
    listed_at (e ∷ es) small order q =
        get_with (member e.0 e.1) (listing member es) q
        ∙ ap (or_else (test_of q (member e.0 e.1))) (listed_at es small.1 (second_true _ _ order) q)
        ∙ step (eq_by_cmp place_cmp (at q) e.0) q e es refl small.0 (first_true _ _ order)

    pub lists_members : (m : Records) → AllPlaces Small (entries m) → (q : List ℕ) → get (listing_of member m) q ≡ test_of q (member_opt member (at q) (get m (at q)))
    lists_members m small q = listed_at (entries m) small (entries_sorted m) q ∙ ap (λ o. test_of q (member_opt member (at q) o)) (sym (get-entries m (at q)))

    change_at : (b : Bool) (m : Records) (k : Place) (v : Record) (q : List ℕ) → Small k → eq_by_cmp place_cmp (at q) k ≡ b
        → test_of q (member_opt member (at q) (cond b (Some v) (get m (at q))))
        ≡ or_else (test_of q (member k v)) (minus (test_of q (member_opt member k (get m k))) (test_of q (member_opt member (at q) (get m (at q)))))
    change_at true m k v q small h =
        let same : at q ≡ k = places_same (at q) k (equal_of (place_cmp (at q) k) h) in
        ap (λ p. test_of q (member p v)) same
        ∙ sym (or_none (test_of q (member k v)))
        ∙ ap (or_else (test_of q (member k v))) (sym (minus_itself (test_of q (member_opt member k (get m k)))) ∙ ap (λ p. minus (test_of q (member_opt member k (get m k))) (test_of q (member_opt member p (get m p)))) (sym same))
    change_at false m k v q small h =
        let apart = apart_of (at q) k h in
        sym ((λ i. or_else (other_member k v q small apart i) (minus (other_opt k (get m k) q small apart i) (test_of q (member_opt member (at q) (get m (at q)))))))

    -- After a record was put the listing is the old one without the old record's member and with the new one's.
    pub changes_list : (m : Records) (k : Place) (v : Record) → AllPlaces Small (entries m) → AllPlaces Small (entries (insert m k v)) → Small k
        → listing_of member (insert m k v) ≡ with_opt (member k v) (without_opt (member_opt member k (get m k)) (listing_of member m))
    changes_list m k v small small' here =
        same_map nat_list_cmp_total bytes_same _ _ (λ q.
        lists_members (insert m k v) small' q
        ∙ ap (λ o. test_of q (member_opt member (at q) o)) (get-insert places_total m k v (at q))
        ∙ change_at (eq_by_cmp place_cmp (at q) k) m k v q here refl
        ∙ ap (λ o. or_else (test_of q (member k v)) (minus (test_of q (member_opt member k (get m k))) o)) (sym (lists_members m small q))
        ∙ ap (or_else (test_of q (member k v))) (sym (get_without (member_opt member k (get m k)) (listing_of member m) q))
        ∙ sym (get_with (member k v) (without_opt (member_opt member k (get m k)) (listing_of member m)) q))

    left_at : (b : Bool) (m : Records) (k : Place) (q : List ℕ) → Small k → eq_by_cmp place_cmp (at q) k ≡ b
        → test_of q (member_opt member (at q) (cond b None (get m (at q))))
        ≡ minus (test_of q (member_opt member k (get m k))) (test_of q (member_opt member (at q) (get m (at q))))
    left_at true m k q small h =
        let same : at q ≡ k = places_same (at q) k (equal_of (place_cmp (at q) k) h) in
        sym (minus_itself (test_of q (member_opt member k (get m k)))) ∙ ap (λ p. minus (test_of q (member_opt member k (get m k))) (test_of q (member_opt member p (get m p)))) (sym same)
    left_at false m k q small h =
        let apart = apart_of (at q) k h in
        sym ((λ i. minus (other_opt k (get m k) q small apart i) (test_of q (member_opt member (at q) (get m (at q))))))

    -- After a record was removed the listing is the old one without its member.
    pub leaves_list : (m : Records) (k : Place) → AllPlaces Small (entries m) → AllPlaces Small (entries (remove m k)) → Small k
        → listing_of member (remove m k) ≡ without_opt (member_opt member k (get m k)) (listing_of member m)
    leaves_list m k small small' here =
        same_map nat_list_cmp_total bytes_same _ _ (λ q.
        lists_members (remove m k) small' q
        ∙ ap (λ o. test_of q (member_opt member (at q) o)) (get-remove places_total m k (at q))
        ∙ left_at (eq_by_cmp place_cmp (at q) k) m k q here refl
        ∙ ap (λ o. minus (test_of q (member_opt member k (get m k))) o) (sym (lists_members m small q))
        ∙ sym (get_without (member_opt member k (get m k)) (listing_of member m) q))

    still_at : (b : Bool) (m : Records) (k : Place) (v : Record) (q : List ℕ) → eq_by_cmp place_cmp (at q) k ≡ b → member k v ≡ member_opt member k (get m k)
        → test_of q (member_opt member (at q) (cond b (Some v) (get m (at q)))) ≡ test_of q (member_opt member (at q) (get m (at q)))
    still_at true m k v q h same =
        let here : at q ≡ k = places_same (at q) k (equal_of (place_cmp (at q) k) h) in
        ap (λ p. test_of q (member p v)) here ∙ ap (test_of q) same ∙ ap (λ p. test_of q (member_opt member p (get m p))) (sym here)
    still_at false m k v q h same = refl

    -- A record whose member is that of the one that it replaces leaves the listing.
    pub still : (m : Records) (k : Place) (v : Record) → AllPlaces Small (entries m) → AllPlaces Small (entries (insert m k v)) → member k v ≡ member_opt member k (get m k) → listing_of member (insert m k v) ≡ listing_of member m
    still m k v small small' same =
        same_map nat_list_cmp_total bytes_same _ _ (λ q.
        lists_members (insert m k v) small' q
        ∙ ap (λ o. test_of q (member_opt member (at q) o)) (get-insert places_total m k v (at q))
        ∙ still_at (eq_by_cmp place_cmp (at q) k) m k v q refl same
        ∙ sym (lists_members m small q))

    -- The member of the record that stands at a place is listed,
    pub stands : (m : Records) (k : Place) (r : Record) (q : List ℕ) → AllPlaces Small (entries m) → Small k → get m k ≡ Some r → member k r ≡ Some q → get (listing_of member m) q ≡ Some tt
    stands m k r q small here at_k is =
        let place : at q ≡ k = sym (own k r q here is) in
        lists_members m small q
        ∙ ap (λ p. test_of q (member_opt member p (get m p))) place
        ∙ ap (λ o. test_of q (member_opt member k o)) at_k
        ∙ ap (test_of q) is
        ∙ ap (λ b. cond b (Some tt) None) ((eq_by_cmp_equiv nat_list_cmp_total).refl q)

    -- and the new record's one isn't, once that is taken out.
    pub is_new : (m : Records) (k : Place) (v : Record) (q : List ℕ) → AllPlaces Small (entries m) → Small k → member k v ≡ Some q → get (without_opt (member_opt member k (get m k)) (listing_of member m)) q ≡ None
    is_new m k v q small here is =
        let place : at q ≡ k = sym (own k v q here is) in
        get_without (member_opt member k (get m k)) (listing_of member m) q
        ∙ ap (minus (test_of q (member_opt member k (get m k)))) (lists_members m small q ∙ ap (λ p. test_of q (member_opt member p (get m p))) place)
        ∙ minus_itself (test_of q (member_opt member k (get m k)))
