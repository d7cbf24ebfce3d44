-- Whether a record may stand in a set without DUPLICATES, by one look at the set's entries.
use Rattle.std.proofs.Common.{◌≡◌, ℕ, ◌^◌, ◌<◌, List, [], ◌∷◌, ◌++◌, Bool, true, false, cond, Some, None, refl, sym, ap, ◌∙◌, subst, arith}
use Rattle.std.specs.Prelude.{◌&&◌, ◌||◌, not, ◌==◌, is_some}
use Rattle.std.specs.List.{list_any}
use Rattle.std.specs.declared.option.Option.{Option}
use Rattle.std.specs.FinMap.{get, remove, entries, keys}
use Rattle.std.specs.FinMap.Entries.{where_key}
use Rattle.std.specs.Ordering.{eq_by_cmp, is_eq, nat_cmp, ordering_then}
use Rattle.std.specs.declared.cmp.Ordering.{Ordering}
use Rattle.std.specs.declared.cmp.Ordering.TheVariants.{Less, Equal, Greater}
use Rattle.std.proofs.lemmas.Cmp.{eq_by_cmp_equiv}
use Rattle.std.specs.Int.{w32, to_be_bytes}
use Rattle.std.proofs.lemmas.Bool.Decides.{nat_tests}
use Rattle.dms_base.specs.declared.value.Value.{Value}
use Rattle.dms_base.specs.declared.kind.ItemKind.{ItemKind}
use Rattle.dms_desc.specs.declared.structure.KeyPart.{KeyPart}
use Rattle.dms_desc.specs.declared.record.Record.{Record}
use Rattle.dms_desc.specs.Shape.{Shape}
use Rattle.dms_model.specs.MemberLaws.{key_total, equal_of}
use Rattle.dms_model.specs.Db.{SubsetEntry, Records, Place, place_cmp}
use Rattle.dms_desc.specs.Keys.{key_of, key_cmp}
use Rattle.dms_desc.specs.Kinds.{takes, over}
use Rattle.dms_desc.specs.Sorted.{first, that_passes}
use Rattle.dms_model.specs.Members.{names, belongs}
use Rattle.dms_model.specs.Stores.{has_equal, is_other}
use Rattle.dms_sets.specs.Listing.{listing, member_opt, AllPlaces, leaves_list}
use Rattle.dms_sets.specs.Prefixes.{starts, reaches, front_append, first_starts, any_first}
use Rattle.dms_sets.specs.Sets.{entry_of, listed_in, number_in, entry_number, own_entry, place_in_entry, IsSmall, keys_with_opt, keys_without_opt}
use Rattle.dms_sets.specs.Owners.{EntryFits, EntriesFit, belongs_is}
use Rattle.dms_key.specs.KeyBytes.{key_bytes}
use Rattle.dms_key.specs.KeyOrder.{four_cmp}
use Rattle.dms_sets.specs.Entries.{entry_bytes, IsSetKey, whole_order, whole_width}
use Rattle.dms_chain.specs.Lists.{ByteSet, any_with, bytes_cmp, empty_keys, entries_removed, keys_rise, with_in, without_in}
use Rattle.dms_sets.specs.Tests.{and_true, then_nothing}
use Rattle.dms_model.specs.Places.{places_same, places_total}

-- the prefix that the entries of an owner with a key have
abbrev pub key_front : List ItemKind → List KeyPart → ℕ → List Value → List ℕ
key_front kinds ps owner key = to_be_bytes w32 owner ++ (key_bytes kinds ps key ++ [])

-- the first entry with a prefix: the first one that reaches it, where that has it
abbrev pub look : List ℕ → List (List ℕ) → Option (List ℕ)
look p xs = that_passes (starts p) (first (reaches p) xs)

not_eq : (a b : ℕ) (c : Ordering) → nat_cmp a b ≡ c → is_eq c ≡ (a == b)
not_eq a b Less h = grind (arith, nat_tests, h)
not_eq a b Equal h = grind (arith, nat_tests, h)
not_eq a b Greater h = grind (arith, nat_tests, h)

pub eq_of_then : (c o : Ordering) → is_eq (ordering_then c o) ≡ (is_eq c && is_eq o)
eq_of_then Less o = refl
eq_of_then Equal o = refl
eq_of_then Greater o = refl

eq_then : (a b : ℕ) (o : Ordering) → is_eq (ordering_then (nat_cmp a b) o) ≡ ((a == b) && is_eq o)
eq_then a b o = eq_of_then (nat_cmp a b) o ∙ ap (λ t. t && is_eq o) (not_eq a b (nat_cmp a b) refl)

-- an entry has a key's prefix where its owner and its key are these
pub front_is : (kinds : List ItemKind) (ps : List KeyPart) (owner o : ℕ) (key other : List Value) (n : ℕ) → owner < 2 ^ 32 → o < 2 ^ 32 → IsSetKey kinds ps key → IsSetKey kinds ps other
    → starts (key_front kinds ps owner key) (entry_bytes kinds ps o other n) ≡ ((owner == o) && is_eq (key_cmp ps key other))
front_is kinds ps owner o key other n p q f g =
    ap is_eq
    (front_append (to_be_bytes w32 owner) (to_be_bytes w32 o) (key_bytes kinds ps key ++ []) (key_bytes kinds ps other ++ to_be_bytes w32 n) refl
    ∙ (λ i. ordering_then (four_cmp owner o p q i) (front_append (key_bytes kinds ps key) (key_bytes kinds ps other) [] (to_be_bytes w32 n) (whole_width kinds ps key f ∙ sym (whole_width kinds ps other g)) i))
    ∙ ap (ordering_then (nat_cmp owner o)) (then_nothing (bytes_cmp (key_bytes kinds ps key) (key_bytes kinds ps other)) ∙ whole_order kinds ps key other f g))
    ∙ eq_then owner o (key_cmp ps key other)

and_false : (b : Bool) → (b && false) ≡ false
and_false true = refl
and_false false = refl

any_alike : (p q : List ℕ → Bool) (xs : List (List ℕ)) → ((x : List ℕ) → p x ≡ q x) → list_any p xs ≡ list_any q xs
any_alike p q [] same = refl
any_alike p q (x ∷ xs) same = (λ i. same x i || any_alike p q xs same i)

module _ (kinds : List ItemKind) (s : Shape) (manual : List SubsetEntry) (rec : Record) (auto : (s.kind == 5) ≡ false) (owned : rec.owner < 2 ^ 32) (fits : IsSetKey kinds s.parts (key_of s.parts rec.values)) where
  abbrev the_front : List ℕ
  the_front = key_front kinds s.parts rec.owner (key_of s.parts rec.values)

  abbrev is_taken : Option ℕ → List ℕ → Bool
  is_taken number q = starts the_front q && is_other number (number_in q)

  is_taken_at : (number : Option ℕ) (e : Place × Record) → EntryFits kinds s e → (over s == e.0.0) ≡ true
      → is_taken number (entry_bytes kinds s.parts e.1.owner (key_of s.parts e.1.values) e.0.1)
      ≡ (((rec.owner == e.1.owner) && is_eq (key_cmp s.parts (key_of s.parts e.1.values) (key_of s.parts rec.values))) && is_other number e.0.1)
  is_taken_at number e f at =
      let mine = key_of s.parts rec.values in
      let theirs = key_of s.parts e.1.values in
      (λ i. front_is kinds s.parts rec.owner e.1.owner mine theirs e.0.1 owned f.owner fits (f.key at) i && is_other number (entry_number kinds s.parts e.1.owner theirs e.0.1 f.small i))
      ∙ ap (λ b. ((rec.owner == e.1.owner) && b) && is_other number e.0.1) ((eq_by_cmp_equiv (key_total 0 s.parts)).symm mine theirs)

  by_tests : (w o q r : Bool) → cond (w && o && q) true r ≡ (((w && q) && o) || r)
  by_tests true true true r = refl
  by_tests true true false r = refl
  by_tests true false true r = refl
  by_tests true false false r = refl
  by_tests false o q r = refl

  abbrev same_key : Place × Record → Bool
  same_key e = is_eq (key_cmp s.parts (key_of s.parts e.1.values) (key_of s.parts rec.values))

  has_step : (a t : Bool) (number : Option ℕ) (e : Place × Record) (ys : List (List ℕ)) (r : Bool) → (over s == e.0.0) ≡ a → EntryFits kinds s e → r ≡ list_any (is_taken number) ys
      → cond ((a && ((rec.owner == e.1.owner) && t)) && is_other number e.0.1 && same_key e) true r
      ≡ list_any (is_taken number) (with_in (cond (a && t) (Some (entry_bytes kinds s.parts e.1.owner (key_of s.parts e.1.values) e.0.1)) None) ys)
  has_step true true number e ys r at f rest =
      let q = entry_bytes kinds s.parts e.1.owner (key_of s.parts e.1.values) e.0.1 in
      ap (λ b. cond (b && is_other number e.0.1 && same_key e) true r) (and_true (rec.owner == e.1.owner))
      ∙ by_tests (rec.owner == e.1.owner) (is_other number e.0.1) (same_key e) r
      ∙ (λ i. sym (is_taken_at number e f at) i || rest i)
      ∙ sym (any_with (is_taken number) q ys)
  has_step true false number e ys r at f rest = ap (λ b. cond (b && is_other number e.0.1 && same_key e) true r) (and_false (rec.owner == e.1.owner)) ∙ rest
  has_step false t number e ys r at f rest = rest

  -- another record with an equal key stands where an entry of another record has its owner and key
  pub has_listed : (number : Option ℕ) (es : List (Place × Record)) → EntriesFit kinds s es → has_equal s manual number rec es ≡ list_any (is_taken number) (keys (listing (entry_of kinds s) es))
  has_listed number [] all = sym (ap (list_any (is_taken number)) empty_keys)
  has_listed number (e ∷ es) all =
      let ys = keys (listing (entry_of kinds s) es) in
      let r = has_equal s manual number rec es in
      ap (λ b. cond (b && is_other number e.0.1 && same_key e) true r) (belongs_is s manual rec.owner e auto)
      ∙ has_step (over s == e.0.0) (takes s e.1.values) number e ys r refl all.0 (has_listed number es all.1)
      ∙ sym (ap (list_any (is_taken number)) (keys_with_opt (entry_of kinds s e.0 e.1) (listing (entry_of kinds s) es)))

  -- for a new record: the first entry with its owner and key
  pub new_taken : (m : Records) → EntriesFit kinds s (entries m) → has_equal s manual None rec (entries m) ≡ is_some (look the_front (keys (listed_in kinds s m)))
  new_taken m all =
      has_listed None (entries m) all
      ∙ any_alike (λ q. starts the_front q && true) (starts the_front) (keys (listed_in kinds s m)) (λ q. and_true (starts the_front q))
      ∙ any_first (starts the_front) (keys (listed_in kinds s m))
      ∙ ap is_some (first_starts the_front (keys (listed_in kinds s m)) (keys_rise (listed_in kinds s m)))

  -- the record's own place left out
  abbrev apart : Place → Place → Bool
  apart k x = not (eq_by_cmp place_cmp k x)

  own_number : (n : ℕ) (e : Place × Record) → eq_by_cmp place_cmp (over s, n) e.0 ≡ true → (n == e.0.1) ≡ true
  own_number n e h =
      let same : (over s, n) ≡ e.0 = places_same (over s, n) e.0 (equal_of (place_cmp (over s, n) e.0) h) in
      let number : n ≡ e.0.1 = ap (λ (p : Place). p.1) same in
      grind (arith, nat_tests, number)

  other_number : (n : ℕ) (e : Place × Record) (z : Bool) → (n == e.0.1) ≡ z → eq_by_cmp place_cmp (over s, n) e.0 ≡ false → (over s == e.0.0) ≡ true → z ≡ false
  other_number n e true h k at =
      let set : over s ≡ e.0.0 = grind (arith, nat_tests, at) in
      let number : n ≡ e.0.1 = grind (arith, nat_tests, h) in
      let same : eq_by_cmp place_cmp (over s, n) e.0 ≡ true = ap (λ (p : Place). eq_by_cmp place_cmp p e.0) (λ i. (set i, number i)) ∙ (eq_by_cmp_equiv places_total).refl e.0 in
      absurd (cc (same, k))
  other_number n e false h k at = refl

  kept_tests : (a c z : Bool) (n : ℕ) (e : Place × Record) (r : Bool) → (over s == e.0.0) ≡ a → (n == e.0.1) ≡ z → eq_by_cmp place_cmp (over s, n) e.0 ≡ false
      → cond ((a && c) && not z && same_key e) true r ≡ cond ((a && c) && true && same_key e) true r
  kept_tests true c z n e r at h k = ap (λ b. cond ((true && c) && not b && same_key e) true r) (other_number n e z h k at)
  kept_tests false c z n e r at h k = refl

  gone_tests : (b : Bool) (n : ℕ) (e : Place × Record) (r : Bool) → eq_by_cmp place_cmp (over s, n) e.0 ≡ true → cond (b && not (n == e.0.1) && same_key e) true r ≡ r
  gone_tests true n e r h = ap (λ z. cond (true && not z && same_key e) true r) (own_number n e h)
  gone_tests false n e r h = refl

  other_step : (z : Bool) (n : ℕ) (e : Place × Record) (es : List (Place × Record)) → eq_by_cmp place_cmp (over s, n) e.0 ≡ z
      → has_equal s manual (Some n) rec es ≡ has_equal s manual None rec (where_key place_cmp (apart (over s, n)) es)
      → cond (belongs s manual rec.owner e && not (n == e.0.1) && same_key e) true (has_equal s manual (Some n) rec es)
      ≡ has_equal s manual None rec (cond (not z) (e ∷ where_key place_cmp (apart (over s, n)) es) (where_key place_cmp (apart (over s, n)) es))
  other_step true n e es h rest = gone_tests (belongs s manual rec.owner e) n e (has_equal s manual (Some n) rec es) h ∙ rest
  other_step false n e es h rest =
      kept_tests (over s == e.0.0) (cond (s.kind == 5) (list_any (names s.number rec.owner e.0.1) manual) ((rec.owner == e.1.owner) && takes s e.1.values)) (n == e.0.1) n e (has_equal s manual (Some n) rec es) refl refl h
      ∙ ap (λ r. cond (belongs s manual rec.owner e && true && same_key e) true r) rest

  other_left : (n : ℕ) (es : List (Place × Record)) → has_equal s manual (Some n) rec es ≡ has_equal s manual None rec (where_key place_cmp (apart (over s, n)) es)
  other_left n [] = refl
  other_left n (e ∷ es) = other_step (eq_by_cmp place_cmp (over s, n) e.0) n e es refl (other_left n es)

  fit_where : (p : Place → Bool) (es : List (Place × Record)) → EntriesFit kinds s es → EntriesFit kinds s (where_key place_cmp p es)
  fit_where p [] all = tt
  fit_where p (e ∷ es) all =
      let rest = fit_where p es all.1 in
      elim (p e.0) as (λ b. EntriesFit kinds s (cond b (e ∷ where_key place_cmp p es) (where_key place_cmp p es))) [ true ↦ (all.0, rest) | false ↦ rest ]

  small_of : (es : List (Place × Record)) → EntriesFit kinds s es → AllPlaces IsSmall es
  small_of [] all = tt
  small_of (e ∷ es) all = (all.0.small, small_of es all.1)

  -- For a record that replaces another: the first entry with its owner and key, in the list without the entry of the one that it replaces.
  pub old_taken : (m : Records) (n : ℕ) → n < 2 ^ 32 → EntriesFit kinds s (entries m)
      → has_equal s manual (Some n) rec (entries m) ≡ is_some (look the_front (without_in (member_opt (entry_of kinds s) (over s, n) (get m (over s, n))) (keys (listed_in kinds s m))))
  old_taken m n small all =
      let k : Place = (over s, n) in
      let gone = entries_removed places_total places_same k m in
      let fits' : EntriesFit kinds s (entries (remove m k)) = subst (EntriesFit kinds s) (sym gone) (fit_where (apart k) (entries m) all) in
      other_left n (entries m)
      ∙ ap (has_equal s manual None rec) (sym gone)
      ∙ new_taken (remove m k) fits'
      ∙ ap (λ (x : ByteSet). is_some (look the_front (keys x))) (leaves_list (entry_of kinds s) (place_in_entry s) IsSmall (own_entry kinds s) m k (small_of (entries m) all) (small_of (entries (remove m k)) fits') small)
      ∙ ap (λ (x : List (List ℕ)). is_some (look the_front x)) (keys_without_opt (member_opt (entry_of kinds s) k (get m k)) (listed_in kinds s m))
