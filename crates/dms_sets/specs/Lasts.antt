-- The last member before a bound, by the entries of a set.
use Rattle.std.proofs.Common.{◌≡◌, ℕ, ◌^◌, ◌<◌, List, [], ◌∷◌, ◌++◌, Bool, true, false, cond, Some, None, refl, sym, ap, ◌∙◌, map, filter, take, length, arith}
use Rattle.std.specs.Prelude.{◌&&◌, not, ◌==◌}
use Rattle.std.specs.List.{AllByRecursion}
use Rattle.std.specs.declared.option.Option.{Option}
use Rattle.std.specs.Option.{option_map}
use Rattle.std.specs.FinMap.{entries}
use Rattle.std.specs.Ordering.{is_eq, is_lt, is_gt, nat_cmp, ordering_then, ordering_reverse, MatchOrdering}
use Rattle.std.specs.declared.cmp.Ordering.{Ordering}
use Rattle.std.specs.declared.cmp.Ordering.TheVariants.{Less, Equal, Greater}
use Rattle.std.proofs.lemmas.Cmp.{ranked}
use Rattle.std.specs.Int.{w32, to_be_bytes}
use Rattle.std.proofs.lemmas.Bool.{not-true}
use Rattle.dms_base.specs.declared.kind.ItemKind.{ItemKind}
use Rattle.dms_desc.specs.declared.structure.KeyPart.{KeyPart}
use Rattle.dms_desc.specs.declared.bound.Bound.{Bound}
use Rattle.dms_desc.specs.declared.bound.Bound.TheVariants.{Start, End, At, From}
use Rattle.dms_desc.specs.Shape.{Shape, Described}
use Rattle.dms_model.specs.declared.spot.Spot.{Spot}
use Rattle.dms_model.specs.Db.{Db}
use Rattle.dms_desc.specs.Keys.{key_cmp}
use Rattle.dms_desc.specs.Sorted.{last, or_else, that_passes}
use Rattle.dms_model.specs.Members.{members, is_before_bound, last_of}
use Rattle.dms_key.specs.ByteOrder.{equal_is, greater_is}
use Rattle.dms_sets.specs.Prefixes.{front_cmp, front_whole, reaches_is}
use Rattle.dms_sets.specs.Sets.{listed_in, entries_of, kinds_over}
use Rattle.dms_sets.specs.Owners.{is_of, of_owner, spot_bytes, EntriesFit, owned_entries}
use Rattle.dms_sets.specs.Bounds.{BoundKeyFits, SpotKeyFits, at_order, front_order, members_fit, all_to}
use Rattle.dms_key.specs.KeyBytes.{key_bytes}
use Rattle.dms_key.specs.KeyOrder.{equal_itself}
use Rattle.dms_sets.specs.Entries.{entry_bytes}
use Rattle.dms_chain.specs.Lists.{AreAllAbove, AreInByteOrder, bytes_cmp, keys_rise}
use Rattle.dms_sets.specs.Tests.{gt_reverse}

-- an entry stands before a bound of an owner
abbrev pub precedes : List ItemKind → List KeyPart → ℕ → Bound → List ℕ → Bool
precedes kinds ps owner Start q = false
precedes kinds ps owner End q = not (is_lt (front_cmp (to_be_bytes w32 owner) q))
precedes kinds ps owner (At key n) q = is_gt (bytes_cmp (entry_bytes kinds ps owner key n) q)
precedes kinds ps owner (From key) q = is_gt (front_cmp (to_be_bytes w32 owner ++ (key_bytes kinds ps key ++ [])) q)

greater_on : (o r : Ordering) (a b c : ℕ) (f g h : Ordering) → MatchOrdering o (a < b) (a ≡ b) (b < a) → MatchOrdering r (c < b) (c ≡ b) (b < c) → (f ≡ Greater → g ≡ Less → h ≡ Greater)
    → ordering_then o f ≡ Greater → ordering_then r g ≡ Less → ordering_then (nat_cmp a c) h ≡ Greater
greater_on Greater Less a b c f g h x y rest p q = ap (λ o. ordering_then o h) (greater_is a c (omega (arith, x, y)))
greater_on Greater Equal a b c f g h x y rest p q = ap (λ o. ordering_then o h) (greater_is a c (omega (arith, x, y)))
greater_on Equal Less a b c f g h x y rest p q = ap (λ o. ordering_then o h) (greater_is a c (omega (arith, x, y)))
greater_on Equal Equal a b c f g h x y rest p q = ap (λ o. ordering_then o h) (equal_is a c (omega (arith, x, y))) ∙ rest p q
greater_on Less r a b c f g h x y rest p q = absurd (cc)
greater_on o Greater a b c f g h x y rest p q = absurd (cc)

-- what is below a string that is below a prefix is below it too
front_greater : (p x y : List ℕ) → front_cmp p x ≡ Greater → bytes_cmp y x ≡ Less → front_cmp p y ≡ Greater
front_greater [] x y h k = absurd (cc)
front_greater (a ∷ p) x [] h k = refl
front_greater (a ∷ p) [] (c ∷ y) h k = absurd (cc)
front_greater (a ∷ p) (b ∷ x) (c ∷ y) h k =
    greater_on (nat_cmp a b) (nat_cmp c b) a b c (front_cmp p x) (bytes_cmp y x) (front_cmp p y) (ranked a b (nat_cmp a b) refl) (ranked c b (nat_cmp c b) refl) (front_greater p x y) h k

-- lists

last_map : {A : Type 0} (p : List ℕ → Bool) (B : A → List ℕ) (xs : List A) → option_map B (last (λ x. p (B x)) xs) ≡ last p (map B xs)
last_map p B [] = refl
last_map p B (x ∷ xs) = map_or B (last (λ y. p (B y)) xs) (p (B x)) x ∙ ap (λ o. or_else o (cond (p (B x)) (Some (B x)) None)) (last_map p B xs)
  where
    map_or : {A : Type 0} (B : A → List ℕ) (o : Option A) (b : Bool) (x : A) → option_map B (or_else o (cond b (Some x) None)) ≡ or_else (option_map B o) (cond b (Some (B x)) None)
    map_or B None true x = refl
    map_or B None false x = refl
    map_or B (Some y) b x = refl

last_alike : {A : Type 0} (p q : A → Bool) (xs : List A) → AllByRecursion (λ x. p x ≡ q x) xs → last p xs ≡ last q xs
last_alike p q [] all = refl
last_alike p q (x ∷ xs) all = (λ i. or_else (last_alike p q xs all.1 i) (cond (all.0 i) (Some x) None))

none_after : (o : Option (List ℕ)) → or_else o None ≡ o
none_after None = refl
none_after (Some x) = refl

last_filter : (o p : List ℕ → Bool) (xs : List (List ℕ)) → last p (filter o xs) ≡ last (λ x. o x && p x) xs
last_filter o p [] = refl
last_filter o p (x ∷ xs) =
    elim (o x) as (λ b. last p (cond b (x ∷ filter o xs) (filter o xs)) ≡ or_else (last (λ y. o y && p y) xs) (cond (b && p x) (Some x) None)) [
      | true ↦ ap (λ z. or_else z (cond (p x) (Some x) None)) (last_filter o p xs)
      | false ↦ last_filter o p xs ∙ sym (none_after (last (λ y. o y && p y) xs))
    ]

-- what holds of all and passes holds of the last that passes
abbrev AtSome : (List ℕ → Type 0) → Option (List ℕ) → Type 0
AtSome P None = Unit {0}
AtSome P (Some x) = P x

at_last : (P : List ℕ → Type 0) (o : Option (List ℕ)) (b : Bool) (x : List ℕ) → AtSome P o → (b ≡ true → P x) → AtSome P (or_else o (cond b (Some x) None))
at_last P None true x h k = k refl
at_last P None false x h k = tt
at_last P (Some y) b x h k = h

last_has : (P : List ℕ → Type 0) (p : List ℕ → Bool) (xs : List (List ℕ)) → AllByRecursion P xs → AtSome (λ x. P x × (p x ≡ true)) (last p xs)
last_has P p [] all = tt
last_has P p (x ∷ xs) all = at_last (λ y. P y × (p y ≡ true)) (last p xs) (p x) x (last_has P p xs all.1) (λ h. (all.0, h))

above_all : (x : List ℕ) (ys : List (List ℕ)) → AreAllAbove x ys → AllByRecursion (λ y. bytes_cmp x y ≡ Less) ys
above_all x [] all = tt
above_all x (y ∷ ys) all = (all.0, above_all x ys all.1)

module _ (owner : ℕ) (p : List ℕ → Bool) (upto : (x : List ℕ) → p x ≡ true → is_lt (front_cmp (to_be_bytes w32 owner) x) ≡ false) where
  not_here : (o : Ordering) → is_lt o ≡ false → is_eq o ≡ false → o ≡ Greater
  not_here Less h k = absurd (cc)
  not_here Equal h k = absurd (cc)
  not_here Greater h k = refl

  last_turn : (o : Option (List ℕ)) (b c : Bool) (x : List ℕ) → p x ≡ b → is_of owner x ≡ c → AtSome (λ y. (bytes_cmp x y ≡ Less) × (p y ≡ true)) o
      → or_else (that_passes (is_of owner) o) (cond (c && b) (Some x) None) ≡ that_passes (is_of owner) (or_else o (cond b (Some x) None))
  last_turn None true true x h k at = ap (λ z. cond z (Some x) None) (sym k)
  last_turn None true false x h k at = ap (λ z. cond z (Some x) None) (sym k)
  last_turn None false true x h k at = refl
  last_turn None false false x h k at = refl
  last_turn (Some y) b c x h k at = at_some (is_of owner y) refl
    where
      at_some : (z : Bool) → is_of owner y ≡ z → or_else (cond z (Some y) None) (cond (c && b) (Some x) None) ≡ cond z (Some y) None
      at_some true e = refl
      at_some false e =
          let beyond = not_here (front_cmp (to_be_bytes w32 owner) y) (upto y at.1) e in
          let off : c ≡ false = sym k ∙ ap is_eq (front_greater (to_be_bytes w32 owner) y x beyond at.0) in
          ap (λ t. cond (t && b) (Some x) None) off

  -- of one owner the last that passes is the last of all that passes, where that is the owner's
  narrow_last : (xs : List (List ℕ)) → AreInByteOrder xs → last (λ x. is_of owner x && p x) xs ≡ that_passes (is_of owner) (last p xs)
  narrow_last [] rise = refl
  narrow_last (x ∷ xs) rise =
      ap (λ o. or_else o (cond (is_of owner x && p x) (Some x) None)) (narrow_last xs rise.1)
      ∙ last_turn (last p xs) (p x) (is_of owner x) x refl refl (last_has (λ y. bytes_cmp x y ≡ Less) p xs (above_all x xs rise.0))

  pub owner_last : (xs : List (List ℕ)) → AreInByteOrder xs → last p (of_owner owner xs) ≡ that_passes (is_of owner) (last p xs)
  owner_last xs rise = last_filter (is_of owner) p xs ∙ narrow_last xs rise

-- what is above a prefix is above all strings that have it
front_above : (p r q : List ℕ) → front_cmp p q ≡ Less → front_cmp (p ++ r) q ≡ Less
front_above [] r q h = absurd (cc)
front_above (a ∷ p) r [] h = absurd (cc)
front_above (a ∷ p) r (b ∷ q) h = less_then (nat_cmp a b) (front_cmp p q) (front_cmp (p ++ r) q) (front_above p r q) h
  where
    less_then : (o x y : Ordering) → (x ≡ Less → y ≡ Less) → ordering_then o x ≡ Less → ordering_then o y ≡ Less
    less_then Less x y f e = refl
    less_then Equal x y f e = f e
    less_then Greater x y f e = absurd (cc)

below_at : (o : Ordering) (p r q : List ℕ) → front_cmp p q ≡ o → is_gt (front_cmp (p ++ r) q) ≡ true → is_lt o ≡ false
below_at Less p r q is h = absurd (cc (ap is_gt (front_above p r q is), h))
below_at Equal p r q is h = refl
below_at Greater p r q is h = refl

precedes_owner : (kinds : List ItemKind) (ps : List KeyPart) (owner : ℕ) (bound : Bound) (q : List ℕ) → precedes kinds ps owner bound q ≡ true → is_lt (front_cmp (to_be_bytes w32 owner) q) ≡ false
precedes_owner kinds ps owner Start q h = absurd (cc)
precedes_owner kinds ps owner End q h = not-true (is_lt (front_cmp (to_be_bytes w32 owner) q)) h
precedes_owner kinds ps owner (At key n) q h =
    let o = to_be_bytes w32 owner in
    below_at (front_cmp o q) o (key_bytes kinds ps key ++ to_be_bytes w32 n) q refl (reaches_is (entry_bytes kinds ps owner key n) q ∙ h)
precedes_owner kinds ps owner (From key) q h =
    let o = to_be_bytes w32 owner in
    below_at (front_cmp o q) o (key_bytes kinds ps key ++ []) q refl h

before_front : (o : Ordering) → is_lt (ordering_then o Greater) ≡ is_gt (ordering_reverse o)
before_front Less = refl
before_front Equal = refl
before_front Greater = refl

precedes_is : (kinds : List ItemKind) (ps : List KeyPart) (owner : ℕ) (bound : Bound) (x : Spot) → BoundKeyFits kinds ps bound → SpotKeyFits kinds ps x → is_before_bound ps bound x ≡ precedes kinds ps owner bound (spot_bytes kinds ps owner x)
precedes_is kinds ps owner Start x f g = refl
precedes_is kinds ps owner End x f g =
    sym (ap (λ o. not (is_lt o)) (front_whole (to_be_bytes w32 owner) (to_be_bytes w32 owner) (key_bytes kinds ps x.key ++ to_be_bytes w32 x.number) refl ∙ equal_itself (to_be_bytes w32 owner)))
precedes_is kinds ps owner (At key n) x f g =
    sym (ap is_gt (at_order kinds ps owner key n x f.0 f.1 g) ∙ gt_reverse (ordering_then (key_cmp ps x.key key) (nat_cmp x.number n)))
precedes_is kinds ps owner (From key) x f g =
    before_front (key_cmp (take (length key) ps) (take (length key) x.key) key) ∙ sym (ap is_gt (front_order kinds ps owner key x f g.key))

-- The last member before a bound is the last entry before it, where that is the owner's.
pub last_member_is : (desc : Described) (db : Db) (s : Shape) (owner : ℕ) (bound : Bound) → owner < 2 ^ 32 → (s.kind == 5) ≡ false → EntriesFit (kinds_over desc s) s (entries db.records) → BoundKeyFits (kinds_over desc s) s.parts bound
    → option_map (spot_bytes (kinds_over desc s) s.parts owner) (last_of (Some s) db owner bound) ≡ that_passes (is_of owner) (last (precedes (kinds_over desc s) s.parts owner bound) (entries_of desc db s))
last_member_is desc db s owner bound small auto all fits =
    let kinds = kinds_over desc s in
    let B = spot_bytes kinds s.parts owner in
    let p = precedes kinds s.parts owner bound in
    let ms = members s db owner in
    ap (option_map B) (last_alike (is_before_bound s.parts bound) (λ x. p (B x)) ms (all_to (SpotKeyFits kinds s.parts) (λ x. is_before_bound s.parts bound x ≡ p (B x)) ms (λ x g. precedes_is kinds s.parts owner bound x fits g) (members_fit desc db s owner all)))
    ∙ last_map p B ms
    ∙ ap (last p) (sym (owned_entries desc db s owner small auto all))
    ∙ owner_last owner p (λ x h. precedes_owner kinds s.parts owner bound x h) (entries_of desc db s) (keys_rise (listed_in kinds s db.records))
