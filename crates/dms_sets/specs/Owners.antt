-- A set's entries of one owner are the bytes of the members for that owner, in their order.
use Rattle.std.proofs.Common.{◌≡◌, ℕ, ◌^◌, ◌<◌, List, [], ◌∷◌, ◌++◌, Bool, true, false, cond, Some, None, refl, sym, ap, ◌∙◌, map, filter, arith}
use Rattle.std.specs.Prelude.{T, ◌&&◌, ◌==◌}
use Rattle.std.specs.List.{list_any, AllByRecursion}
use Rattle.std.specs.FinMap.{empty, entries, keys, is_sorted, entries_sorted}
use Rattle.std.specs.FinMap.Entries.{below_all, by_order}
use Rattle.std.specs.Ordering.{is_eq, is_lt, nat_cmp, ordering_then}
use Rattle.std.specs.declared.cmp.Ordering.{Ordering}
use Rattle.std.specs.declared.cmp.Ordering.TheVariants.{Less, Equal, Greater}
use Rattle.std.specs.Cmp.Lexicographic.{nat_list_cmp_total}
use Rattle.std.specs.Int.{w32, to_be_bytes}
use Rattle.std.proofs.lemmas.Bool.Decides.{nat_tests}
use Rattle.std.proofs.lemmas.Bool.{and_parts}
use Rattle.dms_base.specs.declared.value.Value.{Value}
use Rattle.dms_base.specs.declared.kind.ItemKind.{ItemKind}
use Rattle.dms_desc.specs.declared.structure.KeyPart.{KeyPart}
use Rattle.dms_desc.specs.declared.record.Record.{Record}
use Rattle.dms_desc.specs.Shape.{Shape, Described}
use Rattle.dms_model.specs.declared.spot.Spot.{Spot}
use Rattle.dms_model.specs.Db.{Db, SubsetEntry, Place, place_cmp}
use Rattle.dms_desc.specs.Keys.{key_of, key_cmp}
use Rattle.dms_desc.specs.Kinds.{takes, over}
use Rattle.dms_desc.specs.Sorted.{sort, place_in}
use Rattle.dms_model.specs.Members.{names, belongs, spot_of, spots_of, spot_cmp, is_before, members}
use Rattle.dms_sets.specs.Listing.{listing}
use Rattle.dms_sets.specs.Prefixes.{starts, front_whole}
use Rattle.dms_key.specs.ByteOrder.{append_cmp, less_is}
use Rattle.dms_sets.specs.Sets.{entry_of, entries_of, kinds_over, keys_with_opt}
use Rattle.dms_key.specs.KeyBytes.{key_bytes}
use Rattle.dms_key.specs.KeyOrder.{four_cmp, equal_itself}
use Rattle.dms_sets.specs.Entries.{entry_bytes, IsSetKey, whole_order, whole_width}
use Rattle.dms_chain.specs.Lists.{AreAllAbove, AreInByteOrder, bytes_cmp, bytes_same, empty_keys, keys_rise, with_entry, with_in}
use Rattle.dms_model.specs.Fresh.{second_true, first_true}

abbrev pub is_of : ℕ → List ℕ → Bool
is_of owner q = starts (to_be_bytes w32 owner) q

-- the entries of an owner
abbrev pub of_owner : ℕ → List (List ℕ) → List (List ℕ)
of_owner owner xs = filter (is_of owner) xs

abbrev pub spot_bytes : List ItemKind → List KeyPart → ℕ → Spot → List ℕ
spot_bytes kinds ps owner x = entry_bytes kinds ps owner x.key x.number

-- a record whose entry has its place in byte order
pub record EntryFits (kinds : List ItemKind) (s : Shape) (e : Place × Record) : Type 0 where
  pub small : e.0.1 < 2 ^ 32
  pub owner : e.1.owner < 2 ^ 32
  pub key : (over s == e.0.0) ≡ true → IsSetKey kinds s.parts (key_of s.parts e.1.values)

abbrev pub EntriesFit : List ItemKind → Shape → List (Place × Record) → Type 0
EntriesFit kinds s [] = Unit {0}
EntriesFit kinds s (e ∷ es) = EntryFits kinds s e × EntriesFit kinds s es

-- lists

module _ (p : List ℕ → Bool) (x : List ℕ) where
  drop_step : (o : Ordering) (y : List ℕ) (ys : List (List ℕ)) → p x ≡ false → filter p (with_entry x ys) ≡ filter p ys
      → filter p (by_order o (x ∷ y ∷ ys) (y ∷ ys) (y ∷ with_entry x ys)) ≡ filter p (y ∷ ys)
  drop_step Less y ys h rest = ap (λ b. cond b (x ∷ filter p (y ∷ ys)) (filter p (y ∷ ys))) h
  drop_step Equal y ys h rest = refl
  drop_step Greater y ys h rest = ap (λ (zs : List (List ℕ)). cond (p y) (y ∷ zs) zs) rest

  -- an entry that doesn't pass leaves those that pass
  pub filter_drops : (ys : List (List ℕ)) → p x ≡ false → filter p (with_entry x ys) ≡ filter p ys
  filter_drops [] h = ap (λ b. cond b (x ∷ []) []) h
  filter_drops (y ∷ ys) h = drop_step (bytes_cmp x y) y ys h (filter_drops ys h)

  above_filter : (ys : List (List ℕ)) → AreAllAbove x ys → AreAllAbove x (filter p ys)
  above_filter [] all = tt
  above_filter (y ∷ ys) all =
      let rest = above_filter ys all.1 in
      elim (p y) as (λ b. AreAllAbove x (cond b (y ∷ filter p ys) (filter p ys))) [ true ↦ (all.0, rest) | false ↦ rest ]

  above_trans : (y : List ℕ) (ys : List (List ℕ)) → bytes_cmp x y ≡ Less → AreAllAbove y ys → AreAllAbove x ys
  above_trans y [] h all = tt
  above_trans y (z ∷ ys) h all = (nat_list_cmp_total.trans x y z h all.0, above_trans y ys h all.1)

  front_entry : (ys : List (List ℕ)) → AreAllAbove x ys → with_entry x ys ≡ x ∷ ys
  front_entry [] all = refl
  front_entry (y ∷ ys) all = ap (λ o. by_order o (x ∷ y ∷ ys) (y ∷ ys) (y ∷ with_entry x ys)) all.0

  keep_later : (b : Bool) (y : List ℕ) (ys : List (List ℕ)) → bytes_cmp x y ≡ Greater → cond b (y ∷ with_entry x ys) (with_entry x ys) ≡ with_entry x (cond b (y ∷ ys) ys)
  keep_later true y ys h = sym (ap (λ o. by_order o (x ∷ y ∷ ys) (y ∷ ys) (y ∷ with_entry x ys)) h)
  keep_later false y ys h = refl

  keep_step : (o : Ordering) (y : List ℕ) (ys : List (List ℕ)) → bytes_cmp x y ≡ o → p x ≡ true → AreInByteOrder (y ∷ ys) → filter p (with_entry x ys) ≡ with_entry x (filter p ys)
      → filter p (by_order o (x ∷ y ∷ ys) (y ∷ ys) (y ∷ with_entry x ys)) ≡ with_entry x (filter p (y ∷ ys))
  keep_step Less y ys is h rise rest =
      ap (λ b. cond b (x ∷ filter p (y ∷ ys)) (filter p (y ∷ ys))) h
      ∙ sym (front_entry (filter p (y ∷ ys)) (above_filter (y ∷ ys) (is, above_trans y ys is rise.0)))
  keep_step Equal y ys is h rise rest =
      let same : p y ≡ true = ap p (sym (bytes_same x y is)) ∙ h in
      let kept : filter p (y ∷ ys) ≡ y ∷ filter p ys = ap (λ b. cond b (y ∷ filter p ys) (filter p ys)) same in
      kept ∙ sym (ap (with_entry x) kept ∙ ap (λ o. by_order o (x ∷ y ∷ filter p ys) (y ∷ filter p ys) (y ∷ with_entry x (filter p ys))) is)
  keep_step Greater y ys is h rise rest = ap (λ (zs : List (List ℕ)). cond (p y) (y ∷ zs) zs) rest ∙ keep_later (p y) y (filter p ys) is

  -- one that passes comes to its place among those that pass
  pub filter_keeps : (ys : List (List ℕ)) → p x ≡ true → AreInByteOrder ys → filter p (with_entry x ys) ≡ with_entry x (filter p ys)
  filter_keeps [] h rise = ap (λ b. cond b (x ∷ []) []) h
  filter_keeps (y ∷ ys) h rise = keep_step (bytes_cmp x y) y ys refl h rise (filter_keeps ys h rise.1)

-- members and their bytes

module _ (ps : List KeyPart) (B : Spot → List ℕ) (x : Spot) where
  -- a member stands to this one as their bytes do, and isn't at it
  abbrev pub IsAlike : Spot → Type 0
  IsAlike y = (bytes_cmp (B x) (B y) ≡ spot_cmp ps x y) × (spot_cmp ps x y ≡ Equal → ⊥)

  place_step : (o : Ordering) (y : Spot) (ys : List Spot) → (o ≡ Equal → ⊥) → map B (place_in (is_before ps) x ys) ≡ with_entry (B x) (map B ys)
      → map B (cond (is_lt o) (x ∷ y ∷ ys) (y ∷ place_in (is_before ps) x ys)) ≡ by_order o (B x ∷ B y ∷ map B ys) (B y ∷ map B ys) (B y ∷ with_entry (B x) (map B ys))
  place_step Less y ys apart rest = refl
  place_step Equal y ys apart rest = absurd (apart refl)
  place_step Greater y ys apart rest = ap (λ (zs : List (List ℕ)). B y ∷ zs) rest

  map_place : (ys : List Spot) → AllByRecursion IsAlike ys → map B (place_in (is_before ps) x ys) ≡ with_entry (B x) (map B ys)
  map_place [] all = refl
  map_place (y ∷ ys) all =
      place_step (spot_cmp ps x y) y ys all.0.1 (map_place ys all.1)
      ∙ ap (λ o. by_order o (B x ∷ B y ∷ map B ys) (B y ∷ map B ys) (B y ∷ with_entry (B x) (map B ys))) (sym all.0.0)

module _ {A : Type 0} (less : A → A → Bool) (P : A → Type 0) where
  all_place : (x : A) (ys : List A) → P x → AllByRecursion P ys → AllByRecursion P (place_in less x ys)
  all_place x [] h all = (h, tt)
  all_place x (y ∷ ys) h all =
      let rest = all_place x ys h all.1 in
      elim (less x y) as (λ b. AllByRecursion P (cond b (x ∷ y ∷ ys) (y ∷ place_in less x ys))) [ true ↦ (h, all) | false ↦ (all.0, rest) ]

  pub all_sorted : (xs : List A) → AllByRecursion P xs → AllByRecursion P (sort less xs)
  all_sorted [] all = tt
  all_sorted (x ∷ xs) all = all_place x (sort less xs) all.0 (all_sorted xs all.1)

then_less : (o p r : Ordering) → o ≡ Equal → ordering_then o (ordering_then p r) ≡ ordering_then p r
then_less o p r e = ap (λ z. ordering_then z (ordering_then p r)) e

-- the order of members is that of their entries
pub spot_order : (kinds : List ItemKind) (ps : List KeyPart) (owner : ℕ) (x y : Spot) → IsSetKey kinds ps x.key → IsSetKey kinds ps y.key → x.number < 2 ^ 32 → y.number < 2 ^ 32
    → bytes_cmp (spot_bytes kinds ps owner x) (spot_bytes kinds ps owner y) ≡ spot_cmp ps x y
spot_order kinds ps owner x y f g p q =
    let o = to_be_bytes w32 owner in
    append_cmp o o (key_bytes kinds ps x.key ++ to_be_bytes w32 x.number) (key_bytes kinds ps y.key ++ to_be_bytes w32 y.number) refl
    ∙ ap (λ z. ordering_then z (bytes_cmp (key_bytes kinds ps x.key ++ to_be_bytes w32 x.number) (key_bytes kinds ps y.key ++ to_be_bytes w32 y.number))) (equal_itself o)
    ∙ append_cmp (key_bytes kinds ps x.key) (key_bytes kinds ps y.key) (to_be_bytes w32 x.number) (to_be_bytes w32 y.number) (whole_width kinds ps x.key f ∙ sym (whole_width kinds ps y.key g))
    ∙ (λ i. ordering_then (whole_order kinds ps x.key y.key f g i) (four_cmp x.number y.number p q i))

later_number : (s n t m : ℕ) → T (is_lt (ordering_then (nat_cmp s t) (nat_cmp n m))) → s ≡ t → n < m
later_number s n t m h e = grind (arith, nat_tests, h, e)

then_apart : (o p : Ordering) → p ≡ Less → ordering_then o p ≡ Equal → ⊥
then_apart Less p h e = absurd (cc)
then_apart Equal p h e = absurd (cc)
then_apart Greater p h e = absurd (cc)

eq_of : (a b : ℕ) → is_eq (nat_cmp a b) ≡ (a == b)
eq_of a b = grind (arith, nat_tests)

-- whose entry it is
pub is_of_entry : (kinds : List ItemKind) (ps : List KeyPart) (owner o : ℕ) (key : List Value) (n : ℕ) → owner < 2 ^ 32 → o < 2 ^ 32 → is_of owner (entry_bytes kinds ps o key n) ≡ (owner == o)
is_of_entry kinds ps owner o key n p q =
    ap is_eq (front_whole (to_be_bytes w32 owner) (to_be_bytes w32 o) (key_bytes kinds ps key ++ to_be_bytes w32 n) refl ∙ four_cmp owner o p q) ∙ eq_of owner o

-- what belongs to a data set, set or automatic subset
pub belongs_is : (s : Shape) (manual : List SubsetEntry) (owner : ℕ) (e : Place × Record) → (s.kind == 5) ≡ false → belongs s manual owner e ≡ ((over s == e.0.0) && ((owner == e.1.owner) && takes s e.1.values))
belongs_is s manual owner e auto = ap (λ b. (over s == e.0.0) && cond b (list_any (names s.number owner e.0.1) manual) ((owner == e.1.owner) && takes s e.1.values)) auto

module _ (kinds : List ItemKind) (s : Shape) (manual : List SubsetEntry) (owner : ℕ) (small : owner < 2 ^ 32) where
  abbrev B : Spot → List ℕ
  B x = spot_bytes kinds s.parts owner x

  alike_at : (e d : Place × Record) → EntryFits kinds s e → EntryFits kinds s d → (over s == e.0.0) ≡ true → (over s == d.0.0) ≡ true → T (is_lt (place_cmp e.0 d.0))
      → IsAlike s.parts B (spot_of s.parts e) (spot_of s.parts d)
  alike_at e d f g at there less =
      let same : e.0.0 ≡ d.0.0 = grind (arith, nat_tests, at, there) in
      let later : e.0.1 < d.0.1 = later_number e.0.0 e.0.1 d.0.0 d.0.1 less same in (
        spot_order kinds s.parts owner (spot_of s.parts e) (spot_of s.parts d) (f.key at) (g.key there) f.small g.small,
        then_apart (key_cmp s.parts (key_of s.parts e.1.values) (key_of s.parts d.1.values)) (nat_cmp e.0.1 d.0.1) (less_is e.0.1 d.0.1 later),
      )

  alike_by : (b : Bool) (e d : Place × Record) (xs : List Spot) → belongs s manual owner d ≡ b → EntryFits kinds s e → EntryFits kinds s d → (over s == e.0.0) ≡ true → T (is_lt (place_cmp e.0 d.0))
      → AllByRecursion (IsAlike s.parts B (spot_of s.parts e)) xs → AllByRecursion (IsAlike s.parts B (spot_of s.parts e)) (cond b (spot_of s.parts d ∷ xs) xs)
  alike_by true e d xs is f g at less rest = (alike_at e d f g at (and_parts (over s == d.0.0) _ is).0 less, rest)
  alike_by false e d xs is f g at less rest = rest

  all_alike : (e : Place × Record) (es : List (Place × Record)) → EntryFits kinds s e → EntriesFit kinds s es → (over s == e.0.0) ≡ true → T (below_all place_cmp e.0 es)
      → AllByRecursion (IsAlike s.parts B (spot_of s.parts e)) (spots_of s manual owner es)
  all_alike e [] f all at below = tt
  all_alike e (d ∷ es) f all at below =
      alike_by (belongs s manual owner d) e d (spots_of s manual owner es) refl f all.0 at (first_true _ _ below) (all_alike e es f all.1 at (second_true _ _ below))

  turn : (a t w : Bool) (e : Place × Record) (es : List (Place × Record)) (ys : List (List ℕ)) → (over s == e.0.0) ≡ a → (owner == e.1.owner) ≡ w → EntryFits kinds s e → EntriesFit kinds s es → T (below_all place_cmp e.0 es) → AreInByteOrder ys
      → of_owner owner ys ≡ map B (sort (is_before s.parts) (spots_of s manual owner es))
      → of_owner owner (with_in (cond (a && t) (Some (entry_bytes kinds s.parts e.1.owner (key_of s.parts e.1.values) e.0.1)) None) ys)
      ≡ map B (sort (is_before s.parts) (cond (a && (w && t)) (spot_of s.parts e ∷ spots_of s manual owner es) (spots_of s manual owner es)))
  turn true true true e es ys at own fits all below rise rest =
      let q = entry_bytes kinds s.parts e.1.owner (key_of s.parts e.1.values) e.0.1 in
      let x = spot_of s.parts e in
      let xs = sort (is_before s.parts) (spots_of s manual owner es) in
      let mine : is_of owner q ≡ true = is_of_entry kinds s.parts owner e.1.owner (key_of s.parts e.1.values) e.0.1 small fits.owner ∙ own in
      let same : owner ≡ e.1.owner = grind (arith, nat_tests, own) in
      filter_keeps (is_of owner) q ys mine rise
      ∙ ap (with_entry q) rest
      ∙ ap (λ n. with_entry (spot_bytes kinds s.parts n x) (map B xs)) (sym same)
      ∙ sym (map_place s.parts B x xs (all_sorted (is_before s.parts) (IsAlike s.parts B x) (spots_of s manual owner es) (all_alike e es fits all at below)))
  turn true true false e es ys at own fits all below rise rest =
      let q = entry_bytes kinds s.parts e.1.owner (key_of s.parts e.1.values) e.0.1 in
      let other : is_of owner q ≡ false = is_of_entry kinds s.parts owner e.1.owner (key_of s.parts e.1.values) e.0.1 small fits.owner ∙ own in
      filter_drops (is_of owner) q ys other ∙ rest
  turn true false true e es ys at own fits all below rise rest = rest
  turn true false false e es ys at own fits all below rise rest = rest
  turn false t w e es ys at own fits all below rise rest = rest

  no_keys : of_owner owner (keys (empty {X = Unit {0}} {R = bytes_cmp})) ≡ []
  no_keys = ap (of_owner owner) empty_keys

  pub owned_at : (es : List (Place × Record)) → (s.kind == 5) ≡ false → T (is_sorted place_cmp es) → EntriesFit kinds s es
      → of_owner owner (keys (listing (entry_of kinds s) es)) ≡ map B (sort (is_before s.parts) (spots_of s manual owner es))
  owned_at [] auto order all = no_keys
  owned_at (e ∷ es) auto order all =
      let ys = keys (listing (entry_of kinds s) es) in
      ap (of_owner owner) (keys_with_opt (entry_of kinds s e.0 e.1) (listing (entry_of kinds s) es))
      ∙ turn (over s == e.0.0) (takes s e.1.values) (owner == e.1.owner) e es ys refl refl all.0 all.1 (first_true _ _ order) (keys_rise (listing (entry_of kinds s) es)) (owned_at es auto (second_true _ _ order) all.1)
      ∙ ap (λ b. map B (sort (is_before s.parts) (cond b (spot_of s.parts e ∷ spots_of s manual owner es) (spots_of s manual owner es)))) (sym (belongs_is s manual owner e auto))

-- The entries of an owner in a set are the bytes of the members for that owner.
pub owned_entries : (desc : Described) (db : Db) (s : Shape) (owner : ℕ) → owner < 2 ^ 32 → (s.kind == 5) ≡ false → EntriesFit (kinds_over desc s) s (entries db.records)
    → of_owner owner (entries_of desc db s) ≡ map (spot_bytes (kinds_over desc s) s.parts owner) (members s db owner)
owned_entries desc db s owner small auto all = owned_at (kinds_over desc s) s db.entries owner small (entries db.records) auto (entries_sorted db.records) all
