-- The first member behind a bound, and the last one before it, by the entries of a set.
use Rattle.std.proofs.Common.{◌≡◌, ℕ, ◌^◌, ◌<◌, List, [], ◌∷◌, ◌++◌, Bool, true, false, cond, Some, None, refl, sym, ap, ◌∙◌, map, filter, take, drop, length, arith, append_assoc}
use Rattle.std.specs.Prelude.{◌&&◌, not, ◌==◌}
use Rattle.std.specs.List.{AllByRecursion}
use Rattle.std.specs.declared.option.Option.{Option}
use Rattle.std.specs.Option.{option_map}
use Rattle.std.specs.FinMap.{entries}
use Rattle.std.specs.Ordering.{is_eq, is_lt, is_gt, nat_cmp, ordering_then, ordering_reverse}
use Rattle.std.specs.declared.cmp.Ordering.{Ordering}
use Rattle.std.specs.declared.cmp.Ordering.TheVariants.{Less, Equal, Greater}
use Rattle.std.specs.Int.{w32, to_be_bytes}
use Rattle.dms_base.specs.declared.value.Value.{Value}
use Rattle.dms_base.specs.declared.kind.ItemKind.{ItemKind}
use Rattle.dms_desc.specs.declared.structure.KeyPart.{KeyPart}
use Rattle.dms_desc.specs.declared.record.Record.{Record}
use Rattle.dms_desc.specs.declared.bound.Bound.{Bound}
use Rattle.dms_desc.specs.declared.bound.Bound.TheVariants.{Start, End, At, From}
use Rattle.dms_desc.specs.Shape.{Shape, Described}
use Rattle.dms_model.specs.declared.spot.Spot.{Spot}
use Rattle.dms_model.specs.Db.{Db, SubsetEntry, Place}
use Rattle.dms_desc.specs.Keys.{key_cmp}
use Rattle.dms_desc.specs.Kinds.{over}
use Rattle.dms_desc.specs.Sorted.{first, that_passes, first_narrow}
use Rattle.dms_model.specs.Members.{belongs, spot_of, spots_of, is_before, members, is_after_bound, first_of}
use Rattle.dms_model.specs.MemberLaws.{spot_total, key_total}
use Rattle.dms_sets.specs.Prefixes.{front_cmp, reaches, front_append, front_whole, front_longer, reaches_is, is_below, in_order, still_past, past_front}
use Rattle.dms_sets.specs.Sets.{listed_in, entries_of, kinds_over}
use Rattle.dms_sets.specs.Owners.{is_of, of_owner, spot_bytes, spot_order, EntryFits, EntriesFit, all_sorted, owned_entries}
use Rattle.dms_key.specs.KeyBytes.{key_bytes, key_width, KeyHasKinds}
use Rattle.dms_key.specs.KeyOrder.{equal_itself, prefix_order, key_length, split_key}
use Rattle.dms_sets.specs.Entries.{entry_bytes, IsSetKey, fits_short, fits_take}
use Rattle.std.proofs.lemmas.List.{length-take-le, take-append-drop}
use Rattle.std.proofs.lemmas.Bool.{and_parts, not-true}
use Rattle.dms_chain.specs.Lists.{AreInByteOrder, bytes_cmp, keys_rise}
use Rattle.dms_sets.specs.Tests.{and_true, then_nothing}

-- an entry stands behind a bound of an owner
abbrev pub passes : List ItemKind → List KeyPart → ℕ → Bound → List ℕ → Bool
passes kinds ps owner Start q = reaches (to_be_bytes w32 owner) q
passes kinds ps owner End q = false
passes kinds ps owner (At key n) q = is_lt (bytes_cmp (entry_bytes kinds ps owner key n) q)
passes kinds ps owner (From key) q = reaches (to_be_bytes w32 owner ++ (key_bytes kinds ps key ++ [])) q

-- the key of a bound fits
abbrev pub BoundKeyFits : List ItemKind → List KeyPart → Bound → Type 0
BoundKeyFits kinds ps Start = Unit {0}
BoundKeyFits kinds ps End = Unit {0}
BoundKeyFits kinds ps (At key n) = IsSetKey kinds ps key × (n < 2 ^ 32)
BoundKeyFits kinds ps (From key) = KeyHasKinds kinds ps key

-- lists

first_map : {A : Type 0} (p : List ℕ → Bool) (B : A → List ℕ) (xs : List A) → option_map B (first (λ x. p (B x)) xs) ≡ first p (map B xs)
first_map p B [] = refl
first_map p B (x ∷ xs) = elim (p (B x)) as (λ b. option_map B (cond b (Some x) (first (λ y. p (B y)) xs)) ≡ cond b (Some (B x)) (first p (map B xs))) [ true ↦ refl | false ↦ first_map p B xs ]

first_alike : {A : Type 0} (p q : A → Bool) (xs : List A) → AllByRecursion (λ x. p x ≡ q x) xs → first p xs ≡ first q xs
first_alike p q [] all = refl
first_alike p q (x ∷ xs) all = (λ i. cond (all.0 i) (Some x) (first_alike p q xs all.1 i))

first_filter : (o p : List ℕ → Bool) (xs : List (List ℕ)) → first p (filter o xs) ≡ first (λ x. o x && p x) xs
first_filter o p [] = refl
first_filter o p (x ∷ xs) =
    elim (o x) as (λ b. first p (cond b (x ∷ filter o xs) (filter o xs)) ≡ cond (b && p x) (Some x) (first (λ y. o y && p y) xs)) [
      | true ↦ ap (cond (p x) (Some x)) (first_filter o p xs)
      | false ↦ first_filter o p xs
    ]

pass_step : (o p : List ℕ → Bool) (a : Bool) (x : List ℕ) (r : Option (List ℕ)) → p x ≡ a → that_passes (λ y. o y && p y) r ≡ that_passes o r → that_passes (λ y. o y && p y) (cond a (Some x) r) ≡ that_passes o (cond a (Some x) r)
pass_step o p true x r h rest = ap (λ b. cond b (Some x) None) (ap (λ b. o x && b) h ∙ and_true (o x))
pass_step o p false x r h rest = rest

first_passes : (o p : List ℕ → Bool) (xs : List (List ℕ)) → that_passes (λ y. o y && p y) (first p xs) ≡ that_passes o (first p xs)
first_passes o p [] = refl
first_passes o p (x ∷ xs) = pass_step o p (p x) x (first p xs) refl (first_passes o p xs)

and_was : (a c : Bool) → c ≡ true → (a && c) ≡ false → a ≡ false
and_was true c e n = absurd (cc (e, n))
and_was false c e n = refl

-- of one owner the first that passes is the first of all that passes, where that is the owner's
pub owner_first : (owner : ℕ) (p : List ℕ → Bool) (xs : List (List ℕ)) → AreInByteOrder xs → ((x : List ℕ) → p x ≡ true → is_gt (front_cmp (to_be_bytes w32 owner) x) ≡ false)
    → first p (of_owner owner xs) ≡ that_passes (is_of owner) (first p xs)
owner_first owner p xs rise past =
    first_filter (is_of owner) p xs
    ∙ first_narrow is_below p (λ x. is_of owner x && p x) (λ x h. (and_parts (is_of owner x) (p x) h).1)
    (λ x y w n none.
    let off : is_of owner x ≡ false = and_was (is_of owner x) (p x) w n in
    let beyond = past_front (front_cmp (to_be_bytes w32 owner) x) (ap not (past x w)) off in
    ap (λ o. is_eq o && p y) (still_past (to_be_bytes w32 owner) x y beyond none)) xs (in_order xs rise)
    ∙ first_passes (is_of owner) p xs

lt_not_gt : (o : Ordering) → is_lt o ≡ true → is_gt o ≡ false
lt_not_gt Less h = refl
lt_not_gt Equal h = absurd (cc)
lt_not_gt Greater h = absurd (cc)

shorter_at : (o : Ordering) (p r q : List ℕ) → front_cmp p q ≡ o → is_gt (front_cmp (p ++ r) q) ≡ false → is_gt o ≡ false
shorter_at Less p r q is h = refl
shorter_at Equal p r q is h = refl
shorter_at Greater p r q is h = absurd (cc (ap is_gt (front_longer p r q is), h))

-- what reaches a longer prefix reaches a shorter one
pub shorter : (p r q : List ℕ) → is_gt (front_cmp (p ++ r) q) ≡ false → is_gt (front_cmp p q) ≡ false
shorter p r q h = shorter_at (front_cmp p q) p r q refl h

passes_owner : (kinds : List ItemKind) (ps : List KeyPart) (owner : ℕ) (bound : Bound) (q : List ℕ) → passes kinds ps owner bound q ≡ true → is_gt (front_cmp (to_be_bytes w32 owner) q) ≡ false
passes_owner kinds ps owner Start q h = not-true (is_gt (front_cmp (to_be_bytes w32 owner) q)) h
passes_owner kinds ps owner End q h = absurd (cc)
passes_owner kinds ps owner (At key n) q h =
    shorter (to_be_bytes w32 owner) (key_bytes kinds ps key ++ to_be_bytes w32 n) q (reaches_is (entry_bytes kinds ps owner key n) q ∙ lt_not_gt (bytes_cmp (entry_bytes kinds ps owner key n) q) h)
passes_owner kinds ps owner (From key) q h = shorter (to_be_bytes w32 owner) (key_bytes kinds ps key ++ []) q (not-true _ h)

-- keys by their first values

front_widths : (kinds : List ItemKind) (ps : List KeyPart) (key whole : List Value) → KeyHasKinds kinds ps key → KeyHasKinds kinds ps (take (length key) whole) → length key ≡ length (take (length key) whole)
    → length (key_bytes kinds ps key) ≡ length (key_bytes kinds ps (take (length key) whole))
front_widths kinds ps key whole f g e =
    key_length kinds ps key f ∙ ap (λ n. key_width kinds (take n ps)) e ∙ sym (key_length kinds ps (take (length key) whole) g)

-- the order of a prefix of first key values to a member's entry
pub front_order : (kinds : List ItemKind) (ps : List KeyPart) (owner : ℕ) (key : List Value) (x : Spot) → KeyHasKinds kinds ps key → IsSetKey kinds ps x.key
    → front_cmp (to_be_bytes w32 owner ++ (key_bytes kinds ps key ++ [])) (spot_bytes kinds ps owner x) ≡ ordering_reverse (key_cmp (take (length key) ps) (take (length key) x.key) key)
front_order kinds ps owner key x f g =
    let o = to_be_bytes w32 owner in
    let l = length key in
    let own : List Value = take l x.key in
    let left : List Value = drop l x.key in
    let g' = fits_take l kinds ps x.key g.fits in
    let short = fits_short kinds ps key f in
    let long : l ≡ length own = sym (length-take-le l x.key (omega (arith, short, g.whole))) in
    let mine = key_bytes kinds ps own in
    let rest = key_bytes kinds (drop (length own) ps) left in
    let number = to_be_bytes w32 x.number in
    let cut : key_bytes kinds ps x.key ≡ mine ++ rest = ap (key_bytes kinds ps) (sym (take-append-drop l x.key)) ∙ split_key kinds ps own left (omega (arith, long, short)) in
    ap (λ (k : List ℕ). front_cmp (o ++ (key_bytes kinds ps key ++ [])) (o ++ (k ++ number))) cut
    ∙ ap (λ (k : List ℕ). front_cmp (o ++ (key_bytes kinds ps key ++ [])) (o ++ k)) (append_assoc mine rest number)
    ∙ front_append o o (key_bytes kinds ps key ++ []) (mine ++ (rest ++ number)) refl
    ∙ ap (λ z. ordering_then z (front_cmp (key_bytes kinds ps key ++ []) (mine ++ (rest ++ number)))) (equal_itself o)
    ∙ front_append (key_bytes kinds ps key) mine [] (rest ++ number) (front_widths kinds ps key x.key f g' long)
    ∙ then_nothing (bytes_cmp (key_bytes kinds ps key) mine)
    ∙ prefix_order kinds ps key own f g' long
    ∙ (key_total 0 (take l ps)).antisymm key own

-- a member whose entry has its place in byte order
pub record SpotKeyFits (kinds : List ItemKind) (ps : List KeyPart) (x : Spot) : Type 0 where
  pub key : IsSetKey kinds ps x.key
  pub small : x.number < 2 ^ 32

lt_reverse : (o : Ordering) → is_lt (ordering_reverse o) ≡ is_gt o
lt_reverse Less = refl
lt_reverse Equal = refl
lt_reverse Greater = refl

behind_front : (o : Ordering) → is_gt (ordering_then o Greater) ≡ not (is_gt (ordering_reverse o))
behind_front Less = refl
behind_front Equal = refl
behind_front Greater = refl

-- the order of a place and a member
pub at_order : (kinds : List ItemKind) (ps : List KeyPart) (owner : ℕ) (key : List Value) (n : ℕ) (x : Spot) → IsSetKey kinds ps key → n < 2 ^ 32 → SpotKeyFits kinds ps x
    → bytes_cmp (entry_bytes kinds ps owner key n) (spot_bytes kinds ps owner x) ≡ ordering_reverse (ordering_then (key_cmp ps x.key key) (nat_cmp x.number n))
at_order kinds ps owner key n x f small g =
    let y : Spot = record { number = n; key = key; rec = x.rec } in
    spot_order kinds ps owner y x f g.key small g.small ∙ (spot_total ps).antisymm y x

passes_is : (kinds : List ItemKind) (ps : List KeyPart) (owner : ℕ) (bound : Bound) (x : Spot) → BoundKeyFits kinds ps bound → SpotKeyFits kinds ps x → is_after_bound ps bound x ≡ passes kinds ps owner bound (spot_bytes kinds ps owner x)
passes_is kinds ps owner Start x f g =
    sym (ap (λ o. not (is_gt o)) (front_whole (to_be_bytes w32 owner) (to_be_bytes w32 owner) (key_bytes kinds ps x.key ++ to_be_bytes w32 x.number) refl ∙ equal_itself (to_be_bytes w32 owner)))
passes_is kinds ps owner End x f g = refl
passes_is kinds ps owner (At key n) x f g =
    sym (ap is_lt (at_order kinds ps owner key n x f.0 f.1 g) ∙ lt_reverse (ordering_then (key_cmp ps x.key key) (nat_cmp x.number n)))
passes_is kinds ps owner (From key) x f g =
    behind_front (key_cmp (take (length key) ps) (take (length key) x.key) key) ∙ sym (ap (λ o. not (is_gt o)) (front_order kinds ps owner key x f g.key))

spot_fits_by : (b : Bool) (kinds : List ItemKind) (s : Shape) (e : Place × Record) (xs : List Spot) → (b ≡ true → (over s == e.0.0) ≡ true) → EntryFits kinds s e → AllByRecursion (SpotKeyFits kinds s.parts) xs
    → AllByRecursion (SpotKeyFits kinds s.parts) (cond b (spot_of s.parts e ∷ xs) xs)
spot_fits_by true kinds s e xs at f rest = (record { key = f.key (at refl); small = f.small }, rest)
spot_fits_by false kinds s e xs at f rest = rest

spots_fit : (kinds : List ItemKind) (s : Shape) (manual : List SubsetEntry) (owner : ℕ) (es : List (Place × Record)) → EntriesFit kinds s es → AllByRecursion (SpotKeyFits kinds s.parts) (spots_of s manual owner es)
spots_fit kinds s manual owner [] all = tt
spots_fit kinds s manual owner (e ∷ es) all =
    spot_fits_by (belongs s manual owner e) kinds s e (spots_of s manual owner es) (λ h. (and_parts (over s == e.0.0) _ h).0) all.0 (spots_fit kinds s manual owner es all.1)

pub members_fit : (desc : Described) (db : Db) (s : Shape) (owner : ℕ) → EntriesFit (kinds_over desc s) s (entries db.records) → AllByRecursion (SpotKeyFits (kinds_over desc s) s.parts) (members s db owner)
members_fit desc db s owner all =
    all_sorted (is_before s.parts) (SpotKeyFits (kinds_over desc s) s.parts) (spots_of s db.entries owner (entries db.records)) (spots_fit (kinds_over desc s) s db.entries owner (entries db.records) all)

pub all_to : {A : Type 0} (P Q : A → Type 0) (xs : List A) → ((x : A) → P x → Q x) → AllByRecursion P xs → AllByRecursion Q xs
all_to P Q [] f all = tt
all_to P Q (x ∷ xs) f all = (f x all.0, all_to P Q xs f all.1)

-- The first member behind a bound is the first entry behind it, where that is the owner's.
pub first_member_is : (desc : Described) (db : Db) (s : Shape) (owner : ℕ) (bound : Bound) → owner < 2 ^ 32 → (s.kind == 5) ≡ false → EntriesFit (kinds_over desc s) s (entries db.records) → BoundKeyFits (kinds_over desc s) s.parts bound
    → option_map (spot_bytes (kinds_over desc s) s.parts owner) (first_of (Some s) db owner bound) ≡ that_passes (is_of owner) (first (passes (kinds_over desc s) s.parts owner bound) (entries_of desc db s))
first_member_is desc db s owner bound small auto all fits =
    let kinds = kinds_over desc s in
    let B = spot_bytes kinds s.parts owner in
    let p = passes kinds s.parts owner bound in
    let ms = members s db owner in
    ap (option_map B) (first_alike (is_after_bound s.parts bound) (λ x. p (B x)) ms (all_to (SpotKeyFits kinds s.parts) (λ x. is_after_bound s.parts bound x ≡ p (B x)) ms (λ x g. passes_is kinds s.parts owner bound x fits g) (members_fit desc db s owner all)))
    ∙ first_map p B ms
    ∙ ap (first p) (sym (owned_entries desc db s owner small auto all))
    ∙ owner_first owner p (entries_of desc db s) (keys_rise (listed_in kinds s db.records)) (λ x h. passes_owner kinds s.parts owner bound x h)
