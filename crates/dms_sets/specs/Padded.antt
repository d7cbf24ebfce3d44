-- Looks at a list of entries of one width, by bounds of that width.
use Rattle.std.proofs.Common.{◌≡◌, ℕ, zero, suc, ◌+◌, ◌-◌, ◌^◌, ◌<◌, ◌≤◌, List, [], ◌∷◌, ◌++◌, Bool, true, false, cond, Some, None, refl, sym, ap, ◌∙◌, subst, length, length-append, replicate, filter, arith}
use Rattle.std.specs.Prelude.{◌&&◌, not, ◌==◌}
use Rattle.std.specs.List.{AllByRecursion}
use Rattle.std.specs.declared.option.Option.{Option}
use Rattle.std.specs.FinMap.{entries, keys}
use Rattle.std.specs.FinMap.Entries.{by_order}
use Rattle.std.specs.Ordering.{is_lt, is_gt, nat_cmp, ordering_then}
use Rattle.std.specs.declared.cmp.Ordering.{Ordering}
use Rattle.std.specs.declared.cmp.Ordering.TheVariants.{Less, Equal, Greater}
use Rattle.std.specs.Int.{w32, to_be_bytes}
use Rattle.std.proofs.lemmas.Bool.Decides.{nat_tests}
use Rattle.dms_base.specs.declared.value.Value.{Value}
use Rattle.dms_base.specs.declared.kind.ItemKind.{ItemKind}
use Rattle.dms_desc.specs.declared.structure.KeyPart.{KeyPart}
use Rattle.dms_desc.specs.declared.record.Record.{Record}
use Rattle.dms_desc.specs.declared.bound.Bound.{Bound}
use Rattle.dms_desc.specs.declared.bound.Bound.TheVariants.{Start, End, At, From}
use Rattle.dms_desc.specs.Shape.{Shape, Described}
use Rattle.dms_model.specs.Db.{Db, Place}
use Rattle.dms_desc.specs.Keys.{key_of}
use Rattle.dms_desc.specs.Kinds.{takes, over}
use Rattle.dms_desc.specs.Sorted.{first, last, or_else, that_passes}
use Rattle.dms_sets.specs.Listing.{listing}
use Rattle.dms_sets.specs.Clashes.{look, key_front}
use Rattle.dms_key.specs.ByteOrder.{append_cmp, high_first_length, less_is, equal_is}
use Rattle.dms_sets.specs.Prefixes.{front_cmp, starts, reaches, front_whole, gt_then}
use Rattle.dms_sets.specs.Sets.{entry_of, entries_of, kinds_over, keys_with_opt}
use Rattle.dms_sets.specs.Owners.{EntryFits, EntriesFit}
use Rattle.dms_sets.specs.Bounds.{passes, BoundKeyFits}
use Rattle.dms_sets.specs.Lasts.{precedes}
use Rattle.dms_key.specs.KeyBytes.{key_bytes, key_width, KeyHasKinds}
use Rattle.dms_key.specs.KeyOrder.{four_cmp, key_most}
use Rattle.dms_sets.specs.Entries.{entry_bytes, IsSetKey, whole_width}
use Rattle.dms_chain.specs.Lists as list
use Rattle.dms_chain.specs.Lists.{bytes_cmp, empty_keys, is_same, with_entry, with_in, without_in, pad_bound, not_below, is_under, first_from, last_to}

-- the form of an entry
pub record IsSetEntry (width : ℕ) (q : List ℕ) : Type 0 where
  pub owner : ℕ
  pub key : List ℕ
  pub number : ℕ
  pub is : q ≡ to_be_bytes w32 owner ++ (key ++ to_be_bytes w32 number)
  pub small_owner : owner < 2 ^ 32
  pub small : number < 2 ^ 32
  pub long : length key ≡ width

-- the bytes of an entry
abbrev pub entry_width : List ItemKind → List KeyPart → ℕ
entry_width kinds ps = 4 + (key_width kinds ps + 4)

pub entry_long : (width : ℕ) (q : List ℕ) → IsSetEntry width q → length q ≡ 4 + (width + 4)
entry_long width q e =
    ap length e.is ∙ length-append (to_be_bytes w32 e.owner) (e.key ++ to_be_bytes w32 e.number)
    ∙ ap (λ n. 4 + n) (length-append e.key (to_be_bytes w32 e.number) ∙ ap (λ n. n + 4) e.long)

module _ (P : List ℕ → Type 0) (x : List ℕ) (h : P x) where
  all_step : (o : Ordering) (y : List ℕ) (ys : List (List ℕ)) → P y → AllByRecursion P ys → AllByRecursion P (with_entry x ys) → AllByRecursion P (by_order o (x ∷ y ∷ ys) (y ∷ ys) (y ∷ with_entry x ys))
  all_step Less y ys k all rest = (h, (k, all))
  all_step Equal y ys k all rest = (k, all)
  all_step Greater y ys k all rest = (k, rest)

  pub all_with : (ys : List (List ℕ)) → AllByRecursion P ys → AllByRecursion P (with_entry x ys)
  all_with [] all = (h, tt)
  all_with (y ∷ ys) all = all_step (bytes_cmp x y) y ys all.0 all.1 (all_with ys all.1)

shaped_at : (a t : Bool) (kinds : List ItemKind) (s : Shape) (e : Place × Record) (ys : List (List ℕ)) → (over s == e.0.0) ≡ a → EntryFits kinds s e → AllByRecursion (IsSetEntry (key_width kinds s.parts)) ys
    → AllByRecursion (IsSetEntry (key_width kinds s.parts)) (with_in (cond (a && t) (Some (entry_bytes kinds s.parts e.1.owner (key_of s.parts e.1.values) e.0.1)) None) ys)
shaped_at true true kinds s e ys at f all =
    all_with (IsSetEntry (key_width kinds s.parts)) (entry_bytes kinds s.parts e.1.owner (key_of s.parts e.1.values) e.0.1)
    (record { owner = e.1.owner; key = key_bytes kinds s.parts (key_of s.parts e.1.values); number = e.0.1; is = refl; small_owner = f.owner; small = f.small; long = whole_width kinds s.parts (key_of s.parts e.1.values) (f.key at) }) ys all
shaped_at true false kinds s e ys at f all = all
shaped_at false t kinds s e ys at f all = all

shaped_in : (kinds : List ItemKind) (s : Shape) (es : List (Place × Record)) → EntriesFit kinds s es → AllByRecursion (IsSetEntry (key_width kinds s.parts)) (keys (listing (entry_of kinds s) es))
shaped_in kinds s [] all = subst (AllByRecursion (IsSetEntry (key_width kinds s.parts))) (sym empty_keys) tt
shaped_in kinds s (e ∷ es) all =
    let ys = keys (listing (entry_of kinds s) es) in
    subst (AllByRecursion (IsSetEntry (key_width kinds s.parts))) (sym (keys_with_opt (entry_of kinds s e.0 e.1) (listing (entry_of kinds s) es)))
    (shaped_at (over s == e.0.0) (takes s e.1.values) kinds s e ys refl all.0 (shaped_in kinds s es all.1))

-- all entries of a set have one form and one width
pub entries_shaped : (desc : Described) (db : Db) (s : Shape) → EntriesFit (kinds_over desc s) s (entries db.records) → AllByRecursion (IsSetEntry (key_width (kinds_over desc s) s.parts)) (entries_of desc db s)
entries_shaped desc db s all = shaped_in (kinds_over desc s) s (entries db.records) all

-- bounds of that width

zero_then : (b : ℕ) (o : Ordering) → is_gt o ≡ false → is_gt (ordering_then (nat_cmp 0 b) o) ≡ false
zero_then zero o h = ap (λ z. is_gt (ordering_then z o)) (equal_is 0 0 refl) ∙ h
zero_then (suc b) o h = ap (λ z. is_gt (ordering_then z o)) (less_is 0 (suc b) (omega arith))

zeros_low : (k : ℕ) (q : List ℕ) → length q ≡ k → is_gt (bytes_cmp (replicate k 0) q) ≡ false
zeros_low zero [] h = refl
zeros_low zero (b ∷ q) h = absurd (omega (arith, h))
zeros_low (suc k) [] h = absurd (omega (arith, h))
zeros_low (suc k) (b ∷ q) h = zero_then b (bytes_cmp (replicate k 0) q) (zeros_low k q (omega (arith, h)))

pad_gt : (k : ℕ) (p q : List ℕ) → length q ≡ length p + k → is_gt (bytes_cmp (p ++ replicate k 0) q) ≡ is_gt (front_cmp p q)
pad_gt k [] q h = zeros_low k q (h ∙ omega arith)
pad_gt k (a ∷ p) [] h = absurd (omega (arith, h))
pad_gt k (a ∷ p) (b ∷ q) h = gt_then (nat_cmp a b) (bytes_cmp (p ++ replicate k 0) q) (front_cmp p q) (pad_gt k p q (omega (arith, h)))

-- to reach a prefix is not to be below it, filled with zeros
pub padded_gt : (w : ℕ) (p q : List ℕ) → length q ≡ w → length p ≤ w → is_gt (bytes_cmp (pad_bound w p) q) ≡ is_gt (front_cmp p q)
padded_gt w p q h le = pad_gt (w - length p) p q (h ∙ omega (arith, le))

-- what the first entry behind a bound isn't below; none where there is no such entry
abbrev pub from_bytes : List ItemKind → List KeyPart → ℕ → Bound → Option (List ℕ)
from_bytes kinds ps owner Start = Some (pad_bound (entry_width kinds ps) (to_be_bytes w32 owner))
from_bytes kinds ps owner End = None
from_bytes kinds ps owner (At key n) = Some (entry_bytes kinds ps owner key (n + 1))
from_bytes kinds ps owner (From key) = Some (pad_bound (entry_width kinds ps) (key_front kinds ps owner key))

-- what the last entry before a bound is below
abbrev pub to_bytes : List ItemKind → List KeyPart → ℕ → Bound → Option (List ℕ)
to_bytes kinds ps owner Start = None
to_bytes kinds ps owner End = Some (pad_bound (entry_width kinds ps) (to_be_bytes w32 (owner + 1)))
to_bytes kinds ps owner (At key n) = Some (entry_bytes kinds ps owner key n)
to_bytes kinds ps owner (From key) = Some (pad_bound (entry_width kinds ps) (key_front kinds ps owner key))

-- the numbers of a bound have a successor, and a prefix isn't longer than an entry
abbrev pub BoundSmall : List ItemKind → List KeyPart → Bound → Type 0
BoundSmall kinds ps Start = Unit {0}
BoundSmall kinds ps End = Unit {0}
BoundSmall kinds ps (At key n) = n + 1 < 2 ^ 32
BoundSmall kinds ps (From key) = Unit {0}

lt_next : (n m : ℕ) → is_lt (nat_cmp n m) ≡ not (is_gt (nat_cmp (n + 1) m))
lt_next n m = grind (arith, nat_tests)

ge_next : (n m : ℕ) → not (is_lt (nat_cmp n m)) ≡ is_gt (nat_cmp (n + 1) m)
ge_next n m = grind (arith, nat_tests)

next_then : (o p : Ordering) (n m : ℕ) → is_lt (ordering_then o (ordering_then p (nat_cmp n m))) ≡ not (is_gt (ordering_then o (ordering_then p (nat_cmp (n + 1) m))))
next_then Less p n m = refl
next_then Equal Less n m = refl
next_then Equal Equal n m = lt_next n m
next_then Equal Greater n m = refl
next_then Greater p n m = refl

-- the order of an entry to one of that form
entry_order : (kinds : List ItemKind) (ps : List KeyPart) (owner : ℕ) (key : List Value) (n : ℕ) (q : List ℕ) → IsSetKey kinds ps key → n < 2 ^ 32 → owner < 2 ^ 32 → (e : IsSetEntry (key_width kinds ps) q)
    → bytes_cmp (entry_bytes kinds ps owner key n) q ≡ ordering_then (nat_cmp owner e.owner) (ordering_then (bytes_cmp (key_bytes kinds ps key) e.key) (nat_cmp n e.number))
entry_order kinds ps owner key n q f small own e =
    ap (bytes_cmp (entry_bytes kinds ps owner key n)) e.is
    ∙ append_cmp (to_be_bytes w32 owner) (to_be_bytes w32 e.owner) (key_bytes kinds ps key ++ to_be_bytes w32 n) (e.key ++ to_be_bytes w32 e.number) refl
    ∙ (λ i. ordering_then (four_cmp owner e.owner own e.small_owner i) (append_cmp (key_bytes kinds ps key) e.key (to_be_bytes w32 n) (to_be_bytes w32 e.number) (whole_width kinds ps key f ∙ sym e.long) i))
    ∙ ap (λ o. ordering_then (nat_cmp owner e.owner) (ordering_then (bytes_cmp (key_bytes kinds ps key) e.key) o)) (four_cmp n e.number small e.small)

front_short : (kinds : List ItemKind) (ps : List KeyPart) (owner : ℕ) (key : List Value) → KeyHasKinds kinds ps key → length (key_front kinds ps owner key) ≤ entry_width kinds ps
front_short kinds ps owner key f =
    let inner : length (key_bytes kinds ps key ++ []) ≡ length (key_bytes kinds ps key) + 0 = length-append (key_bytes kinds ps key) [] in
    let whole : length (key_front kinds ps owner key) ≡ 4 + length (key_bytes kinds ps key ++ []) = length-append (to_be_bytes w32 owner) (key_bytes kinds ps key ++ []) in
    omega (arith, whole, inner, key_most kinds ps key f)

none_pass : (xs : List (List ℕ)) → first (λ q. false) xs ≡ None
none_pass [] = refl
none_pass (x ∷ xs) = none_pass xs

none_last : (xs : List (List ℕ)) → last (λ q. false) xs ≡ None
none_last [] = refl
none_last (x ∷ xs) = ap (λ o. or_else o None) (none_last xs)

first_same : (P : List ℕ → Type 0) (p r : List ℕ → Bool) (xs : List (List ℕ)) → ((q : List ℕ) → P q → p q ≡ r q) → AllByRecursion P xs → first p xs ≡ list.first r xs
first_same P p r [] f all = refl
first_same P p r (x ∷ xs) f all = (λ i. cond (f x all.0 i) (Some x) (first_same P p r xs f all.1 i))

else_same : (a b c d : Option (List ℕ)) → a ≡ b → c ≡ d → or_else a c ≡ list.or_else b d
else_same a None c d h k = ap (λ o. or_else o c) h ∙ k
else_same a (Some x) c d h k = ap (λ o. or_else o c) h

last_same : (P : List ℕ → Type 0) (p r : List ℕ → Bool) (xs : List (List ℕ)) → ((q : List ℕ) → P q → p q ≡ r q) → AllByRecursion P xs → last p xs ≡ list.last r xs
last_same P p r [] f all = refl
last_same P p r (x ∷ xs) f all =
    else_same (last p xs) (list.last r xs) (cond (p x) (Some x) None) (cond (r x) (Some x) None) (last_same P p r xs f all.1) (λ i. cond (f x all.0 i) (Some x) None)

module _ (kinds : List ItemKind) (ps : List KeyPart) (owner : ℕ) (own : owner + 1 < 2 ^ 32) where
  four_short : (n : ℕ) → length (to_be_bytes w32 n) ≤ entry_width kinds ps
  four_short n = omega (arith, high_first_length 4 n)

  small_owner : owner < 2 ^ 32
  small_owner = omega (arith, own)

  -- the first entry behind a bound, by one look
  pub first_is : (bound : Bound) (xs : List (List ℕ)) → BoundKeyFits kinds ps bound → BoundSmall kinds ps bound → AllByRecursion (IsSetEntry (key_width kinds ps)) xs → first (passes kinds ps owner bound) xs ≡ first_from (from_bytes kinds ps owner bound) xs
  first_is Start xs f g all =
      first_same (IsSetEntry (key_width kinds ps)) (passes kinds ps owner Start) (not_below (pad_bound (entry_width kinds ps) (to_be_bytes w32 owner))) xs
      (λ q e. sym (ap not (padded_gt (entry_width kinds ps) (to_be_bytes w32 owner) q (entry_long (key_width kinds ps) q e) (four_short owner)))) all
  first_is End xs f g all = none_pass xs
  first_is (At key n) xs f g all =
      first_same (IsSetEntry (key_width kinds ps)) (passes kinds ps owner (At key n)) (not_below (entry_bytes kinds ps owner key (n + 1))) xs
      (λ q e.
      ap is_lt (entry_order kinds ps owner key n q f.0 f.1 small_owner e)
      ∙ next_then (nat_cmp owner e.owner) (bytes_cmp (key_bytes kinds ps key) e.key) n e.number
      ∙ sym (ap (λ o. not (is_gt o)) (entry_order kinds ps owner key (n + 1) q f.0 g small_owner e))) all
  first_is (From key) xs f g all =
      first_same (IsSetEntry (key_width kinds ps)) (passes kinds ps owner (From key)) (not_below (pad_bound (entry_width kinds ps) (key_front kinds ps owner key))) xs
      (λ q e. sym (ap not (padded_gt (entry_width kinds ps) (key_front kinds ps owner key) q (entry_long (key_width kinds ps) q e) (front_short kinds ps owner key f)))) all

  owner_order : (n : ℕ) (q : List ℕ) → n < 2 ^ 32 → (e : IsSetEntry (key_width kinds ps) q) → front_cmp (to_be_bytes w32 n) q ≡ nat_cmp n e.owner
  owner_order n q small e =
      ap (front_cmp (to_be_bytes w32 n)) e.is ∙ front_whole (to_be_bytes w32 n) (to_be_bytes w32 e.owner) (e.key ++ to_be_bytes w32 e.number) refl ∙ four_cmp n e.owner small e.small_owner

  -- the last entry before a bound, by one look
  pub last_is : (bound : Bound) (xs : List (List ℕ)) → BoundKeyFits kinds ps bound → AllByRecursion (IsSetEntry (key_width kinds ps)) xs → last (precedes kinds ps owner bound) xs ≡ last_to (to_bytes kinds ps owner bound) xs
  last_is Start xs f all = none_last xs
  last_is End xs f all =
      last_same (IsSetEntry (key_width kinds ps)) (precedes kinds ps owner End) (is_under (pad_bound (entry_width kinds ps) (to_be_bytes w32 (owner + 1)))) xs
      (λ q e.
      ap (λ o. not (is_lt o)) (owner_order owner q small_owner e) ∙ ge_next owner e.owner ∙ sym (ap is_gt (owner_order (owner + 1) q own e))
      ∙ sym (padded_gt (entry_width kinds ps) (to_be_bytes w32 (owner + 1)) q (entry_long (key_width kinds ps) q e) (four_short (owner + 1)))) all
  last_is (At key n) xs f all = last_same (IsSetEntry (key_width kinds ps)) (precedes kinds ps owner (At key n)) (is_under (entry_bytes kinds ps owner key n)) xs (λ q e. refl) all
  last_is (From key) xs f all =
      last_same (IsSetEntry (key_width kinds ps)) (precedes kinds ps owner (From key)) (is_under (pad_bound (entry_width kinds ps) (key_front kinds ps owner key))) xs
      (λ q e. sym (padded_gt (entry_width kinds ps) (key_front kinds ps owner key) q (entry_long (key_width kinds ps) q e) (front_short kinds ps owner key f))) all

-- the look for a duplicate, by a bound of the entries' width
pub look_is : (w : ℕ) (p : List ℕ) (xs : List (List ℕ)) → length p ≤ 4 + (w + 4) → AllByRecursion (IsSetEntry w) xs → look p xs ≡ that_passes (starts p) (first_from (Some (pad_bound (4 + (w + 4)) p)) xs)
look_is w p xs le all =
    ap (that_passes (starts p)) (first_same (IsSetEntry w) (reaches p) (not_below (pad_bound (4 + (w + 4)) p)) xs (λ q e. sym (ap not (padded_gt (4 + (w + 4)) p q (entry_long w q e) le))) all)

pub all_filter : (P : List ℕ → Type 0) (t : List ℕ → Bool) (xs : List (List ℕ)) → AllByRecursion P xs → AllByRecursion P (filter t xs)
all_filter P t [] all = tt
all_filter P t (x ∷ xs) all =
    let rest = all_filter P t xs all.1 in
    elim (t x) as (λ b. AllByRecursion P (cond b (x ∷ filter t xs) (filter t xs))) [ true ↦ (all.0, rest) | false ↦ rest ]

pub all_without : (P : List ℕ → Type 0) (o : Option (List ℕ)) (xs : List (List ℕ)) → AllByRecursion P xs → AllByRecursion P (without_in o xs)
all_without P None xs all = all
all_without P (Some x) xs all = all_filter P (λ y. not (is_same x y)) xs all
