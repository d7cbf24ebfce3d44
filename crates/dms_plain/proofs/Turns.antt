use Rattle.std.proofs.Common.{◌≡◌, ◌+◌, ◌<◌, ℕ, List, ◌∷◌, refl, sym, ap, ◌∙◌, length, drop, take, Some, slice_get}
use Rattle.std.specs.Option.{option_map}
use Rattle.std.specs.Ordering.{ordering_then}
use Rattle.std.specs.declared.cmp.Ordering.{Ordering}
use Rattle.std.specs.declared.cmp.Ordering.TheVariants.{Less, Equal, Greater}
use Rattle.std.proofs.lemmas.List.{drop_more, take-map}
use Rattle.std.proofs.lemmas.Option.{slice_get-map, get_or_from_slice_get}
use Rattle.dms_base.specs.declared.value.Value.{Value}
use Rattle.dms_desc.specs.declared.structure.KeyPart.{KeyPart}
use Rattle.dms_base.specs.Orders.{value_cmp}
use Rattle.dms_desc.specs.Keys.{key_cmp_from, key_cmp, key_of, reverse_if}
use Rattle.dms_desc.specs.Conds.{item_of, or_null}

-- what the i-th part says
abbrev pub part_cmp : ℕ → KeyPart → List Value → List Value → Ordering
part_cmp i p a b = reverse_if p.descending (value_cmp (or_null (slice_get a i)) (or_null (slice_get b i)))

key_turn : (i : ℕ) (ps : List KeyPart) (p : KeyPart) (a b : List Value) → i < length ps → slice_get ps i ≡ Some p → key_cmp_from i (drop i ps) a b ≡ ordering_then (part_cmp i p a b) (key_cmp_from (i + 1) (drop (i + 1) ps) a b)
key_turn i ps p a b lt is =
    ap (λ (qs : List KeyPart). key_cmp_from i qs a b) (drop_more ps i p lt ∙ ap (λ (q : KeyPart). q ∷ drop (i + 1) ps) (get_or_from_slice_get ps i p p is))

other : (o t : Ordering) → (o ≡ Equal → ⊥) → ordering_then o t ≡ o
other Less t n = refl
other Equal t n = absurd (n refl)
other Greater t n = refl

pub key_done : (i : ℕ) (ps : List KeyPart) (p : KeyPart) (a b : List Value) (o : Ordering) → i < length ps → slice_get ps i ≡ Some p → o ≡ part_cmp i p a b → (o ≡ Equal → ⊥) → key_cmp_from i (drop i ps) a b ≡ key_cmp ps a b → o ≡ key_cmp ps a b
key_done i ps p a b o lt is same differs so =
    sym (other o (key_cmp_from (i + 1) (drop (i + 1) ps) a b) differs)
    ∙ ap (λ (x : Ordering). ordering_then x (key_cmp_from (i + 1) (drop (i + 1) ps) a b)) same
    ∙ sym (key_turn i ps p a b lt is) ∙ so

pub key_more : (i : ℕ) (ps : List KeyPart) (p : KeyPart) (a b : List Value) (o : Ordering) → i < length ps → slice_get ps i ≡ Some p → o ≡ part_cmp i p a b → o ≡ Equal → key_cmp_from i (drop i ps) a b ≡ key_cmp ps a b → key_cmp_from (i + 1) (drop (i + 1) ps) a b ≡ key_cmp ps a b
key_more i ps p a b o lt is same ties so =
    ap (λ (x : Ordering). ordering_then x (key_cmp_from (i + 1) (drop (i + 1) ps) a b)) (sym ties ∙ same)
    ∙ sym (key_turn i ps p a b lt is) ∙ so

-- the i-th value of a record's key
pub key_at : (ps : List KeyPart) (i : ℕ) (p : KeyPart) (values : List Value) → slice_get ps i ≡ Some p → item_of values p.item ≡ or_null (slice_get (key_of ps values) i)
key_at ps i p values is = sym (ap or_null (slice_get-map (λ (q : KeyPart). item_of values q.item) ps i ∙ ap (option_map (λ (q : KeyPart). item_of values q.item)) is))

pub part_same : (p : KeyPart) (x x' y y' : Value) (o : Ordering) → o ≡ reverse_if p.descending (value_cmp x y) → x ≡ x' → y ≡ y' → o ≡ reverse_if p.descending (value_cmp x' y')
part_same p x x' y y' o h e f = h ∙ (λ j. reverse_if p.descending (value_cmp (e j) (f j)))

pub front_cmp : (parts front : List KeyPart) (values vs key k2 : List Value) (o : Ordering) → front ≡ take (length key) parts → vs ≡ values → k2 ≡ key → o ≡ key_cmp front (key_of front vs) k2
    → ordering_then o Greater ≡ ordering_then (key_cmp (take (length key) parts) (take (length key) (key_of parts values)) key) Greater
front_cmp parts front values vs key k2 o f v k is =
    ap (λ (x : Ordering). ordering_then x Greater)
    (is ∙ (λ i. key_cmp (f i) (key_of (f i) (v i)) (k i))
    ∙ ap (λ (xs : List Value). key_cmp (take (length key) parts) xs key) (sym (take-map (λ (q : KeyPart). item_of values q.item) (length key) parts)))
