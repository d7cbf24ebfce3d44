-- What may be looked for in a structure may be looked for in its list.
use Rattle.std.proofs.Common.{◌≡◌, ◌-◌, ◌<◌, ◌^◌, ℕ, zero, suc, List, [], ◌∷◌, true, Some, None, refl, sym, ap, subst, slice_get, arith}
use Rattle.std.specs.declared.option.Option.{Option}
use Rattle.std.proofs.lemmas.Bool.{and_parts}
use Rattle.dms_base.specs.Fits.{IsKind}
use Rattle.dms_base.specs.declared.kind.ItemKind.{ItemKind}
use Rattle.dms_base.specs.declared.value.Value.{Value}
use Rattle.dms_desc.specs.Kinds.{over}
use Rattle.dms_desc.specs.Lookups.{items_of, over_of, parts_of, structure_of}
use Rattle.dms_desc.specs.Plain.{ArePlain, IsPlain}
use Rattle.dms_desc.specs.Shape.{Shape, Described}
use Rattle.dms_desc.specs.declared.bound.Bound.{Bound}
use Rattle.dms_desc.specs.declared.bound.Bound.TheVariants.{Start, End, At, From}
use Rattle.dms_desc.specs.declared.structure.Item.{Item}
use Rattle.dms_desc.specs.declared.structure.KeyPart.{KeyPart}
use Rattle.dms_key.specs.KeyBytes as bytes
use Rattle.dms_layout.specs.Slots.{AreKinds}
use Rattle.dms_model.specs.Fitting as fitting
use Rattle.dms_model.specs.Fitting.{MayStart, fits_item, key_fits}
use Rattle.dms_sets.specs.Bounds as bounds
use Rattle.dms_sets.specs.Entries.{kinds_of}
use Rattle.dms_sets.specs.Padded.{BoundSmall}
use Rattle.dms_sets.specs.Sets.{items_over, kinds_over}
use Rattle.dms_spelling.specs.Serving.{IsServed}
use Rattle.dms_spelling.specs.ServingLaws.{served_at}

-- ---- the key of a bound

kind_at : (items : List Item) (i : ℕ) (item : Item) → AreKinds items → slice_get items i ≡ Some item → IsKind item.kind
kind_at [] i item kinds at = absurd (cc)
kind_at (x ∷ xs) zero item kinds at = subst (λ (y : Item). IsKind y.kind) (some_one x item at) kinds.0
  where
    some_one : (x y : Item) → ◌≡◌ {A = Option Item} (Some x) (Some y) → x ≡ y
    some_one x y h = cc
kind_at (x ∷ xs) (suc i) item kinds at = kind_at xs i item kinds.1 at

-- the kind of an item
pub kind_there : (items : List Item) (i : ℕ) (item : Item) → slice_get items i ≡ Some item → slice_get (kinds_of items) i ≡ Some item.kind
kind_there [] i item h = absurd (cc)
kind_there (x ∷ xs) zero item h = ap (λ (y : Item). Some y.kind) (some_one x item h)
  where
    some_one : (x y : Item) → ◌≡◌ {A = Option Item} (Some x) (Some y) → x ≡ y
    some_one x y h = cc
kind_there (x ∷ xs) (suc i) item h = kind_there xs i item h

part_fits : (items : List Item) (p : KeyPart) (v : Value) (o : Option Item) → slice_get items (p.item - 1) ≡ o → AreKinds items → fits_item o v ≡ true → IsPlain v → bytes.FitsPart (bytes.kind_of (kinds_of items) p) v
part_fits items p v None at kinds fit plain = absurd (cc)
part_fits items p v (Some item) at kinds fit plain =
    subst (λ (k : Option ItemKind). bytes.FitsPart k v) (sym (kind_there items (p.item - 1) item at)) (record { kind = kind_at items (p.item - 1) item kinds at; fits = fit; plain = plain })

keys_fit : (items : List Item) (ps : List KeyPart) (key : List Value) → AreKinds items → key_fits ps items key ≡ true → ArePlain key → bytes.KeyHasKinds (kinds_of items) ps key
keys_fit items ps [] kinds fit plain = tt
keys_fit items [] (v ∷ vs) kinds fit plain = absurd (cc)
keys_fit items (p ∷ ps) (v ∷ vs) kinds fit plain =
    let both = and_parts (fits_item (slice_get items (p.item - 1)) v) (key_fits ps items vs) fit in
    (part_fits items p v (slice_get items (p.item - 1)) refl kinds both.0 plain.0, keys_fit items ps vs kinds both.1 plain.1)

bound_fits : (items : List Item) (ps : List KeyPart) (bound : Bound) → AreKinds items → fitting.BoundFits ps items bound → bounds.BoundKeyFits (kinds_of items) ps bound × BoundSmall (kinds_of items) ps bound
bound_fits items ps Start kinds f = (tt, tt)
bound_fits items ps End kinds f = (tt, tt)
bound_fits items ps (At key n) kinds f =
    ((record { fits = keys_fit items ps key kinds f.1.fit f.1.plain; whole = f.0 }, (let small = f.2 in let h : n < 2 ^ 32 = omega (arith, small) in h)), f.2)
bound_fits items ps (From key) kinds f = (keys_fit items ps key kinds f.fit f.plain, tt)

-- ---- members

kinds_at : (desc : Described) (o : Option Shape) (n : ℕ) → IsServed desc → structure_of desc n ≡ o → AreKinds (items_of o)
kinds_at desc None n served at = tt
kinds_at desc (Some s) n served at = (served_at desc n s served at).kinds

-- what may be looked for in a path may be looked for in its list
pub may_look : (desc : Described) (path : ℕ) (s : Shape) → IsServed desc → structure_of desc path ≡ Some s → (owner : ℕ) (bound : Bound) → MayStart desc path owner bound
    → bounds.BoundKeyFits (kinds_over desc s) s.parts bound × BoundSmall (kinds_over desc s) s.parts bound
may_look desc path s served at owner bound may =
    bound_fits (items_over desc s) s.parts bound (kinds_at desc (structure_of desc (over s)) (over s) served refl)
    (subst (λ (o : Option Shape). fitting.BoundFits (parts_of o) (items_of (structure_of desc (over_of o))) bound) at may.fits)
