-- The bytes of an entry of a set: the owner's record, the key, the record.
use Rattle.std.proofs.Common.{◌≡◌, ℕ, suc, zero, ◌≤◌, List, [], ◌∷◌, ◌++◌, map, length, take, arith}
use Rattle.std.specs.Int.{w32, to_be_bytes}
use Rattle.dms_base.specs.declared.value.Value.{Value}
use Rattle.dms_base.specs.declared.kind.ItemKind.{ItemKind}
use Rattle.dms_desc.specs.declared.structure.Item.{Item}
use Rattle.dms_desc.specs.declared.structure.KeyPart.{KeyPart}
use Rattle.dms_desc.specs.Keys.{key_cmp}
use Rattle.dms_key.specs.KeyBytes.{bytes_cmp, key_bytes, key_width, KeyHasKinds}
use Rattle.dms_key.specs.KeyOrder.{key_order, whole_length}

-- the kinds of a data set's items
abbrev pub kinds_of : List Item → List ItemKind
kinds_of items = map (λ (i : Item). i.kind) items

-- an entry: its owner's number, its key, its record's number
abbrev pub entry_bytes : List ItemKind → List KeyPart → ℕ → List Value → ℕ → List ℕ
entry_bytes kinds parts owner key number = to_be_bytes w32 owner ++ (key_bytes kinds parts key ++ to_be_bytes w32 number)

-- a key with a value for each part, each fitting its item
pub record IsSetKey (kinds : List ItemKind) (ps : List KeyPart) (key : List Value) : Type 0 where
  pub fits : KeyHasKinds kinds ps key
  pub whole : length key ≡ length ps

-- the order of such keys is that of their bytes, which are of one length
pub whole_order : (kinds : List ItemKind) (ps : List KeyPart) (a b : List Value) → IsSetKey kinds ps a → IsSetKey kinds ps b → bytes_cmp (key_bytes kinds ps a) (key_bytes kinds ps b) ≡ key_cmp ps a b
whole_order kinds ps a b f g = key_order kinds ps a b f.fits g.fits f.whole g.whole

pub whole_width : (kinds : List ItemKind) (ps : List KeyPart) (a : List Value) → IsSetKey kinds ps a → length (key_bytes kinds ps a) ≡ key_width kinds ps
whole_width kinds ps a f = whole_length kinds ps a f.fits f.whole

-- the first values of a key

pub fits_short : (kinds : List ItemKind) (ps : List KeyPart) (a : List Value) → KeyHasKinds kinds ps a → length a ≤ length ps
fits_short kinds ps [] f = omega arith
fits_short kinds [] (v ∷ a) f = absurd f
fits_short kinds (p ∷ ps) (v ∷ a) f = omega (arith, fits_short kinds ps a f.1)

pub fits_take : (m : ℕ) (kinds : List ItemKind) (ps : List KeyPart) (a : List Value) → KeyHasKinds kinds ps a → KeyHasKinds kinds ps (take m a)
fits_take zero kinds ps a f = tt
fits_take (suc m) kinds ps [] f = tt
fits_take (suc m) kinds [] (v ∷ a) f = absurd f
fits_take (suc m) kinds (p ∷ ps) (v ∷ a) f = (f.0, fits_take m kinds ps a f.1)
