-- The key of a record, and the order of keys.
use Rattle.std.specs.Prelude.{ℕ, ◌+◌, List, [], ◌∷◌, map, Bool, true, false, slice_get}
use Rattle.std.specs.Ordering.{ordering_then, ordering_reverse}
use Rattle.std.specs.declared.cmp.Ordering.{Ordering}
use Rattle.std.specs.declared.cmp.Ordering.TheVariants.{Equal}
use Rattle.dms_base.specs.declared.value.Value.{Value}
use Rattle.dms_base.specs.Orders.{value_cmp}
use Rattle.dms_desc.specs.declared.structure.KeyPart.{KeyPart}
use Rattle.dms_desc.specs.Conds.{item_of, or_null}

-- the key of a record
abbrev pub key_of : List KeyPart → List Value → List Value
key_of parts values = map (λ p. item_of values p.item) parts

abbrev pub reverse_if : Bool → Ordering → Ordering
reverse_if false o = o
reverse_if true o = ordering_reverse o

-- two keys, from their i-th values on
abbrev pub key_cmp_from : ℕ → List KeyPart → List Value → List Value → Ordering
key_cmp_from i [] a b = Equal
key_cmp_from i (p ∷ ps) a b = ordering_then (reverse_if p.descending (value_cmp (or_null (slice_get a i)) (or_null (slice_get b i)))) (key_cmp_from (i + 1) ps a b)

-- by the parts in their order, each with its direction
abbrev pub key_cmp : List KeyPart → List Value → List Value → Ordering
key_cmp parts a b = key_cmp_from 0 parts a b
