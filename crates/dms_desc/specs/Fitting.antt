-- Which values a record with given items may have.
use Rattle.std.specs.Prelude.{List, [], ◌∷◌, Bool, true, false, ◌&&◌}
use Rattle.dms_base.specs.declared.value.Value.{Value}
use Rattle.dms_base.specs.Fits.{fits}
use Rattle.dms_desc.specs.declared.structure.Item.{Item}

-- there are as many values as items, and each fits its item
abbrev pub values_fit : List Item → List Value → Bool
values_fit [] [] = true
values_fit [] (v ∷ vs) = false
values_fit (i ∷ is) [] = false
values_fit (i ∷ is) (v ∷ vs) = fits i.kind v && values_fit is vs
