-- What one row keeps by itself.
use Rattle.std.specs.Prelude.{ℕ, suc, List, [], ◌∷◌, Bool, true, ◌&&◌, not, Some, None, if◌then◌else◌}
use Rattle.std.specs.declared.option.Option.{Option}
use Rattle.dms_base.specs.declared.value.Value.{Value}
use Rattle.dms_desc.specs.Conds.{is_null, meets}
use Rattle.dms_desc.specs.Fitting.{values_fit}
use Rattle.dms_desc.specs.Shape.{Shape}
use Rattle.dms_desc.specs.declared.structure.Item.{Item}
use Rattle.dms_layout.specs.declared.slot.SlotRead.{SlotRead}
use Rattle.dms_layout.specs.declared.slot.SlotRead.TheVariants.{Free, Used, Bad}

-- no value is null that is REQUIRED
abbrev pub required_kept : List Item → List Value → Bool
required_kept [] vs = true
required_kept (i ∷ is) [] = true
required_kept (i ∷ is) (v ∷ vs) = not (i.required && is_null v) && required_kept is vs

-- the values of a row fit, are there where REQUIRED, and meet VERIFY
abbrev pub keeps_alone : Shape → SlotRead → Bool
keeps_alone s Free = true
keeps_alone s (Used slot) = values_fit s.items slot.rec.values && (required_kept s.items slot.rec.values && meets s.cond slot.rec.values)
keeps_alone s Bad = true

-- the first of these rows that doesn't, counted from a number on
abbrev pub first_alone : Shape → ℕ → List SlotRead → Option ℕ
first_alone s n [] = None
first_alone s n (r ∷ rs) = if keeps_alone s r then first_alone s (suc n) rs else Some n
