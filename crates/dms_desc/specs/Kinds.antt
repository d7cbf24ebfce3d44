-- What a structure is, which records it holds, and which items are links.
use Rattle.std.specs.Prelude.{ℕ, List, Bool, true, false, ◌==◌, ◌&&◌, nat_lt, if◌then◌else◌}
use Rattle.dms_base.specs.declared.value.Value.{Value}
use Rattle.dms_base.specs.declared.kind.ItemKind.{ItemKind}
use Rattle.dms_base.specs.declared.kind.ItemKind.TheVariants.{Alpha, Number, Bool as Truth, Field, Link}
use Rattle.dms_desc.specs.Shape.{Shape}
use Rattle.dms_desc.specs.Conds.{meets}

-- a data set, also the restart data set
abbrev pub is_data_set : Shape → Bool
is_data_set s = nat_lt s.kind 3

abbrev pub is_restart : Shape → Bool
is_restart s = s.kind == 2

abbrev pub is_automatic : Shape → Bool
is_automatic s = s.kind == 4

abbrev pub is_manual : Shape → Bool
is_manual s = s.kind == 5

-- a set or an automatic subset: its members follow from the records
abbrev pub is_set_or_automatic : Shape → Bool
is_set_or_automatic s = nat_lt 2 s.kind && nat_lt s.kind 5

-- the data set whose records a structure holds
abbrev pub over : Shape → ℕ
over s = if is_data_set s then s.number else s.set

-- an automatic subset holds what meets its condition
abbrev pub takes : Shape → List Value → Bool
takes s values = if is_automatic s then meets s.cond values else true

abbrev pub is_link : ItemKind → Bool
is_link (Alpha n) = false
is_link (Number n m s) = false
is_link Truth = false
is_link (Field n) = false
is_link (Link to counted) = true
