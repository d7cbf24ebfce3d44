-- The checks of VERIFY and WHERE.
use Rattle.std.specs.Prelude.{ℕ, ◌+◌, List, Bool, true, false, not, ◌&&◌, nat_le, Some, None}
use Rattle.std.specs.declared.option.Option.{Option}
use Rattle.dms_base.specs.declared.value.Value.{Value}
use Rattle.dms_base.specs.Fits.{fits}
use Rattle.dms_desc.specs.declared.structure.Item.{Item}
use Rattle.dms_desc.specs.Shape.{Tree}
use Rattle.dms_desc.specs.Shape.Tree.{Empty, Test, Both, Either, Contrary}
use Rattle.dms_desc.specs.Kinds.{is_link}
use Rattle.dms_desc_bytes.specs.Finding.{item_at}
use Rattle.dms_desc_bytes.specs.Members.{is_plain}

-- each comparison, NOT, AND and OR is a node
abbrev pub nodes : Tree → ℕ
nodes Empty = 1
nodes (Test item op value) = 1
nodes (Both a b) = 1 + nodes a + nodes b
nodes (Either a b) = 1 + nodes a + nodes b
nodes (Contrary a) = 1 + nodes a

abbrev pub is_comparable : Option Item → Value → Bool
is_comparable None value = false
is_comparable (Some i) value = not (is_link i.kind) && fits i.kind value && is_plain value

-- each comparison names an item that is no link, and its value fits that item or is null; none is nothing
abbrev pub compares_well : List Item → Tree → Bool
compares_well items Empty = false
compares_well items (Test item op value) = is_comparable (item_at items item) value
compares_well items (Both a b) = compares_well items a && compares_well items b
compares_well items (Either a b) = compares_well items a && compares_well items b
compares_well items (Contrary a) = compares_well items a

abbrev pub is_nothing : Tree → Bool
is_nothing Empty = true
is_nothing (Test item op value) = false
is_nothing (Both a b) = false
is_nothing (Either a b) = false
is_nothing (Contrary a) = false

-- a condition has at most 100 nodes, and compares items well
unfoldable pub is_condition : List Item → Tree → Bool
is_condition items t = nat_le (nodes t) 100 && compares_well items t
