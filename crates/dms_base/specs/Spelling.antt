-- What a literal spells for any kind, and how any value is shown, also where no schema has such a kind.
use Rattle.std.specs.Prelude.{ℕ, ◌^◌, List, [], Bool, true, ◌&&◌, nat_lt, nat_le, None, if◌then◌else◌}
use Rattle.std.specs.declared.option.Option.{Option}
use Rattle.dms_base.specs.declared.value.Value.{Value}
use Rattle.dms_base.specs.declared.kind.ItemKind.{ItemKind}
use Rattle.dms_base.specs.declared.kind.ItemKind.TheVariants.{Alpha, Number as Decimal, Bool as OneBit, Field, Link}
use Rattle.dms_base.specs.declared.kind.Literal.{Literal}
use Rattle.dms_base.specs.declared.kind.Literal.TheVariants.{Null as NoValue, Text as Quoted, Number as Digits, Bool as Word}
use Rattle.dms_base.specs.Fits.{value_of}
use Rattle.dms_base.specs.Texts.{value_text}

-- a kind that a schema can declare
abbrev pub is_kind : ItemKind → Bool
is_kind (Alpha n) = nat_le 1 n && nat_le n 200
is_kind (Decimal n m s) = nat_le 1 n && nat_le n 18 && nat_le m n
is_kind OneBit = true
is_kind (Field n) = nat_le 1 n && nat_le n 48
is_kind (Link to counted) = true

-- a literal that a text can spell
abbrev pub is_literal : Literal → Bool
is_literal NoValue = true
is_literal (Quoted bytes) = true
is_literal (Digits minus digits places) = nat_lt digits (10 ^ 18) && nat_lt places 18
is_literal (Word b) = true

-- the value that a literal spells for a kind; none where no schema has this kind or no text this literal
abbrev pub value_for : ItemKind → Literal → Option Value
value_for k l = if is_kind k && is_literal l then value_of k l else None

-- a value as a reply shows it; a kind that no schema has shows nothing
abbrev pub text_for : ItemKind → Value → List ℕ
text_for k v = if is_kind k then value_text k v else []
