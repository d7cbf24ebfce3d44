-- Values as records hold them.
use Rattle.std.specs.Prelude.{List, [], ◌∷◌, IsTrue}
use Rattle.dms_base.specs.declared.value.Value.{Value}
use Rattle.dms_base.specs.declared.value.Value.TheVariants.{Null, Text, Number, Bool as Truth, Bits, Link as Reference}
use Rattle.dms_base.specs.declared.kind.ItemKind.{ItemKind}
use Rattle.dms_base.specs.Fits.{fits, IsKind}
use Rattle.dms_base.specs.Text.{IsText}

-- a text has characters from the space to `~`, and no space at its end; other values have nothing to keep
abbrev pub IsPlain : Value → Type 0
IsPlain Null = Unit {0}
IsPlain (Text bytes) = IsText bytes
IsPlain (Number z) = Unit {0}
IsPlain (Truth b) = Unit {0}
IsPlain (Bits n) = Unit {0}
IsPlain (Reference r) = Unit {0}

-- each of these values is plain
abbrev pub ArePlain : List Value → Type 0
ArePlain [] = Unit {0}
ArePlain (v ∷ vs) = IsPlain v × ArePlain vs

-- a value that an item of a kind may have
pub record FitsKind (k : ItemKind) (v : Value) : Type 0 where
  pub kind : IsKind k
  pub fits : IsTrue (fits k v)
  pub plain : IsPlain v
