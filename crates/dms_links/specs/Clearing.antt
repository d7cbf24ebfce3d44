-- The links of records to one that goes are null: the slots that are altered.
use Rattle.std.specs.Prelude.{ℕ, ◌≡◌, List, [], ◌∷◌, Bool}
use Rattle.dms_block.specs.Content.{Content}
use Rattle.dms_desc.specs.Shape.{Described}
use Rattle.dms_model.specs.Db.{Place}
use Rattle.dms_links.specs.AlteringIn.{AltersIn}
use Rattle.dms_links.specs.declared.altering.SlotChange.TheVariants.{Corrected}

-- The slots at these places are corrected one after another; one in which no record stands stays.
abbrev pub CorrectsAll : Described → ℕ → ℕ → List Place → Content → Content → Type 0
CorrectsAll desc to number [] c d = d ≡ c
CorrectsAll desc to number (p ∷ ps) c d = (e : Content) × (b : Bool) × AltersIn desc p.0 p.1 (Corrected to number) c e b × CorrectsAll desc to number ps e d
