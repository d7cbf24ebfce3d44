-- What holds of each description that a text gives.
use Rattle.std.specs.Prelude.{ℕ, ◌≡◌, List}
use Rattle.std.specs.declared.result.Result.TheVariants.{Ok}
use Rattle.dms_desc.specs.Shape.{Described}
use Rattle.dasdl_parse.specs.Grammar.{schema_of}
use Rattle.dasdl_parse.specs.declared.schema.Schema.{Schema}
use Rattle.dasdl_compile.specs.Compile.{compile_schema}

-- whatever text was read and compiled, this holds of its description
abbrev pub OfEachText : (Described → Type 0) → Type 0
OfEachText P = (text : List ℕ) (s : Schema) (d : Described) → schema_of text ≡ Ok s → compile_schema s.parameters s.declarations ≡ Ok d → P d
