-- Which description a text is a schema of.
use Rattle.std.specs.Prelude.{ℕ, ◌≡◌, List}
use Rattle.std.specs.declared.result.Result.TheVariants.{Ok}
use Rattle.dasdl_parse.specs.declared.schema.Schema.{Schema}
use Rattle.dasdl_parse.specs.Grammar.{schema_of}
use Rattle.dasdl_compile.specs.Compile.{compile_schema}
use Rattle.dms_desc.specs.Shape.{Described}
use Rattle.dms_desc_bytes.specs.Spelling.{spelling}
use Rattle.dms_desc_bytes.specs.WellFormed.{IsWellFormed}

-- compiling a schema gives this description
abbrev pub IsCompiled : Schema → Described → Type 0
IsCompiled s d = compile_schema s.parameters s.declarations ≡ Ok d

-- A text is a schema of a description: parsing it gives a schema, and compiling that gives the description.
pub record IsSchemaOf (text : List ℕ) (d : Described) : Type 0 where
  pub schema : Schema
  pub parsed : schema_of text ≡ Ok schema
  pub compiled : IsCompiled schema d

-- A text is a schema of a description that has the bytes of this one.
pub record SpellsSame (text : List ℕ) (d : Described) : Type 0 where
  pub described : Described
  pub is_schema : IsSchemaOf text described
  pub same : spelling described ≡ spelling d

-- each description that a text is a schema of is well-formed
abbrev pub GivesWellFormed : List ℕ → Type 0
GivesWellFormed text = (d : Described) → IsSchemaOf text d → IsWellFormed d

-- A text that spells the bytes of a well-formed description is a schema of this very one.
abbrev pub HasOwnSchema : Type 0
HasOwnSchema = (text : List ℕ) (d : Described) → IsWellFormed d → GivesWellFormed text → SpellsSame text d → IsSchemaOf text d
