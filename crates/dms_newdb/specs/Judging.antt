-- What the schema of an input is: its description, or its first fault.
use Rattle.std.specs.Prelude.{ℕ, List}
use Rattle.std.specs.declared.result.Result.{Result}
use Rattle.std.specs.declared.result.Result.TheVariants.{Ok, Err}
use Rattle.dasdl_phrases.specs.declared.fault.ParseFault.{ParseFault}
use Rattle.dasdl_parse.specs.declared.schema.Schema.{Schema}
use Rattle.dasdl_parse.specs.Grammar.{schema_of}
use Rattle.dasdl_compile.specs.declared.fault.CompileFault.{CompileFault}
use Rattle.dasdl_compile.specs.Compile.{compile_schema}
use Rattle.dms_desc.specs.Shape.{Described}
use Rattle.dms_status.specs.declared.status.SchemaFault.{SchemaFault}
use Rattle.dms_status.specs.declared.status.SchemaFault.TheVariants.{Parse, Compile}

abbrev pub compiled_as : Result Described CompileFault → Result Described SchemaFault
compiled_as (Ok d) = Ok d
compiled_as (Err e) = Err (Compile e)

abbrev pub parsed_as : Result Schema ParseFault → Result Described SchemaFault
parsed_as (Err e) = Err (Parse e)
parsed_as (Ok s) = compiled_as (compile_schema s.parameters s.declarations)

-- the description that a text spells, or its first fault
unfoldable pub judge_schema : List ℕ → Result Described SchemaFault
judge_schema text = parsed_as (schema_of text)
