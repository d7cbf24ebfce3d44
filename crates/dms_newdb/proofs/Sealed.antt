-- A description that was compiled and written is a sealed one.
use Rattle.std.proofs.Common.{◌≡◌, ◌≤◌, ap, refl, List, ℕ, Ok, Err, Result, length, nat_le, true, arith}
use Rattle.std.proofs.lemmas.Bool.Decides.{nat_tests}
use Rattle.dasdl_phrases.specs.declared.fault.ParseFault.{ParseFault}
use Rattle.dasdl_parse.specs.declared.schema.Schema.{Schema}
use Rattle.dasdl_parse.specs.Grammar.{schema_of}
use Rattle.dasdl_compile.specs.declared.fault.CompileFault.{CompileFault}
use Rattle.dasdl_compile.specs.Compile.{compile_schema}
use Rattle.dasdl_laws.proofs.Sound.{well_formed}
use Rattle.dms_desc.specs.Shape.{Described}
use Rattle.dms_desc_bytes.specs.Spelling.{spelling}
use Rattle.dms_desc_bytes.specs.WellFormed.{IsWellFormed}
use Rattle.dms_descfile.specs.DescriptionFile.{sealed_file, IsSealed}
use Rattle.dms_newdb.specs.Judging.{judge_schema, parsed_as, compiled_as}

or_else : {T E : Type 0} → T → Result T E → T
or_else x (Ok y) = y
or_else x (Err e) = x

made : (r : Result Described CompileFault) (d : Described) → compiled_as r ≡ Ok d → r ≡ Ok d
unfolding or_else
made (Ok x) d is = ap Ok (ap (or_else x) is)
made (Err e) d is = absurd (cc)

-- the schema that was read, and the description that it gives
record SchemaRead (r : Result Schema ParseFault) (d : Described) : Type 0 where
  schema : Schema
  read : r ≡ Ok schema
  made_of : compile_schema schema.parameters schema.declarations ≡ Ok d

read_as : (r : Result Schema ParseFault) (d : Described) → parsed_as r ≡ Ok d → SchemaRead r d
read_as (Ok s) d is = record { schema = s; read = refl; made_of = made (compile_schema s.parameters s.declarations) d is }
read_as (Err e) d is = absurd (cc)

-- a description that was compiled is one that a schema can have
pub judged_well : (text : List ℕ) (d : Described) → judge_schema text ≡ Ok d → IsWellFormed d
unfolding judge_schema
judged_well text d is = let r = read_as (schema_of text) d is in well_formed text r.schema d r.read r.made_of

short_spelling : (d : Described) → IsWellFormed d → length (spelling d) ≤ 65535
short_spelling d w = let e : nat_le (length (spelling d)) 65535 ≡ true = w.short in grind (arith, nat_tests)

pub sealed_is : (text : List ℕ) (d : Described) (file : List ℕ) → judge_schema text ≡ Ok d → file ≡ sealed_file d → IsSealed file d
sealed_is text d file is e = let w = judged_well text d is in record { database = 0; well_formed = w; few = short_spelling d w; is = e }

-- the spelling of what was compiled fits the file
pub short_judged : (text : List ℕ) (d : Described) → judge_schema text ≡ Ok d → length (spelling d) ≤ 65535
short_judged text d is = short_spelling d (judged_well text d is)
