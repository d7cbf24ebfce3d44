-- Where a description is made, each step on the way gives what it gives.
use Rattle.std.proofs.Common.{◌≡◌, List, true, false}
use Rattle.std.specs.Prelude.{not, nat_lt}
use Rattle.std.specs.declared.result.Result.TheVariants.{Ok}
use Rattle.std.proofs.lemmas.Bool.{not-false}
use Rattle.dms_desc.specs.Shape.{Described}
use Rattle.dasdl_parse.specs.declared.schema.Parameters.{Parameters}
use Rattle.dasdl_parse.specs.declared.declarations.Declaration.{Declaration}
use Rattle.dasdl_compile.specs.declared.draft.Draft.{Draft}
use Rattle.dasdl_compile.specs.declared.work.Plain.TheVariants.{Noted}
use Rattle.dasdl_compile.specs.declared.work.Compilation.{Compilation}
use Rattle.dasdl_compile.specs.Answers.{steps}
use Rattle.dasdl_compile.specs.Compile.{compile_schema, declared_at, finish_drafts, description_of, nothing_yet}
use Rattle.dasdl_compile.specs.Finding.{has_restart}
use Rattle.dasdl_compile.specs.Outlines.{outlined_one}
use Rattle.dasdl_compile.specs.Widths.{description_width}
use Rattle.dasdl_laws.proofs.Judging.{bind_ok, skip_ok, ok_same}

-- what a description is made of
pub record Made (p : Parameters) (ds : List Draft) (d : Described) : Type 0 where
  pub restart : has_restart ds ≡ true
  pub short : nat_lt 65535 (description_width ds) ≡ false
  pub is : description_of p ds ≡ d

finished_made : (p : Parameters) (ds : List Draft) (d : Described) → finish_drafts p ds ≡ Ok d → Made p ds d
unfolding finish_drafts
finished_made p ds d h =
    let a = skip_ok (not (has_restart ds)) _ _ _ h in
    let b = skip_ok (nat_lt 65535 (description_width ds)) _ _ _ a.1 in
    record { restart = not-false (has_restart ds) a.0; short = b.0; is = ok_same _ d b.1 }

-- what was noted, and what was declared under that
pub record CompiledSchema (p : Parameters) (decls : List Declaration) (d : Described) : Type 0 where
  pub outline : Compilation
  pub work : Compilation
  pub outlined : steps outlined_one Noted nothing_yet decls ≡ Ok outline
  pub declared : steps declared_at outline.made nothing_yet decls ≡ Ok work
  pub made : Made p work.made d

pub compiled_by : (p : Parameters) (decls : List Declaration) (d : Described) → compile_schema p decls ≡ Ok d → CompiledSchema p decls d
unfolding compile_schema
compiled_by p decls d h =
    let a = bind_ok {A = Compilation} {B = Described} (steps outlined_one Noted nothing_yet decls) _ d h in
    let b = bind_ok {A = Compilation} {B = Described} (steps declared_at a.0.made nothing_yet decls) _ d a.2 in
    record { outline = a.0; work = b.0; outlined = a.1; declared = b.1; made = finished_made p b.0.made d b.2 }
