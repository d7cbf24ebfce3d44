-- What the judging of a text answers.
use Rattle.std.specs.Prelude.{◌≡◌, ⊤}
use Rattle.std.specs.declared.result.Result.{Result}
use Rattle.std.specs.declared.result.Result.TheVariants.{Ok, Err}
use Rattle.dms_desc.specs.Shape.{Described, as_described}
use Rattle.dms_status.specs.declared.status.SchemaFault.{SchemaFault}
use Rattle.dms_newdb.specs.declared.judging.JudgedSchema.{JudgedSchema}
use Rattle.dms_newdb.specs.declared.judging.JudgedSchema.TheVariants.{Description, Refused, Memory}

-- the answer is this description or fault; want of memory says nothing
abbrev pub AnswersJudging : JudgedSchema → Result Described SchemaFault → Type 0
AnswersJudging (Description d) judged = judged ≡ Ok (as_described d)
AnswersJudging (Refused e) judged = judged ≡ Err e
AnswersJudging Memory judged = ⊤
