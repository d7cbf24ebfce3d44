use Rattle.std.proofs.Common.{◌≡◌, ◌∙◌, ap, subst, sym, Ok}
use Rattle.dms_desc.specs.Shape.{Described, as_described}
use Rattle.dms_load.specs.Summary.{load_schema}
use Rattle.dms_loadcount.specs.Answers.{load_text}
use Rattle.dms_loadrun.specs.LoadDoes.{LoadsOver}
use Rattle.dms_loadrun.proofs.Accepted.{judged_is, never_refused}
use Rattle.dms_loadrun.proofs.Does.{load_does}
use Rattle.dms_newdb.specs.Judging.{judge_schema}
use Rattle.dms_newdb.proofs.Sealed.{judged_well, short_judged}
use Rattle.dms_loadrun.proofs.loading.load_command.Goals as goal

pub unreachable-requires : goal.unreachable-requires
unreachable-requires g c = absurd (never_refused _ (ap judge_schema (sym c.schema_text.ensures) ∙ c.in-Refused.ensures))

pub load_described-requires-clause-short : goal.load_described-requires-clause-short
load_described-requires-clause-short g c = short_judged load_schema (as_described c.in-Description.desc) (ap judge_schema (sym c.schema_text.ensures) ∙ c.in-Description.ensures)

pub load_described-requires-clause-formed : goal.load_described-requires-clause-formed
load_described-requires-clause-formed g c = judged_well load_schema (as_described c.in-Description.desc) (ap judge_schema (sym c.schema_text.ensures) ∙ c.in-Description.ensures)

pub load_described-requires-clause-is : goal.load_described-requires-clause-is
load_described-requires-clause-is g c = judged_is (as_described c.in-Description.desc) (ap judge_schema (sym c.schema_text.ensures) ∙ c.in-Description.ensures)

pub returns-clause-does : goal.returns-clause-does
returns-clause-does g c =
    let judged : judge_schema load_schema ≡ Ok (as_described c.in-Description.desc) = ap judge_schema (sym c.schema_text.ensures) ∙ c.in-Description.ensures in
    load_does g.S.Site c.args.seed c.args.n c.args.site.now c.read_description.new.site c.load_described.new.site c.load_described.result c.read_description.ensures.files c.read_description.ensures.moments c.read_description.ensures.said (rw c.in-Ok-None.field-0-is at c.in-Ok-None.ensures.found)
    (subst (λ (x : Described). LoadsOver g.S.Site x c.args.seed c.args.n (load_text x c.args.seed c.args.n) c.read_description.new.site c.load_described.new.site c.load_described.result) (judged_is (as_described c.in-Description.desc) judged) c.load_described.ensures.does)
