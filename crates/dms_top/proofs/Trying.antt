-- What `try` does where no line of a script is run.
use Rattle.std.proofs.Common.{◌≡◌, sym, subst, refl, Err}
use Rattle.dms_plain.specs.Speaking.{only_none}
use Rattle.dms_site.specs.declared.site.Site.{Ghosts}
use Rattle.dms_site.specs.declared.source.Source as source
use Rattle.dms_status.specs.declared.status.SchemaFault.{SchemaFault}
use Rattle.dms_status.specs.declared.status.Status.{Status}
use Rattle.dms_status.specs.declared.status.Status.TheVariants.{InputFault, Memory, SchemaRefused}
use Rattle.dms_top.specs.Answering.{script_of, try_events}
use Rattle.dms_newdb.specs.Judging.{judge_schema}
use Rattle.dms_top.specs.Premises.{OfInput}
use Rattle.dms_top.specs.Schema.{schema_text}
use Rattle.dms_top.specs.Taking.{CutText}
use Rattle.dms_top.specs.Trying.{TryDoes}
use Rattle.dms_top.specs.Words.{IsOfTry, IsPast}
use Rattle.dms_top.proofs.Cutting.{cut_text}
use Rattle.dms_top.proofs.Printing.{front_none, nothing_part}

-- it ended before the script
pub nothing_tried : {S I : Type 0} (g : Ghosts S) (i : source.Ghosts I) (site : S) (from to : I) (status : Status) → IsOfTry status → (IsPast status → ⊥) → ((f : SchemaFault) → status ≡ SchemaRefused f → OfInput (i.left from) (λ all. judge_schema (schema_text all) ≡ Err f))
    → (status ≡ InputFault → OfInput (i.left from) (λ all. CutText all (i.left to))) → TryDoes g i site site from to status
nothing_tried g i site from to status of early refused cut = record {
  statuses = of;
  refused = refused;
  accepted = λ past. absurd (early past);
  by_input = record {
    ok = λ ok. absurd (early (subst (λ (s : Status). IsPast s) (sym ok) tt));
    limit = λ k is. absurd (early (subst (λ (s : Status). IsPast s) (sym is) tt));
    breaks = λ is all d told judged. cut_text g.tells_said (g.said site) d all (i.left to) (cut is all told);
    breaks_schema = λ is all e told judged. cut is all told;
  };
  answers = λ ok. absurd (early (subst (λ (s : Status). IsPast s) (sym ok) tt));
  part = λ tells all told. nothing_part status _ _ (try_events all) refl;
  front = λ tells all d told judged. front_none status d (script_of all) _ _ refl;
  silent = λ tells quiet. refl;
  files = λ tells. refl;
  only_speaks = only_none (g.clock site);
}

no_refusal : (f : SchemaFault) → InputFault ≡ SchemaRefused f → ⊥
no_refusal f is = absurd cc

no_refusal_of_memory : (f : SchemaFault) → Memory ≡ SchemaRefused f → ⊥
no_refusal_of_memory f is = absurd cc

-- taking the schema's text failed
pub text_cut : {S I : Type 0} (g : Ghosts S) (i : source.Ghosts I) (site : S) (from to : I) → OfInput (i.left from) (λ all. CutText all (i.left to)) → TryDoes g i site site from to InputFault
text_cut g i site from to cut = nothing_tried g i site from to InputFault tt (λ past. past) (λ f is. absurd (no_refusal f is)) (λ is. cut)

not_cut_by_memory : Memory ≡ InputFault → ⊥
not_cut_by_memory is = absurd cc

-- there was no memory for the schema
pub text_unheld : {S I : Type 0} (g : Ghosts S) (i : source.Ghosts I) (site : S) (from to : I) → TryDoes g i site site from to Memory
text_unheld g i site from to = nothing_tried g i site from to Memory tt (λ past. past) (λ f is. absurd (no_refusal_of_memory f is)) (λ is. absurd (not_cut_by_memory is))

not_cut : (e : SchemaFault) → SchemaRefused e ≡ InputFault → ⊥
not_cut e is = absurd cc

-- the schema was refused
pub text_refused : {S I : Type 0} (g : Ghosts S) (i : source.Ghosts I) (site : S) (from to : I) (e : SchemaFault) → ((f : SchemaFault) → SchemaRefused e ≡ SchemaRefused f → OfInput (i.left from) (λ all. judge_schema (schema_text all) ≡ Err f)) → TryDoes g i site site from to (SchemaRefused e)
text_refused g i site from to e refused = nothing_tried g i site from to (SchemaRefused e) tt (λ past. past) refused (λ is. absurd (not_cut e is))
