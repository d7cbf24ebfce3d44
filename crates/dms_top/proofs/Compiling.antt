-- What `compile` does where it makes no call on the site.
use Rattle.std.proofs.Common.{◌≡◌, ℕ, List, length, refl, subst, sym, Err}
use Rattle.std.proofs.lemmas.List.{length-map}
use Rattle.dms_desc.specs.declared.description.Description.{Description}
use Rattle.dms_desc.specs.Shape.{Described, as_described, shape_of}
use Rattle.dms_moments.specs.Moments.{Clock, Steps}
use Rattle.dms_moments.specs.MomentLaws.{runs_none}
use Rattle.dms_site.specs.declared.site.Site.{Ghosts}
use Rattle.dms_site.specs.declared.source.Source as source
use Rattle.dms_site.specs.Files.{Left, Same}
use Rattle.dms_status.specs.declared.status.SchemaFault.{SchemaFault}
use Rattle.dms_status.specs.declared.status.Status.{Status}
use Rattle.dms_status.specs.declared.status.Status.TheVariants.{Ok, BadWords, SchemaRefused, NoDatabase, Needed, InputFault, Memory, Limit, Damaged, SayFault, DiskFault, Exists, BadStatement, Reorganization, BadStream, Diverged, Flaw}
use Rattle.dms_top.specs.Compiling.{CompileDoes, compiled_text}
use Rattle.dms_status.specs.Saying.{IsSpoken, SaysLine}
use Rattle.dms_newdb.specs.Judging.{judge_schema}
use Rattle.dms_top.specs.Premises.{OfInput}
use Rattle.dms_top.specs.Words.{IsOfCompile, IsPast}

pub same_none : (c : Clock Left) → Steps Same c c
same_none c = record { follows = λ x now. (x, now, refl); runs = runs_none c _ }

-- it ended before the description was judged, or since it was refused
nothing_done : {S I : Type 0} (g : Ghosts S) (i : source.Ghosts I) (site : S) (from : I) (status : Status) → IsOfCompile status → (IsPast status → ⊥) → (IsSpoken status → ⊥) → ((line said : List ℕ) → SaysLine status line said said)
    → ((f : SchemaFault) → status ≡ SchemaRefused f → OfInput (i.left from) (λ all. judge_schema all ≡ Err f)) → CompileDoes g i site site from status
nothing_done g i site from status of early mute says refused = record {
  statuses = of;
  refused = refused;
  accepted = λ past. absurd (early past);
  refused_text = λ all e told judged. refl;
  input_fault = λ is. refl;
  others = λ tells f other. refl;
  exists = λ is. absurd (early (subst (λ (s : Status). IsPast s) (sym is) tt));
  unsealed = λ spoken. absurd (mute spoken);
  kept = λ tells d sealed. record { files_is = refl; said_is = refl; moments = same_none (g.clock site) };
  every_moment = λ tells all d told judged. runs_none (g.clock site) _;
  every_moment_some = λ tells. runs_none (g.clock site) _;
  stays = λ before. same_none (g.clock site);
  at_ok = λ spoken. absurd (mute spoken);
  at_ok_sealed = λ spoken. absurd (mute spoken);
  at_ok_some = λ spoken. absurd (mute spoken);
  at_ok_stable = λ spoken. absurd (mute spoken);
  says = λ tells all d told judged. says _ (g.said site);
  silent = λ tells none. refl;
  says_sealed = λ tells all d told judged. runs_none (g.clock site) _;
}

no_refusal : (f : SchemaFault) → InputFault ≡ SchemaRefused f → ⊥
no_refusal f is = absurd cc

no_refusal_of_memory : (f : SchemaFault) → Memory ≡ SchemaRefused f → ⊥
no_refusal_of_memory f is = absurd cc

-- taking the text failed
pub unread : {S I : Type 0} (g : Ghosts S) (i : source.Ghosts I) (site : S) (from : I) → CompileDoes g i site site from InputFault
unread g i site from = nothing_done g i site from InputFault tt (λ past. past) (λ spoken. spoken) (λ line said. refl) (λ f is. absurd (no_refusal f is))

-- there was no memory for it
pub unheld : {S I : Type 0} (g : Ghosts S) (i : source.Ghosts I) (site : S) (from : I) → CompileDoes g i site site from Memory
unheld g i site from = nothing_done g i site from Memory tt (λ past. past) (λ spoken. spoken) (λ line said. refl) (λ f is. absurd (no_refusal_of_memory f is))

-- the text was refused
pub nothing_compiled : {S I : Type 0} (g : Ghosts S) (i : source.Ghosts I) (site : S) (from : I) (e : SchemaFault) → ((f : SchemaFault) → SchemaRefused e ≡ SchemaRefused f → OfInput (i.left from) (λ all. judge_schema all ≡ Err f)) → CompileDoes g i site site from (SchemaRefused e)
nothing_compiled g i site from e refused = nothing_done g i site from (SchemaRefused e) tt (λ past. past) (λ spoken. spoken) (λ line said. refl) refused

-- where nothing was said, the text stays
pub unsaid : (s : Status) (line old new : List ℕ) → (IsSpoken s → ⊥) → SaysLine s line old new → new ≡ old
unsaid Ok line old new mute says = absurd (mute tt)
unsaid BadWords line old new mute says = says
unsaid (SchemaRefused f) line old new mute says = says
unsaid NoDatabase line old new mute says = says
unsaid (Needed n) line old new mute says = says
unsaid (Damaged f b) line old new mute says = says
unsaid InputFault line old new mute says = says
unsaid Memory line old new mute says = says
unsaid (Limit l) line old new mute says = says
unsaid SayFault line old new mute says = absurd (mute tt)
unsaid DiskFault line old new mute says = says
unsaid Exists line old new mute says = says
unsaid (BadStatement p) line old new mute says = says
unsaid (Reorganization why) line old new mute says = says
unsaid (BadStream place) line old new mute says = says
unsaid (Diverged file block) line old new mute says = says
unsaid (Flaw flaw) line old new mute says = says

-- the line of a description that is meant says how many structures it has
pub line_of : (desc : Description) (d : Described) (s : Status) (old new : List ℕ) → d ≡ as_described desc → SaysLine s (compiled_text (length desc.structures)) old new → SaysLine s (compiled_text (length d.structures)) old new
line_of desc d s old new is says =
    subst (λ (x : Described). SaysLine s (compiled_text (length x.structures)) old new) (sym is)
    (subst (λ (n : ℕ). SaysLine s (compiled_text n) old new) (sym (length-map desc.structures shape_of)) says)
