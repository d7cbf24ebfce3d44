use Rattle.std.proofs.Common.{inl, inr, sym, ◌∙◌, ap, subst, Err, IsErrOf}
use Rattle.dms_audfile.specs.Counting.{CountedAt}
use Rattle.dms_audfile.specs.declared.fault.AudFault.TheVariants.{Disk}
use Rattle.dms_audfile.proofs.Reading.{reads_on}
use Rattle.dms_opening.specs.declared.choosing.OpenFault.{OpenFault}
use Rattle.dms_opening.specs.declared.plan.OpeningPlan.{OpeningPlan}
use Rattle.dms_opening.specs.declared.choosing.OpenFault.TheVariants.{Audit}
use Rattle.dms_recovery.specs.declared.planning.Plans.{Plans}
use Rattle.dms_opening.specs.declared.choosing.Choice.{Choice}
use Rattle.dms_recovery.proofs.Found.{found_on, none_on, behind_at, refused_behind_at, plain_all}
use Rattle.dms_recovery.proofs.planning.plan_found.Goals as goal

pub returns-in-Err-clause-refused : goal.returns-in-Err-clause-refused
returns-in-Err-clause-refused g c tells total r = inl (c.in-Err.ensures.refused tells total r)

pub returns-in-Err-cut-clause-refused : goal.returns-in-Err-cut-clause-refused
returns-in-Err-cut-clause-refused g c tells total r = plain_all total c.args.first _ c.args.asked _ (inr c.in-Err-cut.ensures.memory)

pub returns-then-plan-clause-plans : goal.returns-then-plan-clause-plans
returns-then-plan-clause-plans g c tells total r = record {
  plan = c.in-Ok-cut.ensures.plans total c.args.first _ c.args.asked c.args.rows.now (c.in-Ok.ensures.plans tells total r);
  begins = c.if-plan.true;
}

pub returns-in-Err-prepare_behind-clause-refused : goal.returns-in-Err-prepare_behind-clause-refused
returns-in-Err-prepare_behind-clause-refused g c tells total r =
    let files = g.S.Site.files c.args.site.now in
    let same = c.prepare_asked.ensures.reads.files_stay tells in
    let trace = c.in-Ok.ensures.kept (ap (λ (k : Choice). k.begins) (sym c.in-Ok-cut.ensures.choice) ∙ c.if-plan.false) in
    let none = (c.in-Ok.ensures.plans tells total r).chooses.none in
    refused_behind_at total c.args.first files _ c.args.asked _ same none
    (c.in-Err-prepare_behind.ensures.refused tells total c.args.begun.now (found_on total c.args.first files _ c.args.places.now c.args.trace _ c.args.asked c.args.begun.now c.args.look.now same trace r) (none_on total c.args.first files _ c.args.asked same none))

pub returns-in-Ok-cut-2-clause-plans : goal.returns-in-Ok-cut-2-clause-plans
returns-in-Ok-cut-2-clause-plans g c tells total r =
    let files = g.S.Site.files c.args.site.now in
    let same = c.prepare_asked.ensures.reads.files_stay tells in
    let off = ap (λ (k : Choice). k.begins) (sym c.in-Ok-cut.ensures.choice) ∙ c.if-plan.false in
    let trace = c.in-Ok.ensures.kept off in
    let plans = c.in-Ok.ensures.plans tells total r in
    record {
      first_plan = c.in-Ok-cut.ensures.plans total c.args.first files c.args.asked c.args.rows.now plans;
      goes_on = c.if-plan.false;
      own_plan = behind_at total c.args.first files _ c.args.asked c.args.rows.now _ same
          (c.in-Ok-cut-2.ensures.behind total c.args.first _ c.args.asked c.args.rows.now
          (c.in-Ok-prepare_behind.ensures.plans tells total c.args.begun.now (found_on total c.args.first files _ c.args.places.now c.args.trace _ c.args.asked c.args.begun.now c.args.look.now same trace r) (none_on total c.args.first files _ c.args.asked same plans.chooses.none)));
    }

pub returns-in-Err-cut-2-clause-refused : goal.returns-in-Err-cut-2-clause-refused
returns-in-Err-cut-2-clause-refused g c tells total r = plain_all total c.args.first _ c.args.asked _ (inr c.in-Err-cut-2.ensures.memory)

pub returns-in-Ok-cut-2-clause-same_site : goal.returns-in-Ok-cut-2-clause-same_site
returns-in-Ok-cut-2-clause-same_site g c = g.met.S.Site.same_then c.args.site.now c.prepare_asked.new.site c.prepare_behind.new.site c.prepare_asked.ensures.same_site c.prepare_behind.ensures.same_site

pub returns-in-Err-prepare_behind-clause-same_site : goal.returns-in-Err-prepare_behind-clause-same_site
returns-in-Err-prepare_behind-clause-same_site g c = g.met.S.Site.same_then c.args.site.now c.prepare_asked.new.site c.prepare_behind.new.site c.prepare_asked.ensures.same_site c.prepare_behind.ensures.same_site

pub returns-in-Err-cut-2-clause-same_site : goal.returns-in-Err-cut-2-clause-same_site
returns-in-Err-cut-2-clause-same_site g c = g.met.S.Site.same_then c.args.site.now c.prepare_asked.new.site c.prepare_behind.new.site c.prepare_asked.ensures.same_site c.prepare_behind.ensures.same_site

pub returns-in-Err-prepare_behind-clause-reads : goal.returns-in-Err-prepare_behind-clause-reads
returns-in-Err-prepare_behind-clause-reads g c = reads_on g.S.Site.tells c.prepare_asked.ensures.reads c.prepare_behind.ensures.reads

pub returns-in-Err-prepare_behind-clause-disk : goal.returns-in-Err-prepare_behind-clause-disk
returns-in-Err-prepare_behind-clause-disk g c =
    let fault = c.in-Err-prepare_behind.fault in
    let new = g.S.Site.disk_faults c.prepare_behind.new.site in
    let counted : CountedAt (IsErrOf {T = OpeningPlan} {E = OpenFault} (Err fault) (Audit Disk)) (g.S.Site.disk_faults c.args.site.now) new =
    subst (λ n. CountedAt (IsErrOf {T = OpeningPlan} {E = OpenFault} (Err fault) (Audit Disk)) n new) (c.in-Ok.ensures.disk.clean (λ is. absurd cc)) c.in-Err-prepare_behind.ensures.disk in
    let there : IsErrOf {T = Plans} {E = OpenFault} (Err fault) (Audit Disk) → IsErrOf {T = OpeningPlan} {E = OpenFault} (Err fault) (Audit Disk) = λ is. cc in
    let back : IsErrOf {T = OpeningPlan} {E = OpenFault} (Err fault) (Audit Disk) → IsErrOf {T = Plans} {E = OpenFault} (Err fault) (Audit Disk) = λ is. cc in
    record { later = counted.later; failed = λ is. counted.failed (there is); once = counted.once; clean = λ none. counted.clean (λ is. none (back is)) }

pub returns-in-Ok-cut-2-clause-reads : goal.returns-in-Ok-cut-2-clause-reads
returns-in-Ok-cut-2-clause-reads g c = reads_on g.S.Site.tells c.prepare_asked.ensures.reads c.prepare_behind.ensures.reads

pub returns-in-Err-cut-2-clause-reads : goal.returns-in-Err-cut-2-clause-reads
returns-in-Err-cut-2-clause-reads g c = reads_on g.S.Site.tells c.prepare_asked.ensures.reads c.prepare_behind.ensures.reads
