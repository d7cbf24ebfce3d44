-- A trail that was scanned, and the plan of its opening.
use Rattle.std.proofs.Common.{ℕ, ◌≤◌, ◌≡◌, inl, inr, List, length, refl, sym, ◌∙◌, subst, arith}
use Rattle.std.specs.Global.{Vec}
use Rattle.dms_moments.specs.Moments.{Clock, Steps}
use Rattle.dms_moments.specs.MomentLaws.{runs_none, steps_on}
use Rattle.dms_site.specs.Files.{Files, Left, Same}
use Rattle.dms_audfile.specs.AuditTrail.{IsFound}
use Rattle.dms_audfile.specs.Ends.{Grown}
use Rattle.dms_audfile.specs.Header.{tag_said}
use Rattle.dms_audfile.specs.TrailEntries.{trail_entries}
use Rattle.dms_audfile.specs.declared.audit_end.AuditEnd.{AuditEnd}
use Rattle.dms_audfile.specs.declared.place.EntryPlace.{EntryPlace}
use Rattle.dms_opening.specs.declared.choosing.OpenFault.{OpenFault}
use Rattle.dms_restore.specs.declared.trace.TrailTrace.{TrailTrace}
use Rattle.dms_restore.specs.Counts.{count_of}
use Rattle.dms_restore.specs.Laying.{IsAtStart}
use Rattle.dms_restore.specs.Scanned.{AreEntryPlaces}
use Rattle.dms_restore.specs.Table.{AreBlocks, AreRuns}
use Rattle.dms_restore.specs.declared.restore_table.RestoreTable.{RestoreTable}
use Rattle.dms_wal.specs.Marks.{IsDescription}
use Rattle.dms_opening.specs.Carrying.{IsFitPlan}
use Rattle.dms_restore.specs.Traces.{IsTraceOf}
use Rattle.dms_opening.specs.declared.plan.OpeningPlan.{OpeningPlan}
use Rattle.dms_opening.specs.Openings.{IsTrailFound, RefusesFiles}
use Rattle.dms_opening.specs.Plans.{IsTrailRead, IsTaggedRead, FitsOpening, Plans, RefusesPlan}

-- no call at all
pub same_none : (c : Clock Left) → Steps Same c c
same_none c = record { follows = λ x now. (x, now, refl); runs = runs_none c _ }

-- one call that changes nothing after another
pub same_on : (a b c : Clock Left) → Steps Same a b → Steps Same b c → Steps Same a c
same_on a b c one two = steps_on one two (λ x y z nx ny r s. s ∙ r) (λ x y nx r. r)

-- the tag of a trail is that of its end
pub tag_at : (end : AuditEnd) (first : ℕ) (files : Files) (clock : Clock Left) → IsAtStart end first files clock → tag_said (files first) ≡ end.tag
tag_at end first files clock s = s.ends.writes.tags first (omega arith) s.ends.writes.order

pub read_at : (total tag first : ℕ) (files now : Files) (ps : List EntryPlace) (trace : TrailTrace) → now ≡ files → IsFound files first ps → AreEntryPlaces total first files ps
    → ((new : Files) → Grown total first files new → IsTraceOf new (trail_entries total first files) trace) → tag_said (now first) ≡ tag → IsTaggedRead total tag first now ps trace
read_at total tag first files now ps trace same found placed stays tag_is = record {
  read = subst (λ (f : Files). IsTrailRead total first f ps trace) (sym same) (record { found = found; placed = placed; stays = stays });
  tag_is = tag_is;
}

pub plans_as : (end last : AuditEnd) (first then : ℕ) (a b : Files) (plan : OpeningPlan) → last ≡ end → then ≡ first → a ≡ b → Plans end.total first a plan → Plans last.total then b plan
plans_as end last first then a b plan one two three p =
    subst (λ (e : AuditEnd). Plans e.total then b plan) (sym one) (subst (λ n. Plans end.total n b plan) (sym two) (subst (λ (f : Files). Plans end.total first f plan) three p))

pub trail_as : (end last : AuditEnd) (first then : ℕ) (files : Files) → last ≡ end → then ≡ first → IsTrailFound end.total first files → IsTrailFound last.total then files
trail_as end last first then files one two h = subst (λ (e : AuditEnd). IsTrailFound e.total then files) (sym one) (subst (λ n. IsTrailFound end.total n files) (sym two) h)

pub start_as : (end last : AuditEnd) (first then : ℕ) (files : Files) (clock : Clock Left) → last ≡ end → then ≡ first → IsAtStart end first files clock → IsAtStart last then files clock
start_as end last first then files clock one two s = subst (λ (e : AuditEnd). IsAtStart e then files clock) (sym one) (subst (λ n. IsAtStart end n files clock) (sym two) s)

-- a trail was found, and its plan is refused
pub refused_as : (total first : ℕ) (files now : Files) (fault : OpenFault) → now ≡ files → IsTrailFound total first files → RefusesPlan total first now fault → RefusesFiles files fault
refused_as total first files now fault same trail why = inr (inl (record { total = total; first = first; trail = trail; why = subst (λ (f : Files). RefusesPlan total first f fault) same why }))

-- its counts were cut
module _ (total first : ℕ) (files : Files) (a b : OpeningPlan) (choice : b.choice ≡ a.choice) (next : b.next ≡ a.next) (table : b.table ≡ a.table) (schema : b.schema ≡ a.schema) (same : (f : ℕ) → count_of b.counts.items f ≡ count_of a.counts.items f) where
  pub cut_plans : Plans total first files a → Plans total first files b
  cut_plans p = subst (λ (q : OpeningPlan). Plans total first files q) (λ i. record { choice = sym choice i; next = sym next i; table = sym table i; counts = b.counts; schema = sym schema i }) (record {
    chooses = p.chooses;
    plan_is = p.plan_is;
    counts_are = λ f. same f ∙ p.counts_are f;
    schema_is = p.schema_is;
    next_is = p.next_is;
  })

  pub ready_of : FitsOpening a → length b.counts.items ≤ length a.counts.items → IsFitPlan b
  ready_of fit fewer = record {
    runs = subst (λ (k : RestoreTable). AreRuns k.runs.items) (sym table) fit.runs;
    blocks = subst (λ (k : RestoreTable). AreBlocks k.told.items) (sym table) fit.blocks;
    counts = record { few = omega (arith, fewer, fit.size); small = λ f. omega (arith, same f, fit.small f) };
    described = subst (λ (v : Vec ℕ). IsDescription v.items) (sym schema) (omega (arith, fit.some), fit.few);
  }
