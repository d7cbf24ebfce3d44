-- A restore that is asked for is carried out.
use Rattle.std.proofs.Common.{ℕ, ◌/◌, ◌≡◌, true, cond, List, [], ◌∷◌, ◌++◌, append_assoc, length, refl, sym, ◌∙◌, ap, subst}
use Rattle.dms_moments.specs.Moments.{Clock, Runs}
use Rattle.dms_site.specs.Files.{Left}
use Rattle.dms_history.specs.Events.{Stored}
use Rattle.dms_history.specs.History.{Pending}
use Rattle.dms_history.specs.Pick.{count_at}
use Rattle.dms_history.specs.Entries.{Entry, Kind, begin_restore, control_point, how_of}
use Rattle.dms_history.specs.EntryEvents.{live_of}
use Rattle.dms_history.specs.Schemas.{schema_entries}
use Rattle.dms_history.specs.declared.event.FileCount.{FileCount}
use Rattle.dms_audrec.specs.Bodies.{bodies}
use Rattle.dms_audrec.specs.Reading.{counts_at}
use Rattle.dms_audrec.specs.Spelling.{pair_bytes, count_file, count_blocks}
use Rattle.dms_audfile.specs.Ends.{Grown}
use Rattle.dms_audfile.specs.TrailEntries.{trail_entries}
use Rattle.dms_running.specs.AnyBegun.{BeginLeaves}
use Rattle.dms_running.specs.Begun.{LeavesAll}
use Rattle.dms_running.specs.Points.{points_of, next_in, LeavesPointsPrefix}
use Rattle.dms_running.specs.Telling.{Telling}
use Rattle.dms_running.proofs.AnyBegin.{goes_on_so}
use Rattle.dms_restore.specs.Begins.{AnyBegunAt, any_to}
use Rattle.dms_restore.specs.Counts.{file_counts}
use Rattle.dms_restore.specs.Laying.{schema_control}
use Rattle.dms_restore.specs.Logging.{LogView, entries, telling_of, telling, state}
use Rattle.dms_restore.specs.Table.{IsPlan}
use Rattle.dms_restore.proofs.CountBytes.{counts_read, counts_told}
use Rattle.dms_opening.specs.declared.plan.OpeningPlan.{OpeningPlan}
use Rattle.dms_opening.specs.Carrying.{IsFitPlan, MayBegin, RunsTo}
use Rattle.dms_opening.specs.Openings.{ending_entries}
use Rattle.dms_opening.specs.Plans.{PlansFor, SameDumps}
use Rattle.dms_opening.specs.Starts.{MayGoOn, OpenedAt}
use Rattle.dms_opening.proofs.Carries.{count_table}

module _ (a b : LogView) (right : Stored) (kind : Kind) (plan : OpeningPlan) (m : MayBegin a right kind plan) (ready : IsFitPlan plan) (total : b.end.total ≡ a.end.total) (first : b.first ≡ a.first) (any : AnyBegunAt a b right plan.choice.point kind) where
  abbrev p : Pending
  p = any_to a plan.choice.point kind

  same : telling b ≡ telling a
  same = λ i. telling_of (total i) (first i)

  module _ (bytes : List ℕ) (is : bytes ≡ pair_bytes count_file count_blocks (file_counts 30001 plan.counts.items)) where
    pub may_end_so : Grown a.end.total a.first a.files b.files → SameDumps a.files b.files → MayGoOn p b plan.table plan.choice.point plan.next bytes
    may_end_so grown dumps = record {
      begun = any.begun;
      plan_is = m.writes.plan_is b.files grown dumps;
      point_is = refl;
      next_is = sym m.next_is ∙ sym any.next_same;
      count = λ f. counts_told plan.counts.items (count_table plan ready) bytes is f ∙ m.counts_are f;
    }

    module _ (c : LogView) (schema : List ℕ) (described : schema ≡ plan.schema.items) (opened : OpenedAt p b c (schema_control schema plan.choice.point plan.next bytes))
        (sealed : trail_entries a.end.total a.first b.files ≡ trail_entries a.end.total a.first a.files ++ cond plan.choice.begins (begin_restore plan.choice.point kind ∷ []) []) where
      abbrev o : OpenedAt p b c (schema_control plan.schema.items plan.choice.point plan.next bytes)
      o = subst (λ (l : List ℕ). OpenedAt p b c (schema_control l plan.choice.point plan.next bytes)) described opened

      abbrev found : List Entry
      found = trail_entries a.end.total a.first a.files

      abbrev ends : List FileCount → List Entry
      ends counts = schema_entries (bodies plan.schema.items) ++ control_point plan.choice.point plan.next counts ∷ []

      all_sealed : entries c ≡ found ++ begin_restore plan.choice.point kind ∷ ending_entries plan.choice.point plan.next plan.schema.items plan.counts.items
      all_sealed =
          o.entries_are
          ∙ (λ i. trail_entries (total i) (first i) b.files ++ ends (counts_read plan.counts.items (count_table plan ready) bytes is i))
          ∙ ap (λ (l : List Entry). l ++ ends (file_counts 30001 plan.counts.items)) (sealed ∙ ap (λ t. found ++ cond t (begin_restore plan.choice.point kind ∷ []) []) m.begins)
          ∙ append_assoc found (begin_restore plan.choice.point kind ∷ []) (ends (file_counts 30001 plan.counts.items))

      pub runs_to : RunsTo a right kind plan c
      runs_to = record {
        runs = o.runs;
        nothing = o.nothing;
        entries_are = all_sealed;
        points_are = o.points_same ∙ any.points_are;
        all_durable = o.all_durable ∙ ap length (sym o.points_same);
        next_is = o.next_same ∙ any.next_same ∙ m.next_is;
        content_is = o.content_is ∙ any.leaves;
        written = o.written;
        only = o.only;
      }

  -- at every moment nothing was done, or the Begin is sealed
  pub leaves_to : (later : Clock Left) → Runs a.clock b.clock (BeginLeaves (telling a) (state a) right plan.choice.point) → LeavesAll (telling b) (state b) later → Runs a.clock later (BeginLeaves (telling a) (state a) right plan.choice.point)
  leaves_to later begun leaves =
      goes_on_so (telling a) (state a) (state b) right plan.choice.point later begun (ap (λ (t : Telling). points_of t b.files) (sym same) ∙ any.points_are) (ap (λ (t : Telling). next_in t b.files) (sym same) ∙ any.next_same)
      (subst (λ (t : Telling). Runs b.clock later (LeavesPointsPrefix t (points_of t b.files) (length (points_of t b.files)) (next_in t b.files))) same leaves)
