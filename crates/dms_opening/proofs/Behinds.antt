-- What is asked begins once the restore that is pending has ended.
use Rattle.std.proofs.Common.{ℕ, ◌≡◌, ◌⊎◌, inl, inr, true, List, [], ◌∷◌, ◌++◌, Option, Some, None, refl, sym, ◌∙◌, ap, subst}
use Rattle.dms_site.specs.Files.{Files}
use Rattle.dms_history.specs.Events.{begin}
use Rattle.dms_history.specs.Places.{IsLive}
use Rattle.dms_history.specs.History.{Pending, History, last_point}
use Rattle.dms_history.specs.Pick.{count_at}
use Rattle.dms_history.specs.Entries.{Entry, Kind, begin_restore, how_of}
use Rattle.dms_history.specs.EntryEvents.{history_of, live_of, next_of}
use Rattle.dms_history.specs.SchemaAt.{schema_at}
use Rattle.dms_history.specs.declared.event.Row.{Row}
use Rattle.dms_running.proofs.OneMore.{history_entry}
use Rattle.dms_audfile.specs.Ends.{Grown}
use Rattle.dms_audfile.specs.TrailEntries.{trail_entries}
use Rattle.dms_audfile.specs.declared.place.EntryPlace.{EntryPlace}
use Rattle.dms_audfile.specs.declared.fault.AudFault.TheVariants.{Damaged}
use Rattle.dms_audfile.specs.Header.{tag_said}
use Rattle.dms_restore.specs.declared.restore_table.RestoreTable.{RestoreTable}
use Rattle.dms_restore.specs.declared.trace.TrailTrace.{TrailTrace}
use Rattle.dms_restore.specs.declared.tracing.TrailHistory.{TrailHistory}
use Rattle.dms_restore.specs.Counts.{count_of}
use Rattle.dms_restore.specs.Table.{IsPlan}
use Rattle.dms_restore.specs.Tracing.{IsTraced, TracesPending}
use Rattle.dms_opening.specs.declared.asked.Asked.{Asked}
use Rattle.dms_opening.specs.declared.choosing.OpenFault.{OpenFault}
use Rattle.dms_opening.specs.declared.choosing.OpenFault.TheVariants.{Audit}
use Rattle.dms_opening.specs.declared.dump_looks.DumpFound.{DumpFound}
use Rattle.dms_opening.specs.declared.plan.OpeningPlan.{OpeningPlan}
use Rattle.dms_opening.specs.Asked.{judge_own}
use Rattle.dms_opening.specs.Behind.{restore_asked, PlansBehind, RefusesBehind}
use Rattle.dms_opening.specs.Choices.{judge_files}
use Rattle.dms_opening.specs.Doing.{point_asked, kind_asked}
use Rattle.dms_opening.specs.DumpLooks.{look_of, IsFoundFor, dump_begun, dump_asked}
use Rattle.dms_opening.specs.Plans.{AreFoundFor, SameDumps, IsPlainFault, HasNoDescriptionAt}
use Rattle.dms_opening.proofs.Chosen.{PointLives, own_lives, own_none, own_file}
use Rattle.dms_opening.proofs.DumpLooks.{head_for, found_stays}
use Rattle.dms_opening.proofs.OpeningPlans.{read_now, looked_at}
use Rattle.dms_opening.proofs.Prepared.{with_begin}

-- behind the Begin of a restore it is pending
pub begin_pending : (entries : List Entry) (point : ℕ) (kind : Kind) → (history_of (with_begin entries point kind)).pending ≡ Some (record { entries = live_of entries; point = point; how = how_of kind })
begin_pending entries point kind = ap (λ (h : History). h.pending) (history_entry entries (begin_restore point kind) (begin point (how_of kind)) refl)

module _ (total first : ℕ) (files : Files) (places : List EntryPlace) (t : TrailTrace) (asked : Asked) (rows : List Row) (begun look : DumpFound) (r : AreFoundFor total first files places t asked begun look) (none : judge_files total first files asked ≡ None) where
  abbrev entries : List Entry
  entries = trail_entries total first files

  abbrev tag : ℕ
  tag = tag_said (files first)

  own : judge_own first (live_of entries) (next_of entries) (last_point (history_of entries)) asked (look_of tag (dump_asked files asked)) ≡ None
  own = own_none first (history_of entries) (next_of entries) asked (look_of tag (dump_begun files (history_of entries).pending)) (look_of tag (dump_asked files asked)) none

  l : PointLives (history_of entries) asked
  l = own_lives first (history_of entries) (next_of entries) asked (look_of tag (dump_asked files asked)) own

  found : IsFoundFor files (how_of (kind_asked asked rows)) look
  found = head_for files first tag (how_of (kind_asked asked rows)) (dump_asked files asked) look
      (λ d by. (looked_at files asked rows d by, own_file first (live_of entries) (next_of entries) (last_point (history_of entries)) asked (look_of tag (dump_asked files asked)) rows d by own)) r.look_is

  -- the point that is asked for, by the last one that is kept
  module _ (last : Option ℕ) (point : ℕ) (last_is : (older : Files) (es : List Entry) → IsTraced older es t.history → last ≡ last_point (history_of es)) (at : (n : ℕ) → point_asked asked last ≡ Some n → point ≡ n) where
    point_is : point ≡ l.point
    point_is = at l.point (ap (point_asked asked) (last_is files entries (read_now total first files places t r.read).history) ∙ l.asked_is)

    asked_is : point_asked asked (last_point (history_of entries)) ≡ Some point
    asked_is = l.asked_is ∙ ap (λ n. Some n) (sym point_is)

    pub asked_lives : IsLive (live_of entries) point
    asked_lives = subst (λ n. IsLive (live_of entries) n) (sym point_is) l.lives

    -- there is no description at it
    pub not_described_behind : (e : OpenFault) → IsPlainFault e ⊎ ((e ≡ Audit (Damaged first 0)) × HasNoDescriptionAt entries point) → RefusesBehind total first files asked e
    not_described_behind e why = elim why [
      | inl plain ↦ inl plain
      | inr gone ↦ inr (gone.0, record { point = point; point_is = asked_is; at = gone.1 })
    ]

    -- the Begin is kept
    module _ (h : TrailHistory) (begins : (older : Files) (es : List Entry) → IsTraced older es t.history → IsTraced older (with_begin es point (kind_asked asked rows)) h) where
      abbrev p : Pending
      p = restore_asked entries asked rows point

      pending_then : (new : Files) → Grown total first files new → TracesPending new h p
      pending_then new grown = record {
        entries = with_begin entries point (kind_asked asked rows);
        traced = begins new entries (r.read.stays new grown).history;
        pending = begin_pending entries point (kind_asked asked rows);
      }

      pub pending_now : TracesPending files h p
      pending_now = record {
        entries = with_begin entries point (kind_asked asked rows);
        traced = begins files entries (read_now total first files places t r.read).history;
        pending = begin_pending entries point (kind_asked asked rows);
      }

      pub plans_behind : (next : ℕ) (table : RestoreTable) (counts schema : List ℕ) (plan : OpeningPlan) → plan.choice.begins ≡ true → plan.choice.point ≡ point → plan.next ≡ next → plan.table ≡ table → plan.counts.items ≡ counts → plan.schema.items ≡ schema
          → next ≡ t.history.next
          → ((new : Files) → TracesPending new h p → IsFoundFor new p.how look → IsPlan p new table)
          → ((f : ℕ) → count_of counts f ≡ count_at p.entries p.point f)
          → schema_at entries point ≡ Some schema → PlansBehind total first files asked rows plan
      plans_behind next table counts schema plan begins_is same_point same_next same_table same_counts same_schema next_is told counted described = record {
        begins = begins_is;
        point_is = asked_is ∙ ap (λ n. Some n) (sym same_point);
        lives = subst (λ n. IsLive (live_of entries) n) (sym same_point) asked_lives;
        plan_is = λ new grown same. subst (λ n. IsPlan (restore_asked entries asked rows n) new plan.table) (sym same_point)
            (subst (λ (k : RestoreTable). IsPlan p new k) (sym same_table) (told new (pending_then new grown) (found_stays files new p.how look same found)));
        counts_are = λ f. ap (λ (c : List ℕ). count_of c f) same_counts ∙ counted f ∙ ap (λ n. count_at (live_of entries) n f) (sym same_point);
        schema_is = ap (schema_at entries) same_point ∙ described ∙ ap (λ (s : List ℕ). Some s) (sym same_schema);
        next_is = (read_now total first files places t r.read).history.next_is ∙ sym next_is ∙ sym same_next;
      }
