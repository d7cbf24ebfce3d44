-- An opened database as blocks.
use Rattle.std.proofs.Common.{ℕ, ◌≡◌, List, length, map, refl, sym, ◌∙◌, ap, subst}
use Rattle.std.proofs.lemmas.List.{length-map}
use Rattle.dms_site.specs.declared.site.Site.{Ghosts}
use Rattle.dms_site.specs.Files.{Files}
use Rattle.dms_block.specs.Held.{Held}
use Rattle.dms_audfile.specs.declared.audit_end.AuditEnd.{AuditEnd}
use Rattle.dms_history.specs.Events.{AllBlocks}
use Rattle.dms_running.specs.Points.{DescribedPoint}
use Rattle.dms_restore.specs.declared.log.Log.{Log}
use Rattle.dms_restore.specs.Logging.{LogView, telling, points, entries}
use Rattle.dms_restore.specs.TailTables.{IsAtLastControl, IsUnchangedSince}
use Rattle.dms_restore.proofs.AtControls.{ended_at, unchanged_ended}
use Rattle.dms_restore.specs.Views.{view_of}
use Rattle.dms_restore.specs.Counts.{count_of, file_counts}
use Rattle.dms_audfile.specs.TrailEntries.{trail_entries}
use Rattle.dms_history.specs.EntryEvents.{history_of, live_of}
use Rattle.dms_history.proofs.Picks.{some_is}
use Rattle.dms_wal.specs.declared.running.Running.{Running}
use Rattle.dms_wal.specs.declared.running.Start.{Start}
use Rattle.dms_wal.specs.Database.{running_held}
use Rattle.dms_wal.specs.Lifting.{AreCounts, block_point}
use Rattle.dms_wal.specs.Marks.{IsDescription, IsMarkOf}
use Rattle.dms_wal.specs.Starting.{IsInBounds, StartsFrom}
use Rattle.dms_wal.proofs.Imaging.{none_imaged}
use Rattle.dms_wal.proofs.Reaching.{EndsAlike, reaching, held_alike}
use Rattle.dms_opening.specs.Openings.{begin_where_none, RunsFrom, TellsOpened}

-- a database runs from what an opening left
pub starts_from : (files : Files) (point next : ℕ) (schema counts : List ℕ) (v : LogView) (s : Start) → RunsFrom files point next schema counts v → s.schema.items ≡ schema → s.next ≡ next → s.point ≡ point → s.counts.items ≡ counts → s.marks.items ≡ counts → StartsFrom v s
starts_from files point next schema counts v s r described numbered pointed counted marked = record {
  runs = r.runs;
  written = r.written;
  numbered = numbered ∙ sym r.next_is;
  counted = λ f. ap (λ (c : List ℕ). count_of c f) counted ∙ r.last.counted f ∙ ap (λ (c : AllBlocks). length (c f)) (sym r.content_is);
  pointed = subst (λ (m : List ℕ). IsMarkOf (points v) s.point m) (sym marked) (subst (λ n. IsMarkOf (points v) n counts) (sym pointed) r.last);
  under = r.under ∙ sym described;
  none_imaged =
      let es = trail_entries v.end.total v.first files in
      none_imaged v es (begin_where_none (history_of es).pending point) schema point next (file_counts 30001 counts) r.entries_are;
  at_control = subst (IsAtLastControl (entries v)) (sym pointed) (ended_at (live_of (entries v)) point r.ended);
  unchanged = λ same. record {
    content_is = r.content_is;
    counts_are = counted ∙ sym marked;
    still = λ m is. subst (IsUnchangedSince (live_of (entries v))) (some_is point m (sym r.last.number ∙ is)) (unchanged_ended (live_of (entries v)) point r.ended);
  };
}

pub in_bounds : (s : Start) → IsDescription s.schema.items → AreCounts s.counts.items → s.marks.items ≡ s.counts.items → IsInBounds s
in_bounds s described table same = record { described = described; marked = record { table = subst AreCounts (sym same) table; as_many = ap length same } }

module _ {S : Type 0} (g : Ghosts S) (r : Running S) (e : AuditEnd) (alike : EndsAlike r.log.end e) where
  tells_here : (files : Files) (point : ℕ) (schema counts : List ℕ) → RunsFrom files point r.next schema counts (view_of g r.log) → r.syncs ≡ 0 → TellsOpened (telling (view_of g r.log)) files r.next (running_held g (reaching g r e alike))
  tells_here files point schema counts f none = subst (λ (h : Held). TellsOpened (telling (view_of g r.log)) files r.next h) (held_alike g r e alike) (record {
    points_are = ap (λ (ps : List DescribedPoint). map block_point ps) f.points_same;
    all_durable = f.all_durable ∙ sym (length-map (points (view_of g r.log)) block_point);
    content_is = f.content_is;
    next_is = refl;
    no_sync = none;
  })

  pub tells_at : (files : Files) (point next : ℕ) (counts said : List ℕ) (log : Log S) → r.log ≡ log → r.next ≡ next → r.syncs ≡ 0 → RunsFrom files point next said counts (view_of g log)
      → TellsOpened (telling (view_of g log)) files next (running_held g (reaching g r e alike))
  tells_at files point next counts said log one three none f =
      subst (λ (l : Log S). TellsOpened (telling (view_of g l)) files next (running_held g (reaching g r e alike))) one
      (subst (λ n. TellsOpened (telling (view_of g r.log)) files n (running_held g (reaching g r e alike))) three
      (tells_here files point said counts (subst (λ n. RunsFrom files point n said counts (view_of g r.log)) (sym three) (subst (λ (l : Log S). RunsFrom files point next said counts (view_of g l)) (sym one) f)) none))
