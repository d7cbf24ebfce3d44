-- A restore goes on to its Control.
use Rattle.std.proofs.Common.{ℕ, ◌<◌, ◌≡◌, List, ◌++◌, length, sym, ◌∙◌, ap, subst, arith}
use Rattle.dms_moments.specs.Moments.{Clock, Runs}
use Rattle.dms_moments.specs.MomentLaws.{runs_on}
use Rattle.dms_site.specs.Files.{Left, stored_of}
use Rattle.dms_history.specs.Events.{AllBlocks, block_in}
use Rattle.dms_history.specs.History.{Pending}
use Rattle.dms_history.specs.Pick.{count_at}
use Rattle.dms_history.specs.Here.{outcome, here_by}
use Rattle.dms_history.specs.Entries.{Entry}
use Rattle.dms_history.proofs.Base.{content_length}
use Rattle.dms_history.proofs.Order.{append_none}
use Rattle.dms_running.specs.Telling.{Telling}
use Rattle.dms_running.specs.Points.{DescribedPoint, points_of, next_in, LeavesPointsPrefix}
use Rattle.dms_running.specs.Begun.{LeavesAll, outcome_now}
use Rattle.dms_restore.specs.Logging.{LogView, telling, state}
use Rattle.dms_restore.specs.Begins.{BegunAt, RestoredAt, Restores, LeavesEach}
use Rattle.dms_restore.specs.Endings.{EndsBy, EndedAt}
use Rattle.dms_opening.specs.Starts.{MayGoOn, OpenedAt}
use Rattle.dms_restore.specs.declared.restore_table.RestoreTable.{RestoreTable}

-- all points of one state are all points of another that has the same
pub each_as : (a b : LogView) (later : Clock Left) → telling b ≡ telling a → points_of (telling b) b.files ≡ points_of (telling a) a.files → next_in (telling b) b.files ≡ next_in (telling a) a.files → LeavesAll (telling b) (state b) later
    → Runs b.clock later (LeavesPointsPrefix (telling a) (points_of (telling a) a.files) (length (points_of (telling a) a.files)) (next_in (telling a) a.files))
each_as a b later same points next leaves =
    subst (λ n. Runs b.clock later (LeavesPointsPrefix (telling a) (points_of (telling a) a.files) (length (points_of (telling a) a.files)) n)) next
    (subst (λ (l : List DescribedPoint). Runs b.clock later (LeavesPointsPrefix (telling a) l (length l) (next_in (telling b) b.files))) points
    (subst (λ (t : Telling). Runs b.clock later (LeavesPointsPrefix t (points_of (telling b) b.files) (length (points_of (telling b) b.files)) (next_in (telling b) b.files))) same leaves))

pub each_on : (a b : LogView) (later : Clock Left) → telling b ≡ telling a → points_of (telling b) b.files ≡ points_of (telling a) a.files → next_in (telling b) b.files ≡ next_in (telling a) a.files → LeavesEach a b
    → LeavesAll (telling b) (state b) later → LeavesAll (telling a) (state a) later
each_on a b later same points next first then_leaves = runs_on first (each_as a b later same points next then_leaves) (λ x left. left)

outcome_size : (t : Telling) (p : Pending) (b : LogView) (f : ℕ) → length (outcome_now t p (state b) f) ≡ count_at p.entries p.point f
unfolding outcome
outcome_size t p b f = content_length (count_at p.entries p.point) _ f

module _ (p : Pending) (a b : LogView) (table : RestoreTable) (point next : ℕ) (counts : List ℕ) (m : MayGoOn p a table point next counts) (begun : BegunAt p b) (restored : RestoredAt p b) (keeps : Restores p a b) where
  pub ends_by : EndsBy p b point next counts
  ends_by = record { begun = begun; restored = restored; point_is = m.point_is; next_is = m.next_is ∙ sym keeps.next_same; count = m.count }

  pub opened : (telling b).entries b.files ≡ (telling a).entries a.files → (c : LogView) (es : List Entry) → EndedAt p b c es → OpenedAt p a c es
  opened entries_same c es e = record {
    runs = e.runs;
    entries_are = e.entries_are ∙ ap (λ (l : List Entry). l ++ es) (ap (λ (l : List Entry). (telling b).entries b.files ++ l) begun.begun.nothing ∙ append_none ((telling b).entries b.files) ∙ entries_same);
    nothing = e.nothing;
    content_is = e.content_is ∙ keeps.outcome_same;
    points_same = e.points_same ∙ keeps.points_same;
    all_durable = e.all_durable ∙ ap length keeps.points_same;
    next_same = e.next_same ∙ keeps.next_same;
    written = λ f k low.
        let under : k < count_at p.entries p.point f = omega (arith, low, ap (λ (x : AllBlocks). length (x f)) e.content_is, outcome_size (telling b) p b f) in
        ap (λ s. s f k) e.blocks_same ∙ restored.restored f k under
        ∙ ap (λ o. here_by o ((telling b).dumps b.files) (stored_of b.files) f k) begun.begun.pending
        ∙ ap (λ (x : AllBlocks). block_in x f k) (sym e.content_is);
    only = e.only;
  }
