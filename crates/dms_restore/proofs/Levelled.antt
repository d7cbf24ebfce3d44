-- A control point that makes a point.
use Rattle.std.proofs.Common.{ℕ, ◌-◌, ◌+◌, ◌/◌, ◌^◌, ◌<◌, ◌≤◌, ◌≡◌, List, [], ◌∷◌, ◌++◌, length, length-append, refl, sym, ◌∙◌, ap, subst, arith}
use Rattle.dms_moments.specs.Moments.{Clock, Runs}
use Rattle.dms_site.specs.Files.{Left}
use Rattle.dms_history.specs.Entries.{Entry, control_point}
use Rattle.dms_history.specs.Schemas.{schema_entries}
use Rattle.dms_history.specs.SchemaAt.{join_parts}
use Rattle.dms_audrec.specs.Reading.{counts_at}
use Rattle.dms_running.specs.Telling.{Telling, IsTelling}
use Rattle.dms_running.specs.Points.{DescribedPoint, points_of, next_in}
use Rattle.dms_running.specs.Plans.{Planned}
use Rattle.dms_running.specs.Running.{entries_now, content_now, points_now, next_now, LeavesPoints}
use Rattle.dms_running.specs.Levels.{IsLevel}
use Rattle.dms_running.proofs.Stopped.{blocks_same}
use Rattle.dms_running.proofs.Levelled.{level_adds, level_leaves, level_rises, level_runs, level_same}
use Rattle.dms_restore.specs.Logging.{telling_of, waits, LogView, telling, state, LogRuns, points, next}
use Rattle.dms_restore.specs.Laying.{schema_control, IsAtStart, SealsSince}
use Rattle.dms_restore.specs.Levels.{LevelBy, levelled, LevelledAt}
use Rattle.dms_restore.proofs.Endings.{all_next, all_points, by_runs, starts_of, then_entries}
use Rattle.dms_restore.proofs.Laid.{joined_bodies, some_bodies}
use Rattle.dms_restore.proofs.Logs.{ReadsNow}
use Rattle.dms_restore.proofs.Trails.{first_low, is_telling, waits_is}

module _ (a : LogView) (r : LogRuns a) (read : ReadsNow a) (description : List ℕ) (some : 0 < length description) (number : ℕ) (low : number + 1 < 2 ^ 64) (counts : List ℕ) (c : LevelBy a number counts) where
  tells_running : IsTelling (telling a)
  tells_running = is_telling a.end.total a.first (first_low a.end a.first (waits a.end) a.files a.clock r.ends)

  abbrev pub levels : List Entry
  levels = schema_control description number (number + 1) counts

  number_in : number ≡ next_in (telling a) a.files
  number_in = c.number_is ∙ all_next (telling a) (state a) c.nothing

  small : next_in (telling a) a.files < 2 ^ 64 - 1
  small = omega (arith, low, number_in)

  levels_are : IsLevel (telling a) (state a) description (counts_at (length counts / 8) counts) levels
  levels_are =
      let b = some_bodies description some in record {
        first = b.0;
        rest = b.1;
        joined = ap join_parts (sym b.2) ∙ joined_bodies description;
        is = λ i. schema_entries (b.2 i) ++ control_point (number_in i) (number_in i + 1) (counts_at (length counts / 8) counts) ∷ [];
      }

  pub level_starts : IsAtStart a.end a.first a.files a.clock
  level_starts = starts_of a r.ends c.nothing c.only

  pub level_leave : (later : Clock Left) → Runs a.clock later (Planned (telling a) levels a.files) → LeavesPoints (telling a) (points a ++ levelled a description ∷ []) (next a + 1) (state a) later
  level_leave later runs =
      subst (λ (ps : List DescribedPoint). LeavesPoints (telling a) (ps ++ levelled a description ∷ []) (next a + 1) (state a) later) (sym (all_points (telling a) (state a) c.nothing))
      (subst (λ n. LeavesPoints (telling a) (points_of (telling a) a.files ++ levelled a description ∷ []) (n + 1) (state a) later) (sym (all_next (telling a) (state a) c.nothing))
      (level_leaves (telling a) tells_running (state a) r.runs read c.nothing c.only c.written small (counts_at (length counts / 8) counts) c.count description levels levels_are later runs))

  pub level_done : (b : LogView) → b.end.total ≡ a.end.total → b.first ≡ a.first → SealsSince a.end.total b.end a.first levels a.files b.files b.clock → LevelledAt a b description levels
  level_done b kind start s =
      let nothing : waits b.end ≡ [] = waits_is b.end a.first [] b.files b.clock s.starts.ends in
      let same : telling a ≡ telling b = λ i. telling_of (sym kind i) (sym start i) in
      let all : points b ≡ points a ++ levelled a description ∷ [] = ap (λ (t : Telling). points_now t (state b)) (sym same)
      ∙ level_adds (telling a) tells_running (state a) r.runs read c.nothing c.only c.written small (counts_at (length counts / 8) counts) c.count description levels levels_are (state b) s.sealed s.above nothing in
      record {
        runs = by_runs a b kind start levels s
            (level_runs (telling a) tells_running (state a) r.runs read c.nothing c.only c.written small (counts_at (length counts / 8) counts) c.count description levels levels_are (state b) s.sealed s.above nothing
            (s.found (subst (telling a).found read.2 (r.runs.found read.0 read.1))) s.starts.only);
        entries_are = ap (λ (t : Telling). entries_now t (state b)) (sym same) ∙ then_entries (telling a) (state a) (state b) levels c.nothing nothing s.sealed;
        nothing = nothing;
        content_same = ap (λ (t : Telling). content_now t (state b)) (sym same)
            ∙ level_same (telling a) tells_running (state a) r.runs read c.nothing c.only c.written small (counts_at (length counts / 8) counts) c.count description levels levels_are (state b) s.sealed s.above nothing;
        points_are = all;
        all_durable = ap (λ (l : List DescribedPoint). length l) (sym (all_points (telling b) (state b) nothing) ∙ all) ∙ length-append (points a) (levelled a description ∷ []);
        next_is = ap (λ (t : Telling). next_now t (state b)) (sym same)
            ∙ level_rises (telling a) tells_running (state a) r.runs read c.nothing c.only c.written small (counts_at (length counts / 8) counts) c.count description levels levels_are (state b) s.sealed s.above nothing;
        blocks_same = blocks_same b.files a.files s.above;
        only = s.starts.only;
      }
