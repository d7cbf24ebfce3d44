-- A restore ends: its Schema and Control are appended and sealed.
use Rattle.std.proofs.Common.{Option, ℕ, ◌≤◌, ◌<◌, ◌≡◌, Bool, true, List, [], ◌∷◌, ◌++◌, Some, sym, ◌∙◌, ap, subst, arith}
use Rattle.dms_moments.specs.Moments.{Clock, Runs}
use Rattle.dms_site.specs.Files.{Files, Left, Only, stored_of}
use Rattle.dms_history.specs.Events.{AllBlocks, Stored}
use Rattle.dms_history.specs.Replay.{replay}
use Rattle.dms_history.specs.Lists.{has}
use Rattle.dms_history.specs.Places.{is_point}
use Rattle.dms_history.specs.History.{Pending, History}
use Rattle.dms_history.specs.Base.{from_control}
use Rattle.dms_history.specs.Pick.{Dumps, count_at}
use Rattle.dms_history.specs.Here.{here}
use Rattle.dms_history.specs.Entries.{Entry, control_point, counts_in}
use Rattle.dms_history.specs.Schemas.{schema_entries}
use Rattle.dms_history.specs.EntryEvents.{history_of, live_of, next_of}
use Rattle.dms_history.specs.declared.event.FileCount.{FileCount}
use Rattle.dms_history.specs.Kept.{content_told, Kept}
use Rattle.dms_history.specs.LawsOfKept.{KeptTelling}
use Rattle.dms_history.proofs.Order.{append_none}
use Rattle.dms_history.proofs.Keeping.{kept_ends}
use Rattle.dms_running.specs.Telling.{Telling, IsTelling}
use Rattle.dms_running.specs.Standing.{Stands, MayRun}
use Rattle.dms_running.specs.Points.{points_told, points_of, next_in}
use Rattle.dms_running.specs.Running.{State, entries_now, content_now, points_now, IsRunning, IsAnOutcome}
use Rattle.dms_running.specs.Begun.{IsBegun, LeavesAll, IsRestored, outcome_now, IsSchemaControl}
use Rattle.dms_running.specs.FromDumps.{DumpsInOrder}
use Rattle.dms_running.proofs.Stopped.{blocks_same}
use Rattle.dms_running.proofs.Appending.{content_of}
use Rattle.dms_running.proofs.Controlled.{schema_parts, same_history, same_next, behind, kept_parts, whole_may, whole_points, part_points, part_next, part_order, part_stands}
use Rattle.dms_running.specs.Plans.{KeepsAll, Planned}
use Rattle.dms_running.proofs.Planned.{still_runs, plan_leaves}
use Rattle.dms_running.proofs.Restored.{read_stands}

module _ (first : Bool) (es : List Entry) (d : Dumps) (base : AllBlocks) (st : Stored) (p : Pending) (next : ℕ) (one : List ℕ) (rest : List (List ℕ)) (counts : List FileCount) (s : Stands first es d base st)
    (is : (history_of es).pending ≡ Some p) (carried : next_of es ≤ next) (count : (f : ℕ) → counts_in counts f ≡ count_at p.entries p.point f)
    (stand : (f b : ℕ) → b < count_at p.entries p.point f → st f b ≡ here d (history_of es) st f b) where
  abbrev pub schema : List Entry
  schema = schema_entries (one ∷ rest)

  telling_it : KeptTelling first ((es ++ schema) ++ control_point p.point next counts ∷ []) d base st (content_told (es ++ schema) base)
  telling_it = kept_ends first (es ++ schema) d base st st p next counts (kept_parts first es schema d base st (schema_parts first es d base st p.point next one rest counts) s.kept)
      (ap (λ (h : History). h.pending) (same_history first es d base st p.point next one rest counts) ∙ is)
      (omega (arith, carried, same_next first es d base st p.point next one rest counts)) count
      (λ f b low. stand f b (omega (arith, low, count f)) ∙ ap (λ (h : History). here d h st f b) (sym (same_history first es d base st p.point next one rest counts)))

  pub end_kept : Kept first (es ++ (schema ++ control_point p.point next counts ∷ [])) d base st
  end_kept = subst (λ (l : List Entry). Kept first l d base st) (behind first es d base st p.point next one rest counts) telling_it.kept

  pub end_content : content_told (es ++ (schema ++ control_point p.point next counts ∷ [])) base ≡ content_told es base
  end_content = ap (λ (l : List Entry). content_told l base) (sym (behind first es d base st p.point next one rest counts)) ∙ telling_it.tells
      ∙ ap (λ (h : History). replay (from_control h.live) base) (same_history first es d base st p.point next one rest counts)

module _ (t : Telling) (telling : IsTelling t) (p : Pending) (a : State) (r : IsBegun t p a) (read : IsAnOutcome a) (only : Only a.files a.clock) (restored : IsRestored t p a)
    (counts : List FileCount) (count : (f : ℕ) → counts_in counts f ≡ count_at p.entries p.point f) (es : List Entry) (c : IsSchemaControl t a p.point counts es) where
  abbrev pub base : AllBlocks
  base = r.base

  abbrev pub old : List Entry
  old = t.entries a.files

  s : Stands t.first old (t.dumps a.files) base (stored_of a.files)
  s = read_stands t telling p a r read

  kept : Kept t.first (old ++ (schema_entries (c.first ∷ c.rest) ++ control_point p.point (next_in t a.files) counts ∷ [])) (t.dumps a.files) base (stored_of a.files)
  kept = end_kept t.first old (t.dumps a.files) base (stored_of a.files) p (next_in t a.files) c.first c.rest counts s r.pending (omega arith) count restored

  placed : has (is_point p.point) (live_of old) ≡ true
  placed = (s.kept.steady.point_lives p r.pending).found

  keeps : KeepsAll t es a.files base
  keeps = subst (λ (l : List Entry). KeepsAll t l a.files base) (sym c.is) (record {
    points = λ k. part_points t.first old (t.dumps a.files) base (stored_of a.files) p.point (next_in t a.files) c.first c.rest counts s kept k placed;
    next = λ k. part_next t.first old (t.dumps a.files) base (stored_of a.files) p.point (next_in t a.files) c.first c.rest counts s kept k (λ i. next_in t a.files);
    stands = part_stands t.first old (t.dumps a.files) base (stored_of a.files) p.point (next_in t a.files) c.first c.rest counts s kept;
    order = λ k. part_order t.first old (t.dumps a.files) base (stored_of a.files) p.point (next_in t a.files) c.first c.rest counts s kept k (t.dump_found a.files) (t.dumps a.files)
        (subst (λ (q : Option Pending). DumpsInOrder (t.dump_found a.files) (t.dumps a.files) q) (sym r.pending) (subst (λ (l : Files). DumpsInOrder (t.dump_found l) (t.dumps l) (Some p)) read.2 (r.order read.0 read.1)));
  })

  whole : MayRun t.first (old ++ es) (t.dumps a.files) base (stored_of a.files)
  whole = subst (λ (l : List Entry). MayRun t.first (old ++ l) (t.dumps a.files) base (stored_of a.files)) (sym c.is)
      (whole_may t.first old (t.dumps a.files) base (stored_of a.files) p.point (next_in t a.files) c.first c.rest counts s kept)

  pub end_leaves : (later : Clock Left) → Runs a.clock later (Planned t es a.files) → LeavesAll t a later
  end_leaves later runs = plan_leaves t telling es a base keeps (subst t.found read.2 (r.found read.0 read.1)) only later runs

  module _ (b : State) (entries : t.entries b.files ≡ old ++ es) (above : (g : ℕ) → 20000 < g → b.files g ≡ a.files g) (empty : b.waiting ≡ []) where
    later_may : MayRun t.first (t.entries b.files) (t.dumps b.files) base (stored_of b.files)
    later_may = subst (λ (l : List Entry). MayRun t.first l (t.dumps b.files) base (stored_of b.files)) (sym entries)
        (subst (λ (d : Dumps). MayRun t.first (old ++ es) d base (stored_of b.files)) (sym (telling.dumps_between b.files a.files (λ g up below. above g up)))
        (subst (λ (st : Stored). MayRun t.first (old ++ es) (t.dumps a.files) base st) (sym (blocks_same b.files a.files above)) whole))

    now_is : entries_now t b ≡ old ++ es
    now_is = ap (λ (l : List Entry). t.entries b.files ++ l) empty ∙ append_none (t.entries b.files) ∙ entries

    pub end_runs : t.found b.files → Only b.files b.clock → IsRunning t b
    end_runs found alone = still_runs t b base found alone empty later_may

    -- the content is what the restore was to leave
    pub end_same : content_now t b ≡ outcome_now t p a
    end_same =
        content_of t b (old ++ es) (stored_of a.files) (t.dumps a.files) base now_is (blocks_same b.files a.files above) whole
        ∙ ap (λ (l : List Entry). content_told (old ++ l) base) c.is
        ∙ end_content t.first old (t.dumps a.files) base (stored_of a.files) p (next_in t a.files) c.first c.rest counts s r.pending (omega arith) count restored
        ∙ sym (s.kept.steady.restored p r.pending)

    pub end_points : points_now t b ≡ points_of t a.files
    end_points =
        (λ i. points_told (telling.dumps_between b.files a.files (λ g up below. above g up) i) (now_is i) (blocks_same b.files a.files above i))
        ∙ ap (λ (l : List Entry). points_told (t.dumps a.files) (old ++ l) (stored_of a.files)) c.is
        ∙ whole_points t.first old (t.dumps a.files) base (stored_of a.files) p.point (next_in t a.files) c.first c.rest counts s kept placed
