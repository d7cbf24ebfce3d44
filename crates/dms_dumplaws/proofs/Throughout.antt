-- Dumps stay what they are at each stop.
use Rattle.std.specs.Prelude.{◌≢◌}
use Rattle.std.proofs.Common.{ℕ, ◌+◌, ◌≤◌, ◌≡◌, ◌⊎◌, inl, inr, ⊎_elim, IsTrue, List, map, Option, refl, sym, ◌∙◌, ap, arith}
use Rattle.dms_desc.specs.Shape.{Described}
use Rattle.dms_model.specs.Db.{Db}
use Rattle.dms_moments.specs.Moments.{After, Now, Runs, Steps}
use Rattle.dms_moments.specs.MomentLaws.{runs_weaken, steps_weaken}
use Rattle.dms_site.specs.declared.site.Site.{Ghosts}
use Rattle.dms_site.specs.declared.source.Source as source
use Rattle.dms_site.specs.Files.{Files, Left}
use Rattle.dms_history.specs.Entries.{Entry}
use Rattle.dms_audfile.specs.Header.{tag_said}
use Rattle.dms_audfile.specs.ScanLaws.{IsFoundWith}
use Rattle.dms_audfile.specs.Scanning.{place_in}
use Rattle.dms_audfile.specs.TrailLaws.{IsWritersTrail}
use Rattle.dms_audfile.proofs.Kept.{found_is_kept}
use Rattle.dms_audfile.proofs.There.{span_first}
use Rattle.dms_restore.specs.Dumped.{dumps_of}
use Rattle.dms_restore.specs.Logging.{LeavesTrail}
use Rattle.dms_opening.specs.Openings.{IsTrailFound}
use Rattle.dms_recovery.specs.Rows.{named_blocks}
use Rattle.dms_run.specs.SamePoint.{LivesIn}
use Rattle.dms_run.specs.State.{StateAt, StateOf}
use Rattle.dms_statelaws.specs.Dumps.{SameBesideBlocks}
use Rattle.dms_statelaws.specs.DumpsStay.{DumpStays}
use Rattle.dms_statelaws.specs.Pending.{GoesFirst}
use Rattle.dms_statelaws.specs.Standing.{HoldsStill, KeepsPointsTo, NoneLater, StandsFrom}
use Rattle.dms_statelaws.specs.Statements.{MendedState, RebuiltState}
use Rattle.dms_statelaws.proofs.DumpsKept.{dumps_stay}
use Rattle.dms_statelaws.proofs.Kept.{none_later}
use Rattle.dms_statelaws.proofs.Statements as states
use Rattle.dms_statelaws.proofs.Trails.{trail_same_files}
use Rattle.dms_statements.specs.declared.statement.NamedRow.{NamedRow}
use Rattle.dms_status.specs.declared.status.Status.{Status}
use Rattle.dms_run.specs.Opens.{DatabaseState}
use Rattle.dms_guard.specs.Guard.{IsBeside, LeavesBeside, StaysBut}
use Rattle.dms_guard.specs.GuardLaws.{all_structures}
use Rattle.dms_runtop.specs.RunDoes.{RunDoes}
use Rattle.dms_dumping.specs.DumpDoes.{DumpDoes, LeavesBesideDump}
use Rattle.dms_dumping.proofs.Dumped.{both_runs}
use Rattle.dms_goback.specs.RebuildDoes.{RebuildDoes}
use Rattle.dms_goback.specs.ReconstructDoes.{ReconstructDoes}
use Rattle.dms_goback.specs.RollbackDoes.{RollbackDoes}
use Rattle.dms_dumplaws.specs.Keeping.{DumpKeepsDumps, HasDurableDump, RebuildKeepsDumps, ReconstructKeepsDumps, RollbackKeepsDumps, RunKeepsDumps}

-- scanning finds one trail, which begins with one file
first_is_one : (files : Files) (xs ys : List Entry) (a : IsFoundWith xs files) (b : IsFoundWith ys files) → a.trail.first ≡ b.trail.first
first_is_one files xs ys a b =
    let s = a.trail in
    let t = b.trail in
    omega (arith, span_first files s.first s.last t.first t.last s.span t.span, span_first files t.first t.last s.first s.last t.span s.span)

-- the file of dump d is as it was
abbrev SameDump : ℕ → Left → Left → Type 0
SameDump d old new = new.files (20000 + d) ≡ old.files (20000 + d)

-- at each stop that leaves the trail, that file, and the points
module _ {S : Type 0} (g : Ghosts S) (old new : S) (u : Files) (d : ℕ) (durable : HasDurableDump g u d old) (same : (f : ℕ) → f ≤ 20000 → g.files old f ≡ u f)
    (left : (total first : ℕ) → IsTrailFound total first (g.files old) → Steps (LeavesTrail total first) (g.clock old) (g.clock new)) (alone : Steps (SameDump d) (g.clock old) (g.clock new)) where
  abbrev found : IsFoundWith durable.has.entries u
  found = durable.has.finds

  abbrev first : ℕ
  first = found.trail.first

  writers : IsWritersTrail first found.trail.last u
  writers = found_is_kept first found.trail.last u found.placed found.trail.span.order found.trail.is

  trail : IsTrailFound writers.total first (g.files old)
  trail = trail_same_files writers.total first u (g.files old) (record {
    places = map place_in found.placed;
    found = record { entries = found.placed; places_are = refl; trail = found.trail; first_is = refl };
    tag = writers.tag;
    file = writers.file;
    count = writers.count;
    writes = writers.writes;
  }) same

  -- a stop leaves the trail and that file
  record Keeps (x : Left) : Type 0 where
    trail_kept : After (g.clock old) (LeavesTrail writers.total first) x
    file_kept : After (g.clock old) (SameDump d) x

  kept : Runs (g.clock old) (g.clock new) Keeps
  kept = both_runs (left writers.total first trail).runs alone.runs (λ x t f. record { trail_kept = t; file_kept = f })

  module _ (n : ℕ) (low : (dumps_of u d).end ≤ n) where
    stays_at : (x : Left) → Keeps x → KeepsPointsTo n u x.files → DumpStays d u x.files
    stays_at x keeps points =
        let tagged = keeps.trail_kept in
        let dumped = keeps.file_kept in
        let has = durable.has in
        let p = points (dumps_of u d).end low (record { entries = has.entries; finds = has.finds; lives = has.is_copied.end_lives }) in
        dumps_stay n d u x.files (record {
          points = points;
          tag = λ t is. record {
            entries = p.now.entries;
            finds = p.now.finds;
            is = ap (λ (f : ℕ). tag_said (x.files f)) (p.first_same ∙ first_is_one u p.then.entries has.entries p.then.finds has.finds) ∙ tagged.2.kept.tag ∙ durable.tag tagged.0 tagged.1 ∙ has.tag_is
                ∙ ap (λ (f : ℕ). tag_said (u f)) (first_is_one u has.entries is.entries has.finds is.finds) ∙ is.is;
          };
          file = dumped.2 ∙ durable.file dumped.0 dumped.1;
        }) low

    pub stays_or : (Q : Left → Type 0) → Runs (g.clock old) (g.clock new) (λ x. Q x ⊎ KeepsPointsTo n u x.files) → Runs (g.clock old) (g.clock new) (λ x. Q x ⊎ DumpStays d u x.files)
    stays_or Q points = both_runs kept points (λ x keeps p. ⊎_elim (λ q. inl q) (λ k. inr (stays_at x keeps k)) p)

    pub stays_throughout : Runs (g.clock old) (g.clock new) (λ x. KeepsPointsTo n u x.files) → Runs (g.clock old) (g.clock new) (λ x. DumpStays d u x.files)
    stays_throughout points = both_runs kept points (λ x keeps p. stays_at x keeps p)

-- ---- the file of a dump

dump_beside : (d : ℕ) → 1 ≤ d → d ≤ 9999 → IsBeside 200 (20000 + d)
dump_beside d some few = inr (inl (omega (arith, some), omega (arith, few)))

module _ {S : Type 0} (g : Ghosts S) (old new : S) (d : ℕ) (some : 1 ≤ d) (few : d ≤ 9999) where
  alone_of : StaysBut g 200 old new → Steps (SameDump d) (g.clock old) (g.clock new)
  alone_of beside = steps_weaken beside.left (λ y x now keeps. keeps (20000 + d) (dump_beside d some few))

-- ---- a dump of files that stand for a state ends at their last point or before it

live_low : (files : Files) (n : ℕ) (desc : Described) (db : Db) → StateOf files n desc db → (m : ℕ) → LivesIn files m → m ≤ n
live_low files n desc db s m lives = none_later (states.total files n desc db s.at_point) (states.first files n desc db s.at_point) files (states.state_whole files n desc db s.at_point) n desc db s m lives

-- ---- each of them

module _ {S : Type 0} (g : Ghosts S) (old new : S) where
  pub run_keeps : {I : Type 0} (i : source.Ghosts I) → RunKeepsDumps g i old new
  run_keeps i state from to status does tells s is next has_next all left_is d durable =
      stays_throughout g old new (g.files old) d durable (λ f le. refl) (does.trail tells s is).left (alone_of g old new d durable.has.some durable.has.few (does.beside 200 (all_structures g.tells (g.files old)))) (dumps_of (g.files old) d).end (omega arith)
      (runs_weaken (does.stands tells s is next has_next all left_is) (λ x r m le lives. r.keeps m lives))

  pub dump_keeps : DumpKeepsDumps g old new
  dump_keeps e status does tells s is d other durable =
      let has = durable.has in
      let low = live_low (g.files old) s.point s.desc s.db is (dumps_of (g.files old) d).end (record { entries = has.entries; finds = has.finds; lives = has.is_copied.end_lives }) in
      stays_throughout g old new (g.files old) d durable (λ f le. refl) (does.trail tells s is).left
      (steps_weaken ((does.beside 200 (all_structures g.tells (g.files old))).left tells) (λ y x now keeps. keeps (20000 + d) (dump_beside d has.some has.few) (λ at. other (omega (arith, at)))))
      s.point low (runs_weaken (does.every_moment tells s.point s.desc s.db is) (λ x r. r.keeps))

  pub rollback_keeps : RollbackKeepsDumps g old new
  rollback_keeps m status does tells n desc db desc' db' s at d low durable =
      let below : m ≤ n = live_low (g.files old) n desc db s m (record { entries = at.entries; finds = at.finds; lives = at.lives }) in
      stays_throughout g old new (g.files old) d durable (λ f le. refl) (does.trail tells).left (alone_of g old new d durable.has.some durable.has.few (does.beside 200 (inl (omega arith)))) m low
      (runs_weaken (does.every_moment tells n desc db desc' db' s at) (λ x. ⊎_elim (λ r j le lives. r.keeps j (omega (arith, le, below)) lives) (λ r. r.keeps)))

  pub rebuild_keeps : RebuildKeepsDumps g old new
  rebuild_keeps e chosen status does tells u m desc db rebuilt d low durable =
      stays_or g old new u d durable (λ f le. rebuilt.same f (omega (arith, le))) (does.trail tells).left (alone_of g old new d durable.has.some durable.has.few (does.beside 200 (inl (omega arith)))) m low
      (λ x. HoldsStill (g.files old) x.files)
      (runs_weaken (does.every_moment tells u m desc db rebuilt) (λ x. ⊎_elim (λ still. inl still) (λ r. inr r.keeps)))

  pub reconstruct_keeps : ReconstructKeepsDumps g old new
  reconstruct_keeps e rows status does tells u n desc db mended d durable =
      let has = durable.has in
      let low = live_low u n desc db mended.state (dumps_of u d).end (record { entries = has.entries; finds = has.finds; lives = has.is_copied.end_lives }) in
      stays_or g old new u d durable (λ f le. mended.same.files_same f (omega (arith, le))) (does.trail tells).left (alone_of g old new d has.some has.few (does.beside 200 (inl (omega arith)))) n low
      (λ x. HoldsStill (g.files old) x.files ⊎ GoesFirst (named_blocks desc.structures rows) u n desc db x.files)
      (runs_weaken (does.every_moment tells u n desc db mended) (λ x. ⊎_elim (⊎_elim (λ still. inl (inl still)) (λ r. inr r.keeps)) (λ first. inl (inr first))))
