-- A dump is written beside a log: it runs on, with all that it told.
use Rattle.std.specs.Prelude.{◌≢◌}
use Rattle.std.proofs.Common.{ℕ, ◌≤◌, ◌<◌, ◌≡◌, List, length, refl, sym, ◌∙◌, ap, arith}
use Rattle.dms_moments.specs.Moments.{Clock, Now, Steps}
use Rattle.dms_moments.specs.MomentLaws.{steps_weaken}
use Rattle.dms_site.specs.Files.{Files, Left}
use Rattle.dms_history.specs.Entries.{Entry}
use Rattle.dms_audfile.specs.Sealing.{IsWrittenUpTo}
use Rattle.dms_audfile.proofs.Growing.{writes_same}
use Rattle.dms_restore.specs.Logging as logs
use Rattle.dms_restore.specs.Logging.{LogView, view, telling, state, waits, points, LogRuns, LogStays, LogGrows, LogsNothing, LeavesTrail}
use Rattle.dms_restore.specs.GrowLaws.{few_none}
use Rattle.dms_restore.proofs.Logs as lemmas
use Rattle.dms_restore.proofs.Logs.{ReadsNow}
use Rattle.dms_running.specs.Beside.{StaysDatabase}
use Rattle.dms_running.proofs.Beside as beside
use Rattle.dms_online.proofs.Trails.{dump_stays, trail_stays}

-- a stop leaves all files but the dump's as they were, and no other text
pub record WritesDump (dump : ℕ) (old new : Left) : Type 0 where
  pub others : (g : ℕ) → g ≢ dump → new.files g ≡ old.files g
  pub said : new.said ≡ old.said

module _ (v : LogView) (r : LogRuns v) (read : ReadsNow v) (dump : ℕ) (above : 20000 < dump) (below : dump ≤ 30000) (files : Files) (later : Clock Left) (others : (g : ℕ) → g ≢ dump → files g ≡ v.files g) (steps : Steps (WritesDump dump) v.clock later) where
  abbrev pub now : LogView
  now = view v.end v.first files later

  writes_at : (y : Left) → Now v.clock y → IsWrittenUpTo v.end.total v.end.tag v.first v.end.file v.end.count y.files
  writes_at y was = writes_same v.end.total v.end.tag v.first v.end.file v.end.count v.files y.files r.ends.writes (λ g from upto. r.ends.settled g from upto y was)

  step_stays : (y x : Left) → Now v.clock y → WritesDump dump y x → StaysDatabase (telling v) y.files x.files
  step_stays y x was step = dump_stays v.end.total v.end.tag v.first v.end.file v.end.count dump y.files x.files r.ends.low v.end.high (writes_at y was) above below step.others

  same_stays : StaysDatabase (telling v) v.files files
  same_stays = dump_stays v.end.total v.end.tag v.first v.end.file v.end.count dump v.files files r.ends.low v.end.high r.ends.writes above below others

  beside_steps : Steps (beside.WritesBeside (telling v)) v.clock later
  beside_steps = steps_weaken steps step_stays

  -- it runs on
  pub dumped_runs : LogRuns now
  dumped_runs = record {
    ends = record {
      low = r.ends.low;
      writes = writes_same v.end.total v.end.tag v.first v.end.file v.end.count v.files files r.ends.writes (λ g from upto. others g (λ is. omega (arith, is, upto, v.end.high, above)));
      settled = λ g from upto x now. let y = steps.follows x now in
          let not_dump : g ≢ dump = λ is. omega (arith, is, upto, v.end.high, above) in
          y.2.others g not_dump ∙ r.ends.settled g from upto y.0 y.1 ∙ sym (others g not_dump);
      waits = r.ends.waits;
      kind = r.ends.kind;
    };
    runs = beside.beside_runs (telling v) (lemmas.tells v r read) (state v) r.runs read (state now) refl same_stays beside_steps;
  }

  -- at each moment a stop leaves all points
  pub dumped_leaves : logs.LogLeaves v now (points v) (logs.next v)
  dumped_leaves = beside.beside_leaves (telling v) (lemmas.tells v r read) (state v) r.runs read later beside_steps

  pub dumped_silent : Steps logs.PrintsNothing v.clock later
  dumped_silent = steps_weaken steps (λ y x was step. step.said)

  -- entries, points, next number, content and blocks are the same
  pub dumped_nothing : ReadsNow now → LogsNothing v now
  dumped_nothing reads = record {
    entries_same = beside.beside_entries (telling v) (lemmas.tells v r read) (state v) r.runs read (state now) refl same_stays;
    points_same = beside.beside_points (telling v) (lemmas.tells v r read) (state v) r.runs read (state now) refl same_stays beside_steps reads;
    next_same = beside.beside_next (telling v) (lemmas.tells v r read) (state v) r.runs read (state now) refl same_stays;
    content_same = beside.beside_content (telling v) (lemmas.tells v r read) (state v) r.runs read (state now) refl same_stays;
    blocks_same = same_stays.blocks_same;
    durable_kept = omega (arith, beside.beside_durable (telling v) (lemmas.tells v r read) (state v) r.runs read (state now) refl same_stays beside_steps reads);
  }

  -- the trail stays
  pub dumped_stays : LogStays v now
  dumped_stays = record {
    kept = trail_stays v.end.total v.end.tag v.first v.end.file v.end.count dump v.files files r.ends.low v.end.high r.ends.writes above below others;
    left = steps_weaken steps (λ y x was step. record {
      kept = trail_stays v.end.total v.end.tag v.first v.end.file v.end.count dump y.files x.files r.ends.low v.end.high (writes_at y was) above below step.others;
      below = λ g from upto. step.others g (λ is. omega (arith, is, upto, r.ends.writes.order, v.end.high, above));
    });
  }

  pub dumped_grows : LogGrows 0 v now
  dumped_grows = record { stays = dumped_stays; few = omega (arith, ap (λ (l : List Entry). length l) same_stays.entries_same, few_none v) }
