-- What a stop leaves of a restore to a point, as states that files stand for.
use Rattle.std.proofs.Common.{ℕ, inl, inr, ⊎_elim, List, sym, subst, arith}
use Rattle.dms_desc.specs.Shape.{Described}
use Rattle.dms_model.specs.Db.{Db}
use Rattle.dms_moments.specs.Moments.{Clock, Runs}
use Rattle.dms_moments.specs.MomentLaws.{runs_weaken}
use Rattle.dms_site.specs.Files.{Files, Left, stored_of}
use Rattle.dms_history.specs.Here.{here}
use Rattle.dms_history.specs.Copied.{IsCopiedDump}
use Rattle.dms_history.specs.Entries.{Entry}
use Rattle.dms_history.specs.EntryEvents.{history_of, live_of}
use Rattle.dms_running.specs.Standing.{IsWhole}
use Rattle.dms_audfile.specs.TrailEntries.{trail_entries}
use Rattle.dms_restore.specs.Dumped.{dumps_of}
use Rattle.dms_restore.specs.Finding.{IsFoundFrom}
use Rattle.dms_restore.specs.Logging.{telling_of}
use Rattle.dms_opening.specs.Openings.{IsTrailFound}
use Rattle.dms_run.specs.State.{StateAt, StateOf}
use Rattle.dms_run.proofs.Lives.{one_found}
use Rattle.dms_statelaws.specs.Dumps.{SameBesideBlocks, HasCopiedDump}
use Rattle.dms_statelaws.specs.Laws.{StatesAreWhole, PointsStand, UntouchedStays, StatesAreRebuilt}
use Rattle.dms_recovery.specs.Leaving.{RollsTo, IsRebuiltFrom}
use Rattle.dms_statelaws.specs.Stopping.{RestoresTo}
use Rattle.dms_statelaws.specs.Statements.{LeavesEither, LeavesRestored}
use Rattle.dms_statelaws.proofs.Stays.{untouched_still}
use Rattle.dms_statelaws.proofs.Kept.{is_whole, up_to_stands, all_stands}
use Rattle.dms_statelaws.proofs.Trails.{trail_same_files}

pub states_are_whole : StatesAreWhole
states_are_whole total first files n desc db trail a = is_whole total first files n desc db trail a

pub points_stand : PointsStand
points_stand = record {
  up_to = λ total first old m desc db new w at h. up_to_stands total first old w m desc db at new h;
  all = λ total first old n desc db new w s h. all_stands total first old w n desc db s new h;
}

pub untouched_stays : UntouchedStays
untouched_stays = untouched_still

-- ---- a database that may be rebuilt

module _ (total first : ℕ) (files u : Files) (d n : ℕ) (desc : Described) (db : Db) (trail : IsTrailFound total first files) (same : SameBesideBlocks files u) (has : HasCopiedDump u d) (at : StateAt u n desc db) where
  pub whole_there : IsWhole (telling_of total first) u
  whole_there = is_whole total first u n desc db (trail_same_files total first files u trail (λ g low. sym (same g (omega (arith, low))))) at

  pub rebuilt : IsRebuiltFrom total first files u d
  rebuilt = record {
    same = same;
    whole = whole_there;
    copied_dump = subst (λ (l : List Entry). IsCopiedDump (dumps_of u d) (live_of l) (here (dumps_of u) (history_of l) (stored_of u))) (one_found u has.entries (trail_entries total first u) has.finds whole_there.found.finds) has.is_copied;
  }

pub states_are_rebuilt : StatesAreRebuilt
states_are_rebuilt = record {
  rebuilt = λ total first files u d n desc db trail same has at. rebuilt total first files u d n desc db trail same has at;
  mended = λ total first files u d n desc db named trail same has at. record { rebuilt = rebuilt total first files u d n desc db trail same.files_same has at; beside = same.blocks_same };
}

-- ---- with clocks

pub rolls_either : (total first : ℕ) (files : Files) (n : ℕ) (desc : Described) (db : Db) (m : ℕ) (desc' : Described) (db' : Db) (a b : Clock Left) → IsWhole (telling_of total first) files → StateOf files n desc db → StateAt files m desc' db'
    → Runs a b (RollsTo (telling_of total first) files m) → Runs a b (LeavesEither files n desc db m desc' db')
rolls_either total first files n desc db m desc' db' a b w s at runs = runs_weaken runs (λ x. ⊎_elim
    (λ same. inl (all_stands total first files w n desc db s x.files same))
    (λ cut. inr (up_to_stands total first files w m desc' db' at x.files cut)))

pub restores_state : (total first : ℕ) (files u : Files) (m : ℕ) (desc : Described) (db : Db) (a b : Clock Left) → IsFoundFrom total first files → IsWhole (telling_of total first) u → StateAt u m desc db
    → Runs a b (RestoresTo (telling_of total first) files u m) → Runs a b (LeavesRestored files u m desc db)
restores_state total first files u m desc db a b found w at runs = runs_weaken runs (λ x. ⊎_elim
    (λ un. inl (untouched_still total first files x found un.0 un.1))
    (λ cut. inr (up_to_stands total first u w m desc db at x.files cut)))
