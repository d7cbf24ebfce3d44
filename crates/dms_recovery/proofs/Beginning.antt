-- Over files of a database a restore may begin, and what it leaves.
use Rattle.std.specs.Prelude.{nat_le}
use Rattle.std.proofs.Common.{ℕ, ◌≤◌, ◌≡◌, inl, inr, Bool, true, false, cond, List, [], ◌∷◌, map, refl, sym, ◌∙◌, ap, subst}
use Rattle.dms_site.specs.Files.{Files, Left, stored_of}
use Rattle.dms_history.specs.Events.{Stored}
use Rattle.dms_history.specs.Here.{here}
use Rattle.dms_history.specs.Pick.{Dumps}
use Rattle.dms_history.specs.Places.{IsLive}
use Rattle.dms_history.specs.Points.{LivePoint, live_points, up_to}
use Rattle.dms_history.specs.Copied.{IsCopiedDump}
use Rattle.dms_history.specs.Restores.{HasDump, may_hold_anything}
use Rattle.dms_history.specs.Entries.{Entry, Kind, how_of}
use Rattle.dms_history.specs.EntryEvents.{history_of, live_of, next_of}
use Rattle.dms_running.specs.AnyBegun.{BeginLeaves, points_to}
use Rattle.dms_running.specs.FromDumps.{OrderBy}
use Rattle.dms_running.specs.Points.{DescribedPoint, described_in, points_of}
use Rattle.dms_running.specs.Standing.{Stands, IsWhole}
use Rattle.dms_running.specs.Telling.{Telling, IsTelling}
use Rattle.dms_restore.specs.Begins.{BeginsAny, any_to}
use Rattle.dms_restore.specs.Logging.{LogView, telling, state}
use Rattle.dms_restore.specs.Views.{LogStarts}
use Rattle.dms_restore.proofs.Trails.{is_telling, first_low, waits_is}
use Rattle.dms_recovery.specs.Leaving.{described_to, RestoresTo}

-- the first points with their Schemas
pub map_to : (es : List Entry) (m : ℕ) (ps : List LivePoint) → map (described_in es) (up_to m ps) ≡ described_to m (map (described_in es) ps)
map_to es m [] = refl
map_to es m (p ∷ ps) = go (nat_le p.number m) (map_to es m ps)
  where
    go : (b : Bool) → map (described_in es) (up_to m ps) ≡ described_to m (map (described_in es) ps) → map (described_in es) (cond b (p ∷ up_to m ps) []) ≡ cond b (described_in es p ∷ described_to m (map (described_in es) ps)) []
    go true more = ap (λ (l : List DescribedPoint). described_in es p ∷ l) more
    go false more = refl

-- the files of a log are those of a database but for structure files
module _ (v : LogView) (u : Files) (start : LogStarts v) (same : (g : ℕ) → g ≤ 30000 → v.files g ≡ u g) (w : IsWhole (telling v) u) where
  abbrev t : Telling
  t = telling v

  pub tells_it : IsTelling (telling v)
  tells_it = is_telling v.end.total v.first (first_low v.end v.first [] v.files v.clock start.ends)

  pub entries_is : (telling v).entries v.files ≡ (telling v).entries u
  entries_is = tells_it.entries_low v.files u same

  pub dumps_is : (telling v).dumps v.files ≡ (telling v).dumps u
  dumps_is = tells_it.dumps_between v.files u (λ g up below. same g below)

  pub stands_here : Stands (telling v).first ((telling v).entries v.files) ((telling v).dumps v.files) w.base (stored_of u)
  stands_here =
      subst (λ (l : List Entry). Stands t.first l (t.dumps v.files) w.base (stored_of u)) (sym entries_is)
      (subst (λ (d : Dumps). Stands t.first (t.entries u) d w.base (stored_of u)) (sym dumps_is) w.stands)

  abbrev counted : Stored
  counted = here (t.dumps v.files) (history_of (t.entries v.files)) (stored_of u)

  pub counted_is : here ((telling v).dumps v.files) (history_of ((telling v).entries v.files)) (stored_of u) ≡ here ((telling v).dumps u) (history_of ((telling v).entries u)) (stored_of u)
  counted_is = λ i. here (dumps_is i) (history_of (entries_is i)) (stored_of u)

  -- a dump that was copied from it was copied from what these files tell
  pub copied_dump : (d : ℕ) → IsCopiedDump ((telling v).dumps u d) (live_of ((telling v).entries u)) (here ((telling v).dumps u) (history_of ((telling v).entries u)) (stored_of u))
      → IsCopiedDump ((telling v).dumps v.files d) (live_of ((telling v).entries v.files)) (here ((telling v).dumps v.files) (history_of ((telling v).entries v.files)) (stored_of u))
  copied_dump d is =
      subst (λ (x : Dumps). IsCopiedDump (x d) (live_of (t.entries v.files)) counted) (sym dumps_is)
      (subst (λ (l : List Entry). IsCopiedDump (t.dumps u d) (live_of l) counted) (sym entries_is)
      (subst (λ (c : Stored). IsCopiedDump (t.dumps u d) (live_of (t.entries u)) c) (sym counted_is) is))

  -- its points up to one of them
  pub points_is : (m : ℕ) → points_to (telling v) (state v) (stored_of u) m ≡ described_to m (points_of (telling v) u)
  points_is m =
      (λ i. map (described_in (entries_is i)) (up_to m (live_points (live_of (entries_is i)) (here (dumps_is i) (history_of (entries_is i)) (stored_of u)))))
      ∙ map_to (t.entries u) m (live_points (live_of (t.entries u)) (here (t.dumps u) (history_of (t.entries u)) (stored_of u)))

  -- a restore may begin
  pub begins_any : (m : ℕ) (kind : Kind) → IsLive (live_of ((telling v).entries v.files)) m
      → ((f b : ℕ) → may_hold_anything (how_of kind) f b ≡ false → stored_of v.files f b ≡ here ((telling v).dumps u) (history_of ((telling v).entries u)) (stored_of u) f b)
      → HasDump (how_of kind) ((telling v).dumps v.files) (live_of ((telling v).entries v.files)) (here ((telling v).dumps v.files) (history_of ((telling v).entries v.files)) (stored_of u)) m
      → OrderBy ((telling v).dump_found v.files) ((telling v).dumps v.files) (any_to v m kind) (how_of kind) → BeginsAny v (stored_of u) m kind
  begins_any m kind lives blocks dump order = record {
    starts = start;
    from = record {
      base = w.base;
      nothing = waits_is v.end v.first [] v.files v.clock start.ends;
      only = start.only;
      found = tells_it.found_low v.files u same w.found;
      stands = stands_here;
      ready = record {
        sound = stands_here.kept.steady.sound;
        same = λ f b off. blocks f b off ∙ sym (ap (λ (c : Stored). c f b) counted_is);
        point_lives = lives;
        dump = dump;
      };
      order = order;
    };
  }

  -- what a stop leaves of it
  pub restores_to : (m : ℕ) (x : Left) → BeginLeaves (telling v) (state v) (stored_of u) m x → RestoresTo (telling v) v.files u m x
  restores_to m x leaves = elim leaves [
    | inl untouched ↦ inl untouched
    | inr begun ↦ inr (record { whole = begun.whole; points_are = begun.points ∙ points_is m; next_same = begun.next_same ∙ ap (λ (l : List Entry). next_of l) entries_is })
  ]
