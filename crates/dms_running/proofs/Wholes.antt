-- Files that hold a database, and agreement.
use Rattle.std.proofs.Common.{ℕ, ◌<◌, ◌≡◌, inl, inr, true, false, Some, sym, ◌∙◌}
use Rattle.std.proofs.lemmas.Bool.{cases_lt}
use Rattle.dms_site.specs.Files.{Files, stored_of}
use Rattle.dms_history.specs.Events.{AllBlocks}
use Rattle.dms_history.specs.Lists.{has}
use Rattle.dms_history.specs.Places.{is_described, is_point, IsLive}
use Rattle.dms_history.specs.History.{Pending}
use Rattle.dms_history.specs.Kept.{content_told, Kept}
use Rattle.dms_history.specs.Sizes.{AllSized, ImagesSized}
use Rattle.dms_history.specs.Base.{from_control}
use Rattle.dms_history.specs.EntryEvents.{history_of, live_of, Agrees}
use Rattle.dms_history.proofs.Keeping.{kept_agrees, agrees_kept}
use Rattle.dms_history.proofs.Given.{described_control}
use Rattle.dms_history.proofs.Running.{above_all}
use Rattle.dms_history.proofs.Sizing.{sized_base}
use Rattle.dms_running.specs.FromDumps.{DumpsInOrder}
use Rattle.dms_running.specs.Telling.{Telling}
use Rattle.dms_running.specs.Standing.{IsWhole}
use Rattle.dms_running.specs.Points.{next_in}
use Rattle.dms_running.specs.Laws.{StandsAgrees, AgreesStands, RunsImage, RunsRange, RunsQuiet, RunsWrites, BeginKeepsAll}
use Rattle.dms_running.proofs.MayRun.{may_image, content_image, may_range, content_range, may_quiet, content_quiet, may_write}
use Rattle.dms_running.proofs.Beginning.{begin_stands, begin_points, begin_next}

pub stands_agrees : StandsAgrees
stands_agrees first es dumps base stored s = kept_agrees first es dumps base stored s.kept

-- so do files that hold a database
pub whole_agrees : (t : Telling) (files : Files) → IsWhole t files → Agrees t.first (t.entries files) (t.dumps files) (stored_of files)
whole_agrees t files w = stands_agrees t.first (t.entries files) (t.dumps files) w.base (stored_of files) w.stands

-- a point that has its place in them is below the next number
pub point_below : (t : Telling) (files : Files) (n : ℕ) → IsWhole t files → has (is_point n) (live_of (t.entries files)) ≡ true → n < next_in t files
point_below t files n w found = elim (cases_lt n (next_in t files)) [
  | inl less ↦ less
  | inr not ↦ absurd (true_not_false (sym found ∙ above_all (live_of (t.entries files)) (next_in t files) n w.stands.kept.numbered not))
]
  where
    true_not_false : true ≡ false → ⊥
    true_not_false e = absurd cc

pub agrees_stands : AgreesStands
agrees_stands first es dumps stored agrees described lives images sized =
    let over = agrees_kept first es dumps stored agrees (described_control (live_of es) described) lives in (
      over.base,
      record {
        kept = over.kept;
        described = described;
        base_sized = sized_base (from_control (live_of es)) over.base over.kept.steady.sound.chain (sized over.base over.kept) images;
        images_sized = images;
      },
    )

-- files in which scanning finds the entries hold a database where these agree so
pub agrees_whole : (t : Telling) (files : Files) → t.found files → Agrees t.first (t.entries files) (t.dumps files) (stored_of files) → has is_described (live_of (t.entries files)) ≡ true
    → ((p : Pending) → (history_of (t.entries files)).pending ≡ Some p → IsLive (live_of (t.entries files)) p.point) → ImagesSized (from_control (live_of (t.entries files)))
    → ((base : AllBlocks) → Kept t.first (t.entries files) (t.dumps files) base (stored_of files) → AllSized (content_told (t.entries files) base)) → DumpsInOrder (t.dump_found files) (t.dumps files) (history_of (t.entries files)).pending → IsWhole t files
agrees_whole t files found agrees described lives images sized order =
    let over = agrees_stands t.first (t.entries files) (t.dumps files) (stored_of files) agrees described lives images sized in
    record { found = found; base = over.0; stands = over.1; order = order }

pub runs_image : RunsImage
runs_image first es dumps base stored f b before after m tells sized = (may_image first es dumps base stored m f b before after tells sized, content_image first es dumps base stored m f b before after tells sized)

pub runs_range : RunsRange
runs_range first es dumps base stored f b place bytes m itself within = (may_range first es dumps base stored m f b place bytes itself within, content_range first es dumps base stored m f b place bytes itself within)

pub runs_quiet : RunsQuiet
runs_quiet first es dumps base stored n m free low = (may_quiet first es dumps base stored m n free low, content_quiet first es dumps base stored m n free low)

pub runs_writes : RunsWrites
runs_writes first es dumps base stored written m same = may_write first es dumps base stored m written same

pub begin_keeps_all : BeginKeepsAll
begin_keeps_all first es dumps base stored m kind run by_audit at last =
    (begin_stands first es dumps base stored run m kind by_audit at, begin_points first es dumps base stored run m kind by_audit at last, begin_next first es dumps base stored run m kind by_audit at)
