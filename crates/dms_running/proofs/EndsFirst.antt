-- A pending restore is finished before a reconstruction, while the named blocks hold anything.
use Rattle.std.proofs.Common.{ℕ, ◌<◌, ◌≡◌, Bool, true, false, cond, List, [], ◌∷◌, ◌++◌, map, length, Some, refl, sym, ◌∙◌, ap, subst, arith}
use Rattle.dms_site.specs.Files.{stored_of}
use Rattle.dms_site.specs.StoredLaws.{stored_whole}
use Rattle.dms_history.specs.Events.{AllBlocks, Stored, Event, control, reconstruct}
use Rattle.dms_history.specs.History.{Pending, History}
use Rattle.dms_history.specs.Pick.{Dumps, count_at}
use Rattle.dms_history.specs.Here.{here}
use Rattle.dms_history.specs.Restores.{Ready}
use Rattle.dms_history.specs.Points.{live_points}
use Rattle.dms_history.specs.Entries.{Entry, counts_in}
use Rattle.dms_history.specs.EntryEvents.{history_of, live_of}
use Rattle.dms_history.proofs.LastPending.{here_fixed}
use Rattle.dms_history.proofs.Stops.{outcome_length, ends_first, pending_writes_first}
use Rattle.dms_running.specs.Standing.{Stands}
use Rattle.dms_running.specs.Points.{described_in, points_told}
use Rattle.dms_running.specs.ByHow.{IsKeptBy}
use Rattle.dms_running.specs.FirstLaws.{as_counted, AnyWritesFirst, first_plan, AnyEndsFirst}
use Rattle.dms_running.proofs.AnyRestore.{kept_whole}
use Rattle.dms_running.proofs.Controlled.{part_stands, part_points, whole_is}
use Rattle.dms_running.proofs.Ending.{end_kept}

-- points depend on what counts alone
same_points : (first : Bool) (es : List Entry) (d : Dumps) (base : AllBlocks) (p : Pending) (one two : Stored) → (history_of es).pending ≡ Some p → Stands first es d base one → Stands first es d base two → points_told d es one ≡ points_told d es two
same_points first es d base p one two is a b = ap (λ (c : Stored). map (described_in es) (live_points (live_of es) c)) (here_fixed d (history_of es) base one two p is a.kept.steady b.kept.steady)

pub any_writes_first : AnyWritesFirst
any_writes_first first es d base p named right x y is s beside step =
    let written = pending_writes_first d (history_of es) base right (stored_of x) (stored_of y) p named is s.kept.steady beside (λ f b off low takes.
    let kept : IsKeptBy p.how p.entries p.point f b = (low, takes) in
    let whole : length (stored_of x f b) ≡ 1024 = ap length (beside f b off) ∙ kept_whole first es d base p is right s f b kept in
    step.kept f b (kept, off) (stored_whole x f b whole).1) in
    let later : Stands first es d base (as_counted d es named right y) = record {
      kept = record {
        steady = written.steady;
        opened = s.kept.opened;
        numbered = s.kept.numbered;
        alone = s.kept.alone;
        images = s.kept.images;
        empty = s.kept.empty;
      };
      described = s.described;
      base_sized = s.base_sized;
      images_sized = s.images_sized;
    } in
    record { stands = later; points = same_points first es d base p (as_counted d es named right y) right is later s }

pub any_ends_first : AnyEndsFirst
any_ends_first first es d base p named dump right y next one rest counts is s later serves carried count stand =
    let n = as_counted d es named right y in
    let counted : here d (history_of es) n ≡ here d (history_of es) right = here_fixed d (history_of es) base n right p is later.stands.kept.steady s.kept.steady in
    let stands : (f b : ℕ) → b < count_at p.entries p.point f → n f b ≡ here d (history_of es) n f b = λ f b low. at f b low (named f b) refl ∙ ap (λ (c : Stored). c f b) (sym counted) in
    let kept = end_kept first es d base n p next one rest counts later.stands is carried count stands in
    let placed = (s.kept.steady.point_lives p is).found in
    let done = ends_first d (history_of es) base right right (stored_of y) p next dump named (counts_in counts) true is s.kept.steady serves (λ f b off. refl)
    (λ f. count f ∙ sym (outcome_length p.how d p.entries p.point f right)) (λ f b low off. stand f b (omega (arith, low, count f)) off) in
    let live : live_of (es ++ first_plan p next one rest counts) ≡ (history_of es).live ++ control p.point next (counts_in counts) true ∷ [] = ap (λ (h : History). h.live) (whole_is first es d base n p.point next one rest counts) in
    record {
      stands = λ k. part_stands first es d base n p.point next one rest counts later.stands kept k;
      points = λ k. part_points first es d base n p.point next one rest counts later.stands kept k placed ∙ later.points;
      ready = subst (λ (l : List Event). Ready (reconstruct dump named) d l base n (stored_of y) p.point) (sym live) done.ready;
    }
  where
    at : (f b : ℕ) → b < count_at p.entries p.point f → (t : Bool) → named f b ≡ t → as_counted d es named right y f b ≡ here d (history_of es) right f b
    at f b low true on = ap (λ t. cond t (here d (history_of es) right f b) (stored_of y f b)) on
    at f b low false off = ap (λ t. cond t (here d (history_of es) right f b) (stored_of y f b)) off ∙ stand f b low off
