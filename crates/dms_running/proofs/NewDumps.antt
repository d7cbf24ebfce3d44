-- Where no restore is pending no dump counts.
use Rattle.std.proofs.Common.{◌≡◌, List, map, Option, None, sym, ◌∙◌, ap, subst}
use Rattle.dms_site.specs.Files.{stored_of}
use Rattle.dms_history.specs.Events.{Stored}
use Rattle.dms_history.specs.History.{Pending}
use Rattle.dms_history.specs.Pick.{Dumps}
use Rattle.dms_history.specs.Here.{here, here_by}
use Rattle.dms_history.specs.Points.{live_points}
use Rattle.dms_history.specs.Entries.{Entry}
use Rattle.dms_history.specs.EntryEvents.{history_of, live_of, next_of}
use Rattle.dms_history.proofs.LastPending.{no_dump_counts}
use Rattle.dms_running.specs.FromDumps.{DumpsInOrder}
use Rattle.dms_running.specs.Standing.{Stands}
use Rattle.dms_running.specs.Points.{described_in, points_told}
use Rattle.dms_running.specs.AnyLaws.{NewDumpKeeps, NewDumpHolds}

here_none : (d : Dumps) (es : List Entry) (st : Stored) → (history_of es).pending ≡ None → here d (history_of es) st ≡ st
here_none d es st none = ap (λ (o : Option Pending). here_by o d st) none

pub new_dump_keeps : NewDumpKeeps
new_dump_keeps first es d e base st none s = record {
  stands = record {
    kept = record {
      steady = no_dump_counts d e (history_of es) base st none s.kept.steady;
      opened = s.kept.opened;
      numbered = s.kept.numbered;
      alone = s.kept.alone;
      images = s.kept.images;
      empty = s.kept.empty;
    };
    described = s.described;
    base_sized = s.base_sized;
    images_sized = s.images_sized;
  };
  points = ap (λ (c : Stored). map (described_in es) (live_points (live_of es) c)) (here_none e es st none ∙ sym (here_none d es st none));
}

pub new_dump_holds : NewDumpHolds
new_dump_holds t files x none w entries blocks found =
    let kept = new_dump_keeps t.first (t.entries files) (t.dumps files) (t.dumps x) w.base (stored_of files) none w.stands in
    record {
      whole = record {
        found = found w.found;
        base = w.base;
        stands = subst (λ (l : List Entry). Stands t.first l (t.dumps x) w.base (stored_of x)) (sym entries) (subst (λ (c : Stored). Stands t.first (t.entries files) (t.dumps x) w.base c) (sym blocks) kept.stands);
        order = subst (λ (q : Option Pending). DumpsInOrder (t.dump_found x) (t.dumps x) q) (sym (ap (λ (l : List Entry). (history_of l).pending) entries ∙ none)) tt;
      };
      points = (λ i. points_told (t.dumps x) (entries i) (blocks i)) ∙ kept.points;
      next = ap (λ (l : List Entry). next_of l) entries;
    }
