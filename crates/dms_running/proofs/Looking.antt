-- A call that only looks.
use Rattle.std.proofs.Common.{ℕ, ◌≤◌, ◌≡◌, List, ◌++◌, take}
use Rattle.dms_moments.specs.Moments.{Clock, Now, Steps}
use Rattle.dms_moments.specs.SeenLaws.{runs_looking, now_same}
use Rattle.dms_site.specs.Files.{Left, Same, stored_of}
use Rattle.dms_running.specs.Telling.{Telling}
use Rattle.dms_running.specs.Standing.{MayRun}
use Rattle.dms_running.specs.Points.{DescribedPoint}
use Rattle.dms_running.specs.Running.{State, IsRunning, LeavesPoints}

-- the database runs on
pub look_runs : (t : Telling) (a : State) (later : Clock Left) → IsRunning t a → Steps Same a.clock later → IsRunning t (record { waiting = a.waiting; files = a.files; clock = later })
look_runs t a later r steps = record {
  base = r.base;
  settled = now_same (λ (x : Left). t.entries x.files ≡ t.entries a.files) steps r.settled;
  found = now_same (λ (x : Left). t.found x.files) steps r.found;
  each = λ k. now_same (λ (x : Left). MayRun t.first (t.entries a.files ++ take k a.waiting) (t.dumps x.files) r.base (stored_of x.files)) steps (r.each k);
  plain = r.plain;
  counted = r.counted;
}

-- a stop leaves nothing else
pub look_leaves : (t : Telling) (a : State) (later : Clock Left) (points : List DescribedPoint) (next : ℕ) → ((m : ℕ) (x : Left) → m ≤ a.clock.now → Now a.clock x → a.clock.left m x) → Steps Same a.clock later → LeavesPoints t points next a later
look_leaves t a later points next counts steps = runs_looking counts steps
