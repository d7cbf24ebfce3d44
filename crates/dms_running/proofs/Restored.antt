-- A pending restore by the audit writes.
use Rattle.std.proofs.Common.{ℕ, ◌<◌, ◌≡◌, Option, Bool, List, [], map, length, Some, sym, ◌∙◌, ap, subst}
use Rattle.dms_moments.specs.Moments.{Clock, Now, Steps}
use Rattle.dms_moments.specs.MomentLaws.{runs_weaken}
use Rattle.dms_site.specs.Files.{Files, Left, stored_of}
use Rattle.dms_history.specs.Events.{AllBlocks, Stored, block_in}
use Rattle.dms_history.specs.History.{Pending}
use Rattle.dms_history.specs.Base.{from_control, Sound}
use Rattle.dms_history.specs.Pick.{Dumps, count_at}
use Rattle.dms_history.specs.Here.{here, outcome}
use Rattle.dms_history.specs.Points.{live_points}
use Rattle.dms_history.specs.Entries.{Entry}
use Rattle.dms_history.specs.EntryEvents.{history_of, live_of, next_of}
use Rattle.dms_history.proofs.Picks.{some_is}
use Rattle.dms_history.proofs.Stops.{here_is}
use Rattle.dms_history.proofs.LastPending.{here_fixed}
use Rattle.dms_running.specs.FromDumps.{DumpsInOrder}
use Rattle.dms_running.specs.ByHow.{IsKeptBy, StandsAsToldBy}
use Rattle.dms_running.proofs.AnyRestore.{any_writes, any_restored}
use Rattle.dms_running.specs.Telling.{Telling, IsTelling}
use Rattle.dms_running.specs.Standing.{Stands}
use Rattle.dms_running.specs.Points.{described_in, points_told, points_of, next_in, LeavesPointsPrefix}
use Rattle.dms_running.specs.Running.{State, IsAnOutcome}
use Rattle.dms_running.specs.Restoring.{Rewritten, Rewrites}
use Rattle.dms_running.specs.Begun.{IsBegun, LeavesAll, IsRestored, outcome_now}
use Rattle.dms_running.proofs.FromDumps.{order_stays}
use Rattle.dms_running.proofs.Planned.{all_left}

module _ (first : Bool) (es : List Entry) (base : AllBlocks) (d : Dumps) (p : Pending) (is : (history_of es).pending ≡ Some p) where
  pub points_fixed : (one two : Stored) → Stands first es d base one → Stands first es d base two → points_told d es one ≡ points_told d es two
  points_fixed one two a b = ap (λ (s : Stored). map (described_in es) (live_points (live_of es) s)) (here_fixed d (history_of es) base one two p is a.kept.steady b.kept.steady)

  pub rewritten_stands : (x y : Files) → Rewritten (IsKeptBy p.how p.entries p.point) x y → Stands first es d base (stored_of x) → Stands first es d base (stored_of y)
  rewritten_stands x y step s = (any_writes first es d base p x y is s step).stands

module _ (t : Telling) (telling : IsTelling t) (p : Pending) (a : State) (r : IsBegun t p a) (read : IsAnOutcome a) where
  abbrev pub es : List Entry
  es = t.entries a.files

  pub read_stands : Stands t.first es (t.dumps a.files) r.base (stored_of a.files)
  read_stands = subst (λ (l : Files). Stands t.first es (t.dumps l) r.base (stored_of l)) read.2 (r.each read.0 read.1)

  -- by other dumps, where what the restore is to leave is the same
  other_dumps : (d e : Dumps) → ((st : Stored) → outcome p.how e p.entries p.point st ≡ outcome p.how d p.entries p.point st) → (st : Stored) → Stands t.first es d r.base st → Stands t.first es e r.base st
  other_dumps d e outcomes st s =
      let same : here e (history_of es) st ≡ here d (history_of es) st =
      here_is e (history_of es) p st r.pending ∙ ap (λ (c : AllBlocks). block_in c) (outcomes st) ∙ sym (here_is d (history_of es) p st r.pending) in
      record {
        kept = record {
          steady = record {
            sound = subst (λ (c : Stored). Sound (from_control (live_of es)) r.base c) (sym same) s.kept.steady.sound;
            restored = λ q is. outcome_of q is e d st (outcomes st) ∙ s.kept.steady.restored q is;
            point_lives = s.kept.steady.point_lives;
          };
          opened = s.kept.opened;
          numbered = s.kept.numbered;
          alone = s.kept.alone;
          images = s.kept.images;
          empty = s.kept.empty;
        };
        described = s.described;
        base_sized = s.base_sized;
        images_sized = s.images_sized;
      }
    where
      outcome_of : (q : Pending) → (history_of es).pending ≡ Some q → (e d : Dumps) (st : Stored) → outcome p.how e p.entries p.point st ≡ outcome p.how d p.entries p.point st
          → outcome q.how e q.entries q.point st ≡ outcome q.how d q.entries q.point st
      outcome_of q is e d st same = subst (λ (k : Pending). outcome k.how e k.entries k.point st ≡ outcome k.how d k.entries k.point st) (some_is p q (sym r.pending ∙ is)) same

  module _ (y x : Left) (now : Now a.clock y) (step : Rewrites (IsKeptBy p.how p.entries p.point) y x) where
    pub rewrites_entries : t.entries x.files ≡ es
    rewrites_entries = telling.entries_low x.files y.files step.files.others ∙ r.settled y now

    pub rewrites_found : t.found x.files
    rewrites_found = telling.found_low x.files y.files step.files.others (r.found y now)

    rewrites_dumps : t.dumps x.files ≡ t.dumps y.files
    rewrites_dumps = telling.dumps_between x.files y.files (λ g above below. step.files.others g below)

    rewrites_outcome : (st : Stored) → outcome p.how (t.dumps x.files) p.entries p.point st ≡ outcome p.how (t.dumps a.files) p.entries p.point st
    rewrites_outcome st = ap (λ (d : Dumps). outcome p.how d p.entries p.point st) rewrites_dumps ∙ r.outcome_stays y st now

    pub rewrites_order : DumpsInOrder (t.dump_found x.files) (t.dumps x.files) (Some p)
    rewrites_order = order_stays t telling y.files x.files (Some p) (λ g above below. step.files.others g below) (λ k found. telling.dump_found_low x.files y.files k step.files.others found) (r.order y now)

    pub rewrites_stands : Stands t.first es (t.dumps x.files) r.base (stored_of x.files)
    rewrites_stands = subst (λ (d : Dumps). Stands t.first es d r.base (stored_of x.files)) (sym rewrites_dumps) (rewritten_stands t.first es r.base (t.dumps y.files) p r.pending y.files x.files step.files (r.each y now))

    as_read : Stands t.first es (t.dumps x.files) r.base (stored_of a.files)
    as_read = other_dumps (t.dumps a.files) (t.dumps x.files) rewrites_outcome (stored_of a.files) read_stands

    pub rewrites_front : LeavesPointsPrefix t (points_of t a.files) (length (points_of t a.files)) (next_in t a.files) x
    rewrites_front = all_left t (points_of t a.files) (next_in t a.files) x
        (ap (λ (l : List Entry). points_told (t.dumps x.files) l (stored_of x.files)) rewrites_entries
        ∙ points_fixed t.first es r.base (t.dumps x.files) p r.pending (stored_of x.files) (stored_of a.files) rewrites_stands as_read
        ∙ others)
        (ap (λ (l : List Entry). next_of l) rewrites_entries)
        (record {
          found = rewrites_found;
          base = r.base;
          stands = subst (λ (l : List Entry). Stands t.first l (t.dumps x.files) r.base (stored_of x.files)) (sym rewrites_entries) rewrites_stands;
          order = subst (λ (q : Option Pending). DumpsInOrder (t.dump_found x.files) (t.dumps x.files) q) (sym (ap (λ (l : List Entry). (history_of l).pending) rewrites_entries ∙ r.pending)) rewrites_order;
        })
      where
        others : points_told (t.dumps x.files) es (stored_of a.files) ≡ points_told (t.dumps a.files) es (stored_of a.files)
        others =
            ap (λ (s : Stored). map (described_in es) (live_points (live_of es) s))
            (here_is (t.dumps x.files) (history_of es) p (stored_of a.files) r.pending
            ∙ ap (λ (c : AllBlocks). block_in c) (rewrites_outcome (stored_of a.files))
            ∙ sym (here_is (t.dumps a.files) (history_of es) p (stored_of a.files) r.pending))

  pub restore_leaves : (later : Clock Left) → Steps (Rewrites (IsKeptBy p.how p.entries p.point)) a.clock later → LeavesAll t a later
  restore_leaves later steps = runs_weaken steps.runs (λ x after. rewrites_front after.0 x after.1 after.2)

  module _ (b : State) (step : Rewritten (IsKeptBy p.how p.entries p.point) a.files b.files) where
    pub same_entries : t.entries b.files ≡ es
    same_entries = telling.entries_low b.files a.files step.others

    same_dumps : t.dumps b.files ≡ t.dumps a.files
    same_dumps = telling.dumps_between b.files a.files (λ g above below. step.others g below)

    later_stands : Stands t.first es (t.dumps a.files) r.base (stored_of b.files)
    later_stands = rewritten_stands t.first es r.base (t.dumps a.files) p r.pending a.files b.files step read_stands

    pub restore_begun : b.waiting ≡ [] → Steps (Rewrites (IsKeptBy p.how p.entries p.point)) a.clock b.clock → IsBegun t p b
    restore_begun none steps = record {
      base = r.base;
      nothing = none;
      settled = λ x now. let after = steps.follows x now in rewrites_entries after.0 x after.1 after.2 ∙ sym same_entries;
      found = λ x now. let after = steps.follows x now in rewrites_found after.0 x after.1 after.2;
      pending = ap (λ (l : List Entry). (history_of l).pending) same_entries ∙ r.pending;
      outcome_stays = λ x st now. let after = steps.follows x now in rewrites_outcome after.0 x after.1 after.2 st ∙ sym (ap (λ (d : Dumps). outcome p.how d p.entries p.point st) same_dumps);
      order = λ x now. let after = steps.follows x now in rewrites_order after.0 x after.1 after.2;
      each = λ x now. let after = steps.follows x now in
          subst (λ (l : List Entry). Stands t.first l (t.dumps x.files) r.base (stored_of x.files)) (sym same_entries) (rewrites_stands after.0 x after.1 after.2);
    }

    -- all that the restore writes stands: each block stands as it counts
    pub restored_all : ((f b_ : ℕ) → b_ < count_at p.entries p.point f → StandsAsToldBy p.how (t.dumps a.files) p.entries p.point b.files f b_) → IsRestored t p b
    restored_all done f b_ low =
        any_restored t.first es (t.dumps a.files) r.base p b.files r.pending later_stands done f b_ low
        ∙ (λ i. here (sym same_dumps i) (history_of (sym same_entries i)) (stored_of b.files) f b_)

    -- as they are read, the points, the next number and the outcome are the same
    pub restored_points : points_of t b.files ≡ points_of t a.files
    restored_points =
        (λ i. points_told (same_dumps i) (same_entries i) (stored_of b.files)) ∙ points_fixed t.first es r.base (t.dumps a.files) p r.pending (stored_of b.files) (stored_of a.files) later_stands read_stands

    pub restored_next : next_in t b.files ≡ next_in t a.files
    restored_next = ap (λ (l : List Entry). next_of l) same_entries

    pub restored_outcome : outcome_now t p b ≡ outcome_now t p a
    restored_outcome = ap (λ (d : Dumps). outcome p.how d p.entries p.point (stored_of b.files)) same_dumps ∙ later_stands.kept.steady.restored p r.pending ∙ sym (read_stands.kept.steady.restored p r.pending)
