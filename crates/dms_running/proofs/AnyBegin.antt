-- The Begin of a restore of any kind, to any live point, is sealed.
use Rattle.std.proofs.Common.{ℕ, zero, suc, ◌<◌, ◌≡◌, inl, inr, List, [], ◌∷◌, ◌++◌, take, Option, Some, refl, sym, ◌∙◌, ap, subst, append-nil, arith, length}
use Rattle.dms_moments.specs.Moments.{Clock, Now, Steps, Runs}
use Rattle.dms_moments.specs.MomentLaws.{runs_weaken, runs_on}
use Rattle.dms_site.specs.Files.{Files, Left, stored_of}
use Rattle.dms_history.specs.Events.{Stored, begin}
use Rattle.dms_history.specs.History.{Pending, History, history}
use Rattle.dms_history.specs.Pick.{Dumps, blocks_at}
use Rattle.dms_history.specs.Here.{here, outcome}
use Rattle.dms_history.specs.Entries.{Kind, Entry, begin_restore, how_of}
use Rattle.dms_history.specs.EntryEvents.{events, history_of, live_of, next_of}
use Rattle.dms_history.proofs.Sealed.{begin_sealed, one_more_event}
use Rattle.dms_running.specs.FromDumps.{DumpsInOrder}
use Rattle.dms_running.specs.Telling.{Telling, IsTelling}
use Rattle.dms_running.specs.Standing.{Stands}
use Rattle.dms_running.specs.Points.{points_told, points_of, next_in, LeavesPointsPrefix}
use Rattle.std.proofs.lemmas.List.{take_all}
use Rattle.dms_running.specs.Sealing.{SealsSome, AreSealed, Settled}
use Rattle.dms_running.specs.Running.{State}
use Rattle.dms_running.specs.Begun.{IsBegun, outcome_now}
use Rattle.dms_running.specs.AnyLaws.{AnyBegun}
use Rattle.dms_running.specs.AnyBegun.{BeginsFrom, points_to, HasBegun, BeginLeaves}
use Rattle.dms_running.proofs.AnyRestore.{any_begins}
use Rattle.dms_running.proofs.FromDumps.{order_stays}
use Rattle.dms_running.proofs.Plain.{push_all}
use Rattle.dms_running.proofs.Stopped.{blocks_same}

module _ (t : Telling) (telling : IsTelling t) (a : State) (right : Stored) (m : ℕ) (kind : Kind) (r : BeginsFrom t a right m kind) where
  abbrev es : List Entry
  es = t.entries a.files

  abbrev the_begin : Entry
  the_begin = begin_restore m kind

  abbrev pub the_restore : Pending
  the_restore = record { entries = live_of es; point = m; how = how_of kind }

  law : AnyBegun t.first es (t.dumps a.files) (t.dumps a.files) r.base right (stored_of a.files) m kind
  law = any_begins t.first es (t.dumps a.files) (t.dumps a.files) r.base right (stored_of a.files) m kind r.stands r.ready

  pending_is : (history_of (es ++ the_begin ∷ [])).pending ≡ Some the_restore
  pending_is = ap (λ (h : History). h.pending) (ap history (begin_sealed es m kind) ∙ one_more_event (events es) (begin m (how_of kind)))

  -- files with the Begin sealed, and the same dumps and structure files
  module _ (x : Files) (is : t.entries x ≡ es ++ the_begin ∷ []) (above : (g : ℕ) → 20000 < g → x g ≡ a.files g) where
    dumps : t.dumps x ≡ t.dumps a.files
    dumps = telling.dumps_between x a.files (λ g up below. above g up)

    blocks : stored_of x ≡ stored_of a.files
    blocks = blocks_same x a.files above

    sealed_stands : Stands t.first (es ++ the_begin ∷ []) (t.dumps x) r.base (stored_of x)
    sealed_stands = subst (λ (s : Stored). Stands t.first (es ++ the_begin ∷ []) (t.dumps x) r.base s) (sym blocks) (subst (λ (d : Dumps). Stands t.first (es ++ the_begin ∷ []) d r.base (stored_of a.files)) (sym dumps) law.stands)

    sealed_order : ((k : ℕ) → t.dump_found a.files k → t.dump_found x k) → DumpsInOrder (t.dump_found x) (t.dumps x) (Some the_restore)
    sealed_order goes = order_stays t telling a.files x (Some the_restore) (λ g up below. above g up) goes r.order

    sealed_points : points_of t x ≡ points_to t a right m
    sealed_points = (λ i. points_told (dumps i) (is i) (blocks i)) ∙ law.points

    sealed_next : next_in t x ≡ next_in t a.files
    sealed_next = ap (λ (l : List Entry). next_of l) is ∙ law.next_same

    sealed_outcome : outcome (how_of kind) (t.dumps x) (live_of es) m (stored_of x) ≡ blocks_at (live_of es) (here (t.dumps a.files) (history_of es) right) m
    sealed_outcome = (λ i. outcome (how_of kind) (dumps i) (live_of es) m (blocks i)) ∙ law.leaves

  module _ (y x : Left) (now : Now a.clock y) (s : SealsSome t (the_begin ∷ []) y x) where
    from_read : (g : ℕ) → 20000 < g → x.files g ≡ a.files g
    from_read g up = s.above g up ∙ ap (λ (l : Files). l g) (r.only y now)

    dumps_then : (k : ℕ) → t.dump_found a.files k → t.dump_found x.files k
    dumps_then k found = s.dumps_found k (subst (λ (l : Files). t.dump_found l k) (sym (r.only y now)) found)

    found_then : t.found x.files
    found_then = s.found (subst t.found (sym (r.only y now)) r.found)

    begun_front : BeginLeaves t a right m x
    begun_front = push_all (λ l. t.entries x.files ≡ es ++ l → BeginLeaves t a right m x) [] the_begin
        (λ k is. inl (record { found = found_then; dumps_found = dumps_then; entries_same = is ∙ ap (λ (l : List Entry). es ++ l) (none_taken k) ∙ append-nil es; above = from_read }))
        (λ is. inr (record {
          whole = record {
            found = found_then;
            base = r.base;
            stands = subst (λ (l : List Entry). Stands t.first l (t.dumps x.files) r.base (stored_of x.files)) (sym is) (sealed_stands x.files is from_read);
            order = subst (λ (q : Option Pending). DumpsInOrder (t.dump_found x.files) (t.dumps x.files) q) (sym (ap (λ (l : List Entry). (history_of l).pending) is ∙ pending_is)) (sealed_order x.files is from_read dumps_then);
          };
          points = sealed_points x.files is from_read;
          next_same = sealed_next x.files is from_read;
        }))
        s.some (s.sealed ∙ ap (λ (l : Files). t.entries l ++ take s.some (the_begin ∷ [])) (r.only y now))
      where
        none_taken : (k : ℕ) → take k (let l : List Entry = [] in l) ≡ []
        none_taken zero = refl
        none_taken (suc k) = refl

  -- at every moment nothing was done, or the Begin is sealed
  pub any_begin_goes : (later : Clock Left) → Steps (SealsSome t (the_begin ∷ [])) a.clock later → Runs a.clock later (BeginLeaves t a right m)
  any_begin_goes later steps = runs_weaken steps.runs (λ x after. begun_front after.0 x after.1 after.2)

  module _ (b : State) (sealed : AreSealed t (the_begin ∷ []) a.files b.files) where
    pub any_begin_points : points_of t b.files ≡ points_to t a right m
    any_begin_points = sealed_points b.files sealed.sealed sealed.above

    pub any_begin_next : next_in t b.files ≡ next_in t a.files
    any_begin_next = sealed_next b.files sealed.sealed sealed.above

    pub any_begin_outcome : outcome_now t the_restore b ≡ blocks_at (live_of es) (here (t.dumps a.files) (history_of es) right) m
    any_begin_outcome = sealed_outcome b.files sealed.sealed sealed.above

    -- the restore is begun
    pub any_begun : b.waiting ≡ [] → Steps (SealsSome t (the_begin ∷ [])) a.clock b.clock → Settled t b.files b.clock → IsBegun t the_restore b
    any_begun none steps settles = record {
      base = r.base;
      nothing = none;
      settled = settles;
      found = λ x now. let after = steps.follows x now in found_then after.0 x after.1 after.2;
      pending = ap (λ (l : List Entry). (history_of l).pending) sealed.sealed ∙ pending_is;
      outcome_stays = λ x st now. let after = steps.follows x now in
          ap (λ (d : Dumps). outcome (how_of kind) d (live_of es) m st) (telling.dumps_between x.files b.files (λ g up below. from_read after.0 x after.1 after.2 g up ∙ sym (sealed.above g up)));
      order = λ x now. let after = steps.follows x now in sealed_order x.files (settles x now ∙ sealed.sealed) (from_read after.0 x after.1 after.2) (dumps_then after.0 x after.1 after.2);
      each = λ x now. let after = steps.follows x now in
          subst (λ (l : List Entry). Stands t.first l (t.dumps x.files) r.base (stored_of x.files)) (sym sealed.sealed) (sealed_stands x.files (settles x now ∙ sealed.sealed) (from_read after.0 x after.1 after.2));
    }

-- all points of a state that holds those up to the point, at a stop
all_of : (t : Telling) (a b : State) (right : Stored) (m : ℕ) (x : Left) → points_of t b.files ≡ points_to t a right m → next_in t b.files ≡ next_in t a.files
    → LeavesPointsPrefix t (points_of t b.files) (length (points_of t b.files)) (next_in t b.files) x → HasBegun t a right m x
all_of t a b right m x points next left = record {
  whole = left.whole;
  points = left.is ∙ take_all left.count (points_of t b.files) (omega (arith, left.enough)) ∙ points;
  next_same = omega (arith, next, left.not_fallen, left.not_risen, left.within, left.enough);
}

-- What follows the Begin leaves all points that it left: so from before it on, at every moment nothing was done, or exactly the points up to the restore's stand.
pub goes_on_so : (t : Telling) (a b : State) (right : Stored) (m : ℕ) (later : Clock Left) → Runs a.clock b.clock (BeginLeaves t a right m) → points_of t b.files ≡ points_to t a right m → next_in t b.files ≡ next_in t a.files
    → Runs b.clock later (LeavesPointsPrefix t (points_of t b.files) (length (points_of t b.files)) (next_in t b.files)) → Runs a.clock later (BeginLeaves t a right m)
goes_on_so t a b right m later begun points next leaves = runs_on begun leaves (λ x left. inr (all_of t a b right m x points next left))
