-- A Begin of a restore by the audit to the last point is sealed.
use Rattle.std.proofs.Common.{ℕ, ◌≡◌, Bool, true, List, [], ◌∷◌, ◌++◌, map, length, take, drop, Some, sym, ◌∙◌, ap, subst, arith, append_assoc}
use Rattle.std.proofs.lemmas.List.{take-append-drop}
use Rattle.dms_moments.specs.Moments.{Clock, Now, Steps}
use Rattle.dms_moments.specs.MomentLaws.{runs_weaken}
use Rattle.dms_site.specs.Files.{Files, Left, stored_of}
use Rattle.dms_history.specs.Events.{AllBlocks, Stored, How, halt_load, back_out, roll_back, rebuild, reconstruct, Event, change, quiet, control, begin}
use Rattle.dms_history.specs.Lists.{has, until_first, after_first}
use Rattle.dms_history.specs.Places.{is_described, is_point, IsLive}
use Rattle.dms_history.specs.History.{History, history, after_event, last_point, next_number}
use Rattle.dms_history.specs.Base.{from_control}
use Rattle.dms_history.specs.Pick.{Dumps, blocks_at}
use Rattle.dms_history.specs.Here.{here, outcome}
use Rattle.dms_history.specs.Restores.{HasDump, Ready}
use Rattle.dms_history.specs.Points.{LivePoint, live_points, ListsPoints, up_to}
use Rattle.dms_history.specs.Entries.{Kind, Entry, begin_restore, how_of}
use Rattle.dms_history.specs.EntryEvents.{events, history_of, live_of, next_of}
use Rattle.dms_history.specs.Sizes.{ImagesSized}
use Rattle.dms_history.proofs.AtPoints.{split_first}
use Rattle.dms_history.proofs.Given.{controlled, from_until, live_from}
use Rattle.dms_history.proofs.HalfDone.{has_front}
use Rattle.dms_history.proofs.Order.{append_none, next_steps}
use Rattle.dms_history.proofs.Stops.{front_live, restore_begins}
use Rattle.dms_history.proofs.Sealed.{begin_sealed, one_more_event}
use Rattle.dms_history.proofs.Keeping.{kept_begin}
use Rattle.dms_history.proofs.Listed.{points_listed, one_list, points_stay}
use Rattle.dms_history.proofs.ListSteps.{lists_begin, last_keeps_all}
use Rattle.dms_running.specs.FromDumps.{DumpsInOrder}
use Rattle.dms_running.specs.Telling.{Telling, IsTelling}
use Rattle.dms_running.specs.Standing.{Stands, MayRun}
use Rattle.dms_running.specs.Points.{described_in, points_told, points_of, next_in, LeavesPointsPrefix}
use Rattle.dms_running.specs.Sealing.{SealsSome, Appended, AreSealed, Settled}
use Rattle.dms_running.specs.Running.{State, entries_now, next_now, points_now, durable_now, IsRunning, IsAnOutcome, LeavesPoints}
use Rattle.dms_running.specs.Begun.{ByAudit, IsBegun, IsLast, restore_to, outcome_now, content_at_point}
use Rattle.dms_running.proofs.Described.{all_placed, described_begun}
use Rattle.dms_running.proofs.FromDumps.{audit_order, outcomes_by}
use Rattle.dms_running.proofs.MayRun.{counted, sound, points_are}
use Rattle.dms_running.proofs.Plain.{push_all, take_whole}
use Rattle.dms_running.proofs.Stopped.{front_left, blocks_same}
use Rattle.dms_running.proofs.Appending.{now_runs, points_enough}
use Rattle.dms_running.proofs.Planned.{all_left, carried}

pub images_first : (xs ys : List Event) → ImagesSized (xs ++ ys) → ImagesSized xs
images_first [] ys all = tt
images_first (change f b before after ∷ xs) ys all = (all.0, images_first xs ys all.1)
images_first (quiet n ∷ xs) ys all = images_first xs ys all
images_first (control n next counts described ∷ xs) ys all = images_first xs ys all
images_first (begin n how ∷ xs) ys all = images_first xs ys all

has_no_dump : (how : How) (d : Dumps) (live : List Event) (st : Stored) (m : ℕ) → ByAudit how → HasDump how d live st m
has_no_dump halt_load d live st m by_audit = tt
has_no_dump back_out d live st m by_audit = tt
has_no_dump roll_back d live st m by_audit = tt
has_no_dump (rebuild k) d live st m by_audit = absurd by_audit
has_no_dump (reconstruct k named) d live st m by_audit = absurd by_audit

module _ (first : Bool) (es : List Entry) (d : Dumps) (base : AllBlocks) (st : Stored) (run : MayRun first es d base st) (m : ℕ) (kind : Kind) (by_audit : ByAudit (how_of kind)) (at : IsLive (live_of es) m) where
  abbrev pub with_begin : List Entry
  with_begin = es ++ begin_restore m kind ∷ []

  ready : Ready (how_of kind) d (live_of es) base (here d (history_of es) st) st m
  ready = record {
    sound = run.stands.kept.steady.sound;
    same = λ f b free. sym (ap (λ (s : Stored). s f b) (counted first es d base st run));
    point_lives = at;
    dump = has_no_dump (how_of kind) d (live_of es) (here d (history_of es) st) m by_audit;
  }

  pub begin_is : history_of with_begin ≡ after_event (history_of es) (begin m (how_of kind))
  begin_is = ap history (begin_sealed es m kind) ∙ one_more_event (events es) (begin m (how_of kind))

  pub begin_order : (found : ℕ → Type 0) (e : Dumps) → DumpsInOrder found e (history_of with_begin).pending
  begin_order found e = subst (λ (h : History). DumpsInOrder found e h.pending) (sym begin_is) (audit_order found e (record { entries = live_of es; point = m; how = how_of kind }) (how_of kind) by_audit)

  live_is : live_of with_begin ≡ until_first (is_point m) (live_of es)
  live_is = ap (λ (h : History). h.live) begin_is

  pub begin_stands : Stands first with_begin d base st
  begin_stands = record {
    kept = kept_begin first es d d base st st m kind run.stands.kept ready;
    described = ap (λ (l : List Event). has is_described l) live_is ∙ at.described;
    base_sized = run.stands.base_sized;
    images_sized =
        let live = live_of es in
        let cut = from_until (is_point m) live (controlled live m at) in
        let found : has (is_point m) (from_control live) ≡ true =
        has_front (is_point m) (is_point m) (from_control live) (ap (λ (l : List Event). has (is_point m) l) (sym cut) ∙ (live_from (until_first (is_point m) live) m (front_live live m at)).found) in
        let all : ImagesSized (until_first (is_point m) (from_control live) ++ after_first (is_point m) (from_control live)) = subst ImagesSized (sym (split_first (is_point m) (from_control live) found)) run.stands.images_sized in
        subst ImagesSized (sym (ap (λ (l : List Event). from_control l) live_is ∙ cut)) (images_first (until_first (is_point m) (from_control live)) (after_first (is_point m) (from_control live)) all);
  }

  pub begin_next : next_of with_begin ≡ next_of es
  begin_next = ap next_number (begin_sealed es m kind) ∙ (next_steps (events es)).begin m (how_of kind)

  -- to the last point: all points stay
  pub begin_points : last_point (history_of es) ≡ Some m → points_told d with_begin st ≡ points_told d es st
  begin_points last =
      let h = history_of es in
      let old = live_points h.live (here d h st) in
      let listed : ListsPoints h.live (here d h st) old = points_listed h.live (next_of es) (here d h st) run.stands.kept.numbered in
      let after = after_event h (begin m (how_of kind)) in
      let cut : ListsPoints after.live (here d after st) (up_to m old) = lists_begin (how_of kind) d h (next_of es) base (here d h st) st old m run.stands.kept.numbered ready listed in
      let all : up_to m old ≡ old = last_keeps_all h (next_of es) (here d h st) old m run.stands.kept.numbered last listed in
      let g = history_of with_begin in
      let more : ListsPoints g.live (here d g st) old = subst (λ (k : History). ListsPoints k.live (here d k st) old) (sym begin_is) (subst (ListsPoints after.live (here d after st)) all cut) in
      let same : live_points g.live (here d g st) ≡ old =
      one_list g.live (here d g st) (live_points g.live (here d g st)) old (points_listed g.live (next_of with_begin) (here d g st) begin_stands.kept.numbered) more in
      ap (map (described_in with_begin)) same ∙ described_begun es m kind old (all_placed with_begin (here d g st) old more.lives)

  -- the restore is to leave the content at its point
  pub begin_leaves : outcome (how_of kind) d (live_of es) m st ≡ blocks_at (live_of es) st m
  begin_leaves = (restore_begins (how_of kind) d (history_of es) base (here d (history_of es) st) st m ready).leaves ∙ ap (λ (s : Stored). blocks_at (live_of es) s m) (counted first es d base st run)

rest_nothing : (n : ℕ) (es : List Entry) → drop n es ≡ [] → take n es ≡ es
rest_nothing n es none = sym (append_none (take n es)) ∙ ap (λ (l : List Entry). take n es ++ l) (sym none) ∙ take-append-drop n es

-- where nothing waits any more, all of the entries are sealed
pub all_sealed : (t : Telling) (es waiting : List Entry) (old new : Files) → Appended t es old new waiting → waiting ≡ [] → AreSealed t es old new
all_sealed t es waiting old new a none = record { sealed = a.sealed ∙ ap (λ (l : List Entry). t.entries old ++ l) (rest_nothing a.some es (sym a.rest ∙ none)); above = a.above }

module _ (t : Telling) (telling : IsTelling t) (a : State) (r : IsRunning t a) (read : IsAnOutcome a) (m : ℕ) (kind : Kind) (by_audit : ByAudit (how_of kind)) (at : IsLast t a m) where
  abbrev pub base : AllBlocks
  base = r.base

  abbrev pub all : List Entry
  all = entries_now t a

  abbrev pub the_begin : Entry
  the_begin = begin_restore m kind

  behind : all ++ the_begin ∷ [] ≡ t.entries a.files ++ (a.waiting ++ the_begin ∷ [])
  behind = append_assoc (t.entries a.files) a.waiting (the_begin ∷ [])

  module _ (y x : Left) (now : Now a.clock y) (s : SealsSome t (a.waiting ++ the_begin ∷ []) y x) where
    run_at : (k : ℕ) → MayRun t.first (t.entries a.files ++ take k a.waiting) (t.dumps x.files) base (stored_of x.files)
    run_at k = record {
      stands = carried t telling y.files x.files (t.entries a.files ++ take k a.waiting) base s.above (r.each k y now).stands;
      none = (r.each k y now).none;
    }

    run_all : MayRun t.first all (t.dumps x.files) base (stored_of x.files)
    run_all = subst (λ (l : List Entry). MayRun t.first (t.entries a.files ++ l) (t.dumps x.files) base (stored_of x.files)) (take_whole a.waiting) (run_at (length a.waiting))

    pub at_begin : Stands t.first (all ++ the_begin ∷ []) (t.dumps x.files) base (stored_of x.files)
    at_begin = begin_stands t.first all (t.dumps x.files) base (stored_of x.files) run_all m kind by_audit at.lives

    points_all : points_told (t.dumps x.files) (all ++ the_begin ∷ []) (stored_of x.files) ≡ points_now t a
    points_all =
        let one = now_runs t telling a r read in
        begin_points t.first all (t.dumps x.files) base (stored_of x.files) run_all m kind by_audit at.lives at.last
        ∙ points_are t.first all (t.dumps x.files) base (stored_of x.files) run_all
        ∙ ap (λ (l : List LivePoint). map (described_in all) l)
        (points_stay (live_of all) base (stored_of a.files) (stored_of x.files) (sound t.first all (t.dumps a.files) base (stored_of a.files) one) (sound t.first all (t.dumps x.files) base (stored_of x.files) run_all))
        ∙ sym (points_are t.first all (t.dumps a.files) base (stored_of a.files) one)

    next_all : next_of (all ++ the_begin ∷ []) ≡ next_now t a
    next_all = begin_next t.first all (t.dumps x.files) base (stored_of x.files) run_all m kind by_audit at.lives

    front_all : t.entries x.files ≡ all ++ the_begin ∷ [] → LeavesPointsPrefix t (points_now t a) (durable_now t a) (next_now t a) x
    front_all is =
        let left = all_left t (points_now t a) (next_now t a) x (ap (λ (l : List Entry). points_told (t.dumps x.files) l (stored_of x.files)) is ∙ points_all)
        (ap (λ (l : List Entry). next_of l) is ∙ next_all)
        (record { found = s.found (r.found y now); base = base; stands = subst (λ (l : List Entry). Stands t.first l (t.dumps x.files) base (stored_of x.files)) (sym is) at_begin; order = subst (λ (l : List Entry). DumpsInOrder (t.dump_found x.files) (t.dumps x.files) (history_of l).pending) (sym is) (begin_order t.first all (t.dumps x.files) base (stored_of x.files) run_all m kind by_audit at.lives (t.dump_found x.files) (t.dumps x.files)) }) in
        record {
          count = left.count;
          enough = omega (arith, left.enough, points_enough t telling a r read);
          within = left.within;
          is = left.is;
          not_fallen = left.not_fallen;
          not_risen = left.not_risen;
          whole = left.whole;
        }

    pub begin_front : LeavesPointsPrefix t (points_now t a) (durable_now t a) (next_now t a) x
    begin_front = push_all (λ l. t.entries x.files ≡ t.entries a.files ++ l → LeavesPointsPrefix t (points_now t a) (durable_now t a) (next_now t a) x) a.waiting the_begin
        (λ k is. front_left t telling a a.waiting base r.settled r.found r.each r.plain r.counted read k x (s.found (r.found y now)) is (run_at k))
        (λ is. front_all (is ∙ sym behind)) s.some (s.sealed ∙ ap (λ (l : List Entry). l ++ take s.some (a.waiting ++ the_begin ∷ [])) (r.settled y now))

  pub begin_goes : (later : Clock Left) → Steps (SealsSome t (a.waiting ++ the_begin ∷ [])) a.clock later → LeavesPoints t (points_now t a) (next_now t a) a later
  begin_goes later steps = runs_weaken steps.runs (λ x after. begin_front after.0 x after.1 after.2)

  module _ (b : State) (sealed : AreSealed t (a.waiting ++ the_begin ∷ []) a.files b.files) where
    pub entries_are : t.entries b.files ≡ all ++ the_begin ∷ []
    entries_are = sealed.sealed ∙ sym behind

    blocks : stored_of b.files ≡ stored_of a.files
    blocks = blocks_same b.files a.files sealed.above

    dumps : t.dumps b.files ≡ t.dumps a.files
    dumps = telling.dumps_between b.files a.files (λ g above below. sealed.above g above)

    run_now : MayRun t.first all (t.dumps a.files) base (stored_of a.files)
    run_now = now_runs t telling a r read

    pub begun : b.waiting ≡ [] → Steps (SealsSome t (a.waiting ++ the_begin ∷ [])) a.clock b.clock → Settled t b.files b.clock → IsBegun t (restore_to t a m (how_of kind)) b
    begun none steps settles = record {
      base = base;
      nothing = none;
      settled = settles;
      found = λ x now. let after = steps.follows x now in after.2.found (r.found after.0 after.1);
      pending = ap (λ (l : List Entry). (history_of l).pending) entries_are ∙ ap (λ (h : History). h.pending) (begin_is t.first all (t.dumps a.files) base (stored_of a.files) run_now m kind by_audit at.lives);
      outcome_stays = λ x st now. outcomes_by (restore_to t a m (how_of kind)) by_audit (t.dumps x.files) (t.dumps b.files) st;
      order = λ x now. audit_order (t.dump_found x.files) (t.dumps x.files) (restore_to t a m (how_of kind)) (how_of kind) by_audit;
      each = λ x now. let after = steps.follows x now in
          subst (λ (l : List Entry). Stands t.first l (t.dumps x.files) base (stored_of x.files)) (sym entries_are) (at_begin after.0 x after.1 after.2);
    }

    pub begun_points : points_of t b.files ≡ points_now t a
    begun_points =
        (λ i. points_told (dumps i) (entries_are i) (blocks i)) ∙ begin_points t.first all (t.dumps a.files) base (stored_of a.files) run_now m kind by_audit at.lives at.last

    pub begun_next : next_in t b.files ≡ next_now t a
    begun_next = ap (λ (l : List Entry). next_of l) entries_are ∙ begin_next t.first all (t.dumps a.files) base (stored_of a.files) run_now m kind by_audit at.lives

    pub begun_outcome : outcome_now t (restore_to t a m (how_of kind)) b ≡ content_at_point t a m
    begun_outcome =
        (λ i. outcome (how_of kind) (dumps i) (live_of all) m (blocks i)) ∙ begin_leaves t.first all (t.dumps a.files) base (stored_of a.files) run_now m kind by_audit at.lives
