-- A log of which what waited was sealed, and no more was done.
use Rattle.std.proofs.Common.{ℕ, ◌≡◌, Bool, true, ◌⊎◌, inl, inr, [], List, ◌++◌, length, take, drop, refl, sym, ◌∙◌, ap, subst, arith}
use Rattle.std.specs.Prelude.{IsErrAnd, IsErrOf, IfErr}
use Rattle.std.specs.declared.result.Result.{Result}
use Rattle.std.specs.declared.result.Result.TheVariants.{Ok, Err}
use Rattle.dms_moments.specs.Moments.{Clock, Steps}
use Rattle.dms_moments.specs.MomentLaws.{runs_none, runs_on, steps_on}
use Rattle.dms_site.specs.Files.{Files, Left, Same}
use Rattle.dms_history.specs.Events.{AllBlocks, Event}
use Rattle.dms_history.specs.Lists.{until_first, after_first}
use Rattle.dms_history.specs.Ranges.{all_changes, is_point_logged}
use Rattle.dms_history.specs.Places.{IsLive}
use Rattle.dms_history.specs.History.{last_point}
use Rattle.dms_history.specs.Pick.{blocks_at}
use Rattle.dms_history.specs.Entries.{Entry}
use Rattle.dms_history.specs.EntryEvents.{history_of, live_of}
use Rattle.dms_history.proofs.Order.{append_none}
use Rattle.dms_audfile.specs.Ends.{EndsAt, Grown, Seals}
use Rattle.dms_audfile.specs.declared.audit_end.AuditEnd.{AuditEnd}
use Rattle.dms_audfile.specs.TrailEntries.{trail_entries}
use Rattle.dms_audfile.specs.declared.fault.AudFault.{AudFault}
use Rattle.dms_audfile.specs.declared.fault.AudFault.TheVariants.{Disk, Full, Memory}
use Rattle.dms_running.specs.Telling.{Telling}
use Rattle.dms_running.specs.Points.{DescribedPoint, LeavesPointsPrefix}
use Rattle.dms_running.specs.Begun.{content_at_point}
use Rattle.dms_running.proofs.Appending.{sync_leaves}
use Rattle.dms_running.proofs.Looking.{look_runs}
use Rattle.dms_restore.specs.declared.live.LiveEntry.{LiveEntry}
use Rattle.dms_restore.specs.declared.told.Told.{Told}
use Rattle.dms_restore.specs.LiveEntries.{logged_live, changes_at, AllStandWhole}
use Rattle.dms_restore.proofs.Changes.{live_changes}
use Rattle.dms_restore.specs.Table.{IsTable}
use Rattle.dms_restore.specs.Tracing.{IsTraced}
use Rattle.dms_restore.specs.declared.tracing.TrailHistory.{TrailHistory}
use Rattle.dms_restore.specs.Logging.{LogView, view, telling, state, waits, Ends, LogRuns, points, durable, next, entries, LogsNothing, LogLeaves}
use Rattle.dms_restore.specs.BackOuts.{GoesBackBy, WentBackTo, SealedAlone, FilesStay, ServesBehind, IsBackFault}
use Rattle.dms_restore.specs.TailTables.{IsAtLastControl, Serves}
use Rattle.dms_restore.proofs.TailTables.{runs_over}
use Rattle.dms_restore.proofs.Logs as logs
use Rattle.dms_restore.proofs.Logs.{ReadsNow}
use Rattle.dms_restore.proofs.Trails.{ends_waiting, seals_as}
use Rattle.dms_restore.proofs.PendingTables.{Tables}
use Rattle.dms_restore.proofs.Traced.{whole_take, whole_drop}

-- ---- the table of a point

-- from all live entries, which are cut at the place of the point
pub table_cut : (files : Files) (live tail : List LiveEntry) (m k : ℕ) (v : List Told) → tail ≡ drop k live → until_first (is_point_logged m) (logged_live files live) ≡ logged_live files (take k live) → after_first (is_point_logged m) (logged_live files live) ≡ logged_live files (drop k live)
    → Tables files (take k live) tail v → AllStandWhole files live → IsTable (changes_at files live) m files v
table_cut files live tail m k v is front behind table whole =
    table (logged_live files live) m front (behind ∙ ap (logged_live files) (sym is)) (whole_take files k live whole) (subst (AllStandWhole files) (sym is) (whole_drop files k live whole))

-- of entries that were traced
pub table_traced : (files : Files) (es : List Entry) (h : TrailHistory) (live : List LiveEntry) (m : ℕ) (v : List Told) → live ≡ h.live.items → (AllStandWhole files live → IsTable (changes_at files live) m files v) → IsTraced files es h → IsTable (live_of es) m files v
table_traced files es h live m v lent table t =
    subst (λ (l : List Event). IsTable l m files v) (ap (changes_at files) lent ∙ ap all_changes (sym t.live_is) ∙ sym (live_changes es)) (table (subst (AllStandWhole files) (sym lent) t.live_whole))

-- it serves behind entries of which none waits
pub serves_on : (v : LogView) (r : LogRuns v) (read : ReadsNow v) (at_control : Bool) (files : Files) (m : ℕ) (table : List Told) → files ≡ v.files → waits v.end ≡ [] → (at_control ≡ true → IsAtLastControl (entries v) m)
    → ((new : Files) → Grown v.end.total v.first v.files new → Serves at_control (trail_entries v.end.total v.first v.files) m new table) → (clock : Clock Left) → ServesBehind (view v.end v.first files clock) m table
serves_on v r read at_control files m table same nothing went is clock =
    let all : entries v ≡ trail_entries v.end.total v.first v.files =
    ap (λ (l : List Entry). trail_entries v.end.total v.first v.files ++ l) nothing ∙ append_none (trail_entries v.end.total v.first v.files) in
    subst (λ (f : Files). ServesBehind (view v.end v.first f clock) m table) (sym same)
    (λ new grown. runs_over v r read at_control m new table went (subst (λ (l : List Entry). Serves at_control l m new table) (sym all) (is new grown)))

-- ---- what waited was sealed, and then the trail was read

module _ (a m : LogView) (runs : LogRuns m) (same : LogsNothing a m) (nothing : waits m.end ≡ []) (all : durable m ≡ length (points a)) (steps : Steps (Seals a.end.total a.end.tag a.first (waits a.end)) a.clock m.clock)
    (files : Files) (clock : Clock Left) (stay : files ≡ m.files) (looks : Steps Same m.clock clock) where
  looked_on : LogRuns (view m.end m.first m.files clock)
  looked_on = record {
    ends = record {
      low = runs.ends.low;
      writes = runs.ends.writes;
      settled = λ g from to x now. let y = looks.follows x now in ap (λ (l : Left). l.files g) y.2 ∙ runs.ends.settled g from to y.0 y.1;
      waits = runs.ends.waits;
      kind = runs.ends.kind;
    };
    runs = look_runs (telling m) (state m) clock runs.runs looks;
  }

  seals_on : Steps (Seals a.end.total a.end.tag a.first (waits a.end)) a.clock clock
  seals_on = steps_on steps looks (λ x y z nx ny s e. subst (Seals a.end.total a.end.tag a.first (waits a.end) x) (sym e) s) (λ x y nx s. s)

  pub sealed_looked : SealedAlone a (view m.end m.first files clock)
  sealed_looked = subst (λ (f : Files). SealedAlone a (view m.end m.first f clock)) (sym stay) (record {
    runs = looked_on;
    same = record {
      entries_same = same.entries_same;
      points_same = same.points_same;
      next_same = same.next_same;
      content_same = same.content_same;
      blocks_same = same.blocks_same;
      durable_kept = same.durable_kept;
    };
    nothing = nothing;
    all_durable = all;
    steps = seals_on;
  })

  pub looked_leaves : LogRuns a → ReadsNow a → LogLeaves a (view m.end m.first files clock) (points a) (next a)
  looked_leaves r read = sync_leaves (telling a) (logs.tells a r read) (state a) r.runs read clock (seals_as a.end a.first (waits a.end) a.files a.clock r.ends (waits a.end) clock seals_on)

-- the files stay where nothing waited
pub stay_looked : (a b : LogView) (files : Files) (clock : Clock Left) → files ≡ a.files → clock ≡ a.clock → b.files ≡ files → Steps Same clock b.clock → FilesStay a b
stay_looked a b files clock one two three steps = record { files_same = three ∙ one; steps = subst (λ (c : Clock Left). Steps Same c b.clock) two steps }

pub stay_none : (a b : LogView) → b.files ≡ a.files → b.clock ≡ a.clock → FilesStay a b
stay_none a b files clock = record { files_same = files; steps = subst (λ (c : Clock Left). Steps Same a.clock c) (sym clock) (record { follows = λ x now. (x, now, refl); runs = runs_none a.clock _ }) }

-- ---- a back-out goes on from there

module _ (a b : LogView) (s : SealedAlone a b) where
  content_then : (m : ℕ) → content_at_point (telling b) (state b) m ≡ content_at_point (telling a) (state a) m
  content_then m = λ i. blocks_at (live_of (s.same.entries_same i)) (s.same.blocks_same i) m

  pub goes_back_then : (m number : ℕ) (counts : List ℕ) → GoesBackBy a m number counts → GoesBackBy b m number counts
  goes_back_then m number counts by = record {
    last = record {
      last = ap (λ (l : List Entry). last_point (history_of l)) s.same.entries_same ∙ by.last.last;
      lives = subst (λ (l : List Entry). IsLive (live_of l) m) (sym s.same.entries_same) by.last.lives;
    };
    next_is = by.next_is ∙ sym s.same.next_same;
    count = λ f. by.count f ∙ ap (λ (c : AllBlocks). length (c f)) (sym (content_then m));
  }

  pub went_back_then : (m : ℕ) (c : LogView) (es : List Entry) → WentBackTo m b c es → WentBackTo m a c es
  went_back_then m c es w = record {
    entries_are = w.entries_are ∙ ap (λ (l : List Entry). l ++ es) s.same.entries_same;
    runs = w.runs;
    content_is = w.content_is ∙ content_then m;
    points_same = w.points_same ∙ s.same.points_same;
    next_same = w.next_same ∙ s.same.next_same;
    all_durable = w.all_durable ∙ ap (λ (l : List DescribedPoint). length l) s.same.points_same;
    written = w.written;
  }

  module _ (kind : telling b ≡ telling a) where
    left_then : (x : Left) → LeavesPointsPrefix (telling b) (points b) (durable b) (next b) x → LeavesPointsPrefix (telling a) (points a) (durable a) (next a) x
    left_then x p =
        let q = subst (λ (t : Telling). LeavesPointsPrefix t (points a) (durable b) (next a) x) kind
        (subst (λ (ps : List DescribedPoint). LeavesPointsPrefix (telling b) ps (durable b) (next a) x) s.same.points_same
        (subst (λ n. LeavesPointsPrefix (telling b) (points b) (durable b) n x) s.same.next_same p)) in
        record { count = q.count; enough = omega (arith, q.enough, s.same.durable_kept); within = q.within; is = q.is; not_fallen = q.not_fallen; not_risen = q.not_risen; whole = q.whole }

    pub leaves_then : (c : LogView) → LogLeaves a b (points a) (next a) → LogLeaves b c (points b) (next b) → LogLeaves a c (points a) (next a)
    leaves_then c first then = runs_on first then left_then

-- ---- answers

pub is_disk : {T : Type 0} (fault : AudFault) → fault ≡ Disk → IsErrOf {T = T} (Err fault) Disk
is_disk fault same = λ i. Err (same i)

-- Memory isn't Disk
pub not_disk : {T U : Type 0} (fault : AudFault) → IsErrOf {T = T} (Err fault) Memory → IsErrOf {T = U} (Err fault) Disk → ⊥
not_disk fault memory disk = cc

pub same_error : {T : Type 0} (fault e : AudFault) → IsErrOf {T = T} (Err fault) e → fault ≡ e
same_error fault e is = cc

pub ok_not_disk : {T : Type 0} (x : T) → IsErrOf (Ok x) Disk → ⊥
ok_not_disk x is = cc

-- Disk and Full aren't Memory
pub never_memory : {T : Type 0} (fault : AudFault) (limit : ℕ) → (fault ≡ Disk) ⊎ (fault ≡ Full limit) → IsErrOf {T = T} (Err fault) Memory → ⊥
never_memory fault limit (inl disk) is = cc
never_memory fault limit (inr full) is = cc

pub none_memory : {T : Type 0} (r : Result T AudFault) (limit : ℕ) → IfErr r (λ e. (e ≡ Disk) ⊎ (e ≡ Full limit)) → IsErrOf r Memory → ⊥
none_memory (Ok x) limit only is = cc
none_memory (Err e) limit only is = never_memory e limit only is

-- Full of the same limit
pub full_of : {T : Type 0} (r : Result T AudFault) (limit old : ℕ) → limit ≡ old → IsErrOf r (Full old) → IsErrOf r (Full limit)
full_of r limit old same full = subst (λ n. IsErrOf r (Full n)) (sym same) full

pub back_limit : {T : Type 0} (r : Result T AudFault) (limit old : ℕ) → limit ≡ old → IfErr r (IsBackFault limit) → IfErr r (IsBackFault old)
back_limit r limit old same only = subst (λ n. IfErr r (IsBackFault n)) same only

-- ---- the audit's end

-- nothing waits there
pub ends_of : (end : AuditEnd) (first : ℕ) (files : Files) (clock : Clock Left) → EndsAt end first [] files clock → Ends (view end first files clock)
ends_of end first files clock e = ends_waiting end first [] files clock e

-- Full that was handed on, of the same limit
pub full_limit : {T U : Type 0} (r : Result T AudFault) (fault : AudFault) (limit old : ℕ) → limit ≡ old → IsErrAnd r (λ e. e ≡ fault) → IsErrOf r (Full old) → IsErrOf {T = U} (Err fault) (Full limit)
full_limit (Ok x) fault limit old same handed full = absurd handed
full_limit (Err e) fault limit old same handed full = λ i. Err ((sym handed ∙ same_error e (Full old) full ∙ ap (λ n. Full n) (sym same)) i)

pub disk_not_memory : {T : Type 0} (fault : AudFault) → fault ≡ Disk → IsErrOf {T = T} (Err fault) Memory → ⊥
disk_not_memory fault disk memory = cc
