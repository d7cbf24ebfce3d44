-- A rollback behind a restore that was pending.
use Rattle.std.specs.Prelude.{◌||◌, ◌&&◌, nat_lt}
use Rattle.std.proofs.Common.{ℕ, ◌<◌, ◌≡◌, inl, inr, Bool, true, false, cond, List, [], ◌∷◌, ◌++◌, Option, Some, None, refl, sym, ◌∙◌, ap, subst, arith}
use Rattle.std.proofs.lemmas.Bool.{true≢false}
use Rattle.dms_moments.specs.Moments.{Clock, Runs}
use Rattle.dms_moments.specs.MomentLaws.{runs_on, runs_weaken}
use Rattle.dms_site.specs.Files.{Files, Left, Only, stored_of}
use Rattle.dms_history.specs.Events.{Counts, Stored, How, halt_load, back_out, roll_back, rebuild, reconstruct, Event, change, quiet, control, begin, block_in}
use Rattle.dms_history.specs.Here.{here, here_by}
use Rattle.dms_history.specs.History.{Pending, History}
use Rattle.dms_history.specs.Images.{is_at, or_else, last_after, first_before, value}
use Rattle.dms_history.specs.Lists.{has, until_first, after_first, after_last}
use Rattle.dms_history.specs.LawsOfRestores.{PendingCut}
use Rattle.dms_history.specs.Pick.{Dumps, reached_count, count_at, dump_pick}
use Rattle.dms_history.specs.Places.{is_control, is_point, IsLive}
use Rattle.dms_history.specs.Restores.{is_none, has_no_before, is_unlogged, takes_stored}
use Rattle.dms_history.specs.Told.{undone_to, told_block}
use Rattle.dms_history.specs.Entries.{Entry, Kind, by_roll_back, control_point, how_of, counts_in}
use Rattle.dms_history.specs.EntryEvents.{events, history_of, live_of, next_of}
use Rattle.dms_history.specs.SchemaAt.{schema_at}
use Rattle.dms_history.specs.Schemas.{schema_entries}
use Rattle.dms_history.specs.declared.event.FileCount.{FileCount}
use Rattle.dms_history.proofs.Alone.{alone_events}
use Rattle.dms_history.proofs.LastPending.{pending_cuts}
use Rattle.dms_history.proofs.Order.{append_none}
use Rattle.dms_history.proofs.Running.{live_more}
use Rattle.dms_history.proofs.Stops.{until_append}
use Rattle.dms_audfile.specs.TrailEntries.{trail_entries}
use Rattle.dms_running.specs.AnyBegun.{BeginLeaves}
use Rattle.dms_running.specs.AnyLaws.{HoldsSame}
use Rattle.dms_running.specs.ByHow.{told_by}
use Rattle.dms_running.specs.Points.{points_of, points_told, next_in}
use Rattle.dms_running.specs.Running.{IsAnOutcome}
use Rattle.dms_running.specs.Standing.{IsWhole}
use Rattle.dms_running.specs.Telling.{Telling}
use Rattle.dms_running.proofs.Appending.{running_whole}
use Rattle.dms_running.proofs.Controlled.{whole_is}
use Rattle.dms_restore.specs.declared.restore_table.RestoreTable.{RestoreTable}
use Rattle.dms_restore.specs.Begins.{any_to}
use Rattle.dms_restore.specs.Counts.{file_counts}
use Rattle.dms_restore.specs.Logging.{LogView, telling_of, telling, state, waits}
use Rattle.dms_restore.specs.Table.{AreFree, Kept, IsPlan, all_in, keeps_by}
use Rattle.dms_restore.specs.Views.{LogStarts}
use Rattle.dms_restore.proofs.Endings.{starts_of}
use Rattle.dms_restore.proofs.Laid.{some_bodies}
use Rattle.dms_restore.proofs.Trails.{first_low}
use Rattle.dms_opening.specs.declared.asked.Asked.{Asked}
use Rattle.dms_opening.specs.declared.plan.OpeningPlan.{OpeningPlan}
use Rattle.dms_opening.specs.Carrying.{IsFitPlan, IsPlanned, WritesFor, MayBegin, RunsTo}
use Rattle.dms_opening.specs.Laws.{LastIsDescribed}
use Rattle.dms_opening.specs.Openings.{RunsFrom, Reopens, ending_entries, opening_entries}
use Rattle.dms_opening.specs.Plans.{SameDumps}
use Rattle.dms_opening.proofs.Completed.{judged}
use Rattle.dms_opening.proofs.Prepared.{first_pending}
use Rattle.dms_audfile.specs.Ends.{Grown}
use Rattle.dms_recovery.specs.Leaving.{described_to, HoldsUpTo, RollsTo}
use Rattle.dms_recovery.specs.Rolling.{RollsBehind}
use Rattle.dms_recovery.proofs.Beginning.{begins_any, restores_to}
use Rattle.dms_recovery.proofs.Ended.{holds_up_to}
use Rattle.dms_recovery.proofs.Rolled.{rolls}
use Rattle.dms_recovery.proofs.Rounds.{writes_behind}

-- ---- what one more Control tells of a point before it

first_end : (f b : ℕ) (es : List Event) (k next : ℕ) (counts : Counts) (described : Bool) → first_before f b (es ++ control k next counts described ∷ []) ≡ first_before f b es
first_end f b [] k next counts described = refl
first_end f b (change g n before after ∷ es) k next counts described = ap (λ o. cond (is_at f b g n) (Some before) o) (first_end f b es k next counts described)
first_end f b (quiet n ∷ es) k next counts described = first_end f b es k next counts described
first_end f b (control n m c d ∷ es) k next counts described = first_end f b es k next counts described
first_end f b (begin n how ∷ es) k next counts described = first_end f b es k next counts described

after_end : (p : Event → Bool) (xs ys : List Event) → has p xs ≡ true → after_first p (xs ++ ys) ≡ after_first p xs ++ ys
after_end p [] ys found = absurd (true≢false (sym found))
after_end p (x ∷ xs) ys found = go (p x) (has p xs) found (λ more. after_end p xs ys more)
  where
    go : (a b : Bool) → a || b ≡ true → (b ≡ true → after_first p (xs ++ ys) ≡ after_first p xs ++ ys) → cond a (xs ++ ys) (after_first p (xs ++ ys)) ≡ cond a xs (after_first p xs) ++ ys
    go true b one more = refl
    go false b one more = more one

module _ (live : List Event) (m k next : ℕ) (counts : Counts) (described : Bool) (found : has (is_point m) live ≡ true) where
  abbrev more : List Event
  more = live ++ control k next counts described ∷ []

  until_same : until_first (is_point m) more ≡ until_first (is_point m) live
  until_same = until_append (is_point m) live (control k next counts described ∷ []) found

  first_same : (f b : ℕ) → first_before f b (after_first (is_point m) more) ≡ first_before f b (after_first (is_point m) live)
  first_same f b = ap (first_before f b) (after_end (is_point m) live (control k next counts described ∷ []) found) ∙ first_end f b (after_first (is_point m) live) k next counts described

  pub count_same : (f : ℕ) → count_at (live ++ control k next counts described ∷ []) m f ≡ count_at live m f
  unfolding count_at
  count_same f = ap (reached_count f 0) until_same

  unlogged_same : (f b : ℕ) → is_unlogged more m f b ≡ is_unlogged live m f b
  unlogged_same f b = λ i. is_none (last_after f b (after_last is_control (until_same i))) && has_no_before (first_same f b i)

  block_same : (f b : ℕ) → told_block more m f b ≡ told_block live m f b
  unfolding told_block
  block_same f b = λ i. or_else (last_after f b (after_last is_control (until_same i))) (undone_to (first_same f b i))

  -- so does a dump
  pick_same : (dumps : Dumps) (d f b : ℕ) → dump_pick more (dumps d) m f b ≡ dump_pick live (dumps d) m f b
  unfolding dump_pick
  pick_same dumps d f b = λ i. value (last_after f b (after_first (is_point (dumps d).point) (until_same i))) None (block_in (dumps d).blocks f b)

  told_same : (how : How) (dumps : Dumps) (f b : ℕ) → told_by how dumps more m f b ≡ told_by how dumps live m f b
  unfolding told_by
  told_same halt_load dumps f b = block_same f b
  told_same back_out dumps f b = block_same f b
  told_same roll_back dumps f b = block_same f b
  told_same (rebuild d) dumps f b = ap Some (pick_same dumps d f b)
  told_same (reconstruct d named) dumps f b = λ i. cond (named f b) (Some (pick_same dumps d f b i)) (block_same f b i)

  takes_same : (how : How) (f b : ℕ) → takes_stored how more m f b ≡ takes_stored how live m f b
  takes_same halt_load f b = unlogged_same f b
  takes_same back_out f b = unlogged_same f b
  takes_same roll_back f b = unlogged_same f b
  takes_same (rebuild d) f b = refl
  takes_same (reconstruct d named) f b = ap (λ t. cond (named f b) false t) (unlogged_same f b)

  keeps_same : (how : How) → keeps_by how more m ≡ keeps_by how live m
  keeps_same how = λ i f b. nat_lt b (count_same f i) && takes_same how f b i

  -- so a restore writes the same
  pub plan_more : (how : How) (files : Files) (t : RestoreTable) → IsPlan (record { entries = live; point = m; how = how }) files t
      → IsPlan (record { entries = live ++ control k next counts described ∷ []; point = m; how = how }) files t
  plan_more how files t p = record {
    runs_free = subst (λ (keeps : ℕ → ℕ → Bool). AreFree (Kept keeps) (all_in t.runs.items)) (sym (keeps_same how)) p.runs_free;
    runs_whole = p.runs_whole;
    free = subst (λ (keeps : ℕ → ℕ → Bool). AreFree (Kept keeps) t.told.items) (sym (keeps_same how)) p.free;
    whole = p.whole;
    all = λ f b x low told size. p.all f b x (subst (λ n. b < n) (count_same f) low) (sym (told_same how _ f b) ∙ told) size;
    only = λ f b x last. told_same how _ f b ∙ p.only f b x last;
  }

-- ---- the restore that is pending

module _ (v : LogView) (asked : Asked) (before own : OpeningPlan) (r : RollsBehind v asked before own) (fits : IsFitPlan before) where
  abbrev es : List Entry
  es = trail_entries v.end.total v.first v.files

  abbrev p : Pending
  p = r.plans.first_plan.chooses.restore

  pending_is : (history_of es).pending ≡ Some p
  pending_is = first_pending asked (history_of es).pending p (r.plans.first_plan.chooses.is.goes_on r.plans.goes_on)

  cut : PendingCut (events es) p
  cut = pending_cuts (events es) p (alone_events es r.whole.stands.kept.alone) pending_is

  point_is : p.point ≡ before.choice.point
  point_is = r.plans.first_plan.chooses.is.point_is

  last : LastIsDescribed es
  last = record {
    point = p.point;
    last = cut.last;
    lives = r.whole.stands.kept.steady.point_lives p pending_is;
    bytes = before.schema.items;
    schema_is = ap (schema_at es) point_is ∙ r.plans.first_plan.schema_is;
    some = omega (arith, fits.described.0);
    few = fits.described.1;
  }

  pub first_writes : WritesFor v r.plans.first_plan.chooses.restore before
  first_writes = record { start = r.start; plan_is = r.plans.first_plan.plan_is }

  -- it is planned as an opening plans it
  pub planned_before : IsPlanned v before
  planned_before = record {
    start = r.start;
    plans = record {
      chooses = record {
        none = judged v.end.total v.first v.files r.whole last;
        restore = p;
        is = record {
          point_is = point_is;
          new = λ on. absurd (true≢false (sym on ∙ r.plans.goes_on));
          goes_on = λ off. pending_is;
        };
      };
      plan_is = r.plans.first_plan.plan_is;
      counts_are = r.plans.first_plan.counts_are;
      schema_is = r.plans.first_plan.schema_is;
      next_is = r.plans.first_plan.next_is;
    };
  }

  -- all points of files that hold a database
  reopened : (said : Option (List ℕ)) (x : Left) → Reopens (telling v) v.files said x → RollsTo (telling v) v.files own.choice.point x
  reopened said x all = inl (record { whole = all.whole; points = all.points_same; next = omega (arith, all.not_fallen, all.not_risen) })

  -- it has ended
  module _ (w : LogView) (total : w.end.total ≡ v.end.total) (first : w.first ≡ v.first) (runs : RunsFrom v.files before.choice.point before.next before.schema.items before.counts.items w) (read : IsAnOutcome (state w)) where
    tells : telling w ≡ telling v
    tells = λ i. telling_of (total i) (first i)

    abbrev bs : List Entry
    bs = trail_entries w.end.total w.first w.files

    sealed : bs ++ waits w.end ≡ bs
    sealed = ap (λ (l : List Entry). bs ++ l) runs.nothing ∙ append_none bs

    same_trail : trail_entries w.end.total w.first v.files ≡ es
    same_trail = λ i. trail_entries (total i) (first i) v.files

    ends_are : bs ≡ es ++ ending_entries before.choice.point before.next before.schema.items before.counts.items
    ends_are =
        sym sealed ∙ runs.entries_are
        ∙ (λ i. same_trail i ++ opening_entries (history_of (same_trail i)).pending before.choice.point before.next before.schema.items before.counts.items)
        ∙ ap (λ (q : Option Pending). es ++ opening_entries q before.choice.point before.next before.schema.items before.counts.items) pending_is

    pub start_behind : LogStarts w
    start_behind = starts_of w runs.runs.ends runs.nothing runs.only

    whole_behind : IsWhole (telling w) w.files
    whole_behind = running_whole (telling w) (state w) runs.runs.runs read

    none_behind : (history_of bs).pending ≡ None
    none_behind = ap (λ (l : List Entry). (history_of l).pending) (sym (append_none bs)) ∙ (runs.runs.runs.each 0 read.0 read.1).none

    abbrev counts : List FileCount
    counts = file_counts 30001 before.counts.items

    live_behind : live_of bs ≡ live_of es ++ control before.choice.point before.next (counts_in counts) true ∷ []
    live_behind =
        let b = some_bodies before.schema.items fits.described.0 in
        ap live_of (ends_are ∙ (λ i. es ++ (schema_entries (b.2 i) ++ control_point before.choice.point before.next counts ∷ [])))
        ∙ ap (λ (h : History). h.live) (whole_is (telling v).first es ((telling v).dumps v.files) r.whole.base (stored_of v.files) before.choice.point before.next b.0 b.1 counts)

    points_behind : points_of (telling w) w.files ≡ points_of (telling v) v.files
    points_behind =
        ap (λ (l : List Entry). points_told ((telling w).dumps w.files) l (stored_of w.files)) (sym sealed) ∙ runs.points_same ∙ ap (λ (t : Telling). points_of t v.files) tells

    next_behind : next_in (telling w) w.files ≡ next_in (telling v) v.files
    next_behind = ap (λ (l : List Entry). next_of l) (sym sealed) ∙ runs.next_is ∙ sym r.plans.first_plan.next_is

    -- ---- the rollback

    abbrev m : ℕ
    m = own.choice.point

    lives : IsLive (live_of bs) m
    lives = subst (λ (l : List Event). IsLive l m) (sym live_behind) (live_more (live_of es) (control before.choice.point before.next (counts_in counts) true ∷ []) m r.plans.own_plan.lives)

    plan_behind : (new : Files) → Grown v.end.total v.first v.files new → SameDumps v.files new → IsPlan (any_to w m by_roll_back) new own.table
    plan_behind new grown dumps =
        subst (λ (l : List Event). IsPlan (record { entries = l; point = m; how = roll_back }) new own.table) (sym live_behind)
        (plan_more (live_of es) m before.choice.point before.next (counts_in counts) true r.plans.own_plan.lives.found roll_back new own.table
        (subst (λ (k : Kind). IsPlan (record { entries = live_of es; point = m; how = how_of k }) new own.table) r.kind_is (r.plans.own_plan.plan_is new grown dumps)))

    counted : (f : ℕ) → count_at (live_of es) m f ≡ count_at (live_of bs) m f
    counted f =
        sym (count_same (live_of es) m before.choice.point before.next (counts_in counts) true r.plans.own_plan.lives.found f) ∙ ap (λ (l : List Event). count_at l m f) (sym live_behind)

    stored_counts : here ((telling w).dumps w.files) (history_of bs) (stored_of w.files) ≡ stored_of w.files
    stored_counts = ap (λ (q : Option Pending). here_by q ((telling w).dumps w.files) (stored_of w.files)) none_behind

    -- it may begin
    pub begins_behind : Grown v.end.total v.first v.files w.files → SameDumps v.files w.files → MayBegin w (stored_of w.files) by_roll_back own
    begins_behind grown dumps = record {
      begins = r.plans.own_plan.begins;
      writes = writes_behind v w (any_to w m by_roll_back) own total first start_behind grown dumps (record { start = r.start; plan_is = plan_behind });
      counts_are = λ f. r.plans.own_plan.counts_are f ∙ counted f;
      next_is = next_behind ∙ r.plans.own_plan.next_is;
      from = begins_any w w.files start_behind (λ g upto. refl) whole_behind m by_roll_back lives (λ f b off. ap (λ (s : Stored). s f b) (sym stored_counts)) tt tt;
    }

    -- what holds of those files holds of the ones before
    back : (x : Files) → HoldsUpTo (telling w) w.files m x → HoldsUpTo (telling v) v.files m x
    back x h = record {
      whole = subst (λ (t : Telling). IsWhole t x) tells h.whole;
      points_are = ap (λ (t : Telling). points_of t x) (sym tells) ∙ h.points_are ∙ ap (described_to m) points_behind;
      next_same = ap (λ (t : Telling). next_in t x) (sym tells) ∙ h.next_same ∙ next_behind;
    }

    back_same : (x : Files) → HoldsSame (telling w) w.files x → HoldsSame (telling v) v.files x
    back_same x h = record {
      whole = subst (λ (t : Telling). IsWhole t x) tells h.whole;
      points = ap (λ (t : Telling). points_of t x) (sym tells) ∙ h.points ∙ points_behind;
      next = ap (λ (t : Telling). next_in t x) (sym tells) ∙ h.next ∙ next_behind;
    }

    pub ends_behind : (x : LogView) → x.end.total ≡ w.end.total → x.first ≡ w.first → RunsTo w (stored_of w.files) by_roll_back own x → IsAnOutcome (state x) → HoldsUpTo (telling v) v.files own.choice.point x.files × Only x.files x.clock
    ends_behind x same_total same_first to now = (
      back x.files (holds_up_to w x w.files start_behind (λ g upto. refl) whole_behind by_roll_back own (next_behind ∙ r.plans.own_plan.next_is) same_total same_first to now),
      to.only,
    )

    left_behind : (x : Left) → BeginLeaves (telling w) (state w) (stored_of w.files) m x → RollsTo (telling v) v.files m x
    left_behind x leaves = elim (rolls w.end.total w.first m w.files x (first_low w.end w.first [] w.files w.clock start_behind.ends) whole_behind (restores_to w w.files start_behind (λ g upto. refl) whole_behind m x leaves)) [
      | inl all ↦ inl (back_same x.files all)
      | inr up ↦ inr (back x.files up)
    ]

    -- at every moment of both
    pub leaves_behind : (later : Clock Left) (said : Option (List ℕ)) → Runs v.clock w.clock (Reopens (telling v) v.files said) → Runs w.clock later (BeginLeaves (telling w) (state w) (stored_of w.files) own.choice.point) → Runs v.clock later (RollsTo (telling v) v.files own.choice.point)
    leaves_behind later said one two = runs_on (runs_weaken one (reopened said)) two left_behind

  pub leaves_first : (later : Clock Left) (said : Option (List ℕ)) → Runs v.clock later (Reopens (telling v) v.files said) → Runs v.clock later (RollsTo (telling v) v.files own.choice.point)
  leaves_first later said one = runs_weaken one (reopened said)
