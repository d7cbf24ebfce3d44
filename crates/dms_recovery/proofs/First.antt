-- A restore that is pending is ended before a reconstruction, while the named blocks hold anything.
use Rattle.std.proofs.Common.{ℕ, ◌≤◌, ◌<◌, ◌≡◌, inl, inr, Bool, true, false, List, [], ◌∷◌, ◌++◌, length, take, Option, Some, None, refl, sym, ◌∙◌, ap, subst, arith}
use Rattle.dms_moments.specs.Moments.{Clock, Runs}
use Rattle.dms_moments.specs.MomentLaws.{runs_on, runs_weaken}
use Rattle.dms_site.specs.Files.{Files, Left, Only, stored_of}
use Rattle.dms_site.specs.StoredLaws.{stored_whole}
use Rattle.dms_history.specs.Events.{AllBlocks, Stored, Event, control, reconstruct, block_in}
use Rattle.dms_history.specs.Here.{here, here_by, outcome, restore_pick}
use Rattle.dms_history.specs.History.{Pending, History, last_point}
use Rattle.dms_history.specs.Lists.{has}
use Rattle.dms_history.specs.LawsOfRestores.{PendingCut, with_named}
use Rattle.dms_history.specs.Pick.{Dumps, count_at}
use Rattle.dms_history.specs.Places.{is_point, IsLive}
use Rattle.dms_history.specs.Points.{live_points}
use Rattle.dms_history.specs.Restores.{DumpServes, Ready}
use Rattle.dms_history.specs.Entries.{Entry, Kind, by_reconstruct, control_point, counts_in, named_by}
use Rattle.dms_history.specs.EntryEvents.{events, history_of, live_of, next_of}
use Rattle.dms_history.specs.Kept.{content_told}
use Rattle.dms_history.specs.Schemas.{schema_entries}
use Rattle.dms_history.specs.declared.event.FileCount.{FileCount}
use Rattle.dms_history.specs.declared.event.Row.{Row}
use Rattle.dms_history.proofs.Alone.{alone_events}
use Rattle.dms_history.proofs.LastPending.{pending_cuts}
use Rattle.dms_history.proofs.Order.{append_none}
use Rattle.dms_history.proofs.Picks.{option_cases, some_is}
use Rattle.dms_history.proofs.Running.{live_more}
use Rattle.dms_history.proofs.Stops.{here_is, outcome_block, outcome_length}
use Rattle.dms_audrec.specs.Bodies.{bodies}
use Rattle.dms_audfile.specs.Ends.{Grown}
use Rattle.dms_audfile.specs.Header.{tag_said}
use Rattle.dms_audfile.specs.TrailEntries.{trail_entries}
use Rattle.dms_running.specs.AnyBegun.{BeginLeaves, IsUntouched, points_to}
use Rattle.dms_running.specs.ByHow.{told_by, IsKeptBy}
use Rattle.dms_running.specs.FirstLaws.{as_counted, first_plan, EndedCounted, StandsCounted}
use Rattle.dms_running.specs.FromDumps.{DumpsInOrder, OrderBy}
use Rattle.dms_running.specs.Points.{points_of, points_told, next_in}
use Rattle.dms_running.specs.Restoring.{Rewritten}
use Rattle.dms_running.specs.Running.{IsAnOutcome}
use Rattle.dms_running.specs.Standing.{IsWhole, Stands}
use Rattle.dms_running.specs.Telling.{Telling, IsTelling}
use Rattle.dms_running.proofs.AnyRestore.{kept_whole}
use Rattle.dms_running.proofs.ByHow.{tells_by}
use Rattle.dms_running.proofs.Controlled.{part_next, part_order, whole_is, whole_next}
use Rattle.dms_running.proofs.EndsFirst.{any_ends_first, any_writes_first}
use Rattle.dms_running.proofs.FromDumps.{none_order, order_stays}
use Rattle.dms_running.proofs.Plain.{take_whole}
use Rattle.dms_running.proofs.SizedContent.{stands_sized}
use Rattle.dms_running.proofs.Stopped.{blocks_same}
use Rattle.dms_restore.specs.Begins.{BeginsAny, any_to}
use Rattle.dms_restore.specs.Counts.{file_counts}
use Rattle.dms_restore.specs.Dumped.{IsDumpFound, dumps_of}
use Rattle.dms_restore.specs.Logging.{LogView, TrailKept, telling_of, telling, state}
use Rattle.dms_restore.specs.Over.{EndsOver, LeavesOver, WritesOver}
use Rattle.dms_restore.specs.Table.{IsPlan}
use Rattle.dms_restore.specs.Views.{LogStarts}
use Rattle.dms_restore.proofs.CountBytes.{counts_say}
use Rattle.dms_restore.proofs.Laid.{some_bodies}
use Rattle.dms_restore.proofs.Trails.{found_dump, waits_is}
use Rattle.dms_opening.specs.declared.asked.Asked.TheVariants.{Reconstruct}
use Rattle.dms_opening.specs.declared.plan.OpeningPlan.{OpeningPlan}
use Rattle.dms_opening.specs.Asked.{judge_own}
use Rattle.dms_opening.specs.Carrying.{IsFitPlan, MayBegin, RunsTo, WritesFor}
use Rattle.dms_opening.specs.Claims.{ends_of}
use Rattle.dms_opening.specs.DumpLooks.{look_of, dump_begun, dump_asked}
use Rattle.dms_opening.specs.Openings.{ending_entries}
use Rattle.dms_opening.specs.Plans.{SameDumps}
use Rattle.dms_opening.proofs.Chosen.{own_none}
use Rattle.dms_opening.proofs.Prepared.{first_pending}
use Rattle.dms_recovery.specs.Leaving.{described_to, HoldsCounted, HoldsUpTo, MendsTo}
use Rattle.dms_recovery.specs.Mending.{MendsBehind}
use Rattle.dms_recovery.proofs.Beginning.{dumps_is, entries_is, map_to, stands_here, tells_it, copied_dump}
use Rattle.dms_recovery.proofs.Behind.{count_same, plan_more}
use Rattle.dms_recovery.proofs.Ended.{holds_points}
use Rattle.dms_recovery.proofs.Orders.{dump_serves, order_asked}
use Rattle.dms_recovery.proofs.Rounds.{writes_behind}

module _ (v : LogView) (u : Files) (d : ℕ) (rows : List Row) (before own : OpeningPlan) (r : MendsBehind v u d rows before own) (fits : IsFitPlan before) where
  abbrev t : Telling
  t = telling v

  abbrev named : ℕ → ℕ → Bool
  named = named_by rows

  abbrev es : List Entry
  es = trail_entries v.end.total v.first v.files

  abbrev dumps : Dumps
  dumps = dumps_of v.files

  abbrev right : Stored
  right = stored_of u

  abbrev same : (g : ℕ) → g ≤ 30000 → v.files g ≡ u g
  same = r.mended.rebuilt.same

  abbrev whole : IsWhole (telling v) u
  whole = r.mended.rebuilt.whole

  it_tells : IsTelling t
  it_tells = tells_it v u r.start same whole

  same_entries : es ≡ t.entries u
  same_entries = entries_is v u r.start same whole

  same_dumps : dumps ≡ t.dumps u
  same_dumps = dumps_is v u r.start same whole

  found : t.found v.files
  found = it_tells.found_low v.files u same whole.found

  stands : Stands t.first es dumps whole.base right
  stands = stands_here v u r.start same whole

  -- ---- the restore that is pending

  abbrev p : Pending
  p = r.plans.first_plan.chooses.restore

  pending_is : (history_of es).pending ≡ Some p
  pending_is = first_pending (Reconstruct d) (history_of es).pending p (r.plans.first_plan.chooses.is.goes_on r.plans.goes_on)

  placed : has (is_point p.point) (live_of es) ≡ true
  placed = (stands.kept.steady.point_lives p pending_is).found

  point_is : p.point ≡ before.choice.point
  point_is = r.plans.first_plan.chooses.is.point_is

  next_is : next_of es ≡ before.next
  next_is = r.plans.first_plan.next_is

  order : DumpsInOrder (t.dump_found v.files) dumps (history_of es).pending
  order = order_stays t it_tells u v.files (history_of es).pending (λ g up below. same g below) (λ k dump. it_tells.dump_found_low v.files u k same dump)
      (subst (λ (l : List Entry). DumpsInOrder (t.dump_found u) (t.dumps u) (history_of l).pending) (sym same_entries) whole.order)

  pub pending_writes : WritesFor v r.plans.first_plan.chooses.restore before
  pending_writes = record { start = r.start; plan_is = r.plans.first_plan.plan_is }

  -- ---- the point of the reconstruction is that of the restore, and its dump serves it

  abbrev m : ℕ
  m = own.choice.point

  abbrev kind : Kind
  kind = by_reconstruct d rows

  same_point : m ≡ p.point
  same_point =
      let cut : PendingCut (events es) p = pending_cuts (events es) p (alone_events es stands.kept.alone) pending_is in
      some_is m p.point (sym r.plans.own_plan.point_is ∙ cut.last)

  abbrev tag : ℕ
  tag = tag_said (v.files v.first)

  own_judged : judge_own v.first (live_of es) (next_of es) (last_point (history_of es)) (Reconstruct d) (look_of tag (dump_asked v.files (Reconstruct d))) ≡ None
  own_judged = own_none v.first (history_of es) (next_of es) (Reconstruct d) (look_of tag (dump_begun v.files (history_of es).pending)) (look_of tag (dump_asked v.files (Reconstruct d))) r.plans.first_plan.chooses.none

  own_order : OrderBy (IsDumpFound v.first v.files) dumps (any_to v m kind) (reconstruct d named)
  own_order = order_asked v.first (next_of es) m v.files (live_of es) (last_point (history_of es)) (Reconstruct d) rows own_judged r.plans.own_plan.point_is

  serves : DumpServes (dumps d) (live_of es) (here dumps (history_of es) right) p.point
  serves = subst (λ n. DumpServes (dumps d) (live_of es) (here dumps (history_of es) right) n) same_point
      (dump_serves (reconstruct d named) (IsDumpFound v.first v.files) dumps (live_of es) whole.base (here dumps (history_of es) right) (next_of es) m (any_to v m kind) refl stands.kept.steady.sound stands.kept.numbered r.plans.own_plan.lives
      (copied_dump v u r.start same whole d r.mended.rebuilt.copied_dump) own_order)

  -- ---- blocks are written

  counted_over : (y : Files) → Rewritten (IsKeptBy p.how p.entries p.point) v.files y → StandsCounted t.first es dumps whole.base named right y
  counted_over y w = any_writes_first t.first es dumps whole.base p named right v.files y pending_is stands r.mended.beside (record { others = w.others; longer = w.longer; kept = λ f b keeps. w.kept f b keeps.0 })

  picks : (f b : ℕ) → b < count_at p.entries p.point f → here dumps (history_of es) right f b ≡ restore_pick p.how dumps p.entries p.point right f b
  picks f b low = ap (λ (s : Stored). s f b) (here_is dumps (history_of es) p right pending_is) ∙ outcome_block p.how dumps p.entries p.point f b right low

  sized : (f b : ℕ) → b < count_at p.entries p.point f → length (restore_pick p.how dumps p.entries p.point right f b) ≡ 1024
  sized f b low =
      let left : outcome p.how dumps p.entries p.point right ≡ content_told es whole.base = stands.kept.steady.restored p pending_is in
      let under : b < length (content_told es whole.base f) = subst (λ (c : AllBlocks). b < length (c f)) left (omega (arith, low, outcome_length p.how dumps p.entries p.point f right)) in
      let block : block_in (content_told es whole.base) f b ≡ restore_pick p.how dumps p.entries p.point right f b = ap (λ (c : AllBlocks). block_in c f b) (sym left) ∙ outcome_block p.how dumps p.entries p.point f b right low in
      sym (ap length block) ∙ stands_sized t.first es dumps whole.base right stands f b under

  -- each block that isn't named stands as it counts
  stand : (y : Files) → WritesOver p v.files y → (f b : ℕ) → b < count_at p.entries p.point f → named f b ≡ false → stored_of y f b ≡ here dumps (history_of es) right f b
  stand y w f b low off =
      let tells = tells_by p.how dumps p.entries p.point f b in
      let at = picks f b low in
      elim (option_cases (told_by p.how dumps p.entries p.point f b)) [
        | inl none ↦
            let kept : IsKeptBy p.how p.entries p.point f b = (low, tells.unwritten none) in
            let beside = r.mended.beside f b off in
            let long : length (stored_of v.files f b) ≡ 1024 = ap length beside ∙ kept_whole t.first es dumps whole.base p pending_is right stands f b kept in
            w.written.kept f b kept (stored_whole v.files f b long).1 ∙ beside ∙ sym (at ∙ tells.kept right none)
        | inr some ↦
            let left = tells.told right some.0 some.1 in
            w.told f b low some.0 some.1 (sym (ap length left) ∙ sized f b low) ∙ sym (at ∙ left)
      ]

  -- ---- a Schema and a Control are sealed

  abbrev counts : List FileCount
  counts = file_counts 30001 before.counts.items

  abbrev bodied : (one : List ℕ) × (rest : List (List ℕ)) × (bodies before.schema.items ≡ one ∷ rest)
  bodied = some_bodies before.schema.items fits.described.0

  abbrev plan : List Entry
  plan = first_plan p before.next bodied.0 bodied.1 counts

  plan_is : ends_of before ≡ plan
  plan_is = λ i. schema_entries (bodied.2 i) ++ control_point (sym point_is i) before.next counts ∷ []

  ended : (y : Files) → WritesOver p v.files y → EndedCounted t.first es dumps whole.base p named d right y plan
  ended y w = any_ends_first t.first es dumps whole.base p named d right y before.next bodied.0 bodied.1 counts pending_is stands (counted_over y w.written) serves (omega (arith, next_is))
      (λ f. counts_say before.counts.items f ∙ r.plans.first_plan.counts_are f) (stand y w)

  whole_stands : (y : Files) → WritesOver p v.files y → Stands t.first (es ++ plan) dumps whole.base (as_counted dumps es named right y)
  whole_stands y w = subst (λ (l : List Entry). Stands t.first (es ++ l) dumps whole.base (as_counted dumps es named right y)) (take_whole plan) ((ended y w).stands (length plan))

  whole_points : (y : Files) → WritesOver p v.files y → points_told dumps (es ++ plan) (as_counted dumps es named right y) ≡ points_told dumps es right
  whole_points y w = ap (λ (l : List Entry). points_told dumps (es ++ l) (as_counted dumps es named right y)) (sym (take_whole plan)) ∙ (ended y w).points (length plan)

  -- ---- what a stop leaves meanwhile

  module _ (x y : Files) (k : ℕ) (l : List Entry) (sealed : t.entries x ≡ es ++ take k (ends_of before)) (is : t.entries x ≡ l) (above : (g : ℕ) → 20000 < g → g ≤ 30000 → x g ≡ v.files g) (blocks : stored_of x ≡ stored_of y) where
    abbrev now : Stored
    now = as_counted (t.dumps u) (t.entries u) named right x

    tells_same : t.dumps x ≡ dumps
    tells_same = it_tells.dumps_between x v.files above

    now_is : as_counted dumps es named right y ≡ now
    now_is = λ i. with_named named (here (same_dumps i) (history_of (same_entries i)) right) (sym blocks i)

    counted_then : t.found x → ((k : ℕ) → t.dump_found v.files k → t.dump_found x k) → Stands t.first l dumps whole.base (as_counted dumps es named right y)
        → points_told dumps l (as_counted dumps es named right y) ≡ points_told dumps es right → DumpsInOrder (t.dump_found v.files) dumps (history_of l).pending → next_of l ≡ next_of es → HoldsCounted t v.files u named x
    counted_then finds goes stands points_are ordered next_same = record {
      pending = p;
      was = pending_is;
      some = k;
      schema = before.schema.items;
      counts = before.counts.items;
      sealed = sealed ∙ (λ i. es ++ take k (ending_entries (sym point_is i) (sym next_is i) before.schema.items before.counts.items));
      dumps_same = above;
      found = finds;
      base = whole.base;
      stands = subst (λ (s : Stored). Stands t.first (t.entries x) (t.dumps x) whole.base s) now_is
          (subst (λ (e : Dumps). Stands t.first (t.entries x) e whole.base (as_counted dumps es named right y)) (sym tells_same)
          (subst (λ (j : List Entry). Stands t.first j dumps whole.base (as_counted dumps es named right y)) (sym is) stands));
      order = subst (λ (j : List Entry). DumpsInOrder (t.dump_found x) (t.dumps x) (history_of j).pending) (sym is) (order_stays t it_tells v.files x (history_of l).pending above goes ordered);
      points = (λ i. points_told (tells_same i) (is i) (sym now_is i)) ∙ points_are ∙ (λ i. points_told (same_dumps i) (same_entries i) right);
      next_same = ap (λ (j : List Entry). next_of j) is ∙ next_same ∙ ap (λ (j : List Entry). next_of j) same_entries;
    }

  -- some of it was written
  written_counted : (x : Files) → Rewritten (IsKeptBy p.how p.entries p.point) v.files x → HoldsCounted t v.files u named x
  written_counted x w =
      let c = counted_over x w in
      let is : t.entries x ≡ es = it_tells.entries_low x v.files w.others in
      counted_then x x 0 es (is ∙ sym (append_none es)) is (λ g up below. w.others g below) refl (it_tells.found_low x v.files w.others found) (λ k dump. it_tells.dump_found_low x v.files k w.others dump) c.stands c.points order refl

  -- all was written, in these files
  module _ (y : Files) (w : WritesOver p v.files y) where
    abbrev n : Stored
    n = as_counted dumps es named right y

    mid_is : t.entries y ≡ es
    mid_is = it_tells.entries_low y v.files w.written.others

    over : Stands t.first es dumps whole.base n
    over = (counted_over y w.written).stands

    sealed_counted : (k : ℕ) (x : Files) → t.entries x ≡ t.entries y ++ take k (ends_of before) → ((g : ℕ) → 20000 < g → x g ≡ y g) → (t.found y → t.found x) → ((k : ℕ) → t.dump_found y k → t.dump_found x k) → HoldsCounted t v.files u named x
    sealed_counted k x sealed above finds goes =
        let e = ended y w in
        counted_then x y k (es ++ take k plan) (sealed ∙ ap (λ (l : List Entry). l ++ take k (ends_of before)) mid_is) (sealed ∙ (λ i. mid_is i ++ take k (plan_is i))) (λ g up below. above g up ∙ w.written.others g below) (blocks_same x y above)
        (finds (it_tells.found_low y v.files w.written.others found)) (λ j dump. goes j (it_tells.dump_found_low y v.files j w.written.others dump)) (e.stands k) (e.points k)
        (part_order t.first es dumps whole.base n p.point before.next bodied.0 bodied.1 counts over (whole_stands y w).kept k (t.dump_found v.files) dumps order)
        (part_next t.first es dumps whole.base n p.point before.next bodied.0 bodied.1 counts over (whole_stands y w).kept k (sym next_is))

  -- with the named blocks as they count the database is held
  leaves_counted : (x : Left) → LeavesOver p v (ends_of before) x → HoldsCounted t v.files u named x.files
  leaves_counted x leaves = elim leaves [
    | inl w ↦ written_counted x.files w
    | inr s ↦ sealed_counted s.mid s.writes s.planned.some x.files s.planned.sealed s.planned.above s.planned.found s.planned.dumps_found
  ]

  pub pending_leaves : (later : Clock Left) → Runs v.clock later (LeavesOver r.plans.first_plan.chooses.restore v (ends_of before)) → Runs v.clock later (MendsTo (telling v) v.files u (named_by rows) own.choice.point)
  pending_leaves later runs = runs_weaken runs (λ x leaves. inr (leaves_counted x leaves))

  -- ---- it has ended

  module _ (w : LogView) (over : EndsOver r.plans.first_plan.chooses.restore v w (ends_of before)) (total : w.end.total ≡ v.end.total) (first : w.first ≡ v.first) (start : LogStarts w) (kept : TrailKept v.end.total v.first v.files w.files) (others : SameDumps v.files w.files) where
    tells : telling w ≡ telling v
    tells = λ i. telling_of (total i) (first i)

    abbrev bs : List Entry
    bs = trail_entries w.end.total w.first w.files

    -- the named blocks as they right_counted
    abbrev pub right_counted : Stored
    right_counted = as_counted (dumps_of v.files) (trail_entries v.end.total v.first v.files) (named_by rows) (stored_of u) over.mid

    sealed_are : t.entries w.files ≡ es ++ ends_of before
    sealed_are = over.sealed.sealed ∙ ap (λ (l : List Entry). l ++ ends_of before) (mid_is over.mid over.writes)

    ends_are : bs ≡ es ++ plan
    ends_are = (λ i. trail_entries (total i) (first i) w.files) ∙ sealed_are ∙ ap (λ (l : List Entry). es ++ l) plan_is

    dumps_now : dumps_of w.files ≡ dumps
    dumps_now = it_tells.dumps_between w.files v.files others

    blocks_now : stored_of w.files ≡ stored_of over.mid
    blocks_now = blocks_same w.files over.mid over.sealed.above

    found_now : t.found w.files
    found_now = over.sealed.found (it_tells.found_low over.mid v.files over.writes.written.others found)

    dump_now : (k : ℕ) → IsDumpFound v.first v.files k → IsDumpFound v.first w.files k
    dump_now k = found_dump v.first w.files v.files k kept.tag others

    history_is : history_of bs ≡ history_of (es ++ plan)
    history_is = ap (λ (l : List Entry). history_of l) ends_are

    none_behind : (history_of bs).pending ≡ None
    none_behind = ap (λ (h : History). h.pending) (history_is ∙ whole_is t.first es dumps whole.base right_counted p.point before.next bodied.0 bodied.1 counts)

    live_behind : live_of bs ≡ live_of es ++ control p.point before.next (counts_in counts) true ∷ []
    live_behind = ap (λ (h : History). h.live) (history_is ∙ whole_is t.first es dumps whole.base right_counted p.point before.next bodied.0 bodied.1 counts)

    next_same : next_of (es ++ plan) ≡ next_of es
    next_same = whole_next t.first es dumps whole.base right_counted p.point before.next bodied.0 bodied.1 counts (counted_over over.mid over.writes.written).stands (whole_stands over.mid over.writes).kept (sym next_is)

    next_behind : next_of bs ≡ next_of es
    next_behind = ap (λ (l : List Entry). next_of l) ends_are ∙ next_same

    stands_behind : Stands (telling w).first bs (dumps_of w.files) whole.base right_counted
    stands_behind =
        subst (λ (k : Telling). Stands k.first bs (dumps_of w.files) whole.base right_counted) (sym tells)
        (subst (λ (l : List Entry). Stands t.first l (dumps_of w.files) whole.base right_counted) (sym ends_are)
        (subst (λ (e : Dumps). Stands t.first (es ++ plan) e whole.base right_counted) (sym dumps_now) (whole_stands over.mid over.writes)))

    here_behind : here (dumps_of w.files) (history_of bs) right_counted ≡ right_counted
    here_behind = ap (λ (q : Option Pending). here_by q (dumps_of w.files) right_counted) none_behind

    points_behind : points_told (dumps_of w.files) bs right_counted ≡ points_of t u
    points_behind = (λ i. points_told (dumps_now i) (ends_are i) right_counted) ∙ whole_points over.mid over.writes ∙ (λ i. points_told (same_dumps i) (same_entries i) right)

    -- ---- the reconstruction

    lives_behind : IsLive (live_of bs) m
    lives_behind = subst (λ (l : List Event). IsLive l m) (sym live_behind) (live_more (live_of es) (control p.point before.next (counts_in counts) true ∷ []) m r.plans.own_plan.lives)

    plan_behind : (new : Files) → Grown v.end.total v.first v.files new → SameDumps v.files new → IsPlan (any_to w m kind) new own.table
    plan_behind new grown dumps_same =
        subst (λ (l : List Event). IsPlan (record { entries = l; point = m; how = reconstruct d named }) new own.table) (sym live_behind)
        (plan_more (live_of es) m p.point before.next (counts_in counts) true r.plans.own_plan.lives.found (reconstruct d named) new own.table (r.plans.own_plan.plan_is new grown dumps_same))

    counts_same : (f : ℕ) → count_at (live_of es) m f ≡ count_at (live_of bs) m f
    counts_same f = sym (count_same (live_of es) m p.point before.next (counts_in counts) true r.plans.own_plan.lives.found f) ∙ ap (λ (l : List Event). count_at l m f) (sym live_behind)

    ready_behind : Ready (reconstruct d named) (dumps_of w.files) (live_of bs) whole.base (here (dumps_of w.files) (history_of bs) right_counted) (stored_of w.files) m
    ready_behind =
        subst (λ (s : Stored). Ready (reconstruct d named) (dumps_of w.files) (live_of bs) whole.base s (stored_of w.files) m) (sym here_behind)
        (subst (λ (s : Stored). Ready (reconstruct d named) (dumps_of w.files) (live_of bs) whole.base right_counted s m) (sym blocks_now)
        (subst (λ (l : List Entry). Ready (reconstruct d named) (dumps_of w.files) (live_of l) whole.base right_counted (stored_of over.mid) m) (sym ends_are)
        (subst (λ (e : Dumps). Ready (reconstruct d named) e (live_of (es ++ plan)) whole.base right_counted (stored_of over.mid) m) (sym dumps_now)
        (subst (λ n. Ready (reconstruct d named) dumps (live_of (es ++ plan)) whole.base right_counted (stored_of over.mid) n) (sym same_point) (ended over.mid over.writes).ready))))

    order_behind : OrderBy (IsDumpFound w.first w.files) (dumps_of w.files) (any_to w m kind) (reconstruct d named)
    order_behind = record {
      is_found = subst (λ n. IsDumpFound n w.files d) (sym first) (dump_now d own_order.is_found);
      point_lives = subst (λ (e : Dumps). IsLive (live_of bs) (e d).point) (sym dumps_now)
          (subst (λ (l : List Event). IsLive l (dumps d).point) (sym live_behind) (live_more (live_of es) (control p.point before.next (counts_in counts) true ∷ []) (dumps d).point own_order.point_lives));
      end_lives = subst (λ (e : Dumps). IsLive (live_of bs) (e d).end) (sym dumps_now)
          (subst (λ (l : List Event). IsLive l (dumps d).end) (sym live_behind) (live_more (live_of es) (control p.point before.next (counts_in counts) true ∷ []) (dumps d).end own_order.end_lives));
      point_low = subst (λ (e : Dumps). (e d).point ≤ m) (sym dumps_now) own_order.point_low;
      end_low = subst (λ (e : Dumps). (e d).end ≤ m) (sym dumps_now) own_order.end_low;
    }

    begins_any : BeginsAny w right_counted m kind
    begins_any = record {
      starts = start;
      from = record {
        base = whole.base;
        nothing = waits_is w.end w.first [] w.files w.clock start.ends;
        only = start.only;
        found = subst (λ (k : Telling). k.found w.files) (sym tells) found_now;
        stands = stands_behind;
        ready = ready_behind;
        order = order_behind;
      };
    }

    -- it may begin
    pub begins_mending : MayBegin w right_counted (by_reconstruct d rows) own
    begins_mending = record {
      begins = r.plans.own_plan.begins;
      writes = writes_behind v w (any_to w m kind) own total first start kept.grown others (record { start = r.start; plan_is = plan_behind });
      counts_are = λ f. r.plans.own_plan.counts_are f ∙ counts_same f;
      next_is = next_behind ∙ r.plans.own_plan.next_is;
      from = begins_any;
    }

    points_up_to : points_to (telling w) (state w) right_counted m ≡ described_to m (points_of t u)
    points_up_to = map_to bs m (live_points (live_of bs) (here (dumps_of w.files) (history_of bs) right_counted)) ∙ ap (described_to m) points_behind

    next_up_to : next_of bs ≡ next_in t u
    next_up_to = next_behind ∙ ap (λ (l : List Entry). next_of l) same_entries

    -- it has ended too
    pub ends_mending : (x : LogView) → x.end.total ≡ w.end.total → x.first ≡ w.first → RunsTo w right_counted (by_reconstruct d rows) own x → IsAnOutcome (state x) → HoldsUpTo (telling v) u own.choice.point x.files × Only x.files x.clock
    ends_mending x total_same first_same runs read = (
      subst (λ (k : Telling). HoldsUpTo k u m x.files) tells
          (holds_points w x u right_counted kind own (points_up_to ∙ ap (λ (k : Telling). described_to m (points_of k u)) (sym tells)) (sym r.plans.own_plan.next_is ∙ ap (λ (l : List Entry). next_of l) same_entries ∙ ap (λ (k : Telling). next_in k u) (sym tells)) total_same first_same runs read),
      runs.only,
    )

    untouched_counted : (x : Left) → IsUntouched t w.files x → HoldsCounted t v.files u named x.files
    untouched_counted x un =
        let sealed : t.entries x.files ≡ es ++ ends_of before = un.entries_same ∙ sealed_are in
        counted_then x.files over.mid (length (ends_of before)) (es ++ plan) (sealed ∙ ap (λ (l : List Entry). es ++ l) (sym (take_whole (ends_of before)))) (sealed ∙ ap (λ (l : List Entry). es ++ l) plan_is)
        (λ g up below. un.above g up ∙ others g up below) (blocks_same x.files w.files un.above ∙ blocks_now) un.found (λ k dump. un.dumps_found k (dump_now k dump)) (whole_stands over.mid over.writes) (whole_points over.mid over.writes)
        (none_order (t.dump_found v.files) dumps (history_of (es ++ plan)).pending (ap (λ (h : History). h.pending) (whole_is t.first es dumps whole.base right_counted p.point before.next bodied.0 bodied.1 counts))) next_same

    left_first : (x : Left) → BeginLeaves (telling w) (state w) right_counted m x → MendsTo t v.files u named m x
    left_first x leaves = elim leaves [
      | inl un ↦ inr (untouched_counted x (subst (λ (k : Telling). IsUntouched k w.files x) tells un))
      | inr begun ↦
          inl (inr (record {
            whole = subst (λ (k : Telling). IsWhole k x.files) tells begun.whole;
            points_are = ap (λ (k : Telling). points_of k x.files) (sym tells) ∙ begun.points ∙ points_up_to;
            next_same = ap (λ (k : Telling). next_in k x.files) (sym tells) ∙ begun.next_same ∙ next_up_to;
          }))
    ]

    -- at every moment of both
    pub leaves_mending : (later : Clock Left) → Runs v.clock w.clock (LeavesOver r.plans.first_plan.chooses.restore v (ends_of before)) → Runs w.clock later (BeginLeaves (telling w) (state w) right_counted own.choice.point)
        → Runs v.clock later (MendsTo (telling v) v.files u (named_by rows) own.choice.point)
    leaves_mending later one two = runs_on (pending_leaves w.clock one) two left_first
