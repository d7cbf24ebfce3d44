-- What each statement leaves, as states that files stand for.
use Rattle.std.specs.Prelude.{◌≢◌}
use Rattle.std.proofs.Common.{ℕ, ◌+◌, ◌≤◌, ◌≡◌, inl, inr, List, map, Option, Some, None, refl, sym, ◌∙◌, ap, subst, arith}
use Rattle.std.proofs.lemmas.Option.{same_Some}
use Rattle.dms_desc.specs.Shape.{Described}
use Rattle.dms_model.specs.Db.{Db}
use Rattle.dms_moments.specs.Moments.{Runs, Clock, Steps}
use Rattle.dms_moments.specs.MomentLaws.{runs_weaken, runs_step}
use Rattle.dms_site.specs.Files.{Only, Files, Left, stored_of}
use Rattle.dms_site.specs.StoredLaws.{stored_same}
use Rattle.dms_site.specs.declared.site.Site.{Ghosts}
use Rattle.dms_history.specs.Events.{Stored}
use Rattle.dms_history.specs.Here.{here}
use Rattle.dms_history.specs.History.{last_point}
use Rattle.dms_history.specs.Pick.{Dump, content_of}
use Rattle.dms_history.specs.Restores.{IsTrueDump}
use Rattle.dms_history.specs.Entries.{Entry, counts_in}
use Rattle.dms_history.specs.EntryEvents.{history_of, live_of}
use Rattle.dms_history.specs.SchemaAt.{schema_at}
use Rattle.dms_history.specs.declared.event.FileCount.{FileCount}
use Rattle.dms_history.proofs.Copied.{true_dump_is_copied}
use Rattle.dms_audfile.specs.Scanning.{place_in}
use Rattle.dms_audfile.specs.Header.{tag_said}
use Rattle.dms_audfile.specs.TrailEntries.{trail_entries}
use Rattle.dms_audfile.proofs.Ended.{entries_settled}
use Rattle.dms_dump.specs.Body.{AllStored, dump_of}
use Rattle.dms_dump.specs.Judged.{dump_read}
use Rattle.dms_dump.proofs.Bodies.{dump_is_read}
use Rattle.dms_running.specs.AnyLaws.{HoldsSame}
use Rattle.dms_running.specs.Standing.{IsWhole}
use Rattle.dms_running.proofs.Appending.{now_runs}
use Rattle.dms_restore.specs.Dumped.{dumps_of}
use Rattle.dms_restore.specs.Finding.{IsFoundFrom}
use Rattle.dms_restore.specs.Logging.{LogView, telling_of, telling, state}
use Rattle.dms_restore.specs.Views.{view_of}
use Rattle.dms_restore.proofs.Logs as logs
use Rattle.dms_opening.specs.Openings.{IsTrailFound, RunsFrom, Reopens, ReopensSince}
use Rattle.dms_opening.specs.declared.opened.Opened.{Opened}
use Rattle.dms_statements.specs.declared.statement.NamedRow.{NamedRow}
use Rattle.dms_recovery.specs.Rows.{named_blocks}
use Rattle.dms_run.specs.State.{StateAt, StateOf}
use Rattle.dms_run.proofs.Held as held
use Rattle.dms_run.proofs.Lives.{one_found}
use Rattle.dms_statelaws.specs.Dumps.{SameBesideBlocks, HasDumpAt}
use Rattle.dms_statelaws.specs.Standing.{StandsFrom}
use Rattle.dms_recovery.specs.Leaving.{RollsTo, HoldsUpTo, IsRebuiltFrom}
use Rattle.dms_recovery.specs.Wanting.{chosen_point, chosen as number_chosen, last_of}
use Rattle.dms_statelaws.specs.Stopping.{RestoresTo, MendsTo}
use Rattle.dms_statelaws.specs.Statements.{HasLast, IsChosen, RebuiltState, MendedState, LeavesRestored, LeavesMended, EndsAs, DumpStands}
use Rattle.dms_statelaws.specs.SiteLaws.{SameFiles, SaysBehind, RollbackLaw, RebuildLaw, RebuildsSince, RebuildsEnd, ReconstructLaw, MendsFrom, MendsSince, MendsEnd, OpensOver, WritesDump, HasDumped, DumpLaw}
use Rattle.dms_statelaws.proofs.Trails.{writes_within, trail_same_files}
use Rattle.dms_statelaws.proofs.Stays.{found_same, dump_holds}
use Rattle.dms_statelaws.proofs.Kept.{is_whole, up_to_stands, all_stands}
use Rattle.dms_statelaws.proofs.Ends.{sealed_all, runs_same}
use Rattle.dms_statelaws.proofs.Dumping as dumping
use Rattle.dms_statelaws.proofs.Counted.{mends_state}
use Rattle.dms_statelaws.proofs.Stands.{rolls_either, restores_state, rebuilt}

-- ---- the trail of files that stand for a state

module _ (files : Files) (n : ℕ) (desc : Described) (db : Db) (a : StateAt files n desc db) where
  abbrev pub total : ℕ
  total = held.total files n desc db a

  abbrev pub first : ℕ
  first = held.first files n desc db a

  pub state_trail : IsTrailFound total first files
  state_trail =
      let k = held.placed_trail files n desc db a in
      record {
        places = map place_in a.finds.placed;
        found = record { entries = a.finds.placed; places_are = refl; trail = a.finds.trail; first_is = refl };
        tag = k.tag;
        file = k.file;
        count = k.count;
        writes = k.writes;
      }

  pub state_whole : IsWhole (telling_of total first) files
  state_whole = held.whole files n desc db a

-- the same of files that differ in structure files alone
module _ (files u : Files) (n : ℕ) (desc : Described) (db : Db) (same : SameBesideBlocks files u) (a : StateAt u n desc db) where
  pub trail_beside : IsTrailFound (total u n desc db a) (first u n desc db a) files
  trail_beside = trail_same_files (total u n desc db a) (first u n desc db a) u files (state_trail u n desc db a) (λ g low. same g (omega (arith, low)))

  entries_beside : trail_entries (total u n desc db a) (first u n desc db a) files ≡ trail_entries (total u n desc db a) (first u n desc db a) u
  entries_beside =
      let w = writes_within (total u n desc db a) (first u n desc db a) u (state_trail u n desc db a) in
      entries_settled (total u n desc db a) w.tag (first u n desc db a) w.file w.count u files w.low w.high w.writes (λ g from upto. same g (omega (arith, upto, w.high)))

  -- they are those of the state
  pub state_entries : trail_entries (total u n desc db a) (first u n desc db a) files ≡ a.entries
  state_entries = entries_beside ∙ sym (one_found u a.entries (trail_entries (total u n desc db a) (first u n desc db a) u) a.finds (state_whole u n desc db a).found.finds)

  -- their last point is the same
  pub last_beside : (m : ℕ) → HasLast u m → last_of (total u n desc db a) (first u n desc db a) files ≡ Some m
  last_beside m l =
      let w = state_whole u n desc db a in
      let es = one_found u l.entries (trail_entries (total u n desc db a) (first u n desc db a) u) l.finds w.found.finds in
      ap (λ (x : List Entry). last_point (history_of x)) (entries_beside ∙ sym es) ∙ l.last

  -- and so is the point that is chosen
  pub chosen_is : (point : Option ℕ) (m : ℕ) → IsChosen u point m → chosen_point (total u n desc db a) (first u n desc db a) files point ≡ m
  chosen_is None m l = ap (number_chosen None) (last_beside m l)
  chosen_is (Some k) m is = sym is

-- ---- what is printed behind it

-- where a stop leaves no files but some that have it, so does one behind what is printed
printed : (a b c : Clock Left) (P : Left → Type 0) (files : Files) → Runs a b P → Only files b → ((x : Left) → x.files ≡ files → P x) → Steps SameFiles b c → Runs a c P
printed a b c P files runs only all steps = runs_step runs steps (λ y x now same. all x (same ∙ only y now))

module _ {S : Type 0} (g : Ghosts S) (mid new : S) (behind : SaysBehind g mid new) where
  pub only_behind : Only (g.files mid) (g.clock mid) → Only (g.files new) (g.clock new)
  only_behind only x now = let y = behind.moments.follows x now in y.2 ∙ only y.0 y.1 ∙ sym behind.files

  -- what the files have at the end they have behind it
  ends_behind : (P : Files → Type 0) → P (g.files mid) × Only (g.files mid) (g.clock mid) → P (g.files new) × Only (g.files new) (g.clock new)
  ends_behind P e = (subst P (sym behind.files) e.0, only_behind e.1)

-- ---- ROLLBACK

pub rollback_law : {S : Type 0} (g : Ghosts S) (old new : S) → RollbackLaw g old new
rollback_law g old new = record {
  stands = λ m since n desc db desc' db' s at.
      let files = g.files old in
      let t = total files n desc db s.at_point in
      let f = first files n desc db s.at_point in
      let w = state_whole files n desc db s.at_point in
      rolls_either t f files n desc db m desc' db' (g.clock old) (g.clock new) w s at (since t f (state_trail files n desc db s.at_point) w);
  ends = λ m ended desc db at.
      let files = g.files old in
      let t = total files m desc db at in
      let f = first files m desc db at in
      let w = state_whole files m desc db at in
      let e = ended t f (state_trail files m desc db at) w in
      (up_to_stands t f files w m desc db at (g.files new) e.0, e.1);
  says = λ mid m since ended behind. (
    λ j k trail w. let e = ended j k trail w in
        printed (g.clock old) (g.clock mid) (g.clock new) (RollsTo (telling_of j k) (g.files old) m) (g.files mid) (since j k trail w) e.1
        (λ x same. inr (subst (HoldsUpTo (telling_of j k) (g.files old) m) (sym same) e.0)) behind.moments,
    λ j k trail w. ends_behind g mid new behind (HoldsUpTo (telling_of j k) (g.files old) m) (ended j k trail w),
  );
}

-- ---- REBUILD

module _ {S : Type 0} (g : Ghosts S) (old new : S) (d : ℕ) where
  module _ (chosen : Option ℕ) (u : Files) (m : ℕ) (desc : Described) (db : Db) (r : RebuiltState (g.files old) u d chosen m desc db) where
    abbrev t : ℕ
    t = total u m desc db r.state

    abbrev f : ℕ
    f = first u m desc db r.state

    trail : IsTrailFound t f (g.files old)
    trail = trail_beside (g.files old) u m desc db r.same r.state

    is : IsRebuiltFrom t f (g.files old) u d
    is = rebuilt t f (g.files old) u d m desc db trail r.same r.has r.state

    at : chosen_point t f (g.files old) chosen ≡ m
    at = chosen_is (g.files old) u m desc db r.same r.state chosen m r.is_chosen

    old_found : IsFoundFrom t f (g.files old)
    old_found = found_same t f u (g.files old) (state_trail u m desc db r.state) (λ low up. r.same low (omega (arith, up))) is.whole.found

    pub rebuild_stands : RebuildsSince g old new d chosen → Runs (g.clock old) (g.clock new) (LeavesRestored (g.files old) u m desc db)
    rebuild_stands since =
        restores_state t f (g.files old) u m desc db (g.clock old) (g.clock new) old_found is.whole r.state
        (subst (λ (k : ℕ). Runs (g.clock old) (g.clock new) (RestoresTo (telling_of t f) (g.files old) u k)) at (since u t f trail is))

    pub rebuild_ends : RebuildsEnd g old new d chosen → EndsAs g u m desc db new
    rebuild_ends ended =
        let e = ended u t f trail is in
        (up_to_stands t f u is.whole m desc db r.state (g.files new) (subst (λ (k : ℕ). HoldsUpTo (telling_of t f) u k (g.files new)) at e.0), e.1)

pub rebuild_law : {S : Type 0} (g : Ghosts S) (old new : S) → RebuildLaw g old new
rebuild_law g old new = record {
  stands = λ d chosen since u m desc db r. rebuild_stands g old new d chosen u m desc db r since;
  ends = λ d chosen ended u m desc db r. rebuild_ends g old new d chosen u m desc db r ended;
  says = λ mid d chosen since ended behind. (
    λ u j k trail r. let e = ended u j k trail r in
        let m = chosen_point j k (g.files old) chosen in
        printed (g.clock old) (g.clock mid) (g.clock new) (RestoresTo (telling_of j k) (g.files old) u m) (g.files mid) (since u j k trail r) e.1
        (λ x same. inr (subst (HoldsUpTo (telling_of j k) u m) (sym same) e.0)) behind.moments,
    λ u j k trail r. ends_behind g mid new behind (HoldsUpTo (telling_of j k) u (chosen_point j k (g.files old) chosen)) (ended u j k trail r),
  );
}

-- ---- RECONSTRUCT

module _ {S : Type 0} (g : Ghosts S) (old new : S) (d : ℕ) (rows : List NamedRow) (u : Files) (n : ℕ) (desc : Described) (db : Db) (r : MendedState (g.files old) u d rows n desc db) where
  abbrev so : RebuiltState (g.files old) u d None n desc db
  so = record {
    same = r.same.files_same;
    has = r.has;
    is_chosen = record { entries = r.state.at_point.entries; finds = r.state.at_point.finds; last = r.state.last };
    state = r.state.at_point;
  }

  abbrev blocks : ℕ
  blocks = t g old new d None u n desc db so

  abbrev file : ℕ
  file = f g old new d None u n desc db so

  mends_from : MendsFrom (g.files old) u d rows blocks file n desc
  mends_from = record {
    trail = trail g old new d None u n desc db so;
    last = last_beside (g.files old) u n desc db r.same.files_same r.state.at_point n so.is_chosen;
    described = record {
      schema_is = ap (λ (l : List Entry). schema_at l n) (state_entries (g.files old) u n desc db r.same.files_same r.state.at_point) ∙ r.state.at_point.described;
      well_formed = r.state.at_point.well_formed;
    };
    mended = record { rebuilt = is g old new d None u n desc db so; beside = r.same.blocks_same };
  }

  pub mend_stands : MendsSince g old new d rows → Runs (g.clock old) (g.clock new) (LeavesMended (named_blocks desc.structures rows) (g.files old) u n desc db)
  mend_stands since =
      mends_state blocks file (g.files old) u (named_blocks desc.structures rows) n desc db (g.clock old) (g.clock new) (old_found g old new d None u n desc db so) (is g old new d None u n desc db so).whole r.state
      r.same.files_same (entries_beside (g.files old) u n desc db r.same.files_same r.state.at_point) (since u blocks file n desc mends_from)

  pub mend_ends : MendsEnd g old new d rows → EndsAs g u n desc db new
  mend_ends ended = let e = ended u blocks file n desc mends_from in (up_to_stands blocks file u (is g old new d None u n desc db so).whole n desc db r.state.at_point (g.files new) e.0, e.1)

pub reconstruct_law : {S : Type 0} (g : Ghosts S) (old new : S) → ReconstructLaw g old new
reconstruct_law g old new = record {
  stands = λ d rows since u n desc db r. mend_stands g old new d rows u n desc db r since;
  ends = λ d rows ended u n desc db r. mend_ends g old new d rows u n desc db r ended;
  says = λ mid d rows since ended behind. (
    λ u j k n desc from. let e = ended u j k n desc from in
        printed (g.clock old) (g.clock mid) (g.clock new) (MendsTo (telling_of j k) (g.files old) u (named_blocks desc.structures rows) n) (g.files mid) (since u j k n desc from) e.1
        (λ x same. inl (inr (subst (HoldsUpTo (telling_of j k) u n) (sym same) e.0))) behind.moments,
    λ u j k n desc from. ends_behind g mid new behind (HoldsUpTo (telling_of j k) u n) (ended u j k n desc from),
  );
}

-- ---- DUMP

holds_on : (t j : ℕ) (a b c : Files) → HoldsSame (telling_of t j) a b → HoldsSame (telling_of t j) b c → HoldsSame (telling_of t j) a c
holds_on t j a b c one two = record { whole = two.whole; points = two.points ∙ one.points; next = two.next ∙ one.next }

reopened_holds : (t j : ℕ) (files : Files) (said : Option (List ℕ)) (x : Left) → Reopens (telling_of t j) files said x → HoldsSame (telling_of t j) files x.files
reopened_holds t j files said x r = record { whole = r.whole; points = r.points_same; next = omega (arith, r.not_fallen, r.not_risen) }

pub reopens_stand : {S : Type 0} (g : Ghosts S) (old now : S) → ReopensSince g old now → DumpStands g old now
reopens_stand g old now since n desc db s =
    let j = total (g.files old) n desc db s.at_point in
    let k = first (g.files old) n desc db s.at_point in
    let w = state_whole (g.files old) n desc db s.at_point in
    runs_weaken (since j k (state_trail (g.files old) n desc db s.at_point) w)
    (λ x r. all_stands j k (g.files old) w n desc db s x.files (reopened_holds j k (g.files old) _ x r))

module _ {S : Type 0} (g : Ghosts S) (old : S) (o : Opened S) (opens : OpensOver g old o) (read : logs.ReadsNow (view_of g o.log)) (n : ℕ) (desc : Described) (db : Db) (s : StateOf (g.files old) n desc db) where
  abbrev v : LogView
  v = view_of g o.log

  abbrev j : ℕ
  j = o.log.end.total

  abbrev k : ℕ
  k = o.log.first

  whole_then : IsWhole (telling_of j k) (g.files old)
  whole_then = is_whole j k (g.files old) n desc db opens.opens.trail s.at_point

  runs_then : RunsFrom (g.files old) o.point o.next o.schema.items o.counts.items v
  runs_then = opens.runs whole_then

  opened_same : HoldsSame (telling_of j k) (g.files old) v.files
  opened_same = runs_same v runs_then.runs read runs_then.nothing (g.files old) runs_then.points_same (runs_then.next_is ∙ sym opens.opens.next_is)

  none : (history_of (trail_entries j k v.files)).pending ≡ None
  none = subst (λ (l : List Entry). (history_of l).pending ≡ None) (sealed_all v runs_then.runs read runs_then.nothing) (now_runs (telling v) (logs.tells v runs_then.runs read) (state v) runs_then.runs.runs read).none

  opened_trail : IsTrailFound j k v.files
  opened_trail =
      let found = opened_same.whole.found in
      record {
        places = map place_in found.finds.placed;
        found = record { entries = found.finds.placed; places_are = refl; trail = found.finds.trail; first_is = found.first_is };
        tag = o.log.end.tag;
        file = o.log.end.file;
        count = o.log.end.count;
        writes = runs_then.runs.ends.writes;
      }

  module _ (d : ℕ) (some : 1 ≤ d) (few : d ≤ 9999) where
    -- files in which that dump alone is another
    dumped_same : (new : Files) → ((i : ℕ) → i ≢ 20000 + d → new i ≡ v.files i) → HoldsSame (telling_of j k) v.files new
    dumped_same new others = dump_holds j k d v.files new opened_trail opened_same.whole none some few others

    dumped_stands : (new : Files) → ((i : ℕ) → i ≢ 20000 + d → new i ≡ v.files i) → StandsFrom (g.files old) n desc db new
    dumped_stands new others = all_stands j k (g.files old) whole_then n desc db s new (holds_on j k (g.files old) v.files new opened_same (dumped_same new others))

    pub dump_stands : (new : S) → WritesDump g o new d → Runs (g.clock old) (g.clock new) (λ x. StandsFrom (g.files old) n desc db x.files)
    dump_stands new steps = runs_step
        (runs_weaken (opens.moments j k opens.opens.trail whole_then) (λ x r. all_stands j k (g.files old) whole_then n desc db s x.files (reopened_holds j k (g.files old) _ x r)))
        steps (λ y x now others. dumped_stands x.files (λ i not. others i not ∙ ap (λ (l : Files). l i) (runs_then.only y now)))

    module _ (there : Files) (tag audit : ℕ) (counts : List FileCount) (h : HasDumped g o there d tag audit counts) where
      abbrev es : List Entry
      es = trail_entries j k v.files

      stored : AllStored (stored_of v.files) counts
      stored = dumping.all_stored v runs_then.runs read runs_then.nothing o.point o.counts.items runs_then.last runs_then.content_is runs_then.written (counts_in counts) h.counted

      held_then : HoldsSame (telling_of j k) v.files there
      held_then = dumped_same there h.others

      entries_then : trail_entries j k there ≡ es
      entries_then =
          let w = writes_within j k v.files opened_trail in
          entries_settled j w.tag k w.file w.count v.files there w.low w.high w.writes (λ i from upto. h.others i (λ is. omega (arith, is, upto, w.high, some)))

      blocks_then : stored_of there ≡ stored_of v.files
      blocks_then = stored_same there v.files (λ i up. h.others i (λ is. omega (arith, is, up, few)))

      abbrev made : Dump
      made = record { point = o.point; end = o.point; blocks = content_of (counts_in counts) (stored_of v.files) }

      dump_is : dumps_of there d ≡ made
      dump_is = dumping.dump_there there d some few ∙ ap dump_of h.written ∙ (dump_is_read 1 (record { tag = tag; point = o.point; audit = audit; counts = counts; end = None }) (stored_of v.files) h.head stored).dump

      true_made : IsTrueDump made (live_of es) (stored_of v.files)
      true_made = record {
        point_lives = dumping.point_lives v runs_then.runs read runs_then.nothing o.point o.counts.items runs_then.last runs_then.content_is runs_then.written;
        same = dumping.dumped v runs_then.runs read runs_then.nothing o.point o.counts.items runs_then.last runs_then.content_is runs_then.written (counts_in counts) h.counted;
      }

      counted_then : here (dumps_of there) (history_of es) (stored_of there) ≡ stored_of v.files
      counted_then = dumping.none_counts (dumps_of there) es (stored_of there) none ∙ blocks_then

      point_is : o.point ≡ n
      point_is =
          let st = (all_stands j k (g.files old) whole_then n desc db s v.files opened_same).state in
          let same = one_found v.files st.at_point.entries es st.at_point.finds opened_same.whole.found.finds in
          same_Some o.point n (
          sym (dumping.point_is_last v runs_then.runs read runs_then.nothing o.point o.counts.items runs_then.last runs_then.content_is runs_then.written)
          ∙ ap (λ (l : List Entry). last_point (history_of l)) (sym same) ∙ st.last
          )

      true_there : IsTrueDump (dumps_of there d) (live_of (trail_entries j k there)) (here (dumps_of there) (history_of (trail_entries j k there)) (stored_of there))
      true_there =
          subst (λ (l : List Entry). IsTrueDump (dumps_of there d) (live_of l) (here (dumps_of there) (history_of l) (stored_of there))) (sym entries_then)
          (subst (λ (c : Stored). IsTrueDump (dumps_of there d) (live_of es) c) (sym counted_then) (subst (λ (q : Dump). IsTrueDump q (live_of es) (stored_of v.files)) (sym dump_is) true_made))

      pub dump_at : HasDumpAt there d n
      dump_at = record {
        has = record {
          some = some;
          few = few;
          head = record { tag = tag; point = o.point; audit = audit; counts = counts; end = None };
          read = ap dump_read h.written ∙ dumping.dump_reads 1 (record { tag = tag; point = o.point; audit = audit; counts = counts; end = None }) (stored_of v.files) refl h.head stored;
          entries = trail_entries j k there;
          finds = held_then.whole.found.finds;
          tag_is =
              let w = runs_then.runs.ends.writes in
              let high = writes_within j k v.files opened_trail in
              h.tag_is ∙ sym (w.tags k (omega arith) w.order) ∙ ap tag_said (sym (h.others k (λ is. omega (arith, is, high.writes.order, high.high, some))))
              ∙ ap (λ i. tag_said (there i)) (sym held_then.whole.found.first_is);
          is_copied =
              true_dump_is_copied (live_of (trail_entries j k there)) (dumps_of there d) (here (dumps_of there) (history_of (trail_entries j k there)) (stored_of there))
              (ap (λ (q : Dump). q.end) dump_is ∙ sym (ap (λ (q : Dump). q.point) dump_is)) true_there;
        };
        is_true = true_there;
        point_is = ap (λ (q : Dump). q.point) dump_is ∙ point_is;
      }

pub dump_law : {S : Type 0} (g : Ghosts S) (old : S) (o : Opened S) (new : S) → logs.ReadsNow (view_of g o.log) → DumpLaw g old o new
dump_law g old o new read = record {
  stands = λ d some few opens steps n desc db s. dump_stands g old o opens read n desc db s d some few new steps;
  unopened = λ now since. reopens_stand g old now since;
  ends = λ files d tag audit counts some few opens h n desc db s. dump_at g old o opens read n desc db s d some few files tag audit counts h;
}
