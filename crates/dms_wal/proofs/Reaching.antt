-- A database whose audit may go on up to another file, and how it is closed.
use Rattle.std.proofs.Common.{ℕ, ◌≤◌, ◌<◌, ◌≡◌, ◌⊎◌, inl, inr, IsTrue, map, List, [], ◌∷◌, ◌++◌, length, sym, ◌∙◌, ap, subst, drop, take}
use Rattle.dms_moments.specs.Moments.{Clock, Now}
use Rattle.dms_site.specs.declared.site.Site.{Ghosts}
use Rattle.dms_site.specs.Files.{Files, Left}
use Rattle.dms_block.specs.declared.block_fault.BlockFault.{BlockFault}
use Rattle.dms_block.specs.declared.block_fault.BlockFault.TheVariants as fault
use Rattle.dms_block.specs.Counts.{Faults}
use Rattle.dms_block.specs.Held.{BlockStop, Held, Caused, MakesNoPoint}
use Rattle.dms_audfile.specs.Counting.{CountedAt, not_counted}
use Rattle.dms_running.specs.Standing.{IsWhole}
use Rattle.dms_history.specs.Events.{AllBlocks, block_in}
use Rattle.dms_history.specs.EntryEvents.{history_of}
use Rattle.dms_history.specs.Entries.{Entry, control_point}
use Rattle.dms_history.specs.Schemas.{schema_entries}
use Rattle.dms_audrec.specs.Bodies.{bodies}
use Rattle.dms_restore.specs.Counts.{file_counts}
use Rattle.dms_history.proofs.Order.{append_none}
use Rattle.dms_audfile.specs.declared.audit_end.AuditEnd.{AuditEnd}
use Rattle.dms_audfile.specs.Blocks.{block_entries}
use Rattle.dms_audfile.specs.Gates.{blocks_from}
use Rattle.dms_audfile.specs.Unsealed.{block_with}
use Rattle.dms_audfile.specs.TrailEntries.{entries_in, entries_of}
use Rattle.dms_audfile.specs.Sealing.{IsWrittenUpTo}
use Rattle.dms_audfile.specs.Ends.{unsealed_bytes, full_blocks, EndsAt}
use Rattle.dms_running.specs.Telling.{Telling}
use Rattle.dms_running.specs.Running.{State, IsRunning, entries_now, content_now, points_now, next_now, durable_now, here_now}
use Rattle.dms_running.specs.Frames.{FramesHold}
use Rattle.dms_running.specs.Points.{DescribedPoint, points_of, next_in}
use Rattle.dms_running.proofs.Appending.{now_runs, running_whole}
use Rattle.dms_restore.specs.Logging as logs
use Rattle.dms_restore.specs.Logging.{waits, LogView, view, telling, state, entries, points, content, LogRuns}
use Rattle.dms_restore.specs.Views.{view_of}
use Rattle.dms_restore.proofs.Logs as lemmas
use Rattle.dms_restore.proofs.Logs.{ReadsNow}
use Rattle.dms_restore.proofs.Endings.{all_points, all_next}
use Rattle.dms_pool.specs.declared.pool.Pool.{Pool}
use Rattle.dms_wal.specs.declared.running.Running.{Running}
use Rattle.dms_wal.specs.Closing.{entries_control, FilesStand, LeavesUntil}
use Rattle.dms_wal.specs.Controls.{MakesControl}
use Rattle.dms_wal.specs.Database.{running_held, GoesWith, IsRunningUsable, frames_of}
use Rattle.dms_wal.specs.Lifting.{block_point, last_blocks, lift_clock, point_under}
use Rattle.dms_wal.specs.Marks.{IsMarkOf}
use Rattle.dms_wal.proofs.Marked.{mark_on}
use Rattle.dms_wal.proofs.Under.{under_on}
use Rattle.dms_wal.proofs.Imaging.{images_on}

-- the same end of a trail, which may go on up to another file
pub record EndsAlike (a b : AuditEnd) : Type 0 where
  pub file : b.file ≡ a.file
  pub total : b.total ≡ a.total
  pub tag : b.tag ≡ a.tag
  pub count : b.count ≡ a.count
  pub used : b.used ≡ a.used
  pub full : b.full ≡ a.full
  pub block : b.block.items ≡ a.block.items
  pub group : b.group.items ≡ a.group.items

module _ (a b : AuditEnd) (r : EndsAlike a b) (first : ℕ) (files : Files) (clock : Clock Left) where
  abbrev pub old : LogView
  old = view a first files clock

  abbrev pub new : LogView
  new = view b first files clock

  unsealed_same : unsealed_bytes b ≡ unsealed_bytes a
  unsealed_same = λ i. take (r.used i) (drop 2 (r.block i))

  full_same : full_blocks b ≡ full_blocks a
  full_same = λ i. blocks_from (r.full i) 0 (r.group i)

  pub waits_same : waits b ≡ waits a
  unfolding waits
  waits_same = λ i. entries_in (full_same i) ++ entries_of (block_entries (block_with (unsealed_same i)))

  pub state_same : state new ≡ state old
  state_same = λ i. record { waiting = waits_same i; files = files; clock = clock }

  pub telling_alike : telling new ≡ telling old
  telling_alike = λ i. logs.telling_of (r.total i) first

  pub ends_alike : EndsAt a first (waits a) files clock → EndsAt b first (waits b) files clock
  ends_alike e = subst (λ (l : List Entry). EndsAt b first l files clock) (sym waits_same) (record {
    low = e.low;
    writes = subst (λ n. IsWrittenUpTo n b.tag first b.file b.count files) (sym r.total) (subst (λ n. IsWrittenUpTo a.total n first b.file b.count files) (sym r.tag)
        (subst (λ n. IsWrittenUpTo a.total a.tag first n b.count files) (sym r.file) (subst (λ n. IsWrittenUpTo a.total a.tag first a.file n files) (sym r.count) e.writes)));
    settled = λ g from to x now. e.settled g from (subst (λ n. g ≤ n) r.file to) x now;
    waits = record {
      before = e.waits.before;
      last = e.waits.last;
      are = e.waits.are;
      full = full_same ∙ e.waits.full;
      filled = e.waits.filled;
      bytes = unsealed_same ∙ e.waits.bytes;
      kind = e.waits.kind;
    };
    kind = e.kind;
  })

  pub runs_alike : LogRuns old → LogRuns new
  runs_alike l = record {
    ends = ends_alike l.ends;
    runs = subst (λ (t : Telling). IsRunning t (state new)) (sym telling_alike) (subst (λ (s : State). IsRunning (telling old) s) (sym state_same) l.runs);
  }

  pub goes_alike : (pool : Pool) (next : ℕ) (counts : List ℕ) → GoesWith old pool next counts → GoesWith new pool next counts
  goes_alike pool next counts g = record {
    runs = runs_alike g.runs;
    holds = subst (λ (t : Telling). FramesHold t (state new) (frames_of pool)) (sym telling_alike) (subst (λ (s : State). FramesHold (telling old) s (frames_of pool)) (sym state_same) g.holds);
    numbered = g.numbered ∙ sym (λ i. next_now (telling_alike i) (state_same i));
    counted = λ f. g.counted f ∙ sym (λ i. length (content_now (telling_alike i) (state_same i) f));
  }

  pub points_alike : points new ≡ points old
  points_alike = λ i. points_now (telling_alike i) (state_same i)

  pub next_alike : logs.next new ≡ logs.next old
  next_alike = λ i. next_now (telling_alike i) (state_same i)

  pub entries_alike : entries new ≡ entries old
  entries_alike = λ i. entries_now (telling_alike i) (state_same i)

  pub content_alike : content new ≡ content old
  content_alike = λ i. content_now (telling_alike i) (state_same i)

module _ {S : Type 0} (g : Ghosts S) (r : Running S) (e : AuditEnd) (alike : EndsAlike r.log.end e) where
  abbrev pub reaching : Running S
  reaching = record r { log = record r.log { end = e } }

  pub usable_alike : IsRunningUsable g r → IsRunningUsable g reaching
  usable_alike u = record {
    unbroken = u.unbroken;
    under = λ t. under_on (view_of g r.log) (view e r.log.first (g.files r.log.site) (g.clock r.log.site)) r.schema.items (entries_alike r.log.end e alike r.log.first (g.files r.log.site) (g.clock r.log.site)) (u.under t);
    described = u.described;
    table = u.table;
    marked = u.marked;
    counted = u.counted;
    images_counted = u.images_counted;
    imaged = λ t. images_on (view_of g r.log) (view e r.log.first (g.files r.log.site) (g.clock r.log.site)) r.imaged (entries_alike r.log.end e alike r.log.first (g.files r.log.site) (g.clock r.log.site)) (u.imaged t);
    goes = λ t. goes_alike r.log.end e alike r.log.first (g.files r.log.site) (g.clock r.log.site) r.pool r.next r.counts.items (u.goes t);
    pointed = λ t. subst (λ (ps : List DescribedPoint). IsMarkOf ps r.point r.marks.items) (sym (points_alike r.log.end e alike r.log.first (g.files r.log.site) (g.clock r.log.site))) (u.pointed t);
    unchanged = λ no t.
        let first = r.log.first in let files = g.files r.log.site in let clock = g.clock r.log.site in
        mark_on (view_of g r.log) (view e first files clock) r.counts.items r.marks.items (content_alike r.log.end e alike first files clock) (points_alike r.log.end e alike first files clock) (entries_alike r.log.end e alike first files clock) (u.unchanged no t);
  }

-- the same, as blocks see it
pub held_alike : {S : Type 0} (g : Ghosts S) (r : Running S) (e : AuditEnd) (alike : EndsAlike r.log.end e) → record (running_held g r) { sound = IsRunningUsable g (reaching g r e alike) } ≡ running_held g (reaching g r e alike)
held_alike g r e alike =
    let first = r.log.first in
    let files = g.files r.log.site in
    let clock = g.clock r.log.site in
    let t = telling_alike r.log.end e alike first files clock in
    let s = state_same r.log.end e alike first files clock in
    let schema = r.schema.items in
    λ i. record (running_held g r) {
      sound = IsRunningUsable g (reaching g r e alike);
      whole = IsWhole (sym t i);
      content = content_now (sym t i) (sym s i);
      mark = last_blocks (λ f. []) (points_now (sym t i) (sym s i));
      points = map block_point (points_now (sym t i) (sym s i));
      durable = durable_now (sym t i) (sym s i);
      here = point_under schema (here_now (sym t i) (sym s i));
      clock = lift_clock (sym t i) clock;
    }

-- a fault of the disk, or that the audit is full
pub closes_counted : (n : ℕ) (e : BlockFault) (a b : Held) → (e ≡ fault.Disk) ⊎ (e ≡ fault.Full n) → Caused e a b → CountedAt (e ≡ fault.Disk) a.faults.disk b.faults.disk × (b.faults.say ≡ a.faults.say)
closes_counted n e a b (inl is) c =
    let r = subst (λ (x : BlockFault). Caused x a b) is c in
    (record { later = r.0.later; failed = λ at. r.0.rose; once = r.0.once; clean = λ no. absurd (no is) }, ap (λ (f : Faults). f.say) r.1)
closes_counted n e a b (inr is) c =
    let r = subst (λ (x : BlockFault). Caused x a b) is c in
    (not_counted (e ≡ fault.Disk) a.faults.disk b.faults.disk (λ at. not_both n (sym is ∙ at)) (ap (λ (f : Faults). f.disk) r.1), ap (λ (f : Faults). f.say) r.1)
  where
    not_both : (n : ℕ) → fault.Full n ≡ fault.Disk → ⊥
    not_both n is = absurd cc

-- all stands, and nothing waits: so the files hold it
pub closes : (a v : LogView) (schema : List ℕ) (point next : ℕ) (counts : List ℕ) → telling v ≡ telling a → points v ≡ points a → logs.next v ≡ logs.next a → content v ≡ content a → LogRuns v → ReadsNow v → MakesControl a v schema point next counts
    → FilesStand a (entries_control point schema next counts) (content a) v.files v.clock
closes a v schema point next counts same ps nexts contents runs read m =
    let s = m.settled in
    let all : entries v ≡ (telling v).entries v.files = ap (λ (l : List Entry). (telling v).entries v.files ++ l) s.nothing ∙ append_none ((telling v).entries v.files) in
    record {
      whole = subst (λ (t : Telling). IsWhole t v.files) same (running_whole (telling v) (state v) runs.runs read);
      entries_are = ap (λ (t : Telling). t.entries v.files) (sym same) ∙ sym all ∙ m.entries_are;
      points_are = ap (λ (t : Telling). points_of t v.files) (sym same) ∙ sym (all_points (telling v) (state v) s.nothing) ∙ ps;
      next_is = ap (λ (t : Telling). next_in t v.files) (sym same) ∙ sym (all_next (telling v) (state v) s.nothing) ∙ nexts;
      none = ap (λ (t : Telling). (history_of (t.entries v.files)).pending) (sym same) ∙ ap (λ (l : List Entry). (history_of l).pending) (sym all) ∙ (now_runs (telling v) (lemmas.tells v runs read) (state v) runs.runs read).none;
      stands = λ f b low. s.written f b (subst (λ (c : AllBlocks). b < length (c f)) (sym contents) low) ∙ ap (λ (c : AllBlocks). block_in c f b) contents;
      only = s.only;
    }

-- and so it does where the audit may go on up to another file
pub closes_alike : (a b v : LogView) (schema : List ℕ) (point next : ℕ) (counts : List ℕ) → telling b ≡ telling a → entries b ≡ entries a → points b ≡ points a → logs.next b ≡ logs.next a → content b ≡ content a
    → FilesStand b (entries_control point schema next counts) (content b) v.files v.clock → FilesStand a (entries_control point schema next counts) (content a) v.files v.clock
closes_alike a b v schema point next counts same es ps nexts contents c = record {
  whole = subst (λ (t : Telling). IsWhole t v.files) same c.whole;
  entries_are = ap (λ (t : Telling). t.entries v.files) (sym same) ∙ c.entries_are ∙ ap (λ (l : List Entry). l ++ (schema_entries (bodies schema) ++ control_point point next (file_counts 30001 counts) ∷ [])) es;
  points_are = ap (λ (t : Telling). points_of t v.files) (sym same) ∙ c.points_are ∙ ps;
  next_is = ap (λ (t : Telling). next_in t v.files) (sym same) ∙ c.next_is ∙ nexts;
  none = ap (λ (t : Telling). (history_of (t.entries v.files)).pending) (sym same) ∙ c.none;
  stands = λ f b low. c.stands f b (subst (λ (d : AllBlocks). b < length (d f)) (sym contents) low) ∙ ap (λ (d : AllBlocks). block_in d f b) contents;
  only = c.only;
}

module _ {S : Type 0} (g : Ghosts S) (stay : (s : S) → IsTrue g.tells → (x : Left) × Now (g.clock s) x × (x.files ≡ g.files s)) (r : Running S) (e : AuditEnd) (alike : EndsAlike r.log.end e) (last : Running S)
    (kind : telling (view_of g last.log) ≡ telling (view_of g (reaching g r e alike).log)) (s : S) (site : s ≡ last.log.site) where
  -- what a stop left up to the closed site
  pub closes_leaves : last.schema ≡ r.schema → MakesNoPoint (running_held g (reaching g r e alike)) (running_held g last) → LeavesUntil (running_held g r) (lift_clock (telling (view_of g r.log)) (g.clock s))
  closes_leaves schema passes =
      let l : LeavesUntil (running_held g r) (running_held g last).clock = subst (λ (h : Held). LeavesUntil h (running_held g last).clock) (sym (held_alike g r e alike)) passes.leaves in
      let all : telling (view_of g last.log) ≡ telling (view_of g r.log) = kind ∙ telling_alike r.log.end e alike r.log.first (g.files r.log.site) (g.clock r.log.site) in
      subst (λ (k : Clock BlockStop). LeavesUntil (running_held g r) k) (λ i. lift_clock (all i) (g.clock (sym site i))) l

  -- what the closed site holds
  pub closes_all : (t : IsTrue g.tells) → IsRunningUsable g last → MakesControl (view_of g (reaching g r e alike).log) (view_of g last.log) r.schema.items r.point r.next r.counts.items
      → FilesStand (view_of g r.log) (entries_control r.point r.schema.items r.next r.counts.items) (content (view_of g r.log)) (g.files s) (g.clock s)
  closes_all t u m = subst (λ (x : S). FilesStand (view_of g r.log) (entries_control r.point r.schema.items r.next r.counts.items) (content (view_of g r.log)) (g.files x) (g.clock x)) (sym site)
      (let first = r.log.first in let files = g.files r.log.site in let clock = g.clock r.log.site in let end = r.log.end in
      closes_alike (view_of g r.log) (view_of g (reaching g r e alike).log) (view_of g last.log) r.schema.items r.point r.next r.counts.items (telling_alike end e alike first files clock)
      (entries_alike end e alike first files clock) (points_alike end e alike first files clock) (next_alike end e alike first files clock) (content_alike end e alike first files clock)
      (closes (view_of g (reaching g r e alike).log) (view_of g last.log) r.schema.items r.point r.next r.counts.items kind m.points_same m.next_same m.content_same (u.goes t).runs (stay last.log.site t) m))
