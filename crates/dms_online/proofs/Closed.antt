-- A running database beside which a dump was written is closed.
use Rattle.std.specs.Prelude.{IfErr, IfOk, OnOk}
use Rattle.std.specs.declared.result.Result.{Result}
use Rattle.std.specs.declared.result.Result.TheVariants.{Ok, Err}
use Rattle.std.proofs.Common.{ℕ, ◌+◌, ◌≤◌, ◌<◌, ◌≡◌, ◌⊎◌, inl, inr, Bool, true, false, IsTrue, List, length, refl, sym, ◌∙◌, ap, subst, arith}
use Rattle.dms_site.specs.Files.{Left}
use Rattle.dms_site.specs.declared.site.Site.{Ghosts}
use Rattle.dms_moments.specs.Moments.{Now}
use Rattle.dms_audfile.specs.Counting.{CountedAt, not_counted}
use Rattle.dms_audfile.specs.declared.audit_end.AuditEnd.{AuditEnd}
use Rattle.dms_block.specs.Content.{Content}
use Rattle.dms_block.specs.Counts.{Faults}
use Rattle.dms_block.specs.Held.{Caused, HasCauses, MakesNoPoint, Stays}
use Rattle.dms_block.specs.declared.block_fault.BlockFault.{BlockFault}
use Rattle.dms_block.specs.declared.block_fault.BlockFault.TheVariants.{Disk, Memory, Full, Damaged, Say}
use Rattle.dms_history.specs.Entries.{Entry}
use Rattle.dms_restore.specs.GrowLaws.{log_grows_more, log_grows_on}
use Rattle.dms_restore.specs.Logging.{Ends, LogGrows, LogView, content, entries, telling}
use Rattle.dms_restore.specs.Views.{view_of}
use Rattle.dms_wal.proofs.Backs.{all_sized}
use Rattle.dms_wal.proofs.Closed.{backs_counted, clock_as, closed_back, closed_same, counted_then, full_trail, leaves_until, said_told, trail_as}
use Rattle.dms_wal.proofs.Grown.{grows_alike, grows_as, logged_more}
use Rattle.dms_wal.proofs.Reaching.{EndsAlike, closes_all, closes_alike, closes_counted, closes_leaves, reaching}
use Rattle.dms_wal.specs.BackOuts.{WentBackFrom}
use Rattle.dms_wal.specs.Closing.{FilesStand, IsClosed, IsFullTrail, LeavesUntil, entries_closing, entries_control}
use Rattle.dms_wal.specs.Controls.{KeepsPace, MakesControl}
use Rattle.dms_wal.specs.Database.{IsRunningUsable, running_held}
use Rattle.dms_wal.specs.Growing.{GivesGrown, LogsAtMost, TrailGrows, close_limit, over_site}
use Rattle.dms_wal.specs.Lifting.{lift_clock}
use Rattle.dms_wal.specs.Marks.{mark_of}
use Rattle.dms_wal.specs.PaceLaws.{pace_kind}
use Rattle.dms_wal.specs.declared.running.Running.{Running}
use Rattle.dms_online.specs.Calls.{Beside, IsCopyFault}
use Rattle.dms_online.specs.Closes.{ClosesBy, Closes, ControlCloses, ControlFails, FailsBy, FailsToClose, IsCloseFault, IsControlFault}

-- ---- faults of a copy

copy_counted : {D : Type 0} (d : Ghosts D) (r m : Running D) (e : BlockFault) → IsCopyFault e → Caused e (running_held d r) (running_held d m)
    → CountedAt (e ≡ Disk) (d.disk_faults r.log.site) (d.disk_faults m.log.site) × (d.say_faults m.log.site ≡ d.say_faults r.log.site)
copy_counted d r m Disk only c = closes_counted 0 Disk (running_held d r) (running_held d m) (inl refl) c
copy_counted d r m Memory only c = absurd only
copy_counted d r m (Full n) only c = absurd only
copy_counted d r m Say only c = absurd only
copy_counted d r m (Damaged f k) only c = (
  not_counted (Damaged f k ≡ Disk) (d.disk_faults r.log.site) (d.disk_faults m.log.site) (λ is. not_both is) (ap (λ (x : Faults). x.disk) c.0.1),
  ap (λ (x : Faults). x.say) c.0.1,
)
  where
    not_both : Damaged f k ≡ Disk → ⊥
    not_both is = absurd cc

never_full : (e : BlockFault) → IsCopyFault e → e ≡ Full 9999 → ⊥
never_full e only is = subst (λ (x : BlockFault). IsCopyFault x) is only

module _ {D : Type 0} (d : Ghosts D) (stay : (s : D) → IsTrue d.tells → (x : Left) × Now (d.clock s) x × (x.files ≡ d.files s)) (r m : Running D) where
  abbrev v : LogView
  v = view_of d r.log

  abbrev w : LogView
  w = view_of d m.log

  -- over files that are told no block is short
  control_fault : (e : BlockFault) → IsRunningUsable d r → IsCopyFault e → Caused e (running_held d r) (running_held d m) → IsControlFault d r e
  control_fault Disk sound only c = inl refl
  control_fault Memory sound only c = absurd only
  control_fault (Full n) sound only c = absurd only
  control_fault Say sound only c = absurd only
  control_fault (Damaged f k) sound only c =
      inr (inr (f, k, refl, λ t. c.1.2 t (all_sized v (sound.goes t).runs (stay r.log.site t) f k (omega (arith, c.1.1, (sound.goes t).counted f)))))

  -- a copy failed
  pub copy_fails : {T : Type 0} (e : BlockFault) (s : D) → s ≡ m.log.site → IsRunningUsable d r → Beside d {T = T} (Err e) r m → ControlFails d r (e, s)
  copy_fails e s site sound b =
      let counted = copy_counted d r m e b.only b.causes in
      record {
        only = control_fault e sound b.only b.causes;
        leaves = subst (λ (x : D). LeavesUntil (running_held d r) (lift_clock (telling v) (d.clock x))) (sym site)
            (clock_as (telling v) (telling w) (running_held d r) (d.clock m.log.site) (pace_kind b.kept.pace) b.passes.leaves);
        full = λ is t. absurd (never_full e b.only is);
        grown = λ t. subst (λ (x : D). LogGrows 18 v (over_site d v x)) (sym site) (grows_as 18 v w v.end v.first (log_grows_more 0 18 v w (omega arith) (b.grown t)));
        disk = subst (λ (x : D). CountedAt (e ≡ Disk) (d.disk_faults r.log.site) (d.disk_faults x)) (sym site) counted.0;
        say = ap d.say_faults site ∙ counted.1;
        said = λ told. ap d.said site ∙ said_told d.tells_said (d.said m.log.site) (d.said r.log.site) b.passes.said told;
      }

  -- ---- behind what was written beside it

  module _ {T : Type 0} {x : T} (b : Beside d (Ok x) r m) where
    beside_grows : (s : D) → IsTrue d.tells → LogGrows 18 w (over_site d w s) → LogGrows 18 v (over_site d v s)
    beside_grows s t g =
        let n = b.tells t in
        grows_as 18 v (over_site d w s) v.end v.first
        (log_grows_more (0 + 18) 18 v (over_site d w s) (omega arith) (log_grows_on v w (over_site d w s) b.kept.pace.total b.kept.pace.first 0 18 (omega (arith, ap (λ (es : List Entry). length es) n.entries_same)) (b.grown t) g))

    beside_leaves : (s : D) → LeavesUntil (running_held d m) (lift_clock (telling w) (d.clock s)) → LeavesUntil (running_held d r) (lift_clock (telling v) (d.clock s))
    beside_leaves s leaves =
        clock_as (telling v) (telling w) (running_held d r) (d.clock s) (pace_kind b.kept.pace)
        (leaves_until (running_held d r) (running_held d m) (lift_clock (telling w) (d.clock s)) b.passes b.stays leaves)

    pub beside_closes : (s : D) → ControlCloses d m s → ControlCloses d r s
    beside_closes s k = record {
      closed = λ t.
          let n = b.tells t in
          closes_alike v w (over_site d v s) r.schema.items r.point r.next r.counts.items (pace_kind b.kept.pace) n.entries_same n.points_same n.next_same n.content_same
          (subst (λ (es : List Entry). FilesStand w es (content w) (d.files s) (d.clock s))
          (λ i. entries_control (b.kept.point i) (b.kept.pace.schema i).items (b.kept.next i) (b.kept.counts i).items) (k.closed t));
      leaves = beside_leaves s k.leaves;
      grown = λ t. beside_grows s t (k.grown t);
      disk = k.disk ∙ ap (λ (f : Faults). f.disk) b.causes;
      say = k.say ∙ ap (λ (f : Faults). f.say) b.causes;
      said = λ told. k.said told ∙ said_told d.tells_said (d.said m.log.site) (d.said r.log.site) b.passes.said told;
    }

    pub beside_fails : (e : BlockFault × D) → ControlFails d m e → ControlFails d r e
    beside_fails e k = record {
      only = k.only;
      leaves = beside_leaves e.1 k.leaves;
      full = λ is t. trail_as v w (d.files e.1) b.kept.pace.total b.kept.pace.first (k.full is t);
      grown = λ t. beside_grows e.1 t (k.grown t);
      disk = counted_then (e.0 ≡ Disk) (d.disk_faults r.log.site) (d.disk_faults m.log.site) (d.disk_faults e.1) (ap (λ (f : Faults). f.disk) b.causes) k.disk;
      say = k.say ∙ ap (λ (f : Faults). f.say) b.causes;
      said = λ told. k.said told ∙ said_told d.tells_said (d.said m.log.site) (d.said r.log.site) b.passes.said told;
    }

-- ---- a control point whose audit may go on up to another file

module _ {D : Type 0} (d : Ghosts D) (stay : (s : D) → IsTrue d.tells → (x : Left) × Now (d.clock s) x × (x.files ≡ d.files s)) (m : Running D) (e : AuditEnd) (alike : EndsAlike m.log.end e) (last : Running D) (s : D) (site : s ≡ last.log.site)
    (kind : telling (view_of d last.log) ≡ telling (view_of d (reaching d m e alike).log)) (pace : KeepsPace (reaching d m e alike) last) (passes : MakesNoPoint (running_held d (reaching d m e alike)) (running_held d last))
    (grown : TrailGrows d 18 (reaching d m e alike) last) where
  abbrev u : LogView
  u = view_of d m.log

  control_grows : IsTrue d.tells → LogGrows 18 u (over_site d u s)
  control_grows t = subst (λ (x : D). LogGrows 18 u (over_site d u x)) (sym site)
      (grows_alike 18 18 m.log.end e alike m.log.first (d.files m.log.site) (d.clock m.log.site) (view_of d last.log) m.log.end m.log.first (omega arith) (grown t))

  control_leaves : LeavesUntil (running_held d m) (lift_clock (telling u) (d.clock s))
  control_leaves = closes_leaves d stay m e alike last kind s site pace.schema passes

  control_said : IsTrue d.tells_said → d.said s ≡ d.said m.log.site
  control_said told = ap d.said site ∙ said_told d.tells_said (d.said last.log.site) (d.said m.log.site) passes.said told

  pub control_closes : IsRunningUsable d last → (IsTrue d.tells → MakesControl (view_of d (reaching d m e alike).log) (view_of d last.log) m.schema.items m.point m.next m.counts.items)
      → (running_held d last).faults ≡ (running_held d m).faults → ControlCloses d m s
  control_closes sound control causes = record {
    closed = λ t. closes_all d stay m e alike last kind s site t sound (control t);
    leaves = control_leaves;
    grown = control_grows;
    disk = ap d.disk_faults site ∙ ap (λ (f : Faults). f.disk) causes;
    say = ap d.say_faults site ∙ ap (λ (f : Faults). f.say) causes;
    said = control_said;
  }

  pub control_fails : (fault : BlockFault) → (fault ≡ Disk) ⊎ (fault ≡ Full 9999) → (fault ≡ Full 9999 → 19999 < last.log.end.file) → (fault ≡ Full 9999 → IsTrue d.tells → Ends (view_of d last.log))
      → Caused fault (running_held d (reaching d m e alike)) (running_held d last) → ControlFails d m (fault, s)
  control_fails fault only beyond ends causes =
      let counted = closes_counted 9999 fault (running_held d (reaching d m e alike)) (running_held d last) only causes in
      record {
        only = elim only [ inl disk ↦ inl disk | inr full ↦ inr (inl full) ];
        leaves = control_leaves;
        full = λ is t. subst (λ (x : D). IsFullTrail u (d.files x)) (sym site)
            (full_trail u (view_of d last.log) (pace.total ∙ alike.total) pace.first (beyond is) (ends is t));
        grown = control_grows;
        disk = subst (λ (x : D). CountedAt (fault ≡ Disk) (d.disk_faults m.log.site) (d.disk_faults x)) (sym site) counted.0;
        say = ap d.say_faults site ∙ counted.1;
        said = control_said;
      }

-- ---- to the last point

module _ {D : Type 0} (d : Ghosts D) (r : Running D) where
  -- nothing was changed since then
  pub closes_same : (s : D) → r.changed ≡ false → IsRunningUsable d r → ControlCloses d r s → Closes d r s
  closes_same s off sound k = record {
    closed = λ t. closed_same (view_of d r.log) r.changed r.point r.schema.items r.next r.counts.items r.marks.items (d.files s) (d.clock s) off (sound.unchanged off t) (k.closed t);
    leaves = k.leaves;
    grown = λ t. subst (λ (n : ℕ). LogGrows n (view_of d r.log) (over_site d (view_of d r.log) s)) (sym (ap close_limit off)) (k.grown t);
    disk = k.disk;
    say = k.say;
    said = k.said;
  }

  pub fails_same : (e : BlockFault × D) → r.changed ≡ false → ControlFails d r e → FailsToClose d r e
  fails_same e off k = record {
    only = inl k.only;
    leaves = k.leaves;
    full = k.full;
    grown = λ t. subst (λ (n : ℕ). LogGrows n (view_of d r.log) (over_site d (view_of d r.log) e.1)) (sym (ap close_limit off)) (k.grown t);
    disk = k.disk;
    say = k.say;
    said = k.said;
  }

  -- it was gone back from
  module _ (m : Running D) (on : r.changed ≡ true) (pace : KeepsPace r m) (few : IsTrue d.tells → LogsAtMost 19 (view_of d r.log) (view_of d m.log)) (grown : TrailGrows d 19 r m)
      (passes : MakesNoPoint (running_held d r) (running_held d m)) (stays : Stays (running_held d r) (running_held d m)) (causes : (running_held d m).faults ≡ (running_held d r).faults) where
    abbrev first : LogView
    first = view_of d r.log

    abbrev back : LogView
    back = view_of d m.log

    back_grows : (s : D) → IsTrue d.tells → LogGrows 18 back (over_site d back s) → LogGrows (close_limit r.changed) first (over_site d first s)
    back_grows s t g = subst (λ (n : ℕ). LogGrows n first (over_site d first s)) (sym (ap close_limit on))
        (grows_as 37 first (over_site d back s) first.end first.first (log_grows_on first back (over_site d back s) pace.total pace.first 19 18 (logged_more 19 first back (few t)) (grown t) g))

    back_leaves : (s : D) → LeavesUntil (running_held d m) (lift_clock (telling back) (d.clock s)) → LeavesUntil (running_held d r) (lift_clock (telling first) (d.clock s))
    back_leaves s leaves =
        clock_as (telling first) (telling back) (running_held d r) (d.clock s) (pace_kind pace)
        (leaves_until (running_held d r) (running_held d m) (lift_clock (telling back) (d.clock s)) passes stays leaves)

    pub closes_back : (s : D) → (IsTrue d.tells → content back ≡ mark_of first) → m.counts.items ≡ r.marks.items → (m.schema ≡ r.schema) × (m.next ≡ r.next) × (m.point ≡ r.point)
        → (IsTrue d.tells → WentBackFrom d r m) → ControlCloses d m s → Closes d r s
    closes_back s contents counts kept went k = record {
      closed = λ t. closed_back first back r.changed r.point r.schema.items r.next r.marks.items (entries_control m.point m.schema.items m.next m.counts.items) (d.files s) (d.clock s) on (pace_kind pace) (contents t)
          (λ i. entries_control (kept.2 i) (kept.0 i).items (kept.1 i) (counts i)) (went t) (k.closed t);
      leaves = back_leaves s k.leaves;
      grown = λ t. back_grows s t (k.grown t);
      disk = k.disk ∙ ap (λ (f : Faults). f.disk) causes;
      say = k.say ∙ ap (λ (f : Faults). f.say) causes;
      said = λ told. k.said told ∙ said_told d.tells_said (d.said m.log.site) (d.said r.log.site) passes.said told;
    }

    pub fails_back : (e : BlockFault × D) → ControlFails d m e → FailsToClose d r e
    fails_back e k = record {
      only = inl k.only;
      leaves = back_leaves e.1 k.leaves;
      full = λ is t. trail_as first back (d.files e.1) pace.total pace.first (k.full is t);
      grown = λ t. back_grows e.1 t (k.grown t);
      disk = counted_then (e.0 ≡ Disk) (d.disk_faults r.log.site) (d.disk_faults m.log.site) (d.disk_faults e.1) (ap (λ (f : Faults). f.disk) causes) k.disk;
      say = k.say ∙ ap (λ (f : Faults). f.say) causes;
      said = λ told. k.said told ∙ said_told d.tells_said (d.said m.log.site) (d.said r.log.site) passes.said told;
    }

  -- the back-out failed
  pub back_fails : (m : Running D) (fault : BlockFault) (s : D) → s ≡ m.log.site → r.changed ≡ true → (fault ≡ Disk) ⊎ ((fault ≡ Memory) ⊎ (fault ≡ Full 9999)) → KeepsPace r m → MakesNoPoint (running_held d r) (running_held d m)
      → (fault ≡ Full 9999 → 19999 < m.log.end.file) → (fault ≡ Full 9999 → IsTrue d.tells → Ends (view_of d m.log)) → TrailGrows d 19 r m → Caused fault (running_held d r) (running_held d m) → FailsToClose d r (fault, s)
  back_fails m fault s site on only pace passes beyond ends grown causes =
      let v = view_of d r.log in
      let w = view_of d m.log in
      let counted = backs_counted 9999 fault (running_held d r) (running_held d m) only causes in
      record {
        only = elim only [ inl disk ↦ inl (inl disk) | inr (inl memory) ↦ inr (on, memory) | inr (inr full) ↦ inl (inr (inl full)) ];
        leaves = subst (λ (x : D). LeavesUntil (running_held d r) (lift_clock (telling v) (d.clock x))) (sym site)
            (clock_as (telling v) (telling w) (running_held d r) (d.clock m.log.site) (pace_kind pace) passes.leaves);
        full = λ is t. subst (λ (x : D). IsFullTrail v (d.files x)) (sym site) (full_trail v w pace.total pace.first (beyond is) (ends is t));
        grown = λ t. subst (λ (n : ℕ). LogGrows n v (over_site d v s)) (sym (ap close_limit on))
            (subst (λ (x : D). LogGrows 37 v (over_site d v x)) (sym site) (grows_as 37 v w v.end v.first (log_grows_more 19 37 v w (omega arith) (grown t))));
        disk = subst (λ (x : D). CountedAt (fault ≡ Disk) (d.disk_faults r.log.site) (d.disk_faults x)) (sym site) counted.0;
        say = ap d.say_faults site ∙ counted.1;
        said = λ told. ap d.said site ∙ said_told d.tells_said (d.said m.log.site) (d.said r.log.site) passes.said told;
      }

  -- without a dump
  pub closes_alone : (a : Result D (BlockFault × D)) → IfOk a (λ s. IsTrue d.tells → IsClosed (view_of d r.log) r.changed r.point r.schema.items r.next r.marks.items (d.files s) (d.clock s))
      → IfOk a (λ s. LeavesUntil (running_held d r) (lift_clock (telling (view_of d r.log)) (d.clock s))) → GivesGrown d (close_limit r.changed) (view_of d r.log) a
      → IfOk a (λ s. (d.disk_faults s ≡ d.disk_faults r.log.site) × (d.say_faults s ≡ d.say_faults r.log.site)) → IfOk a (λ s. IsTrue d.tells_said → d.said s ≡ d.said r.log.site) → IfOk a (Closes d r)
  closes_alone (Ok s) closed leaves grown clean said = record { closed = closed; leaves = leaves; grown = grown; disk = clean.0; say = clean.1; said = said }
  closes_alone (Err e) closed leaves grown clean said = tt

  alone_fault : (e : BlockFault) → (e ≡ Disk) ⊎ ((e ≡ Full 9999) ⊎ ((r.changed ≡ true) × (e ≡ Memory))) → IsCloseFault d r e
  alone_fault e only = elim only [ inl disk ↦ inl (inl disk) | inr (inl full) ↦ inl (inr (inl full)) | inr (inr memory) ↦ inr memory ]

  pub fails_alone : (a : Result D (BlockFault × D)) → IfErr a (λ e. (e.0 ≡ Disk) ⊎ ((e.0 ≡ Full 9999) ⊎ ((r.changed ≡ true) × (e.0 ≡ Memory))))
      → IfErr a (λ e. LeavesUntil (running_held d r) (lift_clock (telling (view_of d r.log)) (d.clock e.1))) → IfErr a (λ e. e.0 ≡ Full 9999 → IsTrue d.tells → IsFullTrail (view_of d r.log) (d.files e.1))
      → GivesGrown d (close_limit r.changed) (view_of d r.log) a → IfErr a (λ e. CountedAt (e.0 ≡ Disk) (d.disk_faults r.log.site) (d.disk_faults e.1)) → IfErr a (λ e. d.say_faults e.1 ≡ d.say_faults r.log.site)
      → IfErr a (λ e. IsTrue d.tells_said → d.said e.1 ≡ d.said r.log.site) → IfErr a (FailsToClose d r)
  fails_alone (Ok s) only leaves full grown disk say said = tt
  fails_alone (Err e) only leaves full grown disk say said = record { only = alone_fault e.0 only; leaves = leaves; full = full; grown = grown; disk = disk; say = say; said = said }
