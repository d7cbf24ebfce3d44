-- A restore by the audit over a log.
use Rattle.std.proofs.Common.{ℕ, zero, suc, ◌<◌, ◌≡◌, inl, inr, Bool, true, length, List, [], ◌∷◌, ◌++◌, take, drop, refl, sym, ◌∙◌, ap, subst, arith}
use Rattle.std.proofs.lemmas.Bool.{true≢false}
use Rattle.dms_moments.specs.Moments.{Clock, Steps}
use Rattle.dms_moments.specs.MomentLaws.{steps_on}
use Rattle.dms_site.specs.Files.{Files, Left, Only, Same, stored_of}
use Rattle.dms_history.specs.History.{Pending}
use Rattle.dms_history.specs.Entries.{Kind, Entry, begin_restore, how_of}
use Rattle.dms_audfile.specs.BlockLaws.{AreNoBegins}
use Rattle.dms_audfile.proofs.Growing.{writes_same}
use Rattle.dms_audfile.specs.Ends as ends
use Rattle.dms_audfile.specs.Ends.{EndsAt, Appends}
use Rattle.dms_audfile.specs.TrailEntries.{trail_entries}
use Rattle.dms_audfile.specs.declared.audit_end.AuditEnd.{AuditEnd}
use Rattle.dms_restore.proofs.ByAudit.{rewritten_kept, rewrites_kept, free_among}
use Rattle.dms_running.specs.ByHow.{IsKeptBy}
use Rattle.dms_running.proofs.Rewriting.{rewritten_on, steps_more}
use Rattle.dms_running.specs.Telling.{Telling, IsTelling}
use Rattle.dms_running.specs.Points.{points_of, next_in}
use Rattle.dms_running.specs.Sealing.{AreSealed}
use Rattle.dms_running.specs.Running.{LeavesPoints}
use Rattle.dms_running.specs.Restoring.{Rewritten, Rewrites}
use Rattle.dms_running.specs.Begun.{ByAudit, IsBegun, LeavesAll, outcome_now}
use Rattle.dms_running.proofs.Beginning.{begin_goes, all_sealed, begun, begun_points, begun_next, begun_outcome}
use Rattle.dms_running.proofs.Restored.{restore_leaves, restore_begun, restored_all, restored_points, restored_next, restored_outcome}
use Rattle.dms_restore.specs.Logging.{waits, LogView, view, telling, state, Ends, LogRuns, points, next}
use Rattle.dms_restore.specs.Parts.{SealsPart}
use Rattle.dms_restore.specs.Begins.{LastIs, begun_to, BegunAt, BeginsRestore, RestoredAt, Restores}
use Rattle.dms_restore.specs.declared.told.Told.{Told}
use Rattle.dms_restore.specs.declared.run.Run.{Run}
use Rattle.dms_restore.specs.Over.{WritesOver}
use Rattle.dms_restore.specs.Table.{Kept, keeps_by, AreFree, IsAmong, IsPlanHere, Writes, Holds, all_in}
use Rattle.dms_history.specs.Events.{BlockBytes}
use Rattle.dms_history.specs.Images.{is_at}
use Rattle.dms_history.proofs.Picks.{place_cases}
use Rattle.dms_site.specs.StoredLaws.{stored_whole}
use Rattle.dms_restore.proofs.Trails.{is_telling, first_low, waits_is}
use Rattle.dms_restore.proofs.Logs.{ReadsNow, tells, plain, entry_steps, same_telling, appended, ends_then, settles, sealing}

-- a Begin never waits
none_waits : (w : List Entry) (m : ℕ) (kind : Kind) (k : ℕ) → AreNoBegins (drop k (w ++ begin_restore m kind ∷ [])) → drop k (w ++ begin_restore m kind ∷ []) ≡ []
none_waits [] m kind zero plain = absurd (true≢false plain.1)
none_waits [] m kind (suc zero) plain = refl
none_waits [] m kind (suc (suc k)) plain = refl
none_waits (e ∷ w) m kind zero plain = absurd (not_plain w plain.2)
  where
    not_plain : (w : List Entry) → AreNoBegins (w ++ begin_restore m kind ∷ []) → ⊥
    not_plain [] plain = true≢false plain.1
    not_plain (d ∷ w) plain = not_plain w plain.2
none_waits (e ∷ w) m kind (suc k) plain = none_waits w m kind k plain

-- where nothing waited the Begin alone is sealed
begin_taken : (m : ℕ) (kind : Kind) (k : ℕ) → AreNoBegins (drop k (begin_restore m kind ∷ [])) → take k (begin_restore m kind ∷ []) ≡ begin_restore m kind ∷ []
begin_taken m kind zero plain = absurd (true≢false plain.1)
begin_taken m kind (suc zero) plain = refl
begin_taken m kind (suc (suc k)) plain = refl

pub begin_sealed : (total first m : ℕ) (kind : Kind) (old new : Files) (clock : Clock Left) (end : AuditEnd) → end.total ≡ total → Appends end first (begin_restore m kind ∷ []) old new clock
    → trail_entries total first new ≡ trail_entries total first old ++ begin_restore m kind ∷ []
begin_sealed total first m kind old new clock end same appends =
    subst (λ k. trail_entries k first new ≡ trail_entries k first old ++ begin_restore m kind ∷ []) same
    (appends.sealed ∙ ap (λ (l : List Entry). trail_entries end.total first old ++ l) (begin_taken m kind appends.some appends.plain))

-- the first so many entries are sealed, whatever was answered
pub sealed_part : (a b : LogView) (tag : ℕ) (es : List Entry) → Only a.files a.clock → ReadsNow b → Steps (ends.Seals a.end.total tag a.first es) a.clock b.clock → SealsPart a b es
sealed_part a b tag es only read steps =
    let y = steps.follows read.0 read.1 in
    let trail : Files → List Entry = trail_entries a.end.total a.first in
    (y.2.some, ap trail (sym read.2) ∙ y.2.entries ∙ ap (λ f. trail f ++ take y.2.some es) (only y.0 y.1))

pub begin_ends : (end : AuditEnd) (first m : ℕ) (kind : Kind) (old new : Files) (clock : Clock Left) → Appends end first (begin_restore m kind ∷ []) old new clock → EndsAt end first [] new clock
begin_ends end first m kind old new clock appends = subst (λ (l : List Entry). EndsAt end first l new clock) (none_waits [] m kind appends.some appends.plain) appends.ends

module _ (a : LogView) (r : LogRuns a) (read : ReadsNow a) (m : ℕ) (kind : Kind) (by_audit : ByAudit (how_of kind)) (at : LastIs a m) where
  abbrev pub the_begin : Entry
  the_begin = begin_restore m kind

  pub begin_leave : (later : Clock Left) → ((first : ℕ) (waiting : List Entry) → AreNoBegins waiting → EndsAt a.end first waiting a.files a.clock → Steps (ends.Seals a.end.total a.end.tag first (waiting ++ the_begin ∷ [])) a.clock later)
      → LeavesPoints (telling a) (points a) (next a) (state a) later
  begin_leave later steps = begin_goes (telling a) (tells a r read) (state a) r.runs read m kind by_audit at later (entry_steps a r read the_begin later steps)

  module _ (b : LogView) (same : b.end.total ≡ a.end.total) (start : b.first ≡ a.first)
      (steps : (first : ℕ) (waiting : List Entry) → AreNoBegins waiting → EndsAt a.end first waiting a.files a.clock → Steps (ends.Seals a.end.total a.end.tag first (waiting ++ the_begin ∷ [])) a.clock b.clock)
      (appends : (first : ℕ) (waiting : List Entry) → AreNoBegins waiting → EndsAt a.end first waiting a.files a.clock → Appends b.end first (waiting ++ the_begin ∷ []) a.files b.files b.clock)
      (behind : (g : ℕ) → b.end.file < g → b.files g ≡ a.files g) where
    more : Appends b.end a.first (waits a.end ++ the_begin ∷ []) a.files b.files b.clock
    more = appends a.first (waits a.end) (plain a r read) r.ends

    nothing : waits b.end ≡ []
    nothing = waits_is b.end a.first (drop more.some (waits a.end ++ the_begin ∷ [])) b.files b.clock more.ends ∙ none_waits (waits a.end) m kind more.some more.plain

    sealed : AreSealed (telling a) (waits a.end ++ the_begin ∷ []) a.files b.files
    sealed = all_sealed (telling a) (waits a.end ++ the_begin ∷ []) (waits b.end) a.files b.files (appended a r read b same start the_begin steps appends behind) nothing

    pub begin_begun : BegunAt (begun_to a m (how_of kind)) b
    begin_begun = record {
      ends = ends_then a r read b same start the_begin steps appends behind;
      begun = subst (λ (t : Telling). IsBegun t (begun_to a m (how_of kind)) (state b)) (same_telling a r read b same start)
          (begun (telling a) (tells a r read) (state a) r.runs read m kind by_audit at (state b) sealed nothing (sealing a r read b same start the_begin steps appends behind) (settles a r read b same start the_begin steps appends behind));
    }

    pub begin_keeps : BeginsRestore a b m (how_of kind)
    begin_keeps = record {
      points_same = ap (λ (t : Telling). points_of t b.files) (sym (same_telling a r read b same start)) ∙ begun_points (telling a) (tells a r read) (state a) r.runs read m kind by_audit at (state b) sealed;
      next_same = ap (λ (t : Telling). next_in t b.files) (sym (same_telling a r read b same start)) ∙ begun_next (telling a) (tells a r read) (state a) r.runs read m kind by_audit at (state b) sealed;
      leaves = ap (λ (t : Telling). outcome_now t (begun_to a m (how_of kind)) (state b)) (sym (same_telling a r read b same start)) ∙ begun_outcome (telling a) (tells a r read) (state a) r.runs read m kind by_audit at (state b) sealed;
    }

-- ---- the blocks of the table are written

-- a call that only looks after the writes
pub then_looks : (keeps : ℕ → ℕ → Type 0) (a b c : Clock Left) → Steps (Rewrites keeps) a b → Steps Same b c → Steps (Rewrites keeps) a c
then_looks keeps a b c one two = steps_on one two (λ x y z was now step look. subst (λ (l : Left). Rewrites keeps x l) (sym look) step) (λ x y was step. step)

-- the trail ends where it did
pub ends_kept : (a : LogView) (w : List Entry) (keeps : ℕ → ℕ → Type 0) (files : Files) (clock : Clock Left) → EndsAt a.end a.first w a.files a.clock → Steps (Rewrites keeps) a.clock clock → Rewritten keeps a.files files
    → EndsAt a.end a.first w files clock
ends_kept a w keeps files clock ends steps written = record {
  low = ends.low;
  writes = writes_same a.end.total a.end.tag a.first a.end.file a.end.count a.files files ends.writes (λ g from upto. written.others g (omega (arith, upto, a.end.high)));
  settled = λ g from upto x now.
      let after = steps.follows x now in
      after.2.files.others g (omega (arith, upto, a.end.high)) ∙ ends.settled g from upto after.0 after.1 ∙ sym (written.others g (omega (arith, upto, a.end.high)));
  waits = ends.waits;
  kind = ends.kind;
}

-- the runs and then the table are written, and a call that only looks follows
pub plan_steps : (p : Pending) (x y z w : Clock Left) → Steps (Rewrites (Kept (keeps_by p.how p.entries p.point))) x y → Steps (Rewrites (Kept (keeps_by p.how p.entries p.point))) y z → Steps Same z w
    → Steps (Rewrites (IsKeptBy p.how p.entries p.point)) x w
plan_steps p x y z w one two look =
    let keeps = Kept (keeps_by p.how p.entries p.point) in
    rewrites_kept p.how p.entries p.point (then_looks keeps x z w (steps_more keeps x y z one two) look)

pub plan_written : (p : Pending) (x y z w : Files) → Rewritten (Kept (keeps_by p.how p.entries p.point)) x y → Rewritten (Kept (keeps_by p.how p.entries p.point)) y z → w ≡ z → Rewritten (IsKeptBy p.how p.entries p.point) x w
plan_written p x y z w one two same =
    subst (λ (l : Files). Rewritten (IsKeptBy p.how p.entries p.point) x l) (sym same) (rewritten_kept p.how p.entries p.point x z (rewritten_on (Kept (keeps_by p.how p.entries p.point)) x y z one two))

-- what is written then, whatever the files held
pub writes_over : (p : Pending) (old new : Files) (runs : List Run) (table : List Told) → Writes p old runs table → Rewritten (IsKeptBy p.how p.entries p.point) old new → Holds old (all_in runs ++ table) new → WritesOver p old new
writes_over p old new runs table is written holds = record { written = written; told = λ f b low x told size. (holds f b x (is.all f b x low told size)).1 }

module _ (p : Pending) (a : LogView) (r : BegunAt p a) (read : ReadsNow a) where
  abbrev pub tells_it : IsTelling (telling a)
  tells_it = is_telling a.end.total a.first (first_low a.end a.first (waits a.end) a.files a.clock r.ends)

  pub table_leave : (later : Clock Left) → Steps (Rewrites (IsKeptBy p.how p.entries p.point)) a.clock later → LeavesAll (telling a) (state a) later
  table_leave later steps = restore_leaves (telling a) tells_it p (state a) r.begun read later steps

  module _ (files : Files) (clock : Clock Left) (steps : Steps (Rewrites (IsKeptBy p.how p.entries p.point)) a.clock clock) (written : Rewritten (IsKeptBy p.how p.entries p.point) a.files files) where
    abbrev pub then_ : LogView
    then_ = view a.end a.first files clock

    ends_still : Ends then_
    ends_still = ends_kept a (waits a.end) (IsKeptBy p.how p.entries p.point) files clock r.ends steps written

    pub table_begun : BegunAt p then_
    table_begun = record { ends = ends_still; begun = restore_begun (telling a) tells_it p (state a) r.begun read (state then_) written r.begun.nothing steps }

    pub table_restored : (runs : List Run) (table : List Told) → Writes p a.files runs table → Holds a.files (all_in runs ++ table) files → Only files clock → RestoredAt p then_
    table_restored runs table is holds only = record {
      restored = restored_all (telling a) tells_it p (state a) r.begun read (state then_) written (λ f b low x told size. (holds f b x (is.all f b x low told size)).1);
      only = only;
    }

    -- a block that isn't written stands as it did
    unwritten : (table : List Told) → ((keeps : ℕ → ℕ → Bool) → AreFree (Kept keeps) table → Rewritten (Kept keeps) a.files files) → (f b : ℕ) (x : BlockBytes) → (IsAmong f b table → ⊥) → stored_of a.files f b ≡ x → length x ≡ 1024 → stored_of files f b ≡ x
    unwritten table others f b x out stands size =
        let keeps : ℕ → ℕ → Bool = λ g k. is_at f b g k in
        let free : AreFree (Kept keeps) table = free_among (Kept keeps) table (λ g k among kept. elim (place_cases f b g k) [
          | inl place ↦ out (subst (λ h. IsAmong h b table) place.0 (subst (λ h. IsAmong g h table) place.1 among))
          | inr apart ↦ true≢false (sym kept ∙ apart.1)
        ]) in
        let own : is_at f b f b ≡ true = elim (place_cases f b f b) [ inl place ↦ place.2 | inr apart ↦ absurd (apart.0 refl refl) ] in
        (others keeps free).kept f b own (stored_whole a.files f b (ap (λ (l : BlockBytes). length l) stands ∙ size)).1 ∙ stands

    pub table_here : (table : List Told) → IsPlanHere p a.files table → Holds a.files table files → ((keeps : ℕ → ℕ → Bool) → AreFree (Kept keeps) table → Rewritten (Kept keeps) a.files files) → Only files clock → RestoredAt p then_
    table_here table is holds others only = record {
      restored = restored_all (telling a) tells_it p (state a) r.begun read (state then_) written (λ f b low x told size. elim (is.all f b x told) [
        | inl same ↦ (holds f b x same).1
        | inr (out, stands) ↦ unwritten table others f b x out stands size
      ]);
      only = only;
    }

    pub table_keeps : Restores p a then_
    table_keeps = record {
      points_same = restored_points (telling a) tells_it p (state a) r.begun read (state then_) written;
      next_same = restored_next (telling a) tells_it p (state a) r.begun read (state then_) written;
      outcome_same = restored_outcome (telling a) tells_it p (state a) r.begun read (state then_) written;
    }
