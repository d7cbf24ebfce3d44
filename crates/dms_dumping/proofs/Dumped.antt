-- What is left where a database was opened for its dump and the dump's file alone was written.
use Rattle.std.specs.Prelude.{◌≢◌}
use Rattle.std.proofs.Common.{ℕ, ◌+◌, ◌-◌, ◌≤◌, ◌≡◌, ◌∙◌, inl, inr, Bool, cond, List, [], length, map, IsTrue, None, Some, append-nil, refl, sym, ap, subst, arith}
use Rattle.dms_moments.specs.Moments.{Clock, Now, Runs, Steps}
use Rattle.dms_moments.specs.MomentLaws.{runs_step, runs_weaken, steps_on, steps_weaken}
use Rattle.dms_site.specs.declared.site.Site.{Ghosts}
use Rattle.dms_site.specs.Files.{Files, Left, OnDisk, Only, PrintsPartOf}
use Rattle.dms_history.specs.Entries.{Entry, counts_in}
use Rattle.dms_history.specs.declared.event.FileCount.{FileCount}
use Rattle.dms_audfile.proofs.Ended.{entries_settled}
use Rattle.dms_audfile.proofs.Gates.{stands_full}
use Rattle.dms_audfile.proofs.Several.{trail_same}
use Rattle.dms_audfile.specs.Header.{tag_said}
use Rattle.dms_audfile.specs.Scanning.{place_in}
use Rattle.dms_audfile.specs.Trail.{trail_from}
use Rattle.dms_audfile.specs.TrailEntries.{trail_entries}
use Rattle.dms_dump.specs.Body.{dump_made}
use Rattle.dms_dump.specs.Stops.{BecomesDump}
use Rattle.dms_running.specs.Points.{DescribedPoint, points_of}
use Rattle.dms_restore.proofs.CountBytes.{counts_say}
use Rattle.dms_restore.proofs.Logs.{ReadsNow}
use Rattle.dms_restore.specs.Counts.{file_counts}
use Rattle.dms_restore.specs.Finding.{IsFoundFrom}
use Rattle.dms_restore.specs.Logging.{LeavesTrail, TrailKept, telling, telling_of}
use Rattle.dms_restore.specs.Views.{view_of}
use Rattle.dms_wal.specs.Marks.{last_number}
use Rattle.dms_opening.specs.declared.opened.Opened.{Opened}
use Rattle.dms_opening.specs.Openings.{IsTrailFound, OpeningGrows, OpensAt, ReopensSince, RunsFrom, RunsWhere, SealsFew, text_of}
use Rattle.dms_opening.proofs.Callers.{trail_is_one}
use Rattle.dms_desc.specs.Shape.{Described}
use Rattle.dms_model.specs.Db.{Db}
use Rattle.dms_run.specs.State.{StateOf}
use Rattle.dms_run.specs.States.{LivesEndWith}
use Rattle.dms_statelaws.specs.Dumps.{HasDumpAt}
use Rattle.dms_statelaws.specs.SiteLaws.{HasDumped, KeepsOthers, OpensOver}
use Rattle.dms_statelaws.specs.Statements.{DumpEnds, DumpStands}
use Rattle.dms_statelaws.proofs.Ends.{log_whole}
use Rattle.dms_statelaws.proofs.Kept.{is_whole}
use Rattle.dms_statelaws.proofs.Statements as states
use Rattle.dms_statelaws.proofs.Statements.{dump_law}
use Rattle.dms_statelaws.proofs.Trails.{WritesWithin, writes_within}
use Rattle.dms_run.specs.Opens.{DatabaseState, HoldsState, StatesHold}
use Rattle.dms_guard.specs.Guard.{IsBeside, StaysBeside, StaysBut}
use Rattle.dms_guard.specs.GuardLaws.{all_structures}
use Rattle.dms_guard.proofs.Trails.{trail_entered}
use Rattle.dms_run.proofs.Holding.{last_is}
use Rattle.dms_dumping.specs.DumpDoes.{AsLeft, LeavesDump, StaysBesideDump}
use Rattle.dms_dumping.specs.Writing.{IsHeadOf, WritesDump}

-- ---- what a call leaves

-- both of two facts on what a stop leaves
pub both_runs : {a b : Clock Left} {P Q R : Left → Type 0} → Runs a b P → Runs a b Q → ((x : Left) → P x → Q x → R x) → Runs a b R
both_runs one two both = record {
  later = one.later;
  only = λ t x le left. elim (one.only t x le left) [
    | inl was ↦ inl was
    | inr p ↦ elim (two.only t x le left) [ inl was ↦ inl was | inr q ↦ inr (both x p q) ]
  ];
  keeps = one.keeps;
}

text_told : {S : Type 0} (g : Ghosts S) (a : S) → IsTrue g.tells_said → text_of g a ≡ Some (g.said a)
text_told g a told = ap (λ (b : Bool). cond b (Some (g.said a)) None) told

writes_as : (f : ℕ) (made : List ℕ) (x y : Left) → OnDisk f (BecomesDump made) x y → WritesDump f made x y
writes_as f made x y one = record {
  here = elim one.files.here [
    | inl same ↦ inl (inl same, one.said)
    | inr rest ↦ elim rest [ inl shut ↦ inl (inr shut, one.said) | inr written ↦ inr written ]
  ];
  others = one.files.others;
}

-- while the dump is written
pub writes_alone : (f : ℕ) (made : List ℕ) (a b : Clock Left) → Steps (OnDisk f (BecomesDump made)) a b → Steps (WritesDump f made) a b
writes_alone f made a b steps = steps_weaken steps (λ x y now one. writes_as f made x y one)

-- and then while that is said
pub writes_said : (f : ℕ) (made line : List ℕ) (files : Files) (a b c : Clock Left) → files f ≡ made → Only files b → Steps (OnDisk f (BecomesDump made)) a b → Steps (PrintsPartOf line) b c → Steps (WritesDump f made) a c
writes_said f made line files a b c written only steps says = steps_on steps says
    (λ x y z nx ny one two. record {
      here = inr (ap (λ (k : Files). k f) two.files ∙ ap (λ (k : Files). k f) (only y ny) ∙ written);
      others = λ i not. ap (λ (k : Files). k i) two.files ∙ one.files.others i not;
    })
    (λ x y nx one. writes_as f made x y one)

module _ {S : Type 0} (g : Ghosts S) (d : ℕ) (some : 1 ≤ d) (few : d ≤ 9999) where
  is_beside : IsBeside 200 (20000 + d)
  is_beside = inr (inl (omega (arith, some), omega (arith, few)))

  -- all but audit files and the structure files that a database may have
  stays_all : (a b : S) → StaysBeside g a b → StaysBut g 200 a b
  stays_all a b stays = stays 200 (all_structures g.tells (g.files a))

  -- ---- an opening alone

  pub beside_alone : (a b : S) → StaysBeside g a b → StaysBesideDump g d a b
  beside_alone a b stays = λ s has.
      let these = stays s has in
      record {
        read = λ tells f is not. these.read tells f is;
        left = λ tells. steps_weaken these.left (λ x y now p f is not. p f is);
      }

  as_left : (a b : S) → StaysBeside g a b → Runs (g.clock a) (g.clock b) (AsLeft (g.clock a) (20000 + d))
  as_left a b stays = runs_weaken (stays_all a b stays).left.runs (λ x after. (after.0, after.1, after.2 (20000 + d) is_beside))

  -- the dump as it was, and no more text
  pub dump_alone : (a b : S) → StaysBeside g a b → ReopensSince g a b → (s : DatabaseState) → StateOf (g.files a) s.point s.desc s.db → Runs (g.clock a) (g.clock b) (LeavesDump g d s.point a)
  dump_alone a b stays since s is =
      let files = g.files a in
      let at = is.at_point in
      let silent = since (states.total files s.point s.desc s.db at) (states.first files s.point s.desc s.db at) (states.state_trail files s.point s.desc s.db at) (states.state_whole files s.point s.desc s.db at) in
      both_runs (as_left a b stays) silent (λ x p q. inl (inl p, λ told. q.text (g.said a) (text_told g a told)))

  -- ---- behind an opening

  module _ (old : S) (o : Opened S) (counts : List FileCount) (new : S) where
    abbrev mid : S
    mid = o.log.site

    abbrev made : List ℕ
    made = dump_made 1 o.log.end.tag o.point o.audit counts (g.files mid)

    abbrev Writes : Type 0
    Writes = Steps (WritesDump (20000 + d) made) (g.clock mid) (g.clock new)

    abbrev Others : Files → Files → Type 0
    Others then now = (i : ℕ) → i ≢ 20000 + d → now i ≡ then i

    keeps_others : Writes → Steps (KeepsOthers (20000 + d)) (g.clock mid) (g.clock new)
    keeps_others writes = steps_weaken writes (λ x y now w. w.others)

    pub beside_on : StaysBeside g old mid → (IsTrue g.tells → Others (g.files mid) (g.files new)) → (IsTrue g.tells → Writes) → StaysBesideDump g d old new
    beside_on stays others writes = λ s has.
        let these = stays s has in
        record {
          read = λ tells f is not. others tells f not ∙ these.read tells f is;
          left = λ tells. steps_on these.left (keeps_others (writes tells)) (λ x y z nx ny p q f is not. q f not ∙ p f is) (λ x y nx p f is not. p f is);
        }

    -- ---- of a database

    module _ (opens : OpensAt o.log.end.total o.log.first (g.files old) o.point o.next o.schema.items o.counts.items) (runs : RunsWhere g (g.files old) o) where
      runs_from : (s : DatabaseState) → StateOf (g.files old) s.point s.desc s.db → RunsFrom (g.files old) o.point o.next o.schema.items o.counts.items (view_of g o.log)
      runs_from s is = runs (is_whole o.log.end.total o.log.first (g.files old) s.point s.desc s.db opens.trail is.at_point)

      -- the number of its last point
      pub point_is : StatesHold → (s : DatabaseState) → StateOf (g.files old) s.point s.desc s.db → o.point ≡ s.point
      point_is hold s is =
          let r = runs_from s is in
          let h : HoldsState (g.files old) s = hold (g.files old) s is in
          let one = trail_is_one h.total h.first o.log.end.total o.log.first (g.files old) h.trail opens.trail in
          let state : LivesEndWith s.desc (points_of (telling (view_of g o.log)) (g.files old)) s.point s.db =
          subst (λ k. LivesEndWith s.desc (points_of (telling_of o.log.end.total k) (g.files old)) s.point s.db) one.1 (subst (λ k. LivesEndWith s.desc (points_of (telling_of k h.first) (g.files old)) s.point s.db) one.0 h.state) in
          last_is s.desc (points_of (telling (view_of g o.log)) (g.files old)) s.point o.point s.db state (subst (λ (ps : List DescribedPoint). last_number ps ≡ Some o.point) r.points_same r.last.number)

      -- ---- its trail

      module _ (read : ReadsNow (view_of g o.log)) (s : DatabaseState) (is : StateOf (g.files old) s.point s.desc s.db) where
        abbrev total : ℕ
        total = o.log.end.total

        abbrev first : ℕ
        first = o.log.first

        trail_there : IsTrailFound total first (g.files mid)
        trail_there =
            let r = runs_from s is in
            let found : IsFoundFrom total first (g.files mid) = (log_whole (view_of g o.log) r.runs read r.nothing).found in
            record {
              places = map place_in found.finds.placed;
              found = record { entries = found.finds.placed; places_are = refl; trail = found.finds.trail; first_is = found.first_is };
              tag = o.log.end.tag;
              file = o.log.end.file;
              count = o.log.end.count;
              writes = r.runs.ends.writes;
            }

        there : WritesWithin total first (g.files mid)
        there = writes_within total first (g.files mid) trail_there

        kept_there : (now : Files) → Others (g.files mid) now → TrailKept total first (g.files mid) now
        kept_there now others =
            let t : WritesWithin total first (g.files mid) = there in
            let w = t.writes in
            let same : (i : ℕ) → first ≤ i → i ≤ t.file → now i ≡ g.files mid i = λ i from upto. others i (λ at. omega (arith, at, upto, t.high, some)) in
            let trail = trail_same (t.file - first) 10000 total first t.file (g.files mid) now (omega (arith, w.order)) (omega (arith, w.order, t.low, t.high)) w.full
            (stands_full total t.count (g.files mid t.file) w.stands w.not_full) same in
            record { grown = record { made = []; trail = trail ∙ sym (append-nil (trail_from 10000 total first (g.files mid))); filled = tt }; tag = ap tag_said (same first (omega arith) w.order) }

        leaves_there : (y x : Left) → Now (g.clock mid) y → Others y.files x.files → LeavesTrail total first y x
        leaves_there y x now others =
            let t : WritesWithin total first (g.files mid) = there in
            let only : y.files ≡ g.files mid = (runs_from s is).only y now in
            record {
              kept = subst (λ (f : Files). TrailKept total first f x.files) (sym only) (kept_there x.files (λ i not. others i not ∙ ap (λ (f : Files). f i) only));
              below = λ i above upto. others i (λ at. omega (arith, at, upto, t.writes.order, t.high, some));
            }

        -- its entries are those of the opening
        entries_there : (now : Files) → Others (g.files mid) now → trail_entries total first now ≡ trail_entries total first (g.files mid)
        entries_there now others =
            let t : WritesWithin total first (g.files mid) = there in
            entries_settled total t.tag first t.file t.count (g.files mid) now t.low t.high t.writes (λ i from upto. others i (λ at. omega (arith, at, upto, t.high, some)))

        pub grows_on : IsTrue g.tells → OpeningGrows g old mid → Others (g.files mid) (g.files new) → Writes → OpeningGrows g old new
        grows_on tells grows others writes =
            let on = trail_entered g old mid new total first opens.trail grows (kept_there (g.files new) others) (steps_weaken writes (λ y x now w. leaves_there y x now w.others)) in
            record {
              kept = λ t f found. (on t f found).0;
              left = λ t f found. (on t f found).1;
              few = λ total' first' found whole.
                  let one = trail_is_one total first total' first' (g.files old) opens.trail found in
                  let few : SealsFew total' first' (g.files old) (g.files mid) = grows.few total' first' found whole in
                  subst (λ n. n ≤ length (trail_entries total' first' (g.files old)) + 19)
                  (ap (λ (l : List Entry). length l) (sym (subst (λ k. trail_entries total' k (g.files new) ≡ trail_entries total' k (g.files mid)) one.1
                  (subst (λ k. trail_entries k first (g.files new) ≡ trail_entries k first (g.files mid)) one.0 (entries_there (g.files new) others))))) few;
            }

      -- ---- its states

      module _ (read : ReadsNow (view_of g o.log)) (since : ReopensSince g old mid) where
        over : OpensOver g old o
        over = record { opens = opens; runs = runs; moments = since }

        pub stands_on : Writes → DumpStands g old new
        stands_on writes = (dump_law g old o new read).stands d some few over (keeps_others writes)

        has_dumped : IsHeadOf o.log.end.tag o.point o.audit counts → counts ≡ file_counts 30001 o.counts.items → (files : Files) → files (20000 + d) ≡ made → Others (g.files mid) files → HasDumped g o files d o.log.end.tag o.audit counts
        has_dumped head are files written others = record {
          head = head;
          tag_is = refl;
          counted = λ f. ap (λ (l : List FileCount). counts_in l f) are ∙ counts_say o.counts.items f;
          written = written;
          others = others;
        }

        -- a dump that stands whole is true
        dump_there : IsHeadOf o.log.end.tag o.point o.audit counts → counts ≡ file_counts 30001 o.counts.items → (files : Files) → files (20000 + d) ≡ made → Others (g.files mid) files
            → (n : ℕ) (desc : Described) (db : Db) → StateOf (g.files old) n desc db → HasDumpAt files d n
        dump_there head are files written others n desc db s = (dump_law g old o new read).ends files d o.log.end.tag o.audit counts some few over (has_dumped head are files written others) n desc db s

        module _ (head : IsHeadOf o.log.end.tag o.point o.audit counts) (are : counts ≡ file_counts 30001 o.counts.items) (now_said : (x : Left) → IsTrue g.tells_said → Now (g.clock mid) x → x.said ≡ g.said mid) (said : g.said mid ≡ g.said old)
            (stays : StaysBeside g old mid) (s : DatabaseState) (is : StateOf (g.files old) s.point s.desc s.db) where
          becomes : (y x : Left) → Now (g.clock mid) y → WritesDump (20000 + d) made y x → LeavesDump g d s.point old x
          becomes y x now w = elim w.here [
            | inl before ↦ inl (
              elim before.0 [
                | inl same ↦ (let z = (stays_all old mid stays).left.follows y now in inl (z.0, z.1, same ∙ z.2 (20000 + d) is_beside))
                | inr shut ↦ inr shut
              ],
              λ told. before.1 ∙ now_said y told now ∙ said,
            )
            | inr written ↦ inr (dump_there head are x.files written (λ i not. w.others i not ∙ ap (λ (f : Files). f i) ((runs_from s is).only y now)) s.point s.desc s.db is)
          ]

          pub dump_on : Writes → Runs (g.clock old) (g.clock new) (LeavesDump g d s.point old)
          dump_on writes = runs_step (dump_alone old mid stays since s is) writes becomes

        pub ends_on : IsHeadOf o.log.end.tag o.point o.audit counts → counts ≡ file_counts 30001 o.counts.items → g.files new (20000 + d) ≡ made → Others (g.files mid) (g.files new) → Only (g.files new) (g.clock new)
            → DumpEnds g old new d
        ends_on head are written others only n desc db s = (dump_there head are (g.files new) written others n desc db s, only)
