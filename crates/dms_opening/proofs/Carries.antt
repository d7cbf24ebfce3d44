-- A plan that is carried out.
use Rattle.std.proofs.Common.{ℕ, ◌/◌, ◌≡◌, ◌⊎◌, inl, inr, Bool, true, false, cond, IsTrue, List, [], ◌∷◌, ◌++◌, append_assoc, length, take, Option, Some, None, refl, sym, ◌∙◌, ap, subst, arith}
use Rattle.std.proofs.lemmas.List.{take_all}
use Rattle.std.proofs.lemmas.Option.{none-some}
use Rattle.dms_moments.specs.Moments.{After, Clock, Now, Runs, Steps}
use Rattle.dms_site.specs.declared.site.Site.{Ghosts}
use Rattle.dms_site.specs.Files.{Files, Left, stored_of}
use Rattle.dms_history.specs.Events.{AllBlocks}
use Rattle.dms_history.specs.History.{Pending, History}
use Rattle.dms_history.specs.Entries.{Entry, Kind, begin_restore, by_halt_load, control_point}
use Rattle.dms_history.specs.Events.{Event}
use Rattle.dms_history.specs.Lists.{until_first}
use Rattle.dms_history.specs.Places.{is_point}
use Rattle.dms_history.specs.EntryEvents.{events, history_of, live_of}
use Rattle.dms_history.proofs.Alone.{alone_events}
use Rattle.dms_history.proofs.Whole.{pending_cut}
use Rattle.dms_history.specs.Schemas.{schema_entries}
use Rattle.dms_history.specs.declared.event.FileCount.{FileCount}
use Rattle.dms_history.specs.declared.event.Row.{Row}
use Rattle.dms_history.proofs.Order.{append_none}
use Rattle.dms_history.proofs.Picks.{some_is}
use Rattle.dms_history.proofs.Stops.{outcome_length}
use Rattle.dms_audrec.specs.Spelling.{pair_bytes, count_file, count_blocks}
use Rattle.dms_audrec.specs.Reading.{counts_at}
use Rattle.dms_audfile.specs.Ends.{Grown}
use Rattle.dms_audfile.specs.TrailEntries.{trail_entries}
use Rattle.dms_audfile.specs.declared.fault.AudFault.{AudFault}
use Rattle.dms_audfile.specs.declared.fault.AudFault.TheVariants as aud
use Rattle.dms_running.specs.Telling.{Telling}
use Rattle.dms_running.specs.Standing.{IsWhole}
use Rattle.dms_running.specs.Points.{DescribedPoint, points_of, next_in, LeavesPointsPrefix}
use Rattle.dms_running.specs.Begun.{LeavesAll, outcome_now}
use Rattle.dms_opening.specs.declared.choosing.OpenFault.TheVariants.{Audit}
use Rattle.dms_audrec.specs.Bodies.{bodies}
use Rattle.dms_restore.specs.Counts.{count_of, file_counts}
use Rattle.dms_restore.specs.Laying.{schema_control}
use Rattle.dms_restore.specs.Logging.{LogView, telling_of, telling, state, entries, points, content, PrintsNothing}
use Rattle.dms_opening.specs.Doing.{IsOpening}
use Rattle.dms_restore.specs.Begins.{BegunAt}
use Rattle.dms_opening.specs.Starts.{MayOpen, MayGoOn, BegunFrom, OpenedAt}
use Rattle.dms_restore.proofs.CountBytes.{IsCountTable, counts_read, counts_told}
use Rattle.dms_opening.proofs.GoneOn.{each_on}
use Rattle.dms_wal.specs.Lifting.{last_blocks}
use Rattle.dms_wal.specs.Marks.{last_number}
use Rattle.dms_wal.proofs.Imaging.{ends_sealed, begun_live}
use Rattle.dms_wal.proofs.Under.{under_control}
use Rattle.dms_opening.specs.declared.asked.Asked.{Asked}
use Rattle.dms_opening.specs.declared.plan.OpeningPlan.{OpeningPlan}
use Rattle.dms_opening.specs.Plans.{SameDumps, Plans}
use Rattle.dms_opening.specs.Openings.{begin_where_none, ending_entries, opening_entries, RunsFrom, MayHaveWritten, Reopens, text_of}
use Rattle.dms_opening.specs.Carrying.{IsFitPlan, IsPlanned, IsPlannedFor, WritesFor}
use Rattle.dms_opening.proofs.LastPoint.{last_is, left_is}

-- By the plan of a trail that was scanned the restore is begun, or goes on: its Begin alone stands behind the entries that there were.
pub record BeginsPlan (a : LogView) (plan : OpeningPlan) (b : LogView) : Type 0 where
  pub planned : IsPlanned a plan
  pub total_same : b.end.total ≡ a.end.total
  pub first_same : b.first ≡ a.first
  pub grown : Grown a.end.total a.first a.files b.files
  pub dumps : SameDumps a.files b.files
  pub sealed : trail_entries a.end.total a.first b.files ≡ trail_entries a.end.total a.first a.files ++ begin_where_none (history_of (trail_entries a.end.total a.first a.files)).pending plan.choice.point

-- So it is where the files hold a database: the restore is to leave what it was to leave, and points and next number are the same.
pub record BeginsWhole (a : LogView) (plan : OpeningPlan) (b : LogView) : Type 0 where
  pub begins : BeginsPlan a plan b
  pub whole : IsWhole (telling a) a.files
  pub begun : BegunAt begins.planned.plans.chooses.restore b
  pub keeps : BegunFrom begins.planned.plans.chooses.restore a b

-- the Begin of an opening is there where it begins a restore
pub begin_is : (h : History) (begins : Bool) (point : ℕ) (p : Pending) → IsOpening h begins point p → cond begins (begin_restore point by_halt_load ∷ []) [] ≡ begin_where_none h.pending point
begin_is h true point p o = ap (λ (r : Option Pending). begin_where_none r point) (sym (o.new refl).0)
begin_is h false point p o = ap (λ (r : Option Pending). begin_where_none r point) (sym (o.goes_on refl))

pub count_table : (plan : OpeningPlan) → IsFitPlan plan → IsCountTable plan.counts.items
count_table plan ready = record { few = ready.counts.few; small = ready.counts.small }

-- the bytes of the counts, by another name of their list
pub bytes_are : (counts said bytes : List ℕ) → said ≡ counts → bytes ≡ pair_bytes count_file count_blocks (file_counts 30001 said) → bytes ≡ pair_bytes count_file count_blocks (file_counts 30001 counts)
bytes_are counts said bytes same is = is ∙ ap (λ (l : List ℕ). pair_bytes count_file count_blocks (file_counts 30001 l)) same

-- what is planned is what its restore writes
pub writes_by : (v : LogView) (asked : Asked) (rows : List Row) (plan : OpeningPlan) (s : IsPlannedFor v asked rows plan) → WritesFor v s.plans.chooses.restore plan
writes_by v asked rows plan s = record { start = s.start; plan_is = s.plans.plan_is }

-- what an opening may do
pub may_open : (v : LogView) (plan : OpeningPlan) (s : IsPlanned v plan) → IsWhole (telling v) v.files → MayOpen v plan.choice.begins plan.choice.point s.plans.chooses.restore
may_open v plan s whole = record { start = s.start; whole = whole; opening = s.plans.chooses.is }

-- the Begin of a plan is sealed
module _ (a b : LogView) (plan : OpeningPlan) (s : IsPlanned a plan) (total : b.end.total ≡ a.end.total) (first : b.first ≡ a.first) (grown : Grown a.end.total a.first a.files b.files)
    (dumps : SameDumps a.files b.files) (kind : Kind) (kind_is : kind ≡ by_halt_load) (sealed : trail_entries a.end.total a.first b.files ≡ trail_entries a.end.total a.first a.files ++ cond plan.choice.begins (begin_restore plan.choice.point kind ∷ []) []) where
  abbrev pub begins_plan : BeginsPlan a plan b
  begins_plan = record {
    planned = s;
    total_same = total;
    first_same = first;
    grown = grown;
    dumps = dumps;
    sealed = sealed ∙ ap (λ (k : Kind). trail_entries a.end.total a.first a.files ++ cond plan.choice.begins (begin_restore plan.choice.point k ∷ []) []) kind_is ∙ ap (λ (l : List Entry). trail_entries a.end.total a.first a.files ++ l) (begin_is (history_of (trail_entries a.end.total a.first a.files)) plan.choice.begins plan.choice.point s.plans.chooses.restore s.plans.chooses.is);
  }

  pub begins_whole : IsWhole (telling a) a.files → BegunAt s.plans.chooses.restore b → BegunFrom s.plans.chooses.restore a b → BeginsWhole a plan b
  begins_whole whole begun keeps = record { begins = begins_plan; whole = whole; begun = begun; keeps = keeps }

-- what was left up to the Begin, and then up to the end
pub leaves_on : (a b : LogView) (plan : OpeningPlan) (later : Clock Left) → BeginsWhole a plan b → LeavesAll (telling a) (state a) b.clock → LeavesAll (telling b) (state b) later → LeavesAll (telling a) (state a) later
leaves_on a b plan later w first then = each_on a b later (λ i. telling_of (w.begins.total_same i) (w.begins.first_same i)) w.keeps.points_same w.keeps.next_same first then

module _ (a b : LogView) (plan : OpeningPlan) (w : BeginsWhole a plan b) (ready : IsFitPlan plan) (bytes : List ℕ) (is : bytes ≡ pair_bytes count_file count_blocks (file_counts 30001 plan.counts.items)) where
  abbrev plans : Plans a.end.total a.first a.files plan
  plans = w.begins.planned.plans

  abbrev restore : Pending
  restore = w.begins.planned.plans.chooses.restore

  same : telling b ≡ telling a
  same = λ i. telling_of (w.begins.total_same i) (w.begins.first_same i)

  pub may_end : MayGoOn restore b plan.table plan.choice.point plan.next bytes
  may_end = record {
    begun = w.begun;
    plan_is = plans.plan_is b.files w.begins.grown w.begins.dumps;
    point_is = sym plans.chooses.is.point_is;
    next_is = sym plans.next_is ∙ sym w.keeps.next_same;
    count = λ f. counts_told plan.counts.items (count_table plan ready) bytes is f ∙ plans.counts_are f;
  }

  -- what is live behind the Begin, or while the restore that goes on is pending
  begun_is : (o : Option Pending) → (history_of (trail_entries a.end.total a.first a.files)).pending ≡ o → (before : List Event) × (live_of (entries b) ≡ until_first (is_point plan.choice.point) before)
  begun_is o pending =
      let old = trail_entries a.end.total a.first a.files in
      let nothing : entries b ≡ (telling b).entries b.files = ap (λ (l : List Entry). (telling b).entries b.files ++ l) w.begun.begun.nothing ∙ append_none ((telling b).entries b.files) in
      let now : entries b ≡ old ++ begin_where_none o plan.choice.point =
      nothing ∙ (λ i. trail_entries (w.begins.total_same i) (w.begins.first_same i) b.files) ∙ w.begins.sealed ∙ ap (λ (q : Option Pending). old ++ begin_where_none q plan.choice.point) pending in
      go o now nothing
    where
      go : (o : Option Pending) → entries b ≡ trail_entries a.end.total a.first a.files ++ begin_where_none o plan.choice.point → entries b ≡ (telling b).entries b.files
          → (before : List Event) × (live_of (entries b) ≡ until_first (is_point plan.choice.point) before)
      go None now nothing = let old = trail_entries a.end.total a.first a.files in (live_of old, ap live_of now ∙ begun_live old plan.choice.point by_halt_load)
      go (Some p) now nothing =
          let old = trail_entries a.end.total a.first a.files in
          let same : entries b ≡ old = now ∙ append_none old in
          let is : (history_of old).pending ≡ Some restore = ap (λ (l : List Entry). (history_of l).pending) (sym same ∙ nothing) ∙ w.begun.begun.pending in
          (restore.entries, ap live_of same ∙ pending_cut (events old) (alone_events old w.whole.stands.kept.alone) restore is ∙ ap (λ n. until_first (is_point n) restore.entries) plans.chooses.is.point_is)

  -- the database runs
  module _ (c : LogView) (kind : telling c ≡ telling a) (schema : List ℕ) (described : schema ≡ plan.schema.items) (opened : OpenedAt restore b c (schema_control schema plan.choice.point plan.next bytes)) where
    abbrev o : OpenedAt restore b c (schema_control plan.schema.items plan.choice.point plan.next bytes)
    o = subst (λ (l : List ℕ). OpenedAt restore b c (schema_control l plan.choice.point plan.next bytes)) described opened

    points_are : points c ≡ points_of (telling a) a.files
    points_are = o.points_same ∙ w.keeps.points_same

    content_left : content c ≡ outcome_now (telling a) restore (state a)
    content_left = o.content_is ∙ w.keeps.outcome_same

    marked : last_blocks (λ f. []) (points c) ≡ outcome_now (telling a) restore (state a)
    marked = ap (λ (ps : List DescribedPoint). last_blocks (λ f. []) ps) points_are ∙ left_is (telling a) a.files w.whole plan.choice.begins plan.choice.point restore plans.chooses.is

    counted : (f : ℕ) → count_of plan.counts.items f ≡ length (last_blocks (λ g. []) (points c) f)
    counted f =
        plans.counts_are f ∙ sym (outcome_length restore.how ((telling a).dumps a.files) restore.entries restore.point f (stored_of a.files))
        ∙ ap (λ (x : AllBlocks). length (x f)) (sym marked)

    abbrev found : List Entry
    found = trail_entries a.end.total a.first a.files

    abbrev ends : List FileCount → List Entry
    ends counts = schema_entries (bodies plan.schema.items) ++ control_point plan.choice.point plan.next counts ∷ []

    sealed : entries c ≡ found ++ opening_entries (history_of found).pending plan.choice.point plan.next plan.schema.items plan.counts.items
    sealed =
        o.entries_are
        ∙ (λ i. trail_entries (w.begins.total_same i) (w.begins.first_same i) b.files ++ ends (counts_read plan.counts.items (count_table plan ready) bytes is i))
        ∙ ap (λ (l : List Entry). l ++ ends (file_counts 30001 plan.counts.items)) w.begins.sealed
        ∙ append_assoc found (begin_where_none (history_of found).pending plan.choice.point) (ends (file_counts 30001 plan.counts.items))

    behind : entries c ≡ entries b ++ ends (counts_at (length bytes / 8) bytes)
    behind = o.entries_are ∙ ap (λ (l : List Entry). l ++ ends (counts_at (length bytes / 8) bytes)) (sym (ap (λ (l : List Entry). (telling b).entries b.files ++ l) w.begun.begun.nothing ∙ append_none ((telling b).entries b.files)))

    pub runs_from : RunsFrom a.files plan.choice.point plan.next plan.schema.items plan.counts.items c
    runs_from = record {
      runs = o.runs;
      nothing = o.nothing;
      entries_are = sealed ∙ ap (λ (t : Telling). t.entries a.files ++ opening_entries (history_of (t.entries a.files)).pending plan.choice.point plan.next plan.schema.items plan.counts.items) (sym kind);
      ended = let cut = begun_is (history_of found).pending refl in
          ends_sealed c (entries b) (entries c) plan.choice.point plan.next plan.schema.items (counts_at (length bytes / 8) bytes) cut.0 cut.1 behind ready.described.0;
      points_same = points_are ∙ ap (λ (t : Telling). points_of t a.files) (sym kind);
      all_durable = o.all_durable ∙ ap (λ (ps : List DescribedPoint). length ps) (sym o.points_same);
      next_is = o.next_same ∙ w.keeps.next_same ∙ plans.next_is;
      last = record {
        number = ap (λ (ps : List DescribedPoint). last_number ps) points_are ∙ last_is (telling a) a.files w.whole plan.choice.begins plan.choice.point restore plans.chooses.is;
        counted = counted;
      };
      under = under_control b c plan.schema.items plan.choice.point plan.next (counts_at (length bytes / 8) bytes) ready.described.0 behind;
      content_is = content_left ∙ sym marked;
      written = o.written;
      only = o.only;
    }

-- ---- at every moment

-- all points of files that hold a database
left_all : (t : Telling) (files : Files) (said : Option (List ℕ)) (x : Left) → LeavesPointsPrefix t (points_of t files) (length (points_of t files)) (next_in t files) x → ((s : List ℕ) → said ≡ Some s → x.said ≡ s) → Reopens t files said x
left_all t files said x l text =
    let all : l.count ≡ length (points_of t files) = omega (arith, l.enough, l.within) in
    record {
      whole = l.whole;
      points_same = l.is ∙ ap (λ n. take n (points_of t files)) all ∙ take_all (length (points_of t files)) (points_of t files) (omega arith);
      not_fallen = omega (arith, l.not_fallen, all);
      not_risen = l.not_risen;
      text = text;
    }

runs_both : {a b : Clock Left} {P Q R : Left → Type 0} → Runs a b P → Runs a b Q → ((x : Left) → P x → Q x → R x) → Runs a b R
runs_both {a} {b} {P} {Q} {R} one two both = record {
  later = one.later;
  only = λ t x le left. elim (one.only t x le left) [
    | inl was ↦ inl was
    | inr p ↦ elim (two.only t x le left) [ inl was ↦ inl was | inr q ↦ inr (both x p q) ]
  ];
  keeps = one.keeps;
}

-- the text that is told is the one that was printed
said_is : (b : Bool) (said s : List ℕ) → cond b (Some said) None ≡ Some s → IsTrue b × (said ≡ s)
said_is true said s is = (refl, some_is said s is)
said_is false said s is = absurd (none-some s is)

module _ {S : Type 0} (g : Ghosts S) (now_said : (s : S) (x : Left) → IsTrue g.tells_said → Now (g.clock s) x → x.said ≡ g.said s) (t : Telling) (site : S) (later : Clock Left) where
  text_left : (x : Left) → After (g.clock site) PrintsNothing x → (s : List ℕ) → text_of g site ≡ Some s → x.said ≡ s
  text_left x after s is = let told = said_is g.tells_said (g.said site) s is in after.2 ∙ now_said site after.0 told.0 after.1 ∙ told.1

  pub reopens_all : (waiting : List Entry) → LeavesAll t (record { waiting = waiting; files = g.files site; clock = g.clock site }) later → Steps PrintsNothing (g.clock site) later → Runs (g.clock site) later (Reopens t (g.files site) (text_of g site))
  reopens_all waiting leaves silent = runs_both leaves silent.runs (λ x l after. left_all t (g.files site) (text_of g site) x l (text_left x after))

-- a failed call, or no room up to file 9,999
pub written_at : (limit : ℕ) (fault : AudFault) → limit ≡ 9999 → (fault ≡ aud.Disk) ⊎ (fault ≡ aud.Full limit) → MayHaveWritten (Audit fault)
written_at limit fault is (inl disk) = inl (ap Audit disk)
written_at limit fault is (inr full) = inr (ap Audit (full ∙ ap (λ n. aud.Full n) is))
