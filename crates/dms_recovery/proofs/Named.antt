-- Rows that are named, of a database that was looked at.
use Rattle.std.proofs.Common.{ℕ, ◌*◌, ◌/◌, ◌≤◌, ◌≡◌, inl, Bool, List, [], length, map, Option, Some, None, refl, sym, ◌∙◌, ap, subst, arith}
use Rattle.std.proofs.lemmas.Option.{same_Some}
use Rattle.dms_desc.specs.Shape.{Described, Shape, as_described, shape_of}
use Rattle.dms_desc.specs.declared.structure.Structure.{Structure}
use Rattle.dms_desc.specs.declared.description.Description.{Description}
use Rattle.dms_desc_bytes.specs.Decoding.{Decodes}
use Rattle.dms_desc_bytes.specs.Spelling.{spelling}
use Rattle.dms_desc_bytes.specs.WellFormed.{IsWellFormed}
use Rattle.dms_moments.specs.Moments.{Now, Runs, Steps}
use Rattle.dms_moments.specs.MomentLaws.{runs_on, steps_weaken}
use Rattle.dms_moments.specs.SeenLaws.{runs_looking}
use Rattle.dms_site.specs.declared.site.Site.{Ghosts}
use Rattle.dms_site.specs.Files.{Files, Left, Same}
use Rattle.dms_history.specs.History.{Pending}
use Rattle.dms_history.specs.Pick.{count_at}
use Rattle.dms_history.specs.Entries.{named_by}
use Rattle.dms_history.specs.EntryEvents.{history_of}
use Rattle.dms_history.specs.SchemaAt.{schema_at}
use Rattle.dms_history.specs.declared.event.Row.{Row}
use Rattle.dms_audrec.specs.PairLaws.{rows_again, rows_length}
use Rattle.dms_audrec.specs.Reading.{rows_at}
use Rattle.dms_audrec.specs.Spelling.{AreRows, pair_bytes, row_file, row_number}
use Rattle.dms_audfile.specs.Counting.{CountedAt, not_counted}
use Rattle.dms_audfile.specs.TrailEntries.{trail_entries}
use Rattle.dms_audfile.specs.declared.fault.AudFault.TheVariants as aud
use Rattle.dms_restore.specs.Counts.{count_of}
use Rattle.dms_restore.specs.GrowLaws.{leaves_none, left_on}
use Rattle.dms_restore.specs.Logging.{LeavesTrail, TrailKept, telling_of}
use Rattle.dms_statements.specs.declared.statement.NamedRow.{NamedRow}
use Rattle.dms_opening.specs.Carrying.{IsFitPlan}
use Rattle.dms_opening.specs.Choices.{judge_files}
use Rattle.dms_opening.specs.Openings.{IsFullFault, IsNoRefusal, IsTrailFound}
use Rattle.dms_opening.specs.declared.choosing.OpenFault.{OpenFault}
use Rattle.dms_opening.specs.declared.choosing.OpenFault.TheVariants.{Audit}
use Rattle.dms_opening.specs.declared.plan.OpeningPlan.{OpeningPlan}
use Rattle.dms_opening.proofs.OneTrail.{one_first, one_total}
use Rattle.dms_recovery.specs.Leaving.{IsMendedFrom, MendsTo}
use Rattle.dms_recovery.specs.Planned.{AreFit, PlansAll}
use Rattle.dms_recovery.specs.Reconstructing.{AreStructuresOf, CanReconstruct, FindsRows, HasEach, IsAtLast, IsDescribedBy, IsOpenFault, LacksRow, MayMend, MayReconstruct, MissesRow, NamesRows, RefusesReconstruct, fault_of_row}
use Rattle.dms_recovery.specs.Refusing.{RecoveryGrows, RefusesWanted, SealsFewTwice}
use Rattle.dms_recovery.specs.Rows.{AreRowsOf, first_missing, named_blocks}
use Rattle.dms_recovery.specs.Wanting.{asked_for, last_of}
use Rattle.dms_recovery.specs.declared.rows.RowFault.{RowFault}
use Rattle.dms_recovery.specs.declared.rows.RowFault.TheVariants.{Missing, Memory}
use Rattle.dms_recovery.specs.declared.naming.ReconstructFault.{ReconstructFault}
use Rattle.dms_recovery.specs.declared.naming.ReconstructFault.TheVariants.{Open, NoSuchRow}
use Rattle.dms_recovery.specs.declared.wanted.Wanted.TheVariants.{Reconstruct}
use Rattle.dms_recovery.proofs.Answered.{nothing_refuses, own_point}

own_fits : (before : Option OpeningPlan) (own : OpeningPlan) → AreFit before own → IsFitPlan own
own_fits None own fit = fit
own_fits (Some before) own fit = fit.1

pub fit_own : (before : Option OpeningPlan) (own : OpeningPlan) → AreFit before own → (counts : List ℕ) → counts ≡ own.counts.items → length counts ≤ 200
fit_own before own fit counts is = subst (λ (l : List ℕ). length l ≤ 200) (sym is) (own_fits before own fit).counts.few

-- ---- the rows of a description

structures_are : (schema : List ℕ) (desc : Description) (ss : List Structure) → ((d e : Described) → IsWellFormed d → IsWellFormed e → spelling d ≡ spelling e → d ≡ e) → Decodes schema (Some desc) → ss ≡ desc.structures
    → AreStructuresOf schema (map shape_of ss)
structures_are schema desc ss law found same = record {
  described = λ d well is. ap (λ (l : List Structure). map shape_of l) same ∙ ap (λ (e : Described). e.structures) (law (as_described desc) d found.0 well (found.1 ∙ sym is));
  none = λ nothing. absurd (nothing (as_described desc) found.0 found.1);
}

none_are : (schema : List ℕ) → Decodes schema None → AreStructuresOf schema []
none_are schema none = record { described = λ d well is. absurd (none d well is); none = λ nothing. refl }

pub finds_described : (schema : List ℕ) (desc : Description) (ss : List Structure) (named : List NamedRow) (rows : List Row) → ((d e : Described) → IsWellFormed d → IsWellFormed e → spelling d ≡ spelling e → d ≡ e) → Decodes schema (Some desc)
    → ss ≡ desc.structures → AreRowsOf (map shape_of ss) named rows → FindsRows schema named rows
finds_described schema desc ss named rows law found same are = record { structures = map shape_of ss; are = structures_are schema desc ss law found same; rows_are = are }

pub lacks_described : (schema counts : List ℕ) (desc : Description) (ss : List Structure) (named : List NamedRow) (r : NamedRow) → ((d e : Described) → IsWellFormed d → IsWellFormed e → spelling d ≡ spelling e → d ≡ e)
    → Decodes schema (Some desc) → ss ≡ desc.structures → first_missing (map shape_of ss) counts named ≡ Some r → LacksRow schema counts named r
lacks_described schema counts desc ss named r law found same missing = record { structures = map shape_of ss; are = structures_are schema desc ss law found same; missing = missing }

pub finds_nothing : (schema : List ℕ) (named : List NamedRow) (rows : List Row) → Decodes schema None → AreRowsOf [] named rows → FindsRows schema named rows
finds_nothing schema named rows none are = record { structures = []; are = none_are schema none; rows_are = are }

pub has_described : (schema counts : List ℕ) (desc : Description) (ss : List Structure) (named : List NamedRow) → ((d e : Described) → IsWellFormed d → IsWellFormed e → spelling d ≡ spelling e → d ≡ e) → Decodes schema (Some desc)
    → ss ≡ desc.structures → first_missing (map shape_of ss) counts named ≡ None → HasEach schema counts named
has_described schema counts desc ss named law found same each = record { structures = map shape_of ss; are = structures_are schema desc ss law found same; each = each }

pub has_nothing : (schema counts : List ℕ) (named : List NamedRow) → Decodes schema None → first_missing [] counts named ≡ None → HasEach schema counts named
has_nothing schema counts named none each = record { structures = []; are = none_are schema none; each = each }

pub lacks_nothing : (schema counts : List ℕ) (named : List NamedRow) (r : NamedRow) → Decodes schema None → first_missing [] counts named ≡ Some r → LacksRow schema counts named r
lacks_nothing schema counts named r none missing = record { structures = []; are = none_are schema none; missing = missing }

-- ---- the plan is one of the last point

module _ (total first : ℕ) (files : Files) (d : ℕ) where
  pub none_refused : (before : Option OpeningPlan) (own : OpeningPlan) → PlansAll total first files (asked_for total first files (Reconstruct d)) [] before own → judge_files total first files (asked_for total first files (Reconstruct d)) ≡ None
  none_refused None own plans = plans.plan.chooses.none
  none_refused (Some before) own plans = plans.first_plan.chooses.none

  schema_there : (before : Option OpeningPlan) (own : OpeningPlan) → PlansAll total first files (asked_for total first files (Reconstruct d)) [] before own → schema_at (trail_entries total first files) own.choice.point ≡ Some own.schema.items
  schema_there None own plans = plans.plan.schema_is
  schema_there (Some before) own plans = plans.own_plan.schema_is

  counts_there : (before : Option OpeningPlan) (own : OpeningPlan) → PlansAll total first files (asked_for total first files (Reconstruct d)) [] before own
      → (f : ℕ) → count_of own.counts.items f ≡ count_at (history_of (trail_entries total first files)).live own.choice.point f
  counts_there None own plans f = plans.plan.counts_are f ∙ ap (λ (p : Pending). count_at p.entries p.point f) (plans.plan.chooses.is.new plans.begins).3
  counts_there (Some before) own plans f = plans.own_plan.counts_are f

  pub at_last : (before : Option OpeningPlan) (own : OpeningPlan) → PlansAll total first files (asked_for total first files (Reconstruct d)) [] before own → IsAtLast total first files own.schema.items own.counts.items
  at_last before own plans = record {
    point = own.choice.point;
    last = own_point total first files (asked_for total first files (Reconstruct d)) [] before own plans;
    schema_is = schema_there before own plans;
    counts_are = counts_there before own plans;
  }

-- ---- the rows are those that are named

names_at : (total first : ℕ) (files : Files) (schema counts : List ℕ) (named : List NamedRow) (rows : List Row) → IsAtLast total first files schema counts → FindsRows schema named rows → (n : ℕ) (desc : Described)
    → last_of total first files ≡ Some n → IsDescribedBy (trail_entries total first files) n desc → (f b : ℕ) → named_by rows f b ≡ named_blocks desc.structures named f b
names_at total first files schema counts named rows at finds n desc last described f b =
    let same : n ≡ at.point = same_Some n at.point (sym last ∙ at.last) in
    let bytes : spelling desc ≡ schema = same_Some (spelling desc) schema (sym described.schema_is ∙ ap (λ m. schema_at (trail_entries total first files) m) same ∙ at.schema_is) in
    finds.rows_are.same f b ∙ ap (λ (ss : List Shape). named_blocks ss named f b) (finds.are.described desc described.well_formed bytes)

at_same : (t f total first : ℕ) (files : Files) (schema counts : List ℕ) → IsTrailFound t f files → IsTrailFound total first files → IsAtLast t f files schema counts → IsAtLast total first files schema counts
at_same t f total first files schema counts one two at =
    subst (λ n. IsAtLast n first files schema counts) (one_total t f total first files one two) (subst (λ n. IsAtLast t n files schema counts) (one_first t f total first files one two) at)

pub names_rows : (t f : ℕ) (files : Files) (schema counts : List ℕ) (named : List NamedRow) (rows : List Row) → IsTrailFound t f files → IsAtLast t f files schema counts → FindsRows schema named rows → NamesRows files named rows
names_rows t f files schema counts named rows found at finds total first n desc trail = names_at total first files schema counts named rows (at_same t f total first files schema counts found trail at) finds n desc

-- they are, of a plan
pub names_planned : (t f : ℕ) (files : Files) (d : ℕ) (named : List NamedRow) (rows : List Row) (before : Option OpeningPlan) (own : OpeningPlan) (schema : List ℕ) → IsTrailFound t f files
    → PlansAll t f files (asked_for t f files (Reconstruct d)) [] before own → schema ≡ own.schema.items → FindsRows schema named rows → NamesRows files named rows
names_planned t f files d named rows before own schema found plans is finds =
    names_rows t f files own.schema.items own.counts.items named rows found (at_last t f files d before own plans) (subst (λ (l : List ℕ). FindsRows l named rows) is finds)

pub misses_row : (t f : ℕ) (files : Files) (d : ℕ) (named : List NamedRow) (r : NamedRow) (before : Option OpeningPlan) (own : OpeningPlan) (schema counts : List ℕ) → IsTrailFound t f files
    → PlansAll t f files (asked_for t f files (Reconstruct d)) [] before own → schema ≡ own.schema.items → counts ≡ own.counts.items → LacksRow schema counts named r → MissesRow files d named r
misses_row t f files d named r before own schema counts found plans one two lacks = record {
  total = t;
  first = f;
  trail = found;
  none = none_refused t f files d before own plans;
  schema = own.schema.items;
  counts = own.counts.items;
  at_last = at_last t f files d before own plans;
  lacks = subst (λ (l : List ℕ). LacksRow own.schema.items l named r) two (subst (λ (l : List ℕ). LacksRow l counts named r) one lacks);
}

pub may_mend : (t f : ℕ) (files : Files) (d : ℕ) (named : List NamedRow) (before : Option OpeningPlan) (own : OpeningPlan) (schema counts : List ℕ) → IsTrailFound t f files
    → PlansAll t f files (asked_for t f files (Reconstruct d)) [] before own → schema ≡ own.schema.items → counts ≡ own.counts.items → HasEach schema counts named → MayMend files d named
may_mend t f files d named before own schema counts found plans one two there = record {
  may = record { total = t; first = f; trail = found; none = none_refused t f files d before own plans };
  schema = own.schema.items;
  counts = own.counts.items;
  at_last = at_last t f files d before own plans;
  there = subst (λ (l : List ℕ). HasEach own.schema.items l named) two (subst (λ (l : List ℕ). HasEach l counts named) one there);
}

-- where each row is there, none is missed
pub never_misses : (total first : ℕ) (files : Files) (d : ℕ) (named : List NamedRow) (r : NamedRow) → IsTrailFound total first files
    → ((schema counts : List ℕ) (r : NamedRow) → IsAtLast total first files schema counts → LacksRow schema counts named r → ⊥) → MissesRow files d named r → ⊥
never_misses total first files d named r trail there m = there m.schema m.counts r (at_same m.total m.first total first files m.schema m.counts m.trail trail m.at_last) m.lacks

-- nothing but a failed call, want of memory or of room keeps rows from being reconstructed that are there
pub nothing_missed : (total first : ℕ) (files : Files) (d : ℕ) (named : List NamedRow) (fault : ReconstructFault) → CanReconstruct total first files d named → RefusesReconstruct files d named fault → IsOpenFault fault IsNoRefusal
nothing_missed total first files d named (Open e) can why = nothing_refuses total first files (Reconstruct d) can.can e why
nothing_missed total first files d named (NoSuchRow r) can why = never_misses total first files d named r can.can.trail can.there why

same_open : (e f : OpenFault) → Open e ≡ Open f → e ≡ f
same_open e f is = cc

pub counted_open : (e : OpenFault) (a b c : ℕ) → b ≡ a → CountedAt (e ≡ Audit aud.Disk) b c → CountedAt (Open e ≡ Open (Audit aud.Disk)) a c
counted_open e a b c same counted =
    subst (λ n. CountedAt (Open e ≡ Open (Audit aud.Disk)) n c) same
    (record { later = counted.later; failed = λ is. counted.failed (same_open e (Audit aud.Disk) is); once = counted.once; clean = λ none. counted.clean (λ is. none (ap Open is)) })

pub memory_refuses : (files : Files) (d : ℕ) → RefusesWanted files (Reconstruct d) (Audit aud.Memory)
memory_refuses files d = inl (aud.Memory, refl, tt)

-- rows that aren't found
module _ (t f : ℕ) (files : Files) (d : ℕ) (named : List NamedRow) (before : Option OpeningPlan) (own : OpeningPlan) (schema counts : List ℕ) (found : IsTrailFound t f files) (plans : PlansAll t f files (asked_for t f files (Reconstruct d)) [] before own)
    (one : schema ≡ own.schema.items) (two : counts ≡ own.counts.items) where
  refused_row : (fault : RowFault) → ((r : NamedRow) → fault ≡ Missing r → LacksRow schema counts named r) → RefusesReconstruct files d named (fault_of_row fault)
  refused_row (Missing r) lacks = misses_row t f files d named r before own schema counts found plans one two (lacks r refl)
  refused_row Memory lacks = memory_refuses files d

  pub row_refused : (fault : RowFault) (e : ReconstructFault) → e ≡ fault_of_row fault → ((r : NamedRow) → fault ≡ Missing r → LacksRow schema counts named r) → RefusesReconstruct files d named e
  row_refused fault e is lacks = subst (RefusesReconstruct files d named) (sym is) (refused_row fault lacks)

no_full : Audit aud.Memory ≡ Audit (aud.Full 9999) → ⊥
no_full is = absurd cc

no_room : (fault : RowFault) → IsOpenFault (fault_of_row fault) IsFullFault → ⊥
no_room (Missing r) none = none
no_room Memory full = no_full full

pub row_room : (fault : RowFault) (e : ReconstructFault) → e ≡ fault_of_row fault → IsOpenFault e IsFullFault → ⊥
row_room fault e is full = no_room fault (subst (λ (x : ReconstructFault). IsOpenFault x IsFullFault) is full)

no_disk : (fault : RowFault) → fault_of_row fault ≡ Open (Audit aud.Disk) → ⊥
no_disk (Missing r) is = absurd cc
no_disk Memory is = absurd cc

pub row_counted : {S : Type 0} (count : S → ℕ) (fault : RowFault) (e : ReconstructFault) → e ≡ fault_of_row fault → (old mid new : S) → new ≡ mid → count mid ≡ count old → CountedAt (e ≡ Open (Audit aud.Disk)) (count old) (count new)
row_counted count fault e is old mid new site same = not_counted _ (count old) (count new) (λ disk. no_disk fault (sym is ∙ disk)) (ap count site ∙ same)

-- the bytes are those of the rows
pub list_is : (rows : List Row) (list : List ℕ) → AreRows rows → list ≡ pair_bytes row_file row_number rows → rows_at (length list / 8) list ≡ rows
list_is rows list are is =
    let long : length list ≡ 8 * length rows = ap length is ∙ rows_length rows in
    let many : length list / 8 ≡ length rows = omega (arith, long) in
    (λ i. rows_at (many i) (is i)) ∙ rows_again rows are.small

-- ---- what is restored behind a look

pub record MendsIn (total first d n : ℕ) (u : Files) (rows : List Row) (x : Files) : Type 0 where
  pub trail : IsTrailFound total first x
  pub last : last_of total first x ≡ Some n
  pub mended : IsMendedFrom total first x u d (named_by rows)

module _ {S : Type 0} (g : Ghosts S) (a b : S) (same : g.files b ≡ g.files a) where
  pub mends_in : (total first : ℕ) (u : Files) (d : ℕ) (named : List NamedRow) (rows list : List Row) → list ≡ rows → (n : ℕ) (desc : Described) → NamesRows (g.files a) named rows → MayReconstruct total first (g.files a) u d named n desc
      → MendsIn total first d n u list (g.files b)
  mends_in total first u d named rows list is n desc names may =
      subst (λ (l : List Row). MendsIn total first d n u l (g.files b)) (sym is) (subst (MendsIn total first d n u rows) (sym same) (record {
        trail = may.trail;
        last = may.last;
        mended = record {
          rebuilt = may.mended.rebuilt;
          beside = λ f k off. may.mended.beside f k (sym (names total first n desc may.trail may.last may.described f k) ∙ off);
        };
      }))

-- what is left but for the rows is left but for those that are named
pub mends_as : {S : Type 0} (g : Ghosts S) (a c : S) (total first : ℕ) (u : Files) (d : ℕ) (named : List NamedRow) (rows : List Row) (n : ℕ) (desc : Described) → NamesRows (g.files a) named rows → MayReconstruct total first (g.files a) u d named n desc
    → Runs (g.clock a) (g.clock c) (MendsTo (telling_of total first) (g.files a) u (named_by rows) n) → Runs (g.clock a) (g.clock c) (MendsTo (telling_of total first) (g.files a) u (named_blocks desc.structures named) n)
mends_as g a c total first u d named rows n desc names may run =
    let blocks : named_by rows ≡ named_blocks desc.structures named = λ i f k. names total first n desc may.trail may.last may.described f k i in
    subst (λ (l : ℕ → ℕ → Bool). Runs (g.clock a) (g.clock c) (MendsTo (telling_of total first) (g.files a) u l n)) blocks run
