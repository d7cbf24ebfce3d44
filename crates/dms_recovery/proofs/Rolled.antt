-- A rollback keeps or restores the database of its files, and a rebuild that of others.
use Rattle.std.specs.Prelude.{IfErr}
use Rattle.std.specs.declared.result.Result.{Result}
use Rattle.std.specs.declared.result.Result.TheVariants.{Ok, Err}
use Rattle.std.proofs.Common.{ℕ, ◌≤◌, ◌≡◌, inl, inr, List, [], Option, Some, None, refl, sym, ◌∙◌, ap, subst, arith}
use Rattle.std.proofs.lemmas.Bool.{true≢false}
use Rattle.dms_site.specs.Files.{Files, Left, stored_of}
use Rattle.dms_history.specs.Events.{Stored}
use Rattle.dms_history.specs.Here.{here, here_by}
use Rattle.dms_history.specs.History.{Pending}
use Rattle.dms_history.specs.Pick.{Dumps}
use Rattle.dms_history.specs.Entries.{Entry, by_rebuild, by_reconstruct, by_roll_back, named_by}
use Rattle.dms_history.specs.declared.event.Row.{Row}
use Rattle.dms_history.specs.EntryEvents.{history_of, next_of}
use Rattle.dms_audfile.specs.TrailEntries.{trail_entries}
use Rattle.dms_running.specs.AnyBegun.{IsUntouched}
use Rattle.dms_running.specs.AnyLaws.{HoldsSame}
use Rattle.dms_running.specs.FromDumps.{DumpsInOrder}
use Rattle.dms_running.specs.Points.{points_told}
use Rattle.dms_running.specs.Standing.{IsWhole, Stands}
use Rattle.dms_running.specs.Telling.{Telling, IsTelling}
use Rattle.dms_running.proofs.FromDumps.{order_stays}
use Rattle.dms_running.proofs.Stopped.{blocks_same}
use Rattle.dms_restore.specs.Dumped.{dumps_of}
use Rattle.dms_restore.specs.Logging.{telling_of}
use Rattle.dms_restore.proofs.Trails.{is_telling}
use Rattle.dms_opening.specs.Openings.{IsTrailFound}
use Rattle.dms_recovery.specs.declared.wanted.Wanted.TheVariants.{Rollback, Rebuild, Reconstruct}
use Rattle.dms_recovery.specs.Leaving.{IsMendedFrom, IsRebuiltFrom, RestoresTo, RollsTo}
use Rattle.dms_recovery.specs.Looked.{IsMeant, rows_in}
use Rattle.dms_recovery.specs.Restoring.{MayRestore}

-- where none is pending, what is stored counts
counts_stored : (dumps : Dumps) (es : List Entry) (stored : Stored) → (history_of es).pending ≡ None → here dumps (history_of es) stored ≡ stored
counts_stored dumps es stored none = ap (λ (q : Option Pending). here_by q dumps stored) none

-- files of a database, of which no restore is pending
pub may_roll : (total first n : ℕ) (files : Files) → IsTrailFound total first files → (history_of (trail_entries total first files)).pending ≡ None → IsWhole (telling_of total first) files → MayRestore total first files files (Rollback n) []
may_roll total first n files trail none whole = record {
  trail = trail;
  none = none;
  same = λ g upto. refl;
  whole = whole;
  blocks = λ f b off. ap (λ (s : Stored). s f b) (sym (counts_stored (dumps_of files) (trail_entries total first files) (stored_of files) none));
  dump = tt;
}

-- those of a database but for structure files, with a true dump
pub may_rebuild : (total first d : ℕ) (point : Option ℕ) (files u : Files) → IsTrailFound total first files → IsRebuiltFrom total first files u d → MayRestore total first files u (Rebuild d point) []
may_rebuild total first d point files u trail is = record {
  trail = trail;
  none = refl;
  same = is.same;
  whole = is.whole;
  blocks = λ f b off. absurd (true≢false off);
  dump = is.copied_dump;
}

-- the first file of a trail
pub low_first : (total first : ℕ) (files : Files) → IsTrailFound total first files → first ≤ 20000
low_first total first files found = let s = found.found.trail.span in omega (arith, found.found.first_is, s.order, s.high)

-- those of a database but for some rows, of which no restore is pending, with a true dump
pub may_mend : (total first d : ℕ) (rows : List Row) (files u : Files) → IsTrailFound total first files → (history_of (trail_entries total first files)).pending ≡ None → IsMendedFrom total first files u d (named_by rows) → MayRestore total first files u (Reconstruct d) rows
may_mend total first d rows files u trail none is =
    let tells : IsTelling (telling_of total first) = is_telling total first (low_first total first files trail) in
    let same : trail_entries total first files ≡ trail_entries total first u = tells.entries_low files u is.rebuilt.same in
    record {
      trail = trail;
      none = none;
      same = is.rebuilt.same;
      whole = is.rebuilt.whole;
      blocks = λ f b off. is.beside f b off
          ∙ ap (λ (s : Stored). s f b) (sym (counts_stored (dumps_of u) (trail_entries total first u) (stored_of u) (ap (λ (l : List Entry). (history_of l).pending) (sym same) ∙ none)));
      dump = is.rebuilt.copied_dump;
    }

-- what was left untouched holds the database
untouched_holds : (t : Telling) (telling : IsTelling t) (files : Files) (x : Left) → IsWhole t files → IsUntouched t files x → HoldsSame t files x.files
untouched_holds t telling files x w un =
    let dumps : t.dumps x.files ≡ t.dumps files = telling.dumps_between x.files files (λ g up below. un.above g up) in
    let blocks : stored_of x.files ≡ stored_of files = blocks_same x.files files un.above in
    record {
      whole = record {
        found = un.found;
        base = w.base;
        stands =
            subst (λ (l : List Entry). Stands t.first l (t.dumps x.files) w.base (stored_of x.files)) (sym un.entries_same)
            (subst (λ (d : Dumps). Stands t.first (t.entries files) d w.base (stored_of x.files)) (sym dumps) (subst (λ (s : Stored). Stands t.first (t.entries files) (t.dumps files) w.base s) (sym blocks) w.stands));
        order = subst (λ (l : List Entry). DumpsInOrder (t.dump_found x.files) (t.dumps x.files) (history_of l).pending) (sym un.entries_same)
            (order_stays t telling files x.files (history_of (t.entries files)).pending (λ g up below. un.above g up) un.dumps_found w.order);
      };
      points = λ i. points_told (dumps i) (un.entries_same i) (blocks i);
      next = ap (λ (l : List Entry). next_of l) un.entries_same;
    }

pub rolls : (total first n : ℕ) (files : Files) (x : Left) → first ≤ 20000 → IsWhole (telling_of total first) files → RestoresTo (telling_of total first) files files n x → RollsTo (telling_of total first) files n x
rolls total first n files x low whole leaves = elim leaves [
  | inl untouched ↦ inl (untouched_holds (telling_of total first) (is_telling total first low) files x whole untouched)
  | inr up ↦ inr up
]

-- whether a restore is pending or not
pub by_pending : (q : Option Pending) (P : Type 0) → (q ≡ None → P) → ((p : Pending) → q ≡ Some p → P) → P
by_pending None P none some = none refl
by_pending (Some p) P none some = some p refl

pub two_if_err : {T E : Type 0} {P Q R : E → Type 0} (r : Result T E) → IfErr r P → IfErr r Q → ((e : E) → P e → Q e → R e) → IfErr r R
two_if_err (Ok x) one two f = tt
two_if_err (Err e) one two f = f e one two

-- a reconstruction is no rollback
pub no_rollback : (d n : ℕ) → Reconstruct d ≡ Rollback n → ⊥
no_rollback d n e = absurd cc

-- ---- what is wanted of a plan

pub meant_roll : (n : ℕ) → IsMeant by_roll_back (Rollback n) []
meant_roll n = record { plain = λ m is. refl; is = λ last. refl }

pub meant_rebuild : (d : ℕ) (chosen : Option ℕ) → IsMeant (by_rebuild d) (Rebuild d chosen) []
meant_rebuild d chosen = record { plain = λ m is. refl; is = λ last. refl }

pub meant_rows : (d : ℕ) (list bytes : List ℕ) → bytes ≡ list → IsMeant (by_reconstruct d (rows_in bytes)) (Reconstruct d) (rows_in list)
meant_rows d list bytes same = record { plain = λ m is. absurd (no_rollback d m is); is = λ last. ap (λ (l : List ℕ). by_reconstruct d (rows_in l)) same }
