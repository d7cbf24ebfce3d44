-- What the run of a load's script does, from what a run does over a site that tells no text.
use Rattle.std.proofs.Common.{◌≡◌, ◌+◌, ◌<◌, ◌^◌, inl, inr, ℕ, List, Option, Some, None, false, refl, subst, sym, ap, arith, IsTrue}
use Rattle.std.proofs.lemmas.Option.{same_Some}
use Rattle.std.specs.Prelude.{if◌then◌else◌}
use Rattle.dms_desc.specs.Shape.{Described}
use Rattle.dms_load.specs.Script.{load_script}
use Rattle.dms_loadcount.specs.Answers.{load_lines}
use Rattle.dms_loadrun.specs.Description.{load_description}
use Rattle.dms_loadrun.specs.Filling.{Fills, load_state}
use Rattle.dms_loadrun.specs.Loading.{load_events}
use Rattle.dms_loadrun.specs.Statuses.{filled_status}
use Rattle.dms_loadrun.proofs.Cases.{audit_filled, found_filled, ok_filled}
use Rattle.dms_model.specs.Db.{Db, empty_db}
use Rattle.dms_moments.specs.Moments.{Runs}
use Rattle.dms_newdb.specs.State.{StandsNew}
use Rattle.dms_run.specs.RunStands.{RunStands}
use Rattle.dms_run.specs.State.{StateOf}
use Rattle.dms_run.specs.Opens.{DatabaseState, HoldsTold}
use Rattle.dms_runner.specs.Events.{RunEvent}
use Rattle.dms_runtop.specs.Over.{PassesScript}
use Rattle.dms_runtop.specs.RunDoes.{RunDoes}
use Rattle.dms_site.specs.Files.{Files}
use Rattle.dms_site.specs.declared.site.Site.{Ghosts}
use Rattle.dms_site.specs.declared.source.Source as source
use Rattle.dms_status.specs.declared.status.LimitKind.TheVariants.{AuditFile}
use Rattle.dms_status.specs.declared.status.Status.{Status}

-- files that stand for a new database hold the state that is told
pub told_new : (files : Files) → StandsNew 0 load_description files → HoldsTold (Some load_state) files
told_new files new s is = subst (λ (x : DatabaseState). StateOf files x.point x.desc x.db) (same_Some _ _ is) new.state

-- FILES of its description is 9,999
last_file : (db : Db) (first : ℕ) (lines : List (List ℕ)) (n : ℕ) (events : List RunEvent) (before after : Option (List ℕ)) (k : ℕ) → PassesScript (AuditFile k) load_description db first lines n events before after → k ≡ 9999
unfolding load_description
last_file db first lines n events before after k (inl full) = elim full.full [ inl appends ↦ appends.1 | inr backs ↦ backs.1 ]
last_file db first lines n events before after k (inr ends) = ends.0

module _ {S I : Type 0} (m : Ghosts S) (i : source.Ghosts I) (untold : m.tells_said ≡ false) (seed n : ℕ) (old new : S) (from to : I) (status : Status) (stands : IsTrue m.tells → StandsNew 0 load_description (m.files old)) (left : i.left from ≡ Some (load_script seed n))
    (does : RunDoes m i (Some load_state) old new from to status) where
  none_told : (if m.tells_said then Some (m.said old) else None) ≡ None
  none_told = ap (λ b. if b then Some (m.said old) else None) untold

  pub fills_of : Fills m load_description seed n old new (filled_status status)
  fills_of = record {
    stands = λ tells.
        let s = stands tells in
        subst (λ (said : Option (List ℕ)). Runs (m.clock old) (m.clock new) (RunStands (m.files old) load_description said 0 empty_db 1 (load_events load_description seed n))) none_told
        (does.stands tells load_state refl 1 s.next (load_script seed n) left);
    ends = λ ok tells. let s = stands tells in does.ends tells load_state refl 1 s.next (load_script seed n) left (ok_filled status ok);
    beside = does.beside;
    found = λ tells.
        let s = stands tells in
        found_filled status (does.opens.complete_state tells load_state s.state)
        (does.script tells load_state refl 1 s.next (load_script seed n) left).does.undamaged;
    full = λ k is tells.
        let s = stands tells in
        let at = audit_filled status k is in
        let script = (does.script tells load_state refl 1 s.next (load_script seed n) left).does in
        (last_file empty_db 1 (load_lines seed n) script.carried.lines script.carried.events _ _ k (script.limit (AuditFile k) at), does.full k at tells);
  }

-- the same, with what is known by the run
pub fills_by : {S I : Type 0} {m : Ghosts S} {i : source.Ghosts I} {old new : S} {from to : I} {status : Status} → RunDoes m i (Some load_state) old new from to status → m.tells_said ≡ false → (seed n : ℕ) → (IsTrue m.tells → StandsNew 0 load_description (m.files old)) → i.left from ≡ Some (load_script seed n)
    → Fills m load_description seed n old new (filled_status status)
fills_by {m = m} {i = i} {old = old} {new = new} {from = from} {to = to} {status = status} does untold seed n stands left = fills_of m i untold seed n old new from to status stands left does

-- and said of this description by another name
pub fills_as : {S : Type 0} (g : Ghosts S) (d : Described) (seed n : ℕ) (old new : S) (status : Status) → d ≡ load_description → Fills g load_description seed n old new status → Fills g d seed n old new status
fills_as g d seed n old new status is fills = subst (λ (x : Described). Fills g x seed n old new status) (sym is) fills
