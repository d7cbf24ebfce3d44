-- A run that ends with another status, where nothing was done since.
use Rattle.std.proofs.Common.{ℕ, ◌≡◌, ◌≤◌, inl, inr, IsTrue, List, [], ◌∷◌, ◌++◌, Option, refl, sym, subst}
use Rattle.dms_desc.specs.Shape.{Described}
use Rattle.dms_feed.specs.Lines.{raw_lines}
use Rattle.dms_model.specs.Db.{Db}
use Rattle.dms_moments.specs.Moments.{Now, Runs, Steps}
use Rattle.dms_moments.specs.MomentLaws.{runs_none, runs_on}
use Rattle.dms_moments.specs.SeenLaws.{runs_looking}
use Rattle.dms_opening.specs.declared.opened.Opened.{Opened}
use Rattle.dms_runner.specs.Events.{RunEvent, pause}
use Rattle.dms_running.specs.Points.{DescribedPoint}
use Rattle.dms_running.specs.Telling.{Telling}
use Rattle.dms_run.specs.Files.{RunLeavesFiles}
use Rattle.dms_site.specs.declared.site.Site.{Ghosts}
use Rattle.dms_site.specs.Files.{Left, Same}
use Rattle.dms_status.specs.declared.status.LimitKind.{LimitKind}
use Rattle.dms_status.specs.declared.status.LimitKind.TheVariants.{AuditFile}
use Rattle.dms_status.specs.declared.status.Status.{Status}
use Rattle.dms_status.specs.declared.status.Status.TheVariants.{Ok, Limit, DiskFault, InputFault, Damaged, Memory, SayFault}
use Rattle.dms_run.specs.Opens.{DatabaseState}
use Rattle.dms_runtop.specs.Command.{RunsCommand, RunsOpened}
use Rattle.dms_runtop.specs.Full.{IsOfFull}
use Rattle.dms_runtop.specs.Over.{PassesScript, ScriptRuns, SiteSeen, seen_site}
use Rattle.dms_runtop.proofs.Bounds.{bounds_instead}
use Rattle.dms_runtop.proofs.Looked.{said_seen}

-- ---- the status

-- One status in place of another: it is none that says more of the script.
pub record TakesPlace (s then : Status) : Type 0 where
  pub unsaid : s ≡ SayFault → ⊥
  pub not_ok : then ≡ Ok → ⊥
  pub not_input : then ≡ InputFault → ⊥
  pub undamaged : (f k : ℕ) → then ≡ Damaged f k → ⊥
  pub limits : (l : LimitKind) → then ≡ Limit l → s ≡ Limit l

full_not_say : (k : ℕ) → Limit (AuditFile k) ≡ SayFault → ⊥
full_not_say k is = absurd cc

disk_not_say : DiskFault ≡ SayFault → ⊥
disk_not_say is = absurd cc

same_place : (k : ℕ) → TakesPlace (Limit (AuditFile k)) (Limit (AuditFile k))
same_place k = record { unsaid = λ is. full_not_say k is; not_ok = λ is. absurd cc; not_input = λ is. absurd cc; undamaged = λ f b is. absurd cc; limits = λ l is. is }

disk_place : (s : Status) → (s ≡ SayFault → ⊥) → TakesPlace s DiskFault
disk_place s unsaid = record { unsaid = unsaid; not_ok = λ is. absurd cc; not_input = λ is. absurd cc; undamaged = λ f b is. absurd cc; limits = λ l is. absurd cc }

memory_place : (s : Status) → (s ≡ SayFault → ⊥) → TakesPlace s Memory
memory_place s unsaid = record { unsaid = unsaid; not_ok = λ is. absurd cc; not_input = λ is. absurd cc; undamaged = λ f b is. absurd cc; limits = λ l is. absurd cc }

full_place_by : (k : ℕ) (then : Status) → IsOfFull k then → TakesPlace (Limit (AuditFile k)) then
full_place_by k then (inl full) = subst (λ (x : Status). TakesPlace (Limit (AuditFile k)) x) (sym full) (same_place k)
full_place_by k then (inr (inl disk)) = subst (λ (x : Status). TakesPlace (Limit (AuditFile k)) x) (sym disk) (disk_place (Limit (AuditFile k)) (full_not_say k))
full_place_by k then (inr (inr memory)) = subst (λ (x : Status). TakesPlace (Limit (AuditFile k)) x) (sym memory) (memory_place (Limit (AuditFile k)) (full_not_say k))

-- a full audit was looked at
pub full_place : (k : ℕ) (s then : Status) → s ≡ Limit (AuditFile k) → IsOfFull k then → TakesPlace s then
full_place k s then was of = subst (λ (x : Status). TakesPlace x then) (sym was) (full_place_by k then of)

-- a call was refused
pub refused_place : (s : Status) → s ≡ DiskFault → TakesPlace s Memory
refused_place s was = subst (λ (x : Status). TakesPlace x Memory) (sym was) (memory_place DiskFault disk_not_say)

-- ---- the run

-- it ended with one status, and no later call did more than look
ran_instead : (most : ℕ) (t : Telling) (d : Described) (ps : List DescribedPoint) (n : ℕ) (db : Db) (next : ℕ) (all : List ℕ) (a b c : SiteSeen) (left' : Option (List ℕ)) (s then : Status) → TakesPlace s then
    → ((events : List RunEvent) → Runs b.clock c.clock (RunLeavesFiles t d a.said ps n db next (events ++ pause ∷ []))) → c.said ≡ b.said → c.files ≡ b.files → ScriptRuns most t d ps n db next all a b left' s → ScriptRuns most t d ps n db next all a c left' then
ran_instead most t d ps n db next all a b c left' s then place moments same files r =
    let does = r.does in
    record {
      does = record {
        carried = does.carried;
        whole = λ is. absurd (place.not_ok is);
        answers = λ is. absurd (place.not_ok is);
        part = bounds_instead s then place.unsaid place.not_ok files same does.part;
        limit = λ k is. subst (λ (x : Option (List ℕ)). PassesScript k d db next (raw_lines all) does.carried.lines does.carried.events a.said x) (sym same) (does.limit k (place.limits k is));
        input_cut = λ is. absurd (place.not_input is);
        undamaged = λ f k is high. place.undamaged f k is;
      };
      every_moment = runs_on r.every_moment (moments does.carried.events) (λ x l. l);
      at_ok = λ is. absurd (place.not_ok is);
    }

module _ {S : Type 0} (g : Ghosts S) where
  pub opened_instead : ((x : S) (t : ℕ) (l : Left) → t ≤ (g.clock x).now → Now (g.clock x) l → (g.clock x).left t l) → (o : Opened S) (x y : S) (left left' : Option (List ℕ)) (s then : Status) → TakesPlace s then
      → Steps Same (g.clock x) (g.clock y) → g.said y ≡ g.said x → (IsTrue g.tells → g.files y ≡ g.files x) → RunsOpened g o left left' s x → RunsOpened g o left left' then y
  opened_instead counts o x y left left' s then place steps said files ran told st n db all state valid is =
      ran_instead 18 _ _ _ _ _ _ _ (seen_site g o.log.site) (seen_site g x) (seen_site g y) left' s then place (λ events. runs_looking (counts x) steps) (said_seen g x y said) (files told) (ran told st n db all state valid is)

  -- a call was refused
  pub command_instead : (state : Option DatabaseState) (old x : S) (left left' : Option (List ℕ)) (s : Status) → TakesPlace s Memory → RunsCommand g state old x left left' s → RunsCommand g state old x left left' Memory
  command_instead state old x left left' s place ran told d is next has all held =
      let r = ran told d is next has all held in
      record {
        total = r.total;
        first = r.first;
        trail = r.trail;
        runs = ran_instead 37 _ _ _ _ _ _ _ (seen_site g old) (seen_site g x) (seen_site g x) left' s Memory place (λ events. runs_none _ _) refl refl r.runs;
      }
