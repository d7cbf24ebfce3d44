-- A database that was opened, and a call since that only looked, or that did nothing.
use Rattle.std.proofs.Common.{ℕ, ◌≡◌, ◌≤◌, ◌∙◌, IsTrue, List, length, Option, Some, None, cond, refl, sym, ap, subst, arith}
use Rattle.dms_moments.specs.Moments.{Clock, Now, Runs, Steps}
use Rattle.dms_moments.specs.MomentLaws.{runs_none, steps_weaken}
use Rattle.dms_moments.specs.SeenLaws.{runs_looking}
use Rattle.dms_running.specs.Points.{points_of}
use Rattle.dms_site.specs.declared.site.Site.{Ghosts}
use Rattle.dms_site.specs.Files.{Files, Left, Same}
use Rattle.dms_restore.specs.Logging.{LogView, view, telling}
use Rattle.dms_restore.specs.Views.{view_of}
use Rattle.dms_wal.proofs.Stills.{runs_still}
use Rattle.dms_opening.specs.declared.opened.Opened.{Opened}
use Rattle.dms_opening.specs.Openings.{RunsFrom}
use Rattle.dms_descfile.specs.declared.fault.FileFault.{FileFault}
use Rattle.dms_descfile.specs.declared.fault.FileFault.TheVariants as file
use Rattle.dms_status.specs.declared.status.Status.{Status}
use Rattle.dms_status.specs.declared.status.Status.TheVariants.{DiskFault, Memory}
use Rattle.dms_runtop.specs.Command.{RunsOpened, StandsOpened}
use Rattle.dms_runtop.proofs.Bounds.{bounds_none}
use Rattle.dms_runtop.specs.Over.{seen_site}
use Rattle.dms_runtop.proofs.Endings.{IsUndone, undone_ok}
use Rattle.dms_runtop.proofs.Ran.{ran_nothing}
use Rattle.dms_runtop.proofs.Since.{runs_since}

-- it runs on
pub looked_from : (files : Files) (point next : ℕ) (schema counts : List ℕ) (v : LogView) (now : Files) (later : Clock Left) → now ≡ v.files → Steps Same v.clock later → RunsFrom files point next schema counts v → RunsFrom files point next schema counts (view v.end v.first now later)
looked_from files point next schema counts v now later same steps r = subst (λ (f : Files). RunsFrom files point next schema counts (view v.end v.first f later)) (sym same) (record {
  runs = runs_still v v.files later refl r.runs (steps_weaken steps (λ x y was is. ap (λ (l : Left). l.files) is));
  nothing = r.nothing;
  entries_are = r.entries_are;
  ended = r.ended;
  points_same = r.points_same;
  all_durable = r.all_durable;
  next_is = r.next_is;
  last = r.last;
  under = r.under;
  content_is = r.content_is;
  written = r.written;
  only = λ x is. let y = steps.follows x is in ap (λ (l : Left). l.files) y.2 ∙ r.only y.0 y.1;
})

module _ {S : Type 0} (g : Ghosts S) where
  abbrev pub stands_looked : (o : Opened S) (site : S) → g.files site ≡ g.files o.log.site → Steps Same (g.clock o.log.site) (g.clock site) → StandsOpened g o → StandsOpened g (record o { log = record o.log { site = site } })
  stands_looked o site same steps st = record {
    files = st.files;
    runs = looked_from st.files o.point o.next o.schema.items o.counts.items (view_of g o.log) (g.files site) (g.clock site) same steps st.runs;
    desc = st.desc;
    formed = st.formed;
    spelled = st.spelled;
  }

  pub said_seen : (a b : S) → g.said b ≡ g.said a → (seen_site g b).said ≡ (seen_site g a).said
  said_seen a b same = ap (λ (l : List ℕ). cond g.tells_said (Some l) None) same

  -- a run behind a call that only looked
  pub runs_looked : ((s : S) (t : ℕ) (x : Left) → t ≤ (g.clock s).now → Now (g.clock s) x → (g.clock s).left t x) → (o : Opened S) (site new : S) (left left' : Option (List ℕ)) (status : Status)
      → (IsTrue g.tells → g.files site ≡ g.files o.log.site) → g.said site ≡ g.said o.log.site → Steps Same (g.clock o.log.site) (g.clock site)
      → RunsOpened g (record o { log = record o.log { site = site } }) left left' status new → RunsOpened g o left left' status new
  runs_looked counts o site new left left' status same said steps ran t st n db all state valid is =
      runs_since 18 18 (telling (view_of g o.log)) st.desc (points_of (telling (view_of g o.log)) st.files) n db o.next all (seen_site g o.log.site) (seen_site g site) (seen_site g new) left' status
      (said_seen o.log.site site said) (λ events. runs_looking (counts o.log.site) steps) (omega (arith, ap (λ (f : Files). length ((telling (view_of g o.log)).entries f)) (same t)))
      (ran t (stands_looked o site (same t) steps st) n db all state valid is)

  -- no line was run
  pub runs_undone : (o : Opened S) (new : S) (left left' : Option (List ℕ)) (status : Status) → IsUndone status → (IsTrue g.tells → g.files new ≡ g.files o.log.site)
      → ((P : Left → Type 0) → Runs (g.clock o.log.site) (g.clock new) P) → g.said new ≡ g.said o.log.site → RunsOpened g o left left' status new
  runs_undone o new left left' status undone files moments said t st n db all state valid is =
      ran_nothing 18 (telling (view_of g o.log)) st.desc (points_of (telling (view_of g o.log)) st.files) n db o.next all (seen_site g o.log.site) (seen_site g new) left' status undone
      (moments _) (said_seen o.log.site new said) (bounds_none status (undone_ok status undone) (files t) (said_seen o.log.site new said))

-- a fault of the description
pub undone_description : (fault : FileFault) (status : Status) → (fault ≡ file.Disk → status ≡ DiskFault) → (fault ≡ file.Memory → status ≡ Memory) → IsUndone status
undone_description file.Disk status disk memory = subst IsUndone (sym (disk refl)) tt
undone_description file.Memory status disk memory = subst IsUndone (sym (memory refl)) tt

-- memory was refused before the first line, and the site is the same
pub runs_left : {S : Type 0} (g : Ghosts S) (o : Opened S) (new : S) (left left' : Option (List ℕ)) → new ≡ o.log.site → RunsOpened g o left left' Memory new
runs_left g o new left left' same =
    subst (λ x. RunsOpened g o left left' Memory x) (sym same) (runs_undone g o o.log.site left left' Memory tt (λ tells. refl) (λ P. runs_none (g.clock o.log.site) P) refl)
