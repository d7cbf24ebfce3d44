-- A run over a database that was opened, from a run over the running database of its description.
use Rattle.std.proofs.Common.{ℕ, ◌≡◌, ◌+◌, ◌<◌, ◌^◌, ◌∙◌, IsTrue, List, [], map, Option, sym, ap, subst}
use Rattle.dms_desc.specs.Shape.{Described}
use Rattle.dms_desc_bytes.specs.Spelling.{spelling}
use Rattle.dms_desc_bytes.specs.WellFormed.{IsWellFormed}
use Rattle.dms_model.specs.Db.{Db}
use Rattle.dms_model.specs.Valid.{IsValid}
use Rattle.dms_running.specs.Points.{DescribedPoint, points_of}
use Rattle.dms_running.specs.Telling.{Telling}
use Rattle.dms_site.specs.declared.site.Site.{Ghosts}
use Rattle.dms_site.specs.Files.{Files}
use Rattle.dms_restore.specs.Logging.{telling_of, points, waits}
use Rattle.dms_restore.specs.Views.{view_of}
use Rattle.dms_store.specs.Lifted.{point_of}
use Rattle.dms_wal.specs.declared.running.Running.{Running}
use Rattle.dms_wal.specs.Database.{running_held}
use Rattle.dms_opening.specs.declared.opened.Opened.{Opened}
use Rattle.dms_opening.specs.Openings.{RunsFrom, TellsOpened}
use Rattle.dms_status.specs.declared.status.Status.{Status}
use Rattle.dms_run.specs.States.{LivesEndWith}
use Rattle.dms_runtop.specs.Command.{RunsOpened, StandsOpened}
use Rattle.dms_runtop.specs.Describing.{IsUnderSchema}
use Rattle.dms_runtop.specs.Over.{BeginsAt, RunsOver, ScriptRuns, SiteSeen, seen_site}
use Rattle.dms_runtop.proofs.Opened.{same_description, spells_last}

-- it runs under the bytes of the description that is used
under_bytes : {S : Type 0} (g : Ghosts S) (one : (d e : Described) → IsWellFormed d → IsWellFormed e → spelling d ≡ spelling e → d ≡ e) (o : Opened S) (desc : Described) → IsWellFormed desc → IsUnderSchema o.schema.items desc
    → (bytes : List ℕ) → bytes ≡ spelling desc → (st : StandsOpened g o) → RunsFrom st.files o.point o.next bytes o.counts.items (view_of g o.log)
under_bytes g one o desc formed under bytes bytes_are st =
    let same : desc ≡ st.desc = same_description one o.schema.items desc st.desc formed under st.formed st.spelled in
    subst (λ (b : List ℕ). RunsFrom st.files o.point o.next b o.counts.items (view_of g o.log)) (sym st.spelled ∙ ap spelling (sym same) ∙ sym bytes_are) st.runs

module _ {S : Type 0} (g : Ghosts S) (one : (d e : Described) → IsWellFormed d → IsWellFormed e → spelling d ≡ spelling e → d ≡ e) (o : Opened S) (desc : Described) (formed : IsWellFormed desc) (under : IsUnderSchema o.schema.items desc)
    (bytes : List ℕ) (bytes_are : bytes ≡ spelling desc)
    (r : Running S) (site_is : r.log.site ≡ o.log.site) (total_is : r.log.end.total ≡ o.log.end.total) (first_is : r.log.first ≡ o.log.first) (next_is : r.next ≡ o.next) (limit_is : r.log.end.limit ≡ desc.files)
    (opened : (files : Files) → RunsFrom files o.point o.next bytes o.counts.items (view_of g o.log) → TellsOpened (telling_of o.log.end.total o.log.first) files o.next (running_held g r))
    (every_is : r.every ≡ desc.controlpoint) (unused : (r.spent ≡ 0) × (r.syncs ≡ 0) × (r.outs ≡ 0)) (waiting : waits o.log.end ≡ [] → waits r.log.end ≡ []) where
  abbrev t : Telling
  t = telling_of o.log.end.total o.log.first

  opened_under : (st : StandsOpened g o) → TellsOpened t st.files o.next (running_held g r)
  opened_under st = opened st.files (under_bytes g one o desc formed under bytes bytes_are st)

  begins_opened : IsTrue g.tells → (st : StandsOpened g o) (n : ℕ) (db : Db) → LivesEndWith st.desc (points_of t st.files) n db → IsValid st.desc db → o.next + 1000003 < 2 ^ 64 → BeginsAt g r o.log.end.total o.log.first (points_of t st.files) st.desc n db
  begins_opened told st n db state valid room =
      let to = opened_under st in
      record {
        tells = told;
        total_is = total_is;
        first_is = first_is;
        limit_is = limit_is ∙ ap (λ (d : Described). d.files) (same_description one o.schema.items desc st.desc formed under st.formed st.spelled);
        points_are = ap (map (point_of st.desc)) to.points_are;
        state = state;
        spells = spells_last st.desc (points (view_of g r.log)) (points_of t st.files) (running_held g r).content n db state to.points_are to.content_is;
        valid = valid;
        durable = to.all_durable;
        room = subst (λ (m : ℕ). m + 1000003 < 2 ^ 64) (sym next_is) room;
        nothing = waiting (under_bytes g one o desc formed under bytes bytes_are st).nothing;
        every = every_is ∙ ap (λ (x : Described). x.controlpoint) (same_description one o.schema.items desc st.desc formed under st.formed st.spelled);
        unused = unused;
      }

  pub runs_described : o.next + 1000003 < 2 ^ 64 → (site : S) (left left' : Option (List ℕ)) (status : Status) → RunsOver g r desc left left' status site → RunsOpened g o left left' status site
  runs_described room site left left' status ran told st n db all state valid is =
      let same : desc ≡ st.desc = same_description one o.schema.items desc st.desc formed under st.formed st.spelled in
      let over : RunsOver g r st.desc left left' status site = subst (λ (d : Described). RunsOver g r d left left' status site) same ran in
      let ps : List DescribedPoint = points_of t st.files in
      let script : ScriptRuns 18 t st.desc ps n db r.next all (seen_site g r.log.site) (seen_site g site) left' status = over o.log.end.total o.log.first ps n db all (begins_opened told st n db state valid room) is in
      subst (λ (m : ℕ). ScriptRuns 18 t st.desc ps n db m all (seen_site g o.log.site) (seen_site g site) left' status) next_is
      (subst (λ (x : SiteSeen). ScriptRuns 18 t st.desc ps n db r.next all x (seen_site g site) left' status) (ap (seen_site g) site_is) script)

-- the files under which it runs
pub files_under : {S : Type 0} (g : Ghosts S) (one : (d e : Described) → IsWellFormed d → IsWellFormed e → spelling d ≡ spelling e → d ≡ e) (o : Opened S) (desc : Described) → IsWellFormed desc → IsUnderSchema o.schema.items desc
    → (bytes : List ℕ) → bytes ≡ spelling desc → StandsOpened g o → (files : Files) × RunsFrom files o.point o.next bytes o.counts.items (view_of g o.log)
files_under g one o desc formed under bytes bytes_are st = (st.files, under_bytes g one o desc formed under bytes bytes_are st)
