use Rattle.std.proofs.Common.{◌≤◌, ◌∙◌, List, length, sym, subst}
use Rattle.dms_history.specs.declared.event.Row.{Row}
use Rattle.dms_site.specs.Files.{Files}
use Rattle.dms_audrec.specs.Spelling.{AreRows}
use Rattle.dms_recovery.specs.Looked.{IsLookedFor}
use Rattle.dms_recovery.specs.Reconstructing.{NamesRows}
use Rattle.dms_recovery.specs.Refusing.{RefusesWanted}
use Rattle.dms_recovery.specs.declared.wanted.Wanted.TheVariants.{Reconstruct}
use Rattle.dms_opening.specs.Whole.{StaysRead}
use Rattle.dms_opening.proofs.Reading.{stays_on}
use Rattle.dms_recovery.proofs.Named.{counted_open, list_is}
use Rattle.dms_recovery.proofs.Behold.{looked_on}
use Rattle.dms_recovery.proofs.reconstructing.plan_rows.Goals as goal

pub returns-in-Ok-look_for-clause-looked : goal.returns-in-Ok-look_for-clause-looked
returns-in-Ok-look_for-clause-looked g c =
    let l = c.in-Ok.ensures in
    let q = c.in-Ok-look_for.ensures in
    let site = c.args.found.site in
    let mid = c.in-Ok.looked.site in
    let rows = c.in-Ok.looked.rows.items in
    let same = list_is rows c.in-Ok.looked.list l.rows l.list in
    let lent = c.deref.ensures.value ∙ sym same in
    let stays : StaysRead g.S.Site site mid = record { files = l.files; moments = l.moments; said = l.said; say_faults = l.say_faults; same = l.same } in
    let then : IsLookedFor g.S.Site mid (Reconstruct c.args.dump) c.deref.result.now c.in-Ok-look_for.planned = record { starts = q.starts; trail = q.trail; plans = q.plans; stays = record { files = q.files; moments = q.moments; said = q.said; say_faults = q.say_faults; same = q.same }; clean = q.clean } in
    record {
      looked = looked_on g.S.Site g.met.S.Site.same_then site mid stays l.clean (Reconstruct c.args.dump) _ c.in-Ok-look_for.planned (subst (λ (r : List Row). IsLookedFor g.S.Site mid (Reconstruct c.args.dump) r c.in-Ok-look_for.planned) lent then);
      names = λ tells. subst (λ (r : List Row). NamesRows (g.S.Site.files site) c.args.named.now r) (sym same) (l.names tells);
    }

pub returns-in-Ok-look_for-clause-rows : goal.returns-in-Ok-look_for-clause-rows
returns-in-Ok-look_for-clause-rows g c =
    let l = c.in-Ok.ensures in
    subst AreRows (sym (list_is c.in-Ok.looked.rows.items c.in-Ok.looked.list l.rows l.list)) l.rows

pub returns-in-Ok-look_for-clause-few : goal.returns-in-Ok-look_for-clause-few
returns-in-Ok-look_for-clause-few g c =
    let l = c.in-Ok.ensures in
    subst (λ (r : List Row). length r ≤ 100) (sym (list_is c.in-Ok.looked.rows.items c.in-Ok.looked.list l.rows l.list)) l.few

pub returns-in-Err-clause-stays_then : goal.returns-in-Err-clause-stays_then
returns-in-Err-clause-stays_then g c =
    let l = c.in-Err.ensures in
    record { files = l.files_then; moments = l.moments_then; said = l.said_then; say_faults = l.say_faults_then; same = l.same_then }

pub returns-clause-refused : goal.returns-clause-refused
returns-clause-refused g c = λ tells.
    subst (λ (f : Files). RefusesWanted f (Reconstruct c.args.dump) c.in-Err-look_for.fault) (c.in-Ok.ensures.files tells) (c.in-Err-look_for.ensures.refused tells)

pub returns-clause-stays_then : goal.returns-clause-stays_then
returns-clause-stays_then g c =
    let l = c.in-Ok.ensures in
    let q = c.in-Err-look_for.ensures in
    stays_on g.S.Site g.met.S.Site.same_then c.args.found.site c.in-Ok.looked.site c.in-Err-look_for.site (record { files = l.files; moments = l.moments; said = l.said; say_faults = l.say_faults; same = l.same })
    (record { files = q.files_then; moments = q.moments_then; said = q.said_then; say_faults = q.say_faults_then; same = q.same_then })

pub returns-clause-disk : goal.returns-clause-disk
returns-clause-disk g c = counted_open c.in-Err-look_for.fault _ _ _ c.in-Ok.ensures.clean c.in-Err-look_for.ensures.disk
