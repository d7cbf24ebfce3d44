use Rattle.std.proofs.Common.{sym, ◌∙◌, refl, subst}
use Rattle.dms_site.specs.Files.{Files}
use Rattle.dms_audfile.specs.declared.place.EntryPlace.{EntryPlace}
use Rattle.dms_audfile.specs.EntryReading.{IsCurrent}
use Rattle.dms_restore.proofs.ReadOn.{reads_none}
use Rattle.dms_restore.proofs.TailTables.{control_found}
use Rattle.dms_restore.proofs.tail_table.first_control.Goals as goal

pub loop-at-init : goal.loop-at-init
loop-at-init g c = record {
  current = λ tells. c.in-Ok.ensures (g.S.Site.files c.args.site.now);
  reads = reads_none _ _ _ _ _ _;
  same = g.met.S.Site.same_again _;
  disk = refl;
}

pub returns-in-Ok-Some-clause-found : goal.returns-in-Ok-Some-clause-found
returns-in-Ok-Some-clause-found g c = λ tells.
    let inv = c.loop-at.invariant in
    let d : EntryPlace = record { file = 0; block = 0; offset = 0 } in
    let current = subst (λ (l : Files). IsCurrent c.loop-at.reader l) (sym (inv.reads.files_stay tells)) (inv.current tells) in
    control_found (g.S.Site.files c.args.site.now) (g.S.Site.files c.loop-at.site) c.args.places.now c.loop-at.at c.in-Ok-Some.number d c.loop-at-test.true (inv.reads.files_stay tells)
    (λ e there. sym c.in-Ok-Some.field-0-is ∙ c.in-Ok-Some.ensures.number tells current e there)
