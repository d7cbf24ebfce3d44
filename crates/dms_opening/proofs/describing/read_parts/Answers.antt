use Rattle.std.proofs.Common.{sym, ◌∙◌, refl, subst, arith}
use Rattle.dms_site.specs.Files.{Files}
use Rattle.dms_audfile.proofs.Reading.{reads_on}
use Rattle.dms_audfile.specs.declared.place.EntryPlace.{EntryPlace}
use Rattle.dms_audfile.specs.EntryReading.{IsCurrent}
use Rattle.dms_restore.proofs.Results.{is_fault}
use Rattle.dms_restore.proofs.ReadOn.{reads_none, no_entry_at, current_fault}
use Rattle.dms_opening.proofs.Describes.{parts_next, parts_all}
use Rattle.dms_opening.proofs.describing.read_parts.Goals as goal

pub loop-place-init : goal.loop-place-init
loop-place-init g c = record {
  current = λ tells. c.in-Ok.ensures (g.S.Site.files c.args.site.now);
  read = λ tells ps are there. c.new-bytes.ensures.items;
  reads = reads_none _ _ _ _ _ _;
  same = g.met.S.Site.same_again _;
  disk = refl;
}

pub loop-place-preserved : goal.loop-place-preserved
loop-place-preserved g c =
    let inv = c.loop-place.invariant in
    let d : EntryPlace = record { file = 0; block = 0; offset = 0 } in
    record {
      current = λ tells. subst (λ (l : Files). IsCurrent c.read_part.new.reader l) (inv.reads.files_stay tells) (c.read_part.ensures.current tells (subst (λ (l : Files). IsCurrent c.loop-place.reader l) (sym (inv.reads.files_stay tells)) (inv.current tells)));
      read = λ tells ps are there. parts_next _ _ c.args.parts.now c.loop-place.place-index d c.loop-place.bytes.items c.read_part.new.bytes.items c.loop-place-test.true (inv.reads.files_stay tells)
          (c.in-Ok-read_part.ensures.added tells (subst (λ (l : Files). IsCurrent c.loop-place.reader l) (sym (inv.reads.files_stay tells)) (inv.current tells))) ps are there (inv.read tells ps are there);
      reads = reads_on g.S.Site.tells inv.reads c.read_part.ensures.reads;
      same = g.met.S.Site.same_then _ _ _ inv.same c.read_part.ensures.same_site;
      disk = c.in-Ok-read_part.ensures.disk.clean (λ e. subst (λ r. is_fault r) (sym e) tt) ∙ inv.disk;
    }

pub returns-clause-bytes : goal.returns-clause-bytes
returns-clause-bytes g c tells ps are there = parts_all c.args.parts.now c.loop-place.place-index c.loop-place.bytes.items ps (omega (arith, c.loop-place-test.false)) are (c.loop-place.invariant.read tells ps are there)

pub returns-in-Err-read_part-clause-only : goal.returns-in-Err-read_part-clause-only
returns-in-Err-read_part-clause-only g c =
    let inv = c.loop-place.invariant in
    let d : EntryPlace = record { file = 0; block = 0; offset = 0 } in
    no_entry_at g.S.Site.tells (g.S.Site.files c.args.site.now) (g.S.Site.files c.loop-place.site) c.args.parts.now c.loop-place.place-index d _ c.loop-place-test.true (λ t. inv.reads.files_stay t)
    (current_fault g.S.Site.tells _ _ _ _ (λ t. subst (λ (l : Files). IsCurrent c.loop-place.reader l) (sym (inv.reads.files_stay t)) (inv.current t)) c.in-Err-read_part.ensures.only)
