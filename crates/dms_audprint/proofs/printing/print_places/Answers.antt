use Rattle.std.proofs.Common.{◌<◌, ◌∙◌, sym, subst, arith, length, rules}
use Rattle.dms_site.specs.Files.{Files}
use Rattle.dms_audfile.specs.EntryReading.{IsCurrent}
use Rattle.dms_audprint.proofs.Printed.{part_then, line_then, part_now, stands_then, prints_on}
use Rattle.dms_audprint.proofs.printing.print_places.Goals as goal

pub returns-in-Err-print_entry-clause-part : goal.returns-in-Err-print_entry-clause-part
returns-in-Err-print_entry-clause-part g c tells told =
    let inv = c.loop-place.invariant in
    let low : c.loop-place.place-index < length c.args.places.now = omega (arith, c.loop-place-test.true) in
    let p = c.print_entry.ensures.part tells told (subst (λ (l : Files). IsCurrent c.loop-place.reader l) (sym (inv.files tells)) (inv.current tells)) in
    part_then _ _ _ _ _ _ _ _ _ low (inv.files tells) (inv.said tells told) p.1

pub returns-in-Err-print_entry-clause-there : goal.returns-in-Err-print_entry-clause-there
returns-in-Err-print_entry-clause-there g c tells all =
    let inv = c.loop-place.invariant in
    let low : c.loop-place.place-index < length c.args.places.now = omega (arith, c.loop-place-test.true) in
    c.in-Err-print_entry.ensures.there tells (subst (λ (l : Files). IsCurrent c.loop-place.reader l) (sym (inv.files tells)) (inv.current tells))
    (stands_then _ _ _ _ _ all low (inv.files tells))

pub returns-in-Err-print_entry-clause-moments : goal.returns-in-Err-print_entry-clause-moments
returns-in-Err-print_entry-clause-moments g c = prints_on c.loop-place.invariant.moments c.print_entry.ensures.moments

pub loop-place-preserved : goal.loop-place-preserved
loop-place-preserved g c =
    let inv = c.loop-place.invariant in
    let low : c.loop-place.place-index < length c.args.places.now = omega (arith, c.loop-place-test.true) in
    record {
      current = λ tells. subst (λ (l : Files). IsCurrent c.print_entry.new.reader l) (inv.files tells) (c.print_entry.ensures.current tells (subst (λ (l : Files). IsCurrent c.loop-place.reader l) (sym (inv.files tells)) (inv.current tells)));
      said = λ tells told. line_then _ _ _ _ _ _ _ _ low (inv.files tells) (inv.said tells told) (c.in-Ok-print_entry.ensures.printed tells told (subst (λ (l : Files). IsCurrent c.loop-place.reader l) (sym (inv.files tells)) (inv.current tells)));
      files = λ tells. c.print_entry.ensures.files tells ∙ inv.files tells;
      moments = prints_on inv.moments c.print_entry.ensures.moments;
      same_site = g.met.S.Site.same_then _ _ _ inv.same_site c.print_entry.ensures.same_site;
      disk = search rules;
      say = search rules;
    }

pub returns-clause-part : goal.returns-clause-part
returns-clause-part g c tells told = part_now _ _ _ _ _ (c.loop-place.invariant.said tells told)
