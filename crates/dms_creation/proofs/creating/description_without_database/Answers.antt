use Rattle.std.proofs.Common.{◌≤◌, ◌∙◌, ap, sym, subst, length}
use Rattle.std.specs.Prelude.{slice_index}
use Rattle.dms_site.specs.Files.{Files}
use Rattle.dms_desc.specs.Shape.{as_described}
use Rattle.dms_descfile.specs.DescriptionFile.{IsSealed}
use Rattle.dms_creation.proofs.Making.{sealed_long}
use Rattle.dms_creation.proofs.creating.description_without_database.Goals as goal

pub returns-in-Ok-None-clause-no_description : goal.returns-in-Ok-None-clause-no_description
returns-in-Ok-None-clause-no_description g c is tells = (rw c.in-Ok-None.field-0-is at c.in-Ok-None.ensures.found) tells

pub returns-in-Ok-true-clause-exists : goal.returns-in-Ok-true-clause-exists
returns-in-Ok-true-clause-exists g c is tells =
    let same = c.in-Ok-Some.ensures.files tells in
    let sealed : IsSealed (g.S.Site.files c.args.site.now 1) (as_described c.in-Ok-Some.desc) = (rw c.in-Ok-Some.field-0-is at c.in-Ok-Some.ensures.found) tells in
    let long : 2 ≤ length (g.S.Site.files c.read_description.new.site 1) = subst (λ (l : Files). 2 ≤ length (l 1)) (sym same) (sealed_long _ _ sealed) in
    sym (ap (λ (l : Files). slice_index (l 1) 1) same) ∙ (c.in-Ok-true.ensures.gate tells long).opened c.in-Ok-true.field-0-test
