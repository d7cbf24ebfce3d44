use Rattle.std.proofs.Common.{◌≡◌, ap, subst, length, arith, Err, ℕ}
use Rattle.dms_site.specs.Files.{Files}
use Rattle.dms_desc.specs.Shape.{as_described}
use Rattle.dms_creation.specs.declared.fault.CreationFault.TheVariants.{NoDescription}
use Rattle.dms_creation.specs.Creation.{IsMade}
use Rattle.dms_creation.specs.Plans.{IsPlanOf, HasShutDatabaseGate}
use Rattle.dms_creation.proofs.Making.{blocks_range, few_kept, sealed_long, planned_by, initializes_after}
use Rattle.dms_creation.proofs.creating.initialize.Goals as goal

pub returns-in-Err-clause-no_description : goal.returns-in-Err-clause-no_description
returns-in-Err-clause-no_description g c is tells =
    let same : c.in-Err.fault ≡ NoDescription = cc in
    c.in-Err.ensures.no_description (ap Err same) tells

pub make-requires-clause-low : goal.make-requires-clause-low
make-requires-clause-low g c = omega (arith, c.in-Ok-make_plan.ensures.kind.0, (blocks_range (as_described c.in-Ok.desc) c.in-Ok.ensures.sound.parameters).0)

pub make-requires-clause-structures : goal.make-requires-clause-structures
make-requires-clause-structures g c = (length c.in-Ok.desc.structures, few_kept c.in-Ok.desc c.in-Ok.ensures.sound.structures, c.in-Ok-make_plan.ensures.counts)

pub returns-in-Ok-make-clause-moments : goal.returns-in-Ok-make-clause-moments
returns-in-Ok-make-clause-moments g c tells d sealed =
    let files = g.S.Site.files c.args.site.now in
    let same = c.in-Ok.ensures.files tells in
    let planned : IsPlanOf c.in-Ok-make_plan.made d = planned_by _ c.in-Ok-make_plan.made c.in-Ok.desc d sealed (c.in-Ok.ensures.sealed tells) c.in-Ok-make_plan.ensures.bytes c.in-Ok-make_plan.ensures.kind.0 c.in-Ok-make_plan.ensures.counts in
    let room : HasShutDatabaseGate (files 1) = record { long = sealed_long _ d sealed; shut = c.in-Ok.ensures.shut tells } in
    initializes_after _ c.args.tag d files _ _ _ _ c.in-Ok-make_plan.ensures.kind.1 same c.description_without_database.ensures.moments (λ there. c.make.ensures.moments tells d planned there) room

pub returns-clause-moments : goal.returns-clause-moments
returns-clause-moments g c tells d sealed =
    let files = g.S.Site.files c.args.site.now in
    let same = c.in-Ok.ensures.files tells in
    let planned : IsPlanOf c.in-Ok-make_plan.made d = planned_by _ c.in-Ok-make_plan.made c.in-Ok.desc d sealed (c.in-Ok.ensures.sealed tells) c.in-Ok-make_plan.ensures.bytes c.in-Ok-make_plan.ensures.kind.0 c.in-Ok-make_plan.ensures.counts in
    let room : HasShutDatabaseGate (files 1) = record { long = sealed_long _ d sealed; shut = c.in-Ok.ensures.shut tells } in
    initializes_after _ c.args.tag d files _ _ _ _ c.in-Ok-make_plan.ensures.kind.1 same c.description_without_database.ensures.moments (λ there. c.make.ensures.moments tells d planned there) room

pub returns-in-Ok-make-clause-made : goal.returns-in-Ok-make-clause-made
returns-in-Ok-make-clause-made g c tells d sealed =
    let same = c.in-Ok.ensures.files tells in
    let planned : IsPlanOf c.in-Ok-make_plan.made d = planned_by _ c.in-Ok-make_plan.made c.in-Ok.desc d sealed (c.in-Ok.ensures.sealed tells) c.in-Ok-make_plan.ensures.bytes c.in-Ok-make_plan.ensures.kind.0 c.in-Ok-make_plan.ensures.counts in
    let after = g.S.Site.files c.make.new.site in
    subst (λ (l : Files). IsMade c.args.tag d l after) same (subst (λ (t : ℕ). IsMade t d (g.S.Site.files c.description_without_database.new.site) after) c.in-Ok-make_plan.ensures.kind.1 (c.in-Ok-make.ensures.made tells d planned))
