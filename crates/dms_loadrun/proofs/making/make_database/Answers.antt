use Rattle.std.proofs.Common.{◌≡◌, ◌∙◌, ap, sym, refl, Err}
use Rattle.dms_desc.specs.Shape.{as_described}
use Rattle.dms_descfile.specs.DescriptionFile.{IsSealed}
use Rattle.dms_loadrun.proofs.Made.{creates_makes, gate_shut, makes_on, new_of, others_on, status_is}
use Rattle.dms_loadrun.proofs.making.make_database.Goals as goal

pub returns-in-Err-Disk-clause-moments : goal.returns-in-Err-Disk-clause-moments
returns-in-Err-Disk-clause-moments g c = λ tells. creates_makes (as_described c.args.desc.now) _ _ _ (c.seal_description.ensures.creates tells)

pub returns-in-Ok-initialize-clause-made : goal.returns-in-Ok-initialize-clause-made
returns-in-Ok-initialize-clause-made g c = λ tells.
    let d = as_described c.args.desc.now in
    let files = g.S.Site.files c.args.site.now in
    let mid = g.S.Site.files c.seal_description.new.site in
    let written = c.in-Ok.ensures.written tells in
    let is : IsSealed (mid 1) d = record { database = 0; well_formed = c.requires.formed; few = c.requires.short; is = written } in
    new_of (c.what_is_made_stands.ensures) d files mid written is (c.seal_description.ensures.others tells) (g.S.Site.files c.initialize.new.site) (g.S.Site.clock c.initialize.new.site) (c.in-Ok-initialize.ensures.made tells d is) (c.in-Ok-initialize.ensures.durable tells)

pub returns-in-Ok-initialize-clause-others : goal.returns-in-Ok-initialize-clause-others
returns-in-Ok-initialize-clause-others g c = λ tells.
    let d = as_described c.args.desc.now in
    let files = g.S.Site.files c.args.site.now in
    let mid = g.S.Site.files c.seal_description.new.site in
    let written = c.in-Ok.ensures.written tells in
    let is : IsSealed (mid 1) d = record { database = 0; well_formed = c.requires.formed; few = c.requires.short; is = written } in
    let made = new_of (c.what_is_made_stands.ensures) d files mid written is (c.seal_description.ensures.others tells) (g.S.Site.files c.initialize.new.site) (g.S.Site.clock c.initialize.new.site) (c.in-Ok-initialize.ensures.made tells d is) (c.in-Ok-initialize.ensures.durable tells) in
    made.others

pub returns-in-Ok-initialize-clause-moments : goal.returns-in-Ok-initialize-clause-moments
returns-in-Ok-initialize-clause-moments g c = λ tells.
    let d = as_described c.args.desc.now in
    let files = g.S.Site.files c.args.site.now in
    let mid = g.S.Site.files c.seal_description.new.site in
    let written = c.in-Ok.ensures.written tells in
    let is : IsSealed (mid 1) d = record { database = 0; well_formed = c.requires.formed; few = c.requires.short; is = written } in
    makes_on (c.what_is_made_stands.ensures) d files mid written is (c.seal_description.ensures.others tells) (g.S.Site.clock c.args.site.now) (g.S.Site.clock c.seal_description.new.site) (g.S.Site.clock c.initialize.new.site) (c.in-Ok.ensures.durable tells) (c.seal_description.ensures.creates tells) (c.initialize.ensures.moments tells d is)

pub returns-in-Err-clause-others : goal.returns-in-Err-clause-others
returns-in-Err-clause-others g c = λ tells.
    let d = as_described c.args.desc.now in
    let files = g.S.Site.files c.args.site.now in
    let mid = g.S.Site.files c.seal_description.new.site in
    let written = c.in-Ok.ensures.written tells in
    let is : IsSealed (mid 1) d = record { database = 0; well_formed = c.requires.formed; few = c.requires.short; is = written } in
    let stay = g.met.S.Site.may_stay c.initialize.new.site tells in
    let runs = c.initialize.ensures.moments tells d is in
    λ f apart other. ap (λ fs. fs f) (sym stay.2)
    ∙ others_on (c.what_is_made_stands.ensures) d files mid written is (c.seal_description.ensures.others tells) (g.S.Site.clock c.seal_description.new.site) (g.S.Site.clock c.initialize.new.site) (c.in-Ok.ensures.durable tells) runs stay.0 (g.met.S.Site.counts_now c.initialize.new.site (g.S.Site.clock c.seal_description.new.site).now stay.0 runs.later stay.1) f apart other

pub returns-in-Err-clause-moments : goal.returns-in-Err-clause-moments
returns-in-Err-clause-moments g c = λ tells.
    let d = as_described c.args.desc.now in
    let files = g.S.Site.files c.args.site.now in
    let mid = g.S.Site.files c.seal_description.new.site in
    let written = c.in-Ok.ensures.written tells in
    let is : IsSealed (mid 1) d = record { database = 0; well_formed = c.requires.formed; few = c.requires.short; is = written } in
    makes_on (c.what_is_made_stands.ensures) d files mid written is (c.seal_description.ensures.others tells) (g.S.Site.clock c.args.site.now) (g.S.Site.clock c.seal_description.new.site) (g.S.Site.clock c.initialize.new.site) (c.in-Ok.ensures.durable tells) (c.seal_description.ensures.creates tells) (c.initialize.ensures.moments tells d is)

pub returns-in-Err-clause-exists : goal.returns-in-Err-clause-exists
returns-in-Err-clause-exists g c = λ is tells. gate_shut (as_described c.args.desc.now) _ (c.in-Ok.ensures.written tells) (c.in-Err.ensures.exists (ap Err (c.status_of_creation.ensures.exists (status_is _ _ is))) tells)

pub returns-in-Err-clause-found : goal.returns-in-Err-clause-found
returns-in-Err-clause-found g c = λ tells un.
    let d = as_described c.args.desc.now in
    let files = g.S.Site.files c.args.site.now in
    let mid = g.S.Site.files c.seal_description.new.site in
    let written = c.in-Ok.ensures.written tells in
    let is : IsSealed (mid 1) d = record { database = 0; well_formed = c.requires.formed; few = c.requires.short; is = written } in
    c.in-Err.ensures.no_description (ap Err (c.status_of_creation.ensures.unfound un)) tells d is
