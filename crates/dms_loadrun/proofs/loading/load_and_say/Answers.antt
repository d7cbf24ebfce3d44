use Rattle.std.proofs.Common.{◌≡◌, ◌∙◌, subst}
use Rattle.dms_audfile.specs.Counting.{CountedAt, not_counted}
use Rattle.dms_desc.specs.Shape.{Described, as_described}
use Rattle.dms_loadrun.specs.Statuses.{IsOfFilling}
use Rattle.dms_newdb.specs.State.{StandsNew}
use Rattle.dms_status.specs.declared.status.Status.TheVariants.{DiskFault, Ok as Done, SayFault}
use Rattle.dms_loadrun.proofs.Ending.{cut, done, unfilled}
use Rattle.dms_loadrun.proofs.Filled.{fills_as}
use Rattle.dms_loadrun.proofs.loading.load_and_say.Goals as goal

pub fill_database-requires-clause-new : goal.fill_database-requires-clause-new
fill_database-requires-clause-new g c = λ tells. subst (λ (x : Described). StandsNew 0 x (g.S.Site.files c.make_database.new.site)) c.requires.is (c.in-Ok.ensures.made tells).stands

pub returns-in_default : goal.returns-in_default
returns-in_default g c = record {
  does = unfilled g.S.Site (as_described c.args.desc.now) c.args.seed c.args.n c.args.text.now c.args.site.now c.make_database.new.site c.fill_database.new.site c.in-Ok.ensures.made c.make_database.ensures.moments c.make_database.ensures.said c.fill_database.result c.fill_database.ensures.statuses c.in_default.not-Ok (fills_as g.S.Site (as_described c.args.desc.now) c.args.seed c.args.n c.make_database.new.site c.fill_database.new.site c.fill_database.result c.requires.is c.fill_database.ensures.fills) c.fill_database.ensures.said;
  disk = subst (λ k. CountedAt (c.fill_database.result ≡ DiskFault) k (g.S.Site.disk_faults c.fill_database.new.site)) (c.in-Ok.ensures.disk.clean (λ is. cc)) c.fill_database.ensures.disk;
  say = not_counted (c.fill_database.result ≡ SayFault) (g.S.Site.say_faults c.args.site.now) (g.S.Site.say_faults c.fill_database.new.site) (λ is. subst IsOfFilling is c.fill_database.ensures.statuses) (c.fill_database.ensures.say_faults ∙ c.make_database.ensures.say_faults);
  same_site = g.met.S.Site.same_then _ _ _ c.make_database.ensures.same_site c.fill_database.ensures.same_site;
}

pub returns-in-Ok-say-clause-does : goal.returns-in-Ok-say-clause-does
returns-in-Ok-say-clause-does g c =
    done g.S.Site (as_described c.args.desc.now) c.args.seed c.args.n c.args.text.now c.args.site.now c.make_database.new.site c.say.new.self c.in-Ok.ensures.made c.make_database.ensures.moments c.make_database.ensures.said c.fill_database.new.site (fills_as g.S.Site (as_described c.args.desc.now) c.args.seed c.args.n c.make_database.new.site c.fill_database.new.site Done c.requires.is c.in-Ok-fill_database.ensures.fills) c.fill_database.ensures.said (g.met.S.Site.counts_now c.fill_database.new.site) c.say.ensures.moments c.say.ensures.files c.in-Ok-say.ensures.said

pub returns-in-Err-say-clause-does : goal.returns-in-Err-say-clause-does
returns-in-Err-say-clause-does g c =
    cut g.S.Site (as_described c.args.desc.now) c.args.seed c.args.n c.args.text.now c.args.site.now c.make_database.new.site c.say.new.self c.in-Ok.ensures.made c.make_database.ensures.moments c.make_database.ensures.said c.fill_database.new.site (fills_as g.S.Site (as_described c.args.desc.now) c.args.seed c.args.n c.make_database.new.site c.fill_database.new.site Done c.requires.is c.in-Ok-fill_database.ensures.fills) c.fill_database.ensures.said (g.met.S.Site.counts_now c.fill_database.new.site) c.say.ensures.moments c.say.ensures.files c.say.ensures.some_said
