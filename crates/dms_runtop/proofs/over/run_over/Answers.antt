use Rattle.dms_audfile.specs.Counting.{not_counted}
use Rattle.std.proofs.Common.{◌∙◌, ap}
use Rattle.dms_desc.specs.Shape.{as_described}
use Rattle.dms_store.specs.Storing.{seen_by}
use Rattle.dms_storeverbs.specs.View.{view}
use Rattle.dms_runtop.proofs.Engine.{fresh_over, memory_not_disk, memory_not_say, ran_same, refused_over}
use Rattle.dms_runtop.proofs.Grows.{grown_same, grows_left}
use Rattle.dms_runtop.proofs.Taking.{takes_none}
use Rattle.dms_status.specs.declared.status.Status.TheVariants.{Memory}
use Rattle.dms_runtop.proofs.over.run_over.Goals as goal

pub run_engine-requires-clause-fresh : goal.run_engine-requires-clause-fresh
run_engine-requires-clause-fresh g c = fresh_over seen_by (view c.in-Ok-new.engine) c.in-Ok-new.engine.store c.in-Ok.store c.in-Ok-new.ensures.store c.in-Ok-new.ensures.stands

pub returns-in-Err-clause-ran : goal.returns-in-Err-clause-ran
returns-in-Err-clause-ran g c =
    refused_over g.S.Site (as_described c.args.desc.now) c.args.running c.into_site.result (g.I.Source.left c.args.source.now) (g.I.Source.left c.args.source.now)
    (c.into_site.ensures ∙ (λ i. (c.in-Err.ensures.below_back i).log.site))

pub returns-in-Err-new-clause-ran : goal.returns-in-Err-new-clause-ran
returns-in-Err-new-clause-ran g c =
    refused_over g.S.Site (as_described c.args.desc.now) c.args.running c.into_site-in-Err-new.result (g.I.Source.left c.args.source.now) (g.I.Source.left c.args.source.now)
    (c.into_site-in-Err-new.ensures ∙ (λ i. (c.into_below.ensures i).log.site) ∙ (λ i. (c.in-Err-new.ensures.memory i).over.below.log.site) ∙ (λ i. (c.in-Ok.ensures.below i).log.site))

pub returns-in-Ok-new-clause-ran : goal.returns-in-Ok-new-clause-ran
returns-in-Ok-new-clause-ran g c =
    ran_same g.S.Site (as_described c.args.desc.now) (as_described c.in-Ok-new.engine.desc) c.args.running c.in-Ok-new.engine.store.over.below (g.I.Source.left c.args.source.now) (g.I.Source.left c.run_engine.new.source)
    c.run_engine.result.status c.run_engine.result.site c.in-Ok-new.ensures.described (ap (λ s. s.over.below) c.in-Ok-new.ensures.store ∙ c.in-Ok.ensures.below) c.run_engine.ensures.ran

pub returns-in-Err-clause-grown : goal.returns-in-Err-clause-grown
returns-in-Err-clause-grown g c = grows_left g.S.Site c.args.running c.into_site.result (c.into_site.ensures ∙ (λ i. (c.in-Err.ensures.below_back i).log.site))

pub returns-in-Err-new-clause-grown : goal.returns-in-Err-new-clause-grown
returns-in-Err-new-clause-grown g c =
    grows_left g.S.Site c.args.running c.into_site-in-Err-new.result
    (c.into_site-in-Err-new.ensures ∙ (λ i. (c.into_below.ensures i).log.site) ∙ (λ i. (c.in-Err-new.ensures.memory i).over.below.log.site) ∙ (λ i. (c.in-Ok.ensures.below i).log.site))

pub returns-in-Ok-new-clause-grown : goal.returns-in-Ok-new-clause-grown
returns-in-Ok-new-clause-grown g c =
    grown_same g.S.Site c.args.running c.in-Ok-new.engine.store.over.below c.run_engine.result.site (ap (λ s. s.over.below) c.in-Ok-new.ensures.store ∙ c.in-Ok.ensures.below) c.run_engine.ensures.grown

pub returns-in-Err-clause-takes : goal.returns-in-Err-clause-takes
returns-in-Err-clause-takes g c = takes_none g.I.Source g.met.I.Source.same_again c.args.source.now Memory tt

pub returns-in-Err-new-clause-takes : goal.returns-in-Err-new-clause-takes
returns-in-Err-new-clause-takes g c = takes_none g.I.Source g.met.I.Source.same_again c.args.source.now Memory tt

pub returns-in-Err-new-clause-disk : goal.returns-in-Err-new-clause-disk
returns-in-Err-new-clause-disk g c =
    not_counted _ (g.S.Site.disk_faults c.args.running.log.site) (g.S.Site.disk_faults c.into_site-in-Err-new.result) memory_not_disk (ap g.S.Site.disk_faults (c.into_site-in-Err-new.ensures ∙ (λ i. (c.into_below.ensures i).log.site) ∙ (λ i. (c.in-Err-new.ensures.memory i).over.below.log.site) ∙ (λ i. (c.in-Ok.ensures.below i).log.site)))

pub returns-in-Err-new-clause-say : goal.returns-in-Err-new-clause-say
returns-in-Err-new-clause-say g c =
    not_counted _ (g.S.Site.say_faults c.args.running.log.site) (g.S.Site.say_faults c.into_site-in-Err-new.result) memory_not_say (ap g.S.Site.say_faults (c.into_site-in-Err-new.ensures ∙ (λ i. (c.into_below.ensures i).log.site) ∙ (λ i. (c.in-Err-new.ensures.memory i).over.below.log.site) ∙ (λ i. (c.in-Ok.ensures.below i).log.site)))
