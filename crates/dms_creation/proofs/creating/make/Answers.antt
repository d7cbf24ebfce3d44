use Rattle.std.proofs.Common.{subst}
use Rattle.std.proofs.lemmas.Result.{on_ok_weaker}
use Rattle.dms_site.specs.Files.{Files}
use Rattle.dms_creation.specs.Creation.{IsReadyToOpen}
use Rattle.dms_creation.proofs.Making.{made_early, made_all, made_files, only_looked}
use Rattle.dms_creation.proofs.creating.make.Goals as goal

pub returns-in_err-sync-clause-moments : goal.returns-in_err-sync-clause-moments
returns-in_err-sync-clause-moments g c tells d p room = only_looked _ d _ _ _ c.sync.ensures.moments

pub returns-in_err-prepare-clause-moments : goal.returns-in_err-prepare-clause-moments
returns-in_err-prepare-clause-moments g c tells d p room = made_early _ d (g.S.Site.files c.args.site.now) _ _ _ room c.sync.ensures.moments (c.in_ok-sync.ensures.durable tells) (c.prepare.ensures.moments tells)

pub returns-clause-moments : goal.returns-clause-moments
returns-clause-moments g c tells d p room =
    let old = g.S.Site.files c.args.site.now in
    let mid = g.S.Site.files c.prepare.new.site in
    let ready : IsReadyToOpen c.args.made.now.end.tag d old mid = subst (λ (l : Files). IsReadyToOpen c.args.made.now.end.tag d l mid) (c.in_ok-sync.ensures.files tells) (c.in_ok-prepare.ensures.ready tells d p) in
    made_all _ d old mid _ _ _ _ room c.sync.ensures.moments (c.in_ok-sync.ensures.durable tells) (c.prepare.ensures.moments tells) (c.in_ok-prepare.ensures.durable tells) ready c.write_synced.ensures.moments

pub returns-clause-made : goal.returns-clause-made
returns-clause-made g c = on_ok_weaker c.write_synced.result (λ written tells d p.
    let old = g.S.Site.files c.args.site.now in
    let mid = g.S.Site.files c.prepare.new.site in
    let ready : IsReadyToOpen c.args.made.now.end.tag d old mid = subst (λ (l : Files). IsReadyToOpen c.args.made.now.end.tag d l mid) (c.in_ok-sync.ensures.files tells) (c.in_ok-prepare.ensures.ready tells d p) in
    made_files _ d old mid _ ready (written tells)) c.write_synced.ensures.written
