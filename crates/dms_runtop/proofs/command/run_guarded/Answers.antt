use Rattle.std.proofs.Common.{◌<◌, sym, subst}
use Rattle.dms_status.specs.declared.status.Status.TheVariants.{Memory}
use Rattle.dms_runtop.specs.Command.{RunKeepsTrail, RunsCommand}
use Rattle.dms_guard.specs.Guard.{StaysBeside}
use Rattle.dms_runtop.specs.RunDoes.{Opens}
use Rattle.dms_guard.specs.Statuses.{IsRefusal}
use Rattle.dms_guard.proofs.Guarding.{refused_counts}
use Rattle.dms_runtop.proofs.Instead.{command_instead, refused_place}
use Rattle.dms_runtop.proofs.Opening.{unopened_memory}
use Rattle.dms_runtop.proofs.Taking.{takes_refused}
use Rattle.dms_runtop.proofs.command.run_guarded.Goals as goal

pub returns-clause-ran : goal.returns-clause-ran
returns-clause-ran g c =
    subst (λ x. RunsCommand g.S.Site g.state c.args.site x.site (g.I.Source.left c.args.source.now) (g.I.Source.left c.run_found-ended.new.source) c.run_found-ended.result.status) (sym c.into_site-site.ensures) c.run_found-ended.ensures.ran

pub returns-then-refused-gt0-clause-ran : goal.returns-then-refused-gt0-clause-ran
returns-then-refused-gt0-clause-ran g c =
    let ended = c.run_found-ended.ensures in
    let counted = refused_counts c.run_found-ended.result.status (g.S.Site.disk_faults c.args.site) (g.S.Site.disk_faults c.run_found-ended.result.site.site) c.run_found-ended.result.site.refused ended.counted
    (subst (λ x. 0 < x.refused) c.into_site-site.ensures c.if-refused-gt0.true) ended.disk in
    command_instead g.S.Site g.state c.args.site c.into_site-site.result.site _ _ c.run_found-ended.result.status (refused_place c.run_found-ended.result.status counted.0)
    (subst (λ x. RunsCommand g.S.Site g.state c.args.site x.site (g.I.Source.left c.args.source.now) (g.I.Source.left c.run_found-ended.new.source) c.run_found-ended.result.status) (sym c.into_site-site.ensures) ended.ran)

pub returns-clause-trail : goal.returns-clause-trail
returns-clause-trail g c = subst (λ x. RunKeepsTrail g.S.Site g.state c.args.site x.site) (sym c.into_site-site.ensures) c.run_found-ended.ensures.trail

pub returns-then-refused-gt0-clause-trail : goal.returns-then-refused-gt0-clause-trail
returns-then-refused-gt0-clause-trail g c = subst (λ x. RunKeepsTrail g.S.Site g.state c.args.site x.site) (sym c.into_site-site.ensures) c.run_found-ended.ensures.trail

pub returns-clause-opens : goal.returns-clause-opens
returns-clause-opens g c =
    subst (λ x. Opens g.S.Site g.I.Source c.args.site x.site c.args.source.now c.run_found-ended.new.source c.run_found-ended.result.status) (sym c.into_site-site.ensures) c.run_found-ended.ensures.opens

pub returns-then-refused-gt0-clause-opens : goal.returns-then-refused-gt0-clause-opens
returns-then-refused-gt0-clause-opens g c =
    let e = c.run_found-ended in
    let o = subst (λ x. Opens g.S.Site g.I.Source c.args.site x.site c.args.source.now e.new.source e.result.status) (sym c.into_site-site.ensures) e.ensures.opens in
    let none : IsRefusal Memory → ⊥ = λ is. is in
    record {
      opens = λ tells. unopened_memory g.S.Site c.args.site c.into_site-site.result.site e.result.status (o.opens tells);
      refused = λ is. absurd (none is);
      untaken = λ is. absurd (none is);
      short = λ f b is. absurd cc;
      complete = λ tells total first openable is. none is;
      complete_state = λ tells s stands is. none is;
    }

pub returns-then-refused-gt0-clause-takes : goal.returns-then-refused-gt0-clause-takes
returns-then-refused-gt0-clause-takes g c =
    let ended = c.run_found-ended.ensures in
    let counted = refused_counts c.run_found-ended.result.status (g.S.Site.disk_faults c.args.site) (g.S.Site.disk_faults c.run_found-ended.result.site.site) c.run_found-ended.result.site.refused ended.counted
    (subst (λ x. 0 < x.refused) c.into_site-site.ensures c.if-refused-gt0.true) ended.disk in
    takes_refused g.I.Source c.args.source.now c.run_found-ended.new.source c.run_found-ended.result.status counted.0 ended.takes

pub returns-clause-beside : goal.returns-clause-beside
returns-clause-beside g c =
    subst (λ x. StaysBeside g.S.Site c.args.site x.site) (sym c.into_site-site.ensures) c.run_found-ended.ensures.beside

pub returns-then-refused-gt0-clause-beside : goal.returns-then-refused-gt0-clause-beside
returns-then-refused-gt0-clause-beside g c =
    subst (λ x. StaysBeside g.S.Site c.args.site x.site) (sym c.into_site-site.ensures) c.run_found-ended.ensures.beside
