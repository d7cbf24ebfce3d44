use Rattle.std.proofs.Common.{◌≡◌, ◌∙◌, ap, arith, subst}
use Rattle.dms_moments.specs.MomentLaws.{steps_on}
use Rattle.dms_site.specs.Files.{Files}
use Rattle.dms_site.specs.Laws.{with_file_other}
use Rattle.dms_audfile.specs.Sealing.{Opens}
use Rattle.dms_audfile.proofs.Group.{gate_left, opens_next}
use Rattle.dms_audfile.proofs.sealing.open_gates.Goals as goal

pub returns-in_err-write_synced-clause-moments : goal.returns-in_err-write_synced-clause-moments
returns-in_err-write_synced-clause-moments g c total tag first tells w r only =
    let inv = c.loop-i.invariant in
    steps_on (inv.moments total tag first tells w r only) c.write_synced.ensures.moments
    (λ z y x was now grown step. gate_left total tag first c.args.file c.args.count c.args.blocks c.loop-i.i c.from-place.result _ _ z y x c.from-place.ensures r c.loop-i-test.true
    (inv.opened total tag first tells w r) (only z was) (inv.durable tells only y now) grown.said step)
    (λ z x was grown. grown)

pub loop-i-preserved : goal.loop-i-preserved
loop-i-preserved g c =
    let inv = c.loop-i.invariant in
    record {
      opened = λ total tag first tells w r. opens_next total tag first c.args.file c.args.count c.args.blocks c.loop-i.i c.from-place.result _ _ _ c.from-place.ensures r c.loop-i-test.true
          (inv.opened total tag first tells w r) (c.in_ok-write_synced.ensures.written tells);
      moments = λ total tag first tells w r only.
          steps_on (inv.moments total tag first tells w r only) c.write_synced.ensures.moments
          (λ z y x was now grown step. gate_left total tag first c.args.file c.args.count c.args.blocks c.loop-i.i c.from-place.result _ _ z y x c.from-place.ensures r c.loop-i-test.true
          (inv.opened total tag first tells w r) (only z was) (inv.durable tells only y now) grown.said step)
          (λ z x was grown. grown);
      others = λ tells h other. ap (λ (l : Files). l h) (c.in_ok-write_synced.ensures.written tells) ∙ with_file_other _ _ _ h other ∙ inv.others tells h other;
      durable = λ tells only. c.in_ok-write_synced.ensures.durable tells;
      said = c.write_synced.ensures.said ∙ inv.said;
      same = g.met.S.Site.same_then _ _ _ inv.same c.write_synced.ensures.same_site;
      disk = c.in_ok-write_synced.ensures.faults.clean ∙ inv.disk;
      say = c.write_synced.ensures.say_faults ∙ inv.say;
    }

pub returns-clause-opened : goal.returns-clause-opened
returns-clause-opened g c total tag first tells w r =
    let inv = c.loop-i.invariant in
    let all : c.loop-i.i ≡ c.args.blocks = omega (arith, c.loop-i-test.false, c.loop-i.auto.i-end) in
    subst (λ k. Opens total tag first c.args.file c.args.count k (g.S.Site.files c.args.site.now) (g.S.Site.files c.loop-i.site)) all (inv.opened total tag first tells w r)
