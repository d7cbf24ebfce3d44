use Rattle.std.proofs.Common.{◌<◌, ◌∙◌, ◌++◌, ap, sym, inl, List, arith, append-nil}
use Rattle.dms_moments.specs.MomentLaws.{steps_weaken}
use Rattle.dms_site.specs.Files.{Files}
use Rattle.dms_history.specs.Entries.{Entry}
use Rattle.dms_audfile.specs.TrailEntries.{trail_entries}
use Rattle.dms_audfile.specs.EndLaws.{waits_none}
use Rattle.dms_audfile.proofs.Ended.{seals_none, grown_none}
use Rattle.dms_audfile.proofs.Waiting.{waits_empty, seals_as, sealed_as, grown_as}
use Rattle.dms_audfile.proofs.Growing.{writes_same}
use Rattle.dms_audfile.proofs.Limits.{next_idle, next_busy}
use Rattle.dms_audfile.proofs.audit_end.AuditEnd.seal.Goals as goal

pub returns-then-self-eq0-clause-moments : goal.returns-then-self-eq0-clause-moments
returns-then-self-eq0-clause-moments g c first waiting tells at = seals_none _ _ first _ _ waiting _ _ at.writes at.settled c.args.self.now.high

pub returns-then-self-eq0-clause-sealed : goal.returns-then-self-eq0-clause-sealed
returns-then-self-eq0-clause-sealed g c first waiting tells at =
    let s = c.args.self.now in
    let old = trail_entries s.total first (g.S.Site.files c.args.site.now) in
    sym (append-nil old) ∙ ap (λ (l : List Entry). old ++ l) (sym (waits_empty s waiting c.if-self-eq0.true at.waits))

pub returns-then-self-eq0-clause-ends : goal.returns-then-self-eq0-clause-ends
returns-then-self-eq0-clause-ends g c first waiting tells at =
    record { low = at.low; writes = at.writes; settled = at.settled; waits = waits_none c.args.self.now c.if-self-eq0.true; kind = inl tt }

pub returns-in-Ok-clause-moments : goal.returns-in-Ok-clause-moments
returns-in-Ok-clause-moments g c first waiting tells at =
    let s = c.args.self.now in
    let allowed : s.file < 20000 = s.begun (omega (arith, c.if-self-eq0.false)) in
    steps_weaken (c.seal_group.ensures.moments first tells at.writes at.settled)
    (λ z x now grows. seals_as s first waiting at.waits c.if-self-eq0.false z x at.low (writes_same s.total s.tag first s.file s.count _ z.files at.writes (λ h from upto. at.settled h from upto z now)) allowed grows)

pub returns-in-Err-clause-moments : goal.returns-in-Err-clause-moments
returns-in-Err-clause-moments g c first waiting tells at =
    let s = c.args.self.now in
    let allowed : s.file < 20000 = s.begun (omega (arith, c.if-self-eq0.false)) in
    steps_weaken (c.seal_group.ensures.moments first tells at.writes at.settled)
    (λ z x now grows. seals_as s first waiting at.waits c.if-self-eq0.false z x at.low (writes_same s.total s.tag first s.file s.count _ z.files at.writes (λ h from upto. at.settled h from upto z now)) allowed grows)

pub returns-in-Ok-clause-sealed : goal.returns-in-Ok-clause-sealed
returns-in-Ok-clause-sealed g c first waiting tells at =
    let s = c.args.self.now in
    let allowed : s.file < 20000 = s.begun (omega (arith, c.if-self-eq0.false)) in
    sealed_as s first waiting at.waits c.if-self-eq0.false _ _ (c.in-Ok.ensures.sealed first 10000 tells at.writes (omega (arith, at.low, allowed)))

pub returns-in-Ok-clause-ends : goal.returns-in-Ok-clause-ends
returns-in-Ok-clause-ends g c first waiting tells at =
    record {
      low = at.low;
      writes = c.in-Ok.ensures.writes first tells at.writes;
      settled = λ h from upto x now. ap (λ (l : Files). l h) (c.in-Ok.ensures.durable tells x now);
      waits = waits_none c.seal_group.new.self c.in-Ok.ensures.empty.0;
      kind = inl tt;
    }

pub returns-then-self-eq0-clause-next : goal.returns-then-self-eq0-clause-next
returns-then-self-eq0-clause-next g c = sym (next_idle c.args.self.now c.if-self-eq0.true)

pub returns-in-Ok-clause-next : goal.returns-in-Ok-clause-next
returns-in-Ok-clause-next g c = c.in-Ok.ensures.next ∙ sym (next_busy c.args.self.now c.if-self-eq0.false)

pub returns-then-self-eq0-clause-grown : goal.returns-then-self-eq0-clause-grown
returns-then-self-eq0-clause-grown g c first waiting tells at = grown_none _ first _

pub returns-in-Ok-clause-grown : goal.returns-in-Ok-clause-grown
returns-in-Ok-clause-grown g c first waiting tells at =
    let s = c.args.self.now in
    let allowed : s.file < 20000 = s.begun (omega (arith, c.if-self-eq0.false)) in
    grown_as s first waiting at.waits c.if-self-eq0.false _ _ (c.in-Ok.ensures.sealed first 10000 tells at.writes (omega (arith, at.low, allowed)))
