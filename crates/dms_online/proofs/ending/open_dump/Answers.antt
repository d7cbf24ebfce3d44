use Rattle.std.proofs.Common.{refl, true}
use Rattle.dms_moments.specs.MomentLaws.{steps_weaken}
use Rattle.dms_wal.proofs.Keeping.{tells_sealed}
use Rattle.dms_online.specs.contracts.dump_site.DumpSiteSite as contracts
use Rattle.dms_online.proofs.Finished.{gate_opens, gate_rest, settled_dumped}
use Rattle.dms_online.proofs.Usable.{grows_then, nothing_then, passes_dumped, same_dumped, stays_dumped}
use Rattle.dms_online.proofs.ending.open_dump.Goals as goal

pub returns-in-Ok-clause-passes : goal.returns-in-Ok-clause-passes
returns-in-Ok-clause-passes g c =
    let m = g.met.S.Site in
    passes_dumped (contracts.TheImpl.ghosts g.row.S g.S.Site g.S.Site-dict) (λ s tells. m.may_stay s.site tells) (λ s x tells now. m.now_said s.site x tells now) (λ s t x le now. m.counts_now s.site t x le now)
    c.args.running.now c.requires.sound c.args.running.now.log.site.file c.requires.above c.requires.below (record c.args.running.now.log.site { site = c.open_gate.new.site }) c.open_gate.ensures.others
    (λ tells. let rest = gate_rest _ (c.requires.gate tells) in steps_weaken (c.open_gate.ensures.moments rest.0 tells rest.1) (λ x y now wrote. record { others = wrote.files.others; said = wrote.said })) c.open_gate.ensures.said c.args.running.now.broken

pub returns-in-Err-clause-passes : goal.returns-in-Err-clause-passes
returns-in-Err-clause-passes g c =
    let m = g.met.S.Site in
    passes_dumped (contracts.TheImpl.ghosts g.row.S g.S.Site g.S.Site-dict) (λ s tells. m.may_stay s.site tells) (λ s x tells now. m.now_said s.site x tells now) (λ s t x le now. m.counts_now s.site t x le now)
    c.args.running.now c.requires.sound c.args.running.now.log.site.file c.requires.above c.requires.below (record c.args.running.now.log.site { site = c.open_gate.new.site }) c.open_gate.ensures.others
    (λ tells. let rest = gate_rest _ (c.requires.gate tells) in steps_weaken (c.open_gate.ensures.moments rest.0 tells rest.1) (λ x y now wrote. record { others = wrote.files.others; said = wrote.said })) c.open_gate.ensures.said true

pub returns-in-Ok-clause-stays : goal.returns-in-Ok-clause-stays
returns-in-Ok-clause-stays g c =
    let m = g.met.S.Site in
    stays_dumped (contracts.TheImpl.ghosts g.row.S g.S.Site g.S.Site-dict) (λ s tells. m.may_stay s.site tells) (λ s x tells now. m.now_said s.site x tells now) (λ s t x le now. m.counts_now s.site t x le now)
    c.args.running.now c.requires.sound c.args.running.now.log.site.file c.requires.above c.requires.below (record c.args.running.now.log.site { site = c.open_gate.new.site }) c.open_gate.ensures.others
    (λ tells. let rest = gate_rest _ (c.requires.gate tells) in steps_weaken (c.open_gate.ensures.moments rest.0 tells rest.1) (λ x y now wrote. record { others = wrote.files.others; said = wrote.said })) c.open_gate.ensures.said

pub returns-in-Ok-clause-unchanged : goal.returns-in-Ok-clause-unchanged
returns-in-Ok-clause-unchanged g c =
    let m = g.met.S.Site in
    same_dumped (contracts.TheImpl.ghosts g.row.S g.S.Site g.S.Site-dict) (λ s tells. m.may_stay s.site tells) (λ s x tells now. m.now_said s.site x tells now) (λ s t x le now. m.counts_now s.site t x le now)
    c.args.running.now c.requires.sound c.args.running.now.log.site.file c.requires.above c.requires.below (record c.args.running.now.log.site { site = c.open_gate.new.site }) c.open_gate.ensures.others
    (λ tells. let rest = gate_rest _ (c.requires.gate tells) in steps_weaken (c.open_gate.ensures.moments rest.0 tells rest.1) (λ x y now wrote. record { others = wrote.files.others; said = wrote.said })) c.open_gate.ensures.said c.args.running.now.broken

pub returns-in-Err-clause-unchanged : goal.returns-in-Err-clause-unchanged
returns-in-Err-clause-unchanged g c =
    let m = g.met.S.Site in
    same_dumped (contracts.TheImpl.ghosts g.row.S g.S.Site g.S.Site-dict) (λ s tells. m.may_stay s.site tells) (λ s x tells now. m.now_said s.site x tells now) (λ s t x le now. m.counts_now s.site t x le now)
    c.args.running.now c.requires.sound c.args.running.now.log.site.file c.requires.above c.requires.below (record c.args.running.now.log.site { site = c.open_gate.new.site }) c.open_gate.ensures.others
    (λ tells. let rest = gate_rest _ (c.requires.gate tells) in steps_weaken (c.open_gate.ensures.moments rest.0 tells rest.1) (λ x y now wrote. record { others = wrote.files.others; said = wrote.said })) c.open_gate.ensures.said true

pub returns-in-Ok-clause-grown : goal.returns-in-Ok-clause-grown
returns-in-Ok-clause-grown g c =
    let m = g.met.S.Site in
    grows_then (contracts.TheImpl.ghosts g.row.S g.S.Site g.S.Site-dict) (λ s tells. m.may_stay s.site tells) (λ s x tells now. m.now_said s.site x tells now) (λ s t x le now. m.counts_now s.site t x le now)
    c.args.running.now c.requires.sound c.args.running.now.log.site.file c.requires.above c.requires.below (record c.args.running.now.log.site { site = c.open_gate.new.site }) c.open_gate.ensures.others
    (λ tells. let rest = gate_rest _ (c.requires.gate tells) in steps_weaken (c.open_gate.ensures.moments rest.0 tells rest.1) (λ x y now wrote. record { others = wrote.files.others; said = wrote.said })) c.open_gate.ensures.said

pub returns-in-Err-clause-grown : goal.returns-in-Err-clause-grown
returns-in-Err-clause-grown g c =
    let m = g.met.S.Site in
    grows_then (contracts.TheImpl.ghosts g.row.S g.S.Site g.S.Site-dict) (λ s tells. m.may_stay s.site tells) (λ s x tells now. m.now_said s.site x tells now) (λ s t x le now. m.counts_now s.site t x le now)
    c.args.running.now c.requires.sound c.args.running.now.log.site.file c.requires.above c.requires.below (record c.args.running.now.log.site { site = c.open_gate.new.site }) c.open_gate.ensures.others
    (λ tells. let rest = gate_rest _ (c.requires.gate tells) in steps_weaken (c.open_gate.ensures.moments rest.0 tells rest.1) (λ x y now wrote. record { others = wrote.files.others; said = wrote.said })) c.open_gate.ensures.said

pub returns-in-Ok-clause-tells : goal.returns-in-Ok-clause-tells
returns-in-Ok-clause-tells g c t =
    let m = g.met.S.Site in
    tells_sealed (nothing_then (contracts.TheImpl.ghosts g.row.S g.S.Site g.S.Site-dict) (λ s tells. m.may_stay s.site tells) (λ s x tells now. m.now_said s.site x tells now) (λ s t x le now. m.counts_now s.site t x le now)
    c.args.running.now c.requires.sound c.args.running.now.log.site.file c.requires.above c.requires.below (record c.args.running.now.log.site { site = c.open_gate.new.site }) c.open_gate.ensures.others
    (λ tells. let rest = gate_rest _ (c.requires.gate tells) in steps_weaken (c.open_gate.ensures.moments rest.0 tells rest.1) (λ x y now wrote. record { others = wrote.files.others; said = wrote.said })) c.open_gate.ensures.said t)

pub returns-in-Err-clause-tells : goal.returns-in-Err-clause-tells
returns-in-Err-clause-tells g c t =
    let m = g.met.S.Site in
    tells_sealed (nothing_then (contracts.TheImpl.ghosts g.row.S g.S.Site g.S.Site-dict) (λ s tells. m.may_stay s.site tells) (λ s x tells now. m.now_said s.site x tells now) (λ s t x le now. m.counts_now s.site t x le now)
    c.args.running.now c.requires.sound c.args.running.now.log.site.file c.requires.above c.requires.below (record c.args.running.now.log.site { site = c.open_gate.new.site }) c.open_gate.ensures.others
    (λ tells. let rest = gate_rest _ (c.requires.gate tells) in steps_weaken (c.open_gate.ensures.moments rest.0 tells rest.1) (λ x y now wrote. record { others = wrote.files.others; said = wrote.said })) c.open_gate.ensures.said t)

pub returns-in-Ok-clause-settles : goal.returns-in-Ok-clause-settles
returns-in-Ok-clause-settles g c t settled =
    let m = g.met.S.Site in
    let n = nothing_then (contracts.TheImpl.ghosts g.row.S g.S.Site g.S.Site-dict) (λ s tells. m.may_stay s.site tells) (λ s x tells now. m.now_said s.site x tells now) (λ s t x le now. m.counts_now s.site t x le now)
    c.args.running.now c.requires.sound c.args.running.now.log.site.file c.requires.above c.requires.below (record c.args.running.now.log.site { site = c.open_gate.new.site }) c.open_gate.ensures.others
    (λ tells. let rest = gate_rest _ (c.requires.gate tells) in steps_weaken (c.open_gate.ensures.moments rest.0 tells rest.1) (λ x y now wrote. record { others = wrote.files.others; said = wrote.said })) c.open_gate.ensures.said t in
    settled_dumped _ _ n refl (c.in-Ok.ensures.durable t) settled

pub returns-in-Ok-clause-moments : goal.returns-in-Ok-clause-moments
returns-in-Ok-clause-moments g c rest tells is = gate_opens c.args.running.now.log.site.file rest _ (c.requires.settled tells) is (c.open_gate.ensures.moments rest tells is)

pub returns-in-Err-clause-moments : goal.returns-in-Err-clause-moments
returns-in-Err-clause-moments g c rest tells is = gate_opens c.args.running.now.log.site.file rest _ (c.requires.settled tells) is (c.open_gate.ensures.moments rest tells is)
