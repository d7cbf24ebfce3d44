use Rattle.std.proofs.Common.{[], true}
use Rattle.dms_moments.specs.MomentLaws.{steps_weaken}
use Rattle.dms_online.specs.contracts.dump_site.DumpSiteSite as contracts
use Rattle.dms_wal.proofs.Keeping.{tells_sealed}
use Rattle.dms_online.proofs.Usable.{grown_dumped, grows_then, nothing_then, passes_dumped, same_dumped, stays_dumped}
use Rattle.dms_online.proofs.Gates.{shut_moments, shut_now}
use Rattle.dms_online.proofs.heads.shut_dump.Goals as goal

pub returns-in-Ok-clause-passes : goal.returns-in-Ok-clause-passes
returns-in-Ok-clause-passes g c =
    let m = g.met.S.Site in
    passes_dumped (contracts.TheImpl.ghosts g.row.S g.S.Site g.S.Site-dict) (λ s tells. m.may_stay s.site tells) (λ s x tells now. m.now_said s.site x tells now) (λ s t x le now. m.counts_now s.site t x le now)
    c.args.running.now c.requires.sound c.args.running.now.log.site.file c.requires.above c.requires.below (record c.args.running.now.log.site { site = c.shut.new.site }) c.shut.ensures.others
    (λ tells. steps_weaken (c.shut.ensures.moments [] tells) (λ x y now wrote. record { others = wrote.files.others; said = wrote.said })) c.shut.ensures.said c.args.running.now.broken

pub returns-in-Ok-clause-stays : goal.returns-in-Ok-clause-stays
returns-in-Ok-clause-stays g c =
    let m = g.met.S.Site in
    stays_dumped (contracts.TheImpl.ghosts g.row.S g.S.Site g.S.Site-dict) (λ s tells. m.may_stay s.site tells) (λ s x tells now. m.now_said s.site x tells now) (λ s t x le now. m.counts_now s.site t x le now)
    c.args.running.now c.requires.sound c.args.running.now.log.site.file c.requires.above c.requires.below (record c.args.running.now.log.site { site = c.shut.new.site }) c.shut.ensures.others
    (λ tells. steps_weaken (c.shut.ensures.moments [] tells) (λ x y now wrote. record { others = wrote.files.others; said = wrote.said })) c.shut.ensures.said

pub returns-in-Ok-clause-unchanged : goal.returns-in-Ok-clause-unchanged
returns-in-Ok-clause-unchanged g c =
    let m = g.met.S.Site in
    same_dumped (contracts.TheImpl.ghosts g.row.S g.S.Site g.S.Site-dict) (λ s tells. m.may_stay s.site tells) (λ s x tells now. m.now_said s.site x tells now) (λ s t x le now. m.counts_now s.site t x le now)
    c.args.running.now c.requires.sound c.args.running.now.log.site.file c.requires.above c.requires.below (record c.args.running.now.log.site { site = c.shut.new.site }) c.shut.ensures.others
    (λ tells. steps_weaken (c.shut.ensures.moments [] tells) (λ x y now wrote. record { others = wrote.files.others; said = wrote.said })) c.shut.ensures.said c.args.running.now.broken

pub returns-in-Ok-clause-grows : goal.returns-in-Ok-clause-grows
returns-in-Ok-clause-grows g c =
    let m = g.met.S.Site in
    grown_dumped (contracts.TheImpl.ghosts g.row.S g.S.Site g.S.Site-dict) (λ s tells. m.may_stay s.site tells) (λ s x tells now. m.now_said s.site x tells now) (λ s t x le now. m.counts_now s.site t x le now)
    c.args.running.now c.requires.sound c.args.running.now.log.site.file c.requires.above c.requires.below (record c.args.running.now.log.site { site = c.shut.new.site }) c.shut.ensures.others
    (λ tells. steps_weaken (c.shut.ensures.moments [] tells) (λ x y now wrote. record { others = wrote.files.others; said = wrote.said })) c.shut.ensures.said c.args.running.now.broken

pub returns-in-Err-clause-passes : goal.returns-in-Err-clause-passes
returns-in-Err-clause-passes g c =
    let m = g.met.S.Site in
    passes_dumped (contracts.TheImpl.ghosts g.row.S g.S.Site g.S.Site-dict) (λ s tells. m.may_stay s.site tells) (λ s x tells now. m.now_said s.site x tells now) (λ s t x le now. m.counts_now s.site t x le now)
    c.args.running.now c.requires.sound c.args.running.now.log.site.file c.requires.above c.requires.below (record c.args.running.now.log.site { site = c.shut.new.site }) c.shut.ensures.others
    (λ tells. steps_weaken (c.shut.ensures.moments [] tells) (λ x y now wrote. record { others = wrote.files.others; said = wrote.said })) c.shut.ensures.said true

pub returns-in-Err-clause-unchanged : goal.returns-in-Err-clause-unchanged
returns-in-Err-clause-unchanged g c =
    let m = g.met.S.Site in
    same_dumped (contracts.TheImpl.ghosts g.row.S g.S.Site g.S.Site-dict) (λ s tells. m.may_stay s.site tells) (λ s x tells now. m.now_said s.site x tells now) (λ s t x le now. m.counts_now s.site t x le now)
    c.args.running.now c.requires.sound c.args.running.now.log.site.file c.requires.above c.requires.below (record c.args.running.now.log.site { site = c.shut.new.site }) c.shut.ensures.others
    (λ tells. steps_weaken (c.shut.ensures.moments [] tells) (λ x y now wrote. record { others = wrote.files.others; said = wrote.said })) c.shut.ensures.said true

pub returns-in-Err-clause-grows : goal.returns-in-Err-clause-grows
returns-in-Err-clause-grows g c =
    let m = g.met.S.Site in
    grown_dumped (contracts.TheImpl.ghosts g.row.S g.S.Site g.S.Site-dict) (λ s tells. m.may_stay s.site tells) (λ s x tells now. m.now_said s.site x tells now) (λ s t x le now. m.counts_now s.site t x le now)
    c.args.running.now c.requires.sound c.args.running.now.log.site.file c.requires.above c.requires.below (record c.args.running.now.log.site { site = c.shut.new.site }) c.shut.ensures.others
    (λ tells. steps_weaken (c.shut.ensures.moments [] tells) (λ x y now wrote. record { others = wrote.files.others; said = wrote.said })) c.shut.ensures.said true

pub returns-in-Ok-clause-tells : goal.returns-in-Ok-clause-tells
returns-in-Ok-clause-tells g c t =
    let m = g.met.S.Site in
    tells_sealed (nothing_then (contracts.TheImpl.ghosts g.row.S g.S.Site g.S.Site-dict) (λ s tells. m.may_stay s.site tells) (λ s x tells now. m.now_said s.site x tells now) (λ s t x le now. m.counts_now s.site t x le now)
    c.args.running.now c.requires.sound c.args.running.now.log.site.file c.requires.above c.requires.below (record c.args.running.now.log.site { site = c.shut.new.site }) c.shut.ensures.others
    (λ tells. steps_weaken (c.shut.ensures.moments [] tells) (λ x y now wrote. record { others = wrote.files.others; said = wrote.said })) c.shut.ensures.said t)

pub returns-in-Ok-clause-grown : goal.returns-in-Ok-clause-grown
returns-in-Ok-clause-grown g c =
    let m = g.met.S.Site in
    grows_then (contracts.TheImpl.ghosts g.row.S g.S.Site g.S.Site-dict) (λ s tells. m.may_stay s.site tells) (λ s x tells now. m.now_said s.site x tells now) (λ s t x le now. m.counts_now s.site t x le now)
    c.args.running.now c.requires.sound c.args.running.now.log.site.file c.requires.above c.requires.below (record c.args.running.now.log.site { site = c.shut.new.site }) c.shut.ensures.others
    (λ tells. steps_weaken (c.shut.ensures.moments [] tells) (λ x y now wrote. record { others = wrote.files.others; said = wrote.said })) c.shut.ensures.said

pub returns-in-Err-clause-tells : goal.returns-in-Err-clause-tells
returns-in-Err-clause-tells g c t =
    let m = g.met.S.Site in
    tells_sealed (nothing_then (contracts.TheImpl.ghosts g.row.S g.S.Site g.S.Site-dict) (λ s tells. m.may_stay s.site tells) (λ s x tells now. m.now_said s.site x tells now) (λ s t x le now. m.counts_now s.site t x le now)
    c.args.running.now c.requires.sound c.args.running.now.log.site.file c.requires.above c.requires.below (record c.args.running.now.log.site { site = c.shut.new.site }) c.shut.ensures.others
    (λ tells. steps_weaken (c.shut.ensures.moments [] tells) (λ x y now wrote. record { others = wrote.files.others; said = wrote.said })) c.shut.ensures.said t)

pub returns-in-Err-clause-grown : goal.returns-in-Err-clause-grown
returns-in-Err-clause-grown g c =
    let m = g.met.S.Site in
    grows_then (contracts.TheImpl.ghosts g.row.S g.S.Site g.S.Site-dict) (λ s tells. m.may_stay s.site tells) (λ s x tells now. m.now_said s.site x tells now) (λ s t x le now. m.counts_now s.site t x le now)
    c.args.running.now c.requires.sound c.args.running.now.log.site.file c.requires.above c.requires.below (record c.args.running.now.log.site { site = c.shut.new.site }) c.shut.ensures.others
    (λ tells. steps_weaken (c.shut.ensures.moments [] tells) (λ x y now wrote. record { others = wrote.files.others; said = wrote.said })) c.shut.ensures.said

pub returns-in-Ok-clause-shut : goal.returns-in-Ok-clause-shut
returns-in-Ok-clause-shut g c tells x now = shut_now c.args.running.now.log.site.file (g.S.Site.files c.shut.new.site) [] x (c.in-Ok.ensures.shut tells) (c.in-Ok.ensures.durable tells x now)

pub returns-in-Ok-clause-moments : goal.returns-in-Ok-clause-moments
returns-in-Ok-clause-moments g c tells = shut_moments c.args.running.now.log.site.file (c.shut.ensures.moments [] tells)

pub returns-in-Err-clause-moments : goal.returns-in-Err-clause-moments
returns-in-Err-clause-moments g c tells = shut_moments c.args.running.now.log.site.file (c.shut.ensures.moments [] tells)
