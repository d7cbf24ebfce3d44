use Rattle.std.proofs.Common.{ℕ, ◌+◌, ◌≡◌, arith, subst}
use Rattle.std.specs.declared.result.Result.TheVariants.{Ok, Err}
use Rattle.dms_block.specs.Held.{HasNextNumber}
use Rattle.dms_wal.specs.Database.{running_held}
use Rattle.dms_online.specs.Going.{GoesOn}
use Rattle.dms_online.specs.OnlineLaws.{dump_again, dump_then}
use Rattle.dms_online.specs.contracts.dump_site.DumpSiteSite as contracts
use Rattle.dms_online.proofs.Besides.{beside_none, beside_on}
use Rattle.dms_online.proofs.Somewhat.{went_on}
use Rattle.dms_online.proofs.next_blocks.copy_some.Goals as goal

pub loop-i-init : goal.loop-i-init
loop-i-init g c = record {
  beside = beside_none (contracts.TheImpl.ghosts g.row.S g.S.Site g.S.Site-dict) tt c.args.running.now c.requires.sound;
  dump = dump_again g.S.Site g.met.S.Site.same_again c.args.running.now.log.site;
  went = λ tells room low head named quiet. record { quiet = quiet; goes = λ from. from };
}

pub copy_next-requires-clause-sound : goal.copy_next-requires-clause-sound
copy_next-requires-clause-sound g c = c.loop-i.invariant.beside.stays.sound

pub loop-i-preserved : goal.loop-i-preserved
loop-i-preserved g c =
    let d = contracts.TheImpl.ghosts g.row.S g.S.Site g.S.Site-dict in
    let inv = c.loop-i.invariant in
    let e = c.in-Ok.ensures in
    record {
      beside = beside_on d (Ok tt) c.args.running.now c.loop-i.running c.copy_next.new.running inv.beside e.beside;
      dump = dump_then g.S.Site g.met.S.Site.same_then c.args.running.now.log.site c.loop-i.running.log.site c.copy_next.new.running.log.site inv.dump e.dump;
      went = λ tells room low head named quiet.
          let went = inv.went tells room low head (λ i less. named i (omega (arith, less))) quiet in
          let next : HasNextNumber (running_held d c.loop-i.running) = omega (arith, inv.beside.passes.next, room) in
          let one = named c.loop-i.i (omega arith) in
          went_on (running_held d c.args.running.now) (running_held d c.loop-i.running) (running_held d c.copy_next.new.running) _ (g.S.Site.files c.loop-i.running.log.site.site c.args.running.now.log.site.file) _ c.args.front c.args.counts.now c.args.n c.loop-i.i low head tells tells next e.beside.stays e.beside.unchanged
          (subst (λ (h : ℕ). GoesOn (running_held d c.loop-i.running) (g.S.Site.files c.loop-i.running.log.site.site h) c.args.front low c.args.counts.now c.loop-i.i head → GoesOn (running_held d c.copy_next.new.running) (g.S.Site.files c.copy_next.new.running.log.site.site h) c.args.front low c.args.counts.now (c.loop-i.i + 1) head) inv.dump.file
          (λ from. e.goes tells next one.file one.block low head one.is went.quiet from)) went;
    }

pub returns-in-Err-clause-beside : goal.returns-in-Err-clause-beside
returns-in-Err-clause-beside g c =
    let d = contracts.TheImpl.ghosts g.row.S g.S.Site g.S.Site-dict in
    beside_on d {T = Unit {0}} (Err c.in-Err.fault) c.args.running.now c.loop-i.running c.copy_next.new.running c.loop-i.invariant.beside c.in-Err.ensures.beside

pub returns-in-Err-clause-dump : goal.returns-in-Err-clause-dump
returns-in-Err-clause-dump g c = dump_then g.S.Site g.met.S.Site.same_then c.args.running.now.log.site c.loop-i.running.log.site c.copy_next.new.running.log.site c.loop-i.invariant.dump c.in-Err.ensures.dump

pub returns-clause-goes : goal.returns-clause-goes
returns-clause-goes g c tells room low head named quiet from =
    let all : c.loop-i.i ≡ c.args.end = omega (arith, c.loop-i-test.false, c.loop-i.auto.i-end, c.requires.order) in
    let gone = (c.loop-i.invariant.went tells room low head (λ i less. named i (omega (arith, less, all))) quiet).goes from in
    subst (λ (n : ℕ). GoesOn (running_held (contracts.TheImpl.ghosts g.row.S g.S.Site g.S.Site-dict) c.loop-i.running) (g.S.Site.files c.loop-i.running.log.site.site c.args.running.now.log.site.file) c.args.front low c.args.counts.now n head) all gone
