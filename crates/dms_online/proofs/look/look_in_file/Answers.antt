use Rattle.std.proofs.Common.{ℕ, ◌+◌, replicate, ap, arith}
use Rattle.std.proofs.lemmas.List.{length-replicate}
use Rattle.dms_site.specs.Files.{Left}
use Rattle.dms_wal.proofs.Fetched.{fetched, not_whole, owned_by}
use Rattle.dms_wal.proofs.Rooming.{looks_looked}
use Rattle.dms_wal.proofs.Passes.{grows_kept}
use Rattle.dms_online.specs.contracts.dump_site.DumpSiteSite as contracts
use Rattle.dms_online.proofs.Looked.{looked_tells}
use Rattle.dms_online.proofs.look.look_in_file.Goals as goal

pub returns-in-Ok-eq1024-clause-block : goal.returns-in-Ok-eq1024-clause-block
returns-in-Ok-eq1024-clause-block g c tells =
    fetched (contracts.TheImpl.ghosts g.row.S g.S.Site g.S.Site-dict) c.args.running.now c.requires.sound c.args.id c.requires.there c.requires.absent tells c.in-Ok-eq1024.field-0 _ (replicate 1024 0) c.read.new.into (omega (arith, c.from-at.ensures)) (length-replicate {A = ℕ} 1024 0) (omega (arith, c.in-Ok-eq1024.field-0-is)) (c.in-Ok-eq1024.ensures.bytes tells)

pub returns-in-Ok-eq1024-clause-looks : goal.returns-in-Ok-eq1024-clause-looks
returns-in-Ok-eq1024-clause-looks g c =
    let m = g.met.S.Site in
    looks_looked (contracts.TheImpl.ghosts g.row.S g.S.Site g.S.Site-dict) (λ s tells. m.may_stay s.site tells) (λ s x tells now. m.now_said s.site x tells now) (λ s t x le now. m.counts_now s.site t x le now)
    c.args.running.now c.requires.sound _ tt (record c.args.running.now.log.site { site = c.read.new.self }) c.read.ensures.files c.read.ensures.moments c.read.ensures.said

pub returns-in-Ok-eq1024-clause-tells : goal.returns-in-Ok-eq1024-clause-tells
returns-in-Ok-eq1024-clause-tells g c tells = looked_tells c.args.running.now.log.end c.args.running.now.log.first _ _ (g.S.Site.clock c.args.running.now.log.site.site) (g.S.Site.clock c.read.new.self) (c.read.ensures.files tells)

pub returns-in-Ok-clause-causes : goal.returns-in-Ok-clause-causes
returns-in-Ok-clause-causes g c = (
  (
    record { later = omega (arith, c.saturating_add-running.ensures); rose = omega (arith, c.saturating_add-running.ensures); once = omega (arith, c.saturating_add-running.ensures) },
    λ i. record { disk = c.in-Ok.ensures.faults.clean i + c.args.running.now.log.site.refused; say = c.read.ensures.say_faults i; full = c.args.running.now.full; damaged = c.saturating_add-running.result },
  ),
  (
    owned_by c.args.running.now.counts.items c.args.id.file c.args.id.block c.requires.there,
    c.requires.there,
    λ told. not_whole (contracts.TheImpl.ghosts g.row.S g.S.Site g.S.Site-dict) c.args.running.now c.requires.sound c.args.id c.requires.there c.requires.absent told c.in-Ok.field-0 _ (replicate 1024 0) c.read.new.into (omega (arith, c.from-at.ensures)) (length-replicate {A = ℕ} 1024 0) (λ e. absurd (omega (arith, e, c.in-Ok.field-0-test))) (c.in-Ok.ensures.bytes told),
  ),
)

pub returns-in-Ok-eq1024-clause-grown : goal.returns-in-Ok-eq1024-clause-grown
returns-in-Ok-eq1024-clause-grown g c = λ tells. grows_kept c.args.running.now.log.end c.args.running.now.log.first _ _ _ _ (c.read.ensures.files tells) (λ x y p. ap (λ (l : Left). l.files) p) c.read.ensures.moments

pub returns-in-Ok-clause-grown : goal.returns-in-Ok-clause-grown
returns-in-Ok-clause-grown g c = λ tells. grows_kept c.args.running.now.log.end c.args.running.now.log.first _ _ _ _ (c.read.ensures.files tells) (λ x y p. ap (λ (l : Left). l.files) p) c.read.ensures.moments

pub returns-in-Err-clause-grown : goal.returns-in-Err-clause-grown
returns-in-Err-clause-grown g c = λ tells. grows_kept c.args.running.now.log.end c.args.running.now.log.first _ _ _ _ (c.read.ensures.files tells) (λ x y p. ap (λ (l : Left). l.files) p) c.read.ensures.moments
