use Rattle.std.proofs.Common.{◌≡◌, length, rules, ap, sym, ◌∙◌, List, ℕ}
use Rattle.std.proofs.lemmas.Result.{on_ok_weaker}
use Rattle.std.specs.declared.result.Result.TheVariants.{Ok, Err}
use Rattle.dms_block.specs.Content.{block_in}
use Rattle.dms_block.specs.declared.block.Block.{Block}
use Rattle.dms_wal.specs.Database.{running_held}
use Rattle.dms_online.specs.OnlineLaws.{gate_then}
use Rattle.dms_online.specs.contracts.dump_site.DumpSiteSite as contracts
use Rattle.dms_online.proofs.Besides.{beside_err, beside_looked, beside_on, beside_written}
use Rattle.dms_online.proofs.Gates.{gate_looked, gate_torn}
use Rattle.dms_online.proofs.Tears.{written_at}
use Rattle.dms_online.proofs.block_copy.copy_one.Goals as goal

pub returns-in-Ok-clause-beside : goal.returns-in-Ok-clause-beside
returns-in-Ok-clause-beside g c =
    let d = contracts.TheImpl.ghosts g.row.S g.S.Site g.S.Site-dict in
    let l = c.look_at.ensures in
    let w = c.write_dump.ensures in
    beside_on d c.write_dump.result c.args.running.now c.look_at.new.running c.write_dump.new.running
    (beside_looked d (Ok c.in-Ok.block) c.args.running.now c.look_at.new.running c.requires.sound c.in-Ok.ensures.looks c.in-Ok.ensures.tells c.in-Ok.ensures.causes tt l.kept tt l.grown)
    (beside_written d c.write_dump.result c.look_at.new.running c.write_dump.new.running w.passes w.stays w.unchanged w.tells w.uses w.only w.causes w.broken w.kept w.grown w.grows)

pub returns-in-Err-clause-beside : goal.returns-in-Err-clause-beside
returns-in-Err-clause-beside g c =
    let d = contracts.TheImpl.ghosts g.row.S g.S.Site g.S.Site-dict in
    let l = c.look_at.ensures in
    beside_err d c.in-Err.fault c.args.running.now c.look_at.new.running
    (beside_looked d {T = Block} (Err c.in-Err.fault) c.args.running.now c.look_at.new.running c.requires.sound c.in-Err.ensures.looks tt c.in-Err.ensures.causes c.in-Err.ensures.only l.kept c.in-Err.ensures.broken l.grown)

pub returns-in-Ok-clause-dump : goal.returns-in-Ok-clause-dump
returns-in-Ok-clause-dump g c =
    let l = c.look_at.ensures in
    let w = c.write_dump.ensures in
    record {
      same = g.met.S.Site.same_then _ _ _ l.same w.same;
      file = w.file ∙ l.file;
      gate = λ tells. gate_then c.args.running.now.log.site.file c.look_at.new.running.log.site.file l.file (gate_looked c.args.running.now.log.site.file l.moments) (gate_torn c.look_at.new.running.log.site.file c.args.at _ c.requires.behind w.moments);
    }

pub returns-in-Err-clause-dump : goal.returns-in-Err-clause-dump
returns-in-Err-clause-dump g c =
    let l = c.look_at.ensures in
    record { same = l.same; file = l.file; gate = λ tells. gate_looked c.args.running.now.log.site.file l.moments }

pub returns-in-Ok-clause-written : goal.returns-in-Ok-clause-written
returns-in-Ok-clause-written g c =
    let d = contracts.TheImpl.ghosts g.row.S g.S.Site g.S.Site-dict in
    let l = c.look_at.ensures in
    on_ok_weaker c.write_dump.result
    (λ wrote tells. written_at (g.S.Site.files c.args.running.now.log.site.site) (g.S.Site.files c.look_at.new.running.log.site.site) (g.S.Site.files c.write_dump.new.running.log.site.site) c.args.running.now.log.site.file c.look_at.new.running.log.site.file c.args.at
    c.in-Ok.block.0 (block_in (running_held d c.args.running.now).content c.args.id.file c.args.id.block) l.file (l.read tells) (c.in-Ok.ensures.block tells) (wrote tells))
    c.write_dump.ensures.written

pub returns-in-Ok-clause-size : goal.returns-in-Ok-clause-size
returns-in-Ok-clause-size g c =
    let size : length c.in-Ok.block.0 ≡ 1024 = search rules in
    on_ok_weaker c.write_dump.result (λ (wrote : _) tells. ap (λ (l : List ℕ). length l) (sym (c.in-Ok.ensures.block tells)) ∙ size) c.write_dump.ensures.written
