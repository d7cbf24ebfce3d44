use Rattle.std.proofs.Common.{List, ℕ, Some, ap, ◌∙◌, arith}
use Rattle.dms_dump.specs.Head.{Head, head_bytes}
use Rattle.dms_history.specs.declared.event.FileCount.{FileCount}
use Rattle.std.proofs.lemmas.Result.{on_ok_weaker}
use Rattle.dms_site.specs.Files.{overlay_bytes}
use Rattle.dms_online.specs.contracts.dump_site.DumpSiteSite as contracts
use Rattle.dms_online.proofs.Besides.{beside_written}
use Rattle.dms_online.proofs.Gates.{gate_torn, with_here}
use Rattle.dms_online.proofs.heads.write_head.Goals as goal

pub returns-clause-beside : goal.returns-clause-beside
returns-clause-beside g c =
    let w = c.write_dump.ensures in
    beside_written (contracts.TheImpl.ghosts g.row.S g.S.Site g.S.Site-dict) c.write_dump.result c.args.running.now c.write_dump.new.running w.passes w.stays w.unchanged w.tells w.uses w.only w.causes w.broken w.kept w.grown w.grows

pub returns-clause-dump : goal.returns-clause-dump
returns-clause-dump g c =
    let w = c.write_dump.ensures in
    record { same = w.same; file = w.file; gate = λ tells. gate_torn c.args.running.now.log.site.file 1 _ (omega arith) w.moments }

pub returns-clause-written : goal.returns-clause-written
returns-clause-written g c =
    let copy = c.args.copy.now in
    let h : List FileCount → Head = λ cs. record { tag = copy.tag; point = copy.point; audit = copy.audit; counts = cs; end = Some c.args.end } in
    on_ok_weaker c.write_dump.result (λ wrote tells.
    with_here _ _ _ _ (wrote tells) ∙ ap (λ (l : List ℕ). overlay_bytes 1 l (g.S.Site.files c.args.running.now.log.site.site c.args.running.now.log.site.file)) (c.spell_head-used.ensures.head ∙ ap (λ (cs : List FileCount). head_bytes (h cs)) c.deref.ensures.value)) c.write_dump.ensures.written
