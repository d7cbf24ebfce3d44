use Rattle.std.proofs.Common.{None, inl, inr, arith}
use Rattle.std.proofs.lemmas.Result.{on_ok_weaker}
use Rattle.dms_dump.specs.Head.{Head}
use Rattle.dms_dump.proofs.Copied.{filled, all_kept, short_kept, torn_steps, gate_on}
use Rattle.dms_dump.proofs.Results.{err_weaker}
use Rattle.dms_dump.proofs.writing.fill.Goals as goal

pub returns-in-Err-clause-moments : goal.returns-in-Err-clause-moments
returns-in-Err-clause-moments g c = torn_steps c.args.file 1 _ (omega arith) c.write_at.ensures.moments

pub returns-clause-filled : goal.returns-clause-filled
returns-clause-filled g c =
    let h : Head = record { tag = c.args.tag; point = c.args.point; audit = c.args.audit; counts = c.args.counts.now; end = None } in
    on_ok_weaker c.copy_all.result (λ copied tells start.
    filled (g.S.Site.files c.args.site.now) (g.S.Site.files c.write_at.new.self) (g.S.Site.files c.copy_all.new.site) c.args.file c.spell_head-used.result h _ c.requires.no_structure c.spell_head-used.ensures.end c.spell_head-used.ensures.head (c.in-Ok.ensures.written tells) (copied tells) start) c.copy_all.ensures.copied

pub returns-clause-whole : goal.returns-clause-whole
returns-clause-whole g c =
    on_ok_weaker c.copy_all.result (λ whole tells.
    all_kept (g.S.Site.files c.args.site.now) (g.S.Site.files c.write_at.new.self) c.args.file c.args.counts.now c.requires.no_structure (c.write_at.ensures.torn tells).others (whole tells)) c.copy_all.ensures.whole

pub returns-clause-moments : goal.returns-clause-moments
returns-clause-moments g c = gate_on c.args.file (torn_steps c.args.file 1 _ (omega arith) c.write_at.ensures.moments) c.copy_all.ensures.moments

pub returns-clause-only : goal.returns-clause-only
returns-clause-only g c = err_weaker c.copy_all.result c.copy_all.ensures.only (λ e why. elim why [
  | inl disk ↦ inl disk
  | inr short ↦ inr (short_kept g.S.Site.tells (g.S.Site.files c.args.site.now) (g.S.Site.files c.write_at.new.self) c.args.file c.args.counts.now e c.requires.no_structure (λ tells. (c.write_at.ensures.torn tells).others) short)
])
