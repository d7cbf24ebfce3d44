use Rattle.std.proofs.Common.{◌<◌, ◌∙◌, inr, refl, sym, length, subst, ap, arith}
use Rattle.dms_dump.proofs.Copied.{full_read, short_read, stored_read, copy_is, read_steps, torn_steps, gate_on}
use Rattle.dms_dump.proofs.copying.copy_block.Goals as goal

pub returns-in-Ok-clause-only : goal.returns-in-Ok-clause-only
returns-in-Ok-clause-only g c = inr (
  refl,
  (λ tells.
      let short = short_read c.in-Ok.field-0 _ (g.S.Site.files c.args.site.now c.args.file) c.args.buffer.now c.requires.room c.in-Ok.field-0-test.1 (c.in-Ok.ensures.bytes tells).0 in
      subst (λ l. length l < 1024) (stored_read (g.S.Site.files c.args.site.now) c.args.file c.args.block _ _ c.requires.structure c.from.ensures refl) short),
)

pub returns-in-Ok-write_at-clause-copied : goal.returns-in-Ok-write_at-clause-copied
returns-in-Ok-write_at-clause-copied g c tells =
    let full = full_read c.in-Ok-eq1024.field-0 _ (g.S.Site.files c.args.site.now c.args.file) c.args.buffer.now c.read.new.into c.requires.room (omega (arith, c.in-Ok-eq1024.field-0-is)) (c.in-Ok-eq1024.ensures.bytes tells) in
    copy_is (g.S.Site.files c.args.site.now) _ _ c.args.dump c.args.at _ _ (c.read.ensures.files tells)
    (full.0 ∙ stored_read (g.S.Site.files c.args.site.now) c.args.file c.args.block _ _ c.requires.structure c.from.ensures refl) (c.in-Ok-write_at.ensures.written tells)

pub returns-in-Ok-write_at-clause-moments : goal.returns-in-Ok-write_at-clause-moments
returns-in-Ok-write_at-clause-moments g c = gate_on c.args.dump (read_steps c.args.dump c.read.ensures.moments) (torn_steps c.args.dump c.args.at _ c.requires.behind c.write_at.ensures.moments)

pub returns-in-Err-write_at-clause-moments : goal.returns-in-Err-write_at-clause-moments
returns-in-Err-write_at-clause-moments g c = gate_on c.args.dump (read_steps c.args.dump c.read.ensures.moments) (torn_steps c.args.dump c.args.at _ c.requires.behind c.write_at.ensures.moments)

pub returns-in-Ok-write_at-clause-whole : goal.returns-in-Ok-write_at-clause-whole
returns-in-Ok-write_at-clause-whole g c tells =
    let full = full_read c.in-Ok-eq1024.field-0 _ (g.S.Site.files c.args.site.now c.args.file) c.args.buffer.now c.read.new.into c.requires.room (omega (arith, c.in-Ok-eq1024.field-0-is)) (c.in-Ok-eq1024.ensures.bytes tells) in
    ap length (sym (full.0 ∙ stored_read (g.S.Site.files c.args.site.now) c.args.file c.args.block _ _ c.requires.structure c.from.ensures refl)) ∙ full.1
