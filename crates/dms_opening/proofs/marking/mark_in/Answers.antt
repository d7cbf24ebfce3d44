use Rattle.std.proofs.Common.{ℕ, ◌*◌, ◌+◌, ◌<◌, length, Option, sym, subst}
use Rattle.dms_site.specs.Files.{Files}
use Rattle.dms_opening.specs.Short.{FindsIn}
use Rattle.dms_opening.proofs.Marked.{ends_within, marked_steps, marked_written}
use Rattle.dms_opening.proofs.marking.mark_in.Goals as goal

pub returns-in-Ok-clause-written : goal.returns-in-Ok-clause-written
returns-in-Ok-clause-written g c tells =
    let f = c.args.file in
    let x = g.S.Site.files c.args.site.now in
    let found = subst (λ (o : Option ℕ). FindsIn x c.args.table.now f c.args.count o) c.in-Ok-Some.field-0-is (c.in-Ok-Some.ensures.found tells) in
    marked_written f c.in-Ok-Some.first x _ _ _ (c.short_in.ensures.files tells) (c.sync.ensures.files tells) (ends_within x f c.in-Ok-Some.first c.requires.structure found.1.short) (c.mark_blocks.ensures.written tells)

pub returns-in-Ok-clause-moments : goal.returns-in-Ok-clause-moments
returns-in-Ok-clause-moments g c tells =
    let f = c.args.file in
    let from = c.in-Ok-Some.first in
    let x = g.S.Site.files c.args.site.now in
    let found = subst (λ (o : Option ℕ). FindsIn x c.args.table.now f c.args.count o) c.in-Ok-Some.field-0-is (c.in-Ok-Some.ensures.found tells) in
    let short = subst (λ (l : Files). length (l f) < 1024 * from + 1024) (sym (c.short_in.ensures.files tells)) (ends_within x f from c.requires.structure found.1.short) in
    marked_steps f from _ _ _ _ _ c.short_in.ensures.moments c.sync.ensures.moments (c.in-Ok.ensures.durable tells) short (c.mark_blocks.ensures.moments tells)
