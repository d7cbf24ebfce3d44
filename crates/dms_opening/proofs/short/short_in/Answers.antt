use Rattle.std.proofs.Common.{◌≡◌, ◌≤◌, ◌<◌, ◌/◌, length, ap, arith, rules}
use Rattle.dms_opening.proofs.Lacks.{lacks, lacks_none, lacks_not}
use Rattle.dms_opening.proofs.short.short_in.Goals as goal

pub returns-then-whole-from-clause-found : goal.returns-then-whole-from-clause-found
returns-then-whole-from-clause-found g c = λ tells.
    let whole : c.in_ok-whole.field-0 / 1024 ≡ length (g.S.Site.files c.args.site.now c.args.file) / 1024 = ap (λ n. n / 1024) (c.in_ok-whole.ensures.length tells) in
    let enough : c.args.count ≤ c.in_ok-whole.field-0 / 1024 = search rules in
    lacks_none (g.S.Site.files c.args.site.now) c.args.table.now c.args.file (c.in_ok-whole.field-0 / 1024) c.args.count c.requires whole enough

pub returns-then-next-from-clause-found : goal.returns-then-next-from-clause-found
returns-then-next-from-clause-found g c = λ tells.
    let whole : c.in_ok-whole.field-0 / 1024 ≡ length (g.S.Site.files c.args.site.now c.args.file) / 1024 = ap (λ n. n / 1024) (c.in_ok-whole.ensures.length tells) in
    let first = c.first_unwritten-next.ensures in
    let low : c.first_unwritten-next.result < c.args.count = search rules in (
      low,
      lacks (g.S.Site.files c.args.site.now) c.args.table.now c.args.file c.first_unwritten-next.result (c.in_ok-whole.field-0 / 1024) c.requires whole first.from (first.ends (search rules)),
      lacks_not (g.S.Site.files c.args.site.now) c.args.table.now c.args.file (c.in_ok-whole.field-0 / 1024) c.first_unwritten-next.result c.requires whole first.written,
    )

pub returns-else-next-from-clause-found : goal.returns-else-next-from-clause-found
returns-else-next-from-clause-found g c = λ tells b low.
    let whole : c.in_ok-whole.field-0 / 1024 ≡ length (g.S.Site.files c.args.site.now c.args.file) / 1024 = ap (λ n. n / 1024) (c.in_ok-whole.ensures.length tells) in
    let first = c.first_unwritten-next.ensures in
    let far : c.args.count ≤ c.first_unwritten-next.result = search rules in
    lacks_not (g.S.Site.files c.args.site.now) c.args.table.now c.args.file (c.in_ok-whole.field-0 / 1024) c.first_unwritten-next.result c.requires whole first.written b (omega (arith, low, far))
