use Rattle.std.proofs.Common.{◌≡◌, ◌∙◌, ◌+◌, ap, sym, subst, refl, length, arith}
use Rattle.dms_audfile.specs.Header.{tag_said}
use Rattle.dms_audfile.specs.Sealing.{IsWrittenUpTo}
use Rattle.dms_audfile.proofs.Laying.{written_back}
use Rattle.dms_audfile.proofs.Ended.{grows_as}
use Rattle.dms_audfile.proofs.audit_end.AuditEnd.put_blocks.Goals as goal

pub returns-in_err-seal_blocks-clause-moments : goal.returns-in_err-seal_blocks-clause-moments
returns-in_err-seal_blocks-clause-moments g c first tells w settled =
    let s = c.args.self.now in
    let size : length c.make_header.new.head ≡ s.head.len = omega (arith, c.make_header.auto.head, c.deref_mut.ensures.len) in
    let head : c.deref.result.now ≡ c.make_header.new.head = c.deref.ensures.value ∙ written_back s.head.len c.make_header.new.head s.head.items size in
    let tag_is : tag_said c.deref.result.now ≡ s.tag = ap tag_said head ∙ c.make_header.ensures.tag in
    let old = g.S.Site.files c.args.site.now in
    let was : IsWrittenUpTo s.total (tag_said c.deref.result.now) first s.file s.count old = subst (λ k. IsWrittenUpTo s.total k first s.file s.count old) (sym tag_is) w in
    grows_as (tag_said c.deref.result.now) s.tag s.total first s.file _ _ _ _ tag_is refl (c.seal_blocks.ensures.moments first tells was settled)

pub returns-then-self-blocks-clause-moments : goal.returns-then-self-blocks-clause-moments
returns-then-self-blocks-clause-moments g c first tells w settled =
    let s = c.args.self.now in
    let size : length c.make_header.new.head ≡ s.head.len = omega (arith, c.make_header.auto.head, c.deref_mut.ensures.len) in
    let head : c.deref.result.now ≡ c.make_header.new.head = c.deref.ensures.value ∙ written_back s.head.len c.make_header.new.head s.head.items size in
    let tag_is : tag_said c.deref.result.now ≡ s.tag = ap tag_said head ∙ c.make_header.ensures.tag in
    let old = g.S.Site.files c.args.site.now in
    let was : IsWrittenUpTo s.total (tag_said c.deref.result.now) first s.file s.count old = subst (λ k. IsWrittenUpTo s.total k first s.file s.count old) (sym tag_is) w in
    grows_as (tag_said c.deref.result.now) s.tag s.total first s.file _ _ _ _ tag_is refl (c.seal_blocks.ensures.moments first tells was settled)

pub returns-else-self-blocks-clause-moments : goal.returns-else-self-blocks-clause-moments
returns-else-self-blocks-clause-moments g c first tells w settled =
    let s = c.args.self.now in
    let size : length c.make_header.new.head ≡ s.head.len = omega (arith, c.make_header.auto.head, c.deref_mut.ensures.len) in
    let head : c.deref.result.now ≡ c.make_header.new.head = c.deref.ensures.value ∙ written_back s.head.len c.make_header.new.head s.head.items size in
    let tag_is : tag_said c.deref.result.now ≡ s.tag = ap tag_said head ∙ c.make_header.ensures.tag in
    let old = g.S.Site.files c.args.site.now in
    let was : IsWrittenUpTo s.total (tag_said c.deref.result.now) first s.file s.count old = subst (λ k. IsWrittenUpTo s.total k first s.file s.count old) (sym tag_is) w in
    grows_as (tag_said c.deref.result.now) s.tag s.total first s.file _ _ _ _ tag_is refl (c.seal_blocks.ensures.moments first tells was settled)

pub returns-then-self-blocks-clause-writes : goal.returns-then-self-blocks-clause-writes
returns-then-self-blocks-clause-writes g c first tells w =
    let s = c.args.self.now in
    let size : length c.make_header.new.head ≡ s.head.len = omega (arith, c.make_header.auto.head, c.deref_mut.ensures.len) in
    let head : c.deref.result.now ≡ c.make_header.new.head = c.deref.ensures.value ∙ written_back s.head.len c.make_header.new.head s.head.items size in
    let tag_is : tag_said c.deref.result.now ≡ s.tag = ap tag_said head ∙ c.make_header.ensures.tag in
    let old = g.S.Site.files c.args.site.now in
    let was : IsWrittenUpTo s.total (tag_said c.deref.result.now) first s.file s.count old = subst (λ k. IsWrittenUpTo s.total k first s.file s.count old) (sym tag_is) w in
    subst (λ k. IsWrittenUpTo s.total k first (s.file + 1) 0 (g.S.Site.files c.seal_blocks.new.site)) tag_is ((c.in_ok-seal_blocks.ensures.writes first tells was).1 c.if-self-blocks.true)

pub returns-else-self-blocks-clause-writes : goal.returns-else-self-blocks-clause-writes
returns-else-self-blocks-clause-writes g c first tells w =
    let s = c.args.self.now in
    let size : length c.make_header.new.head ≡ s.head.len = omega (arith, c.make_header.auto.head, c.deref_mut.ensures.len) in
    let head : c.deref.result.now ≡ c.make_header.new.head = c.deref.ensures.value ∙ written_back s.head.len c.make_header.new.head s.head.items size in
    let tag_is : tag_said c.deref.result.now ≡ s.tag = ap tag_said head ∙ c.make_header.ensures.tag in
    let old = g.S.Site.files c.args.site.now in
    let was : IsWrittenUpTo s.total (tag_said c.deref.result.now) first s.file s.count old = subst (λ k. IsWrittenUpTo s.total k first s.file s.count old) (sym tag_is) w in
    subst (λ k. IsWrittenUpTo s.total k first s.file (s.count + c.args.blocks) (g.S.Site.files c.seal_blocks.new.site)) tag_is ((c.in_ok-seal_blocks.ensures.writes first tells was).0 c.if-self-blocks.false)
