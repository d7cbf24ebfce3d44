use Rattle.std.proofs.Common.{◌≡◌, ◌+◌, ◌-◌, ◌≢◌, ◌++◌, ◌∙◌, ap, refl, length, arith}
use Rattle.std.proofs.lemmas.Result.{on_ok_weaker}
use Rattle.dms_moments.specs.MomentLaws.{steps_on, steps_weaken}
use Rattle.dms_site.specs.Files.{Files}
use Rattle.dms_audfile.proofs.Blank.{blank_length}
use Rattle.dms_audfile.proofs.Growing.{content_step, next_step, none_grows, next_others}
use Rattle.dms_audfile.proofs.Group.{may_open, group_kept, group_blocks, kept_then, open_steps}
use Rattle.dms_audfile.proofs.sealing.seal_blocks.Goals as goal

pub returns-in_err-write_contents-clause-moments : goal.returns-in_err-write_contents-clause-moments
returns-in_err-write_contents-clause-moments g c first tells w settled =
    steps_weaken c.write_contents.ensures.moments (λ z x now step.
    none_grows _ _ first c.args.file c.args.count _ z x (content_step _ _ first c.args.file c.args.count _ _ w z x (λ h low high. settled h low high z now) step))

pub returns-in_err-start_next-clause-moments : goal.returns-in_err-start_next-clause-moments
returns-in_err-start_next-clause-moments g c first tells w settled =
    steps_on c.write_contents.ensures.moments c.start_next.ensures.moments
    (λ z y x was now one step. none_grows _ _ first c.args.file c.args.count _ z x
    (next_step _ _ first c.args.file c.args.count z y x (content_step _ _ first c.args.file c.args.count _ _ w z y (λ h low high. settled h low high z was) one) step))
    (λ z x now step. none_grows _ _ first c.args.file c.args.count _ z x (content_step _ _ first c.args.file c.args.count _ _ w z x (λ h low high. settled h low high z now) step))

pub start_next-requires-clause-size : goal.start_next-requires-clause-size
start_next-requires-clause-size g c = ap length c.requires.head ∙ blank_length _ _ _

pub returns-clause-moments : goal.returns-clause-moments
returns-clause-moments g c first tells w settled =
    let f = c.args.file in
    let n = c.args.count in
    let m = c.args.blocks in
    let old = g.S.Site.files c.args.site.now in
    let one = g.S.Site.files c.write_contents.new.site in
    let mid = g.S.Site.files c.start_next.new.site in
    let wrote = c.in_ok-write_contents.ensures.written tells in
    let last = λ (is : n + m ≡ c.args.total). c.in_ok-start_next.ensures.started tells (omega (arith, is, c.requires.some)) in
    let more = λ (ne : n + m ≢ c.args.total). c.in_ok-start_next.ensures.same tells (λ is. ne (omega (arith, is, c.requires.some))) in
    let next = next_others f (n + m - 1) c.args.total one mid _ (λ is. last (omega (arith, is, c.requires.some))) (λ ne. more (λ is. ne (omega (arith, is, c.requires.some)))) in
    let r = may_open c.args.total f n m (c.args.file - 9999) c.args.contents.now c.args.head.now old one mid c.requires.some c.requires.room c.requires.few w.some c.requires.last refl c.requires.head w.stands.long wrote last more in
    let kept = group_kept c.args.total _ first f n m c.args.contents.now old one mid w wrote next in
    let only = c.in_ok-start_next.ensures.durable tells (c.in_ok-write_contents.ensures.durable tells) in
    steps_on (steps_on c.write_contents.ensures.moments c.start_next.ensures.moments
    (λ z y x was now one step. next_step _ _ first f n z y x (content_step _ _ first f n _ old w z y (λ h low high. settled h low high z was) one) step)
    (λ z x now step. content_step _ _ first f n _ old w z x (λ h low high. settled h low high z now) step))
    (open_steps c.args.total _ first f n m c.args.contents.now mid _ _ (group_blocks f n m c.args.contents.now old one mid w.stands.long wrote next) (c.open_gates.ensures.moments c.args.total _ first tells kept.writes r only))
    (λ z y x was now k grows. kept_then c.args.total _ first f n _ z y x k grows)
    (λ z x now k. none_grows _ _ first f n _ z x k)

pub returns-clause-sealed : goal.returns-clause-sealed
returns-clause-sealed g c =
    on_ok_weaker c.open_gates.result (λ opened first k tells w far.
    let f = c.args.file in
    let n = c.args.count in
    let m = c.args.blocks in
    let old = g.S.Site.files c.args.site.now in
    let one = g.S.Site.files c.write_contents.new.site in
    let mid = g.S.Site.files c.start_next.new.site in
    let wrote = c.in_ok-write_contents.ensures.written tells in
    let last = λ (is : n + m ≡ c.args.total). c.in_ok-start_next.ensures.started tells (omega (arith, is, c.requires.some)) in
    let more = λ (ne : n + m ≢ c.args.total). c.in_ok-start_next.ensures.same tells (λ is. ne (omega (arith, is, c.requires.some))) in
    let next = next_others f (n + m - 1) c.args.total one mid _ (λ is. last (omega (arith, is, c.requires.some))) (λ ne. more (λ is. ne (omega (arith, is, c.requires.some)))) in
    let r = may_open c.args.total f n m (c.args.file - 9999) c.args.contents.now c.args.head.now old one mid c.requires.some c.requires.room c.requires.few w.some c.requires.last refl c.requires.head w.stands.long wrote last more in
    let kept = group_kept c.args.total _ first f n m c.args.contents.now old one mid w wrote next in
    (opened c.args.total _ first tells kept.writes r).trail k far
    ∙ (λ i. kept.trail k far i ++ group_blocks f n m c.args.contents.now old one mid w.stands.long wrote next i)) c.open_gates.ensures.opened

pub returns-clause-writes : goal.returns-clause-writes
returns-clause-writes g c =
    on_ok_weaker c.open_gates.result (λ opened first tells w.
    let f = c.args.file in
    let n = c.args.count in
    let m = c.args.blocks in
    let old = g.S.Site.files c.args.site.now in
    let one = g.S.Site.files c.write_contents.new.site in
    let mid = g.S.Site.files c.start_next.new.site in
    let wrote = c.in_ok-write_contents.ensures.written tells in
    let last = λ (is : n + m ≡ c.args.total). c.in_ok-start_next.ensures.started tells (omega (arith, is, c.requires.some)) in
    let more = λ (ne : n + m ≢ c.args.total). c.in_ok-start_next.ensures.same tells (λ is. ne (omega (arith, is, c.requires.some))) in
    let next = next_others f (n + m - 1) c.args.total one mid _ (λ is. last (omega (arith, is, c.requires.some))) (λ ne. more (λ is. ne (omega (arith, is, c.requires.some)))) in
    let r = may_open c.args.total f n m (c.args.file - 9999) c.args.contents.now c.args.head.now old one mid c.requires.some c.requires.room c.requires.few w.some c.requires.last refl c.requires.head w.stands.long wrote last more in
    let kept = group_kept c.args.total _ first f n m c.args.contents.now old one mid w wrote next in
    (opened c.args.total _ first tells kept.writes r).writes) c.open_gates.ensures.opened

pub returns-clause-others : goal.returns-clause-others
returns-clause-others g c =
    on_ok_weaker c.open_gates.result (λ others tells.
    let n = c.args.count in
    let m = c.args.blocks in
    let last = λ (is : n + m - 1 + 1 ≡ c.args.total). c.in_ok-start_next.ensures.started tells is in
    let more = λ (ne : n + m - 1 + 1 ≢ c.args.total). c.in_ok-start_next.ensures.same tells ne in
    λ h one two. others tells h one ∙ (next_others c.args.file (n + m - 1) c.args.total _ _ _ last more).others h two ∙ (c.in_ok-write_contents.ensures.written tells).step.others h one) c.open_gates.ensures.others

pub returns-clause-next : goal.returns-clause-next
returns-clause-next g c =
    on_ok_weaker c.open_gates.result (λ others tells more.
    others tells (c.args.file + 1) (omega arith)
    ∙ ap (λ (l : Files). l (c.args.file + 1)) (c.in_ok-start_next.ensures.same tells (λ is. more (omega (arith, is, c.requires.some))))
    ∙ (c.in_ok-write_contents.ensures.written tells).step.others (c.args.file + 1) (omega arith)) c.open_gates.ensures.others

pub returns-clause-durable : goal.returns-clause-durable
returns-clause-durable g c = on_ok_weaker c.open_gates.result (λ durable tells. durable tells (c.in_ok-start_next.ensures.durable tells (c.in_ok-write_contents.ensures.durable tells))) c.open_gates.ensures.durable
