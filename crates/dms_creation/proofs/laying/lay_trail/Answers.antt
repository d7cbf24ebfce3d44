use Rattle.std.proofs.Common.{◌∙◌}
use Rattle.dms_creation.proofs.Cleared.{keeps_then, keeps_first}
use Rattle.dms_creation.proofs.LaidMore.{laid_first, keeps_sealing, stands_apart, stands_all}
use Rattle.dms_creation.proofs.Parts.{control_size}
use Rattle.dms_creation.proofs.laying.lay_trail.Goals as goal

pub lay_entry-requires-clause-size : goal.lay_entry-requires-clause-size
lay_entry-requires-clause-size g c = control_size c.args.counts.now c.requires.size

pub returns-in_err-lay_parts-clause-moments : goal.returns-in_err-lay_parts-clause-moments
returns-in_err-lay_parts-clause-moments g c tells clear =
    let old = g.S.Site.files c.args.site.now in
    let first = laid_first _ c.start.new.self _ _ _ (c.in_ok-start.ensures.ends tells) (c.in_ok-start.ensures.trail tells) (c.in_ok-start.ensures.entries tells) c.in_ok-start.ensures.kind.0 (c.in_ok-start.ensures.others tells) clear (c.in_ok-start.ensures.place.0 ∙ c.requires.front) in
    keeps_then (keeps_first c.start.ensures.moments) (c.lay_parts.ensures.moments tells old first)

pub returns-in_err-lay_entry-clause-moments : goal.returns-in_err-lay_entry-clause-moments
returns-in_err-lay_entry-clause-moments g c tells clear =
    let old = g.S.Site.files c.args.site.now in
    let first = laid_first _ c.start.new.self _ _ _ (c.in_ok-start.ensures.ends tells) (c.in_ok-start.ensures.trail tells) (c.in_ok-start.ensures.entries tells) c.in_ok-start.ensures.kind.0 (c.in_ok-start.ensures.others tells) clear (c.in_ok-start.ensures.place.0 ∙ c.requires.front) in
    let parts = c.in_ok-lay_parts.ensures.laid tells old first in
    keeps_then (keeps_then (keeps_first c.start.ensures.moments) (c.lay_parts.ensures.moments tells old first)) (c.lay_entry.ensures.moments tells _ old parts)

pub returns-in-Ok-clause-moments : goal.returns-in-Ok-clause-moments
returns-in-Ok-clause-moments g c tells clear =
    let old = g.S.Site.files c.args.site.now in
    let first = laid_first _ c.start.new.self _ _ _ (c.in_ok-start.ensures.ends tells) (c.in_ok-start.ensures.trail tells) (c.in_ok-start.ensures.entries tells) c.in_ok-start.ensures.kind.0 (c.in_ok-start.ensures.others tells) clear (c.in_ok-start.ensures.place.0 ∙ c.requires.front) in
    let parts = c.in_ok-lay_parts.ensures.laid tells old first in
    let last = c.in_ok-lay_entry.ensures.laid tells _ old parts in
    keeps_then (keeps_then (keeps_then (keeps_first c.start.ensures.moments) (c.lay_parts.ensures.moments tells old first)) (c.lay_entry.ensures.moments tells _ old parts)) (keeps_sealing _ _ last.waiting (c.seal.ensures.moments 10001 last.waiting tells last.ends))

pub returns-in-Err-clause-moments : goal.returns-in-Err-clause-moments
returns-in-Err-clause-moments g c tells clear =
    let old = g.S.Site.files c.args.site.now in
    let first = laid_first _ c.start.new.self _ _ _ (c.in_ok-start.ensures.ends tells) (c.in_ok-start.ensures.trail tells) (c.in_ok-start.ensures.entries tells) c.in_ok-start.ensures.kind.0 (c.in_ok-start.ensures.others tells) clear (c.in_ok-start.ensures.place.0 ∙ c.requires.front) in
    let parts = c.in_ok-lay_parts.ensures.laid tells old first in
    let last = c.in_ok-lay_entry.ensures.laid tells _ old parts in
    keeps_then (keeps_then (keeps_then (keeps_first c.start.ensures.moments) (c.lay_parts.ensures.moments tells old first)) (c.lay_entry.ensures.moments tells _ old parts)) (keeps_sealing _ _ last.waiting (c.seal.ensures.moments 10001 last.waiting tells last.ends))

pub returns-in-Ok-clause-stands : goal.returns-in-Ok-clause-stands
returns-in-Ok-clause-stands g c tells clear =
    let old = g.S.Site.files c.args.site.now in
    let first = laid_first _ c.start.new.self _ _ _ (c.in_ok-start.ensures.ends tells) (c.in_ok-start.ensures.trail tells) (c.in_ok-start.ensures.entries tells) c.in_ok-start.ensures.kind.0 (c.in_ok-start.ensures.others tells) clear (c.in_ok-start.ensures.place.0 ∙ c.requires.front) in
    let parts = c.in_ok-lay_parts.ensures.laid tells old first in
    let last = c.in_ok-lay_entry.ensures.laid tells _ old parts in
    stands_all c.lay_entry.new.end c.seal.new.self _ old _ _ _ _ last (c.in-Ok.ensures.sealed 10001 last.waiting tells last.ends) (c.in-Ok.ensures.ends 10001 last.waiting tells last.ends) (c.in-Ok.ensures.grown 10001 last.waiting tells last.ends) c.in-Ok.ensures.kind.0 c.in-Ok.ensures.place.0 (c.in-Ok.ensures.before tells) (c.in-Ok.ensures.behind tells) c.args.end.now.tag c.args.end.now.total
    (c.in-Ok.ensures.kind.1 ∙ c.in_ok-lay_entry.ensures.kind.1 ∙ c.in_ok-lay_parts.ensures.kind.1 ∙ c.in_ok-start.ensures.kind.1) (c.in_ok-lay_entry.ensures.kind.0 ∙ c.in_ok-lay_parts.ensures.kind.0 ∙ c.in_ok-start.ensures.kind.0)

pub returns-in-Ok-clause-apart : goal.returns-in-Ok-clause-apart
returns-in-Ok-clause-apart g c tells clear =
    let old = g.S.Site.files c.args.site.now in
    let first = laid_first _ c.start.new.self _ _ _ (c.in_ok-start.ensures.ends tells) (c.in_ok-start.ensures.trail tells) (c.in_ok-start.ensures.entries tells) c.in_ok-start.ensures.kind.0 (c.in_ok-start.ensures.others tells) clear (c.in_ok-start.ensures.place.0 ∙ c.requires.front) in
    let parts = c.in_ok-lay_parts.ensures.laid tells old first in
    let last = c.in_ok-lay_entry.ensures.laid tells _ old parts in
    stands_apart c.lay_entry.new.end c.seal.new.self _ old _ _ _ _ last (c.in-Ok.ensures.sealed 10001 last.waiting tells last.ends) (c.in-Ok.ensures.ends 10001 last.waiting tells last.ends) (c.in-Ok.ensures.grown 10001 last.waiting tells last.ends) c.in-Ok.ensures.kind.0 c.in-Ok.ensures.place.0 (c.in-Ok.ensures.before tells) (c.in-Ok.ensures.behind tells)

pub returns-in-Ok-clause-durable : goal.returns-in-Ok-clause-durable
returns-in-Ok-clause-durable g c = c.in-Ok.ensures.durable c.in_ok-lay_entry.ensures.waits

pub returns-in_err-lay_parts-clause-same_site : goal.returns-in_err-lay_parts-clause-same_site
returns-in_err-lay_parts-clause-same_site g c = g.met.S.Site.same_then _ _ _ c.start.ensures.same_site c.lay_parts.ensures.same_site

pub returns-in_err-lay_entry-clause-same_site : goal.returns-in_err-lay_entry-clause-same_site
returns-in_err-lay_entry-clause-same_site g c = g.met.S.Site.same_then _ _ _ (g.met.S.Site.same_then _ _ _ c.start.ensures.same_site c.lay_parts.ensures.same_site) c.lay_entry.ensures.same_site

pub returns-in-Ok-clause-same_site : goal.returns-in-Ok-clause-same_site
returns-in-Ok-clause-same_site g c = g.met.S.Site.same_then _ _ _ (g.met.S.Site.same_then _ _ _ (g.met.S.Site.same_then _ _ _ c.start.ensures.same_site c.lay_parts.ensures.same_site) c.lay_entry.ensures.same_site) c.seal.ensures.same_site

pub returns-in-Err-clause-same_site : goal.returns-in-Err-clause-same_site
returns-in-Err-clause-same_site g c = g.met.S.Site.same_then _ _ _ (g.met.S.Site.same_then _ _ _ (g.met.S.Site.same_then _ _ _ c.start.ensures.same_site c.lay_parts.ensures.same_site) c.lay_entry.ensures.same_site) c.seal.ensures.same_site
