use Rattle.std.proofs.Common.{◌∙◌, ◌&&◌, Bool, subst, ap, refl}
use Rattle.std.specs.Prelude.{not}
use Rattle.dms_remote.specs.Copy.{EndsCopy}
use Rattle.dms_remote.specs.Gate.{gated}
use Rattle.dms_remote.specs.Kinds.{is_first}
use Rattle.dms_remote.specs.Turn.{opens_behind}
use Rattle.dms_remote.proofs.Followed.{kind_of, are_kinds, takes_next, keeps_up}
use Rattle.dms_remote.proofs.Gates.{turn_by}
use Rattle.dms_remote.proofs.follower.Follower.put.Goals as goal

pub returns-after-opened-clause-sealed : goal.returns-after-opened-clause-sealed
returns-after-opened-clause-sealed g c head blocks tells up next reads =
    let s = c.args.self in
    let end = s.log.end in
    let files = g.S.Site.files s.log.site in
    let block = c.args.block.now in
    let places = c.args.places.now in
    let are = are_kinds end s.trace s.entries s.opened head blocks block files places c.requires.size up reads c.kinds_in-kinds.result c.kinds_in-kinds.ensures.control c.kinds_in-kinds.ensures.begin in
    let takes = takes_next end s.trace s.entries s.opened head blocks block files places c.requires.size up reads next in
    let first = ap (λ (t : Bool). t && not s.opened) (c.kinds_in-kinds.ensures.first ∙ kind_of end s.trace s.entries s.opened head blocks block files places c.requires.size up reads is_first) in
    keeps_up end s.trace s.entries s.opened head blocks block files places c.requires.size up reads c.in-Ok.log.end (record { history = c.seal_next.new.history; schemas = s.trace.schemas }) c.note_block.new.trace (gated (opens_behind s.opened block) head) (g.S.Site.files c.in-Ok.log.site)
    c.in-Ok.ensures.kind.0 c.seal_next.ensures.kept refl c.in-Ok-note_block.ensures.added
    (subst (λ (t : Bool). EndsCopy c.in-Ok.log.end (gated t head) blocks block (g.S.Site.files c.in-Ok.log.site)) first (c.in-Ok.ensures.sealed head blocks tells takes are))

pub returns-after-opened-clause-moments : goal.returns-after-opened-clause-moments
returns-after-opened-clause-moments g c head blocks tells up next reads only =
    let s = c.args.self in
    let end = s.log.end in
    let files = g.S.Site.files s.log.site in
    let block = c.args.block.now in
    let places = c.args.places.now in
    let are = are_kinds end s.trace s.entries s.opened head blocks block files places c.requires.size up reads c.kinds_in-kinds.result c.kinds_in-kinds.ensures.control c.kinds_in-kinds.ensures.begin in
    let takes = takes_next end s.trace s.entries s.opened head blocks block files places c.requires.size up reads next in
    let first = ap (λ (t : Bool). t && not s.opened) (c.kinds_in-kinds.ensures.first ∙ kind_of end s.trace s.entries s.opened head blocks block files places c.requires.size up reads is_first) in
    turn_by end end _ _ head blocks block refl first (c.in-Ok.ensures.moments head blocks tells takes are only)

pub returns-in-Err-note_block-clause-stopped : goal.returns-in-Err-note_block-clause-stopped
returns-in-Err-note_block-clause-stopped g c head blocks tells up next reads only =
    let s = c.args.self in
    let end = s.log.end in
    let files = g.S.Site.files s.log.site in
    let block = c.args.block.now in
    let places = c.args.places.now in
    let are = are_kinds end s.trace s.entries s.opened head blocks block files places c.requires.size up reads c.kinds_in-kinds.result c.kinds_in-kinds.ensures.control c.kinds_in-kinds.ensures.begin in
    let takes = takes_next end s.trace s.entries s.opened head blocks block files places c.requires.size up reads next in
    let first = ap (λ (t : Bool). t && not s.opened) (c.kinds_in-kinds.ensures.first ∙ kind_of end s.trace s.entries s.opened head blocks block files places c.requires.size up reads is_first) in
    turn_by end end _ _ head blocks block refl first (c.in-Ok.ensures.moments head blocks tells takes are only)

pub returns-in-Err-clause-stopped : goal.returns-in-Err-clause-stopped
returns-in-Err-clause-stopped g c head blocks tells up next reads only =
    let s = c.args.self in
    let end = s.log.end in
    let files = g.S.Site.files s.log.site in
    let block = c.args.block.now in
    let places = c.args.places.now in
    let are = are_kinds end s.trace s.entries s.opened head blocks block files places c.requires.size up reads c.kinds_in-kinds.result c.kinds_in-kinds.ensures.control c.kinds_in-kinds.ensures.begin in
    let takes = takes_next end s.trace s.entries s.opened head blocks block files places c.requires.size up reads next in
    let first = ap (λ (t : Bool). t && not s.opened) (c.kinds_in-kinds.ensures.first ∙ kind_of end s.trace s.entries s.opened head blocks block files places c.requires.size up reads is_first) in
    turn_by end end _ _ head blocks block refl first (c.in-Err.ensures.stopped head blocks tells takes are only)
