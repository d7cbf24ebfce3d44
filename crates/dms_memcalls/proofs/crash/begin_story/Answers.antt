use Rattle.std.proofs.Common.{◌≡◌, ◌∙◌, rules, arith}
use Rattle.dms_memcalls.specs.Views.{view}
use Rattle.dms_memcalls.proofs.Struck.{came_none, came_next, came_all}
use Rattle.dms_memcalls.proofs.crash.begin_story.Goals as goal

pub loop-file-init : goal.loop-file-init
loop-file-init c = came_none _ _ c.new-story.ensures

pub loop-file-preserved : goal.loop-file-preserved
loop-file-preserved c =
    let named : c.in_ok-name.name.items ≡ c.bytes.result.now = search rules in
    let held : c.in_ok-bytes.bytes.items ≡ c.bytes-in-loop-file.result.now = search rules in
    came_next (view c.args.disk.now) c.loop-file.file _ _ c.in_ok-name.name c.in_ok-bytes.bytes c.loop-file.invariant c.in_ok-keep.ensures.kept (named ∙ c.bytes.ensures) (held ∙ c.bytes-in-loop-file.ensures)

pub returns : goal.returns
returns c =
    let same : c.in_ok-said.said.items ≡ c.args.disk.now.files.said.items = search rules in
    came_all (view c.args.disk.now) c.loop-file.file _ _ c.in_ok-said.said c.loop-file.invariant (omega (arith, c.loop-file-test.false, c.loop-file.auto.file-end)) c.in_ok-keep-2.ensures.kept same
