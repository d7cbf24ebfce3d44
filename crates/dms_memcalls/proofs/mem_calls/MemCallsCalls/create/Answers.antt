use Rattle.std.proofs.Common.{◌≡◌, rules}
use Rattle.dms_memcalls.proofs.Fresh.{made_none, made_grew, made_one, made_here, made_said}
use Rattle.dms_memcalls.proofs.mem_calls.MemCallsCalls.create.Goals as goal

pub returns-in_default-clause-made : goal.returns-in_default-clause-made
returns-in_default-clause-made c = let made = made_none _ _ c.args.name.now c.fail.ensures.events in (made.0, made.1, λ t. made.2, tt)

pub returns-in-Err-clause-made : goal.returns-in-Err-clause-made
returns-in-Err-clause-made c =
    let made = made_grew _ _ c.in-Ok.copy c.succeeds-done.result c.args.name.now (search rules) c.in-Err.ensures.grew in
    (made.0, made.1, λ t. made.2, tt)

pub returns-in-Err-clause-said : goal.returns-in-Err-clause-said
returns-in-Err-clause-said c = made_said _ _ c.in-Ok.copy c.succeeds-done.result c.in-Err.ensures.grew

pub returns-in-Ok-keep_disk-clause-made : goal.returns-in-Ok-keep_disk-clause-made
returns-in-Ok-keep_disk-clause-made c =
    let is : c.in-Ok.copy.items ≡ c.args.name.now = search rules in
    let kept = c.in-Ok-keep_disk.ensures.kept in
    let made = made_one _ _ c.in-Ok.copy c.succeeds-done.result c.args.name.now is kept.1 in (
      _,
      made.0,
      λ t. made.1,
      λ t. (c.args.self.now.story.alike.count, made_here _ _ c.in-Ok.copy c.succeeds-done.result c.args.name.now kept.1 kept.0 is c.requires.file (c.requires.absent t)),
    )

pub returns-in-Ok-keep_disk-clause-said : goal.returns-in-Ok-keep_disk-clause-said
returns-in-Ok-keep_disk-clause-said c = made_said _ _ c.in-Ok.copy c.succeeds-done.result c.in-Ok-keep_disk.ensures.grew
