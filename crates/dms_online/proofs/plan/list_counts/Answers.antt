use Rattle.std.proofs.Common.{◌≡◌, ◌+◌, ◌++◌, ◌∷◌, [], get_or, refl, rules}
use Rattle.dms_history.specs.declared.event.FileCount.{FileCount}
use Rattle.dms_online.proofs.Listed.{listed_more}
use Rattle.dms_online.proofs.plan.list_counts.Goals as goal

pub loop-number-preserved : goal.loop-number-preserved
loop-number-preserved c =
    let x : FileCount = record { file = 30001 + c.loop-number.number; blocks = get_or c.args.counts.now c.loop-number.number 0 } in
    let pushed : c.push.new.self.items ≡ c.loop-number.list.items ++ x ∷ [] = search rules in
    listed_more c.args.counts.now c.loop-number.number x c.loop-number.list.items c.push.new.self.items c.loop-number-test.true refl c.loop-number.invariant pushed
