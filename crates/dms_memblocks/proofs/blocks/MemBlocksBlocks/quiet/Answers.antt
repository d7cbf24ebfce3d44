use Rattle.std.proofs.Common.{◌≤◌, ◌+◌, refl, sym, subst, length, arith}
use Rattle.dms_memblocks.specs.Undoing.{AreBefore, AreSince, rows}
use Rattle.dms_memblocks.specs.UndoLaws.{all_before, quiet_mark, quiet_points, runs_quiet, take_all, drop_all}
use Rattle.dms_memblocks.proofs.blocks.MemBlocksBlocks.quiet.Goals as goal

pub invariant_of-self-clause-before : goal.invariant_of-self-clause-before
invariant_of-self-clause-before c =
    let b = c.args.self.now in
    let all : length b.log.items ≤ c.len-self.result = omega (arith, c.len-self.ensures) in
    subst (λ l. AreBefore (b.made + 1) l) (sym (take_all c.len-self.result b.log.items all)) (all_before b.made b.mark b.log.items b.before b.since)

pub invariant_of-self-clause-since : goal.invariant_of-self-clause-since
invariant_of-self-clause-since c =
    let b = c.args.self.now in
    let all : length b.log.items ≤ c.len-self.result = omega (arith, c.len-self.ensures) in
    subst (λ l. AreSince (b.made + 1) l) (sym (drop_all c.len-self.result b.log.items all)) tt

pub returns-clause-made : goal.returns-clause-made
returns-clause-made c =
    let b = c.args.self.now in
    record {
      sound = tt;
      next = λ room. refl;
      same = λ room. record { counts = refl; content = λ t. refl };
      mark = λ room t. quiet_mark b.made b.mark (rows b.files.items) b.log.items b.before b.since;
      points = λ t room. (quiet_points b.schema b.made b.mark (rows b.files.items) b.log.items b.before b.since, omega arith);
    }

pub returns-clause-leaves : goal.returns-clause-leaves
returns-clause-leaves c = λ t room.
    let b = c.args.self.now in
    runs_quiet b.schema b.made b.mark (rows b.files.items) b.log.items b.durable b.durable_low b.before b.since
