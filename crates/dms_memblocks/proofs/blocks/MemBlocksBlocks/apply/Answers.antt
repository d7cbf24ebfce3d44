use Rattle.std.proofs.Common.{◌≡◌, refl, ap, subst, length, List, arith}
use Rattle.dms_block.specs.declared.change.Change.{Change}
use Rattle.dms_memblocks.specs.Undoing.{PutAll, rows}
use Rattle.dms_memblocks.specs.UndoLaws.{passes, put_before, put_counts, put_mark, put_marked, put_points, put_since, stays}
use Rattle.dms_memblocks.proofs.blocks.MemBlocksBlocks.apply.Goals as goal

pub invariant_of-self-2-clause-small : goal.invariant_of-self-2-clause-small
invariant_of-self-2-clause-small c = c.in_default.ensures.ok.small

pub invariant_of-self-2-clause-before : goal.invariant_of-self-2-clause-before
invariant_of-self-2-clause-before c =
    let b = c.args.self.now in
    put_before b.made b.mark _ (rows b.files.items) _ b.log.items _ c.in_default.ensures.ok b.marked b.before

pub invariant_of-self-2-clause-since : goal.invariant_of-self-2-clause-since
invariant_of-self-2-clause-since c =
    let b = c.args.self.now in
    put_since b.made b.mark _ (rows b.files.items) _ b.log.items _ c.in_default.ensures.ok b.marked b.since

pub invariant_of-self-2-clause-marked : goal.invariant_of-self-2-clause-marked
invariant_of-self-2-clause-marked c =
    let b = c.args.self.now in
    put_marked b.made b.mark _ (rows b.files.items) _ b.log.items _ c.in_default.ensures.ok b.marked

pub returns-clause-counts : goal.returns-clause-counts
returns-clause-counts c =
    let b = c.args.self.now in
    let put = subst (λ (cs : List Change). PutAll b.made cs (rows b.files.items) b.log.items (rows c.put_all.new.files.items) c.put_all.new.log.items) c.as_slice-2.ensures c.in_default.ensures.ok in
    put_counts b.made c.args.changes.now.items.items (rows b.files.items) (rows c.put_all.new.files.items) b.log.items c.put_all.new.log.items put c.requires.fits

pub returns-clause-alters : goal.returns-clause-alters
returns-clause-alters c =
    let b = c.args.self.now in
    let put = c.in_default.ensures.ok in
    let points = put_points b.schema b.made b.made _ (rows b.files.items) (rows c.put_all.new.files.items) b.log.items c.put_all.new.log.items put (omega arith) in
    let mark = put_mark b.made _ (rows b.files.items) (rows c.put_all.new.files.items) b.log.items c.put_all.new.log.items put in
    let count : length c.as_slice.result.now ≡ length c.args.changes.now.items.items = ap (λ (l : List Change). length l) c.as_slice.ensures in
    record {
      passes = passes b.schema (rows b.files.items) (rows c.put_all.new.files.items) b.log.items c.put_all.new.log.items b.made b.durable b.durable _ _ put.many points (omega arith);
      stays = stays b.schema (rows b.files.items) (rows c.put_all.new.files.items) b.log.items c.put_all.new.log.items b.made b.durable b.durable _ _ mark points (omega arith);
      memory = λ e. absurd (cc e);
      uses = record { not_fewer = omega arith; reads = omega arith; not_less = omega (arith, c.saturating_add-self.ensures, count); spent = omega (arith, c.saturating_add-self.ensures, count); syncs = refl; outs = refl };
    }
