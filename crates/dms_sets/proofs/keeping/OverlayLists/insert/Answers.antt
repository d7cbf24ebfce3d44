use Rattle.std.proofs.Common.{◌≡◌, ◌+◌, ◌<◌, Bool, IsTrue, length, sym, subst, arith}
use Rattle.std.specs.Prelude.{not}
use Rattle.std.proofs.lemmas.Result.{on_ok_weaker}
use Rattle.dms_block.specs.declared.block_fault.BlockFault.TheVariants.{Damaged}
use Rattle.dms_block.specs.View.{seen_counts, under}
use Rattle.dms_chain.specs.Lists.{with_entry, has_entry}
use Rattle.dms_lists.specs.Forms.{NoKept}
use Rattle.dms_sets.specs.KeepingLaws.{answer_of, below_long, below_write, calm_write, fails_long, fails_write, roomy_after, usable_write}
use Rattle.dms_sets.proofs.keeping.OverlayLists.insert.Goals as goal

pub returns-then-count-gt1048576-clause-fails : goal.returns-then-count-gt1048576-clause-fails
returns-then-count-gt1048576-clause-fails g c = fails_long g.met.B.Blocks.same_again c.file_of-file.result 0 c.args.self.now

pub returns-then-count-gt1048576-clause-below : goal.returns-then-count-gt1048576-clause-below
returns-then-count-gt1048576-clause-below g c =
    let a = c.args.self.now in
    let long : 1048576 < seen_counts a c.file_of-file.result = omega (arith, c.count.ensures, c.if-count-gt1048576.true) in
    below_long c.args.form c.args.structure (length c.args.entry.now) c.file_of-file.result (Damaged c.file_of-file.result 0) a c.file_of-file.ensures (g.met.B.Blocks.agrees a.below c.requires.usable.0) long

pub insert-requires : goal.insert-requires
insert-requires g c = record {
  may = record {
    sound = c.requires.usable.0;
    owned = subst (λ f. IsTrue ((under c.args.self.now).owns f)) (sym c.file_of-file.ensures) c.requires.usable.1;
    room = omega (arith, c.count.ensures, c.if-count-gt1048576.false);
    wide = record { low = c.requires.width.0; most = c.requires.width.1 };
  };
}

pub returns-clause-answer : goal.returns-clause-answer
returns-clause-answer g c = answer_of c.args.form c.args.structure (length c.args.entry.now) c.file_of-file.result (λ (b : Bool) xs. b ≡ not (has_entry c.args.entry.now xs)) c.insert.result c.args.self.now c.file_of-file.ensures c.insert.ensures.answer

pub returns-clause-list : goal.returns-clause-list
returns-clause-list g c =
    let a = c.args.self.now in
    let b = c.insert.new.over in
    roomy_after c.args.form (with_entry c.args.entry.now) c.args.structure (length c.args.entry.now) c.file_of-file.result a b c.file_of-file.ensures (g.met.B.Blocks.agrees a.below c.requires.usable.0) (λ sound. g.met.B.Blocks.agrees b.below sound)
    (22 + seen_counts c.args.self.now c.file_of-file.result) 22 c.insert.result c.insert.ensures.writes c.insert.ensures.list c.insert.ensures.room c.insert.ensures.others (on_ok_weaker c.insert.result (λ grows. grows.others) c.insert.ensures.grows)

pub returns-clause-usable : goal.returns-clause-usable
returns-clause-usable g c = usable_write (22 + seen_counts c.args.self.now c.file_of-file.result) 22 c.insert.result c.args.self.now c.insert.new.over c.insert.ensures.writes

pub returns-clause-calm : goal.returns-clause-calm
returns-clause-calm g c =
    calm_write c.args.structure (22 + seen_counts c.args.self.now c.file_of-file.result) 22 c.file_of-file.result (NoKept c.args.form c.args.self.now c.file_of-file.result (length c.args.entry.now)) c.insert.result c.args.self.now c.insert.new.over (omega arith) c.file_of-file.ensures c.insert.ensures.writes c.insert.ensures.causes c.insert.ensures.others
    (on_ok_weaker c.insert.result (λ grows. grows.others) c.insert.ensures.grows)

pub returns-clause-fails : goal.returns-clause-fails
returns-clause-fails g c = fails_write (22 + seen_counts c.args.self.now c.file_of-file.result) 22 1 (NoKept c.args.form c.args.self.now c.file_of-file.result (length c.args.entry.now)) c.insert.result c.args.self.now c.insert.new.over (omega arith) c.insert.ensures.writes c.insert.ensures.causes

pub returns-clause-below : goal.returns-clause-below
returns-clause-below g c = below_write c.args.form c.args.structure (length c.args.entry.now) c.file_of-file.result c.insert.result c.args.self.now c.insert.new.over c.file_of-file.ensures c.insert.ensures.causes
