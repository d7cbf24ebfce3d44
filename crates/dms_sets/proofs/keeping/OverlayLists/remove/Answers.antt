use Rattle.std.proofs.Common.{ℕ, ◌≡◌, ◌+◌, ◌<◌, Bool, IsTrue, length, ap, sym, subst, arith}
use Rattle.std.proofs.lemmas.Result.{on_ok_weaker}
use Rattle.dms_block.specs.declared.block_fault.BlockFault.TheVariants.{Damaged}
use Rattle.dms_block.specs.View.{seen_counts, under}
use Rattle.dms_chain.specs.Lists.{without, has_entry}
use Rattle.dms_lists.specs.Forms.{NoKept}
use Rattle.dms_sets.specs.KeepingLaws.{answer_of, below_long, below_write, calm_write, fails_long, fails_write, only_after, usable_write}
use Rattle.dms_sets.proofs.keeping.OverlayLists.remove.Goals as goal

pub returns-then-count-gt1048576-clause-fails : goal.returns-then-count-gt1048576-clause-fails
returns-then-count-gt1048576-clause-fails g c = fails_long g.met.B.Blocks.same_again c.file_of-file.result 0 c.args.self.now

pub returns-then-count-gt1048576-clause-below : goal.returns-then-count-gt1048576-clause-below
returns-then-count-gt1048576-clause-below g c =
    let a = c.args.self.now in
    let long : 1048576 < seen_counts a c.file_of-file.result = omega (arith, c.count.ensures, c.if-count-gt1048576.true) in
    below_long c.args.form c.args.structure (length c.args.entry.now) c.file_of-file.result (Damaged c.file_of-file.result 0) a c.file_of-file.ensures (g.met.B.Blocks.agrees a.below c.requires.usable.0) long

pub remove-requires : goal.remove-requires
remove-requires g c = record {
  may = record {
    sound = c.requires.usable.0;
    owned = subst (λ f. IsTrue ((under c.args.self.now).owns f)) (sym c.file_of-file.ensures) c.requires.usable.1;
    room = omega (arith, c.count.ensures, c.if-count-gt1048576.false);
    wide = record { low = c.requires.width.0; most = c.requires.width.1 };
  };
}

pub returns-clause-answer : goal.returns-clause-answer
returns-clause-answer g c = answer_of c.args.form c.args.structure (length c.args.entry.now) c.file_of-file.result (λ (b : Bool) xs. b ≡ has_entry c.args.entry.now xs) c.remove.result c.args.self.now c.file_of-file.ensures c.remove.ensures.answer

pub returns-clause-list : goal.returns-clause-list
returns-clause-list g c =
    let a = c.args.self.now in
    let b = c.remove.new.over in
    only_after c.args.form (without c.args.entry.now) c.args.structure (length c.args.entry.now) c.file_of-file.result a b c.file_of-file.ensures (g.met.B.Blocks.agrees a.below c.requires.usable.0) (λ sound. g.met.B.Blocks.agrees b.below sound)
    (20 + seen_counts c.args.self.now c.file_of-file.result) 20 c.remove.result c.remove.ensures.writes c.remove.ensures.list c.remove.ensures.counts c.remove.ensures.others

pub returns-clause-usable : goal.returns-clause-usable
returns-clause-usable g c = usable_write (20 + seen_counts c.args.self.now c.file_of-file.result) 20 c.remove.result c.args.self.now c.remove.new.over c.remove.ensures.writes

pub returns-clause-calm : goal.returns-clause-calm
returns-clause-calm g c =
    calm_write c.args.structure (20 + seen_counts c.args.self.now c.file_of-file.result) 20 c.file_of-file.result (NoKept c.args.form c.args.self.now c.file_of-file.result (length c.args.entry.now)) c.remove.result c.args.self.now c.remove.new.over (omega arith) c.file_of-file.ensures c.remove.ensures.writes c.remove.ensures.causes c.remove.ensures.others
    (on_ok_weaker c.remove.result (λ same h off. ap (λ (k : ℕ → ℕ). k h) same) c.remove.ensures.counts)

pub returns-clause-fails : goal.returns-clause-fails
returns-clause-fails g c = fails_write (20 + seen_counts c.args.self.now c.file_of-file.result) 20 1 (NoKept c.args.form c.args.self.now c.file_of-file.result (length c.args.entry.now)) c.remove.result c.args.self.now c.remove.new.over (omega arith) c.remove.ensures.writes c.remove.ensures.causes

pub returns-clause-below : goal.returns-clause-below
returns-clause-below g c = below_write c.args.form c.args.structure (length c.args.entry.now) c.file_of-file.result c.remove.result c.args.self.now c.remove.new.over c.file_of-file.ensures c.remove.ensures.causes
