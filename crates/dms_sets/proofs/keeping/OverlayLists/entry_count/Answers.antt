use Rattle.std.proofs.Common.{ℕ, ◌≡◌, ◌+◌, length, arith}
use Rattle.dms_block.specs.View.{seen_counts}
use Rattle.dms_lists.specs.declared.form.ListForm.TheVariants.{List as OneChain}
use Rattle.dms_lists.specs.Forms.{NoKept}
use Rattle.dms_sets.specs.KeepingLaws.{answer_of, below_write, calm_read, fails_write, list_read, usable_write, writes_of}
use Rattle.dms_sets.proofs.keeping.OverlayLists.entry_count.Goals as goal

pub returns-clause-answer : goal.returns-clause-answer
returns-clause-answer g c = answer_of OneChain c.args.structure c.args.width c.file_of.result (λ (o : ℕ) xs. o ≡ length xs) c.count.result c.args.self.now c.file_of.ensures c.count.ensures.count

pub returns-clause-list : goal.returns-clause-list
returns-clause-list g c = list_read (1 + seen_counts c.args.self.now c.file_of.result) c.count.result c.args.self.now c.count.new.over c.count.ensures.reads

pub returns-clause-usable : goal.returns-clause-usable
returns-clause-usable g c = usable_write (1 + seen_counts c.args.self.now c.file_of.result) 0 c.count.result c.args.self.now c.count.new.over (writes_of (1 + seen_counts c.args.self.now c.file_of.result) 0 c.count.result c.args.self.now c.count.new.over c.count.ensures.reads)

pub returns-clause-calm : goal.returns-clause-calm
returns-clause-calm g c = calm_read c.args.structure (1 + seen_counts c.args.self.now c.file_of.result) (NoKept OneChain c.args.self.now c.file_of.result c.args.width) c.count.result c.args.self.now c.count.new.over c.count.ensures.reads c.count.ensures.causes

pub returns-clause-fails : goal.returns-clause-fails
returns-clause-fails g c = fails_write (1 + seen_counts c.args.self.now c.file_of.result) 0 0 (NoKept OneChain c.args.self.now c.file_of.result c.args.width) c.count.result c.args.self.now c.count.new.over (omega arith) (writes_of (1 + seen_counts c.args.self.now c.file_of.result) 0 c.count.result c.args.self.now c.count.new.over c.count.ensures.reads) c.count.ensures.causes

pub returns-clause-below : goal.returns-clause-below
returns-clause-below g c = below_write OneChain c.args.structure c.args.width c.file_of.result c.count.result c.args.self.now c.count.new.over c.file_of.ensures c.count.ensures.causes
