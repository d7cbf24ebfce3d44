use Rattle.std.proofs.Common.{◌≡◌, ◌+◌, filter, arith}
use Rattle.dms_block.specs.View.{seen_counts}
use Rattle.dms_ordlist.specs.Walks.{ends_with}
use Rattle.dms_lists.specs.declared.form.ListForm.TheVariants.{List as OneChain}
use Rattle.dms_lists.specs.Forms.{NoKept}
use Rattle.dms_sets.specs.KeepingLaws.{answer_of, below_write, calm_read, fails_write, list_read, usable_write, writes_of}
use Rattle.dms_sets.proofs.keeping.OverlayLists.ending.Goals as goal

pub returns-clause-found : goal.returns-clause-found
returns-clause-found g c = answer_of OneChain c.args.structure c.args.width c.file_of.result (λ o xs. o.items ≡ filter (ends_with c.args.tail.now) xs) c.ending.result c.args.self.now c.file_of.ensures c.ending.ensures.ending

pub returns-clause-list : goal.returns-clause-list
returns-clause-list g c = list_read (1 + seen_counts c.args.self.now c.file_of.result) c.ending.result c.args.self.now c.ending.new.over c.ending.ensures.reads

pub returns-clause-usable : goal.returns-clause-usable
returns-clause-usable g c = usable_write (1 + seen_counts c.args.self.now c.file_of.result) 0 c.ending.result c.args.self.now c.ending.new.over (writes_of (1 + seen_counts c.args.self.now c.file_of.result) 0 c.ending.result c.args.self.now c.ending.new.over c.ending.ensures.reads)

pub returns-clause-calm : goal.returns-clause-calm
returns-clause-calm g c = calm_read c.args.structure (1 + seen_counts c.args.self.now c.file_of.result) (NoKept OneChain c.args.self.now c.file_of.result c.args.width) c.ending.result c.args.self.now c.ending.new.over c.ending.ensures.reads c.ending.ensures.causes

pub returns-clause-fails : goal.returns-clause-fails
returns-clause-fails g c = fails_write (1 + seen_counts c.args.self.now c.file_of.result) 0 0 (NoKept OneChain c.args.self.now c.file_of.result c.args.width) c.ending.result c.args.self.now c.ending.new.over (omega arith) (writes_of (1 + seen_counts c.args.self.now c.file_of.result) 0 c.ending.result c.args.self.now c.ending.new.over c.ending.ensures.reads) c.ending.ensures.causes

pub returns-clause-below : goal.returns-clause-below
returns-clause-below g c = below_write OneChain c.args.structure c.args.width c.file_of.result c.ending.result c.args.self.now c.ending.new.over c.file_of.ensures c.ending.ensures.causes
