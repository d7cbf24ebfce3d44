use Rattle.std.proofs.Common.{ℕ, ◌≡◌, List, Some, length, arith}
use Rattle.std.specs.declared.option.Option.{Option}
use Rattle.dms_block.specs.View.{seen_counts}
use Rattle.dms_chain.specs.Lists.{first_from}
use Rattle.dms_lists.specs.Forms.{NoKept, look_reads}
use Rattle.dms_sets.specs.KeepingLaws.{answer_of, below_write, calm_read, fails_write, list_read, usable_write, writes_of}
use Rattle.dms_sets.proofs.keeping.OverlayLists.first_from.Goals as goal

pub returns-clause-found : goal.returns-clause-found
returns-clause-found g c = answer_of c.args.form c.args.structure (length c.args.from.now) c.file_of.result (λ (o : Option (List ℕ)) xs. o ≡ first_from (Some c.args.from.now) xs) c.first_from.result c.args.self.now c.file_of.ensures c.first_from.ensures.first

pub returns-clause-list : goal.returns-clause-list
returns-clause-list g c = list_read (look_reads c.args.form (seen_counts c.args.self.now c.file_of.result)) c.first_from.result c.args.self.now c.first_from.new.over c.first_from.ensures.reads

pub returns-clause-usable : goal.returns-clause-usable
returns-clause-usable g c = usable_write (look_reads c.args.form (seen_counts c.args.self.now c.file_of.result)) 0 c.first_from.result c.args.self.now c.first_from.new.over (writes_of (look_reads c.args.form (seen_counts c.args.self.now c.file_of.result)) 0 c.first_from.result c.args.self.now c.first_from.new.over c.first_from.ensures.reads)

pub returns-clause-calm : goal.returns-clause-calm
returns-clause-calm g c = calm_read c.args.structure (look_reads c.args.form (seen_counts c.args.self.now c.file_of.result)) (NoKept c.args.form c.args.self.now c.file_of.result (length c.args.from.now)) c.first_from.result c.args.self.now c.first_from.new.over c.first_from.ensures.reads c.first_from.ensures.causes

pub returns-clause-fails : goal.returns-clause-fails
returns-clause-fails g c = fails_write (look_reads c.args.form (seen_counts c.args.self.now c.file_of.result)) 0 0 (NoKept c.args.form c.args.self.now c.file_of.result (length c.args.from.now)) c.first_from.result c.args.self.now c.first_from.new.over (omega arith) (writes_of (look_reads c.args.form (seen_counts c.args.self.now c.file_of.result)) 0 c.first_from.result c.args.self.now c.first_from.new.over c.first_from.ensures.reads) c.first_from.ensures.causes

pub returns-clause-below : goal.returns-clause-below
returns-clause-below g c = below_write c.args.form c.args.structure (length c.args.from.now) c.file_of.result c.first_from.result c.args.self.now c.first_from.new.over c.file_of.ensures c.first_from.ensures.causes
