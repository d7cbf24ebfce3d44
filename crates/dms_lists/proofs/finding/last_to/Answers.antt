use Rattle.std.proofs.Common.{◌≡◌, ◌∙◌, ◌≤◌, ◌+◌, ℕ, List, Some, length, subst, sym, arith}
use Rattle.std.specs.Prelude.{IfOk}
use Rattle.std.specs.declared.option.Option.{Option}
use Rattle.dms_block.specs.Held.{HasCausesOr}
use Rattle.dms_block.specs.View.{ReadsOverlay, seen_counts, under}
use Rattle.dms_block.specs.ViewLaws.{reads_more}
use Rattle.dms_chain.specs.Lists.{last_to}
use Rattle.dms_lists.specs.declared.form.ListForm.{ListForm}
use Rattle.dms_lists.specs.Forms.{IfKept, NoKept, look_reads}
use Rattle.dms_lists.proofs.finding.last_to.Goals as goal

pub returns-in-Tree-clause-last : goal.returns-in-Tree-clause-last
returns-in-Tree-clause-last g c = subst (λ (k : ListForm). IfOk c.last_to.result (λ (x : Option (List ℕ)). IfKept k c.args.over.now c.args.file (length c.args.upto.now) (λ xs. x ≡ last_to (Some c.args.upto.now) xs))) (sym c.in-Tree.is) c.last_to.ensures.last

pub returns-in-Tree-clause-reads : goal.returns-in-Tree-clause-reads
returns-in-Tree-clause-reads g c = subst (λ (k : ListForm). ReadsOverlay (look_reads k (seen_counts c.args.over.now c.args.file)) c.last_to.result c.args.over.now c.last_to.new.over) (sym c.in-Tree.is) (reads_more (2 + (seen_counts c.args.over.now c.args.file + seen_counts c.args.over.now c.args.file)) (omega arith) c.last_to.ensures.reads)

pub returns-in-Tree-clause-causes : goal.returns-in-Tree-clause-causes
returns-in-Tree-clause-causes g c = subst (λ (k : ListForm). HasCausesOr (NoKept k c.args.over.now c.args.file (length c.args.upto.now)) c.last_to.result (under c.args.over.now) (under c.last_to.new.over)) (sym c.in-Tree.is) c.last_to.ensures.causes

pub returns-in-List-clause-last : goal.returns-in-List-clause-last
returns-in-List-clause-last g c = subst (λ (k : ListForm). IfOk c.last_to-in-List.result (λ (x : Option (List ℕ)). IfKept k c.args.over.now c.args.file (length c.args.upto.now) (λ xs. x ≡ last_to (Some c.args.upto.now) xs))) (sym c.in-List.is) c.last_to-in-List.ensures.last

pub returns-in-List-clause-reads : goal.returns-in-List-clause-reads
returns-in-List-clause-reads g c = subst (λ (k : ListForm). ReadsOverlay (look_reads k (seen_counts c.args.over.now c.args.file)) c.last_to-in-List.result c.args.over.now c.last_to-in-List.new.over) (sym c.in-List.is) c.last_to-in-List.ensures.reads

pub returns-in-List-clause-causes : goal.returns-in-List-clause-causes
returns-in-List-clause-causes g c = subst (λ (k : ListForm). HasCausesOr (NoKept k c.args.over.now c.args.file (length c.args.upto.now)) c.last_to-in-List.result (under c.args.over.now) (under c.last_to-in-List.new.over)) (sym c.in-List.is) c.last_to-in-List.ensures.causes
