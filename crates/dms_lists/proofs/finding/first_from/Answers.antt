use Rattle.std.proofs.Common.{◌≡◌, ◌∙◌, ◌≤◌, ◌+◌, ℕ, List, Some, length, subst, sym, arith}
use Rattle.std.specs.Prelude.{IfOk}
use Rattle.std.specs.declared.option.Option.{Option}
use Rattle.dms_block.specs.Held.{HasCausesOr}
use Rattle.dms_block.specs.View.{ReadsOverlay, seen_counts, under}
use Rattle.dms_block.specs.ViewLaws.{reads_more}
use Rattle.dms_chain.specs.Lists.{first_from}
use Rattle.dms_lists.specs.declared.form.ListForm.{ListForm}
use Rattle.dms_lists.specs.FormLaws.{no_tree}
use Rattle.dms_lists.specs.Forms.{IfKept, NoKept, look_reads}
use Rattle.dms_tree.specs.Looks.{IfDigits, ReadsFew}
use Rattle.dms_lists.proofs.finding.first_from.Goals as goal

pub returns-in-Tree-clause-first : goal.returns-in-Tree-clause-first
returns-in-Tree-clause-first g c = subst (λ (k : ListForm). IfOk c.first_from.result (λ (x : Option (List ℕ)). IfKept k c.args.over.now c.args.file (length c.args.from.now) (λ xs. x ≡ first_from (Some c.args.from.now) xs))) (sym c.in-Tree.is) c.first_from.ensures.first

pub returns-in-Tree-clause-few : goal.returns-in-Tree-clause-few
returns-in-Tree-clause-few g c = λ tree. subst (λ (k : ListForm). IfKept k c.args.over.now c.args.file (length c.args.from.now) (λ xs. IfDigits xs (λ digits. ReadsFew (2 + digits) c.args.over.now c.first_from.new.over))) (sym c.in-Tree.is) c.first_from.ensures.few

pub returns-in-Tree-clause-reads : goal.returns-in-Tree-clause-reads
returns-in-Tree-clause-reads g c = subst (λ (k : ListForm). ReadsOverlay (look_reads k (seen_counts c.args.over.now c.args.file)) c.first_from.result c.args.over.now c.first_from.new.over) (sym c.in-Tree.is) (reads_more (2 + (seen_counts c.args.over.now c.args.file + seen_counts c.args.over.now c.args.file)) (omega arith) c.first_from.ensures.reads)

pub returns-in-Tree-clause-causes : goal.returns-in-Tree-clause-causes
returns-in-Tree-clause-causes g c = subst (λ (k : ListForm). HasCausesOr (NoKept k c.args.over.now c.args.file (length c.args.from.now)) c.first_from.result (under c.args.over.now) (under c.first_from.new.over)) (sym c.in-Tree.is) c.first_from.ensures.causes

pub returns-in-List-clause-first : goal.returns-in-List-clause-first
returns-in-List-clause-first g c = subst (λ (k : ListForm). IfOk c.first_from-in-List.result (λ (x : Option (List ℕ)). IfKept k c.args.over.now c.args.file (length c.args.from.now) (λ xs. x ≡ first_from (Some c.args.from.now) xs))) (sym c.in-List.is) c.first_from-in-List.ensures.first

pub returns-in-List-clause-few : goal.returns-in-List-clause-few
returns-in-List-clause-few g c = λ tree. absurd (no_tree (sym c.in-List.is ∙ tree))

pub returns-in-List-clause-reads : goal.returns-in-List-clause-reads
returns-in-List-clause-reads g c = subst (λ (k : ListForm). ReadsOverlay (look_reads k (seen_counts c.args.over.now c.args.file)) c.first_from-in-List.result c.args.over.now c.first_from-in-List.new.over) (sym c.in-List.is) c.first_from-in-List.ensures.reads

pub returns-in-List-clause-causes : goal.returns-in-List-clause-causes
returns-in-List-clause-causes g c = subst (λ (k : ListForm). HasCausesOr (NoKept k c.args.over.now c.args.file (length c.args.from.now)) c.first_from-in-List.result (under c.args.over.now) (under c.first_from-in-List.new.over)) (sym c.in-List.is) c.first_from-in-List.ensures.causes
