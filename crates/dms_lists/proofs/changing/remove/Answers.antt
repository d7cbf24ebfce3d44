use Rattle.std.proofs.Common.{◌≡◌, ◌≤◌, ◌+◌, Bool, Some, length, max, subst, sym, arith}
use Rattle.std.specs.Prelude.{IfOk, OnOk}
use Rattle.dms_block.specs.Held.{HasCausesOr}
use Rattle.dms_block.specs.View.{overlay_content, seen_counts, under}
use Rattle.dms_chain.specs.Changed.{writes_more}
use Rattle.dms_chain.specs.Lists.{has_entry, without}
use Rattle.dms_lists.specs.declared.form.ListForm.{ListForm}
use Rattle.dms_lists.specs.Forms.{IfKept, NoKept, kept_in}
use Rattle.dms_lists.proofs.changing.remove.Goals as goal

pub returns-in-Tree-clause-list : goal.returns-in-Tree-clause-list
returns-in-Tree-clause-list g c = subst (λ (k : ListForm). OnOk c.remove.result (IfKept k c.args.over.now c.args.file (length c.args.entry.now) (λ xs. kept_in k (length c.args.entry.now) (overlay_content c.remove.new.over c.args.file) ≡ Some (without c.args.entry.now xs)))) (sym c.in-Tree.is) c.remove.ensures.list

pub returns-in-Tree-clause-answer : goal.returns-in-Tree-clause-answer
returns-in-Tree-clause-answer g c = subst (λ (k : ListForm). IfOk c.remove.result (λ (x : Bool). IfKept k c.args.over.now c.args.file (length c.args.entry.now) (λ xs. x ≡ has_entry c.args.entry.now xs))) (sym c.in-Tree.is) c.remove.ensures.answer

pub returns-in-Tree-clause-writes : goal.returns-in-Tree-clause-writes
returns-in-Tree-clause-writes g c = writes_more (20 + seen_counts c.args.over.now c.args.file) 20 (omega arith) (omega arith) c.remove.ensures.writes

pub returns-in-Tree-clause-causes : goal.returns-in-Tree-clause-causes
returns-in-Tree-clause-causes g c = subst (λ (k : ListForm). HasCausesOr (NoKept k c.args.over.now c.args.file (length c.args.entry.now)) c.remove.result (under c.args.over.now) (under c.remove.new.over)) (sym c.in-Tree.is) c.remove.ensures.causes

pub returns-in-List-clause-list : goal.returns-in-List-clause-list
returns-in-List-clause-list g c = subst (λ (k : ListForm). OnOk c.remove-in-List.result (IfKept k c.args.over.now c.args.file (length c.args.entry.now) (λ xs. kept_in k (length c.args.entry.now) (overlay_content c.remove-in-List.new.over c.args.file) ≡ Some (without c.args.entry.now xs)))) (sym c.in-List.is) c.remove-in-List.ensures.list

pub returns-in-List-clause-answer : goal.returns-in-List-clause-answer
returns-in-List-clause-answer g c = subst (λ (k : ListForm). IfOk c.remove-in-List.result (λ (x : Bool). IfKept k c.args.over.now c.args.file (length c.args.entry.now) (λ xs. x ≡ has_entry c.args.entry.now xs))) (sym c.in-List.is) c.remove-in-List.ensures.answer

pub returns-in-List-clause-writes : goal.returns-in-List-clause-writes
returns-in-List-clause-writes g c = writes_more (20 + seen_counts c.args.over.now c.args.file) 20 (omega arith) (omega arith) c.remove-in-List.ensures.writes

pub returns-in-List-clause-causes : goal.returns-in-List-clause-causes
returns-in-List-clause-causes g c = subst (λ (k : ListForm). HasCausesOr (NoKept k c.args.over.now c.args.file (length c.args.entry.now)) c.remove-in-List.result (under c.args.over.now) (under c.remove-in-List.new.over)) (sym c.in-List.is) c.remove-in-List.ensures.causes
