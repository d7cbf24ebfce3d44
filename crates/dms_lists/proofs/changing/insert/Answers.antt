use Rattle.std.proofs.Common.{◌≡◌, ◌≤◌, ◌+◌, Bool, Some, length, max, subst, sym, arith}
use Rattle.std.specs.Prelude.{IfOk, OnOk, not}
use Rattle.std.proofs.lemmas.Result.{on_ok_weaker}
use Rattle.dms_block.specs.Held.{HasCausesOr}
use Rattle.dms_block.specs.View.{overlay_content, seen_counts, under}
use Rattle.dms_chain.specs.Changed.{writes_more}
use Rattle.dms_chain.specs.Lists.{has_entry, with_entry}
use Rattle.dms_chain.specs.Written.{grown_more}
use Rattle.dms_lists.specs.declared.form.ListForm.{ListForm}
use Rattle.dms_lists.specs.Forms.{IfKept, NoKept, kept_in}
use Rattle.dms_lists.proofs.changing.insert.Goals as goal

pub returns-in-Tree-clause-list : goal.returns-in-Tree-clause-list
returns-in-Tree-clause-list g c = subst (λ (k : ListForm). OnOk c.insert.result (IfKept k c.args.over.now c.args.file (length c.args.entry.now) (λ xs. kept_in k (length c.args.entry.now) (overlay_content c.insert.new.over c.args.file) ≡ Some (with_entry c.args.entry.now xs)))) (sym c.in-Tree.is) c.insert.ensures.list

pub returns-in-Tree-clause-answer : goal.returns-in-Tree-clause-answer
returns-in-Tree-clause-answer g c = subst (λ (k : ListForm). IfOk c.insert.result (λ (x : Bool). IfKept k c.args.over.now c.args.file (length c.args.entry.now) (λ xs. x ≡ not (has_entry c.args.entry.now xs)))) (sym c.in-Tree.is) c.insert.ensures.answer

pub returns-in-Tree-clause-room : goal.returns-in-Tree-clause-room
returns-in-Tree-clause-room g c = subst (λ (k : ListForm). OnOk c.insert.result (IfKept k c.args.over.now c.args.file (length c.args.entry.now) (λ xs. seen_counts c.insert.new.over c.args.file ≤ max (seen_counts c.args.over.now c.args.file) (2 + length xs)))) (sym c.in-Tree.is) c.insert.ensures.room

pub returns-in-Tree-clause-writes : goal.returns-in-Tree-clause-writes
returns-in-Tree-clause-writes g c = writes_more (22 + seen_counts c.args.over.now c.args.file) 22 (omega arith) (omega arith) c.insert.ensures.writes

pub returns-in-Tree-clause-causes : goal.returns-in-Tree-clause-causes
returns-in-Tree-clause-causes g c = subst (λ (k : ListForm). HasCausesOr (NoKept k c.args.over.now c.args.file (length c.args.entry.now)) c.insert.result (under c.args.over.now) (under c.insert.new.over)) (sym c.in-Tree.is) c.insert.ensures.causes

pub returns-in-List-clause-list : goal.returns-in-List-clause-list
returns-in-List-clause-list g c = subst (λ (k : ListForm). OnOk c.insert-in-List.result (IfKept k c.args.over.now c.args.file (length c.args.entry.now) (λ xs. kept_in k (length c.args.entry.now) (overlay_content c.insert-in-List.new.over c.args.file) ≡ Some (with_entry c.args.entry.now xs)))) (sym c.in-List.is) c.insert-in-List.ensures.list

pub returns-in-List-clause-answer : goal.returns-in-List-clause-answer
returns-in-List-clause-answer g c = subst (λ (k : ListForm). IfOk c.insert-in-List.result (λ (x : Bool). IfKept k c.args.over.now c.args.file (length c.args.entry.now) (λ xs. x ≡ not (has_entry c.args.entry.now xs)))) (sym c.in-List.is) c.insert-in-List.ensures.answer

pub returns-in-List-clause-room : goal.returns-in-List-clause-room
returns-in-List-clause-room g c = subst (λ (k : ListForm). OnOk c.insert-in-List.result (IfKept k c.args.over.now c.args.file (length c.args.entry.now) (λ xs. seen_counts c.insert-in-List.new.over c.args.file ≤ max (seen_counts c.args.over.now c.args.file) (2 + length xs)))) (sym c.in-List.is) c.insert-in-List.ensures.room

pub returns-in-List-clause-grows : goal.returns-in-List-clause-grows
returns-in-List-clause-grows g c = on_ok_weaker c.insert-in-List.result (λ grown. grown_more 2 11 c.args.file (seen_counts c.args.over.now) (seen_counts c.insert-in-List.new.over) (omega arith) grown) c.insert-in-List.ensures.grows

pub returns-in-List-clause-writes : goal.returns-in-List-clause-writes
returns-in-List-clause-writes g c = writes_more (22 + seen_counts c.args.over.now c.args.file) 22 (omega arith) (omega arith) c.insert-in-List.ensures.writes

pub returns-in-List-clause-causes : goal.returns-in-List-clause-causes
returns-in-List-clause-causes g c = subst (λ (k : ListForm). HasCausesOr (NoKept k c.args.over.now c.args.file (length c.args.entry.now)) c.insert-in-List.result (under c.args.over.now) (under c.insert-in-List.new.over)) (sym c.in-List.is) c.insert-in-List.ensures.causes
