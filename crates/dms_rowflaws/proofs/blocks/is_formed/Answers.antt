use Rattle.std.proofs.Common.{◌≡◌, ◌∙◌, Bool, Some, true, false, cond, sym, ap}
use Rattle.std.proofs.lemmas.Result.{IfOk-weaker}
use Rattle.dms_desc.specs.Shape.{shape_of}
use Rattle.dms_lists.specs.Forms.{form_of}
use Rattle.dms_model.specs.Valid.{is_data_set}
use Rattle.dms_rowflaws.proofs.DataSets.{data_set_is}
use Rattle.dms_rows.specs.Rows.{is_row_block}
use Rattle.dms_shapes.specs.Blocks.{is_kept_block}
use Rattle.dms_rowflaws.proofs.blocks.is_formed.Goals as goal

pub returns-then-is_data_set : goal.returns-then-is_data_set
returns-then-is_data_set c =
    let s = shape_of c.args.s.now in
    let b = c.args.block.now.0 in
    let is : is_data_set (Some s) ≡ true = sym (data_set_is c.args.s.now) ∙ sym c.is_data_set.ensures ∙ c.if-is_data_set.true in
    c.is_row_block.ensures ∙ sym (ap (λ (t : Bool). cond t (is_row_block s b) (is_kept_block (form_of s) c.args.width c.args.number b)) is)

pub returns : goal.returns
returns c =
    let s = shape_of c.args.s.now in
    let b = c.args.block.now.0 in
    let off : is_data_set (Some s) ≡ false = sym (data_set_is c.args.s.now) ∙ sym c.is_data_set.ensures ∙ c.if-is_data_set.false in
    IfOk-weaker c.is_kept_block.result _ _
    (λ t h. h ∙ ap (λ f. is_kept_block f c.args.width c.args.number b) c.form_of.ensures ∙ sym (ap (λ (x : Bool). cond x (is_row_block s b) (is_kept_block (form_of s) c.args.width c.args.number b)) off))
    c.is_kept_block.ensures
