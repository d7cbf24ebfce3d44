use Rattle.std.proofs.Common.{◌≡◌, ◌∙◌, ◌<◌, ◌≤◌, Some, false, sym, ap, length, arith}
use Rattle.std.specs.Prelude.{◌||◌, is_some}
use Rattle.std.proofs.lemmas.Result.{IfOk-weaker}
use Rattle.dms_desc.specs.Files.{file_of}
use Rattle.dms_desc.specs.Shape.{as_described, shape_of}
use Rattle.dms_lists.specs.Forms.{form_of, kept_in}
use Rattle.dms_model.specs.Valid.{is_data_set}
use Rattle.dms_rowflaws.proofs.DataSets.{data_set_is}
use Rattle.dms_rowflaws.proofs.Shaping.{list_shaped, rows_shaped, too_many}
use Rattle.dms_rowflaws.specs.Blocks.{width_of}
use Rattle.dms_rowflaws.proofs.shapes.is_shaped.Goals as goal

pub returns-then-count-gt1048576-clause-is : goal.returns-then-count-gt1048576-clause-is
returns-then-count-gt1048576-clause-is g c told =
    let desc = as_described c.args.desc.now in
    let s = shape_of c.args.s.now in
    let bs = g.V.View.content c.args.view.now (file_of s.number) in
    let size : c.count-count.result ≡ length bs = c.count-count.ensures.count told ∙ ap (λ f. length (g.V.View.content c.args.view.now f)) c.file_of-file.ensures in
    let more : 1048576 < length bs = omega (arith, size, c.if-count-gt1048576.true) in
    too_many (length bs) (is_data_set (Some s) || is_some (kept_in (form_of s) (width_of desc s) bs)) more

pub returns-then-is_data_set-clause-is : goal.returns-then-is_data_set-clause-is
returns-then-is_data_set-clause-is g c told =
    let desc = as_described c.args.desc.now in
    let s = shape_of c.args.s.now in
    let bs = g.V.View.content c.args.view.now (file_of s.number) in
    let size : c.count-count.result ≡ length bs = c.count-count.ensures.count told ∙ ap (λ f. length (g.V.View.content c.args.view.now f)) c.file_of-file.ensures in
    let few : length bs ≤ 1048576 = omega (arith, size, c.if-count-gt1048576.false) in
    rows_shaped (length bs) (is_data_set (Some s)) (is_some (kept_in (form_of s) (width_of desc s) bs)) few
    (sym (data_set_is c.args.s.now) ∙ sym c.is_data_set.ensures ∙ c.if-is_data_set.true)

pub returns-clause-is : goal.returns-clause-is
returns-clause-is g c =
    let desc = as_described c.args.desc.now in
    let s = shape_of c.args.s.now in
    let content = g.V.View.content c.args.view.now in
    let bs = content (file_of s.number) in
    let off : is_data_set (Some s) ≡ false = sym (data_set_is c.args.s.now) ∙ sym c.is_data_set.ensures ∙ c.if-is_data_set.false in
    IfOk-weaker c.is_kept.result _ _
    (λ b h told.
    let size : c.count-count.result ≡ length bs = c.count-count.ensures.count told ∙ ap (λ f. length (content f)) c.file_of-file.ensures in
    let few : length bs ≤ 1048576 = omega (arith, size, c.if-count-gt1048576.false) in
    h told ∙ (λ i. is_some (kept_in (c.form_of.ensures i) (c.in_ok-width.ensures i) (content (c.file_of-file.ensures i))))
    ∙ list_shaped (length bs) (is_data_set (Some s)) (is_some (kept_in (form_of s) (width_of desc s) bs)) few off)
    c.is_kept.ensures.is
