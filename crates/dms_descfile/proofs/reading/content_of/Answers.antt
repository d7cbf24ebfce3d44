use Rattle.std.proofs.Common.{refl, arith, ◌∙◌}
use Rattle.dms_descfile.proofs.Found.{short_none, closed_none, wrong_none, found}
use Rattle.dms_descfile.proofs.reading.content_of.Goals as goal

pub returns-then-file-lt6 : goal.returns-then-file-lt6
returns-then-file-lt6 c = λ bytes few content. short_none c.args.file.now bytes c.if-file-lt6.true content

pub returns-then-file-ne1 : goal.returns-then-file-ne1
returns-then-file-ne1 c = λ bytes few content. closed_none c.args.file.now bytes c.if-file-ne1.true content

pub returns-then-ne : goal.returns-then-ne
returns-then-ne c = λ bytes few content.
    wrong_none c.args.file.now c.as_slice.result.now _ bytes refl (c.as_slice.ensures ∙ c.to_be_bytes.ensures) c.if-ne.ensures content

pub returns : goal.returns
returns c = found c.args.file.now c.as_slice.result.now _ (omega (arith, c.if-file-lt6.false)) c.if-file-ne1.false refl (c.as_slice.ensures ∙ c.to_be_bytes.ensures) c.if-ne.ensures
