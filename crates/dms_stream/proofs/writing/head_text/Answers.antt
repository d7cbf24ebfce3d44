use Rattle.std.proofs.Common.{◌∙◌, ◌++◌, List, ℕ, ap}
use Rattle.dms_stream.proofs.Texts.{one_text}
use Rattle.dms_stream.proofs.writing.head_text.Goals as goal

pub returns : goal.returns
returns c =
    one_text c.args.tag c.args.total c.args.description.now _ c.extend.new.self c.extend-2.new.self c.extend-3.new.self c.extend-4.new.self
    c.in_ok-text.ensures
    (c.in_ok-extend.ensures.ok ∙ ap (λ (t : List ℕ). c.in_ok-text.text ++ t) c.to_be_bytes.ensures)
    (c.in_ok-extend-2.ensures.ok ∙ ap (λ (t : List ℕ). c.extend.new.self ++ t) c.to_be_bytes-2.ensures)
    (c.in_ok-extend-3.ensures.ok ∙ ap (λ (t : List ℕ). c.extend-2.new.self ++ t) c.to_be_bytes-3.ensures)
    c.in_ok-extend-4.ensures.ok
