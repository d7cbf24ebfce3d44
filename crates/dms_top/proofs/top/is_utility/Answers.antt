use Rattle.std.proofs.Common.{◌∙◌, ap, Global, List, ℕ}
use Rattle.std.specs.Prelude.{string_bytes, codes}
use Rattle.std.specs.Str.{bytes_eq}
use Rattle.dms_top.proofs.Words.{one_word}
use Rattle.dms_top.proofs.top.is_utility.Goals as goal

pub returns-then-words-eq1 : goal.returns-then-words-eq1
returns-then-words-eq1 c =
    one_word (string_bytes {Z = Global}) c.args.words.now c.index-words-0.result c.eq.result (codes "utility") c.if-words-eq1.true c.index-words-0.is (c.eq.ensures ∙ ap (λ (v : List ℕ). bytes_eq v (codes "utility")) c.as_str.ensures.value)
