use Rattle.std.proofs.Common.{◌≡◌, ◌∙◌, ap, sym, false, Global, List, ℕ, arith}
use Rattle.std.proofs.lemmas.Bool.Decides.{nat_tests}
use Rattle.std.specs.Prelude.{string_bytes, codes}
use Rattle.std.specs.Str.{bytes_eq}
use Rattle.dms_top.proofs.Words.{two_words, not_both}
use Rattle.dms_top.proofs.audit_run.is_print_audit.Goals as goal
use Rattle.dms_top.proofs.audit_run.is_print_audit.Goals.{then-words-eq2, else-words-eq2}

pub returns-then-eq : goal.returns-then-eq
returns-then-eq c = elim c.if-words-eq2.branch [
  | then-words-eq2 w ↦
      two_words (string_bytes {Z = Global}) c.args.words.now w.index-words-0.result c.index-words-1.result c.eq-then-eq.result (codes "print") (codes "audit") w.if-words-eq2.true w.index-words-0.is c.index-words-1.is
      (sym (w.eq.ensures ∙ ap (λ (v : List ℕ). bytes_eq v (codes "print")) w.as_str.ensures.value) ∙ sym w.value-is ∙ c.if-eq.true)
      (c.eq-then-eq.ensures ∙ ap (λ (v : List ℕ). bytes_eq v (codes "audit")) c.as_str-then-eq.ensures.value)
  | else-words-eq2 w ↦ let off : c.if-words-eq2.value ≡ false = grind (arith, nat_tests, w.value-is, w.if-words-eq2.false) in absurd (not_both c.if-words-eq2.value c.if-eq.true off)
]
