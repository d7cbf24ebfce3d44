use Rattle.std.proofs.Common.{◌∙◌, sym, subst}
use Rattle.dms_status.specs.declared.status.Status.{Status}
use Rattle.dms_top.specs.Auditing.{IsOfPrinting, JudgesTrail}
use Rattle.dms_top.specs.Words.{ComesUnsaid, IsUntouched}
use Rattle.dms_top.proofs.Auditing.{of_printing, print_untouched, printed, silent, refused, is_disk, of_disk, is_say, of_say, counted_as, only_some}
use Rattle.dms_top.proofs.audit_run.print_trail.Goals as goal

pub returns-clause-does : goal.returns-clause-does
returns-clause-does g c = record {
  statuses = subst (λ (s : Status). IsOfPrinting s) (sym c.status_of.ensures) (of_printing c.print_audit-printed.result);
  prints = λ ok. printed c.print_audit-printed.result c.print_audit-printed.ensures.printed (sym c.status_of.ensures ∙ ok);
  part = c.print_audit-printed.ensures.part;
  silent = λ tells quiet. silent c.print_audit-printed.result c.print_audit-printed.ensures.silent tells (subst (λ (s : Status). ComesUnsaid s) c.status_of.ensures quiet);
  refused = λ tells. subst (λ (s : Status). JudgesTrail (g.S.Site.files c.args.site.now) s) (sym c.status_of.ensures) (refused c.print_audit-printed.result (g.S.Site.files c.args.site.now) c.print_audit-printed.ensures.refused c.print_audit-printed.ensures.found tells);
  files = c.print_audit-printed.ensures.files;
  only_speaks = only_some _ _ c.print_audit-printed.ensures.moments;
}

pub returns-clause-disk : goal.returns-clause-disk
returns-clause-disk g c = counted_as _ _ _ _ (λ q. is_disk c.print_audit-printed.result (sym c.status_of.ensures ∙ q)) (λ p. c.status_of.ensures ∙ of_disk c.print_audit-printed.result p) c.print_audit-printed.ensures.disk

pub returns-clause-say : goal.returns-clause-say
returns-clause-say g c = counted_as _ _ _ _ (λ q. is_say c.print_audit-printed.result (sym c.status_of.ensures ∙ q)) (λ p. c.status_of.ensures ∙ of_say c.print_audit-printed.result p) c.print_audit-printed.ensures.say

pub returns-clause-words : goal.returns-clause-words
returns-clause-words g c = λ is. subst (λ (s : Status). IsOfPrinting s) (sym c.status_of.ensures ∙ is) (of_printing c.print_audit-printed.result)

pub returns-clause-input : goal.returns-clause-input
returns-clause-input g c = λ is. subst (λ (s : Status). IsOfPrinting s) (sym c.status_of.ensures ∙ is) (of_printing c.print_audit-printed.result)

pub returns-clause-untouched : goal.returns-clause-untouched
returns-clause-untouched g c = λ is. absurd (print_untouched _ (of_printing c.print_audit-printed.result) (subst (λ (s : Status). IsUntouched s) c.status_of.ensures is))
