use Rattle.std.proofs.Common.{◌≡◌, ◌∙◌, ℕ, List, Some, refl, ap}
use Rattle.std.specs.Prelude.{codes}
use Rattle.std.proofs.lemmas.Option.{same_Some}
use Rattle.dms_load.specs.Summary.{times}
use Rattle.dms_loadcount.proofs.counting.summary_of.Goals as goal

pub returns-clause-text : goal.returns-clause-text
returns-clause-text c =
    let printed = c.text-text.ensures ∙ ap (λ x. x.journal.image.said.items) c.into_site-site.ensures in
    record {
      lines_is = refl;
      done = λ text is. c.times.ensures ∙ ap (times (codes " DONE")) (printed ∙ same_Some _ text is);
      exceptions = λ text is. c.times-2.ensures ∙ ap (times (codes " EXCEPTION")) (printed ∙ same_Some _ text is);
      held = λ text is. c.times-3.ensures ∙ ap (times (codes " WAITS FOR")) (printed ∙ same_Some _ text is);
      unanswered = λ text is. c.times-4.ensures ∙ ap (times (codes " UNANSWERED")) (printed ∙ same_Some _ text is);
    }
