use Rattle.std.proofs.Common.{◌∙◌, sym, subst}
use Rattle.dms_status.specs.declared.status.Status.{Status}
use Rattle.dms_top.specs.Auditing.{IsOfPrinting}
use Rattle.dms_top.specs.Shipping.{JudgesShip}
use Rattle.dms_top.specs.Words.{ComesUnsaid, IsUntouched}
use Rattle.dms_top.proofs.Auditing.{print_untouched, counted_as}
use Rattle.dms_top.proofs.Shipping.{of_shipping, shipped, silent, refused, is_disk, of_disk, is_say, of_say, only_some}
use Rattle.dms_top.proofs.ship_run.ship_trail.Goals as goal

pub returns-clause-does : goal.returns-clause-does
returns-clause-does g c =
    let r = c.ship-shipped.result in
    let kinds = c.ship-shipped.ensures.kinds in
    record {
      statuses = subst (λ (s : Status). IsOfPrinting s) (sym c.status_of.ensures) (of_shipping r kinds);
      prints = λ ok. shipped r c.ship-shipped.ensures.printed (sym c.status_of.ensures ∙ ok);
      part = c.ship-shipped.ensures.part;
      silent = λ tells quiet. silent r kinds c.ship-shipped.ensures.silent tells (subst (λ (s : Status). ComesUnsaid s) c.status_of.ensures quiet);
      refused = λ tells. subst (λ (s : Status). JudgesShip c.args.from (g.S.Site.files c.args.site.now) s) (sym c.status_of.ensures) (refused r c.args.from (g.S.Site.files c.args.site.now) c.ship-shipped.ensures.refused tells);
      files = c.ship-shipped.ensures.files;
      only_speaks = only_some _ _ c.ship-shipped.ensures.moments;
    }

pub returns-clause-disk : goal.returns-clause-disk
returns-clause-disk g c = counted_as _ _ _ _ (λ q. is_disk c.ship-shipped.result (sym c.status_of.ensures ∙ q)) (λ p. c.status_of.ensures ∙ of_disk c.ship-shipped.result p) c.ship-shipped.ensures.disk

pub returns-clause-say : goal.returns-clause-say
returns-clause-say g c = counted_as _ _ _ _ (λ q. is_say c.ship-shipped.result (sym c.status_of.ensures ∙ q)) (λ p. c.status_of.ensures ∙ of_say c.ship-shipped.result p) c.ship-shipped.ensures.say

pub returns-clause-words : goal.returns-clause-words
returns-clause-words g c = λ is. subst (λ (s : Status). IsOfPrinting s) (sym c.status_of.ensures ∙ is) (of_shipping c.ship-shipped.result c.ship-shipped.ensures.kinds)

pub returns-clause-input : goal.returns-clause-input
returns-clause-input g c = λ is. subst (λ (s : Status). IsOfPrinting s) (sym c.status_of.ensures ∙ is) (of_shipping c.ship-shipped.result c.ship-shipped.ensures.kinds)

pub returns-clause-untouched : goal.returns-clause-untouched
returns-clause-untouched g c = λ is. absurd (print_untouched _ (of_shipping c.ship-shipped.result c.ship-shipped.ensures.kinds) (subst (λ (s : Status). IsUntouched s) c.status_of.ensures is))
