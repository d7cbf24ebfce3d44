-- What a try says.
use Rattle.std.proofs.Common.{◌≡◌, ℕ, List, [], ◌∷◌, ap, ◌∙◌, refl, true, false, ◌&&◌}
use Rattle.std.specs.declared.option.Option.{Option}
use Rattle.dms_model.specs.declared.reply.Reply.{Reply}
use Rattle.dms_model.specs.Session.{Outcome, is_waits}
use Rattle.dms_runner.specs.declared.waiting.WaitingLine.{WaitingLine}
use Rattle.dms_runner.specs.Waiting.{said_of, tried_text, answer_text}
use Rattle.dms_runner.specs.Events.{says}

pub tried_is : (h : WaitingLine) (o : Outcome) (reply : Reply) (sync : Option ℕ) → reply ≡ o.reply → sync ≡ o.sync → said_of h reply sync ≡ tried_text h o
tried_is h o reply sync same synced = ap (λ (r : Reply). said_of h r sync) same ∙ ap (λ (n : Option ℕ). said_of h o.reply n) synced

pub silent_is : (h : WaitingLine) (reply : Reply) (sync : Option ℕ) → (is_waits reply && h.printed) ≡ true → said_of h reply sync ≡ []
silent_is h reply sync silent = rw silent refl

pub told_is : (h : WaitingLine) (reply : Reply) (sync : Option ℕ) → (is_waits reply && h.printed) ≡ false → says (answer_text h.line h.program reply sync) ∷ [] ≡ says (said_of h reply sync) ∷ []
told_is h reply sync told = rw told refl

-- the reply of a try
pub says_tried : (h : WaitingLine) (o : Outcome) (reply : Reply) (sync : Option ℕ) → reply ≡ o.reply → sync ≡ o.sync → says (said_of h reply sync) ∷ [] ≡ says (tried_text h o) ∷ []
says_tried h o reply sync same synced = ap (λ (t : List ℕ). says t ∷ []) (tried_is h o reply sync same synced)
