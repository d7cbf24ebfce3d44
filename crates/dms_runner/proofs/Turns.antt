-- The retries over the waiting lines, one after another.
use Rattle.dms_model.specs.Seen.{Seen}
use Rattle.std.proofs.Common.{◌≡◌, ◌+◌, ◌<◌, ◌≤◌, ◌^◌, ℕ, zero, suc, List, [], ◌∷◌, ◌++◌, Bool, true, false, refl, sym, ap, ◌∙◌, subst, arith, length, length-append}
use Rattle.std.proofs.lemmas.List.{append-nil}
use Rattle.dms_desc.specs.Shape.{Described}
use Rattle.dms_storeverbs.specs.View.{View, StandsFor, Room}
use Rattle.dms_model.specs.Session.{Session, step, is_waits}
use Rattle.dms_model.proofs.Rises.{step_small}
use Rattle.dms_runner.specs.declared.waiting.WaitingLine.{WaitingLine}
use Rattle.dms_runner.specs.Answers.{IsInOrder}
use Rattle.dms_runner.specs.Waiting.{AreVerbs, has_line, said_to_wait, RetryEffect, events_before, retry, retries}
use Rattle.dms_runner.specs.Trying.{PerformsRetry, PerformsRetries}
use Rattle.dms_runner.specs.Events.{Fate, RunEvent, EndsAnswered, Performs, PerformsPrefix}
use Rattle.dms_runner.proofs.InOrder.{retry_in_order}
use Rattle.dms_runner.proofs.Answered.{retry_answered}
use Rattle.dms_runner.proofs.Happening.{answered_on, ran_none, ran_on, part_on, part_of_first}
use Rattle.dms_runner.proofs.Passes.{retry_skips, retry_waits, retry_answers, retry_ends, retries_again, retries_end, behind_on}

-- each answer takes a line from the list, and makes one quiet point at most
abbrev Low : Session → ℕ → RetryEffect → Type 0
Low s lines w = w.session.next + length w.waiting ≤ s.next + lines

low_reply : (desc : Described) (s : Session) (front : List WaitingLine) (h : WaitingLine) (hs : List WaitingLine) (b : Bool) → has_line front h.program ≡ false → is_waits (step desc s h.program h.verb).reply ≡ b
    → Low (step desc s h.program h.verb).session (length (front ++ said_to_wait h ∷ []) + length hs) (retry desc (step desc s h.program h.verb).session (front ++ said_to_wait h ∷ []) hs) → Low s (length front + suc (length hs)) (retry desc s front (h ∷ hs))
low_reply desc s front h hs true other waits rest =
    let same = ap (λ (t : Session). t.next) ((step_small desc s h.program h.verb).waits waits) in
    subst (λ (w : RetryEffect). Low s (length front + suc (length hs)) w) (sym (retry_waits desc s front h hs other waits)) (omega (arith, length-append front (said_to_wait h ∷ []), same, rest))
low_reply desc s front h hs false other waits rest =
    subst (λ (w : RetryEffect). Low s (length front + suc (length hs)) w) (sym (retry_answers desc s front h hs other waits)) (omega (arith, length-append front hs, (step_small desc s h.program h.verb).high))

low_line : (desc : Described) (s : Session) (front : List WaitingLine) (h : WaitingLine) (hs : List WaitingLine) (b : Bool) → has_line front h.program ≡ b
    → Low s (length (front ++ h ∷ []) + length hs) (retry desc s (front ++ h ∷ []) hs) → Low (step desc s h.program h.verb).session (length (front ++ said_to_wait h ∷ []) + length hs) (retry desc (step desc s h.program h.verb).session (front ++ said_to_wait h ∷ []) hs)
    → Low s (length front + suc (length hs)) (retry desc s front (h ∷ hs))
low_line desc s front h hs true has rest waited =
    subst (λ (w : RetryEffect). Low s (length front + suc (length hs)) w) (sym (retry_skips desc s front h hs has)) (omega (arith, length-append front (h ∷ []), rest))
low_line desc s front h hs false has rest waited = low_reply desc s front h hs (is_waits (step desc s h.program h.verb).reply) has refl waited

retry_low : (desc : Described) (s : Session) (front hs : List WaitingLine) → Low s (length front + length hs) (retry desc s front hs)
retry_low desc s front [] = subst (λ (w : RetryEffect). Low s (length front + 0) w) (sym (retry_ends desc s front)) (omega arith)
retry_low desc s front (h ∷ hs) = low_line desc s front h hs (has_line front h.program) refl (retry_low desc s (front ++ h ∷ []) hs) (retry_low desc (step desc s h.program h.verb).session (front ++ said_to_wait h ∷ []) hs)

low_answer : (n : ℕ) (desc : Described) (s : Session) (waiting : List WaitingLine) (b : Bool) → (retry desc s [] waiting).answered ≡ b
    → Low (retry desc s [] waiting).session (length (retry desc s [] waiting).waiting) (retries n desc (retry desc s [] waiting).session (retry desc s [] waiting).waiting) → Low s (length waiting) (retries (suc n) desc s waiting)
low_answer n desc s waiting true is rest = subst (λ (x : RetryEffect). Low s (length waiting) x) (sym (retries_again n desc s waiting is)) (omega (arith, retry_low desc s [] waiting, rest))
low_answer n desc s waiting false is rest = subst (λ (x : RetryEffect). Low s (length waiting) x) (sym (retries_end n desc s waiting is)) (omega (arith, retry_low desc s [] waiting))

pub retries_low : (n : ℕ) (desc : Described) (s : Session) (waiting : List WaitingLine) → Low s (length waiting) (retries n desc s waiting)
unfolding retries
retries_low zero desc s waiting = omega arith
retries_low (suc n) desc s waiting = low_answer n desc s waiting (retry desc s [] waiting).answered refl (retries_low n desc (retry desc s [] waiting).session (retry desc s [] waiting).waiting)

-- how the retries stand after so many turns
pub record Retrying (desc : Described) (s : Session) (first : List WaitingLine) (turn : ℕ) (now : List WaitingLine) (v : View) (before after : Seen) : Type 0 where
  pub events : List RunEvent
  pub at : Session
  pub left : ℕ
  pub fuel : left + turn ≡ length first
  pub is : retries (length first) desc s first ≡ events_before events (retries left desc at now)
  pub stands : StandsFor v at
  pub order : IsInOrder desc at
  pub low : at.next + length now ≤ s.next + length first
  pub ran : Performs before after events
  pub answered : EndsAnswered events

pub retrying_start : (desc : Described) (s : Session) (first : List WaitingLine) (v : View) (said : Seen) → StandsFor v s → IsInOrder desc s → Retrying desc s first 0 first v said said
retrying_start desc s first v said stands held = record { events = []; at = s; left = length first; fuel = omega arith; is = refl; stands = stands; order = held; low = omega arith; ran = ran_none said; answered = tt }

pub retrying_room : (desc : Described) (s : Session) (first : List WaitingLine) (turn : ℕ) (now : List WaitingLine) (v : View) (before after : Seen) (k : Retrying desc s first turn now v before after) → s.next + length first + 2 < 2 ^ 64 → Room k.at.next
retrying_room desc s first turn now v before after k room = omega (arith, k.low, room)

-- a retry answered a line
pub retrying_on : (desc : Described) (s : Session) (first : List WaitingLine) (turn : ℕ) (now last : List WaitingLine) (v w : View) (before mid after : Seen) (k : Retrying desc s first turn now v before mid)
    → AreVerbs desc now → turn < length first → PerformsRetry (retry desc k.at [] now) w last true mid after → Retrying desc s first (turn + 1) last w before after
retrying_on desc s first turn now last v w before mid after k verbs more p = from k.left k.fuel k.is
  where
    x : RetryEffect
    x = retry desc k.at [] now

    waiting_is : x.waiting ≡ last
    waiting_is = p.waiting_is

    from : (n : ℕ) → n + turn ≡ length first → retries (length first) desc s first ≡ events_before k.events (retries n desc k.at now) → Retrying desc s first (turn + 1) last w before after
    from zero fuel is = absurd (omega (arith, fuel, more))
    from (suc n) fuel is = record {
      events = k.events ++ x.events;
      at = x.session;
      left = n;
      fuel = omega (arith, fuel);
      is = is ∙ ap (λ (y : RetryEffect). events_before k.events y) (retries_again n desc k.at now p.answered_is) ∙ behind_on k.events x.events _ ∙ ap (λ (l : List WaitingLine). events_before (k.events ++ x.events) (retries n desc x.session l)) waiting_is;
      stands = p.session;
      order = retry_in_order desc k.at now verbs k.order;
      low = omega (arith, k.low, retry_low desc k.at [] now, ap length waiting_is);
      ran = ran_on before mid after k.events x.events k.ran p.ran;
      answered = answered_on k.events x.events k.answered (retry_answered desc k.at [] now);
    }

-- a retry answered none
pub retrying_end : (desc : Described) (s : Session) (first : List WaitingLine) (turn : ℕ) (now next : List WaitingLine) (v w : View) (before mid after : Seen) (k : Retrying desc s first turn now v before mid)
    → turn < length first → PerformsRetry (retry desc k.at [] now) w next false mid after → PerformsRetries (retries (length first) desc s first) w next before after
retrying_end desc s first turn now next v w before mid after k more p = from k.left k.fuel k.is
  where
    x : RetryEffect
    x = retry desc k.at [] now

    from : (n : ℕ) → n + turn ≡ length first → retries (length first) desc s first ≡ events_before k.events (retries n desc k.at now) → PerformsRetries (retries (length first) desc s first) w next before after
    from zero fuel is = absurd (omega (arith, fuel, more))
    from (suc n) fuel is =
        let e : retries (length first) desc s first ≡ events_before k.events x = is ∙ ap (λ (y : RetryEffect). events_before k.events y) (retries_end n desc k.at now p.answered_is) in
        record {
          session = subst (λ (t : Session). StandsFor w t) (sym (ap (λ (y : RetryEffect). y.session) e)) p.session;
          waiting_is = sym (ap (λ (y : RetryEffect). y.waiting) e ∙ p.waiting_is);
          ran = subst (λ (t : List RunEvent). Performs before after t) (sym (ap (λ (y : RetryEffect). y.events) e)) (ran_on before mid after k.events x.events k.ran p.ran);
        }

-- as many lines were answered as there were
pub retrying_out : (desc : Described) (s : Session) (first : List WaitingLine) (turn : ℕ) (now : List WaitingLine) (v : View) (before after : Seen) → Retrying desc s first turn now v before after
    → length first ≤ turn → PerformsRetries (retries (length first) desc s first) v now before after
unfolding retries
retrying_out desc s first turn now v before after k over = from k.left k.fuel k.is
  where
    from : (n : ℕ) → n + turn ≡ length first → retries (length first) desc s first ≡ events_before k.events (retries n desc k.at now) → PerformsRetries (retries (length first) desc s first) v now before after
    from zero fuel is = record {
      session = subst (λ (t : Session). StandsFor v t) (sym (ap (λ (y : RetryEffect). y.session) is)) k.stands;
      waiting_is = sym (ap (λ (y : RetryEffect). y.waiting) is);
      ran = subst (λ (t : List RunEvent). Performs before after t) (sym (ap (λ (y : RetryEffect). y.events) is ∙ append-nil k.events)) k.ran;
    }
    from (suc n) fuel is = absurd (omega (arith, fuel, over))

-- a retry that failed did a prefix of what the retries do
pub retrying_part : {fate : Fate} (desc : Described) (s : Session) (first : List WaitingLine) (turn : ℕ) (now : List WaitingLine) (v : View) (before mid after : Seen) (k : Retrying desc s first turn now v before mid)
    → turn < length first → PerformsPrefix fate mid after (retry desc k.at [] now).events → PerformsPrefix fate before after (retries (length first) desc s first).events
retrying_part {fate} desc s first turn now v before mid after k more part = from k.left k.fuel k.is
  where
    x : RetryEffect
    x = retry desc k.at [] now

    rest : (n : ℕ) (b : Bool) → x.answered ≡ b → (r : List RunEvent) × ((retries (suc n) desc k.at now).events ≡ x.events ++ r)
    rest n true is = (_, ap (λ (y : RetryEffect). y.events) (retries_again n desc k.at now is))
    rest n false is = ([], ap (λ (y : RetryEffect). y.events) (retries_end n desc k.at now is) ∙ sym (append-nil x.events))

    from : (n : ℕ) → n + turn ≡ length first → retries (length first) desc s first ≡ events_before k.events (retries n desc k.at now) → PerformsPrefix fate before after (retries (length first) desc s first).events
    from zero fuel is = absurd (omega (arith, fuel, more))
    from (suc n) fuel is =
        let r = rest n x.answered refl in
        subst (λ (t : List RunEvent). PerformsPrefix fate before after t) (sym (ap (λ (y : RetryEffect). y.events) is ∙ ap (λ (t : List RunEvent). k.events ++ t) r.1)) (part_on before mid after k.events (x.events ++ r.0) k.ran k.answered (part_of_first mid after x.events r.0 part))

-- the same retry under the same description
pub passes_from : (d e : Described) (s : Session) (l : List WaitingLine) (v : View) (now : List WaitingLine) (answered answered' : Bool) (before after : Seen) → d ≡ e → answered ≡ answered'
    → PerformsRetry (retry d s [] l) v now answered before after → PerformsRetry (retry e s [] l) v now answered' before after
passes_from d e s l v now answered answered' before after p r x =
    subst (λ (o : Bool). PerformsRetry (retry e s [] l) v now o before after) r (subst (λ (k : Described). PerformsRetry (retry k s [] l) v now answered before after) p x)

pub part_from : {fate : Fate} (d e : Described) (s : Session) (l : List WaitingLine) (before after : Seen) → d ≡ e → PerformsPrefix fate before after (retry d s [] l).events → PerformsPrefix fate before after (retry e s [] l).events
part_from {fate} d e s l before after p x = subst (λ (k : Described). PerformsPrefix fate before after (retry k s [] l).events) p x
