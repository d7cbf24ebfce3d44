-- One retry over the waiting lines, turn by turn.
use Rattle.dms_model.specs.Seen.{Seen}
use Rattle.std.proofs.Common.{◌≡◌, ℕ, suc, List, [], ◌∷◌, ◌++◌, Bool, true, false, cond, not, Some, ◌||◌, refl, sym, ap, ◌∙◌, subst, arith, append_assoc}
use Rattle.std.specs.List.{list_any}
use Rattle.std.specs.Str.{bytes_eq}
use Rattle.std.proofs.lemmas.List.{append-nil}
use Rattle.dms_desc.specs.Shape.{Described}
use Rattle.dms_desc_bytes.specs.WellFormed.{IsWellFormed}
use Rattle.dms_storeverbs.specs.View.{View, MayStep, StandsFor}
use Rattle.dms_model.specs.Session.{Session, Outcome, step, is_waits}
use Rattle.dms_model.specs.Verbs.{IsVerbOf}
use Rattle.dms_model.proofs.Rises.{step_small}
use Rattle.dms_runner.specs.declared.waiting.WaitingLine.{WaitingLine}
use Rattle.dms_runner.specs.declared.waiting.WaitingLines.{WaitingLines}
use Rattle.dms_runner.specs.Firsts.{standing}
use Rattle.dms_runner.proofs.Firsts.{standing_on}
use Rattle.dms_runner.proofs.Splits.{AreSeen, Reached, Split}
use Rattle.dms_runner.proofs.InOrder.{in_order, may_go_on, step_in_order}
use Rattle.dms_runner.proofs.Answered.{tries_answered}
use Rattle.dms_runner.proofs.Happening.{answered_on, ran_none, ran_on, part_on, part_of_first}
use Rattle.dms_runner.specs.Events.{Fate, RunEvent, EndsAnswered, Performs, PerformsPrefix}
use Rattle.dms_runner.specs.Trying.{PerformsTry, PerformsRetry}
use Rattle.dms_runner.specs.Waiting.{has_line, tries, said_to_wait, RetryEffect, events_before, answer_effect, retry, retries}

second : (b c : Bool) (x y z : RetryEffect) → b ≡ false → c ≡ true → cond b x (cond c y z) ≡ y
second b c x y z p q = rw (p, q) refl

pub retry_skips : (desc : Described) (s : Session) (front : List WaitingLine) (h : WaitingLine) (hs : List WaitingLine) → has_line front h.program ≡ true → retry desc s front (h ∷ hs) ≡ retry desc s (front ++ h ∷ []) hs
unfolding retry
retry_skips desc s front h hs has = rw has refl

pub retry_waits : (desc : Described) (s : Session) (front : List WaitingLine) (h : WaitingLine) (hs : List WaitingLine) → has_line front h.program ≡ false → is_waits (step desc s h.program h.verb).reply ≡ true
    → retry desc s front (h ∷ hs) ≡ events_before (tries desc s h) (retry desc (step desc s h.program h.verb).session (front ++ said_to_wait h ∷ []) hs)
unfolding retry
retry_waits desc s front h hs has waits = second (has_line front h.program) (is_waits (step desc s h.program h.verb).reply) _ _ _ has waits

pub retry_answers : (desc : Described) (s : Session) (front : List WaitingLine) (h : WaitingLine) (hs : List WaitingLine) → has_line front h.program ≡ false → is_waits (step desc s h.program h.verb).reply ≡ false
    → retry desc s front (h ∷ hs) ≡ answer_effect desc s h (front ++ hs)
unfolding retry
retry_answers desc s front h hs has waits = rw (has, waits) refl

pub retry_ends : (desc : Described) (s : Session) (front : List WaitingLine) → retry desc s front [] ≡ record { session = s; waiting = front; events = []; answered = false }
unfolding retry
retry_ends desc s front = refl

pub retries_again : (n : ℕ) (desc : Described) (s : Session) (waiting : List WaitingLine) → (retry desc s [] waiting).answered ≡ true
    → retries (suc n) desc s waiting ≡ events_before (retry desc s [] waiting).events (retries n desc (retry desc s [] waiting).session (retry desc s [] waiting).waiting)
unfolding retries
retries_again n desc s waiting answered = rw answered refl

pub retries_end : (n : ℕ) (desc : Described) (s : Session) (waiting : List WaitingLine) → (retry desc s [] waiting).answered ≡ false → retries (suc n) desc s waiting ≡ retry desc s [] waiting
unfolding retries
retries_end n desc s waiting answered = rw answered refl

-- lines of which each has one of its program in front are passed over at once

any_more : (t : WaitingLine → Bool) (xs ys : List WaitingLine) → list_any t xs ≡ true → list_any t (xs ++ ys) ≡ true
any_more t [] ys h = absurd (cc)
any_more t (x ∷ xs) ys h = by (t x) h (any_more t xs ys)
  where
    by : (b : Bool) → (b || list_any t xs) ≡ true → (list_any t xs ≡ true → list_any t (xs ++ ys) ≡ true) → (b || list_any t (xs ++ ys)) ≡ true
    by true h rest = refl
    by false h rest = rest h

more_seen : (front : List WaitingLine) (x : WaitingLine) (hs : List WaitingLine) → AreSeen (has_line front) hs → AreSeen (has_line (front ++ x ∷ [])) hs
more_seen front x [] all = tt
more_seen front x (h ∷ hs) all = (any_more (λ (y : WaitingLine). bytes_eq y.program h.program) front (x ∷ []) all.0, more_seen front x hs all.1)

retry_jumps : (desc : Described) (s : Session) (front passed hs : List WaitingLine) → AreSeen (has_line front) passed → retry desc s front (passed ++ hs) ≡ retry desc s (front ++ passed) hs
retry_jumps desc s front [] hs all = ap (λ (f : List WaitingLine). retry desc s f hs) (sym (append-nil front))
retry_jumps desc s front (h ∷ passed) hs all =
    retry_skips desc s front h (passed ++ hs) all.0 ∙ retry_jumps desc s (front ++ h ∷ []) passed hs (more_seen front h passed all.1) ∙ ap (λ (f : List WaitingLine). retry desc s f hs) (append_assoc front (h ∷ []) passed)

-- how a retry stands: the lines in front were passed over, and the rest is still to be tried, in the session that those that were tried
-- leave
pub record Passing (desc : Described) (s : Session) (first front hs : List WaitingLine) (v : View) (before after : Seen) : Type 0 where
  pub events : List RunEvent
  pub at : Session
  pub is : retry desc s [] first ≡ events_before events (retry desc at front hs)
  pub stands : StandsFor v at
  pub may : MayStep desc at
  pub well : IsWellFormed desc
  pub ran : Performs before after events
  pub answered : EndsAnswered events

pub passing_start : (desc : Described) (s : Session) (first : List WaitingLine) (v : View) (said : Seen) → StandsFor v s → IsWellFormed desc → MayStep desc s → Passing desc s first [] first v said said
passing_start desc s first v said stands well may = record { events = []; at = s; is = refl; stands = stands; may = may; well = well; ran = ran_none said; answered = tt }

-- the same retry, told otherwise
pub passing_as : (desc : Described) (s : Session) (first front hs front' hs' : List WaitingLine) (v : View) (before after : Seen) → ((t : Session) → retry desc t front hs ≡ retry desc t front' hs')
    → Passing desc s first front hs v before after → Passing desc s first front' hs' v before after
passing_as desc s first front hs front' hs' v before after same p =
    record { events = p.events; at = p.at; is = p.is ∙ ap (λ (w : RetryEffect). events_before p.events w) (same p.at); stands = p.stands; may = p.may; well = p.well; ran = p.ran; answered = p.answered }

-- the next first line is reached
pub passing_reach : (desc : Described) (s : Session) (first : List WaitingLine) (w : WaitingLines) (j : ℕ) (c : Split w j) (r : Reached w j c) (v : View) (before after : Seen)
    → Passing desc s first (standing c.behind) (standing c.ahead) v before after → Passing desc s first (standing r.first.behind) (r.first.line ∷ standing r.first.ahead) v before after
passing_reach desc s first w j c r v before after p =
    passing_as desc s first (standing c.behind) (standing c.ahead) (standing r.first.behind) (r.first.line ∷ standing r.first.ahead) v before after (λ t.
    ap (λ (l : List WaitingLine). retry desc t (standing c.behind) l) (ap standing r.is_ahead ∙ standing_on r.skipped (Some r.first.line ∷ r.first.ahead))
    ∙ retry_jumps desc t (standing c.behind) (standing r.skipped) (r.first.line ∷ standing r.first.ahead) r.all
    ∙ ap (λ (l : List WaitingLine). retry desc t l (r.first.line ∷ standing r.first.ahead)) (sym (ap standing r.is_behind ∙ standing_on c.behind r.skipped))) p

pub behind_on : (x y : List RunEvent) (w : RetryEffect) → events_before x (events_before y w) ≡ events_before (x ++ y) w
behind_on x y w = λ j. record w { events = sym (append_assoc x y w.events) j }

-- a line was tried and waits
pub passing_wait : (desc : Described) (s : Session) (first front : List WaitingLine) (h : WaitingLine) (hs : List WaitingLine) (v w : View) (before mid after : Seen) (answered : Bool) → has_line front h.program ≡ false → answered ≡ false → IsVerbOf desc h.verb
    → (p : Passing desc s first front (h ∷ hs) v before mid) → PerformsTry desc p.at h answered w mid after → Passing desc s first (front ++ said_to_wait h ∷ []) hs w before after
passing_wait desc s first front h hs v w before mid after answered has answered_is verb p t =
    let o = step desc p.at h.program h.verb in
    let waits : is_waits o.reply ≡ true = not_false (is_waits o.reply) (sym t.answers ∙ answered_is) in
    record {
      events = p.events ++ tries desc p.at h;
      at = o.session;
      is = p.is ∙ ap (λ (x : RetryEffect). events_before p.events x) (retry_waits desc p.at front h hs has waits) ∙ behind_on p.events (tries desc p.at h) _;
      stands = t.session;
      may = may_go_on (omega (arith, p.may.room, ap (λ (x : Session). x.next) ((step_small desc p.at h.program h.verb).waits waits))) (step_in_order desc p.at h.program h.verb verb (in_order p.well p.may));
      well = p.well;
      ran = ran_on before mid after p.events (tries desc p.at h) p.ran t.ran;
      answered = answered_on p.events (tries desc p.at h) p.answered (tries_answered desc p.at h);
    }
  where
    not_false : (b : Bool) → not b ≡ false → b ≡ true
    not_false true e = refl
    not_false false e = absurd (cc)

-- a line was tried and answered
pub passing_answered : (desc : Described) (s : Session) (first front : List WaitingLine) (h : WaitingLine) (hs now : List WaitingLine) (v w : View) (before mid after : Seen) (answered : Bool) → has_line front h.program ≡ false → answered ≡ true → now ≡ front ++ hs
    → (p : Passing desc s first front (h ∷ hs) v before mid) → PerformsTry desc p.at h answered w mid after → PerformsRetry (retry desc s [] first) w now true before after
passing_answered desc s first front h hs now v w before mid after answered has answered_is left p t =
    let o = step desc p.at h.program h.verb in
    let waits : is_waits o.reply ≡ false = not_true (is_waits o.reply) (sym t.answers ∙ answered_is) in
    let e : retry desc s [] first ≡ events_before p.events (answer_effect desc p.at h (front ++ hs)) = p.is ∙ ap (λ (x : RetryEffect). events_before p.events x) (retry_answers desc p.at front h hs has waits) in
    record {
      session = subst (λ (x : Session). StandsFor w x) (sym (ap (λ (x : RetryEffect). x.session) e)) t.session;
      answered_is = ap (λ (x : RetryEffect). x.answered) e;
      waiting_is = ap (λ (x : RetryEffect). x.waiting) e ∙ sym left;
      ran = subst (λ (x : List RunEvent). Performs before after x) (sym (ap (λ (x : RetryEffect). x.events) e)) (ran_on before mid after p.events (tries desc p.at h) p.ran t.ran);
    }
  where
    not_true : (b : Bool) → not b ≡ true → b ≡ false
    not_true false e = refl
    not_true true e = absurd (cc)

-- the retry came to the end: all that are left are passed over
pub passing_end : (desc : Described) (s : Session) (first front hs now : List WaitingLine) (v : View) (before after : Seen) → AreSeen (has_line front) hs → now ≡ front ++ hs
    → Passing desc s first front hs v before after → PerformsRetry (retry desc s [] first) v now false before after
passing_end desc s first front hs now v before after all left p =
    let e : retry desc s [] first ≡ events_before p.events (record { session = p.at; waiting = front ++ hs; events = []; answered = false }) =
    p.is ∙ ap (λ (x : RetryEffect). events_before p.events x) (ap (λ (l : List WaitingLine). retry desc p.at front l) (sym (append-nil hs)) ∙ retry_jumps desc p.at front hs [] all ∙ retry_ends desc p.at (front ++ hs)) in
    record {
      session = subst (λ (x : Session). StandsFor v x) (sym (ap (λ (x : RetryEffect). x.session) e)) p.stands;
      answered_is = ap (λ (x : RetryEffect). x.answered) e;
      waiting_is = ap (λ (x : RetryEffect). x.waiting) e ∙ sym left;
      ran = subst (λ (x : List RunEvent). Performs before after x) (sym (ap (λ (x : RetryEffect). x.events) e ∙ append-nil p.events)) p.ran;
    }

-- a try that failed did a prefix of what the retry does
pub passing_part : {fate : Fate} (desc : Described) (s : Session) (first front : List WaitingLine) (h : WaitingLine) (hs : List WaitingLine) (v : View) (before mid after : Seen) → has_line front h.program ≡ false
    → (p : Passing desc s first front (h ∷ hs) v before mid) → PerformsPrefix fate mid after (tries desc p.at h) → PerformsPrefix fate before after (retry desc s [] first).events
passing_part {fate} desc s first front h hs v before mid after has p part =
    by_reply (is_waits (step desc p.at h.program h.verb).reply) refl
  where
    o : Outcome
    o = step desc p.at h.program h.verb

    from : (x : RetryEffect) (rest : List RunEvent) → retry desc p.at front (h ∷ hs) ≡ x → x.events ≡ tries desc p.at h ++ rest → PerformsPrefix fate before after (retry desc s [] first).events
    from x rest e more = subst (λ (t : List RunEvent). PerformsPrefix fate before after t) (sym (ap (λ (y : RetryEffect). y.events) (p.is ∙ ap (λ (y : RetryEffect). events_before p.events y) e) ∙ ap (λ (t : List RunEvent). p.events ++ t) more))
        (part_on before mid after p.events (tries desc p.at h ++ rest) p.ran p.answered (part_of_first mid after (tries desc p.at h) rest part))

    by_reply : (b : Bool) → is_waits o.reply ≡ b → PerformsPrefix fate before after (retry desc s [] first).events
    by_reply true waits = from _ _ (retry_waits desc p.at front h hs has waits) refl
    by_reply false waits = from _ [] (retry_answers desc p.at front h hs has waits) (sym (append-nil (tries desc p.at h)))
