-- What a script leaves: the database of the last quiet point.
use Rattle.std.proofs.Common.{◌≡◌, ℕ, zero, suc, List, [], ◌∷◌, ◌++◌, Bool, true, false, cond, nat_le, refl, sym, ap, ◌∙◌, subst, length}
use Rattle.std.proofs.lemmas.List.{append-nil}
use Rattle.dms_desc.specs.Shape.{Described}
use Rattle.dms_feed.specs.Lines.{line_text}
use Rattle.dms_model.specs.declared.verb.Verb.{Verb}
use Rattle.dms_model.specs.Counting.{counts_of}
use Rattle.dms_model.specs.Db.{Db}
use Rattle.dms_model.specs.Points.{Quiet}
use Rattle.dms_model.specs.Session.{Session, Outcome, step, someone_works, end_session, is_waits}
use Rattle.dms_script.specs.declared.line.Line.{Line}
use Rattle.dms_script.specs.declared.line.Line.TheVariants.{Empty, Verb as Spoken, Bad}
use Rattle.dms_script.specs.Lines.{line_of}
use Rattle.dms_script.specs.Replies.{bad_text}
use Rattle.dms_storeverbs.specs.Laws.{MakesWhereQuiet, Rests}
use Rattle.dms_storeverbs.proofs.Quiet.{quiet_rule}
use Rattle.dms_storeverbs.proofs.Resting.{rest_rule}
use Rattle.dms_runner.specs.declared.waiting.WaitingLine.{WaitingLine}
use Rattle.dms_runner.specs.Events.{RunEvent, calls, says, quiets_of}
use Rattle.dms_runner.specs.EventLaws.{LeftLaw}
use Rattle.dms_runner.specs.Waiting.{has_line, answer_text, tried_text, tries, said_to_wait, RetryEffect, retry, retries}
use Rattle.dms_runner.specs.Answers.{RunState, LineEffect, put_to_wait, first_line, tried_first, line_effect, one_line_more, line_step, lines_run, lines_before, first_state, unanswered_events, end_events, script_events, last_quiet}
use Rattle.dms_runner.proofs.Happening.{quiets_on}
use Rattle.dms_runner.proofs.Lining.{tried_answered, tried_waits}
use Rattle.dms_runner.proofs.Passes.{retry_skips, retry_waits, retry_answers, retry_ends, retries_again, retries_end}

last_on : (db : Db) (x y : List Quiet) → last_quiet db (x ++ y) ≡ last_quiet (last_quiet db x) y
last_on db [] y = refl
last_on db (q ∷ x) y = last_on q.1 x y

-- from one session to another by these events: the last quiet point is that of the events, and what holds outside transaction
-- state stays so
record Follows (s t : Session) (events : List RunEvent) : Type 0 where
  rests : Rests s → Rests t
  mark : t.mark ≡ last_quiet s.mark (quiets_of events)

follows_none : (s : Session) → Follows s s []
follows_none s = record { rests = λ r. r; mark = refl }

follows_on : (s t u : Session) (x y : List RunEvent) → Follows s t x → Follows t u y → Follows s u (x ++ y)
follows_on s t u x y p q = record {
  rests = λ r. q.rests (p.rests r);
  mark = q.mark ∙ ap (λ (m : Db). last_quiet m (quiets_of y)) p.mark ∙ sym (last_on s.mark (quiets_of x) (quiets_of y)) ∙ ap (last_quiet s.mark) (sym (quiets_on x y));
}

follows_says : (s : Session) (x : List ℕ) → Follows s s (says x ∷ [])
follows_says s x = record { rests = λ r. r; mark = refl }

marked : (b : Bool) (s : Session) (o : Outcome) → MakesWhereQuiet b s o → o.session.mark ≡ last_quiet s.mark (o.quiets ++ [])
marked true s o m = m.mark ∙ sym (ap (λ (q : List Quiet). last_quiet s.mark (q ++ [])) m.quiets)
marked false s o m = m.mark ∙ sym (ap (λ (q : List Quiet). last_quiet s.mark (q ++ [])) m.quiets)

follows_call : (desc : Described) (s : Session) (name : List ℕ) (verb : Verb) → Follows s (step desc s name verb).session (calls (counts_of desc s name verb) verb (step desc s name verb) ∷ [])
follows_call desc s name verb = record { rests = rest_rule desc s name verb; mark = marked _ s (step desc s name verb) (quiet_rule desc s name verb) }

follows_try : (desc : Described) (s : Session) (name : List ℕ) (verb : Verb) (x : List ℕ) → Follows s (step desc s name verb).session (calls (counts_of desc s name verb) verb (step desc s name verb) ∷ says x ∷ [])
follows_try desc s name verb x = follows_on s _ _ (calls (counts_of desc s name verb) verb (step desc s name verb) ∷ []) (says x ∷ []) (follows_call desc s name verb) (follows_says _ x)

-- retries

abbrev Retried : Session → RetryEffect → Type 0
Retried s w = Follows s w.session w.events

retried_as : (s : Session) (w x : RetryEffect) → x ≡ w → Retried s w → Retried s x
retried_as s w x e p = subst (λ (y : RetryEffect). Retried s y) (sym e) p

reply_follows : (desc : Described) (s : Session) (front : List WaitingLine) (h : WaitingLine) (hs : List WaitingLine) (b : Bool) → has_line front h.program ≡ false → is_waits (step desc s h.program h.verb).reply ≡ b
    → Retried (step desc s h.program h.verb).session (retry desc (step desc s h.program h.verb).session (front ++ said_to_wait h ∷ []) hs) → Retried s (retry desc s front (h ∷ hs))
reply_follows desc s front h hs true other waits rest =
    let o = step desc s h.program h.verb in
    retried_as s _ _ (retry_waits desc s front h hs other waits) (follows_on s o.session _ (tries desc s h) _ (follows_try desc s h.program h.verb (tried_text h o)) rest)
reply_follows desc s front h hs false other waits rest =
    retried_as s _ _ (retry_answers desc s front h hs other waits) (follows_try desc s h.program h.verb (tried_text h (step desc s h.program h.verb)))

line_follows : (desc : Described) (s : Session) (front : List WaitingLine) (h : WaitingLine) (hs : List WaitingLine) (b : Bool) → has_line front h.program ≡ b
    → Retried s (retry desc s (front ++ h ∷ []) hs) → Retried (step desc s h.program h.verb).session (retry desc (step desc s h.program h.verb).session (front ++ said_to_wait h ∷ []) hs) → Retried s (retry desc s front (h ∷ hs))
line_follows desc s front h hs true has rest waited = retried_as s _ _ (retry_skips desc s front h hs has) rest
line_follows desc s front h hs false has rest waited = reply_follows desc s front h hs (is_waits (step desc s h.program h.verb).reply) has refl waited

retry_follows : (desc : Described) (s : Session) (front hs : List WaitingLine) → Retried s (retry desc s front hs)
retry_follows desc s front [] = retried_as s _ _ (retry_ends desc s front) (follows_none s)
retry_follows desc s front (h ∷ hs) = line_follows desc s front h hs (has_line front h.program) refl (retry_follows desc s (front ++ h ∷ []) hs) (retry_follows desc (step desc s h.program h.verb).session (front ++ said_to_wait h ∷ []) hs)

again_follows : (n : ℕ) (desc : Described) (s : Session) (waiting : List WaitingLine) (b : Bool) → (retry desc s [] waiting).answered ≡ b
    → Retried (retry desc s [] waiting).session (retries n desc (retry desc s [] waiting).session (retry desc s [] waiting).waiting) → Retried s (retries (suc n) desc s waiting)
again_follows n desc s waiting true is rest = retried_as s _ _ (retries_again n desc s waiting is) (follows_on s _ _ _ _ (retry_follows desc s [] waiting) rest)
again_follows n desc s waiting false is rest = retried_as s _ _ (retries_end n desc s waiting is) (retry_follows desc s [] waiting)

retries_follow : (n : ℕ) (desc : Described) (s : Session) (waiting : List WaitingLine) → Retried s (retries n desc s waiting)
unfolding retries
retries_follow zero desc s waiting = follows_none s
retries_follow (suc n) desc s waiting = again_follows n desc s waiting (retry desc s [] waiting).answered refl (retries_follow n desc (retry desc s [] waiting).session (retry desc s [] waiting).waiting)

-- lines

abbrev Leads : Session → LineEffect → Type 0
Leads s l = Follows s l.going.session l.events

waiting_leads : (s t : Session) (g : RunState) (h : WaitingLine) (before said : List RunEvent) (b : Bool) → Follows s t before → Follows t t said
    → Leads s (cond b (record { going = record g { session = t }; events = before; full = true }) (record { going = record { session = t; waiting = g.waiting ++ h ∷ []; line = g.line }; events = before ++ said; full = false }))
waiting_leads s t g h before said true p q = p
waiting_leads s t g h before said false p q = follows_on s t t before said p q

tried_leads : (desc : Described) (g : RunState) (name : List ℕ) (verb : Verb) (b : Bool) → is_waits (step desc g.session name verb).reply ≡ b → Leads g.session (tried_first desc g name verb)
tried_leads desc g name verb true waits =
    let o = step desc g.session name verb in
    subst (Leads g.session) (sym (tried_waits desc g name verb (counts_of desc g.session name verb) o waits)) (waiting_leads g.session o.session g (first_line g.line name verb true) (calls (counts_of desc g.session name verb) verb o ∷ []) (says (answer_text g.line name o.reply o.sync) ∷ []) (nat_le 10000 (length g.waiting)) (follows_call desc g.session name verb) (follows_says o.session _))
tried_leads desc g name verb false waits =
    let o = step desc g.session name verb in
    subst (Leads g.session) (sym (tried_answered desc g name verb (counts_of desc g.session name verb) o waits)) (follows_on g.session o.session _ (calls (counts_of desc g.session name verb) verb o ∷ says (answer_text g.line name o.reply o.sync) ∷ []) _ (follows_try desc g.session name verb (answer_text g.line name o.reply o.sync)) (retries_follow (length g.waiting) desc o.session g.waiting))

spoken_leads : (desc : Described) (g : RunState) (l : Line) → Leads g.session (line_effect desc g l)
spoken_leads desc g Empty = follows_none g.session
spoken_leads desc g (Bad place) = follows_on g.session g.session _ (says (bad_text g.line place) ∷ []) _ (follows_says g.session _) (retries_follow (length g.waiting) desc g.session g.waiting)
spoken_leads desc g (Spoken name verb) = at (has_line g.waiting name)
  where
    at : (b : Bool) → Leads g.session (cond b (put_to_wait g g.session (first_line g.line name verb false) [] []) (tried_first desc g name verb))
    at true = waiting_leads g.session g.session g (first_line g.line name verb false) [] [] (nat_le 10000 (length g.waiting)) (follows_none g.session) (follows_none g.session)
    at false = tried_leads desc g name verb (is_waits (step desc g.session name verb).reply) refl

step_leads : (desc : Described) (g : RunState) (raw : List ℕ) → Leads g.session (line_step desc g raw)
unfolding line_step
step_leads desc g raw = spoken_leads desc (one_line_more g) (line_of desc (line_text raw))

full_leads : (b : Bool) (s : Session) (l m : LineEffect) → Leads s l → Leads l.going.session m → Leads s (cond b l (lines_before l m))
full_leads true s l m p q = p
full_leads false s l m p q = follows_on s l.going.session m.going.session l.events m.events p q

run_leads : (desc : Described) (g : RunState) (lines : List (List ℕ)) → Leads g.session (lines_run desc g lines)
unfolding lines_run
run_leads desc g [] = follows_none g.session
run_leads desc g (l ∷ ls) = full_leads (line_step desc g l).full g.session (line_step desc g l) (lines_run desc (line_step desc g l).going ls) (step_leads desc g l) (run_leads desc (line_step desc g l).going ls)

-- the end

unanswered_quiets : (waiting : List WaitingLine) → quiets_of (unanswered_events waiting) ≡ []
unanswered_quiets [] = refl
unanswered_quiets (h ∷ hs) = unanswered_quiets hs

ended_db : (s : Session) (b : Bool) → someone_works s.programs ≡ b → Rests s → (end_session s).db ≡ s.mark
ended_db s true works rests = rw works refl
ended_db s false works rests = rw works (rests works)

pub left_law : LeftLaw
unfolding script_events
left_law desc db first lines =
    let run = lines_run desc (first_state db first) lines in
    let leads = run_leads desc (first_state db first) lines in
    ended_db run.going.session (someone_works run.going.session.programs) refl (leads.rests (λ idle. refl)) ∙ leads.mark
    ∙ ap (last_quiet db) (sym (quiets_on run.events (end_events (someone_works run.going.session.programs) run.going.waiting) ∙ ap (λ (q : List Quiet). quiets_of run.events ++ q) (quiets_on (unanswered_events run.going.waiting) _ ∙ ap (λ (q : List Quiet). q ++ []) (unanswered_quiets run.going.waiting)) ∙ append-nil (quiets_of run.events)))
