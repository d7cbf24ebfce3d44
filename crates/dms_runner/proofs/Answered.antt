-- What a run does ends where bytes are said: no call of it waits for its answer.
use Rattle.std.proofs.Common.{◌≡◌, ℕ, zero, suc, List, [], ◌∷◌, ◌++◌, Bool, true, false, cond, nat_le, length, refl}
use Rattle.dms_desc.specs.Shape.{Described}
use Rattle.dms_feed.specs.Lines.{line_text}
use Rattle.dms_model.specs.Counting.{counts_of}
use Rattle.dms_model.specs.Session.{Session, step, is_waits}
use Rattle.dms_script.specs.declared.line.Line.{Line}
use Rattle.dms_script.specs.declared.line.Line.TheVariants.{Empty, Verb as Spoken, Bad}
use Rattle.dms_script.specs.Lines.{line_of}
use Rattle.dms_script.specs.Replies.{bad_text}
use Rattle.dms_runner.specs.declared.waiting.WaitingLine.{WaitingLine}
use Rattle.dms_runner.specs.Answers.{RunState, LineEffect, first_line, line_effect, line_step, lines_before, lines_run, one_line_more, put_to_wait, unanswered_events}
use Rattle.dms_runner.specs.Events.{RunEvent, EndsAnswered, TakesNothing, calls, says}
use Rattle.dms_runner.specs.Waiting.{answer_text, has_line, tries, said_to_wait, RetryEffect, retries, retry, retry_after_answer}
use Rattle.dms_runner.proofs.Happening.{answered_on}

pub says_nothing_more : (text : List ℕ) → TakesNothing (says text)
says_nothing_more text = record { quiets = refl; sync = refl; count = refl; backs = refl }

-- a try ends with what it says
pub tries_answered : (desc : Described) (s : Session) (h : WaitingLine) → EndsAnswered (tries desc s h)
tries_answered desc s h = says_nothing_more _

-- the waiting lines

if_answered : (b : Bool) (x y : RetryEffect) → EndsAnswered x.events → EndsAnswered y.events → EndsAnswered (cond b x y).events
if_answered true x y h k = h
if_answered false x y h k = k

pub retry_answered : (desc : Described) (s : Session) (front waiting : List WaitingLine) → EndsAnswered (retry desc s front waiting).events
unfolding retry
retry_answered desc s front [] = tt
retry_answered desc s front (h ∷ hs) =
    let o = step desc s h.program h.verb in
    let rest = retry desc o.session (front ++ said_to_wait h ∷ []) hs in
    if_answered (has_line front h.program) _ _ (retry_answered desc s (front ++ h ∷ []) hs)
    (if_answered (is_waits o.reply) _ _ (answered_on (tries desc s h) rest.events (tries_answered desc s h) (retry_answered desc o.session (front ++ said_to_wait h ∷ []) hs)) (tries_answered desc s h))

after_answered : (b : Bool) (first rest : RetryEffect) → EndsAnswered first.events → EndsAnswered rest.events → EndsAnswered (retry_after_answer b first rest).events
after_answered true first rest h k = answered_on first.events rest.events h k
after_answered false first rest h k = h

retries_answered : (n : ℕ) (desc : Described) (s : Session) (waiting : List WaitingLine) → EndsAnswered (retries n desc s waiting).events
unfolding retries
retries_answered zero desc s waiting = tt
retries_answered (suc n) desc s waiting =
    let x = retry desc s [] waiting in
    after_answered x.answered x (retries n desc x.session x.waiting) (retry_answered desc s [] waiting) (retries_answered n desc x.session x.waiting)

-- a line that isn't one too many to hold

abbrev AnswersLine : LineEffect → Type 0
AnswersLine l = l.full ≡ false → EndsAnswered l.events

line_if : (b : Bool) (x y : LineEffect) → AnswersLine x → AnswersLine y → AnswersLine (cond b x y)
line_if true x y h k = h
line_if false x y h k = k

waiting_answered : (g : RunState) (s : Session) (h : WaitingLine) (first said : List RunEvent) → EndsAnswered (first ++ said) → AnswersLine (put_to_wait g s h first said)
waiting_answered g s h first said answered = line_if (nat_le 10000 (length g.waiting)) _ _ (λ room. absurd (cc)) (λ room. answered)

effect_answered : (desc : Described) (g : RunState) (l : Line) → AnswersLine (line_effect desc g l)
effect_answered desc g Empty = λ room. tt
effect_answered desc g (Bad place) = λ room. answered_on (says (bad_text g.line place) ∷ []) (retries (length g.waiting) desc g.session g.waiting).events (says_nothing_more _) (retries_answered (length g.waiting) desc g.session g.waiting)
effect_answered desc g (Spoken name verb) =
    let o = step desc g.session name verb in
    let said = says (answer_text g.line name o.reply o.sync) in
    line_if (has_line g.waiting name) _ _ (waiting_answered g g.session (first_line g.line name verb false) [] [] tt)
    (line_if (is_waits o.reply) _ _ (waiting_answered g o.session (first_line g.line name verb true) (calls (counts_of desc g.session name verb) verb o ∷ []) (said ∷ []) (says_nothing_more _))
    (λ room. answered_on (calls (counts_of desc g.session name verb) verb o ∷ said ∷ []) (retries (length g.waiting) desc o.session g.waiting).events (says_nothing_more _) (retries_answered (length g.waiting) desc o.session g.waiting)))

step_answered : (desc : Described) (g : RunState) (raw : List ℕ) → AnswersLine (line_step desc g raw)
unfolding line_step
step_answered desc g raw = effect_answered desc (one_line_more g) (line_of desc (line_text raw))

lines_answered : (b : Bool) (l m : LineEffect) → l.full ≡ b → AnswersLine l → AnswersLine m → AnswersLine (cond b l (lines_before l m))
lines_answered true l m is p q = p
lines_answered false l m is p q = λ room. answered_on l.events m.events (p is) (q room)

-- the lines of a script, up to one that would be one too many to hold
pub run_answered : (desc : Described) (g : RunState) (lines : List (List ℕ)) → AnswersLine (lines_run desc g lines)
unfolding lines_run
run_answered desc g [] = λ room. tt
run_answered desc g (l ∷ ls) =
    let s = line_step desc g l in
    lines_answered s.full s (lines_run desc s.going ls) refl (step_answered desc g l) (run_answered desc s.going ls)

-- the lines that are still held
pub held_answered : (waiting : List WaitingLine) → EndsAnswered (unanswered_events waiting)
held_answered [] = tt
held_answered (h ∷ []) = says_nothing_more _
held_answered (h ∷ i ∷ hs) = held_answered (i ∷ hs)
