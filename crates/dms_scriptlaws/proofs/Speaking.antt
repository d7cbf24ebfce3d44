-- What a script says is true of its quiet points, over every interleaving of its lines, where that holds of one step.
use Rattle.std.proofs.Common.{ℕ, zero, suc, ◌≡◌, ◌≤◌, ◌+◌, ◌∙◌, ◌&&◌, List, [], ◌∷◌, ◌++◌, Bool, true, false, cond, nat_le, length, refl, sym, ap, subst, arith, Option, Some, None}
use Rattle.std.specs.Bool.{⊤}
use Rattle.std.specs.List.{AllByRecursion}
use Rattle.std.proofs.lemmas.List.{append-nil}
use Rattle.dms_desc.specs.Shape.{Described}
use Rattle.dms_feed.specs.Lines.{line_text}
use Rattle.dms_model.specs.declared.verb.Verb.{Verb}
use Rattle.dms_model.specs.declared.reply.Reply.{Reply}
use Rattle.dms_model.specs.Counting.{counts_of}
use Rattle.dms_model.specs.Db.{Db}
use Rattle.dms_model.specs.Points.{Quiet}
use Rattle.dms_model.specs.Session.{Session, Outcome, step, is_waits, fresh_session, someone_works}
use Rattle.dms_model.proofs.Rises.{step_small}
use Rattle.dms_script.specs.declared.line.Line.{Line}
use Rattle.dms_script.specs.declared.line.Line.TheVariants.{Empty, Verb as Spoken, Bad}
use Rattle.dms_script.specs.Lines.{line_of}
use Rattle.dms_script.specs.Replies.{reply_text, bad_text, unanswered_text}
use Rattle.dms_storeverbs.specs.Laws.{MakesWhereQuiet}
use Rattle.dms_storeverbs.proofs.Quiet.{quiet_rule}
use Rattle.dms_runner.specs.declared.waiting.WaitingLine.{WaitingLine}
use Rattle.dms_runner.specs.Events.{RunEvent, calls, says, goes_back, quiets_of, durable_after, durable_by}
use Rattle.dms_runner.specs.Waiting.{has_line, answer_text, tries, said_to_wait, RetryEffect, retry, retries}
use Rattle.dms_runner.specs.Answers.{RunState, LineEffect, put_to_wait, first_line, first_try_effect, line_effect, one_line_more, line_step, lines_run, lines_before, first_state, unanswered_events, script_run, script_events}
use Rattle.dms_runner.proofs.Happening.{quiets_on, step_numbers}
use Rattle.dms_runner.proofs.Lining.{tried_answered, tried_waits}
use Rattle.dms_runner.proofs.Passes.{retry_skips, retry_waits, retry_answers, retry_ends, retries_again, retries_end}
use Rattle.dms_scriptlaws.proofs.Telling.{Honest, AreNumberedFrom, covered_within}
use Rattle.dms_scriptlaws.proofs.Lined.{TellsNone, TakesOwn, try_honest, honest_on, numbered_on, length_on}

-- Of one step: it keeps K, its quiet points are Q, and its reply is a line that tells nothing, where V holds of the program and
-- the verb; V holds of each line that can be read, and the other lines that are said tell nothing.
pub record LinesSpeak (desc : Described) (K : Session → Type 0) (V : List ℕ → Verb → Type 0) (Q : Quiet → Type 0) : Type 0 where
  pub keeps : (s : Session) (name : List ℕ) (verb : Verb) → V name verb → K s → K (step desc s name verb).session
  pub points : (s : Session) (name : List ℕ) (verb : Verb) → V name verb → K s → AllByRecursion Q (step desc s name verb).quiets
  pub reply : (line : ℕ) (s : Session) (name : List ℕ) (verb : Verb) → V name verb → K s → TellsNone (reply_text line name (step desc s name verb).reply)
  pub bad : (line place : ℕ) → TellsNone (bad_text line place)
  pub waiting : (line : ℕ) (name : List ℕ) (verb : Verb) → V name verb → TellsNone (unanswered_text line name)
  pub spoken : (raw : List ℕ) (name : List ℕ) (verb : Verb) → line_of desc raw ≡ Spoken name verb → V name verb

pub durable_within : (count durable : ℕ) (x : List RunEvent) → durable ≤ count → durable_after count durable x ≤ count + length (quiets_of x)
durable_within count durable [] le = omega (arith, le)
durable_within count durable (e ∷ x) le =
    let c = count + length e.quiets in
    omega (arith, length_on e.quiets (quiets_of x), durable_within c (durable_by e.sync durable c) x (covered_within e.sync durable c (omega (arith, le))))

numbered_one : (b : Bool) (s : Session) (o : Outcome) → MakesWhereQuiet b s o → AreNumberedFrom s.next o.quiets
numbered_one true s o m = subst (AreNumberedFrom s.next) (sym m.quiets) (refl, tt)
numbered_one false s o m = subst (AreNumberedFrom s.next) (sym m.quiets) tt

own_at : (b : Bool) (s : Session) (o : Outcome) → MakesWhereQuiet b s o → TakesOwn s o
own_at true s o m n is = (m.own n is, ap length m.quiets)
own_at false s o m n is = let none = m.unsynced in absurd (cc)

all_on : (Q : Quiet → Type 0) (x y : List Quiet) → AllByRecursion Q x → AllByRecursion Q y → AllByRecursion Q (x ++ y)
all_on Q [] y f g = g
all_on Q (q ∷ x) y f g = (f.0, all_on Q x y f.1 g)

-- what a script says and makes is true
pub record IsTrueRun (first : ℕ) (Q : Quiet → Type 0) (events : List RunEvent) : Type 0 where
  pub honest : Honest first 0 0 events
  pub numbered : AreNumberedFrom first (quiets_of events)
  pub points : AllByRecursion Q (quiets_of events)

module _ (desc : Described) (K : Session → Type 0) (V : List ℕ → Verb → Type 0) (Q : Quiet → Type 0) (p : LinesSpeak desc K V Q) where
  record Tells (s t : Session) (events : List RunEvent) : Type 0 where
    clean : K t
    next : t.next ≡ s.next + length (quiets_of events)
    numbered : AreNumberedFrom s.next (quiets_of events)
    points : AllByRecursion Q (quiets_of events)
    honest : (first count durable : ℕ) → s.next ≡ first + count → durable ≤ count → Honest first count durable events

  tells_none : (s : Session) → K s → Tells s s []
  tells_none s k = record { clean = k; next = omega arith; numbered = tt; points = tt; honest = λ first count durable at within. tt }

  tells_on : (s t u : Session) (x y : List RunEvent) → Tells s t x → Tells t u y → Tells s u (x ++ y)
  tells_on s t u x y f g =
      let q = quiets_on x y in
      let len : length (quiets_of (x ++ y)) ≡ length (quiets_of x) + length (quiets_of y) = ap length q ∙ length_on (quiets_of x) (quiets_of y) in
      record {
        clean = g.clean;
        next = omega (arith, f.next, g.next, len);
        numbered = subst (AreNumberedFrom s.next) (sym q) (numbered_on s.next (quiets_of x) (quiets_of y) f.numbered (subst (λ (k : ℕ). AreNumberedFrom k (quiets_of y)) f.next g.numbered));
        points = subst (AllByRecursion Q) (sym q) (all_on Q (quiets_of x) (quiets_of y) f.points g.points);
        honest = λ first count durable at within.
            honest_on first count durable x y (f.honest first count durable at within)
            (g.honest first (count + length (quiets_of x)) (durable_after count durable x) (omega (arith, f.next, at)) (durable_within count durable x within));
      }

  tells_says : (s : Session) (x : List ℕ) → K s → TellsNone x → Tells s s (says x ∷ [])
  tells_says s x k none = record { clean = k; next = omega arith; numbered = tt; points = tt; honest = λ first count durable at within. (none.closed, (none.safe first durable, tt)) }

  tells_call : (s : Session) (name : List ℕ) (verb : Verb) → K s → V name verb → Tells s (step desc s name verb).session (calls (counts_of desc s name verb) verb (step desc s name verb) ∷ [])
  tells_call s name verb k v =
      let o = step desc s name verb in
      record {
        clean = p.keeps s name verb v k;
        next = step_numbers desc s name verb ∙ ap (λ (l : List Quiet). s.next + length l) (sym (append-nil o.quiets));
        numbered = subst (AreNumberedFrom s.next) (sym (append-nil o.quiets)) (numbered_one _ s o (quiet_rule desc s name verb));
        points = subst (AllByRecursion Q) (sym (append-nil o.quiets)) (p.points s name verb v k);
        honest = λ first count durable at within. (refl, (tt, tt));
      }

  tells_answer : (s : Session) (line : ℕ) (name : List ℕ) (verb : Verb) → K s → V name verb
      → Tells s (step desc s name verb).session (calls (counts_of desc s name verb) verb (step desc s name verb) ∷ says (answer_text line name (step desc s name verb).reply (step desc s name verb).sync) ∷ [])
  unfolding answer_text
  tells_answer s line name verb k v =
      let o = step desc s name verb in
      let c = tells_call s name verb k v in
      record {
        clean = c.clean;
        next = c.next;
        numbered = c.numbered;
        points = c.points;
        honest = λ first count durable at within. try_honest first count durable (counts_of desc s name verb) s verb o (reply_text line name o.reply) at within (p.reply line s name verb v k) (own_at _ s o (quiet_rule desc s name verb));
      }

  tells_silent : (s : Session) (name : List ℕ) (verb : Verb) → K s → V name verb → Tells s (step desc s name verb).session (calls (counts_of desc s name verb) verb (step desc s name verb) ∷ says [] ∷ [])
  tells_silent s name verb k v =
      let c = tells_call s name verb k v in
      record { clean = c.clean; next = c.next; numbered = c.numbered; points = c.points; honest = λ first count durable at within. (refl, (tt, (refl, (tt, tt)))) }

  tells_if : (b : Bool) (s t : Session) (count : ℕ) (verb : Verb) (o : Outcome) (x : List ℕ) → Tells s t (calls count verb o ∷ says [] ∷ []) → Tells s t (calls count verb o ∷ says x ∷ []) → Tells s t (calls count verb o ∷ says (cond b [] x) ∷ [])
  tells_if true s t count verb o x f g = f
  tells_if false s t count verb o x f g = g

  tells_try : (s : Session) (h : WaitingLine) → K s → V h.program h.verb → Tells s (step desc s h.program h.verb).session (tries desc s h)
  tells_try s h k v =
      let o = step desc s h.program h.verb in
      tells_if (is_waits o.reply && h.printed) s o.session (counts_of desc s h.program h.verb) h.verb o (answer_text h.line h.program o.reply o.sync) (tells_silent s h.program h.verb k v) (tells_answer s h.line h.program h.verb k v)

  -- the waiting lines can be read
  abbrev Spoke : List WaitingLine → Type 0
  Spoke [] = ⊤
  Spoke (h ∷ hs) = V h.program h.verb × Spoke hs

  spoke_on : (x y : List WaitingLine) → Spoke x → Spoke y → Spoke (x ++ y)
  spoke_on [] y f g = g
  spoke_on (h ∷ x) y f g = (f.0, spoke_on x y f.1 g)

  -- retries

  record Retried (s : Session) (w : RetryEffect) : Type 0 where
    tells : Tells s w.session w.events
    waiting : Spoke w.waiting

  retried_as : (s : Session) (w x : RetryEffect) → x ≡ w → Retried s w → Retried s x
  retried_as s w x e f = subst (λ (y : RetryEffect). Retried s y) (sym e) f

  reply_tells : (s : Session) (front : List WaitingLine) (h : WaitingLine) (hs : List WaitingLine) (b : Bool) → has_line front h.program ≡ false → is_waits (step desc s h.program h.verb).reply ≡ b
      → K s → V h.program h.verb → Spoke front → Spoke hs → Retried (step desc s h.program h.verb).session (retry desc (step desc s h.program h.verb).session (front ++ said_to_wait h ∷ []) hs) → Retried s (retry desc s front (h ∷ hs))
  reply_tells s front h hs true other waits k v f g rest =
      let o = step desc s h.program h.verb in
      retried_as s _ _ (retry_waits desc s front h hs other waits)
      (record { tells = tells_on s o.session _ (tries desc s h) _ (tells_try s h k v) rest.tells; waiting = rest.waiting })
  reply_tells s front h hs false other waits k v f g rest =
      retried_as s _ _ (retry_answers desc s front h hs other waits) (record { tells = tells_try s h k v; waiting = spoke_on front hs f g })

  line_tells : (s : Session) (front : List WaitingLine) (h : WaitingLine) (hs : List WaitingLine) (b : Bool) → has_line front h.program ≡ b → K s → V h.program h.verb → Spoke front → Spoke hs
      → Retried s (retry desc s (front ++ h ∷ []) hs) → Retried (step desc s h.program h.verb).session (retry desc (step desc s h.program h.verb).session (front ++ said_to_wait h ∷ []) hs) → Retried s (retry desc s front (h ∷ hs))
  line_tells s front h hs true has k v f g rest waited = retried_as s _ _ (retry_skips desc s front h hs has) rest
  line_tells s front h hs false has k v f g rest waited = reply_tells s front h hs (is_waits (step desc s h.program h.verb).reply) has refl k v f g waited

  retry_tells : (s : Session) (front hs : List WaitingLine) → K s → Spoke front → Spoke hs → Retried s (retry desc s front hs)
  retry_tells s front [] k f g = retried_as s _ _ (retry_ends desc s front) (record { tells = tells_none s k; waiting = f })
  retry_tells s front (h ∷ hs) k f g =
      line_tells s front h hs (has_line front h.program) refl k g.0 f g.1 (retry_tells s (front ++ h ∷ []) hs k (spoke_on front (h ∷ []) f (g.0, tt)) g.1)
      (retry_tells (step desc s h.program h.verb).session (front ++ said_to_wait h ∷ []) hs (p.keeps s h.program h.verb g.0 k) (spoke_on front (said_to_wait h ∷ []) f (g.0, tt)) g.1)

  again_tells : (n : ℕ) (s : Session) (waiting : List WaitingLine) (b : Bool) → (retry desc s [] waiting).answered ≡ b → Retried s (retry desc s [] waiting)
      → Retried (retry desc s [] waiting).session (retries n desc (retry desc s [] waiting).session (retry desc s [] waiting).waiting) → Retried s (retries (suc n) desc s waiting)
  again_tells n s waiting true is one rest = retried_as s _ _ (retries_again n desc s waiting is) (record { tells = tells_on s _ _ _ _ one.tells rest.tells; waiting = rest.waiting })
  again_tells n s waiting false is one rest = retried_as s _ _ (retries_end n desc s waiting is) one

  retries_tell : (n : ℕ) (s : Session) (waiting : List WaitingLine) → K s → Spoke waiting → Retried s (retries n desc s waiting)
  unfolding retries
  retries_tell zero s waiting k f = record { tells = tells_none s k; waiting = f }
  retries_tell (suc n) s waiting k f =
      let one = retry_tells s [] waiting k tt f in
      again_tells n s waiting (retry desc s [] waiting).answered refl one (retries_tell n (retry desc s [] waiting).session (retry desc s [] waiting).waiting one.tells.clean one.waiting)

  -- lines

  record Leads (s : Session) (l : LineEffect) : Type 0 where
    tells : Tells s l.going.session l.events
    waiting : Spoke l.going.waiting

  waiting_leads : (s t : Session) (g : RunState) (h : WaitingLine) (before said : List RunEvent) (b : Bool) → Spoke g.waiting → V h.program h.verb → Tells s t before → Tells t t said
      → Leads s (cond b (record { going = record g { session = t }; events = before; full = true }) (record { going = record { session = t; waiting = g.waiting ++ h ∷ []; line = g.line }; events = before ++ said; full = false }))
  waiting_leads s t g h before said true a v f q = record { tells = f; waiting = a }
  waiting_leads s t g h before said false a v f q = record { tells = tells_on s t t before said f q; waiting = spoke_on g.waiting (h ∷ []) a (v, tt) }

  behind_leads : (s t : Session) (line : ℕ) (x : List RunEvent) (w : RetryEffect) → Tells s t x → Retried t w → Leads s (record { going = record { session = w.session; waiting = w.waiting; line = line }; events = x ++ w.events; full = false })
  behind_leads s t line x w f g = record { tells = tells_on s t w.session x w.events f g.tells; waiting = g.waiting }

  plain_answer : (line : ℕ) (name : List ℕ) (reply : Reply) (o : Option ℕ) → TellsNone (reply_text line name reply) → ((n : ℕ) → o ≡ Some n → ⊥) → TellsNone (answer_text line name reply o)
  unfolding answer_text
  plain_answer line name reply None plain none = subst TellsNone (sym (append-nil (reply_text line name reply))) plain
  plain_answer line name reply (Some n) plain none = absurd (none n refl)

  silent_wait : (s : Session) (name : List ℕ) (verb : Verb) → (step desc s name verb).session.next ≡ s.next → (n : ℕ) → (step desc s name verb).sync ≡ Some n → ⊥
  silent_wait s name verb same n is = absurd (omega (arith, step_numbers desc s name verb, same, (own_at _ s (step desc s name verb) (quiet_rule desc s name verb) n is).1))

  tried_leads : (g : RunState) (name : List ℕ) (verb : Verb) (b : Bool) → is_waits (step desc g.session name verb).reply ≡ b → K g.session → V name verb → Spoke g.waiting
      → Leads g.session (first_try_effect desc g name verb (counts_of desc g.session name verb) (step desc g.session name verb))
  tried_leads g name verb true waits k v a =
      let o = step desc g.session name verb in
      let same : o.session.next ≡ g.session.next = ap (λ (t : Session). t.next) ((step_small desc g.session name verb).waits waits) in
      subst (Leads g.session) (sym (tried_waits desc g name verb (counts_of desc g.session name verb) o waits))
      (waiting_leads g.session o.session g (first_line g.line name verb true) (calls (counts_of desc g.session name verb) verb o ∷ []) (says (answer_text g.line name o.reply o.sync) ∷ []) (nat_le 10000 (length g.waiting)) a v
      (tells_call g.session name verb k v)
      (tells_says o.session _ (p.keeps g.session name verb v k) (plain_answer g.line name o.reply o.sync (p.reply g.line g.session name verb v k) (silent_wait g.session name verb same))))
  tried_leads g name verb false waits k v a =
      let o = step desc g.session name verb in
      subst (Leads g.session) (sym (tried_answered desc g name verb (counts_of desc g.session name verb) o waits))
      (behind_leads g.session o.session g.line (calls (counts_of desc g.session name verb) verb o ∷ says (answer_text g.line name o.reply o.sync) ∷ []) _ (tells_answer g.session g.line name verb k v) (retries_tell (length g.waiting) o.session g.waiting (p.keeps g.session name verb v k) a))

  skipped : (g : RunState) (name : List ℕ) (verb : Verb) (b : Bool) → K g.session → V name verb → Spoke g.waiting
      → Leads g.session (cond b (put_to_wait g g.session (first_line g.line name verb false) [] []) (first_try_effect desc g name verb (counts_of desc g.session name verb) (step desc g.session name verb)))
  skipped g name verb true k v a = waiting_leads g.session g.session g (first_line g.line name verb false) [] [] (nat_le 10000 (length g.waiting)) a v (tells_none g.session k) (tells_none g.session k)
  skipped g name verb false k v a = tried_leads g name verb (is_waits (step desc g.session name verb).reply) refl k v a

  spoken_leads : (g : RunState) (l : Line) → ((name : List ℕ) (verb : Verb) → l ≡ Spoken name verb → V name verb) → K g.session → Spoke g.waiting → Leads g.session (line_effect desc g l)
  spoken_leads g Empty says_it k a = record { tells = tells_none g.session k; waiting = a }
  spoken_leads g (Bad place) says_it k a = behind_leads g.session g.session g.line (says (bad_text g.line place) ∷ []) _ (tells_says g.session _ k (p.bad g.line place)) (retries_tell (length g.waiting) g.session g.waiting k a)
  spoken_leads g (Spoken name verb) says_it k a = skipped g name verb (has_line g.waiting name) k (says_it name verb refl) a

  step_leads : (g : RunState) (raw : List ℕ) → K g.session → Spoke g.waiting → Leads g.session (line_step desc g raw)
  unfolding line_step
  step_leads g raw k a = spoken_leads (one_line_more g) (line_of desc (line_text raw)) (λ name verb is. p.spoken (line_text raw) name verb is) k a

  full_leads : (b : Bool) (s : Session) (l m : LineEffect) → Leads s l → Leads l.going.session m → Leads s (cond b l (lines_before l m))
  full_leads true s l m f g = f
  full_leads false s l m f g = record { tells = tells_on s l.going.session m.going.session l.events m.events f.tells g.tells; waiting = g.waiting }

  run_leads : (g : RunState) (lines : List (List ℕ)) → K g.session → Spoke g.waiting → Leads g.session (lines_run desc g lines)
  unfolding lines_run
  run_leads g [] k a = record { tells = tells_none g.session k; waiting = a }
  run_leads g (l ∷ ls) k a =
      let f = step_leads g l k a in
      full_leads (line_step desc g l).full g.session (line_step desc g l) (lines_run desc (line_step desc g l).going ls) f (run_leads (line_step desc g l).going ls f.tells.clean f.waiting)

  -- the end

  unanswered_tells : (s : Session) (waiting : List WaitingLine) → K s → Spoke waiting → Tells s s (unanswered_events waiting)
  unanswered_tells s [] k a = tells_none s k
  unanswered_tells s (h ∷ hs) k a = tells_on s s s (says (unanswered_text h.line h.program) ∷ []) (unanswered_events hs) (tells_says s _ k (p.waiting h.line h.program h.verb a.0)) (unanswered_tells s hs k a.1)

  back_tells : (works : Bool) (s : Session) → K s → Tells s s (goes_back works ∷ [])
  back_tells works s k = record { clean = k; next = omega arith; numbered = tt; points = tt; honest = λ first count durable at within. (refl, (tt, tt)) }

  whole_run : (db : Db) (first : ℕ) (lines : List (List ℕ)) → K (fresh_session db first) → Tells (fresh_session db first) (script_run desc db first lines).going.session (script_events desc db first lines)
  unfolding script_events
  whole_run db first lines k =
      let r = script_run desc db first lines in
      let f = run_leads (first_state db first) lines k tt in
      let s = r.going.session in
      let u = tells_on s s s _ _ (unanswered_tells s r.going.waiting f.tells.clean f.waiting) (back_tells (someone_works s.programs) s f.tells.clean) in
      tells_on (fresh_session db first) s s _ _ f.tells u

  pub true_run : (db : Db) (first : ℕ) (lines : List (List ℕ)) → K (fresh_session db first) → IsTrueRun first Q (script_events desc db first lines)
  true_run db first lines k =
      let all = whole_run db first lines k in
      record { honest = all.honest first 0 0 (omega arith) (omega arith); numbered = all.numbered; points = all.points }

  -- each quiet point uses up one number
  pub run_next : (db : Db) (first : ℕ) (lines : List (List ℕ)) → K (fresh_session db first) → (script_run desc db first lines).going.session.next ≡ first + length (quiets_of (script_events desc db first lines))
  run_next db first lines k = (whole_run db first lines k).next
