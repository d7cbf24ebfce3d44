-- What each step keeps of a session, lines keep; and the verbs of the lines that wait are such as lines have.
use Rattle.std.proofs.Common.{◌≡◌, ℕ, zero, suc, List, [], ◌∷◌, ◌++◌, Bool, true, false, cond, nat_le, length, refl}
use Rattle.std.specs.List.{AllByRecursion}
use Rattle.dms_desc.specs.Shape.{Described}
use Rattle.dms_feed.specs.Lines.{line_text}
use Rattle.dms_model.specs.declared.verb.Verb.{Verb}
use Rattle.dms_model.specs.Session.{Session, step, is_waits}
use Rattle.dms_script.specs.declared.line.Line.{Line}
use Rattle.dms_script.specs.declared.line.Line.TheVariants.{Empty, Verb as Spoken, Bad}
use Rattle.dms_script.specs.Lines.{line_of}
use Rattle.dms_runner.specs.declared.waiting.WaitingLine.{WaitingLine}
use Rattle.dms_runner.specs.Answers.{RunState, LineEffect, first_line, line_effect, line_step, lines_before, lines_run, one_line_more, put_to_wait}
use Rattle.dms_runner.specs.Events.{RunEvent}
use Rattle.dms_runner.specs.Waiting.{has_line, said_to_wait, RetryEffect, retries, retry, retry_after_answer}

module _ (K : Session → Type 0) (V : Verb → Type 0) (desc : Described) (speaks : (line : List ℕ) (name : List ℕ) (verb : Verb) → line_of desc line ≡ Spoken name verb → V verb)
    (keeps : (s : Session) (name : List ℕ) (verb : Verb) → V verb → K s → K (step desc s name verb).session) where
  -- the waiting lines

  abbrev pub HaveVerbs : List WaitingLine → Type 0
  HaveVerbs waiting = AllByRecursion (λ (h : WaitingLine). V h.verb) waiting

  -- a session and the lines that wait in it
  pub record KeptWith (s : Session) (waiting : List WaitingLine) : Type 0 where
    pub kept : K s
    pub verbs : HaveVerbs waiting

  verbs_on : (xs ys : List WaitingLine) → HaveVerbs xs → HaveVerbs ys → HaveVerbs (xs ++ ys)
  verbs_on [] ys p q = q
  verbs_on (x ∷ xs) ys p q = (p.0, verbs_on xs ys p.1 q)

  abbrev RetryKept : RetryEffect → Type 0
  RetryKept x = KeptWith x.session x.waiting

  if_kept : (b : Bool) (x y : RetryEffect) → RetryKept x → RetryKept y → RetryKept (cond b x y)
  if_kept true x y h k = h
  if_kept false x y h k = k

  pub retry_kept : (s : Session) (front waiting : List WaitingLine) → K s → HaveVerbs front → HaveVerbs waiting → KeptWith (retry desc s front waiting).session (retry desc s front waiting).waiting
  unfolding retry
  retry_kept s front [] held passed verbs = record { kept = held; verbs = passed }
  retry_kept s front (h ∷ hs) held passed verbs =
      let o = step desc s h.program h.verb in
      let tried = keeps s h.program h.verb verbs.0 held in
      if_kept (has_line front h.program) _ _ (retry_kept s (front ++ h ∷ []) hs held (verbs_on front (h ∷ []) passed (verbs.0, tt)) verbs.1)
      (if_kept (is_waits o.reply) _ _ (retry_kept o.session (front ++ said_to_wait h ∷ []) hs tried (verbs_on front (said_to_wait h ∷ []) passed (verbs.0, tt)) verbs.1) (record { kept = tried; verbs = verbs_on front hs passed verbs.1 }))

  after_kept : (b : Bool) (first rest : RetryEffect) → RetryKept first → RetryKept rest → RetryKept (retry_after_answer b first rest)
  after_kept true first rest h k = k
  after_kept false first rest h k = h

  pub retries_kept : (n : ℕ) (s : Session) (waiting : List WaitingLine) → K s → HaveVerbs waiting → KeptWith (retries n desc s waiting).session (retries n desc s waiting).waiting
  unfolding retries
  retries_kept zero s waiting held verbs = record { kept = held; verbs = verbs }
  retries_kept (suc n) s waiting held verbs =
      let x = retry desc s [] waiting in
      let first = retry_kept s [] waiting held tt verbs in
      after_kept x.answered x (retries n desc x.session x.waiting) first (retries_kept n x.session x.waiting first.kept first.verbs)

  -- a line

  abbrev LeavesKept : LineEffect → Type 0
  LeavesKept l = KeptWith l.going.session l.going.waiting

  leaves_if : (b : Bool) (x y : LineEffect) → LeavesKept x → LeavesKept y → LeavesKept (cond b x y)
  leaves_if true x y h k = h
  leaves_if false x y h k = k

  waits_kept : (g : RunState) (s : Session) (h : WaitingLine) (first said : List RunEvent) → K s → V h.verb → HaveVerbs g.waiting → LeavesKept (put_to_wait g s h first said)
  waits_kept g s h first said held own verbs = leaves_if (nat_le 10000 (length g.waiting)) _ _ (record { kept = held; verbs = verbs }) (record { kept = held; verbs = verbs_on g.waiting (h ∷ []) verbs (own, tt) })

  effect_kept : (g : RunState) (l : Line) → ((name : List ℕ) (verb : Verb) → l ≡ Spoken name verb → V verb) → K g.session → HaveVerbs g.waiting → LeavesKept (line_effect desc g l)
  effect_kept g Empty says held verbs = record { kept = held; verbs = verbs }
  effect_kept g (Bad place) says held verbs = retries_kept (length g.waiting) g.session g.waiting held verbs
  effect_kept g (Spoken name verb) says held verbs =
      let o = step desc g.session name verb in
      let own = says name verb refl in
      let tried = keeps g.session name verb own held in
      leaves_if (has_line g.waiting name) _ _ (waits_kept g g.session (first_line g.line name verb false) [] [] held own verbs)
      (leaves_if (is_waits o.reply) _ _ (waits_kept g o.session (first_line g.line name verb true) _ _ tried own verbs) (retries_kept (length g.waiting) o.session g.waiting tried verbs))

  pub line_kept : (g : RunState) (raw : List ℕ) → K g.session → HaveVerbs g.waiting → KeptWith (line_step desc g raw).going.session (line_step desc g raw).going.waiting
  unfolding line_step
  line_kept g raw held verbs = effect_kept (one_line_more g) (line_of desc (line_text raw)) (speaks (line_text raw)) held verbs

  -- the lines of a script

  pub run_kept : (g : RunState) (lines : List (List ℕ)) → K g.session → HaveVerbs g.waiting → KeptWith (lines_run desc g lines).going.session (lines_run desc g lines).going.waiting
  unfolding lines_run
  run_kept g [] held verbs = record { kept = held; verbs = verbs }
  run_kept g (l ∷ ls) held verbs =
      let s = line_step desc g l in
      let one = line_kept g l held verbs in
      leaves_if s.full s (lines_before s (lines_run desc s.going ls)) one (run_kept s.going ls one.kept one.verbs)
