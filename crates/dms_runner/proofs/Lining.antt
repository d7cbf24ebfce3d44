-- What one line does and leaves.
use Rattle.dms_model.specs.Seen.{Seen}
use Rattle.std.proofs.Common.{◌≡◌, ◌+◌, ◌<◌, ◌≤◌, ℕ, List, [], ◌∷◌, ◌++◌, Bool, true, false, cond, nat_le, nat_lt, refl, sym, ap, ◌∙◌, subst, arith, length, length-append, take, length-take}
use Rattle.std.specs.declared.option.Option.{Option}
use Rattle.std.proofs.lemmas.List.{take_all}
use Rattle.std.proofs.lemmas.Bool.Decides.{nat_tests}
use Rattle.dms_desc.specs.Shape.{Described}
use Rattle.dms_feed.specs.Lines.{is_end, line_text}
use Rattle.dms_model.specs.declared.verb.Verb.{Verb}
use Rattle.dms_model.specs.declared.reply.Reply.{Reply}
use Rattle.dms_model.specs.Counting.{counts_of}
use Rattle.dms_model.specs.Session.{Session, Outcome, step, is_waits}
use Rattle.dms_model.proofs.Rises.{step_small}
use Rattle.dms_script.specs.declared.line.Line.{Line}
use Rattle.dms_script.specs.declared.line.Line.TheVariants.{Empty, Verb as Spoken, Bad}
use Rattle.dms_script.specs.Lines.{line_of}
use Rattle.dms_storeverbs.specs.View.{View, StandsFor}
use Rattle.dms_runner.specs.declared.waiting.WaitingLine.{WaitingLine}
use Rattle.dms_runner.specs.Waiting.{has_line, answer_text, retries, events_before}
use Rattle.dms_runner.specs.Events.{Fate, RunEvent, Performs, PerformsPrefix, calls, says, text_of}
use Rattle.dms_runner.specs.Answers.{RunState, LineEffect, nothing_done, after_retries, put_to_wait, first_line, first_try_effect, tried_first, line_effect, one_line_more, line_step}
use Rattle.dms_runner.specs.Trying.{PerformsRetries, MatchesLine}
use Rattle.dms_runner.proofs.Happening.{ran_none, ran_on}
use Rattle.dms_runner.proofs.Turns.{retries_low}

-- the number of the next quiet point and the waiting lines grow by one at most, taken together; the count of lines stays
abbrev pub LinedLow : RunState → LineEffect → Type 0
LinedLow g l = (l.going.session.next + length l.going.waiting ≤ g.session.next + length g.waiting + 1) × (l.going.line ≡ g.line)

waiting_low : (g : RunState) (s : Session) (h : WaitingLine) (first_try_effect said : List RunEvent) (b : Bool) → s.next ≡ g.session.next
    → LinedLow g (cond b (record { going = record g { session = s }; events = first_try_effect; full = true }) (record { going = record { session = s; waiting = g.waiting ++ h ∷ []; line = g.line }; events = first_try_effect ++ said; full = false }))
waiting_low g s h first_try_effect said true same = (omega (arith, same), refl)
waiting_low g s h first_try_effect said false same = (omega (arith, same, length-append g.waiting (h ∷ [])), refl)

pub tried_waits : (desc : Described) (g : RunState) (name : List ℕ) (verb : Verb) (count : ℕ) (o : Outcome) → is_waits o.reply ≡ true → first_try_effect desc g name verb count o ≡ put_to_wait g o.session (first_line g.line name verb true) (calls count verb o ∷ []) (says (answer_text g.line name o.reply o.sync) ∷ [])
tried_waits desc g name verb count o waits = rw waits refl

pub tried_answered : (desc : Described) (g : RunState) (name : List ℕ) (verb : Verb) (count : ℕ) (o : Outcome) → is_waits o.reply ≡ false
    → first_try_effect desc g name verb count o ≡ after_retries g.line (events_before (calls count verb o ∷ says (answer_text g.line name o.reply o.sync) ∷ []) (retries (length g.waiting) desc o.session g.waiting))
tried_answered desc g name verb count o waits = rw waits refl

tried_low : (desc : Described) (g : RunState) (name : List ℕ) (verb : Verb) (b : Bool) → is_waits (step desc g.session name verb).reply ≡ b → LinedLow g (tried_first desc g name verb)
tried_low desc g name verb true waits =
    let o = step desc g.session name verb in
    subst (LinedLow g) (sym (tried_waits desc g name verb (counts_of desc g.session name verb) o waits)) (waiting_low g o.session (first_line g.line name verb true) (calls (counts_of desc g.session name verb) verb o ∷ []) (says (answer_text g.line name o.reply o.sync) ∷ []) (nat_le 10000 (length g.waiting)) (ap (λ (s : Session). s.next) ((step_small desc g.session name verb).waits waits)))
tried_low desc g name verb false waits =
    let o = step desc g.session name verb in
    subst (LinedLow g) (sym (tried_answered desc g name verb (counts_of desc g.session name verb) o waits)) (omega (arith, (step_small desc g.session name verb).high, retries_low (length g.waiting) desc o.session g.waiting), refl)

spoken_low : (desc : Described) (g : RunState) (l : Line) → LinedLow g (line_effect desc g l)
spoken_low desc g Empty = (omega arith, refl)
spoken_low desc g (Bad place) = (omega (arith, retries_low (length g.waiting) desc g.session g.waiting), refl)
spoken_low desc g (Spoken name verb) = at (has_line g.waiting name)
  where
    at : (b : Bool) → LinedLow g (cond b (put_to_wait g g.session (first_line g.line name verb false) [] []) (tried_first desc g name verb))
    at true = waiting_low g g.session (first_line g.line name verb false) [] [] (nat_le 10000 (length g.waiting)) refl
    at false = tried_low desc g name verb (is_waits (step desc g.session name verb).reply) refl

pub line_low : (desc : Described) (g : RunState) (raw : List ℕ) → LinedLow (one_line_more g) (line_step desc g raw)
unfolding line_step
line_low desc g raw = spoken_low desc (one_line_more g) (line_of desc (line_text raw))

-- a line of more bytes than are kept of it is bad at the same place
end_short : (b : ℕ) (bs : List ℕ) → is_end (b ∷ bs) ≡ true → length (b ∷ bs) ≤ 2
end_short b [] e = omega arith
end_short b (c ∷ []) e = omega arith
end_short b (c ∷ d ∷ ds) e = absurd (cc)

text_long : (t : Bool) (b : ℕ) (bs : List ℕ) → t ≡ is_end (b ∷ bs) → length bs ≤ length (line_text bs) + 2 → length (b ∷ bs) ≤ length (cond t [] (b ∷ line_text bs)) + 2
text_long true b bs e h = omega (arith, end_short b bs (sym e))
text_long false b bs e h = omega (arith, h)

-- a line's end has two bytes at most
pub line_text_long : (l : List ℕ) → length l ≤ length (line_text l) + 2
line_text_long [] = omega arith
line_text_long (b ∷ bs) = text_long (is_end (b ∷ bs)) b bs refl (line_text_long bs)

long_bad : (desc : Described) (l : List ℕ) → 2000 < length l → line_of desc l ≡ Bad 2001
unfolding line_of
long_bad desc l long = let e : nat_lt 2000 (length l) ≡ true = grind (arith, nat_tests) in rw e refl

pub kept_line : (desc : Described) (raw : List ℕ) → line_of desc (line_text (take 2003 raw)) ≡ line_of desc (line_text raw)
kept_line desc raw = at (nat_le (length raw) 2003) refl
  where
    at : (b : Bool) → b ≡ nat_le (length raw) 2003 → line_of desc (line_text (take 2003 raw)) ≡ line_of desc (line_text raw)
    at true e = let short : length raw ≤ 2003 = grind (arith, nat_tests) in ap (λ (l : List ℕ). line_of desc (line_text l)) (take_all 2003 raw short)
    at false e =
        let long : 2003 < length raw = grind (arith, nat_tests) in
        long_bad desc (line_text (take 2003 raw)) (omega (arith, long, length-take 2003 raw, line_text_long (take 2003 raw)))
        ∙ sym (long_bad desc (line_text raw) (omega (arith, long, line_text_long raw)))

-- a line that is empty
pub goes_empty : (g : RunState) (v : View) (waiting : List WaitingLine) (now : Seen) → StandsFor v g.session → waiting ≡ g.waiting → MatchesLine (nothing_done g) true v waiting now now
goes_empty g v waiting now stands same = record { full = refl; session = stands; waiting_is = same; ran = ran_none now }

-- a line was answered, and the waiting lines were retried
pub goes_retried : (desc : Described) (g : RunState) (s : Session) (events : List RunEvent) (w : View) (waiting : List WaitingLine) (before mid after : Seen)
    → Performs before mid events → PerformsRetries (retries (length g.waiting) desc s g.waiting) w waiting mid after → MatchesLine (after_retries g.line (events_before events (retries (length g.waiting) desc s g.waiting))) true w waiting before after
goes_retried desc g s events w waiting before mid after first then_ = record {
  full = refl;
  session = then_.session;
  waiting_is = then_.waiting_is;
  ran = ran_on before mid after events (retries (length g.waiting) desc s g.waiting).events first then_.ran;
}

-- a line is held
pub goes_waiting : (g : RunState) (s : Session) (h : WaitingLine) (first_try_effect said : List RunEvent) (v : View) (waiting : List WaitingLine) (before after : Seen)
    → length g.waiting < 10000 → StandsFor v s → waiting ≡ g.waiting ++ h ∷ [] → Performs before after (first_try_effect ++ said) → MatchesLine (put_to_wait g s h first_try_effect said) true v waiting before after
goes_waiting g s h first_try_effect said v waiting before after room stands same ran =
    let e : nat_le 10000 (length g.waiting) ≡ false = grind (arith, nat_tests) in
    rw e (record { full = refl; session = stands; waiting_is = same; ran = ran })

-- a line would be one too many
pub goes_full : (g : RunState) (s : Session) (h : WaitingLine) (first_try_effect said : List RunEvent) (v : View) (waiting : List WaitingLine) (before after : Seen)
    → 10000 ≤ length g.waiting → StandsFor v s → waiting ≡ g.waiting → Performs before after first_try_effect → MatchesLine (put_to_wait g s h first_try_effect said) false v waiting before after
goes_full g s h first_try_effect said v waiting before after over stands same ran =
    let e : nat_le 10000 (length g.waiting) ≡ true = grind (arith, nat_tests) in
    rw e (record { full = refl; session = stands; waiting_is = same; ran = ran })

pub spoken_waiting : (desc : Described) (g : RunState) (name : List ℕ) (verb : Verb) → has_line g.waiting name ≡ true → line_effect desc g (Spoken name verb) ≡ put_to_wait g g.session (first_line g.line name verb false) [] []
spoken_waiting desc g name verb has = rw has refl

pub spoken_tried : (desc : Described) (g : RunState) (name : List ℕ) (verb : Verb) → has_line g.waiting name ≡ false → line_effect desc g (Spoken name verb) ≡ tried_first desc g name verb
spoken_tried desc g name verb has = rw has refl

-- the retries over the same list
pub retries_from : (d e : Described) (s : Session) (l m : List WaitingLine) (v : View) (waiting : List WaitingLine) (before after : Seen) → d ≡ e → l ≡ m
    → PerformsRetries (retries (length l) d s l) v waiting before after → PerformsRetries (retries (length m) e s m) v waiting before after
retries_from d e s l m v waiting before after p q x =
    subst (λ (k : List WaitingLine). PerformsRetries (retries (length k) e s k) v waiting before after) q (subst (λ (k : Described). PerformsRetries (retries (length l) k s l) v waiting before after) p x)

pub retries_part_from : {fate : Fate} (d e : Described) (s : Session) (l m : List WaitingLine) (before after : Seen) → d ≡ e → l ≡ m → PerformsPrefix fate before after (retries (length l) d s l).events → PerformsPrefix fate before after (retries (length m) e s m).events
retries_part_from {fate} d e s l m before after p q x =
    subst (λ (k : List WaitingLine). PerformsPrefix fate before after (retries (length k) e s k).events) q (subst (λ (k : Described). PerformsPrefix fate before after (retries (length l) k s l).events) p x)

pub says_answer : (l m : ℕ) (name : List ℕ) (r q : Reply) (s t : Option ℕ) → l ≡ m → r ≡ q → s ≡ t → says (answer_text l name r s) ∷ [] ≡ says (answer_text m name q t) ∷ []
says_answer l m name r q s t a b c =
    ap (λ (n : ℕ). says (answer_text n name r s) ∷ []) a ∙ ap (λ (x : Reply). says (answer_text m name x s) ∷ []) b ∙ ap (λ (x : Option ℕ). says (answer_text m name q x) ∷ []) c

-- a first try begins with its call
pub tried_starts : (desc : Described) (g : RunState) (name : List ℕ) (verb : Verb) (count : ℕ) (o : Outcome) → (rest : List RunEvent) × ((first_try_effect desc g name verb count o).events ≡ calls count verb o ∷ rest)
tried_starts desc g name verb count o = at (is_waits o.reply) (nat_le 10000 (length g.waiting))
  where
    at : (b c : Bool) → (rest : List RunEvent)
        × ((cond b (cond c (record { going = record g { session = o.session }; events = calls count verb o ∷ []; full = true }) (record { going = record { session = o.session; waiting = g.waiting ++ first_line g.line name verb true ∷ []; line = g.line }; events = calls count verb o ∷ says (answer_text g.line name o.reply o.sync) ∷ []; full = false }))
        (after_retries g.line (events_before (calls count verb o ∷ says (answer_text g.line name o.reply o.sync) ∷ []) (retries (length g.waiting) desc o.session g.waiting)))).events ≡ calls count verb o ∷ rest)
    at true true = (_, refl)
    at true false = (_, refl)
    at false c = (_, refl)

-- the same line, told otherwise
pub lined_as : (l m : LineEffect) (on : Bool) (v : View) (waiting : List WaitingLine) (before after : Seen) → l ≡ m → MatchesLine l on v waiting before after → MatchesLine m on v waiting before after
lined_as l m on v waiting before after is goes = subst (λ (x : LineEffect). MatchesLine x on v waiting before after) is goes

pub full_events : (g : RunState) (s : Session) (h : WaitingLine) (first_try_effect said : List RunEvent) → 10000 ≤ length g.waiting → (put_to_wait g s h first_try_effect said).events ≡ first_try_effect
full_events g s h first_try_effect said over = let e : nat_le 10000 (length g.waiting) ≡ true = grind (arith, nat_tests) in rw e refl

pub waiting_events : (g : RunState) (s : Session) (h : WaitingLine) (first_try_effect said : List RunEvent) → length g.waiting < 10000 → (put_to_wait g s h first_try_effect said).events ≡ first_try_effect ++ said
waiting_events g s h first_try_effect said room = let e : nat_le 10000 (length g.waiting) ≡ false = grind (arith, nat_tests) in rw e refl

pub line_is : (desc : Described) (g : RunState) (whole raw text : List ℕ) (l : Line) → raw ≡ take 2003 whole → text ≡ line_text raw → l ≡ line_of desc text → line_step desc g whole ≡ line_effect desc (one_line_more g) l
unfolding line_step
line_is desc g whole raw text l kept cut is =
    ap (line_effect desc (one_line_more g)) (sym (is ∙ ap (line_of desc) (cut ∙ ap line_text kept) ∙ kept_line desc whole))

-- a line that would be one too many to hold says nothing
abbrev Silent : LineEffect → Type 0
Silent l = l.full ≡ true → text_of l.events ≡ []

waiting_silent : (g : RunState) (s : Session) (h : WaitingLine) (first_try_effect said : List RunEvent) (b : Bool) → text_of first_try_effect ≡ []
    → Silent (cond b (record { going = record g { session = s }; events = first_try_effect; full = true }) (record { going = record { session = s; waiting = g.waiting ++ h ∷ []; line = g.line }; events = first_try_effect ++ said; full = false }))
waiting_silent g s h first_try_effect said true none = λ full. none
waiting_silent g s h first_try_effect said false none = λ full. absurd (cc)

tried_silent : (desc : Described) (g : RunState) (name : List ℕ) (verb : Verb) (b : Bool) → is_waits (step desc g.session name verb).reply ≡ b → Silent (tried_first desc g name verb)
tried_silent desc g name verb true waits =
    let o = step desc g.session name verb in
    subst Silent (sym (tried_waits desc g name verb (counts_of desc g.session name verb) o waits)) (waiting_silent g o.session (first_line g.line name verb true) (calls (counts_of desc g.session name verb) verb o ∷ []) (says (answer_text g.line name o.reply o.sync) ∷ []) (nat_le 10000 (length g.waiting)) refl)
tried_silent desc g name verb false waits = subst Silent (sym (tried_answered desc g name verb (counts_of desc g.session name verb) (step desc g.session name verb) waits)) (λ full. absurd (cc))

spoken_silent : (desc : Described) (g : RunState) (l : Line) → Silent (line_effect desc g l)
spoken_silent desc g Empty = λ full. absurd (cc)
spoken_silent desc g (Bad place) = λ full. absurd (cc)
spoken_silent desc g (Spoken name verb) = at (has_line g.waiting name)
  where
    at : (b : Bool) → Silent (cond b (put_to_wait g g.session (first_line g.line name verb false) [] []) (tried_first desc g name verb))
    at true = waiting_silent g g.session (first_line g.line name verb false) [] [] (nat_le 10000 (length g.waiting)) refl
    at false = tried_silent desc g name verb (is_waits (step desc g.session name verb).reply) refl

pub line_silent : (desc : Described) (g : RunState) (raw : List ℕ) → (line_step desc g raw).full ≡ true → text_of (line_step desc g raw).events ≡ []
unfolding line_step
line_silent desc g raw = spoken_silent desc (one_line_more g) (line_of desc (line_text raw))
