-- How a run goes on from line to line, and where it stops.
use Rattle.dms_model.specs.Seen.{Seen}
use Rattle.std.proofs.Common.{◌≡◌, ◌≢◌, ◌+◌, ◌<◌, ◌≤◌, ◌^◌, ℕ, List, [], ◌∷◌, ◌++◌, Bool, true, false, cond, eqb, refl, sym, ap, ◌∙◌, subst, arith, append_assoc, length, length-append, take}
use Rattle.std.specs.declared.option.Option.{Option}
use Rattle.std.proofs.lemmas.List.{append-nil, take_at}
use Rattle.dms_desc.specs.Shape.{Described}
use Rattle.dms_desc_bytes.specs.WellFormed.{IsWellFormed}
use Rattle.dms_feed.specs.Feeds.{Remains}
use Rattle.dms_feed.specs.Lines.{raw_lines, first_line, after_line, onto_first}
use Rattle.dms_model.specs.Db.{Db}
use Rattle.dms_block.specs.Texts.{Prints}
use Rattle.dms_model.specs.Session.{Session}
use Rattle.dms_storeverbs.specs.View.{View, StandsFor}
use Rattle.dms_runner.specs.declared.waiting.WaitingLine.{WaitingLine}
use Rattle.dms_runner.proofs.InOrder.{first_in_order, line_in_order}
use Rattle.dms_runner.specs.Answers.{RunState, LineEffect, IsInOrder, MayTakeLine, nothing_done, line_step, lines_run, lines_before, first_state, script_run}
use Rattle.dms_runner.specs.Events.{Fate, RunEvent, Performs, PerformsPrefix, text_of}
use Rattle.dms_feed.specs.Raws.{CutLine, IsUnended, has_end}
use Rattle.dms_runner.specs.Running.{AreEnded, bytes_of, front_events, text_of_lines, FitsScript, HasTooManyBytes, HasTooManyLines, InputBreaks, KeepsFront, TakesRawLine, TakesLines, PassesLines, PassesBytes, PassesWaiting, CutInput}
use Rattle.dms_runner.specs.Trying.{MatchesLine}
use Rattle.dms_runner.specs.Waiting.{AreVerbs}
use Rattle.dms_runner.proofs.Texts.{prints_on}
use Rattle.dms_runner.proofs.Answered.{run_answered}
use Rattle.dms_runner.proofs.Happening.{ran_as, ran_none, ran_on, part_as, part_on}
use Rattle.dms_runner.proofs.Lining.{line_low}

-- Lines of a text

at_test : (t : Bool) (b : ℕ) (bs : List ℕ) → onto_first b (raw_lines bs) ≡ (b ∷ first_line bs) ∷ raw_lines (after_line bs) → cond t ((b ∷ []) ∷ raw_lines bs) (onto_first b (raw_lines bs)) ≡ cond t (b ∷ []) (b ∷ first_line bs) ∷ raw_lines (cond t bs (after_line bs))
at_test true b bs h = refl
at_test false b bs h = h

first_of_lines : (b : ℕ) (bs : List ℕ) → raw_lines (b ∷ bs) ≡ first_line (b ∷ bs) ∷ raw_lines (after_line (b ∷ bs))
first_of_lines b [] = at_test (eqb b 10) b [] refl
first_of_lines b (c ∷ cs) = at_test (eqb b 10) b (c ∷ cs) (ap (onto_first b) (first_of_lines c cs))

-- a text with bytes has a first line, and those of what follows it
pub lines_step : (all : List ℕ) → all ≢ [] → raw_lines all ≡ first_line all ∷ raw_lines (after_line all)
lines_step [] some = absurd (some refl)
lines_step (b ∷ bs) some = first_of_lines b bs

bytes_on : (xs ys : List (List ℕ)) → bytes_of (xs ++ ys) ≡ bytes_of xs + bytes_of ys
bytes_on [] ys = omega arith
bytes_on (x ∷ xs) ys = omega (arith, bytes_on xs ys)

-- a text is its first line and what follows it
pub first_joined : (all : List ℕ) → first_line all ++ after_line all ≡ all
first_joined [] = refl
first_joined (b ∷ bs) = at (eqb b 10) (first_joined bs)
  where
    at : (t : Bool) → first_line bs ++ after_line bs ≡ bs → cond t (b ∷ []) (b ∷ first_line bs) ++ cond t bs (after_line bs) ≡ b ∷ bs
    at true h = refl
    at false h = ap (λ (l : List ℕ). b ∷ l) h

-- behind a line without a line feed nothing follows
pub nothing_after : (all : List ℕ) → IsUnended (first_line all) → after_line all ≡ []
nothing_after [] none = refl
nothing_after (b ∷ bs) none = at (eqb b 10) refl (nothing_after bs) none
  where
    at : (t : Bool) → t ≡ eqb b 10 → (has_end (first_line bs) ≡ false → after_line bs ≡ []) → has_end (cond t (b ∷ []) (b ∷ first_line bs)) ≡ false → cond t bs (after_line bs) ≡ []
    at true is later h = let e : eqb b 10 ≡ true = sym is in absurd (let no : true ≡ false = rw e at h in cc)
    at false is later h = let e : eqb b 10 ≡ false = sym is in later (rw e at h)

pub joined_on : (xs ys : List (List ℕ)) → text_of_lines (xs ++ ys) ≡ text_of_lines xs ++ text_of_lines ys
joined_on [] ys = refl
joined_on (x ∷ xs) ys = ap (λ (l : List ℕ). x ++ l) (joined_on xs ys) ∙ sym (append_assoc x (text_of_lines xs) (text_of_lines ys))

-- one line more stands before what follows it
joined_step : (all rest : List ℕ) (done : List (List ℕ)) → all ≡ text_of_lines done ++ rest → all ≡ text_of_lines (done ++ first_line rest ∷ []) ++ after_line rest
joined_step all rest done is =
    let l = first_line rest in
    is ∙ ap (λ (r : List ℕ). text_of_lines done ++ r) (sym (first_joined rest)) ∙ sym (append_assoc (text_of_lines done) l (after_line rest))
    ∙ ap (λ (k : List ℕ). (text_of_lines done ++ k) ++ after_line rest) (sym (append-nil l)) ∙ ap (λ (k : List ℕ). k ++ after_line rest) (sym (joined_on done (l ∷ [])))

-- The fold over lines

pub run_none : (desc : Described) (g : RunState) → lines_run desc g [] ≡ nothing_done g
unfolding lines_run
run_none desc g = refl

pub run_step : (desc : Described) (g : RunState) (l : List ℕ) (ls : List (List ℕ)) → (line_step desc g l).full ≡ false → lines_run desc g (l ∷ ls) ≡ lines_before (line_step desc g l) (lines_run desc (line_step desc g l).going ls)
unfolding lines_run
run_step desc g l ls room = rw room refl

pub run_full : (desc : Described) (g : RunState) (l : List ℕ) (ls : List (List ℕ)) → (line_step desc g l).full ≡ true → lines_run desc g (l ∷ ls) ≡ line_step desc g l
unfolding lines_run
run_full desc g l ls full = rw full refl

onto_again : (a b c : LineEffect) → lines_before a (lines_before b c) ≡ lines_before (lines_before a b) c
onto_again a b c = λ j. record c { events = sym (append_assoc a.events b.events c.events) j }

not_both : (b : Bool) (X : Type 0) → b ≡ true → b ≡ false → X
not_both true X p q = absurd (cc)
not_both false X p q = absurd (cc)

-- lines behind lines
pub run_on : (desc : Described) (g : RunState) (xs ys : List (List ℕ)) → (lines_run desc g xs).full ≡ false → lines_run desc g (xs ++ ys) ≡ lines_before (lines_run desc g xs) (lines_run desc (lines_run desc g xs).going ys)
run_on desc g [] ys room = sym (ap (λ (l : LineEffect). lines_before l (lines_run desc l.going ys)) (run_none desc g))
run_on desc g (x ∷ xs) ys room = at (line_step desc g x).full refl (run_on desc (line_step desc g x).going xs ys)
  where
    s : LineEffect
    s = line_step desc g x

    at : (b : Bool) → s.full ≡ b → ((lines_run desc s.going xs).full ≡ false → lines_run desc s.going (xs ++ ys) ≡ lines_before (lines_run desc s.going xs) (lines_run desc (lines_run desc s.going xs).going ys))
        → lines_run desc g (x ∷ (xs ++ ys)) ≡ lines_before (lines_run desc g (x ∷ xs)) (lines_run desc (lines_run desc g (x ∷ xs)).going ys)
    at true is rest = not_both s.full _ is (sym (ap (λ (l : LineEffect). l.full) (run_full desc g x xs is)) ∙ room)
    at false is rest =
        let e : lines_run desc g (x ∷ xs) ≡ lines_before s (lines_run desc s.going xs) = run_step desc g x xs is in
        let r : (lines_run desc s.going xs).full ≡ false = sym (ap (λ (l : LineEffect). l.full) e) ∙ room in
        run_step desc g x (xs ++ ys) is ∙ ap (lines_before s) (rest r) ∙ onto_again s (lines_run desc s.going xs) (lines_run desc (lines_run desc s.going xs).going ys)
        ∙ sym (ap (λ (l : LineEffect). lines_before l (lines_run desc l.going ys)) e)

-- How a run stands

-- so many lines of an input were taken: those done, what remains of it, and the room that is left
pub record InputRead (i room : ℕ) (all : List ℕ) (feed : List ℕ) (left : Option (List ℕ)) : Type 0 where
  pub done : List (List ℕ)
  pub rest : List ℕ
  pub remains : Remains feed left rest
  pub split : raw_lines all ≡ done ++ raw_lines rest
  pub count : length done ≡ i
  pub bytes : bytes_of done + room ≡ 2147483648
  pub whole : all ≡ text_of_lines done ++ rest

-- none yet
pub read_start : (all : List ℕ) (feed : List ℕ) (left : Option (List ℕ)) → Remains feed left all → InputRead 0 2147483648 all feed left
read_start all feed left remains = record { done = []; rest = all; remains = remains; split = refl; count = refl; bytes = refl; whole = refl }

-- one line more
pub read_on : {i room room' : ℕ} {all feed feed' : List ℕ} {left left' : Option (List ℕ)} (r : InputRead i room all feed left) → TakesRawLine room room' feed' left' r.rest → InputRead (i + 1) room' all feed' left'
read_on {all = all} r t =
    let l = first_line r.rest in
    record {
      done = r.done ++ l ∷ [];
      rest = after_line r.rest;
      remains = t.remains;
      split = r.split ∙ ap (λ (ls : List (List ℕ)). r.done ++ ls) (lines_step r.rest t.some) ∙ sym (append_assoc r.done (l ∷ []) (raw_lines (after_line r.rest)));
      count = omega (arith, length-append r.done (l ∷ []), r.count);
      bytes = omega (arith, bytes_on r.done (l ∷ []), r.bytes, t.bytes);
      whole = joined_step all r.rest r.done r.whole;
    }

-- the lines that were taken, and one more
read_taken : {i room : ℕ} {all feed : List ℕ} {left : Option (List ℕ)} (r : InputRead i room all feed left) → take i (raw_lines all) ≡ r.done
read_taken {i} r = ap (take i) r.split ∙ take_at r.done (raw_lines r.rest) i r.count

read_more : {i room : ℕ} {all feed : List ℕ} {left : Option (List ℕ)} (r : InputRead i room all feed left) → r.rest ≢ [] → take (i + 1) (raw_lines all) ≡ r.done ++ first_line r.rest ∷ []
read_more {i} r some =
    let next = r.done ++ first_line r.rest ∷ [] in
    ap (take (i + 1)) (r.split ∙ ap (λ (ls : List (List ℕ)). r.done ++ ls) (lines_step r.rest some) ∙ sym (append_assoc r.done (first_line r.rest ∷ []) (raw_lines (after_line r.rest))))
    ∙ take_at next (raw_lines (after_line r.rest)) (i + 1) (omega (arith, length-append r.done (first_line r.rest ∷ []), r.count))

some_lines : (rest : List ℕ) → rest ≢ [] → 0 < length (raw_lines rest)
some_lines rest some = omega (arith, ap length (lines_step rest some))

pub some_first : (rest : List ℕ) → 0 < length (first_line rest) → rest ≢ []
some_first [] h none = omega (arith, h)
some_first (b ∷ bs) h none = cc

read_within : {i room : ℕ} {all feed : List ℕ} {left : Option (List ℕ)} → InputRead i room all feed left → i ≤ length (raw_lines all)
read_within r = omega (arith, ap length r.split, length-append r.done (raw_lines r.rest), r.count)

ended_on : (xs : List (List ℕ)) (l : List ℕ) → AreEnded xs → has_end l ≡ true → AreEnded (xs ++ l ∷ [])
ended_on [] l all last = (last, tt)
ended_on (x ∷ xs) l all last = (all.0, ended_on xs l all.1 last)

-- the lines that were taken end with line feeds, and so does one more
pub read_ended : {i room : ℕ} {all feed : List ℕ} {left : Option (List ℕ)} (r : InputRead i room all feed left) → r.rest ≢ [] → has_end (first_line r.rest) ≡ true → AreEnded (take i (raw_lines all)) → AreEnded (take (i + 1) (raw_lines all))
read_ended r some last so_far = subst AreEnded (sym (read_more r some)) (ended_on r.done (first_line r.rest) (subst AreEnded (read_taken r) so_far) last)

-- they keep the limits, and so they do with one more for which there is room
pub read_keeps : {i room : ℕ} {all feed : List ℕ} {left : Option (List ℕ)} → InputRead i room all feed left → i ≤ 1000000 → KeepsFront (raw_lines all) i
read_keeps r few = record { within = read_within r; few = few; short = omega (arith, ap bytes_of (read_taken r), r.bytes) }

pub read_keeps_more : {i room : ℕ} {all feed : List ℕ} {left : Option (List ℕ)} (r : InputRead i room all feed left) → r.rest ≢ [] → i < 1000000 → length (first_line r.rest) ≤ room → KeepsFront (raw_lines all) (i + 1)
read_keeps_more r some few fits = record {
  within = omega (arith, ap length r.split, length-append r.done (raw_lines r.rest), r.count, some_lines r.rest some);
  few = omega (arith, few);
  short = omega (arith, ap bytes_of (read_more r some), bytes_on r.done (first_line r.rest ∷ []), r.bytes, fits);
}

-- the input has a line too many
pub read_lines : {i room : ℕ} {all feed : List ℕ} {left : Option (List ℕ)} (r : InputRead i room all feed left) → i ≡ 1000000 → r.rest ≢ [] → HasTooManyLines all
read_lines {all = all} r end some = record {
  over = omega (arith, ap length r.split, length-append r.done (raw_lines r.rest), r.count, end, some_lines r.rest some);
  short = omega (arith, ap (λ (n : ℕ). bytes_of (take n (raw_lines all))) end, ap bytes_of (read_taken r), r.bytes);
}

-- it has a byte too many
pub read_bytes : {i room : ℕ} {all feed : List ℕ} {left : Option (List ℕ)} (r : InputRead i room all feed left) → i < 1000000 → room < length (first_line r.rest) → HasTooManyBytes all
read_bytes {i} r more over = record {
  n = i;
  few = more;
  short = omega (arith, ap bytes_of (read_taken r), r.bytes);
  over = omega (arith, ap bytes_of (read_more r (some_first r.rest (omega (arith, over)))), bytes_on r.done (first_line r.rest ∷ []), r.bytes, over);
}

-- it was read to its end, and keeps the limits
pub read_fits : {i room : ℕ} {all feed : List ℕ} {left : Option (List ℕ)} (r : InputRead i room all feed left) → i ≤ 1000000 → r.rest ≡ [] → FitsScript all
read_fits {all = all} r small none =
    let whole : raw_lines all ≡ r.done = r.split ∙ ap (λ (rest : List ℕ). r.done ++ raw_lines rest) none ∙ append-nil r.done in
    record { few = omega (arith, ap length whole, r.count, small); short = omega (arith, ap bytes_of whole, r.bytes) }

-- it was read to its end by its last line, which no line feed ends
pub read_last : {i room room' : ℕ} {all feed feed' : List ℕ} {left left' : Option (List ℕ)} (r : InputRead i room all feed left) → i < 1000000 → TakesRawLine room room' feed' left' r.rest → IsUnended (first_line r.rest) → FitsScript all × Remains feed' left' []
unfolding read_on
read_last {feed' = feed'} {left' = left'} r more t last = let none = nothing_after r.rest last in (read_fits (read_on r t) (omega (arith, more)) none, subst (Remains feed' left') none t.remains)

-- taking from it failed
pub read_breaks : {k i room : ℕ} {all feed : List ℕ} {left left' : Option (List ℕ)} (r : InputRead i room all feed left) → AreEnded (take i (raw_lines all)) → i ≤ 1000000 → k ≤ room → (i ≡ 1000000 → k ≡ 0) → CutLine k left' r.rest → InputBreaks left' all
read_breaks {i = i} r ended small under last cut = record {
  n = i;
  within = read_within r;
  few = small;
  ended = ended;
  part = cut.part;
  rest = cut.rest;
  whole = r.whole ∙ ap (λ (x : List ℕ). text_of_lines r.done ++ x) cut.whole ∙ ap (λ (ls : List (List ℕ)). text_of_lines ls ++ (cut.part ++ cut.rest)) (sym (read_taken r));
  left_is = cut.left_is;
  unended = cut.unended;
  fits = omega (arith, ap bytes_of (read_taken r), r.bytes, cut.fits, under);
  last = λ end. omega (arith, cut.fits, last end);
}

-- after so many lines: those done, the bytes that are left, and what happened
pub record RunsLines (desc : Described) (g : RunState) (i room : ℕ) (all : List ℕ) (v : View) (waiting : List WaitingLine) (feed : List ℕ) (left : Option (List ℕ)) (before after : Seen) : Type 0 where
  pub read : InputRead i room all feed left
  pub roomy : (lines_run desc g read.done).full ≡ false
  pub stands : StandsFor v (lines_run desc g read.done).going.session
  pub waiting_is : waiting ≡ (lines_run desc g read.done).going.waiting
  pub order : IsInOrder desc (lines_run desc g read.done).going.session
  pub verbs : AreVerbs desc (lines_run desc g read.done).going.waiting
  pub line : (lines_run desc g read.done).going.line ≡ i
  pub low : (lines_run desc g read.done).going.session.next + length (lines_run desc g read.done).going.waiting ≤ g.session.next + length g.waiting + i
  pub ran : Performs before after (lines_run desc g read.done).events

pub runs_start : (desc : Described) → IsWellFormed desc → (db : Db) (first : ℕ) (all : List ℕ) (v : View) (feed : List ℕ) (left : Option (List ℕ)) (now : Seen) → StandsFor v (first_state db first).session → Remains feed left all
    → RunsLines desc (first_state db first) 0 2147483648 all v [] feed left now now
unfolding read_start
runs_start desc well db first all v feed left now stands remains =
    let e : lines_run desc (first_state db first) [] ≡ nothing_done (first_state db first) = run_none desc (first_state db first) in
    record {
      read = read_start all feed left remains;
      roomy = ap (λ (l : LineEffect). l.full) e;
      stands = subst (λ (s : Session). StandsFor v s) (sym (ap (λ (l : LineEffect). l.going.session) e)) stands;
      waiting_is = sym (ap (λ (l : LineEffect). l.going.waiting) e);
      order = subst (IsInOrder desc) (sym (ap (λ (l : LineEffect). l.going.session) e)) (first_in_order desc well db first);
      verbs = subst (AreVerbs desc) (sym (ap (λ (l : LineEffect). l.going.waiting) e)) tt;
      line = ap (λ (l : LineEffect). l.going.line) e;
      low = omega (arith, ap (λ (l : LineEffect). l.going.session.next) e, ap (λ (l : LineEffect). length l.going.waiting) e);
      ran = subst (λ (t : List RunEvent). Performs now now t) (sym (ap (λ (l : LineEffect). l.events) e)) (ran_none now);
    }

-- the next line may be taken
pub runs_room : (desc : Described) (db : Db) (first : ℕ) (i room : ℕ) (all : List ℕ) (v : View) (waiting : List WaitingLine) (feed : List ℕ) (left : Option (List ℕ)) (before after : Seen)
    (r : RunsLines desc (first_state db first) i room all v waiting feed left before after) → i < 1000000 → first + 1000003 < 2 ^ 64 → MayTakeLine desc (lines_run desc (first_state db first) r.read.done).going
runs_room desc db first i room all v waiting feed left before after r more small = record { room = omega (arith, r.low, more, small); order = r.order }

-- and for the one that the end asks for
pub runs_next : (desc : Described) (db : Db) (first : ℕ) (i room : ℕ) (all : List ℕ) (v : View) (waiting : List WaitingLine) (feed : List ℕ) (left : Option (List ℕ)) (before after : Seen)
    (r : RunsLines desc (first_state db first) i room all v waiting feed left before after) → i ≤ 1000000 → first + 1000003 < 2 ^ 64 → (lines_run desc (first_state db first) r.read.done).going.session.next + 1 < 2 ^ 64
runs_next desc db first i room all v waiting feed left before after r few small = omega (arith, r.low, few, small)

one_more : (desc : Described) (g : RunState) (done : List (List ℕ)) (l : List ℕ) → (lines_run desc g done).full ≡ false → (line_step desc (lines_run desc g done).going l).full ≡ false
    → lines_run desc g (done ++ l ∷ []) ≡ lines_before (lines_run desc g done) (lines_before (line_step desc (lines_run desc g done).going l) (nothing_done (line_step desc (lines_run desc g done).going l).going))
one_more desc g done l room more =
    let now = (lines_run desc g done).going in
    run_on desc g done (l ∷ []) room ∙ ap (lines_before (lines_run desc g done)) (run_step desc now l [] more ∙ ap (lines_before (line_step desc now l)) (run_none desc (line_step desc now l).going))

-- one line more was taken
pub runs_on : (desc : Described) (g : RunState) (i room room' : ℕ) (all : List ℕ) (v w : View) (waiting next : List WaitingLine) (feed feed' : List ℕ) (left left' : Option (List ℕ)) (before mid after : Seen)
    (r : RunsLines desc g i room all v waiting feed left before mid) → TakesRawLine room room' feed' left' r.read.rest → MatchesLine (line_step desc (lines_run desc g r.read.done).going (first_line r.read.rest)) true w next mid after → (s : RunsLines desc g (i + 1) room' all w next feed' left' before after) × (s.read.rest ≡ after_line r.read.rest)
unfolding read_on
runs_on desc g i room room' all v w waiting next feed feed' left left' before mid after r t goes =
    let now = (lines_run desc g r.read.done).going in
    let l = first_line r.read.rest in
    let s = line_step desc now l in
    let e = one_more desc g r.read.done l r.roomy goes.full in
    let low = line_low desc now l in
    let kept = line_in_order desc now l r.verbs r.order in (
      record {
        read = read_on r.read t;
        roomy = ap (λ (x : LineEffect). x.full) e;
        stands = subst (λ (x : Session). StandsFor w x) (sym (ap (λ (x : LineEffect). x.going.session) e)) goes.session;
        waiting_is = goes.waiting_is ∙ sym (ap (λ (x : LineEffect). x.going.waiting) e);
        order = subst (IsInOrder desc) (sym (ap (λ (x : LineEffect). x.going.session) e)) kept.0;
        verbs = subst (AreVerbs desc) (sym (ap (λ (x : LineEffect). x.going.waiting) e)) kept.1;
        line = ap (λ (x : LineEffect). x.going.line) e ∙ low.1 ∙ ap (λ (n : ℕ). n + 1) r.line;
        low = omega (arith, r.low, low.0, ap (λ (x : LineEffect). x.going.session.next) e, ap (λ (x : LineEffect). length x.going.waiting) e);
        ran = subst (λ (x : List RunEvent). Performs before after x) (sym (ap (λ (x : LineEffect). x.events) e ∙ ap (λ (x : List RunEvent). (lines_run desc g r.read.done).events ++ x) (append-nil s.events))) (ran_on before mid after (lines_run desc g r.read.done).events s.events r.ran goes.ran);
      },
      refl,
    )

-- the lines that were done, and what they answered
pub runs_took : (desc : Described) (db : Db) (first : ℕ) (i room : ℕ) (all : List ℕ) (v : View) (waiting : List WaitingLine) (feed : List ℕ) (left : Option (List ℕ)) (before mid : Seen) (after : Option (List ℕ))
    → RunsLines desc (first_state db first) i room all v waiting feed left before mid → i ≤ 1000000 → Prints mid.said after [] → TakesLines desc db first (raw_lines all) i before.said after
runs_took desc db first i room all v waiting feed left before mid after r small same =
    let t : take i (raw_lines all) ≡ r.read.done = read_taken r.read in
    record {
      within = read_within r.read;
      few = small;
      short = omega (arith, ap bytes_of t, r.read.bytes);
      room = ap (λ (ls : List (List ℕ)). (script_run desc db first ls).full) t ∙ r.roomy;
      text = subst (λ (ls : List (List ℕ)). Prints before.said after (text_of (script_run desc db first ls).events)) (sym t) (subst (λ (x : List ℕ). Prints before.said after x) (append-nil _) (prints_on before.said mid.said after _ [] r.ran.text same));
    }

-- the script has a line too many
pub runs_lines : (desc : Described) (db : Db) (first : ℕ) (i room : ℕ) (all : List ℕ) (v : View) (waiting : List WaitingLine) (feed : List ℕ) (left : Option (List ℕ)) (before mid : Seen) (after : Option (List ℕ))
    (r : RunsLines desc (first_state db first) i room all v waiting feed left before mid) → Prints mid.said after [] → i ≡ 1000000 → r.read.rest ≢ [] → PassesLines desc db first (raw_lines all) before.said after
runs_lines desc db first i room all v waiting feed left before mid after r same end some = (
  (read_lines r.read end some).over,
  subst (λ (n : ℕ). TakesLines desc db first (raw_lines all) n before.said after) end (runs_took desc db first i room all v waiting feed left before mid after r (omega (arith, end)) same),
)

-- the script has a byte too many
pub runs_bytes : (desc : Described) (db : Db) (first : ℕ) (i room : ℕ) (all : List ℕ) (v : View) (waiting : List WaitingLine) (feed : List ℕ) (left : Option (List ℕ)) (before mid : Seen) (after : Option (List ℕ))
    (r : RunsLines desc (first_state db first) i room all v waiting feed left before mid) → i < 1000000 → Prints mid.said after [] → room < length (first_line r.read.rest) → (p : PassesBytes desc db first (raw_lines all) before.said after) × (p.n ≡ i)
unfolding read_bytes
runs_bytes desc db first i room all v waiting feed left before mid after r more same over = (
  record {
    n = i;
    took = runs_took desc db first i room all v waiting feed left before mid after r (omega (arith, more)) same;
    few = more;
    over = (read_bytes r.read more over).over;
  },
  refl,
)

-- a line would be one too many to hold
pub runs_waiting : (desc : Described) (db : Db) (first : ℕ) (i room : ℕ) (all : List ℕ) (v : View) (waiting : List WaitingLine) (feed : List ℕ) (left : Option (List ℕ)) (before mid : Seen) (after : Option (List ℕ))
    (r : RunsLines desc (first_state db first) i room all v waiting feed left before mid) → i < 1000000 → Prints mid.said after [] → r.read.rest ≢ [] → (line_step desc (lines_run desc (first_state db first) r.read.done).going (first_line r.read.rest)).full ≡ true → length (first_line r.read.rest) ≤ room
    → (p : PassesWaiting desc db first (raw_lines all) before.said after) × (p.n ≡ i)
runs_waiting desc db first i room all v waiting feed left before mid after r more same some full fits =
    let g = first_state db first in
    let t = read_more r.read some in (
      record {
        n = i;
        took = runs_took desc db first i room all v waiting feed left before mid after r (omega (arith, more)) same;
        few = more;
        short = omega (arith, ap bytes_of t, bytes_on r.read.done (first_line r.read.rest ∷ []), r.read.bytes, fits);
        full = ap (λ (ls : List (List ℕ)). (script_run desc db first ls).full) t ∙ ap (λ (l : LineEffect). l.full) (run_on desc g r.read.done (first_line r.read.rest ∷ []) r.roomy) ∙ ap (λ (l : LineEffect). l.full) (run_full desc (lines_run desc g r.read.done).going (first_line r.read.rest) [] full) ∙ full;
      },
      refl,
    )

-- taking from the input failed
pub runs_cut : (desc : Described) (db : Db) (first : ℕ) (k i room : ℕ) (all : List ℕ) (v : View) (waiting : List WaitingLine) (feed : List ℕ) (left left' : Option (List ℕ)) (before mid : Seen) (after : Option (List ℕ))
    (r : RunsLines desc (first_state db first) i room all v waiting feed left before mid) → AreEnded (take i (raw_lines all)) → i ≤ 1000000 → k ≤ room → (i ≡ 1000000 → k ≡ 0) → Prints mid.said after [] → CutLine k left' r.read.rest → (p : CutInput desc db first all left' before.said after) × (p.n ≡ i)
unfolding read_breaks
runs_cut desc db first k i room all v waiting feed left left' before mid after r ended small under last same cut =
    let b = read_breaks r.read ended small under last cut in (
      record {
        n = i;
        took = runs_took desc db first i room all v waiting feed left before mid after r small same;
        ended = ended;
        part = b.part;
        rest = b.rest;
        whole = b.whole;
        left_is = b.left_is;
        unended = b.unended;
        fits = b.fits;
        last = b.last;
      },
      refl,
    )

-- What the lines that were taken do, and one more

done_events : (desc : Described) (db : Db) (first : ℕ) (i room : ℕ) (all : List ℕ) (feed : List ℕ) (left : Option (List ℕ)) (r : InputRead i room all feed left) → front_events desc db first (raw_lines all) i ≡ (lines_run desc (first_state db first) r.done).events
done_events desc db first i room all feed left r = ap (λ (ls : List (List ℕ)). (script_run desc db first ls).events) (read_taken r)

-- the events of one line alone
one_events : (desc : Described) (g : RunState) (l : List ℕ) → (lines_run desc g (l ∷ [])).events ≡ (line_step desc g l).events
one_events desc g l = at (line_step desc g l).full refl
  where
    at : (b : Bool) → (line_step desc g l).full ≡ b → (lines_run desc g (l ∷ [])).events ≡ (line_step desc g l).events
    at true is = ap (λ (x : LineEffect). x.events) (run_full desc g l [] is)
    at false is = ap (λ (x : LineEffect). x.events) (run_step desc g l [] is) ∙ ap (λ (x : LineEffect). (line_step desc g l).events ++ x.events) (run_none desc (line_step desc g l).going) ∙ append-nil (line_step desc g l).events

module _ (desc : Described) (db : Db) (first i room : ℕ) (all : List ℕ) (v : View) (waiting : List WaitingLine) (feed : List ℕ) (left : Option (List ℕ)) (before mid : Seen) (r : RunsLines desc (first_state db first) i room all v waiting feed left before mid) where
  -- how the run stands behind the lines that were taken, and what the next one does there
  abbrev pub going_on : RunState
  going_on = (lines_run desc (first_state db first) r.read.done).going

  abbrev pub next_step : LineEffect
  next_step = line_step desc going_on (first_line r.read.rest)

  more_events : r.read.rest ≢ [] → front_events desc db first (raw_lines all) (i + 1) ≡ (lines_run desc (first_state db first) r.read.done).events ++ next_step.events
  more_events some =
      let l = first_line r.read.rest in
      ap (λ (ls : List (List ℕ)). (script_run desc db first ls).events) (read_more r.read some)
      ∙ ap (λ (x : LineEffect). x.events) (run_on desc (first_state db first) r.read.done (l ∷ []) r.roomy)
      ∙ ap (λ (x : List RunEvent). (lines_run desc (first_state db first) r.read.done).events ++ x) (one_events desc going_on l)

  -- exactly what they do was done
  pub runs_did : Performs before mid (front_events desc db first (raw_lines all) i)
  runs_did = ran_as before mid _ _ (sym (done_events desc db first i room all feed left r.read)) r.ran

  -- and what one line more does
  pub runs_did_more : (after : Seen) → r.read.rest ≢ [] → Performs mid after next_step.events → Performs before after (front_events desc db first (raw_lines all) (i + 1))
  runs_did_more after some did = ran_as before after _ _ (sym (more_events some)) (ran_on before mid after (lines_run desc (first_state db first) r.read.done).events next_step.events r.ran did)

  -- or a part of that
  pub runs_part_more : {fate : Fate} (after : Seen) → r.read.rest ≢ [] → PerformsPrefix fate mid after next_step.events → PerformsPrefix fate before after (front_events desc db first (raw_lines all) (i + 1))
  runs_part_more after some part = part_as before after _ _ (sym (more_events some)) (part_on before mid after (lines_run desc (first_state db first) r.read.done).events next_step.events r.ran (run_answered desc (first_state db first) r.read.done r.roomy) part)

  -- where nothing follows, they are all lines
  runs_whole : r.read.rest ≡ [] → raw_lines all ≡ r.read.done
  runs_whole none = r.read.split ∙ ap (λ (rest : List ℕ). r.read.done ++ raw_lines rest) none ∙ append-nil r.read.done

  pub runs_roomy : r.read.rest ≡ [] → (script_run desc db first (raw_lines all)).full ≡ false
  runs_roomy none = ap (λ (ls : List (List ℕ)). (script_run desc db first ls).full) (runs_whole none) ∙ r.roomy

  pub runs_stands : r.read.rest ≡ [] → StandsFor v (script_run desc db first (raw_lines all)).going.session
  runs_stands none = subst (λ (ls : List (List ℕ)). StandsFor v (script_run desc db first ls).going.session) (sym (runs_whole none)) r.stands

  pub runs_held : r.read.rest ≡ [] → waiting ≡ (script_run desc db first (raw_lines all)).going.waiting
  runs_held none = r.waiting_is ∙ ap (λ (ls : List (List ℕ)). (script_run desc db first ls).going.waiting) (sym (runs_whole none))

  pub runs_all : r.read.rest ≡ [] → Performs before mid (script_run desc db first (raw_lines all)).events
  runs_all none = ran_as before mid _ _ (ap (λ (ls : List (List ℕ)). (script_run desc db first ls).events) (sym (runs_whole none))) r.ran
