-- The counts of what a script does: of the calls at most one for each line is answered, and no other takes anything.
use Rattle.std.proofs.Common.{◌≡◌, ◌≤◌, ◌+◌, ◌*◌, inl, inr, ℕ, zero, suc, List, [], ◌∷◌, ◌++◌, Bool, true, false, cond, nat_le, length, take, refl, sym, ap, subst, arith, length-append, length-take}
use Rattle.std.specs.Prelude.{◌&&◌, is_some, None, slice_get}
use Rattle.std.specs.List.{AllByRecursion}
use Rattle.std.specs.declared.option.Option.{Option}
use Rattle.std.proofs.Math.Nat.{mul-le-mul}
use Rattle.std.proofs.lemmas.Bool.{and_right}
use Rattle.dms_desc.specs.Shape.{Described}
use Rattle.dms_desc_bytes.specs.WellFormed.{IsWellFormed}
use Rattle.dms_feed.specs.Lines.{line_text}
use Rattle.dms_laws.specs.Exclusive.{is_done}
use Rattle.dms_laws.proofs.Formed.{few_structures}
use Rattle.dms_model.specs.BackOut.{asks_back_out}
use Rattle.dms_model.specs.Counting.{counts_of}
use Rattle.dms_model.specs.Db.{Db}
use Rattle.dms_model.specs.declared.reply.Reply.{Reply}
use Rattle.dms_model.specs.declared.reply.Reply.TheVariants.{Done, Exception, Waits}
use Rattle.dms_model.specs.declared.verb.Verb.{Verb}
use Rattle.dms_model.specs.Session.{Session, Outcome, step, is_waits, someone_works}
use Rattle.dms_model.proofs.Rises.{step_small}
use Rattle.dms_script.specs.declared.line.Line.{Line}
use Rattle.dms_script.specs.declared.line.Line.TheVariants.{Empty, Verb as Spoken, Bad}
use Rattle.dms_script.specs.Lines.{line_of}
use Rattle.dms_script.specs.Replies.{bad_text}
use Rattle.dms_storeverbs.specs.Laws.{MakesWhereQuiet}
use Rattle.dms_storeverbs.proofs.Quiet.{quiet_rule}
use Rattle.dms_runner.specs.declared.waiting.WaitingLine.{WaitingLine}
use Rattle.dms_runner.specs.Answers.{RunState, LineEffect, first_line, first_state, line_effect, line_step, lines_before, lines_run, one_line_more, put_to_wait, script_events, script_run, unanswered_events, end_events}
use Rattle.dms_runner.specs.EventLaws.{CountedLaw, HasSize}
use Rattle.dms_runner.specs.Events.{RunEvent, blocks_begun, blocks_for, blocks_of, syncs_of, backs_of, calls, goes_back, one_if, says}
use Rattle.dms_runner.specs.Running.{KeepsFront, AreOfFront, front_events}
use Rattle.dms_runner.specs.Waiting.{answer_text, events_before, has_line, said_to_wait, tries, RetryEffect, retries, retry, retry_after_answer}
use Rattle.dms_runner.proofs.Sizes.{IsSized, counts_low, step_sized, waits_sized}
use Rattle.dms_runner.proofs.Happening.{blocks_on, syncs_on, backs_on}

-- ---- a call whose line waits takes nothing

unsynced_at : (b : Bool) (s : Session) (o : Outcome) → o.session.next ≡ s.next → MakesWhereQuiet b s o → o.sync ≡ None
unsynced_at true s o same m = absurd (omega (arith, same, m.next))
unsynced_at false s o same m = m.unsynced

waits_unsynced : (desc : Described) (s : Session) (name : List ℕ) (verb : Verb) → is_waits (step desc s name verb).reply ≡ true → (step desc s name verb).sync ≡ None
waits_unsynced desc s name verb waits =
    let o = step desc s name verb in
    unsynced_at _ s o (ap (λ (t : Session). t.next) ((step_small desc s name verb).waits waits)) (quiet_rule desc s name verb)

waits_undone : (r : Reply) → is_waits r ≡ true → is_done r ≡ false
waits_undone (Done text) waits = absurd (cc)
waits_undone (Exception category name) waits = refl
waits_undone (Waits names) waits = refl

one_low : (b : Bool) → one_if b ≤ 1
one_low true = omega arith
one_low false = omega arith

-- ---- counts

-- in a script no more records and entries come to be than that: so many blocks a call may change
most_blocks : (desc : Described) → IsWellFormed desc → (count : ℕ) → count ≤ 201000003 → blocks_for desc count ≤ 2572800038400
unfolding blocks_for
most_blocks desc well count low =
    let few : 64 * length desc.structures ≤ 12800 = omega (arith, few_structures desc well) in
    omega (arith, mul-le-mul few low)

no_blocks : (desc : Described) → blocks_for desc 0 ≡ 0
unfolding blocks_for
no_blocks desc = omega arith

abbrev IsLowEvent : RunEvent → Type 0
IsLowEvent e = e.count ≤ 201000003

low_on : (x y : List RunEvent) → AllByRecursion IsLowEvent x → AllByRecursion IsLowEvent y → AllByRecursion IsLowEvent (x ++ y)
low_on [] y p q = q
low_on (e ∷ x) y p q = (p.0, low_on x y p.1 q)

-- these events take no more than so many calls that are answered
record Few (desc : Described) (n : ℕ) (events : List RunEvent) : Type 0 where
  blocks : blocks_of desc events ≤ 2572800038400 * n
  syncs : syncs_of events ≤ n
  backs : backs_of events ≤ n
  low : AllByRecursion IsLowEvent events

few_none : (desc : Described) → Few desc 0 []
few_none desc = record { blocks = omega arith; syncs = omega arith; backs = omega arith; low = tt }

few_on : (desc : Described) (m n : ℕ) (x y : List RunEvent) → Few desc m x → Few desc n y → Few desc (m + n) (x ++ y)
few_on desc m n x y p q = record {
  blocks = omega (arith, blocks_on desc x y, p.blocks, q.blocks);
  syncs = omega (arith, syncs_on x y, p.syncs, q.syncs);
  backs = omega (arith, backs_on x y, p.backs, q.backs);
  low = low_on x y p.low q.low;
}

few_says : (desc : Described) (text : List ℕ) → Few desc 0 (says text ∷ [])
few_says desc text = record { blocks = omega (arith, no_blocks desc); syncs = omega arith; backs = omega arith; low = (omega arith, tt) }

changed_low : (w : Bool) (count : ℕ) → count ≤ 201000003 → cond w 0 count ≤ 201000003
changed_low true count low = omega arith
changed_low false count low = low

few_call : (desc : Described) → IsWellFormed desc → (count : ℕ) (verb : Verb) (o : Outcome) → count ≤ 201000003 → Few desc 1 (calls count verb o ∷ [])
few_call desc well count verb o low = record {
  blocks = omega (arith, most_blocks desc well (cond (is_waits o.reply) 0 count) (changed_low (is_waits o.reply) count low));
  syncs = omega (arith, one_low (is_some o.sync));
  backs = omega (arith, one_low (asks_back_out verb && is_done o.reply));
  low = (low, tt);
}

few_waiting : (desc : Described) (count : ℕ) (verb : Verb) (o : Outcome) → count ≤ 201000003 → is_waits o.reply ≡ true → o.sync ≡ None → Few desc 0 (calls count verb o ∷ [])
few_waiting desc count verb o low waits unsynced = record {
  blocks = omega (arith, ap (λ (w : Bool). blocks_for desc (cond w 0 count)) waits, no_blocks desc);
  syncs = omega (arith, ap (λ (s : Option ℕ). one_if (is_some s)) unsynced);
  backs = omega (arith, ap one_if (and_right (asks_back_out verb) (is_done o.reply) (waits_undone o.reply waits)));
  low = (low, tt);
}

-- Of so many lines so many are left waiting, and each of the others was answered by one call at most.
record Counts (desc : Described) (all left : ℕ) (events : List RunEvent) : Type 0 where
  n : ℕ
  room : n + left ≤ all
  few : Few desc n events

counts_none : (desc : Described) (all left : ℕ) → left ≤ all → Counts desc all left []
counts_none desc all left le = record { n = 0; room = omega (arith, le); few = few_none desc }

counts_on : (desc : Described) (all left last : ℕ) (x y : List RunEvent) → Counts desc all left x → Counts desc left last y → Counts desc all last (x ++ y)
counts_on desc all left last x y p q = record { n = p.n + q.n; room = omega (arith, p.room, q.room); few = few_on desc p.n q.n x y p.few q.few }

counts_more : (desc : Described) (all left all' left' : ℕ) (x : List RunEvent) → all + left' ≤ all' + left → Counts desc all left x → Counts desc all' left' x
counts_more desc all left all' left' x more p = record { n = p.n; room = omega (arith, more, p.room); few = p.few }

counts_says : (desc : Described) (all : ℕ) (text : List ℕ) → Counts desc all all (says text ∷ [])
counts_says desc all text = record { n = 0; room = omega arith; few = few_says desc text }

counts_waiting : (desc : Described) (all count : ℕ) (verb : Verb) (o : Outcome) → count ≤ 201000003 → is_waits o.reply ≡ true → o.sync ≡ None → Counts desc all all (calls count verb o ∷ [])
counts_waiting desc all count verb o low waits unsynced = record { n = 0; room = omega arith; few = few_waiting desc count verb o low waits unsynced }

-- ---- the events of a script

module _ (desc : Described) (well : IsWellFormed desc) where
  -- A session in which so many lines are still to be answered. Each answer makes one record or entry more at most, so that in the end there are no more
  -- than 201,000,000 of each.
  record Small (left : ℕ) (s : Session) : Type 0 where
    n : ℕ
    room : n + left ≤ 201000000
    size : IsSized n s

  small_less : (left left' : ℕ) (s : Session) → left' ≤ left → Small left s → Small left' s
  small_less left left' s less h = record { n = h.n; room = omega (arith, less, h.room); size = h.size }

  small_waits : (left : ℕ) (s : Session) (name : List ℕ) (verb : Verb) → is_waits (step desc s name verb).reply ≡ true → Small left s → Small left (step desc s name verb).session
  small_waits left s name verb waits h = record { n = h.n; room = h.room; size = waits_sized h.n s h.size desc name verb waits }

  small_answered : (left : ℕ) (s : Session) (name : List ℕ) (verb : Verb) → Small (left + 1) s → Small left (step desc s name verb).session
  small_answered left s name verb h = record { n = h.n + 1; room = omega (arith, h.room); size = step_sized h.n s h.size desc name verb }

  low_at : (left : ℕ) (s : Session) (name : List ℕ) (verb : Verb) → Small left s → counts_of desc s name verb ≤ 201000003
  low_at left s name verb h = omega (arith, counts_low desc h.n s h.size.db name verb, h.room)

  -- the events of a part, and the session behind it
  record Leaves (all left more : ℕ) (events : List RunEvent) (s : Session) : Type 0 where
    counts : Counts desc all left events
    small : Small (more + left) s

  leaves_more : (all left all' more : ℕ) (events : List RunEvent) (s : Session) → all ≤ all' → Leaves all left more events s → Leaves all' left more events s
  leaves_more all left all' more events s less h = record { counts = counts_more desc all left all' left events (omega (arith, less)) h.counts; small = h.small }

  behind : (all left last more : ℕ) (x y : List RunEvent) (s : Session) → Counts desc all left x → Leaves left last more y s → Leaves all last more (x ++ y) s
  behind all left last more x y s p q = record { counts = counts_on desc all left last x y p q.counts; small = q.small }

  counts_call : (all count : ℕ) (verb : Verb) (o : Outcome) → count ≤ 201000003 → Counts desc (all + 1) all (calls count verb o ∷ [])
  counts_call all count verb o low = record { n = 1; room = omega arith; few = few_call desc well count verb o low }

  tries_waiting : (all left : ℕ) (s : Session) (h : WaitingLine) → Small left s → is_waits (step desc s h.program h.verb).reply ≡ true → Counts desc all all (tries desc s h)
  tries_waiting all left s h small waits =
      let o = step desc s h.program h.verb in
      let count = counts_of desc s h.program h.verb in
      counts_on desc all all all (calls count h.verb o ∷ []) (says _ ∷ []) (counts_waiting desc all count h.verb o (low_at left s h.program h.verb small) waits (waits_unsynced desc s h.program h.verb waits)) (counts_says desc all _)

  tries_answered : (all left : ℕ) (s : Session) (h : WaitingLine) → Small left s → Counts desc (all + 1) all (tries desc s h)
  tries_answered all left s h small =
      let count = counts_of desc s h.program h.verb in
      counts_on desc (all + 1) all all (calls count h.verb (step desc s h.program h.verb) ∷ []) (says _ ∷ []) (counts_call all count h.verb (step desc s h.program h.verb) (low_at left s h.program h.verb small)) (counts_says desc all _)

  -- where so many more lines follow
  abbrev RetryLeaves : ℕ → ℕ → RetryEffect → Type 0
  RetryLeaves all more x = Leaves all (length x.waiting) more x.events x.session

  retry_if : (all more : ℕ) (b : Bool) (x y : RetryEffect) → (b ≡ true → RetryLeaves all more x) → (b ≡ false → RetryLeaves all more y) → RetryLeaves all more (cond b x y)
  retry_if all more true x y p q = p refl
  retry_if all more false x y p q = q refl

  retry_leaves : (more : ℕ) (s : Session) (front waiting : List WaitingLine) → Small (more + (length front + length waiting)) s → RetryLeaves (length front + length waiting) more (retry desc s front waiting)
  unfolding retry
  retry_leaves more s front [] small = record { counts = counts_none desc (length front + 0) (length front) (omega arith); small = small_less (more + (length front + 0)) (more + length front) s (omega arith) small }
  retry_leaves more s front (h ∷ hs) small =
      let o = step desc s h.program h.verb in
      let all = length front + suc (length hs) in
      let passed = retry desc s (front ++ h ∷ []) hs in
      let rest = retry desc o.session (front ++ said_to_wait h ∷ []) hs in
      let one : length (front ++ h ∷ []) + length hs ≡ all = omega (arith, length-append front (h ∷ [])) in
      let said : length (front ++ said_to_wait h ∷ []) + length hs ≡ all = omega (arith, length-append front (said_to_wait h ∷ [])) in
      let left : length (front ++ hs) + 1 ≡ all = omega (arith, length-append front hs) in
      retry_if all more (has_line front h.program) _ _
      (λ has. leaves_more _ (length passed.waiting) all more passed.events passed.session (omega (arith, one)) (retry_leaves more s (front ++ h ∷ []) hs (small_less (more + all) _ s (omega (arith, one)) small)))
      (λ other. retry_if all more (is_waits o.reply) _ _
      (λ waits. behind all all (length rest.waiting) more (tries desc s h) rest.events rest.session (tries_waiting all (more + all) s h small waits)
      (leaves_more _ (length rest.waiting) all more rest.events rest.session (omega (arith, said)) (retry_leaves more o.session (front ++ said_to_wait h ∷ []) hs (small_less (more + all) _ o.session (omega (arith, said)) (small_waits (more + all) s h.program h.verb waits small)))))
      (λ answered. record {
        counts = counts_more desc (length (front ++ hs) + 1) (length (front ++ hs)) all (length (front ++ hs)) (tries desc s h) (omega (arith, left)) (tries_answered (length (front ++ hs)) (more + all) s h small);
        small = small_answered (more + length (front ++ hs)) s h.program h.verb (small_less (more + all) (more + length (front ++ hs) + 1) s (omega (arith, left)) small);
      }))

  after_leaves : (all more : ℕ) (b : Bool) (first rest : RetryEffect) → RetryLeaves all more first → RetryLeaves (length first.waiting) more rest → RetryLeaves all more (retry_after_answer b first rest)
  after_leaves all more true first rest p q = behind all (length first.waiting) (length rest.waiting) more first.events rest.events rest.session p.counts q
  after_leaves all more false first rest p q = p

  retries_leave : (n more : ℕ) (s : Session) (waiting : List WaitingLine) → Small (more + length waiting) s → RetryLeaves (length waiting) more (retries n desc s waiting)
  unfolding retries
  retries_leave zero more s waiting small = record { counts = counts_none desc (length waiting) (length waiting) (omega arith); small = small }
  retries_leave (suc n) more s waiting small =
      let x = retry desc s [] waiting in
      let first = leaves_more _ (length x.waiting) (length waiting) more x.events x.session (omega arith) (retry_leaves more s [] waiting (small_less (more + length waiting) _ s (omega arith) small)) in
      after_leaves (length waiting) more x.answered x (retries n desc x.session x.waiting) first (retries_leave n more x.session x.waiting first.small)

  abbrev LineLeaves : ℕ → ℕ → LineEffect → Type 0
  LineLeaves all more l = Leaves all (length l.going.waiting) more l.events l.going.session

  line_if : (all more : ℕ) (b : Bool) (x y : LineEffect) → (b ≡ true → LineLeaves all more x) → (b ≡ false → LineLeaves all more y) → LineLeaves all more (cond b x y)
  line_if all more true x y p q = p refl
  line_if all more false x y p q = q refl

  -- a line is held, or is one too many to hold
  waiting_leaves : (more : ℕ) (g : RunState) (s : Session) (h : WaitingLine) (first said : List RunEvent) → ((all : ℕ) → Counts desc all all first) → ((all : ℕ) → Counts desc all all said) → Small (more + (length g.waiting + 1)) s
      → LineLeaves (length g.waiting + 1) more (put_to_wait g s h first said)
  waiting_leaves more g s h first said p q small =
      let all = length g.waiting + 1 in
      let one : length (g.waiting ++ h ∷ []) ≡ all = omega (arith, length-append g.waiting (h ∷ [])) in
      line_if all more (nat_le 10000 (length g.waiting)) _ _
      (λ over. record { counts = counts_more desc all all all (length g.waiting) first (omega arith) (p all); small = small_less (more + all) (more + length g.waiting) s (omega arith) small })
      (λ room. record { counts = counts_more desc all all all (length (g.waiting ++ h ∷ [])) (first ++ said) (omega (arith, one)) (counts_on desc all all all first said (p all) (q all)); small = small_less (more + all) (more + length (g.waiting ++ h ∷ [])) s (omega (arith, one)) small })

  -- the waiting lines are retried behind a line that was answered
  retried_leaves : (more : ℕ) (g : RunState) (s : Session) (first : List RunEvent) → Counts desc (length g.waiting + 1) (length g.waiting) first → Small (more + length g.waiting) s
      → RetryLeaves (length g.waiting + 1) more (events_before first (retries (length g.waiting) desc s g.waiting))
  retried_leaves more g s first p small =
      let x = retries (length g.waiting) desc s g.waiting in
      behind (length g.waiting + 1) (length g.waiting) (length x.waiting) more first x.events x.session p (retries_leave (length g.waiting) more s g.waiting small)

  effect_leaves : (more : ℕ) (g : RunState) (l : Line) → Small (more + (length g.waiting + 1)) g.session → LineLeaves (length g.waiting + 1) more (line_effect desc g l)
  effect_leaves more g Empty small = record { counts = counts_none desc (length g.waiting + 1) (length g.waiting) (omega arith); small = small_less (more + (length g.waiting + 1)) (more + length g.waiting) g.session (omega arith) small }
  effect_leaves more g (Bad place) small =
      let bad = says (bad_text g.line place) ∷ [] in
      let r = retried_leaves more g g.session bad (counts_more desc (length g.waiting) (length g.waiting) (length g.waiting + 1) (length g.waiting) bad (omega arith) (counts_says desc (length g.waiting) (bad_text g.line place)))
      (small_less (more + (length g.waiting + 1)) (more + length g.waiting) g.session (omega arith) small) in
      record { counts = r.counts; small = r.small }
  effect_leaves more g (Spoken name verb) small =
      let o = step desc g.session name verb in
      let count = counts_of desc g.session name verb in
      let low = low_at (more + (length g.waiting + 1)) g.session name verb small in
      let all = length g.waiting in
      let text = answer_text g.line name o.reply o.sync in
      line_if (all + 1) more (has_line g.waiting name) _ _ (λ has. waiting_leaves more g g.session (first_line g.line name verb false) [] [] (λ n. counts_none desc n n (omega arith)) (λ n. counts_none desc n n (omega arith)) small)
      (λ other. line_if (all + 1) more (is_waits o.reply) _ _
      (λ waits. waiting_leaves more g o.session (first_line g.line name verb true) (calls count verb o ∷ []) (says text ∷ []) (λ n. counts_waiting desc n count verb o low waits (waits_unsynced desc g.session name verb waits)) (λ n. counts_says desc n text) (small_waits (more + (all + 1)) g.session name verb waits small))
      (λ answered.
      let r = retried_leaves more g o.session (calls count verb o ∷ says text ∷ []) (counts_on desc (all + 1) all all (calls count verb o ∷ []) (says text ∷ []) (counts_call all count verb o low) (counts_says desc all text))
      (small_answered (more + all) g.session name verb (small_less (more + (all + 1)) (more + all + 1) g.session (omega arith) small)) in
      record { counts = r.counts; small = r.small }))

  step_leaves : (more : ℕ) (g : RunState) (raw : List ℕ) → Small (more + (length g.waiting + 1)) g.session → LineLeaves (length g.waiting + 1) more (line_step desc g raw)
  unfolding line_step
  step_leaves more g raw small = effect_leaves more (one_line_more g) (line_of desc (line_text raw)) small

  lines_if : (all n : ℕ) (b : Bool) (l m : LineEffect) → Counts desc (all + 1) (length l.going.waiting) l.events → Counts desc (length l.going.waiting + n) (length m.going.waiting) m.events
      → Counts desc (all + suc n) (length (cond b l (lines_before l m)).going.waiting) (cond b l (lines_before l m)).events
  lines_if all n true l m p q = counts_more desc (all + 1) (length l.going.waiting) (all + suc n) (length l.going.waiting) l.events (omega arith) p
  lines_if all n false l m p q =
      let left = length l.going.waiting in
      counts_on desc (all + suc n) (left + n) (length m.going.waiting) l.events m.events (counts_more desc (all + 1) left (all + suc n) (left + n) l.events (omega arith) p) q

  run_counts : (g : RunState) (lines : List (List ℕ)) → Small (length lines + length g.waiting) g.session → Counts desc (length g.waiting + length lines) (length (lines_run desc g lines).going.waiting) (lines_run desc g lines).events
  unfolding lines_run
  run_counts g [] small = counts_none desc (length g.waiting + 0) (length g.waiting) (omega arith)
  run_counts g (l ∷ ls) small =
      let s = line_step desc g l in
      let one = step_leaves (length ls) g l (small_less (suc (length ls) + length g.waiting) (length ls + (length g.waiting + 1)) g.session (omega arith) small) in
      lines_if (length g.waiting) (length ls) s.full s (lines_run desc s.going ls) one.counts (run_counts s.going ls one.small)

  -- so each line of a script makes one call at most that is answered
  script_counts : (db : Db) → HasSize 200000000 db → (first : ℕ) (lines : List (List ℕ)) → length lines ≤ 1000000 → Counts desc (length lines) (length (script_run desc db first lines).going.waiting) (script_run desc db first lines).events
  script_counts db size first lines few =
      let r = script_run desc db first lines in
      counts_more desc _ (length r.going.waiting) (length lines) (length r.going.waiting) r.events (omega arith) (run_counts (first_state db first) lines (record { n = 200000000; room = omega (arith, few); size = record { db = size; mark = size } }))

-- ---- the law

unanswered_few : (desc : Described) (waiting : List WaitingLine) → Few desc 0 (unanswered_events waiting)
unanswered_few desc [] = few_none desc
unanswered_few desc (h ∷ hs) = few_on desc 0 0 (says _ ∷ []) (unanswered_events hs) (few_says desc _) (unanswered_few desc hs)

back_few : (desc : Described) (works : Bool) → Few desc 1 (goes_back works ∷ [])
back_few desc works = record { blocks = omega (arith, no_blocks desc); syncs = omega arith; backs = omega (arith, one_low works); low = (omega arith, tt) }

end_few : (desc : Described) (works : Bool) (waiting : List WaitingLine) → Few desc 1 (end_events works waiting)
end_few desc works waiting = few_on desc 0 1 (unanswered_events waiting) (goes_back works ∷ []) (unanswered_few desc waiting) (back_few desc works)

few_more : (desc : Described) (m n : ℕ) (events : List RunEvent) → m ≤ n → Few desc m events → Few desc n events
few_more desc m n events le p = record { blocks = omega (arith, le, p.blocks); syncs = omega (arith, le, p.syncs); backs = omega (arith, le, p.backs); low = p.low }

few_take : (desc : Described) (n : ℕ) (events : List RunEvent) (k : ℕ) → Few desc n events → (blocks_of desc (take k events) ≤ 2572800038400 * n) × ((syncs_of (take k events) ≤ n) × (backs_of (take k events) ≤ n))
few_take desc n events k p = (omega (arith, blocks_take desc k events, p.blocks), (omega (arith, syncs_take k events, p.syncs), omega (arith, backs_take k events, p.backs)))
  where
    blocks_take : (d : Described) (k : ℕ) (es : List RunEvent) → blocks_of d (take k es) ≤ blocks_of d es
    blocks_take d zero es = omega arith
    blocks_take d (suc k) [] = omega arith
    blocks_take d (suc k) (e ∷ es) = omega (arith, blocks_take d k es)

    syncs_take : (k : ℕ) (es : List RunEvent) → syncs_of (take k es) ≤ syncs_of es
    syncs_take zero es = omega arith
    syncs_take (suc k) [] = omega arith
    syncs_take (suc k) (e ∷ es) = omega (arith, syncs_take k es)

    backs_take : (k : ℕ) (es : List RunEvent) → backs_of (take k es) ≤ backs_of es
    backs_take zero es = omega arith
    backs_take (suc k) [] = omega arith
    backs_take (suc k) (e ∷ es) = omega (arith, backs_take k es)

front_few : (desc : Described) → IsWellFormed desc → (db : Db) → HasSize 200000000 db → (first : ℕ) (lines : List (List ℕ)) (n : ℕ) → KeepsFront lines n → Few desc 1000000 (front_events desc db first lines n)
front_few desc well db size first lines n keeps =
    let few : length (take n lines) ≤ 1000000 = omega (arith, keeps.few, length-take n lines) in
    let p = script_counts desc well db size first (take n lines) few in
    few_more desc p.n 1000000 _ (omega (arith, p.room, keeps.few, length-take n lines)) p.few

script_few : (desc : Described) → IsWellFormed desc → (db : Db) → HasSize 200000000 db → (first : ℕ) (lines : List (List ℕ)) → length lines ≤ 1000000 → Few desc 1000001 (script_events desc db first lines)
unfolding script_events
script_few desc well db size first lines few =
    let r = script_run desc db first lines in
    let p = script_counts desc well db size first lines few in
    few_on desc 1000000 1 r.events (end_events (someone_works r.going.session.programs) r.going.waiting) (few_more desc p.n 1000000 _ (omega (arith, p.room, few)) p.few) (end_few desc _ _)

events_few : (desc : Described) → IsWellFormed desc → (db : Db) → HasSize 200000000 db → (first : ℕ) (lines : List (List ℕ)) (n : ℕ) (events : List RunEvent) → KeepsFront lines n → AreOfFront desc db first lines n events → Few desc 1000001 events
events_few desc well db size first lines n events keeps (inl front) = subst (λ (es : List RunEvent). Few desc 1000001 es) (sym front) (few_more desc 1000000 1000001 _ (omega arith) (front_few desc well db size first lines n keeps))
events_few desc well db size first lines n events keeps (inr all) = subst (λ (es : List RunEvent). Few desc 1000001 es) (sym all.2) (script_few desc well db size first lines (omega (arith, keeps.few, all.0)))

begun_low : (desc : Described) → IsWellFormed desc → (events : List RunEvent) (k : ℕ) → AllByRecursion IsLowEvent events → blocks_begun desc (slice_get events k) ≤ 2572800038400
begun_low desc well [] k low = omega arith
begun_low desc well (e ∷ es) zero low = most_blocks desc well e.count low.0
begun_low desc well (e ∷ es) (suc k) low = begun_low desc well es k low.1

pub counted_law : CountedLaw
counted_law desc well db size first lines n events keeps of k =
    let p = events_few desc well db size first lines n events keeps of in
    let t = few_take desc 1000001 events k p in
    record { blocks = omega (arith, t.0, begun_low desc well events k p.low); syncs = omega (arith, t.1.0); backs = omega (arith, t.1.1) }
