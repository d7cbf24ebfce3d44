-- What a site that tells its text has printed.
use Rattle.std.proofs.Common.{◌≡◌, ◌++◌, ◌∙◌, ap, sym, subst, refl, arith, inl, Bool, true, false, Option, List, [], ℕ, length, length-take, take, Ok, Err, Result, IsOk, OnOk}
use Rattle.std.proofs.lemmas.List.{append-nil}
use Rattle.std.proofs.lemmas.Option.{same_Some}
use Rattle.dms_desc.specs.Shape.{Described}
use Rattle.dms_model.specs.Db.{empty_db}
use Rattle.dms_block.specs.Texts.{Prints, PrintsPrefix}
use Rattle.dms_model.specs.Session.{fresh_session}
use Rattle.dms_storeverbs.specs.View.{View, StandsFor}
use Rattle.dms_plain.specs.Told.{text_if}
use Rattle.dms_runner.specs.Answers.{answers_text, lines_run, script_events, script_run}
use Rattle.dms_runner.specs.Events.{RunEvent, SaidWhole, text_of}
use Rattle.dms_runner.specs.Running.{AnswersWhole, PassesBytes, PassesLines, PassesWaiting, TakesLines, bytes_of, front_events}
use Rattle.dms_status.specs.declared.status.SchemaFault.{SchemaFault}
use Rattle.dms_status.specs.declared.status.Status.{Status}
use Rattle.dms_status.specs.declared.status.LimitKind.{LimitKind}
use Rattle.dms_top.specs.Answering.{Printed, PrintedFront, PrintedPart, PrintedPrefix, PrintedWhole, judged_events}
use Rattle.dms_top.specs.TryLimits.{PassesLimit, SaidIf, TooManyBytes, TooManyHeld, TooManyLines, WithinLimits}

-- a text that is told
pub told_prints : (b : Bool) (before after text : List ℕ) → b ≡ true → Prints (text_if b before) (text_if b after) text → Printed before after text
told_prints true before after text is prints = same_Some _ _ (prints before refl)
told_prints false before after text is prints = absurd (cc)

pub told_front : (b : Bool) (before after text : List ℕ) → b ≡ true → PrintsPrefix (text_if b before) (text_if b after) text → PrintedPrefix before after text
told_front true before after text is prints = let p = prints before refl in (p.0, same_Some _ _ p.1)
told_front false before after text is prints = absurd (cc)

pub limits_kept : (d : Described) (lines : List (List ℕ)) (before after : Option (List ℕ)) → AnswersWhole d empty_db 1 lines before after → WithinLimits d lines
limits_kept d lines before after a = record { few = a.few; short = a.short; room = a.room }

-- the same of the lines that were taken
pub within_front : (d : Described) (lines : List (List ℕ)) (n : ℕ) (before after : Option (List ℕ)) → TakesLines d empty_db 1 lines n before after → WithinLimits d (take n lines)
within_front d lines n before after t = record { few = omega (arith, length-take n lines, t.within, t.few); short = t.short; room = t.room }

-- what these lines answer was printed
said_front : (b : Bool) (before after : List ℕ) (d : Described) (lines : List (List ℕ)) (n : ℕ) → TakesLines d empty_db 1 lines n (text_if b before) (text_if b after) → SaidIf b before after (front_events d empty_db 1 lines n)
said_front b before after d lines n t tells = told_prints b before after _ tells t.text

pub too_many_lines : (b : Bool) (before after : List ℕ) (d : Described) (lines : List (List ℕ)) → PassesLines d empty_db 1 lines (text_if b before) (text_if b after) → TooManyLines (SaidIf b before after) d lines
too_many_lines b before after d lines p = (p.0, (within_front d lines 1000000 (text_if b before) (text_if b after) p.1, said_front b before after d lines 1000000 p.1))

pub too_many_bytes : (b : Bool) (before after : List ℕ) (d : Described) (lines : List (List ℕ)) → PassesBytes d empty_db 1 lines (text_if b before) (text_if b after) → TooManyBytes (SaidIf b before after) d lines
too_many_bytes b before after d lines p = record { n = p.n; before = within_front d lines p.n (text_if b before) (text_if b after) p.took; text = said_front b before after d lines p.n p.took; few = p.few; over = p.over }

pub too_many_held : (b : Bool) (before after : List ℕ) (d : Described) (lines : List (List ℕ)) → PassesWaiting d empty_db 1 lines (text_if b before) (text_if b after) → TooManyHeld (SaidIf b before after) d lines
too_many_held b before after d lines p = record { n = p.n; before = within_front d lines p.n (text_if b before) (text_if b after) p.took; text = said_front b before after d lines p.n p.took; few = p.few; short = p.short; full = p.full }

pub nothing_printed : (before after text : List ℕ) → after ≡ before → PrintedPrefix before after text
nothing_printed before after text same = (0, same ∙ sym (append-nil before))

pub stands_at : (v : View) (n m : ℕ) → n ≡ m → StandsFor v (fresh_session empty_db n) → StandsFor v (fresh_session empty_db m)
stands_at v n m same stands = subst (λ (k : ℕ). StandsFor v (fresh_session empty_db k)) same stands

-- the same texts
pub printed_moved : (before after text before' after' text' : List ℕ) → after ≡ after' → before ≡ before' → text ≡ text' → Printed before' after' text' → Printed before after text
printed_moved before after text before' after' text' a b t p = a ∙ p ∙ ap (λ (x : List ℕ). x ++ text') (sym b) ∙ ap (λ (x : List ℕ). before ++ x) (sym t)

pub passes_described : (said : List RunEvent → Type 0) (k : LimitKind) (d d' : Described) (lines : List (List ℕ)) → d ≡ d' → PassesLimit said k d' lines → PassesLimit said k d lines
passes_described said k d d' lines e p = subst (λ (x : Described). PassesLimit said k x lines) (sym e) p

-- the same texts, where they are told
pub said_moved : (b : Bool) (before after before' after' : List ℕ) (events : List RunEvent) → after ≡ after' → before ≡ before' → SaidIf b before' after' events → SaidIf b before after events
said_moved b before after before' after' events a s p tells = printed_moved before after (text_of events) before' after' (text_of events) a s refl (p tells)

-- and what is so of each of them
pub passes_said : (k : LimitKind) (b : Bool) (before after before' after' : List ℕ) (d : Described) (lines : List (List ℕ)) → after ≡ after' → before ≡ before' → PassesLimit (SaidIf b before' after') k d lines → PassesLimit (SaidIf b before after) k d lines
passes_said k b before after before' after' d lines a s p =
    subst (λ (x : List ℕ). PassesLimit (SaidIf b before x) k d lines) (sym a) (subst (λ (x : List ℕ). PassesLimit (SaidIf b x after') k d lines) (sym s) p)

pub within_moved : (d d' : Described) (lines : List (List ℕ)) → d ≡ d' → WithinLimits d' lines → WithinLimits d lines
within_moved d d' lines e w = subst (λ (x : Described). WithinLimits x lines) (sym e) w

-- what holds at Ok, where it is Ok
pub on_ok : {T E : Type 0} (r : Result T E) (P : Type 0) → IsOk r → OnOk r P → P
on_ok (Ok x) P is p = p
on_ok (Err e) P is p = absurd (cc)

or_that : {T E : Type 0} → T → Result T E → T
or_that x (Ok y) = y
or_that x (Err e) = x

-- one description is meant
pub same_description : (j : Result Described SchemaFault) (d e : Described) → j ≡ Ok d → j ≡ Ok e → e ≡ d
unfolding or_that
same_description j d e first then_ = ap (or_that d) (sym then_ ∙ first)

pub within_lines : (d : Described) (lines lines' : List (List ℕ)) → lines' ≡ lines → WithinLimits d lines' → WithinLimits d lines
within_lines d lines lines' e w = subst (λ (x : List (List ℕ)). WithinLimits d x) e w

pub passes_lines : (said : List RunEvent → Type 0) (k : LimitKind) (d : Described) (lines lines' : List (List ℕ)) → lines' ≡ lines → PassesLimit said k d lines' → PassesLimit said k d lines
passes_lines said k d lines lines' e p = subst (λ (x : List (List ℕ)). PassesLimit said k d x) e p

pub not_refused : (j : Result Described SchemaFault) (d : Described) (e : SchemaFault) → j ≡ Ok d → j ≡ Err e → ⊥
not_refused (Ok x) d e p q = absurd (cc)
not_refused (Err x) d e p q = absurd (cc)

-- whole events

pub told_whole : (b : Bool) (before after : List ℕ) (events : List RunEvent) → b ≡ true → SaidWhole (text_if b before) (text_if b after) events → PrintedWhole before after events
told_whole b before after events is whole = (whole.0, told_prints b before after (text_of (take whole.0 events)) is whole.1)

pub nothing_whole : (before after : List ℕ) (events : List RunEvent) → after ≡ before → PrintedWhole before after events
nothing_whole before after events same = (0, same ∙ sym (append-nil before))

pub nothing_part : (status : Status) (before after : List ℕ) (events : List RunEvent) → after ≡ before → PrintedPart status before after events
nothing_part status before after events same = record { text = nothing_printed before after (text_of events) same; whole = λ printed. nothing_whole before after events same }

pub part_moved : (status : Status) (before after before' after' : List ℕ) (events events' : List RunEvent) → after ≡ after' → before ≡ before' → events ≡ events' → PrintedPart status before' after' events' → PrintedPart status before after events
part_moved status before after before' after' events events' a b e p =
    subst (λ (x : List ℕ). PrintedPart status before x events) (sym a)
    (subst (λ (x : List ℕ). PrintedPart status x after' events) (sym b) (subst (λ (x : List RunEvent). PrintedPart status before' after' x) (sym e) p))

pub events_accepted : (j : Result Described SchemaFault) (d : Described) (lines : List (List ℕ)) → j ≡ Ok d → judged_events j lines ≡ script_events d empty_db 1 lines
events_accepted j d lines is = ap (λ (x : Result Described SchemaFault). judged_events x lines) is

-- a part of the script

pub front_none : (status : Status) (d : Described) (lines : List (List ℕ)) (before after : List ℕ) → after ≡ before → PrintedFront status d lines before after
front_none status d lines before after same = record {
  n = 0;
  events = (script_run d empty_db 1 (take 0 lines)).events;
  front = record { within = omega arith; few = omega arith; short = omega arith };
  are = inl refl;
  part = nothing_part status before after _ same;
}

pub printed_front : (status : Status) (d d' : Described) (lines lines' : List (List ℕ)) (before after before' after' : List ℕ) → after ≡ after' → before ≡ before' → d ≡ d' → lines ≡ lines'
    → PrintedFront status d' lines' before' after' → PrintedFront status d lines before after
printed_front status d d' lines lines' before after before' after' a b e l p =
    subst (λ (x : List ℕ). PrintedFront status d lines before x) (sym a)
    (subst (λ (x : List ℕ). PrintedFront status d lines x after') (sym b)
    (subst (λ (x : Described). PrintedFront status x lines before' after') (sym e) (subst (λ (x : List (List ℕ)). PrintedFront status d' x before' after') (sym l) p)))

-- a script without lines

pub none_full : (d : Described) → (script_run d empty_db 1 []).full ≡ false
unfolding lines_run
none_full d = refl

none_answered : (d : Described) → answers_text d empty_db 1 [] ≡ []
unfolding lines_run script_events
none_answered d = refl

-- nothing was printed, and no line answered
pub none_said : (b : Bool) (d : Described) (said : List ℕ) → SaidIf b said said (script_run d empty_db 1 []).events
unfolding lines_run
none_said b d said tells = sym (append-nil said)

pub none_printed : (d : Described) (lines : List (List ℕ)) (said : List ℕ) → lines ≡ [] → Printed said said (answers_text d empty_db 1 lines)
none_printed d lines said none = sym (ap (λ (ls : List (List ℕ)). said ++ answers_text d empty_db 1 ls) none ∙ ap (λ (t : List ℕ). said ++ t) (none_answered d) ∙ append-nil said)

pub none_within : (d : Described) (lines : List (List ℕ)) → lines ≡ [] → WithinLimits d lines
none_within d lines none = record {
  few = omega (arith, ap length none);
  short = omega (arith, ap bytes_of none);
  room = ap (λ (ls : List (List ℕ)). (script_run d empty_db 1 ls).full) none ∙ none_full d;
}
