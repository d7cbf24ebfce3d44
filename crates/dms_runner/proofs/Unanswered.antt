-- The lines that are still held at the end, one after another.
use Rattle.std.proofs.Common.{◌≡◌, ◌+◌, ◌<◌, ◌≤◌, ℕ, List, [], ◌∷◌, ◌++◌, refl, sym, ap, ◌∙◌, length, take, drop, get_or}
use Rattle.std.proofs.lemmas.List.{take_more, drop_more, take_all, take-append-drop}
use Rattle.dms_script.specs.Replies.{unanswered_text}
use Rattle.dms_runner.specs.declared.waiting.WaitingLine.{WaitingLine}
use Rattle.dms_runner.specs.Answers.{unanswered_events}
use Rattle.dms_runner.specs.Events.{RunEvent, says, text_of}
use Rattle.dms_runner.proofs.Happening.{text_on}
use Rattle.std.proofs.lemmas.List.{append-nil}

abbrev pub line_text : WaitingLine → List ℕ
line_text h = unanswered_text h.line h.program

unanswered_on : (xs ys : List WaitingLine) → unanswered_events (xs ++ ys) ≡ unanswered_events xs ++ unanswered_events ys
unanswered_on [] ys = refl
unanswered_on (x ∷ xs) ys = ap (λ (t : List RunEvent). says (line_text x) ∷ t) (unanswered_on xs ys)

pub unanswered_more : (waiting : List WaitingLine) (i : ℕ) (h : WaitingLine) → i < length waiting → get_or waiting i h ≡ h → unanswered_events (take (i + 1) waiting) ≡ unanswered_events (take i waiting) ++ says (line_text h) ∷ []
unanswered_more waiting i h within is =
    ap unanswered_events (take_more waiting i h within ∙ ap (λ (x : WaitingLine). take i waiting ++ x ∷ []) is) ∙ unanswered_on (take i waiting) (h ∷ [])

-- the rest begins with this line
pub unanswered_rest : (waiting : List WaitingLine) (i : ℕ) (h : WaitingLine) → i < length waiting → get_or waiting i h ≡ h → unanswered_events waiting ≡ unanswered_events (take i waiting) ++ (says (line_text h) ∷ unanswered_events (drop (i + 1) waiting))
unanswered_rest waiting i h within is =
    ap unanswered_events (sym (take-append-drop i waiting)) ∙ unanswered_on (take i waiting) (drop i waiting) ∙ ap (λ (l : List WaitingLine). unanswered_events (take i waiting) ++ unanswered_events l) (drop_more waiting i h within ∙ ap (λ (x : WaitingLine). x ∷ drop (i + 1) waiting) is)

pub unanswered_split : (waiting : List WaitingLine) (i : ℕ) → unanswered_events waiting ≡ unanswered_events (take i waiting) ++ unanswered_events (drop i waiting)
unanswered_split waiting i = ap unanswered_events (sym (take-append-drop i waiting)) ∙ unanswered_on (take i waiting) (drop i waiting)

pub unanswered_all : (waiting : List WaitingLine) (i : ℕ) → length waiting ≤ i → unanswered_events (take i waiting) ≡ unanswered_events waiting
unanswered_all waiting i over = ap unanswered_events (take_all i waiting over)

-- what is said of them

pub text_more : (waiting : List WaitingLine) (i : ℕ) (h : WaitingLine) → i < length waiting → get_or waiting i h ≡ h → text_of (unanswered_events (take (i + 1) waiting)) ≡ text_of (unanswered_events (take i waiting)) ++ line_text h
text_more waiting i h within is = ap text_of (unanswered_more waiting i h within is) ∙ text_on (unanswered_events (take i waiting)) (says (line_text h) ∷ []) ∙ ap (λ (t : List ℕ). text_of (unanswered_events (take i waiting)) ++ t) (append-nil (line_text h))

pub text_rest : (waiting : List WaitingLine) (i : ℕ) (h : WaitingLine) → i < length waiting → get_or waiting i h ≡ h → text_of (unanswered_events waiting) ≡ text_of (unanswered_events (take i waiting)) ++ (line_text h ++ text_of (unanswered_events (drop (i + 1) waiting)))
text_rest waiting i h within is = ap text_of (unanswered_rest waiting i h within is) ∙ text_on (unanswered_events (take i waiting)) (says (line_text h) ∷ unanswered_events (drop (i + 1) waiting))

pub text_split : (waiting : List WaitingLine) (i : ℕ) → text_of (unanswered_events waiting) ≡ text_of (unanswered_events (take i waiting)) ++ text_of (unanswered_events (drop i waiting))
text_split waiting i = ap text_of (unanswered_split waiting i) ∙ text_on (unanswered_events (take i waiting)) (unanswered_events (drop i waiting))
