-- The verbs of waiting lines.
use Rattle.std.proofs.Common.{◌≡◌, ◌∙◌, ℕ, zero, suc, List, [], ◌∷◌, ◌++◌, Some, None, refl, sym, ap, subst}
use Rattle.std.specs.Prelude.{slice_get}
use Rattle.std.specs.declared.option.Option.{Option}
use Rattle.dms_desc.specs.Shape.{Described}
use Rattle.dms_model.specs.Verbs.{IsVerbOf}
use Rattle.dms_runner.specs.declared.waiting.WaitingLine.{WaitingLine}
use Rattle.dms_runner.specs.declared.waiting.WaitingLines.{WaitingLines}
use Rattle.dms_runner.specs.Firsts.{AreFirst, AreHeld, FirstAt, line_in, lines_of, standing}
use Rattle.dms_runner.specs.Waiting.{AreVerbs, said_to_wait}
use Rattle.dms_runner.proofs.Firsts.{standing_on}

pub verbs_under : {d e : Described} (waiting : List WaitingLine) → d ≡ e → AreVerbs d waiting → AreVerbs e waiting
verbs_under waiting same h = subst (λ (x : Described). AreVerbs x waiting) same h

-- they are held, under the same description
pub held_under : {d e : Described} (w : WaitingLines) → d ≡ e → AreHeld d w → AreHeld e w
held_under w same h = record { verbs = verbs_under (lines_of w) same h.verbs; firsts = h.firsts }

pub verb_at : (desc : Described) (slots : List (Option WaitingLine)) (i : ℕ) (h : WaitingLine) → slice_get slots i ≡ Some (Some h) → AreVerbs desc (standing slots) → IsVerbOf desc h.verb
verb_at desc [] i h at all = absurd (cc)
verb_at desc (None ∷ xs) zero h at all = absurd (cc)
verb_at desc (Some x ∷ xs) zero h at all = let is : x ≡ h = cc in subst (λ (y : WaitingLine). IsVerbOf desc y.verb) is all.0
verb_at desc (None ∷ xs) (suc i) h at all = verb_at desc xs i h at all
verb_at desc (Some x ∷ xs) (suc i) h at all = verb_at desc xs i h at all.1

pub verb_in : (desc : Described) (slots : List (Option WaitingLine)) (i : ℕ) (h : WaitingLine) → Some h ≡ line_in (slice_get slots i) → AreVerbs desc (standing slots) → IsVerbOf desc h.verb
verb_in desc slots i h is all = by (slice_get slots i) refl is
  where
    by : (o : Option (Option WaitingLine)) → slice_get slots i ≡ o → Some h ≡ line_in o → IsVerbOf desc h.verb
    by None at is = absurd (cc)
    by (Some o) at is = verb_at desc slots i h (at ∙ ap (λ (x : Option WaitingLine). Some x) (sym is)) all

-- the line that was read from a slot
pub same_line : (slots : List (Option WaitingLine)) (i : ℕ) (x h : WaitingLine) → Some x ≡ line_in (slice_get slots i) → slice_get slots i ≡ Some (Some h) → x ≡ h
same_line slots i x h read is = let e : Some x ≡ Some h = read ∙ ap line_in is in cc

pub no_line : (slots : List (Option WaitingLine)) (i : ℕ) (h : WaitingLine) → None ≡ line_in (slice_get slots i) → slice_get slots i ≡ Some (Some h) → ⊥
no_line slots i h read is = let e : ◌≡◌ {A = Option WaitingLine} None (Some h) = read ∙ ap line_in is in cc

-- a line is said to wait, and a line is taken out
verbs_said : (desc : Described) (xs : List WaitingLine) (h : WaitingLine) (ys : List WaitingLine) → AreVerbs desc (xs ++ h ∷ ys) → AreVerbs desc ((xs ++ said_to_wait h ∷ []) ++ ys)
verbs_said desc [] h ys all = all
verbs_said desc (x ∷ xs) h ys all = (all.0, verbs_said desc xs h ys all.1)

verbs_out : (desc : Described) (xs : List WaitingLine) (h : WaitingLine) (ys : List WaitingLine) → AreVerbs desc (xs ++ h ∷ ys) → AreVerbs desc (xs ++ ys)
verbs_out desc [] h ys all = all.1
verbs_out desc (x ∷ xs) h ys all = (all.0, verbs_out desc xs h ys all.1)

pub first_lines : (w : WaitingLines) (j : ℕ) (f : FirstAt w j) → lines_of w ≡ standing f.behind ++ f.line ∷ standing f.ahead
first_lines w j f = ap standing f.are ∙ standing_on f.behind (Some f.line ∷ f.ahead)

-- the verb of a first line
pub verb_of : (desc : Described) (w : WaitingLines) (j : ℕ) (f : FirstAt w j) → AreVerbs desc (lines_of w) → IsVerbOf desc f.line.verb
verb_of desc w j f all = at (standing f.behind) (subst (AreVerbs desc) (first_lines w j f) all)
  where
    at : (xs : List WaitingLine) → AreVerbs desc (xs ++ f.line ∷ standing f.ahead) → IsVerbOf desc f.line.verb
    at [] all = all.0
    at (x ∷ xs) all = at xs all.1

pub held_said : (desc : Described) (w : WaitingLines) (j : ℕ) (f : FirstAt w j) (lines : List WaitingLine) → lines ≡ (standing f.behind ++ said_to_wait f.line ∷ []) ++ standing f.ahead → AreVerbs desc (lines_of w) → AreVerbs desc lines
held_said desc w j f lines is all = subst (AreVerbs desc) (sym is) (verbs_said desc (standing f.behind) f.line (standing f.ahead) (subst (AreVerbs desc) (first_lines w j f) all))

pub held_out : (desc : Described) (w : WaitingLines) (j : ℕ) (f : FirstAt w j) (lines : List WaitingLine) → lines ≡ standing f.behind ++ standing f.ahead → AreVerbs desc (lines_of w) → AreVerbs desc lines
held_out desc w j f lines is all = subst (AreVerbs desc) (sym is) (verbs_out desc (standing f.behind) f.line (standing f.ahead) (subst (AreVerbs desc) (first_lines w j f) all))

-- a line more is held
pub held_more : (desc : Described) (w v : WaitingLines) (h : WaitingLine) → lines_of v ≡ lines_of w ++ h ∷ [] → AreFirst v → IsVerbOf desc h.verb → AreHeld desc w → AreHeld desc v
held_more desc w v h is firsts own all = record { verbs = subst (AreVerbs desc) (sym is) (at (lines_of w) all.verbs); firsts = firsts }
  where
    at : (xs : List WaitingLine) → AreVerbs desc xs → AreVerbs desc (xs ++ h ∷ [])
    at [] all = (own, tt)
    at (x ∷ xs) all = (all.0, at xs all.1)
