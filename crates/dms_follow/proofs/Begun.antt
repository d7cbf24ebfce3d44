-- A restore is pending only directly behind its Begin.
use Rattle.std.proofs.Common.{ℕ, ◌≡◌, true, false, List, [], ◌∷◌, ◌++◌, Some, None, refl, sym, ◌∙◌, ap, subst, append_assoc}
use Rattle.std.proofs.lemmas.Bool.{true≢false}
use Rattle.std.proofs.lemmas.Option.{none-some}
use Rattle.dms_history.specs.Events.{How, Event, change, quiet, control, begin}
use Rattle.dms_history.specs.Lists.{has}
use Rattle.dms_history.specs.Places.{is_control, is_begin}
use Rattle.dms_history.specs.History.{Pending, History, after_event, history_from, history}
use Rattle.dms_history.specs.Agrees.{ends_restore, BeginsAloneEvents}
use Rattle.dms_history.proofs.Order.{append_none}
use Rattle.dms_follow.proofs.Growing.{or_none}

-- where a restore is pending these events end with a Begin
abbrev pub EndsBegun : History → List Event → Type 0
EndsBegun t xs = (p : Pending) → t.pending ≡ Some p → (ws : List Event) × (m : ℕ) × (how : How) × (xs ≡ ws ++ begin m how ∷ [])

not_more : (t : History) (xs es : List Event) (e : Event) → BeginsAloneEvents (xs ++ e ∷ es) → EndsBegun t xs → ends_restore e ≡ false → (p : Pending) → t.pending ≡ Some p → ⊥
not_more t xs es e alone ends off p is =
    let r = ends p is in
    true≢false (sym (alone r.0 es r.1 r.2 e (ap (λ (l : List Event). l ++ e ∷ es) r.3 ∙ append_assoc r.0 (begin r.1 r.2 ∷ []) (e ∷ es))) ∙ off)

ends_step : (t : History) (xs es : List Event) (e : Event) → BeginsAloneEvents (xs ++ e ∷ es) → EndsBegun t xs → EndsBegun (after_event t e) (xs ++ e ∷ [])
ends_step t xs es (change f b before after) alone ends p is = absurd (not_more t xs es (change f b before after) alone ends refl p is)
ends_step t xs es (quiet n) alone ends p is = absurd (not_more t xs es (quiet n) alone ends refl p is)
ends_step t xs es (control n next counts described) alone ends p is = absurd (none-some p is)
ends_step t xs es (begin m how) alone ends p is = (xs, m, how, refl)

ends_from : (es xs : List Event) (t : History) → BeginsAloneEvents (xs ++ es) → EndsBegun t xs → EndsBegun (history_from t es) (xs ++ es)
ends_from [] xs t alone ends = subst (λ (l : List Event). EndsBegun t l) (sym (append_none xs)) ends
ends_from (e ∷ es) xs t alone ends =
    let same : (xs ++ e ∷ []) ++ es ≡ xs ++ e ∷ es = append_assoc xs (e ∷ []) es in
    subst (λ (l : List Event). EndsBegun (history_from (after_event t e) es) l) same
    (ends_from es (xs ++ e ∷ []) (after_event t e) (subst (λ (l : List Event). BeginsAloneEvents l) (sym same) alone) (ends_step t xs es e alone ends))

pub ends_begun : (xs : List Event) → BeginsAloneEvents xs → EndsBegun (history xs) xs
unfolding history
ends_begun xs alone = ends_from xs [] (record { live = []; pending = None }) alone (λ p is. absurd (none-some p is))

front_alone : (xs ys : List Event) → BeginsAloneEvents (xs ++ ys) → BeginsAloneEvents xs
front_alone xs ys alone us vs m how e is = alone us (vs ++ ys) m how e (ap (λ (l : List Event). l ++ ys) is ∙ append_assoc us (begin m how ∷ (e ∷ vs)) ys)

goes_on : (e : Event) → is_control e ≡ false → is_begin e ≡ false → ends_restore e ≡ false
goes_on (change f b before after) one two = refl
goes_on (quiet n) one two = refl
goes_on (control n next counts described) one two = one
goes_on (begin m how) one two = two

-- no other event stands there
pub nothing_more : (xs evs : List Event) (p : Pending) → BeginsAloneEvents (xs ++ evs) → (history xs).pending ≡ Some p → has is_control evs ≡ false → has is_begin evs ≡ false → evs ≡ []
nothing_more xs [] p alone is one two = refl
nothing_more xs (e ∷ es) p alone is one two =
    absurd (not_more (history xs) xs es e alone (ends_begun xs (front_alone xs (e ∷ es) alone)) (goes_on e (or_none (is_control e) (has is_control es) one).0 (or_none (is_begin e) (has is_begin es) two).0) p is)
