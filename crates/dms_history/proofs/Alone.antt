-- What stands after a Begin, among entries and among their events.
use Rattle.std.proofs.Common.{ℕ, ◌≡◌, inl, inr, true, List, [], ◌∷◌, ◌++◌, Option, Some, None, refl, sym, ◌∙◌, ap, subst, append_assoc}
use Rattle.std.proofs.lemmas.Bool.{true≢false}
use Rattle.std.proofs.lemmas.Option.{none-some}
use Rattle.dms_history.specs.Events.{BlockBytes, How, Event, begin}
use Rattle.dms_history.specs.Images.{last_after}
use Rattle.dms_history.specs.History.{History, history_from, history}
use Rattle.dms_history.specs.Agrees.{ends_restore, BeginsAloneEvents}
use Rattle.dms_history.specs.Ranges.{Logged, event, range, range_change, events_from, told_events}
use Rattle.dms_history.specs.Entries.{Entry}
use Rattle.dms_history.specs.EntryEvents.{events_in, events, ends_restore_logged, history_of, BeginsAlone}
use Rattle.dms_history.proofs.Order.{not_empty, split_push}
use Rattle.dms_history.proofs.Sealed.{told_push, one_more_event}

-- the first event of a list whose first entry ends a restore
next_ends : (xs : List Logged) (h : History) (e : Event) (vs : List Event) → events_from h xs ≡ e ∷ vs → ((x : Logged) (ys : List Logged) → xs ≡ x ∷ ys → ends_restore_logged x ≡ true) → ends_restore e ≡ true
next_ends [] h e vs is first = absurd (not_empty [] vs e (sym is))
next_ends (event d ∷ xs) h e vs is first = let head : d ≡ e = cc in subst (λ (k : Event). ends_restore k ≡ true) head (first (event d) xs refl)
next_ends (range f b place bytes ∷ xs) h e vs is first = absurd (true≢false (sym (first (range f b place bytes) xs refl)))

alone_from : (xs : List Logged) (h : History) → BeginsAlone xs → BeginsAloneEvents (events_from h xs)
alone_from [] h alone us vs m how e is = absurd (not_empty us (e ∷ vs) (begin m how) (sym is))
alone_from (event d ∷ xs) h alone [] vs m how e is =
    let head : d ≡ begin m how = cc in
    let tail : events_from (history_from h (d ∷ [])) xs ≡ e ∷ vs = cc in
    next_ends xs (history_from h (d ∷ [])) e vs tail (λ x ys same. alone [] ys m how x (λ i. event (head i) ∷ same i))
alone_from (event d ∷ xs) h alone (u ∷ us) vs m how e is =
    let tail : events_from (history_from h (d ∷ [])) xs ≡ us ++ begin m how ∷ (e ∷ vs) = cc in
    alone_from xs (history_from h (d ∷ [])) (λ ps qs n o x at. alone (event d ∷ ps) qs n o x (ap (λ (l : List Logged). event d ∷ l) at)) us vs m how e tail
alone_from (range f b place bytes ∷ xs) h alone us vs m how e is =
    go (last_after f b h.live) us is (λ g. alone_from xs g (λ ps qs n o x at. alone (range f b place bytes ∷ ps) qs n o x (ap (λ (l : List Logged). range f b place bytes ∷ l) at)))
  where
    go : (o : Option BlockBytes) (us : List Event) → range_change f b place bytes o ++ events_from (history_from h (range_change f b place bytes o)) xs ≡ us ++ begin m how ∷ (e ∷ vs)
        → ((g : History) → BeginsAloneEvents (events_from g xs)) → ends_restore e ≡ true
    go None us is rest = rest h us vs m how e is
    go (Some old) [] is rest = absurd cc
    go (Some old) (u ∷ us) is rest = rest (history_from h (range_change f b place bytes (Some old))) us vs m how e cc

pub alone_events : (entries : List Entry) → BeginsAlone (events_in entries) → BeginsAloneEvents (events entries)
unfolding told_events
alone_events entries alone = alone_from (events_in entries) (record { live = []; pending = None }) alone

pub alone_more : (ls : List Logged) (l : Logged) → BeginsAlone ls → ((xs : List Logged) (m : ℕ) (how : How) → ls ≡ xs ++ event (begin m how) ∷ [] → ends_restore_logged l ≡ true) → BeginsAlone (ls ++ l ∷ [])
alone_more ls l alone last xs ys m how x is =
    elim (split_push (xs ++ event (begin m how) ∷ []) x ys ls l (append_assoc xs (event (begin m how) ∷ []) (x ∷ ys) ∙ sym is)) [
      | inl end ↦ subst (λ k. ends_restore_logged k ≡ true) (sym end.1) (last xs m how (sym end.2))
      | inr more ↦ alone xs more.0 m how x (sym more.2 ∙ append_assoc xs (event (begin m how) ∷ []) (x ∷ more.0))
    ]

-- where no restore is pending, the entries don't end with a Begin
pub not_begun : (es : List Entry) → (history_of es).pending ≡ None → (xs : List Logged) (m : ℕ) (how : How) → events_in es ≡ xs ++ event (begin m how) ∷ [] → ⊥
not_begun es none xs m how is =
    let said : events es ≡ told_events xs ++ begin m how ∷ [] = ap told_events is ∙ told_push xs (event (begin m how)) in
    none-some (record { entries = (history (told_events xs)).live; point = m; how = how })
    (sym none ∙ ap (λ (l : List Event). (history l).pending) said ∙ ap (λ (h : History). h.pending) (one_more_event (told_events xs) (begin m how)))
