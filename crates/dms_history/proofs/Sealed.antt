-- One more entry is sealed.
use Rattle.std.proofs.Common.{ℕ, ◌≡◌, true, List, [], ◌∷◌, ◌++◌, length, None, refl, sym, ◌∙◌, ap, append_assoc}
use Rattle.dms_history.specs.Events.{Event, change, quiet, control, begin}
use Rattle.dms_history.specs.History.{History, history_from, history}
use Rattle.dms_history.specs.Ranges.{Logged, event, range, range_change, changes_of, events_from, told_events}
use Rattle.dms_history.specs.Entries.{Entry, schema_part, image, byte_range, quiet_point, control_point, begin_restore, counts_in, how_of}
use Rattle.dms_history.specs.declared.event.FileCount.{FileCount}
use Rattle.dms_history.specs.Schemas.{Parts, no_parts, parts_from, parts_of_schema, schema_entries}
use Rattle.dms_history.specs.EntryEvents.{said_by, logged_from, events_in, events}
use Rattle.dms_history.specs.LawsOfEntries.{SchemaSealed, ImageSealed, RangeSealed, QuietSealed, ControlSealed, BeginSealed, OneMoreEvent}
use Rattle.dms_history.proofs.Order.{append_none}
use Rattle.dms_history.proofs.Turns.{history_append}
use Rattle.dms_history.proofs.Schemas.{logged_append, schema_is_whole}

pub told_append : (xs ys : List Logged) (h : History) → events_from h (xs ++ ys) ≡ events_from h xs ++ events_from (history_from h (events_from h xs)) ys
told_append [] ys h = refl
told_append (x ∷ xs) ys h =
    let first = changes_of h.live x in
    let then : History = history_from h first in
    ap (λ (l : List Event). first ++ l) (told_append xs ys then)
    ∙ sym (append_assoc first (events_from then xs) (events_from (history_from then (events_from then xs)) ys))
    ∙ ap (λ (g : History). (first ++ events_from then xs) ++ events_from g ys) (sym (history_append first (events_from then xs) h))

pub told_push : (xs : List Logged) (x : Logged) → told_events (xs ++ x ∷ []) ≡ told_events xs ++ changes_of (history (told_events xs)).live x
unfolding told_events history
told_push xs x =
    told_append xs (x ∷ []) (record { live = []; pending = None })
    ∙ ap (λ (l : List Event). told_events xs ++ l) (append_none (changes_of (history (told_events xs)).live x))

-- one entry more that says something
pub one : (entries : List Entry) (e : Entry) (x : Logged) → said_by (parts_from no_parts entries) e ≡ x ∷ [] → events (entries ++ e ∷ []) ≡ events entries ++ changes_of (history (events entries)).live x
one entries e x is =
    ap told_events (logged_append entries (e ∷ []) no_parts ∙ ap (λ (l : List Logged). events_in entries ++ (l ++ [])) is) ∙ told_push (events_in entries) x

pub schema_sealed : SchemaSealed
schema_sealed entries part parts bytes = ap told_events (logged_append entries (schema_part part parts bytes ∷ []) no_parts ∙ append_none (events_in entries))

pub image_sealed : ImageSealed
image_sealed entries f b before after = one entries (image f b before after) (event (change f b before after)) refl

pub range_sealed : RangeSealed
range_sealed entries f b place bytes = (
  λ old last. one entries (byte_range f b place bytes) (range f b place bytes) refl ∙ ap (λ o. events entries ++ range_change f b place bytes o) last,
  λ none. one entries (byte_range f b place bytes) (range f b place bytes) refl ∙ ap (λ o. events entries ++ range_change f b place bytes o) none ∙ append_none (events entries),
)

pub quiet_sealed : QuietSealed
quiet_sealed entries n = one entries (quiet_point n) (event (quiet n)) refl

pub begin_sealed : BeginSealed
begin_sealed entries n kind = one entries (begin_restore n kind) (event (begin n (how_of kind))) refl

schema_says : (bodies : List (List ℕ)) (k all : ℕ) (p : Parts) → logged_from p (parts_of_schema k all bodies) ≡ []
schema_says [] k all p = refl
schema_says (bytes ∷ rest) k all p = schema_says rest _ all _

pub control_logged : (p : Parts) (first : List ℕ) (rest : List (List ℕ)) (n next : ℕ) (counts : List FileCount)
    → logged_from p (schema_entries (first ∷ rest) ++ control_point n next counts ∷ []) ≡ event (control n next (counts_in counts) true) ∷ []
control_logged p first rest n next counts =
    let schema = schema_entries (first ∷ rest) in
    logged_append schema (control_point n next counts ∷ []) p
    ∙ (λ i. schema_says (first ∷ rest) 1 (length (first ∷ rest)) p i ++ event (control n next (counts_in counts) (schema_is_whole [] first rest p i)) ∷ [])

pub control_sealed : ControlSealed
control_sealed entries first rest n next counts =
    let p = parts_from no_parts entries in
    let schema = schema_entries (first ∷ rest) in
    let c = control_point n next counts in
    ap told_events (logged_append entries (schema ++ c ∷ []) no_parts ∙ ap (λ (l : List Logged). events_in entries ++ l) (control_logged p first rest n next counts))
    ∙ told_push (events_in entries) (event (control n next (counts_in counts) true))

pub one_more_event : OneMoreEvent
unfolding history
one_more_event es e = history_append es (e ∷ []) (record { live = []; pending = None })
