-- Live entries by themselves, Ranges among them, and as changes.
use Rattle.std.specs.Prelude.{◌||◌}
use Rattle.std.proofs.Common.{ℕ, ◌≡◌, inl, inr, Bool, true, false, cond, List, [], ◌∷◌, ◌++◌, map, Option, Some, None, refl, sym, ◌∙◌, ap, append_assoc}
use Rattle.std.proofs.lemmas.Bool.{cases_Bool, true≢false}
use Rattle.std.proofs.lemmas.List.{map-append}
use Rattle.dms_site.specs.Files.{Files}
use Rattle.dms_history.specs.Events.{BlockBytes, Event}
use Rattle.dms_history.specs.Images.{last_after}
use Rattle.dms_history.specs.Lists.{has, until_first, after_first, after_last}
use Rattle.dms_history.specs.Places.{is_control, is_point}
use Rattle.dms_history.specs.Ranges.{Logged, event, range, range_change, changes_of, changes_from, all_changes, is_point_logged, is_control_logged, live_step, live_logged}
use Rattle.dms_history.specs.Entries.{Entry}
use Rattle.dms_history.specs.Schemas.{no_parts, parts_from}
use Rattle.dms_history.specs.EntryEvents.{said_by, events_in, live_of}
use Rattle.dms_history.proofs.AtPoints.{or_no}
use Rattle.dms_history.proofs.Base.{has_append}
use Rattle.dms_history.proofs.Cuts.{after_none}
use Rattle.dms_history.proofs.Order.{append_none}
use Rattle.dms_history.proofs.Schemas.{logged_append}
use Rattle.dms_history.proofs.Turns.{live_of_ranges}
use Rattle.dms_restore.specs.declared.live.LiveEntry.{LiveEntry}
use Rattle.dms_restore.specs.LiveEntries.{logged_at, logged_live, changes_at, own_events, events_at}

-- ---- the events themselves

pub own_append : (xs ys : List Logged) → own_events (xs ++ ys) ≡ own_events xs ++ own_events ys
own_append [] ys = refl
own_append (event e ∷ xs) ys = ap (λ (l : List Event). e ∷ l) (own_append xs ys)
own_append (range f b place bytes ∷ xs) ys = own_append xs ys

pub events_append : (files : Files) (xs ys : List LiveEntry) → events_at files (xs ++ ys) ≡ events_at files xs ++ events_at files ys
events_append files xs ys = ap own_events (map-append (logged_at files) xs ys) ∙ own_append (logged_live files xs) (logged_live files ys)

pub own_controls : (xs : List Logged) → has is_control_logged xs ≡ has is_control (own_events xs)
own_controls [] = refl
own_controls (event e ∷ xs) = ap (λ k. is_control e || k) (own_controls xs)
own_controls (range f b place bytes ∷ xs) = own_controls xs

own_either : (c : Bool) (xs ys : List Logged) → own_events (cond c xs ys) ≡ cond c (own_events xs) (own_events ys)
own_either true xs ys = refl
own_either false xs ys = refl

last_all : (es : List Event) (c : Bool) → has is_control es ≡ c → cond c (after_last is_control es) es ≡ after_last is_control es
last_all [] true on = refl
last_all [] false off = refl
last_all (e ∷ es) true on = refl
last_all (e ∷ es) false off = sym (ap (λ k. cond k (after_last is_control es) (e ∷ es)) off)

-- behind the last Control
pub own_last : (xs : List Logged) → own_events (after_last is_control_logged xs) ≡ after_last is_control (own_events xs)
own_last [] = refl
own_last (event e ∷ xs) =
    own_either (is_control e || has is_control_logged xs) (after_last is_control_logged xs) (event e ∷ xs)
    ∙ (λ i. cond (is_control e || own_controls xs i) (own_last xs i) (e ∷ own_events xs))
own_last (range f b place bytes ∷ xs) =
    own_either (has is_control_logged xs) (after_last is_control_logged xs) (range f b place bytes ∷ xs)
    ∙ (λ i. cond (own_controls xs i) (own_last xs i) (own_events xs)) ∙ last_all (own_events xs) (has is_control (own_events xs)) refl

-- ---- changes behind others

-- entries as changes behind so many live ones, which are left out
abbrev pub changes_on : List Event → List Logged → List Event
changes_on live [] = []
changes_on live (x ∷ xs) = changes_of live x ++ changes_on (live ++ changes_of live x) xs

pub changes_parts : (live : List Event) (xs : List Logged) → changes_from live xs ≡ live ++ changes_on live xs
changes_parts live [] = sym (append_none live)
changes_parts live (x ∷ xs) = changes_parts (live ++ changes_of live x) xs ∙ append_assoc live (changes_of live x) (changes_on (live ++ changes_of live x) xs)

from_append : (xs ys : List Logged) (live : List Event) → changes_from live (xs ++ ys) ≡ changes_from (changes_from live xs) ys
from_append [] ys live = refl
from_append (x ∷ xs) ys live = from_append xs ys (live ++ changes_of live x)

pub all_append : (xs ys : List Logged) → all_changes (xs ++ ys) ≡ all_changes xs ++ changes_on (all_changes xs) ys
unfolding all_changes
all_append xs ys = from_append xs ys [] ∙ changes_parts (changes_from [] xs) ys

pub changes_append : (files : Files) (xs ys : List LiveEntry) → changes_at files (xs ++ ys) ≡ changes_at files xs ++ changes_on (changes_at files xs) (logged_live files ys)
changes_append files xs ys = ap all_changes (map-append (logged_at files) xs ys) ∙ all_append (logged_live files xs) (logged_live files ys)

on_events : (live : List Event) (es : List Event) → changes_on live (map event es) ≡ es
on_events live [] = refl
on_events live (e ∷ es) = ap (λ (l : List Event). e ∷ l) (on_events (live ++ e ∷ []) es)

-- the place of a point is no change
abbrev NoPoint : ℕ → List Event → Type 0
NoPoint n es = has (is_point n) es ≡ false

none_on : (n : ℕ) (live : List Event) (x : Logged) → NoPoint n live → is_point_logged n x ≡ false → NoPoint n (live ++ changes_of live x)
none_on n live x off other = has_append (is_point n) live (changes_of live x) ∙ (λ i. off i || one x other i)
  where
    no_range : (f b place : ℕ) (bytes : List ℕ) (o : Option BlockBytes) → NoPoint n (range_change f b place bytes o)
    no_range f b place bytes None = refl
    no_range f b place bytes (Some old) = refl

    one : (y : Logged) → is_point_logged n y ≡ false → NoPoint n (changes_of live y)
    one (event e) is = ap (λ k. k || false) is
    one (range f b place bytes) is = no_range f b place bytes (last_after f b live)

after_at : (n : ℕ) (live : List Event) (e : Event) (zs : List Event) → NoPoint n live → is_point n e ≡ true → after_first (is_point n) (live ++ e ∷ zs) ≡ zs
after_at n [] e zs off on = ap (λ k. cond k zs (after_first (is_point n) zs)) on
after_at n (x ∷ live) e zs off on =
    let both = or_no (is_point n x) (has (is_point n) live) off in
    ap (λ k. cond k (live ++ e ∷ zs) (after_first (is_point n) (live ++ e ∷ zs))) both.0 ∙ after_at n live e zs both.1 on

until_empty : (n : ℕ) (xs : List Logged) → has (is_point_logged n) xs ≡ false → after_first (is_point_logged n) xs ≡ []
until_empty n xs off = after_none (is_point_logged n) xs off

after_from : (n : ℕ) (xs : List Logged) (live : List Event) → NoPoint n live
    → after_first (is_point n) (changes_from live xs) ≡ changes_on (changes_from live (until_first (is_point_logged n) xs)) (after_first (is_point_logged n) xs)
after_from n [] live off = after_none (is_point n) live off
after_from n (x ∷ xs) live off = elim (cases_Bool (is_point_logged n x)) [
  | inl on ↦ here x on ∙ sym (λ i. changes_on (changes_from live (cond (on i) (x ∷ []) (cond (has (is_point_logged n) xs) (x ∷ until_first (is_point_logged n) xs) []))) (cond (on i) xs (after_first (is_point_logged n) xs)))
  | inr other ↦
      after_from n xs (live ++ changes_of live x) (none_on n live x off other)
      ∙ later (has (is_point_logged n) xs) refl
      ∙ sym (λ i. changes_on (changes_from live (cond (other i) (x ∷ []) (cond (has (is_point_logged n) xs) (x ∷ until_first (is_point_logged n) xs) []))) (cond (other i) xs (after_first (is_point_logged n) xs)))
]
  where
    here : (y : Logged) → is_point_logged n y ≡ true → after_first (is_point n) (changes_from (live ++ changes_of live y) xs) ≡ changes_on (live ++ changes_of live y) xs
    here (event e) on =
        ap (λ (l : List Event). after_first (is_point n) l) (changes_parts (live ++ e ∷ []) xs ∙ append_assoc live (e ∷ []) (changes_on (live ++ e ∷ []) xs)) ∙ after_at n live e (changes_on (live ++ e ∷ []) xs) off on
    here (range f b place bytes) on = absurd (true≢false (sym on))

    later : (c : Bool) → has (is_point_logged n) xs ≡ c
        → changes_on (changes_from (live ++ changes_of live x) (until_first (is_point_logged n) xs)) (after_first (is_point_logged n) xs)
        ≡ changes_on (changes_from live (cond (has (is_point_logged n) xs) (x ∷ until_first (is_point_logged n) xs) [])) (after_first (is_point_logged n) xs)
    later true on = sym (ap (λ k. changes_on (changes_from live (cond k (x ∷ until_first (is_point_logged n) xs) [])) (after_first (is_point_logged n) xs)) on)
    later false off =
        let none = until_empty n xs off in
        ap (changes_on (changes_from (live ++ changes_of live x) (until_first (is_point_logged n) xs))) none
        ∙ sym (ap (changes_on (changes_from live (cond (has (is_point_logged n) xs) (x ∷ until_first (is_point_logged n) xs) []))) none)

-- What follows a point, as changes behind those up to it.
pub after_point : (n : ℕ) (xs : List Logged) → after_first (is_point n) (all_changes xs) ≡ changes_on (all_changes (until_first (is_point_logged n) xs)) (after_first (is_point_logged n) xs)
unfolding all_changes
after_point n xs = after_from n xs [] refl

-- ---- live entries of a trail

pub live_changes : (entries : List Entry) → live_of entries ≡ all_changes (live_logged [] (events_in entries))
live_changes entries = live_of_ranges (events_in entries)

pub live_append : (xs ys live : List Logged) → live_logged live (xs ++ ys) ≡ live_logged (live_logged live xs) ys
live_append [] ys live = refl
live_append (x ∷ xs) ys live = live_append xs ys (live_step live x)

-- one entry more, behind any others
pub live_more_on : (front : List Logged) (entries : List Entry) (e : Entry) (x : Logged) → said_by (parts_from no_parts entries) e ≡ x ∷ [] → live_logged front (events_in (entries ++ e ∷ [])) ≡ live_step (live_logged front (events_in entries)) x
live_more_on front entries e x is =
    ap (live_logged front) (logged_append entries (e ∷ []) no_parts ∙ ap (λ (l : List Logged). events_in entries ++ (l ++ [])) is) ∙ live_append (events_in entries) (x ∷ []) front

pub live_more : (entries : List Entry) (e : Entry) (x : Logged) → said_by (parts_from no_parts entries) e ≡ x ∷ [] → live_logged [] (events_in (entries ++ e ∷ [])) ≡ live_step (live_logged [] (events_in entries)) x
live_more entries e x is = live_more_on [] entries e x is

-- one that says nothing
pub live_same_on : (front : List Logged) (entries : List Entry) (e : Entry) → said_by (parts_from no_parts entries) e ≡ [] → live_logged front (events_in (entries ++ e ∷ [])) ≡ live_logged front (events_in entries)
live_same_on front entries e is =
    ap (live_logged front) (logged_append entries (e ∷ []) no_parts ∙ ap (λ (l : List Logged). events_in entries ++ (l ++ [])) is ∙ append_none (events_in entries))

pub live_same : (entries : List Entry) (e : Entry) → said_by (parts_from no_parts entries) e ≡ [] → live_logged [] (events_in (entries ++ e ∷ [])) ≡ live_logged [] (events_in entries)
live_same entries e is = live_same_on [] entries e is
