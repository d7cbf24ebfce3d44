-- Points by their numbers alone, and which Controls stand behind a whole Schema.
use Rattle.std.specs.Prelude.{◌||◌}
use Rattle.std.proofs.Common.{ℕ, ◌≡◌, ◌==◌, Bool, true, false, cond, List, [], ◌∷◌, ◌++◌, Option, Some, None, refl, sym, ◌∙◌, ap}
use Rattle.std.proofs.lemmas.List.{append-nil}
use Rattle.dms_history.specs.Entries.{Entry, schema_part, image, byte_range, quiet_point, control_point, begin_restore, counts_in, how_of}
use Rattle.dms_history.specs.EntryEvents.{logged_from, live_of}
use Rattle.dms_history.specs.Events.{BlockBytes, Event, change, quiet, control, begin}
use Rattle.dms_history.specs.History.{History, after_event, history_from, history}
use Rattle.dms_history.specs.Images.{last_after}
use Rattle.dms_history.specs.Lists.{has, until_first}
use Rattle.dms_history.specs.Places.{is_point, is_described, IsLive}
use Rattle.dms_history.specs.Ranges.{range_change, events_from, told_events}
use Rattle.dms_history.specs.Schemas.{Parts, no_parts, after_entry, is_whole}
use Rattle.dms_history.proofs.Cuts.{until_none}

-- a Quiet or a Control, and whether it stands directly behind a whole Schema
pub record Mark : Type 0 where
  pub number : ℕ
  pub described : Bool

abbrev pub is_number : ℕ → Mark → Bool
is_number n m = m.number == n

abbrev pub is_whole_mark : Mark → Bool
is_whole_mark m = m.described

pub record Marked : Type 0 where
  pub parts : Parts
  pub marks : List Mark

abbrev pub no_mark : Marked
no_mark = record { parts = no_parts; marks = [] }

abbrev pub after_mark : Marked → Entry → Marked
after_mark m (schema_part part parts bytes) = record { parts = after_entry m.parts (schema_part part parts bytes); marks = m.marks }
after_mark m (image f b before bytes) = record { parts = no_parts; marks = m.marks }
after_mark m (byte_range f b place bytes) = record { parts = no_parts; marks = m.marks }
after_mark m (quiet_point n) = record { parts = no_parts; marks = m.marks ++ record { number = n; described = false } ∷ [] }
after_mark m (control_point n next counts) = record { parts = no_parts; marks = m.marks ++ record { number = n; described = is_whole m.parts } ∷ [] }
after_mark m (begin_restore n kind) = record { parts = no_parts; marks = until_first (is_number n) m.marks }

abbrev pub marked_from : Marked → List Entry → Marked
marked_from m [] = m
marked_from m (e ∷ es) = marked_from (after_mark m e) es

-- ---- of events

abbrev marks_in : List Event → List Mark
marks_in [] = []
marks_in (change f b before bytes ∷ es) = marks_in es
marks_in (quiet n ∷ es) = record { number = n; described = false } ∷ marks_in es
marks_in (control n next counts described ∷ es) = record { number = n; described = described } ∷ marks_in es
marks_in (begin n how ∷ es) = marks_in es

marks_on : (xs ys : List Event) → marks_in (xs ++ ys) ≡ marks_in xs ++ marks_in ys
marks_on [] ys = refl
marks_on (change f b before bytes ∷ xs) ys = marks_on xs ys
marks_on (quiet n ∷ xs) ys = ap (λ (l : List Mark). record { number = n; described = false } ∷ l) (marks_on xs ys)
marks_on (control n next counts described ∷ xs) ys = ap (λ (l : List Mark). record { number = n; described = described } ∷ l) (marks_on xs ys)
marks_on (begin n how ∷ xs) ys = marks_on xs ys

number_in : (n : ℕ) (es : List Event) → has (is_point n) es ≡ has (is_number n) (marks_in es)
number_in n [] = refl
number_in n (change f b before bytes ∷ es) = number_in n es
number_in n (quiet m ∷ es) = ap (λ k. (m == n) || k) (number_in n es)
number_in n (control m next counts described ∷ es) = ap (λ k. (m == n) || k) (number_in n es)
number_in n (begin m how ∷ es) = number_in n es

whole_in : (es : List Event) → has is_described es ≡ has is_whole_mark (marks_in es)
whole_in [] = refl
whole_in (change f b before bytes ∷ es) = whole_in es
whole_in (quiet m ∷ es) = whole_in es
whole_in (control m next counts described ∷ es) = ap (λ k. described || k) (whole_in es)
whole_in (begin m how ∷ es) = whole_in es

marks_cond : (b : Bool) (xs ys : List Event) → marks_in (cond b xs ys) ≡ cond b (marks_in xs) (marks_in ys)
marks_cond true xs ys = refl
marks_cond false xs ys = refl

-- an event without a mark
skip : (n : ℕ) (es : List Event) (c : Bool) (e : Event) → has (is_point n) es ≡ c → marks_in (e ∷ until_first (is_point n) es) ≡ marks_in (until_first (is_point n) es)
    → marks_in (cond c (e ∷ until_first (is_point n) es) []) ≡ marks_in (until_first (is_point n) es)
skip n es true e is same = same
skip n es false e is same = sym (ap marks_in (until_none (is_point n) es is))

until_in : (n : ℕ) (es : List Event) → marks_in (until_first (is_point n) es) ≡ until_first (is_number n) (marks_in es)
until_in n [] = refl
until_in n (change f b before bytes ∷ es) = skip n es (has (is_point n) es) (change f b before bytes) refl refl ∙ until_in n es
until_in n (quiet m ∷ es) =
    marks_cond (m == n) (quiet m ∷ []) (cond (has (is_point n) es) (quiet m ∷ until_first (is_point n) es) [])
    ∙ ap (λ (l : List Mark). cond (m == n) (record { number = m; described = false } ∷ []) l) (marks_cond (has (is_point n) es) (quiet m ∷ until_first (is_point n) es) [])
    ∙ (λ i. cond (m == n) (record { number = m; described = false } ∷ []) (cond (number_in n es i) (record { number = m; described = false } ∷ until_in n es i) []))
until_in n (control m next counts described ∷ es) =
    marks_cond (m == n) (control m next counts described ∷ []) (cond (has (is_point n) es) (control m next counts described ∷ until_first (is_point n) es) [])
    ∙ ap (λ (l : List Mark). cond (m == n) (record { number = m; described = described } ∷ []) l) (marks_cond (has (is_point n) es) (control m next counts described ∷ until_first (is_point n) es) [])
    ∙ (λ i. cond (m == n) (record { number = m; described = described } ∷ []) (cond (number_in n es i) (record { number = m; described = described } ∷ until_in n es i) []))
until_in n (begin m how ∷ es) = skip n es (has (is_point n) es) (begin m how) refl refl ∙ until_in n es

-- ---- of entries

-- the marks of what is live behind some entries
abbrev behind : Parts → List Mark → List Entry → List Mark
behind p ms es = (marked_from (record { parts = p; marks = ms }) es).marks

told : (p : Parts) (h : History) (es : List Entry) → marks_in (history_from h (events_from h (logged_from p es))).live ≡ behind p (marks_in h.live) es
told p h [] = refl
told p h (schema_part part parts bytes ∷ es) = told (after_entry p (schema_part part parts bytes)) h es
told p h (image f b before bytes ∷ es) =
    told no_parts (after_event h (change f b before bytes)) es ∙ ap (λ (l : List Mark). behind no_parts l es) (marks_on h.live (change f b before bytes ∷ []) ∙ append-nil (marks_in h.live))
told p h (byte_range f b place bytes ∷ es) = go (last_after f b h.live) (λ other. told no_parts other es)
  where
    go : (o : Option BlockBytes) → ((other : History) → marks_in (history_from other (events_from other (logged_from no_parts es))).live ≡ behind no_parts (marks_in other.live) es)
        → marks_in (history_from h (range_change f b place bytes o ++ events_from (history_from h (range_change f b place bytes o)) (logged_from no_parts es))).live ≡ behind no_parts (marks_in h.live) es
    go None rest = rest h
    go (Some old) rest =
        rest (history_from h (range_change f b place bytes (Some old)))
        ∙ ap (λ (l : List Mark). behind no_parts l es) (marks_on h.live (range_change f b place bytes (Some old)) ∙ append-nil (marks_in h.live))
told p h (quiet_point n ∷ es) = told no_parts (after_event h (quiet n)) es ∙ ap (λ (l : List Mark). behind no_parts l es) (marks_on h.live (quiet n ∷ []))
told p h (control_point n next counts ∷ es) =
    told no_parts (after_event h (control n next (counts_in counts) (is_whole p))) es
    ∙ ap (λ (l : List Mark). behind no_parts l es) (marks_on h.live (control n next (counts_in counts) (is_whole p) ∷ []))
told p h (begin_restore n kind ∷ es) = told no_parts (after_event h (begin n (how_of kind))) es ∙ ap (λ (l : List Mark). behind no_parts l es) (until_in n h.live)

-- the marks of the live entries
pub marks_live : (es : List Entry) → marks_in (live_of es) ≡ (marked_from no_mark es).marks
unfolding told_events history
marks_live es = told no_parts (record { live = []; pending = None }) es

-- a point is live where its number is there, behind a Control that stands behind a whole Schema, or that is one
pub lives : (es : List Entry) (n : ℕ) → has (is_number n) (marked_from no_mark es).marks ≡ true → has is_whole_mark (until_first (is_number n) (marked_from no_mark es).marks) ≡ true → IsLive (live_of es) n
lives es n found whole = record {
  found = number_in n (live_of es) ∙ ap (λ (l : List Mark). has (is_number n) l) (marks_live es) ∙ found;
  described = whole_in (until_first (is_point n) (live_of es)) ∙ ap (λ (l : List Mark). has is_whole_mark l) (until_in n (live_of es))
      ∙ ap (λ (l : List Mark). has is_whole_mark (until_first (is_number n) l)) (marks_live es) ∙ whole;
}
