-- What one more entry makes of the history and the next number, and one more event of the images of a block.
use Rattle.std.specs.Prelude.{if◌then◌else◌}
use Rattle.std.proofs.Common.{ℕ, ◌+◌, ◌-◌, ◌^◌, min, max, ◌≡◌, Bool, true, false, cond, Option, Some, None, List, [], ◌∷◌, ◌++◌, refl, ◌∙◌, ap, arith}
use Rattle.dms_history.specs.Events.{BlockBytes, Event, change, quiet, control, begin}
use Rattle.dms_history.specs.History.{after_event, history, next_number}
use Rattle.dms_history.specs.Images.{is_at, or_else, last_after, first_before}
use Rattle.dms_history.specs.Ranges.{event}
use Rattle.dms_history.specs.Entries.{Entry, schema_part}
use Rattle.dms_history.specs.Schemas.{no_parts, after_entry, parts_from}
use Rattle.dms_history.specs.EntryEvents.{said_by, events, history_of, next_of}
use Rattle.dms_history.proofs.Order.{next_append}
use Rattle.dms_history.proofs.Picks.{last_append}
use Rattle.dms_history.proofs.Schemas.{parts_append}
use Rattle.dms_history.proofs.Sealed.{one, schema_sealed, one_more_event}

-- ---- one more entry

module _ (entries : List Entry) (e : Entry) where
  pub parts_more : parts_from no_parts (entries ++ e ∷ []) ≡ after_entry (parts_from no_parts entries) e
  parts_more = parts_append entries (e ∷ []) no_parts

  -- it says one event
  module _ (ev : Event) (is : said_by (parts_from no_parts entries) e ≡ event ev ∷ []) where
    events_more : events (entries ++ e ∷ []) ≡ events entries ++ ev ∷ []
    events_more = one entries e (event ev) is

    pub history_entry : history_of (entries ++ e ∷ []) ≡ after_event (history_of entries) ev
    history_entry = ap history events_more ∙ one_more_event (events entries) ev

    pub next_entry : next_of (entries ++ e ∷ []) ≡ next_number (events entries ++ ev ∷ [])
    next_entry = ap next_number events_more

-- a part of a Schema says nothing
pub history_schema : (entries : List Entry) (part parts : ℕ) (bytes : List ℕ) → history_of (entries ++ schema_part part parts bytes ∷ []) ≡ history_of entries
history_schema entries part parts bytes = ap history (schema_sealed entries part parts bytes)

pub next_schema : (entries : List Entry) (part parts : ℕ) (bytes : List ℕ) → next_of (entries ++ schema_part part parts bytes ∷ []) ≡ next_of entries
next_schema entries part parts bytes = ap next_number (schema_sealed entries part parts bytes)

-- ---- the next number

pub next_quiet : (es : List Event) (n : ℕ) → next_number (es ++ quiet n ∷ []) ≡ max (next_number es) (min (2 ^ 64 - 1) (n + 1))
unfolding next_number
next_quiet es n = omega (arith, next_append es (quiet n ∷ []) 0)

-- ---- the images of a block

pub last_more : (f b : ℕ) (es : List Event) (g k : ℕ) (before : Option BlockBytes) (after : BlockBytes) → last_after f b (es ++ change g k before after ∷ []) ≡ (if is_at f b g k then Some after else last_after f b es)
last_more f b es g k before after = last_append es (change g k before after ∷ []) f b ∙ chosen (is_at f b g k) after (last_after f b es)
  where
    chosen : (t : Bool) (x : BlockBytes) (o : Option BlockBytes) → or_else (or_else None (cond t (Some x) None)) o ≡ cond t (Some x) o
    chosen true x o = refl
    chosen false x o = refl

or_first : (t : Bool) (before : Option BlockBytes) (x y z : Option (Option BlockBytes)) → z ≡ or_else x y → cond t (Some before) z ≡ or_else (cond t (Some before) x) y
or_first true before x y z is = refl
or_first false before x y z is = is

pub first_append : (f b : ℕ) (xs ys : List Event) → first_before f b (xs ++ ys) ≡ or_else (first_before f b xs) (first_before f b ys)
first_append f b [] ys = refl
first_append f b (change g k before after ∷ xs) ys = or_first (is_at f b g k) before (first_before f b xs) (first_before f b ys) (first_before f b (xs ++ ys)) (first_append f b xs ys)
first_append f b (quiet n ∷ xs) ys = first_append f b xs ys
first_append f b (control n next counts described ∷ xs) ys = first_append f b xs ys
first_append f b (begin n how ∷ xs) ys = first_append f b xs ys
