-- What the entries of a block add to the live events.
use Rattle.std.proofs.Common.{ℕ, ◌≡◌, ◌||◌, inl, inr, Bool, true, false, cond, List, [], ◌∷◌, ◌++◌, Option, Some, None, refl, sym, ◌∙◌, ap, subst, append_assoc}
use Rattle.std.proofs.lemmas.Bool.{cases_Bool, true≢false}
use Rattle.dms_history.specs.Events.{BlockBytes, Event, change, quiet, control, begin}
use Rattle.dms_history.specs.Lists.{has, after_last}
use Rattle.dms_history.specs.Places.{is_control}
use Rattle.dms_history.specs.Places as places
use Rattle.dms_history.specs.Images.{is_at, or_else, last_after}
use Rattle.dms_history.specs.History.{Pending, History, after_event, history_from, history}
use Rattle.dms_history.specs.Ranges.{Logged, event, range, patch_bytes, range_change, changes_of, events_from, told_events}
use Rattle.dms_history.specs.Entries.{Entry, schema_part, image, byte_range, quiet_point, control_point, begin_restore, is_begin, counts_in}
use Rattle.dms_history.specs.Schemas.{Parts, no_parts, parts_from, after_entry, is_whole}
use Rattle.dms_history.specs.EntryEvents.{said_by, logged_from, events_in, events, history_of, live_of}
use Rattle.dms_history.proofs.Order.{append_none}
use Rattle.dms_history.proofs.Runs.{after_push}
use Rattle.dms_history.proofs.Base.{has_append}
use Rattle.dms_history.proofs.Schemas.{logged_append, parts_append}
use Rattle.dms_history.proofs.Sealed.{told_append}
use Rattle.dms_history.proofs.Turns.{history_append}
use Rattle.dms_follow.specs.Following.{is_change, is_control_entry}

-- ---- the events of more entries

-- what a history becomes by more entries behind so much of a Schema
pub more_events : History → Parts → List Entry → List Event
more_events h p es = events_from h (logged_from p es)

abbrev pub start : History
start = record { live = []; pending = None }

pub events_more : (es be : List Entry) → events (es ++ be) ≡ events es ++ more_events (history_of es) (parts_from no_parts es) be
unfolding more_events told_events history
events_more es be = ap (λ (l : List Logged). events_from start l) (logged_append es be no_parts) ∙ told_append (events_in es) (logged_from (parts_from no_parts es) be) start

pub history_more : (es be : List Entry) → history_of (es ++ be) ≡ history_from (history_of es) (more_events (history_of es) (parts_from no_parts es) be)
unfolding history
history_more es be = ap (λ (l : List Event). history_from start l) (events_more es be) ∙ history_append (events es) (more_events (history_of es) (parts_from no_parts es) be) start

-- ---- entries without a Begin

pub or_none : (a b : Bool) → a || b ≡ false → (a ≡ false) × (b ≡ false)
or_none true b e = absurd (true≢false e)
or_none false b e = (refl, e)

or_both : (a b : Bool) → a ≡ false → b ≡ false → a || b ≡ false
or_both true b one two = one
or_both false b one two = two

or_left : (a b : Bool) → a ≡ true → a || b ≡ true
or_left true b e = refl
or_left false b e = absurd (true≢false (sym e))

-- no event of them is a change of any block
abbrev pub NoChange : List Event → Type 0
NoChange es = (f b : ℕ) → last_after f b es ≡ None

-- what they make of a history: events behind the live ones
pub record Grown (h g : History) (evs : List Event) (be : List Entry) : Type 0 where
  pub live : g.live ≡ h.live ++ evs
  pub plain : has places.is_begin evs ≡ false
  pub calm : has is_change be ≡ false → NoChange evs
  pub free : has is_control_entry be ≡ false → (has is_control evs ≡ false) × (g.pending ≡ h.pending)
  pub ends : has is_control_entry be ≡ true → g.pending ≡ None

-- one event first, which says so much of the entry
record Says (e : Entry) (h : History) (v : Event) : Type 0 where
  live : (after_event h v).live ≡ h.live ++ v ∷ []
  plain : places.is_begin v ≡ false
  calm : is_change e ≡ false → NoChange (v ∷ [])
  free : is_control_entry e ≡ false → (is_control v ≡ false) × ((after_event h v).pending ≡ h.pending)
  ends : is_control_entry e ≡ true → (after_event h v).pending ≡ None

last_cons : (v : Event) (vs : List Event) (f b : ℕ) → last_after f b (v ∷ []) ≡ None → last_after f b vs ≡ None → last_after f b (v ∷ vs) ≡ None
last_cons (change g k before after) vs f b one rest = ap (λ o. or_else o (cond (is_at f b g k) (Some after) None)) rest ∙ one
last_cons (quiet n) vs f b one rest = rest
last_cons (control n next counts described) vs f b one rest = rest
last_cons (begin n how) vs f b one rest = rest

-- the pending restore behind a Control stays none while there is no Begin
first_ends : (be : List Entry) (h g : History) (evs : List Event) → Grown h g evs be → h.pending ≡ None → g.pending ≡ None
first_ends be h g evs grown none = elim (cases_Bool (has is_control_entry be)) [
  | inl on ↦ grown.ends on
  | inr off ↦ (grown.free off).1 ∙ none
]

with_one : (e : Entry) (be : List Entry) (h g : History) (v : Event) (vs : List Event) → Says e h v → Grown (after_event h v) g vs be → Grown h g (v ∷ vs) (e ∷ be)
with_one e be h g v vs says grown = record {
  live = grown.live ∙ ap (λ (l : List Event). l ++ vs) says.live ∙ append_assoc h.live (v ∷ []) vs;
  plain = or_both (places.is_begin v) (has places.is_begin vs) says.plain grown.plain;
  calm = λ off. let two = or_none (is_change e) (has is_change be) off in λ f b. last_cons v vs f b (says.calm two.0 f b) (grown.calm two.1 f b);
  free = λ off.
      let two = or_none (is_control_entry e) (has is_control_entry be) off in
      let one = says.free two.0 in
      let rest = grown.free two.1 in (or_both (is_control v) (has is_control vs) one.0 rest.0, rest.1 ∙ one.1);
  ends = λ on. elim (cases_Bool (is_control_entry e)) [
    | inl here ↦ first_ends be (after_event h v) g vs grown (says.ends here)
    | inr off ↦ grown.ends (ap (λ t. t || has is_control_entry be) (sym off) ∙ on)
  ];
}

without : (e : Entry) (be : List Entry) (h g : History) (vs : List Event) → is_control_entry e ≡ false → Grown h g vs be → Grown h g vs (e ∷ be)
without e be h g vs off grown = record {
  live = grown.live;
  plain = grown.plain;
  calm = λ none. grown.calm (or_none (is_change e) (has is_change be) none).1;
  free = λ none. grown.free (or_none (is_control_entry e) (has is_control_entry be) none).1;
  ends = λ on. grown.ends (ap (λ t. t || has is_control_entry be) (sym off) ∙ on);
}

pub grows : (be : List Entry) (h : History) (p : Parts) → has is_begin be ≡ false → Grown h (history_from h (more_events h p be)) (more_events h p be) be
unfolding more_events
grows [] h p off = record {
  live = sym (append_none h.live);
  plain = refl;
  calm = λ none f b. refl;
  free = λ none. (refl, refl);
  ends = λ on. absurd (true≢false (sym on));
}
grows (schema_part part parts bytes ∷ be) h p off =
    without (schema_part part parts bytes) be h _ _ refl (grows be h (after_entry p (schema_part part parts bytes)) off)
grows (image f b before after ∷ be) h p off =
    let v = change f b before after in
    with_one (image f b before after) be h _ v _ (record { live = refl; plain = refl; calm = λ none. absurd (true≢false none); free = λ none. (refl, refl); ends = λ on. absurd (true≢false (sym on)) }) (grows be (after_event h v) no_parts off)
grows (byte_range f b place bytes ∷ be) h p off = go (last_after f b h.live) (λ g. grows be g no_parts off)
  where
    go : (o : Option BlockBytes) → ((g : History) → Grown g (history_from g (events_from g (logged_from no_parts be))) (events_from g (logged_from no_parts be)) be)
        → Grown h (history_from h (range_change f b place bytes o ++ events_from (history_from h (range_change f b place bytes o)) (logged_from no_parts be)))
        (range_change f b place bytes o ++ events_from (history_from h (range_change f b place bytes o)) (logged_from no_parts be)) (byte_range f b place bytes ∷ be)
    go None rest = without (byte_range f b place bytes) be h _ _ refl (rest h)
    go (Some old) rest =
        let v = change f b (Some old) (patch_bytes place bytes old) in
        with_one (byte_range f b place bytes) be h _ v _ (record { live = refl; plain = refl; calm = λ none. absurd (true≢false none); free = λ none. (refl, refl); ends = λ on. absurd (true≢false (sym on)) }) (rest (after_event h v))
grows (quiet_point n ∷ be) h p off =
    with_one (quiet_point n) be h _ (quiet n) _ (record { live = refl; plain = refl; calm = λ none f b. refl; free = λ none. (refl, refl); ends = λ on. absurd (true≢false (sym on)) }) (grows be (after_event h (quiet n)) no_parts off)
grows (control_point n next counts ∷ be) h p off =
    let v = control n next (counts_in counts) (is_whole p) in
    with_one (control_point n next counts) be h _ v _ (record { live = refl; plain = refl; calm = λ none f b. refl; free = λ none. absurd (true≢false none); ends = λ on. refl }) (grows be (after_event h v) no_parts off)
grows (begin_restore n kind ∷ be) h p off = absurd (true≢false off)

-- ---- behind the last Control

-- events without a Control stand behind it
pub after_append : (xs ys : List Event) → has is_control ys ≡ false → after_last is_control (xs ++ ys) ≡ after_last is_control xs ++ ys
after_append xs [] off = ap (λ (l : List Event). after_last is_control l) (append_none xs) ∙ sym (append_none (after_last is_control xs))
after_append xs (y ∷ ys) off =
    let two = or_none (is_control y) (has is_control ys) off in
    ap (λ (l : List Event). after_last is_control l) (sym (append_assoc xs (y ∷ []) ys))
    ∙ after_append (xs ++ y ∷ []) ys two.1
    ∙ ap (λ (l : List Event). l ++ ys) (after_push is_control xs y two.0)
    ∙ append_assoc (after_last is_control xs) (y ∷ []) ys
