-- Entries that wait between two control points.
use Rattle.std.proofs.Common.{ℕ, zero, suc, ◌≤◌, ◌≡◌, arith, ◌||◌, false, List, [], ◌∷◌, ◌++◌, take, drop, length, Option, Some, None, refl, sym, ◌∙◌, ap, subst, append_assoc}
use Rattle.std.proofs.lemmas.List.{take_at, take-append-drop}
use Rattle.dms_history.specs.Events.{BlockBytes, Event, change, quiet}
use Rattle.dms_history.specs.Images.{last_after}
use Rattle.dms_history.specs.Ranges.{range, range_change, patch_bytes}
use Rattle.dms_history.specs.Lists.{has}
use Rattle.dms_history.specs.Places.{is_control}
use Rattle.dms_history.specs.History.{History, history, next_number}
use Rattle.dms_history.specs.Entries.{Entry, schema_part, image, byte_range, quiet_point, control_point, begin_restore}
use Rattle.dms_history.specs.EntryEvents.{events, live_of, next_of}
use Rattle.dms_history.proofs.Base.{has_append}
use Rattle.dms_history.proofs.Order.{append_none, next_stays}
use Rattle.dms_history.proofs.Sealed.{one, image_sealed, quiet_sealed, one_more_event}
use Rattle.dms_running.specs.Running.{IsPlainEntry, AllPlain}
use Rattle.dms_history.proofs.SchemaParts.{take_nothing}

-- the live events only grow, and no Control is among what is new
pub record EntriesGrow (xs ys : List Entry) : Type 0 where
  pub more : List Event
  pub live : live_of (xs ++ ys) ≡ live_of xs ++ more
  pub no_control : has is_control more ≡ false

no_control_in : (f b place : ℕ) (bytes : List ℕ) (o : Option BlockBytes) → has is_control (range_change f b place bytes o) ≡ false
no_control_in f b place bytes None = refl
no_control_in f b place bytes (Some old) = refl

ranged : (xs : List Entry) (f b place : ℕ) (bytes : List ℕ) (o : Option BlockBytes) → (history (events xs ++ range_change f b place bytes o)).live ≡ live_of xs ++ range_change f b place bytes o
ranged xs f b place bytes None = ap (λ (l : List Event). (history l).live) (append_none (events xs)) ∙ sym (append_none (live_of xs))
ranged xs f b place bytes (Some old) = ap (λ (h : History). h.live) (one_more_event (events xs) (change f b (Some old) (patch_bytes place bytes old)))

one_grows : (xs : List Entry) (e : Entry) → IsPlainEntry e → EntriesGrow xs (e ∷ [])
one_grows xs (schema_part part parts bytes) plain = absurd plain
one_grows xs (image f b before after) plain = record {
  more = change f b before after ∷ [];
  live = ap (λ (l : List Event). (history l).live) (image_sealed xs f b before after) ∙ ap (λ (h : History). h.live) (one_more_event (events xs) (change f b before after));
  no_control = refl;
}
one_grows xs (byte_range f b place bytes) plain =
    let o = last_after f b (live_of xs) in record {
      more = range_change f b place bytes o;
      live = ap (λ (l : List Event). (history l).live) (one xs (byte_range f b place bytes) (range f b place bytes) refl) ∙ ranged xs f b place bytes o;
      no_control = no_control_in f b place bytes o;
    }
one_grows xs (quiet_point n) plain = record {
  more = quiet n ∷ [];
  live = ap (λ (l : List Event). (history l).live) (quiet_sealed xs n) ∙ ap (λ (h : History). h.live) (one_more_event (events xs) (quiet n));
  no_control = refl;
}
one_grows xs (control_point n next counts) plain = absurd plain
one_grows xs (begin_restore n kind) plain = absurd plain

pub plain_grows : (xs ys : List Entry) → AllPlain ys → EntriesGrow xs ys
plain_grows xs [] plain = record { more = []; live = ap live_of (append_none xs) ∙ sym (append_none (live_of xs)); no_control = refl }
plain_grows xs (e ∷ ys) plain =
    let one = one_grows xs e plain.0 in
    let rest = plain_grows (xs ++ e ∷ []) ys plain.1 in record {
      more = one.more ++ rest.more;
      live = ap live_of (sym (append_assoc xs (e ∷ []) ys)) ∙ rest.live ∙ ap (λ (l : List Event). l ++ rest.more) one.live ∙ append_assoc (live_of xs) one.more rest.more;
      no_control = has_append is_control one.more rest.more ∙ (λ i. one.no_control i || rest.no_control i);
    }

pub plain_drop : (k : ℕ) (es : List Entry) → AllPlain es → AllPlain (drop k es)
plain_drop zero es plain = plain
plain_drop (suc k) [] plain = tt
plain_drop (suc k) (e ∷ es) plain = plain_drop k es plain.1

pub plain_take : (k : ℕ) (es : List Entry) → AllPlain es → AllPlain (take k es)
plain_take zero es plain = tt
plain_take (suc k) [] plain = tt
plain_take (suc k) (e ∷ es) plain = (plain.0, plain_take k es plain.1)

pub plain_push : (es : List Entry) (e : Entry) → AllPlain es → IsPlainEntry e → AllPlain (es ++ e ∷ [])
plain_push [] e all one = (one, tt)
plain_push (x ∷ es) e all one = (all.0, plain_push es e all.1 one)

pub take_whole : (l : List Entry) → take (length l) l ≡ l
take_whole l = ap (λ (k : List Entry). take (length l) k) (sym (append_none l)) ∙ take_at l [] (length l) refl

-- what holds of each prefix of a list, and of it with one more
pub push_all : (P : List Entry → Type 0) (ws : List Entry) (e : Entry) → ((k : ℕ) → P (take k ws)) → P (ws ++ e ∷ []) → (k : ℕ) → P (take k (ws ++ e ∷ []))
push_all P ws e some whole zero = some zero
push_all P [] e some whole (suc k) = subst (λ (l : List Entry). P (e ∷ l)) (sym (take_nothing k [] refl)) whole
push_all P (w ∷ ws) e some whole (suc k) = push_all (λ l. P (w ∷ l)) ws e (λ j. some (suc j)) whole k

-- the two parts of a list behind another one
pub split_behind : (xs es : List Entry) (k : ℕ) → (xs ++ take k es) ++ drop k es ≡ xs ++ es
split_behind xs es k = append_assoc xs (take k es) (drop k es) ∙ ap (λ (l : List Entry). xs ++ l) (take-append-drop k es)

range_rises : (xs : List Entry) (f b place : ℕ) (bytes : List ℕ) (o : Option BlockBytes) → next_of xs ≤ next_number (events xs ++ range_change f b place bytes o)
range_rises xs f b place bytes None = omega (arith, ap next_number (append_none (events xs)))
range_rises xs f b place bytes (Some old) = next_stays (events xs) (change f b (Some old) (patch_bytes place bytes old)) tt

-- plain entries never lower the next number
pub plain_rises : (xs ys : List Entry) → AllPlain ys → next_of xs ≤ next_of (xs ++ ys)
plain_rises xs [] plain = omega (arith, ap (λ (l : List Entry). next_of l) (append_none xs))
plain_rises xs (schema_part part parts bytes ∷ ys) plain = absurd plain.0
plain_rises xs (image f b before after ∷ ys) plain =
    let one : next_of xs ≤ next_of (xs ++ image f b before after ∷ []) = subst (λ (l : List Event). next_of xs ≤ next_number l) (sym (image_sealed xs f b before after)) (next_stays (events xs) (change f b before after) tt) in
    omega (arith, one, plain_rises (xs ++ image f b before after ∷ []) ys plain.1, ap (λ (l : List Entry). next_of l) (append_assoc xs (image f b before after ∷ []) ys))
plain_rises xs (byte_range f b place bytes ∷ ys) plain =
    let e = byte_range f b place bytes in
    let more : next_of xs ≤ next_of (xs ++ e ∷ []) = subst (λ (l : List Event). next_of xs ≤ next_number l) (sym (one xs e (range f b place bytes) refl)) (range_rises xs f b place bytes (last_after f b (live_of xs))) in
    omega (arith, more, plain_rises (xs ++ e ∷ []) ys plain.1, ap (λ (l : List Entry). next_of l) (append_assoc xs (e ∷ []) ys))
plain_rises xs (quiet_point n ∷ ys) plain =
    let one : next_of xs ≤ next_of (xs ++ quiet_point n ∷ []) = subst (λ (l : List Event). next_of xs ≤ next_number l) (sym (quiet_sealed xs n)) (next_stays (events xs) (quiet n) tt) in
    omega (arith, one, plain_rises (xs ++ quiet_point n ∷ []) ys plain.1, ap (λ (l : List Entry). next_of l) (append_assoc xs (quiet_point n ∷ []) ys))
plain_rises xs (control_point n next counts ∷ ys) plain = absurd plain.0
plain_rises xs (begin_restore n kind ∷ ys) plain = absurd plain.0
