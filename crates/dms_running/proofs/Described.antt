-- The Schemas at points while entries are appended.
use Rattle.std.proofs.Common.{ℕ, ◌+◌, ◌≡◌, ◌||◌, inl, inr, Bool, true, false, cond, List, [], ◌∷◌, ◌++◌, map, length, Option, Some, refl, sym, ◌∙◌, ap, append_assoc}
use Rattle.std.proofs.lemmas.Bool.{cases_Bool, true≢false}
use Rattle.dms_history.specs.Events.{BlockBytes, Stored, Event}
use Rattle.dms_history.specs.Lists.{has, until_first}
use Rattle.dms_history.specs.Places.{is_point, IsLive}
use Rattle.dms_history.specs.Ranges.{Logged, all_changes}
use Rattle.dms_history.specs.declared.event.FileCount.{FileCount}
use Rattle.dms_history.specs.Entries.{Kind, Entry, schema_part, image, byte_range, quiet_point, control_point, begin_restore, is_begin}
use Rattle.dms_history.specs.Schemas.{Parts, no_parts, after_entry, parts_from, is_whole, parts_of_schema, schema_entries}
use Rattle.dms_history.specs.EntryEvents.{events_in, is_place, live_entries, live_of}
use Rattle.dms_history.specs.SchemaAt.{schema_of, schema_at, join_parts}
use Rattle.dms_history.specs.LawsOfEntries.{IsSchemaPart, AllSchemaParts}
use Rattle.dms_history.specs.Points.{LivePoint, AllLive}
use Rattle.dms_history.proofs.Order.{append_none}
use Rattle.dms_history.proofs.Turns.{live_of_ranges, changes_until, changes_push}
use Rattle.dms_history.proofs.Schemas.{parts_append, cut_logged, live_of_entries, logged_append}
use Rattle.dms_history.proofs.Cuts.{until_none}
use Rattle.dms_history.proofs.SchemaReads.{each_schema, schema_stays, schema_of_new, live_has_schema, live_push, live_grows, has_more}
use Rattle.dms_running.specs.Points.{schema_bytes, described_in}
use Rattle.dms_running.specs.Running.{IsPlainEntry, AllPlain}

-- ---- places and points

-- the live events up to a point are those of the live entries up to its place
events_front : (entries : List Entry) (n : ℕ) → all_changes (events_in (until_first (is_place n) (live_entries entries))) ≡ until_first (is_point n) (live_of entries)
events_front entries n =
    ap all_changes (cut_logged n (live_entries entries) no_parts) ∙ changes_until n (events_in (live_entries entries))
    ∙ ap (λ (l : List Logged). until_first (is_point n) (all_changes l)) (live_of_entries entries) ∙ ap (λ (l : List Event). until_first (is_point n) l) (sym (live_of_ranges (events_in entries)))

none_front : (p : Event → Bool) (es : List Event) → until_first p es ≡ [] → has p es ≡ false
none_front p [] none = refl
none_front p (e ∷ es) none = elim (cases_Bool (p e)) [
  | inl on ↦ absurd (not_nothing e [] (sym (ap (λ k. cond k (e ∷ []) (cond (has p es) (e ∷ until_first p es) [])) on) ∙ none))
  | inr off ↦ elim (cases_Bool (has p es)) [
    | inl more ↦ absurd (not_nothing e (until_first p es) (sym (λ i. cond (off i) (e ∷ []) (cond (more i) (e ∷ until_first p es) [])) ∙ none))
    | inr rest ↦ λ i. off i || rest i
  ]
]
  where
    not_nothing : (x : Event) (xs : List Event) → x ∷ xs ≡ [] → ⊥
    not_nothing x xs e = absurd cc

-- a cut at a place ends with it
pub record EndsAtPoint (n : ℕ) (es : List Entry) : Type 0 where
  pub before : List Entry
  pub last : Entry
  pub at : is_place n last ≡ true
  pub is : until_first (is_place n) es ≡ before ++ last ∷ []

pub ends_there : (n : ℕ) (es : List Entry) → has (is_place n) es ≡ true → EndsAtPoint n es
ends_there n [] found = absurd (true≢false (sym found))
ends_there n (e ∷ es) found = elim (cases_Bool (is_place n e)) [
  | inl on ↦ record { before = []; last = e; at = on; is = ap (λ k. cond k (e ∷ []) (cond (has (is_place n) es) (e ∷ until_first (is_place n) es) [])) on }
  | inr off ↦
      let more : has (is_place n) es ≡ true = ap (λ k. k || has (is_place n) es) (sym off) ∙ found in
      let r = ends_there n es more in
      record { before = e ∷ r.before; last = r.last; at = r.at; is = (λ i. cond (off i) (e ∷ []) (cond (more i) (e ∷ until_first (is_place n) es) [])) ∙ ap (λ (l : List Entry). e ∷ l) r.is }
]

-- a place says one event
one_event : (n : ℕ) (es : List Entry) (e : Entry) → is_place n e ≡ true → (x : Event) × (all_changes (events_in (es ++ e ∷ [])) ≡ all_changes (events_in es) ++ x ∷ [])
one_event n es (schema_part part parts bytes) on = absurd (true≢false (sym on))
one_event n es (image f b before after) on = absurd (true≢false (sym on))
one_event n es (byte_range f b place bytes) on = absurd (true≢false (sym on))
one_event n es (quiet_point m) on = (_, ap all_changes (logged_append es (quiet_point m ∷ []) no_parts) ∙ changes_push (events_in es) _)
one_event n es (control_point m next counts) on = (_, ap all_changes (logged_append es (control_point m next counts ∷ []) no_parts) ∙ changes_push (events_in es) _)
one_event n es (begin_restore m kind) on = absurd (true≢false (sym on))

something : (xs : List Event) (x : Event) → xs ++ x ∷ [] ≡ [] → ⊥
something [] x e = absurd cc
something (y ∷ xs) x e = absurd cc

-- a point has its place among the live entries exactly where it has one among the live events
pub place_is_point : (entries : List Entry) (n : ℕ) → has (is_place n) (live_entries entries) ≡ has (is_point n) (live_of entries)
unfolding all_changes
place_is_point entries n = elim (cases_Bool (has (is_place n) (live_entries entries))) [
  | inl on ↦ elim (cases_Bool (has (is_point n) (live_of entries))) [
    | inl found ↦ on ∙ sym found
    | inr none ↦
        let r = ends_there n (live_entries entries) on in
        let x = one_event n r.before r.last r.at in
        absurd (something (all_changes (events_in r.before)) x.0 (sym x.1 ∙ ap (λ (l : List Entry). all_changes (events_in l)) (sym r.is) ∙ events_front entries n ∙ until_none (is_point n) (live_of entries) none))
  ]
  | inr off ↦ off ∙ sym (none_front (is_point n) (live_of entries) (sym (events_front entries n) ∙ ap (λ (l : List Entry). all_changes (events_in l)) (until_none (is_place n) (live_entries entries) off)))
]

-- ---- live entries, with one more

pub live_more : (es : List Entry) (e : Entry) → is_begin e ≡ false → live_entries (es ++ e ∷ []) ≡ live_entries es ++ e ∷ []
live_more es e goes = live_push es [] e ∙ live_grows (live_entries es) e goes

pub live_begun : (es : List Entry) (m : ℕ) (kind : Kind) → live_entries (es ++ begin_restore m kind ∷ []) ≡ until_first (is_place m) (live_entries es)
live_begun es m kind = live_push es [] (begin_restore m kind)

-- none of them is a Begin
abbrev pub AllGoOn : List Entry → Type 0
AllGoOn [] = Unit {0}
AllGoOn (e ∷ es) = (is_begin e ≡ false) × AllGoOn es

plain_one : (e : Entry) → IsPlainEntry e → is_begin e ≡ false
plain_one (schema_part part parts bytes) plain = refl
plain_one (image f b before after) plain = refl
plain_one (byte_range f b place bytes) plain = refl
plain_one (quiet_point n) plain = refl
plain_one (control_point n next counts) plain = refl
plain_one (begin_restore n kind) plain = absurd plain

pub plain_on : (es : List Entry) → AllPlain es → AllGoOn es
plain_on [] plain = tt
plain_on (e ∷ es) plain = (plain_one e plain.0, plain_on es plain.1)

part_one : (e : Entry) → IsSchemaPart e → is_begin e ≡ false
part_one (schema_part part parts bytes) is = refl
part_one (image f b before after) is = absurd is
part_one (byte_range f b place bytes) is = absurd is
part_one (quiet_point n) is = absurd is
part_one (control_point n next counts) is = absurd is
part_one (begin_restore n kind) is = absurd is

pub parts_on : (es : List Entry) → AllSchemaParts es → AllGoOn es
parts_on [] all = tt
parts_on (e ∷ es) all = (part_one e all.0, parts_on es all.1)

pub both_on : (xs ys : List Entry) → AllGoOn xs → AllGoOn ys → AllGoOn (xs ++ ys)
both_on [] ys one two = two
both_on (x ∷ xs) ys one two = (one.0, both_on xs ys one.1 two)

-- ---- the Schemas at points

-- each of these points has its place
abbrev pub AllPlaced : List Entry → List LivePoint → Type 0
AllPlaced es [] = Unit {0}
AllPlaced es (p ∷ ps) = (has (is_place p.number) (live_entries es) ≡ true) × AllPlaced es ps

pub all_placed : (es : List Entry) (counted : Stored) (ps : List LivePoint) → AllLive (live_of es) counted ps → AllPlaced es ps
all_placed es counted [] all = tt
all_placed es counted (p ∷ ps) all = (place_is_point es p.number ∙ all.0.lives.found, all_placed es counted ps all.1)

placed_more : (es : List Entry) (e : Entry) → is_begin e ≡ false → (ps : List LivePoint) → AllPlaced es ps → AllPlaced (es ++ e ∷ []) ps
placed_more es e goes [] all = tt
placed_more es e goes (p ∷ ps) all = (
  ap (λ (l : List Entry). has (is_place p.number) l) (live_more es e goes) ∙ has_more (is_place p.number) (live_entries es) (e ∷ []) all.0,
  placed_more es e goes ps all.1,
)

described_one : (es : List Entry) (e : Entry) → is_begin e ≡ false → (ps : List LivePoint) → AllPlaced es ps → map (described_in (es ++ e ∷ [])) ps ≡ map (described_in es) ps
described_one es e goes [] all = refl
described_one es e goes (p ∷ ps) all =
    λ i. record { number = p.number; blocks = p.blocks; schema = schema_bytes ((schema_stays es p.number).0 e goes all.0 i) } ∷ described_one es e goes ps all.1 i

-- the Schemas at points that have their places stay, whatever is appended
pub described_on : (es ys : List Entry) → AllGoOn ys → (ps : List LivePoint) → AllPlaced es ps → map (described_in (es ++ ys)) ps ≡ map (described_in es) ps
described_on es [] goes ps all = ap (λ (l : List Entry). map (described_in l) ps) (append_none es)
described_on es (e ∷ ys) goes ps all =
    ap (λ (l : List Entry). map (described_in l) ps) (sym (append_assoc es (e ∷ []) ys))
    ∙ described_on (es ++ e ∷ []) ys goes.1 ps (placed_more es e goes.0 ps all) ∙ described_one es e goes.0 ps all

-- and those of points that a Begin leaves
pub described_begun : (es : List Entry) (m : ℕ) (kind : Kind) (ps : List LivePoint) → AllPlaced (es ++ begin_restore m kind ∷ []) ps → map (described_in (es ++ begin_restore m kind ∷ [])) ps ≡ map (described_in es) ps
described_begun es m kind [] all = refl
described_begun es m kind (p ∷ ps) all =
    let place : has (is_place p.number) (until_first (is_place m) (live_entries es)) ≡ true = ap (λ (l : List Entry). has (is_place p.number) l) (sym (live_begun es m kind)) ∙ all.0 in
    λ i. record { number = p.number; blocks = p.blocks; schema = schema_bytes ((schema_stays es p.number).1 m kind place i) } ∷ described_begun es m kind ps all.1 i

-- a new point stands under the last live Schema
pub described_new : (es : List Entry) (p : LivePoint) → has (is_point p.number) (live_of es) ≡ false
    → described_in (es ++ quiet_point p.number ∷ []) p ≡ record { number = p.number; blocks = p.blocks; schema = schema_bytes (schema_of (live_entries es)) }
described_new es p off = λ i. record { number = p.number; blocks = p.blocks; schema = schema_bytes ((schema_of_new es p.number (place_is_point es p.number ∙ off)).0 i) }

-- each live point has a Schema
pub schema_there : (es : List Entry) (n : ℕ) → IsLive (live_of es) n → schema_at es n ≡ Some (schema_bytes (schema_at es n))
schema_there es n lives = let h = live_has_schema es n lives in h.1 ∙ ap (λ (l : List ℕ). Some l) (sym (ap schema_bytes h.1))

-- ---- the last live Schema

-- entries without a Begin are live
pub live_all_more : (es ys : List Entry) → AllGoOn ys → live_entries (es ++ ys) ≡ live_entries es ++ ys
live_all_more es [] goes = ap live_entries (append_none es) ∙ sym (append_none (live_entries es))
live_all_more es (e ∷ ys) goes =
    ap live_entries (sym (append_assoc es (e ∷ []) ys)) ∙ live_all_more (es ++ e ∷ []) ys goes.1
    ∙ ap (λ (l : List Entry). l ++ ys) (live_more es e goes.0) ∙ append_assoc (live_entries es) (e ∷ []) ys

last_stays : (es : List Entry) (e : Entry) → is_begin e ≡ false → ((p : Parts) → after_entry p e ≡ no_parts) → schema_of (live_entries (es ++ e ∷ [])) ≡ schema_of (live_entries es)
last_stays es e goes none =
    ap schema_of (live_more es e goes)
    ∙ (each_schema (live_entries es)).stays e (ap is_whole (parts_append (live_entries es) (e ∷ []) no_parts ∙ none (parts_from no_parts (live_entries es))))

pub last_image : (es : List Entry) (f b : ℕ) (before : Option BlockBytes) (after : BlockBytes) → schema_of (live_entries (es ++ image f b before after ∷ [])) ≡ schema_of (live_entries es)
last_image es f b before after = last_stays es (image f b before after) refl (λ p. refl)

pub last_range : (es : List Entry) (f b place : ℕ) (bytes : List ℕ) → schema_of (live_entries (es ++ byte_range f b place bytes ∷ [])) ≡ schema_of (live_entries es)
last_range es f b place bytes = last_stays es (byte_range f b place bytes) refl (λ p. refl)

pub last_quiet : (es : List Entry) (n : ℕ) → schema_of (live_entries (es ++ quiet_point n ∷ [])) ≡ schema_of (live_entries es)
last_quiet es n = last_stays es (quiet_point n) refl (λ p. refl)

schema_goes : (k all : ℕ) (bodies : List (List ℕ)) → AllGoOn (parts_of_schema k all bodies)
schema_goes k all [] = tt
schema_goes k all (bytes ∷ rest) = (refl, schema_goes (k + 1) all rest)

-- a whole Schema with its Control is the last one
pub last_control : (es : List Entry) (one : List ℕ) (rest : List (List ℕ)) (n next : ℕ) (counts : List FileCount)
    → schema_of (live_entries (es ++ (schema_entries (one ∷ rest) ++ control_point n next counts ∷ []))) ≡ Some (join_parts (one ∷ rest))
last_control es one rest n next counts =
    let schema = schema_entries (one ∷ rest) in
    ap (λ (l : List Entry). schema_of (live_entries l)) (sym (append_assoc es schema (control_point n next counts ∷ [])))
    ∙ last_stays (es ++ schema) (control_point n next counts) refl (λ p. refl)
    ∙ ap schema_of (live_all_more es schema (schema_goes 1 (length (one ∷ rest)) (one ∷ rest)))
    ∙ (each_schema (live_entries es)).whole one rest
