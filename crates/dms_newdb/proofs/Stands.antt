-- A new database stands for point 0 and the empty database.
use Rattle.std.proofs.Common.{◌≡◌, ℕ, zero, suc, ◌+◌, ◌*◌, ◌<◌, ◌≤◌, ◌==◌, Bool, true, false, cond, List, [], ◌∷◌, ◌++◌, Some, None, refl, sym, ap, ◌∙◌, subst, arith, length, length-drop, take, drop, map, append_assoc, inl, inr}
use Rattle.std.proofs.lemmas.List.{take-append-drop, append-nil}
use Rattle.std.proofs.lemmas.Bool.{cases_lt}
use Rattle.std.specs.List.{range_with_len}
use Rattle.dms_moments.specs.Moments.{Clock}
use Rattle.dms_moments.specs.MomentLaws.{runs_weaken}
use Rattle.dms_desc.specs.Shape.{Described}
use Rattle.dms_desc_bytes.specs.Spelling.{spelling}
use Rattle.dms_descfile.specs.DescriptionFile.{IsSealed}
use Rattle.dms_site.specs.Files.{Files, Left, stored_of}
use Rattle.dms_model.specs.Db.{empty_db}
use Rattle.dms_store.specs.Spelled.{database_in}
use Rattle.dms_history.specs.Events.{AllBlocks, Stored, Counts, Event, control}
use Rattle.dms_history.specs.Entries.{Entry, schema_part, control_point, counts_in}
use Rattle.dms_history.specs.Lists.{has}
use Rattle.dms_history.specs.Places.{IsLive}
use Rattle.dms_history.specs.History.{history, last_point, next_number}
use Rattle.dms_history.specs.Ranges.{Logged, event, told_events, live_logged}
use Rattle.dms_history.specs.LawsOfRanges.{HasImages}
use Rattle.dms_history.specs.Schemas.{Parts, no_parts, after_entry, is_whole, schema_entries, parts_of_schema}
use Rattle.dms_history.specs.SchemaAt.{schema_of, schema_at, join_parts}
use Rattle.dms_history.specs.Agrees.{EventsAgree}
use Rattle.dms_history.specs.EntryEvents.{said_by, logged_from, events_in, events, history_of, live_of, is_place, live_entries_from, live_entries, BeginsAlone, Agrees}
use Rattle.dms_history.specs.Here.{here}
use Rattle.dms_history.specs.Pick.{Dumps, blocks_at, count_at, content_of, pick}
use Rattle.dms_history.specs.LawsOfEntries.{ControlSealed}
use Rattle.dms_history.specs.LawsOfKept.{FirstAgrees}
use Rattle.dms_history.specs.LawsOfSchemas.{EachSchema, SchemaOfNew}
use Rattle.dms_audfile.specs.Trail.{Span}
use Rattle.dms_audrec.specs.Bodies.{bodies_of, part_count, bodies}
use Rattle.dms_creation.specs.FirstEntries.{zero_counts, first_entries}
use Rattle.dms_creation.specs.Creation.{IsMade, Initializes}
use Rattle.dms_creation.specs.FoundAgain.{MadeIsFound}
use Rattle.dms_running.proofs.FromDumps.{none_order}
use Rattle.dms_restore.specs.Dumped.{IsDumpFound, dumps_of}
use Rattle.dms_laws.proofs.Sound.{empty_valid}
use Rattle.dms_newdb.specs.State.{StandsNew, BecomesNew, MadeStands}
use Rattle.dms_run.proofs.Holding.{some_bytes}

-- ---- the counts of a new database

none_or : (b : Bool) (n : ℕ) → n ≡ 0 → cond b 0 n ≡ 0
none_or true n is = refl
none_or false n is = is

zero_count : (n k f : ℕ) → counts_in (zero_counts n k) f ≡ 0
zero_count zero k f = refl
zero_count (suc n) k f = none_or (30000 + k == f) (counts_in (zero_counts n (k + 1)) f) (zero_count n (k + 1) f)

zero_same : (n : ℕ) → counts_in (zero_counts n 1) ≡ counts_in []
zero_same n = λ i f. zero_count n 1 f i

-- ---- the description in parts

-- a list that has a first one
record HasFirst (bs : List (List ℕ)) : Type 0 where
  one : List ℕ
  rest : List (List ℕ)
  is : bs ≡ one ∷ rest

first_body : (k : ℕ) (bytes : List ℕ) → 0 < k → HasFirst (bodies_of k bytes)
first_body zero bytes some = absurd (omega (arith, some))
first_body (suc k) bytes some = record { one = take 4000 bytes; rest = bodies_of k (drop 4000 bytes); is = refl }

some_parts : (n : ℕ) → 0 < n → 0 < part_count n
some_parts n some = omega (arith, some)

enough_parts : (n : ℕ) → n ≤ 4000 * part_count n
enough_parts n = omega arith

joined_bodies : (k : ℕ) (bytes : List ℕ) → length bytes ≤ 4000 * k → join_parts (bodies_of k bytes) ≡ bytes
joined_bodies zero [] few = refl
joined_bodies zero (b ∷ bs) few = absurd (omega (arith, few))
joined_bodies (suc k) bytes few =
    ap (λ (l : List ℕ). take 4000 bytes ++ l) (joined_bodies k (drop 4000 bytes) (omega (arith, few, length-drop 4000 bytes))) ∙ take-append-drop 4000 bytes

-- parts of a Schema are live, and none of them is a place
live_parts : (live : List Entry) (k all : ℕ) (bs : List (List ℕ)) → live_entries_from live (parts_of_schema k all bs) ≡ live ++ parts_of_schema k all bs
live_parts live k all [] = sym (append-nil live)
live_parts live k all (b ∷ bs) = live_parts (live ++ schema_part k all b ∷ []) (k + 1) all bs ∙ append_assoc live (schema_part k all b ∷ []) (parts_of_schema (k + 1) all bs)

no_place : (n k all : ℕ) (bs : List (List ℕ)) → has (is_place n) (parts_of_schema k all bs) ≡ false
no_place n k all [] = refl
no_place n k all (b ∷ bs) = no_place n (k + 1) all bs

-- ---- what the entries say

same_logged : (n : ℕ) (p : Parts) (es : List Entry) → logged_from p (es ++ control_point 0 1 (zero_counts n 1) ∷ []) ≡ logged_from p (es ++ control_point 0 1 [] ∷ [])
same_logged n p [] = ap (λ (cs : Counts). event (control 0 1 cs (is_whole p)) ∷ []) (zero_same n)
same_logged n p (e ∷ es) = ap (λ (l : List Logged). said_by p e ++ l) (same_logged n (after_entry p e) es)

-- whether the trail begins with file 1 or not
agrees_any : (b : Bool) (entries : List Entry) (dumps : Dumps) (stored : Stored) → Agrees true entries dumps stored → Agrees b entries dumps stored
agrees_any b entries dumps stored a =
    let l = a.events_agree.lists in
    record {
      events_agree = record {
        lists = record {
          never_fall = l.never_fall;
          below_next = l.below_next;
          counted_first = l.counted_first;
          linked = l.linked;
          stands = l.stands;
          empty = λ xs ys n later counts described first is none f. l.empty xs ys n later counts described refl is none f;
          grows = l.grows;
          recounts = l.recounts;
        };
        restored = a.events_agree.restored;
      };
      alone = a.alone;
      images = a.images;
    }

-- the Control of a new database alone
abbrev first_event : ℕ → List Event
first_event n = control 0 1 (counts_in (zero_counts n 1)) true ∷ []

lives_first : (n : ℕ) → IsLive (history (first_event n)).live 0
unfolding history
lives_first n = record { found = refl; described = refl }

last_first : (n : ℕ) → last_point (history (first_event n)) ≡ Some 0
unfolding history
last_first n = refl

none_first : (n : ℕ) → (history (first_event n)).pending ≡ None
unfolding history
none_first n = refl

next_first : (n : ℕ) → next_number (first_event n) ≡ 1
unfolding next_number
next_first n = refl

blocks_first : (n : ℕ) (counted : Stored) (f : ℕ) → blocks_at (history (first_event n)).live counted 0 f ≡ []
unfolding history blocks_at content_of count_at
blocks_first n counted f = ap (λ (k : ℕ). map (pick (first_event n) 0 counted f) (range_with_len 0 k)) (zero_count n 1 f)

-- ---- the whole

no_events : events [] ≡ []
unfolding told_events
no_events = refl

module _ (found : MadeIsFound) (sealed_control : ControlSealed) (first_agrees : FirstAgrees) (each : EachSchema) (of_new : SchemaOfNew)
    (empty : (desc : Described) (c : AllBlocks) → ((f : ℕ) → c f ≡ []) → database_in desc c ≡ Some empty_db) where
  module _ (tag : ℕ) (d : Described) (old files : Files) (sealed : IsSealed (old 1) d) (made : IsMade tag d old files) where
    abbrev n : ℕ
    n = length d.structures

    body : HasFirst (bodies (spelling d))
    unfolding bodies
    body = first_body (part_count (length (spelling d))) (spelling d) (some_parts (length (spelling d)) (some_bytes d))

    whole : join_parts (body.one ∷ body.rest) ≡ spelling d
    unfolding bodies
    whole = ap join_parts (sym body.is) ∙ joined_bodies (part_count (length (spelling d))) (spelling d) (enough_parts (length (spelling d)))

    entries_are : first_entries d ≡ schema_entries (body.one ∷ body.rest) ++ control_point 0 1 (zero_counts n 1) ∷ []
    unfolding first_entries
    entries_are = ap (λ (bs : List (List ℕ)). schema_entries bs ++ control_point 0 1 (zero_counts n 1) ∷ []) body.is

    events_are : events (first_entries d) ≡ first_event n
    events_are = ap events entries_are ∙ sealed_control [] body.one body.rest 0 1 (zero_counts n 1) ∙ ap (λ (l : List Event). l ++ first_event n) no_events

    logged_are : events_in (first_entries d) ≡ events_in (schema_entries (body.one ∷ body.rest) ++ control_point 0 1 [] ∷ [])
    logged_are = ap events_in entries_are ∙ same_logged n no_parts (schema_entries (body.one ∷ body.rest))

    agrees : (b : Bool) (dumps : Dumps) (stored : Stored) → Agrees b (first_entries d) dumps stored
    agrees b dumps stored =
        let a = first_agrees body.one body.rest dumps stored in
        agrees_any b (first_entries d) dumps stored (record {
          events_agree = subst (λ (l : List Logged). EventsAgree true (told_events l) dumps stored) (sym logged_are) a.events_agree;
          alone = subst BeginsAlone (sym logged_are) a.alone;
          images = subst (λ (l : List Logged). HasImages (live_logged [] l)) (sym logged_are) a.images;
        })

    parts_live : live_entries (schema_entries (body.one ∷ body.rest)) ≡ schema_entries (body.one ∷ body.rest)
    parts_live = live_parts [] 1 (length (body.one ∷ body.rest)) (body.one ∷ body.rest)

    described : schema_at (first_entries d) 0 ≡ Some (spelling d)
    described =
        ap (λ (es : List Entry). schema_at es 0) entries_are
        ∙ (of_new (schema_entries (body.one ∷ body.rest)) 0 (ap (has (is_place 0)) parts_live ∙ no_place 0 1 (length (body.one ∷ body.rest)) (body.one ∷ body.rest))).1 1 (zero_counts n 1)
        ∙ ap schema_of parts_live ∙ (each []).whole body.one body.rest ∙ ap Some whole

    spells : (counted : Stored) → database_in d (blocks_at (live_of (first_entries d)) counted 0) ≡ Some empty_db
    spells counted = empty d (blocks_at (live_of (first_entries d)) counted 0)
        (λ f. ap (λ (l : List Event). blocks_at (history l).live counted 0 f) events_are ∙ blocks_first n counted f)

    -- the first file of the trail is one that its writer has
    first_within : (s : Span files (found tag d old files sealed made).trail.first (found tag d old files sealed made).trail.last) → (found tag d old files sealed made).trail.first ≤ made.trail.file
    first_within s = elim (cases_lt made.trail.file (found tag d old files sealed made).trail.last) [
      | inl behind ↦ absurd (none_there (files (found tag d old files sealed made).trail.last) (s.present (found tag d old files sealed made).trail.last s.order (omega arith)) (made.trail.behind (found tag d old files sealed made).trail.last behind s.high))
      | inr within ↦ omega (arith, within, s.order)
    ]
      where
        none_there : (file : List ℕ) → 0 < length file → file ≡ [] → ⊥
        none_there file some none = omega (arith, some, ap length none)

    pub made_stands : StandsNew tag d files
    made_stands =
        let f = found tag d old files sealed made in
        record {
          state = record {
            at_point = record {
              entries = first_entries d;
              finds = f;
              agrees = agrees (f.trail.first == 10001) (dumps_of files) (stored_of files);
              order = none_order (IsDumpFound f.trail.first files) (dumps_of files) (history_of (first_entries d)).pending (ap (λ (l : List Event). (history l).pending) events_are ∙ none_first n);
              lives = subst (λ (l : List Event). IsLive (history l).live 0) (sym events_are) (lives_first n);
              described = described;
              well_formed = sealed.well_formed;
              spells = spells (here (dumps_of files) (history_of (first_entries d)) (stored_of files));
              valid = empty_valid d;
            };
            last = ap (λ (l : List Event). last_point (history l)) events_are ∙ last_first n;
          };
          next = record { entries = first_entries d; finds = f; is = ap next_number events_are ∙ next_first n };
          tagged = record { entries = first_entries d; finds = f; is = made.trail.writes.tags f.trail.first f.trail.span.low (first_within f.trail.span) };
        }

-- at each moment
pub becomes_new : MadeStands → (tag : ℕ) (d : Described) (files : Files) (old new : Clock Left) → IsSealed (files 1) d → Initializes tag d files old new → BecomesNew tag d files old new
becomes_new law tag d files old new sealed runs = runs_weaken runs (λ x was. elim was [
  | inl before ↦ inl before
  | inr made ↦ inr (elim made [ inl unmade ↦ inl unmade | inr is ↦ inr (law tag d files x.files sealed is) ])
])
