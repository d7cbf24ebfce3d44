-- A whole Schema and its Control, in part or whole, at the end of a restore or of a database that runs.
use Rattle.std.proofs.Common.{ℕ, min, ◌-◌, ◌^◌, ◌+◌, ◌≤◌, ◌<◌, ◌≡◌, inl, inr, Bool, true, List, [], ◌∷◌, ◌++◌, map, length, take, Some, refl, sym, ◌∙◌, ap, subst, arith, append_assoc}
use Rattle.std.proofs.Math.Nat.{min-le_left, min-eq_right}
use Rattle.dms_moments.specs.Moments.{Clock, Runs}
use Rattle.dms_site.specs.Files.{Left, Only, stored_of}
use Rattle.dms_history.specs.Events.{AllBlocks, Stored, Event, control, block_in}
use Rattle.dms_history.specs.Lists.{has}
use Rattle.dms_history.specs.Places.{is_control, is_described, is_point}
use Rattle.dms_history.specs.History.{History, history, after_event, last_point, next_number}
use Rattle.dms_history.specs.Base.{from_control, Sound}
use Rattle.dms_history.specs.Pick.{Dumps}
use Rattle.dms_history.specs.Here.{here}
use Rattle.dms_history.specs.Points.{live_points, ListsPoints}
use Rattle.dms_history.specs.Entries.{Entry, schema_part, image, byte_range, quiet_point, control_point, begin_restore, counts_in}
use Rattle.dms_history.specs.Replay.{replay}
use Rattle.dms_history.specs.LawsOfKept.{KeptTelling}
use Rattle.dms_history.specs.Schemas.{parts_of_schema, schema_entries}
use Rattle.dms_history.specs.EntryEvents.{events, history_of, live_of, next_of}
use Rattle.dms_history.specs.declared.event.FileCount.{FileCount}
use Rattle.dms_history.specs.Kept.{content_told, Kept}
use Rattle.dms_history.specs.LawsOfEntries.{IsSchemaPart, AllSchemaParts}
use Rattle.dms_history.specs.Sizes.{ImagesSized}
use Rattle.dms_history.proofs.AtPoints.{true_or}
use Rattle.dms_history.proofs.Base.{has_append}
use Rattle.dms_history.proofs.Converse.{opening_append}
use Rattle.dms_history.proofs.Given.{described_control}
use Rattle.dms_history.proofs.Order.{append_none, next_steps}
use Rattle.dms_history.proofs.Sealed.{control_sealed, one_more_event}
use Rattle.dms_history.proofs.SchemaParts.{parts_say_nothing, schema_in_parts}
use Rattle.dms_history.proofs.Keeping.{kept_schema, kept_control, kept_in_parts}
use Rattle.dms_history.proofs.Listed.{points_listed, one_list}
use Rattle.dms_history.proofs.ListSteps.{lists_control}
use Rattle.dms_running.specs.FromDumps.{DumpsInOrder}
use Rattle.dms_running.proofs.FromDumps.{none_order}
use Rattle.dms_running.specs.Telling.{Telling, IsTelling}
use Rattle.dms_running.specs.Standing.{Stands, MayRun}
use Rattle.dms_running.specs.Points.{described_in, points_told, next_in}
use Rattle.dms_running.specs.Running.{State, entries_now, content_now, points_now, IsRunning, IsAnOutcome, AllWritten}
use Rattle.dms_running.specs.Begun.{LeavesAll, IsLast, IsSchemaControl}
use Rattle.dms_running.proofs.Described.{parts_on, both_on, all_placed, described_on}
use Rattle.dms_running.proofs.MayRun.{idle, images_both}
use Rattle.dms_running.proofs.Stopped.{blocks_same}
use Rattle.dms_running.proofs.Appending.{content_of, now_runs, content_is}
use Rattle.dms_running.specs.Plans.{KeepsAll, Planned}
use Rattle.dms_running.proofs.Planned.{still_runs, plan_leaves}

pub all_parts : (k all : ℕ) (bodies : List (List ℕ)) → AllSchemaParts (parts_of_schema k all bodies)
all_parts k all [] = tt
all_parts k all (bytes ∷ rest) = (tt, all_parts (k + 1) all rest)

kept_one : (first : Bool) (es : List Entry) (e : Entry) (d : Dumps) (base : AllBlocks) (st : Stored) → IsSchemaPart e → Kept first es d base st → Kept first (es ++ e ∷ []) d base st
kept_one first es (schema_part part parts bytes) d base st is k = kept_schema first es d base st part parts bytes k
kept_one first es (image f b before after) d base st is k = absurd is
kept_one first es (byte_range f b place bytes) d base st is k = absurd is
kept_one first es (quiet_point n) d base st is k = absurd is
kept_one first es (control_point n next counts) d base st is k = absurd is
kept_one first es (begin_restore n kind) d base st is k = absurd is

pub kept_parts : (first : Bool) (es ps : List Entry) (d : Dumps) (base : AllBlocks) (st : Stored) → AllSchemaParts ps → Kept first es d base st → Kept first (es ++ ps) d base st
kept_parts first es [] d base st all k = subst (λ (l : List Entry). Kept first l d base st) (sym (append_none es)) k
kept_parts first es (p ∷ ps) d base st all k =
    subst (λ (l : List Entry). Kept first l d base st) (append_assoc es (p ∷ []) ps) (kept_parts first (es ++ p ∷ []) ps d base st all.1 (kept_one first es p d base st all.0 k))

next_bound : (es : List Entry) → next_of es ≤ 2 ^ 64 - 1
unfolding next_number
next_bound es = min-le_left (2 ^ 64 - 1) _

module _ (first : Bool) (es : List Entry) (d : Dumps) (base : AllBlocks) (st : Stored) (n next : ℕ) (one : List ℕ) (rest : List (List ℕ)) (counts : List FileCount) where
  abbrev pub schema : List Entry
  schema = schema_entries (one ∷ rest)

  abbrev pub plan : List Entry
  plan = schema ++ control_point n next counts ∷ []

  abbrev pub last : Event
  last = control n next (counts_in counts) true

  pub schema_parts : AllSchemaParts schema
  schema_parts = all_parts 1 (length (one ∷ rest)) (one ∷ rest)

  -- the Schema says nothing
  pub same_history : history_of (es ++ schema) ≡ history_of es
  same_history = ap history (parts_say_nothing es schema schema_parts).1

  pub same_next : next_of (es ++ schema) ≡ next_of es
  same_next = ap next_number (parts_say_nothing es schema schema_parts).1

  pub behind : (es ++ schema) ++ control_point n next counts ∷ [] ≡ es ++ plan
  behind = append_assoc es schema (control_point n next counts ∷ [])

  pub whole_is : history_of (es ++ plan) ≡ after_event (history_of es) last
  whole_is = ap history (control_sealed es one rest n next counts) ∙ one_more_event (events es) last

  module _ (s : Stands first es d base st) (kept : Kept first (es ++ plan) d base st) where
    pub live_is : live_of (es ++ plan) ≡ live_of es ++ last ∷ []
    live_is = ap (λ (h : History). h.live) whole_is

    from_is : from_control (live_of (es ++ plan)) ≡ from_control (live_of es) ++ last ∷ []
    from_is = ap (λ (l : List Event). from_control l) live_is ∙ (opening_append (live_of es) (last ∷ []) (described_control (live_of es) s.described)).1

    pub whole_stands : Stands first (es ++ plan) d base st
    whole_stands = record {
      kept = kept;
      described = ap (λ (l : List Event). has is_described l) live_is ∙ has_append is_described (live_of es) (last ∷ []) ∙ true_or (has is_described (live_of es)) (has is_described (last ∷ [])) s.described;
      base_sized = s.base_sized;
      images_sized = subst ImagesSized (sym from_is) (images_both (from_control (live_of es)) (last ∷ []) s.images_sized tt);
    }

    pub whole_may : MayRun first (es ++ plan) d base st
    whole_may = record { stands = whole_stands; none = ap (λ (h : History). h.pending) whole_is }

    pub whole_points : has (is_point n) (live_of es) ≡ true → points_told d (es ++ plan) st ≡ points_told d es st
    whole_points placed =
        let counted = here d (history_of es) st in
        let later = here d (history_of (es ++ plan)) st in
        let old = live_points (live_of es) counted in
        let before : ListsPoints (live_of es) counted old = points_listed (live_of es) (next_of es) counted s.kept.numbered in
        let after : ListsPoints (live_of es ++ last ∷ []) later old =
        lists_control (live_of es) (next_of es) base counted later old n next (counts_in counts) true s.kept.numbered placed s.kept.steady.sound
        (subst (λ (l : List Event). Sound (from_control l) base later) live_is kept.steady.sound) before in
        let same : live_points (live_of (es ++ plan)) later ≡ old =
        one_list (live_of (es ++ plan)) later (live_points (live_of (es ++ plan)) later) old (points_listed (live_of (es ++ plan)) (next_of (es ++ plan)) later kept.numbered)
        (subst (λ (l : List Event). ListsPoints l later old) (sym live_is) after) in
        ap (map (described_in (es ++ plan))) same
        ∙ described_on es plan (both_on schema (control_point n next counts ∷ []) (parts_on schema schema_parts) (refl, tt)) old (all_placed es counted old before.lives)

    pub whole_next : next ≡ next_of es → next_of (es ++ plan) ≡ next_of es
    whole_next same =
        ap next_number (control_sealed es one rest n next counts) ∙ (next_steps (events es)).control n next (counts_in counts) true ∙ ap (λ k. min (2 ^ 64 - 1) k) same
        ∙ min-eq_right (next_bound es)

    module _ (k : ℕ) where
      part_history : AllSchemaParts (take k plan) → history_of (es ++ take k plan) ≡ history_of es
      part_history all = ap history (parts_say_nothing es (take k plan) all).1

      pub part_stands : Stands first (es ++ take k plan) d base st
      part_stands = elim (schema_in_parts k one rest (control_point n next counts)) [
        | inl parts ↦ record {
          kept = kept_in_parts first es d base st k one rest (control_point n next counts) s.kept kept;
          described = ap (λ (h : History). has is_described h.live) (part_history parts) ∙ s.described;
          base_sized = s.base_sized;
          images_sized = subst (λ (h : History). ImagesSized (from_control h.live)) (sym (part_history parts)) s.images_sized;
        }
        | inr all ↦ subst (λ (l : List Entry). Stands first (es ++ l) d base st) (sym all) whole_stands
      ]

      -- a part of the Schema alone has the points of before
      pub schema_points : AllSchemaParts (take k plan) → points_told d (es ++ take k plan) st ≡ points_told d es st
      schema_points parts =
          let counted = here d (history_of es) st in
          let old = live_points (live_of es) counted in
          ap (λ (h : History). map (described_in (es ++ take k plan)) (live_points h.live (here d h st))) (part_history parts)
          ∙ described_on es (take k plan) (parts_on (take k plan) parts) old (all_placed es counted old (points_listed (live_of es) (next_of es) counted s.kept.numbered).lives)

      pub part_points : has (is_point n) (live_of es) ≡ true → points_told d (es ++ take k plan) st ≡ points_told d es st
      part_points placed = elim (schema_in_parts k one rest (control_point n next counts)) [
        | inl parts ↦ schema_points parts
        | inr all ↦ ap (λ (l : List Entry). points_told d (es ++ l) st) all ∙ whole_points placed
      ]

      pub part_order : (found : ℕ → Type 0) (e : Dumps) → DumpsInOrder found e (history_of es).pending → DumpsInOrder found e (history_of (es ++ take k plan)).pending
      part_order found e order = elim (schema_in_parts k one rest (control_point n next counts)) [
        | inl parts ↦ subst (λ (h : History). DumpsInOrder found e h.pending) (sym (part_history parts)) order
        | inr all ↦ none_order found e (history_of (es ++ take k plan)).pending (ap (λ (l : List Entry). (history_of (es ++ l)).pending) all ∙ ap (λ (h : History). h.pending) whole_is)
      ]

      pub part_next : next ≡ next_of es → next_of (es ++ take k plan) ≡ next_of es
      part_next same = elim (schema_in_parts k one rest (control_point n next counts)) [
        | inl parts ↦ ap next_number (parts_say_nothing es (take k plan) parts).1
        | inr all ↦ ap (λ (l : List Entry). next_of (es ++ l)) all ∙ whole_next same
      ]

  -- ---- of a database that runs

  module _ (m : MayRun first es d base st) (ends : last_point (history_of es) ≡ Some n) (placed : has (is_point n) (live_of es) ≡ true) (carried : next_of es ≤ next)
      (count : (f : ℕ) → counts_in counts f ≡ length (content_told es base f)) (stand : (f b : ℕ) → b < length (content_told es base f) → st f b ≡ block_in (content_told es base) f b) where
    same_content : content_told (es ++ schema) base ≡ content_told es base
    same_content = ap (λ (h : History). replay (from_control h.live) base) same_history

    telling_it : KeptTelling first ((es ++ schema) ++ control_point n next counts ∷ []) d base st (content_told (es ++ schema) base)
    telling_it = kept_control first (es ++ schema) d base st st n next counts (kept_parts first es schema d base st schema_parts m.stands.kept)
        (record { none = ap (λ (h : History). h.pending) same_history ∙ m.none; controlled = ap (λ (h : History). has is_control h.live) same_history ∙ (idle first es d base st m).controlled })
        (ap last_point same_history ∙ ends) (ap (λ (h : History). has (is_point n) h.live) same_history ∙ placed) (omega (arith, carried, same_next))
        (λ f. count f ∙ ap (λ (c : AllBlocks). length (c f)) (sym same_content))
        (λ f b low. stand f b (subst (λ (c : AllBlocks). b < length (c f)) same_content low) ∙ ap (λ (c : AllBlocks). block_in c f b) (sym same_content))

    pub control_kept : Kept first (es ++ plan) d base st
    control_kept = subst (λ (l : List Entry). Kept first l d base st) behind telling_it.kept

    pub control_content : content_told (es ++ plan) base ≡ content_told es base
    control_content = ap (λ (l : List Entry). content_told l base) (sym behind) ∙ telling_it.tells ∙ same_content

-- ---- a control point of a database that runs

module _ (t : Telling) (telling : IsTelling t) (a : State) (r : IsRunning t a) (read : IsAnOutcome a) (nothing : a.waiting ≡ []) (only : Only a.files a.clock) (written : AllWritten t a)
    (n : ℕ) (at : IsLast t a n) (counts : List FileCount) (count : (f : ℕ) → counts_in counts f ≡ length (content_now t a f)) (es : List Entry) (c : IsSchemaControl t a n counts es) where
  abbrev pub base : AllBlocks
  base = r.base

  old_is : entries_now t a ≡ t.entries a.files
  old_is = ap (λ (l : List Entry). t.entries a.files ++ l) nothing ∙ append_none (t.entries a.files)

  m : MayRun t.first (t.entries a.files) (t.dumps a.files) base (stored_of a.files)
  m = subst (λ (l : List Entry). MayRun t.first l (t.dumps a.files) base (stored_of a.files)) old_is (now_runs t telling a r read)

  told : content_now t a ≡ content_told (t.entries a.files) base
  told = content_is t telling a r read ∙ ap (λ (l : List Entry). content_told l base) old_is

  ends : last_point (history_of (t.entries a.files)) ≡ Some n
  ends = ap (λ (l : List Entry). last_point (history_of l)) (sym old_is) ∙ at.last

  placed : has (is_point n) (live_of (t.entries a.files)) ≡ true
  placed = ap (λ (l : List Entry). has (is_point n) (live_of l)) (sym old_is) ∙ at.lives.found

  each_count : (f : ℕ) → counts_in counts f ≡ length (content_told (t.entries a.files) base f)
  each_count f = count f ∙ ap (λ (k : AllBlocks). length (k f)) told

  each_stands : (f b : ℕ) → b < length (content_told (t.entries a.files) base f) → stored_of a.files f b ≡ block_in (content_told (t.entries a.files) base) f b
  each_stands f b low = written f b (subst (λ (k : AllBlocks). b < length (k f)) (sym told) low) ∙ ap (λ (k : AllBlocks). block_in k f b) told

  kept : Kept t.first (t.entries a.files ++ plan t.first (t.entries a.files) (t.dumps a.files) base (stored_of a.files) n (next_in t a.files) c.first c.rest counts) (t.dumps a.files) base (stored_of a.files)
  kept = control_kept t.first (t.entries a.files) (t.dumps a.files) base (stored_of a.files) n (next_in t a.files) c.first c.rest counts m ends placed (omega arith) each_count each_stands

  keeps : KeepsAll t es a.files base
  keeps = subst (λ (l : List Entry). KeepsAll t l a.files base) (sym c.is) (record {
    points = λ k. part_points t.first (t.entries a.files) (t.dumps a.files) base (stored_of a.files) n (next_in t a.files) c.first c.rest counts m.stands kept k placed;
    next = λ k. part_next t.first (t.entries a.files) (t.dumps a.files) base (stored_of a.files) n (next_in t a.files) c.first c.rest counts m.stands kept k refl;
    stands = part_stands t.first (t.entries a.files) (t.dumps a.files) base (stored_of a.files) n (next_in t a.files) c.first c.rest counts m.stands kept;
    order = λ k. part_order t.first (t.entries a.files) (t.dumps a.files) base (stored_of a.files) n (next_in t a.files) c.first c.rest counts m.stands kept k (t.dump_found a.files) (t.dumps a.files) (none_order (t.dump_found a.files) (t.dumps a.files) (history_of (t.entries a.files)).pending m.none);
  })

  whole : MayRun t.first (t.entries a.files ++ es) (t.dumps a.files) base (stored_of a.files)
  whole = subst (λ (l : List Entry). MayRun t.first (t.entries a.files ++ l) (t.dumps a.files) base (stored_of a.files)) (sym c.is)
      (whole_may t.first (t.entries a.files) (t.dumps a.files) base (stored_of a.files) n (next_in t a.files) c.first c.rest counts m.stands kept)

  pub control_leaves : (later : Clock Left) → Runs a.clock later (Planned t es a.files) → LeavesAll t a later
  control_leaves later runs = plan_leaves t telling es a base keeps (subst t.found read.2 (r.found read.0 read.1)) only later runs

  module _ (b : State) (entries : t.entries b.files ≡ t.entries a.files ++ es) (above : (g : ℕ) → 20000 < g → b.files g ≡ a.files g) (empty : b.waiting ≡ []) where
    later_may : MayRun t.first (t.entries b.files) (t.dumps b.files) base (stored_of b.files)
    later_may = subst (λ (l : List Entry). MayRun t.first l (t.dumps b.files) base (stored_of b.files)) (sym entries)
        (subst (λ (d : Dumps). MayRun t.first (t.entries a.files ++ es) d base (stored_of b.files)) (sym (telling.dumps_between b.files a.files (λ g up below. above g up)))
        (subst (λ (st : Stored). MayRun t.first (t.entries a.files ++ es) (t.dumps a.files) base st) (sym (blocks_same b.files a.files above)) whole))

    now_is : entries_now t b ≡ t.entries a.files ++ es
    now_is = ap (λ (l : List Entry). t.entries b.files ++ l) empty ∙ append_none (t.entries b.files) ∙ entries

    pub control_runs : t.found b.files → Only b.files b.clock → IsRunning t b
    control_runs found alone = still_runs t b base found alone empty later_may

    pub control_same : content_now t b ≡ content_now t a
    control_same =
        content_of t b (t.entries a.files ++ es) (stored_of a.files) (t.dumps a.files) base now_is (blocks_same b.files a.files above) whole
        ∙ ap (λ (l : List Entry). content_told (t.entries a.files ++ l) base) c.is
        ∙ control_content t.first (t.entries a.files) (t.dumps a.files) base (stored_of a.files) n (next_in t a.files) c.first c.rest counts m ends placed (omega arith) each_count each_stands
        ∙ sym told

    pub control_points : points_now t b ≡ points_now t a
    control_points =
        (λ i. points_told (telling.dumps_between b.files a.files (λ g up below. above g up) i) (now_is i) (blocks_same b.files a.files above i))
        ∙ ap (λ (l : List Entry). points_told (t.dumps a.files) (t.entries a.files ++ l) (stored_of a.files)) c.is
        ∙ whole_points t.first (t.entries a.files) (t.dumps a.files) base (stored_of a.files) n (next_in t a.files) c.first c.rest counts m.stands kept placed
        ∙ ap (λ (l : List Entry). points_told (t.dumps a.files) l (stored_of a.files)) (sym old_is)
