-- A whole Schema and a Control that makes a point, in part or whole, at the end of a database that runs.
use Rattle.std.proofs.Common.{ℕ, ◌-◌, ◌^◌, ◌+◌, ◌≤◌, ◌<◌, ◌≡◌, inl, inr, Bool, true, false, List, [], ◌∷◌, ◌++◌, map, length, take, refl, sym, ◌∙◌, ap, subst, arith}
use Rattle.std.proofs.Math.Nat.{min-eq_right}
use Rattle.std.proofs.lemmas.List.{map-append, take_all, length-append, take_at}
use Rattle.dms_moments.specs.Moments.{Clock, Runs}
use Rattle.dms_moments.specs.MomentLaws.{runs_weaken}
use Rattle.dms_site.specs.Files.{Left, Only, stored_of}
use Rattle.dms_history.specs.Events.{AllBlocks, Stored, Event, block_in}
use Rattle.dms_history.specs.Lists.{has}
use Rattle.dms_history.specs.Places.{is_control, is_point}
use Rattle.dms_history.specs.History.{History, next_number}
use Rattle.dms_history.specs.Base.{from_control, Sound}
use Rattle.dms_history.specs.Pick.{Dumps}
use Rattle.dms_history.specs.Here.{here}
use Rattle.dms_history.specs.Points.{LivePoint, live_points, ListsPoints}
use Rattle.dms_history.specs.Entries.{Entry, control_point, counts_in}
use Rattle.dms_history.specs.Replay.{replay}
use Rattle.dms_history.specs.LawsOfKept.{KeptTelling}
use Rattle.dms_history.specs.SchemaAt.{schema_of, schema_at, join_parts}
use Rattle.dms_history.specs.EntryEvents.{events, is_place, live_entries, history_of, live_of, next_of}
use Rattle.dms_history.specs.declared.event.FileCount.{FileCount}
use Rattle.dms_history.specs.Kept.{content_told, Kept}
use Rattle.dms_history.proofs.Order.{append_none, next_steps}
use Rattle.dms_history.proofs.Sealed.{control_sealed}
use Rattle.dms_history.proofs.SchemaParts.{parts_say_nothing, schema_in_parts}
use Rattle.dms_history.proofs.SchemaReads.{each_schema, schema_of_new}
use Rattle.dms_history.proofs.Keeping.{kept_level}
use Rattle.dms_history.proofs.Running.{above_all}
use Rattle.dms_history.proofs.Listed.{points_listed, one_list}
use Rattle.dms_history.proofs.ListSteps.{lists_level}
use Rattle.dms_running.specs.FromDumps.{DumpsInOrder}
use Rattle.dms_running.proofs.FromDumps.{none_order, order_stays}
use Rattle.dms_running.specs.Telling.{Telling, IsTelling}
use Rattle.dms_running.specs.Standing.{Stands, MayRun, IsWhole}
use Rattle.dms_running.specs.Points.{DescribedPoint, schema_bytes, described_in, points_told, points_of, next_in, LeavesPointsPrefix}
use Rattle.dms_running.specs.Running.{State, entries_now, content_now, next_now, points_now, IsRunning, IsAnOutcome, AllWritten}
use Rattle.dms_running.specs.Levels.{IsLevel, level_point, LeavesLevel}
use Rattle.dms_running.specs.Plans.{Planned}
use Rattle.dms_running.proofs.Described.{parts_on, both_on, all_placed, described_on, live_all_more, place_is_point}
use Rattle.dms_running.proofs.MayRun.{idle}
use Rattle.dms_running.proofs.Stopped.{blocks_same}
use Rattle.dms_running.proofs.Appending.{content_of, now_runs, content_is}
use Rattle.dms_running.proofs.Planned.{carried, still_runs}
use Rattle.dms_running.proofs.Controlled.{plan, last, schema, schema_parts, same_history, same_next, behind, kept_parts, live_is, whole_may, part_stands, part_order, schema_points}

module _ (first : Bool) (es : List Entry) (d : Dumps) (base : AllBlocks) (st : Stored) (n : ℕ) (one : List ℕ) (rest : List (List ℕ)) (counts : List FileCount) (m : MayRun first es d base st)
    (free : next_of es ≤ n) (low : n < 2 ^ 64 - 1) (count : (f : ℕ) → counts_in counts f ≡ length (content_told es base f))
    (stand : (f b : ℕ) → b < length (content_told es base f) → st f b ≡ block_in (content_told es base) f b) where
  abbrev parts : List Entry
  parts = schema first es d base st n (n + 1) one rest counts

  abbrev pub level_plan : List Entry
  level_plan = plan first es d base st n (n + 1) one rest counts

  abbrev level : Event
  level = last first es d base st n (n + 1) one rest counts

  same : history_of (es ++ parts) ≡ history_of es
  same = same_history first es d base st n (n + 1) one rest counts

  same_content : content_told (es ++ parts) base ≡ content_told es base
  same_content = ap (λ (h : History). replay (from_control h.live) base) same

  telling_it : KeptTelling first ((es ++ parts) ++ control_point n (n + 1) counts ∷ []) d base st (content_told (es ++ parts) base)
  telling_it = kept_level first (es ++ parts) d base st st n (n + 1) counts (kept_parts first es parts d base st (schema_parts first es d base st n (n + 1) one rest counts) m.stands.kept)
      (record { none = ap (λ (h : History). h.pending) same ∙ m.none; controlled = ap (λ (h : History). has is_control h.live) same ∙ (idle first es d base st m).controlled })
      (omega (arith, free, same_next first es d base st n (n + 1) one rest counts)) (omega arith) low
      (λ f. count f ∙ ap (λ (c : AllBlocks). length (c f)) (sym same_content))
      (λ f b under. stand f b (subst (λ (c : AllBlocks). b < length (c f)) same_content under) ∙ ap (λ (c : AllBlocks). block_in c f b) (sym same_content))

  pub level_kept : Kept first (es ++ level_plan) d base st
  level_kept = subst (λ (l : List Entry). Kept first l d base st) (behind first es d base st n (n + 1) one rest counts) telling_it.kept

  pub level_content : content_told (es ++ level_plan) base ≡ content_told es base
  level_content = ap (λ (l : List Entry). content_told l base) (sym (behind first es d base st n (n + 1) one rest counts)) ∙ telling_it.tells ∙ same_content

  pub level_may : MayRun first (es ++ level_plan) d base st
  level_may = whole_may first es d base st n (n + 1) one rest counts m.stands level_kept

  pub level_next : next_of (es ++ level_plan) ≡ n + 1
  level_next =
      ap next_number (control_sealed es one rest n (n + 1) counts) ∙ (next_steps (events es)).control n (n + 1) (counts_in counts) true ∙ min-eq_right (omega (arith, low))

  -- its number is new among the entries before its Control
  unplaced : has (is_place n) (live_entries (es ++ parts)) ≡ false
  unplaced = place_is_point (es ++ parts) n ∙ ap (λ (h : History). has (is_point n) h.live) same ∙ above_all (live_of es) (next_of es) n m.stands.kept.numbered free

  -- the Schema of its point is the one before its Control
  level_schema : schema_bytes (schema_at (es ++ level_plan) n) ≡ join_parts (one ∷ rest)
  level_schema =
      ap (λ (l : List Entry). schema_bytes (schema_at l n)) (sym (behind first es d base st n (n + 1) one rest counts))
      ∙ ap schema_bytes ((schema_of_new (es ++ parts) n unplaced).1 (n + 1) counts
      ∙ ap schema_of (live_all_more es parts (parts_on parts (schema_parts first es d base st n (n + 1) one rest counts)))
      ∙ (each_schema (live_entries es)).whole one rest)

  abbrev new : LivePoint
  new = record { number = n; blocks = content_told es base }

  abbrev pub made : DescribedPoint
  made = record { number = n; blocks = content_told es base; schema = join_parts (one ∷ rest) }

  -- its point stands behind the old ones
  pub level_points : points_told d (es ++ level_plan) st ≡ points_told d es st ++ made ∷ []
  level_points =
      let counted = here d (history_of es) st in
      let later = here d (history_of (es ++ level_plan)) st in
      let live = live_of es in
      let old = live_points live counted in
      let now : live_of (es ++ level_plan) ≡ live ++ level ∷ [] = live_is first es d base st n (n + 1) one rest counts m.stands level_kept in
      let before : ListsPoints live counted old = points_listed live (next_of es) counted m.stands.kept.numbered in
      let after : ListsPoints (live ++ level ∷ []) later (old ++ new ∷ []) =
      lists_level live (next_of es) base counted later old n (n + 1) (counts_in counts) true m.stands.kept.numbered free m.stands.described m.stands.kept.steady.sound
      (subst (λ (l : List Event). Sound (from_control l) base later) now level_kept.steady.sound) before in
      let listed : live_points (live_of (es ++ level_plan)) later ≡ old ++ new ∷ [] =
      one_list (live_of (es ++ level_plan)) later (live_points (live_of (es ++ level_plan)) later) (old ++ new ∷ []) (points_listed (live_of (es ++ level_plan)) (next_of (es ++ level_plan)) later level_kept.numbered)
      (subst (λ (l : List Event). ListsPoints l later (old ++ new ∷ [])) (sym now) after) in
      let stays : map (described_in (es ++ level_plan)) old ≡ map (described_in es) old =
      described_on es level_plan (both_on parts (control_point n (n + 1) counts ∷ []) (parts_on parts (schema_parts first es d base st n (n + 1) one rest counts)) (refl, tt)) old (all_placed es counted old before.lives) in
      ap (map (described_in (es ++ level_plan))) listed ∙ map-append (described_in (es ++ level_plan)) old (new ∷ [])
      ∙ (λ i. stays i ++ record { number = n; blocks = content_told es base; schema = level_schema i } ∷ [])

-- ---- of a database that runs

module _ (t : Telling) (telling : IsTelling t) (a : State) (r : IsRunning t a) (read : IsAnOutcome a) (nothing : a.waiting ≡ []) (only : Only a.files a.clock) (written : AllWritten t a)
    (low : next_in t a.files < 2 ^ 64 - 1) (counts : List FileCount) (count : (f : ℕ) → counts_in counts f ≡ length (content_now t a f)) (bytes : List ℕ) (es : List Entry) (c : IsLevel t a bytes counts es) where
  abbrev base_ : AllBlocks
  base_ = r.base

  abbrev old : List Entry
  old = t.entries a.files

  abbrev n_ : ℕ
  n_ = next_in t a.files

  old_is : entries_now t a ≡ old
  old_is = ap (λ (l : List Entry). old ++ l) nothing ∙ append_none old

  may : MayRun t.first old (t.dumps a.files) base_ (stored_of a.files)
  may = subst (λ (l : List Entry). MayRun t.first l (t.dumps a.files) base_ (stored_of a.files)) old_is (now_runs t telling a r read)

  told : content_now t a ≡ content_told old base_
  told = content_is t telling a r read ∙ ap (λ (l : List Entry). content_told l base_) old_is

  each_count : (f : ℕ) → counts_in counts f ≡ length (content_told old base_ f)
  each_count f = count f ∙ ap (λ (k : AllBlocks). length (k f)) told

  each_stands : (f b : ℕ) → b < length (content_told old base_ f) → stored_of a.files f b ≡ block_in (content_told old base_) f b
  each_stands f b under = written f b (subst (λ (k : AllBlocks). b < length (k f)) (sym told) under) ∙ ap (λ (k : AllBlocks). block_in k f b) told

  abbrev all : List Entry
  all = plan t.first old (t.dumps a.files) base_ (stored_of a.files) n_ (n_ + 1) c.first c.rest counts

  kept : Kept t.first (old ++ all) (t.dumps a.files) base_ (stored_of a.files)
  kept = level_kept t.first old (t.dumps a.files) base_ (stored_of a.files) n_ c.first c.rest counts may (omega arith) low each_count each_stands

  whole : MayRun t.first (old ++ all) (t.dumps a.files) base_ (stored_of a.files)
  whole = level_may t.first old (t.dumps a.files) base_ (stored_of a.files) n_ c.first c.rest counts may (omega arith) low each_count each_stands

  point_is : level_point t a bytes ≡ record { number = n_; blocks = content_told old base_; schema = join_parts (c.first ∷ c.rest) }
  point_is = λ i. record { number = next_of (old_is i); blocks = told i; schema = sym c.joined i }

  new_points : points_told (t.dumps a.files) (old ++ all) (stored_of a.files) ≡ points_of t a.files ++ level_point t a bytes ∷ []
  new_points =
      level_points t.first old (t.dumps a.files) base_ (stored_of a.files) n_ c.first c.rest counts may (omega arith) low each_count each_stands
      ∙ ap (λ (p : DescribedPoint). points_of t a.files ++ p ∷ []) (sym point_is)

  new_next : next_of (old ++ all) ≡ n_ + 1
  new_next = level_next t.first old (t.dumps a.files) base_ (stored_of a.files) n_ c.first c.rest counts may (omega arith) low each_count each_stands

  module _ (x : Left) (p : Planned t all a.files x) (finds : t.found a.files) where
    stands_there : Stands t.first (t.entries x.files) (t.dumps x.files) base_ (stored_of x.files)
    stands_there = carried t telling a.files x.files (t.entries x.files) base_ p.above
        (subst (λ (l : List Entry). Stands t.first l (t.dumps a.files) base_ (stored_of a.files)) (sym p.sealed)
        (part_stands t.first old (t.dumps a.files) base_ (stored_of a.files) n_ (n_ + 1) c.first c.rest counts may.stands kept p.some))

    in_order : DumpsInOrder (t.dump_found x.files) (t.dumps x.files) (history_of (t.entries x.files)).pending
    in_order = subst (λ (l : List Entry). DumpsInOrder (t.dump_found x.files) (t.dumps x.files) (history_of l).pending) (sym p.sealed)
        (order_stays t telling a.files x.files _ (λ g up below. p.above g up) p.dumps_found
        (part_order t.first old (t.dumps a.files) base_ (stored_of a.files) n_ (n_ + 1) c.first c.rest counts may.stands kept p.some (t.dump_found a.files) (t.dumps a.files) (none_order (t.dump_found a.files) (t.dumps a.files) (history_of old).pending may.none)))

    whole_there : IsWhole t x.files
    whole_there = record { found = p.found finds; base = base_; stands = stands_there; order = in_order }

    points_there : points_of t x.files ≡ points_told (t.dumps a.files) (old ++ take p.some all) (stored_of a.files)
    points_there = λ i. points_told (telling.dumps_between x.files a.files (λ g up below. p.above g up) i) (p.sealed i) (blocks_same x.files a.files p.above i)

    prefix : LeavesPointsPrefix t (points_of t a.files ++ level_point t a bytes ∷ []) (length (points_of t a.files)) (n_ + 1) x
    prefix = elim (schema_in_parts p.some c.first c.rest (control_point n_ (n_ + 1) counts)) [
      | inl some ↦
          let ps = points_of t a.files in
          let long : length (ps ++ level_point t a bytes ∷ []) ≡ length ps + 1 = length-append ps (level_point t a bytes ∷ []) in
          let same_points : points_of t x.files ≡ ps = points_there ∙ schema_points t.first old (t.dumps a.files) base_ (stored_of a.files) n_ (n_ + 1) c.first c.rest counts may.stands kept p.some some in
          let up : next_in t x.files ≡ n_ = ap (λ (l : List Entry). next_of l) p.sealed ∙ ap next_number (parts_say_nothing old (take p.some all) some).1 in record {
            count = length ps;
            enough = omega arith;
            within = omega (arith, long);
            is = same_points ∙ sym (take_at ps (level_point t a bytes ∷ []) (length ps) refl);
            not_fallen = omega (arith, long, up);
            not_risen = omega (arith, up);
            whole = whole_there;
          }
      | inr done ↦
          let ps = points_of t a.files ++ level_point t a bytes ∷ [] in
          let now : points_of t x.files ≡ ps = points_there ∙ ap (λ (l : List Entry). points_told (t.dumps a.files) (old ++ l) (stored_of a.files)) done ∙ new_points in
          let up : next_in t x.files ≡ n_ + 1 = ap (λ (l : List Entry). next_of l) p.sealed ∙ ap (λ (l : List Entry). next_of (old ++ l)) done ∙ new_next in
          let long : length ps ≡ length (points_of t a.files) + 1 = length-append (points_of t a.files) (level_point t a bytes ∷ []) in record {
            count = length ps;
            enough = omega (arith, long);
            within = omega arith;
            is = now ∙ sym (take_all (length ps) ps (omega arith));
            not_fallen = omega (arith, up);
            not_risen = omega (arith, up);
            whole = whole_there;
          }
    ]

  pub level_leaves : (later : Clock Left) → Runs a.clock later (Planned t es a.files) → LeavesLevel t a bytes later
  level_leaves later runs = runs_weaken runs (λ x p. prefix x (subst (λ (l : List Entry). Planned t l a.files x) c.is p) (subst t.found read.2 (r.found read.0 read.1)))

  module _ (b : State) (entries : t.entries b.files ≡ old ++ es) (above : (g : ℕ) → 20000 < g → b.files g ≡ a.files g) (empty : b.waiting ≡ []) where
    ends : t.entries b.files ≡ old ++ all
    ends = entries ∙ ap (λ (l : List Entry). old ++ l) c.is

    later_may : MayRun t.first (t.entries b.files) (t.dumps b.files) base_ (stored_of b.files)
    later_may = subst (λ (l : List Entry). MayRun t.first l (t.dumps b.files) base_ (stored_of b.files)) (sym ends)
        (subst (λ (d : Dumps). MayRun t.first (old ++ all) d base_ (stored_of b.files)) (sym (telling.dumps_between b.files a.files (λ g up below. above g up)))
        (subst (λ (st : Stored). MayRun t.first (old ++ all) (t.dumps a.files) base_ st) (sym (blocks_same b.files a.files above)) whole))

    now_is : entries_now t b ≡ old ++ all
    now_is = ap (λ (l : List Entry). t.entries b.files ++ l) empty ∙ append_none (t.entries b.files) ∙ ends

    pub level_runs : t.found b.files → Only b.files b.clock → IsRunning t b
    level_runs found alone = still_runs t b base_ found alone empty later_may

    pub level_same : content_now t b ≡ content_now t a
    level_same =
        content_of t b (old ++ all) (stored_of a.files) (t.dumps a.files) base_ now_is (blocks_same b.files a.files above) whole
        ∙ level_content t.first old (t.dumps a.files) base_ (stored_of a.files) n_ c.first c.rest counts may (omega arith) low each_count each_stands
        ∙ sym told

    pub level_adds : points_now t b ≡ points_now t a ++ level_point t a bytes ∷ []
    level_adds =
        (λ i. points_told (telling.dumps_between b.files a.files (λ g up below. above g up) i) (now_is i) (blocks_same b.files a.files above i))
        ∙ new_points ∙ ap (λ (l : List Entry). points_told (t.dumps a.files) l (stored_of a.files) ++ level_point t a bytes ∷ []) (sym old_is)

    pub level_rises : next_now t b ≡ next_now t a + 1
    level_rises = ap (λ (l : List Entry). next_of l) now_is ∙ new_next ∙ ap (λ (l : List Entry). next_of l + 1) (sym old_is)
