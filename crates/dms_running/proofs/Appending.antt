-- An Image or a quiet point is appended, and what waits is sealed.
use Rattle.std.proofs.Common.{ℕ, ◌-◌, ◌+◌, ◌^◌, ◌≤◌, ◌<◌, ◌≡◌, List, [], ◌∷◌, ◌++◌, map, length, take, true, refl, sym, ◌∙◌, ap, subst, arith, append_assoc, length-append, Option}
use Rattle.std.proofs.lemmas.List.{map-append}
use Rattle.dms_moments.specs.Moments.{Clock, Now, Steps}
use Rattle.dms_site.specs.Files.{Files, Left, stored_of}
use Rattle.dms_history.specs.Events.{BlockBytes, AllBlocks, Stored, Event, change, quiet, block_in}
use Rattle.dms_history.specs.Replay.{TellsBefore, with_block}
use Rattle.dms_history.specs.Base.{from_control, Sound}
use Rattle.dms_history.specs.Pick.{Dumps, blocks_at}
use Rattle.dms_history.specs.History.{next_number}
use Rattle.dms_history.specs.Points.{LivePoint, numbers_from, live_numbers, point_at, live_points}
use Rattle.dms_history.specs.Entries.{Entry, image, byte_range, quiet_point}
use Rattle.dms_history.specs.Lists.{has, after_last}
use Rattle.dms_history.specs.Ranges.{patch_bytes, is_control_logged, is_image, live_logged}
use Rattle.dms_history.specs.EntryEvents.{history_of, events_in, events, live_of, next_of}
use Rattle.dms_history.specs.Kept.{content_told}
use Rattle.dms_history.proofs.Order.{append_none, next_steps}
use Rattle.dms_history.proofs.Sealed.{image_sealed, quiet_sealed}
use Rattle.dms_history.proofs.Listed.{points_front, numbers_append}
use Rattle.dms_running.specs.Telling.{Telling, IsTelling}
use Rattle.dms_running.proofs.FromDumps.{none_order}
use Rattle.dms_running.specs.Standing.{MayRun, IsWhole}
use Rattle.dms_running.specs.Points.{DescribedPoint, described_in, points_told, points_of, LeavesPointsPrefix}
use Rattle.dms_running.specs.Sealing.{SealsSome, Appended, AreSealed, Settled}
use Rattle.dms_running.specs.Running.{State, entries_now, next_now, points_now, durable_now, here_now, content_now, IsPlainEntry, count_live, IsRunning, IsAnOutcome, LeavesPoints}
use Rattle.dms_running.proofs.MayRun.{sound, points_are, may_image, content_image, live_image, may_range, content_range, live_range, changed, range_is, may_quiet, content_quiet, live_quiet, content_at, new_place_at, new_number, points_placed, other_dumps}
use Rattle.dms_running.proofs.Described.{described_on, described_new}
use Rattle.dms_running.proofs.Plain.{plain_push, push_all, take_whole}
use Rattle.dms_running.proofs.Stopped.{more_points, blocks_same, joined, whole_read, old_read, front_left, seals_leaves, append_runs, seal_runs}

-- the content that entries tell, where the files have these blocks
pub content_of : (t : Telling) (a : State) (xs : List Entry) (st : Stored) (d : Dumps) (base : AllBlocks) → entries_now t a ≡ xs → stored_of a.files ≡ st → MayRun t.first xs d base st → content_now t a ≡ content_told xs base
content_of t a xs st d base is blocks m =
    (λ i. blocks_at (live_of (is i) ++ quiet (next_of (is i)) ∷ []) (blocks i) (next_of (is i))) ∙ content_at t.first xs d base st m

-- the files of a database that runs hold it
pub running_whole : (t : Telling) (a : State) → IsRunning t a → IsAnOutcome a → IsWhole t a.files
running_whole t a r read =
    let m : MayRun t.first (t.entries a.files) (t.dumps a.files) r.base (stored_of a.files) =
    subst (λ (l : Files). MayRun t.first (t.entries a.files) (t.dumps l) r.base (stored_of l)) read.2
    (subst (λ (l : List Entry). MayRun t.first l (t.dumps read.0.files) r.base (stored_of read.0.files)) (append_none (t.entries a.files)) (r.each 0 read.0 read.1)) in
    record { found = subst t.found read.2 (r.found read.0 read.1); base = r.base; stands = m.stands; order = none_order (t.dump_found a.files) (t.dumps a.files) (history_of (t.entries a.files)).pending m.none }

-- ---- lists of points

image_numbers : (live : List Event) (f b : ℕ) (before : Option BlockBytes) (after : BlockBytes) → live_numbers (live ++ change f b before after ∷ []) ≡ live_numbers live
unfolding live_numbers
image_numbers live f b before after = numbers_append [] live (change f b before after ∷ []) ∙ append_none (numbers_from [] live)

quiet_numbers : (live : List Event) (n : ℕ) → numbers_from live (quiet n ∷ []) ≡ n ∷ [] → length (live_numbers (live ++ quiet n ∷ [])) ≡ length (live_numbers live) + 1
unfolding live_numbers
quiet_numbers live n new =
    ap (λ (l : List ℕ). length l) (numbers_append [] live (quiet n ∷ []) ∙ ap (λ (l : List ℕ). numbers_from [] live ++ l) new) ∙ length-append (numbers_from [] live) (n ∷ [])

module _ (t : Telling) (telling : IsTelling t) (a : State) (r : IsRunning t a) (read : IsAnOutcome a) where
  abbrev pub base : AllBlocks
  base = r.base

  abbrev pub all : List Entry
  all = entries_now t a

  pub now_runs : MayRun t.first all (t.dumps a.files) base (stored_of a.files)
  now_runs = whole_read t telling a a.waiting base r.settled r.found r.each r.plain r.counted read

  each_now : (x : Left) → Now a.clock x → MayRun t.first all (t.dumps x.files) base (stored_of x.files)
  each_now x now = subst (λ (l : List Entry). MayRun t.first (t.entries a.files ++ l) (t.dumps x.files) base (stored_of x.files)) (take_whole a.waiting) (r.each (length a.waiting) x now)

  pub content_is : content_now t a ≡ content_told all base
  content_is = content_at t.first all (t.dumps a.files) base (stored_of a.files) now_runs

  -- ---- one more entry waits

  module _ (e : Entry) (one : IsPlainEntry e) (each : (d : Dumps) (st : Stored) → MayRun t.first all d base st → MayRun t.first (all ++ e ∷ []) d base st)
      (counts : next_of (all ++ e ∷ []) + count_live all ≤ next_of all + count_live (all ++ e ∷ [])) where
    behind : all ++ e ∷ [] ≡ t.entries a.files ++ (a.waiting ++ e ∷ [])
    behind = append_assoc (t.entries a.files) a.waiting (e ∷ [])

    pushed : (k : ℕ) (x : Left) → Now a.clock x → MayRun t.first (t.entries a.files ++ take k (a.waiting ++ e ∷ [])) (t.dumps x.files) base (stored_of x.files)
    pushed k x now = push_all (λ l. MayRun t.first (t.entries a.files ++ l) (t.dumps x.files) base (stored_of x.files)) a.waiting e (λ j. r.each j x now)
        (subst (λ (l : List Entry). MayRun t.first l (t.dumps x.files) base (stored_of x.files)) behind (each (t.dumps x.files) (stored_of x.files) (each_now x now))) k

    count : (k : ℕ) → next_of (t.entries a.files ++ (a.waiting ++ e ∷ [])) + count_live (t.entries a.files ++ take k (a.waiting ++ e ∷ []))
        ≤ next_of (t.entries a.files ++ take k (a.waiting ++ e ∷ [])) + count_live (t.entries a.files ++ (a.waiting ++ e ∷ []))
    count k = push_all (λ l. next_of (t.entries a.files ++ (a.waiting ++ e ∷ [])) + count_live (t.entries a.files ++ l) ≤ next_of (t.entries a.files ++ l) + count_live (t.entries a.files ++ (a.waiting ++ e ∷ []))) a.waiting e
        (λ j. omega (arith, r.counted j, counts, ap (λ (l : List Entry). next_of l) behind, ap (λ (l : List Entry). count_live l) behind)) (omega arith) k

    pub push_leaves : (later : Clock Left) → Steps (SealsSome t (a.waiting ++ e ∷ [])) a.clock later → LeavesPoints t (points_told (t.dumps a.files) (all ++ e ∷ []) (stored_of a.files)) (next_of (all ++ e ∷ [])) a later
    push_leaves later steps = subst (λ (l : List Entry). LeavesPoints t (points_told (t.dumps a.files) l (stored_of a.files)) (next_of l) a later) (sym behind)
        (seals_leaves t telling a (a.waiting ++ e ∷ []) base r.settled r.found pushed (plain_push a.waiting e r.plain one) count read later steps)

    module _ (b : State) (more : Appended t (a.waiting ++ e ∷ []) a.files b.files b.waiting) where
      pub push_runs : Steps (SealsSome t (a.waiting ++ e ∷ [])) a.clock b.clock → Settled t b.files b.clock → IsRunning t b
      push_runs steps settles = append_runs t telling a (a.waiting ++ e ∷ []) base r.settled r.found pushed (plain_push a.waiting e r.plain one) count read b steps settles more

      pub push_entries : entries_now t b ≡ all ++ e ∷ []
      push_entries = joined t (a.waiting ++ e ∷ []) b.waiting a.files b.files more ∙ sym behind

      pub push_points : points_now t b ≡ points_told (t.dumps b.files) (all ++ e ∷ []) (stored_of a.files)
      push_points = λ i. points_told (t.dumps b.files) (push_entries i) (blocks_same b.files a.files more.above i)

  -- ---- an Image

  module _ (f k : ℕ) (before : Option BlockBytes) (after : BlockBytes) (tells : TellsBefore k before (content_now t a f)) (sized : length after ≡ 1024) where
    abbrev pub the_image : Entry
    the_image = image f k before after

    told : TellsBefore k before (content_told all base f)
    told = subst (λ (c : AllBlocks). TellsBefore k before (c f)) content_is tells

    each_image : (d : Dumps) (st : Stored) → MayRun t.first all d base st → MayRun t.first (all ++ the_image ∷ []) d base st
    each_image d st m = may_image t.first all d base st m f k before after told sized

    image_live : live_of (all ++ the_image ∷ []) ≡ live_of all ++ change f k before after ∷ []
    image_live = live_image t.first all (t.dumps a.files) base (stored_of a.files) now_runs f k before after told sized

    next_image : next_of (all ++ the_image ∷ []) ≡ next_of all
    next_image = ap next_number (image_sealed all f k before after) ∙ (next_steps (events all)).change f k before after

    count_image : count_live (all ++ the_image ∷ []) ≡ count_live all
    count_image = ap (λ (l : List ℕ). length l) (ap live_numbers image_live ∙ image_numbers (live_of all) f k before after)

    counts_image : next_of (all ++ the_image ∷ []) + count_live all ≤ next_of all + count_live (all ++ the_image ∷ [])
    counts_image = omega (arith, next_image, count_image)

    points_image : (d : Dumps) → points_told d (all ++ the_image ∷ []) (stored_of a.files) ≡ points_now t a
    points_image d =
        let st = stored_of a.files in
        let m : MayRun t.first (all ++ the_image ∷ []) d base st = each_image_at d in
        points_are t.first (all ++ the_image ∷ []) d base st m
        ∙ ap (λ (l : List LivePoint). map (described_in (all ++ the_image ∷ [])) l) (ap (λ (l : List Event). live_points l st) image_live
        ∙ points_front (live_of all) (change f k before after ∷ []) base st st (sound t.first all (t.dumps a.files) base st now_runs) (subst (λ (l : List Event). Sound (from_control l) base st) image_live (sound t.first (all ++ the_image ∷ []) d base st m))
        ∙ append_none (live_points (live_of all) st))
        ∙ described_on all (the_image ∷ []) (refl, tt) (live_points (live_of all) st) (points_placed t.first all (t.dumps a.files) base st now_runs)
        ∙ sym (points_are t.first all (t.dumps a.files) base st now_runs)
      where
        each_image_at : (d : Dumps) → MayRun t.first (all ++ the_image ∷ []) d base (stored_of a.files)
        each_image_at d = each_image d (stored_of a.files) (other_dumps t.first all (t.dumps a.files) base (stored_of a.files) now_runs d)

    pub log_leaves : (later : Clock Left) → Steps (SealsSome t (a.waiting ++ the_image ∷ [])) a.clock later → LeavesPoints t (points_now t a) (next_now t a) a later
    log_leaves later steps = subst (λ (l : List DescribedPoint). LeavesPoints t l (next_now t a) a later) (points_image (t.dumps a.files))
        (subst (λ n. LeavesPoints t (points_told (t.dumps a.files) (all ++ the_image ∷ []) (stored_of a.files)) n a later) next_image (push_leaves the_image tt each_image counts_image later steps))

    module _ (b : State) (more : Appended t (a.waiting ++ the_image ∷ []) a.files b.files b.waiting) where
      pub log_runs : Steps (SealsSome t (a.waiting ++ the_image ∷ [])) a.clock b.clock → Settled t b.files b.clock → IsRunning t b
      log_runs steps settles = push_runs the_image tt each_image counts_image b more steps settles

      pub log_next : next_now t b ≡ next_now t a
      log_next = ap (λ (l : List Entry). next_of l) (push_entries the_image tt each_image counts_image b more) ∙ next_image

      pub log_points : points_now t b ≡ points_now t a
      log_points = push_points the_image tt each_image counts_image b more ∙ points_image (t.dumps b.files)

      pub log_content : content_now t b ≡ with_block (content_now t a) f k after
      log_content =
          content_of t b (all ++ the_image ∷ []) (stored_of a.files) (t.dumps a.files) base (push_entries the_image tt each_image counts_image b more) (blocks_same b.files a.files more.above) (each_image (t.dumps a.files) (stored_of a.files) now_runs)
          ∙ content_image t.first all (t.dumps a.files) base (stored_of a.files) now_runs f k before after told sized ∙ ap (λ (c : AllBlocks). with_block c f k after) (sym content_is)

  -- ---- a Range

  module _ (f k place : ℕ) (bytes : List ℕ) (itself : has (is_image f k) (after_last is_control_logged (live_logged [] (events_in all))) ≡ true) (within : place + length bytes ≤ 1024) where
    abbrev pub the_range : Entry
    the_range = byte_range f k place bytes

    each_range : (d : Dumps) (st : Stored) → MayRun t.first all d base st → MayRun t.first (all ++ the_range ∷ []) d base st
    each_range d st m = may_range t.first all d base st m f k place bytes itself within

    abbrev ranged : Event
    ranged = changed t.first all (t.dumps a.files) base (stored_of a.files) now_runs f k place bytes itself within

    range_live : live_of (all ++ the_range ∷ []) ≡ live_of all ++ ranged ∷ []
    range_live = live_range t.first all (t.dumps a.files) base (stored_of a.files) now_runs f k place bytes itself within

    next_range : next_of (all ++ the_range ∷ []) ≡ next_of all
    next_range = ap next_number (range_is t.first all (t.dumps a.files) base (stored_of a.files) now_runs f k place bytes itself within) ∙ (next_steps (events all)).change f k _ _

    count_range : count_live (all ++ the_range ∷ []) ≡ count_live all
    count_range = ap (λ (l : List ℕ). length l) (ap live_numbers range_live ∙ image_numbers (live_of all) f k _ _)

    counts_range : next_of (all ++ the_range ∷ []) + count_live all ≤ next_of all + count_live (all ++ the_range ∷ [])
    counts_range = omega (arith, next_range, count_range)

    points_range : (d : Dumps) → points_told d (all ++ the_range ∷ []) (stored_of a.files) ≡ points_now t a
    points_range d =
        let st = stored_of a.files in
        let m : MayRun t.first (all ++ the_range ∷ []) d base st = each_range_at d in
        points_are t.first (all ++ the_range ∷ []) d base st m
        ∙ ap (λ (l : List LivePoint). map (described_in (all ++ the_range ∷ [])) l) (ap (λ (l : List Event). live_points l st) range_live
        ∙ points_front (live_of all) (ranged ∷ []) base st st (sound t.first all (t.dumps a.files) base st now_runs) (subst (λ (l : List Event). Sound (from_control l) base st) range_live (sound t.first (all ++ the_range ∷ []) d base st m))
        ∙ append_none (live_points (live_of all) st))
        ∙ described_on all (the_range ∷ []) (refl, tt) (live_points (live_of all) st) (points_placed t.first all (t.dumps a.files) base st now_runs)
        ∙ sym (points_are t.first all (t.dumps a.files) base st now_runs)
      where
        each_range_at : (d : Dumps) → MayRun t.first (all ++ the_range ∷ []) d base (stored_of a.files)
        each_range_at d = each_range d (stored_of a.files) (other_dumps t.first all (t.dumps a.files) base (stored_of a.files) now_runs d)

    pub range_leaves : (later : Clock Left) → Steps (SealsSome t (a.waiting ++ the_range ∷ [])) a.clock later → LeavesPoints t (points_now t a) (next_now t a) a later
    range_leaves later steps = subst (λ (l : List DescribedPoint). LeavesPoints t l (next_now t a) a later) (points_range (t.dumps a.files))
        (subst (λ n. LeavesPoints t (points_told (t.dumps a.files) (all ++ the_range ∷ []) (stored_of a.files)) n a later) next_range (push_leaves the_range tt each_range counts_range later steps))

    module _ (b : State) (more : Appended t (a.waiting ++ the_range ∷ []) a.files b.files b.waiting) where
      pub range_runs : Steps (SealsSome t (a.waiting ++ the_range ∷ [])) a.clock b.clock → Settled t b.files b.clock → IsRunning t b
      range_runs steps settles = push_runs the_range tt each_range counts_range b more steps settles

      pub range_next : next_now t b ≡ next_now t a
      range_next = ap (λ (l : List Entry). next_of l) (push_entries the_range tt each_range counts_range b more) ∙ next_range

      pub range_points : points_now t b ≡ points_now t a
      range_points = push_points the_range tt each_range counts_range b more ∙ points_range (t.dumps b.files)

      pub range_content : content_now t b ≡ with_block (content_now t a) f k (patch_bytes place bytes (block_in (content_now t a) f k))
      range_content =
          content_of t b (all ++ the_range ∷ []) (stored_of a.files) (t.dumps a.files) base (push_entries the_range tt each_range counts_range b more) (blocks_same b.files a.files more.above) (each_range (t.dumps a.files) (stored_of a.files) now_runs)
          ∙ content_range t.first all (t.dumps a.files) base (stored_of a.files) now_runs f k place bytes itself within
          ∙ ap (λ (c : AllBlocks). with_block c f k (patch_bytes place bytes (block_in c f k))) (sym content_is)

  -- ---- a quiet point

  module _ (room : next_now t a + 1 < 2 ^ 64) where
    abbrev pub the_quiet : Entry
    the_quiet = quiet_point (next_now t a)

    low : next_now t a < 2 ^ 64 - 1
    low = omega (arith, room)

    each_quiet : (d : Dumps) (st : Stored) → MayRun t.first all d base st → MayRun t.first (all ++ the_quiet ∷ []) d base st
    each_quiet d st m = may_quiet t.first all d base st m (next_now t a) (omega arith) low

    quiet_live : live_of (all ++ the_quiet ∷ []) ≡ live_of all ++ quiet (next_now t a) ∷ []
    quiet_live = live_quiet t.first all (t.dumps a.files) base (stored_of a.files) now_runs (next_now t a) (omega arith) low

    new_place : numbers_from (live_of all) (quiet (next_now t a) ∷ []) ≡ next_now t a ∷ []
    new_place = new_place_at t.first all (t.dumps a.files) base (stored_of a.files) now_runs (next_now t a) (omega arith)

    next_quiet : next_of (all ++ the_quiet ∷ []) ≡ next_of all + 1
    next_quiet = ap next_number (quiet_sealed all (next_now t a)) ∙ (next_steps (events all)).quiet (next_now t a) (omega arith) low

    count_quiet : count_live (all ++ the_quiet ∷ []) ≡ count_live all + 1
    count_quiet = ap (λ (l : List ℕ). length l) (ap live_numbers quiet_live) ∙ quiet_numbers (live_of all) (next_now t a) new_place

    counts_quiet : next_of (all ++ the_quiet ∷ []) + count_live all ≤ next_of all + count_live (all ++ the_quiet ∷ [])
    counts_quiet = omega (arith, next_quiet, count_quiet)

    points_quiet : (d : Dumps) → points_told d (all ++ the_quiet ∷ []) (stored_of a.files) ≡ points_now t a ++ here_now t a ∷ []
    points_quiet d =
        let st = stored_of a.files in
        let n = next_now t a in
        let m : MayRun t.first (all ++ the_quiet ∷ []) d base st = each_quiet d st (other_dumps t.first all (t.dumps a.files) base (stored_of a.files) now_runs d) in
        let old = live_points (live_of all) st in
        let new = point_at (live_of all ++ quiet n ∷ []) st n in
        points_are t.first (all ++ the_quiet ∷ []) d base st m
        ∙ ap (λ (l : List LivePoint). map (described_in (all ++ the_quiet ∷ [])) l) (ap (λ (l : List Event). live_points l st) quiet_live
        ∙ points_front (live_of all) (quiet n ∷ []) base st st (sound t.first all (t.dumps a.files) base st now_runs) (subst (λ (l : List Event). Sound (from_control l) base st) quiet_live (sound t.first (all ++ the_quiet ∷ []) d base st m))
        ∙ ap (λ (l : List ℕ). old ++ map (point_at (live_of all ++ quiet n ∷ []) st) l) new_place)
        ∙ map-append (described_in (all ++ the_quiet ∷ [])) old (new ∷ [])
        ∙ ap (λ (l : List DescribedPoint). l ++ described_in (all ++ the_quiet ∷ []) new ∷ [])
        (described_on all (the_quiet ∷ []) (refl, tt) old (points_placed t.first all (t.dumps a.files) base st now_runs) ∙ sym (points_are t.first all (t.dumps a.files) base st now_runs))
        ∙ ap (λ (p : DescribedPoint). points_now t a ++ p ∷ []) (described_new all new (new_number t.first all (t.dumps a.files) base st now_runs n (omega arith)))

    pub quiet_leaves : (later : Clock Left) → Steps (SealsSome t (a.waiting ++ the_quiet ∷ [])) a.clock later → LeavesPoints t (points_now t a ++ here_now t a ∷ []) (next_now t a + 1) a later
    quiet_leaves later steps = subst (λ (l : List DescribedPoint). LeavesPoints t l (next_now t a + 1) a later) (points_quiet (t.dumps a.files))
        (subst (λ n. LeavesPoints t (points_told (t.dumps a.files) (all ++ the_quiet ∷ []) (stored_of a.files)) n a later) next_quiet (push_leaves the_quiet tt each_quiet counts_quiet later steps))

    module _ (b : State) (more : Appended t (a.waiting ++ the_quiet ∷ []) a.files b.files b.waiting) where
      pub quiet_runs : Steps (SealsSome t (a.waiting ++ the_quiet ∷ [])) a.clock b.clock → Settled t b.files b.clock → IsRunning t b
      quiet_runs steps settles = push_runs the_quiet tt each_quiet counts_quiet b more steps settles

      pub quiet_next : next_now t b ≡ next_now t a + 1
      quiet_next = ap (λ (l : List Entry). next_of l) (push_entries the_quiet tt each_quiet counts_quiet b more) ∙ next_quiet

      pub quiet_points : points_now t b ≡ points_now t a ++ here_now t a ∷ []
      quiet_points = push_points the_quiet tt each_quiet counts_quiet b more ∙ points_quiet (t.dumps b.files)

      pub quiet_content : content_now t b ≡ content_now t a
      quiet_content =
          content_of t b (all ++ the_quiet ∷ []) (stored_of a.files) (t.dumps a.files) base (push_entries the_quiet tt each_quiet counts_quiet b more) (blocks_same b.files a.files more.above) (each_quiet (t.dumps a.files) (stored_of a.files) now_runs)
          ∙ content_quiet t.first all (t.dumps a.files) base (stored_of a.files) now_runs (next_now t a) (omega arith) low ∙ sym content_is

  -- ---- what waits is sealed

  pub sync_leaves : (later : Clock Left) → Steps (SealsSome t a.waiting) a.clock later → LeavesPoints t (points_now t a) (next_now t a) a later
  sync_leaves later steps = seals_leaves t telling a a.waiting base r.settled r.found r.each r.plain r.counted read later steps

  module _ (b : State) (sealed : AreSealed t a.waiting a.files b.files) (none : b.waiting ≡ []) where
    pub sync_runs : Steps (SealsSome t a.waiting) a.clock b.clock → Settled t b.files b.clock → IsRunning t b
    sync_runs steps settles = seal_runs t telling a a.waiting base r.settled r.found r.each r.plain r.counted read b steps settles sealed none

    pub sync_entries : entries_now t b ≡ entries_now t a
    sync_entries = ap (λ (l : List Entry). t.entries b.files ++ l) none ∙ append_none (t.entries b.files) ∙ sealed.sealed

    blocks : stored_of b.files ≡ stored_of a.files
    blocks = blocks_same b.files a.files sealed.above

    dumps : t.dumps b.files ≡ t.dumps a.files
    dumps = telling.dumps_between b.files a.files (λ g above below. sealed.above g above)

    pub sync_points : points_now t b ≡ points_now t a
    sync_points = λ i. points_told (dumps i) (sync_entries i) (blocks i)

    pub sync_durable : durable_now t b ≡ length (points_now t a)
    sync_durable = λ i. length (points_told (dumps i) (sealed.sealed i) (blocks i))

    pub sync_next : next_now t b ≡ next_now t a
    sync_next = ap (λ (l : List Entry). next_of l) sync_entries

    pub sync_content : content_now t b ≡ content_now t a
    sync_content = content_of t b all (stored_of a.files) (t.dumps a.files) base sync_entries blocks now_runs ∙ sym content_is

    pub sync_surer : durable_now t a ≤ durable_now t b
    sync_surer =
        let now = old_read t telling a a.waiting base r.settled r.found r.each r.plain r.counted read in
        let more = more_points t.first (t.entries a.files) a.waiting (t.dumps a.files) (t.dumps a.files) base (stored_of a.files) (stored_of a.files) r.plain now now_runs in
        omega (arith, sync_durable, ap (λ (l : List DescribedPoint). length l) more.1, length-append (points_of t a.files) more.0)

-- not fewer points than are durable
pub points_enough : (t : Telling) (telling : IsTelling t) (a : State) → IsRunning t a → IsAnOutcome a → durable_now t a ≤ length (points_now t a)
points_enough t telling a r read =
    let now = old_read t telling a a.waiting r.base r.settled r.found r.each r.plain r.counted read in
    let more = more_points t.first (t.entries a.files) a.waiting (t.dumps a.files) (t.dumps a.files) r.base (stored_of a.files) (stored_of a.files) r.plain now (now_runs t telling a r read) in
    omega (arith, ap (λ (l : List DescribedPoint). length l) more.1, length-append (points_of t a.files) more.0)

-- a stop now leaves a prefix of the points
pub now_leaves : (t : Telling) (telling : IsTelling t) (a : State) → IsRunning t a → IsAnOutcome a → (x : Left) → Now a.clock x → LeavesPointsPrefix t (points_now t a) (durable_now t a) (next_now t a) x
now_leaves t telling a r read x now =
    front_left t telling a a.waiting r.base r.settled r.found r.each r.plain r.counted read 0 x (r.found x now) (r.settled x now ∙ sym (append_none (t.entries a.files))) (r.each 0 x now)
