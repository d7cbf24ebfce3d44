-- What a stop leaves while entries are appended and sealed.
use Rattle.std.proofs.Common.{ℕ, ◌+◌, ◌≤◌, ◌<◌, ◌≡◌, Bool, List, [], ◌++◌, map, length, take, drop, refl, sym, ◌∙◌, ap, subst, arith, append_assoc, length-append}
use Rattle.std.proofs.lemmas.List.{take_at, length-map, map-append}
use Rattle.std.proofs.Math.Seq.{take-add}
use Rattle.dms_moments.specs.Moments.{Clock, Now, Steps}
use Rattle.dms_moments.specs.MomentLaws.{runs_weaken}
use Rattle.dms_site.specs.Files.{Files, Left, stored_of}
use Rattle.dms_site.specs.StoredLaws.{stored_same}
use Rattle.dms_history.specs.Events.{AllBlocks, Stored, Event}
use Rattle.dms_history.specs.Base.{from_control, Sound}
use Rattle.dms_history.specs.Pick.{Dumps}
use Rattle.dms_history.specs.Points.{LivePoint, numbers_from, live_numbers, point_at, live_points}
use Rattle.dms_history.specs.Entries.{Entry}
use Rattle.dms_history.specs.EntryEvents.{history_of, live_of, next_of}
use Rattle.dms_history.proofs.Order.{append_none}
use Rattle.dms_history.proofs.Listed.{points_front}
use Rattle.dms_running.proofs.FromDumps.{none_order}
use Rattle.dms_running.specs.Telling.{Telling, IsTelling}
use Rattle.dms_running.specs.Standing.{Stands, MayRun}
use Rattle.dms_running.specs.Points.{DescribedPoint, described_in, points_told, points_of, LeavesPointsPrefix}
use Rattle.dms_running.specs.Sealing.{SealsSome, Appended, AreSealed, Settled}
use Rattle.dms_running.specs.Running.{State, entries_now, AllPlain, count_live, IsRunning, IsAnOutcome, LeavesPoints}
use Rattle.dms_running.proofs.Described.{plain_on, described_on}
use Rattle.dms_running.proofs.MayRun.{sound, points_are, points_placed}
use Rattle.dms_running.proofs.Plain.{plain_grows, plain_drop, plain_take, plain_rises, take_whole, split_behind}
use Rattle.dms_history.proofs.SchemaParts.{take_nothing}

-- how many points there are
pub count_points : (live : List Event) (counted : Stored) → length (live_points live counted) ≡ length (live_numbers live)
unfolding live_points
count_points live counted = length-map (live_numbers live) (point_at live counted)

pub count_told : (first : Bool) (es : List Entry) (d : Dumps) (base : AllBlocks) (st : Stored) → MayRun first es d base st → length (points_told d es st) ≡ count_live es
count_told first es d base st m =
    ap (λ (l : List DescribedPoint). length l) (points_are first es d base st m) ∙ length-map (live_points (live_of es) st) (described_in es) ∙ count_points (live_of es) st

-- the points of more entries begin with those of the first ones
pub more_points : (first : Bool) (xs ys : List Entry) (d e : Dumps) (base : AllBlocks) (one two : Stored) → AllPlain ys → MayRun first xs d base one → MayRun first (xs ++ ys) e base two
    → (rest : List DescribedPoint) × (points_told e (xs ++ ys) two ≡ points_told d xs one ++ rest)
more_points first xs ys d e base one two plain before after =
    let grown = plain_grows xs ys plain in
    let more = map (point_at (live_of xs ++ grown.more) two) (numbers_from (live_of xs) grown.more) in
    let old = live_points (live_of xs) one in
    let rest = map (described_in (xs ++ ys)) more in (
      rest,
      points_are first (xs ++ ys) e base two after
          ∙ ap (λ (l : List LivePoint). map (described_in (xs ++ ys)) l) (ap (λ (l : List Event). live_points l two) grown.live
          ∙ points_front (live_of xs) grown.more base one two (sound first xs d base one before) (subst (λ (l : List Event). Sound (from_control l) base two) grown.live (sound first (xs ++ ys) e base two after)))
          ∙ map-append (described_in (xs ++ ys)) old more
          ∙ ap (λ (l : List DescribedPoint). l ++ rest) (described_on xs ys (plain_on ys plain) old (points_placed first xs d base one before) ∙ sym (points_are first xs d base one before)),
    )

-- files that agree above 20,000 hold the same blocks and dumps
pub blocks_same : (x y : Files) → ((g : ℕ) → 20000 < g → x g ≡ y g) → stored_of x ≡ stored_of y
blocks_same x y same = stored_same x y (λ g above. same g (omega (arith, above)))

pub joined : (t : Telling) (es waiting : List Entry) (old new : Files) → Appended t es old new waiting → t.entries new ++ waiting ≡ t.entries old ++ es
joined t es waiting old new a = (λ i. a.sealed i ++ a.rest i) ∙ split_behind (t.entries old) es a.some

module _ (t : Telling) (telling : IsTelling t) (a : State) (es : List Entry) (base : AllBlocks) (settled : Settled t a.files a.clock) (finds : (x : Left) → Now a.clock x → t.found x.files)
    (each : (k : ℕ) (x : Left) → Now a.clock x → MayRun t.first (t.entries a.files ++ take k es) (t.dumps x.files) base (stored_of x.files)) (plain : AllPlain es)
    (counted : (k : ℕ) → next_of (t.entries a.files ++ es) + count_live (t.entries a.files ++ take k es) ≤ next_of (t.entries a.files ++ take k es) + count_live (t.entries a.files ++ es)) (read : IsAnOutcome a) where
  abbrev pub old : List Entry
  old = t.entries a.files

  pub each_read : (k : ℕ) → MayRun t.first (old ++ take k es) (t.dumps a.files) base (stored_of a.files)
  each_read k = subst (λ (l : Files). MayRun t.first (old ++ take k es) (t.dumps l) base (stored_of l)) read.2 (each k read.0 read.1)

  pub whole_read : MayRun t.first (old ++ es) (t.dumps a.files) base (stored_of a.files)
  whole_read = subst (λ (l : List Entry). MayRun t.first (old ++ l) (t.dumps a.files) base (stored_of a.files)) (take_whole es) (each_read (length es))

  pub old_read : MayRun t.first old (t.dumps a.files) base (stored_of a.files)
  old_read = subst (λ (l : List Entry). MayRun t.first l (t.dumps a.files) base (stored_of a.files)) (append_none old) (each_read 0)

  -- a stop leaves so many of the entries more: a prefix of the points
  pub front_left : (k : ℕ) (x : Left) → t.found x.files → t.entries x.files ≡ old ++ take k es → MayRun t.first (old ++ take k es) (t.dumps x.files) base (stored_of x.files)
      → LeavesPointsPrefix t (points_told (t.dumps a.files) (old ++ es) (stored_of a.files)) (length (points_of t a.files)) (next_of (old ++ es)) x
  front_left k x found is here =
      let part = points_told (t.dumps x.files) (old ++ take k es) (stored_of x.files) in
      let all = points_told (t.dumps a.files) (old ++ es) (stored_of a.files) in
      let same : points_of t x.files ≡ part = ap (λ (l : List Entry). points_told (t.dumps x.files) l (stored_of x.files)) is in
      let more = more_points t.first (old ++ take k es) (drop k es) (t.dumps x.files) (t.dumps a.files) base (stored_of x.files) (stored_of a.files) (plain_drop k es plain) here
      (subst (λ (l : List Entry). MayRun t.first l (t.dumps a.files) base (stored_of a.files)) (sym (split_behind old es k)) whole_read) in
      let halves : all ≡ part ++ more.0 = ap (λ (l : List Entry). points_told (t.dumps a.files) l (stored_of a.files)) (sym (split_behind old es k)) ∙ more.1 in
      let less = more_points t.first old (take k es) (t.dumps a.files) (t.dumps x.files) base (stored_of a.files) (stored_of x.files) (plain_take k es plain) old_read here in
      record {
        count = length part;
        enough = omega (arith, ap (λ (l : List DescribedPoint). length l) less.1, length-append (points_of t a.files) less.0);
        within = omega (arith, ap (λ (l : List DescribedPoint). length l) halves, length-append part more.0);
        is = same ∙ sym (take_at part more.0 (length part) refl) ∙ ap (λ (l : List DescribedPoint). take (length part) l) (sym halves);
        not_fallen = omega (
          arith,
          counted k,
          ap (λ (l : List Entry). next_of l) is,
          count_told t.first (old ++ take k es) (t.dumps x.files) base (stored_of x.files) here,
          count_told t.first (old ++ es) (t.dumps a.files) base (stored_of a.files) whole_read,
        );
        not_risen = omega (arith, ap (λ (l : List Entry). next_of l) is, plain_rises (old ++ take k es) (drop k es) (plain_drop k es plain), ap (λ (l : List Entry). next_of l) (split_behind old es k));
        whole = record { found = found; base = base; stands = subst (λ (l : List Entry). Stands t.first l (t.dumps x.files) base (stored_of x.files)) (sym is) here.stands; order = none_order (t.dump_found x.files) (t.dumps x.files) (history_of (t.entries x.files)).pending (ap (λ (l : List Entry). (history_of l).pending) is ∙ here.none) };
      }

  -- what stands after so many of the entries were sealed
  pub sealed_each : (y x : Left) (s : SealsSome t es y x) → Now a.clock y → (k : ℕ) → MayRun t.first (old ++ take k es) (t.dumps x.files) base (stored_of x.files)
  sealed_each y x s now k =
      subst (λ (d : Dumps). MayRun t.first (old ++ take k es) d base (stored_of x.files)) (sym (telling.dumps_between x.files y.files (λ g above below. s.above g above)))
      (subst (λ (st : Stored). MayRun t.first (old ++ take k es) (t.dumps y.files) base st) (sym (blocks_same x.files y.files s.above)) (each k y now))

  pub sealed_is : (y x : Left) (s : SealsSome t es y x) → Now a.clock y → t.entries x.files ≡ old ++ take s.some es
  sealed_is y x s now = s.sealed ∙ ap (λ (l : List Entry). l ++ take s.some es) (settled y now)

  pub seals_leaves : (later : Clock Left) → Steps (SealsSome t es) a.clock later → LeavesPoints t (points_told (t.dumps a.files) (old ++ es) (stored_of a.files)) (next_of (old ++ es)) a later
  seals_leaves later steps = runs_weaken steps.runs (λ x after. let s = after.2 in front_left s.some x (s.found (finds after.0 after.1)) (sealed_is after.0 x s after.1) (sealed_each after.0 x s after.1 s.some))

  pub append_runs : (b : State) → Steps (SealsSome t es) a.clock b.clock → Settled t b.files b.clock → Appended t es a.files b.files b.waiting → IsRunning t b
  append_runs b steps settles more =
      let joins : (k : ℕ) → old ++ take (more.some + k) es ≡ t.entries b.files ++ take k b.waiting = λ k.
      ap (λ (l : List Entry). old ++ l) (take-add more.some k es) ∙ sym (append_assoc old (take more.some es) (take k (drop more.some es))) ∙ (λ i. sym more.sealed i ++ take k (sym more.rest i)) in
      let all : old ++ es ≡ entries_now t b = sym (joined t es b.waiting a.files b.files more) in
      record {
        base = base;
        settled = settles;
        found = λ x now. let after = steps.follows x now in after.2.found (finds after.0 after.1);
        each = λ k x now.
            let after = steps.follows x now in
            subst (λ (l : List Entry). MayRun t.first l (t.dumps x.files) base (stored_of x.files)) (joins k) (sealed_each after.0 x after.2 after.1 (more.some + k));
        plain = subst AllPlain (sym more.rest) (plain_drop more.some es plain);
        counted = λ k. subst (λ (l : List Entry). next_of l + count_live (t.entries b.files ++ take k b.waiting) ≤ next_of (t.entries b.files ++ take k b.waiting) + count_live l) all
            (subst (λ (l : List Entry). next_of (old ++ es) + count_live l ≤ next_of l + count_live (old ++ es)) (joins k) (counted (more.some + k)));
      }

  pub seal_runs : (b : State) → Steps (SealsSome t es) a.clock b.clock → Settled t b.files b.clock → AreSealed t es a.files b.files → b.waiting ≡ [] → IsRunning t b
  seal_runs b steps settles all none =
      let joins : (k : ℕ) → old ++ take (length es) es ≡ t.entries b.files ++ take k b.waiting = λ k.
      ap (λ (l : List Entry). old ++ l) (take_whole es) ∙ sym all.sealed ∙ sym (append_none (t.entries b.files)) ∙ ap (λ (l : List Entry). t.entries b.files ++ l) (sym (take_nothing k b.waiting none)) in
      let now_is : (k : ℕ) → entries_now t b ≡ t.entries b.files ++ take k b.waiting = λ k. ap (λ (l : List Entry). t.entries b.files ++ l) (none ∙ sym (take_nothing k b.waiting none)) in
      record {
        base = base;
        settled = settles;
        found = λ x now. let after = steps.follows x now in after.2.found (finds after.0 after.1);
        each = λ k x now.
            let after = steps.follows x now in
            subst (λ (l : List Entry). MayRun t.first l (t.dumps x.files) base (stored_of x.files)) (joins k) (sealed_each after.0 x after.2 after.1 (length es));
        plain = subst AllPlain (sym none) tt;
        counted = λ k. omega (arith, ap (λ (l : List Entry). next_of l) (now_is k), ap (λ (l : List Entry). count_live l) (now_is k));
      }
