-- A structure block is written early, torn or whole.
use Rattle.std.proofs.Common.{ℕ, ◌+◌, ◌*◌, ◌≤◌, ◌<◌, ◌≡◌, inl, inr, true, false, List, [], ◌∷◌, ◌++◌, map, length, take, None, refl, sym, ◌∙◌, ap, subst, arith, append_assoc}
use Rattle.dms_moments.specs.Moments.{Clock, Now, Steps}
use Rattle.dms_moments.specs.MomentLaws.{runs_weaken, runs_on}
use Rattle.dms_site.specs.Files.{Left, InFile, Torn, OnDisk, stored_of}
use Rattle.dms_site.specs.StoredLaws.{stored_whole, stored_apart}
use Rattle.dms_history.specs.Events.{AllBlocks, Event}
use Rattle.dms_history.specs.Lists.{has, after_last}
use Rattle.dms_history.specs.Places.{is_control}
use Rattle.dms_history.specs.Images.{last_after}
use Rattle.dms_history.specs.Base.{opening, from_control}
use Rattle.dms_history.specs.Points.{LivePoint}
use Rattle.dms_history.specs.Entries.{Entry}
use Rattle.dms_history.specs.EntryEvents.{live_of, next_of}
use Rattle.dms_history.specs.Kept.{content_told}
use Rattle.dms_history.proofs.Picks.{or_none, last_append, option_cases}
use Rattle.dms_history.proofs.AtPoints.{or_no, suffix_none}
use Rattle.dms_history.proofs.Base.{parts, after_behind}
use Rattle.dms_history.proofs.Converse.{logged_below}
use Rattle.dms_history.proofs.Given.{from_has}
use Rattle.dms_history.proofs.Order.{append_none}
use Rattle.dms_history.proofs.Runs.{after_push}
use Rattle.dms_history.proofs.Listed.{points_stay}
use Rattle.dms_running.specs.Telling.{Telling, IsTelling}
use Rattle.dms_running.specs.Standing.{MayRun}
use Rattle.dms_running.specs.Points.{DescribedPoint, described_in, points_told, LeavesPointsPrefix}
use Rattle.dms_running.specs.Running.{State, entries_now, next_now, points_now, durable_now, content_now, count_live, IsRunning, IsAnOutcome, LeavesPoints, IsLogged, AllPlain}
use Rattle.dms_running.proofs.MayRun.{sound, has_one, points_are, content_sized, may_write, other_dumps}
use Rattle.dms_running.proofs.Plain.{plain_grows, plain_take}
use Rattle.dms_running.proofs.Stopped.{front_left, old_read, count_told}
use Rattle.dms_running.proofs.Appending.{content_of, now_runs, content_is}

-- ---- blocks with a change since the last Control

after_more : (xs more : List Event) → has is_control more ≡ false → after_last is_control (xs ++ more) ≡ after_last is_control xs ++ more
after_more xs [] off = ap (λ (l : List Event). after_last is_control l) (append_none xs) ∙ sym (append_none (after_last is_control xs))
after_more xs (e ∷ more) off =
    let both = or_no (is_control e) (has is_control more) off in
    ap (λ (l : List Event). after_last is_control l) (sym (append_assoc xs (e ∷ []) more)) ∙ after_more (xs ++ e ∷ []) more both.1
    ∙ ap (λ (l : List Event). l ++ more) (after_push is_control xs e both.0) ∙ append_assoc (after_last is_control xs) (e ∷ []) more

pub after_from : (es : List Event) → has is_control es ≡ true → after_last is_control (from_control es) ≡ after_last is_control es
after_from es found = sym (after_behind is_control (opening es) (from_control es) (from_has es found)) ∙ ap (λ (l : List Event). after_last is_control l) (parts es)

module _ (t : Telling) (telling : IsTelling t) (a : State) (r : IsRunning t a) (read : IsAnOutcome a) (f b : ℕ) (structure : 30000 < f) (logged : IsLogged t a.files f b) where
  abbrev pub base : AllBlocks
  base = r.base

  abbrev pub entries : ℕ → List Entry
  entries k = t.entries a.files ++ take k a.waiting

  -- it has a change in each longer list too
  still : (k : ℕ) (y : Left) → Now a.clock y → last_after f b (after_last is_control (from_control (live_of (entries k)))) ≡ None → ⊥
  still k y now none =
      let grown = plain_grows (t.entries a.files) (take k a.waiting) (plain_take k a.waiting r.plain) in
      let m = r.each k y now in
      let all : after_last is_control (from_control (live_of (entries k))) ≡ after_last is_control (live_of (t.entries a.files)) ++ grown.more =
      after_from (live_of (entries k)) (has_one t.first (entries k) (t.dumps y.files) base (stored_of y.files) m)
      ∙ ap (λ (l : List Event). after_last is_control l) grown.live ∙ after_more (live_of (t.entries a.files)) grown.more grown.no_control in
      logged (or_none (last_after f b grown.more) (last_after f b (after_last is_control (live_of (t.entries a.files))))
      (sym (last_append (after_last is_control (live_of (t.entries a.files))) grown.more f b) ∙ ap (λ (l : List Event). last_after f b l) (sym all) ∙ none)).1

  -- and so is below its file's count
  below : (k : ℕ) (y : Left) → Now a.clock y → b < length (content_told (entries k) base f)
  below k y now =
      let s = sound t.first (entries k) (t.dumps y.files) base (stored_of y.files) (r.each k y now) in
      elim (option_cases (last_after f b (from_control (live_of (entries k))))) [
        | inl none ↦ absurd (still k y now (suffix_none is_control (from_control (live_of (entries k))) f b none))
        | inr some ↦ logged_below (from_control (live_of (entries k))) base f b some.0 s.chain some.1
      ]

  module _ (y x : Left) (now : Now a.clock y) (step : OnDisk f (Torn (1024 * b) 1024) y x) where
    others : (k g c : ℕ) → c < length (content_told (entries k) base g) → last_after g c (after_last is_control (from_control (live_of (entries k)))) ≡ None → stored_of x.files g c ≡ stored_of y.files g c
    others k g c low none =
        let m = r.each k y now in
        let s = sound t.first (entries k) (t.dumps y.files) base (stored_of y.files) m in
        let sized : length (stored_of y.files g c) ≡ 1024 = ap length (s.stands g c low none) ∙ content_sized t.first (entries k) (t.dumps y.files) base (stored_of y.files) m g c low in
        let whole = stored_whole y.files g c sized in
        stored_apart y.files x.files f b g c step.files
        (λ same at. still k y now (subst (λ j. last_after f j (after_last is_control (from_control (live_of (entries k)))) ≡ None) at
        (subst (λ j. last_after j c (after_last is_control (from_control (live_of (entries k)))) ≡ None) same none)))
        (λ same less. subst (λ j. 1024 * c + 1024 ≤ length (y.files j)) same whole.1)

    low_same : (g : ℕ) → g ≤ 30000 → x.files g ≡ y.files g
    low_same g le = step.files.others g (λ e. omega (arith, structure, le, e))

    pub early_entries : t.entries x.files ≡ t.entries a.files
    early_entries = telling.entries_low x.files y.files low_same ∙ r.settled y now

    pub early_found : t.found x.files
    early_found = telling.found_low x.files y.files low_same (r.found y now)

    pub early_may : (k : ℕ) → MayRun t.first (entries k) (t.dumps x.files) base (stored_of x.files)
    early_may k = other_dumps t.first (entries k) (t.dumps y.files) base (stored_of x.files)
        (may_write t.first (entries k) (t.dumps y.files) base (stored_of y.files) (r.each k y now) (stored_of x.files) (others k)) (t.dumps x.files)

  pub early_leaves : (later : Clock Left) → Steps (OnDisk f (Torn (1024 * b) 1024)) a.clock later → LeavesPoints t (points_now t a) (next_now t a) a later
  early_leaves later steps = runs_weaken steps.runs (λ x after.
      front_left t telling a a.waiting base r.settled r.found r.each r.plain r.counted read 0 x (early_found after.0 x after.1 after.2) (early_entries after.0 x after.1 after.2 ∙ sym (append_none (t.entries a.files))) (early_may after.0 x after.1 after.2 0))

  module _ (c : State) (waits : c.waiting ≡ a.waiting) (step : InFile f (Torn (1024 * b) 1024) a.files c.files) where
    pub later_entries : t.entries c.files ≡ t.entries a.files
    later_entries = telling.entries_low c.files a.files (λ g le. step.others g (λ e. omega (arith, structure, le, e)))

    pub later_all : entries_now t c ≡ entries_now t a
    later_all = λ i. later_entries i ++ waits i

    each_later : (k : ℕ) → t.entries c.files ++ take k c.waiting ≡ entries k
    each_later k = λ i. later_entries i ++ take k (waits i)

    pub early_next : next_now t c ≡ next_now t a
    early_next = ap (λ (l : List Entry). next_of l) later_all

    module _ (steps : Steps (OnDisk f (Torn (1024 * b) 1024)) a.clock c.clock) where
      pub early_runs : IsRunning t c
      early_runs = record {
        base = base;
        settled = λ x now. let after = steps.follows x now in early_entries after.0 x after.1 after.2 ∙ sym later_entries;
        found = λ x now. let after = steps.follows x now in early_found after.0 x after.1 after.2;
        each = λ k x now. let after = steps.follows x now in
            subst (λ (l : List Entry). MayRun t.first l (t.dumps x.files) base (stored_of x.files)) (sym (each_later k)) (early_may after.0 x after.1 after.2 k);
        plain = subst AllPlain (sym waits) r.plain;
        counted = λ k. subst (λ (l : List Entry). next_of l + count_live (t.entries c.files ++ take k c.waiting) ≤ next_of (t.entries c.files ++ take k c.waiting) + count_live l) (sym later_all)
            (subst (λ (l : List Entry). next_of (entries_now t a) + count_live l ≤ next_of l + count_live (entries_now t a)) (sym (each_later k)) (r.counted k));
      }

      module _ (reads : IsAnOutcome c) where
        later_may : MayRun t.first (entries_now t a) (t.dumps c.files) base (stored_of c.files)
        unfolding early_runs
        later_may = subst (λ (l : List Entry). MayRun t.first l (t.dumps c.files) base (stored_of c.files)) later_all (now_runs t telling c early_runs reads)

        pub early_points : points_now t c ≡ points_now t a
        early_points =
            let one = now_runs t telling a r read in
            let all = entries_now t a in
            ap (λ (l : List Entry). points_told (t.dumps c.files) l (stored_of c.files)) later_all
            ∙ points_are t.first all (t.dumps c.files) base (stored_of c.files) later_may
            ∙ ap (λ (l : List LivePoint). map (described_in all) l)
            (points_stay (live_of all) base (stored_of a.files) (stored_of c.files) (sound t.first all (t.dumps a.files) base (stored_of a.files) one) (sound t.first all (t.dumps c.files) base (stored_of c.files) later_may))
            ∙ sym (points_are t.first all (t.dumps a.files) base (stored_of a.files) one)

        pub early_content : content_now t c ≡ content_now t a
        early_content = content_of t c (entries_now t a) (stored_of c.files) (t.dumps c.files) base later_all refl later_may ∙ sym (content_is t telling a r read)

        pub early_durable : durable_now t c ≡ durable_now t a
        early_durable =
            let one = old_read t telling a a.waiting r.base r.settled r.found r.each r.plain r.counted read in
            let two = old_read t telling c c.waiting early_runs.base early_runs.settled early_runs.found early_runs.each early_runs.plain early_runs.counted reads in
            count_told t.first (t.entries c.files) (t.dumps c.files) early_runs.base (stored_of c.files) two ∙ ap (λ (l : List Entry). count_live l) later_entries
            ∙ sym (count_told t.first (t.entries a.files) (t.dumps a.files) r.base (stored_of a.files) one)

-- a prefix of points of which more are durable, with the same next number
pub leaves_less : (t : Telling) (points later : List DescribedPoint) (durable more next up : ℕ) (x : Left) → later ≡ points → durable ≤ more → up ≡ next → LeavesPointsPrefix t later more up x → LeavesPointsPrefix t points durable next x
leaves_less t points later durable more next up x same le rise front = record {
  count = front.count;
  enough = omega (arith, le, front.enough);
  within = omega (arith, front.within, ap (λ (l : List DescribedPoint). length l) same);
  is = front.is ∙ ap (λ (l : List DescribedPoint). take front.count l) same;
  not_fallen = omega (arith, rise, front.not_fallen, ap (λ (l : List DescribedPoint). length l) same);
  not_risen = omega (arith, rise, front.not_risen);
  whole = front.whole;
}

-- one call after another that leave the same points
pub both_leave : (t : Telling) (points later : List DescribedPoint) (next up : ℕ) (a b : State) (end : Clock Left) → LeavesPoints t points next a b.clock → LeavesPoints t later up b end
    → later ≡ points → durable_now t a ≤ durable_now t b → up ≡ next → LeavesPoints t points next a end
both_leave t points later next up a b end first second same durable rise =
    runs_on first second (λ x l. leaves_less t points later (durable_now t a) (durable_now t b) next up x same durable rise l)
