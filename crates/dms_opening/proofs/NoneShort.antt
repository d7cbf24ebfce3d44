-- Files that hold a database have each block whole that their opening takes from them.
use Rattle.std.specs.Prelude.{◌&&◌, ◌||◌, nat_le, nat_lt}
use Rattle.std.proofs.Common.{ℕ, zero, suc, ◌+◌, ◌<◌, ◌≤◌, ◌≡◌, ◌==◌, inl, inr, Bool, true, false, cond, List, [], ◌∷◌, ◌++◌, Option, Some, None, length, refl, sym, ◌∙◌, ap, subst, arith}
use Rattle.std.specs.List.{list_any}
use Rattle.std.proofs.lemmas.Bool.Decides.{nat_tests}
use Rattle.std.proofs.lemmas.List.Folds.{list_any-append}
use Rattle.std.proofs.lemmas.Option.{none-some}
use Rattle.dms_site.specs.Files.{Files, stored_of}
use Rattle.dms_history.specs.Events.{BlockBytes, AllBlocks, Stored, Event, change, quiet, control, begin, halt_load, block_in}
use Rattle.dms_history.specs.Lists.{until_first, after_first}
use Rattle.dms_history.specs.Places.{is_point, IsLive}
use Rattle.dms_history.specs.History.{Pending, History}
use Rattle.dms_history.specs.Base.{from_control}
use Rattle.dms_history.specs.Here.{outcome, restore_pick, here}
use Rattle.dms_history.specs.Pick.{Dumps, count_at, content_of, pick, blocks_at}
use Rattle.dms_history.specs.Replay.{Chain, replay}
use Rattle.dms_history.specs.Sizes.{AllSized, ImagesSized}
use Rattle.dms_history.specs.Entries.{Entry}
use Rattle.dms_history.specs.EntryEvents.{history_of, live_of}
use Rattle.dms_history.proofs.AtPoints.{split_first}
use Rattle.dms_history.proofs.Base.{content_length, content_block}
use Rattle.dms_history.proofs.Given.{at_point, live_from}
use Rattle.dms_history.proofs.Picks.{chain_split}
use Rattle.dms_history.proofs.Sizing.{sized_replay}
use Rattle.dms_audfile.specs.TrailEntries.{trail_entries}
use Rattle.dms_audfile.proofs.Ended.{grown_none}
use Rattle.dms_running.specs.ByHow.{told_by, TellsBy}
use Rattle.dms_running.specs.Standing.{IsWhole}
use Rattle.dms_running.proofs.ByHow.{tells_by}
use Rattle.dms_running.proofs.SizedContent.{stands_sized}
use Rattle.dms_restore.specs.Counts.{count_of}
use Rattle.dms_restore.specs.Dumped.{dumps_of}
use Rattle.dms_restore.specs.Logging.{telling_of}
use Rattle.dms_restore.specs.Table.{laid_on, told_on, last_of, told_at, blocks_in, all_in, IsPlan}
use Rattle.dms_restore.specs.declared.told.Told.{Told}
use Rattle.dms_restore.specs.declared.run.Run.{Run}
use Rattle.dms_restore.specs.declared.restore_table.RestoreTable.{RestoreTable}
use Rattle.dms_opening.specs.declared.plan.OpeningPlan.{OpeningPlan}
use Rattle.dms_opening.specs.Doing.{IsOpening}
use Rattle.dms_opening.specs.Openings.{IsTrailFound}
use Rattle.dms_opening.specs.Plans.{Plans}
use Rattle.dms_opening.specs.Short.{is_told, is_in_run, is_written, IsShort, NoneShort, HasNoShort, IsPlannable, WholeHasNoShort}
use Rattle.dms_opening.proofs.Callers.{trail_is_one}

-- ---- what isn't written isn't told by a table

neither : (a b : Bool) → (a || b) ≡ false → (a ≡ false) × (b ≡ false)
neither true b h = absurd cc
neither false b h = (refl, h)

none_on : (files : Files) (f b : ℕ) (ts : List Told) → list_any (λ (t : Told). is_told f b t) ts ≡ false → told_on files f b None ts ≡ None
none_on files f b [] none = refl
none_on files f b (t ∷ ts) none =
    let n = neither (is_told f b t) (list_any (λ (u : Told). is_told f b u) ts) none in
    by (is_told f b t) refl n.0 (none_on files f b ts n.1)
  where
    by : (on : Bool) → is_told f b t ≡ on → on ≡ false → told_on files f b None ts ≡ None → told_on files f b None (t ∷ ts) ≡ None
    by true e off rest = absurd cc
    by false e off rest = (λ j. told_on files f b (cond (e j) (laid_on files t None) None) ts) ∙ rest

-- a block before the end of a run isn't this one, where the run hasn't this one
one_not : (f b i : ℕ) (r : Run) → i < r.blocks → is_in_run f b r ≡ false → is_told f b (told_at r i) ≡ false
one_not f b i r low none = by (r.file == f) (r.block + i == b) refl refl
  where
    by : (one two : Bool) → (r.file == f) ≡ one → (r.block + i == b) ≡ two → is_told f b (told_at r i) ≡ false
    by false two e1 e2 = λ j. e1 j && (r.block + i == b)
    by true false e1 e2 = λ j. e1 j && e2 j
    by true true e1 e2 =
        let same : r.block + i ≡ b = grind (arith, nat_tests, e2) in
        let over : nat_le r.block b ≡ true = grind (arith, nat_tests, same) in
        let under : nat_lt b (r.block + r.blocks) ≡ true = grind (arith, nat_tests, same, low) in
        absurd (apart (sym (λ j. e1 j && (over j && under j)) ∙ none))
      where
        apart : true ≡ false → ⊥
        apart h = absurd cc

run_not : (f b : ℕ) (r : Run) (n : ℕ) → n ≤ r.blocks → is_in_run f b r ≡ false → list_any (λ (t : Told). is_told f b t) (blocks_in r n) ≡ false
run_not f b r zero low none = refl
run_not f b r (suc n) low none =
    let on : n < r.blocks = omega (arith, low) in
    let fewer : n ≤ r.blocks = omega (arith, low) in
    list_any-append (λ (t : Told). is_told f b t) (blocks_in r n) (told_at r n ∷ [])
    ∙ (λ j. run_not f b r n fewer none j || (one_not f b n r on none j || false))

runs_not : (f b : ℕ) (rs : List Run) → list_any (λ (r : Run). is_in_run f b r) rs ≡ false → list_any (λ (t : Told). is_told f b t) (all_in rs) ≡ false
runs_not f b [] none = refl
runs_not f b (r ∷ rs) none =
    let n = neither (is_in_run f b r) (list_any (λ (q : Run). is_in_run f b q) rs) none in
    let all : r.blocks ≤ r.blocks = omega arith in
    list_any-append (λ (t : Told). is_told f b t) (blocks_in r r.blocks) (all_in rs) ∙ (λ j. run_not f b r r.blocks all n.0 j || runs_not f b rs n.1 j)

unwritten_none : (files : Files) (table : RestoreTable) (f b : ℕ) → is_written table f b ≡ false → last_of files f b (all_in table.runs.items ++ table.told.items) ≡ None
unwritten_none files table f b off =
    let n = neither (list_any (λ (t : Told). is_told f b t) table.told.items) (list_any (λ (r : Run). is_in_run f b r) table.runs.items) off in
    none_on files f b (all_in table.runs.items ++ table.told.items)
    (list_any-append (λ (t : Told). is_told f b t) (all_in table.runs.items) table.told.items ∙ (λ j. runs_not f b table.runs.items n.1 j || n.0 j))

-- ---- the blocks of the point of a restore are whole

images_front : (xs ys : List Event) → ImagesSized (xs ++ ys) → ImagesSized xs
images_front [] ys all = tt
images_front (change f b before after ∷ xs) ys all = (all.0, images_front xs ys all.1)
images_front (quiet n ∷ xs) ys all = images_front xs ys all
images_front (control n next counts described ∷ xs) ys all = images_front xs ys all
images_front (begin n how ∷ xs) ys all = images_front xs ys all

module _ (total first : ℕ) (files : Files) (whole : IsWhole (telling_of total first) files) where
  abbrev entries : List Entry
  entries = trail_entries total first files

  abbrev h : History
  h = history_of entries

  abbrev fc : List Event
  fc = from_control h.live

  -- what counts at a live point
  point_sized : (n : ℕ) → IsLive h.live n → AllSized (blocks_at h.live (here (dumps_of files) h (stored_of files)) n)
  point_sized n lives =
      let base = whole.base in
      let sound = whole.stands.kept.steady.sound in
      let front = until_first (is_point n) fc in
      let behind = after_first (is_point n) fc in
      let split : front ++ behind ≡ fc = split_first (is_point n) fc (live_from h.live n lives).found in
      let chain : Chain front base = (chain_split front behind base (subst (λ (l : List Event). Chain l base) (sym split) sound.chain)).0 in
      let images : ImagesSized front = images_front front behind (subst ImagesSized (sym split) whole.stands.images_sized) in
      subst AllSized (sym (at_point h.live base (here (dumps_of files) h (stored_of files)) n sound lives)) (sized_replay front base chain whole.stands.base_sized images)

  begun_sized : (point : ℕ) → h.pending ≡ None → IsLive h.live point → AllSized (outcome halt_load (dumps_of files) h.live point (stored_of files))
  unfolding outcome blocks_at restore_pick
  begun_sized point none lives =
      subst (λ (s : Stored). AllSized (blocks_at h.live s point)) (ap (λ (o : Option Pending). here (dumps_of files) (record { live = h.live; pending = o }) (stored_of files)) none) (point_sized point lives)

  -- what an opening's restore is to leave
  opening_sized : (begins : Bool) (point : ℕ) (p : Pending) → IsOpening h begins point p → AllSized (outcome p.how (dumps_of files) p.entries p.point (stored_of files))
  opening_sized true point p is =
      let n = is.new refl in
      subst (λ (r : Pending). AllSized (outcome r.how (dumps_of files) r.entries r.point (stored_of files))) (sym n.3) (begun_sized point n.0 n.2)
  opening_sized false point p is =
      let steady = whole.stands.kept.steady in
      subst AllSized (sym (steady.restored p (is.goes_on refl))) (stands_sized _ entries (dumps_of files) whole.base (stored_of files) whole.stands)

  block_sized : (begins : Bool) (point : ℕ) (p : Pending) → IsOpening h begins point p → (f b : ℕ) → b < count_at p.entries p.point f → length (restore_pick p.how (dumps_of files) p.entries p.point (stored_of files) f b) ≡ 1024
  unfolding outcome
  block_sized begins point p is f b low =
      let counts = count_at p.entries p.point in
      let blocks = restore_pick p.how (dumps_of files) p.entries p.point (stored_of files) in
      let inside : b < length (content_of counts blocks f) = subst (λ n. b < n) (sym (content_length counts blocks f)) low in
      ap length (sym (content_block counts blocks f b low)) ∙ opening_sized begins point p is f b inside

  none_short : (plan : OpeningPlan) → Plans total first files plan → NoneShort files plan.counts.items plan.table
  none_short plan plans f b short =
      let p = plans.chooses.restore in
      let low : b < count_at p.entries p.point f = subst (λ n. b < n) (plans.counts_are f) short.0 in
      let sized = block_sized plan.choice.begins plan.choice.point p plans.chooses.is f b low in
      let tells : TellsBy p.how (dumps_of files) p.entries p.point f b = tells_by p.how (dumps_of files) p.entries p.point f b in
      let is : IsPlan p files plan.table = plans.plan_is files (grown_none total first files) (λ g from to. refl) in
      by (told_by p.how (dumps_of files) p.entries p.point f b) refl low sized tells is
    where
      by : (o : Option BlockBytes) → told_by plans.chooses.restore.how (dumps_of files) plans.chooses.restore.entries plans.chooses.restore.point f b ≡ o → b < count_at plans.chooses.restore.entries plans.chooses.restore.point f
          → length (restore_pick plans.chooses.restore.how (dumps_of files) plans.chooses.restore.entries plans.chooses.restore.point (stored_of files) f b) ≡ 1024
          → TellsBy plans.chooses.restore.how (dumps_of files) plans.chooses.restore.entries plans.chooses.restore.point f b → IsPlan plans.chooses.restore files plan.table → ⊥
      by None e low sized tells is = let stays = ap length (tells.kept (stored_of files) e) in omega (arith, stays, sized, short.1.short)
      by (Some x) e low sized tells is =
          let same : length x ≡ 1024 = ap length (sym (tells.told (stored_of files) x e)) ∙ sized in
          none-some x (sym (unwritten_none files plan.table f b short.1.unwritten) ∙ is.all f b x low e same)

pub whole_has_no_short : WholeHasNoShort
whole_has_no_short total first files trail whole p =
    let one = trail_is_one total first p.total p.first files trail p.trail in
    let w : IsWhole (telling_of p.total p.first) files = subst (λ k. IsWhole (telling_of p.total k) files) one.1 (subst (λ k. IsWhole (telling_of k first) files) one.0 whole) in
    none_short p.total p.first files w p.plan p.plans
