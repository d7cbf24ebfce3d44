-- What is written beside the audit and the structure files changes nothing of a running database.
use Rattle.std.proofs.Common.{ℕ, ◌+◌, ◌<◌, ◌≤◌, ◌≡◌, List, [], ◌∷◌, ◌++◌, map, take, length, sym, ◌∙◌, ap, subst}
use Rattle.dms_moments.specs.Moments.{Clock, Now, Steps}
use Rattle.dms_moments.specs.MomentLaws.{runs_weaken}
use Rattle.dms_site.specs.Files.{Left, stored_of}
use Rattle.dms_history.specs.Events.{AllBlocks, Stored, quiet, block_in}
use Rattle.dms_history.specs.Lists.{after_last}
use Rattle.dms_history.specs.Places.{is_control}
use Rattle.dms_history.specs.Images.{last_after}
use Rattle.dms_history.specs.Pick.{blocks_at}
use Rattle.dms_history.specs.Points.{live_points}
use Rattle.dms_history.specs.Entries.{Entry}
use Rattle.dms_history.specs.EntryEvents.{live_of, next_of}
use Rattle.dms_history.proofs.Order.{append_none}
use Rattle.dms_running.specs.Telling.{Telling, IsTelling}
use Rattle.dms_running.specs.Standing.{MayRun}
use Rattle.dms_running.specs.Beside.{StaysDatabase}
use Rattle.dms_running.specs.Points.{described_in, points_told}
use Rattle.dms_running.specs.Running.{State, entries_now, next_now, points_now, durable_now, content_now, count_live, IsRunning, IsAnOutcome, LeavesPoints, AllPlain}
use Rattle.dms_running.specs.Frames.{Frames, HoldsOne, FramesHold}
use Rattle.dms_running.proofs.MayRun.{points_are, other_dumps}
use Rattle.dms_running.proofs.Stopped.{front_left, old_read, count_told}
use Rattle.dms_running.proofs.Appending.{now_runs}

-- a step that writes beside them
abbrev pub WritesBeside : Telling → Left → Left → Type 0
WritesBeside t old new = StaysDatabase t old.files new.files

module _ (t : Telling) (telling : IsTelling t) (a : State) (r : IsRunning t a) (read : IsAnOutcome a) where
  abbrev base : AllBlocks
  base = r.base

  abbrev entries : ℕ → List Entry
  entries k = t.entries a.files ++ take k a.waiting

  beside_may : (k : ℕ) (y x : Left) → Now a.clock y → WritesBeside t y x → MayRun t.first (entries k) (t.dumps x.files) base (stored_of x.files)
  beside_may k y x now step = other_dumps t.first (entries k) (t.dumps y.files) base (stored_of x.files)
      (subst (λ (st : Stored). MayRun t.first (entries k) (t.dumps y.files) base st) (sym step.blocks_same) (r.each k y now)) (t.dumps x.files)

  -- a stop leaves all points
  pub beside_leaves : (later : Clock Left) → Steps (WritesBeside t) a.clock later → LeavesPoints t (points_now t a) (next_now t a) a later
  beside_leaves later steps = runs_weaken steps.runs (λ x after.
      front_left t telling a a.waiting base r.settled r.found r.each r.plain r.counted read 0 x (after.2.found (r.found after.0 after.1))
      (after.2.entries_same ∙ r.settled after.0 after.1 ∙ sym (append_none (t.entries a.files))) (beside_may 0 after.0 x after.1 after.2))

  module _ (c : State) (waits : c.waiting ≡ a.waiting) (same : StaysDatabase t a.files c.files) where
    pub beside_entries : entries_now t c ≡ entries_now t a
    beside_entries = λ i. same.entries_same i ++ waits i

    each_later : (k : ℕ) → t.entries c.files ++ take k c.waiting ≡ entries k
    each_later k = λ i. same.entries_same i ++ take k (waits i)

    pub beside_next : next_now t c ≡ next_now t a
    beside_next = ap (λ (l : List Entry). next_of l) beside_entries

    pub beside_content : content_now t c ≡ content_now t a
    beside_content = λ i. blocks_at (live_of (beside_entries i) ++ quiet (next_of (beside_entries i)) ∷ []) (same.blocks_same i) (next_of (beside_entries i))

    -- the frames go with it as they did
    pub beside_frames : (frames : Frames) → FramesHold t a frames → FramesHold t c frames
    beside_frames frames h f b =
        let one : HoldsOne t a f b (frames f b) = h f b in
        record {
          held = λ x is. let y = one.held x is in (subst (λ (l : AllBlocks). b < length (l f)) (sym beside_content) y.0, y.1 ∙ sym (ap (λ (l : AllBlocks). block_in l f b) beside_content));
          stands = λ low clean.
              ap (λ (st : Stored). st f b) same.blocks_same ∙ one.stands (subst (λ (l : AllBlocks). b < length (l f)) beside_content low) clean ∙ sym (ap (λ (l : AllBlocks). block_in l f b) beside_content);
          changed = λ x is dirty none. one.changed x is dirty (ap (λ (l : List Entry). last_after f b (after_last is_control (live_of l))) (sym beside_entries) ∙ none);
        }

    module _ (steps : Steps (WritesBeside t) a.clock c.clock) where
      -- it runs on
      pub beside_runs : IsRunning t c
      beside_runs = record {
        base = base;
        settled = λ x now. let after = steps.follows x now in after.2.entries_same ∙ r.settled after.0 after.1 ∙ sym same.entries_same;
        found = λ x now. let after = steps.follows x now in after.2.found (r.found after.0 after.1);
        each = λ k x now. let after = steps.follows x now in
            subst (λ (l : List Entry). MayRun t.first l (t.dumps x.files) base (stored_of x.files)) (sym (each_later k)) (beside_may k after.0 x after.1 after.2);
        plain = subst AllPlain (sym waits) r.plain;
        counted = λ k. subst (λ (l : List Entry). next_of l + count_live (t.entries c.files ++ take k c.waiting) ≤ next_of (t.entries c.files ++ take k c.waiting) + count_live l) (sym beside_entries)
            (subst (λ (l : List Entry). next_of (entries_now t a) + count_live l ≤ next_of l + count_live (entries_now t a)) (sym (each_later k)) (r.counted k));
      }

      module _ (reads : IsAnOutcome c) where
        later_may : MayRun t.first (entries_now t a) (t.dumps c.files) base (stored_of c.files)
        unfolding beside_runs
        later_may = subst (λ (l : List Entry). MayRun t.first l (t.dumps c.files) base (stored_of c.files)) beside_entries (now_runs t telling c beside_runs reads)

        -- with the same points, of which as many are durable
        pub beside_points : points_now t c ≡ points_now t a
        beside_points =
            let one = now_runs t telling a r read in
            let all = entries_now t a in
            ap (λ (l : List Entry). points_told (t.dumps c.files) l (stored_of c.files)) beside_entries
            ∙ points_are t.first all (t.dumps c.files) base (stored_of c.files) later_may
            ∙ ap (λ (st : Stored). map (described_in all) (live_points (live_of all) st)) same.blocks_same
            ∙ sym (points_are t.first all (t.dumps a.files) base (stored_of a.files) one)

        pub beside_durable : durable_now t c ≡ durable_now t a
        beside_durable =
            let one = old_read t telling a a.waiting r.base r.settled r.found r.each r.plain r.counted read in
            let two = old_read t telling c c.waiting beside_runs.base beside_runs.settled beside_runs.found beside_runs.each beside_runs.plain beside_runs.counted reads in
            count_told t.first (t.entries c.files) (t.dumps c.files) beside_runs.base (stored_of c.files) two ∙ ap (λ (l : List Entry). count_live l) same.entries_same
            ∙ sym (count_told t.first (t.entries a.files) (t.dumps a.files) r.base (stored_of a.files) one)
