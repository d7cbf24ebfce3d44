-- The audit has no room for one more entry: what waits was sealed. And the newest Image of a block.
use Rattle.std.proofs.Common.{ℕ, ◌≡◌, List, [], ◌++◌, map, length, take, Some, refl, sym, ◌∙◌, ap, subst, arith}
use Rattle.dms_moments.specs.Moments.{Now, Steps}
use Rattle.dms_site.specs.Files.{Left, stored_of}
use Rattle.dms_history.specs.Events.{BlockBytes, AllBlocks, Stored, Event, block_in}
use Rattle.dms_history.specs.Lists.{until_last, after_last}
use Rattle.dms_history.specs.Places.{is_control}
use Rattle.dms_history.specs.Images.{or_else, last_after}
use Rattle.dms_history.specs.Base.{from_control}
use Rattle.dms_history.specs.Pick.{Dumps}
use Rattle.dms_history.specs.Points.{LivePoint}
use Rattle.dms_history.specs.Entries.{Entry}
use Rattle.dms_history.specs.EntryEvents.{live_of, next_of}
use Rattle.dms_history.proofs.Picks.{last_stands, last_append}
use Rattle.dms_history.proofs.AtPoints.{split_last}
use Rattle.dms_history.proofs.Order.{append_none}
use Rattle.dms_history.proofs.Listed.{points_stay}
use Rattle.dms_running.specs.Telling.{Telling, IsTelling}
use Rattle.dms_running.specs.Standing.{MayRun}
use Rattle.dms_running.specs.Points.{described_in, points_told}
use Rattle.dms_running.specs.Sealing.{SealsSome, Settled}
use Rattle.dms_running.specs.Running.{State, entries_now, next_now, points_now, durable_now, content_now, count_live, AllPlain, IsRunning, IsAnOutcome}
use Rattle.dms_running.proofs.MayRun.{sound, has_one, points_are}
use Rattle.dms_running.proofs.Plain.{take_whole}
use Rattle.dms_running.proofs.Stopped.{blocks_same}
use Rattle.dms_running.proofs.Appending.{content_of, now_runs, content_is}
use Rattle.dms_running.proofs.Early.{after_from}
use Rattle.dms_history.proofs.SchemaParts.{take_nothing}

-- Another state with the same entries over the same base has the same points, next number and content.
module _ (t : Telling) (telling : IsTelling t) (a : State) (r : IsRunning t a) (read : IsAnOutcome a) (b : State) (same : entries_now t b ≡ entries_now t a)
    (may : MayRun t.first (entries_now t a) (t.dumps b.files) r.base (stored_of b.files)) where
  pub same_points : points_now t b ≡ points_now t a
  same_points =
      let one = now_runs t telling a r read in
      let all = entries_now t a in
      ap (λ (l : List Entry). points_told (t.dumps b.files) l (stored_of b.files)) same
      ∙ points_are t.first all (t.dumps b.files) r.base (stored_of b.files) may
      ∙ ap (λ (l : List LivePoint). map (described_in all) l)
      (points_stay (live_of all) r.base (stored_of a.files) (stored_of b.files) (sound t.first all (t.dumps a.files) r.base (stored_of a.files) one) (sound t.first all (t.dumps b.files) r.base (stored_of b.files) may))
      ∙ sym (points_are t.first all (t.dumps a.files) r.base (stored_of a.files) one)

  pub same_next : next_now t b ≡ next_now t a
  same_next = ap (λ (l : List Entry). next_of l) same

  pub same_content : content_now t b ≡ content_now t a
  same_content = content_of t b (entries_now t a) (stored_of b.files) (t.dumps b.files) r.base same refl may ∙ sym (content_is t telling a r read)

module _ (t : Telling) (telling : IsTelling t) (a : State) (r : IsRunning t a) (read : IsAnOutcome a) (es : List Entry) (b : State) (steps : Steps (SealsSome t es) a.clock b.clock) (settles : Settled t b.files b.clock)
    (sealed : t.entries b.files ≡ t.entries a.files ++ a.waiting) (nothing : b.waiting ≡ []) where
  pub full_entries : entries_now t b ≡ entries_now t a
  full_entries = ap (λ (l : List Entry). t.entries b.files ++ l) nothing ∙ append_none (t.entries b.files) ∙ sealed

  each_full : (x : Left) → Now b.clock x → MayRun t.first (entries_now t a) (t.dumps x.files) r.base (stored_of x.files)
  each_full x now =
      let after = steps.follows x now in
      let y = after.0 in
      let above = after.2.above in
      subst (λ (d : Dumps). MayRun t.first (entries_now t a) d r.base (stored_of x.files)) (sym (telling.dumps_between x.files y.files (λ g up below. above g up)))
      (subst (λ (st : Stored). MayRun t.first (entries_now t a) (t.dumps y.files) r.base st) (sym (blocks_same x.files y.files above))
      (subst (λ (l : List Entry). MayRun t.first (t.entries a.files ++ l) (t.dumps y.files) r.base (stored_of y.files)) (take_whole a.waiting) (r.each (length a.waiting) y after.1)))

  at_each : (k : ℕ) → entries_now t a ≡ t.entries b.files ++ take k b.waiting
  at_each k = sym sealed ∙ sym (append_none (t.entries b.files)) ∙ ap (λ (l : List Entry). t.entries b.files ++ l) (sym (take_nothing k b.waiting nothing))

  pub full_runs : IsRunning t b
  full_runs = record {
    base = r.base;
    settled = settles;
    found = λ x now. let after = steps.follows x now in after.2.found (r.found after.0 after.1);
    each = λ k x now. subst (λ (l : List Entry). MayRun t.first l (t.dumps x.files) r.base (stored_of x.files)) (at_each k) (each_full x now);
    plain = subst AllPlain (sym nothing) tt;
    counted = λ k. omega (arith, ap (λ (l : List Entry). next_of l) (full_entries ∙ at_each k), ap (λ (l : List Entry). count_live l) (full_entries ∙ at_each k));
  }

  module _ (reads : IsAnOutcome b) where
    full_may : MayRun t.first (entries_now t a) (t.dumps b.files) r.base (stored_of b.files)
    full_may = subst (λ l. MayRun t.first (entries_now t a) (t.dumps l) r.base (stored_of l)) reads.2 (each_full reads.0 reads.1)

    pub full_points : points_now t b ≡ points_now t a
    full_points = same_points t telling a r read b full_entries full_may

    pub full_content : content_now t b ≡ content_now t a
    full_content = same_content t telling a r read b full_entries full_may

    pub full_durable : durable_now t b ≡ length (points_now t a)
    full_durable =
        let all : t.entries b.files ≡ entries_now t b = sym (ap (λ (l : List Entry). t.entries b.files ++ l) nothing ∙ append_none (t.entries b.files)) in
        ap (λ (l : List Entry). length (points_told (t.dumps b.files) l (stored_of b.files))) all ∙ ap length full_points

-- ---- the newest Image of a block

-- a block with a change since the last Control is in the content what that change made it
pub newest_is : (t : Telling) (telling : IsTelling t) (a : State) (r : IsRunning t a) (read : IsAnOutcome a) (f b : ℕ) (x : BlockBytes) → last_after f b (after_last is_control (live_of (entries_now t a))) ≡ Some x
    → block_in (content_now t a) f b ≡ x
newest_is t telling a r read f b x is =
    let all = entries_now t a in
    let m = now_runs t telling a r read in
    let s = sound t.first all (t.dumps a.files) r.base (stored_of a.files) m in
    let from = from_control (live_of all) in
    let late : last_after f b (after_last is_control from) ≡ Some x = ap (λ (l : List Event). last_after f b l) (after_from (live_of all) (has_one t.first all (t.dumps a.files) r.base (stored_of a.files) m)) ∙ is in
    let whole : last_after f b from ≡ Some x = ap (λ (l : List Event). last_after f b l) (sym (split_last is_control from)) ∙ last_append (until_last is_control from) (after_last is_control from) f b
    ∙ ap (λ o. or_else o (last_after f b (until_last is_control from))) late in
    ap (λ (c : AllBlocks). block_in c f b) (content_is t telling a r read) ∙ last_stands from r.base f b x s.chain whole
