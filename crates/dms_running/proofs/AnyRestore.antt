-- A restore of any kind, to any live point.
use Rattle.std.proofs.Common.{ℕ, ◌<◌, ◌≡◌, Bool, true, List, [], ◌∷◌, ◌++◌, map, length, Some, sym, ◌∙◌, ap, subst, arith, inl, inr}
use Rattle.dms_site.specs.Files.{Files, stored_of}
use Rattle.dms_site.specs.StoredLaws.{stored_whole}
use Rattle.dms_history.specs.Events.{AllBlocks, Stored, Event, begin, block_in}
use Rattle.dms_history.specs.Lists.{has, until_first, after_first}
use Rattle.dms_history.specs.Places.{is_described, is_point}
use Rattle.dms_history.specs.History.{Pending, History, history, after_event, next_number}
use Rattle.dms_history.specs.Base.{from_control}
use Rattle.dms_history.specs.Pick.{Dumps, count_at}
use Rattle.dms_history.specs.Here.{here, outcome, restore_pick}
use Rattle.dms_history.specs.Restores.{Ready}
use Rattle.dms_history.specs.Points.{live_points, ListsPoints, up_to}
use Rattle.dms_history.specs.Entries.{Kind, Entry, begin_restore, how_of}
use Rattle.dms_history.specs.EntryEvents.{events, history_of, live_of, next_of}
use Rattle.dms_history.specs.Kept.{content_told}
use Rattle.dms_history.specs.Sizes.{ImagesSized}
use Rattle.dms_history.proofs.AtPoints.{split_first}
use Rattle.dms_history.proofs.Given.{controlled, from_until, live_from}
use Rattle.dms_history.proofs.HalfDone.{has_front}
use Rattle.dms_history.proofs.Order.{next_steps}
use Rattle.dms_history.proofs.Picks.{option_cases}
use Rattle.dms_history.proofs.Stops.{here_is, outcome_block, outcome_length, front_live, restore_begins}
use Rattle.dms_history.proofs.Sealed.{begin_sealed, one_more_event}
use Rattle.dms_history.proofs.Keeping.{kept_begin, kept_restores}
use Rattle.dms_history.proofs.LastPending.{here_fixed}
use Rattle.dms_history.proofs.Listed.{points_listed, one_list}
use Rattle.dms_history.proofs.ListSteps.{lists_begin}
use Rattle.dms_running.specs.Standing.{Stands}
use Rattle.dms_running.specs.Points.{described_in, points_told}
use Rattle.dms_running.specs.Restoring.{Rewritten}
use Rattle.dms_running.specs.ByHow.{told_by, IsKeptBy}
use Rattle.dms_running.specs.AnyLaws.{AnyBegins, AnyWrites, AnyRestored}
use Rattle.dms_running.proofs.ByHow.{tells_by}
use Rattle.dms_running.proofs.SizedContent.{stands_sized}
use Rattle.dms_running.proofs.Beginning.{images_first}
use Rattle.dms_running.proofs.Described.{all_placed, described_begun}

-- ---- it writes

module _ (first : Bool) (es : List Entry) (d : Dumps) (base : AllBlocks) (p : Pending) (is : (history_of es).pending ≡ Some p) where
  picks : (st : Stored) (f b : ℕ) → b < count_at p.entries p.point f → here d (history_of es) st f b ≡ restore_pick p.how d p.entries p.point st f b
  picks st f b low = ap (λ (s : Stored). s f b) (here_is d (history_of es) p st is) ∙ outcome_block p.how d p.entries p.point f b st low

  -- the block that is to be left is one of the content
  content_block : (st : Stored) → Stands first es d base st → (f b : ℕ) → b < count_at p.entries p.point f → length (restore_pick p.how d p.entries p.point st f b) ≡ 1024
  content_block st s f b low =
      let right : outcome p.how d p.entries p.point st ≡ content_told es base = s.kept.steady.restored p is in
      let under : b < length (content_told es base f) = subst (λ (c : AllBlocks). b < length (c f)) right (omega (arith, low, outcome_length p.how d p.entries p.point f st)) in
      let block : block_in (content_told es base) f b ≡ restore_pick p.how d p.entries p.point st f b = ap (λ (c : AllBlocks). block_in c f b) (sym right) ∙ outcome_block p.how d p.entries p.point f b st low in
      sym (ap length block) ∙ stands_sized first es d base st s f b under

  pub kept_whole : (st : Stored) → Stands first es d base st → (f b : ℕ) → IsKeptBy p.how p.entries p.point f b → length (st f b) ≡ 1024
  kept_whole st s f b kept =
      let t = tells_by p.how d p.entries p.point f b in
      sym (ap length (t.kept st (t.written kept.1))) ∙ content_block st s f b kept.0

  rewritten_stands : (x y : Files) → Rewritten (IsKeptBy p.how p.entries p.point) x y → Stands first es d base (stored_of x) → Stands first es d base (stored_of y)
  rewritten_stands x y step s = record {
    kept = (kept_restores first es d base (stored_of x) (stored_of y) p s.kept is (λ f b low takes.
        let kept : IsKeptBy p.how p.entries p.point f b = (low, takes) in
        step.kept f b kept (stored_whole x f b (kept_whole (stored_of x) s f b kept)).1)).kept;
    described = s.described;
    base_sized = s.base_sized;
    images_sized = s.images_sized;
  }

pub any_writes : AnyWrites
any_writes first es d base p x y is s step =
    let later = rewritten_stands first es d base p is x y step s in
    record {
      stands = later;
      points = ap (λ (c : Stored). map (described_in es) (live_points (live_of es) c)) (here_fixed d (history_of es) base (stored_of y) (stored_of x) p is later.kept.steady s.kept.steady);
    }

pub any_restored : AnyRestored
any_restored first es d base p y is s done f b low =
    let t = tells_by p.how d p.entries p.point f b in
    let st = stored_of y in
    let at = picks first es d base p is st f b low in
    elim (option_cases (told_by p.how d p.entries p.point f b)) [
      | inl none ↦ sym (at ∙ t.kept st none)
      | inr some ↦
          let left = t.told st some.0 some.1 in
          done f b low some.0 some.1 (sym (ap length left) ∙ content_block first es d base p is st s f b low) ∙ sym (at ∙ left)
    ]

-- ---- it begins

module _ (first : Bool) (es : List Entry) (d e : Dumps) (base : AllBlocks) (right st : Stored) (m : ℕ) (kind : Kind) (s : Stands first es d base right) (ready : Ready (how_of kind) e (live_of es) base (here d (history_of es) right) st m) where
  abbrev with_begin : List Entry
  with_begin = es ++ begin_restore m kind ∷ []

  begin_is : history_of with_begin ≡ after_event (history_of es) (begin m (how_of kind))
  begin_is = ap history (begin_sealed es m kind) ∙ one_more_event (events es) (begin m (how_of kind))

  live_is : live_of with_begin ≡ until_first (is_point m) (live_of es)
  live_is = ap (λ (h : History). h.live) begin_is

  begun_stands : Stands first with_begin e base st
  begun_stands = record {
    kept = kept_begin first es d e base right st m kind s.kept ready;
    described = ap (λ (l : List Event). has is_described l) live_is ∙ ready.point_lives.described;
    base_sized = s.base_sized;
    images_sized =
        let live = live_of es in
        let at = ready.point_lives in
        let cut = from_until (is_point m) live (controlled live m at) in
        let found : has (is_point m) (from_control live) ≡ true =
        has_front (is_point m) (is_point m) (from_control live) (ap (λ (l : List Event). has (is_point m) l) (sym cut) ∙ (live_from (until_first (is_point m) live) m (front_live live m at)).found) in
        let all : ImagesSized (until_first (is_point m) (from_control live) ++ after_first (is_point m) (from_control live)) = subst ImagesSized (sym (split_first (is_point m) (from_control live) found)) s.images_sized in
        subst ImagesSized (sym (ap (λ (l : List Event). from_control l) live_is ∙ cut)) (images_first (until_first (is_point m) (from_control live)) (after_first (is_point m) (from_control live)) all);
  }

  begun_points : points_told e with_begin st ≡ map (described_in es) (up_to m (live_points (live_of es) (here d (history_of es) right)))
  begun_points =
      let h = history_of es in
      let old = live_points h.live (here d h right) in
      let cut_points = up_to m old in
      let listed : ListsPoints h.live (here d h right) old = points_listed h.live (next_of es) (here d h right) s.kept.numbered in
      let after = after_event h (begin m (how_of kind)) in
      let cut : ListsPoints after.live (here e after st) cut_points = lists_begin (how_of kind) e h (next_of es) base (here d h right) st old m s.kept.numbered ready listed in
      let g = history_of with_begin in
      let more : ListsPoints g.live (here e g st) cut_points = subst (λ (k : History). ListsPoints k.live (here e k st) cut_points) (sym begin_is) cut in
      let same : live_points g.live (here e g st) ≡ cut_points =
      one_list g.live (here e g st) (live_points g.live (here e g st)) cut_points (points_listed g.live (next_of with_begin) (here e g st) begun_stands.kept.numbered) more in
      ap (map (described_in with_begin)) same ∙ described_begun es m kind cut_points (all_placed with_begin (here e g st) cut_points more.lives)

pub any_begins : AnyBegins
any_begins first es d e base right st m kind s ready = record {
  stands = begun_stands first es d e base right st m kind s ready;
  points = begun_points first es d e base right st m kind s ready;
  next_same = ap next_number (begin_sealed es m kind) ∙ (next_steps (events es)).begin m (how_of kind);
  leaves = (restore_begins (how_of kind) e (history_of es) base (here d (history_of es) right) st m ready).leaves;
}
