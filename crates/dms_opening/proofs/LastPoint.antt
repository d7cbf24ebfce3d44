-- What an opening is to leave is the content of the last point.
use Rattle.std.proofs.Common.{ℕ, ◌≤◌, ◌≡◌, Bool, true, false, List, [], ◌∷◌, map, Option, Some, None, refl, sym, ◌∙◌, ap, subst, arith}
use Rattle.std.specs.Prelude.{◌==◌}
use Rattle.std.proofs.lemmas.Bool.{true≢false}
use Rattle.dms_site.specs.Files.{Files, stored_of}
use Rattle.dms_history.specs.Events.{AllBlocks, Stored, Event, halt_load}
use Rattle.dms_history.specs.Lists.{has, until_first}
use Rattle.dms_history.specs.Places.{is_point, IsLive}
use Rattle.dms_history.specs.History.{Pending, last_point}
use Rattle.dms_history.specs.Pick.{Dumps, blocks_at}
use Rattle.dms_history.specs.Base.{from_control}
use Rattle.dms_history.specs.Replay.{replay}
use Rattle.dms_history.specs.Here.{here, here_by, outcome, restore_pick}
use Rattle.dms_history.specs.Points.{LivePoint, live_points, numbers_of, ListsPoints}
use Rattle.dms_history.specs.Restores.{Steady}
use Rattle.dms_history.specs.LawsOfRestores.{PendingCut}
use Rattle.dms_history.specs.Entries.{Entry}
use Rattle.dms_history.specs.EntryEvents.{events, history_of, live_of, next_of}
use Rattle.dms_history.proofs.Alone.{alone_events}
use Rattle.dms_history.proofs.Given.{at_point, controlled, from_until}
use Rattle.dms_history.proofs.HalfDone.{until_until}
use Rattle.dms_history.proofs.LastPending.{pending_cuts}
use Rattle.dms_history.proofs.Listed.{points_listed}
use Rattle.dms_history.proofs.Order.{last_lives}
use Rattle.dms_history.proofs.Picks.{some_is}
use Rattle.dms_running.specs.Telling.{Telling}
use Rattle.dms_running.specs.Standing.{IsWhole}
use Rattle.dms_running.specs.Points.{DescribedPoint, described_in, points_of}
use Rattle.dms_opening.specs.Doing.{IsOpening}
use Rattle.dms_wal.specs.Lifting.{last_blocks}
use Rattle.dms_wal.specs.Marks.{number_from, last_number}
use Rattle.dms_wal.proofs.Pointing.{IsTop, top_is}

number_some : (before : Option ℕ) (q : DescribedPoint) (ps : List DescribedPoint) → (n : ℕ) × (number_from before (q ∷ ps) ≡ Some n)
number_some before q [] = (q.number, refl)
number_some before q (r ∷ ps) = number_some (Some q.number) r ps

-- where there is a point there is a last one
last_some : (es : List Entry) (ps : List LivePoint) (m : ℕ) → has (λ j. j == m) (numbers_of ps) ≡ true → (n : ℕ) × (last_number (map (described_in es) ps) ≡ Some n)
last_some es [] m on = absurd (true≢false (sym on))
last_some es (q ∷ ps) m on = number_some None (described_in es q) (map (described_in es) ps)

halt_left : (dumps : Dumps) (live : List Event) (m : ℕ) (stored : Stored) → blocks_at live stored m ≡ outcome halt_load dumps live m stored
unfolding outcome restore_pick blocks_at
halt_left dumps live m stored = refl

module _ (t : Telling) (files : Files) (w : IsWhole t files) (begins : Bool) (point : ℕ) (p : Pending) (o : IsOpening (history_of (t.entries files)) begins point p) where
  abbrev es : List Entry
  es = t.entries files

  abbrev dumps : Dumps
  dumps = t.dumps files

  abbrev stored : Stored
  stored = stored_of files

  abbrev counted : Stored
  counted = here dumps (history_of es) stored

  -- what the opening is to leave
  abbrev pub left : AllBlocks
  left = outcome p.how dumps p.entries p.point stored

  -- The point of the restore is the last one, it is live, and the restore is to leave its content.
  record GoesToLast : Type 0 where
    last : last_point (history_of es) ≡ Some point
    lives : IsLive (live_of es) point
    leaves : blocks_at (live_of es) counted point ≡ left

  goes_new : begins ≡ true → GoesToLast
  goes_new new =
      let q = o.new new in
      record {
        last = q.1;
        lives = q.2;
        leaves = ap (λ (s : Stored). blocks_at (live_of es) s point) (ap (λ (r : Option Pending). here_by r dumps stored) q.0)
            ∙ halt_left dumps (live_of es) point stored ∙ ap (λ (r : Pending). outcome r.how dumps r.entries r.point stored) (sym q.3);
      }

  module _ (old : begins ≡ false) where
    is : (history_of es).pending ≡ Some p
    is = o.goes_on old

    steady : Steady dumps (history_of es) w.base stored
    steady = w.stands.kept.steady

    cut : PendingCut (events es) p
    cut = pending_cuts (events es) p (alone_events es w.stands.kept.alone) is

    lives_at : IsLive (live_of es) p.point
    lives_at = steady.point_lives p is

    whole : until_first (is_point p.point) (live_of es) ≡ live_of es
    whole =
        ap (λ (l : List Event). until_first (is_point p.point) l) cut.cut
        ∙ until_until (is_point p.point) (is_point p.point) p.entries (ap (λ (l : List Event). has (is_point p.point) l) (sym cut.cut) ∙ lives_at.found) ∙ sym cut.cut

    front : until_first (is_point p.point) (from_control (live_of es)) ≡ from_control (live_of es)
    front = sym (from_until (is_point p.point) (live_of es) (controlled (live_of es) p.point lives_at)) ∙ ap from_control whole

    leaves_at : blocks_at (live_of es) counted p.point ≡ left
    leaves_at = at_point (live_of es) w.base counted p.point steady.sound lives_at ∙ ap (λ (l : List Event). replay l w.base) front ∙ sym (steady.restored p is)

    goes_old : GoesToLast
    goes_old = record {
      last = cut.last ∙ ap (λ n. Some n) o.point_is;
      lives = subst (λ n. IsLive (live_of es) n) o.point_is lives_at;
      leaves = ap (λ n. blocks_at (live_of es) counted n) (sym o.point_is) ∙ leaves_at;
    }

  goes : GoesToLast
  goes = by_case begins refl
    where
      by_case : (b : Bool) → begins ≡ b → GoesToLast
      by_case true is = goes_new is
      by_case false is = goes_old is

  -- the points without their Schemas
  abbrev bare : List LivePoint
  bare = live_points (live_of es) counted

  listed : ListsPoints (live_of es) counted bare
  listed = points_listed (live_of es) (next_of es) counted w.stands.kept.numbered

  found : (n : ℕ) × (last_number (points_of t files) ≡ Some n)
  found = last_some es bare point (listed.all point goes.lives)

  top : IsTop (live_of es) counted bare found.0 (last_blocks (λ f. []) (points_of t files))
  top = top_is (live_of es) counted es (λ f. []) bare found.0 listed.rises listed.lives found.1

  same : found.0 ≡ point
  same =
      let l = (last_lives (history_of es) (next_of es) w.stands.kept.numbered).points found.0 top.has_it.lives in
      let at : l.last ≡ point = some_is l.last point (sym l.is ∙ goes.last) in
      let le : l.last ≤ found.0 = top.top l.last (listed.all l.last l.lives) in
      omega (arith, le, l.not_above, at)

  -- the last point is that of the restore
  pub last_is : last_number (points_of t files) ≡ Some point
  last_is = found.1 ∙ ap (λ n. Some n) same

  -- and what the restore is to leave is the content there
  pub left_is : last_blocks (λ f. []) (points_of t files) ≡ left
  left_is = sym top.has_it.same ∙ ap (λ n. blocks_at (live_of es) counted n) same ∙ goes.leaves
