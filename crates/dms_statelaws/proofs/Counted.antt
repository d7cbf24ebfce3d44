-- The states of files over which a pending restore is ended before a reconstruction.
use Rattle.std.proofs.Common.{ℕ, ◌≡◌, ◌==◌, Bool, List, [], ◌++◌, take, Some, inl, inr, ⊎_elim, refl, sym, ◌∙◌, ap, subst}
use Rattle.dms_desc.specs.Shape.{Described}
use Rattle.dms_desc_bytes.specs.WellFormed.{IsWellFormed}
use Rattle.dms_model.specs.Db.{Db}
use Rattle.dms_model.specs.Valid.{IsValid}
use Rattle.dms_moments.specs.Moments.{Clock, Runs}
use Rattle.dms_moments.specs.MomentLaws.{runs_weaken}
use Rattle.dms_site.specs.Files.{Files, Left, stored_of}
use Rattle.dms_history.specs.Agrees.{Numbered}
use Rattle.dms_history.specs.Events.{Stored}
use Rattle.dms_history.specs.Entries.{Entry}
use Rattle.dms_history.specs.EntryEvents.{history_of, live_of, next_of, Agrees}
use Rattle.dms_history.specs.Here.{here}
use Rattle.dms_history.specs.History.{last_point}
use Rattle.dms_history.specs.Places.{IsLive}
use Rattle.dms_audfile.specs.ScanLaws.{IsFoundWith}
use Rattle.dms_audfile.specs.TrailEntries.{trail_entries}
use Rattle.dms_running.specs.FirstLaws.{as_counted}
use Rattle.dms_running.specs.FromDumps.{DumpsInOrder}
use Rattle.dms_running.specs.Points.{points_of}
use Rattle.dms_running.specs.Standing.{IsWhole}
use Rattle.dms_running.proofs.Wholes.{stands_agrees}
use Rattle.dms_restore.specs.Dumped.{IsDumpFound, dumps_of}
use Rattle.dms_restore.specs.Finding.{IsFoundFrom}
use Rattle.dms_restore.specs.Logging.{telling_of}
use Rattle.dms_opening.specs.Openings.{ending_entries}
use Rattle.dms_recovery.specs.Leaving.{HoldsCounted}
use Rattle.dms_run.specs.State.{StateAt, StateOf}
use Rattle.dms_run.specs.States.{LivesEndWith}
use Rattle.dms_run.proofs.Lives.{one_found, next_is_one, state_lives}
use Rattle.dms_run.proofs.Standing.{TellsAt, tells_at, last_at}
use Rattle.dms_statelaws.specs.Dumps.{SameBesideBlocks}
use Rattle.dms_statelaws.specs.Standing.{NoneLater}
use Rattle.dms_statelaws.specs.Pending.{HasPending, StateWith, StandsWith, SealsItsEnd, GoesFirst}
use Rattle.dms_statelaws.specs.Statements.{LeavesMended}
use Rattle.dms_statelaws.specs.Stopping.{MendsTo}
use Rattle.dms_statelaws.proofs.Kept.{none_over, state_ends, up_to_stands}
use Rattle.dms_statelaws.proofs.Stays.{untouched_still}

module _ (total first : ℕ) (files u : Files) (named : ℕ → ℕ → Bool) (n : ℕ) (desc : Described) (db : Db) (x : Files) (w : IsWhole (telling_of total first) u) (s : StateOf u n desc db) (same : SameBesideBlocks files u)
    (entries_same : trail_entries total first files ≡ trail_entries total first u) (h : HoldsCounted (telling_of total first) files u named x) where
  abbrev before : List Entry
  before = trail_entries total first u

  abbrev there : List Entry
  there = trail_entries total first x

  abbrev blocks : Stored
  blocks = as_counted (dumps_of u) before named (stored_of u) x

  abbrev counted : Stored
  counted = here (dumps_of x) (history_of there) blocks

  abbrev numbered : Numbered (live_of there) (next_of there)
  numbered = h.stands.kept.numbered

  -- ---- what was sealed

  abbrev has : HasPending u
  has = record { entries = before; finds = w.found.finds; pending = h.pending; is = subst (λ (l : List Entry). (history_of l).pending ≡ Some h.pending) entries_same h.was }

  sealed : SealsItsEnd u has x
  sealed = record {
    some = h.some;
    schema = h.schema;
    counts = h.counts;
    finds = subst (λ (l : List Entry). IsFoundWith l x) (h.sealed ∙ ap (λ (l : List Entry). l ++ take h.some (ending_entries h.pending.point (next_of l) h.schema h.counts)) entries_same) h.found.finds;
    dumps = λ g low up. h.dumps_same g low up ∙ same g up;
  }

  -- ---- the states, with those blocks

  agrees : Agrees (h.found.finds.trail.first == 10001) there (dumps_of x) blocks
  agrees = subst (λ (k : ℕ). Agrees (k == 10001) there (dumps_of x) blocks) (sym h.found.first_is) (stands_agrees (first == 10001) there (dumps_of x) h.base blocks h.stands)

  order : DumpsInOrder (IsDumpFound h.found.finds.trail.first x) (dumps_of x) (history_of there).pending
  order = subst (λ (k : ℕ). DumpsInOrder (IsDumpFound k x) (dumps_of x) (history_of there).pending) (sym h.found.first_is) h.order

  abbrev state_by : (d : Described) (well : IsWellFormed d) (m : ℕ) (then : Db) → IsValid d then → TellsAt there counted d numbered m then → StateWith x blocks m d then
  state_by d well m then valid t = record { entries = there; finds = h.found.finds; agrees = agrees; order = order; lives = t.0; described = t.1; well_formed = well; spells = t.2; valid = valid }

  state_there : (d : Described) (m : ℕ) (then : Db) → StateAt u m d then → StateWith x blocks m d then
  state_there d m then a =
      let l = state_lives total first u w m d then a in
      state_by d a.well_formed m then a.valid (tells_at there counted d numbered l.before l.after l.point m then (h.points ∙ l.are) l.number l.schema l.spells)

  ends : LivesEndWith desc (points_of (telling_of total first) u) n db
  ends = state_ends total first u w n desc db s

  last_there : last_point (history_of there) ≡ Some n
  last_there = last_at there counted desc numbered ends.before [] ends.point n db (h.points ∙ ends.are) ends.number ends.schema ends.spells refl

  none_later : NoneLater x n
  none_later m l = none_over there numbered n m last_there (subst (λ (es : List Entry). IsLive (live_of es) m) (one_found x l.entries there l.finds h.found.finds) l.lives)

  stands : StandsWith u n desc db x blocks
  stands = record {
    state = state_by desc s.at_point.well_formed n db s.at_point.valid (tells_at there counted desc numbered ends.before [] ends.point n db (h.points ∙ ends.are) ends.number ends.schema ends.spells);
    last = last_there;
    none_later = none_later;
    keeps = state_there;
    next = λ next is. record { entries = there; finds = h.found.finds; is = h.next_same ∙ next_is_one total first next u w is };
  }

  pub counted_state : GoesFirst named u n desc db x
  counted_state = record { has = has; sealed = sealed; stands = stands }

-- ---- with clocks

pub mends_state : (total first : ℕ) (files u : Files) (named : ℕ → ℕ → Bool) (n : ℕ) (desc : Described) (db : Db) (a b : Clock Left) → IsFoundFrom total first files → IsWhole (telling_of total first) u → StateOf u n desc db → SameBesideBlocks files u
    → trail_entries total first files ≡ trail_entries total first u → Runs a b (MendsTo (telling_of total first) files u named n) → Runs a b (LeavesMended named files u n desc db)
mends_state total first files u named n desc db a b found w s same entries_same runs = runs_weaken runs (λ x. ⊎_elim
    (⊎_elim
    (λ un. inl (inl (untouched_still total first files x found un.0 un.1)))
    (λ cut. inl (inr (up_to_stands total first u w n desc db s.at_point x.files cut))))
    (λ holds. inr (counted_state total first files u named n desc db x.files w s same entries_same holds)))
