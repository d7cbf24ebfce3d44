-- The states that files stand for which hold a database with the points of another one.
use Rattle.std.proofs.Common.{ℕ, ◌-◌, ◌≤◌, ◌≡◌, List, [], ◌∷◌, ◌++◌, Some, sym, ◌∙◌, ap, subst, arith}
use Rattle.dms_desc.specs.Shape.{Described}
use Rattle.dms_desc_bytes.specs.Spelling.{spelling}
use Rattle.dms_model.specs.Db.{Db}
use Rattle.dms_site.specs.Files.{Files, stored_of}
use Rattle.dms_store.specs.Spelled.{database_in}
use Rattle.dms_history.specs.Agrees.{Numbered}
use Rattle.dms_history.specs.Events.{Stored}
use Rattle.dms_history.specs.Here.{here}
use Rattle.dms_history.specs.History.{last_point}
use Rattle.dms_history.specs.Pick.{blocks_at}
use Rattle.dms_history.specs.Places.{IsLive}
use Rattle.dms_history.specs.Points.{Rises, live_points}
use Rattle.dms_history.specs.Entries.{Entry}
use Rattle.dms_history.specs.EntryEvents.{history_of, live_of, next_of}
use Rattle.dms_history.specs.SchemaAt.{schema_at}
use Rattle.dms_history.proofs.Listed.{points_listed}
use Rattle.dms_history.proofs.Order.{last_lives}
use Rattle.dms_history.proofs.Picks.{some_is}
use Rattle.dms_audfile.specs.Header.{blocks_said}
use Rattle.dms_audfile.specs.TrailEntries.{trail_entries}
use Rattle.dms_audfile.specs.TrailLaws.{IsWritersTrail}
use Rattle.dms_audfile.proofs.Followed.{fits_says}
use Rattle.dms_running.specs.Points.{DescribedPoint, points_of}
use Rattle.dms_running.specs.Standing.{IsWhole}
use Rattle.dms_restore.specs.Dumped.{dumps_of}
use Rattle.dms_restore.specs.Logging.{telling_of}
use Rattle.dms_opening.specs.Openings.{IsTrailFound}
use Rattle.dms_audfile.proofs.There.{span_first}
use Rattle.dms_run.specs.State.{StateAt, StateOf, HasNext}
use Rattle.dms_run.specs.States.{HasLive, LivesEndWith}
use Rattle.dms_run.proofs.Held as held
use Rattle.dms_run.proofs.Lives.{one_found, next_is_one, state_lives, ends_with}
use Rattle.dms_run.proofs.SamePoints.{HasPointOf, same_point}
use Rattle.dms_run.proofs.Standing.{stands}
use Rattle.dms_statelaws.specs.Standing.{NoneLater, StandsFrom}
use Rattle.dms_running.specs.AnyLaws.{HoldsSame}
use Rattle.dms_recovery.specs.Leaving.{described_to, HoldsUpTo}
use Rattle.dms_statelaws.proofs.UpTo.{numbers, numbers_described, cut_there, has_up_to, front_taken}

-- ---- files that stand for a state hold a database, along the trail that is found in them

module _ (total first : ℕ) (files : Files) (n : ℕ) (desc : Described) (db : Db) (trail : IsTrailFound total first files) (a : StateAt files n desc db) where
  abbrev k : IsWritersTrail a.finds.trail.first a.finds.trail.last files
  k = held.placed_trail files n desc db a

  first_same : a.finds.trail.first ≡ first
  first_same =
      let s = a.finds.trail in
      let t = trail.found.trail in
      omega (arith, trail.found.first_is, span_first files s.first s.last t.first t.last s.span t.span, span_first files t.first t.last s.first s.last t.span s.span)

  total_same : k.total ≡ total
  total_same =
      let one = fits_says (a.finds.trail.first - 10000) k.total (files a.finds.trail.first) (k.writes.fits a.finds.trail.first (omega arith) k.writes.order) in
      let two = fits_says (first - 10000) total (files first) (trail.writes.fits first (omega arith) trail.writes.order) in
      one.1 ∙ ap (λ (j : ℕ). blocks_said (files j)) first_same ∙ sym two.1

  pub is_whole : IsWhole (telling_of total first) files
  is_whole = subst (λ (j : ℕ). IsWhole (telling_of j first) files) total_same (subst (λ (j : ℕ). IsWhole (telling_of k.total j) files) first_same (held.whole files n desc db a))

-- ---- no live point is above the last one

pub none_over : (es : List Entry) → Numbered (live_of es) (next_of es) → (n m : ℕ) → last_point (history_of es) ≡ Some n → IsLive (live_of es) m → m ≤ n
none_over es numbered n m last lives =
    let l = (last_lives (history_of es) (next_of es) numbered).points m lives in
    omega (arith, l.not_above, some_is l.last n (sym l.is ∙ last))

module _ (total first : ℕ) (files : Files) (w : IsWhole (telling_of total first) files) where
  abbrev all : List Entry
  all = trail_entries total first files

  none_above : (n m : ℕ) → last_point (history_of all) ≡ Some n → IsLive (live_of all) m → m ≤ n
  none_above = none_over all w.stands.kept.numbered

  module _ (n : ℕ) (desc : Described) (db : Db) (s : StateOf files n desc db) where
    same : s.at_point.entries ≡ all
    same = one_found files s.at_point.entries all s.at_point.finds w.found.finds

    last : last_point (history_of all) ≡ Some n
    last = ap (λ (es : List Entry). last_point (history_of es)) (sym same) ∙ s.last

    pub none_later : NoneLater files n
    none_later m l = none_above n m last (subst (λ (es : List Entry). IsLive (live_of es) m) (one_found files l.entries all l.finds w.found.finds) l.lives)

    -- its points end with that state
    pub state_ends : LivesEndWith desc (points_of (telling_of total first) files) n db
    state_ends =
        let a = s.at_point in
        ends_with total first files w n desc db (subst (λ (es : List Entry). IsLive (live_of es) n) same a.lives)
        (subst (λ (es : List Entry). schema_at es n ≡ Some (spelling desc)) same a.described)
        (subst (λ (es : List Entry). database_in desc (blocks_at (live_of es) (here (dumps_of files) (history_of es) (stored_of files)) n) ≡ Some db) same a.spells)
        (λ m lives. none_above n m last lives)

  pub points_rise : Rises (numbers (points_of (telling_of total first) files))
  points_rise =
      let counted : Stored = here (dumps_of files) (history_of all) (stored_of files) in
      subst Rises (sym (numbers_described all (live_points (live_of all) counted))) (points_listed (live_of all) (next_of all) counted w.stands.kept.numbered).rises

-- ---- the points up to one

module _ (total first : ℕ) (old : Files) (w : IsWhole (telling_of total first) old) (m : ℕ) (desc : Described) (db : Db) (at : StateAt old m desc db) (new : Files) (h : HoldsUpTo (telling_of total first) old m new) where
  abbrev points : List DescribedPoint
  points = points_of (telling_of total first) old

  lives : HasLive desc points (m, db)
  lives = state_lives total first old w m desc db at

  cut : described_to m points ≡ lives.before ++ lives.point ∷ []
  cut = ap (described_to m) lives.are ∙ cut_there m lives.before lives.point lives.after (subst (λ (l : List DescribedPoint). Rises (numbers l)) lives.are (points_rise total first old w)) lives.number

  ends : LivesEndWith desc (points_of (telling_of total first) new) m db
  ends = record { before = lives.before; point = lives.point; are = h.points_are ∙ cut; number = lives.number; schema = lives.schema; spells = lives.spells }

  state : StateOf new m desc db
  state = stands.last total first new desc m db at.well_formed at.valid h.whole ends

  pub up_to_stands : StandsFrom old m desc db new
  up_to_stands = record {
    state = state;
    none_later = none_later total first new h.whole m desc db state;
    keeps = λ j le live. same_point total first old new w h.whole j
        (λ schema blocks p. subst (λ (l : List DescribedPoint). HasPointOf l j schema blocks) (sym h.points_are) (has_up_to m points j schema blocks (points_rise total first old w) le p)) live;
    next = λ next has. subst (HasNext new) (h.next_same ∙ next_is_one total first next old w has) (stands.next total first new h.whole);
  }

-- ---- all points

all_up_to : (n : ℕ) (ps front : List DescribedPoint) (p : DescribedPoint) → ps ≡ front ++ p ∷ [] → p.number ≡ n → Rises (numbers ps) → described_to n ps ≡ ps
all_up_to n ps front p are number rises =
    ap (described_to n) are ∙ front_taken n front p [] (subst (λ (l : List DescribedPoint). Rises (numbers l)) are rises) (omega (arith, number)) ∙ sym are

pub all_stands : (total first : ℕ) (old : Files) (w : IsWhole (telling_of total first) old) (n : ℕ) (desc : Described) (db : Db) (s : StateOf old n desc db) (new : Files) → HoldsSame (telling_of total first) old new → StandsFrom old n desc db new
all_stands total first old w n desc db s new h =
    let e = state_ends total first old w n desc db s in
    let points = points_of (telling_of total first) old in
    up_to_stands total first old w n desc db s.at_point new (record {
      whole = h.whole;
      points_are = h.points ∙ sym (all_up_to n points e.before e.point e.are e.number (points_rise total first old w));
      next_same = h.next;
    })
