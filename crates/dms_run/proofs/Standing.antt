-- What the points that files hold say of their entries.
use Rattle.std.proofs.Common.{ℕ, ◌≡◌, ◌≤◌, ◌<◌, ◌==◌, ◌∙◌, List, [], ◌∷◌, ◌++◌, map, true, false, refl, sym, subst, ap, arith, Some}
use Rattle.dms_desc.specs.Shape.{Described}
use Rattle.dms_desc_bytes.specs.Spelling.{spelling}
use Rattle.dms_desc_bytes.specs.WellFormed.{IsWellFormed}
use Rattle.dms_history.specs.Events.{Event, Stored}
use Rattle.dms_history.specs.Entries.{Entry}
use Rattle.dms_history.specs.Agrees.{Numbered}
use Rattle.dms_history.specs.EntryEvents.{history_of, live_of, next_of, Agrees}
use Rattle.dms_history.specs.History.{last_point}
use Rattle.dms_history.specs.Pick.{blocks_at}
use Rattle.dms_history.specs.Places.{IsLive}
use Rattle.dms_history.specs.SchemaAt.{schema_at}
use Rattle.dms_history.specs.Here.{here}
use Rattle.dms_history.specs.Lists.{has}
use Rattle.dms_history.specs.Points.{LivePoint, live_points, HasPoint, AllLive, AllAbove, Rises, ListsPoints, numbers_of}
use Rattle.dms_history.proofs.Listed.{points_listed}
use Rattle.dms_history.proofs.Order.{last_lives}
use Rattle.dms_model.specs.Db.{Db}
use Rattle.dms_model.specs.Valid.{IsValid}
use Rattle.dms_model.specs.Points.{Quiet}
use Rattle.dms_running.specs.Standing.{IsWhole}
use Rattle.dms_running.specs.Points.{DescribedPoint, described_in, points_of}
use Rattle.dms_running.specs.FromDumps.{DumpsInOrder}
use Rattle.dms_running.proofs.Described.{schema_there}
use Rattle.dms_running.proofs.Wholes.{whole_agrees}
use Rattle.dms_site.specs.Files.{Files, stored_of}
use Rattle.dms_store.specs.Spelled.{database_in}
use Rattle.dms_audfile.specs.TrailEntries.{trail_entries}
use Rattle.dms_restore.specs.Dumped.{IsDumpFound, dumps_of}
use Rattle.dms_restore.specs.Logging.{telling_of}
use Rattle.dms_run.specs.State.{StateAt, StateOf}
use Rattle.dms_run.specs.States.{LivesEndWith, HasLive}
use Rattle.dms_run.specs.Files.{StandsLaw}
use Rattle.dms_run.proofs.Lives.{live_one, or_cases, same_number}

-- ---- the last of rising numbers is the greatest

above_last : (x n : ℕ) (ns : List ℕ) → AllAbove x (ns ++ n ∷ []) → x < n
above_last x n [] h = h.0
above_last x n (m ∷ ns) h = above_last x n ns h.1

greatest : (ns : List ℕ) (n m : ℕ) → Rises (ns ++ n ∷ []) → has (λ (k : ℕ). k == m) (ns ++ n ∷ []) ≡ true → m ≤ n
greatest [] n m rises is = or_cases (n == m) false (λ e. omega (arith, same_number n m e)) (λ e. absurd (cc)) is
greatest (x ∷ xs) n m rises is =
    or_cases (x == m) (has (λ (k : ℕ). k == m) (xs ++ n ∷ [])) (λ e. omega (arith, same_number x m e, above_last x n xs rises.0)) (λ e. greatest xs n m rises.1 e) is

numbers_end : (xs : List LivePoint) (p : LivePoint) → numbers_of (xs ++ p ∷ []) ≡ numbers_of xs ++ p.number ∷ []
numbers_end [] p = refl
numbers_end (x ∷ xs) p = ap (λ (l : List ℕ). x.number ∷ l) (numbers_end xs p)

-- ---- points without their Schemas

-- the live point that stands there under its Schema
pub record Bare (es : List Entry) (ps : List LivePoint) (before : List DescribedPoint) (p : DescribedPoint) (behind : List DescribedPoint) : Type 0 where
  pub front : List LivePoint
  pub point : LivePoint
  pub after : List LivePoint
  pub are : ps ≡ front ++ point ∷ after
  pub is : described_in es point ≡ p
  pub rest : map (described_in es) after ≡ behind

pub bare_of : (es : List Entry) (ps : List LivePoint) (before : List DescribedPoint) (p : DescribedPoint) (behind : List DescribedPoint) → map (described_in es) ps ≡ before ++ p ∷ behind → Bare es ps before p behind
bare_of es [] [] p behind e = absurd (cc)
bare_of es [] (b ∷ bs) p behind e = absurd (cc)
bare_of es (x ∷ xs) [] p behind e = record { front = []; point = x; after = xs; are = refl; is = cc; rest = cc }
bare_of es (x ∷ xs) (b ∷ bs) p behind e =
    let tails : map (described_in es) xs ≡ bs ++ p ∷ behind = cc in
    let r = bare_of es xs bs p behind tails in
    record { front = x ∷ r.front; point = r.point; after = r.after; are = ap (λ (l : List LivePoint). x ∷ l) r.are; is = r.is; rest = r.rest }

none_behind : (es : List Entry) (ps : List LivePoint) → map (described_in es) ps ≡ [] → ps ≡ []
none_behind es [] e = refl
none_behind es (p ∷ ps) e = absurd (cc)

-- ---- what entries tell with some blocks

module _ (entries : List Entry) (counted : Stored) (desc : Described) (numbered : Numbered (live_of entries) (next_of entries)) where
  abbrev live : List Event
  live = live_of entries

  -- the points without their Schemas
  abbrev bare_points : List LivePoint
  bare_points = live_points live counted

  listed : ListsPoints live counted bare_points
  listed = points_listed live (next_of entries) counted numbered

  -- what the entries tell at a point
  abbrev pub TellsAt : ℕ → Db → Type 0
  TellsAt n db = IsLive live n × (schema_at entries n ≡ Some (spelling desc)) × (database_in desc (blocks_at live counted n) ≡ Some db)

  module _ (front after : List DescribedPoint) (p : DescribedPoint) (n : ℕ) (db : Db) (are : map (described_in entries) bare_points ≡ front ++ p ∷ after) (number : p.number ≡ n) (schema : p.schema ≡ spelling desc)
      (spells : database_in desc p.blocks ≡ Some db) where
    abbrev bare_one : Bare entries bare_points front p after
    bare_one = bare_of entries bare_points front p after are

    has_point : HasPoint live counted bare_one.point.number bare_one.point.blocks
    has_point = live_one live counted bare_one.front bare_one.point bare_one.after (subst (AllLive live counted) bare_one.are listed.lives)

    same_number_there : bare_one.point.number ≡ n
    same_number_there = ap (λ (q : DescribedPoint). q.number) bare_one.is ∙ number

    pub tells_at : TellsAt n db
    tells_at = subst (λ (k : ℕ). TellsAt k db) same_number_there (
      has_point.lives,
      schema_there entries bare_one.point.number has_point.lives ∙ ap (λ (l : List ℕ). Some l) (ap (λ (q : DescribedPoint). q.schema) bare_one.is ∙ schema),
      ap (database_in desc) (has_point.same ∙ ap (λ (q : DescribedPoint). q.blocks) bare_one.is) ∙ spells,
    )

    -- the last of them is the last point
    pub last_at : after ≡ [] → last_point (history_of entries) ≡ Some n
    last_at none =
        let l = (last_lives (history_of entries) (next_of entries) numbered).points bare_one.point.number has_point.lives in
        let ends : bare_points ≡ bare_one.front ++ bare_one.point ∷ [] = bare_one.are ∙ ap (λ (r : List LivePoint). bare_one.front ++ bare_one.point ∷ r) (none_behind entries bare_one.after (bare_one.rest ∙ none)) in
        let numbers : numbers_of bare_points ≡ numbers_of bare_one.front ++ bare_one.point.number ∷ [] = ap numbers_of ends ∙ numbers_end bare_one.front bare_one.point in
        let top : l.last ≤ bare_one.point.number =
        greatest (numbers_of bare_one.front) bare_one.point.number l.last (subst Rises numbers listed.rises)
        (subst (λ (ns : List ℕ). has (λ (k : ℕ). k == l.last) ns ≡ true) numbers (listed.all l.last l.lives)) in
        let same : l.last ≡ n = omega (arith, top, l.not_above, same_number_there) in
        l.is ∙ ap (λ (k : ℕ). Some k) same

-- ---- of files that hold a database

module _ (total first : ℕ) (files : Files) (desc : Described) (well : IsWellFormed desc) (w : IsWhole (telling_of total first) files) where
  abbrev all : List Entry
  all = trail_entries total first files

  abbrev counts : Stored
  counts = here (dumps_of files) (history_of all) (stored_of files)

  agrees : Agrees (w.found.finds.trail.first == 10001) all (dumps_of files) (stored_of files)
  agrees = subst (λ (k : ℕ). Agrees (k == 10001) all (dumps_of files) (stored_of files)) (sym w.found.first_is) (whole_agrees (telling_of total first) files w)

  order : DumpsInOrder (IsDumpFound w.found.finds.trail.first files) (dumps_of files) (history_of all).pending
  order = subst (λ (k : ℕ). DumpsInOrder (IsDumpFound k files) (dumps_of files) (history_of all).pending) (sym w.found.first_is) w.order

  abbrev state_by : (n : ℕ) (db : Db) → IsValid desc db → TellsAt all counts desc w.stands.kept.numbered n db → StateAt files n desc db
  state_by n db valid t = record { entries = all; finds = w.found.finds; agrees = agrees; order = order; lives = t.0; described = t.1; well_formed = well; spells = t.2; valid = valid }

  live_state : (q : Quiet) → IsValid desc q.1 → HasLive desc (points_of (telling_of total first) files) q → StateAt files q.0 desc q.1
  live_state q valid h = state_by q.0 q.1 valid (tells_at all counts desc w.stands.kept.numbered h.before h.after h.point q.0 q.1 h.are h.number h.schema h.spells)

  last_state : (n : ℕ) (db : Db) → IsValid desc db → LivesEndWith desc (points_of (telling_of total first) files) n db → StateOf files n desc db
  last_state n db valid s = record {
    at_point = state_by n db valid (tells_at all counts desc w.stands.kept.numbered s.before [] s.point n db s.are s.number s.schema s.spells);
    last = last_at all counts desc w.stands.kept.numbered s.before [] s.point n db s.are s.number s.schema s.spells refl;
  }

pub stands : StandsLaw
stands = record {
  at = λ total first files desc q well valid w h. live_state total first files desc well w q valid h;
  last = λ total first files desc n db well valid w s. last_state total first files desc well w n db valid s;
  next = λ total first files w. record { entries = trail_entries total first files; finds = w.found.finds; is = refl };
}
