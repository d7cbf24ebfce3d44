-- The points that files hold, by the states that they stand for.
use Rattle.std.proofs.Common.{ℕ, ◌<◌, ◌≤◌, ◌≡◌, ◌==◌, ◌||◌, Bool, true, false, List, [], ◌∷◌, ◌++◌, map, Some, refl, sym, ◌∙◌, ap, subst, arith}
use Rattle.std.proofs.lemmas.Bool.Decides.{nat_tests}
use Rattle.std.proofs.lemmas.List.{map-append}
use Rattle.std.proofs.lemmas.Bool.{true≢false}
use Rattle.dms_desc.specs.Shape.{Described}
use Rattle.dms_desc_bytes.specs.Spelling.{spelling}
use Rattle.dms_site.specs.Files.{Files, stored_of}
use Rattle.dms_model.specs.Db.{Db}
use Rattle.dms_store.specs.Spelled.{database_in}
use Rattle.dms_history.specs.Events.{Stored, Event}
use Rattle.dms_history.specs.Lists.{has}
use Rattle.dms_history.specs.Places.{IsLive}
use Rattle.dms_history.specs.Here.{here}
use Rattle.dms_history.specs.Pick.{blocks_at}
use Rattle.dms_history.specs.Points.{LivePoint, live_points, numbers_of, HasPoint, AllLive, Rises, ListsPoints}
use Rattle.dms_history.specs.Entries.{Entry}
use Rattle.dms_history.specs.EntryEvents.{history_of, live_of, next_of}
use Rattle.dms_history.specs.SchemaAt.{schema_at}
use Rattle.dms_history.proofs.Listed.{points_listed}
use Rattle.dms_audfile.specs.ScanLaws.{IsFoundWith}
use Rattle.dms_audfile.specs.Scanning.{entry_in, found}
use Rattle.dms_audfile.specs.TrailEntries.{trail_entries}
use Rattle.dms_audfile.proofs.There.{is_one_trail}
use Rattle.dms_running.specs.Standing.{IsWhole}
use Rattle.dms_running.specs.Points.{schema_bytes, described_in, points_of}
use Rattle.dms_restore.specs.Dumped.{dumps_of}
use Rattle.dms_restore.specs.Logging.{telling_of}
use Rattle.dms_run.specs.State.{StateAt}
use Rattle.dms_run.specs.States.{LivesEndWith, HasLive}
use Rattle.dms_run.specs.Held.{NextIsOne}

pub or_cases : (a b : Bool) {A : Type 0} → (a ≡ true → A) → (b ≡ true → A) → (a || b) ≡ true → A
or_cases true b one two on = one refl
or_cases false b one two on = two on

pub same_number : (a b : ℕ) → (a == b) ≡ true → a ≡ b
same_number a b on = grind (arith, nat_tests, on)

-- the point of this number among some, and those behind it
pub record AtNumber (ps : List LivePoint) (n : ℕ) : Type 0 where
  pub front : List LivePoint
  pub point : LivePoint
  pub behind : List LivePoint
  pub are : ps ≡ front ++ point ∷ behind
  pub number : point.number ≡ n

pub at_number : (ps : List LivePoint) (n : ℕ) → has (λ (m : ℕ). m == n) (numbers_of ps) ≡ true → AtNumber ps n
at_number [] n on = absurd (true≢false (sym on))
at_number (p ∷ ps) n on = or_cases (p.number == n) (has (λ (m : ℕ). m == n) (numbers_of ps))
    (λ is. record { front = []; point = p; behind = ps; are = refl; number = same_number p.number n is })
    (λ more. let r = at_number ps n more in record { front = p ∷ r.front; point = r.point; behind = r.behind; are = ap (λ (l : List LivePoint). p ∷ l) r.are; number = r.number }) on

above_next : (front : List LivePoint) (p q : LivePoint) (ps : List LivePoint) → Rises (numbers_of (front ++ p ∷ q ∷ ps)) → p.number < q.number
above_next [] p q ps rises = rises.0.0
above_next (x ∷ front) p q ps rises = above_next front p q ps rises.1

pub live_one : (live : List Event) (counted : Stored) (front : List LivePoint) (p : LivePoint) (behind : List LivePoint) → AllLive live counted (front ++ p ∷ behind) → HasPoint live counted p.number p.blocks
live_one live counted [] p behind all = all.0
live_one live counted (x ∷ front) p behind all = live_one live counted front p behind all.1

live_next : (live : List Event) (counted : Stored) (front : List LivePoint) (p q : LivePoint) (ps : List LivePoint) → AllLive live counted (front ++ p ∷ q ∷ ps) → HasPoint live counted q.number q.blocks
live_next live counted [] p q ps all = all.1.0
live_next live counted (x ∷ front) p q ps all = live_next live counted front p q ps all.1

-- no point stands behind one that none is above
none_next : (live : List Event) (counted : Stored) (n : ℕ) → ((m : ℕ) → IsLive live m → m ≤ n) → (front : List LivePoint) (p : LivePoint) (behind : List LivePoint) → p.number ≡ n → Rises (numbers_of (front ++ p ∷ behind))
    → AllLive live counted (front ++ p ∷ behind) → behind ≡ []
none_next live counted n top front p [] number rises lives = refl
none_next live counted n top front p (q ∷ ps) number rises lives =
    absurd (omega (arith, above_next front p q ps rises, number, top q.number (live_next live counted front p q ps lives).lives))

-- scanning finds one list of entries
pub one_found : (files : Files) (xs ys : List Entry) → IsFoundWith xs files → IsFoundWith ys files → xs ≡ ys
one_found files xs ys a b = sym a.are ∙ ap (map entry_in) (one_list (is_one_trail files (found a.placed) (found b.placed) a.trail b.trail)) ∙ b.are
  where
    one_list : found a.placed ≡ found b.placed → a.placed ≡ b.placed
    one_list e = cc

pub next_is_one : NextIsOne
next_is_one total first next files w h = ap next_of (one_found files (trail_entries total first files) h.entries w.found.finds h.finds) ∙ h.is

-- ---- a live point of files that hold a database

module _ (total first : ℕ) (files : Files) (w : IsWhole (telling_of total first) files) where
  abbrev pub all : List Entry
  all = trail_entries total first files

  abbrev pub live : List Event
  live = live_of all

  abbrev pub counted : Stored
  counted = here (dumps_of files) (history_of all) (stored_of files)

  abbrev bare : List LivePoint
  bare = live_points live counted

  listed : ListsPoints live counted bare
  listed = points_listed live (next_of all) counted w.stands.kept.numbered

  module _ (n : ℕ) (desc : Described) (db : Db) (lives : IsLive live n) (described : schema_at all n ≡ Some (spelling desc)) (spells : database_in desc (blocks_at live counted n) ≡ Some db) where
    at : AtNumber bare n
    at = at_number bare n (listed.all n lives)

    all_live : AllLive live counted (at.front ++ at.point ∷ at.behind)
    all_live = subst (AllLive live counted) at.are listed.lives

    schema_there : schema_bytes (schema_at all at.point.number) ≡ spelling desc
    schema_there = ap (λ (k : ℕ). schema_bytes (schema_at all k)) at.number ∙ ap schema_bytes described

    spells_there : database_in desc at.point.blocks ≡ Some db
    spells_there = ap (database_in desc) (sym (live_one live counted at.front at.point at.behind all_live).same ∙ ap (λ (k : ℕ). blocks_at live counted k) at.number) ∙ spells

    -- it is one of those that they hold
    pub has_live : HasLive desc (points_of (telling_of total first) files) (n, db)
    has_live = record {
      before = map (described_in all) at.front;
      point = described_in all at.point;
      after = map (described_in all) at.behind;
      are = ap (map (described_in all)) at.are ∙ map-append (described_in all) at.front (at.point ∷ at.behind);
      number = at.number;
      schema = schema_there;
      spells = spells_there;
    }

    -- and the last one, where none is above it
    pub ends_with : ((m : ℕ) → IsLive live m → m ≤ n) → LivesEndWith desc (points_of (telling_of total first) files) n db
    ends_with top =
        let rises : Rises (numbers_of (at.front ++ at.point ∷ at.behind)) = subst (λ (l : List LivePoint). Rises (numbers_of l)) at.are listed.rises in
        let none = none_next live counted n top at.front at.point at.behind at.number rises all_live in
        record {
          before = map (described_in all) at.front;
          point = described_in all at.point;
          are = ap (map (described_in all)) (at.are ∙ ap (λ (l : List LivePoint). at.front ++ at.point ∷ l) none) ∙ map-append (described_in all) at.front (at.point ∷ []);
          number = at.number;
          schema = schema_there;
          spells = spells_there;
        }

  -- a state at a point that the files stand for
  pub state_lives : (m : ℕ) (desc : Described) (db : Db) → StateAt files m desc db → HasLive desc (points_of (telling_of total first) files) (m, db)
  state_lives m desc db a =
      let same : a.entries ≡ all = one_found files a.entries all a.finds w.found.finds in
      has_live m desc db (subst (λ (es : List Entry). IsLive (live_of es) m) same a.lives)
      (subst (λ (es : List Entry). schema_at es m ≡ Some (spelling desc)) same a.described)
      (subst (λ (es : List Entry). database_in desc (blocks_at (live_of es) (here (dumps_of files) (history_of es) (stored_of files)) m) ≡ Some db) same a.spells)
