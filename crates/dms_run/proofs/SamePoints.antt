-- Points that two databases have in common.
use Rattle.std.proofs.Common.{ℕ, ◌≡◌, List, ◌∷◌, ◌++◌, map, Option, Some, refl, sym, ◌∙◌, ap, subst, append_assoc}
use Rattle.std.proofs.lemmas.List.{map-append}
use Rattle.dms_desc.specs.Shape.{Described}
use Rattle.dms_site.specs.Files.{Files, stored_of}
use Rattle.dms_model.specs.Db.{Db}
use Rattle.dms_store.specs.Spelled.{database_in}
use Rattle.dms_history.specs.Events.{AllBlocks, Stored, Event}
use Rattle.dms_history.specs.Here.{here}
use Rattle.dms_history.specs.Pick.{blocks_at}
use Rattle.dms_history.specs.Places.{IsLive}
use Rattle.dms_history.specs.Points.{LivePoint, live_points, AllLive, ListsPoints}
use Rattle.dms_history.specs.Entries.{Entry}
use Rattle.dms_history.specs.EntryEvents.{history_of, live_of, next_of}
use Rattle.dms_history.specs.SchemaAt.{schema_at}
use Rattle.dms_history.proofs.Listed.{points_listed}
use Rattle.dms_audfile.specs.TrailEntries.{trail_entries}
use Rattle.dms_running.specs.Standing.{IsWhole}
use Rattle.dms_running.specs.Points.{DescribedPoint, described_in, points_of}
use Rattle.dms_running.proofs.Described.{schema_there}
use Rattle.dms_restore.specs.Dumped.{dumps_of}
use Rattle.dms_restore.specs.Logging.{telling_of}
use Rattle.dms_run.specs.SamePoint.{LivesIn, SamePoint, StatesStay, content_in}
use Rattle.dms_run.proofs.Lives.{at_number, live_one, one_found}
use Rattle.dms_run.proofs.Standing.{bare_of}

-- One of these points has this number, this Schema, and these blocks.
pub record HasPointOf (ps : List DescribedPoint) (n : ℕ) (schema : Option (List ℕ)) (blocks : AllBlocks) : Type 0 where
  pub before : List DescribedPoint
  pub point : DescribedPoint
  pub after : List DescribedPoint
  pub are : ps ≡ before ++ point ∷ after
  pub number : point.number ≡ n
  pub schema_is : Some point.schema ≡ schema
  pub blocks_are : point.blocks ≡ blocks

-- it is among more points
pub has_behind : (ps more : List DescribedPoint) (n : ℕ) (schema : Option (List ℕ)) (blocks : AllBlocks) → HasPointOf ps n schema blocks → HasPointOf (ps ++ more) n schema blocks
has_behind ps more n schema blocks h = record {
  before = h.before;
  point = h.point;
  after = h.after ++ more;
  are = ap (λ (l : List DescribedPoint). l ++ more) h.are ∙ append_assoc h.before (h.point ∷ h.after) more;
  number = h.number;
  schema_is = h.schema_is;
  blocks_are = h.blocks_are;
}

-- ---- of files that hold a database

module _ (total first : ℕ) (files : Files) (w : IsWhole (telling_of total first) files) where
  abbrev es : List Entry
  es = trail_entries total first files

  abbrev live : List Event
  live = live_of es

  abbrev counted : Stored
  counted = here (dumps_of files) (history_of es) (stored_of files)

  abbrev bare : List LivePoint
  bare = live_points live counted

  listed : ListsPoints live counted bare
  listed = points_listed live (next_of es) counted w.stands.kept.numbered

  -- a live point is one of those that they hold
  there : (n : ℕ) → IsLive live n → HasPointOf (points_of (telling_of total first) files) n (schema_at es n) (blocks_at live counted n)
  there n lives =
      let at = at_number bare n (listed.all n lives) in
      let p = live_one live counted at.front at.point at.behind (subst (AllLive live counted) at.are listed.lives) in
      record {
        before = map (described_in es) at.front;
        point = described_in es at.point;
        after = map (described_in es) at.behind;
        are = ap (map (described_in es)) at.are ∙ map-append (described_in es) at.front (at.point ∷ at.behind);
        number = at.number;
        schema_is = sym (schema_there es at.point.number p.lives) ∙ ap (λ (k : ℕ). schema_at es k) at.number;
        blocks_are = sym p.same ∙ ap (λ (k : ℕ). blocks_at live counted k) at.number;
      }

  -- and each of those is live
  back : (n : ℕ) (schema : Option (List ℕ)) (blocks : AllBlocks) → HasPointOf (points_of (telling_of total first) files) n schema blocks → IsLive live n × (schema_at es n ≡ schema) × (blocks_at live counted n ≡ blocks)
  back n schema blocks h =
      let b = bare_of es bare h.before h.point h.after h.are in
      let p = live_one live counted b.front b.point b.after (subst (AllLive live counted) b.are listed.lives) in
      let number : b.point.number ≡ n = ap (λ (q : DescribedPoint). q.number) b.is ∙ h.number in
      subst (λ (k : ℕ). IsLive live k × (schema_at es k ≡ schema) × (blocks_at live counted k ≡ blocks)) number (
        p.lives,
        schema_there es b.point.number p.lives ∙ ap (λ (l : List ℕ). Some l) (ap (λ (q : DescribedPoint). q.schema) b.is) ∙ h.schema_is,
        p.same ∙ ap (λ (q : DescribedPoint). q.blocks) b.is ∙ h.blocks_are,
      )

-- ---- of two databases

-- a live point whose number, Schema and blocks are among the points of another database
pub same_point : (total first : ℕ) (old new : Files) → IsWhole (telling_of total first) old → IsWhole (telling_of total first) new → (n : ℕ)
    → ((schema : Option (List ℕ)) (blocks : AllBlocks) → HasPointOf (points_of (telling_of total first) old) n schema blocks → HasPointOf (points_of (telling_of total first) new) n schema blocks)
    → LivesIn old n → SamePoint old new n
same_point total first old new w then n keeps l =
    let before : List Entry = trail_entries total first old in
    let lives : IsLive (live_of before) n = subst (λ (es : List Entry). IsLive (live_of es) n) (one_found old l.entries before l.finds w.found.finds) l.lives in
    let b = back total first new then n _ _ (keeps _ _ (there total first old w n lives)) in
    record {
      then = record { entries = before; finds = w.found.finds; lives = lives };
      now = record { entries = trail_entries total first new; finds = then.found.finds; lives = b.0 };
      first_same = then.found.first_is ∙ sym w.found.first_is;
      schema_same = b.1;
      content_same = b.2;
    }

pub states_stay : StatesStay
states_stay old new n desc db m d other same at now =
    let before : same.then.entries ≡ at.entries = one_found old same.then.entries at.entries same.then.finds at.finds in
    let after : same.now.entries ≡ now.entries = one_found new same.now.entries now.entries same.now.finds now.finds in
    record {
      entries = now.entries;
      finds = now.finds;
      agrees = now.agrees;
      order = now.order;
      lives = subst (λ (es : List Entry). IsLive (live_of es) n) after same.now.lives;
      described = sym (ap (λ (es : List Entry). schema_at es n) after) ∙ same.schema_same ∙ ap (λ (es : List Entry). schema_at es n) before ∙ at.described;
      well_formed = at.well_formed;
      spells = ap (database_in desc) (sym (ap (λ (es : List Entry). content_in new es n) after) ∙ same.content_same ∙ ap (λ (es : List Entry). content_in old es n) before) ∙ at.spells;
      valid = at.valid;
    }
