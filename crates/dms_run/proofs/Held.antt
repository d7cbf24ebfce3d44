-- Files that stand for a state hold a database.
use Rattle.std.proofs.Common.{ℕ, ◌≤◌, ◌≡◌, ◌==◌, inl, inr, Bool, true, false, List, ◌++◌, map, length, Some, refl, sym, ◌∙◌, ap, subst, arith}
use Rattle.std.proofs.lemmas.Bool.{cases_lt}
use Rattle.dms_desc.specs.Shape.{Described}
use Rattle.dms_desc_bytes.specs.Spelling.{spelling}
use Rattle.dms_site.specs.Files.{Files, stored_of}
use Rattle.dms_model.specs.Db.{Db}
use Rattle.dms_store.specs.Spelled.{is_spelled, db_in, some_if, database_in}
use Rattle.dms_store.specs.Files.{whole_at}
use Rattle.dms_history.specs.Events.{AllBlocks, Stored, Event}
use Rattle.dms_history.specs.Lists.{until_first, after_first}
use Rattle.dms_history.specs.Places.{is_described, is_point, IsLive}
use Rattle.dms_history.specs.History.{last_point}
use Rattle.dms_history.specs.Here.{here}
use Rattle.dms_history.specs.Pick.{count_at, pick, blocks_at}
use Rattle.dms_history.specs.Replay.{Chain, replay}
use Rattle.dms_history.specs.Base.{opening, from_control}
use Rattle.dms_history.specs.Kept.{content_told, Kept}
use Rattle.dms_history.specs.Sizes.{AllSized, ImagesSized}
use Rattle.dms_history.specs.Entries.{Entry}
use Rattle.dms_history.specs.EntryEvents.{events, history_of, live_of, next_of, Agrees}
use Rattle.dms_history.specs.SchemaAt.{schema_at}
use Rattle.dms_history.proofs.Alone.{alone_events}
use Rattle.dms_history.proofs.AtPoints.{split_first}
use Rattle.dms_history.proofs.Base.{parts, content_length}
use Rattle.dms_history.proofs.Given.{at_point, live_from}
use Rattle.dms_history.proofs.HalfDone.{has_front}
use Rattle.dms_history.proofs.LastPending.{pending_cuts}
use Rattle.dms_history.proofs.Order.{last_lives}
use Rattle.dms_history.proofs.Picks.{chain_split, some_is}
use Rattle.dms_history.proofs.Sizing.{sized_base, sized_replay}
use Rattle.dms_audfile.specs.Scanning.{place_in}
use Rattle.dms_audfile.specs.TrailLaws.{IsWritersTrail}
use Rattle.dms_audfile.specs.TrailEntries.{trail_entries}
use Rattle.dms_audfile.proofs.Again.{found_are_entries}
use Rattle.dms_audfile.proofs.Kept.{found_is_kept}
use Rattle.dms_audfile.proofs.There.{entries_are_there}
use Rattle.dms_running.specs.FromDumps.{DumpsInOrder}
use Rattle.dms_running.specs.Standing.{IsWhole}
use Rattle.dms_running.specs.Points.{points_of}
use Rattle.dms_running.proofs.Wholes.{agrees_whole}
use Rattle.dms_restore.specs.Dumped.{IsDumpFound, dumps_of}
use Rattle.dms_restore.specs.Finding.{IsFoundFrom}
use Rattle.dms_restore.specs.Logging.{telling_of}
use Rattle.dms_run.specs.State.{StateAt, StateOf}
use Rattle.dms_run.specs.States.{LivesEndWith}
use Rattle.dms_run.specs.Held.{StatesAreHeld}
use Rattle.dms_run.proofs.Lives.{ends_with}
use Rattle.dms_run.proofs.Fine.{AllFine, FineEvents, all_fine, live_is_fine, fine_behind, fine_until, fine_images, none_reached}

spelled_true : (b : Bool) (x db : Db) → some_if b x ≡ Some db → b ≡ true
spelled_true true x db e = refl
spelled_true false x db e = absurd cc

module _ (files : Files) (n : ℕ) (desc : Described) (db : Db) (s : StateAt files n desc db) where
  abbrev pub placed_trail : IsWritersTrail s.finds.trail.first s.finds.trail.last files
  placed_trail = found_is_kept s.finds.trail.first s.finds.trail.last files s.finds.placed s.finds.trail.span.order s.finds.trail.is

  abbrev pub total : ℕ
  total = placed_trail.total

  abbrev pub first : ℕ
  first = s.finds.trail.first

  abbrev all : List Entry
  all = trail_entries total first files

  found : IsFoundFrom total first files
  found = record {
    finds = record {
      placed = s.finds.placed;
      trail = s.finds.trail;
      are = found_are_entries files s.finds.placed s.finds.trail total placed_trail.tag placed_trail.file placed_trail.count placed_trail.writes;
    };
    first_is = refl;
  }

  same : s.entries ≡ all
  same = sym s.finds.are ∙ found_are_entries files s.finds.placed s.finds.trail total placed_trail.tag placed_trail.file placed_trail.count placed_trail.writes

  abbrev live : List Event
  live = live_of all

  abbrev counted : Stored
  counted = here (dumps_of files) (history_of all) (stored_of files)

  fine : FineEvents live
  fine = live_is_fine all (subst AllFine (found_are_entries files s.finds.placed s.finds.trail total placed_trail.tag placed_trail.file placed_trail.count placed_trail.writes)
      (all_fine files s.finds.placed (entries_are_there files s.finds.placed s.finds.trail)))

  agrees : Agrees (first == 10001) all (dumps_of files) (stored_of files)
  agrees = subst (λ (es : List Entry). Agrees (first == 10001) es (dumps_of files) (stored_of files)) same s.agrees

  lives : IsLive live n
  lives = subst (λ (es : List Entry). IsLive (live_of es) n) same s.lives

  described : schema_at all n ≡ Some (spelling desc)
  described = subst (λ (es : List Entry). schema_at es n ≡ Some (spelling desc)) same s.described

  spells : database_in desc (blocks_at live counted n) ≡ Some db
  spells = subst (λ (es : List Entry). database_in desc (blocks_at (live_of es) (here (dumps_of files) (history_of es) (stored_of files)) n) ≡ Some db) same s.spells

  images : ImagesSized (from_control live)
  images = fine_images (from_control live) (fine_behind (opening live) (from_control live) (subst FineEvents (sym (parts live)) fine))

  outside_none : (f : ℕ) → (30001 ≤ f → f ≤ 30200 → ⊥) → length (blocks_at live counted n f) ≡ 0
  unfolding blocks_at count_at
  outside_none f out = content_length (count_at live n) (pick live n counted) f ∙ none_reached f out 0 (until_first (is_point n) live) (fine_until (is_point n) live fine) refl

  sized_point : AllSized (blocks_at live counted n)
  sized_point f b low = elim (cases_lt 30000 f) [
    | inl from ↦ elim (cases_lt 30200 f) [
      | inl beyond ↦ absurd (omega (arith, low, outside_none f (λ up to. omega (arith, beyond, to))))
      | inr within ↦ whole_at desc (blocks_at live counted n) f b (spelled_true (is_spelled desc (blocks_at live counted n)) (db_in desc (blocks_at live counted n)) db spells) (record { low = omega (arith, from); most = omega (arith, within) }) low
    ]
    | inr below ↦ absurd (omega (arith, low, outside_none f (λ up to. omega (arith, below, up))))
  ]

  sized : (base : AllBlocks) → Kept (first == 10001) all (dumps_of files) base (stored_of files) → AllSized (content_told all base)
  sized base kept =
      let sound = kept.steady.sound in
      let fc = from_control live in
      let front = until_first (is_point n) fc in
      let behind = after_first (is_point n) fc in
      let split : front ++ behind ≡ fc = split_first (is_point n) fc (live_from live n lives).found in
      let chain : Chain front base = (chain_split front behind base (subst (λ (l : List Event). Chain l base) (sym split) sound.chain)).0 in
      let there : AllSized (replay front base) = subst AllSized (at_point live base counted n sound lives) sized_point in
      let fine_front : FineEvents front = fine_until (is_point n) fc (fine_behind (opening live) fc (subst FineEvents (sym (parts live)) fine)) in
      sized_replay fc base sound.chain (sized_base front base chain there (fine_images front fine_front)) images

  pub whole : IsWhole (telling_of total first) files
  whole = agrees_whole (telling_of total first) files found agrees (has_front (is_point n) is_described live lives.described)
      (λ p is. (pending_cuts (events all) p (alone_events all agrees.alone) is).lives n lives) images sized (subst (λ (es : List Entry). DumpsInOrder (IsDumpFound first files) (dumps_of files) (history_of es).pending) same s.order)

-- ---- at their last point

module _ (files : Files) (n : ℕ) (desc : Described) (db : Db) (s : StateOf files n desc db) where
  abbrev at_last : StateAt files n desc db
  at_last = s.at_point

  abbrev last_first : ℕ
  last_first = first files n desc db at_last

  abbrev last_total : ℕ
  last_total = total files n desc db at_last

  abbrev entries : List Entry
  entries = trail_entries last_total last_first files

  whole_last : IsWhole (telling_of last_total last_first) files
  whole_last = whole files n desc db at_last

  last : last_point (history_of entries) ≡ Some n
  last = ap (λ (es : List Entry). last_point (history_of es)) (sym (same files n desc db at_last)) ∙ s.last

  top : (m : ℕ) → IsLive (live_of entries) m → m ≤ n
  top m at =
      let l = (last_lives (history_of entries) (next_of entries) whole_last.stands.kept.numbered).points m at in
      omega (arith, l.not_above, some_is l.last n (sym l.is ∙ last))

  ends : LivesEndWith desc (points_of (telling_of last_total last_first) files) n db
  ends = ends_with last_total last_first files whole_last n desc db (lives files n desc db at_last) (described files n desc db at_last) (spells files n desc db at_last) top

pub held : StatesAreHeld
held files n desc db s = record {
  total = last_total files n desc db s;
  first = last_first files n desc db s;
  places = map place_in s.at_point.finds.placed;
  finds = record { entries = s.at_point.finds.placed; places_are = refl; trail = s.at_point.finds.trail; first_is = refl };
  tag = (placed_trail files n desc db s.at_point).tag;
  file = (placed_trail files n desc db s.at_point).file;
  count = (placed_trail files n desc db s.at_point).count;
  writes = (placed_trail files n desc db s.at_point).writes;
  whole = whole_last files n desc db s;
  state = ends files n desc db s;
  last = last files n desc db s;
  lives = lives files n desc db s.at_point;
  described = described files n desc db s.at_point;
  formed = s.at_point.well_formed;
  valid = s.at_point.valid;
}
