-- What a stop leaves of a store on the blocks of a running database, and what that is of its files.
use Rattle.std.proofs.Common.{ℕ, ◌≡◌, ◌∙◌, List, [], ◌∷◌, ◌++◌, map, length, refl, sym, subst, ap, Bool, true, false, cond, Option, None}
use Rattle.std.specs.List.{AllByRecursion}
use Rattle.std.proofs.lemmas.List.{length-map}
use Rattle.dms_desc.specs.Shape.{Described}
use Rattle.dms_desc_bytes.specs.Spelling.{spelling}
use Rattle.dms_model.specs.Db.{Db}
use Rattle.dms_model.specs.Points.{Point, Quiet, Stop, told_point}
use Rattle.dms_moments.specs.Moments.{Runs}
use Rattle.dms_moments.specs.MomentLaws.{runs_weaken}
use Rattle.dms_runner.specs.Events.{RunEvent, CrashesWithin}
use Rattle.dms_running.specs.Telling.{Telling}
use Rattle.dms_running.specs.Standing.{IsWhole}
use Rattle.dms_running.specs.Points.{DescribedPoint, points_of}
use Rattle.dms_site.specs.declared.site.Site.{Ghosts}
use Rattle.dms_site.specs.Files.{Left}
use Rattle.dms_store.specs.Lifted.{point_of, db_of, lift_stops, stop_of as store_stop}
use Rattle.dms_store.specs.LiftedLaws as stores
use Rattle.dms_store.specs.Spelled.{database_in}
use Rattle.dms_block.specs.Content.{Content}
use Rattle.std.specs.Str.{bytes_eq}
use Rattle.dms_restore.specs.Logging.{telling_of, telling, trail_of}
use Rattle.dms_restore.specs.Views.{view_of}
use Rattle.dms_wal.specs.declared.running.Running.{Running}
use Rattle.dms_wal.specs.Database.{running_held}
use Rattle.dms_wal.specs.Lifting as wal
use Rattle.dms_wal.specs.Lifting.{block_point}
use Rattle.dms_wal.proofs.Lifts as walks
use Rattle.dms_run.specs.States.{LivesEndWith, HasState, HasLive, told_live}
use Rattle.dms_run.specs.Stops.{RunLeaves}
use Rattle.dms_run.specs.Files.{points_seen, stop_seen, RunLeavesFiles, FilesLaw, FilesLeft}
use Rattle.dms_run.proofs.Leaving.{stop_leaves}
use Rattle.dms_run.proofs.Words.{blocks_seen, blocks_are, lives_seen, lives_are, point_spells}

-- a live point as a store sees it, and back
abbrev shown : Described → DescribedPoint → Point
shown desc p = point_of desc (block_point p)

abbrev bare : Point → DescribedPoint
bare p = record { number = p.number; blocks = p.blocks; schema = p.schema }

bare_list : (desc : Described) (ps : List DescribedPoint) → map bare (points_seen desc ps) ≡ ps
bare_list desc [] = refl
bare_list desc (p ∷ ps) = ap (λ (l : List DescribedPoint). p ∷ l) (bare_list desc ps)

map_both : (xs ys : List Point) → map bare (xs ++ ys) ≡ map bare xs ++ map bare ys
map_both [] ys = refl
map_both (x ∷ xs) ys = ap (λ (l : List DescribedPoint). bare x ∷ l) (map_both xs ys)

-- a point that is seen somewhere stands there
record PointStands (desc : Described) (ps : List DescribedPoint) (p : Point) : Type 0 where
  front : List DescribedPoint
  point : DescribedPoint
  after : List DescribedPoint
  are : ps ≡ front ++ point ∷ after
  is : shown desc point ≡ p

found : (desc : Described) (ps : List DescribedPoint) (before after : List Point) (p : Point) → points_seen desc ps ≡ before ++ p ∷ after → PointStands desc ps p
found desc [] [] after p e = absurd (cc)
found desc [] (b ∷ bs) after p e = absurd (cc)
found desc (x ∷ xs) [] after p e = record { front = []; point = x; after = xs; are = refl; is = cc }
found desc (x ∷ xs) (b ∷ bs) after p e =
    let tails : points_seen desc xs ≡ bs ++ p ∷ after = cc in
    let r = found desc xs bs after p tails in
    record { front = x ∷ r.front; point = r.point; after = r.after; are = ap (λ (l : List DescribedPoint). x ∷ l) r.are; is = r.is }

has_live : (desc : Described) (ps : List DescribedPoint) (q : Quiet) → HasState (points_seen desc ps) q → HasLive desc ps q
has_live desc ps q s =
    let f = found desc ps s.before s.after s.point s.are in
    let h = point_spells desc (block_point f.point) q (ap told_point f.is ∙ s.is) in
    record { before = f.front; point = f.point; after = f.after; are = f.are; number = h.0; schema = h.1.0; spells = h.1.1 }

all_live : (desc : Described) (ps : List DescribedPoint) (made : List Quiet) → AllByRecursion (HasState (points_seen desc ps)) made → AllByRecursion (HasLive desc ps) made
all_live desc ps [] h = tt
all_live desc ps (q ∷ qs) h = (has_live desc ps q h.0, all_live desc ps qs h.1)

seen_both : (desc : Described) (xs ys : List DescribedPoint) → points_seen desc (xs ++ ys) ≡ points_seen desc xs ++ points_seen desc ys
seen_both desc [] ys = refl
seen_both desc (x ∷ xs) ys = ap (λ (l : List Point). shown desc x ∷ l) (seen_both desc xs ys)

same_behind : (xs ys zs : List Point) → xs ++ ys ≡ xs ++ zs → ys ≡ zs
same_behind [] ys zs e = e
same_behind (x ∷ xs) ys zs e = let tails : xs ++ ys ≡ xs ++ zs = cc in same_behind xs ys zs tails

told_one : (desc : Described) (b : Bool) (c : Content) → db_of desc b c ≡ cond b (database_in desc c) None
told_one desc true c = refl
told_one desc false c = refl

seen_told : (desc : Described) (ps : List DescribedPoint) → map told_point (points_seen desc ps) ≡ map (told_live desc) ps
seen_told desc [] = refl
seen_told desc (p ∷ ps) =
    ap (λ (o : Option Db). (p.number, o) ∷ map told_point (points_seen desc ps)) (told_one desc (bytes_eq p.schema (spelling desc)) p.blocks)
    ∙ ap (λ (l : List (ℕ × Option Db)). told_live desc p ∷ l) (seen_told desc ps)

-- what a run leaves of the store is what it leaves of the files
pub leaves_files : (t : Telling) (desc : Described) (entry : Option (List ℕ)) (ps : List DescribedPoint) (n : ℕ) (db : Db) (next : ℕ) (events : List RunEvent) (x : Left)
    → RunLeaves (IsWhole t) entry (points_seen desc ps) n db next events (stop_seen t desc x) → RunLeavesFiles t desc entry ps n db next events x
leaves_files t desc entry ps n db next events x r =
    let now = points_of t x.files in
    let kept : now ≡ ps ++ map bare r.more =
    sym (bare_list desc now) ∙ ap (map bare) r.kept ∙ map_both (points_seen desc ps) r.more ∙ ap (λ (l : List DescribedPoint). l ++ map bare r.more) (bare_list desc ps) in
    let back : r.more ≡ points_seen desc (map bare r.more) =
    same_behind (points_seen desc ps) r.more (points_seen desc (map bare r.more)) (sym r.kept ∙ ap (points_seen desc) kept ∙ seen_both desc ps (map bare r.more)) in
    record {
      made = r.made;
      rest = r.rest;
      front_of = r.front_of;
      state = lives_are desc now _ _ (blocks_are desc (map block_point now) _ _ r.state);
      more = map bare r.more;
      kept = kept;
      are = sym (seen_told desc (map bare r.more)) ∙ ap (map told_point) (sym back) ∙ r.are;
      each = all_live desc now r.made r.each;
      next_is = r.next_is;
      not_risen = r.not_risen;
      text = r.text;
      whole = r.files;
    }

count_seen : (desc : Described) (ps : List DescribedPoint) → length (points_seen desc ps) ≡ length ps
count_seen desc ps = length-map (map block_point ps) (point_of desc) ∙ length-map ps block_point

leaves_law : (t : Telling) (desc : Described) (entry : Option (List ℕ)) (points : List DescribedPoint) (n : ℕ) (db : Db) (next : ℕ) (events : List RunEvent) (x : Left)
    → LivesEndWith desc points n db → CrashesWithin (IsWhole t) entry (points_seen desc points) (length points) next events (stop_seen t desc x) → RunLeavesFiles t desc entry points n db next events x
leaves_law t desc entry points n db next events x ends s =
    leaves_files t desc entry points n db next events x
    (stop_leaves (IsWhole t) entry (points_seen desc points) n db next events (stop_seen t desc x) (blocks_seen desc (map block_point points) n db (lives_seen desc points n db ends))
    (subst (λ (k : ℕ). CrashesWithin (IsWhole t) entry (points_seen desc points) k next events (stop_seen t desc x)) (sym (count_seen desc points)) s))

pub files : FilesLaw
files total first = leaves_law (telling_of total first)

-- What stops leave of a store on a running database, over its site: no two outcomes are seen as one.
module _ {S : Type 0} (g : Ghosts S) (desc : Described) (r r' : Running S) (same : trail_of (view_of g r'.log) ≡ trail_of (view_of g r.log)) where
  pub site_left : {Q : Stop → Type 0} → Runs (lift_stops desc (running_held g r).clock) (lift_stops desc (running_held g r').clock) Q → Runs (g.clock r.log.site) (g.clock r'.log.site) (λ x. Q (stop_seen (telling (view_of g r.log)) desc x))
  site_left {Q} run =
      let below : Runs (running_held g r).clock (running_held g r').clock (λ y. Q (store_stop desc y)) = stores.lower_runs desc (running_held g r) (running_held g r') run in
      walks.lower_runs (telling (view_of g r.log)) (g.clock r.log.site) (g.clock r'.log.site)
      (subst (λ (t : Telling). Runs (running_held g r).clock (wal.lift_clock t (g.clock r'.log.site)) (λ y. Q (store_stop desc y))) (walks.told_same same) below)

  -- what a run leaves of the store, told of the site
  pub files_left : (entry : Option (List ℕ)) (ps : List DescribedPoint) (n : ℕ) (db : Db) (next : ℕ) (events : List RunEvent)
      → Runs (lift_stops desc (running_held g r).clock) (lift_stops desc (running_held g r').clock) (RunLeaves (IsWhole (telling (view_of g r.log))) entry (points_seen desc ps) n db next events)
      → Runs (g.clock r.log.site) (g.clock r'.log.site) (RunLeavesFiles (telling (view_of g r.log)) desc entry ps n db next events)
  files_left entry ps n db next events run = runs_weaken (site_left run) (λ x l. leaves_files (telling (view_of g r.log)) desc entry ps n db next events x l)

pub lowers : {S : Type 0} (g : Ghosts S) (a b : Running S) → FilesLeft g a b
lowers g a b same desc entry points n db next events run = files_left g desc a b same entry points n db next events run
