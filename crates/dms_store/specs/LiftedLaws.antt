-- What calls on blocks leave of a store.
use Rattle.std.proofs.Common.{ℕ, zero, suc, ◌+◌, ◌≤◌, ◌≡◌, ◌∙◌, ◌++◌, List, [], ◌∷◌, Bool, true, false, cond, IsSome, IsTrue, None, Some, refl, sym, ap, subst, map, take, arith}
use Rattle.std.proofs.lemmas.List.{map-append, length-map}
use Rattle.std.specs.List.{AllByRecursion}
use Rattle.std.specs.Str.{bytes_eq}
use Rattle.std.specs.declared.option.Option.{Option}
use Rattle.std.specs.declared.result.Result.{Result}
use Rattle.std.specs.declared.result.Result.TheVariants.{Ok, Err}
use Rattle.dms_moments.specs.Moments.{Runs}
use Rattle.std.proofs.lemmas.Slice.Eq.{bytes_eq-Decides}
use Rattle.dms_moments.specs.MomentLaws.{runs_weaken}
use Rattle.dms_moments.specs.SeenLaws.{now_seen_as, runs_below_as, runs_seen_as}
use Rattle.dms_block.specs.declared.block_fault.BlockFault.{BlockFault}
use Rattle.dms_block.specs.declared.block_fault.BlockFault.TheVariants.{Disk, Memory, Full, Damaged, Say}
use Rattle.dms_block.specs.declared.blocks.Blocks.{Ghosts}
use Rattle.dms_block.specs.declared.overlay.Overlay.{Overlay}
use Rattle.dms_block.specs.Faults.{IfFull, Unbroken}
use Rattle.dms_block.specs.View.{ReadsOverlay, under, overlay_changes}
use Rattle.dms_block.specs.Content.{Content}
use Rattle.dms_block.specs.Counts.{CausedBy}
use Rattle.dms_block.specs.Held.{AuditPace, Held, BlockPoint, BlockStop, Lasts, MakesNoPoint, Prefix, SameBlocks}
use Rattle.dms_block.specs.Held as held
use Rattle.dms_block.specs.FaultLaws.{full_weaker}
use Rattle.dms_desc.specs.Shape.{Shape, Described}
use Rattle.dms_desc_bytes.specs.Spelling.{spelling}
use Rattle.dms_model.specs.Db.{Db}
use Rattle.dms_model.specs.Points.{Point, Stop, LeavesPrefix, StopTextIs, StoreLeaves, StoreLeavesText, IsUnder}
use Rattle.dms_model.specs.Seen as store
use Rattle.dms_desc.specs.Files.{file_of}
use Rattle.dms_desc.specs.Lookups.{structure_of}
use Rattle.dms_links.specs.Linking.{number_at}
use Rattle.dms_links.specs.Stepping.{HoldsSets}
use Rattle.dms_spelling.specs.ServingLaws.{served_at}
use Rattle.dms_store.specs.Lifted.{IsUsable, Serves, db_of, effort_of, faults_with, here_of, lift_stops, point_of, seen_of, stop_of, store_seen}

-- ---- the database

pub db_same : (desc : Described) (s t : Bool) (c d : Content) → t ≡ s → (IsTrue s → d ≡ c) → db_of desc t d ≡ db_of desc s c
db_same desc true t c d e is = ap (λ b. db_of desc b d) e ∙ ap (λ (x : Content). db_of desc true x) (is refl)
db_same desc false t c d e is = ap (λ b. db_of desc b d) e

-- ---- points and what stops leave

module _ (desc : Described) where
  map_take : (n : ℕ) (ps : List BlockPoint) → map (point_of desc) (take n ps) ≡ take n (map (point_of desc) ps)
  map_take zero ps = refl
  map_take (suc n) [] = refl
  map_take (suc n) (p ∷ ps) = ap (λ (l : List Point). point_of desc p ∷ l) (map_take n ps)

  front_lifted : (a : Held) (points : List BlockPoint) (next : ℕ) (x : BlockStop) → Prefix a.whole a.durable points next x → LeavesPrefix a.whole a.durable (map (point_of desc) points) next (stop_of desc x)
  front_lifted a points next x p = record {
    count = p.count;
    enough = p.enough;
    within = omega (arith, p.within, length-map points (point_of desc));
    is = ap (map (point_of desc)) p.is ∙ map_take p.count points;
    not_fallen = omega (arith, p.not_fallen, length-map points (point_of desc));
    not_risen = p.not_risen;
    files = p.whole_files;
  }

  pub leaves_lifted : (a b : Held) (points : List BlockPoint) (next : ℕ) → held.Leaves a b points next → StoreLeaves a.whole (lift_stops desc a.clock) (lift_stops desc b.clock) a.durable (map (point_of desc) points) next a.said
  leaves_lifted a b points next run = runs_seen_as (stop_of desc) (runs_weaken run (λ x p. (front_lifted a points next x p.0, p.1)))

  pub text_lifted : (a b : Held) (bytes : List ℕ) → held.LeavesText a b bytes → StoreLeavesText a.whole (lift_stops desc a.clock) (lift_stops desc b.clock) a.durable (map (point_of desc) a.points) a.next a.said bytes
  text_lifted a b bytes run = runs_seen_as (stop_of desc) (runs_weaken run (λ x p. (front_lifted a a.points a.next x p.0, p.1)))

  blocks_here : (t : Bool) (c d : Content) → (IsTrue t → d ≡ c) → cond t c d ≡ d
  blocks_here true c d is = sym (is refl)
  blocks_here false c d is = refl

  -- the point that would be made now is the one that the blocks below would make
  pub here_lifted : (a : Held) → (a.here.number ≡ a.next) × (IsTrue a.told → a.here.blocks ≡ a.content) → point_of desc (here_of desc a) ≡ point_of desc a.here
  here_lifted a is = λ i. point_of desc (record { number = sym is.0 i; blocks = blocks_here a.told a.content a.here.blocks is.1 i; schema = a.here.schema })

  quiet_points : (a : Held) → (a.here.number ≡ a.next) × (IsTrue a.told → a.here.blocks ≡ a.content)
      → map (point_of desc) (a.points ++ a.here ∷ []) ≡ map (point_of desc) a.points ++ point_of desc (here_of desc a) ∷ []
  quiet_points a is = map-append (point_of desc) a.points (a.here ∷ []) ∙ ap (λ (p : Point). map (point_of desc) a.points ++ p ∷ []) (sym (here_lifted a is))

  under_bytes : (p : BlockPoint) (b : Bool) → bytes_eq p.schema (spelling desc) ≡ b → (db : Db) → db_of desc b p.blocks ≡ Some db → p.schema ≡ spelling desc
  under_bytes p true e db h = (bytes_eq-Decides p.schema (spelling desc)).0 e
  under_bytes p false e db h = absurd (cc)

  -- a point whose database is told stands under the bytes of this description
  pub point_under : (p : BlockPoint) → IsUnder desc (point_of desc p)
  point_under p db h = under_bytes p (bytes_eq p.schema (spelling desc)) refl db h

  points_under : (ps : List BlockPoint) → AllByRecursion (IsUnder desc) (map (point_of desc) ps)
  points_under [] = tt
  points_under (p ∷ ps) = (point_under p, points_under ps)

  here_db : (t : Bool) (c d : Content) (schema : List ℕ) → schema ≡ spelling desc → (db : Db) → db_of desc t c ≡ Some db → db_of desc (bytes_eq schema (spelling desc)) (cond t c d) ≡ Some db
  here_db true c d schema is db h = ap (λ b. db_of desc b c) ((bytes_eq-Decides schema (spelling desc)).1 is) ∙ h
  here_db false c d schema is db h = absurd (cc)

-- ---- one call of a store

module _ (desc : Described) (sound sound' : Type 0) (found found' : ℕ) (pace pace' : AuditPace) (a b : Held) where
  abbrev old : store.Seen
  old = seen_of desc sound found pace a

  abbrev new : store.Seen
  new = seen_of desc sound' found' pace' b

  pub silent_lifted : MakesNoPoint a b → store.IsSilent old new
  silent_lifted p = record { next = p.next; said = p.said; leaves = λ tells room. leaves_lifted desc a b a.points a.next (p.leaves tells room) }

  pub causes_lifted : {T : Type 0} (r : Result T BlockFault) → Lasts a b → pace' ≡ pace → a.uses.reads ≤ b.uses.reads → CausedBy r (faults_with a.faults found) (faults_with b.faults found') → store.HasStoreCauses r old new
  causes_lifted r lasts same reads cause = record { tells = lasts.tells; desc = refl; pace = same; whole = lasts.whole; whole_on = lasts.whole_on; cause = cause; reads = reads }

  pub points_lifted : held.IfTold a ((b.points ≡ a.points) × (a.durable ≤ b.durable)) → store.StaysDurable old new
  points_lifted stays tells room = let s = stays tells room in (ap (map (point_of desc)) s.0, s.1)

  pub keeps_lifted : sound' → Lasts a b → held.Stays a b → SameBlocks a b → store.Keeps old new
  keeps_lifted sound lasts stays same = record {
    sound = sound;
    db = db_same desc a.told b.told a.content b.content lasts.told same.content;
    mark = db_same desc a.told b.told a.mark b.mark lasts.told stays.mark;
    points = points_lifted stays.points;
  }

  pub keeps_points_lifted : sound' → Lasts a b → held.Stays a b → store.KeepsPoints old new
  keeps_points_lifted sound lasts stays = record { sound = sound; mark = db_same desc a.told b.told a.mark b.mark lasts.told stays.mark; points = points_lifted stays.points }

  pub quiet_leaves : held.BlocksAgree a → held.IfTold a (held.Leaves a b (a.points ++ a.here ∷ []) (a.next + 1))
      → store.IfPointsTold old (StoreLeaves a.whole (lift_stops desc a.clock) (lift_stops desc b.clock) a.durable (map (point_of desc) a.points ++ point_of desc (here_of desc a) ∷ []) (a.next + 1) a.said)
  quiet_leaves agrees leaves tells room =
      subst (λ (ps : List Point). StoreLeaves a.whole (lift_stops desc a.clock) (lift_stops desc b.clock) a.durable ps (a.next + 1) a.said) (quiet_points desc a (agrees.here tells room))
      (leaves_lifted desc a b (a.points ++ a.here ∷ []) (a.next + 1) (leaves tells room))

  -- where the audit has no room for a quiet point no stop leaves it
  pub no_point_lifted : {T : Type 0} (r noted : Result T BlockFault) → noted ≡ r → IfFull r (λ f. held.IfTold a (held.Leaves a b a.points a.next))
      → IfFull noted (λ f. store.IfPointsTold old (StoreLeaves a.whole (lift_stops desc a.clock) (lift_stops desc b.clock) a.durable (map (point_of desc) a.points) a.next a.said))
  no_point_lifted r noted same leaves =
      subst (λ x. IfFull x (λ f. store.IfPointsTold old (StoreLeaves a.whole (lift_stops desc a.clock) (lift_stops desc b.clock) a.durable (map (point_of desc) a.points) a.next a.said))) (sym same)
      (full_weaker r _ _ (λ f told tells room. leaves_lifted desc a b a.points a.next (told tells room)) leaves)

-- ---- what is told hangs together

pub agrees_lifted : (desc : Described) (sound : Type 0) (found : ℕ) (pace : AuditPace) (a : Held) → a.here.schema ≡ spelling desc → held.BlocksAgree a → store.StoreAgrees (seen_of desc sound found pace a)
agrees_lifted desc sound found pace a schema agrees = record {
  may_stop = λ tells. let x = agrees.may_stop tells in (stop_of desc x.0, (x.0, x.1, refl));
  number = refl;
  here = here_db desc a.told a.content a.here.blocks a.here.schema schema;
  under = point_under desc (here_of desc a);
  points = λ tells room. points_under desc a.points;
  stop = λ tells room. now_seen_as (stop_of desc) a.clock (λ y. LeavesPrefix a.whole a.durable (map (point_of desc) a.points) a.next y × StopTextIs a.said y)
      (λ x now. let p = agrees.stop tells room x now in (front_lifted desc a a.points a.next x p.0, p.1));
  durable = λ tells room. omega (arith, agrees.durable tells room, length-map a.points (point_of desc));
}

-- ---- calls through an overlay on which nothing is written

unbroken_two : {T P Q R : Type 0} (r : Result T BlockFault) → (P → Q → R) → Unbroken r P → Unbroken r Q → Unbroken r R
unbroken_two (Ok x) f p q = f p q
unbroken_two (Err Disk) f p q = tt
unbroken_two (Err Memory) f p q = f p q
unbroken_two (Err (Full n)) f p q = tt
unbroken_two (Err (Damaged n b)) f p q = tt
unbroken_two (Err Say) f p q = tt

pub serves_on : (desc : Described) (a b : Held) → Lasts a b → Serves desc a → Serves desc b
serves_on desc a b lasts s = record {
  served = s.served;
  schema = lasts.schema ∙ s.schema;
  all = λ n there. subst (λ (owns : ℕ → Bool). IsTrue (owns (file_of n))) (sym lasts.owns) (s.all n there);
  only = λ file owned. s.only file (subst (λ (owns : ℕ → Bool). IsTrue (owns file)) lasts.owns owned);
}

module _ {B : Type 0} {g : Ghosts B} (desc : Described) (o o' : Overlay B g) where
  pub usable_on : IsUsable desc o → Lasts (under o) (under o') → (under o').sound → overlay_changes o' ≡ [] → IsUsable desc o'
  usable_on usable lasts sound none = record { sound = sound; none = none; serves = serves_on desc (under o) (under o') lasts usable.serves }

  -- reads keep the store as it was
  pub reads_keep : {T : Type 0} {n : ℕ} (found found' : ℕ) (r : Result T BlockFault) → IsUsable desc o → ReadsOverlay n r o o' → Unbroken r (store.Keeps (store_seen desc found o) (store_seen desc found' o'))
  reads_keep found found' r usable reads =
      unbroken_two r (λ stays same. keeps_lifted desc (IsUsable desc o) (IsUsable desc o') found found' (g.pace o.below) (g.pace o'.below) (under o) (under o')
      (usable_on usable reads.looks.passes.lasts stays.sound (reads.written_still ∙ usable.none)) reads.looks.passes.lasts stays same) reads.looks.stays reads.looks.same

  pub reads_silent : {T : Type 0} {n : ℕ} {r : Result T BlockFault} (found found' : ℕ) → ReadsOverlay n r o o' → store.IsSilent (store_seen desc found o) (store_seen desc found' o')
  reads_silent found found' reads = silent_lifted desc (IsUsable desc o) (IsUsable desc o') found found' (g.pace o.below) (g.pace o'.below) (under o) (under o') reads.looks.passes

  pub reads_effort : {T : Type 0} {n : ℕ} {r : Result T BlockFault} → ReadsOverlay n r o o' → effort_of (under o').uses ≡ effort_of (under o).uses
  reads_effort reads =
      let u = reads.looks.uses in
      let spent : (under o').uses.spent ≡ (under o).uses.spent = omega (arith, u.spent, u.not_less) in
      λ i. record { spent = spent i; syncs = u.syncs i; outs = u.outs i }

-- ---- and down again

module _ (desc : Described) where
  point_one : (p q : BlockPoint) → point_of desc q ≡ point_of desc p → q ≡ p
  point_one p q e = λ i. record { number = (e i).number; blocks = (e i).blocks; schema = (e i).schema }

  head_one : (x y : Point) (xs ys : List Point) → ◌≡◌ {A = List Point} (x ∷ xs) (y ∷ ys) → x ≡ y
  head_one x y xs ys h = cc

  tail_one : (x y : Point) (xs ys : List Point) → ◌≡◌ {A = List Point} (x ∷ xs) (y ∷ ys) → xs ≡ ys
  tail_one x y xs ys h = cc

  points_one : (ps qs : List BlockPoint) → map (point_of desc) qs ≡ map (point_of desc) ps → qs ≡ ps
  points_one [] [] e = refl
  points_one [] (q ∷ qs) e = absurd (cc)
  points_one (p ∷ ps) [] e = absurd (cc)
  points_one (p ∷ ps) (q ∷ qs) e = λ i. point_one p q (head_one _ _ _ _ e) i ∷ points_one ps qs (tail_one _ _ _ _ e) i

  stop_one : (x other : BlockStop) → stop_of desc other ≡ stop_of desc x → other ≡ x
  stop_one x other e = λ i. record { files = (e i).files; points = points_one x.points other.points (ap (λ (y : Stop). y.points) e) i; next = (e i).next; said = (e i).said }

  -- What stops leave of a store is what they leave of its blocks: no two outcomes below are seen as one.
  pub lower_runs : (a b : Held) {Q : Stop → Type 0} → Runs (lift_stops desc a.clock) (lift_stops desc b.clock) Q → Runs a.clock b.clock (λ x. Q (stop_of desc x))
  lower_runs a b run = runs_below_as (stop_of desc) stop_one run

-- ---- files that may be written

some_structure : (o : Option Shape) (s : Shape) → o ≡ Some s → IsSome o
some_structure None s h = absurd (cc h)
some_structure (Some t) s h = refl

pub file_served : (desc : Described) (h : Held) (n : ℕ) (s : Shape) → Serves desc h → structure_of desc n ≡ Some s → IsTrue (h.owns (file_of s.number))
file_served desc h n s serves at = subst (λ k. IsTrue (h.owns (file_of k))) (sym (number_at desc serves.served.numbered n s at)) (serves.all n (some_structure (structure_of desc n) s at))

-- the files of all structures may be, and hold slots
pub holds_served : (desc : Described) (h : Held) → Serves desc h → HoldsSets desc h
holds_served desc h serves set s at =
    let x = served_at desc set s serves.served at in
    record { sized = record { few = x.few; fits = x.fits }; few = x.population; owns = file_served desc h set s serves at }
