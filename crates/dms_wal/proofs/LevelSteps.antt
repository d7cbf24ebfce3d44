-- A control point that makes a point.
use Rattle.std.proofs.Common.{ℕ, zero, suc, ◌+◌, ◌≡◌, ◌≤◌, Bool, IsTrue, List, [], ◌∷◌, ◌++◌, map, length, length-append, take, Option, refl, sym, ◌∙◌, ap, subst, arith}
use Rattle.std.proofs.lemmas.List.{map-append}
use Rattle.dms_moments.specs.Moments.{Steps}
use Rattle.dms_moments.specs.MomentLaws.{runs_weaken}
use Rattle.dms_block.specs.Counts.{Faults}
use Rattle.dms_block.specs.Held.{BlockPoint, BlockStop, Held, IfTold, Leaves, MakesNoPoint, Prefix, SameBlocks, Stays, Uses}
use Rattle.dms_block.specs.HeldLaws.{leaves_on}
use Rattle.dms_history.specs.declared.event.FileCount.{FileCount}
use Rattle.dms_history.specs.Entries.{control_point}
use Rattle.dms_history.specs.Schemas.{schema_entries}
use Rattle.dms_audrec.specs.Bodies.{bodies}
use Rattle.dms_audrec.specs.Spelling.{pair_bytes, count_file, count_blocks}
use Rattle.dms_pool.specs.declared.pool.Pool.{Pool}
use Rattle.dms_restore.specs.Counts.{file_counts}
use Rattle.dms_restore.specs.Laying.{schema_control}
use Rattle.dms_restore.specs.Levels.{LevelBy, levelled, LevelledAt, LevelLeaves}
use Rattle.dms_restore.specs.Logging as logs
use Rattle.dms_restore.specs.Logging.{LogView, telling, entries, points, content, PrintsNothing}
use Rattle.dms_restore.proofs.CountBytes.{counts_read, counts_told}
use Rattle.dms_wal.specs.AgreeLaws.{TellsText}
use Rattle.dms_wal.specs.Closing.{entries_control}
use Rattle.dms_wal.specs.Controls.{IsSettled, TellsSame}
use Rattle.dms_wal.specs.Database.{GoesWith, running_held}
use Rattle.dms_wal.specs.declared.running.Running.{Running}
use Rattle.dms_site.specs.declared.site.Site.{Ghosts}
use Rattle.dms_wal.specs.LevelPoints.{level_of, MakesLevel}
use Rattle.dms_wal.specs.Lifting.{AreCounts, block_point, held_of}
use Rattle.dms_wal.proofs.Controlling.{count_table, written_on}
use Rattle.dms_wal.proofs.Lifts.{leaves_lifted}

-- what is asked of the Control
pub level_by : (v : LogView) (pool : Pool) (next : ℕ) (counts : List ℕ) → AreCounts counts → GoesWith v pool next counts → IsSettled v → (bytes : List ℕ) → bytes ≡ pair_bytes count_file count_blocks (file_counts 30001 counts) → LevelBy v next bytes
level_by v pool next counts table k s bytes is = record {
  nothing = s.nothing;
  only = s.only;
  written = s.written;
  number_is = k.numbered;
  count = λ f. counts_told counts (count_table counts table) bytes is f ∙ k.counted f;
}

-- what it makes
pub makes_level : (a b : LogView) (pool : Pool) (next : ℕ) (counts schema : List ℕ) → AreCounts counts → GoesWith a pool next counts → IsSettled a → (bytes : List ℕ) → bytes ≡ pair_bytes count_file count_blocks (file_counts 30001 counts)
    → LevelledAt a b schema (schema_control schema next (next + 1) bytes) → MakesLevel a b schema counts
makes_level a b pool next counts schema table k s bytes is l = record {
  entries_are = l.entries_are ∙ (λ i. entries a ++ (schema_entries (bodies schema) ++ control_point (k.numbered i) (k.numbered i + 1) (counts_read counts (count_table counts table) bytes is i) ∷ []));
  points_are = l.points_are;
  next_is = l.next_is;
  content_same = l.content_same;
  runs = l.runs;
  settled = record { nothing = l.nothing; written = written_on a b l.content_same l.blocks_same s.written; only = l.only };
}

module _ (tells : Bool) (sound sound' : Type 0) (a b : LogView) (schema : List ℕ) (next : ℕ) (counts : List ℕ) (said said' : Option (List ℕ)) (faults faults' : Faults) (uses uses' : Uses) where
  abbrev before : Held
  before = held_of tells sound a schema next counts said faults uses

  -- its point, as blocks see it
  seen_level : (new : List ℕ) → next ≡ logs.next a → map block_point (points a ++ levelled a new ∷ []) ≡ before.points ++ level_of before new ∷ []
  seen_level new numbered = map-append block_point (points a) (levelled a new ∷ []) ∙ (λ i. map block_point (points a) ++ record { number = sym numbered i; blocks = content a; schema = new } ∷ [])

  -- what a stop within it leaves
  pub level_leaves : (new : List ℕ) (next' : ℕ) (counts' : List ℕ) → telling b ≡ telling a → (IsTrue tells → next ≡ logs.next a) → TellsText said a.clock → (IsTrue tells → LevelLeaves a b new) → (IsTrue tells → Steps PrintsNothing a.clock b.clock)
      → IfTold before (Leaves before (held_of tells sound' b schema next' counts' said' faults' uses') (before.points ++ level_of before new ∷ []) (next + 1))
  level_leaves new next' counts' same numbered text leaves silent t room =
      subst (λ (ps : List BlockPoint). Leaves before (held_of tells sound' b schema next' counts' said' faults' uses') ps (next + 1)) (seen_level new (numbered t))
      (leaves_lifted a b same (points a ++ levelled a new ∷ []) (next + 1) said text (subst (λ n. logs.LogLeaves a b (points a ++ levelled a new ∷ []) (n + 1)) (sym (numbered t)) (leaves t)) (silent t))

-- ---- behind calls that made no point

take_within : (k : ℕ) (xs ys : List BlockPoint) → k ≤ length xs → take k (xs ++ ys) ≡ take k xs
take_within zero xs ys le = refl
take_within (suc k) [] ys le = absurd (omega (arith, le))
take_within (suc k) (x ∷ xs) ys le = ap (λ (l : List BlockPoint). x ∷ l) (take_within k xs ys (omega (arith, le)))

-- what leaves these points leaves the first of one more
prefix_one : (h : Held) (p : BlockPoint) (x : BlockStop) → Prefix h.whole h.durable h.points h.next x → Prefix h.whole h.durable (h.points ++ p ∷ []) (h.next + 1) x
prefix_one h p x l = record {
  count = l.count;
  enough = l.enough;
  within = omega (arith, l.within, length-append h.points (p ∷ []));
  is = l.is ∙ sym (take_within l.count h.points (p ∷ []) l.within);
  not_fallen = omega (arith, l.not_fallen, length-append h.points (p ∷ []));
  not_risen = omega (arith, l.not_risen);
  whole_files = l.whole_files;
}

pub leaves_before : (a b : Held) (p : BlockPoint) → MakesNoPoint a b → IfTold a (Leaves a b (a.points ++ p ∷ []) (a.next + 1))
leaves_before a b p pass t room = runs_weaken (pass.leaves t room) (λ x q. (prefix_one a p x q.0, q.1))

module _ {S : Type 0} (g : Ghosts S) (a b c : Running S) (schema : List ℕ) where
  pub leaves_level : MakesNoPoint (running_held g a) (running_held g b) → Stays (running_held g a) (running_held g b) → SameBlocks (running_held g a) (running_held g b)
      → IfTold (running_held g b) (Leaves (running_held g b) (running_held g c) ((running_held g b).points ++ level_of (running_held g b) schema ∷ []) ((running_held g b).next + 1))
      → IfTold (running_held g a) (Leaves (running_held g a) (running_held g c) ((running_held g a).points ++ level_of (running_held g a) schema ∷ []) ((running_held g a).next + 1))
  leaves_level p stay same run t room =
      let one = running_held g a in
      let two = running_held g b in
      let three = running_held g c in
      let is : level_of two schema ≡ level_of one schema = λ i. record { number = p.next i; blocks = same.content t i; schema = schema } in
      let by_points : Leaves two three (one.points ++ level_of two schema ∷ []) (two.next + 1) = subst (λ (ps : List BlockPoint). Leaves two three (ps ++ level_of two schema ∷ []) (two.next + 1)) (stay.points t room).0 (run (p.lasts.tells t) (omega (arith, p.next, room))) in
      let by_point : Leaves two three (one.points ++ level_of one schema ∷ []) (two.next + 1) = subst (λ (q : BlockPoint). Leaves two three (one.points ++ q ∷ []) (two.next + 1)) is by_points in
      let then : Leaves two three (one.points ++ level_of one schema ∷ []) (one.next + 1) = subst (λ n. Leaves two three (one.points ++ level_of one schema ∷ []) (n + 1)) p.next by_point in
      leaves_on one two three (one.points ++ level_of one schema ∷ []) (one.next + 1) p stay t room (prefix_one one (level_of one schema)) then

pub makes_level_on : (a b c : LogView) (schema counts counts' : List ℕ) → counts' ≡ counts → TellsSame a b → MakesLevel b c schema counts' → MakesLevel a c schema counts
makes_level_on a b c schema counts counts' k e m = record {
  entries_are = m.entries_are ∙ (λ i. e.entries_same i ++ entries_control (e.next_same i) schema (e.next_same i + 1) (k i));
  points_are = m.points_are ∙ (λ i. e.points_same i ++ record { number = e.next_same i; blocks = e.content_same i; schema = schema } ∷ []);
  next_is = m.next_is ∙ ap (λ n. n + 1) e.next_same;
  content_same = m.content_same ∙ e.content_same;
  runs = m.runs;
  settled = m.settled;
}
