-- A dump that is begun.
use Rattle.std.proofs.Common.{ℕ, ◌<◌, ◌≤◌, ◌≡◌, inl, inr, Bool, IsTrue, List, [], ◌∷◌, ◌++◌, map, Some, append-nil, refl, sym, ◌∙◌, ap, subst, arith}
use Rattle.std.proofs.lemmas.Bool.{cases_lt, false≢true}
use Rattle.std.proofs.lemmas.Option.{none-some}
use Rattle.dms_history.proofs.Picks.{some_is}
use Rattle.dms_site.specs.Files.{stored_of}
use Rattle.dms_running.proofs.Appending.{now_runs}
use Rattle.dms_running.proofs.MayRun.{new_number}
use Rattle.dms_running.specs.Points.{DescribedPoint}
use Rattle.dms_restore.proofs.Logs as lemmas
use Rattle.dms_restore.proofs.Logs.{ReadsNow}
use Rattle.dms_restore.specs.Logging as logs
use Rattle.dms_restore.specs.Logging.{LogView, LogRuns, entries, points, state, telling}
use Rattle.dms_block.specs.Content.{Content}
use Rattle.dms_block.specs.Held.{BlockPoint}
use Rattle.dms_wal.specs.Lifting.{block_point, last_blocks}
use Rattle.dms_wal.specs.Marks.{last_number, number_from}
use Rattle.dms_wal.proofs.Pointing as pointing
use Rattle.dms_moments.specs.Moments.{Now}
use Rattle.dms_site.specs.declared.site.Site.{Ghosts}
use Rattle.dms_site.specs.Files.{Left}
use Rattle.dms_block.specs.Held.{SameBlocks, Stays}
use Rattle.dms_dump.specs.Head.{head_bytes}
use Rattle.dms_restore.specs.Logging.{content}
use Rattle.dms_restore.specs.Views.{view_of}
use Rattle.dms_wal.specs.Database.{IsRunningUsable, running_held}
use Rattle.dms_wal.specs.declared.running.Running.{Running}
use Rattle.dms_online.specs.declared.dump_site.DumpSite.{DumpSite}
use Rattle.dms_online.specs.declared.plan.Copying.{Copying}
use Rattle.dms_online.specs.Calls.{HasShutGate}
use Rattle.dms_dump.specs.Copies.{HasBlocks}
use Rattle.dms_online.specs.Copying.{Covers, EndsAtPoint, IsAtPoint, IsCopying}
use Rattle.dms_online.specs.Onlines.{IsCopied, KeepsUp}
use Rattle.dms_online.specs.Plans.{IsPlanOf, head_of}
use Rattle.dms_online.proofs.Listed.{listed_there}
use Rattle.dms_online.proofs.Progress.{ends_stays, has_none}

-- some points end with a last one
pub record Ended (none : Content) (ps : List DescribedPoint) (n : ℕ) : Type 0 where
  pub before : List DescribedPoint
  pub point : DescribedPoint
  pub are : ps ≡ before ++ point ∷ []
  pub number : point.number ≡ n
  pub blocks : last_blocks none ps ≡ point.blocks

ended_at : (none : Content) (p : DescribedPoint) (ps : List DescribedPoint) (n : ℕ) → number_from (Some p.number) ps ≡ Some n → Ended none (p ∷ ps) n
ended_at none p [] n is = record { before = []; point = p; are = refl; number = some_is p.number n is; blocks = refl }
ended_at none p (q ∷ ps) n is =
    let rest = ended_at p.blocks q ps n is in
    record { before = p ∷ rest.before; point = rest.point; are = ap (λ (l : List DescribedPoint). p ∷ l) rest.are; number = rest.number; blocks = rest.blocks }

pub ended : (none : Content) (ps : List DescribedPoint) (n : ℕ) → last_number ps ≡ Some n → Ended none ps n
ended none [] n is = absurd (none-some n is)
ended none (p ∷ ps) n is = ended_at none p ps n is

pub map_end : (before : List DescribedPoint) (p : DescribedPoint) → map block_point (before ++ p ∷ []) ≡ map block_point before ++ block_point p ∷ []
map_end [] p = refl
map_end (q ∷ before) p = ap (λ (l : List BlockPoint). block_point q ∷ l) (map_end before p)

-- the last point has a number below the next one
pub last_low : (v : LogView) (r : LogRuns v) (read : ReadsNow v) (n : ℕ) → last_number (points v) ≡ Some n → n ≤ logs.next v
last_low v r read n is = elim (cases_lt n (logs.next v)) [
  | inl low ↦ omega (arith, low)
  | inr not ↦
      let may = now_runs (telling v) (lemmas.tells v r read) (state v) r.runs read in
      let off = new_number (telling v).first (entries v) ((telling v).dumps v.files) r.runs.base (stored_of v.files) may n (omega (arith, not)) in
      absurd (false≢true (subst (λ (b : Bool). IsTrue b) off (pointing.last_is v r read n is).lives.found))
]

module _ {S : Type 0} (d : Ghosts (DumpSite S)) (g : Ghosts S) (told : IsTrue d.tells → IsTrue g.tells) (stay : (s : DumpSite S) → IsTrue d.tells → (x : Left) × Now (d.clock s) x × (x.files ≡ d.files s)) (r b : Running (DumpSite S)) (c : Copying)
    (u : IsRunningUsable d r) (p : IsPlanOf r c) (stays : Stays (running_held d r) (running_held d b)) (same : SameBlocks (running_held d r) (running_held d b)) (next : b.next ≡ r.next) (file : b.log.site.file ≡ r.log.site.file)
    (mark : IsTrue d.tells → (running_held d r).mark ≡ (running_held d r).content) where
  abbrev v : LogView
  v = view_of d r.log

  ends : IsTrue d.tells → EndsAtPoint (running_held d r) c.point
  ends t =
      let e = ended (λ f. []) (points v) r.point (u.pointed t).number in
      record { before = map block_point e.before; point = block_point e.point; are = ap (map block_point) e.are ∙ map_end e.before e.point; not_below = omega (arith, p.point, e.number); blocks = e.blocks }

  marked : IsTrue d.tells → Covers c.counts.items (running_held d r).mark
  marked t n f k is = omega (arith, listed_there r.marks.items c.counts.items p.counts n f k is, (u.pointed t).counted f)

  there : IsTrue d.tells → Covers c.counts.items (running_held d r).content
  there t = subst (Covers c.counts.items) (mark t) (marked t)

  begun : IsTrue d.tells → IsCopying (running_held d b) c.point c.counts.items c.done []
  begun t = record {
    has = subst (λ n. HasBlocks (IsAtPoint (running_held d b).points c.point) c.counts.items n []) (sym p.none) (has_none (IsAtPoint (running_held d b).points c.point) c.counts.items);
    there = subst (Covers c.counts.items) (sym (same.content t)) (there t);
    marked = subst (Covers c.counts.items) (sym (stays.mark t)) (marked t);
    order = omega (arith, p.point, last_low v (u.goes t).runs (stay r.log.site t) r.point (u.pointed t).number, (u.goes t).numbered, next);
  }

  pub begun_copied : 20000 < r.log.site.file → r.log.site.file ≤ 30000 → (IsTrue g.tells → g.files b.log.site.site r.log.site.file ≡ 0 ∷ head_bytes (head_of c c.point))
      → (IsTrue g.tells → (x : Left) → Now (g.clock b.log.site.site) x → HasShutGate (x.files r.log.site.file)) → IsCopied d g b c
  begun_copied above below written shut = record {
    above = omega (arith, above, file);
    below = omega (arith, below, file);
    plan = p.plan;
    reached = λ t room. ends_stays c.point (running_held d r) (running_held d b) t t (omega (arith, room, next)) stays (ends t);
    goes = λ t room. record {
      body = [];
      is = ap (λ (f : ℕ). g.files b.log.site.site f) file ∙ written (told t) ∙ ap (λ (l : List ℕ). 0 ∷ l) (sym (append-nil (head_bytes (head_of c c.point))));
      place = p.plan.front;
      copying = begun t;
    };
    shut = λ t x now. subst (λ (f : ℕ). HasShutGate (x.files f)) (sym file) (shut t x now);
  }

  pub begun_up : KeepsUp b c
  begun_up = record { order = omega (arith, p.first, next); up = λ room. omega (arith, p.none, p.first, next) }
