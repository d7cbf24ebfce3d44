-- All of a dump is there but its open gate.
use Rattle.std.proofs.Common.{ℕ, ◌<◌, ◌≡◌, inl, inr, List, [], ◌∷◌, ◌++◌, length, sym, ◌∙◌, ap, subst, arith}
use Rattle.dms_block.specs.Content.{Content, block_in}
use Rattle.dms_block.specs.Held.{BlockPoint, BlocksAgree, Held, MadeDurable, Stays}
use Rattle.dms_dump.proofs.HeadRead.{size_is}
use Rattle.dms_dump.specs.Copies.{HasBlocks}
use Rattle.dms_dump.specs.Head.{all_blocks, head_bytes}
use Rattle.dms_site.specs.Files.{overlay_bytes}
use Rattle.dms_dump.specs.Stops.{BecomesDump}
use Rattle.dms_moments.specs.Moments.{Clock, Now, Runs, Steps}
use Rattle.dms_moments.specs.MomentLaws.{runs_on, runs_weaken}
use Rattle.dms_site.specs.Files.{Files, Left, OnDisk, Only}
use Rattle.dms_history.specs.Events.{AllBlocks}
use Rattle.dms_history.specs.Events as events
use Rattle.dms_restore.specs.Logging.{LogView, LogsNothing, waits}
use Rattle.dms_wal.specs.Controls.{IsSettled, MakesControl, TellsSame}
use Rattle.dms_online.specs.Ending.{LeavesShutOr}
use Rattle.dms_online.specs.declared.plan.Copying.{Copying}
use Rattle.dms_online.specs.Calls.{HasShutGate, LeavesGate}
use Rattle.dms_online.specs.Copying.{EndsAtPoint, IsAtPoint}
use Rattle.dms_online.specs.Going.{GoesOn, IsAllBut, IsQuiet}
use Rattle.dms_online.specs.Plans.{head_of}
use Rattle.dms_online.proofs.Gates.{gate_shut, gate_stays, has_gate, overlay_front}
use Rattle.dms_online.proofs.Progress.{at_last}

-- the blocks of now are those of the last point
pub mark_quiet : (h : Held) (low : ℕ) → EndsAtPoint h low → h.content ≡ h.mark → IsQuiet h low
mark_quiet h low e at f k = at_last h low f k (block_in h.content f k) e (ap (λ (c : Content). block_in c f k) at)

module _ (a b : Held) (copy : Copying) (n point end : ℕ) (file new : List ℕ) (points : b.points ≡ a.points) (all : n ≡ all_blocks copy.counts.items) (last : end ≡ point) where
  core : GoesOn b file copy.front copy.point copy.counts.items n (head_bytes (head_of copy copy.point)) → new ≡ overlay_bytes 1 (head_bytes (head_of copy end)) file → IsAllBut (IsAtPoint a.points copy.point) (head_of copy point) new
  core goes wrote =
      let size : length (head_bytes (head_of copy end)) ≡ length (head_bytes (head_of copy copy.point)) = size_is (head_of copy end) ∙ sym (size_is (head_of copy copy.point)) in
      record {
        body = goes.body;
        is = wrote ∙ overlay_front (head_bytes (head_of copy end)) (head_bytes (head_of copy copy.point)) goes.body file goes.is size ∙ ap (λ e. 0 ∷ (head_bytes (head_of copy e) ++ goes.body)) last;
        has = subst (λ m. HasBlocks (IsAtPoint a.points copy.point) copy.counts.items m goes.body) all (subst (λ (ps : List BlockPoint). HasBlocks (IsAtPoint ps copy.point) copy.counts.items n goes.body) points goes.copying.has);
      }

  pub finished : (k : Copying) → k ≡ record copy { done = n } → GoesOn b file k.front k.point k.counts.items k.done (head_bytes (head_of k k.point)) → new ≡ overlay_bytes 1 (head_bytes (head_of k end)) file → IsAllBut (IsAtPoint a.points copy.point) (head_of copy point) new
  finished k is goes wrote =
      subst (λ (x : Copying). GoesOn b file x.front x.point x.counts.items x.done (head_bytes (head_of x x.point)) → new ≡ overlay_bytes 1 (head_bytes (head_of x end)) file → IsAllBut (IsAtPoint a.points copy.point) (head_of copy point) new) (sym is) core goes wrote

-- what stands behind a shut gate
pub gate_rest : (file : List ℕ) → HasShutGate file → (rest : List ℕ) × (file ≡ 0 ∷ rest)
gate_rest [] gate = absurd (omega (arith, gate.some))
gate_rest (b ∷ rest) gate = (rest, ap (λ k. k ∷ rest) gate.shut)

-- the gate is opened
pub gate_opens : (f : ℕ) (rest : List ℕ) (files : Files) {a b : Clock Left} → Only files a → files f ≡ 0 ∷ rest → Steps (OnDisk f (BecomesDump (1 ∷ rest))) a b → Runs a b (LeavesShutOr f (1 ∷ rest))
gate_opens f rest files only is steps = runs_weaken steps.runs (λ x after. elim after.2.files.here [
  | inl same ↦
      let was : x.files f ≡ 0 ∷ rest = same ∙ ap (λ (k : Files). k f) (only after.0 after.1) ∙ is in
      inl (gate_shut (x.files f) (subst (λ (l : List ℕ). HasShutGate l) (sym was) (has_gate rest)))
  | inr other ↦ other
])

-- all stands, and a dump was written
pub settled_dumped : (b c : LogView) → LogsNothing b c → waits c.end ≡ waits b.end → Only c.files c.clock → IsSettled b → IsSettled c
settled_dumped b c n same only m = record {
  nothing = same ∙ m.nothing;
  written = λ f k low. ap (λ (s : events.Stored). s f k) n.blocks_same ∙ m.written f k (subst (λ (l : AllBlocks). k < length (l f)) n.content_same low) ∙ ap (λ (l : AllBlocks). events.block_in l f k) (sym n.content_same);
  only = only;
}

-- behind a control point
pub control_on : (a b c : LogView) (schema : List ℕ) (point next : ℕ) (counts : List ℕ) → TellsSame b c → (IsSettled b → IsSettled c) → MakesControl a b schema point next counts → MakesControl a c schema point next counts
control_on a b c schema point next counts n settles m = record {
  entries_are = n.entries_same ∙ m.entries_are;
  points_same = n.points_same ∙ m.points_same;
  next_same = n.next_same ∙ m.next_same;
  content_same = n.content_same ∙ m.content_same;
  settled = settles m.settled;
}

-- what is read has the gate that each stop leaves
pub gate_now : (f : ℕ) (files : Files) (c : Clock Left) → (x : Left) × Now c x × (x.files ≡ files) → ((x : Left) → Now c x → HasShutGate (x.files f)) → HasShutGate (files f)
gate_now f files c may shut = subst (λ (k : Files). HasShutGate (k f)) may.2 (shut may.0 may.1)

-- while its gate stays it is shut
pub shut_runs : (f : ℕ) (made : List ℕ) (a b : Clock Left) → Steps (LeavesGate f) a b → ((x : Left) → Now a x → HasShutGate (x.files f)) → Runs a b (LeavesShutOr f made)
shut_runs f made a b steps shut = runs_weaken steps.runs (λ x after. inl (gate_shut (x.files f) (gate_stays (after.0.files f) (x.files f) after.2 (shut after.0 after.1))))

-- and then it is opened
pub opens_runs : (f h : ℕ) (made : List ℕ) {a b c : Clock Left} → h ≡ f → Runs a b (LeavesShutOr f made) → Runs b c (LeavesShutOr h made) → Runs a c (LeavesShutOr f made)
opens_runs f h made {b = b} {c = c} same one two = runs_on one (subst (λ (k : ℕ). Runs b c (LeavesShutOr k made)) same two) (λ x p. p)

-- all points were made durable
pub stays_durable : (a b : Held) → BlocksAgree a → MadeDurable a b → Stays a b
stays_durable a b agree made = record { sound = made.sound; mark = made.mark; points = λ tells room. (made.points tells room, omega (arith, made.durable tells room, agree.durable tells room)) }
