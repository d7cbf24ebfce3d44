-- What a dump on its way keeps over each call.
use Rattle.std.proofs.Common.{ℕ, ◌+◌, ◌-◌, ◌*◌, ◌<◌, ◌≤◌, ◌^◌, ◌≡◌, IsTrue, List, min, sym, ◌∙◌, ap, subst, arith}
use Rattle.dms_site.specs.declared.site.Site.{Ghosts}
use Rattle.dms_block.specs.Held.{HasNextNumber, IfTold, Stays}
use Rattle.dms_dump.specs.Head.{head_bytes}
use Rattle.dms_wal.specs.Database.{running_held}
use Rattle.dms_wal.specs.declared.running.Running.{Running}
use Rattle.dms_online.specs.declared.dump_site.DumpSite.{DumpSite}
use Rattle.dms_online.specs.declared.plan.Copying.{Copying}
use Rattle.dms_online.specs.Calls.{SameDump}
use Rattle.dms_online.specs.Copying.{EndsAtPoint, IsCopying}
use Rattle.dms_online.specs.Going.{GoesOn}
use Rattle.dms_online.specs.Onlines.{IsCopied, KeepsUp}
use Rattle.dms_online.specs.OnlineLaws.{dump_kept}
use Rattle.dms_online.specs.Plans.{IsPlan, head_of}
use Rattle.dms_online.specs.Sites.{SameBut}
use Rattle.dms_online.proofs.Gates.{shut_then}
use Rattle.dms_online.proofs.Progress.{ends_stays}

-- a plan of which more is done
pub plan_on : (c : Copying) (n : ℕ) → n ≤ c.total → IsPlan c → IsPlan (record c { done = n })
plan_on c n le p = record { head = p.head; front = p.front; total = p.total; room = p.room; within = le }

-- it keeps up where no number was used
pub up_still : {D : Type 0} (a b : Running D) (c : Copying) → b.next ≡ a.next → KeepsUp a c → KeepsUp b c
up_still a b c same up = record { order = omega (arith, up.order, same); up = λ room. up.up (omega (arith, room, same)) ∙ ap (λ (n : ℕ). min c.total (16 * (n - c.first_next))) (sym same) }

-- and where 16 blocks more were copied for the number that was used
pub up_more : {D : Type 0} (a b : Running D) (c : Copying) → a.next + 1 < 2 ^ 64 → b.next ≡ a.next + 1 → KeepsUp a c → KeepsUp b (record c { done = min (c.done + 16) c.total })
up_more a b c room next up = record {
  order = omega (arith, up.order, next);
  up = λ later. omega (arith, up.up room, up.order, next);
}

module _ {S : Type 0} (d : Ghosts (DumpSite S)) (g : Ghosts S) (told : IsTrue d.tells → IsTrue g.tells) (a b : Running (DumpSite S)) (c : Copying) (copied : IsCopied d g a c) where
  -- a call of the database
  pub copied_by : SameBut g a.log.site.file a.log.site.site b.log.site.file b.log.site.site → a.next ≤ b.next
      → IfTold (running_held d a) (EndsAtPoint (running_held d a) c.point → EndsAtPoint (running_held d b) c.point)
      → IfTold (running_held d a) ((body : List ℕ) → IsCopying (running_held d a) c.point c.counts.items c.done body → IsCopying (running_held d b) c.point c.counts.items c.done body)
      → IsCopied d g b c
  copied_by same next ends goes = record {
    above = omega (arith, copied.above, same.file_same);
    below = omega (arith, copied.below, same.file_same);
    plan = copied.plan;
    reached = λ tells room. let old : HasNextNumber (running_held d a) = omega (arith, room, next) in ends tells old (copied.reached tells old);
    goes = λ tells room.
        let old : HasNextNumber (running_held d a) = omega (arith, room, next) in
        let on = copied.goes tells old in
        record {
          body = on.body;
          is = ap (λ (f : ℕ). g.files b.log.site.site f) same.file_same ∙ same.read (told tells) ∙ on.is;
          place = on.place;
          copying = goes tells old on.body on.copying;
        };
    shut = λ tells x now. shut_then a.log.site.file b.log.site.file (g.clock a.log.site.site) (g.clock b.log.site.site) same.file_same ((dump_kept g a.log.site b.log.site same).gate tells) (copied.shut tells) x now;
  }

  -- blocks of it were copied
  pub copied_more : (n : ℕ) → n ≤ c.total → SameDump g a.log.site b.log.site → Stays (running_held d a) (running_held d b) → b.next ≡ a.next
      → IfTold (running_held d a) (GoesOn (running_held d a) (g.files a.log.site.site a.log.site.file) c.front c.point c.counts.items c.done (head_bytes (head_of c c.point))
      → GoesOn (running_held d b) (g.files b.log.site.site a.log.site.file) c.front c.point c.counts.items n (head_bytes (head_of c c.point)))
      → IsCopied d g b (record c { done = n })
  copied_more n le same stays next goes = record {
    above = omega (arith, copied.above, same.file);
    below = omega (arith, copied.below, same.file);
    plan = plan_on c n le copied.plan;
    reached = λ tells room. let old : HasNextNumber (running_held d a) = omega (arith, room, next) in ends_stays c.point (running_held d a) (running_held d b) tells tells old stays (copied.reached tells old);
    goes = λ tells room.
        let old : HasNextNumber (running_held d a) = omega (arith, room, next) in
        subst (λ (f : ℕ). GoesOn (running_held d b) (g.files b.log.site.site f) c.front c.point c.counts.items n (head_bytes (head_of c c.point))) (sym same.file) (goes tells old (copied.goes tells old));
    shut = λ tells x now. shut_then a.log.site.file b.log.site.file (g.clock a.log.site.site) (g.clock b.log.site.site) same.file (same.gate tells) (copied.shut tells) x now;
  }
