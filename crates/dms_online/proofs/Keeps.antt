-- A running database of which a dump is copied is usable behind each call.
use Rattle.std.specs.Prelude.{IfSome}
use Rattle.std.proofs.Common.{ℕ, ◌+◌, ◌<◌, ◌≤◌, ◌^◌, ◌≡◌, ◌++◌, ◌∷◌, [], IsTrue, List, Option, Some, None, refl, sym, ◌∙◌, subst, arith}
use Rattle.dms_moments.specs.MomentLaws.{runs_on}
use Rattle.dms_site.specs.declared.site.Site.{Ghosts}
use Rattle.dms_block.specs.Content.{FitsIn, apply_changes, block_in}
use Rattle.dms_block.specs.declared.change.Change.{Change}
use Rattle.dms_block.specs.Held.{BlockPoint, BlockStop, BlocksAgree, HasNextNumber, Held, IfTold, Lasts, Leaves, MadeDurable, MadeQuiet, MakesNoPoint, Prefix, SameBlocks, Stays, TextIs}
use Rattle.dms_block.specs.HeldLaws.{same_on, told_after}
use Rattle.dms_wal.specs.Database.{IsRunningUsable, running_held}
use Rattle.dms_wal.specs.declared.running.Running.{Running}
use Rattle.dms_online.specs.declared.dump_site.DumpSite.{DumpSite}
use Rattle.dms_online.specs.declared.online.Online.{Online}
use Rattle.dms_online.specs.declared.plan.Copying.{Copying}
use Rattle.dms_online.specs.Going.{IsQuiet}
use Rattle.dms_online.specs.Copying.{EndsAtPoint, IsCopying}
use Rattle.dms_online.specs.Onlines.{CopiedOn, IsCopied, IsOnlineUsable, KeepsUp}
use Rattle.dms_online.specs.Sites.{SameBut}
use Rattle.dms_online.proofs.Copied.{copied_by, up_more, up_still}
use Rattle.dms_online.proofs.Progress.{copying_back, copying_changed, copying_durable, copying_quiet, copying_stays, ends_durable, ends_quiet, ends_stays, quiet_point}

pub if_some : {A : Type 0} {P Q : A → Type 0} (o : Option A) → IfSome o P → ((x : A) → P x → Q x) → IfSome o Q
if_some (Some x) p f = f x p
if_some None p f = tt

-- a quiet point, and blocks that are copied behind it
module _ (a b c : Held) (made : MadeQuiet a b) (lasts : Lasts a b) (room : HasNextNumber a) (later : HasNextNumber b) (passes : MakesNoPoint b c) where
  pub quiet_then : Stays b c → SameBlocks b c → MadeQuiet a c
  quiet_then stays same = record {
    sound = stays.sound;
    next = λ r. passes.next ∙ made.next r;
    same = λ r. same_on lasts (made.same r) same;
    mark = λ r t. stays.mark (told_after lasts t) ∙ made.mark r t;
    points = λ tells r.
        let one = made.points tells r in
        let two = stays.points (lasts.tells tells) later in
        (two.0 ∙ one.0, omega (arith, one.1, two.1));
  }

  low_prefix : a.tells → (ps : List BlockPoint) (n : ℕ) (x : BlockStop) → Prefix b.whole b.durable ps n x → Prefix a.whole a.durable ps n x
  low_prefix tells ps n x p = record { count = p.count; enough = omega (arith, (made.points tells room).1, p.enough); within = p.within; is = p.is; not_fallen = p.not_fallen; not_risen = p.not_risen; whole_files = lasts.whole x.files p.whole_files }

  pub quiet_leaves : b.said ≡ a.said → IfTold a (Leaves a b (a.points ++ a.here ∷ []) (a.next + 1)) → IfTold a (Leaves a c (a.points ++ a.here ∷ []) (a.next + 1))
  quiet_leaves said leaves tells r =
      let ps = a.points ++ a.here ∷ [] in
      let run : Leaves b c ps (a.next + 1) = subst (λ n. Leaves b c ps n) (made.next room) (subst (λ qs. Leaves b c qs b.next) (made.points tells room).0 (passes.leaves (lasts.tells tells) later)) in
      runs_on {P = λ stop. Prefix a.whole a.durable ps (a.next + 1) stop × TextIs a.said stop} (leaves tells r) run (λ x p. (low_prefix tells ps (a.next + 1) x p.0, λ text e. p.1 text (said ∙ e)))

module _ {S : Type 0} (d : Ghosts (DumpSite S)) (g : Ghosts S) (told : IsTrue d.tells → IsTrue g.tells) (o : Online S) (b : Running (DumpSite S)) (u : IsOnlineUsable d g o)
    (same : SameBut g o.running.log.site.file o.running.log.site.site b.log.site.file b.log.site.site) where
  abbrev A : Held
  A = running_held d o.running

  abbrev B : Held
  B = running_held d b

  still : IsRunningUsable d b → b.next ≡ o.running.next → ((c : Copying) → IfTold A (EndsAtPoint A c.point → EndsAtPoint B c.point))
      → ((c : Copying) → IfTold A ((body : List ℕ) → IsCopying A c.point c.counts.items c.done body → IsCopying B c.point c.counts.items c.done body)) → IsOnlineUsable d g (record o { running = b })
  still usable next ends goes = record {
    usable = usable;
    copied = if_some o.copy u.copied (λ c k. copied_by d g told o.running b c k same (omega (arith, next)) (ends c) (goes c));
    up = if_some o.copy u.up (λ c k. up_still o.running b c next k);
  }

  -- blocks were read, or something was printed
  pub online_stays : b.next ≡ o.running.next → Stays A B → SameBlocks A B → IsOnlineUsable d g (record o { running = b })
  online_stays next stays blocks = still stays.sound next (λ c tells room. ends_stays c.point A B tells tells room stays)
      (λ c tells room body k. copying_stays c.point c.counts.items c.done body A B k tells tells room stays blocks (omega (arith, next)))

  pub online_changed : (changes : List Change) → BlocksAgree A → FitsIn changes A.owns A.counts → b.next ≡ o.running.next → (IsTrue A.told → B.content ≡ apply_changes changes A.content) → Stays A B → IsOnlineUsable d g (record o { running = b })
  online_changed changes agree fits next content stays = still stays.sound next (λ c tells room. ends_stays c.point A B tells tells room stays)
      (λ c tells room body k. copying_changed c.point c.counts.items c.done body A B k changes tells tells room agree fits (content tells) stays (omega (arith, next)))

  pub online_durable : b.next ≡ o.running.next → MadeDurable A B → IsOnlineUsable d g (record o { running = b })
  online_durable next made = still made.sound next (λ c tells room. ends_durable c.point A B tells tells room made)
      (λ c tells room body k. copying_durable c.point c.counts.items c.done body A B k tells tells room made (omega (arith, next)))

  pub online_back : b.next ≡ o.running.next → (IsTrue A.told → B.content ≡ A.mark) → Stays A B → IsOnlineUsable d g (record o { running = b })
  online_back next content stays = still stays.sound next (λ c tells room. ends_stays c.point A B tells tells room stays)
      (λ c tells room body k. copying_back c.point c.counts.items c.done body A B k tells tells room (content tells) stays (omega (arith, next)))

  -- a quiet point was made
  pub quiet_copied : BlocksAgree A → MadeQuiet A B → o.running.next ≤ b.next → IfSome o.copy (IsCopied d g b)
  quiet_copied agree made next = if_some o.copy u.copied (λ c k. copied_by d g told o.running b c k same next
      (λ tells room (e : EndsAtPoint A c.point). ends_quiet c.point A B tells tells room agree (k.goes tells room).copying.order made)
      (λ tells room body j. copying_quiet c.point c.counts.items c.done body A B j tells tells room made))

  -- then the blocks of now are those of a point
  pub quiet_now : BlocksAgree A → MadeQuiet A B → HasNextNumber A → IfSome o.copy (λ c. IsTrue d.tells → HasNextNumber B → IsQuiet B c.point)
  quiet_now agree made room = if_some o.copy u.copied (λ c k tells later f j.
      let on = k.goes tells room in
      quiet_point c.point c.counts.items c.done on.body A B on.copying tells tells room agree made f j (block_in B.content f j) refl)

pub up_quiet : {D : Type 0} (a b : Running D) (old new : Option Copying) → a.next + 1 < 2 ^ 64 → b.next ≡ a.next + 1 → IfSome old (KeepsUp a) → CopiedOn old new → IfSome new (KeepsUp b)
up_quiet a b None new room next up on = subst (λ (o : Option Copying). IfSome o (KeepsUp b)) (sym on) tt
up_quiet a b (Some c) new room next up on = subst (λ (o : Option Copying). IfSome o (KeepsUp b)) (sym on) (up_more a b c room next up)

-- no further point has a number
pub up_last : {D : Type 0} (a b : Running D) (o : Option Copying) → a.next ≤ b.next → (b.next + 1 < 2 ^ 64 → ⊥) → IfSome o (KeepsUp a) → IfSome o (KeepsUp b)
up_last a b o le last up = if_some o up (λ c k. record { order = omega (arith, k.order, le); up = λ room. absurd (last room) })
