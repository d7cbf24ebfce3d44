-- Calls that read what stands below, and write at most so many blocks over it.
use Rattle.std.proofs.Common.{◌≡◌, ◌∙◌, ◌+◌, ◌≤◌, ◌<◌, ℕ, Bool, Some, None, IsTrue, sym, ap, subst, length, arith}
use Rattle.std.specs.Prelude.{⊤}
use Rattle.std.specs.declared.option.Option.{Option}
use Rattle.std.specs.declared.result.Result.{Result}
use Rattle.std.specs.declared.result.Result.TheVariants.{Ok, Err}
use Rattle.dms_block.specs.Content.{Content}
use Rattle.dms_block.specs.declared.block_fault.BlockFault.{BlockFault}
use Rattle.dms_block.specs.declared.block_fault.BlockFault.TheVariants.{Memory}
use Rattle.dms_block.specs.declared.blocks.Blocks.{Ghosts}
use Rattle.dms_block.specs.declared.overlay.Overlay.{Overlay}
use Rattle.dms_block.specs.Held.{BlocksAgree, HasCausesOr}
use Rattle.dms_block.specs.HeldLaws.{causes_or_on, looks_as, looks_err, looks_none, looks_on}
use Rattle.dms_block.specs.Faults.{NotFull}
use Rattle.dms_block.specs.View.{ReadsOverlay, WritesOverlay, overlay_content, under}
use Rattle.dms_block.specs.ViewLaws.{counts_seen, seen_still}
use Rattle.dms_chain.specs.SeenLaws.{causes_err}
use Rattle.dms_desc.specs.Files.{file_of}
use Rattle.dms_desc.specs.Shape.{Shape}
use Rattle.dms_layout.specs.Slots.{SlotFits, slot_bytes}
use Rattle.dms_layout.specs.ReadLaws.{used_one}
use Rattle.dms_layout.specs.declared.slot.Slot.{Slot}
use Rattle.dms_layout.specs.declared.slot.SlotRead.TheVariants.{Free, Used}
use Rattle.dms_slots.specs.Seen.{count_of, with_slot}
use Rattle.dms_slots.specs.SlotBlocks.{block_of, slot_at, slot_put}
use Rattle.dms_links.specs.Altered.{IsAltered, IsStuck, MayChange, after_fits, slot_after}
use Rattle.dms_links.specs.declared.altering.SlotChange.{SlotChange}

-- A call reads what stands below, and writes at most m blocks over it.
pub record WritesSlots {B : Type 0} {g : Ghosts B} {T : Type 0} (m : ℕ) (result : Result T BlockFault) (a b : Overlay B g) : Type 0 where
  pub reads : ℕ
  pub writes : WritesOverlay reads m result a b
  pub causes : HasCausesOr (λ f k. ⊤) result (under a) (under b)

module _ {B : Type 0} {g : Ghosts B} where
  -- nothing was called
  pub wrote_none : {T : Type 0} (m : ℕ) (r : Result T BlockFault) (a : Overlay B g) → ((b : B) → g.same_blocks b b) → NotFull r → HasCausesOr (λ f k. ⊤) r (under a) (under a) → (under a).sound → WritesSlots m r a a
  wrote_none m r a again room causes sound = record {
    reads = 0;
    writes = record { looks = looks_none 0 r (under a) room sound; more = omega arith; same = again a.below };
    causes = causes;
  }

  -- a read that failed
  pub failed_read : {T U : Type 0} {n : ℕ} (m : ℕ) (P : ℕ → ℕ → Type 0) (e : BlockFault) (a b : Overlay B g) → ReadsOverlay {T = T} n (Err e) a b → HasCausesOr {T = T} P (Err e) (under a) (under b) → WritesSlots {T = U} m (Err e) a b
  failed_read {T = T} {U = U} {n = n} m P e a b reads causes = record {
    reads = n;
    writes = record { looks = looks_err e reads.looks; more = omega (arith, ap length reads.written_still); same = reads.same };
    causes = causes_err T U P (λ f k. ⊤) e (under a) (under b) (λ f k h. tt) causes;
  }

  -- a read after which nothing is written
  pub read_alone : {T U : Type 0} {n : ℕ} {x : T} (m : ℕ) (y : U) (a b : Overlay B g) → ReadsOverlay n (Ok x) a b → (under b).faults ≡ (under a).faults → WritesSlots m (Ok y) a b
  read_alone {n = n} m y a b reads same = record { reads = n; writes = record { looks = looks_as (Ok y) tt reads.looks; more = omega (arith, ap length reads.written_still); same = reads.same }; causes = same }

  -- or memory was refused
  pub read_memory : {T U : Type 0} {n : ℕ} {x : T} (m : ℕ) (a b : Overlay B g) → ReadsOverlay n (Ok x) a b → (under b).faults ≡ (under a).faults → WritesSlots {T = U} m (Err Memory) a b
  read_memory {n = n} m a b reads same = record { reads = n; writes = record { looks = looks_as (Err Memory) tt reads.looks; more = omega (arith, ap length reads.written_still); same = reads.same }; causes = same }

  -- a write after a read
  pub read_write : {T U : Type 0} {n k : ℕ} {x : T} (m : ℕ) (P : ℕ → ℕ → Type 0) (r : Result U BlockFault) (a b c : Overlay B g) → ((x y z : B) → g.same_blocks x y → g.same_blocks y z → g.same_blocks x z) → ReadsOverlay n (Ok x) a b → (under b).faults ≡ (under a).faults
      → WritesOverlay k m r b c → HasCausesOr P r (under b) (under c) → WritesSlots m r a c
  read_write {n = n} {k = k} m P r a b c onward reads same writes causes = record {
    reads = n + k;
    writes = record { looks = looks_on r reads.looks writes.looks; more = omega (arith, ap length reads.written_still, writes.more); same = onward a.below b.below c.below reads.same writes.same };
    causes = causes_or_on P (λ f k. ⊤) r (under a) (under b) (under c) (λ f k h. tt) same reads.looks.passes.lasts reads.looks.same causes;
  }

  -- a call after a read
  pub read_then : {T U : Type 0} {n : ℕ} {x : T} (m : ℕ) (r : Result U BlockFault) (a b c : Overlay B g) → ((x y z : B) → g.same_blocks x y → g.same_blocks y z → g.same_blocks x z) → ReadsOverlay n (Ok x) a b → (under b).faults ≡ (under a).faults → WritesSlots m r b c → WritesSlots m r a c
  read_then {n = n} m r a b c onward reads same next = record {
    reads = n + next.reads;
    writes = record { looks = looks_on r reads.looks next.writes.looks; more = omega (arith, ap length reads.written_still, next.writes.more); same = onward a.below b.below c.below reads.same next.writes.same };
    causes = causes_or_on (λ f k. ⊤) (λ f k. ⊤) r (under a) (under b) (under c) (λ f k h. h) same reads.looks.passes.lasts reads.looks.same next.causes;
  }

  -- a call after one that wrote
  pub writes_then : {T U : Type 0} {x : T} (m n k : ℕ) (r : Result U BlockFault) (a b c : Overlay B g) → ((x y z : B) → g.same_blocks x y → g.same_blocks y z → g.same_blocks x z) → m + n ≤ k → WritesSlots m (Ok x) a b → WritesSlots n r b c → WritesSlots k r a c
  writes_then m n k r a b c onward le p q = record {
    reads = p.reads + q.reads;
    writes = record { looks = looks_on r p.writes.looks q.writes.looks; more = omega (arith, p.writes.more, q.writes.more, le); same = onward a.below b.below c.below p.writes.same q.writes.same };
    causes = causes_or_on (λ f k. ⊤) (λ f k. ⊤) r (under a) (under b) (under c) (λ f k h. h) p.causes p.writes.looks.passes.lasts p.writes.looks.same q.causes;
  }

  -- more were allowed
  pub writes_more : {T : Type 0} (m k : ℕ) (r : Result T BlockFault) (a b : Overlay B g) → m ≤ k → WritesSlots m r a b → WritesSlots k r a b
  writes_more m k r a b le p = record { reads = p.reads; writes = record { looks = p.writes.looks; more = omega (arith, p.writes.more, le); same = p.writes.same }; causes = p.causes }

  -- the causes of a call after one that wrote
  pub causes_after : {T U : Type 0} {x : T} (m : ℕ) (r : Result U BlockFault) (a b c : Overlay B g) → WritesSlots m (Ok x) a b → HasCausesOr (λ f k. ⊥) r (under b) (under c) → HasCausesOr (λ f k. ⊥) r (under a) (under c)
  causes_after m r a b c p causes = causes_or_on (λ f k. ⊥) (λ f k. ⊥) r (under a) (under b) (under c) (λ f k h. h) p.causes p.writes.looks.passes.lasts p.writes.looks.same causes

  -- what is told stays told
  pub told_writes : {T : Type 0} {x : T} (m : ℕ) (a b : Overlay B g) → WritesSlots m (Ok x) a b → IsTrue (under a).told → IsTrue (under b).told
  told_writes m a b p told = p.writes.looks.passes.lasts.told ∙ told

  -- another answer
  pub writes_as : {T U : Type 0} {x : T} (m : ℕ) (y : U) (a b : Overlay B g) → WritesSlots m (Ok x) a b → WritesSlots m (Ok y) a b
  writes_as m y a b h = record { reads = h.reads; writes = record { looks = looks_as (Ok y) tt h.writes.looks; more = h.writes.more; same = h.writes.same }; causes = h.causes }

  -- the same fault, handed on
  pub writes_err : {T U : Type 0} (m : ℕ) (e : BlockFault) (a b : Overlay B g) → WritesSlots {T = T} m (Err e) a b → WritesSlots {T = U} m (Err e) a b
  writes_err {T = T} {U = U} m e a b h = record {
    reads = h.reads;
    writes = record { looks = looks_err e h.writes.looks; more = h.writes.more; same = h.writes.same };
    causes = causes_err T U (λ f k. ⊤) (λ f k. ⊤) e (under a) (under b) (λ f k x. x) h.causes;
  }

module _ {B : Type 0} {g : Ghosts B} (s : Shape) (number : ℕ) (change : SlotChange) (a b : Overlay B g) (told : IsTrue (under a).told) where
  -- no record stands in the slot that was read
  pub stuck_none : {T : Type 0} {n : ℕ} {x : T} → ReadsOverlay n (Ok x) a b → slot_at s (overlay_content a (file_of s.number)) number ≡ Free → IsStuck s number change (overlay_content a) (overlay_content b)
  stuck_none reads was = record { none = λ y z there next. apart y (sym was ∙ there); same = seen_still reads told }
    where
      apart : (y : Slot) → Free ≡ Used y → ⊥
      apart y h = absurd (cc)

  -- or the change has no room
  pub stuck_full : {T : Type 0} {n : ℕ} {x : T} (slot : Slot) → ReadsOverlay n (Ok x) a b → slot_at s (overlay_content a (file_of s.number)) number ≡ Used slot → slot_after s.items change slot ≡ None → IsStuck s number change (overlay_content a) (overlay_content b)
  stuck_full slot reads was full = record { none = λ y z there next. off z (sym full ∙ ap (slot_after s.items change) (used_one slot y (sym was ∙ there)) ∙ next); same = seen_still reads told }
    where
      off : (z : Slot) → ◌≡◌ {A = Option Slot} None (Some z) → ⊥
      off z h = absurd (cc h)

  -- or it is written
  pub altered_is : {T : Type 0} {n : ℕ} {x : T} (slot next : Slot) (d : Content) → ReadsOverlay n (Ok x) a b → BlocksAgree (under a) → MayChange s.items change → slot_at s (overlay_content a (file_of s.number)) number ≡ Used slot → SlotFits s slot
      → block_of s.items number < count_of s a → slot_after s.items change slot ≡ Some next → d ≡ with_slot s number (slot_bytes s.items next) b → IsAltered s number change (overlay_content a) d
  altered_is slot next d reads agrees may was fits there is_next is = record {
    slot = slot;
    next = next;
    was = was;
    is_next = is_next;
    fits = after_fits s change slot next may fits is_next;
    there = omega (arith, there, counts_seen a agrees told (file_of s.number));
    is = is ∙ (λ i. slot_put s number (slot_bytes s.items next) (seen_still reads told i));
  }
