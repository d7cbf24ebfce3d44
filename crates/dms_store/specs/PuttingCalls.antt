-- Calls over the blocks while one record is stored: what they leave below, and what is written over it.
use Rattle.std.proofs.Common.{◌≡◌, ◌+◌, ℕ, [], IsTrue, refl, sym, ap, subst, length, arith}
use Rattle.std.specs.Prelude.{⊤, IsErrOf}
use Rattle.std.specs.declared.result.Result.{Result}
use Rattle.std.specs.declared.result.Result.TheVariants.{Ok, Err}
use Rattle.dms_block.specs.declared.block_fault.BlockFault.{BlockFault}
use Rattle.dms_block.specs.declared.block_fault.BlockFault.TheVariants.{Disk, Memory, Full, Damaged, Say}
use Rattle.dms_block.specs.declared.blocks.Blocks.{Ghosts}
use Rattle.dms_block.specs.declared.overlay.Overlay.{Overlay}
use Rattle.dms_block.specs.Faults.{NotFull, Unbroken}
use Rattle.dms_block.specs.Held.{Alters, HasCauses, HasCausesOr, Stays}
use Rattle.dms_block.specs.HeldLaws.{alters_as, alters_more, alters_on, causes_or, causes_or_on, lasts_none, looks_alters, same_none}
use Rattle.dms_block.specs.View.{ReadsOverlay, WritesOverlay, under, overlay_changes}
use Rattle.dms_chain.specs.SeenLaws.{causes_err}
use Rattle.dms_links.specs.Altering.{WritesSlots, causes_after, failed_read, read_alone, read_then, told_writes, writes_as, writes_err, writes_then, wrote_none}

-- ---- calls that write over the blocks

-- A call reads what stands below, and writes over it at most as many blocks as are few.
pub record WritesFew {B : Type 0} {g : Ghosts B} {T : Type 0} (few : ℕ → Type 0) (result : Result T BlockFault) (a b : Overlay B g) : Type 0 where
  pub count : ℕ
  pub writes : WritesSlots count result a b
  pub low : few count

module _ {B : Type 0} {g : Ghosts B} where
  -- one write
  pub slots_put : {U : Type 0} {k : ℕ} (m : ℕ) (P : ℕ → ℕ → Type 0) (r : Result U BlockFault) (a b : Overlay B g) → WritesOverlay k m r a b → HasCausesOr P r (under a) (under b) → WritesSlots m r a b
  slots_put {k = k} m P r a b writes causes = record { reads = k; writes = writes; causes = causes_or_on P (λ f k. ⊤) r (under a) (under a) (under b) (λ f k h. tt) refl (lasts_none (under a)) (same_none (under a)) causes }

  pub few_of : {T : Type 0} (p : ℕ → Type 0) (m : ℕ) (r : Result T BlockFault) (a b : Overlay B g) → p m → WritesSlots m r a b → WritesFew p r a b
  few_of p m r a b low writes = record { count = m; writes = writes; low = low }

  -- nothing was called
  pub few_none : {T : Type 0} (p : ℕ → Type 0) (r : Result T BlockFault) (a : Overlay B g) → p 0 → ((b : B) → g.same_blocks b b) → NotFull r → HasCausesOr (λ f k. ⊤) r (under a) (under a) → (under a).sound → WritesFew p r a a
  few_none p r a low again room causes sound = few_of p 0 r a a low (wrote_none 0 r a again room causes sound)

  -- a read that failed
  pub few_failed : {T U : Type 0} {n : ℕ} (p : ℕ → Type 0) (P : ℕ → ℕ → Type 0) (e : BlockFault) (a b : Overlay B g) → p 0 → ReadsOverlay {T = T} n (Err e) a b → HasCausesOr {T = T} P (Err e) (under a) (under b) → WritesFew {T = U} p (Err e) a b
  few_failed {U = U} p P e a b low reads causes = few_of {T = U} p 0 (Err e) a b low (failed_read 0 P e a b reads causes)

  -- a read after which nothing is written
  pub few_read : {T U : Type 0} {n : ℕ} {x : T} (p : ℕ → Type 0) (y : U) (a b : Overlay B g) → p 0 → ReadsOverlay n (Ok x) a b → (under b).faults ≡ (under a).faults → WritesFew p (Ok y) a b
  few_read p y a b low reads same = few_of p 0 (Ok y) a b low (read_alone 0 y a b reads same)

  -- a call after a read
  pub few_on : {T U : Type 0} {n : ℕ} {x : T} (p q : ℕ → Type 0) (r : Result U BlockFault) (a b c : Overlay B g) → ((x y z : B) → g.same_blocks x y → g.same_blocks y z → g.same_blocks x z) → ((k : ℕ) → p k → q k) → ReadsOverlay n (Ok x) a b → (under b).faults ≡ (under a).faults → WritesFew p r b c → WritesFew q r a c
  few_on p q r a b c onward weaker reads same next = record { count = next.count; writes = read_then next.count r a b c onward reads same next.writes; low = weaker next.count next.low }

  -- a call after one that wrote
  pub few_then : {T U : Type 0} {x : T} (p q : ℕ → Type 0) (k : ℕ) (r : Result U BlockFault) (a b c : Overlay B g) → ((x y z : B) → g.same_blocks x y → g.same_blocks y z → g.same_blocks x z) → ((n : ℕ) → p n → q (n + k)) → WritesFew p (Ok x) a b → WritesSlots k r b c → WritesFew q r a c
  few_then p q k r a b c onward weaker first next = record { count = first.count + k; writes = writes_then first.count k (first.count + k) r a b c onward (omega arith) first.writes next; low = weaker first.count first.low }

  -- more are few
  pub few_weaker : {T : Type 0} (p q : ℕ → Type 0) (r : Result T BlockFault) (a b : Overlay B g) → ((n : ℕ) → p n → q n) → WritesFew p r a b → WritesFew q r a b
  few_weaker p q r a b weaker h = record { count = h.count; writes = h.writes; low = weaker h.count h.low }

  -- another answer
  pub few_as : {T U : Type 0} {x : T} (p : ℕ → Type 0) (y : U) (a b : Overlay B g) → WritesFew p (Ok x) a b → WritesFew p (Ok y) a b
  few_as p y a b h = record { count = h.count; writes = writes_as h.count y a b h.writes; low = h.low }

  -- the same fault, handed on
  pub few_err : {T U : Type 0} (p : ℕ → Type 0) (e : BlockFault) (a b : Overlay B g) → WritesFew {T = T} p (Err e) a b → WritesFew {T = U} p (Err e) a b
  few_err p e a b h = record { count = h.count; writes = writes_err h.count e a b h.writes; low = h.low }

  -- what is told stays told
  pub few_told : {T : Type 0} {x : T} (p : ℕ → Type 0) (a b : Overlay B g) → WritesFew p (Ok x) a b → IsTrue (under a).told → IsTrue (under b).told
  few_told p a b h told = told_writes h.count a b h.writes told

  -- the causes of a call after it
  pub few_causes : {T U : Type 0} {x : T} (p : ℕ → Type 0) (r : Result U BlockFault) (a b c : Overlay B g) → WritesFew p (Ok x) a b → HasCausesOr (λ f k. ⊥) r (under b) (under c) → HasCausesOr (λ f k. ⊥) r (under a) (under c)
  few_causes p r a b c h causes = causes_after h.count r a b c h.writes causes

-- ---- calls that hand down what was written

-- A call that hands down what was written: it changes at most m blocks below, and nothing is left over them.
pub record HandsDown {B : Type 0} {g : Ghosts B} {T : Type 0} (m : ℕ) (result : Result T BlockFault) (a b : Overlay B g) : Type 0 where
  pub reads : ℕ
  pub alters : Alters reads m result (under a) (under b)
  pub causes : HasCausesOr (λ f k. ⊤) result (under a) (under b)
  pub same : g.same_blocks a.below b.below

-- the same of as many blocks as are few
pub record HandsFew {B : Type 0} {g : Ghosts B} {T : Type 0} (few : ℕ → Type 0) (result : Result T BlockFault) (a b : Overlay B g) : Type 0 where
  pub count : ℕ
  pub hands : HandsDown count result a b
  pub low : few count

unbroken_err : (T U P : Type 0) (e : BlockFault) → Unbroken {T = T} (Err e) P → Unbroken {T = U} (Err e) P
unbroken_err T U P Disk p = tt
unbroken_err T U P Memory p = p
unbroken_err T U P (Full f) p = tt
unbroken_err T U P (Damaged f d) p = tt
unbroken_err T U P Say p = tt

memory_err : (T U : Type 0) (e : BlockFault) → IsErrOf {T = U} (Err e) Memory → IsErrOf {T = T} (Err e) Memory
memory_err T U Disk h = absurd (cc)
memory_err T U Memory h = refl
memory_err T U (Full f) h = absurd (cc)
memory_err T U (Damaged f d) h = absurd (cc)
memory_err T U Say h = absurd (cc)

module _ {B : Type 0} {g : Ghosts B} where
  -- the blocks below are handed what was written
  pub hands_down : {T U : Type 0} {x : T} (m n : ℕ) (r : Result U BlockFault) (a b c : Overlay B g) → ((x y z : B) → g.same_blocks x y → g.same_blocks y z → g.same_blocks x z) → WritesSlots m (Ok x) a b → overlay_changes a ≡ [] → n ≡ length (overlay_changes b)
      → Alters n n r (under b) (under c) → HasCauses r (under b) (under c) → (IsErrOf r Say → ⊥) → g.same_blocks b.below c.below → HandsDown m r a c
  hands_down m n r a b c onward enters none long alters causes silent same = record {
    reads = enters.reads + n;
    alters = alters_more (enters.reads + n) m (omega arith) (omega (arith, long, enters.writes.more, ap length none)) (alters_on r enters.writes.looks alters);
    causes = causes_or_on (λ f k. ⊤) (λ f k. ⊤) r (under a) (under b) (under c) (λ f k h. h) enters.causes enters.writes.looks.passes.lasts enters.writes.looks.same (causes_or (λ f k. ⊤) r (under b) (under c) causes silent);
    same = onward a.below b.below c.below enters.writes.same same;
  }

  pub hands_few : {T U : Type 0} {x : T} (p : ℕ → Type 0) (n : ℕ) (r : Result U BlockFault) (a b c : Overlay B g) → ((x y z : B) → g.same_blocks x y → g.same_blocks y z → g.same_blocks x z) → WritesFew p (Ok x) a b → overlay_changes a ≡ [] → n ≡ length (overlay_changes b)
      → Alters n n r (under b) (under c) → HasCauses r (under b) (under c) → (IsErrOf r Say → ⊥) → g.same_blocks b.below c.below → HandsFew p r a c
  hands_few p n r a b c onward enters none long alters causes silent same =
      record { count = enters.count; hands = hands_down enters.count n r a b c onward enters.writes none long alters causes silent same; low = enters.low }

  -- or what was written is dropped
  pub drops : {T : Type 0} (m : ℕ) (r : Result T BlockFault) (a b c : Overlay B g) → WritesSlots m r a b → c.below ≡ b.below → HandsDown m r a c
  drops m r a b c enters same = record {
    reads = enters.reads;
    alters = subst (λ (x : B). Alters enters.reads m r (under a) (g.held x)) (sym same) (looks_alters m r enters.writes.looks);
    causes = subst (λ (x : B). HasCausesOr (λ f k. ⊤) r (under a) (g.held x)) (sym same) enters.causes;
    same = subst (λ (x : B). g.same_blocks a.below x) (sym same) enters.writes.same;
  }

  pub drops_few : {T : Type 0} (p : ℕ → Type 0) (r : Result T BlockFault) (a b c : Overlay B g) → WritesFew p r a b → c.below ≡ b.below → HandsFew p r a c
  drops_few p r a b c enters same = record { count = enters.count; hands = drops enters.count r a b c enters.writes same; low = enters.low }

  pub hands_as : {T U : Type 0} {x : T} (m : ℕ) (y : U) (a b : Overlay B g) → HandsDown m (Ok x) a b → HandsDown m (Ok y) a b
  hands_as m y a b h = record { reads = h.reads; alters = alters_as y h.alters; causes = h.causes; same = h.same }

  pub hands_few_as : {T U : Type 0} {x : T} (p : ℕ → Type 0) (y : U) (a b : Overlay B g) → HandsFew p (Ok x) a b → HandsFew p (Ok y) a b
  hands_few_as p y a b h = record { count = h.count; hands = hands_as h.count y a b h.hands; low = h.low }

  pub hands_err : {T U : Type 0} (m : ℕ) (e : BlockFault) (a b : Overlay B g) → HandsDown {T = T} m (Err e) a b → HandsDown {T = U} m (Err e) a b
  hands_err {T = T} {U = U} m e a b h = record {
    reads = h.reads;
    alters = record { passes = h.alters.passes; stays = unbroken_err T U (Stays (under a) (under b)) e h.alters.stays; memory = λ is. h.alters.memory (memory_err T U e is); uses = h.alters.uses };
    causes = causes_err T U (λ f k. ⊤) (λ f k. ⊤) e (under a) (under b) (λ f k x. x) h.causes;
    same = h.same;
  }

  pub hands_few_err : {T U : Type 0} (p : ℕ → Type 0) (e : BlockFault) (a b : Overlay B g) → HandsFew {T = T} p (Err e) a b → HandsFew {T = U} p (Err e) a b
  hands_few_err p e a b h = record { count = h.count; hands = hands_err h.count e a b h.hands; low = h.low }
