-- One call on blocks after another.
use Rattle.std.proofs.Common.{ℕ, ◌+◌, ◌≤◌, ◌≡◌, ◌∙◌, List, length, refl, sym, ap, subst, arith, Bool, IsTrue, inl, inr}
use Rattle.std.specs.Prelude.{IsErrOf}
use Rattle.std.specs.declared.result.Result.{Result}
use Rattle.std.specs.declared.result.Result.TheVariants.{Ok, Err}
use Rattle.dms_moments.specs.MomentLaws.{runs_none, runs_on, runs_weaken}
use Rattle.dms_block.specs.declared.block_fault.BlockFault.{BlockFault}
use Rattle.dms_block.specs.declared.block_fault.BlockFault.TheVariants.{Disk, Memory, Full, Damaged, Say}
use Rattle.dms_block.specs.Content.{Content, block_in}
use Rattle.dms_block.specs.Counts.{Faults, Raised}
use Rattle.dms_block.specs.Faults.{NotFull, Unbroken}
use Rattle.dms_block.specs.Held.{Held, BlockStop, BlockPoint, Prefix, TextIs, Lasts, MakesNoPoint, Stays, SameBlocks, HasNextNumber, Leaves, Looks, Alters, Uses, Used, Caused, CausedOr, HasCauses, HasCausesOr, IsShort}

pub unbroken_map : {T : Type 0} {P Q : Type 0} (r : Result T BlockFault) → (P → Q) → Unbroken r P → Unbroken r Q
unbroken_map (Ok x) f p = f p
unbroken_map (Err Memory) f p = f p
unbroken_map (Err Disk) f p = tt
unbroken_map (Err (Full n)) f p = tt
unbroken_map (Err (Damaged n d)) f p = tt
unbroken_map (Err Say) f p = tt

pub unbroken_is : {T : Type 0} {P : Type 0} (r : Result T BlockFault) → P → Unbroken r P
unbroken_is (Ok x) p = p
unbroken_is (Err Memory) p = p
unbroken_is (Err Disk) p = tt
unbroken_is (Err (Full n)) p = tt
unbroken_is (Err (Damaged n d)) p = tt
unbroken_is (Err Say) p = tt

-- what was told is told, and nothing else is
pub told_after : {a b : Held} → Lasts a b → IsTrue a.told → IsTrue b.told
told_after p t = subst (λ b. IsTrue b) (sym p.told) t

pub lasts_none : (a : Held) → Lasts a a
lasts_none a = record { told = refl; tells = λ t. t; owns = refl; schema = refl; whole = λ files w. w; whole_on = λ files w. w }

pub lasts_on : {a b c : Held} → Lasts a b → Lasts b c → Lasts a c
lasts_on p q = record { told = q.told ∙ p.told; tells = λ t. q.tells (p.tells t); owns = q.owns ∙ p.owns; schema = q.schema ∙ p.schema; whole = λ files w. p.whole files (q.whole files w); whole_on = λ files w. q.whole_on files (p.whole_on files w) }

pub passes_none : (a : Held) → MakesNoPoint a a
passes_none a = record { lasts = lasts_none a; next = refl; said = refl; leaves = λ tells room. runs_none a.clock _ }

pub stays_none : (a : Held) → a.sound → Stays a a
stays_none a sound = record { sound = sound; mark = λ t. refl; points = λ t room. (refl, omega arith) }

pub stays_on : {a b c : Held} → MakesNoPoint a b → Stays a b → Stays b c → Stays a c
stays_on pass p q = record {
  sound = q.sound;
  mark = λ t. q.mark (told_after pass.lasts t) ∙ p.mark t;
  points = λ t room. let one = p.points t room in let two = q.points (pass.lasts.tells t) (omega (arith, pass.next, room)) in (two.0 ∙ one.0, omega (arith, one.1, two.1));
}

pub same_none : (a : Held) → SameBlocks a a
same_none a = record { counts = refl; content = λ t. refl }

pub same_on : {a b c : Held} → Lasts a b → SameBlocks a b → SameBlocks b c → SameBlocks a c
same_on lasts p q = record { counts = q.counts ∙ p.counts; content = λ t. q.content (told_after lasts t) ∙ p.content t }

-- what stops leave after calls that made no point
prefix_still : (a b : Held) (points : List BlockPoint) (next : ℕ) (x : BlockStop) → Lasts a b → a.durable ≤ b.durable → Prefix b.whole b.durable points next x → Prefix a.whole a.durable points next x
prefix_still a b points next x lasts low p = record { count = p.count; enough = omega (arith, low, p.enough); within = p.within; is = p.is; not_fallen = p.not_fallen; not_risen = p.not_risen; whole_files = lasts.whole x.files p.whole_files }

-- a call after calls that made no point
pub leaves_on : (a b c : Held) (points : List BlockPoint) (next : ℕ) → MakesNoPoint a b → Stays a b → a.tells → HasNextNumber a
    → ((x : BlockStop) → Prefix a.whole a.durable a.points a.next x → Prefix a.whole a.durable points next x) → Leaves b c points next → Leaves a c points next
leaves_on a b c points next pass stay t room wider run =
    runs_on {P = λ stop. Prefix a.whole a.durable points next stop × TextIs a.said stop} (runs_weaken (pass.leaves t room) (λ x p. (wider x p.0, p.1))) run
    (λ x p. (prefix_still a b points next x pass.lasts (stay.points t room).1 p.0, λ text e. p.1 text (pass.said ∙ e)))

pub passes_on : {a b c : Held} → MakesNoPoint a b → Stays a b → MakesNoPoint b c → MakesNoPoint a c
passes_on {a} {b} {c} p stay q = record {
  lasts = lasts_on p.lasts q.lasts;
  next = q.next ∙ p.next;
  said = q.said ∙ p.said;
  leaves = λ t room.
      let run : Leaves b c a.points a.next = subst (λ n. Leaves b c a.points n) p.next (subst (λ ps. Leaves b c ps b.next) (stay.points t room).0 (q.leaves (p.lasts.tells t) (omega (arith, p.next, room)))) in
      leaves_on a b c a.points a.next p stay t room (λ x p. p) run;
}

pub used_none : (n m : ℕ) (a : Uses) → Used n m a a
used_none n m a = record { not_fewer = omega arith; reads = omega arith; not_less = omega arith; spent = omega arith; syncs = refl; outs = refl }

pub used_on : {n m n' m' : ℕ} {a b c : Uses} → Used n m a b → Used n' m' b c → Used (n + n') (m + m') a c
used_on p q = record { not_fewer = omega (arith, p.not_fewer, q.not_fewer); reads = omega (arith, p.reads, q.reads); not_less = omega (arith, p.not_less, q.not_less); spent = omega (arith, p.spent, q.spent); syncs = q.syncs ∙ p.syncs; outs = q.outs ∙ p.outs }

pub used_more : {n m : ℕ} (n' m' : ℕ) {a b : Uses} → n ≤ n' → m ≤ m' → Used n m a b → Used n' m' a b
used_more n' m' le le' p = record { not_fewer = p.not_fewer; reads = omega (arith, le, p.reads); not_less = p.not_less; spent = omega (arith, le', p.spent); syncs = p.syncs; outs = p.outs }

-- nothing was read yet
pub looks_none : {T : Type 0} (n : ℕ) (r : Result T BlockFault) (a : Held) → NotFull r → a.sound → Looks n r a a
looks_none n r a room sound = record { not_full = room; passes = passes_none a; stays = unbroken_is r (stays_none a sound); same = unbroken_is r (same_none a); counts = refl; uses = used_none n 0 a.uses }

-- more reads after reads that went well
pub looks_on : {T U : Type 0} {m n : ℕ} {x : T} (r : Result U BlockFault) {a b c : Held} → Looks m (Ok x) a b → Looks n r b c → Looks (m + n) r a c
looks_on {m = m} {n = n} r p q = record {
  not_full = q.not_full;
  passes = passes_on p.passes p.stays q.passes;
  stays = unbroken_map r (λ s. stays_on p.passes p.stays s) q.stays;
  same = unbroken_map r (λ s. same_on p.passes.lasts p.same s) q.same;
  counts = q.counts ∙ p.counts;
  uses = used_more (m + n) 0 (omega arith) (omega arith) (used_on p.uses q.uses);
}

-- another answer, after which at most as much is promised
pub looks_as : {T U : Type 0} {n : ℕ} {x : T} (r : Result U BlockFault) {a b : Held} → NotFull r → Looks n (Ok x) a b → Looks n r a b
looks_as r room p = record { not_full = room; passes = p.passes; stays = unbroken_is r p.stays; same = unbroken_is r p.same; counts = p.counts; uses = p.uses }

unbroken_err : (T U P : Type 0) (e : BlockFault) → Unbroken {T = T} (Err e) P → Unbroken {T = U} (Err e) P
unbroken_err T U P Disk p = tt
unbroken_err T U P Memory p = p
unbroken_err T U P (Full f) p = tt
unbroken_err T U P (Damaged f d) p = tt
unbroken_err T U P Say p = tt

not_full_err : (T U : Type 0) (e : BlockFault) → NotFull {T = T} (Err e) → NotFull {T = U} (Err e)
not_full_err T U Disk p = tt
not_full_err T U Memory p = tt
not_full_err T U (Full f) p = p
not_full_err T U (Damaged f d) p = tt
not_full_err T U Say p = tt

-- the same fault, handed on
pub looks_err : {T U : Type 0} {n : ℕ} (e : BlockFault) {a b : Held} → Looks {T = T} n (Err e) a b → Looks {T = U} n (Err e) a b
looks_err {T = T} {U = U} e {a} {b} p = record { not_full = not_full_err T U e p.not_full; passes = p.passes; stays = unbroken_err T U (Stays a b) e p.stays; same = unbroken_err T U (SameBlocks a b) e p.same; counts = p.counts; uses = p.uses }

-- more reads were allowed
pub looks_more : {T : Type 0} {m : ℕ} (n : ℕ) {r : Result T BlockFault} {a b : Held} → m ≤ n → Looks m r a b → Looks n r a b
looks_more n le p = record { not_full = p.not_full; passes = p.passes; stays = p.stays; same = p.same; counts = p.counts; uses = used_more n 0 le (omega arith) p.uses }

memory_is : {T : Type 0} {P : Type 0} (r : Result T BlockFault) → IsErrOf r Memory → Unbroken r P → P
memory_is (Ok x) e p = p
memory_is (Err Memory) e p = p
memory_is (Err Disk) e p = absurd (cc e)
memory_is (Err (Full f)) e p = absurd (cc e)
memory_is (Err (Damaged f d)) e p = absurd (cc e)
memory_is (Err Say) e p = absurd (cc e)

-- reads alone change no block
pub looks_alters : {T : Type 0} {n : ℕ} (m : ℕ) (r : Result T BlockFault) {a b : Held} → Looks n r a b → Alters n m r a b
looks_alters {n = n} m r p = record { passes = p.passes; stays = p.stays; memory = λ e. memory_is r e p.same; uses = used_more n m (omega arith) (omega arith) p.uses }

-- a change after reads that went well
pub alters_on : {T U : Type 0} {k n m : ℕ} {x : T} (r : Result U BlockFault) {a b c : Held} → Looks k (Ok x) a b → Alters n m r b c → Alters (k + n) m r a c
alters_on {k = k} {n = n} {m = m} r p q = record {
  passes = passes_on p.passes p.stays q.passes;
  stays = unbroken_map r (λ s. stays_on p.passes p.stays s) q.stays;
  memory = λ e. same_on p.passes.lasts p.same (q.memory e);
  uses = used_more (k + n) m (omega arith) (omega arith) (used_on p.uses q.uses);
}

-- reads after a change that went well, without more memory
pub alters_more : {T : Type 0} {n m : ℕ} (n' m' : ℕ) {r : Result T BlockFault} {a b : Held} → n ≤ n' → m ≤ m' → Alters n m r a b → Alters n' m' r a b
alters_more n' m' le le' p = record { passes = p.passes; stays = p.stays; memory = p.memory; uses = used_more n' m' le le' p.uses }

pub alters_as : {T U : Type 0} {n m : ℕ} {x : T} (y : U) {a b : Held} → Alters n m (Ok x) a b → Alters n m (Ok y) a b
alters_as y p = record { passes = p.passes; stays = p.stays; memory = λ e. absurd (cc e); uses = p.uses }

-- causes

pub short_on : {a b : Held} (f n : ℕ) → Lasts a b → SameBlocks a b → IsShort b f n → IsShort a f n
short_on {a} {b} f n lasts same short = (
  subst (λ (owns : ℕ → Bool). IsTrue (owns f)) lasts.owns short.0,
  omega (arith, short.1, ap (λ (c : ℕ → ℕ). c f) same.counts),
  λ t long. short.2 (told_after lasts t) (ap (λ (c : Content). length (block_in c f n)) (same.content t) ∙ long),
)

counted_on : (e : BlockFault) (a b c : Faults) → b ≡ a → Raised e b c → Raised e a c
counted_on e a b c is h = subst (λ f. Raised e f c) is h

caused_on : (e : BlockFault) (a b c : Held) → b.faults ≡ a.faults → Lasts a b → SameBlocks a b → Caused e b c → Caused e a c
caused_on Disk a b c is lasts same h = counted_on Disk a.faults b.faults c.faults is h
caused_on Memory a b c is lasts same h = counted_on Memory a.faults b.faults c.faults is h
caused_on (Full f) a b c is lasts same h = counted_on (Full f) a.faults b.faults c.faults is h
caused_on (Damaged f n) a b c is lasts same h = (counted_on (Damaged f n) a.faults b.faults c.faults is h.0, short_on f n lasts same h.1)
caused_on Say a b c is lasts same h = counted_on Say a.faults b.faults c.faults is h

-- a call after calls that went well and changed no block
pub causes_on : {T : Type 0} (r : Result T BlockFault) (a b c : Held) → b.faults ≡ a.faults → Lasts a b → SameBlocks a b → HasCauses r b c → HasCauses r a c
causes_on (Ok x) a b c is lasts same h = h ∙ is
causes_on (Err e) a b c is lasts same h = caused_on e a b c is lasts same h

caused_or_on : (P Q : ℕ → ℕ → Type 0) (e : BlockFault) (a b c : Held) → ((f n : ℕ) → P f n → Q f n) → b.faults ≡ a.faults → Lasts a b → SameBlocks a b → CausedOr P e b c → CausedOr Q e a c
caused_or_on P Q Disk a b c w is lasts same h = caused_on Disk a b c is lasts same h
caused_or_on P Q Memory a b c w is lasts same h = caused_on Memory a b c is lasts same h
caused_or_on P Q (Full f) a b c w is lasts same h = caused_on (Full f) a b c is lasts same h
caused_or_on P Q (Damaged f n) a b c w is lasts same (inl h) = inl (caused_on (Damaged f n) a b c is lasts same h)
caused_or_on P Q (Damaged f n) a b c w is lasts same (inr h) = inr (h.0 ∙ is, w f n h.1)
caused_or_on P Q Say a b c w is lasts same h = h

pub causes_or_on : {T : Type 0} (P Q : ℕ → ℕ → Type 0) (r : Result T BlockFault) (a b c : Held) → ((f n : ℕ) → P f n → Q f n) → b.faults ≡ a.faults → Lasts a b → SameBlocks a b → HasCausesOr P r b c → HasCausesOr Q r a c
causes_or_on P Q (Ok x) a b c w is lasts same h = h ∙ is
causes_or_on P Q (Err e) a b c w is lasts same h = caused_or_on P Q e a b c w is lasts same h

-- of a call that prints nothing
pub causes_or : {T : Type 0} (P : ℕ → ℕ → Type 0) (r : Result T BlockFault) (a b : Held) → HasCauses r a b → (IsErrOf r Say → ⊥) → HasCausesOr P r a b
causes_or P (Ok x) a b h silent = h
causes_or P (Err Disk) a b h silent = h
causes_or P (Err Memory) a b h silent = h
causes_or P (Err (Full f)) a b h silent = h
causes_or P (Err (Damaged f n)) a b h silent = inl h
causes_or P (Err Say) a b h silent = silent refl
