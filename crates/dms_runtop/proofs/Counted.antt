-- How often calls have failed where a run ended so.
use Rattle.std.proofs.Common.{ℕ, ◌≡◌, ◌∙◌, inl, inr, List, [], ◌∷◌, ◌++◌, Option, None, Some, refl, sym, ap, subst}
use Rattle.std.specs.Io.KnownBytes.{prepend_known}
use Rattle.std.specs.declared.result.Result.{Result}
use Rattle.std.specs.declared.result.Result.TheVariants.{Ok, Err}
use Rattle.dms_audfile.specs.Counting.{CountedAt, not_counted}
use Rattle.dms_block.specs.Counts.{Faults, RoseOnce}
use Rattle.dms_block.specs.declared.block_fault.BlockFault.TheVariants as block
use Rattle.dms_runner.specs.Blaming.{HasBlame}
use Rattle.dms_runner.specs.declared.run.RunFault.{RunFault}
use Rattle.dms_runner.specs.declared.run.RunFault.TheVariants as run
use Rattle.dms_status.specs.declared.status.Status.{Status}
use Rattle.dms_status.specs.declared.status.Status.TheVariants.{DiskFault, SayFault}
use Rattle.dms_guard.specs.Faults.{is_structure_file, damaged_status}
use Rattle.dms_runtop.specs.Faults.{IsWithin, run_status}
use Rattle.dms_guard.proofs.Refused.{damage_is}

not_disk : (f k : ℕ) → damaged_status f k ≡ DiskFault → ⊥
not_disk f k = damage_is (is_structure_file f) f k (λ x. x ≡ DiskFault → ⊥) (λ e. absurd cc) (λ e. absurd cc)

not_say : (f k : ℕ) → damaged_status f k ≡ SayFault → ⊥
not_say f k = damage_is (is_structure_file f) f k (λ x. x ≡ SayFault → ⊥) (λ e. absurd cc) (λ e. absurd cc)

rose_at : (s : Status) (a b : ℕ) → RoseOnce a b → CountedAt (s ≡ s) a b
rose_at s a b r = record { later = r.later; failed = λ p. r.rose; once = r.once; clean = λ none. absurd (none refl) }

same_disk : (a b : Faults) → b ≡ a → b.disk ≡ a.disk
same_disk a b same = ap (λ (x : Faults). x.disk) same

same_say : (a b : Faults) → b ≡ a → b.say ≡ a.say
same_say a b same = ap (λ (x : Faults). x.say) same

pub counts_disk : (fault : RunFault) (a b : Faults) → HasBlame fault a b → CountedAt (run_status fault ≡ DiskFault) a.disk b.disk
counts_disk (run.Block block.Disk) a b p = rose_at DiskFault a.disk b.disk p.0
counts_disk (run.Block block.Memory) a b p = not_counted _ a.disk b.disk (λ e. absurd cc) (same_disk a b p)
counts_disk (run.Block (block.Full f)) a b p = not_counted _ a.disk b.disk (λ e. absurd cc) (same_disk (record a { full = b.full }) b p.1)
counts_disk (run.Block (block.Damaged f k)) a b p = not_counted _ a.disk b.disk (not_disk f k) (same_disk (record a { damaged = b.damaged }) b p.1)
counts_disk (run.Block block.Say) a b p = not_counted _ a.disk b.disk (λ e. absurd cc) (same_disk (record a { say = b.say }) b p.1)
counts_disk run.Input a b p = not_counted _ a.disk b.disk (λ e. absurd cc) (same_disk a b p)
counts_disk run.Lines a b p = not_counted _ a.disk b.disk (λ e. absurd cc) (same_disk a b p)
counts_disk run.Bytes a b p = not_counted _ a.disk b.disk (λ e. absurd cc) (same_disk a b p)
counts_disk run.Held a b p = not_counted _ a.disk b.disk (λ e. absurd cc) (same_disk a b p)
counts_disk run.Memory a b p = not_counted _ a.disk b.disk (λ e. absurd cc) (same_disk a b p)

pub counts_say : (fault : RunFault) (a b : Faults) → HasBlame fault a b → CountedAt (run_status fault ≡ SayFault) a.say b.say
counts_say (run.Block block.Disk) a b p = not_counted _ a.say b.say (λ e. absurd cc) (same_say (record a { disk = b.disk }) b p.1)
counts_say (run.Block block.Memory) a b p = not_counted _ a.say b.say (λ e. absurd cc) (same_say a b p)
counts_say (run.Block (block.Full f)) a b p = not_counted _ a.say b.say (λ e. absurd cc) (same_say (record a { full = b.full }) b p.1)
counts_say (run.Block (block.Damaged f k)) a b p = not_counted _ a.say b.say (not_say f k) (same_say (record a { damaged = b.damaged }) b p.1)
counts_say (run.Block block.Say) a b p = rose_at SayFault a.say b.say p.0
counts_say run.Input a b p = not_counted _ a.say b.say (λ e. absurd cc) (same_say a b p)
counts_say run.Lines a b p = not_counted _ a.say b.say (λ e. absurd cc) (same_say a b p)
counts_say run.Bytes a b p = not_counted _ a.say b.say (λ e. absurd cc) (same_say a b p)
counts_say run.Held a b p = not_counted _ a.say b.say (λ e. absurd cc) (same_say a b p)
counts_say run.Memory a b p = not_counted _ a.say b.say (λ e. absurd cc) (same_say a b p)

-- ---- of the audit's limit

raised_same : (f : ℕ) (a b : Faults) → HasBlame (run.Block (block.Full f)) a b → (b.disk ≡ a.disk) × (b.say ≡ a.say)
raised_same f a b p = (same_disk (record a { full = b.full }) b p.1, same_say (record a { full = b.full }) b p.1)

pub within_disk : (last : ℕ) (fault then : RunFault) (a b : Faults) → IsWithin last fault then → HasBlame fault a b → CountedAt (run_status then ≡ DiskFault) a.disk b.disk
within_disk last fault then a b (inl within) p = subst (λ (x : RunFault). CountedAt (run_status x ≡ DiskFault) a.disk b.disk) (sym within.0) (counts_disk fault a b p)
within_disk last fault then a b (inr memory) p =
    let raised = raised_same memory.1.0 a b (subst (λ (x : RunFault). HasBlame x a b) memory.1.1 p) in
    subst (λ (x : RunFault). CountedAt (run_status x ≡ DiskFault) a.disk b.disk) (sym memory.0) (not_counted _ a.disk b.disk (λ e. absurd cc) raised.0)

pub within_say : (last : ℕ) (fault then : RunFault) (a b : Faults) → IsWithin last fault then → HasBlame fault a b → CountedAt (run_status then ≡ SayFault) a.say b.say
within_say last fault then a b (inl within) p = subst (λ (x : RunFault). CountedAt (run_status x ≡ SayFault) a.say b.say) (sym within.0) (counts_say fault a b p)
within_say last fault then a b (inr memory) p =
    let raised = raised_same memory.1.0 a b (subst (λ (x : RunFault). HasBlame x a b) memory.1.1 p) in
    subst (λ (x : RunFault). CountedAt (run_status x ≡ SayFault) a.say b.say) (sym memory.0) (not_counted _ a.say b.say (λ e. absurd cc) raised.1)

pub within_input : (last : ℕ) (fault then : RunFault) → IsWithin last fault then → then ≡ run.Input → fault ≡ run.Input
within_input last fault then (inl within) is = sym within.0 ∙ is
within_input last fault then (inr memory) is = absurd (memory_not_input (sym memory.0 ∙ is))
  where
    memory_not_input : run.Memory ≡ run.Input → ⊥
    memory_not_input e = absurd cc

pub input_within : (last : ℕ) (fault then : RunFault) → IsWithin last fault then → fault ≡ run.Input → then ≡ run.Input
input_within last fault then (inl within) is = within.0 ∙ is
input_within last fault then (inr memory) is = absurd (full_not_input memory.1.0 (sym memory.1.1 ∙ is))
  where
    full_not_input : (f : ℕ) → run.Block (block.Full f) ≡ run.Input → ⊥
    full_not_input f e = absurd cc

-- ---- from what is held

rest_nothing : (bytes rest : List ℕ) → bytes ++ rest ≡ [] → rest ≡ []
rest_nothing [] rest e = e
rest_nothing (b ∷ bs) rest e = absurd (cc)

pub left_nothing : (held : List ℕ) (left : Option (List ℕ)) → prepend_known held left ≡ Some [] → left ≡ Some []
left_nothing held None e = absurd (cc)
left_nothing held (Some rest) e =
    let same : held ++ rest ≡ [] = cc in
    ap (λ (l : List ℕ). Some l) (rest_nothing held rest same)

pub held_nothing : (held : List ℕ) (left : Option (List ℕ)) (all : List ℕ) → held ≡ [] → left ≡ Some all → prepend_known held left ≡ Some all
held_nothing held left all none is = ap (λ (h : List ℕ). prepend_known h left) none ∙ ap (prepend_known []) is

pub on_from : (P : Type 0) (a b c : ℕ) → b ≡ a → CountedAt P b c → CountedAt P a c
on_from P a b c same counted = subst (λ (x : ℕ). CountedAt P x c) same counted

pub on_upto : (P : Type 0) (a b c : ℕ) → c ≡ b → CountedAt P a b → CountedAt P a c
on_upto P a b c same counted = subst (λ (x : ℕ). CountedAt P a x) (sym same) counted

pub on_status : (x y t : Status) (a b : ℕ) → x ≡ y → CountedAt (y ≡ t) a b → CountedAt (x ≡ t) a b
on_status x y t a b same counted = subst (λ (s : Status). CountedAt (s ≡ t) a b) (sym same) counted

-- ---- a result that is an error

pub no_error : (x : Unit {0}) (e : RunFault) → ◌≡◌ {A = Result (Unit {0}) RunFault} (Ok x) (Err e) → ⊥
no_error x e is = absurd cc

pub an_error : (f e : RunFault) → f ≡ e → ◌≡◌ {A = Result (Unit {0}) RunFault} (Err f) (Err e)
an_error f e same = λ i. Err (same i)

pub error_is : (f e : RunFault) → ◌≡◌ {A = Result (Unit {0}) RunFault} (Err f) (Err e) → f ≡ e
error_is f e is = cc
