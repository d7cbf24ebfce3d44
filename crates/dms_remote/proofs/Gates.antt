-- The gate of a copy's database is opened.
use Rattle.std.proofs.Common.{ℕ, ◌≡◌, ◌≢◌, ◌∙◌, inl, inr, Bool, true, false, sym, ap, subst, refl, List, [], ◌∷◌, ◌++◌, arith}
use Rattle.std.specs.declared.result.Result.{Result}
use Rattle.std.specs.declared.result.Result.TheVariants.{Ok, Err}
use Rattle.dms_base.specs.Causes.{HasCause}
use Rattle.dms_moments.specs.Moments.{Clock, Steps}
use Rattle.dms_moments.specs.MomentLaws.{runs_none, steps_on, steps_weaken}
use Rattle.dms_site.specs.Files.{Files, Left, InFile, OnDisk, Only, Torn, with_file, overlay_bytes}
use Rattle.dms_site.specs.Laws.{with_file_here, with_file_other}
use Rattle.dms_audfile.specs.Counting.{CountedAt}
use Rattle.dms_audfile.specs.declared.fault.AudFault.TheVariants.{Disk}
use Rattle.dms_audfile.specs.declared.audit_end.AuditEnd.{AuditEnd}
use Rattle.dms_audfile.proofs.Copies.{trail_is_same}
use Rattle.dms_remote.specs.Copy.{IsCopyOf, CopiesOn, EndsCopy}
use Rattle.dms_remote.specs.Gate.{IsGatedCopy, GatesCopy, TurnsCopy}
use Rattle.dms_remote.specs.Next.{IsCopyAt}
use Rattle.dms_remote.specs.Settling.{StaysCopy}
use Rattle.dms_remote.proofs.Copying.{steps_as, follows_there}

-- a copy is one still where only its description file is another
copy_beside : (end : AuditEnd) (head : List ℕ) (blocks : List (List ℕ)) (old new : Files) → ((g : ℕ) → g ≢ 1 → new g ≡ old g) → IsCopyAt end head blocks old → IsCopyAt end (new 1) blocks new
copy_beside end head blocks old new others at = record {
  trail = trail_is_same end.total end.tag 10001 end.file end.count blocks old new at.trail (λ g low high. others g (λ is. absurd (omega (arith, is, low))));
  head_is = refl;
  follows = follows_there blocks old new (λ g above. others g (λ is. absurd (omega (arith, is, above)))) at.follows;
}

pub copy_at : (end : AuditEnd) (head : List ℕ) (blocks : List (List ℕ)) (files : Files) → IsCopyAt end head blocks files → IsCopyOf end.total end.tag head blocks files
copy_at end head blocks files at = record { trail = record { file = end.file; count = end.count; is = at.trail }; head_is = at.head_is; follows = at.follows }

-- it was opened
pub gate_opened : (end : AuditEnd) (head : List ℕ) (blocks : List (List ℕ)) (old new : Files) → new ≡ with_file old 1 (overlay_bytes 1 (1 ∷ []) (old 1)) → IsCopyAt end head blocks old
    → IsCopyAt end (overlay_bytes 1 (1 ∷ []) head) blocks new
gate_opened end head blocks old new is at =
    let bytes = overlay_bytes 1 (1 ∷ []) (old 1) in
    subst (λ (h : List ℕ). IsCopyAt end h blocks new) (ap (λ (fs : Files). fs 1) is ∙ with_file_here old 1 bytes ∙ ap (λ (h : List ℕ). overlay_bytes 1 (1 ∷ []) h) at.head_is)
    (copy_beside end head blocks old new (λ g other. ap (λ (fs : Files). fs g) is ∙ with_file_other old 1 bytes g other) at)

-- each moment of it
pub gate_moments : (end : AuditEnd) (head : List ℕ) (blocks : List (List ℕ)) (old : Files) (a b : Clock Left) → IsCopyAt end head blocks old → Only old a → Steps (OnDisk 1 (Torn 1 1)) a b
    → Steps (GatesCopy end.total end.tag true head blocks) a b
gate_moments end head blocks old a b at only steps =
    steps_as (OnDisk 1 (Torn 1 1)) (GatesCopy end.total end.tag true head blocks) a b
    (λ x y now step.
    let here = subst (λ (fs : Files). InFile 1 (Torn 1 1) fs y.files) (only x now) step.files in
    record {
      gate = inr (refl, subst (λ (h : List ℕ). Torn 1 1 h (y.files 1)) at.head_is here.here);
      is = copy_at end (y.files 1) blocks y.files (copy_beside end head blocks old y.files here.others at);
    })
    steps

-- nothing was opened
pub gate_none : (end : AuditEnd) (head : List ℕ) (blocks : List (List ℕ)) (old : Files) (a : Clock Left) → IsCopyAt end head blocks old → Only old a → Steps (GatesCopy end.total end.tag false head blocks) a a
gate_none end head blocks old a at only = record {
  follows = λ x now. (
    x,
    now,
    subst (λ (fs : Files). IsGatedCopy end.total end.tag false head blocks fs) (sym (only x now)) (record {
      gate = inl at.head_is;
      is = subst (λ (h : List ℕ). IsCopyOf end.total end.tag h blocks old) (sym at.head_is) (copy_at end head blocks old at);
    }),
  );
  runs = runs_none a _;
}

-- ---- a block is sealed, and then it may be

pub ends_at : (end : AuditEnd) (head : List ℕ) (blocks : List (List ℕ)) (block : List ℕ) (files : Files) → EndsCopy end head blocks block files → IsCopyAt end head (blocks ++ block ∷ []) files
ends_at end head blocks block files ends = record { trail = ends.trail; head_is = ends.head_is; follows = ends.follows }

pub copy_ends : (end : AuditEnd) (head : List ℕ) (blocks : List (List ℕ)) (block : List ℕ) (files : Files) → IsCopyAt end head (blocks ++ block ∷ []) files → EndsCopy end head blocks block files
copy_ends end head blocks block files at = record { trail = at.trail; head_is = at.head_is; follows = at.follows }

module _ (total tag : ℕ) (opens : Bool) (head : List ℕ) (blocks : List (List ℕ)) (block : List ℕ) where
  sealed_turns : (old new : Left) → CopiesOn total tag head blocks block old new → TurnsCopy total tag opens head blocks block old new
  sealed_turns old new (inl without) = inl without
  sealed_turns old new (inr with_it) = inr (record {
    gate = inl with_it.head_is;
    is = subst (λ (h : List ℕ). IsCopyOf total tag h (blocks ++ block ∷ []) new.files) (sym with_it.head_is) with_it;
  })

  pub turns_sealed : {a b : Clock Left} → Steps (CopiesOn total tag head blocks block) a b → Steps (TurnsCopy total tag opens head blocks block) a b
  turns_sealed steps = steps_weaken steps (λ x y now p. sealed_turns x y p)

  pub turns_gated : {a b c : Clock Left} → Steps (CopiesOn total tag head blocks block) a b → Steps (GatesCopy total tag opens head (blocks ++ block ∷ [])) b c → Steps (TurnsCopy total tag opens head blocks block) a c
  turns_gated first then = steps_on first then (λ x y z here there p q. inr q) (λ x y here p. sealed_turns x y p)

  pub turns_settled : {a b : Clock Left} → Steps (StaysCopy total tag head blocks) a b → Steps (TurnsCopy total tag opens head blocks block) a b
  turns_settled steps = steps_weaken steps (λ x y now p. inl p)

  pub turns_on : {a b c : Clock Left} → Steps (StaysCopy total tag head blocks) a b → Steps (TurnsCopy total tag opens head blocks block) b c → Steps (TurnsCopy total tag opens head blocks block) a c
  turns_on first then = steps_on first then (λ x y z here there p q. q) (λ x y here p. inl p)

pub turns_gated_at : {a b c : Clock Left} (then : AuditEnd) (total tag : ℕ) (opens : Bool) (head : List ℕ) (blocks : List (List ℕ)) (block : List ℕ) → then.total ≡ total → then.tag ≡ tag
    → Steps (CopiesOn total tag head blocks block) a b → Steps (GatesCopy then.total then.tag opens head (blocks ++ block ∷ [])) b c → Steps (TurnsCopy total tag opens head blocks block) a c
turns_gated_at {a} {b} {c} then total tag opens head blocks block same_total same_tag first next =
    turns_gated total tag opens head blocks block first
    (subst (λ (n : ℕ). Steps (GatesCopy n tag opens head (blocks ++ block ∷ [])) b c) same_total (subst (λ (n : ℕ). Steps (GatesCopy then.total n opens head (blocks ++ block ∷ [])) b c) same_tag next))

-- a turn by the end and the gate as they are known
pub turn_by : {a b : Clock Left} (end then : AuditEnd) (opens is : Bool) (head : List ℕ) (blocks : List (List ℕ)) (block : List ℕ) → then ≡ end → is ≡ opens
    → Steps (TurnsCopy then.total then.tag is head blocks block) a b → Steps (TurnsCopy end.total end.tag opens head blocks block) a b
turn_by {a} {b} end then opens is head blocks block same known steps =
    subst (λ (e : AuditEnd). Steps (TurnsCopy e.total e.tag opens head blocks block) a b) same (subst (λ (t : Bool). Steps (TurnsCopy then.total then.tag t head blocks block) a b) known steps)

-- ---- failures

-- a call of the site failed
pub counted_cause : {T E : Type 0} (r : Result T E) (e : E) (before now : ℕ) → r ≡ Err e → HasCause before now r → CountedAt (Disk ≡ Disk) before now
counted_cause {T} {E} r e before now is cause =
    let known = subst (λ (o : Result T E). HasCause before now o) is cause in
    record { later = known.later; failed = λ disk. known.failed; once = known.once; clean = λ none. absurd (none refl) }

-- none failed
pub cause_none : {T E : Type 0} (r : Result T E) (x : T) (before now : ℕ) → r ≡ Ok x → HasCause before now r → now ≡ before
cause_none {T} {E} r x before now is cause = (subst (λ (o : Result T E). HasCause before now o) is cause).clean

pub counted_on : (P : Type 0) (start before now : ℕ) → before ≡ start → CountedAt P before now → CountedAt P start now
counted_on P start before now is counted = subst (λ (n : ℕ). CountedAt P n now) is counted
