-- What is read of a dump, and what it is found to be.
use Rattle.std.specs.Prelude.{◌&&◌, nat_lt, nat_le, IfOk, IfErr}
use Rattle.std.proofs.Common.{ℕ, ◌+◌, ◌<◌, ◌≤◌, ◌≡◌, ◌==◌, ◌⊎◌, inl, inr, Bool, true, false, cond, IsTrue, length, Option, Some, None, refl, sym, ◌∙◌, ap, subst, arith}
use Rattle.std.proofs.lemmas.Bool.Decides.{nat_tests}
use Rattle.std.specs.declared.result.Result.{Result}
use Rattle.std.specs.declared.result.Result.TheVariants.{Ok, Err}
use Rattle.dms_site.specs.Files.{Files}
use Rattle.dms_history.specs.Events.{How, halt_load, back_out, roll_back, rebuild, reconstruct}
use Rattle.dms_history.specs.History.{Pending}
use Rattle.dms_audfile.specs.Counting.{CountedAt}
use Rattle.dms_audfile.specs.declared.fault.AudFault.{AudFault}
use Rattle.dms_dump.specs.Copying.{CountsAt}
use Rattle.dms_dump.specs.Head.{Head, end_of}
use Rattle.dms_dump.specs.HeadSeen.{head_seen}
use Rattle.dms_dump.specs.Judged.{DumpRead, missing, unsealed, damaged, sealed, dump_read, RefusesDump}
use Rattle.dms_dump.specs.declared.fault.DumpFault.{DumpFault}
use Rattle.dms_dump.specs.declared.reading.DumpHead.{DumpHead}
use Rattle.dms_dump.proofs.HeadRead.{both, le_of}
use Rattle.dms_running.specs.FromDumps.{dump_by, dump_in}
use Rattle.dms_audrec.specs.Spelling.{counts_rise}
use Rattle.dms_restore.specs.Planned.{HasHead, IsFitHead, IsHeadFor}
use Rattle.dms_opening.specs.Asked.{judge_file}
use Rattle.dms_opening.specs.declared.asked.DumpLook.{DumpLook}
use Rattle.dms_opening.specs.declared.asked.DumpLook.TheVariants as looks
use Rattle.dms_opening.specs.declared.dump_looks.DumpFound.{DumpFound}
use Rattle.dms_opening.specs.declared.dump_looks.DumpFound.TheVariants.{Missing, Unsealed, Damaged, Foreign, Sealed}
use Rattle.dms_opening.specs.DumpLooks.{look_of, look_seen, head_found, SaysFound, IsFoundAs, IsFitFound, IsFoundFor, dump_at, dump_numbered, dump_begun}

pub counted_dump : (P Q : Type 0) (before now : ℕ) → (Q → P) → (P → Q) → CountsAt P before now → CountedAt Q before now
counted_dump P Q before now to back c = record { later = c.later; failed = λ q. c.failed (to q); once = c.once; clean = λ off. c.clean (λ p. off (back p)) }

-- what was read says so of the file
read_says : (tag d : ℕ) (file : DumpRead) (read : Result DumpHead DumpFault) (found : DumpFound) → IfOk read (λ h. file ≡ sealed (head_seen h)) → IfErr read (λ e. RefusesDump d file e) → SaysFound tag d file read found → IsFoundAs tag file found
read_says tag d file (Ok head) found seen refused says = says seen
read_says tag d file (Err fault) found seen refused says = says refused

pub found_says : (tells : Type 0) (tag d : ℕ) (file : DumpRead) (read : Result DumpHead DumpFault) (r : Result DumpFound AudFault) → IfOk read (λ h. tells → file ≡ sealed (head_seen h)) → IfErr read (λ e. tells → RefusesDump d file e)
    → IfOk r (λ f. (d : ℕ) (file : DumpRead) → SaysFound tag d file read f) → IfOk r (λ f. tells → IsFoundAs tag file f)
found_says tells tag d file (Ok head) (Ok found) seen refused says = λ t. read_says tag d file (Ok head) found (seen t) tt (says d file)
found_says tells tag d file (Err fault) (Ok found) seen refused says = λ t. read_says tag d file (Err fault) found tt (refused t) (says d file)
found_says tells tag d file read (Err e) seen refused says = tt

-- ---- the tag of a dump

same_tag : (a b : ℕ) → a ≡ b → a == b ≡ true
same_tag a b is = grind (arith, nat_tests)

tag_of_test : (a b : ℕ) → a == b ≡ true → a ≡ b
tag_of_test a b on = grind (arith, nat_tests)

-- one that has the tag of the trail is looked at
pub own_look : (tag : ℕ) (h : Head) → h.tag ≡ tag → look_of tag (sealed h) ≡ looks.Sealed h.point (end_of h) h.audit
own_look tag h is = ap (λ b. cond b (looks.Sealed h.point (end_of h) h.audit) looks.Foreign) (same_tag h.tag tag is)

pub foreign_look : (tag : ℕ) (h : Head) (file : DumpRead) → h.tag == tag ≡ false → file ≡ sealed h → look_of tag file ≡ looks.Foreign
foreign_look tag h file off is = ap (look_of tag) is ∙ ap (λ b. cond b (looks.Sealed h.point (end_of h) h.audit) looks.Foreign) off

-- so has one that isn't refused
pub own_tag : (first d tag : ℕ) (h : Head) → judge_file first d (look_of tag (sealed h)) ≡ None → h.tag ≡ tag
own_tag first d tag h none = by_test (h.tag == tag) refl
  where
    refused : judge_file first d looks.Foreign ≡ None → ⊥
    refused e = absurd cc

    by_test : (b : Bool) → h.tag == tag ≡ b → h.tag ≡ tag
    by_test true on = tag_of_test h.tag tag on
    by_test false off = absurd (refused (subst (λ (l : DumpLook). judge_file first d l ≡ None) (foreign_look tag h (sealed h) off refl) none))

-- what is looked at is that of the file
pub look_is : (tag : ℕ) (file : DumpRead) (found : DumpFound) → IsFoundAs tag file found → look_seen found ≡ look_of tag file
look_is tag file Missing is = ap (look_of tag) (sym is)
look_is tag file Unsealed is = ap (look_of tag) (sym is)
look_is tag file Damaged is = ap (look_of tag) (sym is)
look_is tag file Foreign is = sym is
look_is tag file (Sealed head) is = sym (own_look tag (head_seen head) is.1) ∙ ap (look_of tag) (sym is.0)

-- ---- a dump by its number

some_test : (d : ℕ) → 1 ≤ d → nat_lt 0 d ≡ true
some_test d some = grind (arith, nat_tests)

few_test : (d : ℕ) → d ≤ 9999 → nat_le d 9999 ≡ true
few_test d few = grind (arith, nat_tests)

some_of : (d : ℕ) → nat_lt 0 d ≡ true → 1 ≤ d
some_of d on = grind (arith, nat_tests)

range_of : (d : ℕ) → nat_lt 0 d && nat_le d 9999 ≡ true → (1 ≤ d) × (d ≤ 9999)
range_of d on = let parts = both (nat_lt 0 d) (nat_le d 9999) on in (some_of d parts.0, le_of d 9999 parts.1)

-- from 1 to 9,999 its file is read
pub at_read : (files : Files) (d : ℕ) → 1 ≤ d → d ≤ 9999 → dump_at files d ≡ dump_read (files (20000 + d))
at_read files d some few = λ i. cond (some_test d some i && few_test d few i) (dump_read (files (20000 + d))) missing

-- no other is found
pub none_at : (files : Files) (d : ℕ) → (d ≡ 0) ⊎ (9999 < d) → dump_at files d ≡ missing
none_at files d out = by_test (nat_lt 0 d && nat_le d 9999) refl
  where
    outside : nat_lt 0 d && nat_le d 9999 ≡ true → ⊥
    outside on = let r = range_of d on in elim out [ inl none ↦ omega (arith, r.0, none) | inr far ↦ omega (arith, r.1, far) ]

    by_test : (b : Bool) → nat_lt 0 d && nat_le d 9999 ≡ b → dump_at files d ≡ missing
    by_test true on = absurd (outside on)
    by_test false off = ap (λ b. cond b (dump_read (files (20000 + d))) missing) off

-- a dump that is found has a number in this range
pub record SealedAt (files : Files) (d : ℕ) (h : Head) : Type 0 where
  pub some : 1 ≤ d
  pub few : d ≤ 9999
  pub read : dump_read (files (20000 + d)) ≡ sealed h

not_found : (h : Head) → missing ≡ sealed h → ⊥
not_found h is = absurd cc

pub sealed_at : (files : Files) (d : ℕ) (h : Head) → dump_at files d ≡ sealed h → SealedAt files d h
sealed_at files d h is = by_test (nat_lt 0 d && nat_le d 9999) refl
  where
    by_test : (b : Bool) → nat_lt 0 d && nat_le d 9999 ≡ b → SealedAt files d h
    by_test true on = let r = range_of d on in record { some = r.0; few = r.1; read = sym (ap (λ b. cond b (dump_read (files (20000 + d))) missing) on) ∙ is }
    by_test false off = absurd (not_found h (sym (ap (λ b. cond b (dump_read (files (20000 + d))) missing) off) ∙ is))

-- ---- the dump of a restore that isn't refused

-- a dump whose file isn't refused is found with its head
head_there : (files : Files) (first d tag : ℕ) (file : DumpRead) (found : DumpFound) → file ≡ dump_at files d → judge_file first d (look_of tag file) ≡ None → IsFoundAs tag file found → HasHead files d (head_found found)
head_there files first d tag file Missing at none is = absurd (refused (subst (λ (f : DumpRead). judge_file first d (look_of tag f) ≡ None) is none))
  where
    refused : judge_file first d (look_of tag missing) ≡ None → ⊥
    refused e = absurd cc
head_there files first d tag file Unsealed at none is = absurd (refused (subst (λ (f : DumpRead). judge_file first d (look_of tag f) ≡ None) is none))
  where
    refused : judge_file first d (look_of tag unsealed) ≡ None → ⊥
    refused e = absurd cc
head_there files first d tag file Damaged at none is = absurd (refused (subst (λ (f : DumpRead). judge_file first d (look_of tag f) ≡ None) is none))
  where
    refused : judge_file first d (look_of tag damaged) ≡ None → ⊥
    refused e = absurd cc
head_there files first d tag file Foreign at none is = absurd (refused (subst (λ (l : DumpLook). judge_file first d l ≡ None) is none))
  where
    refused : judge_file first d looks.Foreign ≡ None → ⊥
    refused e = absurd cc
head_there files first d tag file (Sealed head) at none is = let s = sealed_at files d (head_seen head) (sym at ∙ is.0) in (s.some, s.few, s.read)

-- a restore by the audit needs none
pub head_for : (files : Files) (first tag : ℕ) (how : How) (file : DumpRead) (found : DumpFound) → ((d : ℕ) → dump_by how ≡ Some d → (file ≡ dump_at files d) × (judge_file first d (look_of tag file) ≡ None)) → IsFoundAs tag file found
    → IsFoundFor files how found
head_for files first tag halt_load file found by is = tt
head_for files first tag back_out file found by is = tt
head_for files first tag roll_back file found by is = tt
head_for files first tag (rebuild d) file found by is = let b = by d refl in head_there files first d tag file found b.0 b.1 is
head_for files first tag (reconstruct d named) file found by is = let b = by d refl in head_there files first d tag file found b.0 b.1 is

has_head : (x y : Files) (d : ℕ) (head : Option DumpHead) → ((g : ℕ) → 20000 < g → g ≤ 30000 → y g ≡ x g) → HasHead x d head → HasHead y d head
has_head x y d None same has = has
has_head x y d (Some h) same has = (has.0, has.1, ap dump_read (same (20000 + d) (omega (arith, has.0)) (omega (arith, has.1))) ∙ has.2)

-- while dumps are the same it is found so
pub found_stays : (x y : Files) (how : How) (found : DumpFound) → ((g : ℕ) → 20000 < g → g ≤ 30000 → y g ≡ x g) → IsFoundFor x how found → IsFoundFor y how found
found_stays x y halt_load found same is = tt
found_stays x y back_out found same is = tt
found_stays x y roll_back found same is = tt
found_stays x y (rebuild d) found same is = has_head x y d (head_found found) same is
found_stays x y (reconstruct d named) found same is = has_head x y d (head_found found) same is

-- ---- of the restore that is pending

pub none_begun : (files : Files) (q : Option Pending) (o : Option ℕ) → o ≡ None → o ≡ dump_in q → dump_begun files q ≡ missing
none_begun files q o none is = ap (dump_numbered files) (sym is ∙ none)

pub some_begun : (files : Files) (q : Option Pending) (o : Option ℕ) (d : ℕ) → o ≡ Some d → o ≡ dump_in q → dump_begun files q ≡ dump_at files d
some_begun files q o d some is = ap (dump_numbered files) (sym is ∙ some)

-- the one of two that is meant fits
pub fit_for : (b : Bool) (begun look found : DumpFound) → found ≡ cond b look begun → IsFitFound begun → IsFitFound look → IsFitFound found
fit_for true begun look found is one two = subst IsFitFound (sym is) two
fit_for false begun look found is one two = subst IsFitFound (sym is) one

-- what was read fits
pub fit_read : (read : Result DumpHead DumpFault) (r : Result DumpFound AudFault) → IfOk read (λ h. (counts_rise 30001 h.counts.items ≡ true) × (length h.counts.items ≤ 200)) → (IfOk read IsFitHead → IfOk r IsFitFound) → IfOk r IsFitFound
fit_read (Ok head) r fit law = law fit
fit_read (Err e) r fit law = law tt
