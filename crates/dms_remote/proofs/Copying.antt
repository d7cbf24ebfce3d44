-- A block is sealed in a copy.
use Rattle.std.proofs.Common.{ℕ, zero, suc, ◌+◌, ◌*◌, ◌<◌, ◌≤◌, ◌≡◌, ◌⊎◌, inl, inr, ◌∙◌, Bool, false, cond, sym, ap, subst, refl, List, [], ◌∷◌, ◌++◌, length, take, nat_lt, arith}
use Rattle.std.proofs.lemmas.Bool.Decides.{nat_tests}
use Rattle.std.proofs.lemmas.Bool.{cases_lt}
use Rattle.std.proofs.lemmas.List.{append-nil, take_all}
use Rattle.dms_moments.specs.Moments.{Clock, Now, Steps}
use Rattle.dms_site.specs.Files.{Files, Left, stored_of, range, Only}
use Rattle.dms_audfile.specs.Gates.{blocks_from}
use Rattle.dms_audfile.specs.Sealing.{Grows, GrowsLeft, IsWrittenUpTo}
use Rattle.dms_audfile.specs.Trail.{trail_from}
use Rattle.dms_audfile.specs.TrailEntries.{entries_in}
use Rattle.dms_audfile.specs.Copies.{IsTrailOf}
use Rattle.dms_audfile.specs.declared.audit_end.AuditEnd.{AuditEnd}
use Rattle.dms_audfile.proofs.Copies.{trail_goes_on}
use Rattle.dms_follow.specs.Following.{Follows}
use Rattle.dms_remote.specs.Copy.{IsCopyOf, MaySeal, CopiesOn, EndsCopy}

-- the outcomes of a call, told otherwise
pub steps_as : {X : Type 0} (step other : X → X → Type 0) (old new : Clock X) → ((x y : X) → Now old x → step x y → other x y) → Steps step old new → Steps other old new
steps_as step other old new f s = record {
  follows = λ x now. let a = s.follows x now in (a.0, a.1, f a.0 x a.1 a.2);
  runs = record {
    later = s.runs.later;
    only = λ t x le left. elim (s.runs.only t x le left) [
      | inl was ↦ inl was
      | inr a ↦ inr (a.0, a.1, f a.0 x a.1 a.2)
    ];
    keeps = s.runs.keeps;
  };
}

-- the one block of these bytes
pub one_block : (block : List ℕ) → length block ≡ 4096 → blocks_from 1 0 block ≡ block ∷ []
unfolding range
one_block block size =
    let all : take 4096 block ≡ block = take_all 4096 block (omega (arith, size)) in
    ap (λ (b : List ℕ). b ∷ []) all

-- structure files stay
stored_stays : (old new : Files) → ((g : ℕ) → 30000 < g → new g ≡ old g) → (f b : ℕ) → stored_of new f b ≡ stored_of old f b
unfolding stored_of
stored_stays old new same f b = elim (cases_lt 30000 f) [
  | inl above ↦ ap (λ (file : List ℕ). cond (nat_lt 30000 f) (range (1024 * b) 1024 file) []) (same f above)
  | inr below ↦ (let off : nat_lt 30000 f ≡ false = grind (arith, nat_tests) in
      ap (λ (t : Bool). cond t (range (1024 * b) 1024 (new f)) []) off ∙ sym (ap (λ (t : Bool). cond t (range (1024 * b) 1024 (old f)) []) off))
]

pub follows_there : (blocks : List (List ℕ)) (old new : Files) → ((g : ℕ) → 30000 < g → new g ≡ old g) → Follows (entries_in blocks) (stored_of old) → Follows (entries_in blocks) (stored_of new)
follows_there blocks old new same is = subst (λ (s : ℕ → ℕ → List ℕ). Follows (entries_in blocks) s) (λ i f b. sym (stored_stays old new same f b) i) is

-- each outcome of sealing
pub copies_on : (end : AuditEnd) (head : List ℕ) (blocks : List (List ℕ)) (block : List ℕ) (old new : Files) → end.file < 20000 → MaySeal end head blocks block old
    → (g : Grows end.total end.tag 10001 end.file (block ∷ []) old new) → IsCopyOf end.total end.tag head blocks new ⊎ IsCopyOf end.total end.tag head (blocks ++ block ∷ []) new
copies_on end head blocks block old new allowed may g = by g.some g.within refl
  where
    low : 10001 ≤ end.file
    low = omega (arith, may.trail.low, may.trail.writes.order)

    same : (f : ℕ) → 30000 < f → new f ≡ old f
    same f above = g.others f (λ is. absurd (omega (arith, is, above, allowed))) (λ is. absurd (omega (arith, is, above, allowed)))

    head_is : new 1 ≡ head
    head_is = g.others 1 (λ is. absurd (omega (arith, is, low))) (λ is. absurd (omega (arith, is, low))) ∙ may.head_is

    goes : IsTrailOf end.total end.tag 10001 g.file g.count (blocks ++ take g.some (block ∷ [])) new
    goes = trail_goes_on end.total end.tag 10001 end.file end.count blocks (block ∷ []) old new may.trail allowed g

    by : (some : ℕ) → some ≤ 1 → g.some ≡ some → IsCopyOf end.total end.tag head blocks new ⊎ IsCopyOf end.total end.tag head (blocks ++ block ∷ []) new
    by zero few is = inl (record {
      trail = record { file = g.file; count = g.count; is = subst (λ (bs : List (List ℕ)). IsTrailOf end.total end.tag 10001 g.file g.count bs new) (ap (λ (n : ℕ). blocks ++ take n (block ∷ [])) is ∙ append-nil blocks) goes };
      head_is = head_is;
      follows = follows_there blocks old new same may.follows;
    })
    by (suc zero) few is = inr (record {
      trail = record { file = g.file; count = g.count; is = subst (λ (n : ℕ). IsTrailOf end.total end.tag 10001 g.file g.count (blocks ++ take n (block ∷ [])) new) is goes };
      head_is = head_is;
      follows = follows_there (blocks ++ block ∷ []) old new same may.follows_next;
    })
    by (suc (suc n)) few is = absurd (omega (arith, few))

-- the writer behind it
pub ends_copy : (end then : AuditEnd) (head : List ℕ) (blocks : List (List ℕ)) (block : List ℕ) (old new : Files) → end.file < 20000 → MaySeal end head blocks block old
    → then.total ≡ end.total → (end.file ≤ then.file) × (then.file ≤ end.file + 1) → IsWrittenUpTo then.total then.tag 10001 then.file then.count new
    → trail_from 10000 end.total 10001 new ≡ trail_from 10000 end.total 10001 old ++ block ∷ []
    → ((g : ℕ) → g < end.file → new g ≡ old g) → ((g : ℕ) → end.file + 1 < g → new g ≡ old g) → EndsCopy then head blocks block new
ends_copy end then head blocks block old new allowed may total place writes gains before behind = record {
  trail = record {
    low = may.trail.low;
    high = omega (arith, place.1, allowed);
    writes = writes;
    trail = ap (λ (n : ℕ). trail_from 10000 n 10001 new) total ∙ gains ∙ ap (λ (bs : List (List ℕ)). bs ++ block ∷ []) may.trail.trail;
    before = λ g low is. absurd (omega (arith, low, is));
    behind = λ g above upto. behind g (omega (arith, above, place.0)) ∙ may.trail.behind g (omega (arith, above, place.0)) upto;
  };
  head_is = before 1 (omega (arith, may.trail.low, may.trail.writes.order)) ∙ may.head_is;
  follows = follows_there (blocks ++ block ∷ []) old new (λ g above. behind g (omega (arith, above, allowed))) may.follows_next;
}

-- what a stop leaves while the block is sealed
pub leaves_copies : (end : AuditEnd) (head : List ℕ) (blocks : List (List ℕ)) (block : List ℕ) (old : Files) (began clock : Clock Left) → end.file < 20000 → length block ≡ 4096 → MaySeal end head blocks block old
    → Only old began → Steps (GrowsLeft end.total end.tag 10001 end.file (blocks_from 1 0 block)) began clock → Steps (CopiesOn end.total end.tag head blocks block) began clock
leaves_copies end head blocks block old began clock allowed size may only steps =
    steps_as (GrowsLeft end.total end.tag 10001 end.file (blocks_from 1 0 block)) (CopiesOn end.total end.tag head blocks block) began clock
    (λ x y now grows. copies_on end head blocks block old y.files allowed may
    (subst (λ (bs : List (List ℕ)). Grows end.total end.tag 10001 end.file bs old y.files) (one_block block size)
    (subst (λ (fs : Files). Grows end.total end.tag 10001 end.file (blocks_from 1 0 block) fs y.files) (only x now) grows.files)))
    steps
