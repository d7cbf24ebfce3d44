-- A dump that was copied is ended: it is shut, and then whole.
use Rattle.std.proofs.Common.{ℕ, ◌<◌, ◌^◌, ◌≡◌, ◌⊎◌, inl, inr, IsTrue, List, [], ◌∷◌, ◌++◌, Option, Some, None, length, map, take, refl, sym, ◌∙◌, ap, subst, arith}
use Rattle.std.specs.Prelude.{IfSome}
use Rattle.std.proofs.lemmas.List.{take_all}
use Rattle.dms_moments.specs.Moments.{Clock, Now, Runs, Steps}
use Rattle.dms_moments.specs.MomentLaws.{runs_on, runs_weaken}
use Rattle.dms_site.specs.Files.{Files, Left}
use Rattle.dms_block.specs.Held.{BlockPoint, HasNextNumber, Held, IfTold, Prefix, TextIs}
use Rattle.dms_dump.specs.Copies.{BlocksAreRead}
use Rattle.dms_dump.specs.Head.{IsHead, head_bytes}
use Rattle.dms_dump.specs.Stops.{IsShut}
use Rattle.dms_dump.proofs.Copies.{copies_are_read}
use Rattle.dms_audfile.specs.declared.audit_end.AuditEnd.{AuditEnd}
use Rattle.dms_site.specs.declared.site.Site.{Ghosts}
use Rattle.dms_restore.specs.Views.{view_of}
use Rattle.dms_wal.proofs.Reaching.{EndsAlike, points_alike, reaching, telling_alike}
use Rattle.dms_wal.specs.declared.running.Running.{Running}
use Rattle.dms_restore.specs.Logging.{LogView, points, telling}
use Rattle.dms_running.specs.Points.{DescribedPoint, points_of}
use Rattle.dms_running.specs.Standing.{IsWhole}
use Rattle.dms_running.specs.Telling.{Telling}
use Rattle.dms_wal.specs.Lifting.{block_point, stop_of}
use Rattle.dms_online.specs.declared.plan.Copying.{Copying}
use Rattle.dms_online.specs.Calls.{HasShutGate, LeavesGate}
use Rattle.dms_online.specs.Copying.{IsAtPoint}
use Rattle.dms_online.specs.Ending.{HoldsAll, IsDumpOf, LeavesCopied, LeavesSealed, LeavesShutOr}
use Rattle.dms_online.specs.Going.{IsAllBut}
use Rattle.dms_online.specs.Plans.{IsPlan, head_of}
use Rattle.dms_online.proofs.Gates.{gate_shut, gate_stays}

-- ---- all points are there

abbrev described : BlockPoint → DescribedPoint
described p = record { number = p.number; blocks = p.blocks; schema = p.schema }

map_described : (ps : List DescribedPoint) → map described (map block_point ps) ≡ ps
map_described [] = refl
map_described (p ∷ ps) = ap (λ (l : List DescribedPoint). p ∷ l) (map_described ps)

pub points_back : (ps qs : List DescribedPoint) → map block_point ps ≡ map block_point qs → ps ≡ qs
points_back ps qs same = sym (map_described ps) ∙ ap (λ (l : List BlockPoint). map described l) same ∙ map_described qs

-- where all are durable
holds_all : (v w : LogView) (low next : ℕ) (x : Left) → telling w ≡ telling v → map block_point (points w) ≡ map block_point (points v) → low ≡ length (map block_point (points v))
    → Prefix (IsWhole (telling w)) low (map block_point (points w)) next (stop_of (telling w) x) → HoldsAll v x
holds_all v w low next x same ps durable p =
    let many : length (map block_point (points w)) ≡ length (map block_point (points v)) = ap (λ (l : List BlockPoint). length l) ps in
    let is : map block_point (points_of (telling w) x.files) ≡ map block_point (points v) = p.is ∙ take_all p.count (map block_point (points w)) (omega (arith, many, durable, p.enough)) ∙ ps in
    (subst (λ (t : Telling). IsWhole t x.files) same p.whole_files, ap (λ (t : Telling). points_of t x.files) (sym same) ∙ points_back (points_of (telling w) x.files) (points v) is)

pub holds_as : (v w : LogView) (x : Left) → telling w ≡ telling v → points w ≡ points v → HoldsAll w x → HoldsAll v x
holds_as v w x same ps h = (subst (λ (t : Telling). IsWhole t x.files) same h.0, ap (λ (t : Telling). points_of t x.files) (sym same) ∙ h.1 ∙ ps)

-- ---- it is sealed

-- while its gate stays it is shut
pub still_shut : (f : ℕ) {a b : Clock Left} → Steps (LeavesGate f) a b → ((x : Left) → Now a x → HasShutGate (x.files f)) → Runs a b (λ x. IsShut (x.files f))
still_shut f steps shut = runs_weaken steps.runs (λ x after. gate_shut (x.files f) (gate_stays (after.0.files f) (x.files f) after.2 (shut after.0 after.1)))

pub seals_shut : (v : LogView) (f : ℕ) (made : List ℕ) {a b : Clock Left} → Runs a b (λ x. IsShut (x.files f)) → Runs a b (LeavesSealed v f made)
seals_shut v f made run = runs_weaken run (λ x off. inl off)

-- and then its gate is opened
pub seals_open : (v w : LogView) (f k : ℕ) (made : List ℕ) (low next : ℕ) (said : Option (List ℕ)) {a b e : Clock Left} → k ≡ f → telling w ≡ telling v → map block_point (points w) ≡ map block_point (points v) → low ≡ length (map block_point (points v))
    → Runs a b (λ x. IsShut (x.files f)) → Runs b e (λ x. LeavesShutOr k made x × (Prefix (IsWhole (telling w)) low (map block_point (points w)) next (stop_of (telling w) x) × TextIs said (stop_of (telling w) x))) → Runs a e (LeavesSealed v f made)
seals_open v w f k made low next said file same ps durable one two =
    runs_on (seals_shut v f made one) two (λ x p. elim p.0 [
      | inl off ↦ inl (subst (λ (i : ℕ). IsShut (x.files i)) file off)
      | inr is ↦ inr (ap (λ (i : ℕ). x.files i) (sym file) ∙ is, holds_all v w low next x same ps durable p.1.0)
    ])

-- whatever file its audit may go on up to
pub seals_alike : {D : Type 0} (d : Ghosts D) (m : Running D) (e : AuditEnd) (alike : EndsAlike m.log.end e) (f : ℕ) (made : List ℕ) {a b : Clock Left}
    → Runs a b (LeavesSealed (view_of d (reaching d m e alike).log) f made) → Runs a b (LeavesSealed (view_of d m.log) f made)
seals_alike d m e alike f made run =
    let told : telling (view_of d (reaching d m e alike).log) ≡ telling (view_of d m.log) = telling_alike m.log.end e alike m.log.first (d.files m.log.site) (d.clock m.log.site) in
    let ps : points (view_of d (reaching d m e alike).log) ≡ points (view_of d m.log) = points_alike m.log.end e alike m.log.first (d.files m.log.site) (d.clock m.log.site) in
    runs_weaken run (λ x p. elim p [
      | inl off ↦ inl off
      | inr is ↦ inr (is.0, holds_as (view_of d m.log) (view_of d (reaching d m e alike).log) x told ps is.1)
    ])

-- ---- it is whole

plan_head : (c : Copying) (end : ℕ) → end < 2 ^ 64 → IsPlan c → IsHead (head_of c end)
plan_head c end low p = record { tag = p.head.tag; point = p.head.point; audit = p.head.audit; few = p.head.few; rising = p.head.rising; end = low }

pub copied_shut : (h : Held) (v : LogView) (c : Copying) (end f : ℕ) {a b : Clock Left} → Runs a b (λ x. IsShut (x.files f)) → Runs a b (LeavesCopied h v c end f)
copied_shut h v c end f run = runs_weaken run (λ x off. inl off)

-- all of it is there, and then its gate is opened
module _ (h : Held) (c : Copying) (end f k : ℕ) (low : end < 2 ^ 64) (plan : IsPlan c) (mid : Files) (same : k ≡ f) (all : IsAllBut (IsAtPoint h.points c.point) (head_of c end) (mid f)) where
  abbrev pub behind : List ℕ
  behind = head_bytes (head_of c end) ++ all.body

  pub made : IsDumpOf h c end (1 ∷ behind)
  made = copies_are_read (IsAtPoint h.points c.point) (head_of c end) all.body (plan_head c end low plan) all.has

  pub here : mid k ≡ 0 ∷ behind
  here = ap (λ (i : ℕ). mid i) same ∙ all.is

  pub dump_opened : (last : Files) → last k ≡ 1 ∷ behind → IsDumpOf h c end (last f)
  dump_opened last is = subst (λ (l : List ℕ). IsDumpOf h c end l) (sym (ap (λ (i : ℕ). last i) (sym same) ∙ is)) made

  pub dump_opens : (v w : LogView) {a b e : Clock Left} → telling w ≡ telling v → points w ≡ points v → Runs a b (λ x. IsShut (x.files f)) → Runs b e (LeavesSealed w k (1 ∷ behind)) → Runs a e (LeavesCopied h v c end f)
  dump_opens v w told ps one two =
      runs_on (copied_shut h v c end f one) two (λ x p. elim p [
        | inl off ↦ inl (subst (λ (i : ℕ). IsShut (x.files i)) same off)
        | inr is ↦ inr (dump_opened x.files is.0, holds_as v w x told ps is.1)
      ])

-- it was gone back from first
module _ (h k : Held) (c : Copying) (p q f j : ℕ) (points_same : k.points ≡ h.points) (point : q ≡ p) (file : j ≡ f) where
  dump_as : (l : List ℕ) → IsDumpOf k c q l → IsDumpOf h c p l
  dump_as l x =
      subst (λ (ps : List BlockPoint). BlocksAreRead (IsAtPoint ps c.point) (head_of c p) l) points_same
      (subst (λ (end : ℕ). BlocksAreRead (IsAtPoint k.points c.point) (head_of c end) l) point x)

  pub has_back : (files : Files) → IsDumpOf k c q (files j) → IsDumpOf h c p (files f)
  has_back files has = dump_as (files f) (subst (λ (i : ℕ). IsDumpOf k c q (files i)) file has)

  pub leaves_back : (v w : LogView) {a b e : Clock Left} → telling w ≡ telling v → points w ≡ points v → Runs a b (λ x. IsShut (x.files f)) → Runs b e (LeavesCopied k w c q j) → Runs a e (LeavesCopied h v c p f)
  leaves_back v w told ps one two =
      runs_on (copied_shut h v c p f one) two (λ x left. elim left [
        | inl off ↦ inl (subst (λ (i : ℕ). IsShut (x.files i)) file off)
        | inr is ↦ inr (has_back x.files is.0, holds_as v w x told ps is.1)
      ])

-- without a dump
pub no_dump : {A : Type 0} (P : A → Type 0) (o : Option A) → o ≡ None → IfSome o P
no_dump {A} P o is = subst (λ (x : Option A). IfSome x P) (sym is) tt
