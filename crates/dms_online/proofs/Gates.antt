-- The gate of a dump that is copied.
use Rattle.std.proofs.Common.{ℕ, ◌+◌, ◌-◌, ◌≤◌, ◌≡◌, inl, inr, List, [], ◌∷◌, ◌++◌, length, suc, take, drop, replicate, refl, sym, ◌∙◌, ap, subst, arith, append-nil}
use Rattle.std.proofs.lemmas.List.{drop_all, drop_at}
use Rattle.dms_moments.specs.Moments.{Clock, Now, Steps}
use Rattle.dms_moments.specs.MomentLaws.{steps_on, steps_weaken}
use Rattle.dms_site.specs.Files.{Files, Left, OnDisk, Same, Torn, overlay_bytes, pad_zeros, with_file}
use Rattle.dms_site.specs.Laws.{with_file_here}
use Rattle.dms_dump.specs.Stops.{BecomesDump, IsShut, KeepsGate}
use Rattle.dms_dump.proofs.Copied.{torn_keeps}
use Rattle.dms_online.specs.Calls.{AsWasOrShut, HasShutGate, LeavesGate}
use Rattle.dms_online.specs.OnlineLaws.{gate_same}

-- a file with a shut gate
pub has_gate : (rest : List ℕ) → HasShutGate (0 ∷ rest)
has_gate rest = record { some = omega arith; shut = refl }

pub gate_stays : (old new : List ℕ) → KeepsGate old new → HasShutGate old → HasShutGate new
gate_stays old new keeps gate = record { some = omega (arith, gate.some, keeps.no_shorter); shut = keeps.gate gate.some ∙ gate.shut }

pub gate_shut : (file : List ℕ) → HasShutGate file → IsShut file
gate_shut file gate = inr (λ one. absurd (omega (arith, gate.shut, one)))

-- it is shut for each stop
pub shut_now : (f : ℕ) (files : Files) (rest : List ℕ) (x : Left) → files f ≡ 0 ∷ rest → x.files ≡ files → HasShutGate (x.files f)
shut_now f files rest x is only = subst (λ (l : List ℕ). HasShutGate l) (sym (ap (λ (k : Files). k f) only ∙ is)) (has_gate rest)

-- and stays so
pub shut_then : (f h : ℕ) (a b : Clock Left) → h ≡ f → Steps (LeavesGate f) a b → ((x : Left) → Now a x → HasShutGate (x.files f)) → (x : Left) → Now b x → HasShutGate (x.files h)
shut_then f h a b same steps shut x now =
    let y = steps.follows x now in
    subst (λ (k : ℕ). HasShutGate (x.files k)) (sym same) (gate_stays (y.0.files f) (x.files f) y.2 (shut y.0 y.1))

-- a dump that is cut and shut
pub shut_moments : (f : ℕ) {a b : Clock Left} → Steps (OnDisk f (BecomesDump [])) a b → Steps (AsWasOrShut f) a b
shut_moments f steps = steps_weaken steps (λ x y now one. elim one.files.here [
  | inl same ↦ inl same
  | inr rest ↦ elim rest [ inl shut ↦ inr shut | inr none ↦ inr (inl (omega (arith, ap length none))) ]
])

-- and then written behind its gate
pub shut_on : (f : ℕ) {a b c : Clock Left} → Steps (AsWasOrShut f) a b → ((x : Left) → Now b x → HasShutGate (x.files f)) → Steps (LeavesGate f) b c → Steps (AsWasOrShut f) a c
shut_on f one shut two = steps_on one two
    (λ x y z nx ny p q. inr (gate_shut (z.files f) (gate_stays (y.files f) (z.files f) q (shut y ny))))
    (λ x y nx p. p)

-- a write behind the gate
pub gate_torn : (f at n : ℕ) {a b : Clock Left} → 1 ≤ at → Steps (OnDisk f (Torn at n)) a b → Steps (LeavesGate f) a b
gate_torn f at n behind steps = steps_weaken steps (λ x y now one. torn_keeps at n (x.files f) (y.files f) behind one.files.here)

pub gate_looked : (f : ℕ) {a b : Clock Left} → Steps Same a b → Steps (LeavesGate f) a b
gate_looked f steps = gate_same f (steps_weaken steps (λ x y now same. ap (λ (l : Left). l.files f) same))

-- bytes as many as those that stand behind the gate, over them
pub overlay_front : (bytes old rest file : List ℕ) → file ≡ 0 ∷ (old ++ rest) → length bytes ≡ length old → overlay_bytes 1 bytes file ≡ 0 ∷ (bytes ++ rest)
unfolding overlay_bytes pad_zeros
overlay_front bytes old rest file is size =
    let front : take 1 (file ++ replicate (1 - length file) 0) ≡ 0 ∷ [] = ap (λ (l : List ℕ). take 1 (l ++ replicate (1 - length l) 0)) is in
    let place : 1 + length bytes ≡ suc (length old) = omega (arith, size) in
    let behind : drop (1 + length bytes) file ≡ rest = (λ i. drop (place i) (is i)) ∙ drop_at old rest (length old) refl in
    (λ i. front i ++ bytes ++ behind i)

-- and behind the gate alone
pub overlay_first : (bytes file : List ℕ) → file ≡ 0 ∷ [] → overlay_bytes 1 bytes file ≡ 0 ∷ bytes
unfolding overlay_bytes pad_zeros
overlay_first bytes file is =
    let front : take 1 (file ++ replicate (1 - length file) 0) ≡ 0 ∷ [] = ap (λ (l : List ℕ). take 1 (l ++ replicate (1 - length l) 0)) is in
    let behind : drop (1 + length bytes) file ≡ [] = ap (λ (l : List ℕ). drop (1 + length bytes) l) is ∙ drop_all (1 + length bytes) (0 ∷ []) (omega arith) in
    (λ i. front i ++ bytes ++ behind i) ∙ append-nil (0 ∷ bytes)

pub with_here : (old new : Files) (f : ℕ) (bytes : List ℕ) → new ≡ with_file old f bytes → new f ≡ bytes
with_here old new f bytes is = ap (λ (k : Files). k f) is ∙ with_file_here old f bytes
