-- Files that are cut to nothing, and steps that keep what is no audit file, dump or structure file.
use Rattle.std.proofs.Common.{ℕ, ◌≤◌, ◌≡◌, ◌≢◌, ◌<◌, ◌⊎◌, inl, inr, List, [], take, refl, ◌∙◌, ap, arith}
use Rattle.std.proofs.lemmas.Bool.{cases_eq}
use Rattle.dms_moments.specs.Moments.{Clock, Steps}
use Rattle.dms_moments.specs.MomentLaws.{runs_none, steps_on, steps_weaken}
use Rattle.dms_site.specs.Files.{Files, Left, IsLastPresent, OnDisk, Same, with_file}
use Rattle.dms_site.specs.Laws.{with_file_here, with_file_other}
use Rattle.dms_creation.specs.Clearing.{KeepsApart, KeepsOutside, IsApart}

pub cut_absent : (old mid new : Files) (low high n : ℕ) → IsLastPresent old low high n → mid ≡ old → new ≡ with_file mid n (take 0 (mid n)) → (g : ℕ) → low ≤ g → g ≤ high → n ≤ g → new g ≡ []
cut_absent old mid new low high n last same cut g from upto order = elim (cases_eq g n) [
  | inl is ↦ ap new is ∙ ap (λ (l : Files). l n) cut ∙ with_file_here mid n (take 0 (mid n))
  | inr other ↦ ap (λ (l : Files). l g) cut ∙ with_file_other mid n (take 0 (mid n)) g other ∙ ap (λ (l : Files). l g) same ∙ last.absent g from upto (omega (arith, order, other))
]

pub keeps_still : (a : Clock Left) → Steps KeepsApart a a
keeps_still a = record { follows = λ x now. (x, now, record { apart = λ g a. refl; said = refl }); runs = runs_none a _ }

pub keeps_then : {a b c : Clock Left} → Steps KeepsApart a b → Steps KeepsApart b c → Steps KeepsApart a c
keeps_then one two = steps_on one two (λ z y x was now first then. record { apart = λ g a. then.apart g a ∙ first.apart g a; said = then.said ∙ first.said }) (λ z x now first. first)

-- a call that looks
pub keeps_same : {a b : Clock Left} → Steps Same a b → Steps KeepsApart a b
keeps_same looks = steps_weaken looks (λ z x now same. record { apart = λ g a. ap (λ (l : Left). l.files g) same; said = ap (λ (l : Left). l.said) same })

-- a range of audit files, dumps or structure files
pub apart_out : (low high g : ℕ) → 10001 ≤ low → high ≤ 30200 → (high < 30000) ⊎ (30000 < low) → IsApart g → (g < low) ⊎ (high < g)
apart_out low high g from upto gap a = elim a [
  | inl before ↦ inl (omega (arith, before, from))
  | inr far ↦ elim far [
    | inl is ↦ elim gap [ inl under ↦ inr (omega (arith, is, under)) | inr over ↦ inl (omega (arith, is, over)) ]
    | inr behind ↦ inr (omega (arith, behind, upto))
  ]
]

pub apart_audit : (g : ℕ) → IsApart g → (g < 10001) ⊎ (20000 < g)
apart_audit g a = apart_out 10001 20000 g (omega arith) (omega arith) (inl (omega arith)) a

pub not_first : (g : ℕ) → IsApart g → g ≢ 10001
not_first g a = elim (apart_audit g a) [ inl low ↦ omega (arith, low) | inr high ↦ omega (arith, high) ]

-- the header of the first audit file
pub keeps_first : {a b : Clock Left} {step : List ℕ → List ℕ → Type 0} → Steps (OnDisk 10001 step) a b → Steps KeepsApart a b
keeps_first steps = steps_weaken steps (λ z x now on. record { apart = λ g a. on.files.others g (not_first g a); said = on.said })

-- ---- steps in one range

pub out_still : (low high : ℕ) (a : Clock Left) → Steps (KeepsOutside low high) a a
out_still low high a = record { follows = λ x now. (x, now, record { others = λ g out. refl; said = refl }); runs = runs_none a _ }

-- a step in the range up to some number of it follows
pub out_then : (low top high : ℕ) {a b c : Clock Left} → top ≤ high → Steps (KeepsOutside low high) a b → Steps (KeepsOutside low top) b c → Steps (KeepsOutside low high) a c
out_then low top high order one two =
    steps_on one two (λ z y x was now first then. record { others = λ g out. then.others g (further g out) ∙ first.others g out; said = then.said ∙ first.said }) (λ z x now first. first)
  where
    further : (g : ℕ) → (g < low) ⊎ (high < g) → (g < low) ⊎ (top < g)
    further g out = elim out [ inl before ↦ inl before | inr behind ↦ inr (omega (arith, behind, order)) ]

pub keeps_out : (low high : ℕ) {a b : Clock Left} → 10001 ≤ low → high ≤ 30200 → (high < 30000) ⊎ (30000 < low) → Steps (KeepsOutside low high) a b → Steps KeepsApart a b
keeps_out low high from upto gap steps = steps_weaken steps (λ z x now out. record { apart = λ g a. out.others g (apart_out low high g from upto gap a); said = out.said })
