-- What a listing leaves to be known, name by name.
use Rattle.std.proofs.Common.{ℕ, ◌^◌, ◌<◌, ◌≤◌, ◌≡◌, ◌⊎◌, inl, inr, ⊎_elim, refl, sym, ◌∙◌, ap, subst, List, [], ◌∷◌, ◌++◌, length, None, Some, arith}
use Rattle.std.specs.Prelude.{slice_get, MatchOption}
use Rattle.std.specs.declared.option.Option.{Option}
use Rattle.dms_moments.specs.Moments.{Clock, Steps}
use Rattle.dms_site.specs.Files.{Files, IsLastPresent}
use Rattle.dms_calls.specs.Names.{name_of}
use Rattle.dms_calls.specs.World.{World, Unchanged, IsGiven, AllGiven}
use Rattle.dms_calls.specs.Seen.{site_files}
use Rattle.dms_folder.specs.NameLaws.{name_inj}
use Rattle.dms_folder.specs.Places.{get_push}
use Rattle.dms_folder.specs.Kept.{StableAt, StableNext}
use Rattle.dms_folder.specs.Keeps.{stable_same}
use Rattle.dms_folder.specs.Listings.{TakesName, IsLater}
use Rattle.dms_folder.specs.Shown.{seen_absent}

-- a name was given before, or is the one that was given now
pub given_next : (old new : List (List ℕ)) (m x : List ℕ) → new ≡ old ++ m ∷ [] → IsGiven new x → IsGiven old x ⊎ (x ≡ m)
given_next old new m x is given =
    ⊎_elim (λ was. inl (given.0, was)) (λ e. inr e) (get_push old m given.0 x (sym (ap (λ (l : List (List ℕ)). slice_get l given.0) is) ∙ given.1))

-- each database file that was given so far is stable
abbrev pub StableGiven : List (List ℕ) → World → Clock World → Type 0
StableGiven given w c = (m : List ℕ) → IsGiven given m → (n : ℕ) → n < 2 ^ 32 → m ≡ name_of n → StableAt w c n

pub stable_next : {v w : World} {a b : Clock World} {old new : List (List ℕ)} → StableGiven old v a → w ≡ v → Steps Unchanged a b → StableNext old new w b → StableGiven new w b
stable_next {v} {w} {a} {b} {old} {new} before same step next m given n low is =
    ⊎_elim
    (λ was. stable_same n (before m was n low is) same step)
    (λ e. next.stable n low (sym e ∙ is))
    (given_next old new next.name m next.given given)

-- no database file that was given so far is present in the range and past the last one
abbrev pub AbsentGiven : List (List ℕ) → Files → ℕ → ℕ → ℕ → Type 0
AbsentGiven given files start upto last = (n : ℕ) → IsGiven given (name_of n) → n < 2 ^ 32 → start ≤ n → n ≤ upto → last < n → files n ≡ []

-- the greatest present one after one more name
abbrev pub Later : Files → ℕ → ℕ → ℕ → Option ℕ → ℕ → Type 0
Later files start upto last name found = MatchOption name (found ≡ last) (λ number. IsLater files start upto last number found)

pub absent_next : {old new : List (List ℕ)} (files : Files) (start upto last found : ℕ) (name : Option ℕ)
    → AbsentGiven old files start upto last → TakesName old new name → Later files start upto last name found → AbsentGiven new files start upto found
absent_next {old} {new} files start upto last found None before takes later n given low a b h =
    ⊎_elim
    (λ was. before n was low a b (omega (arith, h, later)))
    (λ e. absurd (takes.number n low (sym e)))
    (given_next old new takes.name (name_of n) takes.given given)
absent_next {old} {new} files start upto last found (Some k) before takes later n given low a b h =
    ⊎_elim
    (λ was. before n was low a b (omega (arith, h, later.no_less)))
    (λ e.
    let same : n ≡ k = name_inj n k low takes.number.0 (e ∙ takes.number.1) in
    ap (λ (n : ℕ). files n) same ∙ later.skipped (omega (arith, same, a)) (omega (arith, same, b)) (omega (arith, same, h)))
    (given_next old new takes.name (name_of n) takes.given given)

-- the last one is present where it was, and where it is the new one
pub present_next : (files : Files) (start upto last found : ℕ) (name : Option ℕ) → (0 < last → 0 < length (files last)) → Later files start upto last name found → 0 < found → 0 < length (files found)
present_next files start upto last found None was later some = subst (λ (n : ℕ). 0 < length (files n)) (sym later) (was (omega (arith, later, some)))
present_next files start upto last found (Some k) was later some =
    ⊎_elim
    (λ e. subst (λ (n : ℕ). 0 < length (files n)) (sym e) (was (omega (arith, e, some))))
    (λ new. subst (λ (n : ℕ). 0 < length (files n)) (sym new.0) new.3)
    later.from

-- at the end of the listing the last one is the greatest of all
pub last_at_end : (w : World) (given : List (List ℕ)) (start upto last : ℕ) → upto < 2 ^ 32 → AllGiven w.names w.names given → AbsentGiven given (site_files name_of w) start upto last
    → (0 < last → (start ≤ last) × (last ≤ upto)) → (0 < last → 0 < length (site_files name_of w last)) → IsLastPresent (site_files name_of w) start upto last
last_at_end w given start upto last small all absent bound present = record {
  absent = λ g a b h. behind g (omega (arith, b, small)) a b h (w.names (name_of g)) refl;
  present = λ some. ((bound some).0, (bound some).1, present some);
}
  where
    behind : (g : ℕ) → g < 2 ^ 32 → start ≤ g → g ≤ upto → last < g → (o : Option ℕ) → w.names (name_of g) ≡ o → site_files name_of w g ≡ []
    behind g low a b h None is = seen_absent w g low is
    behind g low a b h (Some i) is = absent g (all (name_of g) i is is) low a b h
