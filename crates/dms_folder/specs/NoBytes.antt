-- A write of no bytes.
use Rattle.std.proofs.Common.{ℕ, ◌≡◌, List, [], ◌∷◌, length, refl, sym, ◌∙◌, ap, arith, if◌then◌else◌, ◌==◌}
use Rattle.std.proofs.lemmas.Bool.Decides.{nat_tests}
use Rattle.dms_site.specs.Files.{Files, with_file, overlay_bytes}

overlaid_none : (file : List ℕ) → overlay_bytes 0 [] file ≡ file
unfolding overlay_bytes
overlaid_none file = refl

same_file : (files : Files) (f : ℕ) → with_file files f (files f) ≡ files
unfolding with_file
same_file files f = λ i g. one g i
  where
    one : (g : ℕ) → (if g == f then files f else files g) ≡ files g
    one g = grind (arith, nat_tests)

-- nothing to write, and no gap
pub nothing_written : (files : Files) (f at : ℕ) (bytes : List ℕ) → at ≡ 0 → bytes ≡ [] → files ≡ with_file files f (overlay_bytes at bytes (files f))
nothing_written files f at bytes start none =
    sym (ap (λ (n : ℕ). with_file files f (overlay_bytes n bytes (files f))) start ∙ ap (λ (l : List ℕ). with_file files f (overlay_bytes 0 l (files f))) none ∙ ap (λ (l : List ℕ). with_file files f l) (overlaid_none (files f)) ∙ same_file files f)

pub empty_of : (xs : List ℕ) → length xs ≡ 0 → xs ≡ []
empty_of [] none = refl
empty_of (x ∷ xs) none = absurd (omega (arith, none))
