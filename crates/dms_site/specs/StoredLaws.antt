-- What files hold as blocks of structure files, after writes.
use Rattle.std.proofs.Common.{ℕ, ◌+◌, ◌*◌, ◌<◌, ◌≤◌, ◌≡◌, ◌≢◌, inl, inr, List, [], length, sym, ◌∙◌, ap, arith}
use Rattle.std.proofs.lemmas.Bool.{cases_lt, cases_eq}
use Rattle.std.proofs.lemmas.Bool.Decides.{nat_tests}
use Rattle.dms_site.specs.Files.{Files, stored_of, with_file, range, overlay_bytes, InFile, Torn}
use Rattle.dms_site.specs.Laws.{with_file_here, length-range, range_overlaid, range_apart}

-- a block of a structure file
pub stored_at : (files : Files) (f b : ℕ) → 30000 < f → stored_of files f b ≡ range (1024 * b) 1024 (files f)
unfolding stored_of
stored_at files f b structure = grind (arith, nat_tests, structure)

-- other files hold no blocks
pub stored_none : (files : Files) (f b : ℕ) → f ≤ 30000 → stored_of files f b ≡ []
unfolding stored_of
stored_none files f b other = grind (arith, nat_tests, other)

-- A block depends on its own range of its file alone.
pub stored_range : (x y : Files) (f b : ℕ) → (30000 < f → range (1024 * b) 1024 (x f) ≡ range (1024 * b) 1024 (y f)) → stored_of x f b ≡ stored_of y f b
stored_range x y f b same = elim (cases_lt 30000 f) [
  | inl structure ↦ stored_at x f b structure ∙ same structure ∙ sym (stored_at y f b structure)
  | inr other ↦ stored_none x f b other ∙ sym (stored_none y f b other)
]

-- Files that agree above 30,000 hold the same blocks.
pub stored_same : (x y : Files) → ((f : ℕ) → 30000 < f → x f ≡ y f) → stored_of x ≡ stored_of y
stored_same x y same = λ i f b. stored_range x y f b (λ structure. ap (λ (l : List ℕ). range (1024 * b) 1024 l) (same f structure)) i

-- A block of 1,024 bytes stands whole in its file.
pub stored_whole : (files : Files) (f b : ℕ) → length (stored_of files f b) ≡ 1024 → (30000 < f) × (1024 * b + 1024 ≤ length (files f))
stored_whole files f b is = elim (cases_lt 30000 f) [
  | inl structure ↦ (structure, omega (arith, is, length-range (1024 * b) 1024 (files f), ap length (stored_at files f b structure)))
  | inr other ↦ absurd (omega (arith, is, ap length (stored_none files f b other)))
]

-- A torn write of one block leaves each other block: those of other files, those behind it, and those before it that stand whole.
pub stored_apart : (x y : Files) (f b g c : ℕ) → InFile f (Torn (1024 * b) 1024) x y → (g ≡ f → c ≢ b) → (g ≡ f → c < b → 1024 * c + 1024 ≤ length (x f)) → stored_of y g c ≡ stored_of x g c
stored_apart x y f b g c step apart whole = elim (cases_eq g f) [
  | inl same ↦ stored_range y x g c (λ structure. ap (λ (h : ℕ). range (1024 * c) 1024 (y h)) same ∙ range_apart c b (x f) (y f) step.here (apart same) (whole same) ∙ ap (λ (h : ℕ). range (1024 * c) 1024 (x h)) (sym same))
  | inr other ↦ stored_range y x g c (λ structure. ap (λ (l : List ℕ). range (1024 * c) 1024 l) (step.others g other))
]

-- a block that was written whole is what is stored
pub stored_written : (files : Files) (f b : ℕ) (block : List ℕ) → 30000 < f → length block ≡ 1024 → stored_of (with_file files f (overlay_bytes (1024 * b) block (files f))) f b ≡ block
stored_written files f b block structure sized =
    stored_at (with_file files f (overlay_bytes (1024 * b) block (files f))) f b structure ∙ ap (λ (l : List ℕ). range (1024 * b) 1024 l) (with_file_here files f (overlay_bytes (1024 * b) block (files f)))
    ∙ ap (λ (n : ℕ). range (1024 * b) n (overlay_bytes (1024 * b) block (files f))) (sym sized) ∙ range_overlaid (1024 * b) block (files f)
