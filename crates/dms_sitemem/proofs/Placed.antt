-- Files that go from a map into a site, one by one.
use Rattle.std.proofs.Common.{ℕ, ◌≡◌, ◌⊎◌, inl, inr, ◌==◌, if◌then◌else◌, List, [], Some, None, Vec, sym, ◌∙◌, ap, arith}
use Rattle.std.specs.declared.alloc.Global.{Global}
use Rattle.std.specs.declared.collections.BTreeMap.{BTreeMap}
use Rattle.std.specs.Ordering.{nat_cmp}
use Rattle.std.specs.BTreeMap.{get}
use Rattle.std.proofs.lemmas.Bool.{cases_eq}
use Rattle.std.proofs.lemmas.Bool.Decides.{nat_tests}
use Rattle.std.proofs.lemmas.Option.{none-some}
use Rattle.dms_site.specs.Files.{Files, with_file}
use Rattle.dms_site.specs.Laws.{with_file_here, with_file_other}
use Rattle.dms_sitemem.specs.Slots.{bytes_or_none, files_of}

-- each file is in the site, or still in the map
abbrev pub PlacedFiles : Files → Files → BTreeMap ℕ (Vec ℕ Global) Global → Type 0
PlacedFiles all here left = (g : ℕ) → ((here g ≡ all g) × (get nat_cmp left g ≡ None)) ⊎ ((here g ≡ []) × (files_of left g ≡ all g))

module _ (all here here' : Files) (left left' : BTreeMap ℕ (Vec ℕ Global) Global) (k : ℕ) (v : Vec ℕ Global) (bytes : List ℕ) (is : bytes ≡ v.items) (placed : PlacedFiles all here left) (found : get nat_cmp left k ≡ Some v) (gone : (g : ℕ) → get nat_cmp left' g ≡ (if g == k then None else get nat_cmp left g)) (set : here' ≡ with_file here k bytes) where
  this : v.items ≡ all k
  this = elim (placed k) [
    | inl was ↦ absurd (none-some v (sym was.1 ∙ found))
    | inr was ↦ sym (ap bytes_or_none found) ∙ was.1
  ]

  gone_here : (g : ℕ) → g ≡ k → get nat_cmp left' g ≡ None
  gone_here g e = gone g ∙ grind (arith, nat_tests, e)

  stays : (g : ℕ) → (g ≡ k → ⊥) → get nat_cmp left' g ≡ get nat_cmp left g
  stays g other = gone g ∙ grind (arith, nat_tests, other)

  here_same : (g : ℕ) → (g ≡ k → ⊥) → here' g ≡ here g
  here_same g other = ap (λ (l : Files). l g) set ∙ with_file_other here k bytes g other

  pub placed_next : PlacedFiles all here' left'
  placed_next g = elim (cases_eq g k) [
    | inl e ↦ inl (
      ap (λ (l : Files). l g) set ∙ ap (λ (n : ℕ). with_file here k bytes n) e ∙ with_file_here here k bytes ∙ is ∙ this ∙ ap all (sym e),
      gone_here g e,
    )
    | inr other ↦ elim (placed g) [
      | inl was ↦ inl (here_same g other ∙ was.0, stays g other ∙ was.1)
      | inr was ↦ inr (here_same g other ∙ was.0, ap bytes_or_none (stays g other) ∙ was.1)
    ]
  ]

pub placed_all : (all here : Files) (left : BTreeMap ℕ (Vec ℕ Global) Global) → PlacedFiles all here left → ((g : ℕ) → get nat_cmp left g ≡ None) → (g : ℕ) → here g ≡ all g
placed_all all here left placed none g = elim (placed g) [
  | inl was ↦ was.0
  | inr was ↦ was.0 ∙ sym (ap bytes_or_none (none g)) ∙ was.1
]
