-- A list of one word.
use Rattle.std.proofs.Common.{◌≡◌, ℕ, List, [], ◌∷◌, Bool, true, false, sym, ap, ◌∙◌, arith, length, get_or, IsTrue, map}
use Rattle.std.specs.Prelude.{codes}
use Rattle.std.specs.Str.{bytes_eq}
use Rattle.std.proofs.lemmas.Slice.Eq.{bytes_eq-Decides}

head_of : (xs ys : List (List ℕ)) (x y : List ℕ) → x ∷ xs ≡ y ∷ ys → x ≡ y
head_of xs ys x y h = cc

-- a list of one word is this one
pub one_word : {W : Type 0} (f : W → List ℕ) (ws : List W) (w : W) (b : Bool) (t : List ℕ) → length ws ≡ 1 → w ≡ get_or ws 0 w → b ≡ bytes_eq (f w) t → (IsTrue b → map f ws ≡ t ∷ []) × (map f ws ≡ t ∷ [] → IsTrue b)
one_word f [] w b t len at test = absurd (omega (arith, len))
one_word f (x ∷ y ∷ zs) w b t len at test = absurd (omega (arith, len))
one_word f (x ∷ []) w b t len at test = (
  λ h. ap (λ (v : List ℕ). v ∷ []) (ap f (sym at) ∙ (bytes_eq-Decides (f w) t).0 (sym test ∙ h)),
  λ h. test ∙ (bytes_eq-Decides (f w) t).1 (ap f at ∙ head_of [] [] (f x) t h),
)

second_of : (x y s t : List ℕ) → x ∷ y ∷ [] ≡ s ∷ t ∷ [] → y ≡ t
second_of x y s t h = cc

-- a list of two words whose first one is right
pub two_words : {W : Type 0} (f : W → List ℕ) (ws : List W) (w v : W) (b : Bool) (s t : List ℕ) → length ws ≡ 2 → w ≡ get_or ws 0 w → v ≡ get_or ws 1 v → IsTrue (bytes_eq (f w) s) → b ≡ bytes_eq (f v) t → (IsTrue b → map f ws ≡ s ∷ t ∷ []) × (map f ws ≡ s ∷ t ∷ [] → IsTrue b)
two_words f [] w v b s t len first second one test = absurd (omega (arith, len))
two_words f (x ∷ []) w v b s t len first second one test = absurd (omega (arith, len))
two_words f (x ∷ y ∷ z ∷ zs) w v b s t len first second one test = absurd (omega (arith, len))
two_words f (x ∷ y ∷ []) w v b s t len first second one test =
    let is_first : f x ≡ s = ap f (sym first) ∙ (bytes_eq-Decides (f w) s).0 one in (
      λ h. (λ i. is_first i ∷ (ap f (sym second) ∙ (bytes_eq-Decides (f v) t).0 (sym test ∙ h)) i ∷ []),
      λ h. test ∙ (bytes_eq-Decides (f v) t).1 (ap f second ∙ second_of (f x) (f y) s t h),
    )

pub not_both : (b : Bool) → b ≡ true → b ≡ false → ⊥
not_both true p q = cc
not_both false p q = cc

abbrev first_byte : List (List ℕ) → ℕ
first_byte [] = 0
first_byte ([] ∷ ws) = 0
first_byte ((b ∷ bs) ∷ ws) = b

pub try_no_run : (ws : List (List ℕ)) → ws ≡ codes "try" ∷ [] → ws ≡ codes "run" ∷ [] → ⊥
try_no_run ws one two = apart (ap first_byte (sym one ∙ two))
  where
    apart : ◌≡◌ {A = ℕ} 116 114 → ⊥
    apart e = absurd (omega (arith, e))

pub compile_no_run : (ws : List (List ℕ)) → ws ≡ codes "compile" ∷ [] → ws ≡ codes "run" ∷ [] → ⊥
compile_no_run ws one two = apart (ap first_byte (sym one ∙ two))
  where
    apart : ◌≡◌ {A = ℕ} 99 114 → ⊥
    apart e = absurd (omega (arith, e))

pub print_no_run : (ws : List (List ℕ)) → ws ≡ codes "print" ∷ codes "audit" ∷ [] → ws ≡ codes "run" ∷ [] → ⊥
print_no_run ws one two = apart (ap first_byte (sym one ∙ two))
  where
    apart : ◌≡◌ {A = ℕ} 112 114 → ⊥
    apart e = absurd (omega (arith, e))

pub try_no_compile : (ws : List (List ℕ)) → ws ≡ codes "try" ∷ [] → ws ≡ codes "compile" ∷ [] → ⊥
try_no_compile ws one two = apart (ap first_byte (sym one ∙ two))
  where
    apart : ◌≡◌ {A = ℕ} 116 99 → ⊥
    apart e = absurd (omega (arith, e))

pub try_no_print : (ws : List (List ℕ)) → ws ≡ codes "try" ∷ [] → ws ≡ codes "print" ∷ codes "audit" ∷ [] → ⊥
try_no_print ws one two = apart (ap first_byte (sym one ∙ two))
  where
    apart : ◌≡◌ {A = ℕ} 116 112 → ⊥
    apart e = absurd (omega (arith, e))

pub compile_no_print : (ws : List (List ℕ)) → ws ≡ codes "compile" ∷ [] → ws ≡ codes "print" ∷ codes "audit" ∷ [] → ⊥
compile_no_print ws one two = apart (ap first_byte (sym one ∙ two))
  where
    apart : ◌≡◌ {A = ℕ} 99 112 → ⊥
    apart e = absurd (omega (arith, e))

pub try_no_utility : (ws : List (List ℕ)) → ws ≡ codes "try" ∷ [] → ws ≡ codes "utility" ∷ [] → ⊥
try_no_utility ws one two = apart (ap first_byte (sym one ∙ two))
  where
    apart : ◌≡◌ {A = ℕ} 116 117 → ⊥
    apart e = absurd (omega (arith, e))

pub compile_no_utility : (ws : List (List ℕ)) → ws ≡ codes "compile" ∷ [] → ws ≡ codes "utility" ∷ [] → ⊥
compile_no_utility ws one two = apart (ap first_byte (sym one ∙ two))
  where
    apart : ◌≡◌ {A = ℕ} 99 117 → ⊥
    apart e = absurd (omega (arith, e))

pub print_no_utility : (ws : List (List ℕ)) → ws ≡ codes "print" ∷ codes "audit" ∷ [] → ws ≡ codes "utility" ∷ [] → ⊥
print_no_utility ws one two = apart (ap first_byte (sym one ∙ two))
  where
    apart : ◌≡◌ {A = ℕ} 112 117 → ⊥
    apart e = absurd (omega (arith, e))

pub run_no_utility : (ws : List (List ℕ)) → ws ≡ codes "run" ∷ [] → ws ≡ codes "utility" ∷ [] → ⊥
run_no_utility ws one two = apart (ap first_byte (sym one ∙ two))
  where
    apart : ◌≡◌ {A = ℕ} 114 117 → ⊥
    apart e = absurd (omega (arith, e))
