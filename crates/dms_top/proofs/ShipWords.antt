-- Words that are not those of `ship`.
use Rattle.std.proofs.Common.{◌≡◌, ◌∙◌, ℕ, List, [], ◌∷◌, Bool, true, false, cond, sym, ap, refl, arith, Option, Some, None, IsTrue}
use Rattle.std.specs.Prelude.{codes}
use Rattle.std.specs.Str.{bytes_eq}
use Rattle.std.proofs.lemmas.Option.{none-some}
use Rattle.std.proofs.lemmas.Slice.Eq.{bytes_eq-Decides}
use Rattle.dms_top.specs.Words.{file_said, initialize_tag, load_numbers, ship_file, tag_of}

-- other words say no audit file
pub no_ship : (ws vs : List (List ℕ)) (k : ℕ) → ws ≡ vs → ship_file vs ≡ None → ship_file ws ≡ Some k → ⊥
no_ship ws vs k is none says = none-some k (sym none ∙ ap ship_file (sym is) ∙ says)

is_word : {A : Type 0} (b : Bool) (o : Option A) (x : A) → cond b o None ≡ Some x → IsTrue b
is_word true o x is = refl
is_word false o x is = absurd (none-some x is)

abbrev first_of : List ℕ → ℕ
first_of [] = 0
first_of (b ∷ bs) = b

-- a word is not both
one_of_both : (a : List ℕ) → IsTrue (bytes_eq a (codes "initialize")) → IsTrue (bytes_eq a (codes "ship")) → ⊥
one_of_both a p q = apart (ap first_of (sym ((bytes_eq-Decides a (codes "initialize")).0 p) ∙ (bytes_eq-Decides a (codes "ship")).0 q))
  where
    apart : ◌≡◌ {A = ℕ} 105 115 → ⊥
    apart e = absurd (omega (arith, e))

-- nor do those of `initialize`
pub tag_no_ship : (ws : List (List ℕ)) (tag k : ℕ) → Some tag ≡ initialize_tag ws → ship_file ws ≡ Some k → ⊥
tag_no_ship [] tag k says is = none-some k is
tag_no_ship (a ∷ []) tag k says is = one_of_both a (is_word (bytes_eq a (codes "initialize")) (Some 0) tag (sym says)) (is_word (bytes_eq a (codes "ship")) (Some 1) k is)
tag_no_ship (a ∷ b ∷ []) tag k says is = one_of_both a (is_word (bytes_eq a (codes "initialize")) (tag_of b) tag (sym says)) (is_word (bytes_eq a (codes "ship")) (file_said (tag_of b)) k is)
tag_no_ship (a ∷ b ∷ c ∷ ws) tag k says is = none-some k is

-- nor those of `load`
pub ship_no_load : (ws : List (List ℕ)) (k : ℕ) (p : ℕ × ℕ) → Some k ≡ ship_file ws → load_numbers ws ≡ Some p → ⊥
ship_no_load [] k p says is = none-some p is
ship_no_load (a ∷ []) k p says is = none-some p is
ship_no_load (a ∷ b ∷ []) k p says is = none-some p is
ship_no_load (a ∷ b ∷ c ∷ ws) k p says is = none-some k (sym says)
