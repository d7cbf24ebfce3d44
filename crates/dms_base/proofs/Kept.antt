use Rattle.std.proofs.Common.{◌≡◌, ◌≤◌, ℕ, List, [], ◌∷◌, Bool, true, false, cond, eqb, refl, sym, ap, subst, length}
use Rattle.std.specs.Prelude.{not}
use Rattle.std.specs.List.{list_all}
use Rattle.std.proofs.lemmas.Bool.{and_from, and_parts, le-leb}
use Rattle.dms_base.specs.Name.{IsName, is_name}
use Rattle.dms_base.specs.Reserved.{is_reserved}
use Rattle.dms_base.specs.Text.{IsText, trim_spaces, before_trimmed, is_printable}
use Rattle.dms_base.specs.Words.{is_word}

-- what the tests of a name have shown
pub named : (bytes : List ℕ) → length bytes ≤ 30 → is_word bytes ≡ true → is_reserved bytes ≡ false → IsName bytes
unfolding is_name
named bytes few word free = and_from _ _ (and_from _ _ (le-leb (length bytes) 30 few) word) (ap not free)

before_pass : (p : ℕ → Bool) (b : ℕ) (ts : List ℕ) → p b ≡ true → list_all p ts ≡ true → list_all p (before_trimmed b ts) ≡ true
before_pass p b [] h g = elim (eqb b 32) as (λ t. list_all p (cond t [] (b ∷ [])) ≡ true) [ true ↦ refl | false ↦ and_from _ _ h refl ]
before_pass p b (x ∷ xs) h g = and_from _ _ h g

-- of bytes that pass a test, those that are left without trailing spaces pass it too
trimmed_pass : (p : ℕ → Bool) (bs : List ℕ) → list_all p bs ≡ true → list_all p (trim_spaces bs) ≡ true
trimmed_pass p [] h = refl
trimmed_pass p (b ∷ bs) h =
    let both = and_parts (p b) (list_all p bs) h in
    before_pass p b (trim_spaces bs) both.0 (trimmed_pass p bs both.1)

before_again : (b : ℕ) (ts : List ℕ) → trim_spaces ts ≡ ts → trim_spaces (before_trimmed b ts) ≡ before_trimmed b ts
before_again b [] h =
    let at = elim (eqb b 32) as (λ t. eqb b 32 ≡ t → trim_spaces (cond t [] (b ∷ [])) ≡ cond t [] (b ∷ [])) [ true ↦ λ e. refl | false ↦ λ e. ap (λ (t : Bool). cond t [] (b ∷ [])) e ] in
    at refl
before_again b (x ∷ xs) h = ap (before_trimmed b) h

-- trailing spaces that are dropped leave none behind
trimmed_again : (bs : List ℕ) → trim_spaces (trim_spaces bs) ≡ trim_spaces bs
trimmed_again [] = refl
trimmed_again (b ∷ bs) = before_again b (trim_spaces bs) (trimmed_again bs)

-- what the tests of a text have shown
pub texted : (bytes items : List ℕ) → items ≡ trim_spaces bytes → list_all is_printable bytes ≡ true → length (trim_spaces bytes) ≤ 200 → IsText items
texted bytes items is printable few = subst IsText (sym is) (record {
  few = few;
  printable = trimmed_pass is_printable bytes printable;
  without_space = trimmed_again bytes;
})
