-- Which command the words are those of.
use Rattle.std.proofs.Common.{◌≡◌, ◌≢◌, ◌⊎◌, ◌↔◌, ℕ, List, Bool, true, false, IsTrue, Option, Some, None, refl, subst, sym, inl, inr}
use Rattle.std.specs.Prelude.{IsSome}
use Rattle.dms_status.specs.declared.status.Status.{Status}
use Rattle.dms_status.specs.declared.status.Status.TheVariants.{BadWords}
use Rattle.dms_top.specs.Words.{IsTry, IsCompile, IsLoad, IsPrintAudit, IsRun, IsShip, IsUtility, IsReading, IsCommand, initialize_tag, ship_file}
use Rattle.dms_top.proofs.Digits.{tag_try, tag_compile, tag_run, tag_utility}
use Rattle.dms_top.proofs.Words.{not_both, try_no_print, compile_no_print, print_no_run, print_no_utility}

-- what is said of a status isn't said of bad words
pub no_bad_words : (P : Status → Type 0) (s : Status) → (P BadWords → ⊥) → P s → s ≢ BadWords
no_bad_words P s none of = λ bad. none (subst P bad of)

-- the words are those of a command
pub of_command : (ws : List (List ℕ)) (s : Status) → s ≢ BadWords → IsCommand ws → s ≡ BadWords ↔ (IsCommand ws → ⊥)
of_command ws s other is = (λ bad. absurd (other bad), λ none. absurd (none is))

-- they say a tag
pub of_tag : (ws : List (List ℕ)) (tag : ℕ) → Some tag ≡ initialize_tag ws → IsCommand ws
of_tag ws tag says = inr (inr (inr (inr (inr (inl (subst (λ (o : Option ℕ). IsSome o) says refl))))))

-- they say an audit file
pub some_ship : (ws : List (List ℕ)) (k : ℕ) → Some k ≡ ship_file ws → IsShip ws
some_ship ws k says = subst (λ (o : Option ℕ). IsSome o) says refl

-- they are neither those of `ship` nor of `load`
pub no_ship_none : (ws : List (List ℕ)) → None ≡ ship_file ws → (IsLoad ws → ⊥) → IsLoad ws ⊎ IsShip ws → ⊥
no_ship_none ws none other (inl load) = other load
no_ship_none ws none other (inr ship) = not_both false (subst (λ (o : Option ℕ). IsSome o) (sym none) ship) refl

-- they are those of none
pub of_none : (ws : List (List ℕ)) (a b c d e : Bool) → (IsTry ws → IsTrue a) → a ≡ false → (IsCompile ws → IsTrue b) → b ≡ false → (IsPrintAudit ws → IsTrue c) → c ≡ false → (IsRun ws → IsTrue d) → d ≡ false → (IsUtility ws → IsTrue e) → e ≡ false → None ≡ initialize_tag ws → (IsLoad ws ⊎ IsShip ws → ⊥) → IsCommand ws → ⊥
of_none ws a b c d e p p' q q' r r' s s' t t' none other (inl is) = not_both a (p is) p'
of_none ws a b c d e p p' q q' r r' s s' t t' none other (inr (inl is)) = not_both b (q is) q'
of_none ws a b c d e p p' q q' r r' s s' t t' none other (inr (inr (inl is))) = not_both c (r is) r'
of_none ws a b c d e p p' q q' r r' s s' t t' none other (inr (inr (inr (inl is)))) = not_both d (s is) s'
of_none ws a b c d e p p' q q' r r' s s' t t' none other (inr (inr (inr (inr (inl is))))) = not_both e (t is) t'
of_none ws a b c d e p p' q q' r r' s s' t t' none other (inr (inr (inr (inr (inr (inl is)))))) = not_both false (subst (λ (o : Option ℕ). IsSome o) (sym none) is) refl
of_none ws a b c d e p p' q q' r r' s s' t t' none other (inr (inr (inr (inr (inr (inr is)))))) = other is

-- they read no input
pub none_read : (ws : List (List ℕ)) (a b d e : Bool) → (IsTry ws → IsTrue a) → a ≡ false → (IsCompile ws → IsTrue b) → b ≡ false → (IsRun ws → IsTrue d) → d ≡ false → (IsUtility ws → IsTrue e) → e ≡ false → IsReading ws → ⊥
none_read ws a b d e p p' q q' s s' t t' (inl is) = not_both a (p is) p'
none_read ws a b d e p p' q q' s s' t t' (inr (inl is)) = not_both b (q is) q'
none_read ws a b d e p p' q q' s s' t t' (inr (inr (inl is))) = not_both d (s is) s'
none_read ws a b d e p p' q q' s s' t t' (inr (inr (inr is))) = not_both e (t is) t'

-- `print audit` reads no input
pub print_unread : (ws : List (List ℕ)) → IsPrintAudit ws → IsReading ws → ⊥
print_unread ws is (inl t) = try_no_print ws t is
print_unread ws is (inr (inl c)) = compile_no_print ws c is
print_unread ws is (inr (inr (inl r))) = print_no_run ws is r
print_unread ws is (inr (inr (inr u))) = print_no_utility ws is u

-- nor does `initialize`
pub tag_unread : (ws : List (List ℕ)) (tag : ℕ) → Some tag ≡ initialize_tag ws → IsReading ws → ⊥
tag_unread ws tag says (inl t) = tag_try ws tag t (sym says)
tag_unread ws tag says (inr (inl c)) = tag_compile ws tag c (sym says)
tag_unread ws tag says (inr (inr (inl r))) = tag_run ws tag r (sym says)
tag_unread ws tag says (inr (inr (inr u))) = tag_utility ws tag u (sym says)
