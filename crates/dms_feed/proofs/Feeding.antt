use Rattle.std.proofs.Common.{◌≡◌, ℕ, ◌≤◌, ◌<◌, List, [], ◌++◌, length, take, Some, None, sym, ap, ◌∙◌, arith}
use Rattle.std.specs.declared.option.Option.{Option}
use Rattle.std.proofs.lemmas.List.{length-take-le}
use Rattle.std.proofs.lemmas.Option.{none-some, same_Some}
use Rattle.std.specs.Io.KnownBytes.{Consumes, IsAtEnd}
use Rattle.dms_feed.specs.Feeds.{Remains}

none_taken : (into : List ℕ) (n : ℕ) → n ≤ length into → take n into ≡ [] → n ≡ 0
none_taken into n fits none = let e : length (take n into) ≡ n = length-take-le n into fits in omega (arith, ap length none)

-- what was taken is held, and what remains is the same
pub refilled : (held into : List ℕ) (n : ℕ) (old new : Option (List ℕ)) (all : List ℕ) → held ≡ [] → n ≤ length into → 0 < length into
    → Consumes old new (take n into) × (n ≡ 0 → 0 < length into → IsAtEnd new) → Remains held old all
    → Remains (take n into) new all × (take n into ≡ [] → all ≡ [])
refilled held into n None new all empty fits room given remains = absurd (none-some all remains)
refilled held into n (Some xs) None all empty fits room given remains = absurd given.0
refilled held into n (Some xs) (Some ys) all empty fits room given remains =
    let is : xs ≡ all = ap (λ (h : List ℕ). h ++ xs) (sym empty) ∙ same_Some _ _ remains in
    let all_is : take n into ++ ys ≡ all = sym given.0 ∙ is in
    (ap (λ (zs : List ℕ). Some zs) all_is, λ none. sym all_is ∙ ap (λ (h : List ℕ). h ++ ys) none ∙ given.1 (none_taken into n fits none) room)
