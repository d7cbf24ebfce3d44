-- A restore, however often it is stopped.
use Rattle.std.proofs.Common.{ℕ, ◌≡◌, ◌||◌, ◌⊎◌, inl, inr, Bool, true, false, cond, List, [], ◌∷◌, ◌++◌, length, refl, sym, ◌∙◌}
use Rattle.std.proofs.lemmas.Bool.{false≢true}
use Rattle.dms_history.specs.Events.{AllBlocks, Counts, Event, change, quiet, control, begin}
use Rattle.dms_history.specs.Replay.{Chain, replay, with_block}
use Rattle.dms_history.specs.Lists.{has, until_first}
use Rattle.dms_history.proofs.AtPoints.{true_or, or_true_right}

pub or_at : (b c : Bool) → b || c ≡ true → (b ≡ true) ⊎ ((b ≡ false) × (c ≡ true))
or_at true c e = inl refl
or_at false c e = inr (refl, e)

-- what a prefix has, the whole has
pub has_front : (p q : Event → Bool) (es : List Event) → has q (until_first p es) ≡ true → has q es ≡ true
has_front p q [] found = found
has_front p q (e ∷ es) found = go (p e) (has p es) (λ more. has_front p q es more) found
  where
    go : (b c : Bool) → (has q (until_first p es) ≡ true → has q es ≡ true) → has q (cond b (e ∷ []) (cond c (e ∷ until_first p es) [])) ≡ true → q e || has q es ≡ true
    go true c rest at = elim (or_at (q e) false at) [ inl here ↦ true_or (q e) (has q es) here | inr none ↦ absurd (false≢true none.1) ]
    go false true rest at = elim (or_at (q e) (has q (until_first p es)) at) [ inl here ↦ true_or (q e) (has q es) here | inr more ↦ or_true_right (q e) (has q es) (rest more.1) ]
    go false false rest at = absurd (false≢true at)

-- a prefix of a prefix
pub until_until : (p q : Event → Bool) (es : List Event) → has q (until_first p es) ≡ true → until_first q (until_first p es) ≡ until_first q es
until_until p q [] found = refl
until_until p q (e ∷ es) found = go (p e) (has p es) (λ more. until_until p q es more) (λ more. has_front p q es more) found
  where
    whole : Type 0
    whole = until_first q (e ∷ es) ≡ until_first q (e ∷ es)

    here_one : (d : Bool) (xs ys : List Event) → d ≡ true → cond d (e ∷ []) xs ≡ cond d (e ∷ []) ys
    here_one true xs ys is = refl
    here_one false xs ys is = absurd (false≢true is)

    there : (d : Bool) (c1 c2 : Bool) (xs ys : List Event) → d ≡ false → c1 ≡ true → c2 ≡ true → xs ≡ ys → cond d (e ∷ []) (cond c1 (e ∷ xs) []) ≡ cond d (e ∷ []) (cond c2 (e ∷ ys) [])
    there d c1 c2 xs ys off one two same = λ i. cond d (e ∷ []) (cond ((one ∙ sym two) i) (e ∷ same i) [])

    go : (b c : Bool) → (has q (until_first p es) ≡ true → until_first q (until_first p es) ≡ until_first q es) → (has q (until_first p es) ≡ true → has q es ≡ true) → has q (cond b (e ∷ []) (cond c (e ∷ until_first p es) [])) ≡ true
        → until_first q (cond b (e ∷ []) (cond c (e ∷ until_first p es) [])) ≡ cond (q e) (e ∷ []) (cond (has q es) (e ∷ until_first q es) [])
    go true c rest more at = elim (or_at (q e) false at) [ inl here ↦ here_one (q e) _ _ here | inr none ↦ absurd (false≢true none.1) ]
    go false true rest more at = elim (or_at (q e) (has q (until_first p es)) at) [
      | inl here ↦ here_one (q e) _ _ here
      | inr later ↦ there (q e) _ _ _ _ later.0 later.1 (more later.1) (rest later.1)
    ]
    go false false rest more at = absurd (false≢true at)

pub chain_control : (es : List Event) (c : AllBlocks) (m next : ℕ) (counts : Counts) (described : Bool) → Chain es c → ((f : ℕ) → counts f ≡ length (replay es c f)) → Chain (es ++ control m next counts described ∷ []) c
chain_control [] c m next counts described chain are = (are, tt)
chain_control (change g b before after ∷ es) c m next counts described chain are = (chain.0, chain_control es (with_block c g b after) m next counts described chain.1 are)
chain_control (quiet n ∷ es) c m next counts described chain are = chain_control es c m next counts described chain are
chain_control (control n later others whole ∷ es) c m next counts described chain are = (chain.0, chain_control es c m next counts described chain.1 are)
chain_control (begin n how ∷ es) c m next counts described chain are = absurd chain
