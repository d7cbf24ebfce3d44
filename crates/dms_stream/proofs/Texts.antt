-- The head of a stream, and the place of a block, piece by piece.
use Rattle.std.proofs.Common.{ℕ, ◌≡◌, ◌≤◌, ◌∙◌, ◌++◌, ◌∷◌, List, [], ap, refl, length, drop, slice_set, append_assoc, arith}
use Rattle.dms_fields.specs.Fields.{lay_bytes}
use Rattle.std.specs.Int.{w16, w32, w64, to_be_bytes}
use Rattle.dms_stream.specs.Stream.{head_bytes}

pub one_text : (tag total : ℕ) (desc a b c d e : List ℕ) → a ≡ 68 ∷ 77 ∷ 83 ∷ 82 ∷ [] → b ≡ a ++ to_be_bytes w64 tag → c ≡ b ++ to_be_bytes w16 total → d ≡ c ++ to_be_bytes w32 (length desc) → e ≡ d ++ desc
    → e ≡ head_bytes (record { tag = tag; total = total; description = desc })
unfolding head_bytes
one_text tag total desc a b c d e one two three four five =
    let m : List ℕ = 68 ∷ 77 ∷ 83 ∷ 82 ∷ [] in
    let t = to_be_bytes w64 tag in
    let n = to_be_bytes w16 total in
    let l = to_be_bytes w32 (length desc) in
    five ∙ ap (λ (x : List ℕ). x ++ desc) (four ∙ ap (λ (x : List ℕ). x ++ l) (three ∙ ap (λ (x : List ℕ). x ++ n) (two ∙ ap (λ (x : List ℕ). x ++ t) one)))
    ∙ append_assoc ((m ++ t) ++ n) l desc ∙ append_assoc (m ++ t) n (l ++ desc) ∙ append_assoc m t (n ++ (l ++ desc))

pub placed : (old : List ℕ) (a b c d e f : ℕ) → 7 ≤ length old → lay_bytes 5 (e ∷ f ∷ []) (lay_bytes 1 (a ∷ b ∷ c ∷ d ∷ []) (slice_set old 0 1)) ≡ 1 ∷ a ∷ b ∷ c ∷ d ∷ e ∷ f ∷ drop 7 old
unfolding lay_bytes
placed [] a b c d e f some = absurd (omega (arith, some))
placed (x1 ∷ []) a b c d e f some = absurd (omega (arith, some))
placed (x1 ∷ x2 ∷ []) a b c d e f some = absurd (omega (arith, some))
placed (x1 ∷ x2 ∷ x3 ∷ []) a b c d e f some = absurd (omega (arith, some))
placed (x1 ∷ x2 ∷ x3 ∷ x4 ∷ []) a b c d e f some = absurd (omega (arith, some))
placed (x1 ∷ x2 ∷ x3 ∷ x4 ∷ x5 ∷ []) a b c d e f some = absurd (omega (arith, some))
placed (x1 ∷ x2 ∷ x3 ∷ x4 ∷ x5 ∷ x6 ∷ []) a b c d e f some = absurd (omega (arith, some))
placed (x1 ∷ x2 ∷ x3 ∷ x4 ∷ x5 ∷ x6 ∷ x7 ∷ xs) a b c d e f some = refl
