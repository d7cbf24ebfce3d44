-- Lists of pairs of numbers: what is read is spelled so, and what is spelled so is read again.
use Rattle.std.proofs.Common.{◌≡◌, ℕ, zero, suc, ◌+◌, ◌*◌, ◌^◌, ◌<◌, ◌≤◌, List, [], ◌∷◌, ◌++◌, length, take, drop, refl, sym, ap, subst, ◌∙◌, append_assoc, length-append, length-take, length-drop, arith}
use Rattle.std.proofs.lemmas.List.{take_at, drop_at, take-append-drop, drop-drop}
use Rattle.std.specs.Int.{w32, to_be_bytes, from_be_bytes}
use Rattle.dms_history.specs.declared.event.FileCount.{FileCount}
use Rattle.dms_history.specs.declared.event.Row.{Row}
use Rattle.dms_fields.specs.Prefix.{pairs_first}
use Rattle.dms_audrec.specs.Spelling.{pair_bytes, ArePairsSmall, count_file, count_blocks, row_file, row_number}
use Rattle.dms_audrec.specs.Reading.{count_of, row_of, counts_at, rows_at}
use Rattle.dms_fields.specs.PrefixLaws.{IsBytes, IsBytes-take, IsBytes-drop, wide32}

-- the pairs that n times eight bytes spell
pub record Pairs {A : Type 0} (one two : A → ℕ) (n : ℕ) (bytes : List ℕ) (xs : List A) : Type 0 where
  pub spelled : pair_bytes one two xs ≡ bytes
  pub small : ArePairsSmall one two xs
  pub many : length xs ≡ n

module _ {A : Type 0} (make : ℕ → ℕ → A) (one two : A → ℕ) (one-is : (a b : ℕ) → one (make a b) ≡ a) (two-is : (a b : ℕ) → two (make a b) ≡ b) (whole : (x : A) → make (one x) (two x) ≡ x) where
  pairs_take : (n : ℕ) (bytes : List ℕ) → length bytes ≡ 8 * n → IsBytes bytes → Pairs one two n bytes (pairs_first make n bytes)
  pairs_take zero [] len fits = record { spelled = refl; small = tt; many = refl }
  pairs_take zero (b ∷ bs) len fits = absurd (omega arith)
  pairs_take (suc n) bytes len fits =
      let p = take 4 bytes in
      let behind = drop 4 bytes in
      let q = take 4 behind in
      let rest : Pairs one two n (drop 8 bytes) (pairs_first make n (drop 8 bytes)) = pairs_take n (drop 8 bytes) (omega (arith, length-drop 8 bytes)) (IsBytes-drop 8 bytes fits) in
      let p-len : length p ≡ 4 = omega (arith, length-take 4 bytes) in
      let q-len : length q ≡ 4 = omega (arith, length-take 4 behind, length-drop 4 bytes) in
      let p-fits = IsBytes-take 4 bytes fits in
      let q-fits = IsBytes-take 4 behind (IsBytes-drop 4 bytes fits) in
      let p-is : to_be_bytes w32 (one (make (from_be_bytes w32 p) (from_be_bytes w32 q))) ≡ p = ap (to_be_bytes w32) (one-is _ _) ∙ wide32.back p p-len p-fits in
      let q-is : to_be_bytes w32 (two (make (from_be_bytes w32 p) (from_be_bytes w32 q))) ≡ q = ap (to_be_bytes w32) (two-is _ _) ∙ wide32.back q q-len q-fits in
      let r-is : pair_bytes one two (pairs_first make n (drop 8 bytes)) ≡ drop 4 behind = rest.spelled ∙ sym (drop-drop 4 4 bytes) in
      record {
        spelled = (λ i. p-is i ++ (q-is i ++ r-is i)) ∙ ap (λ (l : List ℕ). p ++ l) (take-append-drop 4 behind) ∙ take-append-drop 4 bytes;
        small = (subst (λ k. k < 2 ^ 32) (sym (one-is _ _)) (wide32.below p p-fits), subst (λ k. k < 2 ^ 32) (sym (two-is _ _)) (wide32.below q q-fits), rest.small);
        many = ap suc rest.many;
      }

  pairs_length : (xs : List A) → length (pair_bytes one two xs) ≡ 8 * length xs
  pairs_length [] = refl
  pairs_length (x ∷ xs) =
      omega (arith, length-append (to_be_bytes w32 (one x)) (to_be_bytes w32 (two x) ++ pair_bytes one two xs), length-append (to_be_bytes w32 (two x)) (pair_bytes one two xs), wide32.len (one x), wide32.len (two x), pairs_length xs)

  pairs_again : (xs : List A) → ArePairsSmall one two xs → pairs_first make (length xs) (pair_bytes one two xs) ≡ xs
  pairs_again [] small = refl
  pairs_again (x ∷ xs) small =
      let p = to_be_bytes w32 (one x) in
      let q = to_be_bytes w32 (two x) in
      let r = pair_bytes one two xs in
      let first : take 4 (p ++ (q ++ r)) ≡ p = take_at p (q ++ r) 4 (wide32.len (one x)) in
      let behind : drop 4 (p ++ (q ++ r)) ≡ q ++ r = drop_at p (q ++ r) 4 (wide32.len (one x)) in
      let second : take 4 (drop 4 (p ++ (q ++ r))) ≡ q = ap (λ (l : List ℕ). take 4 l) behind ∙ take_at q r 4 (wide32.len (two x)) in
      let after : drop 8 (p ++ (q ++ r)) ≡ r = sym (drop-drop 4 4 (p ++ (q ++ r))) ∙ ap (λ (l : List ℕ). drop 4 l) behind ∙ drop_at q r 4 (wide32.len (two x)) in
      let a : from_be_bytes w32 (take 4 (p ++ (q ++ r))) ≡ one x = ap (from_be_bytes w32) first ∙ wide32.again (one x) small.0 in
      let b : from_be_bytes w32 (take 4 (drop 4 (p ++ (q ++ r)))) ≡ two x = ap (from_be_bytes w32) second ∙ wide32.again (two x) small.1 in
      let here : make (from_be_bytes w32 (take 4 (p ++ (q ++ r)))) (from_be_bytes w32 (take 4 (drop 4 (p ++ (q ++ r))))) ≡ x = (λ i. make (a i) (b i)) ∙ whole x in
      let rest : pairs_first make (length xs) (drop 8 (p ++ (q ++ r))) ≡ xs = ap (λ (l : List ℕ). pairs_first make (length xs) l) after ∙ pairs_again xs small.2 in
      λ i. here i ∷ rest i

  pairs_many : (n : ℕ) (bytes : List ℕ) → length (pairs_first make n bytes) ≡ n
  pairs_many zero bytes = refl
  pairs_many (suc n) bytes = ap suc (pairs_many n (drop 8 bytes))

  -- n pairs are spelled by the bytes that they were read from, and what follows these is left
  pairs_whole : (n : ℕ) (bytes : List ℕ) → 8 * n ≤ length bytes → IsBytes bytes → pair_bytes one two (pairs_first make n bytes) ++ drop (8 * n) bytes ≡ bytes
  pairs_whole zero bytes long fits = refl
  pairs_whole (suc n) bytes long fits =
      let p = take 4 bytes in
      let behind = drop 4 bytes in
      let q = take 4 behind in
      let r = pair_bytes one two (pairs_first make n (drop 8 bytes)) in
      let rest : r ++ drop (8 * n) (drop 8 bytes) ≡ drop 8 bytes = pairs_whole n (drop 8 bytes) (omega (arith, length-drop 8 bytes)) (IsBytes-drop 8 bytes fits) in
      let after : drop (8 * suc n) bytes ≡ drop (8 * n) (drop 8 bytes) = (let e : 8 * suc n ≡ 8 + 8 * n = omega arith in ap (λ k. drop k bytes) e) ∙ sym (drop-drop (8 * n) 8 bytes) in
      let p-len : length p ≡ 4 = omega (arith, length-take 4 bytes) in
      let q-len : length q ≡ 4 = omega (arith, length-take 4 behind, length-drop 4 bytes) in
      let p-is : to_be_bytes w32 (one (make (from_be_bytes w32 p) (from_be_bytes w32 q))) ≡ p = ap (to_be_bytes w32) (one-is _ _) ∙ wide32.back p p-len (IsBytes-take 4 bytes fits) in
      let q-is : to_be_bytes w32 (two (make (from_be_bytes w32 p) (from_be_bytes w32 q))) ≡ q = ap (to_be_bytes w32) (two-is _ _) ∙ wide32.back q q-len (IsBytes-take 4 behind (IsBytes-drop 4 bytes fits)) in
      let r-is : drop 8 bytes ≡ drop 4 behind = sym (drop-drop 4 4 bytes) in
      (λ i. (p-is i ++ (q-is i ++ r)) ++ after i)
      ∙ append_assoc p (q ++ r) (drop (8 * n) (drop 8 bytes))
      ∙ ap (λ (l : List ℕ). p ++ l) (append_assoc q r (drop (8 * n) (drop 8 bytes)) ∙ ap (λ (l : List ℕ). q ++ l) (rest ∙ r-is) ∙ take-append-drop 4 behind)
      ∙ take-append-drop 4 bytes

  pairs_spelled : (n : ℕ) (bytes : List ℕ) → 8 * n ≤ length bytes → IsBytes bytes → take (8 * n) bytes ≡ pair_bytes one two (pairs_first make n bytes)
  pairs_spelled n bytes long fits =
      let xs = pairs_first make n bytes in
      ap (λ (l : List ℕ). take (8 * n) l) (sym (pairs_whole n bytes long fits)) ∙ take_at (pair_bytes one two xs) (drop (8 * n) bytes) (8 * n) (omega (arith, pairs_length xs, pairs_many n bytes))

pub counts_take : (n : ℕ) (bytes : List ℕ) → length bytes ≡ 8 * n → IsBytes bytes → Pairs count_file count_blocks n bytes (counts_at n bytes)
unfolding counts_at
counts_take n bytes len fits = pairs_take count_of count_file count_blocks (λ a b. refl) (λ a b. refl) (λ x. refl) n bytes len fits

pub counts_length : (xs : List FileCount) → length (pair_bytes count_file count_blocks xs) ≡ 8 * length xs
counts_length xs = pairs_length count_of count_file count_blocks (λ a b. refl) (λ a b. refl) (λ x. refl) xs

pub counts_again : (xs : List FileCount) → ArePairsSmall count_file count_blocks xs → counts_at (length xs) (pair_bytes count_file count_blocks xs) ≡ xs
unfolding counts_at
counts_again xs small = pairs_again count_of count_file count_blocks (λ a b. refl) (λ a b. refl) (λ x. refl) xs small

pub rows_take : (n : ℕ) (bytes : List ℕ) → length bytes ≡ 8 * n → IsBytes bytes → Pairs row_file row_number n bytes (rows_at n bytes)
unfolding rows_at
rows_take n bytes len fits = pairs_take row_of row_file row_number (λ a b. refl) (λ a b. refl) (λ x. refl) n bytes len fits

pub rows_length : (xs : List Row) → length (pair_bytes row_file row_number xs) ≡ 8 * length xs
rows_length xs = pairs_length row_of row_file row_number (λ a b. refl) (λ a b. refl) (λ x. refl) xs

pub rows_again : (xs : List Row) → ArePairsSmall row_file row_number xs → rows_at (length xs) (pair_bytes row_file row_number xs) ≡ xs
unfolding rows_at
rows_again xs small = pairs_again row_of row_file row_number (λ a b. refl) (λ a b. refl) (λ x. refl) xs small

pub counts_spelled : (n : ℕ) (bytes : List ℕ) → 8 * n ≤ length bytes → IsBytes bytes → take (8 * n) bytes ≡ pair_bytes count_file count_blocks (counts_at n bytes)
unfolding counts_at
counts_spelled n bytes long fits = pairs_spelled count_of count_file count_blocks (λ a b. refl) (λ a b. refl) (λ x. refl) n bytes long fits

pub counts_many : (n : ℕ) (bytes : List ℕ) → length (counts_at n bytes) ≡ n
unfolding counts_at
counts_many n bytes = pairs_many count_of count_file count_blocks (λ a b. refl) (λ a b. refl) (λ x. refl) n bytes

pub rows_spelled : (n : ℕ) (bytes : List ℕ) → 8 * n ≤ length bytes → IsBytes bytes → take (8 * n) bytes ≡ pair_bytes row_file row_number (rows_at n bytes)
unfolding rows_at
rows_spelled n bytes long fits = pairs_spelled row_of row_file row_number (λ a b. refl) (λ a b. refl) (λ x. refl) n bytes long fits
