-- A description in parts, and the list of a control point.
use Rattle.std.proofs.Common.{ℕ, zero, suc, ◌+◌, ◌*◌, ◌/◌, ◌^◌, ◌<◌, ◌≤◌, ◌≡◌, lit<, length-append, Bool, true, List, [], ◌∷◌, ◌++◌, length, take, drop, refl, sym, ◌∙◌, ap, arith, append-nil, append_assoc}
use Rattle.std.proofs.lemmas.List.{drop-drop}
use Rattle.std.specs.Int.{w16, w32, w64, to_be_bytes}
use Rattle.std.specs.Prelude.{nat_le, ◌&&◌}
use Rattle.std.proofs.lemmas.Bool.Decides.{nat_tests}
use Rattle.dms_fields.specs.PrefixLaws.{wide16, wide64}
use Rattle.dms_audrec.specs.PairLaws.{counts_length, counts_again, counts_many}
use Rattle.dms_audrec.specs.Reading.{counts_at}
use Rattle.dms_history.specs.declared.event.FileCount.{FileCount}
use Rattle.dms_history.specs.Entries.{Entry, schema_part, control_point}
use Rattle.dms_history.specs.Schemas.{parts_of_schema, schema_entries}
use Rattle.dms_audrec.specs.Spelling.{spelling, pair_bytes, count_file, count_blocks, counts_rise, ArePairsSmall, IsControl}
use Rattle.dms_audrec.specs.Bodies.{bodies_of, part_count, bodies}
use Rattle.dms_creation.specs.FirstEntries.{zero_counts}
use Rattle.dms_creation.specs.Laid.{parts_upto}

bodies_length : (n : ℕ) (bytes : List ℕ) → length (bodies_of n bytes) ≡ n
bodies_length zero bytes = refl
bodies_length (suc n) bytes = ap suc (bodies_length n (drop 4000 bytes))

bodies_more : (n : ℕ) (bytes : List ℕ) → bodies_of (suc n) bytes ≡ bodies_of n bytes ++ take 4000 (drop (4000 * n) bytes) ∷ []
bodies_more zero bytes = refl
bodies_more (suc n) bytes =
    let at : 4000 + 4000 * n ≡ 4000 * suc n = omega arith in
    ap (λ (l : List (List ℕ)). take 4000 bytes ∷ l) (bodies_more n (drop 4000 bytes))
    ∙ ap (λ (l : List ℕ). take 4000 bytes ∷ (bodies_of n (drop 4000 bytes) ++ take 4000 l ∷ [])) (drop-drop (4000 * n) 4000 bytes ∙ ap (λ k. drop k bytes) at)

parts_more : (k all : ℕ) (bs : List (List ℕ)) (b : List ℕ) → parts_of_schema k all (bs ++ b ∷ []) ≡ parts_of_schema k all bs ++ schema_part (k + length bs) all b ∷ []
parts_more k all [] b = let e : k ≡ k + 0 = omega arith in ap (λ j. schema_part j all b ∷ []) e
parts_more k all (c ∷ bs) b =
    let e : k + 1 + length bs ≡ k + suc (length bs) = omega arith in
    ap (λ (l : List Entry). schema_part k all c ∷ l) (parts_more (k + 1) all bs b ∙ ap (λ j. parts_of_schema (k + 1) all bs ++ schema_part j all b ∷ []) e)

parts_are : (all n : ℕ) (bytes : List ℕ) → parts_upto all n bytes ≡ parts_of_schema 1 all (bodies_of n bytes)
parts_are all zero bytes = refl
parts_are all (suc n) bytes =
    let e : n + 1 ≡ 1 + length (bodies_of n bytes) = omega (arith, bodies_length n bytes) in
    let b = take 4000 (drop (4000 * n) bytes) in
    ap (λ (l : List Entry). l ++ schema_part (n + 1) all b ∷ []) (parts_are all n bytes)
    ∙ ap (λ j. parts_of_schema 1 all (bodies_of n bytes) ++ schema_part j all b ∷ []) e
    ∙ sym (parts_more 1 all (bodies_of n bytes) b)
    ∙ ap (parts_of_schema 1 all) (sym (bodies_more n bytes))

pub all_parts : (count : ℕ) (bytes : List ℕ) → count ≡ part_count (length bytes) → parts_upto count count bytes ≡ schema_entries (bodies bytes)
unfolding bodies
all_parts count bytes is =
    let n = part_count (length bytes) in
    (λ i. parts_upto (is i) (is i) bytes) ∙ parts_are n n bytes ∙ ap (λ k. parts_of_schema 1 k (bodies_of n bytes)) (sym (bodies_length n bytes))

pub next_part : (all n : ℕ) (bytes part : List ℕ) → part ≡ take 4000 (drop (4000 * n) bytes) → parts_upto all n bytes ++ schema_part (n + 1) all part ∷ [] ≡ parts_upto all (n + 1) bytes
next_part all n bytes part is =
    let e : suc n ≡ n + 1 = omega arith in
    ap (λ (l : List ℕ). parts_upto all n bytes ++ schema_part (n + 1) all l ∷ []) is ∙ ap (λ k. parts_upto all k bytes) e

-- ---- the list of a control point

zero_more : (n k : ℕ) → zero_counts (suc n) k ≡ zero_counts n k ++ (record { file = 30000 + (k + n); blocks = 0 }) ∷ []
zero_more zero k = let e : 30000 + k ≡ 30000 + (k + 0) = omega arith in ap (λ f. (let c : FileCount = record { file = f; blocks = 0 } in c) ∷ []) e
zero_more (suc n) k =
    let e : 30000 + (k + 1 + n) ≡ 30000 + (k + suc n) = omega arith in
    let first : FileCount = record { file = 30000 + k; blocks = 0 } in
    ap (λ (l : List FileCount). first ∷ l) (zero_more n (k + 1) ∙ ap (λ f. zero_counts n (k + 1) ++ (let c : FileCount = record { file = f; blocks = 0 } in c) ∷ []) e)

pairs_more : (xs : List FileCount) (x : FileCount) → pair_bytes count_file count_blocks (xs ++ x ∷ []) ≡ pair_bytes count_file count_blocks xs ++ (to_be_bytes w32 x.file ++ to_be_bytes w32 x.blocks)
pairs_more [] x = ap (λ (l : List ℕ). to_be_bytes w32 x.file ++ l) (append-nil (to_be_bytes w32 x.blocks))
pairs_more (y ∷ ys) x =
    let a = to_be_bytes w32 y.file in
    let b = to_be_bytes w32 y.blocks in
    let r = pair_bytes count_file count_blocks ys in
    let z = to_be_bytes w32 x.file ++ to_be_bytes w32 x.blocks in
    ap (λ (l : List ℕ). a ++ (b ++ l)) (pairs_more ys x) ∙ ap (λ (l : List ℕ). a ++ l) (sym (append_assoc b r z)) ∙ sym (append_assoc a (b ++ r) z)

pub counts_more : (n file : ℕ) (old mid new : List ℕ) → old ≡ pair_bytes count_file count_blocks (zero_counts n 1) → file ≡ 30001 + n → mid ≡ old ++ to_be_bytes w32 file → new ≡ mid ++ (0 ∷ 0 ∷ 0 ∷ 0 ∷ []) → new ≡ pair_bytes count_file count_blocks (zero_counts (n + 1) 1)
counts_more n file old mid new is at one two =
    let e : suc n ≡ n + 1 = omega arith in
    let f : file ≡ 30000 + (1 + n) = omega (arith, at) in
    let nil : 0 ∷ 0 ∷ 0 ∷ 0 ∷ [] ≡ to_be_bytes w32 0 = refl in
    two ∙ (λ i. one i ++ nil i) ∙ append_assoc old (to_be_bytes w32 file) (to_be_bytes w32 0)
    ∙ (λ i. is i ++ (to_be_bytes w32 (f i) ++ to_be_bytes w32 0))
    ∙ sym (pairs_more (zero_counts n 1) (record { file = 30000 + (1 + n); blocks = 0 }))
    ∙ ap (pair_bytes count_file count_blocks) (sym (zero_more n 1))
    ∙ ap (λ k. pair_bytes count_file count_blocks (zero_counts k 1)) e

zero_length : (n k : ℕ) → length (zero_counts n k) ≡ n
zero_length zero k = refl
zero_length (suc n) k = ap suc (zero_length n (k + 1))

small_zero : (n k : ℕ) → k + n ≤ 201 → ArePairsSmall count_file count_blocks (zero_counts n k)
small_zero zero k few = tt
small_zero (suc n) k few =
    let wide : 30000 + k < 2 ^ 32 = omega (arith, few) in
    let none : 0 < 2 ^ 32 = lit< tt in
    (wide, none, small_zero n (k + 1) (omega (arith, few)))

le_true : (a b : ℕ) → a ≤ b → nat_le a b ≡ true
le_true a b le = grind (arith, nat_tests)

all_true : (a b c d : Bool) → a ≡ true → b ≡ true → c ≡ true → d ≡ true → (a && (b && (c && d))) ≡ true
all_true a b c d one two three four = (λ i. one i && (two i && (three i && four i)))

rise_zero : (n k low : ℕ) → k + n ≤ 201 → low ≡ 30000 + k → counts_rise low (zero_counts n k) ≡ true
rise_zero zero k low few at = refl
rise_zero (suc n) k low few at = all_true _ _ _ _ (le_true low (30000 + k) (omega (arith, at))) (le_true (30000 + k) 30200 (omega (arith, few))) refl (rise_zero n (k + 1) (30000 + k + 1) (omega (arith, few)) (omega arith))

pub zero_control : (n : ℕ) → n ≤ 200 → IsControl 0 1 (zero_counts n 1)
zero_control n few = record {
  number = lit< tt;
  next_number = lit< tt;
  few = omega (arith, few, zero_length n 1);
  rising = rise_zero n 1 30001 (omega (arith, few)) refl;
  small = small_zero n 1 (omega (arith, few));
}

pub counts_size : (n : ℕ) (counts : List ℕ) → counts ≡ pair_bytes count_file count_blocks (zero_counts n 1) → length counts ≡ 8 * n
counts_size n counts is = ap length is ∙ counts_length (zero_counts n 1) ∙ ap (λ k. 8 * k) (zero_length n 1)

pub counts_read : (n : ℕ) (counts : List ℕ) → n ≤ 200 → counts ≡ pair_bytes count_file count_blocks (zero_counts n 1) → counts_at (length counts / 8) counts ≡ zero_counts n 1
counts_read n counts few is =
    let size = counts_size n counts is in
    let many : length counts / 8 ≡ length (zero_counts n 1) = omega (arith, size, zero_length n 1) in
    (λ i. counts_at (many i) (is i)) ∙ counts_again (zero_counts n 1) (small_zero n 1 (omega (arith, few)))

pub control_size : (counts : List ℕ) → length counts ≤ 1600 → length (spelling (control_point 0 1 (counts_at (length counts / 8) counts))) ≤ 4094
control_size counts few =
    let n = length counts / 8 in
    let cs = counts_at n counts in
    let pairs = pair_bytes count_file count_blocks cs in
    omega (
      arith,
      few,
      length-append (to_be_bytes w64 0) (to_be_bytes w64 1 ++ (to_be_bytes w16 (length cs) ++ pairs)),
      length-append (to_be_bytes w64 1) (to_be_bytes w16 (length cs) ++ pairs),
      length-append (to_be_bytes w16 (length cs)) pairs,
      wide64.len 0,
      wide64.len 1,
      wide16.len (length cs),
      counts_length cs,
      counts_many n counts,
    )
