-- A block of entries is judged in place: where its first byte says so and zeros follow its entries, it is their spelling.
use Rattle.std.proofs.Common.{◌≡◌, ℕ, zero, suc, ◌+◌, ◌-◌, ◌*◌, ◌≤◌, List, [], ◌∷◌, ◌++◌, Bool, true, false, refl, sym, ap, ◌∙◌, length, get_or, take, drop, replicate, length-append, append_assoc, arith}
use Rattle.std.specs.Prelude.{◌&&◌, ◌==◌}
use Rattle.std.specs.Int.{w16, w32, from_be_bytes, to_be_bytes}
use Rattle.std.specs.Str.{bytes_eq}
use Rattle.std.proofs.Math.Nat as nat
use Rattle.std.proofs.Math.Seq.{take-add}
use Rattle.std.proofs.lemmas.Bool.{and_from, and_parts}
use Rattle.std.proofs.lemmas.Bool.Decides.{nat_tests}
use Rattle.std.proofs.lemmas.List.{drop-drop, drop-replicate, drop_at, length-drop, length-take-le, take-append-drop}
use Rattle.std.proofs.lemmas.Slice.Eq.{bytes_eq-Decides}
use Rattle.dms_fields.specs.PrefixLaws.{IsBytes, IsBytes-drop, IsBytes-take, wide16, wide32}
use Rattle.dms_chain.specs.ListBlocks.{entry_chunks, fill_block, flat, leaf_bytes}
use Rattle.dms_chain.specs.SpellLaws.{cut_length}

-- the first byte is that of a block of entries, and from a place on there are zeros alone
abbrev pub is_laid_to : ℕ → List ℕ → Bool
is_laid_to end b = (get_or b 0 0 == 1) && bytes_eq (drop end b) (drop end (replicate 1024 0))

cut_flat : (width k : ℕ) (bytes : List ℕ) → flat (entry_chunks width k bytes) ≡ take (k * width) bytes
cut_flat width zero bytes = ap (λ n. take n bytes) (let e : 0 ≡ 0 * width = grind arith in e)
cut_flat width (suc k) bytes =
    ap (λ (l : List ℕ). take width bytes ++ l) (cut_flat width k (drop width bytes))
    ∙ sym (take-add width (k * width) bytes)
    ∙ ap (λ n. take n bytes) (sym (nat.suc-mul k width ∙ nat.add_comm (k * width) width))

first_is : (b : List ℕ) → 1 ≤ length b → take 1 b ≡ get_or b 0 0 ∷ []
first_is [] long = absurd (omega arith)
first_is (x ∷ b) long = refl

-- the bytes before the zeros
abbrev said : ℕ → ℕ → List (List ℕ) → List ℕ
said count next es = 1 ∷ (to_be_bytes w16 count ++ (to_be_bytes w32 next ++ flat es))

module _ (width count next : ℕ) (b : List ℕ) (long : length b ≡ 1024) (fits : IsBytes b) (room : count * width ≤ 1017)
    (count_is : count ≡ from_be_bytes w16 (take 2 (drop 1 b))) (next_is : next ≡ from_be_bytes w32 (take 4 (drop 3 b))) where
  abbrev entries : List (List ℕ)
  entries = entry_chunks width count (drop 7 b)

  abbrev size : ℕ
  size = count * width

  -- the bytes between the first one and the zeros
  abbrev middle : List ℕ
  middle = take 2 (drop 1 b) ++ (take 4 (drop 3 b) ++ take size (drop 7 b))

  parts : b ≡ get_or b 0 0 ∷ (middle ++ drop (7 + size) b)
  parts =
      let rest = drop (7 + size) b in
      let fourth : drop 7 b ≡ take size (drop 7 b) ++ rest = sym (take-append-drop size (drop 7 b)) ∙ ap (λ (l : List ℕ). take size (drop 7 b) ++ l) (drop-drop size 7 b) in
      let third : drop 3 b ≡ take 4 (drop 3 b) ++ drop 7 b = sym (take-append-drop 4 (drop 3 b)) ∙ ap (λ (l : List ℕ). take 4 (drop 3 b) ++ l) (drop-drop 4 3 b) in
      let second : drop 1 b ≡ take 2 (drop 1 b) ++ drop 3 b = sym (take-append-drop 2 (drop 1 b)) ∙ ap (λ (l : List ℕ). take 2 (drop 1 b) ++ l) (drop-drop 2 1 b) in
      sym (take-append-drop 1 b)
      ∙ ap (λ (l : List ℕ). l ++ drop 1 b) (first_is b (omega (arith, long)))
      ∙ ap (λ (l : List ℕ). get_or b 0 0 ∷ l)
      (second
      ∙ ap (λ (l : List ℕ). take 2 (drop 1 b) ++ l)
      (third ∙ ap (λ (l : List ℕ). take 4 (drop 3 b) ++ l) fourth ∙ sym (append_assoc (take 4 (drop 3 b)) (take size (drop 7 b)) rest))
      ∙ sym (append_assoc (take 2 (drop 1 b)) (take 4 (drop 3 b) ++ take size (drop 7 b)) rest))

  abbrev zeros : List ℕ
  zeros = drop (7 + size) (replicate 1024 0)

  two_long : length (take 2 (drop 1 b)) ≡ 2
  two_long = length-take-le 2 (drop 1 b) (omega (arith, length-drop 1 b, long))

  four_long : length (take 4 (drop 3 b)) ≡ 4
  four_long = length-take-le 4 (drop 3 b) (omega (arith, length-drop 3 b, long))

  middle_long : length middle ≡ 6 + size
  middle_long =
      let inner = length-append (take 4 (drop 3 b)) (take size (drop 7 b)) in
      let outer = length-append (take 2 (drop 1 b)) (take 4 (drop 3 b) ++ take size (drop 7 b)) in
      omega (arith, inner, outer, two_long, four_long, length-take-le size (drop 7 b) (omega (arith, room, length-drop 7 b, long)))

  said_is : said (length entries) next entries ≡ 1 ∷ middle
  said_is =
      let number : to_be_bytes w16 (length entries) ≡ take 2 (drop 1 b) = ap (to_be_bytes w16) (cut_length width count (drop 7 b) ∙ count_is) ∙ wide16.back (take 2 (drop 1 b)) two_long (IsBytes-take 2 (drop 1 b) (IsBytes-drop 1 b fits)) in
      let behind : to_be_bytes w32 next ≡ take 4 (drop 3 b) = ap (to_be_bytes w32) next_is ∙ wide32.back (take 4 (drop 3 b)) four_long (IsBytes-take 4 (drop 3 b) (IsBytes-drop 3 b fits)) in
      λ i. 1 ∷ (number i ++ (behind i ++ cut_flat width count (drop 7 b) i))

  filled : (bytes : List ℕ) → length bytes ≡ 7 + size → fill_block bytes ≡ bytes ++ zeros
  unfolding fill_block
  filled bytes is = ap (λ n. bytes ++ replicate (1024 - n) 0) is ∙ ap (λ (l : List ℕ). bytes ++ l) (sym (drop-replicate {X = ℕ} (7 + size) 1024 0))

  spelled : leaf_bytes next entries ≡ 1 ∷ (middle ++ zeros)
  unfolding leaf_bytes
  spelled = ap fill_block said_is ∙ filled (1 ∷ middle) (omega (arith, middle_long))

  same_from : is_laid_to (7 + size) b ≡ true → bytes_eq b (leaf_bytes next entries) ≡ true
  same_from h =
      let both = and_parts (get_or b 0 0 == 1) (bytes_eq (drop (7 + size) b) zeros) h in
      let one : get_or b 0 0 ≡ 1 = grind (arith, nat_tests, both.0) in
      let rest : drop (7 + size) b ≡ zeros = (bytes_eq-Decides (drop (7 + size) b) zeros).0 both.1 in
      (bytes_eq-Decides b (leaf_bytes next entries)).1 (parts ∙ (λ i. one i ∷ (middle ++ rest i)) ∙ sym spelled)

  laid_from : bytes_eq b (leaf_bytes next entries) ≡ true → is_laid_to (7 + size) b ≡ true
  laid_from h =
      let same : b ≡ 1 ∷ (middle ++ zeros) = (bytes_eq-Decides b (leaf_bytes next entries)).0 h ∙ spelled in
      let one : get_or b 0 0 ≡ 1 = ap (λ (l : List ℕ). get_or l 0 0) same in
      let rest : drop (7 + size) b ≡ zeros = ap (drop (7 + size)) same ∙ drop_at (1 ∷ middle) zeros (7 + size) (omega (arith, middle_long)) in
      and_from (get_or b 0 0 == 1) (bytes_eq (drop (7 + size) b) zeros) (ap (λ n. n == 1) one) ((bytes_eq-Decides (drop (7 + size) b) zeros).1 rest)

  -- a block is the spelling of the entries that are read from it exactly where it is laid to their end
  pub laid_spells : bytes_eq b (leaf_bytes next (entry_chunks width count (drop 7 b))) ≡ is_laid_to (7 + count * width) b
  laid_spells = both_ways (bytes_eq b (leaf_bytes next entries)) (is_laid_to (7 + size) b) laid_from same_from
    where
      both_ways : (s t : Bool) → (s ≡ true → t ≡ true) → (t ≡ true → s ≡ true) → s ≡ t
      both_ways true t f g = sym (f refl)
      both_ways false true f g = g refl
      both_ways false false f g = refl
