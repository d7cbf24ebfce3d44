-- What a loop over the bytes of a line keeps.
use Rattle.std.proofs.Common.{◌≡◌, ◌≢◌, ◌<◌, ◌≤◌, ◌+◌, ℕ, List, [], ◌∷◌, ◌++◌, Bool, true, false, cond, eqb, nat_lt, Some, None, refl, sym, ap, ◌∙◌, arith, append_assoc, slice_get, drop, take, length, length-append}
use Rattle.std.proofs.lemmas.List.{append-nil, take-append-le, take_all}
use Rattle.std.proofs.lemmas.Bool.Decides.{nat_tests}
use Rattle.std.proofs.lemmas.Option.{same_Some}
use Rattle.dms_feed.specs.Lines.{first_line, after_line}
use Rattle.dms_feed.specs.Raws.{IsTaken, IsUnended, has_end}
use Rattle.std.proofs.lemmas.List.Folds.{list_any-append}

-- cap: so many bytes are kept
module _ (cap : ℕ) where
  -- taken: the bytes of the line so far, none of which ended it
  pub record Reads (kept : List ℕ) (n : ℕ) (rest all : List ℕ) : Type 0 where
    pub taken : List ℕ
    pub front : first_line all ≡ taken ++ first_line rest
    pub after : after_line all ≡ after_line rest
    pub whole : all ≡ taken ++ rest
    pub keeps : kept ≡ take cap taken
    pub count : length taken ≡ n
    pub unended : IsUnended taken

  pub Reads-start : (all : List ℕ) → Reads [] 0 all all
  Reads-start all = record { taken = []; front = refl; after = refl; whole = refl; keeps = sym (take_all cap [] (omega arith)); count = refl; unended = refl }

  -- a byte at the front
  pub split_front : (rest : List ℕ) (b : ℕ) → Some b ≡ slice_get rest 0 → rest ≡ b ∷ drop 1 rest
  split_front [] b h = absurd (cc)
  split_front (x ∷ xs) b h = ap (λ (y : ℕ). y ∷ xs) (sym (same_Some b x h))

  pub no_front : (rest : List ℕ) → None ≡ slice_get rest 0 → rest ≡ []
  no_front [] h = refl
  no_front (x ∷ xs) h = absurd (cc)

  -- the first bytes with one more
  kept_on : (t : Bool) (kept taken : List ℕ) (b : ℕ) → t ≡ nat_lt (length taken) cap → kept ≡ take cap taken → cond t (kept ++ b ∷ []) kept ≡ take cap (taken ++ b ∷ [])
  kept_on true kept taken b low is =
      let small : length taken < cap = grind (arith, nat_tests) in
      let all : take cap taken ≡ taken = take_all cap taken (omega arith) in
      let len : length (taken ++ b ∷ []) ≤ cap = omega (arith, length-append taken (b ∷ [])) in
      ap (λ (k : List ℕ). k ++ b ∷ []) (is ∙ all) ∙ sym (take_all cap (taken ++ b ∷ []) len)
  kept_on false kept taken b high is =
      let large : cap ≤ length taken = grind (arith, nat_tests) in
      is ∙ sym (take-append-le cap taken (b ∷ []) large)

  first_of : (b : ℕ) (rest : List ℕ) → b ≢ 10 → (first_line (b ∷ rest) ≡ b ∷ first_line rest) × (after_line (b ∷ rest) ≡ after_line rest)
  first_of b rest other = let e : eqb b 10 ≡ false = grind (arith, nat_tests) in (rw e refl, rw e refl)

  still_unended : (taken : List ℕ) (b : ℕ) → b ≢ 10 → IsUnended taken → IsUnended (taken ++ b ∷ [])
  still_unended taken b other so_far =
      let e : eqb b 10 ≡ false = grind (arith, nat_tests) in
      list_any-append (λ (x : ℕ). eqb x 10) taken (b ∷ []) ∙ rw (so_far, e) refl

  -- one more byte of the line
  pub Reads-byte : (kept : List ℕ) (n b : ℕ) (rest all : List ℕ) → Some b ≡ slice_get rest 0 → b ≢ 10 → Reads kept n rest all → Reads (cond (nat_lt n cap) (kept ++ b ∷ []) kept) (n + 1) (drop 1 rest) all
  Reads-byte kept n b rest all is other r =
      let at : rest ≡ b ∷ drop 1 rest = split_front rest b is in
      let f = first_of b (drop 1 rest) other in
      record {
        taken = r.taken ++ b ∷ [];
        front = r.front ∙ ap (λ (l : List ℕ). r.taken ++ first_line l) at ∙ ap (λ (l : List ℕ). r.taken ++ l) f.0 ∙ sym (append_assoc r.taken (b ∷ []) (first_line (drop 1 rest)));
        after = r.after ∙ ap after_line at ∙ f.1;
        whole = r.whole ∙ ap (λ (l : List ℕ). r.taken ++ l) at ∙ sym (append_assoc r.taken (b ∷ []) (drop 1 rest));
        keeps = kept_on (nat_lt n cap) kept r.taken b (ap (λ (k : ℕ). nat_lt k cap) (sym r.count)) r.keeps;
        count = omega (arith, length-append r.taken (b ∷ []), r.count);
        unended = still_unended r.taken b other r.unended;
      }

  not_empty : (xs ys : List ℕ) (b : ℕ) → xs ++ b ∷ ys ≢ []
  not_empty [] ys b h = cc
  not_empty (x ∷ xs) ys b h = cc

  -- the line feed that ends it
  pub Reads-feed : (kept : List ℕ) (n : ℕ) (rest all : List ℕ) → Some 10 ≡ slice_get rest 0 → Reads kept n rest all
      → (all ≢ []) × (cond (nat_lt n cap) (kept ++ 10 ∷ []) kept ≡ take cap (first_line all)) × (n + 1 ≡ length (first_line all)) × (true ≡ has_end (first_line all)) × (drop 1 rest ≡ after_line all)
  Reads-feed kept n rest all is r =
      let at : rest ≡ 10 ∷ drop 1 rest = split_front rest 10 is in
      let front : first_line all ≡ r.taken ++ 10 ∷ [] = r.front ∙ ap (λ (l : List ℕ). r.taken ++ first_line l) at in
      let whole : all ≡ r.taken ++ 10 ∷ drop 1 rest = r.whole ∙ ap (λ (l : List ℕ). r.taken ++ l) at in (
        λ none. not_empty r.taken (drop 1 rest) 10 (sym whole ∙ none),
        kept_on (nat_lt n cap) kept r.taken 10 (ap (λ (k : ℕ). nat_lt k cap) (sym r.count)) r.keeps ∙ ap (take cap) (sym front),
        omega (arith, length-append r.taken (10 ∷ []), r.count, ap length front),
        sym (ap has_end front ∙ list_any-append (λ (x : ℕ). eqb x 10) r.taken (10 ∷ []) ∙ rw r.unended refl),
        sym (r.after ∙ ap after_line at),
      )

  -- a byte stands behind those taken
  pub Reads-over : (kept : List ℕ) (n b : ℕ) (rest all : List ℕ) → Some b ≡ slice_get rest 0 → Reads kept n rest all → n < length (first_line all)
  Reads-over kept n b rest all is r =
      let at : rest ≡ b ∷ drop 1 rest = split_front rest b is in
      omega (arith, r.count, length-append r.taken (first_line rest), ap length r.front, some_line b (drop 1 rest), ap (λ (l : List ℕ). length (first_line l)) at)
    where
      some_test : (t : Bool) (b : ℕ) (bs : List ℕ) → 0 < length (cond t (b ∷ []) (b ∷ first_line bs))
      some_test true b bs = omega arith
      some_test false b bs = omega arith

      some_line : (b : ℕ) (bs : List ℕ) → 0 < length (first_line (b ∷ bs))
      some_line b bs = some_test (eqb b 10) b bs

  ended : (t : Bool) (kept : List ℕ) (n room : ℕ) (all : List ℕ) → t ≡ eqb n 0 → all ≡ first_line all → kept ≡ take cap (first_line all) → n ≡ length (first_line all) → n ≤ room → false ≡ has_end (first_line all)
      → IsTaken cap (cond t None (Some (record { kept = kept; length = n; ended = false }))) room all
  ended true kept n room all is whole keeps count small unended =
      let none : n ≡ 0 = grind (arith, nat_tests) in
      empty_of all (omega (arith, ap length whole, count, none))
    where
      empty_of : (l : List ℕ) → length l ≡ 0 → l ≡ []
      empty_of [] h = refl
      empty_of (x ∷ xs) h = absurd (omega (arith, h))
  ended false kept n room all is whole keeps count small unended =
      let some : n ≢ 0 = grind (arith, nat_tests) in
      (λ none. some (count ∙ ap (λ (l : List ℕ). length (first_line l)) none), keeps, count, small, unended)

  -- the input's end
  pub Reads-end : (kept : List ℕ) (n room : ℕ) (rest all : List ℕ) → None ≡ slice_get rest 0 → n ≤ room → Reads kept n rest all
      → IsTaken cap (cond (eqb n 0) None (Some (record { kept = kept; length = n; ended = false }))) room all × (drop 1 rest ≡ after_line all)
  Reads-end kept n room rest all none small r =
      let is : rest ≡ [] = no_front rest none in
      let front : first_line all ≡ r.taken = r.front ∙ ap (λ (l : List ℕ). r.taken ++ first_line l) is ∙ append-nil r.taken in
      let whole : all ≡ r.taken = r.whole ∙ ap (λ (l : List ℕ). r.taken ++ l) is ∙ append-nil r.taken in (
        ended (eqb n 0) kept n room all refl (whole ∙ sym front) (r.keeps ∙ ap (take cap) (sym front)) (sym r.count ∙ ap length (sym front)) small (sym (ap has_end front ∙ r.unended)),
        ap (drop 1) is ∙ sym (r.after ∙ ap after_line is),
      )
