-- The blocks of a file after some of them were written, and how many there are.
use Rattle.std.proofs.Common.{ℕ, ◌+◌, ◌≤◌, ◌<◌, ◌≡◌, ◌≢◌, ◌∙◌, max, List, ap, subst, arith}
use Rattle.std.proofs.lemmas.Bool.Decides.{nat_tests}
use Rattle.dms_block.specs.Content.{Content, put_block, raise_count, with_block}
use Rattle.dms_block.specs.ContentLaws.{in_file, in_others}

module _ (c d : Content) (f : ℕ) where
  pub one_in : (n : ℕ) (x : List ℕ) → d ≡ with_block c f n x → d f ≡ put_block n x (c f)
  one_in n x is = ap (λ (k : Content). k f) is ∙ in_file c f n x

  pub one_off : (n : ℕ) (x : List ℕ) (g : ℕ) → g ≢ f → d ≡ with_block c f n x → d g ≡ c g
  one_off n x g off is = ap (λ (k : Content). k g) is ∙ in_others c f n x g off

  pub two_in : (h : List ℕ) (n : ℕ) (x : List ℕ) → d ≡ with_block (with_block c f 0 h) f n x → d f ≡ put_block n x (put_block 0 h (c f))
  two_in h n x is = ap (λ (k : Content). k f) is ∙ in_file (with_block c f 0 h) f n x ∙ ap (put_block n x) (in_file c f 0 h)

  pub two_off : (h : List ℕ) (n : ℕ) (x : List ℕ) (g : ℕ) → g ≢ f → d ≡ with_block (with_block c f 0 h) f n x → d g ≡ c g
  two_off h n x g off is = ap (λ (k : Content). k g) is ∙ in_others (with_block c f 0 h) f n x g off ∙ in_others c f 0 h g off

  pub three_in : (h : List ℕ) (n : ℕ) (x : List ℕ) (m : ℕ) (y : List ℕ) → d ≡ with_block (with_block (with_block c f 0 h) f n x) f m y → d f ≡ put_block m y (put_block n x (put_block 0 h (c f)))
  three_in h n x m y is =
      ap (λ (k : Content). k f) is ∙ in_file (with_block (with_block c f 0 h) f n x) f m y ∙ ap (put_block m y) (in_file (with_block c f 0 h) f n x ∙ ap (put_block n x) (in_file c f 0 h))

  pub three_off : (h : List ℕ) (n : ℕ) (x : List ℕ) (m : ℕ) (y : List ℕ) (g : ℕ) → g ≢ f → d ≡ with_block (with_block (with_block c f 0 h) f n x) f m y → d g ≡ c g
  three_off h n x m y g off is =
      ap (λ (k : Content). k g) is ∙ in_others (with_block (with_block c f 0 h) f n x) f m y g off ∙ in_others (with_block c f 0 h) f n x g off ∙ in_others c f 0 h g off

-- of all counts of blocks only that of one file rises, by so many at most
pub record GrownBy (most file : ℕ) (a b : ℕ → ℕ) : Type 0 where
  pub others : (g : ℕ) → g ≢ file → b g ≡ a g
  pub kept : a file ≤ b file
  pub more : b file ≤ a file + most

pub grown_more : (less most file : ℕ) (a b : ℕ → ℕ) → less ≤ most → GrownBy less file a b → GrownBy most file a b
grown_more less most file a b le h = record { others = h.others; kept = h.kept; more = omega (arith, h.more, le) }

raised_at : (c : ℕ → ℕ) (f n : ℕ) → raise_count c f n f ≡ max (c f) (n + 1)
raised_at c f n = grind (arith, nat_tests)

raised_off : (c : ℕ → ℕ) (f n g : ℕ) → g ≢ f → raise_count c f n g ≡ c g
raised_off c f n g off = grind (arith, nat_tests)

module _ (c d : ℕ → ℕ) (f : ℕ) where
  pub grown_none : (most : ℕ) → d ≡ c → GrownBy most f c d
  grown_none most is =
      let here : d f ≡ c f = ap (λ (k : ℕ → ℕ). k f) is in
      record { others = λ g off. ap (λ (k : ℕ → ℕ). k g) is; kept = omega (arith, here); more = omega (arith, here) }

  pub one_grown : (most n : ℕ) → n < c f → d ≡ raise_count c f n → GrownBy most f c d
  one_grown most n low is =
      let here : d f ≡ max (c f) (n + 1) = ap (λ (k : ℕ → ℕ). k f) is ∙ raised_at c f n in
      record { others = λ g off. ap (λ (k : ℕ → ℕ). k g) is ∙ raised_off c f n g off; kept = omega (arith, here); more = omega (arith, here, low) }

  pub two_count : (n : ℕ) → d ≡ raise_count (raise_count c f 0) f n → d f ≡ max (max (c f) 1) (n + 1)
  two_count n is = omega (arith, ap (λ (k : ℕ → ℕ). k f) is, raised_at (raise_count c f 0) f n, raised_at c f 0)

  pub two_grown : (n : ℕ) → n ≤ max (c f) 1 → d ≡ raise_count (raise_count c f 0) f n → GrownBy 2 f c d
  two_grown n near is = record {
    others = λ g off. ap (λ (k : ℕ → ℕ). k g) is ∙ raised_off (raise_count c f 0) f n g off ∙ raised_off c f 0 g off;
    kept = omega (arith, two_count n is);
    more = omega (arith, two_count n is, near);
  }

  pub three_count : (n m : ℕ) → m < c f → d ≡ raise_count (raise_count (raise_count c f 0) f n) f m → d f ≡ max (c f) (n + 1)
  three_count n m low is = omega (arith, low, ap (λ (k : ℕ → ℕ). k f) is, raised_at (raise_count (raise_count c f 0) f n) f m, raised_at (raise_count c f 0) f n, raised_at c f 0)

  pub three_grown : (n m : ℕ) → n ≤ max (c f) 1 → m < c f → d ≡ raise_count (raise_count (raise_count c f 0) f n) f m → GrownBy 2 f c d
  three_grown n m near low is = record {
    others = λ g off. ap (λ (k : ℕ → ℕ). k g) is ∙ raised_off (raise_count (raise_count c f 0) f n) f m g off ∙ raised_off (raise_count c f 0) f n g off ∙ raised_off c f 0 g off;
    kept = omega (arith, three_count n m low is);
    more = omega (arith, three_count n m low is, near, low);
  }

-- the same after reads, which leave the counts
pub grown_since : (most : ℕ) (a b d : ℕ → ℕ) (f : ℕ) → b ≡ a → GrownBy most f b d → GrownBy most f a d
grown_since most a b d f still h = subst (λ (k : ℕ → ℕ). GrownBy most f k d) still h
