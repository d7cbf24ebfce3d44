-- One block of a level becomes two, or two become one: what else stays.
use Rattle.std.proofs.Common.{◌≡◌, ℕ, zero, suc, ◌+◌, ◌≤◌, ◌<◌, ◌⊎◌, inl, inr, List, [], ◌∷◌, ◌++◌, refl, sym, ap, subst, ◌∙◌, length, take, drop, length-append, append_assoc, arith}
use Rattle.std.proofs.lemmas.List.{take-append-drop, length-take-le}
use Rattle.std.proofs.Math.Seq.{take-append_seam, drop-append_seam}
use Rattle.dms_chain.specs.Linked.{numbers, times}
use Rattle.dms_chain.specs.LinkedLaws.{numbers_append, numbers_length, numbers_times, times_append}
use Rattle.dms_tree.specs.LaceLaws.{HaveMore, IsUnder, cut_fences, cut_kids, kids_append, kids_total, more_under, seps_length, total}
use Rattle.dms_tree.specs.Levels.{Hangs, Inner, fences, inner_numbers, kids_of, lace, seps_of}
use Rattle.dms_tree.specs.Descent.{lace_length}

-- what holds of each inner block
abbrev pub EachOf : (Inner → Type 0) → List Inner → Type 0
EachOf P [] = Unit {0}
EachOf P (u ∷ us) = P u × EachOf P us

abbrev pub EachIn : (Inner → Type 0) → List (List Inner) → Type 0
EachIn P [] = Unit {0}
EachIn P (u ∷ us) = EachOf P u × EachIn P us

pub each_first : (P : Inner → Type 0) (us vs : List Inner) → EachOf P (us ++ vs) → EachOf P us
each_first P [] vs all = tt
each_first P (u ∷ us) vs all = (all.0, each_first P us vs all.1)

pub each_second : (P : Inner → Type 0) (us vs : List Inner) → EachOf P (us ++ vs) → EachOf P vs
each_second P [] vs all = all
each_second P (u ∷ us) vs all = each_second P us vs all.1

pub each_both : (P : Inner → Type 0) (us vs : List Inner) → EachOf P us → EachOf P vs → EachOf P (us ++ vs)
each_both P [] vs a b = b
each_both P (u ∷ us) vs a b = (a.0, each_both P us vs a.1 b)

pub in_first : (P : Inner → Type 0) (us vs : List (List Inner)) → EachIn P (us ++ vs) → EachIn P us
in_first P [] vs all = tt
in_first P (u ∷ us) vs all = (all.0, in_first P us vs all.1)

pub in_second : (P : Inner → Type 0) (us vs : List (List Inner)) → EachIn P (us ++ vs) → EachIn P vs
in_second P [] vs all = all
in_second P (u ∷ us) vs all = in_second P us vs all.1

pub in_both : (P : Inner → Type 0) (us vs : List (List Inner)) → EachIn P us → EachIn P vs → EachIn P (us ++ vs)
in_both P [] vs a b = b
in_both P (u ∷ us) vs a b = (a.0, in_both P us vs a.1 b)

pub numbers_in : (us vs : List (List Inner)) → inner_numbers (us ++ vs) ≡ inner_numbers us ++ inner_numbers vs
numbers_in [] vs = refl
numbers_in (u ∷ us) vs = ap (λ (l : List ℕ). numbers u ++ l) (numbers_in us vs) ∙ sym (append_assoc (numbers u) (inner_numbers us) (inner_numbers vs))

-- each block has one child more than separators, and these levels hang together
abbrev pub HasMore : Inner → Type 0
HasMore u = length u.1.0 ≡ suc (length u.1.1)

pub have_each : (us : List Inner) → EachOf HasMore us → HaveMore us
have_each [] all = tt
have_each (u ∷ us) all = (all.0, have_each us all.1)

-- levels under others, in the place of those that hang there
pub hangs_swap : (up x y : List (List Inner)) (ns leaves : List ℕ) → ((ms : List ℕ) → Hangs ms x leaves → Hangs ms y leaves) → Hangs ns (up ++ x) leaves → Hangs ns (up ++ y) leaves
hangs_swap [] x y ns leaves swap hangs = swap ns hangs
hangs_swap (u ∷ up) x y ns leaves swap hangs = (hangs.0, hangs_swap up x y (kids_of u) leaves swap hangs.1)

pub even_below : (u : List Inner) (outer : List (List ℕ)) (ns : List ℕ) → EachOf HasMore u → numbers u ≡ ns → length outer + 1 ≡ length ns → length (lace (seps_of u) outer) + 1 ≡ length (kids_of u)
even_below u outer ns more is even =
    lace_length (seps_of u) outer (omega (arith, even, ap (λ (l : List ℕ). length l) is, numbers_length u, seps_length u)) ∙ sym (kids_total u (have_each u more))

pub fences_swap : (up x y : List (List Inner)) (outer : List (List ℕ)) (ns leaves : List ℕ) → ((ms : List ℕ) (o : List (List ℕ)) → Hangs ms x leaves → length o + 1 ≡ length ms → fences o x ≡ fences o y) → EachIn HasMore up → Hangs ns (up ++ x) leaves → length outer + 1 ≡ length ns
    → fences outer (up ++ x) ≡ fences outer (up ++ y)
fences_swap [] x y outer ns leaves swap more hangs even = swap ns outer hangs even
fences_swap (u ∷ up) x y outer ns leaves swap more hangs even = fences_swap up x y (lace (seps_of u) outer) (kids_of u) leaves swap more.1 hangs.1 (even_below u outer ns more.0 hangs.0 even)

-- where a block of a level stands among the children of the level above
same_front : {A : Type 0} (a b c d : List A) → a ++ b ≡ c ++ d → length a ≡ length c → a ≡ c
same_front a b c d is size = sym (take-append_seam a b) ∙ ap (λ n. take n (a ++ b)) size ∙ ap (take (length c)) is ∙ take-append_seam c d

same_back : {A : Type 0} (a b c d : List A) → a ++ b ≡ c ++ d → length a ≡ length c → b ≡ d
same_back a b c d is size = sym (drop-append_seam a b) ∙ ap (λ n. drop n (a ++ b)) size ∙ ap (drop (length c)) is ∙ drop-append_seam c d

rest_of : List ℕ → List ℕ
rest_of [] = []
rest_of (x ∷ xs) = xs

pub under_of : {A : Type 0} (ahead rest : List (ℕ × A)) (c : ℕ) (x : A) (ups downs : List Inner) (n : ℕ) (lefts rights : List ℕ) (seps : List (List ℕ)) → numbers (ahead ++ (c, x) ∷ rest) ≡ kids_of (ups ++ (n, (lefts ++ c ∷ rights, seps)) ∷ downs)
    → length ahead ≡ length (kids_of ups) + length lefts → IsUnder (numbers ahead) (numbers rest) ups lefts rights downs
unfolding rest_of
under_of ahead rest c x ups downs n lefts rights seps is size =
    let whole : numbers ahead ++ c ∷ numbers rest ≡ (kids_of ups ++ lefts) ++ c ∷ (rights ++ kids_of downs) =
    sym (numbers_append ahead ((c, x) ∷ rest)) ∙ is ∙ kids_append ups ((n, (lefts ++ c ∷ rights, seps)) ∷ downs) ∙ ap (λ (l : List ℕ). kids_of ups ++ l) (append_assoc lefts (c ∷ rights) (kids_of downs)) ∙ sym (append_assoc (kids_of ups) lefts (c ∷ (rights ++ kids_of downs))) in
    let even : length (numbers ahead) ≡ length (kids_of ups ++ lefts) = omega (arith, numbers_length ahead, length-append (kids_of ups) lefts, size) in
    record {
      left = same_front (numbers ahead) (c ∷ numbers rest) (kids_of ups ++ lefts) (c ∷ (rights ++ kids_of downs)) whole even;
      right = ap rest_of (same_back (numbers ahead) (c ∷ numbers rest) (kids_of ups ++ lefts) (c ∷ (rights ++ kids_of downs)) whole even);
    }

-- Two levels around one block: it is one block, or two.
module _ (ups downs : List Inner) (n : ℕ) (lefts rights : List ℕ) (ss ts : List (List ℕ)) (ahead rest : List Inner) (c f : ℕ) (low high : List ℕ) (a : List (List ℕ)) (s : List ℕ) (b : List (List ℕ)) (lower : List (List Inner)) where
  abbrev pub one_block : List (List Inner)
  one_block = (ups ++ (n, (lefts ++ c ∷ rights, ss ++ ts)) ∷ downs) ∷ (ahead ++ (c, (low ++ high, a ++ s ∷ b)) ∷ rest) ∷ lower

  abbrev pub two_blocks : List (List Inner)
  two_blocks = (ups ++ (n, (lefts ++ c ∷ f ∷ rights, ss ++ s ∷ ts)) ∷ downs) ∷ (ahead ++ (c, (low, a)) ∷ (f, (high, b)) ∷ rest) ∷ lower

  top_same : numbers (ups ++ (n, (lefts ++ c ∷ rights, ss ++ ts)) ∷ downs) ≡ numbers (ups ++ (n, (lefts ++ c ∷ f ∷ rights, ss ++ s ∷ ts)) ∷ downs)
  top_same = numbers_append ups ((n, (lefts ++ c ∷ rights, ss ++ ts)) ∷ downs) ∙ sym (numbers_append ups ((n, (lefts ++ c ∷ f ∷ rights, ss ++ s ∷ ts)) ∷ downs))

  module _ (under : IsUnder (numbers ahead) (numbers rest) ups lefts rights downs) where
    pub hangs_cut : (ms leaves : List ℕ) → Hangs ms one_block leaves → Hangs ms two_blocks leaves
    hangs_cut ms leaves hangs = (
      sym top_same ∙ hangs.0,
      (numbers_append ahead ((c, (low, a)) ∷ (f, (high, b)) ∷ rest) ∙ more_under ups downs n lefts rights (ss ++ s ∷ ts) (numbers ahead) (numbers rest) under (c ∷ f ∷ []), subst (λ l. Hangs l lower leaves) (cut_kids ahead rest c f low high a s b) hangs.1.1),
    )

    pub hangs_join : (ms leaves : List ℕ) → Hangs ms two_blocks leaves → Hangs ms one_block leaves
    hangs_join ms leaves hangs = (
      top_same ∙ hangs.0,
      (numbers_append ahead ((c, (low ++ high, a ++ s ∷ b)) ∷ rest) ∙ more_under ups downs n lefts rights (ss ++ ts) (numbers ahead) (numbers rest) under (c ∷ []), subst (λ l. Hangs l lower leaves) (sym (cut_kids ahead rest c f low high a s b)) hangs.1.1),
    )

    -- the separators between the blocks below are the same
    pub fences_same : EachOf HasMore ups → length lefts ≡ length ss → (o : List (List ℕ)) → length ups ≤ length o → fences o one_block ≡ fences o two_blocks
    fences_same more place o fit =
        let parts = take-append-drop (length ups) o in
        let even : length (take (length ups) o) ≡ length ups = length-take-le (length ups) o fit in
        ap (λ f'. fences f' lower)
        ((λ i. lace (seps_of (ahead ++ (c, (low ++ high, a ++ s ∷ b)) ∷ rest)) (lace (seps_of (ups ++ (n, (lefts ++ c ∷ rights, ss ++ ts)) ∷ downs)) (sym parts i)))
        ∙ cut_fences ups downs n lefts rights ss ts (take (length ups) o) (drop (length ups) o) even (have_each ups more) place ahead rest under c f (low ++ high) low high (lefts ++ c ∷ rights) (lefts ++ c ∷ f ∷ rights) a s b
        ∙ (λ i. lace (seps_of (ahead ++ (c, (low, a)) ∷ (f, (high, b)) ∷ rest)) (lace (seps_of (ups ++ (n, (lefts ++ c ∷ f ∷ rights, ss ++ s ∷ ts)) ∷ downs)) (parts i))))

  -- of the numbers one comes, or goes
  pub cut_times : (k : ℕ) → times k (inner_numbers two_blocks) ≡ times k (f ∷ inner_numbers one_block)
  cut_times k =
      omega (
        arith,
        times_append k (numbers (ups ++ (n, (lefts ++ c ∷ rights, ss ++ ts)) ∷ downs)) (numbers (ahead ++ (c, (low ++ high, a ++ s ∷ b)) ∷ rest) ++ inner_numbers lower),
        times_append k (numbers (ups ++ (n, (lefts ++ c ∷ f ∷ rights, ss ++ s ∷ ts)) ∷ downs)) (numbers (ahead ++ (c, (low, a)) ∷ (f, (high, b)) ∷ rest) ++ inner_numbers lower),
        times_append k (numbers (ahead ++ (c, (low ++ high, a ++ s ∷ b)) ∷ rest)) (inner_numbers lower),
        times_append k (numbers (ahead ++ (c, (low, a)) ∷ (f, (high, b)) ∷ rest)) (inner_numbers lower),
        ap (times k) top_same,
        numbers_times k ahead ((c, (low ++ high, a ++ s ∷ b)) ∷ rest),
        numbers_times k ahead ((c, (low, a)) ∷ (f, (high, b)) ∷ rest),
      )

  pub cut_count : length (inner_numbers two_blocks) ≡ suc (length (inner_numbers one_block))
  cut_count =
      omega (
        arith,
        length-append (numbers (ups ++ (n, (lefts ++ c ∷ rights, ss ++ ts)) ∷ downs)) (numbers (ahead ++ (c, (low ++ high, a ++ s ∷ b)) ∷ rest) ++ inner_numbers lower),
        length-append (numbers (ups ++ (n, (lefts ++ c ∷ f ∷ rights, ss ++ s ∷ ts)) ∷ downs)) (numbers (ahead ++ (c, (low, a)) ∷ (f, (high, b)) ∷ rest) ++ inner_numbers lower),
        length-append (numbers (ahead ++ (c, (low ++ high, a ++ s ∷ b)) ∷ rest)) (inner_numbers lower),
        length-append (numbers (ahead ++ (c, (low, a)) ∷ (f, (high, b)) ∷ rest)) (inner_numbers lower),
        ap (λ (l : List ℕ). length l) top_same,
        numbers_length (ahead ++ (c, (low ++ high, a ++ s ∷ b)) ∷ rest),
        numbers_length (ahead ++ (c, (low, a)) ∷ (f, (high, b)) ∷ rest),
        length-append ahead ((c, (low ++ high, a ++ s ∷ b)) ∷ rest),
        length-append ahead ((c, (low, a)) ∷ (f, (high, b)) ∷ rest),
      )
