-- What is written piece by piece is read piece by piece, whole or cut.
use Rattle.std.proofs.Common.{ℕ, zero, suc, ◌+◌, ◌-◌, ◌*◌, ◌/◌, ◌<◌, ◌≤◌, ◌≡◌, ◌∙◌, ap, refl, cond, Bool, true, false, ◌&&◌, List, [], ◌∷◌, length, take, drop, ◌++◌, arith, length-append, append_assoc, nat_lt, nat_le, inl, inr}
use Rattle.std.proofs.lemmas.Bool.Decides.{nat_tests}
use Rattle.std.proofs.lemmas.Bool.{cases_lt}
use Rattle.std.proofs.lemmas.List.{take-append-le, take_at, drop_at}
use Rattle.std.specs.Int.{w16, w32, to_be_bytes, byte_at}
use Rattle.dms_stream.specs.Taking.{Taken, got, bad, then_take, may_begin, number_taken, bytes_taken}

-- these bytes are read as x whatever follows, and each cut of them is bad at its end
pub record Reads {A : Type 0} (read : ℕ → List ℕ → Taken A) (x : A) (bytes : List ℕ) : Type 0 where
  pub whole : (p : ℕ) (rest : List ℕ) → read p (bytes ++ rest) ≡ got x (p + length bytes) rest
  pub cut : (p c : ℕ) → c < length bytes → read p (take c bytes) ≡ bad (p + c)

pub take_behind : (a b : List ℕ) (c d : ℕ) → c ≡ length a + d → take c (a ++ b) ≡ a ++ take d b
take_behind [] b c d is = ap (λ (n : ℕ). take n b) (omega (arith, is))
take_behind (x ∷ a) b zero d is = absurd (omega (arith, is))
take_behind (x ∷ a) b (suc c) d is = ap (λ (l : List ℕ). x ∷ l) (take_behind a b c d (omega (arith, is)))

module _ {A B : Type 0} (r : ℕ → List ℕ → Taken A) (s : A → ℕ → List ℕ → Taken B) (x : A) (y : B) (a b : List ℕ) (first : Reads r x a) (second : Reads (s x) y b) where
  goes_on : (p : ℕ) (rest : List ℕ) → then_take (r p (a ++ rest)) s ≡ s x (p + length a) rest
  goes_on p rest = ap (λ (t : Taken A). then_take t s) (first.whole p rest)

  cut_at : (p c : ℕ) → c < length (a ++ b) → then_take (r p (take c (a ++ b))) s ≡ bad (p + c)
  cut_at p c few = elim (cases_lt c (length a)) [
    | inl within ↦ ap (λ (l : List ℕ). then_take (r p l) s) (take-append-le c a b (omega (arith, within))) ∙ ap (λ (t : Taken A). then_take t s) (first.cut p c within)
    | inr behind ↦ (let d = c - length a in
        let is : c ≡ length a + d = omega (arith, behind) in
        let small : d < length b = omega (arith, is, few, length-append a b) in
        let at : p + length a + d ≡ p + c = omega (arith, is) in
        ap (λ (l : List ℕ). then_take (r p l) s) (take_behind a b c d is) ∙ goes_on p (take d b) ∙ second.cut (p + length a) d small ∙ ap (λ (q : ℕ). bad q) at)
  ]

  pub then_reads : Reads (λ p bs. then_take (r p bs) s) y (a ++ b)
  then_reads = record {
    whole = λ p rest.
        let sizes : p + length a + length b ≡ p + length (a ++ b) = omega (arith, length-append a b) in
        ap (λ (l : List ℕ). then_take (r p l) s) (append_assoc a b rest) ∙ goes_on p (b ++ rest) ∙ second.whole (p + length a) rest ∙ ap (λ (q : ℕ). got y q rest) sizes;
    cut = cut_at;
  }

-- nothing is read
pub reads_none : {A : Type 0} (x : A) → Reads (λ p bs. got x p bs) x []
reads_none x = record { whole = λ p rest. (let at : p ≡ p + 0 = omega arith in ap (λ (q : ℕ). got x q rest) at); cut = λ p c few. absurd (omega (arith, few)) }

-- what is read is told otherwise
pub told_as : {A B : Type 0} (r : ℕ → List ℕ → Taken A) (s : A → ℕ → List ℕ → Taken B) (x : A) (y : B) (a : List ℕ) → Reads r x a → ((p : ℕ) (rest : List ℕ) → s x p rest ≡ got y p rest) → Reads (λ p bs. then_take (r p bs) s) y a
told_as r s x y a first as_is = record {
  whole = λ p rest. ap (λ t. then_take t s) (first.whole p rest) ∙ as_is (p + length a) rest;
  cut = λ p c few. ap (λ t. then_take t s) (first.cut p c few);
}

-- ---- a number

number_none : (lo hi v : ℕ) → Reads (number_taken 0 lo hi v) v []
number_none lo hi v = record { whole = λ p rest. (let at : p ≡ p + 0 = omega arith in ap (λ (q : ℕ). got v q rest) at); cut = λ p c few. absurd (omega (arith, few)) }

number_more : (n lo hi g b h v : ℕ) (bs : List ℕ) → g * 256 + b ≡ h → may_begin n lo hi h ≡ true → Reads (number_taken n lo hi h) v bs → Reads (number_taken (suc n) lo hi g) v (b ∷ bs)
number_more n lo hi g b h v bs is may next = record {
  whole = λ p rest.
      let at : p + 1 + length bs ≡ p + suc (length bs) = omega arith in
      (λ i. cond (may_begin n lo hi (is i)) (number_taken n lo hi (is i) (p + 1) (bs ++ rest)) (bad p)) ∙ ap (λ (t : Bool). cond t (number_taken n lo hi h (p + 1) (bs ++ rest)) (bad p)) may ∙ next.whole (p + 1) rest
      ∙ ap (λ (q : ℕ). got v q rest) at;
  cut = by;
}
  where
    by : (p c : ℕ) → c < length (b ∷ bs) → number_taken (suc n) lo hi g p (take c (b ∷ bs)) ≡ bad (p + c)
    by p zero few = (let at : p ≡ p + 0 = omega arith in ap (λ (q : ℕ). bad q) at)
    by p (suc c) few =
        let at : p + 1 + c ≡ p + suc c = omega arith in
        (λ i. cond (may_begin n lo hi (is i)) (number_taken n lo hi (is i) (p + 1) (take c bs)) (bad p)) ∙ ap (λ (t : Bool). cond t (number_taken n lo hi h (p + 1) (take c bs)) (bad p)) may ∙ next.cut (p + 1) c (omega (arith, few))
        ∙ ap (λ (q : ℕ). bad q) at

begins : (lo hi low high v : ℕ) → low ≤ v → v < high → lo ≤ v → v ≤ hi → (nat_le low hi && nat_lt lo high) ≡ true
begins lo hi low high v a b c d = grind (arith, nat_tests)

pub one_reads : (lo hi v : ℕ) → v < 256 → lo ≤ v → v ≤ hi → Reads (number_taken 1 lo hi 0) v (v ∷ [])
one_reads lo hi v fits low high =
    number_more 0 lo hi 0 v v v [] (omega arith) (begins lo hi (v * 1) ((v + 1) * 1) v (omega arith) (omega arith) low high) (number_none lo hi v)

pub two_reads : (lo hi v : ℕ) → v < 65536 → lo ≤ v → v ≤ hi → Reads (number_taken 2 lo hi 0) v (to_be_bytes w16 v)
two_reads lo hi v fits low high =
    let g = v / 256 in
    number_more 1 lo hi 0 (byte_at 1 v) g v (byte_at 0 v ∷ []) (omega (arith, fits)) (begins lo hi (g * 256) ((g + 1) * 256) v (omega arith) (omega arith) low high)
    (number_more 0 lo hi g (byte_at 0 v) v v [] (omega arith) (begins lo hi (v * 1) ((v + 1) * 1) v (omega arith) (omega arith) low high) (number_none lo hi v))

pub four_reads : (lo hi v : ℕ) → v < 4294967296 → lo ≤ v → v ≤ hi → Reads (number_taken 4 lo hi 0) v (to_be_bytes w32 v)
four_reads lo hi v fits low high =
    let a = v / 16777216 in
    let b = v / 65536 in
    let c = v / 256 in
    number_more 3 lo hi 0 (byte_at 3 v) a v (byte_at 2 v ∷ byte_at 1 v ∷ byte_at 0 v ∷ []) (omega (arith, fits)) (begins lo hi (a * 16777216) ((a + 1) * 16777216) v (omega arith) (omega arith) low high)
    (number_more 2 lo hi a (byte_at 2 v) b v (byte_at 1 v ∷ byte_at 0 v ∷ []) (omega arith) (begins lo hi (b * 65536) ((b + 1) * 65536) v (omega arith) (omega arith) low high)
    (number_more 1 lo hi b (byte_at 1 v) c v (byte_at 0 v ∷ []) (omega arith) (begins lo hi (c * 256) ((c + 1) * 256) v (omega arith) (omega arith) low high)
    (number_more 0 lo hi c (byte_at 0 v) v v [] (omega arith) (begins lo hi (v * 1) ((v + 1) * 1) v (omega arith) (omega arith) low high) (number_none lo hi v))))

-- ---- bytes

pub bytes_reads : (n : ℕ) (bytes : List ℕ) → length bytes ≡ n → Reads (bytes_taken n) bytes bytes
bytes_reads n bytes size = record {
  whole = λ p rest.
      let enough : nat_lt (length (bytes ++ rest)) n ≡ false = grind (arith, nat_tests, size, length-append bytes rest) in
      let at : p + n ≡ p + length bytes = omega (arith, size) in
      ap (λ (t : Bool). cond t (bad (p + length (bytes ++ rest))) (got (take n (bytes ++ rest)) (p + n) (drop n (bytes ++ rest)))) enough
      ∙ (λ i. got (take_at bytes rest n size i) (at i) (drop_at bytes rest n size i));
  cut = λ p c few.
      let small : length (take c bytes) ≡ c = taken c bytes (omega (arith, few)) in
      let less : nat_lt (length (take c bytes)) n ≡ true = grind (arith, nat_tests, size, small, few) in
      let at : p + length (take c bytes) ≡ p + c = omega (arith, small) in
      ap (λ (t : Bool). cond t (bad (p + length (take c bytes))) (got (take n (take c bytes)) (p + n) (drop n (take c bytes)))) less ∙ ap (λ (q : ℕ). bad q) at;
}
  where
    taken : (c : ℕ) (xs : List ℕ) → c ≤ length xs → length (take c xs) ≡ c
    taken zero xs some = refl
    taken (suc c) [] some = absurd (omega (arith, some))
    taken (suc c) (x ∷ xs) some = ap (λ (k : ℕ). suc k) (taken c xs (omega (arith, some)))
