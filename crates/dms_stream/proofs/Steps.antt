-- Bytes of a stream, one after another.
use Rattle.std.proofs.Common.{ℕ, zero, suc, ◌+◌, ◌-◌, ◌*◌, ◌<◌, ◌≤◌, ◌≡◌, ◌∙◌, sym, ap, subst, refl, cond, Bool, true, false, List, [], ◌∷◌, length, take, drop, ◌++◌, slice_get, slice_set, arith, IsErrOf, length-append, append_assoc, nat_lt}
use Rattle.std.proofs.lemmas.Bool.Decides.{nat_tests}
use Rattle.std.proofs.lemmas.Option.{same_Some}
use Rattle.std.specs.declared.option.Option.{Option}
use Rattle.std.specs.declared.option.Option.TheVariants.{Some, None}
use Rattle.std.specs.declared.result.Result.TheVariants.{Ok}
use Rattle.dms_feed.specs.Feeds.{Remains}
use Rattle.dms_stream.specs.declared.fault.StreamFault.{StreamFault}
use Rattle.dms_stream.specs.declared.fault.StreamFault.TheVariants.{Input, Bytes, Bad, Memory}
use Rattle.dms_stream.specs.Taking.{Taken, got, bad, next_taken, byte_taken, number_taken, may_begin, bytes_taken, NotTaken}

pub no_fault : {T : Type 0} (x : T) (e : StreamFault) → IsErrOf (Ok x) e → ⊥
no_fault x e is = absurd cc

pub is_none : (p : ℕ) (all : List ℕ) → None ≡ slice_get all 0 → next_taken p all ≡ got None p (drop 1 all)
is_none p [] h = refl
is_none p (x ∷ xs) h = absurd (cc)

pub is_some : (p b : ℕ) (all : List ℕ) → Some b ≡ slice_get all 0 → next_taken p all ≡ got (Some b) (p + 1) (drop 1 all)
is_some p b [] h = absurd (cc)
is_some p b (x ∷ xs) h = ap (λ (y : ℕ). got (Some y) (p + 1) xs) (sym (same_Some b x h))

pub none_size : (n : ℕ) (all : List ℕ) → None ≡ slice_get all 0 → n + length all ≡ n + length (drop 1 all)
none_size n [] h = refl
none_size n (x ∷ xs) h = absurd (cc)

pub some_size : (n b : ℕ) (all : List ℕ) → Some b ≡ slice_get all 0 → n + length all ≡ n + 1 + length (drop 1 all)
some_size n b [] h = absurd (cc)
some_size n b (x ∷ xs) h = omega (arith)

pub there : (b : ℕ) (all : List ℕ) → Some b ≡ slice_get all 0 → 1 ≤ length all
there b [] h = absurd (cc)
there b (x ∷ xs) h = omega (arith)

pub byte_there : (p b q : ℕ) (all rest : List ℕ) → next_taken p all ≡ got (Some b) q rest → byte_taken p all ≡ got b q rest
byte_there p b q [] rest h = absurd (cc)
byte_there p b q (x ∷ xs) rest h = cc

pub none_there : (p q : ℕ) (all rest : List ℕ) → next_taken p all ≡ got None q rest → byte_taken p all ≡ bad q
none_there p q [] rest h = cc
none_there p q (x ∷ xs) rest h = absurd (cc)

pub not_next : (p size : ℕ) (all : List ℕ) (e : StreamFault) → NotTaken (next_taken p all) size e → NotTaken (byte_taken p all) size e
not_next p size all Input is = is
not_next p size all Bytes is = is
not_next p size [] (Bad q) is = absurd (cc)
not_next p size (x ∷ xs) (Bad q) is = absurd (cc)
not_next p size all Memory is = is

-- a number goes on
pub number_step : (n lo hi g p b q : ℕ) (all rest : List ℕ) → byte_taken p all ≡ got b q rest
    → number_taken (suc n) lo hi g p all ≡ cond (may_begin n lo hi (g * 256 + b)) (number_taken n lo hi (g * 256 + b) q rest) (bad p)
number_step n lo hi g p b q [] rest h = absurd (cc)
number_step n lo hi g p b q (x ∷ xs) rest h = cc

pub one_less : (p b q : ℕ) (all rest : List ℕ) → byte_taken p all ≡ got b q rest → length all ≡ suc (length rest)
one_less p b q [] rest h = absurd (cc)
one_less p b q (x ∷ xs) rest h = cc

pub not_number : (n lo hi g p size : ℕ) (all : List ℕ) (e : StreamFault) → NotTaken (byte_taken p all) size e → NotTaken (number_taken (suc n) lo hi g p all) size e
not_number n lo hi g p size all Input is = is
not_number n lo hi g p size all Bytes is = is
not_number n lo hi g p size [] (Bad q) is = is
not_number n lo hi g p size (x ∷ xs) (Bad q) is = absurd (cc)
not_number n lo hi g p size all Memory is = is

-- what a loop over the bytes of a number keeps: what follows goes on with the number
pub record NumberOn (bytes lo hi from done g taken : ℕ) (feed : List ℕ) (left : Option (List ℕ)) (all : List ℕ) : Type 0 where
  pub todo : ℕ
  pub rest : List ℕ
  pub count : done + todo ≡ bytes
  pub remains : Remains feed left rest
  pub is : number_taken bytes lo hi 0 (from + 1) all ≡ number_taken todo lo hi g (taken + 1) rest
  pub size : from + length all ≡ taken + length rest

-- one more byte of it
pub record NumberTurned (n lo hi from v p q sum : ℕ) (rest : List ℕ) (start : Taken ℕ) : Type 0 where
  pub is : start ≡ cond (may_begin n lo hi v) (number_taken n lo hi v q rest) (bad p)
  pub follows : q ≡ p + 1
  pub size : sum ≡ p + length rest

pub next_place : (p b q : ℕ) (all rest : List ℕ) → byte_taken p all ≡ got b q rest → q ≡ p + 1
next_place p b q [] rest h = absurd (cc)
next_place p b q (x ∷ xs) rest h = cc

module _ (bytes lo hi from done g taken : ℕ) (feed : List ℕ) (left : Option (List ℕ)) (all : List ℕ) (on : NumberOn bytes lo hi from done g taken feed left all) where
  start : Taken ℕ
  start = number_taken bytes lo hi 0 (from + 1) all

  pub number_turn : (b q v : ℕ) (rest : List ℕ) → done < bytes → v ≡ g * 256 + b → byte_taken (taken + 1) on.rest ≡ got b q rest
      → NumberTurned (bytes - 1 - done) lo hi from v (taken + 1) q (from + length all) rest (number_taken bytes lo hi 0 (from + 1) all)
  number_turn b q v rest more same byte = by on.todo on.count on.is
    where
      by : (todo : ℕ) → done + todo ≡ bytes → number_taken bytes lo hi 0 (from + 1) all ≡ number_taken todo lo hi g (taken + 1) on.rest
          → NumberTurned (bytes - 1 - done) lo hi from v (taken + 1) q (from + length all) rest (number_taken bytes lo hi 0 (from + 1) all)
      by zero count is = absurd (omega (arith, count, more))
      by (suc n) count is =
          let left_over : n ≡ bytes - 1 - done = omega (arith, count, more) in
          record {
            is = is ∙ number_step n lo hi g (taken + 1) b q on.rest rest byte
                ∙ (λ i. cond (may_begin (left_over i) lo hi (sym same i)) (number_taken (left_over i) lo hi (sym same i) q rest) (bad (taken + 1)));
            follows = next_place (taken + 1) b q on.rest rest byte;
            size = omega (arith, on.size, one_less (taken + 1) b q on.rest rest byte);
          }

  pub number_not : (e : StreamFault) → done < bytes → NotTaken (byte_taken (taken + 1) on.rest) (taken + length on.rest) e → NotTaken (number_taken bytes lo hi 0 (from + 1) all) (from + length all) e
  number_not e more is = by on.todo on.count on.is
    where
      by : (todo : ℕ) → done + todo ≡ bytes → number_taken bytes lo hi 0 (from + 1) all ≡ number_taken todo lo hi g (taken + 1) on.rest → NotTaken (number_taken bytes lo hi 0 (from + 1) all) (from + length all) e
      by zero count same = absurd (omega (arith, count, more))
      by (suc n) count same =
          subst (λ (t : Taken ℕ). NotTaken t (from + length all) e) (sym same) (subst (λ (s : ℕ). NotTaken (number_taken (suc n) lo hi g (taken + 1) on.rest) s e) (sym on.size) (not_number n lo hi g (taken + 1) (taken + length on.rest) on.rest e is))

  pub number_done : bytes ≤ done → number_taken bytes lo hi 0 (from + 1) all ≡ got g (taken + 1) on.rest
  number_done none = by on.todo on.count on.is
    where
      by : (todo : ℕ) → done + todo ≡ bytes → number_taken bytes lo hi 0 (from + 1) all ≡ number_taken todo lo hi g (taken + 1) on.rest → number_taken bytes lo hi 0 (from + 1) all ≡ got g (taken + 1) on.rest
      by zero count same = same
      by (suc n) count same = absurd (omega (arith, count, none))

pub begins_low : (n lo hi v : ℕ) → n ≤ 3 → may_begin n lo hi v ≡ true → v ≤ hi
begins_low zero lo hi v few h = grind (arith, nat_tests)
begins_low (suc zero) lo hi v few h = grind (arith, nat_tests)
begins_low (suc (suc zero)) lo hi v few h = grind (arith, nat_tests)
begins_low (suc (suc (suc zero))) lo hi v few h = grind (arith, nat_tests)
begins_low (suc (suc (suc (suc n)))) lo hi v few h = absurd (omega (arith, few))

-- what a loop over bytes keeps: so many of them stand in front
pub record BytesOn (from place : ℕ) (into : List ℕ) (taken : ℕ) (feed : List ℕ) (left : Option (List ℕ)) (all : List ℕ) : Type 0 where
  pub rest : List ℕ
  pub whole : all ≡ take place into ++ rest
  pub at : taken ≡ from + place
  pub remains : Remains feed left rest

set_there : (into : List ℕ) (place b : ℕ) → place < length into → take (suc place) (slice_set into place b) ≡ take place into ++ b ∷ []
set_there [] place b some = absurd (omega (arith, some))
set_there (x ∷ xs) zero b some = refl
set_there (x ∷ xs) (suc n) b some = ap (λ (l : List ℕ). x ∷ l) (set_there xs n b (omega (arith, some)))

byte_front : (p b q : ℕ) (all rest : List ℕ) → byte_taken p all ≡ got b q rest → all ≡ b ∷ rest
byte_front p b q [] rest h = absurd (cc)
byte_front p b q (x ∷ xs) rest h = cc

take_front : (xs ys : List ℕ) → take (length xs) (xs ++ ys) ≡ xs
take_front [] ys = refl
take_front (x ∷ xs) ys = ap (λ (l : List ℕ). x ∷ l) (take_front xs ys)

drop_front : (xs ys : List ℕ) → drop (length xs) (xs ++ ys) ≡ ys
drop_front [] ys = refl
drop_front (x ∷ xs) ys = drop_front xs ys

taken_length : (n : ℕ) (xs : List ℕ) → n ≤ length xs → length (take n xs) ≡ n
taken_length zero xs some = refl
taken_length (suc n) [] some = absurd (omega (arith, some))
taken_length (suc n) (x ∷ xs) some = ap (λ (k : ℕ). suc k) (taken_length n xs (omega (arith, some)))

taken_all : (n : ℕ) (xs : List ℕ) → length xs ≤ n → take n xs ≡ xs
taken_all zero [] few = refl
taken_all zero (x ∷ xs) few = absurd (omega (arith, few))
taken_all (suc n) [] few = refl
taken_all (suc n) (x ∷ xs) few = ap (λ (l : List ℕ). x ∷ l) (taken_all n xs (omega (arith, few)))

ended : (p q : ℕ) (rest : List ℕ) → byte_taken p rest ≡ bad q → rest ≡ []
ended p q [] h = refl
ended p q (x ∷ xs) h = absurd (cc)

ended_at : (p q : ℕ) (rest : List ℕ) → byte_taken p rest ≡ bad q → q ≡ p
ended_at p q [] h = cc
ended_at p q (x ∷ xs) h = absurd (cc)

module _ (from place : ℕ) (into : List ℕ) (taken : ℕ) (feed : List ℕ) (left : Option (List ℕ)) (all : List ℕ) (on : BytesOn from place into taken feed left all) where
  sizes : place ≤ length into → length all ≡ place + length on.rest
  sizes few = ap (λ (l : List ℕ). length l) on.whole ∙ length-append (take place into) on.rest ∙ ap (λ (n : ℕ). n + length on.rest) (taken_length place into few)

  pub bytes_turn : (b q : ℕ) (rest : List ℕ) → place < length into → byte_taken (taken + 1) on.rest ≡ got b q rest → all ≡ take (place + 1) (slice_set into place b) ++ rest
  bytes_turn b q rest more byte =
      let one : suc place ≡ place + 1 = omega arith in
      on.whole ∙ ap (λ (l : List ℕ). take place into ++ l) (byte_front (taken + 1) b q on.rest rest byte) ∙ sym (append_assoc (take place into) (b ∷ []) rest)
      ∙ ap (λ (l : List ℕ). l ++ rest) (sym (set_there into place b more) ∙ ap (λ (n : ℕ). take n (slice_set into place b)) one)

  pub bytes_not : (e : StreamFault) → place < length into → NotTaken (byte_taken (taken + 1) on.rest) (taken + length on.rest) e → NotTaken (bytes_taken (length into) (from + 1) all) (from + length all) e
  bytes_not Input more is = is
  bytes_not Bytes more is = omega (arith, is, on.at, sizes (omega (arith, more)))
  bytes_not (Bad q) more is =
      let empty : length on.rest ≡ 0 = ap (λ (l : List ℕ). length l) (ended (taken + 1) q on.rest is) in
      let few : nat_lt (length all) (length into) ≡ true = grind (arith, nat_tests, sizes (omega (arith, more)), empty, more) in
      let at : from + 1 + length all ≡ q = omega (arith, ended_at (taken + 1) q on.rest is, on.at, sizes (omega (arith, more)), empty) in
      ap (λ (b : Bool). cond b (bad (from + 1 + length all)) (got (take (length into) all) (from + 1 + length into) (drop (length into) all))) few ∙ ap (λ (n : ℕ). bad n) at
  bytes_not Memory more is = is

  pub bytes_done : length into ≤ place → place ≤ length into → bytes_taken (length into) (from + 1) all ≡ got into (taken + 1) on.rest
  bytes_done none few =
      let whole : all ≡ into ++ on.rest = on.whole ∙ ap (λ (l : List ℕ). l ++ on.rest) (taken_all place into none) in
      let enough : nat_lt (length all) (length into) ≡ false = grind (arith, nat_tests, sizes few, none) in
      let at : from + 1 + length into ≡ taken + 1 = omega (arith, on.at, none, few) in
      ap (λ (b : Bool). cond b (bad (from + 1 + length all)) (got (take (length into) all) (from + 1 + length into) (drop (length into) all))) enough
      ∙ (λ i. got (take (length into) (whole i)) (at i) (drop (length into) (whole i))) ∙ (λ i. got (take_front into on.rest i) (taken + 1) (drop_front into on.rest i))

  pub bytes_size : length into ≤ place → place ≤ length into → from + length all ≡ taken + length on.rest
  bytes_size none few = omega (arith, on.at, sizes few)

pub set_length : (into : List ℕ) (place b : ℕ) → length (slice_set into place b) ≡ length into
set_length [] place b = refl
set_length (x ∷ xs) zero b = refl
set_length (x ∷ xs) (suc n) b = ap (λ (k : ℕ). suc k) (set_length xs n b)
