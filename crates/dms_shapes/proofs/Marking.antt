-- Marks, and those that come behind them.
use Rattle.std.proofs.Common.{◌≡◌, ℕ, zero, suc, ◌+◌, ◌<◌, ◌≤◌, List, [], ◌∷◌, ◌++◌, Bool, true, false, cond, eqb, get_or, refl, sym, ap, subst, ◌∙◌, length, take, drop, arith}
use Rattle.std.specs.Prelude.{◌&&◌, not, slice_set}
use Rattle.std.proofs.lemmas.Bool.Decides.{nat_tests}
use Rattle.dms_chain.specs.Linked.{times}
use Rattle.dms_chain.specs.LinkedLaws.{times_append}
use Rattle.dms_shapes.specs.Marks.{AreBelow, Marked}
use Rattle.dms_shapes.specs.Walks.{AreFresh, is_fresh}
use Rattle.dms_shapes.specs.WalkLaws.{fresh_low, mark_one}

suc_no : (k : ℕ) → eqb (suc k) 0 ≡ false
suc_no k = grind (arith, nat_tests)

alone : (b : Bool) → b ≡ (b && true)
alone true = refl
alone false = refl

pub marked_none : (old : List Bool) → Marked old old []
marked_none old = record { fresh = λ n. omega arith; marks = λ n. alone (is_fresh old n) }

-- one block
pub marked_one : (seen : List Bool) (at : ℕ) → is_fresh seen at ≡ true → Marked seen (slice_set seen at true) (at ∷ [])
marked_one seen at fresh = record {
  fresh = λ n. few n (eqb at n) refl;
  marks = λ n. mark_one seen at n (fresh_low seen at fresh) ∙ ap (λ t. is_fresh seen n && t) (once (eqb at n));
}
  where
    few : (n : ℕ) (t : Bool) → eqb at n ≡ t → cond {A = ℕ} t 1 0 + 0 ≤ cond {A = ℕ} (is_fresh seen n) 1 0
    few n true is =
        let e : at ≡ n = grind (arith, nat_tests, is) in
        let one : cond {A = ℕ} (is_fresh seen n) 1 0 ≡ 1 = ap (λ t. cond {A = ℕ} t 1 0) (subst (λ k. is_fresh seen k ≡ true) e fresh) in
        omega (arith, one)
    few n false is = omega arith

    once : (t : Bool) → not t ≡ eqb (cond t 1 0 + 0) 0
    once true = refl
    once false = refl

-- ---- marks behind marks

sum_few : (a : Bool) (k m : ℕ) → k ≤ cond a 1 0 → m ≤ cond (a && eqb k 0) 1 0 → k + m ≤ cond a 1 0
sum_few true zero m le more = omega (arith, more)
sum_few true (suc k) m le more = let none : cond {A = ℕ} (true && eqb (suc k) 0) 1 0 ≡ 0 = ap (λ t. cond {A = ℕ} t 1 0) (suc_no k) in omega (arith, le, more, none)
sum_few false k m le more = omega (arith, le, more)

sum_none : (a : Bool) (k m : ℕ) → ((a && eqb k 0) && eqb m 0) ≡ (a && eqb (k + m) 0)
sum_none true zero m = ap (λ x. eqb x 0) (let e : m ≡ 0 + m = omega arith in e)
sum_none true (suc k) m = ap (λ t. t && eqb m 0) (suc_no k) ∙ sym (let e : eqb (suc k + m) 0 ≡ false = grind (arith, nat_tests) in e)
sum_none false k m = refl

rest_few : (a : Bool) (k m : ℕ) → k + m ≤ cond a 1 0 → m ≤ cond (a && eqb k 0) 1 0
rest_few true zero m le = omega (arith, le)
rest_few true (suc k) m le = let none : cond {A = ℕ} (true && eqb (suc k) 0) 1 0 ≡ 0 = ap (λ t. cond {A = ℕ} t 1 0) (suc_no k) in omega (arith, le, none)
rest_few false k m le = omega (arith, le)

pub marked_both : (a b c : List Bool) (ns ms : List ℕ) → Marked a b ns → Marked b c ms → Marked a c (ns ++ ms)
marked_both a b c ns ms x y = record {
  fresh = λ n. omega (arith, times_append n ns ms, sum_few (is_fresh a n) (times n ns) (times n ms) (x.fresh n) (subst (λ t. times n ms ≤ cond {A = ℕ} t 1 0) (x.marks n) (y.fresh n)));
  marks = λ n. y.marks n ∙ ap (λ t. t && eqb (times n ms) 0) (x.marks n) ∙ sum_none (is_fresh a n) (times n ns) (times n ms) ∙ ap (λ k. is_fresh a n && eqb k 0) (sym (times_append n ns ms));
}

-- what is fresh behind marks
pub fresh_rest : (a b : List Bool) (ns ms : List ℕ) → Marked a b ns → AreFresh a (ns ++ ms) → AreFresh b ms
fresh_rest a b ns ms x all n =
    subst (λ t. times n ms ≤ cond {A = ℕ} t 1 0) (sym (x.marks n)) (rest_few (is_fresh a n) (times n ns) (times n ms) (omega (arith, all n, times_append n ns ms)))

pub fresh_front : (a : List Bool) (ns ms : List ℕ) → AreFresh a (ns ++ ms) → AreFresh a ns
fresh_front a ns ms all n = omega (arith, all n, times_append n ns ms)

-- fresh numbers are those of blocks
pub fresh_below : (a : List Bool) (ns : List ℕ) (count : ℕ) → length a ≡ count → AreFresh a ns → AreBelow count ns
fresh_below a ns count long all n some = by (is_fresh a n) refl (all n)
  where
    by : (t : Bool) → is_fresh a n ≡ t → times n ns ≤ cond t 1 0 → n < count
    by true is le = omega (arith, fresh_low a n is, long)
    by false is le = absurd (omega (arith, le, some))

-- ---- one number further

pub take_on : (ns : List ℕ) (i : ℕ) → i < length ns → take (i + 1) ns ≡ take i ns ++ get_or ns i 0 ∷ []
take_on ns i low = ap (λ k. take k ns) (let e : i + 1 ≡ suc i = omega arith in e) ∙ on ns i low
  where
    on : (ns : List ℕ) (i : ℕ) → i < length ns → take (suc i) ns ≡ take i ns ++ get_or ns i 0 ∷ []
    on [] i low = absurd (omega (arith, low))
    on (n ∷ ns) zero low = refl
    on (n ∷ ns) (suc i) low = ap (λ (l : List ℕ). n ∷ l) (on ns i (omega (arith, low)))

pub parted : (ns : List ℕ) (i : ℕ) → i < length ns → ns ≡ take i ns ++ (get_or ns i 0 ∷ drop (suc i) ns)
parted [] i low = absurd (omega (arith, low))
parted (n ∷ ns) zero low = refl
parted (n ∷ ns) (suc i) low = ap (λ (l : List ℕ). n ∷ l) (parted ns i (omega (arith, low)))

own_time : (n : ℕ) (ns : List ℕ) → 0 < times n (n ∷ ns)
own_time n ns =
    let own : eqb n n ≡ true = grind (arith, nat_tests) in
    let e : cond {A = ℕ} (eqb n n) 1 0 ≡ 1 = ap (λ t. cond {A = ℕ} t 1 0) own in
    omega (arith, e)

pub times_at : (ns : List ℕ) (i : ℕ) → i < length ns → 0 < times (get_or ns i 0) ns
times_at [] i low = absurd (omega (arith, low))
times_at (n ∷ ns) zero low = own_time n ns
times_at (n ∷ ns) (suc i) low = omega (arith, times_at ns i (omega (arith, low)))

-- a block that was met before
pub met_again : (old seen : List Bool) (ns : List ℕ) (i : ℕ) → i < length ns → Marked old seen (take i ns) → is_fresh seen (get_or ns i 0) ≡ false → AreFresh old ns → ⊥
met_again old seen ns i low m off all =
    let at = get_or ns i 0 in
    let rest : AreFresh seen (at ∷ drop (suc i) ns) = fresh_rest old seen (take i ns) (at ∷ drop (suc i) ns) m (subst (AreFresh old) (parted ns i low) all) in
    let none : cond {A = ℕ} (is_fresh seen at) 1 0 ≡ 0 = ap (λ t. cond {A = ℕ} t 1 0) off in
    omega (arith, rest at, none, own_time at (drop (suc i) ns))
