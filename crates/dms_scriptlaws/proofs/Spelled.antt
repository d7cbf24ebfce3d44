-- A syncpoint's line tells the syncpoint's number, and worked texts.
use Rattle.std.proofs.Common.{ℕ, ◌≡◌, ◌≤◌, ◌<◌, ◌+◌, ◌-◌, ◌*◌, ◌/◌, ◌%◌, ◌^◌, ◌∙◌, Bool, true, false, cond, List, [], ◌∷◌, ◌++◌, refl, sym, ap, arith, nat_lt, codes, decimal}
use Rattle.std.specs.Fmt.{digits}
use Rattle.std.specs.Str.{bytes_eq}
use Rattle.std.proofs.lemmas.Bool.Decides.{nat_tests}
use Rattle.std.proofs.lemmas.Fmt.{decimal_by_steps}
use Rattle.std.proofs.lemmas.Slice.Eq.{bytes_eq-Decides}
use Rattle.std.proofs.lemmas.Bool.{and_from}
use Rattle.dms_script.specs.Replies.{syncpoint_text}
use Rattle.dms_scriptlaws.specs.Told.{value_from, number_in, told_line, told}
use Rattle.dms_scriptlaws.proofs.Lined.{last_same}

value_on : (m : ℕ) (ds : List ℕ) (d : ℕ) → value_from m (ds ++ d ∷ []) ≡ 10 * value_from m ds + (d - 48)
value_on m [] d = refl
value_on m (x ∷ ds) d = value_on (10 * m + (x - 48)) ds d

value_more : (n : ℕ) (ds : List ℕ) → 10 ≤ n → value_from 0 ds ≡ n / 10 → value_from 0 (ds ++ (48 + n % 10) ∷ []) ≡ n
value_more n ds low h = omega (arith, value_on 0 ds (48 + n % 10), h)

value_decimal : (n : ℕ) → n < 2 ^ 64 → value_from 0 (decimal n) ≡ n
value_decimal n small = decimal_by_steps (λ n ds. value_from 0 ds ≡ n) (λ n low. omega arith) value_more n small

cond_true : (b : Bool) (v n : ℕ) → b ≡ true → v ≡ n → cond b v 0 ≡ n
cond_true true v n h e = e
cond_true false v n h e = absurd (cc)

pub point_told : (n : ℕ) (line : List ℕ) → n < 2 ^ 64 → line ++ 10 ∷ [] ≡ syncpoint_text n → told_line line ≡ n
unfolding told_line syncpoint_text
point_told n line small is =
    let line_is : line ≡ codes "SYNCPOINT " ++ decimal n = last_same line (codes "SYNCPOINT " ++ decimal n) is in
    let number : number_in line ≡ n = ap number_in line_is ∙ value_decimal n small in
    let low : nat_lt (number_in line) (2 ^ 64) ≡ true = ap (λ (v : ℕ). nat_lt v (2 ^ 64)) number ∙ (grind (arith, nat_tests, small)) in
    let same : bytes_eq (line ++ 10 ∷ []) (syncpoint_text (number_in line)) ≡ true = (bytes_eq-Decides (line ++ 10 ∷ []) (syncpoint_text (number_in line))).1 (is ∙ ap syncpoint_text (sym number)) in
    cond_true _ (number_in line) n (and_from _ _ low same) number

-- worked texts: two syncpoints tell the greater number
two : told (codes "SYNCPOINT 2" ++ 10 ∷ codes "7 P DONE" ++ 10 ∷ codes "SYNCPOINT 12" ++ 10 ∷ []) ≡ 12
unfolding told_line syncpoint_text digits
two = refl

-- a line that isn't whole tells nothing yet
unfinished : told (codes "SYNCPOINT 2" ++ 10 ∷ codes "SYNCPOINT 12") ≡ 2
unfolding told_line syncpoint_text digits
unfinished = refl

-- a leading zero is not how a number is spelled, and a reply is no syncpoint
other : told (codes "SYNCPOINT 02" ++ 10 ∷ codes "3 SYNCPOINT 12" ++ 10 ∷ []) ≡ 0
unfolding told_line syncpoint_text digits
other = refl
