-- How often a word stands in a text, from one of its places on.
use Rattle.std.proofs.Math.Seq.{drop-cons}
use Rattle.std.proofs.Common.{ℕ, suc, ◌≡◌, ◌+◌, ◌<◌, Bool, true, false, List, ◌∷◌, length, drop, get_or, if◌then◌else◌, ap, sym, ◌∙◌, arith}
use Rattle.std.specs.List.{starts_with}
use Rattle.std.specs.Prelude.{nat_eq}
use Rattle.dms_load.specs.Summary.{times}

pub times_from : (word text : List ℕ) (p : ℕ) → p < length text → times word (drop p text) ≡ (if starts_with nat_eq (drop p text) word then 1 else 0) + times word (drop (p + 1) text)
times_from word text p within =
    let e : drop p text ≡ get_or text p 0 ∷ drop (suc p) text = drop-cons text p 0 within in
    let more : suc p ≡ p + 1 = omega arith in
    ap (λ (l : List ℕ). times word l) e
    ∙ ap (λ (l : List ℕ). (if starts_with nat_eq l word then 1 else 0) + times word (drop (suc p) text)) (sym e)
    ∙ ap (λ (n : ℕ). (if starts_with nat_eq (drop p text) word then 1 else 0) + times word (drop n text)) more

-- it stands at a place, and the count of those so far rises
pub hit : (word text : List ℕ) (p count now whole : ℕ) (b : Bool) → p < length text → b ≡ starts_with nat_eq (drop p text) word → b ≡ true → now ≡ count + 1 → count + times word (drop p text) ≡ whole → now + times word (drop (p + 1) text) ≡ whole
hit word text p count now whole b within starts found one so_far =
    let e : times word (drop p text) ≡ 1 + times word (drop (p + 1) text) = times_from word text p within ∙ ap (λ (t : Bool). (if t then 1 else 0) + times word (drop (p + 1) text)) (sym starts ∙ found) in
    omega (arith, e, one, so_far)

-- it doesn't
pub miss : (word text : List ℕ) (p count now whole : ℕ) (b : Bool) → p < length text → b ≡ starts_with nat_eq (drop p text) word → b ≡ false → now ≡ count → count + times word (drop p text) ≡ whole → now + times word (drop (p + 1) text) ≡ whole
miss word text p count now whole b within starts lacks same so_far =
    let e : times word (drop p text) ≡ 0 + times word (drop (p + 1) text) = times_from word text p within ∙ ap (λ (t : Bool). (if t then 1 else 0) + times word (drop (p + 1) text)) (sym starts ∙ lacks) in
    omega (arith, e, same, so_far)
