-- Seen text that grows, one text behind another.
use Rattle.std.proofs.Common.{◌≡◌, ◌+◌, ◌≤◌, ℕ, List, [], ◌++◌, Some, refl, sym, ap, ◌∙◌, arith, append_assoc, length, take, Bool, true, false, nat_le}
use Rattle.std.proofs.Math.Seq.{take-append-add}
use Rattle.std.proofs.lemmas.Bool.Decides.{nat_tests}
use Rattle.std.specs.declared.option.Option.{Option}
use Rattle.std.proofs.lemmas.List.{append-nil, take-append-le, take_all}
use Rattle.dms_block.specs.Texts.{Prints, PrintsPrefix}

pub prints_none : (a b : Option (List ℕ)) → b ≡ a → Prints a b []
prints_none a b same = λ t is. same ∙ is ∙ ap (λ (x : List ℕ). Some x) (sym (append-nil t))

pub prints_on : (a b c : Option (List ℕ)) (x y : List ℕ) → Prints a b x → Prints b c y → Prints a c (x ++ y)
prints_on a b c x y first then_ = λ t is. then_ (t ++ x) (first t is) ∙ ap (λ (z : List ℕ). Some z) (append_assoc t x y)

-- no text at all is a prefix
pub front_none : (a b : Option (List ℕ)) (x : List ℕ) → b ≡ a → PrintsPrefix a b x
front_none a b x same = λ t is. (0, same ∙ is ∙ ap (λ (z : List ℕ). Some z) (sym (append-nil t)))

-- the whole text is a prefix
pub front_all : (a b : Option (List ℕ)) (x : List ℕ) → Prints a b x → PrintsPrefix a b x
front_all a b x all = λ t is. (length x, all t is ∙ ap (λ (z : List ℕ). Some (t ++ z)) (sym (take_all (length x) x (omega arith))))

capped : (b : Bool) (k : ℕ) (x : List ℕ) → b ≡ nat_le (length x) k → (n : ℕ) × (take k x ≡ take n x) × (n ≤ length x)
capped true k x e =
    let long : length x ≤ k = grind (arith, nat_tests) in
    (length x, take_all k x long ∙ sym (take_all (length x) x (omega arith)), omega arith)
capped false k x e = (k, refl, grind (arith, nat_tests))

-- a prefix of the first part is a prefix of the whole
pub front_of_first : (a b : Option (List ℕ)) (x y : List ℕ) → PrintsPrefix a b x → PrintsPrefix a b (x ++ y)
front_of_first a b x y part = λ t is.
    let p = part t is in
    let n = capped (nat_le (length x) p.0) p.0 x refl in
    (n.0, p.1 ∙ ap (λ (z : List ℕ). Some (t ++ z)) (n.1 ∙ sym (take-append-le n.0 x y n.2)))

-- what was said, and then a prefix of the next
pub front_on : (a b c : Option (List ℕ)) (x y : List ℕ) → Prints a b x → PrintsPrefix b c y → PrintsPrefix a c (x ++ y)
front_on a b c x y first then_ = λ t is. let p = then_ (t ++ x) (first t is) in
    (length x + p.0, p.1 ∙ ap (λ (z : List ℕ). Some z) (append_assoc t x (take p.0 y)) ∙ ap (λ (z : List ℕ). Some (t ++ z)) (sym (take-append-add x y p.0)))

-- a text, and a prefix of the next, is a prefix of all
pub some_front : (x y z : List ℕ) (n : ℕ) → (k : ℕ) × (x ++ take n y ≡ take k (x ++ (y ++ z)))
some_front x y z n =
    let c = capped (nat_le (length y) n) n y refl in
    (length x + c.0, ap (λ (l : List ℕ). x ++ l) (c.1 ∙ sym (take-append-le c.0 y z c.2)) ∙ sym (take-append-add x (y ++ z) c.0))
