-- Texts of whole lines: replies tell no point, and a syncpoint's line tells its own.
use Rattle.std.proofs.Common.{ℕ, ◌≡◌, ◌≤◌, ◌<◌, ◌+◌, ◌^◌, ◌==◌, inl, inr, Bool, true, false, List, [], ◌∷◌, ◌++◌, length, refl, sym, subst, ap, arith, if◌then◌else◌, Option, Some, None, codes, decimal}
use Rattle.std.specs.Str.{bytes_eq}
use Rattle.std.proofs.lemmas.Bool.Decides.{nat_tests}
use Rattle.std.proofs.lemmas.List.{append_assoc, append-nil}
use Rattle.std.proofs.lemmas.Slice.Eq.{bytes_eq-Decides}
use Rattle.std.proofs.lemmas.Bool.{and_parts}
use Rattle.dms_model.specs.Points.{Quiet}
use Rattle.dms_model.specs.declared.verb.Verb.{Verb}
use Rattle.dms_model.specs.Session.{Session, Outcome}
use Rattle.dms_script.specs.Replies.{syncpoint_text}
use Rattle.dms_runner.specs.Events.{RunEvent, calls, says, quiets_of, durable_by, durable_after}
use Rattle.dms_runner.specs.Waiting.{sync_text}
use Rattle.dms_scriptlaws.specs.Told.{told_line, number_in}
use Rattle.dms_scriptlaws.proofs.Digits.{NoFeed, decimal_feed, decimal_same}
use Rattle.dms_scriptlaws.proofs.Telling.{IsSafe, Either, Safe, Closed, Honest, AreNumberedFrom, safe_on, closed_on}

second : (t : Bool) (A : Type 0) {B : Type 0} → t ≡ false → B → Either t A B
second true A e b = absurd (cc)
second false A e b = b

pub closed_line : (line a : List ℕ) → NoFeed a → Closed line (a ++ 10 ∷ [])
closed_line line [] h = refl
closed_line line (b ∷ bs) h = second (b == 10) _ h.0 (closed_line (line ++ b ∷ []) bs h.1)

pub safe_line : (first durable : ℕ) (line a : List ℕ) → NoFeed a → IsSafe first durable (told_line (line ++ a)) → Safe first durable line (a ++ 10 ∷ [])
safe_line first durable line [] h s = (subst (λ (l : List ℕ). IsSafe first durable (told_line l)) (append-nil line) s, tt)
safe_line first durable line (b ∷ bs) h s =
    second (b == 10) _ h.0 (safe_line first durable (line ++ b ∷ []) bs h.1 (subst (λ (l : List ℕ). IsSafe first durable (told_line l)) (sym (append_assoc line (b ∷ []) bs)) s))

if_safe : (first durable v : ℕ) (t : Bool) → (t ≡ true → IsSafe first durable v) → IsSafe first durable (if t then v else 0)
if_safe first durable v true h = h refl
if_safe first durable v false h = inl refl

same_bytes : (a b : List ℕ) → bytes_eq a b ≡ true → a ≡ b
same_bytes a b e = (bytes_eq-Decides a b).0 e

first_of : List ℕ → ℕ
first_of [] = 0
first_of (x ∷ xs) = x

-- a line that doesn't begin with S tells nothing
other_line : (first durable b : ℕ) (bs : List ℕ) → (b == 83) ≡ false → IsSafe first durable (told_line (b ∷ bs))
unfolding told_line syncpoint_text first_of
other_line first durable b bs other =
    let v = number_in (b ∷ bs) in
    if_safe first durable v _
    (λ t. let e : (b ∷ bs) ++ 10 ∷ [] ≡ codes "SYNCPOINT " ++ decimal v ++ 10 ∷ [] = same_bytes _ _ (and_parts _ _ t).1 in let is : b ≡ 83 = ap first_of e in absurd (grind (arith, nat_tests, other, is)))

front_same : (a b c : List ℕ) → a ++ b ≡ a ++ c → b ≡ c
front_same [] b c e = e
front_same (x ∷ xs) b c e = front_same xs b c (let t : xs ++ b ≡ xs ++ c = cc in t)

pub last_same : (a b : List ℕ) → a ++ 10 ∷ [] ≡ b ++ 10 ∷ [] → a ≡ b
last_same [] [] e = refl
last_same [] (y ∷ []) e = absurd (cc)
last_same [] (y ∷ z ∷ zs) e = absurd (cc)
last_same (x ∷ []) [] e = absurd (cc)
last_same (x ∷ z ∷ zs) [] e = absurd (cc)
last_same (x ∷ xs) (y ∷ ys) e = let h : x ≡ y = cc in let t : xs ++ 10 ∷ [] ≡ ys ++ 10 ∷ [] = cc in let r = last_same xs ys t in cc

-- the line of a syncpoint tells its own number
point_line : (first durable n : ℕ) → IsSafe first durable n → IsSafe first durable (told_line (codes "SYNCPOINT " ++ decimal n))
unfolding told_line syncpoint_text
point_line first durable n safe =
    let l = codes "SYNCPOINT " ++ decimal n in
    let v = number_in l in
    if_safe first durable v _
    (λ t.
    let h = and_parts _ _ t in
    let small : v < 2 ^ 64 = grind (arith, nat_tests, h.0) in
    let texts = last_same l (codes "SYNCPOINT " ++ decimal v) (same_bytes _ _ h.1) in
    let same : n ≡ v = decimal_same n v small (front_same (codes "SYNCPOINT ") (decimal n) (decimal v) texts) in
    subst (IsSafe first durable) same safe)

pub numbered_on : (n : ℕ) (x y : List Quiet) → AreNumberedFrom n x → AreNumberedFrom (n + length x) y → AreNumberedFrom n (x ++ y)
numbered_on n [] y p q = subst (λ (k : ℕ). AreNumberedFrom k y) (omega arith) q
numbered_on n (a ∷ x) y p q = (p.0, numbered_on (n + 1) x y p.1 (subst (λ (k : ℕ). AreNumberedFrom k y) (omega arith) q))

pub length_on : (x y : List Quiet) → length (x ++ y) ≡ length x + length y
length_on [] y = omega arith
length_on (a ∷ x) y = omega (arith, length_on x y)

pub honest_on : (first count durable : ℕ) (x y : List RunEvent) → Honest first count durable x → Honest first (count + length (quiets_of x)) (durable_after count durable x) y → Honest first count durable (x ++ y)
honest_on first count durable [] y p q = subst (λ (k : ℕ). Honest first k durable y) (omega arith) q
honest_on first count durable (e ∷ x) y p q =
    let c = count + length e.quiets in (
      p.0,
      (
        p.1.0,
        honest_on first c (durable_by e.sync durable c) x y p.1.1
            (subst (λ (k : ℕ). Honest first k (durable_after c (durable_by e.sync durable c) x) y) (omega (arith, length_on e.quiets (quiets_of x))) q),
      ),
    )

-- whole lines that tell nothing
pub record TellsNone (text : List ℕ) : Type 0 where
  pub closed : Closed [] text
  pub safe : (first durable : ℕ) → Safe first durable [] text

-- one line that doesn't begin with S
pub none_line : (b : ℕ) (bs : List ℕ) → (b == 83) ≡ false → NoFeed (b ∷ bs) → TellsNone ((b ∷ bs) ++ 10 ∷ [])
none_line b bs other none = record {
  closed = closed_line [] (b ∷ bs) none;
  safe = λ first durable. safe_line first durable [] (b ∷ bs) none (other_line first durable b bs other);
}

-- a syncpoint's number is that of the quiet point that its step made
abbrev pub TakesOwn : Session → Outcome → Type 0
TakesOwn s o = (n : ℕ) → o.sync ≡ Some n → (n ≡ s.next) × (length o.quiets ≡ 1)

synced : (first count durable next quiets : ℕ) (reply : List ℕ) (o : Option ℕ) → next ≡ first + count → durable ≤ count → TellsNone reply → ((n : ℕ) → o ≡ Some n → (n ≡ next) × (quiets ≡ 1))
    → Closed [] (reply ++ sync_text o) × Safe first (durable_by o durable (count + quiets)) [] (reply ++ sync_text o)
unfolding syncpoint_text
synced first count durable next quiets reply None at within none own =
    (subst (Closed []) (sym (append-nil reply)) none.closed, subst (Safe first durable []) (sym (append-nil reply)) (none.safe first durable))
synced first count durable next quiets reply (Some n) at within none own =
    let o = own n refl in
    let line : NoFeed (codes "SYNCPOINT " ++ decimal n) = (refl, (refl, (refl, (refl, (refl, (refl, (refl, (refl, (refl, (refl, decimal_feed n)))))))))) in
    let safe : IsSafe first (count + quiets) n = inr (omega (arith, o.0, at), omega (arith, o.0, o.1, at)) in
    let s = safe_line first (count + quiets) [] (codes "SYNCPOINT " ++ decimal n) line (point_line first (count + quiets) n safe) in
    (closed_on [] reply _ none.closed (closed_line [] (codes "SYNCPOINT " ++ decimal n) line), safe_on first _ [] reply _ none.closed (none.safe first _) s)

-- a try is honest: the call, and then what is said of it
pub try_honest : (first count durable changed : ℕ) (s : Session) (verb : Verb) (o : Outcome) (reply : List ℕ) → s.next ≡ first + count → durable ≤ count → TellsNone reply → TakesOwn s o
    → Honest first count durable (calls changed verb o ∷ says (reply ++ sync_text o.sync) ∷ [])
try_honest first count durable changed s verb o reply at within none own =
    let t = synced first count durable s.next (length o.quiets) reply o.sync at within none own in
    (refl, (tt, (t.0, (t.1, tt))))
