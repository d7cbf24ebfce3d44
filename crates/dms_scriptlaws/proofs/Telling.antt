-- What a prefix of honest events tells.
use Rattle.std.proofs.Common.{ℕ, ◌≡◌, ◌≤◌, ◌<◌, ◌+◌, ◌==◌, ◌⊎◌, inl, Bool, true, false, List, [], ◌∷◌, ◌++◌, take, length, max, refl, sym, subst, arith, if◌then◌else◌, Option, Some, None, zero, suc}
use Rattle.std.specs.Bool.{⊤}
use Rattle.std.proofs.lemmas.List.{append_assoc}
use Rattle.dms_model.specs.Points.{Quiet}
use Rattle.dms_runner.specs.Events.{RunEvent, text_of, durable_by, durable_after}
use Rattle.dms_scriptlaws.specs.Told.{told_line, told_from}

-- a number that was told: none, or one of a quiet point from the first one on that is durable
abbrev pub IsSafe : ℕ → ℕ → ℕ → Type 0
IsSafe first durable n = (n ≡ 0) ⊎ ((first ≤ n) × (n < first + durable))

-- the first, or the second
abbrev pub Either : Bool → Type 0 → Type 0 → Type 0
Either true A B = A
Either false A B = B

-- each whole line of a text tells no number, or a safe one; the text stands behind these bytes of a line
abbrev pub Safe : ℕ → ℕ → List ℕ → List ℕ → Type 0
Safe first durable line [] = ⊤
Safe first durable line (b ∷ bs) = Either (b == 10) (IsSafe first durable (told_line line) × Safe first durable [] bs) (Safe first durable (line ++ b ∷ []) bs)

-- a text ends with a line's end, behind these bytes of a line
abbrev pub Closed : List ℕ → List ℕ → Type 0
Closed line [] = line ≡ []
Closed line (b ∷ bs) = Either (b == 10) (Closed [] bs) (Closed (line ++ b ∷ []) bs)

-- each event says whole lines, and tells no point that isn't durable yet
abbrev pub Honest : ℕ → ℕ → ℕ → List RunEvent → Type 0
Honest first count durable [] = ⊤
Honest first count durable (e ∷ es) = Closed [] e.text × (Safe first durable [] e.text × Honest first (count + length e.quiets) (durable_by e.sync durable (count + length e.quiets)) es)

-- numbers without a gap
abbrev pub AreNumberedFrom : ℕ → List Quiet → Type 0
AreNumberedFrom n [] = ⊤
AreNumberedFrom n (q ∷ qs) = (q.0 ≡ n) × AreNumberedFrom (n + 1) qs

safe_max : (first durable n m : ℕ) → IsSafe first durable n → IsSafe first durable m → IsSafe first durable (max n m)
safe_max first durable n m p q = grind arith

told_either : (t : Bool) (first durable n m : ℕ) {A B : Type 0} → (A → IsSafe first durable n) → (B → IsSafe first durable m) → Either t A B → IsSafe first durable (if t then n else m)
told_either true first durable n m f g a = f a
told_either false first durable n m f g b = g b

-- the greatest number told is safe
pub told_safe : (first durable : ℕ) (line text : List ℕ) → Safe first durable line text → IsSafe first durable (told_from line text)
told_safe first durable line [] safe = inl refl
told_safe first durable line (b ∷ bs) safe =
    told_either (b == 10) first durable _ _ (λ p. safe_max first durable _ _ p.0 (told_safe first durable [] bs p.1)) (λ p. told_safe first durable (line ++ b ∷ []) bs p) safe

either_map : (t : Bool) {A B C D : Type 0} → (A → C) → (B → D) → Either t A B → Either t C D
either_map true f g a = f a
either_map false f g b = g b

either_two : (t : Bool) {A B C D E F : Type 0} → (A → C → E) → (B → D → F) → Either t A B → Either t C D → Either t E F
either_two true f g a c = f a c
either_two false f g b d = g b d

safe_later : (first durable durable' n : ℕ) → durable ≤ durable' → IsSafe first durable n → IsSafe first durable' n
safe_later first durable durable' n le p = grind arith

-- what is safe stays so
pub more_durable : (first durable durable' : ℕ) (line text : List ℕ) → durable ≤ durable' → Safe first durable line text → Safe first durable' line text
more_durable first durable durable' line [] le safe = tt
more_durable first durable durable' line (b ∷ bs) le safe =
    either_map (b == 10) (λ p. (safe_later first durable durable' _ le p.0, more_durable first durable durable' [] bs le p.1)) (λ p. more_durable first durable durable' _ bs le p) safe

take_none : (t : List ℕ) → take 0 t ≡ []
take_none t = grind arith

-- a prefix of a text
pub safe_front : (first durable n : ℕ) (line text : List ℕ) → Safe first durable line text → Safe first durable line (take n text)
safe_front first durable zero line text safe = subst (λ (t : List ℕ). Safe first durable line t) (sym (take_none text)) tt
safe_front first durable (suc n) line [] safe = tt
safe_front first durable (suc n) line (b ∷ bs) safe = either_map (b == 10) (λ p. (p.0, safe_front first durable n [] bs p.1)) (λ p. safe_front first durable n _ bs p) safe

-- a text of whole lines and another text
pub safe_on : (first durable : ℕ) (line a b : List ℕ) → Closed line a → Safe first durable line a → Safe first durable [] b → Safe first durable line (a ++ b)
safe_on first durable line [] b closed safe more = subst (λ (l : List ℕ). Safe first durable l b) (sym closed) more
safe_on first durable line (x ∷ xs) b closed safe more =
    either_two (x == 10) (λ c p. (p.0, safe_on first durable [] xs b c p.1 more)) (λ c p. safe_on first durable _ xs b c p more) closed safe

-- two texts of whole lines
pub closed_on : (line a b : List ℕ) → Closed line a → Closed [] b → Closed line (a ++ b)
closed_on line [] b p q = subst (λ (l : List ℕ). Closed l b) (sym p) q
closed_on line (x ∷ xs) b p q = either_map (x == 10) (λ h. closed_on [] xs b h q) (λ h. closed_on (line ++ x ∷ []) xs b h q) p

pub covered_later : (o : Option ℕ) (durable all : ℕ) → durable ≤ all → durable ≤ durable_by o durable all
covered_later None durable all le = omega arith
covered_later (Some n) durable all le = le

pub covered_within : (o : Option ℕ) (durable all : ℕ) → durable ≤ all → durable_by o durable all ≤ all
covered_within None durable all le = le
covered_within (Some n) durable all le = omega arith

pub durable_later : (count durable : ℕ) (events : List RunEvent) → durable ≤ count → durable ≤ durable_after count durable events
durable_later count durable [] le = omega arith
durable_later count durable (e ∷ es) le =
    let le' : durable ≤ count + length e.quiets = omega (arith, le) in
    omega (arith, covered_later e.sync durable (count + length e.quiets) le', durable_later (count + length e.quiets) (durable_by e.sync durable (count + length e.quiets)) es (covered_within e.sync durable _ le'))

-- what was said up to a place within honest events tells what is durable there
pub told_stopped : (first count durable n : ℕ) (before : List RunEvent) (at : RunEvent) (rest : List RunEvent) → durable ≤ count → Honest first count durable (before ++ at ∷ rest)
    → Safe first (durable_after count durable before) [] (text_of before ++ take n at.text)
told_stopped first count durable n [] at rest le honest = safe_front first durable n [] at.text honest.1.0
told_stopped first count durable n (e ∷ es) at rest le honest =
    let le' : durable ≤ count + length e.quiets = omega (arith, le) in
    let within = covered_within e.sync durable (count + length e.quiets) le' in
    let later : durable ≤ durable_after count durable (e ∷ es) = durable_later count durable (e ∷ es) le in
    subst (λ (t : List ℕ). Safe first (durable_after count durable (e ∷ es)) [] t) (sym (append_assoc e.text (text_of es) (take n at.text)))
    (safe_on first _ [] e.text _ honest.0 (more_durable first durable _ [] e.text later honest.1.0)
    (told_stopped first (count + length e.quiets) (durable_by e.sync durable (count + length e.quiets)) n es at rest within honest.1.1))
