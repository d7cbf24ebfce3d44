-- A row that is put among rows that rise.
use Rattle.std.specs.Prelude.{nat_lt, nat_le, ◌&&◌, ◌||◌}
use Rattle.std.proofs.Common.{ℕ, ◌+◌, ◌*◌, ◌^◌, ◌<◌, ◌≤◌, ◌≡◌, Bool, true, false, cond, List, [], ◌∷◌, ◌++◌, length, get_or, take, drop, refl, sym, ap, ◌∙◌, subst, append_assoc, arith}
use Rattle.std.proofs.lemmas.Bool.{and_parts, and_from, leb-true, le-leb, lt-ltb, le-ltb, ltb-true, ltb-false}
use Rattle.std.proofs.lemmas.List.{drop_all, drop_more, take-append-drop, take_all, take_more}
use Rattle.dms_history.specs.Entries.{is_in_row, named_by}
use Rattle.dms_history.specs.Lists.{has}
use Rattle.dms_history.specs.declared.event.Row.{Row}
use Rattle.dms_audrec.specs.Spelling.{ArePairsSmall, row_file, row_number, rows_rise}

-- rows rise by this number
abbrev pub key : Row → ℕ
key r = r.file * 2 ^ 32 + r.row

-- a row at its place, unless it is there
abbrev pub placed : Row → List Row → List Row
placed r [] = r ∷ []
placed r (x ∷ xs) = cond (nat_lt (key x) (key r)) (x ∷ placed r xs) (cond (nat_lt (key r) (key x)) (r ∷ (x ∷ xs)) (x ∷ xs))

-- ---- which case it is

pub placed_above : (r x : Row) (xs : List Row) → key x < key r → placed r (x ∷ xs) ≡ x ∷ placed r xs
placed_above r x xs less = ap (λ (b : Bool). cond b (x ∷ placed r xs) (cond (nat_lt (key r) (key x)) (r ∷ (x ∷ xs)) (x ∷ xs))) (lt-ltb (key x) (key r) less)

pub placed_here : (r x : Row) (xs : List Row) → key r < key x → placed r (x ∷ xs) ≡ r ∷ (x ∷ xs)
placed_here r x xs less =
    ap (λ (b : Bool). cond b (x ∷ placed r xs) (cond (nat_lt (key r) (key x)) (r ∷ (x ∷ xs)) (x ∷ xs))) (le-ltb (key x) (key r) (omega (arith, less)))
    ∙ ap (λ (b : Bool). cond b (r ∷ (x ∷ xs)) (x ∷ xs)) (lt-ltb (key r) (key x) less)

pub placed_there : (r x : Row) (xs : List Row) → key r ≡ key x → placed r (x ∷ xs) ≡ x ∷ xs
placed_there r x xs same =
    ap (λ (b : Bool). cond b (x ∷ placed r xs) (cond (nat_lt (key r) (key x)) (r ∷ (x ∷ xs)) (x ∷ xs))) (le-ltb (key x) (key r) (omega (arith, same)))
    ∙ ap (λ (b : Bool). cond b (r ∷ (x ∷ xs)) (x ∷ xs)) (le-ltb (key r) (key x) (omega (arith, same)))

-- a property of what is placed, by the three cases
by_place : (P : List Row → Type 0) (r x : Row) (xs : List Row) → (key x < key r → P (x ∷ placed r xs)) → (key r < key x → P (r ∷ (x ∷ xs))) → (key r ≡ key x → P (x ∷ xs)) → P (placed r (x ∷ xs))
by_place P r x xs above here there = first (nat_lt (key x) (key r)) refl
  where
    second : (b : Bool) → nat_lt (key r) (key x) ≡ b → key r ≤ key x → P (cond b (r ∷ (x ∷ xs)) (x ∷ xs))
    second true e le = here (ltb-true (key r) (key x) e)
    second false e le = there (omega (arith, le, ltb-false (key r) (key x) e))

    first : (b : Bool) → nat_lt (key x) (key r) ≡ b → P (cond b (x ∷ placed r xs) (cond (nat_lt (key r) (key x)) (r ∷ (x ∷ xs)) (x ∷ xs)))
    first true e = above (ltb-true (key x) (key r) e)
    first false e = second (nat_lt (key r) (key x)) refl (ltb-false (key x) (key r) e)

-- ---- it rises

record RisesFrom (low : ℕ) (x : Row) (xs : List Row) : Type 0 where
  above : 30001 ≤ x.file
  below : x.file ≤ 30200
  from : low ≤ key x
  rest : rows_rise (key x + 1) xs ≡ true

rises_parts : (low : ℕ) (x : Row) (xs : List Row) → rows_rise low (x ∷ xs) ≡ true → RisesFrom low x xs
rises_parts low x xs rises =
    let one = and_parts (nat_le 30001 x.file) (nat_le x.file 30200 && (nat_le low (key x) && rows_rise (key x + 1) xs)) rises in
    let two = and_parts (nat_le x.file 30200) (nat_le low (key x) && rows_rise (key x + 1) xs) one.1 in
    let three = and_parts (nat_le low (key x)) (rows_rise (key x + 1) xs) two.1 in
    record { above = leb-true 30001 x.file one.0; below = leb-true x.file 30200 two.0; from = leb-true low (key x) three.0; rest = three.1 }

rises_from : (low : ℕ) (x : Row) (xs : List Row) → RisesFrom low x xs → rows_rise low (x ∷ xs) ≡ true
rises_from low x xs r =
    and_from (nat_le 30001 x.file) (nat_le x.file 30200 && (nat_le low (key x) && rows_rise (key x + 1) xs)) (le-leb 30001 x.file r.above)
    (and_from (nat_le x.file 30200) (nat_le low (key x) && rows_rise (key x + 1) xs) (le-leb x.file 30200 r.below)
    (and_from (nat_le low (key x)) (rows_rise (key x + 1) xs) (le-leb low (key x) r.from) r.rest))

pub placed_rises : (low : ℕ) (r : Row) (xs : List Row) → 30001 ≤ r.file → r.file ≤ 30200 → low ≤ key r → rows_rise low xs ≡ true → rows_rise low (placed r xs) ≡ true
placed_rises low r [] above below from rises = rises_from low r [] (record { above = above; below = below; from = from; rest = refl })
placed_rises low r (x ∷ xs) above below from rises =
    let p = rises_parts low x xs rises in
    by_place (λ (l : List Row). rows_rise low l ≡ true) r x xs
    (λ less. rises_from low x (placed r xs) (record { above = p.above; below = p.below; from = p.from; rest = placed_rises (key x + 1) r xs above below (omega (arith, less)) p.rest }))
    (λ less. rises_from low r (x ∷ xs)
    (record { above = above; below = below; from = from; rest = rises_from (key r + 1) x xs (record { above = p.above; below = p.below; from = omega (arith, less); rest = p.rest }) }))
    (λ same. rises)

-- ---- its numbers are small

pub placed_small : (r : Row) (xs : List Row) → r.file < 2 ^ 32 → r.row < 2 ^ 32 → ArePairsSmall row_file row_number xs → ArePairsSmall row_file row_number (placed r xs)
placed_small r [] file row small = (file, row, tt)
placed_small r (x ∷ xs) file row small =
    by_place (λ (l : List Row). ArePairsSmall row_file row_number l) r x xs
    (λ less. (small.0, small.1, placed_small r xs file row small.2))
    (λ less. (file, row, small))
    (λ same. small)

-- ---- it is one more at most

pub placed_more : (r : Row) (xs : List Row) → length (placed r xs) ≤ length xs + 1
placed_more r [] = omega arith
placed_more r (x ∷ xs) =
    by_place (λ (l : List Row). length l ≤ length (x ∷ xs) + 1) r x xs
    (λ less. omega (arith, placed_more r xs))
    (λ less. omega arith)
    (λ same. omega arith)

-- ---- what it has

or_swap : (a b c : Bool) → (b || (a || c)) ≡ (a || (b || c))
or_swap true true c = refl
or_swap true false c = refl
or_swap false true c = refl
or_swap false false c = refl

or_twice : (a b c : Bool) → a ≡ b → (b || c) ≡ (a || (b || c))
or_twice true true c same = refl
or_twice true false c same = absurd cc
or_twice false true c same = absurd cc
or_twice false false c same = refl

-- rows with one number are one
same_row : (r x : Row) → r.row < 2 ^ 32 → x.row < 2 ^ 32 → key r ≡ key x → r ≡ x
same_row r x one two same =
    let file : r.file ≡ x.file = omega (arith, one, two, same) in
    let row : r.row ≡ x.row = omega (arith, one, two, same) in
    λ i. record { file = file i; row = row i }

pub placed_has : (p : Row → Bool) (r : Row) (xs : List Row) → r.row < 2 ^ 32 → ArePairsSmall row_file row_number xs → has p (placed r xs) ≡ (p r || has p xs)
placed_has p r [] row small = refl
placed_has p r (x ∷ xs) row small =
    by_place (λ (l : List Row). has p l ≡ (p r || has p (x ∷ xs))) r x xs
    (λ less. ap (λ (b : Bool). p x || b) (placed_has p r xs row small.2) ∙ or_swap (p r) (p x) (has p xs))
    (λ less. refl)
    (λ same. or_twice (p r) (p x) (has p xs) (ap p (same_row r x row small.1 same)))

-- ---- its place is found from the front

module _ (r : Row) (rows : List Row) (i : ℕ) (before : placed r rows ≡ take i rows ++ placed r (drop i rows)) where
  module _ (x : Row) (within : i < length rows) (is : x ≡ get_or rows i x) where
    rest : drop i rows ≡ x ∷ drop (i + 1) rows
    rest = drop_more rows i x within ∙ ap (λ (y : Row). y ∷ drop (i + 1) rows) (sym is)

    front : take (i + 1) rows ≡ take i rows ++ x ∷ []
    front = take_more rows i x within ∙ ap (λ (y : Row). take i rows ++ y ∷ []) (sym is)

    pub place_next : key x < key r → placed r rows ≡ take (i + 1) rows ++ placed r (drop (i + 1) rows)
    place_next less =
        before ∙ ap (λ (l : List Row). take i rows ++ placed r l) rest ∙ ap (λ (l : List Row). take i rows ++ l) (placed_above r x (drop (i + 1) rows) less)
        ∙ sym (append_assoc (take i rows) (x ∷ []) (placed r (drop (i + 1) rows))) ∙ ap (λ (l : List Row). l ++ placed r (drop (i + 1) rows)) (sym front)

    pub place_here : key r < key x → placed r rows ≡ take i rows ++ r ∷ drop i rows
    place_here less =
        before ∙ ap (λ (l : List Row). take i rows ++ placed r l) rest ∙ ap (λ (l : List Row). take i rows ++ l) (placed_here r x (drop (i + 1) rows) less) ∙ ap (λ (l : List Row). take i rows ++ r ∷ l) (sym rest)

    pub place_there : key r ≡ key x → placed r rows ≡ rows
    place_there same =
        before ∙ ap (λ (l : List Row). take i rows ++ placed r l) rest ∙ ap (λ (l : List Row). take i rows ++ l) (placed_there r x (drop (i + 1) rows) same) ∙ ap (λ (l : List Row). take i rows ++ l) (sym rest)
        ∙ take-append-drop i rows

  pub place_end : length rows ≤ i → placed r rows ≡ rows ++ r ∷ []
  place_end past = before ∙ (λ j. take_all i rows past j ++ placed r (drop_all i rows past j))

-- what it is to put a row among others
pub record Puts (r : Row) (old new : List Row) : Type 0 where
  pub rising : rows_rise 0 new ≡ true
  pub small : ArePairsSmall row_file row_number new
  pub named : (f b : ℕ) → named_by new f b ≡ (is_in_row f b r || named_by old f b)
  pub more : length new ≤ length old + 1

pub puts : (r : Row) (old new : List Row) → 30001 ≤ r.file → r.file ≤ 30200 → r.row < 2 ^ 32 → rows_rise 0 old ≡ true → ArePairsSmall row_file row_number old → new ≡ placed r old → Puts r old new
puts r old new above below row rising small is =
    subst (λ (l : List Row). Puts r old l) (sym is) (record {
      rising = placed_rises 0 r old above below (omega arith) rising;
      small = placed_small r old (omega (arith, below)) row small;
      named = λ f b. placed_has (is_in_row f b) r old row small;
      more = placed_more r old;
    })
