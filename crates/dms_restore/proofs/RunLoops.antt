-- One run more, and one file or row more.
use Rattle.std.specs.Prelude.{◌==◌, ◌||◌, ◌&&◌, nat_le, nat_lt}
use Rattle.std.proofs.Common.{ℕ, zero, suc, ◌+◌, ◌*◌, ◌<◌, ◌≤◌, ◌≡◌, ◌⊎◌, inl, inr, Bool, true, false, cond, List, [], ◌∷◌, ◌++◌, length, take, drop, get_or, refl, sym, ◌∙◌, ap, subst, arith}
use Rattle.std.proofs.lemmas.Bool.{cases_Bool, true≢false}
use Rattle.std.proofs.lemmas.Bool.Decides.{nat_tests}
use Rattle.std.proofs.lemmas.List.{take_more, take_all}
use Rattle.dms_history.specs.Lists.{has}
use Rattle.dms_history.specs.Entries.{counts_in, is_in_row, named_by}
use Rattle.dms_history.specs.declared.event.FileCount.{FileCount}
use Rattle.dms_history.specs.declared.event.Row.{Row}
use Rattle.dms_history.proofs.Order.{eq_of}
use Rattle.dms_history.proofs.Schemas.{rows_of_blocks}
use Rattle.dms_dump.specs.Head.{Head}
use Rattle.dms_dump.specs.Body.{blocks_before}
use Rattle.dms_restore.specs.declared.run.Run.{Run}
use Rattle.dms_restore.specs.Planned.{IsRunOf, AreRunsOf, IsInRun, IsInRuns}

-- ---- one run more

pub runs_push : (h : Head) (d : ℕ) (counts : List ℕ) (rs : List Run) (r : Run) → AreRunsOf h d counts rs → IsRunOf h d counts r → AreRunsOf h d counts (rs ++ r ∷ [])
runs_push h d counts [] r are one = (one, tt)
runs_push h d counts (x ∷ rs) r are one = (are.0, runs_push h d counts rs r are.1 one)

pub in_runs_old : (f b : ℕ) (rs : List Run) (r : Run) → IsInRuns f b rs → IsInRuns f b (rs ++ r ∷ [])
in_runs_old f b [] r is = absurd is
in_runs_old f b (x ∷ rs) r is = elim is [ inl here ↦ inl here | inr more ↦ inr (in_runs_old f b rs r more) ]

pub in_runs_new : (f b : ℕ) (rs : List Run) (r : Run) → IsInRun f b r → IsInRuns f b (rs ++ r ∷ [])
in_runs_new f b [] r is = inl is
in_runs_new f b (x ∷ rs) r is = inr (in_runs_new f b rs r is)

pub in_runs_either : (f b : ℕ) (rs : List Run) (r : Run) → IsInRuns f b (rs ++ r ∷ []) → IsInRuns f b rs ⊎ IsInRun f b r
in_runs_either f b [] r is = elim is [ inl here ↦ inr here | inr none ↦ absurd none ]
in_runs_either f b (x ∷ rs) r is = elim is [
  | inl here ↦ inl (inl here)
  | inr more ↦ elim (in_runs_either f b rs r more) [ inl old ↦ inl (inr old) | inr new ↦ inr new ]
]

-- ---- one file more

pub drop_at : {A : Type 0} (xs : List A) (i : ℕ) (d : A) → i < length xs → drop i xs ≡ get_or xs i d ∷ drop (i + 1) xs
drop_at [] i d low = absurd (omega (arith, low))
drop_at (x ∷ xs) zero d low = refl
drop_at {A} (x ∷ xs) (suc i) d low =
    let next : suc (i + 1) ≡ suc i + 1 = omega arith in
    drop_at xs i d (omega (arith, low)) ∙ ap (λ k. get_or xs i d ∷ drop k (x ∷ xs)) next

pub drop_end : {A : Type 0} (xs : List A) (i : ℕ) → length xs ≤ i → drop i xs ≡ []
drop_end [] zero le = refl
drop_end [] (suc i) le = refl
drop_end (x ∷ xs) zero le = absurd (omega (arith, le))
drop_end (x ∷ xs) (suc i) le = drop_end xs i (omega (arith, le))

same_test : (g f : ℕ) → g ≡ f → (g == f) ≡ true
same_test g f same = grind (arith, nat_tests, same)

other_test : (g f : ℕ) → ((g ≡ f) → ⊥) → (g == f) ≡ false
other_test g f other = grind (arith, nat_tests, other)

module _ (cs : List FileCount) (i f : ℕ) (d : FileCount) (low : i < length cs) where
  abbrev c : FileCount
  c = get_or cs i d

  pub before_other : ((c.file ≡ f) → ⊥) → blocks_before f (drop i cs) ≡ c.blocks + blocks_before f (drop (i + 1) cs)
  before_other other = ap (blocks_before f) (drop_at cs i d low) ∙ ap (λ t. cond t 0 (c.blocks + blocks_before f (drop (i + 1) cs))) (other_test c.file f other)

  pub count_other : ((c.file ≡ f) → ⊥) → counts_in (drop i cs) f ≡ counts_in (drop (i + 1) cs) f
  count_other other = ap (λ (l : List FileCount). counts_in l f) (drop_at cs i d low) ∙ ap (λ t. cond t c.blocks (counts_in (drop (i + 1) cs) f)) (other_test c.file f other)

  pub before_here : c.file ≡ f → blocks_before f (drop i cs) ≡ 0
  before_here is = ap (blocks_before f) (drop_at cs i d low) ∙ ap (λ t. cond t 0 (c.blocks + blocks_before f (drop (i + 1) cs))) (same_test c.file f is)

  pub count_here : c.file ≡ f → counts_in (drop i cs) f ≡ c.blocks
  count_here is = ap (λ (l : List FileCount). counts_in l f) (drop_at cs i d low) ∙ ap (λ t. cond t c.blocks (counts_in (drop (i + 1) cs) f)) (same_test c.file f is)

pub counts_end : (cs : List FileCount) (i f : ℕ) → length cs ≤ i → (blocks_before f (drop i cs) ≡ 0) × (counts_in (drop i cs) f ≡ 0)
counts_end cs i f le = (ap (blocks_before f) (drop_end cs i le), ap (λ (l : List FileCount). counts_in l f) (drop_end cs i le))

-- a count among one more is one of before, or that of the new one
count_push : (cs : List FileCount) (c : FileCount) (f b : ℕ) → b < counts_in (cs ++ c ∷ []) f → (b < counts_in cs f) ⊎ ((c.file ≡ f) × (b < c.blocks))
count_push [] c f b low = elim (cases_Bool (c.file == f)) [
  | inl on ↦ inr (eq_of c.file f on, subst (λ n. b < n) (ap (λ t. cond t c.blocks 0) on) low)
  | inr off ↦ absurd (none b (subst (λ n. b < n) (ap (λ t. cond t c.blocks 0) off) low))
]
  where
    none : (b : ℕ) → b < 0 → ⊥
    none b low = omega (arith, low)
count_push (x ∷ cs) c f b low = elim (cases_Bool (x.file == f)) [
  | inl on ↦ inl (subst (λ n. b < n) (sym (ap (λ t. cond t x.blocks (counts_in cs f)) on)) (subst (λ n. b < n) (ap (λ t. cond t x.blocks (counts_in (cs ++ c ∷ []) f)) on) low))
  | inr off ↦ elim (count_push cs c f b (subst (λ n. b < n) (ap (λ t. cond t x.blocks (counts_in (cs ++ c ∷ []) f)) off) low)) [
    | inl old ↦ inl (subst (λ n. b < n) (sym (ap (λ t. cond t x.blocks (counts_in cs f)) off)) old)
    | inr new ↦ inr new
  ]
]

pub count_step : (cs : List FileCount) (i : ℕ) (d : FileCount) (f b : ℕ) → i < length cs → b < counts_in (take (i + 1) cs) f → (b < counts_in (take i cs) f) ⊎ (((get_or cs i d).file ≡ f) × (b < (get_or cs i d).blocks))
count_step cs i d f b low within = count_push (take i cs) (get_or cs i d) f b (subst (λ (l : List FileCount). b < counts_in l f) (take_more cs i d low) within)

pub count_all : (cs : List FileCount) (i f b : ℕ) → length cs ≤ i → b < counts_in cs f → b < counts_in (take i cs) f
count_all cs i f b le low = subst (λ (l : List FileCount). b < counts_in l f) (sym (take_all i cs le)) low

-- ---- one row more

or_split : (a b : Bool) → a || b ≡ true → (a ≡ true) ⊎ (b ≡ true)
or_split true b is = inl refl
or_split false b is = inr is

or_left : (a b : Bool) → a ≡ true → a || b ≡ true
or_left a b is = ap (λ k. k || b) is

or_right : (a b : Bool) → b ≡ true → a || b ≡ true
or_right true b is = refl
or_right false b is = is

or_assoc : (a b c : Bool) → a || (b || c) ≡ (a || b) || c
or_assoc true b c = refl
or_assoc false b c = refl

has_on : (p : Row → Bool) (xs ys : List Row) → has p (xs ++ ys) ≡ (has p xs || has p ys)
has_on p [] ys = refl
has_on p (x ∷ xs) ys = ap (λ k. p x || k) (has_on p xs ys) ∙ or_assoc (p x) (has p xs) (has p ys)

named_push : (rows : List Row) (i : ℕ) (d : Row) (f b : ℕ) → i < length rows → named_by (take (i + 1) rows) f b ≡ named_by (take i rows) f b || (is_in_row f b (get_or rows i d) || false)
named_push rows i d f b low = ap (λ (l : List Row). named_by l f b) (take_more rows i d low) ∙ has_on (is_in_row f b) (take i rows) (get_or rows i d ∷ [])

row_at : (f b : ℕ) (r : Row) → is_in_row f b r ≡ true → (r.file ≡ f) × (16 * r.row ≤ b) × (b < 16 * r.row + 16)
row_at f b r on = elim (cases_Bool (r.file == f)) [
  | inl same ↦
      let at : is_in_row f b (record { file = f; row = r.row }) ≡ true = subst (λ g. is_in_row f b (record { file = g; row = r.row }) ≡ true) (eq_of r.file f same) on in
      (eq_of r.file f same, (rows_of_blocks f b r.row).from_first at, (rows_of_blocks f b r.row).to_last at)
  | inr other ↦ absurd (true≢false (sym on ∙ ap (λ t. t && (nat_le (16 * r.row) b && nat_lt b (16 * r.row + 16))) other))
]

at_row : (f b : ℕ) (r : Row) → f ≡ r.file → 16 * r.row ≤ b → b < 16 * r.row + 16 → is_in_row f b r ≡ true
at_row f b r same low high = subst (λ g. is_in_row g b r ≡ true) (sym same) ((rows_of_blocks r.file b r.row).within low high)

pub named_step : (rows : List Row) (i : ℕ) (d : Row) (f b : ℕ) → i < length rows → named_by (take (i + 1) rows) f b ≡ true
    → (named_by (take i rows) f b ≡ true) ⊎ (((get_or rows i d).file ≡ f) × (16 * (get_or rows i d).row ≤ b) × (b < 16 * (get_or rows i d).row + 16))
named_step rows i d f b low named = elim (or_split (named_by (take i rows) f b) _ (sym (named_push rows i d f b low) ∙ named)) [
  | inl old ↦ inl old
  | inr new ↦ elim (or_split (is_in_row f b (get_or rows i d)) false new) [ inl here ↦ inr (row_at f b (get_or rows i d) here) | inr none ↦ absurd (true≢false (sym none)) ]
]

pub named_old : (rows : List Row) (i : ℕ) (d : Row) (f b : ℕ) → i < length rows → named_by (take i rows) f b ≡ true → named_by (take (i + 1) rows) f b ≡ true
named_old rows i d f b low named = named_push rows i d f b low ∙ or_left (named_by (take i rows) f b) _ named

pub named_new : (rows : List Row) (i : ℕ) (d : Row) (f b : ℕ) → i < length rows → f ≡ (get_or rows i d).file → 16 * (get_or rows i d).row ≤ b → b < 16 * (get_or rows i d).row + 16 → named_by (take (i + 1) rows) f b ≡ true
named_new rows i d f b low same from to =
    named_push rows i d f b low ∙ or_right (named_by (take i rows) f b) _ (or_left (is_in_row f b (get_or rows i d)) false (at_row f b (get_or rows i d) same from to))

pub named_all : (rows : List Row) (i : ℕ) (f b : ℕ) → length rows ≤ i → named_by (take i rows) f b ≡ named_by rows f b
named_all rows i f b le = ap (λ (l : List Row). named_by l f b) (take_all i rows le)
