-- The least free slot is that of a new record, and there is none where the data set is full.
use Rattle.std.proofs.Common.{◌≡◌, ◌≢◌, ◌∙◌, ◌+◌, ◌-◌, ◌<◌, ◌≤◌, ℕ, suc, List, [], ◌∷◌, Bool, true, false, cond, eqb, Some, None, inl, inr, refl, sym, ap, subst, length, slice_get, arith}
use Rattle.std.specs.Prelude.{nat_le, nat_lt, not}
use Rattle.std.specs.List.{AllByRecursion}
use Rattle.std.specs.declared.option.Option.{Option}
use Rattle.std.specs.FinMap.{entries, entries_sorted, find, get, get-entries}
use Rattle.std.specs.Ordering.{eq_by_cmp}
use Rattle.std.proofs.lemmas.Bool.{cases_lt, true≢false}
use Rattle.std.proofs.lemmas.Bool.Decides.{nat_tests}
use Rattle.dms_desc.specs.Shape.{Shape}
use Rattle.dms_desc.specs.declared.record.Record.{Record}
use Rattle.dms_layout.specs.declared.slot.SlotRead.{SlotRead}
use Rattle.dms_layout.specs.declared.slot.SlotRead.TheVariants.{Free, Used, Bad}
use Rattle.dms_model.specs.Db.{Place, Records, fresh, gap_from, place_cmp, records_of, rows_of}
use Rattle.dms_model.specs.Fresh.{AreAbove, NoneIs, fresh_below, fresh_free, fresh_from_one, rows_rise}
use Rattle.dms_model.specs.Stores.{is_full}
use Rattle.dms_sets.specs.Spots.{StandsAmong, all_found}
use Rattle.dms_slots.specs.SlotBlocks.{before_free, or_free, slot_at, slots_of}
use Rattle.dms_links.specs.Rows.{rec_opt}
use Rattle.dms_spelling.specs.Staying.{free_there, taken_before}

-- ---- the least number that no row has

gap_least_at : (a b : Bool) (n k : ℕ) (r : ℕ × Record) (rs : List (ℕ × Record)) → eqb n r.0 ≡ a → (k ≡ r.0 → ⊥) → n ≤ k → (n + 1 ≤ k → gap_from (n + 1) rs ≤ k) → gap_from n rs ≤ k
    → cond a (gap_from (n + 1) rs) (cond b (gap_from n rs) n) ≤ k
gap_least_at true b n k r rs e off le later skip = let same : n ≡ r.0 = grind (arith, nat_tests, e) in let apart : k ≢ n = λ h. off (h ∙ same) in later (omega (arith, le, apart))
gap_least_at false true n k r rs e off le later skip = skip
gap_least_at false false n k r rs e off le later skip = le

gap_least : (n k : ℕ) (rs : List (ℕ × Record)) → NoneIs k rs → n ≤ k → gap_from n rs ≤ k
gap_least n k [] none le = le
gap_least n k (r ∷ rs) none le = gap_least_at (eqb n r.0) (nat_lt r.0 n) n k r rs refl none.0 le (λ low. gap_least (n + 1) k rs none.1 low) (gap_least n k rs none.1 le)

not_some : (r : Record) (o : Option Record) → o ≡ None → o ≡ Some r → ⊥
not_some r o none some = absurd (cc)

none_turn : (t f : Bool) (set k : ℕ) (e : Place × Record) (es : List (Place × Record)) → eqb set e.0.0 ≡ t → eq_by_cmp place_cmp (set, k) e.0 ≡ f → cond f (Some e.1) (find place_cmp (set, k) es) ≡ None
    → (find place_cmp (set, k) es ≡ None → NoneIs k (rows_of set es)) → NoneIs k (cond t ((e.0.1, e.1) ∷ rows_of set es) (rows_of set es))
none_turn t true set k e es h same none rest = absurd (cc)
none_turn true false set k e es h same none rest = (
  (λ is. true≢false (sym (at e.0 (grind (arith, nat_tests, h)) is) ∙ same)),
  rest none,
)
  where
    at : (p : Place) → set ≡ p.0 → k ≡ p.1 → eq_by_cmp place_cmp (set, k) p ≡ true
    at p a b = grind (arith, nat_tests, a, b)
none_turn false false set k e es h same none rest = rest none

none_rows : (set k : ℕ) (es : List (Place × Record)) → find place_cmp (set, k) es ≡ None → NoneIs k (rows_of set es)
none_rows set k [] none = tt
none_rows set k (e ∷ es) none = none_turn (eqb set e.0.0) (eq_by_cmp place_cmp (set, k) e.0) set k e es refl refl none (none_rows set k es)

-- the number of a new record is the least that no record has
pub fresh_least : (m : Records) (set k : ℕ) → 1 ≤ k → get m (set, k) ≡ None → fresh m set ≤ k
fresh_least m set k low none = gap_least 1 k (records_of m set) (none_rows set k (entries m) (sym (get-entries m (set, k)) ∙ none)) low

-- ---- slots

taken_rec : (r : SlotRead) → r ≢ Free → r ≢ Bad → rec_opt r ≡ None → ⊥
taken_rec Free off fine none = off refl
taken_rec (Used slot) off fine none = absurd (cc)
taken_rec Bad off fine none = fine refl

module _ (m : Records) (set : ℕ) (s : Shape) (bs : List (List ℕ)) (are : (n : ℕ) → 1 ≤ n → get m (set, n) ≡ rec_opt (slot_at s bs n)) (fine : (n : ℕ) → 1 ≤ n → slot_at s bs n ≢ Bad) where
  free_number : get m (set, before_free (slots_of s bs) + 1) ≡ None
  free_number =
      let e : (before_free (slots_of s bs) + 1) - 1 ≡ before_free (slots_of s bs) = omega arith in
      are (before_free (slots_of s bs) + 1) (omega arith) ∙ ap (λ n. rec_opt (or_free (slice_get (slots_of s bs) n))) e ∙ ap rec_opt (free_there (slots_of s bs))

  not_before : (n : ℕ) → 1 ≤ n → get m (set, n) ≡ None → n < before_free (slots_of s bs) + 1 → ⊥
  not_before n low none less =
      taken_rec (slot_at s bs n) (taken_before (slots_of s bs) (n - 1) (omega (arith, low, less)) (slot_at s bs n) refl) (fine n low) (sym (are n low) ∙ none)

  -- the number behind them is that of a new record
  pub fresh_is : fresh m set ≡ before_free (slots_of s bs) + 1
  fresh_is = elim (cases_lt (fresh m set) (before_free (slots_of s bs) + 1)) [
    | inl low ↦ absurd (not_before (fresh m set) (fresh_from_one m set) (fresh_free m set) low)
    | inr high ↦ omega (arith, high, fresh_least m set (before_free (slots_of s bs) + 1) (omega arith) free_number)
  ]

-- ---- a full data set

abbrev AllUpTo : ℕ → List (ℕ × Record) → Type 0
AllUpTo most [] = Unit {0}
AllUpTo most (r ∷ rs) = (r.0 ≤ most) × AllUpTo most rs

rows_few : (n most : ℕ) (rs : List (ℕ × Record)) → AreAbove n rs → AllUpTo most rs → n ≤ most + 1 → n + length rs ≤ most + 1
rows_few n most [] above all le = omega (arith, le)
rows_few n most (r ∷ rs) above all le = omega (arith, above.0, rows_few (r.0 + 1) most rs above.1 all.1 (omega (arith, all.0)))

gap_few_at : (a b : Bool) (n most : ℕ) (r : ℕ × Record) (rs : List (ℕ × Record)) → eqb n r.0 ≡ a → nat_lt r.0 n ≡ b → AreAbove n (r ∷ rs) → AllUpTo most (r ∷ rs)
    → (n ≡ r.0 → gap_from (n + 1) rs ≤ most → n + 1 + length rs ≤ most) → cond a (gap_from (n + 1) rs) (cond b (gap_from n rs) n) ≤ most → n + suc (length rs) ≤ most
gap_few_at true b n most r rs e f above all later le = let same : n ≡ r.0 = grind (arith, nat_tests, e) in omega (arith, later same le)
gap_few_at false true n most r rs e f above all later le = let low : r.0 < n = grind (arith, nat_tests, f) in absurd (omega (arith, low, above.0))
gap_few_at false false n most r rs e f above all later le =
    let low : n < r.0 = grind (arith, nat_tests, e, f) in
    omega (arith, low, rows_few (r.0 + 1) most rs above.1 all.1 (omega (arith, all.0)))

gap_few : (n most : ℕ) (rs : List (ℕ × Record)) → AreAbove n rs → AllUpTo most rs → gap_from n rs ≤ most → n + length rs ≤ most
gap_few n most [] above all le = omega (arith, le)
gap_few n most (r ∷ rs) above all le =
    gap_few_at (eqb n r.0) (nat_lt r.0 n) n most r rs refl refl above all
    (λ same low. gap_few (n + 1) most rs (subst (λ k. AreAbove (k + 1) rs) (sym same) above.1) all.1 low) le

up_turn : (t : Bool) (set most : ℕ) (e : Place × Record) (es : List (Place × Record)) → eqb set e.0.0 ≡ t → (set ≡ e.0.0 → e.0.1 ≤ most) → AllUpTo most (rows_of set es) → AllUpTo most (cond t ((e.0.1, e.1) ∷ rows_of set es) (rows_of set es))
up_turn true set most e es h here rest = (here (grind (arith, nat_tests, h)), rest)
up_turn false set most e es h here rest = rest

rows_up : (set most : ℕ) (es fs : List (Place × Record)) → AllByRecursion (StandsAmong es) fs → ((p : Place) (r : Record) → find place_cmp p es ≡ Some r → p.0 ≡ set → p.1 ≤ most) → AllUpTo most (rows_of set fs)
rows_up set most es [] found h = tt
rows_up set most es (e ∷ fs) found h = up_turn (eqb set e.0.0) set most e fs refl (λ own. h e.0 e.1 found.0 (sym own)) (rows_up set most es fs found.1 h)

above_one : (rs : List (ℕ × Record)) → NoneIs 0 rs → AreAbove 0 rs → AreAbove 1 rs
above_one [] none above = tt
above_one (r ∷ rs) none above = ((let apart : r.0 ≢ 0 = λ e. none.0 (sym e) in omega (arith, apart)), above.1)

-- A data set is full where the number of a new record is above POPULATION.
pub full_is : (m : Records) (set : ℕ) (s : Shape) → get m (set, 0) ≡ None → ((p : Place) (r : Record) → get m p ≡ Some r → p.0 ≡ set → p.1 ≤ s.population) → (b : Bool) → nat_le (fresh m set) s.population ≡ b → is_full (Some s) (length (records_of m set)) ≡ not b
full_is m set s none most true is =
    let le : fresh m set ≤ s.population = grind (arith, nat_tests, is) in
    let above = above_one (records_of m set) (none_rows set 0 (entries m) (sym (get-entries m (set, 0)) ∙ none)) (rows_rise set (entries m) (entries_sorted m)) in
    let all = rows_up set s.population (entries m) (entries m) (all_found (entries m) (entries_sorted m)) (λ p r at own. most p r (get-entries m p ∙ at) own) in
    let few : 1 + length (records_of m set) ≤ s.population = gap_few 1 s.population (records_of m set) above all le in
    grind (arith, nat_tests, few)
full_is m set s none most false is =
    let high : s.population < fresh m set = grind (arith, nat_tests, is) in
    let many : s.population ≤ length (records_of m set) = omega (arith, high, fresh_below m set) in
    grind (arith, nat_tests, many)
