-- The entries of a database with one more, and with one less: they rise, each stands, and no subset has more than its POPULATION.
use Rattle.std.proofs.Common.{◌≡◌, ◌∙◌, ◌+◌, ◌<◌, ◌≤◌, ℕ, List, [], ◌∷◌, Bool, true, false, cond, Some, refl, sym, ap, length, filter, arith}
use Rattle.std.specs.Prelude.{◌||◌, ◌==◌, not}
use Rattle.std.specs.List.{AllByRecursion, list_any}
use Rattle.std.specs.Ordering.{is_lt, ordering_reverse}
use Rattle.std.specs.declared.cmp.Ordering.{Ordering}
use Rattle.std.specs.declared.cmp.Ordering.TheVariants.{Less, Equal, Greater}
use Rattle.std.proofs.lemmas.Bool.Decides.{nat_tests}
use Rattle.dms_desc.specs.Lookups.{structure_of}
use Rattle.dms_desc.specs.Shape.{Shape, Described}
use Rattle.dms_desc.specs.Sorted.{place_in}
use Rattle.dms_manual.specs.Moves.{with_entry_of}
use Rattle.dms_model.specs.Db.{Db, SubsetEntry}
use Rattle.dms_model.specs.Members.{names}
use Rattle.dms_model.specs.Uses.{after_leave, entry_before, entry_of, has_entry, is_in_subset, is_not_entry}
use Rattle.dms_model.specs.Valid.{AreRising, EntryStands, entry_cmp, is_manual}
use Rattle.dms_spelling.specs.Again.{entries_same, entries_total}
use Rattle.dms_spelling.specs.Stands.{EntriesStand}

-- ---- elements of a list

all_placed : (P : SubsetEntry → Type 0) (x : SubsetEntry) (es : List SubsetEntry) → P x → AllByRecursion P es → AllByRecursion P (place_in entry_before x es)
all_placed P x [] h all = (h, tt)
all_placed P x (e ∷ es) h all = by (entry_before x e) (all_placed P x es h all.1)
  where
    by : (b : Bool) → AllByRecursion P (place_in entry_before x es) → AllByRecursion P (cond b (x ∷ e ∷ es) (e ∷ place_in entry_before x es))
    by true rest = (h, all)
    by false rest = (all.0, rest)

all_kept : (P : SubsetEntry → Type 0) (p : SubsetEntry → Bool) (es : List SubsetEntry) → AllByRecursion P es → AllByRecursion P (filter p es)
all_kept P p [] all = tt
all_kept P p (e ∷ es) all = by (p e) (all_kept P p es all.1)
  where
    by : (b : Bool) → AllByRecursion P (filter p es) → AllByRecursion P (cond b (e ∷ filter p es) (filter p es))
    by true rest = (all.0, rest)
    by false rest = rest

all_as : (P Q : SubsetEntry → Type 0) (es : List SubsetEntry) → ((e : SubsetEntry) → P e → Q e) → AllByRecursion P es → AllByRecursion Q es
all_as P Q [] f all = tt
all_as P Q (e ∷ es) f all = (f e all.0, all_as P Q es f all.1)

long_placed : (p : SubsetEntry → Bool) (x : SubsetEntry) (es : List SubsetEntry) → length (filter p (place_in entry_before x es)) ≡ cond (p x) 1 0 + length (filter p es)
long_placed p x [] = by (p x)
  where
    by : (b : Bool) → length (cond b (x ∷ []) []) ≡ cond b 1 0 + 0
    by true = refl
    by false = refl
long_placed p x (e ∷ es) = by (entry_before x e) (long_placed p x es)
  where
    two : (a b : Bool) → length (cond a (x ∷ cond b (e ∷ filter p es) (filter p es)) (cond b (e ∷ filter p es) (filter p es))) ≡ cond a 1 0 + length (cond b (e ∷ filter p es) (filter p es))
    two true b = omega arith
    two false b = omega arith

    later : (b : Bool) → length (filter p (place_in entry_before x es)) ≡ cond (p x) 1 0 + length (filter p es)
        → length (cond b (e ∷ filter p (place_in entry_before x es)) (filter p (place_in entry_before x es))) ≡ cond (p x) 1 0 + length (cond b (e ∷ filter p es) (filter p es))
    later true rest = omega (arith, rest)
    later false rest = omega (arith, rest)

    by : (b : Bool) → length (filter p (place_in entry_before x es)) ≡ cond (p x) 1 0 + length (filter p es)
        → length (filter p (cond b (x ∷ e ∷ es) (e ∷ place_in entry_before x es))) ≡ cond (p x) 1 0 + length (filter p (e ∷ es))
    by true rest = two (p x) (p e)
    by false rest = later (p e) rest

fewer_kept : (p q : SubsetEntry → Bool) (es : List SubsetEntry) → length (filter p (filter q es)) ≤ length (filter p es)
fewer_kept p q [] = omega arith
fewer_kept p q (e ∷ es) = by (q e) (p e) refl (fewer_kept p q es)
  where
    by : (a b : Bool) → p e ≡ b → length (filter p (filter q es)) ≤ length (filter p es) → length (filter p (cond a (e ∷ filter q es) (filter q es))) ≤ length (cond b (e ∷ filter p es) (filter p es))
    by false true is rest = omega (arith, rest)
    by false false is rest = rest
    by true true is rest = omega (arith, rest, ap (λ b. length (cond b (e ∷ filter p (filter q es)) (filter p (filter q es)))) is)
    by true false is rest = omega (arith, rest, ap (λ b. length (cond b (e ∷ filter p (filter q es)) (filter p (filter q es)))) is)

-- ---- rising entries

less_all : (x e : SubsetEntry) (es : List SubsetEntry) → entry_cmp x e ≡ Less → AllByRecursion (λ y. entry_cmp e y ≡ Less) es → AllByRecursion (λ y. entry_cmp x y ≡ Less) es
less_all x e [] low all = tt
less_all x e (y ∷ ys) low all = (entries_total.trans x e y low all.0, less_all x e ys low all.1)

own_name : (e : SubsetEntry) → names e.subset e.owner e.number e ≡ true
own_name e = grind (arith, nat_tests)

-- one more, which isn't there
rise_placed : (x : SubsetEntry) (es : List SubsetEntry) → AreRising es → list_any (names x.subset x.owner x.number) es ≡ false → AreRising (place_in entry_before x es)
rise_placed x [] rising off = (tt, tt)
rise_placed x (e ∷ es) rising off = by (entry_cmp x e) refl (names x.subset x.owner x.number e) refl off (λ none. rise_placed x es rising.1 none)
  where
    later : (b : Bool) → (b || list_any (names x.subset x.owner x.number) es) ≡ false → list_any (names x.subset x.owner x.number) es ≡ false
    later true h = absurd (cc h)
    later false h = h

    first_off : (b : Bool) → (b || list_any (names x.subset x.owner x.number) es) ≡ false → b ≡ false
    first_off true h = absurd (cc h)
    first_off false h = refl

    clash : true ≡ false → ⊥
    clash h = absurd (cc h)

    by : (o : Ordering) → entry_cmp x e ≡ o → (b : Bool) → names x.subset x.owner x.number e ≡ b → (b || list_any (names x.subset x.owner x.number) es) ≡ false
        → (list_any (names x.subset x.owner x.number) es ≡ false → AreRising (place_in entry_before x es)) → AreRising (cond (is_lt o) (x ∷ e ∷ es) (e ∷ place_in entry_before x es))
    by Less is b named none rest = ((is, less_all x e es is rising.0), rising)
    by Equal is b named none rest =
        let same : x ≡ e = entries_same x e is in
        let here : names x.subset x.owner x.number e ≡ true = ap (λ (y : SubsetEntry). names x.subset x.owner x.number y) (sym same) ∙ own_name x in
        absurd (clash (sym here ∙ named ∙ first_off b none))
    by Greater is b named none rest =
        let low : entry_cmp e x ≡ Less = entries_total.antisymm e x ∙ ap ordering_reverse is in
        (all_placed (λ y. entry_cmp e y ≡ Less) x es low rising.0, rest (later b none))

-- one less
rise_kept : (p : SubsetEntry → Bool) (es : List SubsetEntry) → AreRising es → AreRising (filter p es)
rise_kept p [] rising = tt
rise_kept p (e ∷ es) rising = by (p e) (rise_kept p es rising.1)
  where
    by : (b : Bool) → AreRising (filter p es) → AreRising (cond b (e ∷ filter p es) (filter p es))
    by true rest = (all_kept (λ y. entry_cmp e y ≡ Less) p es rising.0, rest)
    by false rest = rest

-- ---- the entries of a database

module _ (desc : Described) (db : Db) (subset owner number : ℕ) (entries : EntriesStand desc db) where
  -- An entry that doesn't stand yet, and may stand, comes into a subset that has fewer than its POPULATION.
  pub entries_more : EntryStands desc db (entry_of subset owner number) → has_entry db subset owner number ≡ false
      → ((s : Shape) → structure_of desc s.number ≡ Some s → s.number ≡ subset → length (filter (is_in_subset subset) db.entries) < s.population)
      → ((n : ℕ) (s : Shape) → structure_of desc n ≡ Some s → s.number ≡ n) → EntriesStand desc (with_entry_of db subset owner number)
  entries_more stands off room numbered = record {
    each = all_placed (EntryStands desc (with_entry_of db subset owner number)) (entry_of subset owner number) db.entries (as_stood (entry_of subset owner number) stands)
        (all_as (EntryStands desc db) (EntryStands desc (with_entry_of db subset owner number)) db.entries as_stood entries.each);
    rising = rise_placed (entry_of subset owner number) db.entries entries.rising off;
    few = λ n s at manual. few_at n s at manual (subset == s.number) refl (entries.few n s at manual);
  }
    where
      as_stood : (e : SubsetEntry) → EntryStands desc db e → EntryStands desc (with_entry_of db subset owner number) e
      as_stood e h = record { manual = h.manual; member = h.member; owner = h.owner }

      few_at : (n : ℕ) (s : Shape) → structure_of desc n ≡ Some s → is_manual (Some s) ≡ true → (b : Bool) → (subset == s.number) ≡ b → length (filter (is_in_subset s.number) db.entries) ≤ s.population
          → length (filter (is_in_subset s.number) (place_in entry_before (entry_of subset owner number) db.entries)) ≤ s.population
      few_at n s at manual true is le =
          let same : s.number ≡ subset = grind (arith, nat_tests, is) in
          let own : structure_of desc s.number ≡ Some s = ap (structure_of desc) (numbered n s at) ∙ at in
          let long = long_placed (is_in_subset s.number) (entry_of subset owner number) db.entries ∙ ap (λ b. cond b 1 0 + length (filter (is_in_subset s.number) db.entries)) is in
          let low = room s own same in
          omega (arith, long, low, ap (λ k. length (filter (is_in_subset k) db.entries)) same)
      few_at n s at manual false is le =
          let long = long_placed (is_in_subset s.number) (entry_of subset owner number) db.entries ∙ ap (λ b. cond b 1 0 + length (filter (is_in_subset s.number) db.entries)) is in
          omega (arith, long, le)

  -- An entry goes.
  pub entries_less : EntriesStand desc (after_leave db subset owner number)
  unfolding after_leave
  entries_less = record {
    each = all_kept (EntryStands desc left) (is_not_entry subset owner number) db.entries (all_as (EntryStands desc db) (EntryStands desc left) db.entries as_stood entries.each);
    rising = rise_kept (is_not_entry subset owner number) db.entries entries.rising;
    few = λ n s at manual. omega (arith, fewer_kept (is_in_subset s.number) (is_not_entry subset owner number) db.entries, entries.few n s at manual);
  }
    where
      left : Db
      left = record db { entries = filter (is_not_entry subset owner number) db.entries }

      as_stood : (e : SubsetEntry) → EntryStands desc db e → EntryStands desc left e
      as_stood e h = record { manual = h.manual; member = h.member; owner = h.owner }

-- Where an entry doesn't stand nothing goes.
none_left : (subset owner number : ℕ) (es : List SubsetEntry) → list_any (names subset owner number) es ≡ false → filter (is_not_entry subset owner number) es ≡ es
none_left subset owner number [] off = refl
none_left subset owner number (e ∷ es) off = by (names subset owner number e) off (λ h. none_left subset owner number es h)
  where
    by : (b : Bool) → (b || list_any (names subset owner number) es) ≡ false → (list_any (names subset owner number) es ≡ false → filter (is_not_entry subset owner number) es ≡ es)
        → cond (not b) (e ∷ filter (is_not_entry subset owner number) es) (filter (is_not_entry subset owner number) es) ≡ e ∷ es
    by true h rest = absurd (cc h)
    by false h rest = ap (λ (xs : List SubsetEntry). e ∷ xs) (rest h)

pub leave_none : (db : Db) (subset owner number : ℕ) → has_entry db subset owner number ≡ false → after_leave db subset owner number ≡ db
unfolding after_leave
leave_none db subset owner number off = ap (λ (es : List SubsetEntry). let d : Db = record db { entries = es } in d) (none_left subset owner number db.entries off)
