-- Changes over a content.
use Rattle.std.proofs.Common.{ℕ, zero, suc, ◌+◌, max, ◌<◌, ◌≤◌, ◌≡◌, ◌≢◌, ◌&&◌, if◌then◌else◌, inl, inr, not, nat_lt, filter, Bool, true, false, List, [], ◌∷◌, ◌++◌, length, get_or, set, take, IsTrue, Some, None, refl, sym, ◌∙◌, ap, subst, arith, append-nil}
use Rattle.std.proofs.Props.{props}
use Rattle.std.specs.Str.{bytes_eq}
use Rattle.std.specs.Coded.{×_prop, Unit-prop, le_prop}
use Rattle.std.proofs.lemmas.Bool.{cases_eq, false≢true}
use Rattle.std.proofs.lemmas.Bool.Decides.{nat_tests}
use Rattle.std.proofs.lemmas.List.Elements.{filter-append}
use Rattle.std.proofs.lemmas.Slice.Eq.{bytes_eq-Decides}
use Rattle.std.specs.Prelude.{OnOk, OnErr}
use Rattle.std.specs.declared.result.Result.{Result}
use Rattle.std.specs.declared.result.Result.TheVariants.{Ok, Err}
use Rattle.std.proofs.lemmas.Option.{same_Some}
use Rattle.dms_block.specs.declared.change.Change.{Change}
use Rattle.dms_block.specs.Content.{Content, block_in, with_block, apply_changes, raise_count, counts_after, limit, FitsIn, is_of, NoneOf, AreApart, with_change, change_at, differs, differing}
use Rattle.dms_block.specs.ContentLaws.{write_here, write_other, write_length, write_long, write_same, write_again, write_apart, in_file, in_others, laid_length}

-- each new block stands at its file's end
abbrev pub Fits : List Change → Content → Type 0
Fits [] c = Unit {0}
Fits (x ∷ xs) c = (x.id.block ≤ length (c x.id.file)) × Fits xs (with_block c x.id.file x.id.block x.block.0)

pub either_way : {A : Type 0} (P : A → Type 0) (t : Bool) (a b : A) → (t ≡ true → P a) → (t ≡ false → P b) → P (if t then a else b)
either_way P true a b p q = p refl
either_way P false a b p q = q refl

-- propositions

bool_is_prop : (b c : Bool) → IsProp (b ≡ c)
bool_is_prop b c = hlevel props

true_prop : (b : Bool) → IsProp (IsTrue b)
true_prop b = hlevel props

pub NoneOf-prop : (f b : ℕ) (xs : List Change) → IsProp (NoneOf f b xs)
NoneOf-prop f b [] = Unit-prop
NoneOf-prop f b (x ∷ xs) = ×_prop (bool_is_prop (is_of f b x) false) (NoneOf-prop f b xs)

pub AreApart-prop : (xs : List Change) → IsProp (AreApart xs)
AreApart-prop [] = Unit-prop
AreApart-prop (x ∷ xs) = ×_prop (NoneOf-prop x.id.file x.id.block xs) (AreApart-prop xs)

pub FitsIn-prop : (xs : List Change) (owns : ℕ → Bool) (counts : ℕ → ℕ) → IsProp (FitsIn xs owns counts)
FitsIn-prop [] owns counts = Unit-prop
FitsIn-prop (x ∷ xs) owns counts =
    let rest : IsProp (FitsIn xs owns (raise_count counts x.id.file x.id.block)) = FitsIn-prop xs owns (raise_count counts x.id.file x.id.block) in
    let owned : IsProp (IsTrue (owns x.id.file)) = true_prop (owns x.id.file) in
    hlevel (props, rest, owned, le_prop)

-- which block a change is of

at_place : (f b : ℕ) (x : Change) → is_of f b x ≡ true → (f ≡ x.id.file) × (b ≡ x.id.block)
at_place f b x at = (grind (arith, nat_tests), grind (arith, nat_tests))

apart : (f b : ℕ) (x : Change) → is_of f b x ≡ false → f ≡ x.id.file → b ≡ x.id.block → ⊥
apart f b x off p q = absurd (grind (arith, nat_tests))

pub is_here : (f b : ℕ) (x : Change) → x.id.file ≡ f → x.id.block ≡ b → is_of f b x ≡ true
is_here f b x p q = grind (arith, nat_tests)

pub off_file : (f b : ℕ) (x : Change) → x.id.file ≢ f → is_of f b x ≡ false
off_file f b x p = grind (arith, nat_tests)

pub off_block : (f b : ℕ) (x : Change) → x.id.block ≢ b → is_of f b x ≡ false
off_block f b x q = elim (cases_eq x.id.file f) [
  | inl same ↦ grind (arith, nat_tests)
  | inr other ↦ grind (arith, nat_tests)
]

-- one change more at the end

pub changed_push : (xs : List Change) (x : Change) (c : Content) → apply_changes (xs ++ x ∷ []) c ≡ with_block (apply_changes xs c) x.id.file x.id.block x.block.0
changed_push [] x c = refl
changed_push (y ∷ xs) x c = changed_push xs x (with_block c y.id.file y.id.block y.block.0)

pub grown_push : (xs : List Change) (x : Change) (counts : ℕ → ℕ) → counts_after (xs ++ x ∷ []) counts ≡ raise_count (counts_after xs counts) x.id.file x.id.block
grown_push [] x counts = refl
grown_push (y ∷ xs) x counts = grown_push xs x (raise_count counts y.id.file y.id.block)

pub none_push : (f b : ℕ) (xs : List Change) (x : Change) → NoneOf f b xs → is_of f b x ≡ false → NoneOf f b (xs ++ x ∷ [])
none_push f b [] x none off = (off, tt)
none_push f b (y ∷ xs) x none off = (none.0, none_push f b xs x none.1 off)

pub none_split : (f b : ℕ) (xs : List Change) (x : Change) → NoneOf f b (xs ++ x ∷ []) → NoneOf f b xs × (is_of f b x ≡ false)
none_split f b [] x none = (tt, none.0)
none_split f b (y ∷ xs) x none = let rest = none_split f b xs x none.1 in ((none.0, rest.0), rest.1)

-- stands as it did
pub none_changed : (xs : List Change) (c : Content) (f b : ℕ) → Fits xs c → NoneOf f b xs → block_in (apply_changes xs c) f b ≡ block_in c f b
none_changed [] c f b fits none = refl
none_changed (x ∷ xs) c f b fits none =
    none_changed xs (with_block c x.id.file x.id.block x.block.0) f b fits.1 none.1 ∙ write_other c x.id.file x.id.block x.block.0 f b fits.0 (apart f b x none.0)

-- no file gets shorter
pub changed_length : (xs : List Change) (c : Content) (f : ℕ) → Fits xs c → length (c f) ≤ length (apply_changes xs c f)
changed_length [] c f fits = omega arith
changed_length (x ∷ xs) c f fits =
    let next = with_block c x.id.file x.id.block x.block.0 in
    omega (arith, write_length c x.id.file x.id.block x.block.0 f fits.0, changed_length xs next f fits.1)

-- the k-th change is of the block
abbrev pub at_index : ℕ → ℕ → ℕ → List Change → Bool
at_index f b k [] = false
at_index f b zero (x ∷ xs) = is_of f b x
at_index f b (suc k) (x ∷ xs) = at_index f b k xs

pub at_index_is : (f b k : ℕ) (xs : List Change) (d : Change) → k < length xs → at_index f b k xs ≡ is_of f b (get_or xs k d)
at_index_is f b k [] d low = absurd (omega arith)
at_index_is f b zero (x ∷ xs) d low = refl
at_index_is f b (suc k) (x ∷ xs) d low = at_index_is f b k xs d (omega arith)

pub none_from_index : (f b : ℕ) (xs : List Change) → ((k : ℕ) → k < length xs → at_index f b k xs ≡ false) → NoneOf f b xs
none_from_index f b [] none = tt
none_from_index f b (x ∷ xs) none = (none 0 (omega arith), none_from_index f b xs (λ k low. none (suc k) (omega arith)))

pub change_none : (f b : ℕ) (xs : List Change) → NoneOf f b xs → change_at f b xs ≡ None
change_none f b [] none = refl
change_none f b (x ∷ xs) none = ap (λ t. if t then Some x.block.0 else change_at f b xs) none.0 ∙ change_none f b xs none.1

none_at : (f b k : ℕ) (xs : List Change) → NoneOf f b xs → at_index f b k xs ≡ false
none_at f b k [] none = refl
none_at f b zero (x ∷ xs) none = none.0
none_at f b (suc k) (x ∷ xs) none = none_at f b k xs none.1

pub none_here : (f b : ℕ) (x : Change) (xs : List Change) → NoneOf x.id.file x.id.block xs → is_of f b x ≡ true → NoneOf f b xs
none_here f b x xs none is =
    let place : (f ≡ x.id.file) × (b ≡ x.id.block) = at_place f b x is in
    subst (λ j. NoneOf j b xs) (sym place.0) (subst (λ j. NoneOf x.id.file j xs) (sym place.1) none)

pub change_index : (f b i : ℕ) (xs : List Change) (d : Change) → AreApart xs → i < length xs → at_index f b i xs ≡ true → change_at f b xs ≡ Some (get_or xs i d).block.0
change_index f b i [] d apart low at = absurd (omega arith)
change_index f b zero (x ∷ xs) d apart low at = ap (λ t. if t then Some x.block.0 else change_at f b xs) at
change_index f b (suc i) (x ∷ xs) d apart low at = either_way (λ o. o ≡ Some (get_or xs i d).block.0) (is_of f b x) (Some x.block.0) (change_at f b xs)
    (λ is. absurd (false≢true (sym (none_at f b i xs (none_here f b x xs apart.0 is)) ∙ at))) (λ is. change_index f b i xs d apart.1 (omega arith) at)

-- the change of a block stands
pub change_stands : (f b : ℕ) (y : List ℕ) (xs : List Change) (c : Content) → Fits xs c → AreApart xs → change_at f b xs ≡ Some y → block_in (apply_changes xs c) f b ≡ y
change_stands f b y [] c fits other = λ at. absurd (cc at)
change_stands f b y (x ∷ xs) c fits other = either_way (λ o. o ≡ Some y → block_in (apply_changes (x ∷ xs) c) f b ≡ y) (is_of f b x) (Some x.block.0) (change_at f b xs)
    (λ is at. let next = with_block c x.id.file x.id.block x.block.0 in
    let place : (f ≡ x.id.file) × (b ≡ x.id.block) = at_place f b x is in
    let here : block_in next f b ≡ x.block.0 = subst (λ j. block_in next j b ≡ x.block.0) (sym place.0) (subst (λ j. block_in next x.id.file j ≡ x.block.0) (sym place.1) (write_here c x.id.file x.id.block x.block.0 fits.0)) in
    none_changed xs next f b fits.1 (none_here f b x xs other.0 is) ∙ here ∙ same_Some _ _ at)
    (λ is at. change_stands f b y xs (with_block c x.id.file x.id.block x.block.0) fits.1 other.1 at)

abbrev pub no_change_of : Change
no_change_of = record { id = record { file = 0; block = 0 }; block = record { 0 = [] } }

pub is_same : (f b : ℕ) (x : Change) → x.id ≡ record { file = f; block = b } → is_of f b x ≡ true
is_same f b x e = is_here f b x (ap (λ i. i.file) e) (ap (λ i. i.block) e)

pub is_other : (f b : ℕ) (x : Change) → (x.id ≡ record { file = f; block = b } → ⊥) → is_of f b x ≡ false
is_other f b x off = elim (cases_eq x.id.file f) [
  | inl same ↦ elim (cases_eq x.id.block b) [
    | inl both ↦ absurd (off (λ i. record { file = same i; block = both i }))
    | inr other ↦ off_block f b x other
  ]
  | inr other ↦ off_file f b x other
]

-- a block that has no change
pub change_lacks : (f b : ℕ) (xs : List Change) → change_at f b xs ≡ None → NoneOf f b xs
change_lacks f b [] = λ at. tt
change_lacks f b (x ∷ xs) = either_way (λ o. o ≡ None → NoneOf f b (x ∷ xs)) (is_of f b x) (Some x.block.0) (change_at f b xs)
    (λ is at. absurd (cc at)) (λ is at. (is, change_lacks f b xs at))

-- counts of blocks

raised_is : (counts : ℕ → ℕ) (c : Content) (f b : ℕ) (x : List ℕ) → ((g : ℕ) → counts g ≡ length (c g)) → b ≤ length (c f) → (g : ℕ) → raise_count counts f b g ≡ length (with_block c f b x g)
raised_is counts c f b x is le g = elim (cases_eq g f) [
  | inl same ↦ subst (λ j. raise_count counts f b j ≡ length (with_block c f b x j)) (sym same) (let here : raise_count counts f b f ≡ max (counts f) (b + 1) = grind (arith, nat_tests) in omega (arith, here, ap length (in_file c f b x), laid_length b x (c f) le, is f))
  | inr other ↦ let there : raise_count counts f b g ≡ counts g = grind (arith, nat_tests) in omega (arith, there, ap length (in_others c f b x g other), is g)
]

-- changes fit a content where they fit its counts
pub fits_content : (xs : List Change) (owns : ℕ → Bool) (counts : ℕ → ℕ) (c : Content) → ((g : ℕ) → counts g ≡ length (c g)) → FitsIn xs owns counts → Fits xs c
fits_content [] owns counts c is fits = tt
fits_content (x ∷ xs) owns counts c is fits =
    let le : x.id.block ≤ length (c x.id.file) = omega (arith, fits.2, is x.id.file) in
    (le, fits_content xs owns (raise_count counts x.id.file x.id.block) (with_block c x.id.file x.id.block x.block.0) (raised_is counts c x.id.file x.id.block x.block.0 is le) fits.3)

-- and the counts are those of the changed content
pub grown_is : (xs : List Change) (owns : ℕ → Bool) (counts : ℕ → ℕ) (c : Content) → ((g : ℕ) → counts g ≡ length (c g)) → FitsIn xs owns counts → (g : ℕ) → counts_after xs counts g ≡ length (apply_changes xs c g)
grown_is [] owns counts c is fits g = is g
grown_is (x ∷ xs) owns counts c is fits g =
    let le : x.id.block ≤ length (c x.id.file) = omega (arith, fits.2, is x.id.file) in
    grown_is xs owns (raise_count counts x.id.file x.id.block) (with_block c x.id.file x.id.block x.block.0) (raised_is counts c x.id.file x.id.block x.block.0 is le) fits.3 g

pub fits_in_push : (xs : List Change) (x : Change) (owns : ℕ → Bool) (counts : ℕ → ℕ) → FitsIn xs owns counts → IsTrue (owns x.id.file) → x.id.block < limit → x.id.block ≤ counts_after xs counts x.id.file → FitsIn (xs ++ x ∷ []) owns counts
fits_in_push [] x owns counts fits owned low le = (owned, low, le, tt)
fits_in_push (y ∷ xs) x owns counts fits owned low le = (fits.0, fits.1, fits.2, fits_in_push xs x owns (raise_count counts y.id.file y.id.block) fits.3 owned low le)

-- no count falls
raised_high : (counts : ℕ → ℕ) (f b g : ℕ) → counts g ≤ raise_count counts f b g
raised_high counts f b g = elim (cases_eq g f) [
  | inl same ↦ let here : raise_count counts f b g ≡ max (counts g) (b + 1) = grind (arith, nat_tests) in omega (arith, here)
  | inr other ↦ let there : raise_count counts f b g ≡ counts g = grind (arith, nat_tests) in omega (arith, there)
]

pub grown_high : (xs : List Change) (counts : ℕ → ℕ) (g : ℕ) → counts g ≤ counts_after xs counts g
grown_high [] counts g = omega arith
grown_high (x ∷ xs) counts g = omega (arith, raised_high counts x.id.file x.id.block g, grown_high xs (raise_count counts x.id.file x.id.block) g)

-- the count of a file with the block already
pub raised_old : (counts : ℕ → ℕ) (f b : ℕ) → b < counts f → raise_count counts f b ≡ counts
raised_old counts f b low = λ i g. (elim (cases_eq g f) as (λ _. raise_count counts f b g ≡ counts g) [
  | inl same ↦ let here : raise_count counts f b g ≡ max (counts g) (b + 1) = grind (arith, nat_tests) in omega (arith, here, ap counts same, low)
  | inr other ↦ grind (arith, nat_tests)
]) i

raised_low : (counts : ℕ → ℕ) (f b : ℕ) (x : Change) → is_of f b x ≡ false → x.id.block ≤ counts x.id.file → b < raise_count counts x.id.file x.id.block f → b < counts f
raised_low counts f b x off le low = elim (cases_eq f x.id.file) [
  | inl same ↦
      let here : raise_count counts x.id.file x.id.block x.id.file ≡ max (counts x.id.file) (x.id.block + 1) = grind (arith, nat_tests) in
      let there : b < max (counts x.id.file) (x.id.block + 1) = omega (arith, subst (λ j. b < raise_count counts x.id.file x.id.block j) same low, here) in
      let other : b ≢ x.id.block = λ e. apart f b x off same e in
      subst (λ j. b < counts j) (sym same) (omega (arith, there, other, le))
  | inr other ↦ let there : raise_count counts x.id.file x.id.block f ≡ counts f = grind (arith, nat_tests) in omega (arith, there, low)
]

-- a block that no change is of was there
pub was_below : (xs : List Change) (owns : ℕ → Bool) (counts : ℕ → ℕ) (f b : ℕ) → FitsIn xs owns counts → NoneOf f b xs → b < counts_after xs counts f → b < counts f
was_below [] owns counts f b fits none low = low
was_below (x ∷ xs) owns counts f b fits none low = raised_low counts f b x none.0 fits.2 (was_below xs owns (raise_count counts x.id.file x.id.block) f b fits.3 none.1 low)

-- each block is below the limit
pub fits_low : (xs : List Change) (owns : ℕ → Bool) (counts : ℕ → ℕ) (i : ℕ) (d : Change) → FitsIn xs owns counts → i < length xs → (get_or xs i d).id.block < limit
fits_low [] owns counts i d fits low = absurd (omega arith)
fits_low (x ∷ xs) owns counts zero d fits low = fits.1
fits_low (x ∷ xs) owns counts (suc i) d fits low = fits_low xs owns (raise_count counts x.id.file x.id.block) i d fits.3 (omega arith)

-- a change that is set among others

abbrev pub change_of : ℕ → ℕ → List ℕ → Change
change_of f b y = record { id = record { file = f; block = b }; block = record { 0 = y } }

with_none : (f b g k : ℕ) (y : List ℕ) (xs : List Change) → NoneOf g k xs → is_of g k (change_of f b y) ≡ false → NoneOf g k (with_change f b y xs)
with_none f b g k y [] none off = (off, tt)
with_none f b g k y (x ∷ xs) none off = either_way (NoneOf g k) (is_of f b x) (record x { block = record { 0 = y } } ∷ xs) (x ∷ with_change f b y xs)
    (λ is. none) (λ is. (none.0, with_none f b g k y xs none.1 off))

off_back : (f b : ℕ) (y : List ℕ) (x : Change) → is_of f b x ≡ false → is_of x.id.file x.id.block (change_of f b y) ≡ false
off_back f b y x off = grind (arith, nat_tests)

pub with_apart : (f b : ℕ) (y : List ℕ) (xs : List Change) → AreApart xs → AreApart (with_change f b y xs)
with_apart f b y [] apart = (tt, tt)
with_apart f b y (x ∷ xs) apart = either_way AreApart (is_of f b x) (record x { block = record { 0 = y } } ∷ xs) (x ∷ with_change f b y xs)
    (λ is. apart) (λ is. (with_none f b x.id.file x.id.block y xs apart.0 (off_back f b y x is), with_apart f b y xs apart.1))

pub with_fits : (f b : ℕ) (y : List ℕ) (xs : List Change) (owns : ℕ → Bool) (counts : ℕ → ℕ) → FitsIn xs owns counts → IsTrue (owns f) → b < limit → b ≤ counts_after xs counts f → FitsIn (with_change f b y xs) owns counts
with_fits f b y [] owns counts fits owned low le = (owned, low, le, tt)
with_fits f b y (x ∷ xs) owns counts fits owned low le = either_way (λ l. FitsIn l owns counts) (is_of f b x) (record x { block = record { 0 = y } } ∷ xs) (x ∷ with_change f b y xs)
    (λ is. fits) (λ is. (fits.0, fits.1, fits.2, with_fits f b y xs owns (raise_count counts x.id.file x.id.block) fits.3 owned low le))

raised_here : (counts : ℕ → ℕ) (f b : ℕ) → b < raise_count counts f b f
raised_here counts f b = let here : raise_count counts f b f ≡ max (counts f) (b + 1) = grind (arith, nat_tests) in omega (arith, here)

with_grown_here : (f b : ℕ) (xs : List Change) (x : Change) (counts : ℕ → ℕ) → (f ≡ x.id.file) × (b ≡ x.id.block) → counts_after xs (raise_count counts x.id.file x.id.block) ≡ raise_count (counts_after xs (raise_count counts x.id.file x.id.block)) f b
with_grown_here f b xs x counts place =
    let next = raise_count counts x.id.file x.id.block in
    let high : x.id.block < counts_after xs next x.id.file = omega (arith, raised_here counts x.id.file x.id.block, grown_high xs next x.id.file) in
    let low : b < counts_after xs next f = subst (λ j. j < counts_after xs next f) (sym place.1) (subst (λ j. x.id.block < counts_after xs next j) (sym place.0) high) in
    sym (raised_old (counts_after xs next) f b low)

pub with_grown : (f b : ℕ) (y : List ℕ) (xs : List Change) (counts : ℕ → ℕ) → counts_after (with_change f b y xs) counts ≡ raise_count (counts_after xs counts) f b
with_grown f b y [] counts = refl
with_grown f b y (x ∷ xs) counts = either_way (λ l. counts_after l counts ≡ raise_count (counts_after (x ∷ xs) counts) f b) (is_of f b x) (record x { block = record { 0 = y } } ∷ xs) (x ∷ with_change f b y xs)
    (λ is. with_grown_here f b xs x counts (at_place f b x is)) (λ is. with_grown f b y xs (raise_count counts x.id.file x.id.block))

-- a block that no change is of may be written before them
changed_later : (xs : List Change) (c : Content) (f b : ℕ) (y : List ℕ) → b < length (c f) → Fits xs c → NoneOf f b xs → apply_changes xs (with_block c f b y) ≡ with_block (apply_changes xs c) f b y
changed_later [] c f b y low fits none = refl
changed_later (x ∷ xs) c f b y low fits none =
    let next = with_block c x.id.file x.id.block x.block.0 in
    let there : b < length (next f) = omega (arith, low, write_length c x.id.file x.id.block x.block.0 f fits.0) in
    ap (λ (d : Content). apply_changes xs d) (write_apart c f b y x.id.file x.id.block x.block.0 low fits.0 (apart f b x none.0)) ∙ changed_later xs next f b y there fits.1 none.1

with_changed_here : (f b : ℕ) (y : List ℕ) (xs : List Change) (x : Change) (c : Content) → x.id.block ≤ length (c x.id.file) → Fits xs (with_block c x.id.file x.id.block x.block.0) → NoneOf x.id.file x.id.block xs → (f ≡ x.id.file) × (b ≡ x.id.block)
    → apply_changes xs (with_block c x.id.file x.id.block y) ≡ with_block (apply_changes xs (with_block c x.id.file x.id.block x.block.0)) f b y
with_changed_here f b y xs x c le fits none place =
    let next = with_block c x.id.file x.id.block x.block.0 in
    ap (λ (d : Content). apply_changes xs d) (sym (write_again c x.id.file x.id.block x.block.0 y le))
    ∙ changed_later xs next x.id.file x.id.block y (write_long c x.id.file x.id.block x.block.0 le) fits none
    ∙ sym (ap (λ j. with_block (apply_changes xs next) j b y) place.0 ∙ ap (λ j. with_block (apply_changes xs next) x.id.file j y) place.1)

pub with_changed : (f b : ℕ) (y : List ℕ) (xs : List Change) (c : Content) → Fits xs c → AreApart xs → apply_changes (with_change f b y xs) c ≡ with_block (apply_changes xs c) f b y
with_changed f b y [] c fits apart = refl
with_changed f b y (x ∷ xs) c fits apart = either_way (λ l. apply_changes l c ≡ with_block (apply_changes (x ∷ xs) c) f b y) (is_of f b x) (record x { block = record { 0 = y } } ∷ xs) (x ∷ with_change f b y xs)
    (λ is. with_changed_here f b y xs x c fits.0 fits.1 apart.0 (at_place f b x is)) (λ is. with_changed f b y xs (with_block c x.id.file x.id.block x.block.0) fits.1 apart.1)

pub with_length : (f b : ℕ) (y : List ℕ) (xs : List Change) → length (with_change f b y xs) ≤ length xs + 1
with_length f b y [] = omega arith
with_length f b y (x ∷ xs) = either_way (λ l. length l ≤ length (x ∷ xs) + 1) (is_of f b x) (record x { block = record { 0 = y } } ∷ xs) (x ∷ with_change f b y xs)
    (λ is. omega arith) (λ is. omega (arith, with_length f b y xs))

-- where no change is of the block, it stands at the end
pub with_new : (f b : ℕ) (y : List ℕ) (xs : List Change) → NoneOf f b xs → with_change f b y xs ≡ xs ++ change_of f b y ∷ []
with_new f b y [] none = refl
with_new f b y (x ∷ xs) none = either_way (λ l. l ≡ x ∷ (xs ++ change_of f b y ∷ [])) (is_of f b x) (record x { block = record { 0 = y } } ∷ xs) (x ∷ with_change f b y xs)
    (λ is. absurd (grind (arith, none.0, is))) (λ is. ap (λ l. x ∷ l) (with_new f b y xs none.1))

-- and else in the place of that one
pub with_old : (f b i : ℕ) (y : List ℕ) (xs : List Change) (d : Change) → AreApart xs → i < length xs → at_index f b i xs ≡ true → with_change f b y xs ≡ set xs i (record (get_or xs i d) { block = record { 0 = y } })
with_old f b i y [] d apart low at = absurd (omega arith)
with_old f b zero y (x ∷ xs) d apart low at = either_way (λ l. l ≡ record x { block = record { 0 = y } } ∷ xs) (is_of f b x) (record x { block = record { 0 = y } } ∷ xs) (x ∷ with_change f b y xs)
    (λ is. refl) (λ is. absurd (grind (arith, at, is)))
with_old f b (suc i) y (x ∷ xs) d apart low at = either_way (λ l. l ≡ x ∷ set xs i (record (get_or xs i d) { block = record { 0 = y } })) (is_of f b x) (record x { block = record { 0 = y } } ∷ xs) (x ∷ with_change f b y xs)
    (λ is. absurd (false≢true (sym (none_at f b i xs (none_here f b x xs apart.0 is)) ∙ at)))
    (λ is. ap (λ l. x ∷ l) (with_old f b i y xs d apart.1 (omega arith) at))

-- one change more, unless there is no memory for it
pub fits_after : {E : Type 0} (r : Result (Unit {0}) E) (f b : ℕ) (y : List ℕ) (xs new : List Change) (owns : ℕ → Bool) (counts : ℕ → ℕ) → OnOk r (new ≡ with_change f b y xs) → OnErr r (new ≡ xs)
    → FitsIn xs owns counts → IsTrue (owns f) → b < limit → b ≤ counts_after xs counts f → FitsIn new owns counts
fits_after (Ok x) f b y xs new owns counts is same fits owned low le = subst (λ (l : List Change). FitsIn l owns counts) (sym is) (with_fits f b y xs owns counts fits owned low le)
fits_after (Err e) f b y xs new owns counts is same fits owned low le = subst (λ (l : List Change). FitsIn l owns counts) (sym same) fits

pub length_after : {E : Type 0} (r : Result (Unit {0}) E) (f b : ℕ) (y : List ℕ) (xs new : List Change) → OnOk r (new ≡ with_change f b y xs) → OnErr r (new ≡ xs) → length new ≤ length xs + 1
length_after (Ok x) f b y xs new is same = omega (arith, with_length f b y xs, ap (λ (l : List Change). length l) is)
length_after (Err e) f b y xs new is same = omega (arith, ap (λ (l : List Change). length l) same)

-- changes that differ from what stands there

abbrev pub Agree : List Change → Content → Content → Type 0
Agree [] c d = Unit {0}
Agree (x ∷ xs) c d = (x.id.block < length (c x.id.file) → (x.id.block < length (d x.id.file)) × (block_in d x.id.file x.id.block ≡ block_in c x.id.file x.id.block)) × Agree xs c d

agree_self : (xs : List Change) (c : Content) → Agree xs c c
agree_self [] c = tt
agree_self (x ∷ xs) c = (λ low. (low, refl), agree_self xs c)

agree_on : (xs : List Change) (c d : Content) (f b : ℕ) (y : List ℕ) → b ≤ length (d f) → NoneOf f b xs → Agree xs c d → Agree xs c (with_block d f b y)
agree_on [] c d f b y le none agree = tt
agree_on (x ∷ xs) c d f b y le none agree = (
  λ low.
      let was = agree.0 low in
      (omega (arith, was.0, write_length d f b y x.id.file le), write_other d f b y x.id.file x.id.block le (λ p q. apart f b x none.0 (sym p) (sym q)) ∙ was.1),
  agree_on xs c d f b y le none.1 agree.1,
)

both_true : (p q : Bool) → not (p && q) ≡ false → (p ≡ true) × (q ≡ true)
both_true true true is = (refl, refl)
both_true true false is = absurd (false≢true (sym is))
both_true false q is = absurd (false≢true (sym is))

is_low : (a b : ℕ) → nat_lt a b ≡ true → a < b
is_low a b is = grind (arith, nat_tests)

same_bytes : (c : Content) (x : Change) → differs c x ≡ false → (x.id.block < length (c x.id.file)) × (block_in c x.id.file x.id.block ≡ x.block.0)
same_bytes c x is =
    let tests = both_true (nat_lt x.id.block (length (c x.id.file))) (bytes_eq (block_in c x.id.file x.id.block) x.block.0) is in
    (is_low x.id.block (length (c x.id.file)) tests.0, (bytes_eq-Decides (block_in c x.id.file x.id.block) x.block.0).0 tests.1)

differing_from : (xs : List Change) (c d : Content) → Fits xs d → AreApart xs → Agree xs c d → apply_changes (differing c xs) d ≡ apply_changes xs d
differing_from [] c d fits other agree = refl
differing_from (x ∷ xs) c d fits other agree = either_way (λ l. apply_changes l d ≡ apply_changes xs (with_block d x.id.file x.id.block x.block.0)) (differs c x) (x ∷ differing c xs) (differing c xs)
    (λ is. differing_from xs c (with_block d x.id.file x.id.block x.block.0) fits.1 other.1 (agree_on xs c d x.id.file x.id.block x.block.0 fits.0 other.0 agree.1))
    (λ is. let was = same_bytes c x is in
    let there = agree.0 was.0 in
    let still : with_block d x.id.file x.id.block x.block.0 ≡ d = ap (λ y. with_block d x.id.file x.id.block y) (sym (there.1 ∙ was.1)) ∙ write_same d x.id.file x.id.block there.0 in
    differing_from xs c d (subst (λ e. Fits xs e) still fits.1) other.1 agree.1 ∙ sym (ap (λ e. apply_changes xs e) still))

-- they alone make the same content
pub differing_changed : (xs : List Change) (c : Content) → Fits xs c → AreApart xs → apply_changes (differing c xs) c ≡ apply_changes xs c
differing_changed xs c fits other = differing_from xs c c fits other (agree_self xs c)

push_if : (t : Bool) (x : Change) (l : List Change) → l ++ (if t then x ∷ [] else []) ≡ (if t then l ++ x ∷ [] else l)
push_if true x l = refl
push_if false x l = append-nil l

pub differing_push : (c : Content) (xs : List Change) (x : Change) → differing c (xs ++ x ∷ []) ≡ (if differs c x then differing c xs ++ x ∷ [] else differing c xs)
differing_push c xs x = filter-append (differs c) xs (x ∷ []) ∙ push_if (differs c x) x (filter (differs c) xs)

-- a change within the list
pub fits_at : (xs : List Change) (owns : ℕ → Bool) (counts : ℕ → ℕ) (i : ℕ) (d : Change) → FitsIn xs owns counts → i < length xs
    → IsTrue (owns (get_or xs i d).id.file) × ((get_or xs i d).id.block < limit) × ((get_or xs i d).id.block ≤ counts_after (take i xs) counts (get_or xs i d).id.file)
fits_at [] owns counts i d fits low = absurd (omega arith)
fits_at (x ∷ xs) owns counts zero d fits low = (fits.0, fits.1, fits.2)
fits_at (x ∷ xs) owns counts (suc i) d fits low = fits_at xs owns (raise_count counts x.id.file x.id.block) i d fits.3 (omega arith)

-- no change before it is of the same block
not_of_sym : (x y : Change) → is_of x.id.file x.id.block y ≡ false → is_of y.id.file y.id.block x ≡ false
not_of_sym x y off = grind (arith, nat_tests)

pub apart_at : (xs : List Change) (i : ℕ) (d : Change) → AreApart xs → i < length xs → NoneOf (get_or xs i d).id.file (get_or xs i d).id.block (take i xs)
apart_at [] i d other low = absurd (omega arith)
apart_at (x ∷ xs) zero d other low = tt
apart_at (x ∷ xs) (suc i) d other low = (not_of_sym x (get_or xs i d) (sym (at_index_is x.id.file x.id.block i xs d (omega arith)) ∙ none_at x.id.file x.id.block i xs other.0), apart_at xs i d other.1 (omega arith))

-- the first of changes that fit
pub fits_take : (i : ℕ) (xs : List Change) (owns : ℕ → Bool) (counts : ℕ → ℕ) → FitsIn xs owns counts → FitsIn (take i xs) owns counts
fits_take zero xs owns counts fits = tt
fits_take (suc i) [] owns counts fits = tt
fits_take (suc i) (x ∷ xs) owns counts fits = (fits.0, fits.1, fits.2, fits_take i xs owns (raise_count counts x.id.file x.id.block) fits.3)
