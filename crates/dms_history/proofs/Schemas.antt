-- Whole Schemas, and the live entries.
use Rattle.std.proofs.Common.{ℕ, ◌+◌, ◌*◌, ◌<◌, ◌≤◌, ◌≡◌, ◌==◌, ◌&&◌, ◌||◌, ◌⊎◌, inl, inr, Bool, true, false, cond, List, [], ◌∷◌, ◌++◌, length, length-append, refl, sym, ◌∙◌, ap, subst, arith, append_assoc}
use Rattle.std.proofs.lemmas.Bool.Decides.{nat_tests}
use Rattle.std.proofs.lemmas.Bool.{cases_Bool, true≢false}
use Rattle.dms_history.specs.Events.{change, quiet, control, begin}
use Rattle.dms_history.specs.Lists.{has, until_first}
use Rattle.dms_history.specs.Ranges.{Logged, event, range, is_point_logged, live_logged}
use Rattle.dms_history.specs.Entries.{Entry, schema_part, image, byte_range, quiet_point, control_point, begin_restore, counts_in, how_of, is_in_row}
use Rattle.dms_history.specs.Schemas.{Parts, no_parts, after_entry, parts_from, is_whole, parts_of_schema, schema_entries}
use Rattle.dms_history.specs.EntryEvents.{said_by, logged_from, events_in, is_place, live_entries_from}
use Rattle.dms_history.specs.LawsOfEntries.{EndsWithSchema, WholeSchemas, LiveOfEntries, RowsOfBlocks}
use Rattle.dms_history.proofs.Cuts.{until_none}
use Rattle.dms_history.proofs.HalfDone.{or_at}
use Rattle.dms_history.proofs.Order.{append_none, eq_of}

pub rows_of_blocks : RowsOfBlocks
rows_of_blocks f b r = record {
  from_first = λ on. in_from f b r on;
  to_last = λ on. in_to f b r on;
  within = λ low high. grind (arith, nat_tests);
  elsewhere = λ k other. grind (arith, nat_tests);
}
  where
    in_from : (f b r : ℕ) → is_in_row f b (record { file = f; row = r }) ≡ true → 16 * r ≤ b
    in_from f b r on = grind (arith, nat_tests)

    in_to : (f b r : ℕ) → is_in_row f b (record { file = f; row = r }) ≡ true → b < 16 * r + 16
    in_to f b r on = grind (arith, nat_tests)

-- ---- whole Schemas

pub parts_append : (xs ys : List Entry) (p : Parts) → parts_from p (xs ++ ys) ≡ parts_from (parts_from p xs) ys
parts_append [] ys p = refl
parts_append (e ∷ xs) ys p = parts_append xs ys (after_entry p e)

part_step : (k all : ℕ) (bytes : List ℕ) → 0 < k → after_entry (record { read = k; all = all }) (schema_part (k + 1) all bytes) ≡ record { read = k + 1; all = all }
part_step k all bytes above = grind (arith, nat_tests)

read_more : (bodies : List (List ℕ)) (k all : ℕ) → 0 < k → parts_from (record { read = k; all = all }) (parts_of_schema (k + 1) all bodies) ≡ record { read = k + length bodies; all = all }
read_more [] k all above = ap (λ j. record { read = j; all = all }) (omega arith)
read_more (bytes ∷ rest) k all above =
    ap (λ p. parts_from p (parts_of_schema (k + 1 + 1) all rest)) (part_step k all bytes above)
    ∙ read_more rest (k + 1) all (omega arith) ∙ ap (λ j. record { read = j; all = all }) (omega arith)

pub schema_is_whole : (front : List Entry) (first : List ℕ) (rest : List (List ℕ)) (p : Parts) → is_whole (parts_from p (front ++ schema_entries (first ∷ rest))) ≡ true
schema_is_whole front first rest p =
    ap is_whole (parts_append front (schema_entries (first ∷ rest)) p ∙ read_more rest 1 (length (first ∷ rest)) (omega arith))
    ∙ whole (1 + length rest) (length (first ∷ rest)) (omega arith) (omega arith)
  where
    whole : (n m : ℕ) → 0 < n → n ≡ m → is_whole (record { read = n; all = m }) ≡ true
    whole n m above same = grind (arith, nat_tests)

abbrev EndsSchema : Parts → List Entry → Type 0
EndsSchema p done = (p.read ≡ 0) ⊎ ((front : List Entry) × (bodies : List (List ℕ)) × (done ≡ front ++ parts_of_schema 1 p.all bodies) × (length bodies ≡ p.read))

schema_push : (bodies : List (List ℕ)) (k all : ℕ) (bytes : List ℕ) → parts_of_schema k all (bodies ++ bytes ∷ []) ≡ parts_of_schema k all bodies ++ schema_part (k + length bodies) all bytes ∷ []
schema_push [] k all bytes = ap (λ j. schema_part j all bytes ∷ []) (omega arith)
schema_push (b ∷ bodies) k all bytes =
    ap (λ (l : List Entry). schema_part k all b ∷ l) (schema_push bodies (k + 1) all bytes ∙ ap (λ j. parts_of_schema (k + 1) all bodies ++ schema_part j all bytes ∷ []) (omega arith))

two_tests : (a b c d : ℕ) → (a == b) && (c == d) ≡ true → (a ≡ b) × (c ≡ d)
two_tests a b c d on = (grind (arith, nat_tests), grind (arith, nat_tests))

goes_on : (done : List Entry) (p : Parts) (part parts : ℕ) (bytes : List ℕ) → EndsSchema p done → (part == 1) ≡ false → (part == p.read + 1) && (parts == p.all) ≡ true
    → EndsSchema (record { read = part; all = parts }) (done ++ schema_part part parts bytes ∷ [])
goes_on done p part parts bytes ends off on =
    let both = two_tests part (p.read + 1) parts p.all on in
    elim ends [
      | inl none ↦ absurd (true≢false (sym (is_one part (both.0 ∙ ap (λ k. k + 1) none)) ∙ off))
      | inr more ↦ inr (
        more.0,
        more.1 ++ bytes ∷ [],
        (λ i. more.2 i ++ schema_part (number (both.0) more.3 i) (both.1 i) bytes ∷ [])
            ∙ append_assoc more.0 (parts_of_schema 1 p.all more.1) (schema_part (1 + length more.1) p.all bytes ∷ [])
            ∙ ap (λ (l : List Entry). more.0 ++ l) (sym (schema_push more.1 1 p.all bytes))
            ∙ ap (λ k. more.0 ++ parts_of_schema 1 k (more.1 ++ bytes ∷ [])) (sym both.1),
        omega (arith, length-append more.1 (bytes ∷ []), both.0, more.3),
      )
    ]
  where
    is_one : (k : ℕ) → k ≡ 0 + 1 → (k == 1) ≡ true
    is_one k is = grind (arith, nat_tests)

    number : part ≡ p.read + 1 → {n : ℕ} → n ≡ p.read → part ≡ 1 + n
    number is same = omega (arith, is, same)

ends_step : (done : List Entry) (p : Parts) (e : Entry) → EndsSchema p done → EndsSchema (after_entry p e) (done ++ e ∷ [])
ends_step done p (schema_part part parts bytes) ends = elim (cases_Bool (part == 1)) [
  | inl one ↦ subst (λ t. EndsSchema (cond t (record { read = 1; all = parts }) (cond ((part == p.read + 1) && (parts == p.all)) (record { read = part; all = parts }) no_parts)) (done ++ schema_part part parts bytes ∷ [])) (sym one)
      (inr (done, bytes ∷ [], ap (λ k. done ++ schema_part k parts bytes ∷ []) (eq_of part 1 one), refl))
  | inr off ↦ subst (λ t. EndsSchema (cond t (record { read = 1; all = parts }) (cond ((part == p.read + 1) && (parts == p.all)) (record { read = part; all = parts }) no_parts)) (done ++ schema_part part parts bytes ∷ [])) (sym off)
      (elim (cases_Bool ((part == p.read + 1) && (parts == p.all))) [
        | inl on ↦ subst (λ t. EndsSchema (cond t (record { read = part; all = parts }) no_parts) (done ++ schema_part part parts bytes ∷ [])) (sym on) (goes_on done p part parts bytes ends off on)
        | inr no_more ↦ subst (λ t. EndsSchema (cond t (record { read = part; all = parts }) no_parts) (done ++ schema_part part parts bytes ∷ [])) (sym no_more) (inl refl)
      ])
]
ends_step done p (image f b before after) ends = inl refl
ends_step done p (byte_range f b place bytes) ends = inl refl
ends_step done p (quiet_point n) ends = inl refl
ends_step done p (control_point n next counts) ends = inl refl
ends_step done p (begin_restore n kind) ends = inl refl

ends_all : (xs done : List Entry) (p : Parts) → EndsSchema p done → EndsSchema (parts_from p xs) (done ++ xs)
ends_all [] done p ends = subst (λ (l : List Entry). EndsSchema p l) (sym (append_none done)) ends
ends_all (e ∷ xs) done p ends = subst (λ (l : List Entry). EndsSchema (parts_from (after_entry p e) xs) l) (append_assoc done (e ∷ []) xs) (ends_all xs (done ++ e ∷ []) (after_entry p e) (ends_step done p e ends))

whole_read : (p : Parts) → is_whole p ≡ true → (0 < p.read) × (p.read ≡ p.all)
whole_read p on = (grind (arith, nat_tests), grind (arith, nat_tests))

named : (entries front : List Entry) (bodies : List (List ℕ)) (all : ℕ) → entries ≡ front ++ parts_of_schema 1 all bodies → length bodies ≡ all → 0 < all
    → EndsWithSchema entries
named entries front [] all is long above = absurd (omega (arith, long, above))
named entries front (first ∷ rest) all is long above =
    record { earlier = front; first = first; rest = rest; is = is ∙ ap (λ k. front ++ parts_of_schema 1 k (first ∷ rest)) (sym long) }

pub whole_schemas : WholeSchemas
whole_schemas entries = (
  λ on.
      let p = parts_from no_parts entries in
      let read = whole_read p on in
      elim (ends_all entries [] no_parts (inl refl)) [
        | inl none ↦ absurd (omega (arith, none, read.0))
        | inr r ↦ named entries r.0 r.1 p.all r.2 (r.3 ∙ read.1) (omega (arith, read.0, read.1))
      ],
  λ ends. ap (λ (l : List Entry). is_whole (parts_from no_parts l)) ends.is ∙ schema_is_whole ends.earlier ends.first ends.rest no_parts,
)

-- ---- live entries

pub logged_append : (xs ys : List Entry) (p : Parts) → logged_from p (xs ++ ys) ≡ logged_from p xs ++ logged_from (parts_from p xs) ys
logged_append [] ys p = refl
logged_append (e ∷ xs) ys p =
    ap (λ (l : List Logged). said_by p e ++ l) (logged_append xs ys (after_entry p e)) ∙ sym (append_assoc (said_by p e) (logged_from (after_entry p e) xs) (logged_from (parts_from (after_entry p e) xs) ys))

has_logged : (n : ℕ) (xs : List Entry) (p : Parts) → has (is_point_logged n) (logged_from p xs) ≡ has (is_place n) xs
has_logged n [] p = refl
has_logged n (schema_part part parts bytes ∷ xs) p = has_logged n xs (after_entry p (schema_part part parts bytes))
has_logged n (image f b before after ∷ xs) p = has_logged n xs no_parts
has_logged n (byte_range f b place bytes ∷ xs) p = has_logged n xs no_parts
has_logged n (quiet_point m ∷ xs) p = ap (λ k. (m == n) || k) (has_logged n xs no_parts)
has_logged n (control_point m next counts ∷ xs) p = ap (λ k. (m == n) || k) (has_logged n xs no_parts)
has_logged n (begin_restore m kind ∷ xs) p = has_logged n xs no_parts

-- a cut of entries is a cut of what they say
says : (p : Parts) (b c : Bool) (e : Entry) (u : List Entry) (x : Logged) → said_by p e ≡ x ∷ [] → logged_from p (cond b (e ∷ []) (cond c (e ∷ u) [])) ≡ cond b (x ∷ []) (cond c (x ∷ logged_from (after_entry p e) u) [])
says p true c e u x is = ap (λ (l : List Logged). l ++ []) is
says p false true e u x is = ap (λ (l : List Logged). l ++ logged_from (after_entry p e) u) is
says p false false e u x is = refl

pub cut_logged : (n : ℕ) (xs : List Entry) (p : Parts) → logged_from p (until_first (is_place n) xs) ≡ until_first (is_point_logged n) (logged_from p xs)
cut_logged n [] p = refl
cut_logged n (schema_part part parts bytes ∷ xs) p = go (has (is_place n) xs) (has_logged n xs (after_entry p (schema_part part parts bytes))) (cut_logged n xs (after_entry p (schema_part part parts bytes)))
  where
    go : (c : Bool) → has (is_point_logged n) (logged_from (after_entry p (schema_part part parts bytes)) xs) ≡ c
        → logged_from (after_entry p (schema_part part parts bytes)) (until_first (is_place n) xs) ≡ until_first (is_point_logged n) (logged_from (after_entry p (schema_part part parts bytes)) xs)
        → logged_from p (cond c (schema_part part parts bytes ∷ until_first (is_place n) xs) []) ≡ until_first (is_point_logged n) (logged_from (after_entry p (schema_part part parts bytes)) xs)
    go true found rest = rest
    go false off rest = sym (until_none (is_point_logged n) (logged_from (after_entry p (schema_part part parts bytes)) xs) off)
cut_logged n (image f b before after ∷ xs) p =
    let x = event (change f b before after) in
    says p false (has (is_place n) xs) (image f b before after) (until_first (is_place n) xs) x refl ∙ (λ i. cond (sym (has_logged n xs no_parts) i) (x ∷ cut_logged n xs no_parts i) [])
cut_logged n (byte_range f b place bytes ∷ xs) p =
    let x = range f b place bytes in
    says p false (has (is_place n) xs) (byte_range f b place bytes) (until_first (is_place n) xs) x refl ∙ (λ i. cond (sym (has_logged n xs no_parts) i) (x ∷ cut_logged n xs no_parts i) [])
cut_logged n (quiet_point m ∷ xs) p =
    let x = event (quiet m) in
    says p (m == n) (has (is_place n) xs) (quiet_point m) (until_first (is_place n) xs) x refl ∙ (λ i. cond (m == n) (x ∷ []) (cond (sym (has_logged n xs no_parts) i) (x ∷ cut_logged n xs no_parts i) []))
cut_logged n (control_point m next counts ∷ xs) p =
    let x = event (control m next (counts_in counts) (is_whole p)) in
    says p (m == n) (has (is_place n) xs) (control_point m next counts) (until_first (is_place n) xs) x refl ∙ (λ i. cond (m == n) (x ∷ []) (cond (sym (has_logged n xs no_parts) i) (x ∷ cut_logged n xs no_parts i) []))
cut_logged n (begin_restore m kind ∷ xs) p =
    let x = event (begin m (how_of kind)) in
    says p false (has (is_place n) xs) (begin_restore m kind) (until_first (is_place n) xs) x refl ∙ (λ i. cond (sym (has_logged n xs no_parts) i) (x ∷ cut_logged n xs no_parts i) [])

-- a cut ends with a point, so no Schema part stands last
cut_found : (n : ℕ) (xs : List Entry) (p : Parts) → has (is_place n) xs ≡ true → parts_from p (until_first (is_place n) xs) ≡ no_parts
cut_found n [] p found = absurd (true≢false (sym found))
cut_found n (schema_part part parts bytes ∷ xs) p found =
    ap (λ c. parts_from p (cond c (schema_part part parts bytes ∷ until_first (is_place n) xs) [])) found ∙ cut_found n xs (after_entry p (schema_part part parts bytes)) found
cut_found n (image f b before after ∷ xs) p found = ap (λ c. parts_from p (cond c (image f b before after ∷ until_first (is_place n) xs) [])) found ∙ cut_found n xs no_parts found
cut_found n (byte_range f b place bytes ∷ xs) p found = ap (λ c. parts_from p (cond c (byte_range f b place bytes ∷ until_first (is_place n) xs) [])) found ∙ cut_found n xs no_parts found
cut_found n (quiet_point m ∷ xs) p found = elim (or_at (m == n) (has (is_place n) xs) found) [
  | inl here ↦ ap (λ t. parts_from p (cond t (quiet_point m ∷ []) (cond (has (is_place n) xs) (quiet_point m ∷ until_first (is_place n) xs) []))) here
  | inr more ↦ (λ i. parts_from p (cond (more.0 i) (quiet_point m ∷ []) (cond (more.1 i) (quiet_point m ∷ until_first (is_place n) xs) []))) ∙ cut_found n xs no_parts more.1
]
cut_found n (control_point m next counts ∷ xs) p found = elim (or_at (m == n) (has (is_place n) xs) found) [
  | inl here ↦ ap (λ t. parts_from p (cond t (control_point m next counts ∷ []) (cond (has (is_place n) xs) (control_point m next counts ∷ until_first (is_place n) xs) []))) here
  | inr more ↦ (λ i. parts_from p (cond (more.0 i) (control_point m next counts ∷ []) (cond (more.1 i) (control_point m next counts ∷ until_first (is_place n) xs) []))) ∙ cut_found n xs no_parts more.1
]
cut_found n (begin_restore m kind ∷ xs) p found = ap (λ c. parts_from p (cond c (begin_restore m kind ∷ until_first (is_place n) xs) [])) found ∙ cut_found n xs no_parts found

cut_parts : (n : ℕ) (xs : List Entry) → parts_from no_parts (until_first (is_place n) xs) ≡ no_parts
cut_parts n xs = elim (cases_Bool (has (is_place n) xs)) [
  | inl found ↦ cut_found n xs no_parts found
  | inr off ↦ ap (λ (l : List Entry). parts_from no_parts l) (until_none (is_place n) xs off)
]

-- what the live entries say is live, and a Schema that is begun among them is begun among all
pushed : (L : List Entry) (p : Parts) (e : Entry) → parts_from no_parts L ≡ p → parts_from no_parts (L ++ e ∷ []) ≡ after_entry p e
pushed L p e is = parts_append L (e ∷ []) no_parts ∙ ap (λ q. after_entry q e) is

one_more : (L : List Entry) (p : Parts) (e : Entry) (x : Logged) → parts_from no_parts L ≡ p → said_by p e ≡ x ∷ [] → events_in (L ++ e ∷ []) ≡ events_in L ++ x ∷ []
one_more L p e x is says_it = logged_append L (e ∷ []) no_parts ∙ ap (λ q. events_in L ++ (said_by q e ++ [])) is ∙ ap (λ (l : List Logged). events_in L ++ (l ++ [])) says_it

live_all : (xs L : List Entry) (p : Parts) → parts_from no_parts L ≡ p → events_in (live_entries_from L xs) ≡ live_logged (events_in L) (logged_from p xs)
live_all [] L p is = refl
live_all (schema_part part parts bytes ∷ xs) L p is =
    let e = schema_part part parts bytes in
    live_all xs (L ++ e ∷ []) (after_entry p e) (pushed L p e is)
    ∙ ap (λ (l : List Logged). live_logged l (logged_from (after_entry p e) xs)) (logged_append L (e ∷ []) no_parts ∙ append_none (events_in L))
live_all (image f b before after ∷ xs) L p is =
    let e = image f b before after in
    live_all xs (L ++ e ∷ []) no_parts (pushed L p e is) ∙ ap (λ (l : List Logged). live_logged l (logged_from no_parts xs)) (one_more L p e (event (change f b before after)) is refl)
live_all (byte_range f b place bytes ∷ xs) L p is =
    let e = byte_range f b place bytes in
    live_all xs (L ++ e ∷ []) no_parts (pushed L p e is) ∙ ap (λ (l : List Logged). live_logged l (logged_from no_parts xs)) (one_more L p e (range f b place bytes) is refl)
live_all (quiet_point n ∷ xs) L p is =
    let e = quiet_point n in
    live_all xs (L ++ e ∷ []) no_parts (pushed L p e is) ∙ ap (λ (l : List Logged). live_logged l (logged_from no_parts xs)) (one_more L p e (event (quiet n)) is refl)
live_all (control_point n next counts ∷ xs) L p is =
    let e = control_point n next counts in
    live_all xs (L ++ e ∷ []) no_parts (pushed L p e is) ∙ ap (λ (l : List Logged). live_logged l (logged_from no_parts xs)) (one_more L p e (event (control n next (counts_in counts) (is_whole p))) is refl)
live_all (begin_restore n kind ∷ xs) L p is =
    live_all xs (until_first (is_place n) L) no_parts (cut_parts n L) ∙ ap (λ (l : List Logged). live_logged l (logged_from no_parts xs)) (cut_logged n L no_parts)

pub live_of_entries : LiveOfEntries
live_of_entries entries = live_all entries [] no_parts refl
