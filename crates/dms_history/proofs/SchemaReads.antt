-- The Schema at a point.
use Rattle.std.proofs.Common.{ℕ, ◌+◌, ◌<◌, ◌≡◌, ◌==◌, ◌||◌, inl, inr, Bool, true, false, cond, List, [], ◌∷◌, ◌++◌, length, Option, Some, None, refl, sym, ◌∙◌, ap, arith, append_assoc}
use Rattle.std.proofs.lemmas.Bool.Decides.{nat_tests}
use Rattle.std.proofs.lemmas.Bool.{cases_Bool, true≢false}
use Rattle.dms_history.specs.Events.{BlockBytes, Event}
use Rattle.dms_history.specs.Images.{last_after}
use Rattle.dms_history.specs.Lists.{has, until_first}
use Rattle.dms_history.specs.Places.{is_point, is_described}
use Rattle.dms_history.specs.Ranges.{Logged, event, range, range_change, changes_of, changes_from, all_changes}
use Rattle.dms_history.specs.Entries.{Entry, schema_part, image, byte_range, quiet_point, control_point, begin_restore, is_begin}
use Rattle.dms_history.specs.Schemas.{no_parts, after_entry, parts_from, is_whole, parts_of_schema, schema_entries}
use Rattle.dms_history.specs.EntryEvents.{logged_from, events_in, is_place, live_after, live_entries_from, live_entries, live_of}
use Rattle.dms_history.specs.SchemaAt.{SchemaRead, no_schema, after_schema, last_schema, schema_of, schema_at, join_parts}
use Rattle.dms_history.specs.LawsOfSchemas.{EachSchema, SchemaStays, SchemaOfNew, LiveHasSchema}
use Rattle.dms_history.proofs.AtPoints.{true_or, or_true_right, or_no}
use Rattle.dms_history.proofs.Base.{has_append}
use Rattle.dms_history.proofs.HalfDone.{or_at}
use Rattle.dms_history.proofs.Order.{append_none}
use Rattle.dms_history.proofs.Turns.{live_of_ranges, changes_until}
use Rattle.dms_history.proofs.Schemas.{parts_append, cut_logged, live_of_entries}

-- ---- cuts of entries

pub has_more : (p : Entry → Bool) (xs ys : List Entry) → has p xs ≡ true → has p (xs ++ ys) ≡ true
has_more p [] ys found = absurd (true≢false (sym found))
has_more p (x ∷ xs) ys found = elim (or_at (p x) (has p xs) found) [
  | inl here ↦ true_or (p x) (has p (xs ++ ys)) here
  | inr more ↦ or_true_right (p x) (has p (xs ++ ys)) (has_more p xs ys more.1)
]

until_more : (p : Entry → Bool) (xs ys : List Entry) → has p xs ≡ true → until_first p (xs ++ ys) ≡ until_first p xs
until_more p [] ys found = absurd (true≢false (sym found))
until_more p (x ∷ xs) ys found = elim (or_at (p x) (has p xs) found) [
  | inl here ↦ ap (λ k. cond k (x ∷ []) (cond (has p (xs ++ ys)) (x ∷ until_first p (xs ++ ys)) [])) here ∙ sym (ap (λ k. cond k (x ∷ []) (cond (has p xs) (x ∷ until_first p xs) [])) here)
  | inr more ↦
      (λ i. cond (more.0 i) (x ∷ []) (cond (has_more p xs ys more.1 i) (x ∷ until_more p xs ys more.1 i) [])) ∙ sym (λ i. cond (more.0 i) (x ∷ []) (cond (more.1 i) (x ∷ until_first p xs) []))
]

until_end : (p : Entry → Bool) (xs : List Entry) (x : Entry) → has p xs ≡ false → p x ≡ true → until_first p (xs ++ x ∷ []) ≡ xs ++ x ∷ []
until_end p [] x off on = ap (λ k. cond k (x ∷ []) []) on
until_end p (y ∷ xs) x off on =
    let both = or_no (p y) (has p xs) off in
    let found : has p (xs ++ x ∷ []) ≡ true = ends xs in
    (λ i. cond (both.0 i) (y ∷ []) (cond (found i) (y ∷ until_end p xs x both.1 on i) []))
  where
    ends : (zs : List Entry) → has p (zs ++ x ∷ []) ≡ true
    ends [] = true_or (p x) false on
    ends (z ∷ zs) = or_true_right (p z) (has p (zs ++ x ∷ [])) (ends zs)

-- a cut of a cut
in_cut : (p q : Entry → Bool) (xs : List Entry) → has q (until_first p xs) ≡ true → until_first q (until_first p xs) ≡ until_first q xs
in_cut p q [] found = refl
in_cut p q (x ∷ xs) found = elim (cases_Bool (p x)) [
  | inl on ↦
      let cut : until_first p (x ∷ xs) ≡ x ∷ [] = ap (λ k. cond k (x ∷ []) (cond (has p xs) (x ∷ until_first p xs) [])) on in
      let at : q x ≡ true = alone (q x) (ap (λ (l : List Entry). has q l) (sym cut) ∙ found) in
      ap (λ (l : List Entry). until_first q l) cut ∙ ap (λ k. cond k (x ∷ []) []) at ∙ sym (ap (λ k. cond k (x ∷ []) (cond (has q xs) (x ∷ until_first q xs) [])) at)
  | inr off ↦ elim (cases_Bool (has p xs)) [
    | inr none ↦ absurd (true≢false (sym found ∙ (λ i. has q (cond (off i) (x ∷ []) (cond (none i) (x ∷ until_first p xs) [])))))
    | inl more ↦
        let cut : until_first p (x ∷ xs) ≡ x ∷ until_first p xs = λ i. cond (off i) (x ∷ []) (cond (more i) (x ∷ until_first p xs) []) in
        ap (λ (l : List Entry). until_first q l) cut
        ∙ elim (or_at (q x) (has q (until_first p xs)) (ap (λ (l : List Entry). has q l) (sym cut) ∙ found)) [
          | inl at ↦ ap (λ k. cond k (x ∷ []) (cond (has q (until_first p xs)) (x ∷ until_first q (until_first p xs)) [])) at ∙ sym (ap (λ k. cond k (x ∷ []) (cond (has q xs) (x ∷ until_first q xs) [])) at)
          | inr rest ↦
              (λ i. cond (rest.0 i) (x ∷ []) (cond (rest.1 i) (x ∷ in_cut p q xs rest.1 i) [])) ∙ sym (λ i. cond (rest.0 i) (x ∷ []) (cond (found_in p q xs rest.1 i) (x ∷ until_first q xs) []))
        ]
  ]
]
  where
    alone : (b : Bool) → b || false ≡ true → b ≡ true
    alone true on = refl
    alone false on = absurd (true≢false (sym on))

    found_in : (p q : Entry → Bool) (xs : List Entry) → has q (until_first p xs) ≡ true → has q xs ≡ true
    found_in p q [] found = found
    found_in p q (x ∷ xs) found = go (p x) (has p xs) found (λ more. found_in p q xs more)
      where
        go : (b c : Bool) → has q (cond b (x ∷ []) (cond c (x ∷ until_first p xs) [])) ≡ true → (has q (until_first p xs) ≡ true → has q xs ≡ true) → q x || has q xs ≡ true
        go true c found rest = true_or (q x) (has q xs) (alone (q x) found)
        go false true found rest = elim (or_at (q x) (has q (until_first p xs)) found) [ inl at ↦ true_or (q x) (has q xs) at | inr more ↦ or_true_right (q x) (has q xs) (rest more.1) ]
        go false false found rest = absurd (true≢false (sym found))

pub live_push : (xs : List Entry) (live : List Entry) (e : Entry) → live_entries_from live (xs ++ e ∷ []) ≡ live_after (live_entries_from live xs) e
live_push [] live e = refl
live_push (x ∷ xs) live e = live_push xs (live_after live x) e

pub live_grows : (live : List Entry) (e : Entry) → is_begin e ≡ false → live_after live e ≡ live ++ e ∷ []
live_grows live (schema_part part parts bytes) off = refl
live_grows live (image f b before after) off = refl
live_grows live (byte_range f b place bytes) off = refl
live_grows live (quiet_point n) off = refl
live_grows live (control_point n next counts) off = refl
live_grows live (begin_restore n kind) off = absurd (true≢false off)

-- ---- what is read

abbrev read_from : SchemaRead → List Entry → SchemaRead
read_from r [] = r
read_from r (e ∷ es) = read_from (after_schema r e) es

last_append : (xs ys : List Entry) (r : SchemaRead) (found : Option (List ℕ)) → last_schema r found (xs ++ ys) ≡ last_schema (read_from r xs) (last_schema r found xs) ys
last_append [] ys r found = refl
last_append (x ∷ xs) ys r found = last_append xs ys (after_schema r x) (cond (is_whole (after_schema r x).parts) (Some (after_schema r x).bytes) found)

parts_read : (e : Entry) (r : SchemaRead) → (after_schema r e).parts ≡ after_entry r.parts e
parts_read (schema_part part parts bytes) r = refl
parts_read (image f b before after) r = refl
parts_read (byte_range f b place bytes) r = refl
parts_read (quiet_point n) r = refl
parts_read (control_point n next counts) r = refl
parts_read (begin_restore n kind) r = refl

parts_are : (xs : List Entry) (r : SchemaRead) → (read_from r xs).parts ≡ parts_from r.parts xs
parts_are [] r = refl
parts_are (e ∷ xs) r = parts_are xs (after_schema r e) ∙ ap (λ p. parts_from p xs) (parts_read e r)

reads_on : (bodies : List (List ℕ)) (k all : ℕ) (acc : List ℕ) (found : Option (List ℕ)) → 0 < k → k + length bodies ≡ all → (length bodies ≡ 0 → found ≡ Some acc)
    → last_schema (record { parts = record { read = k; all = all }; bytes = acc }) found (parts_of_schema (k + 1) all bodies) ≡ Some (acc ++ join_parts bodies)
reads_on [] k all acc found above count last = last refl ∙ ap (λ (l : List ℕ). Some l) (sym (append_none acc))
reads_on (bytes ∷ rest) k all acc found above count last =
    let step : after_schema (record { parts = record { read = k; all = all }; bytes = acc }) (schema_part (k + 1) all bytes) ≡ record { parts = record { read = k + 1; all = all }; bytes = acc ++ bytes } =
    λ i. record { parts = part_step k all bytes above i; bytes = cond (not_first k above i) bytes (acc ++ bytes) } in
    ap (λ (r : SchemaRead). last_schema r (cond (is_whole r.parts) (Some r.bytes) found) (parts_of_schema (k + 1 + 1) all rest)) step
    ∙ reads_on rest (k + 1) all (acc ++ bytes) (cond (is_whole (record { read = k + 1; all = all })) (Some (acc ++ bytes)) found) (omega (arith, above)) (omega (arith, count))
    (λ none. ap (λ c. cond c (Some (acc ++ bytes)) found) (whole (k + 1) all (omega arith) (omega (arith, count, none))))
    ∙ ap (λ (l : List ℕ). Some l) (append_assoc acc bytes (join_parts rest))
  where
    part_step : (k all : ℕ) (bytes : List ℕ) → 0 < k → after_entry (record { read = k; all = all }) (schema_part (k + 1) all bytes) ≡ record { read = k + 1; all = all }
    part_step k all bytes above = grind (arith, nat_tests)

    not_first : (k : ℕ) → 0 < k → (k + 1 == 1) ≡ false
    not_first k above = grind (arith, nat_tests)

    whole : (n m : ℕ) → 0 < n → n ≡ m → is_whole (record { read = n; all = m }) ≡ true
    whole n m above same = grind (arith, nat_tests)

whole_read : (r : SchemaRead) (found : Option (List ℕ)) (first : List ℕ) (rest : List (List ℕ)) → last_schema r found (schema_entries (first ∷ rest)) ≡ Some (join_parts (first ∷ rest))
whole_read r found first rest =
    reads_on rest 1 (length (first ∷ rest)) first (cond (is_whole (record { read = 1; all = length (first ∷ rest) })) (Some first) found) (omega arith) (omega arith)
    (λ none. ap (λ c. cond c (Some first) found) (whole (length (first ∷ rest)) (omega (arith, none))))
  where
    whole : (m : ℕ) → 1 ≡ m → is_whole (record { read = 1; all = m }) ≡ true
    whole m same = grind (arith, nat_tests)

pub each_schema : EachSchema
each_schema entries = record {
  whole = λ first rest. last_append entries (schema_entries (first ∷ rest)) no_schema None ∙ whole_read (read_from no_schema entries) (last_schema no_schema None entries) first rest;
  stays = λ e off.
      let r = read_from no_schema entries in
      let parts : (after_schema r e).parts ≡ parts_from no_parts (entries ++ e ∷ []) = parts_read e r ∙ ap (λ p. after_entry p e) (parts_are entries no_schema) ∙ sym (parts_append entries (e ∷ []) no_parts) in
      last_append entries (e ∷ []) no_schema None ∙ ap (λ c. cond c (Some (after_schema r e).bytes) (last_schema no_schema None entries)) (ap is_whole parts ∙ off);
}

-- ---- at a point

pub schema_stays : SchemaStays
unfolding schema_at
schema_stays entries n = (
  λ e off found.
      ap (λ (l : List Entry). schema_of (until_first (is_place n) l)) (live_push entries [] e ∙ live_grows (live_entries entries) e off) ∙ ap schema_of (until_more (is_place n) (live_entries entries) (e ∷ []) found),
  λ m kind found.
      ap (λ (l : List Entry). schema_of (until_first (is_place n) l)) (live_push entries [] (begin_restore m kind)) ∙ ap schema_of (in_cut (is_place m) (is_place n) (live_entries entries) found),
)

pub schema_of_new : SchemaOfNew
unfolding schema_at
schema_of_new entries n off =
    let live = live_entries entries in
    (new (quiet_point n) refl (same n) (λ r. refl), λ next counts. new (control_point n next counts) refl (same n) (λ r. refl))
  where
    same : (n : ℕ) → (n == n) ≡ true
    same n = grind (arith, nat_tests)

    new : (e : Entry) → is_begin e ≡ false → is_place n e ≡ true → ((r : SchemaRead) → is_whole (after_schema r e).parts ≡ false) → schema_of (until_first (is_place n) (live_entries (entries ++ e ∷ []))) ≡ schema_of (live_entries entries)
    new e goes on none =
        let live = live_entries entries in
        ap (λ (l : List Entry). schema_of (until_first (is_place n) l)) (live_push entries [] e ∙ live_grows live e goes) ∙ ap schema_of (until_end (is_place n) live e off on)
        ∙ last_append live (e ∷ []) no_schema None ∙ ap (λ c. cond c (Some (after_schema (read_from no_schema live) e).bytes) (last_schema no_schema None live)) (none (read_from no_schema live))

-- ---- each live point has one

abbrev told_whole : Logged → Bool
told_whole (event e) = is_described e
told_whole (range f b place bytes) = false

range_plain : (f b place : ℕ) (bytes : List ℕ) (o : Option BlockBytes) → has is_described (range_change f b place bytes o) ≡ false
range_plain f b place bytes None = refl
range_plain f b place bytes (Some old) = refl

changes_told : (xs : List Logged) (acc : List Event) → has is_described (changes_from acc xs) ≡ true → has is_described acc || has told_whole xs ≡ true
changes_told [] acc found = true_or (has is_described acc) false found
changes_told (x ∷ xs) acc found = elim (or_at (has is_described (acc ++ changes_of acc x)) (has told_whole xs) (changes_told xs (acc ++ changes_of acc x) found)) [
  | inr more ↦ or_true_right (has is_described acc) (told_whole x || has told_whole xs) (or_true_right (told_whole x) (has told_whole xs) more.1)
  | inl now ↦ elim (or_at (has is_described acc) (has is_described (changes_of acc x)) (sym (has_append is_described acc (changes_of acc x)) ∙ now)) [
    | inl was ↦ true_or (has is_described acc) (told_whole x || has told_whole xs) was
    | inr new ↦ or_true_right (has is_described acc) (told_whole x || has told_whole xs) (true_or (told_whole x) (has told_whole xs) (one x new.1))
  ]
]
  where
    one : (x : Logged) → has is_described (changes_of acc x) ≡ true → told_whole x ≡ true
    one (event e) on = single (is_described e) on
      where
        single : (b : Bool) → b || false ≡ true → b ≡ true
        single true on = refl
        single false on = absurd (true≢false (sym on))
    one (range f b place bytes) on = absurd (true≢false (sym on ∙ range_plain f b place bytes (last_after f b acc)))

abbrev HasOne : Option (List ℕ) → Type 0
HasOne o = (bytes : List ℕ) × (o ≡ Some bytes)

kept_one : (es : List Entry) (r : SchemaRead) (found : Option (List ℕ)) → HasOne found → HasOne (last_schema r found es)
kept_one [] r found one = one
kept_one (e ∷ es) r found one = kept_one es (after_schema r e) (cond (is_whole (after_schema r e).parts) (Some (after_schema r e).bytes) found) (either (is_whole (after_schema r e).parts))
  where
    either : (b : Bool) → HasOne (cond b (Some (after_schema r e).bytes) found)
    either true = ((after_schema r e).bytes, refl)
    either false = one

finds_one : (es : List Entry) (r : SchemaRead) (found : Option (List ℕ)) → (is_whole r.parts ≡ true → HasOne found) → has told_whole (logged_from r.parts es) ≡ true → HasOne (last_schema r found es)
finds_one [] r found was told = absurd (true≢false (sym told))
finds_one (schema_part part parts bytes ∷ es) r found was told =
    finds_one es (after_schema r (schema_part part parts bytes)) (cond (is_whole (after_schema r (schema_part part parts bytes)).parts) (Some (after_schema r (schema_part part parts bytes)).bytes) found) (λ on. ((after_schema r (schema_part part parts bytes)).bytes, ap (λ c. cond c (Some (after_schema r (schema_part part parts bytes)).bytes) found) on)) told
finds_one (image f b before after ∷ es) r found was told = finds_one es no_schema found (λ on. absurd (true≢false (sym on))) told
finds_one (byte_range f b place bytes ∷ es) r found was told = finds_one es no_schema found (λ on. absurd (true≢false (sym on))) told
finds_one (quiet_point n ∷ es) r found was told = finds_one es no_schema found (λ on. absurd (true≢false (sym on))) told
finds_one (control_point n next counts ∷ es) r found was told = elim (or_at (is_whole r.parts) (has told_whole (logged_from no_parts es)) told) [
  | inl whole ↦ kept_one es no_schema found (was whole)
  | inr more ↦ finds_one es no_schema found (λ on. absurd (true≢false (sym on))) more.1
]
finds_one (begin_restore n kind ∷ es) r found was told = finds_one es no_schema found (λ on. absurd (true≢false (sym on))) told

pub live_has_schema : LiveHasSchema
unfolding schema_at all_changes
live_has_schema entries n at =
    let front = until_first (is_place n) (live_entries entries) in
    let told : all_changes (events_in front) ≡ until_first (is_point n) (live_of entries) =
    ap all_changes (cut_logged n (live_entries entries) no_parts) ∙ changes_until n (events_in (live_entries entries))
    ∙ ap (λ (l : List Logged). until_first (is_point n) (all_changes l)) (live_of_entries entries) ∙ ap (λ (l : List Event). until_first (is_point n) l) (sym (live_of_ranges (events_in entries))) in
    finds_one front no_schema None (λ on. absurd (true≢false (sym on))) (changes_told (events_in front) [] (ap (λ (l : List Event). has is_described l) told ∙ at.described))
