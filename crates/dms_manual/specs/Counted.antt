-- The list of a manual subset has as many entries as the database has of the subset.
use Rattle.std.proofs.Common.{◌≡◌, ◌∙◌, ◌+◌, ℕ, List, [], ◌∷◌, Bool, true, false, cond, Some, None, refl, sym, ap, length, filter, arith}
use Rattle.std.specs.Prelude.{T, ◌==◌, ◌||◌, is_some}
use Rattle.std.specs.List.{AllByRecursion, list_any}
use Rattle.std.specs.declared.option.Option.{Option}
use Rattle.std.specs.FinMap.{entries, entries_sorted, from_entries, get, get-from_entries, is_sorted, keys, len, len-empty, len-entries, len-insert}
use Rattle.std.specs.FinMap.Entries.{below_all}
use Rattle.std.specs.Ordering.{eq_by_cmp, is_eq, is_lt}
use Rattle.std.specs.declared.cmp.Ordering.TheVariants.{Less}
use Rattle.std.proofs.lemmas.Bool.Decides.{nat_tests}
use Rattle.dms_base.specs.declared.kind.ItemKind.{ItemKind}
use Rattle.dms_desc.specs.Shape.{Shape, Described}
use Rattle.dms_desc.specs.declared.record.Record.{Record}
use Rattle.dms_model.specs.Db.{Db, Place, Records, SubsetEntry, place_cmp}
use Rattle.dms_model.specs.Fresh.{first_true, second_true}
use Rattle.dms_model.specs.MemberLaws.{equal_of}
use Rattle.dms_model.specs.Members.{names}
use Rattle.dms_model.specs.Places.{itself, places_total}
use Rattle.dms_model.specs.Uses.{is_in_subset}
use Rattle.dms_model.specs.Valid.{AreRising, entry_cmp}
use Rattle.dms_chain.specs.Lists.{bytes_cmp, bytes_same, empty_keys, has_entry, is_same, less_of}
use Rattle.dms_sets.specs.Listing.{AllPlaces, listing}
use Rattle.dms_sets.specs.Sets.{keys_with_opt, kinds_over}
use Rattle.dms_manual.specs.Entered.{IsSmallPair, as_member, entered, entered_rows, found_row, manual_of, member_entry, place_told, row_more}
use Rattle.dms_manual.specs.EnteringLaws.{with_new}
use Rattle.dms_manual.specs.Listed.{bytes_for}
use Rattle.dms_manual.specs.Moves.{SmallIn, small_places, told}
use Rattle.dms_manual.specs.Refused.{any_listing}

-- ---- members have entries of their own

module _ (kinds : List ItemKind) (s : Shape) where
  -- an entry is that of a member behind another one
  not_same : (k : Place) (r : Record) (e : Place × Record) (b : Bool) → IsSmallPair k → IsSmallPair e.0 → T (is_lt (place_cmp k e.0)) → is_same (bytes_for kinds s k.0 k.1 r) (bytes_for kinds s e.0.0 e.0.1 e.1) ≡ b → b ≡ false
  not_same k r e false small other less h = refl
  not_same k r e true small other less h =
      let mine = bytes_for kinds s k.0 k.1 r in
      let its = bytes_for kinds s e.0.0 e.0.1 e.1 in
      let same : mine ≡ its = bytes_same mine its (equal_of (bytes_cmp mine its) h) in
      let place : k ≡ e.0 = told kinds s k r mine small refl ∙ ap place_told same ∙ sym (told kinds s e.0 e.1 its other refl) in
      let off : eq_by_cmp place_cmp k e.0 ≡ false = ap is_eq (less_of (place_cmp k e.0) less) in
      let on : eq_by_cmp place_cmp k e.0 ≡ true = ap (eq_by_cmp place_cmp k) (sym place) ∙ itself k in
      absurd (cc (on, off))

  none_same : (k : Place) (r : Record) (es : List (Place × Record)) → IsSmallPair k → AllPlaces IsSmallPair es → T (below_all place_cmp k es)
      → list_any (λ (e : Place × Record). is_same (bytes_for kinds s k.0 k.1 r) (bytes_for kinds s e.0.0 e.0.1 e.1)) es ≡ false
  none_same k r [] small all below = refl
  none_same k r (e ∷ es) small all below =
      (λ i. not_same k r e (is_same (bytes_for kinds s k.0 k.1 r) (bytes_for kinds s e.0.0 e.0.1 e.1)) small all.0 (first_true _ _ below) refl i || none_same k r es small all.1 (second_true _ _ below) i)

  pub listing_long : (es : List (Place × Record)) → AllPlaces IsSmallPair es → T (is_sorted place_cmp es) → length (keys (listing (member_entry kinds s) es)) ≡ length es
  listing_long [] all order = ap (λ (x : List (List ℕ)). length x) empty_keys
  listing_long (e ∷ es) all order =
      let q = bytes_for kinds s e.0.0 e.0.1 e.1 in
      let rest = keys (listing (member_entry kinds s) es) in
      let off : has_entry q rest ≡ false = any_listing kinds s (is_same q) es ∙ none_same e.0 e.1 es all.0 all.1 (first_true _ _ order) in
      let long = listing_long es all.1 (second_true _ _ order) in
      omega (arith, ap (λ (x : List (List ℕ)). length x) (keys_with_opt (member_entry kinds s e.0 e.1) (listing (member_entry kinds s) es)), with_new q rest off, long)

-- ---- entries name members of their own

same_entry : (e x : SubsetEntry) → names e.subset e.owner e.number x ≡ true → x ≡ e
same_entry e x h =
    let s : x.subset ≡ e.subset = grind (arith, nat_tests, h) in
    let w : x.owner ≡ e.owner = grind (arith, nat_tests, h) in
    let m : x.number ≡ e.number = grind (arith, nat_tests, h) in
    λ i. record { subset = s i; owner = w i; number = m i }

not_before : (e : SubsetEntry) → entry_cmp e e ≡ Less → ⊥
not_before e h = grind (arith, nat_tests, h)

none_named : (e : SubsetEntry) (es : List SubsetEntry) → AllByRecursion (λ x. entry_cmp e x ≡ Less) es → list_any (names e.subset e.owner e.number) es ≡ false
none_named e [] all = refl
none_named e (x ∷ es) all = by (names e.subset e.owner e.number x) refl (none_named e es all.1)
  where
    by : (b : Bool) → names e.subset e.owner e.number x ≡ b → list_any (names e.subset e.owner e.number) es ≡ false → (b || list_any (names e.subset e.owner e.number) es) ≡ false
    by true is rest = absurd (not_before e (ap (entry_cmp e) (sym (same_entry e x is)) ∙ all.0))
    by false is rest = rest

-- the record that an entry of this subset names stands
abbrev pub NamesRecord : ℕ → ℕ → Records → SubsetEntry → Type 0
NamesRecord subset set records e = (e.subset == subset) ≡ true → is_some (get records (set, e.number)) ≡ true

module _ (subset set : ℕ) (records : Records) where
  abbrev rows : List SubsetEntry → List (Place × Record)
  rows es = entered_rows subset set records es

  abbrev of_rows : List (Place × Record) → Records
  of_rows xs = from_entries xs

  one_row : (k : Place) (o : Option Record) (xs : List (Place × Record)) → is_some o ≡ true → get (of_rows xs) k ≡ None → len (of_rows (row_more k o xs)) ≡ len (of_rows xs) + 1
  one_row k None xs some none = absurd (cc some)
  one_row k (Some r) xs some none = len-insert places_total (of_rows xs) k r ∙ ap (λ (o : Option Record). cond (is_some o) (len (of_rows xs)) (len (of_rows xs) + 1)) none

  member_some : (o : ℕ) (x : Option Record) → is_some x ≡ true → is_some (as_member o x) ≡ true
  member_some o None h = h
  member_some o (Some r) h = refl

  rows_long : (es : List SubsetEntry) → AreRising es → AllByRecursion (NamesRecord subset set records) es → len (of_rows (rows es)) ≡ length (filter (is_in_subset subset) es)
  rows_long [] rising all = len-empty place_cmp Record
  rows_long (e ∷ es) rising all = by (e.subset == subset) refl (rows_long es rising.1 all.1)
    where
      by : (b : Bool) → (e.subset == subset) ≡ b → len (of_rows (rows es)) ≡ length (filter (is_in_subset subset) es)
          → len (of_rows (cond b (row_more (e.owner, e.number) (as_member e.owner (get records (set, e.number))) (rows es)) (rows es))) ≡ length (cond b (e ∷ filter (is_in_subset subset) es) (filter (is_in_subset subset) es))
      by false is rest = rest
      by true is rest =
          let same : subset ≡ e.subset = grind (arith, nat_tests, is) in
          let off : list_any (names subset e.owner e.number) es ≡ false = ap (λ k. list_any (names k e.owner e.number) es) same ∙ none_named e es rising.0 in
          let none : get (of_rows (rows es)) (e.owner, e.number) ≡ None = get-from_entries places_total (rows es) (e.owner, e.number) ∙ found_row subset set records e.owner e.number es ∙ ap (λ b. cond b (as_member e.owner (get records (set, e.number))) None) off in
          one_row (e.owner, e.number) (as_member e.owner (get records (set, e.number))) (rows es) (member_some e.owner (get records (set, e.number)) (all.0 is)) none
          ∙ (let more : len (of_rows (rows es)) + 1 ≡ length (e ∷ filter (is_in_subset subset) es) = omega (arith, rest) in more)

-- where entries rise, and the record of each stands
pub counted_manual : (desc : Described) (s : Shape) (db : Db) → SmallIn s db → AreRising db.entries → AllByRecursion (NamesRecord s.number s.set db.records) db.entries → length (manual_of desc db s) ≡ length (filter (is_in_subset s.number) db.entries)
counted_manual desc s db small rising all =
    listing_long (kinds_over desc s) s (entries (entered s db)) (small_places s db small) (entries_sorted (entered s db))
    ∙ sym (len-entries (entered s db)) ∙ rows_long s.number s.set db.records db.entries rising all
