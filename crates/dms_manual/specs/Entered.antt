-- The entries of a manual subset: its members by owner and number, their bytes, and what a change of one entry or one record makes of them.
use Rattle.std.proofs.Common.{◌≡◌, ◌∙◌, ◌^◌, ◌<◌, ℕ, List, [], ◌∷◌, Bool, true, false, cond, Some, None, refl, sym, ap, arith}
use Rattle.std.specs.Prelude.{◌&&◌, ◌==◌, ◌||◌, is_some}
use Rattle.std.specs.List.{AllByRecursion, list_any}
use Rattle.std.specs.declared.option.Option.{Option}
use Rattle.std.specs.FinMap.{find, from_entries, get, get-from_entries, keys}
use Rattle.std.specs.Ordering.{eq_by_cmp}
use Rattle.std.proofs.lemmas.Bool.Decides.{nat_tests}
use Rattle.dms_base.specs.declared.kind.ItemKind.{ItemKind}
use Rattle.dms_desc.specs.Keys.{key_of}
use Rattle.dms_desc.specs.Shape.{Shape, Described}
use Rattle.dms_desc.specs.declared.record.Record.{Record}
use Rattle.dms_model.specs.Db.{Db, Place, Records, SubsetEntry, place_cmp}
use Rattle.dms_model.specs.Members.{names}
use Rattle.dms_model.specs.Places.{place_is, places_total}
use Rattle.dms_sets.specs.Entries.{entry_bytes}
use Rattle.dms_sets.specs.Listing.{listing_of}
use Rattle.dms_sets.specs.Sets.{kinds_over, number_in, owner_in}
use Rattle.dms_model.specs.Uses.{has_entry}

-- ---- definitions

-- a record as a member for this owner
abbrev pub as_member : ℕ → Option Record → Option Record
as_member owner None = None
as_member owner (Some r) = Some (record r { owner = owner })

-- the members that entries of a subset name, each under its owner and its number
abbrev pub row_more : Place → Option Record → List (Place × Record) → List (Place × Record)
row_more k None rows = rows
row_more k (Some r) rows = (k, r) ∷ rows

abbrev pub entered_rows : ℕ → ℕ → Records → List SubsetEntry → List (Place × Record)
entered_rows subset set records [] = []
entered_rows subset set records (e ∷ es) =
    cond (e.subset == subset) (row_more (e.owner, e.number) (as_member e.owner (get records (set, e.number))) (entered_rows subset set records es)) (entered_rows subset set records es)

-- The members of a manual subset, by owner and number. It is a map of records, as the database has one of its data sets, so that all laws of listings hold of it.
abbrev pub entered : Shape → Db → Records
entered s db = from_entries (entered_rows s.number s.set db.records db.entries)

-- the bytes of an entry
abbrev pub member_entry : List ItemKind → Shape → Place → Record → Option (List ℕ)
member_entry kinds s k r = Some (entry_bytes kinds s.parts k.0 (key_of s.parts r.values) k.1)

-- the entries of a manual subset, in byte order
abbrev pub manual_of : Described → Db → Shape → List (List ℕ)
manual_of desc db s = keys (listing_of (member_entry (kinds_over desc s) s) (entered s db))

-- the place that an entry tells
abbrev pub place_told : List ℕ → Place
place_told q = (owner_in q, number_in q)

abbrev pub IsSmallPair : Place → Type 0
IsSmallPair k = (k.0 < 2 ^ 32) × (k.1 < 2 ^ 32)

-- owners and numbers of entries are small
abbrev pub AreSmall : List SubsetEntry → Type 0
AreSmall es = AllByRecursion (λ (e : SubsetEntry). IsSmallPair (e.owner, e.number)) es

-- ---- what stands under an owner and a number

module _ (subset set : ℕ) (records : Records) (o n : ℕ) where
  abbrev here : Option Record
  here = as_member o (get records (set, n))

  row_found : (k : Place) (x : Option Record) (rows : List (Place × Record)) (b : Bool) → eq_by_cmp place_cmp (o, n) k ≡ b → (b ≡ true → x ≡ here)
      → find place_cmp (o, n) (row_more k x rows) ≡ cond (b && is_some here) here (find place_cmp (o, n) rows)
  row_found k None rows true is same = ap (λ (y : Option Record). cond (is_some y) y (find place_cmp (o, n) rows)) (same refl)
  row_found k None rows false is same = refl
  row_found k (Some r) rows true is same = ap (λ b. cond b (Some r) (find place_cmp (o, n) rows)) is ∙ ap (λ (y : Option Record). cond (is_some y) y (find place_cmp (o, n) rows)) (same refl)
  row_found k (Some r) rows false is same = ap (λ b. cond b (Some r) (find place_cmp (o, n) rows)) is

  opt_or : (b c : Bool) (x : Option Record) → cond (b && is_some x) x (cond c x None) ≡ cond (b || c) x None
  opt_or true true None = refl
  opt_or true false None = refl
  opt_or true c (Some r) = refl
  opt_or false c x = refl

  same_names : (e : SubsetEntry) → (e.subset == subset) ≡ true → names subset o n e ≡ eq_by_cmp place_cmp (o, n) (e.owner, e.number)
  same_names e is = grind (arith, nat_tests, is)

  off_names : (e : SubsetEntry) → (e.subset == subset) ≡ false → names subset o n e ≡ false
  off_names e is = grind (arith, nat_tests, is)

  pub found_row : (es : List SubsetEntry) → find place_cmp (o, n) (entered_rows subset set records es) ≡ cond (list_any (names subset o n) es) here None
  found_row [] = refl
  found_row (e ∷ es) = by (e.subset == subset) refl (found_row es)
    where
      at : (b : Bool) → eq_by_cmp place_cmp (o, n) (e.owner, e.number) ≡ b → b ≡ true → as_member e.owner (get records (set, e.number)) ≡ here
      at true is h = let p = place_is (o, n) (e.owner, e.number) is in λ i. as_member ((sym p i).0) (get records (set, (sym p i).1))
      at false is h = absurd (cc)

      by : (b : Bool) → (e.subset == subset) ≡ b → find place_cmp (o, n) (entered_rows subset set records es) ≡ cond (list_any (names subset o n) es) here None
          → find place_cmp (o, n) (cond b (row_more (e.owner, e.number) (as_member e.owner (get records (set, e.number))) (entered_rows subset set records es)) (entered_rows subset set records es))
          ≡ cond (names subset o n e || list_any (names subset o n) es) here None
      by true is rest =
          let b = eq_by_cmp place_cmp (o, n) (e.owner, e.number) in
          row_found (e.owner, e.number) (as_member e.owner (get records (set, e.number))) (entered_rows subset set records es) b refl (at b refl)
          ∙ ap (cond (b && is_some here) here) rest ∙ opt_or b (list_any (names subset o n) es) here
          ∙ ap (λ c. cond (c || list_any (names subset o n) es) here None) (sym (same_names e is))
      by false is rest = rest ∙ ap (λ c. cond (c || list_any (names subset o n) es) here None) (sym (off_names e is))

-- Under an owner and a number stands the record, where the database has such an entry.
pub entered_get : (s : Shape) (db : Db) (o n : ℕ) → get (entered s db) (o, n) ≡ cond (has_entry db s.number o n) (as_member o (get db.records (s.set, n))) None
entered_get s db o n = get-from_entries places_total (entered_rows s.number s.set db.records db.entries) (o, n) ∙ found_row s.number s.set db.records o n db.entries
