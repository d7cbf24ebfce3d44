-- The entries of a manual subset that name a record: by the last bytes of its list's entries, and by the database.
use Rattle.std.proofs.Common.{◌≡◌, ◌∙◌, ◌-◌, ◌^◌, ◌<◌, ℕ, List, [], ◌∷◌, ◌++◌, Bool, true, false, cond, Some, None, refl, sym, ap, length, length-append, append_assoc, filter, arith}
use Rattle.std.specs.Prelude.{◌&&◌, ◌==◌, ◌||◌, not}
use Rattle.std.specs.List.{AllByRecursion, list_any}
use Rattle.std.specs.Str.{bytes_eq}
use Rattle.std.specs.declared.option.Option.{Option}
use Rattle.std.specs.FinMap.{entries, get}
use Rattle.std.specs.Int.{w32, to_be_bytes, from_be_bytes}
use Rattle.std.proofs.lemmas.Bool.Decides.{nat_tests}
use Rattle.std.proofs.lemmas.List.{drop_at}
use Rattle.std.proofs.lemmas.Nat.{from_be_bytes-to_be_bytes_4}
use Rattle.std.proofs.lemmas.Slice.Eq.{bytes_eq-Decides}
use Rattle.dms_base.specs.declared.kind.ItemKind.{ItemKind}
use Rattle.dms_desc.specs.Keys.{key_of}
use Rattle.dms_desc.specs.Shape.{Shape, Described}
use Rattle.dms_desc.specs.declared.record.Record.{Record}
use Rattle.dms_key.specs.ByteOrder.{high_first_length}
use Rattle.dms_key.specs.KeyBytes.{key_bytes}
use Rattle.dms_model.specs.Db.{Db, Place, SubsetEntry}
use Rattle.dms_model.specs.Members.{names}
use Rattle.dms_model.specs.Uses.{has_entry}
use Rattle.dms_ordlist.specs.Walks.{ends_with}
use Rattle.dms_sets.specs.Sets.{kinds_over}
use Rattle.dms_manual.specs.Entered.{as_member, entered, entered_get, manual_of}
use Rattle.dms_manual.specs.Listed.{bytes_for}
use Rattle.dms_manual.specs.Moves.{SmallIn}
use Rattle.dms_manual.specs.Refused.{any_at, any_entry, any_from, same_bool}

-- an entry of the list is of the record with this number
abbrev pub tells : ℕ → List ℕ → Bool
tells n q = ends_with (to_be_bytes w32 n) q

-- an entry of the database, of this subset, names the record with this number
abbrev pub names_record : ℕ → ℕ → SubsetEntry → Bool
names_record subset n e = (e.subset == subset) && (e.number == n)

same_bytes : (n m : ℕ) → n < 2 ^ 32 → m < 2 ^ 32 → bytes_eq (to_be_bytes w32 n) (to_be_bytes w32 m) ≡ (m == n)
same_bytes n m low small = by (m == n) (bytes_eq (to_be_bytes w32 n) (to_be_bytes w32 m)) refl refl
  where
    on : m ≡ n → (m == n) ≡ true
    on e = grind (arith, nat_tests, e)

    by : (a b : Bool) → (m == n) ≡ a → bytes_eq (to_be_bytes w32 n) (to_be_bytes w32 m) ≡ b → b ≡ a
    by true b is h =
        let e : m ≡ n = grind (arith, nat_tests, is) in
        sym h ∙ (bytes_eq-Decides (to_be_bytes w32 n) (to_be_bytes w32 m)).1 (ap (to_be_bytes w32) (sym e))
    by false true is h =
        let same = (bytes_eq-Decides (to_be_bytes w32 n) (to_be_bytes w32 m)).0 h in
        let e : m ≡ n = sym (from_be_bytes-to_be_bytes_4 m small) ∙ ap (from_be_bytes w32) (sym same) ∙ from_be_bytes-to_be_bytes_4 n low in
        absurd (cc (on e, is))
    by false false is h = refl

tells_front : (front : List ℕ) (n m : ℕ) → n < 2 ^ 32 → m < 2 ^ 32 → tells n (front ++ to_be_bytes w32 m) ≡ (m == n)
tells_front front n m low small =
    let long : length front ≡ length (front ++ to_be_bytes w32 m) - length (to_be_bytes w32 n) = omega (arith, length-append front (to_be_bytes w32 m), high_first_length 4 n, high_first_length 4 m) in
    ap (bytes_eq (to_be_bytes w32 n)) (drop_at front (to_be_bytes w32 m) (length (front ++ to_be_bytes w32 m) - length (to_be_bytes w32 n)) long) ∙ same_bytes n m low small

pub tells_is : (kinds : List ItemKind) (s : Shape) (o n m : ℕ) (r : Record) → n < 2 ^ 32 → m < 2 ^ 32 → tells n (bytes_for kinds s o m r) ≡ (m == n)
tells_is kinds s o n m r low small =
    ap (tells n) (sym (append_assoc (to_be_bytes w32 o) (key_bytes kinds s.parts (key_of s.parts r.values)) (to_be_bytes w32 m)))
    ∙ tells_front (to_be_bytes w32 o ++ key_bytes kinds s.parts (key_of s.parts r.values)) n m low small

-- ---- by the database

-- one of a list, of which this holds, passes a test
pub record Among {A : Type 0} (P : A → Type 0) (p : A → Bool) (xs : List A) : Type 0 where
  pub one : A
  pub is : P one
  pub holds : p one ≡ true
  pub also : (q : A → Bool) → q one ≡ true → list_any q xs ≡ true

or_true : (b : Bool) → (b || true) ≡ true
or_true true = refl
or_true false = refl

pub among : {A : Type 0} (P : A → Type 0) (p : A → Bool) (xs : List A) → AllByRecursion P xs → list_any p xs ≡ true → Among P p xs
among P p [] all h = absurd (cc h)
among P p (x ∷ xs) all h = by (p x) refl h (λ k. among P p xs all.1 k)
  where
    by : (b : Bool) → p x ≡ b → (b || list_any p xs) ≡ true → (list_any p xs ≡ true → Among P p xs) → Among P p (x ∷ xs)
    by true is k rest = record { one = x; is = all.0; holds = is; also = λ q on. ap (λ c. c || list_any q xs) on }
    by false is k rest = let a = rest k in record { one = a.one; is = a.is; holds = a.holds; also = λ q on. ap (λ c. q x || c) (a.also q on) ∙ or_true (q x) }

-- whatever it is
abbrev pub Any : {A : Type 0} → A → Type 0
Any x = Unit {0}

pub all_any : {A : Type 0} (xs : List A) → AllByRecursion Any xs
all_any [] = tt
all_any (x ∷ xs) = (tt, all_any xs)

module _ (desc : Described) (s : Shape) (db : Db) (n : ℕ) (r : Record) (at : get db.records (s.set, n) ≡ Some r) (small : SmallIn s db) (low : n < 2 ^ 32) where
  abbrev kinds : List ItemKind
  kinds = kinds_over desc s

  abbrev shows : Place × Record → Bool
  shows e = tells n (bytes_for kinds s e.0.0 e.0.1 e.1)

  pub has_of : (b : Bool) (o : Option Record) (x : Record) → cond b o None ≡ Some x → b ≡ true
  has_of true o x h = refl
  has_of false o x h = absurd (cc h)

  to_db : list_any shows (entries (entered s db)) ≡ true → list_any (names_record s.number n) db.entries ≡ true
  to_db h =
      let f = any_from shows (entered s db) h in
      let has = has_of (has_entry db s.number f.place.0 f.place.1) (as_member f.place.0 (get db.records (s.set, f.place.1))) f.rec (sym (entered_get s db f.place.0 f.place.1) ∙ f.at) in
      let number : (f.place.1 == n) ≡ true = sym (tells_is kinds s f.place.0 n f.place.1 f.rec low (small.each f.place.0 f.place.1 has).1) ∙ f.holds in
      let a = among Any (names s.number f.place.0 f.place.1) db.entries (all_any db.entries) has in
      a.also (names_record s.number n) (turn a.one f.place.0 f.place.1 a.holds number)
    where
      turn : (e : SubsetEntry) (o m : ℕ) → names s.number o m e ≡ true → (m == n) ≡ true → names_record s.number n e ≡ true
      turn e o m is number = grind (arith, nat_tests, is, number)

  to_list : list_any (names_record s.number n) db.entries ≡ true → list_any shows (entries (entered s db)) ≡ true
  to_list h =
      let a = among Any (names_record s.number n) db.entries (all_any db.entries) h in
      let has : has_entry db s.number a.one.owner n ≡ true = a.also (names s.number a.one.owner n) (turn a.one a.holds) in
      let there : get (entered s db) (a.one.owner, n) ≡ Some (record r { owner = a.one.owner }) = entered_get s db a.one.owner n ∙ (λ i. cond (has i) (as_member a.one.owner (at i)) None) in
      any_at shows (entered s db) (a.one.owner, n) (record r { owner = a.one.owner }) there (tells_is kinds s a.one.owner n n (record r { owner = a.one.owner }) low low ∙ own)
    where
      own : (n == n) ≡ true
      own = grind (arith, nat_tests)

      turn : (e : SubsetEntry) → names_record s.number n e ≡ true → names s.number e.owner n e ≡ true
      turn e is = grind (arith, nat_tests, is)

  -- The list has an entry that ends with a record's number where the database has an entry that names the record.
  pub named_manual : list_any (tells n) (manual_of desc db s) ≡ list_any (names_record s.number n) db.entries
  named_manual = any_entry kinds s (tells n) (entered s db) ∙ same_bool _ _ to_db to_list

-- ---- what a call answers

-- none of a list passes a test where those that pass it are none
pub any_filter : {A : Type 0} (p : A → Bool) (xs : List A) → list_any p xs ≡ not (length (filter p xs) == 0)
any_filter p [] = refl
any_filter p (x ∷ xs) = by (p x) (any_filter p xs)
  where
    by : (b : Bool) → list_any p xs ≡ not (length (filter p xs) == 0) → (b || list_any p xs) ≡ not (length (cond b (x ∷ filter p xs) (filter p xs)) == 0)
    by true rest = grind (arith, nat_tests)
    by false rest = rest
