-- What an entry of a set stands for, and the member that it is.
use Rattle.std.proofs.Common.{◌≡◌, ◌∙◌, ◌<◌, ◌≤◌, ◌^◌, ℕ, List, ◌++◌, Bool, true, false, cond, Some, None, refl, sym, ap, subst, length, length-append, arith}
use Rattle.std.specs.Prelude.{◌&&◌, ◌==◌, is_some, nat_le, nat_lt}
use Rattle.std.specs.declared.option.Option.{Option}
use Rattle.std.specs.Option.{option_map}
use Rattle.std.specs.FinMap.{contains_key-keys, entries, get}
use Rattle.std.specs.Ordering.{eq_by_cmp}
use Rattle.std.specs.Str.{bytes_eq}
use Rattle.std.specs.Int.{w32, to_be_bytes}
use Rattle.std.proofs.lemmas.Bool.Decides.{nat_tests}
use Rattle.std.proofs.lemmas.Slice.Eq.{bytes_eq-Decides}
use Rattle.std.proofs.lemmas.Bool.{and_parts}
use Rattle.std.proofs.lemmas.Option.{same_Some}
use Rattle.dms_base.specs.declared.kind.ItemKind.{ItemKind}
use Rattle.dms_desc.specs.declared.record.Record.{Record}
use Rattle.dms_desc.specs.Keys.{key_of}
use Rattle.dms_desc.specs.Kinds.{over, takes, is_set_or_automatic}
use Rattle.dms_desc.specs.Lookups.{over_of, parts_of, set_of, structure_of}
use Rattle.dms_desc.specs.Shape.{Shape, Described}
use Rattle.dms_key.specs.KeyBytes.{key_bytes}
use Rattle.dms_model.specs.declared.spot.Spot.{Spot}
use Rattle.dms_model.specs.Db.{Db}
use Rattle.dms_model.specs.Fitting.{IsNumber, RecordFits, SpotFits, is_number}
use Rattle.dms_model.specs.Members.{spot_of}
use Rattle.dms_model.specs.Stores.{TellsOf}
use Rattle.dms_chain.specs.Lists.{bytes_cmp, bytes_same, has_entry}
use Rattle.dms_sets.specs.Changes.{entry_in}
use Rattle.dms_sets.specs.Entries.{entry_bytes}
use Rattle.dms_sets.specs.Finds.{spot_by}
use Rattle.dms_sets.specs.Listing.{AllPlaces, lists_members, member_opt, test_of}
use Rattle.dms_sets.specs.Owners.{is_of, is_of_entry}
use Rattle.dms_sets.specs.Sets.{IsSmall, entries_of, entry_number, entry_of, kinds_over, listed_in, number_in, own_entry, place_in_entry}
use Rattle.dms_sets.specs.Spots.{and_then, spot_at}
use Rattle.dms_store.specs.Listed.{IsEntryOfRecord, is_entry}
use Rattle.dms_spelling.specs.ServingLaws.{served_at}
use Rattle.dms_spelling.specs.Serving.{IsServed}
use Rattle.dms_model.specs.MemberLaws.{equal_of}

-- the records of a set are those of another structure
pub over_set : (s : Shape) → is_set_or_automatic s ≡ true → over s ≡ s.set
over_set s kept =
    let two = and_parts (nat_lt 2 s.kind) (nat_lt s.kind 5) kept in
    let off : nat_lt s.kind 3 ≡ false = grind (arith, nat_tests, two.0) in
    ap (λ b. cond b s.number s.set) off

-- ---- the entries of a told database

abbrev yes_of : Bool → Option (Unit {0})
yes_of b = cond b (Some tt) None

some_yes : (b : Bool) → is_some (yes_of b) ≡ b
some_yes true = refl
some_yes false = refl

module _ (desc : Described) (s : Shape) (db : Db) (q : List ℕ) where
  stands_at : (o : Option (List ℕ)) (r : Record) → get db.records (place_in_entry s q) ≡ Some r → entry_of (kinds_over desc s) s (place_in_entry s q) r ≡ o → is_some (test_of q o) ≡ true → IsEntryOfRecord desc s db q
  stands_at None r at is h = absurd (cc)
  stands_at (Some x) r at is h =
      let same : eq_by_cmp bytes_cmp q x ≡ true = sym (some_yes (eq_by_cmp bytes_cmp q x)) ∙ h in
      (r, at, is ∙ ap (λ (y : List ℕ). Some y) (sym (bytes_same q x (equal_of (bytes_cmp q x) same))))

  stands_opt : (o : Option Record) → get db.records (place_in_entry s q) ≡ o → is_some (test_of q (member_opt (entry_of (kinds_over desc s) s) (place_in_entry s q) o)) ≡ true → IsEntryOfRecord desc s db q
  stands_opt None at h = absurd (cc)
  stands_opt (Some r) at h = stands_at (entry_of (kinds_over desc s) s (place_in_entry s q) r) r at refl h

  -- each of them stands for a record
  pub stands_for : AllPlaces IsSmall (entries db.records) → has_entry q (entries_of desc db s) ≡ true → IsEntryOfRecord desc s db q
  stands_for small has =
      stands_opt (get db.records (place_in_entry s q)) refl
      (ap is_some (sym (lists_members (entry_of (kinds_over desc s) s) (place_in_entry s) IsSmall (own_entry (kinds_over desc s) s) db.records small q))
      ∙ contains_key-keys (listed_in (kinds_over desc s) s db.records) q ∙ has)

-- ---- the entry of a record

entry_by : (a t : Bool) (x q : List ℕ) → cond (a && t) (Some x) None ≡ Some q → cond t (Some x) None ≡ Some q
entry_by true t x q h = h
entry_by false t x q h = absurd (cc)

bytes_by : (t : Bool) (x q : List ℕ) → cond t (Some x) None ≡ Some q → x ≡ q
bytes_by true x q h = same_Some x q h
bytes_by false x q h = absurd (cc)

module _ (kinds : List ItemKind) (s : Shape) (n : ℕ) (r : Record) (q : List ℕ) where
  -- it is that of the record in its set
  pub in_set : entry_of kinds s (over s, n) r ≡ Some q → entry_in kinds s n r ≡ Some q
  in_set h = entry_by (over s == over s) (takes s r.values) (entry_bytes kinds s.parts r.owner (key_of s.parts r.values) n) q h

  pub entry_is : entry_in kinds s n r ≡ Some q → entry_bytes kinds s.parts r.owner (key_of s.parts r.values) n ≡ q
  entry_is h = bytes_by (takes s r.values) (entry_bytes kinds s.parts r.owner (key_of s.parts r.values) n) q h

  pub entry_long : entry_in kinds s n r ≡ Some q → 4 ≤ length q
  entry_long h =
      let is : length (entry_bytes kinds s.parts r.owner (key_of s.parts r.values) n) ≡ length q = ap length (entry_is h) in
      let whole = length-append (to_be_bytes w32 r.owner) (key_bytes kinds s.parts (key_of s.parts r.values) ++ to_be_bytes w32 n) in
      omega (arith, is, whole)

  -- these bytes are that entry
  pub entry_yes : is_entry (entry_in kinds s n r) q ≡ true → entry_in kinds s n r ≡ Some q
  entry_yes h = by (entry_in kinds s n r) h
    where
      by : (o : Option (List ℕ)) → is_entry o q ≡ true → o ≡ Some q
      by None h = absurd (cc)
      by (Some x) h = ap (λ (y : List ℕ). Some y) ((bytes_eq-Decides x q).0 h)

  pub entry_no : is_entry (entry_in kinds s n r) q ≡ false → entry_in kinds s n r ≡ Some q → ⊥
  entry_no h is = by (entry_in kinds s n r) h is
    where
      by : (o : Option (List ℕ)) → is_entry o q ≡ false → o ≡ Some q → ⊥
      by None h is = absurd (cc)
      by (Some x) h is = let e : bytes_eq x q ≡ true = (bytes_eq-Decides x q).1 (same_Some x q is) in absurd (cc (e, h))

-- ---- the member of an entry

module _ (kinds : List ItemKind) (s : Shape) (db : Db) (owner n : ℕ) (rec : Record) (q : List ℕ) (at : get db.records (over s, n) ≡ Some rec) (is : entry_in kinds s n rec ≡ Some q) (small : n < 2 ^ 32) (own : owner < 2 ^ 32) (rec_own : rec.owner < 2 ^ 32) where
  number_is : number_in q ≡ n
  number_is = ap number_in (sym (entry_is kinds s n rec q is)) ∙ entry_number kinds s.parts rec.owner (key_of s.parts rec.values) n small

  owner_is : is_of owner q ≡ (owner == rec.owner)
  owner_is = ap (is_of owner) (sym (entry_is kinds s n rec q is)) ∙ is_of_entry kinds s.parts owner rec.owner (key_of s.parts rec.values) n own rec_own

  spot_is : spot_at s db q ≡ Some (spot_of s.parts ((over s, n), rec))
  spot_is =
      ap (λ m. option_map (λ r. spot_of s.parts ((over s, m), r)) (get db.records (over s, m))) number_is
      ∙ ap (option_map (λ r. spot_of s.parts ((over s, n), r))) at

  -- where it is the owner's
  pub own_spot : (owner == rec.owner) ≡ true → spot_by s db owner (Some q) ≡ Some (spot_of s.parts ((0, n), rec))
  own_spot h = ap (λ b. and_then (cond b (Some q) None) (spot_at s db)) (owner_is ∙ h) ∙ spot_is

  -- and where it isn't
  pub other_spot : (owner == rec.owner) ≡ false → spot_by s db owner (Some q) ≡ None
  other_spot h = ap (λ b. and_then (cond b (Some q) None) (spot_at s db)) (owner_is ∙ h)

-- a member of a set fits
pub member_fits : (desc : Described) (path : ℕ) (s : Shape) (n : ℕ) (rec : Record) → structure_of desc path ≡ Some s → is_set_or_automatic s ≡ true → IsNumber desc s.set n → RecordFits desc s.set rec
    → SpotFits desc path (spot_of s.parts ((0, n), rec))
member_fits desc path s n rec at kept number fits =
    let set : set_of desc path ≡ s.set = ap over_of at ∙ over_set s kept in
    record {
      number = subst (λ m. IsNumber desc m n) (sym set) number;
      rec = subst (λ m. RecordFits desc m rec) (sym set) fits;
      key = ap (λ o. key_of (parts_of o) rec.values) (sym at);
    }

-- ---- an entry that was read, and the record under its number

-- what is told of a database
pub told_of : {A : Type 0} (o : Option Db) (d : Db) (f : Db → A) (x : A) → o ≡ Some d → TellsOf o f x → x ≡ f d
told_of o d f x is h = subst (λ (p : Option Db). TellsOf p f x) is h

module _ (desc : Described) (s : Shape) (kept : is_set_or_automatic s ≡ true) (q : List ℕ) (n : ℕ) (same : 4 ≤ length q → n ≡ number_in q) (d : Db) where
  found_there : (stands : IsEntryOfRecord desc s d q) → get d.records (s.set, n) ≡ Some stands.0
  found_there stands =
      let number : n ≡ number_in q = same (entry_long (kinds_over desc s) s (number_in q) stands.0 q (in_set (kinds_over desc s) s (number_in q) stands.0 q stands.2)) in
      (λ i. get d.records (sym (over_set s kept) i, number i)) ∙ stands.1

  -- where none stands the entry stands for no record
  pub missing : None ≡ get d.records (s.set, n) → IsEntryOfRecord desc s d q → ⊥
  missing none stands = let there = found_there stands in absurd (cc (none, there))

  -- and where another one does
  pub strange : (ks : List ItemKind) (rec : Record) → ks ≡ kinds_over desc s → Some rec ≡ get d.records (s.set, n) → is_entry (entry_in ks s n rec) q ≡ false → IsEntryOfRecord desc s d q → ⊥
  strange ks rec is at off stands =
      let number : n ≡ number_in q = same (entry_long (kinds_over desc s) s (number_in q) stands.0 q (in_set (kinds_over desc s) s (number_in q) stands.0 q stands.2)) in
      let one : rec ≡ stands.0 = some_record rec stands.0 (at ∙ found_there stands) in
      let own : entry_in (kinds_over desc s) s (number_in q) stands.0 ≡ Some q = in_set (kinds_over desc s) s (number_in q) stands.0 q stands.2 in
      entry_no ks s n rec q off ((λ i. entry_in (is i) s (number i) (one i)) ∙ own)
    where
      some_record : (x y : Record) → ◌≡◌ {A = Option Record} (Some x) (Some y) → x ≡ y
      some_record x y h = cc

pub same_true : (a b : ℕ) → a ≡ b → (a == b) ≡ true
same_true a b h = grind (arith, nat_tests, h)

pub same_false : (a b : ℕ) → (a ≡ b → ⊥) → (a == b) ≡ false
same_false a b h = grind (arith, nat_tests, h)

-- a number of a record is one of four bytes
pub small_number : (desc : Described) (set n : ℕ) → IsServed desc → IsNumber desc set n → n < 2 ^ 32
small_number desc set n served h = by (structure_of desc set) refl h
  where
    by : (o : Option Shape) → structure_of desc set ≡ o → is_number o n ≡ true → n < 2 ^ 32
    by None at h =
        let two = and_parts (nat_le 1 n) (nat_le n 0) h in
        let low : 1 ≤ n = grind (arith, nat_tests, two.0) in
        let most : n ≤ 0 = grind (arith, nat_tests, two.1) in
        absurd (omega (arith, low, most))
    by (Some t) at h =
        let most : n ≤ t.population = grind (arith, nat_tests, (and_parts (nat_le 1 n) (nat_le n t.population) h).1) in
        let few = (served_at desc set t served at).population in
        omega (arith, most, few)

module _ (ks : List ItemKind) (s : Shape) (kept : is_set_or_automatic s ≡ true) (o : Option Db) (owner n : ℕ) (rec : Record) (q : List ℕ) (at : TellsOf {T = Option Record} o (λ d. get d.records (s.set, n)) (Some rec))
    (is : is_entry (entry_in ks s n rec) q ≡ true) (small : n < 2 ^ 32) (own : owner < 2 ^ 32) (rec_own : rec.owner < 2 ^ 32) where
  there : (d : Db) → o ≡ Some d → get d.records (over s, n) ≡ Some rec
  there d told = ap (λ m. get d.records (m, n)) (over_set s kept) ∙ sym (told_of o d (λ d. get d.records (s.set, n)) (Some rec) told at)

  -- the member that is told of the entry
  pub own_told : (owner == rec.owner) ≡ true → TellsOf {T = Option Spot} o (λ d. spot_by s d owner (Some q)) (Some (spot_of s.parts ((0, n), rec)))
  own_told h = by o refl
    where
      by : (p : Option Db) → o ≡ p → TellsOf {T = Option Spot} p (λ d. spot_by s d owner (Some q)) (Some (spot_of s.parts ((0, n), rec)))
      by None e = tt
      by (Some d) e = sym (own_spot ks s d owner n rec q (there d e) (entry_yes ks s n rec q is) small own rec_own h)

  -- of another owner's entry none is told
  pub other_told : (owner == rec.owner) ≡ false → TellsOf {T = Option Spot} o (λ d. spot_by s d owner (Some q)) None
  other_told h = by o refl
    where
      by : (p : Option Db) → o ≡ p → TellsOf {T = Option Spot} p (λ d. spot_by s d owner (Some q)) None
      by None e = tt
      by (Some d) e = sym (other_spot ks s d owner n rec q (there d e) (entry_yes ks s n rec q is) small own rec_own h)
