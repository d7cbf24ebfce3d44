-- Whether an entry of any manual subset names a record: by the lists of all manual subsets over its data set.
use Rattle.std.proofs.Common.{◌≡◌, ◌∙◌, ◌+◌, ◌-◌, ◌^◌, ◌<◌, ◌≤◌, ℕ, zero, suc, List, [], ◌∷◌, Bool, true, false, cond, Some, None, refl, sym, ap, length, slice_get, arith}
use Rattle.std.specs.Prelude.{◌&&◌, ◌==◌, ◌||◌, is_some}
use Rattle.std.specs.List.{AllByRecursion, list_any}
use Rattle.std.specs.declared.option.Option.{Option}
use Rattle.std.specs.FinMap.{get}
use Rattle.std.proofs.lemmas.Bool.{and_parts}
use Rattle.std.proofs.lemmas.Bool.Decides.{nat_tests}
use Rattle.dms_desc.specs.Kinds.{over}
use Rattle.dms_desc.specs.Lookups.{items_of, over_of, structure_of}
use Rattle.dms_desc.specs.Shape.{Shape, Described}
use Rattle.dms_desc.specs.declared.record.Record.{Record}
use Rattle.dms_model.specs.Db.{Db, SubsetEntry}
use Rattle.dms_model.specs.Uses.{is_entered}
use Rattle.dms_model.specs.Valid.{is_manual}
use Rattle.dms_base.specs.declared.kind.ItemKind.{ItemKind}
use Rattle.dms_lists.specs.declared.form.ListForm.TheVariants.{List as OneChain}
use Rattle.dms_lists.specs.FormLaws.{manual_form}
use Rattle.dms_sets.specs.Changes.{IfListed, ListsOf, list_of_set}
use Rattle.dms_sets.specs.Entries.{kinds_of}
use Rattle.dms_sets.specs.Padded.{entry_width}
use Rattle.dms_sets.specs.Sets.{kinds_over}
use Rattle.dms_sets.specs.Told.{OfStructures}
use Rattle.dms_manual.specs.Entered.{manual_of}
use Rattle.dms_manual.specs.Moves.{SmallIn}
use Rattle.dms_manual.specs.Named.{Among, among, named_manual, names_record, tells}

-- the structure is a manual subset of this data set
abbrev pub is_manual_over : Shape → ℕ → Bool
is_manual_over s set = (s.kind == 5) && (s.set == set)

-- a manual subset of this data set has this number
abbrev pub has_manual : List Shape → ℕ → ℕ → Bool
has_manual [] set m = false
has_manual (s ∷ ss) set m = (is_manual_over s set && (m == s.number)) || has_manual ss set m

-- entries of a structure over a data set have at most 104 bytes
abbrev pub HasWidth : Described → ℕ → Shape → Type 0
HasWidth desc set s = entry_width (kinds_of (items_of (structure_of desc set))) s.parts ≤ 104

over_manual : (s : Shape) (set : ℕ) → is_manual_over s set ≡ true → over s ≡ set
over_manual s set h = grind (arith, nat_tests, h)

pub kinds_are : (desc : Described) (s : Shape) (set : ℕ) → is_manual_over s set ≡ true → kinds_over desc s ≡ kinds_of (items_of (structure_of desc set))
kinds_are desc s set h = ap (λ n. kinds_of (items_of (structure_of desc n))) (over_manual s set h)

-- an entry is of a manual subset
abbrev pub IsOfManual : Described → SubsetEntry → Type 0
IsOfManual desc e = is_manual (structure_of desc e.subset) ≡ true

-- What is told of a look for a record: it stands, structures have the numbers of their places, entries are of manual subsets, and
-- their owners and numbers are small.
pub record ManualStands (desc : Described) (db : Db) (set number : ℕ) : Type 0 where
  pub record_stands : is_some (get db.records (set, number)) ≡ true
  pub numbered : (k : ℕ) (s : Shape) → slice_get desc.structures k ≡ Some s → s.number ≡ k + 1
  pub entries : AllByRecursion (IsOfManual desc) db.entries
  pub small : OfStructures desc (λ s. is_manual_over s set ≡ true → SmallIn s db)

-- the list of a manual subset, which is never kept in a tree
abbrev pub manual_list : ListsOf → List ItemKind → Shape → Option (List (List ℕ))
manual_list ls kinds s = ls s.number OneChain (entry_width kinds s.parts)

pub manual_kept : (s : Shape) → s.kind ≡ 5 → (ls : ListsOf) (kinds : List ItemKind) → manual_list ls kinds s ≡ list_of_set ls kinds s
manual_kept s kind ls kinds = sym (λ i. ls s.number (manual_form s kind i) (entry_width kinds s.parts))

pub manual_listed : (s : Shape) (set : ℕ) → is_manual_over s set ≡ true → (ls : ListsOf) (kinds : List ItemKind) → manual_list ls kinds s ≡ list_of_set ls kinds s
manual_listed s set h ls kinds =
    let kind : s.kind ≡ 5 = grind (arith, nat_tests, h) in
    manual_kept s kind ls kinds

-- the lists of the manual subsets of a data set are those of a database
abbrev pub AreManual : Described → Db → ℕ → ListsOf → Type 0
AreManual desc db set ls = OfStructures desc (λ s. is_manual_over s set ≡ true → list_of_set ls (kinds_over desc s) s ≡ Some (manual_of desc db s))

-- where a database is told
abbrev pub IfManual : Described → ℕ → ℕ → ListsOf → (Db → Type 0) → Type 0
IfManual desc set number ls P = (db : Db) → ManualStands desc db set number → AreManual desc db set ls → P db

-- none of the first k structures is a manual subset with an entry of the record
abbrev pub NoneUpto : Described → Db → ℕ → ℕ → ℕ → Type 0
NoneUpto desc db set number k = (j : ℕ) (s : Shape) → j < k → slice_get desc.structures j ≡ Some s → is_manual_over s set ≡ true → list_any (names_record s.number number) db.entries ≡ false

-- ---- structures

get_low : {A : Type 0} (xs : List A) (j : ℕ) (x : A) → slice_get xs j ≡ Some x → j < length xs
get_low [] j x h = absurd (cc h)
get_low (y ∷ xs) zero x h = omega arith
get_low (y ∷ xs) (suc j) x h = omega (arith, get_low xs j x h)

pub number_manual : (ss : List Shape) (k : ℕ) (s : Shape) (set m : ℕ) → slice_get ss k ≡ Some s → is_manual_over s set ≡ true → (m == s.number) ≡ true → has_manual ss set m ≡ true
number_manual [] k s set m at over is = absurd (cc at)
number_manual (x ∷ ss) zero s set m at over is =
    let same : s ≡ x = of_same at in
    (λ i. (is_manual_over (sym same i) set && (m == (sym same i).number)) || has_manual ss set m) ∙ (λ i. (over i && is i) || has_manual ss set m)
  where
    of_same : ◌≡◌ {A = Option Shape} (Some x) (Some s) → s ≡ x
    of_same h = cc
number_manual (x ∷ ss) (suc k) s set m at over is = ap (λ b. (is_manual_over x set && (m == x.number)) || b) (number_manual ss k s set m at over is) ∙ or_true (is_manual_over x set && (m == x.number))
  where
    or_true : (b : Bool) → (b || true) ≡ true
    or_true true = refl
    or_true false = refl

kinds_manual : (s : Shape) (set : ℕ) → is_manual_over s set ≡ true → s.set ≡ set
kinds_manual s set h = grind (arith, nat_tests, h)

-- a structure by its number
structure_is : (desc : Described) (n k : ℕ) (s : Shape) → slice_get desc.structures k ≡ Some s → n ≡ k + 1 → structure_of desc n ≡ Some s
structure_is desc n k s at is =
    let off : (n == 0) ≡ false = grind (arith, nat_tests, is) in
    let place : n - 1 ≡ k = omega (arith, is) in
    ap (λ b. cond b None (slice_get desc.structures (n - 1))) off ∙ ap (slice_get desc.structures) place ∙ at

module _ (desc : Described) (db : Db) (set number : ℕ) (stands : ManualStands desc db set number) (low : number < 2 ^ 32) where
  -- what the list of a subset shows is what the database has of it
  pub shown_is : (k : ℕ) (s : Shape) → slice_get desc.structures k ≡ Some s → is_manual_over s set ≡ true → list_any (tells number) (manual_of desc db s) ≡ list_any (names_record s.number number) db.entries
  shown_is k s at manual = by (get db.records (set, number)) refl stands.record_stands
    where
      by : (o : Option Record) → get db.records (set, number) ≡ o → is_some o ≡ true → list_any (tells number) (manual_of desc db s) ≡ list_any (names_record s.number number) db.entries
      by None h some = absurd (cc some)
      by (Some r) h some = named_manual desc s db number r (ap (λ t. get db.records (t, number)) (kinds_manual s set manual) ∙ h) (stands.small k s at manual) low

  -- An entry of a subset names the record,
  pub entered_one : (k : ℕ) (s : Shape) → slice_get desc.structures k ≡ Some s → is_manual_over s set ≡ true → list_any (names_record s.number number) db.entries ≡ true → list_any (is_entered desc set number) db.entries ≡ true
  entered_one k s at manual h =
      let a = among (IsOfManual desc) (names_record s.number number) db.entries stands.entries h in
      let parts = and_parts (a.one.subset == s.number) (a.one.number == number) a.holds in
      let same : a.one.subset ≡ k + 1 = number_same a.one.subset s.number parts.0 ∙ stands.numbered k s at in
      let of : (over_of (structure_of desc a.one.subset) == set) ≡ true = ap (λ (o : Option Shape). over_of o == set) (structure_is desc a.one.subset k s at same) ∙ on (over_manual s set manual) in
      a.also (is_entered desc set number) (λ i. of i && parts.1 i)
    where
      number_same : (x y : ℕ) → (x == y) ≡ true → x ≡ y
      number_same x y h = grind (arith, nat_tests, h)

      on : {x y : ℕ} → x ≡ y → (x == y) ≡ true
      on {x} {y} h = grind (arith, nat_tests, h)

  -- or none does.
  pub entered_none : NoneUpto desc db set number (length desc.structures) → list_any (is_entered desc set number) db.entries ≡ false
  entered_none none = by (list_any (is_entered desc set number) db.entries) refl
    where
      wrong : Among (IsOfManual desc) (is_entered desc set number) db.entries → ⊥
      wrong a = at_place a.one.subset (structure_of desc a.one.subset) refl a.is a.holds a.also refl
        where
          kind_is : (s : Shape) → is_manual (Some s) ≡ true → (over s == set) ≡ true → is_manual_over s set ≡ true
          kind_is s m h = grind (arith, nat_tests, m, h)

          place : (n : ℕ) (s : Shape) → structure_of desc n ≡ Some s → (n ≡ (n - 1) + 1) × (slice_get desc.structures (n - 1) ≡ Some s)
          place n s h = turn (n == 0) refl h
            where
              turn : (b : Bool) → (n == 0) ≡ b → cond b None (slice_get desc.structures (n - 1)) ≡ Some s → (n ≡ (n - 1) + 1) × (slice_get desc.structures (n - 1) ≡ Some s)
              turn true is k = absurd (cc k)
              turn false is k = (let e : n ≡ (n - 1) + 1 = grind (arith, nat_tests, is) in e, k)

          at_place : (n : ℕ) (o : Option Shape) → structure_of desc n ≡ o → is_manual (structure_of desc n) ≡ true → ((over_of (structure_of desc n) == set) && (a.one.number == number)) ≡ true
              → ((q : SubsetEntry → Bool) → q a.one ≡ true → list_any q db.entries ≡ true) → n ≡ a.one.subset → ⊥
          at_place n None h m is also same = let off : is_manual (structure_of desc n) ≡ false = ap is_manual h in absurd (cc (m, off))
          at_place n (Some s) h m is also same =
              let p = place n s h in
              let parts = and_parts (over_of (structure_of desc n) == set) (a.one.number == number) is in
              let manual = kind_is s (sym (ap is_manual h) ∙ m) (sym (ap (λ (o : Option Shape). over_of o == set) h) ∙ parts.0) in
              let mine : s.number ≡ a.one.subset = stands.numbered (n - 1) s p.1 ∙ sym p.0 ∙ same in
              let named : names_record s.number number a.one ≡ true = (λ i. on (sym mine) i && parts.1 i) in
              let off = none (n - 1) s (get_low desc.structures (n - 1) s p.1) p.1 manual in
              let yes = also (names_record s.number number) named in
              absurd (cc (off, yes))
            where
              on : {x y : ℕ} → x ≡ y → (x == y) ≡ true
              on {x} {y} h = grind (arith, nat_tests, h)

      by : (b : Bool) → list_any (is_entered desc set number) db.entries ≡ b → b ≡ false
      by false h = refl
      by true h = absurd (wrong (among (IsOfManual desc) (is_entered desc set number) db.entries stands.entries h))

-- ---- one subset after another

module _ (desc : Described) (db : Db) (set number : ℕ) where
  same_shape : (k : ℕ) (s t : Shape) → slice_get desc.structures k ≡ Some s → slice_get desc.structures k ≡ Some t → t ≡ s
  same_shape k s t at is = of_same (sym is ∙ at)
    where
      of_same : ◌≡◌ {A = Option Shape} (Some t) (Some s) → t ≡ s
      of_same h = cc

  -- a subset without an entry of the record,
  pub none_more : (k : ℕ) (s : Shape) → slice_get desc.structures k ≡ Some s → list_any (names_record s.number number) db.entries ≡ false → NoneUpto desc db set number k → NoneUpto desc db set number (k + 1)
  none_more k s at off before j t low is manual = by (j == k) refl
    where
      by : (b : Bool) → (j == k) ≡ b → list_any (names_record t.number number) db.entries ≡ false
      by true h =
          let place : j ≡ k = grind (arith, nat_tests, h) in
          let same = same_shape k s t at (ap (slice_get desc.structures) (sym place) ∙ is) in
          ap (λ (x : Shape). list_any (names_record x.number number) db.entries) same ∙ off
      by false h = before j t (grind (arith, nat_tests, h, low)) is manual

  -- or another structure
  pub none_skip : (k : ℕ) (s : Shape) → slice_get desc.structures k ≡ Some s → is_manual_over s set ≡ false → NoneUpto desc db set number k → NoneUpto desc db set number (k + 1)
  none_skip k s at off before j t low is manual = by (j == k) refl
    where
      by : (b : Bool) → (j == k) ≡ b → list_any (names_record t.number number) db.entries ≡ false
      by true h =
          let place : j ≡ k = grind (arith, nat_tests, h) in
          let same = same_shape k s t at (ap (slice_get desc.structures) (sym place) ∙ is) in
          let no : is_manual_over t set ≡ false = ap (λ (x : Shape). is_manual_over x set) same ∙ off in
          absurd (cc (manual, no))
      by false h = before j t (grind (arith, nat_tests, h, low)) is manual

  -- what a look at one list answered
  pub shown_in : ManualStands desc db set number → number < 2 ^ 32 → (k : ℕ) (s : Shape) → slice_get desc.structures k ≡ Some s → is_manual_over s set ≡ true → (ls : ListsOf) (ks : List ItemKind) (b : Bool) → ks ≡ kinds_over desc s
      → list_of_set ls (kinds_over desc s) s ≡ Some (manual_of desc db s) → IfListed (manual_list ls ks s) (λ xs. b ≡ list_any (tells number) xs) → b ≡ list_any (names_record s.number number) db.entries
  shown_in stands low k s at manual ls ks b same there answer =
      answer (manual_of desc db s) (manual_listed s set manual ls ks ∙ ap (λ (x : List ItemKind). list_of_set ls x s) same ∙ there) ∙ shown_is desc db set number stands low k s at manual
