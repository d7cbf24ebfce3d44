-- A database that blocks spell has at most 1,000,000 entries of each manual subset, and slots have room for what they count and one more.
use Rattle.std.proofs.Common.{◌≡◌, ◌∙◌, ◌+◌, ◌-◌, ◌*◌, ◌^◌, ◌<◌, ◌≤◌, ℕ, zero, suc, List, [], ◌∷◌, Bool, true, false, cond, Some, None, refl, sym, ap, subst, length, filter, slice_get, arith}
use Rattle.std.specs.Prelude.{◌&&◌, ◌==◌, ◌||◌, not}
use Rattle.std.specs.List.{AllByRecursion, list_any}
use Rattle.std.specs.declared.option.Option.{Option}
use Rattle.std.proofs.lemmas.Bool.{and_parts}
use Rattle.std.proofs.lemmas.Bool.Decides.{nat_tests}
use Rattle.std.proofs.lemmas.Option.{same_Some}
use Rattle.dms_block.specs.Content.{Content}
use Rattle.dms_desc.specs.Lookups.{structure_of}
use Rattle.dms_desc.specs.Shape.{Shape, Described}
use Rattle.dms_links.specs.Few.{counted_few, owned_few}
use Rattle.dms_links.specs.Linking.{number_at, structure_here}
use Rattle.dms_links.specs.Stands.{Tally}
use Rattle.dms_model.specs.Db.{Db, SubsetEntry}
use Rattle.dms_model.specs.Uses.{is_in_subset}
use Rattle.dms_model.specs.Valid.{EntryStands, is_manual}
use Rattle.dms_spelling.specs.Serving.{IsServed}
use Rattle.dms_spelling.specs.ServingLaws.{served_at, structure_there}
use Rattle.dms_spelling.specs.Stands.{EntriesStand, StandsFiles}
use Rattle.dms_tally.specs.Counts.{counted_in, owned_in}

-- What a slot counts is below its type's end.
pub record HasRoom (desc : Described) (db : Db) (t m : ℕ) : Type 0 where
  pub counted : counted_in desc db t m + 1 < 2 ^ 32
  pub owned : owned_in desc db t m + 1 < 2 ^ 32

-- ---- entries parted by their subsets

abbrev is_of : Shape → SubsetEntry → Bool
is_of s e = (s.kind == 5) && is_in_subset s.number e

-- each is of one of these subsets
abbrev AreOf : List Shape → List SubsetEntry → Type 0
AreOf ss es = AllByRecursion (λ e. list_any (λ s. is_of s e) ss ≡ true) es

none_of : (es : List SubsetEntry) → AreOf [] es → length es ≤ 0
none_of [] all = omega arith
none_of (e ∷ es) all = absurd (cc (all.0))

parted : (p : SubsetEntry → Bool) (es : List SubsetEntry) → length es ≡ length (filter p es) + length (filter (λ e. not (p e)) es)
parted p [] = refl
parted p (e ∷ es) = by (p e) (parted p es)
  where
    by : (b : Bool) → length es ≡ length (filter p es) + length (filter (λ x. not (p x)) es)
        → length (e ∷ es) ≡ length (cond b (e ∷ filter p es) (filter p es)) + length (cond (not b) (e ∷ filter (λ x. not (p x)) es) (filter (λ x. not (p x)) es))
    by true rest = omega (arith, rest)
    by false rest = omega (arith, rest)

fewer : (p q : SubsetEntry → Bool) (es : List SubsetEntry) → length (filter q (filter p es)) ≤ length (filter q es)
fewer p q [] = omega arith
fewer p q (e ∷ es) = by (p e) (q e) refl (fewer p q es)
  where
    by : (a b : Bool) → q e ≡ b → length (filter q (filter p es)) ≤ length (filter q es) → length (filter q (cond a (e ∷ filter p es) (filter p es))) ≤ length (cond b (e ∷ filter q es) (filter q es))
    by false true is rest = omega (arith, rest)
    by false false is rest = rest
    by true true is rest = omega (arith, rest, ap (λ b. length (cond b (e ∷ filter q (filter p es)) (filter q (filter p es)))) is)
    by true false is rest = omega (arith, rest, ap (λ b. length (cond b (e ∷ filter q (filter p es)) (filter q (filter p es)))) is)

-- those that aren't of the first one are of the others
others : (s : Shape) (ss : List Shape) (es : List SubsetEntry) → AreOf (s ∷ ss) es → AreOf ss (filter (λ e. not (is_of s e)) es)
others s ss [] all = tt
others s ss (e ∷ es) all = by (is_of s e) all.0 (others s ss es all.1)
  where
    by : (b : Bool) → (b || list_any (λ t. is_of t e) ss) ≡ true → AreOf ss (filter (λ x. not (is_of s x)) es) → AreOf ss (cond (not b) (e ∷ filter (λ x. not (is_of s x)) es) (filter (λ x. not (is_of s x)) es))
    by true h rest = rest
    by false h rest = (h, rest)

covered : (ss : List Shape) (es : List SubsetEntry) → AreOf ss es → ((i : ℕ) (s : Shape) → slice_get ss i ≡ Some s → length (filter (is_of s) es) ≤ 1000000) → length es ≤ 1000000 * length ss
covered [] es all few = omega (arith, none_of es all)
covered (s ∷ ss) es all few =
    let p : SubsetEntry → Bool = λ e. not (is_of s e) in
    let rest = covered ss (filter p es) (others s ss es all) (λ i t at. omega (arith, fewer p (is_of t) es, few (suc i) t at)) in
    omega (arith, rest, few 0 s refl, parted (is_of s) es)

-- ---- those of a database

off_kind : (s : Shape) (es : List SubsetEntry) → (s.kind == 5) ≡ false → length (filter (is_of s) es) ≤ 0
off_kind s [] off = omega arith
off_kind s (e ∷ es) off = by (is_of s e) (ap (λ b. b && is_in_subset s.number e) off) (off_kind s es off)
  where
    by : (b : Bool) → b ≡ false → length (filter (is_of s) es) ≤ 0 → length (cond b (e ∷ filter (is_of s) es) (filter (is_of s) es)) ≤ 0
    by true h rest = absurd (cc h)
    by false h rest = rest

on_kind : (s : Shape) (es : List SubsetEntry) → (s.kind == 5) ≡ true → length (filter (is_of s) es) ≡ length (filter (is_in_subset s.number) es)
on_kind s [] on = refl
on_kind s (e ∷ es) on = by (is_of s e) (is_in_subset s.number e) (ap (λ b. b && is_in_subset s.number e) on) (on_kind s es on)
  where
    by : (a b : Bool) → a ≡ b → length (filter (is_of s) es) ≡ length (filter (is_in_subset s.number) es) → length (cond a (e ∷ filter (is_of s) es) (filter (is_of s) es)) ≡ length (cond b (e ∷ filter (is_in_subset s.number) es) (filter (is_in_subset s.number) es))
    by true true h rest = omega (arith, rest)
    by false false h rest = rest
    by true false h rest = absurd (cc h)
    by false true h rest = absurd (cc h)

any_here : (e : SubsetEntry) (ss : List Shape) (i : ℕ) (s : Shape) → slice_get ss i ≡ Some s → is_of s e ≡ true → list_any (λ t. is_of t e) ss ≡ true
any_here e [] i s at is = absurd (cc at)
any_here e (t ∷ ss) zero s at is = ap (λ b. b || list_any (λ u. is_of u e) ss) (ap (λ (u : Shape). is_of u e) (same_Some t s at) ∙ is)
any_here e (t ∷ ss) (suc i) s at is = ap (λ b. is_of t e || b) (any_here e ss i s at is) ∙ on (is_of t e)
  where
    on : (b : Bool) → (b || true) ≡ true
    on true = refl
    on false = refl

module _ (desc : Described) (served : IsServed desc) (db : Db) where
  of_one : (e : SubsetEntry) → EntryStands desc db e → list_any (λ s. is_of s e) desc.structures ≡ true
  of_one e stands = by (structure_of desc e.subset) refl stands.manual
    where
      by : (o : Option Shape) → structure_of desc e.subset ≡ o → is_manual o ≡ true → list_any (λ s. is_of s e) desc.structures ≡ true
      by None at kind = absurd (cc kind)
      by (Some s) at kind =
          let number = number_at desc served.numbered e.subset s at in
          let same : is_in_subset s.number e ≡ true = grind (arith, nat_tests, number) in
          any_here e desc.structures (e.subset - 1) s (structure_there desc.structures e.subset s at) (λ i. kind i && same i)

  all_of : (es : List SubsetEntry) → AllByRecursion (EntryStands desc db) es → AreOf desc.structures es
  all_of [] all = tt
  all_of (e ∷ es) all = (of_one e all.0, all_of es all.1)

  -- There are at most 1,000,000 entries for each structure.
  pub entries_few : EntriesStand desc db → length db.entries ≤ 1000000 * length desc.structures
  entries_few stands = covered desc.structures db.entries (all_of db.entries stands.each) (λ i s at. one i s at (s.kind == 5) refl)
    where
      one : (i : ℕ) (s : Shape) → slice_get desc.structures i ≡ Some s → (b : Bool) → (s.kind == 5) ≡ b → length (filter (is_of s) db.entries) ≤ 1000000
      one i s at true on =
          let here = structure_here desc.structures i s at in
          omega (arith, on_kind s db.entries on, stands.few (suc i) s here on, (served_at desc (suc i) s served here).population)
      one i s at false off = omega (arith, off_kind s db.entries off)

  pub has_room : (own : Tally) (c : Content) → StandsFiles desc db own c → (t m : ℕ) → HasRoom desc db t m
  has_room own c files t m =
      let few : (set : ℕ) (s : Shape) → structure_of desc set ≡ Some s → s.population ≤ 1000000 = λ set s at. (served_at desc set s served at).population in
      record {
        counted = omega (arith, counted_few desc served.numbered few db own c files.slots t m, served.links);
        owned = omega (arith, owned_few desc served.numbered few db own c files.slots t m, entries_few files.entries, served.count);
      }
