-- What a link that moves from one record to another makes of the counts.
use Rattle.std.proofs.Common.{◌≡◌, ◌≢◌, ◌∙◌, ◌+◌, ◌-◌, ◌≤◌, ℕ, Bool, true, false, cond, Some, None, refl, sym, ap, arith}
use Rattle.std.specs.Prelude.{◌&&◌, ◌==◌}
use Rattle.std.specs.declared.option.Option.{Option}
use Rattle.std.proofs.lemmas.Bool.{and_parts}
use Rattle.std.proofs.lemmas.Bool.Decides.{nat_tests}
use Rattle.dms_base.specs.declared.kind.ItemKind.{ItemKind}
use Rattle.dms_base.specs.declared.kind.ItemKind.TheVariants.{Alpha, Number as Decimal, Bool as OneBit, Field, Link}
use Rattle.dms_base.specs.declared.value.Value.{Value}
use Rattle.dms_base.specs.declared.value.Value.TheVariants.{Null, Text, Number, Bool as Truth, Bits, Link as Reference}
use Rattle.dms_desc.specs.declared.structure.Item.{Item}
use Rattle.dms_tally.specs.Counts.{is_counted_to}
use Rattle.dms_tally.specs.Tally.{link_one}
use Rattle.dms_links.specs.AlteredLaws.{counted_at}
use Rattle.dms_links.specs.Setting.{counts_in, counts_in_kind, target_of}
use Rattle.dms_links.specs.Stands.{Tally}

-- ---- definitions

-- what a link adds to what a record counts
abbrev pub counted_one : ℕ → ℕ → ℕ → Option ℕ → ℕ
counted_one t set n None = 0
counted_one t set n (Some m) = cond (t == 0) 0 (cond ((set == t) && (n == m)) 1 0)

-- the counts without what a link added, and with what it adds
abbrev pub count_less : Tally → ℕ → Option ℕ → Tally
count_less own t None = own
count_less own t (Some m) = cond (t == 0) own (counted_at own t m (own.counted t m - 1))

abbrev pub count_added : Tally → ℕ → Option ℕ → Tally
count_added own t None = own
count_added own t (Some m) = cond (t == 0) own (counted_at own t m (own.counted t m + 1))

-- where a link is counted it holds of what it refers to
abbrev pub IfCounted : ℕ → Option ℕ → (ℕ → ℕ → Type 0) → Type 0
IfCounted t None P = Unit {0}
IfCounted t (Some m) P = t ≢ 0 → P t m

-- ---- the counts

pub less_at : (own : Tally) (t set n : ℕ) (old : Option ℕ) → IfCounted t old (λ u m. 1 ≤ own.counted u m) → (count_less own t old).counted set n + counted_one t set n old ≡ own.counted set n
less_at own t set n None some = omega arith
less_at own t set n (Some m) some = by (t == 0) refl
  where
    here : (b : Bool) → ((set == t) && (n == m)) ≡ b → 1 ≤ own.counted t m → cond b (own.counted t m - 1) (own.counted set n) + cond b 1 0 ≡ own.counted set n
    here true h one =
        let both = and_parts (set == t) (n == m) h in
        let p : set ≡ t = grind (arith, nat_tests, both.0) in
        let q : n ≡ m = grind (arith, nat_tests, both.1) in
        let same : own.counted set n ≡ own.counted t m = λ i. own.counted (p i) (q i) in
        omega (arith, same, one)
    here false h one = omega arith

    by : (b : Bool) → (t == 0) ≡ b → (cond b own (counted_at own t m (own.counted t m - 1))).counted set n + cond b 0 (cond ((set == t) && (n == m)) 1 0) ≡ own.counted set n
    by true h = omega arith
    by false h = here ((set == t) && (n == m)) refl (some (λ e. let z : (t == 0) ≡ true = grind (arith, nat_tests, e) in absurd (cc (h, z))))

pub added_at : (own : Tally) (t set n : ℕ) (to : Option ℕ) → (count_added own t to).counted set n ≡ own.counted set n + counted_one t set n to
added_at own t set n None = omega arith
added_at own t set n (Some m) = by (t == 0)
  where
    here : (b : Bool) → ((set == t) && (n == m)) ≡ b → cond b (own.counted t m + 1) (own.counted set n) ≡ own.counted set n + cond b 1 0
    here true h =
        let both = and_parts (set == t) (n == m) h in
        let p : set ≡ t = grind (arith, nat_tests, both.0) in
        let q : n ≡ m = grind (arith, nat_tests, both.1) in
        let same : own.counted set n ≡ own.counted t m = λ i. own.counted (p i) (q i) in
        omega (arith, same)
    here false h = omega arith

    by : (b : Bool) → (cond b own (counted_at own t m (own.counted t m + 1))).counted set n ≡ own.counted set n + cond b 0 (cond ((set == t) && (n == m)) 1 0)
    by true = omega arith
    by false = here ((set == t) && (n == m)) refl

pub owned_less : (own : Tally) (t : ℕ) (old : Option ℕ) → (count_less own t old).owned ≡ own.owned
owned_less own t None = refl
owned_less own t (Some m) = by (t == 0)
  where
    by : (b : Bool) → (cond b own (counted_at own t m (own.counted t m - 1))).owned ≡ own.owned
    by true = refl
    by false = refl

pub owned_added : (own : Tally) (t : ℕ) (to : Option ℕ) → (count_added own t to).owned ≡ own.owned
owned_added own t None = refl
owned_added own t (Some m) = by (t == 0)
  where
    by : (b : Bool) → (cond b own (counted_at own t m (own.counted t m + 1))).owned ≡ own.owned
    by true = refl
    by false = refl

pub less_most : (own : Tally) (t set n : ℕ) (old : Option ℕ) → (count_less own t old).counted set n ≤ own.counted set n
less_most own t set n None = omega arith
less_most own t set n (Some m) = by (t == 0)
  where
    here : (b : Bool) → ((set == t) && (n == m)) ≡ b → cond b (own.counted t m - 1) (own.counted set n) ≤ own.counted set n
    here true h =
        let both = and_parts (set == t) (n == m) h in
        let p : set ≡ t = grind (arith, nat_tests, both.0) in
        let q : n ≡ m = grind (arith, nat_tests, both.1) in
        let same : own.counted set n ≡ own.counted t m = λ i. own.counted (p i) (q i) in
        omega (arith, same)
    here false h = omega arith

    by : (b : Bool) → (cond b own (counted_at own t m (own.counted t m - 1))).counted set n ≤ own.counted set n
    by true = omega arith
    by false = here ((set == t) && (n == m)) refl

-- ---- what one value adds, by the data set in which links of its item count

none_counted : (set n : ℕ) (v : Value) → counted_one 0 set n (target_of v) ≡ 0
none_counted set n Null = refl
none_counted set n (Text a) = refl
none_counted set n (Number a) = refl
none_counted set n (Truth a) = refl
none_counted set n (Bits a) = refl
none_counted set n (Reference m) = refl

no_number : (b : Bool) → ◌≡◌ {A = ℕ} (cond (b && false) 1 0) 0
no_number true = refl
no_number false = refl

one_link : (to set n : ℕ) (v : Value) → 1 ≤ set → ◌≡◌ {A = ℕ} (cond (is_counted_to set n (Link to true) v) 1 0) (counted_one to set n (target_of v))
one_link to set n Null low = no_number (to == set)
one_link to set n (Text a) low = no_number (to == set)
one_link to set n (Number a) low = no_number (to == set)
one_link to set n (Truth a) low = no_number (to == set)
one_link to set n (Bits a) low = no_number (to == set)
one_link to set n (Reference m) low = turned ∙ by (to == 0) refl
  where
    turned : ◌≡◌ {A = ℕ} (cond ((to == set) && (m == n)) 1 0) (cond ((set == to) && (n == m)) 1 0)
    turned =
        let p : (to == set) ≡ (set == to) = grind (arith, nat_tests) in
        let q : (m == n) ≡ (n == m) = grind (arith, nat_tests) in
        λ i. cond (p i && q i) 1 0

    by : (b : Bool) → (to == 0) ≡ b → ◌≡◌ {A = ℕ} (cond ((set == to) && (n == m)) 1 0) (cond b 0 (cond ((set == to) && (n == m)) 1 0))
    by true h =
        let off : (set == to) ≡ false = grind (arith, nat_tests, h, low) in
        ap (λ b. cond (b && (n == m)) 1 0) off
    by false h = refl

pub one_kind : (k : ItemKind) (set n : ℕ) (v : Value) → 1 ≤ set → ◌≡◌ {A = ℕ} (cond (is_counted_to set n k v) 1 0) (counted_one (counts_in_kind k) set n (target_of v))
one_kind (Alpha m) set n v low = sym (none_counted set n v)
one_kind (Decimal m d s) set n v low = sym (none_counted set n v)
one_kind OneBit set n v low = sym (none_counted set n v)
one_kind (Field m) set n v low = sym (none_counted set n v)
one_kind (Link to true) set n v low = one_link to set n v low
one_kind (Link to false) set n v low = sym (none_counted set n v)

pub one_item : (o : Option Item) (set n : ℕ) (v : Value) → 1 ≤ set → link_one set n o v ≡ counted_one (counts_in o) set n (target_of v)
one_item None set n v low = sym (none_counted set n v)
one_item (Some i) set n v low = one_kind i.kind set n v low
