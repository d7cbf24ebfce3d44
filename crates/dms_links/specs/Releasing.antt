-- A record that goes: the records to which its counted links refer count it no more.
use Rattle.std.proofs.Common.{◌≡◌, ◌≢◌, ◌∙◌, ◌+◌, ◌≤◌, ℕ, suc, List, [], ◌∷◌, ◌++◌, Bool, true, false, cond, Some, None, refl, sym, ap, subst, append_assoc, slice_get, arith}
use Rattle.std.specs.Prelude.{◌&&◌, ◌==◌}
use Rattle.std.specs.declared.option.Option.{Option}
use Rattle.std.proofs.lemmas.Bool.{and_parts}
use Rattle.std.proofs.lemmas.Bool.Decides.{nat_tests}
use Rattle.dms_base.specs.declared.value.Value.{Value}
use Rattle.dms_block.specs.Content.{Content}
use Rattle.dms_desc.specs.Conds.{or_null}
use Rattle.dms_desc.specs.Shape.{Described}
use Rattle.dms_desc.specs.declared.structure.Item.{Item}
use Rattle.dms_model.specs.Db.{Db}
use Rattle.dms_model.specs.Valid.{link_stands}
use Rattle.dms_tally.specs.Counts.{links_stand, links_to}
use Rattle.dms_links.specs.Setting.{count_steps, counts_in_kind, target_of}
use Rattle.dms_links.specs.SettingCounts.{IfCounted, count_less, counted_one, less_at, one_kind, owned_less}
use Rattle.dms_links.specs.SettingLaws.{OldCounts, Stands, fewer, kind_stands}
use Rattle.dms_links.specs.Stands.{RecordsStand, Tally}
use Rattle.dms_links.specs.Stepping.{AltersSteps, HaveSlotFiles, SlotStep}
use Rattle.dms_links.specs.declared.altering.SlotChange.TheVariants.{Uncounted}

-- ---- definitions

-- the value of the k-th item
abbrev pub value_of : List Value → ℕ → Value
value_of values k = or_null (slice_get values k)

-- the records to which counted links refer, of items of which the first has the k-th value, count one less each
abbrev pub uncount_from : ℕ → List Item → List Value → List SlotStep
uncount_from k [] values = []
uncount_from k (i ∷ is) values = count_steps (counts_in_kind i.kind) (target_of (value_of values k)) Uncounted ++ uncount_from (k + 1) is values

-- what is counted then
abbrev pub less_from : ℕ → List Item → List Value → Tally → Tally
less_from k [] values own = own
less_from k (i ∷ is) values own = less_from (k + 1) is values (count_less own (counts_in_kind i.kind) (target_of (value_of values k)))

-- what these links added to what a record counts
abbrev pub added_by : ℕ → ℕ → ℕ → List Item → List Value → ℕ
added_by set n k [] values = 0
added_by set n k (i ∷ is) values = counted_one (counts_in_kind i.kind) set n (target_of (value_of values k)) + added_by set n (k + 1) is values

-- the values from the k-th on are these
abbrev pub AreFrom : List Value → ℕ → List Value → Type 0
AreFrom values k vs = (j : ℕ) → value_of values (k + j) ≡ value_of vs j

-- ---- what they added

next_from : (values : List Value) (k : ℕ) (v : Value) (vs : List Value) → AreFrom values k (v ∷ vs) → AreFrom values (k + 1) vs
next_from values k v vs are j = let e : (k + 1) + j ≡ k + suc j = omega arith in ap (value_of values) e ∙ are (suc j)

none_from : (values : List Value) (k : ℕ) → AreFrom values k [] → AreFrom values (k + 1) []
none_from values k are j = let e : (k + 1) + j ≡ k + suc j = omega arith in ap (value_of values) e ∙ are (suc j)

first_from : (values : List Value) (k : ℕ) (vs : List Value) → AreFrom values k vs → value_of values k ≡ value_of vs 0
first_from values k vs are = let e : k ≡ k + 0 = omega arith in ap (value_of values) e ∙ are 0

pub added_is : (set n k : ℕ) (is : List Item) (values vs : List Value) → 1 ≤ set → AreFrom values k vs → added_by set n k is values ≡ links_to set n is vs
added_is set n k [] values vs low are = refl
added_is set n k (i ∷ is) values [] low are =
    let here : counted_one (counts_in_kind i.kind) set n (target_of (value_of values k)) ≡ 0 = ap (λ v. counted_one (counts_in_kind i.kind) set n (target_of v)) (first_from values k [] are) in
    omega (arith, here, added_is set n (k + 1) is values [] low (none_from values k are), none_to is)
  where
    none_to : (js : List Item) → links_to set n js [] ≡ 0
    none_to [] = refl
    none_to (j ∷ js) = refl
added_is set n k (i ∷ is) values (v ∷ vs) low are =
    let here = ap (λ w. counted_one (counts_in_kind i.kind) set n (target_of w)) (first_from values k (v ∷ vs) are) in
    omega (arith, here, one_kind i.kind set n v low, added_is set n (k + 1) is values vs low (next_from values k v vs are))

-- ---- one link after another

-- what is asked: the counts have what the links added
abbrev pub HaveAdded : Tally → ℕ → List Item → List Value → Type 0
HaveAdded own k is values = (set n : ℕ) → 1 ≤ set → added_by set n k is values ≤ own.counted set n

module _ (own : Tally) (k : ℕ) (i : Item) (is : List Item) (values : List Value) (have : HaveAdded own k (i ∷ is) values) where
  abbrev t : ℕ
  t = counts_in_kind i.kind

  abbrev old : Option ℕ
  old = target_of (value_of values k)

  itself : (u n : ℕ) → u ≢ 0 → counted_one u u n (Some n) ≡ 1
  itself u n some =
      let off : (u == 0) ≡ false = grind (arith, nat_tests, some) in
      let on : ((u == u) && (n == n)) ≡ true = grind (arith, nat_tests) in
      λ j. cond (off j) 0 (cond (on j) 1 0)

  has_one : (o : Option ℕ) → old ≡ o → IfCounted t o (λ u m. 1 ≤ own.counted u m)
  has_one None at = tt
  has_one (Some m) at = λ some.
      let one : 1 ≤ t = omega (arith, some) in
      let mine : counted_one t t m old ≡ 1 = ap (counted_one t t m) at ∙ itself t m some in
      omega (arith, have t m one, mine)

  pub some_old : IfCounted t old (λ u m. 1 ≤ own.counted u m)
  some_old = has_one old refl

  pub have_rest : HaveAdded (count_less own t old) (k + 1) is values
  have_rest set n one = omega (arith, have set n one, less_at own t set n old some_old)

pub less_all : (own : Tally) (k : ℕ) (is : List Item) (values : List Value) → HaveAdded own k is values → (set n : ℕ) → 1 ≤ set → (less_from k is values own).counted set n + added_by set n k is values ≡ own.counted set n
less_all own k [] values have set n one = omega arith
less_all own k (i ∷ is) values have set n one =
    let t = counts_in_kind i.kind in
    let old = target_of (value_of values k) in
    omega (arith, less_all (count_less own t old) (k + 1) is values (have_rest own k i is values have) set n one, less_at own t set n old (some_old own k i is values have))

pub owned_all : (own : Tally) (k : ℕ) (is : List Item) (values : List Value) → (less_from k is values own).owned ≡ own.owned
owned_all own k [] values = refl
owned_all own k (i ∷ is) values = owned_all (count_less own (counts_in_kind i.kind) (target_of (value_of values k))) (k + 1) is values ∙ owned_less own (counts_in_kind i.kind) (target_of (value_of values k))

both_counts : (P Q : ℕ → ℕ → Type 0) (t : ℕ) (o : Option ℕ) → IfCounted t o P → IfCounted t o Q → IfCounted t o (λ u m. P u m × Q u m)
both_counts P Q t None p q = tt
both_counts P Q t (Some m) p q = λ some. (p some, q some)

-- Where the links stand and are counted, the slots count them no more.
pub uncounted : (desc : Described) (have : HaveSlotFiles desc) (db : Db) (own : Tally) (c d : Content) (k : ℕ) (is : List Item) (values vs : List Value) (xs : List SlotStep) (done : Bool) → RecordsStand desc db own c
    → HaveAdded own k is values → AreFrom values k vs → links_stand db.records is vs ≡ true → AltersSteps desc (uncount_from k is values ++ xs) done c d
    → (e : Content) × RecordsStand desc db (less_from k is values own) e × AltersSteps desc xs done e d
uncounted desc have db own c d k [] values vs xs done files added are links h = (c, files, h)
uncounted desc have db own c d k (i ∷ is) values vs xs done files added are links h =
    let t = counts_in_kind i.kind in
    let old = target_of (value_of values k) in
    let first = count_steps t old Uncounted in
    let parts = subst (λ (ys : List SlotStep). AltersSteps desc ys done c d) (append_assoc first (uncount_from (k + 1) is values) xs) h in
    let stands = here vs are links in
    let may = both_counts (Stands db.records) (λ u m. 1 ≤ own.counted u m) t old stands.0 (some_old own k i is values added) in
    let one = fewer desc have db own c d t old (uncount_from (k + 1) is values ++ xs) done files may parts in
    uncounted desc have db (count_less own t old) one.0 d (k + 1) is values stands.1.0 xs done one.1 (have_rest own k i is values added) stands.1.1.0 stands.1.1.1 one.2
  where
    none_stand : (js : List Item) → links_stand db.records js [] ≡ true
    none_stand [] = refl
    none_stand (j ∷ js) = refl

    here : (ws : List Value) → AreFrom values k ws → links_stand db.records (i ∷ is) ws ≡ true
        → IfCounted (counts_in_kind i.kind) (target_of (value_of values k)) (Stands db.records) × ((us : List Value) × (AreFrom values (k + 1) us × (links_stand db.records is us ≡ true)))
    here [] from h = (subst (λ v. IfCounted (counts_in_kind i.kind) (target_of v) (Stands db.records)) (sym (first_from values k [] from)) tt, ([], (none_from values k from, none_stand is)))
    here (v ∷ us) from h =
        let both = and_parts (link_stands db.records i.kind v) (links_stand db.records is us) h in
        (subst (λ w. IfCounted (counts_in_kind i.kind) (target_of w) (Stands db.records)) (sym (first_from values k (v ∷ us) from)) (kind_stands db.records i.kind v both.0), (us, (next_from values k v us from, both.1)))
