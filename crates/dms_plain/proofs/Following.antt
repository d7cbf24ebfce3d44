-- Lists that follow a change of a record.
use Rattle.std.proofs.Common.{◌≡◌, ◌+◌, ◌<◌, ◌≤◌, ℕ, List, [], ◌∷◌, ◌++◌, Bool, true, false, cond, Some, None, refl, sym, ap, subst, ◌∙◌, arith, length, length-append, get_or, take, map, slice_get, slice_set, inl, inr}
use Rattle.std.specs.Prelude.{not, ◌&&◌, ◌||◌, ◌==◌, OnOk}
use Rattle.std.specs.Option.{option_map}
use Rattle.std.specs.declared.result.Result.{Result}
use Rattle.std.specs.declared.result.Result.TheVariants.{Ok, Err}
use Rattle.std.specs.declared.cmp.Ordering.TheVariants.{Less}
use Rattle.std.specs.declared.option.Option.{Option}
use Rattle.std.specs.FinMap.{find, get, nat_cmp-IsAntisymmetric, remove}
use Rattle.std.specs.FinMap.Entries.{find-append}
use Rattle.std.specs.List.Sorted.{IsStrictlySortedBy}
use Rattle.std.specs.Ordering.{eq_by_cmp, is_eq, nat_cmp}
use Rattle.std.proofs.lemmas.Bool.{cases_order}
use Rattle.std.proofs.lemmas.Bool.Decides.{nat_tests}
use Rattle.std.proofs.lemmas.Grind.{get_or-set_at}
use Rattle.std.proofs.lemmas.List.{get_or-set_other, get_or-take, get_or_append_left, get_or_default, length-map, length-set, length-take-le, map-append, take_all, take_more}
use Rattle.std.proofs.Math.Seq.{get_or-append_seam}
use Rattle.std.proofs.lemmas.Option.{slice_get-get_or, slice_get-map}
use Rattle.dms_desc.specs.declared.record.Record.{Record}
use Rattle.dms_desc.specs.Kinds.{over}
use Rattle.dms_desc.specs.Shape.{Described, Shape, shape_of}
use Rattle.dms_desc.specs.declared.structure.Structure.{Structure}
use Rattle.dms_links.specs.Cleared.{cleared, cleared_all}
use Rattle.dms_model.specs.Db.{Place, Records, place_cmp}
use Rattle.dms_model.specs.MemberLaws.{equal_of}
use Rattle.dms_model.specs.Places.{itself, place_is, places_total, then_equal}
use Rattle.dms_model.specs.Uses.{linkers}
use Rattle.dms_plain.specs.declared.member.Member.{Member}
use Rattle.dms_plain.specs.Listed.{AreLists, IsListOf, front_cmp, has, is_listed, is_member, member_cmp, member_of}
use Rattle.dms_plain.specs.declared.rows.RecordRow.{RecordRow}
use Rattle.dms_plain.specs.Linkers.{linkers_in}
use Rattle.dms_plain.specs.Removed.{removed_from}
use Rattle.dms_plain.specs.Rows.{IsInOrder, db_of, entries_of, entry_of, records_in, restore}
use Rattle.dms_plain.proofs.Calls.{linkers_rows}
use Rattle.dms_plain.proofs.Halving.{misses, place_of, rises}
use Rattle.dms_plain.proofs.Listing.{both, not_true}
use Rattle.dms_plain.proofs.Maps.{db_get}
use Rattle.dms_plain.proofs.Ordered.{turned}
use Rattle.dms_plain.proofs.Removing.{restore_get}

or_off : (a b : Bool) → (a || (not b && b)) ≡ a
or_off true b = refl
or_off false true = refl
or_off false false = refl

module _ (s : Shape) (n : ℕ) (x : Member) where
  -- under another number it is another member
  elsewhere : (o : Option Record) → eq_by_cmp place_cmp (over s, x.number) (over s, n) ≡ false → is_member s n o x ≡ false
  elsewhere None apart = refl
  elsewhere (Some rec) apart = not_true (is_member s n (Some rec) x) (λ is.
      let made = member_of s.parts rec.owner rec.values n in
      let tie = equal_of (member_cmp s.parts made x) (both (is_listed s rec.values) (is_eq (member_cmp s.parts made x)) is).1 in
      let same : n ≡ x.number = nat_cmp-IsAntisymmetric n x.number (then_equal (front_cmp s.parts made x) (nat_cmp n x.number) tie).1 in
      let on : eq_by_cmp place_cmp (over s, x.number) (over s, n) ≡ true = ap (λ (k : ℕ). eq_by_cmp place_cmp (over s, x.number) (over s, k)) same ∙ itself (over s, x.number) in
      cc)

module _ (s : Shape) (ms new : List Member) (at after : Place → Option Record) (n : ℕ) (old now : Option Record) where
  -- a list in which one record was put in the place of another
  pub changed : IsListOf s ms at → IsStrictlySortedBy (member_cmp s.parts) new → at (over s, n) ≡ old → ((q : Place) → after q ≡ cond (eq_by_cmp place_cmp q (over s, n)) now (at q))
      → ((x : Member) → has s.parts x new ≡ (is_member s n now x || (not (is_member s n old x) && has s.parts x ms))) → IsListOf s new after
  changed list rising was moved is = record { rising = rising; tells = tells }
    where
      by : (x : Member) (b : Bool) → eq_by_cmp place_cmp (over s, x.number) (over s, n) ≡ b
          → (is_member s n now x || (not (is_member s n old x) && is_member s x.number (at (over s, x.number)) x)) ≡ is_member s x.number (cond b now (at (over s, x.number))) x
      by x true tie =
          let same : x.number ≡ n = ap (λ (p : Place). p.1) (place_is (over s, x.number) (over s, n) tie) in
          let stood : is_member s x.number (at (over s, x.number)) x ≡ is_member s n old x = (λ i. is_member s (same i) (at (over s, same i)) x) ∙ ap (λ (o : Option Record). is_member s n o x) was in
          ap (λ b. is_member s n now x || (not (is_member s n old x) && b)) stood
          ∙ or_off (is_member s n now x) (is_member s n old x)
          ∙ ap (λ (k : ℕ). is_member s k now x) (sym same)
      by x false apart = λ i. elsewhere s n x now apart i || (not (elsewhere s n x old apart i) && is_member s x.number (at (over s, x.number)) x)

      tells : (x : Member) → has s.parts x new ≡ is_member s x.number (after (over s, x.number)) x
      tells x =
          is x
          ∙ ap (λ b. is_member s n now x || (not (is_member s n old x) && b)) (list.tells x)
          ∙ by x (eq_by_cmp place_cmp (over s, x.number) (over s, n)) refl
          ∙ sym (ap (λ (o : Option Record). is_member s x.number o x) (moved (over s, x.number)))

-- the list of a structure of another data set
pub unmoved : (s : Shape) (ms : List Member) (at after : Place → Option Record) → IsListOf s ms at → ((n : ℕ) → after (over s, n) ≡ at (over s, n)) → IsListOf s ms after
unmoved s ms at after list same = record { rising = list.rising; tells = λ x. list.tells x ∙ ap (λ (o : Option Record). is_member s x.number o x) (sym (same x.number)) }

-- places of two data sets
pub apart_sets : (a b n m : ℕ) → (a ≡ b → ⊥) → eq_by_cmp place_cmp (a, n) (b, m) ≡ false
apart_sets a b n m differ = not_true (eq_by_cmp place_cmp (a, n) (b, m)) (λ tie. differ (ap (λ (p : Place). p.0) (place_is (a, n) (b, m) tie)))

pub restored_other : (s : Shape) (set number n : ℕ) (o : Option Record) (records : Records) → (over s ≡ set → ⊥) → get (restore (set, number) o records) (over s, n) ≡ get records (over s, n)
restored_other s set number n o records differ =
    restore_get (set, number) o records (over s, n) ∙ ap (λ b. cond b o (get records (over s, n))) (apart_sets (over s) set n number differ)

-- no list, which is so of all records
pub no_lists : (ss : List Shape) (ls : List (List Member)) (records : Records) → ls ≡ [] → AreLists ss ls records
no_lists ss ls records none = subst (λ (xs : List (List Member)). AreLists ss xs records) (sym none) (record { few = omega arith; each = λ i s d at lt. absurd (omega arith) })

pub on_ok : {A E : Type 0} (r : Result A E) (P Q : Type 0) → (P → Q) → OnOk r P → OnOk r Q
on_ok (Ok a) P Q more h = more h
on_ok (Err e) P Q more h = tt

-- ---- one list

-- the list of a structure of the data set follows the record that is changed
pub followed : (s : Shape) (ms new : List Member) (rows : List RecordRow) (set n : ℕ) (old now : Option Record) → IsInOrder rows → over s ≡ set → IsListOf s ms (get (records_in rows)) → IsStrictlySortedBy (member_cmp s.parts) new
    → old ≡ find place_cmp (set, n) (entries_of rows) → ((x : Member) → has s.parts x new ≡ (is_member s n now x || (not (is_member s n old x) && has s.parts x ms))) → IsListOf s new (get (restore (set, n) now (records_in rows)))
followed s ms new rows set n old now order same list rising was is =
    let records = records_in rows in
    changed s ms new (get records) (get (restore (set, n) now records)) n old now list rising
    (ap (λ (k : ℕ). get records (k, n)) same ∙ db_get rows (set, n) order ∙ sym was)
    (λ q. restore_get (set, n) now records q ∙ ap (λ (k : ℕ). cond (eq_by_cmp place_cmp q (k, n)) now (get records q)) (sym same))
    is

-- the records of the first rows
abbrev pub first_rows : List RecordRow → ℕ → Place → Option Record
first_rows rows i p = find place_cmp p (entries_of (take i rows))

place_free : (rows : List RecordRow) (i : ℕ) (r : RecordRow) → IsInOrder rows → i < length rows → r ≡ get_or rows i r → first_rows rows i (place_of r) ≡ None
place_free rows i r order lt is = misses (place_of r) (take i rows) (λ j d under.
    let low : j < i = omega (arith, length-take-le i rows (omega (arith, lt)), under) in
    let here : get_or (take i rows) j d ≡ get_or rows j d = get_or-take i rows j d low in
    let rise : place_cmp (place_of (get_or rows j d)) (place_of (get_or rows i d)) ≡ Less = rises rows j i d order low lt in
    let same : get_or rows i d ≡ r = get_or_default rows i d r lt ∙ sym is in
    ap (λ x. is_eq (place_cmp (place_of r) (place_of x))) here
    ∙ ap is_eq (turned places_total (place_of (get_or rows j d)) (place_of r) Less (ap (λ x. place_cmp (place_of (get_or rows j d)) (place_of x)) (sym same) ∙ rise)))

row_added : (rows : List RecordRow) (i : ℕ) (r : RecordRow) → IsInOrder rows → i < length rows → r ≡ get_or rows i r → (q : Place) → first_rows rows (i + 1) q ≡ cond (eq_by_cmp place_cmp q (place_of r)) (Some r.rec) (first_rows rows i q)
row_added rows i r order lt is q =
    ap (λ (rs : List RecordRow). find place_cmp q (entries_of rs)) (take_more rows i r lt ∙ ap (λ x. take i rows ++ x ∷ []) (sym is))
    ∙ ap (find place_cmp q) (map-append entry_of (take i rows) (r ∷ []))
    ∙ find-append place_cmp places_total (entries_of (take i rows)) (place_of r) r.rec q (place_free rows i r order lt is)

-- a list of the first rows, and of one more
pub added : (s : Shape) (ms new : List Member) (rows : List RecordRow) (i : ℕ) (r : RecordRow) → IsInOrder rows → i < length rows → r ≡ get_or rows i r → IsListOf s ms (first_rows rows i) → IsStrictlySortedBy (member_cmp s.parts) new
    → ((x : Member) → has s.parts x new ≡ (((over s == r.set) && is_member s r.number (Some r.rec) x) || has s.parts x ms)) → IsListOf s new (first_rows rows (i + 1))
added s ms new rows i r order lt at list rising is = by (over s == r.set) refl
  where
    more : (q : Place) → first_rows rows (i + 1) q ≡ cond (eq_by_cmp place_cmp q (place_of r)) (Some r.rec) (first_rows rows i q)
    more = row_added rows i r order lt at

    by : (b : Bool) → (over s == r.set) ≡ b → IsListOf s new (first_rows rows (i + 1))
    by true tie =
        let same : over s ≡ r.set = grind (arith, nat_tests, tie) in
        changed s ms new (first_rows rows i) (first_rows rows (i + 1)) r.number None (Some r.rec) list rising
        (ap (λ (k : ℕ). first_rows rows i (k, r.number)) same ∙ place_free rows i r order lt at)
        (λ q. more q ∙ ap (λ (k : ℕ). cond (eq_by_cmp place_cmp q (k, r.number)) (Some r.rec) (first_rows rows i q)) (sym same))
        (λ x. is x ∙ ap (λ b. (b && is_member s r.number (Some r.rec) x) || has s.parts x ms) tie)
    by false apart =
        let differ : over s ≡ r.set → ⊥ = λ e. (let on : (over s == r.set) ≡ true = grind (arith, nat_tests, e) in absurd (cc)) in
        let known : IsListOf s new (first_rows rows i) = record { rising = rising; tells = λ x. is x ∙ ap (λ b. (b && is_member s r.number (Some r.rec) x) || has s.parts x ms) apart ∙ list.tells x } in
        unmoved s new (first_rows rows i) (first_rows rows (i + 1)) known
        (λ n. more (over s, n) ∙ ap (λ b. cond b (Some r.rec) (first_rows rows i (over s, n))) (apart_sets (over s) r.set n r.number differ))

pub none_listed : (s : Shape) (ms : List Member) (rows : List RecordRow) → ms ≡ [] → IsListOf s ms (first_rows rows 0)
unfolding IsStrictlySortedBy
none_listed s ms rows none = subst (λ (xs : List Member). IsListOf s xs (first_rows rows 0)) (sym none) (record { rising = tt; tells = λ x. refl })

pub all_listed : (s : Shape) (ms : List Member) (rows : List RecordRow) (i : ℕ) → IsInOrder rows → length rows ≤ i → IsListOf s ms (first_rows rows i) → IsListOf s ms (get (records_in rows))
all_listed s ms rows i order le list = unmoved s ms (first_rows rows i) (get (records_in rows)) list
    (λ n. db_get rows (over s, n) order ∙ ap (λ (rs : List RecordRow). find place_cmp (over s, n) (entries_of rs)) (sym (take_all i rows le)))

-- ---- all lists

-- the lists before the i-th follow a change already
pub record Halfway (ss : List Shape) (ls : List (List Member)) (i : ℕ) (before after : Records) : Type 0 where
  pub few : length ls ≤ length ss
  pub done : (j : ℕ) (s : Shape) (d : List Member) → slice_get ss j ≡ Some s → j < length ls → j < i → IsListOf s (get_or ls j d) (get after)
  pub left : (j : ℕ) (s : Shape) (d : List Member) → slice_get ss j ≡ Some s → j < length ls → i ≤ j → IsListOf s (get_or ls j d) (get before)

pub halfway_start : (ss : List Shape) (ls : List (List Member)) (before after : Records) → AreLists ss ls before → Halfway ss ls 0 before after
halfway_start ss ls before after lists = record { few = lists.few; done = λ j s d at lt under. absurd (omega arith); left = λ j s d at lt from. lists.each j s d at lt }

pub halfway_on : (ss : List Shape) (ls : List (List Member)) (i : ℕ) (before after : Records) (s : Shape) (m : List Member) → Halfway ss ls i before after → i < length ls → slice_get ss i ≡ Some s → IsListOf s m (get after)
    → Halfway ss (slice_set ls i m) (i + 1) before after
halfway_on ss ls i before after s m h lt at new = record {
  few = omega (arith, h.few, length-set ls i m);
  done = λ j t d is under low. elim (cases_order j i) [
    | inl same ↦ subst (λ (xs : List Member). IsListOf t xs (get after)) (sym (get_or-set_at ls i j m d same lt)) (subst (λ (u : Shape). IsListOf u m (get after)) (ap (shape_or s) (sym at ∙ ap (slice_get ss) (sym same) ∙ is)) new)
    | inr (inl below) ↦ subst (λ (xs : List Member). IsListOf t xs (get after)) (sym (get_or-set_other ls i j m d (λ e. absurd (omega (arith, e, below))))) (h.done j t d is (omega (arith, length-set ls i m, under)) below)
    | inr (inr above) ↦ absurd (omega (arith, low, above))
  ];
  left = λ j t d is under from.
      subst (λ (xs : List Member). IsListOf t xs (get before)) (sym (get_or-set_other ls i j m d (λ e. absurd (omega (arith, e, from))))) (h.left j t d is (omega (arith, length-set ls i m, under)) (omega (arith, from)));
}
  where
    shape_or : Shape → Option Shape → Shape
    shape_or u None = u
    shape_or u (Some v) = v

pub halfway_end : (ss : List Shape) (ls : List (List Member)) (i : ℕ) (before after : Records) → Halfway ss ls i before after → length ls ≤ i → AreLists ss ls after
halfway_end ss ls i before after h le = record { few = h.few; each = λ j s d at lt. h.done j s d at lt (omega (arith, le, lt)) }

pub shape_at : (ss : List Structure) (i : ℕ) (x : Structure) → i < length ss → x ≡ get_or ss i x → slice_get (map shape_of ss) i ≡ Some (shape_of x)
shape_at ss i x lt is = slice_get-map shape_of ss i ∙ ap (option_map shape_of) (slice_get-get_or ss i x lt ∙ ap (λ (y : Structure). Some y) (sym is))

-- the list that a loop reads
pub halfway_at : (ss : List Structure) (ls : List (List Member)) (i : ℕ) (before after : Records) (x : Structure) (m : List Member) → Halfway (map shape_of ss) ls i before after → i < length ls → x ≡ get_or ss i x → m ≡ get_or ls i m
    → IsListOf (shape_of x) m (get before)
halfway_at ss ls i before after x m h lt is at =
    subst (λ (xs : List Member). IsListOf (shape_of x) xs (get before)) (sym at) (h.left i (shape_of x) m (shape_at ss i x (omega (arith, lt, h.few, length-map ss shape_of)) is) lt (omega arith))

-- one list more
pub list_pushed : (ss : List Structure) (ls new : List (List Member)) (i : ℕ) (records : Records) (x : Structure) (m : List Member) → AreLists (map shape_of ss) ls records → length ls ≡ i → i < length ss → x ≡ get_or ss i x → IsListOf (shape_of x) m (get records)
    → new ≡ ls ++ m ∷ [] → AreLists (map shape_of ss) new records
list_pushed ss ls new i records x m lists len lt is list items =
    subst (λ (xs : List (List Member)). AreLists (map shape_of ss) xs records) (sym items) (record {
      few = omega (arith, length-append ls (m ∷ []), len, lt, length-map ss shape_of);
      each = λ j s d at under. elim (cases_order j (length ls)) [
        | inl same ↦ subst (λ (xs : List Member). IsListOf s xs (get records)) (sym (ap (λ n. get_or (ls ++ m ∷ []) n d) same ∙ get_or-append_seam ls m [] d))
            (subst (λ (u : Shape). IsListOf u m (get records)) (ap (shape_or (shape_of x)) (sym (shape_at ss i x lt is) ∙ ap (slice_get (map shape_of ss)) (sym (same ∙ len)) ∙ at)) list)
        | inr (inl below) ↦ subst (λ (xs : List Member). IsListOf s xs (get records)) (sym (get_or_append_left ls (m ∷ []) d j below)) (lists.each j s d at below)
        | inr (inr above) ↦ absurd (omega (arith, above, under, length-append ls (m ∷ [])))
      ];
    })
  where
    shape_or : Shape → Option Shape → Shape
    shape_or u None = u
    shape_or u (Some v) = v

-- ---- a removal

-- where no self-correcting link refers to a record, only it goes
pub removed_alone : (desc : Described) (set number : ℕ) (rows : List RecordRow) → IsInOrder rows → linkers_in desc set number (entries_of rows) ≡ [] → restore (set, number) None (records_in rows) ≡ removed_from desc set number (records_in rows)
removed_alone desc set number rows order none =
    let records = records_in rows in
    let known : linkers desc (db_of records []) set number ≡ [] = sym (linkers_rows desc rows [] set number order) ∙ none in
    ap (λ (m : Records). remove m (set, number)) (sym (cleared_all desc set number (db_of records []) ∙ ap (λ (ps : List Place). cleared desc set number ps records) known))

no_places : (ps : List Place) (p : Place) → length (ps ++ p ∷ []) ≡ 1 → ps ≡ []
no_places [] p h = refl
no_places (q ∷ qs) p h = absurd (omega (arith, length-append (q ∷ qs) (p ∷ []), h))

pub alone : (desc : Described) (set number : ℕ) (rows : List RecordRow) (places : List Place) → places ≡ linkers_in desc set number (entries_of rows) ++ (set, number) ∷ [] → length places ≡ 1 → linkers_in desc set number (entries_of rows) ≡ []
alone desc set number rows places is len = no_places (linkers_in desc set number (entries_of rows)) (set, number) (ap length (sym is) ∙ len)

-- lists of the records after a change
pub listed_on : (ss ss' : List Structure) (ls : List (List Member)) (rows rows' : List RecordRow) (k : Place) (o : Option Record) (new : Records) → ss' ≡ ss → rows' ≡ rows → new ≡ restore k o (records_in rows)
    → AreLists (map shape_of ss') ls (restore k o (records_in rows')) → AreLists (map shape_of ss) ls new
listed_on ss ss' ls rows rows' k o new shapes same is lists =
    subst (λ (xs : List Structure). AreLists (map shape_of xs) ls new) shapes
    (subst (λ (m : Records). AreLists (map shape_of ss') ls m) (ap (λ (rs : List RecordRow). restore k o (records_in rs)) same ∙ sym is) lists)
