-- What entering a record answers, by the list of the subset and by the database.
use Rattle.std.proofs.Common.{◌≡◌, ◌∙◌, ℕ, List, Bool, true, false, cond, Some, None, refl, sym, ap, length, filter, arith}
use Rattle.std.specs.Prelude.{◌&&◌, ◌==◌, ◌||◌, nat_le, not}
use Rattle.std.specs.List.{AllByRecursion, list_any}
use Rattle.std.specs.declared.option.Option.{Option}
use Rattle.std.specs.FinMap.{entries, get}
use Rattle.std.specs.Cmp.Lexicographic.{nat_list_cmp_total}
use Rattle.std.proofs.lemmas.Bool.Decides.{nat_tests}
use Rattle.std.proofs.lemmas.Cmp.{eq_by_cmp_equiv}
use Rattle.dms_base.specs.declared.kind.ItemKind.{ItemKind}
use Rattle.dms_desc.specs.Keys.{key_of}
use Rattle.dms_desc.specs.Lookups.{structure_of}
use Rattle.dms_desc.specs.Shape.{Shape, Described}
use Rattle.dms_desc.specs.declared.record.Record.{Record}
use Rattle.dms_model.specs.Db.{Db, Place}
use Rattle.dms_model.specs.MemberLaws.{equal_of}
use Rattle.dms_model.specs.Stores.{has_equal, is_full, values_of}
use Rattle.dms_model.specs.Uses.{clashes_for, enter_answer, has_entry, is_in_subset}
use Rattle.dms_model.specs.Valid.{AreRising}
use Rattle.dms_model.specs.declared.put.Put.TheVariants.{Stored, Duplicate, Full}
use Rattle.dms_chain.specs.Lists.{bytes_cmp, bytes_same, empty_keys, first_from, is_same, keys_rise, pad_bound}
use Rattle.dms_chain.specs.Lists as list
use Rattle.dms_sets.specs.Changes.{is_seen}
use Rattle.dms_sets.specs.Entries.{IsSetKey}
use Rattle.dms_sets.specs.Sets.{kinds_over}
use Rattle.dms_manual.specs.Entered.{IsSmallPair, as_member, entered, entered_get, manual_of, place_told}
use Rattle.dms_manual.specs.Entering.{entry_put, in_the_way}
use Rattle.dms_manual.specs.Counted.{NamesRecord, counted_manual}
use Rattle.dms_manual.specs.EnteringLaws.{manual_takes}
use Rattle.dms_manual.specs.Listed.{bytes_for}
use Rattle.dms_manual.specs.Moves.{SmallIn, told}
use Rattle.dms_manual.specs.Named.{has_of}
use Rattle.dms_manual.specs.Refused.{any_at, any_entry, any_from, same_bool, seen_manual}
use Rattle.dms_manual.specs.Seen.{entered_fit, seen_over}

-- ---- the entry itself

module _ (desc : Described) (s : Shape) (db : Db) (o n : ℕ) (r : Record) (at : get db.records (s.set, n) ≡ Some r) (small : SmallIn s db) (here : IsSmallPair (o, n)) where
  abbrev kinds : List ItemKind
  kinds = kinds_over desc s

  abbrev mine : List ℕ
  mine = bytes_for kinds s o n r

  abbrev shows : Place × Record → Bool
  shows e = is_same mine (bytes_for kinds s e.0.0 e.0.1 e.1)

  to_db : list_any shows (entries (entered s db)) ≡ true → has_entry db s.number o n ≡ true
  to_db h =
      let f = any_from shows (entered s db) h in
      let p = f.place in
      let has = has_of desc s db n r at small here.1 (has_entry db s.number p.0 p.1) (as_member p.0 (get db.records (s.set, p.1))) f.rec (sym (entered_get s db p.0 p.1) ∙ f.at) in
      let same : mine ≡ bytes_for kinds s p.0 p.1 f.rec = bytes_same mine (bytes_for kinds s p.0 p.1 f.rec) (equal_of (bytes_cmp mine (bytes_for kinds s p.0 p.1 f.rec)) f.holds) in
      let place : (o, n) ≡ p = told kinds s (o, n) r mine here refl ∙ ap place_told same ∙ sym (told kinds s (p.0, p.1) f.rec (bytes_for kinds s p.0 p.1 f.rec) (small.each p.0 p.1 has) refl) in
      ap (λ (k : Place). has_entry db s.number k.0 k.1) place ∙ has

  to_list : has_entry db s.number o n ≡ true → list_any shows (entries (entered s db)) ≡ true
  to_list has =
      let there : get (entered s db) (o, n) ≡ Some (record r { owner = o }) = entered_get s db o n ∙ (λ i. cond (has i) (as_member o (at i)) None) in
      any_at shows (entered s db) (o, n) (record r { owner = o }) there ((eq_by_cmp_equiv nat_list_cmp_total).refl mine)

  -- The list has the entry where the database has it.
  pub has_manual : list.has_entry (bytes_for (kinds_over desc s) s o n r) (manual_of desc db s) ≡ has_entry db s.number o n
  has_manual = any_entry kinds s (is_same mine) (entered s db) ∙ same_bool _ _ to_db to_list

-- ---- an entry with the owner and key

module _ (desc : Described) (s : Shape) (db : Db) (o n : ℕ) (r : Record) (kind : s.kind ≡ 5) (small : SmallIn s db) (here : IsSmallPair (o, n)) (at : get db.records (s.set, n) ≡ Some r)
    (fit : (m : ℕ) (x : Record) → get db.records (s.set, m) ≡ Some x → IsSetKey (kinds_over desc s) s.parts (key_of s.parts x.values)) where
  abbrev of_kinds : List ItemKind
  of_kinds = kinds_over desc s

  abbrev member : Record
  member = record r { owner = o }

  manual : (s.kind == 5) ≡ true
  manual = grind (arith, nat_tests, kind)

  seen_is : is_seen of_kinds s member (manual_of desc db s) ≡ (has_entry db s.number o n || has_equal s db.entries (Some n) member (entries db.records))
  seen_is = seen_over of_kinds s (entered s db) (entered_fit of_kinds s db small fit) member (fit n r at) ∙ seen_manual desc s db o n r manual small here.0 at fit

  -- An entry is in the way where the database has it, or a clash.
  pub way_is : in_the_way (kinds_over desc s) s n (record r { owner = o }) (manual_of desc db s) ≡ (has_entry db s.number o n || clashes_for (Some s) db o n)
  way_is =
      (λ i. ((not s.duplicates && manual_takes s member kind i) && seen_is i) || has_manual desc s db o n r at small here i)
      ∙ by s.duplicates (has_entry db s.number o n) (has_equal s db.entries (Some n) member (entries db.records))
      ∙ ap (λ v. has_entry db s.number o n || (not s.duplicates && has_equal s db.entries (Some n) (record { owner = o; values = v }) (entries db.records))) (sym values)
    where
      by : (d a b : Bool) → (((not d && true) && (a || b)) || a) ≡ (a || (not d && b))
      by true true b = refl
      by true false b = refl
      by false true b = refl
      by false false true = refl
      by false false false = refl

      values : values_of (get db.records (s.set, n)) ≡ r.values
      values = ap values_of at

-- What the call answers by the list is what the database answers.
pub put_is : (desc : Described) (s : Shape) (db : Db) (o n : ℕ) (r : Record) → structure_of desc s.number ≡ Some s → s.kind ≡ 5 → SmallIn s db → IsSmallPair (o, n) → get db.records (s.set, n) ≡ Some r
    → ((m : ℕ) (x : Record) → get db.records (s.set, m) ≡ Some x → IsSetKey (kinds_over desc s) s.parts (key_of s.parts x.values))
    → AreRising db.entries → AllByRecursion (NamesRecord s.number s.set db.records) db.entries
    → entry_put (kinds_over desc s) s n (record r { owner = o }) (manual_of desc db s) ≡ enter_answer desc db s.number o n
unfolding enter_answer
put_is desc s db o n r is kind small here at fit rising all =
    (λ i. cond (way_is desc s db o n r kind small here at fit i) (Duplicate s.number) (cond (nat_le s.population (counted_manual desc s db small rising all i)) Full (Stored n)))
    ∙ ap (λ (x : Option Shape). cond (has_entry db s.number o n || clashes_for x db o n) (Duplicate s.number) (cond (is_full x (length (filter (is_in_subset s.number) db.entries))) Full (Stored n))) (sym is)
