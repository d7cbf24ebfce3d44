-- What is left of the slots of a database where the links of records to one that goes are null.
use Rattle.std.proofs.Common.{◌≡◌, ◌∙◌, ◌+◌, ℕ, List, [], ◌∷◌, Bool, true, false, Some, None, refl, sym, ap, subst, slice_get, arith}
use Rattle.std.specs.Prelude.{count_by, is_some, sum_by}
use Rattle.std.specs.declared.option.Option.{Option}
use Rattle.std.specs.FinMap.{entries, get}
use Rattle.dms_block.specs.Content.{Content}
use Rattle.dms_desc.specs.Lookups.{items_of, structure_of}
use Rattle.dms_desc.specs.Shape.{Shape, Described}
use Rattle.dms_desc.specs.declared.record.Record.{Record}
use Rattle.dms_layout.specs.declared.slot.Slot.{Slot}
use Rattle.dms_model.specs.Db.{Db, Place, Records}
use Rattle.dms_model.specs.Uses.{corrected, owns_entry}
use Rattle.dms_tally.specs.Counts.{counted_in, links_of, owned_in, owners_of}
use Rattle.dms_tally.specs.Sums.{insert_sum, of_opt}
use Rattle.dms_tally.specs.Tally.{corrected_links}
use Rattle.dms_links.specs.Altered.{with_values}
use Rattle.dms_links.specs.AlteredLaws.{IsSlotOf, slot_corrected}
use Rattle.dms_links.specs.AlteringIn.{AltersIn, slot_low, slot_set}
use Rattle.dms_links.specs.Cleared.{cleared, cleared_one, corrected_opt, corrected_record, put_opt}
use Rattle.dms_links.specs.Clearing.{CorrectsAll}
use Rattle.dms_links.specs.Standing.{is_of, made, slot_there}
use Rattle.dms_links.specs.Stands.{Counts, RecordsStand, Tally}
use Rattle.dms_links.specs.Stepping.{HaveSlotFiles}
use Rattle.dms_links.specs.declared.altering.SlotChange.TheVariants.{Corrected}

not_both : false ≡ true → ⊥
not_both h = absurd (cc)

module _ (desc : Described) (have : HaveSlotFiles desc) (own : Tally) (to n : ℕ) where
  abbrev corrected_db : Db → Place → Db
  corrected_db db p = record db { records = cleared_one desc to n p db.records }

  one : (db : Db) (c d : Content) (p : Place) (b : Bool) → RecordsStand desc db own c → AltersIn desc p.0 p.1 (Corrected to n) c d b → RecordsStand desc (corrected_db db p) own d
  one db c d p true files h =
      let x = h.some refl in
      let is : IsSlotOf desc p.0 p.1 x.0 = record { of = record { numbered = have.numbered; at = x.1; is_set = slot_set x.0 p.1 x.2 }; sized = have.sized p.0 x.0 x.1; kinds = have.kinds p.0 x.0 x.1; low = slot_low x.0 p.1 x.2 } in
      slot_corrected desc db own c d p.0 p.1 x.0 is files to n (h.here x.0 x.1 x.2)
  one db c d p false files h = by (get db.records p) refl
    where
      still : RecordsStand desc db own d
      still = subst (RecordsStand desc db own) (sym (h.none refl)) files

      by : (o : Option Record) → get db.records p ≡ o → RecordsStand desc (record db { records = put_opt p (corrected_opt desc to n p (get db.records p)) db.records }) own d
      by None at = subst (λ (o : Option Record). RecordsStand desc (record db { records = put_opt p (corrected_opt desc to n p o) db.records }) own d) (sym at) still
      by (Some r) at =
          let stands : is_some (get db.records p) ≡ true = ap is_some at in
          let there = slot_there desc db own c files p.0 p.1 stands in
          let next : Slot = with_values (corrected to n 0 there.shape.items there.slot.rec.values) there.slot in
          absurd (not_both (made desc db own c d have files p.0 p.1 stands (Corrected to n) next false refl h).0)

  pub corrects : (db : Db) (c d : Content) (ps : List Place) → RecordsStand desc db own c → CorrectsAll desc to n ps c d → RecordsStand desc (record db { records = cleared desc to n ps db.records }) own d
  corrects db c d [] files h = subst (RecordsStand desc db own) (sym h) files
  corrects db c d (p ∷ ps) files (e, b, a, rest) = corrects (corrected_db db p) e d ps (one db c e p b files a) rest

-- ---- what slots count doesn't change

module _ (desc : Described) (to n t m : ℕ) where
  same_links : (p : Place) (r : Record) → links_of desc t m (p, corrected_record desc to n p r) ≡ links_of desc t m (p, r)
  same_links p r =
      let items = items_of (structure_of desc p.0) in
      corrected_links to n t m 0 items items r.values (λ j. let e : 0 + j ≡ j = omega arith in ap (slice_get items) e)

  still_sum : (f : Place × Record → ℕ) → ((p : Place) (r : Record) → f (p, corrected_record desc to n p r) ≡ f (p, r)) → (p : Place) (records : Records)
      → sum_by f (entries (cleared_one desc to n p records)) ≡ sum_by f (entries records)
  still_sum f same p records = by (get records p) refl
    where
      by : (o : Option Record) → get records p ≡ o → sum_by f (entries (put_opt p (corrected_opt desc to n p o) records)) ≡ sum_by f (entries records)
      by None at = refl
      by (Some r) at =
          let sum = insert_sum f p (corrected_record desc to n p r) records in
          let was : of_opt (λ x. f (p, x)) (get records p) ≡ f (p, r) = ap (of_opt (λ x. f (p, x))) at in
          let now = same p r in
          omega (arith, sum, was, now)

  all_sum : (f : Place × Record → ℕ) → ((p : Place) (r : Record) → f (p, corrected_record desc to n p r) ≡ f (p, r)) → (ps : List Place) (records : Records)
      → sum_by f (entries (cleared desc to n ps records)) ≡ sum_by f (entries records)
  all_sum f same [] records = refl
  all_sum f same (p ∷ ps) records = all_sum f same ps (cleared_one desc to n p records) ∙ still_sum f same p records

  pub counted_cleared : (db : Db) (ps : List Place) → counted_in desc (record db { records = cleared desc to n ps db.records }) t m ≡ counted_in desc db t m
  unfolding counted_in
  counted_cleared db ps = all_sum (links_of desc t m) same_links ps db.records

  pub owned_cleared : (db : Db) (ps : List Place) → owned_in desc (record db { records = cleared desc to n ps db.records }) t m ≡ owned_in desc db t m
  unfolding owned_in
  owned_cleared db ps = ap (λ k. k + count_by (owns_entry desc t m) db.entries) (all_sum (owners_of desc t m) (λ p r. refl) ps db.records)

-- The slots have the records of the database in which those at these places were corrected, and count what it counts.
pub record AreCleared (desc : Described) (db : Db) (own : Tally) (d : Content) (to n : ℕ) (ps : List Place) : Type 0 where
  pub files : RecordsStand desc (record db { records = cleared desc to n ps db.records }) own d
  pub counts : Counts desc (record db { records = cleared desc to n ps db.records }) own

abbrev pub ClearsLinksOf : Described → Db → Tally → Content → Content → ℕ → ℕ → List Place → Type 0
ClearsLinksOf desc db own c d to n ps = HaveSlotFiles desc → RecordsStand desc db own c → Counts desc db own → CorrectsAll desc to n ps c d → AreCleared desc db own d to n ps

pub are_cleared : (desc : Described) (db : Db) (own : Tally) (c d : Content) (to n : ℕ) (ps : List Place) → ClearsLinksOf desc db own c d to n ps
are_cleared desc db own c d to n ps have files counts h = record {
  files = corrects desc have own to n db c d ps files h;
  counts = record {
    counted = λ t m one. counts.counted t m one ∙ sym (counted_cleared desc to n t m db ps);
    owned = λ t m one. counts.owned t m one ∙ sym (owned_cleared desc to n t m db ps);
  };
}
