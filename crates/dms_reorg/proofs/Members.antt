-- The members of the sets and subsets of a database, under a description that extends its own.
use Rattle.std.proofs.Common.{◌≡◌, ◌∙◌, ◌++◌, ◌==◌, ℕ, List, [], ◌∷◌, Bool, true, false, cond, nat_lt, Some, None, refl, sym, ap, subst, length, map, option_map, arith}
use Rattle.std.specs.Cmp.Lexicographic.{nat_list_cmp_total}
use Rattle.std.specs.FinMap.{entries, get, keys, same_map}
use Rattle.std.specs.List.{AllByRecursion}
use Rattle.std.specs.declared.option.Option.{Option}
use Rattle.std.proofs.lemmas.Bool.Decides.{nat_tests}
use Rattle.dms_base.specs.declared.kind.ItemKind.{ItemKind}
use Rattle.dms_chain.specs.Lists.{ByteSet, bytes_same}
use Rattle.dms_desc.specs.declared.record.Record.{Record}
use Rattle.dms_desc.specs.declared.structure.Item.{Item}
use Rattle.dms_desc.specs.Kinds.{over}
use Rattle.dms_desc.specs.Lookups.{items_of, structure_of}
use Rattle.dms_desc.specs.Shape.{Described, Shape}
use Rattle.dms_manual.specs.Entered.{IsSmallPair, as_member, entered, entered_get, manual_of, member_entry, place_told}
use Rattle.dms_manual.specs.Moves.{SmallIn, small_places, told}
use Rattle.dms_model.specs.Db.{Db, Place, SubsetEntry}
use Rattle.dms_model.specs.Uses.{has_entry}
use Rattle.dms_model.specs.Valid.{is_data_set}
use Rattle.dms_sets.specs.Entries.{kinds_of}
use Rattle.dms_sets.specs.Listing.{lists_members, listing, member_opt, test_of, with_opt}
use Rattle.dms_sets.specs.Padded.{entry_width}
use Rattle.dms_sets.specs.Sets.{entries_of, entry_of, items_over, kinds_over}
use Rattle.dms_spelling.specs.Serving.{IsServedSet}
use Rattle.dms_reorg.specs.Extended.{extended, extended_record, extended_row, first_values, further}
use Rattle.dms_reorg.specs.Extends.{KeepsStructure}
use Rattle.dms_reorg.specs.Laws.{StandsIn}
use Rattle.dms_reorg.specs.RefusalLaws.{Growth}
use Rattle.dms_reorg.specs.Rewritten.{MayBecome}
use Rattle.dms_reorg.proofs.Extended.{entries_stay, extends_gives, items_are, rows_extended}
use Rattle.dms_reorg.proofs.Growing.{each_grows}
use Rattle.dms_reorg.proofs.Looking.{set_looks}
use Rattle.dms_reorg.proofs.Prefixes.{LooksWithin, entry_bytes_front, entry_front, width_front}

-- a record has as many values as its data set has items
abbrev pub HasValues : Described → Place × Record → Type 0
HasValues desc e = length e.1.values ≡ length (items_of (structure_of desc e.0.0))

abbrev pub HaveValues : Described → Db → Type 0
HaveValues desc db = AllByRecursion (HasValues desc) (entries db.records)

kinds_both : (a b : List Item) → kinds_of (a ++ b) ≡ kinds_of a ++ kinds_of b
kinds_both [] b = refl
kinds_both (i ∷ a) b = ap (λ (ks : List ItemKind). i.kind ∷ ks) (kinds_both a b)

kinds_long : (a : List Item) → length (kinds_of a) ≡ length a
kinds_long [] = refl
kinds_long (i ∷ a) = let rest = kinds_long a in omega (arith, rest)

over_is : (s : Shape) → nat_lt 2 s.kind ≡ true → over s ≡ s.set
over_is s high = grind (arith, nat_tests, high)

there_of : (desc : Described) (n : ℕ) → is_data_set (structure_of desc n) ≡ true → (s : Shape) × (structure_of desc n ≡ Some s)
there_of desc n h = by (structure_of desc n) refl h
  where
    by : (o : _) → structure_of desc n ≡ o → is_data_set o ≡ true → (s : Shape) × (structure_of desc n ≡ Some s)
    by None e is = absurd (cc)
    by (Some s) e is = (s, e)

same_value : (a b : ℕ) → (a == b) ≡ true → a ≡ b
same_value a b h = grind (arith, nat_tests, h)

-- A set or subset that was there, and what it is in the new description.
module _ (old new : Described) (may : MayBecome old new) (n : ℕ) (s t : Shape) (was : structure_of old n ≡ Some s) (keeps : KeepsStructure s t) (high : nat_lt 2 s.kind ≡ true) (own : IsServedSet old s) where
  growth : Growth old new
  growth = each_grows old new may.well_then may.extends

  over_same : over t ≡ over s
  over_same = ap (λ (x : Shape). over x) keeps.same

  stands_over : StandsIn old new (over s)
  stands_over =
      let there = there_of old s.set own.data_set in
      subst (StandsIn old new) (sym (over_is s high)) (growth.stand s.set there.0 there.1)

  abbrev more_kinds : List ItemKind
  more_kinds = kinds_of (further old new (over s))

  kinds_are : kinds_over new t ≡ kinds_over old s ++ more_kinds
  kinds_are =
      ap (λ m. kinds_of (items_of (structure_of new m))) over_same
      ∙ ap (λ (l : List Item). kinds_of l) (items_are old new (over s) stands_over)
      ∙ kinds_both (items_of (structure_of old (over s))) (further old new (over s))

  looks_items : LooksWithin (length (items_over old s)) s
  looks_items = set_looks old may.well n s was high own.named.items

  looks : LooksWithin (length (kinds_over old s)) s
  looks = subst (λ k. LooksWithin k s) (sym (kinds_long (items_over old s))) looks_items

  parts_same : t.parts ≡ s.parts
  parts_same = ap (λ (x : Shape). x.parts) keeps.same

  -- its entries are as wide
  pub width_same : entry_width (kinds_over new t) t.parts ≡ entry_width (kinds_over old s) s.parts
  width_same =
      ap (λ ps. entry_width (kinds_over new t) ps) parts_same ∙ ap (λ ks. entry_width ks s.parts) kinds_are
      ∙ width_front (kinds_over old s) more_kinds s.parts looks.parts

  values_within : (k : Place) (r : Record) → HasValues old (k, r) → over s ≡ k.0 → LooksWithin (length r.values) s
  values_within k r long is = subst (λ m. LooksWithin m s) (ap (λ j. length (items_of (structure_of old j))) is ∙ sym long) looks_items

  -- a record has the entry that it had
  entry_same : (e : Place × Record) → HasValues old e → entry_of (kinds_over new t) t e.0 (extended_record old new e.0.0 e.1) ≡ entry_of (kinds_over old s) s e.0 e.1
  entry_same e long =
      let r = extended_record old new e.0.0 e.1 in
      ap (λ (x : Shape). entry_of (kinds_over new t) x e.0 r) keeps.same
      ∙ ap (λ (ks : List ItemKind). entry_of ks s e.0 r) kinds_are
      ∙ entry_front (kinds_over old s) more_kinds s e.0 e.1 (first_values (further old new e.0.0)) (λ is. (looks, values_within e.0 e.1 long (same_value (over s) e.0.0 is)))

  listing_same : (es : List (Place × Record)) → AllByRecursion (HasValues old) es → listing (entry_of (kinds_over new t) t) (map (extended_row old new) es) ≡ listing (entry_of (kinds_over old s) s) es
  listing_same [] all = refl
  listing_same (e ∷ es) all =
      let one = entry_same e all.0 in
      let rest = listing_same es all.1 in
      λ i. with_opt (one i) (rest i)

  -- So the entries of a set or automatic subset are those that it had,
  pub entries_same : (db : Db) → HaveValues old db → entries_of new (extended old new db) t ≡ entries_of old db s
  entries_same db all =
      ap (λ (es : List (Place × Record)). keys (listing (entry_of (kinds_over new t) t) es)) (rows_extended old new db)
      ∙ ap (λ (x : ByteSet). keys x) (listing_same (entries db.records) all)

  number_same : t.number ≡ s.number
  number_same = ap (λ (x : Shape). x.number) keeps.same

  set_same : t.set ≡ s.set
  set_same = ap (λ (x : Shape). x.set) keeps.same

  module _ (db : Db) (all : (k : Place) (r : Record) → get db.records k ≡ Some r → HasValues old (k, r)) where
    abbrev made : Db
    made = extended old new db

    member_same : (k : Place) (r : Record) → HasValues old ((s.set, k.1), r) → member_entry (kinds_over new t) t k (extended_record old new s.set r) ≡ member_entry (kinds_over old s) s k r
    member_same k r long =
        let more = first_values (further old new s.set) in
        let within : LooksWithin (length r.values) s = values_within (s.set, k.1) r long (over_is s high) in
        ap (λ (x : Shape). member_entry (kinds_over new t) x k (extended_record old new s.set r)) keeps.same
        ∙ ap (λ (ks : List ItemKind). member_entry ks s k (extended_record old new s.set r)) kinds_are
        ∙ ap (λ (bytes : List ℕ). Some bytes) (entry_bytes_front (kinds_over old s) more_kinds r.values more s.parts k.0 k.1 looks.parts within.parts)

    as_same : (k : Place) (o : Option Record) → get db.records (s.set, k.1) ≡ o
        → member_opt (member_entry (kinds_over new t) t) k (as_member k.0 (option_map (extended_record old new s.set) o)) ≡ member_opt (member_entry (kinds_over old s) s) k (as_member k.0 o)
    as_same k None at = refl
    as_same k (Some r) at = member_same k (record r { owner = k.0 }) (all (s.set, k.1) r at)

    named_same : (k : Place) (b : Bool)
        → member_opt (member_entry (kinds_over new t) t) k (cond b (as_member k.0 (option_map (extended_record old new s.set) (get db.records (s.set, k.1)))) None)
        ≡ member_opt (member_entry (kinds_over old s) s) k (cond b (as_member k.0 (get db.records (s.set, k.1))) None)
    named_same k true = as_same k (get db.records (s.set, k.1)) refl
    named_same k false = refl

    entry_there : (o m : ℕ) → has_entry made t.number o m ≡ has_entry db s.number o m
    entry_there o m =
        ap (λ j. has_entry made j o m) number_same
        ∙ ap (λ (es : List SubsetEntry). has_entry (record { records = made.records; entries = es }) s.number o m) (entries_stay old new db)

    found_same : (k : Place) → get (entered t made) k ≡ cond (has_entry db s.number k.0 k.1) (as_member k.0 (option_map (extended_record old new s.set) (get db.records (s.set, k.1)))) None
    found_same k =
        entered_get t made k.0 k.1
        ∙ ap (λ b. cond b (as_member k.0 (get made.records (t.set, k.1))) None) (entry_there k.0 k.1)
        ∙ ap (λ j. cond (has_entry db s.number k.0 k.1) (as_member k.0 (get made.records (j, k.1))) None) set_same
        ∙ ap (λ o. cond (has_entry db s.number k.0 k.1) (as_member k.0 o) None) (extends_gives old new db (s.set, k.1))

    entered_same : (k : Place) → member_opt (member_entry (kinds_over new t) t) k (get (entered t made) k) ≡ member_opt (member_entry (kinds_over old s) s) k (get (entered s db) k)
    entered_same k =
        ap (member_opt (member_entry (kinds_over new t) t) k) (found_same k) ∙ named_same k (has_entry db s.number k.0 k.1)
        ∙ ap (member_opt (member_entry (kinds_over old s) s) k) (sym (entered_get s db k.0 k.1))

    -- and so are those of a manual subset.
    pub manual_same : SmallIn s db → manual_of new made t ≡ manual_of old db s
    manual_same small =
        let low : SmallIn t made = record { each = λ o m has. small.each o m (sym (entry_there o m) ∙ has) } in
        ap (λ (x : ByteSet). keys x)
        (same_map nat_list_cmp_total bytes_same _ _ (λ q.
        lists_members (member_entry (kinds_over new t) t) place_told IsSmallPair (told (kinds_over new t) t) (entered t made) (small_places t made low) q
        ∙ ap (test_of q) (entered_same (place_told q))
        ∙ sym (lists_members (member_entry (kinds_over old s) s) place_told IsSmallPair (told (kinds_over old s) s) (entered s db) (small_places s db small) q)))
