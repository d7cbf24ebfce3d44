-- Records that differ in links alone have the same lists: those of sets and those of manual subsets.
use Rattle.std.proofs.Common.{◌≡◌, ◌∙◌, ℕ, List, [], ◌∷◌, Bool, true, false, cond, Some, None, refl, sym, ap, subst, arith}
use Rattle.std.specs.Prelude.{◌==◌, is_some}
use Rattle.std.specs.List.{AllByRecursion}
use Rattle.std.specs.declared.option.Option.{Option}
use Rattle.std.specs.Cmp.Lexicographic.{nat_list_cmp_total}
use Rattle.std.specs.FinMap.{entries, get, keys, same_map}
use Rattle.std.proofs.lemmas.Bool.Decides.{nat_tests}
use Rattle.dms_base.specs.declared.kind.ItemKind.{ItemKind}
use Rattle.dms_block.specs.Content.{Content}
use Rattle.dms_chain.specs.Lists.{ByteSet, bytes_same}
use Rattle.dms_desc.specs.Kinds.{over}
use Rattle.dms_desc.specs.Lookups.{items_of, over_of, structure_of}
use Rattle.dms_desc.specs.Shape.{Shape, Described}
use Rattle.dms_desc.specs.declared.record.Record.{Record}
use Rattle.dms_desc.specs.declared.structure.Item.{Item}
use Rattle.dms_desc_bytes.specs.Finding.{owner_in as owner_of}
use Rattle.dms_links.specs.Cleared.{cleared, cleared_get, corrected_opt, is_place_of}
use Rattle.dms_manual.specs.Entered.{IsSmallPair, as_member, entered, entered_get, manual_of, member_entry, place_told}
use Rattle.dms_manual.specs.Moves.{SmallIn, all_places, small_places, told}
use Rattle.dms_model.specs.Db.{Db, Place, Records, SubsetEntry}
use Rattle.dms_model.specs.Uses.{has_entry}
use Rattle.dms_model.specs.Valid.{EntryStands, is_manual, owner_stands}
use Rattle.dms_sets.specs.Alike.{AreAlike, corrected_alike, entry_alike, key_alike}
use Rattle.dms_sets.specs.Entries.{entry_bytes}
use Rattle.dms_sets.specs.Listing.{AllPlaces, lists_members, member_opt, test_of}
use Rattle.dms_sets.specs.Sets.{IsSmall, entry_of, items_over, kinds_over, listed_in, own_entry, place_in_entry}
use Rattle.dms_sets.specs.Spots.{RecordsHaveSpots}
use Rattle.dms_sets.specs.Stored.{NamesNoLinks}
use Rattle.dms_spelling.specs.After.{ListsAre}
use Rattle.dms_spelling.specs.Serving.{IsServed}
use Rattle.dms_spelling.specs.ServingLaws.{manual_at, set_at}
use Rattle.dms_spelling.specs.Stands.{EntriesStand}

-- ---- definitions

-- two records differ in links alone, or there is none twice
abbrev pub OptAlike : List Item → Option Record → Option Record → Type 0
OptAlike items None None = Unit {0}
OptAlike items None (Some r) = ⊥
OptAlike items (Some q) None = ⊥
OptAlike items (Some q) (Some r) = (q.owner ≡ r.owner) × AreAlike items q.values r.values

-- and so do all records
abbrev pub AreAlikeIn : Described → Records → Records → Type 0
AreAlikeIn desc m n = (p : Place) → OptAlike (items_of (structure_of desc p.0)) (get m p) (get n p)

pub alike_same : (items : List Item) (o : Option Record) → OptAlike items o o
alike_same items None = tt
alike_same items (Some r) = (refl, λ j off. refl)

-- ---- one set

member_alike : (kinds : List ItemKind) (items : List Item) (s : Shape) (k : Place) (x y : Option Record) → NamesNoLinks items s → OptAlike items x y → member_opt (entry_of kinds s) k x ≡ member_opt (entry_of kinds s) k y
member_alike kinds items s k None None none same = refl
member_alike kinds items s k None (Some r) none same = absurd same
member_alike kinds items s k (Some q) None none same = absurd same
member_alike kinds items s k (Some q) (Some r) none same =
    entry_alike kinds items s k q.owner q.values r.values none same.1 ∙ ap (λ o. entry_of kinds s k (record { owner = o; values = r.values })) same.0

pub sets_alike : (desc : Described) (s : Shape) (m n : Records) → NamesNoLinks (items_over desc s) s → AllPlaces IsSmall (entries m) → AllPlaces IsSmall (entries n) → AreAlikeIn desc m n
    → keys (listed_in (kinds_over desc s) s m) ≡ keys (listed_in (kinds_over desc s) s n)
sets_alike desc s m n none low small alike =
    let kinds = kinds_over desc s in
    ap (λ (x : ByteSet). keys x)
    (same_map nat_list_cmp_total bytes_same _ _ (λ q.
    lists_members (entry_of kinds s) (place_in_entry s) IsSmall (own_entry kinds s) m low q
    ∙ ap (test_of q) (member_alike kinds (items_over desc s) s (place_in_entry s q) (get m (place_in_entry s q)) (get n (place_in_entry s q)) none (alike (place_in_entry s q)))
    ∙ sym (lists_members (entry_of kinds s) (place_in_entry s) IsSmall (own_entry kinds s) n small q)))

-- ---- one manual subset

over_manual : (s : Shape) → is_manual (Some s) ≡ true → over s ≡ s.set
over_manual s h = grind (arith, nat_tests, h)

module _ (desc : Described) (s : Shape) (db : Db) (m : Records) (none : NamesNoLinks (items_of (structure_of desc s.set)) s) (alike : AreAlikeIn desc m db.records) where
  abbrev d : Db
  d = record db { records = m }

  abbrev kinds : List ItemKind
  kinds = kinds_over desc s

  as_alike : (k : Place) (x y : Option Record) → OptAlike (items_of (structure_of desc s.set)) x y → member_opt (member_entry kinds s) k (as_member k.0 x) ≡ member_opt (member_entry kinds s) k (as_member k.0 y)
  as_alike k None None same = refl
  as_alike k None (Some r) same = absurd same
  as_alike k (Some q) None same = absurd same
  as_alike k (Some q) (Some r) same = ap (λ key. Some (entry_bytes kinds s.parts k.0 key k.1)) (key_alike (items_of (structure_of desc s.set)) q.values r.values same.1 s.parts none.parts)

  named_alike : (k : Place) (b : Bool) → member_opt (member_entry kinds s) k (cond b (as_member k.0 (get m (s.set, k.1))) None) ≡ member_opt (member_entry kinds s) k (cond b (as_member k.0 (get db.records (s.set, k.1))) None)
  named_alike k true = as_alike k (get m (s.set, k.1)) (get db.records (s.set, k.1)) (alike (s.set, k.1))
  named_alike k false = refl

  entered_alike : (k : Place) → member_opt (member_entry kinds s) k (get (entered s d) k) ≡ member_opt (member_entry kinds s) k (get (entered s db) k)
  entered_alike k =
      ap (member_opt (member_entry kinds s) k) (entered_get s d k.0 k.1) ∙ named_alike k (has_entry db s.number k.0 k.1) ∙ ap (member_opt (member_entry kinds s) k) (sym (entered_get s db k.0 k.1))

  pub manual_alike : SmallIn s db → manual_of desc d s ≡ manual_of desc db s
  manual_alike small =
      let low : SmallIn s d = record { each = λ o n h. small.each o n h } in
      ap (λ (x : ByteSet). keys x)
      (same_map nat_list_cmp_total bytes_same _ _ (λ q.
      lists_members (member_entry kinds s) place_told IsSmallPair (told kinds s) (entered s d) (small_places s d low) q
      ∙ ap (test_of q) (entered_alike (place_told q))
      ∙ sym (lists_members (member_entry kinds s) place_told IsSmallPair (told kinds s) (entered s db) (small_places s db small) q)))

-- ---- all of them

alike_some : (items : List Item) (x y : Option Record) (r : Record) → OptAlike items x y → x ≡ Some r → (q : Record) × (y ≡ Some q)
alike_some items None y r same at = absurd (cc at)
alike_some items (Some p) None r same at = absurd same
alike_some items (Some p) (Some q) r same at = (q, refl)

some_alike : (items : List Item) (x y : Option Record) → OptAlike items x y → is_some y ≡ true → is_some x ≡ true
some_alike items None None same h = h
some_alike items None (Some r) same h = absurd same
some_alike items (Some q) None same h = refl
some_alike items (Some q) (Some r) same h = refl

module _ (desc : Described) (served : IsServed desc) (db : Db) (m : Records) (fit : RecordsHaveSpots desc db) (small : (n : ℕ) (s : Shape) → structure_of desc n ≡ Some s → is_manual (Some s) ≡ true → SmallIn s db) (alike : AreAlikeIn desc m db.records) where
  abbrev other : Db
  other = record db { records = m }

  small_old : AllPlaces IsSmall (entries db.records)
  small_old = all_places IsSmall db.records (λ k r at. (fit k r at).small)

  small_new : AllPlaces IsSmall (entries m)
  small_new = all_places IsSmall m (λ k r at. let there = alike_some (items_of (structure_of desc k.0)) (get m k) (get db.records k) r (alike k) at in (fit k there.0 there.1).small)

  -- The lists of a database are those of one whose records differ in links alone.
  pub relisted : (c e : Content) → ListsAre desc db c e → ListsAre desc other c e
  relisted c e lists = record {
    kept = λ n s at kept.
        let one = lists.kept n s at kept in
        (one.0 ∙ ap (λ (xs : List (List ℕ)). Some xs) (sym (sets_alike desc s m db.records (set_at desc n s served at kept).named.links small_new small_old alike)), one.1);
    manual = λ n s at manual.
        let one = lists.manual n s at manual in
        let none = subst (λ k. NamesNoLinks (items_of (structure_of desc k)) s) (over_manual s manual) (manual_at desc n s served at manual).named.links in
        (one.0 ∙ ap (λ (xs : List (List ℕ)). Some xs) (sym (manual_alike desc s db m none alike (small n s at manual))), one.1);
    still = lists.still;
  }

-- ---- entries of a database whose records stand

owner_keeps : (a b : Records) (t n : ℕ) → (is_some (get a (t, n)) ≡ true → is_some (get b (t, n)) ≡ true) → owner_stands a t n ≡ true → owner_stands b t n ≡ true
owner_keeps a b t n keeps h = by (t == 0) h
  where
    by : (z : Bool) → cond z (n == 0) (is_some (get a (t, n))) ≡ true → cond z (n == 0) (is_some (get b (t, n))) ≡ true
    by true k = k
    by false k = keeps k

module _ (desc : Described) (db : Db) (m : Records) (keeps : (p : Place) → is_some (get db.records p) ≡ true → is_some (get m p) ≡ true) where
  entry_keeps : (e : SubsetEntry) → EntryStands desc db e → EntryStands desc (record db { records = m }) e
  entry_keeps e h = record {
    manual = h.manual;
    member = keeps (over_of (structure_of desc e.subset), e.number) h.member;
    owner = owner_keeps db.records m (owner_of (structure_of desc e.subset)) e.owner (keeps (owner_of (structure_of desc e.subset), e.owner)) h.owner;
  }

  all_keep : (es : List SubsetEntry) → AllByRecursion (EntryStands desc db) es → AllByRecursion (EntryStands desc (record db { records = m })) es
  all_keep [] all = tt
  all_keep (e ∷ es) all = (entry_keeps e all.0, all_keep es all.1)

  -- Where each record stands that stood, entries stand as they did.
  pub entries_keep : EntriesStand desc db → EntriesStand desc (record db { records = m })
  entries_keep stand = record { each = all_keep db.entries stand.each; rising = stand.rising; few = stand.few }

pub alike_keeps : (desc : Described) (m n : Records) → AreAlikeIn desc m n → (p : Place) → is_some (get n p) ≡ true → is_some (get m p) ≡ true
alike_keeps desc m n alike p h = some_alike (items_of (structure_of desc p.0)) (get m p) (get n p) (alike p) h

-- ---- links made null

module _ (desc : Described) (to number : ℕ) where
  corrected_one : (p : Place) (b : Bool) (o : Option Record) → OptAlike (items_of (structure_of desc p.0)) (cond b (corrected_opt desc to number p o) o) o
  corrected_one p true None = tt
  corrected_one p true (Some r) = (refl, corrected_alike to number (items_of (structure_of desc p.0)) r.values)
  corrected_one p false o = alike_same (items_of (structure_of desc p.0)) o

  pub cleared_alike : (ps : List Place) (m : Records) → AreAlikeIn desc (cleared desc to number ps m) m
  cleared_alike ps m p = subst (λ (o : Option Record). OptAlike (items_of (structure_of desc p.0)) o (get m p)) (sym (cleared_get desc to number ps m p)) (corrected_one p (is_place_of p ps) (get m p))
